-- Guard, Delay and Reset: what each rule does to the states. Tight: a closed matrix's entries are reached. Size: how large its numbers grow.
pub mod Entries
pub mod Guard
pub mod Delay
pub mod Reset
pub mod Tight
pub mod Size
