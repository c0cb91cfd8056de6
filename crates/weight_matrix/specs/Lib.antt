-- What is read first: Records, the code's rows of weights. Tables is what the code does to a matrix, step by step: a guard here, a wait and
-- resets in crate weight_delay. Unchanged says by three entries that a guard changes nothing.
pub mod Laws
pub mod Records
pub mod Tables
pub mod Unchanged
