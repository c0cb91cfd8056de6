-- Difference bound matrices. What is read first: Matrix, with the rules, the states and what the theorems say. The theorems: in proofs/
-- Guard, Delay and Reset (what each rule does to the states), here State (a closed matrix has one), in proofs/ Tight (its entries are
-- reached) and Size (how large its numbers grow). Weights, Entries and Density serve them.
pub mod Density
pub mod Entries
pub mod Guard
pub mod Matrix
pub mod Size
pub mod State
pub mod Weights
