-- What is read first: Largest, where the code saturates. Sums has the laws of what fits then.
pub mod Largest
pub mod Sums
