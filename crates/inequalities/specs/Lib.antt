-- What is read first: Flat (inequalities in a list of numbers). Put has the laws of writing into one.
pub mod Flat
pub mod Put
pub mod Sizes
