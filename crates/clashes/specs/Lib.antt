-- What is read first: Weighted (a weighted sum of two inequalities, and what it means that they clash).
pub mod Sizes
pub mod Weighted
