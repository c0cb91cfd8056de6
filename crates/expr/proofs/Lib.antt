-- Laws that the proofs of several functions cite.
pub mod Cases
pub mod Records
pub mod Sizes
