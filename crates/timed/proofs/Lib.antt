-- What is proved of the definitions in specs/.
pub mod Right
pub mod Visits
pub mod ArrivalsProof
pub mod Unique
