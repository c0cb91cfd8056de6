-- What is read first: Parameters, body 1. Right is what holds of every range that is read; ParameterLaws shows it.
pub mod Parameters
pub mod Right
pub mod ParameterLaws
