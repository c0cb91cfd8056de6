-- What is read first: Halved (what the search answers, and the laws of its steps).
pub mod Halved
