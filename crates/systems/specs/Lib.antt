-- What is read first: Boxes, what the steps of a search promise. BoxLaws are laws of it.
pub mod BoxLaws
pub mod Boxes
