-- What is read first: Boxes (corners, and ranges of one number). BoxLaws are laws of these.
pub mod BoxLaws
pub mod Boxes
