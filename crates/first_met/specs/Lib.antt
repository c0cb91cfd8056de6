-- Solutions is what the code answers; Halves, why a box may be searched part by part.
pub mod Solutions
pub mod Halves
