-- Cap is where counts end; Halves is a range in two.
pub mod Cap
pub mod Halves
