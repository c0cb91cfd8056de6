-- Halves has the two parts of a split, with laws in HalfLaws.
pub mod HalfLaws
pub mod Halves
