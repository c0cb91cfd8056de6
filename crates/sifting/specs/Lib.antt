-- Sifting is which inequalities may be left out of a count.
pub mod Sifting
