-- Siblings are two zones that a split has made of one.
pub mod Siblings
