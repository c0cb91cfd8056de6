-- Opposite is what such pairs are, with its laws.
pub mod Opposite
