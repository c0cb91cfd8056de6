-- A part of a zone, test by test.
pub mod Numbers
pub mod Parts
