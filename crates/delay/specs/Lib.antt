-- Delayed has waits and resets on a matrix and on zones; InPlace laws of matrices that are changed where they stand.
pub mod Delayed
pub mod InPlace
