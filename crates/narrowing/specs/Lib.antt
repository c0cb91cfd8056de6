-- What is read first: Best (the most of an inequality in some ranges) and Cut (what a cut promises).
pub mod Best
pub mod Cut
