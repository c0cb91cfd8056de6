-- Nogoods says what they are, and what one more makes of them.
pub mod Nogoods
