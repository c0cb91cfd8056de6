-- Accepted shows what holds of every sheet that is read.
pub mod Accepted
