-- What is read first: Lines (inequalities in two parameters) and Parts (the part of one range where inequalities hold); LastLaws and
-- RowLaws are laws of these.
pub mod LastLaws
pub mod Lines
pub mod Parts
pub mod RowLaws
