-- Cells has what numbers and marks stand for; Copies copying numbers; CellLaws what writing and copying makes of cells.
pub mod CellLaws
pub mod Cells
pub mod Copies
