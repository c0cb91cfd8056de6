-- What is read first: Indexed, the index of a file. IndexedLaws says that it stands for the sheet.
pub mod Indexed
pub mod IndexedLaws
