-- What is read first: SheetIn, the sheet of an index. Listed has the law of a list by number, SheetLaws that of an entry by number.
pub mod Listed
pub mod SheetIn
pub mod SheetLaws
