-- What is read first: Pieces, which is what Windows leaves in the table. Table is what the code stores, and says that it is that.
pub mod Pieces
pub mod Table
