-- What is read first: Reply, which is what Windows answers. Work is what the code does; Coded says that it is the cutting.
pub mod Coded
pub mod Reply
pub mod Work
