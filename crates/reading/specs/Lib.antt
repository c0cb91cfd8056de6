-- What is read first: File, the whole file. Versions shows what holds of its version, and proofs/Accepted of every sheet that is read;
-- Examples are files of the paper, byte by byte.
pub mod File
pub mod Versions
pub mod Examples
