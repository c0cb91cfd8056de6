-- What is read first: Sizes, definitions and the statement. Traces says where an entry's bound comes from; the rest serves SizesProof.
pub mod Sizes
pub mod SizeLaws
pub mod Traces
pub mod Through
pub mod GuardTraced
