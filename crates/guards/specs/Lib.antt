-- What is read first: Guards, what the bytes of a guard mean. Right is what holds of every guard that is read; proofs/GuardLaws shows it.
pub mod Guards
pub mod Right
