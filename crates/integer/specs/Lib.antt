-- Integers for proofs: `Split` decides what is linear over ℤ, `Parts` does the same inside larger proofs; `Order`, `Product` and `Floor`
-- are laws; `Bits` reads a signed local, `Bools` are laws of tests, `Apart` refutes.
pub mod Apart
pub mod Bits
pub mod Bools
pub mod Floor
pub mod Order
pub mod Parts
pub mod Product
pub mod Split
