-- What is read first: Walk (Sweep's rules at one valuation, step by step) and Claims (what is claimed of them against runs). Proofs has
-- the theorems, Sizes why no number grows large; the others serve these.
pub mod Claims
pub mod Moves
pub mod Padding
pub mod Proofs
pub mod Route
pub mod Sizes
pub mod Steps
pub mod Walk
