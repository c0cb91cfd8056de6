-- The proof of what specs/First states.
pub mod FirstProof
