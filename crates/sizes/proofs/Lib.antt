-- The proof of what specs/Sizes states.
pub mod StepsTraced
pub mod SizesProof
