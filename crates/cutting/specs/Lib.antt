-- What is read first, definitions and statements only: Cutting, which is paper 01's cutting of the ranges as one function for a step and
-- one fold, Held (which zones hold a valuation), Kept (how many valuations they hold) and FirstHeld (the first that a zone holds); then,
-- for any list of steps, Disjoint (no two zones hold a valuation), Shape (how large zones are) and Numbered (by what the cutting is
-- refused); and for one guard on one zone Ways (the zones with the tests on the way to each) and Ceiling (how many at most).
-- Works says what steps list for one valuation, Every what all zones have along the way; Comes and Listings serve these. The proof of
-- each X is XProof.
pub mod Cutting
pub mod Held
pub mod Kept
pub mod FirstHeld
pub mod Disjoint
pub mod Shape
pub mod Numbered
pub mod Ways
pub mod Ceiling
pub mod Every
pub mod Listings
