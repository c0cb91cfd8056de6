-- What the zones of the cutting are worth. What is read first, statements only: Theorems (against Sweep and against runs, along the
-- sheet's own route) and Counts (kept and cut are the numbers of valuations with a run and without). The proofs: Agree compares with
-- Sweep for any steps, Along has the theorems for any route, TheoremsProof and CountsProof prove the two.
pub mod Theorems
pub mod Counts
pub mod Agree
pub mod Along
pub mod TheoremsProof
pub mod CountsProof
