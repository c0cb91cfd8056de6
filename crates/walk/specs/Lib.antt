-- Walked is what the code does, step by step; CodedWalk.sweep_coded says that the whole is concrete/Walk.sweep_at. Coded and CodedSteps
-- serve this.
pub mod Coded
pub mod CodedSteps
pub mod Walked
