-- Laws that the crates above cite: GuardLaws, a guard that was read, and a list of guards, is right.
pub mod GuardLaws
