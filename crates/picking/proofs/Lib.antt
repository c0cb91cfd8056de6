-- Steps are the turns of the loops.
pub mod Steps
