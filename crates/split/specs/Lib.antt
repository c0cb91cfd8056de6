-- Guarded says what one guard leaves of zones in order; Listed and Trees are its parts. Laws: Runs, of a part on its way; Stack, of the
-- parts that are still to be worked on; Turns, of one turn on its way.
pub mod Guarded
pub mod Listed
pub mod Trees
pub mod Runs
pub mod Stack
pub mod Turns
