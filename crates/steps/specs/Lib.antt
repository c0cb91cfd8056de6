-- Steps says what steps make of zones, Taken what they make of one that is taken up, in cells; Places has laws of lists with one place
-- changed.
pub mod Places
pub mod Steps
pub mod Taken
