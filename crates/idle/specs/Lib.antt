-- Idle says what it is to leave a zone as it is.
pub mod Idle
