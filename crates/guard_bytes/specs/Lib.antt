-- Plain: where all fields of a guard are right, its bytes are the guard.
pub mod Plain
