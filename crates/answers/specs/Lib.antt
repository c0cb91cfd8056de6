-- Numbers: each answer's number and place.
pub mod Numbers
