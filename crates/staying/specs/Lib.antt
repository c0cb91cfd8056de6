-- What a step put to a zone where it stands comes to.
pub mod Stays
