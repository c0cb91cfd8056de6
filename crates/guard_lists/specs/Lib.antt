-- Listed: the guards after a count, one after another.
pub mod Listed
