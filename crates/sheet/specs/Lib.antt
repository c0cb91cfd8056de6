-- What is read first: WellFormed, what holds of every sheet that is read; then Lookup.
pub mod WellFormed
pub mod Lookup
