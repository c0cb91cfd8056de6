-- What is read first: Valuations (satisfiability, for any number of parameters) and First (what the first valuation in order is). The
-- other files are laws of these.
pub mod First
pub mod Once
pub mod SearchLaws
pub mod Totals
pub mod Valuations
