-- The first valuation.
pub mod First
