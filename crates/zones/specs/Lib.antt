-- Zone has the records, Settled a test on a zone, System inequalities as a flat list of numbers, with laws in Put and FlatLaws;
-- Hinted what is known of a zone before its tests, with laws in Fits.
pub mod Fits
pub mod FlatLaws
pub mod Hinted
pub mod Put
pub mod Settled
pub mod System
pub mod Zone
