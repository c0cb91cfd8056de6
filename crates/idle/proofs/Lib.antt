-- Why it leaves the zone.
pub mod Leaves
