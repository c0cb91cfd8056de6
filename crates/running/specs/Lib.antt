-- Tasks has parts and rules whose numbers stand in cells, Asks what a guard asks at a phase; Working and Turning are laws of what a part's
-- tests change there.
pub mod Asks
pub mod Tasks
pub mod Turning
pub mod Working
