-- Walking says where the walk stands, and what it comes to; Known what is known of the zones on its way; Places and Standing how all that
-- stands in cells; Ended what is left there at the end.
pub mod Ended
pub mod Fewer
pub mod Known
pub mod Places
pub mod Standing
pub mod Walking
