-- What is read first: Affine (expressions), Bounds and Ranges, for any number of parameters; then Records, which says how the code's
-- records stand for them. TestBySum is request (e); Laws are laws of these.
pub mod Affine
pub mod Bounds
pub mod Laws
pub mod Ranges
pub mod TestBySum
pub mod Records
pub mod RecordLaws
