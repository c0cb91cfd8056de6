-- What is read first: Places, where the entries of a file stand. PlacedLaws and PlaceLaws say that what is read again at the places is
-- what was read there.
pub mod Places
pub mod PlacedLaws
pub mod PlaceLaws
