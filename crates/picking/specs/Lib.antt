-- What is read first: Wides (how many ranges have several numbers). AnyPlace has the count over the range at any place.
pub mod AnyPlace
pub mod Wides
