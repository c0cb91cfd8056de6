-- An answer of Windows as one number.
pub mod Count
