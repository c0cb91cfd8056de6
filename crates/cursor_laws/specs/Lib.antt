pub mod Right
pub mod Laws
pub mod Numbers
pub mod Signed
pub mod FilledLaws
pub mod Counted
