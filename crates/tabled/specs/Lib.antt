-- What a call of Windows on a table by value gives.
pub mod On
