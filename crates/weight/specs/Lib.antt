-- What is read first: Upper, then Records, which says how the code's record stands for a weight. TestBySum is request (e); Laws are
-- laws of these, and Fits says what fits a width once it is saturated.
pub mod Fits
pub mod Laws
pub mod Records
pub mod TestBySum
pub mod Upper
