-- What is read first: Interval (an inequality's interval). IntervalLaws says that it is exact.
pub mod Interval
pub mod IntervalLaws
