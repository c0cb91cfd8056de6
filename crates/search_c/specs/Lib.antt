-- What is read first: Input, what the numbers of the input stand for, then Answer, what the number that comes back stands for.
pub mod Answer
pub mod Input
