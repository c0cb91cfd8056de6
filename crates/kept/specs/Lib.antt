-- Stacks is what the stack of zones is worth, and what a step of it does; StackLaws that a step keeps its worth.
pub mod StackLaws
pub mod Stacks
