-- What is read first, definitions and statements only: Reply (what Sweep replies to every file and valuation) and Theorems (what that is
-- worth against runs). Proofs has the theorem. TableReply is what the code does, Faithful that it is the same; ReplyLaws serves these.
pub mod Reply
pub mod Theorems
pub mod Proofs
pub mod TableReply
pub mod Faithful
pub mod ReplyLaws
