-- What is read first: Records, the code's records of zones; and for one guard on one zone Counts and OneGuard. CodedWalk says that the
-- whole route on them (crate windows_route, specs/Walked) is the cutting; CodedRead reads the records back; Coded, CodedTests, CodedTree
-- and CodedGuard serve it.
pub mod Coded
pub mod CodedGuard
pub mod CodedRead
pub mod CodedTests
pub mod CodedTree
pub mod CodedWalk
pub mod Counts
pub mod OneGuard
pub mod OneGuardProof
pub mod Records
