-- The cases of a segment.
pub mod Cases
pub mod SegmentLaws
