-- Walked has the whole route, on the code's records; Lists the steps of a stay and of a transition; Segments the route cut into lists of
-- steps, and SegmentLaws what is left of the route behind each.
pub mod Lists
pub mod SegmentLaws
pub mod Segments
pub mod Walked
