-- The proof of each X of specs/ is XProof; Works says what steps list for one valuation, Every what all zones have along the way; Comes
-- serves these.
pub mod Every
pub mod Comes
pub mod Works
pub mod CeilingProof
pub mod DisjointProof
pub mod FirstHeldProof
pub mod NumberedProof
pub mod ShapeProof
