-- What is read first, statements and definitions only: Words, then Demand, which has all of demand 3 in one record: Agreement (Windows
-- against Sweep and runs), Grounds (each answer exactly if its ground holds), Stored (the table) and Kept (kept and cut). First is
-- request (c), the valuation that a piece carries; Small is request (n), how large the numbers of the table are. Cases has the proved
-- rows of the paper, Bytes their files. The proofs: each X of these by XProof, Cases by Yielded; Behind is what stands behind a reply
-- that lists pieces.
pub mod Words
pub mod Demand
pub mod Agreement
pub mod Grounds
pub mod Stored
pub mod Kept
pub mod First
pub mod Small
pub mod Cases
pub mod Bytes
pub mod Behind
pub mod AgreementProof
pub mod GroundsProof
pub mod StoredProof
pub mod KeptProof
pub mod FirstProof
pub mod SmallProof
pub mod DemandProof
pub mod Yielded
