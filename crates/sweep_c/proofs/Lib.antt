-- A law that the proof of the entry cites.
pub mod Numbers
