-- Body: the part that is handed out, and its refusal.
pub mod Body
