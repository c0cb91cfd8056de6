-- A guard (paper 01: a limit) on a matrix: the ways by it. What it does is in Matrix, and what is proved of it in proofs/Guard.
use Rattle.std.specs.Prelude.{◌≡◌, ◌⊎◌, true, ℕ, ℤ}
use Rattle.weight.specs.Upper.{Upper, sum_w, tighter_w}
use Rattle.dbm.specs.Matrix.{Matrix, limited_m}

-- the guard's way from clock k to clock l
abbrev pub way : ℕ → ℕ → Upper ℤ → Matrix (Upper ℤ) → Matrix (Upper ℤ)
way i j e m k l = sum_w (sum_w (m k i) e) (m j l)

-- an entry after the guard is the way by the guard, where that is tighter, or stays
abbrev pub Which : ℕ → ℕ → ℕ → Upper ℤ → Matrix (Upper ℤ) → ℕ → ℕ → Type 0
Which w i j e m k l =
    ((limited_m w i j e m k l ≡ way i j e m k l) × (tighter_w (way i j e m k l) (m k l) ≡ true)) ⊎ (limited_m w i j e m k l ≡ m k l)
