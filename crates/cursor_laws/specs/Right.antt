-- What is said of a number and of a counted list that were read (paper 01, "The sheet file"). Definitions only.
use Rattle.std.specs.Prelude.{ℕ, ◌≤◌, ◌<◌, ◌≡◌, List, length, get_or, ℤ, pos, negsuc, ◌≤ℤ◌}

-- -1,000 to 1,000
pub record Small (z : ℤ) : Type 0 where
  pub least : negsuc 999 ≤ℤ z
  pub most : z ≤ℤ pos 1000

-- a list of n places, of which the first `count` hold what R says and the others are blank; `d` is what is read past the end
pub record Filled {B : Type 0} (n count : ℕ) (d blank : B) (R : B → Type 0) (l : List B) : Type 0 where
  pub few : count ≤ n
  pub long : length l ≡ n
  pub each : (k : ℕ) → k < count → R (get_or l k d)
  pub past : (k : ℕ) → count ≤ k → k < n → get_or l k d ≡ blank
