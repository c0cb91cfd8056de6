-- Inequalities as a flat list of numbers.
use Rattle.std.specs.Prelude.{◌≡◌, List, ℕ, ℤ, length}
use Rattle.inequalities.specs.Flat.{exprs_in}
pub use Rattle.inequalities.specs.Flat.{put_from, put_in}

-- a list with the same first n inequalities
pub record SameRows (n : ℕ) (l m : List ℤ) : Type 0 where
  pub long : length m ≡ length l
  pub rows : exprs_in m n ≡ exprs_in l n
