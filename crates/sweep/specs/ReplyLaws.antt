-- Refusal 6 and the ranges: no parameter is outside exactly if the valuation lies in the ranges.
use Rattle.std.specs.Prelude.{◌≡◌, refl, List, [], ◌∷◌, Bool, true, false, cond, ℕ, suc, ℤ}
use Rattle.std.proofs.Math.Option.{Option, none, some}
use Rattle.std.specs.Int.Signed.{le_z}
use Rattle.integer.specs.Apart.{apart}
use Rattle.expr.specs.Ranges.{In, Inside}
use Rattle.expr.specs.declared.range.Range.{Range}
use Rattle.integer.specs.Bools.{and_left, and_right, and_both}
use Rattle.integer.specs.Order.{le_z_true, true_le_z}
use Rattle.sweep.specs.Reply.{in_range, outside}

-- ---- one number
pub in_range_lem : (r : Range) (x : ℤ) → in_range r x ≡ true → In x r
in_range_lem r x h =
    record {
      least = le_z_true (and_left (le_z r.low x) (le_z x r.high) h);
      most = le_z_true (and_right (le_z r.low x) (le_z x r.high) h);
    }

pub range_in : (r : Range) (x : ℤ) → In x r → in_range r x ≡ true
range_in r x h = and_both (le_z r.low x) (le_z x r.high) (true_le_z h.least) (true_le_z h.most)

-- ---- all of them
some_none : {A : Type 0} {a : A} → ◌≡◌ {A = Option A} (some a) none → ⊥
some_none e = apart cc

pub outside_none : (k : ℕ) (rs : List Range) (v : List ℤ) → outside k rs v ≡ none → Inside v rs
unfolding outside
outside_none k [] [] e = tt
outside_none k [] (x ∷ v) e = some_none e
outside_none k (r ∷ rs) [] e = some_none e
outside_none k (r ∷ rs) (x ∷ v) e = by (in_range r x) refl e (outside_none (suc k) rs v)
  where
    by : (b : Bool) → in_range r x ≡ b → cond b (outside (suc k) rs v) (some k) ≡ none
        → (outside (suc k) rs v ≡ none → Inside v rs) → In x r × Inside v rs
    by true h g ih = (in_range_lem r x h, ih g)
    by false h g ih = absurd (some_none g)

pub inside_none : (k : ℕ) (rs : List Range) (v : List ℤ) → Inside v rs → outside k rs v ≡ none
unfolding outside
inside_none k [] [] h = refl
inside_none k [] (x ∷ v) h = absurd h
inside_none k (r ∷ rs) [] h = absurd h
inside_none k (r ∷ rs) (x ∷ v) h = rw (range_in r x h.0) (inside_none (suc k) rs v h.1)
