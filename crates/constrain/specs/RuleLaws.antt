-- The test of a phase, from the entries that are read at its places.
use Rattle.std.specs.Prelude.{◌≡◌, Bool, List, [], ◌∷◌, ◌++◌, length}
use Rattle.std.proofs.Math.Path.{refl}
use Rattle.std.proofs.Common.{sym, ap, ◌∙◌}
use Rattle.std.proofs.Math.Bool.{true, false, cond}
use Prim.Native.Nat.{ℕ, zero, suc, ◌+◌, ◌*◌, ◌/◌, ◌%◌, ◌≤◌, min}
use native.Mathlib.Omega.{arith}
use borrow.Author.Tests.{lt-ltb, le-ltb, ltb-true, ltb-false}
use Rattle.std.proofs.Math.Dec.{ltb}
use Rattle.std.proofs.Math.ListN.{get_or, get_or-eq_default, get_or-append}
use Rattle.std.proofs.lemmas.List.{get_or_at}
use Rattle.expr.specs.Bounds.{tighter_b, saturated_b}
use Rattle.expr.specs.RecordLaws.{inside_any}
use Rattle.expr.specs.Records.{no_bound, zero_bound, none_bound, no_test}
use Rattle.expr.specs.declared.bound.Bound.{Bound}
use Rattle.constrain.specs.Rules.{sum_c, tighter_c, void_test, tight_test, via_c}
use Rattle.constrain.specs.Rules.{push_test, ask_c, places_at, framed_c, inside_c, via_at}
use Rattle.constrain.specs.declared.rule.Reads.{Reads}
use Rattle.constrain.specs.declared.rule.Rule.{Rule}

-- what is read at a place that is 25 for none
abbrev pub read_c : List Bound → ℕ → Bound
read_c m x = inside_c x (get_or m (min x 24) no_bound)

read_past : (m : List Bound) → read_c m 25 ≡ zero_bound
unfolding inside_c
read_past m = refl

module _ (m : List Bound) (long : length m ≡ 25) where
  read_is : (x : ℕ) → read_c m (min x 25) ≡ get_or m x zero_bound
  unfolding inside_c
  read_is x = by (ltb x 25) refl
    where
      by : (t : Bool) → ltb x 25 ≡ t → cond (ltb (min x 25) 25) (get_or m (min (min x 25) 24) no_bound) zero_bound ≡ get_or m x zero_bound
      by true s =
          let h = ltb-true x 25 s in
          let same : min (min x 25) 24 ≡ x = omega arith in
          rw (lt-ltb (min x 25) 25 (omega arith), same) (inside_any m x no_bound zero_bound (omega (arith, long)))
      by false s =
          let h = ltb-false x 25 s in
          rw (le-ltb (min x 25) 25 (omega arith)) (sym (get_or-eq_default m zero_bound (omega (arith, long))))

-- the same with a place behind the matrix
pub read_framed : (m : List Bound) → length m ≡ 25 → (x : ℕ) → x ≤ 25 → get_or (framed_c m) x no_bound ≡ read_c m x
unfolding framed_c inside_c
read_framed m long x h = by (ltb x 25) refl
  where
    by : (t : Bool) → ltb x 25 ≡ t → get_or (m ++ (zero_bound ∷ [])) x no_bound ≡ cond t (get_or m (min x 24) no_bound) zero_bound
    by true s =
        let g = ltb-true x 25 s in
        let same : min x 24 ≡ x = omega arith in
        get_or-append m (zero_bound ∷ []) no_bound x (omega (arith, long)) ∙ ap (λ (i : ℕ). get_or m i no_bound) (sym same)
    by false s = let g = ltb-false x 25 s in let end : length m ≡ x = omega (arith, long) in get_or_at m zero_bound [] no_bound x end

-- the places of a phase are places of it
pub record Few (at : Reads) : Type 0 where
  pub first : at.first ≤ 25
  pub last : at.last ≤ 25
  pub was : at.was ≤ 25
  pub into : at.into ≤ 24

pub places_few : (i j k : ℕ) → Few (places_at i j k)
unfolding places_at
places_few i j zero = record { first = omega arith; last = omega arith; was = omega arith; into = omega arith }
places_few i j (suc zero) = record { first = omega arith; last = omega arith; was = omega arith; into = omega arith }
places_few i j (suc (suc x)) = record { first = omega arith; last = omega arith; was = omega arith; into = omega arith }

none_test : (b : Bound) → tighter_c none_bound b ≡ no_test
unfolding tighter_b saturated_b
none_test b = refl

module _ (r : Rule) (long : length r.old ≡ 25) where
  -- what a phase compares, and with what
  abbrev pub via_of : ℕ → Bound
  via_of k =
      via_at r.clocks k r.bound (read_c r.old (places_at r.left r.right k).first)
      (read_c r.old (places_at r.left r.right k).last)

  abbrev pub was_of : ℕ → Bound
  was_of k = read_c r.old (places_at r.left r.right k).was

  push_is : (x : ℕ) (s t : Bool) → ltb r.clocks (x / 5) ≡ s → ltb r.clocks (x % 5) ≡ t
      → tighter_c
      (cond (ltb r.clocks (x / 5)) none_bound
      (cond (ltb r.clocks (x % 5)) none_bound
      (sum_c (sum_c (get_or r.old (5 * (x / 5) + r.left) zero_bound) r.bound) (get_or r.old (5 * r.right + x % 5) zero_bound))))
      (get_or r.old x zero_bound)
      ≡ push_test r x
  unfolding push_test via_c
  push_is x true t h g = rw h (none_test (get_or r.old x zero_bound))
  push_is x false true h g = rw (h, g) (none_test (get_or r.old x zero_bound))
  push_is x false false h g = rw (h, g) refl

  pub asked_is : (k : ℕ) → tighter_c (via_of k) (was_of k) ≡ ask_c r k
  unfolding ask_c places_at via_at void_test tight_test
  asked_is zero =
      rw (read_is r.old long (5 * r.right + r.left), read_past r.old) refl
  asked_is (suc zero) = rw (read_is r.old long (5 * r.left + r.right)) refl
  asked_is (suc (suc x)) =
      rw (
        read_is r.old long (5 * (x / 5) + r.left),
        read_is r.old long (5 * r.right + x % 5),
        read_is r.old long x,
      )
      (push_is x (ltb r.clocks (x / 5)) (ltb r.clocks (x % 5)) refl refl)

  via_by : (x : ℕ) → (push_test r x ≡ no_test → ⊥) → (s t : Bool) → ltb r.clocks (x / 5) ≡ s → ltb r.clocks (x % 5) ≡ t
      → via_of (suc (suc x)) ≡ via_c r x
  unfolding places_at via_at push_test via_c
  via_by x h true t g k = absurd (h (rw g refl))
  via_by x h false true g k = absurd (h (rw (g, k) refl))
  via_by x h false false g k =
      rw (g, k, read_is r.old long (5 * (x / 5) + r.left), read_is r.old long (5 * r.right + x % 5)) refl

  -- the sum of the entries that are read for the entry x
  pub sum_is : (x : ℕ)
      → sum_c (sum_c (read_c r.old (places_at r.left r.right (suc (suc x))).first) r.bound)
      (read_c r.old (places_at r.left r.right (suc (suc x))).last)
      ≡ via_c r x
  unfolding places_at via_c
  sum_is x = rw (read_is r.old long (5 * (x / 5) + r.left), read_is r.old long (5 * r.right + x % 5)) refl

  -- where the answer is yes, it is the entry that is put in
  pub via_is : (x : ℕ) → (ask_c r (suc (suc x)) ≡ no_test → ⊥) → via_of (suc (suc x)) ≡ via_c r x
  unfolding ask_c places_at via_at
  via_is x h = via_by x h (ltb r.clocks (x / 5)) (ltb r.clocks (x % 5)) refl refl
