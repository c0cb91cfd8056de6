-- Laws of places.
use mathlib.Core.Path.{◌≡◌, refl, sym, ◌∙◌}
use mathlib.Core.Bool.{Bool, true, false, cond}
use mathlib.Core.List.{List, [], ◌∷◌, map}
use Prim.Native.Nat.{ℕ, zero, suc, ◌+◌, ◌-◌, ◌≤◌, ◌<◌}
use native.Mathlib.Numerals.{add-one}
use native.Mathlib.Omega.{arith}
use lib.Dec.{ltb}
use lib.IntN.{ℤ, pos}
use lib.ListN.{length, get_or, length-map}
use lib.Seq.{ext_get_or}
use lib.Signed.{le_z, lt_z, clash_ℤ}
use borrow.Author.Tests.{ltb-true, ltb-false}
use Rattle.std.specs.Prelude.{Option, None, Some}
use Rattle.integer.specs.Order.{lt_z_true, lt_z_false}
use Rattle.expr.specs.Ranges.{In, Inside}
use Rattle.expr.specs.Records.{PARAMETERS, blank_range}
use Rattle.expr.specs.declared.range.Range.{Range}
use Rattle.corners.specs.Boxes.{wide_from}

-- a test at locals that hold its numbers
pub tested : (a b x y : ℤ) (t : Bool) → a ≡ x → b ≡ y → le_z a b ≡ t → le_z x y ≡ t
tested a b x y t e f h = rw (e, f) at h

-- what holds at each place what f gives there is the list mapped by f
module _ {A B : Type 0} (f : A → B) (d : A) (e : B) where
  map_at : (l : List A) (j : ℕ) → j < length l → get_or (map f l) j e ≡ f (get_or l j d)
  map_at [] j h = absurd (omega arith)
  map_at (x ∷ l) zero h = refl
  map_at (x ∷ l) (suc j) h = map_at l j (omega arith)

  pub mapped : (l : List A) (m : List B) → length m ≡ length l → ((j : ℕ) → j < length l → get_or m j e ≡ f (get_or l j d)) → m ≡ map f l
  mapped l m h k =
      ext_get_or e m (map f l) (h ∙ sym (length-map l f))
      (λ j g. k j (omega (arith, h)) ∙ sym (map_at l j (omega (arith, h))))

-- ---- a valuation inside a box, place by place
pub inside_at : (i : ℕ) (v : List ℤ) (rs : List Range) → i < length rs → Inside v rs → In (get_or v i (pos 0)) (get_or rs i blank_range)
inside_at i v [] h k = absurd (omega arith)
inside_at i [] (r ∷ rs) h k = absurd k
inside_at zero (x ∷ v) (r ∷ rs) h k = k.0
inside_at (suc i) (x ∷ v) (r ∷ rs) h k = inside_at i v rs (omega arith) k.1

pub inside_all : (v : List ℤ) (rs : List Range) → length v ≡ length rs
    → ((j : ℕ) → j < length rs → In (get_or v j (pos 0)) (get_or rs j blank_range)) → Inside v rs
inside_all [] [] h k = tt
inside_all [] (r ∷ rs) h k = absurd (omega arith)
inside_all (x ∷ v) [] h k = absurd (omega arith)
inside_all (x ∷ v) (r ∷ rs) h k = (k 0 (omega arith), inside_all v rs (omega arith) (λ j g. k (suc j) (omega arith)))

-- ---- a number against the ends of a range, at locals that hold them
pub below_out : (x : ℤ) (r : Range) (a b : ℤ) → a ≡ x → b ≡ r.low → lt_z a b ≡ true → In x r → ⊥
below_out x r a b e f h i = clash_ℤ (lt_z_true (rw (e, f) at h)) i.least

pub above_out : (x : ℤ) (r : Range) (a b : ℤ) → a ≡ x → b ≡ r.high → lt_z b a ≡ true → In x r → ⊥
above_out x r a b e f h i = clash_ℤ (lt_z_true (rw (e, f) at h)) i.most

pub in_both : (x : ℤ) (r : Range) (a b a' b' : ℤ) → a ≡ x → b ≡ r.low → a' ≡ x → b' ≡ r.high → lt_z a b ≡ false → lt_z b' a' ≡ false
    → In x r
in_both x r a b a' b' e f e' f' h k = record { least = lt_z_false (rw (e, f) at h); most = lt_z_false (rw (e', f') at k) }

pub in_more : (v : List ℤ) (rs : List Range) (i : ℕ) → ((j : ℕ) → j < i → In (get_or v j (pos 0)) (get_or rs j blank_range))
    → In (get_or v i (pos 0)) (get_or rs i blank_range) → (j : ℕ) → j < i + 1 → In (get_or v j (pos 0)) (get_or rs j blank_range)
in_more v rs i h k j g = by (ltb j i) refl
  where
    by : (t : Bool) → ltb j i ≡ t → In (get_or v j (pos 0)) (get_or rs j blank_range)
    by true e = h j (omega (arith, ltb-true))
    by false e =
        let q : j ≡ i = omega (arith, ltb-false) in
        rw q k

-- ---- the first range of several numbers: those from place i on, at locals that hold the ends of the range there
module _ (rs : List Range) (i : ℕ) (w : Option ℕ) (a b : ℤ) (h : i < PARAMETERS) (ea : a ≡ (get_or rs i blank_range).low)
    (eb : b ≡ (get_or rs i blank_range).high)
  where
    turn : wide_from rs i (PARAMETERS - i) ≡ cond (lt_z a b) (Some i) (wide_from rs (i + 1) (PARAMETERS - (i + 1)))
    unfolding wide_from
    turn =
        let one : PARAMETERS - i ≡ suc (PARAMETERS - (i + 1)) = omega arith in
        rw (one, ea, eb, add-one i) refl

    pub wide_here : lt_z a b ≡ true → wide_from rs i (PARAMETERS - i) ≡ w → Some i ≡ w
    wide_here q k = sym (turn ∙ rw q refl) ∙ k

    pub wide_next : lt_z a b ≡ false → wide_from rs i (PARAMETERS - i) ≡ w → wide_from rs (i + 1) (PARAMETERS - (i + 1)) ≡ w
    wide_next q k = sym (turn ∙ rw q refl) ∙ k

pub wide_none : (rs : List Range) (i : ℕ) (w : Option ℕ) → PARAMETERS ≤ i → wide_from rs i (PARAMETERS - i) ≡ w → None ≡ w
unfolding wide_from
wide_none rs i w h k =
    let none : PARAMETERS - i ≡ 0 = omega arith in
    sym (rw none refl) ∙ k
