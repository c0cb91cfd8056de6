-- The proof of First, parameter by parameter: at the first parameter the search goes over its range from the lowest number on, and
-- stops where the later ones have a solution.
use Rattle.std.specs.Prelude.{◌≡◌, refl, ◌⊎◌, List, [], ◌∷◌, map, Bool, true, false, ℕ, zero, suc, ℤ, pos, ◌+ℤ◌, ◌≤ℤ◌, ◌<ℤ◌}
use Rattle.std.proofs.Common.{sym, ap, subst, ◌∙◌, inl, inr}
use Rattle.std.proofs.Math.Option.{Option, none, some}
use Rattle.std.specs.Int.Signed.{lt_z, clash_ℤ}
use Rattle.integer.specs.Apart.{apart}
use Rattle.integer.specs.Order.{lt_z_true, lt_z_false, ≤ℤ-antisym}
use Rattle.expr.specs.Affine.{Affine}
use Rattle.expr.specs.Ranges.{Inside}
use Rattle.valuations.specs.First.{Earlier, IsFirst, SearchRight}
use Rattle.valuations.specs.SearchLaws.{fix, up_step, or_else, first_over, lead, satisfies_fix, first_whole, first_sound, first_inside}
use Rattle.valuations.specs.SearchLaws.{first_none}
use Rattle.valuations.specs.Valuations.{width, satisfies, first}
use Rattle.expr.specs.declared.range.Range.{Range}

-- ---- numbers in order
-- y is x, or lies above it
same_or_above : (x y : ℤ) → x ≤ℤ y → (x ≡ y) ⊎ ((x +ℤ pos 1) ≤ℤ y)
same_or_above x y h = by (lt_z x y) refl
  where
    by : (b : Bool) → lt_z x y ≡ b → (x ≡ y) ⊎ ((x +ℤ pos 1) ≤ℤ y)
    by true e = inr (up_step x y (lt_z_true e))
    by false e = inl (≤ℤ-antisym h (lt_z_false e))

-- ---- the first number at which something is found
record FoundAt (f : ℤ → Option (List ℤ)) (x : ℤ) (v : List ℤ) : Type 0 where
  place : ℤ
  found : f place ≡ some v
  none_before : (y : ℤ) → x ≤ℤ y → y <ℤ place → f y ≡ none

over_found : (f : ℤ → Option (List ℤ)) (n : ℕ) (x : ℤ) (v : List ℤ) → first_over f x n ≡ some v → FoundAt f x v
unfolding first_over
over_found f zero x v h = apart cc
over_found f (suc n) x v h = by (f x) refl h (over_found f n (x +ℤ pos 1) v)
  where
    by : (o : Option (List ℤ)) → f x ≡ o → or_else o (first_over f (x +ℤ pos 1) n) ≡ some v
        → (first_over f (x +ℤ pos 1) n ≡ some v → FoundAt f (x +ℤ pos 1) v) → FoundAt f x v
    by (some w) e q ih = record { place = x; found = e ∙ q; none_before = λ y a b. absurd (clash_ℤ b a) }
    by none e q ih =
        let g = ih q in
        record {
          place = g.place;
          found = g.found;
          none_before = λ y a b. before y (same_or_above x y a) (g.none_before y) b;
        }
      where
        before : (y : ℤ) → (x ≡ y) ⊎ ((x +ℤ pos 1) ≤ℤ y) → {z : ℤ} → ((x +ℤ pos 1) ≤ℤ y → y <ℤ z → f y ≡ none) → y <ℤ z → f y ≡ none
        before y (inl s) k b = ap f (sym s) ∙ e
        before y (inr a) k b = k a b

-- what was found behind a number
lead_some : (x : ℤ) (o : Option (List ℤ)) (v : List ℤ) → lead x o ≡ some v → (u : List ℤ) × (o ≡ some u) × (x ∷ u ≡ v)
lead_some x none v h = apart cc
lead_some x (some u) v h = let e : x ∷ u ≡ v = cc in (u, refl, e)

lead_none : (x : ℤ) (o : Option (List ℤ)) → lead x o ≡ none → o ≡ none
lead_none x none h = refl
lead_none x (some u) h = apart cc

-- ---- nothing before what was found
none_earlier : (rs : List Range) (es : List Affine) (v : List ℤ) → first rs es ≡ some v → (w : List ℤ) → Inside w rs → Earlier w v
    → satisfies es w ≡ false
none_earlier [] es v h [] i b = absurd b
none_earlier [] es v h (y ∷ w) i b = absurd i
none_earlier (r ∷ rs) es v h [] i b = absurd i
none_earlier (r ∷ rs) es v h (y ∷ w) i b =
    let g = over_found (λ (x : ℤ). lead x (first rs (map (fix x) es))) (width r) r.low v (sym (first_whole es r rs) ∙ h) in
    let l = lead_some g.place (first rs (map (fix g.place) es)) v g.found in
    sym (satisfies_fix y es w) ∙ by g.place l.0 (g.none_before y i.0.least) l.1
    (subst (λ (u : List ℤ). Earlier (y ∷ w) u) (sym l.2) b) (none_earlier rs (map (fix y) es))
  where
    by : (x : ℤ) (u : List ℤ) → (y <ℤ x → lead y (first rs (map (fix y) es)) ≡ none) → first rs (map (fix x) es) ≡ some u
        → Earlier (y ∷ w) (x ∷ u)
        → ((u : List ℤ) → first rs (map (fix y) es) ≡ some u → (w : List ℤ) → Inside w rs → Earlier w u
        → satisfies (map (fix y) es) w ≡ false)
        → satisfies (map (fix y) es) w ≡ false
    by x u lower at (inl s) ih =
        first_none rs (map (fix y) es) (lead_none y (first rs (map (fix y) es)) (lower s)) w i.1
    by x u lower at (inr s) ih =
        ih u (ap (λ (z : ℤ). first rs (map (fix z) es)) s.0 ∙ at) w i.1 s.1

-- ---- there is one first: of two valuations one comes before the other, or they are the same
ordered : (rs : List Range) (v w : List ℤ) → Inside v rs → Inside w rs → Earlier v w ⊎ ((v ≡ w) ⊎ Earlier w v)
ordered [] [] [] i j = inr (inl refl)
ordered [] [] (y ∷ w) i j = absurd j
ordered [] (x ∷ v) w i j = absurd i
ordered (r ∷ rs) [] w i j = absurd i
ordered (r ∷ rs) (x ∷ v) [] i j = absurd j
ordered (r ∷ rs) (x ∷ v) (y ∷ w) i j = by (lt_z x y) (lt_z y x) refl refl (ordered rs v w i.1 j.1)
  where
    later : x ≡ y → Earlier v w ⊎ ((v ≡ w) ⊎ Earlier w v)
        → Earlier (x ∷ v) (y ∷ w) ⊎ ((x ∷ v ≡ y ∷ w) ⊎ Earlier (y ∷ w) (x ∷ v))
    later e (inl b) = inl (inr (e, b))
    later e (inr (inl q)) = inr (inl (cc))
    later e (inr (inr b)) = inr (inr (inr (sym e, b)))

    by : (a b : Bool) → lt_z x y ≡ a → lt_z y x ≡ b → Earlier v w ⊎ ((v ≡ w) ⊎ Earlier w v)
        → Earlier (x ∷ v) (y ∷ w) ⊎ ((x ∷ v ≡ y ∷ w) ⊎ Earlier (y ∷ w) (x ∷ v))
    by true b e g k = inl (inl (lt_z_true e))
    by false true e g k = inr (inr (inl (lt_z_true g)))
    by false false e g k = later (≤ℤ-antisym (lt_z_false g) (lt_z_false e)) k

one_first : (rs : List Range) (es : List Affine) (v w : List ℤ) → IsFirst rs es v → IsFirst rs es w → v ≡ w
one_first rs es v w f g = by (ordered rs v w f.inside g.inside)
  where
    by : Earlier v w ⊎ ((v ≡ w) ⊎ Earlier w v) → v ≡ w
    by (inl b) = let e = g.none_earlier v f.inside b in let h = f.meets in apart cc
    by (inr (inl e)) = e
    by (inr (inr b)) = let e = f.none_earlier w g.inside b in let h = g.meets in apart cc

found_first : (rs : List Range) (es : List Affine) (v : List ℤ) → first rs es ≡ some v → IsFirst rs es v
found_first rs es v h =
    record { inside = first_inside rs es v h; meets = first_sound rs es v h; none_earlier = none_earlier rs es v h }

first_found : (rs : List Range) (es : List Affine) (v : List ℤ) → IsFirst rs es v → first rs es ≡ some v
first_found rs es v f = by (first rs es) refl
  where
    by : (o : Option (List ℤ)) → first rs es ≡ o → o ≡ some v
    by none e = let h = f.meets in let g = first_none rs es e v f.inside in apart cc
    by (some w) e = ap some (one_first rs es w v (found_first rs es w e) f)

none_found : (rs : List Range) (es : List Affine) → ((v : List ℤ) → Inside v rs → satisfies es v ≡ false) → first rs es ≡ none
none_found rs es h = by (first rs es) refl
  where
    by : (o : Option (List ℤ)) → first rs es ≡ o → o ≡ none
    by none e = refl
    by (some v) e = let m = first_sound rs es v e in let f = h v (first_inside rs es v e) in apart cc

pub search_right : SearchRight
search_right rs es =
    record {
      found = λ v. (found_first rs es v, first_found rs es v);
      nothing = (first_none rs es, none_found rs es);
    }
