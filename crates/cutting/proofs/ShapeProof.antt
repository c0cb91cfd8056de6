-- The proof of Shape: a split adds one inequality to each part, and only where there is room for it; the rules touch no entry past the
-- clocks.
use Rattle.std.specs.Prelude.{◌≡◌, refl, Bool, true, false, cond, ℕ, zero, suc, ◌+◌, ◌≤◌, eqb, length}
use Rattle.std.proofs.Common.{subst, ◌∙◌, inl, inr, arith, eqb-true, length-append}
use mathlib.Core.List.{List, [], ◌∷◌, ◌++◌, Memᴰ}
use Rattle.dbm.specs.Matrix.{Outside}
use Rattle.dbm.specs.Entries.{resets_outside}
use Rattle.dbm.proofs.Entries.{delayed_outside}
use Rattle.expr.specs.Affine.{Affine, opposite}
use Rattle.weight.specs.Upper.{Upper, none}
use Rattle.expr.specs.Bounds.{sum_b, tighter_b, Question, yes', no', ask, zero_b}
use Rattle.expr.specs.Records.{range_list}
use Rattle.expr.specs.declared.range.Range.{Range}
use Rattle.timed.specs.Automaton.{route_of}
use Rattle.timed.specs.Steps.{Step, steps_of}
use Rattle.cutting.specs.Every.{Leaves, LastingM, Splits, Right, one_of, Has}
use Rattle.cutting.proofs.Every.{parts_right}
use Rattle.cutting.specs.Cutting.{Bounds, start_b, start_zone, Zone, Tree, cut, keep, tested, Place, put_entry, row_from}
use Rattle.cutting.specs.Cutting.{rows_from, places, pushed, guard_tree, listed, INEQS, ZONES, cut_steps, zones_along, zones_of}
use Rattle.cutting.specs.Shape.{Blank, Shaped, AlongShaped, ZonesShaped}

-- ---- trees
tested_leaves : (w : ℕ) (q : Question) (f : Bool → Tree) → ((b : Bool) → Leaves (Blank w) (f b)) → Leaves (Blank w) (tested q f)
unfolding tested
tested_leaves w yes' f h = h true
tested_leaves w no' f h = h false
tested_leaves w (ask e) f h = h

-- the places are of clock 0 and the clocks
abbrev pub Placed : ℕ → List Place → Type 0
Placed w [] = Unit {0}
Placed w (p ∷ ps) = (p.row ≤ w) × (p.column ≤ w) × Placed w ps

placed_append : (w : ℕ) (ps qs : List Place) → Placed w ps → Placed w qs → Placed w (ps ++ qs)
placed_append w [] qs h k = k
placed_append w (p ∷ ps) qs h k = (h.0, h.1, placed_append w ps qs h.2 k)

row_placed : (w k l n : ℕ) → k ≤ w → l + n ≤ suc w → Placed w (row_from k l n)
unfolding row_from
row_placed w k l zero a b = tt
row_placed w k l (suc n) a b = (a, omega arith, row_placed w k (suc l) n a (omega arith))

rows_placed : (w k n : ℕ) → k + n ≤ suc w → Placed w (rows_from w k n)
unfolding rows_from
rows_placed w k zero a = tt
rows_placed w k (suc n) a = placed_append w (row_from k 0 (suc w)) (rows_from w (suc k) n)
    (row_placed w k 0 (suc w) (omega arith) (omega arith)) (rows_placed w (suc k) n (omega arith))

pub places_placed : (w : ℕ) → Placed w (places w)
unfolding places
places_placed w = rows_placed w 0 (suc w) (omega arith)

put_blank : (w : ℕ) (p : Place) (t : Upper Affine) (m : Bounds) → p.row ≤ w → p.column ≤ w → Blank w m → Blank w (put_entry p t m)
unfolding put_entry
put_blank w p t m a b h i j o = by (eqb i p.row) (eqb j p.column) refl refl o
  where
    by : (x y : Bool) → eqb i p.row ≡ x → eqb j p.column ≡ y → Outside w i j → cond x (cond y t (m i j)) (m i j) ≡ zero_b
    by false y e g o = h i j o
    by true false e g o = h i j o
    by true true e g (inl q) = let d = eqb-true i p.row e in absurd (omega arith)
    by true true e g (inr q) = let d = eqb-true j p.column g in absurd (omega arith)

cond_blank : (w : ℕ) (b : Bool) (x y : Bounds) → Blank w x → Blank w y → Blank w (cond b x y)
cond_blank w true x y h k = h
cond_blank w false x y h k = k

pushed_leaves : (w i j : ℕ) (e : Upper Affine) (old : Bounds) (ps : List Place) (new : Bounds) → Placed w ps → Blank w new
    → Leaves (Blank w) (pushed i j e old ps new)
unfolding pushed
pushed_leaves w i j e old [] new h k = k
pushed_leaves w i j e old (p ∷ ps) new h k =
    let t = sum_b (sum_b (old p.row i) e) (old j p.column) in
    tested_leaves w (tighter_b t (old p.row p.column)) _ (λ b.
    pushed_leaves w i j e old ps (cond b (put_entry p t new) new) h.2
    (cond_blank w b (put_entry p t new) new (put_blank w p t new h.0 h.1 k) k))

guard_leaves : (w i j : ℕ) (e : Upper Affine) (m : Bounds) → Blank w m → Leaves (Blank w) (guard_tree w i j e m)
unfolding guard_tree
guard_leaves w i j e m h =
    tested_leaves w (tighter_b (sum_b e (m j i)) zero_b) _ void_or
  where
    stay_or : (b : Bool) → Leaves (Blank w) (cond b (pushed i j e m (places w) m) (keep m))
    stay_or true = pushed_leaves w i j e m (places w) m (places_placed w) h
    stay_or false = h

    void_or : (b : Bool) → Leaves (Blank w)
        (cond b cut (tested (tighter_b e (m i j)) (λ tight. cond tight (pushed i j e m (places w) m) (keep m))))
    void_or true = tt
    void_or false = tested_leaves w (tighter_b e (m i j)) _ stay_or

-- ---- any list of steps
blank_lasting : (w : ℕ) → LastingM w (Blank w)
blank_lasting w =
    record {
      guards = guard_leaves w;
      delays = λ m h i j o. delayed_outside w none m i j o ∙ h i j o;
      resets = λ bits m h i j o. resets_outside w bits m w i j o ∙ h i j o;
    }

abbrev Few : List Affine → Type 0
Few is = length is ≤ INEQS

few_splits : (rs : List Range) → Splits rs Few
few_splits rs is e h l p q =
    (omega (arith, length-append is (e ∷ [])), omega (arith, length-append is (opposite e ∷ [])))

steps_shaped : (rs : List Range) (w : ℕ) (steps : List Step) (zs : List Zone) → cut_steps rs w steps (start_zone ∷ []) ≡ listed zs
    → (length zs ≤ ZONES) × ((z : Zone) → Memᴰ z zs → Shaped w z)
unfolding start_b
steps_shaped rs w steps zs q =
    let start : Right (Has Few (Blank w)) (listed (start_zone ∷ [])) = (omega arith, ((omega arith, λ i j o. refl), tt)) in
    let r = subst (Right (Has Few (Blank w))) q
    (parts_right rs Few (Blank w) (few_splits rs) w (blank_lasting w) steps (start_zone ∷ []) start) in
    (r.0, λ z i. let h = one_of (Has Few (Blank w)) zs r.1 z i in record { few = h.0; blank = h.1 })

pub along_shaped : AlongShaped
unfolding zones_along
along_shaped s route zs q = steps_shaped (range_list s.ranges) s.clocks (steps_of s route) zs q

pub zones_shaped : ZonesShaped
unfolding zones_of
zones_shaped s zs q = along_shaped s (route_of s) zs q
