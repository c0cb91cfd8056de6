-- The narrowed box has no more numbers than the box, and each of its halves fewer than the narrowed one.
use mathlib.Core.Path.{◌≡◌, refl, sym, ◌∙◌}
use Prim.Native.Nat.{ℕ, ◌/◌, ◌<◌}
use native.Mathlib.Omega.{arith}
use lib.ListN.{length}
use Rattle.expr.specs.Records.{PARAMETERS}
use Rattle.systems.specs.BoxLaws.{narrows_long}
use Rattle.first_met.specs.Halves.{fewer_lower, fewer_upper}
use Rattle.halving.specs.Halved.{widest_points, some_emptied, some_cornered, some_pointed, some_lower, some_upper}
use Rattle.halving.proofs.search.+some_from.Goals as goal

pub returns-then-not-inside : goal.returns-then-not-inside
returns-then-not-inside t c =
    some_emptied _ _ _ c.narrowed-c.ensures _ c.corner-v.ensures (c.inside.ensures.no c.if-not-inside.true)

pub returns-then-meets : goal.returns-then-meets
returns-then-meets t c =
    some_cornered _ _ c.narrowed-c.result.list c.narrowed-c.ensures c.corner-v.result (c.inside.ensures.yes c.if-not-inside.false)
    (sym c.meets.ensures ∙ c.if-meets.true)

pub returns-then-m-eq0 : goal.returns-then-m-eq0
returns-then-m-eq0 t c =
    let l : length c.narrowed-c.result.list ≡ PARAMETERS =
    narrows_long _ _ _ PARAMETERS c.narrowed-c.ensures c.well_formed.0.1.1.0.1.0.1 in
    some_pointed _ _ _ c.narrowed-c.ensures _ c.corner-v.ensures l
    (widest_points _ _ c.widest-w.ensures (omega (arith, c.width-m.ensures.value, c.if-m-eq0.true)))
    (sym c.meets.ensures ∙ c.if-meets.false)

some_at : (x : ℕ) → (x / 2 ≡ 0 → ⊥) → 0 < x / 2
some_at x h = omega (arith, h)

few_at : (n x : ℕ) → (x / 2 ≡ 0 → ⊥) → x ≡ n → x / 2 < n
few_at n x h e = omega (arith, h)

less-at : {a b t : ℕ} → a < b → b ≡ t → a < t
less-at h e = rw e at h

pub lower-requires : goal.lower-requires
lower-requires t c = (some_at _ c.if-m-eq0.false, few_at _ _ c.if-m-eq0.false c.width-m.ensures.value)

pub some_from-s-requires : goal.some_from-s-requires
some_from-s-requires t c =
    let l : length c.narrowed-c.result.list ≡ PARAMETERS =
    narrows_long _ _ _ PARAMETERS c.narrowed-c.ensures c.well_formed.0.1.1.0.1.0.1 in
    let h = fewer_lower _ _ _ c.narrowed-c.ensures c.widest-w.result _ _ refl (some_at _ c.if-m-eq0.false)
    (few_at _ _ c.if-m-eq0.false c.width-m.ensures.value) (omega (arith, l, c.widest-w.ensures.place)) in
    (rw c.lower.ensures (less-at h c.decreases), tt)

pub returns-then-is_some : goal.returns-then-is_some
returns-then-is_some t c =
    some_lower _ _ _ c.narrowed-c.ensures c.widest-w.result _ _ refl (some_at _ c.if-m-eq0.false)
    (few_at _ _ c.if-m-eq0.false c.width-m.ensures.value) c.some_from-s.result
    (rw c.lower.ensures at c.some_from-s.ensures) (sym c.is_some.ensures ∙ c.if-is_some.true)

pub upper-requires : goal.upper-requires
upper-requires t c = few_at _ _ c.if-m-eq0.false c.width-m.ensures.value

pub some_from-requires : goal.some_from-requires
some_from-requires t c =
    let l : length c.narrowed-c.result.list ≡ PARAMETERS =
    narrows_long _ _ _ PARAMETERS c.narrowed-c.ensures c.well_formed.0.1.1.0.1.0.1 in
    let h = fewer_upper _ _ _ c.narrowed-c.ensures c.widest-w.result _ _ refl (some_at _ c.if-m-eq0.false)
    (few_at _ _ c.if-m-eq0.false c.width-m.ensures.value) (omega (arith, l, c.widest-w.ensures.place)) in
    (rw c.upper.ensures (less-at h c.decreases), tt)

pub returns : goal.returns
returns t c =
    some_upper _ _ _ c.narrowed-c.ensures c.widest-w.result _ _ refl (some_at _ c.if-m-eq0.false)
    (few_at _ _ c.if-m-eq0.false c.width-m.ensures.value) c.some_from-s.result c.some_from.result
    (rw c.lower.ensures at c.some_from-s.ensures) (sym c.is_some.ensures ∙ c.if-is_some.false) (rw c.upper.ensures at c.some_from.ensures)
