-- The branches of the steps, with their tests.
use mathlib.Core.Path.{◌≡◌, refl, sym, ap, ◌∙◌}
use mathlib.Core.List.{List}
use Prim.Native.Nat.{ℕ, suc, ◌+◌, ◌-◌, ◌≤◌, ◌<◌, min}
use native.Mathlib.Omega.{arith}
use lib.IntN.{ℤ}
use lib.ListN.{get_or}
use borrow.Author.Tests.{lt-ltb, le-ltb, eq-eqb, ne_eqb}
use Rattle.cells.specs.CellLaws.{part_from, rows_part}
use Rattle.expr.specs.Affine.{Affine}
use Rattle.inequalities.specs.Flat.{exprs_in}
use Rattle.expr.specs.Records.{range_list}
use Rattle.expr.specs.declared.range.Ranges.{Ranges}
use Rattle.siblings.specs.Siblings.{first_of}
use Rattle.valuations.specs.SearchLaws.{count_few}
use Rattle.valuations.specs.Valuations.{count, widths}
use Rattle.zones.specs.declared.zone.Zone.{Zone}
use Rattle.kept.specs.Stacks.{no_item, no_zone, held_by_item, held_on, top_of, zones_in, zones_at_lem}
use Rattle.kept.specs.declared.stack.Item.{Item}
use Rattle.kept.specs.declared.stack.Stack.{Stack}

module _ (s : Stack) where
  pub top_few : s.count < 2 → record { below = 0; top = 0; level = 0 } ≡ top_of s
  unfolding top_of
  top_few h = rw (lt-ltb s.count 2 h) refl

  pub top_same : 2 ≤ s.count → (get_or s.list (s.count - 2) no_item).count ≡ (get_or s.list (s.count - 1) no_item).count
      → record {
        below = (get_or s.list (s.count - 2) no_item).at;
        top = (get_or s.list (s.count - 1) no_item).at;
        level = (get_or s.list (s.count - 2) no_item).count;
      }
      ≡ top_of s
  unfolding top_of
  top_same h e = rw (le-ltb s.count 2 h, eq-eqb _ _ e) refl

  pub top_other : 2 ≤ s.count → ((get_or s.list (s.count - 2) no_item).count ≡ (get_or s.list (s.count - 1) no_item).count → ⊥)
      → record { below = 0; top = 0; level = 0 } ≡ top_of s
  unfolding top_of
  top_other h e = rw (le-ltb s.count 2 h, ne_eqb _ _ e) refl

-- ---- the sum over the stack
pub on_more : (b : Ranges) (zs : List Zone) (l : List Item) (i t u : ℕ) (w : widths (range_list b) ≤ 262144) → t ≡ held_on b zs l i
    → u ≡ min (held_by_item b zs (get_or l i no_item)) 18446744073709551615 → t + u ≡ held_on b zs l (suc i)
unfolding held_on
on_more b zs l i t u w e f =
    let q = get_or l i no_item in
    let k = count_few (range_list b) (first_of (get_or zs q.at no_zone).ineqs q.count) in
    omega arith

pub held_few : (b : Ranges) (zs : List Zone) (q : Item) (u : ℕ) → widths (range_list b) ≤ 262144
    → u ≡ min (held_by_item b zs q) 18446744073709551615 → u ≤ 262144
held_few b zs q u w f =
    let k = count_few (range_list b) (first_of (get_or zs q.at no_zone).ineqs q.count) in
    omega arith

pub on_start : (b : Ranges) (zs : List Zone) (l : List Item) → 0 ≡ held_on b zs l 0
unfolding held_on
on_start b zs l = refl

-- what is counted in the part of the list from an item's place on is what the item holds
pub part_held : (b : Ranges) (l : List ℤ) (ns : List ℕ) (q : Item) (m : ℕ) → q.at < 32 → m ≡ min q.count 24
    → min (count (range_list b) (exprs_in (part_from l q.at) m)) 18446744073709551615
    ≡ min (held_by_item b (zones_in l ns) q) 18446744073709551615
part_held b l ns q m h e =
    ap (λ (es : List Affine). min (count (range_list b) es) 18446744073709551615)
    (rows_part l q.at q.count m e ∙ ap (λ (z : Zone). first_of z.ineqs q.count) (sym (zones_at_lem l ns q.at h)))
