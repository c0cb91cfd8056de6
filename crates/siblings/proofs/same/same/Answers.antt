-- Two runs that are equal have the same numbers at each place.
use mathlib.Core.Path.{◌≡◌, ap, sym, ◌∙◌}
use mathlib.Core.List.{List}
use Prim.Native.Nat.{◌+◌, ◌-◌}
use native.Mathlib.Omega.{arith}
use lib.IntN.{ℤ, pos}
use lib.ListN.{get_or, take, drop}
use Rattle.std.proofs.lemmas.List.{get_or-drop, get_or-take}
use Rattle.std.specs.Cmp.Rules.{signed_items}
use Rattle.siblings.proofs.same.same.Goals as goal

pub returns : goal.returns
returns c = λ e i h.
    let s = c.args in
    let l = s.cells.now in
    let same : take (s.a + s.n - s.a) (drop s.a l) ≡ take (s.b + s.n - s.b) (drop s.b l) = (signed_items _ _).0 (sym c.eq.ensures ∙ e) in
    sym (get_or-take (s.a + s.n - s.a) (drop s.a l) i (pos 0) (omega arith) ∙ get_or-drop s.a l i (pos 0))
    ∙ ap (λ (k : List ℤ). get_or k i (pos 0)) same
    ∙ get_or-take (s.b + s.n - s.b) (drop s.b l) i (pos 0) (omega arith)
    ∙ get_or-drop s.b l i (pos 0)
