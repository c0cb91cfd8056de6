-- The numbers that are there, and zeros behind them.
use mathlib.Core.Path.{ap, ◌∙◌}
use mathlib.Core.List.{List, ◌++◌}
use native.Mathlib.Omega.{arith}
use lib.IntN.{ℤ, pos}
use lib.ListN.{length, drop, replicate}
use Prim.Native.Nat.{◌<◌}
use Rattle.inequalities.proofs.Reading.{padded, blank}
use Rattle.inequalities.proofs.flat.ended.Goals as goal
use Rattle.inequalities.proofs.flat.ended.Goals.{in-Some, in_default}

pub returns : goal.returns
returns c =
    let a = c.args in
    c.whole.ensures ∙ elim c.match-get.branch [
      | in-Some w ↦
          let h = w.in-Some.ensures.lookup.0 in
          let xs = w.in-Some.rest.now in
          padded a.flat.now xs c.match-get.row a.at (w.row-is ∙ ap (λ (m : List ℤ). m ++ drop (length xs) (replicate 5 (pos 0)))
          w.copy_from_slice.ensures.after) h.2 h.3
      | in_default w ↦
          let past : length a.flat.now < a.at = omega (arith, w.in_default.ensures.lookup.0) in
          blank a.flat.now c.match-get.row a.at w.row-is past
    ]
