-- The loop's invariant: what the lines from k on leave of the part so far is the whole row.
use mathlib.Core.Path.{ap, ◌∙◌}
use Prim.Native.Nat.{◌+◌, ◌*◌}
use native.Mathlib.Omega.{arith}
use lib.IntN.{ℤ, pos}
use lib.ListN.{get_or}
use mir.Syntax.{w16, w32, w64}
use mir.Val.{SFits}
use mir.ValLaws.{to_z-of_z}
use Rattle.rows.specs.Lines.{line_at, row_from}
use Rattle.rows.proofs.Steps.{row_start, row_turn, row_done}
use borrow.Author.Rules.{rules}
use Rattle.rows.proofs.lines.row.Goals as goal

pub loop-k-init : goal.loop-k-init
loop-k-init c = (omega arith, row_start _ _ _ _)

pub held-r-requires : goal.held-r-requires
held-r-requires c =
    let loop = c.loop-k in
    let f : SFits w64 (get_or c.args.constants.now loop.k (pos 0)) = search rules in
    rw (to_z-of_z w64 _ f) (c.requires.sized loop.k (omega arith))

pub loop-k-preserved : goal.loop-k-preserved
loop-k-preserved c =
    let loop = c.loop-k in
    let a : SFits w64 (get_or c.args.constants.now loop.k (pos 0)) = search rules in
    let b : SFits w32 (get_or c.args.flat.now (5 * loop.k + 1 + c.args.w) (pos 0)) =
    search rules in
    let d : SFits w32 (get_or c.args.flat.now (5 * loop.k + 1 + c.args.t) (pos 0)) = search rules in (
      omega arith,
      row_turn _ _ loop.k _ loop.r _ _ (omega arith) (to_z-of_z w64 _ a) (to_z-of_z w32 _ b) (to_z-of_z w32 _ d) c.held-r.ensures
          loop.invariant.1,
    )

pub returns : goal.returns
returns c =
    row_done _ _ c.loop-k.k _ _ _ (omega arith) c.loop-k.invariant.1
    ∙ ap (λ (z : ℤ). row_from (line_at c.args.constants.now c.args.flat.now c.args.w c.args.t) 0 c.args.n z
    c.args.s)
    (to_z-of_z w16 _ c.ranges.x)
