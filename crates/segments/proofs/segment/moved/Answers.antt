-- The transition where it stands in the file, and its steps.
use mathlib.Core.Path.{ap, ◌∙◌}
use Prim.Native.Nat.{ℕ}
use Rattle.index.specs.SheetIn.{sheet_in}
use Rattle.sheet.specs.Lookup.{transition_c}
use Rattle.segments.proofs.segment.moved.Goals as goal

pub returns : goal.returns
unfolding sheet_in
returns c =
    let found = c.before.before in
    let at-index = found.before in
    let a = at-index.args in
    let s = sheet_in a.file.now a.ix in
    record {
      t = found.transition_at-t.result;
      found = found.transition_at-t.ensures ∙ ap (λ (n : ℕ). transition_c s n) at-index.from.ensures;
      there = c.location_at-there.ensures;
      steps = c.move_steps.ensures;
    }
