-- The nogood is put in.
use mathlib.Core.Path.{ap}
use Rattle.nogoods.specs.declared.Nogoods.{Nogoods}
use Rattle.zones.proofs.hint.learned.Goals as goal

pub returns : goal.returns
returns c =
    let h = c.args.h in
    ap (λ (g : Nogoods). record { ranges = h.ranges; guess = h.guess; sure = h.sure; other = h.other; nogoods = g }) c.with.ensures
