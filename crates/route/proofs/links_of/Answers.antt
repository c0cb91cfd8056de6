-- `route::links_of` meets its contract. The invariant: after i steps the route has arrived where `iterate` says. Assumes nothing.
use mathlib.Core.Path.{◌≡◌, refl, sym, ap, ◌∙◌}
use native.Mathlib.Omega.{arith}
use native.Mathlib.Numerals.{add-one}
use Rattle.std.proofs.lemmas.Result.{err_from_is_err_and}
use Rattle.cursor.specs.Cursor.{iterate}
use Rattle.route.specs.Route.{link_step, links_of}
use Rattle.route.specs.RouteLaws.{links_broken}
use Rattle.route.proofs.links_of.Goals as goal

pub loop-i-init : goal.loop-i-init
unfolding iterate
loop-i-init c = refl

pub returns-in_err-location : goal.returns-in_err-location
returns-in_err-location c =
    let p = err_from_is_err_and c.from_residual.result c.from_residual.ensures.1 in
    rw (p.1, p.2)
    (links_broken _ _ _ c.loop-i.i _ _ (omega arith) c.loop-i.invariant (sym c.in_err-location.was ∙ c.link_step.ensures))

pub loop-i-preserved : goal.loop-i-preserved
unfolding iterate
loop-i-preserved c =
    let a = c.args in
    rw add-one
    (sym c.in_ok-location.was ∙ c.link_step.ensures ∙ ap (link_step a.transition a.route a.moves c.loop-i.i) c.loop-i.invariant)

pub returns : goal.returns
unfolding links_of
returns c =
    let h : c.loop-i.i ≡ 32 = omega arith in
    simp (c.loop-i.invariant, h)
