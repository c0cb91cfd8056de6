-- `links_of` meets its contract. The invariant: after i moves the route has arrived where `iterate` says. Assumes nothing.
use mathlib.Core.Path.{refl, sym, ap, ◌∙◌}
use native.Mathlib.Omega.{arith}
use native.Mathlib.Numerals.{add-one}
use Rattle.std.proofs.lemmas.Result.{err_from_is_err_and}
use Rattle.cursor.specs.Cursor.{iterate}
use Rattle.route.specs.Route.{link_step}
use Rattle.route.specs.RouteLaws.{links_broken}
use Rattle.index.specs.SheetIn.{sheet_in}
use Rattle.links.proofs.Steps.{links_done}
use Rattle.links.proofs.links_of.Goals as goal

pub loop-i-init : goal.loop-i-init
unfolding iterate
loop-i-init c = refl

pub link_step-requires : goal.link_step-requires
link_step-requires c =
    let n = rw c.from.ensures at c.min-n.ensures in
    (omega arith, omega arith)

pub returns-in_err-location : goal.returns-in_err-location
returns-in_err-location c =
    let n = rw c.from.ensures at c.min-n.ensures in
    let p = err_from_is_err_and c.from_residual.result c.from_residual.ensures.1 in
    rw (p.1, p.2)
    (links_broken _ _ _ c.loop-i.i _ _ (omega arith) c.loop-i.invariant (sym c.in_err-location.was ∙ c.link_step.ensures))

pub loop-i-preserved : goal.loop-i-preserved
unfolding iterate
loop-i-preserved c =
    let ix = c.args.ix in
    rw add-one
    (sym c.in_ok-location.was ∙ c.link_step.ensures
    ∙ ap (link_step (sheet_in c.args.file.now ix).transition ix.route ix.moves c.loop-i.i) c.loop-i.invariant)

pub returns : goal.returns
returns c =
    let i = c.loop-i in
    links_done _ _ _ i.i _ _ (rw c.from.ensures at c.min-n.ensures) (omega arith) (λ h. omega arith) i.invariant
