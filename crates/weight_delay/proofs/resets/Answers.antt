-- The four steps are those of `resets_table`.
use Prim.Native.Nat.{◌/◌, ◌%◌}
use Rattle.weight_matrix.specs.Tables.{Table, resets_table, reset_if}
use mathlib.Core.Path.{refl, sym, ◌∙◌, ap}
use Rattle.weight_delay.proofs.resets.Goals as goal

pub returns-then-is_void : goal.returns-then-is_void
unfolding resets_table
returns-then-is_void c = rw (sym c.is_void.ensures ∙ c.if-is_void.true) refl

pub returns : goal.returns
unfolding resets_table
returns c =
    let at-reset-if2 = c.before.before in
    let at-reset-if = at-reset-if2.before in
    let tested-1 = at-reset-if.before in
    let at-is-void = tested-1.before in
    let start = at-is-void.before in
    rw (sym at-is-void.is_void.ensures ∙ tested-1.if-is_void.false)
    (c.reset_if.ensures ∙ ap (λ (m : Table). reset_if m start.args.clocks 4 (start.args.bits / 8 % 2))
    (c.reset_if-three.ensures ∙ ap (λ (m : Table). reset_if m start.args.clocks 3 (start.args.bits / 4 % 2))
    (at-reset-if2.reset_if-two.ensures ∙ ap (λ (m : Table). reset_if m start.args.clocks 2 (start.args.bits / 2 % 2))
    at-reset-if.reset_if-one.ensures)))
