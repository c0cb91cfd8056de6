-- `guard_plain` meets its contract: with room it is the inner call's, and else nothing is promised. Assumes nothing.
use Prim.Native.Nat.{ℕ, ◌+◌, ◌*◌, ◌≤◌}
use native.Mathlib.Omega.{arith}
use Rattle.std.proofs.lemmas.Option.{IfSome_then}
use Rattle.guard_bytes.specs.declared.Plain.{Plain}
use Rattle.guard_bytes.specs.Plain.{PlainRead}
use Rattle.guard_bytes.proofs.guard_plain.Goals as goal

pub guard_in-requires : goal.guard_in-requires
guard_in-requires c =
    let fits = c.room.ensures c.if-room.true in
    (omega arith, (fits.1.1.0, fits.1.1.1))

pub returns-then-room : goal.returns-then-room
returns-then-room c =
    let fits = c.room.ensures c.if-room.true in
    let a = c.args in
    IfSome_then c.guard_in.result
    {P = λ (read : Plain). (end : ℕ) → a.at + 6 + 2 * a.most ≤ end →
    PlainRead a.file.now end a.most a.parameters a.clocks a.at read.word read.guard} c.guard_in.ensures (λ read p. p _ fits.1.0)
