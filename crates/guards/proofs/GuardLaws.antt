-- A guard that was read, and a list of guards, is right: from the definitions of `Guards`.
use Prim.Native.Nat.{ℕ, zero, suc, ◌≤◌, ◌<◌}
use Rattle.std.specs.Prelude.{◌≡◌, ◌⊎◌, List, Bool, false, not, ◌&&◌, leb, eqb, ℤ, pos}
use Rattle.std.proofs.Math.Path.{refl}
use Rattle.std.proofs.Common.{ap, inl, inr, arith, eqb-true}
use Rattle.std.proofs.Math.Bool.{true, cond}
use Rattle.std.proofs.Math.ListN.{set}
use Rattle.std.proofs.Math.Dec.{ltb}
use Rattle.std.proofs.lemmas.Bool.{eqb-false}
use Rattle.expr.specs.Records.{PARAMETERS}
use Rattle.cursor.specs.declared.Cursor.{Cursor}
use Rattle.cursor.specs.Cursor.{advanced, byte_field, number_field, zero_field, signed_of, iterate}
use Rattle.cursor_laws.specs.Laws.{no, judged_right, byte_field_right, byte_field_from, signed_field_right}
use Rattle.guards.specs.declared.Guard.{Guard}
use Rattle.guards.specs.declared.GuardsAt.{GuardsAt}
use Rattle.guards.specs.declared.CoefsAt.{CoefsAt}
use Rattle.guards.specs.Guards.{guard_expr, guard_bound, one_zero, right_field, coef_step, zero_coefs, coefs_at, zero_step, zeros_at}
use Rattle.guards.specs.Guards.{guard_at, no_guard, blank_guard, blank_guards, guard_step, guards_at}
use Rattle.cursor_laws.specs.FilledLaws.{step, filled}
use Rattle.cursor_laws.specs.Numbers.{small_number}
use Rattle.cursor_laws.specs.Right.{Small, Filled}
use Rattle.guards.specs.Right.{GuardRight, GuardsRight}

one_zero_cases :
    (a b : ℕ) (p q : Bool) → eqb a 0 ≡ p → eqb b 0 ≡ q → cond p (not q) q ≡ true →
    ((a ≡ 0) × (0 < b)) ⊎ ((0 < a) × (b ≡ 0))
one_zero_cases a b true true e f h = no h
one_zero_cases a b true false e f h =
    let ne = eqb-false b 0 f in
    inl (eqb-true a 0 e, omega arith)
one_zero_cases a b false true e f h =
    let ne = eqb-false a 0 e in
    inr (omega arith, eqb-true b 0 f)
one_zero_cases a b false false e f h = no h

one_zero_lem : (a b : ℕ) → one_zero a b ≡ true → ((a ≡ 0) × (0 < b)) ⊎ ((0 < a) × (b ≡ 0))
unfolding one_zero
one_zero_lem a b h = one_zero_cases a b (eqb a 0) (eqb b 0) refl refl h

module _ (s : List ℕ) (end : ℕ) where
  right_field_right :
      (clocks : ℕ) (a : Cursor) → (right_field s end clocks a).ok ≡ true →
      (a.ok ≡ true) × (((right_field s end clocks a).byte ≤ clocks) × (one_zero a.byte (right_field s end clocks a).byte ≡ true))
  unfolding right_field
  right_field_right clocks a h =
      let t = byte_field s end 0 clocks a in
      let j = judged_right a t (one_zero a.byte t.byte) h in
      let f = byte_field_right s end 0 clocks a j.0 in
      (f.0, rw j.1.1 (f.1.1, j.1.0))

  -- the coefficients of the sheet's parameters
  coefs_at_right :
      (parameters : ℕ) (cursor : Cursor) → (cursor.ok ≡ true → parameters ≤ PARAMETERS) →
      (coefs_at s end parameters cursor).cursor.ok ≡ true →
      (cursor.ok ≡ true) × Filled PARAMETERS parameters (pos 0) (pos 0) Small (coefs_at s end parameters cursor).coefs
  unfolding coefs_at coef_step zero_coefs
  coefs_at_right parameters cursor few h =
      let start : CoefsAt = record { cursor = cursor; coefs = zero_coefs } in
      let d =
      filled {A = CoefsAt} {B = ℤ} PARAMETERS parameters (pos 0) (pos 0) Small (λ x. x.cursor.ok) (λ x. x.coefs) (λ x. x ≡ x)
      (coef_step s end parameters) start refl refl few
      (λ i x hi k.
      let field = number_field s end x.cursor in
      let next : CoefsAt = record { cursor = field; coefs = set x.coefs i (signed_of field.word) } in
      step PARAMETERS parameters (pos 0) (pos 0) Small (λ x. x.cursor.ok) (λ x. x.coefs) (λ x. x ≡ x)
      (coef_step s end parameters) i x next (signed_of field.word) refl refl refl refl
      (λ o.
      let r = signed_field_right s end 31768 33768 x.cursor o in
      (r.0, small_number field.word r.1)))
      h in
      (d.0, d.1.1)

  -- the coefficients that are left

  zero_cases : (b : Bool) (cursor : Cursor) → (cond b (zero_field s end cursor) cursor).ok ≡ true → cursor.ok ≡ true
  zero_cases true cursor h = (signed_field_right s end 32768 32768 cursor h).0
  zero_cases false cursor h = h

  zeros_ok :
      (most parameters : ℕ) (cursor : Cursor) (n : ℕ) → (iterate (zero_step s end most parameters) cursor n).ok ≡ true →
      cursor.ok ≡ true
  unfolding iterate zero_step
  zeros_ok most parameters cursor zero h = h
  zeros_ok most parameters cursor (suc n) h =
      zeros_ok most parameters cursor n
      (zero_cases (leb parameters n && ltb n most) (iterate (zero_step s end most parameters) cursor n) h)

  zeros_at_ok : (most parameters : ℕ) (cursor : Cursor) → (zeros_at s end most parameters cursor).ok ≡ true → cursor.ok ≡ true
  unfolding zeros_at
  zeros_at_ok most parameters cursor h = zeros_ok most parameters cursor PARAMETERS h

  -- the fields before the coefficients
  head_right_lem :
      (clocks : ℕ) (cursor : Cursor) →
      let a = byte_field s end 0 clocks cursor in
      let b = right_field s end clocks a in
      (number_field s end (byte_field s end 0 0 (byte_field s end 0 1 b))).ok ≡ true →
      (cursor.ok ≡ true) ×
      (((a.byte ≤ clocks) × ((b.byte ≤ clocks) × (one_zero a.byte b.byte ≡ true))) ×
      Small (signed_of (number_field s end (byte_field s end 0 0 (byte_field s end 0 1 b))).word))
  head_right_lem clocks cursor h =
      let a = byte_field s end 0 clocks cursor in
      let b = right_field s end clocks a in
      let relation = byte_field s end 0 1 b in
      let zeroByte = byte_field s end 0 0 relation in
      let hc = signed_field_right s end 31768 33768 zeroByte h in
      let hz = byte_field_right s end 0 0 relation hc.0 in
      let ho = byte_field_right s end 0 1 b hz.0 in
      let hb = right_field_right clocks a ho.0 in
      let ha = byte_field_right s end 0 clocks cursor hb.0 in
      (ha.0, ((ha.1.1, hb.1), small_number (number_field s end zeroByte).word hc.1))

  module _ (most parameters clocks : ℕ) where
    guard_at_right :
        (cursor : Cursor) → (cursor.ok ≡ true → parameters ≤ PARAMETERS) →
        (guard_at s end most parameters clocks cursor).cursor.ok ≡ true →
        (cursor.ok ≡ true) × GuardRight parameters clocks (guard_at s end most parameters clocks cursor).guard
    unfolding guard_at guard_expr guard_bound
    guard_at_right cursor few h =
        let a = byte_field s end 0 clocks cursor in
        let b = right_field s end clocks a in
        let constant = number_field s end (byte_field s end 0 0 (byte_field s end 0 1 b)) in
        let z = zeros_at_ok most parameters (coefs_at s end parameters constant).cursor h in
        let hall = coefs_at_right parameters constant (λ o. few (head_right_lem clocks cursor o).0) z in
        let hh = head_right_lem clocks cursor hall.0 in (
          hh.0,
          record {
            left = hh.1.0.0;
            right = hh.1.0.1.0;
            one_zero_lem = one_zero_lem a.byte b.byte hh.1.0.1.1;
            some = refl;
            expr = record { constant = hh.1.1; coefs = hall.1 };
          },
        )

    -- guards depend on where they stand alone
    pub guards_at_from :
        (cursor : Cursor) → cursor.ok ≡ true →
        guards_at s end most parameters clocks cursor ≡ guards_at s end most parameters clocks (advanced cursor.at 0)
    unfolding guards_at
    guards_at_from cursor o = rw (byte_field_from s end 0 6 cursor o) refl

    -- the guards of a location or a transition, after their count
    pub guards_at_counted :
        (cursor : Cursor) → (cursor.ok ≡ true → parameters ≤ PARAMETERS) →
        (guards_at s end most parameters clocks cursor).cursor.ok ≡ true →
        ((byte_field s end 0 6 cursor).ok ≡ true) ×
        GuardsRight parameters clocks
        (guards_at s end most parameters clocks cursor).count
        (guards_at s end most parameters clocks cursor).guards
    unfolding guards_at guard_step blank_guards
    guards_at_counted cursor few h =
        let count = byte_field s end 0 6 cursor in
        let start : GuardsAt = record { cursor = count; count = count.byte; guards = blank_guards } in
        let d =
        filled {A = GuardsAt} {B = Guard} 6 count.byte no_guard blank_guard (GuardRight parameters clocks) (λ x. x.cursor.ok)
        (λ x. x.guards) (λ x. (x.count ≡ count.byte) × (x.cursor.ok ≡ true → parameters ≤ PARAMETERS))
        (guard_step s end most parameters clocks) start (refl, λ o. few (byte_field_right s end 0 6 cursor o).0) refl
        (λ o. (byte_field_right s end 0 6 cursor o).1.1)
        (λ i x hi k.
        let read = guard_at s end most parameters clocks x.cursor in
        let next : GuardsAt = record { cursor = read.cursor; count = x.count; guards = set x.guards i read.guard } in
        let right = guard_at_right x.cursor k.1 in
        step 6 count.byte no_guard blank_guard (GuardRight parameters clocks) (λ x. x.cursor.ok) (λ x. x.guards)
        (λ x. (x.count ≡ count.byte) × (x.cursor.ok ≡ true → parameters ≤ PARAMETERS)) (guard_step s end most parameters clocks)
        i x next read.guard (ap (λ (n : ℕ). cond (ltb i n) next x) k.0) (k.0, λ o. k.1 (right o).0) k refl right)
        h in
        (d.0, rw d.1.0.0 d.1.1)

    -- the same, after where they stand
    pub guards_at_right :
        (cursor : Cursor) → (cursor.ok ≡ true → parameters ≤ PARAMETERS) →
        (guards_at s end most parameters clocks cursor).cursor.ok ≡ true →
        (cursor.ok ≡ true) ×
        GuardsRight parameters clocks
        (guards_at s end most parameters clocks cursor).count
        (guards_at s end most parameters clocks cursor).guards
    guards_at_right cursor few h =
        let g = guards_at_counted cursor few h in
        ((byte_field_right s end 0 6 cursor g.0).0, g.1)
