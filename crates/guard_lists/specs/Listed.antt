-- A list of guards, after its count, where each guard was read straight from its bytes.
use Rattle.std.specs.Prelude.{ℕ, ◌+◌, ◌*◌, ◌≤◌, ◌<◌, min, ◌≡◌, List, Bool, ltb, set}
use Rattle.std.proofs.Math.Path.{refl, sym, ap, subst}
use Rattle.std.proofs.Math.Bool.{true, false}
use native.Mathlib.Omega.{arith}
use Rattle.std.proofs.Math.Numerals.{add-one}
use borrow.Author.Tests.{ltb-true, ltb-false, lt-ltb, le-ltb}
use Rattle.cursor.specs.declared.Cursor.{Cursor}
use Rattle.cursor.specs.Cursor.{iterate}
use Rattle.cursor_laws.specs.Counted.{rests}
use Rattle.guards.specs.declared.Guard.{Guard}
use Rattle.guards.specs.declared.GuardsAt.{GuardsAt}
use Rattle.guards.specs.Guards.{blank_guards, guard_step}
use Rattle.guard_bytes.specs.Plain.{PlainRead}

unfoldable pub guards_from : List ℕ → ℕ → ℕ → ℕ → ℕ → Cursor → ℕ → GuardsAt
guards_from s end most parameters clocks count i =
    iterate (guard_step s end most parameters clocks) (record { cursor = count; count = count.byte; guards = blank_guards }) i

module _ (s : List ℕ) (end most parameters clocks : ℕ) (count : Cursor) where
  -- after i guards, all of them right: where reading stands, and the guards
  abbrev pub Stands : ℕ → ℕ → ℕ → ℕ → List Guard → Type 0
  Stands i at byte word guards =
      record { cursor = record { ok = true; at = at; byte = byte; word = word }; count = count.byte; guards = guards }
      ≡ guards_from s end most parameters clocks count i

  pub guards_begun : count.ok ≡ true → Stands 0 count.at count.byte count.word blank_guards
  unfolding guards_from iterate
  guards_begun o =
      let e : record { ok = true; at = count.at; byte = count.byte; word = count.word } ≡ count =
      ap (λ (b : Bool). record { ok = b; at = count.at; byte = count.byte; word = count.word }) (sym o) in
      ap (λ (x : Cursor). record { cursor = x; count = count.byte; guards = blank_guards }) e

  pub guards_more :
      (i at byte word : ℕ) (guards : List Guard) (last : ℕ) (guard : Guard) → i < count.byte → Stands i at byte word guards →
      PlainRead s end most parameters clocks at last guard →
      Stands (i + 1) (at + (6 + 2 * most)) 0 last (set guards i guard)
  unfolding guards_from iterate guard_step
  guards_more i at byte word guards last guard h k p =
      let t = lt-ltb i count.byte h in
      let read = p.read (record { ok = true; at = at; byte = byte; word = word }) refl refl in
      let sum : at + (6 + 2 * most) ≡ at + 6 + 2 * most = omega arith in
      rw add-one (rw (sym k) (rw t (rw (read, sum) refl)))

  done_cases :
      (i n at byte word : ℕ) (guards : List Guard) (b : Bool) → ltb count.byte 6 ≡ b → n ≡ min count.byte 6 → i ≤ n → (i < n → ⊥) →
      Stands i at byte word guards → Stands 6 at byte word guards
  unfolding guards_from guard_step
  done_cases i n at byte word guards true f e l g k =
      let few = ltb-true count.byte 6 f in
      sym
      (rests (guard_step s end most parameters clocks) (record { cursor = count; count = count.byte; guards = blank_guards }) i 6
      (record { cursor = record { ok = true; at = at; byte = byte; word = word }; count = count.byte; guards = guards })
      (omega arith) (sym k) (λ j h. let t = le-ltb j count.byte (omega arith) in rw t refl))
  done_cases i n at byte word guards false f e l g k =
      let many = ltb-false count.byte 6 f in
      let same : i ≡ 6 = omega arith in
      subst (λ (j : ℕ). Stands j at byte word guards) same k

  pub guards_done :
      (i n at byte word : ℕ) (guards : List Guard) → n ≡ min count.byte 6 → i ≤ n → (i < n → ⊥) → Stands i at byte word guards →
      Stands 6 at byte word guards
  guards_done i n at byte word guards e l g k = done_cases i n at byte word guards (ltb count.byte 6) refl e l g k
