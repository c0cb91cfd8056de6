-- The route as the code reads it, byte by byte up to the count.
use Prim.Native.Nat.{ℕ, ◌+◌, ◌<◌, ◌≤◌, min}
use mathlib.Core.Path.{◌≡◌, refl, sym, subst, ◌∙◌}
use mathlib.Core.Bool.{Bool, true, false}
use mathlib.Core.List.{List}
use native.Mathlib.Omega.{arith}
use native.Mathlib.Numerals.{add-one}
use lib.Dec.{ltb}
use lib.ListN.{set, replicate}
use borrow.Author.Tests.{ltb-true, ltb-false, lt-ltb, le-ltb}
use Rattle.cursor.specs.declared.Cursor.{Cursor}
use Rattle.cursor.specs.Cursor.{byte_field, below_field, iterate}
use Rattle.cursor_laws.specs.Counted.{rests}
use Rattle.route.specs.Route.{route_step, route_read}

module _ (s : List ℕ) (end transitions : ℕ) (count : Cursor) where
  -- after i bytes: where reading stands, and the list
  abbrev pub Read : ℕ → Cursor → List ℕ → Type 0
  Read i here list =
      record { cursor = here; count = count.byte; list = list }
      ≡ iterate (route_step s end transitions) (record { cursor = count; count = count.byte; list = replicate 32 0 }) i

  pub read_begun : Read 0 count (replicate 32 0)
  unfolding iterate
  read_begun = refl

  pub read_more :
      (i : ℕ) (here next : Cursor) (list : List ℕ) → i < count.byte → Read i here list → next ≡ below_field s end transitions here →
      Read (i + 1) next (set list i next.byte)
  unfolding iterate route_step
  read_more i here next list h k e =
      let t = lt-ltb i count.byte h in
      rw add-one (rw (sym k) (rw t (rw e refl)))

  done_cases :
      (i n : ℕ) (here : Cursor) (list : List ℕ) (b : Bool) → ltb count.byte 32 ≡ b → n ≡ min count.byte 32 → i ≤ n → (i < n → ⊥) →
      Read i here list → Read 32 here list
  unfolding route_step
  done_cases i n here list true f e l g k =
      let few = ltb-true count.byte 32 f in
      sym
      (rests (route_step s end transitions) (record { cursor = count; count = count.byte; list = replicate 32 0 }) i 32
      (record { cursor = here; count = count.byte; list = list }) (omega arith) (sym k)
      (λ j h. let t = le-ltb j count.byte (omega arith) in rw t refl))
  done_cases i n here list false f e l g k =
      let many = ltb-false count.byte 32 f in
      let same : i ≡ 32 = omega arith in
      subst (λ (j : ℕ). Read j here list) same k

pub read_done :
    (s : List ℕ) (end transitions : ℕ) (cursor count : Cursor) (i n : ℕ) (here : Cursor) (list : List ℕ) →
    count ≡ byte_field s end 0 32 cursor →
    n ≡ min count.byte 32 → i ≤ n → (i < n → ⊥) → Read s end transitions count i here list →
    record { cursor = here; count = count.byte; list = list } ≡ route_read s end transitions cursor
unfolding route_read
read_done s end transitions cursor count i n here list c e l g k =
    let all = done_cases s end transitions count i n here list (ltb count.byte 32) refl e l g k in
    all ∙ rw c refl
