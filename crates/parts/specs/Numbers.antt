-- Verdicts and halts by their numbers. A verdict is no (0), yes (1), a split (3), a 25th inequality (8), or another number, which stops a
-- part as it is; a part goes on (0), is cut (1), is kept (2), splits (3), would with a 25th inequality (8), or stops with its number.
use Rattle.std.specs.Prelude.{◌≡◌, Bool, true, false, cond, ◌&&◌, ℕ, zero, suc, ◌+◌, ◌≤◌, min, ltb, eqb}
use Rattle.std.proofs.Math.Path.{refl, sym, ap}
use Rattle.std.proofs.Common.{◌∙◌, ne_eqb}
use native.Mathlib.Omega.{arith}
use borrow.Author.Tests.{lt-ltb, le-ltb}
use Rattle.expr.specs.declared.bound.Bound.{Bound}
use Rattle.expr.specs.declared.bound.Test.{Test}
use Rattle.expr.specs.declared.number.Expr.{Expr}
use Rattle.parts.specs.Parts.{halt_of, stopped_by, next, after_c, enters_c, question_c, turn_c, tests_in}
use Rattle.parts.specs.declared.part.Halt.TheVariants as stops
use Rattle.parts.specs.declared.part.Next.{Next}
use Rattle.zones.specs.Settled.{told_of, told_settled, told_yes}
use Rattle.zones.specs.declared.told.Told.TheVariants as kinds

-- where a verdict's number leaves a part: it stops with it, but for no and yes
abbrev pub after_n : ℕ → ℕ → Next
after_n phase kind =
    cond (ltb 1 kind) (next phase (halt_of kind))
    (cond (ltb phase 1) (cond (ltb kind 1) (next 1 (halt_of 0)) (next 27 (halt_of 1)))
    (cond (ltb phase 2) (cond (ltb kind 1) (next 27 (halt_of 2)) (next 2 (halt_of 0)))
    (cond (ltb phase 26) (next (phase + 1) (halt_of 0)) (next 27 (halt_of 2)))))

-- ---- a number from 4 on
module _ (n : ℕ) (h : 4 ≤ n) where
  large_told : told_of n ≡ cond (eqb n 8) kinds.Full (kinds.Other n)
  large_told = rw (ne_eqb n 0 (λ e. omega arith), ne_eqb n 1 (λ e. omega arith), ne_eqb n 3 (λ e. omega arith)) refl

  pub large_halt : halt_of n ≡ cond (eqb n 8) stops.Full (stops.Other n)
  large_halt =
      rw (
        ne_eqb n 0 (λ e. omega arith),
        ne_eqb n 1 (λ e. omega arith),
        ne_eqb n 2 (λ e. omega arith),
        ne_eqb n 3 (λ e. omega arith),
      )
      refl

  large_stopped : stopped_by n ≡ stops.Other n
  large_stopped = rw (ne_eqb n 2 (λ e. omega arith)) refl

  large_after : (phase : ℕ) → after_c phase (told_of n) ≡ next phase (halt_of n)
  unfolding after_c
  large_after phase = ap (after_c phase) large_told ∙ by (eqb n 8) ∙ ap (next phase) (sym large_halt)
    where
      by : (t : Bool) → after_c phase (cond t kinds.Full (kinds.Other n)) ≡ next phase (cond t stops.Full (stops.Other n))
      by true = refl
      by false = ap (next phase) large_stopped

  large_settled : told_settled (told_of n) ≡ false
  large_settled = ap told_settled large_told ∙ by (eqb n 8)
    where
      by : (t : Bool) → told_settled (cond t kinds.Full (kinds.Other n)) ≡ false
      by true = refl
      by false = refl

  large_yes : told_yes (told_of n) ≡ false
  large_yes = ap told_yes large_told ∙ by (eqb n 8)
    where
      by : (t : Bool) → told_yes (cond t kinds.Full (kinds.Other n)) ≡ false
      by true = refl
      by false = refl

-- ---- the verdict of a number
pub after_number : (phase kind : ℕ) → after_c phase (told_of kind) ≡ after_n phase kind
unfolding after_c
after_number phase zero = refl
after_number phase (suc zero) = refl
after_number phase (suc (suc zero)) = refl
after_number phase (suc (suc (suc zero))) = refl
after_number phase (suc (suc (suc (suc n)))) =
    let m : ℕ = suc (suc (suc (suc n))) in
    let h : 4 ≤ m = omega arith in
    large_after m h phase ∙ sym (picked h)
  where
    picked : {m : ℕ} → 4 ≤ m → after_n phase m ≡ next phase (halt_of m)
    picked {m = m} h = rw (lt-ltb 1 m (omega arith)) refl

pub settled_number : (kind : ℕ) → told_settled (told_of kind) ≡ ltb kind 2
settled_number zero = refl
settled_number (suc zero) = refl
settled_number (suc (suc zero)) = refl
settled_number (suc (suc (suc zero))) = refl
settled_number (suc (suc (suc (suc n)))) = large_settled (suc (suc (suc (suc n)))) (omega arith) ∙ sym (le-ltb (suc (suc (suc (suc n)))) 2 (omega arith))

pub yes_number : (kind : ℕ) → told_yes (told_of kind) ≡ eqb kind 1
yes_number zero = refl
yes_number (suc zero) = refl
yes_number (suc (suc zero)) = refl
yes_number (suc (suc (suc zero))) = refl
yes_number (suc (suc (suc (suc n)))) = large_yes (suc (suc (suc (suc n)))) (omega arith) ∙ sym (ne_eqb (suc (suc (suc (suc n)))) 1 (λ e. omega arith))

pub turn_number : (phase tests : ℕ) (test : Expr) (was : Bound) (t : Test) (via : Bound) (kind : ℕ)
    → turn_c phase tests test was t via (told_of kind)
    ≡ record {
      phase = (after_n phase kind).phase;
      halt = (after_n phase kind).halt;
      tests = min tests 26 + tests_in t;
      test = cond (ltb kind 2) test (question_c t);
      entry = cond (ltb 1 phase && eqb kind 1) via was;
    }
unfolding turn_c enters_c
turn_number phase tests test was t via kind =
    rw (after_number phase kind, settled_number kind, yes_number kind) refl
