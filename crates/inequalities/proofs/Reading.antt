-- An inequality that is read number by number.
use mathlib.Core.Path.{◌≡◌, refl, ap, sym, ◌∙◌}
use mathlib.Core.Bool.{Bool, true, false}
use mathlib.Core.List.{List, ◌++◌}
use Prim.Native.Nat.{ℕ, suc, ◌+◌, ◌-◌, ◌*◌, ◌≤◌, ◌<◌}
use lib.Dec.{ltb}
use borrow.Author.Tests.{ltb-true, ltb-false}
use Rattle.std.specs.List.{slice_range}
use Rattle.std.proofs.Common.{length-drop}
use Rattle.std.proofs.lemmas.List.{get_or-drop, get_or-replicate, take_all}
use lib.Seq.{get_or-append_right}
use native.Mathlib.Omega.{arith}
use lib.IntN.{ℤ, pos}
use lib.ListN.{length, get_or, drop, set, replicate, get_or-append, get_or-eq_default}
use Rattle.expr.specs.Affine.{Affine}
use Rattle.expr.specs.Records.{PARAMETERS, four, affine}
use Rattle.expr.specs.RecordLaws.{filled_to, filled_next, filled_all}
use Rattle.expr.specs.declared.number.Expr.{Expr}
use Rattle.inequalities.specs.Flat.{expr_at, expr_from}

-- the constant and the first i coefficients of the inequality from s on are there, zeros behind them
pub record ReadTo (l : List ℤ) (s i : ℕ) (e : Expr) : Type 0 where
  pub constant : e.constant ≡ get_or l s (pos 0)
  pub coefs : e.coefs ≡ filled_to (λ j. get_or l (s + 1 + j) (pos 0)) i

pub read_start : (l : List ℤ) (s : ℕ) (x : ℤ) → x ≡ get_or l s (pos 0)
    → ReadTo l s 0 (record { constant = x; coefs = replicate PARAMETERS (pos 0) })
unfolding filled_to
read_start l s x h = record { constant = h; coefs = refl }

pub read_turn : (l : List ℤ) (s i : ℕ) (e : Expr) (x : ℤ) → ReadTo l s i e → x ≡ get_or l (s + 1 + i) (pos 0)
    → ReadTo l s (i + 1) (record { constant = e.constant; coefs = set e.coefs i x })
read_turn l s i e x r h = record {
  constant = r.constant;
  coefs = ap (λ (k : List ℤ). set k i x) r.coefs ∙ filled_next (λ j. get_or l (s + 1 + j) (pos 0)) i x h;
}

affine_path : {a b : ℤ} {k m : List ℤ} → a ≡ b → k ≡ m
    → ◌≡◌ {A = Affine} (record { constant = a; coefs = k }) (record { constant = b; coefs = m })
affine_path e f = λ i. record { constant = e i; coefs = f i }

pub read_all : (l : List ℤ) (s i : ℕ) (e : Expr) → ReadTo l s i e → i ≤ PARAMETERS → (i < PARAMETERS → ⊥) → affine e ≡ expr_from l s
unfolding expr_from
read_all l s i e r h g =
    let a : s + 1 + 0 ≡ s + 1 = omega arith in
    let b : s + 1 + 1 ≡ suc (s + 1) = omega arith in
    let c : s + 1 + 2 ≡ suc (suc (s + 1)) = omega arith in
    let d : s + 1 + 3 ≡ suc (suc (suc (s + 1))) = omega arith in
    affine_path r.constant (ap four (r.coefs ∙ filled_all (λ j. get_or l (s + 1 + j) (pos 0)) i h g) ∙ rw (a, b, c, d) refl)

-- past the end there are zeros
pub past_all : (l : List ℤ) (k : ℕ) → length l ≤ k → affine (record { constant = pos 0; coefs = replicate PARAMETERS (pos 0) }) ≡ expr_at l k
unfolding expr_at
past_all l k h =
    let z : (j : ℕ) → k ≤ j → get_or l j (pos 0) ≡ pos 0 = λ j g. get_or-eq_default l (pos 0) {n = j} (omega arith) in
    rw (
      z (5 * k) (omega arith),
      z (5 * k + 1) (omega arith),
      z (suc (5 * k + 1)) (omega arith),
      z (suc (suc (5 * k + 1))) (omega arith),
      z (suc (suc (suc (5 * k + 1)))) (omega arith),
    ) refl

pub at_from : (l : List ℤ) (k : ℕ) → expr_from l (5 * k) ≡ expr_at l k
unfolding expr_at expr_from
at_from l k = refl

-- zeros stand for what lies past the end
module _ (l xs : List ℤ) (s : ℕ) (row : List ℤ) (e : row ≡ xs ++ drop (length xs) (replicate 5 (pos 0))) (part : xs ≡ slice_range l s (length l))
    (many : length xs + s ≡ length l) where
  filled_row : (i : ℕ) → i < 5 → get_or row i (pos 0) ≡ get_or l (s + i) (pos 0)
  filled_row i few = ap (λ (m : List ℤ). get_or m i (pos 0)) e ∙ by (ltb i (length xs)) refl
    where
      rest : xs ≡ drop s l
      rest = part ∙ take_all (length l - s) (drop s l) (omega (arith, length-drop s l))

      by : (t : Bool) → ltb i (length xs) ≡ t → get_or (xs ++ drop (length xs) (replicate 5 (pos 0))) i (pos 0) ≡ get_or l (s + i) (pos 0)
      by true h =
          get_or-append xs (drop (length xs) (replicate 5 (pos 0))) (pos 0) i (ltb-true i (length xs) h)
          ∙ ap (λ (m : List ℤ). get_or m i (pos 0)) rest
          ∙ get_or-drop s l i (pos 0)
      by false h =
          let past : length xs ≤ i = ltb-false i (length xs) h in
          let j : length xs + (i - length xs) ≡ i = omega arith in
          get_or-append_right xs (drop (length xs) (replicate 5 (pos 0))) i (pos 0) past
          ∙ get_or-drop (length xs) (replicate 5 (pos 0)) (i - length xs) (pos 0)
          ∙ ap (λ (k : ℕ). get_or (replicate 5 (pos 0)) k (pos 0)) j
          ∙ get_or-replicate 5 i (pos 0) (pos 0) few
          ∙ sym (get_or-eq_default l (pos 0) {n = s + i} (omega arith))

row_same : (l row : List ℤ) (s : ℕ) → ((i : ℕ) → i < 5 → get_or row i (pos 0) ≡ get_or l (s + i) (pos 0)) → expr_from row 0 ≡ expr_from l s
unfolding expr_from
row_same l row s h =
    let z : s + 0 ≡ s = omega arith in
    let a : s + 2 ≡ suc (s + 1) = omega arith in
    let b : s + 3 ≡ suc (suc (s + 1)) = omega arith in
    let c : s + 4 ≡ suc (suc (suc (s + 1))) = omega arith in
    rw (h 0 (omega arith), h 1 (omega arith), h 2 (omega arith), h 3 (omega arith), h 4 (omega arith), z, a, b, c) refl

pub padded : (l xs row : List ℤ) (s : ℕ) → row ≡ xs ++ drop (length xs) (replicate 5 (pos 0)) → xs ≡ slice_range l s (length l)
    → length xs + s ≡ length l → expr_from row 0 ≡ expr_from l s
padded l xs row s e p m = row_same l row s (filled_row l xs s row e p m)

pub blank : (l row : List ℤ) (s : ℕ) → row ≡ replicate 5 (pos 0) → length l < s → expr_from row 0 ≡ expr_from l s
blank l row s e h =
    row_same l row s (λ i f. ap (λ (m : List ℤ). get_or m i (pos 0)) e ∙ get_or-replicate 5 i (pos 0) (pos 0) f
    ∙ sym (get_or-eq_default l (pos 0) {n = s + i} (omega arith)))
