-- Two zones that a split has made of one: of these every valuation of that one is held by one, so that their counts sum to its count.
use Rattle.std.specs.Prelude.{◌≡◌, refl, Bool, true, false, ◌&&◌, cond, List, [], ◌∷◌, ◌++◌, map, ℕ, suc, ◌+◌, ◌-◌, ◌*◌, ◌≤◌, ◌<◌, ℤ, pos}
use Rattle.std.specs.Prelude.{length, get_or, take}
use Rattle.std.proofs.Common.{sym, ap, subst, ◌∙◌, arith, take-suc}
use Rattle.std.specs.Int.Signed.{le_z, lt_z}
use Rattle.integer.specs.Order.{le_z_true, le_z_false, true_lt_z, false_lt_z}
use Rattle.expr.specs.Affine.{Affine, value}
use Rattle.expr.specs.Records.{affine, no_expr}
use Rattle.expr.specs.declared.number.Expr.{Expr}
use Rattle.expr.specs.declared.range.Range.{Range}
use Rattle.cells.specs.Cells.{row_at, rows_from}
use Rattle.cells.specs.CellLaws.{rows_length, rows_at, rows_same, rows_taken, row_affine}
use Rattle.inequalities.specs.Flat.{expr_at}
use Rattle.opposites.specs.Opposite.{Halves}
use Rattle.valuations.specs.Valuations.{valuations, satisfies, count_in, count}

-- the first n of some inequalities
abbrev pub first_of : List Expr → ℕ → List Affine
first_of es n = map affine (take n es)

-- the first n inequalities of two zones, of y and z, are together those of one zone with n - 1
pub record Siblings (y z : List Expr) (n : ℕ) : Type 0 where
  pub some : 0 < n
  pub sum : (rs : List Range) → count rs (first_of y n) + count rs (first_of z n) ≡ count rs (first_of y (n - 1))

-- ---- the halves of a split
met_more : (es : List Affine) (e : Affine) (v : List ℤ) → satisfies (es ++ (e ∷ [])) v ≡ (satisfies es v && le_z (pos 0) (value e v))
unfolding satisfies
met_more [] e v = end (le_z (pos 0) (value e v))
  where
    end : (a : Bool) → (a && true) ≡ a
    end true = refl
    end false = refl
met_more (d ∷ es) e v =
    ap (λ (b : Bool). le_z (pos 0) (value d v) && b) (met_more es e v)
    ∙ assoc (le_z (pos 0) (value d v)) (satisfies es v) (le_z (pos 0) (value e v))
  where
    assoc : (a b c : Bool) → (a && (b && c)) ≡ ((a && b) && c)
    assoc true b c = refl
    assoc false b c = refl

-- of two tests that halve a third each valuation passes one, if it passes that
halved : (t a b : List ℤ → Bool) (vs : List (List ℤ))
    → ((v : List ℤ) → (m k j : ℕ) → m + k ≡ j → cond (a v) (suc m) m + cond (b v) (suc k) k ≡ cond (t v) (suc j) j)
    → count_in a vs + count_in b vs ≡ count_in t vs
unfolding count_in
halved t a b [] h = refl
halved t a b (v ∷ vs) h = h v (count_in a vs) (count_in b vs) (count_in t vs) (halved t a b vs h)

module _ (es : List Affine) (e f : Affine) (h : Halves e f) where
  one_of : (v : List ℤ) (m k j : ℕ) → m + k ≡ j
      → cond (satisfies (es ++ (e ∷ [])) v) (suc m) m + cond (satisfies (es ++ (f ∷ [])) v) (suc k) k ≡ cond (satisfies es v) (suc j) j
  one_of v m k j q =
      ap (λ (b : Bool). cond b (suc m) m + cond (satisfies (es ++ (f ∷ [])) v) (suc k) k) (met_more es e v)
      ∙ ap (λ (b : Bool). cond (satisfies es v && le_z (pos 0) (value e v)) (suc m) m + cond b (suc k) k)
      (met_more es f v ∙ ap (λ (b : Bool). satisfies es v && b) (h.one v))
      ∙ by (satisfies es v) (le_z (pos 0) (value e v)) (lt_z (value e v) (pos 0)) (turned (le_z (pos 0) (value e v)) refl)
    where
      turned : (x : Bool) → le_z (pos 0) (value e v) ≡ x → lt_z (value e v) (pos 0) ≡ cond x false true
      turned true r = false_lt_z {x = value e v} {y = pos 0} (le_z_true {x = pos 0} {y = value e v} r)
      turned false r = true_lt_z {x = value e v} {y = pos 0} (le_z_false {x = pos 0} {y = value e v} r)

      by : (a x y : Bool) → y ≡ cond x false true → cond (a && x) (suc m) m + cond (a && y) (suc k) k ≡ cond a (suc j) j
      by true true y r = rw r (omega arith)
      by true false y r = rw r (omega arith)
      by false x y r = q

  count_halves : (rs : List Range) → count rs (es ++ (e ∷ [])) + count rs (es ++ (f ∷ [])) ≡ count rs es
  unfolding count
  count_halves rs = halved (satisfies es) (satisfies (es ++ (e ∷ []))) (satisfies (es ++ (f ∷ []))) (valuations rs) one_of

map_end : (l : List Expr) (e : Expr) → map affine (l ++ (e ∷ [])) ≡ map affine l ++ (affine e ∷ [])
map_end [] e = refl
map_end (x ∷ l) e = ap (λ (m : List Affine). affine x ∷ m) (map_end l e)

last_of : (z : List Expr) (n : ℕ) → n < length z → first_of z (suc n) ≡ first_of z n ++ (affine (get_or z n no_expr) ∷ [])
last_of z n h = ap (map affine) (take-suc z n no_expr h) ∙ map_end (take n z) (get_or z n no_expr)

halved_are : (y z : List Expr) (n : ℕ) → 0 < n → n ≤ length y → n ≤ length z
    → Halves (affine (get_or y (n - 1) no_expr)) (affine (get_or z (n - 1) no_expr))
    → first_of y (n - 1) ≡ first_of z (n - 1) → Siblings y z n
halved_are y z n s a b h q =
    let one : n ≡ suc (n - 1) = omega arith in
    record {
      some = s;
      sum = λ rs. ap (λ (k : ℕ). count rs (first_of y k) + count rs (first_of z k)) one
          ∙ ap (λ (es : List Affine). count rs es + count rs (first_of z (suc (n - 1)))) (last_of y (n - 1) (omega arith))
          ∙ ap (λ (es : List Affine). count rs (first_of y (n - 1) ++ (affine (get_or y (n - 1) no_expr) ∷ [])) + count rs es)
          (last_of z (n - 1) (omega arith)
          ∙ ap (λ (es : List Affine). es ++ (affine (get_or z (n - 1) no_expr) ∷ [])) (sym q))
          ∙ count_halves (first_of y (n - 1)) (affine (get_or y (n - 1) no_expr)) (affine (get_or z (n - 1) no_expr)) h rs;
    }

-- ---- two places of a list of numbers
module _ (l : List ℤ) (p q n : ℕ) where
  abbrev y : List Expr
  y = rows_from l (50 * p) 24

  abbrev z : List Expr
  z = rows_from l (50 * q) 24

  last : (r : ℕ) → n ≤ 24 → 0 < n → affine (get_or (rows_from l (50 * r) 24) (n - 1) no_expr) ≡ expr_at l (50 * r + n - 1)
  last r few some =
      let e : 50 * r + (n - 1) ≡ 50 * r + n - 1 = omega arith in
      ap affine (rows_at l 24 (50 * r) (n - 1) (omega arith) ∙ ap (row_at l) e) ∙ row_affine l (50 * r + n - 1)

  same_rows : n ≤ 24 → 0 < n → ((i : ℕ) → i < 5 * (n - 1) → get_or l (250 * p + i) (pos 0) ≡ get_or l (250 * q + i) (pos 0))
      → first_of y (n - 1) ≡ first_of z (n - 1)
  same_rows few some h =
      ap (map affine) (rows_taken l (n - 1) 24 (50 * p) (omega arith)
      ∙ rows_same l l (n - 1) (50 * q) (50 * p) at
      ∙ sym (rows_taken l (n - 1) 24 (50 * q) (omega arith)))
    where
      at : (i : ℕ) → i < 5 * (n - 1) → get_or l (5 * (50 * p) + i) (pos 0) ≡ get_or l (5 * (50 * q) + i) (pos 0)
      at i g =
          let e : 5 * (50 * p) + i ≡ 250 * p + i = omega arith in
          let f : 5 * (50 * q) + i ≡ 250 * q + i = omega arith in
          rw (e, f) (h i g)

  pub siblings_are : 0 < n → n ≤ 24 → (e f : Affine) → e ≡ expr_at l (50 * p + n - 1) → f ≡ expr_at l (50 * q + n - 1) → Halves e f
      → ((i : ℕ) → i < 5 * (n - 1) → get_or l (250 * p + i) (pos 0) ≡ get_or l (250 * q + i) (pos 0)) → Siblings y z n
  siblings_are some few e f he hf h same =
      halved_are y z n some (omega (arith, rows_length l 24 (50 * p))) (omega (arith, rows_length l 24 (50 * q)))
      (subst (λ (x : Affine). Halves x (affine (get_or z (n - 1) no_expr))) (he ∙ sym (last p few some))
      (subst (λ (x : Affine). Halves e x) (hf ∙ sym (last q few some)) h)) (same_rows few some same)
