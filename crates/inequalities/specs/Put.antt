-- A flat list of numbers with some written from a place on: what was written is read back, and what stood beside it stays.
use Rattle.std.specs.Prelude.{◌≡◌, List, [], ◌∷◌, ◌++◌, ℕ, zero, suc, ◌+◌, ◌-◌, ◌*◌, ◌≤◌, ◌<◌, ℤ, pos, length, get_or, set, take}
use Rattle.std.proofs.Common.{refl, ap, subst, sym, ◌∙◌, arith, drop, append_assoc, take-append-drop, add-one, lt-ltb, le-ltb, le-leb, length-set, get_or-set_same, get_or-set_other}
use Rattle.std.proofs.lemmas.Bool.{lt-leb}
use Rattle.std.proofs.Math.Seq.{take-suc-set}
use Rattle.std.proofs.lemmas.List.{drop-set-lt}
use borrow.Rule.Slice.PartMut.{put_mid, Post-is}
use Rattle.expr.specs.Records.{PARAMETERS, places_from, four, affine}
use Rattle.expr.specs.RecordLaws.{places_same}
use Rattle.expr.specs.declared.number.Expr.{Expr}
use Rattle.inequalities.specs.Flat.{expr_at, exprs_from, put_from, put_in}

pub put_length : (xs l : List ℤ) (p : ℕ) → length (put_from l p xs) ≡ length l
unfolding put_from
put_length [] l p = refl
put_length (x ∷ xs) l p = put_length xs (set l p x) (suc p) ∙ length-set l p x

pub put_before : (xs l : List ℤ) (p i : ℕ) → i < p → get_or (put_from l p xs) i (pos 0) ≡ get_or l i (pos 0)
unfolding put_from
put_before [] l p i h = refl
put_before (x ∷ xs) l p i h =
    put_before xs (set l p x) (suc p) i (omega arith) ∙ get_or-set_other l p i x (pos 0) (λ e. omega arith)

pub put_after : (xs l : List ℤ) (p i : ℕ) → p + length xs ≤ i → get_or (put_from l p xs) i (pos 0) ≡ get_or l i (pos 0)
unfolding put_from
put_after [] l p i h = refl
put_after (x ∷ xs) l p i h =
    put_after xs (set l p x) (suc p) i (omega arith) ∙ get_or-set_other l p i x (pos 0) (λ e. omega arith)

pub put_there : (xs l : List ℤ) (p : ℕ) → p + length xs ≤ length l → places_from (pos 0) (put_from l p xs) p (length xs) ≡ xs
unfolding put_from
put_there [] l p h = refl
put_there (x ∷ xs) l p h =
    let here : get_or (put_from (set l p x) (suc p) xs) p (pos 0) ≡ x =
    put_before xs (set l p x) (suc p) p (omega arith) ∙ get_or-set_same l p x (pos 0) (omega arith) in
    let room : suc p + length xs ≤ length (set l p x) = rw (length-set l p x) (omega arith) in
    λ i. here i ∷ put_there xs (set l p x) (suc p) room i

places_before : (n i : ℕ) (xs l : List ℤ) (p : ℕ) → i + n ≤ p → places_from (pos 0) (put_from l p xs) i n ≡ places_from (pos 0) l i n
places_before zero i xs l p h = refl
places_before (suc n) i xs l p h =
    λ j. put_before xs l p i (omega arith) j ∷ places_before n (suc i) xs l p (omega arith) j

-- the numbers stand between what was before them and what was behind
pub put_between : (xs l : List ℤ) (p q : ℕ) → p + length xs ≡ q → q ≤ length l → put_from l p xs ≡ take p l ++ (xs ++ drop q l)
unfolding put_from
put_between [] l p q e h = let k : q ≡ p = omega arith in rw k (sym (take-append-drop p l))
put_between (x ∷ xs) l p q e h =
    let room : q ≤ length (set l p x) = rw (length-set l p x) h in
    put_between xs (set l p x) (suc p) q (omega arith) room
    ∙ ap (λ (m : List ℤ). m ++ (xs ++ drop q (set l p x))) (take-suc-set l p x (omega arith))
    ∙ append_assoc (take p l) (x ∷ []) (xs ++ drop q (set l p x))
    ∙ ap (λ (m : List ℤ). take p l ++ (x ∷ (xs ++ m))) (drop-set-lt q l p x (omega arith))

-- an inequality whose constant is written, and its coefficients behind it
pub put_whole : (l ys : List ℤ) (p : ℕ) (x : ℤ) (e : Expr) → p + 5 ≤ length l → x ≡ e.constant → ys ≡ e.coefs
    → length e.coefs ≡ PARAMETERS → put_mid (p + 1) (p + 5 - (p + 1)) (set l p x) ys ≡ put_from l p (e.constant ∷ four e.coefs)
unfolding put_from
put_whole l ys p x e h f g long =
    let all : four e.coefs ≡ e.coefs = subst (λ (n : ℕ). places_from (pos 0) e.coefs 0 n ≡ e.coefs) long (places_same (pos 0) e.coefs) in
    let m : List ℤ = set l p e.constant in
    let room : p + 5 ≤ length m = rw (length-set l p e.constant) h in
    let behind = Post-is (p + 1) (p + 5) m (omega arith) in
    let next : p + 1 ≡ suc p = omega arith in
    rw (f, g, behind, next)
    (sym (put_between e.coefs m (suc p) (p + 5) (omega arith) room) ∙ ap (put_from m (suc p)) (sym all))

-- ---- inequality k, in a list with room for 25
module _ (l : List ℤ) (k : ℕ) (e : Expr) where
  abbrev numbers : List ℤ
  numbers = e.constant ∷ four e.coefs

  pub put_room : k < 25 → 125 ≤ length l → put_in l k e ≡ put_from l (5 * k) numbers
  unfolding put_in
  put_room h g = rw (lt-ltb k 25 h, le-leb 125 (length l) g) refl

  pub put_past : 25 ≤ k → put_in l k e ≡ l
  unfolding put_in
  put_past h = rw (le-ltb k 25 h) refl

  pub put_short : k < 25 → length l < 125 → put_in l k e ≡ l
  unfolding put_in
  put_short h g = rw (lt-ltb k 25 h, lt-leb 125 (length l) g) refl

module _ (l : List ℤ) (k : ℕ) (e : Expr) (few : k < 25) (long : length l ≡ 125) where
  is_put : put_in l k e ≡ put_from l (5 * k) (numbers l k e)
  is_put = put_room l k e few (omega (arith, long))

  read_back : places_from (pos 0) (put_from l (5 * k) (numbers l k e)) (5 * k) 5 ≡ numbers l k e
  read_back = put_there (numbers l k e) l (5 * k) (omega (arith, long))

  pub written_at : expr_at (put_in l k e) k ≡ affine e
  unfolding expr_at
  written_at =
      rw (is_put, add-one (5 * k))
      (λ i. record { constant = get_or (read_back i) 0 (pos 0); coefs = drop 1 (read_back i) })

  written_before : (j : ℕ) → j < k → expr_at (put_in l k e) j ≡ expr_at l j
  unfolding expr_at
  written_before j h =
      rw is_put
      (λ i. record {
        constant = put_before (numbers l k e) l (5 * k) (5 * j) (omega arith) i;
        coefs = places_before PARAMETERS (5 * j + 1) (numbers l k e) l (5 * k) (omega arith) i;
      })

  pub exprs_before : (n j : ℕ) → j + n ≤ k → exprs_from (put_in l k e) j n ≡ exprs_from l j n
  unfolding exprs_from
  exprs_before zero j h = refl
  exprs_before (suc n) j h = λ i. written_before j (omega arith) i ∷ exprs_before n (suc j) (omega arith) i

  pub written_length : length (put_in l k e) ≡ 125
  written_length = rw is_put (put_length (numbers l k e) l (5 * k) ∙ long)

  -- what stands before it stays
  pub written_keeps : exprs_from (put_in l k e) 0 k ≡ exprs_from l 0 k
  written_keeps = exprs_before k 0 (omega arith)
