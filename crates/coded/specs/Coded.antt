-- Laws that read and write the code's records of what the cutting lists (Records). CodedGuard and CodedWalk say with these that what the
-- code does (Guarded, Walked) is the cutting.
use Rattle.std.specs.Prelude.{◌≡◌, List, [], ◌∷◌, ◌++◌, map, Bool, true, false, cond, ℕ, suc, ◌+◌, ◌-◌, ◌*◌, ◌/◌, ◌%◌, ◌≤◌, ◌<◌, eqb, length, get_or, set, take, replicate}
use Rattle.std.proofs.Math.Path.{refl}
use Rattle.std.proofs.Common.{sym, ap, ◌∙◌, arith, eqb-true, length-append, length-set, get_or-set_same, get_or-set_other, ext_get_or}
use Rattle.std.proofs.lemmas.Bool.{eqb-false}
use Rattle.cutting.specs.Cutting.{Bounds, put_entry}
use Rattle.expr.specs.Affine.{Affine}
use Rattle.weight.specs.Upper.{Upper}
use Rattle.expr.specs.Records.{bound_of, zero_bound}
use Rattle.expr.specs.declared.bound.Bound.{Bound}
use Rattle.dbm.specs.Entries.{up_to_4}
use Rattle.constrain.specs.Rules.{entry_c}
use Rattle.coded.specs.Records.{row_of, bounds_of}

-- ---- a list and blanks up to n
pub length_more : {A : Type 0} (l : List A) (a : A) → length (l ++ (a ∷ [])) ≡ suc (length l)
length_more l a = let c = length-append l (a ∷ []) in omega arith

module _ {A B : Type 0} (f : A → B) (blank : B) where
  set_blank : (l : List A) (a : A) (k : ℕ)
      → set (map f l ++ replicate (suc k) blank) (length l) (f a) ≡ map f (l ++ (a ∷ [])) ++ replicate k blank
  set_blank [] a k = refl
  set_blank (x ∷ l) a k = ap (λ (r : List B). f x ∷ r) (set_blank l a k)

  -- one more takes the first blank place
  pub one_more : (n : ℕ) (l : List A) (a : A) → length l < n
      → set (map f l ++ replicate (n - length l) blank) (length l) (f a)
      ≡ map f (l ++ (a ∷ [])) ++ replicate (n - length (l ++ (a ∷ []))) blank
  one_more n l a h =
      let c = length_more l a in
      let e : n - length l ≡ suc (n - length (l ++ (a ∷ []))) = omega arith in
      rw e (set_blank l a (n - length (l ++ (a ∷ []))))

  -- the list itself
  pub taken : (k : ℕ) (l : List A) → take (length l) (map f l ++ replicate k blank) ≡ map f l
  taken k [] = refl
  taken k (x ∷ l) = ap (λ (r : List B). f x ∷ r) (taken k l)

-- ---- entries of a matrix
module _ (m : Bounds) where
  pub bounds_length : length (bounds_of m) ≡ 25
  unfolding bounds_of row_of
  bounds_length = refl

  in_row : (k : ℕ) → get_or (bounds_of m) (5 * k + 0) zero_bound ≡ bound_of (m k 0) → get_or (bounds_of m) (5 * k + 1) zero_bound ≡ bound_of (m k 1)
      → get_or (bounds_of m) (5 * k + 2) zero_bound ≡ bound_of (m k 2) → get_or (bounds_of m) (5 * k + 3) zero_bound ≡ bound_of (m k 3)
      → get_or (bounds_of m) (5 * k + 4) zero_bound ≡ bound_of (m k 4) → (l : ℕ) → l ≤ 4 → entry_c (bounds_of m) k l ≡ bound_of (m k l)
  in_row k = up_to_4 (λ l. entry_c (bounds_of m) k l ≡ bound_of (m k l))

  pub entry_at : (k l : ℕ) → k ≤ 4 → l ≤ 4 → entry_c (bounds_of m) k l ≡ bound_of (m k l)
  unfolding bounds_of row_of
  entry_at k l hk hl = up_to_4 (λ k. (l : ℕ) → l ≤ 4 → entry_c (bounds_of m) k l ≡ bound_of (m k l))
      (in_row 0 refl refl refl refl refl) (in_row 1 refl refl refl refl refl) (in_row 2 refl refl refl refl refl)
      (in_row 3 refl refl refl refl refl) (in_row 4 refl refl refl refl refl) k hk l hl

  pub get_d_at : (x : ℕ) → x < 25 → get_or (bounds_of m) x zero_bound ≡ bound_of (m (x / 5) (x % 5))
  get_d_at x h =
      let e : x ≡ 5 * (x / 5) + x % 5 = omega arith in
      let a : x / 5 ≤ 4 = omega arith in
      let b : x % 5 ≤ 4 = omega arith in
      ap (λ (y : ℕ). get_or (bounds_of m) y zero_bound) e ∙ entry_at (x / 5) (x % 5) a b

-- a list with the entries of a matrix is the matrix
pub bounds_are : (l : List Bound) (m : Bounds) → length l ≡ 25 → ((x : ℕ) → x < 25 → get_or l x zero_bound ≡ bound_of (m (x / 5) (x % 5)))
    → l ≡ bounds_of m
bounds_are l m h f =
    ext_get_or zero_bound l (bounds_of m) (h ∙ sym (bounds_length m)) (λ x g. let k : x < 25 = rw h at g in f x k ∙ sym (get_d_at m x k))

-- one entry put in
pub set_entry : (m : Bounds) (x : ℕ) (b : Upper Affine) → x < 25
    → set (bounds_of m) x (bound_of b) ≡ bounds_of (put_entry (record { row = x / 5; column = x % 5 }) b m)
unfolding put_entry
set_entry m x b h = bounds_are (set (bounds_of m) x (bound_of b)) (put_entry (record { row = x / 5; column = x % 5 }) b m)
    (length-set (bounds_of m) x (bound_of b) ∙ bounds_length m) (λ y g. by y g (eqb (y / 5) (x / 5)) (eqb (y % 5) (x % 5)) refl refl)
  where
    same : (y : ℕ) → x ≡ y → get_or (set (bounds_of m) x (bound_of b)) y zero_bound ≡ bound_of b
    same y e = let k : x < length (bounds_of m) = rw (bounds_length m) h in rw (← e) (get_or-set_same (bounds_of m) x (bound_of b) zero_bound k)

    other : (y : ℕ) → y < 25 → (y ≡ x → ⊥) → get_or (set (bounds_of m) x (bound_of b)) y zero_bound ≡ bound_of (m (y / 5) (y % 5))
    other y g e = get_or-set_other (bounds_of m) x y (bound_of b) zero_bound e ∙ get_d_at m y g

    by : (y : ℕ) → y < 25 → (s t : Bool) → eqb (y / 5) (x / 5) ≡ s → eqb (y % 5) (x % 5) ≡ t
        → get_or (set (bounds_of m) x (bound_of b)) y zero_bound ≡ bound_of (cond s (cond t b (m (y / 5) (y % 5))) (m (y / 5) (y % 5)))
    by y g true true c d =
        let i = eqb-true (y / 5) (x / 5) c in
        let j = eqb-true (y % 5) (x % 5) d in
        same y (omega arith)
    by y g true false c d = other y g (λ e. eqb-false (y % 5) (x % 5) d (ap (λ (k : ℕ). k % 5) e))
    by y g false t c d = other y g (λ e. eqb-false (y / 5) (x / 5) c (ap (λ (k : ℕ). k / 5) e))
