-- Counting and searching valuations one parameter at a time, and what the first found and the count say. For any number of parameters.
use Rattle.std.specs.Prelude.{◌≡◌, ◌↔◌, ◌⊎◌, Bool, ◌&&◌, cond, ℤ, negsuc, ◌+ℤ◌, ◌-ℤ◌, ◌*ℤ◌, length, ◌≤ℤ◌, ◌<ℤ◌}
use Rattle.std.proofs.Math.Path.{refl, sym, ap}
use Rattle.std.proofs.Common.{subst, ◌∙◌, inl, inr, arith, length-append}
use mathlib.Core.List.Memᴰ
use mathlib.Core.List.{List, [], ◌∷◌, ◌++◌, map, Memᴰ}
use Rattle.std.proofs.Math.Bool.{true, false}
use Rattle.std.proofs.Math.Option.{Option, none, some}
use Prim.Native.Nat.{ℕ, zero, suc, ◌+◌, ◌*◌, ◌≤◌}
use Rattle.std.proofs.Math.Nat.{zero-add}
use Rattle.std.proofs.Math.IntN.{pos}
use Rattle.std.proofs.lemmas.List.{length-map}
use Rattle.std.specs.Int.Signed.{le_z, ≤ℤ_refl}
use Rattle.integer.specs.Apart.{apart}
use Rattle.integer.specs.Order.{zts, le_z_true, le_z_false}
use Rattle.integer.specs.Parts.{p, n, zs, +-parts, -parts}
use Rattle.integer.specs.Split.{split, split-all}
use Rattle.expr.specs.Affine.{Affine, dot, value}
use Rattle.valuations.specs.Valuations.{span, width, before, valuations, satisfies, first_in, count_in, first, count, widths}
use Rattle.expr.specs.Ranges.{In, Inside}
use Rattle.expr.specs.declared.range.Range.{Range}

-- ---- what a loop over one parameter computes, as what remains of it
-- the sum of f over n numbers from x on
unfoldable pub total : (ℤ → ℕ) → ℤ → ℕ → ℕ
total f x zero = 0
total f x (suc n) = f x + total f (x +ℤ pos 1) n

abbrev pub or_else : Option (List ℤ) → Option (List ℤ) → Option (List ℤ)
or_else none b = b
or_else (some v) b = some v

-- the first that f finds at n numbers from x on
unfoldable pub first_over : (ℤ → Option (List ℤ)) → ℤ → ℕ → Option (List ℤ)
first_over f x zero = none
first_over f x (suc n) = or_else (f x) (first_over f (x +ℤ pos 1) n)

-- what was found for the later parameters, behind the first
abbrev pub lead : ℤ → Option (List ℤ) → Option (List ℤ)
lead x none = none
lead x (some v) = some (x ∷ v)

-- ---- the first parameter put in
-- an expression with its first parameter put in
unfoldable pub fix_l : ℤ → ℤ → List ℤ → Affine
fix_l x c [] = record { constant = c; coefs = [] }
fix_l x c (a ∷ cs) = record { constant = c +ℤ (a *ℤ x); coefs = cs }

unfoldable pub fix : ℤ → Affine → Affine
fix x e = fix_l x e.constant e.coefs

sum_moved : (c d e : ℤ) → (c +ℤ d) +ℤ e ≡ c +ℤ (d +ℤ e)
sum_moved c d e = rw (split c, split d, split e) (simp split-all (omega arith))

fix_l_value : (x c : ℤ) (cs v : List ℤ) → value (fix_l x c cs) v ≡ c +ℤ dot cs (x ∷ v)
unfolding value fix_l dot
fix_l_value x c [] v = refl
fix_l_value x c (a ∷ cs) v = sum_moved c (a *ℤ x) (dot cs v)

fix_value : (x : ℤ) (e : Affine) (v : List ℤ) → value (fix x e) v ≡ value e (x ∷ v)
unfolding fix value
fix_value x e v = fix_l_value x e.constant e.coefs v

pub satisfies_fix : (x : ℤ) (es : List Affine) (v : List ℤ) → satisfies (map (fix x) es) v ≡ satisfies es (x ∷ v)
unfolding satisfies
satisfies_fix x [] v = refl
satisfies_fix x (e ∷ es) v =
    ap (λ (z : ℤ). le_z (pos 0) z && satisfies (map (fix x) es) v) (fix_value x e v)
    ∙ ap (λ (b : Bool). le_z (pos 0) (value e (x ∷ v)) && b) (satisfies_fix x es v)

-- ---- the numbers of a range
next_end : (x y : ℤ) (k : ℕ) → y <ℤ (x +ℤ pos (suc k)) → y <ℤ ((x +ℤ pos 1) +ℤ pos k)
next_end x y k = rw (split x, split y) (simp split-all (omega arith))

pub back_end : (x y : ℤ) (k : ℕ) → y <ℤ ((x +ℤ pos 1) +ℤ pos k) → y <ℤ (x +ℤ pos (suc k))
back_end x y k = rw (split x, split y) (simp split-all (omega arith))

pub own_end : (x : ℤ) (k : ℕ) → x <ℤ (x +ℤ pos (suc k))
own_end x k = rw (split x) (simp split-all (omega arith))

below_end : (x y : ℤ) → x ≤ℤ y → y <ℤ (x +ℤ pos 0) → ⊥
below_end x y = rw (split x, split y) (simp split-all (omega arith))

pub step_up : (x y : ℤ) → (x +ℤ pos 1) ≤ℤ y → x ≤ℤ y
step_up x y = rw (split x, split y) (simp split-all (omega arith))

pub up_step : (x y : ℤ) → x <ℤ y → (x +ℤ pos 1) ≤ℤ y
up_step x y = rw (split x, split y) (simp split-all (omega arith))

-- a range's width, by the number of its members
width_from : (l h y z : ℤ) → (h +ℤ pos 1) -ℤ l ≡ z → l ≤ℤ y → (y <ℤ (l +ℤ pos (p z))) ↔ (y ≤ℤ h)
unfolding p n
width_from l h y (pos k) e g = (
  λ m. omega (zs, -parts (h +ℤ pos 1) l, +-parts h (pos 1), +-parts l (pos k)),
  λ m. omega (zs, -parts (h +ℤ pos 1) l, +-parts h (pos 1), +-parts l (pos k)),
)
width_from l h y (negsuc k) e g = (
  λ m. omega (zs, -parts (h +ℤ pos 1) l, +-parts h (pos 1), +-parts l (pos 0)),
  λ m. omega (zs, -parts (h +ℤ pos 1) l, +-parts h (pos 1), +-parts l (pos 0)),
)

pub width_in : (r : Range) (y : ℤ) → In y r ↔ ((r.low ≤ℤ y) × (y <ℤ (r.low +ℤ pos (width r))))
unfolding width
width_in r y = (
  λ h. (h.least, (width_from r.low r.high y ((r.high +ℤ pos 1) -ℤ r.low) refl h.least).1 h.most),
  λ h. record { least = h.0; most = (width_from r.low r.high y ((r.high +ℤ pos 1) -ℤ r.low) refl h.0).0 h.1 },
)

zero_of : (l h z : ℤ) → (h +ℤ pos 1) -ℤ l ≡ z → h <ℤ l → p z ≡ 0
unfolding p n
zero_of l h (pos k) e g = omega (zs, -parts (h +ℤ pos 1) l, +-parts h (pos 1))
zero_of l h (negsuc k) e g = refl

pub width_zero : (r : Range) → r.high <ℤ r.low → width r ≡ 0
unfolding width
width_zero r h = zero_of r.low r.high ((r.high +ℤ pos 1) -ℤ r.low) refl h

suc_of : (l h z t : ℤ) → (h +ℤ pos 1) -ℤ l ≡ z → (h +ℤ pos 1) -ℤ (l +ℤ pos 1) ≡ t → l ≤ℤ h → p z ≡ suc (p t)
unfolding p n
suc_of l h (pos k) (pos j) e f g =
    omega (zs, -parts (h +ℤ pos 1) l, -parts (h +ℤ pos 1) (l +ℤ pos 1), +-parts h (pos 1), +-parts l (pos 1))
suc_of l h (pos k) (negsuc j) e f g =
    absurd (omega (zs, -parts (h +ℤ pos 1) l, -parts (h +ℤ pos 1) (l +ℤ pos 1), +-parts h (pos 1), +-parts l (pos 1)))
suc_of l h (negsuc k) t e f g = absurd (omega (zs, -parts (h +ℤ pos 1) l, +-parts h (pos 1)))

pub width_suc : (l h : ℤ) → l ≤ℤ h → width (record { low = l; high = h }) ≡ suc (width (record { low = l +ℤ pos 1; high = h }))
unfolding width
width_suc l h g = suc_of l h ((h +ℤ pos 1) -ℤ l) ((h +ℤ pos 1) -ℤ (l +ℤ pos 1)) refl refl g

-- ---- a sum over a range, from its first number to its last
-- all of s is among n numbers from x on
abbrev Covers : ℤ → ℕ → Range → Type 0
Covers x n s = (y : ℤ) → In y s → (x ≤ℤ y) × (y <ℤ (x +ℤ pos n))

-- f is 0 at those of n numbers from x on that are not in s
abbrev Blank : (ℤ → ℕ) → ℤ → ℕ → Range → Type 0
Blank f x n s = (y : ℤ) → x ≤ℤ y → y <ℤ (x +ℤ pos n) → (In y s → ⊥) → f y ≡ 0

covers_next : (x : ℤ) (k : ℕ) (s : Range) → Covers x (suc k) s → (In x s → ⊥) → Covers (x +ℤ pos 1) k s
covers_next x k s c out y m = (go (le_z y x) refl, next_end x y k (c y m).1)
  where
    here : le_z y x ≡ true → ⊥
    here e = out (record { least = low e; most = high e })
      where
        eq : le_z y x ≡ true → x ≡ y
        eq e = let l : x ≤ℤ y = (c y m).0 in omega zts

        low : le_z y x ≡ true → s.low ≤ℤ x
        low e = let l : x ≡ y = eq e in omega zts

        high : le_z y x ≡ true → x ≤ℤ s.high
        high e = let l : x ≡ y = eq e in omega zts

    go : (b : Bool) → le_z y x ≡ b → (x +ℤ pos 1) ≤ℤ y
    go true e = absurd (here e)
    go false e = up_step x y (le_z_false e)

module _ (f : ℤ → ℕ) where
  -- x itself is not in s
  skip_one : (k : ℕ) (x : ℤ) (s : Range)
      → (Covers (x +ℤ pos 1) k s → Blank f (x +ℤ pos 1) k s → total f (x +ℤ pos 1) k ≡ total f s.low (width s))
      → Covers x (suc k) s → Blank f x (suc k) s → (In x s → ⊥) → total f x (suc k) ≡ total f s.low (width s)
  unfolding total
  skip_one k x s ih c b out =
      ap (λ (a : ℕ). a + total f (x +ℤ pos 1) k) (b x (≤ℤ_refl x) (own_end x k) out)
      ∙ zero-add (total f (x +ℤ pos 1) k)
      ∙ ih (covers_next x k s c out) (λ y g h o. b y (step_up x y g) (back_end x y k h) o)

  -- x is the first of s
  take_one : (k : ℕ) (x l h : ℤ)
      → ((s : Range) → Covers (x +ℤ pos 1) k s → Blank f (x +ℤ pos 1) k s → total f (x +ℤ pos 1) k ≡ total f s.low (width s))
      → Covers x (suc k) (record { low = l; high = h }) → Blank f x (suc k) (record { low = l; high = h }) → l ≤ℤ x → x ≤ℤ h
      → total f x (suc k) ≡ total f l (width (record { low = l; high = h }))
  unfolding total
  take_one k x l h ih c b g m =
      ap (λ (a : ℕ). f x + a) (ih (record { low = x +ℤ pos 1; high = h })
      (λ y i. (i.least, next_end x y k (c y (record { least = lower y i; most = i.most })).1))
      (λ y i j o. b y (step_up x y i) (back_end x y k j) (λ q. o (record { least = i; most = q.most }))))
      ∙ sym (ap (λ (z : ℤ). total f z (width (record { low = z; high = h }))) same ∙ ap (λ (j : ℕ). total f x j) (width_suc x h m))
    where
      first_in_lem : x ≤ℤ l
      first_in_lem = (c l (record { least = ≤ℤ_refl l; most = omega zs })).0

      same : l ≡ x
      same = let q : x ≤ℤ l = first_in_lem in omega zs

      lower : (y : ℤ) → In y (record { low = x +ℤ pos 1; high = h }) → l ≤ℤ y
      lower y i = let q : x ≤ℤ y = step_up x y i.least in omega zs

  -- a sum over n numbers is the sum over a part of them, outside of which f is 0
  skip : (n : ℕ) (x : ℤ) (s : Range) → Covers x n s → Blank f x n s → total f x n ≡ total f s.low (width s)
  unfolding total
  skip zero x s c b = sym (ap (λ (j : ℕ). total f s.low j) (width_zero s (go (le_z s.low s.high) refl)))
    where
      go : (d : Bool) → le_z s.low s.high ≡ d → s.high <ℤ s.low
      go true q =
          let t : (x ≤ℤ s.low) × (s.low <ℤ (x +ℤ pos 0)) = c s.low (record { least = ≤ℤ_refl s.low; most = le_z_true q }) in
          absurd (below_end x s.low t.0 t.1)
      go false q = le_z_false q
  skip (suc k) x s c b = go (le_z s.low x) (le_z x s.high) refl refl (λ t. skip k (x +ℤ pos 1) t)
    where
      go : (d g : Bool) → le_z s.low x ≡ d → le_z x s.high ≡ g
          → ((t : Range) → Covers (x +ℤ pos 1) k t → Blank f (x +ℤ pos 1) k t
          → total f (x +ℤ pos 1) k ≡ total f t.low (width t))
          → total f x (suc k) ≡ total f s.low (width s)
      go true true q r ih = take_one k x s.low s.high ih c b (le_z_true q) (le_z_true r)
      go true false q r ih = skip_one k x s (ih s) c b (λ i. omega zts)
      go false g q r ih = skip_one k x s (ih s) c b (λ i. omega zts)

  pub total_skip : (r s : Range) → ((y : ℤ) → In y s → In y r) → ((y : ℤ) → In y r → (In y s → ⊥) → f y ≡ 0)
      → total f r.low (width r) ≡ total f s.low (width s)
  total_skip r s c b = skip (width r) r.low s (λ y i. (width_in r y).0 (c y i)) (λ y g h o. b y ((width_in r y).1 (g, h)) o)

-- ---- the members of the lists: exactly the valuations inside the ranges
span_in : {y : ℤ} (n : ℕ) (x : ℤ) → Memᴰ y (span x n) → (x ≤ℤ y) × (y <ℤ (x +ℤ pos n))
unfolding span
span_in zero x m = absurd (Memᴰ.not-nil m)
span_in {y} (suc n) x m = go (Memᴰ.cases_cons m) (λ i. span_in n (x +ℤ pos 1) i)
  where
    go : (y ≡ x) ⊎ Memᴰ y (span (x +ℤ pos 1) n)
        → (Memᴰ y (span (x +ℤ pos 1) n) → ((x +ℤ pos 1) ≤ℤ y) × (y <ℤ ((x +ℤ pos 1) +ℤ pos n)))
        → (x ≤ℤ y) × (y <ℤ (x +ℤ pos (suc n)))
    go (inl e) ih = rw e (≤ℤ_refl x, own_end x n)
    go (inr i) ih = (step_up x y (ih i).0, back_end x y n (ih i).1)

before_in : {v : List ℤ} (xs : List ℤ) (vs : List (List ℤ)) → Memᴰ v (before xs vs)
    → (x : ℤ) × (u : List ℤ) × Memᴰ x xs × Memᴰ u vs × (x ∷ u ≡ v)
unfolding before
before_in [] vs m = absurd (Memᴰ.not-nil m)
before_in {v} (x ∷ xs) vs m = go (Memᴰ.append_cases (map (λ (u : List ℤ). x ∷ u) vs) m) (λ i. before_in xs vs i)
  where
    go : Memᴰ v (map (λ (u : List ℤ). x ∷ u) vs) ⊎ Memᴰ v (before xs vs)
        → (Memᴰ v (before xs vs) → (y : ℤ) × (u : List ℤ) × Memᴰ y xs × Memᴰ u vs × (y ∷ u ≡ v))
        → (y : ℤ) × (u : List ℤ) × Memᴰ y (x ∷ xs) × Memᴰ u vs × (y ∷ u ≡ v)
    go (inl i) ih = let t = Memᴰ.of_map (λ (u : List ℤ). x ∷ u) vs i in (x, t.0, Memᴰ.head refl, t.1, t.2)
    go (inr i) ih = let t = ih i in (t.0, t.1, Memᴰ.tail t.2, t.3, t.4)

pub valuations_inside : (rs : List Range) (v : List ℤ) → Memᴰ v (valuations rs) → Inside v rs
unfolding valuations
valuations_inside [] v m = subst (λ (w : List ℤ). Inside w []) (sym (Memᴰ.eq_of_singleton m)) tt
valuations_inside (r ∷ rs) v m =
    let t = before_in (span r.low (width r)) (valuations rs) m in
    subst (λ (w : List ℤ). Inside w (r ∷ rs)) t.4
    ((width_in r t.0).1 (span_in (width r) r.low t.2), valuations_inside rs t.1 t.3)

span_all : {y : ℤ} (n : ℕ) (x : ℤ) → x ≤ℤ y → y <ℤ (x +ℤ pos n) → Memᴰ y (span x n)
unfolding span
span_all {y} zero x g h = absurd (below_end x y g h)
span_all {y} (suc n) x g h = go (le_z y x) refl (λ i. span_all n (x +ℤ pos 1) i (next_end x y n h))
  where
    go : (b : Bool) → le_z y x ≡ b → ((x +ℤ pos 1) ≤ℤ y → Memᴰ y (span (x +ℤ pos 1) n)) → Memᴰ y (x ∷ span (x +ℤ pos 1) n)
    go true e ih = let q : y ≡ x = omega zts in Memᴰ.head q
    go false e ih = Memᴰ.tail (ih (up_step x y (le_z_false e)))

before_all : {x : ℤ} {v : List ℤ} (xs : List ℤ) (vs : List (List ℤ)) → Memᴰ x xs → Memᴰ v vs → Memᴰ (x ∷ v) (before xs vs)
unfolding before
before_all [] vs m k = absurd (Memᴰ.not-nil m)
before_all {x} {v} (y ∷ xs) vs m k = go (Memᴰ.cases_cons m) (λ i. before_all xs vs i k)
  where
    go : (x ≡ y) ⊎ Memᴰ x xs → (Memᴰ x xs → Memᴰ (x ∷ v) (before xs vs))
        → Memᴰ (x ∷ v) (map (λ (u : List ℤ). y ∷ u) vs ++ before xs vs)
    go (inl e) ih = Memᴰ.cast (ap (λ (z : ℤ). z ∷ v) e) (Memᴰ.append_left (before xs vs) (Memᴰ.map (λ (u : List ℤ). y ∷ u) k))
    go (inr i) ih = Memᴰ.append_right (map (λ (u : List ℤ). y ∷ u) vs) (ih i)

pub valuations_all : (rs : List Range) (v : List ℤ) → Inside v rs → Memᴰ v (valuations rs)
unfolding valuations
valuations_all [] [] h = Memᴰ.head refl
valuations_all [] (x ∷ v) h = absurd h
valuations_all (r ∷ rs) [] h = absurd h
valuations_all (r ∷ rs) (x ∷ v) h =
    let t : (r.low ≤ℤ x) × (x <ℤ (r.low +ℤ pos (width r))) = (width_in r x).0 h.0 in
    before_all (span r.low (width r)) (valuations rs) (span_all (width r) r.low t.0 t.1) (valuations_all rs v h.1)

pub span_length : (n : ℕ) (x : ℤ) → length (span x n) ≡ n
unfolding span
span_length zero x = refl
span_length (suc n) x = ap suc (span_length n (x +ℤ pos 1))

before_length : (xs : List ℤ) (vs : List (List ℤ)) → length (before xs vs) ≡ length xs * length vs
unfolding before
before_length [] vs = omega arith
before_length (x ∷ xs) vs =
    omega
    (arith, length-append (map (λ (v : List ℤ). x ∷ v) vs) (before xs vs), length-map vs (λ (v : List ℤ). x ∷ v), before_length xs vs)

pub valuations_length : (rs : List Range) → length (valuations rs) ≡ widths rs
unfolding valuations widths
valuations_length [] = refl
valuations_length (r ∷ rs) =
    before_length (span r.low (width r)) (valuations rs)
    ∙ ap (λ (k : ℕ). k * length (valuations rs)) (span_length (width r) r.low)
    ∙ ap (λ (k : ℕ). width r * k) (valuations_length rs)

-- ---- counting over lists
pick_plus : (b : Bool) (m k j : ℕ) → m ≡ k + j → cond b (suc m) m ≡ cond b (suc k) k + j
pick_plus true m k j h = omega arith
pick_plus false m k j h = h

count_append : (t : List ℤ → Bool) (a b : List (List ℤ)) → count_in t (a ++ b) ≡ count_in t a + count_in t b
unfolding count_in
count_append t [] b = omega arith
count_append t (v ∷ a) b = pick_plus (t v) (count_in t (a ++ b)) (count_in t a) (count_in t b) (count_append t a b)

count_map : (t u : List ℤ → Bool) (x : ℤ) (vs : List (List ℤ)) → ((v : List ℤ) → u v ≡ t (x ∷ v))
    → count_in t (map (λ (v : List ℤ). x ∷ v) vs) ≡ count_in u vs
unfolding count_in
count_map t u x [] h = refl
count_map t u x (v ∷ vs) h =
    ap (λ (m : ℕ). cond (t (x ∷ v)) (suc m) m) (count_map t u x vs h)
    ∙ ap (λ (b : Bool). cond b (suc (count_in u vs)) (count_in u vs)) (sym (h v))

pub count_none : (t : List ℤ → Bool) (vs : List (List ℤ)) → ((v : List ℤ) → Memᴰ v vs → t v ≡ false) → count_in t vs ≡ 0
unfolding count_in
count_none t [] h = refl
count_none t (v ∷ vs) h =
    ap (λ (b : Bool). cond b (suc (count_in t vs)) (count_in t vs)) (h v (Memᴰ.head refl))
    ∙ count_none t vs (λ w m. h w (Memᴰ.tail m))

count_fold : (es : List Affine) (vs : List (List ℤ)) (n : ℕ) (x : ℤ)
    → count_in (satisfies es) (before (span x n) vs) ≡ total (λ (y : ℤ). count_in (satisfies (map (fix y) es)) vs) x n
unfolding before span total count_in
count_fold es vs zero x = refl
count_fold es vs (suc n) x =
    count_append (satisfies es) (map (λ (v : List ℤ). x ∷ v) vs) (before (span (x +ℤ pos 1) n) vs)
    ∙ ap (λ (k : ℕ). k + count_in (satisfies es) (before (span (x +ℤ pos 1) n) vs))
    (count_map (satisfies es) (satisfies (map (fix x) es)) x vs (satisfies_fix x es))
    ∙ ap (λ (k : ℕ). count_in (satisfies (map (fix x) es)) vs + k) (count_fold es vs n (x +ℤ pos 1))

-- over the whole range of the first parameter
pub count_whole : (es : List Affine) (r : Range) (rs : List Range)
    → count (r ∷ rs) es ≡ total (λ (x : ℤ). count rs (map (fix x) es)) r.low (width r)
unfolding count valuations
count_whole es r rs = count_fold es (valuations rs) (width r) r.low

-- ---- searching over lists
pick_else : (b : Bool) (v : List ℤ) (m k j : Option (List ℤ)) → m ≡ or_else k j → cond b (some v) m ≡ or_else (cond b (some v) k) j
pick_else true v m k j h = refl
pick_else false v m k j h = h

first_append : (t : List ℤ → Bool) (a b : List (List ℤ)) → first_in t (a ++ b) ≡ or_else (first_in t a) (first_in t b)
unfolding first_in
first_append t [] b = refl
first_append t (v ∷ a) b = pick_else (t v) v (first_in t (a ++ b)) (first_in t a) (first_in t b) (first_append t a b)

pick_lead : (b : Bool) (x : ℤ) (v : List ℤ) (m : Option (List ℤ)) → cond b (some (x ∷ v)) (lead x m) ≡ lead x (cond b (some v) m)
pick_lead true x v m = refl
pick_lead false x v m = refl

first_map : (t u : List ℤ → Bool) (x : ℤ) (vs : List (List ℤ)) → ((v : List ℤ) → u v ≡ t (x ∷ v))
    → first_in t (map (λ (v : List ℤ). x ∷ v) vs) ≡ lead x (first_in u vs)
unfolding first_in
first_map t u x [] h = refl
first_map t u x (v ∷ vs) h =
    ap (λ (m : Option (List ℤ)). cond (t (x ∷ v)) (some (x ∷ v)) m) (first_map t u x vs h)
    ∙ ap (λ (b : Bool). cond b (some (x ∷ v)) (lead x (first_in u vs))) (sym (h v))
    ∙ pick_lead (u v) x v (first_in u vs)

first_empty : (t : List ℤ → Bool) (vs : List (List ℤ)) → ((v : List ℤ) → Memᴰ v vs → t v ≡ false) → first_in t vs ≡ none
unfolding first_in
first_empty t [] h = refl
first_empty t (v ∷ vs) h =
    ap (λ (b : Bool). cond b (some v) (first_in t vs)) (h v (Memᴰ.head refl)) ∙ first_empty t vs (λ w m. h w (Memᴰ.tail m))

first_fold : (es : List Affine) (vs : List (List ℤ)) (n : ℕ) (x : ℤ)
    → first_in (satisfies es) (before (span x n) vs) ≡ first_over (λ (y : ℤ). lead y (first_in (satisfies (map (fix y) es)) vs)) x n
unfolding before span first_over first_in
first_fold es vs zero x = refl
first_fold es vs (suc n) x =
    first_append (satisfies es) (map (λ (v : List ℤ). x ∷ v) vs) (before (span (x +ℤ pos 1) n) vs)
    ∙ ap (λ (o : Option (List ℤ)). or_else o (first_in (satisfies es) (before (span (x +ℤ pos 1) n) vs)))
    (first_map (satisfies es) (satisfies (map (fix x) es)) x vs (satisfies_fix x es))
    ∙ ap (λ (o : Option (List ℤ)). or_else (lead x (first_in (satisfies (map (fix x) es)) vs)) o) (first_fold es vs n (x +ℤ pos 1))

-- over the whole range of the first parameter
pub first_whole : (es : List Affine) (r : Range) (rs : List Range)
    → first (r ∷ rs) es ≡ first_over (λ (x : ℤ). lead x (first rs (map (fix x) es))) r.low (width r)
unfolding first valuations
first_whole es r rs = first_fold es (valuations rs) (width r) r.low

-- ---- tests that say the same of every valuation of a list
pub first_same : (t u : List ℤ → Bool) (vs : List (List ℤ)) → ((v : List ℤ) → Memᴰ v vs → t v ≡ u v) → first_in t vs ≡ first_in u vs
unfolding first_in
first_same t u [] h = refl
first_same t u (v ∷ vs) h = rw (h v (Memᴰ.head refl), first_same t u vs (λ x i. h x (Memᴰ.tail i))) refl

pub count_same : (t u : List ℤ → Bool) (vs : List (List ℤ)) → ((v : List ℤ) → Memᴰ v vs → t v ≡ u v) → count_in t vs ≡ count_in u vs
unfolding count_in
count_same t u [] h = refl
count_same t u (v ∷ vs) h = rw (h v (Memᴰ.head refl), count_same t u vs (λ x i. h x (Memᴰ.tail i))) refl

-- ---- what the first found and the count say
found_passes : (t : List ℤ → Bool) (vs : List (List ℤ)) (v : List ℤ) → first_in t vs ≡ some v → t v ≡ true
unfolding first_in
found_passes t [] v h = cc
found_passes t (w ∷ vs) v h = go (t w) refl h (λ k. found_passes t vs v k)
  where
    go : (b : Bool) → t w ≡ b → cond b (some w) (first_in t vs) ≡ some v → (first_in t vs ≡ some v → t v ≡ true) → t v ≡ true
    go true e k ih = cc
    go false e k ih = ih k

found_member : (t : List ℤ → Bool) (vs : List (List ℤ)) (v : List ℤ) → first_in t vs ≡ some v → Memᴰ v vs
unfolding first_in
found_member t [] v h = apart cc
found_member t (w ∷ vs) v h = go (t w) h (λ k. found_member t vs v k)
  where
    go : (b : Bool) → cond b (some w) (first_in t vs) ≡ some v → (first_in t vs ≡ some v → Memᴰ v vs) → Memᴰ v (w ∷ vs)
    go true k ih = let q : v ≡ w = cc in Memᴰ.head q
    go false k ih = Memᴰ.tail (ih k)

none_passes : (t : List ℤ → Bool) (vs : List (List ℤ)) → first_in t vs ≡ none → (v : List ℤ) → Memᴰ v vs → t v ≡ false
unfolding first_in
none_passes t [] h v m = absurd (Memᴰ.not-nil m)
none_passes t (w ∷ vs) h v m = go (t w) refl h (Memᴰ.cases_cons m) (λ k i. none_passes t vs k v i)
  where
    go : (b : Bool) → t w ≡ b → cond b (some w) (first_in t vs) ≡ none → (v ≡ w) ⊎ Memᴰ v vs
        → (first_in t vs ≡ none → Memᴰ v vs → t v ≡ false) → t v ≡ false
    go true e k i ih = cc
    go false e k (inl q) ih = cc
    go false e k (inr i) ih = ih k i

none_counted : (t : List ℤ → Bool) (vs : List (List ℤ)) → count_in t vs ≡ 0 → first_in t vs ≡ none
unfolding count_in first_in
none_counted t [] h = refl
none_counted t (w ∷ vs) h = go (t w) h (λ k. none_counted t vs k)
  where
    go : (b : Bool) → cond b (suc (count_in t vs)) (count_in t vs) ≡ 0 → (count_in t vs ≡ 0 → first_in t vs ≡ none)
        → cond b (some w) (first_in t vs) ≡ none
    go true k ih = absurd (omega arith)
    go false k ih = ih k

-- what was found meets the inequalities
pub first_sound : (rs : List Range) (es : List Affine) (v : List ℤ) → first rs es ≡ some v → satisfies es v ≡ true
unfolding first
first_sound rs es v h = found_passes (satisfies es) (valuations rs) v h

-- and lies inside the ranges
pub first_inside : (rs : List Range) (es : List Affine) (v : List ℤ) → first rs es ≡ some v → Inside v rs
unfolding first
first_inside rs es v h = valuations_inside rs v (found_member (satisfies es) (valuations rs) v h)

-- where nothing was found, no valuation inside the ranges meets them
pub first_none : (rs : List Range) (es : List Affine) → first rs es ≡ none → (v : List ℤ) → Inside v rs → satisfies es v ≡ false
unfolding first
first_none rs es h v i = none_passes (satisfies es) (valuations rs) h v (valuations_all rs v i)

pub count_zero : (rs : List Range) (es : List Affine) → (count rs es ≡ 0) ↔ (first rs es ≡ none)
unfolding first count
count_zero rs es = (
  none_counted (satisfies es) (valuations rs),
  λ h. count_none (satisfies es) (valuations rs) (none_passes (satisfies es) (valuations rs) h),
)

-- ---- counts and the product of the widths
count_few_in : (t : List ℤ → Bool) (vs : List (List ℤ)) → count_in t vs ≤ length vs
unfolding count_in
count_few_in t [] = omega arith
count_few_in t (v ∷ vs) = by (t v) (count_few_in t vs)
  where
    by : (b : Bool) → count_in t vs ≤ length vs → cond b (suc (count_in t vs)) (count_in t vs) ≤ suc (length vs)
    by true h = omega arith
    by false h = omega arith

-- no count is more than the product of the widths
pub count_few : (rs : List Range) (es : List Affine) → count rs es ≤ widths rs
unfolding count
count_few rs es = let l = count_few_in (satisfies es) (valuations rs) in let k = valuations_length rs in omega arith

count_every : (vs : List (List ℤ)) → count_in (satisfies []) vs ≡ length vs
unfolding count_in satisfies
count_every [] = refl
count_every (v ∷ vs) = ap suc (count_every vs)

-- without inequalities it is that product
pub count_all : (rs : List Range) → count rs [] ≡ widths rs
unfolding count
count_all rs = count_every (valuations rs) ∙ valuations_length rs
