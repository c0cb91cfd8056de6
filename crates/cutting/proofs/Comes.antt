-- What a limit's tree comes to at one valuation: the rules at that valuation.
use Rattle.std.specs.Prelude.{◌≡◌, ◌⊎◌, ◌≢◌, Bool, ◌&&◌, ◌||◌, ℕ, zero, suc, ◌+◌, ◌≤◌, ◌<◌, eqb, leb, ℤ, pos}
use Rattle.std.proofs.Math.Path.{refl, ap, subst, fun_ext}
use Rattle.std.proofs.Common.{sym, ◌∙◌, inl, inr, arith, leb-true, eqb-true, le-leb, eq-eqb}
use mathlib.Core.List.{List, [], ◌∷◌, ◌++◌}
use Rattle.std.proofs.Math.Bool.{true, false, cond}
use Rattle.std.specs.Int.Signed.{le_z}
use Rattle.integer.specs.Apart.{apart}
use Rattle.dbm.specs.Matrix.{Matrix, inside, tighter_of, limited_m, Outcome, void, kept, guarded}
use Rattle.expr.specs.Affine.{Affine, value, dot}
use Rattle.weight.specs.Upper.{Upper, sum_w, tighter_w, zero_w}
use Rattle.expr.specs.Bounds.{at_v, sum_b, tighter_b, Question, yes', no', ask, zero_b}
use Rattle.integer.specs.Bools.{and_left, and_right}
use Rattle.integer.specs.Bools.{same_test}
use Rattle.expr.specs.Laws.{answer, sum_at, tighter_at}
use Rattle.cutting.specs.Cutting.{Bounds, Tree, cut, keep, asks, tested, Place, put_entry, row_from, rows_from}
use Rattle.cutting.specs.Cutting.{places, pushed, guard_tree}
use Rattle.cutting.specs.Held.{at}

-- the path of v down the tree ends in r
abbrev pub Comes : List ℤ → Tree → Outcome → Type 0
Comes v cut r = r ≡ void
Comes v (keep m) r = r ≡ kept (at v m)
Comes v (asks e f) r = Comes v (f (le_z (pos 0) (value e v))) r

-- ---- tests
module _ (v : List ℤ) where
  tested_comes : (a b : Upper Affine) (f : Bool → Tree) (r : Outcome) → Comes v (f (tighter_w (at_v v a) (at_v v b))) r
      → Comes v (tested (tighter_b a b) f) r
  unfolding tested answer
  tested_comes a b f r h = by (tighter_b a b) (tighter_at a b v)
    where
      by : (q : Question) → answer q v ≡ tighter_w (at_v v a) (at_v v b) → Comes v (tested q f) r
      by yes' e = subst (λ (b : Bool). Comes v (f b) r) (sym e) h
      by no' e = subst (λ (b : Bool). Comes v (f b) r) (sym e) h
      by (ask x) e = subst (λ (b : Bool). Comes v (f b) r) (sym e) h

-- ---- rule 3 at one valuation, place by place
-- whether (k, l) is the place, or one of the places
abbrev hit : ℕ → ℕ → Place → Bool
hit k l p = eqb k p.row && eqb l p.column

unfoldable hits : ℕ → ℕ → List Place → Bool
hits k l [] = false
hits k l (p ∷ ps) = hit k l p || hits k l ps

-- what (k, l) would take
abbrev through : ℕ → ℕ → Upper ℤ → Matrix (Upper ℤ) → Matrix (Upper ℤ)
through i j e old k l = sum_w (sum_w (old k i) e) (old j l)

unfoldable put_w : Place → Upper ℤ → Matrix (Upper ℤ) → Matrix (Upper ℤ)
put_w p b m k l = cond (hit k l p) b (m k l)

unfoldable push_w : ℕ → ℕ → Upper ℤ → Matrix (Upper ℤ) → List Place → Matrix (Upper ℤ) → Matrix (Upper ℤ)
push_w i j e old [] new = new
push_w i j e old (p ∷ ps) new =
    push_w i j e old ps
    (cond (tighter_w (through i j e old p.row p.column) (old p.row p.column))
    (put_w p (through i j e old p.row p.column) new) new)

put_cond : (v : List ℤ) (x y : Bool) (b c : Upper Affine) → at_v v (cond x (cond y b c) c) ≡ cond (x && y) (at_v v b) (at_v v c)
put_cond v true true b c = refl
put_cond v true false b c = refl
put_cond v false y b c = refl

put_at : (v : List ℤ) (p : Place) (b : Upper Affine) (m : Bounds) → at v (put_entry p b m) ≡ put_w p (at_v v b) (at v m)
unfolding at put_entry put_w
put_at v p b m = fun_ext (λ k. fun_ext (λ l. put_cond v (eqb k p.row) (eqb l p.column) b (m k l)))

cond_at : (v : List ℤ) (x : Bool) (a b : Bounds) → at v (cond x a b) ≡ cond x (at v a) (at v b)
cond_at v true a b = refl
cond_at v false a b = refl

pushed_comes : (v : List ℤ) (i j : ℕ) (e : Upper Affine) (old : Bounds) (ps : List Place) (new : Bounds)
    → Comes v (pushed i j e old ps new) (kept (push_w i j (at_v v e) (at v old) ps (at v new)))
unfolding pushed push_w at
pushed_comes v i j e old [] new = refl
pushed_comes v i j e old (p ∷ ps) new =
    let s = sum_b (old p.row i) e in
    let t = sum_b s (old j p.column) in
    tested_comes v t (old p.row p.column) _ end
    (go t (sum_at s (old j p.column) v ∙ ap (λ (x : Upper ℤ). sum_w x (at_v v (old j p.column))) (sum_at (old p.row i) e v))
    (pushed_comes v i j e old ps))
  where
    end : Outcome
    end = kept (push_w i j (at_v v e) (at v old) (p ∷ ps) (at v new))

    go : (t : Upper Affine) → at_v v t ≡ through i j (at_v v e) (at v old) p.row p.column
        → ((n : Bounds) → Comes v (pushed i j e old ps n) (kept (push_w i j (at_v v e) (at v old) ps (at v n))))
        → Comes v (pushed i j e old ps (cond (tighter_w (at_v v t) (at_v v (old p.row p.column))) (put_entry p t new) new)) end
    go t h ih =
        let o = at v old p.row p.column in
        let next = cond (tighter_w (at_v v t) o) (put_entry p t new) new in
        subst (λ (m : Matrix (Upper ℤ)). Comes v (pushed i j e old ps next) (kept (push_w i j (at_v v e) (at v old) ps m)))
        (cond_at v (tighter_w (at_v v t) o) (put_entry p t new) new
        ∙ ap (λ (m : Matrix (Upper ℤ)). cond (tighter_w (at_v v t) o) m (at v new)) (put_at v p t new)
        ∙ ap (λ (x : Upper ℤ). cond (tighter_w x o) (put_w p x (at v new)) (at v new)) h)
        (ih next)

-- ---- the places of a matrix
or_left : (b c : Bool) → b ≡ true → (b || c) ≡ true
or_left true c h = refl
or_left false c h = cc

or_right : (b c : Bool) → c ≡ true → (b || c) ≡ true
or_right true c h = refl
or_right false c h = h

or_which : (b c : Bool) → (b || c) ≡ true → (b ≡ true) ⊎ (c ≡ true)
or_which true c h = inl refl
or_which false c h = inr h

and_yes : (b c : Bool) → b ≡ true → c ≡ true → (b && c) ≡ true
and_yes true c h k = k
and_yes false c h k = cc

hits_left : (k l : ℕ) (ps qs : List Place) → hits k l ps ≡ true → hits k l (ps ++ qs) ≡ true
unfolding hits
hits_left k l [] qs h = cc
hits_left k l (p ∷ ps) qs h = by (or_which (hit k l p) (hits k l ps) h) (hits_left k l ps qs)
  where
    by : (hit k l p ≡ true) ⊎ (hits k l ps ≡ true) → (hits k l ps ≡ true → hits k l (ps ++ qs) ≡ true)
        → (hit k l p || hits k l (ps ++ qs)) ≡ true
    by (inl e) ih = or_left (hit k l p) (hits k l (ps ++ qs)) e
    by (inr e) ih = or_right (hit k l p) (hits k l (ps ++ qs)) (ih e)

hits_right : (k l : ℕ) (ps qs : List Place) → hits k l qs ≡ true → hits k l (ps ++ qs) ≡ true
unfolding hits
hits_right k l [] qs h = h
hits_right k l (p ∷ ps) qs h = or_right (hit k l p) (hits k l (ps ++ qs)) (hits_right k l ps qs h)

hits_which : (k l : ℕ) (ps qs : List Place) → hits k l (ps ++ qs) ≡ true → (hits k l ps ≡ true) ⊎ (hits k l qs ≡ true)
unfolding hits
hits_which k l [] qs h = inr h
hits_which k l (p ∷ ps) qs h = by (or_which (hit k l p) (hits k l (ps ++ qs)) h) (hits_which k l ps qs)
  where
    more : (hits k l ps ≡ true) ⊎ (hits k l qs ≡ true) → ((hit k l p || hits k l ps) ≡ true) ⊎ (hits k l qs ≡ true)
    more (inl e) = inl (or_right (hit k l p) (hits k l ps) e)
    more (inr e) = inr e

    by : (hit k l p ≡ true) ⊎ (hits k l (ps ++ qs) ≡ true) → (hits k l (ps ++ qs) ≡ true → (hits k l ps ≡ true) ⊎ (hits k l qs ≡ true))
        → ((hit k l p || hits k l ps) ≡ true) ⊎ (hits k l qs ≡ true)
    by (inl e) ih = inl (or_left (hit k l p) (hits k l ps) e)
    by (inr e) ih = more (ih e)

row_in : (k l c n : ℕ) → c ≤ l → l < c + n → hits k l (row_from k c n) ≡ true
unfolding hits row_from
row_in k l c zero a b = absurd (omega arith)
row_in k l c (suc n) a b = by (eqb l c) refl (row_in k l (suc c) n)
  where
    by : (t : Bool) → eqb l c ≡ t → (suc c ≤ l → l < suc c + n → hits k l (row_from k (suc c) n) ≡ true)
        → (hit k l (record { row = k; column = c }) || hits k l (row_from k (suc c) n)) ≡ true
    by true e ih = or_left (hit k l (record { row = k; column = c })) (hits k l (row_from k (suc c) n))
        (and_yes (eqb k k) (eqb l c) (eq-eqb k k refl) e)
    by false e ih = let d : l ≢ c = λ q. let y = eq-eqb l c q in apart cc in
        or_right (hit k l (record { row = k; column = c })) (hits k l (row_from k (suc c) n)) (ih (omega arith) (omega arith))

row_out : (k l r c n : ℕ) → hits k l (row_from r c n) ≡ true → (k ≡ r) × (c ≤ l) × (l < c + n)
unfolding hits row_from
row_out k l r c zero h = apart cc
row_out k l r c (suc n) h = by (or_which (hit k l (record { row = r; column = c })) (hits k l (row_from r (suc c) n)) h)
    (row_out k l r (suc c) n)
  where
    by : (hit k l (record { row = r; column = c }) ≡ true) ⊎ (hits k l (row_from r (suc c) n) ≡ true)
        → (hits k l (row_from r (suc c) n) ≡ true → (k ≡ r) × (suc c ≤ l) × (l < suc c + n)) → (k ≡ r) × (c ≤ l) × (l < c + suc n)
    by (inl e) ih =
        let a = eqb-true k r (and_left (eqb k r) (eqb l c) e) in
        let b = eqb-true l c (and_right (eqb k r) (eqb l c) e) in
        (a, omega arith, omega arith)
    by (inr e) ih = let (a, b, d) = ih e in (a, omega arith, omega arith)

rows_in : (w k l r n : ℕ) → r ≤ k → k < r + n → l ≤ w → hits k l (rows_from w r n) ≡ true
unfolding rows_from
rows_in w k l r zero a b c = absurd (omega arith)
rows_in w k l r (suc n) a b c = by (eqb k r) refl (rows_in w k l (suc r) n)
  where
    by : (t : Bool) → eqb k r ≡ t → (suc r ≤ k → k < suc r + n → l ≤ w → hits k l (rows_from w (suc r) n) ≡ true)
        → hits k l (row_from r 0 (suc w) ++ rows_from w (suc r) n) ≡ true
    by true e ih = hits_left k l (row_from r 0 (suc w)) (rows_from w (suc r) n)
        (subst (λ (q : ℕ). hits k l (row_from q 0 (suc w)) ≡ true) (eqb-true k r e) (row_in k l 0 (suc w) (omega arith) (omega arith)))
    by false e ih = let d : k ≢ r = λ q. let y = eq-eqb k r q in apart cc in
        hits_right k l (row_from r 0 (suc w)) (rows_from w (suc r) n) (ih (omega arith) (omega arith) c)

rows_out : (w k l r n : ℕ) → hits k l (rows_from w r n) ≡ true → (r ≤ k) × (k < r + n) × (l ≤ w)
unfolding rows_from hits
rows_out w k l r zero h = apart cc
rows_out w k l r (suc n) h = by (hits_which k l (row_from r 0 (suc w)) (rows_from w (suc r) n) h) (rows_out w k l (suc r) n)
  where
    by : (hits k l (row_from r 0 (suc w)) ≡ true) ⊎ (hits k l (rows_from w (suc r) n) ≡ true)
        → (hits k l (rows_from w (suc r) n) ≡ true → (suc r ≤ k) × (k < suc r + n) × (l ≤ w)) → (r ≤ k) × (k < r + suc n) × (l ≤ w)
    by (inl e) ih = let (a, b, c) = row_out k l r 0 (suc w) e in (omega arith, omega arith, omega arith)
    by (inr e) ih = let (a, b, c) = ih e in (omega arith, omega arith, omega arith)

-- the places are those of both indices up to w
places_hit : (w k l : ℕ) → hits k l (places w) ≡ inside w k l
unfolding places
places_hit w k l = same_test (hits k l (rows_from w 0 (suc w))) (inside w k l)
    (λ h. let (a, b, c) = rows_out w k l 0 (suc w) h in and_yes (leb k w) (leb l w) (le-leb k w (omega arith)) (le-leb l w c))
    (λ h. let a = leb-true k w (and_left (leb k w) (leb l w) h) in
    let b = leb-true l w (and_right (leb k w) (leb l w) h) in
    rows_in w k l 0 (suc w) (omega arith) (omega arith) b)

-- ---- rule 3, place by place, is rule 3
cond_same : {A : Type 0} (b : Bool) (a : A) → cond b a a ≡ a
cond_same true a = refl
cond_same false a = refl

settle : (b : Bool) (x o n : Upper ℤ) → (n ≡ o) ⊎ (n ≡ cond b x o) → cond b x n ≡ cond b x o
settle true x o n h = refl
settle false x o n (inl h) = h
settle false x o n (inr h) = h

module _ (i j : ℕ) (e : Upper ℤ) (old : Matrix (Upper ℤ)) where
  abbrev taken : Matrix (Upper ℤ)
  taken k l = tighter_of (through i j e old k l) (old k l)

  -- an entry is still the old one, or has been dealt with
  abbrev Either : Matrix (Upper ℤ) → ℕ → ℕ → Type 0
  Either new k l = (new k l ≡ old k l) ⊎ (new k l ≡ taken k l)

  abbrev next : Place → Matrix (Upper ℤ) → Matrix (Upper ℤ)
  next p new = cond (tighter_w (through i j e old p.row p.column) (old p.row p.column))
      (put_w p (through i j e old p.row p.column) new) new

  cond_put : (b : Bool) (p : Place) (x : Upper ℤ) (new : Matrix (Upper ℤ)) (k l : ℕ)
      → cond b (put_w p x new) new k l ≡ cond b (cond (hit k l p) x (new k l)) (new k l)
  unfolding put_w
  cond_put true p x new k l = refl
  cond_put false p x new k l = refl

  step_at : (p : Place) (new : Matrix (Upper ℤ)) (k l : ℕ) → Either new k l → next p new k l ≡ cond (hit k l p) (taken k l) (new k l)
  step_at p new k l h =
      cond_put (tighter_w (through i j e old p.row p.column) (old p.row p.column)) p
      (through i j e old p.row p.column) new k l ∙ by (hit k l p) refl
    where
      by : (b : Bool) → hit k l p ≡ b
          → cond (tighter_w (through i j e old p.row p.column) (old p.row p.column))
          (cond b (through i j e old p.row p.column) (new k l)) (new k l) ≡ cond b (taken k l) (new k l)
      by false q = cond_same (tighter_w (through i j e old p.row p.column) (old p.row p.column)) (new k l)
      by true q =
          subst (λ (y : ℕ). cond (tighter_w (through i j e old y p.column) (old y p.column)) (through i j e old y p.column)
          (new k l) ≡ taken k l)
          (eqb-true k p.row (and_left (eqb k p.row) (eqb l p.column) q))
          (subst (λ (z : ℕ). cond (tighter_w (through i j e old k z) (old k z)) (through i j e old k z) (new k l) ≡ taken k l)
          (eqb-true l p.column (and_right (eqb k p.row) (eqb l p.column) q))
          (settle (tighter_w (through i j e old k l) (old k l)) (through i j e old k l) (old k l) (new k l) h))

  follow : (new new' : Matrix (Upper ℤ)) (k l : ℕ) → new' k l ≡ new k l → Either new k l → Either new' k l
  follow new new' k l q (inl h) = inl (q ∙ h)
  follow new new' k l q (inr h) = inr (q ∙ h)

  push_at : (ps : List Place) (new : Matrix (Upper ℤ)) (k l : ℕ) → Either new k l
      → push_w i j e old ps new k l ≡ cond (hits k l ps) (taken k l) (new k l)
  unfolding push_w hits
  push_at [] new k l h = refl
  push_at (p ∷ ps) new k l h = by (hit k l p) (step_at p new k l h) (push_at ps (next p new) k l)
    where
      by : (b : Bool) → next p new k l ≡ cond b (taken k l) (new k l)
          → (Either (next p new) k l → push_w i j e old ps (next p new) k l ≡ cond (hits k l ps) (taken k l) (next p new k l))
          → push_w i j e old ps (next p new) k l ≡ cond (b || hits k l ps) (taken k l) (new k l)
      by true s ih = ih (inr s) ∙ ap (λ (x : Upper ℤ). cond (hits k l ps) (taken k l) x) s ∙ cond_same (hits k l ps) (taken k l)
      by false s ih = ih (follow new (next p new) k l s h) ∙ ap (λ (x : Upper ℤ). cond (hits k l ps) (taken k l) x) s

  push_all : (w : ℕ) → push_w i j e old (places w) old ≡ limited_m w i j e old
  unfolding limited_m
  push_all w = fun_ext (λ k. fun_ext (λ l. push_at (places w) old k l (inl refl)
      ∙ ap (λ (b : Bool). cond b (taken k l) (old k l)) (places_hit w k l)))

-- ---- the three rules
pub zero_at : (v : List ℤ) → at_v v zero_b ≡ zero_w
unfolding at_v value dot
zero_at v = refl

pub pushed_limited : (v : List ℤ) (w i j : ℕ) (e : Upper Affine) (m : Bounds)
    → Comes v (pushed i j e m (places w) m) (kept (limited_m w i j (at_v v e) (at v m)))
pushed_limited v w i j e m =
    subst (λ (x : Matrix (Upper ℤ)). Comes v (pushed i j e m (places w) m) (kept x)) (push_all i j (at_v v e) (at v m) w)
    (pushed_comes v i j e m (places w) m)

stays_comes : (v : List ℤ) (w i j : ℕ) (e : Upper Affine) (m : Bounds) (b : Bool)
    → Comes v (cond b (pushed i j e m (places w) m) (keep m)) (kept (cond b (limited_m w i j (at_v v e) (at v m)) (at v m)))
stays_comes v w i j e m true = pushed_limited v w i j e m
stays_comes v w i j e m false = refl

-- a guard's tree comes to what the guard does to the matrix with v put in
pub guard_comes : (v : List ℤ) (w i j : ℕ) (e : Upper Affine) (m : Bounds)
    → Comes v (guard_tree w i j e m) (guarded w i j (at_v v e) (at v m))
unfolding guard_tree guarded at
guard_comes v w i j e m =
    let back = sum_b e (m j i) in
    tested_comes v back zero_b _ end (by (tighter_w (at_v v back) (at_v v zero_b)) (rw (sum_at e (m j i) v, zero_at v) refl))
  where
    stays : Outcome
    stays = kept (cond (tighter_w (at_v v e) (at v m i j)) (limited_m w i j (at_v v e) (at v m)) (at v m))

    end : Outcome
    end = guarded w i j (at_v v e) (at v m)

    by : (b : Bool) → tighter_w (sum_w (at_v v e) (at v m j i)) zero_w ≡ b
        → Comes v (cond b cut (tested (tighter_b e (m i j)) (λ tight. cond tight (pushed i j e m (places w) m) (keep m)))) end
    by true q = ap (λ (b : Bool). cond b void stays) q
    by false q =
        subst (λ (r : Outcome). Comes v (tested (tighter_b e (m i j)) (λ tight. cond tight (pushed i j e m (places w) m) (keep m))) r)
        (sym (ap (λ (b : Bool). cond b void stays) q))
        (tested_comes v e (m i j) (λ tight. cond tight (pushed i j e m (places w) m) (keep m)) stays
        (stays_comes v w i j e m (tighter_w (at_v v e) (at v m i j))))
