-- What the code asks under one guard is what the cutting asks: the code's tree of tests (Trees) is the cutting's, test for test and
-- matrix for matrix, if the guard's numbers and the entries are small.
use Rattle.std.specs.Prelude.{◌≡◌, Bool, get_or, set}
use Rattle.std.proofs.Math.Path.{refl, ap, subst, fun_ext}
use Rattle.std.proofs.Common.{sym, ◌∙◌, arith, ltb-false}
use mathlib.Core.List.{List, [], ◌∷◌}
use Rattle.std.proofs.Math.Bool.{true, false, cond}
use Prim.Native.Nat.{ℕ, zero, suc, ◌+◌, ◌/◌, ◌%◌, ◌≤◌, ◌<◌}
use Rattle.std.proofs.Math.Dec.{ltb}
use Rattle.cutting.specs.Cutting.{Bounds, Tree, cut, keep, asks, tested, Place, put_entry, row_from, rows_from, places, pushed, guard_tree}
use Rattle.expr.specs.Bounds.{zero_b, sum_b, tighter_b, Question, yes', no', ask, saturated_b}
use Rattle.expr.specs.Affine.{Affine}
use Rattle.weight.specs.Upper.{Upper}
use Rattle.expr.specs.Records.{expr_of, bound_as, bound_of, test, no_test, zero_bound}
use Rattle.expr.specs.declared.bound.Bound.{Bound}
use Rattle.expr.specs.declared.bound.Test.{Test}
use Rattle.dbm.specs.Entries.{up_to_4}
use Rattle.guards.specs.declared.Guard.{Guard}
use Rattle.sizes.specs.SizeLaws.{at_most_b_more, zero_size}
use Rattle.sizes.specs.Sizes.{AtMostB, AtMostM, LIMIT, ENTRY, SUM, TEST, SmallGuard, SmallRules}
use Rattle.sizes.proofs.SizesProof.{numbers_small}
use Rattle.coded.specs.Records.{bounds_of}
use Rattle.coded.specs.Coded.{entry_at, get_d_at, set_entry}
use Rattle.coded.specs.CodedTests.{pad_b, limit_pad, sum_coded, test_coded}
use Rattle.split.specs.Trees.{TreeC, cut_t, keep_t, ask_t, tested_c, push_c, tight_c, tree_at}
use Rattle.constrain.specs.Rules.{entry_c, sum_c, tighter_c, void_test, tight_test, via_c, push_test}
use Rattle.constrain.specs.declared.rule.Rule.{Rule}

-- ---- trees
-- the code's tree of a tree
abbrev pub tree_of : Tree → TreeC
tree_of cut = cut_t
tree_of (keep m) = keep_t (bounds_of m)
tree_of (asks e f) = ask_t (expr_of e) (λ b. tree_of (f b))

tested_same : (q : Question) (f : Bool → TreeC) (g : Bool → Tree) → ((b : Bool) → f b ≡ tree_of (g b))
    → tested_c (test q) f ≡ tree_of (tested q g)
unfolding tested_c tested
tested_same yes' f g h = h true
tested_same no' f g h = h false
tested_same (ask e) f g h = ap (ask_t (expr_of e)) (fun_ext h)

-- ---- the places that the code goes over: k entries are left, the next one is x
unfoldable spots : ℕ → ℕ → ℕ → List Place
spots w x zero = []
spots w x (suc k) =
    cond (ltb w (x / 5)) (spots w (suc x) k)
    (cond (ltb w (x % 5)) (spots w (suc x) k) (record { row = x / 5; column = x % 5 } ∷ spots w (suc x) k))

spots_places : (w : ℕ) → w ≤ 4 → spots w 0 25 ≡ places w
unfolding spots places rows_from row_from
spots_places = up_to_4 (λ w. spots w 0 25 ≡ places w) refl refl refl refl refl

-- ---- the rules of a guard on a matrix
module _ (w : ℕ) (g : Guard) (m : Bounds) (four : w ≤ 4) (s : SmallGuard w g) (h : AtMostM ENTRY w m) where
  abbrev i : ℕ
  i = g.left

  abbrev j : ℕ
  j = g.right

  abbrev e : Upper Affine
  e = bound_as g.bound

  abbrev rule : Rule
  rule = record { clocks = w; left = i; right = j; bound = g.bound; old = bounds_of m }

  rules : SmallRules w g m
  rules = numbers_small.rules w g s m h

  i_four : i ≤ 4
  i_four = omega (arith, s.left)

  j_four : j ≤ 4
  j_four = omega (arith, s.right)

  -- sizes
  limit : AtMostB TEST e
  limit = at_most_b_more LIMIT TEST (omega arith) e s.numbers

  entry : (k l : ℕ) → k ≤ w → l ≤ w → AtMostB TEST (m k l)
  entry k l hk hl = at_most_b_more ENTRY TEST (omega arith) (m k l) (h k l hk hl)

  sum : (x : Upper Affine) → AtMostB SUM x → AtMostB TEST x
  sum x a = at_most_b_more SUM TEST (omega arith) x a

  -- sums
  back_sum : sum_c g.bound (entry_c (bounds_of m) j i) ≡ bound_of (sum_b e (m j i))
  back_sum =
      ap (λ (a : Bound). sum_c g.bound a) (entry_at m j i j_four i_four)
      ∙ ap (λ (b : Upper Affine). bound_of (sum_b (saturated_b b) (saturated_b (pad_b (m j i))))) (sym (limit_pad g.bound))
      ∙ sum_coded e (m j i) limit (entry j i s.right s.left)

  first_sum : (k : ℕ) → k ≤ w → sum_c (entry_c (bounds_of m) k i) g.bound ≡ bound_of (sum_b (m k i) e)
  first_sum k hk =
      ap (λ (a : Bound). sum_c a g.bound) (entry_at m k i (omega arith) i_four)
      ∙ ap (λ (b : Upper Affine). bound_of (sum_b (saturated_b (pad_b (m k i))) (saturated_b b))) (sym (limit_pad g.bound))
      ∙ sum_coded (m k i) e (entry k i hk s.left) limit

  -- what (k, l) would take
  abbrev by_guard : ℕ → ℕ → Upper Affine
  by_guard k l = sum_b (sum_b (m k i) e) (m j l)

  via_is : (y : ℕ) → y / 5 ≤ w → y % 5 ≤ w → via_c rule y ≡ bound_of (by_guard (y / 5) (y % 5))
  unfolding via_c
  via_is y hk hl =
      ap (λ (a : Bound). sum_c a (entry_c (bounds_of m) j (y % 5))) (first_sum (y / 5) hk)
      ∙ ap (sum_c (bound_of (sum_b (m (y / 5) i) e))) (entry_at m j (y % 5) j_four (omega arith))
      ∙ sum_coded (sum_b (m (y / 5) i) e) (m j (y % 5)) (sum (sum_b (m (y / 5) i) e) (rules.first (y / 5) hk))
      (entry j (y % 5) s.right hl)

  -- tests
  void_test_lem : void_test rule ≡ test (tighter_b (sum_b e (m j i)) zero_b)
  unfolding void_test
  void_test_lem =
      ap (λ (a : Bound). tighter_c a zero_bound) back_sum
      ∙ test_coded (sum_b e (m j i)) zero_b (sum (sum_b e (m j i)) rules.back) (zero_size TEST)

  tight_test_lem : tight_test rule ≡ test (tighter_b e (m i j))
  unfolding tight_test
  tight_test_lem =
      ap (λ (a : Bound). tighter_c g.bound a) (entry_at m i j i_four j_four)
      ∙ ap (λ (b : Upper Affine). test (tighter_b (saturated_b b) (saturated_b (pad_b (m i j))))) (sym (limit_pad g.bound))
      ∙ test_coded e (m i j) limit (entry i j s.left s.right)

  push_test_lem : (y : ℕ) → y < 25 → y / 5 ≤ w → y % 5 ≤ w
      → tighter_c (via_c rule y) (get_or (bounds_of m) y zero_bound) ≡ test (tighter_b (by_guard (y / 5) (y % 5)) (m (y / 5) (y % 5)))
  push_test_lem y hy hk hl =
      ap (λ (a : Bound). tighter_c a (get_or (bounds_of m) y zero_bound)) (via_is y hk hl)
      ∙ ap (tighter_c (bound_of (by_guard (y / 5) (y % 5)))) (get_d_at m y hy)
      ∙ test_coded (by_guard (y / 5) (y % 5)) (m (y / 5) (y % 5)) (sum (by_guard (y / 5) (y % 5)) (rules.through (y / 5) (y % 5) hk hl))
      (entry (y / 5) (y % 5) hk hl)

  abbrev Pushes : ℕ → ℕ → Type 0
  Pushes k y = (new : Bounds) → push_c rule k y (bounds_of new) ≡ tree_of (pushed i j e m (spots w y k) new)

  -- one entry
  push_entry : (k y : ℕ) → y < 25 → y / 5 ≤ w → y % 5 ≤ w → Pushes k (suc y) → (new : Bounds)
      → tested_c (tighter_c (via_c rule y) (get_or (bounds_of m) y zero_bound))
      (λ b. push_c rule k (suc y) (cond b (set (bounds_of new) y (via_c rule y)) (bounds_of new)))
      ≡ tree_of (pushed i j e m (record { row = y / 5; column = y % 5 } ∷ spots w (suc y) k) new)
  unfolding pushed
  push_entry k y hy hk hl ih new =
      ap
      (λ (t : Test). tested_c t (λ b. push_c rule k (suc y) (cond b (set (bounds_of new) y (via_c rule y)) (bounds_of new))))
      (push_test_lem y hy hk hl)
      ∙ tested_same (tighter_b (by_guard (y / 5) (y % 5)) (m (y / 5) (y % 5)))
      (λ b. push_c rule k (suc y) (cond b (set (bounds_of new) y (via_c rule y)) (bounds_of new)))
      (λ b. pushed i j e m (spots w (suc y) k) (cond b (put_entry p (by_guard (y / 5) (y % 5)) new) new)) by
    where
      p : Place
      p = record { row = y / 5; column = y % 5 }

      put : set (bounds_of new) y (via_c rule y) ≡ bounds_of (put_entry p (by_guard (y / 5) (y % 5)) new)
      put = ap (set (bounds_of new) y) (via_is y hk hl) ∙ set_entry new y (by_guard (y / 5) (y % 5)) hy

      by : (b : Bool)
          → push_c rule k (suc y) (cond b (set (bounds_of new) y (via_c rule y)) (bounds_of new))
          ≡ tree_of (pushed i j e m (spots w (suc y) k) (cond b (put_entry p (by_guard (y / 5) (y % 5)) new) new))
      by true = ap (push_c rule k (suc y)) put ∙ ih (put_entry p (by_guard (y / 5) (y % 5)) new)
      by false = ih new

  push_same : (k y : ℕ) → y + k ≡ 25 → Pushes k y
  unfolding push_c pushed spots push_test tested_c
  push_same zero y q new = refl
  push_same (suc k) y q new = by (ltb w (y / 5)) (ltb w (y % 5)) refl refl (push_same k (suc y) (omega arith))
    where
      by : (a b : Bool) → ltb w (y / 5) ≡ a → ltb w (y % 5) ≡ b → Pushes k (suc y)
          → tested_c (cond a no_test (cond b no_test (tighter_c (via_c rule y) (get_or (bounds_of m) y zero_bound))))
          (λ x. push_c rule k (suc y) (cond x (set (bounds_of new) y (via_c rule y)) (bounds_of new)))
          ≡ tree_of (pushed i j e m
          (cond a (spots w (suc y) k) (cond b (spots w (suc y) k) (record { row = y / 5; column = y % 5 } ∷ spots w (suc y) k))) new)
      by true b u v ih = ih new
      by false true u v ih = ih new
      by false false u v ih = push_entry k y (omega arith) (ltb-false w (y / 5) u) (ltb-false w (y % 5) v) ih new

  tight_same : tight_c rule (bounds_of m)
      ≡ tree_of (tested (tighter_b e (m i j)) (λ tight. cond tight (pushed i j e m (places w) m) (keep m)))
  unfolding tight_c
  tight_same =
      ap (λ (t : Test). tested_c t (λ b. cond b (push_c rule 25 0 (bounds_of m)) (keep_t (bounds_of m)))) tight_test_lem
      ∙ tested_same (tighter_b e (m i j)) (λ b. cond b (push_c rule 25 0 (bounds_of m)) (keep_t (bounds_of m)))
      (λ tight. cond tight (pushed i j e m (places w) m) (keep m)) by
    where
      by : (b : Bool) → cond b (push_c rule 25 0 (bounds_of m)) (keep_t (bounds_of m)) ≡ tree_of (cond b (pushed i j e m (places w) m) (keep m))
      by true =
          subst (λ (ps : List Place). push_c rule 25 0 (bounds_of m) ≡ tree_of (pushed i j e m ps m)) (spots_places w four)
          (push_same 25 0 refl m)
      by false = refl

  pub guard_same : tree_at rule 0 (bounds_of m) ≡ tree_of (guard_tree w i j e m)
  unfolding tree_at guard_tree
  guard_same =
      ap (λ (t : Test). tested_c t (λ b. cond b cut_t (tight_c rule (bounds_of m)))) void_test_lem
      ∙ tested_same (tighter_b (sum_b e (m j i)) zero_b) (λ b. cond b cut_t (tight_c rule (bounds_of m)))
      (λ b. cond b cut (tested (tighter_b e (m i j)) (λ tight. cond tight (pushed i j e m (places w) m) (keep m)))) by
    where
      by : (b : Bool)
          → cond b cut_t (tight_c rule (bounds_of m))
          ≡ tree_of (cond b cut (tested (tighter_b e (m i j)) (λ tight. cond tight (pushed i j e m (places w) m) (keep m))))
      by true = refl
      by false = tight_same
