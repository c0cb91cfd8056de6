-- A guard keeps a matrix traced, for the valuations that go down each way of its tree. On such a way an entry is still the old one, or it
-- is the way by the guard, which is tighter at each valuation held: then no instant lies on both of its halves, for that would make it no
-- tighter, and the two sets together have as many instants as both have.
use Rattle.std.specs.Prelude.{◌≡◌, Bool, cond, ◌⊎◌, ℕ, suc, ◌+◌, ◌*◌, ◌≤◌, eqb, ℤ, pos}
use Rattle.std.proofs.Math.Path.{refl, sym}
use Rattle.std.proofs.Common.{ap, subst, ◌∙◌, inl, inr, arith, eqb-true}
use Rattle.std.proofs.Math.Bool.{true, false}
use mathlib.Core.List.{List, [], ◌∷◌}
use Rattle.std.specs.Int.Signed.{le_z}
use Rattle.integer.specs.Apart.{apart}
use Rattle.dbm.specs.Entries.{limited_inside}
use Rattle.dbm.specs.Guard.{way}
use Rattle.dbm.proofs.Guard.{limited_closed}
use Rattle.dbm.specs.Matrix.{Matrix, limited_m, Outcome, kept, ◌⊑◌}
use Rattle.dbm.specs.Weights.{⊑-≡, sum_zero, zero_sum}
use Rattle.cutting.proofs.Comes.{Comes, zero_at, pushed_limited}
use Rattle.cutting.specs.Cutting.{Bounds, Tree, cut, keep, asks, tested, Place, put_entry, places, pushed, guard_tree}
use Rattle.cutting.specs.Held.{at}
use Rattle.expr.specs.Affine.{Affine, value}
use Rattle.expr.specs.Bounds.{at_v, zero_b, sum_b, tighter_b, Question, yes', no', ask}
use Rattle.expr.specs.Laws.{answer, sum_at, tighter_at}
use Rattle.weight.specs.Upper.{Upper, sum_w, tighter_w, zero_w}
use Rattle.sizes.specs.Sizes.{AtMostB, LIMIT}
use Rattle.sizes.specs.SizeLaws.{at_most_b_more, sum_size_b}
use Rattle.sizes.specs.Through.{both_no_tighter, left_through, right_through, old_through}
use Rattle.sizes.specs.Traces.{Trace, Traced, traced_fewer, either, either_which, card_either}

-- ---- what a tree keeps has Q, of the valuations that go down to it; nothing is asked where none goes
abbrev pub Fits : ((List ℤ → Type 0) → Bounds → Type 0) → (List ℤ → Type 0) → Tree → Type 0
Fits Q H cut = Unit {0}
Fits Q H (keep m) = Q H m
Fits Q H (asks e f) =
    (b : Bool) (v : List ℤ) → H v → le_z (pos 0) (value e v) ≡ b → Fits Q (λ (u : List ℤ). H u × (le_z (pos 0) (value e u) ≡ b)) (f b)

-- Q is the same of the same valuations
abbrev pub Alike : ((List ℤ → Type 0) → Bounds → Type 0) → Type 1
Alike Q = (H H' : List ℤ → Type 0) (m : Bounds) → ((v : List ℤ) → H v → H' v) → ((v : List ℤ) → H' v → H v) → Q H' m → Q H m

module _ (Q : (List ℤ → Type 0) → Bounds → Type 0) (alike : Alike Q) where
  pub fits_alike : (t : Tree) (H H' : List ℤ → Type 0) → ((v : List ℤ) → H v → H' v) → ((v : List ℤ) → H' v → H v)
      → Fits Q H' t → Fits Q H t
  fits_alike cut H H' s r h = tt
  fits_alike (keep m) H H' s r h = alike H H' m s r h
  fits_alike (asks e f) H H' s r h = λ b v a q.
      fits_alike (f b) (λ (u : List ℤ). H u × (le_z (pos 0) (value e u) ≡ b)) (λ (u : List ℤ). H' u × (le_z (pos 0) (value e u) ≡ b))
      (λ u c. (s u c.0, c.1)) (λ u c. (r u c.0, c.1)) (h b v (s v a) q)

  -- a test, of which some valuation is held
  tested_fits : (q : Question) (f : Bool → Tree) (H : List ℤ → Type 0) (v : List ℤ) → H v
      → ((b : Bool) (v : List ℤ) → H v → answer q v ≡ b → Fits Q (λ (u : List ℤ). H u × (answer q u ≡ b)) (f b)) → Fits Q H (tested q f)
  unfolding tested answer
  tested_fits yes' f H v a k =
      fits_alike (f true) H (λ (u : List ℤ). H u × (true ≡ true)) (λ u h. (h, refl)) (λ u h. h.0) (k true v a refl)
  tested_fits no' f H v a k =
      fits_alike (f false) H (λ (u : List ℤ). H u × (false ≡ false)) (λ u h. (h, refl)) (λ u h. h.0) (k false v a refl)
  tested_fits (ask e) f H v a k = k

-- one thing follows from another, and may use what each valuation comes to
fits_come : (P Q : (List ℤ → Type 0) → Bounds → Type 0) (r : List ℤ → Outcome)
    → ((K : List ℤ → Type 0) (m : Bounds) → ((v : List ℤ) → K v → r v ≡ kept (at v m)) → P K m → Q K m)
    → (t : Tree) (H : List ℤ → Type 0) → ((v : List ℤ) → H v → Comes v t (r v)) → Fits P H t → Fits Q H t
fits_come P Q r g cut H c h = tt
fits_come P Q r g (keep m) H c h = g H m c h
fits_come P Q r g (asks e f) H c h = λ b v a q.
    fits_come P Q r g (f b) (λ (u : List ℤ). H u × (le_z (pos 0) (value e u) ≡ b))
    (λ u d. subst (λ (x : Bool). Comes u (f x) (r u)) d.1 (c u d.0)) (h b v a q)

pub traced_alike : (w n : ℕ) → Alike (Traced w n)
traced_alike w n H H' m s r t = traced_fewer s t

-- ---- rule (3)
true_not_false : {A : Type 0} {b : Bool} → b ≡ true → b ≡ false → A
true_not_false h k = let z : ◌≡◌ {A = Bool} true false = sym h ∙ k in apart cc

kept_same : {m m' : Matrix (Upper ℤ)} → kept m ≡ kept m' → m ≡ m'
kept_same h = cc

module _ (w n i j : ℕ) (hi : i ≤ w) (hj : j ≤ w) (e : Upper Affine) (small : AtMostB LIMIT e) (m : Bounds) where
  -- what (k, l) would take
  abbrev by_guard : Bounds
  by_guard k l = sum_b (sum_b (m k i) e) (m j l)

  -- an entry is the old one, or the way by the guard, which is tighter at each valuation held
  abbrev Which : (List ℤ → Type 0) → Bounds → ℕ → ℕ → Type 0
  Which K new k l =
      (new k l ≡ m k l)
      ⊎ ((new k l ≡ by_guard k l) × ((v : List ℤ) → K v → tighter_w (at_v v (by_guard k l)) (at_v v (m k l)) ≡ true))

  -- some valuation is held, and all that are were held before
  record Part (H K : List ℤ → Type 0) (new : Bounds) : Type 0 where
    some : List ℤ
    holds : K some
    within : (v : List ℤ) → K v → H v
    which : (k l : ℕ) → Which K new k l

  which_fewer : (K K' : List ℤ → Type 0) (new : Bounds) (k l : ℕ) → ((v : List ℤ) → K v → K' v) → Which K' new k l → Which K new k l
  which_fewer K K' new k l s (inl q) = inl q
  which_fewer K K' new k l s (inr q) = inr (q.0, λ v h. q.1 v (s v h))

  part_alike : (H : List ℤ → Type 0) → Alike (Part H)
  part_alike H K K' new s r c =
      record {
        some = c.some;
        holds = r c.some c.holds;
        within = λ v h. c.within v (s v h);
        which = λ k l. which_fewer K K' new k l s (c.which k l);
      }

  -- one place
  module _ (K : List ℤ → Type 0) (p : Place) (new : Bounds) (c : (k l : ℕ) → Which K new k l) where
    abbrev question : Question
    question = tighter_b (by_guard p.row p.column) (m p.row p.column)

    abbrev Then : Bool → List ℤ → Type 0
    Then b u = K u × (answer question u ≡ b)

    put_which : (k l : ℕ) (a b : Bool) → eqb k p.row ≡ a → eqb l p.column ≡ b → Which (Then true) new k l
        → Which (Then true) (λ x y. cond a (cond b (by_guard p.row p.column) (new k l)) (new k l)) k l
    put_which k l false b f g h = h
    put_which k l true false f g h = h
    put_which k l true true f g h =
        let row = eqb-true k p.row f in
        let column = eqb-true l p.column g in
        rw (row, column) (inr (refl, λ v q. sym (tighter_at (by_guard p.row p.column) (m p.row p.column) v) ∙ q.1))

    put_all : (k l : ℕ) → Which (Then true) (put_entry p (by_guard p.row p.column) new) k l
    unfolding put_entry
    put_all k l =
        put_which k l (eqb k p.row) (eqb l p.column) refl refl (which_fewer (Then true) K new k l (λ v h. h.0) (c k l))

    place_which : (b : Bool) (k l : ℕ) → Which (Then b) (cond b (put_entry p (by_guard p.row p.column) new) new) k l
    place_which true k l = put_all k l
    place_which false k l = which_fewer (Then false) K new k l (λ v h. h.0) (c k l)

  pushed_part : (H : List ℤ → Type 0) (ps : List Place) (K : List ℤ → Type 0) (new : Bounds) → Part H K new
      → Fits (Part H) K (pushed i j e m ps new)
  unfolding pushed
  pushed_part H [] K new c = c
  pushed_part H (p ∷ ps) K new c =
      tested_fits (Part H) (part_alike H) (question K p new c.which) _ K c.some c.holds (λ b v h q.
      pushed_part H ps (Then K p new c.which b) (cond b (put_entry p (by_guard p.row p.column) new) new)
      (record { some = v; holds = (h, q); within = λ u d. c.within u d.0; which = place_which K p new c.which b }))

  -- ---- at the end
  module _ (H : List ℤ → Type 0) (t : Traced w n H m)
      (open_loop : (v : List ℤ) → H v → zero_w ⊑ sum_w (at_v v e) (t.over v (t.instant j) (t.instant i))) where
    -- a clock's instant
    abbrev when : ℕ → ℕ
    when = t.instant

    abbrev over' : List ℤ → Matrix (Upper ℤ)
    over' v = limited_m n (when i) (when j) (at_v v e) (t.over v)

    entry_at : (v : List ℤ) → H v → (k l : ℕ) → k ≤ w → l ≤ w → at_v v (m k l) ≡ t.over v (when k) (when l)
    entry_at v h k l hk hl = (t.trace k l hk hl).is v h

    abbrev way_at : List ℤ → ℕ → ℕ → Upper ℤ
    way_at v k l = way (when i) (when j) (at_v v e) (t.over v) (when k) (when l)

    guard_at_lem : (v : List ℤ) → H v → (k l : ℕ) → k ≤ w → l ≤ w → at_v v (by_guard k l) ≡ way_at v k l
    guard_at_lem v h k l hk hl =
        sum_at (sum_b (m k i) e) (m j l) v
        ∙ rw (sum_at (m k i) e v, entry_at v h k i hk hi, entry_at v h j l hj hl) refl

    module _ (K : List ℤ → Type 0) (new : Bounds) (c : Part H K new)
        (come : (v : List ℤ) → K v → kept (limited_m w i j (at_v v e) (at v m)) ≡ kept (at v new)) where
      new_at : (v : List ℤ) → K v → (k l : ℕ) → k ≤ w → l ≤ w → at_v v (new k l) ≡ over' v (when k) (when l)
      unfolding at
      new_at v h k l hk hl =
          let a = c.within v h in
          sym (ap (λ (x : Matrix (Upper ℤ)). x k l) (kept_same (come v h)))
          ∙ limited_inside w i j (at_v v e) (at v m) k l hk hl
          ∙ rw (entry_at v a k i hk hi, entry_at v a j l hj hl, entry_at v a k l hk hl) refl
          ∙ sym (limited_inside n (when i) (when j) (at_v v e) (t.over v) (when k) (when l) (t.past k hk) (t.past l hl))

      -- no instant is on both halves of a way that is tighter
      not_both : (k l y : ℕ) → k ≤ w → l ≤ w → y ≤ n
          → ((v : List ℤ) → K v → tighter_w (at_v v (by_guard k l)) (at_v v (m k l)) ≡ true)
          → ((v : List ℤ) → H v → sum_w (t.over v (when k) y) (t.over v y (when i)) ⊑ t.over v (when k) (when i))
          → ((v : List ℤ) → H v → sum_w (t.over v (when j) y) (t.over v y (when l)) ⊑ t.over v (when j) (when l)) → ⊥
      not_both k l y hk hl hy tight a b =
          let v = c.some in
          let h = c.within v c.holds in
          let no = both_no_tighter (t.closed v h) (t.past i hi) (t.past j hj) (at_v v e) (when k) (when l) y (t.past k hk) (t.past l hl)
          hy (open_loop v h) (a v h) (b v h) in
          let yes : tighter_w (way_at v k l) (t.over v (when k) (when l)) ≡ true =
          rw (guard_at_lem v h k l hk hl, entry_at v h k l hk hl) at (tight v c.holds) in
          true_not_false yes no.as_tight

      module _ (k l : ℕ) (hk : k ≤ w) (hl : l ≤ w) where
        abbrev Goal : Type 0
        Goal = Trace n K over' (when k) (when l) (new k l)

        stays : new k l ≡ m k l → Goal
        stays q =
            let old = t.trace k l hk hl in
            record {
              on = old.on;
              steps = old.steps;
              lies = old.lies;
              few = old.few;
              size = subst (AtMostB (LIMIT * old.steps)) (sym q) old.size;
              is = λ v h. new_at v h k l hk hl;
              through = λ v h y o.
                  let a = c.within v h in
                  let same : t.over v (when k) (when l) ≡ over' v (when k) (when l) =
                  sym (entry_at v a k l hk hl) ∙ ap (at_v v) (sym q) ∙ new_at v h k l hk hl in
                  subst (λ (x : Upper ℤ). sum_w (over' v (when k) y) (over' v y (when l)) ⊑ x) same
                  (old_through (t.closed v a) (t.past i hi) (t.past j hj) (at_v v e) (when k) (when l) y (t.past k hk) (t.past l hl)
                  (old.lies y o) (old.through v a y o));
            }

        module _ (q : new k l ≡ by_guard k l)
            (tight : (v : List ℤ) → K v → tighter_w (at_v v (by_guard k l)) (at_v v (m k l)) ≡ true) where
          abbrev left : Trace n H t.over (when k) (when i) (m k i)
          left = t.trace k i hk hi

          abbrev right : Trace n H t.over (when j) (when l) (m j l)
          right = t.trace j l hj hl

          apart_sets : (y : ℕ) → left.on y ≡ true → right.on y ≡ true → ⊥
          apart_sets y a b =
              not_both k l y hk hl (left.lies y a) tight (λ v h. left.through v h y a) (λ v h. right.through v h y b)

          lies' : (y : ℕ) → (left.on y ≡ true) ⊎ (right.on y ≡ true) → y ≤ n
          lies' y (inl a) = left.lies y a
          lies' y (inr a) = right.lies y a

          through' : (v : List ℤ) → H v → (y : ℕ) → (left.on y ≡ true) ⊎ (right.on y ≡ true)
              → sum_w (over' v (when k) y) (over' v y (when l)) ⊑ way_at v k l
          through' v h y (inl a) =
              left_through (t.closed v h) (t.past i hi) (t.past j hj) (at_v v e) (when k) (when l) y (t.past k hk) (t.past l hl)
              (left.lies y a) (left.through v h y a)
          through' v h y (inr a) =
              right_through (t.closed v h) (t.past i hi) (t.past j hj) (at_v v e) (when k) (when l) y (t.past k hk) (t.past l hl)
              (right.lies y a) (right.through v h y a)

          size' : AtMostB (LIMIT * (left.steps + suc right.steps)) (by_guard k l)
          size' =
              at_most_b_more (LIMIT * left.steps + LIMIT + LIMIT * right.steps) (LIMIT * (left.steps + suc right.steps)) (omega arith)
              (by_guard k l)
              (sum_size_b (LIMIT * left.steps + LIMIT) (LIMIT * right.steps) (sum_b (m k i) e) (m j l)
              (sum_size_b (LIMIT * left.steps) LIMIT (m k i) e left.size small) right.size)

          taken : Goal
          taken =
              record {
                on = either left.on right.on;
                steps = left.steps + suc right.steps;
                lies = λ y o. lies' y (either_which left.on right.on y o);
                few = omega (arith, left.few, right.few, card_either left.on right.on n apart_sets);
                size = subst (AtMostB (LIMIT * (left.steps + suc right.steps))) (sym q) size';
                is = λ v h. new_at v h k l hk hl;
                through = λ v h y o.
                    let a = c.within v h in
                    let same : way_at v k l ≡ over' v (when k) (when l) =
                    sym (guard_at_lem v a k l hk hl) ∙ ap (at_v v) (sym q) ∙ new_at v h k l hk hl in
                    subst (λ (x : Upper ℤ). sum_w (over' v (when k) y) (over' v y (when l)) ⊑ x) same
                    (through' v a y (either_which left.on right.on y o));
              }

        trace' : Goal
        trace' = by (c.which k l)
          where
            by : Which K new k l → Goal
            by (inl q) = stays q
            by (inr q) = taken q.0 q.1

      -- the diagonal is never taken
      diagonal' : (k : ℕ) → k ≤ w → new k k ≡ zero_b
      diagonal' k hk = by (c.which k k)
        where
          here : (v : List ℤ) → H v → t.over v (when k) (when k) ≡ zero_w
          here v h = (t.closed v h).diagonal (when k) (t.past k hk)

          by : Which K new k k → new k k ≡ zero_b
          by (inl q) = q ∙ t.diagonal k hk
          by (inr q) =
              absurd (not_both k k (when k) hk hk (t.past k hk) q.1
              (λ v h. rw (here v h) (⊑-≡ (zero_sum _))) (λ v h. rw (here v h) (⊑-≡ (sum_zero _))))

      part_traced : Traced w n K new
      part_traced =
          record {
            instant = when;
            now = t.now;
            past = t.past;
            over = over';
            closed = λ v h. let a = c.within v h in limited_closed (t.closed v a) (t.past i hi) (t.past j hj) (at_v v e) (open_loop v a);
            trace = trace';
            diagonal = diagonal';
          }

  -- ---- the three rules
  -- rule (1) answered no
  open_loop : (H : List ℤ → Type 0) (t : Traced w n H m) (u : List ℤ) → H u → answer (tighter_b (sum_b e (m j i)) zero_b) u ≡ false
      → zero_w ⊑ sum_w (at_v u e) (t.over u (t.instant j) (t.instant i))
  open_loop H t u h a = record {
    as_tight =
        let q = sym (tighter_at (sum_b e (m j i)) zero_b u) ∙ a in
        rw (sum_at e (m j i) u, zero_at u, (t.trace j i hj hi).is u h) at q;
  }

  module _ (H : List ℤ → Type 0) (t : Traced w n H m) where
    abbrev Void : Bool → List ℤ → Type 0
    Void b u = H u × (answer (tighter_b (sum_b e (m j i)) zero_b) u ≡ b)

    abbrev Tight : Bool → List ℤ → Type 0
    Tight b u = Void false u × (answer (tighter_b e (m i j)) u ≡ b)

    second : (b : Bool) (u : List ℤ) → Void false u → answer (tighter_b e (m i j)) u ≡ b
        → Fits (Traced w n) (Tight b) (cond b (pushed i j e m (places w) m) (keep m))
    second false u a q = traced_fewer (λ x d. d.0.0) t
    second true u a q =
        let tight = traced_fewer {H = Tight true} (λ x d. d.0.0) t in
        fits_come (Part (Tight true)) (Traced w n) (λ x. kept (limited_m w i j (at_v x e) (at x m)))
        (λ K new r c. part_traced (Tight true) tight (λ x d. open_loop (Tight true) tight x d d.0.1) K new c r)
        (pushed i j e m (places w) m) (Tight true) (λ x d. pushed_limited x w i j e m)
        (pushed_part (Tight true) (places w) (Tight true) m
        (record { some = u; holds = (a, q); within = λ x d. d; which = λ k l. inl refl }))

    first : (b : Bool) (u : List ℤ) → H u → answer (tighter_b (sum_b e (m j i)) zero_b) u ≡ b
        → Fits (Traced w n) (Void b)
        (cond b cut (tested (tighter_b e (m i j)) (λ tight. cond tight (pushed i j e m (places w) m) (keep m))))
    first true u a q = tt
    first false u a q = tested_fits (Traced w n) (traced_alike w n) (tighter_b e (m i j)) _ (Void false) u (a, q) second

    pub guard_fits : (v : List ℤ) → H v → Fits (Traced w n) H (guard_tree w i j e m)
    unfolding guard_tree
    guard_fits v h = tested_fits (Traced w n) (traced_alike w n) (tighter_b (sum_b e (m j i)) zero_b) _ H v h first
