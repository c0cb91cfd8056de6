-- The start's matrix is traced, and a delay and resets keep a matrix traced: a delay is one instant more, a reset another name for now.
use Rattle.std.specs.Prelude.{◌≡◌, Bool, cond, List, ℕ, zero, suc, ◌*◌, ◌/◌, ◌%◌, ◌^◌, ◌≤◌, ℤ}
use Rattle.std.proofs.Math.Path.{refl}
use Rattle.std.proofs.Common.{sym, subst, ◌∙◌, arith, eqb-true}
use Rattle.std.proofs.Math.Bool.{true, false}
use Rattle.std.proofs.lemmas.Bool.{eqb-false}
use Rattle.std.proofs.Math.Dec.{eqb}
use Rattle.dbm.specs.Entries.{eqb_yes, eqb_no, delayed_none, delayed_zero, delayed_stays, source, source_0, source-≤}
use Rattle.dbm.proofs.Entries.{reset_inside}
use Rattle.dbm.specs.Matrix.{Matrix, start, delayed, reset_m, resets_m, ◌⊑◌, Closed}
use Rattle.dbm.specs.State.{start_closed}
use Rattle.dbm.specs.Weights.{⊑-≡, ⊑-none, sum_none, zero_sum}
use Rattle.cutting.proofs.Comes.{zero_at}
use Rattle.cutting.specs.Cutting.{Bounds, start_b}
use Rattle.expr.specs.Affine.{Affine}
use Rattle.expr.specs.Bounds.{at_v, zero_b}
use Rattle.weight.specs.Upper.{Upper, none, sum_w, zero_w}
use Rattle.sizes.specs.Sizes.{LIMIT}
use Rattle.sizes.specs.SizeLaws.{zero_size}
use Rattle.sizes.specs.Traces.{Trace, Traced, only, card_only, card_more}

-- ---- zero from an instant to itself, and none
zero_trace : {n : ℕ} {H : List ℤ → Type 0} {over : List ℤ → Matrix (Upper ℤ)} → ((v : List ℤ) → H v → Closed n (over v)) → (a : ℕ)
    → a ≤ n → Trace n H over a a zero_b
zero_trace {n} {H} {over} closed a ha =
    record {
      on = only a;
      steps = 0;
      lies = λ y h. let e = eqb-true y a h in omega arith;
      few = card_only a n ha;
      size = zero_size (LIMIT * 0);
      is = λ v h. zero_at v ∙ sym ((closed v h).diagonal a ha);
      through = λ v h y q. at_it v h y (eqb-true y a q);
    }
  where
    at_it : (v : List ℤ) → H v → (y : ℕ) → y ≡ a → sum_w (over v a y) (over v y a) ⊑ over v a a
    at_it v h y e = rw (e, (closed v h).diagonal a ha) (⊑-≡ (zero_sum zero_w))

none_trace : {n : ℕ} {H : List ℤ → Type 0} {over : List ℤ → Matrix (Upper ℤ)} (a b : ℕ) → ((v : List ℤ) → over v a b ≡ none)
    → Trace n H over a b none
unfolding at_v
none_trace {n} {H} {over} a b none-there =
    record {
      on = only 0;
      steps = 0;
      lies = λ y h. let e = eqb-true y 0 h in omega arith;
      few = card_only 0 n (omega arith);
      size = tt;
      is = λ v h. sym (none-there v);
      through = λ v h y q. rw (none-there v) (⊑-none _);
    }

-- ---- the start
pub start_traced : (w : ℕ) (H : List ℤ → Type 0) → Traced w 0 H start_b
unfolding start_b
start_traced w H =
    record {
      instant = λ k. 0;
      now = refl;
      past = λ k h. omega arith;
      over = λ v. start;
      closed = λ v h. start_closed 0;
      trace = λ k l hk hl. zero_trace (λ v h. start_closed 0) 0 (omega arith);
      diagonal = λ k h. refl;
    }

-- ---- a delay: from the new instant, n + 1, back as from the instant n before it; to it, no bound
abbrev grown_at : Bool → Bool → ℕ → Matrix (Upper ℤ) → Matrix (Upper ℤ)
grown_at true true n m x y = zero_w
grown_at true false n m x y = m n y
grown_at false true n m x y = none
grown_at false false n m x y = m x y

unfoldable grown : ℕ → Matrix (Upper ℤ) → Matrix (Upper ℤ)
grown n m x y = grown_at (eqb x (suc n)) (eqb y (suc n)) n m x y

not_new : (n x : ℕ) → x ≤ n → eqb x (suc n) ≡ false
not_new n x h = eqb_no x (suc n) (λ e. omega arith)

old : (n x : ℕ) → x ≤ suc n → eqb x (suc n) ≡ false → x ≤ n
old n x h q = let d = eqb-false x (suc n) q in omega arith

module _ (n : ℕ) (m : Matrix (Upper ℤ)) where
  grown_old : (x y : ℕ) → x ≤ n → y ≤ n → grown n m x y ≡ m x y
  unfolding grown
  grown_old x y hx hy = rw (not_new n x hx, not_new n y hy) refl

  grown_now : (y : ℕ) → y ≤ n → grown n m (suc n) y ≡ m n y
  unfolding grown
  grown_now y hy = rw (eqb_yes (suc n), not_new n y hy) refl

  grown_none : (x : ℕ) → x ≤ n → grown n m x (suc n) ≡ none
  unfolding grown
  grown_none x hx = rw (eqb_yes (suc n), not_new n x hx) refl

  module _ (c : Closed n m) where
    grown_diagonal : (x : ℕ) → x ≤ suc n → grown n m x x ≡ zero_w
    unfolding grown
    grown_diagonal x h = by (eqb x (suc n)) refl
      where
        by : (b : Bool) → eqb x (suc n) ≡ b → grown_at b b n m x x ≡ zero_w
        by true q = refl
        by false q = c.diagonal x (old n x h q)

    grown_triangle : (i k j : ℕ) → i ≤ suc n → k ≤ suc n → j ≤ suc n → grown n m i j ⊑ sum_w (grown n m i k) (grown n m k j)
    unfolding grown sum_w
    grown_triangle i k j hi hk hj = by (eqb i (suc n)) (eqb k (suc n)) (eqb j (suc n)) refl refl refl
      where
        by : (a b d : Bool) → eqb i (suc n) ≡ a → eqb k (suc n) ≡ b → eqb j (suc n) ≡ d
            → grown_at a d n m i j ⊑ sum_w (grown_at a b n m i k) (grown_at b d n m k j)
        by true true true p q r = ⊑-≡ (sym (zero_sum zero_w))
        by true true false p q r = ⊑-≡ (sym (zero_sum (m n j)))
        by true false true p q r = rw (sum_none (m n k)) (⊑-none zero_w)
        by true false false p q r = c.triangle n k j (omega arith) (old n k hk q) (old n j hj r)
        by false true true p q r = ⊑-none none
        by false true false p q r = ⊑-none (m i j)
        by false false true p q r = rw (sum_none (m i k)) (⊑-none none)
        by false false false p q r = c.triangle i k j (old n i hi p) (old n k hk q) (old n j hj r)

    grown_closed : Closed (suc n) (grown n m)
    grown_closed = record { diagonal = grown_diagonal; triangle = grown_triangle }

-- the trace of a bound from a, where the new matrix has a row a' that is the row a
grown_trace : {n : ℕ} {H : List ℤ → Type 0} {over : List ℤ → Matrix (Upper ℤ)} {a b : ℕ} {x : Upper Affine} (a' : ℕ)
    → ((v : List ℤ) (y : ℕ) → y ≤ n → grown n (over v) a' y ≡ over v a y) → b ≤ n → Trace n H over a b x
    → Trace (suc n) H (λ v. grown n (over v)) a' b x
grown_trace {n} {H} {over} {a} {b} a' row hb c =
    record {
      on = c.on;
      steps = c.steps;
      lies = λ y q. let h = c.lies y q in omega arith;
      few = omega (arith, c.few, card_more c.on n);
      size = c.size;
      is = λ v h. c.is v h ∙ sym (row v b hb);
      through = λ v h y q.
          let hy = c.lies y q in
          rw (row v y hy, row v b hb, grown_old n (over v) y b hy hb) (c.through v h y q);
    }

module _ {w n : ℕ} {H : List ℤ → Type 0} {m : Bounds} (t : Traced w n H m) where
  abbrev instant' : ℕ → ℕ
  instant' zero = suc n
  instant' (suc k) = t.instant (suc k)

  abbrev over' : List ℤ → Matrix (Upper ℤ)
  over' v = grown n (t.over v)

  past' : (k : ℕ) → k ≤ w → instant' k ≤ suc n
  past' zero h = omega arith
  past' (suc k) h = omega (arith, t.past (suc k) h)

  closed' : (v : List ℤ) → H v → Closed (suc n) (over' v)
  closed' v h = grown_closed n (t.over v) (t.closed v h)

  abbrev Goes : ℕ → ℕ → Upper Affine → Type 0
  Goes k l x = Trace (suc n) H over' (instant' k) (instant' l) x

  now_row : (v : List ℤ) (y : ℕ) → y ≤ n → grown n (t.over v) (suc n) y ≡ t.over v (t.instant 0) y
  now_row v y h = grown_now n (t.over v) y h ∙ sym (rw t.now refl)

  trace' : (k l : ℕ) → k ≤ w → l ≤ w → Goes k l (delayed w none m k l)
  trace' zero zero hk hl =
      subst (Goes 0 0) (sym (delayed_zero w none m 0 ∙ t.diagonal 0 hk)) (zero_trace closed' (suc n) (omega arith))
  trace' zero (suc l) hk hl =
      subst (Goes 0 (suc l)) (sym (delayed_zero w none m (suc l)))
      (grown_trace (suc n) now_row (t.past (suc l) hl) (t.trace 0 (suc l) hk hl))
  trace' (suc k) zero hk hl =
      subst (Goes (suc k) 0) (sym (delayed_none w none m k hk))
      (none_trace (t.instant (suc k)) (suc n) (λ v. grown_none n (t.over v) (t.instant (suc k)) (t.past (suc k) hk)))
  trace' (suc k) (suc l) hk hl =
      subst (Goes (suc k) (suc l)) (sym (delayed_stays w none m (suc k) l))
      (grown_trace (t.instant (suc k)) (λ v y h. grown_old n (t.over v) (t.instant (suc k)) y (t.past (suc k) hk) h)
      (t.past (suc l) hl) (t.trace (suc k) (suc l) hk hl))

  diagonal' : (k : ℕ) → k ≤ w → delayed w none m k k ≡ zero_b
  diagonal' zero h = delayed_zero w none m 0 ∙ t.diagonal 0 h
  diagonal' (suc k) h = delayed_stays w none m (suc k) k ∙ t.diagonal (suc k) h

  pub delayed_traced : Traced w (suc n) H (delayed w none m)
  delayed_traced =
      record {
        instant = instant';
        now = refl;
        past = past';
        over = over';
        closed = closed';
        trace = trace';
        diagonal = diagonal';
      }

  -- ---- a reset of clock r: its instant is now
  module _ (r : ℕ) where
    entry : (k l : ℕ) → k ≤ w → l ≤ w → reset_m w r m k l ≡ m (source r k) (source r l)
    entry k l hk hl =
        reset_inside w r m k l hk hl (λ e. let hr : r ≤ w = omega arith in t.diagonal r hr ∙ sym (t.diagonal 0 (omega arith)))

    pub reset_traced : Traced w n H (reset_m w r m)
    reset_traced =
        record {
          instant = λ k. t.instant (source r k);
          now = rw (source_0 r) t.now;
          past = λ k h. t.past (source r k) (source-≤ w r k h);
          over = t.over;
          closed = t.closed;
          trace = λ k l hk hl.
              subst (Trace n H t.over (t.instant (source r k)) (t.instant (source r l))) (sym (entry k l hk hl))
              (t.trace (source r k) (source r l) (source-≤ w r k hk) (source-≤ w r l hl));
          diagonal = λ k h. entry k k h h ∙ t.diagonal (source r k) (source-≤ w r k h);
        }

pub resets_traced : {w n : ℕ} {H : List ℤ → Type 0} {m : Bounds} (bits i : ℕ) → Traced w n H m → Traced w n H (resets_m w bits i m)
unfolding resets_m
resets_traced bits zero t = t
resets_traced {w} {n} {H} {m} bits (suc i) t = by (eqb (bits / 2 ^ i % 2) 1) (resets_traced bits i t)
  where
    by : (b : Bool) → Traced w n H (resets_m w bits i m)
        → Traced w n H (cond b (reset_m w (suc i) (resets_m w bits i m)) (resets_m w bits i m))
    by true s = reset_traced s (suc i)
    by false s = s
