-- A closed matrix is tight: what each entry allows is reached by its states. (With `Meets`, which says that no state passes an entry.)
use Rattle.std.specs.Prelude.{◌≡◌, refl, ℕ, ◌+◌, ◌*◌, ◌≤◌, false, ℤ, pos, neg_ℤ, ◌+ℤ◌, ◌-ℤ◌, ◌*ℤ◌, ◌<ℤ◌}
use Rattle.std.proofs.Common.{sym, ap, ◌∙◌, mul-le-mul_left, mul_comm, arith}
use Rattle.std.proofs.Math.Nat.{one-le-mul}
use Rattle.std.proofs.Math.Bool.{true}
use Rattle.std.proofs.Math.IntN.{*ℤ_comm}
use Rattle.integer.specs.Parts.{p, n, +-parts, -parts, neg_parts, pos_parts, zs}
use Rattle.integer.specs.Product.{*ℤ-assoc, *ℤ-distribl-sub}
use Rattle.weight.specs.Upper.{Upper, none, upper, sum_w, zero_w}
use Rattle.dbm.specs.Matrix.{Matrix, Keeps, Meets, scale_w, scaled, ◌⊑◌, Closed, SomeState, Reached}
use Rattle.dbm.specs.Weights.{⊑-none, ⊑-out, keeps_in, D-parts, scale_mono, scale_sum, scale_zero, keeps_scaled}
use Rattle.dbm.proofs.Guard.{limited_closed, limited_met}
use Rattle.dbm.specs.State.{closed_state}

-- ---- scaled matrices
pub scaled_closed : {w : ℕ} {m : Matrix (Upper ℤ)} (N : ℕ) → 1 ≤ N → Closed w m → Closed w (scaled N m)
unfolding scaled
scaled_closed {w} {m} N g c = record {
  diagonal = λ i hi. ap (scale_w N) (c.diagonal i hi) ∙ scale_zero N;
  triangle = λ i k j hi hk hj. rw (← scale_sum) (scale_mono N g (c.triangle i k j hi hk hj));
}

-- a state of N times the matrix is a state of the matrix, with N times as many parts to a minute
pub scaled_meets : {w : ℕ} (m : Matrix (Upper ℤ)) (N D : ℕ) (x : ℕ → ℤ) → Meets w (scaled N m) D x → Meets w m (D * N) x
unfolding scaled
scaled_meets m N D x h i j hi hj = keeps_scaled N D (x i -ℤ x j) (m i j) (h i j hi hj)

-- ---- a state that meets a guard
-- a guard that does not leave a closed matrix void is met by one of its states
pub guard_state : {w i j : ℕ} {m : Matrix (Upper ℤ)} → Closed w m → i ≤ w → j ≤ w → (e : Upper ℤ) → zero_w ⊑ sum_w e (m j i)
    → SomeState w m (λ D x. Keeps D (x i -ℤ x j) e)
guard_state {w} {i} {j} {m} c hi hj e a =
    let (D, x, s, h) = closed_state w (limited_closed c hi hj e a) in
    let (g, k) = (limited_met c hi hj e s).0 h in
    (D, x, s, g, k)

-- ---- tightness
-- the opposite guards do not leave the matrix void
opposite-≤ : (c : ℤ) → zero_w ⊑ sum_w (upper false (neg_ℤ c)) (upper false c)
unfolding sum_w p n
opposite-≤ c = ⊑-out zero_w (upper false (neg_ℤ c +ℤ c)) (omega (arith, +-parts (neg_ℤ c) c, neg_parts c))

opposite-< : (c : ℤ) → zero_w ⊑ sum_w (upper true (pos 1 -ℤ c)) (upper true c)
unfolding sum_w p n
opposite-< c = ⊑-out zero_w (upper true ((pos 1 -ℤ c) +ℤ c)) (omega (arith, +-parts (pos 1 -ℤ c) c, -parts (pos 1) c))

opposite_none : (c : ℤ) → zero_w ⊑ sum_w (upper true (neg_ℤ c)) none
unfolding sum_w
opposite_none c = ⊑-none zero_w

above : (D : ℕ) (a b N : ℤ) → Keeps D (b -ℤ a) (upper true (neg_ℤ N)) → (pos D *ℤ N) <ℤ (a -ℤ b)
above D a b N h = omega (
  zs,
  keeps_in (upper true (neg_ℤ N)) h,
  -parts a b,
  -parts b a,
  D-parts D N,
  ap (λ (k : ℕ). D * k) (neg_parts N).0,
  ap (λ (k : ℕ). D * k) (neg_parts N).1,
)

reached : (D : ℕ) (a b c : ℤ) → Keeps D (a -ℤ b) (upper false c) → Keeps D (b -ℤ a) (upper false (neg_ℤ c)) → a -ℤ b ≡ pos D *ℤ c
reached D a b c h k = omega (
  zs,
  keeps_in (upper false c) h,
  keeps_in (upper false (neg_ℤ c)) k,
  -parts a b,
  -parts b a,
  D-parts D c,
  ap (λ (k : ℕ). D * k) (neg_parts c).0,
  ap (λ (k : ℕ). D * k) (neg_parts c).1,
)

near_scaled : (D N : ℕ) (a b c : ℤ) → Keeps D (b -ℤ a) (upper true (pos 1 -ℤ (pos N *ℤ c))) → ((pos (D * N) *ℤ c) -ℤ (a -ℤ b)) <ℤ pos D
near_scaled D N a b c h = omega (
  zs,
  keeps_in (upper true (pos 1 -ℤ (pos N *ℤ c))) h,
  -parts a b,
  -parts b a,
  D-parts (D * N) c,
  ap (λ (k : ℕ). D * k) (D-parts N c),
  ap (λ (k : ℕ). D * k) (-parts (pos 1) (pos N *ℤ c)),
  ap (λ (k : ℕ). D * k) (pos_parts 1).0,
  ap (λ (k : ℕ). D * k) (pos_parts 1).1,
  -parts (pos (D * N) *ℤ c) (a -ℤ b),
  pos_parts D,
)

times_less : (D N : ℕ) (t : ℤ) → 1 ≤ N → t <ℤ pos D → (pos N *ℤ t) <ℤ pos (D * N)
times_less D N t g h =
    let l : p t + 1 ≤ D + n t = omega (zs, pos_parts D) in
    omega (zs, mul-le-mul_left N l, D-parts N t, pos_parts (D * N))

module _ {w i j : ℕ} {m : Matrix (Upper ℤ)} (c : Closed w m) (hi : i ≤ w) (hj : j ≤ w) where
  reached_none : m i j ≡ none → Reached w m i j none
  reached_none e N =
      let (D, x, s, h, k) = guard_state c hj hi (upper true (neg_ℤ N)) (rw e (opposite_none N)) in
      (D, x, s, h, above D (x i) (x j) N k)

  reached-≤ : (b : ℤ) → m i j ≡ upper false b → Reached w m i j (upper false b)
  reached-≤ b e =
      let (D, x, s, h, k) = guard_state c hj hi (upper false (neg_ℤ b)) (rw e (opposite-≤ b)) in
      (D, x, s, h, reached D (x i) (x j) b (rw e at (h i j hi hj)) k)

  -- the matrix is scaled by N first, so that the guard may leave a whole minute's room
  reached-< : (b : ℤ) → m i j ≡ upper true b → Reached w m i j (upper true b)
  unfolding scaled scale_w
  reached-< b e N g =
      let (D, x, s, h, k) = guard_state (scaled_closed N g c) hj hi (upper true (pos 1 -ℤ (pos N *ℤ b)))
      (rw e (opposite-< (pos N *ℤ b))) in (
        D * N,
        x,
        record { parts = one-le-mul s.parts g; clock0 = s.clock0 },
        scaled_meets m N D x h,
        times_less D N ((pos (D * N) *ℤ b) -ℤ (x i -ℤ x j)) g (near_scaled D N (x i) (x j) b k),
      )

  by_entry : (a : Upper ℤ) → m i j ≡ a → Reached w m i j a
  by_entry none e = reached_none e
  by_entry (upper true b) e = reached-< b e
  by_entry (upper false b) e = reached-≤ b e

  -- every entry of a closed matrix is reached
  pub closed_tight : Reached w m i j (m i j)
  closed_tight = by_entry (m i j) refl

-- ---- multiples come as near
pub times_reached : (K D : ℕ) (d c : ℤ) → d ≡ pos D *ℤ c → pos K *ℤ d ≡ pos (K * D) *ℤ c
times_reached K D d c h = ap (λ (z : ℤ). pos K *ℤ z) h ∙ sym (*ℤ-assoc (pos K) (pos D) c)

pub times_above : (K D : ℕ) (d N : ℤ) → 1 ≤ K → (pos D *ℤ N) <ℤ d → (pos (K * D) *ℤ N) <ℤ (pos K *ℤ d)
times_above K D d N g h =
    let l : D * p N + n d + 1 ≤ p d + D * n N = omega (zs, D-parts D N) in
    omega (zs, mul-le-mul_left K l, D-parts (K * D) N, D-parts K d)

same_gap : (K D N : ℕ) (d c : ℤ) → pos N *ℤ ((pos (K * D) *ℤ c) -ℤ (pos K *ℤ d)) ≡ pos K *ℤ (pos N *ℤ ((pos D *ℤ c) -ℤ d))
same_gap K D N d c =
    ap (λ (z : ℤ). pos N *ℤ (z -ℤ (pos K *ℤ d))) (*ℤ-assoc (pos K) (pos D) c)
    ∙ ap (λ (z : ℤ). pos N *ℤ z) (sym (*ℤ-distribl-sub (pos K) (pos D *ℤ c) d))
    ∙ factors_turn (pos N) (pos K) ((pos D *ℤ c) -ℤ d)
  where
    factors_turn : (a b t : ℤ) → a *ℤ (b *ℤ t) ≡ b *ℤ (a *ℤ t)
    factors_turn a b t = sym (*ℤ-assoc a b t) ∙ ap (λ (z : ℤ). z *ℤ t) (*ℤ_comm a b) ∙ *ℤ-assoc b a t

pub times_near : (K D N : ℕ) (d c : ℤ) → 1 ≤ K → (pos N *ℤ ((pos D *ℤ c) -ℤ d)) <ℤ pos D
    → (pos N *ℤ ((pos (K * D) *ℤ c) -ℤ (pos K *ℤ d))) <ℤ pos (K * D)
times_near K D N d c g h = rw (same_gap K D N d c, mul_comm K D) (times_less D K (pos N *ℤ ((pos D *ℤ c) -ℤ d)) g h)
