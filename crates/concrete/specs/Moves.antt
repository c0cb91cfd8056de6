-- Steps of a run as relations between clock values before and after, and what an outcome is worth for such a step from a matrix:
-- void means that no state of the matrix can make the step; else the step leads each state of the matrix into the new matrix,
-- and each state of the new matrix, times some factor, is where the step leads a state of the matrix.
-- It composes, and so it carries over a whole route.
use Rattle.std.specs.Prelude.{◌≡◌, refl, ℕ, ◌*◌, ◌≤◌, ℤ, ◌*ℤ◌}
use Rattle.std.proofs.Math.Path.{sym, ap}
use Rattle.std.proofs.Common.{◌∙◌, arith}
use Rattle.std.proofs.Math.Nat.{mul_assoc, one-le-mul}
use Rattle.std.proofs.Math.IntN.{pos}
use Rattle.dbm.specs.Matrix.{Matrix, Outcome, void, kept, State, Meets, times, Closed, After}
use Rattle.dbm.specs.State.{times_state, times_meets, times_times, meets_same}
use Rattle.weight.specs.Upper.{Upper}
use Rattle.timed.specs.Runs.{Clocks}
use Rattle.concrete.specs.Walk.{and_then}

-- with so many parts to a minute, from these clock values to those
abbrev pub Relation : Type 1
Relation = ℕ → Clocks → Clocks → Type 0

-- the values of clocks 0 to w are the same
abbrev pub Same : ℕ → Clocks → Clocks → Type 0
Same w x y = (i : ℕ) → i ≤ w → x i ≡ y i

-- one step, then another
abbrev pub Then : Relation → Relation → Relation
Then R S D x y = (z : Clocks) × R D x z × S D z y

-- a step that can be made as well with all values multiplied, and that does not depend on clocks past w
pub record Stable (w : ℕ) (R : Relation) : Type 0 where
  pub scales : (K D : ℕ) (x y : Clocks) → 1 ≤ K → R D x y → R (K * D) (times K x) (times K y)
  pub same : (D : ℕ) (x x' y : Clocks) → Same w x x' → R D x y → (y' : Clocks) × R D x' y' × Same w y y'

-- the values y, times some factor, are where the step leads a state of the matrix
pub record Comes (w : ℕ) (m : Matrix (Upper ℤ)) (R : Relation) (D : ℕ) (y : Clocks) : Type 0 where
  pub factor : ℕ
  pub some : 1 ≤ factor
  pub before : Clocks
  pub after : Clocks
  pub state : State (factor * D) before
  pub meets : Meets w m (factor * D) before
  pub leads : R (factor * D) before after
  pub same : Same w after (times factor y)

-- the new matrix is right for the step
pub record Kept (w : ℕ) (m : Matrix (Upper ℤ)) (R : Relation) (m' : Matrix (Upper ℤ)) : Type 0 where
  pub closed : Closed w m'
  pub forward : (D : ℕ) (x y : Clocks) → State D x → Meets w m D x → R D x y → State D y × Meets w m' D y
  pub back : (D : ℕ) (y : Clocks) → State D y → Meets w m' D y → Comes w m R D y

-- the outcome is right for the step
abbrev pub Moves : ℕ → Matrix (Upper ℤ) → Relation → Outcome → Type 0
Moves w m R void = (D : ℕ) (x y : Clocks) → State D x → Meets w m D x → R D x y → ⊥
Moves w m R (kept m') = Kept w m R m'

-- ---- one step after another
module _ {w : ℕ} {m m₁ : Matrix (Upper ℤ)} (R S : Relation) (a : Kept w m R m₁) (st : Stable w S) where
  then_back : {m₂ : Matrix (Upper ℤ)} → Kept w m₁ S m₂ → (D : ℕ) (y : Clocks) → State D y → Meets w m₂ D y → Comes w m (Then R S) D y
  unfolding times
  then_back b D y s h =
      let q = b.back D y s h in
      let p = a.back (q.factor * D) q.before q.state q.meets in
      let (y', l, e) = st.same (p.factor * (q.factor * D)) (times p.factor q.before) p.after (times p.factor q.after)
      (λ i hi. sym (p.same i hi))
      (st.scales p.factor (q.factor * D) q.before q.after p.some q.leads) in
      let f = mul_assoc p.factor q.factor D in
      record {
        factor = p.factor * q.factor;
        some = one-le-mul p.some q.some;
        before = p.before;
        after = y';
        state = rw f p.state;
        meets = rw f p.meets;
        leads = rw f (p.after, p.leads, l);
        same = λ i hi. sym (e i hi) ∙ ap (λ (z : ℤ). pos p.factor *ℤ z) (q.same i hi) ∙ times_times p.factor q.factor y i;
      }

  then_moves : (r : Outcome) → Moves w m₁ S r → Moves w m (Then R S) r
  then_moves void b = λ D x y s h (z, p, q). let (t, g) = a.forward D x z s h p in b D z y t g q
  then_moves (kept m₂) b = record {
    closed = b.closed;
    forward = λ D x y s h (z, p, q). let (t, g) = a.forward D x z s h p in b.forward D z y t g q;
    back = then_back b;
  }

-- the second step is made where the first is not void
pub and_then_moves : (w : ℕ) (m : Matrix (Upper ℤ)) (R S : Relation) (f : Matrix (Upper ℤ) → Outcome) → Stable w S
    → ((m₁ : Matrix (Upper ℤ)) → Closed w m₁ → Moves w m₁ S (f m₁))
    → (r : Outcome) → Moves w m R r → Moves w m (Then R S) (and_then r f)
and_then_moves w m R S f st b void a = λ D x y s h (z, p, q). a D x z s h p
and_then_moves w m R S f st b (kept m₁) a = then_moves R S a st (f m₁) (b m₁ a.closed)

pub then_stable : {w : ℕ} (R S : Relation) → Stable w R → Stable w S → Stable w (Then R S)
then_stable {w} R S a b = record {
  scales = λ K D x y g (z, p, q). (times K z, a.scales K D x z g p, b.scales K D z y g q);
  same = λ D x x' y e (z, p, q). by D x' y z (a.same D x x' z e p) q;
}
  where
    by : (D : ℕ) (x' y z : Clocks) → (z' : Clocks) × R D x' z' × Same w z z' → S D z y → (y' : Clocks) × Then R S D x' y' × Same w y y'
    by D x' y z (z', p', e) q = let (y', q', f) = b.same D z z' y e q in (y', (z', p', q'), f)

-- ---- a step described in another way
same_state : (w : ℕ) {D : ℕ} {x y : Clocks} → Same w x y → State D y → State D x
same_state w e s = record { parts = s.parts; clock0 = e 0 (omega arith) ∙ s.clock0 }

module _ (w : ℕ) (m : Matrix (Upper ℤ)) (R S : Relation)
    (to : (D : ℕ) (x y : Clocks) → R D x y → (y' : Clocks) × S D x y' × Same w y y')
    (from : (D : ℕ) (x y : Clocks) → S D x y → (y' : Clocks) × R D x y' × Same w y y') where
  forward_as : {m' : Matrix (Upper ℤ)} → Kept w m R m' → (D : ℕ) (x y : Clocks) → State D x → Meets w m D x → S D x y
      → State D y × Meets w m' D y
  forward_as a D x y s h q =
      let (y', p, e) = from D x y q in
      let (t, g) = a.forward D x y' s h p in
      (same_state w e t, meets_same y' y (λ i hi. sym (e i hi)) g)

  back_as : {m' : Matrix (Upper ℤ)} → Kept w m R m' → (D : ℕ) (y : Clocks) → State D y → Meets w m' D y → Comes w m S D y
  back_as a D y s h =
      let p = a.back D y s h in
      let (z, q, e) = to (p.factor * D) p.before p.after p.leads in
      record {
        factor = p.factor;
        some = p.some;
        before = p.before;
        after = z;
        state = p.state;
        meets = p.meets;
        leads = q;
        same = λ i hi. sym (e i hi) ∙ p.same i hi;
      }

  pub moves_as : (r : Outcome) → Moves w m R r → Moves w m S r
  moves_as void a = λ D x y s h q. let (y', p, e) = from D x y q in a D x y' s h p
  moves_as (kept m') a = record { closed = a.closed; forward = forward_as a; back = back_as a }

-- ---- a step that only asks something of the values
abbrev pub Asks : (ℕ → Clocks → Type 0) → Relation
Asks P D x y = P D x × (y ≡ x)

pub after_moves : (w : ℕ) (m : Matrix (Upper ℤ)) (P : ℕ → Clocks → Type 0) (r : Outcome) → After w m P r → Moves w m (Asks P) r
after_moves w m P void a = λ D x y s h (q, e). a D x s h q
after_moves w m P (kept m') (c, a) = record {
  closed = c;
  forward = λ D x y s h (q, e). rw e (s, (a D x s).1 (h, q));
  back = λ D y s h. let t = times_state 1 (omega arith) s in let (g, q) = (a (1 * D) (times 1 y) t).0 (times_meets y 1 (omega arith) h) in
      record {
        factor = 1;
        some = omega arith;
        before = times 1 y;
        after = times 1 y;
        state = t;
        meets = g;
        leads = (q, refl);
        same = λ i hi. refl;
      };
}
