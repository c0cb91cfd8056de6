-- The density lemma: finitely many upper and lower bounds, each lower one against each upper one, leave room for a whole number
-- of parts once there are two parts for one. (A strict bound needs the half part.)
use Rattle.std.specs.Prelude.{◌≡◌, ◌⊎◌, ◌≢◌, ℕ, zero, suc, ◌*◌, ◌≤◌, ◌<◌, ℤ, pos, ◌+ℤ◌, ◌-ℤ◌, ◌*ℤ◌, ◌≤ℤ◌, ◌<ℤ◌}
use Rattle.std.proofs.Common.{ap, inl, inr, ⊎_elim, arith}
use Rattle.std.proofs.Math.Option.{Option, none as unbounded, some}
use Rattle.integer.specs.Order.{≤ℤ-total}
use Rattle.integer.specs.Parts.{+-parts, -parts, pos_parts, zs}
use Rattle.weight.specs.Upper.{Upper, none, upper, sum_w}
use Rattle.dbm.specs.Matrix.{Keeps}
use Rattle.dbm.specs.Weights.{bit, LinearKeeps, keeps_in, keeps_out, or_bits, D-parts}
use Rattle.dbm.specs.Entries.{same_or_not}

-- ---- whole bounds, of which some are missing
abbrev UpTo : Option ℤ → ℤ → Type 0
UpTo unbounded v = Unit
UpTo (some u) v = v ≤ℤ u

abbrev From : Option ℤ → ℤ → Type 0
From unbounded v = Unit
From (some l) v = l ≤ℤ v

-- every number from the lower bound up is not past the upper one
abbrev Before : Option ℤ → Option ℤ → Type 0
Before unbounded u = Unit
Before (some l) u = UpTo u l

-- v brought down to a bound, and up to one
lowered : (u : Option ℤ) (v : ℤ) → (t : ℤ) × UpTo u t × (t ≤ℤ v) × ((z : ℤ) → z ≤ℤ v → UpTo u z → z ≤ℤ t)
lowered unbounded v = (v, tt, omega zs, λ z h k. h)
lowered (some u) v = by (≤ℤ-total u v)
  where
    by : (u ≤ℤ v) ⊎ (v <ℤ u) → (t : ℤ) × (t ≤ℤ u) × (t ≤ℤ v) × ((z : ℤ) → z ≤ℤ v → z ≤ℤ u → z ≤ℤ t)
    by (inl h) = (u, omega zs, h, λ z a b. b)
    by (inr h) = (v, omega zs, omega zs, λ z a b. a)

raised : (l : Option ℤ) (v : ℤ) → (t : ℤ) × From l t × (v ≤ℤ t) × ((z : ℤ) → v ≤ℤ z → From l z → t ≤ℤ z)
raised unbounded v = (v, tt, omega zs, λ z h k. h)
raised (some l) v = by (≤ℤ-total l v)
  where
    by : (l ≤ℤ v) ⊎ (v <ℤ l) → (t : ℤ) × (l ≤ℤ t) × (v ≤ℤ t) × ((z : ℤ) → v ≤ℤ z → l ≤ℤ z → t ≤ℤ z)
    by (inl h) = (v, h, omega zs, λ z a b. a)
    by (inr h) = (l, omega zs, omega zs, λ z a b. b)

up_to_less : (u : Option ℤ) {s t : ℤ} → s ≤ℤ t → UpTo u t → UpTo u s
up_to_less unbounded h k = tt
up_to_less (some u) h k = omega zs

from_more : (l : Option ℤ) {s t : ℤ} → s ≤ℤ t → From l s → From l t
from_more unbounded h k = tt
from_more (some l) h k = omega zs

-- a bound that both ends of the move respect
up_to_raised : (l u : Option ℤ) {t r : ℤ} → ((z : ℤ) → t ≤ℤ z → From l z → r ≤ℤ z) → UpTo u t → Before l u → UpTo u r
up_to_raised l unbounded f h k = tt
up_to_raised unbounded (some u) f h k = f u h tt
up_to_raised (some l) (some u) f h k = f u h k

from_lowered : (l u : Option ℤ) {v t : ℤ} → ((z : ℤ) → z ≤ℤ v → UpTo u z → z ≤ℤ t) → From l v → Before l u → From l t
from_lowered unbounded u f h k = tt
from_lowered (some l) u f h k = f l h k

-- v brought between two bounds: it Keeps every other bound that it kept, if that goes with these two
record Clipped (u l : Option ℤ) (v : ℤ) : Type 0 where
  value : ℤ
  top : UpTo u value
  bottom : From l value
  other_tops : (t : Option ℤ) → UpTo t v → Before l t → UpTo t value
  other_bottoms : (b : Option ℤ) → From b v → Before b u → From b value

clipped : (u l : Option ℤ) (v : ℤ) → Before l u → Clipped u l v
clipped u l v h =
    let (t, t-top, t-less, t-most) = lowered u v in
    let (r, r-bottom, r-more, r-least) = raised l t in
    record {
      value = r;
      top = up_to_raised l u r-least t-top h;
      bottom = r-bottom;
      other_tops = λ a k g. up_to_raised l a r-least (up_to_less a t-less k) g;
      other_bottoms = λ b k g. from_more b r-more (from_lowered b u t-most k g);
    }

-- a number between finitely many bounds: one for the first N, brought between the next two
abbrev Fitted : ℕ → (ℕ → Option ℤ) → (ℕ → Option ℤ) → Type 0
Fitted N u l = (v : ℤ) × ((i : ℕ) → i < N → UpTo (u i) v) × ((j : ℕ) → j < N → From (l j) v)

last_or_not : (N i : ℕ) → i < suc N → (i ≡ N) ⊎ (i < N)
last_or_not N i k = ⊎_elim inl (λ (d : i ≢ N). inr (omega arith)) (same_or_not i N)

fitted : (N : ℕ) (u l : ℕ → Option ℤ) → ((i j : ℕ) → i < N → j < N → Before (l j) (u i)) → Fitted N u l
fitted zero u l h = (pos 0, λ i k. absurd (omega arith), λ j k. absurd (omega arith))
fitted (suc N) u l h = next (fitted N u l (λ i j hi hj. h i j (omega arith) (omega arith)))
  where
    next : Fitted N u l → Fitted (suc N) u l
    next (v, tops, bottoms) = (c.value, λ i k. up i (last_or_not N i k), λ j k. down j (last_or_not N j k))
      where
        c : Clipped (u N) (l N) v
        c = clipped (u N) (l N) v (h N N (omega arith) (omega arith))

        up : (i : ℕ) → (i ≡ N) ⊎ (i < N) → UpTo (u i) c.value
        up i (inl e) = rw e c.top
        up i (inr k) = c.other_tops (u i) (tops i k) (h i N (omega arith) (omega arith))

        down : (j : ℕ) → (j ≡ N) ⊎ (j < N) → From (l j) c.value
        down j (inl e) = rw e c.bottom
        down j (inr k) = c.other_bottoms (l j) (bottoms j k) (h N j (omega arith) (omega arith))

-- ---- weights as whole bounds, at two parts for one
-- the most that v may be, where v - u Keeps a
most : ℕ → ℤ → Upper ℤ → Option ℤ
most D u none = unbounded
most D u (upper s c) = some (((pos 2 *ℤ u) +ℤ (pos (2 * D) *ℤ c)) -ℤ pos (bit s))

-- the least that v may be, where l - v Keeps b
least : ℕ → ℤ → Upper ℤ → Option ℤ
least D l none = unbounded
least D l (upper s c) = some (((pos 2 *ℤ l) -ℤ (pos (2 * D) *ℤ c)) +ℤ pos (bit s))

most_keeps : (D : ℕ) (u v : ℤ) (a : Upper ℤ) → UpTo (most D u a) v → LinearKeeps (2 * D) (v -ℤ (pos 2 *ℤ u)) a
unfolding most
most_keeps D u v none h = tt
most_keeps D u v (upper s c) h = omega (
  zs,
  -parts v (pos 2 *ℤ u),
  D-parts (2 * D) c,
  +-parts (pos 2 *ℤ u) (pos (2 * D) *ℤ c),
  -parts ((pos 2 *ℤ u) +ℤ (pos (2 * D) *ℤ c)) (pos (bit s)),
  pos_parts (bit s),
)

least_keeps : (D : ℕ) (l v : ℤ) (b : Upper ℤ) → From (least D l b) v → LinearKeeps (2 * D) ((pos 2 *ℤ l) -ℤ v) b
unfolding least
least_keeps D l v none h = tt
least_keeps D l v (upper s c) h = omega (
  zs,
  -parts (pos 2 *ℤ l) v,
  D-parts (2 * D) c,
  -parts (pos 2 *ℤ l) (pos (2 * D) *ℤ c),
  +-parts ((pos 2 *ℤ l) -ℤ (pos (2 * D) *ℤ c)) (pos (bit s)),
  pos_parts (bit s),
)

least_most : (D : ℕ) (u l : ℤ) (a b : Upper ℤ) → LinearKeeps D (l -ℤ u) (sum_w a b) → Before (least D l b) (most D u a)
unfolding least most sum_w
least_most D u l none none h = tt
least_most D u l (upper s x) none h = tt
least_most D u l none (upper t y) h = tt
least_most D u l (upper s x) (upper t y) h = omega (
  zs,
  -parts l u,
  D-parts 2 l,
  D-parts 2 u,
  D-parts (2 * D) x,
  D-parts (2 * D) y,
  ap (λ (c : ℕ). D * c) (+-parts x y),
  or_bits s t,
  +-parts (pos 2 *ℤ u) (pos (2 * D) *ℤ x),
  -parts ((pos 2 *ℤ u) +ℤ (pos (2 * D) *ℤ x)) (pos (bit s)),
  pos_parts (bit s),
  -parts (pos 2 *ℤ l) (pos (2 * D) *ℤ y),
  +-parts ((pos 2 *ℤ l) -ℤ (pos (2 * D) *ℤ y)) (pos (bit t)),
  pos_parts (bit t),
)

-- ---- the lemma
-- upper bounds v - u i and lower bounds l j - v, for indices up to w: if each l j - u i Keeps the sum, some v Keeps all, at two parts for
-- one
pub density : (w D : ℕ) (u l : ℕ → ℤ) (a b : ℕ → Upper ℤ)
    → ((i j : ℕ) → i ≤ w → j ≤ w → Keeps D (l j -ℤ u i) (sum_w (a i) (b j)))
    → (v : ℤ)
    × ((i : ℕ) → i ≤ w → Keeps (2 * D) (v -ℤ (pos 2 *ℤ u i)) (a i))
    × ((j : ℕ) → j ≤ w → Keeps (2 * D) ((pos 2 *ℤ l j) -ℤ v) (b j))
density w D u l a b h = told (fitted (suc w) (λ i. most D (u i) (a i)) (λ j. least D (l j) (b j)) apart)
  where
    apart : (i j : ℕ) → i < suc w → j < suc w → Before (least D (l j) (b j)) (most D (u i) (a i))
    apart i j hi hj = least_most D (u i) (l j) (a i) (b j) (keeps_in (sum_w (a i) (b j)) (h i j (omega arith) (omega arith)))

    told : Fitted (suc w) (λ i. most D (u i) (a i)) (λ j. least D (l j) (b j))
        → (v : ℤ) × ((i : ℕ) → i ≤ w → Keeps (2 * D) (v -ℤ (pos 2 *ℤ u i)) (a i))
        × ((j : ℕ) → j ≤ w → Keeps (2 * D) ((pos 2 *ℤ l j) -ℤ v) (b j))
    told (v, tops, bottoms) = (
      v,
      λ i k. keeps_out (a i) (2 * D) (v -ℤ (pos 2 *ℤ u i)) (most_keeps D (u i) v (a i) (tops i (omega arith))),
      λ j k. keeps_out (b j) (2 * D) ((pos 2 *ℤ l j) -ℤ v) (least_keeps D (l j) v (b j) (bottoms j (omega arith))),
    )
