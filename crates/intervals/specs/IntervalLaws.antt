-- What `Interval` says is right: an inequality's interval is exact.
use Rattle.std.specs.Prelude.{◌≡◌, refl, ◌↔◌, Bool, true, false, cond, ℕ, zero, suc, ℤ, pos, negsuc, neg_ℤ, ◌+ℤ◌, ◌*ℤ◌, ◌≤ℤ◌, ◌<ℤ◌}
use Rattle.std.proofs.Common.{arith, SFits}
use Rattle.std.specs.Int.Signed.{le_z, ≤ℤ_refl}
use Rattle.std.specs.Int.{w32}
use Rattle.integer.specs.Floor.{floor_z, floor_pos, floor_neg}
use Rattle.integer.specs.Order.{zts, le_z_true, true_le_z}
use Rattle.integer.specs.Parts.{p, n, zs}
use Rattle.integer.specs.Split.{split, split-all}
use Rattle.intervals.specs.Interval.{EMPTY, from, up_to, interval, Tame}
use Rattle.expr.specs.Ranges.{In}
use Rattle.expr.specs.declared.range.Range.{Range}

-- ---- the parts of a range
pub In-EMPTY : {x : ℤ} → In x EMPTY → ⊥
unfolding p n
In-EMPTY h = omega zs

from_in : (r : Range) (l x : ℤ) (b d : Bool) → le_z l r.low ≡ b → le_z l r.high ≡ d
    → In x (cond b r (cond d (record { low = l; high = r.high }) EMPTY)) ↔ (In x r × (l ≤ℤ x))
from_in r l x true d e f = (λ h. (h, omega zts), λ h. h.0)
from_in r l x false true e f =
    (λ h. (record { least = omega zts; most = h.most }, h.least), λ h. record { least = h.1; most = h.0.most })
from_in r l x false false e f = (λ h. absurd (In-EMPTY h), λ h. absurd (omega zts))

pub from_exact : (r : Range) (l x : ℤ) → In x (from r l) ↔ (In x r × (l ≤ℤ x))
from_exact r l x = from_in r l x (le_z l r.low) (le_z l r.high) refl refl

up_to_in : (r : Range) (h x : ℤ) (b d : Bool) → le_z r.high h ≡ b → le_z r.low h ≡ d
    → In x (cond b r (cond d (record { low = r.low; high = h }) EMPTY)) ↔ (In x r × (x ≤ℤ h))
up_to_in r h x true d e f = (λ k. (k, omega zts), λ k. k.0)
up_to_in r h x false true e f =
    (λ k. (record { least = k.least; most = omega zts }, k.most), λ k. record { least = k.0.least; most = k.1 })
up_to_in r h x false false e f = (λ k. absurd (In-EMPTY k), λ k. absurd (omega zts))

pub up_to_exact : (r : Range) (h x : ℤ) → In x (up_to r h) ↔ (In x r × (x ≤ℤ h))
up_to_exact r h x = up_to_in r h x (le_z r.high h) (le_z r.low h) refl refl

all_in : (r : Range) (c x : ℤ) (b : Bool) → le_z (pos 0) c ≡ b → In x (cond b r EMPTY) ↔ (In x r × (pos 0 ≤ℤ c))
all_in r c x true e = (λ h. (h, le_z_true e), λ h. h.0)
all_in r c x false e = (λ h. absurd (In-EMPTY h), λ h. absurd (omega zts))

-- ---- the interval of an inequality is exact
no_slope : (c x : ℤ) → (pos 0 ≤ℤ c) ↔ (pos 0 ≤ℤ (c +ℤ (pos 0 *ℤ x)))
no_slope c x = rw (split c, split x) (simp split-all (omega arith))

low_end : (l x : ℤ) → (neg_ℤ l ≤ℤ x) ↔ (neg_ℤ x ≤ℤ l)
low_end l x = rw (split l, split x) (simp split-all (omega arith))

rising : (c d x : ℤ) → ((neg_ℤ x *ℤ d) ≤ℤ c) ↔ (pos 0 ≤ℤ (c +ℤ (d *ℤ x)))
rising c d x = rw (split c, split d, split x) (simp split-all (omega arith))

falling : (c d x : ℤ) → (neg_ℤ c ≤ℤ (x *ℤ d)) ↔ (pos 0 ≤ℤ (c +ℤ (d *ℤ x)))
falling c d x = rw (split c, split d, split x) (simp split-all (omega arith))

then : {A B C D : Type 0} → A ↔ (B × C) → C ↔ D → A ↔ (B × D)
then e f = (λ a. ((e.0 a).0, f.0 (e.0 a).1), λ t. e.1 (t.0, f.1 t.1))

infixr 20 ◌then-iff◌
◌then-iff◌ : {A B C : Type 0} → A ↔ B → B ↔ C → A ↔ C
e then-iff f = (λ a. f.0 (e.0 a), λ c. e.1 (f.1 c))

above_zero : (a : ℕ) → pos 0 <ℤ pos (suc a)
unfolding p n
above_zero a = omega zs

below_zero : (a : ℕ) → negsuc a <ℤ pos 0
below_zero a = record { lt = tt }

pub interval_exact : (r : Range) (c a x : ℤ) → In x (interval r c a) ↔ (In x r × (pos 0 ≤ℤ (c +ℤ (a *ℤ x))))
unfolding interval
interval_exact r c (pos zero) x = then (all_in r c x (le_z (pos 0) c) refl) (no_slope c x)
interval_exact r c (pos (suc a)) x =
    then (from_exact r (neg_ℤ (floor_z c (pos (suc a)))) x)
    (low_end (floor_z c (pos (suc a))) x then-iff floor_pos (neg_ℤ x) c (pos (suc a)) (above_zero a) then-iff rising c (pos (suc a)) x)
interval_exact r c (negsuc a) x =
    then (up_to_exact r (floor_z (neg_ℤ c) (negsuc a)) x) (floor_neg x (neg_ℤ c) (negsuc a) (below_zero a) then-iff falling c (negsuc a) x)

-- an inequality that holds at both ends of a range leaves it whole
point_in : (x : ℤ) → In x (record { low = x; high = x })
point_in x = record { least = ≤ℤ_refl x; most = ≤ℤ_refl x }

pub interval_whole : (r : Range) (c a : ℤ) → pos 0 ≤ℤ (c +ℤ (a *ℤ r.low)) → pos 0 ≤ℤ (c +ℤ (a *ℤ r.high)) → r ≡ interval r c a
unfolding interval
interval_whole r c (pos zero) h g = rw (true_le_z ((no_slope c r.low).1 h)) refl
interval_whole r c (pos (suc a)) h g =
    let q : Range = record { low = r.low; high = r.low } in
    let l = neg_ℤ (floor_z c (pos (suc a))) in
    rw (true_le_z ((from_exact q l r.low).0 ((interval_exact q c (pos (suc a)) r.low).1 (point_in r.low, h))).1) refl
interval_whole r c (negsuc a) h g =
    let q : Range = record { low = r.high; high = r.high } in
    let m = floor_z (neg_ℤ c) (negsuc a) in
    rw (true_le_z ((up_to_exact q m r.high).0 ((interval_exact q c (negsuc a) r.high).1 (point_in r.high, g))).1) refl

-- a slope of 32 bits
pub slope_tame : (a : ℤ) → SFits w32 a → Tame a
slope_tame a = rw (split a) (simp split-all (omega arith))
