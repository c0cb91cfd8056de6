-- Where an entry's bound comes from. Instants: 0 is the start, k the end of the k-th delay; `instant 0` is now, and `instant i` the last
-- reset of clock i (the start, before its first). Entry (k, l) bounds the time from `instant k` to `instant l`. For each valuation held
-- there is a closed matrix over all instants; an entry's bound is a shortest path in it, by `steps` guards, and its set has that many
-- instants of the path and one more at least.
use Rattle.std.specs.Prelude.{◌≡◌, refl, Bool, true, false, ◌||◌, List, ◌⊎◌, ℕ, zero, suc, ◌+◌, ◌*◌, ◌≤◌, eqb, ℤ}
use Rattle.std.proofs.Common.{inl, inr, mul-le-mul_left, arith}
use Rattle.dbm.specs.Entries.{eqb_yes, same_or_not}
use Rattle.dbm.specs.Matrix.{Matrix, ◌⊑◌, Closed}
use Rattle.cutting.specs.Cutting.{Bounds}
use Rattle.expr.specs.Affine.{Affine}
use Rattle.expr.specs.Bounds.{at_v, zero_b}
use Rattle.weight.specs.Upper.{Upper, sum_w}
use Rattle.sizes.specs.Sizes.{AtMostB, AtMostM, LIMIT}
use Rattle.sizes.specs.SizeLaws.{at_most_b_more}

-- ---- sets of instants
abbrev pub one : Bool → ℕ
one true = 1
one false = 0

-- how many of the instants 0 to n are in a set
unfoldable pub card : (ℕ → Bool) → ℕ → ℕ
card s zero = one (s 0)
card s (suc n) = one (s (suc n)) + card s n

-- ---- the way to one bound x, from instant a to instant b: H says which valuations are held
pub record Trace (n : ℕ) (H : List ℤ → Type 0) (over : List ℤ → Matrix (Upper ℤ)) (a b : ℕ) (x : Upper Affine) : Type 0 where
  pub on : ℕ → Bool
  pub steps : ℕ
  pub lies : (y : ℕ) → on y ≡ true → y ≤ n
  pub few : suc steps ≤ card on n
  pub size : AtMostB (LIMIT * steps) x
  pub is : (v : List ℤ) → H v → at_v v x ≡ over v a b
  pub through : (v : List ℤ) → H v → (y : ℕ) → on y ≡ true → sum_w (over v a y) (over v y b) ⊑ over v a b

-- ---- a matrix after n delays
pub record Traced (w n : ℕ) (H : List ℤ → Type 0) (m : Bounds) : Type 0 where
  pub instant : ℕ → ℕ
  pub now : instant 0 ≡ n
  pub past : (k : ℕ) → k ≤ w → instant k ≤ n
  pub over : List ℤ → Matrix (Upper ℤ)
  pub closed : (v : List ℤ) → H v → Closed n (over v)
  pub trace : (k l : ℕ) → k ≤ w → l ≤ w → Trace n H over (instant k) (instant l) (m k l)
  pub diagonal : (k : ℕ) → k ≤ w → m k k ≡ zero_b

-- ---- fewer valuations
module _ {H H' : List ℤ → Type 0} (fewer : (v : List ℤ) → H v → H' v) where
  trace_fewer : {n : ℕ} {over : List ℤ → Matrix (Upper ℤ)} {a b : ℕ} {x : Upper Affine} → Trace n H' over a b x → Trace n H over a b x
  trace_fewer c =
      record {
        on = c.on;
        steps = c.steps;
        lies = c.lies;
        few = c.few;
        size = c.size;
        is = λ v h. c.is v (fewer v h);
        through = λ v h. c.through v (fewer v h);
      }

  pub traced_fewer : {w n : ℕ} {m : Bounds} → Traced w n H' m → Traced w n H m
  traced_fewer t =
      record {
        instant = t.instant;
        now = t.now;
        past = t.past;
        over = t.over;
        closed = λ v h. t.closed v (fewer v h);
        trace = λ k l hk hl. trace_fewer (t.trace k l hk hl);
        diagonal = t.diagonal;
      }

-- ---- counting
one_most : (b : Bool) → one b ≤ 1
one_most true = omega arith
one_most false = omega arith

pub card_most : (s : ℕ → Bool) (n : ℕ) → card s n ≤ suc n
unfolding card
card_most s zero = one_most (s 0)
card_most s (suc n) = omega (arith, one_most (s (suc n)), card_most s n)

pub card_more : (s : ℕ → Bool) (n : ℕ) → card s n ≤ card s (suc n)
unfolding card
card_more s n = omega arith

-- one instant
abbrev pub only : ℕ → ℕ → Bool
only a y = eqb y a

pub card_only : (a n : ℕ) → a ≤ n → 1 ≤ card (only a) n
unfolding card
card_only a zero h = let e : a ≡ 0 = omega arith in rw e (omega arith)
card_only a (suc n) h = by (same_or_not (suc n) a) (card_only a n)
  where
    by : (suc n ≡ a) ⊎ (suc n ≡ a → ⊥) → (a ≤ n → 1 ≤ card (only a) n) → 1 ≤ card (only a) (suc n)
    by (inl e) ih = let here : one (eqb (suc n) a) ≡ 1 = rw (← e, eqb_yes (suc n)) refl in omega arith
    by (inr d) ih = let before = ih (omega arith) in omega arith

-- two sets with no instant in common
abbrev pub either : (ℕ → Bool) → (ℕ → Bool) → ℕ → Bool
either s t y = s y || t y

one_or : (b c : Bool) → (b ≡ true → c ≡ true → ⊥) → one b + one c ≤ one (b || c)
one_or true true h = absurd (h refl refl)
one_or true false h = omega arith
one_or false c h = omega arith

pub card_either : (s t : ℕ → Bool) (n : ℕ) → ((y : ℕ) → s y ≡ true → t y ≡ true → ⊥) → card s n + card t n ≤ card (either s t) n
unfolding card
card_either s t zero h = one_or (s 0) (t 0) (h 0)
card_either s t (suc n) h = let a = one_or (s (suc n)) (t (suc n)) (h (suc n)) in let b = card_either s t n h in omega arith

pub either_which : (s t : ℕ → Bool) (y : ℕ) → either s t y ≡ true → (s y ≡ true) ⊎ (t y ≡ true)
either_which s t y = by (s y) (t y)
  where
    by : (b c : Bool) → (b || c) ≡ true → (b ≡ true) ⊎ (c ≡ true)
    by true c h = inl refl
    by false c h = inr h

-- so every number is at most 1,000 for each delay
pub traced_small : {w n : ℕ} {H : List ℤ → Type 0} {m : Bounds} → Traced w n H m → AtMostM (LIMIT * n) w m
traced_small {w} {n} {H} {m} t k l hk hl =
    let c = t.trace k l hk hl in
    let few : c.steps ≤ n = omega (arith, c.few, card_most c.on n) in
    at_most_b_more (LIMIT * c.steps) (LIMIT * n) (mul-le-mul_left LIMIT few) (m k l) c.size
