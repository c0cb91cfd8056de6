-- Numbers of a list copied to another part of it.
use Rattle.std.specs.Prelude.{◌≡◌, List, ℕ, ◌+◌, ◌-◌, ◌≤◌, ◌<◌, length, get_or}
use Rattle.std.specs.List.{CopiedTo, SameBelow, SameFrom}
use Rattle.std.proofs.Common.{ap, ◌∙◌, arith}

-- the list l with n of the numbers from a on at b and behind it; d is what is read past its end
pub record Copying {A : Type 0} (d : A) (l now : List A) (a b n : ℕ) : Type 0 where
  pub long : length now ≡ length l
  pub done : (j : ℕ) → j < n → get_or now (b + j) d ≡ get_or l (a + j) d
  pub before : (x : ℕ) → x < b → get_or now x d ≡ get_or l x d
  pub after : (x : ℕ) → b + n ≤ x → get_or now x d ≡ get_or l x d

-- what `copy_within` does
pub copied_within : {A : Type 0} (d : A) (l now : List A) (a b n m : ℕ) → length now ≡ length l → m ≡ n → CopiedTo l now a b m
    → SameBelow l now b → SameFrom l now (b + m) → Copying d l now a b n
copied_within d l now a b n m long e there before after = record {
  long = long;
  done = λ j h.
      let k : a + (b + j - b) ≡ a + j = omega arith in
      there (b + j) d (omega arith) (omega arith) ∙ ap (λ (i : ℕ). get_or l i d) k;
  before = λ x h. before x d h;
  after = λ x h. after x d (omega arith);
}
