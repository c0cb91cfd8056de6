-- A signed local is its bits: an operation reads its operands through `to_z` and writes its result through `of_z`.
-- These laws say that the bits come and go: of an operation f on two locals that hold x and y, the result is f x y.
use Rattle.std.specs.Prelude.{◌≡◌, ℤ}
use Rattle.std.proofs.Common.{subst, sym, ◌∙◌, SFits, to_z, of_z}
use Rattle.std.proofs.Math.Facts.{sfits_widen}
use Rattle.std.specs.Int.{Width, w16, w64}
use Rattle.std.proofs.lemmas.Int.{to_z-of_z}

-- a local that holds x
pub held : (w : Width) (a x : ℤ) → a ≡ x → SFits w x → to_z w (of_z w a) ≡ x
held w a x e f = rw e (to_z-of_z w x f)

module _ (f : ℤ → ℤ → ℤ) (w : Width) (a b x y : ℤ) (ea : a ≡ x) (eb : b ≡ y) (fx : SFits w x) (fy : SFits w y) where
  -- what the operation asks
  pub op_fits : SFits w (f x y) → SFits w (f (to_z w (of_z w a)) (to_z w (of_z w b)))
  op_fits h =
      subst (λ (k : ℤ). SFits w (f k (to_z w (of_z w b)))) (sym (held w a x ea fx))
      (subst (λ (k : ℤ). SFits w (f x k)) (sym (held w b y eb fy)) h)

  -- the operation's result as a local
  pub op_is : f (to_z w (of_z w a)) (to_z w (of_z w b)) ≡ f x y
  op_is =
      subst (λ (k : ℤ). f k (to_z w (of_z w b)) ≡ f x y) (sym (held w a x ea fx))
      (subst (λ (k : ℤ). f x k ≡ f x y) (sym (held w b y eb fy)) (λ i. f x y))

  -- the operation's result, read back
  pub op_back : SFits w (f x y) → to_z w (of_z w (f (to_z w (of_z w a)) (to_z w (of_z w b)))) ≡ f x y
  op_back h = held w _ _ op_is h

-- what a callee says of a signed argument, which was passed as its bits
pub passed : (w : Width) (a x : ℤ) → a ≡ to_z w (of_z w x) → SFits w x → a ≡ x
passed w a x e f = e ∙ to_z-of_z w x f

-- what a callee says of two signed arguments
pub heard : (f : ℤ → ℤ → ℤ) (v w : Width) (a x y : ℤ) → a ≡ f (to_z v (of_z v x)) (to_z w (of_z w y)) → SFits v x → SFits w y → a ≡ f x y
heard f v w a x y e fx fy =
    e
    ∙ subst (λ (k : ℤ). f k (to_z w (of_z w y)) ≡ f x y) (sym (to_z-of_z v x fx))
    (subst (λ (k : ℤ). f x k ≡ f x y) (sym (to_z-of_z w y fy)) (λ i. f x y))

-- a local that holds what `wide16` gave
pub widened : (a x : ℤ) → a ≡ to_z w16 (of_z w16 x) → SFits w16 x → to_z w64 (of_z w64 a) ≡ x
widened a x e f = held w64 a x (passed w16 a x e f) (sfits_widen {w = w16} tt f)
