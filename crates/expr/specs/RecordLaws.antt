-- Lists that stand for arrays: inside one, what is read does not depend on what is read past its end;
-- and one that is filled place by place.
use Rattle.std.specs.Prelude.{◌≡◌, refl, List, [], ◌∷◌, ℕ, zero, suc, ◌+◌, ◌≤◌, ◌<◌, ℤ, pos, length, get_or, set, replicate}
use Rattle.std.proofs.Common.{ap, ◌∙◌, add-one, arith}
use Rattle.expr.specs.Records.{PARAMETERS, places_from}

pub inside_any : {A : Type 0} (l : List A) (i : ℕ) (d e : A) → i < length l → get_or l i d ≡ get_or l i e
inside_any [] i d e h = absurd (omega arith)
inside_any (a ∷ l) zero d e h = refl
inside_any (a ∷ l) (suc i) d e h = inside_any l i d e (omega arith)

-- places of a list without its first
pub places_behind : {A : Type 0} (d a : A) (l : List A) (n i : ℕ) → places_from d (a ∷ l) (suc i) n ≡ places_from d l i n
places_behind {A = A} d a l zero i = refl
places_behind {A = A} d a l (suc n) i = ap (λ (k : List A). get_or l i d ∷ k) (places_behind d a l n (suc i))

-- as many places as a list has are the list
pub places_same : {A : Type 0} (d : A) (l : List A) → places_from d l 0 (length l) ≡ l
places_same {A = A} d [] = refl
places_same {A = A} d (a ∷ l) = ap (λ (k : List A). a ∷ k) (places_behind d a l (length l) 0 ∙ places_same d l)

-- a zero for each parameter, the first i of them filled by what f says
unfoldable pub filled_to : (ℕ → ℤ) → ℕ → List ℤ
filled_to f zero = replicate PARAMETERS (pos 0)
filled_to f (suc i) = set (filled_to f i) i (f i)

pub filled_none : (f : ℕ → ℤ) → filled_to f 0 ≡ replicate PARAMETERS (pos 0)
unfolding filled_to
filled_none f = refl

pub filled_next : (f : ℕ → ℤ) (i : ℕ) (x : ℤ) → x ≡ f i → set (filled_to f i) i x ≡ filled_to f (i + 1)
unfolding filled_to
filled_next f i x h = rw (h, add-one) refl

pub filled_all : (f : ℕ → ℤ) (i : ℕ) → i ≤ PARAMETERS → (i < PARAMETERS → ⊥) → filled_to f i ≡ f 0 ∷ f 1 ∷ f 2 ∷ f 3 ∷ []
unfolding filled_to
filled_all f i l h =
    let k : i ≡ PARAMETERS = omega arith in
    ap (filled_to f) k
