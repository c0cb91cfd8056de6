-- Lists with one place changed.
use Rattle.std.specs.Prelude.{◌≡◌, refl, List, [], ◌∷◌, ◌++◌, ℕ, zero, suc, ◌<◌, length, get_or, take, drop, set}
use Rattle.std.proofs.Common.{ap, ◌∙◌, arith, length-set, take-suc, get_or-set_same}

module _ {A : Type 0} where
  take_set : (n : ℕ) (l : List A) (z : A) → take n (set l n z) ≡ take n l
  take_set zero l z = refl
  take_set (suc n) [] z = refl
  take_set (suc n) (x ∷ l) z = ap (λ (k : List A). x ∷ k) (take_set n l z)

  pub drop_set : (n : ℕ) (l : List A) (z : A) → drop (suc n) (set l n z) ≡ drop (suc n) l
  drop_set zero [] z = refl
  drop_set zero (x ∷ l) z = refl
  drop_set (suc n) [] z = refl
  drop_set (suc n) (x ∷ l) z = drop_set n l z

  -- the place behind the first n
  pub take_more : (n : ℕ) (l : List A) (z : A) → n < length l → take (suc n) (set l n z) ≡ take n l ++ z ∷ []
  take_more n l z h =
      take-suc (set l n z) n z (omega (arith, length-set l n z))
      ∙ ap (λ (k : List A). k ++ get_or (set l n z) n z ∷ []) (take_set n l z)
      ∙ ap (λ (y : A). take n l ++ y ∷ []) (get_or-set_same l n z z h)
