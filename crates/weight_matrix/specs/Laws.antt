-- Five entries, or five rows, that are equal one by one.
use Rattle.std.specs.Prelude.{◌≡◌, List, [], ◌∷◌}

pub list5 : {A : Type 0} {a b c d e a' b' c' d' e' : A} → a ≡ a' → b ≡ b' → c ≡ c' → d ≡ d' → e ≡ e'
    → ◌≡◌ {A = List A} (a ∷ b ∷ c ∷ d ∷ e ∷ []) (a' ∷ b' ∷ c' ∷ d' ∷ e' ∷ [])
list5 p q r s t = λ i. p i ∷ q i ∷ r i ∷ s i ∷ t i ∷ []
