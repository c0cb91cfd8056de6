-- What holds of all of a list.
use Rattle.std.specs.Prelude.{List, [], ◌∷◌}

-- all of a list have P
abbrev pub AllOf : {A : Type 0} → (A → Type 0) → List A → Type 0
AllOf P [] = Unit
AllOf P (a ∷ l) = P a × AllOf P l
