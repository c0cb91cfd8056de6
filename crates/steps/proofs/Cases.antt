-- The cases of the code's steps, with the branches' tests.
use mathlib.Core.Path.{◌≡◌, refl, sym, ap, ◌∙◌}
use mathlib.Core.Bool.{false}
use mathlib.Core.List.{List, [], ◌∷◌}
use Prim.Native.Nat.{ℕ, suc, ◌+◌, ◌≤◌, ◌<◌, min}
use native.Mathlib.Numerals.{add-one}
use native.Mathlib.Omega.{arith}
use borrow.Author.Tests.{lt-ltb, le-ltb}
use lib.IntN.{pos}
use lib.ListN.{length, get_or, take, drop, set, length-take, drop_of_length-le}
use lib.Seq.{drop-cons, get_or-take}
use Rattle.std.proofs.lemmas.List.{take_min}
use Rattle.guards.specs.declared.Guard.{Guard}
use Rattle.steps.specs.Steps.{with_step_c, with_guards_c}
use Rattle.steps.specs.declared.step.Step.{Step}
use Rattle.steps.specs.declared.step.Step.TheVariants as step
use Rattle.steps.specs.declared.step.Steps.{Steps}

-- ---- guards, one after another
abbrev no_guard : Guard
no_guard = record { left = 0; right = 0; bound = record { none = false; strict = false; expr = record { constant = pos 0; coefs = [] } } }

pub first_ones : {A : Type 0} (n k most : ℕ) (xs : List A) → n ≡ min k most → length xs ≡ most → take n xs ≡ take k xs
first_ones n k most xs e l = rw (e, ← l) (take_min k xs)

-- a full list stays as it is
pub guards_full : (l : List Guard) (ss : Steps) → 20 ≤ ss.count → ss ≡ with_guards_c ss l
unfolding with_guards_c with_step_c
guards_full [] ss h = refl
guards_full (g ∷ l) ss h = rw (le-ltb ss.count 20 h) (guards_full l ss h)

guards_cons : (ss : Steps) (l : List Guard) (g : Guard) (rest : List Guard) → l ≡ g ∷ rest
    → with_guards_c ss l ≡ with_guards_c (with_step_c ss (step.Guard g)) rest
unfolding with_guards_c
guards_cons ss l g rest e = rw e refl

guards_next : (xs : List Guard) (i : ℕ) (ss next whole : Steps) → i < length xs → with_guards_c ss (drop i xs) ≡ whole
    → next ≡ with_step_c ss (step.Guard (get_or xs i no_guard)) → with_guards_c next (drop (i + 1) xs) ≡ whole
guards_next xs i ss next whole h e f =
    rw (add-one i, f) (sym (guards_cons ss (drop i xs) (get_or xs i no_guard) (drop (suc i) xs) (drop-cons xs i no_guard h)) ∙ e)

step_put : (ss : Steps) (st : Step) → ss.count < 20
    → record { count = ss.count + 1; list = set ss.list ss.count st } ≡ with_step_c ss st
unfolding with_step_c
step_put ss st h = rw (lt-ltb ss.count 20 h) refl

-- one more is put in, where there is room
pub guards_put : (xs : List Guard) (i : ℕ) (ss whole : Steps) → i < length xs → ss.count < 20 → with_guards_c ss (drop i xs) ≡ whole
    → with_guards_c (record { count = ss.count + 1; list = set ss.list ss.count (step.Guard (get_or xs i no_guard)) })
    (drop (i + 1) xs) ≡ whole
guards_put xs i ss whole h few e = guards_next xs i ss _ whole h e (step_put ss _ few)

-- .. of the first k, whether there is room or not
pub guards_turn : (xs : List Guard) (k i : ℕ) (ss next whole : Steps) → i < length (take k xs) → with_guards_c ss (drop i (take k xs)) ≡ whole
    → next ≡ with_step_c ss (step.Guard (get_or xs i no_guard)) → with_guards_c next (drop (i + 1) (take k xs)) ≡ whole
guards_turn xs k i ss next whole h e f =
    let few : i < k = omega (arith, length-take k xs) in
    guards_next (take k xs) i ss next whole h e
    (f ∙ ap (λ (g : Guard). with_step_c ss (step.Guard g)) (sym (get_or-take k xs i no_guard few)))

pub guards_done : (xs : List Guard) (i : ℕ) (ss whole : Steps) → length xs ≤ i → with_guards_c ss (drop i xs) ≡ whole → ss ≡ whole
unfolding with_guards_c
guards_done xs i ss whole h e = rw (drop_of_length-le xs h) at e
