-- The numbers of Sweep's answers.
use mathlib.Core.Path.{◌≡◌}
use mathlib.Core.List.{List, [], ◌∷◌}
use Prim.Native.Nat.{ℕ, ◌<◌, ◌≤◌, ◌^◌}
use native.Mathlib.Omega.{arith}
use lib.IntN.{ℤ}
use Rattle.std.specs.declared.result.Result.{Result}
use Rattle.std.specs.declared.result.Result.TheVariants.{Ok, Err}
use Rattle.answers.specs.Numbers.{refusal_as, sweep_as}
use Rattle.answers.specs.declared.Numbered.{Numbered}
use Rattle.answers.specs.declared.file.Refusal.{Refusal}
use Rattle.answers.specs.declared.file.Refusal.TheVariants.{Size, Contents, Body, Valuations, Route}
use Rattle.answers.specs.declared.sweep.Found.{Found}
use Rattle.answers.specs.declared.sweep.Found.TheVariants.{Run, Void}
use Rattle.answers.specs.declared.sweep.Refused.{Refused}
use Rattle.answers.specs.declared.sweep.Refused.TheVariants.{File, Outside}
use Rattle.sweep.specs.Reply.{reply_of}

refusal_small : (r : Refusal) → (refusal_as r).number ≤ 16
refusal_small Size = omega arith
refusal_small (Contents at) = omega arith
refusal_small (Body at) = omega arith
refusal_small Valuations = omega arith
refusal_small (Route at) = omega arith

answer_small : (a : Result Found Refused) → (sweep_as a).number ≤ 16
answer_small (Ok Run) = omega arith
answer_small (Ok Void) = omega arith
answer_small (Err (File r)) = refusal_small r
answer_small (Err (Outside k)) = omega arith

pub fits : (n : Numbered) (a : Result Found Refused) → n ≡ sweep_as a → n.number < 2 ^ 63
fits n a e = rw e (omega (arith, answer_small a))

-- the reply at numbers that were passed as their bits
pub same_reply : (file : List ℕ) {a b c d a' b' c' d' : ℤ} → a ≡ a' → b ≡ b' → c ≡ c' → d ≡ d'
    → reply_of file (a ∷ b ∷ c ∷ d ∷ []) ≡ reply_of file (a' ∷ b' ∷ c' ∷ d' ∷ [])
same_reply file e f g h = λ i. reply_of file (e i ∷ f i ∷ g i ∷ h i ∷ [])
