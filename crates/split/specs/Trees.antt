-- The tests of a guard as a tree, worked on a zone; and what a part on its way comes to: the tests that are left, worked on its zone.
use Rattle.std.specs.Prelude.{◌≡◌, List, Bool, true, false, cond, ℕ, zero, suc, ◌-◌, ◌≤◌, ◌<◌, ltb, set}
use Rattle.constrain.specs.Rules.{via_c, void_test, tight_test, push_test}
use Rattle.constrain.specs.declared.rule.Rule.{Rule}
use Rattle.expr.specs.declared.bound.Bound.{Bound}
use Rattle.expr.specs.declared.bound.Test.{Test}
use Rattle.expr.specs.declared.bound.Test.TheVariants.{Yes, No, Ask}
use Rattle.expr.specs.declared.number.Expr.{Expr}
use Rattle.expr.specs.declared.range.Ranges.{Ranges}
use Rattle.parts.specs.Parts.{goes_on, is_split, is_whole, with_bounds, yes_c, no_c}
use Rattle.parts.specs.declared.part.Halt.{Halt}
use Rattle.parts.specs.declared.part.Halt.TheVariants as stops
use Rattle.parts.specs.declared.part.Part.{Part}
use Rattle.split.specs.Listed.{refused_c, list_c}
use Rattle.zones.specs.Settled.{opposite_c, never_c}
use Rattle.expr.specs.Records.{zero_expr}
use Rattle.zones.specs.Zone.{plus_c}
use Rattle.zones.specs.declared.zone.Zone.{Zone}
use Rattle.split.specs.declared.list.Counted.{Counted}

-- ---- the tests of a guard as a tree
pub data TreeC : Type 0 where
  cut_t : TreeC
  keep_t : List Bound → TreeC
  ask_t : Expr → (Bool → TreeC) → TreeC

unfoldable pub tested_c : Test → (Bool → TreeC) → TreeC
tested_c Yes f = f true
tested_c No f = f false
tested_c (Ask e) f = ask_t e f

-- rule (3): k entries are left, the next one is x
unfoldable pub push_c : Rule → ℕ → ℕ → List Bound → TreeC
push_c r zero x new = keep_t new
push_c r (suc k) x new = tested_c (push_test r x) (λ b. push_c r k (suc x) (cond b (set new x (via_c r x)) new))

-- from rule (2) on
unfoldable pub tight_c : Rule → List Bound → TreeC
tight_c r new = tested_c (tight_test r) (λ b. cond b (push_c r 25 0 new) (keep_t new))

-- from a phase on, the new matrix being as it is
unfoldable pub tree_at : Rule → ℕ → List Bound → TreeC
tree_at r zero new = tested_c (void_test r) (λ b. cond b cut_t (tight_c r new))
tree_at r (suc zero) new = tight_c r new
tree_at r (suc (suc x)) new = push_c r (25 - x) x new

-- the tree worked on a zone's inequalities, k tests having been asked; what it keeps is listed after what was listed so far, with the
-- count of tests on the way to it, settled ones too
unfoldable pub worked_c : Ranges → TreeC → ℕ → Zone → Counted → Counted
worked_c b cut_t k z out = out
worked_c b (keep_t m) k z out = list_c (with_bounds z m) k out
worked_c b (ask_t e f) k z out =
    cond (never_c b z e) (worked_c b (f false) (suc k) z out)
    (cond (never_c b z (opposite_c e)) (worked_c b (f true) (suc k) z out)
    (cond (ltb z.count 24)
    (worked_c b (f false) (suc k) (plus_c z (opposite_c e)) (worked_c b (f true) (suc k) (plus_c z e) out))
    (refused_c 8 out)))

-- ---- the code's steps
-- the zone before the first test
abbrev pub start_c : Zone → Part
start_c z = record { phase = 0; halt = stops.No; tests = 0; test = zero_expr; zone = z }

-- what was listed, after a part that is cut, kept or refused; a split leaves it
abbrev pub ended_by : Halt → Part → Counted → Counted
ended_by stops.No p out = out
ended_by stops.Cut p out = out
ended_by stops.Kept p out = list_c p.zone p.tests out
ended_by stops.Split p out = out
ended_by stops.Full p out = refused_c 8 out
ended_by (stops.Other n) p out = cond (ltb n 4) out (refused_c n out)

unfoldable pub ended_c : Part → Counted → Counted
ended_c p out = ended_by p.halt p out

-- ---- what a part comes to
-- one that waits for its turn: it goes on, is cut or is kept
unfoldable pub meant : Ranges → Rule → Part → Counted → Counted
meant b r p out = cond (goes_on p.halt) (worked_c b (tree_at r p.phase p.zone.bounds) p.tests p.zone out) (ended_c p out)

-- one that has stopped: it may also split, the yes part first
unfoldable pub meant_end : Ranges → Rule → Part → Counted → Counted
meant_end b r p out = cond (is_split p.halt) (meant b r (no_c r p) (meant b r (yes_c r p) out)) (ended_c p out)

-- a part that waits for its turn
pub record Live (p : Part) : Type 0 where
  pub below : is_whole p.halt ≡ true
  pub early : goes_on p.halt ≡ true → p.phase < 27
  pub counted : p.tests ≤ p.phase

-- the part q is where p stops
pub record Ran (b : Ranges) (r : Rule) (p q : Part) : Type 0 where
  pub stopped : goes_on q.halt ≡ false
  pub same : (out : Counted) → meant_end b r q out ≡ meant b r p out
  pub later : p.phase ≤ q.phase
  pub count : q.zone.count ≡ p.zone.count
  pub splits : is_split q.halt ≡ true → (q.phase < 27) × (q.zone.count < 24) × (q.tests ≤ suc q.phase)
