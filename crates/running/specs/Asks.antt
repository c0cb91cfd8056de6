-- What a guard asks at a phase, as the code has it.
use Rattle.std.specs.Prelude.{◌≡◌, refl, ℕ}
use Rattle.constrain.specs.RuleLaws.{read_c}
use Rattle.constrain.specs.Rules.{tighter_c, via_at, places_at}
use Rattle.constrain.specs.declared.rule.Rule.{Rule}
use Rattle.constrain.specs.declared.rule.Reads.{Reads}
use Rattle.expr.specs.declared.bound.Bound.{Bound}
use Rattle.expr.specs.declared.bound.Test.{Test}
use Rattle.running.specs.declared.tests.Asking.{Asking}

-- what a phase compares, from the entries that are read
abbrev pub via_r : Rule → ℕ → Bound
via_r r k =
    via_at r.clocks k r.bound (read_c r.old (places_at r.left r.right k).first)
    (read_c r.old (places_at r.left r.right k).last)

unfoldable pub asking_c : Rule → ℕ → Asking
asking_c r k =
    record {
      via = via_r r k;
      test = tighter_c (via_r r k) (read_c r.old (places_at r.left r.right k).was);
      into = (places_at r.left r.right k).into;
    }

pub asking_is : (r : Rule) (k : ℕ) (at : Reads) (f l w v : Bound) (t : Test) → at ≡ places_at r.left r.right k
    → f ≡ read_c r.old at.first → l ≡ read_c r.old at.last → w ≡ read_c r.old at.was
    → v ≡ via_at r.clocks k r.bound f l → t ≡ tighter_c v w → record { via = v; test = t; into = at.into } ≡ asking_c r k
unfolding asking_c
asking_is r k at f l w v t ha hf hl hw hv ht = rw (ht, hv, hf, hl, hw, ha) refl
