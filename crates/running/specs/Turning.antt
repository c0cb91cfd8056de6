-- One turn of a part that stands in cells.
use Rattle.std.specs.Prelude.{◌≡◌, Bool, true, false, cond, ℕ, ◌+◌, ◌≤◌, ◌<◌, min, ℤ, get_or, set}
use Rattle.std.proofs.Math.Path.{refl, sym, ap}
use Rattle.std.proofs.Common.{subst, ◌∙◌, arith}
use mathlib.Core.List.{List}
use Rattle.std.proofs.lemmas.List.{set-get_or}
use Rattle.cells.specs.Cells.{Cell, cells_in}
use Rattle.constrain.specs.RuleLaws.{via_of, asked_is, places_few}
use Rattle.constrain.specs.Rules.{ask_c, places_at}
use Rattle.constrain.specs.declared.rule.Rule.{Rule}
use Rattle.expr.specs.Records.{no_bound}
use Rattle.expr.specs.declared.bound.Bound.{Bound}
use Rattle.expr.specs.declared.range.Ranges.{Ranges}
use Rattle.parts.specs.Parts.{goes_on, enters_c, turn_c, after_c, tests_in}
use Rattle.parts.specs.declared.part.Next.{Next}
use Rattle.parts.specs.declared.part.Part.{Part}
use Rattle.parts.specs.declared.part.Turn.{Turn}
use Rattle.split.specs.Turns.{Way, turned, way_turn, way_less, part_of}
use Rattle.split.specs.Runs.{left}
use Rattle.zones.specs.Settled.{told_settled, settled_f}
use Rattle.zones.specs.System.{SameRows}
use Rattle.zones.specs.declared.told.Told.{Told}
use Rattle.zones.specs.declared.zone.Zone.{Zone}
use Rattle.running.specs.Asks.{asking_c}
use Rattle.running.specs.Tasks.{rule_at}
use Rattle.running.specs.Working.{Working, working_other}
use Rattle.running.specs.declared.task.Guarding.{Guarding}
use Rattle.running.specs.declared.tests.Asking.{Asking}

-- an entry that is put in, or not
put_or_not : (s : Bool) (m : List Bound) (x : ℕ) (v : Bound) → set m x (cond s v (get_or m x no_bound)) ≡ cond s (set m x v) m
put_or_not true m x v = refl
put_or_not false m x v = set-get_or m x no_bound

module _ (r : Rule) (z : Zone) (c : Ranges) (n : ℕ) (p : Part) (flat : List ℤ) (q : Part) (w : Way r z c n p flat q) (h : goes_on q.halt ≡ true)
    (a : Asking) (ha : a ≡ asking_c r q.phase) (kind : Told) (hk : kind ≡ settled_f c flat n a.test) (u : Bound) (x : Turn)
    (hx : x ≡ turn_c q.phase q.tests q.test u a.test a.via kind) (new : List Bound)
    (hn : new ≡ cond (enters_c q.phase kind) (set q.zone.bounds a.into a.via) q.zone.bounds) where
  asked : a.test ≡ ask_c r q.phase
  unfolding asking_c
  asked = ap (λ (y : Asking). y.test) ha ∙ asked_is r w.matrix q.phase

  via_is : a.via ≡ via_of r w.matrix q.phase
  unfolding asking_c
  via_is = ap (λ (y : Asking). y.via) ha

  into_is : a.into ≡ (places_at r.left r.right q.phase).into
  unfolding asking_c
  into_is = ap (λ (y : Asking). y.into) ha

  abbrev made : Part
  made = part_of q.zone new x.test x.tests x.phase x.halt

  made_is : turned (places_at r.left r.right q.phase).into q a.test a.via kind ≡ made
  unfolding turned turn_c
  made_is =
      ap (λ (i : ℕ). turned i q a.test a.via kind) (sym into_is)
      ∙ ap (λ (m : List Bound). part_of q.zone m same.test same.tests same.phase same.halt)
      (put_or_not (enters_c q.phase kind) q.zone.bounds a.into a.via ∙ sym hn)
      ∙ ap (λ (y : Turn). part_of q.zone new y.test y.tests y.phase y.halt) (sym hx)
    where
      same : Turn
      same = turn_c q.phase q.tests q.test u a.test a.via kind

  pub cell_turn : (m : List ℤ) → SameRows n flat m → Way r z c n p m made
  cell_turn m hm = subst (Way r z c n p m) made_is (way_turn r z c n p flat q w h a.test asked kind hk a.via via_is m hm)

  pub cell_less : left made < left q
  cell_less = subst (λ (y : Part). left y < left q) made_is (way_less r z c n p flat q w h a.test asked kind hk a.via via_is)

-- the same where the verdict is yes or no: the question stays what it was
module _ (r : Rule) (z : Zone) (c : Ranges) (n : ℕ) (p : Part) (flat : List ℤ) (q : Part) (w : Way r z c n p flat q) (h : goes_on q.halt ≡ true)
    (a : Asking) (ha : a ≡ asking_c r q.phase) (kind : Told) (hk : kind ≡ settled_f c flat n a.test) (few : told_settled kind ≡ true) (tests : ℕ)
    (ht : tests ≡ min q.tests 26 + tests_in a.test) (y : Next) (hy : y ≡ after_c q.phase kind) (new : List Bound)
    (hn : new ≡ cond (enters_c q.phase kind) (set q.zone.bounds a.into a.via) q.zone.bounds) where
  abbrev all : Turn
  all = turn_c q.phase q.tests q.test a.via a.test a.via kind

  abbrev quick : Part
  quick = part_of q.zone new q.test tests y.phase y.halt

  quick_is : part_of q.zone new all.test all.tests all.phase all.halt ≡ quick
  unfolding turn_c
  quick_is = rw (few, ht, hy) refl

  pub quick_turn : (m : List ℤ) → SameRows n flat m → Way r z c n p m quick
  quick_turn m hm = subst (Way r z c n p m) quick_is (cell_turn r z c n p flat q w h a ha kind hk a.via all refl new hn m hm)

  pub quick_less : left quick < left q
  quick_less = subst (λ (x : Part). left x < left q) quick_is (cell_less r z c n p flat q w h a ha kind hk a.via all refl new hn)

-- where an entry goes is a place of the matrix
pub asking_few : (r : Rule) (k : ℕ) (a : Asking) → a ≡ asking_c r k → a.into < 25
unfolding asking_c
asking_few r k a h =
    let few : (places_at r.left r.right k).into ≤ 24 = (places_few r.left r.right k).into in
    let same : a.into ≡ (places_at r.left r.right k).into = ap (λ (x : Asking). x.into) h in
    omega arith

-- the matrix that a guard finds is not the part's own
pub rule_old : (cs : List Cell) (p : ℕ) (l : List ℤ) (m : List ℕ) → Working cs p l m → (old : ℕ) (g : Guarding) (k : ℕ)
    → (old ≡ p → ⊥) → asking_c (rule_at (cells_in l m) old g) k ≡ asking_c (rule_at cs old g) k
rule_old cs p l m w old g k o =
    ap
    (λ (c : Cell).
    asking_c (record { clocks = g.clocks; left = g.left; right = g.right; bound = g.bound; old = c.bounds }) k)
    (working_other cs p l m w old o)
