-- The cells of the two parts are those of `yes_c` and `no_c`.
use Rattle.std.specs.Prelude.{◌≡◌, Bool, cond, List, ℕ, zero, suc, ◌+◌, ◌-◌, ◌≤◌, ◌<◌, ltb, length, get_or, set}
use Rattle.std.proofs.Math.Path.{refl, sym, ap}
use Rattle.std.proofs.Common.{◌∙◌, arith, lt-ltb, le-ltb, ltb-true, ltb-false, get_or-set_same, get_or-set_other}
use Rattle.std.proofs.Common.{set-set}
use Rattle.std.proofs.Math.Bool.{true, false}
use Rattle.std.proofs.Math.Numerals.{add-one}
use Rattle.std.proofs.lemmas.List.{set_comm}
use Rattle.cells.specs.Cells.{Cell, no_cell, with_ineq, with_matrix, put_ineq, put_bound, zone_of}
use Rattle.constrain.specs.RuleLaws.{read_c, sum_is}
use Rattle.constrain.specs.Rules.{sum_c, places_at, via_c}
use Rattle.constrain.specs.declared.rule.Reads.{Reads}
use Rattle.constrain.specs.declared.rule.Rule.{Rule}
use Rattle.expr.specs.declared.bound.Bound.{Bound}
use Rattle.expr.specs.declared.number.Expr.{Expr}
use Rattle.parts.specs.Parts.{with_bounds, standing, put_c, pushed_c, answered_c, next, after_c, with_more, yes_c, no_c}
use Rattle.parts.specs.declared.part.Next.{Next}
use Rattle.parts.specs.declared.part.Halt.TheVariants as stops
use Rattle.parts.specs.declared.part.Part.{Part}
use Rattle.running.specs.Tasks.{part_with, rule_at, answered_t}
use Rattle.running.specs.declared.task.Guarding.{Guarding}
use Rattle.running.specs.declared.task.Task.{Task}
use Rattle.zones.specs.Settled.{opposite_c}
use Rattle.zones.specs.Zone.{plus_c, more_c}
use Rattle.zones.specs.declared.told.Told.TheVariants as kinds
use Rattle.zones.specs.declared.zone.Zone.{Zone}
use Rattle.parting.specs.Halves.{yes_cell, no_half, halves_c}

-- the last entry, or one more
last_entry : (x : ℕ) → cond (ltb (suc (suc x)) 26) (next (suc (suc x) + 1) stops.No) (next 27 stops.Kept) ≡ cond (ltb x 24) (next (x + 3) stops.No) (next 27 stops.Kept)
last_entry x = by (ltb x 24) refl
  where
    by : (s : Bool) → ltb x 24 ≡ s → cond (ltb (suc (suc x)) 26) (next (suc (suc x) + 1) stops.No) (next 27 stops.Kept) ≡ cond s (next (x + 3) stops.No)
        (next 27 stops.Kept)
    by true s =
        let h = ltb-true x 24 s in
        let same : suc (suc x) + 1 ≡ x + 3 = omega arith in
        rw (lt-ltb (suc (suc x)) 26 (omega arith), same) refl
    by false s = let h = ltb-false x 24 s in rw (le-ltb (suc (suc x)) 26 (omega arith)) refl

stands_by : (q : Part) (s : Bool) (a b : Next)
    → standing q (cond s a b).phase (cond s a b).halt ≡ cond s (standing q a.phase a.halt) (standing q b.phase b.halt)
stands_by q true a b = refl
stands_by q false a b = refl

-- the answer no leaves the zone
answered_no : (r : Rule) (q : Part) (k : ℕ) → q.phase ≡ k → answered_c r q false ≡ standing q (after_c k kinds.No).phase (after_c k kinds.No).halt
unfolding answered_c pushed_c after_c
answered_no r q zero e = rw e refl
answered_no r q (suc zero) e = rw e refl
answered_no r q (suc (suc x)) e =
    let two : suc (suc x) - 2 ≡ x = omega arith in
    rw (e, le-ltb (suc (suc x)) 1 (omega arith), le-ltb (suc (suc x)) 2 (omega arith), two)
    (sym (stands_by q (ltb x 24) (next (x + 3) stops.No) (next 27 stops.Kept))
    ∙ ap (λ (n : Next). standing q n.phase n.halt) (sym (last_entry x)))

-- the answer yes puts the entry in, from the third phase on
answered_yes : (r : Rule) (q : Part) (k : ℕ) → q.phase ≡ k
    → answered_c r q true
    ≡ standing (cond (ltb 1 k) (put_c q (k - 2) (via_c r (k - 2))) q) (after_c k kinds.Yes).phase (after_c k kinds.Yes).halt
unfolding answered_c pushed_c after_c
answered_yes r q zero e = rw e refl
answered_yes r q (suc zero) e = rw e refl
answered_yes r q (suc (suc x)) e =
    let two : suc (suc x) - 2 ≡ x = omega arith in
    rw (
      e,
      le-ltb (suc (suc x)) 1 (omega arith),
      le-ltb (suc (suc x)) 2 (omega arith),
      lt-ltb 1 (suc (suc x)) (omega arith),
      two,
    )
    (sym (stands_by (put_c q x (via_c r x)) (ltb x 24) (next (x + 3) stops.No) (next 27 stops.Kept))
    ∙ ap (λ (n : Next). standing (put_c q x (via_c r x)) n.phase n.halt) (sym (last_entry x)))

module _ (r : Rule) (c : Cell) (n : ℕ) (t : Task) (few : n < 24) where
  abbrev part : Part
  part = part_with t (zone_of n c)

  more : (e : Expr) → more_c (zone_of n c) e ≡ zone_of (n + 1) (with_ineq c n e)
  unfolding more_c plus_c
  more e = rw (lt-ltb n 24 few, add-one n) refl

  pub no_is : part_with (answered_t t kinds.No) (zone_of (n + 1) (no_half c n t)) ≡ no_c r part
  unfolding no_c answered_t
  no_is =
      ap (λ (z : Zone). part_with (answered_t t kinds.No) z) (sym (more (opposite_c t.test)))
      ∙ sym (answered_no r (with_more part (opposite_c t.test)) t.phase refl)

  pub yes_is : part_with (answered_t t kinds.Yes) (zone_of (n + 1) (yes_cell r c n t)) ≡ yes_c r part
  unfolding yes_c answered_t
  yes_is = by (ltb 1 t.phase) ∙ sym (answered_yes r (with_more part t.test) t.phase refl)
    where
      by : (s : Bool)
          → part_with (answered_t t kinds.Yes)
          (zone_of (n + 1)
          (cond s (with_matrix (with_ineq c n t.test) (set c.bounds (t.phase - 2) (via_c r (t.phase - 2)))) (with_ineq c n t.test)))
          ≡ standing (cond s (put_c (with_more part t.test) (t.phase - 2) (via_c r (t.phase - 2))) (with_more part t.test))
          (after_c t.phase kinds.Yes).phase (after_c t.phase kinds.Yes).halt
      by true =
          ap (λ (z : Zone). part_with (answered_t t kinds.Yes) (with_bounds z (set z.bounds (t.phase - 2) (via_c r (t.phase - 2)))))
          (sym (more t.test))
      by false = ap (λ (z : Zone). part_with (answered_t t kinds.Yes) z) (sym (more t.test))

-- ---- the code's steps
pub via_of_lem : (r : Rule) → length r.old ≡ 25 → (x : ℕ) (at : Reads) (f l s v : Bound) → at ≡ places_at r.left r.right (x + 2)
    → f ≡ read_c r.old at.first → l ≡ read_c r.old at.last → s ≡ sum_c f r.bound → v ≡ sum_c s l → v ≡ via_c r x
via_of_lem r long x at f l s v ha hf hl hs hv =
    let two : x + 2 ≡ suc (suc x) = omega arith in
    rw (hv, hs, hf, hl, ha, two) (sum_is r long x)

-- another place of the list
other_place : (cs : List Cell) (p q : ℕ) (c : Cell) → (q ≡ p → ⊥) → get_or (set cs p c) q no_cell ≡ get_or cs q no_cell
other_place cs p q c o = get_or-set_other cs p q c no_cell o

module _ (cs cs₁ : List Cell) (p old n : ℕ) (g : Guarding) (t : Task) (full : length cs ≡ 90) (there : p < 90) (apart : old ≡ p → ⊥)
    (put : cs₁ ≡ put_ineq cs p n t.test) where
  rule_same : rule_at cs₁ old g ≡ rule_at cs old g
  rule_same =
      ap
      (λ (c : Cell). record { clocks = g.clocks; left = g.left; right = g.right; bound = g.bound; old = c.bounds })
      (ap (λ (x : List Cell). get_or x old no_cell) put ∙ other_place cs p old (with_ineq (get_or cs p no_cell) n t.test) apart)

  here : get_or cs₁ p no_cell ≡ with_ineq (get_or cs p no_cell) n t.test
  here =
      ap (λ (x : List Cell). get_or x p no_cell) put
      ∙ get_or-set_same cs p (with_ineq (get_or cs p no_cell) n t.test) no_cell (omega (arith, full))

  pub yes_cells : 1 < t.phase → (cs₂ : List Cell) (v : Bound) → v ≡ via_c (rule_at cs₁ old g) (t.phase - 2)
      → cs₂ ≡ put_bound cs₁ p (t.phase - 2) v → cs₂ ≡ set cs p (yes_cell (rule_at cs old g) (get_or cs p no_cell) n t)
  yes_cells h cs₂ v hv e =
      let via : v ≡ via_c (rule_at cs old g) (t.phase - 2) = hv ∙ ap (λ (r : Rule). via_c r (t.phase - 2)) rule_same in
      e
      ∙ ap (λ (c : Cell). set cs₁ p (with_matrix c (set c.bounds (t.phase - 2) v))) here
      ∙ ap
      (λ (x : List Cell).
      set x p (with_matrix (with_ineq (get_or cs p no_cell) n t.test) (set (get_or cs p no_cell).bounds (t.phase - 2) v)))
      put
      ∙ set-set cs p (with_ineq (get_or cs p no_cell) n t.test)
      (with_matrix (with_ineq (get_or cs p no_cell) n t.test) (set (get_or cs p no_cell).bounds (t.phase - 2) v))
      ∙ rw (lt-ltb 1 t.phase h, via) refl

  pub early_cells : t.phase ≤ 1 → cs₁ ≡ set cs p (yes_cell (rule_at cs old g) (get_or cs p no_cell) n t)
  early_cells h = put ∙ rw (le-ltb 1 t.phase h) refl

pub halves_cells : (cs cs₁ cs₂ cs₃ : List Cell) (p old n : ℕ) (g : Guarding) (t : Task) (o : Expr) → length cs ≡ 90 → p + 1 < old → old
    < 90
    → cs₁ ≡ set cs (p + 1) (get_or cs p no_cell) → o ≡ opposite_c t.test → cs₂ ≡ put_ineq cs₁ p n o
    → cs₃ ≡ set cs₂ (p + 1) (yes_cell (rule_at cs₂ old g) (get_or cs₂ (p + 1) no_cell) n t)
    → cs₃ ≡ halves_c (rule_at cs old g) cs p n t
halves_cells cs cs₁ cs₂ cs₃ p old n g t o full less most e₁ ho e₂ e₃ =
    e₃
    ∙ ap
    (λ (c : Cell).
    set cs₂ (p + 1) (yes_cell (rule_at cs₂ old g) c n t)) there
    ∙ ap
    (λ (c : Cell).
    set cs₂ (p + 1)
    (yes_cell (record { clocks = g.clocks; left = g.left; right = g.right; bound = g.bound; old = c.bounds }) cell n t)) rule
    ∙ ap (λ (x : List Cell). set x (p + 1) yes) two
    ∙ ap (λ (x : List Cell). set x (p + 1) yes) (set_comm cs (p + 1) p cell no (λ e. omega arith))
    ∙ set-set (set cs p no) (p + 1) cell yes
  where
    cell : Cell
    cell = get_or cs p no_cell

    no : Cell
    no = no_half cell n t

    yes : Cell
    yes = yes_cell (rule_at cs old g) cell n t

    first : get_or cs₁ p no_cell ≡ cell
    first = ap (λ (x : List Cell). get_or x p no_cell) e₁ ∙ other_place cs (p + 1) p cell (λ e. omega arith)

    two : cs₂ ≡ set (set cs (p + 1) cell) p no
    two =
        e₂ ∙ ap (λ (e : Expr). put_ineq cs₁ p n e) ho ∙ ap (λ (c : Cell). set cs₁ p (with_ineq c n (opposite_c t.test))) first ∙ ap (λ
        (x : List Cell). set x p no) e₁

    there : get_or cs₂ (p + 1) no_cell ≡ cell
    there =
        ap (λ (x : List Cell). get_or x (p + 1) no_cell) two
        ∙ other_place (set cs (p + 1) cell) p (p + 1) no (λ e. omega arith)
        ∙ get_or-set_same cs (p + 1) cell no_cell (omega (arith, full))

    rule : get_or cs₂ old no_cell ≡ get_or cs old no_cell
    rule =
        ap (λ (x : List Cell). get_or x old no_cell) two
        ∙ other_place (set cs (p + 1) cell) p old no (λ e. omega arith)
        ∙ other_place cs (p + 1) old cell (λ e. omega arith)
