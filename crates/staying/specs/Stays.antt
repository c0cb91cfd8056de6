-- What a step put to the zone at a place comes to, cs being the cells before it and ds those after it: where one zone is left, it stands
-- there; else the zone is as it was. No other place but 89 has changed.
use Rattle.std.specs.Prelude.{◌≡◌, refl, true, false, List, ℕ, ◌<◌, length, get_or, set}
use Rattle.std.proofs.Common.{sym, ap, subst, ◌∙◌, true≢false, arith, length-set, get_or-set_same, get_or-set_other}
use Rattle.cells.specs.Cells.{Cell, no_cell, zone_of, with_matrix, on_matrix, PLACES}
use Rattle.expr.specs.declared.range.Ranges.{Ranges}
use Rattle.idle.specs.Idle.{Leaves, Idle}
use Rattle.parts.specs.Parts.{is_kept}
use Rattle.parts.specs.declared.part.Part.{Part}
use Rattle.passing.specs.Laws.{one_kept, is_start}
use Rattle.passing.specs.Machine.{kept_splits_not, ended_kept}
use Rattle.running.specs.Tasks.{part_at, rule_at, guarding_c}
use Rattle.running.specs.declared.task.Guarding.{Guarding}
use Rattle.running.specs.declared.task.Task.{Task}
use Rattle.constrain.specs.declared.rule.Rule.{Rule}
use Rattle.split.specs.Guarded.{rule_c}
use Rattle.split.specs.Listed.{list_c}
use Rattle.split.specs.Runs.{ran_ended}
use Rattle.split.specs.Trees.{start_c, meant, Ran}
use Rattle.steps.specs.Steps.{asks_c, guard_of_c}
use Rattle.steps.specs.Taken.{changed_b, changed_zone, start_task}
use Rattle.steps.specs.declared.step.Step.{Step}
use Rattle.zones.specs.Hinted.{Hinted}
use Rattle.zones.specs.declared.hint.Hint.{Hint}
use Rattle.zones.specs.declared.zone.Zone.{Zone}
use Rattle.staying.specs.declared.Stood.{Stood}

pub record Stays (cs ds : List Cell) (p w : ℕ) (st : Step) (n : ℕ) (h : Hint) (r : Stood) : Type 0 where
  pub others : (x : ℕ) → (x ≡ p → ⊥) → (x ≡ 89 → ⊥) → get_or ds x no_cell ≡ get_or cs x no_cell
  pub matrix : get_or ds p no_cell ≡ with_matrix (get_or cs p no_cell) (get_or ds p no_cell).bounds
  pub back : r.kept ≡ false → get_or ds p no_cell ≡ get_or cs p no_cell
  pub left : r.kept ≡ true → (b : Ranges) → Hinted b (zone_of n (get_or cs p no_cell)) h
      → Leaves b w st (zone_of n (get_or cs p no_cell)) (zone_of n (get_or ds p no_cell))
  pub known : (b : Ranges) → Hinted b (zone_of n (get_or cs p no_cell)) h → Hinted b (zone_of n (get_or cs p no_cell)) r.hint

-- the place that was copied to 89
pub copied_here : (cs c₁ : List Cell) (p : ℕ) → p < 64 → c₁ ≡ set cs 89 (get_or cs p no_cell) → get_or c₁ p no_cell ≡ get_or cs p no_cell
copied_here cs c₁ p low e =
    ap (λ (y : List Cell). get_or y p no_cell) e ∙ get_or-set_other cs 89 p (get_or cs p no_cell) no_cell (λ e. omega arith)

-- ---- nothing changes
module _ (cs : List Cell) (p w : ℕ) (st : Step) (n : ℕ) (h : Hint) where
  pub stays_not : Stays cs cs p w st n h (record { kept = false; hint = h })
  stays_not =
      record {
        others = λ x a b. refl;
        matrix = refl;
        back = λ e. refl;
        left = λ e. absurd (true≢false (sym e));
        known = λ b k. k;
      }

  pub stays_idle : ((b : Ranges) → Hinted b (zone_of n (get_or cs p no_cell)) h → Idle b w st (zone_of n (get_or cs p no_cell)))
      → Stays cs cs p w st n h (record { kept = true; hint = h })
  stays_idle i =
      record {
        others = λ x a b. refl;
        matrix = refl;
        back = λ e. refl;
        left = λ e. i;
        known = λ b k. k;
      }

  module _ (full : length cs ≡ PLACES) (low : p < 64) where
    -- ---- a wait, resets, or a guard of clocks that there are not
    pub stays_changed : asks_c st ≡ false → (ds : List Cell) → ds ≡ on_matrix cs p (changed_b st w)
        → Stays cs ds p w st n h (record { kept = true; hint = h })
    stays_changed quiet ds e =
        record {
          others = λ x a b.
              ap (λ (y : List Cell). get_or y x no_cell) e ∙ get_or-set_other cs p x changed no_cell a;
          matrix = here ∙ ap (λ (c : Cell). with_matrix c₀ c.bounds) (sym here);
          back = λ f. absurd (true≢false f);
          left = λ f b k.
              record {
                tests = 0;
                same = λ out.
                    one_kept b w st quiet (zone_of n c₀) out
                    ∙ ap (λ (z : Zone). list_c z 0 out) (sym (changed_zone st w n c₀) ∙ ap (zone_of n) (sym here));
              };
          known = λ b k. k;
        }
      where
        c₀ : Cell
        c₀ = get_or cs p no_cell

        changed : Cell
        changed = with_matrix c₀ (changed_b st w c₀.bounds)

        here : get_or ds p no_cell ≡ changed
        here = ap (λ (y : List Cell). get_or y p no_cell) e ∙ get_or-set_same cs p changed no_cell (omega (arith, full))

    -- ---- a guard: the matrix is copied, and the part run where it stands
    module _ (asks : asks_c st ≡ true) (c₁ c₂ : List Cell) (e₁ : c₁ ≡ set cs 89 (get_or cs p no_cell)) (g : Guarding)
        (hg : g ≡ guarding_c w (guard_of_c st)) (t : Task) (h₂ : Hint)
        (ran : (b : Ranges) → Hinted b (zone_of n (get_or c₁ p no_cell)) h
        → Ran b (rule_at c₁ 89 g) (part_at c₁ p n start_task) (part_at c₂ p n t))
        (same : c₂ ≡ set c₁ p (with_matrix (get_or c₁ p no_cell) (get_or c₂ p no_cell).bounds))
        (knows : (b : Ranges) → Hinted b (zone_of n (get_or c₁ p no_cell)) h → Hinted b (zone_of n (get_or c₁ p no_cell)) h₂) where
      full₁ : length c₁ ≡ PLACES
      full₁ = ap length e₁ ∙ length-set cs 89 (get_or cs p no_cell) ∙ full

      first_here : get_or c₁ p no_cell ≡ get_or cs p no_cell
      first_here = copied_here cs c₁ p low e₁

      first_copy : get_or c₁ 89 no_cell ≡ get_or cs p no_cell
      first_copy =
          ap (λ (y : List Cell). get_or y 89 no_cell) e₁ ∙ get_or-set_same cs 89 (get_or cs p no_cell) no_cell (omega (arith, full))

      then_here : get_or c₂ p no_cell ≡ with_matrix (get_or cs p no_cell) (get_or c₂ p no_cell).bounds
      then_here =
          ap (λ (y : List Cell). get_or y p no_cell) same
          ∙ get_or-set_same c₁ p (with_matrix (get_or c₁ p no_cell) (get_or c₂ p no_cell).bounds) no_cell (omega (arith, full₁))
          ∙ ap (λ (c : Cell). with_matrix c (get_or c₂ p no_cell).bounds) first_here

      then_other : (x : ℕ) → (x ≡ p → ⊥) → get_or c₂ x no_cell ≡ get_or c₁ x no_cell
      then_other x a =
          ap (λ (y : List Cell). get_or y x no_cell) same
          ∙ get_or-set_other c₁ p x (with_matrix (get_or c₁ p no_cell) (get_or c₂ p no_cell).bounds) no_cell a

      then_far : (x : ℕ) → (x ≡ p → ⊥) → (x ≡ 89 → ⊥) → get_or c₂ x no_cell ≡ get_or cs x no_cell
      then_far x a b =
          then_other x a ∙ ap (λ (y : List Cell). get_or y x no_cell) e₁ ∙ get_or-set_other cs 89 x (get_or cs p no_cell) no_cell b

      at_first : (b : Ranges) (k : Hint) → Hinted b (zone_of n (get_or cs p no_cell)) k → Hinted b (zone_of n (get_or c₁ p no_cell)) k
      at_first b k x = subst (λ (c : Cell). Hinted b (zone_of n c) k) (sym first_here) x

      knows_here : (b : Ranges) → Hinted b (zone_of n (get_or cs p no_cell)) h → Hinted b (zone_of n (get_or cs p no_cell)) h₂
      knows_here b x = subst (λ (c : Cell). Hinted b (zone_of n c) h₂) first_here (knows b (at_first b h x))

      rule_is : rule_at c₁ 89 g ≡ rule_c w (guard_of_c st) (zone_of n (get_or cs p no_cell))
      rule_is = ap (λ (y : Guarding). rule_at c₁ 89 y) hg ∙ ap (λ (c : Cell). rule_c w (guard_of_c st) (zone_of n c)) first_copy

      part_is : part_at c₁ p n start_task ≡ start_c (zone_of n (get_or cs p no_cell))
      part_is = ap (λ (c : Cell). start_c (zone_of n c)) first_here

      leaves : is_kept t.halt ≡ true → (b : Ranges) → Hinted b (zone_of n (get_or cs p no_cell)) h
          → Leaves b w st (zone_of n (get_or cs p no_cell)) (zone_of n (get_or c₂ p no_cell))
      leaves halts b x =
          record {
            tests = t.tests;
            same = λ out.
                ap (λ (y : Part). meant b rule y out) (is_start b w st asks zone ∙ sym part_is)
                ∙ ap (λ (y : Rule). meant b y (part_at c₁ p n start_task) out) (sym rule_is)
                ∙ ran_ended b (rule_at c₁ 89 g) (part_at c₁ p n start_task) (part_at c₂ p n t) (ran b (at_first b h x)) out
                (kept_splits_not t.halt halts)
                ∙ ended_kept (part_at c₂ p n t) out halts;
          }
        where
          zone : Zone
          zone = zone_of n (get_or cs p no_cell)

          rule : Rule
          rule = rule_c w (guard_of_c st) zone

      pub stays_left : is_kept t.halt ≡ true → Stays cs c₂ p w st n h (record { kept = true; hint = h₂ })
      stays_left halts =
          record {
            others = then_far;
            matrix = then_here;
            back = λ e. absurd (true≢false e);
            left = λ e. leaves halts;
            known = knows_here;
          }

      -- it is copied back
      pub stays_back : (c₃ : List Cell) → c₃ ≡ set c₂ p (get_or c₂ 89 no_cell)
          → Stays cs c₃ p w st n h (record { kept = false; hint = h₂ })
      stays_back c₃ e₃ =
          record {
            others = λ x a b.
                ap (λ (y : List Cell). get_or y x no_cell) e₃ ∙ get_or-set_other c₂ p x (get_or c₂ 89 no_cell) no_cell a ∙ then_far x a b;
            matrix = again ∙ ap (λ (c : Cell). with_matrix (get_or cs p no_cell) c.bounds) (sym again);
            back = λ e. again;
            left = λ e. absurd (true≢false (sym e));
            known = knows_here;
          }
        where
          full₂ : length c₂ ≡ PLACES
          full₂ =
              ap length same ∙ length-set c₁ p (with_matrix (get_or c₁ p no_cell) (get_or c₂ p no_cell).bounds) ∙ full₁

          again : get_or c₃ p no_cell ≡ get_or cs p no_cell
          again =
              ap (λ (y : List Cell). get_or y p no_cell) e₃
              ∙ get_or-set_same c₂ p (get_or c₂ 89 no_cell) no_cell (omega (arith, full₂))
              ∙ then_other 89 (λ e. omega arith) ∙ first_copy
