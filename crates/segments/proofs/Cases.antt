-- The cases of a segment, by its number.
use mathlib.Core.Path.{◌≡◌, subst}
use mathlib.Core.List.{[]}
use Prim.Native.Nat.{ℕ, suc, ◌+◌, ◌-◌, ◌≤◌, ◌<◌}
use native.Mathlib.Omega.{arith}
use Rattle.automaton.specs.declared.Location.{Location}
use Rattle.segments.specs.Lists.{Lists, invariant_steps, stay_steps, lists_more}
use Rattle.segments.specs.Segments.{size, Moved, Segmented}
use Rattle.segments.specs.declared.segment.Segment.{Segment}
use Rattle.sheet.specs.declared.Sheet.{Sheet}

module _ (s : Sheet) (k : ℕ) (here : Location) (r : Segment) where
  pub segment_starts : k ≡ 0 → r.there ≡ here → Lists 6 (invariant_steps here) r.steps → Segmented s k here r
  segment_starts e t l =
      record {
        few = omega (arith, l.few);
        starts = λ _. (t, lists_more 6 20 (invariant_steps here) r.steps (omega arith) l);
        moves = λ j q h. absurd (omega arith);
        stays = λ q. absurd (omega arith);
        ends = λ h. absurd (omega arith);
      }

  pub segment_moves : (k ≡ 0 → ⊥) → k ≤ size s → Moved s (k - 1) here r → Segmented s k here r
  segment_moves o h m =
      record {
        few = m.steps.few;
        starts = λ e. absurd (o e);
        moves = λ j q g. subst (λ (x : ℕ). Moved s x here r) (before j q) m;
        stays = λ q. absurd (omega arith);
        ends = λ g. absurd (omega arith);
      }
    where
      before : (j : ℕ) → k ≡ suc j → k - 1 ≡ j
      before j q = omega arith

  pub segment_stays : k ≡ size s + 1 → Lists 7 (stay_steps here) r.steps → Segmented s k here r
  segment_stays e l =
      record {
        few = omega (arith, l.few);
        starts = λ q. absurd (omega arith);
        moves = λ j q h. absurd (omega arith);
        stays = λ _. lists_more 7 20 (stay_steps here) r.steps (omega arith) l;
        ends = λ h. absurd (omega arith);
      }

  pub segment_ends : size s < k → (k ≡ size s + 1 → ⊥) → Lists 20 [] r.steps → Segmented s k here r
  segment_ends h o l =
      record {
        few = l.few;
        starts = λ q. absurd (omega arith);
        moves = λ j q g. absurd (omega arith);
        stays = λ q. absurd (o (next q));
        ends = λ _. l;
      }
    where
      next : k ≡ suc (size s) → k ≡ size s + 1
      next q = omega arith
