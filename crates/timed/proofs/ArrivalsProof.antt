-- The proof of `ArrivalsRight`.
use Rattle.std.specs.Prelude.{◌≡◌, ◌↔◌, refl, ℕ, ℤ}
use Rattle.std.proofs.Math.Path.{ap}
use Rattle.std.proofs.Common.{subst}
use mathlib.Core.List.{List, [], ◌∷◌}
use Rattle.sheet.specs.declared.Sheet.{Sheet}
use Rattle.timed.specs.Automaton.{transition_at}
use Rattle.timed.specs.Runs.{Clocks, begin, waited, after_resets, Leads, RunAlong}
use Rattle.timed.specs.Arrivals.{LeadsAtEnds, RunAtEnds, ArrivalsMeet, StartMeets, leads_at_ends}

-- ---- the claim
abbrev pub at_ends : {s : Sheet} {route : List ℕ} {v : List ℤ} → RunAlong s route v → RunAtEnds s route v
at_ends {s} {route} {v} r = record {
  parts = r.parts;
  some_part = r.some_part;
  end = r.end;
  leads = leads_at_ends s v r.parts 0 route begin r.end r.leads;
}

-- a run by paper 01's rule is one by request (b)'s exactly if its start and its arrivals meet the invariants
abbrev pub ArrivalsRight : Type 0
ArrivalsRight =
    (s : Sheet) (route : List ℕ) (v : List ℤ) (r : RunAtEnds s route v)
    → (StartMeets s route v r × ArrivalsMeet s v r.parts 0 route begin r.end r.leads) ↔ ((q : RunAlong s route v) × (at_ends q ≡ r))

-- ---- the proof
module _ (s : Sheet) (v : List ℤ) (D : ℕ) where
  -- a way by paper 01's rule whose arrivals meet the invariants
  arriving : (ns : List ℕ) (l : ℕ) (x y : Clocks) (r : LeadsAtEnds s v D l ns x y) → ArrivalsMeet s v D l ns x y r
      → (q : Leads s v D l ns x y) × (leads_at_ends s v D l ns x y q ≡ r)
  unfolding Leads LeadsAtEnds ArrivalsMeet leads_at_ends
  arriving [] l x y r h = (r, refl)
  arriving (n ∷ ns) l x y (d, h, g, r) (a, m) =
      let (q, e) = arriving ns (transition_at s n).to (after_resets (transition_at s n).resets (waited d x)) y r m in
      ((d, h, g, a, q), ap (λ p. (d, h, g, p)) e)

  -- and what a run says of its arrivals
  arrived : (ns : List ℕ) (l : ℕ) (x y : Clocks) (q : Leads s v D l ns x y) → ArrivalsMeet s v D l ns x y (leads_at_ends s v D l ns x y q)
  unfolding Leads LeadsAtEnds ArrivalsMeet leads_at_ends
  arrived [] l x y q = tt
  arrived (n ∷ ns) l x y (d, h, g, a, q) =
      (a, arrived ns (transition_at s n).to (after_resets (transition_at s n).resets (waited d x)) y q)

pub arrivals_right : ArrivalsRight
arrivals_right s route v r = (
  λ h.
      let (q, e) = arriving s v r.parts route 0 begin r.end r.leads h.1 in (
        record { parts = r.parts; some_part = r.some_part; starts = h.0; end = r.end; leads = q },
        ap (λ (l : LeadsAtEnds s v r.parts 0 route begin r.end).
            record { parts = r.parts; some_part = r.some_part; end = r.end; leads = l }) e,
      ),
  λ (q, e).
      subst (λ (o : RunAtEnds s route v). StartMeets s route v o × ArrivalsMeet s v o.parts 0 route begin o.end o.leads) e
      (q.starts, arrived s v q.parts route 0 begin q.end q.leads),
)
