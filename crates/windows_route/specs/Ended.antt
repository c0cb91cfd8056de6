-- What the walk leaves: the zones that stand in its lists, or a refusal.
use Rattle.std.specs.Prelude.{◌≡◌, refl, cond, List, ℕ, ◌*◌, ◌≤◌, ◌<◌, ltb, ℤ, pos, length, get_or, replicate}
use Rattle.std.proofs.Common.{ap, ◌∙◌, lt-ltb, le-ltb}
use Rattle.std.proofs.lemmas.List.{length-replicate}
use Rattle.cells.specs.Cells.{Cell, no_cell, rows_from, cell_at, cells_in, PLACES}
use Rattle.cells.specs.CellLaws.{cells_at}
use Rattle.passing.specs.State.{refused_z}
use Rattle.steps.specs.Steps.{closed}
use Rattle.windows_route.specs.Places.{list_of}
use Rattle.windows_route.specs.declared.along.Ended.{Ended}
use Rattle.zones.specs.declared.zone.Zones.{Zones}

-- lists that are all zeros
pub record Zeros (l : List ℤ) (m ns : List ℕ) : Type 0 where
  pub cells : l ≡ replicate 22500 (pos 0)
  pub marks : m ≡ replicate 2250 0
  pub counts : ns ≡ replicate 90 0

module _ {l : List ℤ} {m ns : List ℕ} (z : Zeros l m ns) where
  pub cells_length : length l ≡ 22500
  cells_length = ap length z.cells ∙ length-replicate 22500 (pos 0)

  pub marks_length : length m ≡ 2250
  marks_length = ap length z.marks ∙ length-replicate {A = ℕ} 2250 0

  pub counts_length : length ns ≡ 90
  counts_length = ap length z.counts ∙ length-replicate {A = ℕ} 90 0

-- the zones that are listed, blanks behind them; or none, with a refusal
abbrev pub ended_z : Ended → List ℤ → List ℕ → List ℕ → Zones
ended_z r l m ns =
    cond (ltb 0 r.refusal) (refused_z r.refusal r.visit)
    (closed (record { refusal = 0; visit = r.visit; count = r.count; list = list_of ns (cells_in l m) }))

pub ended_refused : (r : Ended) (l : List ℤ) (m ns : List ℕ) → 0 < r.refusal → ended_z r l m ns ≡ refused_z r.refusal r.visit
ended_refused r l m ns h = rw (lt-ltb 0 r.refusal h) refl

-- the same of lists that are told by their cells
pub refused_as : (n visit : ℕ) (l : List ℤ) (m ns : List ℕ) (zs : Zones) (cs : List Cell) → cells_in l m ≡ cs → 0 < n
    → refused_z n visit ≡ zs → ended_z (record { refusal = n; visit = visit; count = 0 }) l m ns ≡ zs
refused_as n visit l m ns zs cs same h e = ended_refused (record { refusal = n; visit = visit; count = 0 }) l m ns h ∙ e

pub ended_listed : (r : Ended) (l : List ℤ) (m ns : List ℕ) → r.refusal ≤ 0
    → ended_z r l m ns ≡ closed (record { refusal = 0; visit = r.visit; count = r.count; list = list_of ns (cells_in l m) })
ended_listed r l m ns h = rw (le-ltb 0 r.refusal h) refl

-- the inequalities at a place
pub rows_there : (l : List ℤ) (m : List ℕ) (p : ℕ) → p < PLACES → (get_or (cells_in l m) p no_cell).ineqs ≡ rows_from l (50 * p) 24
unfolding cell_at
rows_there l m p h = ap (λ (c : Cell). c.ineqs) (cells_at l m p h)
