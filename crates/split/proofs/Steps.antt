-- The cases of the code's steps, with the branches' tests.
use mathlib.Core.Path.{◌≡◌, refl}
use Prim.Native.Nat.{ℕ, ◌+◌, ◌≤◌, ◌<◌}
use native.Mathlib.Numerals.{add-one}
use native.Mathlib.Omega.{arith}
use borrow.Author.Tests.{lt-ltb, le-ltb, eq-eqb, ne_eqb}
use lib.ListN.{set}
use Rattle.split.specs.Listed.{nothing_at, refused_c, list_c}
use Rattle.split.specs.declared.list.Counted.{Counted}
use Rattle.zones.specs.declared.zone.Zone.{Zone}
use Rattle.zones.specs.declared.zone.Zones.{Zones}

-- ---- what is listed
module _ (n : ℕ) (out : Counted) where
  pub refused_now : out.zones.refusal ≡ 0 → nothing_at n out.zones.visit ≡ refused_c n out
  unfolding refused_c
  refused_now h = rw (eq-eqb out.zones.refusal 0 h) refl

  pub refused_before : (out.zones.refusal ≡ 0 → ⊥) → out ≡ refused_c n out
  unfolding refused_c
  refused_before h = rw (ne_eqb out.zones.refusal 0 h) refl

module _ (z : Zone) (k : ℕ) (out : Counted) where
  abbrev was : Zones
  was = out.zones

  pub listed_more : was.refusal ≤ 0 → was.count < 32
      → record {
        zones = record { refusal = was.refusal; visit = was.visit; count = was.count + 1; list = set was.list was.count z };
        tests = set out.tests was.count k;
      }
      ≡ list_c z k out
  unfolding list_c
  listed_more h l = rw (eq-eqb was.refusal 0 (omega arith), lt-ltb was.count 32 l, add-one was.count) refl

  pub listed_full : was.refusal ≤ 0 → 32 ≤ was.count → refused_c 7 out ≡ list_c z k out
  unfolding list_c
  listed_full h l = rw (eq-eqb was.refusal 0 (omega arith), le-ltb was.count 32 l) refl

  pub listed_refused : 0 < was.refusal → out ≡ list_c z k out
  unfolding list_c refused_c
  listed_refused h = rw (ne_eqb was.refusal 0 (λ e. omega arith)) refl
