-- The answers of the public calls: over the ranges of the record, and with inequalities past the end of the list.
use mathlib.Core.Path.{◌≡◌, refl, sym, ap, ◌∙◌}
use mathlib.Core.Bool.{true, false}
use mathlib.Core.List.{List}
use mathlib.Core.Option.{Option, none, some}
use Prim.Native.Nat.{ℕ, min}
use lib.IntN.{ℤ}
use lib.ListN.{length}
use Rattle.integer.specs.Apart.{apart}
use Rattle.expr.specs.Affine.{Affine}
use Rattle.expr.specs.Ranges.{Inside}
use Rattle.expr.specs.Records.{PARAMETERS, places_from, blank_range}
use Rattle.expr.specs.declared.range.Range.{Range}
use Rattle.systems.specs.BoxLaws.{first_listed}
use Rattle.valuations.specs.SearchLaws.{first_none}
use Rattle.inequalities.specs.Flat.{exprs_in}
use Rattle.halving.specs.Halved.{Found}
use Rattle.search.specs.Answers.{is_some}
use Rattle.valuations.specs.Valuations.{satisfies, first}
use Rattle.first_met.specs.Solutions.{Solution}
use Rattle.std.specs.Prelude.{Some, None, IfSome}
use Rattle.std.specs.Prelude as code
use Rattle.expr.specs.declared.number.Valuation.{Valuation}

-- what was found, or not
pub some_is : (rs : List Range) (es : List Affine) (s : Solution) → Found rs es s → code.is_some s ≡ is_some (first rs es)
some_is rs es s h = by s refl (first rs es) refl
  where
    by : (t : Solution) → s ≡ t → (o : Option (List ℤ)) → first rs es ≡ o → code.is_some t ≡ is_some o
    by (Some v) e none f =
        let a = h.yes v e in
        let c = first_none rs es f v.numbers a.0 in
        let d = a.1 in
        apart cc
    by (Some v) e (some u) f = refl
    by None e none f = refl
    by None e (some u) f =
        let a = h.no e in
        apart cc

pub found_meets : (rs : List Range) (es : List Affine) (s : Solution) → Found rs es s
    → IfSome s (λ (v : Valuation). Inside v.numbers rs × (satisfies es v.numbers ≡ true))
found_meets rs es None h = tt
found_meets rs es (Some v) h = h.yes v refl

module _ (rs : List Range) (l : List ℤ) (n m : ℕ) (e : m ≡ min n (length l)) (h : length rs ≡ PARAMETERS) where
  -- a valuation inside the ranges that meets the inequalities
  pub guess_meets : (v : List ℤ) → Inside v rs → satisfies (exprs_in l m) v ≡ true
      → true ≡ is_some (first (places_from blank_range rs 0 PARAMETERS) (exprs_in l n))
  guess_meets v i a = by (first rs (exprs_in l m)) refl ∙ ap is_some (first_listed rs l n m e h)
    where
      by : (o : Option (List ℤ)) → first rs (exprs_in l m) ≡ o → true ≡ is_some o
      by none q =
          let b = first_none rs (exprs_in l m) q v i in
          apart cc
      by (some w) q = refl

  -- nothing is there
  pub some_none : first rs (exprs_in l m) ≡ none → false ≡ is_some (first (places_from blank_range rs 0 PARAMETERS) (exprs_in l n))
  some_none q = ap is_some (sym q ∙ first_listed rs l n m e h)
