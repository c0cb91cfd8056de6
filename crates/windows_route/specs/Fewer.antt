-- The two parts of a split hold nothing that the zone does not hold.
use Rattle.std.specs.Prelude.{◌≡◌, refl, Bool, true, false, cond, List, ◌+◌, ◌-◌, ltb}
use Rattle.std.proofs.Common.{sym, ap, ◌∙◌}
use Rattle.constrain.specs.Rules.{via_c}
use Rattle.constrain.specs.declared.rule.Rule.{Rule}
use Rattle.expr.specs.Affine.{Affine}
use Rattle.parts.specs.Parts.{standing, put_c, pushed_c, answered_c, with_more, yes_c, no_c}
use Rattle.parts.specs.declared.part.Halt.TheVariants as stops
use Rattle.parts.specs.declared.part.Part.{Part}
use Rattle.valuations.specs.Valuations.{satisfies}
use Rattle.zones.specs.Fits.{Fewer, fewer_more}
use Rattle.zones.specs.Hinted.{exprs_of}
use Rattle.zones.specs.Settled.{opposite_c}

answered_same : (r : Rule) (p : Part) (b : Bool) → exprs_of (answered_c r p b).zone ≡ exprs_of p.zone
unfolding answered_c pushed_c
answered_same r p b = by (ltb p.phase 1) (ltb p.phase 2) (ltb (p.phase - 2) 24) b
  where
    put : Bool → Part
    put b = cond b (put_c p (p.phase - 2) (via_c r (p.phase - 2))) p

    by : (s t u b : Bool)
        → exprs_of
        (cond {A = Part} s (cond b (standing p 27 stops.Cut) (standing p 1 stops.No))
        (cond t (cond b (standing p 2 stops.No) (standing p 27 stops.Kept))
        (cond u (standing (put b) (p.phase - 2 + 3) stops.No) (standing (put b) 27 stops.Kept)))).zone
        ≡ exprs_of p.zone
    by true t u true = refl
    by true t u false = refl
    by false true u true = refl
    by false true u false = refl
    by false false true true = refl
    by false false true false = refl
    by false false false true = refl
    by false false false false = refl

pub fewer_yes : (r : Rule) (q : Part) → Fewer (yes_c r q).zone q.zone
unfolding yes_c
fewer_yes r q v h =
    fewer_more q.zone q.test v
    (sym (ap (λ (es : List Affine). satisfies es v) (answered_same r (with_more q q.test) true)) ∙ h)

pub fewer_no : (r : Rule) (q : Part) → Fewer (no_c r q).zone q.zone
unfolding no_c
fewer_no r q v h =
    fewer_more q.zone (opposite_c q.test) v
    (sym (ap (λ (es : List Affine). satisfies es v) (answered_same r (with_more q (opposite_c q.test)) false)) ∙ h)
