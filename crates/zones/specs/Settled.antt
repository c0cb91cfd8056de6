-- A test on a zone: settled if all or none of its valuations satisfy it; otherwise it splits the zone.
use Rattle.std.specs.Prelude.{List, [], ◌∷◌, ◌++◌, map, Bool, true, false, cond, ℕ, suc, min, ltb, eqb, ℤ, take}
use Rattle.std.proofs.Math.Option.{Option}
use Rattle.std.proofs.Math.Option as option
use Rattle.expr.specs.Affine.{opposite, saturated_e}
use Rattle.expr.specs.Records.{affine, expr_of, range_list, zero_expr}
use Rattle.inequalities.specs.Flat.{exprs_in}
use Rattle.valuations.specs.Valuations.{first}
use Rattle.expr.specs.declared.bound.Test.{Test}
use Rattle.expr.specs.declared.bound.Test.TheVariants.{Yes, No, Ask}
use Rattle.expr.specs.declared.number.Expr.{Expr}
use Rattle.expr.specs.declared.range.Ranges.{Ranges}
use Rattle.zones.specs.System.{put_in}
use Rattle.zones.specs.declared.told.Told.{Told}
use Rattle.zones.specs.declared.told.Told.TheVariants as kinds
use Rattle.zones.specs.declared.zone.Zone.{Zone}

-- a verdict, and the test that it is on
pub record Verdict : Type 0 where
  pub kind : Told
  pub test : Expr

-- it is no or yes
abbrev pub told_settled : Told → Bool
told_settled kinds.No = true
told_settled kinds.Yes = true
told_settled kinds.Split = false
told_settled kinds.Full = false
told_settled (kinds.Other n) = false

-- it is yes
abbrev pub told_yes : Told → Bool
told_yes kinds.No = false
told_yes kinds.Yes = true
told_yes kinds.Split = false
told_yes kinds.Full = false
told_yes (kinds.Other n) = false

-- the verdict of a number
abbrev pub told_of : ℕ → Told
told_of n = cond (eqb n 0) kinds.No (cond (eqb n 1) kinds.Yes (cond (eqb n 3) kinds.Split (cond (eqb n 8) kinds.Full (kinds.Other n))))

-- what becomes of n inequalities that a test splits: one more, or a 25th
abbrev pub split_c : ℕ → Told
split_c n = cond (ltb n 24) kinds.Split kinds.Full

-- the opposite of e ≥ 0, as the code works it out
unfoldable pub opposite_c : Expr → Expr
opposite_c e = expr_of (opposite (saturated_e (affine e)))

abbrev pub is_none : Option (List ℤ) → Bool
is_none option.none = true
is_none (option.some v) = false

-- no valuation of the zone satisfies e
unfoldable pub never_c : Ranges → Zone → Expr → Bool
never_c b z e = is_none (first (range_list b) (map affine (take z.count z.ineqs ++ (e ∷ []))))

-- the verdict on e ≥ 0
unfoldable pub on_c : Ranges → Zone → Expr → Verdict
on_c b z e =
    cond (never_c b z e) (record { kind = kinds.No; test = e })
    (cond (never_c b z (opposite_c e)) (record { kind = kinds.Yes; test = e })
    (cond (ltb z.count 24) (record { kind = kinds.Split; test = e }) (record { kind = kinds.Full; test = e })))

-- the verdict on a test
abbrev pub settled_c : Ranges → Zone → Test → Verdict
settled_c b z Yes = record { kind = kinds.Yes; test = zero_expr }
settled_c b z No = record { kind = kinds.No; test = zero_expr }
settled_c b z (Ask e) = on_c b z e

-- ---- the same of a flat list of numbers: its first n inequalities, and a place behind them where the test is written
-- no valuation meets them and e
unfoldable pub never_f : Ranges → List ℤ → ℕ → Expr → Bool
never_f b l n e = is_none (first (range_list b) (exprs_in (put_in l n e) (suc (min n 24))))

-- the verdict where it is not no, x being the opposite of the test
abbrev pub not_no_f : Ranges → List ℤ → ℕ → Expr → Told
not_no_f b l n x = cond (never_f b l n x) kinds.Yes (split_c n)

-- the verdict on e ≥ 0
unfoldable pub on_f : Ranges → List ℤ → ℕ → Expr → Told
on_f b l n e =
    cond (never_f b l n e) kinds.No (cond (never_f b (put_in l n e) n (opposite_c e)) kinds.Yes (split_c n))

-- the verdict on a test
unfoldable pub settled_f : Ranges → List ℤ → ℕ → Test → Told
settled_f b l n Yes = kinds.Yes
settled_f b l n No = kinds.No
settled_f b l n (Ask e) = on_f b l n e
