-- The cases of the reply, with the branches' tests.
use mathlib.Core.Path.{◌≡◌, refl, sym, ◌∙◌, ap, subst}
use mathlib.Core.List.{List}
use mathlib.Core.Bool.{Bool, true, false, not}
use mathlib.Core.Option.{Option, none, some}
use native.Mathlib.Omega.{arith}
use native.Mathlib.Numerals.{add-one}
use Prim.Native.Nat.{ℕ, suc, ◌+◌, ◌-◌, ◌≤◌, ◌<◌}
use lib.IntN.{ℤ, pos}
use lib.ListN.{get_or, set}
use borrow.Author.Tests.{not-true, not-false}
use mir.Syntax.{w64}
use mir.Val.{SFits, to_z, of_z}
use mir.ValLaws.{to_z-of_z}
use Rattle.integer.specs.Apart.{apart}
use Rattle.expr.specs.declared.range.Range.{Range}
use Rattle.std.specs.declared.result.Result.{Result}
use Rattle.std.specs.declared.result.Result.TheVariants.{Ok, Err}
use Rattle.answers.specs.Numbers.{refusal_as, refused_as}
use Rattle.answers.specs.declared.sweep.Refused.{Refused}
use Rattle.answers.specs.declared.sweep.Refused.TheVariants.{Outside}
use Rattle.answers.specs.declared.file.Refusal.{Refusal}
use Rattle.answers.specs.declared.file.Refusal.TheVariants.{Size, Contents, Body, Valuations, Route}
use Rattle.expr.specs.Records.{PARAMETERS, places_from, four, blank_range, range_list, point, valuation_of, zero_valuation}
use Rattle.expr.specs.RecordLaws.{filled_to, filled_none, filled_next, filled_all}
use Rattle.expr.specs.declared.number.Valuation.{Valuation}
use Rattle.sheet.specs.declared.Sheet.{Sheet}
use Rattle.index.specs.declared.Index.{Index}
use Rattle.index.specs.SheetIn.{sheet_in}
use Rattle.reading.specs.File.{Read, read_of}
use Rattle.indexing.specs.Indexed.{indexed_as}
use Rattle.indexing.specs.IndexedLaws.{indexing_well_formed}
use Rattle.sweep.specs.Faithful.{sheet_faithful}
use Rattle.sweep.specs.Reply.{blank_reply, in_range, outside, or_outside, sheet_reply, read_reply, reply_of}
use Rattle.sweep.specs.TableReply.{placed_by, placed_of, swept_table, sheet_table}
use Rattle.walk.specs.Walked.{sweep_table}

-- what `in_range` said of a number that was passed as its bits, with the branch's test
pub told_inside : (range : Range) (x : ℤ) (b : Bool) → SFits w64 x → b ≡ in_range range (to_z w64 (of_z w64 x)) → not b ≡ false
    → in_range range x ≡ true
told_inside range x b f e h = rw (to_z-of_z w64 x f) at (sym e ∙ not-false b h)

pub told_outside : (range : Range) (x : ℤ) (b : Bool) → SFits w64 x → b ≡ in_range range (to_z w64 (of_z w64 x)) → not b ≡ true
    → in_range range x ≡ false
told_outside range x b f e h = rw (to_z-of_z w64 x f) at (sym e ∙ not-true b h)

-- ---- the numbers one after another
module _ (l : List Range) (xs : List ℤ) where
  -- the first parameter outside its range, from place i on
  abbrev left : ℕ → ℕ → Option ℕ
  left i n = outside i (places_from blank_range l i n) (places_from (pos 0) xs i n)

  left_none : (i : ℕ) → left i 0 ≡ none
  unfolding outside
  left_none i = refl

  left_in : (i n : ℕ) → in_range (get_or l i blank_range) (get_or xs i (pos 0)) ≡ true → left i (suc n) ≡ left (suc i) n
  unfolding outside
  left_in i n h = rw h refl

  left_out : (i n : ℕ) → in_range (get_or l i blank_range) (get_or xs i (pos 0)) ≡ false → left i (suc n) ≡ some i
  unfolding outside
  left_out i n h = rw h refl

  -- the first i numbers lie in their ranges and are put into the valuation
  pub record Placing (i : ℕ) (v : Valuation) : Type 0 where
    pub few : i ≤ PARAMETERS
    pub rest : left 0 PARAMETERS ≡ left i (PARAMETERS - i)
    pub filled : v.numbers ≡ filled_to (λ k. get_or xs k (pos 0)) i

  pub placing_start : Placing 0 zero_valuation
  placing_start = record { few = omega arith; rest = refl; filled = sym (filled_none (λ k. get_or xs k (pos 0))) }

  one_left : (i : ℕ) → i < PARAMETERS → PARAMETERS - i ≡ suc (PARAMETERS - suc i)
  one_left i h = omega arith

  pub placing_turn : (i : ℕ) (v : Valuation) (x : ℤ) → i < PARAMETERS → Placing i v
      → in_range (get_or l i blank_range) (get_or xs i (pos 0)) ≡ true → x ≡ get_or xs i (pos 0)
      → Placing (i + 1) (record { numbers = set v.numbers i x })
  placing_turn i v x h g r e =
      record {
        few = omega arith;
        rest =
            g.rest ∙ ap (left i) (one_left i h) ∙ left_in i (PARAMETERS - suc i) r
            ∙ ap (λ (j : ℕ). left j (PARAMETERS - j)) (sym (add-one i));
        filled =
            ap (λ (k : List ℤ). set k i x) g.filled ∙ filled_next (λ k. get_or xs k (pos 0)) i x e;
      }

  pub placing_out : (i : ℕ) (v : Valuation) → i < PARAMETERS → Placing i v
      → in_range (get_or l i blank_range) (get_or xs i (pos 0)) ≡ false
      → ◌≡◌ {A = Result Valuation Refused} (Err (Outside i)) (placed_of (places_from blank_range l 0 PARAMETERS) (four xs))
  unfolding placed_of
  placing_out i v h g r =
      sym (ap (placed_by (four xs)) (g.rest ∙ ap (left i) (one_left i h) ∙ left_out i (PARAMETERS - suc i) r))

  pub placing_all : (i : ℕ) (v : Valuation) → (i < PARAMETERS → ⊥) → Placing i v
      → ◌≡◌ {A = Result Valuation Refused} (Ok v) (placed_of (places_from blank_range l 0 PARAMETERS) (four xs))
  unfolding placed_of
  placing_all i v h g =
      let k : PARAMETERS ≡ i = omega (arith, g.few) in
      let none_left : left 0 PARAMETERS ≡ none = g.rest ∙ ap (λ (j : ℕ). left j (PARAMETERS - j)) (sym k) ∙ left_none PARAMETERS in
      ap (λ (n : List ℤ). Ok (record { numbers = n }))
      (g.filled ∙ filled_all (λ j. get_or xs j (pos 0)) i g.few h)
      ∙ sym (ap (placed_by (four xs)) none_left)

-- ---- the reply for a sheet
module _ (s : Sheet) (xs : List ℤ) where
  pub inside_reply : (v : Valuation) → ◌≡◌ {A = Result Valuation Refused} (Ok v) (placed_of (range_list s.ranges) (four xs))
      → swept_table (sweep_table s (point v)) ≡ sheet_table s (four xs)
  unfolding placed_of sheet_table
  inside_reply v = by (outside 0 (range_list s.ranges) (four xs))
    where
      by : (o : Option ℕ) → ◌≡◌ {A = Result Valuation Refused} (Ok v) (placed_by (four xs) o)
          → swept_table (sweep_table s (point v)) ≡ or_outside (swept_table (sweep_table s (four xs))) o
      by none f = let g : v ≡ valuation_of (four xs) = cc in ap (λ (y : Valuation). swept_table (sweep_table s (point y))) g
      by (some k) f = apart cc

  pub outside_reply : (r : Refused) → ◌≡◌ {A = Result Valuation Refused} (Err r) (placed_of (range_list s.ranges) (four xs))
      → blank_reply (refused_as r) ≡ sheet_table s (four xs)
  unfolding placed_of sheet_table
  outside_reply r = by (outside 0 (range_list s.ranges) (four xs))
    where
      by : (o : Option ℕ) → ◌≡◌ {A = Result Valuation Refused} (Err r) (placed_by (four xs) o)
          → blank_reply (refused_as r) ≡ or_outside (swept_table (sweep_table s (four xs))) o
      by none f = apart cc
      by (some k) f = let g : r ≡ Outside k = cc in ap (λ (y : Refused). blank_reply (refused_as y)) g

-- ---- the whole reply
pub fine_reply : (file : List ℕ) (v : List ℤ) (ix : Index) → indexed_as file (Ok ix) ≡ read_of file
    → sheet_table (sheet_in file ix) v ≡ reply_of file v
unfolding reply_of read_reply
fine_reply file v ix e =
    let sheet = sheet_in file ix in
    sheet_faithful sheet (indexing_well_formed file ix e) v
    ∙ subst (λ (x : Read). sheet_reply sheet v ≡ read_reply x v) e refl

-- a refusal has a number
refused_number : (file : List ℕ) (v : List ℤ) (r : Refusal) (x : Read) → indexed_as file (Err r) ≡ x
    → blank_reply (refusal_as r) ≡ read_reply x v
unfolding read_reply
refused_number file v Size x e = rw (← e) refl
refused_number file v (Contents at) x e = rw (← e) refl
refused_number file v (Body at) x e = rw (← e) refl
refused_number file v Valuations x e = rw (← e) refl
refused_number file v (Route at) x e = rw (← e) refl

pub refused_reply_lem : (file : List ℕ) (v : List ℤ) (r : Refusal) → indexed_as file (Err r) ≡ read_of file
    → blank_reply (refusal_as r) ≡ reply_of file v
unfolding reply_of
refused_reply_lem file v r e = refused_number file v r (read_of file) e
