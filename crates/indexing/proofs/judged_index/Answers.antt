-- `judged_index` meets its contract: the tests on the way pick the definition's case. Assumes nothing.
use Prim.Native.Nat.{ℕ, ◌+◌}
use mathlib.Core.Path.{◌≡◌, sym}
use mathlib.Core.List.{List}
use mathlib.Core.Bool.{Bool, true, false}
use lib.Dec.{leb}
use borrow.Author.Tests.{not-true, not-false}
use Rattle.std.specs.declared.result.Result.{Result}
use Rattle.std.specs.declared.result.Result.TheVariants.{Ok, Err}
use Rattle.answers.specs.Numbers.{numbered}
use Rattle.expr.specs.Records.{range_list}
use Rattle.valuations.specs.Valuations.{widths}
use Rattle.sheet.specs.WellFormed.{MOST_VALUATIONS}
use Rattle.route.specs.Route.{links_of}
use Rattle.index.specs.declared.Index.{Index}
use Rattle.index.specs.SheetIn.{sheet_in}
use Rattle.reading.specs.File.{Read, blank_sheet, judged_route, judged_widths, judged_bodies, refused_by}
use Rattle.indexing.specs.declared.IndexAt.{IndexAt}
use Rattle.indexing.specs.Indexed.{sheet_at}
use Rattle.indexing.proofs.judged_index.Goals as goal

-- each way through the judging is a case of `judged_bodies`
module _ (s : List ℕ) (third : ℕ) (bodies : IndexAt) where
  abbrev index : Index
  index = bodies.index

  abbrev Few : Bool → Type 0
  Few b = leb (widths (range_list index.ranges)) MOST_VALUATIONS ≡ b

  abbrev links : Result ℕ ℕ
  links = links_of (sheet_in s index).transition index.route index.moves

  abbrev Judged : Read → Type 0
  Judged r = r ≡ judged_bodies third (sheet_at s bodies)

  stopped : bodies.cursor.ok ≡ false → Judged (record { answer = numbered 4 bodies.cursor.at; sheet = blank_sheet })
  unfolding judged_bodies refused_by
  stopped o = simp o

  many : bodies.cursor.ok ≡ true → Few false → Judged (record { answer = numbered 16 0; sheet = blank_sheet })
  unfolding judged_bodies judged_widths refused_by sheet_in
  many o w = simp (o, w)

  linked : (location : ℕ) → bodies.cursor.ok ≡ true → Few true → Ok location ≡ links
      → Judged (record { answer = numbered 0 0; sheet = sheet_in s index })
  unfolding judged_bodies judged_widths judged_route sheet_in
  linked location o w l = simp (o, w, sym l)

  broken : (at : ℕ) → bodies.cursor.ok ≡ true → Few true → Err at ≡ links
      → Judged (record { answer = numbered 5 (third + 1 + at); sheet = blank_sheet })
  unfolding judged_bodies judged_widths judged_route refused_by sheet_in
  broken at o w l = simp (o, w, sym l)

pub returns-then-not-cursor : goal.returns-then-not-cursor
returns-then-not-cursor c = stopped _ _ _ (not-true _ c.if-not-cursor.true)

pub returns-then-not-few_valuations : goal.returns-then-not-few_valuations
returns-then-not-few_valuations c =
    many _ _ _ (not-false _ c.if-not-cursor.false) (rw c.few_valuations.ensures at c.if-not-few_valuations.true)

pub returns-in-Ok : goal.returns-in-Ok
returns-in-Ok c =
    linked _ _ _ _ (not-false _ c.if-not-cursor.false) (rw c.few_valuations.ensures at c.if-not-few_valuations.false) c.in-Ok.ensures

pub returns-in-Err : goal.returns-in-Err
returns-in-Err c =
    broken _ _ _ _ (not-false _ c.if-not-cursor.false) (rw c.few_valuations.ensures at c.if-not-few_valuations.false) c.in-Err.ensures
