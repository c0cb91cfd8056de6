-- The loop's invariant: where the walk stands, in cells (specs/Standing).
use mathlib.Core.Path.{◌≡◌, refl, sym, ap, subst, ◌∙◌}
use mathlib.Core.Bool.{true, true≢false}
use Prim.Native.Nat.{ℕ, ◌≤◌}
use native.Mathlib.Omega.{arith}
use borrow.Author.Rules.{rules}
use lib.ListN.{length, get_or, length-set}
use Rattle.index.specs.SheetIn.{sheet_in}
use Rattle.passing.specs.Machine.{no_step}
use Rattle.running.specs.Tasks.{guarding_c}
use Rattle.steps.specs.Steps.{asks_c, guard_of_c, asked_is, asked_not}
use Rattle.windows_route.specs.Ended.{refused_as}
use Rattle.windows_route.specs.Standing.{standing_starts, top_lives, top_hinted, stopped_refused, split_fits, split_deep}
use Rattle.windows_route.specs.Standing.{stopped_split, listed_room, stopped_listed, stopped_dropped, in_list, from_few}
use Rattle.windows_route.specs.Standing.{hinted_at, stays_there, stays_at, loaded_at, standing_stepped, standing_next, standing_ends}
use Rattle.zones.specs.Fits.{hinted_new}
use Rattle.zones.specs.Zone.{blank_zone}
use Rattle.windows_route.proofs.along.walk.Goals.{in-Some, in_default}
use Rattle.windows_route.proofs.along.walk.Goals as goal

pub loop-k-init : goal.loop-k-init
unfolding sheet_in
loop-k-init c =
    let a = c.args in
    let first = c.segment_at-first in
    let hinted = c.hint_of-hints in
    let counted = c.moves-end in
    let long : length first.result.steps.list ≡ 20 = search rules in
    standing_starts (sheet_in a.file.now a.ix) _ _ first.result hinted.result _ _ _ _ _ _ _ _ _ _ counted.ensures.value
    counted.ensures.few c.location_at.ensures first.ensures long
    (hinted_new a.ix.ranges blank_zone hinted.result hinted.ensures.narrows hinted.ensures.held hinted.ensures.new)
    c.begun-s.ensures c.requires.cells c.requires.marks c.requires.counts refl refl refl

pub overflow_add-top : goal.overflow_add-top
overflow_add-top c =
    let st = c.loop-k.invariant in
    omega (arith, c.if-s-gt0.true, st.walking.machine.turned.few)

pub offset_bounds-counts-top : goal.offset_bounds-counts-top
offset_bounds-counts-top c =
    let st = c.loop-k.invariant in
    omega (arith, c.if-s-gt0.true, st.walking.machine.turned.few)

pub bounds-counts-top : goal.bounds-counts-top
bounds-counts-top c =
    let st = c.loop-k.invariant in
    omega (arith, c.if-s-gt0.true, st.walking.machine.turned.few, st.counts_long)

pub offset_bounds-waits-d : goal.offset_bounds-waits-d
offset_bounds-waits-d c =
    let st = c.loop-k.invariant in
    omega (arith, c.if-s-gt0.true, st.walking.machine.turned.few)

pub bounds-waits-d : goal.bounds-waits-d
bounds-waits-d c =
    let st = c.loop-k.invariant in
    omega (arith, c.if-s-gt0.true, st.walking.machine.turned.few)

pub offset_bounds-tasks-d : goal.offset_bounds-tasks-d
offset_bounds-tasks-d c =
    let st = c.loop-k.invariant in
    omega (arith, c.if-s-gt0.true, st.walking.machine.turned.few)

pub bounds-tasks-d : goal.bounds-tasks-d
bounds-tasks-d c =
    let st = c.loop-k.invariant in
    omega (arith, c.if-s-gt0.true, st.walking.machine.turned.few)

pub run-stop-requires : goal.run-stop-requires
unfolding sheet_in
run-stop-requires c =
    let st = c.loop-k.invariant in
    let go = c.if-s-steps.true in
    let busy = c.if-s-gt0.true in
    let few = st.walking.machine.turned.few in record {
      cells_len = (st.cells_long, (st.marks_long, ((omega arith, omega arith), (λ e. omega arith, st.few _))));
      live = (top_lives st go busy, (top_hinted st go busy).trusted);
    }

pub returns-then-refusal-gt0 : goal.returns-then-refusal-gt0
unfolding sheet_in
returns-then-refusal-gt0 c =
    let st = c.loop-k.invariant in
    let go = c.if-s-steps.true in
    let busy = c.if-s-gt0.true in
    let few = st.walking.machine.turned.few in
    let hl = c.run-stop.auto.cells ∙ st.cells_long in
    let hm = c.run-stop.auto.marks ∙ st.marks_long in
    let done = c.run-stop in
    refused_as _ _ _ _ c.loop-k.counts _ _ done.ensures.same c.if-refusal-gt0.true
    (stopped_refused st go busy _ _ hl hm done.result.hint done.result.task done.ensures.ran done.ensures.same
    done.ensures.known _ c.number-refusal.ensures c.if-refusal-gt0.true)

pub halved-requires : goal.halved-requires
unfolding sheet_in
halved-requires c =
    let st = c.loop-k.invariant in
    let go = c.if-s-steps.true in
    let busy = c.if-s-gt0.true in
    let few = st.walking.machine.turned.few in
    let hl = c.run-stop.auto.cells ∙ st.cells_long in
    let hm = c.run-stop.auto.marks ∙ st.marks_long in
    let done = c.run-stop in
    let f = sym c.is_split.ensures ∙ c.if-is_split.true in
    let fits = split_fits st go busy _ _ hl hm done.result.hint done.result.task done.ensures.ran done.ensures.same
    done.ensures.known f in
    let deep = split_deep st go busy _ _ hl hm done.result.hint done.result.task done.ensures.ran done.ensures.same
    done.ensures.known f in
    (hl, (hm, ((omega arith, omega arith), (fits.1, fits.0))))

pub overflow_add-n : goal.overflow_add-n
overflow_add-n c =
    let st = c.loop-k.invariant in
    let go = c.if-s-steps.true in
    let busy = c.if-s-gt0.true in
    let few = st.walking.machine.turned.few in
    let hl = c.run-stop.auto.cells ∙ st.cells_long in
    let hm = c.run-stop.auto.marks ∙ st.marks_long in
    let done = c.run-stop in
    let f = sym c.is_split.ensures ∙ c.if-is_split.true in
    let fits = split_fits st go busy _ _ hl hm done.result.hint done.result.task done.ensures.ran done.ensures.same
    done.ensures.known f in
    let deep = split_deep st go busy _ _ hl hm done.result.hint done.result.task done.ensures.ran done.ensures.same
    done.ensures.known f in
    omega arith

pub hint_at-no-requires : goal.hint_at-no-requires
unfolding sheet_in
hint_at-no-requires c =
    let st = c.loop-k.invariant in
    let go = c.if-s-steps.true in
    let busy = c.if-s-gt0.true in
    let few = st.walking.machine.turned.few in
    let hl = c.run-stop.auto.cells ∙ st.cells_long in
    let hm = c.run-stop.auto.marks ∙ st.marks_long in
    let done = c.run-stop in
    let f = sym c.is_split.ensures ∙ c.if-is_split.true in
    let fits = split_fits st go busy _ _ hl hm done.result.hint done.result.task done.ensures.ran done.ensures.same
    done.ensures.known f in
    let deep = split_deep st go busy _ _ hl hm done.result.hint done.result.task done.ensures.ran done.ensures.same
    done.ensures.known f in
    (c.halved.auto.cells ∙ hl, (omega arith, omega arith))

pub overflow_add-top-then-is_split : goal.overflow_add-top-then-is_split
overflow_add-top-then-is_split c =
    let st = c.loop-k.invariant in
    let go = c.if-s-steps.true in
    let busy = c.if-s-gt0.true in
    let few = st.walking.machine.turned.few in
    let hl = c.run-stop.auto.cells ∙ st.cells_long in
    let hm = c.run-stop.auto.marks ∙ st.marks_long in
    let done = c.run-stop in
    let f = sym c.is_split.ensures ∙ c.if-is_split.true in
    let fits = split_fits st go busy _ _ hl hm done.result.hint done.result.task done.ensures.ran done.ensures.same
    done.ensures.known f in
    let deep = split_deep st go busy _ _ hl hm done.result.hint done.result.task done.ensures.ran done.ensures.same
    done.ensures.known f in
    omega arith

pub overflow_add-n-then-is_split : goal.overflow_add-n-then-is_split
overflow_add-n-then-is_split c =
    let st = c.loop-k.invariant in
    let go = c.if-s-steps.true in
    let busy = c.if-s-gt0.true in
    let few = st.walking.machine.turned.few in
    let hl = c.run-stop.auto.cells ∙ st.cells_long in
    let hm = c.run-stop.auto.marks ∙ st.marks_long in
    let done = c.run-stop in
    let f = sym c.is_split.ensures ∙ c.if-is_split.true in
    let fits = split_fits st go busy _ _ hl hm done.result.hint done.result.task done.ensures.ran done.ensures.same
    done.ensures.known f in
    let deep = split_deep st go busy _ _ hl hm done.result.hint done.result.task done.ensures.ran done.ensures.same
    done.ensures.known f in
    omega arith

pub hint_at-yes-requires : goal.hint_at-yes-requires
unfolding sheet_in
hint_at-yes-requires c =
    let st = c.loop-k.invariant in
    let go = c.if-s-steps.true in
    let busy = c.if-s-gt0.true in
    let few = st.walking.machine.turned.few in
    let hl = c.run-stop.auto.cells ∙ st.cells_long in
    let hm = c.run-stop.auto.marks ∙ st.marks_long in
    let done = c.run-stop in
    let f = sym c.is_split.ensures ∙ c.if-is_split.true in
    let fits = split_fits st go busy _ _ hl hm done.result.hint done.result.task done.ensures.ran done.ensures.same
    done.ensures.known f in
    let deep = split_deep st go busy _ _ hl hm done.result.hint done.result.task done.ensures.ran done.ensures.same
    done.ensures.known f in
    (c.halved.auto.cells ∙ hl, (omega arith, omega arith))

pub overflow_add-counts : goal.overflow_add-counts
overflow_add-counts c =
    let st = c.loop-k.invariant in
    let go = c.if-s-steps.true in
    let busy = c.if-s-gt0.true in
    let few = st.walking.machine.turned.few in
    let hl = c.run-stop.auto.cells ∙ st.cells_long in
    let hm = c.run-stop.auto.marks ∙ st.marks_long in
    let done = c.run-stop in
    let f = sym c.is_split.ensures ∙ c.if-is_split.true in
    let fits = split_fits st go busy _ _ hl hm done.result.hint done.result.task done.ensures.ran done.ensures.same
    done.ensures.known f in
    let deep = split_deep st go busy _ _ hl hm done.result.hint done.result.task done.ensures.ran done.ensures.same
    done.ensures.known f in
    omega arith

pub offset_bounds-counts-top-then-is_split : goal.offset_bounds-counts-top-then-is_split
offset_bounds-counts-top-then-is_split c =
    let st = c.loop-k.invariant in
    omega (
      arith,
      c.if-s-gt0.true,
      st.walking.machine.turned.few,
    )

pub bounds-counts-top-then-is_split : goal.bounds-counts-top-then-is_split
bounds-counts-top-then-is_split c =
    let st = c.loop-k.invariant in
    omega (
      arith,
      c.if-s-gt0.true,
      st.walking.machine.turned.few,
      st.counts_long,
    )

pub overflow_add-counts-then-is_split : goal.overflow_add-counts-then-is_split
overflow_add-counts-then-is_split c =
    let st = c.loop-k.invariant in
    let go = c.if-s-steps.true in
    let busy = c.if-s-gt0.true in
    let few = st.walking.machine.turned.few in
    let hl = c.run-stop.auto.cells ∙ st.cells_long in
    let hm = c.run-stop.auto.marks ∙ st.marks_long in
    let done = c.run-stop in
    let f = sym c.is_split.ensures ∙ c.if-is_split.true in
    let fits = split_fits st go busy _ _ hl hm done.result.hint done.result.task done.ensures.ran done.ensures.same
    done.ensures.known f in
    let deep = split_deep st go busy _ _ hl hm done.result.hint done.result.task done.ensures.ran done.ensures.same
    done.ensures.known f in
    omega arith

pub overflow_add-counts-then-is_split-2 : goal.overflow_add-counts-then-is_split-2
overflow_add-counts-then-is_split-2 c =
    let st = c.loop-k.invariant in
    let go = c.if-s-steps.true in
    let busy = c.if-s-gt0.true in
    let few = st.walking.machine.turned.few in
    let hl = c.run-stop.auto.cells ∙ st.cells_long in
    let hm = c.run-stop.auto.marks ∙ st.marks_long in
    let done = c.run-stop in
    let f = sym c.is_split.ensures ∙ c.if-is_split.true in
    let fits = split_fits st go busy _ _ hl hm done.result.hint done.result.task done.ensures.ran done.ensures.same
    done.ensures.known f in
    let deep = split_deep st go busy _ _ hl hm done.result.hint done.result.task done.ensures.ran done.ensures.same
    done.ensures.known f in
    omega arith

pub offset_bounds-counts-top-then-is_split-2 : goal.offset_bounds-counts-top-then-is_split-2
offset_bounds-counts-top-then-is_split-2 c =
    let st = c.loop-k.invariant in
    let go = c.if-s-steps.true in
    let busy = c.if-s-gt0.true in
    let few = st.walking.machine.turned.few in
    let hl = c.run-stop.auto.cells ∙ st.cells_long in
    let hm = c.run-stop.auto.marks ∙ st.marks_long in
    let done = c.run-stop in
    let f = sym c.is_split.ensures ∙ c.if-is_split.true in
    let fits = split_fits st go busy _ _ hl hm done.result.hint done.result.task done.ensures.ran done.ensures.same
    done.ensures.known f in
    let deep = split_deep st go busy _ _ hl hm done.result.hint done.result.task done.ensures.ran done.ensures.same
    done.ensures.known f in
    omega arith

pub bounds-counts-top-then-is_split-2 : goal.bounds-counts-top-then-is_split-2
bounds-counts-top-then-is_split-2 c =
    let st = c.loop-k.invariant in
    let go = c.if-s-steps.true in
    let busy = c.if-s-gt0.true in
    let few = st.walking.machine.turned.few in
    let hl = c.run-stop.auto.cells ∙ st.cells_long in
    let hm = c.run-stop.auto.marks ∙ st.marks_long in
    let done = c.run-stop in
    let f = sym c.is_split.ensures ∙ c.if-is_split.true in
    let fits = split_fits st go busy _ _ hl hm done.result.hint done.result.task done.ensures.ran done.ensures.same
    done.ensures.known f in
    let deep = split_deep st go busy _ _ hl hm done.result.hint done.result.task done.ensures.ran done.ensures.same
    done.ensures.known f in
    simp length-set (omega (arith, st.counts_long))

pub offset_bounds-tasks-d-then-is_split : goal.offset_bounds-tasks-d-then-is_split
offset_bounds-tasks-d-then-is_split c =
    let st = c.loop-k.invariant in
    omega (
      arith,
      c.if-s-gt0.true,
      st.walking.machine.turned.few,
    )

pub bounds-tasks-d-then-is_split : goal.bounds-tasks-d-then-is_split
bounds-tasks-d-then-is_split c =
    let st = c.loop-k.invariant in
    omega (
      arith,
      c.if-s-gt0.true,
      st.walking.machine.turned.few,
    )

pub overflow_add-tasks : goal.overflow_add-tasks
overflow_add-tasks c =
    let st = c.loop-k.invariant in
    let go = c.if-s-steps.true in
    let busy = c.if-s-gt0.true in
    let few = st.walking.machine.turned.few in
    let hl = c.run-stop.auto.cells ∙ st.cells_long in
    let hm = c.run-stop.auto.marks ∙ st.marks_long in
    let done = c.run-stop in
    let f = sym c.is_split.ensures ∙ c.if-is_split.true in
    let fits = split_fits st go busy _ _ hl hm done.result.hint done.result.task done.ensures.ran done.ensures.same
    done.ensures.known f in
    let deep = split_deep st go busy _ _ hl hm done.result.hint done.result.task done.ensures.ran done.ensures.same
    done.ensures.known f in
    omega arith

pub offset_bounds-tasks-d-then-is_split-2 : goal.offset_bounds-tasks-d-then-is_split-2
offset_bounds-tasks-d-then-is_split-2 c =
    let st = c.loop-k.invariant in
    let go = c.if-s-steps.true in
    let busy = c.if-s-gt0.true in
    let few = st.walking.machine.turned.few in
    let hl = c.run-stop.auto.cells ∙ st.cells_long in
    let hm = c.run-stop.auto.marks ∙ st.marks_long in
    let done = c.run-stop in
    let f = sym c.is_split.ensures ∙ c.if-is_split.true in
    let fits = split_fits st go busy _ _ hl hm done.result.hint done.result.task done.ensures.ran done.ensures.same
    done.ensures.known f in
    let deep = split_deep st go busy _ _ hl hm done.result.hint done.result.task done.ensures.ran done.ensures.same
    done.ensures.known f in
    omega arith

pub bounds-tasks-d-then-is_split-2 : goal.bounds-tasks-d-then-is_split-2
bounds-tasks-d-then-is_split-2 c =
    let st = c.loop-k.invariant in
    let go = c.if-s-steps.true in
    let busy = c.if-s-gt0.true in
    let few = st.walking.machine.turned.few in
    let hl = c.run-stop.auto.cells ∙ st.cells_long in
    let hm = c.run-stop.auto.marks ∙ st.marks_long in
    let done = c.run-stop in
    let f = sym c.is_split.ensures ∙ c.if-is_split.true in
    let fits = split_fits st go busy _ _ hl hm done.result.hint done.result.task done.ensures.ran done.ensures.same
    done.ensures.known f in
    let deep = split_deep st go busy _ _ hl hm done.result.hint done.result.task done.ensures.ran done.ensures.same
    done.ensures.known f in
    omega arith

pub offset_bounds-waits-d-then-is_split : goal.offset_bounds-waits-d-then-is_split
offset_bounds-waits-d-then-is_split c =
    let st = c.loop-k.invariant in
    omega (
      arith,
      c.if-s-gt0.true,
      st.walking.machine.turned.few,
    )

pub bounds-waits-d-then-is_split : goal.bounds-waits-d-then-is_split
bounds-waits-d-then-is_split c =
    let st = c.loop-k.invariant in
    omega (
      arith,
      c.if-s-gt0.true,
      st.walking.machine.turned.few,
    )

pub overflow_add-waits : goal.overflow_add-waits
overflow_add-waits c =
    let st = c.loop-k.invariant in
    let go = c.if-s-steps.true in
    let busy = c.if-s-gt0.true in
    let few = st.walking.machine.turned.few in
    let hl = c.run-stop.auto.cells ∙ st.cells_long in
    let hm = c.run-stop.auto.marks ∙ st.marks_long in
    let done = c.run-stop in
    let f = sym c.is_split.ensures ∙ c.if-is_split.true in
    let fits = split_fits st go busy _ _ hl hm done.result.hint done.result.task done.ensures.ran done.ensures.same
    done.ensures.known f in
    let deep = split_deep st go busy _ _ hl hm done.result.hint done.result.task done.ensures.ran done.ensures.same
    done.ensures.known f in
    omega arith

pub offset_bounds-waits-d-then-is_split-2 : goal.offset_bounds-waits-d-then-is_split-2
offset_bounds-waits-d-then-is_split-2 c =
    let st = c.loop-k.invariant in
    let go = c.if-s-steps.true in
    let busy = c.if-s-gt0.true in
    let few = st.walking.machine.turned.few in
    let hl = c.run-stop.auto.cells ∙ st.cells_long in
    let hm = c.run-stop.auto.marks ∙ st.marks_long in
    let done = c.run-stop in
    let f = sym c.is_split.ensures ∙ c.if-is_split.true in
    let fits = split_fits st go busy _ _ hl hm done.result.hint done.result.task done.ensures.ran done.ensures.same
    done.ensures.known f in
    let deep = split_deep st go busy _ _ hl hm done.result.hint done.result.task done.ensures.ran done.ensures.same
    done.ensures.known f in
    omega arith

pub bounds-waits-d-then-is_split-2 : goal.bounds-waits-d-then-is_split-2
bounds-waits-d-then-is_split-2 c =
    let st = c.loop-k.invariant in
    let go = c.if-s-steps.true in
    let busy = c.if-s-gt0.true in
    let few = st.walking.machine.turned.few in
    let hl = c.run-stop.auto.cells ∙ st.cells_long in
    let hm = c.run-stop.auto.marks ∙ st.marks_long in
    let done = c.run-stop in
    let f = sym c.is_split.ensures ∙ c.if-is_split.true in
    let fits = split_fits st go busy _ _ hl hm done.result.hint done.result.task done.ensures.ran done.ensures.same
    done.ensures.known f in
    let deep = split_deep st go busy _ _ hl hm done.result.hint done.result.task done.ensures.ran done.ensures.same
    done.ensures.known f in
    omega arith

pub pushed-s-requires : goal.pushed-s-requires
pushed-s-requires c =
    let st = c.loop-k.invariant in
    let go = c.if-s-steps.true in
    let busy = c.if-s-gt0.true in
    let few = st.walking.machine.turned.few in
    let hl = c.run-stop.auto.cells ∙ st.cells_long in
    let hm = c.run-stop.auto.marks ∙ st.marks_long in
    let done = c.run-stop in
    let f = sym c.is_split.ensures ∙ c.if-is_split.true in
    let fits = split_fits st go busy _ _ hl hm done.result.hint done.result.task done.ensures.ran done.ensures.same
    done.ensures.known f in
    let deep = split_deep st go busy _ _ hl hm done.result.hint done.result.task done.ensures.ran done.ensures.same
    done.ensures.known f in
    deep

pub loop-k-smaller-then-is_split : goal.loop-k-smaller-then-is_split
unfolding sheet_in
loop-k-smaller-then-is_split c =
    let st = c.loop-k.invariant in
    let go = c.if-s-steps.true in
    let busy = c.if-s-gt0.true in
    let few = st.walking.machine.turned.few in
    let hl = c.run-stop.auto.cells ∙ st.cells_long in
    let hm = c.run-stop.auto.marks ∙ st.marks_long in
    let done = c.run-stop in
    let f = sym c.is_split.ensures ∙ c.if-is_split.true in
    let fits = split_fits st go busy _ _ hl hm done.result.hint done.result.task done.ensures.ran done.ensures.same
    done.ensures.known f in
    let deep = split_deep st go busy _ _ hl hm done.result.hint done.result.task done.ensures.ran done.ensures.same
    done.ensures.known f in
    let no = c.hint_at-no in
    let yes = c.hint_at-yes in
    (stopped_split st go busy _ _ hl hm done.result.hint done.result.task done.ensures.ran done.ensures.same
    done.ensures.known f _ _ (c.halved.auto.cells ∙ hl)
    (c.halved.auto.marks ∙ hm) c.halved.ensures no.result yes.result no.ensures.narrows
    no.ensures.held no.ensures.same yes.ensures.narrows yes.ensures.held yes.ensures.same _ _
    c.answered-below.ensures c.answered-above.ensures _ c.pushed-s.ensures).1

pub loop-k-preserved-then-is_split : goal.loop-k-preserved-then-is_split
unfolding sheet_in
loop-k-preserved-then-is_split c =
    let st = c.loop-k.invariant in
    let go = c.if-s-steps.true in
    let busy = c.if-s-gt0.true in
    let few = st.walking.machine.turned.few in
    let hl = c.run-stop.auto.cells ∙ st.cells_long in
    let hm = c.run-stop.auto.marks ∙ st.marks_long in
    let done = c.run-stop in
    let f = sym c.is_split.ensures ∙ c.if-is_split.true in
    let fits = split_fits st go busy _ _ hl hm done.result.hint done.result.task done.ensures.ran done.ensures.same
    done.ensures.known f in
    let deep = split_deep st go busy _ _ hl hm done.result.hint done.result.task done.ensures.ran done.ensures.same
    done.ensures.known f in
    let no = c.hint_at-no in
    let yes = c.hint_at-yes in
    (stopped_split st go busy _ _ hl hm done.result.hint done.result.task done.ensures.ran done.ensures.same
    done.ensures.known f _ _ (c.halved.auto.cells ∙ hl)
    (c.halved.auto.marks ∙ hm) c.halved.ensures no.result yes.result no.ensures.narrows
    no.ensures.held no.ensures.same yes.ensures.narrows yes.ensures.held yes.ensures.same _ _
    c.answered-below.ensures c.answered-above.ensures _ c.pushed-s.ensures).0

pub offset_bounds-counts-at : goal.offset_bounds-counts-at
offset_bounds-counts-at c =
    let st = c.loop-k.invariant in
    let go = c.if-s-steps.true in
    let busy = c.if-s-gt0.true in
    let few = st.walking.machine.turned.few in
    let hl = c.run-stop.auto.cells ∙ st.cells_long in
    let hm = c.run-stop.auto.marks ∙ st.marks_long in
    let done = c.run-stop in
    let quiet = subst (λ (x : ℕ). x ≤ 0) c.number-refusal.ensures c.if-refusal-gt0.false in
    let room = listed_room st go busy _ _ hl hm done.result.hint done.result.task done.ensures.ran done.ensures.same
    done.ensures.known quiet (sym c.is_kept.ensures ∙ c.if-is_kept.true) in
    omega (arith, st.counts_long)

pub bounds-counts-at : goal.bounds-counts-at
bounds-counts-at c =
    let st = c.loop-k.invariant in
    let go = c.if-s-steps.true in
    let busy = c.if-s-gt0.true in
    let few = st.walking.machine.turned.few in
    let hl = c.run-stop.auto.cells ∙ st.cells_long in
    let hm = c.run-stop.auto.marks ∙ st.marks_long in
    let done = c.run-stop in
    let quiet = subst (λ (x : ℕ). x ≤ 0) c.number-refusal.ensures c.if-refusal-gt0.false in
    let room = listed_room st go busy _ _ hl hm done.result.hint done.result.task done.ensures.ran done.ensures.same
    done.ensures.known quiet (sym c.is_kept.ensures ∙ c.if-is_kept.true) in
    omega (arith, st.counts_long)

pub offset_bounds-hints-at : goal.offset_bounds-hints-at
offset_bounds-hints-at c =
    let st = c.loop-k.invariant in
    let go = c.if-s-steps.true in
    let busy = c.if-s-gt0.true in
    let few = st.walking.machine.turned.few in
    let hl = c.run-stop.auto.cells ∙ st.cells_long in
    let hm = c.run-stop.auto.marks ∙ st.marks_long in
    let done = c.run-stop in
    let quiet = subst (λ (x : ℕ). x ≤ 0) c.number-refusal.ensures c.if-refusal-gt0.false in
    let room = listed_room st go busy _ _ hl hm done.result.hint done.result.task done.ensures.ran done.ensures.same
    done.ensures.known quiet (sym c.is_kept.ensures ∙ c.if-is_kept.true) in
    omega (arith, st.counts_long)

pub bounds-hints-at : goal.bounds-hints-at
bounds-hints-at c =
    let st = c.loop-k.invariant in
    let go = c.if-s-steps.true in
    let busy = c.if-s-gt0.true in
    let few = st.walking.machine.turned.few in
    let hl = c.run-stop.auto.cells ∙ st.cells_long in
    let hm = c.run-stop.auto.marks ∙ st.marks_long in
    let done = c.run-stop in
    let quiet = subst (λ (x : ℕ). x ≤ 0) c.number-refusal.ensures c.if-refusal-gt0.false in
    let room = listed_room st go busy _ _ hl hm done.result.hint done.result.task done.ensures.ran done.ensures.same
    done.ensures.known quiet (sym c.is_kept.ensures ∙ c.if-is_kept.true) in
    omega (arith, st.counts_long)

pub overflow_add-at : goal.overflow_add-at
overflow_add-at c =
    let st = c.loop-k.invariant in
    let go = c.if-s-steps.true in
    let busy = c.if-s-gt0.true in
    let few = st.walking.machine.turned.few in
    let hl = c.run-stop.auto.cells ∙ st.cells_long in
    let hm = c.run-stop.auto.marks ∙
    st.marks_long in
    let done = c.run-stop in
    let quiet = subst (λ (x : ℕ). x ≤ 0) c.number-refusal.ensures
    c.if-refusal-gt0.false in
    let room = listed_room st go busy _ _ hl hm done.result.hint done.result.task done.ensures.ran done.ensures.same
    done.ensures.known quiet (sym c.is_kept.ensures ∙ c.if-is_kept.true) in
    omega (arith, st.counts_long)

pub copy-requires : goal.copy-requires
copy-requires c =
    let st = c.loop-k.invariant in
    let go = c.if-s-steps.true in
    let busy = c.if-s-gt0.true in
    let few = st.walking.machine.turned.few in
    let hl = c.run-stop.auto.cells ∙ st.cells_long in
    let hm = c.run-stop.auto.marks ∙
    st.marks_long in
    let done = c.run-stop in
    let quiet = subst (λ (x : ℕ). x ≤ 0) c.number-refusal.ensures
    c.if-refusal-gt0.false in
    let room = listed_room st go busy _ _ hl hm done.result.hint done.result.task done.ensures.ran done.ensures.same
    done.ensures.known quiet (sym c.is_kept.ensures ∙ c.if-is_kept.true) in
    (hl, (hm, (omega arith, omega arith)))

pub overflow_add-counts-then-is_kept : goal.overflow_add-counts-then-is_kept
overflow_add-counts-then-is_kept c =
    let st = c.loop-k.invariant in
    let go = c.if-s-steps.true in
    let busy = c.if-s-gt0.true in
    let few = st.walking.machine.turned.few in
    let hl = c.run-stop.auto.cells ∙ st.cells_long in
    let hm = c.run-stop.auto.marks ∙ st.marks_long in
    let done = c.run-stop in
    let quiet = subst (λ (x : ℕ). x ≤ 0) c.number-refusal.ensures c.if-refusal-gt0.false in
    let room = listed_room st go busy _ _ hl hm done.result.hint done.result.task done.ensures.ran done.ensures.same
    done.ensures.known quiet (sym c.is_kept.ensures ∙ c.if-is_kept.true) in
    omega (arith, st.counts_long)

pub offset_bounds-counts-at-then-is_kept : goal.offset_bounds-counts-at-then-is_kept
offset_bounds-counts-at-then-is_kept c =
    let st = c.loop-k.invariant in
    let go = c.if-s-steps.true in
    let busy = c.if-s-gt0.true in
    let few = st.walking.machine.turned.few in
    let hl = c.run-stop.auto.cells ∙ st.cells_long in
    let hm = c.run-stop.auto.marks ∙ st.marks_long in
    let done = c.run-stop in
    let quiet = subst (λ (x : ℕ). x ≤ 0) c.number-refusal.ensures c.if-refusal-gt0.false in
    let room = listed_room st go busy _ _ hl hm done.result.hint done.result.task done.ensures.ran done.ensures.same
    done.ensures.known quiet (sym c.is_kept.ensures ∙ c.if-is_kept.true) in
    omega (arith, st.counts_long)

pub bounds-counts-at-then-is_kept : goal.bounds-counts-at-then-is_kept
bounds-counts-at-then-is_kept c =
    let st = c.loop-k.invariant in
    let go = c.if-s-steps.true in
    let busy = c.if-s-gt0.true in
    let few = st.walking.machine.turned.few in
    let hl = c.run-stop.auto.cells ∙ st.cells_long in
    let hm = c.run-stop.auto.marks ∙ st.marks_long in
    let done = c.run-stop in
    let quiet = subst (λ (x : ℕ). x ≤ 0) c.number-refusal.ensures c.if-refusal-gt0.false in
    let room = listed_room st go busy _ _ hl hm done.result.hint done.result.task done.ensures.ran done.ensures.same
    done.ensures.known quiet (sym c.is_kept.ensures ∙ c.if-is_kept.true) in
    omega (arith, st.counts_long)

pub overflow_add-hints : goal.overflow_add-hints
overflow_add-hints c =
    let st = c.loop-k.invariant in
    let go = c.if-s-steps.true in
    let busy = c.if-s-gt0.true in
    let few = st.walking.machine.turned.few in
    let hl = c.run-stop.auto.cells ∙ st.cells_long in
    let hm = c.run-stop.auto.marks ∙ st.marks_long in
    let done = c.run-stop in
    let quiet = subst (λ (x : ℕ). x ≤ 0) c.number-refusal.ensures c.if-refusal-gt0.false in
    let room = listed_room st go busy _ _ hl hm done.result.hint done.result.task done.ensures.ran done.ensures.same
    done.ensures.known quiet (sym c.is_kept.ensures ∙ c.if-is_kept.true) in
    omega (arith, st.counts_long)

pub offset_bounds-hints-at-then-is_kept : goal.offset_bounds-hints-at-then-is_kept
offset_bounds-hints-at-then-is_kept c =
    let st = c.loop-k.invariant in
    let go = c.if-s-steps.true in
    let busy = c.if-s-gt0.true in
    let few = st.walking.machine.turned.few in
    let hl = c.run-stop.auto.cells ∙ st.cells_long in
    let hm = c.run-stop.auto.marks ∙ st.marks_long in
    let done = c.run-stop in
    let quiet = subst (λ (x : ℕ). x ≤ 0) c.number-refusal.ensures c.if-refusal-gt0.false in
    let room = listed_room st go busy _ _ hl hm done.result.hint done.result.task done.ensures.ran done.ensures.same
    done.ensures.known quiet (sym c.is_kept.ensures ∙ c.if-is_kept.true) in
    omega (arith, st.counts_long)

pub bounds-hints-at-then-is_kept : goal.bounds-hints-at-then-is_kept
bounds-hints-at-then-is_kept c =
    let st = c.loop-k.invariant in
    let go = c.if-s-steps.true in
    let busy = c.if-s-gt0.true in
    let few = st.walking.machine.turned.few in
    let hl = c.run-stop.auto.cells ∙ st.cells_long in
    let hm = c.run-stop.auto.marks ∙ st.marks_long in
    let done = c.run-stop in
    let quiet = subst (λ (x : ℕ). x ≤ 0) c.number-refusal.ensures c.if-refusal-gt0.false in
    let room = listed_room st go busy _ _ hl hm done.result.hint done.result.task done.ensures.ran done.ensures.same
    done.ensures.known quiet (sym c.is_kept.ensures ∙ c.if-is_kept.true) in
    omega (arith, st.counts_long)

pub copy-requires-then-is_kept : goal.copy-requires-then-is_kept
copy-requires-then-is_kept c =
    let st = c.loop-k.invariant in
    let go = c.if-s-steps.true in
    let busy = c.if-s-gt0.true in
    let few = st.walking.machine.turned.few in
    let hl = c.run-stop.auto.cells ∙ st.cells_long in
    let hm = c.run-stop.auto.marks ∙ st.marks_long in
    let done = c.run-stop in
    let quiet = subst (λ (x : ℕ). x ≤ 0) c.number-refusal.ensures c.if-refusal-gt0.false in
    let room = listed_room st go busy _ _ hl hm done.result.hint done.result.task done.ensures.ran done.ensures.same
    done.ensures.known quiet (sym c.is_kept.ensures ∙ c.if-is_kept.true) in
    (c.copy.auto.cells ∙ hl, (c.copy.auto.marks ∙ hm, (omega arith, omega arith)))

pub offset_bounds-counts-at-then-is_kept-2 : goal.offset_bounds-counts-at-then-is_kept-2
offset_bounds-counts-at-then-is_kept-2 c =
    let st = c.loop-k.invariant in
    let go = c.if-s-steps.true in
    let busy = c.if-s-gt0.true in
    let few = st.walking.machine.turned.few in
    let hl = c.run-stop.auto.cells ∙ st.cells_long in
    let hm = c.run-stop.auto.marks ∙ st.marks_long in
    let done = c.run-stop in
    let quiet = subst (λ (x : ℕ). x ≤ 0) c.number-refusal.ensures c.if-refusal-gt0.false in
    let room = listed_room st go busy _ _ hl hm done.result.hint done.result.task done.ensures.ran done.ensures.same
    done.ensures.known quiet (sym c.is_kept.ensures ∙ c.if-is_kept.true) in
    omega (arith, st.counts_long)

pub bounds-counts-at-then-is_kept-2 : goal.bounds-counts-at-then-is_kept-2
bounds-counts-at-then-is_kept-2 c =
    let st = c.loop-k.invariant in
    let go = c.if-s-steps.true in
    let busy = c.if-s-gt0.true in
    let few = st.walking.machine.turned.few in
    let hl = c.run-stop.auto.cells ∙ st.cells_long in
    let hm = c.run-stop.auto.marks ∙ st.marks_long in
    let done = c.run-stop in
    let quiet = subst (λ (x : ℕ). x ≤ 0) c.number-refusal.ensures c.if-refusal-gt0.false in
    let room = listed_room st go busy _ _ hl hm done.result.hint done.result.task done.ensures.ran done.ensures.same
    done.ensures.known quiet (sym c.is_kept.ensures ∙ c.if-is_kept.true) in
    simp length-set (omega (arith, st.counts_long))

pub offset_bounds-hints-at-then-is_kept-2 : goal.offset_bounds-hints-at-then-is_kept-2
offset_bounds-hints-at-then-is_kept-2 c =
    let st = c.loop-k.invariant in
    let go = c.if-s-steps.true in
    let busy = c.if-s-gt0.true in
    let few = st.walking.machine.turned.few in
    let hl = c.run-stop.auto.cells ∙ st.cells_long in
    let hm = c.run-stop.auto.marks ∙ st.marks_long in
    let done = c.run-stop in
    let quiet = subst (λ (x : ℕ). x ≤ 0) c.number-refusal.ensures c.if-refusal-gt0.false in
    let room = listed_room st go busy _ _ hl hm done.result.hint done.result.task done.ensures.ran done.ensures.same
    done.ensures.known quiet (sym c.is_kept.ensures ∙ c.if-is_kept.true) in
    omega (arith, st.counts_long)

pub bounds-hints-at-then-is_kept-2 : goal.bounds-hints-at-then-is_kept-2
bounds-hints-at-then-is_kept-2 c =
    let st = c.loop-k.invariant in
    let go = c.if-s-steps.true in
    let busy = c.if-s-gt0.true in
    let few = st.walking.machine.turned.few in
    let hl = c.run-stop.auto.cells ∙ st.cells_long in
    let hm = c.run-stop.auto.marks ∙ st.marks_long in
    let done = c.run-stop in
    let quiet = subst (λ (x : ℕ). x ≤ 0) c.number-refusal.ensures c.if-refusal-gt0.false in
    let room = listed_room st go busy _ _ hl hm done.result.hint done.result.task done.ensures.ran done.ensures.same
    done.ensures.known quiet (sym c.is_kept.ensures ∙ c.if-is_kept.true) in
    omega (arith, st.counts_long)

pub listed-s-requires : goal.listed-s-requires
listed-s-requires c =
    let st = c.loop-k.invariant in
    let go = c.if-s-steps.true in
    let busy = c.if-s-gt0.true in
    let few = st.walking.machine.turned.few in
    let hl = c.run-stop.auto.cells ∙ st.cells_long in
    let hm = c.run-stop.auto.marks ∙ st.marks_long in
    let done = c.run-stop in
    let quiet = subst (λ (x : ℕ). x ≤ 0) c.number-refusal.ensures c.if-refusal-gt0.false in
    let room = listed_room st go busy _ _ hl hm done.result.hint done.result.task done.ensures.ran done.ensures.same
    done.ensures.known quiet (sym c.is_kept.ensures ∙ c.if-is_kept.true) in
    room

pub loop-k-smaller-then-is_kept : goal.loop-k-smaller-then-is_kept
unfolding sheet_in
loop-k-smaller-then-is_kept c =
    let st = c.loop-k.invariant in
    let go = c.if-s-steps.true in
    let busy = c.if-s-gt0.true in
    let few = st.walking.machine.turned.few in
    let hl = c.run-stop.auto.cells ∙ st.cells_long in
    let hm = c.run-stop.auto.marks ∙ st.marks_long in
    let done = c.run-stop in
    let quiet = subst (λ (x : ℕ). x ≤ 0) c.number-refusal.ensures c.if-refusal-gt0.false in
    (stopped_listed st go busy _ _ hl hm done.result.hint done.result.task done.ensures.ran done.ensures.same
    done.ensures.known quiet (sym c.is_kept.ensures ∙ c.if-is_kept.true) _ _
    (c.copy-then-is_kept.auto.cells ∙ c.copy.auto.cells ∙ hl)
    (c.copy-then-is_kept.auto.marks ∙ c.copy.auto.marks ∙ hm) _ c.copy.ensures
    c.copy-then-is_kept.ensures _ c.listed-s.ensures).1

pub loop-k-preserved-then-is_kept : goal.loop-k-preserved-then-is_kept
unfolding sheet_in
loop-k-preserved-then-is_kept c =
    let st = c.loop-k.invariant in
    let go = c.if-s-steps.true in
    let busy = c.if-s-gt0.true in
    let few = st.walking.machine.turned.few in
    let hl = c.run-stop.auto.cells ∙ st.cells_long in
    let hm = c.run-stop.auto.marks ∙ st.marks_long in
    let done = c.run-stop in
    let quiet = subst (λ (x : ℕ). x ≤ 0) c.number-refusal.ensures c.if-refusal-gt0.false in
    (stopped_listed st go busy _ _ hl hm done.result.hint done.result.task done.ensures.ran done.ensures.same
    done.ensures.known quiet (sym c.is_kept.ensures ∙ c.if-is_kept.true) _ _
    (c.copy-then-is_kept.auto.cells ∙ c.copy.auto.cells ∙ hl)
    (c.copy-then-is_kept.auto.marks ∙ c.copy.auto.marks ∙ hm) _ c.copy.ensures
    c.copy-then-is_kept.ensures _ c.listed-s.ensures).0

pub loop-k-smaller-else-is_kept : goal.loop-k-smaller-else-is_kept
unfolding sheet_in
loop-k-smaller-else-is_kept c =
    let st = c.loop-k.invariant in
    let go = c.if-s-steps.true in
    let busy = c.if-s-gt0.true in
    let few = st.walking.machine.turned.few in
    let hl = c.run-stop.auto.cells ∙ st.cells_long in
    let hm = c.run-stop.auto.marks ∙ st.marks_long in
    let done = c.run-stop in
    let quiet = subst (λ (x : ℕ). x ≤ 0) c.number-refusal.ensures c.if-refusal-gt0.false in
    (stopped_dropped st go busy _ _ hl hm done.result.hint done.result.task done.ensures.ran done.ensures.same
    done.ensures.known quiet (sym c.is_split.ensures ∙ c.if-is_split.false)
    (sym c.is_kept.ensures ∙ c.if-is_kept.false) _
    c.dropped-s.ensures).1

pub loop-k-preserved-else-is_kept : goal.loop-k-preserved-else-is_kept
unfolding sheet_in
loop-k-preserved-else-is_kept c =
    let st = c.loop-k.invariant in
    let go = c.if-s-steps.true in
    let busy = c.if-s-gt0.true in
    let few = st.walking.machine.turned.few in
    let hl = c.run-stop.auto.cells ∙ st.cells_long in
    let hm = c.run-stop.auto.marks ∙ st.marks_long in
    let done = c.run-stop in
    let quiet = subst (λ (x : ℕ). x ≤ 0) c.number-refusal.ensures c.if-refusal-gt0.false in
    (stopped_dropped st go busy _ _ hl hm done.result.hint done.result.task done.ensures.ran done.ensures.same
    done.ensures.known quiet (sym c.is_split.ensures ∙ c.if-is_split.false)
    (sym c.is_kept.ensures ∙ c.if-is_kept.false) _
    c.dropped-s.ensures).0

pub offset_bounds-steps-j : goal.offset_bounds-steps-j
offset_bounds-steps-j c =
    let loop = c.loop-k in
    let st = loop.invariant in
    let go = c.if-s-steps.true in
    let idle : loop.s.depth ≤ 0 = omega (arith, c.if-s-gt0.false) in
    let step = get_or loop.steps.list loop.s.j no_step in
    omega (arith, go, st.walking.counted, st.walking.machine.most)

pub bounds-steps-j : goal.bounds-steps-j
bounds-steps-j c =
    let loop = c.loop-k in
    let st = loop.invariant in
    let go = c.if-s-steps.true in
    let idle : loop.s.depth ≤ 0 = omega (arith, c.if-s-gt0.false) in
    let step = get_or loop.steps.list loop.s.j no_step in
    omega (arith, go, st.walking.counted, st.walking.machine.most)

pub place_of-from-requires : goal.place_of-from-requires
place_of-from-requires c =
    let loop = c.loop-k in
    let st = loop.invariant in
    let go = c.if-s-steps.true in
    let idle : loop.s.depth ≤ 0 = omega (arith, c.if-s-gt0.false) in
    let step = get_or loop.steps.list loop.s.j no_step in
    let more = c.if-x-s.true in
    let few = in_list st go idle step refl more in
    few

pub offset_bounds-counts-from : goal.offset_bounds-counts-from
offset_bounds-counts-from c =
    let loop = c.loop-k in
    let st = loop.invariant in
    let go = c.if-s-steps.true in
    let idle : loop.s.depth ≤ 0 = omega (arith, c.if-s-gt0.false) in
    let step = get_or loop.steps.list loop.s.j no_step in
    let more = c.if-x-s.true in
    let few = in_list st go idle step refl more in
    let there = c.place_of-from.ensures in
    let small = from_few st go idle step refl more in
    omega (arith, st.counts_long)

pub bounds-counts-from : goal.bounds-counts-from
bounds-counts-from c =
    let loop = c.loop-k in
    let st = loop.invariant in
    let go = c.if-s-steps.true in
    let idle : loop.s.depth ≤ 0 = omega (arith, c.if-s-gt0.false) in
    let step = get_or loop.steps.list loop.s.j no_step in
    let more = c.if-x-s.true in
    let few = in_list st go idle step refl more in
    let there = c.place_of-from.ensures in
    let small = from_few st go idle step refl more in
    omega (arith, st.counts_long)

pub offset_bounds-hints-from : goal.offset_bounds-hints-from
offset_bounds-hints-from c =
    let loop = c.loop-k in
    let st = loop.invariant in
    let go = c.if-s-steps.true in
    let idle : loop.s.depth ≤ 0 = omega (arith, c.if-s-gt0.false) in
    let step = get_or loop.steps.list loop.s.j no_step in
    let more = c.if-x-s.true in
    let few = in_list st go idle step refl more in
    let there = c.place_of-from.ensures in
    let small = from_few st go idle step refl more in
    omega (arith, st.counts_long)

pub bounds-hints-from : goal.bounds-hints-from
bounds-hints-from c =
    let loop = c.loop-k in
    let st = loop.invariant in
    let go = c.if-s-steps.true in
    let idle : loop.s.depth ≤ 0 = omega (arith, c.if-s-gt0.false) in
    let step = get_or loop.steps.list loop.s.j no_step in
    let more = c.if-x-s.true in
    let few = in_list st go idle step refl more in
    let there = c.place_of-from.ensures in
    let small = from_few st go idle step refl more in
    omega (arith, st.counts_long)

pub stay-stood-requires : goal.stay-stood-requires
unfolding sheet_in
stay-stood-requires c =
    let loop = c.loop-k in
    let st = loop.invariant in
    let go = c.if-s-steps.true in
    let idle : loop.s.depth ≤ 0 = omega (arith, c.if-s-gt0.false) in
    let step = get_or loop.steps.list loop.s.j no_step in
    let more = c.if-x-s.true in
    let few = in_list st go idle step refl more in
    let there = c.place_of-from.ensures in
    let small = from_few st go idle step refl more in record {
      cells_len = (st.cells_long, (st.marks_long, (omega arith, st.few _)));
      known = (hinted_at st go idle step refl more _ there).trusted;
    }

pub offset_bounds-hints-x : goal.offset_bounds-hints-x
offset_bounds-hints-x c =
    let loop = c.loop-k in
    let st = loop.invariant in
    let go = c.if-s-steps.true in
    let idle : loop.s.depth ≤ 0 = omega (
      arith,
      c.if-s-gt0.false,
    ) in
    let step = get_or loop.steps.list loop.s.j no_step in
    let more = c.if-x-s.true in
    let few = in_list st go idle step refl more in
    omega arith

pub bounds-hints-x : goal.bounds-hints-x
bounds-hints-x c =
    let loop = c.loop-k in
    let st = loop.invariant in
    let go = c.if-s-steps.true in
    let idle : loop.s.depth ≤ 0 = omega (
      arith,
      c.if-s-gt0.false,
    ) in
    let step = get_or loop.steps.list loop.s.j no_step in
    let more = c.if-x-s.true in
    let few = in_list st go idle step refl more in
    omega arith

pub passed_by-s-requires : goal.passed_by-s-requires
passed_by-s-requires c =
    let loop = c.loop-k in
    let st = loop.invariant in
    let go = c.if-s-steps.true in
    let idle : loop.s.depth ≤ 0 = omega (
      arith,
      c.if-s-gt0.false,
    ) in
    let step = get_or loop.steps.list loop.s.j no_step in
    let more = c.if-x-s.true in
    let few = in_list st go idle step refl more in
    let there = c.place_of-from.ensures in
    let stood = c.stay-stood in
    let so = stays_there loop.s.i loop.s.kept refl stood.ensures.so c.if-stood.true in
    (few, omega (arith, so))

pub loop-k-smaller-then-stood : goal.loop-k-smaller-then-stood
unfolding sheet_in
loop-k-smaller-then-stood c =
    let loop = c.loop-k in
    let st = loop.invariant in
    let go = c.if-s-steps.true in
    let idle : loop.s.depth ≤ 0 = omega (
      arith,
      c.if-s-gt0.false,
    ) in
    let step = get_or loop.steps.list loop.s.j no_step in
    let more = c.if-x-s.true in
    let few = in_list st go idle step refl more in
    let there = c.place_of-from.ensures in
    let stood = c.stay-stood in
    (stays_at st go idle step refl more _ there _ _ (c.stay-stood.auto.cells ∙ st.cells_long)
    (c.stay-stood.auto.marks ∙ st.marks_long) stood.result stood.ensures.stays _ refl
    stood.ensures.so c.if-stood.true _ c.passed_by-s.ensures).1

pub loop-k-preserved-then-stood : goal.loop-k-preserved-then-stood
unfolding sheet_in
loop-k-preserved-then-stood c =
    let loop = c.loop-k in
    let st = loop.invariant in
    let go = c.if-s-steps.true in
    let idle : loop.s.depth ≤ 0 = omega (
      arith,
      c.if-s-gt0.false,
    ) in
    let step = get_or loop.steps.list loop.s.j no_step in
    let more = c.if-x-s.true in
    let few = in_list st go idle step refl more in
    let there = c.place_of-from.ensures in
    let stood = c.stay-stood in
    (stays_at st go idle step refl more _ there _ _ (c.stay-stood.auto.cells ∙ st.cells_long)
    (c.stay-stood.auto.marks ∙ st.marks_long) stood.result stood.ensures.stays _ refl
    stood.ensures.so c.if-stood.true _ c.passed_by-s.ensures).0

pub taken-task-requires : goal.taken-task-requires
taken-task-requires c =
    let loop = c.loop-k in
    let st = loop.invariant in
    let go = c.if-s-steps.true in
    let idle : loop.s.depth ≤ 0 = omega (
      arith,
      c.if-s-gt0.false,
    ) in
    let step = get_or loop.steps.list loop.s.j no_step in
    let more = c.if-x-s.true in
    let few = in_list st go idle step refl more in
    let there = c.place_of-from.ensures in
    let stood = c.stay-stood in
    let small = from_few st go idle step refl more in (
      c.stay-stood.auto.cells ∙ st.cells_long,
      (
        c.stay-stood.auto.marks ∙ st.marks_long,
        omega arith,
      ),
    )

pub bounds-counts-64 : goal.bounds-counts-64
bounds-counts-64 c = omega (
  arith,
  c.loop-k.invariant.counts_long,
)

pub loaded-s-requires : goal.loaded-s-requires
loaded-s-requires c =
    let loop = c.loop-k in
    let st = loop.invariant in
    let go = c.if-s-steps.true in
    let idle : loop.s.depth ≤ 0 = omega (
      arith,
      c.if-s-gt0.false,
    ) in
    let step = get_or loop.steps.list loop.s.j no_step in
    let more = c.if-x-s.true in
    let few = in_list st go idle step refl more in
    let there = c.place_of-from.ensures in
    let stood = c.stay-stood in
    few

pub loop-k-smaller-else-stood : goal.loop-k-smaller-else-stood
unfolding sheet_in
loop-k-smaller-else-stood c =
    let loop = c.loop-k in
    let st = loop.invariant in
    let go = c.if-s-steps.true in
    let idle : loop.s.depth ≤ 0 = omega (
      arith,
      c.if-s-gt0.false,
    ) in
    let step = get_or loop.steps.list loop.s.j no_step in
    let more = c.if-x-s.true in
    let few = in_list st go idle step refl more in
    let there = c.place_of-from.ensures in
    let stood = c.stay-stood in
    let took = c.taken-task in
    let hl = c.stay-stood.auto.cells ∙ st.cells_long in
    let hm = c.stay-stood.auto.marks ∙ st.marks_long in
    let now : asks_c step ≡ true → c.match-asked.guard ≡ guarding_c c.args.ix.clocks (guard_of_c step) =
    λ asks. elim c.match-asked.branch [
      | in-Some w ↦
          w.guard-is ∙ w.of_guard-guard-in-Some.ensures
          ∙ ap (guarding_c c.args.ix.clocks) (asked_is step w.in-Some.asked w.in-Some.ensures).1
      | in_default w ↦ absurd (true≢false (sym asks ∙ asked_not step w.in_default.ensures))
    ] in
    (loaded_at st go idle step refl more _ there _ _ hl hm stood.result stood.ensures.stays
    c.if-stood.false _ _ (c.taken-task.auto.cells ∙ hl) (c.taken-task.auto.marks ∙ hm) took.ensures.placed _ took.ensures.value _
    now _ c.loaded-s.ensures).1

pub loop-k-preserved-else-stood : goal.loop-k-preserved-else-stood
unfolding sheet_in
loop-k-preserved-else-stood c =
    let loop = c.loop-k in
    let st = loop.invariant in
    let go = c.if-s-steps.true in
    let idle : loop.s.depth ≤ 0 = omega (
      arith,
      c.if-s-gt0.false,
    ) in
    let step = get_or loop.steps.list loop.s.j no_step in
    let more = c.if-x-s.true in
    let few = in_list st go idle step refl more in
    let there = c.place_of-from.ensures in
    let stood = c.stay-stood in
    let took = c.taken-task in
    let hl = c.stay-stood.auto.cells ∙ st.cells_long in
    let hm = c.stay-stood.auto.marks ∙ st.marks_long in
    let now : asks_c step ≡ true → c.match-asked.guard ≡ guarding_c c.args.ix.clocks (guard_of_c step) =
    λ asks. elim c.match-asked.branch [
      | in-Some w ↦
          w.guard-is ∙ w.of_guard-guard-in-Some.ensures
          ∙ ap (guarding_c c.args.ix.clocks) (asked_is step w.in-Some.asked w.in-Some.ensures).1
      | in_default w ↦ absurd (true≢false (sym asks ∙ asked_not step w.in_default.ensures))
    ] in
    (loaded_at st go idle step refl more _ there _ _ hl hm stood.result stood.ensures.stays
    c.if-stood.false _ _ (c.taken-task.auto.cells ∙ hl) (c.taken-task.auto.marks ∙ hm) took.ensures.placed _ took.ensures.value _
    now _ c.loaded-s.ensures).0

pub stepped-s-requires : goal.stepped-s-requires
stepped-s-requires c =
    let loop = c.loop-k in
    let st = loop.invariant in
    let go = c.if-s-steps.true in
    let idle : loop.s.depth ≤ 0 = omega (arith, c.if-s-gt0.false) in
    let step = get_or loop.steps.list loop.s.j no_step in
    omega (arith, go, st.walking.counted, st.walking.machine.most)

pub loop-k-smaller-else-x-s : goal.loop-k-smaller-else-x-s
unfolding sheet_in
loop-k-smaller-else-x-s c =
    let loop = c.loop-k in
    let st = loop.invariant in
    let go = c.if-s-steps.true in
    let idle : loop.s.depth ≤ 0 = omega (arith, c.if-s-gt0.false) in
    let step = get_or loop.steps.list loop.s.j no_step in
    (standing_stepped st go idle step refl c.if-x-s.false _ c.stepped-s.ensures).1

pub loop-k-preserved-else-x-s : goal.loop-k-preserved-else-x-s
unfolding sheet_in
loop-k-preserved-else-x-s c =
    let loop = c.loop-k in
    let st = loop.invariant in
    let go = c.if-s-steps.true in
    let idle : loop.s.depth ≤ 0 = omega (arith, c.if-s-gt0.false) in
    let step = get_or loop.steps.list loop.s.j no_step in
    (standing_stepped st go idle step refl c.if-x-s.false _ c.stepped-s.ensures).0

pub overflow_add-k : goal.overflow_add-k
overflow_add-k c =
    let st = c.loop-k.invariant in
    omega (arith, c.loop-k-test.true, st.walking.most)

pub loop-k-smaller : goal.loop-k-smaller
unfolding sheet_in
loop-k-smaller c =
    let st = c.loop-k.invariant in
    let seg = c.segment_at-next in
    let long : length seg.result.steps.list ≡ 20 = search rules in
    (standing_next st c.if-s-steps.false c.loop-k-test.true seg.result seg.ensures long _ c.begun-s-else-s-steps.ensures).1

pub loop-k-preserved : goal.loop-k-preserved
unfolding sheet_in
loop-k-preserved c =
    let st = c.loop-k.invariant in
    let seg = c.segment_at-next in
    let long : length seg.result.steps.list ≡ 20 = search rules in
    (standing_next st c.if-s-steps.false c.loop-k-test.true seg.result seg.ensures long _ c.begun-s-else-s-steps.ensures).0

pub returns : goal.returns
unfolding sheet_in
returns c = standing_ends c.loop-k.invariant c.loop-k-test.false
