-- Where the walk stands, in cells: the lists of `Walking` place by place.
use Rattle.std.specs.Prelude.{◌≡◌, refl, Bool, true, false, cond, List, [], ◌∷◌, ℕ, zero, suc, ◌+◌, ◌-◌, ◌≤◌, ◌<◌, ltb, eqb, ℤ, pos, length}
use Rattle.std.specs.Prelude.{get_or, set, replicate}
use Rattle.std.proofs.Common.{sym, ap, subst, ◌∙◌, true≢false, arith, eqb-true, ltb-true, ltb-false, le-ltb, length-set, get_or-set_same}
use Rattle.std.proofs.Common.{get_or-set_other, ext_get_or}
use Rattle.std.proofs.lemmas.Bool.{eqb-false}
use Rattle.std.proofs.lemmas.List.{length-replicate, get_or-replicate}
use Rattle.automaton.specs.declared.Location.{Location}
use Rattle.cells.specs.Cells.{Cell, no_cell, cells_in, with_matrix, zone_of, PLACES}
use Rattle.cells.specs.CellLaws as CL
use Rattle.constrain.specs.declared.rule.Rule.{Rule}
use Rattle.expr.specs.Records.{range_list}
use Rattle.expr.specs.declared.range.Ranges.{Ranges}
use Rattle.idle.specs.Idle.{Leaves}
use Rattle.parting.specs.Halves.{yes_cell, no_half, halves_c}
use Rattle.parting.specs.HalfLaws.{no_is, yes_is}
use Rattle.parts.specs.Parts.{is_kept, is_split, with_bounds, yes_c, no_c}
use Rattle.parts.specs.declared.part.Part.{Part}
use Rattle.passing.specs.Machine.{no_step}
use Rattle.passing.specs.State.{begun_c, pushed_c, listed_c, dropped_c, loaded_c, passed_c, stepped_c, number_c, refused_z}
use Rattle.passing.specs.declared.pass.Pass.{Pass}
use Rattle.running.specs.Tasks.{part_with, part_at, rule_at, guarding_c, answered_t}
use Rattle.running.specs.declared.task.Guarding.{Guarding}
use Rattle.running.specs.declared.task.Task.{Task}
use Rattle.segments.specs.Walked.{zones_all}
use Rattle.segments.specs.Segments.{size, Segmented}
use Rattle.segments.specs.declared.segment.Segment.{Segment}
use Rattle.sheet.specs.Lookup.{location_c}
use Rattle.sheet.specs.declared.Sheet.{Sheet}
use Rattle.split.specs.Stack.{no_part, top_live}
use Rattle.split.specs.Trees.{Live, Ran}
use Rattle.steps.specs.Steps.{no_zone, closed, asks_c, guard_of_c, part_c}
use Rattle.steps.specs.Taken.{changed_b, task_c, taken_c, taken_old, taken_other, taken_top, taken_part}
use Rattle.steps.specs.declared.step.Step.{Step}
use Rattle.steps.specs.declared.step.Steps.{Steps}
use Rattle.systems.specs.Boxes.{Narrows}
use Rattle.windows_route.specs.Known.{no_hint, hinted_bounds}
use Rattle.windows_route.specs.Places.{
  no_task,
  zone_in,
  part_at_place,
  stack_of,
  list_of,
  list_long,
  list_at,
  stack_at,
  load_same,
  zeros_at_lem,
  blank_zone_lem,
}
use Rattle.windows_route.specs.Walking.{Walking, Run, Free, way, counted_is, walking_starts, less_next, walking_next, walking_ends}
use Rattle.windows_route.specs.Walking.{refused_ends, room_listed, room_split}
use Rattle.windows_route.specs.Walking.{walking_dropped, walking_listed, walking_split, walking_stepped}
use Rattle.windows_route.specs.Walking.{walking_passed, walking_loaded, taken_spare, taken_list, Taken}
use Rattle.windows_route.specs.Walking.{way_split, way_dropped, way_listed, way_stepped, way_passed, way_loaded}
use Rattle.staying.specs.Stays.{Stays}
use Rattle.staying.specs.declared.Stood.{Stood}
use Rattle.zones.specs.Hinted.{exprs_of, Guessed, Hinted}
use Rattle.zones.specs.Zone.{blank_zone}
use Rattle.zones.specs.declared.hint.Hint.{Hint}
use Rattle.zones.specs.declared.told.Told.TheVariants as kinds
use Rattle.zones.specs.declared.zone.Zone.{Zone}

pub record Standing (s : Sheet) (end : ℕ) (here : Location) (steps : Steps) (l : List ℤ) (m ns : List ℕ) (hs : List Hint) (ts : List Task)
    (ws : List Hint) (g : Guarding) (p : Pass) (k : ℕ) : Type 0 where
  pub cells_long : length l ≡ 22500
  pub marks_long : length m ≡ 2250
  pub counts_long : length ns ≡ 90
  pub hints_long : length hs ≡ 64
  pub tasks_long : length ts ≡ 25
  pub few : (x : ℕ) → get_or ns x 0 ≤ 24
  pub list : List Zone
  pub spare : List Zone
  pub hints : List Hint
  pub spares : List Hint
  pub stack : List Part
  pub rule : Rule
  pub walking : Walking s end here steps list spare hints spares stack ws rule p k
  pub on_list : (x : ℕ) → x < 32 → get_or list x no_zone ≡ zone_in ns (cells_in l m) x
  pub on_spare : (x : ℕ) → x < 32 → get_or spare x no_zone ≡ zone_in ns (cells_in l m) (32 + x)
  pub on_hints : (x : ℕ) → x < 32 → get_or hints x no_hint ≡ get_or hs x no_hint
  pub on_spares : (x : ℕ) → x < 32 → get_or spares x no_hint ≡ get_or hs (32 + x) no_hint
  pub on_stack : (x : ℕ) → x < p.depth → get_or stack x no_part ≡ part_at_place ts ns (cells_in l m) x
  pub on_rule : 0 < p.depth → rule ≡ rule_at (cells_in l m) 89 g

-- ---- what is left of the way
abbrev pub way_in : ℕ → ℕ → Steps → List ℤ → List ℕ → List ℕ → List Task → Pass → ℕ
way_in end k steps l m ns ts p = way end k steps (stack_of ts ns (cells_in l m)) p

way_same : (end k : ℕ) (steps : Steps) (l : List ℤ) (m ns : List ℕ) (ts : List Task) (p : Pass) (stack : List Part) → p.depth ≤ 25
    → ((x : ℕ) → x < p.depth → get_or stack x no_part ≡ part_at_place ts ns (cells_in l m) x)
    → way end k steps stack p ≡ way_in end k steps l m ns ts p
way_same end k steps l m ns ts p stack few h =
    let same = load_same stack (stack_of ts ns (cells_in l m)) p.depth (λ x g. h x g ∙ sym (stack_at ts ns (cells_in l m) x (omega
    arith))) in
    omega arith

-- the way is shorter on the ghost's stack, and so in cells
way_less : (end k k' : ℕ) (steps steps' : Steps) (l l' : List ℤ) (m m' ns ns' : List ℕ) (ts ts' : List Task) (p p' : Pass)
    (stack stack' : List Part) → p.depth ≤ 25 → p'.depth ≤ 25
    → ((x : ℕ) → x < p.depth → get_or stack x no_part ≡ part_at_place ts ns (cells_in l m) x)
    → ((x : ℕ) → x < p'.depth → get_or stack' x no_part ≡ part_at_place ts' ns' (cells_in l' m') x)
    → way end k' steps' stack' p' < way end k steps stack p → way_in end k' steps' l' m' ns' ts' p' < way_in end k steps l m ns ts p
way_less end k k' steps steps' l l' m m' ns ns' ts ts' p p' stack stack' few few' h h' less =
    let a = way_same end k steps l m ns ts p stack few h in
    let b = way_same end k' steps' l' m' ns' ts' p' stack' few' h' in
    omega arith

-- counts stay small
few_set : (ns : List ℕ) (i v : ℕ) → ((x : ℕ) → get_or ns x 0 ≤ 24) → v ≤ 24 → (x : ℕ) → get_or (set ns i v) x 0 ≤ 24
few_set [] i v h few x = h x
few_set (n ∷ ns) zero v h few zero = few
few_set (n ∷ ns) zero v h few (suc x) = h (suc x)
few_set (n ∷ ns) (suc i) v h few zero = h 0
few_set (n ∷ ns) (suc i) v h few (suc x) = few_set ns i v (λ y. h (suc y)) few x

-- a rule of another cell
abbrev rule_of : Guarding → Cell → Rule
rule_of g c = record { clocks = g.clocks; left = g.left; right = g.right; bound = g.bound; old = c.bounds }

-- a place of two lists that both have changed there, or not
module _ (ns ns' : List ℕ) (cs cs' : List Cell) (x : ℕ) where
  pub zone_same : get_or ns' x 0 ≡ get_or ns x 0 → get_or cs' x no_cell ≡ get_or cs x no_cell → zone_in ns cs x ≡ zone_in ns' cs' x
  zone_same a b = sym (λ i. zone_of (a i) (b i))

-- ---- a part is run where it stands
module _ {s : Sheet} {end : ℕ} {here : Location} {steps : Steps} {l : List ℤ} {m ns : List ℕ} {hs : List Hint} {ts : List Task}
    {ws : List Hint} {g : Guarding} {p : Pass} {k : ℕ} (st : Standing s end here steps l m ns hs ts ws g p k) where
  abbrev cs : List Cell
  cs = cells_in l m

  depth_few : p.depth ≤ 25
  depth_few = st.walking.machine.turned.few

  module _ (go : p.j < steps.count) (busy : 0 < p.depth) where
    abbrev d : ℕ
    d = p.depth - 1

    abbrev top : ℕ
    top = 64 + d

    abbrev n : ℕ
    n = get_or ns top 0

    top_part : get_or st.stack d no_part ≡ part_at_place ts ns cs d
    top_part = st.on_stack d (omega arith)

    pub top_hinted : Hinted s.ranges (zone_in ns cs top) (get_or ws d no_hint)
    top_hinted =
        subst (λ (q : Part). Hinted s.ranges q.zone (get_or ws d no_hint)) top_part (st.walking.known.waiting d (omega arith))

    pub top_lives : Live (part_at_place ts ns cs d)
    top_lives =
        subst Live top_part (top_live st.stack p.depth d (omega arith) st.walking.machine.turned.waiting)

    module _ (l' : List ℤ) (m' : List ℕ) (hl : length l' ≡ 22500) (hm : length m' ≡ 2250) (h : Hint) (t : Task)
        (ran : (b : Ranges) → Hinted b (zone_in ns cs top) (get_or ws d no_hint)
        → Ran b (rule_at cs 89 g) (part_at_place ts ns cs d) (part_at (cells_in l' m') top n t))
        (same : cells_in l' m' ≡ set cs top (with_matrix (get_or cs top no_cell) (get_or (cells_in l' m') top no_cell).bounds))
        (known : (b : Ranges) → Hinted b (zone_in ns cs top) (get_or ws d no_hint) → Hinted b (zone_in ns cs top) h) where
      abbrev cs' : List Cell
      cs' = cells_in l' m'

      abbrev q : Part
      q = part_at cs' top n t

      at_top : get_or cs' top no_cell ≡ with_matrix (get_or cs top no_cell) (get_or cs' top no_cell).bounds
      at_top =
          ap (λ (x : List Cell). get_or x top no_cell) same
          ∙ get_or-set_same cs top (with_matrix (get_or cs top no_cell) (get_or cs' top no_cell).bounds) no_cell
          (omega (arith, CL.cells_long l m, depth_few))

      other : (x : ℕ) → (x ≡ top → ⊥) → get_or cs' x no_cell ≡ get_or cs x no_cell
      other x o =
          ap (λ (y : List Cell). get_or y x no_cell) same
          ∙ get_or-set_other cs top x (with_matrix (get_or cs top no_cell) (get_or cs' top no_cell).bounds) no_cell o

      rule_now : st.rule ≡ rule_at cs' 89 g
      rule_now = st.on_rule busy ∙ ap (rule_of g) (sym (other 89 (λ e. omega (arith, depth_few))))

      pub run_of : Run s end here steps st.list st.spare st.hints st.spares st.stack ws st.rule p k h q
      run_of =
          record {
            w = st.walking;
            go = go;
            busy = busy;
            ran = λ b x.
                rw (st.on_rule busy, top_part) (ran b (subst (λ (y : Part). Hinted b y.zone (get_or ws d no_hint)) top_part x));
            same = ap (zone_of n) at_top ∙ ap (λ (y : Part). with_bounds y.zone (get_or cs' top no_cell).bounds) (sym top_part);
            known = λ b x.
                subst (λ (y : Part). Hinted b y.zone h) (sym top_part)
                (known b (subst (λ (y : Part). Hinted b y.zone (get_or ws d no_hint)) top_part x));
          }

      told : Ran s.ranges (rule_at cs 89 g) (part_at_place ts ns cs d) q
      told = ran s.ranges top_hinted

      pub stopped_refused : (r : ℕ) → r ≡ number_c t.halt p.kept → 0 < r → refused_z r p.visit ≡ zones_all s
      stopped_refused = refused_ends run_of

      -- what is below the top
      below : (x : ℕ) → x < d → get_or st.stack x no_part ≡ part_at_place ts ns cs' x
      below x o =
          st.on_stack x (omega arith)
          ∙ ap (part_with (get_or ts x no_task)) (zone_same ns ns cs cs' (64 + x) refl (other (64 + x) (λ e. omega arith)))

      low : (x : ℕ) → x < 64 → zone_in ns cs x ≡ zone_in ns cs' x
      low x o = zone_same ns ns cs cs' x refl (other x (λ e. omega arith))

      module _ (quiet : number_c t.halt p.kept ≤ 0) where
        pub stopped_dropped : is_split t.halt ≡ false → is_kept t.halt ≡ false → (p' : Pass) → p' ≡ dropped_c p
            → Standing s end here steps l' m' ns hs ts ws g p' k × (way_in end k steps l' m' ns ts p' < way_in end k steps l m ns ts p)
        stopped_dropped a c p' e = subst (λ (x : Pass). Standing s end here steps l' m' ns hs ts ws g x k
            × (way_in end k steps l' m' ns ts x < way_in end k steps l m ns ts p)) (sym e) (
              record {
                cells_long = hl;
                marks_long = hm;
                counts_long = st.counts_long;
                hints_long = st.hints_long;
                tasks_long = st.tasks_long;
                few = st.few;
                list = st.list;
                spare = st.spare;
                hints = st.hints;
                spares = st.spares;
                stack = st.stack;
                rule = st.rule;
                walking = walking_dropped run_of quiet a c (dropped_c p) refl;
                on_list = λ x o. st.on_list x o ∙ low x (omega arith);
                on_spare = λ x o. st.on_spare x o ∙ low (32 + x) (omega arith);
                on_hints = st.on_hints;
                on_spares = st.on_spares;
                on_stack = below;
                on_rule = λ o. rule_now;
              },
              way_less end k k steps steps l l' m m' ns ns ts ts p (dropped_c p) st.stack st.stack depth_few (omega (
                arith,
                depth_few,
              ))
                  st.on_stack below (way_dropped run_of (dropped_c p) refl),
            )

        pub listed_room : is_kept t.halt ≡ true → p.kept < 32
        listed_room = room_listed run_of quiet

        -- the part is listed: what stood there is spared
        module _ (kept : is_kept t.halt ≡ true) (l₂ : List ℤ) (m₂ : List ℕ) (hl₂ : length l₂ ≡ 22500) (hm₂ : length m₂ ≡ 2250) (cs₁ : List Cell)
            (e₁ : cs₁ ≡ set cs' (32 + p.kept) (get_or cs' p.kept no_cell))
            (e₂ : cells_in l₂ m₂ ≡ set cs₁ p.kept (get_or cs₁ top no_cell)) where
          abbrev at : ℕ
          at = p.kept

          room : at < 32
          room = listed_room kept

          abbrev cs₂ : List Cell
          cs₂ = cells_in l₂ m₂

          abbrev ns₂ : List ℕ
          ns₂ = set (set ns (32 + at) (get_or ns at 0)) at n

          abbrev hs₂ : List Hint
          hs₂ = set (set hs (32 + at) (get_or hs at no_hint)) at h

          full : length cs' ≡ PLACES
          full = CL.cells_long l' m'

          full₁ : length cs₁ ≡ PLACES
          full₁ = ap length e₁ ∙ length-set cs' (32 + at) (get_or cs' at no_cell) ∙ full

          -- another place
          cell_far : (x : ℕ) → (x ≡ at → ⊥) → (x ≡ 32 + at → ⊥) → get_or cs₂ x no_cell ≡ get_or cs' x no_cell
          cell_far x a b =
              ap (λ (y : List Cell). get_or y x no_cell) e₂
              ∙ get_or-set_other cs₁ at x (get_or cs₁ top no_cell) no_cell a
              ∙ ap (λ (y : List Cell). get_or y x no_cell) e₁
              ∙ get_or-set_other cs' (32 + at) x (get_or cs' at no_cell) no_cell b

          count_far : (x : ℕ) → (x ≡ at → ⊥) → (x ≡ 32 + at → ⊥) → get_or ns₂ x 0 ≡ get_or ns x 0
          count_far x a b =
              get_or-set_other (set ns (32 + at) (get_or ns at 0)) at x n 0 a ∙ get_or-set_other ns (32 + at) x (get_or ns at 0) 0 b

          hint_far : (x : ℕ) → (x ≡ at → ⊥) → (x ≡ 32 + at → ⊥) → get_or hs₂ x no_hint ≡ get_or hs x no_hint
          hint_far x a b =
              get_or-set_other (set hs (32 + at) (get_or hs at no_hint)) at x h no_hint a
              ∙ get_or-set_other hs (32 + at) x (get_or hs at no_hint) no_hint b

          far : (x : ℕ) → (x ≡ at → ⊥) → (x ≡ 32 + at → ⊥) → (x ≡ top → ⊥) → zone_in ns cs x ≡ zone_in ns₂ cs₂ x
          far x a b o = zone_same ns ns₂ cs cs₂ x (count_far x a b) (cell_far x a b ∙ other x o)

          -- the place itself
          here_now : zone_of n (get_or cs' top no_cell) ≡ zone_in ns₂ cs₂ at
          here_now =
              let count : get_or ns₂ at 0 ≡ n =
              get_or-set_same (set ns (32 + at) (get_or ns at 0)) at n 0
              (omega (arith, room, length-set ns (32 + at) (get_or ns at 0), st.counts_long)) in
              let cell : get_or cs₂ at no_cell ≡ get_or cs' top no_cell =
              ap (λ (y : List Cell). get_or y at no_cell) e₂
              ∙ get_or-set_same cs₁ at (get_or cs₁ top no_cell) no_cell (omega (arith, room, full₁))
              ∙ ap (λ (y : List Cell). get_or y top no_cell) e₁
              ∙ get_or-set_other cs' (32 + at) top (get_or cs' at no_cell) no_cell (λ e. omega (arith, room)) in
              sym (λ i. zone_of (count i) (cell i))

          -- what was spared
          spared_now : zone_in ns cs at ≡ zone_in ns₂ cs₂ (32 + at)
          spared_now =
              let count : get_or ns₂ (32 + at) 0 ≡ get_or ns at 0 =
              get_or-set_other (set ns (32 + at) (get_or ns at 0)) at (32 + at) n 0 (λ e. omega arith)
              ∙ get_or-set_same ns (32 + at) (get_or ns at 0) 0 (omega (arith, room, st.counts_long)) in
              let cell : get_or cs₂ (32 + at) no_cell ≡ get_or cs at no_cell =
              ap (λ (y : List Cell). get_or y (32 + at) no_cell) e₂
              ∙ get_or-set_other cs₁ at (32 + at) (get_or cs₁ top no_cell) no_cell (λ e. omega arith)
              ∙ ap (λ (y : List Cell). get_or y (32 + at) no_cell) e₁
              ∙ get_or-set_same cs' (32 + at) (get_or cs' at no_cell) no_cell (omega (arith, room, full))
              ∙ other at (λ e. omega (arith, room)) in
              sym (λ i. zone_of (count i) (cell i))

          abbrev list₂ : List Zone
          list₂ = set st.list at (zone_of n (get_or cs' top no_cell))

          abbrev spare₂ : List Zone
          spare₂ = set st.spare at (get_or st.list at no_zone)

          list_on : (x : ℕ) → x < 32 → (b : Bool) → eqb x at ≡ b → get_or list₂ x no_zone ≡ zone_in ns₂ cs₂ x
          list_on x o true e =
              let same = eqb-true x at e in
              rw same
              (get_or-set_same st.list at (zone_of n (get_or cs' top no_cell)) no_zone (omega (arith, room, st.walking.machine.long)) ∙
              here_now)
          list_on x o false e =
              let apart = eqb-false x at e in
              get_or-set_other st.list at x (zone_of n (get_or cs' top no_cell)) no_zone apart ∙ st.on_list x o
              ∙ far x apart (λ f. omega arith) (λ f. omega arith)

          spare_on : (x : ℕ) → x < 32 → (b : Bool) → eqb x at ≡ b → get_or spare₂ x no_zone ≡ zone_in ns₂ cs₂ (32 + x)
          spare_on x o true e =
              let same = eqb-true x at e in
              rw same
              (get_or-set_same st.spare at (get_or st.list at no_zone) no_zone (omega (arith, room, st.walking.machine.spare_long))
              ∙ st.on_list at room ∙ spared_now)
          spare_on x o false e =
              let apart = eqb-false x at e in
              get_or-set_other st.spare at x (get_or st.list at no_zone) no_zone apart ∙ st.on_spare x o
              ∙ far (32 + x) (λ f. omega (arith, room)) (λ f. apart (omega arith)) (λ f. omega arith)

          hints_on : (x : ℕ) → x < 32 → (b : Bool) → eqb x at ≡ b → get_or (set st.hints at h) x no_hint ≡ get_or hs₂ x no_hint
          hints_on x o true e =
              let same = eqb-true x at e in
              rw same
              (get_or-set_same st.hints at h no_hint (omega (arith, room, st.walking.known.hints_long))
              ∙ sym (get_or-set_same (set hs (32 + at) (get_or hs at no_hint)) at h no_hint
              (omega (arith, room, length-set hs (32 + at) (get_or hs at no_hint), st.hints_long))))
          hints_on x o false e =
              let apart = eqb-false x at e in
              get_or-set_other st.hints at x h no_hint apart ∙ st.on_hints x o ∙ sym (hint_far x apart (λ f. omega arith))

          spares_on : (x : ℕ) → x < 32 → (b : Bool) → eqb x at ≡ b
              → get_or (set st.spares at (get_or st.hints at no_hint)) x no_hint ≡ get_or hs₂ (32 + x) no_hint
          spares_on x o true e =
              let same = eqb-true x at e in
              rw same
              (get_or-set_same st.spares at (get_or st.hints at no_hint) no_hint (omega (arith, room, st.walking.known.spares_long))
              ∙ st.on_hints at room
              ∙ sym (get_or-set_other (set hs (32 + at) (get_or hs at no_hint)) at (32 + at) h no_hint (λ f. omega arith)
              ∙ get_or-set_same hs (32 + at) (get_or hs at no_hint) no_hint (omega (arith, room, st.hints_long))))
          spares_on x o false e =
              let apart = eqb-false x at e in
              get_or-set_other st.spares at x (get_or st.hints at no_hint) no_hint apart ∙ st.on_spares x o
              ∙ sym (hint_far (32 + x) (λ f. omega (arith, room)) (λ f. apart (omega arith)))

          stack_on : (x : ℕ) → x < d → get_or st.stack x no_part ≡ part_at_place ts ns₂ cs₂ x
          stack_on x o =
              st.on_stack x (omega arith)
              ∙ ap (part_with (get_or ts x no_task))
              (far (64 + x) (λ f. omega (arith, room)) (λ f. omega (arith, room)) (λ f. omega arith))

          pub stopped_listed : (p' : Pass) → p' ≡ listed_c p
              → Standing s end here steps l₂ m₂ ns₂ hs₂ ts ws g p' k × (way_in end k steps l₂ m₂ ns₂ ts p' < way_in end k steps l m ns ts p)
          stopped_listed p' e = subst (λ (x : Pass). Standing s end here steps l₂ m₂ ns₂ hs₂ ts ws g x k
              × (way_in end k steps l₂ m₂ ns₂ ts x < way_in end k steps l m ns ts p)) (sym e) (
                record {
                  cells_long = hl₂;
                  marks_long = hm₂;
                  counts_long = length-set (set ns (32 + at) (get_or ns at 0)) at n ∙ length-set ns (32 + at) (get_or ns at 0) ∙ st.counts_long;
                  hints_long = length-set (set hs (32 + at) (get_or hs at no_hint)) at h ∙ length-set hs (32 + at) (get_or hs at no_hint)
                      ∙ st.hints_long;
                  tasks_long = st.tasks_long;
                  few = few_set (set ns (32 + at) (get_or ns at 0)) at n (few_set ns (32 + at) (get_or ns at 0) st.few (st.few at)) (st.few top);
                  list = list₂;
                  spare = spare₂;
                  hints = set st.hints at h;
                  spares = set st.spares at (get_or st.hints at no_hint);
                  stack = st.stack;
                  rule = st.rule;
                  walking = walking_listed run_of quiet kept (listed_c p) refl;
                  on_list = λ x o. list_on x o (eqb x at) refl;
                  on_spare = λ x o. spare_on x o (eqb x at) refl;
                  on_hints = λ x o. hints_on x o (eqb x at) refl;
                  on_spares = λ x o. spares_on x o (eqb x at) refl;
                  on_stack = stack_on;
                  on_rule = λ o. rule_now ∙ ap (rule_of g) (sym (cell_far 89 (λ f. omega (arith, room)) (λ f. omega (arith, room))));
                },
                way_less end k k steps steps l l₂ m m₂ ns ns₂ ts ts p (listed_c p) st.stack st.stack depth_few
                    (omega (arith, depth_few)) st.on_stack stack_on (way_listed run_of (listed_c p) refl),
              )

      -- the part splits
      module _ (f : is_split t.halt ≡ true) where
        pub split_fits : (t.phase < 27) × (n < 24)
        split_fits = let x = told.splits f in (x.0, x.1)

        pub split_deep : p.depth < 25
        split_deep = room_split run_of f

        module _ (l₂ : List ℤ) (m₂ : List ℕ) (hl₂ : length l₂ ≡ 22500) (hm₂ : length m₂ ≡ 2250)
            (e₂ : cells_in l₂ m₂ ≡ halves_c (rule_at cs' 89 g) cs' top n t) (no yes : Hint)
            (nn : Narrows (exprs_of (zone_of (n + 1) (get_or (cells_in l₂ m₂) top no_cell))) (range_list s.ranges) (range_list no.ranges))
            (dn : Guessed (zone_of (n + 1) (get_or (cells_in l₂ m₂) top no_cell)) no) (sn : no.nogoods ≡ h.nogoods)
            (ny : Narrows (exprs_of (zone_of (n + 1) (get_or (cells_in l₂ m₂) (top + 1) no_cell))) (range_list s.ranges)
            (range_list yes.ranges))
            (dy : Guessed (zone_of (n + 1) (get_or (cells_in l₂ m₂) (top + 1) no_cell)) yes) (sy : yes.nogoods ≡ h.nogoods) (ta tb : Task)
            (ha : ta ≡ answered_t t kinds.No) (hb : tb ≡ answered_t t kinds.Yes) where
          abbrev csₛ : List Cell
          csₛ = cells_in l₂ m₂

          abbrev cell : Cell
          cell = get_or cs' top no_cell

          abbrev nsₛ : List ℕ
          nsₛ = set (set ns top (n + 1)) (top + 1) (n + 1)

          abbrev tsₛ : List Task
          tsₛ = set (set ts d ta) (d + 1) tb

          abbrev no_c' : Cell
          no_c' = no_half cell n t

          abbrev yes_c' : Cell
          yes_c' = yes_cell (rule_at cs' 89 g) cell n t

          at_no : get_or csₛ top no_cell ≡ no_c'
          at_no =
              ap (λ (y : List Cell). get_or y top no_cell) e₂
              ∙ get_or-set_other (set cs' top no_c') (top + 1) top yes_c' no_cell (λ e. omega arith)
              ∙ get_or-set_same cs' top no_c' no_cell (omega (arith, CL.cells_long l' m', depth_few))

          at_yes : get_or csₛ (top + 1) no_cell ≡ yes_c'
          at_yes =
              ap (λ (y : List Cell). get_or y (top + 1) no_cell) e₂
              ∙ get_or-set_same (set cs' top no_c') (top + 1) yes_c' no_cell
              (omega (arith, length-set cs' top no_c', CL.cells_long l' m', split_deep))

          cell_apart : (x : ℕ) → (x ≡ top → ⊥) → (x ≡ top + 1 → ⊥) → get_or csₛ x no_cell ≡ get_or cs x no_cell
          cell_apart x a b =
              ap (λ (y : List Cell). get_or y x no_cell) e₂
              ∙ get_or-set_other (set cs' top no_c') (top + 1) x yes_c' no_cell b
              ∙ get_or-set_other cs' top x no_c' no_cell a
              ∙ other x a

          count_apart : (x : ℕ) → (x ≡ top → ⊥) → (x ≡ top + 1 → ⊥) → get_or nsₛ x 0 ≡ get_or ns x 0
          count_apart x a b =
              get_or-set_other (set ns top (n + 1)) (top + 1) x (n + 1) 0 b ∙ get_or-set_other ns top x (n + 1) 0 a

          apart : (x : ℕ) → (x ≡ top → ⊥) → (x ≡ top + 1 → ⊥) → zone_in ns cs x ≡ zone_in nsₛ csₛ x
          apart x a b = zone_same ns nsₛ cs csₛ x (count_apart x a b) (cell_apart x a b)

          count_no : get_or nsₛ top 0 ≡ n + 1
          count_no =
              get_or-set_other (set ns top (n + 1)) (top + 1) top (n + 1) 0 (λ e. omega arith)
              ∙ get_or-set_same ns top (n + 1) 0 (omega (arith, st.counts_long, depth_few))

          count_yes : get_or nsₛ (top + 1) 0 ≡ n + 1
          count_yes =
              get_or-set_same (set ns top (n + 1)) (top + 1) (n + 1) 0
              (omega (arith, length-set ns top (n + 1), st.counts_long, split_deep))

          abbrev no_p : Part
          no_p = part_with (answered_t t kinds.No) (zone_of (n + 1) no_c')

          abbrev yes_p : Part
          yes_p = part_with (answered_t t kinds.Yes) (zone_of (n + 1) yes_c')

          is_no : no_p ≡ no_c st.rule q
          is_no = no_is st.rule cell n t split_fits.1

          is_yes : yes_p ≡ yes_c st.rule q
          is_yes = yes_is (rule_at cs' 89 g) cell n t split_fits.1 ∙ ap (λ (r : Rule). yes_c r q) (sym rule_now)

          abbrev stackₛ : List Part
          stackₛ = set (set st.stack d no_p) (d + 1) yes_p

          stack_long : length st.stack ≡ 25
          stack_long = st.walking.machine.turned.long

          part_no : no_p ≡ part_at_place tsₛ nsₛ csₛ d
          part_no =
              let task : get_or tsₛ d no_task ≡ answered_t t kinds.No =
              get_or-set_other (set ts d ta) (d + 1) d tb no_task (λ e. omega arith)
              ∙ get_or-set_same ts d ta no_task (omega (arith, st.tasks_long, depth_few)) ∙ ha in
              sym (λ i. part_with (task i) (zone_of (count_no i) (at_no i)))

          part_yes : yes_p ≡ part_at_place tsₛ nsₛ csₛ (d + 1)
          part_yes =
              let task : get_or tsₛ (d + 1) no_task ≡ answered_t t kinds.Yes =
              get_or-set_same (set ts d ta) (d + 1) tb no_task (omega (arith, length-set ts d ta, st.tasks_long, split_deep)) ∙ hb in
              let up : top + 1 ≡ 64 + (d + 1) = omega arith in
              sym (λ i. part_with (task i) (zone_of (count_yes i) (at_yes i)))
              ∙ ap (λ (x : ℕ). part_with (get_or tsₛ (d + 1) no_task) (zone_in nsₛ csₛ x)) up

          part_low : (x : ℕ) → x < d → get_or st.stack x no_part ≡ part_at_place tsₛ nsₛ csₛ x
          part_low x o =
              let task : get_or tsₛ x no_task ≡ get_or ts x no_task =
              get_or-set_other (set ts d ta) (d + 1) x tb no_task (λ e. omega arith) ∙ get_or-set_other ts d x ta no_task (λ e. omega arith) in
              st.on_stack x (omega arith)
              ∙ sym (λ i. part_with (task i) (sym (apart (64 + x) (λ e. omega arith) (λ e. omega arith)) i))

          stack_by : (x : ℕ) → x < p.depth + 1 → (a b : Bool) → eqb x (d + 1) ≡ a → eqb x d ≡ b
              → get_or stackₛ x no_part ≡ part_at_place tsₛ nsₛ csₛ x
          stack_by x o true b e u =
              let same = eqb-true x (d + 1) e in
              rw same
              (get_or-set_same (set st.stack d no_p) (d + 1) yes_p no_part
              (omega (arith, length-set st.stack d no_p, stack_long, split_deep)) ∙ part_yes)
          stack_by x o false true e u =
              let same = eqb-true x d u in
              rw same
              (get_or-set_other (set st.stack d no_p) (d + 1) d yes_p no_part (λ f. omega arith)
              ∙ get_or-set_same st.stack d no_p no_part (omega (arith, stack_long, depth_few)) ∙ part_no)
          stack_by x o false false e u =
              let a = eqb-false x (d + 1) e in
              let b = eqb-false x d u in
              get_or-set_other (set st.stack d no_p) (d + 1) x yes_p no_part a ∙ get_or-set_other st.stack d x no_p no_part b
              ∙ part_low x (less x o a b)
            where
              less : (x : ℕ) → x < p.depth + 1 → (x ≡ d + 1 → ⊥) → (x ≡ d → ⊥) → x < d
              less x o a b = omega (arith, a, b)

          stack_split : (x : ℕ) → x < p.depth + 1 → get_or stackₛ x no_part ≡ part_at_place tsₛ nsₛ csₛ x
          stack_split x o = stack_by x o (eqb x (d + 1)) (eqb x d) refl refl

          narrow_no : Narrows (exprs_of (zone_of (n + 1) no_c')) (range_list s.ranges) (range_list no.ranges)
          narrow_no =
              subst (λ (c : Cell). Narrows (exprs_of (zone_of (n + 1) c)) (range_list s.ranges) (range_list no.ranges)) at_no nn

          narrow_yes : Narrows (exprs_of (zone_of (n + 1) yes_c')) (range_list s.ranges) (range_list yes.ranges)
          narrow_yes =
              subst (λ (c : Cell). Narrows (exprs_of (zone_of (n + 1) c)) (range_list s.ranges) (range_list yes.ranges)) at_yes ny

          held_no : Guessed (zone_of (n + 1) (get_or csₛ top no_cell)) no → Guessed (zone_of (n + 1) no_c') no
          held_no = subst (λ (c : Cell). Guessed (zone_of (n + 1) c) no) at_no

          held_yes : Guessed (zone_of (n + 1) (get_or csₛ (top + 1) no_cell)) yes → Guessed (zone_of (n + 1) yes_c') yes
          held_yes = subst (λ (c : Cell). Guessed (zone_of (n + 1) c) yes) at_yes

          pub stopped_split : (p' : Pass) → p' ≡ pushed_c p
              → Standing s end here steps l₂ m₂ nsₛ hs tsₛ (set (set ws d no) (d + 1) yes) g p' k
              × (way_in end k steps l₂ m₂ nsₛ tsₛ p' < way_in end k steps l m ns ts p)
          stopped_split p' e = subst (λ (x : Pass). Standing s end here steps l₂ m₂ nsₛ hs tsₛ (set (set ws d no) (d + 1) yes) g x k
              × (way_in end k steps l₂ m₂ nsₛ tsₛ x < way_in end k steps l m ns ts p)) (sym e) (
                record {
                  cells_long = hl₂;
                  marks_long = hm₂;
                  counts_long = length-set (set ns top (n + 1)) (top + 1) (n + 1) ∙ length-set ns top (n + 1) ∙ st.counts_long;
                  hints_long = st.hints_long;
                  tasks_long = length-set (set ts d ta) (d + 1) tb ∙ length-set ts d ta ∙ st.tasks_long;
                  few = few_set (set ns top (n + 1)) (top + 1) (n + 1) (few_set ns top (n + 1) st.few (omega (arith, split_fits.1)))
                      (omega (arith, split_fits.1));
                  list = st.list;
                  spare = st.spare;
                  hints = st.hints;
                  spares = st.spares;
                  stack = stackₛ;
                  rule = st.rule;
                  walking = walking_split run_of f no_p yes_p is_no is_yes no yes narrow_no (held_no dn) sn narrow_yes (held_yes dy) sy
                      (pushed_c p) refl;
                  on_list = λ x o. st.on_list x o ∙ apart x (λ u. omega arith) (λ u. omega arith);
                  on_spare = λ x o. st.on_spare x o ∙ apart (32 + x) (λ u. omega arith) (λ u. omega arith);
                  on_hints = st.on_hints;
                  on_spares = st.on_spares;
                  on_stack = stack_split;
                  on_rule = λ o. st.on_rule busy
                      ∙ ap (rule_of g) (sym (cell_apart 89 (λ u. omega (arith, depth_few)) (λ u. omega (arith, split_deep))));
                },
                way_less end k k steps steps l l₂ m m₂ ns nsₛ ts tsₛ p (pushed_c p) st.stack stackₛ depth_few
                    (omega (arith, split_deep)) st.on_stack stack_split (way_split run_of f no_p yes_p is_no is_yes (pushed_c p) refl),
              )

-- ---- no part waits
module _ {s : Sheet} {end : ℕ} {here : Location} {steps : Steps} {l : List ℤ} {m ns : List ℕ} {hs : List Hint} {ts : List Task}
    {ws : List Hint} {g : Guarding} {p : Pass} {k : ℕ} (st : Standing s end here steps l m ns hs ts ws g p k) where
  deep_few : p.depth ≤ 25
  deep_few = st.walking.machine.turned.few

  none_waits : (p' : Pass) → p'.depth ≤ 0 → (x : ℕ) → x < p'.depth → get_or st.stack x no_part ≡ part_at_place ts ns (cells_in l m) x
  none_waits p' h x o = absurd (omega arith)

  -- the walk stands as before, but for the pass
  again : {steps' : Steps} {here' : Location} (p' : Pass) (k' : ℕ) → p'.depth ≤ 0
      → Walking s end here' steps' st.list st.spare st.hints st.spares st.stack ws st.rule p' k'
      → way end k' steps' st.stack p' < way end k steps st.stack p
      → Standing s end here' steps' l m ns hs ts ws g p' k' × (way_in end k' steps' l m ns ts p' < way_in end k steps l m ns ts p)
  again {steps'} p' k' none w less = (
    record {
      cells_long = st.cells_long;
      marks_long = st.marks_long;
      counts_long = st.counts_long;
      hints_long = st.hints_long;
      tasks_long = st.tasks_long;
      few = st.few;
      list = st.list;
      spare = st.spare;
      hints = st.hints;
      spares = st.spares;
      stack = st.stack;
      rule = st.rule;
      walking = w;
      on_list = st.on_list;
      on_spare = st.on_spare;
      on_hints = st.on_hints;
      on_spares = st.on_spares;
      on_stack = none_waits p' none;
      on_rule = λ o. absurd (omega arith);
    },
    way_less end k k' steps steps' l l m m ns ns ts ts p p' st.stack st.stack deep_few (omega arith) st.on_stack
        (none_waits p' none) less,
  )

  -- behind a segment
  pub standing_next : steps.count ≤ p.j → k < end → (next : Segment) → Segmented s (k + 1) here next → length next.steps.list ≡ 20
      → (p' : Pass) → p' ≡ begun_c p.visit p.n
      → Standing s end next.there next.steps l m ns hs ts ws g p' (k + 1)
      × (way_in end (k + 1) next.steps l m ns ts p' < way_in end k steps l m ns ts p)
  standing_next over go next seg long p' e =
      subst
      (λ (x : Pass).
      Standing s end next.there next.steps l m ns hs ts ws g x (k + 1)
      × (way_in end (k + 1) next.steps l m ns ts x < way_in end k steps l m ns ts p))
      (sym e)
      (again (begun_c p.visit p.n) (k + 1) (omega arith)
      (walking_next s end here steps st.list st.spare st.hints st.spares st.stack ws st.rule p k st.walking over
      go next
      seg long)
      (less_next end k steps next.steps st.stack p go seg.few st.walking.machine.few
      (sym (counted_is next.steps seg.few long))))

  -- behind the last one
  pub standing_ends : end ≤ k
      → closed (record { refusal = 0; visit = p.visit; count = p.n; list = list_of ns (cells_in l m) }) ≡ zones_all s
  standing_ends h =
      ap (λ (x : List Zone). closed (record { refusal = 0; visit = p.visit; count = p.n; list = x })) same
      ∙ walking_ends s end here steps st.list st.spare st.hints st.spares st.stack ws st.rule p k st.walking h
    where
      same : list_of ns (cells_in l m) ≡ st.list
      same =
          ext_get_or no_zone (list_of ns (cells_in l m)) st.list (list_long ns (cells_in l m) ∙ sym st.walking.machine.long)
          (λ x o.
          let few : x < 32 = omega (arith, list_long ns (cells_in l m)) in
          list_at ns (cells_in l m) x few ∙ sym (st.on_list x few))

  module _ (go : p.j < steps.count) (idle : p.depth ≤ 0) (step : Step) (hs' : step ≡ get_or steps.list p.j no_step) where
    free : Free s end here steps st.list st.spare st.hints st.spares st.stack ws st.rule p k step
    free = record { w = st.walking; go = go; idle = idle; step = hs' }

    pub standing_stepped : p.n ≤ p.i → (p' : Pass) → p' ≡ stepped_c p step
        → Standing s end here steps l m ns hs ts ws g p' k × (way_in end k steps l m ns ts p' < way_in end k steps l m ns ts p)
    standing_stepped over p' e =
        subst
        (λ (x : Pass).
        Standing s end here steps l m ns hs ts ws g x k × (way_in end k steps l m ns ts x < way_in end k steps l m ns ts p))
        (sym e)
        (again (stepped_c p step) k (omega arith) (walking_stepped free over (stepped_c p step) refl) (way_stepped free (stepped_c p step)
        refl))

    module _ (more : p.i < p.n) where
      pub in_list : p.i < 32
      in_list = omega (arith, st.walking.machine.few)

      abbrev from : ℕ
      from = cond (ltb p.i p.kept) (32 + p.i) p.i

      pub from_few : from < 64
      from_few = by (ltb p.i p.kept)
        where
          by : (b : Bool) → cond b (32 + p.i) p.i < 64
          by true = omega (arith, in_list)
          by false = omega (arith, in_list)

      -- what is left of it stays where it stands
      module _ (there : p.i ≡ p.kept) (l₂ : List ℤ) (m₂ : List ℕ) (hl₂ : length l₂ ≡ 22500) (hm₂ : length m₂ ≡ 2250) (o : Stood)
          (is : Stays (cells_in l m) (cells_in l₂ m₂) p.i s.clocks step (get_or ns p.i 0) (get_or hs p.i no_hint) o)
          (kept : o.kept ≡ true) where
        abbrev spot : ℕ
        spot = p.kept

        abbrev left : Zone
        left = zone_in ns (cells_in l₂ m₂) p.i

        few_kept : spot < 32
        few_kept = omega (arith, in_list)

        known_before : Hinted s.ranges (zone_in ns (cells_in l m) p.i) (get_or hs p.i no_hint)
        known_before =
            subst (λ (z : Zone). Hinted s.ranges z (get_or hs p.i no_hint)) (st.on_list p.i in_list)
            (subst (Hinted s.ranges (get_or st.list p.i no_zone)) (st.on_hints p.i in_list)
            (st.walking.known.ahead p.i (omega arith) more (omega arith)))

        known_left : Hinted s.ranges left o.hint
        known_left =
            hinted_bounds s.ranges (zone_in ns (cells_in l m) p.i) left (get_or (cells_in l₂ m₂) p.i no_cell).bounds o.hint
            (ap (zone_of (get_or ns p.i 0)) is.matrix) (is.known s.ranges known_before)

        leaves : Leaves s.ranges s.clocks step (get_or st.list p.i no_zone) left
        leaves =
            subst (λ (z : Zone). Leaves s.ranges s.clocks step z left) (sym (st.on_list p.i in_list))
            (is.left kept s.ranges known_before)

        lists_on : (x : ℕ) → x < 32 → (b : Bool) → eqb x spot ≡ b → get_or (set st.list spot left) x no_zone ≡ zone_in ns (cells_in l₂ m₂) x
        lists_on x f true e =
            let same = eqb-true x spot e in
            rw same
            (get_or-set_same st.list spot left no_zone (omega (arith, st.walking.machine.long, in_list))
            ∙ ap (zone_in ns (cells_in l₂ m₂)) there)
        lists_on x f false e =
            let apart = eqb-false x spot e in
            get_or-set_other st.list spot x left no_zone apart ∙ st.on_list x f
            ∙ zone_same ns ns (cells_in l m) (cells_in l₂ m₂) x refl
            (is.others x (λ u. apart (u ∙ there)) (λ u. omega arith))

        hints_now : (x : ℕ) → x < 32 → (b : Bool) → eqb x spot ≡ b
            → get_or (set st.hints spot o.hint) x no_hint ≡ get_or (set hs p.i o.hint) x no_hint
        hints_now x f true e =
            let same = eqb-true x spot e in
            rw same
            (get_or-set_same st.hints spot o.hint no_hint (omega (arith, st.walking.known.hints_long, in_list))
            ∙ sym (ap (λ (y : ℕ). get_or (set hs p.i o.hint) y no_hint) (sym there)
            ∙ get_or-set_same hs p.i o.hint no_hint (omega (arith, st.hints_long, in_list))))
        hints_now x f false e =
            let apart = eqb-false x spot e in
            get_or-set_other st.hints spot x o.hint no_hint apart ∙ st.on_hints x f
            ∙ sym (get_or-set_other hs p.i x o.hint no_hint (λ u. apart (u ∙ there)))

        pub standing_stays : (p' : Pass) → p' ≡ passed_c p
            → Standing s end here steps l₂ m₂ ns (set hs p.i o.hint) ts ws g p' k
            × (way_in end k steps l₂ m₂ ns ts p' < way_in end k steps l m ns ts p)
        standing_stays p' e =
            subst
            (λ (x : Pass).
            Standing s end here steps l₂ m₂ ns (set hs p.i o.hint) ts ws g x k
            × (way_in end k steps l₂ m₂ ns ts x < way_in end k steps l m ns ts p))
            (sym e) (
              record {
                cells_long = hl₂;
                marks_long = hm₂;
                counts_long = st.counts_long;
                hints_long = length-set hs p.i o.hint ∙ st.hints_long;
                tasks_long = st.tasks_long;
                few = st.few;
                list = set st.list spot left;
                spare = st.spare;
                hints = set st.hints spot o.hint;
                spares = st.spares;
                stack = st.stack;
                rule = st.rule;
                walking = walking_passed free more there left o.hint leaves known_left (passed_c p) refl;
                on_list = λ x f. lists_on x f (eqb x spot) refl;
                on_spare = λ x f.
                    st.on_spare x f
                    ∙ zone_same ns ns (cells_in l m) (cells_in l₂ m₂) (32 + x) refl
                    (is.others (32 + x) (λ u. omega (arith, in_list)) (λ u. omega arith));
                on_hints = λ x f. hints_now x f (eqb x spot) refl;
                on_spares = λ x f.
                    st.on_spares x f ∙ sym (get_or-set_other hs p.i (32 + x) o.hint no_hint (λ u. omega (arith, in_list)));
                on_stack = λ x f. absurd (omega arith);
                on_rule = λ f. absurd (omega arith);
              },
              way_less end k k steps steps l l₂ m m₂ ns ns ts ts p (passed_c p) st.stack st.stack deep_few (omega arith)
                  st.on_stack (λ x f. absurd (omega arith)) (way_passed free more (passed_c p) refl),
            )

      -- it is taken up
      took : Taken free more (zone_in ns (cells_in l m) from) (get_or hs from no_hint)
      took = by (ltb p.i p.kept) refl
        where
          by : (b : Bool) → ltb p.i p.kept ≡ b
              → Taken free more (zone_in ns (cells_in l m) (cond b (32 + p.i) p.i)) (get_or hs (cond b (32 + p.i) p.i) no_hint)
          by true e =
              subst (Taken free more (zone_in ns (cells_in l m) (32 + p.i))) (st.on_spares p.i in_list)
              (subst (λ (z : Zone). Taken free more z (get_or st.spares p.i no_hint)) (st.on_spare p.i in_list)
              (taken_spare free more (ltb-true p.i p.kept e)))
          by false e =
              subst (Taken free more (zone_in ns (cells_in l m) p.i)) (st.on_hints p.i in_list)
              (subst (λ (z : Zone). Taken free more z (get_or st.hints p.i no_hint)) (st.on_list p.i in_list)
              (taken_list free more (ltb-false p.i p.kept e)))

      module _ (l₂ : List ℤ) (m₂ : List ℕ) (hl₂ : length l₂ ≡ 22500) (hm₂ : length m₂ ≡ 2250)
          (e₂ : cells_in l₂ m₂ ≡ taken_c (cells_in l m) from s.clocks step) (t : Task) (ht : t ≡ task_c step) (g₂ : Guarding)
          (hg : asks_c step ≡ true → g₂ ≡ guarding_c s.clocks (guard_of_c step)) (h₂ : Hint)
          (kh : Hinted s.ranges (zone_in ns (cells_in l m) from) (get_or hs from no_hint)
          → Hinted s.ranges (zone_in ns (cells_in l m) from) h₂) where
        took₂ : Taken free more (zone_in ns (cells_in l m) from) h₂
        took₂ = record { zone = took.zone; hint = kh took.hint }

        abbrev c₀ : Cell
        c₀ = get_or (cells_in l m) from no_cell

        abbrev csₗ : List Cell
        csₗ = cells_in l₂ m₂

        abbrev nsₗ : List ℕ
        nsₗ = set ns 64 (get_or ns from 0)

        abbrev part₀ : Part
        part₀ = part_c step s.clocks (zone_in ns (cells_in l m) from)

        abbrev rule₀ : Rule
        rule₀ = rule_of g₂ c₀

        full₀ : length (cells_in l m) ≡ 90
        full₀ = CL.cells_long l m

        stays : (x : ℕ) → (x ≡ 64 → ⊥) → (x ≡ 89 → ⊥) → zone_in ns (cells_in l m) x ≡ zone_in nsₗ csₗ x
        stays x a b =
            zone_same ns nsₗ (cells_in l m) csₗ x (get_or-set_other ns 64 x (get_or ns from 0) 0 a)
            (ap (λ (y : List Cell). get_or y x no_cell) e₂ ∙ taken_other (cells_in l m) from s.clocks step full₀ from_few x a b)

        at_64 : part₀ ≡ part_at_place (set ts 0 t) nsₗ csₗ 0
        at_64 =
            let task : get_or (set ts 0 t) 0 no_task ≡ task_c step =
            get_or-set_same ts 0 t no_task (omega (arith, st.tasks_long)) ∙ ht in
            let count : get_or nsₗ 64 0 ≡ get_or ns from 0 =
            get_or-set_same ns 64 (get_or ns from 0) 0 (omega (arith, st.counts_long)) in
            let cell : get_or csₗ 64 no_cell ≡ with_matrix c₀ (changed_b step s.clocks c₀.bounds) =
            ap (λ (y : List Cell). get_or y 64 no_cell) e₂ ∙ taken_top (cells_in l m) from s.clocks step full₀ from_few in
            sym (taken_part step s.clocks (get_or ns from 0) c₀)
            ∙ sym (λ i. part_with (task i) (zone_of (count i) (cell i)))

        stack_one : (x : ℕ) → x < 1 → get_or (set st.stack 0 part₀) x no_part ≡ part_at_place (set ts 0 t) nsₗ csₗ x
        stack_one zero o =
            get_or-set_same st.stack 0 part₀ no_part (omega (arith, st.walking.machine.turned.long)) ∙ at_64
        stack_one (suc x) o = absurd (omega arith)

        pub standing_loaded : (p' : Pass) → p' ≡ loaded_c p
            → Standing s end here steps l₂ m₂ nsₗ hs (set ts 0 t) (set ws 0 h₂) g₂ p' k
            × (way_in end k steps l₂ m₂ nsₗ (set ts 0 t) p' < way_in end k steps l m ns ts p)
        standing_loaded p' e =
            subst
            (λ (x : Pass).
            Standing s end here steps l₂ m₂ nsₗ hs (set ts 0 t) (set ws 0 h₂) g₂ x k
            × (way_in end k steps l₂ m₂ nsₗ (set ts 0 t) x < way_in end k steps l m ns ts p))
            (sym e) (
              record {
                cells_long = hl₂;
                marks_long = hm₂;
                counts_long = length-set ns 64 (get_or ns from 0) ∙ st.counts_long;
                hints_long = st.hints_long;
                tasks_long = length-set ts 0 t ∙ st.tasks_long;
                few = few_set ns 64 (get_or ns from 0) st.few (st.few from);
                list = st.list;
                spare = st.spare;
                hints = st.hints;
                spares = st.spares;
                stack = set st.stack 0 part₀;
                rule = rule₀;
                walking =
                    walking_loaded free more (zone_in ns (cells_in l m) from) h₂ took₂ part₀ refl rule₀
                    (λ a. ap (λ (x : Guarding). rule_of x c₀) (hg a)) (loaded_c p) refl;
                on_list = λ x o. st.on_list x o ∙ stays x (λ u. omega arith) (λ u. omega arith);
                on_spare = λ x o. st.on_spare x o ∙ stays (32 + x) (λ u. omega arith) (λ u. omega arith);
                on_hints = st.on_hints;
                on_spares = st.on_spares;
                on_stack = stack_one;
                on_rule = λ o.
                    ap (rule_of g₂)
                    (sym (ap (λ (y : List Cell). get_or y 89 no_cell) e₂ ∙ taken_old (cells_in l m) from s.clocks step full₀ from_few));
              },
              way_less end k k steps steps l l₂ m m₂ ns nsₗ ts (set ts 0 t) p (loaded_c p) st.stack (set st.stack 0 part₀) deep_few
                  (omega arith) st.on_stack stack_one (way_loaded free more part₀ (loaded_c p) refl),
            )

-- a zone that stays was to stay where it stands
pub stays_there : (i k : ℕ) {c d : Bool} → c ≡ eqb i k → (c ≡ false → d ≡ false) → d ≡ true → i ≡ k
stays_there i k {c} {d} hc not kept = eqb-true i k (sym hc ∙ so c refl)
  where
    so : (b : Bool) → c ≡ b → b ≡ true
    so true e = refl
    so false e = absurd (true≢false (sym kept ∙ not e))

-- the same, from a place that is told apart
module _ {s : Sheet} {end : ℕ} {here : Location} {steps : Steps} {l : List ℤ} {m ns : List ℕ} {hs : List Hint} {ts : List Task}
    {ws : List Hint} {g : Guarding} {p : Pass} {k : ℕ} (st : Standing s end here steps l m ns hs ts ws g p k) (go : p.j < steps.count)
    (idle : p.depth ≤ 0) (step : Step) (hs' : step ≡ get_or steps.list p.j no_step) (more : p.i < p.n) (y : ℕ)
    (hy : y ≡ cond (ltb p.i p.kept) (32 + p.i) p.i) where
  y_few : y < 64
  y_few = subst (λ (x : ℕ). x < 64) (sym hy) (from_few st go idle step hs' more)

  -- its hint
  pub hinted_at : Hinted s.ranges (zone_in ns (cells_in l m) y) (get_or hs y no_hint)
  hinted_at =
      subst (λ (x : ℕ). Hinted s.ranges (zone_in ns (cells_in l m) x) (get_or hs x no_hint)) (sym hy)
      (took st go idle step hs' more).hint

  module _ (l₁ : List ℤ) (m₁ : List ℕ) (hl₁ : length l₁ ≡ 22500) (hm₁ : length m₁ ≡ 2250) (o : Stood)
      (is : Stays (cells_in l m) (cells_in l₁ m₁) y s.clocks step (get_or ns y 0) (get_or hs y no_hint) o) where
    -- it stays where it stands
    pub stays_at : (c : Bool) → c ≡ eqb p.i p.kept → (c ≡ false → o.kept ≡ false) → o.kept ≡ true → (p' : Pass) → p' ≡ passed_c p
        → Standing s end here steps l₁ m₁ ns (set hs p.i o.hint) ts ws g p' k
        × (way_in end k steps l₁ m₁ ns ts p' < way_in end k steps l m ns ts p)
    stays_at c hc not kept =
        standing_stays st go idle step hs' more there l₁ m₁ hl₁ hm₁ o
        (subst (λ (x : ℕ). Stays (cells_in l m) (cells_in l₁ m₁) x s.clocks step (get_or ns x 0) (get_or hs x no_hint) o) from_is is) kept
      where
        there : p.i ≡ p.kept
        there = stays_there p.i p.kept hc not kept

        from_is : y ≡ p.i
        from_is = hy ∙ rw (le-ltb p.i p.kept (omega (arith, there))) refl

    -- it is as it was
    module _ (not : o.kept ≡ false) where
      same_cell : (x : ℕ) → (x ≡ 89 → ⊥) → get_or (cells_in l₁ m₁) x no_cell ≡ get_or (cells_in l m) x no_cell
      same_cell x a = by (eqb x y) refl
        where
          by : (b : Bool) → eqb x y ≡ b → get_or (cells_in l₁ m₁) x no_cell ≡ get_or (cells_in l m) x no_cell
          by true e = subst (λ (z : ℕ). get_or (cells_in l₁ m₁) z no_cell ≡ get_or (cells_in l m) z no_cell) (sym (eqb-true x y e)) (is.back not)
          by false e = is.others x (eqb-false x y e) a

      same_zone : (x : ℕ) → (x ≡ 89 → ⊥) → zone_in ns (cells_in l m) x ≡ zone_in ns (cells_in l₁ m₁) x
      same_zone x a = zone_same ns ns (cells_in l m) (cells_in l₁ m₁) x refl (same_cell x a)

      nothing : (x : ℕ) → x < p.depth → get_or st.stack x no_part ≡ part_at_place ts ns (cells_in l₁ m₁) x
      nothing x f = absurd (omega arith)

      standing_back : Standing s end here steps l₁ m₁ ns hs ts ws g p k
      standing_back =
          record {
            cells_long = hl₁;
            marks_long = hm₁;
            counts_long = st.counts_long;
            hints_long = st.hints_long;
            tasks_long = st.tasks_long;
            few = st.few;
            list = st.list;
            spare = st.spare;
            hints = st.hints;
            spares = st.spares;
            stack = st.stack;
            rule = st.rule;
            walking = st.walking;
            on_list = λ x f. st.on_list x f ∙ same_zone x (λ u. omega arith);
            on_spare = λ x f. st.on_spare x f ∙ same_zone (32 + x) (λ u. omega arith);
            on_hints = st.on_hints;
            on_spares = st.on_spares;
            on_stack = nothing;
            on_rule = λ f. absurd (omega arith);
          }

      back_way : way_in end k steps l₁ m₁ ns ts p ≡ way_in end k steps l m ns ts p
      back_way =
          sym (way_same end k steps l₁ m₁ ns ts p st.stack st.walking.machine.turned.few nothing)
          ∙ way_same end k steps l m ns ts p st.stack st.walking.machine.turned.few st.on_stack

      known_back : Hinted s.ranges (zone_in ns (cells_in l₁ m₁) y) (get_or hs y no_hint)
          → Hinted s.ranges (zone_in ns (cells_in l₁ m₁) y) o.hint
      known_back h =
          let same = same_zone y (λ u. omega (arith, y_few)) in
          subst (λ (z : Zone). Hinted s.ranges z o.hint) same
          (is.known s.ranges (subst (λ (z : Zone). Hinted s.ranges z (get_or hs y no_hint)) (sym same) h))

      pub loaded_at : (l₂ : List ℤ) (m₂ : List ℕ) → length l₂ ≡ 22500 → length m₂ ≡ 2250
          → cells_in l₂ m₂ ≡ taken_c (cells_in l₁ m₁) y s.clocks step → (t : Task) → t ≡ task_c step → (g₂ : Guarding)
          → (asks_c step ≡ true → g₂ ≡ guarding_c s.clocks (guard_of_c step)) → (p' : Pass) → p' ≡ loaded_c p
          → Standing s end here steps l₂ m₂ (set ns 64 (get_or ns y 0)) hs (set ts 0 t) (set ws 0 o.hint) g₂ p' k
          × (way_in end k steps l₂ m₂ (set ns 64 (get_or ns y 0)) (set ts 0 t) p' < way_in end k steps l m ns ts p)
      loaded_at l₂ m₂ hl hm e t ht g₂ hg p' ep =
          subst
          (λ (w : ℕ).
          Standing s end here steps l₂ m₂ (set ns 64 (get_or ns y 0)) hs (set ts 0 t) (set ws 0 o.hint) g₂ p' k
          × (way_in end k steps l₂ m₂ (set ns 64 (get_or ns y 0)) (set ts 0 t) p' < w))
          back_way (at_place y hy e known_back)
        where
          at_place : (x : ℕ) → x ≡ cond (ltb p.i p.kept) (32 + p.i) p.i
              → cells_in l₂ m₂ ≡ taken_c (cells_in l₁ m₁) x s.clocks step
              → (Hinted s.ranges (zone_in ns (cells_in l₁ m₁) x) (get_or hs x no_hint)
              → Hinted s.ranges (zone_in ns (cells_in l₁ m₁) x) o.hint)
              → Standing s end here steps l₂ m₂ (set ns 64 (get_or ns x 0)) hs (set ts 0 t) (set ws 0 o.hint) g₂ p' k
              × (way_in end k steps l₂ m₂ (set ns 64 (get_or ns x 0)) (set ts 0 t) p' < way_in end k steps l₁ m₁ ns ts p)
          at_place x hx f kh =
              subst
              (λ (x : ℕ).
              cells_in l₂ m₂ ≡ taken_c (cells_in l₁ m₁) x s.clocks step
              → (Hinted s.ranges (zone_in ns (cells_in l₁ m₁) x) (get_or hs x no_hint)
              → Hinted s.ranges (zone_in ns (cells_in l₁ m₁) x) o.hint)
              → Standing s end here steps l₂ m₂ (set ns 64 (get_or ns x 0)) hs (set ts 0 t) (set ws 0 o.hint) g₂ p' k
              × (way_in end k steps l₂ m₂ (set ns 64 (get_or ns x 0)) (set ts 0 t) p' < way_in end k steps l₁ m₁ ns ts p))
              (sym hx)
              (λ f kh. standing_loaded standing_back go idle step hs' more l₂ m₂ hl hm f t ht g₂ hg o.hint kh p' ep) f kh

-- ---- the start
pub standing_starts : (s : Sheet) (n : ℕ) (at : Location) (first : Segment) (h w : Hint) (t : Task) (g : Guarding) (p : Pass)
    (l : List ℤ) (m ns : List ℕ) (hs : List Hint) (ts : List Task) (ws : List Hint)
    → n ≡ size s → n ≤ 32 → at ≡ location_c s 0 → Segmented s 0 at first → length first.steps.list ≡ 20
    → Hinted s.ranges blank_zone h → p ≡ begun_c 0 1
    → l ≡ replicate 22500 (pos 0) → m ≡ replicate 2250 0 → ns ≡ replicate 90 0 → hs ≡ replicate 64 h → ts ≡ replicate 25 t
    → ws ≡ replicate 25 w
    → Standing s (n + 2) first.there first.steps l m ns hs ts ws g p 0
standing_starts s n at first h w t g p l m ns hs ts ws e few a f long k ep hl hm hn hh ht hw =
    record {
      cells_long = ap length hl ∙ length-replicate 22500 (pos 0);
      marks_long = ap length hm ∙ length-replicate {A = ℕ} 2250 0;
      counts_long = ap length hn ∙ length-replicate {A = ℕ} 90 0;
      hints_long = ap length hh ∙ length-replicate 64 h;
      tasks_long = ap length ht ∙ length-replicate 25 t;
      few = λ x. rw (hn, zeros_at_lem {A = ℕ} 90 0 x) (omega arith);
      list = replicate 32 blank_zone;
      spare = replicate 32 blank_zone;
      hints = replicate 32 h;
      spares = replicate 32 h;
      stack = replicate 25 no_part;
      rule = rule_of g no_cell;
      walking =
          subst (λ (x : List Hint). Walking s (n + 2) first.there first.steps (replicate 32 blank_zone) (replicate 32 blank_zone)
          (replicate 32 h) (replicate 32 h) (replicate 25 no_part) x (rule_of g no_cell) p 0) (sym hw)
          (walking_starts s n at first h w no_part (rule_of g no_cell) p e few a f long k ep);
      on_list = λ x o. blank_at x o ∙ sym (zone_blank x (omega arith));
      on_spare = λ x o. blank_at x o ∙ sym (zone_blank (32 + x) (omega arith));
      on_hints = λ x o. get_or-replicate 32 x h no_hint o ∙ sym (ap (λ (y : List Hint). get_or y x no_hint) hh ∙ get_or-replicate 64 x h no_hint
          (omega
          arith));
      on_spares = λ x o. get_or-replicate 32 x h no_hint o
          ∙ sym (ap (λ (y : List Hint). get_or y (32 + x) no_hint) hh ∙ get_or-replicate 64 (32 + x) h no_hint (omega arith));
      on_stack = λ x o. absurd (subst (λ (y : Pass). x < y.depth → ⊥) (sym ep) (λ u. omega arith) o);
      on_rule = λ o. absurd (subst (λ (y : Pass). 0 < y.depth → ⊥) (sym ep) (λ u. omega arith) o);
    }
  where
    blank_at : (x : ℕ) → x < 32 → get_or (replicate 32 blank_zone) x no_zone ≡ blank_zone
    blank_at x o = get_or-replicate 32 x blank_zone no_zone o

    zone_blank : (x : ℕ) → x < 90 → zone_in ns (cells_in l m) x ≡ blank_zone
    zone_blank x o =
        blank_zone_lem l m (λ i. ap (λ (y : List ℤ). get_or y i (pos 0)) hl ∙ zeros_at_lem 22500 (pos 0) i)
        (λ i. ap (λ (y : List ℕ). get_or y i 0) hm ∙ zeros_at_lem {A = ℕ} 2250 0 i) ns x o (λ i. ap (λ (y : List ℕ). get_or y i 0) hn ∙
        zeros_at_lem {A = ℕ} 90 0 i)
