-- Every sheet that is read is well formed: the theorem `read_well_formed`, from the definitions alone. With a refusal the sheet is blank.
use Rattle.std.specs.Prelude.{ℕ, ◌+◌, ◌≤◌, ◌≡◌, refl, List, ◌⊎◌, Bool, true, false, cond, leb, length, is_ok}
use Rattle.std.proofs.Common.{sym, subst, ap, ◌∙◌, inl, inr, arith, leb-true}
use Rattle.std.specs.declared.result.Result.TheVariants.{Ok}
use Rattle.contents.specs.declared.Contents.{Contents}
use Rattle.cursor.specs.Cursor.{advanced}
use Rattle.contents.specs.Contents.{sized, most_parameters, contents_of}
use Rattle.expr.specs.Records.{PARAMETERS, range_list}
use Rattle.valuations.specs.Valuations.{widths}
use Rattle.sheet.specs.declared.Sheet.{Sheet}
use Rattle.reading.specs.declared.SheetAt.{SheetAt}
use Rattle.answers.specs.Numbers.{numbered}
use Rattle.parameters.specs.Parameters.{parameters_at}
use Rattle.automaton.specs.Automaton.{locations_at, transitions_at}
use Rattle.route.specs.Route.{route_at, links_of, broken_at}
use Rattle.reading.specs.File.{Fine, blank_sheet, Read, read_as, refused_by, bodies_of, judged_route, judged_widths, judged_bodies}
use Rattle.reading.specs.File.{read_of, OfFile}
use Rattle.reading.specs.Versions.{most_few, version_right}
use Rattle.sheet.specs.WellFormed.{MOST_VALUATIONS, WellFormed}
use Rattle.parameters.specs.ParameterLaws.{parameters_at_right}
use Rattle.automaton.specs.AutomatonLaws.{locations_at_right, transitions_at_right}
use Rattle.route.specs.RouteLaws.{route_at_right, links_right}

bodies_right :
    (s : List ℕ) (contents : Contents) → (contents.version ≡ 1) ⊎ (contents.version ≡ 2) →
    (bodies_of s contents).cursor.ok ≡ true →
    leb (widths (range_list (bodies_of s contents).sheet.ranges)) MOST_VALUATIONS ≡ true →
    is_ok (links_of (bodies_of s contents).sheet.transition (bodies_of s contents).sheet.route (bodies_of s contents).sheet.moves) ≡ true →
    WellFormed (bodies_of s contents).sheet
unfolding bodies_of
bodies_right s contents v h w l =
    let most = most_parameters contents.version in
    let one = parameters_at s contents.first most (advanced 22 0) in
    let two = locations_at s contents.second most one.count one.cursor in
    let three = transitions_at s contents.third most one.count two.clocks two.count two.cursor in
    let four = route_at s (length s) three.count three.cursor in
    let few1 : one.cursor.ok ≡ true → one.count ≤ PARAMETERS =
    λ o. (parameters_at_right s contents.first most (most_few contents.version) (advanced 22 0) o).1.1.few in
    let right2 = locations_at_right s contents.second most one.count one.cursor few1 in
    let h4 = route_at_right s (length s) three.count three.cursor h in
    let h3 =
    transitions_at_right s contents.third most one.count two.clocks two.count two.cursor (λ o. few1 (right2 o).0) h4.0 in
    let h2 = right2 h3.0 in
    let h1 = parameters_at_right s contents.first most (most_few contents.version) (advanced 22 0) h2.0 in
    record {
      version = v;
      parameters = h1.1.0;
      ranges = h1.1.1;
      few_valuations = leb-true (widths (range_list one.ranges)) MOST_VALUATIONS w;
      some_clock = h2.1.0.0;
      clocks = h2.1.0.1;
      some_location = h2.1.1.0;
      location = h2.1.1.1;
      transition = h3.1;
      route = h4.1;
      links = links_right three.list four.list four.count l h4.1.few;
    }

-- it came by the first way
accepted_cases :
    (b : Bool) (x : Read) (n at : ℕ) → 1 ≤ n → Fine (cond b x (refused_by n at)) →
    (b ≡ true) × (Fine x × (cond b x (refused_by n at) ≡ x))
unfolding refused_by
accepted_cases true x n at l h = (refl, (h, refl))
accepted_cases false x n at l h = absurd (omega arith)

route_accepted :
    (third : ℕ) (sheet : Sheet) → Fine (judged_route third sheet) →
    (is_ok (links_of sheet.transition sheet.route sheet.moves) ≡ true) × ((judged_route third sheet).sheet ≡ sheet)
unfolding judged_route
route_accepted third sheet h =
    let link = links_of sheet.transition sheet.route sheet.moves in
    let a = accepted_cases (is_ok link) (record { answer = numbered 0 0; sheet = sheet }) 5 (third + 1 + broken_at link) (omega arith) h in
    (a.0, ap (λ (x : Read). x.sheet) a.1.1)

-- its ranges are few, and its route links
Judged : Sheet → Type 0
Judged sheet =
    (leb (widths (range_list sheet.ranges)) MOST_VALUATIONS ≡ true) ×
    (is_ok (links_of sheet.transition sheet.route sheet.moves) ≡ true)

widths_accepted :
    (third : ℕ) (sheet : Sheet) → Fine (judged_widths third sheet) → Judged sheet × ((judged_widths third sheet).sheet ≡ sheet)
unfolding judged_widths Judged
widths_accepted third sheet h =
    let few = leb (widths (range_list sheet.ranges)) MOST_VALUATIONS in
    let a = accepted_cases few (judged_route third sheet) 16 0 (omega arith) h in
    let b = route_accepted third sheet a.1.0 in
    ((a.0, b.0), ap (λ (x : Read). x.sheet) a.1.1 ∙ b.1)

bodies_accepted :
    (third : ℕ) (bodies : SheetAt) → Fine (judged_bodies third bodies) →
    (bodies.cursor.ok ≡ true) × (Judged bodies.sheet × ((judged_bodies third bodies).sheet ≡ bodies.sheet))
unfolding judged_bodies
bodies_accepted third bodies h =
    let a = accepted_cases bodies.cursor.ok (judged_widths third bodies.sheet) 4 bodies.cursor.at (omega arith) h in
    let b = widths_accepted third bodies.sheet a.1.0 in
    (a.0, (b.0, ap (λ (x : Read). x.sheet) a.1.1 ∙ b.1))

refused_cases :
    (b : Bool) (x : Read) (n at : ℕ) → ((Fine x → ⊥) → x.sheet ≡ blank_sheet) →
    (Fine (cond b x (refused_by n at)) → ⊥) → (cond b x (refused_by n at)).sheet ≡ blank_sheet
unfolding refused_by
refused_cases true x n at f g = f g
refused_cases false x n at f g = refl

-- with a refusal the sheet is blank
pub read_refused : (s : List ℕ) → (Fine (read_of s) → ⊥) → (read_of s).sheet ≡ blank_sheet
unfolding read_of judged_bodies judged_widths judged_route
read_refused s =
    let contents = contents_of s in
    let bodies = bodies_of s contents in
    let few = leb (widths (range_list bodies.sheet.ranges)) MOST_VALUATIONS in
    let link = links_of bodies.sheet.transition bodies.sheet.route bodies.sheet.moves in
    refused_cases (sized s) _ 2 0
    (refused_cases contents.cursor.ok _ 3 contents.cursor.at
    (refused_cases bodies.cursor.ok _ 4 bodies.cursor.at
    (refused_cases few _ 16 0
    (refused_cases (is_ok link) (record { answer = numbered 0 0; sheet = bodies.sheet }) 5 (contents.third + 1 + broken_at link)
    (λ n. absurd (n refl))))))

-- what `read` gives without a refusal is well formed
pub read_well_formed : (s : List ℕ) → Fine (read_of s) → WellFormed (read_of s).sheet
unfolding read_of Judged
read_well_formed s h =
    let contents = contents_of s in
    let judged = judged_bodies contents.third (bodies_of s contents) in
    let a = accepted_cases (sized s) (cond contents.cursor.ok judged (refused_by 3 contents.cursor.at)) 2 0 (omega arith) h in
    let b = accepted_cases contents.cursor.ok judged 3 contents.cursor.at (omega arith) a.1.0 in
    let d = bodies_accepted contents.third (bodies_of s contents) b.1.0 in
    rw (a.1.1, b.1.1, d.1.1) (bodies_right s contents (version_right s b.0) d.0 d.1.0.0 d.1.0.1)

-- the same of a result of `read`, by its contract
pub reading_well_formed : (s : List ℕ) (sheet : Sheet) → read_as (Ok sheet) ≡ read_of s → WellFormed sheet
reading_well_formed s sheet e =
    subst WellFormed (sym (ap (λ (x : Read). x.sheet) e)) (read_well_formed s (sym (ap (λ (x : Read). x.answer.number) e)))

-- ---- the refusals that a file meets
abbrev Met : Read → Type 0
Met x = (x.answer.number ≡ 0) ⊎ OfFile x.answer.number

met_cases : (b : Bool) (x : Read) (n at : ℕ) → OfFile n → Met x → Met (cond b x (refused_by n at))
unfolding refused_by
met_cases true x n at t h = h
met_cases false x n at t h = inr t

pub read_numbered : (s : List ℕ) → ((read_of s).answer.number ≡ 0) ⊎ OfFile (read_of s).answer.number
unfolding read_of judged_bodies judged_widths judged_route
read_numbered s =
    let contents = contents_of s in
    let bodies = bodies_of s contents in
    let few = leb (widths (range_list bodies.sheet.ranges)) MOST_VALUATIONS in
    let link = links_of bodies.sheet.transition bodies.sheet.route bodies.sheet.moves in
    met_cases (sized s) _ 2 0 (inl refl)
    (met_cases contents.cursor.ok _ 3 contents.cursor.at (inr (inl refl))
    (met_cases bodies.cursor.ok _ 4 bodies.cursor.at (inr (inr (inl refl)))
    (met_cases few _ 16 0 (inr (inr (inr (inl refl))))
    (met_cases (is_ok link) (record { answer = numbered 0 0; sheet = bodies.sheet }) 5 (contents.third + 1 + broken_at link)
    (inr (inr (inr (inr refl))))
    (inl refl)))))
