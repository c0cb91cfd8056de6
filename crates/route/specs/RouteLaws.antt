-- Body 4: what was read of it, if reading has not stopped, is right; and a route that was followed to its end links. From the
-- definitions of `Route`.
use Prim.Native.Nat.{ℕ, zero, suc, ◌≤◌, ◌<◌}
use Rattle.std.specs.Prelude.{◌≡◌, List, Bool, get_or, ltb, eqb, is_ok, ⊤}
use Rattle.std.specs.declared.result.Result.{Result}
use Rattle.std.specs.declared.result.Result.TheVariants.{Ok, Err}
use Rattle.std.proofs.Math.Path.{refl}
use Rattle.std.proofs.Common.{ap, sym, ◌∙◌, arith}
use Rattle.std.proofs.Math.Bool.{true, false, cond}
use Rattle.std.proofs.Math.ListN.{set, replicate}
use borrow.Author.Tests.{ltb-true, ltb-false, eqb-true, eqb-false}
use Rattle.cursor.specs.declared.Cursor.{Cursor}
use Rattle.cursor.specs.Cursor.{byte_field, below_field, iterate}
use Rattle.cursor_laws.specs.Laws.{no, finished_ok, byte_field_right, below_field_right}
use Rattle.cursor_laws.specs.Counted.{rests}
use Rattle.cursor_laws.specs.FilledLaws.{step, filled}
use Rattle.cursor_laws.specs.Right.{Filled}
use Rattle.automaton.specs.declared.Transition.{Transition}
use Rattle.automaton.specs.Automaton.{no_transition}
use Rattle.route.specs.declared.RouteAt.{RouteAt}
use Rattle.route.specs.Route.{route_step, route_read, route_at, ends_at, link_step, links_of, arrived_at}

module _ (s : List ℕ) (end : ℕ) where
  route_read_right :
      (transitions : ℕ) (cursor : Cursor) → (route_read s end transitions cursor).cursor.ok ≡ true →
      (cursor.ok ≡ true) ×
      Filled 32 (route_read s end transitions cursor).count 0 0 (λ number. number < transitions) (route_read s end transitions cursor).list
  unfolding route_read route_step
  route_read_right transitions cursor h =
      let count = byte_field s end 0 32 cursor in
      let start : RouteAt = record { cursor = count; count = count.byte; list = replicate 32 0 } in
      let d =
      filled {A = RouteAt} {B = ℕ} 32 count.byte 0 0 (λ number. number < transitions) (λ x. x.cursor.ok) (λ x. x.list)
      (λ x. x.count ≡ count.byte) (route_step s end transitions) start refl refl (λ o. (byte_field_right s end 0 32 cursor o).1.1)
      (λ i x hi k.
      let number = below_field s end transitions x.cursor in
      let next : RouteAt = record { cursor = number; count = x.count; list = set x.list i number.byte } in
      step 32 count.byte 0 0 (λ number. number < transitions) (λ x. x.cursor.ok) (λ x. x.list) (λ x. x.count ≡ count.byte)
      (route_step s end transitions) i x next number.byte (ap (λ (n : ℕ). cond (ltb i n) next x) k) k k refl
      (λ o. below_field_right s end transitions x.cursor o))
      h in
      ((byte_field_right s end 0 32 cursor d.0).0, rw d.1.0 d.1.1)

  pub route_at_right :
      (transitions : ℕ) (cursor : Cursor) → (route_at s end transitions cursor).cursor.ok ≡ true →
      (cursor.ok ≡ true) ×
      Filled 32 (route_at s end transitions cursor).count 0 0 (λ number. number < transitions) (route_at s end transitions cursor).list
  unfolding route_at
  route_at_right transitions cursor h =
      route_read_right transitions cursor (finished_ok s end (route_read s end transitions cursor).cursor h)

below_suc : (P : ℕ → Type 0) (i k : ℕ) (b : Bool) → eqb k i ≡ b → k < suc i → P i → (k < i → P k) → P k
below_suc P i k true e h p q = rw (eqb-true k i e) p
below_suc P i k false e h p q =
    let ne = eqb-false k i e in
    q (omega arith)

module _ (transition : List Transition) (route : List ℕ) (moves : ℕ) where
  -- from and to of route move k
  abbrev source_at : ℕ → ℕ
  source_at k = (get_or transition (get_or route k 0) no_transition).from

  abbrev to_at : ℕ → ℕ
  to_at k = (get_or transition (get_or route k 0) no_transition).to

  -- after i moves that link
  record Linked (i location : ℕ) : Type 0 where
    each : (k : ℕ) → k < i → k < moves → source_at k ≡ arrived_at transition route k
    here : i ≤ moves → location ≡ arrived_at transition route i

  abbrev LinkedBy : ℕ → Result ℕ ℕ → Type 0
  LinkedBy i (Ok location) = Linked i location
  LinkedBy i (Err index) = ⊤

  abbrev link_by : Bool → Bool → ℕ → ℕ → Result ℕ ℕ
  link_by b t i location = cond b (cond t (Ok (to_at i)) (Err i)) (Ok location)

  link_cases :
      (b t : Bool) (i location : ℕ) → ltb i moves ≡ b → eqb (source_at i) location ≡ t → Linked i location →
      LinkedBy (suc i) (link_by b t i location)
  unfolding arrived_at
  link_cases true true i location e g w =
      let m = ltb-true i moves e in
      let here : source_at i ≡ arrived_at transition route i = eqb-true (source_at i) location g ∙ w.here (omega arith) in
      record {
        each =
            λ k ki km. below_suc (λ k. source_at k ≡ arrived_at transition route k) i k (eqb k i) refl ki here (λ lt. w.each k lt km);
        here = λ n. refl;
      }
  link_cases true false i location e g w = tt
  link_cases false t i location e g w =
      let m = ltb-false i moves e in
      record { each = λ k ki km. w.each k (omega arith) km; here = λ n. absurd (omega arith) }

  link_more : (i : ℕ) (link : Result ℕ ℕ) → LinkedBy i link → LinkedBy (suc i) (link_step transition route moves i link)
  unfolding link_step ends_at
  link_more i (Ok location) w = link_cases (ltb i moves) (eqb (source_at i) location) i location refl refl w
  link_more i (Err index) w = tt

  linked : (i : ℕ) → LinkedBy i (iterate (link_step transition route moves) (Ok 0) i)
  unfolding iterate arrived_at
  linked zero = record { each = λ k k0 km. absurd (omega arith); here = λ n. refl }
  linked (suc i) = link_more i (iterate (link_step transition route moves) (Ok 0) i) (linked i)

  -- a route that links before its move i and not there
  pub links_broken :
      (i location index : ℕ) → i < 32 → Ok location ≡ iterate (link_step transition route moves) (Ok 0) i →
      Err index ≡ link_step transition route moves i (Ok location) → Err index ≡ links_of transition route moves
  unfolding iterate link_step links_of
  links_broken i location index l e f =
      sym
      (rests (link_step transition route moves) (Ok 0) (suc i) 32 (Err index) (omega arith)
      (sym (f ∙ ap (link_step transition route moves i) e)) (λ j h. refl))

  right_by :
      (link : Result ℕ ℕ) → LinkedBy 32 link → is_ok link ≡ true → moves ≤ 32 → (k : ℕ) → k < moves →
      source_at k ≡ arrived_at transition route k
  right_by (Ok location) w h few k km = w.each k (omega arith) km
  right_by (Err index) w h few k km = no h

  pub links_right :
      is_ok (links_of transition route moves) ≡ true → moves ≤ 32 → (k : ℕ) → k < moves → source_at k ≡ arrived_at transition route k
  unfolding links_of
  links_right h few k km = right_by (links_of transition route moves) (linked 32) h few k km
