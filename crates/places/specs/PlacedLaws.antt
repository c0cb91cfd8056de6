-- A counted list that is read, and the places of its entries: each entry is what is read again at its place. For any list; PlaceLaws has
-- it of the locations and of the transitions.
use Prim.Native.Nat.{ℕ, zero, suc, ◌+◌, ◌-◌, ◌≤◌, ◌<◌, min}
use Rattle.std.specs.Prelude.{◌≡◌, Bool, cond, ltb, eqb, set, replicate}
use Rattle.std.proofs.Math.Path.{refl, sym, ap, subst}
use Rattle.std.proofs.Common.{◌∙◌}
use mathlib.Core.List.{List}
use Rattle.std.proofs.Math.Bool.{true, false}
use native.Mathlib.Omega.{arith}
use Rattle.std.proofs.Math.ListN.{length, get_or, length-set, length-replicate}
use Rattle.std.proofs.lemmas.List.{get_or-replicate}
use Rattle.std.proofs.Math.Seq.{get_or-set_same, get_or-set_other}
use borrow.Author.Tests.{ltb-true, ltb-false, lt-ltb, le-ltb, eqb-true, eqb-false}
use Rattle.cursor.specs.declared.Cursor.{Cursor}
use Rattle.cursor.specs.Cursor.{advanced, iterate}
use Rattle.index.specs.Listed.{listed, listed_all}
use Rattle.places.specs.Places.{short_of, Placed, place_step, places_at}

-- what a step does below the count, and that it does nothing past it. `Keeps` is what every state of the reading has
pub record Reads {X B : Type 0} (count : ℕ) (Keeps : X → Type 0) (cursor : X → Cursor) (list : X → List B) (next : Cursor → Cursor)
    (entry : Cursor → B) (f more : ℕ → X → X) : Type 0 where
  pub tests : (i : ℕ) (x : X) → Keeps x → f i x ≡ cond (ltb i count) (more i x) x
  pub keeps : (i : ℕ) (x : X) → Keeps x → Keeps (more i x)
  pub moves : (i : ℕ) (x : X) → Keeps x → cursor (more i x) ≡ next (cursor x)
  pub stores : (i : ℕ) (x : X) → Keeps x → list (more i x) ≡ set (list x) i (entry (cursor x))

module _ {X B : Type 0} (n : ℕ) {count : ℕ} {Keeps : X → Type 0} {cursor : X → Cursor} {list : X → List B} {next : Cursor → Cursor}
    {entry : Cursor → B} {f more : ℕ → X → X} (reads : Reads count Keeps cursor list next entry f more) (a : X) (begins : Keeps a) where
  abbrev after : ℕ → X
  after i = iterate f a i

  abbrev placed : ℕ → Placed
  placed i = places_at next n (cursor a) i

  step : (i : ℕ) → i < count → Keeps (after i) → after (suc i) ≡ more i (after i)
  unfolding iterate
  step i h k =
      let t = lt-ltb i count h in
      reads.tests i (after i) k ∙ rw t refl

  kept : (i : ℕ) → i ≤ count → Keeps (after i)
  unfolding iterate
  kept zero h = begins
  kept (suc i) h =
      let k = kept i (omega arith) in
      subst Keeps (sym (step i (omega arith) k)) (reads.keeps i (after i) k)

  same : (i : ℕ) → i ≤ count → cursor (after i) ≡ (placed i).cursor
  unfolding iterate place_step
  same zero h = refl
  same (suc i) h =
      let k = kept i (omega arith) in
      ap cursor (step i (omega arith) k) ∙ reads.moves i (after i) k ∙ ap next (same i (omega arith))

  stored : (i : ℕ) → i < count → list (after (suc i)) ≡ set (list (after i)) i (entry (cursor (after i)))
  stored i h =
      let k = kept i (omega arith) in
      ap list (step i h k) ∙ reads.stores i (after i) k

  -- past the count nothing changes
  rests : (k : ℕ) → after (k + count) ≡ after count
  unfolding iterate
  rests zero =
      let e : 0 + count ≡ count = omega arith in
      rw e refl
  rests (suc k) =
      let e : suc k + count ≡ suc (k + count) = omega arith in
      let t = le-ltb (k + count) count (omega arith) in
      rw e (ap (f (k + count)) (rests k) ∙ reads.tests (k + count) (after count) (kept count (omega arith)) ∙ rw t refl)

  ended : (b : Bool) → ltb count n ≡ b → after n ≡ after (min count n)
  ended true e =
      let h = ltb-true count n e in
      let m : min count n ≡ count = omega arith in
      let all : n ≡ n - count + count = omega arith in
      rw m (ap after all ∙ rests (n - count))
  ended false e =
      let h = ltb-false count n e in
      let m : min count n ≡ n = omega arith in
      rw m refl

  whole : after n ≡ after (min count n)
  whole = ended (ltb count n) refl

  pub kept_all : Keeps (after n)
  kept_all = subst Keeps (sym whole) (kept (min count n) (omega arith))

  -- reading stands in the same place after both
  pub cursors : cursor (after n) ≡ (placed (min count n)).cursor
  cursors = ap cursor whole ∙ same (min count n) (omega arith)

  module _ (d blank : B) (blanks : list a ≡ replicate n blank)
      (fresh : (c : Cursor) → (next c).ok ≡ true → (c.ok ≡ true) × (entry c ≡ entry (advanced (short_of c.at) 0))) where
    long : (i : ℕ) → i ≤ count → length (list (after i)) ≡ n
    unfolding iterate
    long zero h = rw blanks (length-replicate n blank)
    long (suc i) h = ap length (stored i (omega arith)) ∙ length-set (list (after i)) i (entry (cursor (after i))) ∙ long i (omega arith)

    long_places : (i : ℕ) → length (placed i).list ≡ n
    unfolding iterate place_step
    long_places zero = length-replicate n 0
    long_places (suc i) = length-set (placed i).list i (short_of (placed i).cursor.at) ∙ long_places i

    was_ok : (i : ℕ) → i < count → (cursor (after (suc i))).ok ≡ true → (next (cursor (after i))).ok ≡ true
    was_ok i h o =
        let k = kept i (omega arith) in
        let e : cursor (after (suc i)) ≡ next (cursor (after i)) = ap cursor (step i h k) ∙ reads.moves i (after i) k in
        ap (λ (c : Cursor). c.ok) (sym e) ∙ o

    -- place k of both after one more entry
    at_step :
        (i k : ℕ) (b : Bool) → eqb k i ≡ b → i < count → i < n → (cursor (after (suc i))).ok ≡ true → k < suc i →
        (k < i → get_or (list (after i)) k d ≡ entry (advanced (get_or (placed i).list k 0) 0)) →
        get_or (list (after (suc i))) k d ≡ entry (advanced (get_or (placed (suc i)).list k 0) 0)
    unfolding iterate place_step
    at_step i k true q h hn o l rest =
        let q' = eqb-true k i q in
        let there : i < length (list (after i)) = rw (long i (omega arith)) hn in
        let there' : i < length (placed i).list = rw (long_places i) hn in
        let g = fresh (cursor (after i)) (was_ok i h o) in
        let at : short_of (cursor (after i)).at ≡ short_of (placed i).cursor.at =
        ap (λ (c : Cursor). short_of c.at) (same i (omega arith)) in
        rw q'
        (ap (λ (x : List B). get_or x i d) (stored i h)
        ∙ get_or-set_same (list (after i)) i (entry (cursor (after i))) d there
        ∙ g.1
        ∙ ap (λ (x : ℕ). entry (advanced x 0)) (at ∙ sym (get_or-set_same (placed i).list i (short_of (placed i).cursor.at) 0 there')))
    at_step i k false q h hn o l rest =
        let ne = eqb-false k i q in
        let lt : k < i = omega arith in
        ap (λ (x : List B). get_or x k d) (stored i h)
        ∙ get_or-set_other (list (after i)) i k (entry (cursor (after i))) d ne
        ∙ rest lt
        ∙ ap (λ (x : ℕ). entry (advanced x 0)) (sym (get_or-set_other (placed i).list i k (short_of (placed i).cursor.at) 0 ne))

    each :
        (i : ℕ) → i ≤ count → i ≤ n → (cursor (after i)).ok ≡ true → (k : ℕ) → k < i →
        get_or (list (after i)) k d ≡ entry (advanced (get_or (placed i).list k 0) 0)
    each zero h hn o k l = absurd (omega arith)
    each (suc i) h hn o k l =
        let o' = (fresh (cursor (after i)) (was_ok i (omega arith) o)).0 in
        at_step i k (eqb k i) refl (omega arith) (omega arith) o l (λ m. each i (omega arith) (omega arith) o' k m)

    past : (i : ℕ) → i ≤ count → (k : ℕ) → i ≤ k → k < n → get_or (list (after i)) k d ≡ blank
    unfolding iterate
    past zero h k l m = rw blanks (get_or-replicate n k blank d m)
    past (suc i) h k l m =
        ap (λ (x : List B). get_or x k d) (stored i (omega arith))
        ∙ get_or-set_other (list (after i)) i k (entry (cursor (after i))) d (λ q. omega arith)
        ∙ past i (omega arith) k (omega arith) m

    abbrev again : ℕ → B
    again k = cond (ltb k count) (entry (advanced (get_or (placed (min count n)).list k 0) 0)) blank

    by_count :
        (k : ℕ) (b : Bool) → ltb k count ≡ b → (cursor (after (min count n))).ok ≡ true → k < n →
        get_or (list (after (min count n))) k d ≡ cond b (entry (advanced (get_or (placed (min count n)).list k 0) 0)) blank
    by_count k true e o m =
        let h = ltb-true k count e in
        each (min count n) (omega arith) (omega arith) o k (omega arith)
    by_count k false e o m =
        let h = ltb-false k count e in
        past (min count n) (omega arith) k (omega arith) m

    -- every entry is what is read again at its place
    pub lists : (cursor (after n)).ok ≡ true → list (after n) ≡ listed again n
    lists o =
        let o' : (cursor (after (min count n))).ok ≡ true = ap (λ (x : X). (cursor x).ok) (sym whole) ∙ o in
        ap list whole
        ∙ listed_all again d n (list (after (min count n))) (long (min count n) (omega arith))
        (λ k m. by_count k (ltb k count) refl o' m)
