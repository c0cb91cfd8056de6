-- A counted list as it is read: the first places filled one by one, the others left blank. The end is `filled`.
use Prim.Native.Nat.{ℕ, zero, suc, ◌≤◌, ◌<◌}
use Rattle.std.specs.Prelude.{◌≡◌, ◌≢◌, List, Bool, true, false, cond, length, get_or, set, replicate, ltb, eqb}
use Rattle.std.proofs.Math.Path.{refl}
use Rattle.std.proofs.Common.{arith, length-set, get_or-set_same, get_or-set_other, ltb-true, ltb-false, lt-ltb, le-ltb, eqb-true}
use Rattle.std.proofs.lemmas.List.{length-replicate, get_or-replicate}
use Rattle.std.proofs.lemmas.Bool.{eqb-false}
use Rattle.cursor.specs.Cursor.{iterate}
use Rattle.cursor_laws.specs.Right.{Filled}

module _ {A B : Type 0} (n count : ℕ) (d blank : B) (R : B → Type 0) (ok : A → Bool) (list : A → List B) (Keeps : A → Type 0)
    (f : ℕ → A → A) where
  -- what a step must do: below the count it stores an entry, which is right if reading has not stopped; past it, nothing
  pub record Step (i : ℕ) (x : A) : Type 0 where
    pub keeps : Keeps (f i x)
    pub entry : B
    pub stores : i < count → list (f i x) ≡ set (list x) i entry
    pub right : i < count → ok (f i x) ≡ true → (ok x ≡ true) × R entry
    pub out : count ≤ i → f i x ≡ x

  -- what holds after i steps from a
  pub record Done (a : A) (i : ℕ) (x : A) : Type 0 where
    pub keeps : Keeps x
    pub long : length (list x) ≡ n
    pub start : ok x ≡ true → ok a ≡ true
    pub each : ok x ≡ true → (k : ℕ) → k < i → k < count → R (get_or (list x) k d)
    pub past : (k : ℕ) → count ≤ k → k < n → get_or (list x) k d ≡ blank

  stored :
      (l : List B) (i k : ℕ) (e : B) (b : Bool) → eqb k i ≡ b → i < length l → k < suc i → R e → (k < i → R (get_or l k d)) →
      R (get_or (set l i e) k d)
  stored l i k e true q il ki re rest =
      let q' = eqb-true k i q in
      rw (q', get_or-set_same l i e d il) re
  stored l i k e false q il ki re rest =
      let ne = eqb-false k i q in
      let lt : k < i = omega arith in
      rw (get_or-set_other l i k e d ne) (rest lt)

  more_in : (a : A) (i : ℕ) (x : A) → i < n → i < count → Done a i x → Step i x → Done a (suc i) (f i x)
  more_in a i x hn hc dn st =
      let il : i < length (list x) = rw dn.long hn in
      record {
        keeps = st.keeps;
        long = rw (st.stores hc) (rw length-set dn.long);
        start = λ o. dn.start (st.right hc o).0;
        each =
            λ o k ki kc.
            rw (st.stores hc)
            (stored (list x) i k st.entry (eqb k i) refl il ki (st.right hc o).1
            (λ lt. dn.each (st.right hc o).0 k lt kc));
        past =
            λ k ck kn.
            let ne : k ≢ i = λ q. omega arith in
            rw (st.stores hc) (rw (get_or-set_other (list x) i k st.entry d ne) (dn.past k ck kn));
      }

  more_out : (a : A) (i : ℕ) (x : A) → count ≤ i → Done a i x → Step i x → Done a (suc i) (f i x)
  more_out a i x hc dn st =
      rw (st.out hc)
      (record {
        keeps = dn.keeps;
        long = dn.long;
        start = dn.start;
        each = λ o k ki kc. dn.each o k (omega arith) kc;
        past = dn.past;
      })

  more : (a : A) (i : ℕ) (x : A) (b : Bool) → ltb i count ≡ b → i < n → Done a i x → Step i x → Done a (suc i) (f i x)
  more a i x true q hn dn st = more_in a i x hn (ltb-true i count q) dn st
  more a i x false q hn dn st = more_out a i x (ltb-false i count q) dn st

  -- the steps one after another
  done : (a : A) → Done a 0 a → ((i : ℕ) (x : A) → i < n → Keeps x → Step i x) → (m : ℕ) → m ≤ n → Done a m (iterate f a m)
  unfolding iterate
  done a z st zero h = z
  done a z st (suc m) h =
      let dn = done a z st m (omega arith) in
      more a m (iterate f a m) (ltb m count) refl (omega arith) dn (st m (iterate f a m) (omega arith) dn.keeps)

  begun : (a : A) → Keeps a → list a ≡ replicate n blank → Done a 0 a
  begun a k e =
      record {
        keeps = k;
        long = rw e (length-replicate n blank);
        start = λ o. o;
        each = λ o j j0 jc. absurd (omega arith);
        past = λ j cj jn. rw e (get_or-replicate n j blank d jn);
      }

  kept : (b : Bool) (next x : A) → Keeps next → Keeps x → Keeps (cond b next x)
  kept true next x kn kx = kn
  kept false next x kn kx = kx

  -- a step that tests the count
  pub step :
      (i : ℕ) (x next : A) (entry : B) → f i x ≡ cond (ltb i count) next x → Keeps next → Keeps x →
      list next ≡ set (list x) i entry → (ok next ≡ true → (ok x ≡ true) × R entry) → Step i x
  step i x next entry e kn kx s r =
      record {
        keeps = rw e (kept (ltb i count) next x kn kx);
        entry = entry;
        stores =
            λ h.
            let t = lt-ltb i count h in
            rw (e, t) s;
        right =
            λ h o.
            let t = lt-ltb i count h in
            r (rw (e, t) at o);
        out =
            λ h.
            let t = le-ltb i count h in
            rw (e, t);
      }

  -- a whole list that was read from a: it is filled, and so reading stood at a
  pub filled :
      (a : A) → Keeps a → list a ≡ replicate n blank → (ok a ≡ true → count ≤ n) →
      ((i : ℕ) (x : A) → i < n → Keeps x → Step i x) → ok (iterate f a n) ≡ true →
      (ok a ≡ true) × (Keeps (iterate f a n) × Filled n count d blank R (list (iterate f a n)))
  filled a k e few st o =
      let dn = done a (begun a k e) st n (omega arith) in
      let c : count ≤ n = few (dn.start o) in (
        dn.start o,
        (
          dn.keeps,
          record { few = c; long = dn.long; each = λ j jc. dn.each o j (omega arith) jc; past = dn.past },
        ),
      )
