-- What follows where reading has not stopped: every field on the way was right. No definition of the file stands here.
use Rattle.std.specs.Prelude.{ℕ, ◌+◌, ◌-◌, ◌*◌, ◌≤◌, ◌<◌, ◌≡◌, List, Bool, true, false, cond, ltb, leb, get_or}
use Rattle.std.proofs.Common.{arith}
use Rattle.std.proofs.Math.Path.{refl}
use borrow.Author.Tests.{ltb-true, leb-true, lt-ltb, le-leb}
use Rattle.integer.specs.Apart.{apart}
use Rattle.cursor.specs.declared.Cursor.{Cursor}
use Rattle.cursor.specs.Cursor.{within, advanced, advanced_word, stop, shifted, judged, byte_taken, word_taken, signed_taken}
use Rattle.cursor.specs.Cursor.{byte_field, below_field, word_field, signed_field, finished}
use Rattle.integer.specs.Bools.{and_left, and_right}

-- false is not true
pub no : {A : Type 0} → false ≡ true → A
no h = apart cc

pub within_true : (low value high : ℕ) → within low value high ≡ true → (low ≤ value) × (value ≤ high)
within_true low value high h =
    let l = and_left (leb low value) (leb value high) h in
    let r = and_right (leb low value) (leb value high) h in
    (leb-true low value l, leb-true value high r)

-- a stopped cursor passes through
sticky : (cursor next : Cursor) (o : Bool) → cursor.ok ≡ o → (cond o next cursor).ok ≡ true → cursor.ok ≡ true
sticky cursor next true e h = e
sticky cursor next false e h = h

judged_cases :
    (before taken : Cursor) (o right : Bool) → taken.ok ≡ o → (cond o (cond right taken (stop before.at)) taken).ok ≡ true →
    (taken.ok ≡ true) × ((right ≡ true) × (cond o (cond right taken (stop before.at)) taken ≡ taken))
judged_cases before taken true true e h = (e, (refl, refl))
judged_cases before taken true false e h = no h
judged_cases before taken false right e h =
    let z : false ≡ true = cc in
    no z

-- a judged field that has not stopped was taken and is right
pub judged_right :
    (before taken : Cursor) (right : Bool) → (judged before taken right).ok ≡ true →
    (taken.ok ≡ true) × ((right ≡ true) × (judged before taken right ≡ taken))
unfolding judged
judged_right before taken right h = judged_cases before taken taken.ok right refl h

module _ (s : List ℕ) (end : ℕ) where
  pub byte_taken_ok : (cursor : Cursor) → (byte_taken s end cursor).ok ≡ true → cursor.ok ≡ true
  unfolding byte_taken
  byte_taken_ok cursor h = sticky cursor _ cursor.ok refl h

  below_cases :
      (cursor : Cursor) (o b : Bool) → cursor.ok ≡ o → ltb cursor.at end ≡ b →
      (cond o (cond b (advanced (cursor.at + 1) (get_or s cursor.at 0)) (stop end)) cursor).ok ≡ true → cursor.at < end
  below_cases cursor true true e f h = ltb-true cursor.at end f
  below_cases cursor true false e f h = no h
  below_cases cursor false b e f h =
      let z : false ≡ true = cc in
      no z

  -- a byte that was taken stands before the end
  byte_taken_below : (cursor : Cursor) → (byte_taken s end cursor).ok ≡ true → cursor.at < end
  unfolding byte_taken
  byte_taken_below cursor h = below_cases cursor cursor.ok (ltb cursor.at end) refl refl h

  pub word_taken_ok : (cursor : Cursor) → (word_taken s end cursor).ok ≡ true → cursor.ok ≡ true
  unfolding word_taken
  word_taken_ok cursor h = sticky cursor _ cursor.ok refl h

  pub signed_taken_ok : (cursor : Cursor) → (signed_taken s end cursor).ok ≡ true → cursor.ok ≡ true
  unfolding signed_taken
  signed_taken_ok cursor h = word_taken_ok cursor (sticky (word_taken s end cursor) _ (word_taken s end cursor).ok refl h)

  pub finished_ok : (cursor : Cursor) → (finished end cursor).ok ≡ true → cursor.ok ≡ true
  unfolding finished
  finished_ok cursor h = sticky cursor _ cursor.ok refl h

  pub below_field_right :
      (count : ℕ) (cursor : Cursor) → (below_field s end count cursor).ok ≡ true →
      (cursor.ok ≡ true) × ((below_field s end count cursor).byte < count)
  unfolding below_field
  below_field_right count cursor h =
      let t = byte_taken s end cursor in
      let j = judged_right cursor t (ltb t.byte count) h in
      (byte_taken_ok cursor j.0, rw j.1.1 (ltb-true t.byte count j.1.0))

  -- a field that is right, where reading stands
  pub byte_field_taken :
      (low high at : ℕ) (cursor : Cursor) → cursor.ok ≡ true → cursor.at ≡ at → at < end → within low (get_or s at 0) high ≡ true →
      byte_field s end low high cursor ≡ advanced (at + 1) (get_or s at 0)
  unfolding byte_field judged byte_taken
  byte_field_taken low high at cursor o e h w =
      let t = lt-ltb at end h in
      rw (o, e) (rw t (rw w refl))

  pub signed_field_taken :
      (low high at : ℕ) (cursor : Cursor) → cursor.ok ≡ true → cursor.at ≡ at → at + 2 ≤ end →
      within low (shifted (get_or s at 0 + 256 * get_or s (at + 1) 0)) high ≡ true →
      signed_field s end low high cursor ≡ advanced_word (at + 2) (shifted (get_or s at 0 + 256 * get_or s (at + 1) 0))
  unfolding signed_field judged signed_taken word_taken
  signed_field_taken low high at cursor o e h w =
      let t = le-leb 2 (end - at) (omega arith) in
      rw (o, e) (rw t (rw w refl))

  -- a field that was read stands before the end
  pub below_field_below : (count : ℕ) (cursor : Cursor) → (below_field s end count cursor).ok ≡ true → cursor.at < end
  unfolding below_field
  below_field_below count cursor h =
      let t = byte_taken s end cursor in
      byte_taken_below cursor (judged_right cursor t (ltb t.byte count) h).0

  -- a field depends on where it stands alone
  pub below_field_from :
      (count : ℕ) (cursor : Cursor) → cursor.ok ≡ true →
      below_field s end count cursor ≡ below_field s end count (advanced cursor.at 0)
  unfolding below_field judged byte_taken
  below_field_from count cursor o = rw o refl

  module _ (low high : ℕ) (cursor : Cursor) where
    pub byte_field_below : (byte_field s end low high cursor).ok ≡ true → cursor.at < end
    unfolding byte_field
    byte_field_below h =
        let t = byte_taken s end cursor in
        byte_taken_below cursor (judged_right cursor t (within low t.byte high) h).0

    pub byte_field_from : cursor.ok ≡ true → byte_field s end low high cursor ≡ byte_field s end low high (advanced cursor.at 0)
    unfolding byte_field judged byte_taken
    byte_field_from o = rw o refl

    pub word_field_right :
        (word_field s end low high cursor).ok ≡ true →
        (cursor.ok ≡ true) × ((low ≤ (word_field s end low high cursor).word) × ((word_field s end low high cursor).word ≤ high))
    unfolding word_field
    word_field_right h =
        let t = word_taken s end cursor in
        let j = judged_right cursor t (within low t.word high) h in
        (word_taken_ok cursor j.0, rw j.1.1 (within_true low t.word high j.1.0))

    pub byte_field_right :
        (byte_field s end low high cursor).ok ≡ true →
        (cursor.ok ≡ true) × ((low ≤ (byte_field s end low high cursor).byte) × ((byte_field s end low high cursor).byte ≤ high))
    unfolding byte_field
    byte_field_right h =
        let t = byte_taken s end cursor in
        let j = judged_right cursor t (within low t.byte high) h in
        (byte_taken_ok cursor j.0, rw j.1.1 (within_true low t.byte high j.1.0))

    pub word_field_ok : (word_field s end low high cursor).ok ≡ true → cursor.ok ≡ true
    unfolding word_field
    word_field_ok h =
        let t = word_taken s end cursor in
        word_taken_ok cursor (judged_right cursor t (within low t.word high) h).0

    pub signed_field_right :
        (signed_field s end low high cursor).ok ≡ true →
        (cursor.ok ≡ true) × ((low ≤ (signed_field s end low high cursor).word) × ((signed_field s end low high cursor).word ≤ high))
    unfolding signed_field
    signed_field_right h =
        let t = signed_taken s end cursor in
        let j = judged_right cursor t (within low t.word high) h in
        (signed_taken_ok cursor j.0, rw j.1.1 (within_true low t.word high j.1.0))
