-- A file whose contents are fine has version 1 or 2, and a sheet of any version has at most as many parameters as the code's records.
use Rattle.std.specs.Prelude.{ℕ, ◌-◌, ◌≤◌, ◌≡◌, List, ◌⊎◌, Bool, true, false, cond, eqb, length}
use Rattle.std.proofs.Math.Path.{refl}
use Rattle.std.proofs.Common.{inl, inr, arith, eqb-true}
use Rattle.std.proofs.lemmas.Bool.{eqb-false}
use Rattle.expr.specs.Records.{PARAMETERS}
use Rattle.cursor.specs.declared.Cursor.{Cursor}
use Rattle.cursor.specs.Cursor.{advanced, byte_field, word_field}
use Rattle.cursor_laws.specs.Laws.{byte_field_right, word_field_ok}
use Rattle.contents.specs.Contents.{entry_field, version_of, most_parameters, head_of, one_of, first_of, two_of, second_of, three_of, third_of}
use Rattle.contents.specs.Contents.{four_of, contents_of}

most_cases : (b : Bool) → cond b 4 3 ≤ PARAMETERS
most_cases true = omega arith
most_cases false = omega arith

pub most_few : (version : ℕ) → most_parameters version ≤ PARAMETERS
unfolding most_parameters
most_few version = most_cases (eqb version 2)

one_or_two : (v : ℕ) (b : Bool) → eqb v 2 ≡ b → (1 ≤ v) × (v ≤ 2) → (v ≡ 1) ⊎ (v ≡ 2)
one_or_two v true e h = inr (eqb-true v 2 e)
one_or_two v false e h =
    let n = eqb-false v 2 e in
    inl (omega arith)

module _ (s : List ℕ) where
  entry_field_ok : (kind start least : ℕ) (cursor : Cursor) → (entry_field s kind start least cursor).ok ≡ true → cursor.ok ≡ true
  unfolding entry_field
  entry_field_ok kind start least cursor h =
      let kinds = byte_field s 22 kind kind cursor in
      let offset = word_field s 22 start start kinds in
      (byte_field_right s 22 kind kind cursor
      (word_field_ok s 22 start start kinds (word_field_ok s 22 least (length s - start) offset h))).0

  -- what was read of the contents was read after the version
  pub version_right : (contents_of s).cursor.ok ≡ true → ((contents_of s).version ≡ 1) ⊎ ((contents_of s).version ≡ 2)
  unfolding contents_of four_of three_of two_of one_of head_of version_of
  version_right h =
      let three = entry_field_ok 4 (third_of s) (length s - third_of s) (three_of s) h in
      let two = entry_field_ok 3 (second_of s) 0 (two_of s) three in
      let one = entry_field_ok 2 (first_of s) 0 (one_of s) two in
      let head = entry_field_ok 1 22 0 (head_of s) one in
      let version = (byte_field_right s 22 4 4 (version_of s) head).0 in
      one_or_two (version_of s).byte (eqb (version_of s).byte 2) refl (byte_field_right s 22 1 2 (advanced 0 0) version).1
