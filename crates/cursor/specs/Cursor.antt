-- Reading a file field by field (paper 01, "The sheet file", and row 4 of "When no piece is given").
--
-- A `Cursor` says where reading stands. While it is ok, `at` is the next byte and `byte` or `word` the field read last. Once a field is
-- wrong it is stopped: `at` is then the place of the refusal, and every later step leaves it so. So the first wrong field in file order
-- decides.
use Rattle.std.specs.Prelude.{ℕ, zero, suc, ◌+◌, ◌-◌, ◌*◌, ◌%◌, List, Bool, true, false, cond, ◌&&◌, get_or, ltb, leb, ℤ, pos, ◌-ℤ◌}
use Rattle.cursor.specs.declared.Cursor.{Cursor}

-- low ≤ value ≤ high
abbrev pub within : ℕ → ℕ → ℕ → Bool
within low value high = leb low value && leb value high

-- reading stands at `at`, the byte read last being `byte`
abbrev pub advanced : ℕ → ℕ → Cursor
advanced at byte = record { ok = true; at = at; byte = byte; word = 0 }

-- reading stands at `at`, the two-byte number read last being `word`
abbrev pub advanced_word : ℕ → ℕ → Cursor
advanced_word at word = record { ok = true; at = at; byte = 0; word = word }

-- reading has stopped: `at` is the place of the refusal
abbrev pub stop : ℕ → Cursor
stop at = record { ok = false; at = at; byte = 0; word = 0 }

-- the next byte of a body that ends at `end`; where none is left, the place is the body's end
unfoldable pub byte_taken : List ℕ → ℕ → Cursor → Cursor
byte_taken s end cursor =
    cond cursor.ok
    (cond (ltb cursor.at end) (advanced (cursor.at + 1) (get_or s cursor.at 0)) (stop end))
    cursor

-- the next two bytes, little-endian, without sign; where two are not left, the place is the body's end
unfoldable pub word_taken : List ℕ → ℕ → Cursor → Cursor
word_taken s end cursor =
    cond cursor.ok
    (cond (leb 2 (end - cursor.at))
    (advanced_word (cursor.at + 2) (get_or s cursor.at 0 + 256 * get_or s (cursor.at + 1) 0))
    (stop end))
    cursor

-- i16 is two's complement: this is the field's number plus 32,768, so that it can be compared without sign
unfoldable pub shifted : ℕ → ℕ
shifted word = (word + 32768) % 65536

-- the number of a signed field, from what `shifted` gives
unfoldable pub signed_of : ℕ → ℤ
signed_of word = pos word -ℤ pos 32768

-- the next two bytes as a number with sign, plus 32,768
unfoldable pub signed_taken : List ℕ → ℕ → Cursor → Cursor
signed_taken s end cursor =
    cond (word_taken s end cursor).ok
    (advanced_word (word_taken s end cursor).at (shifted (word_taken s end cursor).word))
    (word_taken s end cursor)

-- a field was taken and judged: if it is wrong, the place is where it starts. A body that stops early comes first
unfoldable pub judged : Cursor → Cursor → Bool → Cursor
judged before taken right = cond taken.ok (cond right taken (stop before.at)) taken

-- a byte from `low` to `high`
unfoldable pub byte_field : List ℕ → ℕ → ℕ → ℕ → Cursor → Cursor
byte_field s end low high cursor = judged cursor (byte_taken s end cursor) (within low (byte_taken s end cursor).byte high)

-- a byte below a count
unfoldable pub below_field : List ℕ → ℕ → ℕ → Cursor → Cursor
below_field s end count cursor = judged cursor (byte_taken s end cursor) (ltb (byte_taken s end cursor).byte count)

-- a two-byte number without sign, from `low` to `high`
unfoldable pub word_field : List ℕ → ℕ → ℕ → ℕ → Cursor → Cursor
word_field s end low high cursor = judged cursor (word_taken s end cursor) (within low (word_taken s end cursor).word high)

-- a two-byte number with sign that lies from `low` to `high` once 32,768 is added to it
unfoldable pub signed_field : List ℕ → ℕ → ℕ → ℕ → Cursor → Cursor
signed_field s end low high cursor = judged cursor (signed_taken s end cursor) (within low (signed_taken s end cursor).word high)

-- i16, -1,000 to 1,000
abbrev pub number_field : List ℕ → ℕ → Cursor → Cursor
number_field s end cursor = signed_field s end 31768 33768 cursor

-- i16, 0
abbrev pub zero_field : List ℕ → ℕ → Cursor → Cursor
zero_field s end cursor = signed_field s end 32768 32768 cursor

-- a body's end: where bytes are left over, the place is the first of them
unfoldable pub finished : ℕ → Cursor → Cursor
finished end cursor = cond cursor.ok (cond (ltb cursor.at end) (stop cursor.at) cursor) cursor

-- a counted list: step 0, then step 1, .. up to step n - 1
unfoldable pub iterate : {A : Type 0} → (ℕ → A → A) → A → ℕ → A
iterate f a zero = a
iterate f a (suc i) = f i (iterate f a i)
