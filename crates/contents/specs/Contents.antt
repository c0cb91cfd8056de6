-- The contents of a sheet file (paper 01, "The sheet file", first item, and rows 2 and 3 of "When no piece is given").
use Rattle.std.specs.Prelude.{ℕ, ◌+◌, ◌-◌, List, Bool, cond, eqb, length}
use Rattle.cursor.specs.declared.Cursor.{Cursor}
use Rattle.contents.specs.declared.Contents.{Contents}
use Rattle.cursor.specs.Cursor.{within, advanced, byte_field, word_field}

-- refusal 2 is for a file that is not so: 22 to 4,096 bytes
unfoldable pub sized : List ℕ → Bool
sized s = within 22 (length s) 4096

-- one entry of 5 bytes: the kind; the offset, which must be the last body's end, `start`; the length, which must be at least `least`
-- and must not pass the file's end
unfoldable pub entry_field : List ℕ → ℕ → ℕ → ℕ → Cursor → Cursor
entry_field s kind start least cursor =
    word_field s 22 least (length s - start)
    (word_field s 22 start start
    (byte_field s 22 kind kind cursor))

-- the version, 1 or 2
unfoldable pub version_of : List ℕ → Cursor
version_of s = byte_field s 22 1 2 (advanced 0 0)

-- how many parameters (paper: allowances) a sheet of this version has at most, and how many coefficients a guard (paper: limit) has
unfoldable pub most_parameters : ℕ → ℕ
most_parameters version = cond (eqb version 2) 4 3

-- the version, then the count 4
unfoldable pub head_of : List ℕ → Cursor
head_of s = byte_field s 22 4 4 (version_of s)

-- the entry of body 1, which starts at byte 22; then each body starts where the last ended
unfoldable pub one_of : List ℕ → Cursor
one_of s = entry_field s 1 22 0 (head_of s)

-- where body 1 ends
unfoldable pub first_of : List ℕ → ℕ
first_of s = 22 + (one_of s).word

-- the entry of body 2, which starts there
unfoldable pub two_of : List ℕ → Cursor
two_of s = entry_field s 2 (first_of s) 0 (one_of s)

-- where body 2 ends
unfoldable pub second_of : List ℕ → ℕ
second_of s = first_of s + (two_of s).word

-- the entry of body 3
unfoldable pub three_of : List ℕ → Cursor
three_of s = entry_field s 3 (second_of s) 0 (two_of s)

-- where body 3 ends
unfoldable pub third_of : List ℕ → ℕ
third_of s = second_of s + (three_of s).word

-- the entry of body 4, whose length is all that is left of the file
unfoldable pub four_of : List ℕ → Cursor
four_of s = entry_field s 4 (third_of s) (length s - third_of s) (three_of s)

-- the contents: where reading them ended, the version, and the ends of bodies 1, 2 and 3
unfoldable pub contents_of : List ℕ → Contents
contents_of s = record { cursor = four_of s; version = (version_of s).byte; first = first_of s; second = second_of s; third = third_of s }
