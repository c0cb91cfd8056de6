-- The part of a sheet file that is a body, and why there is none (paper 01, "The sheet file", first item): a file refused by 2 or 3, or
-- another kind, gets an empty part.
use Rattle.std.specs.Prelude.{ℕ, ◌-◌, Bool, cond, ◌&&◌, List, [], eqb, length, take, drop}
use Rattle.answers.specs.Numbers.{numbered}
use Rattle.answers.specs.declared.Numbered.{Numbered}
use Rattle.contents.specs.Contents.{sized, contents_of}
use Rattle.contents.specs.declared.Contents.{Contents}
use Rattle.cursor.specs.Cursor.{within}

-- the kinds that a file has
unfoldable pub is_kind : ℕ → Bool
is_kind kind = within 1 kind 4

-- where the body of a kind starts
unfoldable pub start_of : Contents → ℕ → ℕ
start_of contents kind =
    cond (eqb kind 1) 22 (cond (eqb kind 2) contents.first (cond (eqb kind 3) contents.second contents.third))

-- where the body of a kind ends
unfoldable pub end_of : List ℕ → Contents → ℕ → ℕ
end_of s contents kind =
    cond (eqb kind 1) contents.first (cond (eqb kind 2) contents.second (cond (eqb kind 3) contents.third (length s)))

-- the file is refused by neither 2 nor 3, and the kind is one of its four
unfoldable pub has_body : List ℕ → ℕ → Bool
has_body s kind = sized s && ((contents_of s).cursor.ok && is_kind kind)

-- the body handed out for a kind: that part of the bytes, or an empty part
unfoldable pub body_of : List ℕ → ℕ → List ℕ
body_of s kind =
    cond (has_body s kind)
    (take (end_of s (contents_of s) kind - start_of (contents_of s) kind) (drop (start_of (contents_of s) kind) s))
    []

-- its refusal: the file's comes before the kind's; 0 for a body
unfoldable pub body_refusal : List ℕ → ℕ → Numbered
body_refusal s kind =
    cond (sized s)
    (cond (contents_of s).cursor.ok
    (cond (is_kind kind) (numbered 0 0) (numbered 3 0))
    (numbered 3 (contents_of s).cursor.at))
    (numbered 2 0)
