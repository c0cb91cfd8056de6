-- `entries::contents_of` meets its contract: code and definition are one composition. Assumes nothing.
use Rattle.contents.specs.Contents.{contents_of, version_of, head_of, one_of, first_of, two_of, second_of, three_of, third_of, four_of}
use Rattle.contents.proofs.entries.contents_of.Goals as goal

pub returns : goal.returns
unfolding contents_of version_of head_of one_of first_of two_of second_of three_of third_of four_of
returns c =
    simp (
      c.entry_field-four.ensures,
      c.saturating_sub-rest.ensures,
      c.from-2.ensures,
      c.entry_field-three.ensures,
      c.from.ensures,
      c.entry_field-two.ensures,
      c.from-first.ensures,
      c.entry_field-one.ensures,
      c.byte_field-count.ensures,
      c.byte_field-version.ensures,
    )
