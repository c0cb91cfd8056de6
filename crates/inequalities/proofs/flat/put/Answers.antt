-- The constant, and the coefficients behind it.
use mir.Syntax.{w32}
use mir.ValLaws.{to_z-of_z}
use borrow.Author.Rules.{rules}
use Rattle.inequalities.specs.Put.{put_whole}
use Rattle.inequalities.proofs.flat.put.Goals as goal

pub returns : goal.returns
returns c =
    let a = c.args in
    put_whole a.flat.now c.copy_from_slice.new.self a.at _ a.e c.requires (to_z-of_z w32 a.e.constant (search rules))
    c.copy_from_slice.ensures.after (search rules)
