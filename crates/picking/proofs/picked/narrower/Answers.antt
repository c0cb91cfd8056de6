-- The place that is picked has several numbers, since both that it may be have.
use Rattle.picking.proofs.picked.narrower.Goals as goal

pub returns-then-width : goal.returns-then-width
returns-then-width c =
    (c.requires.1.0, c.several.ensures.yes c.if-several.true)
