-- `bodies_of` meets its contract: code and definition are one composition. Assumes nothing.
use Rattle.reading.specs.File.{bodies_of}
use Rattle.reading.proofs.bodies_of.Goals as goal

pub returns : goal.returns
unfolding bodies_of
returns c =
    let copied = c.before.before.before.before.before.before in
    let four = copied.before.before.before.before.before in
    let three = four.before in
    let two = three.before.before in
    let one = two.before.before in
    simp (
      four.route_at-four.ensures,
      three.transitions_at-three.ensures,
      two.locations_at-two.ensures,
      one.parameters_at-one.ensures,
      one.most_parameters-most.ensures,
    )
