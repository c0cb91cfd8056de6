-- `index_of` meets its contract: code and definition are one composition. Assumes nothing.
use Rattle.indexing.specs.Indexed.{index_of}
use Rattle.indexing.proofs.index_of.Goals as goal

pub returns : goal.returns
unfolding index_of
returns c =
    let four = c.before.before.before.before.before in
    let three = four.before in
    let two = three.before.before in
    let one = two.before.before in
    simp (
      four.route_at-four.ensures,
      three.transition_places-three.ensures,
      two.location_places-two.ensures,
      one.parameters_at-one.ensures,
      one.most_parameters-most.ensures,
    )
