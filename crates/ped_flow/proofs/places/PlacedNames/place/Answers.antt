use Rattle.std.proofs.Common.{List, ℕ, ap, ◌∙◌}
use Rattle.ped_flow.specs.RowPlaces.{place_of}
use Rattle.ped_flow.proofs.Placing.{place_same}
use Rattle.ped_flow.proofs.places.PlacedNames.place.Goals as goal

pub returns : goal.returns
returns c = c.get_index_of.ensures.index ∙ place_same c.args.name.now c.self.inside.names.keys ∙ ap (λ (names : List (List ℕ)). place_of names c.args.name.now) c.self.view_is
