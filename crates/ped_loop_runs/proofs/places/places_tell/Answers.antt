use Rattle.ped_loop_runs.proofs.PastingLaws.ToldPlaces.{place_with}
use Rattle.ped_loop_runs.proofs.places.places_tell.Goals as goal

pub returns : goal.returns
returns c = λ p t l scope one. place_with p t l one scope
