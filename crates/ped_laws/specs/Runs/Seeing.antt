-- Evaluations and what they see: where a store holds that, they give the same value or fault (this project).
use Rattle.std.specs.Prelude.{◌≡◌, ℕ, List, [], ◌∷◌, Result}
use Rattle.ped_eval.specs.ped_store.specs.Stores.{Store}
use Rattle.ped_eval.specs.Evaluation.{Seen, cell_seen, index_seen, Evaluated}

-- the store holds what was seen; the value of the variable of a DO was given by the place (this project)
abbrev pub Holds : Store → List Seen → Type 0
Holds s [] = Unit {0}
Holds s (cell_seen c content ∷ more) = (s c ≡ content) × Holds s more
Holds s (index_seen c value ∷ more) = Holds s more

-- from each store that holds this, the evaluation sees this and gives this result (this project)
abbrev pub ComesTo : {A : Type 0} → (Store → Evaluated A) → List Seen → Result A ℕ → Type 0
ComesTo e seen result = (s : Store) → Holds s seen → e s ≡ record { seen = seen; result = result }

-- what an evaluation sees determines its result: each store holds what is seen from it, and from each that holds the same it gives the same result (this project)
pub record IsToldBySight {A : Type 0} (e : Store → Evaluated A) : Type 0 where
  pub holds : (s : Store) → Holds s (e s).seen
  pub comes : (s : Store) → ComesTo e (e s).seen (e s).result
