-- What a part of a program does to the scalars that have places. Only contracts of private functions use these definitions.
use Rattle.std.specs.Prelude.{◌≡◌, ℕ, List, [], length, false, not, Option, Some, is_some}
use Rattle.ped_base.specs.Lists.{is_among}
use Rattle.ped_flow.specs.Events.{Event}
use Rattle.ped_flow.specs.Summaries.{summary_events}
use Rattle.ped_flow.specs.Kept.{first_reader}
use Rattle.ped_flow.specs.RowPlaces.{place_of, bit}
use Rattle.ped_flow.specs.Rows.{Holds}
use Rattle.ped_flow.specs.declared.summaries.Summary.{Summary}
use Rattle.ped_flow.specs.declared.parts.Part.{Part}

-- rows say for each scalar that has a place what its paths do to it, whether a statement reads it outside the bodies of all loops of it, and whether it is the variable of a loop
pub record IsPart (names : List (List ℕ)) (p : Part) (sum : List ℕ → Summary) (outside : List ℕ → Option ℕ) (variables : List (List ℕ)) : Type 0 where
  pub width : p.summaries.width ≡ length names
  pub summaries : (x : List ℕ) (i : ℕ) → place_of names x ≡ Some i → Holds p.summaries i (sum x)
  pub loose : (x : List ℕ) (i : ℕ) → place_of names x ≡ Some i → bit p.loose i ≡ is_some (outside x)
  pub indices : (x : List ℕ) (i : ℕ) → place_of names x ≡ Some i → bit p.indices i ≡ is_among x variables

-- some scalars are read and then some are assigned
pub record AreEvents (xs ys : List (List ℕ)) (sum : List ℕ → Summary) (outside : List ℕ → Option ℕ) : Type 0 where
  pub reads : (x : List ℕ) → is_among x xs ≡ is_some (sum x).first
  pub assigns : (x : List ℕ) → is_among x ys ≡ not (sum x).keeps
  pub ends : (x : List ℕ) → (sum x).ends ≡ false
  pub passes : (x : List ℕ) → not (sum x).passes ≡ false
  pub loses : (x : List ℕ) → (sum x).loses ≡ false
  pub loose : (x : List ℕ) → is_among x xs ≡ is_some (outside x)

-- rows say what these events do to each scalar that has a place
abbrev pub IsPartOf : List (List ℕ) → Part → List Event → Type 0
IsPartOf names p events = IsPart names p (λ x. summary_events x events) (λ x. first_reader x events) []
