-- States of sessions by their parts.
use Rattle.std.proofs.Common.{◌≡◌, ℕ, List, [], map}
use Rattle.ped_history.specs.Timeline.{Timeline, timeline}
use Rattle.ped_tree.specs.Tree.{ProgramTree}
use Rattle.ped_tree.specs.Printing.{program_text}
use Rattle.ped_refs.specs.References.{references, pair_count}
use Rattle.ped_versions.specs.declared.versions.Entry.{Entry}
use Rattle.ped_versions.specs.Holding.{other_of}
use Rattle.ped_versions.specs.States.{State, opened}

module _ {L : _} where
  -- the state of a session with these parts
  abbrev pub state_of : List ℕ → Timeline (Entry L) → ℕ → State
  state_of text history tested = record { past = map other_of history.past; present = text; future = map other_of history.future; tested = tested }

  pub opened_by : (t : ProgramTree) (text : List ℕ) (h : Timeline (Entry L)) (tested : ℕ)
      → text ≡ program_text t → h ≡ timeline [] [] 0 → tested ≡ pair_count (references t) → state_of text h tested ≡ opened t
  opened_by t text h tested p q r = λ i. state_of (p i) (q i) (r i)
