-- The state of a session: sources, and the kinds of the changes between them (ParaScope; this project).
use Rattle.std.specs.Prelude.{ℕ, List, [], ◌∷◌}
use Rattle.ped_tree.specs.Tree.{ProgramTree}
use Rattle.ped_tree.specs.Printing.{program_text}
use Rattle.ped_refs.specs.References.{references, pair_count}
use Rattle.ped_versions.specs.declared.changes.ChangeKind.{ChangeKind}

-- another source of a session, with the change between it and the next source towards the present
abbrev pub Other : Type 0
Other = List ℕ × ChangeKind

-- the past sources, the newest first; the present source; the future sources, the next first; and how many pairs of references the last accepted change, `undo` or `redo` tested, or the opening
pub record State : Type 0 where
  pub past : List Other
  pub present : List ℕ
  pub future : List Other
  pub tested : ℕ

-- a session opens on the printed text of a program, whose pairs are tested
abbrev pub opened : ProgramTree → State
opened t = record { past = []; present = program_text t; future = []; tested = pair_count (references t) }

-- an accepted change puts the present source into the past and drops the future
abbrev pub changed_to : List ℕ → ChangeKind → ℕ → State → State
changed_to text change tested s = record { past = (s.present, change) ∷ s.past; present = text; future = []; tested = tested }

-- the newest past source becomes the present one, and the present one the next of the future
abbrev pub gone_back_to : Other → List Other → State → State
gone_back_to other past s = record { past = past; present = other.0; future = (s.present, other.1) ∷ s.future; tested = 0 }

-- the next future source becomes the present one, and the present one the newest of the past
abbrev pub gone_forward_to : Other → List Other → State → State
gone_forward_to other future s = record { past = (s.present, other.1) ∷ s.past; present = other.0; future = future; tested = 0 }
