-- The list of references that the code keeps, by the references that it stands for (this project).
use Rattle.std.specs.Prelude.{◌≡◌, ℕ, ◌^◌, ◌<◌, List, map, length, codes, if◌then◌else◌}
use Rattle.ped_base.specs.Lists.{is_same_text}
use Rattle.ped_tree.specs.Tree.{ProgramTree}
use Rattle.ped_refs.specs.References.{Reference, references, outermost, pair_count}
use Rattle.ped_refs.specs.declared.references.RefName.{RefName}
use Rattle.ped_refs.specs.declared.references.RefName.TheVariants.{Named, In, Out}
use Rattle.ped_refs.specs.declared.references.Ref.{Ref}
use Rattle.ped_refs.specs.declared.references.Refs.{Refs}

-- a name in the list: the data lines and the output are no variables
abbrev pub ref_name : List ℕ → RefName
ref_name x = if is_same_text x (codes "(IN)") then In else (if is_same_text x (codes "(OUT)") then Out else Named x)

-- a reference in the list: its statement, its number, its name, and whether it writes
abbrev pub ref_of : Reference → Ref
ref_of r = record { statement = r.statement; number = r.number; name = ref_name r.access.name; writes = r.access.writes }

-- the list has exactly the references of the program, in text order, and for each the outermost DO loop around it
pub record AreInOrder (t : ProgramTree) (refs : Refs) : Type 0 where
  pub items : refs.items ≡ map ref_of (references t)
  pub outer : refs.outer ≡ map outermost (references t)

-- and it has the number of the ordered pairs of references that may depend on each other
pub record AreReferences (t : ProgramTree) (refs : Refs) : Type 0 where
  pub in_order : AreInOrder t refs
  pub pairs : refs.pairs ≡ pair_count (references t)

-- the list has the references of some program, which has fewer than 2^32
pub record AreOfProgram (refs : Refs) : Type 0 where
  pub tree : ProgramTree
  pub are : AreInOrder tree refs
  pub few : length (references tree) < 2 ^ 32
