-- What the code keeps while it lists references. Only contracts of private functions use these definitions.
use Rattle.std.specs.Prelude.{ℕ, List, map}
use Rattle.ped_tree.specs.Views.{expr_tree}
use Rattle.ped_tree.specs.Tree.{StmtTree}
use Rattle.ped_tree.specs.Accesses.{Access, own_accesses}
use Rattle.ped_tree.specs.Nests.{Loop, indices_of}
use Rattle.ped_refs.specs.References.{Reference, numbered_accesses}
use Rattle.ped_refs.specs.Loops.{nest_of}
use Rattle.ped_refs.specs.Occurrences.{name_text}
use Rattle.ped_refs.specs.declared.accesses.Access.{Access as CodeAccess}
use Rattle.ped_refs.specs.declared.surroundings.Surroundings.{Surroundings}

-- the read or write that the code keeps
abbrev pub access_of : CodeAccess → Access
access_of a = record { name = name_text a.name; writes = a.writes; subscripts = map expr_tree a.subscripts.now }

-- the reads and writes that the code keeps
abbrev pub accesses_of : List CodeAccess → List Access
accesses_of accesses = map access_of accesses

-- the named constants
abbrev pub constants_round : Surroundings → List (List ℕ)
constants_round around = around.constants.now

-- the DO loops around a statement
abbrev pub nest_round : Surroundings → List Loop
nest_round around = nest_of around.loops.now

-- the variables of the DO loops around a statement
abbrev pub indices_round : Surroundings → List (List ℕ)
indices_round around = indices_of (nest_round around)

-- the references that the statement with this number has by itself
abbrev pub own_references : Surroundings → ℕ → StmtTree → List Reference
own_references around n s = numbered_accesses n 1 (nest_round around) (own_accesses (constants_round around) (indices_round around) s)
