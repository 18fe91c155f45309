use Rattle.std.proofs.Common.{◌≡◌, take, None}
use Rattle.ped_tree.specs.Tree.{ProgramTree}
use Rattle.ped_rules.specs.ped_graph.specs.Held.{held_of}
use Rattle.ped_refs.specs.References.{references, pairs}
use Rattle.ped_splits.specs.CodeFusing.{IsFirstBack}
use Rattle.ped_splits.proofs.returning.first_among.Given as goal

abbrev pub invariant-loop-n : goal.invariant-loop-n
invariant-loop-n l = (u : ProgramTree) → l.prepared ≡ held_of u → IsFirstBack u l.bodies (take l.n (pairs (references u))) None
