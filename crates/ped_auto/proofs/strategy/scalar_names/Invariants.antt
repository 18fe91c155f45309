use Rattle.std.proofs.Common.{◌≡◌, map, take, true}
use Rattle.std.specs.List.{list_all}
use Rattle.ped_rules.specs.ped_flow.specs.ped_tree.specs.Tree.{ProgramTree}
use Rattle.ped_refs.specs.Occurrences.{name_text}
use Rattle.ped_auto.proofs.ScalarNames.{passes}
use Rattle.ped_auto.proofs.strategy.scalar_names.Given as goal

-- the names so far are those of scalars
abbrev pub invariant-loop-name : goal.invariant-loop-name
invariant-loop-name g l = record {
  names : l.names ≡ map name_text (take l.name-index l.name-items);
  scalars : (t : ProgramTree) → g.E.Editor.editing.Reads l.editor t → list_all (passes name_text t) (take l.name-index l.name-items) ≡ true;
}
