use Rattle.std.proofs.Common.{◌&&◌, take, IsTrue}
use Rattle.std.specs.List.{list_any}
use Rattle.ped_refs.specs.Occurrences.{references_of}
use Rattle.ped_splits.specs.CodeUnits.{refers_by}
use Rattle.ped_splits.proofs.ArrowLaws.{HasAdded}
use Rattle.ped_splits.proofs.arrows.add_links.Given as goal

abbrev pub invariant-loop-name : goal.invariant-loop-name
invariant-loop-name l = HasAdded l.initial.arrows l.arrows
    (λ i j. IsTrue (list_any (λ x. refers_by l.parted.number l.parted.homes.now (references_of l.found) x i && refers_by l.parted.number l.parted.homes.now (references_of l.found) x j) (take l.name-index l.parted.statement.now.private)))
