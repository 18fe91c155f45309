use Rattle.ped_refs.specs.References.{references}
use Rattle.ped_refs.proofs.Ascending.{Precedes, ascending_pairs, references_ascend}
use Rattle.ped_refs.proofs.laws.references_ascend.Goals as goal

pub returns : goal.returns
returns c = λ t. ascending_pairs Precedes (references t) (references_ascend t)
