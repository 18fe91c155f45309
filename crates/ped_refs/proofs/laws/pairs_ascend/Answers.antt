use Rattle.ped_refs.specs.References.{references, pairs}
use Rattle.ped_refs.proofs.Ascending.{PairPrecedes, ascending_pairs, pairs_ascend}
use Rattle.ped_refs.proofs.laws.pairs_ascend.Goals as goal

pub returns : goal.returns
returns c = λ t. ascending_pairs PairPrecedes (pairs (references t)) (pairs_ascend t)
