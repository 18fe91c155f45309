use Rattle.ped_graph.specs.ped_symbols.proofs.RightUseLaws.Whole.{right_program}
use Rattle.ped_laws.proofs.ConflictLaws.MakingPrograms.{program_made}
use Rattle.ped_laws.proofs.conflicts.making.accesses_are_made.Goals as goal

pub returns : goal.returns
returns c = λ t data_bytes valid. program_made t valid (right_program t valid) data_bytes
