use Rattle.ped_calls.proofs.PlainTexts.{plain_expands, plain_refused}
use Rattle.ped_calls.proofs.laws.plain_files.Goals as goal

pub returns : goal.returns
returns c = record { expands = plain_expands; refused = plain_refused }
