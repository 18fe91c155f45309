use Rattle.std.proofs.Common.{[]}
use Rattle.std.specs.Str.Lines.{lines}
use Rattle.ped_laws.specs.ped_eval.specs.ped_store.specs.Stores.{store_at_start}
use Rattle.ped_laws.specs.ped_eval.specs.Outcomes.{setting_of}
use Rattle.ped_rows.proofs.BoundLaws.RunLengths.{all_long}
use Rattle.ped_rows.proofs.bounded.runs_are_bounded.Goals as goal

pub returns : goal.returns
returns c = λ t data_bytes. all_long (setting_of t) t.body 1 [] (store_at_start (lines data_bytes))
