use Rattle.std.proofs.Common.{[]}
use Rattle.std.specs.Str.Lines.{lines}
use Rattle.ped_interleavings.specs.ped_eval.specs.ped_store.specs.Stores.{store_at_start}
use Rattle.ped_interleavings.specs.ped_eval.specs.Runs.{run_all}
use Rattle.ped_interleavings.specs.ped_eval.specs.Outcomes.{setting_of, run_of, outcome}
use Rattle.ped_interleavings.specs.Interleavings.{at_start}
use Rattle.ped_order.proofs.Outcomes.{none_conflict, agrees}
use Rattle.ped_order.proofs.agreeing.interleavings_agree.Goals as goal

pub returns : goal.returns
returns c = λ t data_bytes choices o valid free i.
    let p = setting_of t in
    let start = store_at_start (lines data_bytes) in
    let acts = (run_of t data_bytes).acts in
    let own = c.own_store.ensures (run_all p t.body 1 []) start (c.told_by_acts.ensures.statements p t.body 1 []) in
    let apart = none_conflict acts (λ a b. c.race_free_acts.ensures acts a b free.1) (c.lines_are_written.ensures p t.body 1 [] start) in
    c.one_interleaving.ensures t (at_start t data_bytes choices) o (outcome t data_bytes) i
    (agrees t data_bytes choices (c.program_runs.ensures.fits t data_bytes) own (c.no_stop_in_loops.ensures.program t valid.fits) free.0 apart)
