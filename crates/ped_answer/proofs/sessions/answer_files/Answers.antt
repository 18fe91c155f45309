use Rattle.std.proofs.Common.{◌≤◌, ℕ, List, ◌∷◌, length, Some, Err, refl, ap, sym, subst, ◌∙◌}
use Rattle.std.specs.Prelude.{option_map}
use Rattle.ped_answer.specs.Answer.{source_input, data_inputs, AnswersInput, AnswersData, IsSession}
use Rattle.ped_answer.specs.TestCounts.{TestsInput, TestsData, TestsSession}
use Rattle.ped_answer.specs.Serving.{Call}
use Rattle.ped_answer.proofs.Inputs.{read_served, unread_served}
use Rattle.ped_answer.proofs.ReadNames.{first_read, then_read}
use Rattle.ped_answer.proofs.sessions.answer_files.Goals as goal

-- the file is read, and the rest is served on its bytes
pub returns-in-Ok-clause-served : goal.returns-in-Ok-clause-served
returns-in-Ok-clause-served g c =
    let data_file = option_map (λ (file : _). file.now) c.args.data_file in
    let bytes = c.as_slice.result.now in
    let rest : Call = record {
      told = g.F.Shelf.told c.load.new.shelf;
      may = g.F.Shelf.may_hold c.answer_script_file.new.shelf;
      counts = g.F.Shelf.count c.load.new.shelf;
      counts_after = g.F.Shelf.count c.answer_script_file.new.shelf;
      taken = g.K.Sink.taken c.args.out.now;
      taken_after = g.K.Sink.taken c.answer_script_file.new.out;
      sent = g.K.Sink.sent c.args.out.now;
      sent_after = g.K.Sink.sent c.answer_script_file.new.out;
      faults = g.K.Sink.faults c.args.out.now;
      faults_after = g.K.Sink.faults c.answer_script_file.new.out;
      steps = c.args.steps.now;
      steps_after = c.answer_script_file.new.steps;
      status = c.answer_script_file.result;
    } in
    read_served (source_input c.args.program.now) (source_input c.args.script.now ∷ data_inputs data_file) (λ text files. AnswersInput (source_input c.args.script.now) files (λ commands. AnswersData data_file files (IsSession text commands))) (λ text files. TestsInput (source_input c.args.script.now) files (λ commands. TestsData data_file files (TestsSession text commands)))
    (g.F.Shelf.told c.args.shelf.now) (g.F.Shelf.count c.args.shelf.now) bytes rest
    (λ files may. c.in-Ok.ensures.loaded files (c.answer_script_file.ensures.less files may) ∙ ap Some (sym c.as_slice.ensures))
    (subst (λ (x : List ℕ). length x ≤ 1048576) (sym c.as_slice.ensures) c.in-Ok.ensures.within)
    c.load.ensures.counts c.load.ensures.others c.load.ensures.same
    c.answer_script_file.ensures.served

-- it isn't, and that is said
pub returns-in-Err-clause-served : goal.returns-in-Err-clause-served
returns-in-Err-clause-served g c =
    let data_file = option_map (λ (file : _). file.now) c.args.data_file in
    let said : Call = record {
      told = g.F.Shelf.told c.args.shelf.now;
      may = g.F.Shelf.may_hold c.load.new.shelf;
      counts = g.F.Shelf.count c.args.shelf.now;
      counts_after = g.F.Shelf.count c.load.new.shelf;
      taken = g.K.Sink.taken c.args.out.now;
      taken_after = g.K.Sink.taken c.say_unread.new.out;
      sent = g.K.Sink.sent c.args.out.now;
      sent_after = g.K.Sink.sent c.say_unread.new.out;
      faults = g.K.Sink.faults c.args.out.now;
      faults_after = g.K.Sink.faults c.say_unread.new.out;
      steps = c.args.steps.now;
      steps_after = c.args.steps.now;
      status = c.say_unread.result;
    } in
    unread_served (source_input c.args.program.now) (source_input c.args.script.now ∷ data_inputs data_file) (λ text files. AnswersInput (source_input c.args.script.now) files (λ commands. AnswersData data_file files (IsSession text commands))) (λ text files. TestsInput (source_input c.args.script.now) files (λ commands. TestsData data_file files (TestsSession text commands))) c.in-Err.fault said
    (λ e. c.in-Err.ensures.fault (ap Err e)) (λ e. c.in-Err.ensures.too_long (ap Err e))
    c.load.ensures.counts c.load.ensures.others
    c.say_unread.ensures.answer c.say_unread.ensures.ends c.say_unread.ensures.write_fault c.say_unread.ensures.faults c.say_unread.ensures.untold c.say_unread.ensures.told_sent refl

pub returns-in-Ok-clause-names : goal.returns-in-Ok-clause-names
returns-in-Ok-clause-names g c =
    let data_file = option_map (λ (file : _). file.now) c.args.data_file in
    then_read (source_input c.args.program.now) (source_input c.args.script.now ∷ data_inputs data_file) _ _ _ c.load.ensures.names c.answer_script_file.ensures.names

pub returns-in-Err-clause-names : goal.returns-in-Err-clause-names
returns-in-Err-clause-names g c =
    let data_file = option_map (λ (file : _). file.now) c.args.data_file in
    first_read (source_input c.args.program.now) (source_input c.args.script.now ∷ data_inputs data_file) _ _ c.load.ensures.names
