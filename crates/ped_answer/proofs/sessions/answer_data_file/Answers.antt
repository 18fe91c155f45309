use Rattle.std.proofs.Common.{◌≤◌, ℕ, List, [], length, Some, Err, refl, ap, sym, subst, ◌∙◌}
use Rattle.ped_answer.specs.Answer.{data_input, IsSession}
use Rattle.ped_answer.specs.TestCounts.{TestsSession}
use Rattle.ped_answer.specs.Serving.{Call}
use Rattle.ped_answer.proofs.Inputs.{read_served, unread_served, text_served, session_given, session_ends}
use Rattle.ped_answer.proofs.ReadNames.{first_read}
use Rattle.ped_answer.proofs.sessions.answer_data_file.Goals as goal

-- the file is read, and the rest is served on its bytes
pub returns-in-Ok-clause-served : goal.returns-in-Ok-clause-served
returns-in-Ok-clause-served g c =
    let bytes = c.as_slice.result.now in
    let rest : Call = record {
      told = g.F.Shelf.told c.load.new.shelf;
      may = g.F.Shelf.may_hold c.load.new.shelf;
      counts = g.F.Shelf.count c.load.new.shelf;
      counts_after = g.F.Shelf.count c.load.new.shelf;
      taken = g.K.Sink.taken c.args.out.now;
      taken_after = g.K.Sink.taken c.answer_texts.new.out;
      sent = g.K.Sink.sent c.args.out.now;
      sent_after = g.K.Sink.sent c.answer_texts.new.out;
      faults = g.K.Sink.faults c.args.out.now;
      faults_after = g.K.Sink.faults c.answer_texts.new.out;
      steps = c.args.steps.now;
      steps_after = c.answer_texts.new.steps;
      status = c.answer_texts.result;
    } in
    read_served (data_input c.args.name.now) [] (λ input files. IsSession c.args.text.now c.args.script.now input) (λ input files. TestsSession c.args.text.now c.args.script.now input)
    (g.F.Shelf.told c.args.shelf.now) (g.F.Shelf.count c.args.shelf.now) bytes rest
    (λ files may. c.in-Ok.ensures.loaded files may ∙ ap Some (sym c.as_slice.ensures))
    (subst (λ (x : List ℕ). length x ≤ 4194304) (sym c.as_slice.ensures) c.in-Ok.ensures.within)
    c.load.ensures.counts c.load.ensures.others c.load.ensures.same
    (text_served (IsSession c.args.text.now c.args.script.now bytes) (TestsSession c.args.text.now c.args.script.now bytes) rest
    (λ files failed. session_given c.args.text.now c.args.script.now bytes files failed)
    (session_ends c.answer_texts.result c.answer_texts.ensures.ends) (λ name. refl) c.answer_texts.ensures.answer c.answer_texts.ensures.write_fault c.answer_texts.ensures.faults c.answer_texts.ensures.untold c.answer_texts.ensures.told_sent
    c.answer_texts.ensures.tests c.answer_texts.ensures.untested c.answer_texts.ensures.steps)

-- it isn't, and that is said
pub returns-in-Err-clause-served : goal.returns-in-Err-clause-served
returns-in-Err-clause-served g c =
    let said : Call = record {
      told = g.F.Shelf.told c.args.shelf.now;
      may = g.F.Shelf.may_hold c.load.new.shelf;
      counts = g.F.Shelf.count c.args.shelf.now;
      counts_after = g.F.Shelf.count c.load.new.shelf;
      taken = g.K.Sink.taken c.args.out.now;
      taken_after = g.K.Sink.taken c.say_unread.new.out;
      sent = g.K.Sink.sent c.args.out.now;
      sent_after = g.K.Sink.sent c.say_unread.new.out;
      faults = g.K.Sink.faults c.args.out.now;
      faults_after = g.K.Sink.faults c.say_unread.new.out;
      steps = c.args.steps.now;
      steps_after = c.args.steps.now;
      status = c.say_unread.result;
    } in
    unread_served (data_input c.args.name.now) [] (λ input files. IsSession c.args.text.now c.args.script.now input) (λ input files. TestsSession c.args.text.now c.args.script.now input) c.in-Err.fault said
    (λ e. c.in-Err.ensures.fault (ap Err e)) (λ e. c.in-Err.ensures.too_long (ap Err e))
    c.load.ensures.counts c.load.ensures.others
    c.say_unread.ensures.answer c.say_unread.ensures.ends c.say_unread.ensures.write_fault c.say_unread.ensures.faults c.say_unread.ensures.untold c.say_unread.ensures.told_sent refl

pub returns-in-Ok-clause-names : goal.returns-in-Ok-clause-names
returns-in-Ok-clause-names g c = first_read (data_input c.args.name.now) [] _ _ c.load.ensures.names

pub returns-in-Err-clause-names : goal.returns-in-Err-clause-names
returns-in-Err-clause-names g c = first_read (data_input c.args.name.now) [] _ _ c.load.ensures.names
