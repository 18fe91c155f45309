use Rattle.std.proofs.Common.{ℕ, List, [], Option, refl, ap, sym, subst, option_map, Bor}
use Rattle.ped_io.specs.Outside.{AddsOnly}
use Rattle.ped_answer.specs.Answer.{data_inputs, IsOneOf, AnswersData, IsSession}
use Rattle.ped_answer.specs.TestCounts.{TestsData, TestsSession}
use Rattle.ped_answer.specs.Serving.{Call, Served}
use Rattle.ped_answer.proofs.Inputs.{text_served, session_given, session_ends}
use Rattle.ped_answer.proofs.sessions.answer_data.Goals as goal

-- the data are in a file
pub returns-in-Some-clause-served : goal.returns-in-Some-clause-served
returns-in-Some-clause-served g c =
    let text = c.args.text.now in
    let script = c.args.script.now in
    let call : Call = record {
      told = g.F.Shelf.told c.args.shelf.now;
      may = g.F.Shelf.may_hold c.answer_data_file.new.shelf;
      counts = g.F.Shelf.count c.args.shelf.now;
      counts_after = g.F.Shelf.count c.answer_data_file.new.shelf;
      taken = g.K.Sink.taken c.args.out.now;
      taken_after = g.K.Sink.taken c.answer_data_file.new.out;
      sent = g.K.Sink.sent c.args.out.now;
      sent_after = g.K.Sink.sent c.answer_data_file.new.out;
      faults = g.K.Sink.faults c.args.out.now;
      faults_after = g.K.Sink.faults c.answer_data_file.new.out;
      steps = c.args.steps.now;
      steps_after = c.answer_data_file.new.steps;
      status = c.answer_data_file.result;
    } in
    subst (λ (d : Option (List ℕ)). Served (data_inputs d) (λ files. AnswersData d files (IsSession text script)) (λ files. TestsData d files (TestsSession text script)) call)
    (sym (ap (option_map (λ (file : Bor (List ℕ)). file.now)) c.in-Some.is)) c.answer_data_file.ensures.served

-- the data are empty
pub returns-in-None-clause-served : goal.returns-in-None-clause-served
returns-in-None-clause-served g c =
    let text = c.args.text.now in
    let script = c.args.script.now in
    let call : Call = record {
      told = g.F.Shelf.told c.args.shelf.now;
      may = g.F.Shelf.may_hold c.args.shelf.now;
      counts = g.F.Shelf.count c.args.shelf.now;
      counts_after = g.F.Shelf.count c.args.shelf.now;
      taken = g.K.Sink.taken c.args.out.now;
      taken_after = g.K.Sink.taken c.answer_texts.new.out;
      sent = g.K.Sink.sent c.args.out.now;
      sent_after = g.K.Sink.sent c.answer_texts.new.out;
      faults = g.K.Sink.faults c.args.out.now;
      faults_after = g.K.Sink.faults c.answer_texts.new.out;
      steps = c.args.steps.now;
      steps_after = c.answer_texts.new.steps;
      status = c.answer_texts.result;
    } in
    subst (λ (d : Option (List ℕ)). Served (data_inputs d) (λ files. AnswersData d files (IsSession text script)) (λ files. TestsData d files (TestsSession text script)) call)
    (sym (ap (option_map (λ (file : Bor (List ℕ)). file.now)) c.in-None.is))
    (text_served (IsSession text script []) (TestsSession text script []) call
    (λ files failed. session_given text script [] files failed)
    (session_ends c.answer_texts.result c.answer_texts.ensures.ends) (λ name. refl) c.answer_texts.ensures.answer c.answer_texts.ensures.write_fault c.answer_texts.ensures.faults c.answer_texts.ensures.untold c.answer_texts.ensures.told_sent
    c.answer_texts.ensures.tests c.answer_texts.ensures.untested c.answer_texts.ensures.steps)

pub returns-in-Some-clause-names : goal.returns-in-Some-clause-names
returns-in-Some-clause-names g c =
    subst (λ (d : Option (List ℕ)). AddsOnly (IsOneOf (data_inputs d)) (g.F.Shelf.read_names c.args.shelf.now) (g.F.Shelf.read_names c.answer_data_file.new.shelf))
    (sym (ap (option_map (λ (file : Bor (List ℕ)). file.now)) c.in-Some.is)) c.answer_data_file.ensures.names

pub returns-in-None-clause-names : goal.returns-in-None-clause-names
returns-in-None-clause-names g c = ([], refl, tt)
