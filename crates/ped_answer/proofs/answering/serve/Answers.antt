use Rattle.std.proofs.Common.{[], refl, sym, subst}
use Rattle.ped_words.specs.declared.requests.Request.{Request}
use Rattle.ped_words.specs.Views.{request_view}
use Rattle.ped_answer.specs.Generated.{IsGenerated}
use Rattle.ped_answer.specs.TestCounts.{TestsGenerated}
use Rattle.ped_answer.specs.Serving.{Call, ServedRequest}
use Rattle.ped_answer.proofs.Inputs.{text_served, generated_given, shown_ends}
use Rattle.ped_answer.proofs.answering.serve.Goals as goal

-- no file is read
pub returns-in-Generate-clause-served : goal.returns-in-Generate-clause-served
returns-in-Generate-clause-served g c =
    let size = c.in-Generate.size in
    let call : Call = record {
      told = g.F.Shelf.told c.args.shelf.now;
      may = g.F.Shelf.may_hold c.args.shelf.now;
      counts = g.F.Shelf.count c.args.shelf.now;
      counts_after = g.F.Shelf.count c.args.shelf.now;
      taken = g.K.Sink.taken c.args.out.now;
      taken_after = g.K.Sink.taken c.answer_size.new.out;
      sent = g.K.Sink.sent c.args.out.now;
      sent_after = g.K.Sink.sent c.answer_size.new.out;
      faults = g.K.Sink.faults c.args.out.now;
      faults_after = g.K.Sink.faults c.answer_size.new.out;
      steps = c.args.steps.now;
      steps_after = c.answer_size.new.steps;
      status = c.answer_size.result;
    } in
    subst (λ (r : Request). ServedRequest (request_view r) call) (sym c.in-Generate.is)
    (text_served (IsGenerated size) (TestsGenerated size) call
    (λ files failed. generated_given size files failed)
    (shown_ends c.answer_size.result c.answer_size.ensures.ends) (λ name. refl) c.answer_size.ensures.answer c.answer_size.ensures.write_fault c.answer_size.ensures.faults c.answer_size.ensures.untold c.answer_size.ensures.told_sent
    c.answer_size.ensures.tests c.answer_size.ensures.untested c.answer_size.ensures.steps)

pub returns-in-Generate-clause-names : goal.returns-in-Generate-clause-names
returns-in-Generate-clause-names g c = ([], refl, tt)
