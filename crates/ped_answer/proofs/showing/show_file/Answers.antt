use Rattle.std.proofs.Common.{◌≤◌, ℕ, List, [], length, Some, Err, refl, ap, sym, subst, ◌∙◌}
use Rattle.ped_answer.specs.Answer.{source_input, IsShown}
use Rattle.ped_answer.specs.TestCounts.{TestsText}
use Rattle.ped_answer.specs.Serving.{Call}
use Rattle.ped_answer.proofs.Inputs.{read_served, unread_served, text_served, shown_given, shown_ends}
use Rattle.ped_answer.proofs.ReadNames.{first_read}
use Rattle.ped_answer.proofs.showing.show_file.Goals as goal

-- the file is read, and the rest is served on its bytes
pub returns-in-Ok-clause-served : goal.returns-in-Ok-clause-served
returns-in-Ok-clause-served g c =
    let bytes = c.as_slice.result.now in
    let rest : Call = record {
      told = g.F.Shelf.told c.load.new.shelf;
      may = g.F.Shelf.may_hold c.load.new.shelf;
      counts = g.F.Shelf.count c.load.new.shelf;
      counts_after = g.F.Shelf.count c.load.new.shelf;
      taken = g.K.Sink.taken c.args.out.now;
      taken_after = g.K.Sink.taken c.show_text.new.out;
      sent = g.K.Sink.sent c.args.out.now;
      sent_after = g.K.Sink.sent c.show_text.new.out;
      faults = g.K.Sink.faults c.args.out.now;
      faults_after = g.K.Sink.faults c.show_text.new.out;
      steps = c.args.steps.now;
      steps_after = c.show_text.new.steps;
      status = c.show_text.result;
    } in
    read_served (source_input c.args.program.now) [] (λ text files. IsShown text) (λ text files. TestsText text)
    (g.F.Shelf.told c.args.shelf.now) (g.F.Shelf.count c.args.shelf.now) bytes rest
    (λ files may. c.in-Ok.ensures.loaded files may ∙ ap Some (sym c.as_slice.ensures))
    (subst (λ (x : List ℕ). length x ≤ 1048576) (sym c.as_slice.ensures) c.in-Ok.ensures.within)
    c.load.ensures.counts c.load.ensures.others c.load.ensures.same
    (text_served (IsShown bytes) (TestsText bytes) rest
    (λ files failed. shown_given bytes files failed)
    (shown_ends c.show_text.result c.show_text.ensures.ends) (λ name. refl) c.show_text.ensures.answer c.show_text.ensures.write_fault c.show_text.ensures.faults c.show_text.ensures.untold c.show_text.ensures.told_sent
    c.show_text.ensures.tests c.show_text.ensures.untested c.show_text.ensures.steps)

-- it isn't, and that is said
pub returns-in-Err-clause-served : goal.returns-in-Err-clause-served
returns-in-Err-clause-served g c =
    let said : Call = record {
      told = g.F.Shelf.told c.args.shelf.now;
      may = g.F.Shelf.may_hold c.load.new.shelf;
      counts = g.F.Shelf.count c.args.shelf.now;
      counts_after = g.F.Shelf.count c.load.new.shelf;
      taken = g.K.Sink.taken c.args.out.now;
      taken_after = g.K.Sink.taken c.say_unread.new.out;
      sent = g.K.Sink.sent c.args.out.now;
      sent_after = g.K.Sink.sent c.say_unread.new.out;
      faults = g.K.Sink.faults c.args.out.now;
      faults_after = g.K.Sink.faults c.say_unread.new.out;
      steps = c.args.steps.now;
      steps_after = c.args.steps.now;
      status = c.say_unread.result;
    } in
    unread_served (source_input c.args.program.now) [] (λ text files. IsShown text) (λ text files. TestsText text) c.in-Err.fault said
    (λ e. c.in-Err.ensures.fault (ap Err e)) (λ e. c.in-Err.ensures.too_long (ap Err e))
    c.load.ensures.counts c.load.ensures.others
    c.say_unread.ensures.answer c.say_unread.ensures.ends c.say_unread.ensures.write_fault c.say_unread.ensures.faults c.say_unread.ensures.untold c.say_unread.ensures.told_sent refl

pub returns-in-Ok-clause-names : goal.returns-in-Ok-clause-names
returns-in-Ok-clause-names g c = first_read (source_input c.args.program.now) [] _ _ c.load.ensures.names

pub returns-in-Err-clause-names : goal.returns-in-Err-clause-names
returns-in-Err-clause-names g c = first_read (source_input c.args.program.now) [] _ _ c.load.ensures.names
