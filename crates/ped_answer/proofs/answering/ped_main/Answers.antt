use Rattle.std.proofs.Common.{◌≡◌, ◌++◌, ℕ, List, [], map, string_bytes, Option, Err, ap, refl, subst, sym, arith}
use Rattle.ped_io.specs.Outside.{Contents, AddsOnly, Rose}
use Rattle.ped_answer.specs.declared.answering.Status.TheVariants.{BadWords}
use Rattle.ped_words.specs.Requests.{Request, request_of}
use Rattle.ped_answer.specs.Answer.{IsWhole, inputs_of, IsOneOf, MayAnswer, Answers, IsJust, usage_line}
use Rattle.ped_answer.specs.TestCounts.{Tests}
use Rattle.ped_answer.specs.Serving.{Call, Served}
use Rattle.ped_answer.proofs.Counting.{idle_writing, read_nothing}
use Rattle.ped_answer.proofs.WholeAnswers.{sent_whole}
use Rattle.ped_answer.proofs.Outcomes.{outcome_weaker, usage_may_answer, whole_of}
use Rattle.ped_answer.proofs.answering.ped_main.Given.{Over}
use Rattle.ped_answer.proofs.answering.ped_main.Goals as goal

-- the call, where the files are served
abbrev call_of : (g : Over) (c : goal.After-serve g) → Call
call_of g c = record {
  told = g.F.Shelf.told c.args.shelf.now;
  may = g.F.Shelf.may_hold c.serve.new.shelf;
  counts = g.F.Shelf.count c.args.shelf.now;
  counts_after = g.F.Shelf.count c.serve.new.shelf;
  taken = g.K.Sink.taken c.args.out.now;
  taken_after = g.K.Sink.taken c.serve.new.out;
  sent = g.K.Sink.sent c.args.out.now;
  sent_after = g.K.Sink.sent c.serve.new.out;
  faults = g.K.Sink.faults c.args.out.now;
  faults_after = g.K.Sink.faults c.serve.new.out;
  steps = c.args.steps.now;
  steps_after = c.serve.new.steps;
  status = c.serve.result;
}

served : (g : Over) (c : goal.After-serve g)
    → Served (inputs_of (request_of (map string_bytes c.args.words.now))) (Answers (request_of (map string_bytes c.args.words.now))) (Tests (request_of (map string_bytes c.args.words.now))) (call_of g c)
served g c = subst (λ (r : Option Request). Served (inputs_of r) (Answers r) (Tests r) (call_of g c)) (sym c.in-Ok.ensures.ok) c.serve.ensures.served

pub returns-in-Ok-clause-answer : goal.returns-in-Ok-clause-answer
returns-in-Ok-clause-answer g c = (served g c).sends

pub returns-in-Ok-clause-known : goal.returns-in-Ok-clause-known
returns-in-Ok-clause-known g c = (served g c).known

pub returns-in-Ok-clause-words : goal.returns-in-Ok-clause-words
returns-in-Ok-clause-words g c = λ bad. absurd ((served g c).words bad)

pub returns-in-Ok-clause-read_fault : goal.returns-in-Ok-clause-read_fault
returns-in-Ok-clause-read_fault g c = (served g c).read_fault

pub returns-in-Ok-clause-write_fault : goal.returns-in-Ok-clause-write_fault
returns-in-Ok-clause-write_fault g c = (served g c).write_fault

pub returns-in-Ok-clause-too_long : goal.returns-in-Ok-clause-too_long
returns-in-Ok-clause-too_long g c = (served g c).too_long

pub returns-in-Ok-clause-complete : goal.returns-in-Ok-clause-complete
returns-in-Ok-clause-complete g c = λ files may none sure.
    let o = returns-in-Ok-clause-answer g c files may in
    let failed : List ℕ → Type 0 = λ (name : List ℕ). Rose (g.F.Shelf.count c.args.shelf.now name) (g.F.Shelf.count c.serve.new.shelf name) in
    whole_of _ files failed _ _ _ o.0 c.serve.result o.1 o.2 none sure

-- what was written whole is the answer
written : (g : Over) (c : goal.After-serve g) (files : Contents) → g.F.Shelf.may_hold c.serve.new.shelf files → IsWhole c.serve.result
    → (bytes : List ℕ) × (g.K.Sink.sent c.serve.new.out ≡ g.K.Sink.sent c.args.out.now ++ bytes) × Answers (request_of (map string_bytes c.args.words.now)) files c.serve.result bytes
written g c files may whole =
    let o = returns-in-Ok-clause-answer g c files may in
    let failed : List ℕ → Type 0 = λ (name : List ℕ). Rose (g.F.Shelf.count c.args.shelf.now name) (g.F.Shelf.count c.serve.new.shelf name) in
    (o.0, o.1, sent_whole _ files failed _ o.0 c.serve.result whole o.2)

pub returns-in-Ok-clause-headline : goal.returns-in-Ok-clause-headline
returns-in-Ok-clause-headline g c = λ files may whole.
    let o = written g c files may whole in (
      o.0,
      o.1,
      record {
        panes = c.panes_are_afresh.ensures _ files c.serve.result o.0 whole o.2;
        history = c.history_is_kept.ensures _ files c.serve.result o.0 whole o.2;
        runs = c.runs_are_as_before.ensures _ files c.serve.result o.0 whole o.2;
        units = c.units_run_as_expanded.ensures _ files c.serve.result o.0 whole o.2;
        causes = c.refusals_have_causes.ensures _ files c.serve.result o.0 whole o.2;
        evidence = c.evidence_is_so.ensures _ files c.serve.result o.0 whole o.2;
        parallelised = c.auto_is_told.ensures _ files c.serve.result o.0 whole o.2;
        covered = c.panes_cover_runs.ensures _ files c.serve.result o.0 whole o.2;
      },
    )

pub returns-in-Ok-clause-panes : goal.returns-in-Ok-clause-panes
returns-in-Ok-clause-panes g c = λ files may whole.
    let o = returns-in-Ok-clause-headline g c files may whole in
    (o.0, o.1, o.2.panes)

pub returns-in-Ok-clause-history : goal.returns-in-Ok-clause-history
returns-in-Ok-clause-history g c = λ files may whole.
    let o = returns-in-Ok-clause-headline g c files may whole in
    (o.0, o.1, o.2.history)

pub returns-in-Ok-clause-runs : goal.returns-in-Ok-clause-runs
returns-in-Ok-clause-runs g c = λ files may whole.
    let o = returns-in-Ok-clause-headline g c files may whole in
    (o.0, o.1, o.2.runs)

pub returns-in-Ok-clause-units : goal.returns-in-Ok-clause-units
returns-in-Ok-clause-units g c = λ files may whole.
    let o = returns-in-Ok-clause-headline g c files may whole in
    (o.0, o.1, o.2.units)

pub returns-in-Ok-clause-causes : goal.returns-in-Ok-clause-causes
returns-in-Ok-clause-causes g c = λ files may whole.
    let o = returns-in-Ok-clause-headline g c files may whole in
    (o.0, o.1, o.2.causes)

pub returns-in-Ok-clause-evidence : goal.returns-in-Ok-clause-evidence
returns-in-Ok-clause-evidence g c = λ files may whole.
    let o = returns-in-Ok-clause-headline g c files may whole in
    (o.0, o.1, o.2.evidence)

pub returns-in-Ok-clause-parallelised : goal.returns-in-Ok-clause-parallelised
returns-in-Ok-clause-parallelised g c = λ files may whole.
    let o = returns-in-Ok-clause-headline g c files may whole in
    (o.0, o.1, o.2.parallelised)

pub returns-in-Ok-clause-covered : goal.returns-in-Ok-clause-covered
returns-in-Ok-clause-covered g c = λ files may whole.
    let o = returns-in-Ok-clause-headline g c files may whole in
    (o.0, o.1, o.2.covered)

pub returns-in-Ok-clause-counts : goal.returns-in-Ok-clause-counts
returns-in-Ok-clause-counts g c = (served g c).rises

pub returns-in-Ok-clause-others : goal.returns-in-Ok-clause-others
returns-in-Ok-clause-others g c = (served g c).others

pub returns-in-Ok-clause-faults : goal.returns-in-Ok-clause-faults
returns-in-Ok-clause-faults g c = (served g c).sink_rises

pub returns-in-Ok-clause-untold : goal.returns-in-Ok-clause-untold
returns-in-Ok-clause-untold g c = (served g c).untold

pub returns-in-Ok-clause-told_sent : goal.returns-in-Ok-clause-told_sent
returns-in-Ok-clause-told_sent g c = (served g c).told_sent

pub returns-in-Ok-clause-names : goal.returns-in-Ok-clause-names
returns-in-Ok-clause-names g c =
    subst (λ (r : Option Request). AddsOnly (IsOneOf (inputs_of r)) (g.F.Shelf.read_names c.args.shelf.now) (g.F.Shelf.read_names c.serve.new.shelf)) (sym c.in-Ok.ensures.ok) c.serve.ensures.names

pub returns-in-Err-Bad-clause-names : goal.returns-in-Err-Bad-clause-names
returns-in-Err-Bad-clause-names g c = ([], refl, tt)

pub returns-in-Err-NoMemory-clause-names : goal.returns-in-Err-NoMemory-clause-names
returns-in-Err-NoMemory-clause-names g c = ([], refl, tt)

pub returns-in-Ok-clause-tests : goal.returns-in-Ok-clause-tests
returns-in-Ok-clause-tests g c = (served g c).ticks

pub returns-in-Ok-clause-counted : goal.returns-in-Ok-clause-counted
returns-in-Ok-clause-counted g c = λ files may.
    let n = c.some_tests.ensures (request_of (map string_bytes c.args.words.now)) files in
    (n.0, n.1, (served g c).ticks files may n.0 n.1)

pub returns-in-Ok-clause-untested : goal.returns-in-Ok-clause-untested
returns-in-Ok-clause-untested g c = (served g c).untested

pub returns-in-Ok-clause-steps : goal.returns-in-Ok-clause-steps
returns-in-Ok-clause-steps g c = (served g c).steps_rise

pub returns-in-Err-Bad-clause-answer : goal.returns-in-Err-Bad-clause-answer
returns-in-Err-Bad-clause-answer g c = λ files may.
    let o = c.finish.ensures.answer in
    let failed : List ℕ → Type 0 = λ (name : List ℕ). Rose (g.F.Shelf.count c.args.shelf.now name) (g.F.Shelf.count c.args.shelf.now name) in
    let none = c.in-Err-Bad.ensures.bad (ap Err c.in-Err-Bad.field-0-is) in
    (o.0, o.1, outcome_weaker (IsJust BadWords usage_line) (MayAnswer _ files failed) (usage_may_answer _ files failed none) _ o.0 c.finish.result o.2)

pub returns-in-Err-Bad-clause-known : goal.returns-in-Err-Bad-clause-known
returns-in-Err-Bad-clause-known g c = λ read files others may too. absurd (read_nothing c.finish.result c.finish.ensures.ends read)

pub returns-in-Err-NoMemory-clause-known : goal.returns-in-Err-NoMemory-clause-known
returns-in-Err-NoMemory-clause-known g c = λ read files others may too. absurd read

pub returns-in-Err-Bad-clause-tests : goal.returns-in-Err-Bad-clause-tests
returns-in-Err-Bad-clause-tests g c = λ files may n tests. idle_writing c.finish.result BadWords _ n (λ e. cc) (λ e. cc) c.finish.ensures.ends

pub returns-in-Err-Bad-clause-counted : goal.returns-in-Err-Bad-clause-counted
returns-in-Err-Bad-clause-counted g c = λ files may.
    let n = c.some_tests.ensures (request_of (map string_bytes c.args.words.now)) files in
    (n.0, n.1, returns-in-Err-Bad-clause-tests g c files may n.0 n.1)

pub returns-in-Err-NoMemory-clause-counted : goal.returns-in-Err-NoMemory-clause-counted
returns-in-Err-NoMemory-clause-counted g c = λ files may.
    let n = c.some_tests.ensures (request_of (map string_bytes c.args.words.now)) files in
    (n.0, n.1, omega arith)
