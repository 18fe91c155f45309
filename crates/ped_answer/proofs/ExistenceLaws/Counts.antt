-- Words and files take so many dependence tests, whatever they are.
use Rattle.std.proofs.Common.{◌≡◌, ◌⊎◌, inl, inr, ℕ, ◌+◌, Bool, true, false, List, [], Option, Some, None, refl, length}
use Rattle.std.specs.Prelude.{MatchOption, MatchBool, nat_lt}
use Rattle.ped_io.specs.Outside.{Contents, content}
use Rattle.ped_session.specs.ped_refs.specs.References.{references, pair_count}
use Rattle.ped_session.specs.ped_valid.specs.Verdicts.{HasOneValidTree, HasOneFirstRefusal}
use Rattle.ped_session.specs.ped_valid.proofs.OneVerdict.{one_of_both}
use Rattle.ped_call_runs.specs.ped_calls.specs.Laws.{HasOneExpansion, HasOneUnitRefusal}
use Rattle.ped_call_runs.specs.ped_calls.proofs.OneVerdict as units
use Rattle.ped_script.specs.Items.{commands_of}
use Rattle.ped_answer.proofs.ExistenceLaws.Replying.{SomeOutcome, answers_of_script}
use Rattle.ped_answer.proofs.ExistenceLaws.Reporting.{some_report}
use Rattle.ped_gen.specs.Generated.{program}
use Rattle.ped_words.specs.Requests.{Request, show, session, generate}
use Rattle.ped_answer.specs.Answer.{Input, source_input, data_input}
use Rattle.ped_answer.specs.TestCounts.{TestsText, of_tree, of_refusal, TestsSession, of_script, of_refused_program, TestsGenerated, of_report, of_refused_text, TestsInput, TestsData, Tests}

-- there is such a number
abbrev HasSome : (ℕ → Type 0) → Type 0
HasSome tests = (n : ℕ) × tests n

-- a text takes so many tests
some_text : (text : List ℕ) → HasSome (TestsText text)
some_text text = by (units.one_of_both text)
  where
    by : HasOneExpansion text ⊎ HasOneUnitRefusal text → HasSome (TestsText text)
    by (inl h) = (pair_count (references h.tree), of_tree h.tree h.expands refl)
    by (inr h) = (0, of_refusal h.first h.refuses refl)

-- so does a session
some_session : SomeOutcome → (text script data_bytes : List ℕ) → HasSome (TestsSession text script data_bytes)
some_session comes text script data_bytes = by (units.one_of_both text)
  where
    by : HasOneExpansion text ⊎ HasOneUnitRefusal text → HasSome (TestsSession text script data_bytes)
    by (inl h) =
        let (said, last, answers) = answers_of_script comes h.tree h.expands.valid (commands_of script) data_bytes in
        (pair_count (references h.tree) + said.tests, of_script h.tree h.expands said last answers refl)
    by (inr h) = (0, of_refused_program h.first h.refuses refl)

-- and a program that is made
some_generated : SomeOutcome → (n : ℕ) → HasSome (TestsGenerated n)
some_generated comes n = by (one_of_both (program n))
  where
    by : HasOneValidTree (program n) ⊎ HasOneFirstRefusal (program n) → HasSome (TestsGenerated n)
    by (inl h) =
        let report = (some_report comes n h.tree h.reads.valid).1 in
        (pair_count (references h.tree) + report.tally.tests, of_report h.tree h.reads report.tally report.behind report.applies refl)
    by (inr h) = (0, of_refused_text h.first h.refuses refl)

-- so does a file where its bytes do, by whether they are too many
some_by : (tests : ℕ → Type 0) → HasSome tests → (long : Bool) → HasSome (λ n. MatchBool long (n ≡ 0) (tests n))
some_by tests some true = (0, refl)
some_by tests some false = some

some_held : (i : Input) (tests : List ℕ → ℕ → Type 0) → ((text : List ℕ) → HasSome (tests text)) → (held : Option (List ℕ))
    → HasSome (λ n. MatchOption held (n ≡ 0) (λ text. MatchBool (nat_lt i.most (length text)) (n ≡ 0) (tests text n)))
some_held i tests some None = (0, refl)
some_held i tests some (Some text) = some_by (tests text) (some text) (nat_lt i.most (length text))

some_input : (i : Input) (files : Contents) (tests : List ℕ → ℕ → Type 0) → ((text : List ℕ) → HasSome (tests text)) → HasSome (TestsInput i files tests)
some_input i files tests some = some_held i tests some (content files i.name)

some_data : (data_file : Option (List ℕ)) (files : Contents) (tests : List ℕ → ℕ → Type 0) → ((text : List ℕ) → HasSome (tests text)) → HasSome (TestsData data_file files tests)
some_data None files tests some = some []
some_data (Some file) files tests some = some_input (data_input file) files tests some

-- words and files take so many tests
pub some_tests : SomeOutcome → (request : Option Request) (files : Contents) → HasSome (Tests request files)
some_tests comes None files = (0, refl)
some_tests comes (Some (show name)) files = some_input (source_input name) files TestsText some_text
some_tests comes (Some (session name script data_file)) files =
    some_input (source_input name) files (λ text. TestsInput (source_input script) files (λ commands. TestsData data_file files (TestsSession text commands)))
    (λ text. some_input (source_input script) files (λ commands. TestsData data_file files (TestsSession text commands)) (λ commands. some_data data_file files (TestsSession text commands) (some_session comes text commands)))
some_tests comes (Some (generate number)) files = some_generated comes number
