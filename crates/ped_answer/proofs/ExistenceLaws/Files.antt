-- Words and files have an answer, whatever they are.
use Rattle.std.proofs.Common.{◌⊎◌, inl, inr, ℕ, Bool, true, false, List, [], Option, Some, None, refl, length}
use Rattle.std.specs.Prelude.{MatchOption, MatchBool, nat_lt}
use Rattle.ped_io.specs.Outside.{Contents, content}
use Rattle.ped_session.specs.ped_valid.specs.Verdicts.{HasOneValidTree, HasOneFirstRefusal}
use Rattle.ped_session.specs.ped_valid.proofs.OneVerdict.{one_of_both}
use Rattle.ped_call_runs.specs.ped_calls.specs.ped_units.specs.Verdicts.{found_in_text}
use Rattle.ped_call_runs.specs.ped_calls.specs.Laws.{HasOneExpansion, HasOneUnitRefusal}
use Rattle.ped_call_runs.specs.ped_calls.proofs.OneVerdict as units
use Rattle.ped_script.specs.Items.{commands_of}
use Rattle.ped_answer.proofs.ExistenceLaws.Replying.{SomeOutcome, panes, answers_of_script}
use Rattle.ped_answer.proofs.ExistenceLaws.Reporting.{some_report}
use Rattle.ped_answer.specs.declared.answering.Status.{Status}
use Rattle.ped_answer.specs.declared.answering.Status.TheVariants.{Done, SomeRefused, BadWords, ReadFault, ProgramRefused, TooLong}
use Rattle.ped_answer.specs.Refusals.{refused_line}
use Rattle.ped_answer.specs.Generated.{IsGenerated}
use Rattle.ped_gen.specs.Generated.{program}
use Rattle.ped_words.specs.Requests.{Request, show, session, generate}
use Rattle.ped_answer.specs.Answer.{Input, source_input, data_input, usage_line, cannot_read_line, too_long_line, IsJust, IsShown, AnswersScript, IsSession, AnswersInput, AnswersData, Answers}

-- there is an answer
abbrev HasSome : (Status → List ℕ → Type 0) → Type 0
HasSome answers = (s : Status) × (bytes : List ℕ) × answers s bytes

-- something is shown of a text
some_shown : (text : List ℕ) → HasSome (IsShown text)
some_shown text = by (units.one_of_both text)
  where
    by : HasOneExpansion text ⊎ HasOneUnitRefusal text → HasSome (IsShown text)
    by (inl h) = let bytes = panes h.tree in (Done, bytes.0, (h.tree, h.expands, bytes.1))
    by (inr h) = (ProgramRefused, refused_line h.first, (h.first, h.refuses, refl))

-- a session has an answer: its status tells whether a line was refused
said_by : (text script data_bytes : List ℕ) (refused : Bool) (bytes : List ℕ) → AnswersScript text script data_bytes refused bytes → HasSome (IsSession text script data_bytes)
said_by text script data_bytes false bytes a = (Done, bytes, a)
said_by text script data_bytes true bytes a = (SomeRefused, bytes, a)

some_session : SomeOutcome → (text script data_bytes : List ℕ) → HasSome (IsSession text script data_bytes)
some_session comes text script data_bytes = by (units.one_of_both text)
  where
    by : HasOneExpansion text ⊎ HasOneUnitRefusal text → HasSome (IsSession text script data_bytes)
    by (inl h) =
        let (said, last, answers) = answers_of_script comes h.tree h.expands.valid (commands_of script) data_bytes in
        said_by text script data_bytes said.refused said.bytes (record { tree = h.tree; expands = h.expands; said = said; last = last; answers = answers; says = refl; some = refl })
    by (inr h) = (ProgramRefused, refused_line h.first, (h.first, h.refuses, refl))

-- a program that is made has its report, or a refusal
some_generated : SomeOutcome → (n : ℕ) → HasSome (IsGenerated n)
some_generated comes n = by (one_of_both (program n))
  where
    by : HasOneValidTree (program n) ⊎ HasOneFirstRefusal (program n) → HasSome (IsGenerated n)
    by (inl h) = let report = some_report comes n h.tree h.reads.valid in (Done, report.0, (h.tree, h.reads, report.1))
    by (inr h) = (ProgramRefused, refused_line (found_in_text h.first), (h.first, h.refuses, refl))

-- there is an answer to a file where there is one to its bytes, by whether they are too many
some_by : (i : Input) (answers : Status → List ℕ → Type 0) → HasSome answers → (long : Bool) → HasSome (λ s b. MatchBool long (IsJust TooLong (too_long_line i) s b) (answers s b))
some_by i answers some true = (TooLong, too_long_line i, (refl, refl))
some_by i answers some false = some

some_held : (i : Input) (answers : List ℕ → Status → List ℕ → Type 0) → ((text : List ℕ) → HasSome (answers text)) → (held : Option (List ℕ))
    → HasSome (λ s b. MatchOption held (IsJust ReadFault (cannot_read_line i.name) s b) (λ text. MatchBool (nat_lt i.most (length text)) (IsJust TooLong (too_long_line i) s b) (answers text s b)))
some_held i answers some None = (ReadFault, cannot_read_line i.name, (refl, refl))
some_held i answers some (Some text) = some_by i (answers text) (some text) (nat_lt i.most (length text))

some_input : (i : Input) (files : Contents) (answers : List ℕ → Status → List ℕ → Type 0) → ((text : List ℕ) → HasSome (answers text)) → HasSome (AnswersInput i files answers)
some_input i files answers some = some_held i answers some (content files i.name)

some_data : (data_file : Option (List ℕ)) (files : Contents) (answers : List ℕ → Status → List ℕ → Type 0) → ((text : List ℕ) → HasSome (answers text)) → HasSome (AnswersData data_file files answers)
some_data None files answers some = some []
some_data (Some file) files answers some = some_input (data_input file) files answers some

-- words and files have an answer
pub some_answer : SomeOutcome → (request : Option Request) (files : Contents) → HasSome (Answers request files)
some_answer comes None files = (BadWords, usage_line, (refl, refl))
some_answer comes (Some (show name)) files = some_input (source_input name) files IsShown some_shown
some_answer comes (Some (session name script data_file)) files =
    some_input (source_input name) files (λ text. AnswersInput (source_input script) files (λ commands. AnswersData data_file files (IsSession text commands)))
    (λ text. some_input (source_input script) files (λ commands. AnswersData data_file files (IsSession text commands)) (λ commands. some_data data_file files (IsSession text commands) (some_session comes text commands)))
some_answer comes (Some (generate number)) files = some_generated comes number
