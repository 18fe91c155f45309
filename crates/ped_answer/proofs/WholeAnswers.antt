-- What is written whole: the answer to words and files, and in a session what its script answers.
use Rattle.std.proofs.Common.{◌≡◌, ℕ, Bool, true, false, List, [], Option, Some, None, refl, subst, length}
use Rattle.std.specs.Prelude.{MatchOption, MatchBool, nat_lt}
use Rattle.ped_io.specs.Outside.{Contents, content}
use Rattle.ped_words.specs.Requests.{Request, session}
use Rattle.ped_answer.specs.declared.answering.Status.{Status}
use Rattle.ped_answer.specs.declared.answering.Status.TheVariants.{Done, SomeRefused, BadWords, ReadFault, WriteFault, ProgramRefused, NoMemory, TooLong}
use Rattle.ped_answer.specs.Answer.{IsWhole, AreData, Input, source_input, data_input, cannot_read_line, too_long_line, IsJust, AnswersScript, IsSession, AnswersInput, AnswersData, Answers, MayAnswer, IsOutcome}

-- what is answered whole to a file is answered to its bytes
pub record OfFile (name : List ℕ) (files : Contents) (answers : List ℕ → Status → List ℕ → Type 0) (s : Status) (b : List ℕ) : Type 0 where
  pub bytes : List ℕ
  pub held : content files name ≡ Some bytes
  pub answer : answers bytes s b

of_bytes : (i : Input) (s : Status) (b : List ℕ) (answered : Type 0) → IsWhole s → (long : Bool) → MatchBool long (IsJust TooLong (too_long_line i) s b) answered → answered
of_bytes i s b answered whole true h = absurd (subst IsWhole h.0 whole)
of_bytes i s b answered whole false h = h

of_held : (i : Input) (files : Contents) (answers : List ℕ → Status → List ℕ → Type 0) (s : Status) (b : List ℕ) → IsWhole s → (held : Option (List ℕ)) → content files i.name ≡ held
    → MatchOption held (IsJust ReadFault (cannot_read_line i.name) s b) (λ text. MatchBool (nat_lt i.most (length text)) (IsJust TooLong (too_long_line i) s b) (answers text s b))
    → OfFile i.name files answers s b
of_held i files answers s b whole None is h = absurd (subst IsWhole h.0 whole)
of_held i files answers s b whole (Some text) is h = record { bytes = text; held = is; answer = of_bytes i s b (answers text s b) whole (nat_lt i.most (length text)) h }

pub of_file : (i : Input) (files : Contents) (answers : List ℕ → Status → List ℕ → Type 0) (s : Status) (b : List ℕ) → IsWhole s → AnswersInput i files answers s b → OfFile i.name files answers s b
of_file i files answers s b whole h = of_held i files answers s b whole (content files i.name) refl h

-- and so is what is answered to data
record OfData (data_file : Option (List ℕ)) (files : Contents) (answers : List ℕ → Status → List ℕ → Type 0) (s : Status) (b : List ℕ) : Type 0 where
  bytes : List ℕ
  are : AreData data_file files bytes
  pub answer : answers bytes s b

of_data : (data_file : Option (List ℕ)) (files : Contents) (answers : List ℕ → Status → List ℕ → Type 0) (s : Status) (b : List ℕ) → IsWhole s → AnswersData data_file files answers s b → OfData data_file files answers s b
of_data None files answers s b whole h = record { bytes = []; are = refl; answer = h }
of_data (Some file) files answers s b whole h =
    let read = of_file (data_input file) files answers s b whole h in
    record { bytes = read.bytes; are = read.held; answer = read.answer }

-- what a session answers whole, its script answers
record OfScript (text script data_bytes b : List ℕ) : Type 0 where
  refused : Bool
  script_answers : AnswersScript text script data_bytes refused b

of_session : (text script data_bytes : List ℕ) (s : Status) (b : List ℕ) → IsWhole s → IsSession text script data_bytes s b → OfScript text script data_bytes b
of_session text script data_bytes Done b whole h = record { refused = false; script_answers = h }
of_session text script data_bytes SomeRefused b whole h = record { refused = true; script_answers = h }
of_session text script data_bytes BadWords b whole h = absurd whole
of_session text script data_bytes ReadFault b whole h = absurd whole
of_session text script data_bytes WriteFault b whole h = absurd whole
of_session text script data_bytes ProgramRefused b whole h = absurd whole
of_session text script data_bytes NoMemory b whole h = absurd whole
of_session text script data_bytes TooLong b whole h = absurd whole

-- what a session answers whole: its files, and what its script answers on them
pub record OfSession (program script : List ℕ) (data_file : Option (List ℕ)) (files : Contents) (b : List ℕ) : Type 0 where
  pub text : List ℕ
  pub program_is : content files program ≡ Some text
  pub commands : List ℕ
  pub script_is : content files script ≡ Some commands
  pub data_bytes : List ℕ
  pub data_are : AreData data_file files data_bytes
  pub refused : Bool
  pub answers : AnswersScript text commands data_bytes refused b

pub session_whole : (program script : List ℕ) (data_file : Option (List ℕ)) (files : Contents) (s : Status) (b : List ℕ) → IsWhole s → Answers (Some (session program script data_file)) files s b → OfSession program script data_file files b
session_whole program script data_file files s b whole h =
    let p = of_file (source_input program) files (λ text. AnswersInput (source_input script) files (λ commands. AnswersData data_file files (IsSession text commands))) s b whole h in
    let c = of_file (source_input script) files (λ commands. AnswersData data_file files (IsSession p.bytes commands)) s b whole p.answer in
    let d = of_data data_file files (IsSession p.bytes c.bytes) s b whole c.answer in
    let a = of_session p.bytes c.bytes d.bytes s b whole d.answer in
    record {
      text = p.bytes;
      program_is = p.held;
      commands = c.bytes;
      script_is = c.held;
      data_bytes = d.bytes;
      data_are = d.are;
      refused = a.refused;
      answers = a.script_answers;
    }

-- what was sent whole is the answer
pub sent_whole : (request : Option Request) (files : Contents) (failed : List ℕ → Type 0) (sink_failed : Type 0) (sent : List ℕ) (s : Status) → IsWhole s → IsOutcome (MayAnswer request files failed) sink_failed sent s → Answers request files s sent
sent_whole request files failed sink_failed sent Done whole h = h
sent_whole request files failed sink_failed sent SomeRefused whole h = h
sent_whole request files failed sink_failed sent BadWords whole h = absurd whole
sent_whole request files failed sink_failed sent ReadFault whole h = absurd whole
sent_whole request files failed sink_failed sent WriteFault whole h = absurd whole
sent_whole request files failed sink_failed sent ProgramRefused whole h = absurd whole
sent_whole request files failed sink_failed sent NoMemory whole h = absurd whole
sent_whole request files failed sink_failed sent TooLong whole h = absurd whole
