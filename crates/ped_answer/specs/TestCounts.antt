-- How many dependence tests an answer takes, and what a call may have made of them: the opening of a program tests each ordered pair of references once, and a change the pairs that come from none before it (Allen and Kennedy, section 3.2; this project).
use Rattle.std.specs.Prelude.{◌≡◌, ℕ, ◌+◌, ◌≤◌, List, [], length, nat_lt, Option, Some, None, MatchOption, MatchBool, ⊤}
use Rattle.ped_io.specs.Outside.{Contents, content}
use Rattle.ped_tree.specs.Tree.{ProgramTree}
use Rattle.ped_tree.specs.Grammar.Refusal.{Finding}
use Rattle.ped_session.specs.ped_refs.specs.References.{references, pair_count}
use Rattle.ped_session.specs.ped_valid.specs.Validity.{ReadsValid, RefusesText}
use Rattle.ped_call_runs.specs.ped_calls.specs.ped_units.specs.Verdicts.{UnitFinding, RefusesUnits, IsExpansion}
use Rattle.ped_answer.specs.declared.answering.Status.{Status}
use Rattle.ped_answer.specs.declared.answering.Status.TheVariants.{Done, SomeRefused, BadWords, ReadFault, WriteFault, ProgramRefused, NoMemory, TooLong}
use Rattle.ped_script.specs.Items.{commands_of}
use Rattle.ped_session.specs.States.{State, opened}
use Rattle.ped_session.specs.Scripts.{Said, AnswersItems}
use Rattle.ped_words.specs.Requests.{Request, show, session, generate}
use Rattle.ped_gen.specs.Generated as made
use Rattle.ped_answer.specs.Answer.{Input, source_input, data_input}
use Rattle.ped_answer.specs.Generated.{Tally, Applies}

-- how many tests a file's text takes: one for each ordered pair of references of the program that its program units expand to, and none where it is refused (Allen and Kennedy, section 3.2; this project)
pub data TestsText (text : List ℕ) (n : ℕ) : Type 0 where
  of_tree : (t : ProgramTree) → IsExpansion text t → n ≡ pair_count (references t) → TestsText text n
  of_refusal : (f : UnitFinding) → RefusesUnits text f → n ≡ 0 → TestsText text n

-- how many tests a session takes: one for each ordered pair of references of the program on which it opens, and those that its script takes; and none where the file's text is refused (Allen and Kennedy, section 3.2; this project)
pub data TestsSession (text script data_bytes : List ℕ) (n : ℕ) : Type 0 where
  of_script : (t : ProgramTree) → IsExpansion text t → (said : Said) (last : State) → AnswersItems (commands_of script) data_bytes (opened t) said last
      → n ≡ pair_count (references t) + said.tests → TestsSession text script data_bytes n
  of_refused_program : (f : UnitFinding) → RefusesUnits text f → n ≡ 0 → TestsSession text script data_bytes n

-- how many tests a program that is made takes: one for each ordered pair of references, and those that its script takes; and none where its text is refused (Allen and Kennedy, section 3.2; this project)
pub data TestsGenerated (size n : ℕ) : Type 0 where
  of_report : (t : ProgramTree) → ReadsValid (made.program size) t → (tally : Tally) (last : State) → Applies (commands_of (made.script size)) (opened t) tally last
      → n ≡ pair_count (references t) + tally.tests → TestsGenerated size n
  of_refused_text : (f : Finding) → RefusesText (made.program size) f → n ≡ 0 → TestsGenerated size n

-- how many tests are made where a file is read: none where it isn't there or has too many bytes (this project)
abbrev pub TestsInput : Input → Contents → (List ℕ → ℕ → Type 0) → ℕ → Type 0
TestsInput i files tests n = MatchOption (content files i.name) (n ≡ 0) (λ text. MatchBool (nat_lt i.most (length text)) (n ≡ 0) (tests text n))

-- how many tests are made where data are read: without a file they are empty (this project)
abbrev pub TestsData : Option (List ℕ) → Contents → (List ℕ → ℕ → Type 0) → ℕ → Type 0
TestsData None files tests n = tests [] n
TestsData (Some file) files tests n = TestsInput (data_input file) files tests n

-- how many tests the answer to a request takes, by what the shelf holds: none without a request (this project)
abbrev pub Tests : Option Request → Contents → ℕ → Type 0
Tests None files n = n ≡ 0
Tests (Some (show program)) files n = TestsInput (source_input program) files TestsText n
Tests (Some (session program script data_file)) files n =
    TestsInput (source_input program) files (λ text. TestsInput (source_input script) files (λ commands. TestsData data_file files (TestsSession text commands))) n
Tests (Some (generate number)) files n = TestsGenerated number n

-- by how a call ended, what the counter was before it and is after it, when the answer takes this many tests: as many more after an answer to a program, none more after any other, and at most as many where the sink failed or memory ran out (this project)
abbrev pub Ticks : Status → ℕ → ℕ → ℕ → Type 0
Ticks Done before after n = after ≡ before + n
Ticks SomeRefused before after n = after ≡ before + n
Ticks BadWords before after n = after ≡ before
Ticks ReadFault before after n = after ≡ before
Ticks ProgramRefused before after n = after ≡ before
Ticks TooLong before after n = after ≡ before
Ticks WriteFault before after n = after ≤ before + n
Ticks NoMemory before after n = after ≤ before + n

-- the endings that come without a test: bad words, a file that can't be read or is too long, and a refused text (this project)
abbrev pub IsUntested : Status → Type 0
IsUntested Done = ⊥
IsUntested SomeRefused = ⊥
IsUntested BadWords = ⊤
IsUntested ReadFault = ⊤
IsUntested ProgramRefused = ⊤
IsUntested TooLong = ⊤
IsUntested WriteFault = ⊥
IsUntested NoMemory = ⊥
