-- What `generate` answers: what the script that is made does to the program that is made, and how both programs run (this project).
use Rattle.std.specs.Prelude.{◌≡◌, ℕ, ◌+◌, List, [], ◌∷◌, ◌++◌, length, codes, Option, Some, None}
use Rattle.std.specs.Fmt.{decimal}
use Rattle.ped_gen.specs.Generated.{program, script}
use Rattle.ped_tree.specs.Tree.{ProgramTree}
use Rattle.ped_tree.specs.Numbering.{statements_count}
use Rattle.ped_tree.specs.Grammar.Refusal.{Finding}
use Rattle.ped_session.specs.ped_refs.specs.References.{references, pair_count}
use Rattle.ped_session.specs.ped_rules.specs.ped_edges.specs.Edges.{Edge}
use Rattle.ped_session.specs.ped_graph.specs.Dependences.{AreEdges}
use Rattle.ped_session.specs.ped_valid.specs.Validity.{ReadsValid, RefusesText}
use Rattle.ped_session.specs.ped_rules.specs.ped_eval.specs.Outcomes.{LiveRow, Outcome, Ended}
use Rattle.ped_script.specs.Items.{commands_of}
use Rattle.ped_script.specs.declared.items.Command.{Command}
use Rattle.ped_script.specs.declared.items.Item.{Item}
use Rattle.ped_session.specs.declared.replies.Reply.{Reply}
use Rattle.ped_session.specs.declared.replies.Reply.TheVariants.{Changed, Shown, Refused}
use Rattle.ped_session.specs.LoweredRuns.{IsLoweredRun}
use Rattle.ped_session.specs.States.{State, opened}
use Rattle.ped_session.specs.Steps.{IsStep}
use Rattle.ped_session.specs.Scripts.{tests_of}
use Rattle.ped_answer.specs.declared.answering.Status.{Status}
use Rattle.ped_answer.specs.declared.answering.Status.TheVariants.{Done, SomeRefused, BadWords, ReadFault, WriteFault, ProgramRefused, NoMemory, TooLong}
use Rattle.ped_call_runs.specs.ped_calls.specs.ped_units.specs.Verdicts.{found_in_text}
use Rattle.ped_answer.specs.Refusals.{refused_line}

-- how many changes were accepted, how many lines were refused, and how many pairs of references the changes tested
pub record Tally : Type 0 where
  pub accepted : ℕ
  pub refused : ℕ
  pub tests : ℕ

-- of nothing
abbrev pub no_tally : Tally
no_tally = record { accepted = 0; refused = 0; tests = 0 }

-- of some lines, and of more after them
abbrev pub tally_both : Tally → Tally → Tally
tally_both first rest = record { accepted = first.accepted + rest.accepted; refused = first.refused + rest.refused; tests = first.tests + rest.tests }

-- a change was accepted
abbrev pub accepted_by : Reply → ℕ
accepted_by Changed = 1
accepted_by (Shown bytes) = 0
accepted_by (Refused why) = 0

-- a command was refused
abbrev pub refused_by : Reply → ℕ
refused_by Changed = 0
refused_by (Shown bytes) = 0
refused_by (Refused why) = 1

-- of a command with this reply, which leads to this state
abbrev pub tally_of : Reply → State → Tally
tally_of reply next = record { accepted = accepted_by reply; refused = refused_by reply; tests = tests_of reply next }

-- of a line that is no command
abbrev pub bad_command_tally : Tally
bad_command_tally = record { accepted = 0; refused = 1; tests = 0 }

-- what a line of a script comes to, and the state after it; programs have no data
abbrev pub AppliesCommand : Option Command → State → Tally → State → Type 0
AppliesCommand None s tally next = (tally ≡ bad_command_tally) × (next ≡ s)
AppliesCommand (Some command) s tally next = (reply : Reply) × IsStep command [] s reply next × (tally ≡ tally_of reply next)

-- what the items of a script come to one after another, each in the state that the one before has left
abbrev pub Applies : List Item → State → Tally → State → Type 0
Applies [] s tally last = (tally ≡ no_tally) × (last ≡ s)
Applies (item ∷ items) s tally last =
    (first : Tally) × (next : State) × AppliesCommand item.command s first next
    × (rest : Tally) × Applies items next rest last × (tally ≡ tally_both first rest)

-- both runs ended, with the same output and the same values of the live-out variables
pub record EndAlike (a b : Outcome) : Type 0 where
  pub output : List (List ℕ)
  pub live : List LiveRow
  pub first : a ≡ Ended output live
  pub second : b ≡ Ended output live

-- the word on two runs
pub data IsWordOn (a b : Outcome) (word : List ℕ) : Type 0 where
  alike : EndAlike a b → word ≡ codes "equal" → IsWordOn a b word
  unlike : ¬ (EndAlike a b) → word ≡ codes "differ" → IsWordOn a b word

-- the last program by its statements, its ordered pairs of references and its dependences; what the script came to; and how many pairs were tested, the opening included
pub record Figures : Type 0 where
  pub statements : ℕ
  pub pairs : ℕ
  pub accepted : ℕ
  pub refused : ℕ
  pub tested : ℕ
  pub edges : ℕ

-- a line of a figure
abbrev pub figure_line : List ℕ → ℕ → List ℕ
figure_line name n = name ++ codes " " ++ decimal n ++ 10 ∷ []

-- the line of the runs
abbrev pub runs_line : List ℕ → List ℕ
runs_line word = codes "runs " ++ word ++ 10 ∷ []

-- the eight lines
abbrev pub report : ℕ → Figures → List ℕ → List ℕ
report n f word =
    figure_line (codes "generated") n
    ++ figure_line (codes "statements") f.statements
    ++ figure_line (codes "pairs") f.pairs
    ++ figure_line (codes "accepted") f.accepted
    ++ figure_line (codes "refused") f.refused
    ++ figure_line (codes "tested") f.tested
    ++ figure_line (codes "edges") f.edges
    ++ runs_line word

-- what is reported of the first program: its script of this size is applied in a session on it, and it and the last program are run without choices
pub record Reports (n : ℕ) (first : ProgramTree) (bytes : List ℕ) : Type 0 where
  pub tally : Tally
  pub behind : State
  pub applies : Applies (commands_of (script n)) (opened first) tally behind
  pub last : ProgramTree
  pub reads : ReadsValid behind.present last
  pub edges : List Edge
  pub are_edges : AreEdges last edges
  pub began : Outcome
  pub runs_first : IsLoweredRun [] [] first began
  pub ended : Outcome
  pub runs_last : IsLoweredRun [] [] last ended
  pub word : List ℕ
  pub word_on : IsWordOn began ended word
  pub says : bytes ≡ report n (record {
    statements = statements_count last.body;
    pairs = pair_count (references last);
    accepted = tally.accepted;
    refused = tally.refused;
    tested = pair_count (references first) + tally.tests;
    edges = length edges;
  }) word

-- what is answered to a size: the report of the program of this size, or the first refusal of its text
abbrev pub IsGenerated : ℕ → Status → List ℕ → Type 0
IsGenerated n Done bytes = (t : ProgramTree) × ReadsValid (program n) t × Reports n t bytes
IsGenerated n ProgramRefused bytes = (f : Finding) × RefusesText (program n) f × (bytes ≡ refused_line (found_in_text f))
IsGenerated n SomeRefused bytes = ⊥
IsGenerated n BadWords bytes = ⊥
IsGenerated n ReadFault bytes = ⊥
IsGenerated n WriteFault bytes = ⊥
IsGenerated n NoMemory bytes = ⊥
IsGenerated n TooLong bytes = ⊥
