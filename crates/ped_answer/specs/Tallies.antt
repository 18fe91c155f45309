-- Counts of the code, and what lines of a script add to them. Only contracts of private functions use it (this project).
use Rattle.std.specs.Prelude.{◌≡◌, ◌≢◌, ℕ, ◌+◌, List, [], length, Some}
use Rattle.ped_gen.specs.Generated.{program, script}
use Rattle.ped_tree.specs.Tree.{ProgramTree}
use Rattle.ped_tree.specs.Numbering.{statements_count}
use Rattle.ped_session.specs.ped_refs.specs.References.{references, pair_count}
use Rattle.ped_session.specs.ped_rules.specs.ped_edges.specs.Edges.{Edge}
use Rattle.ped_session.specs.ped_graph.specs.Dependences.{AreEdges}
use Rattle.ped_session.specs.ped_valid.specs.Validity.{ReadsValid}
use Rattle.ped_session.specs.ped_rules.specs.ped_eval.specs.Outcomes.{Outcome}
use Rattle.ped_script.specs.Items.{commands_of}
use Rattle.ped_script.specs.declared.items.Command.TheVariants.{Auto}
use Rattle.ped_script.specs.declared.items.Item.{Item}
use Rattle.ped_session.specs.LoweredRuns.{IsLoweredRun}
use Rattle.ped_session.specs.States.{State}
use Rattle.ped_answer.specs.declared.answering.Status.{Status}
use Rattle.ped_answer.specs.declared.answering.Status.TheVariants.{Done}
use Rattle.ped_answer.specs.declared.tallies.Tally as code
use Rattle.ped_answer.specs.Generated.{Tally, Applies, IsWordOn, report, Reports}

-- the item isn't `auto`, which is several steps
abbrev pub IsNoAuto : Item → Type 0
IsNoAuto item = item.command ≢ Some Auto

-- before the first line this many pairs were tested
abbrev pub first_count : ℕ → code.Tally
first_count tested = record { accepted = 0; refused = 0; tested = tested }

-- a count with what more lines come to
abbrev pub counted : code.Tally → Tally → code.Tally
counted before more = record { accepted = before.accepted + more.accepted; refused = before.refused + more.refused; tested = before.tested + more.tests }

-- lines were applied, and what they come to was counted; this many pairs were tested as they test
pub record Counts (Are : State → Tally → State → Type 0) (s next : State) (before after : code.Tally) (steps_before steps_after : ℕ) : Type 0 where
  pub tally : Tally
  pub applies : Are s tally next
  pub counts : after ≡ counted before tally
  pub ticks : steps_after ≡ steps_before + tally.tests

-- what is reported of the last program, where the first one has run so and this was counted
pub record ReportsLast (n : ℕ) (first : Outcome) (count : code.Tally) (last : ProgramTree) (bytes : List ℕ) : Type 0 where
  pub ended : Outcome
  pub runs : IsLoweredRun [] [] last ended
  pub word : List ℕ
  pub word_on : IsWordOn first ended word
  pub says : (edges : List Edge) → AreEdges last edges → bytes ≡ report n (record {
    statements = statements_count last.body;
    pairs = pair_count (references last);
    accepted = count.accepted;
    refused = count.refused;
    tested = count.tested;
    edges = length edges;
  }) word

-- the report of the program of this size in a session that was opened on it, and as many tests as its script makes
pub record Reported (n : ℕ) (s : State) (steps_before steps_after : ℕ) (bytes : List ℕ) : Type 0 where
  pub tree : ProgramTree
  pub reads : ReadsValid (program n) tree
  pub reports : Reports n tree bytes
  pub tally : Tally
  pub last : State
  pub applies : Applies (commands_of (script n)) s tally last
  pub ticks : steps_after ≡ steps_before + tally.tests

-- the report of the program of this size, and no other answer
abbrev pub AnswersReport : ℕ → Status → List ℕ → Type 0
AnswersReport n status bytes = (status ≡ Done) × (t : ProgramTree) × ReadsValid (program n) t × Reports n t bytes
