-- The headline, clause by clause: what is so of the answer to each item of a script, and of both panes of a file (ParaScope; this project).
use Rattle.std.specs.Prelude.{◌≡◌, ◌⊎◌, ℕ, zero, suc, ◌+◌, ◌<◌, List, [], ◌∷◌, ◌++◌, map, reverse, take, length, slice_get, codes, is_some, true, false, Option, Some, None, option_map, MatchOption, ⊤}
use Rattle.std.specs.Fmt.{decimal}
use Rattle.std.specs.List.{AllByRecursion}
use Rattle.ped_io.specs.Outside.{Contents, content}
use Rattle.ped_words.specs.Requests.{Request, show, session, generate}
use Rattle.ped_tree.specs.Tree.{ProgramTree}
use Rattle.ped_tree.specs.Printing.{program_text}
use Rattle.ped_tree.specs.Numbering.{statement_with}
use Rattle.ped_session.specs.ped_valid.specs.Validity.{ReadsValid}
use Rattle.ped_session.specs.ped_rules.specs.ped_eval.specs.Outcomes.{Ends, Outcome, Fault, run_of, outcome, IsRaceFree}
use Rattle.ped_session.specs.ped_rules.specs.ped_eval.specs.Runs.{failed}
use Rattle.ped_call_runs.specs.ped_calls.specs.ped_units.specs.Units.{ProgramUnits}
use Rattle.ped_call_runs.specs.ped_calls.specs.ped_units.specs.Verdicts.{IsExpansion}
use Rattle.ped_call_runs.specs.UnitRuns.{run_units, outcome_of_units}
use Rattle.ped_call_runs.specs.UnitFaults.{FaultsInOwn, expanded_number}
use Rattle.ped_session.specs.ped_graph.specs.DependencePane.{IsDependencePane, IsDependencePaneOf}
use Rattle.ped_session.specs.ped_transformations.specs.ped_inline.specs.CallsPane.{IsCallsPane}
use Rattle.ped_session.specs.ped_rules.specs.ped_views.specs.declared.directions.Direction.{Direction}
use Rattle.ped_session.specs.ped_transformations.specs.ped_evidence.specs.Claims.{Claim}
use Rattle.ped_session.specs.ped_transformations.specs.ped_evidence.specs.Evidence.{NeverMeet}
use Rattle.ped_session.specs.ped_transformations.specs.ped_evidence.specs.Lines.{line_of}
use Rattle.ped_session.specs.ped_transformations.specs.ped_evidence.specs.Signs.{fits}
use Rattle.ped_session.specs.ped_transformations.specs.ped_evidence.specs.SystemTexts.{system_text}
use Rattle.ped_script.specs.ped_certificates.specs.declared.claims.Position.{Position}
use Rattle.ped_script.specs.ped_certificates.specs.declared.claims.Sign.{Sign}
use Rattle.ped_script.specs.ped_certificates.specs.declared.claims.EvidenceLine.{EvidenceLine}
use Rattle.ped_script.specs.ped_certificates.specs.declared.claims.EvidenceLine.TheVariants as line_kind
use Rattle.ped_script.specs.Items.{commands_of}
use Rattle.ped_script.specs.declared.items.Item.{Item}
use Rattle.ped_script.specs.declared.items.Command.{Command}
use Rattle.ped_script.specs.declared.items.Command.TheVariants.{Auto, Run}
use Rattle.ped_script.specs.declared.kinds.WhichStep.TheVariants.{Parallel}
use Rattle.ped_script.specs.declared.kinds.StepCommand.{StepCommand}
use Rattle.ped_script.specs.declared.kinds.Query.{Query}
use Rattle.ped_script.specs.declared.kinds.Query.TheVariants.{Source, Deps, Show, Calls, Print, Advise, System, Tested}
use Rattle.ped_script.specs.declared.kinds.HistoryMove.TheVariants.{Undo, Redo}
use Rattle.ped_script.specs.declared.kinds.CommandKind.{CommandKind}
use Rattle.ped_script.specs.declared.kinds.CommandKind.TheVariants as kind
use Rattle.ped_script.specs.Kinds.{kind_of, step_in, evidence_in, IsMove}
use Rattle.ped_session.specs.ped_transformations.specs.Table.{step_of}
use Rattle.ped_session.specs.ped_transformations.specs.Advice.{IsAdvice}
use Rattle.ped_session.specs.ped_auto.specs.SerialLoops.{serial_loops}
use Rattle.ped_session.specs.ped_rules.specs.Paralleling.{paralleling}
use Rattle.ped_session.specs.ped_rules.specs.Steps.{transformation}
use Rattle.ped_session.specs.ped_transformations.specs.ped_loop_runs.specs.Unrejected.{IsTrusted}
use Rattle.ped_session.specs.ped_steps.specs.Causes.{Cause}
use Rattle.ped_session.specs.ped_steps.specs.CauseWords.{cause_words}
use Rattle.ped_session.specs.declared.replies.Reply.{Reply}
use Rattle.ped_session.specs.declared.replies.Reply.TheVariants.{Changed, Shown, Refused}
use Rattle.ped_session.specs.declared.replies.Refusal.{Refusal}
use Rattle.ped_session.specs.declared.replies.Refusal.TheVariants.{NothingToUndo, NothingToRedo}
use Rattle.ped_session.specs.States.{Other, State, opened}
use Rattle.ped_session.specs.Idle.{is_idle, idle_rows, AreIdle}
use Rattle.ped_session.specs.Panes.{IsSourcePane, ArePanes}
use Rattle.ped_session.specs.Replies.{answer_row, bad_command_row, reply_text}
use Rattle.ped_session.specs.AutoAnswers.{auto_text, AcceptsAll}
use Rattle.ped_session.specs.AutoScripts.{script_of, items_on}
use Rattle.ped_session.specs.Scripts.{Said, nothing_said, said_both, AnswersItem}
use Rattle.ped_session.specs.OutcomeTexts.{outcome_text}
use Rattle.ped_session.specs.LoweredRuns.{HasNoLiveList, IsLoweredRun}
use Rattle.ped_session.specs.Meanings.{IsMeaningKept, ComesFrom, ComesTrulyFrom}
use Rattle.ped_session.specs.RunsAsBefore.{RunsAsBefore}
use Rattle.ped_gen.specs.Generated as made
use Rattle.ped_answer.specs.Answer.{AreData}
use Rattle.ped_answer.specs.Generated.{Figures, report}
use Rattle.ped_answer.specs.Covered.{IsCoveringPane, AreCoveringPanes, IsCoveringPaneOf, IsCoveringCalls}
use Rattle.ped_answer.specs.StepCauses.{Forbids}

-- what may be so of an item of a script: of its line, its command, the data of the session, the state before it, what it says, and the state after it (this project)
abbrev pub ItemFact : Type 1
ItemFact = ℕ → Option Command → List ℕ → State → Said → State → Type 0

-- items answer one after another, each in the state that the one before has left, and this is so of each of them (this project)
abbrev pub AnswersEach : ItemFact → List Item → List ℕ → State → Said → State → Type 0
AnswersEach IsSo [] data_bytes s said last = (said ≡ nothing_said) × (last ≡ s)
AnswersEach IsSo (item ∷ items) data_bytes s said last =
    (first : Said) × (next : State) × AnswersItem item data_bytes s first next × IsSo item.line item.command data_bytes s first next
    × (rest : Said) × AnswersEach IsSo items data_bytes next rest last × (said ≡ said_both first rest)

-- these bytes are what the script answers on the program that the file's program units expand to, on whose printed text the session opens, and by the file's text and this program this is so of each item (this project)
pub record EachItemOn (IsSo : List ℕ → ProgramTree → ItemFact) (program script : List ℕ) (data_file : Option (List ℕ)) (files : Contents) (bytes : List ℕ) : Type 0 where
  pub text : List ℕ
  pub program_is : content files program ≡ Some text
  pub commands : List ℕ
  pub script_is : content files script ≡ Some commands
  pub data_bytes : List ℕ
  pub data_are : AreData data_file files data_bytes
  pub tree : ProgramTree
  pub expands : IsExpansion text tree
  pub said : Said
  pub last : State
  pub answers : AnswersEach (IsSo text tree) (commands_of commands) data_bytes (opened tree) said last
  pub says : bytes ≡ said.bytes

-- the same, where what is so of an item speaks of neither (this project)
abbrev pub EachItem : ItemFact → (program script : List ℕ) (data_file : Option (List ℕ)) (files : Contents) (bytes : List ℕ) → Type 0
EachItem IsSo program script data_file files bytes = EachItemOn (λ text tree. IsSo) program script data_file files bytes

-- Panes.

-- a text reads as one valid program and as no other, and is its printed text; and this is so of that program and these bytes (ParaScope)
pub record Afresh (IsSo : ProgramTree → List ℕ → Type 0) (text bytes : List ℕ) : Type 0 where
  pub tree : ProgramTree
  pub reads : ReadsValid text tree
  pub no_other : (u : ProgramTree) → ReadsValid text u → u ≡ tree
  pub printed : text ≡ program_text tree
  pub so : IsSo tree bytes

-- where the program has a statement of that number, what is so of the program; where it has none, the row that refuses the command (this project)
abbrev pub IsOfStatement : (ProgramTree → List ℕ → Type 0) → (line number : ℕ) → ProgramTree → List ℕ → Type 0
IsOfStatement IsSo line number t bytes = MatchOption (statement_with number t) (bytes ≡ answer_row line (codes "refused NoSuchStatement")) (λ statement. IsSo t bytes)

-- where evidence may speak of this pair and pattern in the program, the text of their system; where it may not, the row that refuses the command (this project)
abbrev pub IsSystemOf : Position → Position → List Sign → (line : ℕ) → ProgramTree → List ℕ → Type 0
IsSystemOf source sink pattern line t bytes = MatchOption (system_text t source sink pattern) (bytes ≡ answer_row line (codes "refused NoSuchPair")) (λ text. bytes ≡ text)

-- a command asks for this
abbrev pub Asks : Option Command → Query → Type 0
Asks command query = option_map kind_of command ≡ Some (kind.Ask query)

-- `source`, `deps`, `deps S`, `show` and `calls` show the panes that come of reading the present source afresh, whatever was done before; `print` shows that source, `advise S` the first causes against the steps in it, and `system` the system of a pair (ParaScope)
abbrev pub AnswersAfresh : Query → ℕ → State → List ℕ → Type 0
AnswersAfresh Source line s bytes = Afresh IsSourcePane s.present bytes
AnswersAfresh (Deps None) line s bytes = Afresh IsDependencePane s.present bytes
AnswersAfresh (Deps (Some number)) line s bytes = Afresh (IsOfStatement (λ t. IsDependencePaneOf t (Some number)) line number) s.present bytes
AnswersAfresh Show line s bytes = Afresh ArePanes s.present bytes
AnswersAfresh Calls line s bytes = Afresh IsCallsPane s.present bytes
AnswersAfresh Print line s bytes = bytes ≡ s.present
AnswersAfresh (Advise number) line s bytes = Afresh (IsOfStatement (λ t. IsAdvice t number) line number) s.present bytes
AnswersAfresh (System source sink pattern) line s bytes = Afresh (IsSystemOf source sink pattern line) s.present bytes
AnswersAfresh Tested line s bytes = ⊤

-- so it is of each of these commands (ParaScope)
abbrev pub ShowsAfresh : ℕ → Option Command → List ℕ → State → Said → State → Type 0
ShowsAfresh line command data_bytes s said next = (query : Query) → Asks command query → AnswersAfresh query line s said.bytes

-- in mode `show` both panes are those that come of reading afresh the printed text of the program that the file's program units expand to (ParaScope)
pub record ShowsFile (program : List ℕ) (files : Contents) (bytes : List ℕ) : Type 0 where
  pub text : List ℕ
  pub program_is : content files program ≡ Some text
  pub tree : ProgramTree
  pub expands : IsExpansion text tree
  pub afresh : Afresh ArePanes (program_text tree) bytes

-- the panes of an answer
abbrev pub PanesRequest : Option Request → Contents → List ℕ → Type 0
PanesRequest None files bytes = ⊤
PanesRequest (Some (show program)) files bytes = ShowsFile program files bytes
PanesRequest (Some (session program script data_file)) files bytes = EachItem ShowsAfresh program script data_file files bytes
PanesRequest (Some (generate number)) files bytes = ⊤

-- History.

-- the sources of a session, the oldest first, and the place of the present one among them, which counts from 0 (ParaScope; this project)
pub record Sources : Type 0 where
  pub all : List (List ℕ)
  pub place : ℕ

-- the text of another source
abbrev pub text_of : Other → List ℕ
text_of other = other.0

-- the sources of a state: the past ones, the present one, the future ones (ParaScope; this project)
abbrev pub sources_of : State → Sources
sources_of s = record { all = reverse (map text_of s.past) ++ s.present ∷ map text_of s.future; place = length s.past }

-- the present source is at its place; it does so in each state, and by it the source that a change adds is the new present one
abbrev pub StandsAtPlace : State → Type 0
StandsAtPlace s = slice_get (sources_of s).all (sources_of s).place ≡ Some s.present

-- `undo`: there is no source before the present one, and it is refused; or the one before it becomes the present one. No source is lost or changed (ParaScope)
pub data GoesOneBack (reply : Reply) (before behind : Sources) : Type 0 where
  nothing_before : before.place ≡ 0 → reply ≡ Refused NothingToUndo → behind ≡ before → GoesOneBack reply before behind
  one_before : (place : ℕ) → before.place ≡ suc place → reply ≡ Changed → behind ≡ record { all = before.all; place = place } → GoesOneBack reply before behind

-- `redo`: there is no source after the present one, and it is refused; or the one after it becomes the present one. No source is lost or changed (ParaScope)
pub data GoesOneForward (reply : Reply) (before behind : Sources) : Type 0 where
  nothing_behind : length before.all ≡ suc before.place → reply ≡ Refused NothingToRedo → behind ≡ before → GoesOneForward reply before behind
  one_behind : suc before.place < length before.all → reply ≡ Changed → behind ≡ record { all = before.all; place = suc before.place } → GoesOneForward reply before behind

-- a new source comes after the present one, in place of all that was there, and is the present one (ParaScope)
abbrev pub PutsBehind : Sources → Sources → Type 0
PutsBehind before behind = (source : List ℕ) × (behind ≡ record { all = take (suc before.place) before.all ++ source ∷ []; place = suc before.place })

-- a command of this kind only shows something; each other one is a change, `undo` or `redo` (this project)
abbrev pub IsShowing : CommandKind → Type 0
IsShowing (kind.Ask query) = ⊤
IsShowing (kind.Run run) = ⊤
IsShowing (kind.Edit edit) = ⊥
IsShowing (kind.Step step) = ⊥
IsShowing kind.Auto = ⊥
IsShowing (kind.Move way) = ⊥

-- what a command does to the sources: `undo` and `redo` move along them; a command that only shows something leaves all as they are; any other one that is accepted is a change and puts a source after the present one; and one that is refused leaves all as they are (ParaScope)
pub data Moves (command : CommandKind) (reply : Reply) (before behind : Sources) : Type 0 where
  by_undo : command ≡ kind.Move Undo → GoesOneBack reply before behind → Moves command reply before behind
  by_redo : command ≡ kind.Move Redo → GoesOneForward reply before behind → Moves command reply before behind
  by_showing : IsShowing command → (shown : List ℕ) → reply ≡ Shown shown → behind ≡ before → Moves command reply before behind
  by_change : ¬ (IsMove command) → ¬ (IsShowing command) → reply ≡ Changed → PutsBehind before behind → Moves command reply before behind
  by_refusal : ¬ (IsMove command) → (why : Refusal) → reply ≡ Refused why → behind ≡ before → Moves command reply before behind

-- this many sources come after the present one, each in its turn
abbrev pub PutsAllBehind : ℕ → Sources → Sources → Type 0
PutsAllBehind zero before behind = behind ≡ before
PutsAllBehind (suc n) before behind = (mid : Sources) × PutsBehind before mid × PutsAllBehind n mid behind

-- `auto` says first how many steps were accepted, and each of them was a change and put a source after the present one (ParaScope; this project)
pub record MovesByAuto (line : ℕ) (before : Sources) (bytes : List ℕ) (behind : Sources) : Type 0 where
  pub count : ℕ
  pub puts : PutsAllBehind count before behind
  pub rest : List ℕ
  pub says : bytes ≡ answer_row line (codes "auto " ++ decimal count) ++ rest

-- the item says the reply to its command, with the rows of its idle lines, and the sources move as this command with this reply moves them; those of `auto` move for each step that it says was accepted; a line that is no command is refused and leaves them (ParaScope; this project)
abbrev pub MovesBy : ℕ → Option Command → State → List ℕ → State → Type 0
MovesBy line None s bytes next = (bytes ≡ bad_command_row line) × (sources_of next ≡ sources_of s)
MovesBy line (Some command) s bytes next =
    ((reply : Reply) × (rows : List ℕ) × AreIdle line (kind_of command) s rows × (bytes ≡ reply_text line reply ++ rows) × Moves (kind_of command) reply (sources_of s) (sources_of next))
    ⊎ ((command ≡ Auto) × MovesByAuto line (sources_of s) bytes (sources_of next))

-- the sources before an item and after it (ParaScope)
pub record KeepsHistory (line : ℕ) (command : Option Command) (data_bytes : List ℕ) (s : State) (said : Said) (next : State) : Type 0 where
  pub here : StandsAtPlace s
  pub there : StandsAtPlace next
  pub moves : MovesBy line command s said.bytes next

-- the history of a session's answer
abbrev pub HistoryRequest : Option Request → Contents → List ℕ → Type 0
HistoryRequest None files bytes = ⊤
HistoryRequest (Some (show program)) files bytes = ⊤
HistoryRequest (Some (session program script data_file)) files bytes = EachItem KeepsHistory program script data_file files bytes
HistoryRequest (Some (generate number)) files bytes = ⊤

-- Runs.

-- whatever the data and the choices are, an outcome of the present program is that of each program from which it has come by transformations alone, where that one is tidy and without C$PED REJECT and runs on these data without a fault and without a race; whether a `run` shows it or not (ParaScope; this project)
abbrev pub AgreesOnAllRuns : State → Type 0
AgreesOnAllRuns s =
    (earlier : List ℕ) (t u : ProgramTree) (data_bytes choices : List ℕ) (o : Outcome) → ComesFrom s.present s.past earlier → ReadsValid earlier t → ReadsValid s.present u
    → IsTrusted t → IsRaceFree t data_bytes → IsLoweredRun choices data_bytes u o → o ≡ outcome t data_bytes

-- and whatever C$PED REJECT lines there are, where no list of sums of the present program is live, it is that of each program from which it has come by transformations alone through tidy programs, where in each of these that is transformed no rejected dependence occurs on these data, nor one of those that the step asks besides, and that program runs on them without a fault and without a race (ParaScope; this project)
abbrev pub AgreesOnTrueRuns : State → Type 0
AgreesOnTrueRuns s =
    (earlier : List ℕ) (t u : ProgramTree) (data_bytes choices : List ℕ) (o : Outcome) → ComesTrulyFrom data_bytes s.present s.past earlier → ReadsValid earlier t → ReadsValid s.present u
    → HasNoLiveList u → IsRaceFree t data_bytes → IsLoweredRun choices data_bytes u o → o ≡ outcome t data_bytes

-- before an item and after it, each transformation of the history keeps the meaning of a program that is tidy and without C$PED REJECT, and leaves it so; and a `run`, whatever choices it has, shows what the programs show from which the present one has come by transformations alone, where these are tidy and without C$PED REJECT and run on the data without a fault and without a race; sums of lists that are live may be done in any order. So it does, whatever C$PED REJECT lines there are, on data on which they are true of each program on the way, where all these programs are tidy and the present one has no live list of sums. A program is tidy where no reference in a PARALLEL DO writes the variable of it or of a DO in it, and each path from that PARALLEL DO's exit to the end overwrites such a variable that is saved (ParaScope; this project)
pub record KeepsMeaning (line : ℕ) (command : Option Command) (data_bytes : List ℕ) (s : State) (said : Said) (next : State) : Type 0 where
  pub here : IsMeaningKept s
  pub there : IsMeaningKept next
  pub runs : RunsAsBefore command data_bytes s said
  pub all_here : AgreesOnAllRuns s
  pub all_there : AgreesOnAllRuns next
  pub true_here : AgreesOnTrueRuns s
  pub true_there : AgreesOnTrueRuns next

-- where the run of the program that is made ends, the report says that the program after the script's steps ends alike (this project)
abbrev pub ReportsAlike : ℕ → List ℕ → Type 0
ReportsAlike number bytes =
    (t : ProgramTree) → ReadsValid (made.program number) t → Ends (run_of t []).ending → (f : Figures) × (bytes ≡ report number f (codes "equal"))

-- the runs in a session's answer, and in a report
abbrev pub RunsRequest : Option Request → Contents → List ℕ → Type 0
RunsRequest None files bytes = ⊤
RunsRequest (Some (show program)) files bytes = ⊤
RunsRequest (Some (session program script data_file)) files bytes = EachItem KeepsMeaning program script data_file files bytes
RunsRequest (Some (generate number)) files bytes = ReportsAlike number bytes

-- Program units.

-- where program units run on the data without a fault, the program that they expand to has their outcome; and so a `run` with these choices shows it: without choices where the present source is the one on which the session opened, and no list of sums in it is live; and with any where the present source has come from that one by transformations alone, if that one is tidy and without C$PED REJECT and runs without a race (ANSI X3.9-1978, section 15.6; ParaScope; this project)
pub record ShowsUnits (units : ProgramUnits) (first : ProgramTree) (choices data_bytes : List ℕ) (s : State) (shown : List ℕ) : Type 0 where
  pub alike : outcome first data_bytes ≡ outcome_of_units units data_bytes
  pub in_order : choices ≡ [] → s.present ≡ program_text first → HasNoLiveList first → shown ≡ outcome_text (outcome_of_units units data_bytes)
  pub behind : ComesFrom s.present s.past (program_text first) → IsTrusted first → IsRaceFree first data_bytes → shown ≡ outcome_text (outcome_of_units units data_bytes)

-- so it is of each `run`, by the program units of the file (this project)
abbrev pub RunsUnits : List ℕ → ProgramTree → ItemFact
RunsUnits text first line command data_bytes s said next =
    (choices : List ℕ) → command ≡ Some (Run choices) → (e : IsExpansion text first) → Ends (run_units e.units data_bytes).ending → ShowsUnits e.units first choices data_bytes s said.bytes

-- on all data the program to which the units of this text expand does what they do: where they run without a fault, it has their outcome; where they meet one, it meets the same at what the statement has become, unless a CALL reads a variable of its own that is undefined (ANSI X3.9-1978, sections 15.6, 17.3; this project)
pub record IsExpandedAlike (text : List ℕ) (t : ProgramTree) : Type 0 where
  pub ends : (e : IsExpansion text t) (data_bytes : List ℕ) → Ends (run_units e.units data_bytes).ending → outcome t data_bytes ≡ outcome_of_units e.units data_bytes
  pub faults : (e : IsExpansion text t) (data_bytes : List ℕ) (fault statement : ℕ) → (run_units e.units data_bytes).ending ≡ failed fault statement → (FaultsInOwn (run_units e.units data_bytes) → ⊥)
      → outcome t data_bytes ≡ Fault fault (expanded_number e.units statement)

-- the program that is shown or opened, by the program units of its file, and the runs in a session's answer
abbrev pub UnitsRequest : Option Request → Contents → List ℕ → Type 0
UnitsRequest None files bytes = ⊤
UnitsRequest (Some (show program)) files bytes = (p : ShowsFile program files bytes) × IsExpandedAlike p.text p.tree
UnitsRequest (Some (session program script data_file)) files bytes = (p : EachItemOn RunsUnits program script data_file files bytes) × IsExpandedAlike p.text p.tree
UnitsRequest (Some (generate number)) files bytes = ⊤

-- Causes.

-- what is said of a step: the present program has no statement of that number; or something forbids the step, and what is said is the first such cause, a rule by its number before a dependence in the order of the pane; both leave the session as it was. Or nothing forbids the step, and it is accepted (ParaScope; this project)
pub data TellsOfStep (command : StepCommand) (line : ℕ) (t : ProgramTree) (s : State) (bytes : List ℕ) (next : State) : Type 0 where
  no_statement : is_some (statement_with command.statement t) ≡ false → bytes ≡ answer_row line (codes "refused NoSuchStatement") → next ≡ s → TellsOfStep command line t s bytes next
  forbidden : is_some (statement_with command.statement t) ≡ true → (c : Cause) → Forbids command.statement command.step t c → (step_of command).IsCause t (Some c) → bytes ≡ answer_row line (codes "refused " ++ cause_words c) → next ≡ s → TellsOfStep command line t s bytes next
  accepted : is_some (statement_with command.statement t) ≡ true → ((c : Cause) → Forbids command.statement command.step t c → ⊥) → bytes ≡ answer_row line (codes "ok") → TellsOfStep command line t s bytes next

-- what is said of a step, and after it a row for each line of its evidence that proves nothing in the present program (this project)
pub record TellsStep (command : StepCommand) (evidence : List EvidenceLine) (line : ℕ) (s : State) (bytes : List ℕ) (next : State) : Type 0 where
  pub tree : ProgramTree
  pub reads : ReadsValid s.present tree
  pub told : List ℕ
  pub tells : TellsOfStep command line tree s told next
  pub says : bytes ≡ told ++ idle_rows tree (line + 1) evidence

-- a transformation or `reject` at a statement that is there is refused by its first cause in the present program, and accepted where it has none; where it isn't there, that is reported (ParaScope)
abbrev pub TellsCause : ℕ → Option Command → List ℕ → State → Said → State → Type 0
TellsCause line None data_bytes s said next = ⊤
TellsCause line (Some command) data_bytes s said next = MatchOption (step_in command) ⊤ (λ step. TellsStep step (evidence_in command) line s said.bytes next)

-- the causes in a session's answer
abbrev pub CausesRequest : Option Request → Contents → List ℕ → Type 0
CausesRequest None files bytes = ⊤
CausesRequest (Some (show program)) files bytes = ⊤
CausesRequest (Some (session program script data_file)) files bytes = EachItem TellsCause program script data_file files bytes
CausesRequest (Some (generate number)) files bytes = ⊤

-- Evidence.

-- a claim is so in all runs of a program: no two accesses by its references conflict in one execution of an outermost DO in directions that its pattern fits (Allen and Kennedy, sections 2.2.1, 2.2.4)
abbrev pub IsSo : ProgramTree → Claim → Type 0
IsSo t claim = (vector : List Direction) → fits claim.pattern vector ≡ true → NeverMeet t claim.source claim.sink vector

-- so it is of what a line of evidence claims that isn't idle; any other line has no word, or is idle (this project)
abbrev pub IsSoOrIdle : ProgramTree → EvidenceLine → Type 0
IsSoOrIdle t line_kind.Empty = ⊤
IsSoOrIdle t line_kind.Malformed = is_idle t line_kind.Malformed ≡ true
IsSoOrIdle t (line_kind.Claim claim) = (is_idle t (line_kind.Claim claim) ≡ true) ⊎ IsSo t (line_of claim).claim

-- after what is said of a command comes a row for each idle line of its evidence, and what each other line claims is so in all runs of the present program (this project)
pub record TellsEvidence (evidence : List EvidenceLine) (line : ℕ) (s : State) (bytes : List ℕ) : Type 0 where
  pub tree : ProgramTree
  pub reads : ReadsValid s.present tree
  pub told : List ℕ
  pub says : bytes ≡ told ++ idle_rows tree (line + 1) evidence
  pub so : AllByRecursion (IsSoOrIdle tree) evidence

-- so it is of each command that takes a step (this project)
abbrev pub TellsIdle : ℕ → Option Command → List ℕ → State → Said → State → Type 0
TellsIdle line None data_bytes s said next = ⊤
TellsIdle line (Some command) data_bytes s said next = MatchOption (step_in command) ⊤ (λ step. TellsEvidence (evidence_in command) line s said.bytes)

-- the evidence in a session's answer
abbrev pub EvidenceRequest : Option Request → Contents → List ℕ → Type 0
EvidenceRequest None files bytes = ⊤
EvidenceRequest (Some (show program)) files bytes = ⊤
EvidenceRequest (Some (session program script data_file)) files bytes = EachItem TellsIdle program script data_file files bytes
EvidenceRequest (Some (generate number)) files bytes = ⊤

-- Parallelised programs.

-- these are the DOs of the program that aren't PARALLEL DOs, in text order, each with the first of all that forbids `parallel` there (ParaScope; this project)
pub record AreLeft (t : ProgramTree) (left : List (ℕ × Cause)) : Type 0 where
  pub loops : map (λ l. l.0) left ≡ serial_loops t
  pub causes : AllByRecursion (λ l. Forbids l.0 Parallel t l.1 × (paralleling l.0).IsCause t (Some l.1)) left

-- the command takes a step, and that is a transformation (ParaScope; this project)
abbrev pub IsTransformation : Command → Type 0
IsTransformation command = MatchOption (step_in command) ⊥ (λ step. (step_of step).kind ≡ transformation)

-- `auto` lists accepted steps, which lead one after another from the state before it to the one after it, and which are what a script of the listed lines is read as, and all of which are transformations; then the DOs that aren't PARALLEL DOs in its program, each with its first cause; and the source, which has come from the former one by transformations alone (ParaScope; this project)
pub record Parallelises (line : ℕ) (s : State) (bytes : List ℕ) (next : State) : Type 0 where
  pub accepted : List Command
  pub accepts : AcceptsAll accepted s next
  pub steps : AllByRecursion IsTransformation accepted
  pub script : commands_of (script_of accepted) ≡ items_on 1 accepted
  pub comes : ComesFrom next.present next.past s.present
  pub tree : ProgramTree
  pub reads : ReadsValid next.present tree
  pub left : List (ℕ × Cause)
  pub are_left : AreLeft tree left
  pub says : bytes ≡ auto_text line (record { accepted = accepted; left = left }) next.present

-- so it is of each `auto` (ParaScope; this project)
abbrev pub ParallelisesBy : ℕ → Option Command → List ℕ → State → Said → State → Type 0
ParallelisesBy line command data_bytes s said next = command ≡ Some Auto → Parallelises line s said.bytes next

-- what `auto` lists in a session's answer
abbrev pub AutoRequest : Option Request → Contents → List ℕ → Type 0
AutoRequest None files bytes = ⊤
AutoRequest (Some (show program)) files bytes = ⊤
AutoRequest (Some (session program script data_file)) files bytes = EachItem ParallelisesBy program script data_file files bytes
AutoRequest (Some (generate number)) files bytes = ⊤

-- Coverage.

-- `deps`, `deps S`, `show` and `calls` show panes that cover the conflicts of references in the run in order of the present program, on whatever data, and those of dependences its races, too: this program is the one that comes of reading the present source afresh (Allen and Kennedy, section 2.2.1; ParaScope)
abbrev pub CoversRuns : Query → ℕ → State → List ℕ → Type 0
CoversRuns (Deps None) line s bytes = Afresh IsCoveringPane s.present bytes
CoversRuns (Deps (Some number)) line s bytes = Afresh (IsOfStatement (IsCoveringPaneOf number) line number) s.present bytes
CoversRuns Show line s bytes = Afresh AreCoveringPanes s.present bytes
CoversRuns Calls line s bytes = Afresh IsCoveringCalls s.present bytes
CoversRuns query line s bytes = ⊤

-- so it is of each of these commands (ParaScope)
abbrev pub Covers : ℕ → Option Command → List ℕ → State → Said → State → Type 0
Covers line command data_bytes s said next = (query : Query) → Asks command query → CoversRuns query line s said.bytes

-- the panes of an answer cover what references do in runs in order
abbrev pub CoveredRequest : Option Request → Contents → List ℕ → Type 0
CoveredRequest None files bytes = ⊤
CoveredRequest (Some (show program)) files bytes = (p : ShowsFile program files bytes) × Afresh AreCoveringPanes (program_text p.tree) bytes
CoveredRequest (Some (session program script data_file)) files bytes = EachItem Covers program script data_file files bytes
CoveredRequest (Some (generate number)) files bytes = ⊤

-- All parts.

-- all of this is so of one list of bytes, that of an answer which was written whole (this project)
pub record IsHeadline (request : Option Request) (files : Contents) (bytes : List ℕ) : Type 0 where
  pub panes : PanesRequest request files bytes
  pub history : HistoryRequest request files bytes
  pub runs : RunsRequest request files bytes
  pub units : UnitsRequest request files bytes
  pub causes : CausesRequest request files bytes
  pub evidence : EvidenceRequest request files bytes
  pub parallelised : AutoRequest request files bytes
  pub covered : CoveredRequest request files bytes
