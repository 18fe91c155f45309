-- Each command has a reply in each state whose sources are printed texts of valid programs, and leads to such a state.
use Rattle.std.proofs.Common.{◌≡◌, ◌⊎◌, ℕ, ◌+◌, ◌-◌, refl, sym, subst, inl, inr, Bool, true, false, List, [], ◌∷◌, ◌++◌, All, Option, Some, None, is_some}
use Rattle.std.specs.Prelude.{MatchBool, MatchOption}
use Rattle.std.proofs.lemmas.List.Elements.{All-nil, All-cons, All-head, All-tail}
use Rattle.ped_tree.specs.Tree.{StmtTree, ProgramTree}
use Rattle.ped_tree.specs.Printing.{program_text}
use Rattle.ped_tree.specs.SourcePane.{source_pane}
use Rattle.ped_tree.specs.Numbering.{statement_with}
use Rattle.ped_session.specs.ped_symbols.specs.NameRefusals.{IsValid}
use Rattle.ped_session.specs.ped_graph.specs.DependencePane.{IsDependencePane, IsDependencePaneOf}
use Rattle.ped_session.specs.ped_update.specs.Fresh.{tested_pairs}
use Rattle.ped_session.specs.ped_valid.specs.Validity.{ReadsValid, RefusesText}
use Rattle.ped_session.specs.ped_valid.specs.Verdicts.{HasOneValidTree, HasOneFirstRefusal}
use Rattle.ped_session.specs.ped_valid.proofs.OneVerdict.{one_of_both, valid_prints}
use Rattle.ped_session.specs.ped_rules.specs.ped_eval.specs.Outcomes.{Outcome}
use Rattle.ped_session.specs.ped_order.specs.ped_interleavings.specs.Interleavings.{Standing, at_start, IsInterleavedFrom}
use Rattle.ped_session.specs.ped_order.proofs.OneReport.{one_at_least}
use Rattle.ped_session.specs.ped_transformations.specs.ped_inline.specs.CallsPane.{IsCallsPane}
use Rattle.ped_script.specs.ped_certificates.specs.declared.claims.Position.{Position}
use Rattle.ped_script.specs.ped_certificates.specs.declared.claims.Sign.{Sign}
use Rattle.ped_session.specs.ped_transformations.specs.ped_evidence.specs.SystemTexts.{system_text}
use Rattle.ped_script.specs.declared.items.Command.{Command}
use Rattle.ped_script.specs.declared.items.Command.TheVariants.{Auto}
use Rattle.ped_script.specs.declared.kinds.Query.{Query}
use Rattle.ped_script.specs.declared.kinds.Query.TheVariants.{Source, Deps, Show, Calls, Print, Advise, System, Tested}
use Rattle.ped_script.specs.declared.kinds.LineEdit.TheVariants.{Replace, Insert}
use Rattle.ped_script.specs.declared.kinds.HistoryMove.TheVariants.{Undo, Redo}
use Rattle.ped_script.specs.declared.kinds.ProgramRun.TheVariants.{Run, Races}
use Rattle.ped_script.specs.declared.kinds.CommandKind.{CommandKind}
use Rattle.ped_script.specs.declared.kinds.CommandKind.TheVariants as kind
use Rattle.ped_script.specs.Kinds.{kind_of}
use Rattle.ped_script.proofs.OnlyAuto.{only_auto}
use Rattle.ped_script.specs.declared.items.Item.{Item}
use Rattle.ped_session.specs.ped_versions.specs.declared.changes.ChangeKind.TheVariants.{Edit}
use Rattle.ped_session.specs.declared.replies.Refusal.{Refusal}
use Rattle.ped_session.specs.declared.replies.Refusal.TheVariants.{BadEdit, Step, NothingToUndo, NothingToRedo, NoSuchStatement, NoSuchLine, NoSuchPair}
use Rattle.ped_session.specs.declared.replies.Reply.{Reply}
use Rattle.ped_session.specs.declared.replies.Reply.TheVariants.{Changed, Shown, Refused}
use Rattle.ped_session.specs.States.{Other, State, opened, changed_to, gone_back_to, gone_forward_to}
use Rattle.ped_session.specs.ped_versions.specs.Splices.{spliced, are_lines, is_place, edit_keep}
use Rattle.ped_session.specs.Panes.{IsSourcePane, ArePanes, tested_row}
use Rattle.ped_session.specs.OutcomeTexts.{outcome_text, IsRunText}
use Rattle.ped_session.specs.LoweredRuns.{told_by, IsLoweredRun}
use Rattle.ped_session.specs.RaceRows.{race_row, IsRaceRow}
use Rattle.ped_session.specs.ped_rules.specs.Steps.{StepAt}
use Rattle.ped_session.specs.ped_transformations.specs.Table.{step_of}
use Rattle.ped_session.specs.ped_transformations.specs.Advice.{IsAdvice}
use Rattle.ped_session.specs.Steps.{Refuses, Prints, Shows, ShowsOf, ShowsStatement, ShowsSystem, Edits, accepted, refused, change_by, Transforms, missing, forbidden, transformed, GoesBack, GoesForward, ShowsAnswer, IsStepOf, IsStep}
use Rattle.ped_session.specs.Histories.{IsPrinted, ArePrinted}
use Rattle.ped_session.specs.Scripts.{Said, said_by, bad_command_said, nothing_said, said_both, AnswersCommand, AnswersItems}
use Rattle.ped_session.specs.AutoAnswers.{auto_text}
use Rattle.ped_session.proofs.IdleRows.{answered_idle}
use Rattle.ped_answer.proofs.ExistenceLaws.Advices.{advice_of}
use Rattle.ped_answer.proofs.ExistenceLaws.Autos.{auto_or_other, some_auto}
use Rattle.ped_answer.proofs.ExistenceLaws.Edges.{pane_of_program, calls_pane_of_program, pane_of_statement}
use Rattle.ped_answer.proofs.ExistenceLaws.FirstCauses.{Goes, each_goes}
use Rattle.ped_answer.proofs.ExistenceLaws.Lowerings.{some_lowered}
use Rattle.ped_answer.proofs.ExistenceLaws.Refusing.{refusal_for}

-- a reply and a state of which this is so; all sources there are printed texts of valid programs
pub record Answered (R : Reply → State → Type 0) : Type 0 where
  pub reply : Reply
  pub next : State
  pub is : R reply next
  pub printed : ArePrinted next

abbrev IsPrintedOther : Other → Type 0
IsPrintedOther o = IsPrinted o.0

-- a printed text reads as its program
pub reads_as : (text : List ℕ) (t : ProgramTree) → IsValid t → text ≡ program_text t → ReadsValid text t
reads_as text t valid e = subst (λ (bytes : List ℕ). ReadsValid bytes t) (sym e) ((valid_prints t valid t).1 refl)

pub reads_printed : (text : List ℕ) → IsPrinted text → (t : ProgramTree) × ReadsValid text t
reads_printed text (t, valid, e) = (t, reads_as text t valid e)

pub panes : (t : ProgramTree) → (bytes : List ℕ) × ArePanes t bytes
panes t = let pane = pane_of_program t in (source_pane t ++ pane.0, (pane.0, pane.1, refl))

race_rows : (data_bytes : List ℕ) (t : ProgramTree) → (bytes : List ℕ) × IsRaceRow data_bytes t bytes
race_rows data_bytes t = let r = one_at_least t data_bytes in (race_row r.0, (r.0, r.1, refl))

-- a run comes to an outcome, from wherever it stands
abbrev pub SomeOutcome : Type 0
SomeOutcome = (t : ProgramTree) (st : Standing) → (o : Outcome) × IsInterleavedFrom t st o

-- so each program has an outcome with each list of choices: what it is lowered to has one
pub lowered_outcome : SomeOutcome → (choices data_bytes : List ℕ) (t : ProgramTree) → (o : Outcome) × IsLoweredRun choices data_bytes t o
lowered_outcome comes choices d t =
    let q = some_lowered t in
    let u = comes q.0.tree (at_start q.0.tree d choices) in
    (told_by q.0 u.0, record { lowered = q.0; lowers = q.1; tells = (u.0, u.1, refl) })

module _ (comes : SomeOutcome) (s : State) (all : ArePrinted s) where
  stays : (why : Refusal) → Answered (λ reply. λ next. Refuses why s reply next)
  stays why = record { reply = Refused why; next = s; is = (refl, refl); printed = all }

  shows : (IsSo : ProgramTree → List ℕ → Type 0) → ((t : ProgramTree) → (bytes : List ℕ) × IsSo t bytes) → Answered (λ reply. λ next. Shows IsSo s reply next)
  shows IsSo some =
      let t = reads_printed s.present all.present in
      let bytes = some t.0 in
      record { reply = Shown bytes.0; next = s; is = record { tree = t.0; reads = t.1; bytes = bytes.0; so = bytes.1; prints = (refl, refl) }; printed = all }

  shows_of : (IsSo : ProgramTree → List ℕ → Type 0) → ((t : ProgramTree) → (bytes : List ℕ) × IsSo t bytes) → (statement : Option StmtTree) → Answered (λ reply. λ next. ShowsOf IsSo statement s reply next)
  shows_of IsSo some None = stays NoSuchStatement
  shows_of IsSo some (Some statement) = shows IsSo some

  shows_statement : (IsSo : ProgramTree → List ℕ → Type 0) → ((t : ProgramTree) → (bytes : List ℕ) × IsSo t bytes) → (number : ℕ) → Answered (λ reply. λ next. ShowsStatement IsSo number s reply next)
  shows_statement IsSo some number =
      let t = reads_printed s.present all.present in
      let a = shows_of IsSo some (statement_with number t.0) in
      record { reply = a.reply; next = a.next; is = record { tree = t.0; reads = t.1; shows = a.is }; printed = a.printed }

  shows_pair : (found : Option (List ℕ)) → Answered (λ reply. λ next. MatchOption found (Refuses NoSuchPair s reply next) (λ text. Prints text s reply next))
  shows_pair None = stays NoSuchPair
  shows_pair (Some text) = record { reply = Shown text; next = s; is = (refl, refl); printed = all }

  shows_system : (source sink : Position) (pattern : List Sign) → Answered (λ reply. λ next. ShowsSystem source sink pattern s reply next)
  shows_system source sink pattern =
      let t = reads_printed s.present all.present in
      let a = shows_pair (system_text t.0 source sink pattern) in
      record { reply = a.reply; next = a.next; is = record { tree = t.0; reads = t.1; shows = a.is }; printed = a.printed }

  -- a change to a valid program
  behind_change : (new : ProgramTree) → IsValid new → (text : List ℕ) → text ≡ program_text new → (past : List Other) → All IsPrintedOther past → (tested : ℕ) → ArePrinted (record { past = past; present = text; future = []; tested = tested })
  behind_change new valid text e past before tested = record { past = before; present = (new, valid, e); future = All-nil IsPrintedOther }

  edits : (kept gone : ℕ) (text : List ℕ) → Answered (λ reply. λ next. Edits kept gone text s reply next)
  edits kept gone text = by (reads_printed s.present all.present) (one_of_both text)
    where
      by : (t : ProgramTree) × ReadsValid s.present t → HasOneValidTree text ⊎ HasOneFirstRefusal text → Answered (λ reply. λ next. Edits kept gone text s reply next)
      by (old, from) (inl h) = record {
        reply = Changed;
        next = changed_to (program_text h.tree) Edit (tested_pairs old h.tree (edit_keep old h.tree kept gone)) s;
        is = accepted old h.tree from h.reads refl refl;
        printed = behind_change h.tree h.reads.valid (program_text h.tree) refl ((s.present, Edit) ∷ s.past) (All-cons IsPrintedOther (s.present, Edit) s.past all.present all.past) (tested_pairs old h.tree (edit_keep old h.tree kept gone));
      }
      by (old, from) (inr h) =
          let why = refusal_for h.first in
          record { reply = Refused (BadEdit why.0); next = s; is = refused why.0 (subst (RefusesText text) (sym why.1) h.refuses) (refl, refl); printed = all }

  edits_where : (there : Bool) (kept gone : ℕ) (text : List ℕ) → Answered (λ reply. λ next. MatchBool there (Edits kept gone text s reply next) (Refuses NoSuchLine s reply next))
  edits_where true kept gone text = edits kept gone text
  edits_where false kept gone text = stays NoSuchLine

  transforms : (at : StepAt) → ((t : ProgramTree) → IsValid t → Goes at t) → Answered (λ reply. λ next. Transforms at s reply next)
  transforms at goes = by (reads_printed s.present all.present)
    where
      on : (t : ProgramTree) → ReadsValid s.present t → (b : Bool) → is_some (statement_with at.statement t) ≡ b → Goes at t → Answered (λ reply. λ next. Transforms at s reply next)
      on t reads false e g = record { reply = Refused NoSuchStatement; next = s; is = missing t reads e (refl, refl); printed = all }
      on t reads true e (inl (c, is)) = record { reply = Refused (Step c); next = s; is = forbidden t reads e c is (refl, refl); printed = all }
      on t reads true e (inr (none, new, keep, makes, valid)) = record {
        reply = Changed;
        next = changed_to (program_text new) (change_by at.kind) (tested_pairs t new keep) s;
        is = transformed t new keep reads e none makes valid refl refl;
        printed = behind_change new valid (program_text new) refl ((s.present, change_by at.kind) ∷ s.past) (All-cons IsPrintedOther (s.present, change_by at.kind) s.past all.present all.past) (tested_pairs t new keep);
      }

      by : (t : ProgramTree) × ReadsValid s.present t → Answered (λ reply. λ next. Transforms at s reply next)
      by (t, reads) = on t reads (is_some (statement_with at.statement t)) refl (goes t reads.valid)

  goes_back : (past : List Other) → All IsPrintedOther past → Answered (λ reply. λ next. GoesBack past s reply next)
  goes_back [] before = stays NothingToUndo
  goes_back (other ∷ past) before = record {
    reply = Changed;
    next = gone_back_to other past s;
    is = (refl, refl);
    printed = record {
      past = All-tail IsPrintedOther other past before;
      present = All-head IsPrintedOther other past before;
      future = All-cons IsPrintedOther (s.present, other.1) s.future all.present all.future;
    };
  }

  goes_forward : (future : List Other) → All IsPrintedOther future → Answered (λ reply. λ next. GoesForward future s reply next)
  goes_forward [] after = stays NothingToRedo
  goes_forward (other ∷ future) after = record {
    reply = Changed;
    next = gone_forward_to other future s;
    is = (refl, refl);
    printed = record {
      past = All-cons IsPrintedOther (s.present, other.1) s.past all.present all.past;
      present = All-head IsPrintedOther other future after;
      future = All-tail IsPrintedOther other future after;
    };
  }

  -- with whatever choices
  run_text : (choices data_bytes : List ℕ) (t : ProgramTree) → (bytes : List ℕ) × IsRunText choices data_bytes t bytes
  run_text choices data_bytes t = let o = lowered_outcome comes choices data_bytes t in (outcome_text o.0, (o.0, o.1, refl))

  -- what is asked for
  answers : (query : Query) → Answered (λ reply. λ next. ShowsAnswer query s reply next)
  answers Source = shows IsSourcePane (λ t. (source_pane t, refl))
  answers (Deps None) = shows IsDependencePane pane_of_program
  answers (Deps (Some number)) = shows_statement (λ t. IsDependencePaneOf t (Some number)) (λ t. pane_of_statement t (Some number)) number
  answers Show = shows ArePanes panes
  answers Calls = shows IsCallsPane calls_pane_of_program
  answers Print = record { reply = Shown s.present; next = s; is = (refl, refl); printed = all }
  answers (Advise number) = shows_statement (λ t. IsAdvice t number) (λ t. advice_of t number) number
  answers (System source sink pattern) = shows_system source sink pattern
  answers Tested = record { reply = Shown (tested_row s.tested); next = s; is = (refl, refl); printed = all }

  by_kind : (k : CommandKind) → (k ≡ kind.Auto → ⊥) → (d : List ℕ) → Answered (λ reply. λ next. IsStepOf k d s reply next)
  by_kind (kind.Ask query) other d = answers query
  by_kind (kind.Edit (Replace first last lines)) other d = edits_where (are_lines s.present first last) (first - 1) (last + 1 - first) (spliced s.present (first - 1) (last + 1 - first) lines)
  by_kind (kind.Edit (Insert after lines)) other d = edits_where (is_place s.present after) after 0 (spliced s.present after 0 lines)
  by_kind (kind.Step command) other d = transforms (step_of command) (each_goes command.statement command.step)
  by_kind kind.Auto other d = absurd (other refl)
  by_kind (kind.Move Undo) other d = goes_back s.past all.past
  by_kind (kind.Move Redo) other d = goes_forward s.future all.future
  by_kind (kind.Run (Run choices)) other d = shows (IsRunText choices d) (run_text choices d)
  by_kind (kind.Run Races) other d = shows (IsRaceRow d) (race_rows d)

  pub replies : (c : Command) → (c ≡ Auto → ⊥) → (data_bytes : List ℕ) → Answered (λ reply. λ next. IsStep c data_bytes s reply next)
  replies c not_auto d = by_kind (kind_of c) (λ is. not_auto (only_auto c is)) d

  pub reply_exists : (c : Command) → (c ≡ Auto → ⊥) → (data_bytes : List ℕ) → (reply : Reply) × (next : State) × IsStep c data_bytes s reply next
  reply_exists c other d = let a = replies c other d in (a.reply, a.next, a.is)

-- what a line answers, and the state behind it
record Told (A : Said → State → Type 0) : Type 0 where
  said : Said
  next : State
  is : A said next
  printed : ArePrinted next

tells_command : SomeOutcome → (line : ℕ) (command : Option Command) (data_bytes : List ℕ) (s : State) → ArePrinted s → Told (λ said. λ next. AnswersCommand line command data_bytes s said next)
tells_command comes line None d s all = record { said = bad_command_said line; next = s; is = (refl, refl); printed = all }
tells_command comes line (Some c) d s all = by (auto_or_other c)
  where
    by : (c ≡ Auto) ⊎ (c ≡ Auto → ⊥) → Told (λ said. λ next. AnswersCommand line (Some c) d s said next)
    by (inl is) =
        let a = some_auto s all in
        record {
          said = record { bytes = auto_text line a.report a.next.present; refused = false; tests = a.tests };
          next = a.next;
          is = inr (is, (record { report = a.report; does = a.does; says = refl }, refl));
          printed = a.printed;
        }
    by (inr other) =
        let a = replies comes s all c other d in
        let idle = answered_idle line (kind_of c) d s a.next a.reply a.is in
        record { said = said_by line a.reply idle.0 a.next; next = a.next; is = inl (a.reply, a.is, idle.0, idle.1, refl); printed = a.printed }

pub answers_of : SomeOutcome → (items : List Item) (data_bytes : List ℕ) (s : State) → ArePrinted s → (said : Said) × (last : State) × AnswersItems items data_bytes s said last
answers_of comes [] d s all = (nothing_said, s, (refl, refl))
answers_of comes (item ∷ items) d s all =
    let first = tells_command comes item.line item.command d s all in
    let (rest, last, are) = answers_of comes items d first.next first.printed in
    (said_both first.said rest, last, (first.said, first.next, first.is, rest, are, refl))

-- a session is opened on a printed text
pub answers_of_script : SomeOutcome → (t : ProgramTree) → IsValid t → (items : List Item) (data_bytes : List ℕ) → (said : Said) × (last : State) × AnswersItems items data_bytes (opened t) said last
answers_of_script comes t valid items d = answers_of comes items d (opened t) (record { past = All-nil IsPrintedOther; present = (t, valid, refl); future = All-nil IsPrintedOther })
