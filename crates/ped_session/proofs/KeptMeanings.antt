-- Transformations keep the meaning of a session's programs.
use Rattle.std.proofs.Common.{◌≡◌, inl, inr, ℕ, List, [], ◌∷◌, append-nil, Option, Some, None, refl, sym, ap, ◌∙◌, subst}
use Rattle.std.specs.List.{range_with_len}
use Rattle.ped_tree.specs.Tree.{ProgramTree}
use Rattle.ped_tree.specs.Numbering.{statements_count}
use Rattle.ped_tree.specs.Printing.{program_text}
use Rattle.ped_transformations.specs.ped_symbols.specs.NameRefusals.{IsValid}
use Rattle.ped_versions.specs.ped_valid.specs.Validity.{ReadsValid}
use Rattle.ped_versions.specs.ped_valid.proofs.OneVerdict.{valid_prints}
use Rattle.ped_eval.specs.Runs.{Ending, going, stopped, failed}
use Rattle.ped_eval.specs.Outcomes.{Outcome, run_of, outcome_of, outcome, Ends, IsRaceFree}
use Rattle.ped_order.specs.ped_interleavings.specs.Interleavings.{IsInterleaved}
use Rattle.ped_transformations.specs.ped_reduce.specs.Lowering.{Lowered, not_lowered}
use Rattle.ped_transformations.specs.ped_reduce.specs.Reducing.{IsLowered}
use Rattle.ped_transformations.specs.ped_reduce.proofs.LoweringLaws.{valid_stays, none_live}
use Rattle.ped_transformations.specs.ped_loop_runs.specs.Unrejected.{IsTrusted}
use Rattle.ped_transformations.specs.ped_rules.specs.Lawful.{IsFaithful, Owes}
use Rattle.ped_transformations.specs.ped_loop_runs.specs.Meaning.{KeepsOn}
use Rattle.ped_transformations.specs.ped_steps.specs.Runs.Meaning.{Keeps}
use Rattle.ped_script.specs.declared.items.Command.{Command}
use Rattle.ped_script.specs.declared.kinds.StepCommand.{StepCommand}
use Rattle.ped_script.specs.declared.kinds.CommandKind.{CommandKind}
use Rattle.ped_script.specs.Kinds.{kind_of}
use Rattle.ped_script.specs.declared.items.Command.TheVariants.{Run}
use Rattle.ped_script.specs.declared.items.Item.{Item}
use Rattle.ped_versions.specs.declared.changes.ChangeKind.{ChangeKind}
use Rattle.ped_session.specs.declared.replies.Reply.{Reply}
use Rattle.ped_session.specs.declared.replies.Reply.TheVariants.{Changed}
use Rattle.ped_versions.specs.States.{Other, State, opened, changed_to}
use Rattle.ped_session.specs.OutcomeTexts.{outcome_text, IsRunText}
use Rattle.ped_session.specs.LoweredRuns.{HasNoLiveList, told_by, IsLoweredRun}
use Rattle.ped_transformations.specs.ped_rules.specs.Steps.{StepKind, transformation, rejection}
use Rattle.ped_session.specs.Steps.{Edits, accepted, refused, change_by, Transforms, missing, forbidden, transformed, GoesBack, GoesForward, Shows, IsStep}
use Rattle.ped_session.specs.Scripts.{Said, said_by, AnswersReply, AnswersCommand, AnswersItems}
use Rattle.ped_session.specs.Meanings.{IsTrueChange, MeansTheSame, IsKept, IsPastKept, IsFutureKept, IsMeaningKept, ComesFrom, ComesTrulyFrom, IsAsBefore, IsTrulyAsBefore, ShowsAsBefore}
use Rattle.ped_session.specs.RunsAsBefore.{RunsAsBefore, AnswersAsBefore}
use Rattle.ped_transformations.specs.Table.{step_of}
use Rattle.ped_transformations.proofs.LawfulTable.{AllLawful}
use Rattle.ped_transformations.specs.ped_auto.specs.Strategy.{Report, IsAuto}
use Rattle.ped_session.specs.AutoEditing.{session_editing}
use Rattle.ped_session.proofs.AutoSteps.{auto_steps, all_keep, is_step}
use Rattle.ped_session.proofs.OneStep.{one_tree}
use Rattle.ped_session.proofs.OneRun.{as_it_is}
use Rattle.ped_session.proofs.Doing.{Does, by_nothing, by_edit, by_step, by_undo, by_redo, does}

-- on data on which that is true what a change asks, a program keeps the meaning of another
abbrev pub KeepsTruly : ProgramTree → ProgramTree → Type 0
KeepsTruly t u = (data_bytes : List ℕ) → IsTrueChange t u data_bytes → IsRaceFree t data_bytes → KeepsOn t u data_bytes

-- a program that keeps the meaning of another where that may be trusted, and on such data, by their texts
pub same_meaning : (source : List ℕ) (t u : ProgramTree) → ReadsValid source t → IsValid u → (IsTrusted t → IsFaithful t u) → KeepsTruly t u → MeansTheSame source (program_text u)
same_meaning source t u reads valid kept kept_on = record { before = t; reads_before = reads; behind = u; reads_behind = (valid_prints u valid u).1 refl; kept = kept; kept_on = kept_on }

-- what a step of a kind owes is what the history asks of it
kept_by : (kind : StepKind) (source : List ℕ) (t u : ProgramTree) → ReadsValid source t → IsValid u → Owes kind t u → (kind ≡ transformation → KeepsTruly t u) → IsKept (change_by kind) source (program_text u)
kept_by transformation source t u reads valid owes truly = same_meaning source t u reads valid owes (truly refl)
kept_by rejection source t u reads valid owes truly = tt

-- and what the step of a command owes
pub kept_by_step : AllLawful → (command : StepCommand) (source : List ℕ) (t u : ProgramTree) (keep : List (ℕ × ℕ)) → ReadsValid source t → IsValid t → IsValid u → (step_of command).IsCause t None → (step_of command).Makes t u keep
    → IsKept (change_by (step_of command).kind) source (program_text u)
kept_by_step all command source t u keep reads valid new_valid none makes =
    let lawful = all command in
    kept_by (step_of command).kind source t u reads new_valid (lawful.keeps t u keep valid none makes)
    (λ kind data_bytes change free. lawful.keeps_on t u keep data_bytes valid none makes kind change.tidy change.new_tidy change.true_on (change.true_step command keep makes) free)

-- a program keeps its own meaning, and one that keeps the meaning of another keeps what that one keeps
keeps_itself : (t : ProgramTree) → Keeps t t
keeps_itself t = record { saved = refl; same = λ data_bytes free. refl; race_free = λ data_bytes free. free }

keeps_further : (t u v : ProgramTree) → Keeps t u → Keeps u v → Keeps t v
keeps_further t u v h k = record {
  saved = k.saved ∙ h.saved;
  same = λ data_bytes free. k.same data_bytes (h.race_free data_bytes free) ∙ h.same data_bytes free;
  race_free = λ data_bytes free. k.race_free data_bytes (h.race_free data_bytes free);
}

the_same : (source earlier : List ℕ) (t u : ProgramTree) → earlier ≡ source → ReadsValid earlier t → ReadsValid source u → IsTrusted t → IsFaithful t u
the_same source earlier t u is from to trusted =
    subst (IsFaithful t) (one_tree source t u (subst (λ (b : List ℕ). ReadsValid b t) is from) to) (record { trusted = trusted; keeps = keeps_itself t })

-- where a program may be trusted, so may that of a source which has come from it by transformations alone, and it keeps the meaning
pub came : (source : List ℕ) (past : List Other) (earlier : List ℕ) (t u : ProgramTree) → IsPastKept source past → ComesFrom source past earlier → ReadsValid earlier t → ReadsValid source u → IsTrusted t → IsFaithful t u
came source [] earlier t u kept is from to trusted = the_same source earlier t u is from to trusted
came source (other ∷ past) earlier t u kept (inl is) from to trusted = the_same source earlier t u is from to trusted
came source (other ∷ past) earlier t u kept (inr comes) from to trusted =
    let last : MeansTheSame other.0 source = subst (λ (c : ChangeKind). IsKept c other.0 source) comes.0 kept.0 in
    let front = came other.0 past earlier t last.before kept.1 comes.1 from last.reads_before trusted in
    let behind = last.kept front.trusted in
    subst (IsFaithful t) (one_tree source last.behind u last.reads_behind to)
    (record { trusted = behind.trusted; keeps = keeps_further t last.before last.behind front.keeps behind.keeps })

-- on these data a program keeps its own meaning
the_same_on : (source earlier : List ℕ) (t u : ProgramTree) (d : List ℕ) → earlier ≡ source → ReadsValid earlier t → ReadsValid source u → IsRaceFree t d → KeepsOn t u d
the_same_on source earlier t u d is from to free =
    subst (λ (v : ProgramTree). KeepsOn t v d) (one_tree source t u (subst (λ (b : List ℕ). ReadsValid b t) is from) to) (record { same = refl; race_free = free })

-- and so does one that has come from it by transformations alone, at each of which what it asks is true on these data
pub came_truly : (d source : List ℕ) (past : List Other) (earlier : List ℕ) (t u : ProgramTree) → IsPastKept source past → ComesTrulyFrom d source past earlier → ReadsValid earlier t → ReadsValid source u → IsRaceFree t d → KeepsOn t u d
came_truly d source [] earlier t u kept is from to free = the_same_on source earlier t u d is from to free
came_truly d source (other ∷ past) earlier t u kept (inl is) from to free = the_same_on source earlier t u d is from to free
came_truly d source (other ∷ past) earlier t u kept (inr comes) from to free =
    let last : MeansTheSame other.0 source = subst (λ (c : ChangeKind). IsKept c other.0 source) comes.0 kept.0 in
    let front = came_truly d other.0 past earlier t last.before kept.1 comes.2 from last.reads_before free in
    let behind = last.kept_on d (comes.1 last.before last.behind last.reads_before last.reads_behind) front.race_free in
    subst (λ (v : ProgramTree). KeepsOn t v d) (one_tree source last.behind u last.reads_behind to) (record { same = behind.same ∙ front.same; race_free = behind.race_free })

-- where a program runs without a fault and a race, it has the outcome of its run in order with all choices
abbrev pub Agree : Type 0
Agree = (t : ProgramTree) (data_bytes choices : List ℕ) (o : Outcome) → IsValid t → IsRaceFree t data_bytes → IsInterleaved t data_bytes choices o → o ≡ outcome t data_bytes

-- what a program that may be trusted is lowered to may be trusted and means the same
abbrev pub LoweringKeeps : Type 0
LoweringKeeps = (t : ProgramTree) (q : Lowered) → IsValid t → IsTrusted t → IsLowered t q → IsTrusted q.tree × Keeps t q.tree

-- an outcome without a fault is told as it is
told_at_end : (q : Lowered) (t : ProgramTree) (e : Ending) → Ends e → told_by q (outcome_of t e) ≡ outcome_of t e
told_at_end q t (going s) ends = refl
told_at_end q t (stopped s) ends = refl
told_at_end q t (failed fault statement) ends = absurd ends

-- so it has the outcome of its run in order with all choices, also where it is lowered
lowered_agrees : Agree → LoweringKeeps → (choices d : List ℕ) (u : ProgramTree) (o : Outcome) → IsValid u → IsTrusted u → IsRaceFree u d → IsLoweredRun choices d u o → o ≡ outcome u d
lowered_agrees agree lower choices d u o valid trusted free run =
    let q = run.lowered in
    let keeps = (lower u q valid trusted run.lowers).1 in
    let lowered_valid = valid_stays u (range_with_len 1 (statements_count u.body)) (not_lowered u) q valid run.lowers in
    let ended : run.tells.0 ≡ outcome u d = agree q.tree d choices run.tells.0 lowered_valid (keeps.race_free d free) run.tells.1 ∙ keeps.same d free in
    run.tells.2 ∙ ap (told_by q) ended ∙ told_at_end q u (run_of u d).ending free.0

-- so each outcome of the present program, with whatever choices, is that of each of these
pub as_before : Agree → LoweringKeeps → (s : State) (d choices : List ℕ) (u : ProgramTree) (o : Outcome) → IsMeaningKept s → ReadsValid s.present u → IsLoweredRun choices d u o → IsAsBefore s d o
as_before agree lower s d choices u o kept reads run = λ earlier t comes from trusted free.
    let faithful = came s.present s.past earlier t u kept.past comes from reads trusted in
    lowered_agrees agree lower choices d u o reads.valid faithful.trusted (faithful.keeps.race_free d free) run ∙ faithful.keeps.same d free

-- where no list is live, a program runs as it is
runs_as_it_is : (choices d : List ℕ) (u : ProgramTree) (o : Outcome) → HasNoLiveList u → IsLoweredRun choices d u o → IsInterleaved u d choices o
runs_as_it_is choices d u o none run = (as_it_is choices d u o (subst (λ (q : Lowered). IsLowered u q) (none_live u run.lowered run.lowers (none run.lowered run.lowers)) run.lowers)).0 run

-- so each outcome of the present program is that of each program, too, on the way from which what each transformation asks is true on the data
pub truly_before : Agree → (s : State) (d choices : List ℕ) (u : ProgramTree) (o : Outcome) → IsMeaningKept s → ReadsValid s.present u → IsLoweredRun choices d u o → IsTrulyAsBefore s d o
truly_before agree s d choices u o kept reads run = λ earlier t v comes from to none free.
    let keeps = came_truly d s.present s.past earlier t u kept.past comes from reads free in
    agree u d choices o reads.valid keeps.race_free (runs_as_it_is choices d u o (subst HasNoLiveList (one_tree s.present v u to reads) none) run) ∙ keeps.same

-- a state that is as it was
same : (s next : State) → IsMeaningKept s → next ≡ s → IsMeaningKept next
same s next k e = subst IsMeaningKept (sym e) k

edit_keeps : (kept gone : ℕ) (text : List ℕ) (s next : State) (reply : Reply) → IsMeaningKept s → Edits kept gone text s reply next → IsMeaningKept next
edit_keeps kept gone text s next reply k (accepted old new from to changed after) = subst IsMeaningKept (sym after) (record { past = (tt, k.past); future = tt })
edit_keeps kept gone text s next reply k (refused why first stays) = same s next k stays.1

step_keeps : AllLawful → (command : StepCommand) (s next : State) (reply : Reply) → IsMeaningKept s → Transforms (step_of command) s reply next → IsMeaningKept next
step_keeps all command s next reply k (missing t reads none stays) = same s next k stays.1
step_keeps all command s next reply k (forbidden t reads some c is stays) = same s next k stays.1
step_keeps all command s next reply k (transformed t new keep reads some none makes valid changed after) =
    subst IsMeaningKept (sym after)
    (record { past = (kept_by_step all command s.present t new keep reads reads.valid valid none makes, k.past); future = tt })

pub back_keeps : (past : List Other) (s next : State) (reply : Reply) → IsMeaningKept s → IsPastKept s.present past → GoesBack past s reply next → IsMeaningKept next
back_keeps [] s next reply k kept h = same s next k h.1
back_keeps (other ∷ past) s next reply k kept h = subst IsMeaningKept (sym h.1) (record { past = kept.1; future = (kept.0, k.future) })

pub forward_keeps : (future : List Other) (s next : State) (reply : Reply) → IsMeaningKept s → IsFutureKept s.present future → GoesForward future s reply next → IsMeaningKept next
forward_keeps [] s next reply k kept h = same s next k h.1
forward_keeps (other ∷ future) s next reply k kept h = subst IsMeaningKept (sym h.1) (record { past = (kept.0, k.past); future = kept.1 })

keeps_by : AllLawful → (what : CommandKind) (s next : State) (reply : Reply) → IsMeaningKept s → Does what s reply next → IsMeaningKept next
keeps_by all what s next reply k (by_nothing changed is) = same s next k is
keeps_by all what s next reply k (by_edit kept gone text h) = edit_keeps kept gone text s next reply k h
keeps_by all what s next reply k (by_step command h) = step_keeps all command s next reply k h
keeps_by all what s next reply k (by_undo is h) = back_keeps s.past s next reply k k.past h
keeps_by all what s next reply k (by_redo is h) = forward_keeps s.future s next reply k k.future h

-- and so does a change of a kind that keeps what it has to
pub change_keeps : (kind : ChangeKind) (text : List ℕ) (tested : ℕ) (s next : State) → IsMeaningKept s → IsKept kind s.present text → next ≡ changed_to text kind tested s → IsMeaningKept next
change_keeps kind text tested s next k kept after = subst IsMeaningKept (sym after) (record { past = (kept, k.past); future = tt })

-- a command keeps it
pub command_keeps : AllLawful → (c : Command) (d : List ℕ) (s next : State) (reply : Reply) → IsMeaningKept s → IsStep c d s reply next → IsMeaningKept next
command_keeps all c d s next reply k h = keeps_by all (kind_of c) s next reply k (does (kind_of c) d s next reply h)

-- so does `auto`
pub auto_keeps : AllLawful → (s next : State) (report : Report) (tests : ℕ) → IsMeaningKept s → IsAuto session_editing s report next tests → IsMeaningKept next
auto_keeps all s next report tests k h =
    all_keep IsMeaningKept (λ c m n kept t. command_keeps all c [] m n Changed kept (is_step c [] m n Changed t)) report.accepted s next tests k (auto_steps s next report tests h)

line_keeps : AllLawful → (line : ℕ) (command : Option Command) (d : List ℕ) (s next : State) (said : Said) → IsMeaningKept s → AnswersCommand line command d s said next → IsMeaningKept next
line_keeps all line None d s next said k h = same s next k h.1
line_keeps all line (Some c) d s next said k (inl h) = command_keeps all c d s next h.0 k h.1
line_keeps all line (Some c) d s next said k (inr (is, h)) = auto_keeps all s next h.0.report said.tests k h.0.does

-- a session is opened without a history
pub opened_keeps : (t : ProgramTree) → IsMeaningKept (opened t)
opened_keeps t = record { past = tt; future = tt }

run_shows : Agree → LoweringKeeps → (line : ℕ) (choices d : List ℕ) (s next : State) (said : Said) → IsMeaningKept s → AnswersReply line (Run choices) d s said next → ShowsAsBefore s d said.bytes
run_shows agree lower line choices d s next said k h =
    let shows : Shows (IsRunText choices d) s h.0 next = h.1 in
    let rows : h.2 ≡ [] = h.3 in
    let text : said.bytes ≡ outcome_text shows.so.0 = ap (λ (x : Said). x.bytes) (h.4 ∙ (λ i. said_by line (shows.prints.0 i) (rows i) next)) ∙ append-nil shows.bytes ∙ shows.so.2 in
    record {
      trusted = λ earlier t comes from trusted free. text ∙ ap outcome_text (as_before agree lower s d choices shows.tree shows.so.0 k shows.reads shows.so.1 earlier t comes from trusted free);
      true_on = λ earlier t u comes from to none free. text ∙ ap outcome_text (truly_before agree s d choices shows.tree shows.so.0 k shows.reads shows.so.1 earlier t u comes from to none free);
    }

-- a `run` shows what the earlier programs show
line_shows : Agree → LoweringKeeps → (line : ℕ) (command : Option Command) (d : List ℕ) (s next : State) (said : Said) → IsMeaningKept s → AnswersCommand line command d s said next → RunsAsBefore command d s said
line_shows agree lower line command d s next said k h = λ choices is. by_reply choices (subst (λ (c : Option Command). AnswersCommand line c d s said next) is h)
  where
    by_reply : (choices : List ℕ) → AnswersCommand line (Some (Run choices)) d s said next → ShowsAsBefore s d said.bytes
    by_reply choices (inl h) = run_shows agree lower line choices d s next said k h
    by_reply choices (inr (is, h)) = absurd cc

-- the items of a script
pub items_as_before : Agree → LoweringKeeps → AllLawful → (items : List Item) (d : List ℕ) (s last : State) (said : Said) → IsMeaningKept s → AnswersItems items d s said last → AnswersAsBefore items d s said last
items_as_before agree lower all [] d s last said k h = (k, h.0, h.1)
items_as_before agree lower all (item ∷ items) d s last said k h = (
  k,
  h.0,
  h.1,
  h.2,
  line_shows agree lower item.line item.command d s h.1 h.0 k h.2,
  h.3,
  items_as_before agree lower all items d h.1 last h.3 (line_keeps all item.line item.command d s h.1 h.0 k h.2) h.4,
  h.5,
)
