-- The runs of a script show what the program units of the file do.
use Rattle.std.proofs.Common.{◌≡◌, inl, inr, ℕ, List, [], ◌∷◌, Option, Some, None, refl, sym, ap, ◌∙◌, subst}
use Rattle.std.specs.Prelude.{◌↔◌}
use Rattle.ped_io.specs.Outside.{Contents}
use Rattle.ped_words.specs.Requests.{Request, show, session, generate}
use Rattle.ped_tree.specs.Tree.{ProgramTree}
use Rattle.ped_tree.specs.Printing.{program_text}
use Rattle.ped_session.specs.ped_symbols.specs.NameRefusals.{IsValid}
use Rattle.ped_session.specs.ped_valid.specs.Validity.{ReadsValid}
use Rattle.ped_session.specs.ped_rules.specs.ped_eval.specs.Outcomes.{Ends, Fault, Outcome, outcome}
use Rattle.ped_session.specs.ped_rules.specs.ped_eval.specs.Runs.{failed}
use Rattle.ped_session.specs.ped_order.specs.ped_interleavings.specs.Interleavings.{IsInterleaved}
use Rattle.ped_session.specs.ped_transformations.specs.ped_reduce.specs.Lowering.{Lowered}
use Rattle.ped_session.specs.ped_transformations.specs.ped_reduce.specs.Reducing.{IsLowered}
use Rattle.ped_script.specs.declared.items.Command.{Command}
use Rattle.ped_script.specs.declared.items.Command.TheVariants.{Auto, Run}
use Rattle.ped_script.specs.declared.items.Item.{Item}
use Rattle.ped_session.specs.declared.replies.Reply.{Reply}
use Rattle.ped_session.specs.declared.replies.Reply.TheVariants.{Shown}
use Rattle.ped_session.specs.States.{State, opened}
use Rattle.ped_session.specs.OutcomeTexts.{outcome_text, IsRunText}
use Rattle.ped_session.specs.LoweredRuns.{IsLoweredRun}
use Rattle.ped_session.specs.Steps.{Shows, IsStep}
use Rattle.ped_session.specs.Scripts.{Said, said_by, AnswersCommand}
use Rattle.ped_session.specs.RunsAsBefore.{RunsAsBefore, AnswersAsBefore}
use Rattle.ped_call_runs.specs.ped_calls.specs.ped_units.specs.Units.{ProgramUnits}
use Rattle.ped_call_runs.specs.ped_calls.specs.ped_units.specs.Expanding.{expansion}
use Rattle.ped_call_runs.specs.ped_calls.specs.ped_units.specs.Verdicts.{ReadsLinkedUnits, IsExpansion}
use Rattle.ped_call_runs.specs.UnitRuns.{run_units, outcome_of_units}
use Rattle.ped_call_runs.specs.UnitFaults.{FaultsInOwn, expanded_number}
use Rattle.ped_answer.specs.declared.answering.Status.{Status}
use Rattle.ped_answer.specs.Answer.{IsWhole, Answers}
use Rattle.ped_session.specs.LoweredRuns.{HasNoLiveList}
use Rattle.ped_answer.specs.Headline.{AnswersEach, RunsUnits, IsExpandedAlike, UnitsRequest}
use Rattle.ped_answer.proofs.OneAnswer.{one_tree}
use Rattle.ped_answer.proofs.ExistenceLaws.Replying.{reads_as}
use Rattle.ped_answer.proofs.EachItems.{session_files}
use Rattle.ped_answer.proofs.FreshPanes.{bytes_of, shows_file}
use Rattle.ped_answer.proofs.ScriptRuns.{AsBefore}

-- program units that run without a fault and what they expand to have one outcome
abbrev pub RunAlike : Type 0
RunAlike = (text : List ℕ) (us : ProgramUnits) (data_bytes : List ℕ) → ReadsLinkedUnits text us → IsValid (expansion us) → Ends (run_units us data_bytes).ending → outcome (expansion us) data_bytes ≡ outcome_of_units us data_bytes

-- where they meet a fault, so does what they expand to
abbrev pub FaultAlike : Type 0
FaultAlike = (text : List ℕ) (us : ProgramUnits) (data_bytes : List ℕ) (fault statement : ℕ) → ReadsLinkedUnits text us → IsValid (expansion us) → (run_units us data_bytes).ending ≡ failed fault statement → (FaultsInOwn (run_units us data_bytes) → ⊥)
    → outcome (expansion us) data_bytes ≡ Fault fault (expanded_number us statement)

-- where no list of sums in a program is live, it runs as it is
abbrev pub RunsUnlowered : Type 0
RunsUnlowered = (choices data_bytes : List ℕ) (t : ProgramTree) (q : Lowered) (o : Outcome) → IsLowered t q → q.live ≡ [] → IsLoweredRun choices data_bytes t o ↔ IsInterleaved t data_bytes choices o

-- without choices a program runs in order
abbrev pub RunsInOrder : Type 0
RunsInOrder = (t : ProgramTree) (data_bytes : List ℕ) (o : Outcome) → IsInterleaved t data_bytes [] o → o ≡ outcome t data_bytes

-- so a run without choices of such a program shows its run in order
abbrev pub RunInOrder : Type 0
RunInOrder = (data_bytes : List ℕ) (s next : State) (reply : Reply) → IsStep (Run []) data_bytes s reply next
    → ((t : ProgramTree) → ReadsValid s.present t → HasNoLiveList t) → Shows (λ t bytes. bytes ≡ outcome_text (outcome t data_bytes)) s reply next

pub run_in_order : RunsUnlowered → RunsInOrder → RunInOrder
run_in_order unlowered order d s next reply h none =
    let shows : Shows (IsRunText [] d) s reply next = h in
    let run : IsLoweredRun [] d shows.tree shows.so.0 = shows.so.1 in
    let as_it_is = unlowered [] d shows.tree run.lowered shows.so.0 run.lowers (none shows.tree shows.reads run.lowered run.lowers) in
    record {
      tree = shows.tree;
      reads = shows.reads;
      bytes = shows.bytes;
      so = shows.so.2 ∙ ap outcome_text (order shows.tree d shows.so.0 (as_it_is.0 run));
      prints = shows.prints;
    }

same_outcome : RunAlike → (text : List ℕ) (t : ProgramTree) (d : List ℕ) (e : IsExpansion text t) → Ends (run_units e.units d).ending → outcome t d ≡ outcome_of_units e.units d
same_outcome alike text t d e ends =
    subst (λ (x : ProgramTree). outcome x d ≡ outcome_of_units e.units d) e.expands (alike text e.units d e.linked (subst IsValid (sym e.expands) e.valid) ends)

-- and so it is on all data
same_on_all : RunAlike → FaultAlike → (text : List ℕ) (t : ProgramTree) → IsExpandedAlike text t
same_on_all alike fault_alike text t = record {
  ends = λ e d ends. same_outcome alike text t d e ends;
  faults = λ e d fault statement fails none.
      subst (λ (x : ProgramTree). outcome x d ≡ Fault fault (expanded_number e.units statement)) e.expands
      (fault_alike text e.units d fault statement e.linked (subst IsValid (sym e.expands) e.valid) fails none);
}

-- the run of the source on which the session opened
shown_in_order : RunInOrder → (t : ProgramTree) → IsValid t → (line : ℕ) (d : List ℕ) (s next : State) (said : Said) → AnswersCommand line (Some (Run [])) d s said next → s.present ≡ program_text t → HasNoLiveList t → said.bytes ≡ outcome_text (outcome t d)
shown_in_order order t valid line d s next said (inl h) is none =
    let same : (u : ProgramTree) → ReadsValid s.present u → u ≡ t = λ u reads. one_tree s.present u t reads (reads_as s.present t valid is) in
    let shown = order d s next h.0 h.1 (λ u reads. subst HasNoLiveList (sym (same u reads)) none) in
    let none : h.2 ≡ [] = h.3 in
    bytes_of line h.0 (Shown shown.bytes) next said (h.4 ∙ ap (λ (rows : List ℕ). said_by line h.0 rows next) none) shown.prints.0 ∙ shown.so ∙ ap (λ (u : ProgramTree). outcome_text (outcome u d)) (same shown.tree shown.reads)
shown_in_order order t valid line d s next said (inr h) is none = absurd (let e : Run [] ≡ Auto = h.0 in cc)

-- what a command shows, where it is `run`
shows_units : RunAlike → RunInOrder → (text : List ℕ) (t : ProgramTree) (line : ℕ) (command : Option Command) (d : List ℕ) (s next : State) (said : Said)
    → AnswersCommand line command d s said next → RunsAsBefore command d s said → RunsUnits text t line command d s said next
shows_units alike order text t line command d s next said answers before = λ choices is e ends.
    let same = same_outcome alike text t d e ends in
    record {
      alike = same;
      in_order = λ none present without.
          shown_in_order order t e.valid line d s next said (subst (λ (c : Option Command). AnswersCommand line c d s said next) (is ∙ ap (λ (cs : List ℕ). Some (Run cs)) none) answers) present without
          ∙ ap outcome_text same;
      behind = λ comes trusted race_free.
          (before choices is).trusted (program_text t) t comes (reads_as (program_text t) t e.valid refl) trusted race_free ∙ ap outcome_text same;
    }

-- and so it is of each item
each_shows : RunAlike → RunInOrder → (text : List ℕ) (t : ProgramTree) (items : List Item) (d : List ℕ) (s last : State) (said : Said) → AnswersAsBefore items d s said last → AnswersEach (RunsUnits text t) items d s said last
each_shows alike order text t [] d s last said h = (h.1, h.2)
each_shows alike order text t (item ∷ items) d s last said h = (
  h.1,
  h.2,
  h.3,
  shows_units alike order text t item.line item.command d s h.2 h.1 h.3 h.4,
  h.5,
  each_shows alike order text t items d h.2 last h.5 h.6,
  h.7,
)

-- the answer to a request
pub request_units : RunAlike → FaultAlike → RunInOrder → AsBefore → (request : Option Request) (files : Contents) (s : Status) (b : List ℕ) → IsWhole s → Answers request files s b → UnitsRequest request files b
request_units alike faults order as_before None files s b whole h = tt
request_units alike faults order as_before (Some (show program)) files s b whole h =
    let p = shows_file program files s b whole h in
    (p, same_on_all alike faults p.text p.tree)
request_units alike faults order as_before (Some (session program script data_file)) files s b whole h =
    let p = session_files RunsUnits (λ text d t expands items said last answers. each_shows alike order text t items d (opened t) last said (as_before t items d said last answers)) program script data_file files s b whole h in
    (p, same_on_all alike faults p.text p.tree)
request_units alike faults order as_before (Some (generate number)) files s b whole h = tt
