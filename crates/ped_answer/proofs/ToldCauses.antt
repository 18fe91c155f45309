-- What is told of a step is the first cause that forbids it, or that nothing does.
use Rattle.std.proofs.Common.{◌≡◌, ℕ, List, ◌∷◌, ◌++◌, Bool, true, false, is_some, Option, Some, None, arith, refl, sym, ap, ◌∙◌, subst, inl, inr}
use Rattle.std.specs.Prelude.{Contains, MatchOption, ⊤}
use Rattle.std.proofs.lemmas.List.Elements.{All-contains, Contains-append_right}
use Rattle.ped_io.specs.Outside.{Contents}
use Rattle.ped_words.specs.Requests.{Request, show, session, generate}
use Rattle.ped_tree.specs.Tree.{ProgramTree}
use Rattle.ped_tree.specs.Numbering.{statement_with}
use Rattle.ped_session.specs.ped_valid.specs.Validity.{ReadsValid}
use Rattle.ped_session.specs.ped_rules.specs.ped_edges.specs.Edges.{Edge}
use Rattle.ped_script.specs.declared.items.Command.{Command}
use Rattle.ped_script.specs.declared.kinds.WhichStep.{WhichStep}
use Rattle.ped_script.specs.declared.kinds.WhichStep.TheVariants.{Interchange, InterchangeBy, Reverse, ReverseBy, Skew, Strip, Peel, Distribute, Fuse, Inline, Expand, Privatise, Reduce, Parallel, ParallelBy, Serial, Reject}
use Rattle.ped_script.specs.declared.kinds.StepCommand.{StepCommand}
use Rattle.ped_script.specs.declared.kinds.CommandKind.{CommandKind}
use Rattle.ped_script.specs.declared.kinds.CommandKind.TheVariants as kind
use Rattle.ped_script.specs.Kinds.{kind_of, step_among, evidence_among}
use Rattle.ped_session.specs.ped_transformations.specs.Table.{step_at, step_of}
use Rattle.ped_session.specs.ped_transformations.proofs.StepKinds.{kind_is}
use Rattle.ped_session.specs.ped_transformations.specs.ped_loops.specs.Interchanging.{StandsAgainstInterchange}
use Rattle.ped_session.specs.ped_transformations.specs.ped_loops.specs.Reversing.{StandsAgainstReversal}
use Rattle.ped_session.specs.ped_rules.specs.Paralleling.{StandsAgainstParallel}
use Rattle.ped_session.specs.ped_transformations.specs.ped_loops.specs.Serialising.{StandsAgainstSerial}
use Rattle.ped_session.specs.ped_transformations.specs.ped_loops.specs.ByEvidence.{carried_open, crossing_open}
use Rattle.ped_session.specs.ped_transformations.specs.ped_evidence.specs.Lines.{lines_of}
use Rattle.ped_session.specs.ped_transformations.specs.ped_loops.specs.Rejecting.{StandsAgainstRejection}
use Rattle.ped_session.specs.ped_transformations.specs.ped_reindex.specs.Skewing.{StandsAgainstSkewing}
use Rattle.ped_session.specs.ped_transformations.specs.ped_reindex.specs.Stripping.{StandsAgainstStripping}
use Rattle.ped_session.specs.ped_transformations.specs.ped_reindex.specs.Peeling.{StandsAgainstPeeling}
use Rattle.ped_session.specs.ped_transformations.specs.ped_reduce.specs.Reducing.{StandsAgainstReducing, carried_beside}
use Rattle.ped_session.specs.ped_transformations.specs.ped_inline.specs.Inlining.{StandsAgainstInlining}
use Rattle.ped_session.specs.ped_transformations.specs.ped_splits.specs.Distributing.{StandsAgainstDistribution}
use Rattle.ped_session.specs.ped_transformations.specs.ped_splits.specs.Fusing.{forbids_fusion, IsFusionCause}
use Rattle.ped_session.specs.ped_transformations.specs.ped_scalar.specs.Privatising.{StandsAgainstPrivatising}
use Rattle.ped_session.specs.ped_transformations.specs.ped_scalar.specs.Expanding.{StandsAgainstExpanding}
use Rattle.ped_session.specs.ped_rules.specs.Carried.{carried, crossing}
use Rattle.ped_session.specs.ped_steps.specs.Causes.{Cause, rule, dependence, none_forbids}
use Rattle.ped_session.specs.declared.replies.Reply.{Reply}
use Rattle.ped_session.specs.States.{State}
use Rattle.ped_session.specs.Idle.{AreIdle}
use Rattle.ped_session.specs.Replies.{reply_text}
use Rattle.ped_session.proofs.IdleRows.{idle_are}
use Rattle.ped_session.specs.Steps.{Transforms, missing, transformed, IsStepOf}
use Rattle.ped_session.specs.Steps as session_steps
use Rattle.ped_session.specs.Scripts.{Said, said_by, AnswersCommand}
use Rattle.ped_answer.specs.declared.answering.Status.{Status}
use Rattle.ped_answer.specs.Answer.{IsWhole, Answers}
use Rattle.ped_answer.specs.StepCauses.{IsAmongFused, Forbids}
use Rattle.ped_answer.specs.Headline.{TellsOfStep, no_statement, forbidden, accepted, TellsStep, TellsCause, CausesRequest}
use Rattle.ped_answer.proofs.AmongCauses.{first_among, true_isnt_false, none_among}
use Rattle.ped_answer.proofs.EachItems.{SoOfValid, session_each}

-- what forbids a step is what its first causes are among, and where it has no first cause, nothing forbids it
pub record AreCauses (number : ℕ) (step : WhichStep) : Type 0 where
  pub first : (t : ProgramTree) (c : Cause) → (step_at number step).IsCause t (Some c) → Forbids number step t c
  pub none : (t : ProgramTree) → (step_at number step).IsCause t None → (c : Cause) → Forbids number step t c → ⊥

first_fused : (s : ℕ) (t : ProgramTree) (c : Cause) → IsFusionCause s t (Some c) → IsAmongFused s t c
first_fused s t (rule r n) h = h.0
first_fused s t (dependence e) h =
    let found = h.5 in
    (h.1, h.2, h.3, h.4, subst (λ (es : List Edge). Contains es h.4) (sym found.2) (Contains-append_right found.0 (h.4 ∷ found.1) h.4 (0, omega arith, refl)), found.3, h.6)

none_fused : (s : ℕ) (t : ProgramTree) → IsFusionCause s t None → (c : Cause) → IsAmongFused s t c → ⊥
none_fused s t h (rule r n) is = h.0 r n is
none_fused s t h (dependence e) is = true_isnt_false (forbids_fusion is.0.neighbour is.3) is.5 (All-contains (λ (f : Edge). forbids_fusion is.0.neighbour f ≡ false) is.1 is.3 (h.1 is.0 is.1 is.2) is.4)

-- each step of the table
pub are_causes : (number : ℕ) (step : WhichStep) → AreCauses number step
are_causes s Interchange = record { first = λ t. first_among t (StandsAgainstInterchange s t) (crossing t s); none = λ t. none_among t (StandsAgainstInterchange s t) (crossing t s) }
are_causes s (InterchangeBy evidence) = record {
  first = λ t. first_among t (StandsAgainstInterchange s t) (crossing_open t s (lines_of evidence));
  none = λ t. none_among t (StandsAgainstInterchange s t) (crossing_open t s (lines_of evidence));
}
are_causes s Reverse = record { first = λ t. first_among t (StandsAgainstReversal s t) (carried t s); none = λ t. none_among t (StandsAgainstReversal s t) (carried t s) }
are_causes s (ReverseBy evidence) = record {
  first = λ t. first_among t (StandsAgainstReversal s t) (carried_open t s (lines_of evidence));
  none = λ t. none_among t (StandsAgainstReversal s t) (carried_open t s (lines_of evidence));
}
are_causes s Parallel = record { first = λ t. first_among t (StandsAgainstParallel s t) (carried t s); none = λ t. none_among t (StandsAgainstParallel s t) (carried t s) }
are_causes s (ParallelBy evidence) = record {
  first = λ t. first_among t (StandsAgainstParallel s t) (carried_open t s (lines_of evidence));
  none = λ t. none_among t (StandsAgainstParallel s t) (carried_open t s (lines_of evidence));
}
are_causes s Serial = record { first = λ t. first_among t (StandsAgainstSerial s t) none_forbids; none = λ t. none_among t (StandsAgainstSerial s t) none_forbids }
are_causes s (Skew factor) = record { first = λ t. first_among t (StandsAgainstSkewing s factor t) none_forbids; none = λ t. none_among t (StandsAgainstSkewing s factor t) none_forbids }
are_causes s (Strip size) = record { first = λ t. first_among t (StandsAgainstStripping s size t) none_forbids; none = λ t. none_among t (StandsAgainstStripping s size t) none_forbids }
are_causes s (Peel last) = record { first = λ t. first_among t (StandsAgainstPeeling s last t) none_forbids; none = λ t. none_among t (StandsAgainstPeeling s last t) none_forbids }
are_causes s Distribute = record { first = λ t. first_among t (StandsAgainstDistribution s t) none_forbids; none = λ t. none_among t (StandsAgainstDistribution s t) none_forbids }
are_causes s (Expand x) = record { first = λ t. first_among t (StandsAgainstExpanding s x t) none_forbids; none = λ t. none_among t (StandsAgainstExpanding s x t) none_forbids }
are_causes s (Privatise x) = record { first = λ t. first_among t (StandsAgainstPrivatising s x t) none_forbids; none = λ t. none_among t (StandsAgainstPrivatising s x t) none_forbids }
are_causes s (Reduce names) = record { first = λ t. first_among t (StandsAgainstReducing s names t) (carried_beside t s names); none = λ t. none_among t (StandsAgainstReducing s names t) (carried_beside t s names) }
are_causes s (Reject x) = record { first = λ t. first_among t (StandsAgainstRejection s x t) none_forbids; none = λ t. none_among t (StandsAgainstRejection s x t) none_forbids }
are_causes s Inline = record { first = λ t. first_among t (StandsAgainstInlining s t) none_forbids; none = λ t. none_among t (StandsAgainstInlining s t) none_forbids }
are_causes s Fuse = record { first = first_fused s; none = none_fused s }

-- the statement of a command is that of its step
here : (command : StepCommand) (b : Bool) (t : ProgramTree) → is_some (statement_with (step_of command).statement t) ≡ b → is_some (statement_with command.statement t) ≡ b
here command b t is = subst (λ (n : ℕ). is_some (statement_with n t) ≡ b) (kind_is command.statement command.step).0 is

tells_of : (command : StepCommand) (line : ℕ) (s next : State) (reply : Reply) → Transforms (step_of command) s reply next
    → (t : ProgramTree) × ReadsValid s.present t × TellsOfStep command line t s (reply_text line reply) next
tells_of command line s next reply (missing t reads none stays) =
    (t, reads, no_statement (here command false t none) (ap (reply_text line) stays.0) stays.1)
tells_of command line s next reply (session_steps.forbidden t reads some c is stays) =
    (t, reads, forbidden (here command true t some) c ((are_causes command.statement command.step).first t c is) is (ap (reply_text line) stays.0) stays.1)
tells_of command line s next reply (transformed t new keep reads some none makes valid changed after) =
    (t, reads, accepted (here command true t some) ((are_causes command.statement command.step).none t none) (ap (reply_text line) changed))

-- with the rows of idle lines behind it
tells_step : (k : CommandKind) (command : StepCommand) (line : ℕ) (s next : State) (reply : Reply) (rows : List ℕ) (said : Said) → Transforms (step_of command) s reply next → AreIdle line k s rows → said ≡ said_by line reply rows next
    → TellsStep command (evidence_among k) line s said.bytes next
tells_step k command line s next reply rows said h idle says =
    let told = tells_of command line s next reply h in
    record {
      tree = told.0;
      reads = told.1;
      told = reply_text line reply;
      tells = told.2;
      says = ap (λ (x : Said). x.bytes) says ∙ ap (λ (r : List ℕ). reply_text line reply ++ r) (idle_are line k s told.0 rows told.1 idle);
    }

tells_by : (k : CommandKind) (d : List ℕ) (line : ℕ) (s next : State) (reply : Reply) (rows : List ℕ) (said : Said) → IsStepOf k d s reply next → AreIdle line k s rows → said ≡ said_by line reply rows next
    → MatchOption (step_among k) ⊤ (λ step. TellsStep step (evidence_among k) line s said.bytes next)
tells_by (kind.Step command) d line s next reply rows said h idle says = tells_step (kind.Step command) command line s next reply rows said h idle says
tells_by (kind.Ask query) d line s next reply rows said h idle says = tt
tells_by (kind.Edit edit) d line s next reply rows said h idle says = tt
tells_by kind.Auto d line s next reply rows said h idle says = tt
tells_by (kind.Move way) d line s next reply rows said h idle says = tt
tells_by (kind.Run run) d line s next reply rows said h idle says = tt

line_tells : (line : ℕ) (command : Option Command) (d : List ℕ) (s next : State) (said : Said) → AnswersCommand line command d s said next → TellsCause line command d s said next
line_tells line None d s next said h = tt
line_tells line (Some c) d s next said (inl h) = tells_by (kind_of c) d line s next h.0 h.2 said h.1 h.3 h.4
line_tells line (Some c) d s next said (inr (is, h)) = subst (λ (x : Command). TellsCause line (Some x) d s said next) (sym is) tt

each_tells : SoOfValid TellsCause
each_tells d t valid line command s next said came h = line_tells line command d s next said h

-- the causes in an answer
pub request_causes : (request : Option Request) (files : Contents) (s : Status) (b : List ℕ) → IsWhole s → Answers request files s b → CausesRequest request files b
request_causes None files s b whole h = tt
request_causes (Some (show program)) files s b whole h = tt
request_causes (Some (session program script data_file)) files s b whole h = session_each TellsCause each_tells program script data_file files s b whole h
request_causes (Some (generate number)) files s b whole h = tt
