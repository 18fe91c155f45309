-- What a line of evidence claims that isn't idle is so in all runs.
use Rattle.std.proofs.Common.{◌≡◌, ◌⊎◌, inl, inr, ℕ, List, [], ◌∷◌, ◌++◌, Bool, true, false, not, ◌&&◌, ◌||◌, ◌==◌, Option, Some, None, refl, sym, ap, ◌∙◌, subst}
use Rattle.std.specs.Prelude.{MatchOption, ⊤}
use Rattle.std.specs.List.{AllByRecursion}
use Rattle.std.proofs.lemmas.Bool.{and_from, eq-eqb}
use Rattle.ped_io.specs.Outside.{Contents}
use Rattle.ped_words.specs.Requests.{Request, show, session, generate}
use Rattle.ped_tree.specs.Tree.{ProgramTree}
use Rattle.ped_session.specs.ped_symbols.specs.NameRefusals.{IsValid}
use Rattle.ped_session.specs.ped_valid.specs.Validity.{ReadsValid}
use Rattle.ped_session.specs.ped_rules.specs.ped_edges.specs.Edges.{Edge, flow, pending}
use Rattle.ped_session.specs.ped_rules.specs.ped_views.specs.declared.directions.Direction.{Direction}
use Rattle.ped_session.specs.ped_transformations.specs.ped_evidence.specs.Evidence.{Line, holds, same_place, speaks_of, disproves, NeverMeet}
use Rattle.ped_session.specs.ped_transformations.specs.ped_evidence.specs.Lines.{line_of}
use Rattle.ped_session.specs.ped_transformations.specs.ped_evidence.specs.Signs.{fits}
use Rattle.ped_script.specs.ped_certificates.specs.declared.claims.EvidenceLine.{EvidenceLine}
use Rattle.ped_script.specs.ped_certificates.specs.declared.claims.EvidenceLine.TheVariants.{Empty, Malformed, Claim}
use Rattle.ped_script.specs.declared.items.Command.{Command}
use Rattle.ped_script.specs.declared.kinds.CommandKind.{CommandKind}
use Rattle.ped_script.specs.declared.kinds.CommandKind.TheVariants as kind
use Rattle.ped_script.specs.Kinds.{kind_of, step_among, evidence_among}
use Rattle.ped_session.specs.ped_rules.specs.Steps.{StepAt}
use Rattle.ped_session.specs.ped_transformations.specs.Table.{step_of}
use Rattle.ped_session.specs.declared.replies.Reply.{Reply}
use Rattle.ped_session.specs.States.{State}
use Rattle.ped_session.specs.Replies.{reply_text}
use Rattle.ped_session.specs.Steps.{Transforms, missing, forbidden, transformed, IsStepOf}
use Rattle.ped_session.specs.Idle.{AreIdle}
use Rattle.ped_session.specs.Scripts.{Said, said_by, AnswersCommand}
use Rattle.ped_session.proofs.IdleRows.{idle_are}
use Rattle.ped_answer.specs.declared.answering.Status.{Status}
use Rattle.ped_answer.specs.Answer.{IsWhole, Answers}
use Rattle.ped_answer.specs.Headline.{IsSo, IsSoOrIdle, TellsEvidence, TellsIdle, EvidenceRequest}
use Rattle.ped_answer.proofs.EachItems.{SoOfValid, session_each}

-- in directions that evidence disproves of a dependence no accesses of its references meet
abbrev pub NeverMet : Type 0
NeverMet = (t : ProgramTree) (evidence : List Line) (e : Edge) (v : List Direction) → IsValid t → disproves t evidence e v ≡ true → NeverMeet t e.source e.sink v

-- a dependence between these places
abbrev between : ℕ × ℕ → ℕ × ℕ → Edge
between source sink = record { source = source; sink = sink; name = []; kind = flow; level = None; vectors = []; distances = []; mark = pending }

one_place : (a : ℕ × ℕ) → same_place a a ≡ true
one_place a = and_from (a.0 == a.0) (a.1 == a.1) (eq-eqb a.0 a.0 refl) (eq-eqb a.1 a.1 refl)

module _ (never : NeverMet) (t : ProgramTree) (valid : IsValid t) where
  -- a line that holds disproves each vector that its pattern fits
  held_disproves : (line : Line) (v : List Direction) → holds t line ≡ true → fits line.claim.pattern v ≡ true → disproves t (line ∷ []) (between line.claim.source line.claim.sink) v ≡ true
  held_disproves line v held fit =
      let e = between line.claim.source line.claim.sink in
      let places = and_from (same_place line.claim.source e.source) (same_place line.claim.sink e.sink) (one_place line.claim.source) (one_place line.claim.sink) in
      let speaks = and_from (same_place line.claim.source e.source && same_place line.claim.sink e.sink) (fits line.claim.pattern v) places fit in
      ap (λ (b : Bool). b || false) (and_from (speaks_of line e v) (holds t line) speaks held)

  held_so : (line : Line) → holds t line ≡ true → IsSo t line.claim
  held_so line held = λ v fit. never t (line ∷ []) (between line.claim.source line.claim.sink) v valid (held_disproves line v held fit)

  line_so : (line : EvidenceLine) → IsSoOrIdle t line
  line_so Empty = tt
  line_so Malformed = refl
  line_so (Claim claim) = by (holds t (line_of claim)) refl
    where
      by : (b : Bool) → holds t (line_of claim) ≡ b → (not (holds t (line_of claim)) ≡ true) ⊎ IsSo t (line_of claim).claim
      by true held = inr (held_so (line_of claim) held)
      by false idle = inl (ap not idle)

  lines_so : (lines : List EvidenceLine) → AllByRecursion (IsSoOrIdle t) lines
  lines_so [] = tt
  lines_so (line ∷ lines) = (line_so line, lines_so lines)

-- a step is answered in the program that the present source reads as
read_by : (at : StepAt) (s next : State) (reply : Reply) → Transforms at s reply next → (t : ProgramTree) × ReadsValid s.present t
read_by at s next reply (missing t reads none stays) = (t, reads)
read_by at s next reply (forbidden t reads there c is stays) = (t, reads)
read_by at s next reply (transformed t new keep reads there none makes valid changed after) = (t, reads)

module _ (never : NeverMet) where
  tells : (k : CommandKind) (line : ℕ) (s next : State) (reply : Reply) (rows : List ℕ) (said : Said) → (t : ProgramTree) × ReadsValid s.present t → AreIdle line k s rows → said ≡ said_by line reply rows next
      → TellsEvidence (evidence_among k) line s said.bytes
  tells k line s next reply rows said (t, reads) idle says = record {
    tree = t;
    reads = reads;
    told = reply_text line reply;
    says = ap (λ (x : Said). x.bytes) says ∙ ap (λ (r : List ℕ). reply_text line reply ++ r) (idle_are line k s t rows reads idle);
    so = lines_so never t reads.valid (evidence_among k);
  }

  tells_by : (k : CommandKind) (d : List ℕ) (line : ℕ) (s next : State) (reply : Reply) (rows : List ℕ) (said : Said) → IsStepOf k d s reply next → AreIdle line k s rows → said ≡ said_by line reply rows next
      → MatchOption (step_among k) ⊤ (λ step. TellsEvidence (evidence_among k) line s said.bytes)
  tells_by (kind.Step command) d line s next reply rows said h idle says =
      tells (kind.Step command) line s next reply rows said (read_by (step_of command) s next reply h) idle says
  tells_by (kind.Ask query) d line s next reply rows said h idle says = tt
  tells_by (kind.Edit edit) d line s next reply rows said h idle says = tt
  tells_by kind.Auto d line s next reply rows said h idle says = tt
  tells_by (kind.Move way) d line s next reply rows said h idle says = tt
  tells_by (kind.Run run) d line s next reply rows said h idle says = tt

  line_tells : (line : ℕ) (command : Option Command) (d : List ℕ) (s next : State) (said : Said) → AnswersCommand line command d s said next → TellsIdle line command d s said next
  line_tells line None d s next said h = tt
  line_tells line (Some c) d s next said (inl h) = tells_by (kind_of c) d line s next h.0 h.2 said h.1 h.3 h.4
  line_tells line (Some c) d s next said (inr (is, h)) = subst (λ (x : Command). TellsIdle line (Some x) d s said next) (sym is) tt

  each_tells : SoOfValid TellsIdle
  each_tells d t valid line command s next said came h = line_tells line command d s next said h

  -- the evidence in an answer
  pub request_evidence : (request : Option Request) (files : Contents) (s : Status) (b : List ℕ) → IsWhole s → Answers request files s b → EvidenceRequest request files b
  request_evidence None files s b whole h = tt
  request_evidence (Some (show program)) files s b whole h = tt
  request_evidence (Some (session program script data_file)) files s b whole h = session_each TellsIdle each_tells program script data_file files s b whole h
  request_evidence (Some (generate number)) files s b whole h = tt
