-- Outcomes of writing, and how those of a part are those of the whole.
use Rattle.std.proofs.Common.{◌≡◌, ◌⊎◌, ℕ, Bool, true, false, List, [], ◌∷◌, ◌++◌, Option, Some, None, take, drop, option_map, refl, sym, ap, ◌∙◌, subst, inl, inr, arith}
use Rattle.std.proofs.lemmas.List.{take-append-drop}
use Rattle.ped_io.specs.Outside.{Contents, Rose}
use Rattle.ped_io.specs.declared.writing.PutFault.{PutFault}
use Rattle.ped_io.specs.declared.writing.PutFault.TheVariants as put
use Rattle.ped_io.specs.Faults.{IsWriteFault}
use Rattle.ped_answer.specs.declared.answering.Status.{Status}
use Rattle.ped_answer.specs.declared.answering.Status.TheVariants.{Done, SomeRefused, BadWords, ReadFault, WriteFault, ProgramRefused, NoMemory, TooLong}
use Rattle.ped_tree.specs.Tree.{ProgramTree}
use Rattle.ped_tree.specs.Grammar.Refusal.{Finding}
use Rattle.ped_session.specs.ped_valid.specs.Validity.{ReadsValid, RefusesText}
use Rattle.ped_call_runs.specs.ped_calls.specs.ped_units.specs.Verdicts.{UnitFinding, found_in_text, RefusesUnits, IsExpansion}
use Rattle.ped_script.specs.Items.{commands_of}
use Rattle.ped_session.specs.States.{State, opened}
use Rattle.ped_session.specs.Scripts.{Said, AnswersItems}
use Rattle.ped_gen.specs.Generated as made
use Rattle.ped_answer.specs.Refusals.{refused_line}
use Rattle.ped_answer.specs.Generated.{Reports, IsGenerated}
use Rattle.ped_answer.specs.Tallies.{AnswersReport}
use Rattle.ped_words.specs.Requests.{Request}
use Rattle.ped_answer.specs.Answer.{Input, inputs_of, IsOneOf, CannotRead, MayAnswer, Answers, IsFrontOfAnswer, IsOutcome, IsShown, IsSession, AnswersScript, IsJust, ShowsTree, usage_line}
use Rattle.ped_answer.specs.Serving.{AnswersFrom, session_status}

module _ (A B : Status → List ℕ → Type 0) (weaker : (s : Status) (b : List ℕ) → A s b → B s b) where
  pub front_weaker : (sent : List ℕ) → IsFrontOfAnswer A sent → IsFrontOfAnswer B sent
  front_weaker sent (inl nothing) = inl nothing
  front_weaker sent (inr f) = inr (f.0, f.1, weaker f.0 f.1 f.2, f.3)

  -- an outcome by answers is one by other answers that they all are
  pub outcome_weaker : (failed : Type 0) (sent : List ℕ) (status : Status) → IsOutcome A failed sent status → IsOutcome B failed sent status
  outcome_weaker failed sent Done o = weaker Done sent o
  outcome_weaker failed sent SomeRefused o = weaker SomeRefused sent o
  outcome_weaker failed sent BadWords o = weaker BadWords sent o
  outcome_weaker failed sent ReadFault o = weaker ReadFault sent o
  outcome_weaker failed sent ProgramRefused o = weaker ProgramRefused sent o
  outcome_weaker failed sent TooLong o = weaker TooLong sent o
  outcome_weaker failed sent WriteFault o = (o.0, front_weaker sent o.1)
  outcome_weaker failed sent NoMemory o = front_weaker sent o

-- what was sent before a fault is a front of the bytes
pub front_of : (status : Status) (bytes : List ℕ) (n : ℕ) → IsFrontOfAnswer (IsJust status bytes) (take n bytes)
front_of status bytes n = inr (status, bytes, (refl, refl), (drop n bytes, take-append-drop n bytes))

-- a write fault is one that the sink has counted
pub counted : (fault : PutFault) (n : ℕ) (rose : Type 0) → (IsWriteFault fault → rose) → fault ≡ put.WriteFault n → rose
counted (put.WriteFault m) n rose h e = h tt
counted (put.NoMemory m) n rose h e = absurd (let f = e in cc)

-- where a sink that says what it has taken takes more, it says what was sent
pub more_told : (taken after : Option (List ℕ)) (sent now more : List ℕ) → after ≡ option_map (λ before. before ++ more) taken → now ≡ sent ++ more → taken ≡ Some sent → after ≡ Some now
more_told taken after sent now more took is told = took ∙ ap (option_map (λ (b : List ℕ). b ++ more)) told ∙ ap (λ (b : List ℕ). Some b) (sym is)

-- the usage line answers words that ask for nothing
pub usage_may_answer : (request : Option Request) (files : Contents) (failed : List ℕ → Type 0) → request ≡ None → (s : Status) (b : List ℕ) → IsJust BadWords usage_line s b → MayAnswer request files failed s b
usage_may_answer request files failed e s b h =
    subst (λ (r : Option Request). MayAnswer r files failed s b) (sym e) (subst (λ (x : Status). MayAnswer None files failed x b) (sym h.0) (refl, h.1))

-- both panes of the program that a file's text expands to are what is shown of it
pub tree_shown : (text : List ℕ) (t : ProgramTree) → IsExpansion text t → (s : Status) (b : List ℕ) → ShowsTree t s b → IsShown text s b
tree_shown text t expands s b h = subst (λ (x : Status). IsShown text x b) (sym h.0) (t, expands, h.1)

-- its first refusal is what is shown of a text that is refused
pub refusal_shown : (text : List ℕ) (f : UnitFinding) → RefusesUnits text f → (s : Status) (b : List ℕ) → IsJust ProgramRefused (refused_line f) s b → IsShown text s b
refusal_shown text f refused s b h = subst (λ (x : Status). IsShown text x b) (sym h.0) (f, refused, h.1)

-- and what a session on it answers
pub refusal_answered : (text script data_bytes : List ℕ) (f : UnitFinding) → RefusesUnits text f → (s : Status) (b : List ℕ) → IsJust ProgramRefused (refused_line f) s b → IsSession text script data_bytes s b
refusal_answered text script data_bytes f refused s b h = subst (λ (x : Status). IsSession text script data_bytes x b) (sym h.0) (f, refused, h.1)

-- its first refusal is what is answered on a program that is made and refused
pub refusal_generated : (n : ℕ) (f : Finding) → RefusesText (made.program n) f → (s : Status) (b : List ℕ) → IsJust ProgramRefused (refused_line (found_in_text f)) s b → IsGenerated n s b
refusal_generated n f refused s b h = subst (λ (x : Status). IsGenerated n x b) (sym h.0) (f, refused, h.1)

-- a report is what is answered on a program that is made
pub report_generated : (n : ℕ) (s : Status) (b : List ℕ) → AnswersReport n s b → IsGenerated n s b
report_generated n s b h = subst (λ (x : Status). IsGenerated n x b) (sym h.0) (h.1, h.2, h.3)

-- what is written of a report is that report
pub report_written : (n : ℕ) (t : ProgramTree) (bytes : List ℕ) → ReadsValid (made.program n) t → Reports n t bytes → (s : Status) (b : List ℕ) → IsJust Done bytes s b → AnswersReport n s b
report_written n t bytes reads reports s b j = (j.0, t, reads, subst (Reports n t) (sym j.1) reports)

-- what a script says is what it answers
pub said_from : (state : State) (script data_bytes : List ℕ) (said : Said) (last : State) → AnswersItems (commands_of script) data_bytes state said last
    → (status : Status) (bytes : List ℕ) → status ≡ session_status said.refused → bytes ≡ said.bytes → (s : Status) (b : List ℕ) → IsJust status bytes s b → AnswersFrom state script data_bytes s b
said_from state script data_bytes said last answers status bytes e f s b j = (said, last, answers, j.0 ∙ e, j.1 ∙ f)

-- what a script answers is what the session answers, by whether a line was refused
by_refused : (refused : Bool) (text script data_bytes b : List ℕ) → AnswersScript text script data_bytes refused b → IsSession text script data_bytes (session_status refused) b
by_refused false text script data_bytes b h = h
by_refused true text script data_bytes b h = h

-- what a script answers in a session that is opened on the program that a text expands to is what the session answers
pub script_answered : (text script data_bytes : List ℕ) (t : ProgramTree) → IsExpansion text t
    → (s : Status) (b : List ℕ) → AnswersFrom (opened t) script data_bytes s b → IsSession text script data_bytes s b
script_answered text script data_bytes t expands s b h =
    subst (λ (x : Status). IsSession text script data_bytes x b) (sym h.3)
    (by_refused h.0.refused text script data_bytes b (record { tree = t; expands = expands; said = h.0; last = h.1; answers = h.2; says = h.4; some = refl }))

-- a line that says that a file can't be read is about a file of the request, whose count rose
pub one_failed : (inputs : List Input) (files : Contents) (failed : List ℕ → Type 0) (line : List ℕ) → CannotRead inputs files failed line → (name : List ℕ) × IsOneOf inputs name × failed name
one_failed [] files failed line h = elim h [ ]
one_failed (i ∷ is) files failed line (inl here) = (i.name, inl refl, here.0)
one_failed (i ∷ is) files failed line (inr later) =
    let there = one_failed is files failed line later.1 in
    (there.0, inr there.1, there.2)

-- where no input and no sink failed, what came is the answer whole, or memory ran out
pub whole_of : (request : Option Request) (files : Contents) (failed : List ℕ → Type 0) (sink_failed : Type 0) (after before sent : List ℕ) (status : Status)
    → after ≡ before ++ sent → IsOutcome (MayAnswer request files failed) sink_failed sent status
    → ((name : List ℕ) → IsOneOf (inputs_of request) name → ¬ (failed name)) → ¬ sink_failed
    → (status ≡ NoMemory) ⊎ ((bytes : List ℕ) × Answers request files status bytes × (after ≡ before ++ bytes))
whole_of request files failed sink_failed after before sent Done e o none sure = inr (sent, o, e)
whole_of request files failed sink_failed after before sent SomeRefused e o none sure = inr (sent, o, e)
whole_of request files failed sink_failed after before sent BadWords e o none sure = inr (sent, o, e)
whole_of request files failed sink_failed after before sent ProgramRefused e o none sure = inr (sent, o, e)
whole_of request files failed sink_failed after before sent TooLong e o none sure = inr (sent, o, e)
whole_of request files failed sink_failed after before sent ReadFault e o none sure =
    let one = one_failed (inputs_of request) files failed sent o in
    absurd (none one.0 one.1 one.2)
whole_of request files failed sink_failed after before sent WriteFault e o none sure = absurd (sure o.0)
whole_of request files failed sink_failed after before sent NoMemory e o none sure = inl refl

-- a count that is always 0 doesn't rise
pub never_rises : ¬ (Rose 0 0)
never_rises (inl less) = omega arith
never_rises (inr last) = omega arith
