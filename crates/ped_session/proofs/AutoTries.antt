-- Steps that `auto` tries in a session.
use Rattle.std.proofs.Common.{◌≡◌, ◌⊎◌, inl, inr, ℕ, ◌+◌, ◌-◌, ◌<◌, Bool, true, false, cond, List, [], Option, Some, None, option_and_then, is_some, refl, sym, ap, subst, ◌∙◌, arith}
use Rattle.std.specs.Prelude.{MatchOption}
use Rattle.ped_tree.specs.Tree.{StmtTree, ProgramTree}
use Rattle.ped_tree.specs.Numbering.{statement_with}
use Rattle.ped_tree.proofs.Numbers.{statement_with-none}
use Rattle.ped_versions.specs.ped_valid.specs.Validity.{ReadsValid}
use Rattle.ped_transformations.specs.ped_steps.specs.Causes.{Cause}
use Rattle.ped_transformations.specs.ped_steps.specs.CodeCauses.{cause_of}
use Rattle.ped_transformations.specs.ped_steps.specs.declared.causes.Refused as code
use Rattle.ped_transformations.specs.ped_rules.specs.Steps.{transformation, rejection, StepAt}
use Rattle.ped_transformations.specs.ped_auto.specs.SerialLoops.{IsNumber, count_of}
use Rattle.ped_transformations.specs.ped_auto.specs.Editing.{transformed_by, IsAt, CanTry, Answers}
use Rattle.ped_transformations.specs.Table.{step_of}
use Rattle.ped_transformations.proofs.StepKinds.{kind_is}
use Rattle.ped_script.specs.declared.items.Command.{Command}
use Rattle.ped_script.specs.declared.items.Command.TheVariants.{Auto}
use Rattle.ped_script.specs.declared.kinds.StepCommand.{StepCommand}
use Rattle.ped_script.specs.declared.kinds.CommandKind.{CommandKind}
use Rattle.ped_script.specs.declared.kinds.CommandKind.TheVariants as kind
use Rattle.ped_script.specs.Kinds.{kind_of, step_among, step_in, is_rejection}
use Rattle.ped_session.specs.declared.replies.Refusal.TheVariants.{Step}
use Rattle.ped_session.specs.declared.replies.Reply.{Reply}
use Rattle.ped_session.specs.declared.replies.Reply.TheVariants.{Refused}
use Rattle.ped_versions.specs.States.{State}
use Rattle.ped_session.specs.Scripts.{tests_of}
use Rattle.ped_session.specs.Steps.{Transforms, missing, forbidden, transformed, IsStepOf, IsStep}
use Rattle.ped_session.specs.CodeStepReplies.{IsOfStep, Says}
use Rattle.ped_session.specs.AutoEditing.{TransformsTo, TakesStep, session_editing}
use Rattle.ped_session.specs.AutoEditingLaws.{one_program}

-- a statement with a number is there
is_there : (o : Option StmtTree) → (o ≡ None → ⊥) → is_some o ≡ true
is_there None none = absurd (none refl)
is_there (Some x) none = refl

pub there : (t : ProgramTree) (number : ℕ) → IsNumber t number → is_some (statement_with number t) ≡ true
there t number is = is_there (statement_with number t) (λ none. not_both ((statement_with-none number t).0 none))
  where
    not_both : (number ≡ 0) ⊎ (count_of t < number) → ⊥
    not_both (inl e) = let least = is.0 in omega (arith, e, least)
    not_both (inr h) = let most = is.1 in omega (arith, h, most)

-- the step of a command is a transformation at a statement that is there
abbrev pub IsTrying : ProgramTree → StepCommand → Type 0
IsTrying t c = ((step_of c).kind ≡ transformation) × IsNumber t (step_of c).statement

-- what may be tried is such a step
pub of_try : (o : Option StepCommand) (t : ProgramTree) → IsAt t (option_and_then (λ c. cond (is_rejection c.step) None (Some c.statement)) o) → MatchOption o ⊥ (IsTrying t)
of_try None t is = absurd is
of_try (Some c) t is = by (is_rejection c.step) refl is
  where
    by : (b : Bool) → is_rejection c.step ≡ b → IsAt t (cond b None (Some c.statement)) → IsTrying t c
    by true e h = absurd h
    by false e h =
        let at = kind_is c.statement c.step in
        (at.1 ∙ ap (λ (b : Bool). cond b rejection transformation) e, subst (IsNumber t) (sym at.0) h)

no_such : (s next : State) (reply : Reply) (at : StepAt) (t u : ProgramTree) → ReadsValid s.present t → ReadsValid s.present u → IsNumber t at.statement → is_some (statement_with at.statement u) ≡ false → ⊥
no_such s next reply at t u reads other is none =
    let here : is_some (statement_with at.statement u) ≡ true = subst (λ (v : ProgramTree). is_some (statement_with at.statement v) ≡ true) (one_program s.present t u reads other) (there t at.statement is) in
    cc

-- so its reply is that it was accepted, or for which cause it is refused
reply_of : (at : StepAt) (s next : State) (reply : Reply) (t : ProgramTree) → ReadsValid s.present t → IsNumber t at.statement → Transforms at s reply next → IsOfStep reply
reply_of at s next reply t reads is (missing u other none stays) = absurd (no_such s next reply at t u reads other is none)
reply_of at s next reply t reads is (forbidden u other some c cause stays) = subst IsOfStep (sym stays.0) tt
reply_of at s next reply t reads is (transformed u new keep other some free makes valid changed after) = subst IsOfStep (sym changed) tt

-- what a command does that may be tried
trying : (k : CommandKind) (d : List ℕ) (t : ProgramTree) (s next : State) (reply : Reply) → MatchOption (step_among k) ⊥ (IsTrying t) → IsStepOf k d s reply next
    → (c : StepCommand) × (k ≡ kind.Step c) × IsTrying t c × Transforms (step_of c) s reply next
trying (kind.Step c) d t s next reply is h = (c, refl, is, h)
trying (kind.Ask query) d t s next reply is h = absurd is
trying (kind.Edit edit) d t s next reply is h = absurd is
trying kind.Auto d t s next reply is h = absurd is
trying (kind.Move way) d t s next reply is h = absurd is
trying (kind.Run run) d t s next reply is h = absurd is

module _ (c : Command) (s : State) (can : CanTry session_editing s c) where
  pub isnt_auto : c ≡ Auto → ⊥
  isnt_auto is = subst (λ (x : Command). IsAt can.0 (transformed_by x)) is can.2

  pub step_reply : (next : State) (reply : Reply) → IsStep c [] s reply next → IsOfStep reply
  step_reply next reply h =
      let x = trying (kind_of c) [] can.0 s next reply (of_try (step_in c) can.0 can.2) h in
      reply_of (step_of x.0) s next reply can.0 can.1 x.2.1 x.3

  -- and it is what the session as an editor makes of the command
  pub step_taken : (next : State) (reply : Reply) → IsStep c [] s reply next → TakesStep c s reply next
  step_taken next reply h =
      let x = trying (kind_of c) [] can.0 s next reply (of_try (step_in c) can.0 can.2) h in
      subst (λ (k : CommandKind). MatchOption (step_among k) ⊥ (TransformsTo s reply next)) (sym x.1) (x.2.0, x.3)

-- a refused step leaves the session
stays_by : (o : Option StepCommand) (s next : State) (why : Cause) → MatchOption o ⊥ (TransformsTo s (Refused (Step why)) next) → next ≡ s
stays_by None s next why h = absurd h
stays_by (Some c) s next why h = by h.1
  where
    by : Transforms (step_of c) s (Refused (Step why)) next → next ≡ s
    by (missing u other none stays) = stays.1
    by (forbidden u other some c cause stays) = stays.1
    by (transformed u new keep other some free makes valid changed after) = absurd cc

-- what the editor answers
pub answers_step : (c : Command) (s next : State) (reply : Reply) (answer : Option code.Refused) (old new : ℕ) → CanTry session_editing s c → IsStep c [] s reply next
    → new ≡ old + tests_of reply next → Says reply answer → Answers session_editing s c answer next (new - old)
answers_step c s next reply None old new can h ticks says =
    let count : new ≡ old + next.tested = ticks ∙ ap (λ (r : Reply). old + tests_of r next) says in
    (subst (λ (r : Reply). TakesStep c s r next) says (step_taken c s can next reply h), omega (arith, count))
answers_step c s next reply (Some why) old new can h ticks says =
    let count : new ≡ old + 0 = ticks ∙ ap (λ (r : Reply). old + tests_of r next) says.0 in
    let taken : TakesStep c s (Refused (Step (cause_of why))) next = subst (λ (r : Reply). TakesStep c s r next) says.0 (step_taken c s can next reply h) in
    let same = stays_by (step_in c) s next (cause_of why) taken in
    (subst (λ (n : State). TakesStep c s (Refused (Step (cause_of why))) n) same taken, says.1, same, omega (arith, count))
