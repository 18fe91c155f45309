-- The rows of idle lines: where a command is answered, there is one list of them.
use Rattle.std.proofs.Common.{◌≡◌, ℕ, ◌+◌, List, [], ◌∷◌, refl, sym, ap, ◌∙◌}
use Rattle.ped_tree.specs.Tree.{ProgramTree}
use Rattle.ped_versions.specs.ped_valid.specs.Validity.{ReadsValid}
use Rattle.ped_script.specs.ped_certificates.specs.declared.claims.EvidenceLine.{EvidenceLine}
use Rattle.ped_script.specs.declared.items.Command.{Command}
use Rattle.ped_script.specs.declared.kinds.CommandKind.{CommandKind}
use Rattle.ped_script.specs.declared.kinds.CommandKind.TheVariants as kind
use Rattle.ped_script.specs.Kinds.{kind_of, evidence_among}
use Rattle.ped_transformations.specs.ped_rules.specs.Steps.{StepAt}
use Rattle.ped_transformations.specs.ped_auto.specs.Editing.{IsOfStrategy}
use Rattle.ped_transformations.specs.ped_auto.proofs.OfStrategy.{so_of_strategy}
use Rattle.ped_transformations.specs.Table.{step_of}
use Rattle.ped_session.specs.declared.replies.Reply.{Reply}
use Rattle.ped_versions.specs.States.{State}
use Rattle.ped_session.specs.Steps.{Transforms, missing, forbidden, transformed, IsStepOf}
use Rattle.ped_session.specs.Idle.{idle_rows, AreIdleRows, AreIdle}
use Rattle.ped_session.proofs.OneStep.{one_tree}

-- there is one list at most
one_list : (source : List ℕ) (number : ℕ) (lines : List EvidenceLine) (a b : List ℕ) → AreIdleRows source number lines a → AreIdleRows source number lines b → a ≡ b
one_list source number [] a b p q = p ∙ sym q
one_list source number (line ∷ lines) a b p q =
    p.2 ∙ ap (λ (t : ProgramTree). idle_rows t number (line ∷ lines)) (one_tree source p.0 q.0 p.1 q.1) ∙ sym q.2

pub one_idle : (line : ℕ) (k : CommandKind) (s : State) (a b : List ℕ) → AreIdle line k s a → AreIdle line k s b → a ≡ b
one_idle line k s a b p q = one_list s.present (line + 1) (evidence_among k) a b p q

-- it is that of the program that the source reads as
list_is : (source : List ℕ) (number : ℕ) (lines : List EvidenceLine) (t : ProgramTree) (rows : List ℕ) → ReadsValid source t → AreIdleRows source number lines rows → rows ≡ idle_rows t number lines
list_is source number [] t rows reads is = is
list_is source number (line ∷ lines) t rows reads is = is.2 ∙ ap (λ (u : ProgramTree). idle_rows u number (line ∷ lines)) (one_tree source is.0 t is.1 reads)

pub idle_are : (line : ℕ) (k : CommandKind) (s : State) (t : ProgramTree) (rows : List ℕ) → ReadsValid s.present t → AreIdle line k s rows → rows ≡ idle_rows t (line + 1) (evidence_among k)
idle_are line k s t rows reads is = list_is s.present (line + 1) (evidence_among k) t rows reads is

-- there is one where the source reads as a program
some_list : (source : List ℕ) (number : ℕ) (lines : List EvidenceLine) (t : ProgramTree) → ReadsValid source t → (rows : List ℕ) × AreIdleRows source number lines rows
some_list source number [] t reads = ([], refl)
some_list source number (line ∷ lines) t reads = (idle_rows t number (line ∷ lines), (t, reads, refl))

pub idle_in : (line : ℕ) (k : CommandKind) (s : State) (t : ProgramTree) → ReadsValid s.present t → (rows : List ℕ) × AreIdle line k s rows
idle_in line k s t reads = some_list s.present (line + 1) (evidence_among k) t reads

-- and so it does where a step is answered
step_idle : (line : ℕ) (k : CommandKind) (at : StepAt) (s next : State) (reply : Reply) → Transforms at s reply next → (rows : List ℕ) × AreIdle line k s rows
step_idle line k at s next reply (missing t reads none stays) = idle_in line k s t reads
step_idle line k at s next reply (forbidden t reads some c is stays) = idle_in line k s t reads
step_idle line k at s next reply (transformed t new keep reads some free makes valid changed after) = idle_in line k s t reads

-- what is no step has no evidence
pub answered_idle : (line : ℕ) (k : CommandKind) (d : List ℕ) (s next : State) (reply : Reply) → IsStepOf k d s reply next → (rows : List ℕ) × AreIdle line k s rows
answered_idle line (kind.Step command) d s next reply h = step_idle line (kind.Step command) (step_of command) s next reply h
answered_idle line (kind.Ask query) d s next reply h = ([], refl)
answered_idle line (kind.Edit edit) d s next reply h = ([], refl)
answered_idle line kind.Auto d s next reply h = ([], refl)
answered_idle line (kind.Move way) d s next reply h = ([], refl)
answered_idle line (kind.Run run) d s next reply h = ([], refl)

-- a step of `auto` has no evidence
pub strategy_idle : (line : ℕ) (s : State) (c : Command) → IsOfStrategy c → AreIdle line (kind_of c) s []
strategy_idle line s = so_of_strategy (λ c. AreIdle line (kind_of c) s []) (record {
  parallel = λ n. refl;
  privatise = λ n x. refl;
  reduce = λ n names. refl;
  distribute = λ n. refl;
})
