-- The items of a script have one answer in a state, and lead to one state.
use Rattle.std.proofs.Common.{◌≡◌, inl, inr, ℕ, List, [], ◌∷◌, Option, Some, None, sym, ◌∙◌, subst}
use Rattle.ped_transformations.specs.ped_auto.proofs.OneCourse.{one_auto}
use Rattle.ped_script.specs.declared.items.Command.{Command}
use Rattle.ped_script.specs.declared.items.Command.TheVariants.{Auto}
use Rattle.ped_script.specs.declared.items.Item.{Item}
use Rattle.ped_script.specs.Kinds.{kind_of}
use Rattle.ped_session.specs.declared.replies.Reply.{Reply}
use Rattle.ped_versions.specs.States.{State}
use Rattle.ped_session.specs.Steps.{IsStep}
use Rattle.ped_session.specs.AutoEditing.{session_editing}
use Rattle.ped_session.specs.AutoEditingLaws.{session_laws}
use Rattle.ped_session.specs.AutoAnswers.{auto_text}
use Rattle.ped_session.specs.Scripts.{Said, said_by, said_both, AnswersReply, SaysAuto, AnswersCommand, AnswersItems}
use Rattle.ped_session.proofs.IdleRows.{one_idle}
use Rattle.ped_session.proofs.OneStep.{one}

-- what a reply says
one_reply : (line : ℕ) (c : Command) (data_bytes : List ℕ) (s m n : State) (a b : Said) → AnswersReply line c data_bytes s a m → AnswersReply line c data_bytes s b n → (a ≡ b) × (m ≡ n)
one_reply line c data_bytes s m n a b p q =
    let step = one c data_bytes s m n p.0 q.0 p.1 q.1 in
    let rows = one_idle line (kind_of c) s p.2 q.2 p.3 q.3 in
    (p.4 ∙ (λ i. said_by line (step.0 i) (rows i) (step.1 i)) ∙ sym q.4, step.1)

-- what is said, by its parts
same_parts : (a b : Said) → a.bytes ≡ b.bytes → a.refused ≡ b.refused → a.tests ≡ b.tests → a ≡ b
same_parts a b bytes refused tests = λ i. record { bytes = bytes i; refused = refused i; tests = tests i }

-- what `auto` says
one_auto_said : (line : ℕ) (s m n : State) (a b : Said) → SaysAuto line s a m → SaysAuto line s b n → (a ≡ b) × (m ≡ n)
one_auto_said line s m n a b p q =
    let same = one_auto session_editing session_laws s m n p.0.report q.0.report a.tests b.tests p.0.does q.0.does in
    (same_parts a b (p.0.says ∙ (λ i. auto_text line (same.0 i) (same.1 i).present) ∙ sym q.0.says) (p.1 ∙ sym q.1) same.2, same.1)

-- `auto` is no step
pub not_auto : (c : Command) (data_bytes : List ℕ) (s next : State) (reply : Reply) → c ≡ Auto → IsStep c data_bytes s reply next → ⊥
not_auto c data_bytes s next reply is h = subst (λ (x : Command). IsStep x data_bytes s reply next) is h

-- what a command says
one_said : (line : ℕ) (command : Option Command) (data_bytes : List ℕ) (s m n : State) (a b : Said) → AnswersCommand line command data_bytes s a m → AnswersCommand line command data_bytes s b n
    → (a ≡ b) × (m ≡ n)
one_said line None data_bytes s m n a b p q = (p.0 ∙ sym q.0, p.1 ∙ sym q.1)
one_said line (Some c) data_bytes s m n a b (inl p) (inl q) = one_reply line c data_bytes s m n a b p q
one_said line (Some c) data_bytes s m n a b (inr (is, p)) (inr (same, q)) = one_auto_said line s m n a b p q
one_said line (Some c) data_bytes s m n a b (inl p) (inr (is, q)) = absurd (not_auto c data_bytes s m p.0 is p.1)
one_said line (Some c) data_bytes s m n a b (inr (is, p)) (inl q) = absurd (not_auto c data_bytes s n q.0 is q.1)

-- what items say
pub one_all : (items : List Item) (data_bytes : List ℕ) (s m n : State) (a b : Said) → AnswersItems items data_bytes s a m → AnswersItems items data_bytes s b n → (a ≡ b) × (m ≡ n)
one_all [] data_bytes s m n a b p q = (p.0 ∙ sym q.0, p.1 ∙ sym q.1)
one_all (item ∷ items) data_bytes s m n a b p q =
    let first = one_said item.line item.command data_bytes s p.1 q.1 p.0 q.0 p.2 q.2 in
    let rest = one_all items data_bytes q.1 m n p.3 q.3 (subst (λ (x : State). AnswersItems items data_bytes x p.3 m) first.1 p.4) q.4 in
    (p.5 ∙ (λ i. said_both (first.0 i) (rest.0 i)) ∙ sym q.5, rest.1)
