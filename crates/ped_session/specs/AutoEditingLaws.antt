-- A session keeps what is true of every editor (ParaScope; this project).
use Rattle.std.specs.Prelude.{◌≡◌, ℕ, ◌≤◌, ◌<◌, List, length, Option, Some, None, true, is_some, MatchOption, ⊤}
use Rattle.std.proofs.Common.{inl, inr, refl, sym, ap, subst, ◌∙◌}
use Rattle.ped_tree.specs.Tree.{ProgramTree}
use Rattle.ped_tree.specs.Numbering.{statement_with}
use Rattle.ped_tree.specs.Printing.{program_text}
use Rattle.ped_transformations.specs.ped_symbols.specs.NameRefusals.{IsValid}
use Rattle.ped_transformations.specs.ped_symbols.proofs.RightUseLaws.Whole.{right_program}
use Rattle.ped_versions.specs.ped_valid.specs.Validity.{ReadsValid}
use Rattle.ped_versions.specs.ped_valid.proofs.OneVerdict.{one_of_both, valid_prints}
use Rattle.ped_versions.specs.ped_update.specs.Fresh.{tested_pairs}
use Rattle.ped_transformations.specs.ped_steps.specs.Causes.{Cause}
use Rattle.ped_transformations.specs.ped_rules.specs.Steps.{StepAt}
use Rattle.ped_transformations.specs.ped_rules.specs.Lawful.{IsDetermined}
use Rattle.ped_transformations.specs.ped_auto.specs.SerialLoops.{count_of, serial_loops}
use Rattle.ped_transformations.specs.ped_auto.specs.Editing.{IsEditing}
use Rattle.ped_transformations.specs.Table.{step_of}
use Rattle.ped_transformations.proofs.LawfulTable.{determined_step}
use Rattle.ped_transformations.proofs.Growing.{Grows, step_grows, parallel_falls}
use Rattle.ped_script.specs.declared.items.Command.TheVariants.{Parallel}
use Rattle.ped_script.specs.declared.kinds.StepCommand.{StepCommand}
use Rattle.ped_script.specs.Kinds.{step_in}
use Rattle.ped_session.specs.declared.replies.Refusal.TheVariants.{Step}
use Rattle.ped_session.specs.declared.replies.Reply.{Reply}
use Rattle.ped_session.specs.declared.replies.Reply.TheVariants.{Changed, Refused}
use Rattle.ped_versions.specs.States.{State, changed_to}
use Rattle.ped_session.specs.Steps.{Transforms, missing, forbidden, transformed, change_by}
use Rattle.ped_session.specs.AutoEditing.{TransformsTo, TakesStep, session_editing}

-- a step was accepted
pub record IsTaken (at : StepAt) (s next : State) : Type 0 where
  pub tree : ProgramTree
  pub reads : ReadsValid s.present tree
  pub there : is_some (statement_with at.statement tree) ≡ true
  pub free : at.IsCause tree None
  pub new : ProgramTree
  pub keep : List (ℕ × ℕ)
  pub makes : at.Makes tree new keep
  pub valid : IsValid new
  pub next_is : next ≡ changed_to (program_text new) (change_by at.kind) (tested_pairs tree new keep) s

-- a step was refused for a cause
pub record IsRefusedFor (at : StepAt) (s : State) (why : Cause) : Type 0 where
  pub tree : ProgramTree
  pub reads : ReadsValid s.present tree
  pub is : at.IsCause tree (Some why)

-- a source has one program at most
pub one_program : (text : List ℕ) (t u : ProgramTree) → ReadsValid text t → ReadsValid text u → t ≡ u
one_program text t u p q = elim (one_of_both text) [
  | inl tree ↦ tree.only t p ∙ sym (tree.only u q)
  | inr refusal ↦ absurd (refusal.treeless t p)
]

-- what was accepted
pub taken : (at : StepAt) (s next : State) → Transforms at s Changed next → IsTaken at s next
taken at s next (missing t reads none stays) = absurd (let e = stays.0 in cc)
taken at s next (forbidden t reads some c is stays) = absurd (let e = stays.0 in cc)
taken at s next (transformed t new keep reads some free makes valid changed after) = record {
  tree = t;
  reads = reads;
  there = some;
  free = free;
  new = new;
  keep = keep;
  makes = makes;
  valid = valid;
  next_is = after;
}

-- the cause is the one that the reply reports
one_step_cause : (a b : Cause) → ◌≡◌ {A = Reply} (Refused (Step a)) (Refused (Step b)) → b ≡ a
one_step_cause a b e = cc

-- what was refused
pub refused_for : (at : StepAt) (s next : State) (why : Cause) → Transforms at s (Refused (Step why)) next → IsRefusedFor at s why
refused_for at s next why (missing t reads none stays) = absurd (let e = stays.0 in cc)
refused_for at s next why (forbidden t reads some c is stays) = record { tree = t; reads = reads; is = subst (λ (d : Cause). at.IsCause t (Some d)) (one_step_cause why c stays.0) is }
refused_for at s next why (transformed t new keep reads some free makes valid changed after) = absurd (let e = changed in cc)

-- two causes are the same, and a cause isn't none
same_cause : (a b : Cause) → Some a ≡ Some b → a ≡ b
same_cause a b e = cc

no_cause : (a : Cause) → ◌≡◌ {A = Option Cause} (Some a) None → ⊥
no_cause a e = cc

-- a step that is determined leads to one state, or has one first cause, and not both
one_taken : (at : StepAt) → IsDetermined at → (s m n : State) → IsTaken at s m → IsTaken at s n → m ≡ n
one_taken at one s m n a b =
    let trees = one_program s.present a.tree b.tree a.reads b.reads in
    let made = one.one_made b.tree a.new b.new a.keep b.keep (subst (λ (v : ProgramTree). at.Makes v a.new a.keep) trees a.makes) b.makes in
    a.next_is ∙ (λ i. changed_to (program_text (made.0 i)) (change_by at.kind) (tested_pairs (trees i) (made.0 i) (made.1 i)) s) ∙ sym b.next_is

one_refused : (at : StepAt) → IsDetermined at → (s : State) (c d : Cause) → IsRefusedFor at s c → IsRefusedFor at s d → c ≡ d
one_refused at one s c d a b =
    same_cause c d (one.one_cause b.tree (Some c) (Some d) (subst (λ (v : ProgramTree). at.IsCause v (Some c)) (one_program s.present a.tree b.tree a.reads b.reads) a.is) b.is)

taken_or_refused : (at : StepAt) → IsDetermined at → (s next : State) (c : Cause) → IsTaken at s next → IsRefusedFor at s c → ⊥
taken_or_refused at one s next c a b =
    no_cause c (one.one_cause a.tree (Some c) None (subst (λ (v : ProgramTree). at.IsCause v (Some c)) (one_program s.present b.tree a.tree b.reads a.reads) b.is) a.free)

determined : (command : StepCommand) → IsDetermined (step_of command)
determined command = determined_step command.statement command.step

-- so does a command
next_by : (o : Option StepCommand) (s m n : State) → MatchOption o ⊥ (TransformsTo s Changed m) → MatchOption o ⊥ (TransformsTo s Changed n) → m ≡ n
next_by None s m n a b = absurd a
next_by (Some c) s m n a b = let at = step_of c in one_taken at (determined c) s m n (taken at s m a.1) (taken at s n b.1)

cause_by : (o : Option StepCommand) (s : State) (x y : Cause) → MatchOption o ⊥ (TransformsTo s (Refused (Step x)) s) → MatchOption o ⊥ (TransformsTo s (Refused (Step y)) s) → x ≡ y
cause_by None s x y a b = absurd a
cause_by (Some c) s x y a b = let at = step_of c in one_refused at (determined c) s x y (refused_for at s s x a.1) (refused_for at s s y b.1)

either_by : (o : Option StepCommand) (s next : State) (x : Cause) → MatchOption o ⊥ (TransformsTo s Changed next) → MatchOption o ⊥ (TransformsTo s (Refused (Step x)) s) → ⊥
either_by None s next x a b = a
either_by (Some c) s next x a b = let at = step_of c in taken_or_refused at (determined c) s next x (taken at s next a.1) (refused_for at s s x b.1)

-- the source after an accepted step reads as the program that the step makes
reads_new : (at : StepAt) (s next : State) (a : IsTaken at s next) → ReadsValid next.present a.new
reads_new at s next a =
    subst (λ (text : List ℕ). ReadsValid text a.new) (sym (ap (λ (n : State). n.present) a.next_is)) ((valid_prints a.new a.valid a.new).1 refl)

-- it has no fewer statements
grows_by : (o : Option StepCommand) → MatchOption o ⊤ (λ c. Grows (step_of c)) → (s next : State) (t : ProgramTree) → MatchOption o ⊥ (TransformsTo s Changed next) → ReadsValid s.present t
    → (u : ProgramTree) × ReadsValid next.present u × (count_of t ≤ count_of u)
grows_by None grow s next t h reads = absurd h
grows_by (Some c) grow s next t h reads =
    let at = step_of c in
    let a = taken at s next h.1 in (
      a.new,
      reads_new at s next a,
      subst (λ (v : ProgramTree). count_of v ≤ count_of a.new) (one_program s.present a.tree t a.reads reads) (grow a.tree a.new a.keep a.there a.free a.makes),
    )

-- after `parallel` it has fewer DOs that aren't PARALLEL DOs
falls : (number : ℕ) (s next : State) (t u : ProgramTree) → TakesStep (Parallel number) s Changed next → ReadsValid s.present t → ReadsValid next.present u → length (serial_loops u) < length (serial_loops t)
falls number s next t u h reads after =
    let a = taken _ s next h.1 in
    subst (λ (w : ProgramTree). length (serial_loops w) < length (serial_loops t)) (one_program next.present a.new u (reads_new _ s next a) after)
    (subst (λ (v : ProgramTree). length (serial_loops a.new) < length (serial_loops v)) (one_program s.present a.tree t a.reads reads) (parallel_falls number a.tree a.new a.keep a.there a.free a.makes))

-- a session is an editor
pub session_laws : IsEditing session_editing
session_laws = record {
  one_program = λ s t u p q. one_program s.present t u p q;
  small = λ s t reads. (right_program t reads.valid).few_statements;
  one_next = λ s c next other m n p q. let same = next_by (step_in c) s next other p.0 q.0 in (same, p.1 ∙ ap (λ (z : State). z.tested) same ∙ sym q.1);
  one_cause = λ s c a b p q. cause_by (step_in c) s a b p q;
  not_both = λ s c next n why p q. either_by (step_in c) s next why p.0 q;
  grows = λ s c next n t is p reads. grows_by (step_in c) (step_grows c is) s next t p.0 reads;
  falls = λ s number next n t u p reads after. falls number s next t u p.0 reads after;
}
