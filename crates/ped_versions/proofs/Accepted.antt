-- Accepted changes, and edits.
use Rattle.std.proofs.Common.{◌≡◌, inl, inr, ℕ, ◌+◌, ◌≤◌, List, [], ◌∷◌, map, sym, ap, subst, ◌∙◌}
use Rattle.ped_history.specs.Timeline.{Timeline, pushed}
use Rattle.ped_tree.specs.Tree.{ProgramTree}
use Rattle.ped_tree.specs.Printing.{program_text}
use Rattle.ped_tree.specs.Grammar.Refusal.{Finding}
use Rattle.ped_valid.specs.Validity.{ReadsValid, RefusesText}
use Rattle.ped_valid.proofs.OneVerdict.{one_of_both}
use Rattle.ped_update.specs.ped_graph.specs.Held.{Held, held_of}
use Rattle.ped_update.specs.Fresh.{fresh_pairs, tested_pairs}
use Rattle.ped_versions.specs.declared.changes.ChangeKind.TheVariants.{Edit}
use Rattle.ped_versions.specs.declared.versions.Entry.{Entry}
use Rattle.ped_versions.specs.Holding.{other_of}
use Rattle.ped_versions.specs.States.{State, changed_to}
use Rattle.ped_versions.specs.Changing.{Changes, EditChanges}
use Rattle.ped_versions.specs.Splices.{edit_keep}
use Rattle.ped_versions.proofs.States.{state_of}

module _ {L : _} where
  changed_parts : (s : State) (text present : List ℕ) (h kept : Timeline (Entry L)) (e : Entry L) (k n : ℕ)
      → kept.past ≡ h.past → e.text ≡ present → state_of present h k ≡ s
      → state_of text (pushed e kept) n ≡ changed_to text e.change n s
  changed_parts s text present h kept e k n past other is =
      let here : e.text ≡ s.present = other ∙ ap (λ (u : State). u.present) is in
      let before : map other_of kept.past ≡ s.past = ap (map other_of) past ∙ ap (λ (u : State). u.past) is in
      λ i. record { past = (here i, e.change) ∷ before i; present = text; future = []; tested = n }

  -- the entry with what was present is pushed
  pub changed_by : (s : State) (text bytes present : List ℕ) (h kept next : Timeline (Entry L)) (e : Entry L) (k n m : ℕ)
      → bytes ≡ text → next ≡ pushed e kept → kept.past ≡ h.past → e.text ≡ present → state_of present h k ≡ s → n ≡ m
      → state_of bytes next n ≡ changed_to text e.change m s
  changed_by s text bytes present h kept next e k n m new push past other is count =
      (λ i. state_of (new i) (push i) (count i)) ∙ changed_parts s text present h kept e k m past other is

-- counts of tests
pub as_counted : (now before tested all count : ℕ) → now ≡ before + all → tested ≡ all → count ≡ tested → now ≡ before + count
as_counted now before tested all count ticks is told = ticks ∙ ap (λ (n : ℕ). before + n) (sym (told ∙ is))

-- the pairs that a change tests, by the program that the graph holds
pub fresh_by : (h : Held) (old new : ProgramTree) (keep : List (ℕ × ℕ)) → h ≡ held_of old → fresh_pairs h keep (held_of new) ≡ tested_pairs old new keep
fresh_by h old new keep is = ap (λ (k : Held). fresh_pairs k keep (held_of new)) is

-- a text reads as one valid program
pub one_valid : (text : List ℕ) (t u : ProgramTree) → ReadsValid text t → ReadsValid text u → t ≡ u
one_valid text t u p q = elim (one_of_both text) [
  | inl tree ↦ tree.only t p ∙ sym (tree.only u q)
  | inr refusal ↦ absurd (refusal.treeless t p)
]

-- and isn't refused then
pub not_both : (text : List ℕ) (t : ProgramTree) (f : Finding) → ReadsValid text t → RefusesText text f → ⊥
not_both text t f p q = elim (one_of_both text) [
  | inl tree ↦ tree.accepted f q
  | inr refusal ↦ refusal.treeless t p
]

-- the statements that it keeps are those of the program that the present source reads as
keep_of : (old u new : ProgramTree) (kept gone : ℕ) (keep : List (ℕ × ℕ)) → keep ≡ edit_keep old new kept gone → u ≡ old → keep ≡ edit_keep u new kept gone
keep_of old u new kept gone keep is same = is ∙ ap (λ (t : ProgramTree). edit_keep t new kept gone) (sym same)

pub edit_changes : (s next : State) (old new : ProgramTree) (kept gone : ℕ) (keep : List (ℕ × ℕ))
    → keep ≡ edit_keep old new kept gone → ((t : ProgramTree) → ReadsValid s.present t → t ≡ old)
    → Changes new keep Edit s next → EditChanges new kept gone s next
edit_changes s next old new kept gone keep is only h =
    let same = keep_of old h.0 new kept gone keep is (only h.0 h.1) in
    (h.0, h.1, h.2 ∙ ap (λ (k : List (ℕ × ℕ)). changed_to (program_text new) Edit (tested_pairs h.0 new k) s) same)

pub edit_tests : (old u new : ProgramTree) (kept gone : ℕ) (keep : List (ℕ × ℕ)) (before now : ℕ) → keep ≡ edit_keep old new kept gone → u ≡ old
    → now ≤ before + tested_pairs u new keep → now ≤ before + tested_pairs u new (edit_keep u new kept gone)
edit_tests old u new kept gone keep before now is same most =
    subst (λ (k : List (ℕ × ℕ)). now ≤ before + tested_pairs u new k) (keep_of old u new kept gone keep is same) most
