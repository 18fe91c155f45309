-- A text that read as a tree in the former source form reads as it now.
use Rattle.std.proofs.Common.{◌≡◌, ℕ, List, [], ◌∷◌, ◌++◌, None, ap, sym, subst, refl}
use Rattle.ped_tree.specs.Tree.{ProgramTree}
use Rattle.ped_tree.specs.Grammar.Refusal.{Finding, first_of}
use Rattle.ped_tree.specs.Grammar.Statement.{Statement}
use Rattle.ped_tree.specs.Grammar.Grouping.{statements_of}
use Rattle.ped_tree.specs.Grammar.Items.{Reading, says, Entry}
use Rattle.ped_tree.specs.Grammar.Reading.{IsReading, AreEntries, Reads}
use Rattle.ped_tree.specs.Grammar.Former.{IsFormerEntry, AreFormerEntries, former_limits, FormerReads}
use Rattle.ped_tree.specs.Grammar.ProgramRefusals.{program_refusals}
use Rattle.ped_tree.proofs.GrammarLaws.First.{none_stands}

-- what a statement said is what it says
said : (s : Statement) (e : Entry) → e.statement ≡ s → IsFormerEntry e → IsReading s.text e.reading
said s e p q =
    let text = ap (λ (x : Statement). x.text) p in
    subst (λ (r : Reading). IsReading s.text r) (sym q.1) (subst (λ (t : List ℕ). IsReading t (says q.0)) text q.2)

-- and so statement by statement
all_said : (ss : List Statement) (es : List Entry) → AreFormerEntries ss es → AreEntries ss es
all_said [] [] p = p
all_said [] (e ∷ es) p = absurd p
all_said (s ∷ ss) [] p = absurd p
all_said (s ∷ ss) (e ∷ es) p = (p.0, said s e p.0 p.1, all_said ss es p.2)

-- nothing is in the front of what is nothing
nothing_before : (front rest : List Finding) → front ++ rest ≡ [] → front ≡ []
nothing_before [] rest h = refl
nothing_before (x ∷ front) rest h = absurd cc

-- what was accepted is accepted
accepted_now : (front rest : List Finding) → first_of (front ++ rest) ≡ None → first_of front ≡ None
accepted_now front rest h = ap first_of (nothing_before front rest (none_stands (front ++ rest) h))

pub reads_now : (text : List ℕ) (t : ProgramTree) → FormerReads text t → Reads text t
reads_now text t r = record {
  entries = r.entries;
  cut = record { accepted = r.unrefused; readings = all_said (statements_of text).statements r.entries r.readings };
  accepted = accepted_now (program_refusals (statements_of text) r.entries) (former_limits 0 r.entries) r.accepted;
  form = r.form;
  written = r.written;
  labelled = r.labelled;
  nested = r.nested;
}
