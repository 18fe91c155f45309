-- Each text has a tree or a first refusal, one of them, and not both.
use Rattle.std.proofs.Common.{◌≡◌, ◌⊎◌, inl, inr, ℕ, List, [], ◌∷◌, Some, None, Option, refl}
use Rattle.ped_tree.specs.Tree.{ProgramTree}
use Rattle.ped_tree.specs.Grammar.Refusal.{Finding}
use Rattle.ped_tree.specs.Grammar.Statement.{Statement}
use Rattle.ped_tree.specs.Grammar.Grouping.{statements_of}
use Rattle.ped_tree.specs.Grammar.LineRefusals.{first_line_refusal}
use Rattle.ped_tree.specs.Grammar.Items.{Entry}
use Rattle.ped_tree.specs.Grammar.Reading.{AreEntries, Refuses, in_lines, Reads}
use Rattle.ped_tree.proofs.GrammarLaws.OneReading.{refused_once, not_both}
use Rattle.ped_parse.specs.Verdicts.{HasOneTree, HasOneRefusal}
use Rattle.ped_statements.proofs.OneReading.{reading_is}
use Rattle.ped_statements.proofs.OneStatement.{one_item}
use Rattle.ped_blocks.proofs.BlocksOneTree.{read_once}
use Rattle.ped_blocks.proofs.BlocksFound.{read_or_refused}

-- each statement has an entry
entries_of : (ss : List Statement) → (es : List Entry) × AreEntries ss es
entries_of [] = ([], tt)
entries_of (s ∷ ss) =
    let rest = entries_of ss in
    let r = reading_is (λ n. n) s.text in
    ((record { statement = s; reading = r.0 }) ∷ rest.0, (refl, r.1, rest.1))

with_tree : (text : List ℕ) (t : ProgramTree) → Reads text t → HasOneTree text
with_tree text t r = record {
  tree = t;
  reads = r;
  only = λ u q. read_once one_item text u t q r;
  accepted = λ f q. not_both one_item text t f r q;
}

with_refusal : (text : List ℕ) (f : Finding) → Refuses text f → HasOneRefusal text
with_refusal text f r = record {
  first = f;
  refuses = r;
  only = λ g q. refused_once one_item text g f q r;
  treeless = λ t q. not_both one_item text t f q r;
}

either : (text : List ℕ) → ((t : ProgramTree) × Reads text t) ⊎ ((a : Finding) × Refuses text a) → HasOneTree text ⊎ HasOneRefusal text
either text (inl x) = inl (with_tree text x.0 x.1)
either text (inr x) = inr (with_refusal text x.0 x.1)

by_lines : (text : List ℕ) (r : Option Finding) → first_line_refusal text ≡ r → HasOneTree text ⊎ HasOneRefusal text
by_lines text (Some f) h = inr (with_refusal text f (in_lines h))
by_lines text None h =
    let es = entries_of (statements_of text).statements in
    either text (read_or_refused text es.0 (record { accepted = h; readings = es.1 }))

pub one_of_both : (text : List ℕ) → HasOneTree text ⊎ HasOneRefusal text
one_of_both text = by_lines text (first_line_refusal text) refl
