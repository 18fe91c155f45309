-- A text reads as one tree at most.
use Rattle.std.proofs.Common.{◌≡◌, ℕ, List, sym, ap, ◌∙◌}
use Rattle.ped_tree.specs.Tree.{ProgramTree}
use Rattle.ped_tree.specs.Grammar.Items.{Entry}
use Rattle.ped_tree.specs.Grammar.Occurrences.{saved_names}
use Rattle.ped_tree.specs.Grammar.ProgramForms.{program_form_tree}
use Rattle.ped_tree.specs.Grammar.Reading.{OneItem, Reads}
use Rattle.ped_tree.proofs.GrammarLaws.OneReading.{one_cut}
use Rattle.ped_blocks.proofs.BlocksNest.{one_tree_of}

pub read_once : OneItem → (text : List ℕ) (t u : ProgramTree) → Reads text t → Reads text u → t ≡ u
read_once one text t u p q =
    let same = one_cut one text p.entries q.entries p.cut q.cut in
    let nested = one_tree_of (saved_names p.entries) p.form q.form (p.written ∙ same ∙ sym q.written) p.labelled q.labelled in
    sym p.nested ∙ nested ∙ ap (λ (es : List Entry). program_form_tree (saved_names es) q.form) same ∙ q.nested
