-- What takes a graph to that of a changed program, by the program.
use Rattle.std.proofs.Common.{◌≡◌, ℕ, ◌+◌, List, length, ap, sym, ◌∙◌, subst}
use Rattle.ped_tree.specs.Tree.{ProgramTree}
use Rattle.ped_refs.specs.References.{pairs}
use Rattle.ped_graph.specs.Held.{Held, held_of}
use Rattle.ped_graph.specs.Keys.{AreInOrder}
use Rattle.ped_graph.specs.Parts.{HeldParts, Fit}
use Rattle.ped_graph.specs.Keeping.{IsOneToOne}
use Rattle.ped_update.specs.Fresh.{fresh_pairs}
use Rattle.ped_update.specs.Matching.{parts_for}
use Rattle.ped_graph.proofs.InOrder.{frame_in_order, paired_views}
use Rattle.ped_update.proofs.Matched.{parts_fit, tested_counted}

module _ (former : Held) (keep : List (ℕ × ℕ)) (once : IsOneToOne keep) (t : ProgramTree) (changed : Held) (is : changed ≡ held_of t) (parts : HeldParts) (made : parts ≡ parts_for former keep changed) where
  in_order : AreInOrder changed.frame.pairs
  in_order = subst (λ (h : Held). AreInOrder h.frame.pairs) (sym is) (frame_in_order t)

  -- the parts take the former graph to that of the program
  pub program_fits : Fit parts former (held_of t)
  program_fits =
      subst (λ (p : HeldParts). Fit p former (held_of t)) (sym made)
      (subst (λ (h : Held). Fit (parts_for former keep changed) former h) is (parts_fit former keep once changed in_order (paired_views t changed is)))

  -- the slots are those of fresh pairs and of pairs that keep a verdict
  pub slots_counted : length parts.slots ≡ fresh_pairs former keep changed + length parts.kept
  slots_counted =
      ap (λ (p : HeldParts). length p.slots) made ∙ tested_counted former keep once changed in_order (paired_views t changed is)
      ∙ ap (λ (p : HeldParts). fresh_pairs former keep changed + length p.kept) (sym made)

-- the fresh pairs of what a graph holds of a program
pub fresh_of : (former : Held) (given keep : List (ℕ × ℕ)) (t : ProgramTree) (changed : Held) → given ≡ keep → changed ≡ held_of t → fresh_pairs former given changed ≡ fresh_pairs former keep (held_of t)
fresh_of former given keep t changed same is = λ i. fresh_pairs former (same i) (is i)
