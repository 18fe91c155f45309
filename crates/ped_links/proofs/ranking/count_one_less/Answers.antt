use Rattle.std.proofs.Common.{ℕ, List, [], ◌∷◌, inl, inr, subst, arith}
use Rattle.ped_units.specs.Linking.{IsIn}
use Rattle.ped_links.proofs.Members.{in_either, in_one}
use Rattle.ped_links.proofs.ranking.count_one_less.Goals as goal

pub returns-clause-waiting : goal.returns-clause-waiting
returns-clause-waiting c n i =
    let old = c.args.waiting.now.items in
    elim (in_either n old (c.args.number ∷ []) (subst (λ (ns : List ℕ). IsIn n ns) c.in_ok-push.ensures.items i)) [
      | inl x ↦ c.requires.waiting n x
      | inr y ↦ let is = in_one n c.args.number y in omega (arith, is, c.requires.number)
    ]
