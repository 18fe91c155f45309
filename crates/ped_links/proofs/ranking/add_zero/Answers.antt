use Rattle.std.proofs.Common.{ℕ, List, [], ◌∷◌, inl, inr, subst, arith}
use Rattle.ped_units.specs.Linking.{IsIn}
use Rattle.ped_links.proofs.Members.{in_either, in_one}
use Rattle.ped_links.proofs.ranking.add_zero.Goals as goal

pub returns : goal.returns
returns c bound low below n i =
    elim (in_either n c.args.places.now.items (c.args.place ∷ []) (subst (λ (ns : List ℕ). IsIn n ns) c.in_ok-push.ensures.items i)) [
      | inl x ↦ below n x
      | inr y ↦ let is = in_one n c.args.place y in omega (arith, is, low)
    ]
