use Rattle.std.proofs.Common.{◌+◌, ℕ, List, length, sym, ap, subst, ◌∙◌}
use Rattle.ped_links.specs.Numbers.{ArePlaces}
use Rattle.ped_links.proofs.FormalTables.{formals_more}
use Rattle.ped_links.proofs.formals.Formals.add.Goals as goal

pub returns : goal.returns
returns c us u named h =
    let counted = c.in-Some.ensures in
    formals_more us u c.args.self.now _ c.in_ok-places.places h (subst (λ (xs : List (List ℕ)). ArePlaces xs c.in_ok-places.places.entries) (sym named) c.in_ok-places.ensures)
    c.in_ok-push.ensures.items c.in_ok-push-2.ensures.items (counted.1 ∙ ap (λ (xs : List (List ℕ)). c.args.self.now.count + length xs) (sym named))
