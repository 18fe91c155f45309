use Rattle.std.proofs.Common.{◌↔◌, ℕ, List, subst, arith}
use Rattle.std.proofs.lemmas.Result.{IfOk-weaker}
use Rattle.ped_links.specs.ArrowViews.{ends_of}
use Rattle.ped_units.specs.Linking.{IsIn}
use Rattle.ped_links.specs.Arguments.{used_names}
use Rattle.ped_links.specs.Reaching.{IsMarked, IsReached}
use Rattle.ped_links.proofs.Used.{marked_used}
use Rattle.ped_links.proofs.formals.uses.Goals as goal

pub reached-requires : goal.reached-requires
reached-requires c n i = let below = c.in_ok-seeds.ensures.below n (subst (IsIn n) c.deref.ensures.value i) in omega (arith, below, c.requires)

pub returns : goal.returns
returns c =
    let ends = ends_of c.args.passings.now in
    IfOk-weaker c.reached.result _ _ (λ marks h us scene f arrows.
    marked_used (used_names c.args.as_indexes) us ends c.in_ok-seeds.seeds.items marks.items arrows (c.in_ok-seeds.ensures.seeds us scene f)
    (subst (λ (seeds : List ℕ). (j : ℕ) → IsMarked marks.items j ↔ IsReached ends seeds j) c.deref.ensures.value h)) c.reached.ensures.marked
