use Rattle.std.proofs.Common.{◌≡◌, ℕ, ◌≤◌, List, length, sym, ◌∙◌, subst}
use Rattle.std.specs.Prelude.{IfOk}
use Rattle.ped_tree.specs.Views.{program_tree, expr_tree}
use Rattle.ped_rules.specs.Rules.{leaves, setting_at}
use Rattle.ped_rules.specs.ped_affine.specs.PairViews.{heads_of}
use Rattle.ped_refs.specs.Loops.{nest_of}
use Rattle.ped_refs.specs.declared.loops.Loop.{Loop}
use Rattle.ped_reindex.proofs.stripping.leaves_inside.Goals as goal

pub leaves-requires-clause-nest : goal.leaves-requires-clause-nest
leaves-requires-clause-nest g c = subst (λ (xs : List Loop). length xs ≤ 6) (sym (c.deref.ensures.value ∙ c.in_ok-push.ensures.items)) c.requires.nest

pub returns : goal.returns
returns g c =
    subst (λ (xs : List Loop). IfOk c.leaves.result (λ r. (s : ℕ) → r ≡ leaves (setting_at (program_tree c.args.scene.now.tree.now) s) (heads_of (nest_of xs)) (expr_tree c.args.e.now)))
    (c.deref.ensures.value ∙ c.in_ok-push.ensures.items) c.leaves.ensures
