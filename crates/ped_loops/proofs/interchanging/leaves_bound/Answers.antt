use Rattle.std.proofs.Common.{Bool, ◌||◌, sym, ap, ◌∙◌}
use Rattle.std.proofs.lemmas.Result.{IfOk-weaker}
use Rattle.ped_tree.specs.Views.{program_tree, head_of}
use Rattle.ped_rules.specs.Rules.{leaves, setting_at}
use Rattle.ped_rules.specs.ped_affine.specs.PairViews.{heads_of}
use Rattle.ped_refs.specs.Loops.{nest_of}
use Rattle.ped_loops.proofs.interchanging.leaves_bound.Goals as goal

pub returns-then-branch : goal.returns-then-branch
returns-then-branch g c s =
    let heads = heads_of (nest_of c.args.round.now) in
    let setting = setting_at (program_tree c.args.scene.now.tree.now) s in
    sym (ap (λ (b : Bool). b || leaves setting heads (head_of c.args.new.now).last) (sym (c.in_ok-leaves.ensures s) ∙ c.if-branch.true))

pub returns : goal.returns
returns g c =
    let heads = heads_of (nest_of c.args.round.now) in
    IfOk-weaker c.leaves-2.result _ _
    (λ r h s. h s ∙ sym (ap (λ (b : Bool). b || leaves (setting_at (program_tree c.args.scene.now.tree.now) s) heads (head_of c.args.new.now).last) (sym (c.in_ok-leaves.ensures s) ∙ c.if-branch.false)))
    c.leaves-2.ensures
