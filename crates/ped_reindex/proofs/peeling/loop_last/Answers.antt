use Rattle.std.proofs.Common.{ℤ, List, [], ◌∷◌, ap, ◌∙◌}
use Rattle.std.specs.Int.{w64}
use Rattle.std.proofs.lemmas.Int.{to_z-of_z}
use Rattle.ped_tree.specs.Tree.{Do}
use Rattle.ped_tree.specs.Views.{stmt_trees, head_of}
use Rattle.ped_tree.specs.declared.statements.Stmt.{Stmt}
use Rattle.ped_rules.specs.ped_steps.proofs.Followed.{stmt_trees-append}
use Rattle.ped_rules.specs.ped_steps.specs.Replacing.{followed, alone}
use Rattle.ped_symbolic.specs.Arithmetic.{literal}
use Rattle.ped_reindex.specs.Peeling.{iteration_of}
use Rattle.ped_reindex.proofs.Sizes.{literal_fits}
use Rattle.ped_reindex.proofs.peeling.loop_last.Goals as goal

pub returns : goal.returns
returns c =
    let h = head_of c.args.d.now in
    let body = stmt_trees c.args.d.now.body.items in
    let p = c.args.taken in
    let s = c.in_ok-beginning_at.field-0 in
    let front = c.in_ok-new.ensures ∙ ap (λ (z : ℤ). iteration_of z h body) (to_z-of_z w64 p.value (literal_fits p.value c.requires.near.value)) in
    let back = c.in_ok-beginning_at.ensures ∙ ap (λ (z : ℤ). Do (record h { first = literal z }) body) (to_z-of_z w64 p.bound (literal_fits p.bound c.requires.near.bound)) in
    ap (λ (ss : List Stmt). stmt_trees ss) c.in_ok-push.ensures.items ∙ stmt_trees-append c.in_ok-new.new.items (s ∷ []) ∙ (λ i. followed (front i) (alone (back i)))
