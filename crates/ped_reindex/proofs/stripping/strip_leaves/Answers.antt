use Rattle.std.proofs.Common.{◌≡◌, ℕ, ℤ, List, [], ◌∷◌, ◌++◌, Bool, Some, Result, IfOk, ap, ◌∙◌}
use Rattle.std.specs.Int.{w64}
use Rattle.std.proofs.lemmas.Int.{to_z-of_z}
use Rattle.std.proofs.lemmas.Result.{IfOk-weaker}
use Rattle.ped_tree.specs.Tree.{ExprTree, Head, StmtTrees, Do, no_stmts, ProgramTree}
use Rattle.ped_tree.specs.Views.{expr_tree, program_tree, stmt_trees, head_of}
use Rattle.ped_rules.specs.Rules.{heads_round, leaves, setting_at}
use Rattle.ped_rules.specs.ped_steps.proofs.Answering.{few_numbers}
use Rattle.ped_rules.specs.ped_affine.specs.PairViews.{heads_of}
use Rattle.ped_rules.specs.ped_flow.specs.PlainBounds.{nest_round}
use Rattle.ped_rules.specs.ped_flow.specs.Questions.{IsLoop}
use Rattle.ped_refs.specs.Loops.{nest_of}
use Rattle.ped_refs.specs.declared.loops.Loop.{Loop}
use Rattle.ped_rules.specs.ped_symbols.specs.NameRefusals.{IsValid}
use Rattle.ped_reindex.specs.Stripping.{strip_variable, strips_head, strip_end, strip_leaves}
use Rattle.ped_reindex.proofs.NestRooms.{pushed_short, heads_pushed}
use Rattle.ped_reindex.proofs.StripAnswers.{one_head, leaves_is}
use Rattle.ped_reindex.proofs.stripping.strip_leaves.Goals as goal

-- what is asked of the DO over the strips inside the loops round the old DO
asked_inside : {E : Type 0} (t : ProgramTree) (s : ℕ) (k : ℤ) (h : Head) (body : StmtTrees) (w : List ℕ) (valid : IsValid t) (is : IsLoop t s h body) (loops : List Loop) (x : Loop) (e : ExprTree) (result : Result Bool E)
    → IfOk result (λ (r : Bool). (n : ℕ) → r ≡ leaves (setting_at t n) (heads_of (nest_of (loops ++ x ∷ []))) e) → nest_of loops ≡ nest_round t s → head_of x.statement.now ≡ strips_head k w h → e ≡ strip_end k w → strip_variable t ≡ Some w
    → IfOk result (λ (r : Bool). r ≡ strip_leaves t s k h body)
asked_inside t s k h body w valid is loops x e result asked round strips end fresh =
    IfOk-weaker result _ _ (λ r said. said s ∙ leaves_is t s k h body w fresh (heads_pushed t s h body valid is loops x round ∙ ap (λ (g : Head). heads_round t s ++ g ∷ []) strips) end) asked

pub loops_round-requires : goal.loops_round-requires
loops_round-requires g c = few_numbers (program_tree c.args.scene.now.tree.now) c.requires.scene.valid

pub leaves_inside-leaves-requires-clause-nest : goal.leaves_inside-leaves-requires-clause-nest
leaves_inside-leaves-requires-clause-nest g c =
    pushed_short (program_tree c.args.scene.now.tree.now) c.args.number (head_of c.args.d.now) (stmt_trees c.args.d.now.body.items) c.requires.scene.valid c.requires.is c.in_ok-nest.nest.items _ c.in_ok-nest.ensures

pub returns : goal.returns
returns g c =
    let t = program_tree c.args.scene.now.tree.now in
    let k = c.args.size in
    let w = c.args.name in
    let h = head_of c.args.d.now in
    let body = stmt_trees c.args.d.now.body.items in
    let f = to_z-of_z w64 k c.ranges.size in
    let made = rw c.in_ok-end.ensures.second at c.strips_loop.ensures in
    let strips = one_head (head_of c.in_ok-end.strips) (strips_head k w h) (stmt_trees c.in_ok-end.strips.body.items) no_stmts (made ∙ (λ i. Do (strips_head (f i) w h) (stmt_trees (c.new.ensures.items i)))) in
    let end = ap expr_tree c.in_ok-end.ensures.first ∙ c.in_ok-strip_end.ensures ∙ ap (λ (z : ℤ). strip_end z w) f in
    asked_inside t c.args.number k h body w c.requires.scene.valid c.requires.is c.in_ok-nest.nest.items _ _ c.leaves_inside-leaves.result c.leaves_inside-leaves.ensures c.in_ok-nest.ensures strips end c.requires.fresh
