use Rattle.std.proofs.Common.{subst}
use Rattle.ped_tree.specs.Views.{program_tree, stmt_trees, head_of}
use Rattle.ped_rules.specs.Chains.{no_rules}
use Rattle.ped_rules.specs.ped_steps.specs.Replacing.{all_kept}
use Rattle.ped_reduce.specs.CodeRules.{IsFirstOf}
use Rattle.ped_reduce.specs.Reducing.{also_against_sums, with_reduction}
use Rattle.ped_reduce.proofs.ReducingAnswers as answers
use Rattle.ped_reduce.proofs.reducing.reduce_in.Goals as goal

pub returns-in-Some : goal.returns-in-Some
returns-in-Some g c =
    let t = program_tree c.args.scene.now.tree.now in
    let s = c.args.number in
    let names = c.args.names.now in
    let first = subst (IsFirstOf (also_against_sums s names t no_rules)) c.in-Some.is c.in_ok-first.ensures in
    answers.refused s names t c.in-Some.first.rule c.in-Some.first.statement c.against.result c.against.ensures (answers.early_first s names t c.in-Some.first first)

pub unless_unlowerable-requires : goal.unless_unlowerable-requires
unless_unlowerable-requires g c =
    let t = program_tree c.args.scene.now.tree.now in
    let s = c.args.number in
    let names = c.args.names.now in
    record {
      scene = c.requires.scene;
      is = c.requires.is;
      clear = subst (IsFirstOf (also_against_sums s names t no_rules)) c.in_default.is c.in_ok-first.ensures;
      made = answers.some_made (with_reduction t s names) (all_kept t) c.in_ok-change.field-0 c.in-Some-2.change c.in-Some-2.is c.in_ok-change.ensures;
    }

pub returns-in-None : goal.returns-in-None
returns-in-None g c =
    let t = program_tree c.args.scene.now.tree.now in
    let s = c.args.number in
    let names = c.args.names.now in
    let clear = subst (IsFirstOf (also_against_sums s names t no_rules)) c.in_default.is c.in_ok-first.ensures in
    let invalid = answers.none_made (with_reduction t s names) (all_kept t) c.in_ok-change.field-0 c.in-None.is c.in_ok-change.ensures in
    answers.invalid_refused s names t clear (head_of c.args.d.now) (stmt_trees c.args.d.now.body.items) c.requires.is c.against-in-None.result c.against-in-None.ensures invalid
