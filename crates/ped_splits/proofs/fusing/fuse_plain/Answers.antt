use Rattle.std.proofs.Common.{ℕ, List, ap, subst, ◌∙◌, arith}
use Rattle.ped_tree.specs.Views.{program_tree, stmt_trees, head_of}
use Rattle.ped_rules.specs.ped_steps.specs.declared.rules.Rule.TheVariants.{Limit}
use Rattle.ped_rules.specs.ped_steps.proofs.Answering.{few_numbers}
use Rattle.ped_rules.specs.ped_symbols.specs.NameRefusals.{IsValid}
use Rattle.ped_tree.specs.Tree.{ProgramTree}
use Rattle.ped_rules.specs.ped_steps.specs.Changes.{IsChange}
use Rattle.ped_splits.specs.Neighbours.{next_number, kept_without}
use Rattle.ped_splits.proofs.DistributeAnswers.{some_made, none_made}
use Rattle.ped_splits.proofs.FuseFirst as rules
use Rattle.ped_splits.proofs.FuseAnswers.{refused, loop_of_pair, match_of, pair_fits, number_of_next}
use Rattle.ped_splits.proofs.fusing.fuse_plain.Goals as goal

pub next_number-requires : goal.next_number-requires
next_number-requires g c =
    let t = program_tree c.args.scene.now.tree.now in
    let fits = pair_fits t c.args.pair.now c.requires.pair in
    let few = few_numbers t c.requires.scene.valid in
    omega (arith, fits, few)

pub kept_without-requires : goal.kept_without-requires
kept_without-requires g c = few_numbers (program_tree c.args.scene.now.tree.now) c.requires.scene.valid

pub unless_back-requires : goal.unless_back-requires
unless_back-requires g c =
    let t = program_tree c.args.scene.now.tree.now in
    let p = c.args.pair.now in
    let h = head_of p.own.now in
    let tree = c.requires.tree c.requires.pair in
    let made = some_made (program_tree c.args.tree) c.in_ok-keep.keep c.in_ok-change.field-0 c.in-Some.change c.in-Some.is c.in_ok-change.ensures in
    record {
      scene = c.requires.scene;
      pair = c.requires.pair;
      alike = c.requires.alike;
      nothing = rules.nothing_stands p.number t h (stmt_trees p.own.now.body.items) (loop_of_pair t p c.requires.pair) c.requires.serial c.requires.unshared c.requires.contained c.requires.plain.first c.requires.plain.last (match_of t p c.requires.pair c.requires.alike)
          (subst IsValid tree made.valid);
      change = λ is. subst (λ (u : ProgramTree). IsChange u (kept_without (next_number is.neighbour) t) c.in-Some.change) (c.requires.tree is)
          (subst (λ (k : List (ℕ × ℕ)). IsChange (program_tree c.args.tree) k c.in-Some.change) (c.in_ok-keep.ensures ∙ ap (λ (m : ℕ). kept_without m t) (c.next_number.ensures ∙ number_of_next t p is)) made);
    }

pub returns-in-None : goal.returns-in-None
returns-in-None g c =
    let t = program_tree c.args.scene.now.tree.now in
    let p = c.args.pair.now in
    let s = p.number in
    let invalid = none_made (program_tree c.args.tree) c.in_ok-keep.keep c.in_ok-change.field-0 c.in-None.is c.in_ok-change.ensures in
    refused s t Limit s c.against.result c.against.ensures
    (rules.limit_first s t (head_of p.own.now) (stmt_trees p.own.now.body.items) (loop_of_pair t p c.requires.pair) c.requires.serial c.requires.unshared c.requires.contained c.requires.plain.first c.requires.plain.last
    (match_of t p c.requires.pair c.requires.alike) (subst (λ (u : ProgramTree). IsValid u → ⊥) (c.requires.tree c.requires.pair) invalid))
