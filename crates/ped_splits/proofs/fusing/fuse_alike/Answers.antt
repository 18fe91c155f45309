use Rattle.std.proofs.Common.{ℕ, Option, MatchOption, subst}
use Rattle.ped_tree.specs.Views.{program_tree, stmt_trees, head_of}
use Rattle.ped_rules.specs.ped_steps.specs.declared.rules.Rule.TheVariants.{IndexEscapes}
use Rattle.ped_rules.specs.ped_steps.proofs.Answering.{few_numbers}
use Rattle.ped_splits.specs.Fusing.{WhereFusionEscapes}
use Rattle.ped_splits.proofs.FuseFirst as rules
use Rattle.ped_splits.proofs.FuseAnswers.{refused, loop_of_pair}
use Rattle.ped_splits.proofs.fusing.fuse_alike.Goals as goal

pub fused-requires : goal.fused-requires
fused-requires g c = record { few = few_numbers (program_tree c.args.scene.now.tree.now) c.requires.scene.valid; pair = c.requires.pair }

pub returns-in-Some : goal.returns-in-Some
returns-in-Some g c =
    let t = program_tree c.args.scene.now.tree.now in
    let p = c.args.pair.now in
    let s = p.number in
    refused s t IndexEscapes c.in-Some.statement c.against.result c.against.ensures
    (rules.escape_first s t (head_of p.own.now) (stmt_trees p.own.now.body.items) (loop_of_pair t p c.requires.pair) c.requires.serial c.requires.unshared c.in-Some.statement (subst (λ (r : Option ℕ). MatchOption r ((n : ℕ) → WhereFusionEscapes t s n → ⊥) (WhereFusionEscapes t s)) c.in-Some.is c.in_ok-statement.ensures))
