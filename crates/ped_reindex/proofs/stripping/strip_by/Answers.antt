use Rattle.std.proofs.Common.{ℤ, IfOk, sym, ◌∙◌, subst}
use Rattle.std.specs.Int.{w64}
use Rattle.std.proofs.lemmas.Int.{to_z-of_z}
use Rattle.ped_tree.specs.Views.{program_tree, stmt_trees, head_of}
use Rattle.ped_rules.specs.ped_steps.specs.declared.rules.Rule.TheVariants.{Limit}
use Rattle.ped_rules.specs.Steps.{Answers}
use Rattle.ped_reindex.specs.Stripping.{stripping}
use Rattle.ped_reindex.proofs.StripRules as rules
use Rattle.ped_reindex.proofs.StripAnswers.{refused}
use Rattle.ped_reindex.proofs.stripping.strip_by.Goals as goal

pub fresh_name-requires : goal.fresh_name-requires
fresh_name-requires g c = c.requires.scene.symbols

pub returns-in-None : goal.returns-in-None
returns-in-None g c =
    let t = program_tree c.args.scene.now.tree.now in
    let s = c.args.number in
    let k = c.args.size in
    let h = head_of c.args.d.now in
    let body = stmt_trees c.args.d.now.body.items in
    refused s k t Limit s c.against.result c.against.ensures
    (rules.no_name_first s k t h body c.requires.is c.requires.serial c.requires.shared c.requires.contained c.requires.plain c.requires.unit c.requires.good (sym c.in_ok-name.ensures ∙ c.in-None.is))

pub strip_named-requires-clause-fresh : goal.strip_named-requires-clause-fresh
strip_named-requires-clause-fresh g c = sym c.in_ok-name.ensures ∙ c.in-Some.is

pub returns-in-Some : goal.returns-in-Some
returns-in-Some g c =
    subst (λ (z : ℤ). IfOk c.strip_named.result (Answers (stripping c.args.number z) (program_tree c.args.scene.now.tree.now))) (to_z-of_z w64 c.args.size c.ranges.size) c.strip_named.ensures
