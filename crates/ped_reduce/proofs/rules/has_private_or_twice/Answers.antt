use Rattle.std.proofs.Common.{ℕ, List, ◌||◌, sym, ap, ◌∙◌}
use Rattle.std.specs.List.{list_any}
use Rattle.ped_base.specs.Lists.{is_among}
use Rattle.ped_tree.specs.NamesIn.{private_names_in}
use Rattle.ped_tree.specs.Nests.{Loop}
use Rattle.ped_tree.specs.Tree.{Do}
use Rattle.ped_tree.specs.Views.{program_tree, stmt_trees, head_of}
use Rattle.ped_refs.specs.Loops.{nest_of}
use Rattle.ped_rules.specs.ped_symbols.specs.NameRefusals.{has_twice}
use Rattle.ped_rules.specs.ped_steps.proofs.Answering.{few_numbers}
use Rattle.ped_reduce.proofs.rules.has_private_or_twice.Goals as goal

pub loops_round-requires : goal.loops_round-requires
loops_round-requires g c = few_numbers (program_tree c.args.scene.now.tree.now) c.requires.valid

pub returns-then-is_some_private : goal.returns-then-is_some_private
returns-then-is_some_private g c =
    let names = c.args.names.now in
    let inner = private_names_in (Do (head_of c.args.d.now) (stmt_trees c.args.d.now.body.items)) in
    let nest = ap nest_of c.deref.ensures.value ∙ c.in_ok-round.ensures in
    let private = c.is_some_private.ensures ∙ ap (λ (loops : List Loop). list_any (λ (x : List ℕ). is_among x inner || list_any (λ (l : Loop). is_among x l.head.private) loops) names) nest in
    sym (λ i. (sym private ∙ c.if-is_some_private.true) i || has_twice names)

pub returns : goal.returns
returns g c =
    let names = c.args.names.now in
    let inner = private_names_in (Do (head_of c.args.d.now) (stmt_trees c.args.d.now.body.items)) in
    let nest = ap nest_of c.deref.ensures.value ∙ c.in_ok-round.ensures in
    let private = c.is_some_private.ensures ∙ ap (λ (loops : List Loop). list_any (λ (x : List ℕ). is_among x inner || list_any (λ (l : Loop). is_among x l.head.private) loops) names) nest in
    c.has_twice.ensures ∙ sym (λ i. (sym private ∙ c.if-is_some_private.false) i || has_twice names)
