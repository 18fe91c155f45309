use Rattle.std.proofs.Common.{ℕ, List, ◌||◌, Option, MatchOption, sym, ap, ◌∙◌, subst}
use Rattle.std.specs.List.{list_any}
use Rattle.ped_base.specs.Lists.{is_among}
use Rattle.ped_tree.specs.Nests.{Loop}
use Rattle.ped_tree.specs.Views.{program_tree, stmt_trees}
use Rattle.ped_refs.specs.Loops.{nest_of}
use Rattle.ped_tree.specs.Views.{head_of}
use Rattle.ped_rules.specs.ped_symbols.specs.NameRefusals.{IsValid}
use Rattle.ped_rules.specs.ped_steps.specs.declared.rules.Rule.TheVariants.{ParallelState, ExposedOrLive, NotScalar, Limit, AlreadyPrivate}
use Rattle.ped_rules.specs.ped_steps.specs.Replacing.{all_kept}
use Rattle.ped_rules.specs.ped_steps.specs.Changes.{IsChange}
use Rattle.ped_rules.specs.ped_steps.specs.declared.changes.Change.{Change}
use Rattle.ped_rules.specs.ped_steps.proofs.Answering.{few_numbers}
use Rattle.ped_scalar.specs.Privatising.{privatised}
use Rattle.ped_scalar.proofs.PrivatiseRules as rules
use Rattle.ped_scalar.proofs.privatising.privatise_in.Goals as goal

pub loops_round-requires : goal.loops_round-requires
loops_round-requires g c = few_numbers (program_tree c.args.scene.now.tree.now) c.requires.scene.valid

pub returns-then-is_parallel : goal.returns-then-is_parallel
returns-then-is_parallel g c =
    let t = program_tree c.args.scene.now.tree.now in
    let s = c.args.number in
    let x = c.args.name.now in
    let h = head_of c.args.d.now in
    let body = stmt_trees c.args.d.now.body.items in
    let nest = ap nest_of c.deref.ensures.value ∙ c.in_ok-round.ensures in
    let test = c.is_parallel.ensures ∙ ap (λ (n : List Loop). h.parallel || list_any (λ (m : Loop). m.head.parallel) n) nest in
    rules.refused s x t ParallelState s c.against.result c.against.ensures (rules.state_first s x t h body c.requires.is (sym test ∙ c.if-is_parallel.true))

pub returns-in-Some : goal.returns-in-Some
returns-in-Some g c =
    let t = program_tree c.args.scene.now.tree.now in
    let s = c.args.number in
    let x = c.args.name.now in
    let h = head_of c.args.d.now in
    let body = stmt_trees c.args.d.now.body.items in
    let nest = ap nest_of c.deref.ensures.value ∙ c.in_ok-round.ensures in
    let test = c.is_parallel.ensures ∙ ap (λ (n : List Loop). h.parallel || list_any (λ (m : Loop). m.head.parallel) n) nest in
    rules.refused s x t ExposedOrLive c.in-Some.statement c.against-in-Some.result c.against-in-Some.ensures
    (rules.exposed_first s x t h body c.requires.is (sym test ∙ c.if-is_parallel.false) c.in-Some.statement c.in-Some.ensures)

pub returns-then-branch : goal.returns-then-branch
returns-then-branch g c =
    let t = program_tree c.args.scene.now.tree.now in
    let s = c.args.number in
    let x = c.args.name.now in
    let h = head_of c.args.d.now in
    let body = stmt_trees c.args.d.now.body.items in
    let nest = ap nest_of c.deref.ensures.value ∙ c.in_ok-round.ensures in
    let test = c.is_parallel.ensures ∙ ap (λ (n : List Loop). h.parallel || list_any (λ (m : Loop). m.head.parallel) n) nest in
    rules.refused s x t NotScalar s c.against-then-branch.result c.against-then-branch.ensures
    (rules.unfit_first s x t h body c.requires.is (sym test ∙ c.if-is_parallel.false) c.in_default.ensures (sym c.in_ok-is_unfit.ensures ∙ c.if-branch.true))

pub returns-then-is_among : goal.returns-then-is_among
returns-then-is_among g c =
    let t = program_tree c.args.scene.now.tree.now in
    let s = c.args.number in
    let x = c.args.name.now in
    let h = head_of c.args.d.now in
    let body = stmt_trees c.args.d.now.body.items in
    let nest = ap nest_of c.deref.ensures.value ∙ c.in_ok-round.ensures in
    let test = c.is_parallel.ensures ∙ ap (λ (n : List Loop). h.parallel || list_any (λ (m : Loop). m.head.parallel) n) nest in
    let among = c.is_among.ensures ∙ ap (λ (names : List (List ℕ)). is_among x names) c.as_slice.ensures in
    rules.refused s x t AlreadyPrivate s c.against-then-is_among.result c.against-then-is_among.ensures
    (rules.listed_first s x t h body c.requires.is (sym test ∙ c.if-is_parallel.false) c.in_default.ensures (sym c.in_ok-is_unfit.ensures ∙ c.if-branch.false) (sym among ∙ c.if-is_among.true))

pub returns-in-Some-2 : goal.returns-in-Some-2
returns-in-Some-2 g c =
    let t = program_tree c.args.scene.now.tree.now in
    let s = c.args.number in
    let x = c.args.name.now in
    let h = head_of c.args.d.now in
    let body = stmt_trees c.args.d.now.body.items in
    let nest = ap nest_of c.deref.ensures.value ∙ c.in_ok-round.ensures in
    let test = c.is_parallel.ensures ∙ ap (λ (n : List Loop). h.parallel || list_any (λ (m : Loop). m.head.parallel) n) nest in
    let among = c.is_among.ensures ∙ ap (λ (names : List (List ℕ)). is_among x names) c.as_slice.ensures in
    let u = privatised t s x in
    let made : IsChange u (all_kept t) c.in-Some-2.change =
    subst (λ (o : Option Change). MatchOption o (IsValid u → ⊥) (IsChange u (all_kept t))) c.in-Some-2.is c.in_ok-change.ensures in
    rules.accepted s x t c.in-Some-2.change
    (rules.nothing_stands s x t h body c.requires.is (sym test ∙ c.if-is_parallel.false) c.in_default.ensures (sym c.in_ok-is_unfit.ensures ∙ c.if-branch.false) (sym among ∙ c.if-is_among.false) made.valid) made

pub returns-in-None : goal.returns-in-None
returns-in-None g c =
    let t = program_tree c.args.scene.now.tree.now in
    let s = c.args.number in
    let x = c.args.name.now in
    let h = head_of c.args.d.now in
    let body = stmt_trees c.args.d.now.body.items in
    let nest = ap nest_of c.deref.ensures.value ∙ c.in_ok-round.ensures in
    let test = c.is_parallel.ensures ∙ ap (λ (n : List Loop). h.parallel || list_any (λ (m : Loop). m.head.parallel) n) nest in
    let among = c.is_among.ensures ∙ ap (λ (names : List (List ℕ)). is_among x names) c.as_slice.ensures in
    let u = privatised t s x in
    let invalid : IsValid u → ⊥ = subst (λ (o : Option Change). MatchOption o (IsValid u → ⊥) (IsChange u (all_kept t))) c.in-None.is c.in_ok-change.ensures in
    rules.refused s x t Limit s c.against-in-None.result c.against-in-None.ensures
    (rules.limit_first s x t h body c.requires.is (sym test ∙ c.if-is_parallel.false) c.in_default.ensures (sym c.in_ok-is_unfit.ensures ∙ c.if-branch.false) (sym among ∙ c.if-is_among.false) invalid)
