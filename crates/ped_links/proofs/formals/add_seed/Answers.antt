use Rattle.std.proofs.Common.{sym, subst, ◌∙◌}
use Rattle.std.proofs.lemmas.Result.{on_ok_weaker}
use Rattle.ped_links.specs.Reaching.{AreBelow}
use Rattle.ped_links.proofs.Seeds.{below_with, seed_added}
use Rattle.ped_links.proofs.formals.add_seed.Goals as goal

pub returns-clause-below : goal.returns-clause-below
returns-clause-below c =
    let count = c.args.formals.now.count in
    on_ok_weaker c.add_number.result (λ e b. subst (AreBelow count) (sym e) (below_with count c.args.seeds.now.items c.number.result c.number.ensures.below b)) c.add_number.ensures

pub returns-clause-seeds : goal.returns-clause-seeds
returns-clause-seeds c =
    let name = c.args.name.now in
    let names = c.args.names.now in
    let there = sym c.contains.ensures ∙ c.if-not-contains.false in
    on_ok_weaker c.add_number.result (λ e us f u. seed_added us c.args.unit name names c.number.result c.args.seeds.now.items c.add_number.new.numbers.items there (c.number.ensures.number us f u) e) c.add_number.ensures
