use Rattle.std.proofs.Common.{sym, ◌∙◌}
use Rattle.std.proofs.lemmas.Result.{on_ok_weaker}
use Rattle.ped_laws.specs.ped_eval.specs.AccessViews.{access_view}
use Rattle.ped_order.proofs.RacesFound.{first_race, no_race_more, none_so_far, none_yet}
use Rattle.ped_order.proofs.Searches.{none_found}
use Rattle.ped_order.proofs.watches.RaceWatchWatch.access.Goals as goal

pub returns-in-Some : goal.returns-in-Some
returns-in-Some c seen h =
    let k = none_so_far c.args.self.now.found c.args.self.now.table seen (sym c.if-is_some.ensures) h in
    first_race seen (access_view c.args.access.now) c.in-Some.first k.0 (sym (c.in_ok-first.ensures seen k.1) ∙ c.in-Some.is)

pub returns-in-None : goal.returns-in-None
returns-in-None c = on_ok_weaker c.add.result
    (λ added seen h.
    let b = access_view c.args.access.now in
    let none = sym c.if-is_some.ensures in
    let k = none_so_far c.args.self.now.found c.args.self.now.table seen none h in
    none_yet c.args.self.now.found c.add.new.self _ none (no_race_more seen b k.0 (none_found _ 0 seen (sym (c.in_ok-first.ensures seen k.1) ∙ c.in-None.is)), added seen k.1))
    c.add.ensures
