use Rattle.std.proofs.Common.{◌≡◌, map, length, sym, arith}
use Rattle.std.proofs.lemmas.List.{length-map}
use Rattle.ped_laws.specs.ped_eval.specs.AccessViews.{turn_view}
use Rattle.ped_order.specs.Keys.{iteration_of}
use Rattle.ped_order.specs.Paths.{level_view}
use Rattle.ped_order.proofs.PathLaws.{too_short}
use Rattle.ped_order.proofs.paths.+is_elsewhere.Goals as goal

pub returns-in-None : goal.returns-in-None
returns-in-None t c =
    let levels = c.args.levels.now in
    let turn = c.args.turn.now in
    let long : length (map level_view levels) ≡ length levels = length-map levels level_view in
    let empty : length levels ≡ 0 = c.in-None.ensures.cases in
    sym (too_short (map iteration_of (map turn_view c.args.around.now)) turn.statement turn.number (map level_view levels) (omega (arith, long, empty)))
