use Rattle.std.proofs.Common.{◌∙◌, sym, ap, [], List, Some}
use Rattle.ped_tree.specs.Nests.{Loop}
use Rattle.ped_refs.specs.Loops.{nest_of, loop_of}
use Rattle.ped_evidence.specs.Levels.{level}
use Rattle.ped_evidence.proofs.LevelsListed.{level_listed}
use Rattle.ped_evidence.proofs.levels.level_at.Goals as goal

pub returns : goal.returns
returns c =
    let l = loop_of c.loop_there-l.result.now in
    let r = c.range_there-range.result.now in
    level_listed [] (nest_of c.args.nest.now) c.args.ranges.now c.args.place l r c.loop_there-l.ensures c.range_there-range.ensures ∙ ap (λ (ls : List Loop). Some (level ls l.head r)) (sym c.front-around.ensures)
