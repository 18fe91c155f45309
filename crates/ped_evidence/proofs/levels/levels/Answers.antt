use Rattle.std.proofs.Common.{◌≡◌, ◌++◌, ◌∷◌, ◌∙◌, sym, ap, [], List, length, arith}
use Rattle.std.proofs.lemmas.List.{length-map, map-append}
use Rattle.ped_refs.specs.Loops.{nest_of, loop_of}
use Rattle.ped_evidence.specs.Kept.{level_of, levels_kept}
use Rattle.ped_evidence.specs.Levels.{Level, levels_inside}
use Rattle.ped_evidence.proofs.LevelsListed.{levels_long, take_next, take_whole}
use Rattle.ped_evidence.proofs.levels.levels.Goals as goal

pub loop-i-preserved : goal.loop-i-preserved
loop-i-preserved c =
    let all : List Level = levels_inside [] (nest_of c.args.nest.now) c.args.ranges.now in
    let x = c.level_at-level.result in
    ap levels_kept c.in_ok-push.ensures.items
    ∙ (map-append level_of c.loop-i.found.items (x ∷ []) ∙ (ap (λ (vs : List Level). vs ++ level_of x ∷ []) c.loop-i.invariant ∙ sym (take_next all c.loop-i.i (level_of x) c.level_at-level.ensures)))

pub returns : goal.returns
returns c =
    let all : List Level = levels_inside [] (nest_of c.args.nest.now) c.args.ranges.now in
    let loops : length (nest_of c.args.nest.now) ≡ length c.args.nest.now = length-map c.args.nest.now loop_of in
    let long : length all ≡ length (nest_of c.args.nest.now) = levels_long [] (nest_of c.args.nest.now) c.args.ranges.now (c.requires ∙ sym loops) in
    c.loop-i.invariant ∙ take_whole c.loop-i.i all (omega (arith, long, loops))
