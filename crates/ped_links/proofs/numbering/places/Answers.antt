use Rattle.std.proofs.Common.{◌≡◌, ◌+◌, ◌≤◌, [], ◌∷◌, ◌++◌, length, take, sym, arith}
use Rattle.std.proofs.lemmas.Grind.{common_steps}
use Rattle.std.proofs.lemmas.List.{length-take-le}
use Rattle.ped_links.proofs.Numbered.{places_more}
use Rattle.ped_links.proofs.numbering.places.Goals as goal

pub loop-place-preserved : goal.loop-place-preserved
loop-place-preserved c =
    let names = c.args.names.now in
    let i = c.loop-place.place in
    let name = c.index-names-place.result in
    let low : i ≤ length names = omega arith in
    let more : take (i + 1) names ≡ take i names ++ name ∷ [] = grind (arith, common_steps) in
    places_more (take i names) (take (i + 1) names) name i c.loop-place.places.entries c.keep.new.numbers.entries (sym (length-take-le i names low)) more c.in_ok-keep.ensures c.loop-place.invariant
