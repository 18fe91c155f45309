use Rattle.std.proofs.Common.{◌≡◌, List, Bool, subst, sym, arith}
use Rattle.ped_splits.proofs.ArrowLaws.{Adds, adds_one}
use Rattle.ped_splits.proofs.arrows.add_arrow.Goals as goal

pub returns-clause-arrows : goal.returns-clause-arrows
returns-clause-arrows c =
    let square = c.width-width.ensures.square c.args.from c.requires.from in
    let inside = c.requires.to in
    subst (λ (rows : List (List Bool)). Adds c.args.arrows.now rows (λ i j. (i ≡ c.args.from) × (j ≡ c.args.to))) (sym c.set.ensures) (adds_one c.args.arrows.now c.args.from c.args.to c.requires.from (omega (arith, square, inside)))
