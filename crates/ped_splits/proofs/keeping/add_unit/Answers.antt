use Rattle.std.proofs.Common.{◌≡◌, ℕ, List, Option, Some, ◌++◌, ◌+◌, map, filter, length, get_or, Vec, Global, sym, ap, ◌∙◌, eq-eqb, arith}
use Rattle.std.specs.List.{range_with_len}
use Rattle.ped_tree.specs.Numbering.{statements_count}
use Rattle.ped_splits.specs.Units.{units, stands_in}
use Rattle.ped_splits.specs.CodeUnits.{body_of}
use Rattle.ped_splits.proofs.ReferenceRows.{other_number}
use Rattle.ped_splits.proofs.UnitSizes.{homes_long, units_sum}
use Rattle.ped_splits.proofs.Keepings.{stands_at, one_taken, one_passed}
use Rattle.ped_splits.proofs.keeping.add_unit.Goals as goal
use Rattle.ped_splits.proofs.keeping.add_unit.Goals.{then-home-unit+in_ok-push, else-home-unit}

pub loop-home-preserved : goal.loop-home-preserved
loop-home-preserved c =
    let s = c.args.parted.now.number in
    let body = body_of c.args.parted.now in
    let k = c.loop-home.home-index in
    let homes = c.args.parted.now.homes.now in
    let number = c.loop-home.invariant.0 in
    let stands = stands_at s body c.args.unit k 0 homes c.requires.parted c.loop-home-test.true in (
      omega (arith, number),
      elim c.if-home-unit.branch [
        | then-home-unit+in_ok-push w ↦
            ap (λ (v : Vec (Option ℕ) Global). v.items) w.sources-is
            ∙ one_taken s body c.args.unit k (c.loop-home.number + 1) c.args.sources.now.items c.loop-home.sources.items w.push.new.self.items (omega (arith, number)) (stands ∙ eq-eqb (get_or homes k 0) c.args.unit w.if-home-unit.true)
            c.loop-home.invariant.1 w.in_ok-push.ensures.items
        | else-home-unit w ↦
            ap (λ (v : Vec (Option ℕ) Global). v.items) w.sources-is
            ∙ one_passed s body c.args.unit k c.args.sources.now.items c.loop-home.sources.items (stands ∙ other_number (get_or homes k 0) c.args.unit (λ e. w.if-home-unit.false (sym e))) c.loop-home.invariant.1
      ],
    )

pub returns : goal.returns
returns c =
    let s = c.args.parted.now.number in
    let body = body_of c.args.parted.now in
    let all = ap (λ (xs : List ℕ). length xs) c.requires.parted ∙ homes_long 0 (units body) ∙ units_sum body in
    let ends : c.loop-home.home-index ≡ statements_count body = let test = c.loop-home-test.false in let end = c.loop-home.auto.home-index-end in omega (arith, all, test, end) in
    c.loop-home.invariant.1 ∙ ap (λ (n : ℕ). c.args.sources.now.items ++ map Some (filter (stands_in s body c.args.unit) (range_with_len (s + 1) n))) ends
