use Rattle.std.proofs.Common.{◌≡◌, ℕ, ◌+◌, ◌-◌, take, drop, sym, ap, ◌∙◌, arith}
use Rattle.std.proofs.lemmas.List.{drop-take}
use Rattle.ped_affine.proofs.views.part.Goals as goal

pub returns : goal.returns
returns c =
    let up : c.args.from + (c.args.to - c.args.from) ≡ c.args.to = omega arith in
    c.in_ok-to_vec.ensures.items_if_clones_equal (λ x y e. e) ∙ sym (drop-take c.args.from (c.args.to - c.args.from) c.args.ranges.now)
    ∙ ap (λ (n : ℕ). drop c.args.from (take n c.args.ranges.now)) up
