use Rattle.std.proofs.Common.{◌-◌, ◌+◌, ◌∙◌, arith, ap, length, drop, replicate, ◌∷◌, suc}
use Rattle.std.proofs.lemmas.List.{length-set, length-take-le, drop-set}
use Rattle.ped_views.specs.declared.directions.Direction.TheVariants.{Same}
use Rattle.ped_verdict.proofs.vectors.Vector.without_last.Goals as goal

pub invariant_of-result : goal.invariant_of-result
invariant_of-result c =
    let n = c.self.inside.len in
    let kept = c.self.inside.directions in
    let t = length-take-le n kept (let s = c.self.invariant.short in let l = c.self.invariant.long in omega arith) in
    let v = ap length c.self.view_is in
    let r = c.requires in
    let l = c.self.invariant.long in
    record {
      short = let s = c.self.invariant.short in omega arith;
      long = length-set kept (n - 1) Same ∙ l;
      rest =
          drop-set kept (n - 1) Same (let s = c.self.invariant.short in omega arith)
          ∙ ap (λ k. Same ∷ drop k kept) {x = n - 1 + 1} {y = n} (let s = c.self.invariant.short in omega arith)
          ∙ ap (λ ds. Same ∷ ds) c.self.invariant.rest
          ∙ ap (λ k. replicate k Same) {x = suc (6 - n)} {y = 6 - (n - 1)} (let s = c.self.invariant.short in omega arith);
    }
