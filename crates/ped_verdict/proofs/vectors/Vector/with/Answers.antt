use Rattle.std.proofs.Common.{◌-◌, ◌+◌, ◌∙◌, arith, ap, sym, length, drop, replicate}
use Rattle.std.proofs.lemmas.List.{length-set, length-take-le, drop-set-lt, drop-drop, drop-replicate}
use Rattle.ped_views.specs.declared.directions.Direction.TheVariants.{Same}
use Rattle.ped_verdict.proofs.vectors.Vector.with.Goals as goal

pub invariant_of-result : goal.invariant_of-result
invariant_of-result c =
    let n = c.self.inside.len in
    let kept = c.self.inside.directions in
    let t = length-take-le n kept (let s = c.self.invariant.short in let l = c.self.invariant.long in omega arith) in
    let v = ap length c.self.view_is in
    let r = c.requires in
    record {
      short = omega arith;
      long = length-set kept n c.args.direction ∙ c.self.invariant.long;
      rest =
          drop-set-lt (n + 1) kept n c.args.direction (omega arith)
          ∙ sym (drop-drop 1 n kept)
          ∙ ap (drop 1) c.self.invariant.rest
          ∙ drop-replicate 1 (6 - n) Same
          ∙ ap (λ k. replicate k Same) (omega arith);
    }
