use Rattle.std.proofs.Common.{◌≡◌, [], ◌∷◌, ◌++◌, ◌+◌, take, arith, sym, subst, ◌∙◌}
use Rattle.std.proofs.lemmas.Grind.{common_steps}
use Rattle.ped_symbols.specs.Passes.{KnowsUses}
use Rattle.ped_symbols.proofs.declared.Declared.note_all.Goals as goal

pub loop-u-preserved : goal.loop-u-preserved
loop-u-preserved c =
    let i = c.loop-u.u-index in
    let all = c.args.uses.now in
    let front : take (i + 1) all ≡ take i all ++ c.u-item.result ∷ [] = grind (arith, common_steps) in
    record {
      implicit = c.in_ok-note.ensures.implicit ∙ c.loop-u.invariant.implicit;
      program = c.in_ok-note.ensures.program ∙ c.loop-u.invariant.program;
      uses = λ k. subst (KnowsUses c.note.new.self) (sym front) (c.in_ok-note.ensures.uses (take i all) (c.loop-u.invariant.uses k));
    }
