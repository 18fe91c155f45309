use Rattle.std.proofs.Common.{ℕ, sym, ap, subst, ◌∙◌, arith}
use Rattle.std.proofs.lemmas.Result.{IfOk-weaker}
use Rattle.ped_tree.specs.Views.{program_tree}
use Rattle.ped_tree.specs.Tree.{ProgramTree}
use Rattle.ped_rules.specs.ped_steps.proofs.Answering.{few_numbers}
use Rattle.ped_refs.specs.References.{references, pairs}
use Rattle.ped_rules.specs.ped_symbols.specs.Kinds.{table_of}
use Rattle.ped_rules.specs.ped_symbols.specs.NameRefusals.{IsValid}
use Rattle.ped_splits.specs.Neighbours.{fused}
use Rattle.ped_splits.specs.CodeFusing.{bodies_of, IsFirstBack}
use Rattle.ped_splits.proofs.FuseAnswers.{pair_fits}
use Rattle.ped_splits.proofs.fusing.first_forbidding.Goals as goal

pub first_back-requires : goal.first_back-requires
first_back-requires g c =
    let t = program_tree c.args.scene.now.tree.now in
    let change = c.requires.change c.requires.pair in
    let fits = pair_fits t c.args.pair.now c.requires.pair in
    let few = few_numbers t c.requires.scene.valid in
    record {
      valid = subst IsValid (sym change.tree) change.valid;
      constants = c.consts.ensures ∙ ap (λ z. z.constants) change.symbols ∙ sym (ap (λ (u : ProgramTree). (table_of u).constants) change.tree);
      few = omega (arith, fits, few);
    }

pub returns : goal.returns
returns g c =
    IfOk-weaker c.first_back.result _ _ (λ found back is.
    subst (λ (level : ℕ). IsFirstBack (fused is.neighbour) (bodies_of c.args.pair.now level) (pairs (references (fused is.neighbour))) found) c.in_ok-level.ensures
    (subst (λ (u : ProgramTree). IsFirstBack u (bodies_of c.args.pair.now c.in_ok-level.level) (pairs (references u)) found) (c.requires.change is).tree back)) c.first_back.ensures
