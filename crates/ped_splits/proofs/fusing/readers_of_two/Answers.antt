use Rattle.std.proofs.Common.{ℕ, Option, sym, subst, arith}
use Rattle.ped_tree.specs.Views.{program_tree}
use Rattle.ped_rules.specs.ped_steps.proofs.Answering.{few_numbers}
use Rattle.ped_rules.specs.ped_flow.specs.Questions.{IsBrokenBy, IsShown}
use Rattle.ped_rules.specs.ped_flow.specs.declared.flows.Reader.{Reader}
use Rattle.ped_splits.specs.CodeFusing.{IsReaderOf, IsBrokenInTwo, IsShownInTwo}
use Rattle.ped_splits.proofs.FuseAnswers.{pair_fits}
use Rattle.ped_splits.proofs.FuseReaders.{earlier_reader}
use Rattle.ped_splits.proofs.fusing.readers_of_two.Goals as goal

pub next_number-requires : goal.next_number-requires
next_number-requires g c =
    let t = program_tree c.args.scene.now.tree.now in
    let fits = pair_fits t c.args.pair.now c.requires.pair in
    let few = few_numbers t c.requires.scene.valid in
    omega (arith, fits, few)

pub returns : goal.returns
returns g c =
    let t = program_tree c.args.scene.now.tree.now in
    let s = c.args.pair.now.number in
    let k = c.next_number.result in
    let both = earlier_reader (IsBrokenBy t s) (IsBrokenBy t k) (IsShown t s) (IsShown t k) c.own_reader-first.result c.own_reader.result c.own_reader-first.ensures c.own_reader.ensures in
    let found = subst (λ (r : Option Reader). IsReaderOf (IsBrokenInTwo t s k) (IsShownInTwo t s k) r) (sym c.earlier.ensures) both in
    subst (λ (m : ℕ). IsReaderOf (IsBrokenInTwo t s m) (IsShownInTwo t s m) c.earlier.result) c.next_number.ensures found
