use Rattle.std.proofs.Common.{◌≡◌, ℕ, List, Vec, Global}
use Rattle.ped_tree.specs.Views.{program_tree, head_of}
use Rattle.ped_splits.specs.PiBlocks.{pi_blocks, ArePiBlocks}
use Rattle.ped_splits.specs.CodeUnits.{body_of}
use Rattle.ped_splits.proofs.DistributeAnswers.{ok_by}
use Rattle.ped_splits.proofs.distributing.pi_blocks_of.Goals as goal

pub returns : goal.returns
returns g c =
    let t = program_tree c.args.scene.now.tree.now in
    let s = c.args.parted.now.number in
    let h = head_of c.args.parted.now.statement.now in
    let body = body_of c.args.parted.now in
    let reach = c.in_ok-reach.ensures in
    ok_by (λ (v : Vec (List ℕ) Global). v.items ≡ pi_blocks c.in_ok-reach.reach) (λ (v : Vec (List ℕ) Global). ArePiBlocks t s h body v.items) c.pi_blocks.result
    (λ v is. record { edges = reach.0; are = reach.1; reach = c.in_ok-reach.reach; closed = reach.2; order = is }) c.pi_blocks.ensures
