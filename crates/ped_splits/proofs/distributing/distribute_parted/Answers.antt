use Rattle.std.proofs.Common.{ℕ, ◌<◌, ◌≤◌, List, length, sym, subst, arith}
use Rattle.ped_tree.specs.Views.{program_tree, head_of}
use Rattle.ped_rules.specs.ped_steps.specs.Changes.{IsChange}
use Rattle.ped_rules.specs.ped_symbols.specs.NameRefusals.{IsValid}
use Rattle.ped_rules.specs.ped_steps.specs.declared.rules.Rule.TheVariants.{OneBlock, Limit}
use Rattle.ped_splits.specs.PiBlocks.{ArePiBlocks}
use Rattle.ped_splits.specs.CodeUnits.{body_of}
use Rattle.ped_splits.specs.Distributing.{distributed, sources, kept_from}
use Rattle.ped_splits.proofs.DistributeRules as rules
use Rattle.ped_splits.proofs.DistributeAnswers.{refused, accepted, some_made, none_made}
use Rattle.ped_splits.proofs.distributing.distribute_parted.Goals as goal

pub distributed-requires-clause-pi_blocks : goal.distributed-requires-clause-pi_blocks
distributed-requires-clause-pi_blocks g c =
    subst (λ (bs : List (List ℕ)). ArePiBlocks (program_tree c.args.scene.now.tree.now) c.args.parted.now.number (head_of c.args.parted.now.statement.now) (body_of c.args.parted.now) bs) (sym c.deref.ensures.value) c.in_ok-found.ensures

pub returns-then-len-lt2 : goal.returns-then-len-lt2
returns-then-len-lt2 g c =
    let t = program_tree c.args.scene.now.tree.now in
    let s = c.args.parted.now.number in
    let h = head_of c.args.parted.now.statement.now in
    let body = body_of c.args.parted.now in
    let found = c.in_ok-found.found.items in
    let few : length found < 2 = let long = c.in_ok-found.found.ok.0 in let is = c.len.ensures in let less = c.if-len-lt2.true in omega (arith, long, is, less) in
    refused s t OneBlock s c.against.result c.against.ensures
    (rules.single_first s t h body c.requires.parted.is c.requires.serial c.requires.contained c.requires.first c.requires.last found c.in_ok-found.ensures few)

pub returns-in-Some : goal.returns-in-Some
returns-in-Some g c =
    let t = program_tree c.args.scene.now.tree.now in
    let s = c.args.parted.now.number in
    let h = head_of c.args.parted.now.statement.now in
    let body = body_of c.args.parted.now in
    let found = c.in_ok-found.found.items in
    let many : 2 ≤ length found = let long = c.in_ok-found.found.ok.0 in let is = c.len.ensures in let more = c.if-len-lt2.false in omega (arith, long, is, more) in
    let there = c.deref.result.now in
    let made = subst (λ (bs : List (List ℕ)). IsChange (distributed t s bs) (kept_from 1 (sources t s body bs)) c.in-Some.change) c.deref.ensures.value
    (some_made (distributed t s there) (kept_from 1 (sources t s body there)) c.in_ok-change.field-0 c.in-Some.change c.in-Some.is c.in_ok-change.ensures) in
    accepted s t (record { head = h; body = body; is = c.requires.parted.is }) found c.in-Some.change c.in_ok-found.ensures
    (rules.nothing_stands s t h body c.requires.parted.is c.requires.serial c.requires.contained c.requires.first c.requires.last found c.in_ok-found.ensures many made.valid) made

pub returns-in-None : goal.returns-in-None
returns-in-None g c =
    let t = program_tree c.args.scene.now.tree.now in
    let s = c.args.parted.now.number in
    let h = head_of c.args.parted.now.statement.now in
    let body = body_of c.args.parted.now in
    let found = c.in_ok-found.found.items in
    let many : 2 ≤ length found = let long = c.in_ok-found.found.ok.0 in let is = c.len.ensures in let more = c.if-len-lt2.false in omega (arith, long, is, more) in
    let there = c.deref.result.now in
    let invalid = subst (λ (bs : List (List ℕ)). IsValid (distributed t s bs) → ⊥) c.deref.ensures.value (none_made (distributed t s there) (kept_from 1 (sources t s body there)) c.in_ok-change.field-0 c.in-None.is c.in_ok-change.ensures) in
    refused s t Limit s c.against-in-None.result c.against-in-None.ensures
    (rules.limit_first s t h body c.requires.parted.is c.requires.serial c.requires.contained c.requires.first c.requires.last found c.in_ok-found.ensures many invalid)
