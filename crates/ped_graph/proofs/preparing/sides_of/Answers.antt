use Rattle.std.proofs.Common.{ap, length, rules, arith}
use Rattle.std.proofs.lemmas.List.{length_push}
use Rattle.ped_tree.specs.Views.{program_tree}
use Rattle.ped_refs.specs.Occurrences.{reference_of, references_of}
use Rattle.ped_graph.proofs.Slices.{mapped_at, item_there}
use Rattle.ped_graph.proofs.KnownSides.{no_sides, sides_more}
use Rattle.ped_graph.proofs.preparing.sides_of.Goals as goal

pub loop-occurrence-init : goal.loop-occurrence-init
loop-occurrence-init c = record {
  many = ap length c.new-sides.ensures.items;
  sides = no_sides (program_tree c.args.known.now.program.now) (references_of c.args.known.now.found.now) c.new-sides.result.items c.new-sides.ensures.items;
  round = search rules;
}

pub loop-occurrence-preserved : goal.loop-occurrence-preserved
loop-occurrence-preserved c =
    let t = program_tree c.args.known.now.program.now in
    let found = c.args.known.now.found.now in
    let i = c.loop-occurrence.occurrence-index in
    let there = mapped_at reference_of found i c.occurrence-item.result (item_there found i c.occurrence-item.result c.occurrence-item.is c.loop-occurrence-test.true) in
    record {
      many = (let a = ap length c.in_ok-push.ensures.items in let b = length_push c.loop-occurrence.sides.items c.in_ok-side.side in let many = c.loop-occurrence.invariant.many in omega (arith, a, b, many));
      sides = sides_more t (references_of found) c.loop-occurrence.sides.items _ c.in_ok-side.side _ i c.loop-occurrence.invariant.many there c.in_ok-side.ensures c.in_ok-push.ensures.items c.loop-occurrence.invariant.sides;
      round = c.in_ok-enter.ensures.round;
    }
