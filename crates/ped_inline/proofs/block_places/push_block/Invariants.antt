use Rattle.std.proofs.Common.{◌≡◌, ◌+◌, ◌++◌, length, replicate, Some}
use Rattle.ped_inline.specs.CodeFolding.{block_seen, places_seen}
use Rattle.ped_inline.proofs.block_places.push_block.Given as goal

abbrev pub invariant-loop : goal.invariant-loop
invariant-loop l = record {
  placed : places_seen l.places.items ≡ places_seen l.initial.places.items ++ replicate l.counter (Some (block_seen l.block));
  long : length l.places.items ≡ length l.initial.places.items + l.counter;
}
