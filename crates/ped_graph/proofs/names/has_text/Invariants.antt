use Rattle.std.proofs.Common.{◌≡◌, drop}
use Rattle.ped_base.specs.Lists.{is_among}
use Rattle.ped_graph.proofs.names.has_text.Given as goal

abbrev pub invariant-loop-name : goal.invariant-loop-name
invariant-loop-name l = is_among l.text (drop l.name-index l.names) ≡ is_among l.text l.names
