use Rattle.std.proofs.Common.{◌≡◌, drop}
use Rattle.ped_tree.specs.Grammar.ProgramRefusals.{meets}
use Rattle.ped_links.proofs.placing.meets.Given as goal

abbrev pub invariant-loop-name : goal.invariant-loop-name
invariant-loop-name l = meets (drop l.name-index l.names) l.others ≡ meets l.names l.others
