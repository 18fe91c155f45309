use Rattle.std.proofs.Common.{length, ◌-◌, ◌+◌}
use Rattle.ped_miv.specs.Parts.{IsRest}
use Rattle.ped_verdict.proofs.Sighted.{FirstRests}
use Rattle.ped_verdict.proofs.sights.all_rests.Given as goal

-- what the last loops so far add
abbrev pub invariant-loop-behind : goal.invariant-loop-behind
invariant-loop-behind l = record {
  rests : FirstRests (l.behind + 1) l.view l.position l.rests.items;
  rest : IsRest l.view l.position (length l.view.loops - l.behind) l.rest;
}
