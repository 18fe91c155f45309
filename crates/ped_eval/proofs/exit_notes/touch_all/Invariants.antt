use Rattle.std.proofs.Common.{◌≡◌, ◌++◌, drop, true}
use Rattle.ped_eval.specs.Loops.{undefined_all}
use Rattle.ped_eval.specs.Noting.{noted, noted_by}
use Rattle.ped_eval.proofs.exit_notes.touch_all.Given as goal

abbrev pub invariant-loop-name : goal.invariant-loop-name
invariant-loop-name l =
    l.notes.kept ≡ true → (l.initial.notes.kept ≡ true)
    × (noted_by l.notes ++ noted (undefined_all l.scope (drop l.name-index l.names)) ≡ noted_by l.initial.notes ++ noted (undefined_all l.scope l.names))
