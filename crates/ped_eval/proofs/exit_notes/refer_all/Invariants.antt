use Rattle.std.proofs.Common.{◌≡◌, ◌++◌, drop, true}
use Rattle.ped_eval.specs.Loops.{undefined_by}
use Rattle.ped_eval.specs.Noting.{noted, noted_by}
use Rattle.ped_eval.proofs.exit_notes.refer_all.Given as goal

abbrev pub invariant-loop-name : goal.invariant-loop-name
invariant-loop-name l =
    l.notes.kept ≡ true → (l.initial.notes.kept ≡ true)
    × (noted_by l.notes ++ noted (undefined_by l.scope l.notes.next (drop l.name-index l.names)) ≡ noted_by l.initial.notes ++ noted (undefined_by l.scope l.initial.notes.next l.names))
