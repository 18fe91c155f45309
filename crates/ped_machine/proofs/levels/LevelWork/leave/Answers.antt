-- An iteration drops copies of its own.
use Rattle.ped_machine.specs.Parts.{parts_of}
use Rattle.ped_machine.specs.Levels.{level_base}
use Rattle.ped_machine.specs.Growth.{parts_within}
use Rattle.ped_machine.proofs.levels.LevelWork.leave.Goals as goal

pub returns-clause-kept : goal.returns-clause-kept
returns-clause-kept g c h = let l = c.args.self.now in c.drop_copies.ensures.kept (level_base l) (parts_within (parts_of l.rest.parts) l.scope) h
