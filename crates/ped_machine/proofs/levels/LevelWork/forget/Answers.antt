-- An iteration forgets copies of iterations inside of it.
use Rattle.std.proofs.Common.{refl, ap}
use Rattle.ped_store.specs.Keeping.{memory_of}
use Rattle.ped_machine.specs.declared.parts.Parts.{Parts}
use Rattle.ped_machine.specs.Parts.{parts_of, base_of}
use Rattle.ped_machine.specs.Levels.{level_base}
use Rattle.ped_machine.specs.Growth.{parts_within}
use Rattle.ped_machine.proofs.Dropping.{kept_outside}
use Rattle.ped_machine.proofs.Forgetting.{but_outside}
use Rattle.ped_machine.proofs.levels.LevelWork.forget.Goals as goal

pub forget-requires : goal.forget-requires
forget-requires g c κs = ((refl, tt), (c.requires.sound.0, c.requires.sound.1.rest))

pub returns-clause-inside : goal.returns-clause-inside
returns-clause-inside g c = ap (λ (ps : Parts). base_of (parts_of ps) c.args.self.now.scope) c.forget.ensures.parts

pub returns-clause-others : goal.returns-clause-others
returns-clause-others g c =
    let l = c.args.self.now in
    but_outside (level_base l) l.scope (memory_of c.args.store.now) (memory_of c.forget.new.store) (parts_within (parts_of l.rest.parts) l.scope) c.forget.ensures.others

pub returns-clause-kept : goal.returns-clause-kept
returns-clause-kept g c =
    let l = c.args.self.now in
    kept_outside (level_base l) l.scope (memory_of c.args.store.now) (memory_of c.forget.new.store) (parts_within (parts_of l.rest.parts) l.scope) c.forget.ensures.kept.kept

pub returns-clause-sound : goal.returns-clause-sound
returns-clause-sound g c table h = record { rest = c.forget.ensures.sound table h.rest; copies = c.forget.ensures.kept.copies h.copies }
