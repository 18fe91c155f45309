-- Copies that belong to iterations inside an execution: nobody else has to do with them (ParaScope; this project).
use Rattle.std.specs.Prelude.{◌≡◌, List, Bool, false}
use Rattle.ped_bodies.specs.ped_store.specs.Cells.{Cell}
use Rattle.ped_bodies.specs.ped_store.specs.Stores.{Undefined, Store}
use Rattle.ped_bodies.specs.ped_store.specs.Acts.{Act}
use Rattle.ped_bodies.specs.ped_laws.specs.Acts.Renaming.{touch}
use Rattle.ped_bodies.specs.ped_laws.specs.Acts.Sets.{wants}

-- a cell belongs to these acts alone, which are done from this store after the front and before what follows: it is undefined when they begin, no other act reads or writes it, and what follows doesn't want it, unless it is shown at the end (ParaScope; this project)
pub record IsTheirs (front behind : List Act) (u : Store) (c : Cell) : Type 0 where
  pub undefined : u c ≡ Undefined
  pub untouched_before : touch front c ≡ false
  pub untouched_behind : touch behind c ≡ false
  pub unwanted : (shown : Cell → Bool) → shown c ≡ false → wants shown behind c ≡ false
