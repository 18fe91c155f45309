-- A store with other data.
use Rattle.std.proofs.Common.{◌≡◌, refl}
use mathlib.Core.Path.{fun_ext}
use Rattle.ped_store.specs.Cells.{Cell, Scalar, Element, Private, In, Out}
use Rattle.ped_store.specs.Stores.{Lines, put}
use Rattle.ped_store.specs.DataLines.{Data}
use Rattle.ped_store.specs.Memories.{with_data}
use Rattle.ped_store.specs.Keeping.{Kept, memory_of, cells_of}

pub with_data_is : (m : Kept) (d : Data) → memory_of (record m { input = d }) ≡ with_data d (memory_of m)
with_data_is m d = λ z. record (memory_of m) { cells = fun_ext each z; input = d }
  where
    each : (c : Cell) → cells_of (record m { input = d }) c ≡ put In (Lines d.lines) (cells_of m) c
    each (Scalar x) = refl
    each (Element x js) = refl
    each (Private x iterations) = refl
    each In = refl
    each Out = refl
