-- What a new control reads must be no new name of a cell that is written. T=1 is followed by nothing; in the new list its cell is called N, and a control behind it reads N. No old act writes N, and the store at the start holds what is read; but the new list doesn't fit.
use Rattle.std.proofs.Common.{◌≡◌, pos, [], ◌∷◌, Bool, true, false, refl}
use Rattle.ped_laws.specs.ped_store.specs.Cells.{Cell}
use Rattle.ped_laws.specs.ped_store.specs.Stores.{Store, Number}
use Rattle.ped_laws.specs.ped_store.specs.Acts.{did, entered}
use Rattle.ped_laws.specs.Acts.Fitting.{Fits}
use Rattle.ped_laws.specs.Acts.Sets.{nothing, written}
use Rattle.ped_laws.specs.Acts.Conflicts.{without}
use Rattle.ped_laws.specs.Acts.Pieces.{StandsFor}
use Rattle.ped_laws.specs.Acts.Renaming.{Renamed, in_place_of}
use Rattle.ped_weaves.specs.Weaves.{block, control, Weave, old_list, new_list, counted}
use Rattle.ped_weaves.proofs.WeaveLaws.Examples.Lists.{n, t, read, write, act}

abbrev everything : Cell → Bool
everything x = true

abbrev weave : Weave
weave = record {
  names = in_place_of t n;
  idle = nothing;
  old = block 1 1 ∷ [];
  new = block 1 1 ∷ control (act (entered 2) 2 [] (read n 2 1 ∷ []) ∷ []) ∷ [];
  acts = λ k l. act did 1 [] (write t 1 1 ∷ []) ∷ [];
  others = λ k l. act did 1 [] (write n 1 1 ∷ []) ∷ [];
}

-- the old list fits each store, the block is renamed, and no old act writes N
old_fits : (s : Store) → Fits (old_list weave) s
old_fits s = ((tt, tt), tt)

renamed : Renamed weave.names (without nothing (weave.acts 1 1)) (without nothing (weave.others 1 1))
renamed = (refl, refl, refl, tt)

n_unwritten : written (old_list weave) n ≡ false
n_unwritten = refl

-- but N is the new name of T
n_taken : (written (counted weave) t ≡ true) × (weave.names t ≡ n)
n_taken = (refl, refl)

pub stands_not : (s : Store) → s n ≡ Number (pos 2) → StandsFor (record { agreed = everything; old = old_list weave; new = new_list weave }) nothing s → ⊥
stands_not s h k = let e : Number (pos 1) ≡ Number (pos 2) = (k s (λ c p. refl)).0.1.0.0 in absurd cc
