-- A list of acts in pieces, of which some are changed (this project).
use Rattle.std.specs.Prelude.{List, [], ◌∷◌, ◌++◌, Bool}
use Rattle.ped_eval.specs.ped_store.specs.Cells.{Cell}
use Rattle.ped_eval.specs.ped_store.specs.Stores.{Store}
use Rattle.ped_eval.specs.ped_store.specs.Acts.{Act}
use Rattle.ped_laws.specs.Acts.Fitting.{Fits, store_after}
use Rattle.ped_laws.specs.Acts.Sets.{AgreeIn, wants}

-- a piece of a list: its acts before and after the change, and the cells on which the stores in front of it agree (this project)
pub record Piece : Type 0 where
  pub agreed : Cell → Bool
  pub old : List Act
  pub new : List Act

-- the acts before the change (plain words)
abbrev pub old_acts : List Piece → List Act
old_acts [] = []
old_acts (p ∷ ps) = p.old ++ old_acts ps

-- the acts after the change (plain words)
abbrev pub new_acts : List Piece → List Act
new_acts [] = []
new_acts (p ∷ ps) = p.new ++ new_acts ps

-- the cells on which the stores in front of the pieces agree; after the last it is the last set (plain words)
abbrev pub agreed_before : List Piece → (Cell → Bool) → Cell → Bool
agreed_before [] last = last
agreed_before (p ∷ ps) last = p.agreed

-- a new piece may stand for the old one, which is done from the store s: from each store that agrees with s it finds what it reads, and the stores agree as the rest asks (this project)
abbrev pub StandsFor : Piece → (Cell → Bool) → Store → Type 0
StandsFor p behind s = (t : Store) → AgreeIn p.agreed s t → Fits p.new t × AgreeIn behind (store_after p.old s) (store_after p.new t)

-- each new piece may stand for the old one (this project)
abbrev pub AllStand : List Piece → (Cell → Bool) → Store → Type 0
AllStand [] last s = Unit {0}
AllStand (p ∷ ps) last s = StandsFor p (agreed_before ps last) s × AllStand ps last (store_after p.old s)

-- a part of a list of acts that stays as it is, or is changed (this project)
pub data Part : Type 0 where
  same : List Act → Part
  changed : List Act → List Act → Part

-- the acts before the change (plain words)
abbrev pub old_parts : List Part → List Act
old_parts [] = []
old_parts (same acts ∷ ps) = acts ++ old_parts ps
old_parts (changed old new ∷ ps) = old ++ old_parts ps

-- the acts after the change (plain words)
abbrev pub new_parts : List Part → List Act
new_parts [] = []
new_parts (same acts ∷ ps) = acts ++ new_parts ps
new_parts (changed old new ∷ ps) = new ++ new_parts ps

-- each changed part may stand for the old one, where the stores need agree only where the old acts want it: where they read before they write, or leave unwritten what is shown at the end (this project)
abbrev pub PartsStand : (Cell → Bool) → List Part → Store → Type 0
PartsStand shown [] s = Unit {0}
PartsStand shown (same acts ∷ ps) s = PartsStand shown ps (store_after acts s)
PartsStand shown (changed old new ∷ ps) s =
    StandsFor (record { agreed = wants shown (old ++ old_parts ps); old = old; new = new }) (wants shown (old_parts ps)) s × PartsStand shown ps (store_after old s)
