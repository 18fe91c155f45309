-- Cut and paste where new acts read what the old acts don't want: the stores may differ on some cells alone (this project).
use Rattle.std.specs.Prelude.{List, [], ◌∷◌, ◌++◌, Bool, ◌||◌, not}
use Rattle.ped_laws.specs.ped_store.specs.Cells.{Cell}
use Rattle.ped_laws.specs.ped_store.specs.Stores.{Store}
use Rattle.ped_laws.specs.ped_store.specs.Acts.{Act}
use Rattle.ped_laws.specs.Acts.Fitting.{store_after}
use Rattle.ped_laws.specs.Acts.Sets.{wants}
use Rattle.ped_laws.specs.Acts.Pieces.{StandsFor, Part, same, changed, old_parts}

-- the cells on which the stores of the old and of the new run agree in front of these acts: all but those that are apart, as the variables of the loops that a step rewrites, and of these the ones that are live there (Allen and Kennedy, section 5.3; this project)
abbrev pub agreed : (apart shown : Cell → Bool) → List Act → Cell → Bool
agreed apart shown acts c = not (apart c) || wants shown acts c

-- the cells on which the stores agree at the end: all but those that are apart, and of these the ones that are shown (this project)
abbrev pub agreed_at_end : (apart shown : Cell → Bool) → Cell → Bool
agreed_at_end apart shown c = not (apart c) || shown c

-- each changed part may stand for the old one, where the stores differ only on cells that are apart and that the old acts don't want from there on (this project)
abbrev pub PartsStandApart : (apart shown : Cell → Bool) → List Part → Store → Type 0
PartsStandApart apart shown [] s = Unit {0}
PartsStandApart apart shown (same acts ∷ ps) s = PartsStandApart apart shown ps (store_after acts s)
PartsStandApart apart shown (changed old new ∷ ps) s =
    StandsFor (record { agreed = agreed apart shown (old ++ old_parts ps); old = old; new = new }) (agreed apart shown (old_parts ps)) s × PartsStandApart apart shown ps (store_after old s)
