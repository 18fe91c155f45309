-- Units that are read one behind the other.
use Rattle.std.proofs.Common.{List, [], ◌∷◌, ◌++◌}
use Rattle.ped_tree.specs.Grammar.Statement.{Statements}
use Rattle.ped_units.specs.Reading.{Segment}
use Rattle.ped_units.specs.Refusals.{before_another}
use Rattle.ped_units.specs.Seeing.{IsReadUnit, AreReadEach, AreReadUnits}
use Rattle.ped_units.specs.declared.reading.ReadUnit.{ReadUnit}

-- one more, behind which another begins
pub each_more : (all : Statements) (ss : List Segment) (us : List ReadUnit) (s : Segment) (u : ReadUnit) → AreReadEach all ss us → IsReadUnit (before_another all) s u → AreReadEach all (ss ++ s ∷ []) (us ++ u ∷ [])
each_more all [] [] s u h k = (k, tt)
each_more all (t ∷ ts) (v ∷ vs) s u h k = (h.0, each_more all ts vs s u h.1 k)
each_more all [] (v ∷ vs) s u h k = absurd h
each_more all (t ∷ ts) [] s u h k = absurd h

-- and the last one
pub last_read : (all : Statements) (ss : List Segment) (us : List ReadUnit) (s : Segment) (u : ReadUnit) → AreReadEach all ss us → IsReadUnit all s u → AreReadUnits all (ss ++ s ∷ []) (us ++ u ∷ [])
last_read all [] [] s u h k = (k, tt)
last_read all (t ∷ []) (v ∷ vs) s u h k = (h.0, last_read all [] vs s u h.1 k)
last_read all (t ∷ x ∷ ts) (v ∷ vs) s u h k = (h.0, last_read all (x ∷ ts) vs s u h.1 k)
last_read all [] (v ∷ vs) s u h k = absurd h
last_read all (t ∷ ts) [] s u h k = absurd h
