-- Units that are built one behind the other of what was read.
use Rattle.std.proofs.Common.{◌≡◌, List, [], ◌∷◌, ◌++◌, sym, subst, ◌∙◌, append_assoc, append-nil}
use Rattle.ped_tree.specs.Grammar.Statement.{Statements}
use Rattle.ped_units.specs.Reading.{Segment}
use Rattle.ped_units.specs.Refusals.{before_another}
use Rattle.ped_units.specs.Seeing.{IsReadUnit, AreReadUnits, IsBuiltOf, AreBuiltOf}
use Rattle.ped_units.specs.declared.reading.ReadUnit.{ReadUnit}
use Rattle.ped_units.specs.declared.units.ProgramUnit.{ProgramUnit}

-- units that are built, and those that are left
pub record BuiltSoFar (all : Statements) (whole : List Segment) (built : List ProgramUnit) (left : List ReadUnit) : Type 0 where
  pub done : List Segment
  pub rest : List Segment
  pub are : AreBuiltOf done built
  pub read : AreReadUnits all rest left
  pub both : done ++ rest ≡ whole

one_more : (ss : List Segment) (us : List ProgramUnit) (s : Segment) (u : ProgramUnit) → AreBuiltOf ss us → IsBuiltOf s u → AreBuiltOf (ss ++ s ∷ []) (us ++ u ∷ [])
one_more [] [] s u h k = (k, tt)
one_more (t ∷ ts) (v ∷ vs) s u h k = (h.0, one_more ts vs s u h.1 k)
one_more [] (v ∷ vs) s u h k = absurd h
one_more (t ∷ ts) [] s u h k = absurd h

pub built_more : (all : Statements) (whole : List Segment) (built next : List ProgramUnit) (left more : List ReadUnit) (r : ReadUnit) (u : ProgramUnit) → BuiltSoFar all whole built left → left ≡ r ∷ more → next ≡ built ++ u ∷ []
    → ((ending : Statements) (s : Segment) → IsReadUnit ending s r → IsBuiltOf s u) → BuiltSoFar all whole next more
built_more all whole built next left more r u b l n builds = go b.rest (subst (λ (us : List ReadUnit). AreReadUnits all b.rest us) l b.read) b.both
  where
    go : (rest : List Segment) → AreReadUnits all rest (r ∷ more) → b.done ++ rest ≡ whole → BuiltSoFar all whole next more
    go [] h w = absurd h
    go (s ∷ []) h w = record {
      done = b.done ++ s ∷ [];
      rest = [];
      are = subst (λ (us : List ProgramUnit). AreBuiltOf (b.done ++ s ∷ []) us) (sym n) (one_more b.done built s u b.are (builds all s h.0));
      read = h.1;
      both = append_assoc b.done (s ∷ []) [] ∙ w;
    }
    go (s ∷ t ∷ ss) h w = record {
      done = b.done ++ s ∷ [];
      rest = t ∷ ss;
      are = subst (λ (us : List ProgramUnit). AreBuiltOf (b.done ++ s ∷ []) us) (sym n) (one_more b.done built s u b.are (builds (before_another all) s h.0));
      read = h.1;
      both = append_assoc b.done (s ∷ []) (t ∷ ss) ∙ w;
    }

-- none is left
pub all_built : (all : Statements) (whole : List Segment) (built : List ProgramUnit) (left : List ReadUnit) → BuiltSoFar all whole built left → left ≡ [] → AreBuiltOf whole built
all_built all whole built left b l = go b.rest (subst (λ (us : List ReadUnit). AreReadUnits all b.rest us) l b.read) b.both
  where
    go : (rest : List Segment) → AreReadUnits all rest [] → b.done ++ rest ≡ whole → AreBuiltOf whole built
    go [] h w = subst (λ (ss : List Segment). AreBuiltOf ss built) (sym (append-nil b.done) ∙ w) b.are
    go (s ∷ []) h w = absurd h
    go (s ∷ t ∷ ss) h w = absurd h
