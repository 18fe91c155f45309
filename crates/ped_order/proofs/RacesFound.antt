-- The first race of accesses that go on.
use Rattle.std.proofs.Common.{◌≡◌, List, [], ◌∷◌, ◌++◌, false, Option, Some, None, refl, ap, subst}
use Rattle.std.specs.Prelude.{is_some}
use Rattle.std.specs.List.{All, AllByRecursion}
use Rattle.std.proofs.lemmas.List.Elements.{All-from_recursion, recursion_from_All}
use Rattle.ped_store.specs.Races.{Access, race, HasNoRace}
use Rattle.ped_order.specs.declared.sightings.Sighting.{Sighting}
use Rattle.ped_order.specs.declared.tables.Table.{Table}
use Rattle.ped_order.specs.declared.watches.FoundRace.{FoundRace}
use Rattle.ped_order.specs.Sightings.{first_sighting}
use Rattle.ped_order.specs.FirstRaces.{IsRaceAt}
use Rattle.ped_order.specs.Tables.{Remembers}
use Rattle.ped_order.specs.Saw.{SawWith}
use Rattle.ped_order.proofs.Searches.{one_found}

one_behind : (P : Access → Type 0) (xs : List Access) (x : Access) → AllByRecursion P xs → P x → AllByRecursion P (xs ++ x ∷ [])
one_behind P [] x h p = (p, tt)
one_behind P (y ∷ ys) x h p = (h.0, one_behind P ys x h.1 p)

-- without a race before it, an access that races with none leaves none
pub no_race_more : (xs : List Access) (x : Access) → HasNoRace xs → All (λ a. race a x ≡ false) xs → HasNoRace (xs ++ x ∷ [])
no_race_more [] x h k = (All-from_recursion (λ b. race x b ≡ false) [] tt, tt)
no_race_more (a ∷ xs) x h k =
    let r = recursion_from_All (λ a. race a x ≡ false) (a ∷ xs) k in (
      All-from_recursion (λ b. race a b ≡ false) (xs ++ x ∷ []) (one_behind (λ b. race a b ≡ false) xs x (recursion_from_All (λ b. race a b ≡ false) xs h.0) r.0),
      no_race_more xs x h.1 (All-from_recursion (λ a. race a x ≡ false) xs r.1),
    )

-- without a race before it, an access that races with an earlier one makes the first race
pub first_race : (xs : List Access) (x : Access) (s : Sighting) → HasNoRace xs → first_sighting (λ a. race a x) 0 xs ≡ Some s → IsRaceAt (xs ++ x ∷ []) x.cell s.statement x.place.statement
first_race xs x s h e =
    let f = one_found (λ a. race a x) 0 xs s e in
    record {
      first = f.found;
      second = x;
      race = record {
        before = f.before;
        between = f.behind;
        behind = [];
        order = ap (λ ys. ys ++ x ∷ []) f.order;
        none = subst HasNoRace f.order h;
        earliest = f.earliest;
        races = f.holds;
      };
      on = refl;
      by = f.statement;
      with = refl;
    }

-- a watch that has found no race remembers what it has seen
pub none_so_far : (found : Option FoundRace) (table : Table) (seen : List Access) → is_some found ≡ false → SawWith found table seen → HasNoRace seen × Remembers table seen
none_so_far None table seen e h = h
none_so_far (Some r) table seen e h = absurd cc

-- and has still found none
pub none_yet : (found : Option FoundRace) (table : Table) (seen : List Access) → is_some found ≡ false → HasNoRace seen × Remembers table seen → SawWith found table seen
none_yet None table seen e h = h
none_yet (Some r) table seen e h = absurd cc
