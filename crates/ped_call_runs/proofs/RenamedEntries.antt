-- Variables of a subroutine that get new names: what stands for them, and their pairs in the trace.
use Rattle.std.proofs.Common.{◌≡◌, ℕ, List, [], ◌∷◌, ◌++◌, Bool, true, false, ◌||◌, Some, None, is_some, refl, sym, ap, ◌∙◌, subst, ◌⊎◌, inl, inr, if◌then◌else◌}
use Rattle.std.proofs.lemmas.Bool.{both_ways}
use Rattle.ped_base.specs.Lists.{is_same_text, is_among}
use Rattle.ped_base.proofs.NameEquality.{same_is, same_itself}
use Rattle.ped_tree.specs.Tree.{ExprTree, Var}
use Rattle.ped_steps.specs.ped_symbols.specs.Entries.{entry_of, with_entry}
use Rattle.ped_steps.specs.ped_symbols.specs.Kinds.{kind_in}
use Rattle.ped_calls.specs.ped_units.specs.Units.{ProgramUnit}
use Rattle.ped_calls.specs.ped_units.specs.Refusals.{for_names}
use Rattle.ped_calls.specs.ped_units.specs.Expanding.{Given, free_name, with_local, Renamed, with_renamed, renamed}
use Rattle.ped_call_runs.specs.UnitRuns.{own}
use Rattle.ped_call_runs.proofs.GivenMore.{GivesMore, gives_same, gives_then, gives_local, renamed_give}
use Rattle.ped_call_runs.proofs.SwappedNames.{swapped, paired, AreApart}
use Rattle.ped_call_runs.proofs.Traces.{locals_traced}
use Rattle.ped_call_runs.proofs.OwnNames.{firsts}
use Rattle.ped_call_runs.proofs.MeaningEntries.{kept_entry, new_entry, other_entry}

-- a pair is in the list
abbrev pub HasPair : List ℕ → List ℕ → List (List ℕ × List ℕ) → Type 0
HasPair x y [] = ⊥
HasPair x y (p ∷ ps) = ((x ≡ p.0) × (y ≡ p.1)) ⊎ HasPair x y ps

pub pair_among : (x y : List ℕ) (ps : List (List ℕ × List ℕ)) → HasPair x y ps → is_among x (paired ps) ≡ true
pair_among x y [] h = absurd h
pair_among x y (p ∷ ps) (inl h) = ap (λ (z : List ℕ). is_same_text z p.0 || (is_same_text z p.1 || is_among z (paired ps))) h.0 ∙ ap (λ (t : Bool). t || (is_same_text p.0 p.1 || is_among p.0 (paired ps))) (same_itself p.0)
pair_among x y (p ∷ ps) (inr h) = ap (λ (t : Bool). is_same_text x p.0 || (is_same_text x p.1 || t)) (pair_among x y ps h) ∙ ends (is_same_text x p.0) (is_same_text x p.1)
  where
    ends : (a b : Bool) → a || (b || true) ≡ true
    ends true b = refl
    ends false true = refl
    ends false false = refl

pub pair_front : (x y : List ℕ) (ps qs : List (List ℕ × List ℕ)) → HasPair x y ps → HasPair x y (ps ++ qs)
pair_front x y [] qs h = absurd h
pair_front x y (p ∷ ps) qs (inl h) = inl h
pair_front x y (p ∷ ps) qs (inr h) = inr (pair_front x y ps qs h)

pub pair_behind : (x y : List ℕ) (ps qs : List (List ℕ × List ℕ)) → HasPair x y qs → HasPair x y (ps ++ qs)
pair_behind x y [] qs h = h
pair_behind x y (p ∷ ps) qs h = inr (pair_behind x y ps qs h)

-- the first name of a pair is among the first names
pub pair_first : (x y : List ℕ) (ps : List (List ℕ × List ℕ)) → HasPair x y ps → is_among x (firsts ps) ≡ true
pair_first x y [] h = absurd h
pair_first x y (p ∷ ps) (inl h) = ap (λ (t : Bool). t || is_among x (firsts ps)) (ap (λ (z : List ℕ). is_same_text x z) (sym h.0) ∙ same_itself x)
pair_first x y (p ∷ ps) (inr h) = ap (λ (t : Bool). is_same_text x p.0 || t) (pair_first x y ps h) ∙ ends (is_same_text x p.0)
  where
    ends : (a : Bool) → a || true ≡ true
    ends true = refl
    ends false = refl

-- the first name of a pair goes to the second
pub pair_swapped : (x y : List ℕ) (ps : List (List ℕ × List ℕ)) → AreApart ps → HasPair x y ps → swapped ps x ≡ y
pair_swapped x y [] apart h = absurd h
pair_swapped x y (p ∷ ps) apart (inl h) =
    ap (λ (t : Bool). if t then p.1 else (if is_same_text x p.1 then p.0 else swapped ps x)) (ap (λ (z : List ℕ). is_same_text z p.0) h.0 ∙ same_itself p.0) ∙ sym h.1
pair_swapped x y (p ∷ ps) apart (inr h) =
    ap (λ (t : Bool). if t then p.1 else (if is_same_text x p.1 then p.0 else swapped ps x)) (differs p.0 apart.0)
    ∙ ap (λ (t : Bool). if t then p.0 else swapped ps x) (differs p.1 apart.1)
    ∙ pair_swapped x y ps apart.2 h
  where
    differs : (z : List ℕ) → is_among z (paired ps) ≡ false → is_same_text x z ≡ false
    differs z outside = go (is_same_text x z) refl
      where
        go : (t : Bool) → is_same_text x z ≡ t → t ≡ false
        go false e = refl
        go true e = absurd (both_ways (is_among x (paired ps)) (ap (λ (a : List ℕ). is_among a (paired ps)) (same_is x z e) ∙ outside) (pair_among x y ps h))

-- what stands for a name stays
pub renamed_stays : (u : ProgramUnit) (xs : List (List ℕ)) (r : Renamed) (y : List ℕ) (e : ExprTree) → entry_of r.meanings y ≡ Some e → entry_of (renamed u xs r).meanings y ≡ Some e
renamed_stays u [] r y e h = h
renamed_stays u (x ∷ xs) r y e h = renamed_stays u xs (if is_some (entry_of r.meanings x) then r else with_renamed x (kind_in (for_names u) x) r) y e (go (is_some (entry_of r.meanings x)))
  where
    go : (t : Bool) → entry_of (if t then r else with_renamed x (kind_in (for_names u) x) r).meanings y ≡ Some e
    go true = h
    go false = kept_entry r.meanings x (Var (free_name r.given.taken)) y e h

-- a name for which nothing stood has the next new name at its time, and is paired with it
pub record IsRenamed (n : ℕ) (u : ProgramUnit) (start : Given) (y : List ℕ) (pairs : List (List ℕ × List ℕ)) (r : Renamed) : Type 0 where
  pub at : Given
  pub stands : entry_of r.meanings y ≡ Some (Var (free_name at.taken))
  pub pair : HasPair (own n y) (free_name at.taken) pairs
  pub before : GivesMore start at
  pub later : GivesMore (with_local at (kind_in (for_names u) y)) r.given

pub renamed_new : (n : ℕ) (u : ProgramUnit) (xs : List (List ℕ)) (r : Renamed) (y : List ℕ) → entry_of r.meanings y ≡ None → is_among y xs ≡ true → IsRenamed n u r.given y (locals_traced n u xs r) (renamed u xs r)
renamed_new n u [] r y h k = absurd cc
renamed_new n u (x ∷ xs) r y h k = by_name (is_same_text y x) refl (λ s l. renamed_new n u xs s y l)
  where
    by_name : (t : Bool) → is_same_text y x ≡ t → ((s : Renamed) → entry_of s.meanings y ≡ None → is_among y xs ≡ true → IsRenamed n u s.given y (locals_traced n u xs s) (renamed u xs s)) → IsRenamed n u r.given y (locals_traced n u (x ∷ xs) r) (renamed u (x ∷ xs) r)
    by_name true e more =
        let same : x ≡ y = sym (same_is y x e) in
        let absent : is_some (entry_of r.meanings x) ≡ false = ap (λ (z : List ℕ). is_some (entry_of r.meanings z)) same ∙ ap is_some h in
        subst (λ (t : Bool). IsRenamed n u r.given y (if t then locals_traced n u xs r else (own n x, free_name r.given.taken) ∷ locals_traced n u xs (with_renamed x (kind_in (for_names u) x) r)) (renamed u xs (if t then r else with_renamed x (kind_in (for_names u) x) r))) (sym absent)
        (record {
          at = r.given;
          stands = renamed_stays u xs (with_renamed x (kind_in (for_names u) x) r) y (Var (free_name r.given.taken))
              (subst (λ (z : List ℕ). entry_of (with_entry r.meanings z (Var (free_name r.given.taken))) y ≡ Some (Var (free_name r.given.taken))) (sym same) (new_entry r.meanings y (Var (free_name r.given.taken)) h));
          pair = inl (ap (own n) (sym same), refl);
          before = gives_same r.given;
          later = subst (λ (z : List ℕ). GivesMore (with_local r.given (kind_in (for_names u) z)) (renamed u xs (with_renamed x (kind_in (for_names u) x) r)).given) same (renamed_give u xs (with_renamed x (kind_in (for_names u) x) r));
        })
    by_name false e more = by_entry (is_some (entry_of r.meanings x))
      where
        here : is_among y xs ≡ true
        here = sym (ap (λ (t : Bool). t || is_among y xs) e) ∙ k

        by_entry : (t : Bool) → IsRenamed n u r.given y (if t then locals_traced n u xs r else (own n x, free_name r.given.taken) ∷ locals_traced n u xs (with_renamed x (kind_in (for_names u) x) r)) (renamed u xs (if t then r else with_renamed x (kind_in (for_names u) x) r))
        by_entry true = more r h here
        by_entry false =
            let found = more (with_renamed x (kind_in (for_names u) x) r) (other_entry r.meanings x (Var (free_name r.given.taken)) y e h) here in
            record { at = found.at; stands = found.stands; pair = inr found.pair; before = gives_then r.given (with_local r.given (kind_in (for_names u) x)) found.at (gives_local r.given (kind_in (for_names u) x)) found.before; later = found.later }
