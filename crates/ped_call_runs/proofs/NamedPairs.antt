-- The pairs of a trace whose new names are names: none of these is taken at its time, nor one of a CALL's own.
use Rattle.std.proofs.Common.{◌≡◌, ℕ, List, [], ◌∷◌, ◌++◌, length, Bool, true, false, ◌||◌, refl, sym, ap, ◌∙◌, subst, inl, inr, if◌then◌else◌}
use Rattle.std.proofs.lemmas.Bool.{both_ways}
use Rattle.ped_base.specs.Lists.{is_same_text, is_among}
use Rattle.ped_tree.proofs.NameLaws.Collected.{among_append}
use Rattle.ped_tree.specs.Grammar.Words.{is_name}
use Rattle.ped_call_runs.proofs.FreeWritten.{free_named}
use Rattle.ped_call_runs.proofs.OwnNames.{firsts, IsNoOwn, OwnIn, NoneTwice}
use Rattle.ped_call_runs.proofs.RenamedEntries.{HasPair}
use Rattle.ped_call_runs.proofs.TraceNames.{AreNew, AreNext, no_own_free}

abbrev pub named_pairs : List (List ℕ × List ℕ) → List (List ℕ × List ℕ)
named_pairs [] = []
named_pairs (p ∷ ps) = if is_name p.1 then p ∷ named_pairs ps else named_pairs ps

pub in_named : (x y : List ℕ) (ps : List (List ℕ × List ℕ)) → is_name y ≡ true → HasPair x y ps → HasPair x y (named_pairs ps)
in_named x y [] is h = absurd h
in_named x y (p ∷ ps) is (inl h) = subst (λ (t : Bool). HasPair x y (if t then p ∷ named_pairs ps else named_pairs ps)) (sym (ap is_name (sym h.1) ∙ is)) (inl h)
in_named x y (p ∷ ps) is (inr h) = go (is_name p.1) (in_named x y ps is h)
  where
    go : (t : Bool) → HasPair x y (named_pairs ps) → HasPair x y (if t then p ∷ named_pairs ps else named_pairs ps)
    go true more = inr more
    go false more = more

-- their first names are some of all
pub named_first : (y : List ℕ) (ps : List (List ℕ × List ℕ)) → is_among y (firsts (named_pairs ps)) ≡ true → is_among y (firsts ps) ≡ true
named_first y [] h = h
named_first y (p ∷ ps) h = go (is_name p.1) (is_same_text y p.0) h (named_first y ps)
  where
    go : (t u : Bool) → is_among y (firsts (if t then p ∷ named_pairs ps else named_pairs ps)) ≡ true → (is_among y (firsts (named_pairs ps)) ≡ true → is_among y (firsts ps) ≡ true) → is_same_text y p.0 || is_among y (firsts ps) ≡ true
    go true u k more = first (is_same_text y p.0) k more
      where
        first : (u : Bool) → u || is_among y (firsts (named_pairs ps)) ≡ true → (is_among y (firsts (named_pairs ps)) ≡ true → is_among y (firsts ps) ≡ true) → u || is_among y (firsts ps) ≡ true
        first true l more = refl
        first false l more = more l
    go false u k more = either (is_same_text y p.0) (more k)
      where
        either : (u : Bool) → is_among y (firsts ps) ≡ true → u || is_among y (firsts ps) ≡ true
        either true l = refl
        either false l = l

pub named_outside : (y : List ℕ) (ps : List (List ℕ × List ℕ)) → is_among y (firsts ps) ≡ false → is_among y (firsts (named_pairs ps)) ≡ false
named_outside y ps h = go (is_among y (firsts (named_pairs ps))) refl
  where
    go : (t : Bool) → is_among y (firsts (named_pairs ps)) ≡ t → t ≡ false
    go false e = refl
    go true e = absurd (both_ways (is_among y (firsts ps)) h (named_first y ps e))

pub named_own : (lo hi : ℕ) (ps : List (List ℕ × List ℕ)) → OwnIn lo hi ps → OwnIn lo hi (named_pairs ps)
named_own lo hi [] h = tt
named_own lo hi (p ∷ ps) h = go (is_name p.1) (named_own lo hi ps h.1)
  where
    go : (t : Bool) → OwnIn lo hi (named_pairs ps) → OwnIn lo hi (if t then p ∷ named_pairs ps else named_pairs ps)
    go true more = (h.0, more)
    go false more = more

pub named_once : (ps : List (List ℕ × List ℕ)) → NoneTwice ps → NoneTwice (named_pairs ps)
named_once [] h = tt
named_once (p ∷ ps) h = go (is_name p.1) (named_once ps h.1)
  where
    go : (t : Bool) → NoneTwice (named_pairs ps) → NoneTwice (if t then p ∷ named_pairs ps else named_pairs ps)
    go true more = (named_outside p.0 ps h.0, more)
    go false more = more

-- next new names that are names are new, where all names that count as taken are
pub named_new : (taken seen : List (List ℕ)) (ps : List (List ℕ × List ℕ)) → ((y : List ℕ) → is_among y seen ≡ true → is_among y taken ≡ true) → AreNext taken ps → AreNew seen (named_pairs ps)
named_new taken seen [] all h = tt
named_new taken seen (p ∷ ps) all h =
    go (is_name p.1) refl (named_new (taken ++ p.1 ∷ []) seen ps (λ y m. in_front y taken (p.1 ∷ []) (all y m)) h.1)
    (named_new (taken ++ p.1 ∷ []) (seen ++ p.1 ∷ []) ps
    (λ y m. among_append y taken (p.1 ∷ []) ∙ both (is_among y seen) (is_among y taken) (is_among y (p.1 ∷ [])) (all y) (sym (among_append y seen (p.1 ∷ [])) ∙ m)) h.1)
  where
    both : (a b c : Bool) → (a ≡ true → b ≡ true) → a || c ≡ true → b || c ≡ true
    both true b c f k = ap (λ (t : Bool). t || c) (f refl)
    both false true c f k = refl
    both false false c f k = k

    in_front : (y : List ℕ) (xs ys : List (List ℕ)) → is_among y xs ≡ true → is_among y (xs ++ ys) ≡ true
    in_front y xs ys k = among_append y xs ys ∙ ap (λ (t : Bool). t || is_among y ys) k

    free : is_name p.1 ≡ true → (t : Bool) → is_among p.1 seen ≡ t → t ≡ false
    free is false e = refl
    free is true e = absurd (both_ways (is_among p.1 taken) (ap (λ (y : List ℕ). is_among y taken) h.0 ∙ free_named taken (ap is_name (sym h.0) ∙ is)) (all p.1 e))

    go : (t : Bool) → is_name p.1 ≡ t → AreNew seen (named_pairs ps) → AreNew (seen ++ p.1 ∷ []) (named_pairs ps) → AreNew seen (if t then p ∷ named_pairs ps else named_pairs ps)
    go false e more others = more
    go true e more others = (free e (is_among p.1 seen) refl, subst IsNoOwn (sym h.0) (no_own_free (length taken) taken 1), others)
