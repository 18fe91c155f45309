-- The numbers of dummy arguments, as tables of bases and places keep them.
use Rattle.std.proofs.Common.{◌≡◌, ℕ, zero, suc, ◌+◌, ◌<◌, List, [], ◌∷◌, ◌++◌, Option, Some, None, length, map, take, get_or, refl, sym, ap, subst, ◌∙◌, arith}
use Rattle.std.specs.List.{flat_map}
use Rattle.std.proofs.lemmas.List.{length-append, map_push}
use Rattle.ped_units.specs.Units.{ProgramUnit}
use Rattle.ped_links.specs.Numbers.{place_among, ArePlaces}
use Rattle.ped_links.specs.Arguments.{formal_count, formals_at, number_behind, formal_number, bases_from, AllPlaces, PlaceTable, AreFormals}
use Rattle.ped_links.specs.declared.formals.Formals.{Formals}
use Rattle.ped_links.proofs.FormalNumbers.{numbered_there}

-- the dummy arguments of a unit
abbrev own_formals : ProgramUnit → List (List ℕ)
own_formals u = u.formals

-- what a table holds
abbrev pub entries_of : PlaceTable → List (List ℕ × ℕ)
entries_of t = t.entries

-- one unit more has so many more
count_more : (us : List ProgramUnit) (u : ProgramUnit) → formal_count (us ++ u ∷ []) ≡ formal_count us + length u.formals
count_more [] u = let long = length-append u.formals [] in omega (arith, long)
count_more (v ∷ vs) u =
    let rest = count_more vs u in
    let all = length-append v.formals (flat_map own_formals (vs ++ u ∷ [])) in
    let front = length-append v.formals (flat_map own_formals vs) in
    omega (arith, rest, all, front)

moved : (n a b : ℕ) → n + a + b ≡ n + (a + b)
moved n a b = omega arith

-- the base of one unit more
bases_more : (n : ℕ) (us : List ProgramUnit) (u : ProgramUnit) → bases_from n (us ++ u ∷ []) ≡ bases_from n us ++ (n + formal_count us) ∷ []
bases_more n [] u = let same : n ≡ n + 0 = omega arith in ap (λ (m : ℕ). m ∷ []) same
bases_more n (v ∷ vs) u =
    let same : n + length v.formals + formal_count vs ≡ n + formal_count (v ∷ vs) = moved n (length v.formals) (formal_count vs) ∙ ap (λ (m : ℕ). n + m) (sym (length-append v.formals (flat_map own_formals vs))) in
    ap (λ (bs : List ℕ). n ∷ bs) (bases_more (n + length v.formals) vs u) ∙ ap (λ (m : ℕ). n ∷ (bases_from (n + length v.formals) vs ++ m ∷ [])) same

-- the places of one unit more
places_more : (us : List ProgramUnit) (u : ProgramUnit) (ps : List (List (List ℕ × ℕ))) (es : List (List ℕ × ℕ)) → AllPlaces us ps → ArePlaces u.formals es → AllPlaces (us ++ u ∷ []) (ps ++ es ∷ [])
places_more [] u [] es a h = (h, tt)
places_more [] u (p ∷ ps) es a h = absurd a
places_more (v ∷ vs) u [] es a h = absurd a
places_more (v ∷ vs) u (p ∷ ps) es a h = (a.0, places_more vs u ps es a.1 h)

-- the numbers of one unit more
pub formals_more : (us : List ProgramUnit) (u : ProgramUnit) (old new : Formals) (t : PlaceTable) → AreFormals us old → ArePlaces u.formals t.entries → new.places.items ≡ old.places.items ++ t ∷ [] → new.bases.items ≡ old.bases.items ++ old.count ∷ []
    → new.count ≡ old.count + length u.formals → AreFormals (us ++ u ∷ []) new
formals_more us u old new t h p places bases count =
    let same : old.count ≡ 0 + formal_count us = omega (arith, h.count) in
    let more = count_more us u in
    record {
      bases = bases ∙ ap (λ (bs : List ℕ). bs ++ old.count ∷ []) h.bases ∙ ap (λ (n : ℕ). bases_from 0 us ++ n ∷ []) same ∙ sym (bases_more 0 us u);
      places = subst (AllPlaces (us ++ u ∷ [])) (sym (ap (map entries_of) places ∙ map_push entries_of old.places.items t)) (places_more us u (map entries_of old.places.items) t.entries h.places p);
      count = omega (arith, count, h.count, more);
    }

-- none of no units
pub no_formals : (f : Formals) → f.bases.items ≡ [] → f.places.items ≡ [] → f.count ≡ 0 → AreFormals [] f
no_formals f b p n = record { bases = b; places = subst (λ (ts : List PlaceTable). AllPlaces [] (map entries_of ts)) (sym p) tt; count = n }

-- a base for each unit
pub bases_long : (n : ℕ) (us : List ProgramUnit) → length (bases_from n us) ≡ length us
bases_long n [] = refl
bases_long n (u ∷ us) = ap suc (bases_long (n + length u.formals) us)

-- a table for each unit
pub places_long : (us : List ProgramUnit) (ts : List PlaceTable) → AllPlaces us (map entries_of ts) → length ts ≡ length us
places_long [] [] a = refl
places_long [] (t ∷ ts) a = absurd a
places_long (u ∷ us) [] a = absurd a
places_long (u ∷ us) (t ∷ ts) a = ap suc (places_long us ts a.1)

-- the base of the unit with a number
base_there : (n : ℕ) (us : List ProgramUnit) (k d : ℕ) → k < length us → get_or (bases_from n us) k d ≡ n + formal_count (take k us)
base_there n [] k d h = absurd (omega (arith, h))
base_there n (u ∷ us) zero d h = let same : n ≡ n + 0 = omega arith in same
base_there n (u ∷ us) (suc k) d h =
    base_there (n + length u.formals) us k d (omega (arith, h)) ∙ moved n (length u.formals) (formal_count (take k us)) ∙ ap (λ (m : ℕ). n + m) (sym (length-append u.formals (flat_map own_formals (take k us))))

pub base_is : (us : List ProgramUnit) (f : Formals) (k d : ℕ) → AreFormals us f → k < length us → get_or f.bases.items k d ≡ formal_count (take k us)
base_is us f k d h below =
    let there = base_there 0 us k d below in
    let same : 0 + formal_count (take k us) ≡ formal_count (take k us) = omega arith in
    ap (λ (bs : List ℕ). get_or bs k d) h.bases ∙ there ∙ same

-- the places of the unit with a number
pub places_there : (us : List ProgramUnit) (ts : List PlaceTable) (k : ℕ) (t : PlaceTable) → AllPlaces us (map entries_of ts) → k < length us → t ≡ get_or ts k t → ArePlaces (formals_at us k) t.entries
places_there [] ts k t a h e = absurd (omega (arith, h))
places_there (u ∷ us) [] k t a h e = absurd a
places_there (u ∷ us) (s ∷ ss) zero t a h e = subst (λ (r : PlaceTable). ArePlaces u.formals r.entries) (sym e) a.0
places_there (u ∷ us) (s ∷ ss) (suc k) t a h e = places_there us ss k t a.1 (omega (arith, h)) e

-- a number by its base and its place
number_by : (us : List ProgramUnit) (k base p : ℕ) (x : List ℕ) (o : Option ℕ) → o ≡ place_among (formals_at us k) 0 x → o ≡ Some p → base ≡ formal_count (take k us) → Some (base + p) ≡ formal_number us k x
number_by us k base p x o e is b = ap (λ (n : ℕ). number_behind n (Some p)) b ∙ ap (number_behind (formal_count (take k us))) (sym is ∙ e)

pub no_number_by : (us : List ProgramUnit) (k : ℕ) (x : List ℕ) (o : Option ℕ) → o ≡ place_among (formals_at us k) 0 x → o ≡ None → None ≡ formal_number us k x
no_number_by us k x o e is = ap (number_behind (formal_count (take k us))) (sym is ∙ e)

-- numbers are below the count
number_low : (us : List ProgramUnit) (k n : ℕ) (x : List ℕ) (f : Formals) → AreFormals us f → Some n ≡ formal_number us k x → n < f.count
number_low us k n x f h e = let there = (numbered_there us k x n (sym e)).below in omega (arith, there, h.count)

-- the number of a dummy argument, and that it is low
pub number_there : (us : List ProgramUnit) (k base p : ℕ) (x : List ℕ) (f : Formals) (o : Option ℕ) → AreFormals us f → o ≡ place_among (formals_at us k) 0 x → o ≡ Some p → base ≡ formal_count (take k us) → (base + p < f.count) × (Some (base + p) ≡ formal_number us k x)
number_there us k base p x f o h e is b =
    let number = number_by us k base p x o e is b in
    (number_low us k (base + p) x f h number, number)
