-- Names that are declared or listed again, by what has been seen before.
use Rattle.std.proofs.Common.{◌≡◌, ℕ, List, [], ◌∷◌, ◌++◌, map, filter, Bool, true, false, ◌&&◌, eqb, eqb-true, refl, ap, sym, ◌∙◌, if◌then◌else◌, append-nil, arith}
use Rattle.std.specs.Prelude.{◌||◌}
use Rattle.std.proofs.lemmas.Grind.{flat_map-append}
use Rattle.std.proofs.lemmas.List.Elements.{filter-append}
use Rattle.std.proofs.lemmas.List.{map-append}
use Rattle.ped_base.specs.Lists.{is_same_text, is_among}
use Rattle.ped_base.proofs.NameEquality.{same_flip}
use Rattle.ped_limits.proofs.SameNames.{among_append}
use Rattle.ped_symbols.specs.declared.uses.Role.{Role}
use Rattle.ped_symbols.specs.declared.uses.Use.{Use}
use Rattle.ped_symbols.specs.Declarations.{names_with, ranks_in, rank_by}
use Rattle.ped_symbols.specs.NameRefusals.{has_twice, is_again, declares_again}

-- one of these names is among others (plain words)
abbrev pub has_one_of : List (List ℕ) → List (List ℕ) → Bool
has_one_of names [] = false
has_one_of names (x ∷ xs) = is_among x names || has_one_of names xs

-- a use more adds its name where its role is asked for
pub names_more : (test : Role → Bool) (before : List Use) (u : Use) → names_with test (before ++ u ∷ []) ≡ names_with test before ++ (if test u.role then u.name ∷ [] else [])
names_more test before u =
    ap (map (λ u. u.name)) (filter-append (λ u. test u.role) before (u ∷ []))
    ∙ map-append (λ u. u.name) (filter (λ u. test u.role) before) (filter (λ u. test u.role) (u ∷ []))
    ∙ ap (λ us. names_with test before ++ us) (one (test u.role))
  where
    one : (r : Bool) → map (λ u. u.name) (if r then u ∷ [] else []) ≡ (if r then u.name ∷ [] else [])
    one true = refl
    one false = refl

-- a set that got a name where its role is asked for says the same as uses with that use
pub same_role : (test : Role → Bool) (before : List Use) (u : Use) (b : Bool) → b ≡ test u.role → (x : List ℕ)
    → is_among x (names_with test before ++ (if b then u.name ∷ [] else [])) ≡ is_among x (names_with test (before ++ u ∷ []))
same_role test before u b e x = ap (λ (r : Bool). is_among x (names_with test before ++ (if r then u.name ∷ [] else []))) e ∙ ap (is_among x) (sym (names_more test before u))

-- a use more adds the dimensions that it gives
pub ranks_more : (before : List Use) (u : Use) → ranks_in (before ++ u ∷ []) ≡ ranks_in before ++ rank_by u.name u.role
ranks_more before u = flat_map-append (λ u. rank_by u.name u.role) before (u ∷ []) ∙ ap (λ rest. ranks_in before ++ rest) (append-nil (rank_by u.name u.role))

pub or_assoc : (a b c : Bool) → ((a || b) || c) ≡ (a || (b || c))
or_assoc true b c = refl
or_assoc false b c = refl

-- what is declared again, one use further
pub again_more : (again has total : Bool) (a b : List Use) (u : Use) (rest : List Use) → (again || declares_again a (u ∷ rest)) ≡ total → b ≡ a ++ u ∷ [] → has ≡ is_again a u
    → ((again || has) || declares_again b rest) ≡ total
again_more again has total a b u rest h e k =
    or_assoc again has (declares_again b rest) ∙ (λ i. again || (k i || declares_again (e i) rest)) ∙ h

-- none is among no names
pub none_of : (xs : List (List ℕ)) → has_one_of [] xs ≡ false
none_of [] = refl
none_of (x ∷ xs) = none_of xs

mix : (a b c d : Bool) → ((a || (b || false)) || (c || d)) ≡ ((a || c) || (b || d))
mix true b c d = refl
mix false true true d = refl
mix false true false d = refl
mix false false c d = refl

one_of_more : (seen : List (List ℕ)) (x : List ℕ) (xs : List (List ℕ)) → has_one_of (seen ++ x ∷ []) xs ≡ (has_one_of seen xs || is_among x xs)
one_of_more seen x [] = refl
one_of_more seen x (y ∷ ys) =
    (λ i. among_append y seen (x ∷ []) i || one_of_more seen x ys i)
    ∙ mix (is_among y seen) (is_same_text y x) (has_one_of seen ys) (is_among x ys)
    ∙ ap (λ r. (is_among y seen || has_one_of seen ys) || (r || is_among x ys)) (same_flip y x)

-- what stands twice, one name further
pub twice_more : (seen new : List (List ℕ)) (x : List ℕ) (xs : List (List ℕ)) (total : Bool) → is_among x seen ≡ false → new ≡ seen ++ x ∷ []
    → (has_one_of seen (x ∷ xs) || has_twice (x ∷ xs)) ≡ total → (has_one_of new xs || has_twice xs) ≡ total
twice_more seen new x xs total absent e h =
    ap (λ names. has_one_of names xs || has_twice xs) e
    ∙ ap (λ r. r || has_twice xs) (one_of_more seen x xs)
    ∙ or_assoc (has_one_of seen xs) (is_among x xs) (has_twice xs)
    ∙ ap (λ r. (r || has_one_of seen xs) || (is_among x xs || has_twice xs)) (sym absent)
    ∙ h
