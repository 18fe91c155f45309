-- The names in statements, as they are collected one behind the other.
use Rattle.std.proofs.Common.{◌≡◌, ℕ, List, [], ◌∷◌, ◌++◌, map, Bool, true, false, refl, ap, ◌∙◌, sym, append_assoc, append-nil, if◌then◌else◌}
use Rattle.std.specs.Prelude.{◌||◌}
use Rattle.std.specs.List.{fold}
use Rattle.ped_base.specs.Lists.{is_same_text, is_among}
use Rattle.ped_tree.specs.Tree.{ExprTrees, no_exprs, more_exprs, Value, Print}
use Rattle.ped_tree.specs.NamesIn.{expr_names, exprs_names, stmt_names, first_occurrences}
use Rattle.ped_tree.specs.Accesses.{listed}
use Rattle.ped_tree.specs.Names.Collecting.{with_name, with_names}
use Rattle.ped_limits.proofs.SameNames.{HaveSame, among_append}

-- the names in the arguments of a CALL
pub names_of_arguments : (es : ExprTrees) → exprs_names es ≡ stmt_names (Print (map Value (listed es)))
names_of_arguments no_exprs = refl
names_of_arguments (more_exprs e rest) = ap (λ (names : List (List ℕ)). expr_names e ++ names) (names_of_arguments rest)

or_back : (a b : Bool) → (a || (b || false)) ≡ (b || a)
or_back true true = refl
or_back true false = refl
or_back false true = refl
or_back false false = refl

-- one name more at either end is the same
same_more : (a b : List (List ℕ)) (x : List ℕ) → HaveSame a b → HaveSame (a ++ x ∷ []) (x ∷ b)
same_more a b x h y = among_append y a (x ∷ []) ∙ or_back (is_among y a) (is_same_text y x) ∙ ap (λ (t : Bool). is_same_text y x || t) (h y)

pick : (a b : List (List ℕ)) (x : List ℕ) (xs : List (List ℕ)) (r : Bool)
    → (fold with_name a xs ≡ a ++ first_occurrences b xs)
    → (fold with_name (a ++ x ∷ []) xs ≡ (a ++ x ∷ []) ++ first_occurrences (x ∷ b) xs)
    → fold with_name (if r then a else a ++ x ∷ []) xs ≡ a ++ (if r then first_occurrences b xs else x ∷ first_occurrences (x ∷ b) xs)
pick a b x xs true h k = h
pick a b x xs false h k = k ∙ append_assoc a (x ∷ []) (first_occurrences (x ∷ b) xs)

collected_from : (a b : List (List ℕ)) → HaveSame a b → (xs : List (List ℕ)) → fold with_name a xs ≡ a ++ first_occurrences b xs
collected_from a b h [] = sym (append-nil a)
collected_from a b h (x ∷ xs) =
    pick a b x xs (is_among x a) (collected_from a b h xs) (collected_from (a ++ x ∷ []) (x ∷ b) (same_more a b x h) xs)
    ∙ ap (λ (r : Bool). a ++ (if r then first_occurrences b xs else x ∷ first_occurrences (x ∷ b) xs)) (h x)

-- what collecting gives is what occurs first
pub collected : (xs : List (List ℕ)) → with_names [] xs ≡ first_occurrences [] xs
collected xs = collected_from [] [] (λ x. refl) xs
