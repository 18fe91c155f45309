-- Lists of printed parts have forms, part by part.
use Rattle.std.proofs.Common.{◌≡◌, ℕ, Bool, true, false, List, [], ◌∷◌, ◌++◌, map, refl, ap, ◌∙◌}
use Rattle.std.specs.Prelude.{codes}
use Rattle.std.specs.List.{list_any, list_all, flat_map, join_by}
use Rattle.std.proofs.lemmas.Bool.{or_parts, and_parts}
use Rattle.ped_lines.specs.ped_tree.specs.Grammar.Words.{is_name}
use Rattle.ped_lines.specs.ped_tree.specs.Printing.{names_text}
use Rattle.ped_lines.specs.ped_tree.specs.Grammar.StatementForms.{names_form_text}
use Rattle.ped_printed.proofs.StatementLaws.Squeezing.{Reduces, joined, nothing, comma_blank, name_stays}
use Rattle.ped_printed.proofs.StatementLaws.Expressions.{Again}

-- each form whose tree has no large literal has one again
abbrev pub EachAgain : {F T : Type 0} → (F → List ℕ) → (F → T) → (T → List ℕ) → (T → Bool) → Type 0
EachAgain {F} form_text form_tree text large = (f : F) → large (form_tree f) ≡ false → Again form_text form_tree text (form_tree f)

-- forms of parts behind others, where one separator is left of another
abbrev pub FurtherAgain : {F T : Type 0} → (F → List ℕ) → (F → T) → (T → List ℕ) → List ℕ → List ℕ → List T → Type 0
FurtherAgain {F} {T} form_text form_tree text printed written ts =
    (gs : List F)
    × Reduces (flat_map (λ t. printed ++ text t) ts) (flat_map (λ g. written ++ form_text g) gs)
    × (map form_tree gs ≡ ts)

pub further_again : {F T : Type 0} (form_text : F → List ℕ) (form_tree : F → T) (text : T → List ℕ) (large : T → Bool) (printed written : List ℕ) → Reduces printed written → EachAgain form_text form_tree text large → (fs : List F) → list_any large (map form_tree fs) ≡ false → FurtherAgain form_text form_tree text printed written (map form_tree fs)
further_again form_text form_tree text large printed written separator each [] h = ([], nothing, refl)
further_again {F} {T} form_text form_tree text large printed written separator each (f ∷ fs) h =
    let k = or_parts (large (form_tree f)) (list_any large (map form_tree fs)) h in
    let p = each f k.0 in
    let q = further_again form_text form_tree text large printed written separator each fs k.1 in
    (p.0 ∷ q.0, joined (joined separator p.1) q.1, ap (λ (t : T). t ∷ map form_tree q.0) p.2 ∙ ap (λ (ts : List T). form_tree f ∷ ts) q.2)

-- forms of one part or more
abbrev pub ListedAgain : {F T : Type 0} → (F → List ℕ) → (F → T) → (T → List ℕ) → List ℕ → List ℕ → List T → Type 0
ListedAgain {F} {T} form_text form_tree text printed written ts =
    (g : F)
    × (gs : List F)
    × Reduces (join_by text printed ts) (join_by form_text written (g ∷ gs))
    × (map form_tree (g ∷ gs) ≡ ts)

pub listed_again : {F T : Type 0} (form_text : F → List ℕ) (form_tree : F → T) (text : T → List ℕ) (large : T → Bool) (printed written : List ℕ) → Reduces printed written → EachAgain form_text form_tree text large → (f : F) (fs : List F) → list_any large (map form_tree (f ∷ fs)) ≡ false → ListedAgain form_text form_tree text printed written (map form_tree (f ∷ fs))
listed_again {F} {T} form_text form_tree text large printed written separator each f fs h =
    let k = or_parts (large (form_tree f)) (list_any large (map form_tree fs)) h in
    let p = each f k.0 in
    let q = further_again form_text form_tree text large printed written separator each fs k.1 in
    (p.0, q.0, joined p.1 q.1, ap (λ (t : T). t ∷ map form_tree q.0) p.2 ∙ ap (λ (ts : List T). form_tree f ∷ ts) q.2)

-- names

further_names : (names : List (List ℕ)) → list_all is_name names ≡ true → Reduces (flat_map (λ x. codes ", " ++ x) names) (flat_map (λ x. codes "," ++ x) names)
further_names [] h = nothing
further_names (x ∷ xs) h =
    let k = and_parts (is_name x) (list_all is_name xs) h in
    joined (joined comma_blank (name_stays x k.0)) (further_names xs k.1)

pub names_again : (names : List (List ℕ)) → list_all is_name names ≡ true → Reduces (names_text names) (names_form_text names)
names_again [] h = nothing
names_again (x ∷ xs) h =
    let k = and_parts (is_name x) (list_all is_name xs) h in
    joined (name_stays x k.0) (further_names xs k.1)
