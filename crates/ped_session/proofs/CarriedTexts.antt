-- Names of references by their texts.
use Rattle.std.proofs.Common.{◌≡◌, ◌∙◌, ℕ, List, [], ◌∷◌, ◌++◌, map, filter, cond, Bool, true, false, not, ◌||◌, refl, sym, ap}
use Rattle.std.specs.Prelude.{if◌then◌else◌}
use Rattle.std.specs.List.{list_any}
use Rattle.std.proofs.lemmas.List.{map-append}
use Rattle.ped_base.specs.Lists.{is_among, is_same_text}
use Rattle.ped_tree.specs.Names.Collecting.{with_name}
use Rattle.ped_refs.specs.Occurrences.{name_text}
use Rattle.ped_refs.specs.declared.references.RefName.{RefName}
use Rattle.ped_edges.specs.Edges.{Edge}
use Rattle.ped_edges.specs.CodeEdges.{edge_of}
use Rattle.ped_edges.specs.declared.edges.Edge.{Edge as CodeEdge}
use Rattle.ped_transformations.specs.ped_auto.specs.CarriedNames.{is_file, files_last}

-- the name is there by its text
pub there_by_text : (x : List ℕ) (names : List RefName) → list_any (λ other. is_same_text x (name_text other)) names ≡ is_among x (map name_text names)
there_by_text x [] = refl
there_by_text x (n ∷ ns) = ap (λ (b : Bool). is_same_text x (name_text n) || b) (there_by_text x ns)

-- a name that is there isn't added
pub name_there : (names : List (List ℕ)) (x : List ℕ) → is_among x names ≡ true → names ≡ with_name names x
name_there names x e = sym (ap (λ (b : Bool). if b then names else names ++ x ∷ []) e)

pub name_new : (names : List (List ℕ)) (x : List ℕ) → is_among x names ≡ false → names ++ x ∷ [] ≡ with_name names x
name_new names x e = sym (ap (λ (b : Bool). if b then names else names ++ x ∷ []) e)

kept_mapped : (x : RefName) (xs : List RefName) (ys : List (List ℕ)) (b : Bool) → map name_text xs ≡ ys → map name_text (cond b (x ∷ xs) xs) ≡ cond b (name_text x ∷ ys) ys
kept_mapped x xs ys true e = ap (λ (zs : List (List ℕ)). name_text x ∷ zs) e
kept_mapped x xs ys false e = e

kept : (p : List ℕ → Bool) (xs : List RefName) → map name_text (filter (λ x. p (name_text x)) xs) ≡ filter p (map name_text xs)
kept p [] = refl
kept p (x ∷ xs) = kept_mapped x (filter (λ y. p (name_text y)) xs) (filter p (map name_text xs)) (p (name_text x)) (kept p xs)

-- variables, and behind them the data lines and the output
pub last_by_text : (names : List RefName) → map name_text (filter (λ name. not (is_file (name_text name))) names ++ filter (λ name. is_file (name_text name)) names) ≡ files_last (map name_text names)
last_by_text names =
    map-append name_text (filter (λ name. not (is_file (name_text name))) names) (filter (λ name. is_file (name_text name)) names)
    ∙ (λ i. kept (λ x. not (is_file x)) names i ++ kept is_file names i)

-- the names of dependences
pub names_of_edges : (es : List CodeEdge) → map (λ e. (edge_of e).name) es ≡ map (λ (e : Edge). e.name) (map edge_of es)
names_of_edges [] = refl
names_of_edges (e ∷ es) = ap (λ (xs : List (List ℕ)). (edge_of e).name ∷ xs) (names_of_edges es)
