-- A name that no PARAMETER names has no value.
use Rattle.std.proofs.Common.{◌≡◌, ℕ, ℤ, List, [], ◌∷◌, ◌++◌, map, filter, Bool, true, false, Option, Some, None, is_some, refl, ap, sym, ◌∙◌, if◌then◌else◌}
use Rattle.std.specs.Prelude.{◌||◌}
use Rattle.std.specs.List.{flat_map}
use Rattle.std.proofs.lemmas.Bool.{or_parts}
use Rattle.std.proofs.lemmas.List.{map-append}
use Rattle.std.proofs.lemmas.List.Elements.{filter-append}
use Rattle.ped_base.specs.Lists.{is_same_text, is_among}
use Rattle.ped_tree.specs.Tree.{ExprTree, DeclTree, Program, Implicit, Integer, Dimension, Parameter, Save, Remark}
use Rattle.ped_tree.proofs.NameLaws.Collected.{among_append}
use Rattle.ped_symbols.specs.declared.uses.Role.{Role}
use Rattle.ped_symbols.specs.declared.uses.Role.TheVariants.{Named}
use Rattle.ped_symbols.specs.declared.uses.Use.{Use}
use Rattle.ped_symbols.specs.Entries.{entry_of, with_entry}
use Rattle.ped_symbols.specs.Uses.{used_as, expr_uses, decl_uses}
use Rattle.ped_symbols.specs.Declarations.{is_naming, names_with}
use Rattle.ped_symbols.specs.Values.{Values, fixed_value, with_value, behind_items}
use Rattle.ped_symbols.specs.Sites.{declaration, decl_sites}
use Rattle.ped_symbols.specs.NameRefusals.{Before, behind_site, behind_sites}

none_behind_others : (es : Values) (k : List ℕ) (v : ℤ) (x : List ℕ) → is_same_text x k ≡ false → entry_of es x ≡ None → entry_of (es ++ (k, v) ∷ []) x ≡ None
none_behind_others [] k v x n h = ap (λ (r : Bool). if r then Some v else None) n
none_behind_others (e ∷ es) k v x n h = go (is_same_text x e.0) (none_behind_others es k v x n) h
  where
    go : (r : Bool) → (entry_of es x ≡ None → entry_of (es ++ (k, v) ∷ []) x ≡ None) → (if r then Some e.1 else entry_of es x) ≡ None → (if r then Some e.1 else entry_of (es ++ (k, v) ∷ []) x) ≡ None
    go true f h = absurd cc
    go false f h = f h

none_with_entry : (es : Values) (k : List ℕ) (v : ℤ) (x : List ℕ) → is_same_text x k ≡ false → entry_of es x ≡ None → entry_of (with_entry es k v) x ≡ None
none_with_entry es k v x n h = go (is_some (entry_of es k))
  where
    go : (r : Bool) → entry_of (if r then es else es ++ (k, v) ∷ []) x ≡ None
    go true = h
    go false = none_behind_others es k v x n h

none_with_value : (es : Values) (k : List ℕ) (o : Option ℤ) (x : List ℕ) → is_same_text x k ≡ false → entry_of es x ≡ None → entry_of (with_value es k o) x ≡ None
none_with_value es k None x n h = h
none_with_value es k (Some v) x n h = none_with_entry es k v x n h

pub none_behind_items : (es : Values) (items : List (List ℕ × ExprTree)) (x : List ℕ) → is_among x (map (λ v. v.0) items) ≡ false → entry_of es x ≡ None → entry_of (behind_items es items) x ≡ None
none_behind_items es [] x n h = h
none_behind_items es (v ∷ vs) x n h =
    let p = or_parts (is_same_text x v.0) (is_among x (map (λ v. v.0) vs)) n in
    none_behind_items (with_value es v.0 (fixed_value es v.1)) vs x p.1 (none_with_value es v.0 (fixed_value es v.1) x p.0 h)

-- the names in some role, of uses one behind the other
pub names_append : (test : Role → Bool) (us vs : List Use) → names_with test (us ++ vs) ≡ names_with test us ++ names_with test vs
names_append test us vs =
    ap (map (λ u. u.name)) (filter-append (λ u. test u.role) us vs) ∙ map-append (λ u. u.name) (filter (λ u. test u.role) us) (filter (λ u. test u.role) vs)

-- a name that isn't among them is neither among those in front nor among those behind
pub not_named : (test : Role → Bool) (us vs : List Use) (x : List ℕ) → is_among x (names_with test (us ++ vs)) ≡ false → (is_among x (names_with test us) ≡ false) × (is_among x (names_with test vs) ≡ false)
not_named test us vs x h = or_parts _ _ (sym (among_append x (names_with test us) (names_with test vs)) ∙ ap (is_among x) (sym (names_append test us vs)) ∙ h)

not_among_items : (items : List (List ℕ × ExprTree)) (x : List ℕ) → is_among x (names_with is_naming (flat_map (λ v. used_as Named v.0 ∷ expr_uses v.1) items)) ≡ false → is_among x (map (λ v. v.0) items) ≡ false
not_among_items [] x h = refl
not_among_items (v ∷ vs) x h =
    let p = or_parts (is_same_text x v.0) _ h in
    let rest = not_among_items vs x (not_named is_naming (expr_uses v.1) (flat_map (λ v. used_as Named v.0 ∷ expr_uses v.1) vs) x p.1).1 in
    (λ i. p.0 i || rest i)

-- behind declarations that don't name it a name has no value, where it had none
pub none_named : (b : Before) (ds : List DeclTree) (x : List ℕ) → is_among x (names_with is_naming (flat_map decl_uses ds)) ≡ false → entry_of b.values x ≡ None
    → entry_of (behind_sites b (flat_map decl_sites ds)).values x ≡ None
none_named b [] x n h = h
none_named b (Program p ∷ ds) x n h = none_named (behind_site b (declaration (Program p))) ds x n h
none_named b (Implicit ∷ ds) x n h = none_named (behind_site b (declaration Implicit)) ds x n h
none_named b (Integer us ∷ ds) x n h = none_named (behind_site b (declaration (Integer us))) ds x (not_named is_naming (decl_uses (Integer us)) (flat_map decl_uses ds) x n).1 h
none_named b (Dimension us ∷ ds) x n h = none_named (behind_site b (declaration (Dimension us))) ds x (not_named is_naming (decl_uses (Dimension us)) (flat_map decl_uses ds) x n).1 h
none_named b (Parameter items ∷ ds) x n h =
    let p = not_named is_naming (decl_uses (Parameter items)) (flat_map decl_uses ds) x n in
    none_named (behind_site b (declaration (Parameter items))) ds x p.1 (none_behind_items b.values items x (not_among_items items x p.0) h)
none_named b (Save names ∷ ds) x n h = none_named (behind_site b (declaration (Save names))) ds x (not_named is_naming (decl_uses (Save names)) (flat_map decl_uses ds) x n).1 h
none_named b (Remark text ∷ ds) x n h = none_named b ds x n h
