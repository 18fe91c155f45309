-- Behind the declarations of a valid program each named constant has a value.
use Rattle.std.proofs.Common.{◌≡◌, ℕ, ℤ, List, [], ◌∷◌, ◌++◌, map, Bool, true, false, Option, Some, None, is_some, refl, ap, sym, subst, ◌∙◌, if◌then◌else◌}
use Rattle.std.specs.Prelude.{◌||◌}
use Rattle.std.specs.List.{flat_map}
use Rattle.std.proofs.lemmas.Bool.{or_parts}
use Rattle.ped_base.specs.Lists.{is_same_text, is_among}
use Rattle.ped_tree.specs.Tree.{ExprTree, DeclTree, Program, Implicit, Integer, Dimension, Parameter, Save, Remark}
use Rattle.ped_tree.specs.Accesses.{constant_names}
use Rattle.ped_base.proofs.NameEquality.{same_is, same_itself}
use Rattle.ped_tree.proofs.NameLaws.Collected.{among_append}
use Rattle.ped_refs.specs.References.{Reference}
use Rattle.ped_symbols.specs.Entries.{entry_of, with_entry}
use Rattle.ped_symbols.specs.Declarations.{Declared}
use Rattle.ped_symbols.specs.Values.{Values, fixed_value, is_missing, with_value, some_item_fails, behind_items}
use Rattle.ped_symbols.specs.Sites.{declaration, decl_sites}
use Rattle.ped_symbols.specs.NameRefusals.{Before, behind_site, behind_sites}
use Rattle.ped_symbols.proofs.RightUseLaws.Constants.{none_behind_items}
use Rattle.ped_symbols.proofs.RightUseLaws.Quiet.{AreQuiet}

-- a name has a value among these
abbrev HasValue : Values → List ℕ → Type 0
HasValue es x = is_some (entry_of es x) ≡ true

stays_behind_others : (es : Values) (k : List ℕ) (v : ℤ) (x : List ℕ) → HasValue es x → HasValue (es ++ (k, v) ∷ []) x
stays_behind_others [] k v x h = absurd cc
stays_behind_others (e ∷ es) k v x h = go (is_same_text x e.0) h (stays_behind_others es k v x)
  where
    go : (r : Bool) → is_some (if r then Some e.1 else entry_of es x) ≡ true → (HasValue es x → HasValue (es ++ (k, v) ∷ []) x) → is_some (if r then Some e.1 else entry_of (es ++ (k, v) ∷ []) x) ≡ true
    go true a f = refl
    go false a f = f a

there_behind_others : (es : Values) (k : List ℕ) (v : ℤ) → HasValue (es ++ (k, v) ∷ []) k
there_behind_others [] k v = ap (λ (r : Bool). is_some (if r then Some v else None)) (same_itself k)
there_behind_others (e ∷ es) k v = go (is_same_text k e.0) (there_behind_others es k v)
  where
    go : (r : Bool) → HasValue (es ++ (k, v) ∷ []) k → is_some (if r then Some e.1 else entry_of (es ++ (k, v) ∷ []) k) ≡ true
    go true h = refl
    go false h = h

stays_with_entry : (es : Values) (k : List ℕ) (v : ℤ) (x : List ℕ) → HasValue es x → HasValue (with_entry es k v) x
stays_with_entry es k v x h = go (is_some (entry_of es k))
  where
    go : (r : Bool) → HasValue (if r then es else es ++ (k, v) ∷ []) x
    go true = h
    go false = stays_behind_others es k v x h

there_with_entry : (es : Values) (k : List ℕ) (v : ℤ) → HasValue (with_entry es k v) k
there_with_entry es k v = go (is_some (entry_of es k)) refl
  where
    go : (r : Bool) → is_some (entry_of es k) ≡ r → HasValue (if r then es else es ++ (k, v) ∷ []) k
    go true e = e
    go false e = there_behind_others es k v

stays_with_value : (es : Values) (k : List ℕ) (o : Option ℤ) (x : List ℕ) → HasValue es x → HasValue (with_value es k o) x
stays_with_value es k None x h = h
stays_with_value es k (Some v) x h = stays_with_entry es k v x h

there_with_value : (es : Values) (k : List ℕ) (o : Option ℤ) → is_missing o ≡ false → HasValue (with_value es k o) k
there_with_value es k None h = absurd cc
there_with_value es k (Some v) h = there_with_entry es k v

stays_behind_items : (es : Values) (items : List (List ℕ × ExprTree)) (x : List ℕ) → HasValue es x → HasValue (behind_items es items) x
stays_behind_items es [] x h = h
stays_behind_items es (v ∷ vs) x h = stays_behind_items (with_value es v.0 (fixed_value es v.1)) vs x (stays_with_value es v.0 (fixed_value es v.1) x h)

there_behind_items : (es : Values) (items : List (List ℕ × ExprTree)) (x : List ℕ) → some_item_fails es items ≡ false → is_among x (map (λ v. v.0) items) ≡ true → HasValue (behind_items es items) x
there_behind_items es [] x f m = absurd cc
there_behind_items es (v ∷ vs) x f m =
    let p = or_parts (is_missing (fixed_value es v.1)) (some_item_fails (with_value es v.0 (fixed_value es v.1)) vs) f in
    go (is_same_text x v.0) refl m p.0 (there_behind_items (with_value es v.0 (fixed_value es v.1)) vs x p.1)
  where
    go : (r : Bool) → is_same_text x v.0 ≡ r → (r || is_among x (map (λ v. v.0) vs)) ≡ true → is_missing (fixed_value es v.1) ≡ false → (is_among x (map (λ v. v.0) vs) ≡ true → HasValue (behind_items (with_value es v.0 (fixed_value es v.1)) vs) x)
        → HasValue (behind_items (with_value es v.0 (fixed_value es v.1)) vs) x
    go true e a missing more =
        subst (λ (k : List ℕ). HasValue (behind_items (with_value es v.0 (fixed_value es v.1)) vs) k) (sym (same_is x v.0 e))
        (stays_behind_items (with_value es v.0 (fixed_value es v.1)) vs v.0 (there_with_value es v.0 (fixed_value es v.1) missing))
    go false e a missing more = more a

stays_behind_decls : (b : Before) (ds : List DeclTree) (x : List ℕ) → HasValue b.values x → HasValue (behind_sites b (flat_map decl_sites ds)).values x
stays_behind_decls b [] x h = h
stays_behind_decls b (Program p ∷ ds) x h = stays_behind_decls (behind_site b (declaration (Program p))) ds x h
stays_behind_decls b (Implicit ∷ ds) x h = stays_behind_decls (behind_site b (declaration Implicit)) ds x h
stays_behind_decls b (Integer us ∷ ds) x h = stays_behind_decls (behind_site b (declaration (Integer us))) ds x h
stays_behind_decls b (Dimension us ∷ ds) x h = stays_behind_decls (behind_site b (declaration (Dimension us))) ds x h
stays_behind_decls b (Parameter items ∷ ds) x h = stays_behind_decls (behind_site b (declaration (Parameter items))) ds x (stays_behind_items b.values items x h)
stays_behind_decls b (Save names ∷ ds) x h = stays_behind_decls (behind_site b (declaration (Save names))) ds x h
stays_behind_decls b (Remark text ∷ ds) x h = stays_behind_decls b ds x h

-- behind declarations at which nothing is refused each name that they make a constant has a value
pub named_have_values : (d : Declared) (refs : List Reference) (b : Before) (ds : List DeclTree) (x : List ℕ) → AreQuiet d refs b (flat_map decl_sites ds) → is_among x (constant_names ds) ≡ true
    → HasValue (behind_sites b (flat_map decl_sites ds)).values x
named_have_values d refs b [] x q m = absurd cc
named_have_values d refs b (Program p ∷ ds) x q m = named_have_values d refs (behind_site b (declaration (Program p))) ds x q.1 m
named_have_values d refs b (Implicit ∷ ds) x q m = named_have_values d refs (behind_site b (declaration Implicit)) ds x q.1 m
named_have_values d refs b (Integer us ∷ ds) x q m = named_have_values d refs (behind_site b (declaration (Integer us))) ds x q.1 m
named_have_values d refs b (Dimension us ∷ ds) x q m = named_have_values d refs (behind_site b (declaration (Dimension us))) ds x q.1 m
named_have_values d refs b (Parameter items ∷ ds) x q m =
    go (is_among x (map (λ v. v.0) items)) refl (sym (among_append x (map (λ v. v.0) items) (constant_names ds)) ∙ m) (named_have_values d refs (behind_site b (declaration (Parameter items))) ds x q.1)
  where
    go : (r : Bool) → is_among x (map (λ v. v.0) items) ≡ r → (is_among x (map (λ v. v.0) items) || is_among x (constant_names ds)) ≡ true
        → (is_among x (constant_names ds) ≡ true → HasValue (behind_sites (behind_site b (declaration (Parameter items))) (flat_map decl_sites ds)).values x) → HasValue (behind_sites (behind_site b (declaration (Parameter items))) (flat_map decl_sites ds)).values x
    go true e a more = stays_behind_decls (behind_site b (declaration (Parameter items))) ds x (there_behind_items b.values items x (or_parts _ _ q.0.values).0 e)
    go false e a more = more (ap (λ (r : Bool). r || is_among x (constant_names ds)) (sym e) ∙ a)
named_have_values d refs b (Save names ∷ ds) x q m = named_have_values d refs (behind_site b (declaration (Save names))) ds x q.1 m
named_have_values d refs b (Remark text ∷ ds) x q m = named_have_values d refs b ds x q m

-- and a name that they don't make a constant has none, where it had none
pub unnamed_have_none : (b : Before) (ds : List DeclTree) (x : List ℕ) → is_among x (constant_names ds) ≡ false → entry_of b.values x ≡ None → entry_of (behind_sites b (flat_map decl_sites ds)).values x ≡ None
unnamed_have_none b [] x n h = h
unnamed_have_none b (Program p ∷ ds) x n h = unnamed_have_none (behind_site b (declaration (Program p))) ds x n h
unnamed_have_none b (Implicit ∷ ds) x n h = unnamed_have_none (behind_site b (declaration Implicit)) ds x n h
unnamed_have_none b (Integer us ∷ ds) x n h = unnamed_have_none (behind_site b (declaration (Integer us))) ds x n h
unnamed_have_none b (Dimension us ∷ ds) x n h = unnamed_have_none (behind_site b (declaration (Dimension us))) ds x n h
unnamed_have_none b (Parameter items ∷ ds) x n h =
    let p = or_parts (is_among x (map (λ v. v.0) items)) (is_among x (constant_names ds)) (sym (among_append x (map (λ v. v.0) items) (constant_names ds)) ∙ n) in
    unnamed_have_none (behind_site b (declaration (Parameter items))) ds x p.1 (none_behind_items b.values items x p.0 h)
unnamed_have_none b (Save names ∷ ds) x n h = unnamed_have_none (behind_site b (declaration (Save names))) ds x n h
unnamed_have_none b (Remark text ∷ ds) x n h = unnamed_have_none b ds x n h
