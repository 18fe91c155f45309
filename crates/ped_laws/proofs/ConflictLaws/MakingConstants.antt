-- A name of a valid program is that of a named constant where it has a value.
use Rattle.std.proofs.Common.{◌≡◌, ℕ, ℤ, List, [], ◌∷◌, ◌++◌, map, drop, Bool, true, false, ◌||◌, Option, Some, None, is_some, refl, sym, ap, ◌∙◌, if◌then◌else◌}
use Rattle.std.specs.List.{flat_map}
use Rattle.std.proofs.lemmas.Bool.{or_parts}
use Rattle.ped_flow.specs.ped_base.specs.Lists.{is_same_text, is_among}
use Rattle.ped_flow.specs.ped_tree.specs.Tree.{ExprTree, DeclTree, Program, Implicit, Integer, Dimension, Parameter, Save, Remark, StmtTree, StmtTrees, Assign, If, Do, Print, Read, Stop, Comment, no_stmts, more_stmts, ProgramTree}
use Rattle.ped_flow.specs.ped_tree.specs.Accesses.{constants_in, constant_names}
use Rattle.ped_flow.specs.ped_base.proofs.NameEquality.{same_is}
use Rattle.ped_flow.specs.ped_tree.proofs.NameLaws.Collected.{among_append}
use Rattle.ped_flow.specs.ped_tree.specs.Grammar.Refusal.{Finding, Refusal, refused_if}
use Rattle.ped_graph.specs.ped_refs.specs.References.{Reference, references}
use Rattle.ped_flow.specs.ped_tree.specs.Constants.NamedConstants.{value_named}
use Rattle.ped_graph.specs.ped_symbols.specs.Entries.{entry_of, with_entry}
use Rattle.ped_graph.specs.ped_symbols.specs.Declarations.{Declared, declared_in}
use Rattle.ped_graph.specs.ped_symbols.specs.Values.{Values, fixed_value, with_value, is_missing, items, behind_items, some_item_fails, site_fails}
use Rattle.ped_graph.specs.ped_symbols.specs.Sites.{Site, declaration, statement, private_names, private_site, stmt_sites, stmts_sites, decl_sites}
use Rattle.ped_graph.specs.ped_symbols.specs.NameRefusals.{Before, at_first, behind_site, behind_sites, at_site, at_sites, next_line, IsValid}
use Rattle.ped_graph.specs.ped_symbols.specs.Kinds.{at_last}

-- whether an item stands behind two lists
or_group : (a b c : Bool) → ((a || b) || c) ≡ (a || (b || c))
or_group true b c = refl
or_group false b c = refl

or_nothing : (a : Bool) → a ≡ (a || false)
or_nothing true = refl
or_nothing false = refl

-- among entries with one more behind them a name is found that was found, and the new one
found_behind : (es : Values) (k : List ℕ) (v : ℤ) (x : List ℕ) → is_some (entry_of (es ++ (k, v) ∷ []) x) ≡ (is_some (entry_of es x) || is_same_text x k)
found_behind [] k v x = go (is_same_text x k)
  where
    go : (b : Bool) → is_some (if b then Some v else None) ≡ b
    go true = refl
    go false = refl
found_behind (e ∷ es) k v x = go (is_same_text x e.0) (found_behind es k v x)
  where
    go : (b : Bool) → is_some (entry_of (es ++ (k, v) ∷ []) x) ≡ (is_some (entry_of es x) || is_same_text x k) → is_some (if b then Some e.1 else entry_of (es ++ (k, v) ∷ []) x) ≡ (is_some (if b then Some e.1 else entry_of es x) || is_same_text x k)
    go true h = refl
    go false h = h

absorbed : (a b : Bool) → (b ≡ true → a ≡ true) → a ≡ (a || b)
absorbed true b h = refl
absorbed false true h = let k : false ≡ true = h refl in absurd cc
absorbed false false h = refl

found_with_entry : (es : Values) (k : List ℕ) (v : ℤ) (x : List ℕ) → is_some (entry_of (with_entry es k v) x) ≡ (is_some (entry_of es x) || is_same_text x k)
found_with_entry es k v x = go (is_some (entry_of es k)) refl
  where
    go : (b : Bool) → is_some (entry_of es k) ≡ b → is_some (entry_of (if b then es else es ++ (k, v) ∷ []) x) ≡ (is_some (entry_of es x) || is_same_text x k)
    go true h = absorbed (is_some (entry_of es x)) (is_same_text x k) (λ s. ap (λ (y : List ℕ). is_some (entry_of es y)) (same_is x k s) ∙ h)
    go false h = found_behind es k v x

found_with_value : (es : Values) (k : List ℕ) (o : Option ℤ) (x : List ℕ) → is_missing o ≡ false → is_some (entry_of (with_value es k o) x) ≡ (is_some (entry_of es x) || is_same_text x k)
found_with_value es k None x h = absurd cc
found_with_value es k (Some v) x h = found_with_entry es k v x

-- behind items that all have values a name is found that was found, and those of the items
found_behind_items : (es : Values) (vs : List (List ℕ × ExprTree)) (x : List ℕ) → some_item_fails es vs ≡ false → is_some (entry_of (behind_items es vs) x) ≡ (is_some (entry_of es x) || is_among x (map (λ v. v.0) vs))
found_behind_items es [] x h = or_nothing (is_some (entry_of es x))
found_behind_items es (v ∷ vs) x h =
    let more : Values = with_value es v.0 (fixed_value es v.1) in
    let p = or_parts (is_missing (fixed_value es v.1)) (some_item_fails more vs) h in
    found_behind_items more vs x p.1
    ∙ (ap (λ (b : Bool). b || is_among x (map (λ u. u.0) vs)) (found_with_value es v.0 (fixed_value es v.1) x p.0) ∙ or_group (is_some (entry_of es x)) (is_same_text x v.0) (is_among x (map (λ u. u.0) vs)))

-- the items of a declaration name its constants
items_named : (d : DeclTree) → map (λ v. v.0) (items d) ≡ constants_in d
items_named (Program x) = refl
items_named Implicit = refl
items_named (Integer ds) = refl
items_named (Dimension ds) = refl
items_named (Parameter values) = refl
items_named (Save names) = refl
items_named (Remark text) = refl

none_before : (a b : List Finding) → a ++ b ≡ [] → a ≡ []
none_before [] b h = refl
none_before (x ∷ a) b h = absurd cc

none_behind : (a b : List Finding) → a ++ b ≡ [] → b ≡ []
none_behind [] b h = h
none_behind (x ∷ a) b h = absurd cc

not_refused : (test : Bool) (r : Refusal) (line : ℕ) → refused_if test r line ≡ [] → test ≡ false
unfolding refused_if
not_refused true r line h = absurd cc
not_refused false r line h = refl

-- where nothing is refused at a site, all that has to have a value has one
site_has_values : (d : Declared) (refs : List Reference) (b : Before) (line : ℕ) (s : Site) → at_site d refs b line s ≡ [] → site_fails b.values s ≡ false
site_has_values d refs b line s h = not_refused _ _ _ (none_behind _ _ (none_before _ _ (none_before _ _ (none_before _ _ h))))

-- sites that are no declarations add no constant
abbrev declares_none : Site → Bool
declares_none (declaration d) = false
declares_none (statement s) = true
declares_none (private_names names) = true

abbrev DeclareNone : List Site → Type 0
DeclareNone [] = Unit {0}
DeclareNone (s ∷ ss) = (declares_none s ≡ true) × DeclareNone ss

none_declared : (xs ys : List Site) → DeclareNone xs → DeclareNone ys → DeclareNone (xs ++ ys)
none_declared [] ys h k = k
none_declared (x ∷ xs) ys h k = (h.0, none_declared xs ys h.1 k)

private_none : (names : List (List ℕ)) → DeclareNone (private_site names)
private_none [] = tt
private_none (x ∷ xs) = (refl, tt)

mutual
  stmt_none : (s : StmtTree) → DeclareNone (stmt_sites s)
  stmt_none (Assign left right) = (refl, tt)
  stmt_none (If condition a b) = (refl, none_declared (stmts_sites a) (stmts_sites b) (stmts_none a) (stmts_none b))
  stmt_none (Do h body) = (refl, none_declared (private_site h.private) (stmts_sites body) (private_none h.private) (stmts_none body))
  stmt_none (Print items) = (refl, tt)
  stmt_none (Read items) = (refl, tt)
  stmt_none Stop = (refl, tt)
  stmt_none (Comment text) = tt

  stmts_none : (ss : StmtTrees) → DeclareNone (stmts_sites ss)
  stmts_none no_stmts = tt
  stmts_none (more_stmts s rest) = none_declared (stmt_sites s) (stmts_sites rest) (stmt_none s) (stmts_none rest)

values_stay : (b : Before) (sites : List Site) → DeclareNone sites → (behind_sites b sites).values ≡ b.values
values_stay b [] h = refl
values_stay b (declaration d ∷ rest) h = let z : false ≡ true = h.0 in absurd cc
values_stay b (statement s ∷ rest) h = values_stay (behind_site b (statement s)) rest h.1
values_stay b (private_names names ∷ rest) h = values_stay (behind_site b (private_names names)) rest h.1

-- behind a declaration
module _ (d : Declared) (refs : List Reference) (sites : List Site) (stay : DeclareNone sites) (x : List ℕ) where
  abbrev Found : List DeclTree → Type 0
  Found ds = (b : Before) (lines : List ℕ) → at_sites d refs b lines (flat_map decl_sites ds ++ sites) ≡ [] → is_some (entry_of (behind_sites b (flat_map decl_sites ds ++ sites)).values x) ≡ (is_some (entry_of b.values x) || is_among x (constant_names ds))

  found_behind_decl : (decl : DeclTree) (ds : List DeclTree) → decl_sites decl ≡ declaration decl ∷ [] → Found ds → Found (decl ∷ ds)
  found_behind_decl decl ds itself rest b lines h =
      let behind : List Site = flat_map decl_sites ds ++ sites in
      let whole : flat_map decl_sites (decl ∷ ds) ++ sites ≡ declaration decl ∷ behind = ap (λ (ss : List Site). (ss ++ flat_map decl_sites ds) ++ sites) itself in
      let quiet : at_sites d refs b lines (declaration decl ∷ behind) ≡ [] = ap (at_sites d refs b lines) (sym whole) ∙ h in
      let fails = site_has_values d refs b (next_line lines) (declaration decl) (none_before _ _ quiet) in
      let p = or_parts (some_item_fails b.values (items decl)) _ fails in
      ap (λ (ss : List Site). is_some (entry_of (behind_sites b ss).values x)) whole
      ∙ (rest (behind_site b (declaration decl)) (drop 1 lines) (none_behind _ _ quiet)
      ∙ (ap (λ (t : Bool). t || is_among x (constant_names ds)) (found_behind_items b.values (items decl) x p.0)
      ∙ (or_group (is_some (entry_of b.values x)) (is_among x (map (λ v. v.0) (items decl))) (is_among x (constant_names ds))
      ∙ ap (λ (t : Bool). is_some (entry_of b.values x) || t) (ap (λ (names : List (List ℕ)). is_among x names || is_among x (constant_names ds)) (items_named decl) ∙ sym (among_append x (constants_in decl) (constant_names ds))))))

  found_behind_all : (ds : List DeclTree) → Found ds
  found_behind_all [] = λ b lines h. ap (λ (values : Values). is_some (entry_of values x)) (values_stay b sites stay) ∙ or_nothing (is_some (entry_of b.values x))
  found_behind_all (Program p ∷ ds) = found_behind_decl (Program p) ds refl (found_behind_all ds)
  found_behind_all (Implicit ∷ ds) = found_behind_decl Implicit ds refl (found_behind_all ds)
  found_behind_all (Integer us ∷ ds) = found_behind_decl (Integer us) ds refl (found_behind_all ds)
  found_behind_all (Dimension us ∷ ds) = found_behind_decl (Dimension us) ds refl (found_behind_all ds)
  found_behind_all (Parameter values ∷ ds) = found_behind_decl (Parameter values) ds refl (found_behind_all ds)
  found_behind_all (Save names ∷ ds) = found_behind_decl (Save names) ds refl (found_behind_all ds)
  found_behind_all (Remark text ∷ ds) = found_behind_all ds

-- in a valid program the named constants are the names that have values
pub constants_found : (t : ProgramTree) → IsValid t → (x : List ℕ) → is_some (value_named (at_last t).values x) ≡ is_among x (constant_names t.decls)
constants_found t v x = found_behind_all (declared_in t.decls) (references t) (stmts_sites t.body) (stmts_none t.body) x t.decls at_first [] v.names

-- a name without a value is no named constant
pub unvalued : (t : ProgramTree) → IsValid t → (x : List ℕ) → value_named (at_last t).values x ≡ None → is_among x (constant_names t.decls) ≡ false
unvalued t v x h = sym (constants_found t v x) ∙ ap is_some h

-- a name with a value is a named constant
pub valued : (t : ProgramTree) → IsValid t → (x : List ℕ) (n : ℤ) → value_named (at_last t).values x ≡ Some n → is_among x (constant_names t.decls) ≡ true
valued t v x n h = sym (constants_found t v x) ∙ ap is_some h
