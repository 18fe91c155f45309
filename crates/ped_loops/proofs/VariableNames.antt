-- A name that occurs among the statements of a valid program and is no named constant is a variable's: it isn't REAL, no constant, and not the program's name.
use Rattle.std.proofs.Common.{◌≡◌, ℕ, List, [], ◌∷◌, ◌++◌, drop, map, Bool, true, false, not, ◌&&◌, ◌||◌, refl, ap, ◌∙◌, if◌then◌else◌}
use Rattle.std.specs.List.{list_any, flat_map}
use Rattle.std.proofs.lemmas.Bool.{or_parts, both_ways}
use Rattle.std.proofs.lemmas.List.Folds.{list_any-append}
use Rattle.ped_base.specs.Lists.{is_same_text, is_among, has_some}
use Rattle.ped_base.proofs.NameEquality.{same_is}
use Rattle.ped_tree.specs.Tree.{ExprTree, ExprTrees, Int, Var, Element, Neg, Add, Sub, Mul, Div, Pow, Call, no_exprs, more_exprs, BoundTree, DeclaratorTree, DeclTree, Program, Implicit, Integer, Dimension, Parameter, Save, Remark, ProgramTree}
use Rattle.ped_tree.specs.Accesses.{constant_names}
use Rattle.ped_tree.specs.Grammar.Refusal.{Refusal, Finding, refused_if}
use Rattle.ped_tree.specs.NamesIn.{stmts_names}
use Rattle.ped_tree.proofs.NameLaws.Collected.{among_append}
use Rattle.ped_refs.specs.References.{Reference, references}
use Rattle.ped_rules.specs.ped_symbols.specs.declared.uses.Role.TheVariants.{Named, Saved}
use Rattle.ped_rules.specs.ped_symbols.specs.declared.uses.Use.{Use}
use Rattle.ped_rules.specs.ped_symbols.specs.Uses.{used_as, expr_uses, exprs_uses, bounds_uses, dimension_uses, type_uses, decl_uses}
use Rattle.ped_rules.specs.ped_symbols.specs.Declarations.{Declared, declared_in, is_naming, names_with, is_real, is_constant, is_program}
use Rattle.ped_rules.specs.ped_symbols.specs.Sites.{Site, decl_sites, stmts_sites, program_sites, site_uses}
use Rattle.ped_rules.specs.ped_symbols.specs.Kinds.{names_at}
use Rattle.ped_rules.specs.ped_symbols.specs.NameRefusals.{Before, uses_real, uses_program, is_declared_twice, behind_site, at_site, at_sites, next_line, at_first, IsValid}
use Rattle.ped_rules.specs.ped_symbols.proofs.RightUseLaws.Constants.{names_append}
use Rattle.ped_rules.specs.ped_steps.proofs.RunLaws.NamesAtSites.{at_append, stmts_at}

-- no use makes a name a constant
abbrev NamesNone : List Use → Type 0
NamesNone us = names_with is_naming us ≡ []

both_none : (us vs : List Use) → NamesNone us → NamesNone vs → NamesNone (us ++ vs)
both_none us vs h k = names_append is_naming us vs ∙ (λ i. h i ++ k i)

mutual
  expr_none : (e : ExprTree) → NamesNone (expr_uses e)
  expr_none (Int n) = refl
  expr_none (Var x) = refl
  expr_none (Element x es) = exprs_none es
  expr_none (Neg a) = expr_none a
  expr_none (Add a b) = both_none (expr_uses a) (expr_uses b) (expr_none a) (expr_none b)
  expr_none (Sub a b) = both_none (expr_uses a) (expr_uses b) (expr_none a) (expr_none b)
  expr_none (Mul a b) = both_none (expr_uses a) (expr_uses b) (expr_none a) (expr_none b)
  expr_none (Div a b) = both_none (expr_uses a) (expr_uses b) (expr_none a) (expr_none b)
  expr_none (Pow a b) = both_none (expr_uses a) (expr_uses b) (expr_none a) (expr_none b)
  expr_none (Call f es) = exprs_none es

  exprs_none : (es : ExprTrees) → NamesNone (exprs_uses es)
  exprs_none no_exprs = refl
  exprs_none (more_exprs e rest) = both_none (expr_uses e) (exprs_uses rest) (expr_none e) (exprs_none rest)

bounds_none : (bounds : List BoundTree) → NamesNone (bounds_uses bounds)
bounds_none [] = refl
bounds_none (b ∷ bs) = both_none (expr_uses b.lower ++ expr_uses b.upper) (bounds_uses bs) (both_none (expr_uses b.lower) (expr_uses b.upper) (expr_none b.lower) (expr_none b.upper)) (bounds_none bs)

dimensions_none : (ds : List DeclaratorTree) → NamesNone (flat_map dimension_uses ds)
dimensions_none [] = refl
dimensions_none (d ∷ ds) = both_none (dimension_uses d) (flat_map dimension_uses ds) (bounds_none d.bounds) (dimensions_none ds)

type_none : (d : DeclaratorTree) → NamesNone (type_uses d)
type_none d = by (has_some d.bounds)
  where
    by : (b : Bool) → NamesNone (if b then dimension_uses d else [])
    by true = bounds_none d.bounds
    by false = refl

types_none : (ds : List DeclaratorTree) → NamesNone (flat_map type_uses ds)
types_none [] = refl
types_none (d ∷ ds) = both_none (type_uses d) (flat_map type_uses ds) (type_none d) (types_none ds)

saves_none : (names : List (List ℕ)) → NamesNone (map (used_as Saved) names)
saves_none [] = refl
saves_none (x ∷ xs) = saves_none xs

items_name : (items : List (List ℕ × ExprTree)) → names_with is_naming (flat_map (λ v. used_as Named v.0 ∷ expr_uses v.1) items) ≡ map (λ v. v.0) items
items_name [] = refl
items_name (v ∷ vs) = ap (λ (xs : List (List ℕ)). v.0 ∷ xs) (names_append is_naming (expr_uses v.1) (flat_map (λ v. used_as Named v.0 ∷ expr_uses v.1) vs) ∙ (λ i. expr_none v.1 i ++ items_name vs i))

-- the names that declarations make constants are those of their PARAMETERs
decls_name : (ds : List DeclTree) → names_with is_naming (flat_map decl_uses ds) ≡ constant_names ds
decls_name [] = refl
decls_name (Program p ∷ ds) = decls_name ds
decls_name (Implicit ∷ ds) = decls_name ds
decls_name (Integer us ∷ ds) = names_append is_naming (flat_map type_uses us) (flat_map decl_uses ds) ∙ (λ i. types_none us i ++ decls_name ds i)
decls_name (Dimension us ∷ ds) = names_append is_naming (flat_map dimension_uses us) (flat_map decl_uses ds) ∙ (λ i. dimensions_none us i ++ decls_name ds i)
decls_name (Parameter items ∷ ds) = names_append is_naming (decl_uses (Parameter items)) (flat_map decl_uses ds) ∙ (λ i. items_name items i ++ decls_name ds i)
decls_name (Save names ∷ ds) = names_append is_naming (map (used_as Saved) names) (flat_map decl_uses ds) ∙ (λ i. saves_none names i ++ decls_name ds i)
decls_name (Remark text ∷ ds) = decls_name ds

none_before : (a b : List Finding) → a ++ b ≡ [] → a ≡ []
none_before [] b h = refl
none_before (x ∷ a) b h = absurd cc

none_behind : (a b : List Finding) → a ++ b ≡ [] → b ≡ []
none_behind [] b h = h
none_behind (x ∷ a) b h = absurd cc

not_refused : (test : Bool) (r : Refusal) (line : ℕ) → refused_if test r line ≡ [] → test ≡ false
unfolding refused_if
not_refused true r line h = absurd cc
not_refused false r line h = refl

module _ (d : Declared) (refs : List Reference) where
  -- no use is of a REAL name, or of the program's
  abbrev AreRight : List Use → Type 0
  AreRight us = (list_any (uses_real d) us ≡ false) × (list_any (uses_program d) us ≡ false)

  site_right : (b : Before) (line : ℕ) (s : Site) → at_site d refs b line s ≡ [] → AreRight (site_uses s)
  site_right b line s h =
      let two = none_before _ _ (none_before _ _ (none_before _ _ (none_before _ _ h))) in
      let real : list_any (uses_real d) (site_uses s) ≡ false = not_refused _ _ _ (none_before _ _ two) in
      let twice : is_declared_twice d b.uses s ≡ false = not_refused _ _ _ (none_behind _ _ two) in
      (real, (or_parts _ _ (or_parts _ _ (or_parts _ _ twice).0).0).1)

  all_right : (us vs : List Use) → AreRight us → AreRight vs → AreRight (us ++ vs)
  all_right us vs h k = (list_any-append (uses_real d) us vs ∙ (λ i. h.0 i || k.0 i), list_any-append (uses_program d) us vs ∙ (λ i. h.1 i || k.1 i))

  sites_right : (b : Before) (lines : List ℕ) (sites : List Site) → at_sites d refs b lines sites ≡ [] → AreRight (flat_map site_uses sites)
  sites_right b lines [] h = (refl, refl)
  sites_right b lines (s ∷ rest) h =
      all_right (site_uses s) (flat_map site_uses rest) (site_right b (next_line lines) s (none_before _ _ h)) (sites_right (behind_site b s) (drop 1 lines) rest (none_behind _ _ h))

-- what is false of all names is false of each
false_of_each : (P : List ℕ → Bool) (us : List Use) (x : List ℕ) → list_any (λ u. P u.name) us ≡ false → is_among x (map (λ u. u.name) us) ≡ true → P x ≡ false
false_of_each P [] x none among = absurd (both_ways false refl among)
false_of_each P (u ∷ us) x none among =
    let parts = or_parts (P u.name) (list_any (λ u. P u.name) us) none in
    by (is_same_text x u.name) refl among parts.0 (λ a. false_of_each P us x parts.1 a)
  where
    by : (b : Bool) → is_same_text x u.name ≡ b → (b || is_among x (map (λ u. u.name) us)) ≡ true → P u.name ≡ false → (is_among x (map (λ u. u.name) us) ≡ true → P x ≡ false) → P x ≡ false
    by true e a first rest = ap P (same_is x u.name e) ∙ first
    by false e a first rest = rest a

-- such a name
pub record IsVariable (d : Declared) (x : List ℕ) : Type 0 where
  pub real : is_real d x ≡ false
  pub constant : is_constant d x ≡ false
  pub program : is_program d x ≡ false

pub is_variable : (t : ProgramTree) → IsValid t → (x : List ℕ) → is_among x (stmts_names t.body) ≡ true → is_among x (constant_names t.decls) ≡ false → IsVariable (declared_in t.decls) x
is_variable t valid x among other = record {
  real = false_of_each (is_real d) uses x right.0 there;
  constant = unnamed;
  program = only (is_program d x) (is_constant d x) unnamed (false_of_each (λ y. is_program d y && not (is_constant d y)) uses x right.1 there);
}
  where
    d : Declared
    d = declared_in t.decls

    uses : List Use
    uses = flat_map site_uses (program_sites t)

    right : AreRight d (references t) uses
    right = sites_right d (references t) at_first [] (program_sites t) valid.names

    there : is_among x (names_at (program_sites t)) ≡ true
    there =
        ap (is_among x) (at_append (flat_map decl_sites t.decls) (stmts_sites t.body))
        ∙ among_append x (names_at (flat_map decl_sites t.decls)) (names_at (stmts_sites t.body))
        ∙ second (is_among x (names_at (flat_map decl_sites t.decls))) (is_among x (names_at (stmts_sites t.body))) (ap (is_among x) (stmts_at t.body) ∙ among)
      where
        second : (a b : Bool) → b ≡ true → (a || b) ≡ true
        second true b e = refl
        second false b e = e

    unnamed : is_constant d x ≡ false
    unnamed = ap (is_among x) (decls_name t.decls) ∙ other

    only : (a b : Bool) → b ≡ false → (a && not b) ≡ false → a ≡ false
    only true b e h = absurd (both_ways (not b) h (ap not e))
    only false b e h = refl
