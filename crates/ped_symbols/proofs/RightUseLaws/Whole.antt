-- A valid program is right.
use Rattle.std.proofs.Common.{◌≡◌, ℕ, ◌+◌, ◌≤◌, List, [], map, Bool, true, false, Some, None, is_some, refl, ap, sym, subst, ◌∙◌, arith, if◌then◌else◌}
use Rattle.std.specs.Prelude.{nat_lt}
use Rattle.std.specs.List.{list_any, flat_map}
use Rattle.std.proofs.lemmas.Bool.{and_parts, or_parts, ltb-false}
use Rattle.ped_base.specs.Lists.{is_among}
use Rattle.ped_tree.specs.Tree.{DeclTree, ProgramTree}
use Rattle.ped_tree.specs.Accesses.{constant_names}
use Rattle.ped_tree.specs.Constants.NamedConstants.{value_named}
use Rattle.ped_tree.specs.Grammar.LimitNumbers.{most_loops_nested}
use Rattle.ped_tree.specs.Grammar.Fits.{decls_fit, stmts_fit, begins_with_statement, at_body}
use Rattle.ped_refs.specs.References.{references}
use Rattle.ped_refs.proofs.SizeLaws.Small.{small_program}
use Rattle.ped_symbols.specs.Uses.{decl_uses}
use Rattle.ped_symbols.specs.Declarations.{declared_in}
use Rattle.ped_symbols.specs.Sites.{Site, decl_sites, stmts_sites, program_sites, site_uses}
use Rattle.ped_symbols.specs.Values.{Values, site_fails}
use Rattle.ped_symbols.specs.Arrays.{Arrays}
use Rattle.ped_symbols.specs.StorageLimits.{most_elements_together, elements_of, has_large, have_many_elements}
use Rattle.ped_symbols.specs.NameRefusals.{uses_constant, at_first, behind_sites, IsValid}
use Rattle.ped_symbols.specs.Kinds.{kind_among, kind_of, at_last, names_at, names_of, kind_in}
use Rattle.ped_symbols.specs.RightUses.RightLoops.{loops_deep}
use Rattle.ped_symbols.specs.RightUses.RightPrograms.{IsRight}
use Rattle.ped_symbols.proofs.Collected.{decls_uses}
use Rattle.ped_symbols.proofs.RightUseLaws.Quiet.{AreQuiet, all_quiet, quiet_front, quiet_back, behind_append, no_constant_used, no_other_rank, few_elements, said, said_stays, none_fails, stmts_declare_nothing}
use Rattle.ped_symbols.proofs.RightUseLaws.Occurring.{among_first, once_first, occurs_first}
use Rattle.ped_symbols.proofs.RightUseLaws.Constants.{none_named}
use Rattle.ped_symbols.proofs.RightUseLaws.NamedValues.{named_have_values, unnamed_have_none}
use Rattle.ped_symbols.proofs.RightUseLaws.DeclaredArrays.{arrays_told}
use Rattle.ped_symbols.proofs.RightUseLaws.UseKinds.{Known, uses_right}
use Rattle.ped_symbols.proofs.RightUseLaws.Statements.{all_right, sites_in_front, sites_behind, stmts_right, saves_right}
use Rattle.ped_symbols.proofs.RightUseLaws.Loops.{deep_within, steps_right}
use Rattle.ped_symbols.proofs.RightUseLaws.NamedArrays.{kinds_right, few_elements_named}

-- the sites of the declarations of a program
abbrev first_sites : ProgramTree → List Site
first_sites t = flat_map decl_sites t.decls

quiet : (t : ProgramTree) → IsValid t → AreQuiet (declared_in t.decls) (references t) at_first (program_sites t)
quiet t v = all_quiet (declared_in t.decls) (references t) at_first [] (program_sites t) v.names

parts : (t : ProgramTree) → IsValid t → (decls_fit 0 t.decls ≡ true) × (stmts_fit (at_body t) t.body ≡ true)
parts t v = and_parts (decls_fit 0 t.decls) (stmts_fit (at_body t) t.body) (and_parts _ (begins_with_statement t.body) v.fits).0

-- all that the declarations say is what stands behind their sites
last_said : (t : ProgramTree) → said (at_last t) ≡ said (behind_sites at_first (first_sites t))
last_said t = ap said (behind_append at_first (first_sites t) (stmts_sites t.body)) ∙ said_stays (behind_sites at_first (first_sites t)) (stmts_sites t.body) (stmts_declare_nothing t.body)

known : (t : ProgramTree) → IsValid t → Known (declared_in t.decls) (at_last t).values (at_last t).arrays
known t v = subst (λ (s : Values × Arrays). Known (declared_in t.decls) s.0 s.1) (sym (last_said t)) (record {
  constants = λ x n. none_named at_first t.decls x n refl;
  unused = ap (list_any (uses_constant (declared_in t.decls))) (sym (decls_uses t.decls))
      ∙ no_constant_used (declared_in t.decls) (references t) at_first (first_sites t) (quiet_front (declared_in t.decls) (references t) at_first (first_sites t) (stmts_sites t.body) (quiet t v));
  told = arrays_told (declared_in t.decls) (references t) at_first 0 t.decls [] (quiet_front (declared_in t.decls) (references t) at_first (first_sites t) (stmts_sites t.body) (quiet t v)) (parts t v).0
      (record { ranks = refl; right = refl });
})

-- the names that occur have kinds
kind_there : (t : ProgramTree) (x : List ℕ) → is_among x (map (λ u. u.name) (flat_map site_uses (program_sites t))) ≡ true → kind_in t x ≡ Some (kind_of t x)
kind_there t x m = ap (λ (b : Bool). if b then Some (kind_of t x) else None) (among_first [] (names_at (program_sites t)) x m refl)

uses : (t : ProgramTree) → IsValid t → all_right (kind_in t) (flat_map site_uses (program_sites t)) ≡ true
uses t v = uses_right (declared_in t.decls) (at_last t).values (at_last t).arrays (known t v) (kind_in t) (flat_map site_uses (program_sites t)) (kind_there t)
    (no_constant_used (declared_in t.decls) (references t) at_first (program_sites t) (quiet t v))
    (no_other_rank (declared_in t.decls) (references t) at_first (program_sites t) (quiet t v))

saved : (t : ProgramTree) → IsValid t → all_right (kind_in t) (flat_map decl_uses t.decls) ≡ true
saved t v = ap (all_right (kind_in t)) (sym (decls_uses t.decls)) ∙ sites_in_front (kind_in t) (first_sites t) (stmts_sites t.body) (uses t v)

-- nothing fails at the sites of statements among the values of the program
nothing_fails : (t : ProgramTree) → IsValid t → list_any (site_fails (at_last t).values) (stmts_sites t.body) ≡ false
nothing_fails t v =
    ap (λ (s : Values × Arrays). list_any (site_fails s.0) (stmts_sites t.body)) (last_said t)
    ∙ none_fails (declared_in t.decls) (references t) (behind_sites at_first (first_sites t)) (stmts_sites t.body) (stmts_declare_nothing t.body)
    (quiet_back (declared_in t.decls) (references t) at_first (first_sites t) (stmts_sites t.body) (quiet t v))

elements_together : (t : ProgramTree) → IsValid t → elements_of (at_last t).arrays ≤ most_elements_together
elements_together t v =
    let few : have_many_elements (at_last t).arrays ≡ false = few_elements (declared_in t.decls) (references t) at_first (program_sites t) (quiet t v) refl in
    ltb-false most_elements_together (elements_of (at_last t).arrays) (or_parts (has_large (at_last t).arrays) (nat_lt most_elements_together (elements_of (at_last t).arrays)) few).1

pub right_program : (t : ProgramTree) → IsValid t → IsRight t
right_program t v =
    let together = elements_together t v in
    let deep : 0 + loops_deep t.body ≤ most_loops_nested = deep_within (at_body t) t.body (parts t v).1 (omega arith) in
    let right = (known t v).told.right in
    record {
      statements = stmts_right (kind_in t) (at_body t) t.body (sites_behind (kind_in t) (first_sites t) (stmts_sites t.body) (uses t v)) (parts t v).1;
      steps = steps_right (at_last t).values t.body (nothing_fails t v);
      nested = omega (arith, deep);
      few_statements = (small_program t v.fits).few_statements;
      saved = saves_right (kind_in t) t.decls (saved t v);
      arrays = right;
      kinds = kinds_right (at_last t).values (at_last t).arrays (names_of t) right;
      elements = together;
      kind_elements = let named = few_elements_named (at_last t).values (at_last t).arrays (names_of t) (once_first [] (names_at (program_sites t))) in omega (arith, named, together);
    }

-- the constants of a program are those behind its declarations
last_values : (t : ProgramTree) → (at_last t).values ≡ (behind_sites at_first (first_sites t)).values
last_values t = ap (λ (s : Values × Arrays). s.0) (last_said t)

-- each named constant of a valid program has a value
pub constants_valued : (t : ProgramTree) (x : List ℕ) → IsValid t → is_among x (constant_names t.decls) ≡ true → is_some (value_named (at_last t).values x) ≡ true
constants_valued t x v m =
    ap (λ (es : Values). is_some (value_named es x)) (last_values t)
    ∙ named_have_values (declared_in t.decls) (references t) at_first t.decls x (quiet_front (declared_in t.decls) (references t) at_first (first_sites t) (stmts_sites t.body) (quiet t v)) m

-- no other name has one
pub others_unvalued : (t : ProgramTree) (x : List ℕ) → is_among x (constant_names t.decls) ≡ false → value_named (at_last t).values x ≡ None
others_unvalued t x n = ap (λ (es : Values). value_named es x) (last_values t) ∙ unnamed_have_none at_first t.decls x n refl

-- what the declarations say is the same in programs with the same declarations
same_said : (t u : ProgramTree) → t.decls ≡ u.decls → said (at_last u) ≡ said (at_last t)
same_said t u e = last_said u ∙ ap (λ (ds : List DeclTree). said (behind_sites at_first (flat_map decl_sites ds))) (sym e) ∙ sym (last_said t)

pub same_values : (t u : ProgramTree) → t.decls ≡ u.decls → (at_last u).values ≡ (at_last t).values
same_values t u e = ap (λ (s : Values × Arrays). s.0) (same_said t u e)

-- and so is what a name stands for, where the same names occur
pub same_kinds : (t u : ProgramTree) → t.decls ≡ u.decls → ((y : List ℕ) → is_among y (names_of u) ≡ is_among y (names_of t)) → (y : List ℕ) → kind_in u y ≡ kind_in t y
same_kinds t u e names y = λ i. if names y i then Some (kind_among (same_said t u e i).0 (same_said t u e i).1 y) else None

-- the names that occur at sites occur in the program
pub names_occur : (t : ProgramTree) (y : List ℕ) → is_among y (names_of t) ≡ is_among y (names_at (program_sites t))
names_occur t y = occurs_first (names_at (program_sites t)) y
