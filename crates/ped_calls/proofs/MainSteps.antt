-- The units of a file by their numbers, and the statements of its main program.
use Rattle.std.proofs.Common.{◌≡◌, ◌<◌, ◌≤◌, ◌+◌, ◌-◌, ℕ, suc, List, [], ◌∷◌, map, length, drop, get_or, ◌++◌, Bool, true, false, Some, None, refl, sym, ap, subst, ◌∙◌, option_map, arith, if◌then◌else◌}
use Rattle.std.specs.Prelude.{slice_get}
use Rattle.std.proofs.lemmas.List.{length-map, length-drop}
use Rattle.std.proofs.lemmas.Option.{slice_get-map, same_Some}
use Rattle.std.specs.List.{flat_map}
use Rattle.ped_tree.specs.Tree.{StmtTrees, DeclTree}
use Rattle.ped_tree.specs.Numbering.{statements_count}
use Rattle.ped_tree.specs.Grammar.LimitNumbers.{most_statements}
use Rattle.ped_tree.specs.NamesIn.{first_occurrences}
use Rattle.ped_tree.specs.Names.Collecting.{with_name, with_names}
use Rattle.ped_tree.specs.Views.{decl_tree, stmt_trees}
use Rattle.ped_links.specs.ped_symbols.specs.declared.symbols.Kind.{Kind}
use Rattle.ped_links.specs.ped_symbols.specs.Declarations.{program_name}
use Rattle.ped_base.specs.Lists.{is_same_text}
use Rattle.ped_links.specs.ped_symbols.specs.Kinds.{Table, table_of, kind_of, names_of}
use Rattle.ped_links.specs.ped_symbols.specs.Values.{Values}
use Rattle.ped_links.specs.ped_units.specs.Units.{ProgramUnits, unit_of, unit_among}
use Rattle.ped_links.specs.ped_units.specs.Units as units
use Rattle.ped_links.specs.Numbers.{number_among, number_of_unit}
use Rattle.ped_links.specs.ped_units.specs.Refusals.{for_names}
use Rattle.ped_links.specs.ped_units.specs.Expanding.{Given, Meanings, all_expanded_in, call_expanded, main_call_expanded, main_expanded, with_statements, constants_of, nothing_given}
use Rattle.ped_calls.specs.Giving.{given_of}
use Rattle.ped_links.specs.ped_units.specs.Naming.{AreTables}
use Rattle.ped_links.specs.ped_units.specs.Views.{program_unit_of}
use Rattle.ped_calls.specs.Courses.{units_of, Passes, AreTooDeep, StopsAt}
use Rattle.ped_calls.specs.declared.expanding.Stopped.{Stopped}
use Rattle.ped_calls.specs.declared.expanding.Stopped.TheVariants.{Past, OutOfMemory}
use Rattle.ped_calls.specs.declared.expanding.Course.{Course}
use Rattle.ped_links.specs.ped_units.specs.declared.units.ProgramUnit.{ProgramUnit}

-- where nothing stands for names, CALLs are expanded as those of the main program
pub main_same : (us : ProgramUnits) (m : Meanings) (deeper : ℕ) (cs : Values) (ss : StmtTrees) (g : Given) → m ≡ [] → deeper ≡ length us.others → cs ≡ constants_of us.main
    → all_expanded_in m (call_expanded deeper us cs) ss g ≡ all_expanded_in [] (main_call_expanded us) ss g
main_same us m deeper cs ss g hm hd hc = λ i. all_expanded_in (hm i) (call_expanded (hd i) us (hc i)) ss g

-- how many subroutines there are
pub others_count : (us : List ProgramUnit) → length us - 1 ≡ length (units_of us).others
others_count us = omega (arith, length-drop 1 (map program_unit_of us), length-map us program_unit_of)

-- a unit by its number among units from a number on
pub record NumberedUnit (us : List units.ProgramUnit) (n : ℕ) (x : List ℕ) (k : ℕ) : Type 0 where
  pub place : ℕ
  pub is : k ≡ n + place
  pub below : place < length us
  pub unit : slice_get us place ≡ unit_among us x

number_by : (u : units.ProgramUnit) (us : List units.ProgramUnit) (n : ℕ) (x : List ℕ) (k : ℕ) (b : Bool) → is_same_text x u.name ≡ b → (if b then Some n else number_among us (n + 1) x) ≡ Some k
    → (number_among us (n + 1) x ≡ Some k → NumberedUnit us (n + 1) x k) → NumberedUnit (u ∷ us) n x k
number_by u us n x k true e m others =
    let same : n ≡ k = cc in
    record { place = 0; is = omega (arith, same); below = omega arith; unit = ap (λ (b : Bool). if b then Some u else unit_among us x) (sym e) }
number_by u us n x k false e m others =
    let more = others m in
    let is = more.is in
    let below = more.below in
    record { place = suc more.place; is = omega (arith, is); below = omega (arith, below); unit = more.unit ∙ ap (λ (b : Bool). if b then Some u else unit_among us x) (sym e) }

pub number_found : (us : List units.ProgramUnit) (n : ℕ) (x : List ℕ) (k : ℕ) → number_among us n x ≡ Some k → NumberedUnit us n x k
number_found [] n x k h = absurd cc
number_found (u ∷ us) n x k h = number_by u us n x k (is_same_text x u.name) refl h (number_found us (n + 1) x k)

missing_by : (u : units.ProgramUnit) (us : List units.ProgramUnit) (n : ℕ) (x : List ℕ) (b : Bool) → is_same_text x u.name ≡ b → (if b then Some n else number_among us (n + 1) x) ≡ None
    → (number_among us (n + 1) x ≡ None → unit_among us x ≡ None) → unit_among (u ∷ us) x ≡ None
missing_by u us n x true e m others = absurd cc
missing_by u us n x false e m others = ap (λ (b : Bool). if b then Some u else unit_among us x) e ∙ others m

pub number_missing : (us : List units.ProgramUnit) (n : ℕ) (x : List ℕ) → number_among us n x ≡ None → unit_among us x ≡ None
number_missing [] n x h = refl
number_missing (u ∷ us) n x h = missing_by u us n x (is_same_text x u.name) refl h (number_missing us (n + 1) x)

behind_first : (us : List units.ProgramUnit) (place : ℕ) → slice_get us (1 + place) ≡ slice_get (drop 1 us) place
behind_first [] place = refl
behind_first (u ∷ us) place = let more : 1 + place ≡ suc place = omega arith in ap (slice_get (u ∷ us)) more

below_first : (us : List units.ProgramUnit) (place : ℕ) → place < length (drop 1 us) → 1 + place < length us
below_first [] place h = absurd (omega (arith, h))
below_first (u ∷ us) place h = omega (arith, h)

-- the number of a subroutine is below the count of units
pub number_below : (us : List ProgramUnit) (x : List ℕ) (k : ℕ) → number_of_unit (map program_unit_of us) x ≡ Some k → k < length us
number_below us x k h =
    let found = number_found (drop 1 (map program_unit_of us)) 1 x k h in
    let below = below_first (map program_unit_of us) found.place found.below in
    let is = found.is in
    omega (arith, below, is, length-map us program_unit_of)

-- the subroutine with a number
pub unit_found : (us : List ProgramUnit) (x : List ℕ) (k : ℕ) (u : ProgramUnit) → number_of_unit (map program_unit_of us) x ≡ Some k → slice_get us k ≡ Some u → unit_of (units_of us) x ≡ Some (program_unit_of u)
unit_found us x k u h is =
    let found = number_found (drop 1 (map program_unit_of us)) 1 x k h in
    sym found.unit
    ∙ sym (behind_first (map program_unit_of us) found.place)
    ∙ ap (slice_get (map program_unit_of us)) (sym found.is)
    ∙ slice_get-map program_unit_of us k
    ∙ ap (option_map program_unit_of) is

-- a table by the number of its unit
pub table_found : (us : List ProgramUnit) (tables : List Table) (n : ℕ) (u : ProgramUnit) (t : Table) → AreTables (map program_unit_of us) tables → slice_get us n ≡ Some u → slice_get tables n ≡ Some t
    → t ≡ table_of (for_names (program_unit_of u))
table_found us tables n u t are is there =
    let found : slice_get tables n ≡ Some (table_of (for_names (program_unit_of u))) =
    ap (λ (ts : List Table). slice_get ts n) are
    ∙ slice_get-map (λ v. table_of (for_names v)) (map program_unit_of us) n
    ∙ ap (option_map (λ v. table_of (for_names v))) (slice_get-map program_unit_of us n ∙ ap (option_map program_unit_of) is) in
    same_Some t (table_of (for_names (program_unit_of u))) (sym there ∙ found)

-- there are as many tables as units
pub tables_count : (us : List ProgramUnit) (tables : List Table) → AreTables (map program_unit_of us) tables → length tables ≡ length us
tables_count us tables are = ap length are ∙ length-map (map program_unit_of us) (λ u. table_of (for_names u)) ∙ length-map us program_unit_of

-- the table of the main program
pub main_table : (us : List ProgramUnit) (tables : List Table) (t : Table) → 0 < length us → AreTables (map program_unit_of us) tables → t ≡ get_or tables 0 t → t ≡ table_of (for_names (units_of us).main)
main_table [] tables t some are h = absurd (omega (arith, some))
main_table (u ∷ us) tables t some are h = h ∙ ap (λ (ts : List Table). get_or ts 0 t) are

-- the main program
pub main_unit : (us : List ProgramUnit) (u : ProgramUnit) → 0 < length us → u ≡ get_or us 0 u → program_unit_of u ≡ (units_of us).main
main_unit [] u some h = absurd (omega (arith, some))
main_unit (v ∷ us) u some h = ap program_unit_of h

first_parts : (f : List ℕ → Kind) (xs : List (List ℕ)) → map (λ (e : List ℕ × Kind). e.0) (map (λ x. (x, f x)) xs) ≡ xs
first_parts f [] = refl
first_parts f (x ∷ xs) = ap (λ (rest : List (List ℕ)). x ∷ rest) (first_parts f xs)

-- what is taken before the first CALL
pub nothing_yet : (us : List ProgramUnit) (tables : List Table) (t : Table) (u : ProgramUnit) (taken : List (List ℕ)) → 0 < length us → AreTables (map program_unit_of us) tables → t ≡ get_or tables 0 t → u ≡ get_or us 0 u
    → taken ≡ first_occurrences [] (map (λ (e : List ℕ × Kind). e.0) t.kinds ++ flat_map program_name (map decl_tree u.program.decls.items))
    → record { taken = taken; arrays = [] } ≡ nothing_given (units_of us)
nothing_yet us tables t u taken some are ht hu h =
    let main = (units_of us).main in
    let names : map (λ (e : List ℕ × Kind). e.0) t.kinds ≡ names_of (for_names main) =
    ap (λ (x : Table). map (λ (e : List ℕ × Kind). e.0) x.kinds) (main_table us tables t some are ht) ∙ first_parts (kind_of (for_names main)) (names_of (for_names main)) in
    let decls : map decl_tree u.program.decls.items ≡ main.tree.decls = ap (λ (v : units.ProgramUnit). v.tree.decls) (main_unit us u some hu) in
    let is : taken ≡ first_occurrences [] (names_of (for_names main) ++ flat_map program_name main.tree.decls) = h ∙ (λ i. first_occurrences [] (names i ++ flat_map program_name (decls i))) in
    λ i. record { taken = is i; arrays = [] }

-- names that are added behind others
pub with_both : (a xs ys : List (List ℕ)) → with_names (with_names a xs) ys ≡ with_names a (xs ++ ys)
with_both a [] ys = refl
with_both a (x ∷ xs) ys = with_both (with_name a x) xs ys

-- the statements of the main program
pub main_body : (us : List ProgramUnit) (u : ProgramUnit) → 0 < length us → u ≡ get_or us 0 u → stmt_trees u.program.body.items ≡ (units_of us).main.tree.body
main_body us u some h = ap (λ (v : units.ProgramUnit). v.tree.body) (main_unit us u some h)

-- the main program by its place
pub main_there : (us : List ProgramUnit) (d : ProgramUnit) → 0 < length us → program_unit_of (get_or us 0 d) ≡ (units_of us).main
main_there [] d some = absurd (omega (arith, some))
main_there (v ∷ us) d some = refl

-- its declarations
pub main_decls : (us : List ProgramUnit) (u : ProgramUnit) → 0 < length us → u ≡ get_or us 0 u → map decl_tree u.program.decls.items ≡ (units_of us).main.tree.decls
main_decls us u some h = ap (λ (v : units.ProgramUnit). v.tree.decls) (main_unit us u some h)

-- the main program with statements that were expanded from the start
pub expanded_from : (us : ProgramUnits) (ss : StmtTrees) (start given : Given) (decls arrays : List DeclTree) (body : StmtTrees) → start ≡ nothing_given us → decls ≡ us.main.tree.decls → arrays ≡ given.arrays
    → body ≡ (all_expanded_in [] (main_call_expanded us) ss start).statements → given ≡ (all_expanded_in [] (main_call_expanded us) ss start).state
    → record { decls = decls ++ arrays; body = body } ≡ with_statements us (main_expanded us ss)
expanded_from us ss start given decls arrays body first d a b g =
    let all = all_expanded_in [] (main_call_expanded us) ss in
    let made : arrays ≡ (all (nothing_given us)).state.arrays = a ∙ ap (λ (x : Given). x.arrays) g ∙ ap (λ (x : Given). (all x).state.arrays) first in
    let stated : body ≡ (all (nothing_given us)).statements = b ∙ ap (λ (x : Given). (all x).statements) first in
    λ i. record { decls = d i ++ made i; body = stated i }

-- there was room for them
pub went_on : (us : ProgramUnits) (ss : StmtTrees) (later room : ℕ) (start new : Course) → given_of start.given ≡ nothing_given us → start.room ≡ room → room + statements_count us.main.tree.body ≡ most_statements
    → statements_count ss + later ≡ statements_count us.main.tree.body
    → new.room + statements_count (all_expanded_in [] (main_call_expanded us) ss (given_of start.given)).statements ≡ start.room + statements_count ss
    → statements_count (main_expanded us ss).statements + later ≤ most_statements
went_on us ss later room start new first has whole counted goes =
    let same : statements_count (all_expanded_in [] (main_call_expanded us) ss (given_of start.given)).statements ≡ statements_count (main_expanded us ss).statements =
    ap (λ (g : Given). statements_count (all_expanded_in [] (main_call_expanded us) ss g).statements) first in
    omega (arith, same, has, whole, counted, goes)

-- there was none
pub stopped_from : (us : ProgramUnits) (ss : StmtTrees) (room : ℕ) (start : Course) (e : Stopped) → e ≡ Past → given_of start.given ≡ nothing_given us → start.room ≡ room
    → StopsAt e (Passes start.room (statements_count ss) (statements_count (all_expanded_in [] (main_call_expanded us) ss (given_of start.given)).statements) (AreTooDeep 0 (all_expanded_in [] (main_call_expanded us) ss (given_of start.given)).statements))
    → Passes room (statements_count ss) (statements_count (main_expanded us ss).statements) (AreTooDeep 0 (main_expanded us ss).statements)
stopped_from us ss room start OutOfMemory past first has h = absurd cc
stopped_from us ss room start Past past first has h =
    let all = all_expanded_in [] (main_call_expanded us) ss in
    let by_given = subst (λ (g : Given). Passes start.room (statements_count ss) (statements_count (all g).statements) (AreTooDeep 0 (all g).statements)) first h in
    subst (λ (n : ℕ). Passes n (statements_count ss) (statements_count (main_expanded us ss).statements) (AreTooDeep 0 (main_expanded us ss).statements)) has by_given
