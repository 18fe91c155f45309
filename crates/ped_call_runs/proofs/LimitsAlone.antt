-- With some of its CALLs expanded, a main program is refused for its names by limits alone.
use Rattle.std.proofs.Common.{◌≡◌, ℕ, ℤ, List, [], ◌∷◌, ◌++◌, map, length, not, Bool, true, false, Option, Some, None, refl, sym, ap, ◌∙◌, subst, append-nil, append_assoc, inl, inr, if◌then◌else◌}
use Rattle.std.specs.Prelude.{◌&&◌, ◌||◌, IsTrue}
use Rattle.std.specs.List.{list_any, flat_map}
use Rattle.std.proofs.lemmas.Bool.{and_parts, or_parts, or_left, or_right, not-false, both_ways}
use Rattle.std.proofs.lemmas.Grind.{flat_map-append}
use Rattle.std.proofs.lemmas.List.{map-append}
use Rattle.std.proofs.lemmas.List.Folds.{list_any-append}
use Rattle.ped_base.specs.Lists.{is_same_text, is_among}
use Rattle.ped_base.proofs.NameEquality.{same_itself}
use Rattle.ped_tree.proofs.NameLaws.Collected.{among_append}
use Rattle.ped_tree.specs.Accesses.{constant_names}
use Rattle.ped_tree.specs.Constants.NamedConstants.{value_named}
use Rattle.ped_tree.specs.Grammar.Fits.{decls_fit, stmts_fit, begins_with_statement, at_body, fits}
use Rattle.ped_tree.specs.Grammar.Refusal.{Finding, StorageLimit, first_of, IsAmong}
use Rattle.ped_tree.proofs.GrammarLaws.First.{first_is_least, none_stands}
use Rattle.ped_tree.specs.NamesIn.{cond_names, head_names, stmt_names, stmts_names, expr_names}
use Rattle.ped_tree.specs.Tree.{StmtTree, StmtTrees, Assign, If, Do, Print, Read, Stop, Comment, no_stmts, more_stmts, DeclTree, Program, Implicit, Integer, Dimension, Parameter, Save, Remark, ProgramTree}
use Rattle.ped_steps.specs.ped_refs.specs.References.{references}
use Rattle.ped_steps.specs.ped_symbols.specs.declared.symbols.Kind.{Kind}
use Rattle.ped_steps.specs.ped_symbols.specs.declared.symbols.Kind.TheVariants.{Scalar, Array, Constant}
use Rattle.ped_steps.specs.ped_symbols.specs.declared.uses.Role.TheVariants.{Rejected, Operand}
use Rattle.ped_steps.specs.ped_symbols.specs.declared.uses.Use.{Use}
use Rattle.ped_steps.specs.ped_symbols.specs.Declarations.{Declared, declared_in, is_implicit, program_name, is_naming, is_typing, names_with, is_typed, is_constant, is_program, is_real, begins_integer, given_rank, rank_of}
use Rattle.ped_steps.specs.ped_symbols.specs.Kinds.{kind_in, names_of, names_at}
use Rattle.ped_steps.specs.ped_symbols.specs.NameRefusals.{Before, at_first, behind_site, is_of_variable, subscripts_of, differs, has_twice, name_refusals}
use Rattle.ped_steps.specs.ped_symbols.specs.Sites.{Site, declaration, decl_sites, stmts_sites, program_sites, site_uses}
use Rattle.ped_steps.specs.ped_symbols.specs.Uses.{used_as, decl_uses}
use Rattle.ped_steps.specs.ped_symbols.specs.Values.{Values}
use Rattle.ped_steps.specs.ped_symbols.proofs.RightUseLaws.Constants.{names_append}
use Rattle.ped_steps.specs.ped_symbols.proofs.RightUseLaws.Occurring.{occurs_first}
use Rattle.ped_steps.specs.ped_symbols.proofs.RightUseLaws.Quiet.{stmts_declare_nothing}
use Rattle.ped_steps.specs.ped_symbols.proofs.RightUseLaws.Whole.{names_occur, others_unvalued}
use Rattle.ped_calls.specs.ped_units.specs.Forms.{Called}
use Rattle.ped_calls.specs.ped_units.specs.Units.{ProgramUnit, ProgramUnits, all_units, with_calls, all_with_calls}
use Rattle.ped_calls.specs.ped_units.specs.Refusals.{dimensioned, using_arguments, save_of_formals, for_names, lines_for_names, units_name_refusals}
use Rattle.ped_calls.specs.ped_units.specs.Linking.{IsIn, bounds_by}
use Rattle.ped_calls.specs.ped_units.specs.Verdicts.{first_calls, front_comments, behind_comments, partial, IsPast, ReadsLinkedUnits}
use Rattle.ped_calls.specs.ped_units.specs.Expanding.{Given, free_name, declared_as, name_meant, naming_arguments, constants_of, AllExpanded, nothing_given, main_expanded}
use Rattle.ped_steps.proofs.RunLaws.NamesKept.{occurs_append}
use Rattle.ped_call_runs.proofs.DeclaredAtLast.{behind_decls, last_values}
use Rattle.ped_call_runs.proofs.EachNames.{Each, each_front, each_behind, of_each}
use Rattle.ped_call_runs.proofs.ExpandedKinds.{undeclared}
use Rattle.ped_call_runs.proofs.FairStatements.{all_fair, AreKept, all_kept}
use Rattle.ped_call_runs.proofs.FreeWritten.{free_named}
use Rattle.ped_call_runs.proofs.GivenMore.{GivesMore, gives_same, statements_give}
use Rattle.ped_call_runs.proofs.NamesThere.{decls_uses, role_used, body_named}
use Rattle.ped_call_runs.proofs.NewArrays.{IsNiceKind, kind_nice, expansion_kept}
use Rattle.ped_call_runs.proofs.NewNames.{IsVariable, with_arrays, AreNiceDecls, nice_both, IsFresh, Sound, sound_first, sound_new, sound_local, old_rank, new_variable}
use Rattle.ped_call_runs.proofs.ProperCalls.{KnownUnit, Whole, calls_proper}
use Rattle.ped_call_runs.proofs.ProperSites.{IsProper, AreProper, AreProperSites, limits_alone, sites_both, AllProperAt, at_statements, none_before, none_behind}
use Rattle.ped_call_runs.proofs.ProperStatements.{AreWrittenStmts, written_stmts, NameMeans, variable, itself, Means, in_statements}
use Rattle.ped_call_runs.proofs.RightUnits.{shape_by, naming_constants, KnownName, at_declarations, at_body_sites, plain_no_constant, rank_is_shape, known_there}
use Rattle.ped_call_runs.proofs.SuitedUnits.{Reads, unit_suits, private_no_formals}
use Rattle.ped_call_runs.proofs.UnitForms.{RejectsIn, AllRejectsIn, UnitsSay, units_say}
use Rattle.ped_call_runs.proofs.UnitNames.{HasPlainNames, all_plain}
use Rattle.ped_call_runs.proofs.UnitsStand.{as_many, once}
use Rattle.ped_call_runs.proofs.WrittenNames.{IsName, AreNames, declared_names, all_declared, in_declared}

-- comments before the first statement have no sites, and need nothing
front_sites : (ss : StmtTrees) → flat_map decl_sites (front_comments ss) ≡ []
front_sites no_stmts = refl
front_sites (more_stmts (Assign l r) rest) = refl
front_sites (more_stmts (If c x y) rest) = refl
front_sites (more_stmts (Do h body) rest) = refl
front_sites (more_stmts (Print items) rest) = refl
front_sites (more_stmts (Read items) rest) = refl
front_sites (more_stmts Stop rest) = refl
front_sites (more_stmts (Comment text) rest) = front_sites rest

behind_sites_same : (ss : StmtTrees) → stmts_sites (behind_comments ss) ≡ stmts_sites ss
behind_sites_same no_stmts = refl
behind_sites_same (more_stmts (Assign l r) rest) = refl
behind_sites_same (more_stmts (If c x y) rest) = refl
behind_sites_same (more_stmts (Do h body) rest) = refl
behind_sites_same (more_stmts (Print items) rest) = refl
behind_sites_same (more_stmts (Read items) rest) = refl
behind_sites_same (more_stmts Stop rest) = refl
behind_sites_same (more_stmts (Comment text) rest) = behind_sites_same rest

behind_written : (ss : StmtTrees) → AreWrittenStmts (behind_comments ss) → AreWrittenStmts ss
behind_written no_stmts h = tt
behind_written (more_stmts (Assign l r) rest) h = h
behind_written (more_stmts (If c x y) rest) h = h
behind_written (more_stmts (Do head body) rest) h = h
behind_written (more_stmts (Print items) rest) h = h
behind_written (more_stmts (Read items) rest) h = h
behind_written (more_stmts Stop rest) h = h
behind_written (more_stmts (Comment text) rest) h = (tt, behind_written rest h)

-- what such comments declare
record SaysNothing (ds : List DeclTree) : Type 0 where
  implicit : list_any is_implicit ds ≡ false
  program : flat_map program_name ds ≡ []

front_says : (ss : StmtTrees) → SaysNothing (front_comments ss)
front_says no_stmts = record { implicit = refl; program = refl }
front_says (more_stmts (Assign l r) rest) = record { implicit = refl; program = refl }
front_says (more_stmts (If c x y) rest) = record { implicit = refl; program = refl }
front_says (more_stmts (Do h body) rest) = record { implicit = refl; program = refl }
front_says (more_stmts (Print items) rest) = record { implicit = refl; program = refl }
front_says (more_stmts (Read items) rest) = record { implicit = refl; program = refl }
front_says (more_stmts Stop rest) = record { implicit = refl; program = refl }
front_says (more_stmts (Comment text) rest) = let more = front_says rest in record { implicit = more.implicit; program = more.program }

arrays_say : (ds : List DeclTree) → AreNiceDecls ds → SaysNothing ds
arrays_say [] h = record { implicit = refl; program = refl }
arrays_say (t ∷ ds) h =
    let more = arrays_say ds h.1 in
    subst (λ (z : DeclTree). SaysNothing (z ∷ ds)) (sym h.0.is) (record { implicit = more.implicit; program = more.program })

arrays_name_none : (ds : List DeclTree) → AreNiceDecls ds → constant_names ds ≡ []
arrays_name_none [] h = refl
arrays_name_none (t ∷ ds) h = subst (λ (z : DeclTree). constant_names (z ∷ ds) ≡ []) (sym h.0.is) (arrays_name_none ds h.1)

or_none : (a b : Bool) → b ≡ false → a || b ≡ a
or_none true b h = refl
or_none false b h = h

says_both : (ds es : List DeclTree) → SaysNothing es → declared_in (ds ++ es) ≡ record { implicit = list_any is_implicit ds; program = flat_map program_name ds; uses = flat_map decl_uses ds ++ flat_map decl_uses es }
says_both ds es h = λ i. record {
  implicit = (list_any-append is_implicit ds es ∙ or_none (list_any is_implicit ds) (list_any is_implicit es) h.implicit) i;
  program = (flat_map-append program_name ds es ∙ ap (λ (xs : List (List ℕ)). flat_map program_name ds ++ xs) h.program ∙ append-nil (flat_map program_name ds)) i;
  uses = flat_map-append decl_uses ds es i;
}

-- declarations add their uses to those before
behind_uses : (b : Before) (ds : List DeclTree) → (behind_decls b ds).uses ≡ b.uses ++ flat_map decl_uses ds
behind_uses b [] = sym (append-nil b.uses)
behind_uses b (Program x ∷ ds) = behind_uses (behind_site b (declaration (Program x))) ds ∙ append_assoc b.uses [] (flat_map decl_uses ds)
behind_uses b (Implicit ∷ ds) = behind_uses (behind_site b (declaration Implicit)) ds ∙ append_assoc b.uses [] (flat_map decl_uses ds)
behind_uses b (Integer es ∷ ds) = behind_uses (behind_site b (declaration (Integer es))) ds ∙ append_assoc b.uses (decl_uses (Integer es)) (flat_map decl_uses ds)
behind_uses b (Dimension es ∷ ds) = behind_uses (behind_site b (declaration (Dimension es))) ds ∙ append_assoc b.uses (decl_uses (Dimension es)) (flat_map decl_uses ds)
behind_uses b (Parameter vs ∷ ds) = behind_uses (behind_site b (declaration (Parameter vs))) ds ∙ append_assoc b.uses (decl_uses (Parameter vs)) (flat_map decl_uses ds)
behind_uses b (Save names ∷ ds) = behind_uses (behind_site b (declaration (Save names))) ds ∙ append_assoc b.uses (decl_uses (Save names)) (flat_map decl_uses ds)
behind_uses b (Remark text ∷ ds) = behind_uses b ds

right_names : (us : List ProgramUnit) → units_name_refusals us ≡ [] → (u : ProgramUnit) → IsIn u us → name_refusals (lines_for_names u) (for_names u) ≡ []
right_names [] h u is = absurd is
right_names (v ∷ vs) h u (inl e) = ap (λ (w : ProgramUnit). name_refusals (lines_for_names w) (for_names w)) e ∙ none_before (name_refusals (lines_for_names v) (for_names v)) (units_name_refusals vs) h
right_names (v ∷ vs) h u (inr is) = right_names vs (none_behind (name_refusals (lines_for_names v) (for_names v)) (units_name_refusals vs) h) u is

-- the rejected names of loops are among those of statements
module _ (P : List ℕ → Type 0) where
  mutual
    rejected_in : (s : StmtTree) → Each P (stmt_names (with_calls naming_arguments s)) → RejectsIn (Each P) s
    rejected_in (Assign l r) h = tt
    rejected_in (If c x y) h =
        let xs = stmts_names (all_with_calls naming_arguments x) in
        let ys = stmts_names (all_with_calls naming_arguments y) in
        (all_rejected_in x (each_behind P (cond_names c) xs (each_front P (cond_names c ++ xs) ys h)), all_rejected_in y (each_behind P (cond_names c ++ xs) ys h))
    rejected_in (Do head body) h =
        let bs = stmts_names (all_with_calls naming_arguments body) in
        (each_front P head.rejected (head.variable ∷ (expr_names head.first ++ expr_names head.last ++ expr_names head.step ++ head.private)) (each_front P (head_names head) bs h), all_rejected_in body (each_behind P (head_names head) bs h))
    rejected_in (Print items) h = tt
    rejected_in (Read items) h = tt
    rejected_in Stop h = tt
    rejected_in (Comment text) h = tt

    all_rejected_in : (ss : StmtTrees) → Each P (stmts_names (all_with_calls naming_arguments ss)) → AllRejectsIn (Each P) ss
    all_rejected_in no_stmts h = tt
    all_rejected_in (more_stmts s rest) h =
        let first = stmt_names (with_calls naming_arguments s) in
        let others = stmts_names (all_with_calls naming_arguments rest) in
        (rejected_in s (each_front P first others h), all_rejected_in rest (each_behind P first others h))

real_kept : (a b c e : Bool) → (c ≡ true → e ≡ true) → (not a && not b && not c) ≡ false → (not a && not b && not e) ≡ false
real_kept true b c e f h = refl
real_kept false true c e f h = refl
real_kept false false true e f h = ap (λ (t : Bool). not false && not false && not t) (f refl)
real_kept false false false e f h = absurd cc

unprogrammed : (a b : Bool) → b ≡ false → a && not b ≡ false → a ≡ false
unprogrammed true b e h = let z : true ≡ false = (λ i. true && not (sym e i)) ∙ h in absurd cc
unprogrammed false b e h = refl

unmeant : (xs : List (List ℕ)) → map (name_meant []) xs ≡ xs
unmeant [] = refl
unmeant (x ∷ xs) = ap (λ (ys : List (List ℕ)). x ∷ ys) (unmeant xs)

module _ (text : List ℕ) (us : ProgramUnits) (m : ℕ) (reads : ReadsLinkedUnits text us) (fit : IsTrue (fits (partial us m))) where
  none : us.main.formals ≡ []
  none = reads.right.reads.are.0.headed.1

  say : UnitsSay us
  say = units_say text us reads.right.reads

  plain : (u : ProgramUnit) → IsIn u (all_units us) → HasPlainNames u
  plain = all_plain (all_units us) reads.right.names

  right : (u : ProgramUnit) → IsIn u (all_units us) → name_refusals (lines_for_names u) (for_names u) ≡ []
  right = right_names (all_units us) reads.right.names

  abbrev body : StmtTrees
  body = first_calls m us.main.tree.body

  abbrev made : AllExpanded Given
  made = main_expanded us body

  abbrev top : Given
  top = made.state

  abbrev main : ProgramTree
  main = for_names us.main

  abbrev d : Declared
  d = declared_in main.decls

  abbrev whole : Declared
  whole = with_arrays d top.arrays

  abbrev first : List (List ℕ)
  first = (nothing_given us).taken

  abbrev start : Before
  start = behind_decls at_first main.decls

  main_decls : main.decls ≡ us.main.tree.decls
  main_decls = λ i. save_of_formals (none i) ++ us.main.tree.decls

  all : GivesMore (nothing_given us) top
  all = statements_give (length us.others) us (constants_of us.main) [] body (nothing_given us)

  nice : (u : ProgramUnit) → IsIn u us.others → (x : List ℕ) → IsNiceKind (kind_in (for_names u) x)
  nice u is x = kind_nice (declared_in (for_names u).decls) (for_names u) (at_declarations (lines_for_names u) u (right u (inr is)) (say.ranked u (inr is))) x

  -- arrays are declared as they may be
  decls : AreNiceDecls top.arrays
  decls = expansion_kept us (λ g. AreNiceDecls g.arrays) (λ g h. h) (λ g u x is h. nice_both g.arrays (declared_as (free_name g.taken) (kind_in (for_names u) x)) h (own (free_name g.taken) (kind_in (for_names u) x) (nice u is x))) body tt
    where
      own : (y : List ℕ) (kind : Option Kind) → IsNiceKind kind → AreNiceDecls (declared_as y kind)
      own y None h = tt
      own y (Some Scalar) h = tt
      own y (Some (Constant n)) h = tt
      own y (Some (Array a)) h = (record { name = y; dimensions = a; nice = h; is = refl }, tt)

  parts : (decls_fit 0 (partial us m).decls ≡ true) × (stmts_fit (at_body (partial us m)) (partial us m).body ≡ true)
  parts = and_parts (decls_fit 0 (partial us m).decls) (stmts_fit (at_body (partial us m)) (partial us m).body) (and_parts _ (begins_with_statement (partial us m).body) fit).0

  written : AreWrittenStmts made.statements
  written = behind_written made.statements (written_stmts (at_body (partial us m)) (partial us m).body parts.1)

  names : AreNames (all_declared top.arrays)
  names =
      let front = front_comments made.statements in
      let two = us.main.tree.decls ++ top.arrays in
      let every = subst AreNames (flat_map-append declared_names two front) (in_declared 0 (two ++ front) parts.0) in
      each_behind IsName (all_declared us.main.tree.decls) (all_declared top.arrays) (subst AreNames (flat_map-append declared_names us.main.tree.decls top.arrays) (each_front IsName (all_declared two) (all_declared front) every))

  -- the arrays make no constants
  constant_same : (y : List ℕ) → is_constant whole y ≡ is_constant d y
  constant_same y =
      let arrays = flat_map decl_uses top.arrays in
      ap (is_among y) (names_append is_naming d.uses arrays ∙ ap (λ (xs : List (List ℕ)). names_with is_naming d.uses ++ xs) (naming_constants top.arrays ∙ arrays_name_none top.arrays decls) ∙ append-nil (names_with is_naming d.uses))

  typed_more : (y : List ℕ) → is_typed d y ≡ true → is_typed whole y ≡ true
  typed_more y h =
      let arrays = flat_map decl_uses top.arrays in
      ap (is_among y) (names_append is_typing d.uses arrays) ∙ among_append y (names_with is_typing d.uses) (names_with is_typing arrays) ∙ or_left _ _ h

  not_real : (y : List ℕ) → is_real d y ≡ false → is_real whole y ≡ false
  not_real y h = real_kept d.implicit (begins_integer y) (is_typed d y) (is_typed whole y) (typed_more y) h

  -- a name that isn't taken at first is fresh
  fresh : (y : List ℕ) → is_among y first ≡ false → IsFresh whole start y
  fresh y h = record {
    constant = constant_same y ∙ unnamed;
    program = ap (λ (ds : List DeclTree). is_among y (flat_map program_name ds)) main_decls ∙ two.1;
    unused = ap (λ (uses : List Use). is_among y (map (λ u. u.name) uses)) (behind_uses at_first main.decls) ∙ unused;
  }
    where
      program : List (List ℕ)
      program = flat_map program_name us.main.tree.decls

      two : (is_among y (names_of main) ≡ false) × (is_among y program ≡ false)
      two = or_parts (is_among y (names_of main)) (is_among y program) (sym (among_append y (names_of main) program) ∙ sym (occurs_first (names_of main ++ program) y) ∙ h)

      unused : is_among y (map (λ u. u.name) d.uses) ≡ false
      unused = ap (λ (uses : List Use). is_among y (map (λ u. u.name) uses)) (sym (decls_uses main.decls)) ∙ undeclared main y two.0

      unnamed : is_constant d y ≡ false
      unnamed = unused_constant (is_constant d y) refl
        where
          unused_constant : (t : Bool) → is_constant d y ≡ t → t ≡ false
          unused_constant false e = refl
          unused_constant true e = absurd (both_ways (is_among y (map (λ u. u.name) d.uses)) unused (role_used is_naming d.uses y e))

  sound : Sound us whole start fresh nice top
  sound = expansion_kept us (Sound us whole start fresh nice) (sound_new us whole start fresh nice) (sound_local us whole start fresh nice) body (sound_first us whole start fresh nice)

  -- a name of the main program is used as before
  taken : (x : List ℕ) → is_among x (names_of main) ≡ true → is_among x first ≡ true
  taken x h =
      let program : List (List ℕ) = flat_map program_name us.main.tree.decls in
      occurs_first (names_of main ++ program) x ∙ among_append x (names_of main) program ∙ ap (λ (t : Bool). t || is_among x program) h

  kept : (u : Use) → is_among u.name (names_of main) ≡ true → IsProper d u → IsProper whole u
  kept u there p = record {
    real = not_real u.name p.real;
    constant = ap (λ (t : Bool). is_of_variable u.role && t) (constant_same u.name) ∙ p.constant;
    program = ap (λ (t : Bool). is_program d u.name && not t) (constant_same u.name) ∙ p.program;
    rank = ap (λ (n : ℕ). differs n (subscripts_of u.role)) (old_rank us d top all decls names u.name (taken u.name there) (constant_same u.name)) ∙ p.rank;
    array = p.array;
  }

  all_kept_proper : (uses : List Use) → ((x : List ℕ) → is_among x (map (λ u. u.name) uses) ≡ true → is_among x (names_of main) ≡ true) → AreProper d uses → AreProper whole uses
  all_kept_proper [] there p = tt
  all_kept_proper (u ∷ uses) there p =
      (kept u (there u.name (or_left _ _ (same_itself u.name))) p.0, all_kept_proper uses (λ x h. there x (or_right (is_same_text x u.name) _ h)) p.1)

  sites_kept : (b : Before) (ss : List Site) → ((x : List ℕ) → is_among x (names_at ss) ≡ true → is_among x (names_of main) ≡ true) → AreProperSites d b ss → AreProperSites whole b ss
  sites_kept b [] there p = tt
  sites_kept b (s ∷ rest) there p = (
    record {
      uses = all_kept_proper (site_uses s) (λ x h. there x (split x ∙ or_left _ _ h)) p.0.uses;
      once = p.0.once;
      values = p.0.values;
      bounds = p.0.bounds;
    },
    sites_kept (behind_site b s) rest (λ x h. there x (split x ∙ or_right (is_among x (map (λ u. u.name) (site_uses s))) _ h)) p.1,
  )
    where
      split : (x : List ℕ) → is_among x (names_at (s ∷ rest)) ≡ is_among x (map (λ u. u.name) (site_uses s)) || is_among x (names_at rest)
      split x = ap (is_among x) (map-append (λ u. u.name) (site_uses s) (flat_map site_uses rest)) ∙ among_append x (map (λ u. u.name) (site_uses s)) (names_at rest)

  new : (g h : Given) → GivesMore (nothing_given us) g → GivesMore h top → (kind : Option Kind) → h.taken ≡ g.taken ++ free_name g.taken ∷ [] → h.arrays ≡ g.arrays ++ declared_as (free_name g.taken) kind → IsNiceKind kind
      → IsName (free_name g.taken) → IsVariable whole (free_name g.taken) (shape_by (bounds_by kind))
  new g h before later kind more same good is =
      let y = free_name g.taken in
      let free : is_among y g.taken ≡ false = free_named g.taken is in
      let at_start = fresh y (or_parts (is_among y first) (is_among y before.more) (sym (among_append y first before.more) ∙ ap (is_among y) (sym before.taken) ∙ free)).0 in
      let unused = ap (λ (uses : List Use). is_among y (map (λ u. u.name) uses)) (sym (behind_uses at_first main.decls)) ∙ at_start.unused in
      new_variable us d top all decls names g h before later kind more same good is unused at_start.constant at_start.program

  is_constant_there : (u : ProgramUnit) (x : List ℕ) (n : ℤ) → value_named (constants_of u) x ≡ Some n → is_constant (declared_in (for_names u).decls) x ≡ true
  is_constant_there u x n e = go (is_constant (declared_in (for_names u).decls) x) refl
    where
      go : (t : Bool) → is_constant (declared_in (for_names u).decls) x ≡ t → t ≡ true
      go true k = refl
      go false k = let z : None ≡ Some n = sym (others_unvalued (for_names u) x (ap (is_among x) (sym (naming_constants (for_names u).decls)) ∙ k)) ∙ e in absurd cc

  unit : (u : ProgramUnit) → IsIn u (all_units us) → KnownUnit us u
  unit u is = record {
    suits = all_fair us u u.tree.body (unit_suits us reads.linked u is (plain u is));
    own = private_no_formals us reads.linked u is;
    sites = at_body_sites (lines_for_names u) u (right u is) (say.ranked u is);
    ranks = λ x r p. rank_is_shape (lines_for_names u) u (right u is) (say.ranked u is) x p (body_named u x r);
    constant = is_constant_there u;
    formals = (plain u is).formals;
  }

  known : Whole us whole top
  known = record {
    linked = reads.linked;
    unit = unit;
    rejects = say.rejects;
    many = λ u v is c suits found. as_many us reads.linked plain u is c suits v found;
    once = λ v is. once us reads.linked plain v is;
    nice = nice;
    new = new;
  }

  -- each name of the main program stands for itself
  abbrev values : Values
  values = constants_of us.main

  known_name : (x : List ℕ) → is_among x (names_of main) ≡ true → KnownName d x
  known_name x there = known_there (lines_for_names us.main) us.main (right us.main (inl refl)) (say.ranked us.main (inl refl)) x (sym (names_occur main x) ∙ there)

  main_means : (x : List ℕ) → Reads us us.main x → NameMeans us whole values us.main values [] x
  main_means x r = go (value_named values x) refl
    where
      there : is_among x (names_of main) ≡ true
      there = body_named us.main x r

      name : KnownName d x
      name = known_name x there

      go : (o : Option ℤ) → value_named values x ≡ o → NameMeans us whole values us.main values [] x
      go (Some n) e =
          let none_there : rank_of d x ≡ 0 = ap (λ (t : Bool). if t then 0 else given_rank d.uses x) (is_constant_there us.main x n e) in
          itself refl n e e
          (kept (used_as (Operand 0) x) there (record { real = name.real; constant = refl; program = name.program; rank = ap (λ (k : ℕ). differs k (Some 0)) none_there; array = refl }))
          (λ role p. kept (used_as role x) there p)
      go None e =
          let no_constant = plain_no_constant (lines_for_names us.main) us.main (right us.main (inl refl)) (say.ranked us.main (inl refl)) x e in
          let ranked = rank_is_shape (lines_for_names us.main) us.main (right us.main (inl refl)) (say.ranked us.main (inl refl)) x e there in
          variable x refl e e ranked (λ is. record {
            real = not_real x name.real;
            constant = constant_same x ∙ no_constant;
            program = unprogrammed (is_program d x) (is_constant d x) no_constant name.program;
            rank = old_rank us d top all decls names x (taken x there) (constant_same x) ∙ ranked;
          })

  rejected_kept : (xs : List (List ℕ)) → Each (Reads us us.main) xs → AreProper d (map (used_as Rejected) xs) → AreProper whole (map (used_as Rejected) xs)
  rejected_kept [] r h = tt
  rejected_kept (x ∷ xs) r h = (kept (used_as Rejected x) (body_named us.main x r.0) h.0, rejected_kept xs r.1 h.1)

  context : Means us whole values us.main values [] (Each (Reads us us.main))
  context = record {
    means = main_means;
    fixed = λ x n r e. e;
    apart = λ xs writes own is h. ap has_twice (unmeant xs) ∙ h;
    rejects = rejected_kept;
  }

  rejected : AllRejectsIn (Each (Reads us us.main)) us.main.tree.body
  rejected = all_rejected_in (Reads us us.main) us.main.tree.body (of_each (Reads us us.main) (stmts_names (all_with_calls naming_arguments us.main.tree.body)) (λ x h. occurs_first (stmts_names (all_with_calls naming_arguments us.main.tree.body)) x ∙ h))

  of_main : KnownUnit us us.main
  of_main = unit us.main (inl refl)

  abbrev seen : Called → StmtTree
  seen = using_arguments (dimensioned us.main.tree.decls)

  fewer : AreKept us us.main (Each (Reads us us.main)) (λ x. is_among x us.main.formals ≡ false) d values seen body
  fewer = all_kept us us.main (Each (Reads us us.main)) (λ x. is_among x us.main.formals ≡ false) d values seen m us.main.tree.body (record { fair = of_main.suits; rejects = rejected; own = of_main.own; sites = of_main.sites })

  statements : AllProperAt whole values (stmts_sites made.statements)
  statements =
      in_statements us whole values us.main values [] (Each (Reads us us.main)) context top (length us.others)
      (calls_proper us whole values top known (length us.others) us.main (inl refl) values [] (Each (Reads us us.main)) context)
      body (nothing_given us) fewer.fair fewer.rejects fewer.own fewer.sites written (gives_same (nothing_given us)) (gives_same top)

  -- the declarations of the main program, the new ones, and the statements
  abbrev first_sites : List Site
  first_sites = flat_map decl_sites main.decls

  abbrev new_sites : List Site
  new_sites = flat_map decl_sites top.arrays

  main_proper : AreProperSites whole at_first first_sites
  main_proper =
      sites_kept at_first first_sites (λ x h. names_occur main x ∙ occurs_append x first_sites (stmts_sites main.body) ∙ or_left _ _ h)
      (at_declarations (lines_for_names us.main) us.main (right us.main (inl refl)) (say.ranked us.main (inl refl)))

  same_values : (behind_decls start top.arrays).values ≡ values
  same_values = ap (λ (ds : List DeclTree). (behind_decls start ds).values) all.arrays ∙ all.values start ∙ sym (last_values main)

  statements_proper : AreProperSites whole (behind_decls start top.arrays) (stmts_sites made.statements)
  statements_proper =
      at_statements whole (behind_decls start top.arrays) (stmts_sites made.statements) (stmts_declare_nothing made.statements)
      (subst (λ (vs : Values). AllProperAt whole vs (stmts_sites made.statements)) (sym same_values) statements)

  proper : AreProperSites whole at_first (first_sites ++ (new_sites ++ stmts_sites made.statements))
  proper =
      sites_both whole at_first first_sites (new_sites ++ stmts_sites made.statements) main_proper
      (sites_both whole start new_sites (stmts_sites made.statements) (sound.proper names) statements_proper)

  abbrev two : List DeclTree
  two = us.main.tree.decls ++ top.arrays

  abbrev comments : List DeclTree
  comments = front_comments made.statements

  same_sites : program_sites (partial us m) ≡ first_sites ++ (new_sites ++ stmts_sites made.statements)
  same_sites =
      (λ i. (flat_map-append decl_sites two comments ∙ ap (λ (xs : List Site). flat_map decl_sites two ++ xs) (front_sites made.statements) ∙ append-nil (flat_map decl_sites two) ∙ flat_map-append decl_sites us.main.tree.decls top.arrays) i ++ behind_sites_same made.statements i)
      ∙ append_assoc (flat_map decl_sites us.main.tree.decls) new_sites (stmts_sites made.statements)
      ∙ ap (λ (ds : List DeclTree). flat_map decl_sites ds ++ (new_sites ++ stmts_sites made.statements)) (sym main_decls)

  no_uses : flat_map decl_uses comments ≡ []
  no_uses = sym (decls_uses comments) ∙ ap (flat_map site_uses) (front_sites made.statements)

  same_declared : declared_in (partial us m).decls ≡ whole
  same_declared =
      says_both two comments (front_says made.statements)
      ∙ (λ i. record { implicit = list_any is_implicit two; program = flat_map program_name two; uses = (ap (λ (xs : List Use). flat_map decl_uses two ++ xs) no_uses ∙ append-nil (flat_map decl_uses two)) i })
      ∙ says_both us.main.tree.decls top.arrays (arrays_say top.arrays decls)
      ∙ ap (λ (ds : List DeclTree). with_arrays (declared_in ds) top.arrays) (sym main_decls)

  in_list : (f : Finding) (fs : List Finding) → IsAmong f fs → IsIn f fs
  in_list f [] h = absurd h
  in_list f (g ∷ fs) (inl e) = inl e
  in_list f (g ∷ fs) (inr h) = inr (in_list f fs h)

  -- what is refused for its names is a limit
  pub limits_only : (f : Finding) → IsAmong f (name_refusals [] (partial us m)) → f.refusal ≡ StorageLimit
  limits_only f is =
      limits_alone (declared_in (partial us m).decls) (references (partial us m)) at_first [] (program_sites (partial us m))
      (subst (λ (e : Declared). AreProperSites e at_first (program_sites (partial us m))) (sym same_declared) (subst (AreProperSites whole at_first) (sym same_sites) proper)) f (in_list f (name_refusals [] (partial us m)) is)

-- where the limit of storage and references is passed in expanding, that is what is refused first
pub storage_first : (text : List ℕ) (us : ProgramUnits) (m : ℕ) → ReadsLinkedUnits text us → IsPast us m StorageLimit → (f : Finding) × (first_of (name_refusals [] (partial us m)) ≡ Some f) × (f.refusal ≡ StorageLimit)
storage_first text us m reads past = go (first_of (name_refusals [] (partial us m))) refl
  where
    fit : IsTrue (fits (partial us m))
    fit = not-false (fits (partial us m)) (or_parts _ (not (fits (partial us m))) past.0).1

    go : (o : Option Finding) → first_of (name_refusals [] (partial us m)) ≡ o → (f : Finding) × (first_of (name_refusals [] (partial us m)) ≡ Some f) × (f.refusal ≡ StorageLimit)
    go None e = absurd (past.1 (none_stands (name_refusals [] (partial us m)) e))
    go (Some f) e = (f, e, limits_only text us m reads fit f (first_is_least (name_refusals [] (partial us m)) f e).0)
