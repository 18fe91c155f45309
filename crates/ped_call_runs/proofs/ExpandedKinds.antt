-- What names stand for in an expansion: those of the main program what they stood for, and new names what they were given to.
use Rattle.std.proofs.Common.{◌≡◌, ℕ, suc, ℤ, unsigned_abs, nat_le, nat_lt, length, List, [], ◌∷◌, ◌++◌, Bool, true, false, ◌&&◌, ◌||◌, Option, Some, None, IfSome, All, refl, sym, ap, ◌∙◌, subst, arith, append-nil, if◌then◌else◌}
use Rattle.std.specs.List.{flat_map}
use Rattle.std.proofs.lemmas.Bool.{or_parts}
use Rattle.std.proofs.lemmas.Grind.{flat_map-append}
use Rattle.std.proofs.lemmas.List.Elements.{All-nil, All-cons, All-append}
use Rattle.std.proofs.lemmas.Map.Entries.{All-lookup}
use Rattle.ped_base.specs.Dimensions.{Dimensions}
use Rattle.ped_base.specs.Lists.{has_some, is_same_text, is_among}
use Rattle.ped_base.proofs.NameEquality.{same_itself}
use Rattle.ped_tree.proofs.NameLaws.Collected.{among_append}
use Rattle.ped_tree.specs.Constants.NamedConstants.{value_named}
use Rattle.ped_tree.specs.Grammar.LimitNumbers.{most_dimensions}
use Rattle.ped_tree.specs.Grammar.Words.{is_name}
use Rattle.ped_tree.specs.Tree.{ExprTree, BoundTree, DeclaratorTree, DeclTree, ProgramTree}
use Rattle.ped_steps.specs.ped_symbolic.specs.Arithmetic.{literal}
use Rattle.ped_steps.specs.ped_symbols.specs.Arrays.{Arrays, with_dimension, bounds_values, with_bounds, by_bounds, arrays_of, arrays_in}
use Rattle.ped_steps.specs.ped_symbols.specs.declared.symbols.Kind.{Kind}
use Rattle.ped_steps.specs.ped_symbols.specs.declared.symbols.Kind.TheVariants.{Scalar, Array, Constant}
use Rattle.ped_steps.specs.ped_symbols.specs.Declarations.{program_name}
use Rattle.ped_steps.specs.ped_symbols.specs.Entries.{entry_of}
use Rattle.ped_steps.specs.ped_symbols.specs.Kinds.{at_last, kind_by, kind_of, kind_in, names_of}
use Rattle.ped_steps.specs.ped_symbols.specs.NameRefusals.{Before, at_first, behind_site, behind_sites}
use Rattle.ped_steps.specs.ped_symbols.specs.Sites.{Site, declaration, statement, private_names, decl_sites, stmts_sites, program_sites}
use Rattle.ped_steps.specs.ped_symbols.specs.Values.{Values, fixed_value, declarators}
use Rattle.ped_steps.specs.ped_symbols.proofs.RightUseLaws.Occurring.{occurs_first}
use Rattle.ped_steps.specs.ped_symbols.proofs.RightUseLaws.Whole.{names_occur, others_unvalued}
use Rattle.ped_calls.specs.Giving.{IsSmall}
use Rattle.ped_calls.specs.ped_units.specs.Units.{ProgramUnits}
use Rattle.ped_calls.specs.ped_units.specs.Refusals.{save_of_formals, for_names}
use Rattle.ped_calls.specs.ped_units.specs.Expanding.{Given, free_name, literal_bounds, declared_as, constants_of, nothing_given, main_expanded, expansion}
use Rattle.ped_calls.proofs.SmallKinds.{small_fixed}
use Rattle.ped_steps.specs.ped_store.specs.Variables.{no_dimensions}
use Rattle.ped_steps.specs.ped_eval.specs.Outcomes.{bounds_of}
use Rattle.ped_steps.proofs.RunLaws.DeclaredArrays.{entry_behind, no_constant, unsaid, literal_fixed}
use Rattle.ped_steps.proofs.RunLaws.NamesKept.{occurs, occurs_append}
use Rattle.ped_call_runs.proofs.EachNames.{each_behind}
use Rattle.ped_call_runs.proofs.FreeWritten.{free_named}
use Rattle.ped_call_runs.proofs.WrittenNames.{IsName, AreNames, declared_names, all_declared}
use Rattle.ped_call_runs.proofs.DeclaredAtLast.{behind_decls, behind_both, last_values, last_arrays}
use Rattle.ped_call_runs.proofs.GivenMore.{GivesMore, statements_give}

-- a name that doesn't occur in a program occurs in none of its declarations
pub undeclared : (t : ProgramTree) (x : List ℕ) → is_among x (names_of t) ≡ false → occurs x (flat_map decl_sites t.decls) ≡ false
undeclared t x h = (or_parts (occurs x (flat_map decl_sites t.decls)) (occurs x (stmts_sites t.body)) (sym (occurs_append x (flat_map decl_sites t.decls) (stmts_sites t.body)) ∙ sym (names_occur t x) ∙ h)).0

-- so it is no array and no named constant
pub no_array : (t : ProgramTree) (x : List ℕ) → is_among x (names_of t) ≡ false → entry_of (behind_decls at_first t.decls).arrays x ≡ None
no_array t x h = unsaid at_first t.decls x (undeclared t x h) refl

pub no_value : (t : ProgramTree) (x : List ℕ) → is_among x (names_of t) ≡ false → value_named (at_last t).values x ≡ None
no_value t x h = others_unvalued t x (no_constant t.decls x (undeclared t x h))

-- the bounds of a name, by its value and its bounds in declarations
abbrev pub bounds_by_entries : Option ℤ → Option Dimensions → Dimensions
bounds_by_entries (Some n) d = no_dimensions
bounds_by_entries None None = no_dimensions
bounds_by_entries None (Some d) = d

by_entries : (n : Option ℤ) (d : Option Dimensions) → bounds_of (Some (kind_by n d)) ≡ bounds_by_entries n d
by_entries (Some n) d = refl
by_entries None None = refl
by_entries None (Some d) = refl

no_bounds : (n : Option ℤ) → no_dimensions ≡ bounds_by_entries n None
no_bounds (Some n) = refl
no_bounds None = refl

pub bounds_said : (t : ProgramTree) (x : List ℕ) → bounds_of (kind_in t x) ≡ bounds_by_entries (entry_of (at_last t).values x) (entry_of (at_last t).arrays x)
bounds_said t x = go (is_among x (names_of t)) refl
  where
    go : (b : Bool) → is_among x (names_of t) ≡ b → bounds_of (if b then Some (kind_of t x) else None) ≡ bounds_by_entries (entry_of (at_last t).values x) (entry_of (at_last t).arrays x)
    go true e = by_entries (entry_of (at_last t).values x) (entry_of (at_last t).arrays x)
    go false e =
        no_bounds (entry_of (at_last t).values x)
        ∙ ap (bounds_by_entries (entry_of (at_last t).values x)) (sym (ap (λ (es : Arrays). entry_of es x) (last_arrays t) ∙ no_array t x e))

-- bounds that literals give again
pub record AreGivenAgain (d : Dimensions) : Type 0 where
  pub again : (values : Values) (x : List ℕ) → by_bounds values x (literal_bounds d.lower d.upper) ≡ (x, d) ∷ []

pub small_literal : (values : Values) (n : ℤ) → IsSmall n → fixed_value values (literal n) ≡ Some n
small_literal values n h = literal_fixed values n (go (nat_lt 2147483647 (unsigned_abs n)) refl)
  where
    go : (b : Bool) → nat_lt 2147483647 (unsigned_abs n) ≡ b → b ≡ false
    go false e = refl
    go true e = absurd (grind (arith, h, e))

pub is_small : (values : Values) (e : ExprTree) (n : ℤ) → fixed_value values e ≡ Some n → IsSmall n
is_small values e n h = subst (λ (o : Option ℤ). IfSome o IsSmall) h (small_fixed values e)

record IsGivenBy (values : Values) (bs : List BoundTree) (d : Dimensions) : Type 0 where
  long : length (literal_bounds d.lower d.upper) ≡ length bs
  some : has_some (literal_bounds d.lower d.upper) ≡ has_some bs
  same : (others : Values) → bounds_values others (literal_bounds d.lower d.upper) ≡ Some d

abbrev pub or_that : Dimensions → Option Dimensions → Dimensions
or_that a None = a
or_that a (Some d) = d

pub one : (a d : Dimensions) → Some a ≡ Some d → a ≡ d
one a d e = ap (or_that a) e

given_by : (values : Values) (bs : List BoundTree) (d : Dimensions) → bounds_values values bs ≡ Some d → IsGivenBy values bs d
given_by values [] d h = subst (IsGivenBy values []) (one (record { lower = []; upper = [] }) d h) (record { long = refl; some = refl; same = λ others. refl })
given_by values (b ∷ bs) d h = go (given_by values bs) (fixed_value values b.lower) (fixed_value values b.upper) (bounds_values values bs) refl refl refl h
  where
    go : ((rest : Dimensions) → bounds_values values bs ≡ Some rest → IsGivenBy values bs rest) → (l u : Option ℤ) (o : Option Dimensions) → fixed_value values b.lower ≡ l → fixed_value values b.upper ≡ u → bounds_values values bs ≡ o → with_dimension l u o ≡ Some d → IsGivenBy values (b ∷ bs) d
    go others None u o p q r e = absurd cc
    go others (Some l) None o p q r e = absurd cc
    go others (Some l) (Some u) None p q r e = absurd cc
    go others (Some l) (Some u) (Some rest) p q r e =
        let more = others rest r in
        subst (IsGivenBy values (b ∷ bs)) (one (record { lower = l ∷ rest.lower; upper = u ∷ rest.upper }) d e)
        (record {
          long = ap suc more.long;
          some = refl;
          same = λ vs i. with_dimension (small_literal vs l (is_small values b.lower l p) i) (small_literal vs u (is_small values b.upper u q) i) (more.same vs i);
        })

-- arrays all of whose bounds literals give again
abbrev AllAgain : Arrays → Type 0
AllAgain arrays = All (λ a. AreGivenAgain a.1) arrays

declared_again : (values : Values) (x : List ℕ) (bs : List BoundTree) → AllAgain (by_bounds values x bs)
declared_again values x bs = go (has_some bs && nat_le (length bs) most_dimensions) (bounds_values values bs) refl refl
  where
    go : (t : Bool) (o : Option Dimensions) → (has_some bs && nat_le (length bs) most_dimensions) ≡ t → bounds_values values bs ≡ o → AllAgain (if t then with_bounds x o else [])
    go false o e h = All-nil (λ a. AreGivenAgain a.1)
    go true None e h = All-nil (λ a. AreGivenAgain a.1)
    go true (Some d) e h =
        let by = given_by values bs d h in
        All-cons (λ a. AreGivenAgain a.1) (x, d) [] (record {
          again = λ others y.
              (λ i. if by.some i && nat_le (by.long i) most_dimensions then with_bounds y (by.same others i) else [])
              ∙ ap (λ (t : Bool). if t then with_bounds y (Some d) else []) e;
        }) (All-nil (λ a. AreGivenAgain a.1))

all_declared_again : (values : Values) (ds : List DeclaratorTree) → AllAgain (flat_map (arrays_of values) ds)
all_declared_again values [] = All-nil (λ a. AreGivenAgain a.1)
all_declared_again values (d ∷ ds) = All-append (λ a. AreGivenAgain a.1) (arrays_of values d) (flat_map (arrays_of values) ds) (declared_again values d.name d.bounds) (all_declared_again values ds)

sites_again : (b : Before) (sites : List Site) → AllAgain b.arrays → AllAgain (behind_sites b sites).arrays
sites_again b [] h = h
sites_again b (declaration d ∷ rest) h = sites_again (behind_site b (declaration d)) rest (All-append (λ a. AreGivenAgain a.1) b.arrays (arrays_in b.values d) h (all_declared_again b.values (declarators d)))
sites_again b (statement s ∷ rest) h = sites_again (behind_site b (statement s)) rest h
sites_again b (private_names names ∷ rest) h = sites_again b rest h

-- of a name of a program: where it is an array, its bounds
pub kind_again : (t : ProgramTree) (x : List ℕ) (d : Dimensions) → kind_in t x ≡ Some (Array d) → AreGivenAgain d
kind_again t x d h = go (is_among x (names_of t)) (entry_of (at_last t).values x) (entry_of (at_last t).arrays x) h (All-lookup AreGivenAgain (is_same_text x) (at_last t).arrays (sites_again at_first (program_sites t) (All-nil (λ a. AreGivenAgain a.1))))
  where
    bounds_in : Option Kind → Option Dimensions
    bounds_in (Some (Array e)) = Some e
    bounds_in (Some Scalar) = None
    bounds_in (Some (Constant n)) = None
    bounds_in None = None

    go : (b : Bool) (n : Option ℤ) (o : Option Dimensions) → (if b then Some (kind_by n o) else None) ≡ Some (Array d) → IfSome o AreGivenAgain → AreGivenAgain d
    go false n o e k = let z = ap bounds_in e in absurd cc
    go true (Some n) o e k = let z = ap bounds_in e in absurd cc
    go true None None e k = let z = ap bounds_in e in absurd cc
    go true None (Some c) e k = let z : Some c ≡ Some d = ap bounds_in e in subst (λ (o : Option Dimensions). IfSome o AreGivenAgain) z k

module _ (us : ProgramUnits) (none : us.main.formals ≡ []) where
  -- what is given at last
  abbrev pub all_given : Given
  all_given = (main_expanded us us.main.tree.body).state

  abbrev pub main : ProgramTree
  main = for_names us.main

  pub given_more : GivesMore (nothing_given us) all_given
  given_more = statements_give (length us.others) us (constants_of us.main) [] us.main.tree.body (nothing_given us)

  main_decls : main.decls ≡ us.main.tree.decls
  main_decls = λ i. save_of_formals (none i) ++ us.main.tree.decls

  -- an expansion has the named constants of the main program
  pub constants_alike : (at_last (expansion us)).values ≡ constants_of us.main
  constants_alike =
      last_values (expansion us)
      ∙ ap (λ (z : Before). z.values) (behind_both at_first us.main.tree.decls all_given.arrays)
      ∙ ap (λ (ds : List DeclTree). (behind_decls (behind_decls at_first us.main.tree.decls) ds).values) given_more.arrays
      ∙ given_more.values (behind_decls at_first us.main.tree.decls)
      ∙ ap (λ (ds : List DeclTree). (behind_decls at_first ds).values) (sym main_decls)
      ∙ sym (last_values main)

  -- what is known of arrays behind what is given so far
  abbrev arrays_behind : Given → Arrays
  arrays_behind g = (behind_decls (behind_decls at_first us.main.tree.decls) g.arrays).arrays

  expanded_arrays : (at_last (expansion us)).arrays ≡ arrays_behind all_given
  expanded_arrays = last_arrays (expansion us) ∙ ap (λ (z : Before). z.arrays) (behind_both at_first us.main.tree.decls all_given.arrays)

  -- what is given later says nothing of names that are taken, where what is declared at last are names
  stays : AreNames (all_declared all_given.arrays) → (g : Given) → GivesMore g all_given → (y : List ℕ) → is_among y g.taken ≡ true → entry_of (arrays_behind all_given) y ≡ entry_of (arrays_behind g) y
  stays names g more y taken =
      let both : AreNames (all_declared g.arrays ++ all_declared more.decls) = subst AreNames (ap all_declared more.arrays ∙ flat_map-append declared_names g.arrays more.decls) names in
      ap (λ (ds : List DeclTree). entry_of (behind_decls (behind_decls at_first us.main.tree.decls) ds).arrays y) more.arrays
      ∙ ap (λ (z : Before). entry_of z.arrays y) (behind_both (behind_decls at_first us.main.tree.decls) g.arrays more.decls)
      ∙ more.spares (each_behind IsName (all_declared g.arrays) (all_declared more.decls) both) y taken (behind_decls (behind_decls at_first us.main.tree.decls) g.arrays)

  -- a name that isn't taken at first is none of the main program
  pub untaken : (y : List ℕ) → is_among y (nothing_given us).taken ≡ false → is_among y (names_of main) ≡ false
  untaken y h =
      let program : List (List ℕ) = flat_map program_name us.main.tree.decls in
      (or_parts (is_among y (names_of main)) (is_among y program) (sym (among_append y (names_of main) program) ∙ sym (occurs_first (names_of main ++ program) y) ∙ h)).0

  -- nothing has been said of a name that isn't taken
  said_nothing : (g : Given) → GivesMore (nothing_given us) g → (y : List ℕ) → is_among y g.taken ≡ false → entry_of (arrays_behind g) y ≡ None
  said_nothing g more y free =
      let parts = or_parts (is_among y (nothing_given us).taken) (is_among y more.more) (sym (among_append y (nothing_given us).taken more.more) ∙ ap (is_among y) (sym more.taken) ∙ free) in
      ap (λ (ds : List DeclTree). entry_of (behind_decls (behind_decls at_first us.main.tree.decls) ds).arrays y) more.arrays
      ∙ more.says y parts.1 (behind_decls at_first us.main.tree.decls)
      ∙ ap (λ (ds : List DeclTree). entry_of (behind_decls at_first ds).arrays y) (sym main_decls)
      ∙ no_array main y (untaken y parts.0)

  module _ (names : AreNames (all_declared all_given.arrays)) where
    -- names of the main program have the bounds that they had
    pub main_bounds : (y : List ℕ) → is_among y (nothing_given us).taken ≡ true → bounds_of (kind_in (expansion us) y) ≡ bounds_of (kind_in main y)
    main_bounds y taken =
        bounds_said (expansion us) y
        ∙ (λ i. bounds_by_entries (entry_of (constants_alike i) y) (entry_of (expanded_arrays i) y))
        ∙ ap (bounds_by_entries (entry_of (constants_of us.main) y)) (stays names (nothing_given us) given_more y taken ∙ ap (λ (ds : List DeclTree). entry_of (behind_decls at_first ds).arrays y) (sym main_decls) ∙ ap (λ (es : Arrays). entry_of es y) (sym (last_arrays main)))
        ∙ sym (bounds_said main y)

    -- the next new name is no constant
    module _ (g h : Given) (before : GivesMore (nothing_given us) g) (later : GivesMore h all_given) (new : h.taken ≡ g.taken ++ free_name g.taken ∷ []) (is : is_name (free_name g.taken) ≡ true) where
      abbrev name : List ℕ
      name = free_name g.taken

      named : is_among name (name ∷ []) ≡ true
      named = ap (λ (t : Bool). t || false) (same_itself name)

      taken_then : is_among name h.taken ≡ true
      taken_then = ap (is_among name) new ∙ among_append name g.taken (name ∷ []) ∙ ap (λ (t : Bool). is_among name g.taken || t) named ∙ either (is_among name g.taken)
        where
          either : (t : Bool) → t || true ≡ true
          either true = refl
          either false = refl

      free : is_among name g.taken ≡ false
      free = free_named g.taken is

      pub new_valued : value_named (at_last (expansion us)).values name ≡ None
      new_valued =
          ap (λ (es : Values). value_named es name) constants_alike
          ∙ no_value main name (untaken name (or_parts (is_among name (nothing_given us).taken) (is_among name before.more) (sym (among_append name (nothing_given us).taken before.more) ∙ ap (is_among name) (sym before.taken) ∙ free)).0)

      bounds_now : (o : Option Dimensions) → entry_of (arrays_behind h) name ≡ o → bounds_of (kind_in (expansion us) name) ≡ bounds_by_entries None o
      bounds_now o e =
          bounds_said (expansion us) name
          ∙ (λ i. bounds_by_entries (new_valued i) (entry_of (expanded_arrays i) name))
          ∙ ap (bounds_by_entries None) (stays names h later name taken_then ∙ e)

      -- one that is given to a scalar has no bounds
      scalar_bounds : h.arrays ≡ g.arrays → bounds_of (kind_in (expansion us) name) ≡ no_dimensions
      scalar_bounds same = bounds_now None (ap (λ (ds : List DeclTree). entry_of (behind_decls (behind_decls at_first us.main.tree.decls) ds).arrays name) same ∙ said_nothing g before name free)

      -- and one that is given to a variable of a subroutine has its bounds
      pub local_bounds : (t : ProgramTree) (x : List ℕ) → h.arrays ≡ g.arrays ++ declared_as name (kind_in t x) → bounds_of (kind_in (expansion us) name) ≡ bounds_of (kind_in t x)
      local_bounds t x same = by_kind (kind_in t x) refl same
        where
          by_kind : (kind : Option Kind) → kind_in t x ≡ kind → h.arrays ≡ g.arrays ++ declared_as name kind → bounds_of (kind_in (expansion us) name) ≡ bounds_of kind
          by_kind None e l = scalar_bounds (l ∙ append-nil g.arrays)
          by_kind (Some Scalar) e l = scalar_bounds (l ∙ append-nil g.arrays)
          by_kind (Some (Constant n)) e l = scalar_bounds (l ∙ append-nil g.arrays)
          by_kind (Some (Array d)) e l =
              let b : Before = behind_decls (behind_decls at_first us.main.tree.decls) g.arrays in
              bounds_now (Some d)
              (ap (λ (ds : List DeclTree). entry_of (behind_decls (behind_decls at_first us.main.tree.decls) ds).arrays name) l
              ∙ ap (λ (z : Before). entry_of z.arrays name) (behind_both (behind_decls at_first us.main.tree.decls) g.arrays (declared_as name (Some (Array d))))
              ∙ ap (λ (es : Arrays). entry_of (b.arrays ++ (es ++ [])) name) ((kind_again t x d e).again b.values name)
              ∙ entry_behind b.arrays ((name, d) ∷ []) name (said_nothing g before name free)
              ∙ ap (λ (t : Bool). if t then Some d else None) (same_itself name))
