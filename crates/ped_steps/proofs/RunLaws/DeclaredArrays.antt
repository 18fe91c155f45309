-- What declarations say of names: nothing of one that doesn't occur in them, and one array more where an INTEGER that declares it stands last.
use Rattle.std.proofs.Common.{◌≡◌, ℕ, suc, ◌^◌, ℤ, pos, negsuc, neg_ℤ, int_le, int_lt, List, [], ◌∷◌, ◌++◌, map, Bool, true, false, ◌&&◌, Option, Some, None, Ok, Err, refl, ap, sym, ◌∙◌, arith, if◌then◌else◌}
use Rattle.std.specs.Prelude.{◌||◌, unsigned_abs, nat_lt, nat_le, length}
use Rattle.std.specs.List.{flat_map}
use Rattle.std.specs.Result.{result_ok}
use Rattle.std.proofs.lemmas.Bool.{or_parts, or_from, ltb-false, le-leb}
use Rattle.std.proofs.lemmas.Int.{ints}
use Rattle.std.proofs.lemmas.Grind.{flat_map-append}
use Rattle.ped_base.specs.Dimensions.{Dimensions}
use Rattle.ped_base.specs.Lists.{has_some, is_same_text, is_among}
use Rattle.ped_tree.specs.Tree.{ExprTree, Int, Neg, StmtTree, StmtTrees, Assign, If, Do, Print, Read, Stop, Comment, no_stmts, more_stmts, DeclaratorTree, DeclTree, Program, Implicit, Integer, Dimension, Parameter, Save, Remark, ProgramTree}
use Rattle.ped_tree.specs.Accesses.{constant_names}
use Rattle.ped_tree.specs.NamesIn.{stmts_names, saved_in}
use Rattle.ped_base.proofs.NameEquality.{same_itself}
use Rattle.ped_weaves.specs.ped_graph.specs.ped_symbols.proofs.RightUseLaws.Whole.{names_occur, others_unvalued}
use Rattle.ped_weaves.specs.ped_graph.specs.ped_symbols.specs.declared.symbols.Kind.TheVariants.{Array}
use Rattle.std.specs.Int.{is_negative}
use Rattle.ped_tree.specs.Grammar.LimitNumbers.{greatest_literal, most_dimensions}
use Rattle.ped_tree.proofs.NameLaws.Collected.{among_append}
use Rattle.ped_tree.specs.Constants.ConstantExpressions.{constant_value}
use Rattle.ped_symbolic.specs.Arithmetic.{literal}
use Rattle.ped_weaves.specs.ped_graph.specs.ped_symbols.specs.declared.uses.Role.TheVariants.{Named, Saved}
use Rattle.ped_weaves.specs.ped_graph.specs.ped_symbols.specs.declared.uses.Use.{Use}
use Rattle.ped_weaves.specs.ped_graph.specs.ped_symbols.specs.Uses.{used_as, expr_uses, bounds_uses, dimension_uses, type_uses, decl_uses}
use Rattle.ped_weaves.specs.ped_graph.specs.ped_symbols.specs.Entries.{entry_of}
use Rattle.ped_weaves.specs.ped_graph.specs.ped_symbols.specs.Sites.{Site, declaration, statement, private_site, stmt_sites, decl_sites, stmts_sites, site_uses}
use Rattle.ped_weaves.specs.ped_graph.specs.ped_symbols.specs.Values.{Values, within, fixed_value}
use Rattle.ped_weaves.specs.ped_graph.specs.ped_symbols.specs.Arrays.{Arrays, with_dimension, bounds_values, with_bounds, arrays_of, arrays_in}
use Rattle.ped_weaves.specs.ped_graph.specs.ped_symbols.specs.NameRefusals.{Before, at_first, behind_site, behind_sites}
use Rattle.ped_weaves.specs.ped_graph.specs.ped_symbols.specs.Kinds.{kind_by, kind_among, kind_of, names_at, names_of, at_last}
use Rattle.ped_base.specs.declared.arithmetic.faults.Fault.TheVariants.{OutOfRange}
use Rattle.ped_steps.specs.Runs.Expanding.{array_bounds, array_decl, with_array}
use Rattle.ped_steps.proofs.RunLaws.NamesKept.{occurs, occurs_append}
use Rattle.ped_steps.proofs.RunLaws.NamesAtSites.{used_names, used_append, names_used_as, stmts_at}

-- entries of lists one behind the other
pub entry_behind : {X : Type 0} (es fs : List (List ℕ × X)) (x : List ℕ) → entry_of es x ≡ None → entry_of (es ++ fs) x ≡ entry_of fs x
entry_behind [] fs x h = refl
entry_behind (e ∷ es) fs x h = go (is_same_text x e.0) h (entry_behind es fs x)
  where
    go : (r : Bool) → (if r then Some e.1 else entry_of es x) ≡ None → (entry_of es x ≡ None → entry_of (es ++ fs) x ≡ entry_of fs x) → (if r then Some e.1 else entry_of (es ++ fs) x) ≡ entry_of fs x
    go true k more = absurd cc
    go false k more = more k

pub entry_before : {X : Type 0} (es fs : List (List ℕ × X)) (x : List ℕ) → entry_of fs x ≡ None → entry_of (es ++ fs) x ≡ entry_of es x
entry_before [] fs x h = h
entry_before (e ∷ es) fs x h = ap (λ (o : Option _). if is_same_text x e.0 then Some e.1 else o) (entry_before es fs x h)

no_entry : {X : Type 0} (es fs : List (List ℕ × X)) (x : List ℕ) → entry_of es x ≡ None → entry_of fs x ≡ None → entry_of (es ++ fs) x ≡ None
no_entry es fs x h k = entry_behind es fs x h ∙ k

-- uses one behind the other in which a name doesn't occur
neither : (x : List ℕ) (us vs : List Use) → is_among x (used_names (us ++ vs)) ≡ false → (is_among x (used_names us) ≡ false) × (is_among x (used_names vs) ≡ false)
neither x us vs h = or_parts (is_among x (used_names us)) (is_among x (used_names vs)) (sym (among_append x (used_names us) (used_names vs)) ∙ ap (is_among x) (sym (used_append us vs)) ∙ h)

-- of a name that isn't a declarator's this declares no array
none_of_other : (values : Values) (d : DeclaratorTree) (x : List ℕ) → is_same_text x d.name ≡ false → entry_of (arrays_of values d) x ≡ None
none_of_other values d x h = go (has_some d.bounds && nat_le (length d.bounds) most_dimensions) (bounds_values values d.bounds)
  where
    go : (b : Bool) (o : Option Dimensions) → entry_of (if b then with_bounds d.name o else []) x ≡ None
    go false o = refl
    go true None = refl
    go true (Some dimensions) = ap (λ (r : Bool). if r then Some dimensions else None) h

none_of_types : (values : Values) (ds : List DeclaratorTree) (x : List ℕ) → is_among x (used_names (flat_map type_uses ds)) ≡ false → entry_of (flat_map (arrays_of values) ds) x ≡ None
none_of_types values [] x h = refl
none_of_types values (d ∷ ds) x h =
    let p = neither x (type_uses d) (flat_map type_uses ds) h in
    no_entry (arrays_of values d) (flat_map (arrays_of values) ds) x (none_of_other values d x (or_parts (is_same_text x d.name) (is_among x (used_names (if has_some d.bounds then dimension_uses d else []))) p.0).0) (none_of_types values ds x p.1)

none_of_dimensions : (values : Values) (ds : List DeclaratorTree) (x : List ℕ) → is_among x (used_names (flat_map dimension_uses ds)) ≡ false → entry_of (flat_map (arrays_of values) ds) x ≡ None
none_of_dimensions values [] x h = refl
none_of_dimensions values (d ∷ ds) x h =
    let p = neither x (dimension_uses d) (flat_map dimension_uses ds) h in
    no_entry (arrays_of values d) (flat_map (arrays_of values) ds) x (none_of_other values d x (or_parts (is_same_text x d.name) (is_among x (used_names (bounds_uses d.bounds))) p.0).0) (none_of_dimensions values ds x p.1)

not_an_item : (items : List (List ℕ × ExprTree)) (x : List ℕ) → is_among x (used_names (flat_map (λ (v : List ℕ × ExprTree). used_as Named v.0 ∷ expr_uses v.1) items)) ≡ false → is_among x (map (λ (v : List ℕ × ExprTree). v.0) items) ≡ false
not_an_item [] x h = refl
not_an_item (v ∷ vs) x h =
    let p = neither x (used_as Named v.0 ∷ expr_uses v.1) (flat_map (λ (v : List ℕ × ExprTree). used_as Named v.0 ∷ expr_uses v.1) vs) h in
    let first = (or_parts (is_same_text x v.0) (is_among x (used_names (expr_uses v.1))) p.0).0 in
    let rest = not_an_item vs x p.1 in
    λ i. first i || rest i

-- a declaration in which the name doesn't occur
arrays_none : (values : Values) (d : DeclTree) (x : List ℕ) → is_among x (used_names (decl_uses d)) ≡ false → entry_of (arrays_in values d) x ≡ None
arrays_none values (Program y) x h = refl
arrays_none values Implicit x h = refl
arrays_none values (Integer ds) x h = none_of_types values ds x h
arrays_none values (Dimension ds) x h = none_of_dimensions values ds x h
arrays_none values (Parameter items) x h = refl
arrays_none values (Save names) x h = refl
arrays_none values (Remark text) x h = refl

-- no bounds of the name are known
abbrev IsUnsaid : Before → List ℕ → Type 0
IsUnsaid b x = entry_of b.arrays x ≡ None

next : (b : Before) (d : DeclTree) (rest : List Site) (x : List ℕ) → occurs x (declaration d ∷ rest) ≡ false → IsUnsaid b x → (occurs x rest ≡ false) × IsUnsaid (behind_site b (declaration d)) x
next b d rest x h k =
    let p = neither x (decl_uses d) (flat_map site_uses rest) h in
    (p.1, no_entry b.arrays (arrays_in b.values d) x k (arrays_none b.values d x p.0))

-- nor is it a named constant
pub no_constant : (ds : List DeclTree) (x : List ℕ) → occurs x (flat_map decl_sites ds) ≡ false → is_among x (constant_names ds) ≡ false
no_constant [] x h = refl
no_constant (Program y ∷ ds) x h = no_constant ds x h
no_constant (Implicit ∷ ds) x h = no_constant ds x h
no_constant (Integer es ∷ ds) x h = no_constant ds x (neither x (decl_uses (Integer es)) (flat_map site_uses (flat_map decl_sites ds)) h).1
no_constant (Dimension es ∷ ds) x h = no_constant ds x (neither x (decl_uses (Dimension es)) (flat_map site_uses (flat_map decl_sites ds)) h).1
no_constant (Parameter items ∷ ds) x h =
    let p = neither x (decl_uses (Parameter items)) (flat_map site_uses (flat_map decl_sites ds)) h in
    among_append x (map (λ (v : List ℕ × ExprTree). v.0) items) (constant_names ds) ∙ or_from _ _ (not_an_item items x p.0) (no_constant ds x p.1)
no_constant (Save names ∷ ds) x h = no_constant ds x (neither x (decl_uses (Save names)) (flat_map site_uses (flat_map decl_sites ds)) h).1
no_constant (Remark text ∷ ds) x h = no_constant ds x h

-- nor is it saved
pub no_saved : (ds : List DeclTree) (x : List ℕ) → occurs x (flat_map decl_sites ds) ≡ false → is_among x (flat_map saved_in ds) ≡ false
no_saved [] x h = refl
no_saved (Program y ∷ ds) x h = no_saved ds x h
no_saved (Implicit ∷ ds) x h = no_saved ds x h
no_saved (Integer es ∷ ds) x h = no_saved ds x (neither x (decl_uses (Integer es)) (flat_map site_uses (flat_map decl_sites ds)) h).1
no_saved (Dimension es ∷ ds) x h = no_saved ds x (neither x (decl_uses (Dimension es)) (flat_map site_uses (flat_map decl_sites ds)) h).1
no_saved (Parameter items ∷ ds) x h = no_saved ds x (neither x (decl_uses (Parameter items)) (flat_map site_uses (flat_map decl_sites ds)) h).1
no_saved (Save names ∷ ds) x h =
    let p = neither x (decl_uses (Save names)) (flat_map site_uses (flat_map decl_sites ds)) h in
    among_append x names (flat_map saved_in ds) ∙ or_from _ _ (ap (is_among x) (sym (names_used_as Saved names)) ∙ p.0) (no_saved ds x p.1)
no_saved (Remark text ∷ ds) x h = no_saved ds x h

-- so a name has no bounds behind declarations in which it doesn't occur
pub unsaid : (b : Before) (ds : List DeclTree) (x : List ℕ) → occurs x (flat_map decl_sites ds) ≡ false → IsUnsaid b x → IsUnsaid (behind_sites b (flat_map decl_sites ds)) x
unsaid b [] x h k = k
unsaid b (Program y ∷ ds) x h k = let p = next b (Program y) (flat_map decl_sites ds) x h k in unsaid (behind_site b (declaration (Program y))) ds x p.0 p.1
unsaid b (Implicit ∷ ds) x h k = let p = next b Implicit (flat_map decl_sites ds) x h k in unsaid (behind_site b (declaration Implicit)) ds x p.0 p.1
unsaid b (Integer es ∷ ds) x h k = let p = next b (Integer es) (flat_map decl_sites ds) x h k in unsaid (behind_site b (declaration (Integer es))) ds x p.0 p.1
unsaid b (Dimension es ∷ ds) x h k = let p = next b (Dimension es) (flat_map decl_sites ds) x h k in unsaid (behind_site b (declaration (Dimension es))) ds x p.0 p.1
unsaid b (Parameter items ∷ ds) x h k = let p = next b (Parameter items) (flat_map decl_sites ds) x h k in unsaid (behind_site b (declaration (Parameter items))) ds x p.0 p.1
unsaid b (Save names ∷ ds) x h k = let p = next b (Save names) (flat_map decl_sites ds) x h k in unsaid (behind_site b (declaration (Save names))) ds x p.0 p.1
unsaid b (Remark text ∷ ds) x h k = unsaid b ds x h k

holds : (b : Bool) → (b ≡ false → ⊥) → b ≡ true
holds true n = refl
holds false n = absurd (n refl)

fails : (b : Bool) → (b ≡ true → ⊥) → b ≡ false
fails true n = absurd (n refl)
fails false n = refl

literal_negative : (values : Values) (n : ℕ) → nat_lt 2147483647 (suc n) ≡ false → constant_value values (literal (negsuc n)) ≡ Some (negsuc n)
literal_negative values n near =
    let small = ltb-false 2147483647 (suc n) near in
    let from : int_le (neg_ℤ (pos (2 ^ 127))) (negsuc n) ≡ true = holds (int_le (neg_ℤ (pos (2 ^ 127))) (negsuc n)) (λ e. omega (arith, ints, small, e)) in
    let to : int_lt (negsuc n) (pos (2 ^ 127)) ≡ true = holds (int_lt (negsuc n) (pos (2 ^ 127))) (λ e. omega (arith, ints, e)) in
    ap (λ (b : Bool). result_ok (if b && int_lt (negsuc n) (pos (2 ^ 127)) then Ok (negsuc n) else Err OutOfRange)) from
    ∙ ap (λ (b : Bool). result_ok (if b then Ok (negsuc n) else Err OutOfRange)) to

-- the value of a literal that isn't too large
pub literal_fixed : (values : Values) (n : ℤ) → nat_lt 2147483647 (unsigned_abs n) ≡ false → fixed_value values (literal n) ≡ Some n
literal_fixed values n near = ap within (constant n near) ∙ ap (λ (b : Bool). if b then Some n else None) (le-leb (unsigned_abs n) greatest_literal (ltb-false 2147483647 (unsigned_abs n) near))
  where
    constant : (m : ℤ) → nat_lt 2147483647 (unsigned_abs m) ≡ false → constant_value values (literal m) ≡ Some m
    constant (pos m) q = let e : int_lt (pos m) (pos 0) ≡ false = fails (int_lt (pos m) (pos 0)) (λ k. omega (arith, ints, k)) in ap (λ (b : Bool). constant_value values (if b then Neg (Int m) else Int m)) e
    constant (negsuc m) q = literal_negative values m q

arrays_more : (values : Values) (array : List ℕ) (lo hi : ℤ) → nat_lt 2147483647 (unsigned_abs lo) ≡ false → nat_lt 2147483647 (unsigned_abs hi) ≡ false → arrays_in values (array_decl array lo hi) ≡ (array, array_bounds lo hi) ∷ []
arrays_more values array lo hi near far =
    let lower = literal_fixed values lo near in
    let upper = literal_fixed values hi far in
    λ i. with_bounds array (with_dimension (lower i) (upper i) (Some (record { lower = []; upper = [] }))) ++ []

-- what declarations have said of constants and arrays
abbrev pub said : Before → Values × Arrays
said b = (b.values, b.arrays)

behind_append : (b : Before) (xs ys : List Site) → behind_sites b (xs ++ ys) ≡ behind_sites (behind_sites b xs) ys
behind_append b [] ys = refl
behind_append b (x ∷ xs) ys = behind_append (behind_site b x) xs ys

private_says_nothing : (b : Before) (names : List (List ℕ)) → said (behind_sites b (private_site names)) ≡ said b
private_says_nothing b [] = refl
private_says_nothing b (x ∷ xs) = refl

-- statements say nothing of them
mutual
  stmt_says_nothing : (b : Before) (s : StmtTree) → said (behind_sites b (stmt_sites s)) ≡ said b
  stmt_says_nothing b (Assign left right) = refl
  stmt_says_nothing b (If c x y) =
      let c1 = behind_site b (statement (If c x y)) in
      ap said (behind_append c1 (stmts_sites x) (stmts_sites y)) ∙ stmts_say_nothing (behind_sites c1 (stmts_sites x)) y ∙ stmts_say_nothing c1 x
  stmt_says_nothing b (Do h body) =
      let c1 = behind_site b (statement (Do h body)) in
      ap said (behind_append c1 (private_site h.private) (stmts_sites body)) ∙ stmts_say_nothing (behind_sites c1 (private_site h.private)) body ∙ private_says_nothing c1 h.private
  stmt_says_nothing b (Print items) = refl
  stmt_says_nothing b (Read items) = refl
  stmt_says_nothing b Stop = refl
  stmt_says_nothing b (Comment text) = refl

  stmts_say_nothing : (b : Before) (ss : StmtTrees) → said (behind_sites b (stmts_sites ss)) ≡ said b
  stmts_say_nothing b no_stmts = refl
  stmts_say_nothing b (more_stmts s rest) = ap said (behind_append b (stmt_sites s) (stmts_sites rest)) ∙ stmts_say_nothing (behind_sites b (stmt_sites s)) rest ∙ stmt_says_nothing b s

-- what the declarations of a program say, without its statements
last_said : (t : ProgramTree) → said (at_last t) ≡ said (behind_sites at_first (flat_map decl_sites t.decls))
last_said t = ap said (behind_append at_first (flat_map decl_sites t.decls) (stmts_sites t.body)) ∙ stmts_say_nothing (behind_sites at_first (flat_map decl_sites t.decls)) t.body

-- no name stands in a literal
pub literal_uses : (n : ℤ) → expr_uses (literal n) ≡ []
literal_uses n = go (is_negative n)
  where
    go : (b : Bool) → expr_uses (if b then Neg (Int (unsigned_abs n)) else Int (unsigned_abs n)) ≡ []
    go true = refl
    go false = refl

or_none : (a : Bool) → a || false ≡ a
or_none true = refl
or_none false = refl

or_all : (a : Bool) → a || true ≡ true
or_all true = refl
or_all false = refl

or_once : (a b : Bool) → a || (b || (b || false)) ≡ a || b
or_once true b = refl
or_once false true = refl
or_once false false = refl

or_last : (a b c : Bool) → (a || b) || c ≡ (a || c) || b
or_last true b c = refl
or_last false true true = refl
or_last false true false = refl
or_last false false true = refl
or_last false false false = refl

-- a program with other statements, and the declaration of an array behind its others
module _ (t : ProgramTree) (body : StmtTrees) (array : List ℕ) (lo hi : ℤ) where
  abbrev array_program : ProgramTree
  array_program = with_array t body array lo hi

  -- the same without the declaration
  abbrev pub with_body : ProgramTree
  with_body = record { decls = t.decls; body = body }

  sites_more : flat_map decl_sites array_program.decls ≡ flat_map decl_sites t.decls ++ declaration (array_decl array lo hi) ∷ []
  sites_more = flat_map-append decl_sites t.decls (array_decl array lo hi ∷ [])

  named_more : names_at (declaration (array_decl array lo hi) ∷ []) ≡ array ∷ array ∷ []
  named_more = λ i. array ∷ array ∷ used_names ((((literal_uses lo i ++ literal_uses hi i) ++ []) ++ []) ++ [])

  -- the array's name has come to the names
  pub names_more : (y : List ℕ) → is_among y (names_of array_program) ≡ is_among y (names_of with_body) || is_same_text y array
  names_more y =
      let decls = flat_map decl_sites t.decls in
      names_occur array_program y
      ∙ ap (λ (sites : List Site). occurs y (sites ++ stmts_sites body)) sites_more
      ∙ occurs_append y (decls ++ declaration (array_decl array lo hi) ∷ []) (stmts_sites body)
      ∙ ap (λ (b : Bool). b || occurs y (stmts_sites body)) (occurs_append y decls (declaration (array_decl array lo hi) ∷ []) ∙ ap (λ (names : List (List ℕ)). occurs y decls || is_among y names) named_more ∙ or_once (occurs y decls) (is_same_text y array))
      ∙ or_last (occurs y decls) (is_same_text y array) (occurs y (stmts_sites body))
      ∙ ap (λ (b : Bool). b || is_same_text y array) (sym (names_occur with_body y ∙ occurs_append y decls (stmts_sites body)))

  pub names_besides : (y : List ℕ) → is_same_text y array ≡ false → is_among y (names_of array_program) ≡ is_among y (names_of with_body)
  names_besides y e = names_more y ∙ ap (λ (b : Bool). is_among y (names_of with_body) || b) e ∙ or_none (is_among y (names_of with_body))

  pub array_named : is_among array (names_of array_program) ≡ true
  array_named = names_more array ∙ ap (λ (b : Bool). is_among array (names_of with_body) || b) (same_itself array) ∙ or_all (is_among array (names_of with_body))

  module _ (near : nat_lt 2147483647 (unsigned_abs lo) ≡ false) (far : nat_lt 2147483647 (unsigned_abs hi) ≡ false) where
    -- it says as much as the program without it, and the array's bounds
    one_said : said (at_last array_program) ≡ ((at_last t).values, (at_last t).arrays ++ (array, array_bounds lo hi) ∷ [])
    one_said =
        let b = behind_sites at_first (flat_map decl_sites t.decls) in
        last_said array_program ∙ ap (λ (sites : List Site). said (behind_sites at_first sites)) sites_more
        ∙ ap said (behind_append at_first (flat_map decl_sites t.decls) (declaration (array_decl array lo hi) ∷ []))
        ∙ ap (λ (new : Arrays). (b.values, b.arrays ++ new)) (arrays_more b.values array lo hi near far)
        ∙ ap (λ (s : Values × Arrays). (s.0, s.1 ++ (array, array_bounds lo hi) ∷ [])) (sym (last_said t))

    pub values_same : (at_last array_program).values ≡ (at_last t).values
    values_same = ap (λ (s : Values × Arrays). s.0) one_said

    -- other names stand for what they stood for
    pub kind_same : (y : List ℕ) → is_same_text y array ≡ false → kind_of array_program y ≡ kind_of t y
    kind_same y e =
        ap (λ (s : Values × Arrays). kind_among s.0 s.1 y) one_said
        ∙ ap (kind_by (entry_of (at_last t).values y)) (entry_before (at_last t).arrays ((array, array_bounds lo hi) ∷ []) y (ap (λ (r : Bool). if r then Some (array_bounds lo hi) else None) e))

    module _ (absent : is_among array (names_of t) ≡ false) where
      apart : (occurs array (flat_map decl_sites t.decls) ≡ false) × (occurs array (stmts_sites t.body) ≡ false)
      apart =
          or_parts (occurs array (flat_map decl_sites t.decls)) (occurs array (stmts_sites t.body)) (sym (occurs_append array (flat_map decl_sites t.decls) (stmts_sites t.body)) ∙ sym (names_occur t array) ∙ absent)

      -- the array stands in no old statement
      pub absent_in_body : is_among array (stmts_names t.body) ≡ false
      absent_in_body = ap (is_among array) (sym (stmts_at t.body)) ∙ apart.1

      pub unsaved : is_among array (flat_map saved_in t.decls) ≡ false
      unsaved = no_saved t.decls array apart.0

      pub kind_there : kind_of array_program array ≡ Array (array_bounds lo hi)
      kind_there =
          let bounds = ap (λ (s : Values × Arrays). entry_of s.1 array) (last_said t) ∙ unsaid at_first t.decls array apart.0 refl in
          let value = others_unvalued t array (no_constant t.decls array apart.0) in
          ap (λ (s : Values × Arrays). kind_among s.0 s.1 array) one_said
          ∙ ap (kind_by (entry_of (at_last t).values array)) (entry_behind (at_last t).arrays ((array, array_bounds lo hi) ∷ []) array bounds ∙ ap (λ (r : Bool). if r then Some (array_bounds lo hi) else None) (same_itself array))
          ∙ ap (λ (o : Option ℤ). kind_by o (Some (array_bounds lo hi))) value
