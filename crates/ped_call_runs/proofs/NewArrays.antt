-- Arrays that are given new names are declared as they may be: by literals, with no bounds that are empty.
use Rattle.std.proofs.Common.{◌≡◌, ℕ, zero, suc, ℤ, List, [], ◌∷◌, ◌++◌, length, nat_le, Bool, true, false, Option, Some, None, is_some, All, IfSome, refl, sym, ap, ◌∙◌, subst, if◌then◌else◌}
use Rattle.std.specs.Prelude.{◌&&◌, ◌||◌}
use Rattle.std.specs.List.{list_any, flat_map}
use Rattle.std.proofs.lemmas.Bool.{or_parts}
use Rattle.std.proofs.lemmas.List.Elements.{All-nil, All-cons, All-append}
use Rattle.std.proofs.lemmas.Map.Entries.{All-lookup}
use Rattle.ped_base.specs.Dimensions.{Dimensions}
use Rattle.ped_base.specs.Lists.{is_same_text, is_among, has_some}
use Rattle.ped_tree.specs.Accesses.{listed}
use Rattle.ped_tree.specs.Grammar.LimitNumbers.{most_dimensions}
use Rattle.ped_tree.specs.Tree.{ExprTree, StmtTrees, BoundTree, DeclaratorTree, DeclTree, Program, Implicit, Integer, Dimension, Parameter, Save, Remark, ProgramTree}
use Rattle.ped_steps.specs.ped_symbolic.specs.Arithmetic.{literal}
use Rattle.ped_steps.specs.ped_symbols.specs.Arrays.{Arrays, with_dimension, bounds_values, with_bounds, by_bounds, arrays_of, arrays_in}
use Rattle.ped_steps.specs.ped_symbols.specs.declared.symbols.Kind.{Kind}
use Rattle.ped_steps.specs.ped_symbols.specs.declared.symbols.Kind.TheVariants.{Scalar, Array, Constant}
use Rattle.ped_steps.specs.ped_symbols.specs.Declarations.{Declared}
use Rattle.ped_steps.specs.ped_symbols.specs.Entries.{entry_of}
use Rattle.ped_steps.specs.ped_symbols.specs.Kinds.{at_last, kind_by, kind_in, names_of}
use Rattle.ped_steps.specs.ped_symbols.specs.NameRefusals.{Before, at_first, behind_site, behind_sites}
use Rattle.ped_steps.specs.ped_symbols.specs.Sites.{declaration, decl_sites}
use Rattle.ped_steps.specs.ped_symbols.specs.Values.{Values, fixed_value, is_missing, bound_fails, is_above, bound_is_empty, declarator_is_empty, declarators}
use Rattle.ped_calls.specs.ped_units.specs.Forms.{Called}
use Rattle.ped_calls.specs.ped_units.specs.Units.{ProgramUnit, ProgramUnits, unit_of}
use Rattle.ped_calls.specs.ped_units.specs.Refusals.{for_names}
use Rattle.ped_calls.specs.ped_units.specs.Linking.{IsIn}
use Rattle.ped_calls.specs.ped_units.specs.Expanding.{Given, with_new, literal_bounds, with_local, is_variable_name, Bound, standing, bound_by, bound_arguments, body_names, constants_of, with_formals, with_constants, Renamed, with_renamed, renamed, meanings_in, unit_expanded, call_expanded, nothing_given, main_expanded}
use Rattle.ped_call_runs.proofs.DeclaredAtLast.{last_arrays}
use Rattle.ped_call_runs.proofs.ExpandedKinds.{one, is_small, small_literal}
use Rattle.ped_call_runs.proofs.GivenKept.{all_state_kept}
use Rattle.ped_call_runs.proofs.ProperSites.{AreProperSites}
use Rattle.ped_call_runs.proofs.Walks.{unit_found}

-- an array that literals declare as it may be
pub record IsNice (d : Dimensions) : Type 0 where
  pub some : has_some (literal_bounds d.lower d.upper) ≡ true
  pub few : nat_le (length (literal_bounds d.lower d.upper)) most_dimensions ≡ true
  pub long : length (literal_bounds d.lower d.upper) ≡ length d.lower
  pub fine : (values : Values) → list_any (bound_fails values) (literal_bounds d.lower d.upper) ≡ false
  pub full : (values : Values) → list_any (bound_is_empty values) (literal_bounds d.lower d.upper) ≡ false

-- bounds that literals give again
record AreAgain (bounds : List BoundTree) (d : Dimensions) : Type 0 where
  long : length (literal_bounds d.lower d.upper) ≡ length bounds
  lower : length d.lower ≡ length bounds
  some : has_some (literal_bounds d.lower d.upper) ≡ has_some bounds
  fine : (values : Values) → list_any (bound_fails values) (literal_bounds d.lower d.upper) ≡ false
  full : (values : Values) → list_any (bound_is_empty values) (literal_bounds d.lower d.upper) ≡ false

again : (values : Values) (bs : List BoundTree) (d : Dimensions) → bounds_values values bs ≡ Some d → list_any (bound_is_empty values) bs ≡ false → AreAgain bs d
again values [] d h k = subst (AreAgain []) (one (record { lower = []; upper = [] }) d h) (record { long = refl; lower = refl; some = refl; fine = λ vs. refl; full = λ vs. refl })
again values (b ∷ bs) d h k =
    let p = or_parts (bound_is_empty values b) (list_any (bound_is_empty values) bs) k in
    go (λ rest e. again values bs rest e p.1) (fixed_value values b.lower) (fixed_value values b.upper) (bounds_values values bs) refl refl refl p.0 h
  where
    go : ((rest : Dimensions) → bounds_values values bs ≡ Some rest → AreAgain bs rest) → (l u : Option ℤ) (o : Option Dimensions) → fixed_value values b.lower ≡ l → fixed_value values b.upper ≡ u → bounds_values values bs ≡ o → is_above l u ≡ false
        → with_dimension l u o ≡ Some d → AreAgain (b ∷ bs) d
    go others None u o p q r above e = absurd cc
    go others (Some l) None o p q r above e = absurd cc
    go others (Some l) (Some u) None p q r above e = absurd cc
    go others (Some l) (Some u) (Some rest) p q r above e =
        let more = others rest r in
        let first : (vs : Values) → fixed_value vs (literal l) ≡ Some l = λ vs. small_literal vs l (is_small values b.lower l p) in
        let second : (vs : Values) → fixed_value vs (literal u) ≡ Some u = λ vs. small_literal vs u (is_small values b.upper u q) in
        subst (AreAgain (b ∷ bs)) (one (record { lower = l ∷ rest.lower; upper = u ∷ rest.upper }) d e)
        (record {
          long = ap suc more.long;
          lower = ap suc more.lower;
          some = refl;
          fine = λ vs i. (is_missing (first vs i) || is_missing (second vs i)) || more.fine vs i;
          full = λ vs. (λ i. is_above (first vs i) (second vs i) || more.full vs i) ∙ ap (λ (t : Bool). t || false) above;
        })

abbrev AllNice : Arrays → Type 0
AllNice arrays = All (λ a. IsNice a.1) arrays

declared_nice : (values : Values) (x : List ℕ) (bs : List BoundTree) → list_any (bound_is_empty values) bs ≡ false → AllNice (by_bounds values x bs)
declared_nice values x bs full = go (has_some bs) (nat_le (length bs) most_dimensions) (bounds_values values bs) refl refl refl
  where
    go : (s t : Bool) (o : Option Dimensions) → has_some bs ≡ s → nat_le (length bs) most_dimensions ≡ t → bounds_values values bs ≡ o → AllNice (if s && t then with_bounds x o else [])
    go false t o e f h = All-nil (λ a. IsNice a.1)
    go true false o e f h = All-nil (λ a. IsNice a.1)
    go true true None e f h = All-nil (λ a. IsNice a.1)
    go true true (Some d) e f h =
        let by = again values bs d h full in
        All-cons (λ a. IsNice a.1) (x, d) [] (record {
          some = by.some ∙ e;
          few = ap (λ (n : ℕ). nat_le n most_dimensions) by.long ∙ f;
          long = by.long ∙ sym by.lower;
          fine = by.fine;
          full = by.full;
        }) (All-nil (λ a. IsNice a.1))

all_nice : (values : Values) (ds : List DeclaratorTree) → list_any (declarator_is_empty values) ds ≡ false → AllNice (flat_map (arrays_of values) ds)
all_nice values [] h = All-nil (λ a. IsNice a.1)
all_nice values (d ∷ ds) h =
    let p = or_parts (declarator_is_empty values d) (list_any (declarator_is_empty values) ds) h in
    All-append (λ a. IsNice a.1) (arrays_of values d) (flat_map (arrays_of values) ds) (declared_nice values d.name d.bounds p.0) (all_nice values ds p.1)

over_decl : (b : Before) (t : DeclTree) → AllNice b.arrays → list_any (declarator_is_empty b.values) (declarators t) ≡ false → AllNice (b.arrays ++ arrays_in b.values t)
over_decl b t h k = All-append (λ a. IsNice a.1) b.arrays (arrays_in b.values t) h (all_nice b.values (declarators t) k)

decls_nice : (d : Declared) (b : Before) (ds : List DeclTree) → AreProperSites d b (flat_map decl_sites ds) → AllNice b.arrays → AllNice (behind_sites b (flat_map decl_sites ds)).arrays
decls_nice d b [] q h = h
decls_nice d b (Program x ∷ ds) q h = decls_nice d (behind_site b (declaration (Program x))) ds q.1 (over_decl b (Program x) h refl)
decls_nice d b (Implicit ∷ ds) q h = decls_nice d (behind_site b (declaration Implicit)) ds q.1 (over_decl b Implicit h refl)
decls_nice d b (Integer es ∷ ds) q h = decls_nice d (behind_site b (declaration (Integer es))) ds q.1 (over_decl b (Integer es) h q.0.bounds)
decls_nice d b (Dimension es ∷ ds) q h = decls_nice d (behind_site b (declaration (Dimension es))) ds q.1 (over_decl b (Dimension es) h q.0.bounds)
decls_nice d b (Parameter vs ∷ ds) q h = decls_nice d (behind_site b (declaration (Parameter vs))) ds q.1 (over_decl b (Parameter vs) h refl)
decls_nice d b (Save names ∷ ds) q h = decls_nice d (behind_site b (declaration (Save names))) ds q.1 (over_decl b (Save names) h refl)
decls_nice d b (Remark text ∷ ds) q h = decls_nice d b ds q h

-- where a kind is that of an array, literals declare it as it may be
abbrev pub IsNiceKind : Option Kind → Type 0
IsNiceKind (Some (Array d)) = IsNice d
IsNiceKind (Some Scalar) = Unit {0}
IsNiceKind (Some (Constant n)) = Unit {0}
IsNiceKind None = Unit {0}

pub kind_nice : (d : Declared) (t : ProgramTree) → AreProperSites d at_first (flat_map decl_sites t.decls) → (x : List ℕ) → IsNiceKind (kind_in t x)
kind_nice d t proper x = go (is_among x (names_of t)) (entry_of (at_last t).values x) (entry_of (at_last t).arrays x) (All-lookup IsNice (is_same_text x) (at_last t).arrays nice)
  where
    nice : AllNice (at_last t).arrays
    nice = subst AllNice (sym (last_arrays t)) (decls_nice d at_first t.decls proper (All-nil (λ a. IsNice a.1)))

    go : (b : Bool) (n : Option ℤ) (o : Option Dimensions) → IfSome o IsNice → IsNiceKind (if b then Some (kind_by n o) else None)
    go false n o h = tt
    go true (Some n) o h = tt
    go true None None h = tt
    go true None (Some a) h = h

-- what holds of all that is given names stays so, where it does for each kind of a unit's name
module _ (us : ProgramUnits) (P : Given → Type 0) (new : (g : Given) → P g → P (with_new g)) (local : (g : Given) (u : ProgramUnit) (x : List ℕ) → IsIn u us.others → P g → P (with_local g (kind_in (for_names u) x))) where
  arguments_kept : (constants : Values) (es : List ExprTree) (g : Given) → P g → P (bound_arguments constants es g).given
  arguments_kept constants [] g h = h
  arguments_kept constants (e ∷ rest) g h = go (is_variable_name constants e) (fixed_value constants e) (arguments_kept constants rest)
    where
      go : (t : Bool) (o : Option ℤ) → ((g : Given) → P g → P (bound_arguments constants rest g).given)
          → P (if t then standing e (bound_arguments constants rest g) else bound_by o e g (bound_arguments constants rest)).given
      go true o more = more g h
      go false (Some n) more = more g h
      go false None more = more (with_new g) (new g h)

  names_kept : (u : ProgramUnit) → IsIn u us.others → (xs : List (List ℕ)) (r : Renamed) → P r.given → P (renamed u xs r).given
  names_kept u is [] r h = h
  names_kept u is (x ∷ xs) r h = names_kept u is xs (if is_some (entry_of r.meanings x) then r else with_renamed x (kind_in (for_names u) x) r) (go (is_some (entry_of r.meanings x)))
    where
      go : (t : Bool) → P (if t then r else with_renamed x (kind_in (for_names u) x) r).given
      go true = h
      go false = local r.given u x is h

  calls_kept : (depth : ℕ) (constants : Values) (c : Called) (g : Given) → P g → P (call_expanded depth us constants c g).state
  calls_kept zero constants c g h = h
  calls_kept (suc depth) constants c g h = go (unit_of us c.name) refl (calls_kept depth [])
    where
      go : (o : Option ProgramUnit) → unit_of us c.name ≡ o → ((c : Called) (g : Given) → P g → P (call_expanded depth us [] c g).state) → P (unit_expanded (call_expanded depth us []) constants c g o).state
      go None e inner = h
      go (Some v) e inner =
          let b : Bound = bound_arguments constants (listed c.arguments) g in
          all_state_kept P (call_expanded depth us []) inner (meanings_in v b).meanings v.tree.body (meanings_in v b).given
          (names_kept v (unit_found us.others c.name v e) (body_names v) (record { meanings = with_constants (with_formals [] v.formals b.meant) (constants_of v); given = b.given }) (arguments_kept constants (listed c.arguments) g h))

  pub expansion_kept : (ts : StmtTrees) → P (nothing_given us) → P (main_expanded us ts).state
  expansion_kept ts h = all_state_kept P (call_expanded (length us.others) us (constants_of us.main)) (calls_kept (length us.others) (constants_of us.main)) [] ts (nothing_given us) h
