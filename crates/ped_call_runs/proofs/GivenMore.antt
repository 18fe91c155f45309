-- What is given names grows: more names are taken, and declarations follow that say nothing of other names.
use Rattle.std.proofs.Common.{◌≡◌, ℕ, List, [], ◌∷◌, ◌++◌, length, nat_le, Bool, true, false, ◌&&◌, ◌||◌, Option, Some, None, refl, sym, ap, ◌∙◌, subst, append_assoc, append-nil, if◌then◌else◌}
use Rattle.std.proofs.lemmas.Bool.{or_parts, both_ways}
use Rattle.std.proofs.lemmas.Grind.{flat_map-append}
use Rattle.ped_base.specs.Dimensions.{Dimensions}
use Rattle.ped_base.specs.Lists.{has_some, is_same_text, is_among}
use Rattle.ped_base.proofs.NameEquality.{same_is}
use Rattle.ped_tree.proofs.NameLaws.Collected.{among_append}
use Rattle.ped_tree.specs.Grammar.LimitNumbers.{most_dimensions}
use Rattle.ped_tree.specs.Tree.{ExprTree, BoundTree, StmtTree, StmtTrees, DeclTree}
use Rattle.ped_steps.specs.ped_symbols.specs.Arrays.{bounds_values, with_bounds, by_bounds}
use Rattle.ped_steps.specs.ped_symbols.specs.declared.symbols.Kind.{Kind}
use Rattle.ped_steps.specs.ped_symbols.specs.declared.symbols.Kind.TheVariants.{Scalar, Array, Constant}
use Rattle.ped_steps.specs.ped_symbols.specs.Entries.{entry_of}
use Rattle.ped_steps.specs.ped_symbols.specs.NameRefusals.{Before}
use Rattle.ped_steps.specs.ped_symbols.specs.Values.{Values}
use Rattle.ped_calls.specs.ped_units.specs.Forms.{Called}
use Rattle.ped_calls.specs.ped_units.specs.Units.{ProgramUnit, ProgramUnits}
use Rattle.ped_calls.specs.ped_units.specs.Expanding.{Given, free_name, with_new, literal_bounds, declared_as, with_local, Meanings, bound_arguments, Renamed, renamed, expanded_in, all_expanded_in, call_expanded}
use Rattle.ped_steps.proofs.RunLaws.DeclaredArrays.{entry_before}
use Rattle.ped_call_runs.proofs.EachNames.{each_front, each_behind}
use Rattle.ped_call_runs.proofs.FreeWritten.{free_named}
use Rattle.ped_call_runs.proofs.WrittenNames.{IsName, AreNames, declared_names, all_declared}
use Rattle.ped_call_runs.proofs.DeclaredAtLast.{behind_decls, behind_both}
use Rattle.ped_call_runs.proofs.GivenKept.{state_kept, all_state_kept, bound_kept, renamed_kept, call_kept}

-- of an array's name: its bounds are as they were behind the declarations
abbrev pub SaysNothingOf : List ℕ → List DeclTree → Type 0
SaysNothingOf y ds = (b : Before) → entry_of (behind_decls b ds).arrays y ≡ entry_of b.arrays y

-- more is given
pub record GivesMore (g h : Given) : Type 0 where
  pub more : List (List ℕ)
  pub taken : h.taken ≡ g.taken ++ more
  pub decls : List DeclTree
  pub arrays : h.arrays ≡ g.arrays ++ decls
  pub says : (y : List ℕ) → is_among y more ≡ false → SaysNothingOf y decls
  pub spares : AreNames (all_declared decls) → (y : List ℕ) → is_among y g.taken ≡ true → SaysNothingOf y decls
  pub values : (b : Before) → (behind_decls b decls).values ≡ b.values
  pub inside : (y : List ℕ) → is_among y more ≡ false → is_among y (all_declared decls) ≡ false
  pub apart : AreNames (all_declared decls) → (y : List ℕ) → is_among y g.taken ≡ true → is_among y (all_declared decls) ≡ false

pub gives_same : (g : Given) → GivesMore g g
gives_same g = record { more = []; taken = sym (append-nil g.taken); decls = []; arrays = sym (append-nil g.arrays); says = λ y h b. refl; spares = λ n y m b. refl; values = λ b. refl; inside = λ y h. refl; apart = λ n y m. refl }

-- names in neither of two lists
neither : (y : List ℕ) (xs ys : List (List ℕ)) → is_among y (xs ++ ys) ≡ false → (is_among y xs ≡ false) × (is_among y ys ≡ false)
neither y xs ys h = or_parts (is_among y xs) (is_among y ys) (sym (among_append y xs ys) ∙ h)

undeclared_both : (y : List ℕ) (ds es : List DeclTree) → is_among y (all_declared ds) ≡ false → is_among y (all_declared es) ≡ false → is_among y (all_declared (ds ++ es)) ≡ false
undeclared_both y ds es h k = ap (is_among y) (flat_map-append declared_names ds es) ∙ among_append y (all_declared ds) (all_declared es) ∙ (λ i. h i || k i)

pub gives_then : (f g h : Given) → GivesMore f g → GivesMore g h → GivesMore f h
gives_then f g h a b = record {
  more = a.more ++ b.more;
  taken = b.taken ∙ ap (λ (xs : List (List ℕ)). xs ++ b.more) a.taken ∙ append_assoc f.taken a.more b.more;
  decls = a.decls ++ b.decls;
  arrays = b.arrays ∙ ap (λ (ds : List DeclTree). ds ++ b.decls) a.arrays ∙ append_assoc f.arrays a.decls b.decls;
  says = λ y k c. ap (λ (z : Before). entry_of z.arrays y) (behind_both c a.decls b.decls) ∙ b.says y (neither y a.more b.more k).1 (behind_decls c a.decls) ∙ a.says y (neither y a.more b.more k).0 c;
  spares = λ n y m c.
      let names = subst AreNames (flat_map-append declared_names a.decls b.decls) n in
      ap (λ (z : Before). entry_of z.arrays y) (behind_both c a.decls b.decls)
      ∙ b.spares (each_behind IsName (all_declared a.decls) (all_declared b.decls) names) y (ap (is_among y) a.taken ∙ among_append y f.taken a.more ∙ ap (λ (t : Bool). t || is_among y a.more) m) (behind_decls c a.decls)
      ∙ a.spares (each_front IsName (all_declared a.decls) (all_declared b.decls) names) y m c;
  values = λ c. ap (λ (z : Before). z.values) (behind_both c a.decls b.decls) ∙ b.values (behind_decls c a.decls) ∙ a.values c;
  inside = λ y k. undeclared_both y a.decls b.decls (a.inside y (neither y a.more b.more k).0) (b.inside y (neither y a.more b.more k).1);
  apart = λ n y m.
      let names = subst AreNames (flat_map-append declared_names a.decls b.decls) n in
      undeclared_both y a.decls b.decls
      (a.apart (each_front IsName (all_declared a.decls) (all_declared b.decls) names) y m)
      (b.apart (each_behind IsName (all_declared a.decls) (all_declared b.decls) names) y (ap (is_among y) a.taken ∙ among_append y f.taken a.more ∙ ap (λ (t : Bool). t || is_among y a.more) m));
}

-- a name that is given to a scalar
pub gives_new : (g : Given) → GivesMore g (with_new g)
gives_new g = record { more = free_name g.taken ∷ []; taken = refl; decls = []; arrays = sym (append-nil g.arrays); says = λ y h b. refl; spares = λ n y m b. refl; values = λ b. refl; inside = λ y h. refl; apart = λ n y m. refl }

-- the bounds of another name
other_bounds : (values : Values) (x : List ℕ) (bounds : List BoundTree) (y : List ℕ) → is_same_text y x ≡ false → entry_of (by_bounds values x bounds ++ []) y ≡ None
other_bounds values x bounds y h = go (has_some bounds && nat_le (length bounds) most_dimensions) (bounds_values values bounds)
  where
    go : (t : Bool) (o : Option Dimensions) → entry_of ((if t then with_bounds x o else []) ++ []) y ≡ None
    go false o = refl
    go true None = refl
    go true (Some d) = ap (λ (t : Bool). if t then Some d else None) h

declared_says : (x : List ℕ) (kind : Option Kind) (y : List ℕ) → is_same_text y x ≡ false → SaysNothingOf y (declared_as x kind)
declared_says x None y h b = refl
declared_says x (Some Scalar) y h b = refl
declared_says x (Some (Constant n)) y h b = refl
declared_says x (Some (Array d)) y h b = entry_before b.arrays (by_bounds b.values x (literal_bounds d.lower d.upper) ++ []) y (other_bounds b.values x (literal_bounds d.lower d.upper) y h)

declared_values : (x : List ℕ) (kind : Option Kind) (b : Before) → (behind_decls b (declared_as x kind)).values ≡ b.values
declared_values x None b = refl
declared_values x (Some Scalar) b = refl
declared_values x (Some (Array d)) b = refl
declared_values x (Some (Constant n)) b = refl

-- a new name that is a name is none that is taken
pub new_differs : (taken : List (List ℕ)) → IsName (free_name taken) → (y : List ℕ) → is_among y taken ≡ true → is_same_text y (free_name taken) ≡ false
new_differs taken n y m = apart (is_same_text y (free_name taken)) refl
  where
    apart : (t : Bool) → is_same_text y (free_name taken) ≡ t → t ≡ false
    apart false e = refl
    apart true e = absurd (both_ways (is_among (free_name taken) taken) (free_named taken n) (ap (λ (z : List ℕ). is_among z taken) (sym (same_is y (free_name taken) e)) ∙ m))

-- so what is declared of it says nothing of these
declared_spares : (taken : List (List ℕ)) (kind : Option Kind) → AreNames (all_declared (declared_as (free_name taken) kind)) → (y : List ℕ) → is_among y taken ≡ true → SaysNothingOf y (declared_as (free_name taken) kind)
declared_spares taken None n y m b = refl
declared_spares taken (Some Scalar) n y m b = refl
declared_spares taken (Some (Constant w)) n y m b = refl
declared_spares taken (Some (Array d)) n y m b = declared_says (free_name taken) (Some (Array d)) y (new_differs taken n.0 y m) b

-- and declares none of them
declared_apart : (taken : List (List ℕ)) (kind : Option Kind) → AreNames (all_declared (declared_as (free_name taken) kind)) → (y : List ℕ) → is_among y taken ≡ true → is_among y (all_declared (declared_as (free_name taken) kind)) ≡ false
declared_apart taken None n y m = refl
declared_apart taken (Some Scalar) n y m = refl
declared_apart taken (Some (Constant w)) n y m = refl
declared_apart taken (Some (Array d)) n y m = ap (λ (t : Bool). t || false) (new_differs taken n.0 y m)

declared_inside : (x : List ℕ) (kind : Option Kind) (y : List ℕ) → is_among y (x ∷ []) ≡ false → is_among y (all_declared (declared_as x kind)) ≡ false
declared_inside x None y h = refl
declared_inside x (Some Scalar) y h = refl
declared_inside x (Some (Constant n)) y h = refl
declared_inside x (Some (Array d)) y h = h

-- and one that is given to a variable of any kind
pub gives_local : (g : Given) (kind : Option Kind) → GivesMore g (with_local g kind)
gives_local g kind = record {
  more = free_name g.taken ∷ [];
  taken = refl;
  decls = declared_as (free_name g.taken) kind;
  arrays = refl;
  says = λ y h. declared_says (free_name g.taken) kind y (or_parts (is_same_text y (free_name g.taken)) false h).0;
  spares = λ n y m. declared_spares g.taken kind n y m;
  values = declared_values (free_name g.taken) kind;
  inside = λ y h. declared_inside (free_name g.taken) kind y h;
  apart = λ n y m. declared_apart g.taken kind n y m;
}

-- what is given grows through all that is expanded
module _ (f : Given) where
  new_kept : (g : Given) → GivesMore f g → GivesMore f (with_new g)
  new_kept g h = gives_then f g (with_new g) h (gives_new g)

  local_kept : (g : Given) (kind : Option Kind) → GivesMore f g → GivesMore f (with_local g kind)
  local_kept g kind h = gives_then f g (with_local g kind) h (gives_local g kind)

  call_more : (depth : ℕ) (us : ProgramUnits) (constants : Values) (c : Called) (g : Given) → GivesMore f g → GivesMore f (call_expanded depth us constants c g).state
  call_more = call_kept (GivesMore f) new_kept local_kept

pub arguments_give : (constants : Values) (es : List ExprTree) (g : Given) → GivesMore g (bound_arguments constants es g).given
arguments_give constants es g = bound_kept (GivesMore g) (new_kept g) (local_kept g) constants es g (gives_same g)

pub renamed_give : (u : ProgramUnit) (xs : List (List ℕ)) (r : Renamed) → GivesMore r.given (renamed u xs r).given
renamed_give u xs r = renamed_kept (GivesMore r.given) (new_kept r.given) (local_kept r.given) u xs r (gives_same r.given)

pub statement_gives : (depth : ℕ) (us : ProgramUnits) (constants : Values) (m : Meanings) (t : StmtTree) (g : Given) → GivesMore g (expanded_in m (call_expanded depth us constants) t g).state
statement_gives depth us constants m t g = state_kept (GivesMore g) (call_expanded depth us constants) (call_more g depth us constants) m t g (gives_same g)

pub statements_give : (depth : ℕ) (us : ProgramUnits) (constants : Values) (m : Meanings) (ts : StmtTrees) (g : Given) → GivesMore g (all_expanded_in m (call_expanded depth us constants) ts g).state
statements_give depth us constants m ts g = all_state_kept (GivesMore g) (call_expanded depth us constants) (call_more g depth us constants) m ts g (gives_same g)
