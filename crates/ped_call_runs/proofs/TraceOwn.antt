-- The first names of the pairs of a CALL: one for each dummy argument that is assigned, and for each other variable of the subroutine.
use Rattle.std.proofs.Common.{◌≡◌, ℕ, ◌+◌, ℤ, List, [], ◌∷◌, Bool, true, false, ◌&&◌, ◌||◌, Option, Some, None, is_some, eqb, eqb-true, refl, sym, ap, ◌∙◌, arith, if◌then◌else◌}
use Rattle.std.proofs.lemmas.Bool.{both_ways}
use Rattle.ped_base.specs.Lists.{is_same_text, is_among}
use Rattle.ped_base.proofs.NameEquality.{same_is}
use Rattle.ped_tree.specs.Tree.{ExprTree, Var}
use Rattle.ped_steps.specs.ped_symbols.specs.Entries.{entry_of}
use Rattle.ped_steps.specs.ped_symbols.specs.Kinds.{kind_in}
use Rattle.ped_steps.specs.ped_symbols.specs.NameRefusals.{has_twice}
use Rattle.ped_steps.specs.ped_symbols.specs.Values.{Values, fixed_value}
use Rattle.ped_calls.specs.ped_units.specs.Units.{ProgramUnit}
use Rattle.ped_calls.specs.ped_units.specs.Refusals.{for_names}
use Rattle.ped_calls.specs.ped_units.specs.Expanding.{Given, free_name, with_new, is_variable_name, Renamed, with_renamed}
use Rattle.ped_call_runs.specs.UnitRuns.{own}
use Rattle.ped_call_runs.proofs.Traces.{value_traced, arguments_traced, locals_traced}
use Rattle.ped_call_runs.proofs.OwnNames.{firsts, IsOwnIn, OwnIn, NoneTwice}
use Rattle.ped_call_runs.proofs.MeaningEntries.{kept_entry, new_entry}

-- names of one CALL's own are the same where the names are
pub own_same : (n : ℕ) (x y : List ℕ) → is_same_text (own n x) (own n y) ≡ is_same_text x y
own_same n x y = ap (λ (t : Bool). t && is_same_text x y) (itself n)
  where
    itself : (n : ℕ) → eqb n n ≡ true
    itself n = grind (arith, eqb-true)

or_none : (a b : Bool) → a || b ≡ false → (a ≡ false) × (b ≡ false)
or_none true b h = absurd cc
or_none false b h = (refl, h)

-- the assigned dummy arguments are some of the dummy arguments
pub arguments_outside : (constants : Values) (n : ℕ) (x : List ℕ) (xs : List (List ℕ)) (es : List ExprTree) (j : ℕ) (g : Given) → is_among x xs ≡ false → is_among (own n x) (firsts (arguments_traced constants n xs es j g).pairs) ≡ false
arguments_outside constants n x [] es j g h = refl
arguments_outside constants n x (y ∷ ys) [] j g h = refl
arguments_outside constants n x (y ∷ ys) (e ∷ es) j g h = go (is_variable_name constants e) (fixed_value constants e) (λ j g. arguments_outside constants n x ys es j g (or_none (is_same_text x y) (is_among x ys) h).1)
  where
    go : (u : Bool) (o : Option ℤ) → ((j : ℕ) (g : Given) → is_among (own n x) (firsts (arguments_traced constants n ys es j g).pairs) ≡ false)
        → is_among (own n x) (firsts (if u then record (arguments_traced constants n ys es j g) { gaps = j ∷ (arguments_traced constants n ys es j g).gaps } else value_traced o n y j g (arguments_traced constants n ys es)).pairs) ≡ false
    go true o more = more j g
    go false (Some v) more = more j g
    go false None more = λ i. (own_same n x y ∙ (or_none (is_same_text x y) (is_among x ys) h).0) i || more (j + 1) (with_new g) i

pub arguments_none_twice : (constants : Values) (n : ℕ) (xs : List (List ℕ)) (es : List ExprTree) (j : ℕ) (g : Given) → has_twice xs ≡ false → NoneTwice (arguments_traced constants n xs es j g).pairs
arguments_none_twice constants n [] es j g h = tt
arguments_none_twice constants n (y ∷ ys) [] j g h = tt
arguments_none_twice constants n (y ∷ ys) (e ∷ es) j g h = go (is_variable_name constants e) (fixed_value constants e) (λ j g. arguments_none_twice constants n ys es j g (or_none (is_among y ys) (has_twice ys) h).1)
  where
    go : (u : Bool) (o : Option ℤ) → ((j : ℕ) (g : Given) → NoneTwice (arguments_traced constants n ys es j g).pairs)
        → NoneTwice (if u then record (arguments_traced constants n ys es j g) { gaps = j ∷ (arguments_traced constants n ys es j g).gaps } else value_traced o n y j g (arguments_traced constants n ys es)).pairs
    go true o more = more j g
    go false (Some v) more = more j g
    go false None more = (arguments_outside constants n y ys es (j + 1) (with_new g) (or_none (is_among y ys) (has_twice ys) h).0, more (j + 1) (with_new g))

-- a name of this CALL's own
pub own_here : (n : ℕ) (x : List ℕ) → IsOwnIn n (n + 1) (own n x)
own_here n x = record { number = n; name = x; is = refl; from = omega (arith); to = omega (arith) }

pub arguments_own : (constants : Values) (n : ℕ) (xs : List (List ℕ)) (es : List ExprTree) (j : ℕ) (g : Given) → OwnIn n (n + 1) (arguments_traced constants n xs es j g).pairs
arguments_own constants n [] es j g = tt
arguments_own constants n (y ∷ ys) [] j g = tt
arguments_own constants n (y ∷ ys) (e ∷ es) j g = go (is_variable_name constants e) (fixed_value constants e) (λ j g. arguments_own constants n ys es j g)
  where
    go : (u : Bool) (o : Option ℤ) → ((j : ℕ) (g : Given) → OwnIn n (n + 1) (arguments_traced constants n ys es j g).pairs)
        → OwnIn n (n + 1) (if u then record (arguments_traced constants n ys es j g) { gaps = j ∷ (arguments_traced constants n ys es j g).gaps } else value_traced o n y j g (arguments_traced constants n ys es)).pairs
    go true o more = more j g
    go false (Some v) more = more j g
    go false None more = (own_here n y, more (j + 1) (with_new g))

pub locals_own : (n : ℕ) (u : ProgramUnit) (xs : List (List ℕ)) (r : Renamed) → OwnIn n (n + 1) (locals_traced n u xs r)
locals_own n u [] r = tt
locals_own n u (x ∷ xs) r = go (is_some (entry_of r.meanings x)) (λ s. locals_own n u xs s)
  where
    go : (t : Bool) → ((s : Renamed) → OwnIn n (n + 1) (locals_traced n u xs s)) → OwnIn n (n + 1) (if t then locals_traced n u xs r else (own n x, free_name r.given.taken) ∷ locals_traced n u xs (with_renamed x (kind_in (for_names u) x) r))
    go true more = more r
    go false more = (own_here n x, more (with_renamed x (kind_in (for_names u) x) r))

-- a name for which something stands is none of the variables that get new names
pub locals_outside : (n : ℕ) (u : ProgramUnit) (xs : List (List ℕ)) (r : Renamed) (y : List ℕ) (e : ExprTree) → entry_of r.meanings y ≡ Some e → is_among (own n y) (firsts (locals_traced n u xs r)) ≡ false
locals_outside n u [] r y e h = refl
locals_outside n u (x ∷ xs) r y e h = go (is_some (entry_of r.meanings x)) refl (λ s l. locals_outside n u xs s y e l)
  where
    go : (t : Bool) → is_some (entry_of r.meanings x) ≡ t → ((s : Renamed) → entry_of s.meanings y ≡ Some e → is_among (own n y) (firsts (locals_traced n u xs s)) ≡ false)
        → is_among (own n y) (firsts (if t then locals_traced n u xs r else (own n x, free_name r.given.taken) ∷ locals_traced n u xs (with_renamed x (kind_in (for_names u) x) r))) ≡ false
    go true k more = more r h
    go false k more = λ i. (own_same n y x ∙ apart (is_same_text y x) refl) i || more (with_renamed x (kind_in (for_names u) x) r) (kept_entry r.meanings x (Var (free_name r.given.taken)) y e h) i
      where
        apart : (t : Bool) → is_same_text y x ≡ t → is_same_text y x ≡ false
        apart false l = l
        apart true l = absurd (both_ways (is_some (entry_of r.meanings x)) k (ap (λ (z : List ℕ). is_some (entry_of r.meanings z)) (sym (same_is y x l)) ∙ ap is_some h))

pub locals_none_twice : (n : ℕ) (u : ProgramUnit) (xs : List (List ℕ)) (r : Renamed) → NoneTwice (locals_traced n u xs r)
locals_none_twice n u [] r = tt
locals_none_twice n u (x ∷ xs) r = go (is_some (entry_of r.meanings x)) refl (λ s. locals_none_twice n u xs s)
  where
    missing : (o : Option ExprTree) → is_some o ≡ false → o ≡ None
    missing None h = refl
    missing (Some e) h = absurd cc

    go : (t : Bool) → is_some (entry_of r.meanings x) ≡ t → ((s : Renamed) → NoneTwice (locals_traced n u xs s)) → NoneTwice (if t then locals_traced n u xs r else (own n x, free_name r.given.taken) ∷ locals_traced n u xs (with_renamed x (kind_in (for_names u) x) r))
    go true k more = more r
    go false k more =
        let next : Renamed = with_renamed x (kind_in (for_names u) x) r in
        (locals_outside n u xs next x (Var (free_name r.given.taken)) (new_entry r.meanings x (Var (free_name r.given.taken)) (missing (entry_of r.meanings x) k)), more next)
