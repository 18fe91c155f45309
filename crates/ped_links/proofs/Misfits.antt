-- Arguments that don't fit, by expressions and by the names that they are.
use Rattle.std.proofs.Common.{◌≡◌, ◌⊎◌, inl, inr, ℕ, suc, List, [], ◌∷◌, ◌++◌, length, map, refl, sym, ap, subst, ◌∙◌}
use Rattle.std.proofs.lemmas.Bool.{or_left, or_right, or_cases}
use Rattle.std.specs.List.{flat_map}
use Rattle.std.specs.Prelude.{IsTrue}
use Rattle.ped_base.specs.Lists.{is_same_text, is_among}
use Rattle.ped_base.proofs.NameEquality.{same_itself, same_is}
use Rattle.ped_tree.specs.Tree.{ExprTree, Int, Var, Element, Neg, Add, Sub, Mul, Div, Pow, Call, Head}
use Rattle.ped_tree.specs.Accesses.{listed}
use Rattle.ped_units.specs.Units.{ProgramUnit, ProgramUnits}
use Rattle.ped_units.specs.Linking.{IsIn, Association, associations, Placed, Misfits, other_bounds, array_for_scalar, no_scalar, loop_variable, private_index, argument_bounds, is_scalar_name, bounds_by, is_scalar, HasBadArguments}
use Rattle.ped_links.specs.Arguments.{IsMisfit, SomeMisfit, HasMisfit, kind_of_name, is_one_of}
use Rattle.ped_links.specs.Placing.{around_of, argument_name, placed_call}

bounds_named : (u : ProgramUnit) (e : ExprTree) → argument_bounds u e ≡ bounds_by (kind_of_name u (argument_name e))
bounds_named u (Int n) = refl
bounds_named u (Var x) = refl
bounds_named u (Element x es) = refl
bounds_named u (Neg a) = refl
bounds_named u (Add a b) = refl
bounds_named u (Sub a b) = refl
bounds_named u (Mul a b) = refl
bounds_named u (Div a b) = refl
bounds_named u (Pow a b) = refl
bounds_named u (Call f es) = refl

scalar_named : (u : ProgramUnit) (e : ExprTree) → is_scalar_name u e ≡ is_scalar (kind_of_name u (argument_name e))
scalar_named u (Int n) = refl
scalar_named u (Var x) = refl
scalar_named u (Element x es) = refl
scalar_named u (Neg a) = refl
scalar_named u (Add a b) = refl
scalar_named u (Sub a b) = refl
scalar_named u (Mul a b) = refl
scalar_named u (Div a b) = refl
scalar_named u (Pow a b) = refl
scalar_named u (Call f es) = refl

-- an argument that is one of these names is a name among them
one_of_is : (e : ExprTree) (names : List (List ℕ)) → IsTrue (is_one_of (argument_name e) names) → (x : List ℕ) × (e ≡ Var x) × IsTrue (is_among x names)
one_of_is (Int n) names h = absurd cc
one_of_is (Var x) names h = (x, refl, h)
one_of_is (Element x es) names h = absurd cc
one_of_is (Neg a) names h = absurd cc
one_of_is (Add a b) names h = absurd cc
one_of_is (Sub a b) names h = absurd cc
one_of_is (Mul a b) names h = absurd cc
one_of_is (Div a b) names h = absurd cc
one_of_is (Pow a b) names h = absurd cc
one_of_is (Call f es) names h = absurd cc

is_one_of_them : (e : ExprTree) (x : List ℕ) (names : List (List ℕ)) → e ≡ Var x → IsTrue (is_among x names) → IsTrue (is_one_of (argument_name e) names)
is_one_of_them e x names is h = ap (λ (a : ExprTree). is_one_of (argument_name a) names) is ∙ h

variable_among : (loops : List Head) (h : Head) (x : List ℕ) → IsIn h loops → h.variable ≡ x → IsTrue (is_among x (map (λ (k : Head). k.variable) loops))
variable_among [] h x i e = absurd i
variable_among (k ∷ ks) h x (inl is) e = or_left (is_same_text x k.variable) (is_among x (map (λ (r : Head). r.variable) ks)) (ap (is_same_text x) (ap (λ (r : Head). r.variable) (sym is) ∙ e) ∙ same_itself x)
variable_among (k ∷ ks) h x (inr i) e = or_right (is_same_text x k.variable) (is_among x (map (λ (r : Head). r.variable) ks)) (variable_among ks h x i e)

among_variables : (loops : List Head) (x : List ℕ) → IsTrue (is_among x (map (λ (k : Head). k.variable) loops)) → (h : Head) × IsIn h loops × (h.variable ≡ x)
among_variables [] x h = absurd cc
among_variables (k ∷ ks) x h = elim (or_cases (is_same_text x k.variable) (is_among x (map (λ (r : Head). r.variable) ks)) h) [
  | inl e ↦ (k, inl refl, sym (same_is x k.variable e))
  | inr i ↦ let there = among_variables ks x i in (there.0, inr there.1, there.2)
]

among_front : (x : List ℕ) (xs ys : List (List ℕ)) → IsTrue (is_among x xs) → IsTrue (is_among x (xs ++ ys))
among_front x [] ys h = absurd cc
among_front x (z ∷ zs) ys h = elim (or_cases (is_same_text x z) (is_among x zs) h) [
  | inl e ↦ or_left (is_same_text x z) (is_among x (zs ++ ys)) e
  | inr i ↦ or_right (is_same_text x z) (is_among x (zs ++ ys)) (among_front x zs ys i)
]

among_back : (x : List ℕ) (xs ys : List (List ℕ)) → IsTrue (is_among x ys) → IsTrue (is_among x (xs ++ ys))
among_back x [] ys h = h
among_back x (z ∷ zs) ys h = or_right (is_same_text x z) (is_among x (zs ++ ys)) (among_back x zs ys h)

among_either : (x : List ℕ) (xs ys : List (List ℕ)) → IsTrue (is_among x (xs ++ ys)) → IsTrue (is_among x xs) ⊎ IsTrue (is_among x ys)
among_either x [] ys h = inr h
among_either x (z ∷ zs) ys h = elim (or_cases (is_same_text x z) (is_among x (zs ++ ys)) h) [
  | inl e ↦ inl (or_left (is_same_text x z) (is_among x zs) e)
  | inr i ↦ elim (among_either x zs ys i) [ inl a ↦ inl (or_right (is_same_text x z) (is_among x zs) a) | inr b ↦ inr b ]
]

private_among : (loops : List Head) (h : Head) (x : List ℕ) → IsIn h loops → IsTrue (is_among x h.private) → IsTrue (is_among x (flat_map (λ (k : Head). k.private) loops))
private_among [] h x i e = absurd i
private_among (k ∷ ks) h x (inl is) e = among_front x k.private (flat_map (λ (r : Head). r.private) ks) (ap (λ (r : Head). is_among x r.private) (sym is) ∙ e)
private_among (k ∷ ks) h x (inr i) e = among_back x k.private (flat_map (λ (r : Head). r.private) ks) (private_among ks h x i e)

among_private : (loops : List Head) (x : List ℕ) → IsTrue (is_among x (flat_map (λ (k : Head). k.private) loops)) → (h : Head) × IsIn h loops × IsTrue (is_among x h.private)
among_private [] x h = absurd cc
among_private (k ∷ ks) x h = elim (among_either x k.private (flat_map (λ (r : Head). r.private) ks) h) [
  | inl a ↦ (k, inl refl, a)
  | inr b ↦ let there = among_private ks x b in (there.0, inr there.1, there.2)
]

-- an argument doesn't fit, told by the name that it is
pub misfit_named : (us : ProgramUnits) (u v : ProgramUnit) (loops : List Head) (a : Association) → Misfits us u v loops a → IsMisfit us u v (around_of loops) a.formal (argument_name a.argument)
misfit_named us u v loops a (other_bounds d e n) = inl (inl (d, e, λ h. n (bounds_named u a.argument ∙ h)))
misfit_named us u v loops a (array_for_scalar d e h) = inl (inr (inl (d, e, sym (bounds_named u a.argument) ∙ h)))
misfit_named us u v loops a (no_scalar e assigned h) = inl (inr (inr (e, assigned, sym (scalar_named u a.argument) ∙ h)))
misfit_named us u v loops a (loop_variable x h assigned is i e) = inr (inl (assigned, is_one_of_them a.argument x _ is (variable_among loops h x i e)))
misfit_named us u v loops a (private_index x h index is i e) = inr (inr (index, is_one_of_them a.argument x _ is (private_among loops h x i e)))

pub named_misfit : (us : ProgramUnits) (u v : ProgramUnit) (loops : List Head) (a : Association) → IsMisfit us u v (around_of loops) a.formal (argument_name a.argument) → Misfits us u v loops a
named_misfit us u v loops a (inl (inl h)) = other_bounds h.0 h.1 (λ e. h.2 (sym (bounds_named u a.argument) ∙ e))
named_misfit us u v loops a (inl (inr (inl h))) = array_for_scalar h.0 h.1 (bounds_named u a.argument ∙ h.2)
named_misfit us u v loops a (inl (inr (inr h))) = no_scalar h.0 h.1 (scalar_named u a.argument ∙ h.2)
named_misfit us u v loops a (inr (inl h)) =
    let one = one_of_is a.argument (around_of loops).variables h.1 in
    let there = among_variables loops one.0 one.2 in
    loop_variable one.0 there.0 h.0 one.1 there.1 there.2
named_misfit us u v loops a (inr (inr h)) =
    let one = one_of_is a.argument (around_of loops).private h.1 in
    let there = among_private loops one.0 one.2 in
    private_index one.0 there.0 h.0 one.1 there.1 there.2

-- one of the arguments doesn't fit
some_named : (us : ProgramUnits) (u v : ProgramUnit) (loops : List Head) (fs : List (List ℕ)) (es : List ExprTree) (a : Association) → IsIn a (associations fs es) → Misfits us u v loops a → SomeMisfit us u v (around_of loops) fs (map argument_name es)
some_named us u v loops [] es a i m = absurd i
some_named us u v loops (f ∷ fs) [] a i m = absurd i
some_named us u v loops (f ∷ fs) (e ∷ es) a (inl is) m = inl (misfit_named us u v loops (record { formal = f; argument = e }) (subst (Misfits us u v loops) is m))
some_named us u v loops (f ∷ fs) (e ∷ es) a (inr i) m = inr (some_named us u v loops fs es a i m)

named_some : (us : ProgramUnits) (u v : ProgramUnit) (loops : List Head) (fs : List (List ℕ)) (es : List ExprTree) → SomeMisfit us u v (around_of loops) fs (map argument_name es) → (a : Association) × IsIn a (associations fs es) × Misfits us u v loops a
named_some us u v loops [] es m = absurd m
named_some us u v loops (f ∷ fs) [] m = absurd m
named_some us u v loops (f ∷ fs) (e ∷ es) (inl m) = (record { formal = f; argument = e }, inl refl, named_misfit us u v loops (record { formal = f; argument = e }) m)
named_some us u v loops (f ∷ fs) (e ∷ es) (inr m) = let there = named_some us u v loops fs es m in (there.0, inr there.1, there.2)

as_many : (es : List ExprTree) → length (map argument_name es) ≡ length es
as_many [] = refl
as_many (e ∷ es) = ap suc (as_many es)

-- a CALL has bad arguments
pub bad_named : (us : ProgramUnits) (u v : ProgramUnit) (p : Placed) → HasBadArguments us u v p → HasMisfit us u v (placed_call p)
bad_named us u v p (inl h) = inl (λ e. h (sym (as_many (listed p.called.arguments)) ∙ e))
bad_named us u v p (inr h) = inr (as_many (listed p.called.arguments) ∙ h.0, some_named us u v p.loops v.formals (listed p.called.arguments) h.1 h.2 h.3)

pub named_bad : (us : ProgramUnits) (u v : ProgramUnit) (p : Placed) → HasMisfit us u v (placed_call p) → HasBadArguments us u v p
named_bad us u v p (inl h) = inl (λ e. h (as_many (listed p.called.arguments) ∙ e))
named_bad us u v p (inr h) =
    let there = named_some us u v p.loops v.formals (listed p.called.arguments) h.1 in
    inr (sym (as_many (listed p.called.arguments)) ∙ h.0, there.0, there.1, there.2)
