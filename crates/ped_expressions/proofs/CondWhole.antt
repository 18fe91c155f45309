-- Reading a whole text as a condition.
use Rattle.std.proofs.Common.{◌≡◌, ℕ, cond, List, [], ◌++◌, length, Some, None, refl, sym, ap, ◌∙◌, eqb}
use Rattle.std.proofs.lemmas.Bool.{eqb-true}
use Rattle.std.proofs.lemmas.List.{append-nil, nil_from_length}
use Rattle.ped_tree.specs.Tree.{ExprTree, CondTree, Rel, Not, And, Or}
use Rattle.ped_tree.specs.Grammar.ConditionForms.{CondForm, cond_form_text, cond_form_tree, ReadsCond}
use Rattle.ped_expressions.specs.ExpressionReading.{with_literals, enough}
use Rattle.ped_expressions.specs.ConditionReading.{cond_with_literals, cond_of, whole_cond_of}
use Rattle.ped_expressions.proofs.Basics.{bind_some, some_is, guarded}
use Rattle.ped_expressions.proofs.Whole.{with_same}
use Rattle.ped_expressions.proofs.CondSound.{cond_found}
use Rattle.ped_expressions.proofs.CondAgain.{cond_again, ors_stop}

-- what is read is a condition's tree
pub whole_cond_found : (v : ℕ → ℕ) (text : List ℕ) (c : CondTree) → whole_cond_of v text ≡ Some c → (f : CondForm) × (cond_form_text f ≡ text) × (cond_with_literals v (cond_form_tree f) ≡ c)
unfolding whole_cond_of cond_of
whole_cond_found v text c h =
    let a = bind_some (cond_of v text) (λ x. cond (eqb (length x.1) 0) (Some x.0) None) c h in
    let g = guarded (eqb (length a.0.1) 0) (Some a.0.0) c a.2 in
    let f = cond_found v (enough text) text a.0 a.1 in
    let nothing : a.0.1 ≡ [] = nil_from_length a.0.1 (eqb-true _ _ g.0) in
    (f.0, sym (f.2 ∙ ap (λ (r : List ℕ). cond_form_text f.0 ++ r) nothing ∙ append-nil (cond_form_text f.0)), f.1 ∙ some_is a.0.0 c g.1)

-- a condition is read
pub whole_cond_again : (v : ℕ → ℕ) (text : List ℕ) (c : CondTree) → ReadsCond text c → whole_cond_of v text ≡ Some (cond_with_literals v c)
unfolding whole_cond_of
whole_cond_again v text c r =
    let f = r.0 in
    let a = cond_with_literals v (cond_form_tree f) in
    let p : cond_of v text ≡ Some (a, []) = ap (cond_of v) (sym (append-nil (cond_form_text f) ∙ r.1)) ∙ cond_again v f [] refl refl ∙ ors_stop v a [] refl in
    rw p (ap (λ (u : CondTree). Some (cond_with_literals v u)) r.2)

pub cond_with_same : (c : CondTree) → cond_with_literals (λ n. n) c ≡ c
cond_with_same (Rel r a b) = ap (λ (u : ExprTree). Rel r u (with_literals (λ n. n) b)) (with_same a) ∙ ap (Rel r a) (with_same b)
cond_with_same (Not a) = ap Not (cond_with_same a)
cond_with_same (And a b) = ap (λ (u : CondTree). And u (cond_with_literals (λ n. n) b)) (cond_with_same a) ∙ ap (And a) (cond_with_same b)
cond_with_same (Or a b) = ap (λ (u : CondTree). Or u (cond_with_literals (λ n. n) b)) (cond_with_same a) ∙ ap (Or a) (cond_with_same b)

-- a text reads as one condition
pub one_cond : (text : List ℕ) (a b : CondTree) → ReadsCond text a → ReadsCond text b → a ≡ b
one_cond text a b p q = sym (cond_with_same a) ∙ some_is _ _ (sym (whole_cond_again (λ n. n) text a p) ∙ whole_cond_again (λ n. n) text b q) ∙ cond_with_same b
