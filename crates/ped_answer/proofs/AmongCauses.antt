-- A first cause is among the causes, and where there is none, there are none.
use Rattle.std.proofs.Common.{◌≡◌, List, ◌∷◌, Bool, true, false, Some, None, arith, refl, sym, subst}
use Rattle.std.specs.Prelude.{Contains}
use Rattle.std.proofs.lemmas.List.Elements.{All-contains, Contains-append_right}
use Rattle.ped_tree.specs.Tree.{ProgramTree}
use Rattle.ped_session.specs.ped_rules.specs.ped_edges.specs.Edges.{Edge}
use Rattle.ped_session.specs.ped_steps.specs.Causes.{Rules, Cause, rule, dependence, IsFirstCause}
use Rattle.ped_answer.specs.StepCauses.{IsAmong}

pub first_among : (t : ProgramTree) (stands : Rules) (forbids : Edge → Bool) (c : Cause) → IsFirstCause t stands forbids (Some c) → IsAmong t stands forbids c
first_among t stands forbids (rule r n) h = h.0
first_among t stands forbids (dependence e) h =
    let found = h.3 in
    (h.1, h.2, subst (λ (es : List Edge). Contains es e) (sym found.2) (Contains-append_right found.0 (e ∷ found.1) e (0, omega arith, refl)), found.3)

pub true_isnt_false : (b : Bool) → b ≡ true → b ≡ false → ⊥
true_isnt_false b t f = cc

pub none_among : (t : ProgramTree) (stands : Rules) (forbids : Edge → Bool) → IsFirstCause t stands forbids None → (c : Cause) → IsAmong t stands forbids c → ⊥
none_among t stands forbids h (rule r n) is = h.0 r n is
none_among t stands forbids h (dependence e) is = true_isnt_false (forbids e) is.3 (All-contains (λ (f : Edge). forbids f ≡ false) is.0 e (h.1 is.0 is.1) is.2)
