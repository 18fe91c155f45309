-- One variable's name for two dummy arguments, by expressions and by the names that they are.
use Rattle.std.proofs.Common.{◌≡◌, ◌⊎◌, inl, inr, ℕ, List, [], ◌∷◌, ◌++◌, false, Option, Some, None, map, refl, sym, ap, subst, ◌∙◌}
use Rattle.ped_tree.specs.Tree.{ExprTree, Var}
use Rattle.ped_tree.specs.Accesses.{listed}
use Rattle.ped_units.specs.Units.{ProgramUnit, ProgramUnits}
use Rattle.ped_units.specs.Forms.{Called}
use Rattle.ped_units.specs.Linking.{Association, associations, IsAliased, IsAssigned, is_constant, kind_there}
use Rattle.ped_links.specs.Arguments.{IsAgain, IsAliasedFirst, SomeAliased}
use Rattle.ped_links.specs.Placing.{argument_name}
use Rattle.ped_links.proofs.Used.{named_so}

first_same : (a b : Association) (xs ys : List Association) → a ∷ xs ≡ b ∷ ys → a ≡ b
first_same a b xs ys h = cc

rest_same : (a b : Association) (xs ys : List Association) → a ∷ xs ≡ b ∷ ys → xs ≡ ys
rest_same a b xs ys h = cc

nothing_there : (xs : List Association) (a : Association) (ys : List Association) → [] ≡ xs ++ a ∷ ys → ⊥
nothing_there [] a ys h = absurd cc
nothing_there (x ∷ xs) a ys h = absurd cc

again_to : (us : ProgramUnits) (v : ProgramUnit) (f x : List ℕ) (fs : List (List ℕ)) (es : List ExprTree) (between : List Association) (second : Association) (behind : List Association) → associations fs es ≡ between ++ second ∷ behind → second.argument ≡ Var x
    → IsAssigned us v f ⊎ IsAssigned us v second.formal → IsAgain us v f x fs (map argument_name es)
again_to us v f x [] es between second behind h e a = absurd (nothing_there between second behind h)
again_to us v f x (g ∷ gs) [] between second behind h e a = absurd (nothing_there between second behind h)
again_to us v f x (g ∷ gs) (d ∷ ds) [] second behind h e a =
    let is = first_same (record { formal = g; argument = d }) second (associations gs ds) behind h in
    inl (ap argument_name (ap (λ (s : Association). s.argument) is ∙ e), subst (λ (s : Association). IsAssigned us v f ⊎ IsAssigned us v s.formal) (sym is) a)
again_to us v f x (g ∷ gs) (d ∷ ds) (b ∷ bs) second behind h e a = inr (again_to us v f x gs ds bs second behind (rest_same (record { formal = g; argument = d }) b (associations gs ds) (bs ++ second ∷ behind) h) e a)

alias_to : (us : ProgramUnits) (u v : ProgramUnit) (x : List ℕ) (fs : List (List ℕ)) (es : List ExprTree) (before : List Association) (first : Association) (between : List Association) (second : Association) (behind : List Association)
    → is_constant (kind_there u x) ≡ false → associations fs es ≡ before ++ first ∷ (between ++ second ∷ behind) → first.argument ≡ Var x → second.argument ≡ Var x → IsAssigned us v first.formal ⊎ IsAssigned us v second.formal → SomeAliased us u v fs (map argument_name es)
alias_to us u v x [] es before first between second behind k h e d a = absurd (nothing_there before first (between ++ second ∷ behind) h)
alias_to us u v x (g ∷ gs) [] before first between second behind k h e d a = absurd (nothing_there before first (between ++ second ∷ behind) h)
alias_to us u v x (g ∷ gs) (c ∷ cs) [] first between second behind k h e d a =
    let is = first_same (record { formal = g; argument = c }) first (associations gs cs) (between ++ second ∷ behind) h in
    let rest = rest_same (record { formal = g; argument = c }) first (associations gs cs) (between ++ second ∷ behind) h in
    let name : argument_name c ≡ Some x = ap argument_name (ap (λ (s : Association). s.argument) is ∙ e) in
    inl (subst (λ (o : Option (List ℕ)). IsAliasedFirst us u v g o gs (map argument_name cs)) (sym name)
    (k, again_to us v g x gs cs between second behind rest d (subst (λ (s : Association). IsAssigned us v s.formal ⊎ IsAssigned us v second.formal) (sym is) a)))
alias_to us u v x (g ∷ gs) (c ∷ cs) (b ∷ bs) first between second behind k h e d a =
    inr (alias_to us u v x gs cs bs first between second behind k (rest_same (record { formal = g; argument = c }) b (associations gs cs) (bs ++ first ∷ (between ++ second ∷ behind)) h) e d a)

-- the second of two places
pub record IsAgainAt (us : ProgramUnits) (v : ProgramUnit) (f x : List ℕ) (all : List Association) : Type 0 where
  pub between : List Association
  pub second : Association
  pub behind : List Association
  pub stand : all ≡ between ++ second ∷ behind
  pub other : second.argument ≡ Var x
  pub assigned : IsAssigned us v f ⊎ IsAssigned us v second.formal

again_from : (us : ProgramUnits) (v : ProgramUnit) (f x : List ℕ) (fs : List (List ℕ)) (es : List ExprTree) → IsAgain us v f x fs (map argument_name es) → IsAgainAt us v f x (associations fs es)
again_from us v f x [] es h = absurd h
again_from us v f x (g ∷ gs) [] h = absurd h
again_from us v f x (g ∷ gs) (d ∷ ds) (inl h) = record { between = []; second = record { formal = g; argument = d }; behind = associations gs ds; stand = refl; other = named_so d x h.0; assigned = h.1 }
again_from us v f x (g ∷ gs) (d ∷ ds) (inr h) =
    let there = again_from us v f x gs ds h in
    record {
      between = (record { formal = g; argument = d }) ∷ there.between;
      second = there.second;
      behind = there.behind;
      stand = ap (λ (all : List Association). (record { formal = g; argument = d }) ∷ all) there.stand;
      other = there.other;
      assigned = there.assigned;
    }

-- both places
pub record IsAliasedIn (us : ProgramUnits) (u v : ProgramUnit) (all : List Association) : Type 0 where
  pub variable : List ℕ
  pub is_variable : is_constant (kind_there u variable) ≡ false
  pub before : List Association
  pub first : Association
  pub one : first.argument ≡ Var variable
  pub rest : List Association
  pub stand : all ≡ before ++ first ∷ rest
  pub again : IsAgainAt us v first.formal variable rest

first_from : (us : ProgramUnits) (u v : ProgramUnit) (g : List ℕ) (c : ExprTree) (gs : List (List ℕ)) (cs : List ExprTree) (o : Option (List ℕ)) → argument_name c ≡ o → IsAliasedFirst us u v g o gs (map argument_name cs) → IsAliasedIn us u v ((record { formal = g; argument = c }) ∷ associations gs cs)
first_from us u v g c gs cs None e h = absurd h
first_from us u v g c gs cs (Some x) e h = record {
  variable = x;
  is_variable = h.0;
  before = [];
  first = record { formal = g; argument = c };
  one = named_so c x e;
  rest = associations gs cs;
  stand = refl;
  again = again_from us v g x gs cs h.1;
}

alias_from : (us : ProgramUnits) (u v : ProgramUnit) (fs : List (List ℕ)) (es : List ExprTree) → SomeAliased us u v fs (map argument_name es) → IsAliasedIn us u v (associations fs es)
alias_from us u v [] es h = absurd h
alias_from us u v (g ∷ gs) [] h = absurd h
alias_from us u v (g ∷ gs) (c ∷ cs) (inl h) = first_from us u v g c gs cs (argument_name c) refl h
alias_from us u v (g ∷ gs) (c ∷ cs) (inr h) =
    let there = alias_from us u v gs cs h in
    record {
      variable = there.variable;
      is_variable = there.is_variable;
      before = (record { formal = g; argument = c }) ∷ there.before;
      first = there.first;
      one = there.one;
      rest = there.rest;
      stand = ap (λ (all : List Association). (record { formal = g; argument = c }) ∷ all) there.stand;
      again = there.again;
    }

-- a CALL hands over one name twice
pub aliased_named : (us : ProgramUnits) (u v : ProgramUnit) (c : Called) → IsAliased us u v c → SomeAliased us u v v.formals (map argument_name (listed c.arguments))
aliased_named us u v c h = alias_to us u v h.variable v.formals (listed c.arguments) h.before h.first h.between h.second h.behind h.is_variable h.stand h.one h.other h.assigned

pub named_aliased : (us : ProgramUnits) (u v : ProgramUnit) (c : Called) → SomeAliased us u v v.formals (map argument_name (listed c.arguments)) → IsAliased us u v c
named_aliased us u v c h =
    let all = alias_from us u v v.formals (listed c.arguments) h in
    let again = all.again in
    record {
      variable = all.variable;
      is_variable = all.is_variable;
      before = all.before;
      first = all.first;
      between = again.between;
      second = again.second;
      behind = again.behind;
      stand = all.stand ∙ ap (λ (more : List Association). all.before ++ all.first ∷ more) again.stand;
      one = all.one;
      other = again.other;
      assigned = again.assigned;
    }
