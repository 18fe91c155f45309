-- Places that stand alike: for statements that are moved, and for those in which a DO variable gives way to an expression.
use Rattle.std.proofs.Common.{◌≡◌, ℕ, suc, ℤ, pos, negsuc, neg_ℤ, ◌+ℤ◌, ◌-ℤ◌, ◌*ℤ◌, List, [], ◌∷◌, ◌++◌, Bool, true, false, Option, Some, None, Result, Ok, Err, refl, sym, ap, subst, ◌∙◌, arith, eqb-true, if◌then◌else◌}
use Rattle.std.specs.Prelude.{int_lt, ◌==◌}
use Rattle.std.specs.Int.{is_negative}
use Rattle.std.proofs.lemmas.Bool.{both_ways}
use Rattle.std.proofs.lemmas.Int.{ints}
use Rattle.ped_steps.specs.ped_flow.specs.ped_base.specs.Lists.{is_same_text, is_among}
use Rattle.ped_steps.specs.ped_flow.specs.ped_base.specs.declared.arithmetic.faults.Fault.{Fault}
use Rattle.ped_steps.specs.ped_flow.specs.ped_base.specs.declared.arithmetic.faults.Fault.TheVariants.{OutOfRange}
use Rattle.ped_steps.specs.ped_flow.specs.ped_base.specs.Arithmetic.Arithmetic.{is_in_range, in_range, sum_of, difference_of, negation_of, product_of}
use Rattle.ped_steps.specs.ped_flow.specs.ped_base.proofs.NameEquality.{same_is}
use Rattle.ped_steps.specs.ped_flow.specs.ped_tree.specs.Constants.NamedConstants.{value_named}
use Rattle.ped_steps.specs.ped_flow.specs.ped_tree.specs.Tree.{ExprTree, Int, Var, Neg, Add, Sub, Mul}
use Rattle.ped_steps.specs.ped_symbolic.specs.Arithmetic.{literal, times_of}
use Rattle.ped_steps.specs.ped_symbolic.specs.Substitution.{substituted}
use Rattle.ped_steps.specs.ped_store.specs.Cells.{Cell}
use Rattle.ped_steps.specs.ped_store.specs.Stores.{Store}
use Rattle.ped_steps.specs.ped_eval.specs.Scopes.{Setting, Scope, cell_of, index_value, names_in}
use Rattle.ped_steps.specs.ped_eval.specs.Evaluation.{Seen, cell_seen, index_seen, Evaluated, onward, given, by_number}
use Rattle.ped_steps.specs.ped_eval.specs.Values.{unary, binary, variable_value, name_value, value}
use Rattle.ped_bodies.specs.Rewriting.{unchanged}
use Rattle.ped_bodies.specs.Standing.{SeesNoCell, IsTold, HaveVariablesIn, EvaluateLikewise, StandLikewise}
use Rattle.ped_bodies.specs.Likewise.{Meet}
use Rattle.ped_bodies.specs.Moving.{TellTheSame, ToldInside, GivesWayTo, CellsCorrespond}
use Rattle.ped_bodies.proofs.BodyLaws.LikewisePlaces.{index_behind}
use Rattle.ped_bodies.proofs.BodyLaws.Rewritings.{other_stays}

-- a name that is told has the value that its place tells
pub name_told : (q : Setting) (fs other : Scope) (x : List ℕ) (v : ℤ) → value_named q.constants x ≡ None → index_value other x ≡ Some v → index_value fs x ≡ None → IsTold (value (names_in q (fs ++ other)) (Var x)) v
name_told q fs other x v none is apart =
    subst (λ (o : Option ℤ). IsTold (name_value o (names_in q (fs ++ other)) x) v) (sym none)
    (subst (λ (o : Option ℤ). IsTold (λ (s : Store). variable_value o s (cell_of (fs ++ other) x)) v) (sym (index_behind fs other x apart ∙ is)) (record { comes = λ s. refl; unseen = λ s. tt }))

-- statements that are moved
pub moved_stand : (name : Cell → Cell) (idle : Cell → Bool) (f : ℕ → ℕ) (q : Setting) (names loops : List (List ℕ)) (scope other : Scope) → TellTheSame names scope other → CellsCorrespond name idle f names scope other → StandLikewise unchanged name idle f q names loops scope other
moved_stand name idle f q names loops scope other tell cells = record {
  told = λ x v fs among none is variables apart. name_told q fs other x v none (tell x among ∙ is) apart;
  untold = λ x among is. (refl, tell x among ∙ is);
  constant = λ x n is. refl;
  cell = cells.cell;
  inside = cells.inside;
}

-- expressions that are moved
pub moved_evaluate : (name : Cell → Cell) (idle : Cell → Bool) (q : Setting) (names : List (List ℕ)) (scope other : Scope) → TellTheSame names scope other → ((x : List ℕ) → is_among x names ≡ true → Meet name idle (cell_of scope x) (cell_of other x)) → EvaluateLikewise unchanged name idle q names scope other
moved_evaluate name idle q names scope other tell cells = record {
  told = λ x v among none is. name_told q [] other x v none (tell x among ∙ is) refl;
  untold = λ x among is. (refl, tell x among ∙ is);
  constant = λ x n is. refl;
  cell = cells;
}

-- statements in which a DO variable gives way
module _ (x : List ℕ) (by : ExprTree) (name : Cell → Cell) (idle : Cell → Bool) (f : ℕ → ℕ) (q : Setting) (names loops : List (List ℕ)) (scope other : Scope) (gives : GivesWayTo q names loops x by scope other) where
  told_so : (y : List ℕ) (v : ℤ) (fs : Scope) → is_among y names ≡ true → value_named q.constants y ≡ None → index_value scope y ≡ Some v → HaveVariablesIn loops fs → index_value fs y ≡ None → IsTold (value (names_in q (fs ++ other)) (substituted x by (Var y))) v
  told_so y v fs among none is variables apart = go (is_same_text x y) refl
    where
      go : (b : Bool) → is_same_text x y ≡ b → IsTold (value (names_in q (fs ++ other)) (if b then by else Var y)) v
      go true h =
          let same = same_is x y h in
          let there : Some gives.value ≡ Some v = sym gives.index ∙ ap (index_value scope) same ∙ is in
          let equal : gives.value ≡ v = cc in
          subst (IsTold (value (names_in q (fs ++ other)) by)) equal (gives.told fs variables (ap (index_value fs) same ∙ apart))
      go false h = name_told q fs other y v none (gives.others y among h ∙ is) apart

  unlike : (y : List ℕ) → ((x ≡ y) → ⊥) → is_same_text x y ≡ false
  unlike y h = go (is_same_text x y) refl
    where
      go : (b : Bool) → is_same_text x y ≡ b → b ≡ false
      go true e = absurd (h (same_is x y e))
      go false e = refl

  untold_so : (y : List ℕ) → is_among y names ≡ true → index_value scope y ≡ None → (substituted x by (Var y) ≡ Var y) × (index_value other y ≡ None)
  untold_so y among is =
      let apart = unlike y (λ same. let k : Some gives.value ≡ None = sym gives.index ∙ ap (index_value scope) same ∙ is in absurd cc) in
      (other_stays x by y apart, gives.others y among apart ∙ is)

  constant_so : (y : List ℕ) (n : ℤ) → value_named q.constants y ≡ Some n → substituted x by (Var y) ≡ Var y
  constant_so y n is = other_stays x by y (unlike y (λ same. let k : None ≡ Some n = sym gives.no_constant ∙ ap (value_named q.constants) same ∙ is in absurd cc))

  pub substituted_stand : CellsCorrespond name idle f names scope other → StandLikewise (substituted x by) name idle f q names loops scope other
  substituted_stand cells = record { told = told_so; untold = untold_so; constant = constant_so; cell = cells.cell; inside = cells.inside }

-- what places and constants tell
unseen_append : (xs ys : List Seen) → SeesNoCell xs → SeesNoCell ys → SeesNoCell (xs ++ ys)
unseen_append [] ys h k = k
unseen_append (cell_seen c content ∷ xs) ys h k = absurd h
unseen_append (index_seen c v ∷ xs) ys h k = unseen_append xs ys h k

unseen_onward : (seen : List Seen) (r : Result ℤ ℕ) (next : ℤ → Evaluated ℤ) → SeesNoCell seen → ((u : ℤ) → SeesNoCell (next u).seen) → SeesNoCell (onward seen r next).seen
unseen_onward seen (Ok u) next h k = unseen_append seen (next u).seen h (k u)
unseen_onward seen (Err n) next h k = h

two_told : (op : ℤ → ℤ → Result ℤ Fault) (a b : Store → Evaluated ℤ) (u v w : ℤ) → IsTold a u → IsTold b v → by_number (op u v) ≡ Ok w → IsTold (λ s. binary op (a s) (b s)) w
two_told op a b u v w h k is = record {
  comes = λ s. (λ i. (onward (a s).seen (h.comes s i) (λ m. onward (b s).seen (k.comes s i) (λ n. given (by_number (op m n))))).result) ∙ is;
  unseen = λ s. unseen_onward (a s).seen (a s).result _ (h.unseen s) (λ m. unseen_onward (b s).seen (b s).result _ (k.unseen s) (λ n. tt));
}

one_told : (op : ℤ → Result ℤ Fault) (a : Store → Evaluated ℤ) (u w : ℤ) → IsTold a u → by_number (op u) ≡ Ok w → IsTold (λ s. unary op (a s)) w
one_told op a u w h is = record {
  comes = λ s. (λ i. (onward (a s).seen (h.comes s i) (λ m. given (by_number (op m)))).result) ∙ is;
  unseen = λ s. unseen_onward (a s).seen (a s).result _ (h.unseen s) (λ m. tt);
}

in_range_is : (w : ℤ) → is_in_range w ≡ true → by_number (in_range w) ≡ Ok w
in_range_is w h = λ i. by_number (if h i then Ok w else Err OutOfRange)

module _ (q : Setting) (loops : List (List ℕ)) (x : List ℕ) (other : Scope) where
  pub number_told : (n : ℕ) → ToldInside q loops x other (Int n) (pos n)
  number_told n fs variables apart = record { comes = λ s. refl; unseen = λ s. tt }

  -- a literal, with a sign or without
  pub literal_told : (n : ℤ) → is_in_range n ≡ true → ToldInside q loops x other (literal n) n
  literal_told (pos n) fits fs variables apart = go (is_negative (pos n)) refl
    where
      go : (b : Bool) → is_negative (pos n) ≡ b → IsTold (value (names_in q (fs ++ other)) (if b then Neg (Int n) else Int n)) (pos n)
      go true h = let k : int_lt (pos n) (pos 0) ≡ true = h in absurd (omega (arith, ints, k))
      go false h = record { comes = λ s. refl; unseen = λ s. tt }
  literal_told (negsuc n) fits fs variables apart = one_told negation_of (value (names_in q (fs ++ other)) (Int (suc n))) (pos (suc n)) (negsuc n) (record { comes = λ s. refl; unseen = λ s. tt }) (in_range_is (negsuc n) fits)

  pub negative_told : (e : ExprTree) (u : ℤ) → is_in_range (neg_ℤ u) ≡ true → ToldInside q loops x other e u → ToldInside q loops x other (Neg e) (neg_ℤ u)
  negative_told e u fits h fs variables apart = one_told negation_of (value (names_in q (fs ++ other)) e) u (neg_ℤ u) (h fs variables apart) (in_range_is (neg_ℤ u) fits)

  pub sum_told : (a b : ExprTree) (u v : ℤ) → is_in_range (u +ℤ v) ≡ true → ToldInside q loops x other a u → ToldInside q loops x other b v → ToldInside q loops x other (Add a b) (u +ℤ v)
  sum_told a b u v fits h k fs variables apart = two_told sum_of (value (names_in q (fs ++ other)) a) (value (names_in q (fs ++ other)) b) u v (u +ℤ v) (h fs variables apart) (k fs variables apart) (in_range_is (u +ℤ v) fits)

  pub difference_told : (a b : ExprTree) (u v : ℤ) → is_in_range (u -ℤ v) ≡ true → ToldInside q loops x other a u → ToldInside q loops x other b v → ToldInside q loops x other (Sub a b) (u -ℤ v)
  difference_told a b u v fits h k fs variables apart = two_told difference_of (value (names_in q (fs ++ other)) a) (value (names_in q (fs ++ other)) b) u v (u -ℤ v) (h fs variables apart) (k fs variables apart) (in_range_is (u -ℤ v) fits)

  pub product_told : (a b : ExprTree) (u v : ℤ) → is_in_range (u *ℤ v) ≡ true → ToldInside q loops x other a u → ToldInside q loops x other b v → ToldInside q loops x other (Mul a b) (u *ℤ v)
  product_told a b u v fits h k fs variables apart = two_told product_of (value (names_in q (fs ++ other)) a) (value (names_in q (fs ++ other)) b) u v (u *ℤ v) (h fs variables apart) (k fs variables apart) (in_range_is (u *ℤ v) fits)

  -- a number times a variable
  pub times_told : (k : ℕ) (w : List ℕ) (v : ℤ) → is_in_range (pos k *ℤ v) ≡ true → ToldInside q loops x other (Var w) v → ToldInside q loops x other (times_of k (Var w)) (pos k *ℤ v)
  times_told k w v fits h fs variables apart = go (k == 1) refl
    where
      one : k ≡ 1 → v ≡ pos k *ℤ v
      one is = sym (ap (λ (m : ℕ). pos m *ℤ v) is ∙ omega (arith, ints))

      go : (b : Bool) → (k == 1) ≡ b → IsTold (value (names_in q (fs ++ other)) (if b then Var w else Mul (Int k) (Var w))) (pos k *ℤ v)
      go true e = subst (IsTold (value (names_in q (fs ++ other)) (Var w))) (one (eqb-true k 1 e)) (h fs variables apart)
      go false e = product_told (Int k) (Var w) (pos k) v fits (number_told k) h fs variables apart

  -- the variable that gives way, by its value at the new place
  pub itself_told : (v : ℤ) → value_named q.constants x ≡ None → index_value other x ≡ Some v → ToldInside q loops x other (Var x) v
  itself_told v none is fs variables apart = name_told q fs other x v none is apart

  -- another variable of a DO round the place, which no DO inside has
  pub variable_told : (w : List ℕ) (v : ℤ) → value_named q.constants w ≡ None → index_value other w ≡ Some v → is_among w loops ≡ false → ToldInside q loops x other (Var w) v
  variable_told w v none is outside fs variables apart = name_told q fs other w v none is (absent fs variables)
    where
      absent : (gs : Scope) → HaveVariablesIn loops gs → index_value gs w ≡ None
      absent [] h = refl
      absent (f ∷ gs) h = go (is_same_text w f.variable) refl (absent gs h.1)
        where
          go : (b : Bool) → is_same_text w f.variable ≡ b → index_value gs w ≡ None → (if b then Some f.turn.value else index_value gs w) ≡ None
          go true e rest = let same = same_is w f.variable e in absurd (both_ways (is_among w loops) outside (ap (λ (y : List ℕ). is_among y loops) same ∙ h.0))
          go false e rest = rest
