-- Rewritten expressions come, at the other place, to the values that the old ones had, and see what corresponds.
use Rattle.std.proofs.Common.{◌≡◌, ℕ, ℤ, pos, List, [], ◌∷◌, ◌++◌, map, Bool, true, false, Option, Some, None, Result, Ok, Err, refl, sym, ap, subst, ◌∙◌, ◌⊎◌, inl, inr, if◌then◌else◌}
use Rattle.std.specs.Prelude.{length, not, ◌&&◌, ◌||◌}
use Rattle.std.specs.List.{flat_map, join_with_byte}
use Rattle.std.specs.Fmt.{signed_decimal}
use Rattle.std.proofs.lemmas.List.Folds.{list_any-append}
use Rattle.std.proofs.lemmas.Bool.{or_right}
use Rattle.ped_steps.specs.ped_flow.specs.ped_base.specs.Dimensions.{Dimensions}
use Rattle.ped_steps.specs.ped_flow.specs.ped_base.specs.Lists.{is_same_text, is_among}
use Rattle.ped_steps.specs.ped_flow.specs.ped_base.specs.declared.arithmetic.faults.Fault.{Fault}
use Rattle.ped_steps.specs.ped_flow.specs.ped_base.specs.Arithmetic.Arithmetic.{sum_of, difference_of, negation_of, product_of, quotient_of, power_of}
use Rattle.ped_steps.specs.ped_flow.specs.ped_tree.specs.Constants.NamedConstants.{value_named}
use Rattle.ped_steps.specs.ped_flow.specs.ped_tree.specs.Constants.ConstantExpressions.{intrinsic_result}
use Rattle.ped_steps.specs.ped_flow.specs.ped_tree.specs.Tree.{ExprTree, ExprTrees, Int, Var, Element, Neg, Add, Sub, Mul, Div, Pow, Call, no_exprs, more_exprs, CondTree, Rel, Not, And, Or, ItemTree, Value, Text, Head}
use Rattle.ped_steps.specs.ped_flow.specs.ped_tree.specs.NamesIn.{expr_names, exprs_names, cond_names, item_names}
use Rattle.ped_steps.specs.ped_symbolic.specs.Arithmetic.{plus_of, minus_of}
use Rattle.ped_steps.specs.ped_affine.specs.Assigned.{assigned_left}
use Rattle.ped_steps.specs.ped_store.specs.Cells as cells
use Rattle.ped_steps.specs.ped_store.specs.Cells.{Cell}
use Rattle.ped_steps.specs.ped_store.specs.Storage.{is_within}
use Rattle.ped_steps.specs.ped_store.specs.Stores.{Store, number_read, storable, outside_bounds}
use Rattle.ped_steps.specs.ped_store.specs.Races.{is_lines}
use Rattle.ped_steps.specs.ped_laws.proofs.ActLaws.SameCells.{text_itself}
use Rattle.ped_steps.specs.ped_eval.specs.Scopes.{Setting, Scope, cell_of, index_value, Names, names_in}
use Rattle.ped_steps.specs.ped_eval.specs.Evaluation.{Seen, cell_seen, index_seen, Evaluated, having_seen, onward, ◌>>>◌, given, by_number, read_cell, read_index}
use Rattle.ped_steps.specs.ped_eval.specs.Values.{of_intrinsic, variable_value, name_value, is_rank, element_cell, binary, value, values, relation_holds, truth, target}
use Rattle.ped_steps.specs.ped_eval.specs.Statements.{Stored, assigned, item_text, item_texts, printed_line}
use Rattle.ped_steps.specs.ped_eval.specs.Loops.{in_bounds, limits}
use Rattle.ped_steps.specs.ped_laws.specs.Runs.Seeing.{ComesTo}
use Rattle.ped_steps.specs.ped_laws.proofs.RunLaws.Sight.{holds_first, holds_rest, value_told}
use Rattle.ped_steps.specs.ped_laws.proofs.RunLaws.SeenCells.{AllSeen, value_seen}
use Rattle.ped_steps.specs.ped_laws.proofs.RunLaws.StatementsTold.{no_lines}
use Rattle.ped_steps.specs.Runs.Pasting.{AgreeInBounds}
use Rattle.ped_steps.proofs.RunLaws.SubstitutedSums.{plus_comes, minus_comes}
use Rattle.ped_bodies.specs.Rewriting.{IsRewriting, condition_rewritten, item_rewritten, head_rewritten}
use Rattle.ped_bodies.specs.Likewise.{NamesScalars, OfSeen, Meet, ComesLikewise}
use Rattle.ped_bodies.specs.Standing.{IsTold, EvaluateLikewise}
use Rattle.ped_bodies.proofs.BodyLaws.Corresponding.{read_meets, nothing_alike, see_append, told_alike}

-- names that are all among others
abbrev pub Within : List (List ℕ) → List (List ℕ) → Type 0
Within names xs = (x : List ℕ) → is_among x xs ≡ true → is_among x names ≡ true

pub among_first : (x : List ℕ) (xs ys : List (List ℕ)) → is_among x xs ≡ true → is_among x (xs ++ ys) ≡ true
among_first x xs ys h = list_any-append (is_same_text x) xs ys ∙ ap (λ (b : Bool). b || is_among x ys) h

pub among_rest : (x : List ℕ) (xs ys : List (List ℕ)) → is_among x ys ≡ true → is_among x (xs ++ ys) ≡ true
among_rest x xs ys h = list_any-append (is_same_text x) xs ys ∙ ap (λ (b : Bool). is_among x xs || b) h ∙ or_right (is_among x xs) true refl

pub among_itself : (x : List ℕ) (xs : List (List ℕ)) → is_among x (x ∷ xs) ≡ true
among_itself x xs = ap (λ (b : Bool). b || is_among x xs) (text_itself x)

pub among_more : (x y : List ℕ) (xs : List (List ℕ)) → is_among x xs ≡ true → is_among x (y ∷ xs) ≡ true
among_more x y xs h = ap (λ (b : Bool). is_same_text x y || b) h ∙ or_right (is_same_text x y) true refl

module _ (names : List (List ℕ)) where
  pub within_parts : (xs ys : List (List ℕ)) → Within names (xs ++ ys) → Within names xs × Within names ys
  within_parts xs ys h = (λ x e. h x (among_first x xs ys e), λ x e. h x (among_rest x xs ys e))

  pub within_first : (x : List ℕ) (xs : List (List ℕ)) → Within names (x ∷ xs) → (is_among x names ≡ true) × Within names xs
  within_first x xs h = (h x (among_itself x xs), λ y e. h y (among_more y x xs e))

-- values that correspond by being equal
abbrev pub Same : {A : Type 0} → A → A → Type 0
Same a x = x ≡ a

of_seen : (xs : List Seen) → AllSeen (λ c. is_lines c ≡ false) xs → OfSeen (λ c. is_lines c ≡ false) xs
of_seen [] h = tt
of_seen (cell_seen c content ∷ xs) h = (h.0, of_seen xs h.1)
of_seen (index_seen c v ∷ xs) h = (h.0, of_seen xs h.1)

append_apart : (xs ys : List Seen) → OfSeen (λ c. is_lines c ≡ false) xs → OfSeen (λ c. is_lines c ≡ false) ys → OfSeen (λ c. is_lines c ≡ false) (xs ++ ys)
append_apart [] ys h k = k
append_apart (cell_seen c content ∷ xs) ys h k = (h.0, append_apart xs ys h.1 k)
append_apart (index_seen c v ∷ xs) ys h k = (h.0, append_apart xs ys h.1 k)

module _ (name : Cell → Cell) (idle : Cell → Bool) where
  -- where the first evaluation has a value, the other comes to one that corresponds
  abbrev pub Matches : {A X : Type 0} → (A → X → Type 0) → Evaluated A → (Store → Evaluated X) → Type 0
  Matches {A} {X} R e z = (a : A) → e.result ≡ Ok a → (x : X) × R a x × ComesLikewise name idle e.seen z x

  pub given_match : {A : Type 0} (r : Result A ℕ) → Matches Same (given r) (λ (s : Store). given r)
  given_match {A} r a e = (a, refl, record { seen = []; comes = λ s h. ap (λ (z : Result A ℕ). given z) e; alike = nothing_alike name idle; apart = tt })

  comes_then : {X Y : Type 0} (xs us : List Seen) (z : Store → Evaluated X) (others : X → Store → Evaluated Y) (x : X) (y : Y) → ComesLikewise name idle xs z x → ComesLikewise name idle us (others x) y → ComesLikewise name idle (xs ++ us) (λ s. z s >>> λ x. others x s) y
  comes_then {X} {Y} xs us z others x y h k = record {
    seen = h.seen ++ k.seen;
    comes = λ s holds. ap (λ (w : Evaluated X). w >>> λ x. others x s) (h.comes s (holds_first s h.seen k.seen holds)) ∙ ap (having_seen h.seen) (k.comes s (holds_rest s h.seen k.seen holds));
    alike = see_append name idle xs h.seen us k.seen h.alike k.alike;
    apart = append_apart h.seen k.seen h.apart k.apart;
  }

  onward_match : {A B X Y : Type 0} (R : A → X → Type 0) (Q : B → Y → Type 0) (xs : List Seen) (r : Result A ℕ) (z : Store → Evaluated X) (next : A → Evaluated B) (others : X → Store → Evaluated Y)
      → ((a : A) → r ≡ Ok a → (x : X) × R a x × ComesLikewise name idle xs z x) → ((a : A) (x : X) → R a x → Matches Q (next a) (others x)) → Matches Q (onward xs r next) (λ s. z s >>> λ x. others x s)
  onward_match R Q xs (Ok a) z next others m more = λ b e.
      let t = m a refl in
      let u = more a t.0 t.1 b e in
      (u.0, u.1, comes_then xs (next a).seen z others t.0 u.0 t.2 u.2)
  onward_match R Q xs (Err n) z next others m more = λ b e. absurd cc

  pub then_match : {A B X Y : Type 0} (R : A → X → Type 0) (Q : B → Y → Type 0) (e : Evaluated A) (z : Store → Evaluated X) (next : A → Evaluated B) (others : X → Store → Evaluated Y)
      → Matches R e z → ((a : A) (x : X) → R a x → Matches Q (next a) (others x)) → Matches Q (e >>> next) (λ s. z s >>> λ x. others x s)
  then_match R Q e z next others m more = onward_match R Q e.seen e.result z next others m more

  pub then_same : {A B Y : Type 0} (Q : B → Y → Type 0) (e : Evaluated A) (z : Store → Evaluated A) (next : A → Evaluated B) (others : A → Store → Evaluated Y)
      → Matches Same e z → ((a : A) → Matches Q (next a) (others a)) → Matches Q (e >>> next) (λ s. z s >>> λ x. others x s)
  then_same {A} {B} {Y} Q e z next others m more = then_match Same Q e z next others m (λ a x q. subst (λ (y : A). Matches Q (next a) (others y)) (sym q) (more a))

  pub one_match : {A B : Type 0} (f : A → Result B ℕ) (a : Evaluated A) (b : Store → Evaluated A) → Matches Same a b → Matches Same (a >>> λ u. given (f u)) (λ s. b s >>> λ u. given (f u))
  one_match f a b m = then_same Same a b (λ u. given (f u)) (λ u s. given (f u)) m (λ u. given_match (f u))

  pub two_match : {A B C : Type 0} (f : A → B → Result C ℕ) (a : Evaluated A) (a' : Store → Evaluated A) (b : Evaluated B) (b' : Store → Evaluated B) → Matches Same a a' → Matches Same b b'
      → Matches Same (a >>> λ u. b >>> λ v. given (f u v)) (λ s. a' s >>> λ u. b' s >>> λ v. given (f u v))
  two_match f a a' b b' m k = then_same Same a a' (λ u. b >>> λ v. given (f u v)) (λ u s. b' s >>> λ v. given (f u v)) m (λ u. one_match (f u) b b' k)

  -- cells that correspond, and no lines in the second
  pub record CellsMeet (c d : Cell) : Type 0 where
    pub meet : Meet name idle c d
    pub apart : is_lines d ≡ false

  -- what is stored: the same number in cells that correspond
  pub record StoredMeet (w z : Stored) : Type 0 where
    pub meet : Meet name idle w.cell z.cell
    pub number : z.number ≡ w.number

  read_match : (c d : Cell) → CellsMeet c d → (s : Store) → Matches Same (read_cell s c) (λ u. read_cell u d)
  read_match c d m s a e = (
    a,
    refl,
    record {
      seen = cell_seen d (s c) ∷ [];
      comes = λ u holds. λ i. record { seen = cell_seen d (holds.0 i) ∷ []; result = (ap number_read holds.0 ∙ e) i };
      alike = record { touches = λ n. (read_meets name idle c d (s c) n m.meet, tt); behind = λ n. refl };
      apart = (m.apart, tt);
    },
  )

module _ (name : Cell → Cell) (idle : Cell → Bool) (laws : NamesScalars name) (h : ExprTree → ExprTree) (hs : ExprTrees → ExprTrees) (parts : IsRewriting h hs) (p q : Setting) (constants : p.constants ≡ q.constants)
    (names : List (List ℕ)) (bounds : AgreeInBounds p.bounds q.bounds names) (scope other : Scope) (at : EvaluateLikewise h name idle q names scope other) where
  abbrev g : Names
  g = names_in p scope

  abbrev z : Names
  z = names_in q other

  -- a name comes to what it had
  told_match : (x : List ℕ) (v : ℤ) (c : Cell) (s : Store) → IsTold (value z (h (Var x))) v → Matches name idle Same (read_index c v) (value z (h (Var x)))
  told_match x v c s told a e =
      let is : v ≡ a = cc in (
        v,
        is,
        record {
          seen = (value z (h (Var x)) s).seen;
          comes = subst (ComesTo (value z (h (Var x))) (value z (h (Var x)) s).seen) (told.comes s) ((value_told z (h (Var x))).comes s);
          alike = told_alike name idle (index_seen c v ∷ []) (value z (h (Var x)) s).seen tt (told.unseen s);
          apart = of_seen (value z (h (Var x)) s).seen (value_seen (λ d. is_lines d ≡ false) z (no_lines other) (λ y js. refl) (h (Var x)) s);
        },
      )

  scalar_match : (x : List ℕ) (s : Store) → is_among x names ≡ true → value_named q.constants x ≡ None → index_value other x ≡ None → Matches name idle Same (read_cell s (cell_of scope x)) (value z (Var x))
  scalar_match x s among free untold =
      subst (λ (o : Option ℤ). Matches name idle Same (read_cell s (cell_of scope x)) (name_value o z x)) (sym free)
      (subst (λ (o : Option ℤ). Matches name idle Same (read_cell s (cell_of scope x)) (λ u. variable_value o u (cell_of other x))) (sym untold)
      (read_match name idle (cell_of scope x) (cell_of other x) (record { meet = at.cell x among; apart = no_lines other x }) s))

  variable_match : (x : List ℕ) (s : Store) → is_among x names ≡ true → Matches name idle Same (value g (Var x) s) (value z (h (Var x)))
  variable_match x s among = go (value_named p.constants x) refl
    where
      by_place : (o : Option ℤ) → index_value scope x ≡ o → value_named q.constants x ≡ None → Matches name idle Same (variable_value o s (cell_of scope x)) (value z (h (Var x)))
      by_place (Some v) i e = told_match x v (cell_of scope x) s (at.told x v among e i)
      by_place None i e = subst (λ (t : ExprTree). Matches name idle Same (read_cell s (cell_of scope x)) (value z t)) (sym (at.untold x among i).0) (scalar_match x s among e (at.untold x among i).1)

      go : (o : Option ℤ) → value_named p.constants x ≡ o → Matches name idle Same (name_value o g x s) (value z (h (Var x)))
      go (Some n) e =
          let same : value_named q.constants x ≡ Some n = ap (λ (c : List (List ℕ × ℤ)). value_named c x) (sym constants) ∙ e in
          subst (λ (t : ExprTree). Matches name idle Same (given (Ok n)) (value z t)) (sym (at.constant x n same))
          (subst (λ (o : Option ℤ). Matches name idle Same (given (Ok n)) (name_value o z x)) (sym same) (given_match name idle (Ok n)))
      go None e = by_place (index_value scope x) refl (ap (λ (c : List (List ℕ × ℤ)). value_named c x) (sym constants) ∙ e)

  -- the element with these subscripts
  bounded_match : (b : Bool) (x : List ℕ) (js : List ℤ) → Matches name idle (CellsMeet name idle) (given (if b then Ok (cells.Element x js) else Err outside_bounds)) (λ (u : Store). given (if b then Ok (cells.Element x js) else Err outside_bounds))
  bounded_match true x js a e =
      let is : cells.Element x js ≡ a = cc in (
        cells.Element x js,
        record { meet = inl (sym (laws.element x js) ∙ ap name is); apart = refl },
        record { seen = []; comes = λ s k. refl; alike = nothing_alike name idle; apart = tt },
      )
  bounded_match false x js a e = absurd cc

  element_match : (x : List ℕ) (js : List ℤ) → is_among x names ≡ true → Matches name idle (CellsMeet name idle) (given (element_cell g x js)) (λ (u : Store). given (element_cell z x js))
  element_match x js among =
      subst (λ (b : Dimensions). Matches name idle (CellsMeet name idle) (given (element_cell g x js)) (λ (u : Store). given (if is_rank (length js) && is_within b js then Ok (cells.Element x js) else Err outside_bounds)))
      (bounds x among) (bounded_match (is_rank (length js) && is_within (p.bounds x) js) x js)

  -- a sum or a difference, which may be made anew
  remade : (of make : ExprTree → ExprTree → ExprTree) (a b : ExprTree) (e : Evaluated ℤ) → ((u : Store) (w : ℤ) → (value z (of (h a) (h b)) u).result ≡ Ok w → value z (make (h a) (h b)) u ≡ value z (of (h a) (h b)) u)
      → (h (of a b) ≡ of (h a) (h b)) ⊎ (h (of a b) ≡ make (h a) (h b)) → Matches name idle Same e (value z (of (h a) (h b))) → Matches name idle Same e (value z (h (of a b)))
  remade of make a b e makes (inl is) m = subst (λ (t : ExprTree). Matches name idle Same e (value z t)) (sym is) m
  remade of make a b e makes (inr is) m = subst (λ (t : ExprTree). Matches name idle Same e (value z t)) (sym is) anew
    where
      anew : Matches name idle Same e (value z (make (h a) (h b)))
      anew v r =
          let t = m v r in (
            t.0,
            t.1,
            record {
              seen = t.2.seen;
              comes = λ u holds. makes u t.0 (ap (λ (k : Evaluated ℤ). k.result) (t.2.comes u holds)) ∙ t.2.comes u holds;
              alike = t.2.alike;
              apart = t.2.apart;
            },
          )

  pair_match : (op : ℤ → ℤ → Result ℤ Fault) (a b : ExprTree) (s : Store) → Within names (expr_names a ++ expr_names b)
      → (Within names (expr_names a) → Matches name idle Same (value g a s) (value z (h a))) → (Within names (expr_names b) → Matches name idle Same (value g b s) (value z (h b)))
      → Matches name idle Same (binary op (value g a s) (value g b s)) (λ u. binary op (value z (h a) u) (value z (h b) u))
  pair_match op a b s w l r =
      let each = within_parts names (expr_names a) (expr_names b) w in
      two_match name idle (λ u v. by_number (op u v)) (value g a s) (value z (h a)) (value g b s) (value z (h b)) (l each.0) (r each.1)

  -- an expression that goes into another one
  abbrev As : Evaluated ℤ → ExprTree → Type 0
  As e t = Matches name idle Same e (value z t)

  mutual
    pub value_match : (e : ExprTree) (s : Store) → Within names (expr_names e) → Matches name idle Same (value g e s) (value z (h e))
    value_match (Int n) s w = subst (As (given (Ok (pos n)))) (sym (parts.int n)) (given_match name idle (Ok (pos n)))
    value_match (Var x) s w = variable_match x s (within_first names x [] w).0
    value_match (Element x es) s w =
        subst (As (value g (Element x es) s)) (sym (parts.element x es))
        (then_same name idle Same (values g es s) (values z (hs es)) (λ js. given (element_cell g x js) >>> read_cell s) (λ js u. given (element_cell z x js) >>> read_cell u)
        (values_match es s (within_first names x (exprs_names es) w).1)
        (λ js. then_match name idle (CellsMeet name idle) Same (given (element_cell g x js)) (λ u. given (element_cell z x js)) (read_cell s) (λ d u. read_cell u d)
        (element_match x js (within_first names x (exprs_names es) w).0) (λ c d m. read_match name idle c d m s)))
    value_match (Neg a) s w = subst (As (value g (Neg a) s)) (sym (parts.neg a)) (one_match name idle (λ u. by_number (negation_of u)) (value g a s) (value z (h a)) (value_match a s w))
    value_match (Add a b) s w =
        remade Add plus_of a b (value g (Add a b) s) (λ u v k. plus_comes z u (h a) (h b) v k) (parts.add a b) (pair_match sum_of a b s w (λ r. value_match a s r) (λ r. value_match b s r))
    value_match (Sub a b) s w =
        remade Sub minus_of a b (value g (Sub a b) s) (λ u v k. minus_comes z u (h a) (h b) v k) (parts.sub a b) (pair_match difference_of a b s w (λ r. value_match a s r) (λ r. value_match b s r))
    value_match (Mul a b) s w = subst (As (value g (Mul a b) s)) (sym (parts.mul a b)) (pair_match product_of a b s w (λ r. value_match a s r) (λ r. value_match b s r))
    value_match (Div a b) s w = subst (As (value g (Div a b) s)) (sym (parts.div a b)) (pair_match quotient_of a b s w (λ r. value_match a s r) (λ r. value_match b s r))
    value_match (Pow a b) s w = subst (As (value g (Pow a b) s)) (sym (parts.pow a b)) (pair_match power_of a b s w (λ r. value_match a s r) (λ r. value_match b s r))
    value_match (Call k es) s w =
        subst (As (value g (Call k es) s)) (sym (parts.call k es)) (one_match name idle (λ us. of_intrinsic (intrinsic_result k us)) (values g es s) (values z (hs es)) (values_match es s w))

    values_match : (es : ExprTrees) (s : Store) → Within names (exprs_names es) → Matches name idle Same (values g es s) (values z (hs es))
    values_match no_exprs s w = subst (λ (ts : ExprTrees). Matches name idle Same (values g no_exprs s) (values z ts)) (sym parts.none) (given_match name idle (Ok []))
    values_match (more_exprs e rest) s w =
        let each = within_parts names (expr_names e) (exprs_names rest) w in
        subst (λ (ts : ExprTrees). Matches name idle Same (values g (more_exprs e rest) s) (values z ts)) (sym (parts.more e rest))
        (two_match name idle (λ u us. Ok (u ∷ us)) (value g e s) (value z (h e)) (values g rest s) (values z (hs rest)) (value_match e s each.0) (values_match rest s each.1))

  pub truth_match : (c : CondTree) (s : Store) → Within names (cond_names c) → Matches name idle Same (truth g c s) (truth z (condition_rewritten h c))
  truth_match (Rel r a b) s w =
      let each = within_parts names (expr_names a) (expr_names b) w in
      two_match name idle (λ u v. Ok (relation_holds r u v)) (value g a s) (value z (h a)) (value g b s) (value z (h b)) (value_match a s each.0) (value_match b s each.1)
  truth_match (Not a) s w = one_match name idle (λ u. Ok (not u)) (truth g a s) (truth z (condition_rewritten h a)) (truth_match a s w)
  truth_match (And a b) s w =
      let each = within_parts names (cond_names a) (cond_names b) w in
      two_match name idle (λ u v. Ok (u && v)) (truth g a s) (truth z (condition_rewritten h a)) (truth g b s) (truth z (condition_rewritten h b)) (truth_match a s each.0) (truth_match b s each.1)
  truth_match (Or a b) s w =
      let each = within_parts names (cond_names a) (cond_names b) w in
      two_match name idle (λ u v. Ok (u || v)) (truth g a s) (truth z (condition_rewritten h a)) (truth g b s) (truth z (condition_rewritten h b)) (truth_match a s each.0) (truth_match b s each.1)

  -- what is assigned stays
  abbrev pub Kept : List (List ℕ) → Type 0
  Kept xs = (x : List ℕ) → is_among x xs ≡ true → h (Var x) ≡ Var x

  abbrev Into : Evaluated Cell → ExprTree → Type 0
  Into e t = Matches name idle (CellsMeet name idle) e (target z t)

  own_match : (x : List ℕ) (s : Store) → is_among x names ≡ true → Matches name idle (CellsMeet name idle) (given (Ok (cell_of scope x))) (λ (u : Store). given (Ok (cell_of other x)))
  own_match x s among a e =
      let is : cell_of scope x ≡ a = cc in (
        cell_of other x,
        subst (λ (c : Cell). CellsMeet name idle c (cell_of other x)) is (record { meet = at.cell x among; apart = no_lines other x }),
        record { seen = []; comes = λ u k. refl; alike = nothing_alike name idle; apart = tt },
      )

  pub target_match : (e : ExprTree) (s : Store) → Within names (expr_names e) → Kept (assigned_left e) → Matches name idle (CellsMeet name idle) (target g e s) (target z (h e))
  target_match (Var x) s w kept = subst (Into (target g (Var x) s)) (sym (kept x (among_itself x []))) (own_match x s (within_first names x [] w).0)
  target_match (Element x es) s w kept =
      subst (Into (target g (Element x es) s)) (sym (parts.element x es))
      (then_same name idle (CellsMeet name idle) (values g es s) (values z (hs es)) (λ js. given (element_cell g x js)) (λ js u. given (element_cell z x js))
      (values_match es s (within_first names x (exprs_names es) w).1) (λ js. element_match x js (within_first names x (exprs_names es) w).0))
  target_match (Int n) s w kept = λ a e. absurd cc
  target_match (Neg a) s w kept = λ b e. absurd cc
  target_match (Add a b) s w kept = λ c e. absurd cc
  target_match (Sub a b) s w kept = λ c e. absurd cc
  target_match (Mul a b) s w kept = λ c e. absurd cc
  target_match (Div a b) s w kept = λ c e. absurd cc
  target_match (Pow a b) s w kept = λ c e. absurd cc
  target_match (Call k es) s w kept = λ c e. absurd cc

  stored_match : (c d : Cell) → CellsMeet name idle c d → (n : ℤ) → Matches name idle (StoredMeet name idle) (given (Ok (record { cell = c; number = n }))) (λ (u : Store). given (Ok (record { cell = d; number = n })))
  stored_match c d m n a e =
      let is : record { cell = c; number = n } ≡ a = cc in (
        record { cell = d; number = n },
        subst (λ (w : Stored). StoredMeet name idle w (record { cell = d; number = n })) is (record { meet = m.meet; number = refl }),
        record { seen = []; comes = λ u k. refl; alike = nothing_alike name idle; apart = tt },
      )

  pub assigned_match : (left right : ExprTree) (s : Store) → Within names (expr_names left ++ expr_names right) → Kept (assigned_left left) → Matches name idle (StoredMeet name idle) (assigned g left right s) (assigned z (h left) (h right))
  assigned_match left right s w kept =
      let each = within_parts names (expr_names left) (expr_names right) w in
      then_same name idle (StoredMeet name idle) (value g right s) (value z (h right))
      (λ v. target g left s >>> λ c. given (storable v) >>> λ n. given (Ok (record { cell = c; number = n })))
      (λ v u. target z (h left) u >>> λ c. given (storable v) >>> λ n. given (Ok (record { cell = c; number = n })))
      (value_match right s each.1)
      (λ v. then_match name idle (CellsMeet name idle) (StoredMeet name idle) (target g left s) (target z (h left))
      (λ c. given (storable v) >>> λ n. given (Ok (record { cell = c; number = n }))) (λ c u. given (storable v) >>> λ n. given (Ok (record { cell = c; number = n })))
      (target_match left s each.0 kept)
      (λ c d m. then_same name idle (StoredMeet name idle) (given (storable v)) (λ u. given (storable v)) (λ n. given (Ok (record { cell = c; number = n }))) (λ n u. given (Ok (record { cell = d; number = n })))
      (given_match name idle (storable v)) (λ n. stored_match c d m n)))

  text_match : (item : ItemTree) (s : Store) → Within names (item_names item) → Matches name idle Same (item_text g item s) (item_text z (item_rewritten h item))
  text_match (Value e) s w = one_match name idle (λ n. Ok (signed_decimal n)) (value g e s) (value z (h e)) (value_match e s w)
  text_match (Text text) s w = given_match name idle (Ok text)

  texts_match : (items : List ItemTree) (s : Store) → Within names (flat_map item_names items) → Matches name idle Same (item_texts g items s) (item_texts z (map (item_rewritten h) items))
  texts_match [] s w = given_match name idle (Ok [])
  texts_match (item ∷ rest) s w =
      let each = within_parts names (item_names item) (flat_map item_names rest) w in
      two_match name idle (λ text texts. Ok (text ∷ texts)) (item_text g item s) (item_text z (item_rewritten h item)) (item_texts g rest s) (item_texts z (map (item_rewritten h) rest)) (text_match item s each.0) (texts_match rest s each.1)

  pub line_match : (items : List ItemTree) (s : Store) → Within names (flat_map item_names items) → Matches name idle Same (printed_line g items s) (printed_line z (map (item_rewritten h) items))
  line_match items s w = one_match name idle (λ texts. Ok (join_with_byte 32 texts)) (item_texts g items s) (item_texts z (map (item_rewritten h) items)) (texts_match items s w)

  pub limits_match : (d : Head) (s : Store) → Within names (expr_names d.first) → Within names (expr_names d.last) → Matches name idle Same (limits g d s) (limits z (head_rewritten h d))
  limits_match d s v w =
      then_same name idle Same (value g d.first s) (value z (h d.first))
      (λ u. given (in_bounds u) >>> λ m. value g d.last s >>> λ v. given (in_bounds v) >>> λ n. given (Ok (record { first = m; last = n })))
      (λ u t. given (in_bounds u) >>> λ m. value z (h d.last) t >>> λ v. given (in_bounds v) >>> λ n. given (Ok (record { first = m; last = n })))
      (value_match d.first s v)
      (λ u. then_same name idle Same (given (in_bounds u)) (λ t. given (in_bounds u))
      (λ m. value g d.last s >>> λ v. given (in_bounds v) >>> λ n. given (Ok (record { first = m; last = n })))
      (λ m t. value z (h d.last) t >>> λ v. given (in_bounds v) >>> λ n. given (Ok (record { first = m; last = n })))
      (given_match name idle (in_bounds u))
      (λ m. then_same name idle Same (value g d.last s) (value z (h d.last))
      (λ v. given (in_bounds v) >>> λ n. given (Ok (record { first = m; last = n }))) (λ v t. given (in_bounds v) >>> λ n. given (Ok (record { first = m; last = n })))
      (value_match d.last s w)
      (λ v. one_match name idle (λ n. Ok (record { first = m; last = n })) (given (in_bounds v)) (λ t. given (in_bounds v)) (given_match name idle (in_bounds v)))))
