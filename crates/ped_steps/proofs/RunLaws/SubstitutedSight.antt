-- Evaluations with an element in the place of a scalar.
use Rattle.std.proofs.Common.{◌≡◌, ℕ, suc, ℤ, List, [], ◌∷◌, ◌++◌, map, length, Bool, true, false, Option, Some, None, Result, Ok, Err, refl, sym, ap, subst, ◌∙◌, if◌then◌else◌}
use Rattle.std.specs.Prelude.{not, ◌&&◌, ◌||◌}
use Rattle.std.specs.List.{flat_map, join_with_byte}
use Rattle.std.specs.Fmt.{signed_decimal}
use Rattle.std.proofs.lemmas.Bool.{or_parts}
use Rattle.std.proofs.lemmas.List.{map-append}
use Rattle.std.proofs.lemmas.List.Folds.{list_any-append}
use Rattle.ped_base.specs.Lists.{is_same_text, is_among}
use Rattle.ped_base.specs.declared.arithmetic.faults.Fault.{Fault}
use Rattle.ped_base.specs.Arithmetic.Arithmetic.{sum_of, difference_of, negation_of, product_of, quotient_of, power_of}
use Rattle.ped_tree.specs.Constants.NamedConstants.{value_named}
use Rattle.ped_tree.specs.Constants.ConstantExpressions.{intrinsic_result}
use Rattle.ped_base.proofs.NameEquality.{same_is}
use Rattle.ped_tree.specs.Tree.{ExprTree, ExprTrees, Int, Var, Element, Neg, Add, Sub, Mul, Div, Pow, Call, no_exprs, more_exprs, CondTree, Rel, Not, And, Or, ItemTree, Value, Text, Head}
use Rattle.ped_weaves.specs.ped_graph.specs.ped_symbols.specs.declared.uses.Use.{Use}
use Rattle.ped_weaves.specs.ped_graph.specs.ped_symbols.specs.Uses.{expr_uses, exprs_uses, cond_uses, target_uses, item_uses}
use Rattle.ped_symbolic.specs.Arithmetic.{plus_of, minus_of}
use Rattle.ped_symbolic.specs.Substitution.{has_scalar, is_scalar, substituted, all_substituted, condition_substituted, item_substituted, head_substituted}
use Rattle.ped_weaves.specs.ped_store.specs.Cells as cells
use Rattle.ped_weaves.specs.ped_store.specs.Cells.{Cell, Private, In, Out, Iteration}
use Rattle.ped_weaves.specs.ped_store.specs.Storage.{is_within}
use Rattle.ped_weaves.specs.ped_store.specs.Stores.{Number, Store, number_read, storable, outside_bounds}
use Rattle.ped_weaves.specs.ped_store.specs.Acts.{reads, is_told, Touch}
use Rattle.ped_weaves.specs.ped_laws.specs.Acts.Fitting.{of_cells}
use Rattle.ped_weaves.specs.ped_laws.specs.Acts.Renaming.{AreRenamed}
use Rattle.ped_weaves.specs.ped_laws.proofs.ActLaws.OfCells.{cells_append}
use Rattle.ped_weaves.specs.ped_eval.specs.Scopes.{Setting, Scope, cell_of, index_value, Names, names_in}
use Rattle.ped_weaves.specs.ped_eval.specs.Evaluation.{Seen, cell_seen, index_seen, Evaluated, having_seen, onward, ◌>>>◌, given, by_number, read_cell, numbered, number_behind}
use Rattle.ped_weaves.specs.ped_eval.specs.Values.{of_intrinsic, variable_value, name_value, is_rank, element_cell, binary, value, values, relation_holds, truth, target}
use Rattle.ped_weaves.specs.ped_eval.specs.Statements.{Stored, assigned, item_text, item_texts, printed_line}
use Rattle.ped_weaves.specs.ped_eval.specs.Loops.{in_bounds, limits}
use Rattle.ped_steps.specs.Runs.Exchanging.{exchanged_store}
use Rattle.ped_steps.specs.Runs.Substituting.{element_at}
use Rattle.ped_steps.proofs.RunLaws.ExchangedSight.{itself}
use Rattle.ped_steps.proofs.RunLaws.SubstitutedSums.{evaluated, plus_comes, minus_comes}
use Rattle.ped_steps.proofs.RunLaws.SubstitutedShapes.{stays}

-- an exchange of a scalar's cell and an element of a new array: what it leaves
pub record IsSwap (name : Cell → Cell) (x array : List ℕ) : Type 0 where
  pub twice : (c : Cell) → name (name c) ≡ c
  pub input : name In ≡ In
  pub output : name Out ≡ Out
  pub element : (y : List ℕ) (js : List ℤ) → is_same_text array y ≡ false → name (cells.Element y js) ≡ cells.Element y js
  pub copy : (y : List ℕ) (path : List Iteration) → is_same_text x y ≡ false → name (Private y path) ≡ Private y path

-- the scalar and the variable of the array's subscript are no constants, and the subscript lies within the bounds
pub record IsFit (p : Setting) (x array v : List ℕ) (k : ℤ) : Type 0 where
  pub variable : value_named p.constants x ≡ None
  pub subscript : value_named p.constants v ≡ None
  pub within : is_within (p.bounds array) (k ∷ []) ≡ true

-- a place where the element stands for the scalar
pub record StandsAt (name : Cell → Cell) (x array v : List ℕ) (k : ℤ) (T : Scope) : Type 0 where
  pub own : name (cell_of T x) ≡ cells.Element array (k ∷ [])
  pub kept : (y : List ℕ) → is_same_text x y ≡ false → name (cell_of T y) ≡ cell_of T y
  pub unbound : index_value T x ≡ None
  pub told : index_value T v ≡ Some k

-- uses of other names than this one
abbrev pub Lack : List ℕ → List Use → Type 0
Lack array us = is_among array (map (λ u. u.name) us) ≡ false

pub lack_parts : (array : List ℕ) (us ws : List Use) → Lack array (us ++ ws) → Lack array us × Lack array ws
lack_parts array us ws h =
    or_parts (is_among array (map (λ u. u.name) us)) (is_among array (map (λ u. u.name) ws))
    (sym (list_any-append (is_same_text array) (map (λ u. u.name) us) (map (λ u. u.name) ws)) ∙ ap (is_among array) (sym (map-append (λ u. u.name) us ws)) ∙ h)

pub lack_first : (array y : List ℕ) (us : List Use) → is_among array (y ∷ map (λ u. u.name) us) ≡ false → (is_same_text array y ≡ false) × Lack array us
lack_first array y us h = or_parts (is_same_text array y) (is_among array (map (λ u. u.name) us)) h

numbered_append : (n : ℕ) (xs ys : List Seen) → numbered n (xs ++ ys) ≡ numbered n xs ++ numbered (number_behind n xs) ys
numbered_append n [] ys = refl
numbered_append n (cell_seen c content ∷ xs) ys = ap (λ (ts : List Touch). record { cell = c; manner = reads; content = content; reference = n } ∷ ts) (numbered_append (suc n) xs ys)
numbered_append n (index_seen c v ∷ xs) ys = ap (λ (ts : List Touch). record { cell = c; manner = is_told; content = Number v; reference = 0 } ∷ ts) (numbered_append n xs ys)

are_append : (g : Cell → Cell) (xs ys us vs : List Touch) → AreRenamed g xs ys → AreRenamed g us vs → AreRenamed g (xs ++ us) (ys ++ vs)
are_append g [] [] us vs h k = k
are_append g [] (y ∷ ys) us vs h k = absurd h
are_append g (x ∷ xs) [] us vs h k = absurd h
are_append g (x ∷ xs) (y ∷ ys) us vs h k = (h.0, h.1, h.2, are_append g xs ys us vs h.3 k)

module _ (name : Cell → Cell) where
  -- the same reads and writes on renamed cells
  abbrev pub Alike : List Touch → List Touch → Type 0
  Alike ts us = AreRenamed name (of_cells ts) (of_cells us)

  pub alike_append : (ts us ts' us' : List Touch) → Alike ts us → Alike ts' us' → Alike (ts ++ ts') (us ++ us')
  alike_append ts us ts' us' h k =
      subst (λ (z : List Touch). AreRenamed name z (of_cells (us ++ us'))) (sym (cells_append ts ts'))
      (subst (λ (z : List Touch). AreRenamed name (of_cells ts ++ of_cells ts') z) (sym (cells_append us us')) (are_append name (of_cells ts) (of_cells us) (of_cells ts') (of_cells us') h k))

  -- the same cells are seen, renamed
  abbrev pub SeeAlike : List Seen → List Seen → Type 0
  SeeAlike xs ys = (n m : ℕ) → Alike (numbered n xs) (numbered m ys)

  see_append : (xs ys xs' ys' : List Seen) → SeeAlike xs ys → SeeAlike xs' ys' → SeeAlike (xs ++ xs') (ys ++ ys')
  see_append xs ys xs' ys' h k n m =
      subst (λ (z : List Touch). Alike z (numbered m (ys ++ ys'))) (sym (numbered_append n xs xs'))
      (subst (λ (z : List Touch). Alike (numbered n xs ++ numbered (number_behind n xs) xs') z) (sym (numbered_append m ys ys'))
      (alike_append (numbered n xs) (numbered m ys) (numbered (number_behind n xs) xs') (numbered (number_behind m ys) ys') (h n m) (k (number_behind n xs) (number_behind m ys))))

  -- where the first evaluation has a value, the second has it, too, and has seen the same
  abbrev pub Matches : {A X : Type 0} → (A → X) → Evaluated A → Evaluated X → Type 0
  Matches f e z = (a : _) → e.result ≡ Ok a → (z.result ≡ Ok (f a)) × SeeAlike e.seen z.seen

  given_match : {A : Type 0} (r : Result A ℕ) → Matches itself (given r) (given r)
  given_match r a e = (e, λ n m. tt)

  onward_match : {A B X Y : Type 0} (f : A → X) (h : B → Y) (xs ys : List Seen) (r : Result A ℕ) (q : Result X ℕ) (next : A → Evaluated B) (others : X → Evaluated Y)
      → ((a : A) → r ≡ Ok a → (q ≡ Ok (f a)) × SeeAlike xs ys) → ((a : A) → Matches h (next a) (others (f a))) → Matches h (onward xs r next) (onward ys q others)
  onward_match {A} {B} {X} {Y} f h xs ys (Ok a) q next others m more =
      let t = m a refl in
      subst (λ (z : Result X ℕ). Matches h (having_seen xs (next a)) (onward ys z others)) (sym t.0)
      (λ b e. ((more a b e).0, see_append xs ys (next a).seen (others (f a)).seen t.1 (more a b e).1))
  onward_match f h xs ys (Err n) q next others m more = λ b e. absurd cc

  pub then_match : {A B X Y : Type 0} (f : A → X) (h : B → Y) (e : Evaluated A) (z : Evaluated X) (next : A → Evaluated B) (others : X → Evaluated Y)
      → Matches f e z → ((a : A) → Matches h (next a) (others (f a))) → Matches h (e >>> next) (z >>> others)
  then_match f h e z next others m more = onward_match f h e.seen z.seen e.result z.result next others m more

  one_match : {A B : Type 0} (f : A → Result B ℕ) (a b : Evaluated A) → Matches itself a b → Matches itself (a >>> λ u. given (f u)) (b >>> λ u. given (f u))
  one_match f a b h = then_match itself itself a b (λ u. given (f u)) (λ u. given (f u)) h (λ u. given_match (f u))

  two_match : {A B C : Type 0} (f : A → B → Result C ℕ) (a a' : Evaluated A) (b b' : Evaluated B) → Matches itself a a' → Matches itself b b' → Matches itself (a >>> λ u. b >>> λ v. given (f u v)) (a' >>> λ u. b' >>> λ v. given (f u v))
  two_match f a a' b b' h k = then_match itself itself a a' (λ u. b >>> λ v. given (f u v)) (λ u. b' >>> λ v. given (f u v)) h (λ u. one_match (f u) b b' k)

  -- what is stored, in the renamed cell
  abbrev pub stored_as : Stored → Stored
  stored_as w = record { cell = name w.cell; number = w.number }

  module _ (p : Setting) (x array v : List ℕ) (k : ℤ) (laws : IsSwap name x array) (fit : IsFit p x array v k) (T : Scope) (at : StandsAt name x array v k T) where
    abbrev by : ExprTree
    by = element_at array v

    abbrev g : Names
    g = names_in p T

    abbrev put_in : ExprTree → ExprTree
    put_in e = substituted x by e

    read_match : (c : Cell) (s : Store) → Matches itself (read_cell s c) (read_cell (exchanged_store name s) (name c))
    read_match c s a e = (ap (λ (d : Cell). number_read (s d)) (laws.twice c) ∙ e, λ n m. (refl, ap s (sym (laws.twice c)), refl, tt))

    -- the element is read at the subscript that the place tells
    element_read : (s : Store) → value g by s ≡ evaluated (index_seen (cell_of T v) k ∷ cell_seen (cells.Element array (k ∷ [])) (s (cells.Element array (k ∷ []))) ∷ []) (number_read (s (cells.Element array (k ∷ []))))
    element_read s =
        (λ i. (name_value (fit.subscript i) g v s >>> λ u. given (Ok []) >>> λ us. given (Ok (u ∷ us))) >>> λ js. given (element_cell g array js) >>> read_cell s)
        ∙ (λ i. (variable_value (at.told i) s (cell_of T v) >>> λ u. given (Ok []) >>> λ us. given (Ok (u ∷ us))) >>> λ js. given (element_cell g array js) >>> read_cell s)
        ∙ (λ i. having_seen (index_seen (cell_of T v) k ∷ []) (given (if fit.within i then Ok (cells.Element array (k ∷ [])) else Err outside_bounds) >>> read_cell s))

    scalar_read : (s : Store) → value g (Var x) s ≡ read_cell s (cell_of T x)
    scalar_read s = (λ i. name_value (fit.variable i) g x s) ∙ (λ i. variable_value (at.unbound i) s (cell_of T x))

    scalar_match : (s : Store) → Matches itself (value g (Var x) s) (value g by (exchanged_store name s))
    scalar_match s =
        subst (λ (z : Evaluated ℤ). Matches itself z (value g by (exchanged_store name s))) (sym (scalar_read s))
        (subst (λ (z : Evaluated ℤ). Matches itself (read_cell s (cell_of T x)) z) (sym (element_read (exchanged_store name s)))
        (λ a e. ((read a e).0, λ n m. (read a e).1 n m)))
      where
        read : Matches itself (read_cell s (cell_of T x)) (read_cell (exchanged_store name s) (cells.Element array (k ∷ [])))
        read = subst (λ (c : Cell). Matches itself (read_cell s (cell_of T x)) (read_cell (exchanged_store name s) c)) at.own (read_match (cell_of T x) s)

    name_match : (o : Option ℤ) (y : List ℕ) (s : Store) → is_same_text x y ≡ false → Matches itself (name_value o g y s) (name_value o g y (exchanged_store name s))
    name_match (Some n) y s h = given_match (Ok n)
    name_match None y s h = go (index_value T y)
      where
        go : (o : Option ℤ) → Matches itself (variable_value o s (cell_of T y)) (variable_value o (exchanged_store name s) (cell_of T y))
        go (Some n) = λ a e. (e, λ n m. tt)
        go None = subst (λ (c : Cell). Matches itself (read_cell s (cell_of T y)) (read_cell (exchanged_store name s) c)) (at.kept y h) (read_match (cell_of T y) s)

    variable_match : (y : List ℕ) (s : Store) → Matches itself (value g (Var y) s) (value g (put_in (Var y)) (exchanged_store name s))
    variable_match y s = go (is_same_text x y) refl
      where
        go : (b : Bool) → is_same_text x y ≡ b → Matches itself (value g (Var y) s) (value g (if b then by else Var y) (exchanged_store name s))
        go true h = subst (λ (z : List ℕ). Matches itself (value g (Var z) s) (value g by (exchanged_store name s))) (same_is x y h) (scalar_match s)
        go false h = name_match (value_named p.constants y) y s h

    bounded_match : (b : Bool) (c : Cell) → name c ≡ c → Matches name (given (if b then Ok c else Err outside_bounds)) (given (if b then Ok c else Err outside_bounds))
    bounded_match true c same a e = let is : c ≡ a = cc in (ap Ok (sym same ∙ ap name is), λ n m. tt)
    bounded_match false c same a e = absurd cc

    element_match : (y : List ℕ) (js : List ℤ) → is_same_text array y ≡ false → Matches name (given (element_cell g y js)) (given (element_cell g y js))
    element_match y js h = bounded_match (is_rank (length js) && is_within (p.bounds y) js) (cells.Element y js) (laws.element y js h)

    -- a sum or a difference that is made anew
    remade : (f : ℤ → ℤ → Result ℤ Fault) (make of : ExprTree → ExprTree → ExprTree) (a b : ExprTree) (s : Store)
        → ((w : ℤ) → (binary f (value g (put_in a) (exchanged_store name s)) (value g (put_in b) (exchanged_store name s))).result ≡ Ok w
        → value g (make (put_in a) (put_in b)) (exchanged_store name s) ≡ binary f (value g (put_in a) (exchanged_store name s)) (value g (put_in b) (exchanged_store name s)))
        → value g (of a b) (exchanged_store name s) ≡ binary f (value g a (exchanged_store name s)) (value g b (exchanged_store name s))
        → Matches itself (binary f (value g a s) (value g b s)) (binary f (value g (put_in a) (exchanged_store name s)) (value g (put_in b) (exchanged_store name s)))
        → Matches itself (binary f (value g a s) (value g b s)) (value g (if (has_scalar x a || has_scalar x b) && not (is_scalar x by) then make (put_in a) (put_in b) else of a b) (exchanged_store name s))
    remade f make of a b s makes is two = go (has_scalar x a || has_scalar x b) refl
      where
        go : (c : Bool) → has_scalar x a || has_scalar x b ≡ c
            → Matches itself (binary f (value g a s) (value g b s)) (value g (if c && not (is_scalar x by) then make (put_in a) (put_in b) else of a b) (exchanged_store name s))
        go true h = λ w e. subst (λ (z : Evaluated ℤ). (z.result ≡ Ok w) × SeeAlike (binary f (value g a s) (value g b s)).seen z.seen) (sym (makes w (two w e).0)) (two w e)
        go false h =
            subst (λ (z : Evaluated ℤ). Matches itself (binary f (value g a s) (value g b s)) z)
            ((λ i. binary f (value g (stays x by a (or_parts (has_scalar x a) (has_scalar x b) h).0 i) (exchanged_store name s)) (value g (stays x by b (or_parts (has_scalar x a) (has_scalar x b) h).1 i) (exchanged_store name s))) ∙ sym is)
            two

    pair_match : (f : ℤ → ℤ → Result ℤ Fault) (a b : ExprTree) (s : Store) → Lack array (expr_uses a ++ expr_uses b)
        → (Lack array (expr_uses a) → Matches itself (value g a s) (value g (put_in a) (exchanged_store name s))) → (Lack array (expr_uses b) → Matches itself (value g b s) (value g (put_in b) (exchanged_store name s)))
        → Matches itself (binary f (value g a s) (value g b s)) (binary f (value g (put_in a) (exchanged_store name s)) (value g (put_in b) (exchanged_store name s)))
    pair_match f a b s h l r =
        let parts = lack_parts array (expr_uses a) (expr_uses b) h in
        two_match (λ u v. by_number (f u v)) (value g a s) (value g (put_in a) (exchanged_store name s)) (value g b s) (value g (put_in b) (exchanged_store name s)) (l parts.0) (r parts.1)

    mutual
      pub value_match : (e : ExprTree) (s : Store) → Lack array (expr_uses e) → Matches itself (value g e s) (value g (put_in e) (exchanged_store name s))
      value_match (Int n) s h = given_match (Ok _)
      value_match (Var y) s h = variable_match y s
      value_match (Element y es) s h =
          then_match itself itself (values g es s) (values g (all_substituted x by es) (exchanged_store name s))
          (λ js. given (element_cell g y js) >>> read_cell s) (λ js. given (element_cell g y js) >>> read_cell (exchanged_store name s))
          (values_match es s (lack_first array y (exprs_uses es) h).1)
          (λ js. then_match name itself (given (element_cell g y js)) (given (element_cell g y js)) (read_cell s) (read_cell (exchanged_store name s)) (element_match y js (lack_first array y (exprs_uses es) h).0) (λ c. read_match c s))
      value_match (Neg a) s h = one_match (λ u. by_number (negation_of u)) (value g a s) (value g (put_in a) (exchanged_store name s)) (value_match a s h)
      value_match (Add a b) s h =
          remade sum_of plus_of Add a b s (λ w e. plus_comes g (exchanged_store name s) (put_in a) (put_in b) w e) refl (pair_match sum_of a b s h (λ q. value_match a s q) (λ q. value_match b s q))
      value_match (Sub a b) s h =
          remade difference_of minus_of Sub a b s (λ w e. minus_comes g (exchanged_store name s) (put_in a) (put_in b) w e) refl (pair_match difference_of a b s h (λ q. value_match a s q) (λ q. value_match b s q))
      value_match (Mul a b) s h = pair_match product_of a b s h (λ q. value_match a s q) (λ q. value_match b s q)
      value_match (Div a b) s h = pair_match quotient_of a b s h (λ q. value_match a s q) (λ q. value_match b s q)
      value_match (Pow a b) s h = pair_match power_of a b s h (λ q. value_match a s q) (λ q. value_match b s q)
      value_match (Call f es) s h = one_match (λ us. of_intrinsic (intrinsic_result f us)) (values g es s) (values g (all_substituted x by es) (exchanged_store name s)) (values_match es s h)

      values_match : (es : ExprTrees) (s : Store) → Lack array (exprs_uses es) → Matches itself (values g es s) (values g (all_substituted x by es) (exchanged_store name s))
      values_match no_exprs s h = given_match (Ok [])
      values_match (more_exprs e rest) s h =
          let parts = lack_parts array (expr_uses e) (exprs_uses rest) h in
          two_match (λ u us. Ok (u ∷ us)) (value g e s) (value g (put_in e) (exchanged_store name s)) (values g rest s) (values g (all_substituted x by rest) (exchanged_store name s)) (value_match e s parts.0) (values_match rest s parts.1)

    pub truth_match : (c : CondTree) (s : Store) → Lack array (cond_uses c) → Matches itself (truth g c s) (truth g (condition_substituted x by c) (exchanged_store name s))
    truth_match (Rel r a b) s h =
        let parts = lack_parts array (expr_uses a) (expr_uses b) h in
        two_match (λ u v. Ok (relation_holds r u v)) (value g a s) (value g (put_in a) (exchanged_store name s)) (value g b s) (value g (put_in b) (exchanged_store name s)) (value_match a s parts.0) (value_match b s parts.1)
    truth_match (Not a) s h = one_match (λ u. Ok (not u)) (truth g a s) (truth g (condition_substituted x by a) (exchanged_store name s)) (truth_match a s h)
    truth_match (And a b) s h =
        let parts = lack_parts array (cond_uses a) (cond_uses b) h in
        two_match (λ u v. Ok (u && v)) (truth g a s) (truth g (condition_substituted x by a) (exchanged_store name s)) (truth g b s) (truth g (condition_substituted x by b) (exchanged_store name s)) (truth_match a s parts.0) (truth_match b s parts.1)
    truth_match (Or a b) s h =
        let parts = lack_parts array (cond_uses a) (cond_uses b) h in
        two_match (λ u v. Ok (u || v)) (truth g a s) (truth g (condition_substituted x by a) (exchanged_store name s)) (truth g b s) (truth g (condition_substituted x by b) (exchanged_store name s)) (truth_match a s parts.0) (truth_match b s parts.1)

    -- the target is the element in the scalar's place
    element_target : (s : Store) → target g by s ≡ evaluated (index_seen (cell_of T v) k ∷ []) (Ok (cells.Element array (k ∷ [])))
    element_target s =
        (λ i. (name_value (fit.subscript i) g v s >>> λ u. given (Ok []) >>> λ us. given (Ok (u ∷ us))) >>> λ js. given (element_cell g array js))
        ∙ (λ i. (variable_value (at.told i) s (cell_of T v) >>> λ u. given (Ok []) >>> λ us. given (Ok (u ∷ us))) >>> λ js. given (element_cell g array js))
        ∙ (λ i. having_seen (index_seen (cell_of T v) k ∷ []) (given (if fit.within i then Ok (cells.Element array (k ∷ [])) else Err outside_bounds)))

    pub target_match : (e : ExprTree) (s : Store) → Lack array (target_uses e) → Matches name (target g e s) (target g (put_in e) (exchanged_store name s))
    target_match (Var y) s h = go (is_same_text x y) refl
      where
        go : (b : Bool) → is_same_text x y ≡ b → Matches name (given (Ok (cell_of T y))) (target g (if b then by else Var y) (exchanged_store name s))
        go true q =
            subst (λ (z : Evaluated Cell). Matches name (given (Ok (cell_of T y))) z) (sym (element_target (exchanged_store name s)))
            (λ a e. let is : cell_of T y ≡ a = cc in (ap Ok (sym at.own ∙ ap name (ap (cell_of T) (same_is x y q) ∙ is)), λ n m. tt))
        go false q = λ a e. let is : cell_of T y ≡ a = cc in (ap Ok (sym (at.kept y q) ∙ ap name is), λ n m. tt)
    target_match (Element y es) s h =
        then_match itself name (values g es s) (values g (all_substituted x by es) (exchanged_store name s)) (λ js. given (element_cell g y js)) (λ js. given (element_cell g y js))
        (values_match es s (lack_first array y (exprs_uses es) h).1) (λ js. element_match y js (lack_first array y (exprs_uses es) h).0)
    target_match (Int n) s h = λ a e. absurd cc
    target_match (Neg a) s h = λ b e. absurd cc
    target_match (Add a b) s h = λ c e. absurd cc
    target_match (Sub a b) s h = λ c e. absurd cc
    target_match (Mul a b) s h = λ c e. absurd cc
    target_match (Div a b) s h = λ c e. absurd cc
    target_match (Pow a b) s h = λ c e. absurd cc
    target_match (Call f es) s h = λ c e. absurd cc

    pub assigned_match : (left right : ExprTree) (s : Store) → Lack array (target_uses left ++ expr_uses right) → Matches stored_as (assigned g left right s) (assigned g (put_in left) (put_in right) (exchanged_store name s))
    assigned_match left right s h =
        let parts = lack_parts array (target_uses left) (expr_uses right) h in
        then_match itself stored_as (value g right s) (value g (put_in right) (exchanged_store name s))
        (λ v. target g left s >>> λ c. given (storable v) >>> λ n. given (Ok (record { cell = c; number = n })))
        (λ v. target g (put_in left) (exchanged_store name s) >>> λ c. given (storable v) >>> λ n. given (Ok (record { cell = c; number = n })))
        (value_match right s parts.1)
        (λ v. then_match name stored_as (target g left s) (target g (put_in left) (exchanged_store name s))
        (λ c. given (storable v) >>> λ n. given (Ok (record { cell = c; number = n }))) (λ c. given (storable v) >>> λ n. given (Ok (record { cell = c; number = n })))
        (target_match left s parts.0)
        (λ c. then_match itself stored_as (given (storable v)) (given (storable v)) (λ n. given (Ok (record { cell = c; number = n }))) (λ n. given (Ok (record { cell = name c; number = n }))) (given_match (storable v))
        (λ n w e. let is : record { cell = c; number = n } ≡ w = cc in (ap (λ (z : Stored). Ok (stored_as z)) is, λ n m. tt))))

    text_match : (item : ItemTree) (s : Store) → Lack array (item_uses item) → Matches itself (item_text g item s) (item_text g (item_substituted x by item) (exchanged_store name s))
    text_match (Value e) s h = one_match (λ n. Ok (signed_decimal n)) (value g e s) (value g (put_in e) (exchanged_store name s)) (value_match e s h)
    text_match (Text text) s h = given_match (Ok text)

    texts_match : (items : List ItemTree) (s : Store) → Lack array (flat_map item_uses items) → Matches itself (item_texts g items s) (item_texts g (map (item_substituted x by) items) (exchanged_store name s))
    texts_match [] s h = given_match (Ok [])
    texts_match (item ∷ rest) s h =
        let parts = lack_parts array (item_uses item) (flat_map item_uses rest) h in
        two_match (λ text texts. Ok (text ∷ texts)) (item_text g item s) (item_text g (item_substituted x by item) (exchanged_store name s)) (item_texts g rest s) (item_texts g (map (item_substituted x by) rest) (exchanged_store name s))
        (text_match item s parts.0) (texts_match rest s parts.1)

    pub line_match : (items : List ItemTree) (s : Store) → Lack array (flat_map item_uses items) → Matches itself (printed_line g items s) (printed_line g (map (item_substituted x by) items) (exchanged_store name s))
    line_match items s h = one_match (λ texts. Ok (join_with_byte 32 texts)) (item_texts g items s) (item_texts g (map (item_substituted x by) items) (exchanged_store name s)) (texts_match items s h)

    pub limits_match : (d : Head) (s : Store) → Lack array (expr_uses d.first) → Lack array (expr_uses d.last) → Matches itself (limits g d s) (limits g (head_substituted x by d) (exchanged_store name s))
    limits_match d s h q =
        then_match itself itself (value g d.first s) (value g (put_in d.first) (exchanged_store name s))
        (λ u. given (in_bounds u) >>> λ m. value g d.last s >>> λ v. given (in_bounds v) >>> λ n. given (Ok (record { first = m; last = n })))
        (λ u. given (in_bounds u) >>> λ m. value g (put_in d.last) (exchanged_store name s) >>> λ v. given (in_bounds v) >>> λ n. given (Ok (record { first = m; last = n })))
        (value_match d.first s h)
        (λ u. then_match itself itself (given (in_bounds u)) (given (in_bounds u))
        (λ m. value g d.last s >>> λ v. given (in_bounds v) >>> λ n. given (Ok (record { first = m; last = n })))
        (λ m. value g (put_in d.last) (exchanged_store name s) >>> λ v. given (in_bounds v) >>> λ n. given (Ok (record { first = m; last = n })))
        (given_match (in_bounds u))
        (λ m. then_match itself itself (value g d.last s) (value g (put_in d.last) (exchanged_store name s))
        (λ v. given (in_bounds v) >>> λ n. given (Ok (record { first = m; last = n }))) (λ v. given (in_bounds v) >>> λ n. given (Ok (record { first = m; last = n })))
        (value_match d.last s q)
        (λ v. one_match (λ n. Ok (record { first = m; last = n })) (given (in_bounds v)) (given (in_bounds v)) (given_match (in_bounds v)))))
