-- What an evaluation sees in cells are the reads of its expression, in order.
use Rattle.std.proofs.Common.{◌≡◌, ℕ, ℤ, pos, List, [], ◌∷◌, ◌++◌, length, Bool, true, false, not, ◌&&◌, ◌||◌, Option, Some, None, Result, Ok, Err, refl, sym, ap, subst, ◌∙◌, append_assoc, if◌then◌else◌}
use Rattle.std.specs.Prelude.{codes}
use Rattle.std.specs.List.{list_all, flat_map, join_with_byte}
use Rattle.std.specs.Fmt.{signed_decimal}
use Rattle.std.proofs.lemmas.Bool.{and_parts, or_left}
use Rattle.ped_flow.specs.ped_base.specs.Lists.{is_same_text, is_among}
use Rattle.ped_flow.specs.ped_base.specs.Arithmetic.Arithmetic.{sum_of, difference_of, negation_of, product_of, quotient_of, power_of}
use Rattle.ped_flow.specs.ped_base.proofs.NameEquality.{same_is, same_itself}
use Rattle.ped_flow.specs.ped_tree.specs.Constants.NamedConstants.{value_named}
use Rattle.ped_flow.specs.ped_tree.specs.Constants.ConstantExpressions.{intrinsic_result}
use Rattle.ped_flow.specs.ped_tree.specs.Tree.{ExprTree, ExprTrees, Int, Var, Element, Neg, Add, Sub, Mul, Div, Pow, Call, no_exprs, more_exprs, CondTree, Rel, Not, And, Or, ItemTree, Value, Text, Head, ProgramTree}
use Rattle.ped_flow.specs.ped_tree.specs.Accesses.{Access, listed, read_of, write_of, unless_constant, expr_reads, exprs_reads, cond_reads, left_accesses, item_reads, constant_names}
use Rattle.ped_flow.specs.ped_tree.specs.Grammar.Words.{is_name}
use Rattle.ped_flow.specs.ped_tree.specs.Grammar.Fits.{takes_arguments, expr_fits, exprs_fit, target_fits, cond_fits, item_fits}
use Rattle.ped_graph.specs.ped_symbols.specs.declared.symbols.Kind.{Kind}
use Rattle.ped_graph.specs.ped_symbols.specs.declared.symbols.Kind.TheVariants.{Scalar, Array, Constant}
use Rattle.ped_graph.specs.ped_symbols.specs.Kinds.{kind_by, kind_in, at_last, names_of}
use Rattle.ped_graph.specs.ped_symbols.specs.Entries.{entry_of}
use Rattle.ped_graph.specs.ped_symbols.specs.NameRefusals.{IsValid}
use Rattle.ped_graph.specs.ped_symbols.specs.Uses.{expr_count}
use Rattle.ped_graph.specs.ped_symbols.specs.RightUses.RightUses.{is_scalar_kind, is_array_kind, is_scalar, has_rank, expr_is_right, exprs_are_right, target_is_right, cond_is_right, item_is_right}
use Rattle.ped_eval.specs.ped_store.specs.Cells as cells
use Rattle.ped_eval.specs.ped_store.specs.Cells.{Cell, In, Out, same_cell}
use Rattle.ped_eval.specs.ped_store.specs.Stores.{Store, number_read, storable, is_storable, out_of_range, outside_bounds}
use Rattle.ped_eval.specs.ped_store.specs.Storage.{is_within}
use Rattle.ped_flow.specs.ped_affine.specs.Assigned.{assigned_left}
use Rattle.ped_eval.specs.Scopes.{Scope, Names, names_in}
use Rattle.ped_eval.specs.Evaluation.{Seen, cell_seen, index_seen, Evaluated, onward, ◌>>>◌, given, by_number, read_cell}
use Rattle.ped_eval.specs.Values.{of_intrinsic, variable_value, name_value, is_rank, element_cell, value, values, truth, relation_holds, target}
use Rattle.ped_eval.specs.Statements.{Stored, assigned, item_text, item_texts, printed_line}
use Rattle.ped_eval.specs.Loops.{in_bounds, limits}
use Rattle.ped_eval.specs.Outcomes.{setting_of}
use Rattle.ped_laws.specs.Conflicts.Making.{ComeTo, cell_named, StandsFor}
use Rattle.ped_laws.proofs.ConflictLaws.Scoping.{variables_of, index_untold, index_told, scalar_named}
use Rattle.ped_laws.proofs.ConflictLaws.MakingConstants.{unvalued, valued}

abbrev good : {A : Type 0} → A → Result A ℕ
good x = Ok x

pub ok_one : {A : Type 0} (x y : A) → good x ≡ good y → x ≡ y
ok_one x y h = cc

-- a value came of a first one
pub came : {A B : Type 0} (seen : List Seen) (a : Result A ℕ) (next : A → Evaluated B) (y : B) → (onward seen a next).result ≡ Ok y → (x : A) × (a ≡ Ok x) × ((next x).result ≡ Ok y)
came seen (Ok x) next y h = (x, refl, h)
came seen (Err fault) next y h = absurd cc

-- a name is neither that of the data nor that of the output
not_other : (x : List ℕ) → is_name x ≡ true → (y : List ℕ) → is_name y ≡ false → is_same_text x y ≡ false
not_other x name y other = go (is_same_text x y) refl
  where
    go : (b : Bool) → is_same_text x y ≡ b → is_same_text x y ≡ false
    go true e = let z : true ≡ false = sym name ∙ ap is_name (same_is x y e) ∙ other in absurd cc
    go false e = e

pub named_cell : (g : Names) (x : List ℕ) → is_name x ≡ true → cell_named g x ≡ g.cell x
named_cell g x name =
    ap (λ (b : Bool). if b then In else (if is_same_text x (codes "(OUT)") then Out else g.cell x)) (not_other x name (codes "(IN)") refl)
    ∙ ap (λ (b : Bool). if b then Out else g.cell x) (not_other x name (codes "(OUT)") refl)

-- the kinds of variables are those of names without a value
module _ (t : ProgramTree) where
  kind_unvalued : (test : Option Kind → Bool) → ((n : ℤ) → test (Some (Constant n)) ≡ false) → (x : List ℕ) → test None ≡ false → test (kind_in t x) ≡ true → value_named (at_last t).values x ≡ None
  kind_unvalued test constant x none h = go (is_among x (names_of t)) (value_named (at_last t).values x) h
    where
      go : (b : Bool) (o : Option ℤ) → test (if b then Some (kind_by o (entry_of (at_last t).arrays x)) else None) ≡ true → o ≡ None
      go true None k = refl
      go true (Some n) k = let z : false ≡ true = sym (constant n) ∙ k in absurd cc
      go false o k = let z : false ≡ true = sym none ∙ k in absurd cc

  pub scalar_unvalued : (x : List ℕ) → is_scalar (kind_in t) x ≡ true → value_named (at_last t).values x ≡ None
  scalar_unvalued x h = kind_unvalued is_scalar_kind (λ n. refl) x refl h

  array_unvalued : (rank : ℕ) (x : List ℕ) → has_rank (kind_in t) rank x ≡ true → value_named (at_last t).values x ≡ None
  array_unvalued rank x h = kind_unvalued (is_array_kind rank) (λ n. refl) x refl h

array_no_scalar : (rank : ℕ) (o : Option Kind) → is_array_kind rank o ≡ true → is_scalar_kind o ≡ false
array_no_scalar rank None h = refl
array_no_scalar rank (Some Scalar) h = absurd cc
array_no_scalar rank (Some (Array d)) h = refl
array_no_scalar rank (Some (Constant n)) h = refl

module _ (t : ProgramTree) (g : Names) (u : Store) where
  -- what is seen in cells are reads at the front of these accesses, behind which others are left
  abbrev pub Walk : List Seen → List Access → List Access → Type 0
  Walk [] accesses rest = accesses ≡ rest
  Walk (cell_seen c content ∷ more) accesses rest = (a : Access) × (behind : List Access) × (accesses ≡ a ∷ behind) × (a.writes ≡ false) × StandsFor t g u a.name a.subscripts c × Walk more behind rest
  Walk (index_seen c v ∷ more) accesses rest = Walk more accesses rest

  -- an evaluation comes to a value behind these reads, or to a fault behind some of them
  abbrev pub ComesBy : {A : Type 0} → List Seen → Result A ℕ → List Access → List Access → Type 0
  ComesBy seen (Ok x) accesses rest = Walk seen accesses rest
  ComesBy seen (Err fault) accesses rest = (left : List Access) × Walk seen accesses left

  abbrev pub Comes : {A : Type 0} → Evaluated A → List Access → List Access → Type 0
  Comes e accesses rest = ComesBy e.seen e.result accesses rest

  walk_append : (xs ys : List Seen) (accesses mid rest : List Access) → Walk xs accesses mid → Walk ys mid rest → Walk (xs ++ ys) accesses rest
  walk_append [] ys accesses mid rest h k = subst (λ (z : List Access). Walk ys z rest) (sym h) k
  walk_append (cell_seen c content ∷ xs) ys accesses mid rest h k = (h.0, h.1, h.2, h.3, h.4, walk_append xs ys h.1 mid rest h.5 k)
  walk_append (index_seen c v ∷ xs) ys accesses mid rest h k = walk_append xs ys accesses mid rest h k

  comes_append : {A : Type 0} (xs ys : List Seen) (r : Result A ℕ) (accesses mid rest : List Access) → Walk xs accesses mid → ComesBy ys r mid rest → ComesBy (xs ++ ys) r accesses rest
  comes_append xs ys (Ok x) accesses mid rest h k = walk_append xs ys accesses mid rest h k
  comes_append xs ys (Err n) accesses mid rest h k = (k.0, walk_append xs ys accesses mid k.0 h k.1)

  onward_comes : {A B : Type 0} (seen : List Seen) (r : Result A ℕ) (f : A → Evaluated B) (accesses mid rest : List Access) → ComesBy seen r accesses mid → ((x : A) → r ≡ Ok x → Comes (f x) mid rest) → Comes (onward seen r f) accesses rest
  onward_comes seen (Ok x) f accesses mid rest h k = comes_append seen (f x).seen (f x).result accesses mid rest h (k x refl)
  onward_comes seen (Err n) f accesses mid rest h k = h

  then_comes : {A B : Type 0} (e : Evaluated A) (f : A → Evaluated B) (accesses mid rest : List Access) → Comes e accesses mid → ((x : A) → e.result ≡ Ok x → Comes (f x) mid rest) → Comes (e >>> f) accesses rest
  then_comes e f accesses mid rest h k = onward_comes e.seen e.result f accesses mid rest h k

  walked : {A : Type 0} (seen : List Seen) (r : Result A ℕ) (accesses rest : List Access) → Walk seen accesses rest → ComesBy seen r accesses rest
  walked seen (Ok x) accesses rest h = h
  walked seen (Err n) accesses rest h = (rest, h)

  given_comes : {A : Type 0} (r : Result A ℕ) (accesses : List Access) → Comes (given r) accesses accesses
  given_comes r accesses = walked [] r accesses accesses refl

  one_comes : {A B : Type 0} (f : A → Result B ℕ) (a : Evaluated A) (accesses rest : List Access) → Comes a accesses rest → Comes (a >>> λ x. given (f x)) accesses rest
  one_comes f a accesses rest h = then_comes a (λ x. given (f x)) accesses rest rest h (λ x e. given_comes (f x) rest)

  two_come : {A B C : Type 0} (f : A → B → Result C ℕ) (a : Evaluated A) (b : Evaluated B) (accesses mid rest : List Access) → Comes a accesses mid → Comes b mid rest → Comes (a >>> λ x. b >>> λ y. given (f x y)) accesses rest
  two_come f a b accesses mid rest h k = then_comes a (λ x. b >>> λ y. given (f x y)) accesses mid rest h (λ x e. one_comes (f x) b mid rest k)

-- the numbers to which subscripts come
come_to : (g : Names) (u : Store) (es : ExprTrees) (ns : List ℤ) → (values g es u).result ≡ Ok ns → ComeTo g u (listed es) ns
come_to g u no_exprs [] h = tt
come_to g u no_exprs (n ∷ ns) h = absurd (let z = ok_one [] (n ∷ ns) h in cc)
come_to g u (more_exprs e es) ns h =
    let one = came (value g e u).seen (value g e u).result (λ x. values g es u >>> λ xs. given (Ok (x ∷ xs))) ns h in
    let two = came (values g es u).seen (values g es u).result (λ xs. given (Ok (one.0 ∷ xs))) ns one.2 in
    subst (λ (z : List ℤ). ComeTo g u (e ∷ listed es) z) (ok_one (one.0 ∷ two.0) ns two.2) (one.1, come_to g u es two.0 two.1)

-- at a place of a valid program
module _ (t : ProgramTree) (valid : IsValid t) (scope : Scope) (indices : List (List ℕ)) (same : (x : List ℕ) → is_among x indices ≡ is_among x (variables_of scope)) (u : Store) where
  abbrev constants : List (List ℕ)
  constants = constant_names t.decls

  abbrev g : Names
  g = names_in (setting_of t) scope

  abbrev Coming : {A : Type 0} → Evaluated A → List Access → Type 0
  Coming e reads = (accesses rest : List Access) → accesses ≡ reads ++ rest → Comes t g u e accesses rest

  none_come : {A : Type 0} (r : Result A ℕ) → Coming (given r) []
  none_come r accesses rest e = subst (λ (z : List Access). Comes t g u (given r) z rest) (sym e) (given_comes t g u r rest)

  then_coming : {A B : Type 0} (e : Evaluated A) (f : A → Evaluated B) (xs ys : List Access) → Coming e xs → ((x : A) → e.result ≡ Ok x → Coming (f x) ys) → Coming (e >>> f) (xs ++ ys)
  then_coming e f xs ys h k accesses rest is = then_comes t g u e f accesses (ys ++ rest) rest (h accesses (ys ++ rest) (is ∙ append_assoc xs ys rest)) (λ x o. k x o (ys ++ rest) rest refl)

  one_coming : {A B : Type 0} (f : A → Result B ℕ) (a : Evaluated A) (xs : List Access) → Coming a xs → Coming (a >>> λ x. given (f x)) xs
  one_coming f a xs h accesses rest is = one_comes t g u f a accesses rest (h accesses rest is)

  two_coming : {A B C : Type 0} (f : A → B → Result C ℕ) (a : Evaluated A) (b : Evaluated B) (xs ys : List Access) → Coming a xs → Coming b ys → Coming (a >>> λ x. b >>> λ y. given (f x y)) (xs ++ ys)
  two_coming f a b xs ys h k = then_coming a (λ x. b >>> λ y. given (f x y)) xs ys h (λ x o. one_coming (f x) b ys k)

  no_constant : (x : List ℕ) (a : Access) → a.name ≡ x → value_named (at_last t).values x ≡ None → unless_constant constants a ≡ a ∷ []
  no_constant x a e h = ap (λ (b : Bool). if b then [] else a ∷ []) (ap (λ (y : List ℕ). is_among y constants) e ∙ unvalued t valid x h)

  -- a name
  variable_comes : (x : List ℕ) → is_name x ≡ true → value_named (at_last t).values x ≡ None → Coming (variable_value (g.index x) u (g.cell x)) (if is_among x indices then [] else unless_constant constants (read_of x []))
  variable_comes x name none = go (is_among x (variables_of scope)) refl
    where
      go : (b : Bool) → is_among x (variables_of scope) ≡ b → Coming (variable_value (g.index x) u (g.cell x)) (if is_among x indices then [] else unless_constant constants (read_of x []))
      go true e accesses rest is =
          let told = index_told scope x e in
          let all : accesses ≡ rest = is ∙ ap (λ (b : Bool). (if b then [] else unless_constant constants (read_of x [])) ++ rest) (same x ∙ e) in
          subst (λ (o : Option ℤ). Comes t g u (variable_value o u (g.cell x)) accesses rest) (sym told.1) all
      go false e accesses rest is =
          let all : accesses ≡ read_of x [] ∷ rest = is ∙ (ap (λ (b : Bool). (if b then [] else unless_constant constants (read_of x [])) ++ rest) (same x ∙ e) ∙ ap (λ (z : List Access). z ++ rest) (no_constant x (read_of x []) refl none)) in
          subst (λ (o : Option ℤ). Comes t g u (variable_value o u (g.cell x)) accesses rest) (sym (index_untold scope x e))
          (walked t g u (cell_seen (g.cell x) (u (g.cell x)) ∷ []) (number_read (u (g.cell x))) accesses rest (read_of x [], rest, all, refl, sym (named_cell g x name), refl))

  name_comes : (x : List ℕ) → is_name x ≡ true → (o : Option ℤ) → value_named (at_last t).values x ≡ o → Coming (name_value o g x u) (if is_among x indices then [] else unless_constant constants (read_of x []))
  name_comes x name (Some n) e = λ accesses rest is.
      none_come (Ok n) accesses rest (is ∙ ap (λ (z : List Access). z ++ rest) (go (is_among x indices)))
    where
      go : (b : Bool) → (if b then [] else unless_constant constants (read_of x [])) ≡ []
      go true = refl
      go false = ap (λ (b : Bool). if b then [] else read_of x [] ∷ []) (valued t valid x n e)
  name_comes x name None e = variable_comes x name e

  -- an element, whose subscripts have come to these numbers
  element_comes : (x : List ℕ) (e : ExprTree) (es : List ExprTree) (a : Access) → a.name ≡ x → a.subscripts ≡ e ∷ es → a.writes ≡ false → is_scalar (kind_in t) x ≡ false → value_named (at_last t).values x ≡ None
      → (ns : List ℤ) → ComeTo g u (e ∷ es) ns → Coming (given (element_cell g x ns) >>> read_cell u) (unless_constant constants a)
  element_comes x e es a named subscripts reads array none ns come accesses rest is = go (is_rank (length ns) && is_within (g.bounds x) ns)
    where
      all : accesses ≡ a ∷ rest
      all = is ∙ ap (λ (z : List Access). z ++ rest) (no_constant x a named none)

      stands : StandsFor t g u a.name a.subscripts (cells.Element x ns)
      stands = subst (λ (y : List ℕ). StandsFor t g u y a.subscripts (cells.Element x ns)) (sym named) (subst (λ (z : List ExprTree). StandsFor t g u x z (cells.Element x ns)) (sym subscripts) (ns, come, refl, array))

      go : (b : Bool) → Comes t g u (given (if b then Ok (cells.Element x ns) else Err outside_bounds) >>> read_cell u) accesses rest
      go true = walked t g u (cell_seen (cells.Element x ns) (u (cells.Element x ns)) ∷ []) (number_read (u (cells.Element x ns))) accesses rest (a, rest, all, reads, stands, refl)
      go false = (accesses, refl)

  -- two operands, the left one first
  both_come : (f : ℤ → ℤ → Result ℤ ℕ) (a b : ExprTree) → (expr_fits a ≡ true → expr_is_right (kind_in t) a ≡ true → Coming (value g a u) (expr_reads constants indices a)) → (expr_fits b ≡ true → expr_is_right (kind_in t) b ≡ true → Coming (value g b u) (expr_reads constants indices b))
      → (expr_fits a && expr_fits b) ≡ true → (expr_is_right (kind_in t) a && expr_is_right (kind_in t) b) ≡ true → Coming (value g a u >>> λ x. value g b u >>> λ y. given (f x y)) (expr_reads constants indices a ++ expr_reads constants indices b)
  both_come f a b first second h k =
      let fits = and_parts (expr_fits a) (expr_fits b) h in
      let right = and_parts (expr_is_right (kind_in t) a) (expr_is_right (kind_in t) b) k in
      two_coming f (value g a u) (value g b u) (expr_reads constants indices a) (expr_reads constants indices b) (first fits.0 right.0) (second fits.1 right.1)

  mutual
    pub value_comes : (e : ExprTree) → expr_fits e ≡ true → expr_is_right (kind_in t) e ≡ true → Coming (value g e u) (expr_reads constants indices e)
    value_comes (Int n) f r = none_come (Ok (pos n))
    value_comes (Var x) f r = name_comes x f (value_named (at_last t).values x) refl
    value_comes (Element x no_exprs) f r = absurd (let z = and_parts _ (exprs_fit no_exprs) f in let w = and_parts _ false z.0 in cc)
    value_comes (Element x (more_exprs e es)) f r =
        let fits = and_parts _ (exprs_fit (more_exprs e es)) f in
        let right = and_parts _ (exprs_are_right (kind_in t) (more_exprs e es)) r in
        let rank = and_parts (has_rank (kind_in t) (expr_count (more_exprs e es)) x) _ right.0 in
        then_coming (values g (more_exprs e es) u) (λ ns. given (element_cell g x ns) >>> read_cell u) (exprs_reads constants indices (more_exprs e es)) (unless_constant constants (read_of x (listed (more_exprs e es))))
        (values_come (more_exprs e es) fits.1 right.1)
        (λ ns o. element_comes x e (listed es) (read_of x (listed (more_exprs e es))) refl refl refl (array_no_scalar (expr_count (more_exprs e es)) (kind_in t x) rank.0) (array_unvalued t (expr_count (more_exprs e es)) x rank.0) ns (come_to g u (more_exprs e es) ns o))
    value_comes (Neg a) f r = one_coming (λ x. by_number (negation_of x)) (value g a u) (expr_reads constants indices a) (value_comes a f r)
    value_comes (Add a b) f r = both_come (λ x y. by_number (sum_of x y)) a b (value_comes a) (value_comes b) f r
    value_comes (Sub a b) f r = both_come (λ x y. by_number (difference_of x y)) a b (value_comes a) (value_comes b) f r
    value_comes (Mul a b) f r = both_come (λ x y. by_number (product_of x y)) a b (value_comes a) (value_comes b) f r
    value_comes (Div a b) f r = both_come (λ x y. by_number (quotient_of x y)) a b (value_comes a) (value_comes b) f r
    value_comes (Pow a b) f r = both_come (λ x y. by_number (power_of x y)) a b (value_comes a) (value_comes b) f r
    value_comes (Call i arguments) f r =
        let fits = and_parts (takes_arguments i arguments) (exprs_fit arguments) f in
        let right = and_parts (takes_arguments i arguments) (exprs_are_right (kind_in t) arguments) r in
        one_coming (λ xs. of_intrinsic (intrinsic_result i xs)) (values g arguments u) (exprs_reads constants indices arguments) (values_come arguments fits.1 right.1)

    pub values_come : (es : ExprTrees) → exprs_fit es ≡ true → exprs_are_right (kind_in t) es ≡ true → Coming (values g es u) (exprs_reads constants indices es)
    values_come no_exprs f r = none_come {A = List ℤ} (Ok [])
    values_come (more_exprs e es) f r =
        let fits = and_parts (expr_fits e) (exprs_fit es) f in
        let right = and_parts (expr_is_right (kind_in t) e) (exprs_are_right (kind_in t) es) r in
        two_coming (λ x xs. Ok (x ∷ xs)) (value g e u) (values g es u) (expr_reads constants indices e) (exprs_reads constants indices es) (value_comes e fits.0 right.0) (values_come es fits.1 right.1)

  pub truth_comes : (c : CondTree) → cond_fits c ≡ true → cond_is_right (kind_in t) c ≡ true → Coming (truth g c u) (cond_reads constants indices c)
  truth_comes (Rel r a b) f k =
      let fits = and_parts (expr_fits a) (expr_fits b) f in
      let right = and_parts (expr_is_right (kind_in t) a) (expr_is_right (kind_in t) b) k in
      two_coming (λ x y. Ok (relation_holds r x y)) (value g a u) (value g b u) (expr_reads constants indices a) (expr_reads constants indices b) (value_comes a fits.0 right.0) (value_comes b fits.1 right.1)
  truth_comes (Not a) f k = one_coming (λ x. Ok (not x)) (truth g a u) (cond_reads constants indices a) (truth_comes a f k)
  truth_comes (And a b) f k =
      let fits = and_parts (cond_fits a) (cond_fits b) f in
      let right = and_parts (cond_is_right (kind_in t) a) (cond_is_right (kind_in t) b) k in
      two_coming (λ x y. Ok (x && y)) (truth g a u) (truth g b u) (cond_reads constants indices a) (cond_reads constants indices b) (truth_comes a fits.0 right.0) (truth_comes b fits.1 right.1)
  truth_comes (Or a b) f k =
      let fits = and_parts (cond_fits a) (cond_fits b) f in
      let right = and_parts (cond_is_right (kind_in t) a) (cond_is_right (kind_in t) b) k in
      two_coming (λ x y. Ok (x || y)) (truth g a u) (truth g b u) (cond_reads constants indices a) (cond_reads constants indices b) (truth_comes a fits.0 right.0) (truth_comes b fits.1 right.1)

  text_comes : (item : ItemTree) → item_fits item ≡ true → item_is_right (kind_in t) item ≡ true → Coming (item_text g item u) (item_reads constants indices item)
  text_comes (Value e) f r = one_coming (λ n. Ok (signed_decimal n)) (value g e u) (expr_reads constants indices e) (value_comes e f r)
  text_comes (Text text) f r = none_come (Ok text)

  texts_come : (items : List ItemTree) → list_all item_fits items ≡ true → list_all (item_is_right (kind_in t)) items ≡ true → Coming (item_texts g items u) (flat_map (item_reads constants indices) items)
  texts_come [] f r = none_come {A = List (List ℕ)} (Ok [])
  texts_come (item ∷ items) f r =
      let fits = and_parts (item_fits item) (list_all item_fits items) f in
      let right = and_parts (item_is_right (kind_in t) item) (list_all (item_is_right (kind_in t)) items) r in
      two_coming (λ text texts. Ok (text ∷ texts)) (item_text g item u) (item_texts g items u) (item_reads constants indices item) (flat_map (item_reads constants indices) items) (text_comes item fits.0 right.0) (texts_come items fits.1 right.1)

  pub line_comes : (items : List ItemTree) → list_all item_fits items ≡ true → list_all (item_is_right (kind_in t)) items ≡ true → Coming (printed_line g items u) (flat_map (item_reads constants indices) items)
  line_comes items f r = one_coming (λ texts. Ok (join_with_byte 32 texts)) (item_texts g items u) (flat_map (item_reads constants indices) items) (texts_come items f r)

  pub limits_come : (h : Head) → expr_fits h.first ≡ true → expr_fits h.last ≡ true → expr_is_right (kind_in t) h.first ≡ true → expr_is_right (kind_in t) h.last ≡ true → Coming (limits g h u) (expr_reads constants indices h.first ++ expr_reads constants indices h.last)
  limits_come h f_first f_last r_first r_last =
      then_coming (value g h.first u) (λ x. given (in_bounds x) >>> λ m. value g h.last u >>> λ y. given (in_bounds y) >>> λ n. given (Ok (record { first = m; last = n }))) (expr_reads constants indices h.first) (expr_reads constants indices h.last)
      (value_comes h.first f_first r_first)
      (λ x o. then_coming (given (in_bounds x)) (λ m. value g h.last u >>> λ y. given (in_bounds y) >>> λ n. given (Ok (record { first = m; last = n }))) [] (expr_reads constants indices h.last)
      (none_come (in_bounds x))
      (λ m q accesses rest is. then_comes t g u (value g h.last u) (λ y. given (in_bounds y) >>> λ n. given (Ok (record { first = m; last = n }))) accesses rest rest
      (value_comes h.last f_last r_last accesses rest is)
      (λ y w. one_comes t g u (λ n. Ok (record { first = m; last = n })) (given (in_bounds y)) rest rest (given_comes t g u (in_bounds y) rest))))

  -- a left side, or an item of a READ: behind what it reads there is its write
  pub record Targeting (e : ExprTree) : Type 0 where
    pub access : Access
    pub writes : access.writes ≡ true
    pub reads : List Access
    pub is : left_accesses constants indices e ≡ reads ++ access ∷ []
    pub comes : Coming (target g e u) reads
    pub stands : (c : Cell) → (target g e u).result ≡ Ok c → StandsFor t g u access.name access.subscripts c
    pub of_name : (c : Cell) (x : List ℕ) → (target g e u).result ≡ Ok c → same_cell c (cells.Scalar x) ≡ true → is_among x (assigned_left e) ≡ true

  element_found : (x : List ℕ) (ns : List ℤ) (c : Cell) → element_cell g x ns ≡ Ok c → c ≡ cells.Element x ns
  element_found x ns c h = go (is_rank (length ns) && is_within (g.bounds x) ns) h
    where
      go : (b : Bool) → (if b then Ok (cells.Element x ns) else Err outside_bounds) ≡ Ok c → c ≡ cells.Element x ns
      go true k = sym (ok_one (cells.Element x ns) c k)
      go false k = absurd cc

  pub targeting : (e : ExprTree) → target_fits e ≡ true → target_is_right (kind_in t) e ≡ true → Targeting e
  targeting (Int n) f r = absurd cc
  targeting (Neg a) f r = absurd cc
  targeting (Add a b) f r = absurd cc
  targeting (Sub a b) f r = absurd cc
  targeting (Mul a b) f r = absurd cc
  targeting (Div a b) f r = absurd cc
  targeting (Pow a b) f r = absurd cc
  targeting (Call i arguments) f r = absurd cc
  targeting (Var y) f r = record {
    access = write_of y [];
    writes = refl;
    reads = [];
    is = no_constant y (write_of y []) refl (scalar_unvalued t y r);
    comes = none_come (Ok (g.cell y));
    stands = λ c e. sym (ok_one (g.cell y) c e) ∙ sym (named_cell g y f);
    of_name = λ c x e h.
        let cell : g.cell y ≡ c = ok_one (g.cell y) c e in
        let own : y ≡ x = scalar_named scope y x (ap (λ (z : Cell). same_cell z (cells.Scalar x)) cell ∙ h) in
        or_left (is_same_text x y) false (ap (is_same_text x) own ∙ same_itself x);
  }
  targeting (Element y no_exprs) f r = absurd (let z = and_parts _ (exprs_fit no_exprs) f in let w = and_parts _ false z.0 in cc)
  targeting (Element y (more_exprs e es)) f r =
      let fits = and_parts _ (exprs_fit (more_exprs e es)) f in
      let right = and_parts _ (exprs_are_right (kind_in t) (more_exprs e es)) r in
      let rank = and_parts (has_rank (kind_in t) (expr_count (more_exprs e es)) y) _ right.0 in
      let found : (c : Cell) → (target g (Element y (more_exprs e es)) u).result ≡ Ok c → (ns : List ℤ) × ((values g (more_exprs e es) u).result ≡ Ok ns) × (c ≡ cells.Element y ns) = λ c o. (
      let one = came (values g (more_exprs e es) u).seen (values g (more_exprs e es) u).result (λ ns. given (element_cell g y ns)) c o in
      (one.0, one.1, element_found y one.0 c one.2)
      ) in
      record {
        access = write_of y (listed (more_exprs e es));
        writes = refl;
        reads = exprs_reads constants indices (more_exprs e es);
        is = ap (λ (z : List Access). exprs_reads constants indices (more_exprs e es) ++ z) (no_constant y (write_of y (listed (more_exprs e es))) refl (array_unvalued t (expr_count (more_exprs e es)) y rank.0));
        comes = one_coming (element_cell g y) (values g (more_exprs e es) u) (exprs_reads constants indices (more_exprs e es)) (values_come (more_exprs e es) fits.1 right.1);
        stands = λ c o. (let p = found c o in (p.0, come_to g u (more_exprs e es) p.0 p.1, p.2, array_no_scalar (expr_count (more_exprs e es)) (kind_in t y) rank.0));
        of_name = λ c x o h. (let p = found c o in let z : false ≡ true = sym (ap (λ (d : Cell). same_cell d (cells.Scalar x)) p.2) ∙ h in absurd cc);
      }

  -- an assignment
  pub assigned_comes : (left right : ExprTree) → expr_fits right ≡ true → expr_is_right (kind_in t) right ≡ true → (to : Targeting left) → Coming (assigned g left right u) (expr_reads constants indices right ++ to.reads)
  assigned_comes left right f r to =
      then_coming (value g right u) (λ v. target g left u >>> λ c. given (storable v) >>> λ n. given (Ok (record { cell = c; number = n }))) (expr_reads constants indices right) to.reads (value_comes right f r)
      (λ v o accesses rest is. then_comes t g u (target g left u) (λ c. given (storable v) >>> λ n. given (Ok (record { cell = c; number = n }))) accesses rest rest (to.comes accesses rest is)
      (λ c q. one_comes t g u (λ n. Ok (record { cell = c; number = n })) (given (storable v)) rest rest (given_comes t g u (storable v) rest)))

  storable_by : (b : Bool) (x n : ℤ) → is_storable x ≡ b → (if b then Ok x else Err out_of_range) ≡ Ok n → is_storable n ≡ true
  storable_by true x n e h = subst (λ (z : ℤ). is_storable z ≡ true) (ok_one x n h) e
  storable_by false x n e h = absurd cc

  pub assigned_to : (left right : ExprTree) (w : Stored) → (assigned g left right u).result ≡ Ok w → ((target g left u).result ≡ Ok w.cell) × (is_storable w.number ≡ true)
  assigned_to left right w h =
      let one = came (value g right u).seen (value g right u).result (λ v. target g left u >>> λ c. given (storable v) >>> λ n. given (Ok (record { cell = c; number = n }))) w h in
      let two = came (target g left u).seen (target g left u).result (λ c. given (storable one.0) >>> λ n. given (Ok (record { cell = c; number = n }))) w one.2 in
      let three = came [] (storable one.0) (λ n. given (Ok (record { cell = two.0; number = n }))) w two.2 in
      let is : record { cell = two.0; number = three.0 } ≡ w = ok_one (record { cell = two.0; number = three.0 }) w three.2 in
      (two.1 ∙ ap (λ (z : Stored). good z.cell) {x = record { cell = two.0; number = three.0 }} is, subst (λ (z : Stored). is_storable z.number ≡ true) {x = record { cell = two.0; number = three.0 }} is (storable_by (is_storable one.0) one.0 three.0 refl three.1))
