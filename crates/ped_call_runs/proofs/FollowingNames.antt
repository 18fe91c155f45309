-- What names stand for in a subroutine that runs, and in the statements that its CALL expands to.
use Rattle.std.proofs.Common.{◌≡◌, ℕ, ℤ, pos, negsuc, List, [], ◌∷◌, ◌++◌, length, Bool, true, false, ◌&&◌, Option, Some, None, Ok, Err, refl, sym, ap, ◌∙◌, subst, inr, arith, if◌then◌else◌}
use Rattle.std.specs.Prelude.{int_lt}
use Rattle.std.specs.Int.{is_negative}
use Rattle.std.proofs.lemmas.Bool.{both_ways}
use Rattle.std.proofs.lemmas.Int.{ints}
use Rattle.ped_base.specs.Dimensions.{Dimensions}
use Rattle.ped_base.specs.Lists.{is_same_text, is_among}
use Rattle.ped_base.specs.declared.arithmetic.faults.Fault.TheVariants.{OutOfRange}
use Rattle.ped_base.specs.Arithmetic.Arithmetic.{is_in_range}
use Rattle.ped_base.proofs.NameEquality.{same_is, same_itself}
use Rattle.ped_tree.specs.Tree.{ExprTree, Int, Var, Neg}
use Rattle.ped_tree.specs.Constants.NamedConstants.{value_named}
use Rattle.ped_steps.specs.ped_symbolic.specs.Arithmetic.{literal}
use Rattle.ped_calls.specs.ped_units.specs.Expanding.{Meanings, meaning, name_or, name_meant}
use Rattle.ped_steps.specs.ped_store.specs.Cells.{Cell, Scalar, Element, Private, In, Out, same_cell}
use Rattle.ped_steps.specs.ped_store.specs.Stores.{Content, Number, Store, number_read, outside_bounds}
use Rattle.ped_steps.specs.ped_store.specs.Storage.{is_within}
use Rattle.ped_steps.specs.ped_store.specs.Acts.{iterations_of}
use Rattle.ped_steps.specs.ped_eval.specs.Scopes.{Setting, Frame, Scope, turns_of, cell_of, index_value, Names, names_in}
use Rattle.ped_steps.specs.ped_eval.specs.Evaluation.{cell_seen, Evaluated, ◌>>>◌, given, by_number, read_cell}
use Rattle.ped_steps.specs.ped_eval.specs.Values.{variable_value, name_value, is_rank, element_cell, value, target}
use Rattle.ped_steps.proofs.RunLaws.ExchangedTouches.{told_apart}
use Rattle.ped_call_runs.proofs.FollowingValues.{itself, FollowsBy, Follows, ComesTo, ReadsAlike, ElementAlike, StoresAlike, cell_one}
use Rattle.ped_call_runs.proofs.FollowingStores.{Bond, tight, loose, held, free, Agrees, IsBelow, is_bound, cell_follows}

-- cells under other names
abbrev pub named_cell : (List ℕ → List ℕ) → Cell → Cell
named_cell f (Scalar x) = Scalar (f x)
named_cell f (Element x subscripts) = Element (f x) subscripts
named_cell f (Private x iterations) = Private (f x) iterations
named_cell f In = In
named_cell f Out = Out

-- a number is known of a scalar alone
abbrev pub unheld : Bond → Bond
unheld tight = tight
unheld loose = loose
unheld (held n) = free
unheld free = free

-- what is known of a cell, by its name
abbrev pub bond_of : (List ℕ → Bond) → Cell → Bond
bond_of b (Scalar x) = b x
bond_of b (Element x subscripts) = unheld (b x)
bond_of b (Private x iterations) = unheld (b x)
bond_of b In = tight
bond_of b Out = tight

unheld_bound : (b : Bond) → is_bound b ≡ true → is_bound (unheld b) ≡ true
unheld_bound tight h = refl
unheld_bound loose h = refl
unheld_bound (held n) h = absurd cc
unheld_bound free h = absurd cc

-- the cell that a scalar stands for may be read and written where its name may
pub cell_bound : (b : List ℕ → Bond) (scope : Scope) (y : List ℕ) → is_bound (b y) ≡ true → is_bound (bond_of b (cell_of scope y)) ≡ true
cell_bound b [] y h = h
cell_bound b (f ∷ fs) y h = go (is_among y f.private) (cell_bound b fs y h)
  where
    go : (t : Bool) → is_bound (bond_of b (cell_of fs y)) ≡ true → is_bound (bond_of b (if t then Private y (iterations_of (turns_of (f ∷ fs))) else cell_of fs y)) ≡ true
    go true outer = unheld_bound (b y) h
    go false outer = outer

-- two places in the same iterations, where each name stands for what the renamed one stands for
pub record AreNamed (f : List ℕ → List ℕ) (scope other : Scope) : Type 0 where
  pub turns : turns_of other ≡ turns_of scope
  pub index : (x : List ℕ) → index_value other (f x) ≡ index_value scope x
  pub cell : (x : List ℕ) → cell_of other (f x) ≡ named_cell f (cell_of scope x)

-- a name that may not be written is no DO variable round the place, and private to no iteration
pub record IsUnheld (b : List ℕ → Bond) (scope : Scope) : Type 0 where
  pub index : (y : List ℕ) → is_bound (b y) ≡ false → index_value scope y ≡ None
  pub cell : (y : List ℕ) → is_bound (b y) ≡ false → cell_of scope y ≡ Scalar y

module _ (f : List ℕ → List ℕ) (twice : (x : List ℕ) → f (f x) ≡ x) where
  pub cell_twice : (c : Cell) → named_cell f (named_cell f c) ≡ c
  cell_twice (Scalar x) = ap Scalar (twice x)
  cell_twice (Element x js) = λ i. Element (twice x i) js
  cell_twice (Private x path) = λ i. Private (twice x i) path
  cell_twice In = refl
  cell_twice Out = refl

  pub same_cells : (c d : Cell) → same_cell (named_cell f c) (named_cell f d) ≡ same_cell c d
  same_cells = told_apart (named_cell f) (named_cell f) cell_twice

  pub same_names : (x y : List ℕ) → is_same_text (f x) (f y) ≡ is_same_text x y
  same_names x y = go (is_same_text x y) refl
    where
      go : (t : Bool) → is_same_text x y ≡ t → is_same_text (f x) (f y) ≡ t
      go true e = ap (λ (z : List ℕ). is_same_text (f x) (f z)) (sym (same_is x y e)) ∙ same_itself (f x)
      go false e = back (is_same_text (f x) (f y)) refl
        where
          back : (u : Bool) → is_same_text (f x) (f y) ≡ u → u ≡ false
          back false h = refl
          back true h =
              let same : x ≡ y = sym (twice x) ∙ ap f (same_is (f x) (f y) h) ∙ twice y in
              absurd (both_ways (is_same_text x y) e (ap (is_same_text x) (sym same) ∙ same_itself x))

  -- further inside, in an iteration of renamed loops
  pub named_inside : (r z : Frame) (scope other : Scope) → z.turn ≡ r.turn → z.variable ≡ f r.variable → ((x : List ℕ) → is_among (f x) z.private ≡ is_among x r.private)
      → AreNamed f scope other → AreNamed f (r ∷ scope) (z ∷ other)
  named_inside r z scope other turn variable private same = record {
    turns = λ i. same.turns i ++ turn i ∷ [];
    index = λ x. (λ i. if is_same_text (f x) (variable i) then Some (turn i).value else same.index x i) ∙ ap (λ (t : Bool). if t then Some r.turn.value else index_value scope x) (same_names x r.variable);
    cell = λ x. (λ i. if private x i then Private (f x) (iterations_of (same.turns i ++ turn i ∷ [])) else same.cell x i) ∙ go x (is_among x r.private);
  }
    where
      go : (x : List ℕ) (t : Bool) → (if t then Private (f x) (iterations_of (turns_of (r ∷ scope))) else named_cell f (cell_of scope x)) ≡ named_cell f (if t then Private x (iterations_of (turns_of (r ∷ scope))) else cell_of scope x)
      go x true = refl
      go x false = refl

-- what a name stands for on both sides: a name and the renamed one; a named constant and its literal; a variable of the CALL that holds a number, and its literal
pub data MeansAlike (b : List ℕ → Bond) (f : List ℕ → List ℕ) (p q : Setting) (m k : Meanings) (x : List ℕ) : Type 0 where
  by_name : (y : List ℕ) → meaning m x ≡ Var y → meaning k x ≡ Var (f y) → value_named q.constants (f y) ≡ value_named p.constants y → is_bound (b y) ≡ true → MeansAlike b f p q m k x
  by_constant : (y : List ℕ) (n : ℤ) → meaning m x ≡ Var y → meaning k x ≡ literal n → is_in_range n ≡ true → value_named p.constants y ≡ Some n → MeansAlike b f p q m k x
  by_held : (y : List ℕ) (n : ℤ) → meaning m x ≡ Var y → meaning k x ≡ literal n → is_in_range n ≡ true → value_named p.constants y ≡ None → b y ≡ held n → MeansAlike b f p q m k x

-- a name that may be assigned: a name stands for it, and the renamed one on the other side
pub record NamedAlike (b : List ℕ → Bond) (f : List ℕ → List ℕ) (p q : Setting) (m k : Meanings) (x : List ℕ) : Type 0 where
  pub name : List ℕ
  pub left : meaning m x ≡ Var name
  pub right : meaning k x ≡ Var (f name)
  pub bounds : q.bounds (f name) ≡ p.bounds name
  pub bound : is_bound (b name) ≡ true

literal_comes : (g : Names) (s : Store) (n : ℤ) → is_in_range n ≡ true → value g (literal n) s ≡ given (Ok n)
literal_comes g s (pos n) r = go (is_negative (pos n)) refl
  where
    go : (t : Bool) → is_negative (pos n) ≡ t → value g (if t then Neg (Int n) else Int n) s ≡ given (Ok (pos n))
    go true h = let k : int_lt (pos n) (pos 0) ≡ true = h in absurd (omega (arith, ints, k))
    go false h = refl
literal_comes g s (negsuc n) r = ap (λ (t : Bool). given (by_number (if t then Ok (negsuc n) else Err OutOfRange))) r

module _ (b : List ℕ → Bond) (f : List ℕ → List ℕ) (twice : (x : List ℕ) → f (f x) ≡ x) (p q : Setting) (scope other : Scope) (same : AreNamed f scope other) (unheld : IsUnheld b scope) (s w : Store) (below : IsBelow (bond_of b) (named_cell f) s w) where
  -- what stands for a name on both sides
  both_meant : (m k : Meanings) (x : List ℕ) (e d : ExprTree) → meaning m x ≡ e → meaning k x ≡ d → Follows itself (value (names_in p scope) e s) (value (names_in q other) d w)
      → Follows itself (value (names_in p scope) (meaning m x) s) (value (names_in q other) (meaning k x) w)
  both_meant m k x e d u v h =
      subst (λ (a : ExprTree). Follows itself (value (names_in p scope) a s) (value (names_in q other) (meaning k x) w)) (sym u)
      (subst (λ (a : ExprTree). Follows itself (value (names_in p scope) e s) (value (names_in q other) a w)) (sym v) h)

  -- a scalar that is read
  scalar_follows : (y : List ℕ) → is_bound (b y) ≡ true → Follows itself (variable_value (index_value scope y) s (cell_of scope y)) (variable_value (index_value other (f y)) w (cell_of other (f y)))
  scalar_follows y h =
      subst (λ (o : Option ℤ). Follows itself (variable_value (index_value scope y) s (cell_of scope y)) (variable_value o w (cell_of other (f y)))) (sym (same.index y))
      (subst (λ (c : Cell). Follows itself (variable_value (index_value scope y) s (cell_of scope y)) (variable_value (index_value scope y) w c)) (sym (same.cell y)) (go (index_value scope y)))
    where
      go : (o : Option ℤ) → Follows itself (variable_value o s (cell_of scope y)) (variable_value o w (named_cell f (cell_of scope y)))
      go (Some n) = refl
      go None = cell_follows (bond_of b) (named_cell f) (same_cells f twice) (cell_of scope y) s w (cell_bound b scope y h) below

  name_follows : (y : List ℕ) → value_named q.constants (f y) ≡ value_named p.constants y → is_bound (b y) ≡ true → Follows itself (value (names_in p scope) (Var y) s) (value (names_in q other) (Var (f y)) w)
  name_follows y c h =
      subst (λ (o : Option ℤ). Follows itself (value (names_in p scope) (Var y) s) (name_value o (names_in q other) (f y) w)) (sym c) (go (value_named p.constants y))
    where
      go : (o : Option ℤ) → Follows itself (name_value o (names_in p scope) y s) (name_value o (names_in q other) (f y) w)
      go (Some n) = refl
      go None = scalar_follows y h

  -- an element that is found, and one that is read
  found_follows : (y : List ℕ) (js : List ℤ) → q.bounds (f y) ≡ p.bounds y → Follows (named_cell f) (given (element_cell (names_in p scope) y js)) (given (element_cell (names_in q other) (f y) js))
  found_follows y js e =
      subst (λ (d : Dimensions). Follows (named_cell f) (given (element_cell (names_in p scope) y js)) (given (if is_rank (length js) && is_within d js then Ok (Element (f y) js) else Err outside_bounds))) (sym e)
      (go (is_rank (length js) && is_within (p.bounds y) js))
    where
      go : (t : Bool) → Follows (named_cell f) (given (if t then Ok (Element y js) else Err outside_bounds)) (given (if t then Ok (Element (f y) js) else Err outside_bounds))
      go true = refl
      go false = inr refl

  element_follows : (y : List ℕ) (js : List ℤ) → q.bounds (f y) ≡ p.bounds y → is_bound (b y) ≡ true
      → Follows itself (given (element_cell (names_in p scope) y js) >>> read_cell s) (given (element_cell (names_in q other) (f y) js) >>> read_cell w)
  element_follows y js e h =
      subst (λ (d : Dimensions). Follows itself (given (element_cell (names_in p scope) y js) >>> read_cell s) (given (if is_rank (length js) && is_within d js then Ok (Element (f y) js) else Err outside_bounds) >>> read_cell w)) (sym e)
      (go (is_rank (length js) && is_within (p.bounds y) js))
    where
      go : (t : Bool) → Follows itself (given (if t then Ok (Element y js) else Err outside_bounds) >>> read_cell s) (given (if t then Ok (Element (f y) js) else Err outside_bounds) >>> read_cell w)
      go true = cell_follows (bond_of b) (named_cell f) (same_cells f twice) (Element y js) s w (unheld_bound (b y) h) below
      go false = inr refl

  constant_follows : (y : List ℕ) (n : ℤ) → is_in_range n ≡ true → value_named p.constants y ≡ Some n → Follows itself (value (names_in p scope) (Var y) s) (value (names_in q other) (literal n) w)
  constant_follows y n r c =
      subst (λ (z : Evaluated ℤ). Follows itself (value (names_in p scope) (Var y) s) z) (sym (literal_comes (names_in q other) w n r))
      (subst (λ (o : Option ℤ). Follows itself (name_value o (names_in p scope) y s) (given (Ok n))) (sym c) refl)

  held_follows : (y : List ℕ) (n : ℤ) → is_in_range n ≡ true → value_named p.constants y ≡ None → b y ≡ held n → Follows itself (value (names_in p scope) (Var y) s) (value (names_in q other) (literal n) w)
  held_follows y n r c h =
      let holds : s (Scalar y) ≡ Number n = subst (λ (z : Bond). Agrees (Scalar y) z (s (Scalar y)) (w (Scalar (f y)))) h (below (Scalar y)) in
      subst (λ (z : Evaluated ℤ). Follows itself (value (names_in p scope) (Var y) s) z) (sym (literal_comes (names_in q other) w n r))
      (subst (λ (o : Option ℤ). Follows itself (name_value o (names_in p scope) y s) (given (Ok n))) (sym c)
      (subst (λ (o : Option ℤ). Follows itself (variable_value o s (cell_of scope y)) (given (Ok n))) (sym (unheld.index y (ap is_bound h)))
      (subst (λ (a : Cell). Follows itself (read_cell s a) (given (Ok n))) (sym (unheld.cell y (ap is_bound h)))
      (subst (λ (c : Content). FollowsBy itself (cell_seen (Scalar y) c ∷ []) (number_read c) (Ok n)) (sym holds) refl))))

  -- a name of the subroutine that is read
  pub reads_alike : (m k : Meanings) (x : List ℕ) → MeansAlike b f p q m k x → ReadsAlike (names_in p scope) (names_in q other) s w m k x
  reads_alike m k x (by_name y u v c h) = record { alone = both_meant m k x (Var y) (Var (f y)) u v (name_follows y c h) }
  reads_alike m k x (by_constant y n u v r c) = record { alone = both_meant m k x (Var y) (literal n) u v (constant_follows y n r c) }
  reads_alike m k x (by_held y n u v r c h) = record { alone = both_meant m k x (Var y) (literal n) u v (held_follows y n r c h) }

  -- the same with subscripts
  pub elements_alike : (m k : Meanings) (x : List ℕ) → NamedAlike b f p q m k x → ElementAlike (names_in p scope) (names_in q other) s w m k x
  elements_alike m k x a = record {
    element = λ js.
        subst (λ (z : List ℕ). Follows itself (given (element_cell (names_in p scope) z js) >>> read_cell s) (given (element_cell (names_in q other) (name_meant k x) js) >>> read_cell w)) (sym (ap (name_or x) a.left))
        (subst (λ (z : List ℕ). Follows itself (given (element_cell (names_in p scope) a.name js) >>> read_cell s) (given (element_cell (names_in q other) z js) >>> read_cell w)) (sym (ap (name_or x) a.right))
        (element_follows a.name js a.bounds a.bound));
  }

  -- a name of the subroutine that is assigned
  pub stores_alike : (m k : Meanings) (x : List ℕ) → NamedAlike b f p q m k x → StoresAlike (named_cell f) (λ c. is_bound (bond_of b c)) (names_in p scope) (names_in q other) s w m k x
  stores_alike m k x a = record {
    alone =
        subst (λ (e : ExprTree). Follows (named_cell f) (target (names_in p scope) e s) (target (names_in q other) (meaning k x) w)) (sym a.left)
        (subst (λ (e : ExprTree). Follows (named_cell f) (target (names_in p scope) (Var a.name) s) (target (names_in q other) e w)) (sym a.right)
        (subst (λ (c : Cell). Follows (named_cell f) (given (Ok (cell_of scope a.name))) (given (Ok c))) (sym (same.cell a.name)) refl));
    alone_may =
        subst (λ (e : ExprTree). ComesTo (λ c. is_bound (bond_of b c) ≡ true) (target (names_in p scope) e s)) (sym a.left)
        (λ v e. subst (λ (c : Cell). is_bound (bond_of b c) ≡ true) (cell_one (cell_of scope a.name) v e) (cell_bound b scope a.name a.bound));
    element = λ js.
        subst (λ (z : List ℕ). Follows (named_cell f) (given (element_cell (names_in p scope) z js)) (given (element_cell (names_in q other) (name_meant k x) js))) (sym (ap (name_or x) a.left))
        (subst (λ (z : List ℕ). Follows (named_cell f) (given (element_cell (names_in p scope) a.name js)) (given (element_cell (names_in q other) z js))) (sym (ap (name_or x) a.right)) (found_follows a.name js a.bounds));
    element_may = λ js.
        subst (λ (z : List ℕ). ComesTo (λ c. is_bound (bond_of b c) ≡ true) (given (element_cell (names_in p scope) z js))) (sym (ap (name_or x) a.left))
        (found_bound a.name js (is_rank (length js) && is_within (p.bounds a.name) js) a.bound);
  }
    where
      found_bound : (y : List ℕ) (js : List ℤ) (t : Bool) → is_bound (b y) ≡ true → ComesTo (λ c. is_bound (bond_of b c) ≡ true) (given (if t then Ok (Element y js) else Err outside_bounds))
      found_bound y js true h = λ v e. subst (λ (c : Cell). is_bound (bond_of b c) ≡ true) (cell_one (Element y js) v e) (unheld_bound (b y) h)
      found_bound y js false h = λ v e. absurd cc
