-- A CALL and its block: where the CALL's subroutine ends, the block ends alike, however deep CALLs stand in one another.
use Rattle.std.proofs.Common.{◌≡◌, ℕ, ◌+◌, ℤ, List, [], ◌∷◌, Bool, true, false, Some, Result, Ok, Err, refl, sym, ap, ◌∙◌, subst, ◌⊎◌, inl, inr, if◌then◌else◌}
use Rattle.ped_base.specs.Lists.{is_same_text}
use Rattle.ped_base.proofs.NameEquality.{same_is}
use Rattle.ped_tree.specs.declared.conditions.Relation.TheVariants.{Eq}
use Rattle.ped_tree.specs.Constants.ConstantExpressions.{constant_value}
use Rattle.ped_tree.specs.NamesIn.{expr_names}
use Rattle.ped_tree.specs.Numbering.{statement_count, statements_count}
use Rattle.ped_tree.specs.Tree.{ExprTree, Int, Var, Rel, StmtTree, StmtTrees, Assign, no_stmts, more_stmts}
use Rattle.ped_calls.specs.ped_units.specs.Forms.{Called}
use Rattle.ped_calls.specs.ped_units.specs.Expanding.{Meanings, replaced, is_variable_name, behind_stmts, call_comment, block_of}
use Rattle.ped_steps.specs.ped_store.specs.Cells.{Cell, Scalar, Element, Private, In, Out}
use Rattle.ped_steps.specs.ped_store.specs.Stores.{Number, Store, put, is_storable, storable, out_of_range}
use Rattle.ped_steps.specs.ped_store.specs.Acts.{Act, Place}
use Rattle.ped_steps.specs.ped_eval.specs.Scopes.{Setting, Scope, cell_of, Names, names_in, place_of}
use Rattle.ped_steps.specs.ped_eval.specs.Evaluation.{Evaluated, onward, ◌>>>◌, given}
use Rattle.ped_steps.specs.ped_eval.specs.Values.{value, target}
use Rattle.ped_steps.specs.ped_eval.specs.Statements.{Stored, assigned}
use Rattle.ped_steps.specs.ped_eval.specs.Runs.{Ending, going, stopped, failed, Run, followed_by, then_run, run_assignment, run, run_all}
use Rattle.ped_steps.specs.ped_eval.specs.Turns.{after}
use Rattle.ped_steps.specs.ped_eval.proofs.Endings.{ending_then, assignment_goes, assignment_fails, if_goes}
use Rattle.ped_steps.specs.ped_laws.proofs.CoveringLaws.Comings.{came, ok_one, constant_comes}
use Rattle.ped_call_runs.specs.UnitRuns.{own, Instance}
use Rattle.ped_call_runs.proofs.EachNames.{Each, each_map}
use Rattle.ped_call_runs.proofs.EachElements.{EachElement, elements_map}
use Rattle.ped_call_runs.proofs.FollowingValues.{itself, SeesOwn, Follows, follows_ok, follows_err, ReadsAlike, ElementAlike, value_follows, stored_as, stored_follows, stored_may, cell_one, number_one}
use Rattle.ped_call_runs.proofs.FollowingStores.{Bond, held, free, Agrees, IsBelow, is_bound}
use Rattle.ped_call_runs.proofs.FollowingEndings.{EndsAlike, RunAlike, own_then, on_own, with_acts, same_other, assignment_alike}
use Rattle.ped_call_runs.proofs.FollowingNames.{named_cell, unheld, bond_of, cell_bound, same_cells, AreNamed, IsUnheld, MeansAlike, NamedAlike, reads_alike, elements_alike}

-- a number becomes known of a scalar
abbrev pub knowing : List ℕ → ℤ → (List ℕ → Bond) → List ℕ → Bond
knowing x n b y = if is_same_text y x then held n else b y

-- runs alike, where stores that are so are so in another way, too
pub weaker_ends : (R S : Store → Store → Type 0) (r : Run) (other : Ending) → ((s w : Store) → R s w → S s w) → RunAlike R r other → RunAlike S r other
weaker_ends R S r other h (inl e) = inl (go r.ending e)
  where
    go : (d : Ending) → EndsAlike R d other → EndsAlike S d other
    go (going s) e = (e.0, e.1, h s e.0 e.2)
    go (stopped s) e = (e.0, e.1, h s e.0 e.2)
    go (failed fault statement) e = e
weaker_ends R S r other h (inr own) = inr own

-- what follows a run that goes on
then_goes : (R : Store → Store → Type 0) (r : Run) (rest : Store → Run) (s : Store) (e : Ending) → r.ending ≡ going s → RunAlike R (rest s) e → RunAlike R (then_run r rest) e
then_goes R r rest s e h alike = subst (λ (z : Ending). RunAlike R (followed_by r.acts z rest) e) (sym h) (with_acts R r.acts (rest s) e alike)

module _ (f : List ℕ → List ℕ) where
  -- a number that is put into a scalar is known
  pub knowing_below : (b : List ℕ → Bond) (x : List ℕ) (n : ℤ) (s w : Store) → IsBelow (bond_of b) (named_cell f) s w → IsBelow (bond_of (knowing x n b)) (named_cell f) (put (Scalar x) (Number n) s) w
  knowing_below b x n s w below (Scalar y) = go (is_same_text x y) (is_same_text y x) refl refl
    where
      go : (t u : Bool) → is_same_text x y ≡ t → is_same_text y x ≡ u → Agrees (Scalar y) (if u then held n else b y) (if t then Number n else s (Scalar y)) (w (Scalar (f y)))
      go true true e d = refl
      go false false e d = below (Scalar y)
      go true false e d = let z : x ≡ y = same_is x y e in let l : is_same_text x x ≡ true = ap (is_same_text x) z ∙ e in let r : is_same_text x x ≡ false = ap (λ (a : List ℕ). is_same_text a x) z ∙ d in let c : true ≡ false = sym l ∙ r in absurd cc
      go false true e d = let z : y ≡ x = same_is y x d in let l : is_same_text x x ≡ true = ap (λ (a : List ℕ). is_same_text a x) (sym z) ∙ d in let r : is_same_text x x ≡ false = ap (is_same_text x) (sym z) ∙ e in let c : true ≡ false = sym l ∙ r in absurd cc
  knowing_below b x n s w below (Element y js) = go (is_same_text y x)
    where
      go : (t : Bool) → Agrees (Element y js) (unheld (if t then held n else b y)) (s (Element y js)) (w (Element (f y) js))
      go true = tt
      go false = below (Element y js)
  knowing_below b x n s w below (Private y path) = go (is_same_text y x)
    where
      go : (t : Bool) → Agrees (Private y path) (unheld (if t then held n else b y)) (s (Private y path)) (w (Private (f y) path))
      go true = tt
      go false = below (Private y path)
  knowing_below b x n s w below In = below In
  knowing_below b x n s w below Out = below Out

  -- what is known of a scalar of which nothing was known before may be forgotten
  pub forgetting_below : (b : List ℕ → Bond) (x : List ℕ) (n : ℤ) (s w : Store) → b x ≡ free → IsBelow (bond_of (knowing x n b)) (named_cell f) s w → IsBelow (bond_of b) (named_cell f) s w
  forgetting_below b x n s w nothing below (Scalar y) = go (is_same_text y x) refl (below (Scalar y))
    where
      go : (t : Bool) → is_same_text y x ≡ t → Agrees (Scalar y) (if t then held n else b y) (s (Scalar y)) (w (Scalar (f y))) → Agrees (Scalar y) (b y) (s (Scalar y)) (w (Scalar (f y)))
      go true e a = subst (λ (z : Bond). Agrees (Scalar y) z (s (Scalar y)) (w (Scalar (f y)))) (sym (ap b (same_is y x e) ∙ nothing)) tt
      go false e a = a
  forgetting_below b x n s w nothing below (Element y js) = go (is_same_text y x) refl (below (Element y js))
    where
      go : (t : Bool) → is_same_text y x ≡ t → Agrees (Element y js) (unheld (if t then held n else b y)) (s (Element y js)) (w (Element (f y) js)) → Agrees (Element y js) (unheld (b y)) (s (Element y js)) (w (Element (f y) js))
      go true e a = subst (λ (z : Bond). Agrees (Element y js) (unheld z) (s (Element y js)) (w (Element (f y) js))) (sym (ap b (same_is y x e) ∙ nothing)) tt
      go false e a = a
  forgetting_below b x n s w nothing below (Private y path) = go (is_same_text y x) refl (below (Private y path))
    where
      go : (t : Bool) → is_same_text y x ≡ t → Agrees (Private y path) (unheld (if t then held n else b y)) (s (Private y path)) (w (Private (f y) path)) → Agrees (Private y path) (unheld (b y)) (s (Private y path)) (w (Private (f y) path))
      go true e a = subst (λ (z : Bond). Agrees (Private y path) (unheld z) (s (Private y path)) (w (Private (f y) path))) (sym (ap b (same_is y x e) ∙ nothing)) tt
      go false e a = a
  forgetting_below b x n s w nothing below In = below In
  forgetting_below b x n s w nothing below Out = below Out

-- a number that is known of a name that could not be written leaves the place as it is
pub knowing_unheld : (b : List ℕ → Bond) (x : List ℕ) (n : ℤ) (scope : Scope) → is_bound (b x) ≡ false → IsUnheld b scope → IsUnheld (knowing x n b) scope
knowing_unheld b x n scope unbound outer = record { index = λ y h. outer.index y (before y h); cell = λ y h. outer.cell y (before y h) }
  where
    before : (y : List ℕ) → is_bound (knowing x n b y) ≡ false → is_bound (b y) ≡ false
    before y = go (is_same_text y x) refl
      where
        go : (t : Bool) → is_same_text y x ≡ t → is_bound (if t then held n else b y) ≡ false → is_bound (b y) ≡ false
        go true e h = ap (λ (a : List ℕ). is_bound (b a)) (same_is y x e) ∙ unbound
        go false e h = h

-- an argument with a value that is known: nothing is assigned for it in the block
pub record IsKnown (b : List ℕ → Bond) (f : List ℕ → List ℕ) (q : Setting) (k : Meanings) (i : Instance) (n : ℕ) (x : List ℕ) (a : ExprTree) (v : ℤ) : Type 0 where
  pub no_name : is_variable_name i.constants a ≡ false
  pub means : Each (MeansAlike b f i.setting q i.stands k) (expr_names a)
  pub elements : EachElement (NamedAlike b f i.setting q i.stands k) a
  pub constant : constant_value q.constants (replaced k a) ≡ Some v
  pub storable : is_storable v ≡ true
  pub nothing_known : b (own n x) ≡ free

-- an argument with number m in the unit that is assigned at the front of the block, under number j
pub record IsAssigned (b : List ℕ → Bond) (f : List ℕ → List ℕ) (q : Setting) (k : Meanings) (i : Instance) (n : ℕ) (x : List ℕ) (a : ExprTree) (m j : ℕ) (made rest : List StmtTree) : Type 0 where
  pub no_name : is_variable_name i.constants a ≡ false
  pub number : q.number j ≡ i.setting.number m
  pub means : Each (MeansAlike b f i.setting q i.stands k) (expr_names a)
  pub elements : EachElement (NamedAlike b f i.setting q i.stands k) a
  pub bound : is_bound (b (own n x)) ≡ true
  pub first : made ≡ Assign (Var (f (own n x))) (replaced k a) ∷ rest

module _ (f : List ℕ → List ℕ) (q : Setting) (k : Meanings) (i : Instance) (n : ℕ) where
  -- the arguments of a CALL, the first with number m, and the assignments in its block, the first under number j; behind them more is known
  abbrev pub ArgumentsAlike : ℕ → ℕ → (List ℕ → Bond) → List (List ℕ) → List ExprTree → List StmtTree → (List ℕ → Bond) → Type 0
  ArgumentsAlike m j b [] arguments made after = (made ≡ []) × (after ≡ b)
  ArgumentsAlike m j b (x ∷ xs) [] made after = (made ≡ []) × (after ≡ b)
  ArgumentsAlike m j b (x ∷ xs) (a ∷ rest) made after =
      ((is_variable_name i.constants a ≡ true) × ArgumentsAlike (m + 1) j b xs rest made after)
      ⊎ (((v : ℤ) × IsKnown b f q k i n x a v × ArgumentsAlike (m + 1) j (knowing (own n x) v b) xs rest made after)
      ⊎ ((others : List StmtTree) × IsAssigned b f q k i n x a m j made others × ArgumentsAlike (m + 1) (j + 1) b xs rest others after))

-- the block of a CALL ends as its statements do
pub block_ends : (q : Setting) (c : Called) (made : List StmtTree) (body : StmtTrees) (j : ℕ) (other : Scope) (w : Store)
    → (run q (block_of c made body) j other w).ending ≡ (run_all q (behind_stmts made body) (j + 1 + statement_count (call_comment c)) other w).ending
block_ends q c made body j other w =
    if_goes (names_in q other) (place_of q j other) (Rel Eq (Int 0) (Int 0)) (run_all q (more_stmts (call_comment c) (behind_stmts made body)) (j + 1) other) (run_all q no_stmts (j + 1 + statements_count (more_stmts (call_comment c) (behind_stmts made body))) other) w true refl

-- a number that can be stored is the number
storable_is : (u n : ℤ) → storable u ≡ Ok n → n ≡ u
storable_is u n = go (is_storable u)
  where
    go : (t : Bool) → (if t then Ok u else Err out_of_range) ≡ Ok n → n ≡ u
    go true e = sym (ok_one u n e)
    go false e = absurd cc

-- what is stored in a scalar, where something is
stored_is : (g : Names) (y : List ℕ) (right : ExprTree) (s : Store) (r : Stored) → (assigned g (Var y) right s).result ≡ Ok r → (u : ℤ) × ((value g right s).result ≡ Ok u) × (r ≡ record { cell = g.cell y; number = u })
stored_is g y right s r e =
    let one = came (value g right s).seen (value g right s).result (λ v. target g (Var y) s >>> λ c. given (storable v) >>> λ n. given (Ok (record { cell = c; number = n }))) r e in
    let two = came (given (storable one.0)).seen (storable one.0) (λ n. given (Ok (record { cell = g.cell y; number = n }))) r one.2 in
    (one.0, one.1, sym (ok_one (record { cell = g.cell y; number = two.0 }) r two.2) ∙ ap (λ (z : ℤ). record { cell = g.cell y; number = z }) (storable_is one.0 two.0 two.1))

-- an ending that is no STOP
abbrev pub IsNoStop : Ending → Type 0
IsNoStop (going s) = Unit {0}
IsNoStop (stopped s) = ⊥
IsNoStop (failed fault statement) = Unit {0}

pub assignment_goes_on : (g : Names) (at : Place) (left right : ExprTree) (s : Store) → IsNoStop (run_assignment g at left right s).ending
assignment_goes_on g at left right s = go (assigned g left right s).result refl
  where
    go : (r : Result Stored ℕ) → (assigned g left right s).result ≡ r → IsNoStop (run_assignment g at left right s).ending
    go (Ok x) e = subst IsNoStop (sym (assignment_goes g at left right s x e)) tt
    go (Err n) e = subst IsNoStop (sym (assignment_fails g at left right s n e)) tt

-- what is stored in a scalar of a value that it can hold
value_stored : (g : Names) (y : List ℕ) (right : ExprTree) (s : Store) (v : ℤ) → (value g right s).result ≡ Ok v → is_storable v ≡ true → (assigned g (Var y) right s).result ≡ Ok (record { cell = g.cell y; number = v })
value_stored g y right s v e h =
    (λ i. (onward (value g right s).seen (e i) (λ u. target g (Var y) s >>> λ c. given (storable u) >>> λ n. given (Ok (record { cell = c; number = n })))).result)
    ∙ (λ i. (onward [] (if h i then Ok v else Err out_of_range) (λ n. given (Ok (record { cell = g.cell y; number = n })))).result)

-- what follows an ending that is no STOP
followed_no_stop : (R S : Store → Store → Type 0) (acts : List Act) (e other : Ending) (f : Store → Run) (g : Store → Ending) → EndsAlike R e other → IsNoStop e → ((s w : Store) → R s w → RunAlike S (f s) (g w)) → RunAlike S (followed_by acts e f) (after other g)
followed_no_stop R S acts (going s) other f g h l more =
    subst (λ (z : Ending). RunAlike S (followed_by acts (going s) f) (after z g)) (sym h.1) (with_acts S acts (f s) (g h.0) (more s h.0 h.2))
followed_no_stop R S acts (stopped s) other f g h l more = absurd l
followed_no_stop R S acts (failed fault statement) other f g h l more = inl (subst (λ (z : Ending). EndsAlike S (failed fault statement) (after z g)) (sym h) refl)

pub then_no_stop : (R S : Store → Store → Type 0) (r t : Run) (f g : Store → Run) → RunAlike R r t.ending → IsNoStop r.ending → ((s w : Store) → R s w → RunAlike S (f s) (g w).ending) → RunAlike S (then_run r f) (then_run t g).ending
then_no_stop R S r t f g (inl h) l more =
    same_other S (then_run r f) (then_run t g).ending (after t.ending (λ s. (g s).ending)) (ending_then t g)
    (followed_no_stop R S r.acts r.ending t.ending f (λ s. (g s).ending) h l more)
then_no_stop R S r t f g (inr own) l more = inr (own_then r f own)

module _ (f : List ℕ → List ℕ) (twice : (x : List ℕ) → f (f x) ≡ x) (q : Setting) (k : Meanings) (i : Instance) (n : ℕ) (scope other : Scope) (same : AreNamed f scope other) where
  abbrev p : Setting
  p = i.setting

  abbrev Below : (List ℕ → Bond) → Store → Store → Type 0
  Below b s w = IsBelow (bond_of b) (named_cell f) s w

  -- the value of an argument on both sides
  argument_follows : (b : List ℕ → Bond) (a : ExprTree) → Each (MeansAlike b f p q i.stands k) (expr_names a) → EachElement (NamedAlike b f p q i.stands k) a → IsUnheld b scope → (s w : Store) → Below b s w
      → Follows itself (value (names_in p scope) (replaced i.stands a) s) (value (names_in q other) (replaced k a) w)
  argument_follows b a means elements unheld s w below =
      value_follows (names_in p scope) (names_in q other) s w i.stands k a
      (each_map (MeansAlike b f p q i.stands k) (ReadsAlike (names_in p scope) (names_in q other) s w i.stands k) (expr_names a) (λ x l. reads_alike b f twice p q scope other same unheld s w below i.stands k x l) means)
      (elements_map (NamedAlike b f p q i.stands k) (ElementAlike (names_in p scope) (names_in q other) s w i.stands k) (λ x l. elements_alike b f twice p q scope other same unheld s w below i.stands k x l) a elements)

  -- what an argument stores on both sides
  argument_stored : (b : List ℕ → Bond) (x : List ℕ) (a : ExprTree) → Each (MeansAlike b f p q i.stands k) (expr_names a) → EachElement (NamedAlike b f p q i.stands k) a → IsUnheld b scope → (s w : Store) → Below b s w
      → Follows (stored_as (named_cell f)) (assigned (names_in p scope) (Var (own n x)) (replaced i.stands a) s) (assigned (names_in q other) (Var (f (own n x))) (replaced k a) w)
  argument_stored b x a means elements unheld s w below =
      stored_follows (named_cell f) (names_in p scope) (names_in q other) (Var (own n x)) (replaced i.stands a) (Var (f (own n x))) (replaced k a) s w (argument_follows b a means elements unheld s w below)
      (subst (λ (c : Cell). Follows (named_cell f) (given (Ok (cell_of scope (own n x)))) (given (Ok c))) (sym (same.cell (own n x))) refl)

  -- an argument with a value that is known: its number is known behind it
  pub known_alike : (b : List ℕ → Bond) (x : List ℕ) (a : ExprTree) (v : ℤ) → IsKnown b f q k i n x a v → IsUnheld b scope → (R : Store → Store → Type 0) (rest : Store → Run) (e : Ending) (at : Place) (s w : Store) → Below b s w
      → (Below (knowing (own n x) v b) (put (Scalar (own n x)) (Number v) s) w → RunAlike R (rest (put (Scalar (own n x)) (Number v) s)) e)
      → RunAlike R (then_run (run_assignment (names_in p scope) at (Var (own n x)) (replaced i.stands a) s) rest) e
  known_alike b x a v known unheld R rest e at s w below more = go here.result refl
    where
      here : Evaluated Stored
      here = assigned (names_in p scope) (Var (own n x)) (replaced i.stands a) s

      yonder : Evaluated Stored
      yonder = assigned (names_in q other) (Var (f (own n x))) (replaced k a) w

      first : Run
      first = run_assignment (names_in p scope) at (Var (own n x)) (replaced i.stands a) s

      constant : (value (names_in q other) (replaced k a) w).result ≡ Ok v
      constant = constant_comes (names_in q other) w (replaced k a) v known.constant

      by_fault : (m : ℕ) → here.result ≡ Err m → SeesOwn m here.seen ⊎ (yonder.result ≡ Err m) → RunAlike R (then_run first rest) e
      by_fault m h (inl own) = inr (own_then first rest (on_own at here _ m h own))
      by_fault m h (inr d) = let z = sym (value_stored (names_in q other) (f (own n x)) (replaced k a) w v constant known.storable) ∙ d in absurd cc

      go : (r : Result Stored ℕ) → here.result ≡ r → RunAlike R (then_run first rest) e
      go (Ok r) h =
          let t = stored_is (names_in p scope) (own n x) (replaced i.stands a) s r h in
          let comes : (value (names_in q other) (replaced k a) w).result ≡ Ok t.0 =
          follows_ok itself (value (names_in p scope) (replaced i.stands a) s) (value (names_in q other) (replaced k a) w) (argument_follows b a known.means known.elements unheld s w below) t.0 t.1 in
          let number : t.0 ≡ v = number_one t.0 v (sym comes ∙ constant) in
          let cell : cell_of scope (own n x) ≡ Scalar (own n x) = unheld.cell (own n x) (ap is_bound known.nothing_known) in
          let stored : r ≡ record { cell = Scalar (own n x); number = v } = t.2 ∙ (λ j. record { cell = cell j; number = number j }) in
          then_goes R first rest (put (Scalar (own n x)) (Number v) s) e
          (assignment_goes (names_in p scope) at (Var (own n x)) (replaced i.stands a) s r h ∙ ap (λ (z : Stored). going (put z.cell (Number z.number) s)) stored)
          (more (knowing_below f b (own n x) v s w below))
      go (Err m) h = by_fault m h (follows_err (stored_as (named_cell f)) here yonder (argument_stored b x a known.means known.elements unheld s w below) m h)

  -- an argument that is assigned on both sides
  pub argument_assigned : (b : List ℕ → Bond) (x : List ℕ) (a : ExprTree) (m j : ℕ) (made rest : List StmtTree) → IsAssigned b f q k i n x a m j made rest → IsUnheld b scope → (s w : Store) → Below b s w
      → RunAlike (Below b) (run_assignment (names_in p scope) (place_of p m scope) (Var (own n x)) (replaced i.stands a) s) (run_assignment (names_in q other) (place_of q j other) (Var (f (own n x))) (replaced k a) w).ending
  argument_assigned b x a m j made rest is unheld s w below =
      assignment_alike (bond_of b) (named_cell f) (same_cells f twice) (names_in p scope) (names_in q other) (place_of p m scope) (place_of q j other) (Var (own n x)) (replaced i.stands a) (Var (f (own n x))) (replaced k a) s w is.number below
      (argument_stored b x a is.means is.elements unheld s w below)
      (stored_may (λ c. is_bound (bond_of b c)) (names_in p scope) (Var (own n x)) (replaced i.stands a) s
      (λ v e. subst (λ (c : Cell). is_bound (bond_of b c) ≡ true) (cell_one (cell_of scope (own n x)) v e) (cell_bound b scope (own n x) is.bound)))
