-- What is known of the statements of a unit that was read and whose CALLs are right: which names they read and write, their increments, and where their CALLs stand.
use Rattle.std.proofs.Common.{◌≡◌, ℕ, ◌+◌, ℤ, List, [], ◌∷◌, ◌++◌, map, length, drop, Bool, true, false, Option, Some, None, refl, sym, ap, ◌∙◌, subst, ◌⊎◌, inl, inr}
use Rattle.std.specs.List.{flat_map, list_any}
use Rattle.std.proofs.lemmas.Bool.{or_parts, both_ways}
use Rattle.std.proofs.lemmas.List.Folds.{list_any-append}
use Rattle.ped_base.specs.Lists.{is_among}
use Rattle.ped_tree.specs.Accesses.{listed}
use Rattle.ped_tree.specs.Constants.ConstantExpressions.{constant_value}
use Rattle.ped_tree.specs.Grammar.ProgramRefusals.{meets}
use Rattle.ped_tree.specs.NamesIn.{expr_names, exprs_names, cond_names, item_names, head_names, stmt_names, stmts_names, loop_variables, all_loop_variables, private_names_in, all_private_names_in}
use Rattle.ped_tree.specs.Tree.{ExprTree, ExprTrees, Int, Var, Element, Neg, Add, Sub, Mul, Div, Pow, Call, no_exprs, more_exprs, Value, Head, StmtTree, StmtTrees, Assign, If, Do, Print, Read, Stop, Comment, no_stmts, more_stmts}
use Rattle.ped_steps.specs.ped_symbols.specs.NameRefusals.{next_line}
use Rattle.ped_steps.specs.ped_symbols.specs.Sites.{Site, private_names, private_site, stmt_sites, stmts_sites, decl_sites, program_sites}
use Rattle.ped_steps.specs.ped_symbols.specs.Values.{within, fixed_value, is_bad_step, site_fails}
use Rattle.ped_steps.specs.ped_symbols.proofs.RightUseLaws.Occurring.{among_first}
use Rattle.ped_calls.specs.ped_units.specs.Forms.{Called}
use Rattle.ped_calls.specs.ped_units.specs.Units.{ProgramUnit, ProgramUnits, all_units, call_of, instead_of, with_calls, all_with_calls}
use Rattle.ped_calls.specs.ped_units.specs.Refusals.{dimensioned, using_arguments}
use Rattle.ped_calls.specs.ped_units.specs.Linking.{IsIn, Placed, placed, calls_in, all_calls_in, calls_of, assigned_left, assigned_in, all_assigned_in, assigns, IsAssigned, Arguments, CallPlace, Sited, sited, IsLinked}
use Rattle.ped_calls.specs.ped_units.specs.Expanding.{naming_arguments, body_names, constants_of}
use Rattle.ped_call_runs.proofs.EachNames.{Each, each_front, each_behind, each_of, of_each, each_joined, each_two}
use Rattle.ped_call_runs.proofs.EachCalls.{AllCalls, EachCall, OfCall}
use Rattle.ped_call_runs.proofs.ConstantValues.{HasSome}
use Rattle.ped_call_runs.proofs.UnitNames.{IsPlain, HasPlainNames}

-- the name of a left side, and those of items of a READ
pub each_left : (P : List ℕ → Type 0) (e : ExprTree) → Each P (expr_names e) → Each P (assigned_left e)
each_left P (Int n) h = tt
each_left P (Var x) h = h
each_left P (Element x es) h = (h.0, tt)
each_left P (Neg a) h = tt
each_left P (Add a b) h = tt
each_left P (Sub a b) h = tt
each_left P (Mul a b) h = tt
each_left P (Div a b) h = tt
each_left P (Pow a b) h = tt
each_left P (Call f es) h = tt

pub each_item : (P : List ℕ → Type 0) (items : List ExprTree) → Each P (flat_map expr_names items) → Each P (flat_map assigned_left items)
each_item P [] h = tt
each_item P (e ∷ rest) h =
    each_joined P (assigned_left e) (flat_map assigned_left rest) (each_left P e (each_front P (expr_names e) (flat_map expr_names rest) h)) (each_item P rest (each_behind P (expr_names e) (flat_map expr_names rest) h))

-- parts of lists
module _ {X : Type 0} (x : X) where
  pub in_front : (xs ys : List X) → IsIn x xs → IsIn x (xs ++ ys)
  in_front [] ys h = absurd h
  in_front (z ∷ zs) ys (inl e) = inl e
  in_front (z ∷ zs) ys (inr h) = inr (in_front zs ys h)

  pub in_behind : (xs ys : List X) → IsIn x ys → IsIn x (xs ++ ys)
  in_behind [] ys h = h
  in_behind (z ∷ zs) ys h = inr (in_behind zs ys h)

  pub split : (xs ys : List X) → IsIn x (xs ++ ys) → IsIn x xs ⊎ IsIn x ys
  split [] ys h = inr h
  split (z ∷ zs) ys (inl e) = inl (inl e)
  split (z ∷ zs) ys (inr h) = go (split zs ys h)
    where
      go : IsIn x zs ⊎ IsIn x ys → IsIn x (z ∷ zs) ⊎ IsIn x ys
      go (inl a) = inl (inr a)
      go (inr b) = inr b

-- the variables of loops are assigned, and stand in the statements
module _ (P : List ℕ → Type 0) where
  mutual
    loop_assigned : (s : StmtTree) → Each P (assigned_in s) → Each P (loop_variables s)
    loop_assigned (Assign l r) h = tt
    loop_assigned (If c x y) h =
        each_joined P (all_loop_variables x) (all_loop_variables y) (loops_assigned x (each_front P (all_assigned_in x) (all_assigned_in y) h)) (loops_assigned y (each_behind P (all_assigned_in x) (all_assigned_in y) h))
    loop_assigned (Do head body) h = (h.0, loops_assigned body h.1)
    loop_assigned (Print items) h = tt
    loop_assigned (Read items) h = tt
    loop_assigned Stop h = tt
    loop_assigned (Comment text) h = tt

    pub loops_assigned : (ss : StmtTrees) → Each P (all_assigned_in ss) → Each P (all_loop_variables ss)
    loops_assigned no_stmts h = tt
    loops_assigned (more_stmts s rest) h =
        each_joined P (loop_variables s) (all_loop_variables rest) (loop_assigned s (each_front P (assigned_in s) (all_assigned_in rest) h)) (loops_assigned rest (each_behind P (assigned_in s) (all_assigned_in rest) h))

  -- the variable in the names of a head, and the names behind it
  pub head_variable : (h : Head) → Each P (head_names h) → P h.variable
  head_variable h k = (each_behind P h.rejected (h.variable ∷ (expr_names h.first ++ expr_names h.last ++ expr_names h.step ++ h.private)) k).0

  pub head_bounds : (h : Head) → Each P (head_names h) → Each P (expr_names h.first ++ expr_names h.last ++ expr_names h.step ++ h.private)
  head_bounds h k = (each_behind P h.rejected (h.variable ∷ (expr_names h.first ++ expr_names h.last ++ expr_names h.step ++ h.private)) k).1

  mutual
    loop_named : (s : StmtTree) → Each P (stmt_names s) → Each P (loop_variables s)
    loop_named (Assign l r) h = tt
    loop_named (If c x y) h =
        each_joined P (all_loop_variables x) (all_loop_variables y)
        (loops_named x (each_behind P (cond_names c) (stmts_names x) (each_front P (cond_names c ++ stmts_names x) (stmts_names y) h)))
        (loops_named y (each_behind P (cond_names c ++ stmts_names x) (stmts_names y) h))
    loop_named (Do head body) h = (head_variable head (each_front P (head_names head) (stmts_names body) h), loops_named body (each_behind P (head_names head) (stmts_names body) h))
    loop_named (Print items) h = tt
    loop_named (Read items) h = tt
    loop_named Stop h = tt
    loop_named (Comment text) h = tt

    pub loops_named : (ss : StmtTrees) → Each P (stmts_names ss) → Each P (all_loop_variables ss)
    loops_named no_stmts h = tt
    loops_named (more_stmts s rest) h =
        each_joined P (loop_variables s) (all_loop_variables rest) (loop_named s (each_front P (stmt_names s) (stmts_names rest) h)) (loops_named rest (each_behind P (stmt_names s) (stmts_names rest) h))

-- a statement for each CALL keeps the variables of loops, where it is no loop
module _ (f : Called → StmtTree) (none : (c : Called) → loop_variables (f c) ≡ []) where
  mutual
    loop_kept : (s : StmtTree) → loop_variables (with_calls f s) ≡ loop_variables s
    loop_kept (Assign l r) = go (call_of l r)
      where
        go : (o : Option Called) → loop_variables (instead_of f (Assign l r) o) ≡ []
        go None = refl
        go (Some c) = none c
    loop_kept (If c x y) = λ i. loops_kept x i ++ loops_kept y i
    loop_kept (Do head body) = λ i. head.variable ∷ loops_kept body i
    loop_kept (Print items) = refl
    loop_kept (Read items) = refl
    loop_kept Stop = refl
    loop_kept (Comment text) = refl

    pub loops_kept : (ss : StmtTrees) → all_loop_variables (all_with_calls f ss) ≡ all_loop_variables ss
    loops_kept no_stmts = refl
    loops_kept (more_stmts s rest) = λ i. loop_kept s i ++ loops_kept rest i

module _ (us : ProgramUnits) (u : ProgramUnit) where
  -- a name of the unit's statements
  abbrev pub Reads : List ℕ → Type 0
  Reads x = is_among x (body_names u) ≡ true

  -- a name that may be written: no constant; a dummy argument counts as assigned
  pub record MayBeWritten (x : List ℕ) : Type 0 where
    pub plain : IsPlain u x
    pub assigned : is_among x u.formals ≡ true → IsAssigned us u x

  pub record Writes (x : List ℕ) : Type 0 where
    pub reads : Reads x
    pub may : MayBeWritten x

  -- a CALL of the unit
  pub record CallSuits (c : Called) : Type 0 where
    pub place : Placed
    pub is_call : IsIn place (calls_of u)
    pub is : place.called ≡ c
    pub arguments : Each Reads (exprs_names c.arguments)

  pub record AssignSuits (left right : ExprTree) : Type 0 where
    pub in_left : Each Reads (expr_names left)
    pub in_right : Each Reads (expr_names right)
    pub assigned : Each Writes (assigned_left left)

  abbrev pub OrCallSuits : ExprTree → ExprTree → Option Called → Type 0
  OrCallSuits left right None = AssignSuits left right
  OrCallSuits left right (Some c) = CallSuits c

  pub record HeadSuits (h : Head) (body : StmtTrees) : Type 0 where
    pub first : Each Reads (expr_names h.first)
    pub last : Each Reads (expr_names h.last)
    pub step : Each Reads (expr_names h.step)
    pub value : HasSome (constant_value (constants_of u) h.step)
    pub variable : Writes h.variable
    pub private : Each Writes h.private
    pub no_call : h.parallel ≡ true → AllCalls (λ c. ⊥) body
    pub inner : Each Writes (all_loop_variables body)

  abbrev mutual
    pub Suits : StmtTree → Type 0
    Suits (Assign left right) = OrCallSuits left right (call_of left right)
    Suits (If condition then_part else_part) = Each Reads (cond_names condition) × AllSuit then_part × AllSuit else_part
    Suits (Do h body) = HeadSuits h body × AllSuit body
    Suits (Print items) = Each Reads (flat_map item_names items)
    Suits (Read items) = Each Reads (flat_map expr_names items) × Each Writes (flat_map assigned_left items)
    Suits Stop = Unit {0}
    Suits (Comment text) = Unit {0}

    pub AllSuit : StmtTrees → Type 0
    AllSuit no_stmts = Unit {0}
    AllSuit (more_stmts s rest) = Suits s × AllSuit rest

  listed_names : (es : ExprTrees) → flat_map item_names (map Value (listed es)) ≡ exprs_names es
  listed_names no_exprs = refl
  listed_names (more_exprs e rest) = ap (λ (xs : List (List ℕ)). expr_names e ++ xs) (listed_names rest)

  either_round : (h : Head) (p : Placed) (xs ys : List Placed) → IsIn p xs ⊎ IsIn p ys → (IsIn p xs → IsIn h p.loops) → (IsIn p ys → IsIn h p.loops) → IsIn h p.loops
  either_round h p xs ys (inl a) f g = f a
  either_round h p xs ys (inr b) f g = g b

  -- a loop round statements is round their CALLs
  mutual
    loop_round : (h : Head) (loops : List Head) (lines : List ℕ) (s : StmtTree) → IsIn h loops → (p : Placed) → IsIn p (calls_in loops lines s) → IsIn h p.loops
    loop_round h loops lines (Assign l r) k p is = go (call_of l r) is
      where
        go : (o : Option Called) → IsIn p (placed loops lines o) → IsIn h p.loops
        go None is = absurd is
        go (Some c) (inl e) = subst (λ (q : Placed). IsIn h q.loops) (sym e) k
        go (Some c) (inr is) = absurd is
    loop_round h loops lines (If c x y) k p is =
        let front = all_calls_in loops (drop 1 lines) x in
        let behind = all_calls_in loops (drop (1 + length (stmts_sites x)) lines) y in
        either_round h p front behind (split p front behind is) (loops_round h loops (drop 1 lines) x k p) (loops_round h loops (drop (1 + length (stmts_sites x)) lines) y k p)
    loop_round h loops lines (Do head body) k p is = loops_round h (loops ++ head ∷ []) (drop (1 + length (private_site head.private)) lines) body (in_front h loops (head ∷ []) k) p is
    loop_round h loops lines (Print items) k p is = absurd is
    loop_round h loops lines (Read items) k p is = absurd is
    loop_round h loops lines Stop k p is = absurd is
    loop_round h loops lines (Comment text) k p is = absurd is

    loops_round : (h : Head) (loops : List Head) (lines : List ℕ) (ss : StmtTrees) → IsIn h loops → (p : Placed) → IsIn p (all_calls_in loops lines ss) → IsIn h p.loops
    loops_round h loops lines no_stmts k p is = absurd is
    loops_round h loops lines (more_stmts s rest) k p is =
        let others = drop (length (stmt_sites s)) lines in
        either_round h p (calls_in loops lines s) (all_calls_in loops others rest) (split p (calls_in loops lines s) (all_calls_in loops others rest) is) (loop_round h loops lines s k p) (loops_round h loops others rest k p)

  -- where no CALL is found, none stands
  mutual
    none_in : (loops : List Head) (lines : List ℕ) (s : StmtTree) → ((p : Placed) → IsIn p (calls_in loops lines s) → ⊥) → EachCall (λ c. ⊥) s
    none_in loops lines (Assign l r) h = go (call_of l r) h
      where
        go : (o : Option Called) → ((p : Placed) → IsIn p (placed loops lines o) → ⊥) → OfCall (λ c. ⊥) o
        go None k = tt
        go (Some c) k = k (record { line = next_line lines; called = c; loops = loops }) (inl refl)
    none_in loops lines (If c x y) h =
        let front = all_calls_in loops (drop 1 lines) x in
        let behind = all_calls_in loops (drop (1 + length (stmts_sites x)) lines) y in
        (none_in_all loops (drop 1 lines) x (λ p is. h p (in_front p front behind is)), none_in_all loops (drop (1 + length (stmts_sites x)) lines) y (λ p is. h p (in_behind p front behind is)))
    none_in loops lines (Do head body) h = none_in_all (loops ++ head ∷ []) (drop (1 + length (private_site head.private)) lines) body h
    none_in loops lines (Print items) h = tt
    none_in loops lines (Read items) h = tt
    none_in loops lines Stop h = tt
    none_in loops lines (Comment text) h = tt

    none_in_all : (loops : List Head) (lines : List ℕ) (ss : StmtTrees) → ((p : Placed) → IsIn p (all_calls_in loops lines ss) → ⊥) → AllCalls (λ c. ⊥) ss
    none_in_all loops lines no_stmts h = tt
    none_in_all loops lines (more_stmts s rest) h =
        let front = calls_in loops lines s in
        let behind = all_calls_in loops (drop (length (stmt_sites s)) lines) rest in
        (none_in loops lines s (λ p is. h p (in_front p front behind is)), none_in_all loops (drop (length (stmt_sites s)) lines) rest (λ p is. h p (in_behind p front behind is)))

  -- names that no PRIVATE statement of the unit has
  module _ (Q : List ℕ → Type 0) (each : (names : List (List ℕ)) → IsIn (private_names names) (program_sites u.tree) → Each Q names) where
    private_in : (xs : List (List ℕ)) → ((s : Site) → IsIn s (private_site xs) → IsIn s (program_sites u.tree)) → Each Q xs
    private_in [] h = tt
    private_in (x ∷ xs) h = each (x ∷ xs) (h (private_names (x ∷ xs)) (inl refl))

    mutual
      privates_in : (s : StmtTree) → ((z : Site) → IsIn z (stmt_sites s) → IsIn z (program_sites u.tree)) → Each Q (private_names_in s)
      privates_in (Assign l r) h = tt
      privates_in (If c x y) h =
          each_joined Q (all_private_names_in x) (all_private_names_in y)
          (all_privates_in x (λ z is. h z (inr (in_front z (stmts_sites x) (stmts_sites y) is)))) (all_privates_in y (λ z is. h z (inr (in_behind z (stmts_sites x) (stmts_sites y) is))))
      privates_in (Do head body) h =
          each_joined Q head.private (all_private_names_in body)
          (private_in head.private (λ z is. h z (inr (in_front z (private_site head.private) (stmts_sites body) is)))) (all_privates_in body (λ z is. h z (inr (in_behind z (private_site head.private) (stmts_sites body) is))))
      privates_in (Print items) h = tt
      privates_in (Read items) h = tt
      privates_in Stop h = tt
      privates_in (Comment text) h = tt

      pub all_privates_in : (ss : StmtTrees) → ((z : Site) → IsIn z (stmts_sites ss) → IsIn z (program_sites u.tree)) → Each Q (all_private_names_in ss)
      all_privates_in no_stmts h = tt
      all_privates_in (more_stmts s rest) h =
          each_joined Q (private_names_in s) (all_private_names_in rest)
          (privates_in s (λ z is. h z (in_front z (stmt_sites s) (stmts_sites rest) is))) (all_privates_in rest (λ z is. h z (in_behind z (stmt_sites s) (stmts_sites rest) is)))

  -- from what is known of all CALLs, names and increments of the unit
  module _ (parallel : (p : Placed) → IsIn p (calls_of u) → (h : Head) → IsIn h p.loops → h.parallel ≡ true → ⊥) (f : Called → StmtTree) where
    abbrev Fine : List Site → Type 0
    Fine sites = list_any (site_fails (constants_of u)) sites ≡ false

    fine_both : (xs ys : List Site) → Fine (xs ++ ys) → Fine xs × Fine ys
    fine_both xs ys h = or_parts (list_any (site_fails (constants_of u)) xs) (list_any (site_fails (constants_of u)) ys) (sym (list_any-append (site_fails (constants_of u)) xs ys) ∙ h)

    step_value : (e : ExprTree) → is_bad_step (fixed_value (constants_of u) e) ≡ false → HasSome (constant_value (constants_of u) e)
    step_value e = go (constant_value (constants_of u) e)
      where
        go : (o : Option ℤ) → is_bad_step (within o) ≡ false → HasSome o
        go None h = absurd cc
        go (Some n) h = (n, refl)

    writes : (xs : List (List ℕ)) → Each Reads xs → Each MayBeWritten xs → Each Writes xs
    writes xs h k = each_two Reads MayBeWritten Writes xs (λ x a b. record { reads = a; may = b }) h k

    -- what is known of a statement
    record KnownOf (all written copied : List (List ℕ)) (sites : List Site) (found : List Placed) : Type 0 where
      names : Each Reads all
      assigned : Each MayBeWritten written
      private : Each MayBeWritten copied
      fine : Fine sites
      calls : (p : Placed) → IsIn p found → IsIn p (calls_of u)

    abbrev Known : List Head → List ℕ → StmtTree → Type 0
    Known loops lines s = KnownOf (stmt_names (with_calls naming_arguments s)) (assigned_in s) (private_names_in s) (stmt_sites (with_calls f s)) (calls_in loops lines s)

    abbrev AllKnown : List Head → List ℕ → StmtTrees → Type 0
    AllKnown loops lines ss = KnownOf (stmts_names (all_with_calls naming_arguments ss)) (all_assigned_in ss) (all_private_names_in ss) (stmts_sites (all_with_calls f ss)) (all_calls_in loops lines ss)

    assign_suits : (loops : List Head) (lines : List ℕ) (l r : ExprTree) (o : Option Called) → Each Reads (stmt_names (instead_of naming_arguments (Assign l r) o)) → Each MayBeWritten (assigned_left l)
        → ((p : Placed) → IsIn p (placed loops lines o) → IsIn p (calls_of u)) → OrCallSuits l r o
    assign_suits loops lines l r None names assigned calls =
        let left = each_front Reads (expr_names l) (expr_names r) names in
        record { in_left = left; in_right = each_behind Reads (expr_names l) (expr_names r) names; assigned = writes (assigned_left l) (each_left Reads l left) assigned }
    assign_suits loops lines l r (Some c) names assigned calls = record {
      place = record { line = next_line lines; called = c; loops = loops };
      is_call = calls (record { line = next_line lines; called = c; loops = loops }) (inl refl);
      is = refl;
      arguments = subst (Each Reads) (listed_names c.arguments) names;
    }

    head_suits : (loops : List Head) (lines : List ℕ) (h : Head) (body : StmtTrees) → Known loops lines (Do h body) → HeadSuits h body
    head_suits loops lines h body k =
        let bs = all_with_calls naming_arguments body in
        let head = each_front Reads (head_names h) (stmts_names bs) k.names in
        let inside = each_behind Reads (head_names h) (stmts_names bs) k.names in
        let bounds = head_bounds Reads h head in
        let three = expr_names h.first ++ expr_names h.last ++ expr_names h.step in
        let front = each_front Reads three h.private bounds in
        let two = each_front Reads (expr_names h.first ++ expr_names h.last) (expr_names h.step) front in
        record {
          first = each_front Reads (expr_names h.first) (expr_names h.last) two;
          last = each_behind Reads (expr_names h.first) (expr_names h.last) two;
          step = each_behind Reads (expr_names h.first ++ expr_names h.last) (expr_names h.step) front;
          value = step_value h.step (or_parts (is_bad_step (fixed_value (constants_of u) h.step)) _ k.fine).0;
          variable = record { reads = head_variable Reads h head; may = k.assigned.0 };
          private = writes h.private (each_behind Reads three h.private bounds) (each_front MayBeWritten h.private (all_private_names_in body) k.private);
          no_call = λ e. none_in_all (loops ++ h ∷ []) (drop (1 + length (private_site h.private)) lines) body
              (λ p is. parallel p (k.calls p is) h (loops_round h (loops ++ h ∷ []) (drop (1 + length (private_site h.private)) lines) body (in_behind h loops (h ∷ []) (inl refl)) p is) e);
          inner = writes (all_loop_variables body) (subst (Each Reads) (loops_kept naming_arguments (λ c. refl) body) (loops_named Reads bs inside)) (loops_assigned MayBeWritten body k.assigned.1);
        }

    mutual
      suited : (loops : List Head) (lines : List ℕ) (s : StmtTree) → Known loops lines s → Suits s
      suited loops lines (Assign l r) k = assign_suits loops lines l r (call_of l r) k.names k.assigned k.calls
      suited loops lines (If c x y) k =
          let xs = all_with_calls naming_arguments x in
          let ys = all_with_calls naming_arguments y in
          let front = each_front Reads (cond_names c ++ stmts_names xs) (stmts_names ys) k.names in
          let both = fine_both (stmts_sites (all_with_calls f x)) (stmts_sites (all_with_calls f y)) (or_parts false (list_any (site_fails (constants_of u)) (stmts_sites (all_with_calls f x) ++ stmts_sites (all_with_calls f y))) k.fine).1 in
          let first = all_calls_in loops (drop 1 lines) x in
          let second = all_calls_in loops (drop (1 + length (stmts_sites x)) lines) y in (
            each_front Reads (cond_names c) (stmts_names xs) front,
            all_suited loops (drop 1 lines) x (record {
              names = each_behind Reads (cond_names c) (stmts_names xs) front;
              assigned = each_front MayBeWritten (all_assigned_in x) (all_assigned_in y) k.assigned;
              private = each_front MayBeWritten (all_private_names_in x) (all_private_names_in y) k.private;
              fine = both.0;
              calls = λ p is. k.calls p (in_front p first second is);
            }),
            all_suited loops (drop (1 + length (stmts_sites x)) lines) y (record {
              names = each_behind Reads (cond_names c ++ stmts_names xs) (stmts_names ys) k.names;
              assigned = each_behind MayBeWritten (all_assigned_in x) (all_assigned_in y) k.assigned;
              private = each_behind MayBeWritten (all_private_names_in x) (all_private_names_in y) k.private;
              fine = both.1;
              calls = λ p is. k.calls p (in_behind p first second is);
            }),
          )
      suited loops lines (Do h body) k = (
        head_suits loops lines h body k,
        all_suited (loops ++ h ∷ []) (drop (1 + length (private_site h.private)) lines) body (record {
          names = each_behind Reads (head_names h) (stmts_names (all_with_calls naming_arguments body)) k.names;
          assigned = k.assigned.1;
          private = each_behind MayBeWritten h.private (all_private_names_in body) k.private;
          fine = (fine_both (private_site h.private) (stmts_sites (all_with_calls f body)) (or_parts (is_bad_step (fixed_value (constants_of u) h.step)) _ k.fine).1).1;
          calls = k.calls;
        }),
      )
      suited loops lines (Print items) k = k.names
      suited loops lines (Read items) k = (k.names, writes (flat_map assigned_left items) (each_item Reads items k.names) k.assigned)
      suited loops lines Stop k = tt
      suited loops lines (Comment text) k = tt

      all_suited : (loops : List Head) (lines : List ℕ) (ss : StmtTrees) → AllKnown loops lines ss → AllSuit ss
      all_suited loops lines no_stmts k = tt
      all_suited loops lines (more_stmts s rest) k =
          let first = stmt_names (with_calls naming_arguments s) in
          let others = stmts_names (all_with_calls naming_arguments rest) in
          let both = fine_both (stmt_sites (with_calls f s)) (stmts_sites (all_with_calls f rest)) k.fine in
          let front = calls_in loops lines s in
          let behind = all_calls_in loops (drop (length (stmt_sites s)) lines) rest in (
            suited loops lines s (record {
              names = each_front Reads first others k.names;
              assigned = each_front MayBeWritten (assigned_in s) (all_assigned_in rest) k.assigned;
              private = each_front MayBeWritten (private_names_in s) (all_private_names_in rest) k.private;
              fine = both.0;
              calls = λ p is. k.calls p (in_front p front behind is);
            }),
            all_suited loops (drop (length (stmt_sites s)) lines) rest (record {
              names = each_behind Reads first others k.names;
              assigned = each_behind MayBeWritten (assigned_in s) (all_assigned_in rest) k.assigned;
              private = each_behind MayBeWritten (private_names_in s) (all_private_names_in rest) k.private;
              fine = both.1;
              calls = λ p is. k.calls p (in_behind p front behind is);
            }),
          )

    pub known_suited : (loops : List Head) (lines : List ℕ) (ss : StmtTrees)
        → Each Reads (stmts_names (all_with_calls naming_arguments ss)) → Each MayBeWritten (all_assigned_in ss) → Each MayBeWritten (all_private_names_in ss) → list_any (site_fails (constants_of u)) (stmts_sites (all_with_calls f ss)) ≡ false
        → ((p : Placed) → IsIn p (all_calls_in loops lines ss) → IsIn p (calls_of u)) → AllSuit ss
    known_suited loops lines ss names assigned private fine calls = all_suited loops lines ss (record { names = names; assigned = assigned; private = private; fine = fine; calls = calls })

-- a site with its line
found_site : (lines : List ℕ) (sites : List Site) (s : Site) → IsIn s sites → (q : Sited) × IsIn q (sited lines sites) × (q.site ≡ s)
found_site lines [] s h = absurd h
found_site lines (z ∷ zs) s (inl e) = (record { site = z; line = next_line lines }, inl refl, sym e)
found_site lines (z ∷ zs) s (inr h) = let r = found_site (drop 1 lines) zs s h in (r.0, inr r.1, r.2)

-- no dummy argument is private
pub private_no_formals : (us : ProgramUnits) → IsLinked us → (u : ProgramUnit) → IsIn u (all_units us) → Each (λ x. is_among x u.formals ≡ false) (all_private_names_in u.tree.body)
private_no_formals us linked u is = all_privates_in us u NoFormal each u.tree.body (λ z i. in_behind z (flat_map decl_sites u.tree.decls) (stmts_sites u.tree.body) i)
  where
    NoFormal : List ℕ → Type 0
    NoFormal x = is_among x u.formals ≡ false

    none_meets : (names : List (List ℕ)) → meets names u.formals ≡ false → Each NoFormal names
    none_meets [] h = tt
    none_meets (x ∷ xs) h = let p = or_parts (is_among x u.formals) (meets xs u.formals) h in (p.0, none_meets xs p.1)

    each : (names : List (List ℕ)) → IsIn (private_names names) (program_sites u.tree) → Each NoFormal names
    each names i = none_meets names (go (meets names u.formals) refl)
      where
        go : (t : Bool) → meets names u.formals ≡ t → t ≡ false
        go false e = refl
        go true e =
            let q = found_site u.lines (program_sites u.tree) (private_names names) i in
            absurd (linked Arguments q.0.line (inr (inl (record { unit = u; is_unit = is; site = q.0; is_site = q.1; names = names; is_private = q.2; formal = e; there = refl }))))

-- the units of a file whose names and CALLs are right
pub unit_suits : (us : ProgramUnits) → IsLinked us → (u : ProgramUnit) → IsIn u (all_units us) → HasPlainNames u → AllSuit us u u.tree.body
unit_suits us linked u is plain =
    known_suited us u
    (λ p call h inside parallel. linked CallPlace p.line (record { unit = u; is_unit = is; call = p; is_call = call; stands = (h, inside, parallel); there = refl }))
    (using_arguments (dimensioned u.tree.decls)) [] (drop (length (flat_map decl_sites u.tree.decls)) u.lines) u.tree.body
    (of_each (Reads us u) (stmts_names (all_with_calls naming_arguments u.tree.body)) (λ x m. among_first [] (stmts_names (all_with_calls naming_arguments u.tree.body)) x m refl))
    (of_each (MayBeWritten us u) (assigns u) (λ x m. record { plain = each_of (IsPlain u) (assigns u) plain.assigned x m; assigned = λ formal. ([], record { is_formal = formal; uses = m }) }))
    (of_each (MayBeWritten us u) (all_private_names_in u.tree.body) (λ x m. record {
      plain = each_of (IsPlain u) (all_private_names_in u.tree.body) plain.private x m;
      assigned = λ formal. absurd (both_ways (is_among x u.formals) (each_of (λ y. is_among y u.formals ≡ false) (all_private_names_in u.tree.body) (private_no_formals us linked u is) x m) formal);
    }))
    plain.steps (λ p call. call)
