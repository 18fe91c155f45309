-- What holds for the name of each element with subscripts in expressions, conditions and items.
use Rattle.std.proofs.Common.{◌≡◌, ℕ, List, [], ◌∷◌, true, Option, Some, None}
use Rattle.std.specs.List.{flat_map}
use Rattle.ped_tree.specs.NamesIn.{expr_names, exprs_names, cond_names, item_names}
use Rattle.ped_tree.specs.Tree.{ExprTree, ExprTrees, Int, Var, Element, Neg, Add, Sub, Mul, Div, Pow, Call, no_exprs, more_exprs, CondTree, Rel, Not, And, Or, ItemTree, Value, Text, StmtTree, StmtTrees, Assign, If, Do, Print, Read, Stop, Comment, no_stmts, more_stmts}
use Rattle.ped_steps.specs.ped_symbols.specs.Uses.{expr_count}
use Rattle.ped_calls.specs.ped_units.specs.Forms.{Called}
use Rattle.ped_calls.specs.ped_units.specs.Units.{call_of}
use Rattle.ped_steps.specs.ped_eval.specs.Values.{is_rank}
use Rattle.ped_call_runs.proofs.EachNames.{Each, each_front, each_behind}

-- something holds for the name, where there are as many subscripts as an array may have
abbrev pub WithSubscripts : (List ℕ → Type 0) → List ℕ → ExprTrees → Type 0
WithSubscripts P x es = is_rank (expr_count es) ≡ true → P x

abbrev mutual
  -- something holds for the name of each element with subscripts
  pub EachElement : (List ℕ → Type 0) → ExprTree → Type 0
  EachElement P (Int n) = Unit {0}
  EachElement P (Var x) = Unit {0}
  EachElement P (Element x es) = WithSubscripts P x es × AllElements P es
  EachElement P (Neg a) = EachElement P a
  EachElement P (Add a b) = EachElement P a × EachElement P b
  EachElement P (Sub a b) = EachElement P a × EachElement P b
  EachElement P (Mul a b) = EachElement P a × EachElement P b
  EachElement P (Div a b) = EachElement P a × EachElement P b
  EachElement P (Pow a b) = EachElement P a × EachElement P b
  EachElement P (Call f es) = AllElements P es

  -- and in expressions
  pub AllElements : (List ℕ → Type 0) → ExprTrees → Type 0
  AllElements P no_exprs = Unit {0}
  AllElements P (more_exprs e rest) = EachElement P e × AllElements P rest

-- in a condition
abbrev pub CondElements : (List ℕ → Type 0) → CondTree → Type 0
CondElements P (Rel r a b) = EachElement P a × EachElement P b
CondElements P (Not a) = CondElements P a
CondElements P (And a b) = CondElements P a × CondElements P b
CondElements P (Or a b) = CondElements P a × CondElements P b

-- in items of a PRINT
abbrev pub ItemElements : (List ℕ → Type 0) → ItemTree → Type 0
ItemElements P (Value e) = EachElement P e
ItemElements P (Text text) = Unit {0}

abbrev pub ItemsElements : (List ℕ → Type 0) → List ItemTree → Type 0
ItemsElements P [] = Unit {0}
ItemsElements P (item ∷ rest) = ItemElements P item × ItemsElements P rest

-- in items of a READ
abbrev pub TargetsElements : (List ℕ → Type 0) → List ExprTree → Type 0
TargetsElements P [] = Unit {0}
TargetsElements P (e ∷ rest) = EachElement P e × TargetsElements P rest

-- in an assignment, or in the arguments of the CALL that it is
abbrev pub OrElements : (List ℕ → Type 0) → ExprTree → ExprTree → Option Called → Type 0
OrElements P left right None = EachElement P left × EachElement P right
OrElements P left right (Some c) = AllElements P c.arguments

abbrev mutual
  -- in a statement and in its parts, but for the increments of DO loops
  pub StmtElements : (List ℕ → Type 0) → StmtTree → Type 0
  StmtElements P (Assign left right) = OrElements P left right (call_of left right)
  StmtElements P (If condition then_part else_part) = CondElements P condition × StmtsElements P then_part × StmtsElements P else_part
  StmtElements P (Do h body) = (EachElement P h.first × EachElement P h.last) × StmtsElements P body
  StmtElements P (Print items) = ItemsElements P items
  StmtElements P (Read items) = TargetsElements P items
  StmtElements P Stop = Unit {0}
  StmtElements P (Comment text) = Unit {0}

  -- the same of statements
  pub StmtsElements : (List ℕ → Type 0) → StmtTrees → Type 0
  StmtsElements P no_stmts = Unit {0}
  StmtsElements P (more_stmts s rest) = StmtElements P s × StmtsElements P rest

-- what comes of two things, of which one holds for each name
module _ (P Q R : List ℕ → Type 0) (both : (x : List ℕ) → P x → Q x → R x) where
  mutual
    pub elements_two : (e : ExprTree) → EachElement P e → Each Q (expr_names e) → EachElement R e
    elements_two (Int n) h k = tt
    elements_two (Var x) h k = tt
    elements_two (Element x es) h k = ((λ r. both x (h.0 r) k.0), all_elements_two es h.1 k.1)
    elements_two (Neg a) h k = elements_two a h k
    elements_two (Add a b) h k = (elements_two a h.0 (each_front Q (expr_names a) (expr_names b) k), elements_two b h.1 (each_behind Q (expr_names a) (expr_names b) k))
    elements_two (Sub a b) h k = (elements_two a h.0 (each_front Q (expr_names a) (expr_names b) k), elements_two b h.1 (each_behind Q (expr_names a) (expr_names b) k))
    elements_two (Mul a b) h k = (elements_two a h.0 (each_front Q (expr_names a) (expr_names b) k), elements_two b h.1 (each_behind Q (expr_names a) (expr_names b) k))
    elements_two (Div a b) h k = (elements_two a h.0 (each_front Q (expr_names a) (expr_names b) k), elements_two b h.1 (each_behind Q (expr_names a) (expr_names b) k))
    elements_two (Pow a b) h k = (elements_two a h.0 (each_front Q (expr_names a) (expr_names b) k), elements_two b h.1 (each_behind Q (expr_names a) (expr_names b) k))
    elements_two (Call f es) h k = all_elements_two es h k

    pub all_elements_two : (es : ExprTrees) → AllElements P es → Each Q (exprs_names es) → AllElements R es
    all_elements_two no_exprs h k = tt
    all_elements_two (more_exprs e rest) h k =
        (elements_two e h.0 (each_front Q (expr_names e) (exprs_names rest) k), all_elements_two rest h.1 (each_behind Q (expr_names e) (exprs_names rest) k))

  pub cond_elements_two : (c : CondTree) → CondElements P c → Each Q (cond_names c) → CondElements R c
  cond_elements_two (Rel r a b) h k = (elements_two a h.0 (each_front Q (expr_names a) (expr_names b) k), elements_two b h.1 (each_behind Q (expr_names a) (expr_names b) k))
  cond_elements_two (Not a) h k = cond_elements_two a h k
  cond_elements_two (And a b) h k = (cond_elements_two a h.0 (each_front Q (cond_names a) (cond_names b) k), cond_elements_two b h.1 (each_behind Q (cond_names a) (cond_names b) k))
  cond_elements_two (Or a b) h k = (cond_elements_two a h.0 (each_front Q (cond_names a) (cond_names b) k), cond_elements_two b h.1 (each_behind Q (cond_names a) (cond_names b) k))

  item_elements_two : (item : ItemTree) → ItemElements P item → Each Q (item_names item) → ItemElements R item
  item_elements_two (Value e) h k = elements_two e h k
  item_elements_two (Text text) h k = tt

  pub items_elements_two : (items : List ItemTree) → ItemsElements P items → Each Q (flat_map item_names items) → ItemsElements R items
  items_elements_two [] h k = tt
  items_elements_two (item ∷ rest) h k =
      (item_elements_two item h.0 (each_front Q (item_names item) (flat_map item_names rest) k), items_elements_two rest h.1 (each_behind Q (item_names item) (flat_map item_names rest) k))

  pub targets_elements_two : (es : List ExprTree) → TargetsElements P es → Each Q (flat_map expr_names es) → TargetsElements R es
  targets_elements_two [] h k = tt
  targets_elements_two (e ∷ rest) h k =
      (elements_two e h.0 (each_front Q (expr_names e) (flat_map expr_names rest) k), targets_elements_two rest h.1 (each_behind Q (expr_names e) (flat_map expr_names rest) k))

-- what comes of what holds
module _ (P R : List ℕ → Type 0) (weaker : (x : List ℕ) → P x → R x) where
  mutual
    pub elements_map : (e : ExprTree) → EachElement P e → EachElement R e
    elements_map (Int n) h = tt
    elements_map (Var x) h = tt
    elements_map (Element x es) h = ((λ r. weaker x (h.0 r)), all_elements_map es h.1)
    elements_map (Neg a) h = elements_map a h
    elements_map (Add a b) h = (elements_map a h.0, elements_map b h.1)
    elements_map (Sub a b) h = (elements_map a h.0, elements_map b h.1)
    elements_map (Mul a b) h = (elements_map a h.0, elements_map b h.1)
    elements_map (Div a b) h = (elements_map a h.0, elements_map b h.1)
    elements_map (Pow a b) h = (elements_map a h.0, elements_map b h.1)
    elements_map (Call f es) h = all_elements_map es h

    pub all_elements_map : (es : ExprTrees) → AllElements P es → AllElements R es
    all_elements_map no_exprs h = tt
    all_elements_map (more_exprs e rest) h = (elements_map e h.0, all_elements_map rest h.1)

  pub cond_elements_map : (c : CondTree) → CondElements P c → CondElements R c
  cond_elements_map (Rel r a b) h = (elements_map a h.0, elements_map b h.1)
  cond_elements_map (Not a) h = cond_elements_map a h
  cond_elements_map (And a b) h = (cond_elements_map a h.0, cond_elements_map b h.1)
  cond_elements_map (Or a b) h = (cond_elements_map a h.0, cond_elements_map b h.1)

  pub items_elements_map : (items : List ItemTree) → ItemsElements P items → ItemsElements R items
  items_elements_map [] h = tt
  items_elements_map (Value e ∷ rest) h = (elements_map e h.0, items_elements_map rest h.1)
  items_elements_map (Text text ∷ rest) h = (tt, items_elements_map rest h.1)

  pub targets_elements_map : (es : List ExprTree) → TargetsElements P es → TargetsElements R es
  targets_elements_map [] h = tt
  targets_elements_map (e ∷ rest) h = (elements_map e h.0, targets_elements_map rest h.1)
