-- Statements by their kinds: what their parts need, and how their runs end.
use Rattle.std.proofs.Common.{◌≡◌, ℕ, suc, ◌+◌, ◌≤◌, ◌<◌, ◌^◌, max, List, [], ◌∷◌, ◌==◌, length, map, Bool, true, false, ◌&&◌, Result, Ok, Err, if◌then◌else◌, refl, sym, ap, subst, ◌∙◌, arith, rules, drop, get_or, add-one, drop-cons, eqb-true}
use Rattle.std.proofs.lemmas.Bool.{and_parts}
use Rattle.std.proofs.lemmas.List.{append-nil, drop_all}
use Rattle.ped_store.specs.Acts.{Act}
use Rattle.std.specs.Global.{Vec}
use Rattle.ped_tree.specs.Tree as plain
use Rattle.ped_tree.specs.Tree.{CondTree, Head, StmtTree, StmtTrees, no_stmts, more_stmts}
use Rattle.ped_tree.specs.Views.{expr_tree, item_tree, stmt_tree, stmt_trees, do_tree, stmt_level, do_level}
use Rattle.ped_tree.specs.Numbering.{statement_count, statements_count}
use Rattle.ped_tree.specs.declared.expressions.Expr.{Expr}
use Rattle.ped_tree.specs.declared.statements.PrintItem.{PrintItem}
use Rattle.ped_tree.specs.declared.statements.Do as loop
use Rattle.ped_tree.specs.declared.statements.Stmt.{Stmt, the_lemmas}
use Rattle.ped_tree.specs.declared.statements.Stmt.TheOpen as open_stmt
use Rattle.ped_tree.specs.declared.statements.Stmt.TheVariants as variant
use Rattle.ped_tree.specs.declared.statements.Stmt.TheFolds.{fold-roll-Stmt}
use Rattle.ped_symbols.specs.Kinds.{Table}
use Rattle.ped_store.specs.Stores.{Store}
use Rattle.ped_store.specs.Memories.{Memory}
use Rattle.ped_eval.specs.Scopes.{Setting, Frame, Scope, names_in, place_of}
use Rattle.ped_eval.specs.ScopeViews.{names_at}
use Rattle.ped_eval.specs.Values.{truth}
use Rattle.ped_symbols.specs.RightUses.RightUses.{cond_is_right, head_is_right, stmt_is_right, stmts_are_right}
use Rattle.ped_symbols.specs.RightUses.RightLoops.{loop_depth, loops_deep, step_is_right, stmt_steps_are_right, steps_are_right}
use Rattle.ped_eval.specs.Readiness.{kinds_by, setting_by, IsReady, CanDo, CanRun}
use Rattle.ped_eval.specs.Agreement.{is_ahead, before, Agrees}
use Rattle.ped_eval.specs.Runs.{Ending, going, stopped, failed, nothing_done, followed_by, run, run_all}
use Rattle.ped_eval.specs.Told.{Fails, Tells, Ran}
use Rattle.ped_eval.specs.declared.states.Flow.{Flow}
use Rattle.ped_eval.specs.declared.states.Flow.TheVariants as flow
use Rattle.ped_eval.specs.declared.states.RunError.{RunError}
use Rattle.ped_eval.specs.declared.states.RunError.TheVariants as error
use Rattle.ped_eval.proofs.Moments.{next_statement}
use Rattle.ped_eval.proofs.Agreements.{agrees_later, outside_same}
use Rattle.ped_eval.proofs.Endings.{if_goes, if_fails}
use Rattle.ped_eval.proofs.Evaluations.{kept_truth}

-- what is told at a moment is so at a later one
tells_later : (scope : Scope) (a b : List ℕ) (r : Result Flow RunError) (kept : Store) (e : Ending) → is_ahead a b ≡ true → Tells scope a r kept e → Tells scope b r kept e
tells_later scope a b (Ok flow.Going) kept (going s) h t = agrees_later scope a b kept s h t
tells_later scope a b (Ok flow.Going) kept (stopped s) h t = t
tells_later scope a b (Ok flow.Going) kept (failed fault n) h t = t
tells_later scope a b (Ok flow.Stopped) kept e h t = t
tells_later scope a b (Err (error.Fault fault n)) kept e h t = t
tells_later scope a b (Err error.NoMemory) kept e h t = t

module _ (table : Table) (scope : Scope) (n : ℕ) where
  -- what is needed to run statements is so for the first of them and for the others
  pub first_can : (t : StmtTree) (rest : StmtTrees) → CanRun table scope n (more_stmts t rest) → CanDo table scope n t
  first_can t rest h =
      let right : (stmt_is_right (kinds_by table) t && stmts_are_right (kinds_by table) rest) ≡ true = h.right in
      let steps : (stmt_steps_are_right table.constants t && steps_are_right table.constants rest) ≡ true = h.steps in
      let nested : length scope + max (loop_depth t) (loops_deep rest) ≤ 6 = h.nested in
      let few : n + (statement_count t + statements_count rest) < 2 ^ 31 = h.few in
      record {
        right = (and_parts (stmt_is_right (kinds_by table) t) (stmts_are_right (kinds_by table) rest) right).0;
        steps = (and_parts (stmt_steps_are_right table.constants t) (steps_are_right table.constants rest) steps).0;
        nested = omega (arith, nested);
        few = omega (arith, few);
      }

  pub rest_can : (t : StmtTree) (rest : StmtTrees) → CanRun table scope n (more_stmts t rest) → CanRun table scope (n + statement_count t) rest
  rest_can t rest h =
      let right : (stmt_is_right (kinds_by table) t && stmts_are_right (kinds_by table) rest) ≡ true = h.right in
      let steps : (stmt_steps_are_right table.constants t && steps_are_right table.constants rest) ≡ true = h.steps in
      let nested : length scope + max (loop_depth t) (loops_deep rest) ≤ 6 = h.nested in
      let few : n + (statement_count t + statements_count rest) < 2 ^ 31 = h.few in
      record {
        right = (and_parts (stmt_is_right (kinds_by table) t) (stmts_are_right (kinds_by table) rest) right).1;
        steps = (and_parts (stmt_steps_are_right table.constants t) (steps_are_right table.constants rest) steps).1;
        nested = omega (arith, nested);
        few = omega (arith, few);
      }

  -- and in a block IF for its parts
  module _ (condition : CondTree) (a b : StmtTrees) (h : CanDo table scope n (plain.If condition a b)) where
    pub then_can : CanRun table scope (n + 1) a
    then_can =
        let right : (cond_is_right (kinds_by table) condition && stmts_are_right (kinds_by table) a && stmts_are_right (kinds_by table) b) ≡ true = h.right in
        let both = (and_parts (cond_is_right (kinds_by table) condition && stmts_are_right (kinds_by table) a) (stmts_are_right (kinds_by table) b) right).0 in
        let steps : (steps_are_right table.constants a && steps_are_right table.constants b) ≡ true = h.steps in
        let nested : length scope + max (loops_deep a) (loops_deep b) ≤ 6 = h.nested in
        let few : n + (statements_count a + statements_count b + 1) < 2 ^ 31 = h.few in
        record {
          right = (and_parts (cond_is_right (kinds_by table) condition) (stmts_are_right (kinds_by table) a) both).1;
          steps = (and_parts (steps_are_right table.constants a) (steps_are_right table.constants b) steps).0;
          nested = omega (arith, nested);
          few = omega (arith, few);
        }

    pub else_can : CanRun table scope (n + 1 + statements_count a) b
    else_can =
        let right : (cond_is_right (kinds_by table) condition && stmts_are_right (kinds_by table) a && stmts_are_right (kinds_by table) b) ≡ true = h.right in
        let steps : (steps_are_right table.constants a && steps_are_right table.constants b) ≡ true = h.steps in
        let nested : length scope + max (loops_deep a) (loops_deep b) ≤ 6 = h.nested in
        let few : n + (statements_count a + statements_count b + 1) < 2 ^ 31 = h.few in
        record {
          right = (and_parts (cond_is_right (kinds_by table) condition && stmts_are_right (kinds_by table) a) (stmts_are_right (kinds_by table) b) right).1;
          steps = (and_parts (steps_are_right table.constants a) (steps_are_right table.constants b) steps).1;
          nested = omega (arith, nested);
          few = omega (arith, few);
        }

  -- and in a DO for its body
  module _ (h : Head) (body : StmtTrees) (can : CanDo table scope n (plain.Do h body)) where
    pub head_can : head_is_right (kinds_by table) h ≡ true
    head_can = (and_parts (head_is_right (kinds_by table) h) (stmts_are_right (kinds_by table) body) can.right).0

    pub body_right : stmts_are_right (kinds_by table) body ≡ true
    body_right = (and_parts (head_is_right (kinds_by table) h) (stmts_are_right (kinds_by table) body) can.right).1

    pub step_can : step_is_right table.constants h.step ≡ true
    step_can = (and_parts (step_is_right table.constants h.step) (steps_are_right table.constants body) can.steps).0

    pub body_can : (f : Frame) → CanRun table (f ∷ scope) (n + 1) body
    body_can f =
        let nested : length scope + suc (loops_deep body) ≤ 6 = can.nested in
        let few : n + (statements_count body + 1) < 2 ^ 31 = can.few in
        record {
          right = body_right;
          steps = (and_parts (step_is_right table.constants h.step) (steps_are_right table.constants body) can.steps).1;
          nested = omega (arith, nested);
          few = omega (arith, few);
        }

-- a statement with this tree has run
abbrev pub HasRun : Table → Scope → ℕ → Memory → Result Flow RunError → Memory → StmtTree → Type 0
HasRun table scope n old r new t = Ran scope n old (n + statement_count t) r new (run (setting_by table) t n scope)

module _ (table : Table) (scope : Scope) (n : ℕ) (old : Memory) (ready : IsReady table scope old) (condition : CondTree) (a b : StmtTrees) where
  chosen : (holds : Bool) → (truth (names_at old scope table.constants) condition old.cells).result ≡ Ok holds → (s : Store) → Agrees scope (before scope n) old.cells s
      → (run (setting_by table) (plain.If condition a b) n scope s).ending
      ≡ ((if holds then run_all (setting_by table) a (n + 1) scope else run_all (setting_by table) b (n + 1 + statements_count a) scope) s).ending
  chosen holds h s g =
      if_goes (names_in (setting_by table) scope) (place_of (setting_by table) n scope) condition (run_all (setting_by table) a (n + 1) scope) (run_all (setting_by table) b (n + 1 + statements_count a) scope) s holds
      (sym (ap (λ e. e.result) (kept_truth (setting_by table) scope old s ready.bounds g.same condition)) ∙ h)

  pub then_run : (r : Result Flow RunError) (new : Memory) → (truth (names_at old scope table.constants) condition old.cells).result ≡ Ok true
      → Ran scope (n + 1) old (n + 1 + statements_count a) r new (run_all (setting_by table) a (n + 1) scope) → HasRun table scope n old r new (plain.If condition a b)
  then_run r new h t s g =
      let e : n + (statements_count a + statements_count b + 1) ≡ n + 1 + statements_count a + statements_count b = omega arith in
      subst (λ (x : Ending). Tells scope (before scope (n + (statements_count a + statements_count b + 1))) r new.cells x) (sym (chosen true h s g))
      (subst (λ (k : ℕ). Tells scope (before scope k) r new.cells (run_all (setting_by table) a (n + 1) scope s).ending) (sym e)
      (tells_later scope (before scope (n + 1 + statements_count a)) (before scope (n + 1 + statements_count a + statements_count b)) r new.cells _ (next_statement scope (n + 1 + statements_count a) (statements_count b))
      (t s (agrees_later scope (before scope n) (before scope (n + 1)) old.cells s (next_statement scope n 1) g))))

  pub else_run : (r : Result Flow RunError) (new : Memory) → (truth (names_at old scope table.constants) condition old.cells).result ≡ Ok false
      → Ran scope (n + 1 + statements_count a) old (n + 1 + statements_count a + statements_count b) r new (run_all (setting_by table) b (n + 1 + statements_count a) scope) → HasRun table scope n old r new (plain.If condition a b)
  else_run r new h t s g =
      let e : n + (statements_count a + statements_count b + 1) ≡ n + 1 + statements_count a + statements_count b = omega arith in
      let k : n + (1 + statements_count a) ≡ n + 1 + statements_count a = omega arith in
      subst (λ (x : Ending). Tells scope (before scope (n + (statements_count a + statements_count b + 1))) r new.cells x) (sym (chosen false h s g))
      (subst (λ (k : ℕ). Tells scope (before scope k) r new.cells (run_all (setting_by table) b (n + 1 + statements_count a) scope s).ending) (sym e)
      (t s (subst (λ (j : ℕ). Agrees scope (before scope j) old.cells s) k (agrees_later scope (before scope n) (before scope (n + (1 + statements_count a))) old.cells s (next_statement scope n (1 + statements_count a)) g))))

  pub if_failed : (new : Memory) (k : ℕ) → (truth (names_at old scope table.constants) condition old.cells).result ≡ Err k → HasRun table scope n old (Err (error.Fault k n)) new (plain.If condition a b)
  if_failed new k h s g =
      let e : (truth (names_in (setting_by table) scope) condition s).result ≡ Err k = sym (ap (λ e. e.result) (kept_truth (setting_by table) scope old s ready.bounds g.same condition)) ∙ h in
      subst (λ (x : Ending). Fails k n x)
      (sym (if_fails (names_in (setting_by table) scope) (place_of (setting_by table) n scope) condition (run_all (setting_by table) a (n + 1) scope) (run_all (setting_by table) b (n + 1 + statements_count a) scope) s k e))
      (refl, refl)

-- a STOP ends the run
pub stop_run : (table : Table) (scope : Scope) (n : ℕ) (old : Memory) → HasRun table scope n old (Ok flow.Stopped) old plain.Stop
stop_run table scope n old s g = outside_same scope old.cells s g.same

-- a comment does nothing
pub comment_run : (table : Table) (scope : Scope) (n : ℕ) (old : Memory) (text : List ℕ) → HasRun table scope n old (Ok flow.Going) old (plain.Comment text)
comment_run table scope n old text s g = agrees_later scope (before scope n) (before scope (n + 0)) old.cells s (next_statement scope n 0) g

-- the plain tree of a statement, from its parts
pub tree-Assign : (left right : Expr) → stmt_tree (variant.Assign left right) ≡ plain.Assign (expr_tree left) (expr_tree right)
tree-Assign left right = ap stmt_tree (sym (variant.rolls-Assign left right)) ∙ fold-roll-Stmt StmtTree StmtTree stmt_level do_level (open_stmt.Assign left right)

pub tree-Do : (d : loop.Do) → stmt_tree (variant.Do d) ≡ do_tree d
tree-Do d = search (rules, the_lemmas)

pub tree-Stop : stmt_tree variant.Stop ≡ plain.Stop
tree-Stop = ap stmt_tree (sym variant.rolls-Stop) ∙ fold-roll-Stmt StmtTree StmtTree stmt_level do_level open_stmt.Stop

pub tree-Comment : (text : List ℕ) → stmt_tree (variant.Comment text) ≡ plain.Comment text
tree-Comment text = ap stmt_tree (sym (variant.rolls-Comment text)) ∙ fold-roll-Stmt StmtTree StmtTree stmt_level do_level (open_stmt.Comment text)

pub tree-Print : (items : Vec PrintItem) → stmt_tree (variant.Print items) ≡ plain.Print (map item_tree items.items)
tree-Print items = ap stmt_tree (sym (variant.rolls-Print items)) ∙ fold-roll-Stmt StmtTree StmtTree stmt_level do_level (open_stmt.Print items)

pub tree-Read : (items : Vec Expr) → stmt_tree (variant.Read items) ≡ plain.Read (map expr_tree items.items)
tree-Read items = ap stmt_tree (sym (variant.rolls-Read items)) ∙ fold-roll-Stmt StmtTree StmtTree stmt_level do_level (open_stmt.Read items)

-- the statements from a place on are the one there and those behind it
pub stmts_left : (ss : List Stmt) (i : ℕ) (x : Stmt) → i < length ss → x ≡ get_or ss i x → stmt_trees (drop i ss) ≡ more_stmts (stmt_tree x) (stmt_trees (drop (i + 1) ss))
stmts_left ss i x h e =
    let next : drop i ss ≡ get_or ss i x ∷ drop (i + 1) ss = drop-cons ss i x h ∙ ap (λ (n : ℕ). get_or ss i x ∷ drop n ss) (sym (add-one i)) in
    ap stmt_trees next ∙ ap (λ (y : Stmt). more_stmts (stmt_tree y) (stmt_trees (drop (i + 1) ss))) (sym e)

-- a block IF without an ELSE part, whose condition is false, does nothing
pub none_run : (table : Table) (scope : Scope) (n : ℕ) (old : Memory) → IsReady table scope old → (condition : CondTree) (a : StmtTrees) → (truth (names_at old scope table.constants) condition old.cells).result ≡ Ok false
    → HasRun table scope n old (Ok flow.Going) old (plain.If condition a no_stmts)
none_run table scope n old ready condition a h =
    let k : n + 1 + statements_count a ≡ n + 1 + statements_count a + 0 = omega arith in
    else_run table scope n old ready condition a no_stmts (Ok flow.Going) old h (λ s g. subst (λ (j : ℕ). Agrees scope (before scope j) old.cells s) k g)

-- there are none
pub no_items : {X : Type 0} (xs : List X) → (length xs == 0) ≡ true → xs ≡ []
no_items [] h = refl
no_items (x ∷ xs) h = let e : suc (length xs) ≡ 0 = eqb-true (suc (length xs)) 0 h in absurd (omega (arith, e))

-- statements of which there is one
pub only_left : (stmts : List Stmt) (x : Stmt) → length stmts ≡ 1 → x ≡ get_or stmts 0 x → stmt_trees stmts ≡ more_stmts (stmt_tree x) no_stmts
only_left stmts x h e =
    let some : 0 < length stmts = omega (arith, h) in
    let all : length stmts ≤ 1 = omega (arith, h) in
    stmts_left stmts 0 x some e ∙ ap (λ (ss : List Stmt). more_stmts (stmt_tree x) (stmt_trees ss)) (drop_all 1 stmts all)

-- one statement is run as the statements of which it is the only one
pub only_run : (p : Setting) (t : StmtTree) (n : ℕ) (scope : Scope) → run_all p (more_stmts t no_stmts) n scope ≡ run p t n scope
only_run p t n scope = λ i s. go (run p t n scope s).acts (run p t n scope s).ending i
  where
    go : (acts : List Act) (e : Ending) → followed_by acts e nothing_done ≡ record { acts = acts; ending = e }
    go acts (going s) = ap (λ (done : List Act). record { acts = done; ending = going s }) (append-nil acts)
    go acts (stopped s) = refl
    go acts (failed fault statement) = refl
