-- A body that is one DO and comments does what that DO does.
use Rattle.std.proofs.Common.{Bool, List, None, Option, Some, ap, append-nil, arith, eqb-true, false, if◌then◌else◌, refl, sym, true, ℕ, ◌++◌, ◌+◌, ◌==◌, ◌∙◌, ◌≡◌}
use Rattle.ped_rules.specs.OnlyLoops.{change_only, only_loop}
use Rattle.ped_loop_runs.specs.ped_eval.specs.Runs.{Ending, Run, failed, followed_by, going, nothing_done, run, run_all, stopped, then_run}
use Rattle.ped_loop_runs.specs.ped_eval.specs.Scopes.{Scope, Setting}
use Rattle.ped_loop_runs.specs.ped_store.specs.Acts.{Act}
use Rattle.ped_loop_runs.specs.ped_store.specs.Stores.{Store}
use Rattle.ped_tree.specs.Numbering.{statement_count, statements_count}
use Rattle.ped_tree.specs.Tree.{Assign, Comment, Do, Head, If, Print, Read, StmtTree, StmtTrees, Stop, more_stmts, no_stmts}

-- what is so isn't false
pub never : (b : Bool) → b ≡ true → b ≡ false → ⊥
never b t f = let clash : true ≡ false = sym t ∙ f in absurd cc

-- a head and a body together
abbrev pub pair : Head → StmtTrees → Head × StmtTrees
pair g inside = (g, inside)

-- comments do nothing
comments_run : (p : Setting) (ts : StmtTrees) (n : ℕ) (scope : Scope) (s : Store) → statements_count ts ≡ 0 → run_all p ts n scope s ≡ nothing_done s
comments_run p no_stmts n scope s h = refl
comments_run p (more_stmts (Comment text) rest) n scope s h = comments_run p rest (n + 0) scope s (omega (arith, h))
comments_run p (more_stmts (Assign left right) rest) n scope s h = absurd (omega (arith, h))
comments_run p (more_stmts (If c a b) rest) n scope s h = absurd (omega (arith, h))
comments_run p (more_stmts (Do d body) rest) n scope s h = absurd (omega (arith, h))
comments_run p (more_stmts (Print items) rest) n scope s h = absurd (omega (arith, h))
comments_run p (more_stmts (Read items) rest) n scope s h = absurd (omega (arith, h))
comments_run p (more_stmts Stop rest) n scope s h = absurd (omega (arith, h))

-- nothing behind a run
nothing_behind : (acts : List Act) (ending : Ending) (next : Store → Run) → ((s : Store) → next s ≡ nothing_done s) → followed_by acts ending next ≡ record { acts = acts; ending = ending }
nothing_behind acts (going s) next h = (λ i. record { acts = acts ++ (h s i).acts; ending = (h s i).ending }) ∙ (λ i. record { acts = append-nil acts i; ending = going s })
nothing_behind acts (stopped s) next h = refl
nothing_behind acts (failed fault statement) next h = refl

pub same_head : (g h : Head) (a b : StmtTrees) → Some (pair g a) ≡ Some (pair h b) → g ≡ h
same_head g h a b e = let pairs : pair g a ≡ pair h b = cc in ap (λ (p : Head × StmtTrees). p.0) pairs

pub same_inside : (g h : Head) (a b : StmtTrees) → Some (pair g a) ≡ Some (pair h b) → a ≡ b
same_inside g h a b e = let pairs : pair g a ≡ pair h b = cc in ap (λ (p : Head × StmtTrees). p.1) pairs

module _ (g : Head) (inside : StmtTrees) where
  not_there : ◌≡◌ {A = Option (Head × StmtTrees)} None (Some (pair g inside)) → ⊥
  not_there e = cc

  -- the one DO, by whether comments alone stand behind it
  module _ (p : Setting) where
    by_count : (h : Head) (body rest : StmtTrees) (n : ℕ) (scope : Scope) (s : Store) (b : Bool) → (statements_count rest == 0) ≡ b → (if b then Some (pair h body) else None) ≡ Some (pair g inside)
        → then_run (run p (Do h body) n scope s) (run_all p rest (n + statement_count (Do h body)) scope) ≡ run p (Do g inside) n scope s
    by_count h body rest n scope s true c e =
        nothing_behind (run p (Do h body) n scope s).acts (run p (Do h body) n scope s).ending (run_all p rest (n + statement_count (Do h body)) scope)
        (λ u. comments_run p rest (n + statement_count (Do h body)) scope u (eqb-true (statements_count rest) 0 c))
        ∙ (λ i. run p (Do (same_head h g body inside e i) (same_inside h g body inside e i)) n scope s)
    by_count h body rest n scope s false c e = absurd (not_there e)

    pub only_runs : (ts : StmtTrees) (n : ℕ) (scope : Scope) (s : Store) → only_loop ts ≡ Some (pair g inside) → run_all p ts n scope s ≡ run p (Do g inside) n scope s
    only_runs no_stmts n scope s e = absurd (not_there e)
    only_runs (more_stmts (Comment text) rest) n scope s e = only_runs rest (n + 0) scope s e ∙ ap (λ (m : ℕ). run p (Do g inside) m scope s) (let same : n + 0 ≡ n = omega arith in same)
    only_runs (more_stmts (Do h body) rest) n scope s e = by_count h body rest n scope s (statements_count rest == 0) refl e
    only_runs (more_stmts (Assign left right) rest) n scope s e = absurd (not_there e)
    only_runs (more_stmts (If c a b) rest) n scope s e = absurd (not_there e)
    only_runs (more_stmts (Print items) rest) n scope s e = absurd (not_there e)
    only_runs (more_stmts (Read items) rest) n scope s e = absurd (not_there e)
    only_runs (more_stmts Stop rest) n scope s e = absurd (not_there e)

  -- another DO in its place is the one DO then
  module _ (h : Head) where
    changed_by : (f : Head) (body rest : StmtTrees) (b : Bool) → (statements_count rest == 0) ≡ b → (if b then Some (pair f body) else None) ≡ Some (pair g inside) → (if b then Some (pair h body) else None) ≡ Some (pair h inside)
    changed_by f body rest true c e = ap (λ (z : StmtTrees). Some (pair h z)) (same_inside f g body inside e)
    changed_by f body rest false c e = absurd (not_there e)

    pub only_changed : (ts : StmtTrees) → only_loop ts ≡ Some (pair g inside) → only_loop (change_only (λ f z. Do h z) ts) ≡ Some (pair h inside)
    only_changed no_stmts e = absurd (not_there e)
    only_changed (more_stmts (Comment text) rest) e = only_changed rest e
    only_changed (more_stmts (Do f body) rest) e = changed_by f body rest (statements_count rest == 0) refl e
    only_changed (more_stmts (Assign left right) rest) e = absurd (not_there e)
    only_changed (more_stmts (If c a b) rest) e = absurd (not_there e)
    only_changed (more_stmts (Print items) rest) e = absurd (not_there e)
    only_changed (more_stmts (Read items) rest) e = absurd (not_there e)
    only_changed (more_stmts Stop rest) e = absurd (not_there e)

  -- so many statements stand in it
  counted_by : (f : Head) (body rest : StmtTrees) (b : Bool) → (statements_count rest == 0) ≡ b → (if b then Some (pair f body) else None) ≡ Some (pair g inside) → statements_count body + 1 + statements_count rest ≡ statements_count inside + 1
  counted_by f body rest true c e = let none : statements_count rest ≡ 0 = eqb-true (statements_count rest) 0 c in let same = ap statements_count (same_inside f g body inside e) in omega (arith, none, same)
  counted_by f body rest false c e = absurd (not_there e)

  pub only_counted : (ts : StmtTrees) → only_loop ts ≡ Some (pair g inside) → statements_count ts ≡ statements_count inside + 1
  only_counted no_stmts e = absurd (not_there e)
  only_counted (more_stmts (Comment text) rest) e = let more = only_counted rest e in omega (arith, more)
  only_counted (more_stmts (Do f body) rest) e = counted_by f body rest (statements_count rest == 0) refl e
  only_counted (more_stmts (Assign left right) rest) e = absurd (not_there e)
  only_counted (more_stmts (If c a b) rest) e = absurd (not_there e)
  only_counted (more_stmts (Print items) rest) e = absurd (not_there e)
  only_counted (more_stmts (Read items) rest) e = absurd (not_there e)
  only_counted (more_stmts Stop rest) e = absurd (not_there e)

  -- what is told of statements one by one, where comments tell nothing, is told by the DO
  module _ {X : Type 0} (told : StmtTree → X) (all : StmtTrees → X) (both : X → X → X) (nothing : X) (left : (x : X) → both nothing x ≡ x) (right : (x : X) → both x nothing ≡ x) (none : all no_stmts ≡ nothing) (more : (s : StmtTree) (rest : StmtTrees) → all (more_stmts s rest) ≡ both (told s) (all rest))
      (comment : (text : List ℕ) → told (Comment text) ≡ nothing) where
    comments_tell : (ts : StmtTrees) → statements_count ts ≡ 0 → all ts ≡ nothing
    comments_tell no_stmts h = none
    comments_tell (more_stmts (Comment text) rest) h = more (Comment text) rest ∙ (λ i. both (comment text i) (comments_tell rest (omega (arith, h)) i)) ∙ left nothing
    comments_tell (more_stmts (Assign a b) rest) h = absurd (omega (arith, h))
    comments_tell (more_stmts (If c a b) rest) h = absurd (omega (arith, h))
    comments_tell (more_stmts (Do d body) rest) h = absurd (omega (arith, h))
    comments_tell (more_stmts (Print items) rest) h = absurd (omega (arith, h))
    comments_tell (more_stmts (Read items) rest) h = absurd (omega (arith, h))
    comments_tell (more_stmts Stop rest) h = absurd (omega (arith, h))

    told_by : (f : Head) (body rest : StmtTrees) (b : Bool) → (statements_count rest == 0) ≡ b → (if b then Some (pair f body) else None) ≡ Some (pair g inside) → both (told (Do f body)) (all rest) ≡ told (Do g inside)
    told_by f body rest true c e = (λ i. both (told (Do (same_head f g body inside e i) (same_inside f g body inside e i))) (comments_tell rest (eqb-true (statements_count rest) 0 c) i)) ∙ right (told (Do g inside))
    told_by f body rest false c e = absurd (not_there e)

    pub only_tells : (ts : StmtTrees) → only_loop ts ≡ Some (pair g inside) → all ts ≡ told (Do g inside)
    only_tells no_stmts e = absurd (not_there e)
    only_tells (more_stmts (Comment text) rest) e = more (Comment text) rest ∙ (λ i. both (comment text i) (only_tells rest e i)) ∙ left (told (Do g inside))
    only_tells (more_stmts (Do f body) rest) e = more (Do f body) rest ∙ told_by f body rest (statements_count rest == 0) refl e
    only_tells (more_stmts (Assign a b) rest) e = absurd (not_there e)
    only_tells (more_stmts (If c a b) rest) e = absurd (not_there e)
    only_tells (more_stmts (Print items) rest) e = absurd (not_there e)
    only_tells (more_stmts (Read items) rest) e = absurd (not_there e)
    only_tells (more_stmts Stop rest) e = absurd (not_there e)
