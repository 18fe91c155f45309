-- A STOP stands in no DO of a program of the profile.
use Rattle.std.proofs.Common.{◌≡◌, ℕ, ◌+◌, ◌-◌, ◌==◌, List, [], ◌∷◌, Bool, true, false, not, ◌&&◌, ◌||◌, Some, None, if◌then◌else◌, refl, sym, ap, ◌∙◌}
use Rattle.std.specs.List.{list_any}
use Rattle.std.proofs.lemmas.Bool.{and_parts}
use Rattle.std.proofs.lemmas.List.Folds.{list_any-append}
use Rattle.ped_flow.specs.ped_base.specs.Lists.{has_some}
use Rattle.ped_flow.specs.ped_tree.specs.Tree.{StmtTree, StmtTrees, Assign, If, Do, Print, Read, Stop, Comment, no_stmts, more_stmts, ProgramTree}
use Rattle.ped_flow.specs.ped_tree.specs.Numbering.{numbered, all_numbered, at_place, statement_count, statements_count}
use Rattle.ped_flow.specs.ped_tree.specs.Grammar.Fits.{Surroundings, moved, in_if, in_loop, loop_fits, stmt_fits, stmts_fit, decls_fit, begins_with_statement, at_body, fits}
use Rattle.ped_flow.specs.Questions.{LoopOf}
use Rattle.ped_flow.proofs.Truths.{untrue, or_none}
use Rattle.ped_laws.specs.FlowRuns.Covering.{has_stop, some_stop, stops_in_loop, some_stops_in_loop}
use Rattle.ped_laws.proofs.FlowRunLaws.Covered.{none_in_loops}

-- the last of some tests
last_part : (a b : Bool) → (a && b) ≡ true → b ≡ true
last_part a b h = (and_parts a b h).1

first_part : (a b : Bool) → (a && b) ≡ true → a ≡ true
first_part a b h = (and_parts a b h).0

unstopped : (b : Bool) → (b && not (true && true)) ≡ true → b ≡ false
unstopped true h = untrue h
unstopped false h = refl

-- in a DO
mutual
  none_within : (p : Surroundings) (t : StmtTree) → has_some p.variables ≡ true → stmt_fits p t ≡ true → has_stop t ≡ false
  none_within p (Assign left right) v h = refl
  none_within p (If condition a b) v h =
      let first = none_within_all (in_if p 1) a v (last_part _ (stmts_fit (in_if p 1) a) (first_part _ (stmts_fit (in_if p (1 + statements_count a)) b) h)) in
      let second = none_within_all (in_if p (1 + statements_count a)) b v (last_part _ (stmts_fit (in_if p (1 + statements_count a)) b) h) in
      λ i. first i || second i
  none_within p (Do h b) v k = none_within_all (in_loop p h) b refl (last_part (loop_fits p h b) (stmts_fit (in_loop p h) b) k)
  none_within p (Print items) v h = refl
  none_within p (Read items) v h = refl
  none_within p Stop v h = let z : not (true && has_some p.variables) ≡ true = last_part _ (not (true && has_some p.variables)) h in untrue (sym (ap (λ (b : Bool). not (true && b)) v) ∙ z)
  none_within p (Comment text) v h = refl

  none_within_all : (p : Surroundings) (ts : StmtTrees) → has_some p.variables ≡ true → stmts_fit p ts ≡ true → some_stop ts ≡ false
  none_within_all p no_stmts v h = refl
  none_within_all p (more_stmts t rest) v h =
      let first = none_within p t v (first_part (stmt_fits p t) (stmts_fit (moved p (statement_count t)) rest) h) in
      let second = none_within_all (moved p (statement_count t)) rest v (last_part (stmt_fits p t) (stmts_fit (moved p (statement_count t)) rest) h) in
      λ i. first i || second i

mutual
  none_stops : (p : Surroundings) (t : StmtTree) → stmt_fits p t ≡ true → stops_in_loop t ≡ false
  none_stops p (Assign left right) h = refl
  none_stops p (If condition a b) h =
      let first = all_none_stop (in_if p 1) a (last_part _ (stmts_fit (in_if p 1) a) (first_part _ (stmts_fit (in_if p (1 + statements_count a)) b) h)) in
      let second = all_none_stop (in_if p (1 + statements_count a)) b (last_part _ (stmts_fit (in_if p (1 + statements_count a)) b) h) in
      λ i. first i || second i
  none_stops p (Do h b) k = none_within_all (in_loop p h) b refl (last_part (loop_fits p h b) (stmts_fit (in_loop p h) b) k)
  none_stops p (Print items) h = refl
  none_stops p (Read items) h = refl
  none_stops p Stop h = refl
  none_stops p (Comment text) h = refl

  all_none_stop : (p : Surroundings) (ts : StmtTrees) → stmts_fit p ts ≡ true → some_stops_in_loop ts ≡ false
  all_none_stop p no_stmts h = refl
  all_none_stop p (more_stmts t rest) h =
      let first = none_stops p t (first_part (stmt_fits p t) (stmts_fit (moved p (statement_count t)) rest) h) in
      let second = all_none_stop (moved p (statement_count t)) rest (last_part (stmt_fits p t) (stmts_fit (moved p (statement_count t)) rest) h) in
      λ i. first i || second i

-- a program of the profile has none in a DO
pub fitting_stops : (t : ProgramTree) → fits t ≡ true → some_stops_in_loop t.body ≡ false
fitting_stops t h =
    all_none_stop (at_body t) t.body (last_part (decls_fit 0 t.decls) (stmts_fit (at_body t) t.body) (first_part (decls_fit 0 t.decls && stmts_fit (at_body t) t.body) (begins_with_statement t.body) h))

-- a DO with a STOP in it
abbrev stops_within : StmtTree → Bool
stops_within (Assign left right) = false
stops_within (If condition a b) = false
stops_within (Do h b) = some_stop b
stops_within (Print items) = false
stops_within (Read items) = false
stops_within Stop = false
stops_within (Comment text) = false

mutual
  numbered_stop : (t : StmtTree) → stops_in_loop t ≡ false → list_any stops_within (numbered t) ≡ false
  numbered_stop (Assign left right) h = refl
  numbered_stop (If condition a b) h =
      let k = or_none (some_stops_in_loop a) (some_stops_in_loop b) h in
      list_any-append stops_within (all_numbered a) (all_numbered b) ∙ (λ i. all_numbered_stop a k.0 i || all_numbered_stop b k.1 i)
  numbered_stop (Do h b) k = λ i. k i || all_numbered_stop b (none_in_loops b k) i
  numbered_stop (Print items) h = refl
  numbered_stop (Read items) h = refl
  numbered_stop Stop h = refl
  numbered_stop (Comment text) h = refl

  all_numbered_stop : (ts : StmtTrees) → some_stops_in_loop ts ≡ false → list_any stops_within (all_numbered ts) ≡ false
  all_numbered_stop no_stmts h = refl
  all_numbered_stop (more_stmts t rest) h =
      let k = or_none (stops_in_loop t) (some_stops_in_loop rest) h in
      list_any-append stops_within (numbered t) (all_numbered rest) ∙ (λ i. numbered_stop t k.0 i || all_numbered_stop rest k.1 i)

placed_stop : (xs : List StmtTree) (n : ℕ) (s : StmtTree) → list_any stops_within xs ≡ false → at_place xs n ≡ Some s → stops_within s ≡ false
placed_stop [] n s h e = absurd cc
placed_stop (x ∷ xs) n s h e = by (n == 0) e (or_none (stops_within x) (list_any stops_within xs) h).0 (λ g. placed_stop xs (n - 1) s (or_none (stops_within x) (list_any stops_within xs) h).1 g)
  where
    by : (b : Bool) → (if b then Some x else at_place xs (n - 1)) ≡ Some s → stops_within x ≡ false → (at_place xs (n - 1) ≡ Some s → stops_within s ≡ false) → stops_within s ≡ false
    by true g k rest = let same : x ≡ s = cc in ap stops_within (sym same) ∙ k
    by false g k rest = rest g

-- nor has a DO of such a program one
pub loop_stops : (t : ProgramTree) (l : ℕ) (loop : LoopOf t l) → some_stops_in_loop t.body ≡ false → some_stop loop.body ≡ false
loop_stops t l loop h = by (l == 0) loop.is
  where
    by : (b : Bool) → (if b then None else at_place (all_numbered t.body) (l - 1)) ≡ Some (Do loop.head loop.body) → some_stop loop.body ≡ false
    by true e = absurd cc
    by false e = placed_stop (all_numbered t.body) (l - 1) (Do loop.head loop.body) (all_numbered_stop t.body h) e
