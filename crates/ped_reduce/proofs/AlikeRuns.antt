-- Programs that differ in one statement, where the new one does in each place what the old one did.
use Rattle.std.proofs.Common.{◌≡◌, ℕ, ◌+◌, List, ◌∷◌, ◌++◌, Bool, true, false, refl, ap}
use Rattle.ped_tree.specs.Tree.{Head, StmtTree, StmtTrees}
use Rattle.ped_tree.specs.NamesIn.{loop_variables, all_loop_variables}
use Rattle.ped_tree.specs.Numbering.{statement_count, statements_count}
use Rattle.ped_rules.specs.ped_eval.specs.Runs.{Run, then_run, on, run_if, run_from_entry, run_do, run, run_all}
use Rattle.ped_rules.specs.ped_eval.specs.Loops.{Limits, limits, increment, iteration_count, sorted_once, inner_variables, entered_with}
use Rattle.ped_rules.specs.ped_eval.specs.Scopes.{Setting, Scope, Frame, names_in, place_of}
use Rattle.ped_rules.specs.ped_eval.specs.Evaluation.{Seen, number_behind}
use Rattle.ped_rules.specs.ped_store.specs.Stores.{Store}
use Rattle.ped_rules.specs.ped_steps.specs.Replacing.{alone}
use Rattle.ped_rules.specs.ped_steps.specs.Runs.Gaps.{Gap, at_front, past, in_then, in_else, in_body, filled}

inner_alike : (parallel : Bool) (b c : StmtTrees) → all_loop_variables b ≡ all_loop_variables c → inner_variables parallel b ≡ inner_variables parallel c
inner_alike true b c e = ap (λ (names : List (List ℕ)). sorted_once names) e
inner_alike false b c e = refl

-- a DO with another body is entered alike, where DO loops in it have the same variables
entered_alike : (p : Setting) (n : ℕ) (h : Head) (b c : StmtTrees) → all_loop_variables b ≡ all_loop_variables c → (seen : List Seen) (l : Limits) → entered_with p n h b seen l ≡ entered_with p n h c seen l
entered_alike p n h b c e seen l = λ i. record {
  number = p.number n;
  head = h;
  first = l.first;
  step = increment p.constants h;
  count = iteration_count l.first l.last (increment p.constants h);
  behind_bounds = number_behind 1 seen;
  inner = inner_alike h.parallel b c e i;
}

-- and does the same, where its body does
pub do_alike : (p : Setting) (n : ℕ) (scope : Scope) (h : Head) (b c : StmtTrees) → all_loop_variables b ≡ all_loop_variables c → (f g : Frame → Store → Run) → f ≡ g → run_do p n scope h b f ≡ run_do p n scope h c g
do_alike p n scope h b c e f g same = λ i s.
    on (place_of p n scope) (limits (names_in p scope) h s) (λ seen l. run_from_entry seen (entered_alike p n h b c e seen l i) scope (place_of p n scope) (same i) s)

module _ (p : Setting) (x y : StmtTree) (counts : statement_count x ≡ statement_count y) (variables : loop_variables x ≡ loop_variables y) where
  filled_count : (gap : Gap) → statements_count (filled gap (alone x)) ≡ statements_count (filled gap (alone y))
  filled_count (at_front rest) = λ i. counts i + statements_count rest
  filled_count (past s gap) = λ i. statement_count s + filled_count gap i
  filled_count (in_then c gap b rest) = λ i. (filled_count gap i + statements_count b + 1) + statements_count rest
  filled_count (in_else c a gap rest) = λ i. (statements_count a + filled_count gap i + 1) + statements_count rest
  filled_count (in_body h gap rest) = λ i. (filled_count gap i + 1) + statements_count rest

  filled_variables : (gap : Gap) → all_loop_variables (filled gap (alone x)) ≡ all_loop_variables (filled gap (alone y))
  filled_variables (at_front rest) = λ i. variables i ++ all_loop_variables rest
  filled_variables (past s gap) = λ i. loop_variables s ++ filled_variables gap i
  filled_variables (in_then c gap b rest) = λ i. (filled_variables gap i ++ all_loop_variables b) ++ all_loop_variables rest
  filled_variables (in_else c a gap rest) = λ i. (all_loop_variables a ++ filled_variables gap i) ++ all_loop_variables rest
  filled_variables (in_body h gap rest) = λ i. (h.variable ∷ filled_variables gap i) ++ all_loop_variables rest

  pub filled_run : ((n : ℕ) (scope : Scope) → run p x n scope ≡ run p y n scope) → (gap : Gap) (n : ℕ) (scope : Scope) → run_all p (filled gap (alone x)) n scope ≡ run_all p (filled gap (alone y)) n scope
  filled_run here (at_front rest) n scope = λ i s. then_run (here n scope i s) (run_all p rest (n + counts i) scope)
  filled_run here (past z gap) n scope = λ i s. then_run (run p z n scope s) (filled_run here gap (n + statement_count z) scope i)
  filled_run here (in_then c gap b rest) n scope = λ i s.
      then_run (run_if (names_in p scope) (place_of p n scope) c (filled_run here gap (n + 1) scope i) (run_all p b (n + 1 + filled_count gap i) scope) s)
      (run_all p rest (n + (filled_count gap i + statements_count b + 1)) scope)
  filled_run here (in_else c a gap rest) n scope = λ i s.
      then_run (run_if (names_in p scope) (place_of p n scope) c (run_all p a (n + 1) scope) (filled_run here gap (n + 1 + statements_count a) scope i) s)
      (run_all p rest (n + (statements_count a + filled_count gap i + 1)) scope)
  filled_run here (in_body h gap rest) n scope = λ i s.
      then_run (do_alike p n scope h (filled gap (alone x)) (filled gap (alone y)) (filled_variables gap) (λ f. run_all p (filled gap (alone x)) (n + 1) (f ∷ scope)) (λ f. run_all p (filled gap (alone y)) (n + 1) (f ∷ scope)) (λ j f. filled_run here gap (n + 1) (f ∷ scope) j) i s)
      (run_all p rest (n + (filled_count gap i + 1)) scope)
