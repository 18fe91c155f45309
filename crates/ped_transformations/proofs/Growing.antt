-- The steps of `auto` make programs with no fewer statements, and `parallel` one with fewer DOs that aren't PARALLEL DOs.
use Rattle.std.proofs.Common.{◌≡◌, inl, inr, ℕ, ◌≤◌, ◌<◌, List, length, Bool, true, false, Option, Some, None, is_some, refl, sym, ap, subst, ◌∙◌, arith}
use Rattle.std.specs.Prelude.{MatchOption, ⊤}
use Rattle.ped_tree.specs.Tree.{Head, StmtTree, StmtTrees, Assign, If, Do, Print, Read, Stop, Comment, ProgramTree}
use Rattle.ped_tree.specs.Numbering.{statement_with, statements_count}
use Rattle.ped_auto.specs.ped_rules.specs.OnlyLoops.{on_loop}
use Rattle.ped_auto.specs.ped_rules.specs.Steps.{StepAt}
use Rattle.ped_auto.specs.ped_rules.specs.ped_steps.specs.declared.rules.Rule.TheVariants.{NoLoop, ParallelState}
use Rattle.ped_auto.specs.ped_rules.specs.ped_steps.specs.Causes.{NoRule}
use Rattle.ped_auto.specs.ped_rules.specs.ped_steps.specs.Replacing.{alone, program_with}
use Rattle.ped_auto.specs.ped_rules.specs.ped_steps.specs.Runs.Gaps.{filled}
use Rattle.ped_auto.specs.ped_rules.specs.ped_steps.proofs.RunLaws.FilledGaps.{count_filled}
use Rattle.ped_auto.specs.ped_rules.specs.ped_steps.proofs.RunLaws.ReplacedTrees.{program_gap}
use Rattle.ped_scalar.specs.Privatising.{with_private}
use Rattle.ped_auto.specs.ped_rules.specs.Flags.{with_flag}
use Rattle.ped_auto.specs.ped_rules.specs.Paralleling.{StandsAgainstParallel, paralleling}
use Rattle.ped_splits.specs.Distributing.{loops_of}
use Rattle.ped_splits.proofs.DistributedCounts.{no_fewer}
use Rattle.ped_reduce.specs.Reducing.{with_listed}
use Rattle.ped_reduce.proofs.ListedComments.{listed_count}
use Rattle.ped_script.specs.declared.items.Command.{Command}
use Rattle.ped_script.specs.declared.items.Command.TheVariants.{Privatise, Distribute, Reduce, Parallel}
use Rattle.ped_script.specs.Kinds.{step_in}
use Rattle.ped_auto.specs.SerialLoops.{count_of, serial_loops}
use Rattle.ped_auto.specs.Editing.{IsOfStrategy}
use Rattle.ped_auto.proofs.OfStrategy.{so_of_strategy}
use Rattle.ped_transformations.specs.Table.{step_of}
use Rattle.ped_transformations.proofs.SerialCounts.{one_fewer}

-- others in the place of a statement, no fewer
grown : (by : StmtTree → StmtTrees) (s : ℕ) (x : StmtTree) (t : ProgramTree) → statement_with s t ≡ Some x → statements_count (alone x) ≤ statements_count (by x) → count_of t ≤ count_of (program_with by s t)
grown by s x t found h =
    let g = program_gap by s x t found in
    let both = count_filled (alone x) (by x) g.gap in
    let old : statements_count t.body ≡ statements_count (filled g.gap (alone x)) = ap statements_count g.old_is in
    let new : statements_count (program_with by s t).body ≡ statements_count (filled g.gap (by x)) = ap statements_count g.new_is in
    omega (arith, both, old, new, h)

-- a statement that is there
pub found_at : (o : Option StmtTree) → is_some o ≡ true → (x : StmtTree) × (o ≡ Some x)
found_at (Some x) h = (x, refl)
found_at None h = absurd cc

with_private_count : (name : List ℕ) (x : StmtTree) → statements_count (alone x) ≤ statements_count (with_private name x)
with_private_count name (Assign left right) = omega arith
with_private_count name (If c a b) = omega arith
with_private_count name (Do h b) = omega arith
with_private_count name (Print items) = omega arith
with_private_count name (Read items) = omega arith
with_private_count name Stop = omega arith
with_private_count name (Comment text) = omega arith

on_loop_count : (new : Head → StmtTrees → StmtTrees) → ((h : Head) (b : StmtTrees) → statements_count (alone (Do h b)) ≤ statements_count (new h b)) → (x : StmtTree) → statements_count (alone x) ≤ statements_count (on_loop new x)
on_loop_count new h (Do k b) = h k b
on_loop_count new h (Assign left right) = omega arith
on_loop_count new h (If c a b) = omega arith
on_loop_count new h (Print items) = omega arith
on_loop_count new h (Read items) = omega arith
on_loop_count new h Stop = omega arith
on_loop_count new h (Comment text) = omega arith

-- a step makes programs with no fewer statements
abbrev pub Grows : StepAt → Type 0
Grows at = (t new : ProgramTree) (keep : List (ℕ × ℕ)) → is_some (statement_with at.statement t) ≡ true → at.IsCause t None → at.Makes t new keep → count_of t ≤ count_of new

-- so does that of each command of the strategy
pub step_grows : (c : Command) → IsOfStrategy c → MatchOption (step_in c) ⊤ (λ command. Grows (step_of command))
step_grows = so_of_strategy (λ c. MatchOption (step_in c) ⊤ (λ command. Grows (step_of command))) (record {
  parallel = λ s t new keep there free made.
      let x = found_at (statement_with s t) there in
      subst (λ (u : ProgramTree). count_of t ≤ count_of u) (sym made.0) (grown (on_loop (with_flag true)) s x.0 t x.1 (on_loop_count (with_flag true) (λ h b. omega arith) x.0));
  privatise = λ s name t new keep there free made.
      let x = found_at (statement_with s t) there in
      subst (λ (u : ProgramTree). count_of t ≤ count_of u) (sym made.0) (grown (with_private name) s x.0 t x.1 (with_private_count name x.0));
  reduce = λ s names t new keep there free made.
      let x = found_at (statement_with s t) there in
      subst (λ (u : ProgramTree). count_of t ≤ count_of u) (sym made.0)
      (grown (on_loop (with_listed names)) s x.0 t x.1 (on_loop_count (with_listed names) (λ h b. let e = listed_count names b in omega (arith, e)) x.0));
  distribute = λ s t new keep there free made.
      let l = made.0 in
      subst (λ (u : ProgramTree). count_of t ≤ count_of u) (sym made.3)
      (grown (on_loop (loops_of made.1)) s (Do l.head l.body) t l.is (no_fewer t s l made.1 made.2 free.0));
})

-- `parallel` is refused where the statement is no DO, or is a PARALLEL DO
serial_there : (t : ProgramTree) (s : ℕ) → NoRule (StandsAgainstParallel s t) → (x : StmtTree) → statement_with s t ≡ Some x → (h : Head) × (b : StmtTrees) × (x ≡ Do h b) × (h.parallel ≡ false)
serial_there t s none (Do h b) found = (h, b, refl, not_so h.parallel refl)
  where
    not_so : (p : Bool) → h.parallel ≡ p → h.parallel ≡ false
    not_so true e = absurd (none ParallelState s (inr (inl (refl, (record { head = h; body = b; is = found }, e, refl)))))
    not_so false e = e
serial_there t s none (Assign left right) found = absurd (none NoLoop s (inl (refl, ((λ l. let e = sym found ∙ l.is in cc), refl))))
serial_there t s none (If c a b) found = absurd (none NoLoop s (inl (refl, ((λ l. let e = sym found ∙ l.is in cc), refl))))
serial_there t s none (Print items) found = absurd (none NoLoop s (inl (refl, ((λ l. let e = sym found ∙ l.is in cc), refl))))
serial_there t s none (Read items) found = absurd (none NoLoop s (inl (refl, ((λ l. let e = sym found ∙ l.is in cc), refl))))
serial_there t s none Stop found = absurd (none NoLoop s (inl (refl, ((λ l. let e = sym found ∙ l.is in cc), refl))))
serial_there t s none (Comment text) found = absurd (none NoLoop s (inl (refl, ((λ l. let e = sym found ∙ l.is in cc), refl))))

-- so it makes a program with one less
pub parallel_falls : (s : ℕ) (t new : ProgramTree) (keep : List (ℕ × ℕ)) → is_some (statement_with s t) ≡ true → (paralleling s).IsCause t None → (paralleling s).Makes t new keep → length (serial_loops new) < length (serial_loops t)
parallel_falls s t new keep there free made =
    let x = found_at (statement_with s t) there in
    let d = serial_there t s free.0 x.0 x.1 in
    subst (λ (u : ProgramTree). length (serial_loops u) < length (serial_loops t)) (sym made.0)
    (one_fewer (on_loop (with_flag true)) s d.0 d.1 t (x.1 ∙ ap (λ (y : StmtTree). Some y) d.2) (record d.0 { parallel = true }) d.3 refl refl)
