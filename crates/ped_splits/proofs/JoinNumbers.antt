-- Numbers of the statements of a program in which two DO loops become one: each statement counts under the number that it had, and none under that of the second DO.
use Rattle.std.proofs.Common.{Bool, ap, arith, false, if◌then◌else◌, inl, inr, suc, true, ℕ, ◌+◌, ◌-◌, ◌<◌, ◌∙◌, ◌≡◌, ◌≤◌, ◌⊎◌}
use Rattle.std.proofs.lemmas.Bool.{cases_lt}
use Rattle.std.proofs.lemmas.Bool.Decides.{nat_tests}
use Rattle.std.specs.Prelude.{nat_lt}
use Rattle.ped_tree.specs.Numbering.{statements_count}
use Rattle.ped_tree.specs.Tree.{Do, ProgramTree}
use Rattle.ped_rules.specs.ped_loop_runs.proofs.TidyLaws.TidyPathsGaps.{followed_count}
use Rattle.ped_rules.specs.ped_loop_runs.specs.Pasting.{CountAlike}
use Rattle.ped_rules.specs.ped_steps.specs.Replacing.{alone, followed}
use Rattle.ped_rules.specs.ped_steps.specs.Runs.Renumbering.{IsToldBack}
use Rattle.ped_rules.specs.ped_eval.specs.Outcomes.{setting_of}
use Rattle.ped_rules.specs.ped_eval.specs.Scopes.{Setting}
use Rattle.ped_splits.proofs.JoinFacts.{AreJoined, both_loops, one_loop}
use Rattle.ped_splits.proofs.JoinParts.{quiet_count}
use Rattle.ped_rules.specs.KeepMaps.{closed_up, opened_at}

below : (m k : ℕ) → k < m → nat_lt k m ≡ true
below m k h = grind (arith, nat_tests, h)

not_below : (m k : ℕ) → m ≤ k → nat_lt k m ≡ false
not_below m k h = grind (arith, nat_tests, h)

pub opened_before : (m k : ℕ) → k < m → opened_at m k ≡ k
opened_before m k h = ap (λ (b : Bool). if b then k else suc k) (below m k h)

pub opened_behind : (m k : ℕ) → m ≤ k → opened_at m k ≡ suc k
opened_behind m k h = ap (λ (b : Bool). if b then k else suc k) (not_below m k h)

closed_before : (m k : ℕ) → k < m → closed_up m k ≡ k
closed_before m k h = ap (λ (b : Bool). if b then k else k - 1) (below m k h)

closed_behind : (m k : ℕ) → m ≤ k → closed_up m (suc k) ≡ k
closed_behind m k h = ap (λ (b : Bool). if b then suc k else suc k - 1) (not_below m (suc k) (omega (arith, h))) ∙ (let e : suc k - 1 ≡ k = omega arith in e)

-- each number tells the one under which it counts
pub opened_back : (m : ℕ) → IsToldBack (opened_at m) (closed_up m)
opened_back m = record { back = λ k. by k (cases_lt k m) }
  where
    by : (k : ℕ) → (k < m) ⊎ (m ≤ k) → closed_up m (opened_at m k) ≡ k
    by k (inl less) = ap (closed_up m) (opened_before m k less) ∙ closed_before m k less
    by k (inr more) = ap (closed_up m) (opened_behind m k more) ∙ closed_behind m k more

module _ (t u : ProgramTree) (s : ℕ) (x : AreJoined t u s) where
  abbrev m : ℕ
  m = s + 1 + statements_count x.own_body

  -- how many statements the two DO loops have, and the one
  pub pair_count : statements_count (both_loops x) ≡ statements_count x.own_body + statements_count x.next_body + 2
  pair_count = let a = quiet_count x.between (alone (Do x.next x.next_body)) x.comments in omega (arith, a)

  pub one_count : statements_count (one_loop x) ≡ statements_count x.own_body + statements_count x.next_body + 1
  one_count = let a = followed_count x.own_body (followed x.between x.next_body) in let b = quiet_count x.between x.next_body x.comments in omega (arith, a, b)

  pub counts_alike : (all : ℕ) (other : Setting) → ((k : ℕ) → other.number k ≡ opened_at (s + 1 + statements_count x.own_body) k) → CountAlike (setting_of t) other s (statements_count (both_loops x)) (statements_count (one_loop x)) all
  counts_alike all other is =
      let two = pair_count in
      let one = one_count in
      record {
        before = λ k less. is k ∙ opened_before m k (omega (arith, less));
        behind = λ k less. is (s + statements_count (one_loop x) + k) ∙ (opened_behind m (s + statements_count (one_loop x) + k) (omega (arith, one)) ∙ (let e : suc (s + statements_count (one_loop x) + k) ≡ s + statements_count (both_loops x) + k = omega (arith, one, two) in e));
      }

  -- the statements of the first body count under their numbers, and so does the DO
  pub own_number_is : opened_at (s + 1 + statements_count x.own_body) s ≡ s
  own_number_is = opened_before m s (omega arith)

  pub first_numbers : (k : ℕ) → k < statements_count x.own_body → opened_at (s + 1 + statements_count x.own_body) (s + 1 + k) ≡ s + 1 + k
  first_numbers k less = opened_before m (s + 1 + k) (omega (arith, less))

  -- those of the second body count under their old numbers, too
  pub second_numbers : (k : ℕ) → opened_at (s + 1 + statements_count x.own_body) (s + 1 + statements_count x.own_body + k) ≡ s + 1 + statements_count x.own_body + 1 + k
  second_numbers k = opened_behind m (m + k) (omega arith) ∙ (let e : suc (m + k) ≡ m + 1 + k = omega arith in e)
