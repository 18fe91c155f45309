-- Two DO loops one behind the other: the second is entered where the first has left off, and each trip of them is done from a store that is left within the two.
use Rattle.std.proofs.Common.{◌≡◌, ℕ, zero, suc, ◌+◌, ◌-◌, ◌≤◌, List, ◌∷◌, ◌++◌, refl, sym, ap, ◌∙◌, append_assoc, arith}
use Rattle.std.specs.List.{flat_map, range_with_len}
use Rattle.ped_tree.specs.Numbering.{statement_count, statements_count}
use Rattle.ped_tree.specs.Tree.{StmtTree, StmtTrees, no_stmts, more_stmts}
use Rattle.ped_rules.specs.ped_bodies.specs.Trips.{trips, trip_end, loop_acts, loop_close, loop_entry}
use Rattle.ped_rules.specs.ped_steps.specs.Replacing.{followed, alone}
use Rattle.ped_rules.specs.ped_loop_runs.proofs.LoopLaws.OneForOneStands.{run_alone}
use Rattle.ped_rules.specs.ped_loop_runs.proofs.PastingLaws.PastedLoops.{run_followed}
use Rattle.ped_rules.specs.ped_laws.proofs.RunLaws.Joined.{parted_more}
use Rattle.ped_rules.specs.ped_laws.proofs.RunLaws.StatementsTold.{run_told}
use Rattle.ped_rules.specs.ped_laws.specs.Acts.Fitting.{store_after}
use Rattle.ped_rules.specs.ped_laws.specs.Runs.Replaying.{finish_of, goes_on}
use Rattle.ped_rules.specs.ped_eval.specs.Evaluation.{Seen}
use Rattle.ped_rules.specs.ped_eval.specs.Loops.{Entered}
use Rattle.ped_rules.specs.ped_eval.specs.Runs.{Ending, going, stopped, failed, Run, nothing_done, then_run, followed_by, run, run_all}
use Rattle.ped_rules.specs.ped_eval.specs.Scopes.{Setting, Scope}
use Rattle.ped_rules.specs.ped_store.specs.Acts.{Place, Act}
use Rattle.ped_rules.specs.ped_store.specs.Stores.{Store}
use Rattle.ped_splits.proofs.UnitTests.{only_comment}

-- comments do nothing
quiet : (p : Setting) (ts : StmtTrees) (n : ℕ) (scope : Scope) (v : Store) → statements_count ts ≡ 0 → run_all p ts n scope v ≡ nothing_done v
quiet p no_stmts n scope v none = refl
quiet p (more_stmts x rest) n scope v none =
    (λ i. then_run (only_comment (λ (z : StmtTree). run p z n scope v ≡ nothing_done v) (λ text. refl) x (omega (arith, none)) i) (run_all p rest (n + statement_count x) scope)) ∙ quiet p rest (n + statement_count x) scope v (omega (arith, none))

first_goes : (acts : List Act) (e : Ending) (next : Store → Run) → finish_of (followed_by acts e next).ending ≡ goes_on → finish_of e ≡ goes_on
first_goes acts (going w) next h = refl
first_goes acts (stopped w) next h = h
first_goes acts (failed fault n) next h = h

module _ (p : Setting) (first : StmtTree) (between : StmtTrees) (second : StmtTree) (s m : ℕ) (comments : statements_count between ≡ 0) (place : s + statement_count first ≡ m) (scope : Scope) (v : Store) where
  abbrev both : StmtTrees
  both = more_stmts first (followed between (alone second))

  module _ (goes : finish_of (run_all p (more_stmts first (followed between (alone second))) s scope v).ending ≡ goes_on) where
    pub first_goes_on : finish_of (run p first s scope v).ending ≡ goes_on
    first_goes_on = first_goes (run p first s scope v).acts (run p first s scope v).ending (run_all p (followed between (alone second)) (s + statement_count first) scope) goes

    rest_is : (u : Store) → run_all p (followed between (alone second)) (s + statement_count first) scope u ≡ run p second m scope u
    rest_is u =
        ap (λ (f : Store → Run). f u) (run_followed p between (alone second) (s + statement_count first) scope)
        ∙ ap (λ (r : Run). then_run r (run_all p (alone second) (s + statement_count first + statements_count between) scope)) (quiet p between (s + statement_count first) scope u comments)
        ∙ run_alone p second (s + statement_count first + statements_count between) scope u
        ∙ ap (λ (k : ℕ). run p second k scope u) (let there : s + statement_count first + statements_count between ≡ m = omega (arith, comments, place) in there)

    -- what both do
    pub pair_acts : (run_all p (more_stmts first (followed between (alone second))) s scope v).acts ≡ (run p first s scope v).acts ++ (run p second m scope (store_after (run p first s scope v).acts v)).acts
    pair_acts =
        ap (λ (r : Run). r.acts) (parted_more (run p first s scope) (run_all p (followed between (alone second)) (s + statement_count first) scope) (run_told p first s scope) v first_goes_on)
        ∙ ap (λ (r : Run). (run p first s scope v).acts ++ r.acts) (rest_is (store_after (run p first s scope v).acts v))

    pub second_goes_on : finish_of (run p second m scope (store_after (run p first s scope v).acts v)).ending ≡ goes_on
    second_goes_on =
        ap (λ (r : Run). finish_of r.ending) (sym (rest_is (store_after (run p first s scope v).acts v)))
        ∙ sym (ap (λ (r : Run). finish_of r.ending) (parted_more (run p first s scope) (run_all p (followed between (alone second)) (s + statement_count first) scope) (run_told p first s scope) v first_goes_on))
        ∙ goes

-- trips one behind another
module _ (e : Entered) (scope : Scope) (at : Place) (trip : ℕ → List Act) where
  abbrev one : ℕ → List Act
  one j = trip j ++ trip_end e scope at j

  many : (k a b : ℕ) → flat_map one (range_with_len k (a + b)) ≡ flat_map one (range_with_len k a) ++ flat_map one (range_with_len (k + a) b)
  many k zero b = ap (λ (j : ℕ). flat_map one (range_with_len k j)) (let none : 0 + b ≡ b = omega arith in none) ∙ ap (λ (j : ℕ). flat_map one (range_with_len j b)) (let none : k ≡ k + 0 = omega arith in none)
  many k (suc a) b =
      ap (λ (j : ℕ). flat_map one (range_with_len k j)) (let more : suc a + b ≡ suc (a + b) = omega arith in more)
      ∙ ap (λ (zs : List Act). one k ++ zs) (many (k + 1) a b ∙ ap (λ (j : ℕ). flat_map one (range_with_len (k + 1) a) ++ flat_map one (range_with_len j b)) (let e : k + 1 + a ≡ k + suc a = omega arith in e))
      ∙ sym (append_assoc (one k) (flat_map one (range_with_len (k + 1) a)) (flat_map one (range_with_len (k + suc a) b)))

  -- what is left behind the first trips
  abbrev left : ℕ → List Act
  left k = trips e scope at trip (1 + (k - 1)) (e.count - (k - 1)) ++ loop_close e scope at

  -- the trips before one with number k, with the entry, come first
  pub trips_before : (seen : List Seen) (k : ℕ) → 1 ≤ k → k ≤ e.count → loop_acts seen e scope at trip ≡ (loop_entry seen e scope at ∷ trips e scope at trip 1 (k - 1)) ++ left k
  trips_before seen k from to =
      ap (λ (zs : List Act). loop_entry seen e scope at ∷ zs)
      (ap (λ (zs : List Act). zs ++ loop_close e scope at) (ap (λ (j : ℕ). trips e scope at trip 1 j) (let all : e.count ≡ (k - 1) + (e.count - (k - 1)) = omega (arith, from, to) in all) ∙ many 1 (k - 1) (e.count - (k - 1)))
      ∙ append_assoc (trips e scope at trip 1 (k - 1)) (trips e scope at trip (1 + (k - 1)) (e.count - (k - 1))) (loop_close e scope at))
