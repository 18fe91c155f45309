-- A program at which the premises of the laws hold: the bound 2*I+N of an inner DO, where N keeps its value.
use Rattle.std.proofs.Common.{◌≡◌, ℕ, ℤ, pos, List, [], ◌∷◌, ◌++◌, Bool, true, false, ◌||◌, take, drop, inl, inr, refl, sym, ap, subst, arith, ◌∙◌, negsuc, Some, None, Ok, if◌then◌else◌}
use Rattle.std.specs.Prelude.{codes}
use Rattle.ped_flow.specs.ped_base.specs.Lists.{is_same_text}
use Rattle.ped_graph.specs.ped_views.specs.declared.intervals.Interval.{Interval}
use Rattle.ped_graph.specs.ped_views.specs.Intervals.{Lies}
use Rattle.ped_graph.specs.ped_views.proofs.Products.{linear}
use Rattle.ped_flow.specs.ped_tree.specs.Tree.{ExprTree, Int, Var, Add, Mul, Head, Assign, Do, no_stmts, more_stmts, ProgramTree}
use Rattle.ped_eval.specs.ped_store.specs.Cells.{Scalar}
use Rattle.ped_eval.specs.ped_store.specs.Stores.{Number, Store, put, store_at_start, is_storable}
use Rattle.ped_eval.specs.ped_store.specs.Acts.{Act, entered}
use Rattle.ped_laws.specs.Acts.Fitting.{store_after}
use Rattle.ped_eval.specs.Runs.{run, run_all}
use Rattle.ped_eval.specs.Scopes.{Scope, Setting, names_in}
use Rattle.ped_eval.specs.Values.{value}
use Rattle.ped_flow.specs.ped_affine.specs.Ranges.{interval_of}
use Rattle.ped_flow.specs.ped_affine.specs.IntervalArithmetic.{interval}
use Rattle.ped_flow.specs.PlainBounds.{setting_round, IsFixed, IsPlain}
use Rattle.ped_flow.specs.Events.{has_value}
use Rattle.ped_flow.specs.Questions.{LoopOf, IsAssignedBefore}
use Rattle.ped_flow.proofs.Truths.{untrue}
use Rattle.ped_laws.specs.FlowRuns.Entries.{IsEntry}
use Rattle.ped_laws.proofs.CoveringLaws.Comings.{ok_one, some_one}
use Rattle.ped_laws.specs.Plain.PlainValues.{around_loop, AreInRange, HasPlainValue}
use Rattle.ped_laws.specs.Plain.Executions.{IsPlaceWith, LieInRanges, IsDuring, HasValueDuring}
use Rattle.ped_laws.proofs.PlainLaws.PlainValues.{plain_value}
use Rattle.ped_laws.proofs.PlainLaws.Standing.{value_during}

abbrev i : List ℕ
i = codes "I"

abbrev n : List ℕ
n = codes "N"

-- 2*I+N
abbrev bound : ExprTree
bound = Add (Mul (Int 2) (Var i)) (Var n)

abbrev head : List ℕ → ExprTree → Head
head x last = record { variable = x; first = Int 1; last = last; step = Int 1; parallel = false; private = []; rejected = [] }

-- N=5; DO 20 I=1,3; DO 10 J=1,2*I+N; 10 K=J; 20 CONTINUE
abbrev program : ProgramTree
program = record {
  decls = [];
  body = more_stmts (Assign (Var n) (Int 5))
      (more_stmts (Do (head i (Int 3)) (more_stmts (Do (head (codes "J") bound) (more_stmts (Assign (Var (codes "K")) (Var (codes "J"))) no_stmts)) no_stmts)) no_stmts);
}

-- N is assigned on the one path to the outer DO
before : IsAssignedBefore program 3 n
before path h = elim h [
  | inl none ↦ absurd none
  | inr r ↦ elim r.4 [ inl e ↦ ap (has_value n false) (r.2 ∙ (λ k. r.3 k ++ e.2 k)) | inr q ↦ absurd q.4 ]
]

fixed : IsFixed [] program 3 n
fixed = record { before = before; kept = refl; other = refl }

-- from 2*1-2147483648 to 2*3+2147483647
bound_lies : interval_of (setting_round [] program 3) (around_loop [] program 3) bound ≡ Some (interval (negsuc 2147483645) (pos 2147483653))
bound_lies = refl

plain : IsPlain [] program 3 bound
plain = record { built = inr (inr (inl ((λ h. absurd cc), inr (inl refl))), inr (inr fixed)); near = λ h. absurd cc }

-- I is 2 and N is 5
abbrev two_and_five : List ℕ → ℤ
two_and_five x = if is_same_text x i then pos 2 else pos 5

in_range : AreInRange [] program 3 two_and_five
in_range = record { indices = λ x r h. go (is_same_text x i) r h; scalars = λ x kept. small (is_same_text x i) }
  where
    go : (b : Bool) (r : Interval) → (if b then Some (interval (pos 1) (pos 3)) else None) ≡ Some r → Lies (if b then pos 2 else pos 5) r
    go true r h = subst (λ (q : Interval). Lies (pos 2) q) (some_one (interval (pos 1) (pos 3)) r h) (record { from = omega (arith, linear); to = omega (arith, linear) })
    go false r h = absurd cc

    small : (b : Bool) → is_storable (if b then pos 2 else pos 5) ≡ true
    small true = refl
    small false = refl

worth : HasPlainValue [] program 3 two_and_five bound
worth = plain_value [] program 3 two_and_five in_range bound plain refl

abbrev setting : Setting
setting = record { bounds = λ x. record { lower = []; upper = [] }; constants = []; number = λ k. k }

-- in the second iteration of the outer DO
abbrev scope : Scope
scope = record { turn = record { statement = 2; parallel = false; number = 2; value = pos 2 }; variable = i; private = [] } ∷ []

evaluated : (value (names_in setting scope) bound (put (Scalar n) (Number (pos 5)) (store_at_start []))).result ≡ Ok (pos 9)
evaluated = refl

-- the outer DO is entered behind the assignment, which leaves 5 in N
abbrev acts : List Act
acts = (run_all setting program.body 1 [] (store_at_start [])).acts

abbrev outer : LoopOf program 2
outer = record { head = head i (Int 3); body = more_stmts (Do (head (codes "J") bound) (more_stmts (Assign (Var (codes "K")) (Var (codes "J"))) no_stmts)) no_stmts; is = refl }

entry : IsEntry setting program (store_at_start []) 3 (take 1 acts)
entry = record { act = record { step = entered 3; place = record { statement = 2; turns = [] }; touches = [] }; behind = drop 2 acts; whole = refl; count = 3; enters = refl; outermost = refl; number = 2; loop = outer; is = refl; from = omega arith; to = omega arith }

abbrev two : List ℕ → ℤ
two x = pos 2

ranges : LieInRanges [] program 3 two
ranges x r h = go (is_same_text x i) h
  where
    go : (b : Bool) → (if b then Some (interval (pos 1) (pos 3)) else None) ≡ Some r → Lies (pos 2) r
    go true k = subst (λ (q : Interval). Lies (pos 2) q) (some_one (interval (pos 1) (pos 3)) r k) (record { from = omega (arith, linear); to = omega (arith, linear) })
    go false k = absurd cc

during : HasValueDuring setting program 3 two (store_after (take 1 acts) (store_at_start [])) bound
during = value_during setting program (λ a b e. e) refl (λ x h. refl) (store_at_start []) 3 (take 1 acts) entry two (λ x. refl) bound plain refl ranges

place : IsPlaceWith [] program 3 two scope
place = record { inside = (record { variable = refl; private = λ x h. untrue h }, tt); tells = λ x among. ap (λ (b : Bool). if b then Some (pos 2) else None) (only (is_same_text x i) among) }
  where
    only : (b : Bool) → (b || false) ≡ true → b ≡ true
    only true h = refl
    only false h = h

-- the store behind the entry of the outer DO and its first two acts
abbrev later : Store
later = store_after (take 2 (run setting (Do outer.head outer.body) 2 [] (store_after (take 1 acts) (store_at_start []))).acts) (store_after (take 1 acts) (store_at_start []))

is_during : IsDuring setting program 3 (store_after (take 1 acts) (store_at_start [])) later
is_during = record { loop = outer; done = take 2 (run setting (Do outer.head outer.body) 2 [] (store_after (take 1 acts) (store_at_start []))).acts; left = drop 2 (run setting (Do outer.head outer.body) 2 [] (store_after (take 1 acts) (store_at_start []))).acts; whole = refl; after = refl }

-- so the law's value is 9
worth_is : during.worth ≡ pos 9
worth_is = let e : Ok (pos 9) ≡ (value (names_in setting scope) bound later).result = refl in sym (ok_one (pos 9) during.worth (e ∙ during.comes scope place later is_during))
