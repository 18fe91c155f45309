-- Two executions of statements at one place of a run are one.
use Rattle.std.proofs.Common.{◌≡◌, ℕ, ◌+◌, ◌<◌, ◌≤◌, List, [], ◌∷◌, ◌++◌, Option, Some, None, Result, Ok, Err, inl, inr, refl, sym, ap, subst, ◌∙◌, append-nil, arith}
use Rattle.ped_bodies.specs.ped_flow.specs.ped_tree.specs.Tree.{StmtTree, StmtTrees, Assign, If, Do, Print, Read, Stop, Comment, no_stmts, more_stmts, ProgramTree}
use Rattle.ped_bodies.specs.ped_flow.specs.ped_tree.specs.Numbering.{statement_count, statements_count}
use Rattle.ped_bodies.specs.ped_store.specs.Stores.{Store}
use Rattle.ped_bodies.specs.ped_store.specs.Acts.{Touch, Step, Act, did, entered}
use Rattle.ped_bodies.specs.ped_laws.specs.Acts.Fitting.{store_after}
use Rattle.ped_bodies.specs.ped_laws.specs.Acts.Orders.{IsIn}
use Rattle.ped_bodies.specs.ped_eval.specs.Scopes.{Setting, Scope, turns_of, names_in, place_of}
use Rattle.ped_bodies.specs.ped_eval.specs.Evaluation.{Seen, numbered}
use Rattle.ped_bodies.specs.ped_eval.specs.Values.{truth}
use Rattle.ped_bodies.specs.ped_eval.specs.Statements.{Taking, assigned, assignment_touches, printed_line, print_touches, reading}
use Rattle.ped_bodies.specs.ped_eval.specs.Loops.{limits, entered_with, entry_touches}
use Rattle.ped_bodies.specs.ped_eval.specs.Runs.{Ending, going, stopped, failed, Run, followed_by, on_value, run_taking, run, run_all}
use Rattle.ped_bodies.specs.ped_laws.proofs.FlowRunLaws.Apart.{same_behind}
use Rattle.ped_loop_runs.specs.Executions.{IsActInside, IsExecuted}

-- acts that begin with one of so many statements from number n on
record BeginAt (p : Setting) (n count : ℕ) (S : Scope) (acts : List Act) : Type 0 where
  first : Act
  more : List Act
  is : acts ≡ first ∷ more
  inside : IsActInside p S n count first

module _ (p : Setting) where
  begin_wider : (n count m more : ℕ) (S : Scope) (acts : List Act) → m ≤ n → n + count ≤ m + more → BeginAt p n count S acts → BeginAt p m more S acts
  begin_wider n count m more S acts below above b =
      let x = b.inside in
      let from = x.from in
      let to = x.to in
      record { first = b.first; more = b.more; is = b.is; inside = record { number = x.number; from = omega (arith, from, below); to = omega (arith, to, above); is = x.is; more = x.more; turns = x.turns } }

  module _ (n count : ℕ) (some : 0 < count) (S : Scope) where
    begin : (step : Step) (touches : List Touch) (more : List Act) → BeginAt p n count S ((record { step = step; place = place_of p n S; touches = touches }) ∷ more)
    begin step touches more = record {
      first = record { step = step; place = place_of p n S; touches = touches };
      more = more;
      is = refl;
      inside = record { number = n; from = omega arith; to = omega (arith, some); is = refl; more = []; turns = sym (append-nil (turns_of S)) };
    }

    begin_on : {A : Type 0} (seen : List Seen) (r : Result A ℕ) (next : List Seen → A → Run) → ((x : A) → BeginAt p n count S (next seen x).acts) → BeginAt p n count S (on_value (place_of p n S) seen r next).acts
    begin_on seen (Ok x) next h = h x
    begin_on seen (Err fault) next h = begin _ (numbered 1 seen) []

    begin_followed : (acts : List Act) (e : Ending) (g : Store → Run) → BeginAt p n count S acts → BeginAt p n count S (followed_by acts e g).acts
    begin_followed acts (going u) g b = record { first = b.first; more = b.more ++ (g u).acts; is = ap (λ (z : List Act). z ++ (g u).acts) b.is; inside = b.inside }
    begin_followed acts (stopped u) g b = b
    begin_followed acts (failed fault k) g b = b

  taking_begins : (n : ℕ) (S : Scope) (x : Taking) (fault : Option ℕ) (s : Store) → BeginAt p n 1 S (run_taking (place_of p n S) x fault s).acts
  taking_begins n S x None s = begin n 1 (omega arith) S did _ []
  taking_begins n S x (Some k) s = begin n 1 (omega arith) S _ _ []

  run_begins : (x : StmtTree) (n : ℕ) (S : Scope) (s : Store) → 0 < statement_count x → BeginAt p n (statement_count x) S (run p x n S s).acts
  run_begins (Assign left right) n S s some = let e = assigned (names_in p S) left right s in begin_on n 1 (omega arith) S e.seen e.result _ (λ w. begin n 1 (omega arith) S did (assignment_touches e.seen w) [])
  run_begins (If c a b) n S s some = let e = truth (names_in p S) c s in begin_on n (statement_count (If c a b)) (omega arith) S e.seen e.result _ (λ holds. begin n (statement_count (If c a b)) (omega arith) S did (numbered 1 e.seen) _)
  run_begins (Do h b) n S s some =
      let e = limits (names_in p S) h s in
      begin_on n (statements_count b + 1) (omega arith) S e.seen e.result _ (λ l. begin n (statements_count b + 1) (omega arith) S (entered (entered_with p n h b e.seen l).count) (entry_touches e.seen (entered_with p n h b e.seen l) S) _)
  run_begins (Print items) n S s some = let e = printed_line (names_in p S) items s in begin_on n 1 (omega arith) S e.seen e.result _ (λ line. begin n 1 (omega arith) S did (print_touches e.seen line s) [])
  run_begins (Read items) n S s some = taking_begins n S (reading (names_in p S) items s) (reading (names_in p S) items s).fault s
  run_begins Stop n S s some = begin n 1 (omega arith) S did [] []
  run_begins (Comment text) n S s some = absurd (omega (arith, some))

  with_first : (x : StmtTree) (rest : StmtTrees) (n : ℕ) (S : Scope) (s : Store) → 0 < statement_count x → BeginAt p n (statement_count x + statements_count rest) S (run_all p (more_stmts x rest) n S s).acts
  with_first x rest n S s some =
      begin_followed n (statement_count x + statements_count rest) (omega (arith, some)) S (run p x n S s).acts (run p x n S s).ending (run_all p rest (n + statement_count x) S)
      (begin_wider n (statement_count x) n (statement_count x + statements_count rest) S (run p x n S s).acts (omega arith) (omega arith) (run_begins x n S s some))

  all_begin : (xs : StmtTrees) (n : ℕ) (S : Scope) (s : Store) → 0 < statements_count xs → BeginAt p n (statements_count xs) S (run_all p xs n S s).acts
  all_begin no_stmts n S s some = absurd (omega (arith, some))
  all_begin (more_stmts (Comment text) rest) n S s some = begin_wider (n + 0) (statements_count rest) n (0 + statements_count rest) S (run_all p rest (n + 0) S s).acts (omega arith) (omega arith) (all_begin rest (n + 0) S s (omega (arith, some)))
  all_begin (more_stmts (Assign left right) rest) n S s some = with_first (Assign left right) rest n S s (omega arith)
  all_begin (more_stmts (If c a b) rest) n S s some = with_first (If c a b) rest n S s (omega arith)
  all_begin (more_stmts (Do h b) rest) n S s some = with_first (Do h b) rest n S s (omega arith)
  all_begin (more_stmts (Print items) rest) n S s some = with_first (Print items) rest n S s (omega arith)
  all_begin (more_stmts (Read items) rest) n S s some = with_first (Read items) rest n S s (omega arith)
  all_begin (more_stmts Stop rest) n S s some = with_first Stop rest n S s (omega arith)

-- two lists that come to such an act behind acts of which none is such a one are parted alike
module _ (Q : Act → Type 0) where
  one_front : (front others : List Act) (a b : Act) (more rest : List Act) → ((x : Act) → IsIn x front → Q x → ⊥) → ((x : Act) → IsIn x others → Q x → ⊥) → Q a → Q b → front ++ a ∷ more ≡ others ++ b ∷ rest → front ≡ others
  one_front [] [] a b more rest none never q r e = refl
  one_front [] (y ∷ others) a b more rest none never q r e = let same : a ≡ y = cc in absurd (never y (inl refl) (subst Q same q))
  one_front (x ∷ front) [] a b more rest none never q r e = let same : x ≡ b = cc in absurd (none x (inl refl) (subst Q (sym same) r))
  one_front (x ∷ front) (y ∷ others) a b more rest none never q r e =
      let same : x ≡ y = cc in
      let behind : front ++ a ∷ more ≡ others ++ b ∷ rest = cc in
      λ i. same i ∷ one_front front others a b more rest (λ z k. none z (inr k)) (λ z k. never z (inr k)) q r behind i

module _ (p : Setting) (t : ProgramTree) (start : Store) (l : ℕ) (ts : StmtTrees) (some : 0 < statements_count ts) where
  abbrev Inside : Scope → Act → Type 0
  Inside S a = IsActInside p S l (statements_count ts) a

  in_same : (scope other : Scope) → turns_of other ≡ turns_of scope → (a : Act) → Inside other a → Inside scope a
  in_same scope other e a x = record { number = x.number; from = x.from; to = x.to; is = x.is; more = x.more; turns = x.turns ∙ ap (λ z. z ++ x.more) e }

  abbrev Executed : Scope → List Act → List Act → Store → Type 0
  Executed S front behind u = IsExecuted p t start l (statements_count ts) S front (run_all p ts l S u).acts behind u

  pub one_place : (scope other : Scope) (front others behind rest : List Act) (u v : Store) → turns_of other ≡ turns_of scope → Executed scope front behind u → Executed other others rest v → (front ≡ others) × (u ≡ v)
  one_place scope other front others behind rest u v e x y =
      let a = all_begin p ts l scope u some in
      let b = all_begin p ts l other v some in
      let whole : front ++ a.first ∷ (a.more ++ behind) ≡ others ++ b.first ∷ (b.more ++ rest) =
      sym (ap (λ (z : List Act). front ++ (z ++ behind)) a.is) ∙ (sym x.whole ∙ (y.whole ∙ ap (λ (z : List Act). others ++ (z ++ rest)) b.is)) in
      let front_is =
      one_front (Inside scope) front others a.first b.first (a.more ++ behind) (b.more ++ rest) (λ c i q. x.only_before c i q) (λ c i q. y.only_before c i (in_same other scope (sym e) c q)) a.inside (in_same scope other e b.first b.inside) whole in
      (front_is, x.from ∙ (ap (λ (z : List Act). store_after z start) front_is ∙ sym y.from))

  pub one_execution : (scope : Scope) (front others behind rest : List Act) (u v : Store) → Executed scope front behind u → Executed scope others rest v → behind ≡ rest
  one_execution scope front others behind rest u v x y =
      let same = one_place scope scope front others behind rest u v refl x y in
      let tail : (run_all p ts l scope u).acts ++ behind ≡ (run_all p ts l scope u).acts ++ rest =
      same_behind front ((run_all p ts l scope u).acts ++ behind) ((run_all p ts l scope u).acts ++ rest)
      (sym x.whole ∙ (y.whole ∙ (λ i. sym same.0 i ++ ((run_all p ts l scope (sym same.1 i)).acts ++ rest)))) in
      same_behind (run_all p ts l scope u).acts behind rest tail
