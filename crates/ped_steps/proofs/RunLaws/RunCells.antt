-- What holds of each cell that names stand for at a place, and further inside, holds of each cell that a run touches there; of the elements of arrays it has to hold within their bounds.
use Rattle.std.proofs.Common.{◌≡◌, ℕ, zero, suc, ◌+◌, ℤ, List, [], ◌∷◌, ◌++◌, length, Bool, true, false, eqb, Option, Some, None, Result, Ok, Err, if◌then◌else◌}
use Rattle.std.specs.Prelude.{◌&&◌}
use Rattle.ped_tree.specs.Tree.{ExprTree, CondTree, ItemTree, Head, StmtTree, StmtTrees, Assign, If, Do, Print, Read, Stop, Comment, no_stmts, more_stmts}
use Rattle.ped_tree.specs.Numbering.{statement_count, statements_count}
use Rattle.ped_weaves.specs.ped_store.specs.Cells.{Cell, Element, In, Out}
use Rattle.ped_weaves.specs.ped_store.specs.Stores.{Undefined, Number, Lines, Store, put, lines_in}
use Rattle.ped_weaves.specs.ped_store.specs.Acts.{is_told, Touch, Act, did, entered, ended_turn, closed}
use Rattle.ped_weaves.specs.ped_store.specs.Storage.{is_within}
use Rattle.ped_weaves.specs.ped_store.specs.DataLines.{Data, begun, Taken, next_value_of}
use Rattle.ped_weaves.specs.ped_eval.specs.Scopes.{Setting, Frame, Scope, cell_of, names_in, place_of}
use Rattle.ped_weaves.specs.ped_eval.specs.Evaluation.{Seen, cell_seen, index_seen, numbered, number_behind}
use Rattle.ped_weaves.specs.ped_eval.specs.Values.{is_rank, truth, target}
use Rattle.ped_weaves.specs.ped_eval.specs.Statements.{Stored, assigned, printed_line, into_item, with_taken, taking, taking_from, reading, reading_touches, read_touch, write_touch}
use Rattle.ped_weaves.specs.ped_eval.specs.Loops.{Limits, limits, Entered, entered_with, frame, undefined_by, undefined_all, left_in_variable, exit_touches, exit_when_none}
use Rattle.ped_weaves.specs.ped_eval.specs.Runs.{Run, nothing_done, does, run_assignment, run_print, run_taking, run_if, run_do, turns, parallel_turns, run_entered, run, run_all}
use Rattle.ped_weaves.specs.ped_laws.proofs.RunLaws.SeenCells.{AllSeen, OfResult}
use Rattle.ped_weaves.specs.ped_laws.proofs.RunLaws.Touches.{Each, each_none, each_more, each_append, then_each, does_each, on_each, any_result}
use Rattle.ped_steps.proofs.RunLaws.SeenElements.{truth_seen, target_seen, target_is, line_seen, limits_seen, assigned_seen, assigned_is}

-- each DO in a statement with number n is of this kind, by its number, its head and its body
abbrev mutual
  pub EachDo : (ℕ → Head → StmtTrees → Type 0) → StmtTree → ℕ → Type 0
  EachDo Q (Assign left right) n = Unit {0}
  EachDo Q (If c a b) n = EachDos Q a (n + 1) × EachDos Q b (n + 1 + statements_count a)
  EachDo Q (Do h body) n = Q n h body × EachDos Q body (n + 1)
  EachDo Q (Print items) n = Unit {0}
  EachDo Q (Read items) n = Unit {0}
  EachDo Q Stop n = Unit {0}
  EachDo Q (Comment text) n = Unit {0}

  pub EachDos : (ℕ → Head → StmtTrees → Type 0) → StmtTrees → ℕ → Type 0
  EachDos Q no_stmts n = Unit {0}
  EachDos Q (more_stmts t rest) n = EachDo Q t n × EachDos Q rest (n + statement_count t)

module _ (p : Setting) (Q : ℕ → Head → StmtTrees → Type 0) (P : Scope → Cell → Type 0) (scalar : (S : Scope) (x : List ℕ) → P S (cell_of S x)) (element : (S : Scope) (x : List ℕ) (js : List ℤ) → (is_rank (length js) && is_within (p.bounds x) js) ≡ true → P S (Element x js)) (input : (S : Scope) → P S In) (output : (S : Scope) → P S Out)
    (outward : (n : ℕ) (h : Head) (body : StmtTrees) (seen : List Seen) (l : Limits) (k : ℕ) (S : Scope) (c : Cell) → Q n h body → P (frame (entered_with p n h body seen l) k ∷ S) c → P S c) where
  -- a touch of such a cell, and an act of such touches
  abbrev Has : Scope → Touch → Type 0
  Has S t = P S t.cell

  abbrev pub Keeps : Scope → Act → Type 0
  Keeps S a = Each (Has S) a.touches

  outward_acts : (n : ℕ) (h : Head) (body : StmtTrees) (seen : List Seen) (l : Limits) (k : ℕ) (S : Scope) (acts : List Act) → Q n h body → Each (Keeps (frame (entered_with p n h body seen l) k ∷ S)) acts → Each (Keeps S) acts
  outward_acts n h body seen l k S acts q each a i t j = outward n h body seen l k S t.cell q (each a i t j)

  numbered_has : (S : Scope) (n : ℕ) (seen : List Seen) → AllSeen (P S) seen → Each (Has S) (numbered n seen)
  numbered_has S n [] a = each_none (Has S)
  numbered_has S n (cell_seen c content ∷ more) a = each_more (Has S) (read_touch c content n) (numbered (suc n) more) a.0 (numbered_has S (suc n) more a.1)
  numbered_has S n (index_seen c v ∷ more) a = each_more (Has S) (record { cell = c; manner = is_told; content = Number v; reference = 0 }) (numbered n more) a.0 (numbered_has S n more a.1)

  one_has : (S : Scope) (t : Touch) → P S t.cell → Each (Has S) (t ∷ [])
  one_has S t h = each_more (Has S) t [] h (each_none (Has S))

  one_keeps : (S : Scope) (a : Act) → Keeps S a → Each (Keeps S) (a ∷ [])
  one_keeps S a h = each_more (Keeps S) a [] h (each_none (Keeps S))

  module _ (S : Scope) where
    private_has : (n : ℕ) (xs : List (List ℕ)) → Each (Has S) (undefined_by S n xs)
    private_has n [] = each_none (Has S)
    private_has n (x ∷ xs) = each_more (Has S) (write_touch (cell_of S x) Undefined n) (undefined_by S (suc n) xs) (scalar S x) (private_has (suc n) xs)

    inner_has : (xs : List (List ℕ)) → Each (Has S) (undefined_all S xs)
    inner_has [] = each_none (Has S)
    inner_has (x ∷ xs) = each_more (Has S) (write_touch (cell_of S x) Undefined 0) (undefined_all S xs) (scalar S x) (inner_has xs)

    exit_has : (e : Entered) → Each (Has S) (exit_touches e S)
    exit_has e =
        each_more (Has S) (write_touch (cell_of S e.head.variable) (left_in_variable e) 0) (undefined_by S e.behind_bounds e.head.private ++ undefined_all S e.inner) (scalar S e.head.variable)
        (each_append (Has S) (undefined_by S e.behind_bounds e.head.private) (undefined_all S e.inner) (private_has e.behind_bounds e.head.private) (inner_has e.inner))

    exit_when_has : (n : ℕ) (e : Entered) → Each (Has S) (exit_when_none n e S)
    exit_when_has n e = go (eqb n 0)
      where
        go : (b : Bool) → Each (Has S) (if b then exit_touches e S else [])
        go true = exit_has e
        go false = each_none (Has S)

    module _ (n : ℕ) (e : Entered) (body : Frame → Store → Run) (bodies : (k : ℕ) (s : Store) → Each (Keeps S) (body (frame e k) s).acts) where
      turns_keep : (left k : ℕ) (s : Store) → Each (Keeps S) (turns left k e S (place_of p n S) body s).acts
      turns_keep zero k s = each_none (Keeps S)
      turns_keep (suc left) k s =
          then_each (Keeps S) (body (frame e k) s) (does (ended_turn left) (place_of p n S) (exit_when_none left e S) (turns left (k + 1) e S (place_of p n S) body)) (bodies k s)
          (λ u. does_each (Keeps S) (ended_turn left) (place_of p n S) (exit_when_none left e S) (turns left (k + 1) e S (place_of p n S) body) u (exit_when_has left e) (turns_keep left (k + 1)))

      parallel_keep : (left k : ℕ) (s : Store) → Each (Keeps S) (parallel_turns left k e body s).acts
      parallel_keep zero k s = each_none (Keeps S)
      parallel_keep (suc left) k s = then_each (Keeps S) (body (frame e k) s) (parallel_turns left (k + 1) e body) (bodies k s) (parallel_keep left (k + 1))

      entered_keep : (b : Bool) (count : ℕ) (s : Store) → Each (Keeps S) (run_entered b count e S (place_of p n S) body s).acts
      entered_keep b zero s = each_none (Keeps S)
      entered_keep false (suc count) s = turns_keep (suc count) 1 s
      entered_keep true (suc count) s =
          then_each (Keeps S) (parallel_turns (suc count) 1 e body s) (does closed (place_of p n S) (exit_touches e S) nothing_done) (parallel_keep (suc count) 1 s)
          (λ u. does_each (Keeps S) closed (place_of p n S) (exit_touches e S) nothing_done u (exit_has e) (λ v. each_none (Keeps S)))

    -- the items of a READ
    item_has : (rest : List ExprTree) → ((n : ℕ) (d : Data) (s : Store) → Each (Has S) (taking (names_in p S) rest n d s).touches) → (n : ℕ) (left : Data) (v : ℤ) (s : Store) (seen : List Seen) (r : Result Cell ℕ) → AllSeen (P S) seen → OfResult (P S) r
        → Each (Has S) (into_item n left v seen r (λ m c. taking (names_in p S) rest m left (put c (Number v) s))).touches
    item_has rest more n left v s seen (Err fault) a o = numbered_has S n seen a
    item_has rest more n left v s seen (Ok c) a o =
        let w = write_touch c (Number v) (number_behind n seen) in
        each_append (Has S) (numbered n seen ++ w ∷ []) (taking (names_in p S) rest (suc (number_behind n seen)) left (put c (Number v) s)).touches
        (each_append (Has S) (numbered n seen) (w ∷ []) (numbered_has S n seen a) (one_has S w o)) (more (suc (number_behind n seen)) left (put c (Number v) s))

    taken_has : (rest : List ExprTree) → ((n : ℕ) (d : Data) (s : Store) → Each (Has S) (taking (names_in p S) rest n d s).touches) → (item : ExprTree) (n : ℕ) (d : Data) (s : Store) (t : Result Taken ℕ)
        → Each (Has S) (with_taken d t (λ v left. into_item n left v (target (names_in p S) item s).seen (target (names_in p S) item s).result λ m c. taking (names_in p S) rest m left (put c (Number v) s))).touches
    taken_has rest more item n d s (Err fault) = each_none (Has S)
    taken_has rest more item n d s (Ok t) =
        item_has rest more n t.behind t.value s (target (names_in p S) item s).seen (target (names_in p S) item s).result (target_seen (P S) (names_in p S) (scalar S) (element S) item s) (target_is (P S) (names_in p S) (scalar S) (element S) item s)

    taking_has : (items : List ExprTree) (n : ℕ) (d : Data) (s : Store) → Each (Has S) (taking (names_in p S) items n d s).touches
    taking_has [] n d s = each_none (Has S)
    taking_has (item ∷ rest) n d s = taken_has rest (taking_has rest) item n d s (next_value_of d)

    from_has : (items : List ExprTree) (b : Result Data ℕ) (s : Store) → Each (Has S) (taking_from (names_in p S) items b s).touches
    from_has items (Ok d) s = taking_has items 2 d s
    from_has items (Err fault) s = each_none (Has S)

    module _ (n : ℕ) (s : Store) where
      read_has : (items : List ExprTree) → Each (Has S) (reading_touches (reading (names_in p S) items s) s)
      read_has items =
          let t = reading (names_in p S) items s in
          each_more (Has S) (read_touch In (s In) 0) (write_touch In (Lines t.left.lines) 1 ∷ t.touches) (input S) (each_more (Has S) (write_touch In (Lines t.left.lines) 1) t.touches (input S) (from_has items (begun (lines_in (s In))) s))

      taking_keeps : (items : List ExprTree) (fault : Option ℕ) → Each (Keeps S) (run_taking (place_of p n S) (reading (names_in p S) items s) fault s).acts
      taking_keeps items None = one_keeps S _ (read_has items)
      taking_keeps items (Some k) = one_keeps S _ (read_has items)

      assignment_keeps : (left right : ExprTree) → Each (Keeps S) (run_assignment (names_in p S) (place_of p n S) left right s).acts
      assignment_keeps left right =
          let e = assigned (names_in p S) left right s in
          let a = assigned_seen (P S) (names_in p S) (scalar S) (element S) left right s in
          on_each (Keeps S) (λ (w : Stored). P S w.cell) (place_of p n S) e.seen e.result _ (assigned_is (P S) (names_in p S) (scalar S) (element S) left right s) (numbered_has S 1 e.seen a)
          (λ w o. one_keeps S _ (each_append (Has S) (numbered 1 e.seen) (write_touch w.cell (Number w.number) (number_behind 1 e.seen) ∷ []) (numbered_has S 1 e.seen a) (one_has S (write_touch w.cell (Number w.number) (number_behind 1 e.seen)) o)))

      print_keeps : (items : List ItemTree) → Each (Keeps S) (run_print (names_in p S) (place_of p n S) items s).acts
      print_keeps items =
          let e = printed_line (names_in p S) items s in
          let a = line_seen (P S) (names_in p S) (scalar S) (element S) items s in
          on_each (Keeps S) (λ (line : List ℕ). Unit {0}) (place_of p n S) e.seen e.result _ (any_result e.result) (numbered_has S 1 e.seen a)
          (λ line o. one_keeps S _ (each_append (Has S) (numbered 1 e.seen) (read_touch Out (s Out) 0 ∷ (write_touch Out (Lines (lines_in (s Out) ++ line ∷ [])) (number_behind 1 e.seen) ∷ [])) (numbered_has S 1 e.seen a)
          (each_more (Has S) (read_touch Out (s Out) 0) (write_touch Out (Lines (lines_in (s Out) ++ line ∷ [])) (number_behind 1 e.seen) ∷ []) (output S) (one_has S (write_touch Out (Lines (lines_in (s Out) ++ line ∷ [])) (number_behind 1 e.seen)) (output S)))))

      part_keeps : (f g : Store → Run) → ((u : Store) → Each (Keeps S) (f u).acts) → ((u : Store) → Each (Keeps S) (g u).acts) → (b : Bool) (u : Store) → Each (Keeps S) ((if b then f else g) u).acts
      part_keeps f g h k true u = h u
      part_keeps f g h k false u = k u

      if_keeps : (c : CondTree) (f g : Store → Run) → ((u : Store) → Each (Keeps S) (f u).acts) → ((u : Store) → Each (Keeps S) (g u).acts) → Each (Keeps S) (run_if (names_in p S) (place_of p n S) c f g s).acts
      if_keeps c f g h k =
          let e = truth (names_in p S) c s in
          let a = truth_seen (P S) (names_in p S) (scalar S) (element S) c s in
          on_each (Keeps S) (λ (holds : Bool). Unit {0}) (place_of p n S) e.seen e.result _ (any_result e.result) (numbered_has S 1 e.seen a)
          (λ holds o. does_each (Keeps S) did (place_of p n S) (numbered 1 e.seen) (if holds then f else g) s (numbered_has S 1 e.seen a) (part_keeps f g h k holds))

      do_keeps : (h : Head) (statements : StmtTrees) (body : Frame → Store → Run) → ((seen : List Seen) (l : Limits) (k : ℕ) (u : Store) → Each (Keeps S) (body (frame (entered_with p n h statements seen l) k) u).acts) → Each (Keeps S) (run_do p n S h statements body s).acts
      do_keeps h statements body bodies =
          let l = limits (names_in p S) h s in
          let a = limits_seen (P S) (names_in p S) (scalar S) (element S) h s in
          on_each (Keeps S) (λ (limits : Limits). Unit {0}) (place_of p n S) l.seen l.result _ (any_result l.result) (numbered_has S 1 l.seen a)
          (λ limits o.
          let e = entered_with p n h statements l.seen limits in
          does_each (Keeps S) (entered e.count) (place_of p n S) (numbered 1 l.seen ++ exit_when_none e.count e S) (run_entered h.parallel e.count e S (place_of p n S) body) s
          (each_append (Has S) (numbered 1 l.seen) (exit_when_none e.count e S) (numbered_has S 1 l.seen a) (exit_when_has e.count e))
          (entered_keep n e body (bodies l.seen limits) h.parallel e.count))

  mutual
    pub run_keeps : (t : StmtTree) (n : ℕ) (S : Scope) (s : Store) → EachDo Q t n → Each (Keeps S) (run p t n S s).acts
    run_keeps (Assign left right) n S s q = assignment_keeps S n s left right
    run_keeps (If c a b) n S s q =
        if_keeps S n s c (run_all p a (n + 1) S) (run_all p b (n + 1 + statements_count a) S) (λ u. all_keep a (n + 1) S u q.0) (λ u. all_keep b (n + 1 + statements_count a) S u q.1)
    run_keeps (Do h body) n S s q =
        do_keeps S n s h body (λ f. run_all p body (n + 1) (f ∷ S))
        (λ seen l k u. outward_acts n h body seen l k S (run_all p body (n + 1) (frame (entered_with p n h body seen l) k ∷ S) u).acts q.0 (all_keep body (n + 1) (frame (entered_with p n h body seen l) k ∷ S) u q.1))
    run_keeps (Print items) n S s q = print_keeps S n s items
    run_keeps (Read items) n S s q = taking_keeps S n s items (reading (names_in p S) items s).fault
    run_keeps Stop n S s q = one_keeps S _ (each_none (Has S))
    run_keeps (Comment text) n S s q = each_none (Keeps S)

    pub all_keep : (ts : StmtTrees) (n : ℕ) (S : Scope) (s : Store) → EachDos Q ts n → Each (Keeps S) (run_all p ts n S s).acts
    all_keep no_stmts n S s q = each_none (Keeps S)
    all_keep (more_stmts t rest) n S s q = then_each (Keeps S) (run p t n S s) (run_all p rest (n + statement_count t) S) (run_keeps t n S s q.0) (λ u. all_keep rest (n + statement_count t) S u q.1)
