-- What the acts of a run write by no reference: a DO that is left stores its variable, and a PARALLEL DO those of the DO loops in it.
use Rattle.std.proofs.Common.{◌≡◌, ℕ, zero, suc, ◌+◌, ◌<◌, List, [], ◌∷◌, ◌++◌, Bool, true, false, ◌||◌, eqb, refl, sym, ap, ◌∙◌, ◌⊎◌, inl, inr, arith, if◌then◌else◌}
use Rattle.std.proofs.lemmas.Bool.{or_right}
use Rattle.ped_base.specs.Lists.{is_same_text, is_among}
use Rattle.ped_tree.specs.Tree.{StmtTree, StmtTrees, Assign, If, Do, Print, Read, Stop, Comment, no_stmts, more_stmts, ProgramTree}
use Rattle.ped_tree.specs.Numbering.{numbered as statements_of, all_numbered, statement_count, statements_count}
use Rattle.ped_tree.specs.NamesIn.{loop_variables, all_loop_variables}
use Rattle.ped_session.specs.ped_flow.specs.Questions.{LoopOf}
use Rattle.ped_session.specs.ped_rules.specs.ped_store.specs.Cells.{Cell, Private}
use Rattle.ped_session.specs.ped_rules.specs.ped_store.specs.Stores.{Undefined, Number, Store}
use Rattle.ped_session.specs.ped_rules.specs.ped_store.specs.Acts.{Manner, reads, writes, is_told, Touch, Turn, Place, Act, did, entered, ended_turn, closed, iterations_of}
use Rattle.ped_session.specs.ped_rules.specs.ped_eval.specs.Scopes.{Setting, Frame, Scope, turns_of, cell_of, names_in, place_of}
use Rattle.ped_session.specs.ped_rules.specs.ped_eval.specs.Evaluation.{Seen, cell_seen, index_seen, numbered, number_behind}
use Rattle.ped_session.specs.ped_rules.specs.ped_eval.specs.Values.{truth}
use Rattle.ped_session.specs.ped_rules.specs.ped_eval.specs.Statements.{read_touch, write_touch}
use Rattle.ped_session.specs.ped_rules.specs.ped_eval.specs.Loops.{limits, Entered, entered_with, frame, inner_variables, undefined_by, undefined_all, exit_touches, exit_when_none, left_in_variable}
use Rattle.ped_session.specs.ped_rules.specs.ped_eval.specs.Runs.{Run, nothing_done, does, turns, parallel_turns, run_entered, run, run_all}
use Rattle.ped_session.specs.ped_rules.specs.ped_eval.specs.Outcomes.{setting_of}
use Rattle.ped_session.specs.ped_laws.proofs.ActLaws.SameCells.{text_itself}
use Rattle.ped_session.specs.ped_laws.proofs.RunLaws.Touches.{Each, each_none, each_more, each_append, then_each, does_each, on_each, any_result, Fine, run_good}
use Rattle.ped_session.specs.ped_laws.proofs.RunLaws.Turning.{inner_among}
use Rattle.ped_session.specs.ped_laws.proofs.FlowRunLaws.Standing.{Stand, whole_stands, first_stands, rest_stands, inner_stands, else_stands, is_there}
use Rattle.ped_answer.specs.Covered.{IsCellOf}

-- this DO stores the cell itself
pub record IsStoredBy (t : ProgramTree) (n : ℕ) (c : Cell) : Type 0 where
  pub loop : LoopOf t n
  pub name : List ℕ
  pub which : (name ≡ loop.head.variable) ⊎ ((loop.head.parallel ≡ true) × (is_among name (all_loop_variables loop.body) ≡ true))
  pub cell : IsCellOf name c

-- a write of the statement with this number is made by a reference, or by the DO itself
abbrev pub Stores : ProgramTree → ℕ → Manner → Cell → ℕ → Type 0
Stores t n reads c r = Unit {0}
Stores t n is_told c r = Unit {0}
Stores t n writes c r = (0 < r) ⊎ IsStoredBy t n c

abbrev TouchStores : ProgramTree → ℕ → Touch → Type 0
TouchStores t n touch = Stores t n touch.manner touch.cell touch.reference

abbrev pub ActStores : ProgramTree → Act → Type 0
ActStores t a = Each (TouchStores t a.place.statement) a.touches

-- a scalar stands for a cell of its name
cell_of_name : (scope : Scope) (x : List ℕ) → IsCellOf x (cell_of scope x)
cell_of_name [] x = refl
cell_of_name (f ∷ fs) x = go (is_among x f.private) (cell_of_name fs x)
  where
    go : (b : Bool) → IsCellOf x (cell_of fs x) → IsCellOf x (if b then Private x (iterations_of (turns_of (f ∷ fs))) else cell_of fs x)
    go true h = refl
    go false h = h

behind_first : (n : ℕ) (seen : List Seen) → 0 < n → 0 < number_behind n seen
behind_first n [] h = h
behind_first n (cell_seen c content ∷ more) h = behind_first (suc n) more (omega arith)
behind_first n (index_seen c v ∷ more) h = behind_first n more h

-- the DO loops whose variables a DO stores beside its own are in a PARALLEL DO
inner_is : (parallel : Bool) (body : StmtTrees) (x : List ℕ) → is_among x (inner_variables parallel body) ≡ true → (parallel ≡ true) × (is_among x (all_loop_variables body) ≡ true)
inner_is true body x h = (refl, inner_among true body x h)
inner_is false body x h = absurd cc

-- a statement in which no DO is stores by references
abbrev Never : List Turn → Cell → Type 0
Never ts c = ⊥

by_references : (t : ProgramTree) (n : ℕ) (ts : List Turn) (m : Manner) (c : Cell) (r : ℕ) → Fine Never ts m c r → Stores t n m c r
by_references t n ts reads c r f = tt
by_references t n ts is_told c r f = tt
by_references t n ts writes c r f = elim f.0 [ inl less ↦ inl less | inr never ↦ absurd never ]

module _ (t : ProgramTree) where
  abbrev Own : Setting
  Own = setting_of t

  plain_store : (s : StmtTree) → loop_variables s ≡ [] → (n : ℕ) (scope : Scope) (u : Store) → Each (ActStores t) (run Own s n scope u).acts
  plain_store s none n scope u a i v j =
      let good = run_good Never (λ scope x. ⊥) (λ scope x h. h) (λ scope e k body q h x j. h x j) Own s n scope u (λ x k. let e = sym (ap (is_among x) none) ∙ k in cc) a i in
      by_references t a.place.statement a.place.turns v.manner v.cell v.reference (good.0 v j)

  module _ (n : ℕ) where
    abbrev TheseStore : List Touch → Type 0
    TheseStore touches = Each (TouchStores t n) touches

    numbered_store : (k : ℕ) (seen : List Seen) → TheseStore (numbered k seen)
    numbered_store k [] = each_none (TouchStores t n)
    numbered_store k (cell_seen c content ∷ more) = each_more (TouchStores t n) (read_touch c content k) (numbered (suc k) more) tt (numbered_store (suc k) more)
    numbered_store k (index_seen c v ∷ more) = each_more (TouchStores t n) (record { cell = c; manner = is_told; content = Number v; reference = 0 }) (numbered k more) tt (numbered_store k more)

    module _ (scope : Scope) where
      abbrev at : Place
      at = place_of Own n scope

      -- what a DO writes when it is left
      private_store : (k : ℕ) (xs : List (List ℕ)) → 0 < k → TheseStore (undefined_by scope k xs)
      private_store k [] h = each_none (TouchStores t n)
      private_store k (x ∷ xs) h = each_more (TouchStores t n) (write_touch (cell_of scope x) Undefined k) (undefined_by scope (suc k) xs) (inl h) (private_store (suc k) xs (omega arith))

      inner_store : (xs : List (List ℕ)) → ((x : List ℕ) → is_among x xs ≡ true → IsStoredBy t n (cell_of scope x)) → TheseStore (undefined_all scope xs)
      inner_store [] h = each_none (TouchStores t n)
      inner_store (x ∷ xs) h =
          each_more (TouchStores t n) (write_touch (cell_of scope x) Undefined 0) (undefined_all scope xs)
          (inr (h x (ap (λ (b : Bool). b || is_among x xs) (text_itself x))))
          (inner_store xs (λ y i. h y (or_right (is_same_text y x) (is_among y xs) i)))

      module _ (e : Entered) (behind : 0 < e.behind_bounds) (variable : IsStoredBy t n (cell_of scope e.head.variable)) (inner : (x : List ℕ) → is_among x e.inner ≡ true → IsStoredBy t n (cell_of scope x)) where
        exit_store : TheseStore (exit_touches e scope)
        exit_store =
            each_more (TouchStores t n) (write_touch (cell_of scope e.head.variable) (left_in_variable e) 0) (undefined_by scope e.behind_bounds e.head.private ++ undefined_all scope e.inner) (inr variable)
            (each_append (TouchStores t n) (undefined_by scope e.behind_bounds e.head.private) (undefined_all scope e.inner) (private_store e.behind_bounds e.head.private behind) (inner_store e.inner inner))

        exit_when_store : (k : ℕ) → TheseStore (exit_when_none k e scope)
        exit_when_store k = go (eqb k 0)
          where
            go : (b : Bool) → TheseStore (if b then exit_touches e scope else [])
            go true = exit_store
            go false = each_none (TouchStores t n)

        -- the turns of a DO
        module _ (body : Frame → Store → Run) (bodies : (k : ℕ) (s : Store) → Each (ActStores t) (body (frame e k) s).acts) where
          turns_store : (left k : ℕ) (s : Store) → Each (ActStores t) (turns left k e scope at body s).acts
          turns_store zero k s = each_none (ActStores t)
          turns_store (suc left) k s =
              then_each (ActStores t) (body (frame e k) s) (does (ended_turn left) at (exit_when_none left e scope) (turns left (k + 1) e scope at body)) (bodies k s)
              (λ u. does_each (ActStores t) (ended_turn left) at (exit_when_none left e scope) (turns left (k + 1) e scope at body) u (exit_when_store left) (turns_store left (k + 1)))

          parallel_store : (left k : ℕ) (s : Store) → Each (ActStores t) (parallel_turns left k e body s).acts
          parallel_store zero k s = each_none (ActStores t)
          parallel_store (suc left) k s = then_each (ActStores t) (body (frame e k) s) (parallel_turns left (k + 1) e body) (bodies k s) (parallel_store left (k + 1))

          entered_store : (b : Bool) (count : ℕ) (s : Store) → Each (ActStores t) (run_entered b count e scope at body s).acts
          entered_store b zero s = each_none (ActStores t)
          entered_store false (suc count) s = turns_store (suc count) 1 s
          entered_store true (suc count) s =
              then_each (ActStores t) (parallel_turns (suc count) 1 e body s) (does closed at (exit_touches e scope) nothing_done) (parallel_store (suc count) 1 s)
              (λ u. does_each (ActStores t) closed at (exit_touches e scope) nothing_done u exit_store (λ v. each_none (ActStores t)))

  part_store : (f h : Store → Run) → ((u : Store) → Each (ActStores t) (f u).acts) → ((u : Store) → Each (ActStores t) (h u).acts) → (b : Bool) (u : Store) → Each (ActStores t) ((if b then f else h) u).acts
  part_store f h k l true u = k u
  part_store f h k l false u = l u

  mutual
    run_store : (s : StmtTree) (n : ℕ) (scope : Scope) (u : Store) → Stand t n (statements_of s) → Each (ActStores t) (run Own s n scope u).acts
    run_store (Assign left right) n scope u w = plain_store (Assign left right) refl n scope u
    run_store (Print items) n scope u w = plain_store (Print items) refl n scope u
    run_store (Read items) n scope u w = plain_store (Read items) refl n scope u
    run_store Stop n scope u w = plain_store Stop refl n scope u
    run_store (Comment text) n scope u w = plain_store (Comment text) refl n scope u
    run_store (If c a b) n scope u w =
        let e = truth (names_in Own scope) c u in
        let read = numbered_store n 1 e.seen in
        let rest = inner_stands t (If c a b) (all_numbered a ++ all_numbered b) n w in
        on_each (ActStores t) (λ x. Unit {0}) (place_of Own n scope) e.seen e.result _ (any_result e.result) read
        (λ holds o. does_each (ActStores t) did (place_of Own n scope) (numbered 1 e.seen) (if holds then run_all Own a (n + 1) scope else run_all Own b (n + 1 + statements_count a) scope) u read
        (part_store (run_all Own a (n + 1) scope) (run_all Own b (n + 1 + statements_count a) scope)
        (λ v. all_store a (n + 1) scope v (first_stands t (n + 1) (all_numbered a) (all_numbered b) rest))
        (λ v. all_store b (n + 1 + statements_count a) scope v (else_stands t a b (n + 1) rest))
        holds))
    run_store (Do h body) n scope u w =
        let l = limits (names_in Own scope) h u in
        let read = numbered_store n 1 l.seen in
        let loop : LoopOf t n = record { head = h; body = body; is = is_there t (Do h body) (all_numbered body) n w } in
        let variable : IsStoredBy t n (cell_of scope h.variable) = record { loop = loop; name = h.variable; which = inl refl; cell = cell_of_name scope h.variable } in
        let inner : (x : List ℕ) → is_among x (inner_variables h.parallel body) ≡ true → IsStoredBy t n (cell_of scope x) =
        λ x i. record { loop = loop; name = x; which = inr (inner_is h.parallel body x i); cell = cell_of_name scope x } in
        let behind = behind_first 1 l.seen (omega arith) in
        on_each (ActStores t) (λ x. Unit {0}) (place_of Own n scope) l.seen l.result _ (any_result l.result) read
        (λ bounds o.
        let e = entered_with Own n h body l.seen bounds in
        does_each (ActStores t) (entered e.count) (place_of Own n scope) (numbered 1 l.seen ++ exit_when_none e.count e scope) (run_entered h.parallel e.count e scope (place_of Own n scope) (λ f. run_all Own body (n + 1) (f ∷ scope))) u
        (each_append (TouchStores t n) (numbered 1 l.seen) (exit_when_none e.count e scope) read (exit_when_store n scope e behind variable inner e.count))
        (entered_store n scope e behind variable inner (λ f. run_all Own body (n + 1) (f ∷ scope))
        (λ k v. all_store body (n + 1) (frame e k ∷ scope) v (inner_stands t (Do h body) (all_numbered body) n w))
        h.parallel e.count))

    all_store : (ss : StmtTrees) (n : ℕ) (scope : Scope) (u : Store) → Stand t n (all_numbered ss) → Each (ActStores t) (run_all Own ss n scope u).acts
    all_store no_stmts n scope u w = each_none (ActStores t)
    all_store (more_stmts s rest) n scope u w =
        then_each (ActStores t) (run Own s n scope u) (run_all Own rest (n + statement_count s) scope)
        (run_store s n scope u (first_stands t n (statements_of s) (all_numbered rest) w))
        (λ v. all_store rest (n + statement_count s) scope v (rest_stands t s rest n w))

-- so it is in the run of a program
pub program_stores : (t : ProgramTree) (s : Store) → Each (ActStores t) (run_all (setting_of t) t.body 1 [] s).acts
program_stores t s = all_store t t.body 1 [] s (whole_stands t)
