-- The order of the accesses of a run, statement by statement.
use Rattle.std.proofs.Common.{◌≡◌, ℕ, ◌+◌, ◌<◌, List, [], ◌∷◌, ◌++◌, length, Bool, true, false, eqb-true, Option, Some, None, refl, sym, ap, subst, ◌∙◌, arith, if◌then◌else◌}
use Rattle.ped_flow.specs.ped_tree.specs.Tree.{StmtTree, StmtTrees, Assign, If, Do, Print, Read, Stop, Comment, no_stmts, more_stmts, ProgramTree}
use Rattle.ped_flow.specs.ped_tree.specs.Numbering.{numbered, all_numbered, at_place, statement_with, statement_count, statements_count}
use Rattle.ped_flow.specs.ped_tree.proofs.Numbers.{length-numbered, length-all_numbered, at_place-front, at_place-back}
use Rattle.ped_eval.specs.ped_store.specs.Stores.{Store}
use Rattle.ped_eval.specs.ped_store.specs.Acts.{Turn, did, faulted}
use Rattle.ped_eval.specs.ped_store.specs.Races.{Access}
use Rattle.ped_eval.specs.Scopes.{Scope, Setting, names_in, place_of}
use Rattle.ped_eval.specs.Evaluation.{numbered as numbered_reads}
use Rattle.ped_eval.specs.Values.{truth}
use Rattle.ped_eval.specs.Statements.{assigned, assignment_touches, printed_line, print_touches, Taking, reading, reading_touches}
use Rattle.ped_eval.specs.Loops.{limits, entered_with, frame}
use Rattle.ped_eval.specs.Runs.{Run, run_taking, run, run_all}
use Rattle.ped_eval.specs.Outcomes.{setting_of}
use Rattle.ped_laws.specs.Conflicts.Sequence.{ComesBefore}
use Rattle.ped_laws.specs.Conflicts.Covered.{ComeInRun}
use Rattle.ped_laws.proofs.ConflictLaws.SequencePairs.{Pairwise, pair_of}
use Rattle.ped_laws.proofs.ConflictLaws.SequenceTouches.{Rise, reads_alone_rise, assignment_rises, print_rises, read_rises}
use Rattle.ped_laws.proofs.ConflictLaws.SequenceActs.{sorted_none, then_sorted, does_sorted, on_sorted}
use Rattle.ped_laws.proofs.ConflictLaws.SequencePlaces.{Inside, Comes, InOrder, wider, wider_order, apart, one_in_order}
use Rattle.ped_laws.proofs.ConflictLaws.SequenceLoops.{from_entry}

module _ (t : ProgramTree) where
  -- these statements have numbers from n on
  abbrev Stand : ℕ → List StmtTree → Type 0
  Stand n xs = (i : ℕ) (x : StmtTree) → at_place xs i ≡ Some x → statement_with (n + i) t ≡ Some x

  stand_first : (n : ℕ) (xs ys : List StmtTree) → Stand n (xs ++ ys) → Stand n xs
  stand_first n xs ys w i x h = w i x (at_place-front xs ys i x h)

  stand_rest : (n k : ℕ) (xs ys : List StmtTree) → k ≡ length xs → Stand n (xs ++ ys) → Stand (n + k) ys
  stand_rest n k xs ys e w i x h =
      let same : n + (i + length xs) ≡ n + k + i = omega (arith, e) in
      ap (λ (m : ℕ). statement_with m t) (sym same) ∙ w (i + length xs) x (at_place-back xs ys (i + length xs) i refl ∙ h)

  stands_itself : (n : ℕ) (x : StmtTree) (xs : List StmtTree) → Stand n (x ∷ xs) → statement_with n t ≡ Some x
  stands_itself n x xs w = ap (λ (m : ℕ). statement_with m t) (omega arith) ∙ w 0 x refl

  all_stand : Stand 1 (all_numbered t.body)
  all_stand i x h = grind (arith, eqb-true, h)

  abbrev Own : Setting
  Own = setting_of t

  taking_in_order : (n m : ℕ) (scope : Scope) (u : Taking) (fault : Option ℕ) (s : Store) → n < m → Rise 1 (reading_touches u s) → InOrder t scope n m (run_taking (place_of Own n scope) u fault s).acts
  taking_in_order n m scope u None s l h = one_in_order t scope n m 1 did (reading_touches u s) l h
  taking_in_order n m scope u (Some fault) s l h = one_in_order t scope n m 1 faulted (reading_touches u s) l h

  part_in_order : (n m : ℕ) (scope : Scope) (f g : Store → Run) → ((u : Store) → InOrder t scope n m (f u).acts) → ((u : Store) → InOrder t scope n m (g u).acts) → (b : Bool) (u : Store) → InOrder t scope n m ((if b then f else g) u).acts
  part_in_order n m scope f g h k true u = h u
  part_in_order n m scope f g h k false u = k u

  mutual
    run_in_order : (s : StmtTree) (n : ℕ) (scope : Scope) (u : Store) → Stand n (numbered s) → InOrder t scope n (n + statement_count s) (run Own s n scope u).acts
    run_in_order (Assign left right) n scope u w =
        let e = assigned (names_in Own scope) left right u in
        on_sorted (Comes t scope) (Inside t scope n (n + 1)) (place_of Own n scope) e.seen e.result _
        (one_in_order t scope n (n + 1) 1 faulted (numbered_reads 1 e.seen) (omega arith) (reads_alone_rise 1 e.seen))
        (λ x. one_in_order t scope n (n + 1) 1 did (assignment_touches e.seen x) (omega arith) (assignment_rises e.seen x))
    run_in_order (If c a b) n scope u w =
        let e = truth (names_in Own scope) c u in
        let last = n + (statements_count a + statements_count b + 1) in
        let rest = stand_rest n 1 (If c a b ∷ []) (all_numbered a ++ all_numbered b) refl w in
        on_sorted (Comes t scope) (Inside t scope n last) (place_of Own n scope) e.seen e.result _
        (one_in_order t scope n last 1 faulted (numbered_reads 1 e.seen) (omega arith) (reads_alone_rise 1 e.seen))
        (λ holds. does_sorted (Comes t scope) (Inside t scope n (n + 1)) (Inside t scope (n + 1) last) (Inside t scope n last)
        (wider t scope n (n + 1) n last (omega arith) (omega arith)) (wider t scope (n + 1) last n last (omega arith) (omega arith)) (apart t scope n (n + 1) last)
        did (place_of Own n scope) (numbered_reads 1 e.seen) (if holds then run_all Own a (n + 1) scope else run_all Own b (n + 1 + statements_count a) scope) u
        (one_in_order t scope n (n + 1) 1 did (numbered_reads 1 e.seen) (omega arith) (reads_alone_rise 1 e.seen))
        (part_in_order (n + 1) last scope (run_all Own a (n + 1) scope) (run_all Own b (n + 1 + statements_count a) scope)
        (λ v. wider_order t scope (n + 1) (n + 1 + statements_count a) (n + 1) last (run_all Own a (n + 1) scope v).acts (omega arith) (omega arith) (all_in_order a (n + 1) scope v (stand_first (n + 1) (all_numbered a) (all_numbered b) rest)))
        (λ v. wider_order t scope (n + 1 + statements_count a) (n + 1 + statements_count a + statements_count b) (n + 1) last (run_all Own b (n + 1 + statements_count a) scope v).acts (omega arith) (omega arith) (all_in_order b (n + 1 + statements_count a) scope v (stand_rest (n + 1) (statements_count a) (all_numbered a) (all_numbered b) (sym (length-all_numbered a)) rest)))
        holds))
    run_in_order (Do h body) n scope u w =
        let l = limits (names_in Own scope) h u in
        let last = n + (statements_count body + 1) in
        let rest = stand_rest n 1 (Do h body ∷ []) (all_numbered body) refl w in
        on_sorted (Comes t scope) (Inside t scope n last) (place_of Own n scope) l.seen l.result _
        (one_in_order t scope n last 1 faulted (numbered_reads 1 l.seen) (omega arith) (reads_alone_rise 1 l.seen))
        (λ bounds.
        let e = entered_with Own n h body l.seen bounds in
        from_entry t scope n h body l.seen bounds (stands_itself n (Do h body) (all_numbered body) w)
        (λ k v. wider_order t (frame e k ∷ scope) (n + 1) (n + 1 + statements_count body) (n + 1) last (run_all Own body (n + 1) (frame e k ∷ scope) v).acts (omega arith) (omega arith) (all_in_order body (n + 1) (frame e k ∷ scope) v rest))
        h.parallel e.count u)
    run_in_order (Print items) n scope u w =
        let e = printed_line (names_in Own scope) items u in
        on_sorted (Comes t scope) (Inside t scope n (n + 1)) (place_of Own n scope) e.seen e.result _
        (one_in_order t scope n (n + 1) 1 faulted (numbered_reads 1 e.seen) (omega arith) (reads_alone_rise 1 e.seen))
        (λ x. one_in_order t scope n (n + 1) 1 did (print_touches e.seen x u) (omega arith) (print_rises e.seen x u))
    run_in_order (Read items) n scope u w = taking_in_order n (n + 1) scope (reading (names_in Own scope) items u) (reading (names_in Own scope) items u).fault u (omega arith) (read_rises (names_in Own scope) items u)
    run_in_order Stop n scope u w = one_in_order t scope n (n + 1) 1 did [] (omega arith) tt
    run_in_order (Comment text) n scope u w = sorted_none (Comes t scope) (Inside t scope n (n + 0))

    all_in_order : (ss : StmtTrees) (n : ℕ) (scope : Scope) (u : Store) → Stand n (all_numbered ss) → InOrder t scope n (n + statements_count ss) (run_all Own ss n scope u).acts
    all_in_order no_stmts n scope u w = sorted_none (Comes t scope) (Inside t scope n (n + 0))
    all_in_order (more_stmts s rest) n scope u w =
        let middle = n + statement_count s in
        let last = n + (statement_count s + statements_count rest) in
        then_sorted (Comes t scope) (Inside t scope n middle) (Inside t scope middle last) (Inside t scope n last)
        (wider t scope n middle n last (omega arith) (omega arith)) (wider t scope middle last n last (omega arith) (omega arith)) (apart t scope n middle last)
        (run Own s n scope u) (run_all Own rest middle scope)
        (run_in_order s n scope u (stand_first n (numbered s) (all_numbered rest) w))
        (λ v. wider_order t scope middle (middle + statements_count rest) middle last (run_all Own rest middle scope v).acts (omega arith) (omega arith) (all_in_order rest middle scope v (stand_rest n (statement_count s) (numbered s) (all_numbered rest) (sym (length-numbered s)) w)))

-- two accesses of a run, the earlier one first
pub run_in_sequence : (t : ProgramTree) (data_bytes : List ℕ) (a b : Access) → ComeInRun t data_bytes a b → 0 < a.reference → 0 < b.reference → ComesBefore t a b a.place.turns b.place.turns
run_in_sequence t data_bytes a b come h k =
    let sorted = (all_in_order t t.body 1 [] _ (all_stand t)).1 in
    let c = pair_of (Comes t []) come.before come.between come.behind a b (subst (Pairwise (Comes t [])) come.is sorted) in
    subst (λ (js : List Turn). ComesBefore t a b a.place.turns js) (sym c.at_second) (subst (λ (is : List Turn). ComesBefore t a b is c.second) (sym c.at_first) (c.comes h k))
