-- The iterations in which the acts of a run stand.
use Rattle.std.proofs.Common.{◌≡◌, ℕ, zero, suc, ◌+◌, List, [], ◌∷◌, ◌++◌, length, Bool, true, false, Option, Some, None, refl, sym, ap, subst, ◌∙◌, arith, if◌then◌else◌}
use Rattle.ped_flow.specs.ped_tree.specs.Tree.{StmtTree, StmtTrees, Assign, If, Do, Print, Read, Stop, Comment, no_stmts, more_stmts}
use Rattle.ped_flow.specs.ped_tree.specs.Numbering.{numbered, all_numbered, at_place, statement_count, statements_count}
use Rattle.ped_flow.specs.ped_tree.proofs.Numbers.{length-numbered, length-all_numbered, at_place-front, at_place-back}
use Rattle.ped_eval.specs.ped_store.specs.Stores.{Store}
use Rattle.ped_eval.specs.ped_store.specs.Acts.{Touch, Turn, Step, Act, did, entered, ended_turn, closed, faulted}
use Rattle.ped_laws.specs.Acts.Orders.{IsIn}
use Rattle.ped_laws.specs.Acts.Origins.{AreOfOneKind}
use Rattle.ped_eval.specs.Scopes.{Setting, Frame, Scope, turns_of, names_in, place_of}
use Rattle.ped_eval.specs.Evaluation.{numbered as numbered_reads}
use Rattle.ped_eval.specs.Values.{truth}
use Rattle.ped_eval.specs.Statements.{assigned, printed_line, reading}
use Rattle.ped_eval.specs.Loops.{limits, Entered, entered_with, frame, exit_touches, exit_when_none, entry_touches}
use Rattle.ped_eval.specs.Runs.{Run, nothing_done, does, run_taking, turns, parallel_turns, run_entered, run, run_all}
use Rattle.ped_laws.proofs.RunLaws.Touches.{Each, each_none, each_more, each_append, then_each, does_each, on_each, any_result}

-- whether a statement is a PARALLEL DO
abbrev pub is_parallel : Option StmtTree → Bool
is_parallel (Some (Do h body)) = h.parallel
is_parallel (Some (Assign left right)) = false
is_parallel (Some (If c a b)) = false
is_parallel (Some (Print items)) = false
is_parallel (Some (Read items)) = false
is_parallel (Some Stop) = false
is_parallel (Some (Comment text)) = false
is_parallel None = false

-- the second list stands in the first one from this place on
abbrev Within : List StmtTree → ℕ → List StmtTree → Type 0
Within all k xs = (i : ℕ) (x : StmtTree) → at_place xs i ≡ Some x → at_place all (k + i) ≡ Some x

within_first : (all : List StmtTree) (k : ℕ) (xs ys : List StmtTree) → Within all k (xs ++ ys) → Within all k xs
within_first all k xs ys w i x h = w i x (at_place-front xs ys i x h)

within_rest : (all : List StmtTree) (k j : ℕ) (xs ys : List StmtTree) → j ≡ length xs → Within all k (xs ++ ys) → Within all (k + j) ys
within_rest all k j xs ys e w i x h =
    let same : k + (i + length xs) ≡ k + j + i = omega (arith, e) in
    ap (at_place all) (sym same) ∙ w (i + length xs) x (at_place-back xs ys (i + length xs) i refl ∙ h)

module _ (p : Setting) (all : List StmtTree) (base : ℕ) where
  -- an iteration of a DO of the list
  abbrev Known : Turn → Type 0
  Known u = (k : ℕ) × (u.statement ≡ p.number (base + k)) × (u.parallel ≡ is_parallel (at_place all k))

  abbrev KnownAct : Act → Type 0
  KnownAct a = Each Known a.place.turns

  module _ (n : ℕ) (scope : Scope) (round : Each Known (turns_of scope)) where
    module _ (e : Entered) (body : Frame → Store → Run) (bodies : (k : ℕ) (s : Store) → Each KnownAct (body (frame e k) s).acts) where
      turns_known : (left k : ℕ) (s : Store) → Each KnownAct (turns left k e scope (place_of p n scope) body s).acts
      turns_known zero k s = each_none KnownAct
      turns_known (suc left) k s =
          then_each KnownAct (body (frame e k) s) (does (ended_turn left) (place_of p n scope) (exit_when_none left e scope) (turns left (k + 1) e scope (place_of p n scope) body)) (bodies k s)
          (λ u. does_each KnownAct (ended_turn left) (place_of p n scope) (exit_when_none left e scope) (turns left (k + 1) e scope (place_of p n scope) body) u round (turns_known left (k + 1)))

      parallel_known : (left k : ℕ) (s : Store) → Each KnownAct (parallel_turns left k e body s).acts
      parallel_known zero k s = each_none KnownAct
      parallel_known (suc left) k s = then_each KnownAct (body (frame e k) s) (parallel_turns left (k + 1) e body) (bodies k s) (parallel_known left (k + 1))

      entered_known : (b : Bool) (count : ℕ) (s : Store) → Each KnownAct (run_entered b count e scope (place_of p n scope) body s).acts
      entered_known b zero s = each_none KnownAct
      entered_known false (suc count) s = turns_known (suc count) 1 s
      entered_known true (suc count) s =
          then_each KnownAct (parallel_turns (suc count) 1 e body s) (does closed (place_of p n scope) (exit_touches e scope) nothing_done) (parallel_known (suc count) 1 s)
          (λ u. does_each KnownAct closed (place_of p n scope) (exit_touches e scope) nothing_done u round (λ v. each_none KnownAct))

    one_known : (step : Step) (touches : List Touch) → Each KnownAct (record { step = step; place = place_of p n scope; touches = touches } ∷ [])
    one_known step touches = each_more KnownAct (record { step = step; place = place_of p n scope; touches = touches }) [] round (each_none KnownAct)

    part_known : (f g : Store → Run) → ((u : Store) → Each KnownAct (f u).acts) → ((u : Store) → Each KnownAct (g u).acts) → (b : Bool) (u : Store) → Each KnownAct ((if b then f else g) u).acts
    part_known f g h k true u = h u
    part_known f g h k false u = k u

    taking_known : (t : _) (fault : Option ℕ) (s : Store) → Each KnownAct (run_taking (place_of p n scope) t fault s).acts
    taking_known t None s = one_known did _
    taking_known t (Some k) s = one_known faulted _

  mutual
    run_known : (t : StmtTree) (k : ℕ) (scope : Scope) (s : Store) → Within all k (numbered t) → Each Known (turns_of scope) → Each KnownAct (run p t (base + k) scope s).acts
    run_known (Assign left right) k scope s w round =
        let e = assigned (names_in p scope) left right s in
        on_each KnownAct _ (place_of p (base + k) scope) e.seen e.result _ (any_result e.result) round (λ x o. one_known (base + k) scope round did _)
    run_known (If c a b) k scope s w round =
        let e = truth (names_in p scope) c s in
        let rest = within_rest all k 1 (If c a b ∷ []) (all_numbered a ++ all_numbered b) refl w in
        on_each KnownAct _ (place_of p (base + k) scope) e.seen e.result _ (any_result e.result) round
        (λ holds o. does_each KnownAct did (place_of p (base + k) scope) (numbered_reads 1 e.seen) (if holds then run_all p a (base + k + 1) scope else run_all p b (base + k + 1 + statements_count a) scope) s round
        (part_known (base + k) scope round (run_all p a (base + k + 1) scope) (run_all p b (base + k + 1 + statements_count a) scope)
        (λ u. subst (λ (m : ℕ). Each KnownAct (run_all p a m scope u).acts) (omega arith) (all_known a (k + 1) scope u (within_first all (k + 1) (all_numbered a) (all_numbered b) rest) round))
        (λ u. subst (λ (m : ℕ). Each KnownAct (run_all p b m scope u).acts) (omega arith) (all_known b (k + 1 + statements_count a) scope u (within_rest all (k + 1) (statements_count a) (all_numbered a) (all_numbered b) (sym (length-all_numbered a)) rest) round))
        holds))
    run_known (Do h body) k scope s w round =
        let l = limits (names_in p scope) h s in
        let rest = within_rest all k 1 (Do h body ∷ []) (all_numbered body) refl w in
        let itself : at_place all (k + 0) ≡ Some (Do h body) = w 0 (Do h body) refl in
        on_each KnownAct _ (place_of p (base + k) scope) l.seen l.result _ (any_result l.result) round
        (λ limits o.
        let e = entered_with p (base + k) h body l.seen limits in
        does_each KnownAct (entered e.count) (place_of p (base + k) scope) (entry_touches l.seen e scope) (run_entered h.parallel e.count e scope (place_of p (base + k) scope) (λ f. run_all p body (base + k + 1) (f ∷ scope))) s round
        (entered_known (base + k) scope round e (λ f. run_all p body (base + k + 1) (f ∷ scope))
        (λ j u. subst (λ (m : ℕ). Each KnownAct (run_all p body m (frame e j ∷ scope) u).acts) (omega arith)
        (all_known body (k + 1) (frame e j ∷ scope) u rest
        (each_append Known (turns_of scope) ((frame e j).turn ∷ []) round
        (each_more Known (frame e j).turn [] (k, refl, ap is_parallel (sym itself) ∙ ap (λ (m : ℕ). is_parallel (at_place all m)) (omega arith)) (each_none Known)))))
        h.parallel e.count))
    run_known (Print items) k scope s w round =
        let e = printed_line (names_in p scope) items s in
        on_each KnownAct _ (place_of p (base + k) scope) e.seen e.result _ (any_result e.result) round (λ x o. one_known (base + k) scope round did _)
    run_known (Read items) k scope s w round = taking_known (base + k) scope round (reading (names_in p scope) items s) (reading (names_in p scope) items s).fault s
    run_known Stop k scope s w round = one_known (base + k) scope round did []
    run_known (Comment text) k scope s w round = each_none KnownAct

    all_known : (ts : StmtTrees) (k : ℕ) (scope : Scope) (s : Store) → Within all k (all_numbered ts) → Each Known (turns_of scope) → Each KnownAct (run_all p ts (base + k) scope s).acts
    all_known no_stmts k scope s w round = each_none KnownAct
    all_known (more_stmts t rest) k scope s w round =
        then_each KnownAct (run p t (base + k) scope s) (run_all p rest (base + k + statement_count t) scope)
        (run_known t k scope s (within_first all k (numbered t) (all_numbered rest) w) round)
        (λ u. subst (λ (m : ℕ). Each KnownAct (run_all p rest m scope u).acts) (omega arith) (all_known rest (k + statement_count t) scope u (within_rest all k (statement_count t) (numbered t) (all_numbered rest) (sym (length-numbered t)) w) round))

-- iterations of one DO are of one kind
pub kinds_of_run : (p : Setting) (ts : StmtTrees) (n : ℕ) (s : Store) (a b : Act) → ((m k : ℕ) → p.number m ≡ p.number k → m ≡ k) → IsIn a (run_all p ts n [] s).acts → IsIn b (run_all p ts n [] s).acts → AreOfOneKind a.place.turns b.place.turns
kinds_of_run p ts n s a b one i j t u k l same =
    let x = known a i t k in
    let y = known b j u l in
    let m : x.0 ≡ y.0 = let z = one (n + x.0) (n + y.0) (sym x.1 ∙ same ∙ y.1) in omega (arith, z) in
    x.2 ∙ ap (λ (k : ℕ). is_parallel (at_place (all_numbered ts) k)) m ∙ sym y.2
  where
    known : (c : Act) → IsIn c (run_all p ts n [] s).acts → Each (Known p (all_numbered ts) n) c.place.turns
    known c h = all_known p (all_numbered ts) n ts 0 [] s (λ i x e. ap (at_place (all_numbered ts)) (omega arith) ∙ e) (each_none (Known p (all_numbered ts) n)) c (subst (λ (m : ℕ). IsIn c (run_all p ts m [] s).acts) (omega arith) h)
