-- After a step what is left can name no more copies than before.
use Rattle.std.proofs.Common.{◌≡◌, ◌⊎◌, inl, inr, ℕ, zero, suc, ◌+◌, ◌/◌, List, ◌∷◌, Bool, true, false, Option, Some, None, sym, subst, arith, if◌then◌else◌}
use Rattle.ped_tree.specs.Tree.{CondTree, Head, StmtTree, StmtTrees, Assign, If, Do, Print, Read, Stop, Comment, no_stmts, more_stmts}
use Rattle.ped_tree.specs.Numbering.{statement_count, statements_count}
use Rattle.ped_store.specs.Cells.{Iteration}
use Rattle.ped_store.specs.Stores.{Store}
use Rattle.ped_store.specs.Acts.{Act, did, entered, ended_turn, closed}
use Rattle.ped_interleavings.specs.ped_eval.specs.Scopes.{Setting, Scope, names_in, place_of}
use Rattle.ped_interleavings.specs.ped_eval.specs.Evaluation.{numbered}
use Rattle.ped_interleavings.specs.ped_eval.specs.Values.{truth}
use Rattle.ped_interleavings.specs.ped_eval.specs.Loops.{limits, Entered, entered_with, frame, exit_touches, exit_when_none, entry_touches}
use Rattle.ped_interleavings.specs.ped_eval.specs.Runs.{run}
use Rattle.ped_interleavings.specs.ped_eval.specs.Agreement.{path_of}
use Rattle.ped_interleavings.specs.Lefts.{Left, finished, begins, ends_turn, open_loop, Lefts, no_lefts, more_lefts, left_of, left_of_all, body_left, turns_left, lefts_by, entered_left, many, pick, with_left}
use Rattle.ped_interleavings.specs.Steps.{went, act_of, inside, opened_step, step, step_at}
use Rattle.ped_machine.specs.Bases.{IsLonger}
use Rattle.ped_machine.specs.Naming.{IsAmong, IsInTurn, IsInLoop, IsInLaterTurn, CanName, CanOneName}
use Rattle.ped_machine.proofs.IterationPaths.{front_inside, among_inside, turn_among, among_wider}
use Rattle.ped_machine.proofs.NextSteps.{went_left, over_is_not, by_run_leaves, seen_goes, inside_goes}

-- statements can name copies of the iterations around them, and of those inside
named_of : (t : StmtTree) (n : ℕ) (scope : Scope) (rest : Left) (path : List Iteration) → CanName (left_of t n scope rest) path
    → IsLonger path (path_of scope) ⊎ (IsAmong (path_of scope) n (statement_count t) path ⊎ CanName rest path)
named_of (Assign left right) n scope rest path h = h
named_of (If c a b) n scope rest path h = h
named_of (Do d body) n scope rest path h = h
named_of (Print items) n scope rest path h = h
named_of (Read items) n scope rest path h = h
named_of Stop n scope rest path h = h
named_of (Comment text) n scope rest path h = inr (inr h)

pub named_all : (ts : StmtTrees) (n : ℕ) (scope : Scope) (rest : Left) (path : List Iteration) → CanName (left_of_all ts n scope rest) path
    → IsLonger path (path_of scope) ⊎ (IsAmong (path_of scope) n (statements_count ts) path ⊎ CanName rest path)
named_all no_stmts n scope rest path h = inr (inr h)
named_all (more_stmts t ts) n scope rest path h = by (named_of t n scope (left_of_all ts (n + statement_count t) scope rest) path h) (λ f. named_all ts (n + statement_count t) scope rest path f)
  where
    on : IsLonger path (path_of scope) ⊎ (IsAmong (path_of scope) (n + statement_count t) (statements_count ts) path ⊎ CanName rest path)
        → IsLonger path (path_of scope) ⊎ (IsAmong (path_of scope) n (statement_count t + statements_count ts) path ⊎ CanName rest path)
    on (inl f) = inl f
    on (inr (inl f)) = inr (inl (among_wider (path_of scope) (n + statement_count t) (statements_count ts) n (statement_count t + statements_count ts) path (omega arith) (omega arith) f))
    on (inr (inr f)) = inr (inr f)

    by : IsLonger path (path_of scope) ⊎ (IsAmong (path_of scope) n (statement_count t) path ⊎ CanName (left_of_all ts (n + statement_count t) scope rest) path)
        → (CanName (left_of_all ts (n + statement_count t) scope rest) path → IsLonger path (path_of scope) ⊎ (IsAmong (path_of scope) (n + statement_count t) (statements_count ts) path ⊎ CanName rest path))
        → IsLonger path (path_of scope) ⊎ (IsAmong (path_of scope) n (statement_count t + statements_count ts) path ⊎ CanName rest path)
    by (inl f) later = inl f
    by (inr (inl f)) later = inr (inl (among_wider (path_of scope) n (statement_count t) n (statement_count t + statements_count ts) path (omega arith) (omega arith) f))
    by (inr (inr f)) later = on (later f)

-- the body of a DO in an iteration
pub named_body : (e : Entered) (body : StmtTrees) (n : ℕ) (scope : Scope) (k : ℕ) (rest : Left) (path : List Iteration) → CanName (body_left e body n scope k rest) path
    → IsLonger path (path_of scope) ⊎ (IsInTurn (path_of scope) e.number k path ⊎ CanName rest path)
named_body e body n scope k rest path h = by (named_all body (n + 1) (frame e k ∷ scope) rest path h)
  where
    own : IsLonger path (path_of scope) ⊎ IsInTurn (path_of scope) e.number k path → IsLonger path (path_of scope) ⊎ (IsInTurn (path_of scope) e.number k path ⊎ CanName rest path)
    own (inl f) = inl f
    own (inr f) = inr (inl f)

    by : IsLonger path (path_of (frame e k ∷ scope)) ⊎ (IsAmong (path_of (frame e k ∷ scope)) (n + 1) (statements_count body) path ⊎ CanName rest path)
        → IsLonger path (path_of scope) ⊎ (IsInTurn (path_of scope) e.number k path ⊎ CanName rest path)
    by (inl f) = own (front_inside e k scope path f)
    by (inr (inl f)) = inr (inl (among_inside e k scope (n + 1) (statements_count body) path f))
    by (inr (inr f)) = inr (inr f)

-- iterations of a DO, the first of them with number k
named_turns : (more k : ℕ) (e : Entered) (body : StmtTrees) (n : ℕ) (scope : Scope) (rest : Left) (path : List Iteration) → CanName (turns_left more (k + 1) e body n scope rest) path
    → IsLonger path (path_of scope) ⊎ (IsInLaterTurn (path_of scope) e.number k path ⊎ CanName rest path)
named_turns zero k e body n scope rest path h = inr (inr h)
named_turns (suc more) k e body n scope rest path h = by (named_body e body n scope (k + 1) (ends_turn e body n scope (k + 1) more rest) path h)
  where
    on : CanName (ends_turn e body n scope (k + 1) more rest) path → IsLonger path (path_of scope) ⊎ (IsInLaterTurn (path_of scope) e.number k path ⊎ CanName rest path)
    on (inl f) = inl f
    on (inr (inl (j, less, f))) = inr (inl (j, omega (arith, less), f))
    on (inr (inr f)) = inr (inr f)

    by : IsLonger path (path_of scope) ⊎ (IsInTurn (path_of scope) e.number (k + 1) path ⊎ CanName (ends_turn e body n scope (k + 1) more rest) path)
        → IsLonger path (path_of scope) ⊎ (IsInLaterTurn (path_of scope) e.number k path ⊎ CanName rest path)
    by (inl f) = inl f
    by (inr (inl f)) = inr (inl (k + 1, omega arith, f))
    by (inr (inr f)) = on f

-- the iterations of a PARALLEL DO
named_bodies : (count k : ℕ) (e : Entered) (body : StmtTrees) (n : ℕ) (scope : Scope) (path : List Iteration) → CanOneName (lefts_by count k (λ j. body_left e body n scope j finished)) path
    → IsLonger path (path_of scope) ⊎ IsInLoop (path_of scope) e.number path
named_bodies zero k e body n scope path h = absurd h
named_bodies (suc count) k e body n scope path (inl h) = by (named_body e body n scope k finished path h)
  where
    by : IsLonger path (path_of scope) ⊎ (IsInTurn (path_of scope) e.number k path ⊎ ⊥) → IsLonger path (path_of scope) ⊎ IsInLoop (path_of scope) e.number path
    by (inl f) = inl f
    by (inr (inl f)) = inr (k, f)
    by (inr (inr f)) = absurd f
named_bodies (suc count) k e body n scope path (inr h) = named_bodies count (k + 1) e body n scope path h

-- a DO that has been entered
pub named_entered : (parallel : Bool) (count : ℕ) (e : Entered) (body : StmtTrees) (n : ℕ) (scope : Scope) (rest : Left) (path : List Iteration) → CanName (entered_left parallel count e body n scope rest) path
    → IsLonger path (path_of scope) ⊎ (IsInLoop (path_of scope) e.number path ⊎ CanName rest path)
named_entered parallel zero e body n scope rest path h = inr (inr h)
named_entered false (suc more) e body n scope rest path h = by (named_turns (suc more) 0 e body n scope rest path h)
  where
    by : IsLonger path (path_of scope) ⊎ (IsInLaterTurn (path_of scope) e.number 0 path ⊎ CanName rest path) → IsLonger path (path_of scope) ⊎ (IsInLoop (path_of scope) e.number path ⊎ CanName rest path)
    by (inl f) = inl f
    by (inr (inl (j, less, f))) = inr (inl (j, f))
    by (inr (inr f)) = inr (inr f)
named_entered true (suc more) e body n scope rest path (inl f) = inl f
named_entered true (suc more) e body n scope rest path (inr (inl f)) = by (named_bodies (suc more) 1 e body n scope path f)
  where
    by : IsLonger path (path_of scope) ⊎ IsInLoop (path_of scope) e.number path → IsLonger path (path_of scope) ⊎ (IsInLoop (path_of scope) e.number path ⊎ CanName rest path)
    by (inl g) = inl g
    by (inr g) = inr (inl g)
named_entered true (suc more) e body n scope rest path (inr (inr f)) = inr (inr f)

behind : (rest r : Left) (path : List Iteration) → rest ≡ r → CanName r path → CanName rest path
behind rest r path e h = subst (λ (l : Left). CanName l path) (sym e) h

module _ (p : Setting) (num : (m : ℕ) → p.number m ≡ m) (n : ℕ) (scope : Scope) (rest : Left) (s : Store) (a : Act) (r : Left) (path : List Iteration) where
  condition_fewer : (c : CondTree) (x y : StmtTrees) → step p (begins (If c x y) n scope rest) 0 s ≡ went a r → CanName r path → CanName (begins (If c x y) n scope rest) path
  condition_fewer c x y q h =
      let at = place_of p n scope in
      let e = truth (names_in p scope) c s in
      let then_left = left_of_all x (n + 1) scope rest in
      let else_left = left_of_all y (n + 1 + statements_count x) scope rest in
      let g = seen_goes at e.seen e.result (λ seen holds. went (act_of did at (numbered 1 seen)) (if holds then then_left else else_left)) a r q in
      let i = went_left (act_of did at (numbered 1 e.seen)) a (if g.0 then then_left else else_left) r g.2 in
      by g.0 (behind (if g.0 then then_left else else_left) r path i h)
    where
      then_named : IsLonger path (path_of scope) ⊎ (IsAmong (path_of scope) (n + 1) (statements_count x) path ⊎ CanName rest path) → CanName (begins (If c x y) n scope rest) path
      then_named (inl f) = inl f
      then_named (inr (inl f)) = inr (inl (among_wider (path_of scope) (n + 1) (statements_count x) n (statements_count x + statements_count y + 1) path (omega arith) (omega arith) f))
      then_named (inr (inr f)) = inr (inr f)

      else_named : IsLonger path (path_of scope) ⊎ (IsAmong (path_of scope) (n + 1 + statements_count x) (statements_count y) path ⊎ CanName rest path) → CanName (begins (If c x y) n scope rest) path
      else_named (inl f) = inl f
      else_named (inr (inl f)) = inr (inl (among_wider (path_of scope) (n + 1 + statements_count x) (statements_count y) n (statements_count x + statements_count y + 1) path (omega arith) (omega arith) f))
      else_named (inr (inr f)) = inr (inr f)

      by : (holds : Bool) → CanName (if holds then left_of_all x (n + 1) scope rest else left_of_all y (n + 1 + statements_count x) scope rest) path → CanName (begins (If c x y) n scope rest) path
      by true f = then_named (named_all x (n + 1) scope rest path f)
      by false f = else_named (named_all y (n + 1 + statements_count x) scope rest path f)

  loop_fewer : (d : Head) (body : StmtTrees) → step p (begins (Do d body) n scope rest) 0 s ≡ went a r → CanName r path → CanName (begins (Do d body) n scope rest) path
  loop_fewer d body q h =
      let at = place_of p n scope in
      let e = limits (names_in p scope) d s in
      let g = seen_goes at e.seen e.result (λ seen l. let w = entered_with p n d body seen l in went (act_of (entered w.count) at (entry_touches seen w scope)) (entered_left d.parallel w.count w body n scope rest)) a r q in
      let w = entered_with p n d body e.seen g.0 in
      let i = went_left (act_of (entered w.count) at (entry_touches e.seen w scope)) a (entered_left d.parallel w.count w body n scope rest) r g.2 in
      by (named_entered d.parallel w.count w body n scope rest path (behind (entered_left d.parallel w.count w body n scope rest) r path i h))
    where
      by : IsLonger path (path_of scope) ⊎ (IsInLoop (path_of scope) (p.number n) path ⊎ CanName rest path) → CanName (begins (Do d body) n scope rest) path
      by (inl f) = inl f
      by (inr (inl f)) = inr (inl (turn_among (path_of scope) n (statements_count body + 1) f.0 path (omega arith) (subst (λ (m : ℕ). IsInTurn (path_of scope) m f.0 path) (num n) f.1)))
      by (inr (inr f)) = inr (inr f)

  rest_fewer : (t : StmtTree) → rest ≡ r → CanName r path → CanName (begins t n scope rest) path
  rest_fewer t e h = inr (inr (behind rest r path e h))

  begun_fewer : (t : StmtTree) → step p (begins t n scope rest) 0 s ≡ went a r → CanName r path → CanName (begins t n scope rest) path
  begun_fewer (Assign left right) q h = rest_fewer (Assign left right) (by_run_leaves (run p (Assign left right) n scope s).acts (run p (Assign left right) n scope s).ending rest a r q) h
  begun_fewer (If c x y) q h = condition_fewer c x y q h
  begun_fewer (Do d body) q h = loop_fewer d body q h
  begun_fewer (Print items) q h = rest_fewer (Print items) (by_run_leaves (run p (Print items) n scope s).acts (run p (Print items) n scope s).ending rest a r q) h
  begun_fewer (Read items) q h = rest_fewer (Read items) (by_run_leaves (run p (Read items) n scope s).acts (run p (Read items) n scope s).ending rest a r q) h
  begun_fewer Stop q h = rest_fewer Stop (by_run_leaves (run p Stop n scope s).acts (run p Stop n scope s).ending rest a r q) h
  begun_fewer (Comment text) q h = absurd (over_is_not a r q)

open_fewer : (p : Setting) (e : Entered) (n : ℕ) (scope : Scope) (ls : Lefts) (rest : Left) (c : ℕ) (s : Store) (a : Act) (r : Left) (path : List Iteration) (o : Option ℕ)
    → ((j : ℕ) (b : Act) (l : Left) → step_at p ls j c s ≡ went b l → CanOneName (with_left j l ls) path → CanOneName ls path)
    → opened_step o (λ j. inside (step_at p ls j c s) (λ l. open_loop e n scope (with_left j l ls) rest)) (went (act_of closed (place_of p n scope) (exit_touches e scope)) rest) ≡ went a r
    → CanName r path → CanName (open_loop e n scope ls rest) path
open_fewer p e n scope ls rest c s a r path (Some j) f q h =
    let g = inside_goes (step_at p ls j c s) (λ l. open_loop e n scope (with_left j l ls) rest) a r q in
    by g.0 g.1 g.2 (behind (open_loop e n scope (with_left j g.1 ls) rest) r path g.3 h)
  where
    by : (b : Act) (l : Left) → step_at p ls j c s ≡ went b l → CanName (open_loop e n scope (with_left j l ls) rest) path → CanName (open_loop e n scope ls rest) path
    by b l k (inl x) = inl x
    by b l k (inr (inl x)) = inr (inl (f j b l k x))
    by b l k (inr (inr x)) = inr (inr x)
open_fewer p e n scope ls rest c s a r path None f q h =
    inr (inr (behind rest r path (went_left (act_of closed (place_of p n scope) (exit_touches e scope)) a rest r q) h))

module _ (p : Setting) (num : (m : ℕ) → p.number m ≡ m) where
  mutual
    pub fewer : (l : Left) (c : ℕ) (s : Store) (a : Act) (r : Left) → step p l c s ≡ went a r → (path : List Iteration) → CanName r path → CanName l path
    fewer finished c s a r q path h = absurd (over_is_not a r q)
    fewer (begins t n scope rest) c s a r q path h = begun_fewer p num n scope rest s a r path t q h
    fewer (ends_turn e body n scope k more rest) c s a r q path h =
        named_turns more k e body n scope rest path
        (behind (turns_left more (k + 1) e body n scope rest) r path (went_left (act_of (ended_turn more) (place_of p n scope) (exit_when_none more e scope)) a (turns_left more (k + 1) e body n scope rest) r q) h)
    fewer (open_loop e n scope ls rest) c s a r q path h =
        open_fewer p e n scope ls rest (c / many ls) s a r path (pick c ls) (λ j b l k. fewer_at ls j (c / many ls) s b l k path) q h

    pub fewer_at : (ls : Lefts) (j c : ℕ) (s : Store) (a : Act) (r : Left) → step_at p ls j c s ≡ went a r → (path : List Iteration) → CanOneName (with_left j r ls) path → CanOneName ls path
    fewer_at no_lefts j c s a r q path h = absurd (over_is_not a r q)
    fewer_at (more_lefts l ls) zero c s a r q path (inl h) = inl (fewer l c s a r q path h)
    fewer_at (more_lefts l ls) zero c s a r q path (inr h) = inr h
    fewer_at (more_lefts l ls) (suc j) c s a r q path (inl h) = inl h
    fewer_at (more_lefts l ls) (suc j) c s a r q path (inr h) = inr (fewer_at ls j c s a r q path h)
