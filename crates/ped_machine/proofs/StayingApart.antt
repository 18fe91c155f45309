-- The copies that parts of what is left can name stay apart.
use Rattle.std.proofs.Common.{◌≡◌, ◌⊎◌, inl, inr, ℕ, zero, suc, ◌+◌, ◌/◌, ◌≤◌, List, ◌∷◌, Bool, true, false, Option, Some, None, subst, arith, if◌then◌else◌}
use Rattle.ped_tree.specs.Tree.{CondTree, Head, StmtTree, StmtTrees, Assign, If, Do, Print, Read, Stop, Comment, no_stmts, more_stmts}
use Rattle.ped_tree.specs.Numbering.{statement_count, statements_count}
use Rattle.ped_store.specs.Cells.{Iteration}
use Rattle.ped_store.specs.Stores.{Store}
use Rattle.ped_store.specs.Acts.{Act, did, entered, ended_turn, closed}
use Rattle.ped_interleavings.specs.ped_eval.specs.Scopes.{Setting, Scope, names_in, place_of}
use Rattle.ped_interleavings.specs.ped_eval.specs.Evaluation.{numbered}
use Rattle.ped_interleavings.specs.ped_eval.specs.Values.{truth}
use Rattle.ped_interleavings.specs.ped_eval.specs.Loops.{limits, Entered, entered_with, frame, exit_touches, exit_when_none, entry_touches}
use Rattle.ped_interleavings.specs.ped_eval.specs.Runs.{run}
use Rattle.ped_interleavings.specs.ped_eval.specs.Agreement.{path_of}
use Rattle.ped_interleavings.specs.Lefts.{Left, finished, begins, ends_turn, open_loop, Lefts, no_lefts, more_lefts, left_of, left_of_all, body_left, turns_left, lefts_by, entered_left, many, pick, with_left}
use Rattle.ped_interleavings.specs.Steps.{went, act_of, inside, opened_step, step, step_at}
use Rattle.ped_machine.specs.Bases.{IsLonger}
use Rattle.ped_machine.specs.Naming.{IsAmong, IsInTurn, IsInLoop, CanName, IsApart, AreApart}
use Rattle.ped_machine.proofs.IterationPaths.{among_inside, turn_among, among_wider, among_apart, among_not_front, turn_same, turn_not_front}
use Rattle.ped_machine.proofs.FewerNames.{named_all, named_body, fewer}
use Rattle.ped_machine.proofs.NextSteps.{went_left, over_is_not, by_run_leaves, seen_goes, inside_goes}

-- the rest names no copies of these statements
abbrev NamesNone : List Iteration → ℕ → ℕ → Left → Type 0
NamesNone front n many rest = (path : List Iteration) → IsAmong front n many path → CanName rest path → ⊥

fewer_none : (front : List Iteration) (n many m more : ℕ) (rest : Left) → n ≤ m → m + more ≤ n + many → NamesNone front n many rest → NamesNone front m more rest
fewer_none front n many m more rest a b none path f = none path (among_wider front m more n many path a b f)

apart_of : (t : StmtTree) (n : ℕ) (scope : Scope) (rest : Left) → NamesNone (path_of scope) n (statement_count t) rest → IsApart rest → IsApart (left_of t n scope rest)
apart_of (Assign left right) n scope rest none a = (none, a)
apart_of (If c x y) n scope rest none a = (none, a)
apart_of (Do d body) n scope rest none a = (none, a)
apart_of (Print items) n scope rest none a = (none, a)
apart_of (Read items) n scope rest none a = (none, a)
apart_of Stop n scope rest none a = (none, a)
apart_of (Comment text) n scope rest none a = a

pub apart_all : (ts : StmtTrees) (n : ℕ) (scope : Scope) (rest : Left) → NamesNone (path_of scope) n (statements_count ts) rest → IsApart rest → IsApart (left_of_all ts n scope rest)
apart_all no_stmts n scope rest none a = a
apart_all (more_stmts t ts) n scope rest none a =
    apart_of t n scope (left_of_all ts (n + statement_count t) scope rest)
    (λ path f g. by path f (named_all ts (n + statement_count t) scope rest path g))
    (apart_all ts (n + statement_count t) scope rest (fewer_none (path_of scope) n (statement_count t + statements_count ts) (n + statement_count t) (statements_count ts) rest (omega arith) (omega arith) none) a)
  where
    by : (path : List Iteration) → IsAmong (path_of scope) n (statement_count t) path → IsLonger path (path_of scope) ⊎ (IsAmong (path_of scope) (n + statement_count t) (statements_count ts) path ⊎ CanName rest path) → ⊥
    by path f (inl g) = among_not_front (path_of scope) n (statement_count t) path f g
    by path f (inr (inl g)) = among_apart (path_of scope) n (statement_count t) (n + statement_count t) (statements_count ts) path (omega arith) f g
    by path f (inr (inr g)) = none path (among_wider (path_of scope) n (statement_count t) n (statement_count t + statements_count ts) path (omega arith) (omega arith) f) g

apart_body : (e : Entered) (body : StmtTrees) (n : ℕ) (scope : Scope) (k : ℕ) (rest : Left) → ((path : List Iteration) → IsInTurn (path_of scope) e.number k path → CanName rest path → ⊥) → IsApart rest
    → IsApart (body_left e body n scope k rest)
apart_body e body n scope k rest none a =
    apart_all body (n + 1) (frame e k ∷ scope) rest (λ path f g. none path (among_inside e k scope (n + 1) (statements_count body) path f) g) a

apart_turns : (more k : ℕ) (e : Entered) (body : StmtTrees) (n : ℕ) (scope : Scope) (rest : Left) → ((path : List Iteration) → IsInLoop (path_of scope) e.number path → CanName rest path → ⊥) → IsApart rest
    → IsApart (turns_left more k e body n scope rest)
apart_turns zero k e body n scope rest none a = a
apart_turns (suc more) k e body n scope rest none a =
    apart_body e body n scope k (ends_turn e body n scope k more rest) by (none, a)
  where
    by : (path : List Iteration) → IsInTurn (path_of scope) e.number k path → CanName (ends_turn e body n scope k more rest) path → ⊥
    by path f (inl g) = turn_not_front (path_of scope) e.number k path f g
    by path f (inr (inl (j, less, g))) = let h = turn_same (path_of scope) e.number k j path f g in omega (arith, less, h)
    by path f (inr (inr g)) = none path (k, f) g

apart_bodies : (count k : ℕ) (e : Entered) (body : StmtTrees) (n : ℕ) (scope : Scope) → AreApart e scope k (lefts_by count k (λ j. body_left e body n scope j finished))
apart_bodies zero k e body n scope = tt
apart_bodies (suc count) k e body n scope = (
  λ path h. by path (named_body e body n scope k finished path h),
  apart_body e body n scope k finished (λ path f g. g) tt,
  subst (λ (i : ℕ). AreApart e scope i (lefts_by count (k + 1) (λ j. body_left e body n scope j finished))) (omega arith) (apart_bodies count (k + 1) e body n scope),
)
  where
    by : (path : List Iteration) → IsLonger path (path_of scope) ⊎ (IsInTurn (path_of scope) e.number k path ⊎ ⊥) → IsLonger path (path_of scope) ⊎ IsInTurn (path_of scope) e.number k path
    by path (inl f) = inl f
    by path (inr (inl f)) = inr f
    by path (inr (inr f)) = absurd f

apart_entered : (parallel : Bool) (count : ℕ) (e : Entered) (body : StmtTrees) (n : ℕ) (scope : Scope) (rest : Left) → ((path : List Iteration) → IsInLoop (path_of scope) e.number path → CanName rest path → ⊥) → IsApart rest
    → IsApart (entered_left parallel count e body n scope rest)
apart_entered parallel zero e body n scope rest none a = a
apart_entered false (suc more) e body n scope rest none a = apart_turns (suc more) 1 e body n scope rest none a
apart_entered true (suc more) e body n scope rest none a = (none, apart_bodies (suc more) 1 e body n scope, a)

by_same : (l r : Left) → l ≡ r → IsApart l → IsApart r
by_same l r e a = subst IsApart e a

module _ (p : Setting) (num : (m : ℕ) → p.number m ≡ m) (n : ℕ) (scope : Scope) (rest : Left) (s : Store) (a : Act) (r : Left) where
  condition_apart : (c : CondTree) (x y : StmtTrees) → step p (begins (If c x y) n scope rest) 0 s ≡ went a r → IsApart (begins (If c x y) n scope rest) → IsApart r
  condition_apart c x y q h =
      let at = place_of p n scope in
      let e = truth (names_in p scope) c s in
      let then_left = left_of_all x (n + 1) scope rest in
      let else_left = left_of_all y (n + 1 + statements_count x) scope rest in
      let g = seen_goes at e.seen e.result (λ seen holds. went (act_of did at (numbered 1 seen)) (if holds then then_left else else_left)) a r q in
      let i = went_left (act_of did at (numbered 1 e.seen)) a (if g.0 then then_left else else_left) r g.2 in
      by_same (if g.0 then then_left else else_left) r i (by g.0)
    where
      by : (holds : Bool) → IsApart (if holds then left_of_all x (n + 1) scope rest else left_of_all y (n + 1 + statements_count x) scope rest)
      by true = apart_all x (n + 1) scope rest (fewer_none (path_of scope) n (statements_count x + statements_count y + 1) (n + 1) (statements_count x) rest (omega arith) (omega arith) h.0) h.1
      by false = apart_all y (n + 1 + statements_count x) scope rest (fewer_none (path_of scope) n (statements_count x + statements_count y + 1) (n + 1 + statements_count x) (statements_count y) rest (omega arith) (omega arith) h.0) h.1

  loop_apart : (d : Head) (body : StmtTrees) → step p (begins (Do d body) n scope rest) 0 s ≡ went a r → IsApart (begins (Do d body) n scope rest) → IsApart r
  loop_apart d body q h =
      let at = place_of p n scope in
      let e = limits (names_in p scope) d s in
      let g = seen_goes at e.seen e.result (λ seen l. let w = entered_with p n d body seen l in went (act_of (entered w.count) at (entry_touches seen w scope)) (entered_left d.parallel w.count w body n scope rest)) a r q in
      let w = entered_with p n d body e.seen g.0 in
      let i = went_left (act_of (entered w.count) at (entry_touches e.seen w scope)) a (entered_left d.parallel w.count w body n scope rest) r g.2 in
      by_same (entered_left d.parallel w.count w body n scope rest) r i (apart_entered d.parallel w.count w body n scope rest none h.1)
    where
      none : (path : List Iteration) → IsInLoop (path_of scope) (p.number n) path → CanName rest path → ⊥
      none path f = h.0 path (turn_among (path_of scope) n (statements_count body + 1) f.0 path (omega arith) (subst (λ (m : ℕ). IsInTurn (path_of scope) m f.0 path) (num n) f.1))

  begun_apart : (t : StmtTree) → step p (begins t n scope rest) 0 s ≡ went a r → IsApart (begins t n scope rest) → IsApart r
  begun_apart (Assign left right) q h = by_same rest r (by_run_leaves (run p (Assign left right) n scope s).acts (run p (Assign left right) n scope s).ending rest a r q) h.1
  begun_apart (If c x y) q h = condition_apart c x y q h
  begun_apart (Do d body) q h = loop_apart d body q h
  begun_apart (Print items) q h = by_same rest r (by_run_leaves (run p (Print items) n scope s).acts (run p (Print items) n scope s).ending rest a r q) h.1
  begun_apart (Read items) q h = by_same rest r (by_run_leaves (run p (Read items) n scope s).acts (run p (Read items) n scope s).ending rest a r q) h.1
  begun_apart Stop q h = by_same rest r (by_run_leaves (run p Stop n scope s).acts (run p Stop n scope s).ending rest a r q) h.1
  begun_apart (Comment text) q h = absurd (over_is_not a r q)

open_apart : (p : Setting) (e : Entered) (n : ℕ) (scope : Scope) (ls : Lefts) (rest : Left) (c : ℕ) (s : Store) (a : Act) (r : Left) (o : Option ℕ)
    → ((j : ℕ) (b : Act) (l : Left) → step_at p ls j c s ≡ went b l → AreApart e scope 1 (with_left j l ls))
    → opened_step o (λ j. inside (step_at p ls j c s) (λ l. open_loop e n scope (with_left j l ls) rest)) (went (act_of closed (place_of p n scope) (exit_touches e scope)) rest) ≡ went a r
    → IsApart (open_loop e n scope ls rest) → IsApart r
open_apart p e n scope ls rest c s a r (Some j) f q h =
    let g = inside_goes (step_at p ls j c s) (λ l. open_loop e n scope (with_left j l ls) rest) a r q in
    by_same (open_loop e n scope (with_left j g.1 ls) rest) r g.3 (h.0, f j g.0 g.1 g.2, h.2)
open_apart p e n scope ls rest c s a r None f q h = by_same rest r (went_left (act_of closed (place_of p n scope) (exit_touches e scope)) a rest r q) h.2

module _ (p : Setting) (num : (m : ℕ) → p.number m ≡ m) where
  mutual
    pub stay_apart : (l : Left) (c : ℕ) (s : Store) (a : Act) (r : Left) → step p l c s ≡ went a r → IsApart l → IsApart r
    stay_apart finished c s a r q h = absurd (over_is_not a r q)
    stay_apart (begins t n scope rest) c s a r q h = begun_apart p num n scope rest s a r t q h
    stay_apart (ends_turn e body n scope k more rest) c s a r q h =
        by_same (turns_left more (k + 1) e body n scope rest) r (went_left (act_of (ended_turn more) (place_of p n scope) (exit_when_none more e scope)) a (turns_left more (k + 1) e body n scope rest) r q)
        (apart_turns more (k + 1) e body n scope rest h.0 h.1)
    stay_apart (open_loop e n scope ls rest) c s a r q h =
        open_apart p e n scope ls rest (c / many ls) s a r (pick c ls) (λ j b l k. apart_at ls j (c / many ls) s b l k e scope 1 h.1) q h

    apart_at : (ls : Lefts) (j c : ℕ) (s : Store) (a : Act) (r : Left) → step_at p ls j c s ≡ went a r → (e : Entered) (scope : Scope) (k : ℕ) → AreApart e scope k ls → AreApart e scope k (with_left j r ls)
    apart_at no_lefts j c s a r q e scope k h = absurd (over_is_not a r q)
    apart_at (more_lefts l ls) zero c s a r q e scope k h = (λ path f. h.0 path (fewer p num l c s a r q path f), stay_apart l c s a r q h.1, h.2)
    apart_at (more_lefts l ls) (suc j) c s a r q e scope k h = (h.0, h.1, apart_at ls j c s a r q e scope (suc k) h.2)
