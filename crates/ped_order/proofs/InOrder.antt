-- Without choices a run goes in order, whatever it races, faults or stops at.
use Rattle.std.proofs.Common.{◌≡◌, ℕ, zero, suc, ◌+◌, ◌/◌, List, [], ◌∷◌, ◌++◌, map, Bool, true, false, Option, Some, None, Result, Ok, Err, refl, sym, ap, subst, ◌∙◌, if◌then◌else◌}
use Rattle.std.proofs.Math.Nat.{zero-div, zero-mod}
use Rattle.std.specs.Prelude.{drop}
use Rattle.std.specs.Str.Lines.{lines}
use Rattle.ped_interleavings.specs.ped_tree.specs.Tree.{CondTree, Head, StmtTree, StmtTrees, Assign, If, Do, Print, Read, Stop, Comment, no_stmts, more_stmts, ProgramTree}
use Rattle.ped_interleavings.specs.ped_tree.specs.Numbering.{statement_count, statements_count}
use Rattle.ped_interleavings.specs.ped_eval.specs.ped_store.specs.Stores.{Store, store_at_start}
use Rattle.ped_interleavings.specs.ped_eval.specs.ped_store.specs.Acts.{Touch, Place, Act, did, entered, ended_turn, closed, store_behind}
use Rattle.ped_interleavings.specs.ped_eval.specs.Scopes.{Setting, Frame, Scope, names_in, place_of}
use Rattle.ped_interleavings.specs.ped_eval.specs.Evaluation.{Seen, numbered}
use Rattle.ped_interleavings.specs.ped_eval.specs.Values.{truth}
use Rattle.ped_interleavings.specs.ped_eval.specs.Statements.{Taking, assigned, assignment_touches, printed_line, print_touches, reading}
use Rattle.ped_interleavings.specs.ped_eval.specs.Loops.{limits, Entered, entered_with, frame, exit_touches, exit_when_none, entry_touches}
use Rattle.ped_interleavings.specs.ped_eval.specs.Runs.{Ending, going, stopped, failed, Run, nothing_done, followed_by, does, on_value, run_taking, turns, parallel_turns, run_entered, run, run_all}
use Rattle.ped_interleavings.specs.ped_eval.specs.Turns.{body_run}
use Rattle.ped_interleavings.specs.ped_eval.specs.Outcomes.{Outcome, setting_of, run_of, outcome_of, outcome}
use Rattle.ped_interleavings.specs.Lefts.{Left, finished, begins, ends_turn, open_loop, Lefts, no_lefts, more_lefts, left_of, left_of_all, body_left, turns_left, lefts_by, entered_left, is_finished, many, one_on, unfinished, or_else, pick, wants_choice, with_left}
use Rattle.ped_interleavings.specs.Steps.{Next, over, met, went, halted, act_of, inside, by_run, seen_next, opened_step, step, step_at}
use Rattle.ped_interleavings.specs.Interleavings.{Standing, behind_act, standing_by, ended_by, IsInterleavedFrom, IsInterleaved}
use Rattle.ped_order.proofs.Reaching.{step_more}

module _ (p : Setting) where
  -- steps with the choice 0 that leave these one after the other
  abbrev Trail : List Left → Left → Store → Left → Store → Type 0
  Trail [] l s m u = (l ≡ m) × (s ≡ u)
  Trail (r ∷ rs) l s m u = (a : Act) × (step p l 0 s ≡ went a r) × Trail rs r (store_behind a.touches s) m u

  abbrev Leads : Left → Store → Left → Store → Type 0
  Leads l s m u = (rs : List Left) × Trail rs l s m u

  -- so a run comes to an ending, or, where it goes on, to the rest
  abbrev pub Comes : Left → Store → Left → Ending → Type 0
  Comes l s rest (going u) = Leads l s rest u
  Comes l s rest (stopped u) = (m : Left) × (v : Store) × (a : Act) × Leads l s m v × (step p m 0 v ≡ halted a) × (store_behind a.touches v ≡ u)
  Comes l s rest (failed fault statement) = (m : Left) × (v : Store) × Leads l s m v × (step p m 0 v ≡ met fault statement)

  abbrev Body : (Store → Run) → (Left → Left) → Type 0
  Body f k = (s : Store) (rest : Left) → Comes (k rest) s rest (f s).ending

  stays : (l : Left) (s : Store) → Leads l s l s
  stays l s = ([], (refl, refl))

  trail_from : (rs : List Left) (l m r : Left) (s u v : Store) → l ≡ m → s ≡ u → Trail rs m u r v → Trail rs l s r v
  trail_from rs l m r s u v e f h = subst (λ (z : Left). Trail rs z s r v) (sym e) (subst (λ (z : Store). Trail rs m z r v) (sym f) h)

  trails : (rs qs : List Left) (l m r : Left) (s u v : Store) → Trail rs l s m u → Trail qs m u r v → Trail (rs ++ qs) l s r v
  trails [] qs l m r s u v h k = trail_from qs l m r s u v h.0 h.1 k
  trails (x ∷ rs) qs l m r s u v h k = (h.0, h.1, trails rs qs x m r (store_behind h.0.touches s) u v h.2 k)

  leads_on : (l m r : Left) (s u v : Store) → Leads l s m u → Leads m u r v → Leads l s r v
  leads_on l m r s u v h k = (h.0 ++ k.0, trails h.0 k.0 l m r s u v h.1 k.1)

  leads_then : (l m rest : Left) (s u : Store) (e : Ending) → Leads l s m u → Comes m u rest e → Comes l s rest e
  leads_then l m rest s u (going v) h k = leads_on l m rest s u v h k
  leads_then l m rest s u (stopped v) h k = (k.0, k.1, k.2, leads_on l m k.0 s u k.1 h k.3, k.4, k.5)
  leads_then l m rest s u (failed fault statement) h k = (k.0, k.1, leads_on l m k.0 s u k.1 h k.2, k.3)

  act_then : (l r rest : Left) (s : Store) (a : Act) (e : Ending) → step p l 0 s ≡ went a r → Comes r (store_behind a.touches s) rest e → Comes l s rest e
  act_then l r rest s a e h k = leads_then l r rest s (store_behind a.touches s) e (r ∷ [], (a, h, (refl, refl))) k

  then_comes : (acts : List Act) (e : Ending) (next : Store → Run) (l mid rest : Left) (s : Store) → Comes l s mid e → ((u : Store) → Comes mid u rest (next u).ending) → Comes l s rest (followed_by acts e next).ending
  then_comes acts (going u) next l mid rest s h k = leads_then l mid rest s u (next u).ending h (k u)
  then_comes acts (stopped u) next l mid rest s h k = h
  then_comes acts (failed fault statement) next l mid rest s h k = h

  -- statements of one act
  abbrev IsOne : List Act → Ending → Store → Type 0
  IsOne acts (going u) s = (a : Act) × (acts ≡ a ∷ []) × (store_behind a.touches s ≡ u)
  IsOne acts (stopped u) s = (a : Act) × (acts ≡ a ∷ []) × (store_behind a.touches s ≡ u)
  IsOne acts (failed fault statement) s = Unit {0}

  simple : (acts : List Act) (e : Ending) (l rest : Left) (s : Store) → step p l 0 s ≡ by_run acts e rest → IsOne acts e s → Comes l s rest e
  simple acts (going u) l rest s h o = (rest ∷ [], (o.0, h ∙ ap (λ (z : List Act). by_run z (going u) rest) o.1, (refl, o.2)))
  simple acts (stopped u) l rest s h o = (l, s, o.0, stays l s, h ∙ ap (λ (z : List Act). by_run z (stopped u) rest) o.1, o.2)
  simple acts (failed fault statement) l rest s h o = (l, s, stays l s, h)

  value_one : {A : Type 0} (at : Place) (seen : List Seen) (r : Result A ℕ) (touches : List Seen → A → List Touch) (s : Store) → IsOne (on_value at seen r (λ seen x. does did at (touches seen x) nothing_done s)).acts (on_value at seen r (λ seen x. does did at (touches seen x) nothing_done s)).ending s
  value_one at seen (Ok x) touches s = (_, refl, refl)
  value_one at seen (Err fault) touches s = tt

  taking_one : (at : Place) (t : Taking) (fault : Option ℕ) (s : Store) → IsOne (run_taking at t fault s).acts (run_taking at t fault s).ending s
  taking_one at t None s = (_, refl, refl)
  taking_one at t (Some fault) s = tt

  -- an evaluation, and then an act
  value_comes : {A : Type 0} (at : Place) (seen : List Seen) (r : Result A ℕ) (next : List Seen → A → Run) (leads : List Seen → A → Next) (l rest : Left) (s : Store) → step p l 0 s ≡ seen_next at seen r leads
      → ((x : A) → step p l 0 s ≡ leads seen x → Comes l s rest (next seen x).ending) → Comes l s rest (on_value at seen r next).ending
  value_comes at seen (Ok x) next leads l rest s h k = k x h
  value_comes at seen (Err fault) next leads l rest s h k = (l, s, stays l s, h)

  -- iterations that are finished, and then others
  abbrev behind_finished : ℕ → Lefts → Lefts
  behind_finished zero ls = ls
  behind_finished (suc j) ls = more_lefts finished (behind_finished j ls)

  one_finished : (j : ℕ) (ls : Lefts) → behind_finished j (more_lefts finished ls) ≡ behind_finished (suc j) ls
  one_finished zero ls = refl
  one_finished (suc j) ls = ap (more_lefts finished) (one_finished j ls)

  or-itself : (o : Option ℕ) → or_else o o ≡ o
  or-itself None = refl
  or-itself (Some j) = refl

  first_picked : (ls : Lefts) → pick 0 ls ≡ unfinished 0 ls
  first_picked ls = ap (λ (j : ℕ). or_else (unfinished j ls) (unfinished 0 ls)) (zero-mod (many ls)) ∙ or-itself (unfinished 0 ls)

  first_unfinished : (j : ℕ) (l : Left) (ls : Lefts) → is_finished l ≡ false → unfinished 0 (behind_finished j (more_lefts l ls)) ≡ Some j
  first_unfinished zero l ls h = ap (λ (b : Bool). if b then one_on (unfinished zero ls) else Some 0) h
  first_unfinished (suc j) l ls h = ap one_on (first_unfinished j l ls h)

  none_unfinished : (n k : ℕ) → unfinished 0 (lefts_by n k (λ i. finished)) ≡ None
  none_unfinished zero k = refl
  none_unfinished (suc n) k = ap one_on (none_unfinished n (k + 1))

  step_there : (j c : ℕ) (l : Left) (ls : Lefts) (s : Store) → step_at p (behind_finished j (more_lefts l ls)) j c s ≡ step p l c s
  step_there zero c l ls s = refl
  step_there (suc j) c l ls s = step_there j c l ls s

  left_there : (j : ℕ) (l r : Left) (ls : Lefts) → with_left j r (behind_finished j (more_lefts l ls)) ≡ behind_finished j (more_lefts r ls)
  left_there zero l r ls = refl
  left_there (suc j) l r ls = ap (more_lefts finished) (left_there j l r ls)

  busy : (l : Left) (s : Store) → (step p l 0 s ≡ over → ⊥) → is_finished l ≡ false
  busy finished s h = absurd (h refl)
  busy (begins t n scope rest) s h = refl
  busy (ends_turn e body n scope k more rest) s h = refl
  busy (open_loop e n scope ls rest) s h = refl

  went_is_not : (a : Act) (r : Left) → went a r ≡ over → ⊥
  went_is_not a r e = cc

  met_is_not : (fault statement : ℕ) → met fault statement ≡ over → ⊥
  met_is_not fault statement e = cc

  halted_is_not : (a : Act) → halted a ≡ over → ⊥
  halted_is_not a e = cc

  -- the iteration behind the finished ones of an open loop
  module _ (e : Entered) (n : ℕ) (scope : Scope) (rest : Left) (j : ℕ) (ls : Lefts) where
    abbrev opened : Left → Left
    opened l = open_loop e n scope (behind_finished j (more_lefts l ls)) rest

    open_step : (l : Left) (s : Store) (x : Next) → (x ≡ over → ⊥) → step p l 0 s ≡ x → step p (opened l) 0 s ≡ inside x (λ r. open_loop e n scope (with_left j r (behind_finished j (more_lefts l ls))) rest)
    open_step l s x not h =
        let all = behind_finished j (more_lefts l ls) in
        ap (λ (o : Option ℕ). opened_step o (λ i. inside (step_at p all i (0 / many all) s) (λ r. open_loop e n scope (with_left i r all) rest)) (went (act_of closed (place_of p n scope) (exit_touches e scope)) rest))
        (first_picked all ∙ first_unfinished j l ls (busy l s (λ q. not (sym h ∙ q))))
        ∙ ap (λ (c : ℕ). inside (step_at p all j c s) (λ r. open_loop e n scope (with_left j r all) rest)) (zero-div (many all))
        ∙ ap (λ (z : Next). inside z (λ r. open_loop e n scope (with_left j r all) rest)) (step_there j 0 l ls s ∙ h)

    open_goes : (l r : Left) (s : Store) (a : Act) → step p l 0 s ≡ went a r → step p (opened l) 0 s ≡ went a (opened r)
    open_goes l r s a h = open_step l s (went a r) (went_is_not a r) h ∙ ap (λ (z : Lefts). went a (open_loop e n scope z rest)) (left_there j l r ls)

    trail_inside : (rs : List Left) (l m : Left) (s u : Store) → Trail rs l s m u → Trail (map opened rs) (opened l) s (opened m) u
    trail_inside [] l m s u h = (ap opened h.0, h.1)
    trail_inside (r ∷ rs) l m s u h = (h.0, open_goes l r s h.0 h.1, trail_inside rs r m (store_behind h.0.touches s) u h.2)

    leads_inside : (l m : Left) (s u : Store) → Leads l s m u → Leads (opened l) s (opened m) u
    leads_inside l m s u h = (map opened h.0, trail_inside h.0 l m s u h.1)

    comes_inside : (l : Left) (s : Store) (end : Ending) → Comes l s finished end → Comes (opened l) s (opened finished) end
    comes_inside l s (going u) h = leads_inside l finished s u h
    comes_inside l s (stopped u) h = (opened h.0, h.1, h.2, leads_inside l h.0 s h.1 h.3, open_step h.0 h.1 (halted h.2) (halted_is_not h.2) h.4, h.5)
    comes_inside l s (failed fault statement) h = (opened h.0, h.1, leads_inside l h.0 s h.1 h.2, open_step h.0 h.1 (met fault statement) (met_is_not fault statement) h.3)

  module _ (e : Entered) (body : StmtTrees) (n : ℕ) (scope : Scope) (f : Frame → Store → Run) (bodies : (k : ℕ) → Body (f (frame e k)) (body_left e body n scope k)) where
    turns_come : (more k : ℕ) → Body (turns more k e scope (place_of p n scope) f) (turns_left more k e body n scope)
    turns_come zero k s rest = stays rest s
    turns_come (suc more) k s rest =
        let next = turns more (k + 1) e scope (place_of p n scope) f in
        let behind = ends_turn e body n scope k more rest in
        then_comes (f (frame e k) s).acts (f (frame e k) s).ending (does (ended_turn more) (place_of p n scope) (exit_when_none more e scope) next) (body_left e body n scope k behind) behind rest s
        (bodies k s behind)
        (λ u. act_then behind (turns_left more (k + 1) e body n scope rest) rest u (act_of (ended_turn more) (place_of p n scope) (exit_when_none more e scope)) (next (store_behind (exit_when_none more e scope) u)).ending refl
        (turns_come more (k + 1) (store_behind (exit_when_none more e scope) u) rest))

    -- the iterations of a PARALLEL DO from number k on, behind j that are finished
    each_comes : (more k j : ℕ) (s : Store) (rest : Left)
        → Comes (open_loop e n scope (behind_finished j (lefts_by more k (λ k. body_left e body n scope k finished))) rest) s (open_loop e n scope (behind_finished j (lefts_by more k (λ i. finished))) rest) (parallel_turns more k e f s).ending
    each_comes zero k j s rest = stays (open_loop e n scope (behind_finished j no_lefts) rest) s
    each_comes (suc more) k j s rest =
        let others = lefts_by more (k + 1) (λ k. body_left e body n scope k finished) in
        let done = lefts_by more (k + 1) (λ i. finished) in
        then_comes (f (frame e k) s).acts (f (frame e k) s).ending (parallel_turns more (k + 1) e f)
        (open_loop e n scope (behind_finished j (more_lefts (body_left e body n scope k finished) others)) rest) (open_loop e n scope (behind_finished j (more_lefts finished others)) rest) (open_loop e n scope (behind_finished j (more_lefts finished done)) rest) s
        (comes_inside e n scope rest j others (body_left e body n scope k finished) s (f (frame e k) s).ending (bodies k s finished))
        (λ u.
        subst (λ (z : Lefts). Comes (open_loop e n scope z rest) u (open_loop e n scope (behind_finished j (more_lefts finished done)) rest) (parallel_turns more (k + 1) e f u).ending) (sym (one_finished j others))
        (subst (λ (z : Lefts). Comes (open_loop e n scope (behind_finished (suc j) others) rest) u (open_loop e n scope z rest) (parallel_turns more (k + 1) e f u).ending) (sym (one_finished j done)) (each_comes more (k + 1) (suc j) u rest)))

    closes : (count : ℕ) (s : Store) (rest : Left) → step p (open_loop e n scope (lefts_by count 1 (λ i. finished)) rest) 0 s ≡ went (act_of closed (place_of p n scope) (exit_touches e scope)) rest
    closes count s rest =
        let all = lefts_by count 1 (λ i. finished) in
        ap (λ (o : Option ℕ). opened_step o (λ i. inside (step_at p all i (0 / many all) s) (λ r. open_loop e n scope (with_left i r all) rest)) (went (act_of closed (place_of p n scope) (exit_touches e scope)) rest))
        (first_picked all ∙ none_unfinished count 1)

    entered_comes : (b : Bool) (count : ℕ) → Body (run_entered b count e scope (place_of p n scope) f) (entered_left b count e body n scope)
    entered_comes b zero s rest = stays rest s
    entered_comes false (suc more) s rest = turns_come (suc more) 1 s rest
    entered_comes true (suc more) s rest =
        let x = parallel_turns (suc more) 1 e f s in
        let done = open_loop e n scope (lefts_by (suc more) 1 (λ i. finished)) rest in
        then_comes x.acts x.ending (does closed (place_of p n scope) (exit_touches e scope) nothing_done) (open_loop e n scope (lefts_by (suc more) 1 (λ k. body_left e body n scope k finished)) rest) done rest s
        (each_comes (suc more) 1 0 s rest)
        (λ u. act_then done rest rest u (act_of closed (place_of p n scope) (exit_touches e scope)) (going (store_behind (exit_touches e scope) u)) (closes (suc more) u rest) (stays rest (store_behind (exit_touches e scope) u)))

  part_comes : (holds : Bool) (f g : Store → Run) (k l : Left → Left) → Body f k → Body g l → Body (if holds then f else g) (λ z. if holds then k z else l z)
  part_comes true f g k l r q = r
  part_comes false f g k l r q = q

  module _ (n : ℕ) (scope : Scope) (s : Store) (rest : Left) where
    if_comes : (c : CondTree) (a b : StmtTrees) → Body (run_all p a (n + 1) scope) (left_of_all a (n + 1) scope) → Body (run_all p b (n + 1 + statements_count a) scope) (left_of_all b (n + 1 + statements_count a) scope) → Comes (begins (If c a b) n scope rest) s rest (run p (If c a b) n scope s).ending
    if_comes c a b r q =
        let at = place_of p n scope in
        let e = truth (names_in p scope) c s in
        let f = run_all p a (n + 1) scope in
        let g = run_all p b (n + 1 + statements_count a) scope in
        let k = left_of_all a (n + 1) scope in
        let l = left_of_all b (n + 1 + statements_count a) scope in
        let u = store_behind (numbered 1 e.seen) s in
        value_comes at e.seen e.result (λ seen holds. does did at (numbered 1 seen) (if holds then f else g) s) (λ seen holds. went (act_of did at (numbered 1 seen)) (if holds then k rest else l rest)) (begins (If c a b) n scope rest) rest s refl
        (λ holds h. act_then (begins (If c a b) n scope rest) (if holds then k rest else l rest) rest s (act_of did at (numbered 1 e.seen)) ((if holds then f else g) u).ending h (part_comes holds f g k l r q u rest))

    do_comes : (x : Head) (body : StmtTrees) → ((e : Entered) (k : ℕ) → Body (run_all p body (n + 1) (frame e k ∷ scope)) (body_left e body n scope k)) → Comes (begins (Do x body) n scope rest) s rest (run p (Do x body) n scope s).ending
    do_comes x body r =
        let at = place_of p n scope in
        let e = limits (names_in p scope) x s in
        let f = body_run p body n scope in
        value_comes at e.seen e.result
        (λ seen l. let d = entered_with p n x body seen l in does (entered d.count) at (entry_touches seen d scope) (run_entered x.parallel d.count d scope at f) s)
        (λ seen l. let d = entered_with p n x body seen l in went (act_of (entered d.count) at (entry_touches seen d scope)) (entered_left x.parallel d.count d body n scope rest))
        (begins (Do x body) n scope rest) rest s refl
        (λ l h.
        let d = entered_with p n x body e.seen l in
        let u = store_behind (entry_touches e.seen d scope) s in
        act_then (begins (Do x body) n scope rest) (entered_left x.parallel d.count d body n scope rest) rest s (act_of (entered d.count) at (entry_touches e.seen d scope)) (run_entered x.parallel d.count d scope at f u).ending h
        (entered_comes d body n scope f (λ k. r d k) x.parallel d.count u rest))

  mutual
    comes : (t : StmtTree) (n : ℕ) (scope : Scope) → Body (run p t n scope) (left_of t n scope)
    comes (Assign left right) n scope s rest =
        let r = run p (Assign left right) n scope s in
        simple r.acts r.ending (begins (Assign left right) n scope rest) rest s refl
        (value_one (place_of p n scope) (assigned (names_in p scope) left right s).seen (assigned (names_in p scope) left right s).result assignment_touches s)
    comes (If c a b) n scope s rest = if_comes n scope s rest c a b (λ u r. comes_all a (n + 1) scope u r) (λ u r. comes_all b (n + 1 + statements_count a) scope u r)
    comes (Do x body) n scope s rest = do_comes n scope s rest x body (λ e k u r. comes_all body (n + 1) (frame e k ∷ scope) u r)
    comes (Print items) n scope s rest =
        let r = run p (Print items) n scope s in
        simple r.acts r.ending (begins (Print items) n scope rest) rest s refl
        (value_one (place_of p n scope) (printed_line (names_in p scope) items s).seen (printed_line (names_in p scope) items s).result (λ seen line. print_touches seen line s) s)
    comes (Read items) n scope s rest =
        let r = run p (Read items) n scope s in
        simple r.acts r.ending (begins (Read items) n scope rest) rest s refl
        (taking_one (place_of p n scope) (reading (names_in p scope) items s) (reading (names_in p scope) items s).fault s)
    comes Stop n scope s rest = let r = run p Stop n scope s in simple r.acts r.ending (begins Stop n scope rest) rest s refl (_, refl, refl)
    comes (Comment text) n scope s rest = stays rest s

    pub comes_all : (ts : StmtTrees) (n : ℕ) (scope : Scope) → Body (run_all p ts n scope) (left_of_all ts n scope)
    comes_all no_stmts n scope s rest = stays rest s
    comes_all (more_stmts t ts) n scope s rest =
        let x = run p t n scope s in
        let behind = left_of_all ts (n + statement_count t) scope rest in
        then_comes x.acts x.ending (run_all p ts (n + statement_count t) scope) (left_of t n scope behind) behind rest s (comes t n scope s behind) (λ u. comes_all ts (n + statement_count t) scope u rest)

module _ (t : ProgramTree) where
  abbrev standing : Left → Store → Standing
  standing l s = record { left = l; choices = []; store = s }

  none_left : (b : Bool) → ◌≡◌ {A = List ℕ} (if b then drop 1 [] else []) []
  none_left true = refl
  none_left false = refl

  no_choices : (a : Act) (l r : Left) (s : Store) → behind_act a r (standing l s) ≡ standing r (store_behind a.touches s)
  no_choices a l r s = ap (λ (cs : List ℕ). record { left = r; choices = cs; store = store_behind a.touches s }) (none_left (wants_choice l))

  one_more : (a : Act) (l r : Left) (s : Store) (o : Outcome) → step (setting_of t) l 0 s ≡ went a r → IsInterleavedFrom t (standing r (store_behind a.touches s)) o → IsInterleavedFrom t (standing l s) o
  one_more a l r s o h i = step_more t (standing l s) (standing r (store_behind a.touches s)) o (ap (λ (z : Next). standing_by z (standing l s)) h ∙ ap Some (no_choices a l r s)) i

  trail_reaches : (rs : List Left) (l m : Left) (s u : Store) (o : Outcome) → Trail (setting_of t) rs l s m u → IsInterleavedFrom t (standing m u) o → IsInterleavedFrom t (standing l s) o
  trail_reaches [] l m s u o h i = subst (λ (z : Left). IsInterleavedFrom t (standing z s) o) (sym h.0) (subst (λ (z : Store). IsInterleavedFrom t (standing m z) o) (sym h.1) i)
  trail_reaches (r ∷ rs) l m s u o h i = one_more h.0 l r s o h.1 (trail_reaches rs r m (store_behind h.0.touches s) u o h.2 i)

  ending_reached : (l : Left) (s : Store) (e : Ending) → Comes (setting_of t) l s finished e → IsInterleavedFrom t (standing l s) (outcome_of t e)
  ending_reached l s (going u) h = trail_reaches h.0 l finished s u (outcome_of t (going u)) h.1 (standing finished u, (0, refl), refl)
  ending_reached l s (stopped u) h =
      let new = store_behind h.2.touches h.1 in
      trail_reaches h.3.0 l h.0 s h.1 (outcome_of t (stopped u)) h.3.1
      (step_more t (standing h.0 h.1) (standing finished new) (outcome_of t (stopped u)) (ap (λ (z : Next). standing_by z (standing h.0 h.1)) h.4 ∙ ap Some (no_choices h.2 h.0 finished h.1))
      (standing finished new, (0, refl), ap (λ (z : Store). Some (outcome_of t (stopped z))) h.5))
  ending_reached l s (failed fault statement) h =
      trail_reaches h.2.0 l h.0 s h.1 (outcome_of t (failed fault statement)) h.2.1 (standing h.0 h.1, (0, refl), ap (λ (z : Next). ended_by t z h.1) h.3)

  pub in_order : (data_bytes : List ℕ) → IsInterleaved t data_bytes [] (outcome t data_bytes)
  in_order data_bytes =
      let s = store_at_start (lines data_bytes) in
      ending_reached (left_of_all t.body 1 [] finished) s (run_of t data_bytes).ending (comes_all (setting_of t) t.body 1 [] s finished)
