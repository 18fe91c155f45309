-- What an iteration of a DO reads.
use Rattle.std.proofs.lemmas.List.Folds.{list_any-append}
use Rattle.std.proofs.Common.{Some, None, ◌≡◌, ℕ, ◌+◌, List, [], ◌∷◌, ◌++◌, Bool, true, false, ◌&&◌, ◌||◌, if◌then◌else◌, refl, sym, ap, subst, ◌∙◌, inl, inr}
use Rattle.ped_flow.specs.ped_base.specs.Lists.{is_same_text, is_among}
use Rattle.ped_flow.specs.ped_tree.specs.Tree.{Head, StmtTrees, Do, ProgramTree}
use Rattle.ped_flow.specs.ped_tree.specs.Accesses.{constant_names}
use Rattle.ped_flow.specs.ped_tree.specs.Numbering.{statements_count}
use Rattle.ped_flow.specs.ped_tree.specs.NamesIn.{loop_variables}
use Rattle.ped_eval.specs.ped_store.specs.Cells.{Cell, Private, same_cell}
use Rattle.ped_eval.specs.ped_store.specs.Stores.{Store}
use Rattle.ped_eval.specs.ped_store.specs.Acts.{Manner, reads, writes, is_told, Touch, Act, iterations_of}
use Rattle.ped_laws.specs.Acts.Fitting.{touches_of}
use Rattle.ped_laws.specs.Acts.Sets.{needed_by, needs}
use Rattle.ped_laws.specs.Acts.Conflicts.{IsNoReadOf, LeaveUnread, ReadNone}
use Rattle.ped_eval.specs.Scopes.{Frame, Scope, Setting, turns_of, cell_of, index_value}
use Rattle.ped_eval.specs.Evaluation.{Seen}
use Rattle.ped_eval.specs.Loops.{Limits, entered_with, frame}
use Rattle.ped_eval.specs.Runs.{Ending, going, stopped, failed, run_all}
use Rattle.ped_eval.specs.Outcomes.{Ends}
use Rattle.ped_flow.specs.Events.{Event, copied, start_events}
use Rattle.ped_flow.specs.PathSets.{Whole}
use Rattle.ped_flow.specs.Paths.{all_paths, iteration}
use Rattle.ped_flow.specs.Questions.{LoopOf, IsExposed, IsContained, all_reads_outside}
use Rattle.ped_flow.proofs.Truths.{untrue, or_none}
use Rattle.ped_flow.proofs.EventLaws.{reads_first-back}
use Rattle.ped_laws.proofs.ActLaws.SameCells.{cell_itself}
use Rattle.ped_laws.specs.FlowRuns.Covering.{is_cell_of, IsReadOn, AreCovered, some_stop}
use Rattle.ped_laws.proofs.FlowRunLaws.Coverings.{not_so}
use Rattle.ped_laws.proofs.FlowRunLaws.Names.{copied_among}
use Rattle.ped_laws.proofs.FlowRunLaws.Leavings.{cleared_elsewhere}
use Rattle.ped_laws.proofs.FlowRunLaws.Reading.{is_read, reads_cell}
use Rattle.ped_laws.proofs.FlowRunLaws.Located.{IsLocated, all_located}
use Rattle.ped_laws.proofs.FlowRunLaws.Covered.{none_in_loops, iteration_unneeded, all_covered}

-- a scalar that no PRIVATE list and no DO takes is the same in an iteration
away_copy : (p : Setting) (x : List ℕ) (S : Scope) (n : ℕ) (h : Head) (b : StmtTrees) (seen : List Seen) (l : Limits) (j : ℕ) → (is_same_text x h.variable || is_among x (copied h b)) ≡ false
    → cell_of (frame (entered_with p n h b seen l) j ∷ S) x ≡ cell_of S x
away_copy p x S n h b seen l j away =
    ap (λ (z : Bool). if z then Private x (iterations_of (turns_of (frame (entered_with p n h b seen l) j ∷ S))) else cell_of S x) (copied_among x h b (entered_with p n h b seen l) refl refl ∙ uncleared h.parallel)
  where
    uncleared : (parallel : Bool) → is_among x ((if parallel then h.variable ∷ [] else []) ++ copied h b) ≡ false
    uncleared true = away
    uncleared false = (or_none (is_same_text x h.variable) (is_among x (copied h b)) away).1

module _ (p : Setting) (t : ProgramTree) (n : ℕ) (loop : LoopOf t n) (x : List ℕ) (other : is_among x (constant_names t.decls) ≡ false) where
  -- what isn't exposed isn't needed
  pub unexposed_unneeded : some_stop loop.body ≡ false → ((k : ℕ) → IsExposed t n x k → ⊥) → (S : Scope) (seen : List Seen) (l : Limits) (j : ℕ) (s : Store)
      → Ends (run_all p loop.body (n + 1) (frame (entered_with p n loop.head loop.body seen l) j ∷ S) s).ending
      → needs (run_all p loop.body (n + 1) (frame (entered_with p n loop.head loop.body seen l) j ∷ S) s).acts (cell_of S x) ≡ false
  unexposed_unneeded unstopping unexposed S seen l j s ends = by (is_same_text x loop.head.variable || is_among x (copied loop.head loop.body)) refl
    where
      exposes : (path : List Event) → Whole (all_paths (constant_names t.decls) loop.body (n + 1)) path → is_among x (copied loop.head loop.body) ≡ false → IsReadOn x path → ⊥
      exposes path leads un r = unexposed r.0 (record { loop = loop; path = start_events n loop.head loop.body ++ path; leads = whole leads; reads = reads_first-back x r.0 (start_events n loop.head loop.body) path (cleared_elsewhere x n (copied loop.head loop.body) un) r.1 })
        where
          whole : Whole (all_paths (constant_names t.decls) loop.body (n + 1)) path → Whole (iteration n loop.head loop.body (all_paths (constant_names t.decls) loop.body (n + 1))) (start_events n loop.head loop.body ++ path)
          whole (inl k) = inl (start_events n loop.head loop.body, path, refl, refl, k)
          whole (inr k) = inr (inr (start_events n loop.head loop.body, path, refl, refl, k))

      unneeded : (c : Cell) (ts : List Touch) (e : Ending) → Ends e → is_among x (copied loop.head loop.body) ≡ false → AreCovered (all_paths (constant_names t.decls) loop.body (n + 1)) x c ts e → needed_by ts c ≡ false
      unneeded c ts (going u) k un g = not_so (needed_by ts c) (λ o. exposes g.0 (inl g.1) un (g.2.read o))
      unneeded c ts (stopped u) k un g = not_so (needed_by ts c) (λ o. exposes g.0 (inr g.1) un (g.2.read o))
      unneeded c ts (failed fault m) k un g = absurd k

      by : (handled : Bool) → (is_same_text x loop.head.variable || is_among x (copied loop.head loop.body)) ≡ handled
          → needs (run_all p loop.body (n + 1) (frame (entered_with p n loop.head loop.body seen l) j ∷ S) s).acts (cell_of S x) ≡ false
      by true h = iteration_unneeded p (constant_names t.decls) x other S n loop.head loop.body seen l h j s
      by false h =
          subst (λ (c : Cell). needs (run_all p loop.body (n + 1) (frame (entered_with p n loop.head loop.body seen l) j ∷ S) s).acts c ≡ false) (away_copy p x S n loop.head loop.body seen l j h)
          (unneeded (cell_of (frame (entered_with p n loop.head loop.body seen l) j ∷ S) x) _ (run_all p loop.body (n + 1) (frame (entered_with p n loop.head loop.body seen l) j ∷ S) s).ending ends
          (or_none (is_same_text x loop.head.variable) (is_among x (copied loop.head loop.body)) h).1
          (all_covered p (constant_names t.decls) x other loop.body (n + 1) (frame (entered_with p n loop.head loop.body seen l) j ∷ S) s (none_in_loops loop.body unstopping)))

  -- no act in a contained DO reads a variable of it
  pub contained_unread : IsContained t n → is_among x (loop_variables (Do loop.head loop.body)) ≡ true → (S : Scope) (f : Frame) (s : Store) → f.variable ≡ loop.head.variable → ReadNone (is_cell_of x) (run_all p loop.body (n + 1) (f ∷ S) s).acts
  contained_unread contained index S f s variable = acts_unread (run_all p loop.body (n + 1) (f ∷ S) s).acts unread
    where
      untold : (same : Bool) (k : ℕ) → is_same_text x loop.head.variable ≡ same → index_value (f ∷ S) x ≡ None → all_reads_outside (constant_names t.decls) x k loop.body (n + 1) ≡ true → ⊥
      untold true k e g r =
          let told : index_value (f ∷ S) x ≡ Some f.turn.value = ap (λ (z : Bool). if z then Some f.turn.value else index_value S x) (ap (is_same_text x) variable ∙ e) in
          absurd cc
      untold false k e g r = (contained x (record { loop = loop; among = index })).0 k (record { loop = loop; other = e; reads = r })

      located : (c : Cell) → IsLocated p x c (f ∷ S) (n + 1) (statements_count loop.body) (λ k. all_reads_outside (constant_names t.decls) x k loop.body (n + 1)) → ⊥
      located c g = untold (is_same_text x loop.head.variable) g.reader refl g.untold g.loose

      unread : (c : Cell) → is_cell_of x c ≡ true → reads_cell c (touches_of (run_all p loop.body (n + 1) (f ∷ S) s).acts) ≡ false
      unread c named = not_so _ (λ r. located c (all_located p (constant_names t.decls) x c named other loop.body (n + 1) (f ∷ S) s r))

      touch_unread : (m : Manner) (c : Cell) → (is_cell_of x c ≡ true → (is_read m && same_cell c c) ≡ false) → IsNoReadOf (is_cell_of x) m c
      touch_unread reads c h = not_so (is_cell_of x c) (λ k. let z : false ≡ true = sym (h k) ∙ cell_itself c in untrue z)
      touch_unread writes c h = tt
      touch_unread is_told c h = tt

      touches_unread : (ts : List Touch) → ((c : Cell) → is_cell_of x c ≡ true → reads_cell c ts ≡ false) → LeaveUnread (is_cell_of x) ts
      touches_unread [] h = tt
      touches_unread (q ∷ ts) h = (touch_unread q.manner q.cell (λ k. (or_none _ (reads_cell q.cell ts) (h q.cell k)).0), touches_unread ts (λ c k. (or_none _ (reads_cell c ts) (h c k)).1))

      acts_unread : (acts : List Act) → ((c : Cell) → is_cell_of x c ≡ true → reads_cell c (touches_of acts) ≡ false) → ReadNone (is_cell_of x) acts
      acts_unread [] h = tt
      acts_unread (a ∷ acts) h = (touches_unread a.touches (λ c k. (both a acts c (h c k)).0), acts_unread acts (λ c k. (both a acts c (h c k)).1))
        where
          both : (a : Act) (acts : List Act) (c : Cell) → reads_cell c (touches_of (a ∷ acts)) ≡ false → (reads_cell c a.touches ≡ false) × (reads_cell c (touches_of acts) ≡ false)
          both a acts c g = or_none (reads_cell c a.touches) (reads_cell c (touches_of acts)) (sym (list_any-append (λ t. is_read t.manner && same_cell t.cell c) a.touches (touches_of acts)) ∙ g)
