-- Statements in which sums are kept apart: where the statements go on, these do, each scalar's parts tell what has been added to it, and their acts come from the old ones.
use Rattle.std.proofs.Common.{◌≡◌, ℕ, ◌+◌, ℤ, List, [], ◌∷◌, ◌++◌, false, inl, inr, Option, Some, None, Result, Ok, Err, refl, sym, ap, subst, ◌∙◌}
use Rattle.std.specs.List.{flat_map, list_any}
use Rattle.std.proofs.lemmas.Bool.{or_parts}
use Rattle.ped_base.specs.Lists.{is_among}
use Rattle.ped_tree.specs.Tree.{ExprTree, ItemTree, Head, StmtTree, StmtTrees, Assign, If, Do, Print, Read, Stop, Comment, no_stmts, more_stmts}
use Rattle.ped_tree.specs.NamesIn.{expr_names, cond_names, item_names, stmt_names, loop_variables, all_loop_variables}
use Rattle.ped_tree.specs.Numbering.{statement_count, statements_count}
use Rattle.ped_rules.specs.ped_steps.specs.Replacing.{followed}
use Rattle.ped_rules.specs.ped_store.specs.Cells as cells
use Rattle.ped_rules.specs.ped_store.specs.Cells.{Cell, Out}
use Rattle.ped_rules.specs.ped_store.specs.Stores.{Number, Lines, Store, lines_in}
use Rattle.ped_rules.specs.ped_store.specs.Acts.{Manner, reads, writes, is_told, Touch, Place, Step, did, Act, store_behind}
use Rattle.ped_rules.specs.ped_laws.specs.Acts.Fitting.{Find, Fits, IsFound, store_after}
use Rattle.ped_rules.specs.ped_laws.specs.Acts.Orders.{IsIn}
use Rattle.ped_rules.specs.ped_eval.specs.Scopes.{Names}
use Rattle.ped_rules.specs.ped_eval.specs.Evaluation.{Seen, Evaluated, numbered, number_behind}
use Rattle.ped_rules.specs.ped_eval.specs.Statements.{Stored, assigned, assignment_touches, printed_line, print_touches, reading, reading_touches, read_touch, write_touch}
use Rattle.ped_rules.specs.ped_eval.specs.Runs.{Ending, going, stopped, failed, Run, nothing_done, followed_by, then_run, does, on_value, on, run_assignment, run_print, run_taking, run_read}
use Rattle.ped_rules.specs.ped_laws.specs.Runs.Replaying.{Finish, goes_on, finish_of, ending_with, act, IsToldByActs}
use Rattle.ped_rules.specs.ped_laws.proofs.RunLaws.SeenCells.{AllSeen, OfResult}
use Rattle.ped_rules.specs.ped_laws.proofs.RunLaws.Told.{own_run}
use Rattle.ped_reduce.specs.Sums.{Sum, sum_to}
use Rattle.ped_reduce.specs.Lowering.{Partials, apart_or, sum_apart, summed, all_summed}
use Rattle.ped_reduce.proofs.SumStores.{is_array, is_total, is_either, is_apart, Within, within_touches}
use Rattle.ped_reduce.proofs.SumSight as sight
use Rattle.ped_reduce.proofs.SumSight.{AllTouch, all_append, numbered_touch}
use Rattle.ped_reduce.proofs.SumGoing.{Come, Along}
use Rattle.ped_reduce.proofs.SumSteps.{operand, AllTouchBy}
use Rattle.ped_reduce.proofs.SumParts.{Origin, ComesFrom}

module _ (ps : List Partials) where
  -- none of these scalars, and of their arrays, is among the names
  abbrev pub Lacks : List (List ℕ) → Type 0
  Lacks names = list_any (is_either ps) names ≡ false

  -- a cell of none of them
  abbrev pub Elsewhere : Cell → Type 0
  Elsewhere c = is_apart ps c ≡ false

  -- an assignment is a sum of the first of these scalars of which it is one, and none of them stands in what is added; or none stands in it at all
  abbrev pub OneOr : Option Sum → Type 0 → Type 0
  OneOr None others = others
  OneOr (Some sum) others = Lacks (expr_names (operand sum))

  abbrev pub IsSumOr : List Partials → StmtTree → Type 0
  IsSumOr [] s = Lacks (stmt_names s)
  IsSumOr (p ∷ rest) s = OneOr (sum_to p.scalar s) (IsSumOr rest s)

  module _ (v : List ℕ) where
    -- the name is neither the variable of the DO, nor in its PRIVATE list, nor the variable of a DO in it
    abbrev pub IsFreeOf : Head → StmtTrees → List ℕ → Type 0
    IsFreeOf h body x = is_among x (h.variable ∷ (h.private ++ all_loop_variables body)) ≡ false

    -- a DO in which sums may be kept apart: its bounds lack these names; none of the scalars, nor the variable of the DO round all this, is its variable, in its PRIVATE list, or the variable of a DO in it
    pub record IsClearHead (h : Head) (body : StmtTrees) : Type 0 where
      pub first : Lacks (expr_names h.first)
      pub last : Lacks (expr_names h.last)
      pub scalars : (p : Partials) → IsIn p ps → IsFreeOf h body p.scalar
      pub variable : IsFreeOf h body v

    -- a statement in which sums may be kept apart: the scalars stand in sums alone, and the arrays nowhere
    abbrev mutual
      pub IsClear : StmtTree → Type 0
      IsClear (Assign left right) = IsSumOr ps (Assign left right)
      IsClear (If c a b) = Lacks (cond_names c) × (AreClear a × AreClear b)
      IsClear (Do h body) = IsClearHead h body × AreClear body
      IsClear (Print items) = Lacks (flat_map item_names items)
      IsClear (Read items) = Lacks (flat_map expr_names items)
      IsClear Stop = Unit {0}
      IsClear (Comment text) = Unit {0}

      pub AreClear : StmtTrees → Type 0
      AreClear no_stmts = Unit {0}
      AreClear (more_stmts s rest) = IsClear s × AreClear rest

-- statements that stay count alike in two programs: the old ones from n on, and from m on those in which sums are kept apart
module _ (f f' : ℕ → ℕ) (v : List ℕ) (ps : List Partials) where
  abbrev mutual
    pub CountsAlike : StmtTree → ℕ → ℕ → Type 0
    CountsAlike (Assign left right) n m = f n ≡ f' m
    CountsAlike (If c a b) n m = (f n ≡ f' m) × (CountAlike a (n + 1) (m + 1) × CountAlike b (n + 1 + statements_count a) (m + 1 + statements_count (all_summed v ps a)))
    CountsAlike (Do h body) n m = (f n ≡ f' m) × CountAlike body (n + 1) (m + 1)
    CountsAlike (Print items) n m = f n ≡ f' m
    CountsAlike (Read items) n m = f n ≡ f' m
    CountsAlike Stop n m = f n ≡ f' m
    CountsAlike (Comment text) n m = Unit {0}

    pub CountAlike : StmtTrees → ℕ → ℕ → Type 0
    CountAlike no_stmts n m = Unit {0}
    CountAlike (more_stmts s rest) n m = CountsAlike s n m × CountAlike rest (n + statement_count s) (m + statements_count (summed v ps s))

-- sums kept apart add no DO
variables_followed : (xs ys : StmtTrees) → all_loop_variables (followed xs ys) ≡ all_loop_variables xs ++ all_loop_variables ys
variables_followed no_stmts ys = refl
variables_followed (more_stmts x xs) ys = ap (λ (zs : List (List ℕ)). loop_variables x ++ zs) (variables_followed xs ys) ∙ again (loop_variables x)
  where
    again : (ws : List (List ℕ)) → ws ++ (all_loop_variables xs ++ all_loop_variables ys) ≡ (ws ++ all_loop_variables xs) ++ all_loop_variables ys
    again [] = refl
    again (w ∷ ws) = ap (λ (zs : List (List ℕ)). w ∷ zs) (again ws)

none_behind : (xs : List (List ℕ)) → xs ++ [] ≡ xs
none_behind [] = refl
none_behind (x ∷ xs) = ap (λ (zs : List (List ℕ)). x ∷ zs) (none_behind xs)

module _ (v : List ℕ) where
  variables_apart : (ps : List Partials) (left right : ExprTree) → all_loop_variables (sum_apart v ps (Assign left right)) ≡ []
  variables_apart [] left right = refl
  variables_apart (p ∷ ps) left right = go (sum_to p.scalar (Assign left right)) (variables_apart ps left right)
    where
      go : (o : Option Sum) → all_loop_variables (sum_apart v ps (Assign left right)) ≡ [] → all_loop_variables (apart_or v p o (sum_apart v ps (Assign left right))) ≡ []
      go None h = h
      go (Some sum) h = refl

  module _ (ps : List Partials) where
    mutual
      variables_kept : (s : StmtTree) → all_loop_variables (summed v ps s) ≡ loop_variables s
      variables_kept (Assign left right) = variables_apart ps left right
      variables_kept (If c a b) = none_behind (all_loop_variables (all_summed v ps a) ++ all_loop_variables (all_summed v ps b)) ∙ (λ i. all_variables_kept a i ++ all_variables_kept b i)
      variables_kept (Do h body) = none_behind (h.variable ∷ all_loop_variables (all_summed v ps body)) ∙ (λ i. h.variable ∷ all_variables_kept body i)
      variables_kept (Print items) = refl
      variables_kept (Read items) = refl
      variables_kept Stop = refl
      variables_kept (Comment text) = refl

      pub all_variables_kept : (ss : StmtTrees) → all_loop_variables (all_summed v ps ss) ≡ all_loop_variables ss
      all_variables_kept no_stmts = refl
      all_variables_kept (more_stmts s rest) = variables_followed (summed v ps s) (all_summed v ps rest) ∙ (λ i. variables_kept s i ++ all_variables_kept rest i)

-- a run, and then nothing
pub then_nothing : (r : Run) → then_run r nothing_done ≡ r
then_nothing r = go r.acts r.ending
  where
    acts_none : (acts : List Act) → acts ++ [] ≡ acts
    acts_none [] = refl
    acts_none (a ∷ acts) = ap (λ (zs : List Act). a ∷ zs) (acts_none acts)

    go : (acts : List Act) (e : Ending) → followed_by acts e nothing_done ≡ record { acts = acts; ending = e }
    go acts (going s) = λ i. record { acts = acts_none acts i; ending = going s }
    go acts (stopped s) = refl
    go acts (failed fault n) = refl

-- each act touches other cells alone
abbrev pub AllActs : (Cell → Type 0) → List Act → Type 0
AllActs P [] = Unit {0}
AllActs P (a ∷ acts) = AllTouch P a.touches × AllActs P acts

module _ (ps : List Partials) (k : ℤ) (told : Cell) (o w : Store) where
  abbrev W : Store → Store → Type 0
  W s u = Within ps k o w s u

  abbrev C : Act → Act → Type 0
  C a b = ComesFrom ps k told a b

  abbrev P : Cell → Type 0
  P c = is_apart ps c ≡ false

  -- touches come from themselves
  itself : (ts us : List Touch) → ((t : Touch) → IsIn t us → IsIn t ts) → AllTouchBy (Origin ps k told ts) us
  itself ts [] all = tt
  itself ts (u ∷ us) all = (inl (u, all u (inl refl), refl, refl), itself ts us (λ t i. all t (inr i)))

  pub same_touches : (step : Step) (at at' : Place) (ts : List Touch) → at'.turns ≡ at.turns → C (act step at ts) (act step at' ts)
  same_touches step at at' ts e = record { turns = e; touches = itself ts ts (λ t i. i) }

  come_self : (acts : List Act) → Come W C acts acts
  come_self acts b i = (b, i, record { turns = refl; touches = itself b.touches b.touches (λ t j. j) })

  -- reads of other cells are found, too
  find_too : (ts : List Touch) (s u : Store) → AllTouch P ts → W s u → Find ts s → Find ts u
  find_too [] s u h within f = tt
  find_too (t ∷ ts) s u h within f = (found t.manner f.0, find_too ts _ _ h.1 (within_touches ps k o w (t ∷ []) s u (h.0, tt) within) f.1)
    where
      found : (m : Manner) → IsFound m t.cell t.content s → IsFound m t.cell t.content u
      found reads x = within.same t.cell h.0 ∙ x
      found writes x = tt
      found is_told x = tt

  fits_too : (acts : List Act) (s u : Store) → AllActs P acts → W s u → Fits acts s → Fits acts u
  fits_too [] s u h within f = tt
  fits_too (a ∷ acts) s u h within f = (find_too a.touches s u h.0 within f.0, fits_too acts (store_behind a.touches s) (store_behind a.touches u) h.1 (within_touches ps k o w a.touches s u h.0 within) f.1)

  within_acts : (acts : List Act) (s u : Store) → AllActs P acts → W s u → W (store_after acts s) (store_after acts u)
  within_acts [] s u h within = within
  within_acts (a ∷ acts) s u h within = within_acts acts (store_behind a.touches s) (store_behind a.touches u) h.1 (within_touches ps k o w a.touches s u h.0 within)

  going_same : (s t : Store) → going s ≡ going t → s ≡ t
  going_same s t e = cc

  -- what touches other cells alone does the same
  pub told_along : (f : Store → Run) → IsToldByActs f → ((s : Store) → AllActs P (f s).acts) → Along W C f f
  told_along f told_by clear s u within t e =
      let acts = (f s).acts in
      let fits = fits_too acts s u (clear s) within (told_by.fits s) in
      let finish : finish_of (f s).ending ≡ goes_on = ap finish_of e in
      let again : f u ≡ record { acts = acts; ending = going (store_after acts u) } = told_by.replays s u fits ∙ ap (λ (x : Finish). record { acts = acts; ending = ending_with x (store_after acts u) }) finish in
      let own : (f s).ending ≡ going (store_after acts s) = ap (λ (r : Run). r.ending) (own_run f told_by s) ∙ ap (λ (x : Finish). ending_with x (store_after acts s)) finish in
      let is : store_after acts s ≡ t = going_same (store_after acts s) t (sym own ∙ e) in (
        store_after acts u,
        ap (λ (r : Run). r.ending) again,
        subst (λ (z : Store). W z (store_after acts u)) is (within_acts acts s u (clear s) within),
        subst (Come W C acts) (sym (ap (λ (r : Run). r.acts) again)) (come_self acts),
      )

-- statements by themselves in which none of the names stands
module _ (ps : List Partials) (g : Names) (others : (x : List ℕ) → is_total ps x ≡ false → is_apart ps (g.cell x) ≡ false) (place : Place) where
  pub scalars : (x : List ℕ) → is_either ps x ≡ false → is_apart ps (g.cell x) ≡ false
  scalars x h = others x (or_parts (is_total ps x) (is_array ps x) h).0

  pub elements : (x : List ℕ) (js : List ℤ) → is_either ps x ≡ false → is_apart ps (cells.Element x js) ≡ false
  elements x js h = (or_parts (is_total ps x) (is_array ps x) h).1

  on_clear : {A : Type 0} (e : Evaluated A) (next : List Seen → A → Run) → AllSeen (λ c. is_apart ps c ≡ false) e.seen → ((x : A) → e.result ≡ Ok x → AllActs (λ c. is_apart ps c ≡ false) (next e.seen x).acts) → AllActs (λ c. is_apart ps c ≡ false) (on place e next).acts
  on_clear {A} e next seen more = go e.result refl
    where
      go : (r : Result A ℕ) → e.result ≡ r → AllActs (λ c. is_apart ps c ≡ false) (on_value place e.seen r next).acts
      go (Ok x) q = more x q
      go (Err fault) q = (numbered_touch (λ c. is_apart ps c ≡ false) 1 e.seen seen, tt)

  pub assignment_clear : (left right : ExprTree) (s : Store) → Lacks ps (expr_names left) → Lacks ps (expr_names right) → AllActs (λ c. is_apart ps c ≡ false) (run_assignment g place left right s).acts
  assignment_clear left right s a b =
      let e = assigned g left right s in
      let seen = sight.assigned_seen (λ c. is_apart ps c ≡ false) (is_either ps) g scalars elements left right s a b in
      on_clear e (λ seen w. does did place (assignment_touches seen w) nothing_done s) seen (λ w q. (
        all_append (λ c. is_apart ps c ≡ false) (numbered 1 e.seen) (write_touch w.cell (Number w.number) (number_behind 1 e.seen) ∷ []) (numbered_touch (λ c. is_apart ps c ≡ false) 1 e.seen seen)
            (stored w (subst (OfResult (λ (x : Stored). is_apart ps x.cell ≡ false)) q (sight.assigned_is (λ c. is_apart ps c ≡ false) (is_either ps) g scalars elements left right s a)), tt),
        tt,
      ))
    where
      stored : (w : Stored) → OfResult (λ (x : Stored). is_apart ps x.cell ≡ false) (Ok w) → is_apart ps w.cell ≡ false
      stored w h = h

  pub print_clear : (items : List ItemTree) (s : Store) → Lacks ps (flat_map item_names items) → AllActs (λ c. is_apart ps c ≡ false) (run_print g place items s).acts
  print_clear items s h =
      let e = printed_line g items s in
      let seen = sight.line_seen (λ c. is_apart ps c ≡ false) (is_either ps) g scalars elements items s h in
      on_clear e (λ seen line. does did place (print_touches seen line s) nothing_done s) seen (λ line q.
      (all_append (λ c. is_apart ps c ≡ false) (numbered 1 e.seen) (read_touch Out (s Out) 0 ∷ (write_touch Out (Lines (lines_in (s Out) ++ line ∷ [])) (number_behind 1 e.seen) ∷ [])) (numbered_touch (λ c. is_apart ps c ≡ false) 1 e.seen seen) (refl, (refl, tt)), tt))

  pub read_clear : (items : List ExprTree) (s : Store) → Lacks ps (flat_map expr_names items) → AllActs (λ c. is_apart ps c ≡ false) (run_read g place items s).acts
  read_clear items s h = go (reading g items s).fault
    where
      touches : AllTouch (λ c. is_apart ps c ≡ false) (reading_touches (reading g items s) s)
      touches = sight.reading_touch (λ c. is_apart ps c ≡ false) (is_either ps) g scalars elements refl items s h

      go : (fault : Option ℕ) → AllActs (λ c. is_apart ps c ≡ false) (run_taking place (reading g items s) fault s).acts
      go None = (touches, tt)
      go (Some n) = (touches, tt)
