-- Numbers that no statement of a program has: no act of its run stands in an iteration of such a number, or touches a copy of one.
use Rattle.ped_base.specs.Lists.{is_among}
use Rattle.ped_loop_runs.proofs.LoopLaws.ApartTurns.{iterations_append}
use Rattle.ped_loop_runs.specs.ped_steps.proofs.RunLaws.RunCells.{EachDo, EachDos, all_keep}
use Rattle.ped_loop_runs.specs.ped_steps.proofs.RunLaws.RunPlaces.{all_each}
use Rattle.ped_loop_runs.specs.ped_steps.proofs.RunLaws.Uncopied.{untouched_acts}
use Rattle.ped_loop_runs.specs.ped_laws.proofs.ActLaws.Lists.{in_left, in_right}
use Rattle.ped_loop_runs.specs.ped_laws.proofs.ActLaws.Renamings.{needed_touched}
use Rattle.ped_loop_runs.specs.ped_laws.proofs.RunLaws.Touches.{Each, each_append, each_more, each_none}
use Rattle.ped_loop_runs.specs.ped_laws.specs.Acts.Fitting.{touches_of}
use Rattle.ped_loop_runs.specs.ped_laws.specs.Acts.Orders.{IsIn}
use Rattle.ped_loop_runs.specs.ped_laws.specs.Acts.Renaming.{touch}
use Rattle.ped_loop_runs.specs.ped_laws.specs.Acts.Sets.{needs, wants, written}
use Rattle.ped_loop_runs.specs.ped_eval.specs.Evaluation.{Seen}
use Rattle.ped_loop_runs.specs.ped_eval.specs.Loops.{Limits, entered_with, frame}
use Rattle.ped_loop_runs.specs.ped_eval.specs.Outcomes.{setting_of}
use Rattle.ped_loop_runs.specs.ped_eval.specs.Runs.{run_all}
use Rattle.ped_loop_runs.specs.ped_eval.specs.Scopes.{Scope, Setting, cell_of, turns_of}
use Rattle.ped_loop_runs.specs.ped_store.specs.Acts.{Act, Touch, Turn, iterations_of}
use Rattle.ped_loop_runs.specs.ped_store.specs.Cells.{Cell, Element, In, Iteration, Out, Private, Scalar}
use Rattle.ped_loop_runs.specs.ped_store.specs.Stores.{Store}
use Rattle.ped_tree.specs.Numbering.{statement_count, statements_count}
use Rattle.ped_tree.specs.Tree.{Assign, Comment, Do, Head, If, Print, ProgramTree, Read, StmtTree, StmtTrees, Stop, more_stmts, no_stmts}
use Rattle.std.proofs.Common.{Bool, List, [], arith, false, if◌then◌else◌, inl, not, refl, subst, sym, true, ℕ, ◌&&◌, ◌++◌, ◌+◌, ◌<◌, ◌||◌, ◌∙◌, ◌∷◌, ◌≡◌, ◌≤◌}
use Rattle.std.proofs.lemmas.Bool.{both_ways}

-- each DO has a number of the program
mutual
  do_below : (x : StmtTree) (n limit : ℕ) → n + statement_count x ≤ limit → EachDo (λ k h b. k < limit) x n
  do_below (Assign left right) n limit h = tt
  do_below (If c a b) n limit h = (dos_below a (n + 1) limit (omega (arith, h)), dos_below b (n + 1 + statements_count a) limit (omega (arith, h)))
  do_below (Do d b) n limit h = (omega (arith, h), dos_below b (n + 1) limit (omega (arith, h)))
  do_below (Print items) n limit h = tt
  do_below (Read items) n limit h = tt
  do_below Stop n limit h = tt
  do_below (Comment text) n limit h = tt

  dos_below : (xs : StmtTrees) (n limit : ℕ) → n + statements_count xs ≤ limit → EachDos (λ k h b. k < limit) xs n
  dos_below no_stmts n limit h = tt
  dos_below (more_stmts x rest) n limit h = (do_below x n limit (omega (arith, h)), dos_below rest (n + statement_count x) limit (omega (arith, h)))

abbrev pub AllBelow : (limit : ℕ) → List Iteration → Type 0
AllBelow limit path = Each (λ (i : Iteration). i.statement < limit) path

abbrev pub TurnsBelow : (limit : ℕ) → List Turn → Type 0
TurnsBelow limit ts = Each (λ (v : Turn). v.statement < limit) ts

abbrev pub PathBelow : (limit : ℕ) → Cell → Type 0
PathBelow limit (Private x path) = AllBelow limit path
PathBelow limit (Scalar x) = Unit {0}
PathBelow limit (Element x js) = Unit {0}
PathBelow limit In = Unit {0}
PathBelow limit Out = Unit {0}

abbrev at_turn : Turn → Iteration
at_turn v = record { statement = v.statement; number = v.number }

inner_below : (limit : ℕ) (ts : List Turn) (v : Turn) → AllBelow limit (iterations_of (ts ++ v ∷ [])) → AllBelow limit (iterations_of ts)
inner_below limit ts v h i m = h i (subst (λ (is : List Iteration). IsIn i is) (sym (iterations_append ts (v ∷ []))) (in_left i (iterations_of ts) (at_turn v ∷ []) m))

one_more : (limit : ℕ) (ts : List Turn) (v : Turn) → v.statement < limit → AllBelow limit (iterations_of ts) → AllBelow limit (iterations_of (ts ++ v ∷ []))
one_more limit ts v less h = subst (AllBelow limit) (sym (iterations_append ts (v ∷ []))) (each_append (λ (i : Iteration). i.statement < limit) (iterations_of ts) (at_turn v ∷ []) h (each_more (λ (i : Iteration). i.statement < limit) (at_turn v) [] less (each_none (λ (i : Iteration). i.statement < limit))))

module _ (t : ProgramTree) (start : Store) where
  abbrev p : Setting
  p = setting_of t

  abbrev limit : ℕ
  limit = 1 + statements_count t.body

  abbrev Q : ℕ → Head → StmtTrees → Type 0
  Q k h b = k < 1 + statements_count t.body

  abbrev At : Scope → Cell → Type 0
  At S c = AllBelow (1 + statements_count t.body) (iterations_of (turns_of S)) → PathBelow (1 + statements_count t.body) c

  scalar_at : (S : Scope) (x : List ℕ) → At S (cell_of S x)
  scalar_at [] x h = tt
  scalar_at (f ∷ fs) x h = go (is_among x f.private) (scalar_at fs x (inner_below limit (turns_of fs) f.turn h))
    where
      go : (b : Bool) → PathBelow (1 + statements_count t.body) (cell_of fs x) → PathBelow (1 + statements_count t.body) (if b then Private x (iterations_of (turns_of (f ∷ fs))) else cell_of fs x)
      go true k = h
      go false k = k

  outward : (n : ℕ) (h : Head) (body : StmtTrees) (seen : List Seen) (l : Limits) (k : ℕ) (S : Scope) (c : Cell) → Q n h body → At (frame (entered_with p n h body seen l) k ∷ S) c → At S c
  outward n h body seen l k S c less inside round = inside (one_more limit (turns_of S) (frame (entered_with p n h body seen l) k).turn less round)

  its_dos : EachDos (λ k h b. k < 1 + statements_count t.body) t.body 1
  its_dos = dos_below t.body 1 (1 + statements_count t.body) (omega arith)

  -- what an act touches
  pub cells_below : (a : Act) → IsIn a (run_all (setting_of t) t.body 1 [] start).acts → (v : Touch) → IsIn v a.touches → PathBelow (1 + statements_count t.body) v.cell
  cells_below a i v j =
      all_keep p (λ k h b. k < 1 + statements_count t.body) At scalar_at (λ S x js e h. tt) (λ S h. tt) (λ S h. tt) outward t.body 1 [] start its_dos a i v j (each_none (λ (i : Iteration). i.statement < 1 + statements_count t.body))

  -- and where it stands
  abbrev Stands : Scope → Act → Type 0
  Stands S a = TurnsBelow (1 + statements_count t.body) (turns_of S) → TurnsBelow (1 + statements_count t.body) a.place.turns

  pub turns_below : (a : Act) → IsIn a (run_all (setting_of t) t.body 1 [] start).acts → TurnsBelow (1 + statements_count t.body) a.place.turns
  turns_below a i =
      all_each p (λ k h b. k < 1 + statements_count t.body) Stands (λ S n step touches h. h)
      (λ n h body seen m k S u a less there inside round. inside (each_append (λ (v : Turn). v.statement < 1 + statements_count t.body) (turns_of S) ((frame (entered_with p n h body seen m) k).turn ∷ []) round
      (each_more (λ (v : Turn). v.statement < 1 + statements_count t.body) (frame (entered_with p n h body seen m) k).turn [] less (each_none (λ (v : Turn). v.statement < 1 + statements_count t.body)))))
      t.body 1 [] start its_dos a i (each_none (λ (v : Turn). v.statement < 1 + statements_count t.body))

  -- nobody wants such a copy
  none_where : (a b : Bool) → (a ≡ true → b ≡ true) → b ≡ false → a ≡ false
  none_where false b f h = refl
  none_where true b f h = absurd (both_ways b h (f refl))

  pub far_untouched : (acts : List Act) → ((a : Act) → IsIn a acts → IsIn a (run_all (setting_of t) t.body 1 [] start).acts) → (c : Cell) (x : List ℕ) (front rest : List Iteration) (i : Iteration) → c ≡ Private x (front ++ i ∷ rest) → statements_count t.body < i.statement → touch acts c ≡ false
  far_untouched acts sub c x front rest i is far =
      untouched_acts c acts (λ a j v k same.
      let below = subst (PathBelow (1 + statements_count t.body)) (same ∙ is) (cells_below a (sub a j) v k) in
      let less = below i (in_right i front (i ∷ rest) (inl refl)) in
      omega (arith, less, far))

  pub far_unwanted : (acts : List Act) → ((a : Act) → IsIn a acts → IsIn a (run_all (setting_of t) t.body 1 [] start).acts) → (c : Cell) (x : List ℕ) (front rest : List Iteration) (i : Iteration) → c ≡ Private x (front ++ i ∷ rest) → statements_count t.body < i.statement → (shown : Cell → Bool) → shown c ≡ false → wants shown acts c ≡ false
  far_unwanted acts sub c x front rest i is far shown hidden =
      let none = none_where (needs acts c) (touch acts c) (needed_touched (touches_of acts) c) (far_untouched acts sub c x front rest i is far) in
      λ j. none j || (hidden j && not (written acts c))
