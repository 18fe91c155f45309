-- What places tell in the program with the renamed DO races with nothing that a reference writes: no act in an iteration of a DO writes its variable.
use Rattle.std.proofs.Common.{◌≡◌, ◌⊎◌, ℕ, ◌+◌, ◌-◌, ◌<◌, ◌==◌, List, [], ◌∷◌, ◌++◌, Bool, true, false, ◌||◌, Option, None, Some, inl, inr, refl, sym, ap, subst, ◌∙◌, if◌then◌else◌}
use Rattle.std.specs.Str.Lines.{lines}
use Rattle.std.proofs.lemmas.Bool.{and_parts, both_ways}
use Rattle.ped_base.proofs.NameEquality.{same_itself}
use Rattle.ped_base.specs.Lists.{is_among, is_same_text}
use Rattle.ped_tree.specs.Numbering.{all_numbered, at_place, numbered, statement_with}
use Rattle.ped_tree.specs.Tree.{Assign, Comment, Do, Head, If, Print, ProgramTree, Read, StmtTree, StmtTrees, Stop, Var, more_stmts, no_stmts}
use Rattle.ped_rules.specs.ped_affine.specs.Assigned.{assigned_in_all}
use Rattle.ped_rules.specs.ped_loop_runs.proofs.TidyLaws.TidyReferencesGaps.{each_of_program}
use Rattle.ped_rules.specs.ped_steps.proofs.RunLaws.AccessTouches.{IsTold, touch_of, write_there, accesses_from}
use Rattle.ped_rules.specs.ped_steps.proofs.RunLaws.RunPlaces.{all_each}
use Rattle.ped_rules.specs.ped_steps.proofs.RunLaws.SparedVariables.{IsUnassigned, variables_unassigned}
use Rattle.ped_rules.specs.ped_steps.specs.Replacing.{alone}
use Rattle.ped_rules.specs.ped_steps.specs.Runs.Gaps.{Gap, at_front, filled, in_body, in_else, in_then, past}
use Rattle.ped_symbolic.specs.Substitution.{statement_substituted, statements_substituted}
use Rattle.ped_rules.specs.ped_symbols.specs.Kinds.{kind_in}
use Rattle.ped_rules.specs.ped_laws.proofs.ActLaws.Lists.{in_left, in_parts, in_right}
use Rattle.ped_rules.specs.ped_laws.proofs.ActLaws.SameCells.{cell_is}
use Rattle.ped_rules.specs.ped_laws.proofs.ConflictLaws.CoveringCells.{name_in}
use Rattle.ped_rules.specs.ped_laws.proofs.ConflictLaws.CoveringIndices.{IsIndexAt, Near, near_front}
use Rattle.ped_rules.specs.ped_laws.proofs.ConflictLaws.CoveringTelling.{Tells, program_tells}
use Rattle.ped_rules.specs.ped_laws.proofs.FlowRunLaws.Writing.{all_unassigned}
use Rattle.ped_rules.specs.ped_laws.proofs.RunLaws.Touches.{Fine, Good, all_good}
use Rattle.ped_rules.specs.ped_laws.proofs.RunLaws.Turning.{At}
use Rattle.ped_rules.specs.ped_laws.specs.Acts.Orders.{IsIn}
use Rattle.ped_rules.specs.ped_laws.specs.Acts.Sets.{written}
use Rattle.ped_rules.specs.ped_laws.specs.FlowRuns.Covering.{is_cell_of}
use Rattle.ped_rules.specs.ped_eval.specs.Evaluation.{Seen}
use Rattle.ped_rules.specs.ped_eval.specs.Loops.{Limits, entered_with, frame}
use Rattle.ped_rules.specs.ped_eval.specs.Outcomes.{run_of, setting_of}
use Rattle.ped_rules.specs.ped_eval.specs.Runs.{run_all}
use Rattle.ped_rules.specs.ped_eval.specs.Scopes.{Frame, Scope, Setting, turns_of}
use Rattle.ped_rules.specs.ped_flow.specs.Questions.{LoopOf}
use Rattle.ped_rules.specs.ped_store.specs.Acts.{Act, Manner, Touch, Turn, is_told, iterations_of, reads, writes}
use Rattle.ped_rules.specs.ped_store.specs.Cells.{Cell, Iteration, same_cell}
use Rattle.ped_rules.specs.ped_store.specs.Cells as cells
use Rattle.ped_rules.specs.ped_store.specs.Races.{Access, accesses, are_apart, conflict, is_write, race}
use Rattle.ped_rules.specs.ped_store.specs.Stores.{Store, store_at_start}
use Rattle.ped_rules.proofs.NameLaws.UnnamedCells.{all_assigned_named}
use Rattle.ped_splits.proofs.FuseFacts.{renamed}
use Rattle.ped_splits.proofs.RenameFacts.{IsRenaming}
use Rattle.ped_splits.proofs.RenameGaps.{next_gap, next_new, next_old}
use Rattle.ped_splits.proofs.RenamePlaces.{stands_in}
use Rattle.ped_splits.proofs.RenameRaces.{kept_in, in_kept}
use Rattle.ped_splits.proofs.RenameActs.{referred}
use Rattle.ped_splits.specs.Neighbours.{Neighbour}

first_iteration : (i j : Iteration) (is js : List Iteration) → i ∷ is ≡ j ∷ js → i ≡ j
first_iteration i j is js e = cc

more_iterations : (i j : Iteration) (is js : List Iteration) → i ∷ is ≡ j ∷ js → is ≡ js
more_iterations i j is js e = cc

abbrev of_turn : Turn → Iteration
of_turn t = record { statement = t.statement; number = t.number }

-- the same iteration is among others
same_among : (i : Turn) (ts us : List Turn) → IsIn i ts → iterations_of us ≡ iterations_of ts → (j : Turn) × IsIn j us × (j.statement ≡ i.statement)
same_among i [] us h e = absurd h
same_among i (t ∷ ts) [] h e = absurd cc
same_among i (t ∷ ts) (u ∷ us) (inl h) e = (u, inl refl, ap (λ (z : Iteration). z.statement) (first_iteration (of_turn u) (of_turn t) (iterations_of us) (iterations_of ts) e) ∙ ap (λ (z : Turn). z.statement) (sym h))
same_among i (t ∷ ts) (u ∷ us) (inr h) e = let r = same_among i ts us h (more_iterations (of_turn u) (of_turn t) (iterations_of us) (iterations_of ts) e) in (r.0, inr r.1, r.2)

-- a cell of a scalar with this name
near_named : (ts : List Turn) (c : Cell) (y : List ℕ) → Near ts c → name_in c ≡ y → is_cell_of y c ≡ true
near_named ts (cells.Scalar z) y n e = ap (λ (w : List ℕ). is_same_text w z) (sym e) ∙ same_itself z
near_named ts (cells.Private z path) y n e = ap (λ (w : List ℕ). is_same_text w z) (sym e) ∙ same_itself z
near_named ts (cells.Element z js) y n e = absurd n
near_named ts cells.In y n e = absurd n
near_named ts cells.Out y n e = absurd n

abbrev Any : List Turn → Cell → Type 0
Any ts c = Unit {0}

at_of : (ts : List Turn) (m : Manner) (c : Cell) (r : ℕ) → Fine Any ts m c r → At ts c
at_of ts reads c r f = f.1
at_of ts writes c r f = f.1
at_of ts is_told c r f = f.1

-- no act in an iteration of a DO writes what the body doesn't assign
module _ (t : ProgramTree) (s : ℕ) (x : Neighbour t s) (r : IsRenaming t s x) (data_bytes : List ℕ) where
  abbrev p : Setting
  p = setting_of t

  abbrev u : ProgramTree
  u = renamed x

  abbrev start : Store
  start = store_at_start (lines data_bytes)

  abbrev I : List ℕ
  I = x.own.variable

  abbrev J : List ℕ
  J = x.next.variable

  abbrev old_loop : StmtTree
  old_loop = Do x.next x.next_body

  abbrev Spares : Turn → Act → Type 0
  Spares i a = (y : List ℕ) (loop : LoopOf t i.statement) → is_among y (assigned_in_all loop.body) ≡ false → (v : Touch) → IsIn v a.touches → is_write v.manner ≡ true → is_cell_of y v.cell ≡ true → ⊥

  abbrev SparesInside : Scope → Act → Type 0
  SparesInside S a = (i : Turn) → IsIn i a.place.turns → IsIn i (turns_of S) ⊎ Spares i a

  outward : (n : ℕ) (h : Head) (body : StmtTrees) (seen : List Seen) (l : Limits) (k : ℕ) (S : Scope) (w : Store) (a : Act) → IsUnassigned t (kind_in t) n h body
      → IsIn a (run_all p body (n + 1) (frame (entered_with p n h body seen l) k ∷ S) w).acts → SparesInside (frame (entered_with p n h body seen l) k ∷ S) a → SparesInside S a
  outward n h body seen l k S w a q there inside i at = elim (inside i at) [
    | inl round ↦ elim (in_parts i (turns_of S) (f.turn ∷ []) round) [
      | inl z ↦ inl z
      | inr z ↦ elim z [ inl e ↦ inr (spares e) | inr wrong ↦ absurd wrong ]
    ]
    | inr z ↦ inr z
  ]
    where
      f : Frame
      f = frame (entered_with p n h body seen l) k

      spares : i ≡ f.turn → Spares i a
      spares e y loop none v m write named =
          let number : i.statement ≡ n = ap (λ (z : Turn). z.statement) e in
          let same : Some (Do loop.head loop.body) ≡ Some (Do h body) = sym loop.is ∙ ap (λ (z : ℕ). statement_with z t) number ∙ q.0 in
          let bodies : loop.body ≡ body = cc in
          let did = (run_all p body (n + 1) (f ∷ S) w).acts in
          both_ways (written did v.cell) (all_unassigned p y body (n + 1) (f ∷ S) w v.cell (ap (λ (ts : StmtTrees). is_among y (assigned_in_all ts)) (sym bodies) ∙ none) named) (write_there did a v there m write)

  spares_in : (a : Act) → IsIn a (run_of t data_bytes).acts → (i : Turn) → IsIn i a.place.turns → Spares i a
  spares_in a there i at = elim (all_each p (IsUnassigned t (kind_in t)) SparesInside (λ S n step touches z here. inl here) outward t.body 1 [] start (variables_unassigned t r.valid) a there i at) [
    | inl z ↦ absurd z
    | inr z ↦ z
  ]

  -- the same DO loops stand at the same places, but for the variable of the second one
  abbrev variable_of : StmtTree → Option (List ℕ)
  variable_of (Do h b) = Some h.variable
  variable_of (Assign left right) = None
  variable_of (If c a b) = None
  variable_of (Print items) = None
  variable_of (Read items) = None
  variable_of Stop = None
  variable_of (Comment text) = None

  abbrev Alike : StmtTree → StmtTree → Type 0
  Alike z w = (variable_of w ≡ variable_of z) ⊎ ((z ≡ old_loop) × (variable_of w ≡ Some I))

  abbrev AllAlike : List StmtTree → List StmtTree → Type 0
  AllAlike [] [] = Unit {0}
  AllAlike [] (w ∷ ws) = ⊥
  AllAlike (z ∷ zs) [] = ⊥
  AllAlike (z ∷ zs) (w ∷ ws) = Alike z w × AllAlike zs ws

  alike_itself : (zs : List StmtTree) → AllAlike zs zs
  alike_itself [] = tt
  alike_itself (z ∷ zs) = (inl refl, alike_itself zs)

  alike_append : (zs ws ys vs : List StmtTree) → AllAlike zs ws → AllAlike ys vs → AllAlike (zs ++ ys) (ws ++ vs)
  alike_append [] [] ys vs h k = k
  alike_append [] (w ∷ ws) ys vs h k = absurd h
  alike_append (z ∷ zs) [] ys vs h k = absurd h
  alike_append (z ∷ zs) (w ∷ ws) ys vs h k = (h.0, alike_append zs ws ys vs h.1 k)

  mutual
    alike_substituted : (z : StmtTree) → AllAlike (numbered z) (numbered (statement_substituted J (Var I) z))
    alike_substituted (Assign left right) = (inl refl, tt)
    alike_substituted (If c a b) = (inl refl, alike_append (all_numbered a) (all_numbered (statements_substituted J (Var I) a)) (all_numbered b) (all_numbered (statements_substituted J (Var I) b)) (all_alike a) (all_alike b))
    alike_substituted (Do h b) = (inl refl, all_alike b)
    alike_substituted (Print items) = (inl refl, tt)
    alike_substituted (Read items) = (inl refl, tt)
    alike_substituted Stop = (inl refl, tt)
    alike_substituted (Comment text) = tt

    all_alike : (zs : StmtTrees) → AllAlike (all_numbered zs) (all_numbered (statements_substituted J (Var I) zs))
    all_alike no_stmts = tt
    all_alike (more_stmts z zs) = alike_append (numbered z) (numbered (statement_substituted J (Var I) z)) (all_numbered zs) (all_numbered (statements_substituted J (Var I) zs)) (alike_substituted z) (all_alike zs)

  abbrev new_loop : StmtTree
  new_loop = Do (record x.next { variable = x.own.variable }) (statements_substituted x.next.variable (Var x.own.variable) x.next_body)

  alike_filled : (gap : Gap) → AllAlike (all_numbered (filled gap (alone old_loop))) (all_numbered (filled gap (alone new_loop)))
  alike_filled (at_front rest) = alike_append (numbered old_loop) (numbered new_loop) (all_numbered rest) (all_numbered rest) (inr (refl, refl), all_alike x.next_body) (alike_itself (all_numbered rest))
  alike_filled (past z gap) = alike_append (numbered z) (numbered z) (all_numbered (filled gap (alone old_loop))) (all_numbered (filled gap (alone new_loop))) (alike_itself (numbered z)) (alike_filled gap)
  alike_filled (in_then c gap other rest) =
      alike_append (numbered (If c (filled gap (alone old_loop)) other)) (numbered (If c (filled gap (alone new_loop)) other)) (all_numbered rest) (all_numbered rest)
      (inl refl, alike_append (all_numbered (filled gap (alone old_loop))) (all_numbered (filled gap (alone new_loop))) (all_numbered other) (all_numbered other) (alike_filled gap) (alike_itself (all_numbered other))) (alike_itself (all_numbered rest))
  alike_filled (in_else c other gap rest) =
      alike_append (numbered (If c other (filled gap (alone old_loop)))) (numbered (If c other (filled gap (alone new_loop)))) (all_numbered rest) (all_numbered rest)
      (inl refl, alike_append (all_numbered other) (all_numbered other) (all_numbered (filled gap (alone old_loop))) (all_numbered (filled gap (alone new_loop))) (alike_itself (all_numbered other)) (alike_filled gap)) (alike_itself (all_numbered rest))
  alike_filled (in_body g gap rest) =
      alike_append (numbered (Do g (filled gap (alone old_loop)))) (numbered (Do g (filled gap (alone new_loop)))) (all_numbered rest) (all_numbered rest) (inl refl, alike_filled gap) (alike_itself (all_numbered rest))

  alike_at : (zs ws : List StmtTree) → AllAlike zs ws → (i : ℕ) (z w : StmtTree) → at_place zs i ≡ Some z → at_place ws i ≡ Some w → Alike z w
  alike_at [] [] h i z w e f = absurd cc
  alike_at [] (y ∷ ws) h i z w e f = absurd h
  alike_at (y ∷ zs) [] h i z w e f = absurd h
  alike_at (y ∷ zs) (v ∷ ws) h i z w e f = go (i == 0) (alike_at zs ws h.1 (i - 1) z w) e f
    where
      go : (b : Bool) → (at_place zs (i - 1) ≡ Some z → at_place ws (i - 1) ≡ Some w → Alike z w) → (if b then Some y else at_place zs (i - 1)) ≡ Some z → (if b then Some v else at_place ws (i - 1)) ≡ Some w → Alike z w
      go true more k l = let one : y ≡ z = cc in let two : v ≡ w = cc in subst (λ (q : StmtTree). Alike q w) one (subst (Alike y) two h.0)
      go false more k l = more k l

  new_is : alone (Do (record x.next { variable = I }) (if is_same_text I J then x.next_body else statements_substituted J (Var I) x.next_body)) ≡ alone new_loop
  new_is = ap (λ (b : Bool). alone (Do (record x.next { variable = I }) (if b then x.next_body else statements_substituted J (Var I) x.next_body))) r.differ

  loops_alike : (n : ℕ) (z w : StmtTree) → statement_with n t ≡ Some z → statement_with n u ≡ Some w → Alike z w
  loops_alike n z w e f = by (n == 0) e f
    where
      by : (b : Bool) → (if b then None else at_place (all_numbered t.body) (n - 1)) ≡ Some z → (if b then None else at_place (all_numbered u.body) (n - 1)) ≡ Some w → Alike z w
      by true k l = absurd cc
      by false k l =
          alike_at (all_numbered (filled (next_gap x) (alone old_loop))) (all_numbered (filled (next_gap x) (alone new_loop))) (alike_filled (next_gap x)) (n - 1) z w
          (ap (λ (ts : StmtTrees). at_place (all_numbered ts) (n - 1)) (sym (next_old x)) ∙ k)
          (ap (λ (ts : StmtTrees). at_place (all_numbered ts) (n - 1)) (sym (next_new x ∙ ap (filled (next_gap x)) new_is)) ∙ l)

  -- so an act in an iteration of a DO writes no variable that it has in the new program
  unwritten_variable : (a : Act) → IsIn a (run_of t data_bytes).acts → (i : Turn) → IsIn i a.place.turns → (h : Head) (body : StmtTrees) → statement_with i.statement u ≡ Some (Do h body) → (v : Touch) → IsIn v a.touches → is_write v.manner ≡ true → is_cell_of h.variable v.cell ≡ true → ⊥
  unwritten_variable a there i at h body stands v m write named =
      let loop = (stands_in t r.valid start a there i at).loop in
      elim (loops_alike i.statement (Do loop.head loop.body) (Do h body) loop.is stands) [
        | inl same ↦ (
            let variables : h.variable ≡ loop.head.variable = cc in
            let unassigned = (each_of_program (IsUnassigned t (kind_in t)) t (variables_unassigned t r.valid) i.statement loop).1 in
            spares_in a there i at loop.head.variable loop unassigned v m write (ap (λ (y : List ℕ). is_cell_of y v.cell) (sym variables) ∙ named)
            )
        | inr it ↦ (
            let variables : h.variable ≡ I = some_same h.variable I it.1 in
            let bodies : loop.body ≡ x.next_body = same_body loop.head x.next loop.body x.next_body it.0 in
            spares_in a there i at I loop (ap (λ (ts : StmtTrees). is_among I (assigned_in_all ts)) bodies ∙ all_assigned_named I x.next_body r.absent) v m write (ap (λ (y : List ℕ). is_cell_of y v.cell) (sym variables) ∙ named)
            )
      ]
    where
      some_same : (y w : List ℕ) → Some y ≡ Some w → y ≡ w
      some_same y w e = cc

      same_body : (g k : Head) (b c : StmtTrees) → Do g b ≡ Do k c → b ≡ c
      same_body g k b c e = cc

  or_second : (a b : Bool) → a ≡ false → a || b ≡ true → b ≡ true
  or_second true b e h = absurd cc
  or_second false b e h = h

  -- what a place tells races with no access by a reference
  pub told_unraced : referred (run_of t data_bytes).acts ≡ referred (run_of (renamed x) data_bytes).acts → (b c : Access) → IsTold (run_of (renamed x) data_bytes).acts b → IsIn c (accesses (run_of (renamed x) data_bytes).acts) → 0 < c.reference → race b c ≡ false
  told_unraced same b c told j some = go (race b c) refl
    where
      in_old : IsIn c (accesses (run_of t data_bytes).acts)
      in_old = kept_in (accesses (run_of t data_bytes).acts) c (subst (IsIn c) (sym same) (in_kept (accesses (run_of u data_bytes).acts) c j some))

      by_manner : (m : Manner) → m ≡ is_told → Tells u told.by.place.turns m told.told.cell → IsIndexAt u told.by.place.turns told.told.cell
      by_manner is_told e k = k
      by_manner reads e k = absurd cc
      by_manner writes e k = absurd cc

      never : are_apart b.place.turns c.place.turns ≡ true → conflict b c ≡ true → ⊥
      never apart meets =
          let d = accesses_from (run_of t data_bytes).acts c in_old in
          let w = touch_of d.0 d.0.touches c d.2 in
          let parts = and_parts (same_cell told.told.cell w.0.cell) (is_write told.told.manner || is_write w.0.manner) ((λ i. conflict (sym told.is i) (sym w.3 i)) ∙ meets) in
          let k = by_manner told.told.manner told.manner (program_tells u start told.by told.found told.told told.among) in
          let cell : told.told.cell ≡ w.0.cell = cell_is told.told.cell w.0.cell parts.0 in
          let write = or_second (is_write told.told.manner) (is_write w.0.manner) (ap is_write told.manner) parts.1 in
          let near : Near (k.front ++ k.last ∷ []) w.0.cell = subst (λ (z : Cell). Near (k.front ++ k.last ∷ []) z) cell k.near in
          let good : Good Any d.0 = all_good Any (λ scope y. Unit {0}) (λ scope y h. tt) (λ scope e n body q h y i. tt) p t.body 1 [] start (λ y i. tt) d.0 d.1 in
          let at : At d.0.place.turns w.0.cell = at_of d.0.place.turns w.0.manner w.0.cell w.0.reference (good.0 w.0 w.1) in
          let far : are_apart told.by.place.turns d.0.place.turns ≡ true = (λ i. are_apart (sym told.is i).place.turns (sym w.3 i).place.turns) ∙ apart in
          let f = near_front (k.front ++ k.last ∷ []) k.more d.0.place.turns w.0.cell (ap (λ (us : List Turn). are_apart us d.0.place.turns) (sym k.round) ∙ far) near at in
          let m = same_among k.last (k.front ++ k.last ∷ []) f.front (in_right k.last k.front (k.last ∷ []) (inl refl)) f.same in
          unwritten_variable d.0 d.1 m.0 (subst (λ (us : List Turn). IsIn m.0 us) (sym f.is) (in_left m.0 f.front f.rest m.1)) k.head k.body (ap (λ (z : ℕ). statement_with z u) m.2 ∙ k.stands) w.0 w.1 write
          (near_named (k.front ++ k.last ∷ []) w.0.cell k.head.variable near (ap name_in (sym cell) ∙ k.variable))

      go : (q : Bool) → race b c ≡ q → q ≡ false
      go true e = let k = and_parts (are_apart b.place.turns c.place.turns) (conflict b c) e in absurd (never k.0 k.1)
      go false e = refl
