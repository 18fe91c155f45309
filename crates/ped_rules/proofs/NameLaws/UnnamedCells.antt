-- A name that doesn't occur in the statements of a valid program: no act of a run touches a cell of it.
use Rattle.std.proofs.Common.{Bool, List, [], ap, codes, false, if◌then◌else◌, refl, sym, true, ℕ, ◌++◌, ◌+◌, ◌<◌, ◌||◌, ◌∙◌, ◌∷◌, ◌≡◌}
use Rattle.std.proofs.lemmas.Bool.{and_parts, both_ways, or_parts}
use Rattle.std.specs.List.{flat_map}
use Rattle.std.specs.Str.Lines.{lines}
use Rattle.ped_base.proofs.NameEquality.{same_is, same_itself}
use Rattle.ped_base.specs.Lists.{is_among, is_same_text}
use Rattle.ped_rules.proofs.NestLaws.InnerPlaces.{loops_of_program}
use Rattle.ped_rules.proofs.NameLaws.ReferencedNames.{reference_named}
use Rattle.ped_loop_runs.proofs.LoopLaws.RacesByReferences.{read_is_referred}
use Rattle.ped_loop_runs.specs.ped_steps.proofs.RunLaws.DeclaredArrays.{no_constant, no_saved}
use Rattle.ped_loop_runs.specs.ped_steps.proofs.RunLaws.NamesAtSites.{stmts_at}
use Rattle.ped_loop_runs.specs.ped_steps.proofs.RunLaws.AccessTouches.{write_there}
use Rattle.ped_loop_runs.specs.ped_steps.proofs.RunLaws.NamesKept.{occurs, occurs_append}
use Rattle.ped_affine.specs.Assigned.{assigned_in, assigned_in_all, assigned_left}
use Rattle.ped_loop_runs.specs.ped_flow.specs.Questions.{LoopOf}
use Rattle.ped_loop_runs.specs.ped_laws.proofs.ConflictLaws.CoveringCells.{name_in}
use Rattle.ped_loop_runs.specs.ped_laws.proofs.ConflictLaws.CoveringIndices.{IsIndexAt}
use Rattle.ped_loop_runs.specs.ped_laws.proofs.ConflictLaws.CoveringTelling.{Tells, program_tells}
use Rattle.ped_loop_runs.specs.ped_laws.proofs.ConflictLaws.MakingParts.{Part, Parts, body_parts, else_parts, first_part, rest_parts, stand_whole, then_parts}
use Rattle.ped_loop_runs.specs.ped_laws.proofs.ConflictLaws.MakingSteps.{Done, assignment_done, do_done, if_done, nothing_is_done, print_done, read_done, stop_done, then_done}
use Rattle.ped_loop_runs.specs.ped_laws.proofs.ConflictLaws.MakingTouches.{Good, Making}
use Rattle.ped_loop_runs.specs.ped_laws.proofs.FlowRunLaws.Writing.{all_unassigned}
use Rattle.ped_loop_runs.specs.ped_laws.proofs.RunLaws.Touches.{Each}
use Rattle.ped_loop_runs.specs.ped_laws.specs.Acts.Orders.{IsIn}
use Rattle.ped_loop_runs.specs.ped_laws.specs.Acts.Sets.{written}
use Rattle.ped_loop_runs.specs.ped_laws.specs.Conflicts.Making.{StandsFor as MadeAt, cell_named}
use Rattle.ped_loop_runs.specs.ped_laws.specs.Conflicts.Reaching.{IsStoreIn}
use Rattle.ped_loop_runs.specs.ped_laws.specs.Covering.Within.{HoldsStorable}
use Rattle.ped_loop_runs.specs.ped_laws.specs.FlowRuns.Covering.{is_cell_of}
use Rattle.ped_loop_runs.specs.ped_eval.specs.Loops.{entered_with, frame, limits}
use Rattle.ped_loop_runs.specs.ped_eval.specs.Outcomes.{run_of, setting_of}
use Rattle.ped_loop_runs.specs.ped_eval.specs.Runs.{run, run_all}
use Rattle.ped_loop_runs.specs.ped_eval.specs.Scopes.{Names, Scope, Setting, cell_of, names_in, place_of, turns_of}
use Rattle.ped_loop_runs.specs.ped_store.specs.Acts.{Act, Manner, Step, Touch, is_told, iterations_of, reads, writes}
use Rattle.ped_loop_runs.specs.ped_store.specs.Cells.{Cell, In, Out, Private, Scalar}
use Rattle.ped_loop_runs.specs.ped_store.specs.Races.{is_lines, is_write}
use Rattle.ped_loop_runs.specs.ped_store.specs.Stores.{Store, store_at_start}
use Rattle.ped_refs.specs.References.{Reference, references}
use Rattle.ped_loop_runs.specs.ped_symbols.proofs.RightUseLaws.Whole.{names_occur, right_program}
use Rattle.ped_loop_runs.specs.ped_symbols.specs.Kinds.{names_of, table_of}
use Rattle.ped_loop_runs.specs.ped_symbols.specs.NameRefusals.{IsValid}
use Rattle.ped_loop_runs.specs.ped_symbols.specs.Sites.{decl_sites, stmts_sites}
use Rattle.ped_tree.proofs.NameLaws.Collected.{among_append, among_collected}
use Rattle.ped_tree.specs.Accesses.{constant_names}
use Rattle.ped_tree.specs.Grammar.Fits.{Surroundings, at_body, begins_with_statement, decls_fit, in_if, in_loop, moved, stmts_fit}
use Rattle.ped_tree.specs.Grammar.Words.{is_name}
use Rattle.ped_tree.specs.Names.Collecting.{with_names}
use Rattle.ped_tree.specs.NamesIn.{all_loop_variables, cond_names, expr_names, exprs_names, head_names, loop_variables, saved_in, stmt_names, stmts_names}
use Rattle.ped_tree.specs.Nests.{Loop}
use Rattle.ped_tree.specs.Numbering.{statement_count, statements_count}
use Rattle.ped_tree.specs.Tree.{Add, Assign, Call, Comment, Div, Do, Element, ExprTree, Head, If, Int, Mul, Neg, Pow, Print, ProgramTree, Read, StmtTree, StmtTrees, Stop, Sub, Var, more_stmts, no_stmts}
use Rattle.ped_affine.specs.Ranges as ranges
use Rattle.ped_loop_runs.specs.ped_store.specs.Cells as cells
use Rattle.ped_loop_runs.proofs.LoopLaws.OneForOneStands.{false_unless}

module _ (w : List ℕ) where
  abbrev None : List (List ℕ) → Type 0
  None names = is_among w names ≡ false

  pub neither : (xs ys : List (List ℕ)) → is_among w (xs ++ ys) ≡ false → (is_among w xs ≡ false) × (is_among w ys ≡ false)
  neither xs ys h = or_parts (is_among w xs) (is_among w ys) (sym (among_append w xs ys) ∙ h)

  none_both : (xs ys : List (List ℕ)) → None xs → None ys → None (xs ++ ys)
  none_both xs ys h k = among_append w xs ys ∙ (λ i. h i || k i)

  -- what statements assign, they name
  left_named : (e : ExprTree) → None (expr_names e) → None (assigned_left e)
  left_named (Var x) h = h
  left_named (Element x es) h = let first = (or_parts (is_same_text w x) (is_among w (exprs_names es)) h).0 in λ i. first i || false
  left_named (Int n) h = refl
  left_named (Neg a) h = refl
  left_named (Add a b) h = refl
  left_named (Sub a b) h = refl
  left_named (Mul a b) h = refl
  left_named (Div a b) h = refl
  left_named (Pow a b) h = refl
  left_named (Call f es) h = refl

  lefts_named : (items : List ExprTree) → None (flat_map expr_names items) → None (flat_map assigned_left items)
  lefts_named [] h = refl
  lefts_named (e ∷ items) h = let parts = neither (expr_names e) (flat_map expr_names items) h in none_both (assigned_left e) (flat_map assigned_left items) (left_named e parts.0) (lefts_named items parts.1)

  -- of a head
  pub record UnnamedHead (h : Head) : Type 0 where
    pub variable : is_same_text w h.variable ≡ false
    pub first : is_among w (expr_names h.first) ≡ false
    pub last : is_among w (expr_names h.last) ≡ false
    pub private : is_among w h.private ≡ false

  pub unnamed_head : (h : Head) → is_among w (head_names h) ≡ false → UnnamedHead h
  unnamed_head h k =
      let parts = neither h.rejected (h.variable ∷ (expr_names h.first ++ expr_names h.last ++ expr_names h.step ++ h.private)) k in
      let rest = or_parts (is_same_text w h.variable) (is_among w (expr_names h.first ++ expr_names h.last ++ expr_names h.step ++ h.private)) parts.1 in
      let private = neither (expr_names h.first ++ expr_names h.last ++ expr_names h.step) h.private rest.1 in
      let bounds = neither (expr_names h.first ++ expr_names h.last) (expr_names h.step) private.0 in
      let both = neither (expr_names h.first) (expr_names h.last) bounds.0 in
      record { variable = rest.0; first = both.0; last = both.1; private = private.1 }

  mutual
    assigned_named : (s : StmtTree) → None (stmt_names s) → None (assigned_in s)
    assigned_named (Assign left right) h = left_named left (neither (expr_names left) (expr_names right) h).0
    assigned_named (If c a b) h =
        let parts = neither (cond_names c ++ stmts_names a) (stmts_names b) h in
        none_both (assigned_in_all a) (assigned_in_all b) (all_assigned_named a (neither (cond_names c) (stmts_names a) parts.0).1) (all_assigned_named b parts.1)
    assigned_named (Do h body) k =
        let parts = neither (head_names h) (stmts_names body) k in
        let head = unnamed_head h parts.0 in
        let rest = none_both h.private (assigned_in_all body) head.private (all_assigned_named body parts.1) in
        λ i. head.variable i || rest i
    assigned_named (Print items) h = refl
    assigned_named (Read items) h = lefts_named items h
    assigned_named Stop h = refl
    assigned_named (Comment text) h = refl

    pub all_assigned_named : (ss : StmtTrees) → is_among w (stmts_names ss) ≡ false → is_among w (assigned_in_all ss) ≡ false
    all_assigned_named no_stmts h = refl
    all_assigned_named (more_stmts s rest) h = let parts = neither (stmt_names s) (stmts_names rest) h in none_both (assigned_in s) (assigned_in_all rest) (assigned_named s parts.0) (all_assigned_named rest parts.1)

  -- and the variables of their DO loops
  mutual
    loops_named : (s : StmtTree) → None (stmt_names s) → None (loop_variables s)
    loops_named (Assign left right) h = refl
    loops_named (If c a b) h =
        let parts = neither (cond_names c ++ stmts_names a) (stmts_names b) h in
        none_both (all_loop_variables a) (all_loop_variables b) (all_loops_named a (neither (cond_names c) (stmts_names a) parts.0).1) (all_loops_named b parts.1)
    loops_named (Do h body) k =
        let parts = neither (head_names h) (stmts_names body) k in
        let head = unnamed_head h parts.0 in
        let rest = all_loops_named body parts.1 in
        λ i. head.variable i || rest i
    loops_named (Print items) h = refl
    loops_named (Read items) h = refl
    loops_named Stop h = refl
    loops_named (Comment text) h = refl

    pub all_loops_named : (ss : StmtTrees) → is_among w (stmts_names ss) ≡ false → is_among w (all_loop_variables ss) ≡ false
    all_loops_named no_stmts h = refl
    all_loops_named (more_stmts s rest) h = let parts = neither (stmt_names s) (stmts_names rest) h in none_both (loop_variables s) (all_loop_variables rest) (loops_named s parts.0) (all_loops_named rest parts.1)

-- a name that doesn't occur in a program doesn't occur in its statements, nor is it saved
module _ (t : ProgramTree) (w : List ℕ) (absent : is_among w (names_of t) ≡ false) where
  both_absent : (occurs w (flat_map decl_sites t.decls) ≡ false) × (occurs w (stmts_sites t.body) ≡ false)
  both_absent = or_parts (occurs w (flat_map decl_sites t.decls)) (occurs w (stmts_sites t.body)) (sym (occurs_append w (flat_map decl_sites t.decls) (stmts_sites t.body)) ∙ sym (names_occur t w) ∙ absent)

  pub unnamed_statements : is_among w (stmts_names t.body) ≡ false
  unnamed_statements = ap (is_among w) (sym (stmts_at t.body)) ∙ both_absent.1

  pub unsaved_name : is_among w (flat_map saved_in t.decls) ≡ false
  unsaved_name = no_saved t.decls w both_absent.0

  pub constants_absent : is_among w (constant_names t.decls) ≡ false
  constants_absent = no_constant t.decls w both_absent.0

-- a cell of the name is no line
no_line : (w : List ℕ) (c : Cell) → is_cell_of w c ≡ true → is_lines c ≡ false
no_line w (Scalar x) h = refl
no_line w (Private x path) h = refl
no_line w (cells.Element x js) h = refl
no_line w In h = absurd cc
no_line w Out h = absurd cc

its_name : (w : List ℕ) (c : Cell) → is_cell_of w c ≡ true → w ≡ name_in c
its_name w (Scalar x) h = same_is w x h
its_name w (Private x path) h = same_is w x h
its_name w (cells.Element x js) h = absurd cc
its_name w In h = absurd cc
its_name w Out h = absurd cc

module _ (t : ProgramTree) (valid : IsValid t) (w : List ℕ) (name : is_name w ≡ true) (absent : is_among w (stmts_names t.body) ≡ false) (data_bytes : List ℕ) where
  abbrev p : Setting
  p = setting_of t

  abbrev start : Store
  start = store_at_start (lines data_bytes)

  abbrev whole : ranges.Setting
  whole = record { constants = (table_of t).constants; loop_variables = with_names [] (all_loop_variables t.body); assigned = assigned_in_all t.body }

  -- each touch by a reference is of another name
  abbrev Others : Act → Type 0
  Others a = Each (λ (x : Touch). 0 < x.reference → is_cell_of w x.cell ≡ false) a.touches

  of_name : (g : Names) (x : List ℕ) (S : Scope) → g ≡ names_in p S → (is_name x ≡ true → is_among x (stmts_names t.body) ≡ true) → is_cell_of w (cell_named g x) ≡ false
  of_name g x S is there = go (is_same_text x (codes "(IN)")) (is_same_text x (codes "(OUT)"))
    where
      other : is_same_text w x ≡ false
      other = false_unless (is_same_text w x) (λ same.
          let e : w ≡ x = same_is w x same in
          both_ways (is_among w (stmts_names t.body)) absent (ap (λ (y : List ℕ). is_among y (stmts_names t.body)) e ∙ there (ap is_name (sym e) ∙ name)))

      go : (a b : Bool) → is_cell_of w (if a then In else (if b then Out else g.cell x)) ≡ false
      go true b = refl
      go false true = refl
      go false false = ap (λ (h : Names). is_cell_of w (h.cell x)) is ∙ of_cell S
        where
          of_cell : (R : Scope) → is_cell_of w (cell_of R x) ≡ false
          of_cell [] = other
          of_cell (f ∷ R) = by (is_among x f.private) (of_cell R)
            where
              by : (b : Bool) → is_cell_of w (cell_of R x) ≡ false → is_cell_of w (if b then Private x (iterations_of (turns_of (f ∷ R))) else cell_of R x) ≡ false
              by true h = other
              by false h = h

  own : (nest : List Loop) (scope : Scope) (n : ℕ) (step : Step) (touches : List Touch) → Each (Good t valid whole start n nest scope) touches → Others (record { step = step; place = place_of (setting_of t) n scope; touches = touches })
  own nest scope n step touches good x i some = by (good x i).made
    where
      stands_other : (r : Reference) → IsIn r (references t) → (u : Store) (subscripts : List ExprTree) → MadeAt t (names_in p scope) u r.access.name subscripts x.cell → is_cell_of w x.cell ≡ false
      stands_other r listed u [] e = ap (is_cell_of w) e ∙ of_name (names_in p scope) r.access.name scope refl (λ named. (reference_named t r listed named).0)
      stands_other r listed u (s ∷ subscripts) e = ap (is_cell_of w) e.2

      by : (0 < x.reference → Making t valid whole start n nest scope x) → is_cell_of w x.cell ≡ false
      by made = let m = made some in stands_other (record { statement = n; number = x.reference; access = m.access; nest = nest }) m.listed m.store m.access.subscripts m.stands

  mutual
    run_others : (u : StmtTree) (nest : List Loop) (scope : Scope) (around : Surroundings) (n : ℕ) → Part t whole nest scope around n u → (v : Store) → IsStoreIn whole start v → Done whole start Others (run p u n scope v)
    run_others (Assign left right) nest scope around n k v stored = assignment_done t valid whole start Others n nest scope around (own nest scope n) left right k v stored
    run_others (If c a b) nest scope around n k v stored =
        if_done t valid whole start Others n nest scope around (own nest scope n) c a b k
        (λ u within. all_others a nest scope (in_if around 1) (n + 1) (then_parts t whole nest scope around n c a b k) u within)
        (λ u within. all_others b nest scope (in_if around (1 + statements_count a)) (n + 1 + statements_count a) (else_parts t whole nest scope around n c a b k) u within)
        v stored
    run_others (Do h b) nest scope around n k v stored =
        do_done t valid whole start Others n nest scope around (own nest scope n) h b k
        (λ u within m comes i from to z inside.
        let f = frame (entered_with p n h b (limits (names_in p scope) h u).seen m) i in
        all_others b (nest ++ (record { number = n; head = h }) ∷ []) (f ∷ scope) (in_loop around h) (n + 1) (body_parts t whole nest scope around n h b f refl k) z inside)
        v stored
    run_others (Print items) nest scope around n k v stored = print_done t valid whole start Others n nest scope around (own nest scope n) items k v stored
    run_others (Read items) nest scope around n k v stored = read_done t valid whole start Others n nest scope around (own nest scope n) items k v stored
    run_others Stop nest scope around n k v stored = stop_done t valid whole start Others n nest scope around (own nest scope n) v stored
    run_others (Comment text) nest scope around n k v stored = nothing_is_done whole start Others v stored

    all_others : (us : StmtTrees) (nest : List Loop) (scope : Scope) (around : Surroundings) (n : ℕ) → Parts t whole nest scope around n us → (v : Store) → IsStoreIn whole start v → Done whole start Others (run_all p us n scope v)
    all_others no_stmts nest scope around n k v stored = nothing_is_done whole start Others v stored
    all_others (more_stmts u rest) nest scope around n k v stored =
        then_done whole start Others (run p u n scope v) (run_all p rest (n + statement_count u) scope) (run_others u nest scope around n (first_part t whole nest scope around n u rest k) v stored)
        (λ z within. all_others rest nest scope (moved around (statement_count u)) (n + statement_count u) (rest_parts t whole nest scope around n u rest k) z within)

  at_start : HoldsStorable (with_names [] (all_loop_variables t.body)) start
  at_start (Scalar x) n storing h = absurd cc
  at_start (cells.Element x js) n storing h = absurd cc
  at_start (Private x path) n storing h = absurd cc
  at_start In n storing h = absurd cc
  at_start Out n storing h = absurd cc

  referred : Each Others (run_of t data_bytes).acts
  referred =
      let fits = and_parts (decls_fit 0 t.decls) (stmts_fit (at_body t) t.body) (and_parts _ (begins_with_statement t.body) valid.fits).0 in
      let right = right_program t valid in
      (all_others t.body [] [] (at_body t) 1 (record {
        fit = fits.1;
        uses = right.statements;
        increments = right.steps;
        assigns = λ x h. h;
        loops = λ x h. among_collected x [] (all_loop_variables t.body) ∙ h;
        listed = λ r i. i;
        stand = stand_whole t;
        same = λ x. refl;
        round = refl;
      }) start (record { storable = at_start; constant = λ x free. refl })).acts

  -- no touch is of a cell of the name
  pub untouched : (a : Act) → IsIn a (run_of t data_bytes).acts → (x : Touch) → IsIn x a.touches → is_cell_of w x.cell ≡ false
  untouched a i x j = false_unless (is_cell_of w x.cell) (λ named. by x.manner refl named)
    where
      told : (m : Manner) → m ≡ is_told → Tells t a.place.turns m x.cell → IsIndexAt t a.place.turns x.cell
      told is_told e k = k
      told reads e k = absurd cc
      told writes e k = absurd cc

      by : (m : Manner) → x.manner ≡ m → is_cell_of w x.cell ≡ true → ⊥
      by writes e named = both_ways (written (run_of t data_bytes).acts x.cell) (all_unassigned p w t.body 1 [] start x.cell (all_assigned_named w t.body absent) named) (write_there (run_of t data_bytes).acts a x i j (ap is_write e))
      by reads e named = both_ways (is_cell_of w x.cell) (referred a i x j (read_is_referred p t.body 1 [] start a i x j e (no_line w x.cell named))) named
      by is_told e named =
          let k = told x.manner e (program_tells t start a i x j) in
          let loop : LoopOf t k.last.statement = record { head = k.head; body = k.body; is = k.stands } in
          let variable : w ≡ k.head.variable = its_name w x.cell named ∙ k.variable in
          both_ways (is_among w (all_loop_variables t.body)) (all_loops_named w t.body absent)
          (loops_of_program t k.last.statement loop w (ap (λ (b : Bool). b || is_among w (all_loop_variables k.body)) (ap (is_same_text w) (sym variable) ∙ same_itself w)))
