-- The copies of the second variable in PARALLEL DO loops that lose it: nothing but the second DO touches them, and what these loops store when they are left.
use Rattle.std.proofs.Common.{◌≡◌, ◌⊎◌, ℕ, ℤ, zero, suc, ◌+◌, ◌<◌, ◌≤◌, List, [], ◌∷◌, ◌++◌, Bool, true, false, ◌&&◌, ◌||◌, ◌==◌, not, IsTrue, Option, None, Some, inl, inr, refl, sym, ap, subst, ◌∙◌, arith, eqb-true, if◌then◌else◌}
use Rattle.std.specs.Prelude.{nat_le, nat_lt}
use Rattle.std.specs.List.{list_any, range_with_len}
use Rattle.std.specs.Str.Lines.{lines}
use Rattle.std.proofs.Math.Decide.{dec_lt}
use Rattle.std.proofs.Math.Logic.{dite}
use Rattle.std.proofs.lemmas.Bool.{and_parts, both_ways, leb-true, lt-ltb, ltb-true}
use Rattle.std.proofs.lemmas.Bool.Decides.{nat_tests}
use Rattle.std.proofs.lemmas.List.{append_assoc}
use Rattle.ped_base.proofs.NameEquality.{same_is, same_itself}
use Rattle.ped_base.specs.Lists.{is_among, is_same_text}
use Rattle.ped_tree.specs.NamesIn.{all_loop_variables, loop_variables}
use Rattle.ped_tree.specs.Numbering.{all_numbered, statement_with, statements_count}
use Rattle.ped_tree.specs.Tree.{Assign, Comment, Do, Head, If, Print, ProgramTree, Read, StmtTree, Stop}
use Rattle.ped_rules.specs.ped_loop_runs.proofs.LoopLaws.OneForOneNames.{variables_unnamed}
use Rattle.ped_rules.specs.ped_loop_runs.proofs.LoopLaws.OneForOneStands.{false_unless}
use Rattle.ped_rules.specs.ped_loop_runs.proofs.PastingLaws.LeftCopies.{IsOwn}
use Rattle.ped_rules.specs.ped_loop_runs.specs.OtherCopies.{IsOfThese, LeaveApart, LeavesParallel}
use Rattle.ped_rules.proofs.NameLaws.ReferencesThere.{all_end_within}
use Rattle.ped_rules.specs.ped_steps.proofs.RunLaws.LoopVariables.{variable_outside}
use Rattle.ped_rules.specs.ped_steps.proofs.RunLaws.AccessTouches.{write_access, write_in, write_there}
use Rattle.ped_rules.specs.ped_steps.specs.Replacing.{alone}
use Rattle.ped_rules.specs.ped_steps.specs.Runs.Exchanging.{is_of_scalar}
use Rattle.ped_rules.specs.ped_steps.specs.Tidy.{is_write_in, is_written_in}
use Rattle.ped_refs.specs.References.{references}
use Rattle.ped_rules.specs.ped_laws.proofs.ActLaws.Conflicting.{access_by, access_in, accesses_in}
use Rattle.ped_rules.specs.ped_laws.proofs.ConflictLaws.CoveringCells.{name_in, name_of_cell}
use Rattle.ped_rules.specs.ped_laws.proofs.ConflictLaws.CoveringIndices.{IsIndexAt}
use Rattle.ped_rules.specs.ped_laws.proofs.ConflictLaws.CoveringRuns.{MakingLaw}
use Rattle.ped_rules.specs.ped_laws.proofs.ConflictLaws.CoveringTelling.{Tells, program_tells}
use Rattle.ped_rules.specs.ped_laws.proofs.ActLaws.Lists.{in_left, in_right}
use Rattle.ped_rules.specs.ped_laws.proofs.ActLaws.Renamings.{or_left, or_right}
use Rattle.ped_rules.specs.ped_laws.proofs.ActLaws.SameCells.{cell_is, cell_itself}
use Rattle.ped_rules.specs.ped_laws.proofs.ActLaws.Stores.{fits_find, fits_rest}
use Rattle.ped_rules.specs.ped_laws.proofs.FlowRunLaws.Cells.{cell_named}
use Rattle.ped_rules.specs.ped_laws.proofs.FlowRunLaws.DeadExits.{unneeded_behind}
use Rattle.ped_rules.specs.ped_laws.proofs.FlowRunLaws.Standing.{inner_stands, whole_stands}
use Rattle.ped_rules.specs.ped_laws.proofs.FlowRunLaws.Stopping.{fitting_stops}
use Rattle.ped_rules.specs.ped_laws.proofs.RunLaws.Defined.{numbers_read}
use Rattle.ped_rules.specs.ped_laws.proofs.RunLaws.StatementsTold.{all_told}
use Rattle.ped_rules.specs.ped_laws.specs.Acts.Fitting.{Find, Fits, store_after, touches_of}
use Rattle.ped_rules.specs.ped_laws.specs.Acts.Orders.{IsIn}
use Rattle.ped_rules.specs.ped_laws.specs.Acts.Sets.{needed_by, needs, read_first, written}
use Rattle.ped_rules.specs.ped_laws.specs.FlowRuns.Covering.{is_cell_of}
use Rattle.ped_rules.specs.ped_laws.specs.FlowRuns.Exits.{IsExit}
use Rattle.ped_rules.specs.ped_laws.specs.Runs.Touching.{is_own_store}
use Rattle.ped_rules.specs.ped_eval.specs.Outcomes.{Ends, run_of, setting_of}
use Rattle.ped_rules.specs.ped_eval.specs.Scopes.{Scope, Setting, cell_of, place_of, turns_of}
use Rattle.ped_rules.specs.ped_flow.specs.Questions.{LoopOf}
use Rattle.ped_rules.specs.ped_store.specs.Acts.{Act, Manner, Place, Touch, Turn, is_told, iterations_of, reads, touched, writes}
use Rattle.ped_rules.specs.ped_store.specs.Cells.{Cell, same_cell}
use Rattle.ped_rules.specs.ped_store.specs.Cells as cells
use Rattle.ped_rules.specs.ped_store.specs.Races.{is_lines, is_write}
use Rattle.ped_rules.specs.ped_store.specs.Stores.{Number, Store, Undefined, put, store_at_start}
use Rattle.ped_splits.proofs.RenameAsked.{faultless, in_touches, needed_number}
use Rattle.ped_splits.proofs.RenameFacts.{IsRenaming}
use Rattle.ped_splits.proofs.RenameGaps.{next_loop}
use Rattle.ped_splits.proofs.RenameInside.{any_there, loop_stands, next_inside}
use Rattle.ped_splits.proofs.RenameLost.{is_lost, is_loop_of, loses, lost_named}
use Rattle.ped_splits.proofs.RenamePlaces.{StandsIn, lost_turn, stands_in}
use Rattle.ped_splits.proofs.RenameRound.{variables_by}
use Rattle.ped_splits.proofs.RenameStores.{IsScoped, IsStored, all_scoped}
use Rattle.ped_splits.specs.Neighbours.{Neighbour, next_number}

-- a list with an item that passes a test
any_of : {X : Type 0} (p : X → Bool) (xs : List X) (x : X) → IsIn x xs → p x ≡ true → list_any p xs ≡ true
any_of p [] x i h = absurd i
any_of p (y ∷ ys) x (inl e) h = or_left (p y) (list_any p ys) (ap p (sym e) ∙ h)
any_of p (y ∷ ys) x (inr i) h = or_right (p y) (list_any p ys) (any_of p ys x i h)

-- a cell has one name
two_names : (c : Cell) (y w : List ℕ) → is_cell_of y c ≡ true → is_cell_of w c ≡ true → y ≡ w
two_names (cells.Scalar z) y w h k = same_is y z h ∙ sym (same_is w z k)
two_names (cells.Private z path) y w h k = same_is y z h ∙ sym (same_is w z k)
two_names (cells.Element z js) y w h k = absurd cc
two_names cells.In y w h k = absurd cc
two_names cells.Out y w h k = absurd cc

-- where some number of a range passes a test, there is one
any_witness : (test : ℕ → Bool) (n c : ℕ) → list_any test (range_with_len n c) ≡ true → (j : ℕ) × (n ≤ j) × (j < n + c) × (test j ≡ true)
any_witness test n zero h = absurd cc
any_witness test n (suc c) h = go (test n) refl (any_witness test (n + 1) c) h
  where
    go : (b : Bool) → test n ≡ b → (list_any test (range_with_len (n + 1) c) ≡ true → (j : ℕ) × (n + 1 ≤ j) × (j < n + 1 + c) × (test j ≡ true)) → b || list_any test (range_with_len (n + 1) c) ≡ true → (j : ℕ) × (n ≤ j) × (j < n + suc c) × (test j ≡ true)
    go true e more k = (n, omega arith, omega arith, e)
    go false e more k = let r = more k in let lo = r.1 in let hi = r.2 in (r.0, omega (arith, lo), omega (arith, hi), r.3)

-- a lost copy is a cell of a scalar
lost_scalar : (t : ProgramTree) (y : List ℕ) (m : ℕ) (c : Cell) → is_lost t y m c ≡ true → is_of_scalar c ≡ true
lost_scalar t y m (cells.Private z path) h = refl
lost_scalar t y m (cells.Scalar z) h = absurd cc
lost_scalar t y m (cells.Element z js) h = absurd cc
lost_scalar t y m cells.In h = absurd cc
lost_scalar t y m cells.Out h = absurd cc

-- nor of lines, and it holds nothing at the start
lost_line : (t : ProgramTree) (y : List ℕ) (m : ℕ) (c : Cell) → is_lost t y m c ≡ true → is_lines c ≡ false
lost_line t y m (cells.Private z path) h = refl
lost_line t y m (cells.Scalar z) h = absurd cc
lost_line t y m (cells.Element z js) h = absurd cc
lost_line t y m cells.In h = absurd cc
lost_line t y m cells.Out h = absurd cc

lost_undefined : (t : ProgramTree) (y : List ℕ) (m : ℕ) (c : Cell) → is_lost t y m c ≡ true → (data_lines : List (List ℕ)) → store_at_start data_lines c ≡ Undefined
lost_undefined t y m (cells.Private z path) h d = refl
lost_undefined t y m (cells.Scalar z) h d = absurd cc
lost_undefined t y m (cells.Element z js) h d = absurd cc
lost_undefined t y m cells.In h d = absurd cc
lost_undefined t y m cells.Out h d = absurd cc

-- touches that make the cell undefined where they write it, and need it not, read it not; nor need it those behind
needed_behind : (xs ys : List Touch) (u : Store) (c : Cell) → ((v : Touch) → IsIn v (xs ++ ys) → v.manner ≡ reads → v.cell ≡ c → (n : ℤ) × (v.content ≡ Number n)) → ((v : Touch) → IsIn v xs → is_write v.manner ≡ true → v.cell ≡ c → v.content ≡ Undefined) → Find (xs ++ ys) u → needed_by (xs ++ ys) c ≡ false →
    (needed_by ys c ≡ false) × ((v : Touch) → IsIn v xs → v.manner ≡ reads → v.cell ≡ c → ⊥)
needed_behind [] ys u c h w f k = (k, λ v i e same. absurd i)
needed_behind (z ∷ xs) ys u c h w f k =
    let more = needed_behind xs ys (touched z.manner z.cell z.content u) c (λ v i. h v (inr i)) (λ v i. w v (inr i)) f.1 rest in
    (more.0, λ v i e same. elim i [ inl q ↦ first (sym (ap (λ (y : Touch). y.manner) q) ∙ e) (sym (ap (λ (y : Touch). y.cell) q) ∙ same) | inr j ↦ more.1 v j e same ])
  where
    by_manner : (m : Manner) → z.manner ≡ m → z.cell ≡ c → read_first m (needed_by (xs ++ ys) c) ≡ false → needed_by (xs ++ ys) c ≡ false
    by_manner reads e same q = absurd cc
    by_manner is_told e same q = q
    by_manner writes e same q = false_unless (needed_by (xs ++ ys) c) (λ n.
        let r = needed_number (xs ++ ys) (touched z.manner z.cell z.content u) c (λ v i. h v (inr i)) f.1 n in
        let held : touched z.manner z.cell z.content u c ≡ z.content = (λ i. touched (e i) z.cell z.content u c) ∙ put_there (ap (λ (d : Cell). same_cell d c) same ∙ cell_itself c) in
        let wrong : Undefined ≡ Number r.0 = sym (w z (inl refl) (ap is_write e) same) ∙ sym held ∙ r.1 in
        absurd cc)
      where
        put_there : same_cell z.cell c ≡ true → put z.cell z.content u c ≡ z.content
        put_there e = ap (λ (k : Bool). if k then z.content else u c) e

    rest : needed_by (xs ++ ys) c ≡ false
    rest = go (same_cell z.cell c) refl
      where
        go : (b : Bool) → same_cell z.cell c ≡ b → needed_by (xs ++ ys) c ≡ false
        go true e = by_manner z.manner refl (cell_is z.cell c e) (sym (ap (λ (b : Bool). if b then read_first z.manner (needed_by (xs ++ ys) c) else needed_by (xs ++ ys) c) e) ∙ k)
        go false e = sym (ap (λ (b : Bool). if b then read_first z.manner (needed_by (xs ++ ys) c) else needed_by (xs ++ ys) c) e) ∙ k

    first : z.manner ≡ reads → z.cell ≡ c → ⊥
    first e same =
        let it : needed_by (z ∷ (xs ++ ys)) c ≡ true = (λ i. if (ap (λ (d : Cell). same_cell d c) same ∙ cell_itself c) i then read_first (e i) (needed_by (xs ++ ys) c) else needed_by (xs ++ ys) c) in
        both_ways (needed_by (z ∷ (xs ++ ys)) c) k it

-- what a DO is that loses the variable
record Loses (t : ProgramTree) (y : List ℕ) (m n : ℕ) (loop : LoopOf t n) : Type 0 where
  parallel : loop.head.parallel ≡ true
  from : n < m
  to : m ≤ n + statements_count loop.body
  only : (j : ℕ) → n < j → j ≤ n + statements_count loop.body → (other : LoopOf t j) → is_same_text y other.head.variable ≡ true → j ≡ m

loses_parts : (t : ProgramTree) (y : List ℕ) (m n : ℕ) (loop : LoopOf t n) → loses t y m n (statement_with n t) ≡ true → Loses t y m n loop
loses_parts t y m n loop h = record {
  parallel = tests.0;
  from = ltb-true n m round.0;
  to = leb-true m (n + statements_count loop.body) round.1;
  only = λ j lo hi other named. by j lo hi other named (j == m) refl;
}
  where
    test : ℕ → Bool
    test j = is_loop_of y (statement_with j t) && not (j == m)

    parts : loop.head.parallel && (nat_lt n m && nat_le m (n + statements_count loop.body)) && not (list_any (λ j. is_loop_of y (statement_with j t) && not (j == m)) (range_with_len (n + 1) (statements_count loop.body))) ≡ true
    parts = ap (loses t y m n) (sym loop.is) ∙ h

    three : (a b c : Bool) → a && b && c ≡ true → (a ≡ true) × (b ≡ true) × (c ≡ true)
    three true true true e = (refl, refl, refl)
    three true true false e = absurd cc
    three true false c e = absurd cc
    three false b c e = absurd cc

    tests : (loop.head.parallel ≡ true) × (nat_lt n m && nat_le m (n + statements_count loop.body) ≡ true) × (not (list_any (λ j. is_loop_of y (statement_with j t) && not (j == m)) (range_with_len (n + 1) (statements_count loop.body))) ≡ true)
    tests = three loop.head.parallel (nat_lt n m && nat_le m (n + statements_count loop.body)) (not (list_any (λ j. is_loop_of y (statement_with j t) && not (j == m)) (range_with_len (n + 1) (statements_count loop.body)))) parts

    round : (nat_lt n m ≡ true) × (nat_le m (n + statements_count loop.body) ≡ true)
    round = and_parts (nat_lt n m) (nat_le m (n + statements_count loop.body)) tests.1

    not_true : (b : Bool) → not b ≡ true → b ≡ false
    not_true true e = absurd cc
    not_true false e = refl

    by : (j : ℕ) → n < j → j ≤ n + statements_count loop.body → (other : LoopOf t j) → is_same_text y other.head.variable ≡ true → (b : Bool) → (j == m) ≡ b → j ≡ m
    by j lo hi other named true e = eqb-true j m e
    by j lo hi other named false e =
        absurd (both_ways (list_any (λ k. is_loop_of y (statement_with k t) && not (k == m)) (range_with_len (n + 1) (statements_count loop.body))) (not_true (list_any (λ k. is_loop_of y (statement_with k t) && not (k == m)) (range_with_len (n + 1) (statements_count loop.body))) tests.2)
        (any_there test (n + 1) (statements_count loop.body) j (omega (arith, lo)) (omega (arith, hi)) (λ i. (ap (is_loop_of y) other.is ∙ named) i && not (e i))))

first_turn : (ts : List Turn) (i : Turn) → IsIn i ts → (j : Turn) × (js : List Turn) × (ts ≡ j ∷ js)
first_turn [] i h = absurd h
first_turn (j ∷ js) i h = (j, js, refl)

module _ (making : MakingLaw) (t : ProgramTree) (s : ℕ) (x : Neighbour t s) (r : IsRenaming t s x) (data_bytes : List ℕ) (ends : Ends (run_of t data_bytes).ending) where
  abbrev p : Setting
  p = setting_of t

  abbrev m : ℕ
  m = next_number x

  abbrev J : List ℕ
  J = x.next.variable

  abbrev apart : Cell → Bool
  apart = is_lost t x.next.variable (next_number x)

  abbrev acts : List Act
  acts = (run_of t data_bytes).acts

  abbrev start : Store
  start = store_at_start (lines data_bytes)

  abbrev count : ℕ
  count = statements_count (alone (Do x.next x.next_body))

  -- a touch of a lost copy: its act stands in a PARALLEL DO in which no other DO has the variable
  record Lost (a : Act) (v : Touch) : Type 0 where
    scoped : IsScoped t a
    cell : v.cell ≡ cell_of scoped.scope J
    turn : Turn
    among : IsIn turn a.place.turns
    inside : StandsIn t a turn
    loses : Loses t J m turn.statement inside.loop

  lost_at : (a : Act) → IsIn a acts → (v : Touch) → IsIn v a.touches → apart v.cell ≡ true → Lost a v
  lost_at a i v j h = by (scoped.cells v j)
    where
      scoped : IsScoped t a
      scoped = all_scoped t t.body 1 [] start (whole_stands t) tt a i

      by : IsOwn p scoped.scope v.cell → Lost a v
      by (inl own) =
          let name : J ≡ own.0 = two_names v.cell J own.0 (lost_named t J m v.cell h) (ap (is_cell_of own.0) own.1 ∙ cell_named scoped.scope own.0) in
          let k = lost_turn t J m scoped.scope own.0 (ap apart (sym own.1) ∙ h) in
          let there = subst (λ (at : Place). IsIn k.0 at.turns) (sym scoped.place) k.1 in
          let stands = stands_in t r.valid start a i k.0 there in
          record {
            scoped = scoped;
            cell = own.1 ∙ ap (cell_of scoped.scope) (sym name);
            turn = k.0;
            among = there;
            inside = stands;
            loses = loses_parts t J m k.0.statement stands.loop k.2;
          }
      by (inr none) = absurd (both_ways (is_of_scalar v.cell) none (lost_scalar t J m v.cell h))

  -- its variable is one of those in the PARALLEL DO
  J_index : (a : Act) (v : Touch) (lost : Lost a v) → is_among J (all_loop_variables lost.inside.loop.body) ≡ true
  J_index a v lost = next_inside x lost.turn.statement lost.inside.loop lost.loses.from lost.loses.to

  -- it isn't written by a reference
  unreferred : (a : Act) → IsIn a acts → (v : Touch) → IsIn v a.touches → Lost a v → is_write v.manner ≡ true → 0 < v.reference → ⊥
  unreferred a i v j lost write some =
      let f = first_turn a.place.turns lost.turn lost.among in
      let law = making t data_bytes r.valid in
      let q = law.1 (access_by a v) f.0 f.1 (accesses_in acts a (access_by a v) i (access_in a a.touches v j (write_access v write))) some f.2 in
      let number : a.place.statement ≡ q.0.statement = q.3.statement in
      let named : name_in v.cell ≡ q.0.access.name = name_of_cell t q.1 q.2 q.0.access.name q.0.access.subscripts v.cell q.3.cell in
      let own : is_same_text J q.0.access.name ≡ true = ap (is_same_text J) (sym named ∙ ap name_in lost.cell ∙ cell_name lost.scoped.scope J) ∙ same_itself J in
      let writing : q.0.access.writes ≡ true = sym q.3.writes ∙ write in
      let low = lost.inside.from in
      let high = lost.inside.to in
      let one : is_write_in lost.turn.statement (statements_count lost.inside.loop.body + 1) J q.0 ≡ true =
      (λ k. ((lt-ltb lost.turn.statement q.0.statement (omega (arith, number, low)) k && lt-ltb q.0.statement (lost.turn.statement + (statements_count lost.inside.loop.body + 1)) (omega (arith, number, high)) k) && own k) && writing k) in
      both_ways (is_written_in t lost.turn.statement lost.inside.loop.body J)
      (r.unwritten lost.turn.statement lost.inside.loop lost.loses.parallel (record { loop = lost.inside.loop; among = is_so (is_among J (loop_variables (Do lost.inside.loop.head lost.inside.loop.body))) (or_right (is_same_text J lost.inside.loop.head.variable) (is_among J (all_loop_variables lost.inside.loop.body)) (J_index a v lost)) }))
      (any_of (is_write_in lost.turn.statement (statements_count lost.inside.loop.body + 1) J) (references t) q.0 q.3.listed one)
    where
      is_so : (b : Bool) → b ≡ true → IsTrue b
      is_so b k = k

      cell_name : (S : Scope) (y : List ℕ) → name_in (cell_of S y) ≡ y
      cell_name [] y = refl
      cell_name (g ∷ S) y = go (is_among y g.private) (cell_name S y)
        where
          go : (b : Bool) → name_in (cell_of S y) ≡ y → name_in (if b then cells.Private y (iterations_of (turns_of (g ∷ S))) else cell_of S y) ≡ y
          go true more = refl
          go false more = more

  of_second : (a : Act) → m ≤ a.place.statement → a.place.statement ≤ m + statements_count x.next_body → IsOfThese p m count a
  of_second a lo hi = (a.place.statement, lo, omega (arith, hi), refl)

  of_told : (a : Act) → IsIn a acts → (v : Touch) → IsIn v a.touches → Lost a v → v.manner ≡ is_told → IsOfThese p m count a
  of_told a i v j lost e = dite (dec_lt n l) inner outer
    where
      index : IsIndexAt t a.place.turns v.cell
      index = by_manner v.manner e (program_tells t start a i v j)
        where
          by_manner : (q : Manner) → q ≡ is_told → Tells t a.place.turns q v.cell → IsIndexAt t a.place.turns v.cell
          by_manner is_told g k = k
          by_manner reads g k = absurd cc
          by_manner writes g k = absurd cc

      n : ℕ
      n = lost.turn.statement

      l : ℕ
      l = index.last.statement

      there : IsIn index.last a.place.turns
      there = subst (λ (ts : List Turn). IsIn index.last ts) (sym index.round) (in_left index.last (index.front ++ index.last ∷ []) index.more (in_right index.last index.front (index.last ∷ []) (inl refl)))

      stands : StandsIn t a index.last
      stands = stands_in t r.valid start a i index.last there

      head_is : stands.loop.head ≡ index.head
      head_is =
          let both : Some (Do stands.loop.head stands.loop.body) ≡ Some (Do index.head index.body) = sym stands.loop.is ∙ index.stands in
          cc

      named : stands.loop.head.variable ≡ J
      named = ap (λ (g : Head). g.variable) head_is ∙ sym index.variable ∙ ap name_in lost.cell ∙ name_there lost.scoped.scope
        where
          name_there : (S : Scope) → name_in (cell_of S J) ≡ J
          name_there [] = refl
          name_there (g ∷ S) = go (is_among J g.private) (name_there S)
            where
              go : (b : Bool) → name_in (cell_of S J) ≡ J → name_in (if b then cells.Private J (iterations_of (turns_of (g ∷ S))) else cell_of S J) ≡ J
              go true more = refl
              go false more = more

      -- the DO of the variable is the second one
      inner : n < l → IsOfThese p m count a
      inner less =
          let from = stands.from in
          let to = stands.to in
          let high = lost.inside.to in
          let it : l ≡ m = lost.loses.only l less (omega (arith, from, high)) stands.loop (ap (is_same_text J) named ∙ same_itself J) in
          let same : Some (Do stands.loop.head stands.loop.body) ≡ Some (Do x.next x.next_body) = sym stands.loop.is ∙ ap (λ (k : ℕ). statement_with k t) it ∙ (next_loop x).is in
          let body : stands.loop.body ≡ x.next_body = cc in
          let size : statements_count stands.loop.body ≡ statements_count x.next_body = ap statements_count body in
          of_second a (omega (arith, from, it)) (omega (arith, to, it, size))

      -- none round the PARALLEL DO has it
      outer : (n < l → ⊥) → IsOfThese p m count a
      outer none =
          let within = reaches none in
          let inside_it = next_inside x l stands.loop (let from = lost.loses.from in omega (arith, none, from)) (let to = lost.loses.to in omega (arith, to, within)) in
          absurd (both_ways (is_among stands.loop.head.variable (all_loop_variables stands.loop.body)) (variable_outside t r.valid l stands.loop) (ap (λ (y : List ℕ). is_among y (all_loop_variables stands.loop.body)) named ∙ inside_it))
        where
          reaches : (n < l → ⊥) → n + statements_count lost.inside.loop.body ≤ l + statements_count stands.loop.body
          reaches none = dite (dec_lt l n) later same
            where
              later : l < n → n + statements_count lost.inside.loop.body ≤ l + statements_count stands.loop.body
              later less =
                  let from = lost.inside.from in
                  let to = stands.to in
                  let last = all_end_within t n lost.inside.loop.head lost.inside.loop.body lost.inside.loop.is stands.loop.body (l + 1) (inner_stands t (Do stands.loop.head stands.loop.body) (all_numbered stands.loop.body) l (loop_stands t l stands.loop)) (omega (arith, less)) (omega (arith, from, to)) in
                  omega (arith, last)

              same : (l < n → ⊥) → n + statements_count lost.inside.loop.body ≤ l + statements_count stands.loop.body
              same not_less =
                  let equal : n ≡ l = omega (arith, none, not_less) in
                  let both : Some (Do lost.inside.loop.head lost.inside.loop.body) ≡ Some (Do stands.loop.head stands.loop.body) = sym lost.inside.loop.is ∙ ap (λ (k : ℕ). statement_with k t) equal ∙ stands.loop.is in
                  let body : lost.inside.loop.body ≡ stands.loop.body = cc in
                  let size : statements_count lost.inside.loop.body ≡ statements_count stands.loop.body = ap statements_count body in
                  omega (arith, equal, size)

  -- what is stored of a lost copy, the second DO has stored, or a PARALLEL DO round it
  of_stored : (a : Act) → IsIn a acts → (v : Touch) → IsIn v a.touches → (lost : Lost a v) → (stored : IsStored t lost.scoped.number lost.scoped.scope a v) → (lost.scoped.number ≡ m) ⊎ ((stored.loop.head.parallel ≡ true) × LeavesParallel p t m a)
  of_stored a i v j lost stored = elim stored.which [ inl own ↦ inl (by_own own) | inr inner ↦ inr (inner.0, by_inner inner.0 inner.1) ]
    where
      k : ℕ
      k = lost.scoped.number

      number : a.place.statement ≡ k
      number = ap (λ (at : Place). at.statement) lost.scoped.place

      name : stored.name ≡ J
      name = two_names v.cell stored.name J (ap (is_cell_of stored.name) stored.cell ∙ cell_named lost.scoped.scope stored.name) (ap (is_cell_of J) lost.cell ∙ cell_named lost.scoped.scope J)

      by_own : stored.name ≡ stored.loop.head.variable → lost.scoped.number ≡ m
      by_own own =
          let from = lost.inside.from in
          let to = lost.inside.to in
          lost.loses.only k (omega (arith, from, number)) (omega (arith, to, number)) stored.loop (ap (is_same_text J) (sym own ∙ name) ∙ same_itself J)

      by_inner : stored.loop.head.parallel ≡ true → is_among stored.name (all_loop_variables stored.loop.body) ≡ true → LeavesParallel p t m a
      by_inner parallel among =
          let stand = inner_stands t (Do stored.loop.head stored.loop.body) (all_numbered stored.loop.body) k (loop_stands t k stored.loop) in
          let w = any_witness (λ q. is_loop_of J (statement_with q t)) (k + 1) (statements_count stored.loop.body) (variables_by t J stored.loop.body (k + 1) stand ∙ ap (λ (y : List ℕ). is_among y (all_loop_variables stored.loop.body)) (sym name) ∙ among) in
          let other = loop_there w.0 (statement_with w.0 t) refl w.3 in
          let from = lost.inside.from in
          let to = lost.inside.to in
          let lo = w.1 in
          let hi = w.2 in
          let last = all_end_within t k stored.loop.head stored.loop.body stored.loop.is lost.inside.loop.body (lost.turn.statement + 1) (inner_stands t (Do lost.inside.loop.head lost.inside.loop.body) (all_numbered lost.inside.loop.body) lost.turn.statement (loop_stands t lost.turn.statement lost.inside.loop)) (omega (arith, from, number)) (omega (arith, to, number)) in
          let it : w.0 ≡ m = lost.loses.only w.0 (omega (arith, from, number, lo)) (omega (arith, last, hi)) other.0 other.1 in
          (k, record { loop = stored.loop; parallel = parallel; from = omega (arith, lo, it); to = omega (arith, hi, it) }, number, stored.leaves)
        where
          loop_there : (q : ℕ) (o : Option StmtTree) → statement_with q t ≡ o → is_loop_of J (statement_with q t) ≡ true → (other : LoopOf t q) × (is_same_text J other.head.variable ≡ true)
          loop_there q None e h = absurd (both_ways (is_loop_of J (statement_with q t)) (ap (is_loop_of J) e) h)
          loop_there q (Some (Do g b)) e h = (record { head = g; body = b; is = e }, sym (ap (is_loop_of J) e) ∙ h)
          loop_there q (Some (Assign left right)) e h = absurd (both_ways (is_loop_of J (statement_with q t)) (ap (is_loop_of J) e) h)
          loop_there q (Some (If c b d)) e h = absurd (both_ways (is_loop_of J (statement_with q t)) (ap (is_loop_of J) e) h)
          loop_there q (Some (Print items)) e h = absurd (both_ways (is_loop_of J (statement_with q t)) (ap (is_loop_of J) e) h)
          loop_there q (Some (Read items)) e h = absurd (both_ways (is_loop_of J (statement_with q t)) (ap (is_loop_of J) e) h)
          loop_there q (Some Stop) e h = absurd (both_ways (is_loop_of J (statement_with q t)) (ap (is_loop_of J) e) h)
          loop_there q (Some (Comment text)) e h = absurd (both_ways (is_loop_of J (statement_with q t)) (ap (is_loop_of J) e) h)

  -- what a lost copy holds before the second DO and behind it nobody needs
  module _ (c : Cell) (lost_c : is_lost t x.next.variable (next_number x) c ≡ true) where
    number_there : (front rest : List Act) → acts ≡ front ++ rest → (v : Touch) → IsIn v (touches_of rest) → v.manner ≡ reads → v.cell ≡ c → (n : ℤ) × (v.content ≡ Number n)
    number_there front rest whole v i e same =
        let b = in_touches rest v i in
        numbers_read p t.body 1 [] start b.0 v (faultless (run_of t data_bytes).ending ends) (subst (IsIn b.0) (sym whole) (in_right b.0 front rest b.1)) b.2 e (ap is_lines same ∙ lost_line t J m c lost_c)

    found : (front rest : List Act) → acts ≡ front ++ rest → Find (touches_of rest) (store_after front start)
    found front rest whole =
        let all : Fits (front ++ rest) start = subst (λ (bs : List Act). Fits bs start) whole ((all_told p t.body 1 []).fits start) in
        fits_find rest (store_after front start) (fits_rest front rest start all)

    at_first : needs acts c ≡ false
    at_first = false_unless (needs acts c) (λ n.
        let r = needed_number (touches_of acts) start c (number_there [] acts refl) (found [] acts refl) n in
        let wrong : Undefined ≡ Number r.0 = sym (lost_undefined t J m c lost_c (lines data_bytes)) ∙ r.1 in
        absurd cc)

    -- a write of it
    of_write : (a : Act) → IsIn a acts → (v : Touch) → IsIn v a.touches → is_write v.manner ≡ true → v.cell ≡ c → (lost : Lost a v) × IsStored t lost.scoped.number lost.scoped.scope a v
    of_write a i v j write same =
        let lost = lost_at a i v j (ap apart same ∙ lost_c) in
        (lost, elim (lost.scoped.stores v j write) [ inl some ↦ absurd (unreferred a i v j lost write some) | inr stored ↦ stored ])

    module _ (front : List Act) (b : Act) (rest : List Act) (whole : acts ≡ front ++ b ∷ rest) (unneeded : needs (b ∷ rest) c ≡ false) where
      b_in : IsIn b acts
      b_in = subst (IsIn b) (sym whole) (in_right b front (b ∷ rest) (inl refl))

      -- where the act isn't one of the second DO's own
      undefined_by_it : (b.place.statement == m) ≡ false → (v : Touch) → IsIn v b.touches → is_write v.manner ≡ true → v.cell ≡ c → v.content ≡ Undefined
      undefined_by_it other v j write same =
          let w = of_write b b_in v j write same in
          elim (of_stored b b_in v j w.0 w.1) [
            | inl z ↦ absurd (both_ways (b.place.statement == m) other (itself (b.place.statement) m (ap (λ (at : Place). at.statement) w.0.scoped.place ∙ z)))
            | inr z ↦ w.1.held z.0
          ]
        where
          itself : (k n : ℕ) → k ≡ n → (k == n) ≡ true
          itself k n e = subst (λ (q : ℕ). (k == q) ≡ true) e (self k)
            where
              self : (q : ℕ) → (q == q) ≡ true
              self q = grind arith

      passed : ((v : Touch) → IsIn v b.touches → is_write v.manner ≡ true → v.cell ≡ c → v.content ≡ Undefined) → (needs rest c ≡ false) × ((v : Touch) → IsIn v b.touches → v.manner ≡ reads → v.cell ≡ c → ⊥)
      passed h = needed_behind b.touches (touches_of rest) (store_after front start) c (number_there front (b ∷ rest) whole) h (found front (b ∷ rest) whole) unneeded

      -- where it is, and stores the copy, nobody needs it behind the act
      left_behind : (b.place.statement == m) ≡ true → (v : Touch) → IsIn v b.touches → is_write v.manner ≡ true → v.cell ≡ c → needs rest c ≡ false
      left_behind own v j write same =
          let w = of_write b b_in v j write same in
          let S = w.0.scoped.scope in
          let number : w.0.scoped.number ≡ m = sym (ap (λ (at : Place). at.statement) w.0.scoped.place) ∙ eqb-true b.place.statement m own in
          let exit : IsExit p t start m S rest = record {
            ends = ends;
            front = front;
            act = b;
            whole = whole;
            leaves = (λ i. own i && w.1.leaves i);
            iterations = w.0.scoped.iterations;
            place = w.0.scoped.place ∙ ap (λ (n : ℕ). place_of p n S) number;
          } in
          ap (needs rest) (sym same ∙ w.0.cell) ∙ unneeded_behind p (λ n q h. h) t J (variables_unnamed t r.valid m (next_loop x) J J_among) (fitting_stops t r.valid.fits) start m S rest exit (r.contained J (record { loop = next_loop x; among = J_among })).1
        where
          J_among : is_among J (loop_variables (Do x.next x.next_body)) ≡ true
          J_among = ap (λ (k : Bool). k || is_among J (all_loop_variables x.next_body)) (same_itself J)

      onward : needs rest c ≡ false
      onward = by (b.place.statement == m) refl
        where
          by : (k : Bool) → (b.place.statement == m) ≡ k → needs rest c ≡ false
          by false e = (passed (undefined_by_it e)).0
          by true e = by_write (written (b ∷ []) c) refl
            where
              by_write : (k : Bool) → written (b ∷ []) c ≡ k → needs rest c ≡ false
              by_write true q =
                  let r = write_in (b ∷ []) c q in
                  let same : r.0 ≡ b = elim r.1 [ inl z ↦ z | inr z ↦ absurd z ] in
                  left_behind e r.2 (subst (λ (a : Act). IsIn r.2 a.touches) same r.3) r.5 r.4
              by_write false q = (passed (λ v j write same. absurd (both_ways (written (b ∷ []) c) q (ap (written (b ∷ [])) (sym same) ∙ write_there (b ∷ []) b v (inl refl) j write)))).0

      here : (v : Touch) → IsIn v b.touches → v.manner ≡ reads → v.cell ≡ c → b.place.statement ≡ m
      here v j e same = by (b.place.statement == m) refl
        where
          by : (k : Bool) → (b.place.statement == m) ≡ k → b.place.statement ≡ m
          by true q = eqb-true b.place.statement m q
          by false q = absurd ((passed (undefined_by_it q)).1 v j e same)

    read_there : (front rest : List Act) → acts ≡ front ++ rest → needs rest c ≡ false → (a : Act) → IsIn a rest → (v : Touch) → IsIn v a.touches → v.manner ≡ reads → v.cell ≡ c → a.place.statement ≡ m
    read_there front [] whole k a i v j e same = absurd i
    read_there front (b ∷ rest) whole k a i v j e same = elim i [
      | inl q ↦ (let at = here front b rest whole k v (subst (λ (z : Act). IsIn v z.touches) q j) e same in ap (λ (z : Act). z.place.statement) q ∙ at)
      | inr h ↦ read_there (front ++ b ∷ []) rest (whole ∙ sym (append_assoc front (b ∷ []) rest)) (onward front b rest whole k) a h v j e same
    ]

  -- nor read but by the second DO
  unread : (a : Act) → IsIn a acts → (v : Touch) → IsIn v a.touches → apart v.cell ≡ true → v.manner ≡ reads → IsOfThese p m count a
  unread a i v j h e =
      let at = read_there v.cell h [] acts refl (at_first v.cell h) a i v j e refl in
      of_second a (omega (arith, at)) (omega (arith, at))

  pub quiet_copies : LeaveApart (is_lost t x.next.variable (next_number x)) (setting_of t) t (next_number x) (statements_count (alone (Do x.next x.next_body))) (run_of t data_bytes).acts
  quiet_copies a i v j h = by v.manner refl
    where
      lost : Lost a v
      lost = lost_at a i v j h

      by : (n : Manner) → v.manner ≡ n → IsOfThese p m count a ⊎ (LeavesParallel p t m a × (is_own_store v ≡ true))
      by reads e = inl (unread a i v j h e)
      by is_told e = inl (of_told a i v j lost e)
      by writes e = by_number (v.reference == 0) refl
        where
          write : is_write v.manner ≡ true
          write = ap is_write e

          own : (v.reference == 0) ≡ true → is_own_store v ≡ true
          own k = λ n. write n && k n

          own_act : lost.scoped.number ≡ m → IsOfThese p m count a
          own_act z =
              let number : a.place.statement ≡ lost.scoped.number = ap (λ (at : Place). at.statement) lost.scoped.place in
              of_second a (omega (arith, number, z)) (omega (arith, number, z))

          by_number : (b : Bool) → (v.reference == 0) ≡ b → IsOfThese p m count a ⊎ (LeavesParallel p t m a × (is_own_store v ≡ true))
          by_number true k = elim (lost.scoped.stores v j write) [
            | inl some ↦ absurd (unreferred a i v j lost write some)
            | inr stored ↦ elim (of_stored a i v j lost stored) [ inl z ↦ inl (own_act z) | inr z ↦ inr (z.1, own k) ]
          ]
          by_number false k = absurd (unreferred a i v j lost write (above k))
            where
              above : (v.reference == 0) ≡ false → 0 < v.reference
              above q = by_zero v.reference q
                where
                  by_zero : (n : ℕ) → (n == 0) ≡ false → 0 < n
                  by_zero n g = grind (arith, nat_tests)
