-- The bodies of two DO loops that become one read no variable of a DO in them outside its own DO, since the one is contained.
use Rattle.std.proofs.Common.{Bool, List, None, Option, Some, [], ap, arith, eq-eqb, eqb-true, false, if◌then◌else◌, inl, inr, map, not, refl, suc, sym, true, zero, ℕ, ℤ, ◌&&◌, ◌++◌, ◌+◌, ◌<◌, ◌==◌, ◌||◌, ◌∙◌, ◌∷◌, ◌≡◌, ◌≤◌}
use Rattle.std.proofs.lemmas.Bool.{both_ways, or_parts}
use Rattle.std.proofs.lemmas.List.Folds.{list_any-append}
use Rattle.std.specs.List.{flat_map, list_any}
use Rattle.ped_base.specs.Lists.{is_among, is_same_text}
use Rattle.ped_tree.specs.Accesses.{constant_names}
use Rattle.ped_tree.specs.Numbering.{statement_count, statements_count}
use Rattle.ped_tree.specs.Tree.{Add, Assign, Call, Comment, Div, Do, Element, ExprTree, If, Int, Mul, Neg, Pow, Print, ProgramTree, Read, StmtTree, StmtTrees, Stop, Sub, Var, more_stmts, no_stmts}
use Rattle.ped_rules.specs.ped_loop_runs.proofs.LoopLaws.OneForOneCells.{all_unread}
use Rattle.ped_rules.specs.ped_loop_runs.proofs.LoopLaws.OneForOneNames.{variables_unnamed}
use Rattle.ped_rules.specs.ped_bodies.specs.Moving.{is_cell_among}
use Rattle.ped_rules.specs.ped_steps.specs.Replacing.{followed}
use Rattle.ped_rules.specs.ped_flow.specs.Events.{Event, all_scalars_in, assigns, event, is_overwriting, is_read_by, left_events, own_events, reads_of, scalars_in, scalars_in_cond, scalars_in_item, unless_constant}
use Rattle.ped_rules.specs.ped_flow.specs.Questions.{all_reads_outside, reads_outside}
use Rattle.ped_rules.specs.ped_laws.proofs.ActLaws.Renamings.{or_either, or_left, or_right}
use Rattle.ped_rules.specs.ped_laws.proofs.ActLaws.SameCells.{cell_itself}
use Rattle.ped_rules.specs.ped_laws.proofs.FlowRunLaws.Located.{all_located}
use Rattle.ped_rules.specs.ped_laws.proofs.FlowRunLaws.Reading.{is_read, reads_cell}
use Rattle.ped_rules.specs.ped_laws.specs.Acts.Conflicts.{IsNoReadOf, LeaveUnread, ReadNone}
use Rattle.ped_rules.specs.ped_laws.specs.Acts.Fitting.{touches_of}
use Rattle.ped_rules.specs.ped_laws.specs.FlowRuns.Covering.{is_cell_of}
use Rattle.ped_rules.specs.ped_eval.specs.Runs.{run_all}
use Rattle.ped_rules.specs.ped_eval.specs.Scopes.{Frame, Scope, Setting, index_value}
use Rattle.ped_rules.specs.ped_store.specs.Acts.{Act, Manner, Touch, is_told, reads, writes}
use Rattle.ped_rules.specs.ped_store.specs.Cells.{Cell, same_cell}
use Rattle.ped_rules.specs.ped_store.specs.Stores.{Store}
use Rattle.ped_splits.proofs.JoinFacts.{AreJoined, one_body, variables_of}
use Rattle.ped_splits.proofs.JoinParts.{one_loop_there}
use Rattle.ped_rules.specs.ped_flow.specs.Events as events

not_equal : (a b : ℕ) → (a ≡ b → ⊥) → (a == b) ≡ false
not_equal a b apart = by (a == b) refl
  where
    by : (r : Bool) → (a == b) ≡ r → r ≡ false
    by true e = absurd (apart (eqb-true a b e))
    by false e = refl

next_equal : (a b k : ℕ) → a ≡ suc b → (a == suc k) ≡ (b == k)
next_equal a b k e = by (b == k) refl
  where
    by : (r : Bool) → (b == k) ≡ r → (a == suc k) ≡ r
    by true same = let is = eqb-true b k same in eq-eqb a (suc k) (omega (arith, e, is))
    by false other = not_equal a (suc k) (λ f. let wrong : (b == k) ≡ true = eq-eqb b k (omega (arith, e, f)) in both_ways (b == k) other wrong)

-- reads of a scalar by a statement, and by the same one under another number
module _ (cs : List (List ℕ)) (x : List ℕ) where
  module _ (k n l m : ℕ) (e : (n == k) ≡ (m == l)) where
    names_alike : (manner : events.Manner) (names : List (List ℕ)) → list_any (is_read_by x k) (map (event n manner) names) ≡ list_any (is_read_by x l) (map (event m manner) names)
    names_alike manner [] = refl
    names_alike manner (y ∷ ys) = let more = names_alike manner ys in λ i. (is_same_text x y && not (is_overwriting manner) && e i) || more i

    both_alike : (fs gs hs js : List Event) → list_any (is_read_by x k) fs ≡ list_any (is_read_by x l) hs → list_any (is_read_by x k) gs ≡ list_any (is_read_by x l) js → list_any (is_read_by x k) (fs ++ gs) ≡ list_any (is_read_by x l) (hs ++ js)
    both_alike fs gs hs js f g = list_any-append (is_read_by x k) fs gs ∙ (λ i. f i || g i) ∙ sym (list_any-append (is_read_by x l) hs js)

    left_alike : (z : ExprTree) → list_any (is_read_by x k) (left_events cs n z) ≡ list_any (is_read_by x l) (left_events cs m z)
    left_alike (Var y) = names_alike assigns (unless_constant cs y)
    left_alike (Element y es) = names_alike events.reads (all_scalars_in cs es)
    left_alike (Int w) = refl
    left_alike (Neg a) = refl
    left_alike (Add a b) = refl
    left_alike (Sub a b) = refl
    left_alike (Mul a b) = refl
    left_alike (Div a b) = refl
    left_alike (Pow a b) = refl
    left_alike (Call f es) = refl

    lefts_alike : (zs : List ExprTree) → list_any (is_read_by x k) (flat_map (left_events cs n) zs) ≡ list_any (is_read_by x l) (flat_map (left_events cs m) zs)
    lefts_alike [] = refl
    lefts_alike (z ∷ zs) = both_alike (left_events cs n z) (flat_map (left_events cs n) zs) (left_events cs m z) (flat_map (left_events cs m) zs) (left_alike z) (lefts_alike zs)

    own_alike : (z : StmtTree) → list_any (is_read_by x k) (own_events cs n z) ≡ list_any (is_read_by x l) (own_events cs m z)
    own_alike (Assign left right) = both_alike (reads_of n (scalars_in cs right)) (left_events cs n left) (reads_of m (scalars_in cs right)) (left_events cs m left) (names_alike events.reads (scalars_in cs right)) (left_alike left)
    own_alike (If c a b) = names_alike events.reads (scalars_in_cond cs c)
    own_alike (Do h body) = both_alike (reads_of n (scalars_in cs h.first ++ scalars_in cs h.last)) (event n assigns h.variable ∷ []) (reads_of m (scalars_in cs h.first ++ scalars_in cs h.last)) (event m assigns h.variable ∷ []) (names_alike events.reads (scalars_in cs h.first ++ scalars_in cs h.last)) (names_alike assigns (h.variable ∷ []))
    own_alike (Print items) = names_alike events.reads (flat_map (scalars_in_item cs) items)
    own_alike (Read items) = lefts_alike items
    own_alike Stop = refl
    own_alike (Comment text) = refl

  -- two numbers stand alike to those of statements
  abbrev StandAlike : ℕ → ℕ → ℕ → ℕ → ℕ → Type 0
  StandAlike k n l m count = (i : ℕ) → i < count → (n + i == k) ≡ (m + i == l)

  part_alike : (k n l m count start part i j : ℕ) → start + part ≤ count → i ≡ n + start → j ≡ m + start → StandAlike k n l m count → StandAlike k i l j part
  part_alike k n l m count start part i j h e f p o less =
      let a : i + o ≡ n + (start + o) = omega (arith, e) in
      let b : j + o ≡ m + (start + o) = omega (arith, f) in
      ap (λ (z : ℕ). z == k) a ∙ p (start + o) (omega (arith, h, less)) ∙ ap (λ (z : ℕ). z == l) (sym b)

  here_alike : (k n l m count : ℕ) → 0 < count → StandAlike k n l m count → (n == k) ≡ (m == l)
  here_alike k n l m count some p =
      let a : n ≡ n + 0 = omega arith in
      let b : m ≡ m + 0 = omega arith in
      ap (λ (z : ℕ). z == k) a ∙ p 0 some ∙ ap (λ (z : ℕ). z == l) (sym b)

  mutual
    loose_alike : (z : StmtTree) (k n l m : ℕ) → StandAlike k n l m (statement_count z) → reads_outside cs x k z n ≡ reads_outside cs x l z m
    loose_alike (Assign left right) k n l m p = own_alike k n l m (here_alike k n l m 1 (omega arith) p) (Assign left right)
    loose_alike (If c a b) k n l m p =
        let count = statements_count a + statements_count b + 1 in
        let own = own_alike k n l m (here_alike k n l m count (omega arith) p) (If c a b) in
        let one = all_loose_alike a k (n + 1) l (m + 1) (part_alike k n l m count 1 (statements_count a) (n + 1) (m + 1) (omega arith) refl refl p) in
        let two = all_loose_alike b k (n + 1 + statements_count a) l (m + 1 + statements_count a) (part_alike k n l m count (1 + statements_count a) (statements_count b) (n + 1 + statements_count a) (m + 1 + statements_count a) (omega arith) (omega arith) (omega arith) p) in
        λ i. own i || (one i || two i)
    loose_alike (Do h body) k n l m p =
        let count = statements_count body + 1 in
        let own = own_alike k n l m (here_alike k n l m count (omega arith) p) (Do h body) in
        let more = all_loose_alike body k (n + 1) l (m + 1) (part_alike k n l m count 1 (statements_count body) (n + 1) (m + 1) (omega arith) refl refl p) in
        λ i. own i || (not (is_same_text x h.variable) && more i)
    loose_alike (Print items) k n l m p = own_alike k n l m (here_alike k n l m 1 (omega arith) p) (Print items)
    loose_alike (Read items) k n l m p = own_alike k n l m (here_alike k n l m 1 (omega arith) p) (Read items)
    loose_alike Stop k n l m p = refl
    loose_alike (Comment text) k n l m p = refl

    all_loose_alike : (zs : StmtTrees) (k n l m : ℕ) → StandAlike k n l m (statements_count zs) → all_reads_outside cs x k zs n ≡ all_reads_outside cs x l zs m
    all_loose_alike no_stmts k n l m p = refl
    all_loose_alike (more_stmts z rest) k n l m p =
        let count = statement_count z + statements_count rest in
        let one = loose_alike z k n l m (part_alike k n l m count 0 (statement_count z) n m (omega arith) (omega arith) (omega arith) p) in
        let more = all_loose_alike rest k (n + statement_count z) l (m + statement_count z) (part_alike k n l m count (statement_count z) (statements_count rest) (n + statement_count z) (m + statement_count z) (omega arith) refl refl p) in
        λ i. one i || more i

  -- of statements with the next numbers
  pub loose_next : (zs : StmtTrees) (k n : ℕ) → all_reads_outside cs x k zs (n + 1) ≡ true → (l : ℕ) × (all_reads_outside cs x l zs n ≡ true)
  loose_next zs zero n h = (n + statements_count zs, sym (all_loose_alike zs 0 (n + 1) (n + statements_count zs) n (λ i less. never i ∙ sym (above i less))) ∙ h)
    where
      never : (i : ℕ) → (n + 1 + i == 0) ≡ false
      never i = not_equal (n + 1 + i) 0 (λ e. omega (arith, e))

      above : (i : ℕ) → i < statements_count zs → (n + i == n + statements_count zs) ≡ false
      above i less = not_equal (n + i) (n + statements_count zs) (λ e. omega (arith, e, less))
  loose_next zs (suc k) n h = (k, sym (all_loose_alike zs (suc k) (n + 1) k n (λ i less. next_equal (n + 1 + i) (n + i) k (omega arith))) ∙ h)

  -- statements in front of others, and behind them
  pub loose_first : (ts us : StmtTrees) (k n : ℕ) → all_reads_outside cs x k ts n ≡ true → all_reads_outside cs x k (followed ts us) n ≡ true
  loose_first no_stmts us k n h = absurd cc
  loose_first (more_stmts z rest) us k n h = elim (or_either (reads_outside cs x k z n) (all_reads_outside cs x k rest (n + statement_count z)) h) [
    | inl one ↦ or_left (reads_outside cs x k z n) (all_reads_outside cs x k (followed rest us) (n + statement_count z)) one
    | inr more ↦ or_right (reads_outside cs x k z n) (all_reads_outside cs x k (followed rest us) (n + statement_count z)) (loose_first rest us k (n + statement_count z) more)
  ]

  pub loose_second : (ts us : StmtTrees) (k n : ℕ) → all_reads_outside cs x k us (n + statements_count ts) ≡ true → all_reads_outside cs x k (followed ts us) n ≡ true
  loose_second no_stmts us k n h = ap (all_reads_outside cs x k us) (let e : n ≡ n + 0 = omega arith in e) ∙ h
  loose_second (more_stmts z rest) us k n h =
      or_right (reads_outside cs x k z n) (all_reads_outside cs x k (followed rest us) (n + statement_count z))
      (loose_second rest us k (n + statement_count z) (ap (all_reads_outside cs x k us) (let e : n + statement_count z + statements_count rest ≡ n + (statement_count z + statements_count rest) = omega arith in e) ∙ h))

  -- what no statement reads outside its DO loops is read in no cell
  module _ (p : Setting) (other : is_among x cs ≡ false) (zs : StmtTrees) (n : ℕ) (S : Scope) (v : Store) (quiet : (k : ℕ) → index_value S x ≡ None → all_reads_outside cs x k zs n ≡ true → ⊥) where
    none : (b : Bool) → (b ≡ true → ⊥) → b ≡ false
    none true h = absurd (h refl)
    none false h = refl

    touch_unread : (m : Manner) (c : Cell) → (is_cell_of x c ≡ true → (is_read m && same_cell c c) ≡ false) → IsNoReadOf (is_cell_of x) m c
    touch_unread reads c h = none (is_cell_of x c) (λ k. both_ways (same_cell c c) (h k) (cell_itself c))
    touch_unread writes c h = tt
    touch_unread is_told c h = tt

    touches_unread : (ts : List Touch) → ((c : Cell) → is_cell_of x c ≡ true → reads_cell c ts ≡ false) → LeaveUnread (is_cell_of x) ts
    touches_unread [] h = tt
    touches_unread (q ∷ ts) h = (
      touch_unread q.manner q.cell (λ k. (or_parts (is_read q.manner && same_cell q.cell q.cell) (reads_cell q.cell ts) (h q.cell k)).0),
      touches_unread ts (λ c k. (or_parts (is_read q.manner && same_cell q.cell c) (reads_cell c ts) (h c k)).1),
    )

    acts_unread : (acts : List Act) → ((c : Cell) → is_cell_of x c ≡ true → reads_cell c (touches_of acts) ≡ false) → ReadNone (is_cell_of x) acts
    acts_unread [] h = tt
    acts_unread (a ∷ acts) h = (touches_unread a.touches (λ c k. (both c (h c k)).0), acts_unread acts (λ c k. (both c (h c k)).1))
      where
        both : (c : Cell) → reads_cell c (touches_of (a ∷ acts)) ≡ false → (reads_cell c a.touches ≡ false) × (reads_cell c (touches_of acts) ≡ false)
        both c g = or_parts (reads_cell c a.touches) (reads_cell c (touches_of acts)) (sym (list_any-append (λ y. is_read y.manner && same_cell y.cell c) a.touches (touches_of acts)) ∙ g)

    pub unread_there : ReadNone (is_cell_of x) (run_all p zs n S v).acts
    unread_there = acts_unread (run_all p zs n S v).acts (λ c named. none (reads_cell c (touches_of (run_all p zs n S v).acts)) (λ r.
        let g = all_located p cs x c named other zs n S v r in
        quiet g.reader g.untold g.loose))

module _ (t u : ProgramTree) (s : ℕ) (x : AreJoined t u s) where
  abbrev m : ℕ
  m = s + 1 + statements_count x.own_body

  abbrev constants : List (List ℕ)
  constants = constant_names u.decls

  -- nothing in the one body reads a variable so
  whole_quiet : (y : List ℕ) → is_among y (variables_of x) ≡ true → is_same_text y x.own.variable ≡ false → (k : ℕ) → all_reads_outside constants y k (one_body x) (s + 1) ≡ true → ⊥
  whole_quiet y among apart k reads_it = (x.contained y (record { loop = one_loop_there t u s x; among = among })).0 k (record { loop = one_loop_there t u s x; other = apart; reads = reads_it })

  pub unnamed : (y : List ℕ) → is_among y (variables_of x) ≡ true → is_among y (constant_names u.decls) ≡ false
  unnamed y among = variables_unnamed u x.new_valid s (one_loop_there t u s x) y among

  -- where the iterations tell the variable of the two, only the others are asked about
  told_or_apart : (f : Frame) (S : Scope) → f.variable ≡ x.own.variable → (y : List ℕ) → index_value (f ∷ S) y ≡ None → is_same_text y x.own.variable ≡ false
  told_or_apart f S same y untold = by (is_same_text y x.own.variable) refl
    where
      by : (b : Bool) → is_same_text y x.own.variable ≡ b → b ≡ false
      by true e =
          let told : index_value (f ∷ S) y ≡ Some f.turn.value = ap (λ (b : Bool). if b then Some f.turn.value else index_value S y) (ap (is_same_text y) same ∙ e) in
          let wrong : ◌≡◌ {A = Option ℤ} None (Some f.turn.value) = sym untold ∙ told in
          absurd cc
      by false e = refl

  pub first_unread : (p : Setting) (f : Frame) (S : Scope) (v : Store) → f.variable ≡ x.own.variable → ReadNone (is_cell_among (variables_of x)) (run_all p x.own_body (s + 1) (f ∷ S) v).acts
  first_unread p f S v same =
      all_unread (variables_of x) (run_all p x.own_body (s + 1) (f ∷ S) v).acts (λ y among.
      unread_there constants y p (unnamed y among) x.own_body (s + 1) (f ∷ S) v (λ k untold reads_it.
      whole_quiet y among (told_or_apart f S same y untold) k (loose_first constants y x.own_body (followed x.between x.next_body) k (s + 1) reads_it)))

  pub second_unread : (p : Setting) (f : Frame) (S : Scope) (v : Store) → f.variable ≡ x.own.variable → ReadNone (is_cell_among (variables_of x)) (run_all p x.next_body (s + 1 + statements_count x.own_body + 1) (f ∷ S) v).acts
  second_unread p f S v same =
      all_unread (variables_of x) (run_all p x.next_body (m + 1) (f ∷ S) v).acts (λ y among.
      unread_there constants y p (unnamed y among) x.next_body (m + 1) (f ∷ S) v (λ k untold reads_it.
      let l = loose_next constants y x.next_body k m reads_it in
      let none = x.comments in
      whole_quiet y among (told_or_apart f S same y untold) l.0
      (loose_second constants y x.own_body (followed x.between x.next_body) l.0 (s + 1)
      (loose_second constants y x.between x.next_body l.0 m (ap (all_reads_outside constants y l.0 x.next_body) (let e : m + statements_count x.between ≡ m = omega (arith, none) in e) ∙ l.1)))))
