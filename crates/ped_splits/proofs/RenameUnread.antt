-- What statements don't name they read in no cell; and a bound that is built as a plain one doesn't name the variable of a DO that isn't round it.
use Rattle.std.proofs.Common.{◌≡◌, ℕ, ℤ, ◌+◌, List, [], ◌∷◌, ◌++◌, map, Bool, true, false, ◌&&◌, ◌||◌, ◌==◌, not, IsTrue, Option, None, Some, inl, inr, refl, sym, ap, ◌∙◌, if◌then◌else◌}
use Rattle.std.specs.List.{flat_map, list_any}
use Rattle.std.proofs.lemmas.Bool.{both_ways, or_parts}
use Rattle.std.proofs.lemmas.List.Folds.{list_any-append}
use Rattle.ped_base.proofs.NameEquality.{same_is}
use Rattle.ped_base.specs.Lists.{is_among, is_same_text}
use Rattle.ped_tree.proofs.NameLaws.Collected.{among_append}
use Rattle.ped_tree.specs.Constants.ConstantExpressions.{constant_value}
use Rattle.ped_tree.specs.Constants.NamedConstants.{value_named}
use Rattle.ped_tree.specs.NamesIn.{all_loop_variables, cond_names, expr_names, exprs_names, head_names, item_names, stmt_names, stmts_names}
use Rattle.ped_tree.specs.Numbering.{statement_count, statements_count}
use Rattle.ped_tree.specs.Nests.{indices_of}
use Rattle.ped_tree.specs.Tree.{Add, And, Assign, Call, Comment, CondTree, Div, Do, Element, ExprTree, ExprTrees, Head, If, Int, ItemTree, Mul, Neg, Not, Or, Pow, Print, ProgramTree, Read, Rel, StmtTree, StmtTrees, Stop, Sub, Text, Value, Var, more_exprs, more_stmts, no_exprs, no_stmts}
use Rattle.ped_rules.specs.ped_flow.specs.Events.{Event, all_scalars_in, assigns, event, is_overwriting, is_read_by, left_events, own_events, reads_of, scalars_in, scalars_in_cond, scalars_in_item, unless_constant}
use Rattle.ped_rules.specs.ped_flow.specs.Questions.{all_reads_outside, reads_outside}
use Rattle.ped_rules.specs.ped_flow.specs.PlainBounds.{ArePlainlyBuilt, IsConstant, IsPlainlyBuilt, Values, nest_round, setting_round}
use Rattle.ped_rules.specs.ped_laws.proofs.FlowRunLaws.Located.{all_located}
use Rattle.ped_rules.specs.ped_laws.specs.Acts.Conflicts.{IsNoReadOf, LeaveUnread, ReadNone}
use Rattle.ped_rules.specs.ped_laws.specs.Acts.Fitting.{touches_of}
use Rattle.ped_rules.specs.ped_laws.specs.FlowRuns.Covering.{is_cell_of}
use Rattle.ped_rules.specs.ped_laws.proofs.ActLaws.SameCells.{cell_itself}
use Rattle.ped_rules.specs.ped_laws.proofs.FlowRunLaws.Reading.{is_read, reads_cell}
use Rattle.ped_rules.specs.ped_eval.specs.Runs.{run_all}
use Rattle.ped_rules.specs.ped_eval.specs.Scopes.{Scope, Setting}
use Rattle.ped_rules.specs.ped_store.specs.Acts.{Act, Manner, Touch, is_told, reads, writes}
use Rattle.ped_rules.specs.ped_store.specs.Cells.{Cell, same_cell}
use Rattle.ped_rules.specs.ped_store.specs.Stores.{Store}
use Rattle.ped_rules.proofs.NameLaws.ConstantNames.{unnamed}
use Rattle.ped_rules.specs.ped_flow.specs.Events as events

module _ (cs : List (List ℕ)) (x : List ℕ) where
  abbrev None_in : List (List ℕ) → Type 0
  None_in names = is_among x names ≡ false

  neither : (xs ys : List (List ℕ)) → None_in (xs ++ ys) → None_in xs × None_in ys
  neither xs ys h = or_parts (is_among x xs) (is_among x ys) (sym (among_append x xs ys) ∙ h)

  both : (xs ys : List (List ℕ)) → None_in xs → None_in ys → None_in (xs ++ ys)
  both xs ys h k = among_append x xs ys ∙ (λ i. h i || k i)

  unless_none : (y : List ℕ) → is_same_text x y || false ≡ false → None_in (unless_constant cs y)
  unless_none y h = go (is_among y cs)
    where
      go : (b : Bool) → None_in (if b then [] else y ∷ [])
      go true = refl
      go false = h

  mutual
    expr_none : (e : ExprTree) → None_in (expr_names e) → None_in (scalars_in cs e)
    expr_none (Int n) h = refl
    expr_none (Var y) h = unless_none y h
    expr_none (Element y es) h = exprs_none es (or_parts (is_same_text x y) (is_among x (exprs_names es)) h).1
    expr_none (Neg a) h = expr_none a h
    expr_none (Add a b) h = let r = neither (expr_names a) (expr_names b) h in both (scalars_in cs a) (scalars_in cs b) (expr_none a r.0) (expr_none b r.1)
    expr_none (Sub a b) h = let r = neither (expr_names a) (expr_names b) h in both (scalars_in cs a) (scalars_in cs b) (expr_none a r.0) (expr_none b r.1)
    expr_none (Mul a b) h = let r = neither (expr_names a) (expr_names b) h in both (scalars_in cs a) (scalars_in cs b) (expr_none a r.0) (expr_none b r.1)
    expr_none (Div a b) h = let r = neither (expr_names a) (expr_names b) h in both (scalars_in cs a) (scalars_in cs b) (expr_none a r.0) (expr_none b r.1)
    expr_none (Pow a b) h = let r = neither (expr_names a) (expr_names b) h in both (scalars_in cs a) (scalars_in cs b) (expr_none a r.0) (expr_none b r.1)
    expr_none (Call f es) h = exprs_none es h

    exprs_none : (es : ExprTrees) → None_in (exprs_names es) → None_in (all_scalars_in cs es)
    exprs_none no_exprs h = refl
    exprs_none (more_exprs e rest) h = let r = neither (expr_names e) (exprs_names rest) h in both (scalars_in cs e) (all_scalars_in cs rest) (expr_none e r.0) (exprs_none rest r.1)

  cond_none : (c : CondTree) → None_in (cond_names c) → None_in (scalars_in_cond cs c)
  cond_none (Rel r a b) h = let k = neither (expr_names a) (expr_names b) h in both (scalars_in cs a) (scalars_in cs b) (expr_none a k.0) (expr_none b k.1)
  cond_none (Not a) h = cond_none a h
  cond_none (And a b) h = let k = neither (cond_names a) (cond_names b) h in both (scalars_in_cond cs a) (scalars_in_cond cs b) (cond_none a k.0) (cond_none b k.1)
  cond_none (Or a b) h = let k = neither (cond_names a) (cond_names b) h in both (scalars_in_cond cs a) (scalars_in_cond cs b) (cond_none a k.0) (cond_none b k.1)

  items_none : (items : List ItemTree) → None_in (flat_map item_names items) → None_in (flat_map (scalars_in_item cs) items)
  items_none [] h = refl
  items_none (Value e ∷ items) h = let k = neither (expr_names e) (flat_map item_names items) h in both (scalars_in cs e) (flat_map (scalars_in_item cs) items) (expr_none e k.0) (items_none items k.1)
  items_none (Text t ∷ items) h = items_none items h

  -- events of other scalars
  module _ (k n : ℕ) where
    abbrev Quiet : List Event → Type 0
    Quiet events = list_any (is_read_by x k) events ≡ false

    quiet_both : (es fs : List Event) → Quiet es → Quiet fs → Quiet (es ++ fs)
    quiet_both [] fs h g = g
    quiet_both (e ∷ es) fs h g = let r = or_parts (is_read_by x k e) (list_any (is_read_by x k) es) h in let more = quiet_both es fs r.1 g in λ i. r.0 i || more i

    quiet_reads : (names : List (List ℕ)) → None_in names → Quiet (reads_of n names)
    quiet_reads [] h = refl
    quiet_reads (y ∷ ys) h = let r = or_parts (is_same_text x y) (is_among x ys) h in let more = quiet_reads ys r.1 in (λ i. (r.0 i && not (is_overwriting events.reads) && n == k) || more i)

    quiet_assigned : (names : List (List ℕ)) → Quiet (map (event n assigns) names)
    quiet_assigned [] = refl
    quiet_assigned (y ∷ ys) = let more = quiet_assigned ys in never (is_same_text x y) (n == k) (list_any (is_read_by x k) (map (event n assigns) ys)) more
      where
        never : (a b c : Bool) → c ≡ false → (a && false && b) || c ≡ false
        never true b c h = h
        never false b c h = h

    quiet_left : (e : ExprTree) → None_in (expr_names e) → Quiet (left_events cs n e)
    quiet_left (Var y) h = quiet_assigned (unless_constant cs y)
    quiet_left (Element y es) h = quiet_reads (all_scalars_in cs es) (exprs_none es (or_parts (is_same_text x y) (is_among x (exprs_names es)) h).1)
    quiet_left (Int m) h = refl
    quiet_left (Neg a) h = refl
    quiet_left (Add a b) h = refl
    quiet_left (Sub a b) h = refl
    quiet_left (Mul a b) h = refl
    quiet_left (Div a b) h = refl
    quiet_left (Pow a b) h = refl
    quiet_left (Call f es) h = refl

    quiet_lefts : (items : List ExprTree) → None_in (flat_map expr_names items) → Quiet (flat_map (left_events cs n) items)
    quiet_lefts [] h = refl
    quiet_lefts (e ∷ items) h = let r = neither (expr_names e) (flat_map expr_names items) h in quiet_both (left_events cs n e) (flat_map (left_events cs n) items) (quiet_left e r.0) (quiet_lefts items r.1)

    quiet_head : (h : Head) (body : StmtTrees) → None_in (head_names h) → Quiet (own_events cs n (Do h body))
    quiet_head h body g =
        let r = neither h.rejected (h.variable ∷ (expr_names h.first ++ expr_names h.last ++ expr_names h.step ++ h.private)) g in
        let rest = (or_parts (is_same_text x h.variable) (is_among x (expr_names h.first ++ expr_names h.last ++ expr_names h.step ++ h.private)) r.1).1 in
        let three = (neither (expr_names h.first ++ expr_names h.last ++ expr_names h.step) h.private rest).0 in
        let two = (neither (expr_names h.first ++ expr_names h.last) (expr_names h.step) three).0 in
        let one = neither (expr_names h.first) (expr_names h.last) two in
        quiet_both (reads_of n (scalars_in cs h.first ++ scalars_in cs h.last)) (event n assigns h.variable ∷ [])
        (quiet_reads (scalars_in cs h.first ++ scalars_in cs h.last) (both (scalars_in cs h.first) (scalars_in cs h.last) (expr_none h.first one.0) (expr_none h.last one.1))) (quiet_assigned (h.variable ∷ []))

  -- what statements don't name no one of them reads
  module _ (k : ℕ) where
    mutual
      loose_none : (z : StmtTree) (n : ℕ) → None_in (stmt_names z) → reads_outside cs x k z n ≡ false
      loose_none (Assign left right) n h =
          let r = neither (expr_names left) (expr_names right) h in
          quiet_both k n (reads_of n (scalars_in cs right)) (left_events cs n left) (quiet_reads k n (scalars_in cs right) (expr_none right r.1)) (quiet_left k n left r.0)
      loose_none (If c a b) n h =
          let r = neither (cond_names c ++ stmts_names a) (stmts_names b) h in
          let first = neither (cond_names c) (stmts_names a) r.0 in
          let own = quiet_reads k n (scalars_in_cond cs c) (cond_none c first.0) in
          let one = all_loose_none a (n + 1) first.1 in
          let two = all_loose_none b (n + 1 + statements_count a) r.1 in
          λ i. own i || (one i || two i)
      loose_none (Do h body) n g =
          let r = neither (head_names h) (stmts_names body) g in
          let own = quiet_head k n h body r.0 in
          let rest = all_loose_none body (n + 1) r.1 in
          (λ i. own i || (not (is_same_text x h.variable) && rest i)) ∙ no_more (not (is_same_text x h.variable))
        where
          no_more : (b : Bool) → b && false ≡ false
          no_more true = refl
          no_more false = refl
      loose_none (Print items) n h = quiet_reads k n (flat_map (scalars_in_item cs) items) (items_none items h)
      loose_none (Read items) n h = quiet_lefts k n items h
      loose_none Stop n h = refl
      loose_none (Comment text) n h = refl

      all_loose_none : (zs : StmtTrees) (n : ℕ) → None_in (stmts_names zs) → all_reads_outside cs x k zs n ≡ false
      all_loose_none no_stmts n h = refl
      all_loose_none (more_stmts z rest) n h =
          let r = neither (stmt_names z) (stmts_names rest) h in
          let one = loose_none z n r.0 in
          let more = all_loose_none rest (n + statement_count z) r.1 in
          λ i. one i || more i

  -- so no cell of it is read
  module _ (p : Setting) (other : is_among x cs ≡ false) (zs : StmtTrees) (absent : is_among x (stmts_names zs) ≡ false) (n : ℕ) (S : Scope) (s : Store) where
    pub unread_cells : ReadNone (is_cell_of x) (run_all p zs n S s).acts
    unread_cells = acts_unread (run_all p zs n S s).acts (λ c named. none (reads_cell c (touches_of (run_all p zs n S s).acts)) (λ r.
        let g = all_located p cs x c named other zs n S s r in
        both_ways (all_reads_outside cs x g.reader zs n) (all_loose_none g.reader zs n absent) g.loose))
      where
        none : (b : Bool) → (b ≡ true → ⊥) → b ≡ false
        none true h = absurd (h refl)
        none false h = refl

        touch_unread : (m : Manner) (c : Cell) → (is_cell_of x c ≡ true → (is_read m && same_cell c c) ≡ false) → IsNoReadOf (is_cell_of x) m c
        touch_unread reads c h = none (is_cell_of x c) (λ k. both_ways (same_cell c c) (h k) (cell_itself c))
        touch_unread writes c h = tt
        touch_unread is_told c h = tt

        touches_unread : (ts : List Touch) → ((c : Cell) → is_cell_of x c ≡ true → reads_cell c ts ≡ false) → LeaveUnread (is_cell_of x) ts
        touches_unread [] h = tt
        touches_unread (q ∷ ts) h = (
          touch_unread q.manner q.cell (λ k. (or_parts (is_read q.manner && same_cell q.cell q.cell) (reads_cell q.cell ts) (h q.cell k)).0),
          touches_unread ts (λ c k. (or_parts (is_read q.manner && same_cell q.cell c) (reads_cell c ts) (h c k)).1),
        )

        acts_unread : (acts : List Act) → ((c : Cell) → is_cell_of x c ≡ true → reads_cell c (touches_of acts) ≡ false) → ReadNone (is_cell_of x) acts
        acts_unread [] h = tt
        acts_unread (a ∷ acts) h = (touches_unread a.touches (λ c k. (each a acts c (h c k)).0), acts_unread acts (λ c k. (each a acts c (h c k)).1))
          where
            each : (a : Act) (acts : List Act) (c : Cell) → reads_cell c (touches_of (a ∷ acts)) ≡ false → (reads_cell c a.touches ≡ false) × (reads_cell c (touches_of acts) ≡ false)
            each a acts c g = or_parts (reads_cell c a.touches) (reads_cell c (touches_of acts)) (sym (list_any-append (λ (t : Touch). is_read t.manner && same_cell t.cell c) a.touches (touches_of acts)) ∙ g)

-- a plain bound
module _ (t : ProgramTree) (l : ℕ) (cs : Values) (x : List ℕ) (none : value_named cs x ≡ None) (outside : is_among x (indices_of (nest_round t l)) ≡ false) (index : is_among x (all_loop_variables t.body) ≡ true) where
  has_value : (o : Option ℤ) → (o ≡ None → ⊥) → (m : ℤ) × (o ≡ Some m)
  has_value (Some m) h = (m, refl)
  has_value None h = absurd (h refl)

  constant_unnamed : (e : ExprTree) → IsConstant (setting_round cs t l) e → is_among x (expr_names e) ≡ false
  constant_unnamed e h = let r = has_value (constant_value cs e) h in unnamed cs x none e r.0 r.1

  none_in : (xs ys : List (List ℕ)) → is_among x xs ≡ false → is_among x ys ≡ false → is_among x (xs ++ ys) ≡ false
  none_in xs ys h k = among_append x xs ys ∙ (λ i. h i || k i)

  is_it : (b : Bool) → IsTrue b → b ≡ true
  is_it b h = h

  mutual
    pub plain_unnamed : (e : ExprTree) → IsPlainlyBuilt cs t l e → is_among x (expr_names e) ≡ false
    plain_unnamed (Int n) h = refl
    plain_unnamed (Var y) h = elim h [
      | inl constant ↦ constant_unnamed (Var y) constant
      | inr rest ↦ elim rest [ inl around ↦ by y (λ e. both_ways (is_among x (indices_of (nest_round t l))) outside (ap (λ (z : List ℕ). is_among z (indices_of (nest_round t l))) e ∙ is_it (is_among y (indices_of (nest_round t l))) around)) | inr fixed ↦ by y (λ e. both_ways (is_among x (all_loop_variables t.body)) (ap (λ (z : List ℕ). is_among z (all_loop_variables t.body)) e ∙ fixed.other) index) ]
    ]
      where
        by : (y : List ℕ) → (x ≡ y → ⊥) → is_same_text x y || false ≡ false
        by y h = go (is_same_text x y) refl
          where
            go : (b : Bool) → is_same_text x y ≡ b → b || false ≡ false
            go true e = absurd (h (same_is x y e))
            go false e = refl
    plain_unnamed (Element y es) h = absurd h
    plain_unnamed (Neg a) h = elim h [ inl constant ↦ constant_unnamed (Neg a) constant | inr r ↦ plain_unnamed a r ]
    plain_unnamed (Add a b) h = elim h [ inl constant ↦ constant_unnamed (Add a b) constant | inr r ↦ none_in (expr_names a) (expr_names b) (plain_unnamed a r.0) (plain_unnamed b r.1) ]
    plain_unnamed (Sub a b) h = elim h [ inl constant ↦ constant_unnamed (Sub a b) constant | inr r ↦ none_in (expr_names a) (expr_names b) (plain_unnamed a r.0) (plain_unnamed b r.1) ]
    plain_unnamed (Mul a b) h = elim h [
      | inl constant ↦ constant_unnamed (Mul a b) constant
      | inr r ↦ elim r [
        | inl k ↦ none_in (expr_names a) (expr_names b) (constant_unnamed a k.0) (plain_unnamed b k.1)
        | inr k ↦ none_in (expr_names a) (expr_names b) (plain_unnamed a k.0) (constant_unnamed b k.1)
      ]
    ]
    plain_unnamed (Div a b) h = constant_unnamed (Div a b) h
    plain_unnamed (Pow a b) h = constant_unnamed (Pow a b) h
    plain_unnamed (Call f es) h = elim h [ inl constant ↦ constant_unnamed (Call f es) constant | inr r ↦ plain_unnamed_all es r.1 ]

    plain_unnamed_all : (es : ExprTrees) → ArePlainlyBuilt cs t l es → is_among x (exprs_names es) ≡ false
    plain_unnamed_all no_exprs h = refl
    plain_unnamed_all (more_exprs e rest) h = none_in (expr_names e) (exprs_names rest) (plain_unnamed e h.0) (plain_unnamed_all rest h.1)
