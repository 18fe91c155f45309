-- The iterations of a DO done in strips: a program that may be trusted stays so.
use Rattle.std.proofs.Common.{Bool, List, [], ap, append-nil, arith, codes, false, if◌then◌else◌, inr, not, pos, refl, subst, sym, true, ℕ, ◌&&◌, ◌++◌, ◌||◌, ◌∙◌, ◌∷◌, ◌≡◌}
use Rattle.std.proofs.lemmas.Bool.{both_ways, or_parts, or_right}
use Rattle.std.specs.List.{flat_map, list_any}
use Rattle.ped_base.proofs.NameEquality.{same_is}
use Rattle.ped_base.specs.Lists.{is_among, is_same_text}
use Rattle.ped_rules.proofs.HeadLaws.OneHead.{ClearedLaw, TrustedLaw}
use Rattle.ped_rules.specs.ped_loop_runs.specs.Exchanges.{Exchange, IsExchanged, IsUnused, LeavesAlone, loop_of, start_of}
use Rattle.ped_rules.specs.ped_loop_runs.specs.Unrejected.{IsTrusted, some_rejection}
use Rattle.ped_rules.specs.ped_loop_runs.specs.Writing.{all_write, some_write_index, writes, writes_left, writes_name}
use Rattle.ped_rules.specs.ped_steps.proofs.RunLaws.ReplacedTrees.{HasGap, program_gap}
use Rattle.ped_rules.specs.ped_steps.specs.Replacing.{alone, program_with}
use Rattle.ped_rules.specs.ped_flow.specs.Questions.{IsContained, IsShownBehind, LoopOf}
use Rattle.ped_rules.specs.ped_laws.proofs.FlowRunLaws.Stopping.{fitting_stops, loop_stops}
use Rattle.ped_rules.specs.ped_symbols.specs.Kinds.{names_of}
use Rattle.ped_rules.specs.ped_symbols.specs.NameRefusals.{IsValid}
use Rattle.ped_rules.proofs.NameLaws.UnnamedCells.{neither, unnamed_head, unnamed_statements, unsaved_name}
use Rattle.ped_reindex.specs.Stripping.{strip_head, strips_head, with_strips}
use Rattle.ped_tree.specs.Accesses.{constant_names}
use Rattle.ped_tree.specs.Grammar.Words.{is_name}
use Rattle.ped_tree.specs.NamesIn.{all_loop_variables, cond_names, expr_names, exprs_names, head_names, stmt_names, stmts_names}
use Rattle.ped_tree.specs.Tree.{Add, Assign, Call, Comment, Div, Do, Element, ExprTree, Head, If, Int, Mul, Neg, Pow, Print, ProgramTree, Read, StmtTree, StmtTrees, Stop, Sub, Var, more_stmts, no_stmts}

or_false : (a : Bool) → a || false ≡ a
or_false true = refl
or_false false = refl

-- a name that doesn't occur in statements they don't write
module _ (cs : List (List ℕ)) (w : List ℕ) (name : is_name w ≡ true) where
  other_name : (y : List ℕ) → is_same_text w y ≡ false → writes_name cs w y ≡ false
  other_name y apart = go (is_among y cs)
    where
      go : (b : Bool) → (if b then false else is_same_text w y) ≡ false
      go true = refl
      go false = apart

  no_name : (y : List ℕ) → is_name y ≡ false → is_same_text w y ≡ false
  no_name y none = go (is_same_text w y) refl
    where
      go : (b : Bool) → is_same_text w y ≡ b → b ≡ false
      go true e = absurd (both_ways (is_name y) none (ap is_name (sym (same_is w y e)) ∙ name))
      go false e = refl

  left_unwritten : (e : ExprTree) → is_among w (expr_names e) ≡ false → writes_left cs w e ≡ false
  left_unwritten (Var y) h = other_name y (or_parts (is_same_text w y) false h).0
  left_unwritten (Element y es) h = other_name y (or_parts (is_same_text w y) (is_among w (exprs_names es)) h).0
  left_unwritten (Int n) h = refl
  left_unwritten (Neg a) h = refl
  left_unwritten (Add a b) h = refl
  left_unwritten (Sub a b) h = refl
  left_unwritten (Mul a b) h = refl
  left_unwritten (Div a b) h = refl
  left_unwritten (Pow a b) h = refl
  left_unwritten (Call f es) h = refl

  lefts_unwritten : (items : List ExprTree) → is_among w (flat_map expr_names items) ≡ false → list_any (writes_left cs w) items ≡ false
  lefts_unwritten [] h = refl
  lefts_unwritten (e ∷ items) h = let parts = neither w (expr_names e) (flat_map expr_names items) h in λ i. left_unwritten e parts.0 i || lefts_unwritten items parts.1 i

  private_unwritten : (xs : List (List ℕ)) → is_among w xs ≡ false → list_any (writes_name cs w) xs ≡ false
  private_unwritten [] h = refl
  private_unwritten (y ∷ xs) h = let parts = or_parts (is_same_text w y) (is_among w xs) h in λ i. other_name y parts.0 i || private_unwritten xs parts.1 i

  mutual
    unwritten : (s : StmtTree) → is_among w (stmt_names s) ≡ false → writes cs w s ≡ false
    unwritten (Assign left right) h = left_unwritten left (neither w (expr_names left) (expr_names right) h).0
    unwritten (If c a b) h =
        let parts = neither w (cond_names c ++ stmts_names a) (stmts_names b) h in
        let first = neither w (cond_names c) (stmts_names a) parts.0 in
        λ i. all_unwritten a first.1 i || all_unwritten b parts.1 i
    unwritten (Do g body) h =
        let parts = neither w (head_names g) (stmts_names body) h in
        λ i. private_unwritten g.private (unnamed_head w g parts.0).private i || all_unwritten body parts.1 i
    unwritten (Print items) h = no_name (codes "(OUT)") refl
    unwritten (Read items) h = λ i. no_name (codes "(IN)") refl i || lefts_unwritten items h i
    unwritten Stop h = refl
    unwritten (Comment text) h = refl

    pub all_unwritten : (ss : StmtTrees) → is_among w (stmts_names ss) ≡ false → all_write cs w ss ≡ false
    all_unwritten no_stmts h = refl
    all_unwritten (more_stmts s rest) h = let parts = neither w (stmt_names s) (stmts_names rest) h in λ i. unwritten s parts.0 i || all_unwritten rest parts.1 i

module _ (t : ProgramTree) (valid : IsValid t) (l : ℕ) (loop : LoopOf t l) (contained : IsContained t l) (K : ℕ) (w : List ℕ) (name : is_name w ≡ true) (absent : is_among w (names_of t) ≡ false) (serial : loop.head.parallel ≡ false) (private : loop.head.private ≡ []) where
  abbrev d : Head
  d = loop.head

  abbrev body : StmtTrees
  body = loop.body

  abbrev h : Head
  h = strips_head (pos K) w loop.head

  abbrev g : Head
  g = strip_head (pos K) w loop.head

  abbrev by : StmtTree → StmtTrees
  by s = with_strips (pos K) w loop.head loop.body

  abbrev old : StmtTrees
  old = alone (Do loop.head loop.body)

  abbrev new : StmtTrees
  new = alone (Do (strips_head (pos K) w loop.head) (alone (Do (strip_head (pos K) w loop.head) loop.body)))

  abbrev cs : List (List ℕ)
  cs = constant_names t.decls

  abbrev loops : List (List ℕ)
  loops = loop.head.variable ∷ all_loop_variables loop.body

  gap : HasGap by l (Do loop.head loop.body) 1 t.body (program_with by l t).body
  gap = program_gap by l (Do loop.head loop.body) t loop.is

  abbrev exchange : Exchange
  exchange = record { gap = gap.gap; front = no_stmts; head = loop.head; body = loop.body; new = new }

  exchanged : IsExchanged exchange t (program_with by l t)
  exchanged = record {
    old_body = gap.old_is;
    comments = no_stmts;
    uncounted = refl;
    new_body = gap.new_is;
    constants = refl;
    saved = refl;
    unstopped = let stops = loop_stops t l loop (fitting_stops t valid.fits) in λ i. (stops i || false) || false;
  }

  old_variables : (v : List ℕ) → is_among v (all_loop_variables old) ≡ is_among v loops
  old_variables v = ap (is_among v) (append-nil loops)

  new_variables : (v : List ℕ) → is_among v (all_loop_variables new) ≡ is_same_text v w || is_among v loops
  new_variables v = (λ i. is_among v (append-nil (w ∷ (append-nil loops i)) i))

  stands_at : loop_of exchange ≡ l
  stands_at = let n = gap.number in omega (arith, n)

  unshown : (v : List ℕ) → is_among v (all_loop_variables old) ≡ true → IsShownBehind t (loop_of exchange) v → ⊥
  unshown v among shown = (contained v (record { loop = loop; among = sym (old_variables v) ∙ among })).1 (inr (subst (λ (n : ℕ). IsShownBehind t n v) stands_at shown))

  further : (v : List ℕ) → is_among v (all_loop_variables new) ≡ true → is_among v (all_loop_variables old) ≡ false → IsUnused t v
  further v there before = go (is_same_text v w) refl (sym (new_variables v) ∙ there)
    where
      go : (b : Bool) → is_same_text v w ≡ b → b || is_among v loops ≡ true → IsUnused t v
      go true e k = subst (IsUnused t) (sym (same_is v w e)) (record { unwritten = all_unwritten cs w name t.body (unnamed_statements t w absent); unsaved = unsaved_name t w absent })
      go false e k = absurd (both_ways (is_among v loops) (sym (old_variables v) ∙ before) k)

  -- the same names are written
  writes_alike : (v : List ℕ) → all_write cs v new ≡ all_write cs v old
  writes_alike v = (λ i. or_false ((list_any (writes_name cs v) loop.head.private || all_write cs v loop.body) || false) i) ∙ refl

  indices_alike : some_write_index cs old ≡ false → some_write_index cs new ≡ false
  indices_alike none = (λ i. or_false (some_write_index cs old) i) ∙ none

  leaves_alone : ClearedLaw → LeavesAlone exchange t
  leaves_alone cleared = record {
    variables = λ v e. new_variables v ∙ (λ i. is_same_text v w || (sym (old_variables v) ∙ e) i) ∙ or_right (is_same_text v w) true refl;
    further = further;
    unshown = unshown;
    writes = λ v none. writes_alike v ∙ none;
    unwritten = indices_alike;
    leaves = λ v other keeps.
        ap (λ (b : Bool). b && true) (cleared cs v d loop.body (start_of exchange) ((or_parts (is_same_text v w) (is_among v loops) (sym (new_variables v) ∙ other)).1) ∙ ap (λ (xs : List (List ℕ)). not (is_among v xs)) private);
  }

  -- and C$PED REJECT stands before neither where it stood before none
  unrejected : some_rejection old ≡ false → some_rejection new ≡ false
  unrejected none = (λ i. or_false (some_rejection old) i) ∙ none

  pub stays_trusted_strips : TrustedLaw → ClearedLaw → IsTrusted t → IsTrusted (program_with (λ s. with_strips (pos K) w loop.head loop.body) l t)
  stays_trusted_strips law cleared trusted = law exchange t (program_with by l t) exchanged (leaves_alone cleared) unrejected trusted
