-- Each PARALLEL DO behind `expand` was one before, with the same variables, and its body writes none of them that it didn't write.
use Rattle.std.proofs.Common.{◌≡◌, ℕ, ◌+◌, ◌<◌, ◌≤◌, List, [], ◌∷◌, ◌++◌, Bool, true, false, Some, None, refl, sym, ap, subst, ◌∙◌, arith, append-nil, if◌then◌else◌}
use Rattle.std.specs.Prelude.{◌||◌, ◌&&◌}
use Rattle.std.specs.List.{list_any}
use Rattle.std.proofs.lemmas.Bool.{both_ways, and_parts, or_parts, le-ltb, lt-ltb}
use Rattle.std.proofs.lemmas.List.Folds.{list_any-append}
use Rattle.std.proofs.lemmas.Grind.{flat_map-append}
use Rattle.ped_base.specs.Lists.{is_same_text, is_among}
use Rattle.ped_tree.specs.Tree.{Var, Element, no_exprs, more_exprs, Head, StmtTree, StmtTrees, Assign, If, Do, Print, Read, Stop, Comment, no_stmts, more_stmts, ProgramTree}
use Rattle.ped_tree.specs.Numbering.{statement_count, statements_count}
use Rattle.ped_tree.specs.Accesses.{constants_in, constant_names}
use Rattle.ped_base.proofs.NameEquality.{same_is}
use Rattle.ped_tree.specs.NamesIn.{loop_variables, all_loop_variables}
use Rattle.ped_rules.specs.ped_laws.specs.Acts.Orders.{IsIn}
use Rattle.ped_rules.specs.ped_symbols.specs.NameRefusals.{IsValid}
use Rattle.ped_rules.specs.ped_symbols.specs.Kinds.{kind_of, kind_in, names_of}
use Rattle.ped_rules.specs.ped_symbols.specs.RightUses.RightUses.{is_scalar_kind, is_scalar, cond_is_right, head_is_right, stmt_is_right, stmts_are_right}
use Rattle.ped_rules.specs.ped_flow.specs.PlainBounds.{all_loops_round, nest_round}
use Rattle.ped_rules.specs.ped_flow.specs.Questions.{LoopOf, IsIndexIn}
use Rattle.ped_symbolic.specs.Substitution.{statement_substituted, statements_substituted}
use Rattle.ped_rules.specs.ped_steps.specs.Replacing.{alone}
use Rattle.ped_rules.specs.ped_steps.specs.Tidy.{is_written_in}
use Rattle.ped_rules.specs.ped_steps.specs.Runs.Gaps.{Gap, filled}
use Rattle.ped_scalar.proofs.ArraysForScalars.{IsRound}
use Rattle.ped_rules.specs.ped_steps.proofs.RunLaws.ProgramParts.{part_at}
use Rattle.ped_rules.specs.ped_steps.proofs.RunLaws.ReplacedTrees.{program_gap}
use Rattle.ped_rules.specs.ped_steps.proofs.RunLaws.RunCells.{EachDo, EachDos}
use Rattle.ped_rules.specs.ped_steps.proofs.RunLaws.SubstitutedShapes.{count_kept, counts_kept}
use Rattle.ped_rules.specs.Spans.{Span}
use Rattle.ped_rules.specs.ScalarArrays.{element, declaration}
use Rattle.ped_scalar.specs.Expanding.{kept_value, with_elements, expanded, moved_behind}
use Rattle.ped_rules.specs.ped_loop_runs.specs.Writing.{writes_name, all_write}
use Rattle.ped_rules.specs.ped_loop_runs.proofs.TidyLaws.TidyReferences.{written_is}
use Rattle.ped_rules.specs.ped_loop_runs.proofs.TidyLaws.TidyReferencesFilled.{filled_unwritten}
use Rattle.ped_rules.specs.ped_loop_runs.proofs.TidyLaws.TidyReferencesGaps.{Stands, each_stands, exchanged_each, each_of_program}
use Rattle.ped_rules.proofs.NameLaws.SubstitutedReferences.{variables_stay, all_variables_stay, other_unwritten, all_unwritten, filled_variables}

not_so : (b : Bool) → (b ≡ true → ⊥) → b ≡ false
not_so true h = absurd (h refl)
not_so false h = refl

-- the names of scalars occur
scalar_occurs : (t : ProgramTree) (w : List ℕ) → is_scalar (kind_in t) w ≡ true → is_among w (names_of t) ≡ true
scalar_occurs t w h = go (is_among w (names_of t)) h
  where
    go : (b : Bool) → is_scalar_kind (if b then Some (kind_of t w) else None) ≡ true → b ≡ true
    go true h = refl
    go false h = absurd cc

-- the variables of the DO loops in statements that are right are scalars
module _ (t : ProgramTree) (w : List ℕ) where
  of_either : (A : Type 0) (xs ys : List (List ℕ)) → is_among w (xs ++ ys) ≡ true → (is_among w xs ≡ true → A) → (is_among w ys ≡ true → A) → A
  of_either A xs ys h f g = go (is_among w xs) refl (sym (list_any-append (is_same_text w) xs ys) ∙ h)
    where
      go : (b : Bool) → is_among w xs ≡ b → (b || is_among w ys) ≡ true → A
      go true e q = f e
      go false e q = g q

  variable_scalar : (h : Head) → head_is_right (kind_in t) h ≡ true → is_scalar (kind_in t) h.variable ≡ true
  variable_scalar h r =
      let a = and_parts _ _ r in
      let b = and_parts _ _ a.0 in
      let c = and_parts _ _ b.0 in
      (and_parts (is_scalar (kind_in t) h.variable) _ c.0).0

  mutual
    pub variables_scalar : (s : StmtTree) → stmt_is_right (kind_in t) s ≡ true → is_among w (loop_variables s) ≡ true → is_scalar (kind_in t) w ≡ true
    variables_scalar (Assign left right) r h = absurd cc
    variables_scalar (If c a b) r h =
        let right = and_parts _ (stmts_are_right (kind_in t) b) r in
        of_either (is_scalar (kind_in t) w ≡ true) (all_loop_variables a) (all_loop_variables b) h (all_variables_scalar a (and_parts (cond_is_right (kind_in t) c) (stmts_are_right (kind_in t) a) right.0).1) (all_variables_scalar b right.1)
    variables_scalar (Do head body) r h =
        let right = and_parts (head_is_right (kind_in t) head) (stmts_are_right (kind_in t) body) r in
        of_either (is_scalar (kind_in t) w ≡ true) (head.variable ∷ []) (all_loop_variables body) h (λ e. ap (is_scalar (kind_in t)) (same_is w head.variable (or_one (is_same_text w head.variable) e)) ∙ variable_scalar head right.0) (all_variables_scalar body right.1)
      where
        or_one : (b : Bool) → (b || false) ≡ true → b ≡ true
        or_one true h = refl
        or_one false h = h
    variables_scalar (Print items) r h = absurd cc
    variables_scalar (Read items) r h = absurd cc
    variables_scalar Stop r h = absurd cc
    variables_scalar (Comment text) r h = absurd cc

    all_variables_scalar : (ss : StmtTrees) → stmts_are_right (kind_in t) ss ≡ true → is_among w (all_loop_variables ss) ≡ true → is_scalar (kind_in t) w ≡ true
    all_variables_scalar no_stmts r h = absurd cc
    all_variables_scalar (more_stmts s rest) r h =
        let right = and_parts (stmt_is_right (kind_in t) s) (stmts_are_right (kind_in t) rest) r in
        of_either (is_scalar (kind_in t) w ≡ true) (loop_variables s) (all_loop_variables rest) h (variables_scalar s right.0) (all_variables_scalar rest right.1)

-- how many statements stand behind the DO: one where the scalar is live
abbrev pub behind_it : Bool → ℕ
behind_it true = 1
behind_it false = 0

module _ (t : ProgramTree) (valid : IsValid t) (s : ℕ) (l : LoopOf t s) (x array : List ℕ) (live : Bool) (v : Span) (in_order : l.head.parallel ≡ false) (new : is_among array (names_of t) ≡ false)
    (no_index : (n : ℕ) (m : LoopOf t n) → IsRound t s n → m.head.parallel ≡ true → is_among x (loop_variables (Do m.head m.body)) ≡ false) where
  abbrev constants : List (List ℕ)
  constants = constant_names t.decls

  -- the number of the last statement in the DO
  abbrev end : ℕ
  end = s + statements_count l.body

  abbrev old_part : StmtTrees
  old_part = alone (Do l.head l.body)

  abbrev new_part : StmtTrees
  new_part = with_elements x array live v.last (Do l.head l.body)

  -- a DO of the new program comes from one of the old, with the same variables, and its body writes none of them that it didn't write
  pub record Comes (k : ℕ) (h : Head) (b : StmtTrees) : Type 0 where
    pub number : ℕ
    pub head : Head
    pub body : StmtTrees
    pub stands : Stands t number head body
    pub moved : k ≡ moved_behind end live number
    pub parallel : head.parallel ≡ h.parallel
    pub variables : loop_variables (Do h b) ≡ loop_variables (Do head body)
    pub unwritten : (w : List ℕ) → is_among w (loop_variables (Do head body)) ≡ true → all_write constants w body ≡ false → all_write constants w b ≡ false

  abbrev Came : ℕ → Head → StmtTrees → Type 0
  Came k h b = h.parallel ≡ true → Comes k h b

  right : (n : ℕ) (h : Head) (b : StmtTrees) → Stands t n h b → stmt_is_right (kind_in t) (Do h b) ≡ true
  right n h b is = (part_at t valid n (Do h b) is).right

  -- a variable of a DO isn't the array
  apart : (n : ℕ) (h : Head) (b : StmtTrees) → Stands t n h b → (w : List ℕ) → is_among w (loop_variables (Do h b)) ≡ true → is_same_text w array ≡ false
  apart n h b is w among = not_so (is_same_text w array)
      (λ e. both_ways (is_among array (names_of t)) new (ap (λ (y : List ℕ). is_among y (names_of t)) (sym (same_is w array e)) ∙ scalar_occurs t w (variables_scalar t w (Do h b) (right n h b is) among)))

  -- up to the DO's last statement the numbers stay
  kept_number : (k : ℕ) → k ≤ end → k ≡ moved_behind end live k
  kept_number k h = ap (λ (c : Bool). if c && live then k + 1 else k) (sym (le-ltb end k h))

  -- a DO that only has another number now
  itself : (j k : ℕ) (h : Head) (b : StmtTrees) → Stands t k h b → j ≡ moved_behind end live k → Comes j h b
  itself j k h b is e = record { number = k; head = h; body = b; stands = is; moved = e; parallel = refl; variables = refl; unwritten = λ w among none. none }

  stays : (k j : ℕ) (h : Head) (b : StmtTrees) → k < s → j ≡ k + 0 → Stands t k h b → Came j h b
  stays k j h b below e is parallel = itself j k h b is (plus_none e ∙ kept_number k (omega (arith, below)))
    where
      plus_none : j ≡ k + 0 → j ≡ k
      plus_none e = omega (arith, e)

  moves : (k j : ℕ) (h : Head) (b : StmtTrees) → s + statements_count old_part ≤ k → j ≡ k + behind_it live → Stands t k h b → Came j h b
  moves k j h b above e is parallel = itself j k h b is (go live e ∙ ap (λ (c : Bool). if c && live then k + 1 else k) (sym (lt-ltb end k (omega (arith, above)))))
    where
      go : (live : Bool) → j ≡ k + behind_it live → j ≡ (if true && live then k + 1 else k)
      go true e = e
      go false e = omega (arith, e)

  -- the DO loops in the DO
  mutual
    each_substituted : (ss : StmtTrees) (n m : ℕ) → m ≡ n → n + statements_count ss ≤ end + 1 → stmts_are_right (kind_in t) ss ≡ true → EachDos (Stands t) ss n → EachDos Came (statements_substituted x (element array (Var l.head.variable)) ss) m
    each_substituted no_stmts n m e to r all = tt
    each_substituted (more_stmts c rest) n m e to r all =
        let parts = and_parts (stmt_is_right (kind_in t) c) (stmts_are_right (kind_in t) rest) r in
        let count = count_kept x (element array (Var l.head.variable)) c in (
          one_substituted c n m e (omega (arith, to)) parts.0 all.0,
          each_substituted rest (n + statement_count c) (m + statement_count (statement_substituted x (element array (Var l.head.variable)) c)) (omega (arith, e, count)) (omega (arith, to)) parts.1 all.1,
        )

    one_substituted : (c : StmtTree) (n m : ℕ) → m ≡ n → n + statement_count c ≤ end + 1 → stmt_is_right (kind_in t) c ≡ true → EachDo (Stands t) c n → EachDo Came (statement_substituted x (element array (Var l.head.variable)) c) m
    one_substituted (Assign left value) n m e to r all = tt
    one_substituted (If c a b) n m e to r all =
        let parts = and_parts _ (stmts_are_right (kind_in t) b) r in
        let count = counts_kept x (element array (Var l.head.variable)) a in (
          each_substituted a (n + 1) (m + 1) (omega (arith, e)) (omega (arith, to)) (and_parts (cond_is_right (kind_in t) c) (stmts_are_right (kind_in t) a) parts.0).1 all.0,
          each_substituted b (n + 1 + statements_count a) (m + 1 + statements_count (statements_substituted x (element array (Var l.head.variable)) a)) (omega (arith, e, count)) (omega (arith, to)) parts.1 all.1,
        )
    one_substituted (Do h b) n m e to r all =
        let parts = and_parts (head_is_right (kind_in t) h) (stmts_are_right (kind_in t) b) r in (
          λ parallel. record {
            number = n;
            head = h;
            body = b;
            stands = all.0;
            moved = e ∙ kept_number n (omega (arith, to));
            parallel = refl;
            variables = variables_stay x (element array (Var l.head.variable)) (Do h b);
            unwritten = λ w among none. all_unwritten constants w (kind_in t) x (Element array (more_exprs (Var l.head.variable) no_exprs)) (other_unwritten constants w array (apart n h b all.0 w among)) b parts.1 none;
          },
          each_substituted b (n + 1) (m + 1) (omega (arith, e)) (omega (arith, to)) parts.1 all.1,
        )
    one_substituted (Print items) n m e to r all = tt
    one_substituted (Read items) n m e to r all = tt
    one_substituted Stop n m e to r all = tt
    one_substituted (Comment text) n m e to r all = tt

  own_right : stmts_are_right (kind_in t) l.body ≡ true
  own_right = (and_parts (head_is_right (kind_in t) l.head) (stmts_are_right (kind_in t) l.body) (right s l.head l.body l.is)).1

  inside : EachDos (Stands t) old_part s → EachDos Came new_part s
  inside all = ((λ parallel. absurd (both_ways l.head.parallel in_order parallel), each_substituted l.body (s + 1) (s + 1) refl (omega arith) own_right all.0.1), go live (s + statement_count (Do l.head (statements_substituted x (element array (Var l.head.variable)) l.body))))
    where
      go : (live : Bool) (m : ℕ) → EachDos Came (kept_value live x array v.last) m
      go true m = (tt, tt)
      go false m = tt

  -- the DO loops round the DO
  part_unwritten : (w : List ℕ) → is_same_text w array ≡ false → is_same_text w x ≡ false → all_write constants w old_part ≡ false → all_write constants w new_part ≡ false
  part_unwritten w other another none =
      let whole = or_parts (list_any (writes_name constants w) l.head.private || all_write constants w l.body) false none in
      let parts = or_parts (list_any (writes_name constants w) l.head.private) (all_write constants w l.body) whole.0 in
      let body = all_unwritten constants w (kind_in t) x (Element array (more_exprs (Var l.head.variable) no_exprs)) (other_unwritten constants w array other) l.body own_right parts.1 in
      λ i. (parts.0 i || body i) || go live i
    where
      go : (live : Bool) → all_write constants w (kept_value live x array v.last) ≡ false
      go true = ap (λ (b : Bool). b || false) (other_unwritten constants w x another)
      go false = refl

  part_variables : all_loop_variables new_part ≡ all_loop_variables old_part
  part_variables = λ i. (l.head.variable ∷ all_variables_stay x (element array (Var l.head.variable)) l.body i) ++ go live i
    where
      go : (live : Bool) → all_loop_variables (kept_value live x array v.last) ≡ []
      go true = refl
      go false = refl

  round : (n : ℕ) (h : Head) (gap : Gap) → n < s → IsIn (record { number = n; head = h }) (nest_round t s) → Stands t n h (filled gap old_part) → Came n h (filled gap new_part)
  round n h gap below there is parallel = record {
    number = n;
    head = h;
    body = filled gap old_part;
    stands = is;
    moved = kept_number n (omega (arith, below));
    parallel = refl;
    variables = λ i. h.variable ∷ filled_variables old_part new_part part_variables gap i;
    unwritten = λ w among none. filled_unwritten constants w old_part new_part (part_unwritten w (apart n h (filled gap old_part) is w among) (another w among)) gap none;
  }
    where
      another : (w : List ℕ) → is_among w (loop_variables (Do h (filled gap old_part))) ≡ true → is_same_text w x ≡ false
      another w among = not_so (is_same_text w x)
          (λ e. both_ways (is_among x (loop_variables (Do h (filled gap old_part)))) (no_index n (record { head = h; body = filled gap old_part; is = is }) (record { number = n; head = h }, there, refl) parallel)
          (ap (λ (y : List ℕ). is_among y (loop_variables (Do h (filled gap old_part)))) (sym (same_is w x e)) ∙ among))

  part_longer : statements_count new_part ≡ statements_count old_part + behind_it live
  part_longer = let e = counts_kept x (element array (Var l.head.variable)) l.body in let f = go live in omega (arith, e, f)
    where
      go : (live : Bool) → statements_count (kept_value live x array v.last) ≡ behind_it live
      go true = refl
      go false = refl

  each_came : EachDos Came (expanded t s x live array v).body 1
  each_came =
      let g = program_gap (with_elements x array live v.last) s (Do l.head l.body) t l.is in
      subst (λ (ss : StmtTrees). EachDos Came ss 1) (sym g.new_is)
      (exchanged_each (Stands t) Came old_part new_part (behind_it live) s (nest_round t s) (omega arith) part_longer stays moves round inside g.gap 1 g.number
      (λ m i. subst (λ (ss : StmtTrees). IsIn m (all_loops_round s ss 1)) (sym g.old_is) i) (subst (λ (ss : StmtTrees). EachDos (Stands t) ss 1) g.old_is (each_stands t)))

  -- each PARALLEL DO of the new program comes from one of the old
  pub parallel_comes : (k : ℕ) (p : LoopOf (expanded t s x live array v) k) → p.head.parallel ≡ true → Comes k p.head p.body
  parallel_comes k p parallel = each_of_program Came (expanded t s x live array v) each_came k p parallel

  -- the array's declaration makes no constants
  same_constants : constant_names (expanded t s x live array v).decls ≡ constants
  same_constants = flat_map-append constants_in t.decls (declaration array v ∷ []) ∙ append-nil (constant_names t.decls)

  -- and its body writes none of its variables that it didn't write
  pub expanded_writes : (k : ℕ) (p : LoopOf (expanded t s x live array v) k) (from : Comes k p.head p.body) (w : List ℕ) → is_among w (loop_variables (Do p.head p.body)) ≡ true
      → is_written_in t from.number from.body w ≡ false → is_written_in (expanded t s x live array v) k p.body w ≡ false
  expanded_writes k p from w among none =
      written_is (expanded t s x live array v) k p w
      ∙ (ap (λ (names : List (List ℕ)). all_write names w p.body) same_constants
      ∙ from.unwritten w (ap (is_among w) (sym from.variables) ∙ among) (sym (written_is t from.number (record { head = from.head; body = from.body; is = from.stands }) w) ∙ none))

  same_loop : (h g : Head) (b c : StmtTrees) → Some (Do h b) ≡ Some (Do g c) → Do h b ≡ Do g c
  same_loop h g b c e = cc

  -- the DO of the old program from which a DO of the new one comes
  abbrev pub old_loop : (k : ℕ) (h : Head) (b : StmtTrees) (from : Comes k h b) → LoopOf t from.number
  old_loop k h b from = record { head = from.head; body = from.body; is = from.stands }

  -- a variable of a DO of the new program or of a DO in it
  variable_among : (k : ℕ) (p : LoopOf (expanded t s x live array v) k) (w : List ℕ) → IsIndexIn (expanded t s x live array v) k w → is_among w (loop_variables (Do p.head p.body)) ≡ true
  variable_among k p w index =
      let r = index.loop in
      ap (λ (c : StmtTree). is_among w (loop_variables c)) (sym (same_loop r.head p.head r.body p.body (sym r.is ∙ p.is))) ∙ index.among

  -- is one of the DO of the old program or of a DO in that
  pub index_comes : (k : ℕ) (p : LoopOf (expanded t s x live array v) k) (from : Comes k p.head p.body) (w : List ℕ) → IsIndexIn (expanded t s x live array v) k w → IsIndexIn t from.number w
  index_comes k p from w index = record { loop = old_loop k p.head p.body from; among = ap (is_among w) (sym from.variables) ∙ variable_among k p w index }

  -- no PARALLEL DO of the new program writes a variable of it or of a DO in it, where none of the old one does
  pub expanded_unwritten : ((k : ℕ) (q : LoopOf t k) → q.head.parallel ≡ true → (w : List ℕ) → IsIndexIn t k w → is_written_in t k q.body w ≡ false)
      → (k : ℕ) (p : LoopOf (expanded t s x live array v) k) → p.head.parallel ≡ true → (w : List ℕ) → IsIndexIn (expanded t s x live array v) k w → is_written_in (expanded t s x live array v) k p.body w ≡ false
  expanded_unwritten unwritten k p parallel w index =
      let from = parallel_comes k p parallel in
      expanded_writes k p from w (variable_among k p w index) (unwritten from.number (old_loop k p.head p.body from) (from.parallel ∙ parallel) w (index_comes k p from w index))
