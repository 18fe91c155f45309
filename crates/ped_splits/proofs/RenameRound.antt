-- The PARALLEL DO loops round the second of two DO loops: which of them lose its variable, and which copies their iterations have.
use Rattle.std.proofs.Common.{◌≡◌, ◌⊎◌, ℕ, zero, suc, ◌+◌, ◌<◌, ◌≤◌, List, [], ◌∷◌, ◌++◌, Bool, true, false, ◌&&◌, ◌||◌, ◌==◌, not, Some, pos, inl, inr, refl, sym, ap, subst, ◌∙◌, arith, eqb-true, if◌then◌else◌}
use Rattle.std.specs.Prelude.{nat_le, nat_lt}
use Rattle.std.specs.List.{list_any, range_with_len}
use Rattle.std.proofs.lemmas.Bool.{both_ways, le-leb, lt-ltb, or_parts}
use Rattle.std.proofs.lemmas.List.Folds.{list_any-append}
use Rattle.ped_base.proofs.NameEquality.{same_is, same_itself}
use Rattle.ped_base.specs.Lists.{is_among, is_same_text}
use Rattle.ped_tree.proofs.NameLaws.Collected.{among_append}
use Rattle.ped_tree.specs.NamesIn.{all_loop_variables, loop_variables}
use Rattle.ped_tree.specs.Nests.{Loop, indices_of}
use Rattle.ped_tree.specs.Numbering.{all_numbered, numbered, statement_count, statement_with, statements_count}
use Rattle.ped_tree.specs.Tree.{Assign, Comment, Do, Head, If, Print, ProgramTree, Read, StmtTree, StmtTrees, Stop, Var, more_stmts, no_stmts}
use Rattle.ped_rules.proofs.NestLaws.IndicesApart.{variable_apart}
use Rattle.ped_rules.specs.ped_loop_runs.proofs.LoopLaws.UnprivateIndices.{indices_unprivate}
use Rattle.ped_rules.specs.ped_loop_runs.specs.OtherCopies.{HasOtherCopies, OfParallelRound}
use Rattle.ped_rules.specs.ped_steps.proofs.RunLaws.ProgramParts.{part_at}
use Rattle.ped_rules.specs.ped_steps.proofs.RunLaws.FilledGaps.{number_from, number_room}
use Rattle.ped_rules.specs.ped_steps.proofs.RunLaws.SubstitutedShapes.{indices_kept}
use Rattle.ped_rules.specs.ped_steps.specs.Replacing.{alone, followed}
use Rattle.ped_rules.specs.ped_steps.specs.Runs.Gaps.{Gap, at_front, filled, in_body, in_else, in_then, number_at, past}
use Rattle.ped_symbolic.specs.Substitution.{statements_substituted}
use Rattle.ped_rules.specs.ped_laws.proofs.ActLaws.Renamings.{or_left, or_right}
use Rattle.ped_rules.specs.ped_laws.proofs.FlowRunLaws.Standing.{Stand, else_stands, first_stands, inner_stands, is_there, rest_stands, whole_stands}
use Rattle.ped_rules.specs.ped_laws.proofs.RunLaws.Turning.{once_among}
use Rattle.ped_rules.specs.ped_flow.specs.PlainBounds.{all_loops_round, nest_round}
use Rattle.ped_rules.specs.ped_eval.specs.Evaluation.{Seen}
use Rattle.ped_rules.specs.ped_eval.specs.Loops.{Limits, entered_with, frame, inner_variables}
use Rattle.ped_rules.specs.ped_eval.specs.Outcomes.{setting_of}
use Rattle.ped_rules.specs.ped_eval.specs.Scopes.{Frame, Scope, cell_of, turns_of}
use Rattle.ped_rules.specs.ped_store.specs.Acts.{Turn, iterations_of}
use Rattle.ped_rules.specs.ped_store.specs.Cells.{Cell, Iteration, Private}
use Rattle.ped_splits.proofs.RenameFacts.{IsRenaming}
use Rattle.ped_splits.proofs.RenameGaps.{behind_first, loops_of_gap, nest_at, next_gap, next_loop, next_numbered, next_old, own_loop, pair_filled, past_all, same_nest}
use Rattle.ped_splits.proofs.RenameLost.{is_lost, is_loop_of, loses, of_last}
use Rattle.ped_splits.specs.Neighbours.{Neighbour, next_number}

range_append : (n a b : ℕ) → range_with_len n (a + b) ≡ range_with_len n a ++ range_with_len (n + a) b
range_append n zero b = let none : zero + b ≡ b = omega arith in let e : n ≡ n + 0 = omega arith in ap (range_with_len n) none ∙ ap (λ (k : ℕ). range_with_len k b) e
range_append n (suc a) b =
    let more : suc a + b ≡ suc (a + b) = omega arith in
    let from : n + 1 + a ≡ n + suc a = omega arith in
    ap (range_with_len n) more ∙ ap (λ (ks : List ℕ). n ∷ ks) (range_append (n + 1) a b ∙ ap (λ (k : ℕ). range_with_len (n + 1) a ++ range_with_len k b) from)

range_first : (n a : ℕ) → range_with_len n (a + 1) ≡ n ∷ range_with_len (n + 1) a
range_first n a = let e : a + 1 ≡ suc a = omega arith in ap (range_with_len n) e

or_assoc : (a b c : Bool) → a || (b || c) ≡ (a || b) || c
or_assoc true b c = refl
or_assoc false b c = refl

-- DO loops of a variable by their numbers
module _ (t : ProgramTree) (y : List ℕ) where
  abbrev is_one : ℕ → Bool
  is_one j = is_loop_of y (statement_with j t)

  abbrev some_in : ℕ → ℕ → Bool
  some_in n count = list_any (λ j. is_loop_of y (statement_with j t)) (range_with_len n count)

  some_append : (n a b : ℕ) → some_in n (a + b) ≡ some_in n a || some_in (n + a) b
  some_append n a b = ap (list_any is_one) (range_append n a b) ∙ list_any-append is_one (range_with_len n a) (range_with_len (n + a) b)

  some_first : (n a : ℕ) → some_in n (a + 1) ≡ is_one n || some_in (n + 1) a
  some_first n a = ap (list_any is_one) (range_first n a)

  one_here : (z : StmtTree) (xs : List StmtTree) (n : ℕ) → Stand t n (z ∷ xs) → is_one n ≡ is_loop_of y (Some z)
  one_here z xs n h = ap (is_loop_of y) (is_there t z xs n h)

  no_more : (b : Bool) → b || false ≡ b
  no_more true = refl
  no_more false = refl

  mutual
    variable_by : (z : StmtTree) (n : ℕ) → Stand t n (numbered z) → some_in n (statement_count z) ≡ is_among y (loop_variables z)
    variable_by (Assign left right) n h = ap (λ (b : Bool). b || false) (one_here (Assign left right) [] n h)
    variable_by (If c a b) n h =
        let it = If c a b in
        let inside = inner_stands t it (all_numbered a ++ all_numbered b) n h in
        some_first n (statements_count a + statements_count b)
        ∙ (λ i. one_here it (all_numbered a ++ all_numbered b) n h i || some_append (n + 1) (statements_count a) (statements_count b) i)
        ∙ (λ i. variables_by a (n + 1) (first_stands t (n + 1) (all_numbered a) (all_numbered b) inside) i || variables_by b (n + 1 + statements_count a) (else_stands t a b (n + 1) inside) i)
        ∙ sym (among_append y (all_loop_variables a) (all_loop_variables b))
    variable_by (Do g b) n h =
        some_first n (statements_count b)
        ∙ (λ i. one_here (Do g b) (all_numbered b) n h i || variables_by b (n + 1) (inner_stands t (Do g b) (all_numbered b) n h) i)
    variable_by (Print items) n h = ap (λ (b : Bool). b || false) (one_here (Print items) [] n h)
    variable_by (Read items) n h = ap (λ (b : Bool). b || false) (one_here (Read items) [] n h)
    variable_by Stop n h = ap (λ (b : Bool). b || false) (one_here Stop [] n h)
    variable_by (Comment text) n h = refl

    pub variables_by : (zs : StmtTrees) (n : ℕ) → Stand t n (all_numbered zs) → list_any (λ j. is_loop_of y (statement_with j t)) (range_with_len n (statements_count zs)) ≡ is_among y (all_loop_variables zs)
    variables_by no_stmts n h = refl
    variables_by (more_stmts z rest) n h =
        some_append n (statement_count z) (statements_count rest)
        ∙ (λ i. variable_by z n (first_stands t n (numbered z) (all_numbered rest) h) i || variables_by rest (n + statement_count z) (rest_stands t z rest n h) i)
        ∙ sym (among_append y (loop_variables z) (all_loop_variables rest))

  -- and those but one
  module _ (m : ℕ) where
    abbrev is_other : ℕ → Bool
    is_other j = is_loop_of y (statement_with j t) && not (j == m)

    abbrev others_in : ℕ → ℕ → Bool
    others_in n count = list_any (λ j. is_loop_of y (statement_with j t) && not (j == m)) (range_with_len n count)

    others_append : (n a b : ℕ) → others_in n (a + b) ≡ others_in n a || others_in (n + a) b
    others_append n a b = ap (list_any is_other) (range_append n a b) ∙ list_any-append is_other (range_with_len n a) (range_with_len (n + a) b)

    not_it : (j : ℕ) → (j ≡ m → ⊥) → is_other j ≡ is_one j
    not_it j h = go (j == m) refl
      where
        and_true : (a : Bool) → a && true ≡ a
        and_true true = refl
        and_true false = refl

        go : (b : Bool) → (j == m) ≡ b → is_other j ≡ is_one j
        go true e = absurd (h (eqb-true j m e))
        go false e = ap (λ (b : Bool). is_one j && not b) e ∙ and_true (is_one j)

    all_others : (n count : ℕ) → (m < n) ⊎ (n + count ≤ m) → others_in n count ≡ some_in n count
    all_others n zero h = refl
    all_others n (suc count) h = λ i. not_it n (apart h) i || all_others (n + 1) count (later h) i
      where
        apart : (m < n) ⊎ (n + suc count ≤ m) → n ≡ m → ⊥
        apart (inl less) e = omega (arith, less, e)
        apart (inr more) e = omega (arith, more, e)

        later : (m < n) ⊎ (n + suc count ≤ m) → (m < n + 1) ⊎ (n + 1 + count ≤ m)
        later (inl less) = inl (omega (arith, less))
        later (inr more) = inr (omega (arith, more))

    -- the one, where its body has none of the variable's, gives way
    module _ (d : Head) (body : StmtTrees) (new : StmtTree) (same : is_among y (loop_variables new) ≡ is_among y (all_loop_variables body)) where
      abbrev it : StmtTrees
      it = alone (Do d body)

      itself : (n : ℕ) → n ≡ m → is_other n ≡ false
      itself n e = ap (λ (b : Bool). is_one n && not b) (subst (λ (k : ℕ). (n == k) ≡ true) e (same_number n)) ∙ never (is_one n)
        where
          same_number : (k : ℕ) → (k == k) ≡ true
          same_number k = grind arith

          never : (a : Bool) → a && false ≡ false
          never true = refl
          never false = refl

      first_other : (n a : ℕ) → others_in n (a + 1) ≡ is_other n || others_in (n + 1) a
      first_other n a = ap (list_any is_other) (range_first n a)

      no_loop : (n : ℕ) (z : StmtTree) (xs : List StmtTree) → is_loop_of y (Some z) ≡ false → Stand t n (z ∷ xs) → is_other n ≡ false
      no_loop n z xs none h = ap (λ (b : Bool). b && not (n == m)) (one_here z xs n h ∙ none)

      pub others_filled : (gap : Gap) (n : ℕ) → number_at gap n ≡ m → Stand t n (all_numbered (filled gap (alone (Do d body)))) → list_any (λ j. is_loop_of y (statement_with j t) && not (j == m)) (range_with_len n (statements_count (filled gap (alone (Do d body))))) ≡ is_among y (all_loop_variables (filled gap (alone new)))
      others_filled (at_front rest) n e h =
          others_append n (statements_count body + 1) (statements_count rest)
          ∙ (λ i. (ap (list_any is_other) (range_first n (statements_count body)) ∙ (λ z. itself n e z || all_others (n + 1) (statements_count body) (inl (omega (arith, e))) z)) i || all_others (n + (statements_count body + 1)) (statements_count rest) (inl (omega (arith, e))) i)
          ∙ (λ i. (variables_by body (n + 1) (inner_stands t (Do d body) (all_numbered body) n (first_stands t n (numbered (Do d body)) (all_numbered rest) h)) ∙ sym same) i || variables_by rest (n + (statements_count body + 1)) (rest_stands t (Do d body) rest n h) i)
          ∙ sym (among_append y (loop_variables new) (all_loop_variables rest))
      others_filled (past z gap) n e h =
          let from = number_from gap (n + statement_count z) in
          others_append n (statement_count z) (statements_count (filled gap it))
          ∙ (λ i. (all_others n (statement_count z) (inr (omega (arith, from, e))) ∙ variable_by z n (first_stands t n (numbered z) (all_numbered (filled gap it)) h)) i
          || others_filled gap (n + statement_count z) e (rest_stands t z (filled gap it) n h) i)
          ∙ sym (among_append y (loop_variables z) (all_loop_variables (filled gap (alone new))))
      others_filled (in_then c gap other rest) n e h =
          let a = filled gap it in
          let z = If c a other in
          let room = number_room gap it (n + 1) in
          let here = first_stands t n (numbered z) (all_numbered rest) h in
          let inside = inner_stands t z (all_numbered a ++ all_numbered other) n here in
          others_append n (statements_count a + statements_count other + 1) (statements_count rest)
          ∙ (λ i. (first_other n (statements_count a + statements_count other) ∙ (λ k. no_loop n z (all_numbered a ++ all_numbered other) refl here k || others_append (n + 1) (statements_count a) (statements_count other) k)) i
          || all_others (n + (statements_count a + statements_count other + 1)) (statements_count rest) (inl (omega (arith, room, e))) i)
          ∙ (λ i. (others_filled gap (n + 1) e (first_stands t (n + 1) (all_numbered a) (all_numbered other) inside) i || (all_others (n + 1 + statements_count a) (statements_count other) (inl (omega (arith, room, e))) ∙ variables_by other (n + 1 + statements_count a) (else_stands t a other (n + 1) inside)) i)
          || variables_by rest (n + (statements_count a + statements_count other + 1)) (rest_stands t z rest n h) i)
          ∙ (λ i. sym (among_append y (all_loop_variables (filled gap (alone new))) (all_loop_variables other)) i || is_among y (all_loop_variables rest))
          ∙ sym (among_append y (all_loop_variables (filled gap (alone new)) ++ all_loop_variables other) (all_loop_variables rest))
      others_filled (in_else c other gap rest) n e h =
          let a = filled gap it in
          let z = If c other a in
          let from = number_from gap (n + 1 + statements_count other) in
          let room = number_room gap it (n + 1 + statements_count other) in
          let here = first_stands t n (numbered z) (all_numbered rest) h in
          let inside = inner_stands t z (all_numbered other ++ all_numbered a) n here in
          others_append n (statements_count other + statements_count a + 1) (statements_count rest)
          ∙ (λ i. (first_other n (statements_count other + statements_count a) ∙ (λ k. no_loop n z (all_numbered other ++ all_numbered a) refl here k || others_append (n + 1) (statements_count other) (statements_count a) k)) i
          || all_others (n + (statements_count other + statements_count a + 1)) (statements_count rest) (inl (omega (arith, room, e))) i)
          ∙ (λ i. ((all_others (n + 1) (statements_count other) (inr (omega (arith, from, e))) ∙ variables_by other (n + 1) (first_stands t (n + 1) (all_numbered other) (all_numbered a) inside)) i || others_filled gap (n + 1 + statements_count other) e (else_stands t other a (n + 1) inside) i)
          || variables_by rest (n + (statements_count other + statements_count a + 1)) (rest_stands t z rest n h) i)
          ∙ (λ i. sym (among_append y (all_loop_variables other) (all_loop_variables (filled gap (alone new)))) i || is_among y (all_loop_variables rest))
          ∙ sym (among_append y (all_loop_variables other ++ all_loop_variables (filled gap (alone new))) (all_loop_variables rest))
      others_filled (in_body g gap rest) n e h =
          let a = filled gap it in
          let from = number_from gap (n + 1) in
          let room = number_room gap it (n + 1) in
          let here = first_stands t n (numbered (Do g a)) (all_numbered rest) h in
          others_append n (statements_count a + 1) (statements_count rest)
          ∙ (λ i. (first_other n (statements_count a) ∙ (λ k. (not_it n (λ q. omega (arith, q, from, e)) ∙ one_here (Do g a) (all_numbered a) n here) k || others_filled gap (n + 1) e (inner_stands t (Do g a) (all_numbered a) n here) k)) i
          || all_others (n + (statements_count a + 1)) (statements_count rest) (inl (omega (arith, room, e))) i)
          ∙ (λ i. (is_same_text y g.variable || is_among y (all_loop_variables (filled gap (alone new)))) || variables_by rest (n + (statements_count a + 1)) (rest_stands t (Do g a) rest n h) i)
          ∙ sym (among_append y (g.variable ∷ all_loop_variables (filled gap (alone new))) (all_loop_variables rest))

-- the innermost iteration
pub last_of : (test : ℕ → Bool) (is : List Iteration) (i : Iteration) → of_last test (is ++ i ∷ []) ≡ test i.statement
last_of test [] i = refl
last_of test (j ∷ []) i = refl
last_of test (j ∷ (k ∷ is)) i = last_of test (k ∷ is) i

pub iterations_more : (ts : List Turn) (i : Turn) → iterations_of (ts ++ i ∷ []) ≡ iterations_of ts ++ record { statement = i.statement; number = i.number } ∷ []
iterations_more [] i = refl
iterations_more (t ∷ ts) i = ap (λ (is : List Iteration). record { statement = t.statement; number = t.number } ∷ is) (iterations_more ts i)

module _ (t : ProgramTree) (s : ℕ) (x : Neighbour t s) (r : IsRenaming t s x) where
  abbrev m : ℕ
  m = next_number x

  abbrev I : List ℕ
  I = x.own.variable

  abbrev J : List ℕ
  J = x.next.variable

  abbrev new_loop : StmtTree
  new_loop = Do (record x.next { variable = x.own.variable }) (statements_substituted x.next.variable (Var x.own.variable) x.next_body)

  abbrev names : List (List ℕ)
  names = x.own.variable ∷ (x.next.variable ∷ [])

  abbrev apart : Cell → Bool
  apart = is_lost t x.next.variable (next_number x)

  -- the new one has no DO of the variable but those in the body
  new_has : is_among J (loop_variables new_loop) ≡ is_among J (all_loop_variables x.next_body)
  new_has = (λ i. apart_names i || is_among J (indices_kept J (Var I) x.next_body i))
    where
      apart_names : is_same_text J I ≡ false
      apart_names = go (is_same_text J I) refl
        where
          go : (b : Bool) → is_same_text J I ≡ b → b ≡ false
          go true e = absurd (both_ways (is_same_text I J) r.differ (ap (λ (w : List ℕ). is_same_text w J) (sym (same_is J I e)) ∙ same_itself J))
          go false e = refl

  abbrev alone_next : StmtTrees
  alone_next = alone (Do x.next x.next_body)

  abbrev new : StmtTrees
  new = alone (Do (record x.next { variable = x.own.variable }) (statements_substituted x.next.variable (Var x.own.variable) x.next_body))

  -- what fills a gap is among the statements there
  has_filled : (w : List ℕ) (ts : StmtTrees) → is_among w (all_loop_variables ts) ≡ true → (gap : Gap) → is_among w (all_loop_variables (filled gap ts)) ≡ true
  has_filled w ts h (at_front rest) = front ts h
    where
      front : (zs : StmtTrees) → is_among w (all_loop_variables zs) ≡ true → is_among w (all_loop_variables (followed zs rest)) ≡ true
      front no_stmts k = absurd cc
      front (more_stmts z zs) k =
          among_append w (loop_variables z) (all_loop_variables (followed zs rest))
          ∙ by (is_among w (loop_variables z)) (sym (among_append w (loop_variables z) (all_loop_variables zs)) ∙ k) (front zs)
        where
          by : (b : Bool) → b || is_among w (all_loop_variables zs) ≡ true → (is_among w (all_loop_variables zs) ≡ true → is_among w (all_loop_variables (followed zs rest)) ≡ true) → b || is_among w (all_loop_variables (followed zs rest)) ≡ true
          by true k more = refl
          by false k more = more k
  has_filled w ts h (past z gap) = among_append w (loop_variables z) (all_loop_variables (filled gap ts)) ∙ or_right (is_among w (loop_variables z)) (is_among w (all_loop_variables (filled gap ts))) (has_filled w ts h gap)
  has_filled w ts h (in_then c gap other rest) =
      among_append w (all_loop_variables (filled gap ts) ++ all_loop_variables other) (all_loop_variables rest)
      ∙ or_left (is_among w (all_loop_variables (filled gap ts) ++ all_loop_variables other)) (is_among w (all_loop_variables rest))
      (among_append w (all_loop_variables (filled gap ts)) (all_loop_variables other) ∙ or_left (is_among w (all_loop_variables (filled gap ts))) (is_among w (all_loop_variables other)) (has_filled w ts h gap))
  has_filled w ts h (in_else c other gap rest) =
      among_append w (all_loop_variables other ++ all_loop_variables (filled gap ts)) (all_loop_variables rest)
      ∙ or_left (is_among w (all_loop_variables other ++ all_loop_variables (filled gap ts))) (is_among w (all_loop_variables rest))
      (among_append w (all_loop_variables other) (all_loop_variables (filled gap ts)) ∙ or_right (is_among w (all_loop_variables other)) (is_among w (all_loop_variables (filled gap ts))) (has_filled w ts h gap))
  has_filled w ts h (in_body g gap rest) =
      among_append w (g.variable ∷ all_loop_variables (filled gap ts)) (all_loop_variables rest)
      ∙ or_left (is_among w (g.variable ∷ all_loop_variables (filled gap ts))) (is_among w (all_loop_variables rest)) (or_right (is_same_text w g.variable) (is_among w (all_loop_variables (filled gap ts))) (has_filled w ts h gap))

  J_there : (gap : Gap) → is_among J (all_loop_variables (filled gap alone_next)) ≡ true
  J_there gap = has_filled J alone_next (or_left (is_same_text J J) _ (same_itself J)) gap

  abbrev first : StmtTree
  first = Do x.own x.own_body

  I_there : (gap : Gap) (ts : StmtTrees) → is_among I (all_loop_variables (filled (behind_first gap (Do x.own x.own_body) x.between) ts)) ≡ true
  I_there gap ts =
      ap (λ (zs : StmtTrees). is_among I (all_loop_variables zs)) (pair_filled first x.between gap ts)
      ∙ has_filled I (more_stmts first (followed x.between ts)) (or_left (is_same_text I I) _ (same_itself I)) gap

  module _ (n : ℕ) (h : Head) (gap : Gap) (parallel : h.parallel ≡ true) (at : number_at gap (n + 1) ≡ m) (stand : Stand t n (Do h (filled gap alone_next) ∷ all_numbered (filled gap alone_next))) (own_there : (ts : StmtTrees) → is_among I (all_loop_variables (filled gap ts)) ≡ true) (not_own : is_same_text I h.variable ≡ false) (not_next : is_same_text J h.variable ≡ false) where
    abbrev b : StmtTrees
    b = filled gap alone_next

    there : statement_with n t ≡ Some (Do h (filled gap alone_next))
    there = is_there t (Do h b) (all_numbered b) n stand

    remains : is_among J (all_loop_variables (filled gap new)) ≡ list_any (λ j. is_loop_of J (statement_with j t) && not (j == m)) (range_with_len (n + 1) (statements_count b))
    remains = sym (others_filled t J m x.next x.next_body new_loop new_has gap (n + 1) at (inner_stands t (Do h b) (all_numbered b) n stand))

    round_it : nat_lt n m && nat_le m (n + statements_count b) ≡ true
    round_it =
        let from = number_from gap (n + 1) in
        let room = number_room gap alone_next (n + 1) in
        λ i. lt-ltb n m (omega (arith, from, at)) i && le-leb m (n + statements_count b) (omega (arith, room, at)) i

    loses_is : loses t J m n (statement_with n t) ≡ not (is_among J (all_loop_variables (filled gap new)))
    loses_is = ap (loses t J m n) there ∙ (λ i. parallel i && round_it i && not (sym remains i))

    -- the copies of an iteration
    copied : (S : Scope) (seen : List Seen) (l : Limits) (k : ℕ) → apart (cell_of (frame (entered_with (setting_of t) n h (filled gap alone_next) seen l) k ∷ S) J) ≡ not (is_among J (all_loop_variables (filled gap new)))
    copied S seen l k =
        ap apart private_is
        ∙ (λ i. same_itself J i && of_last (λ j. loses t J m j (statement_with j t)) (iterations_more (turns_of S) f.turn i))
        ∙ last_of (λ j. loses t J m j (statement_with j t)) (iterations_of (turns_of S)) (record { statement = n; number = k })
        ∙ loses_is
      where
        f : Frame
        f = frame (entered_with (setting_of t) n h (filled gap alone_next) seen l) k

        among : is_among J f.private ≡ true
        among =
            ap (λ (c : Bool). is_among J (if c then h.variable ∷ (h.private ++ inner_variables c b) else h.private)) parallel
            ∙ or_right (is_same_text J h.variable) (is_among J (h.private ++ inner_variables true b))
            (among_append J h.private (inner_variables true b) ∙ or_right (is_among J h.private) (is_among J (inner_variables true b)) (once_among J (all_loop_variables b) ∙ J_there gap))

        private_is : cell_of (f ∷ S) J ≡ Private J (iterations_of (turns_of (f ∷ S)))
        private_is = ap (λ (c : Bool). if c then Private J (iterations_of (turns_of (f ∷ S))) else cell_of S J) among

    unlisted : (w : List ℕ) → is_among w (all_loop_variables b) ≡ true → is_among w h.private ≡ false
    unlisted w i =
        let part = part_at t r.valid n (Do h b) there in
        let none = indices_unprivate part.around h b w part.fits (or_right (is_same_text w h.variable) (is_among w (all_loop_variables b)) i) in
        (or_parts (is_among w h.private) (is_among w part.around.private) (sym (among_append w h.private part.around.private) ∙ none)).0

    turned : (w : List ℕ) → is_same_text w h.variable ≡ false → is_same_text h.variable w ≡ false
    turned w none = go (is_same_text h.variable w) refl
      where
        go : (c : Bool) → is_same_text h.variable w ≡ c → c ≡ false
        go true e = absurd (both_ways (is_same_text w h.variable) none (ap (λ (z : List ℕ). is_same_text z h.variable) (sym (same_is h.variable w e)) ∙ same_itself h.variable))
        go false e = refl

    names_only : (w : List ℕ) → is_among w names ≡ true → (w ≡ I) ⊎ (w ≡ J)
    names_only w i = go (is_same_text w I) refl (is_same_text w J) refl i
      where
        go : (c : Bool) → is_same_text w I ≡ c → (e : Bool) → is_same_text w J ≡ e → c || (e || false) ≡ true → (w ≡ I) ⊎ (w ≡ J)
        go true q e k j = inl (same_is w I q)
        go false q true k j = inr (same_is w J k)
        go false q false k j = absurd cc

    other_copies : HasOtherCopies names apart (setting_of t) alone_next new n h gap
    other_copies = record {
      variable = λ i. turned I not_own i || (turned J not_next i || false);
      private = λ w i. not_named w i (is_among w names) refl;
      copies = λ w i. elim (names_only w i) [
        | inl own ↦ inl (ap (λ (z : List ℕ). is_among z (all_loop_variables (filled gap new))) own ∙ own_there new ∙ sym (ap (λ (z : List ℕ). is_among z (all_loop_variables b)) own ∙ own_there alone_next))
        | inr next ↦ by_name w next (is_among J (all_loop_variables (filled gap new))) refl
      ];
      went = λ w i there stands. elim (names_only w i) [
        | inl own ↦ absurd (both_ways (apart (cell_of (frame (entered_with (setting_of t) n h b [] some_limits) 1 ∷ []) I)) (first_stays (frame (entered_with (setting_of t) n h b [] some_limits) 1 ∷ [])) (ap (λ (z : List ℕ). apart (cell_of (frame (entered_with (setting_of t) n h b [] some_limits) 1 ∷ []) z)) (sym own) ∙ stands [] [] some_limits 1))
        | inr next ↦ ap (λ (z : List ℕ). is_among z (all_loop_variables (filled gap new))) next ∙ not_true (is_among J (all_loop_variables (filled gap new))) (sym (copied [] [] some_limits 1) ∙ ap (λ (z : List ℕ). apart (cell_of (frame (entered_with (setting_of t) n h b [] some_limits) 1 ∷ []) z)) (sym next) ∙ stands [] [] some_limits 1)
      ];
    }
      where
        some_limits : Limits
        some_limits = record { first = pos 1; last = pos 1 }

        not_true : (c : Bool) → not c ≡ true → c ≡ false
        not_true true k = absurd cc
        not_true false k = refl

        first_stays : (S : Scope) → apart (cell_of S I) ≡ false
        first_stays [] = refl
        first_stays (f ∷ S) = go (is_among I f.private) (first_stays S)
          where
            other_text : is_same_text J I ≡ false
            other_text = go_text (is_same_text J I) refl
              where
                go_text : (c : Bool) → is_same_text J I ≡ c → c ≡ false
                go_text true e = absurd (both_ways (is_same_text I J) r.differ (ap (λ (z : List ℕ). is_same_text z J) (sym (same_is J I e)) ∙ same_itself J))
                go_text false e = refl

            go : (c : Bool) → apart (cell_of S I) ≡ false → apart (if c then Private I (iterations_of (turns_of (f ∷ S))) else cell_of S I) ≡ false
            go true more = ap (λ (c : Bool). c && of_last (λ j. loses t J m j (statement_with j t)) (iterations_of (turns_of (f ∷ S)))) other_text
            go false more = more

        not_named : (w : List ℕ) → is_among w h.private ≡ true → (c : Bool) → is_among w names ≡ c → is_among w names ≡ false
        not_named w i true e = elim (names_only w e) [
          | inl own ↦ absurd (both_ways (is_among I h.private) (unlisted I (own_there alone_next)) (ap (λ (z : List ℕ). is_among z h.private) (sym own) ∙ i))
          | inr next ↦ absurd (both_ways (is_among J h.private) (unlisted J (J_there gap)) (ap (λ (z : List ℕ). is_among z h.private) (sym next) ∙ i))
        ]
        not_named w i false e = e

        by_name : (w : List ℕ) → w ≡ J → (c : Bool) → is_among J (all_loop_variables (filled gap new)) ≡ c
            → (is_among w (all_loop_variables (filled gap new)) ≡ is_among w (all_loop_variables b)) ⊎ ((S : Scope) (seen : List Seen) (l : Limits) (k : ℕ) → apart (cell_of (frame (entered_with (setting_of t) n h b seen l) k ∷ S) w) ≡ true)
        by_name w is true e = inl (ap (λ (z : List ℕ). is_among z (all_loop_variables (filled gap new))) is ∙ e ∙ sym (ap (λ (z : List ℕ). is_among z (all_loop_variables b)) is ∙ J_there gap))
        by_name w is false e = inr (λ S seen l k. ap (λ (z : List ℕ). apart (cell_of (frame (entered_with (setting_of t) n h b seen l) k ∷ S) z)) is ∙ copied S seen l k ∙ ap not e)

  -- along the way down to the two
  past_round : (between : StmtTrees) (rest : StmtTrees) (n : ℕ) → OfParallelRound (HasOtherCopies names apart (setting_of t) alone_next new) (past_all between (at_front rest)) n
  past_round no_stmts rest n = tt
  past_round (more_stmts z zs) rest n = past_round zs rest (n + statement_count z)

  round_gap : (gap : Gap) (n : ℕ) → number_at (behind_first gap first x.between) n ≡ m → Stand t n (all_numbered (filled (behind_first gap first x.between) alone_next)) → is_among I (indices_of (loops_of_gap gap n)) ≡ false → is_among J (indices_of (loops_of_gap gap n)) ≡ false
      → OfParallelRound (HasOtherCopies names apart (setting_of t) alone_next new) (behind_first gap first x.between) n
  round_gap (at_front rest) n e h i j = past_round x.between rest (n + statement_count first)
  round_gap (past z gap) n e h i j = round_gap gap (n + statement_count z) e (rest_stands t z (filled (behind_first gap first x.between) alone_next) n h) i j
  round_gap (in_then c gap other rest) n e h i j =
      let a = filled (behind_first gap first x.between) alone_next in
      round_gap gap (n + 1) e (first_stands t (n + 1) (all_numbered a) (all_numbered other) (inner_stands t (If c a other) (all_numbered a ++ all_numbered other) n (first_stands t n (numbered (If c a other)) (all_numbered rest) h))) i j
  round_gap (in_else c other gap rest) n e h i j =
      let a = filled (behind_first gap first x.between) alone_next in
      round_gap gap (n + 1 + statements_count other) e (else_stands t other a (n + 1) (inner_stands t (If c other a) (all_numbered other ++ all_numbered a) n (first_stands t n (numbered (If c other a)) (all_numbered rest) h))) i j
  round_gap (in_body g gap rest) n e h i j =
      let inner = behind_first gap first x.between in
      let a = filled inner alone_next in
      let here = first_stands t n (numbered (Do g a)) (all_numbered rest) h in
      let own = or_parts (is_same_text I g.variable) (is_among I (indices_of (loops_of_gap gap (n + 1)))) i in
      let next = or_parts (is_same_text J g.variable) (is_among J (indices_of (loops_of_gap gap (n + 1)))) j in
      ((λ parallel. other_copies n g inner parallel e here (I_there gap) own.0 next.0), round_gap gap (n + 1) e (inner_stands t (Do g a) (all_numbered a) n here) own.1 next.1)

  nest_is : nest_round t s ≡ loops_of_gap x.gap 1
  nest_is = ap (λ (ts : StmtTrees). all_loops_round s ts 1) x.stands ∙ nest_at s (more_stmts first (followed x.between alone_next)) (omega arith) x.gap 1 x.numbered

  pub round_renamed : OfParallelRound (HasOtherCopies (x.own.variable ∷ (x.next.variable ∷ [])) (is_lost t x.next.variable (next_number x)) (setting_of t) (alone (Do x.next x.next_body)) (alone new_loop)) (next_gap x) 1
  round_renamed =
      round_gap x.gap 1 (next_numbered x) (subst (λ (ts : StmtTrees). Stand t 1 (all_numbered ts)) (next_old x) (whole_stands t))
      (ap (λ (ls : List Loop). is_among I (indices_of ls)) (sym nest_is) ∙ variable_apart t r.valid s (own_loop x))
      (ap (λ (ls : List Loop). is_among J (indices_of ls)) (sym nest_is ∙ sym (same_nest x)) ∙ variable_apart t r.valid m (next_loop x))
