-- Where the DO in the body of another stands, and which variables of DO loops a program has.
use Rattle.std.proofs.Common.{Bool, List, None, Some, [], ap, arith, eqb-true, false, if◌then◌else◌, inl, inr, length, refl, sym, true, ℕ, ◌++◌, ◌+◌, ◌-◌, ◌<◌, ◌==◌, ◌∙◌, ◌∷◌, ◌≡◌, ◌≤◌, ◌⊎◌}
use Rattle.std.proofs.Math.Decide.{dec_lt}
use Rattle.std.proofs.Math.Logic.{dite}
use Rattle.ped_base.specs.Lists.{is_among}
use Rattle.ped_rules.proofs.NestLaws.OnlyBodies.{pair, same_head, same_inside}
use Rattle.ped_rules.specs.OnlyLoops.{only_loop}
use Rattle.ped_loop_runs.specs.ped_flow.proofs.Answering.{at_place-within}
use Rattle.ped_loop_runs.specs.ped_flow.specs.Questions.{LoopOf}
use Rattle.ped_loop_runs.specs.ped_laws.proofs.ConflictLaws.CoveringCarriage.{here}
use Rattle.ped_loop_runs.specs.ped_laws.proofs.PlainLaws.Insides.{all_loop_variables_part}
use Rattle.ped_loop_runs.specs.ped_laws.specs.Plain.Executions.{IsOneOf}
use Rattle.ped_tree.proofs.Numbers.{at_place-back, at_place-front}
use Rattle.ped_tree.specs.NamesIn.{all_loop_variables, loop_variables}
use Rattle.ped_tree.specs.Numbering.{all_numbered, at_place, numbered, statement_with, statements_count}
use Rattle.ped_tree.specs.Tree.{Assign, Comment, Do, Head, If, Print, ProgramTree, Read, StmtTree, StmtTrees, Stop, more_stmts, no_stmts}

next_place : (x : StmtTree) (xs : List StmtTree) (k : ℕ) → at_place (x ∷ xs) (k + 1) ≡ at_place xs k
next_place x xs k = grind (arith, eqb-true)

later_place : (x : StmtTree) (xs : List StmtTree) (i : ℕ) → 0 < i → at_place (x ∷ xs) i ≡ at_place xs (i - 1)
later_place x xs i h = grind (arith, eqb-true, h)

-- what stands in the body of a DO of a list follows it
abbrev Follow : List StmtTree → Type 0
Follow xs = (i j : ℕ) (d : Head) (b : StmtTrees) (f : StmtTree) → at_place xs i ≡ Some (Do d b) → at_place (all_numbered b) j ≡ Some f → at_place xs (i + 1 + j) ≡ Some f

none_follow : Follow []
none_follow i j d b f e g = absurd cc

follow_both : (xs ys : List StmtTree) → Follow xs → Follow ys → Follow (xs ++ ys)
follow_both xs ys p q i j d b f e g = dite (dec_lt i (length xs)) by_first by_second
  where
    by_first : i < length xs → at_place (xs ++ ys) (i + 1 + j) ≡ Some f
    by_first less = at_place-front xs ys (i + 1 + j) f (p i j d b f (sym (at_place-within xs ys i less) ∙ e) g)

    by_second : (i < length xs → ⊥) → at_place (xs ++ ys) (i + 1 + j) ≡ Some f
    by_second more =
        let long : length xs ≤ i = omega (arith, more) in
        at_place-back xs ys (i + 1 + j) (i - length xs + 1 + j) (omega (arith, long)) ∙ q (i - length xs) j d b f (sym (at_place-back xs ys i (i - length xs) (omega (arith, long))) ∙ e) g

follow_one : (x : StmtTree) (xs : List StmtTree) → ((d : Head) (b : StmtTrees) → x ≡ Do d b → (j : ℕ) (f : StmtTree) → at_place (all_numbered b) j ≡ Some f → at_place xs j ≡ Some f) → Follow xs → Follow (x ∷ xs)
follow_one x xs here there i j d b f e g = dite (dec_lt 0 i) by_later by_first
  where
    by_later : 0 < i → at_place (x ∷ xs) (i + 1 + j) ≡ Some f
    by_later more =
        ap (at_place (x ∷ xs)) (let same : i + 1 + j ≡ (i - 1 + 1 + j) + 1 = omega (arith, more) in same)
        ∙ next_place x xs (i - 1 + 1 + j) ∙ there (i - 1) j d b f (sym (later_place x xs i more) ∙ e) g

    by_first : (0 < i → ⊥) → at_place (x ∷ xs) (i + 1 + j) ≡ Some f
    by_first none =
        let zero_is : i ≡ 0 = omega (arith, none) in
        ap (at_place (x ∷ xs)) (let same : i + 1 + j ≡ j + 1 = omega (arith, zero_is) in same) ∙ next_place x xs j
        ∙ here d b (some_same x (Do d b) (sym (at_first x xs i zero_is) ∙ e)) j f g
      where
        at_first : (y : StmtTree) (ys : List StmtTree) (m : ℕ) → m ≡ 0 → at_place (y ∷ ys) m ≡ Some y
        at_first y ys m q = ap (at_place (y ∷ ys)) q

        some_same : (a c : StmtTree) → Some a ≡ Some c → a ≡ c
        some_same a c q = cc

mutual
  follow : (s : StmtTree) → Follow (numbered s)
  follow (Assign left right) = follow_one (Assign left right) [] (λ d b e j f g. absurd cc) none_follow
  follow (If c a b) = follow_one (If c a b) (all_numbered a ++ all_numbered b) (λ d e q j f g. absurd cc) (follow_both (all_numbered a) (all_numbered b) (all_follow a) (all_follow b))
  follow (Do h body) = follow_one (Do h body) (all_numbered body) (λ d b q j f g. ap (λ (z : StmtTrees). at_place (all_numbered z) j) (same_body h d body b q) ∙ g) (all_follow body)
    where
      same_body : (g d : Head) (a b : StmtTrees) → Do g a ≡ Do d b → a ≡ b
      same_body g d a b q = cc
  follow (Print items) = follow_one (Print items) [] (λ d b e j f g. absurd cc) none_follow
  follow (Read items) = follow_one (Read items) [] (λ d b e j f g. absurd cc) none_follow
  follow Stop = follow_one Stop [] (λ d b e j f g. absurd cc) none_follow
  follow (Comment text) = none_follow

  all_follow : (ss : StmtTrees) → Follow (all_numbered ss)
  all_follow no_stmts = none_follow
  all_follow (more_stmts s rest) = follow_both (numbered s) (all_numbered rest) (follow s) (all_follow rest)

-- the statement behind a DO is the first of its body
pub first_inside : (t : ProgramTree) (l : ℕ) (d : Head) (body : StmtTrees) (f : StmtTree) → statement_with l t ≡ Some (Do d body) → at_place (all_numbered body) 0 ≡ Some f → statement_with (l + 1) t ≡ Some f
first_inside t l d body f e g = by (l == 0) refl e
  where
    by : (b : Bool) → (l == 0) ≡ b → (if b then None else at_place (all_numbered t.body) (l - 1)) ≡ Some (Do d body) → statement_with (l + 1) t ≡ Some f
    by true q h = absurd cc
    by false q h =
        shift ∙ all_follow t.body (l - 1) 0 d body f h g
      where
        some : 0 < l
        some = grind (arith, eqb-true, q)

        shift : statement_with (l + 1) t ≡ at_place (all_numbered t.body) (l - 1 + 1 + 0)
        shift = (let none : (l + 1 == 0) ≡ false = grind (arith, eqb-true) in ap (λ (b : Bool). if b then None else at_place (all_numbered t.body) (l + 1 - 1)) none) ∙ ap (at_place (all_numbered t.body)) (let same : l + 1 - 1 ≡ l - 1 + 1 + 0 = omega (arith, some) in same)

-- the one DO in a body is its first statement
only_first : (ts : StmtTrees) (g : Head) (inside : StmtTrees) → only_loop ts ≡ Some (pair g inside) → at_place (all_numbered ts) 0 ≡ Some (Do g inside)
only_first no_stmts g inside e = absurd cc
only_first (more_stmts (Comment text) rest) g inside e = only_first rest g inside e
only_first (more_stmts (Do h body) rest) g inside e = by (statements_count rest == 0) e
  where
    heads : Some (pair h body) ≡ Some (pair g inside) → Do h body ≡ Do g inside
    heads q = λ i. Do (same_head h g body inside q i) (same_inside h g body inside q i)

    by : (b : Bool) → (if b then Some (pair h body) else None) ≡ Some (pair g inside) → Some (Do h body) ≡ Some (Do g inside)
    by true q = ap (λ (s : StmtTree). Some s) (heads q)
    by false q = absurd cc
only_first (more_stmts (Assign left right) rest) g inside e = absurd cc
only_first (more_stmts (If c a b) rest) g inside e = absurd cc
only_first (more_stmts (Print items) rest) g inside e = absurd cc
only_first (more_stmts (Read items) rest) g inside e = absurd cc
only_first (more_stmts Stop rest) g inside e = absurd cc

pub inner_there : (t : ProgramTree) (l : ℕ) (d : Head) (body : StmtTrees) (g : Head) (inside : StmtTrees) → statement_with l t ≡ Some (Do d body) → only_loop body ≡ Some (pair g inside) → statement_with (l + 1) t ≡ Some (Do g inside)
inner_there t l d body g inside e only = first_inside t l d body (Do g inside) e (only_first body g inside only)

-- variables of a DO of the program are among all
one_of : (u : StmtTree) (xs : List StmtTree) (i : ℕ) → at_place xs i ≡ Some u → IsOneOf u xs
one_of u [] i e = absurd cc
one_of u (x ∷ xs) i e = go (i == 0) (one_of u xs (i - 1)) e
  where
    go : (b : Bool) → (at_place xs (i - 1) ≡ Some u → IsOneOf u xs) → (if b then Some x else at_place xs (i - 1)) ≡ Some u → (x ≡ u) ⊎ IsOneOf u xs
    go true rest k = inl (let same : x ≡ u = cc in same)
    go false rest k = inr (rest k)

pub loops_of_program : (t : ProgramTree) (l : ℕ) (loop : LoopOf t l) (w : List ℕ) → is_among w (loop_variables (Do loop.head loop.body)) ≡ true → is_among w (all_loop_variables t.body) ≡ true
loops_of_program t l loop w i = all_loop_variables_part w (Do loop.head loop.body) i t.body (by (l == 0) loop.is)
  where
    by : (b : Bool) → (if b then None else at_place (all_numbered t.body) (l - 1)) ≡ Some (Do loop.head loop.body) → IsOneOf (Do loop.head loop.body) (all_numbered t.body)
    by true e = absurd cc
    by false e = one_of (Do loop.head loop.body) (all_numbered t.body) (l - 1) e
