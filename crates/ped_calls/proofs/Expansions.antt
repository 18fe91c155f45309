-- Expanding: no statement is lost, and what doesn't fit in a part doesn't fit in the whole.
use Rattle.std.proofs.Common.{◌≡◌, ◌≤◌, ◌+◌, ◌⊎◌, ℕ, zero, suc, List, [], ◌∷◌, Bool, true, false, Option, Some, None, refl, arith, inl, inr}
use Rattle.std.specs.Prelude.{◌&&◌, nat_lt}
use Rattle.std.proofs.lemmas.Bool.Decides.{nat_tests}
use Rattle.ped_tree.specs.Tree.{ExprTree, CondTree, Head, StmtTree, StmtTrees, Assign, If, Do, Print, Read, Stop, Comment, no_stmts, more_stmts}
use Rattle.ped_tree.specs.Numbering.{statement_count, statements_count}
use Rattle.ped_tree.specs.Grammar.Fits.{moved, in_if, in_loop, is_within, loop_fits, cond_fits, stmt_fits, stmts_fit}
use Rattle.ped_tree.specs.Grammar.LimitNumbers.{most_blocks_nested}
use Rattle.ped_links.specs.ped_symbols.specs.Values.{Values}
use Rattle.ped_links.specs.ped_units.specs.Forms.{Called}
use Rattle.ped_links.specs.ped_units.specs.Units.{ProgramUnit, ProgramUnits, unit_of, call_of}
use Rattle.ped_links.specs.ped_units.specs.Expanding.{Given, Meanings, Expanded, call_comment, block_of, behind_stmts, replaced, expanded_or, expanded_in, all_expanded_in, call_expanded, unit_expanded}
use Rattle.ped_calls.specs.Courses.{IsTooDeep, AreTooDeep}

-- what a CALL is expanded to counts as one statement at least
abbrev pub Counts : {S : Type 0} → (Called → S → Expanded S) → Type 0
Counts {S} f = (c : Called) (state : S) → 1 ≤ statement_count (f c state).statement

assignment_grows : {S : Type 0} (m : Meanings) (f : Called → S → Expanded S) → Counts f → (left right : ExprTree) (state : S) (o : Option Called)
    → 1 ≤ statement_count (expanded_or m f (Assign left right) state o).statement
assignment_grows m f h left right state None = omega arith
assignment_grows m f h left right state (Some c) = h _ state

mutual
  -- no statement is lost
  pub grows : {S : Type 0} (m : Meanings) (f : Called → S → Expanded S) → Counts f → (s : StmtTree) (state : S) → statement_count s ≤ statement_count (expanded_in m f s state).statement
  grows m f h (Assign left right) state = assignment_grows m f h (replaced m left) (replaced m right) state (call_of left right)
  grows m f h (If condition then_part else_part) state =
      let t = all_grow m f h then_part state in
      let e = all_grow m f h else_part (all_expanded_in m f then_part state).state in
      omega (arith, t, e)
  grows m f h (Do head body) state = let b = all_grow m f h body state in omega (arith, b)
  grows m f h (Print items) state = omega arith
  grows m f h (Read items) state = omega arith
  grows m f h Stop state = omega arith
  grows m f h (Comment text) state = omega arith

  pub all_grow : {S : Type 0} (m : Meanings) (f : Called → S → Expanded S) → Counts f → (ss : StmtTrees) (state : S) → statements_count ss ≤ statements_count (all_expanded_in m f ss state).statements
  all_grow m f h no_stmts state = omega arith
  all_grow m f h (more_stmts s rest) state =
      let one = grows m f h s state in
      let others = all_grow m f h rest (expanded_in m f s state).state in
      omega (arith, one, others)

block_counts : (c : Called) (assignments : List StmtTree) (body : StmtTrees) → 1 ≤ statement_count (block_of c assignments body)
block_counts c assignments body = omega arith

unit_counts : (inner : Called → Given → Expanded Given) (constants : Values) (c : Called) (g : Given) (o : Option ProgramUnit) → 1 ≤ statement_count (unit_expanded inner constants c g o).statement
unit_counts inner constants c g None = block_counts c [] no_stmts
unit_counts inner constants c g (Some v) = omega arith

-- a CALL is expanded to a block
pub call_counts : (depth : ℕ) (us : ProgramUnits) (constants : Values) → Counts (call_expanded depth us constants)
call_counts zero us constants c g = block_counts c [] no_stmts
call_counts (suc depth) us constants c g = unit_counts (call_expanded depth us []) constants c g (unit_of us c.name)

first_false : (a b : Bool) → a ≡ false → (a && b) ≡ false
first_false true b h = absurd cc
first_false false b h = refl

last_false : (a b : Bool) → b ≡ false → (a && b) ≡ false
last_false true b h = h
last_false false b h = refl

-- behind other statements
pub deep_behind : (depth : ℕ) (front : List StmtTree) (ss : StmtTrees) → AreTooDeep depth ss → AreTooDeep depth (behind_stmts front ss)
deep_behind depth [] ss h p le = h p le
deep_behind depth (s ∷ front) ss h p le = last_false (stmt_fits p s) _ (deep_behind depth front ss h (moved p (statement_count s)) le)

-- before other statements
pub deep_before : (depth : ℕ) (s : StmtTree) (rest : StmtTrees) → IsTooDeep depth s → AreTooDeep depth (more_stmts s rest)
deep_before depth s rest h p le = first_false (stmt_fits p s) _ (h p le)

if_then_false : (a b c d e : Bool) → d ≡ false → (a && b && c && d && e) ≡ false
if_then_false true true true true e h = absurd cc
if_then_false true true true false e h = refl
if_then_false true true false d e h = refl
if_then_false true false c d e h = refl
if_then_false false b c d e h = refl

if_else_false : (a b c d e : Bool) → e ≡ false → (a && b && c && d && e) ≡ false
if_else_false true true true true e h = h
if_else_false true true true false e h = refl
if_else_false true true false d e h = refl
if_else_false true false c d e h = refl
if_else_false false b c d e h = refl

if_depth_false : (a b c d e : Bool) → b ≡ false → (a && b && c && d && e) ≡ false
if_depth_false true true c d e h = absurd cc
if_depth_false true false c d e h = refl
if_depth_false false b c d e h = refl

-- in the THEN part of an IF
pub deep_then : (depth : ℕ) (c : CondTree) (t e : StmtTrees) → AreTooDeep depth t → IsTooDeep depth (If c t e)
deep_then depth c t e h p le =
    if_then_false (is_within p (If c t e)) (nat_lt p.depth most_blocks_nested) (cond_fits c) (stmts_fit (in_if p 1) t) (stmts_fit (in_if p (1 + statements_count t)) e)
    (h (in_if p 1) (omega arith))

-- in the ELSE part of an IF
pub deep_else : (depth : ℕ) (c : CondTree) (t e : StmtTrees) → AreTooDeep depth e → IsTooDeep depth (If c t e)
deep_else depth c t e h p le =
    if_else_false (is_within p (If c t e)) (nat_lt p.depth most_blocks_nested) (cond_fits c) (stmts_fit (in_if p 1) t) (stmts_fit (in_if p (1 + statements_count t)) e)
    (h (in_if p (1 + statements_count t)) (omega arith))

-- in a loop
pub deep_loop : (depth : ℕ) (head : Head) (body : StmtTrees) → AreTooDeep depth body → IsTooDeep depth (Do head body)
deep_loop depth head body h p le = last_false (loop_fits p head body) _ (h (in_loop p head) (omega arith))

not_below : (n : ℕ) → most_blocks_nested ≤ n → nat_lt n most_blocks_nested ≡ false
not_below n h = grind (arith, nat_tests)

-- the block of a CALL that is too deep itself, or in which something is
pub deep_block : (depth : ℕ) (c : Called) (assignments : List StmtTree) (body : StmtTrees) → (most_blocks_nested ≤ depth) ⊎ AreTooDeep (depth + 1) body → IsTooDeep depth (block_of c assignments body)
deep_block depth c assignments body (inl h) p le =
    let t = more_stmts (call_comment c) (behind_stmts assignments body) in
    if_depth_false (is_within p (block_of c assignments body)) (nat_lt p.depth most_blocks_nested) _ _ _ (not_below p.depth (omega arith))
deep_block depth c assignments body (inr h) p le =
    if_then_false (is_within p (block_of c assignments body)) (nat_lt p.depth most_blocks_nested) _ (stmts_fit (in_if p 1) (more_stmts (call_comment c) (behind_stmts assignments body))) _
    (deep_behind (depth + 1) (call_comment c ∷ assignments) body h (in_if p 1) (omega arith))
