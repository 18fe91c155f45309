-- A program in which one DO has another flag: what `parallel` makes is what versions do, and the other flag takes it back.
use Rattle.std.proofs.Common.{◌≡◌, ℕ, ◌+◌, Bool, true, false, ◌==◌, Some, refl, sym, ap, ap₂, ◌∙◌, if◌then◌else◌}
use Rattle.ped_tree.specs.Tree.{CondTree, Head, StmtTree, StmtTrees, Assign, If, Do, Print, Read, Stop, Comment, no_stmts, more_stmts, ProgramTree}
use Rattle.ped_tree.specs.Numbering.{statement_count, statements_count}
use Rattle.ped_transformations.specs.ped_flow.specs.Questions.{IsLoop}
use Rattle.ped_transformations.specs.ped_steps.specs.Replacing.{followed, alone, replaced, all_replaced}
use Rattle.ped_transformations.specs.ped_steps.proofs.OnePlace.{one_program}
use Rattle.ped_transformations.specs.ped_rules.specs.OnlyLoops.{on_loop}
use Rattle.ped_transformations.specs.ped_rules.specs.Flags.{with_flag}
use Rattle.ped_transformations.specs.ped_rules.specs.Flags as by_step
use Rattle.ped_versions.specs.Flags.{flag_one, flag_all, flagged}

either_way : {X : Type 0} (b : Bool) (x : X) → (if b then x else x) ≡ x
either_way true x = refl
either_way false x = refl

chosen : (b : Bool) (x y : StmtTree) (zs : StmtTrees) → zs ≡ alone y → (if b then alone x else zs) ≡ alone (if b then x else y)
chosen true x y zs e = refl
chosen false x y zs e = e

either_count : (b : Bool) (x y z : StmtTree) → statement_count x ≡ statement_count z → statement_count y ≡ statement_count z → statement_count (if b then x else y) ≡ statement_count z
either_count true x y z e f = e
either_count false x y z e f = f

module _ (p : Bool) (sought : ℕ) where
  mutual
    one_flagged : (s : StmtTree) (n : ℕ) → replaced (on_loop (with_flag p)) sought s n ≡ alone (flag_one p sought s n)
    one_flagged (Assign left right) n = either_way (n == sought) (alone (Assign left right))
    one_flagged (If c a b) n = chosen (n == sought) (If c a b) _ _ (ap₂ (λ (x y : StmtTrees). alone (If c x y)) (all_flagged a (n + 1)) (all_flagged b (n + 1 + statements_count a)))
    one_flagged (Do h body) n = chosen (n == sought) (Do (record h { parallel = p }) body) _ _ (ap (λ (x : StmtTrees). alone (Do h x)) (all_flagged body (n + 1)))
    one_flagged (Print items) n = either_way (n == sought) (alone (Print items))
    one_flagged (Read items) n = either_way (n == sought) (alone (Read items))
    one_flagged Stop n = either_way (n == sought) (alone Stop)
    one_flagged (Comment text) n = refl

    all_flagged : (ss : StmtTrees) (n : ℕ) → all_replaced (on_loop (with_flag p)) sought ss n ≡ flag_all p sought ss n
    all_flagged no_stmts n = refl
    all_flagged (more_stmts s rest) n = ap₂ followed (one_flagged s n) (all_flagged rest (n + statement_count s))

  -- it has as many statements, and is the same but for flags
  mutual
    count_one : (s : StmtTree) (n : ℕ) → statement_count (flag_one p sought s n) ≡ statement_count s
    count_one (Assign left right) n = refl
    count_one (If c a b) n = either_count (n == sought) (If c a b) (If c (flag_all p sought a (n + 1)) (flag_all p sought b (n + 1 + statements_count a))) (If c a b) refl (λ i. count_all a (n + 1) i + count_all b (n + 1 + statements_count a) i + 1)
    count_one (Do h body) n = either_count (n == sought) (Do (record h { parallel = p }) body) (Do h (flag_all p sought body (n + 1))) (Do h body) refl (λ i. count_all body (n + 1) i + 1)
    count_one (Print items) n = refl
    count_one (Read items) n = refl
    count_one Stop n = refl
    count_one (Comment text) n = refl

    count_all : (ss : StmtTrees) (n : ℕ) → statements_count (flag_all p sought ss n) ≡ statements_count ss
    count_all no_stmts n = refl
    count_all (more_stmts s rest) n = λ i. count_one s n i + count_all rest (n + statement_count s) i

-- the flag of a step is that of versions
pub flagged_by_step : (t : ProgramTree) (s : ℕ) (p : Bool) → by_step.flagged t s p ≡ flagged t s p
flagged_by_step t s p = ap (λ (ss : StmtTrees). record { decls = t.decls; body = ss }) (all_flagged p s t.body 1)

-- the last flag counts
module _ (p q : Bool) (sought : ℕ) where
  last_if : (c : CondTree) (a b x y : StmtTrees) (n : ℕ) (r : Bool) → (n == sought) ≡ r → statements_count x ≡ statements_count a
      → flag_all q sought x (n + 1) ≡ flag_all q sought a (n + 1) → flag_all q sought y (n + 1 + statements_count a) ≡ flag_all q sought b (n + 1 + statements_count a)
      → flag_one q sought (if r then If c a b else If c x y) n ≡ (if r then If c a b else If c (flag_all q sought a (n + 1)) (flag_all q sought b (n + 1 + statements_count a)))
  last_if c a b x y n true e count first second = ap (λ (k : Bool). if k then If c a b else If c (flag_all q sought a (n + 1)) (flag_all q sought b (n + 1 + statements_count a))) e
  last_if c a b x y n false e count first second =
      ap (λ (k : Bool). if k then If c x y else If c (flag_all q sought x (n + 1)) (flag_all q sought y (n + 1 + statements_count x))) e
      ∙ ap (λ (m : ℕ). If c (flag_all q sought x (n + 1)) (flag_all q sought y (n + 1 + m))) count
      ∙ (λ i. If c (first i) (second i))

  last_do : (h : Head) (body x : StmtTrees) (n : ℕ) (r : Bool) → (n == sought) ≡ r → flag_all q sought x (n + 1) ≡ flag_all q sought body (n + 1)
      → flag_one q sought (if r then Do (record h { parallel = p }) body else Do h x) n ≡ (if r then Do (record h { parallel = q }) body else Do h (flag_all q sought body (n + 1)))
  last_do h body x n true e inner = ap (λ (k : Bool). if k then Do (record h { parallel = q }) body else Do (record h { parallel = p }) (flag_all q sought body (n + 1))) e
  last_do h body x n false e inner =
      ap (λ (k : Bool). if k then Do (record h { parallel = q }) x else Do h (flag_all q sought x (n + 1))) e
      ∙ ap (λ (ss : StmtTrees). Do h ss) inner

  mutual
    last_one : (s : StmtTree) (n : ℕ) → flag_one q sought (flag_one p sought s n) n ≡ flag_one q sought s n
    last_one (Assign left right) n = refl
    last_one (If c a b) n =
        last_if c a b (flag_all p sought a (n + 1)) (flag_all p sought b (n + 1 + statements_count a)) n (n == sought) refl (count_all p sought a (n + 1)) (last_all a (n + 1)) (last_all b (n + 1 + statements_count a))
    last_one (Do h body) n = last_do h body (flag_all p sought body (n + 1)) n (n == sought) refl (last_all body (n + 1))
    last_one (Print items) n = refl
    last_one (Read items) n = refl
    last_one Stop n = refl
    last_one (Comment text) n = refl

    last_all : (ss : StmtTrees) (n : ℕ) → flag_all q sought (flag_all p sought ss n) n ≡ flag_all q sought ss n
    last_all no_stmts n = refl
    last_all (more_stmts s rest) n =
        ap₂ more_stmts (last_one s n)
        (ap (λ (m : ℕ). flag_all q sought (flag_all p sought rest (n + statement_count s)) (n + m)) (count_one p sought s n) ∙ last_all rest (n + statement_count s))

flagged_twice : (t : ProgramTree) (s : ℕ) (p q : Bool) → flagged (flagged t s p) s q ≡ flagged t s q
flagged_twice t s p q = ap (λ (ss : StmtTrees). record { decls = t.decls; body = ss }) (last_all p q s t.body 1)

-- statements that replace themselves
mutual
  one_itself : (sought : ℕ) (s : StmtTree) (n : ℕ) → replaced alone sought s n ≡ alone s
  one_itself sought (Assign left right) n = either_way (n == sought) (alone (Assign left right))
  one_itself sought (If c a b) n = chosen (n == sought) (If c a b) (If c a b) _ (ap₂ (λ (x y : StmtTrees). alone (If c x y)) (all_itself sought a (n + 1)) (all_itself sought b (n + 1 + statements_count a))) ∙ ap alone (either_way (n == sought) (If c a b))
  one_itself sought (Do h body) n = chosen (n == sought) (Do h body) (Do h body) _ (ap (λ (x : StmtTrees). alone (Do h x)) (all_itself sought body (n + 1))) ∙ ap alone (either_way (n == sought) (Do h body))
  one_itself sought (Print items) n = either_way (n == sought) (alone (Print items))
  one_itself sought (Read items) n = either_way (n == sought) (alone (Read items))
  one_itself sought Stop n = either_way (n == sought) (alone Stop)
  one_itself sought (Comment text) n = refl

  all_itself : (sought : ℕ) (ss : StmtTrees) (n : ℕ) → all_replaced alone sought ss n ≡ ss
  all_itself sought no_stmts n = refl
  all_itself sought (more_stmts s rest) n = ap₂ followed (one_itself sought s n) (all_itself sought rest (n + statement_count s))

same_statement : (a b : StmtTree) → Some a ≡ Some b → a ≡ b
same_statement a b e = cc

-- a DO that has the flag already
flagged_already : (t : ProgramTree) (s : ℕ) (h : Head) (body : StmtTrees) → IsLoop t s h body → by_step.flagged t s h.parallel ≡ t
flagged_already t s h body is =
    one_program (on_loop (with_flag h.parallel)) alone s t (λ g e. ap (on_loop (with_flag h.parallel)) (sym (same_statement (Do h body) g (sym is ∙ e))) ∙ ap alone (same_statement (Do h body) g (sym is ∙ e)))
    ∙ ap (λ (ss : StmtTrees). record { decls = t.decls; body = ss }) (all_itself s t.body 1)

pub flagged_back : (t : ProgramTree) (s : ℕ) (p : Bool) (h : Head) (body : StmtTrees) → IsLoop t s h body → flagged (flagged t s p) s h.parallel ≡ t
flagged_back t s p h body is = flagged_twice t s p h.parallel ∙ sym (flagged_by_step t s h.parallel) ∙ flagged_already t s h body is
