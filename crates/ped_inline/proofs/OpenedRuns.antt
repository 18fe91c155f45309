-- A program with the statements of a block in its place runs as the one with the block, but for the act of the block's IF, which touches nothing.
use Rattle.std.proofs.Common.{◌≡◌, ℕ, suc, ◌+◌, ◌<◌, ◌≤◌, nat_lt, List, [], ◌∷◌, ◌++◌, Bool, true, false, ◌&&◌, if◌then◌else◌, refl, sym, ap, subst, ◌∙◌, eqb-true, append-nil, arith}
use Rattle.std.proofs.lemmas.Bool.{lt-ltb, ltb-true, and_parts}
use Rattle.ped_tree.specs.declared.conditions.Relation.{Relation}
use Rattle.ped_tree.specs.declared.conditions.Relation.TheVariants.{Lt, Le, Eq, Ne, Gt, Ge}
use Rattle.ped_tree.specs.Tree.{ExprTree, Int, Var, Element, Neg, Add, Sub, Mul, Div, Pow, Call, CondTree, Rel, Not, And, Or, Head, StmtTree, StmtTrees, If, Do, Comment, no_stmts, more_stmts}
use Rattle.ped_tree.specs.Numbering.{statement_count, statements_count}
use Rattle.ped_tree.specs.NamesIn.{all_loop_variables}
use Rattle.ped_rules.specs.ped_store.specs.Stores.{Store}
use Rattle.ped_rules.specs.ped_store.specs.Races.{accesses}
use Rattle.ped_rules.specs.ped_eval.specs.Scopes.{Setting, Frame, Scope, turns_of, names_in, place_of}
use Rattle.ped_rules.specs.ped_eval.specs.Runs.{Run, run_if, run_do, run, run_all}
use Rattle.ped_rules.specs.ped_laws.proofs.RunLaws.Numbers.{run_same, all_same}
use Rattle.ped_rules.specs.ped_steps.specs.Replacing.{alone}
use Rattle.ped_rules.specs.ped_steps.specs.Runs.Gaps.{Gap, at_front, past, in_then, in_else, in_body, filled, number_at}
use Rattle.ped_rules.specs.ped_steps.proofs.RunLaws.FilledGaps.{number_from, number_room, count_filled}
use Rattle.ped_rules.specs.ped_loop_runs.proofs.PastingLaws.PastedLoops.{run_followed}
use Rattle.ped_rules.proofs.NameLaws.SubstitutedReferences.{filled_variables}
use Rattle.ped_rules.specs.KeepMaps.{opened_at}
use Rattle.ped_inline.specs.Blocks.{is_equality, is_zero, is_always}
use Rattle.ped_inline.proofs.AlikeRuns.{AreAlike, alike_same, then_alike, if_alike, do_alike}

-- numbers before and behind the block
pub opened_below : (l k : ℕ) → k < l → opened_at l k ≡ k
opened_below l k h = ap (λ (b : Bool). if b then k else suc k) (lt-ltb k l h)

pub opened_above : (l k : ℕ) → l ≤ k → opened_at l k ≡ suc k
opened_above l k h = by (nat_lt k l) refl
  where
    by : (b : Bool) → nat_lt k l ≡ b → opened_at l k ≡ suc k
    by true e = let less = ltb-true k l e in absurd (omega (arith, less, h))
    by false e = ap (λ (b : Bool). if b then k else suc k) e

-- the condition 0.EQ.0
zero_is : (a : ExprTree) → is_zero a ≡ true → a ≡ Int 0
zero_is (Int n) h = ap Int (eqb-true n 0 h)
zero_is (Var x) h = absurd cc
zero_is (Element x subscripts) h = absurd cc
zero_is (Neg a) h = absurd cc
zero_is (Add a b) h = absurd cc
zero_is (Sub a b) h = absurd cc
zero_is (Mul a b) h = absurd cc
zero_is (Div a b) h = absurd cc
zero_is (Pow a b) h = absurd cc
zero_is (Call f arguments) h = absurd cc

equality_is : (r : Relation) → is_equality r ≡ true → r ≡ Eq
equality_is Eq h = refl
equality_is Lt h = absurd cc
equality_is Le h = absurd cc
equality_is Ne h = absurd cc
equality_is Gt h = absurd cc
equality_is Ge h = absurd cc

pub always_is : (c : CondTree) → is_always c ≡ true → c ≡ Rel Eq (Int 0) (Int 0)
always_is (Rel r a b) h =
    let first = and_parts (is_equality r) (is_zero a && is_zero b) h in
    let second = and_parts (is_zero a) (is_zero b) first.1 in
    λ i. Rel (equality_is r first.0 i) (zero_is a second.0 i) (zero_is b second.1 i)
always_is (Not a) h = absurd cc
always_is (And a b) h = absurd cc
always_is (Or a b) h = absurd cc

module _ (p : Setting) (l : ℕ) (text : List ℕ) (ts : StmtTrees) where
  -- the statements of the new program count as those of the old one
  abbrev pub q : Setting
  q = record { bounds = p.bounds; constants = p.constants; number = λ k. p.number (opened_at l k) }

  abbrev pub block : StmtTree
  block = If (Rel Eq (Int 0) (Int 0)) (more_stmts (Comment text) ts) no_stmts

  one_below : (s : StmtTree) (n : ℕ) (scope : Scope) → n + statement_count s ≤ l → run q s n scope ≡ run p s n scope
  one_below s n scope h = run_same q p refl refl s n n scope (λ k less. ap p.number (opened_below l (n + k) (omega (arith, h, less))))

  below : (ss : StmtTrees) (n : ℕ) (scope : Scope) → n + statements_count ss ≤ l → run_all q ss n scope ≡ run_all p ss n scope
  below ss n scope h = all_same q p refl refl ss n n scope (λ k less. ap p.number (opened_below l (n + k) (omega (arith, h, less))))

  above : (ss : StmtTrees) (n m : ℕ) (scope : Scope) → l ≤ n → m ≡ n + 1 → run_all q ss n scope ≡ run_all p ss m scope
  above ss n m scope h e = all_same q p refl refl ss n m scope (λ k less. (let next : suc (n + k) ≡ m + k = omega (arith, e) in ap p.number (opened_above l (n + k) (omega (arith, h)) ∙ next)))

  more_count : (gap : Gap) → statements_count (filled gap (alone block)) ≡ statements_count (filled gap ts) + 1
  more_count gap = let e = count_filled (alone block) ts gap in omega (arith, e)

  same_variables : (gap : Gap) → all_loop_variables (filled gap ts) ≡ all_loop_variables (filled gap (alone block))
  same_variables gap = filled_variables (alone block) ts (sym (append-nil (all_loop_variables ts ++ []) ∙ append-nil (all_loop_variables ts))) gap

  at_place : (n : ℕ) (scope : Scope) → n < l → place_of q n scope ≡ place_of p n scope
  at_place n scope h = λ i. record { statement = p.number (opened_below l n h i); turns = turns_of scope }

  -- the block by itself
  opened_block : (scope : Scope) (s : Store) → AreAlike (run_all q ts l scope s) (run p block l scope s)
  opened_block scope s =
      let same = above ts l (l + 1 + 0) scope (omega arith) (omega arith) in
      record { made = ap (λ (f : Store → Run). accesses (f s).acts) same; ending = ap (λ (f : Store → Run). (f s).ending) same }

  -- a DO before the block counts as before
  same_do : (n : ℕ) (scope : Scope) (h : Head) (ss : StmtTrees) (body : Frame → Store → Run) → n < l → run_do q n scope h ss body ≡ run_do p n scope h ss body
  same_do n scope h ss body less = λ i s. run_do (record { bounds = p.bounds; constants = p.constants; number = λ k. p.number (opened_below l n less i) }) 0 scope h ss body s

  -- an IF round the block counts as before
  same_if : (n : ℕ) (scope : Scope) → n < l → (c : CondTree) (a b d e : Store → Run) → ((s : Store) → AreAlike (a s) (d s)) → ((s : Store) → AreAlike (b s) (e s)) → (s : Store)
      → AreAlike (run_if (names_in q scope) (place_of q n scope) c a b s) (run_if (names_in p scope) (place_of p n scope) c d e s)
  same_if n scope less c a b d e first second s =
      let same : run_if (names_in p scope) (place_of p n scope) c a b s ≡ run_if (names_in q scope) (place_of q n scope) c a b s = λ i. run_if (names_in p scope) (sym (at_place n scope less) i) c a b s in
      subst (λ (r : Run). AreAlike r (run_if (names_in p scope) (place_of p n scope) c d e s)) same
      (if_alike (names_in p scope) (place_of p n scope) c a b d e first second s)

  -- what stands behind a part with the gap
  behind : (rest : StmtTrees) (n m : ℕ) (scope : Scope) → l ≤ n → m ≡ n + 1 → (s : Store) → AreAlike (run_all q rest n scope s) (run_all p rest m scope s)
  behind rest n m scope h e s = alike_same (run_all q rest n scope s) (run_all p rest m scope s) (ap (λ (f : Store → Run). f s) (above rest n m scope h e))

  pub block_opened : (gap : Gap) (n : ℕ) (scope : Scope) → number_at gap n ≡ l → (s : Store) → AreAlike (run_all q (filled gap ts) n scope s) (run_all p (filled gap (alone block)) n scope s)
  block_opened (at_front rest) n scope e s =
      subst (λ (f : Store → Run). AreAlike (f s) (run_all p (more_stmts block rest) n scope s)) (sym (run_followed q ts rest n scope))
      (then_alike (run_all q ts n scope s) (run p block n scope s) (run_all q rest (n + statements_count ts) scope) (run_all p rest (n + statement_count block) scope)
      (subst (λ (m : ℕ). AreAlike (run_all q ts m scope s) (run p block m scope s)) (sym e) (opened_block scope s))
      (behind rest (n + statements_count ts) (n + statement_count block) scope (omega (arith, e)) (omega arith)))
  block_opened (past x gap) n scope e s =
      let low = number_from gap (n + statement_count x) in
      then_alike (run q x n scope s) (run p x n scope s) (run_all q (filled gap ts) (n + statement_count x) scope) (run_all p (filled gap (alone block)) (n + statement_count x) scope)
      (alike_same (run q x n scope s) (run p x n scope s) (ap (λ (f : Store → Run). f s) (one_below x n scope (omega (arith, low, e)))))
      (block_opened gap (n + statement_count x) scope e)
  block_opened (in_then c gap b rest) n scope e s =
      let low = number_from gap (n + 1) in
      let room = number_room gap ts (n + 1) in
      let more = more_count gap in
      let old = filled gap (alone block) in
      let new = filled gap ts in
      then_alike (run q (If c new b) n scope s) (run p (If c old b) n scope s) (run_all q rest (n + statement_count (If c new b)) scope) (run_all p rest (n + statement_count (If c old b)) scope)
      (same_if n scope (omega (arith, low, e)) c
      (run_all q new (n + 1) scope) (run_all q b (n + 1 + statements_count new) scope) (run_all p old (n + 1) scope) (run_all p b (n + 1 + statements_count old) scope)
      (block_opened gap (n + 1) scope e)
      (behind b (n + 1 + statements_count new) (n + 1 + statements_count old) scope (omega (arith, room, e)) (omega (arith, more))) s)
      (behind rest (n + statement_count (If c new b)) (n + statement_count (If c old b)) scope (omega (arith, room, e)) (omega (arith, more)))
  block_opened (in_else c a gap rest) n scope e s =
      let low = number_from gap (n + 1 + statements_count a) in
      let room = number_room gap ts (n + 1 + statements_count a) in
      let more = more_count gap in
      let old = filled gap (alone block) in
      let new = filled gap ts in
      then_alike (run q (If c a new) n scope s) (run p (If c a old) n scope s) (run_all q rest (n + statement_count (If c a new)) scope) (run_all p rest (n + statement_count (If c a old)) scope)
      (same_if n scope (omega (arith, low, e)) c
      (run_all q a (n + 1) scope) (run_all q new (n + 1 + statements_count a) scope) (run_all p a (n + 1) scope) (run_all p old (n + 1 + statements_count a) scope)
      (λ u. alike_same (run_all q a (n + 1) scope u) (run_all p a (n + 1) scope u) (ap (λ (f : Store → Run). f u) (below a (n + 1) scope (omega (arith, low, e)))))
      (block_opened gap (n + 1 + statements_count a) scope e) s)
      (behind rest (n + statement_count (If c a new)) (n + statement_count (If c a old)) scope (omega (arith, room, e)) (omega (arith, more)))
  block_opened (in_body h gap rest) n scope e s =
      let low = number_from gap (n + 1) in
      let room = number_room gap ts (n + 1) in
      let more = more_count gap in
      let old = filled gap (alone block) in
      let new = filled gap ts in
      let inside : Frame → Store → Run = λ f. run_all q new (n + 1) (f ∷ scope) in
      let outside : Frame → Store → Run = λ f. run_all p old (n + 1) (f ∷ scope) in
      then_alike (run q (Do h new) n scope s) (run p (Do h old) n scope s) (run_all q rest (n + statement_count (Do h new)) scope) (run_all p rest (n + statement_count (Do h old)) scope)
      (subst (λ (f : Store → Run). AreAlike (f s) (run p (Do h old) n scope s)) (sym (same_do n scope h new inside (omega (arith, low, e))))
      (do_alike inside outside (λ f. block_opened gap (n + 1) (f ∷ scope) e) p n scope h new old (same_variables gap) s))
      (behind rest (n + statement_count (Do h new)) (n + statement_count (Do h old)) scope (omega (arith, room, e)) (omega (arith, more)))
