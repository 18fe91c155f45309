-- How many statements a DO becomes when it is lowered.
use Rattle.std.proofs.Common.{◌≡◌, ℕ, ◌+◌, ◌*◌, List, [], ◌∷◌, ◌++◌, length, filter, Bool, true, false, ◌||◌, Option, Some, None, is_some, refl, ap, ◌∙◌, arith, cond, length-append}
use Rattle.std.proofs.lemmas.List.Elements.{filter-append}
use Rattle.ped_tree.specs.Tree.{ExprTree, Head, StmtTree, StmtTrees, Assign, If, Do, Print, Read, Stop, Comment, no_stmts, more_stmts}
use Rattle.ped_tree.specs.Numbering.{numbered, all_numbered, statement_count, statements_count}
use Rattle.ped_rules.specs.ped_steps.proofs.RunLaws.FilledGaps.{counted}
use Rattle.ped_reduce.specs.Lists.{listed_name, unless_named, without_list}
use Rattle.ped_reduce.specs.Sums.{Sum, sum_to}
use Rattle.ped_reduce.specs.Lowering.{Partials, zeros, apart_or, sum_apart, summed, all_summed, exits, lowered_loop, is_sum, gained}

-- a list has no number
unless_count : (o : Option (List ℕ)) (text : List ℕ) (rest : StmtTrees) → statements_count (without_list rest) ≡ statements_count rest → statements_count (unless_named o (more_stmts (Comment text) rest) (without_list rest)) ≡ statements_count rest
unless_count None text rest e = omega arith
unless_count (Some x) text rest e = e

pub without_count : (ts : StmtTrees) → statements_count (without_list ts) ≡ statements_count ts
without_count no_stmts = refl
without_count (more_stmts (Comment text) rest) = let e = unless_count (listed_name text) text rest (without_count rest) in omega (arith, e)
without_count (more_stmts (Assign left right) rest) = refl
without_count (more_stmts (If c a b) rest) = refl
without_count (more_stmts (Do h body) rest) = refl
without_count (more_stmts (Print items) rest) = refl
without_count (more_stmts (Read items) rest) = refl
without_count (more_stmts Stop rest) = refl

unless_numbered : (o : Option (List ℕ)) (text : List ℕ) (rest : StmtTrees) → all_numbered (without_list rest) ≡ all_numbered rest → all_numbered (unless_named o (more_stmts (Comment text) rest) (without_list rest)) ≡ all_numbered rest
unless_numbered None text rest e = refl
unless_numbered (Some x) text rest e = e

pub without_numbered : (ts : StmtTrees) → all_numbered (without_list ts) ≡ all_numbered ts
without_numbered no_stmts = refl
without_numbered (more_stmts (Comment text) rest) = unless_numbered (listed_name text) text rest (without_numbered rest)
without_numbered (more_stmts (Assign left right) rest) = refl
without_numbered (more_stmts (If c a b) rest) = refl
without_numbered (more_stmts (Do h body) rest) = refl
without_numbered (more_stmts (Print items) rest) = refl
without_numbered (more_stmts (Read items) rest) = refl
without_numbered (more_stmts Stop rest) = refl

pub zeros_count : (v : List ℕ) (ps : List Partials) → statements_count (zeros v ps) ≡ 3 * length ps
zeros_count v [] = refl
zeros_count v (p ∷ ps) = let rest = zeros_count v ps in omega (arith, rest)

pub exits_count : (v : List ℕ) (ps : List Partials) → statements_count (exits v ps) ≡ 2 * length ps
exits_count v [] = refl
exits_count v (p ∷ ps) = let rest = exits_count v ps in omega (arith, rest)

-- only an assignment is a sum
pub no_sum : (s : StmtTree) → ((x : List ℕ) → sum_to x s ≡ None) → (ps : List Partials) → is_sum ps s ≡ false
no_sum s none [] = refl
no_sum s none (p ∷ ps) = (λ i. is_some (none p.scalar i) || is_sum ps s) ∙ no_sum s none ps

-- a sum becomes three statements
abbrev so_many : Bool → ℕ
so_many true = 3
so_many false = 1

apart_by : (v : List ℕ) (p : Partials) (left right : ExprTree) (o : Option Sum) (others : StmtTrees) (b : Bool) → statements_count others ≡ so_many b → statements_count (apart_or v p o others) ≡ so_many (is_some o || b)
apart_by v p left right None others b e = e
apart_by v p left right (Some sum) others b e = refl

pub apart_count : (v : List ℕ) (left right : ExprTree) (ps : List Partials) → statements_count (sum_apart v ps (Assign left right)) ≡ so_many (is_sum ps (Assign left right))
apart_count v left right [] = refl
apart_count v left right (p ∷ ps) = apart_by v p left right (sum_to p.scalar (Assign left right)) (sum_apart v ps (Assign left right)) (is_sum ps (Assign left right)) (apart_count v left right ps)

-- how many sums these are
abbrev pub sums_in : List Partials → List StmtTree → ℕ
sums_in ps ss = length (filter (is_sum ps) ss)

pub sums_append : (ps : List Partials) (xs ys : List StmtTree) → sums_in ps (xs ++ ys) ≡ sums_in ps xs + sums_in ps ys
sums_append ps xs ys = ap length (filter-append (is_sum ps) xs ys) ∙ length-append (filter (is_sum ps) xs) (filter (is_sum ps) ys)

pub first_sums : (ps : List Partials) (s : StmtTree) (ss : List StmtTree) → is_sum ps s ≡ false → sums_in ps (s ∷ ss) ≡ sums_in ps ss
first_sums ps s ss e = ap (λ (b : Bool). length (cond b (s ∷ filter (is_sum ps) ss) (filter (is_sum ps) ss))) e

one_sum : (b : Bool) (s : StmtTree) → so_many b ≡ 1 + 2 * length (cond b (s ∷ []) [])
one_sum true s = refl
one_sum false s = refl

mutual
  pub summed_count : (v : List ℕ) (ps : List Partials) (s : StmtTree) → statements_count (summed v ps s) ≡ statement_count s + 2 * sums_in ps (numbered s)
  summed_count v ps (Assign left right) = apart_count v left right ps ∙ one_sum (is_sum ps (Assign left right)) (Assign left right)
  summed_count v ps (If c a b) =
      let left = all_summed_count v ps a in
      let right = all_summed_count v ps b in
      let both = first_sums ps (If c a b) (all_numbered a ++ all_numbered b) (no_sum (If c a b) (λ x. refl) ps) ∙ sums_append ps (all_numbered a) (all_numbered b) in
      omega (arith, left, right, both)
  summed_count v ps (Do h body) =
      let inner = all_summed_count v ps body in
      let all = first_sums ps (Do h body) (all_numbered body) (no_sum (Do h body) (λ x. refl) ps) in
      omega (arith, inner, all)
  summed_count v ps (Print items) = let none = first_sums ps (Print items) [] (no_sum (Print items) (λ x. refl) ps) in omega (arith, none)
  summed_count v ps (Read items) = let none = first_sums ps (Read items) [] (no_sum (Read items) (λ x. refl) ps) in omega (arith, none)
  summed_count v ps Stop = let none = first_sums ps Stop [] (no_sum Stop (λ x. refl) ps) in omega (arith, none)
  summed_count v ps (Comment text) = refl

  pub all_summed_count : (v : List ℕ) (ps : List Partials) (ts : StmtTrees) → statements_count (all_summed v ps ts) ≡ statements_count ts + 2 * sums_in ps (all_numbered ts)
  all_summed_count v ps no_stmts = refl
  all_summed_count v ps (more_stmts s rest) =
      let both = counted (summed v ps s) (all_summed v ps rest) in
      let first = summed_count v ps s in
      let others = all_summed_count v ps rest in
      let all = sums_append ps (numbered s) (all_numbered rest) in
      omega (arith, both, first, others, all)

-- a DO becomes so many statements more
pub lowered_count : (parallel : Bool) (ps : List Partials) (h : Head) (body : StmtTrees) → statements_count (lowered_loop parallel ps h body) ≡ statement_count (Do h body) + gained ps body
lowered_count parallel ps h body =
    let v = h.variable in
    let both = counted (zeros v ps) (all_summed v ps (without_list body)) in
    let front = zeros_count v ps in
    let inner = all_summed_count v ps (without_list body) in
    let same = without_count body in
    let sums = ap (λ (ss : List StmtTree). sums_in ps ss) (without_numbered body) in
    let behind = exits_count v ps in
    omega (arith, both, front, inner, same, sums, behind)
