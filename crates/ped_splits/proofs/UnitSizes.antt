-- How many statements units have, and where these stand.
use Rattle.std.proofs.Common.{◌≡◌, ℕ, zero, suc, ◌+◌, ◌≤◌, ◌<◌, ◌^◌, ◌==◌, List, [], ◌∷◌, ◌++◌, length, replicate, get_or, All, Bool, true, false, if◌then◌else◌, refl, sym, ap, subst, ◌∙◌, eqb-true, arith}
use Rattle.std.specs.List.{sum_by}
use Rattle.std.proofs.lemmas.List.{length-append, length-replicate, length-map, get_or-map}
use Rattle.std.proofs.lemmas.List.Sums.{sum_by-cons}
use Rattle.std.proofs.lemmas.List.Elements.{All-nil, All-cons, All-head, All-tail, All-append, All-replicate}
use Rattle.ped_tree.specs.Tree.{StmtTree, StmtTrees, no_stmts, more_stmts}
use Rattle.ped_tree.specs.Numbering.{statement_count, statements_count}
use Rattle.ped_splits.specs.Units.{before_first, units, homes}
use Rattle.ped_splits.specs.declared.units.Unit.{Unit}
use Rattle.ped_splits.specs.CodeUnits.{unit_tree, unit_trees, AreBelow, AreShort}
use Rattle.ped_splits.proofs.PiBlockOrders.{all_by}

not_none : (n : ℕ) → (n == 0) ≡ false → 1 ≤ n
not_none zero e = absurd cc
not_none (suc n) e = omega arith

-- as many units as statements at most, with as many statements together
module _ (m : ℕ) where
  abbrev IsWithin : StmtTrees → Type 0
  IsWithin u = statements_count u ≤ m

  within_first : (s : StmtTree) (us : List StmtTrees) → statement_count s ≡ 0 → All IsWithin us → All IsWithin (before_first s us)
  within_first s [] e h = All-nil IsWithin
  within_first s (u ∷ us) e h = let first = All-head IsWithin u us h in All-cons IsWithin (more_stmts s u) us (omega (arith, e, first)) (All-tail IsWithin u us h)

  pub units_within : (body : StmtTrees) → statements_count body ≤ m → All IsWithin (units body)
  units_within no_stmts h = All-nil IsWithin
  units_within (more_stmts s rest) h = by (units_within rest (omega (arith, h))) (statement_count s == 0) refl
    where
      more : All IsWithin (units rest) → (b : Bool) → All IsWithin (if b then more_stmts s rest ∷ [] else more_stmts s no_stmts ∷ units rest)
      more behind true = All-cons IsWithin (more_stmts s rest) [] h (All-nil IsWithin)
      more behind false = All-cons IsWithin (more_stmts s no_stmts) (units rest) (omega (arith, h)) behind

      by : All IsWithin (units rest) → (b : Bool) → (statement_count s == 0) ≡ b → All IsWithin (if b then before_first s (units rest) else if statements_count rest == 0 then more_stmts s rest ∷ [] else more_stmts s no_stmts ∷ units rest)
      by behind true e = within_first s (units rest) (eqb-true (statement_count s) 0 e) behind
      by behind false e = more behind (statements_count rest == 0)

pub units_short : (body : StmtTrees) → statements_count body < 2 ^ 32 → AreShort (units body)
units_short body h = all_by (λ u. statements_count u ≤ statements_count body) (λ u. statements_count u < 2 ^ 32) (units body) (λ u le. omega (arith, le, h)) (units_within (statements_count body) body (omega arith))

first_long : (s : StmtTree) (us : List StmtTrees) → length (before_first s us) ≡ length us
first_long s [] = refl
first_long s (u ∷ us) = refl

pub units_few : (body : StmtTrees) → length (units body) ≤ statements_count body
units_few no_stmts = omega arith
units_few (more_stmts s rest) = by (units_few rest) (statement_count s == 0) refl
  where
    more : length (units rest) ≤ statements_count rest → (b : Bool) → (statement_count s == 0) ≡ false → length (if b then more_stmts s rest ∷ [] else more_stmts s no_stmts ∷ units rest) ≤ statement_count s + statements_count rest
    more few true e = let some = not_none (statement_count s) e in omega (arith, some)
    more few false e = let some = not_none (statement_count s) e in omega (arith, some, few)

    by : length (units rest) ≤ statements_count rest → (b : Bool) → (statement_count s == 0) ≡ b → length (if b then before_first s (units rest) else if statements_count rest == 0 then more_stmts s rest ∷ [] else more_stmts s no_stmts ∷ units rest) ≤ statement_count s + statements_count rest
    by few true e = let same = first_long s (units rest) in omega (arith, few, same)
    by few false e = more few (statements_count rest == 0) e

first_sum : (s : StmtTree) (us : List StmtTrees) → statement_count s ≡ 0 → sum_by statements_count (before_first s us) ≡ sum_by statements_count us
first_sum s [] e = refl
first_sum s (u ∷ us) e =
    let whole = sum_by-cons statements_count (more_stmts s u) us in
    let other = sum_by-cons statements_count u us in
    omega (arith, whole, other, e)

-- all statements stand in units
pub units_sum : (body : StmtTrees) → sum_by statements_count (units body) ≡ statements_count body
units_sum no_stmts = refl
units_sum (more_stmts s rest) = by (units_sum rest) (statement_count s == 0) refl
  where
    more : sum_by statements_count (units rest) ≡ statements_count rest → (b : Bool) → (statements_count rest == 0) ≡ b → sum_by statements_count (if b then more_stmts s rest ∷ [] else more_stmts s no_stmts ∷ units rest) ≡ statement_count s + statements_count rest
    more behind true e = let whole = sum_by-cons statements_count (more_stmts s rest) [] in omega (arith, whole)
    more behind false e = let whole = sum_by-cons statements_count (more_stmts s no_stmts) (units rest) in omega (arith, whole, behind)

    by : sum_by statements_count (units rest) ≡ statements_count rest → (b : Bool) → (statement_count s == 0) ≡ b → sum_by statements_count (if b then before_first s (units rest) else if statements_count rest == 0 then more_stmts s rest ∷ [] else more_stmts s no_stmts ∷ units rest) ≡ statement_count s + statements_count rest
    by behind true e = let none = eqb-true (statement_count s) 0 e in let same = first_sum s (units rest) none in omega (arith, none, same, behind)
    by behind false e = more behind (statements_count rest == 0) refl

-- each statement of units has a place among them
pub homes_long : (i : ℕ) (us : List StmtTrees) → length (homes i us) ≡ sum_by statements_count us
homes_long i [] = refl
homes_long i (u ∷ us) =
    let here = length-replicate {A = ℕ} (statements_count u) i in
    let rest = homes_long (suc i) us in
    let whole = length-append (replicate (statements_count u) i) (homes (suc i) us) in
    let parts = sum_by-cons statements_count u us in
    omega (arith, here, rest, whole, parts)

pub homes_below : (i n : ℕ) (us : List StmtTrees) → i + length us ≤ n → AreBelow n (homes i us)
homes_below i n [] h = All-nil (λ j. j < n)
homes_below i n (u ∷ us) h = All-append (λ j. j < n) (replicate (statements_count u) i) (homes (suc i) us) (All-replicate (λ j. j < n) (statements_count u) i (omega (arith, h))) (homes_below (suc i) n us (omega (arith, h)))

-- each unit of the code is short
pub short_at : (us : List Unit) (k : ℕ) (u : Unit) → AreShort (unit_trees us) → k < length us → u ≡ get_or us k u → statements_count (unit_tree u) < 2 ^ 32
short_at us k u short h is =
    let there = short k no_stmts (subst (λ (n : ℕ). k < n) (sym (length-map us unit_tree)) h) in
    subst (λ (tree : StmtTrees). statements_count tree < 2 ^ 32) (get_or-map unit_tree us k u no_stmts h ∙ ap unit_tree (sym is)) there
