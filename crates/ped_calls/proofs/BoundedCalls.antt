-- What stands for a CALL whose printed text is short has few references.
use Rattle.std.proofs.Common.{◌≡◌, ℕ, ◌+◌, ◌≤◌, List, [], ◌∷◌, ◌++◌, length, Bool, true, false, nat_lt, refl, ap, length-append, arith, if◌then◌else◌}
use Rattle.std.specs.Prelude.{codes, Some}
use Rattle.std.proofs.lemmas.Bool.{or_parts}
use Rattle.ped_tree.specs.Tree.{ExprTree, ExprTrees, Int, no_exprs, more_exprs, CondTree, And, StmtTree, Assign}
use Rattle.ped_tree.specs.Numbering.{statement_count}
use Rattle.ped_tree.specs.Accesses.{listed, expr_reads, exprs_reads, cond_reads}
use Rattle.ped_tree.specs.Nests.{indices_of}
use Rattle.ped_tree.specs.Printing.{exprs_text}
use Rattle.ped_tree.specs.Grammar.Literals.{have_large_literal}
use Rattle.ped_tree.specs.Grammar.LimitNumbers.{most_characters}
use Rattle.ped_links.specs.ped_symbols.specs.ped_refs.specs.References.{numbered_accesses, statement_references}
use Rattle.ped_links.specs.ped_units.specs.Forms.{Called}
use Rattle.ped_links.specs.ped_units.specs.Units.{reference_of, call_statement, with_calls, arguments_text}
use Rattle.ped_links.specs.ped_units.specs.Refusals.{call_text, call_passes_limit, is_whole_array, plain_arguments, is_zero, and_zeros, condition_of, using_arguments}
use Rattle.ped_calls.proofs.ReadCharacters.{all_read_few}
use Rattle.ped_calls.proofs.BoundedStatements.{IsBounded, length-numbered}

-- what expressions read together
abbrev total : List (List ℕ) → List (List ℕ) → List ExprTree → ℕ
total k u [] = 0
total k u (e ∷ es) = length (expr_reads k u e) + total k u es

anded : (k u : List (List ℕ)) (c : CondTree) (es : List ExprTree) → length (cond_reads k u (and_zeros c es)) ≡ length (cond_reads k u c) + total k u es
anded k u c [] = omega arith
anded k u c (e ∷ es) =
    omega (arith, anded k u (And c (is_zero e)) es, length-append (cond_reads k u c) (expr_reads k u e ++ []), length-append (expr_reads k u e) [])

conditioned : (k u : List (List ℕ)) (es : List ExprTree) → length (cond_reads k u (condition_of es)) ≡ total k u es
conditioned k u [] = refl
conditioned k u (e ∷ es) = omega (arith, anded k u (is_zero e) es, length-append (expr_reads k u e) [])

one_or_none : (k u : List (List ℕ)) (b : Bool) (e : ExprTree) (xs es : List ExprTree) → total k u xs ≤ total k u es → total k u (if b then xs else e ∷ xs) ≤ total k u (e ∷ es)
one_or_none k u true e xs es h = omega (arith, h)
one_or_none k u false e xs es h = omega (arith, h)

plain_fewer : (arrays k u : List (List ℕ)) (es : List ExprTree) → total k u (plain_arguments arrays es) ≤ total k u es
plain_fewer arrays k u [] = omega arith
plain_fewer arrays k u (e ∷ es) = one_or_none k u (is_whole_array arrays e) e (plain_arguments arrays es) es (plain_fewer arrays k u es)

listed_total : (k u : List (List ℕ)) (es : ExprTrees) → total k u (listed es) ≡ length (exprs_reads k u es)
listed_total k u no_exprs = refl
listed_total k u (more_exprs e rest) = let more = listed_total k u rest in omega (arith, more, length-append (expr_reads k u e) (exprs_reads k u rest))

characters : (x : List ℕ) (k u : List (List ℕ)) (es : ExprTrees) → length (exprs_reads k u es) ≤ length (codes "CALL " ++ (x ++ arguments_text es))
characters x k u no_exprs = omega arith
characters x k u (more_exprs e rest) =
    let es = more_exprs e rest in
    let t = exprs_text es in
    omega (
      arith,
      all_read_few k u es,
      length-append (codes "CALL ") (x ++ arguments_text es),
      length-append x (arguments_text es),
      length-append (codes "(" ++ t) (codes ")"),
      length-append (codes "(") t,
    )

-- a CALL in a tree gives way to what stands for it
pub call_gives_way : (f : Called → StmtTree) (c : Called) → with_calls f (call_statement c) ≡ f c
call_gives_way f c = by c.name c.arguments
  where
    by : (x : List ℕ) (es : ExprTrees) → with_calls f (Assign (Int 0) (reference_of x es)) ≡ f (record { name = x; arguments = es })
    by x no_exprs = refl
    by x (more_exprs e rest) = refl

few_reads : (arrays : List (List ℕ)) (c : Called) → length (call_text c) ≤ 1300 → (k u : List (List ℕ)) → length (cond_reads k u (condition_of (plain_arguments arrays (listed c.arguments)))) ≤ 1300
few_reads arrays c short k u =
    omega (
      arith,
      short,
      conditioned k u (plain_arguments arrays (listed c.arguments)),
      plain_fewer arrays k u (listed c.arguments),
      listed_total k u c.arguments,
      characters c.name k u c.arguments,
    )

pub short_call : (c : Called) → call_passes_limit (Some c) ≡ false → length (call_text c) ≤ 1300
short_call c h = let long = (or_parts (have_large_literal c.arguments) (nat_lt most_characters (length (call_text c))) h).1 in grind (arith, long)

pub call_bounded : (arrays : List (List ℕ)) (c : Called) → call_passes_limit (Some c) ≡ false → IsBounded (using_arguments arrays) (call_statement c)
call_bounded arrays c h = λ k nest n.
    let f = using_arguments arrays in
    let own = cond_reads k (indices_of nest) (condition_of (plain_arguments arrays (listed c.arguments))) in
    let is = ap (λ (t : StmtTree). length (statement_references k nest n t)) (call_gives_way f c) in
    let count = ap statement_count (call_gives_way f c) in
    omega (
      arith,
      is,
      count,
      length-append (numbered_accesses n 1 nest own ++ []) [],
      length-append (numbered_accesses n 1 nest own) [],
      length-numbered n 1 nest own,
      few_reads arrays c (short_call c h) k (indices_of nest),
    )
