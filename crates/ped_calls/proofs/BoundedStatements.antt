-- Statements whose printed texts are short have few references, for each numbered statement in them.
use Rattle.std.proofs.Common.{◌≡◌, ℕ, suc, ◌+◌, ◌*◌, ◌≤◌, List, [], ◌∷◌, ◌++◌, length, refl, ap, ◌∙◌, length-append, arith}
use Rattle.std.specs.List.{AllByRecursion}
use Rattle.ped_tree.specs.Tree.{CondTree, Head, StmtTree, StmtTrees, If, Do, no_stmts, more_stmts}
use Rattle.ped_tree.specs.Views.{pack_stmts}
use Rattle.ped_tree.specs.Numbering.{statement_count, statements_count}
use Rattle.ped_tree.specs.Accesses.{Access, own_accesses, expr_reads, private_writes}
use Rattle.ped_tree.specs.Nests.{Loop, indices_of}
use Rattle.ped_tree.specs.Printing.{do_text, private_text, own_text}
use Rattle.ped_tree.specs.Grammar.ProgramRefusals.{listed_stmts}
use Rattle.ped_links.specs.ped_symbols.specs.ped_refs.specs.References.{numbered_accesses, statement_references, statements_references}
use Rattle.ped_links.specs.ped_units.specs.Forms.{Called}
use Rattle.ped_links.specs.ped_units.specs.Units.{with_calls, all_with_calls}
use Rattle.ped_calls.proofs.ReadCharacters.{do_few, private_few, if_few}

-- a statement with its parts has few references, where these stand for CALLs
abbrev pub IsBounded : (Called → StmtTree) → StmtTree → Type 0
IsBounded f s = (k : List (List ℕ)) (nest : List Loop) (n : ℕ) → length (statement_references k nest n (with_calls f s)) ≤ 2700 * statement_count (with_calls f s)

-- each of these has
abbrev pub AreBounded : (Called → StmtTree) → List StmtTree → Type 0
AreBounded f ss = AllByRecursion (IsBounded f) ss

pub joined : (f : Called → StmtTree) (xs ys : List StmtTree) → AreBounded f xs → AreBounded f ys → AreBounded f (xs ++ ys)
joined f [] ys h k = k
joined f (x ∷ xs) ys h k = (h.0, joined f xs ys h.1 k)

pub length-numbered : (n number : ℕ) (nest : List Loop) (accesses : List Access) → length (numbered_accesses n number nest accesses) ≡ length accesses
length-numbered n number nest [] = refl
length-numbered n number nest (a ∷ rest) = ap suc (length-numbered n (suc number) nest rest)

-- all of them together
pub packed_bounded : (f : Called → StmtTree) (ss : List StmtTree) → AreBounded f ss → (k : List (List ℕ)) (nest : List Loop) (n : ℕ)
    → length (statements_references k nest n (all_with_calls f (pack_stmts ss))) ≤ 2700 * statements_count (all_with_calls f (pack_stmts ss))
packed_bounded f [] h k nest n = omega arith
packed_bounded f (s ∷ ss) h k nest n =
    let next = n + statement_count (with_calls f s) in
    omega (arith, length-append (statement_references k nest n (with_calls f s)) (statements_references k nest next (all_with_calls f (pack_stmts ss))), h.0 k nest n, packed_bounded f ss h.1 k nest next)

-- an IF
pub if_bounded : (f : Called → StmtTree) (c : CondTree) (ts es : List StmtTree) → length (own_text (If c no_stmts no_stmts)) ≤ 1300 → AreBounded f ts → AreBounded f es → IsBounded f (If c (pack_stmts ts) (pack_stmts es))
if_bounded f c ts es short h j = λ k nest n.
    let t = all_with_calls f (pack_stmts ts) in
    let e = all_with_calls f (pack_stmts es) in
    let own = own_accesses k (indices_of nest) (If c t e) in
    let m = n + 1 + statements_count t in
    omega (
      arith,
      short,
      if_few k (indices_of nest) c t e,
      length-numbered n 1 nest own,
      length-append (numbered_accesses n 1 nest own ++ statements_references k nest (n + 1) t) (statements_references k nest m e),
      length-append (numbered_accesses n 1 nest own) (statements_references k nest (n + 1) t),
      packed_bounded f ts h k nest (n + 1),
      packed_bounded f es j k nest m,
    )

-- a DO
pub do_bounded : (f : Called → StmtTree) (h : Head) (ss : List StmtTree) → length (do_text h) ≤ 1300 → length (private_text h.private) ≤ 1300 → AreBounded f ss → IsBounded f (Do h (pack_stmts ss))
do_bounded f h ss short private j = λ k nest n.
    let body = all_with_calls f (pack_stmts ss) in
    let u = indices_of nest in
    let own = own_accesses k u (Do h body) in
    let inner = nest ++ (record { number = n; head = h }) ∷ [] in
    omega (
      arith,
      short,
      private,
      do_few k u h,
      private_few k h.private,
      length-append (expr_reads k u h.first ++ expr_reads k u h.last) (private_writes k h.private),
      length-numbered n 1 nest own,
      length-append (numbered_accesses n 1 nest own) (statements_references k inner (n + 1) body),
      packed_bounded f ss j k inner (n + 1),
    )

-- a statement without parts that is no CALL
pub own_bounded : (f : Called → StmtTree) (s : StmtTree) → with_calls f s ≡ s → statement_count s ≡ 1
    → ((k : List (List ℕ)) (nest : List Loop) (n : ℕ) → statement_references k nest n s ≡ numbered_accesses n 1 nest (own_accesses k (indices_of nest) s))
    → ((k u : List (List ℕ)) → length (own_accesses k u s) ≤ 1300) → IsBounded f s
own_bounded f s same one refs few = λ k nest n.
    let r = ap (λ (t : StmtTree). length (statement_references k nest n t)) same ∙ ap length (refs k nest n) ∙ length-numbered n 1 nest (own_accesses k (indices_of nest) s) in
    let count = ap statement_count same ∙ one in
    omega (arith, r, count, few k (indices_of nest))

-- the statements behind a logical IF, as a list
pub packed_listed : (ss : StmtTrees) → pack_stmts (listed_stmts ss) ≡ ss
packed_listed no_stmts = refl
packed_listed (more_stmts s rest) = ap (more_stmts s) (packed_listed rest)
