-- A tree that fits is small.
use Rattle.std.proofs.Common.{◌≡◌, ℕ, suc, ◌+◌, ◌*◌, ◌≤◌, ◌<◌, List, [], ◌∷◌, ◌++◌, length, Bool, true, false, refl, ap, sym, ◌∙◌, arith}
use Rattle.std.specs.Prelude.{nat_lt, ◌&&◌, ◌||◌}
use Rattle.std.specs.List.{AllByRecursion}
use Rattle.std.proofs.lemmas.Bool.{ltb-true, leb-true}
use Rattle.std.proofs.lemmas.List.{length-append, map-append}
use Rattle.ped_base.specs.Lists.{is_among, is_same_text}
use Rattle.ped_tree.specs.Tree.{Head, StmtTree, StmtTrees, Assign, If, Do, Print, Read, Stop, Comment, no_stmts, more_stmts, ProgramTree}
use Rattle.ped_tree.specs.Numbering.{statement_count, statements_count}
use Rattle.ped_tree.specs.Nests.{Loop, indices_of}
use Rattle.ped_tree.specs.Accesses.{Access, own_accesses, constant_names}
use Rattle.ped_tree.specs.Grammar.LimitNumbers.{most_statements, most_references, most_loops_nested}
use Rattle.ped_tree.specs.Grammar.Fits.{Surroundings, moved, in_if, in_loop, is_within, simple_fits, loop_fits, stmt_fits, stmts_fit, at_body, fits}
use Rattle.ped_tree.specs.Names.Collecting.{HaveSame}
use Rattle.ped_tree.proofs.NameLaws.SameAccesses.{same_accesses}
use Rattle.ped_refs.specs.References.{Reference, numbered_accesses, statement_references, statements_references, references}
use Rattle.ped_refs.specs.Sizes.Sizes.{IsSmall}

first_of : (a b : Bool) → (a && b) ≡ true → a ≡ true
first_of true b e = refl
first_of false b e = e

second_of : (a b : Bool) → (a && b) ≡ true → b ≡ true
second_of true b e = e
second_of false b e = cc

-- a numbered statement that passes no limit: one more may come, and it has few references
within_count : (p : Surroundings) (s : StmtTree) → is_within p s ≡ true → p.statements + 1 ≤ most_statements
within_count p s e = let less : p.statements < most_statements = ltb-true p.statements most_statements (first_of _ _ (first_of _ _ e)) in omega (arith, less)

within_accesses : (p : Surroundings) (s : StmtTree) → is_within p s ≡ true → length (own_accesses p.constants p.variables s) ≤ most_references
within_accesses p s e = leb-true _ most_references (second_of _ _ (first_of _ _ e))

simple_within : (p : Surroundings) (s : StmtTree) → simple_fits p s ≡ true → is_within p s ≡ true
simple_within p s e = first_of _ _ (first_of _ _ e)

-- what stands round a statement, by its DO loops
pub record Tells (p : Surroundings) (c : List (List ℕ)) (nest : List Loop) : Type 0 where
  pub constants : p.constants ≡ c
  pub variables : HaveSame p.variables (indices_of nest)
  pub long : length p.variables ≡ length nest
  pub few : length nest ≤ most_loops_nested

-- so many references at most, each in few loops
pub record AreFew (most : ℕ) (refs : List Reference) : Type 0 where
  pub few : length refs ≤ most
  pub shallow : AllByRecursion (λ (r : Reference). length r.nest ≤ most_loops_nested) refs

all_append : (P : Reference → Type 0) (a b : List Reference) → AllByRecursion P a → AllByRecursion P b → AllByRecursion P (a ++ b)
all_append P [] b h k = k
all_append P (r ∷ a) b h k = (h.0, all_append P a b h.1 k)

few_append : (m n : ℕ) (a b : List Reference) → AreFew m a → AreFew n b → AreFew (m + n) (a ++ b)
few_append m n a b h k = record {
  few = let long = length-append a b in omega (arith, h.few, k.few, long);
  shallow = all_append _ a b h.shallow k.shallow;
}

few_more : (m n : ℕ) (a : List Reference) → m ≤ n → AreFew m a → AreFew n a
few_more m n a e h = record { few = omega (arith, e, h.few); shallow = h.shallow }

none_few : (m : ℕ) → AreFew m []
none_few m = record { few = omega arith; shallow = tt }

-- the accesses of a statement as references
length_numbered : (n k : ℕ) (nest : List Loop) (accesses : List Access) → length (numbered_accesses n k nest accesses) ≡ length accesses
length_numbered n k nest [] = refl
length_numbered n k nest (a ∷ rest) = ap suc (length_numbered n (suc k) nest rest)

numbered_shallow : (n k : ℕ) (nest : List Loop) (accesses : List Access) → length nest ≤ most_loops_nested
    → AllByRecursion (λ (r : Reference). length r.nest ≤ most_loops_nested) (numbered_accesses n k nest accesses)
numbered_shallow n k nest [] e = tt
numbered_shallow n k nest (a ∷ rest) e = (e, numbered_shallow n (suc k) nest rest e)

own_few : (p : Surroundings) (c : List (List ℕ)) (nest : List Loop) → Tells p c nest → (n : ℕ) (s : StmtTree) → is_within p s ≡ true
    → AreFew most_references (numbered_accesses n 1 nest (own_accesses c (indices_of nest) s))
own_few p c nest h n s e =
    let same = same_accesses p.constants c p.variables (indices_of nest) (λ x. ap (is_among x) h.constants) h.variables s in
    let long = length_numbered n 1 nest (own_accesses c (indices_of nest) s) in
    let alike : length (own_accesses p.constants p.variables s) ≡ length (own_accesses c (indices_of nest) s) = ap length same in
    let few = within_accesses p s e in
    record { few = omega (arith, long, alike, few); shallow = numbered_shallow n 1 nest _ h.few }

or_assoc : (d e f : Bool) → ((d || e) || f) ≡ (d || (e || f))
or_assoc true e f = refl
or_assoc false e f = refl

among_append : (x : List ℕ) (a b : List (List ℕ)) → is_among x (a ++ b) ≡ (is_among x a || is_among x b)
among_append x [] b = refl
among_append x (y ∷ a) b = ap (λ (d : Bool). is_same_text x y || d) (among_append x a b) ∙ sym (or_assoc (is_same_text x y) (is_among x a) (is_among x b))

or_false : (d : Bool) → (d || false) ≡ d
or_false true = refl
or_false false = refl

or_comm : (d e : Bool) → (d || e) ≡ (e || d)
or_comm true true = refl
or_comm true false = refl
or_comm false true = refl
or_comm false false = refl

loop_within : (p : Surroundings) (h : Head) (body : StmtTrees) → loop_fits p h body ≡ true → is_within p (Do h body) ≡ true
loop_within p h body e = first_of _ _ (first_of _ _ (first_of _ _ (first_of _ _ (first_of _ _ (first_of _ _ (first_of _ _ (first_of _ _ (first_of _ _ (first_of _ _ e)))))))))

loop_less : (p : Surroundings) (h : Head) (body : StmtTrees) → loop_fits p h body ≡ true → nat_lt (length p.variables) most_loops_nested ≡ true
loop_less p h body e = second_of _ _ (first_of _ _ (first_of _ _ (first_of _ _ e)))

-- in the body of a DO
tells_loop : (p : Surroundings) (c : List (List ℕ)) (nest : List Loop) → Tells p c nest → (h : Head) (body : StmtTrees) (n : ℕ) → loop_fits p h body ≡ true
    → Tells (in_loop p h) c (nest ++ (record { number = n; head = h }) ∷ [])
tells_loop p c nest t h body n e = record {
  constants = t.constants;
  variables = λ x.
      let others = t.variables x in
      let put = ap (is_among x) (map-append (λ (m : Loop). m.head.variable) nest ((record { number = n; head = h }) ∷ [])) in
      let apart = among_append x (indices_of nest) (h.variable ∷ []) in
      let alone = or_false (is_same_text x h.variable) in
      let turned = or_comm (is_same_text x h.variable) (is_among x p.variables) in
      cc;
  long = let long = length-append nest ((record { number = n; head = h }) ∷ []) in let alike = t.long in omega (arith, long, alike);
  few = let long = length-append nest ((record { number = n; head = h }) ∷ []) in let alike = t.long in
      let less = ltb-true (length p.variables) most_loops_nested (loop_less p h body e) in omega (arith, long, alike, less);
}

tells_moved : (p : Surroundings) (c : List (List ℕ)) (nest : List Loop) (n : ℕ) → Tells p c nest → Tells (moved p n) c nest
tells_moved p c nest n t = record { constants = t.constants; variables = t.variables; long = t.long; few = t.few }

tells_if : (p : Surroundings) (c : List (List ℕ)) (nest : List Loop) (n : ℕ) → Tells p c nest → Tells (in_if p n) c nest
tells_if p c nest n t = record { constants = t.constants; variables = t.variables; long = t.long; few = t.few }

if_within : (p : Surroundings) (s : StmtTree) (b c d f : Bool) → ((((is_within p s && b) && c) && d) && f) ≡ true → is_within p s ≡ true
if_within p s b c d f e = first_of _ _ (first_of _ _ (first_of _ _ (first_of _ _ e)))

mutual
  -- so many statements at most stand before what comes behind a statement that fits
  statement_counted : (p : Surroundings) (s : StmtTree) → stmt_fits p s ≡ true → p.statements ≤ most_statements → p.statements + statement_count s ≤ most_statements
  statement_counted p (Assign left right) e k = within_count p (Assign left right) (simple_within p (Assign left right) (first_of _ _ (first_of _ _ e)))
  statement_counted p (If c a b) e k =
      let one : p.statements + 1 ≤ most_statements = within_count p (If c a b) (first_of _ _ (first_of _ _ (first_of _ _ (first_of _ _ e)))) in
      let first : p.statements + 1 + statements_count a ≤ most_statements = statements_counted (in_if p 1) a (second_of _ _ (first_of _ _ e)) one in
      let second : p.statements + (1 + statements_count a) + statements_count b ≤ most_statements = statements_counted (in_if p (1 + statements_count a)) b (second_of _ _ e) (omega (arith, first)) in
      omega (arith, second)
  statement_counted p (Do h body) e k =
      let one : p.statements + 1 ≤ most_statements = within_count p (Do h body) (loop_within p h body (first_of _ _ e)) in
      let inner : p.statements + 1 + statements_count body ≤ most_statements = statements_counted (in_loop p h) body (second_of _ _ e) one in
      omega (arith, inner)
  statement_counted p (Print items) e k = within_count p (Print items) (simple_within p (Print items) (first_of _ _ e))
  statement_counted p (Read items) e k = within_count p (Read items) (simple_within p (Read items) (first_of _ _ e))
  statement_counted p Stop e k = within_count p Stop (simple_within p Stop e)
  statement_counted p (Comment text) e k = omega (arith, k)

  -- the same of statements
  statements_counted : (p : Surroundings) (ss : StmtTrees) → stmts_fit p ss ≡ true → p.statements ≤ most_statements → p.statements + statements_count ss ≤ most_statements
  statements_counted p no_stmts e k = omega (arith, k)
  statements_counted p (more_stmts s rest) e k =
      let first : p.statements + statement_count s ≤ most_statements = statement_counted p s (first_of _ _ e) k in
      let others : p.statements + statement_count s + statements_count rest ≤ most_statements = statements_counted (moved p (statement_count s)) rest (second_of _ _ e) first in
      omega (arith, others)

mutual
  -- a statement that fits has few references for each of its statements
  statement_few : (p : Surroundings) (c : List (List ℕ)) (nest : List Loop) → Tells p c nest → (n : ℕ) (s : StmtTree) → stmt_fits p s ≡ true
      → AreFew (most_references * statement_count s) (statement_references c nest n s)
  statement_few p c nest t n (Assign left right) e = own_few p c nest t n (Assign left right) (simple_within p (Assign left right) (first_of _ _ (first_of _ _ e)))
  statement_few p c nest t n (If d a b) e =
      let own = own_few p c nest t n (If d a b) (first_of _ _ (first_of _ _ (first_of _ _ (first_of _ _ e)))) in
      let first = statements_few (in_if p 1) c nest (tells_if p c nest 1 t) (n + 1) a (second_of _ _ (first_of _ _ e)) in
      let second = statements_few (in_if p (1 + statements_count a)) c nest (tells_if p c nest (1 + statements_count a) t) (n + 1 + statements_count a) b (second_of _ _ e) in
      few_more _ _ _ (omega arith) (few_append _ _ _ _ (few_append _ _ _ _ own first) second)
  statement_few p c nest t n (Do h body) e =
      let own = own_few p c nest t n (Do h body) (loop_within p h body (first_of _ _ e)) in
      let inner = statements_few (in_loop p h) c (nest ++ (record { number = n; head = h }) ∷ []) (tells_loop p c nest t h body n (first_of _ _ e)) (n + 1) body (second_of _ _ e) in
      few_more _ _ _ (omega arith) (few_append _ _ _ _ own inner)
  statement_few p c nest t n (Print items) e = own_few p c nest t n (Print items) (simple_within p (Print items) (first_of _ _ e))
  statement_few p c nest t n (Read items) e = own_few p c nest t n (Read items) (simple_within p (Read items) (first_of _ _ e))
  statement_few p c nest t n Stop e = none_few _
  statement_few p c nest t n (Comment text) e = none_few _

  -- the same of statements
  statements_few : (p : Surroundings) (c : List (List ℕ)) (nest : List Loop) → Tells p c nest → (n : ℕ) (ss : StmtTrees) → stmts_fit p ss ≡ true
      → AreFew (most_references * statements_count ss) (statements_references c nest n ss)
  statements_few p c nest t n no_stmts e = none_few _
  statements_few p c nest t n (more_stmts s rest) e =
      let first = statement_few p c nest t n s (first_of _ _ e) in
      let others = statements_few (moved p (statement_count s)) c nest (tells_moved p c nest (statement_count s) t) (n + statement_count s) rest (second_of _ _ e) in
      few_more _ _ _ (omega arith) (few_append _ _ _ _ first others)

tells_body : (t : ProgramTree) → Tells (at_body t) (constant_names t.decls) []
tells_body t = record { constants = refl; variables = λ x. refl; long = refl; few = omega arith }

-- a tree that fits is small
pub small_program : (t : ProgramTree) → fits t ≡ true → IsSmall t
small_program t e =
    let body = second_of _ _ (first_of _ _ e) in
    let few = statements_few (at_body t) (constant_names t.decls) [] (tells_body t) 1 t.body body in
    let counted : 0 + statements_count t.body ≤ most_statements = statements_counted (at_body t) t.body body (omega arith) in
    record {
      few_statements = omega (arith, counted);
      few_references = let many : length (references t) ≤ most_references * statements_count t.body = few.few in omega (arith, many, counted);
      shallow = few.shallow;
    }
