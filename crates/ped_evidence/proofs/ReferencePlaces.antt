-- References by their places: each place has one, and numbers count from 1.
use Rattle.std.proofs.Common.{◌≡◌, ℕ, suc, ◌+◌, ◌<◌, ◌≤◌, refl, sym, ap, ◌∙◌, subst, arith, List, [], ◌∷◌, ◌++◌, Bool, true, false, ◌&&◌, ◌==◌, inl, inr, Some, if◌then◌else◌}
use Rattle.std.specs.List.{AllByRecursion}
use Rattle.std.proofs.lemmas.Bool.{and_parts, eqb-true}
use Rattle.ped_tree.specs.Tree.{StmtTree, StmtTrees, Assign, If, Do, Print, Read, Stop, Comment, no_stmts, more_stmts, ProgramTree}
use Rattle.ped_tree.specs.Accesses.{Access, own_accesses, constant_names}
use Rattle.ped_tree.specs.Nests.{Loop, indices_of}
use Rattle.ped_tree.specs.Numbering.{statement_count, statements_count}
use Rattle.ped_refs.specs.References.{Reference, numbered_accesses, statement_references, statements_references, references}
use Rattle.ped_refs.specs.TextPlaces.{IsBefore, place_of}
use Rattle.ped_refs.proofs.Ascending.{Ascending, Precedes, references_ascend}
use Rattle.ped_laws.specs.Acts.Orders.{IsIn}
use Rattle.ped_evidence.specs.Claims.{is_at, reference_at}

-- ---- numbers count from 1

abbrev AllCount : List Reference → Type 0
AllCount rs = AllByRecursion (λ r. 1 ≤ r.number) rs

all_both : (rs qs : List Reference) → AllCount rs → AllCount qs → AllCount (rs ++ qs)
all_both [] qs h k = k
all_both (r ∷ rs) qs h k = (h.0, all_both rs qs h.1 k)

numbers_from : (n k : ℕ) (nest : List Loop) (accesses : List Access) → 1 ≤ k → AllCount (numbered_accesses n k nest accesses)
numbers_from n k nest [] h = tt
numbers_from n k nest (a ∷ rest) h = (h, numbers_from n (suc k) nest rest (omega arith))

module _ (c : List (List ℕ)) where
  own : (n : ℕ) (nest : List Loop) (s : StmtTree) → AllCount (numbered_accesses n 1 nest (own_accesses c (indices_of nest) s))
  own n nest s = numbers_from n 1 nest (own_accesses c (indices_of nest) s) (omega arith)

  mutual
    of_statement : (s : StmtTree) (nest : List Loop) (n : ℕ) → AllCount (statement_references c nest n s)
    of_statement (Assign left right) nest n = own n nest (Assign left right)
    of_statement (If condition a b) nest n =
        all_both (numbered_accesses n 1 nest (own_accesses c (indices_of nest) (If condition a b)) ++ statements_references c nest (n + 1) a) (statements_references c nest (n + 1 + statements_count a) b)
        (all_both (numbered_accesses n 1 nest (own_accesses c (indices_of nest) (If condition a b))) (statements_references c nest (n + 1) a) (own n nest (If condition a b)) (of_statements a nest (n + 1)))
        (of_statements b nest (n + 1 + statements_count a))
    of_statement (Do d b) nest n =
        all_both (numbered_accesses n 1 nest (own_accesses c (indices_of nest) (Do d b))) (statements_references c (nest ++ (record { number = n; head = d }) ∷ []) (n + 1) b) (own n nest (Do d b))
        (of_statements b (nest ++ (record { number = n; head = d }) ∷ []) (n + 1))
    of_statement (Print items) nest n = own n nest (Print items)
    of_statement (Read items) nest n = own n nest (Read items)
    of_statement Stop nest n = tt
    of_statement (Comment text) nest n = tt

    of_statements : (ss : StmtTrees) (nest : List Loop) (n : ℕ) → AllCount (statements_references c nest n ss)
    of_statements no_stmts nest n = tt
    of_statements (more_stmts s rest) nest n =
        all_both (statement_references c nest n s) (statements_references c nest (n + statement_count s) rest) (of_statement s nest n) (of_statements rest nest (n + statement_count s))

count_from_one : (t : ProgramTree) → AllCount (references t)
count_from_one t = of_statements (constant_names t.decls) t.body [] 1

-- ---- the reference at a place

at_parts : (place : ℕ × ℕ) (r : Reference) → is_at place r ≡ true → (r.statement ≡ place.0) × (r.number ≡ place.1)
at_parts place r h =
    let p = and_parts (r.statement == place.0) (r.number == place.1) h in
    (eqb-true r.statement place.0 p.0, eqb-true r.number place.1 p.1)

counted_at : (rs : List Reference) (place : ℕ × ℕ) (r : Reference) → AllCount rs → reference_at rs place ≡ Some r → 1 ≤ place.1
counted_at [] place r h e = absurd cc
counted_at (q ∷ rs) place r h e = by (is_at place q) refl e (λ k. counted_at rs place r h.1 k)
  where
    by : (b : Bool) → is_at place q ≡ b → (if b then Some q else reference_at rs place) ≡ Some r → (reference_at rs place ≡ Some r → 1 ≤ place.1) → 1 ≤ place.1
    by false k e more = more e
    by true k e more = subst (λ (n : ℕ). 1 ≤ n) (at_parts place q k).1 h.0

-- the number of a place at which a reference of the program is counts from 1
pub place_counts : (t : ProgramTree) (place : ℕ × ℕ) (r : Reference) → reference_at (references t) place ≡ Some r → 0 < place.1
place_counts t place r e = let h = counted_at (references t) place r (count_from_one t) e in omega (arith, h)

itself : (n : ℕ) → (n == n) ≡ true
itself n = grind (arith, eqb-true)

is_at_itself : (place : ℕ × ℕ) (r : Reference) → r.statement ≡ place.0 → r.number ≡ place.1 → is_at place r ≡ true
is_at_itself place r e h = subst (λ (n : ℕ). ((r.statement == n) && (r.number == place.1)) ≡ true) e (subst (λ (n : ℕ). ((r.statement == r.statement) && (r.number == n)) ≡ true) h (both r.statement r.number))
  where
    both : (m n : ℕ) → ((m == m) && (n == n)) ≡ true
    both m n = λ i. itself m i && itself n i

-- none comes before itself
apart : (place : ℕ × ℕ) (r q : Reference) → (r.statement ≡ place.0) × (r.number ≡ place.1) → q.statement ≡ place.0 → q.number ≡ place.1 → IsBefore (place_of r) (place_of q) → ⊥
apart place r q h e k (inl less) = absurd (omega (arith, h, e, k, less))
apart place r q h e k (inr less) = absurd (omega (arith, h, e, k, less))

found : (rs : List Reference) (place : ℕ × ℕ) (q : Reference) → Ascending Precedes rs → IsIn q rs → q.statement ≡ place.0 → q.number ≡ place.1 → reference_at rs place ≡ Some q
found [] place q order h e k = absurd h
found (r ∷ rs) place q order (inl same) e k =
    let its : is_at place r ≡ true = ap (is_at place) (sym same) ∙ is_at_itself place q e k in
    ap (λ (b : Bool). if b then Some r else reference_at rs place) its ∙ ap Some (sym same)
found (r ∷ rs) place q order (inr later) e k = by (is_at place r) refl (found rs place q order.1 later e k)
  where
    before : (xs : List Reference) → AllByRecursion (Precedes r) xs → IsIn q xs → IsBefore (place_of r) (place_of q)
    before [] all i = absurd i
    before (x ∷ xs) all (inl same) = subst (λ (z : Reference). IsBefore (place_of r) (place_of z)) (sym same) all.0
    before (x ∷ xs) all (inr i) = before xs all.1 i

    by : (b : Bool) → is_at place r ≡ b → reference_at rs place ≡ Some q → (if b then Some r else reference_at rs place) ≡ Some q
    by false is more = more
    by true is more = absurd (apart place r q (at_parts place r is) e k (before rs order.0 later))

-- a reference of the program is the one at its place
pub reference_found : (t : ProgramTree) (place : ℕ × ℕ) (q : Reference) → IsIn q (references t) → q.statement ≡ place.0 → q.number ≡ place.1 → reference_at (references t) place ≡ Some q
reference_found t place q h = found (references t) place q (references_ascend t) h
