-- The references of a program ascend strictly in text order, and so do its pairs.
use Rattle.std.proofs.Common.{◌≡◌, inl, inr, ℕ, suc, ◌+◌, ◌<◌, ◌≤◌, List, [], ◌∷◌, ◌++◌, map, filter, Bool, true, false, refl, arith}
use Rattle.std.specs.Prelude.{if◌then◌else◌, AllPairs}
use Rattle.std.specs.List.{AllByRecursion, flat_map}
use Rattle.std.proofs.lemmas.List.Elements.{All-from_recursion}
use Rattle.std.proofs.lemmas.List.Kept.{AllPairs-cons}
use Rattle.ped_tree.specs.Tree.{StmtTree, StmtTrees, Assign, If, Do, Print, Read, Stop, Comment, no_stmts, more_stmts, ProgramTree}
use Rattle.ped_tree.specs.Numbering.{statement_count, statements_count}
use Rattle.ped_tree.specs.Accesses.{Access, own_accesses, constant_names}
use Rattle.ped_tree.specs.Nests.{Loop, indices_of}
use Rattle.ped_refs.specs.References.{Reference, is_pair, numbered_accesses, statement_references, statements_references, references, pairs}
use Rattle.ped_refs.specs.TextPlaces.{IsBefore, place_of, key_of, IsKeyBefore}

-- each item stands so to all behind it
abbrev pub Ascending : {X : Type 0} → (X → X → Type 0) → List X → Type 0
Ascending R [] = Unit {0}
Ascending R (x ∷ xs) = AllByRecursion (R x) xs × Ascending R xs

-- the same by places
pub ascending_pairs : {X : Type 0} (R : X → X → Type 0) (xs : List X) → Ascending R xs → AllPairs R xs
ascending_pairs R [] h = λ i j d less below. absurd (omega (arith, below))
ascending_pairs R (x ∷ xs) h = AllPairs-cons R x xs (All-from_recursion _ xs h.0) (ascending_pairs R xs h.1)

pub all_mapped : {X Y : Type 0} (f : X → Y) (P : X → Type 0) (Q : Y → Type 0) → ((x : X) → P x → Q (f x)) → (xs : List X) → AllByRecursion P xs → AllByRecursion Q (map f xs)
all_mapped f P Q g [] h = tt
all_mapped f P Q g (x ∷ xs) h = (g x h.0, all_mapped f P Q g xs h.1)

-- what is made of each item ascends, too
pub ascending_mapped : {X Y : Type 0} (f : X → Y) (R : X → X → Type 0) (S : Y → Y → Type 0) → ((x y : X) → R x y → S (f x) (f y)) → (xs : List X) → Ascending R xs → Ascending S (map f xs)
ascending_mapped f R S g [] h = tt
ascending_mapped f R S g (x ∷ xs) h = (all_mapped f (R x) (S (f x)) (g x) xs h.0, ascending_mapped f R S g xs h.1)

all_if : {X : Type 0} (P : X → Type 0) (b : Bool) (x : X) (xs : List X) → P x → AllByRecursion P xs → AllByRecursion P (if b then x ∷ xs else xs)
all_if P true x xs h k = (h, k)
all_if P false x xs h k = k

all_filtered : {X : Type 0} (P : X → Type 0) (p : X → Bool) (xs : List X) → AllByRecursion P xs → AllByRecursion P (filter p xs)
all_filtered P p [] h = tt
all_filtered P p (x ∷ xs) h = all_if P (p x) x (filter p xs) h.0 (all_filtered P p xs h.1)

ascending_if : {X : Type 0} (R : X → X → Type 0) (b : Bool) (x : X) (xs : List X) → AllByRecursion (R x) xs → Ascending R xs → Ascending R (if b then x ∷ xs else xs)
ascending_if R true x xs h k = (h, k)
ascending_if R false x xs h k = k

ascending_filtered : {X : Type 0} (R : X → X → Type 0) (p : X → Bool) (xs : List X) → Ascending R xs → Ascending R (filter p xs)
ascending_filtered R p [] h = tt
ascending_filtered R p (x ∷ xs) h = ascending_if R (p x) x (filter p xs) (all_filtered (R x) p xs h.0) (ascending_filtered R p xs h.1)

pub all_joined : {X : Type 0} (P : X → Type 0) (xs ys : List X) → AllByRecursion P xs → AllByRecursion P ys → AllByRecursion P (xs ++ ys)
all_joined P [] ys h k = k
all_joined P (x ∷ xs) ys h k = (h.0, all_joined P xs ys h.1 k)

ascending_joined : {X : Type 0} (R : X → X → Type 0) (xs ys : List X) → Ascending R xs → Ascending R ys → AllByRecursion (λ x. AllByRecursion (R x) ys) xs → Ascending R (xs ++ ys)
ascending_joined R [] ys h k across = k
ascending_joined R (x ∷ xs) ys h k across = (all_joined (R x) xs ys h.0 across.0, ascending_joined R xs ys h.1 k across.1)

pub all_told : {X : Type 0} (P Q : X → Type 0) → ((x : X) → P x → Q x) → (xs : List X) → AllByRecursion P xs → AllByRecursion Q xs
all_told P Q g [] h = tt
all_told P Q g (x ∷ xs) h = (g x h.0, all_told P Q g xs h.1)

-- the first reference comes before the second
abbrev pub Precedes : Reference → Reference → Type 0
Precedes r s = IsBefore (place_of r) (place_of s)

-- references of statements from one number up to below another, in text order
record Stand (low high : ℕ) (refs : List Reference) : Type 0 where
  pub within : AllByRecursion (λ r. (low ≤ r.statement) × (r.statement < high)) refs
  pub ascending : Ascending Precedes refs

none_stand : (low high : ℕ) → Stand low high []
none_stand low high = record { within = tt; ascending = tt }

wider : (a b c d : ℕ) (refs : List Reference) → a ≤ b → c ≤ d → Stand b c refs → Stand a d refs
wider a b c d refs e f h = record {
  within = all_told _ _ (λ r p. let low = p.0 in let high = p.1 in (omega (arith, low, e), omega (arith, high, f))) refs h.within;
  ascending = h.ascending;
}

joined : (a b c : ℕ) (refs more : List Reference) → a ≤ b → b ≤ c → Stand a b refs → Stand b c more → Stand a c (refs ++ more)
joined a b c refs more e f h k = record {
  within = all_joined _ refs more (wider a a b c refs (omega arith) f h).within (wider a b c c more e (omega arith) k).within;
  ascending = ascending_joined Precedes refs more h.ascending k.ascending
      (all_told _ _ (λ r p. all_told _ _ (λ s q. inl (let less = p.1 in let least = q.0 in omega (arith, less, least))) more k.within) refs h.within);
}

-- the accesses of one statement
numbers_from : (n number : ℕ) (nest : List Loop) (accesses : List Access) → AllByRecursion (λ r. (r.statement ≡ n) × (number ≤ r.number)) (numbered_accesses n number nest accesses)
numbers_from n number nest [] = tt
numbers_from n number nest (a ∷ rest) = ((refl, omega arith), all_told _ _ (λ r p. let more = p.1 in (p.0, omega (arith, more))) _ (numbers_from n (suc number) nest rest))

own_ascending : (n number : ℕ) (nest : List Loop) (accesses : List Access) → Ascending Precedes (numbered_accesses n number nest accesses)
own_ascending n number nest [] = tt
own_ascending n number nest (a ∷ rest) =
    (all_told _ _ (λ r p. let is = p.0 in let more = p.1 in inr (omega (arith, is), omega (arith, more))) _ (numbers_from n (suc number) nest rest), own_ascending n (suc number) nest rest)

own_stand : (n : ℕ) (nest : List Loop) (accesses : List Access) → Stand n (n + 1) (numbered_accesses n 1 nest accesses)
own_stand n nest accesses = record {
  within = all_told _ _ (λ r p. let is = p.0 in (omega (arith, is), omega (arith, is))) _ (numbers_from n 1 nest accesses);
  ascending = own_ascending n 1 nest accesses;
}

mutual
  statement_stand : (c : List (List ℕ)) (nest : List Loop) (n : ℕ) (s : StmtTree) → Stand n (n + statement_count s) (statement_references c nest n s)
  statement_stand c nest n (Assign left right) = own_stand n nest (own_accesses c (indices_of nest) (Assign left right))
  statement_stand c nest n (If condition a b) =
      let own : List Reference = numbered_accesses n 1 nest (own_accesses c (indices_of nest) (If condition a b)) in
      wider n n (n + 1 + statements_count a + statements_count b) (n + statement_count (If condition a b)) _ (omega arith) (omega arith)
      (joined n (n + 1 + statements_count a) (n + 1 + statements_count a + statements_count b) (own ++ statements_references c nest (n + 1) a) (statements_references c nest (n + 1 + statements_count a) b) (omega arith) (omega arith)
      (joined n (n + 1) (n + 1 + statements_count a) own (statements_references c nest (n + 1) a) (omega arith) (omega arith) (own_stand n nest (own_accesses c (indices_of nest) (If condition a b))) (statements_stand c nest (n + 1) a))
      (statements_stand c nest (n + 1 + statements_count a) b))
  statement_stand c nest n (Do h body) =
      let own : List Reference = numbered_accesses n 1 nest (own_accesses c (indices_of nest) (Do h body)) in
      let inner : List Loop = nest ++ (record { number = n; head = h }) ∷ [] in
      wider n n (n + 1 + statements_count body) (n + statement_count (Do h body)) _ (omega arith) (omega arith)
      (joined n (n + 1) (n + 1 + statements_count body) own (statements_references c inner (n + 1) body) (omega arith) (omega arith) (own_stand n nest (own_accesses c (indices_of nest) (Do h body))) (statements_stand c inner (n + 1) body))
  statement_stand c nest n (Print items) = own_stand n nest (own_accesses c (indices_of nest) (Print items))
  statement_stand c nest n (Read items) = own_stand n nest (own_accesses c (indices_of nest) (Read items))
  statement_stand c nest n Stop = none_stand _ _
  statement_stand c nest n (Comment text) = none_stand _ _

  statements_stand : (c : List (List ℕ)) (nest : List Loop) (n : ℕ) (ss : StmtTrees) → Stand n (n + statements_count ss) (statements_references c nest n ss)
  statements_stand c nest n no_stmts = none_stand _ _
  statements_stand c nest n (more_stmts s rest) =
      wider n n (n + statement_count s + statements_count rest) (n + statements_count (more_stmts s rest)) _ (omega arith) (omega arith)
      (joined n (n + statement_count s) (n + statement_count s + statements_count rest) (statement_references c nest n s) (statements_references c nest (n + statement_count s) rest) (omega arith) (omega arith)
      (statement_stand c nest n s) (statements_stand c nest (n + statement_count s) rest))

-- the references of a program have the numbers of its statements, which count from 1
pub references_within : (t : ProgramTree) → AllByRecursion (λ r. (1 ≤ r.statement) × (r.statement < 1 + statements_count t.body)) (references t)
references_within t = (statements_stand (constant_names t.decls) [] 1 t.body).within

-- the references of a program ascend strictly
pub references_ascend : (t : ProgramTree) → Ascending Precedes (references t)
references_ascend t = (statements_stand (constant_names t.decls) [] 1 t.body).ascending

-- the first pair comes before the second
abbrev pub PairPrecedes : Reference × Reference → Reference × Reference → Type 0
PairPrecedes p q = IsKeyBefore (key_of p) (key_of q)

-- the pairs of one source
row_ascends : (r : Reference) (refs : List Reference) → Ascending Precedes refs → Ascending PairPrecedes (map (λ sink. (r, sink)) refs)
row_ascends r refs h = ascending_mapped (λ sink. (r, sink)) Precedes PairPrecedes (λ s k before. inr (refl, before)) refs h

abbrev row_of : List Reference → Reference → List (Reference × Reference)
row_of refs r = map (λ sink. (r, sink)) (filter (is_pair r) refs)

row_source : (P : Reference → Type 0) (r : Reference) (refs : List Reference) → P r → AllByRecursion (λ (p : Reference × Reference). P p.0) (map (λ sink. (r, sink)) refs)
row_source P r [] h = tt
row_source P r (s ∷ refs) h = (h, row_source P r refs h)

rows_sources : (P : Reference → Type 0) (refs sources : List Reference) → AllByRecursion P sources → AllByRecursion (λ (p : Reference × Reference). P p.0) (flat_map (row_of refs) sources)
rows_sources P refs [] h = tt
rows_sources P refs (r ∷ sources) h = all_joined _ (row_of refs r) (flat_map (row_of refs) sources) (row_source P r (filter (is_pair r) refs) h.0) (rows_sources P refs sources h.1)

behind_row : (r : Reference) (sinks : List Reference) (later : List (Reference × Reference)) → AllByRecursion (λ (q : Reference × Reference). Precedes r q.0) later
    → AllByRecursion (λ (p : Reference × Reference). AllByRecursion (PairPrecedes p) later) (map (λ sink. (r, sink)) sinks)
behind_row r [] later h = tt
behind_row r (s ∷ sinks) later h = (all_told _ _ (λ q before. inl before) later h, behind_row r sinks later h)

rows_ascend : (refs sources : List Reference) → Ascending Precedes refs → Ascending Precedes sources → Ascending PairPrecedes (flat_map (row_of refs) sources)
rows_ascend refs [] h k = tt
rows_ascend refs (r ∷ sources) h k =
    ascending_joined PairPrecedes (row_of refs r) (flat_map (row_of refs) sources)
    (row_ascends r (filter (is_pair r) refs) (ascending_filtered Precedes (is_pair r) refs h))
    (rows_ascend refs sources h k.1)
    (behind_row r (filter (is_pair r) refs) (flat_map (row_of refs) sources) (rows_sources (Precedes r) refs sources k.0))

-- the pairs of a program ascend strictly
pub pairs_ascend : (t : ProgramTree) → Ascending PairPrecedes (pairs (references t))
pairs_ascend t = rows_ascend (references t) (references t) (references_ascend t) (references_ascend t)
