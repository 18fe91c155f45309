-- The references of a program stand in text order, and DO loops round them have numbers from 1 on.
use Rattle.std.proofs.Common.{◌≡◌, ℕ, zero, suc, ◌+◌, ◌<◌, ◌≤◌, List, [], ◌∷◌, ◌++◌, take, drop, length, get_or, filter, Bool, true, false, not, eqb, refl, ap, sym, arith}
use Rattle.std.specs.Prelude.{nat_le, if◌then◌else◌}
use Rattle.std.proofs.lemmas.Bool.{ne_eqb, le-leb, lt-leb}
use Rattle.ped_base.specs.Lists.{has_some}
use Rattle.ped_tree.specs.Tree.{StmtTree, StmtTrees, Assign, If, Do, Print, Read, Stop, Comment, no_stmts, more_stmts, ProgramTree}
use Rattle.ped_tree.specs.Numbering.{statement_count, statements_count}
use Rattle.ped_tree.specs.Accesses.{Access, own_accesses, constant_names}
use Rattle.ped_tree.specs.Nests.{Loop, indices_of}
use Rattle.ped_refs.specs.References.{Reference, numbered_accesses, statement_references, statements_references, references, outermost_number}
use Rattle.ped_refs.specs.Tallies.{AreNumbered}

-- statements don't fall, from one number to another
abbrev pub Between : ℕ → ℕ → List Reference → Type 0
Between low high [] = low ≤ high
Between low high (r ∷ refs) = (low ≤ r.statement) × Between r.statement high refs

lower : (a b high : ℕ) (refs : List Reference) → a ≤ b → Between b high refs → Between a high refs
lower a b high [] h k = omega arith
lower a b high (r ∷ refs) h k = (omega (arith, k.0), k.1)

higher : (a b c : ℕ) (refs : List Reference) → b ≤ c → Between a b refs → Between a c refs
higher a b c [] h k = omega arith
higher a b c (r ∷ refs) h k = (k.0, higher r.statement b c refs h k.1)

-- where some are in order, and those behind them are
between_append : (a b c : ℕ) (refs more : List Reference) → Between a b refs → Between b c more → Between a c (refs ++ more)
between_append a b c [] more h k = lower a b c more h k
between_append a b c (r ∷ refs) more h k = (h.0, between_append r.statement b c refs more h.1 k)

numbered_between : (n number : ℕ) (nest : List Loop) (accesses : List Access) → Between n (n + 1) (numbered_accesses n number nest accesses)
numbered_between n number nest [] = omega arith
numbered_between n number nest (a ∷ rest) = (omega arith, numbered_between n (suc number) nest rest)

mutual
  statement_between : (c : List (List ℕ)) (nest : List Loop) (n : ℕ) (s : StmtTree) → Between n (n + statement_count s) (statement_references c nest n s)
  statement_between c nest n (Assign left right) = numbered_between n 1 nest (own_accesses c (indices_of nest) (Assign left right))
  statement_between c nest n (If condition a b) =
      let own : List Reference = numbered_accesses n 1 nest (own_accesses c (indices_of nest) (If condition a b)) in
      higher n (n + 1 + statements_count a + statements_count b) (n + statement_count (If condition a b)) _ (omega arith)
      (between_append n (n + 1 + statements_count a) (n + 1 + statements_count a + statements_count b) (own ++ statements_references c nest (n + 1) a) (statements_references c nest (n + 1 + statements_count a) b)
      (between_append n (n + 1) (n + 1 + statements_count a) own (statements_references c nest (n + 1) a) (numbered_between n 1 nest (own_accesses c (indices_of nest) (If condition a b))) (statements_between c nest (n + 1) a))
      (statements_between c nest (n + 1 + statements_count a) b))
  statement_between c nest n (Do h body) =
      let own : List Reference = numbered_accesses n 1 nest (own_accesses c (indices_of nest) (Do h body)) in
      let inner : List Loop = nest ++ (record { number = n; head = h }) ∷ [] in
      higher n (n + 1 + statements_count body) (n + statement_count (Do h body)) _ (omega arith)
      (between_append n (n + 1) (n + 1 + statements_count body) own (statements_references c inner (n + 1) body) (numbered_between n 1 nest (own_accesses c (indices_of nest) (Do h body))) (statements_between c inner (n + 1) body))
  statement_between c nest n (Print items) = numbered_between n 1 nest (own_accesses c (indices_of nest) (Print items))
  statement_between c nest n (Read items) = numbered_between n 1 nest (own_accesses c (indices_of nest) (Read items))
  statement_between c nest n Stop = omega arith
  statement_between c nest n (Comment text) = omega arith

  statements_between : (c : List (List ℕ)) (nest : List Loop) (n : ℕ) (ss : StmtTrees) → Between n (n + statements_count ss) (statements_references c nest n ss)
  statements_between c nest n no_stmts = omega arith
  statements_between c nest n (more_stmts s rest) =
      higher n (n + statement_count s + statements_count rest) (n + statements_count (more_stmts s rest)) _ (omega arith)
      (between_append n (n + statement_count s) (n + statement_count s + statements_count rest) (statement_references c nest n s) (statements_references c nest (n + statement_count s) rest) (statement_between c nest n s) (statements_between c nest (n + statement_count s) rest))

-- the references of a program stand in the order of their statements
pub references_between : (t : ProgramTree) → Between 1 (1 + statements_count t.body) (references t)
references_between t = statements_between (constant_names t.decls) [] 1 t.body

numbered_append : (refs more : List Reference) → AreNumbered refs → AreNumbered more → AreNumbered (refs ++ more)
numbered_append [] more h k = k
numbered_append (r ∷ refs) more h k = (h.0, numbered_append refs more h.1 k)

-- DO loops round a statement have numbers that aren't 0
abbrev IsNumberedNest : List Loop → Type 0
IsNumberedNest nest = has_some nest ≡ not (eqb (outermost_number nest) 0)

own_numbered : (n number : ℕ) (nest : List Loop) (accesses : List Access) → IsNumberedNest nest → AreNumbered (numbered_accesses n number nest accesses)
own_numbered n number nest [] h = tt
own_numbered n number nest (a ∷ rest) h = (h, own_numbered n (suc number) nest rest h)

nest_more : (nest : List Loop) (l : Loop) → IsNumberedNest nest → 0 < l.number → IsNumberedNest (nest ++ l ∷ [])
nest_more [] l h k = ap not (sym (ne_eqb l.number 0 (λ e. omega (arith, e, k))))
nest_more (m ∷ ms) l h k = h

mutual
  statement_numbered : (c : List (List ℕ)) (nest : List Loop) (n : ℕ) (s : StmtTree) → IsNumberedNest nest → 0 < n → AreNumbered (statement_references c nest n s)
  statement_numbered c nest n (Assign left right) h k = own_numbered n 1 nest (own_accesses c (indices_of nest) (Assign left right)) h
  statement_numbered c nest n (If condition a b) h k =
      let own : List Reference = numbered_accesses n 1 nest (own_accesses c (indices_of nest) (If condition a b)) in
      numbered_append (own ++ statements_references c nest (n + 1) a) (statements_references c nest (n + 1 + statements_count a) b)
      (numbered_append own (statements_references c nest (n + 1) a) (own_numbered n 1 nest (own_accesses c (indices_of nest) (If condition a b)) h) (statements_numbered c nest (n + 1) a h (omega arith)))
      (statements_numbered c nest (n + 1 + statements_count a) b h (omega arith))
  statement_numbered c nest n (Do head body) h k =
      let l : Loop = record { number = n; head = head } in
      numbered_append (numbered_accesses n 1 nest (own_accesses c (indices_of nest) (Do head body))) (statements_references c (nest ++ l ∷ []) (n + 1) body)
      (own_numbered n 1 nest (own_accesses c (indices_of nest) (Do head body)) h)
      (statements_numbered c (nest ++ l ∷ []) (n + 1) body (nest_more nest l h k) (omega arith))
  statement_numbered c nest n (Print items) h k = own_numbered n 1 nest (own_accesses c (indices_of nest) (Print items)) h
  statement_numbered c nest n (Read items) h k = own_numbered n 1 nest (own_accesses c (indices_of nest) (Read items)) h
  statement_numbered c nest n Stop h k = tt
  statement_numbered c nest n (Comment text) h k = tt

  statements_numbered : (c : List (List ℕ)) (nest : List Loop) (n : ℕ) (ss : StmtTrees) → IsNumberedNest nest → 0 < n → AreNumbered (statements_references c nest n ss)
  statements_numbered c nest n no_stmts h k = tt
  statements_numbered c nest n (more_stmts s rest) h k =
      numbered_append (statement_references c nest n s) (statements_references c nest (n + statement_count s) rest) (statement_numbered c nest n s h k) (statements_numbered c nest (n + statement_count s) rest h (omega arith))

-- the DO loops round the references of a program have numbers that aren't 0
pub references_numbered : (t : ProgramTree) → AreNumbered (references t)
references_numbered t = statements_numbered (constant_names t.decls) [] 1 t.body refl (omega arith)

at_least : (low high : ℕ) (refs : List Reference) (i : ℕ) (d : Reference) → Between low high refs → i < length refs → low ≤ (get_or refs i d).statement
at_least low high [] i d h k = absurd (omega arith)
at_least low high (r ∷ refs) zero d h k = h.0
at_least low high (r ∷ refs) (suc i) d h k = omega (arith, h.0, at_least r.statement high refs i d h.1 (omega arith))

-- the references of the statements up to a number
abbrev up_to : ℕ → Reference → Bool
up_to number r = nat_le r.statement number

kept : {A : Type 0} (b : Bool) (x : A) (xs ys : List A) → b ≡ true → xs ≡ ys → (if b then x ∷ xs else xs) ≡ x ∷ ys
kept true x xs ys h k = ap (λ zs. x ∷ zs) k
kept false x xs ys h k = absurd cc

left_out : {A : Type 0} (b : Bool) (x : A) (xs ys : List A) → b ≡ false → xs ≡ ys → (if b then x ∷ xs else xs) ≡ ys
left_out true x xs ys h k = absurd cc
left_out false x xs ys h k = k

-- those up to one of them have statements up to its own
pub front_kept : (low high : ℕ) (refs : List Reference) (i : ℕ) (d : Reference) → Between low high refs → i < length refs
    → filter (up_to (get_or refs i d).statement) (take (suc i) refs) ≡ take (suc i) refs
front_kept low high [] i d h k = absurd (omega arith)
front_kept low high (r ∷ refs) zero d h k = kept (nat_le r.statement r.statement) r [] [] (le-leb r.statement r.statement (omega arith)) refl
front_kept low high (r ∷ refs) (suc i) d h k =
    let s : ℕ = (get_or refs i d).statement in
    kept (nat_le r.statement s) r (filter (up_to s) (take (suc i) refs)) (take (suc i) refs) (le-leb r.statement s (at_least r.statement high refs i d h.1 (omega arith))) (front_kept r.statement high refs i d h.1 (omega arith))

none_kept : (low high : ℕ) (refs : List Reference) (number : ℕ) → Between low high refs → number < low → filter (up_to number) refs ≡ []
none_kept low high [] number h k = refl
none_kept low high (r ∷ refs) number h k = left_out (nat_le r.statement number) r (filter (up_to number) refs) [] (lt-leb r.statement number (omega (arith, h.0))) (none_kept r.statement high refs number h.1 (omega (arith, h.0)))

-- those from one of them on have statements from its own on
pub rest_left_out : (low high : ℕ) (refs : List Reference) (i : ℕ) (d : Reference) (number : ℕ) → Between low high refs → i < length refs → number < (get_or refs i d).statement
    → filter (up_to number) (drop i refs) ≡ []
rest_left_out low high [] i d number h k less = absurd (omega arith)
rest_left_out low high (r ∷ refs) zero d number h k less = none_kept r.statement high (r ∷ refs) number (omega arith, h.1) less
rest_left_out low high (r ∷ refs) (suc i) d number h k less = rest_left_out r.statement high refs i d number h.1 (omega arith) less
