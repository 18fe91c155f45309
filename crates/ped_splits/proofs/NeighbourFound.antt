-- The DO with a number and the one that comes next behind it, found in the tree: so there is one such pair at most, and whether there is one is decided.
use Rattle.std.proofs.Common.{◌≡◌, ◌⊎◌, ℕ, ◌+◌, ◌<◌, ◌≤◌, ◌==◌, nat_lt, List, Bool, true, false, Option, Some, None, inl, inr, if◌then◌else◌, refl, sym, ap, subst, ◌∙◌, arith, eqb-true, eq-eqb, ne_eqb, lt-ltb, le-ltb}
use Rattle.ped_tree.specs.Tree.{CondTree, Head, StmtTree, StmtTrees, Assign, If, Do, Print, Read, Stop, Comment, no_stmts, more_stmts, ProgramTree}
use Rattle.ped_tree.specs.Numbering.{statement_count, statements_count}
use Rattle.ped_rules.specs.ped_steps.specs.Replacing.{followed, alone}
use Rattle.ped_rules.specs.ped_steps.specs.Runs.Gaps.{Gap, at_front, past, in_then, in_else, in_body, filled, number_at}
use Rattle.ped_rules.specs.ped_steps.proofs.Followed.{followed-assoc}
use Rattle.ped_rules.specs.ped_steps.proofs.RunLaws.FilledGaps.{number_from, number_room}
use Rattle.ped_splits.specs.Neighbours.{Neighbour}

-- where the two stand, and what they are
pub record Found : Type 0 where
  pub gap : Gap
  pub own : Head
  pub own_body : StmtTrees
  pub between : StmtTrees
  pub next : Head
  pub next_body : StmtTrees

-- the two, and what is between them
abbrev pub pair_of : Found → StmtTrees
pair_of f = more_stmts (Do f.own f.own_body) (followed f.between (alone (Do f.next f.next_body)))

-- the first statement that is no comment, where it is a DO; with what stands before it and behind it
pub record Behind : Type 0 where
  pub between : StmtTrees
  pub next : Head
  pub next_body : StmtTrees
  pub rest : StmtTrees

-- with one comment more before it
abbrev pub further_back : List ℕ → Behind → Behind
further_back text b = record b { between = more_stmts (Comment text) b.between }

abbrev pub with_comment : List ℕ → Option Behind → Option Behind
with_comment text None = None
with_comment text (Some b) = Some (further_back text b)

-- a DO that comes first
abbrev pub at_once : Head → StmtTrees → StmtTrees → Behind
at_once h body rest = record { between = no_stmts; next = h; next_body = body; rest = rest }

abbrev pub next_in : StmtTrees → Option Behind
next_in no_stmts = None
next_in (more_stmts (Assign left right) rest) = None
next_in (more_stmts (If c a b) rest) = None
next_in (more_stmts (Do h body) rest) = Some (at_once h body rest)
next_in (more_stmts (Print items) rest) = None
next_in (more_stmts (Read items) rest) = None
next_in (more_stmts Stop rest) = None
next_in (more_stmts (Comment text) rest) = with_comment text (next_in rest)

abbrev pub both_found : Head → StmtTrees → Behind → Found
both_found h body b = record { gap = at_front b.rest; own = h; own_body = body; between = b.between; next = b.next; next_body = b.next_body }

abbrev pub paired : Head → StmtTrees → Option Behind → Option Found
paired h body None = None
paired h body (Some b) = Some (both_found h body b)

-- in a gap further out
abbrev pub wrapped : (Gap → Gap) → Found → Found
wrapped wrap f = record f { gap = wrap f.gap }

abbrev pub outwards : (Gap → Gap) → Option Found → Option Found
outwards wrap None = None
outwards wrap (Some f) = Some (wrapped wrap f)

-- a DO in the place of the sought statement
abbrev pub here : StmtTree → StmtTrees → Option Found
here (Assign left right) rest = None
here (If c a b) rest = None
here (Do h body) rest = paired h body (next_in rest)
here (Print items) rest = None
here (Read items) rest = None
here Stop rest = None
here (Comment text) rest = None

-- the two, where the sought statement is a DO and such a DO comes next
abbrev mutual
  pub sought_in : ℕ → StmtTrees → ℕ → Option Found
  sought_in s no_stmts n = None
  sought_in s (more_stmts x rest) n =
      if nat_lt s (n + statement_count x) then (if n == s then here x rest else inside s x rest n) else outwards (past x) (sought_in s rest (n + statement_count x))

  pub inside : ℕ → StmtTree → StmtTrees → ℕ → Option Found
  inside s (Assign left right) rest n = None
  inside s (If c a b) rest n =
      if nat_lt s (n + 1 + statements_count a) then outwards (λ g. in_then c g b rest) (sought_in s a (n + 1)) else outwards (λ g. in_else c a g rest) (sought_in s b (n + 1 + statements_count a))
  inside s (Do h body) rest n = outwards (λ g. in_body h g rest) (sought_in s body (n + 1))
  inside s (Print items) rest n = None
  inside s (Read items) rest n = None
  inside s Stop rest n = None
  inside s (Comment text) rest n = None

-- what is told by a test that passes, or fails
if_true : {A : Type 0} (b : Bool) (x y : A) → b ≡ true → (if b then x else y) ≡ x
if_true true x y e = refl
if_true false x y e = absurd cc

if_false : {A : Type 0} (b : Bool) (x y : A) → b ≡ false → (if b then x else y) ≡ y
if_false true x y e = absurd cc
if_false false x y e = refl

less : (a b : ℕ) → a < b → nat_lt a b ≡ true
less a b h = lt-ltb a b h

not_less : (a b : ℕ) → b ≤ a → nat_lt a b ≡ false
not_less a b h = le-ltb a b h

same : (a b : ℕ) → a ≡ b → (a == b) ≡ true
same a b h = eq-eqb a b h

other : (a b : ℕ) → a < b → (a == b) ≡ false
other a b h = ne_eqb a b (λ e. omega (arith, h, e))

-- the next DO is found behind comments
next_found : (between : StmtTrees) (h : Head) (body rest : StmtTrees) → statements_count between ≡ 0
    → next_in (followed between (more_stmts (Do h body) rest)) ≡ Some (record { between = between; next = h; next_body = body; rest = rest })
next_found no_stmts h body rest e = refl
next_found (more_stmts (Assign left right) others) h body rest e = absurd (omega (arith, e))
next_found (more_stmts (If c a b) others) h body rest e = absurd (omega (arith, e))
next_found (more_stmts (Do g b) others) h body rest e = absurd (omega (arith, e))
next_found (more_stmts (Print items) others) h body rest e = absurd (omega (arith, e))
next_found (more_stmts (Read items) others) h body rest e = absurd (omega (arith, e))
next_found (more_stmts Stop others) h body rest e = absurd (omega (arith, e))
next_found (more_stmts (Comment text) others) h body rest e = ap (with_comment text) (next_found others h body rest (omega (arith, e)))

-- where the sought statement stands: here, further on, or in this one
found_here : (s : ℕ) (x : StmtTree) (rest : StmtTrees) (n : ℕ) → n ≡ s → s < n + statement_count x → sought_in s (more_stmts x rest) n ≡ here x rest
found_here s x rest n e lt =
    if_true (nat_lt s (n + statement_count x)) (if n == s then here x rest else inside s x rest n) (outwards (past x) (sought_in s rest (n + statement_count x))) (less s (n + statement_count x) lt)
    ∙ if_true (n == s) (here x rest) (inside s x rest n) (same n s e)

found_later : (s : ℕ) (x : StmtTree) (rest : StmtTrees) (n : ℕ) → n + statement_count x ≤ s → sought_in s (more_stmts x rest) n ≡ outwards (past x) (sought_in s rest (n + statement_count x))
found_later s x rest n le =
    if_false (nat_lt s (n + statement_count x)) (if n == s then here x rest else inside s x rest n) (outwards (past x) (sought_in s rest (n + statement_count x))) (not_less s (n + statement_count x) le)

found_inside : (s : ℕ) (x : StmtTree) (rest : StmtTrees) (n : ℕ) → n < s → s < n + statement_count x → sought_in s (more_stmts x rest) n ≡ inside s x rest n
found_inside s x rest n from lt =
    if_true (nat_lt s (n + statement_count x)) (if n == s then here x rest else inside s x rest n) (outwards (past x) (sought_in s rest (n + statement_count x))) (less s (n + statement_count x) lt)
    ∙ if_false (n == s) (here x rest) (inside s x rest n) (other n s from)

found_in_then : (s : ℕ) (c : CondTree) (a b rest : StmtTrees) (n : ℕ) → s < n + 1 + statements_count a → inside s (If c a b) rest n ≡ outwards (λ g. in_then c g b rest) (sought_in s a (n + 1))
found_in_then s c a b rest n lt =
    if_true (nat_lt s (n + 1 + statements_count a)) (outwards (λ g. in_then c g b rest) (sought_in s a (n + 1))) (outwards (λ g. in_else c a g rest) (sought_in s b (n + 1 + statements_count a))) (less s (n + 1 + statements_count a) lt)

found_in_else : (s : ℕ) (c : CondTree) (a b rest : StmtTrees) (n : ℕ) → n + 1 + statements_count a ≤ s → inside s (If c a b) rest n ≡ outwards (λ g. in_else c a g rest) (sought_in s b (n + 1 + statements_count a))
found_in_else s c a b rest n le =
    if_false (nat_lt s (n + 1 + statements_count a)) (outwards (λ g. in_then c g b rest) (sought_in s a (n + 1))) (outwards (λ g. in_else c a g rest) (sought_in s b (n + 1 + statements_count a))) (not_less s (n + 1 + statements_count a) le)

-- the two are found wherever they stand
module _ (s : ℕ) (own : Head) (own_body between : StmtTrees) (next : Head) (next_body : StmtTrees) (comments : statements_count between ≡ 0) where
  abbrev two : StmtTrees
  two = more_stmts (Do own own_body) (followed between (alone (Do next next_body)))

  abbrev as_found : Gap → Found
  as_found g = record { gap = g; own = own; own_body = own_body; between = between; next = next; next_body = next_body }

  pub found : (g : Gap) (n : ℕ) → number_at g n ≡ s → sought_in s (filled g two) n ≡ Some (as_found g)
  found (at_front rest) n e =
      found_here s (Do own own_body) (followed (followed between (alone (Do next next_body))) rest) n e (omega (arith, e))
      ∙ ap (paired own own_body) (ap next_in (followed-assoc between (alone (Do next next_body)) rest) ∙ next_found between next next_body rest comments)
  found (past x g) n e =
      let from = number_from g (n + statement_count x) in
      found_later s x (filled g two) n (omega (arith, e, from)) ∙ ap (outwards (past x)) (found g (n + statement_count x) e)
  found (in_then c g b rest) n e =
      let from = number_from g (n + 1) in
      let room = number_room g two (n + 1) in
      found_inside s (If c (filled g two) b) rest n (omega (arith, e, from)) (omega (arith, e, room))
      ∙ (found_in_then s c (filled g two) b rest n (omega (arith, e, room)) ∙ ap (outwards (λ k. in_then c k b rest)) (found g (n + 1) e))
  found (in_else c a g rest) n e =
      let from = number_from g (n + 1 + statements_count a) in
      let room = number_room g two (n + 1 + statements_count a) in
      found_inside s (If c a (filled g two)) rest n (omega (arith, e, from)) (omega (arith, e, room))
      ∙ (found_in_else s c a (filled g two) rest n (omega (arith, e, from)) ∙ ap (outwards (λ k. in_else c a k rest)) (found g (n + 1 + statements_count a) e))
  found (in_body h g rest) n e =
      let from = number_from g (n + 1) in
      let room = number_room g two (n + 1) in
      found_inside s (Do h (filled g two)) rest n (omega (arith, e, from)) (omega (arith, e, room)) ∙ ap (outwards (λ k. in_body h k rest)) (found g (n + 1) e)

-- what is found in a program
abbrev pub found_of : {t : ProgramTree} {s : ℕ} → Neighbour t s → Found
found_of x = record { gap = x.gap; own = x.own; own_body = x.own_body; between = x.between; next = x.next; next_body = x.next_body }

pub is_found : (t : ProgramTree) (s : ℕ) (x : Neighbour t s) → sought_in s t.body 1 ≡ Some (found_of x)
is_found t s x = ap (λ (ts : StmtTrees). sought_in s ts 1) x.stands ∙ found s x.own x.own_body x.between x.next x.next_body x.comments x.gap 1 x.numbered

one_of_some : (f g : Found) → Some f ≡ Some g → f ≡ g
one_of_some f g e = cc

-- there is one such pair at most
pub one_neighbour : (t : ProgramTree) (s : ℕ) (x y : Neighbour t s) → found_of x ≡ found_of y
one_neighbour t s x y = one_of_some (found_of x) (found_of y) (sym (is_found t s x) ∙ is_found t s y)

-- what is found stands there
pub record Stands (s : ℕ) (ts : StmtTrees) (n : ℕ) (f : Found) : Type 0 where
  pub stands : ts ≡ filled f.gap (pair_of f)
  pub numbered : number_at f.gap n ≡ s
  pub comments : statements_count f.between ≡ 0

one_behind : (b c : Behind) → Some b ≡ Some c → b ≡ c
one_behind b c e = cc

-- what a list of statements comes to behind its comments
record Follows (ts : StmtTrees) (b : Behind) : Type 0 where
  is : ts ≡ followed b.between (more_stmts (Do b.next b.next_body) b.rest)
  comments : statements_count b.between ≡ 0

commented : (text : List ℕ) (rest : StmtTrees) (o : Option Behind) (b : Behind) → with_comment text o ≡ Some b → ((c : Behind) → o ≡ Some c → Follows rest c) → Follows (more_stmts (Comment text) rest) b
commented text rest None b e deeper = absurd cc
commented text rest (Some c) b e deeper =
    let d = deeper c refl in
    subst (Follows (more_stmts (Comment text) rest)) (one_behind (further_back text c) b e) (record { is = ap (more_stmts (Comment text)) d.is; comments = let none = d.comments in omega (arith, none) })

next_follows : (ts : StmtTrees) (b : Behind) → next_in ts ≡ Some b → Follows ts b
next_follows no_stmts b e = absurd cc
next_follows (more_stmts (Assign left right) rest) b e = absurd cc
next_follows (more_stmts (If c a d) rest) b e = absurd cc
next_follows (more_stmts (Do h body) rest) b e =
    subst (Follows (more_stmts (Do h body) rest)) (one_behind (at_once h body rest) b e) (record { is = refl; comments = refl })
next_follows (more_stmts (Print items) rest) b e = absurd cc
next_follows (more_stmts (Read items) rest) b e = absurd cc
next_follows (more_stmts Stop rest) b e = absurd cc
next_follows (more_stmts (Comment text) rest) b e = commented text rest (next_in rest) b e (λ c f. next_follows rest c f)

paired_stands : (s n : ℕ) (h : Head) (body rest : StmtTrees) (o : Option Behind) (f : Found) → n ≡ s → paired h body o ≡ Some f → ((b : Behind) → o ≡ Some b → Follows rest b) → Stands s (more_stmts (Do h body) rest) n f
paired_stands s n h body rest None f at e behind = absurd cc
paired_stands s n h body rest (Some b) f at e behind =
    let d = behind b refl in
    subst (Stands s (more_stmts (Do h body) rest) n) (one_of_some (both_found h body b) f e) (record {
      stands = ap (more_stmts (Do h body)) (d.is ∙ sym (followed-assoc b.between (alone (Do b.next b.next_body)) b.rest));
      numbered = at;
      comments = d.comments;
    })

here_stands : (s n : ℕ) (x : StmtTree) (rest : StmtTrees) (f : Found) → n ≡ s → here x rest ≡ Some f → Stands s (more_stmts x rest) n f
here_stands s n (Assign left right) rest f at e = absurd cc
here_stands s n (If c a b) rest f at e = absurd cc
here_stands s n (Do h body) rest f at e = paired_stands s n h body rest (next_in rest) f at e (λ b g. next_follows rest b g)
here_stands s n (Print items) rest f at e = absurd cc
here_stands s n (Read items) rest f at e = absurd cc
here_stands s n Stop rest f at e = absurd cc
here_stands s n (Comment text) rest f at e = absurd cc

-- what is found deeper stands there further out
further_out : (s n m : ℕ) (ts us : StmtTrees) (wrap : Gap → Gap) (o : Option Found) (f : Found) → outwards wrap o ≡ Some f → ((g : Found) → o ≡ Some g → Stands s us m g)
    → ((g : Found) → us ≡ filled g.gap (pair_of g) → ts ≡ filled (wrap g.gap) (pair_of g)) → ((g : Gap) → number_at (wrap g) n ≡ number_at g m) → Stands s ts n f
further_out s n m ts us wrap None f e deeper out at = absurd cc
further_out s n m ts us wrap (Some g) f e deeper out at =
    let d = deeper g refl in
    subst (Stands s ts n) (one_of_some (wrapped wrap g) f e) (record { stands = out g d.stands; numbered = at g.gap ∙ d.numbered; comments = d.comments })

-- either half of what a test settles
by_test : {A : Type 0} (b : Bool) (x y : Option A) (f : A) (P : Type 0) → (if b then x else y) ≡ Some f → (b ≡ true → x ≡ Some f → P) → (y ≡ Some f → P) → P
by_test true x y f P e passes fails = passes refl e
by_test false x y f P e passes fails = fails e

mutual
  pub sought_stands : (s : ℕ) (ts : StmtTrees) (n : ℕ) (f : Found) → sought_in s ts n ≡ Some f → Stands s ts n f
  sought_stands s no_stmts n f e = absurd cc
  sought_stands s (more_stmts x rest) n f e =
      by_test (nat_lt s (n + statement_count x)) (if n == s then here x rest else inside s x rest n) (outwards (past x) (sought_in s rest (n + statement_count x))) f (Stands s (more_stmts x rest) n f) e
      (λ less g. by_test (n == s) (here x rest) (inside s x rest n) f (Stands s (more_stmts x rest) n f) g (λ at k. here_stands s n x rest f (eqb-true n s at) k) (λ k. inside_stands s x rest n f k))
      (λ g. further_out s n (n + statement_count x) (more_stmts x rest) rest (past x) (sought_in s rest (n + statement_count x)) f g (λ k i. sought_stands s rest (n + statement_count x) k i) (λ k i. ap (more_stmts x) i) (λ k. refl))

  inside_stands : (s : ℕ) (x : StmtTree) (rest : StmtTrees) (n : ℕ) (f : Found) → inside s x rest n ≡ Some f → Stands s (more_stmts x rest) n f
  inside_stands s (Assign left right) rest n f e = absurd cc
  inside_stands s (If c a b) rest n f e =
      by_test (nat_lt s (n + 1 + statements_count a)) (outwards (λ g. in_then c g b rest) (sought_in s a (n + 1))) (outwards (λ g. in_else c a g rest) (sought_in s b (n + 1 + statements_count a))) f (Stands s (more_stmts (If c a b) rest) n f) e
      (λ less g. further_out s n (n + 1) (more_stmts (If c a b) rest) a (λ k. in_then c k b rest) (sought_in s a (n + 1)) f g (λ k i. sought_stands s a (n + 1) k i) (λ k i. ap (λ (ts : StmtTrees). more_stmts (If c ts b) rest) i) (λ k. refl))
      (λ g. further_out s n (n + 1 + statements_count a) (more_stmts (If c a b) rest) b (λ k. in_else c a k rest) (sought_in s b (n + 1 + statements_count a)) f g (λ k i. sought_stands s b (n + 1 + statements_count a) k i)
      (λ k i. ap (λ (ts : StmtTrees). more_stmts (If c a ts) rest) i) (λ k. refl))
  inside_stands s (Do h body) rest n f e =
      further_out s n (n + 1) (more_stmts (Do h body) rest) body (λ k. in_body h k rest) (sought_in s body (n + 1)) f e (λ k i. sought_stands s body (n + 1) k i) (λ k i. ap (λ (ts : StmtTrees). more_stmts (Do h ts) rest) i) (λ k. refl)
  inside_stands s (Print items) rest n f e = absurd cc
  inside_stands s (Read items) rest n f e = absurd cc
  inside_stands s Stop rest n f e = absurd cc
  inside_stands s (Comment text) rest n f e = absurd cc

nothing_found : (f : Found) → None ≡ Some f → ⊥
nothing_found f e = cc

-- whether a DO comes next behind the DO with a number is decided
pub neighbour_decided : (t : ProgramTree) (s : ℕ) → Neighbour t s ⊎ (Neighbour t s → ⊥)
neighbour_decided t s = by (sought_in s t.body 1) refl
  where
    by : (o : Option Found) → sought_in s t.body 1 ≡ o → Neighbour t s ⊎ (Neighbour t s → ⊥)
    by None e = inr (λ x. nothing_found (found_of x) (sym e ∙ is_found t s x))
    by (Some f) e = let d = sought_stands s t.body 1 f e in inl (record {
      gap = f.gap;
      own = f.own;
      own_body = f.own_body;
      between = f.between;
      next = f.next;
      next_body = f.next_body;
      stands = d.stands;
      numbered = d.numbered;
      comments = d.comments;
    })
