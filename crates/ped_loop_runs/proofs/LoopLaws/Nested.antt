-- The DO loops round a reference are those round each of them in turn, and the reference stands in the body of each.
use Rattle.std.proofs.Common.{◌≡◌, ℕ, suc, ◌+◌, ◌<◌, ◌≤◌, List, [], ◌∷◌, ◌++◌, length, Bool, true, ◌&&◌, refl, sym, ap, ◌∙◌, subst, inl, inr, arith, Some, nat_le, append_assoc, append-nil}
use Rattle.std.proofs.lemmas.Bool.{lt-ltb, le-leb}
use Rattle.ped_bodies.specs.ped_flow.specs.ped_tree.specs.Tree.{Head, StmtTree, StmtTrees, Assign, If, Do, Print, Read, Stop, Comment, no_stmts, more_stmts, ProgramTree}
use Rattle.ped_bodies.specs.ped_flow.specs.ped_tree.specs.Accesses.{own_accesses, constant_names}
use Rattle.ped_bodies.specs.ped_flow.specs.ped_tree.specs.Nests.{Loop, indices_of}
use Rattle.ped_bodies.specs.ped_flow.specs.ped_tree.specs.Numbering.{numbered, all_numbered, at_place, statement_with, statement_count, statements_count}
use Rattle.ped_bodies.specs.ped_flow.specs.ped_tree.proofs.Numbers.{length-numbered, length-all_numbered, at_place-front, at_place-back}
use Rattle.ped_bodies.specs.ped_flow.specs.PlainBounds.{loops_round, all_loops_round, nest_round}
use Rattle.ped_bodies.specs.ped_flow.specs.Questions.{LoopOf}
use Rattle.ped_bodies.specs.ped_refs.specs.References.{Reference, numbered_accesses, statement_references, statements_references, references, outermost}
use Rattle.ped_bodies.specs.ped_graph.specs.Dependences.{setting_in}
use Rattle.ped_bodies.specs.ped_store.specs.Stores.{Store}
use Rattle.ped_bodies.specs.ped_store.specs.Acts.{Turn}
use Rattle.ped_bodies.specs.ped_store.specs.Races as races
use Rattle.ped_bodies.specs.ped_eval.specs.Scopes.{Scope}
use Rattle.ped_bodies.specs.ped_laws.specs.Acts.Orders.{IsIn}
use Rattle.ped_bodies.specs.ped_laws.specs.Conflicts.Making.{IsMade}
use Rattle.ped_bodies.specs.ped_laws.proofs.ActLaws.Lists.{in_parts}
use Rattle.ped_bodies.specs.ped_steps.proofs.RunLaws.LoopsRound.{none_before, all_none_before, none_from, all_none_from, one_more}
use Rattle.ped_bodies.specs.ped_laws.proofs.ConflictLaws.CoveringNests.{IsOf, AreOf, reached_are}
use Rattle.ped_bodies.specs.ped_laws.proofs.ConflictLaws.CoveringWrites.{own_access}
use Rattle.ped_bodies.specs.ped_laws.proofs.ConflictLaws.MakingParts.{stand_whole}
use Rattle.ped_loop_runs.specs.Carried.{is_in_body}

-- a DO of the nest of a statement, with the loops round it: it stands among statements of which the first has number n, and the statement stands in its body
record IsRound (n : ℕ) (list : List StmtTree) (round : ℕ → List Loop) (k : ℕ) (front : List Loop) (l : Loop) : Type 0 where
  body : StmtTrees
  place : ℕ
  number : l.number ≡ n + place
  stands : at_place list place ≡ Some (Do l.head body)
  below : l.number < k
  above : k ≤ l.number + statements_count body
  same : round l.number ≡ front

-- a reference in statements, so many, of which the first has number n
record IsFound (nest : List Loop) (n count : ℕ) (list : List StmtTree) (round : ℕ → List Loop) (r : Reference) : Type 0 where
  more : List Loop
  is : r.nest ≡ nest ++ more
  from : n ≤ r.statement
  to : r.statement < n + count
  loops : (front : List Loop) (l : Loop) (inner : List Loop) → more ≡ front ++ l ∷ inner → IsRound n list round r.statement front l

none_ends : (front : List Loop) (l : Loop) (inner : List Loop) → [] ≡ front ++ l ∷ inner → ⊥
none_ends [] l inner e = absurd cc
none_ends (f ∷ front) l inner e = absurd cc

first_of : (l m : Loop) (ls ms : List Loop) → l ∷ ls ≡ m ∷ ms → l ≡ m
first_of l m ls ms e = cc

rest_of : (l m : Loop) (ls ms : List Loop) → l ∷ ls ≡ m ∷ ms → ls ≡ ms
rest_of l m ls ms e = cc

-- found in a part is found in the whole
wider : (nest : List Loop) (n m count few shift : ℕ) (list part : List StmtTree) (round within : ℕ → List Loop) (r : Reference) → m ≡ n + shift → shift + few ≤ count
    → ((k : ℕ) (s : StmtTree) → at_place part k ≡ Some s → at_place list (k + shift) ≡ Some s) → ((k : ℕ) → m ≤ k → k < m + few → round k ≡ within k) → IsFound nest m few part within r → IsFound nest n count list round r
wider nest n m count few shift list part round within r e fewer at same f =
    let from = f.from in
    let to = f.to in
    record {
      more = f.more;
      is = f.is;
      from = omega (arith, from, e);
      to = omega (arith, to, e, fewer);
      loops = λ front l inner split.
          let h = f.loops front l inner split in
          let number = h.number in
          let below = h.below in
          record {
            body = h.body;
            place = h.place + shift;
            number = omega (arith, number, e);
            stands = at h.place (Do l.head h.body) h.stands;
            below = h.below;
            above = h.above;
            same = same l.number (omega (arith, number)) (omega (arith, below, to)) ∙ h.same;
          };
    }

module _ (c : List (List ℕ)) where
  own_found : (nest : List Loop) (n count : ℕ) (s : StmtTree) (list : List StmtTree) (round : ℕ → List Loop) (r : Reference) → 0 < count → IsIn r (numbered_accesses n 1 nest (own_accesses c (indices_of nest) s)) → IsFound nest n count list round r
  own_found nest n count s list round r some i =
      let o = own_access n 1 nest (own_accesses c (indices_of nest) s) r i in
      let at : r.statement ≡ n = o.0 in
      record {
        more = [];
        is = o.1 ∙ sym (append-nil nest);
        from = omega (arith, at);
        to = omega (arith, at, some);
        loops = λ front l inner split. absurd (none_ends front l inner split);
      }

  at_front : (xs ys : List StmtTree) (k : ℕ) (s : StmtTree) → at_place xs k ≡ Some s → at_place (xs ++ ys) (k + 0) ≡ Some s
  at_front xs ys k s h = let e : k + 0 ≡ k = omega arith in ap (at_place (xs ++ ys)) e ∙ at_place-front xs ys k s h

  at_back : (xs ys : List StmtTree) (m k : ℕ) (s : StmtTree) → m ≡ length xs → at_place ys k ≡ Some s → at_place (xs ++ ys) (k + m) ≡ Some s
  at_back xs ys m k s e h = ap (λ (j : ℕ). at_place (xs ++ ys) (k + j)) e ∙ at_place-back xs ys (k + length xs) k refl ∙ h

  no_first : (xs ys : List Loop) → xs ≡ [] → xs ++ ys ≡ ys
  no_first xs ys e = ap (λ (zs : List Loop). zs ++ ys) e

  no_second : (xs ys : List Loop) → ys ≡ [] → xs ++ ys ≡ xs
  no_second xs ys e = ap (λ (zs : List Loop). xs ++ zs) e ∙ append-nil xs

  in_body : (nest : List Loop) (n : ℕ) (h : Head) (body : StmtTrees) (r : Reference) → IsFound (nest ++ (record { number = n; head = h }) ∷ []) (n + 1) (statements_count body) (all_numbered body) (λ k. all_loops_round k body (n + 1)) r
      → IsFound nest n (statements_count body + 1) (Do h body ∷ all_numbered body) (λ k. loops_round k (Do h body) n) r
  in_body nest n h body r f =
      let from = f.from in
      let to = f.to in
      record {
        more = (record { number = n; head = h }) ∷ f.more;
        is = f.is ∙ append_assoc nest ((record { number = n; head = h }) ∷ []) f.more;
        from = omega (arith, from);
        to = omega (arith, to);
        loops = loops;
      }
    where
      first_round : (l : Loop) → (record { number = n; head = h }) ≡ l → IsRound n (Do h body ∷ all_numbered body) (λ k. loops_round k (Do h body) n) r.statement [] l
      first_round l e =
          let from = f.from in
          let to = f.to in
          subst (λ (z : Loop). IsRound n (Do h body ∷ all_numbered body) (λ k. loops_round k (Do h body) n) r.statement [] z) e
          (record { body = body; place = 0; number = omega arith; stands = refl; below = omega (arith, from); above = omega (arith, to); same = none_from n (Do h body) n (omega arith) })

      loops : (front : List Loop) (l : Loop) (inner : List Loop) → (record { number = n; head = h }) ∷ f.more ≡ front ++ l ∷ inner → IsRound n (Do h body ∷ all_numbered body) (λ k. loops_round k (Do h body) n) r.statement front l
      loops [] l inner split = first_round l (first_of (record { number = n; head = h }) l f.more inner split)
      loops (m ∷ front) l inner split =
          let g = f.loops front l inner (rest_of (record { number = n; head = h }) m f.more (front ++ l ∷ inner) split) in
          let head : (record { number = n; head = h }) ≡ m = first_of (record { number = n; head = h }) m f.more (front ++ l ∷ inner) split in
          let number = g.number in
          let below = g.below in
          let to = f.to in
          record {
            body = g.body;
            place = g.place + 1;
            number = omega (arith, number);
            stands = at_back (Do h body ∷ []) (all_numbered body) 1 g.place (Do l.head g.body) refl g.stands;
            below = g.below;
            above = g.above;
            same = one_more l.number h body n (omega (arith, number)) (omega (arith, below, to)) ∙ (λ z. head z ∷ g.same z);
          }

  mutual
    statement_found : (nest : List Loop) (n : ℕ) (s : StmtTree) (r : Reference) → IsIn r (statement_references c nest n s) → IsFound nest n (statement_count s) (numbered s) (λ k. loops_round k s n) r
    statement_found nest n (Assign left right) r i = own_found nest n 1 (Assign left right) (Assign left right ∷ []) (λ k. []) r (omega arith) i
    statement_found nest n (If condition a b) r i =
        let own = numbered_accesses n 1 nest (own_accesses c (indices_of nest) (If condition a b)) in
        let count : ℕ = statements_count a + statements_count b + 1 in
        let list : List StmtTree = If condition a b ∷ (all_numbered a ++ all_numbered b) in
        elim (in_parts r (own ++ statements_references c nest (n + 1) a) (statements_references c nest (n + 1 + statements_count a) b) i) [
          | inl j ↦ elim (in_parts r own (statements_references c nest (n + 1) a) j) [
            | inl k ↦ own_found nest n count (If condition a b) list (λ k. loops_round k (If condition a b) n) r (omega arith) k
            | inr k ↦ wider nest n (n + 1) count (statements_count a) 1 list (all_numbered a) (λ k. loops_round k (If condition a b) n) (λ k. all_loops_round k a (n + 1)) r (omega arith) (omega arith)
                (λ k s h. at_back (If condition a b ∷ []) (all_numbered a ++ all_numbered b) 1 k s refl (at_place-front (all_numbered a) (all_numbered b) k s h))
                (λ k from to. no_second (all_loops_round k a (n + 1)) (all_loops_round k b (n + 1 + statements_count a)) (all_none_from k b (n + 1 + statements_count a) (omega (arith, to))))
                (statements_found nest (n + 1) a r k)
          ]
          | inr j ↦ wider nest n (n + 1 + statements_count a) count (statements_count b) (1 + statements_count a) list (all_numbered b) (λ k. loops_round k (If condition a b) n) (λ k. all_loops_round k b (n + 1 + statements_count a)) r (omega arith) (omega arith)
              (λ k s h. at_back (If condition a b ∷ all_numbered a) (all_numbered b) (1 + statements_count a) k s (let long = length-all_numbered a in omega (arith, long)) h)
              (λ k from to. no_first (all_loops_round k a (n + 1)) (all_loops_round k b (n + 1 + statements_count a)) (all_none_before k a (n + 1) from))
              (statements_found nest (n + 1 + statements_count a) b r j)
        ]
    statement_found nest n (Do h body) r i =
        let loop : Loop = record { number = n; head = h } in
        elim (in_parts r (numbered_accesses n 1 nest (own_accesses c (indices_of nest) (Do h body))) (statements_references c (nest ++ loop ∷ []) (n + 1) body) i) [
          | inl k ↦ own_found nest n (statements_count body + 1) (Do h body) (Do h body ∷ all_numbered body) (λ k. loops_round k (Do h body) n) r (omega arith) k
          | inr k ↦ in_body nest n h body r (statements_found (nest ++ loop ∷ []) (n + 1) body r k)
        ]
    statement_found nest n (Print items) r i = own_found nest n 1 (Print items) (Print items ∷ []) (λ k. []) r (omega arith) i
    statement_found nest n (Read items) r i = own_found nest n 1 (Read items) (Read items ∷ []) (λ k. []) r (omega arith) i
    statement_found nest n Stop r i = absurd i
    statement_found nest n (Comment text) r i = absurd i

    statements_found : (nest : List Loop) (n : ℕ) (ss : StmtTrees) (r : Reference) → IsIn r (statements_references c nest n ss) → IsFound nest n (statements_count ss) (all_numbered ss) (λ k. all_loops_round k ss n) r
    statements_found nest n no_stmts r i = absurd i
    statements_found nest n (more_stmts s rest) r i =
        elim (in_parts r (statement_references c nest n s) (statements_references c nest (n + statement_count s) rest) i) [
          | inl j ↦ wider nest n n (statement_count s + statements_count rest) (statement_count s) 0 (numbered s ++ all_numbered rest) (numbered s) (λ k. all_loops_round k (more_stmts s rest) n) (λ k. loops_round k s n) r (omega arith) (omega arith)
              (λ k x h. at_front (numbered s) (all_numbered rest) k x h)
              (λ k from to. no_second (loops_round k s n) (all_loops_round k rest (n + statement_count s)) (all_none_from k rest (n + statement_count s) (omega (arith, to))))
              (statement_found nest n s r j)
          | inr j ↦ wider nest n (n + statement_count s) (statement_count s + statements_count rest) (statements_count rest) (statement_count s) (numbered s ++ all_numbered rest) (all_numbered rest) (λ k. all_loops_round k (more_stmts s rest) n) (λ k. all_loops_round k rest (n + statement_count s)) r refl (omega arith)
              (λ k x h. at_back (numbered s) (all_numbered rest) (statement_count s) k x (sym (length-numbered s)) h)
              (λ k from to. no_first (loops_round k s n) (all_loops_round k rest (n + statement_count s)) (none_before k s n from))
              (statements_found nest (n + statement_count s) rest r j)
        ]

same_body : (h k : Head) (b c : StmtTrees) → Some (Do h b) ≡ Some (Do k c) → b ≡ c
same_body h k b c e = cc

in_body_of : (l k : ℕ) (body : StmtTrees) → l < k → k ≤ l + statements_count body → is_in_body l body k ≡ true
in_body_of l k body h g = ap (λ (x : Bool). x && nat_le k (l + statements_count body)) (lt-ltb l k h) ∙ le-leb k (l + statements_count body) g

-- a DO of the nest of a reference: the loops before it are those round it, and the reference stands in its body
pub loop_round : (t : ProgramTree) (r : Reference) → IsIn r (references t) → (front : List Loop) (l : Loop) (inner : List Loop) → r.nest ≡ front ++ l ∷ inner → (loop : LoopOf t l.number) → (is_in_body l.number loop.body r.statement ≡ true) × (nest_round t l.number ≡ front)
loop_round t r i front l inner split loop =
    let f = statements_found (constant_names t.decls) [] 1 t.body r i in
    let h = f.loops front l inner (sym f.is ∙ split) in
    let stands : statement_with l.number t ≡ Some (Do l.head h.body) = ap (λ (n : ℕ). statement_with n t) h.number ∙ stand_whole t h.place (Do l.head h.body) h.stands in
    let body : h.body ≡ loop.body = same_body l.head loop.head h.body loop.body (sym stands ∙ loop.is) in
    (in_body_of l.number r.statement loop.body h.below (subst (λ (b : StmtTrees). r.statement ≤ l.number + statements_count b) body h.above), h.same)

-- iterations of a nest, and one of them
record IsSplit (t : ProgramTree) (nest : List Loop) (outer : List Turn) (i : Turn) : Type 0 where
  front : List Loop
  l : Loop
  inner : List Loop
  is : nest ≡ front ++ l ∷ inner
  long : length front ≡ length outer
  of : IsOf t l i

split_nest : (t : ProgramTree) (nest : List Loop) (outer : List Turn) (i : Turn) (is : List Turn) → AreOf t nest (outer ++ i ∷ is) → IsSplit t nest outer i
split_nest t [] [] i is h = absurd h
split_nest t (l ∷ ls) [] i is h = record { front = []; l = l; inner = ls; is = refl; long = refl; of = h.0 }
split_nest t [] (f ∷ outer) i is h = absurd h
split_nest t (l ∷ ls) (f ∷ outer) i is h = let s = split_nest t ls outer i is h.1 in record { front = l ∷ s.front; l = s.l; inner = s.inner; is = ap (λ (ms : List Loop). l ∷ ms) s.is; long = ap suc s.long; of = s.of }

-- an access that a reference makes in an iteration of a DO: its statement stands in the body, and as many loops are round the DO as iterations round that one
pub in_loop_body : (t : ProgramTree) (first : Store) (a : races.Access) (r : Reference) (scope : Scope) (u : Store) → IsMade t first a r scope u → (l : ℕ) (loop : LoopOf t l) (outer : List Turn) (i : Turn) (is : List Turn) → a.place.turns ≡ outer ++ i ∷ is → i.statement ≡ l
    → (is_in_body l loop.body a.place.statement ≡ true) × (length (nest_round t l) ≡ length outer)
in_loop_body t first a r scope u m l loop outer i is at of_loop =
    let nest : AreOf t r.nest (outer ++ i ∷ is) = subst (λ (x : List Turn). AreOf t r.nest x) (sym m.turns ∙ at) (reached_are t (setting_in t (outermost r)) first r.nest scope m.reached) in
    let s = split_nest t r.nest outer i is nest in
    let number : l ≡ s.l.number = sym of_loop ∙ s.of.statement in
    let its = subst (λ (n : ℕ). (loop : LoopOf t n) → (is_in_body n loop.body r.statement ≡ true) × (nest_round t n ≡ s.front)) (sym number) (loop_round t r m.listed s.front s.l s.inner s.is) loop in
    (ap (is_in_body l loop.body) m.statement ∙ its.0, ap length its.1 ∙ s.long)
