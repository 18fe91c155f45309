-- What happens on a program's paths is done by its statements; so the statement by whose read a DO isn't contained has a number of the program.
use Rattle.std.proofs.Common.{◌≡◌, ◌⊎◌, inl, inr, ℕ, zero, suc, ◌+◌, ◌<◌, ◌≤◌, ◌==◌, List, [], ◌∷◌, ◌++◌, map, Bool, true, false, not, ◌&&◌, ◌||◌, refl, sym, subst, arith, eqb-true}
use Rattle.std.specs.Prelude.{⊤}
use Rattle.std.specs.List.{flat_map, list_any}
use Rattle.ped_base.specs.Lists.{is_same_text}
use Rattle.ped_tree.specs.Tree.{ExprTree, Int, Var, Element, Neg, Add, Sub, Mul, Div, Pow, Call, Head, StmtTree, StmtTrees, Assign, If, Do, Print, Read, Stop, Comment, no_stmts, more_stmts, ProgramTree}
use Rattle.ped_tree.specs.Accesses.{constant_names}
use Rattle.ped_tree.specs.Numbering.{statement_count, statements_count}
use Rattle.ped_rules.specs.ped_flow.specs.Events.{Manner, reads, assigns, clears, Event, event, unless_constant, scalars_in, all_scalars_in, scalars_in_cond, scalars_in_item, reads_of, left_events, own_events, copied, start_events, exit_events, is_overwriting, is_read_by, is_overwriting_of, reads_first}
use Rattle.ped_rules.specs.ped_flow.specs.PathSets.{Kind, Never, Just, Either, InTurn, Times, AnyTimes, Paths, going, nowhere, stopping, in_turn, either, trips, Whole}
use Rattle.ped_rules.specs.ped_flow.specs.Paths.{iteration, paths, all_paths, at_once, paths_behind, all_paths_behind}
use Rattle.ped_rules.specs.ped_flow.specs.Questions.{reads_outside, all_reads_outside, IsBrokenBy, IsReadLoose, IsReadBehind}
use Rattle.ped_rules.specs.ped_flow.proofs.Answering.{loop_fits}

or_of : (a b : Bool) → (a || b) ≡ true → (a ≡ true) ⊎ (b ≡ true)
or_of true b h = inl refl
or_of false b h = inr h

either_way : {A B C : Type 0} → A ⊎ B → (A → C) → (B → C) → C
either_way (inl a) f g = f a
either_way (inr b) f g = g b

and_right : (a b : Bool) → (a && b) ≡ true → b ≡ true
and_right true b h = h
and_right false b h = absurd cc

module _ (cs : List (List ℕ)) (m : ℕ) where
  -- each event has a number below this one
  abbrev AreBelow : List Event → Type 0
  AreBelow [] = ⊤
  AreBelow (e ∷ rest) = (e.statement < m) × AreBelow rest

  joined : (xs ys : List Event) → AreBelow xs → AreBelow ys → AreBelow (xs ++ ys)
  joined [] ys h k = k
  joined (x ∷ xs) ys h k = (h.0, joined xs ys h.1 k)

  named : (n : ℕ) (manner : Manner) (names : List (List ℕ)) → n < m → AreBelow (map (event n manner) names)
  named n manner [] h = tt
  named n manner (x ∷ names) h = (h, named n manner names h)

  left : (e : ExprTree) (n : ℕ) → n < m → AreBelow (left_events cs n e)
  left (Var x) n h = named n assigns (unless_constant cs x) h
  left (Int k) n h = tt
  left (Element x subscripts) n h = named n reads (all_scalars_in cs subscripts) h
  left (Neg a) n h = tt
  left (Add a b) n h = tt
  left (Sub a b) n h = tt
  left (Mul a b) n h = tt
  left (Div a b) n h = tt
  left (Pow a b) n h = tt
  left (Call f arguments) n h = tt

  lefts : (es : List ExprTree) (n : ℕ) → n < m → AreBelow (flat_map (left_events cs n) es)
  lefts [] n h = tt
  lefts (e ∷ es) n h = joined (left_events cs n e) (flat_map (left_events cs n) es) (left e n h) (lefts es n h)

  own : (s : StmtTree) (n : ℕ) → n < m → AreBelow (own_events cs n s)
  own (Assign lhs right) n h = joined (reads_of n (scalars_in cs right)) (left_events cs n lhs) (named n reads (scalars_in cs right) h) (left lhs n h)
  own (If c a b) n h = named n reads (scalars_in_cond cs c) h
  own (Do h body) n k = joined (reads_of n (scalars_in cs h.first ++ scalars_in cs h.last)) (event n assigns h.variable ∷ []) (named n reads (scalars_in cs h.first ++ scalars_in cs h.last) k) (k, tt)
  own (Print items) n h = named n reads (flat_map (scalars_in_item cs) items) h
  own (Read items) n h = lefts items n h
  own Stop n h = tt
  own (Comment text) n h = tt

  -- so it is on each path
  abbrev Kept : Kind → Type 0
  Kept P = (path : List Event) → P path → AreBelow path

  pub record Bounded (a : Paths) : Type 0 where
    pub onward : Kept a.onward
    pub ending : Kept a.ending

  just : (es : List Event) → AreBelow es → Kept (Just es)
  just es h path e = subst AreBelow (sym e) h

  never : Kept Never
  never path h = absurd h

  turn : (P Q : Kind) → Kept P → Kept Q → Kept (InTurn P Q)
  turn P Q p q path (front, back, is, a, b) = subst AreBelow (sym is) (joined front back (p front a) (q back b))

  or_other : (P Q : Kind) → Kept P → Kept Q → Kept (Either P Q)
  or_other P Q p q path (inl a) = p path a
  or_other P Q p q path (inr b) = q path b

  times : (P : Kind) → Kept P → (n : ℕ) → Kept (Times n P)
  times P p zero = just [] tt
  times P p (suc n) = turn P (Times n P) p (times P p n)

  any_times : (P : Kind) → Kept P → Kept (AnyTimes P)
  any_times P p path h = times P p h.0 path h.1

  goes : (es : List Event) → AreBelow es → Bounded (going es)
  goes es h = record { onward = just es h; ending = never }

  none : Bounded nowhere
  none = record { onward = never; ending = never }

  stops : Bounded stopping
  stops = record { onward = never; ending = just [] tt }

  both : (a b : Paths) → Bounded a → Bounded b → Bounded (in_turn a b)
  both a b h k = record {
    onward = turn a.onward b.onward h.onward k.onward;
    ending = or_other a.ending (InTurn a.onward b.ending) h.ending (turn a.onward b.ending h.onward k.ending);
  }

  one_of : (a b : Paths) → Bounded a → Bounded b → Bounded (either a b)
  one_of a b h k = record { onward = or_other a.onward b.onward h.onward k.onward; ending = or_other a.ending b.ending h.ending k.ending }

  many : (a : Paths) → Bounded a → Bounded (trips a)
  many a h = record { onward = any_times a.onward h.onward; ending = turn (AnyTimes a.onward) a.ending (any_times a.onward h.onward) h.ending }

  -- the paths of a DO's iterations, and of its exit
  iterations : (n : ℕ) (h : Head) (body : StmtTrees) → n < m → Bounded (all_paths cs body (n + 1)) → Bounded (in_turn (trips (iteration n h body (all_paths cs body (n + 1)))) (going (exit_events n h body)))
  iterations n h body k inner =
      both (trips (iteration n h body (all_paths cs body (n + 1)))) (going (exit_events n h body))
      (many (iteration n h body (all_paths cs body (n + 1))) (both (going (start_events n h body)) (all_paths cs body (n + 1)) (goes (start_events n h body) (named n clears (copied h body) k)) inner))
      (goes (exit_events n h body) (named n clears _ k))

  mutual
    bounded : (s : StmtTree) (n : ℕ) → n + statement_count s ≤ m → Bounded (paths cs s n)
    bounded (Assign lhs right) n h = goes (own_events cs n (Assign lhs right)) (own (Assign lhs right) n (omega (arith, h)))
    bounded (If c a b) n h =
        both (going (own_events cs n (If c a b))) (either (all_paths cs a (n + 1)) (all_paths cs b (n + 1 + statements_count a))) (goes (own_events cs n (If c a b)) (own (If c a b) n (omega (arith, h))))
        (one_of (all_paths cs a (n + 1)) (all_paths cs b (n + 1 + statements_count a)) (all_bounded a (n + 1) (omega (arith, h))) (all_bounded b (n + 1 + statements_count a) (omega (arith, h))))
    bounded (Do h body) n k =
        both (going (own_events cs n (Do h body))) (in_turn (trips (iteration n h body (all_paths cs body (n + 1)))) (going (exit_events n h body))) (goes (own_events cs n (Do h body)) (own (Do h body) n (omega (arith, k))))
        (iterations n h body (omega (arith, k)) (all_bounded body (n + 1) (omega (arith, k))))
    bounded (Print items) n h = goes (own_events cs n (Print items)) (own (Print items) n (omega (arith, h)))
    bounded (Read items) n h = goes (own_events cs n (Read items)) (own (Read items) n (omega (arith, h)))
    bounded Stop n h = stops
    bounded (Comment text) n h = goes [] tt

    all_bounded : (ss : StmtTrees) (n : ℕ) → n + statements_count ss ≤ m → Bounded (all_paths cs ss n)
    all_bounded no_stmts n h = goes [] tt
    all_bounded (more_stmts s rest) n h =
        both (paths cs s n) (all_paths cs rest (n + statement_count s)) (bounded s n (omega (arith, h))) (all_bounded rest (n + statement_count s) (omega (arith, h)))

  at_start : (b : Bool) → Bounded (at_once b)
  at_start true = goes [] tt
  at_start false = none

  module _ (l : ℕ) where
    mutual
      behind : (s : StmtTree) (n : ℕ) → n + statement_count s ≤ m → Bounded (paths_behind cs l s n)
      behind (Assign lhs right) n h = none
      behind (If c a b) n h =
          one_of (all_paths_behind cs l a (n + 1)) (all_paths_behind cs l b (n + 1 + statements_count a)) (all_behind a (n + 1) (omega (arith, h))) (all_behind b (n + 1 + statements_count a) (omega (arith, h)))
      behind (Do h body) n k =
          one_of (at_once (l == n)) (in_turn (all_paths_behind cs l body (n + 1)) (in_turn (trips (iteration n h body (all_paths cs body (n + 1)))) (going (exit_events n h body)))) (at_start (l == n))
          (both (all_paths_behind cs l body (n + 1)) (in_turn (trips (iteration n h body (all_paths cs body (n + 1)))) (going (exit_events n h body))) (all_behind body (n + 1) (omega (arith, k)))
          (iterations n h body (omega (arith, k)) (all_bounded body (n + 1) (omega (arith, k)))))
      behind (Print items) n h = none
      behind (Read items) n h = none
      behind Stop n h = none
      behind (Comment text) n h = none

      all_behind : (ss : StmtTrees) (n : ℕ) → n + statements_count ss ≤ m → Bounded (all_paths_behind cs l ss n)
      all_behind no_stmts n h = none
      all_behind (more_stmts s rest) n h =
          one_of (in_turn (paths_behind cs l s n) (all_paths cs rest (n + statement_count s))) (all_paths_behind cs l rest (n + statement_count s))
          (both (paths_behind cs l s n) (all_paths cs rest (n + statement_count s)) (behind s n (omega (arith, h))) (all_bounded rest (n + statement_count s) (omega (arith, h))))
          (all_behind rest (n + statement_count s) (omega (arith, h)))

  module _ (x : List ℕ) (k : ℕ) where
    -- who reads has the number of its event
    reader : (e : Event) → is_read_by x k e ≡ true → e.statement < m → k < m
    reader e h l = subst (λ (j : ℕ). j < m) (eqb-true e.statement k (and_right (is_same_text x e.scalar && not (is_overwriting e.manner)) (e.statement == k) h)) l

    first_reader : (path : List Event) → reads_first x k path ≡ true → AreBelow path → k < m
    first_reader [] h below = absurd cc
    first_reader (e ∷ rest) h below =
        either_way (or_of (is_read_by x k e) (not (is_overwriting_of x e) && reads_first x k rest) h) (λ r. reader e r below.0)
        (λ r. first_reader rest (and_right (not (is_overwriting_of x e)) (reads_first x k rest) r) below.1)

    any_reader : (es : List Event) → list_any (is_read_by x k) es ≡ true → AreBelow es → k < m
    any_reader [] h below = absurd cc
    any_reader (e ∷ es) h below = either_way (or_of (is_read_by x k e) (list_any (is_read_by x k) es) h) (λ r. reader e r below.0) (λ r. any_reader es r below.1)

    mutual
      loose : (s : StmtTree) (n : ℕ) → n + statement_count s ≤ m → reads_outside cs x k s n ≡ true → k < m
      loose (Assign lhs right) n h r = any_reader (own_events cs n (Assign lhs right)) r (own (Assign lhs right) n (omega (arith, h)))
      loose (If c a b) n h r =
          either_way (or_of (list_any (is_read_by x k) (own_events cs n (If c a b))) (all_reads_outside cs x k a (n + 1) || all_reads_outside cs x k b (n + 1 + statements_count a)) r)
          (λ q. any_reader (own_events cs n (If c a b)) q (own (If c a b) n (omega (arith, h))))
          (λ q. either_way (or_of (all_reads_outside cs x k a (n + 1)) (all_reads_outside cs x k b (n + 1 + statements_count a)) q) (λ p. all_loose a (n + 1) (omega (arith, h)) p) (λ p. all_loose b (n + 1 + statements_count a) (omega (arith, h)) p))
      loose (Do h body) n l r =
          either_way (or_of (list_any (is_read_by x k) (own_events cs n (Do h body))) (not (is_same_text x h.variable) && all_reads_outside cs x k body (n + 1)) r)
          (λ q. any_reader (own_events cs n (Do h body)) q (own (Do h body) n (omega (arith, l))))
          (λ q. all_loose body (n + 1) (omega (arith, l)) (and_right (not (is_same_text x h.variable)) (all_reads_outside cs x k body (n + 1)) q))
      loose (Print items) n h r = any_reader (own_events cs n (Print items)) r (own (Print items) n (omega (arith, h)))
      loose (Read items) n h r = any_reader (own_events cs n (Read items)) r (own (Read items) n (omega (arith, h)))
      loose Stop n h r = absurd cc
      loose (Comment text) n h r = absurd cc

      all_loose : (ss : StmtTrees) (n : ℕ) → n + statements_count ss ≤ m → all_reads_outside cs x k ss n ≡ true → k < m
      all_loose no_stmts n h r = absurd cc
      all_loose (more_stmts s rest) n h r =
          either_way (or_of (reads_outside cs x k s n) (all_reads_outside cs x k rest (n + statement_count s)) r) (λ q. loose s n (omega (arith, h)) q) (λ q. all_loose rest (n + statement_count s) (omega (arith, h)) q)

  whole : (a : Paths) → Bounded a → (path : List Event) → Whole a path → AreBelow path
  whole a h path (inl p) = h.onward path p
  whole a h path (inr p) = h.ending path p

-- the statement by whose read a DO isn't contained is one of the program
pub broken_within : (t : ProgramTree) (l n : ℕ) → IsBrokenBy t l n → n < statements_count t.body + 1
broken_within t l n b = by b.read
  where
    by : IsReadLoose t l b.scalar n ⊎ IsReadBehind t l b.scalar n → n < statements_count t.body + 1
    by (inl r) =
        let fits = loop_fits t l r.loop.head r.loop.body r.loop.is in
        all_loose (constant_names t.decls) (statements_count t.body + 1) b.scalar n r.loop.body (l + 1) (omega (arith, fits)) r.reads
    by (inr r) =
        first_reader (constant_names t.decls) (statements_count t.body + 1) b.scalar n r.path r.reads
        (whole (constant_names t.decls) (statements_count t.body + 1) (all_paths_behind (constant_names t.decls) l t.body 1) (all_behind (constant_names t.decls) (statements_count t.body + 1) l t.body 1 (omega arith)) r.path r.leads)
