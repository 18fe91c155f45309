-- The DO with a number and the next one, as the code finds them, are the two of the program.
use Rattle.std.proofs.Common.{◌≡◌, ℕ, ◌+◌, ◌==◌, nat_lt, List, Bool, true, false, Option, Some, None, MatchOption, if◌then◌else◌, refl, sym, ap, subst, ◌∙◌}
use Rattle.ped_tree.specs.Tree.{Head, StmtTree, StmtTrees, Assign, If, Do, Print, Read, Stop, Comment, no_stmts, more_stmts, ProgramTree}
use Rattle.ped_tree.specs.Numbering.{statement_count, statements_count}
use Rattle.ped_rules.specs.ped_steps.specs.Replacing.{followed, alone}
use Rattle.ped_rules.specs.ped_steps.specs.Runs.Gaps.{Gap, past, in_then, in_else, in_body}
use Rattle.ped_rules.specs.ped_steps.proofs.Followed.{followed-assoc, followed-none, stmt_trees-append}
use Rattle.ped_splits.specs.declared.neighbours.Pair.{Pair}
use Rattle.ped_splits.specs.Neighbours.{Neighbour}
use Rattle.ped_splits.specs.CodePairs.{IsPair, TwoLoops, two_of, two_in, NextLoop, behind_all, next_in, two_with, two_from, two_among, two_under}
use Rattle.ped_splits.proofs.NeighbourFound as found
use Rattle.ped_splits.proofs.NeighbourFound.{Found, Behind, outwards, sought_in, inside, found_of, is_found, sought_stands}

-- what the code keeps of what is found
abbrev kept : ℕ → Option Found → Option TwoLoops
kept k None = None
kept k (Some f) = Some (record { number = k; own = f.own; own_body = f.own_body; between = f.between; next = f.next; next_body = f.next_body })

abbrev kept_next : Option Behind → Option NextLoop
kept_next None = None
kept_next (Some b) = Some (record { before = b.between; head = b.next; body = b.next_body })

commented : (text : List ℕ) (o : Option Behind) → behind_all (more_stmts (Comment text) no_stmts) (kept_next o) ≡ kept_next (found.with_comment text o)
commented text None = refl
commented text (Some b) = refl

next_same : (ss : StmtTrees) → next_in ss ≡ kept_next (found.next_in ss)
next_same no_stmts = refl
next_same (more_stmts (Assign left right) rest) = refl
next_same (more_stmts (If c a b) rest) = refl
next_same (more_stmts (Do h body) rest) = refl
next_same (more_stmts (Print items) rest) = refl
next_same (more_stmts (Read items) rest) = refl
next_same (more_stmts Stop rest) = refl
next_same (more_stmts (Comment text) rest) = ap (behind_all (more_stmts (Comment text) no_stmts)) (next_same rest) ∙ commented text (found.next_in rest)

module _ (k : ℕ) where
  with_same : (h : Head) (body : StmtTrees) (o : Option Behind) → two_with k h body (kept_next o) ≡ kept k (found.paired h body o)
  with_same h body None = refl
  with_same h body (Some b) = refl

  from_same : (s : StmtTree) (rest : StmtTrees) → two_from k s rest ≡ kept k (found.here s rest)
  from_same (Assign left right) rest = refl
  from_same (If c a b) rest = refl
  from_same (Do h body) rest = ap (two_with k h body) (next_same rest) ∙ with_same h body (found.next_in rest)
  from_same (Print items) rest = refl
  from_same (Read items) rest = refl
  from_same Stop rest = refl
  from_same (Comment text) rest = refl

  kept_outwards : (wrap : Gap → Gap) (o : Option Found) → kept k o ≡ kept k (outwards wrap o)
  kept_outwards wrap None = refl
  kept_outwards wrap (Some f) = refl

  kept_if : (b : Bool) (x y : Option Found) (u v : Option TwoLoops) → u ≡ kept k x → v ≡ kept k y → (if b then u else v) ≡ kept k (if b then x else y)
  kept_if true x y u v e f = e
  kept_if false x y u v e f = f

  mutual
    among_same : (ss : StmtTrees) (n : ℕ) → two_among ss n k ≡ kept k (sought_in k ss n)
    among_same no_stmts n = refl
    among_same (more_stmts s rest) n =
        kept_if (nat_lt k (n + statement_count s)) (if n == k then found.here s rest else inside k s rest n) (outwards (past s) (sought_in k rest (n + statement_count s)))
        (if n == k then two_from k s rest else two_under s n k) (two_among rest (n + statement_count s) k)
        (kept_if (n == k) (found.here s rest) (inside k s rest n) (two_from k s rest) (two_under s n k) (from_same s rest) (under_same s rest n))
        (among_same rest (n + statement_count s) ∙ kept_outwards (past s) (sought_in k rest (n + statement_count s)))

    under_same : (s : StmtTree) (rest : StmtTrees) (n : ℕ) → two_under s n k ≡ kept k (inside k s rest n)
    under_same (Assign left right) rest n = refl
    under_same (If c a b) rest n =
        kept_if (nat_lt k (n + 1 + statements_count a)) (outwards (λ g. in_then c g b rest) (sought_in k a (n + 1))) (outwards (λ g. in_else c a g rest) (sought_in k b (n + 1 + statements_count a)))
        (two_among a (n + 1) k) (two_among b (n + 1 + statements_count a) k)
        (among_same a (n + 1) ∙ kept_outwards (λ g. in_then c g b rest) (sought_in k a (n + 1)))
        (among_same b (n + 1 + statements_count a) ∙ kept_outwards (λ g. in_else c a g rest) (sought_in k b (n + 1 + statements_count a)))
    under_same (Do h body) rest n = among_same body (n + 1) ∙ kept_outwards (λ g. in_body h g rest) (sought_in k body (n + 1))
    under_same (Print items) rest n = refl
    under_same (Read items) rest n = refl
    under_same Stop rest n = refl
    under_same (Comment text) rest n = refl

-- the two of a program
abbrev pub two_at : {t : ProgramTree} {s : ℕ} → Neighbour t s → TwoLoops
two_at {t} {s} x = record { number = s; own = x.own; own_body = x.own_body; between = x.between; next = x.next; next_body = x.next_body }

module _ (t : ProgramTree) (s : ℕ) where
  -- where they are, they are found
  pub two_are_found : (x : Neighbour t s) → two_among t.body 1 s ≡ Some (two_at x)
  two_are_found x = among_same s t.body 1 ∙ ap (kept s) (is_found t s x)

  one_of_some : (v w : TwoLoops) → Some v ≡ Some w → v ≡ w
  one_of_some v w e = cc

  nothing_found : (w : TwoLoops) → ◌≡◌ {A = Option TwoLoops} None (Some w) → ⊥
  nothing_found w e = cc

  -- there are no other two
  pub one_two : (x y : Neighbour t s) → two_at x ≡ two_at y
  one_two x y = one_of_some (two_at x) (two_at y) (sym (two_are_found x) ∙ two_are_found y)

  pub none_there : two_among t.body 1 s ≡ None → Neighbour t s → ⊥
  none_there none x = nothing_found (two_at x) (sym none ∙ two_are_found x)

  -- what is found is there
  pub two_there : (w : TwoLoops) → two_among t.body 1 s ≡ Some w → (x : Neighbour t s) × (two_at x ≡ w)
  two_there w e = by (sought_in s t.body 1) refl
    where
      by : (o : Option Found) → sought_in s t.body 1 ≡ o → (x : Neighbour t s) × (two_at x ≡ w)
      by None is = absurd (nothing_found w (sym (among_same s t.body 1 ∙ ap (kept s) is) ∙ e))
      by (Some f) is =
          let d = sought_stands s t.body 1 f is in
          let x : Neighbour t s = record {
            gap = f.gap;
            own = f.own;
            own_body = f.own_body;
            between = f.between;
            next = f.next;
            next_body = f.next_body;
            stands = d.stands;
            numbered = d.numbered;
            comments = d.comments;
          } in
          (x, one_of_some (two_at x) w (sym (among_same s t.body 1 ∙ ap (kept s) is) ∙ e))

  -- the code's two are those of the program
  pub pair_found : (r : Option Pair) → two_in r ≡ two_among t.body 1 s → MatchOption r (Neighbour t s → ⊥) (λ p. (p.number ≡ s) × IsPair t p)
  pair_found None is = none_there (sym is)
  pair_found (Some p) is =
      let there = two_there (two_of p) (sym is) in
      let at : p.number ≡ s = sym (ap (λ (w : TwoLoops). w.number) there.1) in (
        at,
        subst (λ (m : ℕ). (x : Neighbour t m) → two_at x ≡ two_of p → IsPair t p) at (λ x h. record {
          neighbour = x;
          own = ap (λ (w : TwoLoops). w.own) h;
          own_body = ap (λ (w : TwoLoops). w.own_body) h;
          between = ap (λ (w : TwoLoops). w.between) h;
          next = ap (λ (w : TwoLoops). w.next) h;
          next_body = ap (λ (w : TwoLoops). w.next_body) h;
        }) there.0 there.1,
      )
