-- What isn't live behind a DO isn't live behind the next one in its list, which leaves it as it is: a path from the exit of the first one passes the second one without an iteration.
use Rattle.std.proofs.Common.{◌≡◌, ◌⊎◌, ℕ, ◌+◌, ◌<◌, ◌≤◌, List, [], ◌∷◌, ◌++◌, map, Bool, true, false, ◌&&◌, ◌||◌, ◌==◌, IsTrue, inl, inr, refl, sym, ap, subst, ◌∙◌, arith, eqb-true, if◌then◌else◌}
use Rattle.std.proofs.lemmas.Bool.{both_ways}
use Rattle.std.proofs.lemmas.List.{append_assoc}
use Rattle.ped_base.specs.Lists.{is_same_text}
use Rattle.ped_tree.specs.Accesses.{constant_names}
use Rattle.ped_tree.specs.NamesIn.{all_loop_variables}
use Rattle.ped_tree.specs.Numbering.{statement_count, statements_count}
use Rattle.ped_tree.specs.Tree.{Assign, Comment, Do, Head, If, Print, ProgramTree, Read, StmtTree, StmtTrees, Stop, more_stmts, no_stmts}
use Rattle.ped_rules.specs.ped_steps.proofs.RunLaws.FilledGaps.{counted, number_from, number_room}
use Rattle.ped_rules.specs.ped_steps.specs.Replacing.{alone, followed}
use Rattle.ped_rules.specs.ped_steps.specs.Runs.Gaps.{Gap, at_front, filled, in_body, in_else, in_then, number_at, past}
use Rattle.ped_rules.specs.ped_flow.specs.Events.{Event, assigns, clears, event, exit_events, overwrites, own_events, reads_first, reads_of, scalars_in}
use Rattle.ped_rules.specs.ped_flow.proofs.EventLaws.{overwrites-append, reads_first-back}
use Rattle.ped_rules.specs.ped_flow.specs.PathSets.{Paths, Whole, either, going, in_turn, trips}
use Rattle.ped_rules.specs.ped_flow.specs.Paths.{all_paths, all_paths_behind, at_once, iteration, paths, paths_behind, paths_from_exit}
use Rattle.ped_rules.specs.ped_flow.specs.Questions.{IsLiveAfter}
use Rattle.ped_splits.specs.Neighbours.{Neighbour, next_number}

-- statements in which a DO doesn't stand have no path from its exit
module _ (cs : List (List ℕ)) (l : ℕ) where
  abbrev Outside : ℕ → ℕ → Type 0
  Outside n count = (l < n) ⊎ (n + count ≤ l)

  mutual
    none_behind : (z : StmtTree) (n : ℕ) → Outside n (statement_count z) → (path : List Event) → Whole (paths_behind cs l z n) path → ⊥
    none_behind (Assign left right) n out path w = elim w [ inl k ↦ k | inr k ↦ k ]
    none_behind (If c a b) n out path w = elim w [
      | inl k ↦ elim k [ inl i ↦ all_none_behind a (n + 1) (first out) path (inl i) | inr i ↦ all_none_behind b (n + 1 + statements_count a) (second out) path (inl i) ]
      | inr k ↦ elim k [ inl i ↦ all_none_behind a (n + 1) (first out) path (inr i) | inr i ↦ all_none_behind b (n + 1 + statements_count a) (second out) path (inr i) ]
    ]
      where
        first : Outside n (statement_count (If c a b)) → Outside (n + 1) (statements_count a)
        first (inl h) = inl (omega (arith, h))
        first (inr h) = inr (omega (arith, h))

        second : Outside n (statement_count (If c a b)) → Outside (n + 1 + statements_count a) (statements_count b)
        second (inl h) = inl (omega (arith, h))
        second (inr h) = inr (omega (arith, h))
    none_behind (Do h body) n out path w = elim w [
      | inl k ↦ elim k [ inl i ↦ never (l == n) refl (inl i) | inr i ↦ all_none_behind body (n + 1) inside i.0 (inl i.3) ]
      | inr k ↦ elim k [ inl i ↦ never (l == n) refl (inr i) | inr i ↦ elim i [ inl j ↦ all_none_behind body (n + 1) inside path (inr j) | inr j ↦ all_none_behind body (n + 1) inside j.0 (inl j.3) ] ]
    ]
      where
        inside : Outside (n + 1) (statements_count body)
        inside = go out
          where
            go : Outside n (statement_count (Do h body)) → Outside (n + 1) (statements_count body)
            go (inl e) = inl (omega (arith, e))
            go (inr e) = inr (omega (arith, e))

        apart : l ≡ n → ⊥
        apart e = go out
          where
            go : Outside n (statement_count (Do h body)) → ⊥
            go (inl less) = omega (arith, e, less)
            go (inr more) = omega (arith, e, more)

        never : (b : Bool) → (l == n) ≡ b → Whole (at_once b) path → ⊥
        never true e i = apart (eqb-true l n e)
        never false e i = elim i [ inl j ↦ j | inr j ↦ j ]
    none_behind (Print items) n out path w = elim w [ inl k ↦ k | inr k ↦ k ]
    none_behind (Read items) n out path w = elim w [ inl k ↦ k | inr k ↦ k ]
    none_behind Stop n out path w = elim w [ inl k ↦ k | inr k ↦ k ]
    none_behind (Comment text) n out path w = elim w [ inl k ↦ k | inr k ↦ k ]

    all_none_behind : (zs : StmtTrees) (n : ℕ) → Outside n (statements_count zs) → (path : List Event) → Whole (all_paths_behind cs l zs n) path → ⊥
    all_none_behind no_stmts n out path w = elim w [ inl k ↦ k | inr k ↦ k ]
    all_none_behind (more_stmts z rest) n out path w = elim w [
      | inl k ↦ elim k [ inl i ↦ none_behind z n (first out) i.0 (inl i.3) | inr i ↦ all_none_behind rest (n + statement_count z) (second out) path (inl i) ]
      | inr k ↦ elim k [
        | inl i ↦ elim i [ inl j ↦ none_behind z n (first out) path (inr j) | inr j ↦ none_behind z n (first out) j.0 (inl j.3) ]
        | inr i ↦ all_none_behind rest (n + statement_count z) (second out) path (inr i)
      ]
    ]
      where
        first : Outside n (statements_count (more_stmts z rest)) → Outside n (statement_count z)
        first (inl h) = inl h
        first (inr h) = inr (omega (arith, h))

        second : Outside n (statements_count (more_stmts z rest)) → Outside (n + statement_count z) (statements_count rest)
        second (inl h) = inl (omega (arith, h))
        second (inr h) = inr (omega (arith, h))

-- events in front of each path
module _ (front : List Event) where
  abbrev Lift : Paths → Paths → Type 0
  Lift P Q = ((path : List Event) → P.onward path → Q.onward (front ++ path)) × ((path : List Event) → P.ending path → Q.ending (front ++ path))

  lift_in_turn : (P Q R : Paths) → Lift P Q → Lift (in_turn P R) (in_turn Q R)
  lift_in_turn P Q R h = (
    (λ path k. (front ++ k.0, k.1, ap (λ (es : List Event). front ++ es) k.2 ∙ sym (append_assoc front k.0 k.1), h.0 k.0 k.3, k.4)),
    (λ path k. elim k [
      | inl i ↦ inl (h.1 path i)
      | inr i ↦ inr (front ++ i.0, i.1, ap (λ (es : List Event). front ++ es) i.2 ∙ sym (append_assoc front i.0 i.1), h.0 i.0 i.3, i.4)
    ]),
  )

  lift_either : (P Q R T : Paths) → Lift P Q → Lift R T → Lift (either P R) (either Q T)
  lift_either P Q R T h k = (
    (λ path w. elim w [ inl i ↦ inl (h.0 path i) | inr i ↦ inr (k.0 path i) ]),
    (λ path w. elim w [ inl i ↦ inl (h.1 path i) | inr i ↦ inr (k.1 path i) ]),
  )

  lift_none : (P Q : Paths) → ((path : List Event) → Whole P path → ⊥) → Lift P Q
  lift_none P Q h = ((λ path i. absurd (h path (inl i))), (λ path i. absurd (h path (inr i))))

module _ (cs : List (List ℕ)) (m s : ℕ) (own : Head) (own_body between : StmtTrees) (d : Head) (body : StmtTrees) (comments : statements_count between ≡ 0) (numbered : m ≡ s + 1 + statements_count own_body) where
  abbrev first : StmtTree
  first = Do own own_body

  abbrev second : StmtTree
  second = Do d body

  abbrev it : StmtTrees
  it = more_stmts (Do own own_body) (followed between (alone (Do d body)))

  -- what the second DO does where it has no iteration
  abbrev passing : List Event
  passing = own_events cs m (Do d body) ++ ([] ++ exit_events m d body)

  -- comments do nothing
  passed : (zs rest : StmtTrees) → statements_count zs ≡ 0 → (n : ℕ) → n ≡ m → Lift passing (all_paths_behind cs m (followed zs (more_stmts second rest)) n) (all_paths cs (followed zs (more_stmts second rest)) n)
  passed no_stmts rest h n e = subst (λ (k : ℕ). Lift passing (all_paths_behind cs m (more_stmts second rest) k) (all_paths cs (more_stmts second rest) k)) (sym e) (at_second rest)
    where
      at_second : (rest : StmtTrees) → Lift passing (all_paths_behind cs m (more_stmts second rest) m) (all_paths cs (more_stmts second rest) m)
      at_second rest = (
        (λ path w. elim w [ inl i ↦ through path i.0 i.1 i.2 i.3 i.4 | inr i ↦ absurd (all_none_behind cs m rest (m + statement_count second) (inl (omega arith)) path (inl i)) ]),
        (λ path w. elim w [
          | inl i ↦ elim i [ inl j ↦ absurd (ends path j) | inr j ↦ inr (passing, j.1, ap (λ (es : List Event). passing ++ es) (j.2 ∙ ap (λ (es : List Event). es ++ j.1) (empty j.0 j.3)), whole, j.4) ]
          | inr i ↦ absurd (all_none_behind cs m rest (m + statement_count second) (inl (omega arith)) path (inr i))
        ]),
      )
        where
          whole : (paths cs second m).onward passing
          whole = (own_events cs m second, [] ++ exit_events m d body, refl, refl, ([], exit_events m d body, refl, (0, refl), refl))

          inside_none : (path : List Event) → Whole (all_paths_behind cs m body (m + 1)) path → ⊥
          inside_none path i = all_none_behind cs m body (m + 1) (inl (omega arith)) path i

          at_itself : (b : Bool) (path : List Event) → (at_once b).onward path → path ≡ []
          at_itself true path i = i
          at_itself false path i = absurd i

          no_ending : (b : Bool) (path : List Event) → (at_once b).ending path → ⊥
          no_ending true path i = i
          no_ending false path i = i

          empty : (path : List Event) → (paths_behind cs m second m).onward path → path ≡ []
          empty path i = elim i [ inl j ↦ at_itself (m == m) path j | inr j ↦ absurd (inside_none j.0 (inl j.3)) ]

          ends : (path : List Event) → (paths_behind cs m second m).ending path → ⊥
          ends path i = elim i [ inl j ↦ no_ending (m == m) path j | inr j ↦ elim j [ inl k ↦ inside_none path (inr k) | inr k ↦ inside_none k.0 (inl k.3) ] ]

          through : (path front back : List Event) → path ≡ front ++ back → (paths_behind cs m second m).onward front → (all_paths cs rest (m + statement_count second)).onward back → (all_paths cs (more_stmts second rest) m).onward (passing ++ path)
          through path front back is i j = (passing, back, ap (λ (es : List Event). passing ++ es) (is ∙ ap (λ (es : List Event). es ++ back) (empty front i)), whole, j)
  passed (more_stmts (Comment text) zs) rest h n e =
      let more = passed zs rest (omega (arith, h)) (n + 0) (omega (arith, e)) in (
        (λ path w. elim w [ inl i ↦ absurd i.3 | inr i ↦ ([], passing ++ path, refl, refl, more.0 path i) ]),
        (λ path w. elim w [ inl i ↦ elim i [ inl j ↦ absurd j | inr j ↦ absurd j.3 ] | inr i ↦ inr ([], passing ++ path, refl, refl, more.1 path i) ]),
      )
  passed (more_stmts (Assign left right) zs) rest h n e = absurd (omega (arith, h))
  passed (more_stmts (If c a b) zs) rest h n e = absurd (omega (arith, h))
  passed (more_stmts (Do g inner) zs) rest h n e = absurd (omega (arith, h))
  passed (more_stmts (Print items) zs) rest h n e = absurd (omega (arith, h))
  passed (more_stmts (Read items) zs) rest h n e = absurd (omega (arith, h))
  passed (more_stmts Stop zs) rest h n e = absurd (omega (arith, h))

  followed_again : (xs ys zs : StmtTrees) → followed xs (followed ys zs) ≡ followed (followed xs ys) zs
  followed_again no_stmts ys zs = refl
  followed_again (more_stmts x xs) ys zs = ap (more_stmts x) (followed_again xs ys zs)

  with_rest : (z : StmtTree) (rest : StmtTrees) (n : ℕ) → m < n + statement_count z → Lift passing (paths_behind cs m z n) (paths_behind cs s z n) → Lift passing (all_paths_behind cs m (more_stmts z rest) n) (all_paths_behind cs s (more_stmts z rest) n)
  with_rest z rest n less h =
      lift_either passing (in_turn (paths_behind cs m z n) (all_paths cs rest (n + statement_count z))) (in_turn (paths_behind cs s z n) (all_paths cs rest (n + statement_count z))) (all_paths_behind cs m rest (n + statement_count z)) (all_paths_behind cs s rest (n + statement_count z))
      (lift_in_turn passing (paths_behind cs m z n) (paths_behind cs s z n) (all_paths cs rest (n + statement_count z)) h)
      (lift_none passing (all_paths_behind cs m rest (n + statement_count z)) (all_paths_behind cs s rest (n + statement_count z)) (all_none_behind cs m rest (n + statement_count z) (inl less)))

  room : (gap : Gap) (n : ℕ) → number_at gap n ≡ s → m < n + statements_count (filled gap it)
  room gap n e = let r = number_room gap it n in let size = counted between (alone second) in omega (arith, r, e, numbered, size, comments)

  lift_gap : (gap : Gap) (n : ℕ) → number_at gap n ≡ s → Lift passing (all_paths_behind cs m (filled gap it) n) (all_paths_behind cs s (filled gap it) n)
  lift_gap (at_front rest) n e =
      let tail = passed between rest comments (n + statement_count first) (omega (arith, e, numbered)) in
      let again = followed_again between (alone second) rest in
      let more : Lift passing (all_paths_behind cs m (followed (followed between (alone second)) rest) (n + statement_count first)) (all_paths cs (followed (followed between (alone second)) rest) (n + statement_count first)) =
      subst (λ (ts : StmtTrees). Lift passing (all_paths_behind cs m ts (n + statement_count first)) (all_paths cs ts (n + statement_count first))) again tail in (
        (λ path w. elim w [ inl i ↦ absurd (none_behind cs m first n (inr (omega (arith, e, numbered))) i.0 (inl i.3)) | inr i ↦ inl ([], passing ++ path, refl, inl at_once_here, more.0 path i) ]),
        (λ path w. elim w [
          | inl i ↦ elim i [
            | inl j ↦ absurd (none_behind cs m first n (inr (omega (arith, e, numbered))) path (inr j))
            | inr j ↦ absurd (none_behind cs m first n (inr (omega (arith, e, numbered))) j.0 (inl j.3))
          ]
          | inr i ↦ inl (inr ([], passing ++ path, refl, inl at_once_here, more.1 path i))
        ]),
      )
    where
      at_once_here : (at_once (s == n)).onward []
      at_once_here = by (s == n) refl
        where
          by : (b : Bool) → (s == n) ≡ b → (at_once b).onward []
          by true h = refl
          by false h = absurd (both_ways (s == n) h (let same : s ≡ n = sym e in subst (λ (k : ℕ). (s == k) ≡ true) same (itself s)))
            where
              itself : (k : ℕ) → (k == k) ≡ true
              itself k = grind arith
  lift_gap (past z gap) n e =
      let from = number_from gap (n + statement_count z) in
      lift_either passing (in_turn (paths_behind cs m z n) (all_paths cs (filled gap it) (n + statement_count z))) (in_turn (paths_behind cs s z n) (all_paths cs (filled gap it) (n + statement_count z)))
      (all_paths_behind cs m (filled gap it) (n + statement_count z)) (all_paths_behind cs s (filled gap it) (n + statement_count z))
      (lift_in_turn passing (paths_behind cs m z n) (paths_behind cs s z n) (all_paths cs (filled gap it) (n + statement_count z)) (lift_none passing (paths_behind cs m z n) (paths_behind cs s z n) (none_behind cs m z n (inr (omega (arith, from, e, numbered))))))
      (lift_gap gap (n + statement_count z) e)
  lift_gap (in_then c gap other rest) n e =
      let a = filled gap it in
      let less = room gap (n + 1) e in
      with_rest (If c a other) rest n (omega (arith, less))
      (lift_either passing (all_paths_behind cs m a (n + 1)) (all_paths_behind cs s a (n + 1)) (all_paths_behind cs m other (n + 1 + statements_count a)) (all_paths_behind cs s other (n + 1 + statements_count a))
      (lift_gap gap (n + 1) e) (lift_none passing (all_paths_behind cs m other (n + 1 + statements_count a)) (all_paths_behind cs s other (n + 1 + statements_count a)) (all_none_behind cs m other (n + 1 + statements_count a) (inl less))))
  lift_gap (in_else c other gap rest) n e =
      let a = filled gap it in
      let less = room gap (n + 1 + statements_count other) e in
      let from = number_from gap (n + 1 + statements_count other) in
      with_rest (If c other a) rest n (omega (arith, less))
      (lift_either passing (all_paths_behind cs m other (n + 1)) (all_paths_behind cs s other (n + 1)) (all_paths_behind cs m a (n + 1 + statements_count other)) (all_paths_behind cs s a (n + 1 + statements_count other))
      (lift_none passing (all_paths_behind cs m other (n + 1)) (all_paths_behind cs s other (n + 1)) (all_none_behind cs m other (n + 1) (inr (omega (arith, from, e, numbered)))))
      (lift_gap gap (n + 1 + statements_count other) e))
  lift_gap (in_body g gap rest) n e =
      let a = filled gap it in
      let less = room gap (n + 1) e in
      let from = number_from gap (n + 1) in
      let left = in_turn (trips (iteration n g a (all_paths cs a (n + 1)))) (going (exit_events n g a)) in
      with_rest (Do g a) rest n (omega (arith, less))
      (lift_either passing (at_once (m == n)) (at_once (s == n)) (in_turn (all_paths_behind cs m a (n + 1)) left) (in_turn (all_paths_behind cs s a (n + 1)) left)
      (lift_none passing (at_once (m == n)) (at_once (s == n)) (λ path. no_path path (m == n) refl (omega (arith, from, e, numbered))))
      (lift_in_turn passing (all_paths_behind cs m a (n + 1)) (all_paths_behind cs s a (n + 1)) left (lift_gap gap (n + 1) e)))
    where
      no_path : (path : List Event) (b : Bool) → (m == n) ≡ b → n < m → Whole (at_once b) path → ⊥
      no_path path true h later i = let same : m ≡ n = eqb-true m n h in omega (arith, same, later)
      no_path path false h later i = elim i [ inl j ↦ j | inr j ↦ j ]

-- so a name that the second DO leaves alone is live behind the first one, where it is live behind the second
module _ (t : ProgramTree) (s : ℕ) (x : Neighbour t s) (serial : x.next.parallel ≡ false) (private : x.next.private ≡ []) (w : List ℕ) (apart : is_same_text w x.next.variable ≡ false) where
  abbrev cs : List (List ℕ)
  cs = constant_names t.decls

  abbrev m : ℕ
  m = next_number x

  abbrev front : List Event
  front = passing (constant_names t.decls) (next_number x) s x.own x.own_body x.between x.next x.next_body x.comments refl

  lifted : Lift front (paths_from_exit t m) (paths_from_exit t s)
  lifted = subst (λ (ts : StmtTrees). Lift front (all_paths_behind cs m ts 1) (all_paths_behind cs s ts 1)) (sym x.stands) (lift_gap cs m s x.own x.own_body x.between x.next x.next_body x.comments refl x.gap 1 x.numbered)

  leads : (path : List Event) → Whole (paths_from_exit t m) path → Whole (paths_from_exit t s) (front ++ path)
  leads path h = elim h [ inl i ↦ inl (lifted.0 path i) | inr i ↦ inr (lifted.1 path i) ]

  quiet_reads : (names : List (List ℕ)) → overwrites w (reads_of m names) ≡ false
  quiet_reads [] = refl
  quiet_reads (y ∷ ys) = let more = quiet_reads ys in never (is_same_text w y) (overwrites w (reads_of m ys)) more
    where
      never : (a c : Bool) → c ≡ false → (a && false) || c ≡ false
      never true c h = h
      never false c h = h

  kept : overwrites w front ≡ false
  kept =
      overwrites-append w (own_events cs m (Do x.next x.next_body)) ([] ++ exit_events m x.next x.next_body)
      ∙ (λ i. own i || overwrites w (ends i))
    where
      own : overwrites w (own_events cs m (Do x.next x.next_body)) ≡ false
      own =
          overwrites-append w (reads_of m (scalars_in cs x.next.first ++ scalars_in cs x.next.last)) (event m assigns x.next.variable ∷ [])
          ∙ (λ i. quiet_reads (scalars_in cs x.next.first ++ scalars_in cs x.next.last) i || ((apart i && true) || false))

      ends : exit_events m x.next x.next_body ≡ []
      ends i = map (event m clears) ((if serial i then x.next.variable ∷ [] else []) ++ (private i ++ (if serial i then all_loop_variables x.next_body else [])))

  pub live_before : IsLiveAfter t (next_number x) w → IsLiveAfter t s w
  live_before (inl h) = inl (h.0, record { path = front ++ h.1.path; leads = leads h.1.path h.1.leads; reads = is_so (reads_first w h.0 (front ++ h.1.path)) (reads_first-back w h.0 front h.1.path kept (it_is (reads_first w h.0 h.1.path) h.1.reads)) })
    where
      it_is : (b : Bool) → IsTrue b → b ≡ true
      it_is b k = k

      is_so : (b : Bool) → b ≡ true → IsTrue b
      is_so b k = k
  live_before (inr h) = inr (record { saved = h.saved; path = front ++ h.path; leads = leads h.path h.leads; kept = overwrites-append w front h.path ∙ (λ i. kept i || h.kept i) })
