-- Behind `expand` the program's end shows no more: another scalar is overwritten where it was before, and what stands round the DO leaves the scalar itself as it is.
use Rattle.std.proofs.Common.{◌≡◌, ℕ, ◌+◌, ◌<◌, ◌≤◌, ◌==◌, ℤ, List, [], ◌∷◌, ◌++◌, Bool, true, false, not, ◌&&◌, ◌||◌, refl, sym, ap, ◌∙◌, arith, eqb-true, if◌then◌else◌}
use Rattle.std.specs.Prelude.{nat_lt}
use Rattle.std.specs.List.{flat_map}
use Rattle.std.proofs.lemmas.List.Folds.{list_any-append}
use Rattle.ped_base.specs.Lists.{is_same_text, is_among}
use Rattle.ped_base.proofs.NameEquality.{same_is}
use Rattle.ped_tree.specs.Tree.{ExprTree, Var, Assign, Head, StmtTrees, Do, no_stmts, DeclTree, ProgramTree}
use Rattle.ped_tree.specs.Numbering.{statement_count, statements_count}
use Rattle.ped_tree.specs.Accesses.{constants_in, constant_names}
use Rattle.ped_tree.specs.NamesIn.{loop_variables, all_loop_variables}
use Rattle.ped_rules.specs.ped_flow.specs.Events.{copied, own_events, exit_events}
use Rattle.ped_rules.specs.ped_flow.specs.Questions.{LoopOf, IsIndexIn, IsShownBehind}
use Rattle.ped_tree.specs.NamesIn.{saved_in}
use Rattle.ped_rules.specs.ped_flow.specs.Summaries.{passing, unreached, summary_in_turn, summary_events, summary_loop, summary_of, summary_of_all, summary_at_once, summary_behind_all}
use Rattle.ped_rules.specs.ped_flow.proofs.Truths.{untrue, or_none}
use Rattle.ped_rules.specs.ped_laws.specs.FlowRuns.Covering.{some_stop}
use Rattle.ped_symbolic.specs.Arithmetic.{literal}
use Rattle.ped_symbolic.specs.Substitution.{statements_substituted}
use Rattle.ped_rules.specs.ped_steps.specs.Replacing.{alone}
use Rattle.ped_rules.specs.ped_steps.proofs.RunLaws.SubstitutedShapes.{counts_kept}
use Rattle.ped_rules.specs.Spans.{Span}
use Rattle.ped_rules.specs.ScalarArrays.{element, declaration}
use Rattle.ped_scalar.specs.Expanding.{kept_value, with_elements, expanded, moved_behind}
use Rattle.ped_rules.specs.ped_loop_runs.proofs.TidyLaws.TidyPathsSums.{IsNoMore, AreNoMore, append_more, no_more, no_more_by, unreached_more, in_turn_more, either_more, events_keep, events_pass, clear_all, own_overwrites, own_exit, same_head_clears, loop_more, do_more, more_more}
use Rattle.ped_rules.specs.ped_loop_runs.proofs.TidyLaws.TidyPathsGaps.{IsPlaced, IsOutside, LeaveNoMore, at_once_more, in_turn_none, all_behind_none, all_behind_placed, loop_behind_more, rest_behind_more}
use Rattle.ped_rules.specs.ped_loop_runs.proofs.TidyLaws.TidyPathsShown.{exchanged_shows_less}
use Rattle.ped_rules.specs.ped_loop_runs.proofs.TidyLaws.TidyPathsInside.{inside_variables}
use Rattle.ped_rules.specs.ped_loop_runs.proofs.TidyLaws.TidyPathsStops.{unstopped}
use Rattle.ped_rules.proofs.NameLaws.SubstitutedPaths.{stops_kept, variables_clear, all_substituted_leave, all_substituted_behind}

-- numbers up to the DO's last one are told alike
placed_up_to : (live : Bool) (end l i : ℕ) → i ≤ end → (moved_behind end live l == i) ≡ (l == i)
placed_up_to live end l i h = go (nat_lt end l) live refl
  where
    go : (b further : Bool) → nat_lt end l ≡ b → ((if b && further then l + 1 else l) == i) ≡ (l == i)
    go false further e = refl
    go true false e = refl
    go true true e = grind (arith, eqb-true, e, h)

-- and those behind it one further
placed_from : (live : Bool) (end l a b : ℕ) → end < b → a ≡ (if live then b + 1 else b) → (moved_behind end live l == a) ≡ (l == b)
placed_from live end l a b h e = go (nat_lt end l) live refl e
  where
    go : (c further : Bool) → nat_lt end l ≡ c → a ≡ (if further then b + 1 else b) → ((if c && further then l + 1 else l) == a) ≡ (l == b)
    go c false f g = plain c g
      where
        plain : (c : Bool) → a ≡ b → ((if c && false then l + 1 else l) == a) ≡ (l == b)
        plain true g = ap (λ (z : ℕ). l == z) g
        plain false g = ap (λ (z : ℕ). l == z) g
    go true true f g = grind (arith, eqb-true, g)
    go false true f g = grind (arith, eqb-true, f, g, h)

module _ (cs : List (List ℕ)) (w x array : List ℕ) (live : Bool) (last : ℤ) where
  kept_passes : (b : Bool) (n : ℕ) → IsNoMore (summary_of_all cs w (kept_value b x array last) n) passing
  kept_passes true n =
      let s = Assign (Var x) (element array (literal last)) in
      in_turn_more (summary_of cs w s n) passing passing passing (events_pass w (own_events cs n s)) (no_more passing)
  kept_passes false n = no_more passing

  kept_behind : (b : Bool) (k n : ℕ) → IsNoMore (summary_behind_all cs w k (kept_value b x array last) n) unreached
  kept_behind true k n = no_more unreached
  kept_behind false k n = no_more unreached

  module _ (h : Head) (body : StmtTrees) where
    abbrev by : ExprTree
    by = element array (Var h.variable)

    abbrev inner : StmtTrees
    inner = statements_substituted x by body

    abbrev new : StmtTrees
    new = with_elements x array live last (Do h body)

    expanded_loops : AreNoMore w (all_loop_variables (alone (Do h body))) (all_loop_variables new)
    expanded_loops =
        append_more w (h.variable ∷ all_loop_variables body) [] (h.variable ∷ all_loop_variables inner) (all_loop_variables (kept_value live x array last))
        (append_more w (h.variable ∷ []) (all_loop_variables body) (h.variable ∷ []) (all_loop_variables inner) (λ e. e) (variables_clear x by cs w body)) (λ e. untrue e)

    -- another scalar
    module _ (other : is_same_text w x ≡ false) where
      others_leave : LeaveNoMore cs w new (alone (Do h body))
      others_leave = record {
        summed = λ n m.
            more_more cs w (Do h inner) (Do h body) (kept_value live x array last) no_stmts n m (n + statement_count (Do h inner)) (m + statement_count (Do h body))
            (do_more cs w h h inner body n m (same_head_clears cs w h inner body (variables_clear x by cs w body)) (all_substituted_leave x by cs w other body (n + 1) (m + 1)))
            (kept_passes live (n + statement_count (Do h inner)));
        loops = expanded_loops;
      }

      others_behind : (s k l : ℕ) → (k == s) ≡ (l == s) → IsPlaced k (s + 1) l (s + 1) (statements_count body) → IsNoMore (summary_behind_all cs w k new s) (summary_behind_all cs w l (alone (Do h body)) s)
      others_behind s k l here inside =
          rest_behind_more cs w (Do h inner) (Do h body) (kept_value live x array last) no_stmts k s l s (s + statement_count (Do h inner)) (s + statement_count (Do h body))
          (loop_behind_more cs w h h inner body k s l s here
          (no_more_by (summary_behind_all cs w k inner (s + 1)) (summary_behind_all cs w k body (s + 1)) (summary_behind_all cs w l body (s + 1))
          (all_substituted_behind x by cs w other body k (s + 1)) (all_behind_placed cs w body k (s + 1) l (s + 1) inside))
          (loop_more cs w h h inner body s s (summary_of_all cs w inner (s + 1)) (summary_of_all cs w body (s + 1)) (same_head_clears cs w h inner body (variables_clear x by cs w body)) (all_substituted_leave x by cs w other body (s + 1) (s + 1))))
          (kept_passes live (s + statement_count (Do h inner))) (kept_behind live k (s + statement_count (Do h inner)))

    -- a scalar that the DO leaves as it is where it makes no trip
    module _ (variable : is_same_text w h.variable ≡ false) (private : is_among w h.private ≡ false) (serial : h.parallel ≡ false) (unstopped_body : some_stop body ≡ false) where
      entry_keeps : (m : ℕ) → (summary_events w (own_events cs m (Do h body))).keeps ≡ true
      entry_keeps m = events_keep w (own_events cs m (Do h body)) ∙ ap not (own_overwrites cs w (Do h body) m ∙ (λ i. variable i || false))

      exit_clears : is_among w (own_exit h ++ copied h body) ≡ false
      exit_clears =
          ap (λ (p : Bool). is_among w ((if p then h.variable ∷ [] else []) ++ (h.private ++ (if p then all_loop_variables body else [])))) serial
          ∙ list_any-append (is_same_text w) h.private [] ∙ (λ i. private i || false)

      exit_keeps : (m : ℕ) → (summary_events w (exit_events m h body)).keeps ≡ true
      exit_keeps m = events_keep w (exit_events m h body) ∙ ap not (clear_all w m (own_exit h ++ copied h body) ∙ exit_clears)

      loop_keeps : (m : ℕ) → (summary_of_all cs w (alone (Do h body)) m).keeps ≡ true
      loop_keeps m = λ i. (entry_keeps m i && exit_keeps m i) && true

      itself_passes : (n : ℕ) → IsNoMore (summary_of_all cs w new n) passing
      itself_passes n =
          in_turn_more (summary_of cs w (Do h inner) n) (summary_of_all cs w (kept_value live x array last) (n + statement_count (Do h inner))) passing passing
          (unstopped cs w (Do h inner) n (stops_kept x by body ∙ unstopped_body)) (kept_passes live (n + statement_count (Do h inner)))

      itself_leaves : LeaveNoMore cs w new (alone (Do h body))
      itself_leaves = record {
        summed = λ n m. no_more_by (summary_of_all cs w new n) passing (summary_of_all cs w (alone (Do h body)) m) (itself_passes n) (record { keeps = λ e. loop_keeps m; ends = λ e. untrue e });
        loops = expanded_loops;
      }

      itself_behind : (s k l : ℕ) → (k == s) ≡ (l == s) → IsOutside k (s + 1) (statements_count inner) → IsNoMore (summary_behind_all cs w k new s) (summary_behind_all cs w l (alone (Do h body)) s)
      itself_behind s k l here outside =
          let trips = summary_loop w s h inner (summary_of_all cs w inner (s + 1)) in
          let others = summary_in_turn (summary_behind_all cs w l body (s + 1)) (summary_loop w s h body (summary_of_all cs w body (s + 1))) in
          rest_behind_more cs w (Do h inner) (Do h body) (kept_value live x array last) no_stmts k s l s (s + statement_count (Do h inner)) (s + statement_count (Do h body))
          (either_more (summary_at_once (k == s)) (summary_in_turn (summary_behind_all cs w k inner (s + 1)) trips) (summary_at_once (l == s)) others
          (at_once_more k s l s here)
          (no_more_by (summary_in_turn (summary_behind_all cs w k inner (s + 1)) trips) unreached others (in_turn_none (summary_behind_all cs w k inner (s + 1)) trips (all_behind_none cs w inner k (s + 1) outside)) (unreached_more others)))
          (kept_passes live (s + statement_count (Do h inner))) (kept_behind live k (s + statement_count (Do h inner)))

-- a declaration that gives nothing
one_behind : (f : DeclTree → List (List ℕ)) (ds : List DeclTree) (d : DeclTree) → f d ≡ [] → flat_map f (ds ++ d ∷ []) ≡ flat_map f ds
one_behind f [] d e = ap (λ (z : List (List ℕ)). z ++ []) e
one_behind f (c ∷ ds) d e = ap (λ (z : List (List ℕ)). f c ++ z) (one_behind f ds d e)

kept_count : (live : Bool) (x array : List ℕ) (last : ℤ) (n : ℕ) → n + statements_count (kept_value live x array last) ≡ (if live then n + 1 else n)
kept_count true x array last n = omega arith
kept_count false x array last n = omega arith

module _ (t : ProgramTree) (s : ℕ) (loop : LoopOf t s) (x array : List ℕ) (live : Bool) (v : Span) where
  -- the number of the last statement in the DO
  abbrev end : ℕ
  end = s + statements_count loop.body

  abbrev elements : ExprTree
  elements = element array (Var loop.head.variable)

  placed_behind : (k i : ℕ) → (moved_behind end live k == s + statements_count (with_elements x array live v.last (Do loop.head loop.body)) + i) ≡ (k == s + statements_count (alone (Do loop.head loop.body)) + i)
  placed_behind k i =
      let b : ℕ = s + (statements_count loop.body + 1 + 0) + i in
      let same = counts_kept x elements loop.body in
      let first : s + (statements_count (statements_substituted x elements loop.body) + 1 + statements_count (kept_value live x array v.last)) + i ≡ b + statements_count (kept_value live x array v.last) = omega (arith, same) in
      placed_from live end k (s + (statements_count (statements_substituted x elements loop.body) + 1 + statements_count (kept_value live x array v.last)) + i) b (omega arith) (first ∙ kept_count live x array v.last b)

  shows_less : (k : ℕ) (w : List ℕ) → LeaveNoMore (constant_names t.decls) w (with_elements x array live v.last (Do loop.head loop.body)) (alone (Do loop.head loop.body))
      → IsNoMore (summary_behind_all (constant_names t.decls) w (moved_behind end live k) (with_elements x array live v.last (Do loop.head loop.body)) s) (summary_behind_all (constant_names t.decls) w k (alone (Do loop.head loop.body)) s)
      → IsShownBehind (expanded t s x live array v) (moved_behind end live k) w → IsShownBehind t k w
  shows_less k w less here =
      exchanged_shows_less (with_elements x array live v.last) s (Do loop.head loop.body) t (expanded t s x live array v) w (moved_behind end live k) k loop.is refl
      (one_behind constants_in t.decls (declaration array v) refl) (one_behind saved_in t.decls (declaration array v) refl) less
      (λ i h. placed_up_to live end k i (omega (arith, h))) (placed_behind k) here

  -- what may be shown of a scalar behind a DO of the new program may be shown behind that DO of the old one, where that isn't the DO itself that is expanded a DO in it or the scalar isn't the one that has become an array
  pub expanded_shows_less : loop.head.parallel ≡ false → is_same_text x loop.head.variable ≡ false → is_among x loop.head.private ≡ false → some_stop loop.body ≡ false
      → (k : ℕ) (w : List ℕ) → (s < k → k ≤ s + statements_count loop.body → is_same_text w x ≡ false)
      → IsShownBehind (expanded t s x live array v) (moved_behind (s + statements_count loop.body) live k) w → IsShownBehind t k w
  expanded_shows_less serial variable private unstopped_body k w apart = go (is_same_text w x) refl
    where
      here : (moved_behind end live k == s) ≡ (k == s)
      here = placed_up_to live end k s (omega arith)

      inside : IsPlaced (moved_behind end live k) (s + 1) k (s + 1) (statements_count loop.body)
      inside i h = placed_up_to live end k (s + 1 + i) (omega (arith, h))

      outside : is_same_text w x ≡ true → IsOutside (moved_behind end live k) (s + 1) (statements_count (statements_substituted x elements loop.body))
      outside same i h =
          let count = counts_kept x elements loop.body in
          let below : s + 1 + i ≤ end = omega (arith, h, count) in
          placed_up_to live end k (s + 1 + i) below ∙ never (k == s + 1 + i) refl below
        where
          never : (b : Bool) → (k == s + 1 + i) ≡ b → s + 1 + i ≤ end → (k == s + 1 + i) ≡ false
          never false e below = e
          never true e below = let is : k ≡ s + 1 + i = grind (arith, eqb-true, e) in untrue (sym (apart (omega (arith, is)) (omega (arith, is, below))) ∙ same)

      go : (b : Bool) → is_same_text w x ≡ b → IsShownBehind (expanded t s x live array v) (moved_behind end live k) w → IsShownBehind t k w
      go false e =
          shows_less k w (others_leave (constant_names t.decls) w x array live v.last loop.head loop.body e)
          (others_behind (constant_names t.decls) w x array live v.last loop.head loop.body e s (moved_behind end live k) k here inside)
      go true e =
          let is = same_is w x e in
          let first : is_same_text w loop.head.variable ≡ false = ap (λ (z : List ℕ). is_same_text z loop.head.variable) is ∙ variable in
          let second : is_among w loop.head.private ≡ false = ap (λ (z : List ℕ). is_among z loop.head.private) is ∙ private in
          shows_less k w (itself_leaves (constant_names t.decls) w x array live v.last loop.head loop.body first second serial unstopped_body)
          (itself_behind (constant_names t.decls) w x array live v.last loop.head loop.body first second serial unstopped_body s (moved_behind end live k) k here (outside e))

  -- so it is with the variables of each DO and of the DO loops in it
  pub expanded_index_shows_less : loop.head.parallel ≡ false → is_among x (loop_variables (Do loop.head loop.body)) ≡ false → is_among x loop.head.private ≡ false → some_stop loop.body ≡ false
      → (k : ℕ) (w : List ℕ) → IsIndexIn t k w → IsShownBehind (expanded t s x live array v) (moved_behind (s + statements_count loop.body) live k) w → IsShownBehind t k w
  expanded_index_shows_less serial variable private unstopped_body k w index =
      let none = or_none (is_same_text x loop.head.variable) (is_among x (all_loop_variables loop.body)) variable in
      expanded_shows_less serial none.0 private unstopped_body k w (λ above below. apart (is_same_text w x) refl none.1 (inside_variables t s loop k w above below index))
    where
      apart : (b : Bool) → is_same_text w x ≡ b → is_among x (all_loop_variables loop.body) ≡ false → is_among w (all_loop_variables loop.body) ≡ true → is_same_text w x ≡ false
      apart false e none among = e
      apart true e none among = untrue (sym none ∙ ap (λ (z : List ℕ). is_among z (all_loop_variables loop.body)) (sym (same_is w x e)) ∙ among)
