-- Where a list is live, nothing forbids that its DO, lowered, becomes a PARALLEL DO.
use Rattle.std.proofs.Common.{◌≡◌, ℕ, ◌+◌, ◌-◌, List, [], ◌∷◌, ◌++◌, Bool, true, false, not, ◌&&◌, All, Some, None, refl, sym, ap, subst, ◌∙◌, inl, inr, arith}
use Rattle.std.specs.List.{range_with_len}
use Rattle.std.proofs.lemmas.Bool.{and_parts, both_ways}
use Rattle.std.proofs.lemmas.List.Elements.{All-nil, All-cons, All-head, All-tail}
use Rattle.ped_base.specs.Lists.{is_among}
use Rattle.ped_tree.specs.Tree.{Head, StmtTree, StmtTrees, If, Do, more_stmts, ProgramTree}
use Rattle.ped_tree.specs.Numbering.{statement_count, statements_count}
use Rattle.ped_rules.specs.ped_symbols.specs.Kinds.{table_of}
use Rattle.ped_rules.specs.ped_symbols.specs.NameRefusals.{IsValid}
use Rattle.ped_edges.specs.Edges.{Mark, proven, pending, rejected, Edge, is_rejected}
use Rattle.ped_rules.specs.ped_graph.specs.Dependences.{AreEdges}
use Rattle.ped_rules.specs.ped_flow.proofs.Truths.{untrue}
use Rattle.ped_rules.specs.ped_flow.specs.Questions.{IsContained}
use Rattle.ped_rules.specs.ped_steps.specs.declared.rules.Rule.TheVariants.{IndexEscapes}
use Rattle.ped_rules.specs.ped_steps.specs.Causes.{NoRule}
use Rattle.ped_rules.specs.ped_steps.specs.Replacing.{followed, alone, all_replaced, all_kept}
use Rattle.ped_rules.specs.ped_steps.specs.Runs.Gaps.{Gap, at_front, past, in_then, in_else, in_body, filled, number_at}
use Rattle.ped_rules.specs.ped_steps.proofs.RunLaws.FilledGaps.{number_from, number_room}
use Rattle.ped_rules.specs.ped_steps.proofs.Followed.{followed-assoc}
use Rattle.ped_rules.specs.ped_steps.proofs.RunLaws.ReplacedTrees as trees
use Rattle.ped_rules.specs.ped_loop_runs.specs.Unrejected.{IsTrusted}
use Rattle.ped_rules.specs.ped_loop_runs.proofs.LoopLaws.SomeEdges.{some_edges}
use Rattle.ped_rules.specs.ped_loop_runs.proofs.TidyLaws.UnrejectedEdges.{edges_unrejected}
use Rattle.ped_rules.specs.ped_laws.specs.Acts.Orders.{IsIn}
use Rattle.ped_rules.specs.Carried.{is_carried_by, carried}
use Rattle.ped_rules.specs.OnlyLoops.{on_loop}
use Rattle.ped_rules.specs.Spans.{Span, span_of}
use Rattle.ped_rules.proofs.EscapeRule.{by_nothing}
use Rattle.ped_rules.proofs.OneLoop.{one_loop}
use Rattle.ped_rules.specs.Flags.{with_flag, flagged}
use Rattle.ped_rules.specs.Paralleling.{StandsAgainstParallel, paralleling}
use Rattle.ped_reduce.specs.Lists.{list_of}
use Rattle.ped_reduce.specs.Lowering.{Partials, near_only, declarations, bare, exits, fresh_arrays, partials_of, lowered_loop, Lowered, not_lowered, lowered_at}
use Rattle.ped_reduce.specs.Reducing.{carried_beside, IsLive, Lowers}
use Rattle.ped_reduce.proofs.LoweredPrograms.{IsMadeBy, made_by}
use Rattle.ped_reduce.proofs.Resembling.{replaced_filled}
use Rattle.ped_reduce.proofs.LoweredStages.{IsResembling, lowered_resembles}
use Rattle.ped_reduce.proofs.ResemblingPaths.{new_loop, contained_again}
use Rattle.ped_reduce.proofs.EdgesResemble.{ViewsResemble, edges_resemble}
use Rattle.ped_reduce.proofs.ViewsAlike.{views_are}
use Rattle.ped_rules.proofs.HeadLaws.Contained.{contained}

each_of : {X : Type 0} (P : X → Type 0) (xs : List X) (x : X) → All P xs → IsIn x xs → P x
each_of P [] x all i = absurd i
each_of P (y ∷ ys) x all (inl e) = subst P (sym e) (All-head P y ys all)
each_of P (y ∷ ys) x all (inr i) = each_of P ys x (All-tail P y ys all) i

-- another head for a DO in a gap, with others behind it there
module _ (by : StmtTree → StmtTrees) (k : ℕ) (h : Head) (body others : StmtTrees) where
  replaced_first : (gap : Gap) (n : ℕ) → number_at gap n ≡ k → all_replaced by k (filled gap (more_stmts (Do h body) others)) n ≡ filled gap (followed (by (Do h body)) others)
  replaced_first (at_front rest) n e =
      let first = trees.goes by k (Do h body) (Do h body) n (sym e) refl in
      let behind = trees.all_stay by k (followed others rest) (n + statement_count (Do h body)) (inl (omega (arith, e))) in
      (λ i. followed (first i) (behind i)) ∙ sym (followed-assoc (by (Do h body)) others rest)
  replaced_first (past z gap) n e =
      let from = number_from gap (n + statement_count z) in
      let first = trees.stays by k z n (inr (omega (arith, from, e))) in
      let inner = replaced_first gap (n + statement_count z) e in
      λ i. followed (first i) (inner i)
  replaced_first (in_then c gap b rest) n e =
      let a = filled gap (more_stmts (Do h body) others) in
      let from = number_from gap (n + 1) in
      let room = number_room gap (more_stmts (Do h body) others) (n + 1) in
      let inner = replaced_first gap (n + 1) e in
      let second = trees.all_stay by k b (n + 1 + statements_count a) (inl (omega (arith, room, e))) in
      let behind = trees.all_stay by k rest (n + statement_count (If c a b)) (inl (omega (arith, room, e))) in
      let first = trees.if_stays by k c a b n (k - (n + 1)) (omega (arith, from, e)) in
      (λ i. followed (first i) (behind i)) ∙ (λ i. more_stmts (If c (inner i) (second i)) rest)
  replaced_first (in_else c b gap rest) n e =
      let a = filled gap (more_stmts (Do h body) others) in
      let from = number_from gap (n + 1 + statements_count b) in
      let room = number_room gap (more_stmts (Do h body) others) (n + 1 + statements_count b) in
      let inner = replaced_first gap (n + 1 + statements_count b) e in
      let second = trees.all_stay by k b (n + 1) (inr (omega (arith, from, e))) in
      let behind = trees.all_stay by k rest (n + statement_count (If c b a)) (inl (omega (arith, room, e))) in
      let first = trees.if_stays by k c b a n (k - (n + 1)) (omega (arith, from, e)) in
      (λ i. followed (first i) (behind i)) ∙ (λ i. more_stmts (If c (second i) (inner i)) rest)
  replaced_first (in_body g gap rest) n e =
      let a = filled gap (more_stmts (Do h body) others) in
      let from = number_from gap (n + 1) in
      let room = number_room gap (more_stmts (Do h body) others) (n + 1) in
      let inner = replaced_first gap (n + 1) e in
      let behind = trees.all_stay by k rest (n + statement_count (Do g a)) (inl (omega (arith, room, e))) in
      let first = trees.do_stays by k g a n (k - (n + 1)) (omega (arith, from, e)) in
      (λ i. followed (first i) (behind i)) ∙ (λ i. more_stmts (Do g (inner i)) rest)

one_statement : (a b : StmtTree) → Some a ≡ Some b → a ≡ b
one_statement a b e = cc

one_head : (g h : Head) (b c : StmtTrees) → Do g b ≡ Do h c → g ≡ h
one_head g h b c e = cc

one_span : (a b : Span) → Some a ≡ Some b → a ≡ b
one_span a b e = cc

one_partials : (a b : List Partials) → Some a ≡ Some b → a ≡ b
one_partials a b e = cc

not_marked : (b : Mark) → (b ≡ rejected → ⊥) → is_rejected b ≡ false
not_marked proven none = refl
not_marked pending none = refl
not_marked rejected none = absurd (none refl)

module _ (t : ProgramTree) (s : ℕ) (p q w : Lowered) (valid : IsValid t) (new_valid : IsValid w.tree) (trusted : IsTrusted t) (lowers : Lowers t (range_with_len 1 (s - 1)) (not_lowered t) p) (live : IsLive t s p q) (makes : lowered_at false p s (list_of live.loop.body) ≡ Some w) where
  abbrev k : ℕ
  k = s + p.more

  abbrev names : List (List ℕ)
  names = list_of live.loop.body

  resembling : (m : IsResembling t s live.loop w.tree (s + p.more)) × (p.tree.body ≡ filled m.other (alone (Do live.loop.head live.loop.body))) × (partials_of (list_of live.loop.body) (fresh_arrays p.tree) ≡ Some m.partials)
  resembling = lowered_resembles t s p q w lowers live makes

  abbrev m : IsResembling t s live.loop w.tree (s + p.more)
  m = resembling.0

  made_new : IsMadeBy false p s (list_of live.loop.body) w
  made_new = made_by false p s (list_of live.loop.body) w makes

  made_live : IsMadeBy true p s (list_of live.loop.body) q
  made_live = made_by true p s (list_of live.loop.body) q live.makes

  same_partials : made_live.partials ≡ m.partials
  same_partials = one_partials made_live.partials m.partials (sym made_live.arrays ∙ resembling.2)

  same_new_partials : made_new.partials ≡ made_live.partials
  same_new_partials = one_partials made_new.partials made_live.partials (sym made_new.arrays ∙ made_live.arrays)

  same_span : made_new.span ≡ made_live.span
  same_span =
      let head = one_head made_new.head made_live.head made_new.body made_live.body (one_statement (Do made_new.head made_new.body) (Do made_live.head made_live.body) (sym made_new.is ∙ made_live.is)) in
      one_span made_new.span made_live.span (sym made_new.spans ∙ ap (λ (h : Head). near_only (span_of (table_of p.tree).constants h)) head ∙ made_live.spans)

  same_decls : w.tree.decls ≡ q.tree.decls
  same_decls =
      ap (λ (z : Lowered). z.tree.decls) made_new.made ∙ (λ i. p.tree.decls ++ declarations (same_span i) (same_new_partials i)) ∙ sym (ap (λ (z : Lowered). z.tree.decls) made_live.made)

  live_body : q.tree.body ≡ filled m.other (lowered_loop true m.partials live.loop.head live.loop.body)
  live_body =
      ap (λ (z : Lowered). z.tree.body) made_live.made
      ∙ (λ i. all_replaced (on_loop (lowered_loop true (same_partials i))) (s + p.more) (resembling.1 i) 1)
      ∙ replaced_filled (on_loop (lowered_loop true m.partials)) (s + p.more) live.loop.head live.loop.body m.other 1 m.number

  -- the PARALLEL DO in its place gives what the list is lowered to
  pub flagged_is : flagged w.tree (s + p.more) true ≡ q.tree
  flagged_is = λ i. record { decls = same_decls i; body = bodies i }
    where
      bodies : all_replaced (on_loop (with_flag true)) (s + p.more) w.tree.body 1 ≡ q.tree.body
      bodies =
          ap (λ (ts : StmtTrees). all_replaced (on_loop (with_flag true)) (s + p.more) ts 1) m.new
          ∙ replaced_first (on_loop (with_flag true)) (s + p.more) (new_loop t w.tree s (s + p.more) live.loop m).head (new_loop t w.tree s (s + p.more) live.loop m).body
          (alone (Do (bare live.loop.head) (exits live.loop.head.variable m.partials))) m.other 1 m.number
          ∙ sym live_body

  still_contained : IsContained w.tree (s + p.more)
  still_contained = contained_again t w.tree s (s + p.more) live.loop m (contained t s live.loop (λ n e. live.free.0 IndexEscapes n (inr (inr (inl (refl, e))))))

  -- no rule stands
  pub no_rule : NoRule (StandsAgainstParallel (s + p.more) w.tree)
  no_rule r n (inl x) = x.1.0 (new_loop t w.tree s (s + p.more) live.loop m)
  no_rule r n (inr (inl x)) = untrue (ap (λ (g : Head). g.parallel) (one_loop w.tree (s + p.more) (new_loop t w.tree s (s + p.more) live.loop m) x.1.0).0 ∙ x.1.1)
  no_rule r n (inr (inr (inl x))) = by_nothing w.tree (s + p.more) still_contained n x.1
  no_rule r n (inr (inr (inr (inl x)))) = x.1.1 (flagged w.tree (s + p.more) true) (all_kept w.tree) (refl, refl) (subst IsValid (sym flagged_is) live.valid)
  no_rule r n (inr (inr (inr (inr x)))) = absurd x

  -- the views of pairs are the same
  views : ViewsResemble t w.tree s (s + p.more) live.loop m valid new_valid
  views = views_are t w.tree s (s + p.more) live.loop m valid new_valid

  none_carried : (edges : List Edge) → AreEdges w.tree edges → (e : Edge) → IsIn e edges → is_carried_by w.tree (s + p.more) e ≡ true → ⊥
  none_carried edges are e i carries = some_edges t (λ olds are_old. (
      let old = edges_resemble t w.tree s (s + p.more) live.loop m valid new_valid views edges are e i carries olds are_old in
      let free = each_of (λ (f : Edge). carried_beside t s names f ≡ false) olds old.edge (live.free.1 olds are_old) old.listed in
      let kept = not_marked old.edge.mark (edges_unrejected t olds trusted.unrejected are_old old.edge old.listed) in
      let other : is_among old.edge.name names ≡ false = ap (is_among old.edge.name) (sym m.summable.scalars) ∙ old.unsummed in
      both_ways (carried_beside t s names old.edge) free (λ j. (old.carried j && not (kept j)) && not (other j))
      ))

  false_or : (b : Bool) → (b ≡ true → ⊥) → b ≡ false
  false_or true h = absurd (h refl)
  false_or false h = refl

  all_free : (edges : List Edge) → ((e : Edge) → IsIn e edges → is_carried_by w.tree (s + p.more) e ≡ true → ⊥) → All (λ e. carried w.tree (s + p.more) e ≡ false) edges
  all_free [] none = All-nil (λ (e : Edge). carried w.tree (s + p.more) e ≡ false)
  all_free (e ∷ es) none =
      All-cons (λ (x : Edge). carried w.tree (s + p.more) x ≡ false) e es (false_or (carried w.tree (s + p.more) e) (λ h. none e (inl refl) (and_parts (is_carried_by w.tree (s + p.more) e) (not (is_rejected e.mark)) h).0)) (all_free es (λ f i. none f (inr i)))

  -- so it may become a PARALLEL DO
  pub may_be_parallel : (paralleling (s + p.more)).IsCause w.tree None
  may_be_parallel = (no_rule, λ edges are. all_free edges (none_carried edges are))

  -- which gives what the list is lowered to
  pub becomes_parallel : (paralleling (s + p.more)).Makes w.tree q.tree (all_kept w.tree)
  becomes_parallel = (sym flagged_is, refl)
