-- A program in which an iteration of a DO is peeled off: if the old one may be trusted, it may be trusted.
use Rattle.ped_base.specs.Lists.{has_some, is_among, is_same_text}
use Rattle.ped_rules.proofs.HeadLaws.OneHead.{ClearedLaw, TrustedLaw}
use Rattle.ped_rules.proofs.NameLaws.SubstitutedReferences.{all_variables_stay, all_unwritten, indices_unwritten, variables_followed}
use Rattle.ped_rules.specs.OnlyLoops.{on_loop}
use Rattle.ped_rules.specs.ped_loop_runs.proofs.TidyLaws.TidyPathsGaps.{followed_sum}
use Rattle.ped_rules.specs.ped_loop_runs.proofs.TidyLaws.TidyPathsSums.{Summary}
use Rattle.ped_rules.specs.ped_loop_runs.proofs.TidyLaws.TidyReferencesFilled.{all_followed}
use Rattle.ped_rules.specs.ped_loop_runs.proofs.TidyLaws.UnrejectedTrees.{followed_rejection}
use Rattle.ped_rules.specs.ped_loop_runs.specs.Exchanges.{Exchange, IsExchanged, LeavesAlone, loop_of, start_of}
use Rattle.ped_rules.specs.ped_loop_runs.specs.Unrejected.{IsTrusted, has_rejection, some_rejection}
use Rattle.ped_rules.specs.ped_loop_runs.specs.Writing.{all_write, some_write_index, writes, writes_index, writes_name}
use Rattle.ped_rules.specs.ped_steps.proofs.OnePlace.{one_program}
use Rattle.ped_rules.specs.ped_steps.proofs.RunLaws.ProgramParts.{part_at}
use Rattle.ped_rules.specs.ped_steps.proofs.RunLaws.ReplacedTrees.{HasGap, program_gap}
use Rattle.ped_rules.specs.ped_steps.specs.Replacing.{alone, followed, program_with}
use Rattle.ped_rules.specs.ped_flow.proofs.Truths.{untrue}
use Rattle.ped_rules.specs.ped_flow.specs.Questions.{IsContained, IsShownBehind, LoopOf}
use Rattle.ped_rules.specs.ped_flow.specs.Summaries.{summary_of, summary_of_all}
use Rattle.ped_rules.specs.ped_laws.proofs.FlowRunLaws.Stopping.{fitting_stops, loop_stops}
use Rattle.ped_rules.specs.ped_laws.specs.FlowRuns.Covering.{has_stop, some_stop}
use Rattle.ped_symbolic.specs.Arithmetic.{literal}
use Rattle.ped_rules.specs.ped_symbols.specs.Kinds.{kind_in}
use Rattle.ped_rules.specs.ped_symbols.specs.NameRefusals.{IsValid}
use Rattle.ped_rules.specs.ped_symbols.specs.RightUses.RightUses.{head_is_right, stmts_are_right}
use Rattle.ped_reindex.proofs.PeelFront.{leading, leading_followed, leading_uncounted, settled_constants, settled_saved}
use Rattle.ped_reindex.proofs.PeelWrites.{literal_unwritten, stops_followed}
use Rattle.ped_reindex.specs.Peeling.{Peeled, iteration_of, peeled, with_peeled}
use Rattle.ped_rules.specs.Settling.{settled}
use Rattle.ped_tree.proofs.NameLaws.Collected.{among_append}
use Rattle.ped_tree.specs.Accesses.{constant_names}
use Rattle.ped_tree.specs.NamesIn.{all_loop_variables, loop_variables}
use Rattle.ped_tree.specs.Numbering.{statement_count, statements_count}
use Rattle.ped_tree.specs.Tree.{Do, Head, ProgramTree, StmtTree, StmtTrees, more_stmts, no_stmts}
use Rattle.std.proofs.Common.{Bool, List, Some, ap, append-nil, arith, false, inr, not, refl, subst, sym, true, ℕ, ℤ, ◌&&◌, ◌+◌, ◌||◌, ◌∙◌, ◌∷◌, ◌≡◌}
use Rattle.std.proofs.lemmas.Bool.{and_parts, or_parts}
use Rattle.std.specs.List.{list_any}
use Rattle.ped_rules.proofs.NameLaws.SubstitutedPaths.{stops_kept}
use Rattle.ped_rules.proofs.NameLaws.SubstitutedRejections.{rejections_kept}
use Rattle.ped_rules.specs.ped_loop_runs.proofs.TidyLaws.WrittenIndices.{followed_index}

pub again : (a b : Bool) → a || (b || a) ≡ b || a
again true true = refl
again true false = refl
again false true = refl
again false false = refl

-- the head of the DO that is left
abbrev pub left_head : (last : Bool) → ℤ → Head → Head
left_head false bound h = record h { first = literal bound }
left_head true bound h = record h { last = literal bound }

-- all else of the head stays
pub left_variable : (last : Bool) (bound : ℤ) (h : Head) → (left_head last bound h).variable ≡ h.variable
left_variable false bound h = refl
left_variable true bound h = refl

pub left_private : (last : Bool) (bound : ℤ) (h : Head) → (left_head last bound h).private ≡ h.private
left_private false bound h = refl
left_private true bound h = refl

pub left_parallel : (last : Bool) (bound : ℤ) (h : Head) → (left_head last bound h).parallel ≡ h.parallel
left_parallel false bound h = refl
left_parallel true bound h = refl

left_rejected : (last : Bool) (bound : ℤ) (h : Head) → (left_head last bound h).rejected ≡ h.rejected
left_rejected false bound h = refl
left_rejected true bound h = refl

-- what one test tells of statements by "or" it tells of the iteration and the DO
or_turned : (a b : Bool) → a || b ≡ b || a
or_turned true true = refl
or_turned true false = refl
or_turned false true = refl
or_turned false false = refl

or_none : (a : Bool) → a || false ≡ a
or_none true = refl
or_none false = refl

same_statement : (a b : StmtTree) → Some a ≡ Some b → a ≡ b
same_statement a b e = cc

pub peeled_tells : (all : StmtTrees → Bool) (told : StmtTree → Bool) → all no_stmts ≡ false → ((s : StmtTree) (rest : StmtTrees) → all (more_stmts s rest) ≡ told s || all rest) → ((a b : StmtTrees) → all (followed a b) ≡ all a || all b)
    → (last : Bool) (p : Peeled) (h : Head) (body : StmtTrees) → all (with_peeled last p h body) ≡ all (iteration_of p.value h body) || told (Do (left_head last p.bound h) body)
peeled_tells all told none more both false p h body =
    both (iteration_of p.value h body) (alone (Do (record h { first = literal p.bound }) body))
    ∙ ap (λ (b : Bool). all (iteration_of p.value h body) || b) (more (Do (record h { first = literal p.bound }) body) no_stmts ∙ ap (λ (b : Bool). told (Do (record h { first = literal p.bound }) body) || b) none ∙ or_none (told (Do (record h { first = literal p.bound }) body)))
peeled_tells all told none more both true p h body =
    more (Do (record h { last = literal p.bound }) body) (iteration_of p.value h body) ∙ or_turned (told (Do (record h { last = literal p.bound }) body)) (all (iteration_of p.value h body))

both_none : (a b c : Bool) → c ≡ a || b → a ≡ false → b ≡ false → c ≡ false
both_none a b c e f g = e ∙ (λ i. f i || g i)

module _ (t : ProgramTree) (valid : IsValid t) (s : ℕ) (loop : LoopOf t s) (last : Bool) (p : Peeled) where
  abbrev d : Head
  d = loop.head

  abbrev body : StmtTrees
  body = loop.body

  abbrev pub new : StmtTrees
  new = with_peeled last p loop.head loop.body

  -- the program before comments go to its declarations
  abbrev pub raw : ProgramTree
  raw = program_with (λ z. with_peeled last p loop.head loop.body) s t

  pub peeled_is : peeled t s last p ≡ settled (program_with (λ z. with_peeled last p loop.head loop.body) s t)
  peeled_is = ap settled (one_program (on_loop (with_peeled last p)) (λ z. with_peeled last p loop.head loop.body) s t (λ g e. ap (on_loop (with_peeled last p)) (same_statement g (Do loop.head loop.body) (sym e ∙ loop.is))))

  gap : HasGap (λ z. with_peeled last p loop.head loop.body) s (Do loop.head loop.body) 1 t.body raw.body
  gap = program_gap (λ z. with_peeled last p loop.head loop.body) s (Do loop.head loop.body) t loop.is

  abbrev exchange : Exchange
  exchange = record { gap = gap.gap; front = no_stmts; head = loop.head; body = loop.body; new = with_peeled last p loop.head loop.body }

  abbrev cs : List (List ℕ)
  cs = constant_names t.decls

  abbrev copy : StmtTrees
  copy = iteration_of p.value loop.head loop.body

  abbrev rest_loop : StmtTree
  rest_loop = Do (left_head last p.bound loop.head) loop.body

  right : stmts_are_right (kind_in t) body ≡ true
  right = (and_parts (head_is_right (kind_in t) d) (stmts_are_right (kind_in t) body) (part_at t valid s (Do d body) loop.is).right).1

  stops : some_stop body ≡ false
  stops = loop_stops t s loop (fitting_stops t valid.fits)

  exchanged : IsExchanged exchange t (settled raw)
  exchanged = record {
    old_body = gap.old_is;
    comments = leading raw.body;
    uncounted = leading_uncounted raw.body;
    new_body = leading_followed raw.body ∙ gap.new_is;
    constants = settled_constants raw;
    saved = settled_saved raw;
    unstopped = both_none (some_stop copy) (has_stop rest_loop) (some_stop new) (peeled_tells some_stop has_stop refl (λ s rest. refl) stops_followed last p d body) (stops_kept d.variable (literal p.value) body ∙ stops) stops;
  }

  -- the variables are the same
  among_loop : (w : List ℕ) → is_among w (loop_variables rest_loop) ≡ is_among w (loop_variables (Do d body))
  among_loop w = ap (λ (v : List ℕ). is_among w (v ∷ all_loop_variables body)) (left_variable last p.bound d)

  in_body : (w : List ℕ) → is_among w (all_loop_variables copy) ≡ is_among w (all_loop_variables body)
  in_body w = ap (is_among w) (all_variables_stay d.variable (literal p.value) body)

  pub same_variables : (w : List ℕ) → is_among w (all_loop_variables new) ≡ is_among w (loop_variables (Do d body))
  same_variables w =
      peeled_tells (λ ts. is_among w (all_loop_variables ts)) (λ z. is_among w (loop_variables z)) refl (λ z rest. among_append w (loop_variables z) (all_loop_variables rest))
      (λ a b. ap (is_among w) (variables_followed a b) ∙ among_append w (all_loop_variables a) (all_loop_variables b)) last p d body
      ∙ (λ i. in_body w i || among_loop w i)
      ∙ again (is_among w (all_loop_variables body)) (is_same_text w d.variable)

  only_among : (w : List ℕ) → is_among w (all_loop_variables (alone (Do d body))) ≡ is_among w (loop_variables (Do d body))
  only_among w = ap (is_among w) (append-nil (loop_variables (Do d body)))

  stands_at : loop_of exchange ≡ s
  stands_at = let n = gap.number in omega (arith, n)

  unshown : (w : List ℕ) → IsContained t s → is_among w (all_loop_variables (alone (Do d body))) ≡ true → IsShownBehind t (loop_of exchange) w → ⊥
  unshown w contained among shown = (contained w (record { loop = loop; among = sym (only_among w) ∙ among })).1 (inr (subst (λ (n : ℕ). IsShownBehind t n w) stands_at shown))

  none_first : (a b : Bool) → a || b ≡ false → a ≡ false
  none_first a b h = (or_parts a b h).0

  writes_none : (w : List ℕ) → all_write cs w (alone (Do d body)) ≡ false → all_write cs w new ≡ false
  writes_none w none =
      let old = or_parts (list_any (writes_name cs w) d.private) (all_write cs w body) (none_first _ _ none) in
      both_none (all_write cs w copy) (writes cs w rest_loop) (all_write cs w new) (peeled_tells (all_write cs w) (writes cs w) refl (λ z rest. refl) (all_followed cs w) last p d body)
      (all_unwritten cs w (kind_in t) d.variable (literal p.value) (literal_unwritten cs w p.value) body right old.1) ((λ i. list_any (writes_name cs w) (left_private last p.bound d i) || all_write cs w body) ∙ none_first _ _ none)

  indices_none : some_write_index cs (alone (Do d body)) ≡ false → some_write_index cs new ≡ false
  indices_none none =
      let old = or_parts (d.parallel && list_any (λ w. all_write cs w body) (d.variable ∷ all_loop_variables body)) (some_write_index cs body) (none_first _ _ none) in
      both_none (some_write_index cs copy) (writes_index cs rest_loop) (some_write_index cs new) (peeled_tells (some_write_index cs) (writes_index cs) refl (λ z rest. refl) (followed_index cs) last p d body)
      (indices_unwritten cs (kind_in t) d.variable (literal p.value) (λ w. literal_unwritten cs w p.value) body right old.1) ((λ i. (left_parallel last p.bound d i && list_any (λ w. all_write cs w body) (left_variable last p.bound d i ∷ all_loop_variables body)) || some_write_index cs body) ∙ none_first _ _ none)

  -- where the new statements leave a name as it is, the DO among them does
  loop_keeps : (w : List ℕ) (n : ℕ) → (summary_of_all cs w new n).keeps ≡ true → (m : ℕ) × ((summary_of cs w rest_loop m).keeps ≡ true)
  loop_keeps w n keeps = go last keeps
    where
      go : (b : Bool) → (summary_of_all cs w (with_peeled b p d body) n).keeps ≡ true → (m : ℕ) × ((summary_of cs w (Do (left_head b p.bound d) body) m).keeps ≡ true)
      go false k =
          let both = and_parts (summary_of_all cs w copy n).keeps (summary_of_all cs w (alone (Do (left_head false p.bound d) body)) (n + statements_count copy)).keeps (ap (λ (m : Summary). m.keeps) (sym (followed_sum cs w copy (alone (Do (left_head false p.bound d) body)) n)) ∙ k) in
          (n + statements_count copy, (and_parts (summary_of cs w (Do (left_head false p.bound d) body) (n + statements_count copy)).keeps true both.1).0)
      go true k = (n, (and_parts (summary_of cs w (Do (left_head true p.bound d) body) n).keeps (summary_of_all cs w copy (n + statement_count (Do (left_head true p.bound d) body))).keeps k).0)

  leaves_alone : ClearedLaw → IsContained t s → LeavesAlone exchange t
  leaves_alone cleared contained = record {
    variables = λ w e. same_variables w ∙ (sym (only_among w) ∙ e);
    further = λ w there none. untrue (sym none ∙ (only_among w ∙ (sym (same_variables w) ∙ there)));
    unshown = λ w among shown. unshown w contained among shown;
    writes = writes_none;
    unwritten = indices_none;
    leaves = λ w other keeps.
        let outside : is_among w (loop_variables (Do d body)) ≡ false = sym (same_variables w) ∙ other in
        let k = loop_keeps w (start_of exchange) keeps in
        let unprivate : not (is_among w d.private) ≡ true = ap (λ (xs : List (List ℕ)). not (is_among w xs)) (sym (left_private last p.bound d)) ∙ sym (cleared cs w (left_head last p.bound d) body k.0 (among_loop w ∙ outside)) ∙ k.1 in
        (λ i. (cleared cs w d body (start_of exchange) outside ∙ unprivate) i && true);
  }

  unrejected : some_rejection (alone (Do d body)) ≡ false → some_rejection new ≡ false
  unrejected none =
      let old = or_parts (has_some d.rejected) (some_rejection body) (none_first _ _ none) in
      both_none (some_rejection copy) (has_rejection rest_loop) (some_rejection new) (peeled_tells some_rejection has_rejection refl (λ z rest. refl) followed_rejection last p d body)
      (rejections_kept d.variable (literal p.value) body ∙ old.1) ((λ i. has_some (left_rejected last p.bound d i) || some_rejection body) ∙ none_first _ _ none)

  pub stays_trusted_peeled : TrustedLaw → ClearedLaw → IsContained t s → IsTrusted t → IsTrusted (peeled t s last p)
  stays_trusted_peeled law cleared contained trusted = subst IsTrusted (sym peeled_is) (law exchange t (settled raw) exchanged (leaves_alone cleared contained) unrejected trusted)
