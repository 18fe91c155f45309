-- A DO with a live list, lowered, is contained as it was: what reads its variable, or that of a DO in it, and what shows one at the end, does so in the program.
use Rattle.std.proofs.Common.{◌≡◌, ℕ, ◌+◌, Bool, true, false, ℤ, List, [], ◌∷◌, ◌++◌, map, Option, Some, None, is_none, refl, sym, ap, subst, ◌∙◌, inl, inr, IsTrue, append-nil}
use Rattle.std.specs.List.{list_any, flat_map}
use Rattle.std.proofs.lemmas.Grind.{flat_map-append}
use Rattle.std.proofs.lemmas.Bool.{or_left, or_right}
use Rattle.ped_base.specs.Lists.{is_same_text, is_among}
use Rattle.ped_base.proofs.NameEquality.{same_is}
use Rattle.ped_tree.proofs.NameLaws.Collected.{among_append}
use Rattle.ped_tree.specs.Tree.{Head, StmtTrees, Do, DeclaratorTree, Integer, ProgramTree}
use Rattle.ped_tree.specs.Accesses.{constants_in, constant_names}
use Rattle.ped_tree.specs.Constants.ConstantExpressions.{constant_value}
use Rattle.ped_tree.specs.NamesIn.{loop_variables, all_loop_variables, saved_in}
use Rattle.ped_tree.specs.Numbering.{all_numbered}
use Rattle.ped_rules.specs.ped_symbols.specs.Kinds.{table_of}
use Rattle.ped_rules.specs.ped_symbols.proofs.RightUseLaws.Whole.{others_unvalued}
use Rattle.ped_rules.specs.ped_flow.specs.Events.{event, assigns, scalars_in, own_events}
use Rattle.ped_rules.specs.ped_flow.specs.Kept.{all_first_outside}
use Rattle.ped_rules.specs.ped_flow.specs.Summaries.{summary_events, summary_behind_all, AreSummed}
use Rattle.ped_rules.specs.ped_flow.specs.Paths.{all_paths_behind}
use Rattle.ped_rules.specs.ped_flow.specs.Questions.{LoopOf, IsFirst, IsReadBehind, IsShownBehind, IsLiveAfter, IsReadLoose, IsIndexIn, IsContained, all_reads_outside}
use Rattle.ped_rules.specs.ped_flow.proofs.Truths.{untrue, or_split}
use Rattle.ped_rules.specs.ped_flow.proofs.TreeSummaries.{all_behind-summed}
use Rattle.ped_rules.specs.ped_flow.proofs.LooseReads.{all_outside_first}
use Rattle.ped_rules.specs.ped_steps.specs.declared.rules.Rule.TheVariants.{ParallelState, NotScalar, NotConstant}
use Rattle.ped_rules.specs.ped_steps.specs.Replacing.{followed, alone}
use Rattle.ped_rules.specs.ped_steps.specs.Runs.Gaps.{Gap, at_front, past, in_then, in_else, in_body, filled}
use Rattle.ped_rules.specs.Spans.{Span, span_by, span_of}
use Rattle.ped_rules.proofs.OneLoop.{one_loop}
use Rattle.ped_reduce.proofs.LoopsRoundGaps.{front_there}
use Rattle.ped_reduce.specs.Lists.{list_of, without_list}
use Rattle.ped_reduce.specs.Lowering.{Partials, zeros, all_summed, exits, bare, lowered_loop}
use Rattle.ped_reduce.specs.Reducing.{is_unsummable}
use Rattle.ped_reduce.proofs.Resembling.{scalars_of, IsSummable}
use Rattle.ped_reduce.proofs.ConstantScalars.{constant_unread}
use Rattle.ped_reduce.proofs.LesserPaths.{IsLess, first_read, assigned_first}
use Rattle.ped_reduce.proofs.LoweredPaths.{all_same_loops, loops_followed}
use Rattle.ped_reduce.proofs.LoweredBehind.{without_loops, gap_behind}
use Rattle.ped_reduce.proofs.LooseSums.{body_unread}
use Rattle.ped_reduce.proofs.LoweredStages.{IsResembling}

false_or : (b : Bool) → (b ≡ true → ⊥) → b ≡ false
false_or true h = absurd (h refl)
false_or false h = refl

-- what no rule against sums tells of a DO
module _ (t : ProgramTree) (n : ℕ) (ps : List Partials) (h : Head) (body : StmtTrees) (m : IsSummable t n ps h body) where
  pub not_parallel : h.parallel ≡ false
  not_parallel = false_or h.parallel (λ e. m.free ParallelState n (inr (inl (refl, (record { head = h; body = body; is = m.is }, or_left h.parallel _ e, refl)))))

  -- a DO variable of the program is no such scalar
  pub no_variable : (x : List ℕ) → is_among x (all_loop_variables t.body) ≡ true → is_among x (scalars_of ps) ≡ false
  no_variable x among = false_or (is_among x (scalars_of ps)) (λ e. m.free NotScalar n (inr (inr (inr (inr (inl (refl, (record { head = h; body = body; is = m.is }, some (list_of body) (ap (is_among x) (sym m.scalars) ∙ e), refl))))))))
    where
      unsummable : is_unsummable t n body x ≡ true
      unsummable = or_left _ _ (or_right _ (is_among x (all_loop_variables t.body)) among)

      some : (names : List (List ℕ)) → is_among x names ≡ true → list_any (is_unsummable t n body) names ≡ true
      some [] g = untrue g
      some (y ∷ ys) g = elim (or_split (is_same_text x y) (is_among x ys) g) [
        | inl q ↦ or_left (is_unsummable t n body y) _ (ap (is_unsummable t n body) (sym (same_is x y q)) ∙ unsummable)
        | inr q ↦ or_right (is_unsummable t n body y) _ (some ys q)
      ]

  -- its bounds are constant
  pub spans : (v : Span) × (span_of (table_of t).constants h ≡ Some v)
  spans = by (span_of (table_of t).constants h) refl
    where
      by : (o : Option Span) → span_of (table_of t).constants h ≡ o → (v : Span) × (o ≡ Some v)
      by (Some v) e = (v, refl)
      by None e = absurd (m.free NotConstant n (inr (inr (inr (inr (inr (inl (refl, (record { head = h; body = body; is = m.is }, ap is_none e, refl)))))))))

  bounds_by : (a b c : Option ℤ) (v : Span) → span_by a b c ≡ Some v → ((x : ℤ) × (a ≡ Some x)) × ((y : ℤ) × (b ≡ Some y))
  bounds_by (Some x) (Some y) c v e = ((x, refl), (y, refl))
  bounds_by (Some x) None c v e = absurd cc
  bounds_by None b c v e = absurd cc

  pub bounds_valued : ((x : ℤ) × (constant_value (table_of t).constants h.first ≡ Some x)) × ((y : ℤ) × (constant_value (table_of t).constants h.last ≡ Some y))
  bounds_valued = let values = (table_of t).constants in bounds_by (constant_value values h.first) (constant_value values h.last) (constant_value values h.step) spans.0 spans.1

  -- so they read no scalar
  pub bounds_unread : (scalars_in (constant_names t.decls) h.first ≡ []) × (scalars_in (constant_names t.decls) h.last ≡ [])
  bounds_unread =
      let values = (table_of t).constants in
      let b = bounds_by (constant_value values h.first) (constant_value values h.last) (constant_value values h.step) spans.0 spans.1 in (
        constant_unread values (constant_names t.decls) (λ x e. others_unvalued t x e) h.first b.0.0 b.0.1,
        constant_unread values (constant_names t.decls) (λ x e. others_unvalued t x e) h.last b.1.0 b.1.1,
      )

  pub own_unread : (w : List ℕ) (j : ℕ) → (summary_events w (own_events (constant_names t.decls) j (Do h body))).first ≡ None
  own_unread w j =
      first_read w j (scalars_in (constant_names t.decls) h.first ++ scalars_in (constant_names t.decls) h.last) (event j assigns h.variable ∷ [])
      (λ i. is_among w (bounds_unread.0 i ++ bounds_unread.1 i)) (assigned_first w (constant_names t.decls) j (h.variable ∷ []))

-- arrays declare no constant, and save nothing
pub no_constants : (more : List (List DeclaratorTree)) → flat_map constants_in (map Integer more) ≡ []
no_constants [] = refl
no_constants (d ∷ ds) = no_constants ds

pub none_saved : (more : List (List DeclaratorTree)) → flat_map saved_in (map Integer more) ≡ []
none_saved [] = refl
none_saved (d ∷ ds) = none_saved ds

zeros_loops : (v : List ℕ) (ps : List Partials) → all_loop_variables (zeros v ps) ≡ []
zeros_loops v [] = refl
zeros_loops v (p ∷ ps) = zeros_loops v ps

-- the variables of a DO in a gap are among those of the whole
module _ (h : Head) (body : StmtTrees) (w : List ℕ) (own : is_among w (loop_variables (Do h body)) ≡ true) where
  has_left : (xs ys : List (List ℕ)) → is_among w xs ≡ true → is_among w (xs ++ ys) ≡ true
  has_left xs ys e = among_append w xs ys ∙ or_left (is_among w xs) (is_among w ys) e

  has_right : (xs ys : List (List ℕ)) → is_among w ys ≡ true → is_among w (xs ++ ys) ≡ true
  has_right xs ys e = among_append w xs ys ∙ or_right (is_among w xs) (is_among w ys) e

  pub in_gap : (gap : Gap) → is_among w (all_loop_variables (filled gap (alone (Do h body)))) ≡ true
  in_gap (at_front rest) = has_left (loop_variables (Do h body)) (all_loop_variables rest) own
  in_gap (past z gap) = has_right (loop_variables z) (all_loop_variables (filled gap (alone (Do h body)))) (in_gap gap)
  in_gap (in_then c gap b rest) =
      let a = filled gap (alone (Do h body)) in
      has_left (all_loop_variables a ++ all_loop_variables b) (all_loop_variables rest) (has_left (all_loop_variables a) (all_loop_variables b) (in_gap gap))
  in_gap (in_else c b gap rest) =
      let a = filled gap (alone (Do h body)) in
      has_left (all_loop_variables b ++ all_loop_variables a) (all_loop_variables rest) (has_right (all_loop_variables b) (all_loop_variables a) (in_gap gap))
  in_gap (in_body d gap rest) =
      let a = filled gap (alone (Do h body)) in
      has_left (d.variable ∷ all_loop_variables a) (all_loop_variables rest) (or_right (is_same_text w d.variable) (is_among w (all_loop_variables a)) (in_gap gap))

module _ (t u : ProgramTree) (s k : ℕ) (loop : LoopOf t s) (m : IsResembling t s loop u k) where
  abbrev h : Head
  h = loop.head

  abbrev ps : List Partials
  ps = m.partials

  abbrev new : StmtTrees
  new = followed (zeros h.variable ps) (all_summed h.variable ps (without_list loop.body))

  pub same_constants : constant_names u.decls ≡ constant_names t.decls
  same_constants = ap constant_names m.decls ∙ flat_map-append constants_in t.decls (map Integer m.more) ∙ ap (λ (xs : List (List ℕ)). constant_names t.decls ++ xs) (no_constants m.more) ∙ append-nil (constant_names t.decls)

  same_saved : flat_map saved_in u.decls ≡ flat_map saved_in t.decls
  same_saved = ap (flat_map saved_in) m.decls ∙ flat_map-append saved_in t.decls (map Integer m.more) ∙ ap (λ (xs : List (List ℕ)). flat_map saved_in t.decls ++ xs) (none_saved m.more) ∙ append-nil (flat_map saved_in t.decls)

  -- the lowered DO
  abbrev pub new_loop : LoopOf u k
  new_loop = record {
    head = record h { parallel = false };
    body = new;
    is = front_there u (Do (record h { parallel = false }) new) (all_numbered new) (alone (Do (bare h) (exits h.variable ps))) m.other k refl m.number m.new;
  }

  -- it has the variables of the old one
  module _ (w : List ℕ) (index : IsIndexIn u k w) where
    among_new : is_among w (h.variable ∷ all_loop_variables new) ≡ true
    among_new =
        let same = one_loop u k new_loop index.loop in
        (λ i. is_among w ((same.0 i).variable ∷ all_loop_variables (same.1 i))) ∙ index.among

    loops_are : all_loop_variables new ≡ all_loop_variables loop.body
    loops_are =
        loops_followed h.variable ps (zeros h.variable ps) (all_summed h.variable ps (without_list loop.body))
        ∙ (λ i. zeros_loops h.variable ps i ++ all_same_loops h.variable ps (without_list loop.body) i) ∙ without_loops loop.body

    among_old : is_among w (loop_variables (Do h loop.body)) ≡ true
    among_old = ap (λ (xs : List (List ℕ)). is_among w (h.variable ∷ xs)) (sym loops_are) ∙ among_new

    old_index : IsIndexIn t s w
    old_index = record { loop = loop; among = among_old }

    of_program : is_among w (all_loop_variables t.body) ≡ true
    of_program = ap (λ (ts : StmtTrees). is_among w (all_loop_variables ts)) m.stands ∙ in_gap h loop.body w among_old m.gap

    unsummed : is_among w (scalars_of ps) ≡ false
    unsummed = no_variable t s ps h loop.body m.summable w of_program

    less : IsLess (summary_behind_all (constant_names t.decls) w k u.body 1) (summary_behind_all (constant_names t.decls) w s t.body 1)
    less =
        subst (λ (ts : StmtTrees). IsLess (summary_behind_all (constant_names t.decls) w k ts 1) (summary_behind_all (constant_names t.decls) w s t.body 1)) (sym m.new)
        (subst (λ (ts : StmtTrees). IsLess (summary_behind_all (constant_names t.decls) w k (filled m.other (lowered_loop false ps h loop.body)) 1) (summary_behind_all (constant_names t.decls) w s ts 1)) (sym m.stands)
        (gap_behind t m.live (constant_names t.decls) w (λ n qs g body z. (no_variable t n qs g body z w of_program, not_parallel t n qs g body z)) ps h loop.body unsummed (not_parallel t s ps h loop.body m.summable)
        (own_unread t s ps h loop.body m.summable w) s k m.gap 1 1 m.other m.alike m.at m.number))

    summed_new : AreSummed (all_paths_behind (constant_names u.decls) k u.body 1) w (summary_behind_all (constant_names t.decls) w k u.body 1)
    summed_new = subst (λ (cs : List (List ℕ)). AreSummed (all_paths_behind (constant_names u.decls) k u.body 1) w (summary_behind_all cs w k u.body 1)) same_constants (all_behind-summed (constant_names u.decls) w k u.body 1)

    summed_old : AreSummed (all_paths_behind (constant_names t.decls) s t.body 1) w (summary_behind_all (constant_names t.decls) w s t.body 1)
    summed_old = all_behind-summed (constant_names t.decls) w s t.body 1

    -- no number where there is none
    none_is : (P : ℕ → Type 0) (o : Option ℕ) → IsFirst P o → ((n : ℕ) → P n → ⊥) → o ≡ None
    none_is P None f none = refl
    none_is P (Some n) f none = absurd (none n f.0)

    is_none_of : (P : ℕ → Type 0) (o : Option ℕ) → o ≡ None → IsFirst P o → (n : ℕ) → P n → ⊥
    is_none_of P None e f = f
    is_none_of P (Some n) e f = absurd cc

    module _ (contained : IsContained t s) where
      dead : IsLiveAfter t s w → ⊥
      dead = (contained w old_index).1

      unread : (n : ℕ) → IsReadBehind u k w n → ⊥
      unread n read =
          is_none_of _ (summary_behind_all (constant_names t.decls) w k u.body 1).first
          (less.first (none_is _ (summary_behind_all (constant_names t.decls) w s t.body 1).first summed_old.first (λ j q. dead (inl (j, record { path = q.0; leads = q.1; reads = q.2 })))))
          summed_new.first n (read.path, read.leads, read.reads)

      unshown : IsShownBehind u k w → ⊥
      unshown shown = elim shown.leads [
        | inl onward ↦ (let q = summed_old.onward.keeps.0 (less.more.keeps (summed_new.onward.keeps.1 (shown.path, onward, shown.kept))) in dead (inr (record { saved = saved; path = q.0; leads = inl q.1; kept = q.2 })))
        | inr ending ↦ (let q = summed_old.ends.0 (less.more.ends (summed_new.ends.1 (shown.path, ending, shown.kept))) in dead (inr (record { saved = saved; path = q.0; leads = inr q.1; kept = q.2 })))
      ]
        where
          saved : IsTrue (is_among w (flat_map saved_in t.decls))
          saved = ap (is_among w) (sym same_saved) ∙ shown.saved

      live_not : IsLiveAfter u k w → ⊥
      live_not (inl read) = unread read.0 read.1
      live_not (inr shown) = unshown shown

      other_is : (n : ℕ) → IsReadLoose u k w n → is_same_text w h.variable ≡ false
      other_is n loose = ap (λ (g : Head). is_same_text w g.variable) (one_loop u k new_loop loose.loop).0 ∙ loose.other

      loose_not : (n : ℕ) → IsReadLoose u k w n → ⊥
      loose_not n loose =
          let other = other_is n loose in
          let cs = constant_names t.decls in
          let old_none : all_first_outside cs w loop.body (s + 1) ≡ None = none_is _ (all_first_outside cs w loop.body (s + 1)) (all_outside_first cs w loop.body (s + 1)) (λ j q. (contained w old_index).0 j (record { loop = loop; other = other; reads = q })) in
          let new_none = body_unread cs w h.variable ps unsummed other loop.body (s + 1) (k + 1) old_none in
          is_none_of _ (all_first_outside cs w new (k + 1)) new_none (all_outside_first cs w new (k + 1)) n
          (subst (λ (body : StmtTrees). IsTrue (all_reads_outside cs w n body (k + 1))) (sym (one_loop u k new_loop loose.loop).1) (subst (λ (ds : List (List ℕ)). IsTrue (all_reads_outside ds w n loose.loop.body (k + 1))) same_constants loose.reads))

  -- so it is contained
  pub contained_again : IsContained t s → IsContained u k
  contained_again contained w index = (loose_not w index contained, live_not w index contained)
