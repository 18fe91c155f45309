-- The inner of two DO loops skewed: a program that may be trusted stays so.
use Rattle.std.proofs.Common.{◌≡◌, ℕ, List, [], ◌∷◌, ◌++◌, Bool, true, false, Some, ◌||◌, ◌&&◌, refl, sym, ap, ◌∙◌, subst, inr, arith, append-nil}
use Rattle.std.specs.List.{list_any}
use Rattle.std.proofs.lemmas.Bool.{or_parts}
use Rattle.ped_base.specs.Lists.{has_some, is_among}
use Rattle.ped_tree.specs.Accesses.{constant_names}
use Rattle.ped_tree.specs.NamesIn.{loop_variables, all_loop_variables}
use Rattle.ped_tree.specs.Tree.{ExprTree, Head, StmtTree, StmtTrees, Do, no_stmts, ProgramTree}
use Rattle.ped_rules.specs.ped_laws.specs.FlowRuns.Covering.{has_stop, some_stop}
use Rattle.ped_rules.specs.ped_laws.proofs.FlowRunLaws.Stopping.{fitting_stops, loop_stops}
use Rattle.ped_rules.specs.ped_flow.specs.Questions.{LoopOf, IsContained, IsShownBehind}
use Rattle.ped_rules.specs.ped_flow.proofs.Truths.{untrue}
use Rattle.ped_rules.specs.ped_symbols.specs.Kinds.{kind_in}
use Rattle.ped_rules.specs.ped_symbols.specs.NameRefusals.{IsValid}
use Rattle.ped_rules.specs.ped_symbols.specs.RightUses.RightUses.{stmts_are_right}
use Rattle.ped_symbolic.specs.Substitution.{statements_substituted}
use Rattle.ped_rules.specs.ped_steps.specs.Replacing.{alone, program_with}
use Rattle.ped_rules.specs.ped_steps.proofs.RunLaws.ReplacedTrees.{HasGap, program_gap}
use Rattle.ped_rules.specs.ped_loop_runs.specs.Exchanges.{Exchange, start_of, loop_of, IsExchanged, LeavesAlone}
use Rattle.ped_rules.specs.ped_loop_runs.specs.Unrejected.{has_rejection, some_rejection, IsTrusted}
use Rattle.ped_rules.specs.ped_loop_runs.specs.Writing.{writes_name, writes_left, writes, all_write, writes_index, some_write_index}
use Rattle.ped_rules.specs.OnlyLoops.{only_loop}
use Rattle.ped_rules.proofs.NameLaws.SubstitutedPaths.{stops_kept}
use Rattle.ped_rules.proofs.NameLaws.SubstitutedRejections.{rejections_kept}
use Rattle.ped_rules.proofs.HeadLaws.OneHead.{TrustedLaw, ClearedLaw}
use Rattle.ped_rules.proofs.NestLaws.OnlyBodies.{pair}
use Rattle.ped_rules.proofs.NestLaws.WovenTrust.{or_tells}
use Rattle.ped_rules.proofs.NameLaws.SubstitutedReferences.{all_unwritten, indices_unwritten}

module _ (t : ProgramTree) (valid : IsValid t) (l : ℕ) (loop : LoopOf t l) (contained : IsContained t l) (g h : Head) (inside other_body : StmtTrees) (by : ExprTree) (only : only_loop loop.body ≡ Some (pair g inside)) (new_only : only_loop other_body ≡ Some (pair h (statements_substituted g.variable by inside)))
    (variable : h.variable ≡ g.variable) (private : h.private ≡ g.private) (rejected : h.rejected ≡ g.rejected) (serial : loop.head.parallel ≡ false) (inner_serial : g.parallel ≡ false) (new_serial : h.parallel ≡ false)
    (same_loops : all_loop_variables other_body ≡ all_loop_variables loop.body) (right : stmts_are_right (kind_in t) inside ≡ true) (no_left : (w : List ℕ) → writes_left (constant_names t.decls) w by ≡ false) where
  abbrev d : Head
  d = loop.head

  abbrev others : StmtTrees
  others = statements_substituted g.variable by inside

  abbrev replacing : StmtTree → StmtTrees
  replacing s = alone (Do loop.head other_body)

  abbrev old : StmtTrees
  old = alone (Do loop.head loop.body)

  abbrev new : StmtTrees
  new = alone (Do loop.head other_body)

  abbrev cs : List (List ℕ)
  cs = constant_names t.decls

  gap : HasGap replacing l (Do loop.head loop.body) 1 t.body (program_with replacing l t).body
  gap = program_gap replacing l (Do loop.head loop.body) t loop.is

  abbrev exchange : Exchange
  exchange = record { gap = gap.gap; front = no_stmts; head = loop.head; body = loop.body; new = new }

  exchanged : IsExchanged exchange t (program_with replacing l t)
  exchanged = record {
    old_body = gap.old_is;
    comments = no_stmts;
    uncounted = refl;
    new_body = gap.new_is;
    constants = refl;
    saved = refl;
    unstopped = λ i. new_stops i || false;
  }
    where
      new_stops : some_stop other_body ≡ false
      new_stops =
          or_tells has_stop some_stop h others other_body refl (λ s rest. refl) (λ text. refl) new_only
          ∙ stops_kept g.variable by inside
          ∙ sym (or_tells has_stop some_stop g inside loop.body refl (λ s rest. refl) (λ text. refl) only)
          ∙ loop_stops t l loop (fitting_stops t valid.fits)

  same_variables : (w : List ℕ) → is_among w (all_loop_variables new) ≡ is_among w (all_loop_variables old)
  same_variables w = λ i. is_among w ((d.variable ∷ same_loops i) ++ [])

  only_among : (body : StmtTrees) (w : List ℕ) → is_among w (all_loop_variables (alone (Do d body))) ≡ is_among w (loop_variables (Do d body))
  only_among body w = ap (is_among w) (append-nil (loop_variables (Do d body)))

  stands_at : loop_of exchange ≡ l
  stands_at = let n = gap.number in omega (arith, n)

  unshown : (w : List ℕ) → is_among w (all_loop_variables old) ≡ true → IsShownBehind t (loop_of exchange) w → ⊥
  unshown w among shown = (contained w (record { loop = loop; among = sym (only_among loop.body w) ∙ among })).1 (inr (subst (λ (n : ℕ). IsShownBehind t n w) stands_at shown))

  -- they write no other names
  writes_in : (w : List ℕ) (f : Head) (ts body : StmtTrees) → only_loop body ≡ Some (pair f ts) → all_write cs w body ≡ list_any (writes_name cs w) f.private || all_write cs w ts
  writes_in w f ts body one = or_tells (writes cs w) (all_write cs w) f ts body refl (λ s rest. refl) (λ text. refl) one

  unwritten : (w : List ℕ) → all_write cs w old ≡ false → all_write cs w new ≡ false
  unwritten w none =
      let outer = or_parts (list_any (writes_name cs w) d.private) (all_write cs w loop.body) (or_parts _ false none).0 in
      let inner = or_parts (list_any (writes_name cs w) g.private) (all_write cs w inside) (sym (writes_in w g inside loop.body only) ∙ outer.1) in
      let body : all_write cs w other_body ≡ false =
      writes_in w h others other_body new_only ∙ (λ i. list_any (writes_name cs w) (private i) || all_write cs w others) ∙ (λ i. inner.0 i || all_unwritten cs w (kind_in t) g.variable by (no_left w) inside right inner.1 i) in
      λ i. (outer.0 i || body i) || false

  indices_in : (f : Head) (ts body : StmtTrees) → only_loop body ≡ Some (pair f ts) → f.parallel ≡ false → some_write_index cs body ≡ some_write_index cs ts
  indices_in f ts body one plain =
      or_tells (writes_index cs) (some_write_index cs) f ts body refl (λ s rest. refl) (λ text. refl) one
      ∙ (λ i. (plain i && list_any (λ w. all_write cs w ts) (f.variable ∷ all_loop_variables ts)) || some_write_index cs ts)

  unwritten_indices : some_write_index cs old ≡ false → some_write_index cs new ≡ false
  unwritten_indices none =
      let outer = (or_parts _ (some_write_index cs loop.body) (or_parts _ false none).0).1 in
      let inner : some_write_index cs inside ≡ false = sym (indices_in g inside loop.body only inner_serial) ∙ outer in
      let body : some_write_index cs other_body ≡ false = indices_in h others other_body new_only new_serial ∙ indices_unwritten cs (kind_in t) g.variable by no_left inside right inner in
      λ i. ((serial i && list_any (λ w. all_write cs w other_body) (d.variable ∷ all_loop_variables other_body)) || body i) || false

  leaves_alone : ClearedLaw → LeavesAlone exchange t
  leaves_alone cleared = record {
    variables = λ w e. same_variables w ∙ e;
    further = λ w there before. untrue (sym before ∙ (sym (same_variables w) ∙ there));
    unshown = unshown;
    writes = unwritten;
    unwritten = unwritten_indices;
    leaves = λ w other keeps.
        let none = sym (only_among other_body w) ∙ other in
        let before = sym (only_among loop.body w) ∙ (sym (same_variables w) ∙ other) in
        ap (λ (b : Bool). b && true) (cleared cs w d loop.body (start_of exchange) before ∙ sym (cleared cs w d other_body (start_of exchange) none)) ∙ keeps;
  }

  rejections_in : (f : Head) (ts body : StmtTrees) → only_loop body ≡ Some (pair f ts) → some_rejection body ≡ has_some f.rejected || some_rejection ts
  rejections_in f ts body one = or_tells has_rejection some_rejection f ts body refl (λ s rest. refl) (λ text. refl) one

  unrejected : some_rejection old ≡ false → some_rejection new ≡ false
  unrejected none =
      (λ i. (has_some d.rejected || rejections_in h others other_body new_only i) || false)
      ∙ (λ i. (has_some d.rejected || (has_some (rejected i) || rejections_kept g.variable by inside i)) || false)
      ∙ (λ i. (has_some d.rejected || sym (rejections_in g inside loop.body only) i) || false)
      ∙ none

  pub stays_trusted_skew : TrustedLaw → ClearedLaw → IsTrusted t → IsTrusted (program_with (λ s. alone (Do loop.head other_body)) l t)
  stays_trusted_skew law cleared trusted = law exchange t (program_with replacing l t) exchanged (leaves_alone cleared) unrejected trusted
