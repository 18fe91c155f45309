-- A DO with a live list is contained in what comes of the program by lowering the lists before it, as it is in the program.
use Rattle.std.proofs.Common.{◌≡◌, ℕ, ◌+◌, Bool, true, false, List, ◌∷◌, ◌++◌, map, Option, Some, None, refl, sym, ap, subst, ◌∙◌, inl, inr, IsTrue, append-nil}
use Rattle.std.specs.List.{flat_map}
use Rattle.std.proofs.lemmas.Grind.{flat_map-append}
use Rattle.ped_base.specs.Lists.{is_same_text, is_among}
use Rattle.ped_tree.specs.Accesses.{constants_in, constant_names}
use Rattle.ped_tree.specs.NamesIn.{loop_variables, all_loop_variables, saved_in}
use Rattle.ped_tree.specs.Numbering.{all_numbered}
use Rattle.ped_tree.specs.Tree.{Head, StmtTrees, Do, no_stmts, Integer, ProgramTree}
use Rattle.ped_rules.specs.ped_steps.specs.Replacing.{alone}
use Rattle.ped_rules.specs.ped_steps.specs.Runs.Gaps.{filled}
use Rattle.ped_rules.specs.ped_flow.specs.Kept.{all_first_outside}
use Rattle.ped_rules.specs.ped_flow.specs.Questions.{LoopOf, IsFirst, IsReadBehind, IsShownBehind, IsLiveAfter, all_reads_outside, IsReadLoose, IsIndexIn, IsContained}
use Rattle.ped_rules.specs.ped_flow.specs.Paths.{all_paths_behind}
use Rattle.ped_rules.specs.ped_flow.specs.Summaries.{summary_behind_all, AreSummed}
use Rattle.ped_rules.specs.ped_flow.proofs.LooseReads.{all_outside_first}
use Rattle.ped_rules.specs.ped_flow.proofs.TreeSummaries.{all_behind-summed}
use Rattle.ped_rules.proofs.OneLoop.{one_loop}
use Rattle.ped_reduce.specs.Lowering.{Lowered}
use Rattle.ped_reduce.proofs.LesserPaths.{IsLess}
use Rattle.ped_reduce.proofs.LoopsRoundGaps.{front_there}
use Rattle.ped_reduce.proofs.LooseSums.{all_any_unread}
use Rattle.ped_reduce.proofs.LoweredBehind.{same_gap_behind}
use Rattle.ped_reduce.proofs.LoweredStages.{IsStage, IsPlace}
use Rattle.ped_reduce.proofs.ResemblingPaths.{not_parallel, no_variable, no_constants, none_saved, in_gap}

module _ (t : ProgramTree) (s : ℕ) (loop : LoopOf t s) (parallel : Bool) (p w : Lowered) (stage : IsStage t p) (place : IsPlace t s loop parallel p w) where
  abbrev u : ProgramTree
  u = p.tree

  abbrev k : ℕ
  k = s + p.more

  abbrev cs : List (List ℕ)
  cs = constant_names t.decls

  pub stage_constants : constant_names p.tree.decls ≡ constant_names t.decls
  stage_constants = ap constant_names stage.decls ∙ flat_map-append constants_in t.decls (map Integer stage.more) ∙ ap (λ (xs : List (List ℕ)). constant_names t.decls ++ xs) (no_constants stage.more) ∙ append-nil (constant_names t.decls)

  stage_saved : flat_map saved_in p.tree.decls ≡ flat_map saved_in t.decls
  stage_saved = ap (flat_map saved_in) stage.decls ∙ flat_map-append saved_in t.decls (map Integer stage.more) ∙ ap (λ (xs : List (List ℕ)). flat_map saved_in t.decls ++ xs) (none_saved stage.more) ∙ append-nil (flat_map saved_in t.decls)

  -- the DO there
  abbrev pub stage_loop : LoopOf p.tree (s + p.more)
  stage_loop = record {
    head = loop.head;
    body = loop.body;
    is = front_there p.tree (Do loop.head loop.body) (all_numbered loop.body) no_stmts place.other (s + p.more) refl place.number place.old;
  }

  module _ (x : List ℕ) (index : IsIndexIn p.tree (s + p.more) x) where
    among_old : is_among x (loop_variables (Do loop.head loop.body)) ≡ true
    among_old =
        let same = one_loop p.tree (s + p.more) stage_loop index.loop in
        (λ i. is_among x ((same.0 i).variable ∷ all_loop_variables (same.1 i))) ∙ index.among

    old_index : IsIndexIn t s x
    old_index = record { loop = loop; among = among_old }

    of_program : is_among x (all_loop_variables t.body) ≡ true
    of_program = ap (λ (ts : StmtTrees). is_among x (all_loop_variables ts)) place.stands ∙ in_gap loop.head loop.body x among_old place.gap

    less : IsLess (summary_behind_all (constant_names t.decls) x (s + p.more) p.tree.body 1) (summary_behind_all (constant_names t.decls) x s t.body 1)
    less =
        subst (λ (ts : StmtTrees). IsLess (summary_behind_all (constant_names t.decls) x (s + p.more) ts 1) (summary_behind_all (constant_names t.decls) x s t.body 1)) (sym place.old)
        (subst (λ (ts : StmtTrees). IsLess (summary_behind_all (constant_names t.decls) x (s + p.more) (filled place.other (alone (Do loop.head loop.body))) 1) (summary_behind_all (constant_names t.decls) x s ts 1)) (sym place.stands)
        (same_gap_behind t p.live (constant_names t.decls) x (λ n qs g body z. (no_variable t n qs g body z x of_program, not_parallel t n qs g body z)) loop.head loop.body s (s + p.more) place.gap 1 1 place.other place.alike place.at place.number))

    summed_new : AreSummed (all_paths_behind (constant_names p.tree.decls) (s + p.more) p.tree.body 1) x (summary_behind_all (constant_names t.decls) x (s + p.more) p.tree.body 1)
    summed_new = subst (λ (ds : List (List ℕ)). AreSummed (all_paths_behind (constant_names p.tree.decls) (s + p.more) p.tree.body 1) x (summary_behind_all ds x (s + p.more) p.tree.body 1)) stage_constants (all_behind-summed (constant_names p.tree.decls) x (s + p.more) p.tree.body 1)

    summed_old : AreSummed (all_paths_behind (constant_names t.decls) s t.body 1) x (summary_behind_all (constant_names t.decls) x s t.body 1)
    summed_old = all_behind-summed (constant_names t.decls) x s t.body 1

    -- no number where there is none
    none_is : (P : ℕ → Type 0) (o : Option ℕ) → IsFirst P o → ((n : ℕ) → P n → ⊥) → o ≡ None
    none_is P None f none = refl
    none_is P (Some n) f none = absurd (none n f.0)

    is_none_of : (P : ℕ → Type 0) (o : Option ℕ) → o ≡ None → IsFirst P o → (n : ℕ) → P n → ⊥
    is_none_of P None e f = f
    is_none_of P (Some n) e f = absurd cc

    module _ (contained : IsContained t s) where
      dead : IsLiveAfter t s x → ⊥
      dead = (contained x old_index).1

      unread : (n : ℕ) → IsReadBehind p.tree (s + p.more) x n → ⊥
      unread n read =
          is_none_of _ (summary_behind_all (constant_names t.decls) x (s + p.more) p.tree.body 1).first
          (less.first (none_is _ (summary_behind_all (constant_names t.decls) x s t.body 1).first summed_old.first (λ j q. dead (inl (j, record { path = q.0; leads = q.1; reads = q.2 })))))
          summed_new.first n (read.path, read.leads, read.reads)

      unshown : IsShownBehind p.tree (s + p.more) x → ⊥
      unshown shown = elim shown.leads [
        | inl onward ↦ (let q = summed_old.onward.keeps.0 (less.more.keeps (summed_new.onward.keeps.1 (shown.path, onward, shown.kept))) in dead (inr (record { saved = saved; path = q.0; leads = inl q.1; kept = q.2 })))
        | inr ending ↦ (let q = summed_old.ends.0 (less.more.ends (summed_new.ends.1 (shown.path, ending, shown.kept))) in dead (inr (record { saved = saved; path = q.0; leads = inr q.1; kept = q.2 })))
      ]
        where
          saved : IsTrue (is_among x (flat_map saved_in t.decls))
          saved = ap (is_among x) (sym stage_saved) ∙ shown.saved

      live_not : IsLiveAfter p.tree (s + p.more) x → ⊥
      live_not (inl read) = unread read.0 read.1
      live_not (inr shown) = unshown shown

      loose_not : (n : ℕ) → IsReadLoose p.tree (s + p.more) x n → ⊥
      loose_not n loose =
          let same = one_loop p.tree (s + p.more) stage_loop loose.loop in
          let other : is_same_text x loop.head.variable ≡ false = ap (λ (g : Head). is_same_text x g.variable) same.0 ∙ loose.other in
          let old_none : all_first_outside (constant_names t.decls) x loop.body (s + 1) ≡ None =
          none_is _ (all_first_outside (constant_names t.decls) x loop.body (s + 1)) (all_outside_first (constant_names t.decls) x loop.body (s + 1)) (λ j q. (contained x old_index).0 j (record { loop = loop; other = other; reads = q })) in
          let new_none = all_any_unread (constant_names t.decls) x loop.body (s + 1) (s + p.more + 1) old_none in
          is_none_of _ (all_first_outside (constant_names t.decls) x loop.body (s + p.more + 1)) new_none (all_outside_first (constant_names t.decls) x loop.body (s + p.more + 1)) n
          (subst (λ (body : StmtTrees). IsTrue (all_reads_outside (constant_names t.decls) x n body (s + p.more + 1))) (sym same.1)
          (subst (λ (ds : List (List ℕ)). IsTrue (all_reads_outside ds x n loose.loop.body (s + p.more + 1))) stage_constants loose.reads))

  pub still_contained : IsContained t s → IsContained p.tree (s + p.more)
  still_contained contained x index = (loose_not x index contained, live_not x index contained)
