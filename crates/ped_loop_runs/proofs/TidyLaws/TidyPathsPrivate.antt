-- What a DO leaves of a name that is no variable of it or of a DO in it: all, unless the name is in its PRIVATE list.
use Rattle.std.proofs.Common.{◌≡◌, ℕ, Bool, true, false, not, ◌&&◌, ◌||◌, List, [], ◌∷◌, ◌++◌, refl, ap, ◌∙◌, if◌then◌else◌}
use Rattle.std.proofs.lemmas.List.Folds.{list_any-append}
use Rattle.ped_bodies.specs.ped_flow.specs.ped_base.specs.Lists.{is_same_text, is_among}
use Rattle.ped_bodies.specs.ped_flow.specs.ped_tree.specs.Tree.{Head, StmtTrees, Do}
use Rattle.ped_bodies.specs.ped_flow.specs.ped_tree.specs.NamesIn.{loop_variables, all_loop_variables}
use Rattle.ped_bodies.specs.ped_flow.specs.Events.{copied, own_events, exit_events}
use Rattle.ped_bodies.specs.ped_flow.specs.Summaries.{summary_events, summary_of}
use Rattle.ped_bodies.specs.ped_flow.proofs.Truths.{or_none}
use Rattle.ped_loop_runs.proofs.TidyLaws.TidyPathsSums.{own_exit, events_keep, own_overwrites, clear_all}

module _ (cs : List (List ℕ)) (w : List ℕ) (h : Head) (body : StmtTrees) (n : ℕ) (variable : is_same_text w h.variable ≡ false) (inner : is_among w (all_loop_variables body) ≡ false) where
  entry_keeps : (summary_events w (own_events cs n (Do h body))).keeps ≡ true
  entry_keeps = events_keep w (own_events cs n (Do h body)) ∙ ap not (own_overwrites cs w (Do h body) n ∙ (λ i. variable i || false))

  own_none : (p : Bool) → is_among w (if p then h.variable ∷ [] else []) ≡ false
  own_none true = λ i. variable i || false
  own_none false = refl

  inner_none : (p : Bool) → is_among w (if p then all_loop_variables body else []) ≡ false
  inner_none true = inner
  inner_none false = refl

  or_false : (b : Bool) → (b || false) ≡ b
  or_false true = refl
  or_false false = refl

  exit_clears : is_among w (own_exit h ++ copied h body) ≡ is_among w h.private
  exit_clears =
      list_any-append (is_same_text w) (own_exit h) (copied h body)
      ∙ ((λ i. own_none h.parallel i || list_any-append (is_same_text w) h.private (if h.parallel then all_loop_variables body else []) i)
      ∙ ((λ i. is_among w h.private || inner_none h.parallel i) ∙ or_false (is_among w h.private)))

  exit_keeps : (summary_events w (exit_events n h body)).keeps ≡ not (is_among w h.private)
  exit_keeps = events_keep w (exit_events n h body) ∙ ap not (clear_all w n (own_exit h ++ copied h body) ∙ exit_clears)

  do_keeps : (summary_of cs w (Do h body) n).keeps ≡ not (is_among w h.private)
  do_keeps = λ i. entry_keeps i && exit_keeps i

pub cleared_private : (cs : List (List ℕ)) (w : List ℕ) (h : Head) (body : StmtTrees) (n : ℕ) → is_among w (loop_variables (Do h body)) ≡ false → (summary_of cs w (Do h body) n).keeps ≡ not (is_among w h.private)
cleared_private cs w h body n none = let p = or_none (is_same_text w h.variable) (is_among w (all_loop_variables body)) none in do_keeps cs w h body n p.0 p.1
