-- A DO with another head and the same variable, PRIVATE names and body: a program that may be trusted stays so.
use Rattle.std.proofs.Common.{◌≡◌, ℕ, List, [], ◌∷◌, ◌++◌, Bool, true, false, ◌&&◌, ◌||◌, not, refl, sym, ap, ◌∙◌, subst, inr, arith, append-nil}
use Rattle.std.specs.List.{list_any}
use Rattle.ped_base.specs.Lists.{has_some, is_among}
use Rattle.ped_tree.specs.Tree.{Head, StmtTrees, Do, no_stmts, ProgramTree}
use Rattle.ped_tree.specs.NamesIn.{loop_variables, all_loop_variables}
use Rattle.ped_tree.specs.Accesses.{constant_names}
use Rattle.ped_loop_runs.specs.ped_laws.proofs.FlowRunLaws.Stopping.{fitting_stops, loop_stops}
use Rattle.ped_loop_runs.specs.ped_symbols.specs.NameRefusals.{IsValid}
use Rattle.ped_loop_runs.specs.ped_flow.specs.Questions.{LoopOf, IsContained, IsShownBehind}
use Rattle.ped_loop_runs.specs.ped_flow.specs.Summaries.{summary_of}
use Rattle.ped_loop_runs.specs.ped_flow.proofs.Truths.{untrue}
use Rattle.ped_loop_runs.specs.ped_steps.specs.Replacing.{alone, program_with}
use Rattle.ped_loop_runs.specs.ped_steps.proofs.RunLaws.ReplacedTrees.{HasGap, program_gap}
use Rattle.ped_loop_runs.specs.Unrejected.{some_rejection, IsTrusted}
use Rattle.ped_loop_runs.specs.Exchanges.{Exchange, old_of, start_of, loop_of, IsExchanged, LeavesAlone}
use Rattle.ped_loop_runs.specs.Writing.{writes_name, all_write, some_write_index}

-- the laws that are cited
abbrev pub TrustedLaw : Type 0
TrustedLaw = (x : Exchange) (t u : ProgramTree) → IsExchanged x t u → LeavesAlone x t → (some_rejection (old_of x) ≡ false → some_rejection x.new ≡ false) → IsTrusted t → IsTrusted u

abbrev pub ClearedLaw : Type 0
ClearedLaw = (constants : List (List ℕ)) (w : List ℕ) (h : Head) (body : StmtTrees) (n : ℕ) → is_among w (loop_variables (Do h body)) ≡ false → (summary_of constants w (Do h body) n).keeps ≡ not (is_among w h.private)

module _ (t : ProgramTree) (valid : IsValid t) (s : ℕ) (loop : LoopOf t s) (contained : IsContained t s) (h : Head) (variable : h.variable ≡ loop.head.variable) (private : h.private ≡ loop.head.private) (rejected : h.rejected ≡ loop.head.rejected)
    (writes : some_write_index (constant_names t.decls) (alone (Do loop.head loop.body)) ≡ false → some_write_index (constant_names t.decls) (alone (Do h loop.body)) ≡ false) where
  abbrev u : ProgramTree
  u = program_with (λ z. alone (Do h loop.body)) s t

  gap : HasGap (λ z. alone (Do h loop.body)) s (Do loop.head loop.body) 1 t.body u.body
  gap = program_gap (λ z. alone (Do h loop.body)) s (Do loop.head loop.body) t loop.is

  abbrev exchange : Exchange
  exchange = record { gap = gap.gap; front = no_stmts; head = loop.head; body = loop.body; new = alone (Do h loop.body) }

  exchanged : IsExchanged exchange t u
  exchanged = record {
    old_body = gap.old_is;
    comments = no_stmts;
    uncounted = refl;
    new_body = gap.new_is;
    constants = refl;
    saved = refl;
    unstopped = let stops = loop_stops t s loop (fitting_stops t valid.fits) in λ i. stops i || false;
  }

  only : (g : Head) (w : List ℕ) → is_among w (all_loop_variables (alone (Do g loop.body))) ≡ is_among w (loop_variables (Do g loop.body))
  only g w = ap (is_among w) (append-nil (loop_variables (Do g loop.body)))

  same_variables : (w : List ℕ) → is_among w (all_loop_variables (alone (Do h loop.body))) ≡ is_among w (all_loop_variables (alone (Do loop.head loop.body)))
  same_variables w = λ i. is_among w ((variable i ∷ all_loop_variables loop.body) ++ [])

  stands_at : loop_of exchange ≡ s
  stands_at = let n = gap.number in omega (arith, n)

  unshown : (w : List ℕ) → is_among w (all_loop_variables (alone (Do loop.head loop.body))) ≡ true → IsShownBehind t (loop_of exchange) w → ⊥
  unshown w among shown = (contained w (record { loop = loop; among = sym (only loop.head w) ∙ among })).1 (inr (subst (λ (n : ℕ). IsShownBehind t n w) stands_at shown))

  leaves_alone : ClearedLaw → LeavesAlone exchange t
  leaves_alone cleared = record {
    variables = λ w e. same_variables w ∙ e;
    further = λ w new old. untrue (sym old ∙ (sym (same_variables w) ∙ new));
    unshown = unshown;
    writes = λ w none. (λ i. (list_any (writes_name (constant_names t.decls) w) (private i) || all_write (constant_names t.decls) w loop.body) || false) ∙ none;
    unwritten = writes;
    leaves = λ w other keeps.
        let none = sym (only h w) ∙ other in
        let before = sym (only loop.head w) ∙ (sym (same_variables w) ∙ other) in
        ap (λ (b : Bool). b && true) (cleared (constant_names t.decls) w loop.head loop.body (start_of exchange) before ∙ ap (λ (xs : List (List ℕ)). not (is_among w xs)) (sym private) ∙ sym (cleared (constant_names t.decls) w h loop.body (start_of exchange) none)) ∙ keeps;
  }

  pub stays_trusted_head : TrustedLaw → ClearedLaw → IsTrusted t → IsTrusted u
  stays_trusted_head law cleared trusted = law exchange t u exchanged (leaves_alone cleared) (λ e. (λ i. (has_some (rejected i) || some_rejection loop.body) || false) ∙ e) trusted
