-- Two DO loops in each other's place: a program that may be trusted stays so.
use Rattle.std.proofs.Common.{◌≡◌, ℕ, List, [], ◌∷◌, ◌++◌, Bool, true, false, Some, ◌||◌, ◌&&◌, not, refl, sym, ap, ◌∙◌, subst, inr, arith, append-nil}
use Rattle.std.specs.List.{list_any}
use Rattle.ped_base.specs.Lists.{has_some, is_same_text, is_among}
use Rattle.ped_tree.specs.Tree.{Head, StmtTree, StmtTrees, Do, Comment, no_stmts, more_stmts, ProgramTree}
use Rattle.ped_tree.specs.NamesIn.{loop_variables, all_loop_variables}
use Rattle.ped_tree.specs.Accesses.{constant_names}
use Rattle.ped_loop_runs.specs.ped_laws.specs.FlowRuns.Covering.{has_stop, some_stop}
use Rattle.ped_loop_runs.specs.ped_laws.proofs.FlowRunLaws.Stopping.{fitting_stops, loop_stops}
use Rattle.ped_loop_runs.specs.ped_symbols.specs.NameRefusals.{IsValid}
use Rattle.ped_loop_runs.specs.ped_flow.specs.Questions.{LoopOf, IsContained, IsShownBehind}
use Rattle.ped_loop_runs.specs.ped_flow.proofs.Truths.{untrue}
use Rattle.ped_loop_runs.specs.ped_steps.specs.Replacing.{alone, program_with}
use Rattle.ped_loop_runs.specs.ped_steps.proofs.RunLaws.ReplacedTrees.{HasGap, program_gap}
use Rattle.ped_loop_runs.specs.Unrejected.{has_rejection, some_rejection, IsTrusted}
use Rattle.ped_loop_runs.specs.Exchanges.{Exchange, start_of, loop_of, IsExchanged, LeavesAlone}
use Rattle.ped_loop_runs.specs.Writing.{writes_name, writes, all_write, writes_index, some_write_index}
use Rattle.ped_rules.specs.OnlyLoops.{change_only, only_loop}
use Rattle.ped_rules.proofs.NestLaws.OnlyBodies.{pair, only_changed, only_tells}
use Rattle.ped_rules.proofs.HeadLaws.OneHead.{TrustedLaw, ClearedLaw}

or_second : (a b c : Bool) → a || (b || c) ≡ b || (a || c)
or_second true true c = refl
or_second true false c = refl
or_second false true c = refl
or_second false false c = refl

-- what is told of statements by "or" is told of a body by its one DO
pub or_tells : (told : StmtTree → Bool) (all : StmtTrees → Bool) (g : Head) (inside body : StmtTrees) → all no_stmts ≡ false → ((s : StmtTree) (rest : StmtTrees) → all (more_stmts s rest) ≡ told s || all rest) → ((text : List ℕ) → told (Comment text) ≡ false)
    → only_loop body ≡ Some (pair g inside) → all body ≡ told (Do g inside)
or_tells told all g inside body none both nothing only = only_tells g inside told all (λ (a b : Bool). a || b) false (λ a. refl) or_false none both nothing body only
  where
    or_false : (a : Bool) → a || false ≡ a
    or_false true = refl
    or_false false = refl

module _ (t : ProgramTree) (valid : IsValid t) (l : ℕ) (loop : LoopOf t l) (contained : IsContained t l) (g h k : Head) (inside : StmtTrees) (only : only_loop loop.body ≡ Some (pair g inside))
    (variable : h.variable ≡ g.variable) (inner_variable : k.variable ≡ loop.head.variable) (rejected : h.rejected ≡ g.rejected) (inner_rejected : k.rejected ≡ loop.head.rejected)
    (serial : loop.head.parallel ≡ false) (inner_serial : g.parallel ≡ false) (new_serial : h.parallel ≡ false) (new_inner_serial : k.parallel ≡ false)
    (private : loop.head.private ≡ []) (inner_private : g.private ≡ []) (new_private : h.private ≡ []) (new_inner_private : k.private ≡ []) where
  abbrev d : Head
  d = loop.head

  abbrev its_body : StmtTrees
  its_body = change_only (λ f z. Do k z) loop.body

  abbrev by : StmtTree → StmtTrees
  by s = alone (Do h (change_only (λ f z. Do k z) loop.body))

  abbrev old : StmtTrees
  old = alone (Do loop.head loop.body)

  abbrev new : StmtTrees
  new = alone (Do h (change_only (λ f z. Do k z) loop.body))

  abbrev cs : List (List ℕ)
  cs = constant_names t.decls

  u : ProgramTree
  u = program_with by l t

  gap : HasGap by l (Do loop.head loop.body) 1 t.body (program_with by l t).body
  gap = program_gap by l (Do loop.head loop.body) t loop.is

  new_only : only_loop its_body ≡ Some (pair k inside)
  new_only = only_changed g inside k loop.body only

  abbrev exchange : Exchange
  exchange = record { gap = gap.gap; front = no_stmts; head = loop.head; body = loop.body; new = new }

  exchanged : IsExchanged exchange t (program_with by l t)
  exchanged = record {
    old_body = gap.old_is;
    comments = no_stmts;
    uncounted = refl;
    new_body = gap.new_is;
    constants = refl;
    saved = refl;
    unstopped = λ i. new_stops i || false;
  }
    where
      new_stops : some_stop its_body ≡ false
      new_stops =
          or_tells has_stop some_stop k inside its_body refl (λ s rest. refl) (λ text. refl) new_only
          ∙ sym (or_tells has_stop some_stop g inside loop.body refl (λ s rest. refl) (λ text. refl) only)
          ∙ loop_stops t l loop (fitting_stops t valid.fits)

  -- the variables are the same
  old_inner : all_loop_variables loop.body ≡ loop_variables (Do g inside)
  old_inner = only_tells g inside loop_variables all_loop_variables (λ (xs ys : List (List ℕ)). xs ++ ys) [] (λ xs. refl) (λ xs. append-nil xs) refl (λ s rest. refl) (λ text. refl) loop.body only

  new_inner : all_loop_variables its_body ≡ loop_variables (Do k inside)
  new_inner = only_tells k inside loop_variables all_loop_variables (λ (xs ys : List (List ℕ)). xs ++ ys) [] (λ xs. refl) (λ xs. append-nil xs) refl (λ s rest. refl) (λ text. refl) its_body new_only

  same_variables : (w : List ℕ) → is_among w (all_loop_variables new) ≡ is_among w (all_loop_variables old)
  same_variables w =
      (λ i. is_among w ((variable i ∷ new_inner i) ++ []))
      ∙ (λ i. is_among w ((g.variable ∷ (inner_variable i ∷ all_loop_variables inside)) ++ []))
      ∙ or_second (is_same_text w g.variable) (is_same_text w d.variable) (is_among w (all_loop_variables inside ++ []))
      ∙ (λ i. is_among w ((d.variable ∷ sym old_inner i) ++ []))

  only_among : (w : List ℕ) → is_among w (all_loop_variables old) ≡ is_among w (loop_variables (Do d loop.body))
  only_among w = ap (is_among w) (append-nil (loop_variables (Do d loop.body)))

  stands_at : loop_of exchange ≡ l
  stands_at = let n = gap.number in omega (arith, n)

  unshown : (w : List ℕ) → is_among w (all_loop_variables old) ≡ true → IsShownBehind t (loop_of exchange) w → ⊥
  unshown w among shown = (contained w (record { loop = loop; among = sym (only_among w) ∙ among })).1 (inr (subst (λ (n : ℕ). IsShownBehind t n w) stands_at shown))

  -- they write the same names
  writes_inside : (w : List ℕ) (a b : Head) (body : StmtTrees) → only_loop body ≡ Some (pair b inside) → a.private ≡ [] → b.private ≡ [] → all_write cs w (alone (Do a body)) ≡ all_write cs w inside || false
  writes_inside w a b body one empty inner_empty =
      (λ i. (list_any (writes_name cs w) (empty i) || or_tells (writes cs w) (all_write cs w) b inside body refl (λ s rest. refl) (λ text. refl) one i) || false)
      ∙ (λ i. (list_any (writes_name cs w) (inner_empty i) || all_write cs w inside) || false)

  indices_inside : (a b : Head) (body : StmtTrees) → only_loop body ≡ Some (pair b inside) → a.parallel ≡ false → b.parallel ≡ false → some_write_index cs (alone (Do a body)) ≡ some_write_index cs inside || false
  indices_inside a b body one plain inner_plain =
      (λ i. ((plain i && list_any (λ w. all_write cs w body) (a.variable ∷ all_loop_variables body)) || or_tells (writes_index cs) (some_write_index cs) b inside body refl (λ s rest. refl) (λ text. refl) one i) || false)
      ∙ (λ i. ((inner_plain i && list_any (λ w. all_write cs w inside) (b.variable ∷ all_loop_variables inside)) || some_write_index cs inside) || false)

  leaves_alone : ClearedLaw → LeavesAlone exchange t
  leaves_alone cleared = record {
    variables = λ w e. same_variables w ∙ e;
    further = λ w there before. untrue (sym before ∙ (sym (same_variables w) ∙ there));
    unshown = unshown;
    writes = λ w none. writes_inside w h k its_body new_only new_private new_inner_private ∙ sym (writes_inside w d g loop.body only private inner_private) ∙ none;
    unwritten = λ none. indices_inside h k its_body new_only new_serial new_inner_serial ∙ sym (indices_inside d g loop.body only serial inner_serial) ∙ none;
    leaves = λ w other keeps.
        ap (λ (b : Bool). b && true) (cleared cs w d loop.body (start_of exchange) (sym (only_among w) ∙ (sym (same_variables w) ∙ other)) ∙ ap (λ (xs : List (List ℕ)). not (is_among w xs)) private);
  }

  -- and C$PED REJECT stands before neither where it stood before neither
  rejections : (a b : Head) (body : StmtTrees) → only_loop body ≡ Some (pair b inside) → some_rejection (alone (Do a body)) ≡ (has_some a.rejected || (has_some b.rejected || some_rejection inside)) || false
  rejections a b body one = λ i. (has_some a.rejected || or_tells has_rejection some_rejection b inside body refl (λ s rest. refl) (λ text. refl) one i) || false

  unrejected : some_rejection old ≡ false → some_rejection new ≡ false
  unrejected none =
      rejections h k its_body new_only
      ∙ (λ i. (has_some (rejected i) || (has_some (inner_rejected i) || some_rejection inside)) || false)
      ∙ (λ i. or_second (has_some g.rejected) (has_some d.rejected) (some_rejection inside) i || false)
      ∙ sym (rejections d g loop.body only) ∙ none

  pub stays_trusted_swap : TrustedLaw → ClearedLaw → IsTrusted t → IsTrusted (program_with (λ s. alone (Do h (change_only (λ f z. Do k z) loop.body))) l t)
  stays_trusted_swap law cleared trusted = law exchange t (program_with by l t) exchanged (leaves_alone cleared) unrejected trusted
