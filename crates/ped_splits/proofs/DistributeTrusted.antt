-- A program in which a DO is taken apart: if the old one may be trusted, it may be trusted.
use Rattle.std.proofs.Common.{◌≡◌, ℕ, zero, suc, ◌+◌, ◌<◌, ◌≤◌, List, [], ◌∷◌, length, map, slice_index_or, Bool, true, false, not, ◌&&◌, ◌||◌, inl, inr, refl, sym, ap, subst, ◌∙◌, append-nil, arith}
use Rattle.std.specs.List.{list_any, range_with_len}
use Rattle.std.proofs.lemmas.Bool.{and_parts, or_parts, cases_eq}
use Rattle.std.proofs.lemmas.List.FromFn.{length-range_with_len}
use Rattle.ped_base.specs.Lists.{has_some, is_among, is_same_text}
use Rattle.ped_tree.proofs.NameLaws.Collected.{among_append}
use Rattle.ped_tree.specs.Accesses.{constant_names}
use Rattle.ped_tree.specs.NamesIn.{all_loop_variables, loop_variables}
use Rattle.ped_tree.specs.Numbering.{statement_count}
use Rattle.ped_tree.specs.Tree.{Do, Head, ProgramTree, StmtTree, StmtTrees, more_stmts, no_stmts}
use Rattle.ped_rules.proofs.HeadLaws.OneHead.{ClearedLaw, TrustedLaw}
use Rattle.ped_rules.specs.Rules.{is_parallel}
use Rattle.ped_rules.specs.ped_loop_runs.specs.Exchanges.{Exchange, IsExchanged, LeavesAlone, loop_of, start_of}
use Rattle.ped_rules.specs.ped_loop_runs.specs.Unrejected.{IsTrusted, has_rejection, some_rejection}
use Rattle.ped_rules.specs.ped_loop_runs.specs.Writing.{all_write, some_write_index, writes, writes_index, writes_name}
use Rattle.ped_rules.specs.ped_steps.proofs.RunLaws.ReplacedTrees.{HasGap, program_gap}
use Rattle.ped_rules.specs.ped_steps.specs.Replacing.{alone, program_with}
use Rattle.ped_rules.specs.ped_flow.proofs.Truths.{untrue}
use Rattle.ped_rules.specs.ped_flow.specs.Questions.{IsContained, IsShownBehind, LoopOf}
use Rattle.ped_rules.specs.ped_flow.specs.Summaries.{summary_of, summary_of_all}
use Rattle.ped_rules.specs.ped_laws.proofs.FlowRunLaws.Stopping.{fitting_stops, loop_stops}
use Rattle.ped_rules.specs.ped_laws.specs.FlowRuns.Covering.{has_stop, some_stop}
use Rattle.ped_rules.specs.ped_symbols.specs.NameRefusals.{IsValid}
use Rattle.ped_splits.specs.Units.{units, arrows}
use Rattle.ped_splits.specs.PiBlocks.{ArePiBlocks}
use Rattle.ped_splits.specs.Distributing.{units_at, loops_of, distributed}
use Rattle.ped_splits.proofs.PiBlockLaws.{In, all_placed, through}
use Rattle.ped_splits.proofs.PiBlockSizes.{width}
use Rattle.ped_splits.proofs.DistributeAnswers.{distributed_program}
use Rattle.ped_splits.proofs.Partitions.{flat}
use Rattle.ped_splits.proofs.UnitTests.{only_comment, some_unit, joined_none, joined_some, loops_none, loops_first, loops_some}

in_range : (a n i : ℕ) → a ≤ i → i < a + n → In i (range_with_len a n)
in_range a zero i le h = absurd (omega (arith, le, h))
in_range a (suc n) i le h = elim (cases_eq i a) [
  | inl e ↦ inl e
  | inr d ↦ inr (in_range (a + 1) n i (omega (arith, le, d)) (omega (arith, h)))
]

-- each unit stands in a block
pub each_placed : (t : ProgramTree) (s : ℕ) (h : Head) (body : StmtTrees) (found : List (List ℕ)) → ArePiBlocks t s h body found → (i : ℕ) → i < length (units body) → In i (flat found)
each_placed t s h body found are i inside =
    let n = length are.reach in
    let long = length-range_with_len 0 n in
    let wide = width t s h body found are in
    subst (λ (bs : List (List ℕ)). In i (flat bs)) (sym are.order)
    (all_placed are.reach (through (arrows t s h body are.edges) are.reach are.closed) n (range_with_len 0 n) (omega (arith, long)) i (in_range 0 n i (omega arith) (omega (arith, inside, wide))))

none_first : (a b : Bool) → a || b ≡ false → a ≡ false
none_first a b h = (or_parts a b h).0

module _ (t : ProgramTree) (valid : IsValid t) (s : ℕ) (loop : LoopOf t s) (found : List (List ℕ)) (are : ArePiBlocks t s loop.head loop.body found) (many : 2 ≤ length found) (serial : is_parallel loop.head loop.body ≡ false) (contained : IsContained t s) where
  abbrev d : Head
  d = loop.head

  abbrev body : StmtTrees
  body = loop.body

  abbrev new : StmtTrees
  new = loops_of found loop.head loop.body

  abbrev u : ProgramTree
  u = program_with (λ z. loops_of found loop.head loop.body) s t

  abbrev cs : List (List ℕ)
  cs = constant_names t.decls

  gap : HasGap (λ z. loops_of found loop.head loop.body) s (Do loop.head loop.body) 1 t.body u.body
  gap = program_gap (λ z. loops_of found loop.head loop.body) s (Do loop.head loop.body) t loop.is

  abbrev exchange : Exchange
  exchange = record { gap = gap.gap; front = no_stmts; head = loop.head; body = loop.body; new = loops_of found loop.head loop.body }

  stops : some_stop body ≡ false
  stops = loop_stops t s loop (fitting_stops t valid.fits)

  quiet_stop : (z : StmtTree) → statement_count z ≡ 0 → has_stop z ≡ false
  quiet_stop = only_comment (λ z. has_stop z ≡ false) (λ text. refl)

  exchanged : IsExchanged exchange t u
  exchanged = record {
    old_body = gap.old_is;
    comments = no_stmts;
    uncounted = refl;
    new_body = gap.new_is;
    constants = refl;
    saved = refl;
    unstopped = loops_none some_stop has_stop refl (λ z rest. refl) quiet_stop d body found (λ b. joined_none some_stop has_stop refl (λ z rest. refl) quiet_stop body b stops);
  }

  -- the variables are the same
  module _ (w : List ℕ) where
    abbrev among : StmtTrees → Bool
    among ts = is_among w (all_loop_variables ts)

    abbrev among_one : StmtTree → Bool
    among_one z = is_among w (loop_variables z)

    among_more : (z : StmtTree) (rest : StmtTrees) → is_among w (all_loop_variables (more_stmts z rest)) ≡ is_among w (loop_variables z) || is_among w (all_loop_variables rest)
    among_more z rest = among_append w (loop_variables z) (all_loop_variables rest)

    quiet_variable : (z : StmtTree) → statement_count z ≡ 0 → is_among w (loop_variables z) ≡ false
    quiet_variable = only_comment (λ z. is_among w (loop_variables z) ≡ false) (λ text. refl)

    only_loop : is_among w (all_loop_variables (alone (Do d body))) ≡ is_among w (loop_variables (Do d body))
    only_loop = ap (is_among w) (append-nil (loop_variables (Do d body)))

    variables_kept : is_among w (all_loop_variables (alone (Do d body))) ≡ true → is_among w (all_loop_variables new) ≡ true
    variables_kept e = by (is_same_text w d.variable) refl
      where
        either : (is_same_text w d.variable || is_among w (all_loop_variables body)) ≡ true
        either = sym only_loop ∙ e

        by : (b : Bool) → is_same_text w d.variable ≡ b → is_among w (all_loop_variables new) ≡ true
        by true same = loops_first among among_one refl among_more quiet_variable d body found (omega (arith, many)) (λ b. ap (λ (x : Bool). x || is_among w (all_loop_variables (units_at body b))) same)
        by false other =
            let inside : is_among w (all_loop_variables body) ≡ true = sym (ap (λ (x : Bool). x || is_among w (all_loop_variables body)) other) ∙ either in
            let i = some_unit among among_one refl among_more quiet_variable body inside in
            loops_some among among_one refl among_more quiet_variable d body found i.0 (each_placed t s d body found are i.0 i.1)
            (λ b here. (λ j. other j || joined_some among among_one refl among_more quiet_variable body b i.0 here i.2 j))

    none_new : is_among w (loop_variables (Do d body)) ≡ false → (b : List ℕ) → is_among w (loop_variables (Do d (units_at body b))) ≡ false
    none_new e b =
        let parts = or_parts (is_same_text w d.variable) (is_among w (all_loop_variables body)) e in
        λ i. parts.0 i || joined_none among among_one refl among_more quiet_variable body b parts.1 i

    no_further : is_among w (all_loop_variables (alone (Do d body))) ≡ false → is_among w (all_loop_variables new) ≡ false
    no_further e = loops_none among among_one refl among_more quiet_variable d body found (none_new (sym only_loop ∙ e))

    none_old : is_among w (all_loop_variables new) ≡ false → is_among w (loop_variables (Do d body)) ≡ false
    none_old e = by (is_among w (all_loop_variables (alone (Do d body)))) refl
      where
        by : (b : Bool) → is_among w (all_loop_variables (alone (Do d body))) ≡ b → is_among w (loop_variables (Do d body)) ≡ false
        by true there = untrue (sym e ∙ variables_kept there)
        by false there = sym only_loop ∙ there

    -- they write no other name
    quiet_write : (z : StmtTree) → statement_count z ≡ 0 → writes cs w z ≡ false
    quiet_write = only_comment (λ z. writes cs w z ≡ false) (λ text. refl)

    writes_none : all_write cs w (alone (Do d body)) ≡ false → all_write cs w new ≡ false
    writes_none none =
        let old = or_parts (list_any (writes_name cs w) d.private) (all_write cs w body) (none_first _ _ none) in
        loops_none (all_write cs w) (writes cs w) refl (λ z rest. refl) quiet_write d body found (λ b. (λ i. old.0 i || joined_none (all_write cs w) (writes cs w) refl (λ z rest. refl) quiet_write body b old.1 i))

  stands_at : loop_of exchange ≡ s
  stands_at = let n = gap.number in omega (arith, n)

  unshown : (w : List ℕ) → is_among w (all_loop_variables (alone (Do d body))) ≡ true → IsShownBehind t (loop_of exchange) w → ⊥
  unshown w there shown = (contained w (record { loop = loop; among = sym (only_loop w) ∙ there })).1 (inr (subst (λ (n : ℕ). IsShownBehind t n w) stands_at shown))

  quiet_index : (z : StmtTree) → statement_count z ≡ 0 → writes_index cs z ≡ false
  quiet_index = only_comment (λ z. writes_index cs z ≡ false) (λ text. refl)

  indices_none : some_write_index cs (alone (Do d body)) ≡ false → some_write_index cs new ≡ false
  indices_none none =
      let old = or_parts (d.parallel && list_any (λ w. all_write cs w body) (d.variable ∷ all_loop_variables body)) (some_write_index cs body) (none_first _ _ none) in
      loops_none (some_write_index cs) (writes_index cs) refl (λ z rest. refl) quiet_index d body found
      (λ b. (λ i. (serial i && list_any (λ w. all_write cs w (units_at body b)) (d.variable ∷ all_loop_variables (units_at body b))) || joined_none (some_write_index cs) (writes_index cs) refl (λ z rest. refl) quiet_index body b old.1 i))

  -- the first of the new DO loops leaves a name as it is where all of them do
  first_keeps : (w : List ℕ) (n : ℕ) (bs : List (List ℕ)) → 1 ≤ length bs → (summary_of_all cs w (loops_of bs d body) n).keeps ≡ true → (b : List ℕ) × ((summary_of cs w (Do d (units_at body b)) n).keeps ≡ true)
  first_keeps w n [] long k = absurd (omega (arith, long))
  first_keeps w n (b ∷ bs) long k =
      (b, (and_parts (summary_of cs w (Do d (units_at body b)) n).keeps (summary_of_all cs w (loops_of bs d body) (n + statement_count (Do d (units_at body b)))).keeps k).0)

  leaves_alone : ClearedLaw → LeavesAlone exchange t
  leaves_alone cleared = record {
    variables = λ w e. variables_kept w e;
    further = λ w there none. untrue (sym (no_further w none) ∙ there);
    unshown = λ w there shown. unshown w there shown;
    writes = λ w none. writes_none w none;
    unwritten = indices_none;
    leaves = λ w other keeps.
        let outside : is_among w (loop_variables (Do d body)) ≡ false = none_old w other in
        let k = first_keeps w (start_of exchange) found (omega (arith, many)) keeps in
        let unprivate : not (is_among w d.private) ≡ true = sym (cleared cs w d (units_at body k.0) (start_of exchange) (none_new w outside k.0)) ∙ k.1 in
        (λ i. (cleared cs w d body (start_of exchange) outside ∙ unprivate) i && true);
  }

  quiet_rejection : (z : StmtTree) → statement_count z ≡ 0 → has_rejection z ≡ false
  quiet_rejection = only_comment (λ z. has_rejection z ≡ false) (λ text. refl)

  unrejected : some_rejection (alone (Do d body)) ≡ false → some_rejection new ≡ false
  unrejected none =
      let old = or_parts (has_some d.rejected) (some_rejection body) (none_first _ _ none) in
      loops_none some_rejection has_rejection refl (λ z rest. refl) quiet_rejection d body found (λ b. (λ i. old.0 i || joined_none some_rejection has_rejection refl (λ z rest. refl) quiet_rejection body b old.1 i))

  pub stays_trusted_distributed : TrustedLaw → ClearedLaw → IsTrusted t → IsTrusted (distributed t s found)
  stays_trusted_distributed law cleared trusted =
      subst IsTrusted (distributed_program t s found loop.head loop.body (loops_of found loop.head loop.body) loop.is refl) (law exchange t u exchanged (leaves_alone cleared) unrejected trusted)
