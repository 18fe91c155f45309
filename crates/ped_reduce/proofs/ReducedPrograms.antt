-- A DO whose body gets a list of names: the program means the same, and one that may be trusted stays so.
use Rattle.std.proofs.Common.{◌≡◌, ℕ, ◌+◌, List, [], ◌∷◌, ◌++◌, map, Bool, true, false, ◌&&◌, ◌||◌, Some, refl, sym, ap, ◌∙◌, subst, inr, arith, append-nil}
use Rattle.std.specs.List.{flat_map, list_any}
use Rattle.std.specs.Str.Lines.{lines}
use Rattle.std.proofs.lemmas.List.Concat.{flat_map-append}
use Rattle.ped_base.specs.Lists.{has_some, is_among}
use Rattle.ped_tree.specs.Tree.{CondTree, Head, StmtTree, StmtTrees, If, Do, no_stmts, more_stmts, ProgramTree}
use Rattle.ped_tree.specs.Accesses.{constant_names}
use Rattle.ped_tree.specs.NamesIn.{loop_variables, all_loop_variables, saved_in}
use Rattle.ped_tree.specs.Numbering.{statement_count}
use Rattle.ped_rules.specs.ped_symbols.specs.Kinds.{kind_in, names_of}
use Rattle.ped_rules.specs.ped_symbols.specs.NameRefusals.{IsValid}
use Rattle.ped_rules.specs.ped_symbols.specs.Sites.{private_site, stmt_sites, stmts_sites, decl_sites, program_sites, site_uses}
use Rattle.ped_rules.specs.ped_symbols.specs.Uses.{own_uses, cond_uses}
use Rattle.ped_rules.specs.ped_symbols.specs.declared.uses.Use.{Use}
use Rattle.ped_rules.specs.ped_symbols.proofs.RightUseLaws.Whole.{same_values, same_kinds, names_occur}
use Rattle.ped_rules.specs.ped_flow.specs.Questions.{LoopOf, IsContained, IsShownBehind}
use Rattle.ped_rules.specs.ped_flow.proofs.Truths.{untrue}
use Rattle.ped_rules.specs.ped_laws.proofs.FlowRunLaws.Stopping.{fitting_stops, loop_stops}
use Rattle.ped_rules.specs.ped_eval.specs.Loops.{sorted_once}
use Rattle.ped_rules.specs.ped_eval.specs.Outcomes.{bounds_of, setting_of, run_of, live_rows, Ended, outcome_of, Ends}
use Rattle.ped_rules.specs.ped_eval.specs.Runs.{Run, Ending, going, stopped, failed, run, run_all}
use Rattle.ped_rules.specs.ped_eval.specs.Scopes.{Setting, Scope}
use Rattle.ped_rules.specs.ped_store.specs.Cells.{Out}
use Rattle.ped_rules.specs.ped_store.specs.Stores.{Store, store_at_start, lines_in}
use Rattle.ped_rules.specs.ped_store.specs.Variables.{values_of}
use Rattle.ped_rules.specs.ped_store.specs.Races.{accesses, HasNoRace}
use Rattle.ped_rules.specs.ped_steps.specs.Replacing.{alone, program_with}
use Rattle.ped_rules.specs.ped_steps.specs.Runs.Gaps.{Gap, at_front, past, in_then, in_else, in_body, filled}
use Rattle.ped_rules.specs.ped_steps.specs.Runs.Meaning.{Keeps}
use Rattle.ped_rules.specs.ped_steps.proofs.OnePlace.{one_program}
use Rattle.ped_rules.specs.ped_steps.proofs.RunLaws.ReplacedTrees.{HasGap, program_gap}
use Rattle.ped_rules.specs.ped_loop_runs.specs.Exchanges.{Exchange, start_of, loop_of, IsExchanged, LeavesAlone}
use Rattle.ped_rules.specs.ped_loop_runs.specs.Unrejected.{some_rejection, IsTrusted}
use Rattle.ped_rules.specs.ped_loop_runs.specs.Writing.{writes_name, all_write, some_write_index}
use Rattle.ped_rules.specs.OnlyLoops.{on_loop}
use Rattle.ped_rules.proofs.HeadLaws.OneHead.{TrustedLaw, ClearedLaw}
use Rattle.ped_reduce.specs.Lists.{with_list}
use Rattle.ped_reduce.specs.Reducing.{with_listed, with_reduction}
use Rattle.ped_reduce.proofs.ListedComments.{listed_count, listed_variables, listed_sites, listed_stop, listed_rejection, listed_write, listed_write_index, listed_run}
use Rattle.ped_reduce.proofs.AlikeRuns.{do_alike, filled_run}

same_statement : (a b : StmtTree) → Some a ≡ Some b → a ≡ b
same_statement a b e = cc

-- the uses of names at the sites of statements
abbrev uses_in : StmtTrees → List Use
uses_in ts = flat_map site_uses (stmts_sites ts)

abbrev uses_of : StmtTree → List Use
uses_of s = flat_map site_uses (stmt_sites s)

more_uses : (s : StmtTree) (rest : StmtTrees) → uses_in (more_stmts s rest) ≡ uses_of s ++ uses_in rest
more_uses s rest = flat_map-append site_uses (stmt_sites s) (stmts_sites rest)

-- a DO uses what its header uses, and then its body
do_uses : (h : Head) (b : StmtTrees) → uses_of (Do h b) ≡ own_uses (Do h no_stmts) ++ (flat_map site_uses (private_site h.private) ++ uses_in b)
do_uses h b = ap (λ (us : List Use). own_uses (Do h no_stmts) ++ us) (flat_map-append site_uses (private_site h.private) (stmts_sites b))

if_uses : (c : CondTree) (a b : StmtTrees) → uses_of (If c a b) ≡ cond_uses c ++ (uses_in a ++ uses_in b)
if_uses c a b = ap (λ (us : List Use). cond_uses c ++ us) (flat_map-append site_uses (stmts_sites a) (stmts_sites b))

module _ (x y : StmtTree) (same : uses_of x ≡ uses_of y) where
  by_more : (s z : StmtTree) (rest more : StmtTrees) → uses_of s ≡ uses_of z → uses_in rest ≡ uses_in more → uses_in (more_stmts s rest) ≡ uses_in (more_stmts z more)
  by_more s z rest more e f = more_uses s rest ∙ (λ i. e i ++ f i) ∙ sym (more_uses z more)

  filled_uses : (gap : Gap) → uses_in (filled gap (alone x)) ≡ uses_in (filled gap (alone y))
  filled_uses (at_front rest) = by_more x y rest rest same refl
  filled_uses (past s gap) = by_more s s (filled gap (alone x)) (filled gap (alone y)) refl (filled_uses gap)
  filled_uses (in_then c gap b rest) =
      by_more (If c (filled gap (alone x)) b) (If c (filled gap (alone y)) b) rest rest
      (if_uses c (filled gap (alone x)) b ∙ (λ i. cond_uses c ++ (filled_uses gap i ++ uses_in b)) ∙ sym (if_uses c (filled gap (alone y)) b)) refl
  filled_uses (in_else c a gap rest) =
      by_more (If c a (filled gap (alone x))) (If c a (filled gap (alone y))) rest rest
      (if_uses c a (filled gap (alone x)) ∙ (λ i. cond_uses c ++ (uses_in a ++ filled_uses gap i)) ∙ sym (if_uses c a (filled gap (alone y)))) refl
  filled_uses (in_body h gap rest) =
      by_more (Do h (filled gap (alone x))) (Do h (filled gap (alone y))) rest rest
      (do_uses h (filled gap (alone x)) ∙ (λ i. own_uses (Do h no_stmts) ++ (flat_map site_uses (private_site h.private) ++ filled_uses gap i)) ∙ sym (do_uses h (filled gap (alone y)))) refl

-- programs with the same declarations whose statements use the same names, in order, have the same settings
module _ (t u : ProgramTree) (decls : t.decls ≡ u.decls) (uses : uses_in u.body ≡ uses_in t.body) where
  all_uses : flat_map site_uses (program_sites u) ≡ flat_map site_uses (program_sites t)
  all_uses =
      flat_map-append site_uses (flat_map decl_sites u.decls) (stmts_sites u.body)
      ∙ (λ i. flat_map site_uses (flat_map decl_sites (sym decls i)) ++ uses i)
      ∙ sym (flat_map-append site_uses (flat_map decl_sites t.decls) (stmts_sites t.body))

  names_same : (z : List ℕ) → is_among z (names_of u) ≡ is_among z (names_of t)
  names_same z = names_occur u z ∙ ap (λ (us : List Use). is_among z (map (λ (v : Use). v.name) us)) all_uses ∙ sym (names_occur t z)

  pub kinds_same : (z : List ℕ) → kind_in u z ≡ kind_in t z
  kinds_same = same_kinds t u decls names_same

  pub settings_same : setting_of u ≡ setting_of t
  settings_same = λ i. record { bounds = λ z. bounds_of (kinds_same z i); constants = same_values t u decls i; number = λ n. n }

  -- so a run that ends alike has the same outcome
  rows_same : (s : Store) → live_rows u s ≡ live_rows t s
  rows_same s = λ i. map (λ (z : List ℕ). record { name = z; values = values_of (bounds_of (kinds_same z i)) z s }) (sorted_once (flat_map saved_in (sym decls i)))

  pub outcome_same : (e : Ending) → outcome_of u e ≡ outcome_of t e
  outcome_same (going s) = ap (Ended (lines_in (s Out))) (rows_same s)
  outcome_same (stopped s) = ap (Ended (lines_in (s Out))) (rows_same s)
  outcome_same (failed fault n) = refl

module _ (t : ProgramTree) (s : ℕ) (loop : LoopOf t s) (names : List (List ℕ)) where
  abbrev listed : StmtTrees
  listed = with_list names loop.body

  abbrev old : StmtTree
  old = Do loop.head loop.body

  abbrev new : StmtTree
  new = Do loop.head listed

  pub reduced_is : with_reduction t s names ≡ program_with (λ z. alone new) s t
  reduced_is = one_program (on_loop (with_listed names)) (λ z. alone new) s t (λ g e. ap (on_loop (with_listed names)) (same_statement g old (sym e ∙ loop.is)))

  abbrev u : ProgramTree
  u = program_with (λ z. alone new) s t

  gap : HasGap (λ z. alone new) s old 1 t.body u.body
  gap = program_gap (λ z. alone new) s old t loop.is

  count_same : statement_count new ≡ statement_count old
  count_same = λ i. listed_count names loop.body i + 1

  variables_same : loop_variables new ≡ loop_variables old
  variables_same = λ i. loop.head.variable ∷ listed_variables names loop.body i

  statement_uses_same : uses_of new ≡ uses_of old
  statement_uses_same =
      do_uses loop.head listed
      ∙ (λ i. own_uses (Do loop.head no_stmts) ++ (flat_map site_uses (private_site loop.head.private) ++ flat_map site_uses (listed_sites names loop.body i)))
      ∙ sym (do_uses loop.head loop.body)

  uses_same : uses_in u.body ≡ uses_in t.body
  uses_same = ap uses_in gap.new_is ∙ filled_uses new old statement_uses_same gap.gap ∙ sym (ap uses_in gap.old_is)

  -- the DO does the same
  do_same : (p : Setting) (n : ℕ) (scope : Scope) → run p new n scope ≡ run p old n scope
  do_same p n scope =
      do_alike p n scope loop.head listed loop.body (listed_variables names loop.body) (λ f. run_all p listed (n + 1) (f ∷ scope)) (λ f. run_all p loop.body (n + 1) (f ∷ scope))
      (λ i f. listed_run p names loop.body (n + 1) (f ∷ scope) i)

  body_same : (p : Setting) → run_all p u.body 1 [] ≡ run_all p t.body 1 []
  body_same p =
      ap (λ (ts : StmtTrees). run_all p ts 1 []) gap.new_is
      ∙ filled_run p new old count_same variables_same (do_same p) gap.gap 1 []
      ∙ sym (ap (λ (ts : StmtTrees). run_all p ts 1 []) gap.old_is)

  run_same : (data_bytes : List ℕ) → run_of u data_bytes ≡ run_of t data_bytes
  run_same data_bytes =
      (λ i. run_all (settings_same t u refl uses_same i) u.body 1 [] (store_at_start (lines data_bytes)))
      ∙ (λ i. body_same (setting_of t) i (store_at_start (lines data_bytes)))

  -- the program means the same
  pub reduced_keeps : Keeps t u
  reduced_keeps = record {
    saved = refl;
    same = λ data_bytes free. outcome_same t u refl uses_same (run_of u data_bytes).ending ∙ ap (λ (r : Run). outcome_of t r.ending) (run_same data_bytes);
    race_free = λ data_bytes free. subst (λ (r : Run). Ends r.ending × HasNoRace (accesses r.acts)) (sym (run_same data_bytes)) free;
  }

  abbrev exchange : Exchange
  exchange = record { gap = gap.gap; front = no_stmts; head = loop.head; body = loop.body; new = alone new }

  module _ (valid : IsValid t) (contained : IsContained t s) where
    exchanged : IsExchanged exchange t u
    exchanged = record {
      old_body = gap.old_is;
      comments = no_stmts;
      uncounted = refl;
      new_body = gap.new_is;
      constants = refl;
      saved = refl;
      unstopped = let stops = listed_stop names loop.body ∙ loop_stops t s loop (fitting_stops t valid.fits) in λ i. stops i || false;
    }

    only : (b : StmtTrees) (w : List ℕ) → is_among w (all_loop_variables (alone (Do loop.head b))) ≡ is_among w (loop_variables (Do loop.head b))
    only b w = ap (is_among w) (append-nil (loop_variables (Do loop.head b)))

    same_variables : (w : List ℕ) → is_among w (all_loop_variables (alone new)) ≡ is_among w (all_loop_variables (alone old))
    same_variables w = λ i. is_among w (variables_same i ++ [])

    stands_at : loop_of exchange ≡ s
    stands_at = let n = gap.number in omega (arith, n)

    unshown : (w : List ℕ) → is_among w (all_loop_variables (alone old)) ≡ true → IsShownBehind t (loop_of exchange) w → ⊥
    unshown w among shown = (contained w (record { loop = loop; among = sym (only loop.body w) ∙ among })).1 (inr (subst (λ (n : ℕ). IsShownBehind t n w) stands_at shown))

    writes_same : (w : List ℕ) → all_write (constant_names t.decls) w (alone new) ≡ all_write (constant_names t.decls) w (alone old)
    writes_same w = λ i. (list_any (writes_name (constant_names t.decls) w) loop.head.private || listed_write (constant_names t.decls) w names loop.body i) || false

    indices_same : some_write_index (constant_names t.decls) (alone new) ≡ some_write_index (constant_names t.decls) (alone old)
    indices_same = λ i.
        ((loop.head.parallel && list_any (λ w. listed_write (constant_names t.decls) w names loop.body i) (variables_same i)) || listed_write_index (constant_names t.decls) names loop.body i) || false

    leaves_alone : ClearedLaw → LeavesAlone exchange t
    leaves_alone cleared = record {
      variables = λ w e. same_variables w ∙ e;
      further = λ w now before. untrue (sym before ∙ (sym (same_variables w) ∙ now));
      unshown = unshown;
      writes = λ w none. writes_same w ∙ none;
      unwritten = λ none. indices_same ∙ none;
      leaves = λ w other keeps.
          let none = sym (only listed w) ∙ other in
          let before = sym (only loop.body w) ∙ (sym (same_variables w) ∙ other) in
          ap (λ (b : Bool). b && true) (cleared (constant_names t.decls) w loop.head loop.body (start_of exchange) before ∙ sym (cleared (constant_names t.decls) w loop.head listed (start_of exchange) none)) ∙ keeps;
    }

    rejections_same : some_rejection (alone new) ≡ some_rejection (alone old)
    rejections_same = λ i. (has_some loop.head.rejected || listed_rejection names loop.body i) || false

    -- and it may be trusted as the old one
    pub reduced_trusted : TrustedLaw → ClearedLaw → IsTrusted t → IsTrusted u
    reduced_trusted law cleared trusted = law exchange t u exchanged (leaves_alone cleared) (λ e. rejections_same ∙ e) trusted
