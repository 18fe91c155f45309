-- A program in which an iteration of a DO is peeled off keeps its meaning.
use Rattle.ped_base.specs.Lists.{is_among, is_same_text}
use Rattle.ped_rules.proofs.RightSteps.{right_step, step_parts}
use Rattle.ped_rules.specs.Spans.{Values}
use Rattle.ped_rules.specs.ped_loop_runs.proofs.LoopLaws.OneForOneNames.{variables_unnamed}
use Rattle.ped_rules.specs.ped_loop_runs.proofs.LoopLaws.OneForOneStands.{run_alone}
use Rattle.ped_rules.specs.ped_loop_runs.proofs.TidyLaws.TidyPathsGaps.{followed_count}
use Rattle.ped_rules.specs.ped_loop_runs.proofs.TidyLaws.TidyReferencesGaps.{of_first}
use Rattle.ped_rules.specs.ped_loop_runs.proofs.PastingLaws.CountedNumbers.{count_alike, told_back}
use Rattle.ped_rules.specs.ped_loop_runs.proofs.PastingLaws.KeptMeaning.{exchange_keeps, wanted_suit}
use Rattle.ped_rules.specs.ped_loop_runs.proofs.PastingLaws.OneStatement.{gives_way}
use Rattle.ped_rules.specs.ped_loop_runs.specs.Executions.{IsExecuted}
use Rattle.ped_rules.specs.ped_loop_runs.specs.Meaning.{IsExchange, RaceFreeInstead}
use Rattle.ped_rules.specs.ped_loop_runs.specs.Numbers.{counted_by, told_by}
use Rattle.ped_rules.specs.ped_loop_runs.specs.Pasting.{CountAlike, DoInstead, StandInstead}
use Rattle.ped_rules.specs.ped_loop_runs.specs.Statements.{GivesWay}
use Rattle.ped_rules.specs.ped_bodies.proofs.BodyLaws.Rewritings.{may_give_way}
use Rattle.ped_rules.specs.ped_bodies.specs.Rewriting.{HaveIncrements, MayBeRewritten, OfHeads}
use Rattle.ped_rules.specs.ped_steps.proofs.RunLaws.ProgramParts.{part_at}
use Rattle.ped_rules.specs.ped_steps.proofs.RunLaws.RunCells.{EachDos}
use Rattle.ped_rules.specs.ped_steps.proofs.RunLaws.SparedVariables.{IsUnassigned, variables_unassigned}
use Rattle.ped_rules.specs.ped_steps.proofs.RunLaws.SubstitutedShapes.{counts_kept}
use Rattle.ped_rules.specs.ped_steps.specs.Replacing.{alone, program_with}
use Rattle.ped_rules.specs.ped_steps.specs.Runs.Gaps.{Gap, at_front, filled, in_body, in_else, in_then, number_at, past}
use Rattle.ped_rules.specs.ped_steps.specs.Runs.Meaning.{Keeps}
use Rattle.ped_rules.specs.ped_steps.specs.Runs.Renumbering.{renumbered}
use Rattle.ped_rules.specs.ped_affine.specs.Assigned.{assigned_in_all}
use Rattle.ped_rules.specs.ped_flow.proofs.Answering.{loop_fits}
use Rattle.ped_rules.specs.ped_flow.specs.Questions.{IsContained, LoopOf}
use Rattle.ped_rules.specs.ped_laws.proofs.ActLaws.Renamings.{or_left}
use Rattle.ped_rules.specs.ped_laws.proofs.ActLaws.SameCells.{text_itself}
use Rattle.ped_rules.specs.ped_laws.proofs.FlowRunLaws.Stopping.{fitting_stops, loop_stops}
use Rattle.ped_rules.specs.ped_laws.specs.Acts.Pieces.{StandsFor}
use Rattle.ped_rules.specs.ped_laws.specs.Acts.Sets.{wants}
use Rattle.ped_rules.specs.ped_laws.specs.Runs.Replaying.{Replays, finish_of, goes_on}
use Rattle.ped_rules.specs.ped_laws.specs.Runs.Showing.{shown_at_end}
use Rattle.ped_rules.specs.ped_eval.specs.Outcomes.{IsRaceFree, bounds_of, setting_of}
use Rattle.ped_rules.specs.ped_eval.specs.Runs.{Run, run, run_all}
use Rattle.ped_rules.specs.ped_eval.specs.Scopes.{Scope, Setting}
use Rattle.ped_rules.specs.ped_store.specs.Acts.{Act}
use Rattle.ped_rules.specs.ped_store.specs.Stores.{Store, store_at_start}
use Rattle.ped_symbolic.specs.Substitution.{substituted}
use Rattle.ped_symbolic.specs.Arithmetic.{literal}
use Rattle.ped_rules.specs.ped_symbols.proofs.RightUseLaws.Whole.{others_unvalued, same_values}
use Rattle.ped_rules.specs.ped_symbols.specs.Kinds.{kind_in, table_of}
use Rattle.ped_rules.specs.ped_symbols.specs.NameRefusals.{IsValid}
use Rattle.ped_rules.specs.ped_symbols.specs.RightUses.RightLoops.{is_step, step_is_right, steps_are_right, stmt_steps_are_right}
use Rattle.ped_reindex.proofs.PeelCounts.{HasSpan, has_span}
use Rattle.ped_reindex.proofs.PeelFront.{settled_count, settled_gap, settled_kinds, settled_new, settled_run, settled_saved, settled_setting, settled_variables}
use Rattle.ped_reindex.proofs.PeelKinds.{peeled_kinds}
use Rattle.ped_reindex.proofs.PeelMeets.{peeled_races}
use Rattle.ped_reindex.proofs.PeelNumbers.{copied, copy_at, copy_counts, its_numbers, its_pairs, loop_at, loop_counts, new_number, numbers_fit}
use Rattle.ped_reindex.proofs.PeelRaces.{AreRaceFree, exchanged_races}
use Rattle.ped_reindex.proofs.PeelRuns.{IsPeeledRun, copy_of, peeled_run}
use Rattle.ped_reindex.proofs.PeelStands.{does_instead, stands_instead}
use Rattle.ped_reindex.proofs.PeelTrusted.{left_head, peeled_is, same_variables}
use Rattle.ped_reindex.specs.Peeling.{Peeled, has_far, peeled, peeled_of, with_peeled}
use Rattle.ped_rules.specs.Settling.{behind_comments, settled}
use Rattle.ped_tree.specs.Constants.ConstantExpressions.{constant_value}
use Rattle.ped_tree.specs.Constants.NamedConstants.{value_named}
use Rattle.ped_tree.specs.Grammar.Fits.{at_body, begins_with_statement, decls_fit, stmts_fit}
use Rattle.ped_tree.specs.NamesIn.{all_loop_variables, loop_variables, saved_in}
use Rattle.ped_tree.specs.Numbering.{statement_count, statements_count}
use Rattle.ped_tree.specs.Tree.{Assign, Comment, Do, Head, If, Print, ProgramTree, Read, StmtTree, StmtTrees, Stop, more_stmts, no_stmts}
use Rattle.std.proofs.Common.{Bool, IsTrue, List, None, Option, Some, [], ap, append-nil, arith, false, pos, refl, subst, sym, true, ℕ, ℤ, ◌&&◌, ◌++◌, ◌+◌, ◌<◌, ◌||◌, ◌∙◌, ◌≡◌, ◌≤◌, ◌⊎◌}
use Rattle.std.proofs.lemmas.Bool.{and_parts}
use Rattle.std.specs.List.{flat_map}
use Rattle.std.specs.Str.Lines.{lines}

-- increments in a valid program are constants with values
step_valued : (o : Option ℤ) → is_step o ≡ true → (k : ℤ) × (o ≡ Some k)
step_valued (Some n) h = (n, refl)
step_valued None h = absurd cc

mutual
  has_increments : (values : Values) (s : StmtTree) → stmt_steps_are_right values s ≡ true → OfHeads (λ d. (k : ℤ) × (constant_value values d.step ≡ Some k)) s
  has_increments values (Assign left right) h = tt
  has_increments values (If c a b) h = let both = and_parts (steps_are_right values a) (steps_are_right values b) h in (have_increments values a both.0, have_increments values b both.1)
  has_increments values (Do d body) h = let both = and_parts (step_is_right values d.step) (steps_are_right values body) h in (step_valued (constant_value values d.step) both.0, have_increments values body both.1)
  has_increments values (Print items) h = tt
  has_increments values (Read items) h = tt
  has_increments values Stop h = tt
  has_increments values (Comment text) h = tt

  have_increments : (values : Values) (ts : StmtTrees) → steps_are_right values ts ≡ true → HaveIncrements values ts
  have_increments values no_stmts h = tt
  have_increments values (more_stmts s rest) h = let both = and_parts (stmt_steps_are_right values s) (steps_are_right values rest) h in (has_increments values s both.0, have_increments values rest both.1)

-- what holds of each DO of the program holds of those in a gap
in_gap : (Q : ℕ → Head → StmtTrees → Type 0) (gap : Gap) (old : StmtTrees) (n : ℕ) → EachDos Q (filled gap old) n → EachDos Q old (number_at gap n)
in_gap Q (at_front rest) old n h = of_first Q old rest n h
in_gap Q (past s gap) old n h = in_gap Q gap old (n + statement_count s) h.1
in_gap Q (in_then c gap b rest) old n h = in_gap Q gap old (n + 1) h.0.0
in_gap Q (in_else c a gap rest) old n h = in_gap Q gap old (n + 1 + statements_count a) h.0.1
in_gap Q (in_body d gap rest) old n h = in_gap Q gap old (n + 1) h.0.1

module _ (t : ProgramTree) (valid : IsValid t) (s : ℕ) (loop : LoopOf t s) (last : Bool) (p : Peeled) (found : peeled_of last (table_of t).constants loop.head ≡ Some p) (new_valid : IsValid (peeled t s last p)) (near : has_far (Some p) ≡ false)
    (contained : IsContained t s) (serial : loop.head.parallel ≡ false) (private : loop.head.private ≡ []) where
  abbrev o : Setting
  o = setting_of t

  abbrev d : Head
  d = loop.head

  abbrev body : StmtTrees
  body = loop.body

  abbrev sized : ℕ
  sized = statements_count loop.body

  abbrev all : ℕ
  all = statements_count t.body

  abbrev old : StmtTrees
  old = alone (Do loop.head loop.body)

  abbrev plain_new : StmtTrees
  plain_new = with_peeled last p loop.head loop.body

  abbrev raw : ProgramTree
  raw = program_with (λ z. with_peeled last p loop.head loop.body) s t

  abbrev u : ProgramTree
  u = settled (program_with (λ z. with_peeled last p loop.head loop.body) s t)

  way : GivesWay (λ z. with_peeled last p loop.head loop.body) s (Do loop.head loop.body) t
  way = gives_way (λ z. with_peeled last p loop.head loop.body) s (Do loop.head loop.body) t loop.is

  abbrev new : StmtTrees
  new = settled_new way.gap (with_peeled last p loop.head loop.body)

  abbrev counted : ℕ → ℕ
  counted = counted_by (its_numbers last s (statements_count loop.body) (statements_count t.body))

  abbrev q : Setting
  q = renumbered (counted_by (its_numbers last s (statements_count loop.body) (statements_count t.body))) (setting_of t)

  its_valid : IsValid u
  its_valid = subst IsValid (peeled_is t valid s loop last p) new_valid

  room : s + sized ≤ all
  room = loop_fits t s d body loop.is

  low_room : s ≤ all
  low_room = let fits_in = room in omega (arith, fits_in)

  span : HasSpan (setting_of t).constants loop.head last p
  span = has_span (setting_of t).constants loop.head last p found

  moves : span.m3 ≡ pos 0 → ⊥
  moves = (step_parts span.m3 (subst (λ (v : Option ℤ). IsTrue (is_step v)) span.step_is (right_step t s d body valid loop.is))).0

  -- names stand for the same, and both programs are run by one setting, but for numbers
  kinds : (y : List ℕ) → kind_in u y ≡ kind_in t y
  kinds y = settled_kinds raw y ∙ peeled_kinds t valid s loop last p span y

  setting : setting_of u ≡ setting_of t
  setting = settled_setting raw ∙ (λ i. record { bounds = λ y. bounds_of (peeled_kinds t valid s loop last p span y i); constants = same_values t raw refl i; number = λ n. n })

  same_setting : renumbered counted (setting_of u) ≡ q
  same_setting = ap (renumbered counted) setting

  -- the variable of the DO is no named constant, and its body doesn't assign it
  unnamed : value_named (setting_of t).constants d.variable ≡ None
  unnamed = others_unvalued t d.variable (variables_unnamed t valid s loop d.variable (or_left (is_same_text d.variable d.variable) (is_among d.variable (all_loop_variables body)) (text_itself d.variable)))

  unassigned : is_among d.variable (assigned_in_all body) ≡ false
  unassigned = (in_gap (IsUnassigned t (kind_in t)) way.gap old 1 (subst (λ (ts : StmtTrees). EachDos (IsUnassigned t (kind_in t)) ts 1) way.old (variables_unassigned t valid))).0.0.1

  may : MayBeRewritten (substituted d.variable (literal p.value)) (setting_of t).constants body
  may = may_give_way (setting_of t).constants d.variable unnamed (literal p.value) body unassigned
      (have_increments (setting_of t).constants body (and_parts (step_is_right (setting_of t).constants d.step) (steps_are_right (setting_of t).constants body) (part_at t valid s (Do d body) loop.is).steps).1)

  -- numbers
  loop_counted : (k : ℕ) → k < sized + 1 → counted (loop_at last s sized + k) ≡ s + k
  loop_counted k less = loop_counts last s sized all room k less

  copy_counted : (k : ℕ) → k < sized → counted (copy_at last s sized + k) ≡ copied all (s + 1 + k)
  copy_counted k less = copy_counts last s sized all room k less

  own_place : counted (loop_at last s sized) ≡ s
  own_place = (let one : loop_at last s sized ≡ loop_at last s sized + 0 = omega arith in let two : s + 0 ≡ s = omega arith in ap counted one ∙ loop_counted 0 (omega arith) ∙ two)

  new_numbers : (x : ℕ) → s ≤ x → x < s + (sized + 1 + sized) → ((s ≤ counted x) × (counted x < s + (sized + 1))) ⊎ (all < counted x)
  new_numbers x low high = new_number last s sized all room x low high

  one_run : (r : Setting) (scope : Scope) (v : Store) → run_all r new s scope v ≡ run_all r plain_new s scope v
  one_run r scope v = settled_run r way.gap plain_new s scope v

  abbrev fresh : Scope → Store → List Act
  fresh scope v = (run_all q plain_new s scope v).acts

  abbrev start : List ℕ → Store
  start data_bytes = store_at_start (lines data_bytes)

  abbrev count : ℕ
  count = statements_count (alone (Do loop.head loop.body))

  module _ (data_bytes : List ℕ) (free : IsRaceFree t data_bytes) where
    module _ (scope : Scope) (front behind : List Act) (st : Store) (executed : IsExecuted o t (start data_bytes) s count scope front (run_all o old s scope st).acts behind st) (goes : finish_of (run_all o old s scope st).ending ≡ goes_on) where
      executed_alone : IsExecuted o t (start data_bytes) s count scope front (run o (Do loop.head loop.body) s scope st).acts behind st
      executed_alone = subst (λ (r : Run). IsExecuted o t (start data_bytes) s count scope front r.acts behind st) (run_alone o (Do loop.head loop.body) s scope st) executed

      goes_alone : finish_of (run o (Do loop.head loop.body) s scope st).ending ≡ goes_on
      goes_alone = ap (λ (r : Run). finish_of r.ending) (sym (run_alone o (Do loop.head loop.body) s scope st)) ∙ goes

      its_run : IsPeeledRun t (counted_by (its_numbers last s (statements_count loop.body) (statements_count t.body))) last p loop.head loop.body s (loop_at last s (statements_count loop.body)) (copy_at last s (statements_count loop.body)) (statements_count t.body) scope st
      its_run = peeled_run t counted last p d body s (loop_at last s sized) (copy_at last s sized) all span moves near serial private loop_counted copy_counted may unnamed scope st goes_alone

      replayed : Replays (run_all q new s scope) (fresh scope st) goes_on
      replayed =
          subst (λ (f : Store → Run). Replays f (fresh scope st) goes_on) (sym (λ i v. one_run q scope v i))
          (does_instead t valid counted last p s loop contained serial private new_numbers low_room data_bytes free.0 scope front behind st executed_alone goes_alone its_run)

      stood : StandsFor (record { agreed = wants (shown_at_end t) ((run_all o old s scope st).acts ++ behind); old = (run_all o old s scope st).acts; new = fresh scope st }) (wants (shown_at_end t) behind) st
      stood =
          subst (λ (r : Run). StandsFor (record { agreed = wants (shown_at_end t) (r.acts ++ behind); old = r.acts; new = fresh scope st }) (wants (shown_at_end t) behind) st) (sym (run_alone o (Do loop.head loop.body) s scope st))
          (stands_instead t valid counted last p s loop contained serial private new_numbers low_room data_bytes free.0 scope front behind st executed_alone goes_alone its_run)

      unraced : AreRaceFree t s scope (run_all o old s scope st).acts (fresh scope st)
      unraced =
          subst (λ (r : Run). AreRaceFree t s scope r.acts (fresh scope st)) (sym (run_alone o (Do loop.head loop.body) s scope st))
          (peeled_races t valid counted last p s loop contained serial private new_numbers low_room data_bytes free.0 own_place scope front behind st executed_alone goes_alone its_run)

    do_instead : DoInstead o (renumbered counted (setting_of u)) t (start data_bytes) (number_at way.gap 1) count (run_all o old (number_at way.gap 1)) new fresh
    do_instead =
        subst (λ (r : Setting). DoInstead o r t (start data_bytes) (number_at way.gap 1) count (run_all o old (number_at way.gap 1)) new fresh) (sym same_setting)
        (subst (λ (k : ℕ). DoInstead o q t (start data_bytes) k count (run_all o old k) new fresh) (sym way.number) replayed)

    stand_instead : StandInstead (wants (shown_at_end t)) o t (start data_bytes) (number_at way.gap 1) count (run_all o old (number_at way.gap 1)) fresh
    stand_instead = subst (λ (k : ℕ). StandInstead (wants (shown_at_end t)) o t (start data_bytes) k count (run_all o old k) fresh) (sym way.number) stood

    races : RaceFreeInstead o t (start data_bytes) s count (run_all o old s) fresh (run_all (renumbered counted (setting_of u)) u.body 1 [])
    races parts olds_are news_are exchanged unraced_before =
        exchanged_races t u counted (told_by (its_numbers last s sized all)) (told_back (its_numbers last s sized all)) its_valid s old (omega arith) fresh data_bytes unraced parts olds_are exchanged news_are unraced_before

  -- the new statements and the old ones
  begins : begins_with_statement (filled way.gap old) ≡ true
  begins = subst (λ (ts : StmtTrees). begins_with_statement ts ≡ true) way.old (and_parts (decls_fit 0 t.decls && stmts_fit (at_body t) t.body) (begins_with_statement t.body) valid.fits).1

  old_count : statements_count old ≡ sized + 1
  old_count = omega arith

  plain_count : statements_count plain_new ≡ sized + 1 + sized
  plain_count = go last
    where
      copies : statements_count (copy_of p d body) ≡ sized
      copies = counts_kept d.variable (literal p.value) body

      go : (b : Bool) → statements_count (with_peeled b p d body) ≡ sized + 1 + sized
      go false = let same = copies in let both_are = followed_count (copy_of p d body) (alone (Do (left_head false p.bound d) body)) in omega (arith, same, both_are)
      go true = let same = copies in omega (arith, same)

  new_count : statements_count new ≡ sized + 1 + sized
  new_count = settled_count way.gap plain_new ∙ plain_count

  new_body : u.body ≡ filled way.gap new
  new_body = ap behind_comments way.new ∙ settled_gap way.gap old plain_new (let many = plain_count in omega (arith, many)) begins

  counts_alike : CountAlike o (renumbered counted (setting_of u)) (number_at way.gap 1) (statements_count old) (statements_count new) all
  counts_alike =
      subst (λ (l : ℕ). CountAlike o (renumbered counted (setting_of u)) l (statements_count old) (statements_count new) all) (sym way.number)
      (subst (λ (k : ℕ). CountAlike o (renumbered counted (setting_of u)) s k (statements_count new) all) (sym old_count)
      (subst (λ (k : ℕ). CountAlike o (renumbered counted (setting_of u)) s (sized + 1) k all) (sym new_count)
      (count_alike s (sized + 1) (sized + 1 + sized) all (its_pairs last s sized all) (numbers_fit last s sized all room) t u)))

  indices : (y : List ℕ) → is_among y (all_loop_variables new) ≡ is_among y (all_loop_variables old)
  indices y = ap (is_among y) (settled_variables way.gap plain_new) ∙ same_variables t valid s loop last p y ∙ sym (ap (is_among y) (append-nil (loop_variables (Do d body))))

  same_saved : flat_map saved_in u.decls ≡ flat_map saved_in t.decls
  same_saved = settled_saved raw

  exchange : (data_bytes : List ℕ) → IsRaceFree t data_bytes → IsExchange way.gap old new t u data_bytes
  exchange data_bytes free = record {
    saved = same_saved;
    kinds = λ y k. kinds y;
    counted = counted;
    told = told_by (its_numbers last s sized all);
    back = told_back (its_numbers last s sized all);
    pasted = record {
      old_body = way.old;
      new_body = new_body;
      bounds = λ y k. ap (λ (r : Setting). r.bounds y) (sym setting);
      constants = ap (λ (r : Setting). r.constants) (sym setting);
      one_each = λ a b e. e;
      numbers = counts_alike;
      some = way.some;
      unstopped = (λ i. loop_stops t s loop (fitting_stops t valid.fits) i || false);
      indices = λ k. indices;
    };
    agreed = wants (shown_at_end t);
    suit = wanted_suit (shown_at_end t);
    fresh = fresh;
    instead = do_instead data_bytes free;
    stand = stand_instead data_bytes free;
    free = subst (λ (k : ℕ). RaceFreeInstead o t (start data_bytes) k count (run_all o old k) fresh (run_all (renumbered counted (setting_of u)) u.body 1 [])) (sym way.number) (races data_bytes free);
  }

  pub peeled_keeps : Keeps t (peeled t s last p)
  peeled_keeps = subst (Keeps t) (sym (peeled_is t valid s loop last p)) (exchange_keeps way.gap old new t u same_saved exchange)
