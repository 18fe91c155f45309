-- A program in which the sums of a DO are kept apart, in order, keeps the meaning of the old one.
use Rattle.std.proofs.Common.{◌≡◌, ℕ, ◌+◌, ◌-◌, ◌<◌, ◌≤◌, ℤ, pos, ◌+ℤ◌, ◌*ℤ◌, List, [], ◌∷◌, ◌++◌, Bool, true, false, ◌||◌, Option, Some, None, append-nil, refl, sym, ap, subst, ◌∙◌, arith}
use Rattle.std.specs.List.{flat_map, list_any}
use Rattle.std.specs.Str.Lines.{lines}
use Rattle.std.proofs.lemmas.Bool.{and_parts, both_ways}
use Rattle.std.proofs.lemmas.List.Folds.{list_any-append}
use Rattle.ped_base.specs.Lists.{is_same_text, is_among}
use Rattle.ped_tree.specs.Constants.ConstantExpressions.{constant_value}
use Rattle.ped_tree.specs.Constants.NamedConstants.{value_named}
use Rattle.ped_tree.specs.NamesIn.{cond_names, head_names, loop_variables, all_loop_variables, private_names_in, saved_in, stmt_names, stmts_names}
use Rattle.ped_tree.specs.Nests.{Loop, indices_of}
use Rattle.ped_tree.specs.Numbering.{statement_count, statements_count}
use Rattle.ped_tree.specs.Tree.{Head, StmtTree, StmtTrees, Assign, If, Do, Print, Read, Stop, Comment, no_stmts, more_stmts, ProgramTree}
use Rattle.ped_rules.specs.ped_symbols.specs.Kinds.{kind_in, names_of}
use Rattle.ped_rules.specs.ped_symbols.specs.NameRefusals.{IsValid}
use Rattle.ped_rules.specs.ped_symbols.specs.RightUses.RightUses.{is_scalar}
use Rattle.ped_rules.specs.ped_flow.specs.PlainBounds.{nest_round}
use Rattle.ped_rules.specs.ped_flow.specs.Questions.{LoopOf}
use Rattle.ped_rules.specs.ped_steps.specs.Replacing.{followed, alone, all_replaced}
use Rattle.ped_rules.specs.ped_steps.specs.Runs.Gaps.{Gap, at_front, past, in_then, in_else, in_body, filled, number_at}
use Rattle.ped_rules.specs.ped_steps.specs.Runs.Meaning.{Keeps}
use Rattle.ped_rules.specs.ped_steps.specs.Runs.Pasting.{AgreeInBounds, IsPlaceOf, is_in_parallel}
use Rattle.ped_rules.specs.ped_steps.specs.Runs.Renumbering.{renumbered}
use Rattle.ped_rules.specs.ped_weaves.specs.Sources.{RaceSomewhere}
use Rattle.ped_rules.specs.ped_store.specs.Cells.{Cell, Scalar, Private, In, Out, same_cell}
use Rattle.ped_rules.specs.ped_store.specs.Stores.{Undefined, Store, store_at_start}
use Rattle.ped_rules.specs.ped_store.specs.Acts.{Touch, Act}
use Rattle.ped_rules.specs.ped_store.specs.Races.{Access, accesses, race, HasNoRace}
use Rattle.ped_rules.specs.ped_store.specs.Storage.{is_within}
use Rattle.ped_rules.specs.ped_laws.specs.Acts.Fitting.{store_after}
use Rattle.ped_rules.specs.ped_laws.specs.Acts.Orders.{IsIn, StandsBefore}
use Rattle.ped_rules.specs.ped_laws.specs.Acts.Pieces.{Part, same, changed, old_parts, new_parts, StandsFor}
use Rattle.ped_rules.specs.ped_laws.specs.Acts.Sets.{wants}
use Rattle.ped_rules.specs.ped_laws.specs.Runs.Replaying.{goes_on, finish_of, Replays}
use Rattle.ped_rules.specs.ped_laws.specs.Runs.Showing.{shown_at_end}
use Rattle.ped_rules.specs.ped_eval.specs.Loops.{increment, iteration_count}
use Rattle.ped_rules.specs.ped_eval.specs.Outcomes.{bounds_of, setting_of, run_of, live_names, IsRaceFree}
use Rattle.ped_rules.specs.ped_eval.specs.Runs.{Run, then_run, run_all}
use Rattle.ped_rules.specs.ped_eval.specs.Scopes.{Setting, Scope, turns_of}
use Rattle.ped_rules.specs.ped_laws.proofs.ActLaws.Lists.{in_left, in_right, first_in, second_in}
use Rattle.ped_rules.specs.ped_laws.proofs.ActLaws.SameCells.{cell_is}
use Rattle.ped_rules.specs.ped_store.specs.Cells as cells
use Rattle.ped_rules.specs.ped_laws.proofs.FlowRunLaws.Names.{sorted_among}
use Rattle.ped_rules.specs.ped_laws.proofs.FlowRunLaws.Stopping.{fitting_stops, loop_stops}
use Rattle.ped_rules.specs.ped_steps.proofs.RunLaws.FilledGaps.{number_room}
use Rattle.ped_rules.specs.ped_steps.proofs.RunLaws.OwnBounds.{all_bounds}
use Rattle.ped_rules.specs.ped_weaves.proofs.WeaveLaws.RaceSources.{pairs_free}
use Rattle.ped_rules.specs.ped_loop_runs.specs.Executions.{IsExecuted}
use Rattle.ped_rules.specs.ped_loop_runs.specs.Meaning.{IsExchange, RaceFreeInstead}
use Rattle.ped_rules.specs.ped_loop_runs.specs.Numbers.{counted_by, told_by, kept_numbers, FitInGap}
use Rattle.ped_rules.specs.ped_loop_runs.specs.Pasting.{CountAlike, DoInstead, StandInstead, IsExchanged, AreChangedBy, AreExchanged}
use Rattle.ped_rules.specs.ped_loop_runs.specs.Statements.{GivesWay}
use Rattle.ped_rules.specs.ped_loop_runs.proofs.LoopLaws.OldRaces as origins
use Rattle.ped_rules.specs.ped_loop_runs.proofs.PastingLaws.CountedNumbers.{told_back, inside_counts, count_alike}
use Rattle.ped_rules.specs.ped_loop_runs.proofs.PastingLaws.KeptMeaning.{exchange_keeps, apart_suit}
use Rattle.ped_rules.specs.ped_loop_runs.proofs.PastingLaws.OneStatement.{gives_way}
use Rattle.ped_rules.proofs.NameLaws.RenumberedRaces.{references_renumbered}
use Rattle.ped_rules.proofs.NameLaws.UnnamedCells.{unnamed_statements, unsaved_name}
use Rattle.ped_rules.specs.OnlyLoops.{on_loop}
use Rattle.ped_reduce.specs.Lists.{listed_name, unless_named, without_list}
use Rattle.ped_reduce.specs.Lowering.{Partials, zeros, all_summed, exits, bare, lowered_loop}
use Rattle.ped_reduce.proofs.AlikeRuns.{do_alike}
use Rattle.ped_reduce.proofs.SumStores.{is_array_of, is_array, AreSmall, HaveArrays}
use Rattle.ped_reduce.proofs.SumBodies.{AreClear}
use Rattle.ped_reduce.proofs.SumExits.{AllDistinct}
use Rattle.ped_reduce.proofs.SumWhole.{is_part, lowered, IsSummable}
use Rattle.ped_reduce.proofs.SumStands.{agreed_but, replayed, stood, its_acts}
use Rattle.ped_reduce.proofs.SumRaces.{AreSprung, new_sprung, kept_sprung, sprung_append, told_unreferred, sprung_races}
use Rattle.ped_reduce.proofs.SumSmall.{small_there}
use Rattle.ped_reduce.proofs.SumPlaces.{calm_turns, unlisted, plain, moves, unvalued, unlike, unshared, unbound, own}
use Rattle.ped_reduce.proofs.SumUntouched.{untouched, undefined_there, nobody_wants}
use Rattle.ped_reduce.proofs.SumNumbers.{loop_pairs, fit, followed_count, loop_counts, body_counts}

-- what is known of a program and of the one in which the sums of a DO are kept apart, in order
pub record IsKeptApart (t u : ProgramTree) (s : ℕ) (loop : LoopOf t s) (ps : List Partials) (a b : ℤ) : Type 0 where
  pub valid : IsValid t
  pub new_valid : IsValid u
  pub body : u.body ≡ all_replaced (on_loop (lowered_loop false ps)) s t.body 1
  pub saved : flat_map saved_in u.decls ≡ flat_map saved_in t.decls
  pub constants : (setting_of u).constants ≡ (setting_of t).constants
  pub kinds : (y : List ℕ) → is_array ps y ≡ false → kind_in u y ≡ kind_in t y
  pub fresh : (y : List ℕ) → is_array ps y ≡ true → is_among y (names_of t) ≡ false
  pub serial : loop.head.parallel ≡ false
  pub round : list_any (λ (m : Loop). m.head.parallel) (nest_round t s) ≡ false
  pub serial_round : (n : ℕ) (m : LoopOf t n) → ((k : Loop) × IsIn k (nest_round t s) × (k.number ≡ n)) → m.head.parallel ≡ false
  pub first : constant_value (setting_of t).constants loop.head.first ≡ Some a
  pub last : constant_value (setting_of t).constants loop.head.last ≡ Some b
  pub inside : (j : ℕ) → 1 ≤ j → j ≤ iteration_count a b (increment (setting_of u).constants loop.head) → (p : Partials) (x : List ℕ) → IsIn p ps → is_array_of p x ≡ true → is_within ((setting_of u).bounds x) ((a +ℤ pos (j - 1) *ℤ increment (setting_of u).constants loop.head) ∷ []) ≡ true
  pub scalar : (p : Partials) → IsIn p ps → is_scalar (kind_in t) p.scalar ≡ true
  pub no_loop : (p : Partials) → IsIn p ps → is_among p.scalar (all_loop_variables t.body) ≡ false
  pub outer : (p : Partials) → IsIn p ps → is_among p.scalar (indices_of (nest_round t s)) ≡ false
  pub near : (p : Partials) → IsIn p ps → is_among p.scalar (loop_variables (Do loop.head loop.body)) ≡ false
  pub shared : (p : Partials) → IsIn p ps → is_among p.scalar (private_names_in (Do loop.head loop.body)) ≡ false
  pub shared_round : (p : Partials) → IsIn p ps → (n : ℕ) (m : LoopOf t n) → ((k : Loop) × IsIn k (nest_round t s) × (k.number ≡ n)) → is_among p.scalar m.head.private ≡ false
  pub clear : AreClear ps loop.head.variable (without_list loop.body)
  pub arrays : HaveArrays ps
  pub distinct : AllDistinct ps

-- names in a gap are names of the whole
among_left : (y : List ℕ) (xs ys : List (List ℕ)) → is_among y xs ≡ true → is_among y (xs ++ ys) ≡ true
among_left y xs ys h = list_any-append (is_same_text y) xs ys ∙ ap (λ (c : Bool). c || is_among y ys) h

among_right : (y : List ℕ) (xs ys : List (List ℕ)) → is_among y ys ≡ true → is_among y (xs ++ ys) ≡ true
among_right y xs ys h = list_any-append (is_same_text y) xs ys ∙ late (is_among y xs) h
  where
    late : (c : Bool) {d : Bool} → d ≡ true → (c || d) ≡ true
    late true e = refl
    late false e = e

pub in_whole : (y : List ℕ) (x : StmtTree) (gap : Gap) → is_among y (stmt_names x) ≡ true → is_among y (stmts_names (filled gap (alone x))) ≡ true
in_whole y x (at_front rest) h = among_left y (stmt_names x) (stmts_names rest) h
in_whole y x (past z gap) h = among_right y (stmt_names z) (stmts_names (filled gap (alone x))) (in_whole y x gap h)
in_whole y x (in_then c gap other rest) h = among_left y (stmt_names (If c (filled gap (alone x)) other)) (stmts_names rest) (among_left y (cond_names c ++ stmts_names (filled gap (alone x))) (stmts_names other) (among_right y (cond_names c) (stmts_names (filled gap (alone x))) (in_whole y x gap h)))
in_whole y x (in_else c first gap rest) h = among_left y (stmt_names (If c first (filled gap (alone x)))) (stmts_names rest) (among_right y (cond_names c ++ stmts_names first) (stmts_names (filled gap (alone x))) (in_whole y x gap h))
in_whole y x (in_body g gap rest) h = among_left y (stmt_names (Do g (filled gap (alone x)))) (stmts_names rest) (among_right y (head_names g) (stmts_names (filled gap (alone x))) (in_whole y x gap h))

-- a gap's number isn't 0
number_some : (gap : Gap) (n : ℕ) → 0 < n → 0 < number_at gap n
number_some (at_front rest) n h = h
number_some (past z gap) n h = number_some gap (n + statement_count z) (omega (arith, h))
number_some (in_then c gap other rest) n h = number_some gap (n + 1) (omega arith)
number_some (in_else c first gap rest) n h = number_some gap (n + 1 + statements_count first) (omega arith)
number_some (in_body g gap rest) n h = number_some gap (n + 1) (omega arith)

-- a list is comments: without it statements do the same, and have the same DO loops
unless_run : (p : Setting) (o : Option (List ℕ)) (text : List ℕ) (rest : StmtTrees) (n : ℕ) (scope : Scope) → run_all p (without_list rest) n scope ≡ run_all p rest n scope → run_all p (unless_named o (more_stmts (Comment text) rest) (without_list rest)) n scope ≡ run_all p (more_stmts (Comment text) rest) n scope
unless_run p None text rest n scope e = refl
unless_run p (Some y) text rest n scope e = e ∙ (λ i. run_all p rest (same_number i) scope)
  where
    same_number : n ≡ n + statement_count (Comment text)
    same_number = omega arith

without_run : (p : Setting) (ts : StmtTrees) (n : ℕ) (scope : Scope) → run_all p (without_list ts) n scope ≡ run_all p ts n scope
without_run p no_stmts n scope = refl
without_run p (more_stmts (Comment text) rest) n scope = unless_run p (listed_name text) text rest n scope (without_run p rest n scope)
without_run p (more_stmts (Assign left right) rest) n scope = refl
without_run p (more_stmts (If c x y) rest) n scope = refl
without_run p (more_stmts (Do g x) rest) n scope = refl
without_run p (more_stmts (Print items) rest) n scope = refl
without_run p (more_stmts (Read items) rest) n scope = refl
without_run p (more_stmts Stop rest) n scope = refl

unless_variables : (o : Option (List ℕ)) (text : List ℕ) (rest : StmtTrees) → all_loop_variables (without_list rest) ≡ all_loop_variables rest → all_loop_variables (unless_named o (more_stmts (Comment text) rest) (without_list rest)) ≡ all_loop_variables rest
unless_variables None text rest e = refl
unless_variables (Some y) text rest e = e

without_variables : (ts : StmtTrees) → all_loop_variables (without_list ts) ≡ all_loop_variables ts
without_variables no_stmts = refl
without_variables (more_stmts (Comment text) rest) = unless_variables (listed_name text) text rest (without_variables rest)
without_variables (more_stmts (Assign left right) rest) = refl
without_variables (more_stmts (If c x y) rest) = refl
without_variables (more_stmts (Do g x) rest) = refl
without_variables (more_stmts (Print items) rest) = refl
without_variables (more_stmts (Read items) rest) = refl
without_variables (more_stmts Stop rest) = refl

unless_count : (o : Option (List ℕ)) (text : List ℕ) (rest : StmtTrees) → statements_count (without_list rest) ≡ statements_count rest → statements_count (unless_named o (more_stmts (Comment text) rest) (without_list rest)) ≡ statements_count (more_stmts (Comment text) rest)
unless_count None text rest e = refl
unless_count (Some y) text rest e = omega (arith, e)

same_counts : (ts : StmtTrees) → statements_count (without_list ts) ≡ statements_count ts
same_counts no_stmts = refl
same_counts (more_stmts (Comment text) rest) = unless_count (listed_name text) text rest (same_counts rest)
same_counts (more_stmts (Assign left right) rest) = refl
same_counts (more_stmts (If c x y) rest) = refl
same_counts (more_stmts (Do g x) rest) = refl
same_counts (more_stmts (Print items) rest) = refl
same_counts (more_stmts (Read items) rest) = refl
same_counts (more_stmts Stop rest) = refl

-- changed parts of a run whose acts stem from the old ones
sprung_parts : (ps : List Partials) (By : List Act → List Act → Store → List Act → List Act → Type 0) → ((front behind : List Act) (u : Store) (old new : List Act) → By front behind u old new → AreSprung ps old new)
    → (front : List Act) (parts : List Part) (behind : List Act) (u : Store) → AreChangedBy By front parts behind u → AreSprung ps (old_parts parts) (new_parts parts)
sprung_parts ps By each front [] behind u h = λ b i. absurd i
sprung_parts ps By each front (same acts ∷ parts) behind u h = sprung_append ps acts acts (old_parts parts) (new_parts parts) (kept_sprung ps acts) (sprung_parts ps By each (front ++ acts) parts behind (store_after acts u) h)
sprung_parts ps By each front (changed old new ∷ parts) behind u h =
    sprung_append ps old new (old_parts parts) (new_parts parts) (each front (old_parts parts ++ behind) u old new h.0) (sprung_parts ps By each (front ++ old) parts behind (store_after old u) h.1)

module _ (t u : ProgramTree) (s : ℕ) (loop : LoopOf t s) (ps : List Partials) (a b : ℤ) (x : IsKeptApart t u s loop ps a b) where
  abbrev h : Head
  h = loop.head

  abbrev body : StmtTrees
  body = without_list loop.body

  abbrev o : Setting
  o = setting_of t

  abbrev all : ℕ
  all = statements_count t.body

  abbrev old : StmtTrees
  old = alone (Do loop.head loop.body)

  abbrev new : StmtTrees
  new = lowered_loop false ps loop.head loop.body

  way : GivesWay (on_loop (lowered_loop false ps)) s (Do loop.head loop.body) t
  way = gives_way (on_loop (lowered_loop false ps)) s (Do loop.head loop.body) t loop.is

  number_is : 0 < s
  number_is = subst (λ (n : ℕ). 0 < n) way.number (number_some way.gap 1 (omega arith))

  same_count : statements_count body ≡ statements_count loop.body
  same_count = same_counts loop.body

  -- numbers
  abbrev inside : List (ℕ × ℕ)
  inside = loop_pairs (statements_count t.body) loop.head.variable ps loop.head (without_list loop.body) s

  abbrev pairs : List (ℕ × ℕ)
  pairs = kept_numbers s (statements_count (alone (Do loop.head loop.body))) (statements_count (lowered_loop false ps loop.head loop.body)) (statements_count t.body) (loop_pairs (statements_count t.body) loop.head.variable ps loop.head (without_list loop.body) s)

  abbrev counted : ℕ → ℕ
  counted = counted_by (kept_numbers s (statements_count (alone (Do loop.head loop.body))) (statements_count (lowered_loop false ps loop.head loop.body)) (statements_count t.body) (loop_pairs (statements_count t.body) loop.head.variable ps loop.head (without_list loop.body) s))

  room : s + statements_count old ≤ all + 1
  room =
      let most = number_room way.gap old 1 in
      let number = way.number in
      let count : all ≡ statements_count (filled way.gap old) = ap statements_count way.old in
      omega (arith, most, number, count)

  fits_in : FitInGap s (statements_count old) (statements_count new) all inside
  fits_in =
      let r = room in
      let c = same_count in
      let k = followed_count (zeros h.variable ps) (all_summed h.variable ps body) in
      subst (λ (n : ℕ). FitInGap s (statements_count old) n all inside) (omega (arith, k))
      (subst (λ (n : ℕ). FitInGap s n (statements_count (zeros h.variable ps) + statements_count (all_summed h.variable ps body) + 1 + (statements_count (exits h.variable ps) + 1 + 0)) all inside) (omega (arith, c))
      (fit all h.variable ps h body s number_is (omega (arith, r, c))))

  count : (y : ℕ × ℕ) → IsIn y inside → counted y.0 ≡ y.1
  count = inside_counts s (statements_count old) (statements_count new) all inside fits_in

  -- both programs are run by one setting, but for numbers
  abbrev q : Setting
  q = renumbered (counted_by (kept_numbers s (statements_count (alone (Do loop.head loop.body))) (statements_count (lowered_loop false ps loop.head loop.body)) (statements_count t.body) (loop_pairs (statements_count t.body) loop.head.variable ps loop.head (without_list loop.body) s))) (setting_of u)

  abbrev r : Setting
  r = record { bounds = (setting_of u).bounds; constants = (setting_of u).constants; number = λ n. n }

  named_apart : (y : List ℕ) → is_among y (stmts_names t.body) ≡ true → is_array ps y ≡ false
  named_apart y named = go (is_array ps y) refl
    where
      go : (c : Bool) → is_array ps y ≡ c → is_array ps y ≡ false
      go true e = absurd (both_ways (is_among y (stmts_names t.body)) (unnamed_statements t y (x.fresh y e)) named)
      go false e = e

  bounds : AgreeInBounds o.bounds (setting_of u).bounds (stmts_names t.body)
  bounds y named = ap bounds_of (sym (x.kinds y (named_apart y named)))

  old_bounds : AgreeInBounds o.bounds (setting_of u).bounds (stmts_names old)
  old_bounds y named = bounds y (ap (λ (ts : StmtTrees). is_among y (stmts_names ts)) way.old ∙ in_whole y (Do loop.head loop.body) way.gap (subst (λ (xs : List (List ℕ)). is_among y xs ≡ true) (append-nil (stmt_names (Do loop.head loop.body))) named))

  -- the old DO without its list, run by the new program's setting
  old_run : (scope : Scope) → run_all o old s scope ≡ run_all r (alone (Do loop.head (without_list loop.body))) s scope
  old_run scope =
      all_bounds o (setting_of u).bounds old s scope old_bounds
      ∙ (λ i. run_all (record { bounds = (setting_of u).bounds; constants = sym x.constants i; number = λ n. n }) old s scope)
      ∙ (λ i v. then_run (do_alike r s scope loop.head loop.body (without_list loop.body) (sym (without_variables loop.body)) (λ f. run_all r loop.body (s + 1) (f ∷ scope)) (λ f. run_all r (without_list loop.body) (s + 1) (f ∷ scope)) (λ j f. sym (without_run r loop.body (s + 1) (f ∷ scope)) j) i v) (run_all r no_stmts (s + statement_count (Do loop.head loop.body)) scope))

  -- at a place of the DO all is so as a DO of sums asks
  summable : (scope : Scope) → IsPlaceOf o t s scope → IsSummable (setting_of u).bounds (setting_of u).constants (λ n. n) counted ps x.arrays x.distinct h body s s scope a b
  summable scope place = record {
    serial = x.serial;
    outer = calm_turns o.number (nest_round t s) (turns_of scope) place.turns x.round;
    first = ap (λ (c : List (List ℕ × ℤ)). constant_value c loop.head.first) x.constants ∙ x.first;
    last = ap (λ (c : List (List ℕ × ℤ)). constant_value c loop.head.last) x.constants ∙ x.last;
    moves = λ e. moves t x.valid s loop (ap (λ (c : List (List ℕ × ℤ)). increment c loop.head) (sym x.constants) ∙ e);
    plain = ap (λ (c : List (List ℕ × ℤ)). value_named c loop.head.variable) x.constants ∙ plain t x.valid s loop;
    unlisted = unlisted t x.valid s loop;
    scalars = λ p i. record {
      variable = ap (λ (c : List (List ℕ × ℤ)). value_named c p.scalar) x.constants ∙ unvalued t x.valid s loop p.scalar (x.scalar p i) (x.outer p i) (x.near p i) (x.shared p i) (x.shared_round p i) x.serial_round;
      unbound = unbound t x.valid s loop p.scalar (x.scalar p i) (x.outer p i) (x.near p i) (x.shared p i) (x.shared_round p i) x.serial_round scope place;
      own = own t x.valid s loop p.scalar (x.scalar p i) (x.outer p i) (x.near p i) (x.shared p i) (x.shared_round p i) x.serial_round scope place;
      unlike = unlike t x.valid s loop p.scalar (x.scalar p i) (x.outer p i) (x.near p i) (x.shared p i) (x.shared_round p i) x.serial_round;
      unlisted = unshared t x.valid s loop p.scalar (x.scalar p i) (x.outer p i) (x.near p i) (x.shared p i) (x.shared_round p i) x.serial_round;
    };
    clear = x.clear;
    counts = body_counts all h.variable ps h body s counted count;
    number = loop_counts all h.variable ps h body s counted count;
    inside = x.inside;
  }

  -- the new statements
  new_is : (scope : Scope) → lowered (setting_of u).bounds (setting_of u).constants (λ n. n) counted ps x.arrays x.distinct h body s s scope a b ≡ new
  new_is scope = λ i. more_stmts (Do (record loop.head { parallel = x.serial i }) (followed (zeros loop.head.variable ps) (all_summed loop.head.variable ps (without_list loop.body)))) (alone (Do (bare loop.head) (exits loop.head.variable ps)))

  abbrev fresh : Scope → Store → List Act
  fresh scope st = (run_all q new s scope st).acts

  abbrev start : List ℕ → Store
  start data_bytes = store_at_start (lines data_bytes)

  hidden : (c : Cell) → is_part ps c ≡ true → shown_at_end t c ≡ false
  hidden (cells.Element y js) part = sorted_among y (flat_map saved_in t.decls) ∙ unsaved_name t y (x.fresh y part)
  hidden (Scalar y) part = absurd cc
  hidden (Private y path) part = absurd cc
  hidden In part = absurd cc
  hidden Out part = absurd cc

  module _ (data_bytes : List ℕ) where
    abbrev many : ℕ
    many = statements_count (alone (Do loop.head loop.body))

    abbrev whole_run : Run
    whole_run = run_all (setting_of t) t.body 1 [] (store_at_start (lines data_bytes))

    run_untouched : (c : Act) → IsIn c whole_run.acts → (y : Touch) → IsIn y c.touches → is_part ps y.cell ≡ false
    run_untouched = untouched t ps x.fresh t.body 1 [] (start data_bytes)

    module _ (scope : Scope) (front behind : List Act) (st : Store) (executed : IsExecuted o t (start data_bytes) s many scope front (run_all o old s scope st).acts behind st) (goes : finish_of (run_all o old s scope st).ending ≡ goes_on) where
      abbrev its : List Act
      its = (run_all (setting_of t) (alone (Do loop.head loop.body)) s scope st).acts

      in_front : (c : Act) → IsIn c front → (y : Touch) → IsIn y c.touches → is_part ps y.cell ≡ false
      in_front c i = run_untouched c (subst (IsIn c) (sym executed.whole) (in_left c front (its ++ behind) i))

      in_behind : (c : Act) → IsIn c behind → (y : Touch) → IsIn y c.touches → is_part ps y.cell ≡ false
      in_behind c i = run_untouched c (subst (IsIn c) (sym executed.whole) (in_right c front (its ++ behind) (in_right c its behind i)))

      small : AreSmall ps st
      small = subst (AreSmall ps) (sym executed.from) (small_there ps o t.body 1 [] (start data_bytes) front (its ++ behind) x.no_loop executed.whole (λ p i. refl))

      undefined : (c : Cell) → is_part ps c ≡ true → st c ≡ Undefined
      undefined c part = ap (λ (z : Store). z c) executed.from ∙ undefined_there ps c part (lines data_bytes) front in_front

      unwanted : (c : Cell) → is_part ps c ≡ true → wants (shown_at_end t) behind c ≡ false
      unwanted c part = nobody_wants ps c part (shown_at_end t) (hidden c part) behind in_behind

      goes_there : finish_of (run_all r (alone (Do loop.head (without_list loop.body))) s scope st).ending ≡ goes_on
      goes_there = ap (λ (f : Store → Run). finish_of (f st).ending) (sym (old_run scope)) ∙ goes

      may : IsSummable (setting_of u).bounds (setting_of u).constants (λ n. n) counted ps x.arrays x.distinct h body s s scope a b
      may = summable scope executed.place

      does_them : Replays (run_all q new s scope) (fresh scope st) goes_on
      does_them =
          subst (λ (ts : StmtTrees). Replays (run_all q ts s scope) (run_all q ts s scope st).acts goes_on) (new_is scope)
          (replayed (setting_of u).bounds (setting_of u).constants (λ n. n) counted ps x.arrays x.distinct h body s s scope a b may st small goes_there)

      stands : StandsFor (record { agreed = agreed_but ps (shown_at_end t) (its ++ behind); old = its; new = fresh scope st }) (agreed_but ps (shown_at_end t) behind) st
      stands =
          subst (λ (f : Store → Run). StandsFor (record { agreed = agreed_but ps (shown_at_end t) ((f st).acts ++ behind); old = (f st).acts; new = fresh scope st }) (agreed_but ps (shown_at_end t) behind) st) (sym (old_run scope))
          (subst (λ (ts : StmtTrees). StandsFor (record { agreed = agreed_but ps (shown_at_end t) ((run_all r (alone (Do loop.head (without_list loop.body))) s scope st).acts ++ behind); old = (run_all r (alone (Do loop.head (without_list loop.body))) s scope st).acts; new = (run_all q ts s scope st).acts }) (agreed_but ps (shown_at_end t) behind) st) (new_is scope)
          (stood (setting_of u).bounds (setting_of u).constants (λ n. n) counted ps x.arrays x.distinct h body s s scope a b may st small goes_there undefined (shown_at_end t) behind unwanted))

      sprung : AreSprung ps its (fresh scope st)
      sprung =
          subst (λ (f : Store → Run). AreSprung ps (f st).acts (fresh scope st)) (sym (old_run scope))
          (subst (λ (ts : StmtTrees). AreSprung ps (run_all r (alone (Do loop.head (without_list loop.body))) s scope st).acts (run_all q ts s scope st).acts) (new_is scope)
          (new_sprung ps _ _ _ (its_acts (setting_of u).bounds (setting_of u).constants (λ n. n) counted ps x.arrays x.distinct h body s s scope a b may st small goes_there)))

    do_instead : DoInstead o q t (start data_bytes) (number_at way.gap 1) many (run_all o old (number_at way.gap 1)) new fresh
    do_instead = subst (λ (k : ℕ). DoInstead o q t (start data_bytes) k many (run_all o old k) new fresh) (sym way.number) does_them

    stand_instead : StandInstead (agreed_but ps (shown_at_end t)) o t (start data_bytes) (number_at way.gap 1) many (run_all o old (number_at way.gap 1)) fresh
    stand_instead = subst (λ (k : ℕ). StandInstead (agreed_but ps (shown_at_end t)) o t (start data_bytes) k many (run_all o old k) fresh) (sym way.number) stands

    -- races
    abbrev olds : List Act
    olds = (run_of t data_bytes).acts

    abbrev news : List Act
    news = (run_all q u.body 1 [] (start data_bytes)).acts

    all_sprung : (parts : List Part) → AreExchanged o t (start data_bytes) s many (run_all o old s) fresh [] parts [] (start data_bytes) → AreSprung ps (old_parts parts) (new_parts parts)
    all_sprung parts exchanged =
        sprung_parts ps (IsExchanged o t (start data_bytes) s many (run_all o old s) fresh)
        (λ front behind st olds news y. subst (λ (acts : List Act). AreSprung ps acts news) (sym y.old_is) (subst (AreSprung ps (run_all o old s y.scope st).acts) (sym y.new_is) (sprung y.scope front behind st y.executed y.goes)))
        [] parts [] (start data_bytes) exchanged

    races : RaceFreeInstead o t (start data_bytes) s many (run_all o old s) fresh (run_all q u.body 1 [])
    races parts olds_are news_are exchanged free =
        subst (λ (acts : List Act). HasNoRace (accesses acts)) (sym news_are)
        (pairs_free olds news race_before (subst (λ (acts : List Act). HasNoRace (accesses acts)) olds_are free))
      where
        come : AreSprung ps olds news
        come = subst (λ (acts : List Act). AreSprung ps acts news) olds_are (subst (AreSprung ps (old_parts parts)) news_are (all_sprung parts exchanged))

        race_before : (b1 c1 : Access) → StandsBefore b1 c1 (accesses news) → race b1 c1 ≡ true → RaceSomewhere olds
        race_before b1 c1 before races =
            let i = first_in b1 c1 (accesses news) before in
            let j = second_in b1 c1 (accesses news) before in
            let g = references_renumbered counted (told_by pairs) (told_back pairs) u x.new_valid data_bytes b1 c1 i j races in
            let parts_of = and_parts (same_cell b1.cell c1.cell) (b1.writes || c1.writes) g.4 in
            let m = sprung_races ps x.arrays olds news come run_untouched (told_unreferred q u.body 1 [] (start data_bytes)) b1 c1 (cell_is b1.cell c1.cell parts_of.0) parts_of.1 g.2 g.3 g.0 g.1 i j in
            origins.somewhere t q u.body data_bytes m.one m.other m.one_in m.other_in m.cells m.writing m.apart

  counts_alike : CountAlike o q (number_at way.gap 1) (statements_count old) (statements_count new) all
  counts_alike = subst (λ (l : ℕ). CountAlike o q l (statements_count old) (statements_count new) all) (sym way.number) (count_alike s (statements_count old) (statements_count new) all inside fits_in t u)

  same_saved : flat_map saved_in u.decls ≡ flat_map saved_in t.decls
  same_saved = x.saved

  exchange : (data_bytes : List ℕ) → IsRaceFree t data_bytes → IsExchange way.gap old new t u data_bytes
  exchange data_bytes free = record {
    saved = same_saved;
    kinds = λ y k. x.kinds y (live_apart y k);
    counted = counted;
    told = told_by pairs;
    back = told_back pairs;
    pasted = record {
      old_body = way.old;
      new_body = x.body ∙ way.new;
      bounds = bounds;
      constants = sym x.constants;
      one_each = λ m n e. e;
      numbers = counts_alike;
      some = way.some;
      unstopped = (λ i. loop_stops t s loop (fitting_stops t x.valid.fits) i || false);
      indices = λ k. absurd (both_ways (is_in_parallel t (number_at way.gap 1)) (ap (is_in_parallel t) way.number ∙ x.round) k);
    };
    agreed = agreed_but ps (shown_at_end t);
    suit = apart_suit (is_part ps) (shown_at_end t);
    fresh = fresh;
    instead = do_instead data_bytes;
    stand = stand_instead data_bytes;
    free = subst (λ (k : ℕ). RaceFreeInstead o t (start data_bytes) k (statements_count (alone (Do loop.head loop.body))) (run_all o old k) fresh (run_all q u.body 1 [])) (sym way.number) (races data_bytes);
  }
    where
      live_apart : (y : List ℕ) → is_among y (live_names t) ≡ true → is_array ps y ≡ false
      live_apart y k = go (is_array ps y) refl
        where
          go : (c : Bool) → is_array ps y ≡ c → is_array ps y ≡ false
          go true e = absurd (both_ways (is_among y (live_names t)) (sorted_among y (flat_map saved_in t.decls) ∙ unsaved_name t y (x.fresh y e)) k)
          go false e = e

  pub kept_apart_keeps : Keeps t u
  kept_apart_keeps = exchange_keeps way.gap old new t u same_saved exchange
