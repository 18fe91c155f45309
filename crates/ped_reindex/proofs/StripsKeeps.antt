-- A program in which the iterations of a DO are done in strips keeps its meaning.
use Rattle.std.proofs.Common.{Bool, List, Option, Some, [], ap, append-nil, arith, false, inl, inr, not, pos, refl, subst, sym, true, unwrap_or, ℕ, ℤ, ◌++◌, ◌+◌, ◌||◌, ◌∙◌, ◌∷◌, ◌≡◌, ◌≤◌}
use Rattle.std.proofs.lemmas.Bool.{both_ways}
use Rattle.std.specs.List.{flat_map}
use Rattle.std.specs.Str.Lines.{lines}
use Rattle.ped_base.proofs.NameEquality.{same_is}
use Rattle.ped_base.specs.Lists.{is_among, is_same_text}
use Rattle.ped_rules.proofs.NestLaws.WovenStands.{idle_apart, stands_apart}
use Rattle.ped_rules.specs.ped_loop_runs.proofs.LoopLaws.OneForOneCells.{cell_among}
use Rattle.ped_rules.specs.ped_loop_runs.proofs.LoopLaws.OneForOneStands.{run_alone}
use Rattle.ped_rules.specs.ped_loop_runs.proofs.PastingLaws.CountedNumbers.{count_alike, in_row, inside_counts, row_apart, row_in, told_back}
use Rattle.ped_rules.specs.ped_loop_runs.proofs.PastingLaws.KeptMeaning.{apart_suit, keeps_always, made_keeps}
use Rattle.ped_rules.specs.ped_loop_runs.proofs.PastingLaws.OneStatement.{gives_way}
use Rattle.ped_rules.specs.ped_loop_runs.proofs.PastingLaws.PastedRuns.{exchanged_near}
use Rattle.ped_rules.specs.ped_loop_runs.proofs.PastingLaws.StandingParts.{all_stand_near}
use Rattle.ped_rules.specs.ped_loop_runs.specs.Executions.{IsExecuted}
use Rattle.ped_rules.specs.ped_loop_runs.specs.Numbers.{FitInGap, counted_by, in_a_row, kept_numbers, told_by}
use Rattle.ped_rules.specs.ped_loop_runs.specs.OtherCopies.{AreExchangedNear, AreNear, AskNothing, DoNear, HasOtherCopies, IsPastedBut, LeaveApart, OfParallelRound}
use Rattle.ped_rules.specs.ped_loop_runs.specs.Pasting.{CountAlike, PartsStandBy}
use Rattle.ped_rules.specs.ped_loop_runs.specs.Statements.{GivesWay}
use Rattle.ped_rules.specs.ped_bodies.proofs.BodyLaws.Rewritings.{not_among}
use Rattle.ped_rules.specs.ped_bodies.specs.Moving.{is_cell_among}
use Rattle.ped_rules.specs.ped_steps.proofs.RunLaws.FilledGaps.{number_room}
use Rattle.ped_rules.specs.ped_steps.specs.Replacing.{alone, program_with}
use Rattle.ped_rules.specs.ped_steps.specs.Runs.Gaps.{Gap, at_front, filled, in_body, in_else, in_then, number_at, past}
use Rattle.ped_rules.specs.ped_steps.specs.Runs.Meaning.{Keeps}
use Rattle.ped_rules.specs.ped_steps.specs.Runs.Renumbering.{IsToldBack, renumbered}
use Rattle.ped_rules.specs.ped_flow.specs.PlainBounds.{IsPlain}
use Rattle.ped_rules.specs.ped_flow.specs.Questions.{IsContained, LoopOf}
use Rattle.ped_rules.specs.ped_laws.proofs.ActLaws.Lists.{in_right}
use Rattle.ped_rules.specs.ped_laws.proofs.ActLaws.SameCells.{text_itself}
use Rattle.ped_rules.specs.ped_laws.proofs.FlowRunLaws.Names.{sorted_among}
use Rattle.ped_rules.specs.ped_laws.proofs.FlowRunLaws.Stopping.{fitting_stops, loop_stops}
use Rattle.ped_rules.specs.ped_laws.specs.Acts.Orders.{IsIn}
use Rattle.ped_rules.specs.ped_laws.specs.Acts.Pieces.{Part, StandsFor, new_parts, old_parts}
use Rattle.ped_rules.specs.ped_laws.specs.FlowRuns.Covering.{is_cell_of}
use Rattle.ped_rules.specs.ped_laws.specs.Runs.Replaying.{Replays, finish_of, goes_on}
use Rattle.ped_rules.specs.ped_laws.specs.Runs.Showing.{shown_at_end}
use Rattle.ped_rules.specs.ped_eval.specs.Loops.{entered_with, frame}
use Rattle.ped_rules.specs.ped_eval.specs.Outcomes.{IsRaceFree, bounds_of, live_names, run_of, setting_of}
use Rattle.ped_rules.specs.ped_eval.specs.Runs.{Run, run, run_all}
use Rattle.ped_rules.specs.ped_eval.specs.Scopes.{Scope, Setting, cell_of}
use Rattle.ped_rules.specs.ped_store.specs.Acts.{Act}
use Rattle.ped_rules.specs.ped_store.specs.Cells.{Cell, In, Out, Private, Scalar}
use Rattle.ped_rules.specs.ped_store.specs.Races.{HasNoRace, accesses}
use Rattle.ped_rules.specs.ped_store.specs.Stores.{Store, store_at_start}
use Rattle.ped_rules.specs.ped_symbols.proofs.RightUseLaws.Whole.{others_unvalued, same_values}
use Rattle.ped_rules.specs.ped_symbols.specs.Kinds.{kind_in, names_of}
use Rattle.ped_rules.specs.ped_symbols.specs.NameRefusals.{IsValid}
use Rattle.ped_rules.specs.ped_weaves.specs.Apart.{agreed}
use Rattle.ped_reindex.proofs.StripsAbsent.{leaves_alone, unwanted_name}
use Rattle.ped_reindex.proofs.StripsAccesses.{free_strips}
use Rattle.ped_rules.proofs.NameLaws.ValuesBut.{AreBeside}
use Rattle.ped_reindex.proofs.StripsBounds.{CanStrip, CountsStrips, IsStripped}
use Rattle.ped_reindex.proofs.StripsRaces.{AreRaceFree, near_races}
use Rattle.ped_reindex.proofs.StripsStand.{does_strips, stands_strips}
use Rattle.ped_rules.proofs.NameLaws.UnnamedCells.{UnnamedHead, all_loops_named, constants_absent, neither, unnamed_head, unnamed_statements, unsaved_name}
use Rattle.ped_reindex.specs.Stripping.{strip_head, strips_head, with_strips}
use Rattle.ped_tree.specs.Constants.ConstantExpressions.{constant_value}
use Rattle.ped_tree.specs.Grammar.Words.{is_name}
use Rattle.ped_tree.specs.NamesIn.{all_loop_variables, cond_names, head_names, loop_variables, saved_in, stmt_names, stmts_names}
use Rattle.ped_tree.specs.Numbering.{statement_count, statements_count}
use Rattle.ped_tree.specs.Tree.{DeclTree, Do, Head, If, ProgramTree, StmtTree, StmtTrees}
use Rattle.ped_rules.specs.ped_store.specs.Cells as cells

-- what a step shows of a DO whose iterations are done in strips: it isn't parallel, has no PRIVATE names, goes through its values one by one and is contained, and its limit is plain; the variable of the new DO doesn't occur in the program
pub record IsStripping (t u : ProgramTree) (l : ℕ) (loop : LoopOf t l) (K : ℕ) (w : List ℕ) : Type 0 where
  pub valid : IsValid t
  pub new_valid : IsValid u
  pub new : u ≡ program_with (λ s. with_strips (pos K) w loop.head loop.body) l t
  pub some : 2 ≤ K
  pub few : K ≤ 1000
  pub name : is_name w ≡ true
  pub absent : is_among w (names_of t) ≡ false
  pub kinds : (y : List ℕ) → is_same_text w y ≡ false → kind_in u y ≡ kind_in t y
  pub step : constant_value (setting_of t).constants loop.head.step ≡ Some (pos 1)
  pub serial : loop.head.parallel ≡ false
  pub private : loop.head.private ≡ []
  pub contained : IsContained t l
  pub plain : IsPlain (setting_of t).constants t l loop.head.last

-- statements that fill a gap name what the program names
module _ (w : List ℕ) (s : StmtTree) where
  abbrev it : StmtTrees
  it = alone s

  absent_there : (gap : Gap) → is_among w (stmts_names (filled gap (alone s))) ≡ false → is_among w (stmt_names s) ≡ false
  absent_there (at_front rest) h = (neither w (stmt_names s) (stmts_names rest) h).0
  absent_there (past y gap) h = absent_there gap (neither w (stmt_names y) (stmts_names (filled gap (alone s))) h).1
  absent_there (in_then c gap other rest) h =
      let whole = neither w (stmt_names (If c (filled gap it) other)) (stmts_names rest) h in
      let parts = neither w (cond_names c ++ stmts_names (filled gap it)) (stmts_names other) whole.0 in
      absent_there gap (neither w (cond_names c) (stmts_names (filled gap it)) parts.0).1
  absent_there (in_else c first gap rest) h =
      let whole = neither w (stmt_names (If c first (filled gap it))) (stmts_names rest) h in
      absent_there gap (neither w (cond_names c ++ stmts_names first) (stmts_names (filled gap it)) whole.0).1
  absent_there (in_body g gap rest) h =
      let whole = neither w (stmt_names (Do g (filled gap it))) (stmts_names rest) h in
      absent_there gap (neither w (head_names g) (stmts_names (filled gap it)) whole.0).1

  -- a PARALLEL DO round the gap has other copies of the new variable alone
  module _ (p : Setting) (new : StmtTrees) where
    copies : (n : ℕ) (g : Head) (gap : Gap) → is_among w (head_names g) ≡ false → is_among w (stmts_names (filled gap (alone s))) ≡ false → HasOtherCopies (w ∷ []) (is_cell_among (w ∷ [])) p (alone s) new n g gap
    copies n g gap absent absent_in = record {
      variable = λ i. other_text g.variable head.variable i || false;
      private = λ y k. (λ i. other_text y (not_among g.private w y head.private k) i || false);
      copies = λ y k. inr (λ scope seen m j. cell_among (w ∷ []) (frame (entered_with p n g (filled gap (alone s)) seen m) j ∷ scope) y ∙ k);
      went = λ y k there stands. absurd (both_ways (is_among w (all_loop_variables (filled gap (alone s)))) (all_loops_named w (filled gap (alone s)) absent_in) (ap (λ (z : List ℕ). is_among z (all_loop_variables (filled gap (alone s)))) (sym (its_name y k)) ∙ there));
    }
      where
        its_name : (y : List ℕ) → is_among y (w ∷ []) ≡ true → y ≡ w
        its_name y k = by (is_same_text y w) refl k
          where
            by : (b : Bool) → is_same_text y w ≡ b → b || false ≡ true → y ≡ w
            by true e h = same_is y w e
            by false e h = absurd cc

        head : UnnamedHead w g
        head = unnamed_head w g absent

        other_text : (y : List ℕ) → is_same_text w y ≡ false → is_same_text y w ≡ false
        other_text y apart = go (is_same_text y w) refl
          where
            go : (b : Bool) → is_same_text y w ≡ b → b ≡ false
            go true k = absurd (both_ways (is_same_text w y) apart (ap (is_same_text w) (same_is y w k) ∙ text_itself w))
            go false k = refl

    round_gap : (gap : Gap) (n : ℕ) → is_among w (stmts_names (filled gap (alone s))) ≡ false → OfParallelRound (HasOtherCopies (w ∷ []) (is_cell_among (w ∷ [])) p (alone s) new) gap n
    round_gap (at_front rest) n h = tt
    round_gap (past y gap) n h = round_gap gap (n + statement_count y) (neither w (stmt_names y) (stmts_names (filled gap (alone s))) h).1
    round_gap (in_then c gap other rest) n h =
        let whole = neither w (stmt_names (If c (filled gap it) other)) (stmts_names rest) h in
        let parts = neither w (cond_names c ++ stmts_names (filled gap it)) (stmts_names other) whole.0 in
        round_gap gap (n + 1) (neither w (cond_names c) (stmts_names (filled gap it)) parts.0).1
    round_gap (in_else c first gap rest) n h =
        let whole = neither w (stmt_names (If c first (filled gap it))) (stmts_names rest) h in
        round_gap gap (n + 1 + statements_count first) (neither w (cond_names c ++ stmts_names first) (stmts_names (filled gap it)) whole.0).1
    round_gap (in_body g gap rest) n h =
        let whole = neither w (stmt_names (Do g (filled gap it))) (stmts_names rest) h in
        let parts = neither w (head_names g) (stmts_names (filled gap it)) whole.0 in
        ((λ e. copies n g gap parts.0 parts.1), round_gap gap (n + 1) parts.1)

-- a cell of the one name
of_one : (w : List ℕ) (c : Cell) → is_cell_among (w ∷ []) c ≡ true → is_cell_of w c ≡ true
of_one w (Scalar y) h = by (is_same_text y w) refl h
  where
    by : (b : Bool) → is_same_text y w ≡ b → b || false ≡ true → is_same_text w y ≡ true
    by true e k = ap (is_same_text w) (same_is y w e) ∙ text_itself w
    by false e k = absurd cc
of_one w (Private y path) h = by (is_same_text y w) refl h
  where
    by : (b : Bool) → is_same_text y w ≡ b → b || false ≡ true → is_same_text w y ≡ true
    by true e k = ap (is_same_text w) (same_is y w e) ∙ text_itself w
    by false e k = absurd cc
of_one w (cells.Element y js) h = absurd cc
of_one w In h = absurd cc
of_one w Out h = absurd cc

module _ (t u : ProgramTree) (l : ℕ) (loop : LoopOf t l) (K : ℕ) (w : List ℕ) (x : IsStripping t u l loop K w) where
  abbrev p : Setting
  p = setting_of t

  abbrev old_loop : StmtTree
  old_loop = Do loop.head loop.body

  abbrev inner_loop : StmtTree
  inner_loop = Do (strip_head (pos K) w loop.head) loop.body

  abbrev new_loop : StmtTree
  new_loop = Do (strips_head (pos K) w loop.head) (alone (Do (strip_head (pos K) w loop.head) loop.body))

  abbrev old : StmtTrees
  old = alone (Do loop.head loop.body)

  abbrev new : StmtTrees
  new = alone (Do (strips_head (pos K) w loop.head) (alone (Do (strip_head (pos K) w loop.head) loop.body)))

  abbrev by : StmtTree → StmtTrees
  by s = with_strips (pos K) w loop.head loop.body

  abbrev all : ℕ
  all = statements_count t.body

  way : GivesWay by l (Do loop.head loop.body) t
  way = gives_way by l (Do loop.head loop.body) t loop.is

  decls : u.decls ≡ t.decls
  decls = ap (λ (v : ProgramTree). v.decls) x.new

  unnamed : is_among w (stmts_names t.body) ≡ false
  unnamed = unnamed_statements t w x.absent

  unnamed_filled : is_among w (stmts_names (filled way.gap old)) ≡ false
  unnamed_filled = ap (λ (ts : StmtTrees). is_among w (stmts_names ts)) (sym way.old) ∙ unnamed

  -- statements count so in the new program: the DO over the strips under the old DO's number, the DO over one strip under a number that no statement has, and the others under their own
  abbrev inside : List (ℕ × ℕ)
  inside = (l, l) ∷ ((l + 1, all + 1) ∷ in_a_row (l + 1 + 1) (l + 1) (statements_count loop.body))

  room : l + statements_count old ≤ all + 1
  room =
      let most = number_room way.gap old 1 in
      let number = way.number in
      let count : all ≡ statements_count (filled way.gap old) = ap statements_count way.old in
      omega (arith, most, number, count)

  fit : FitInGap l (statements_count old) (statements_count new) all inside
  fit = record {
    room = room;
    apart = (
      (λ y i. elim i [
        | inl e ↦ (let first = ap (λ (z : ℕ × ℕ). z.0) e in let second = ap (λ (z : ℕ × ℕ). z.1) e in let most = room in (λ k. omega (arith, first, k), λ k. omega (arith, second, k, most)))
        | inr j ↦ (let r = in_row (l + 1 + 1) (l + 1) (statements_count loop.body) y j in let first = r.2 in let second = r.3 in (λ k. omega (arith, first, k), λ k. omega (arith, second, k)))
      ]),
      (
        (λ y j. let r = in_row (l + 1 + 1) (l + 1) (statements_count loop.body) y j in let first = r.2 in let second = r.3 in let less = r.1 in let most = room in (λ k. omega (arith, first, k), λ k. omega (arith, second, k, less, most))),
        row_apart (l + 1 + 1) (l + 1) (statements_count loop.body),
      ),
    );
    from = λ y i. elim i [
      | inl e ↦ (let first = ap (λ (z : ℕ × ℕ). z.0) e in omega (arith, first))
      | inr k ↦ elim k [
        | inl e ↦ (let first = ap (λ (z : ℕ × ℕ). z.0) e in omega (arith, first))
        | inr j ↦ (let r = in_row (l + 1 + 1) (l + 1) (statements_count loop.body) y j in let first = r.2 in omega (arith, first))
      ]
    ];
    to = λ y i. elim i [
      | inl e ↦ (let first = ap (λ (z : ℕ × ℕ). z.0) e in omega (arith, first))
      | inr k ↦ elim k [
        | inl e ↦ (let first = ap (λ (z : ℕ × ℕ). z.0) e in omega (arith, first))
        | inr j ↦ (let r = in_row (l + 1 + 1) (l + 1) (statements_count loop.body) y j in let first = r.2 in let less = r.1 in omega (arith, first, less))
      ]
    ];
    under = λ y i. elim i [
      | inl e ↦ (let second = ap (λ (z : ℕ × ℕ). z.1) e in inl (omega (arith, second), omega (arith, second)))
      | inr k ↦ elim k [
        | inl e ↦ (let second = ap (λ (z : ℕ × ℕ). z.1) e in inr (omega (arith, second)))
        | inr j ↦ (let r = in_row (l + 1 + 1) (l + 1) (statements_count loop.body) y j in let second = r.3 in let less = r.1 in inl (omega (arith, second), omega (arith, second, less)))
      ]
    ];
  }

  abbrev pairs : List (ℕ × ℕ)
  pairs = kept_numbers l (statements_count old) (statements_count new) all inside

  abbrev counted : ℕ → ℕ
  counted = counted_by (kept_numbers l (statements_count old) (statements_count new) all inside)

  abbrev told : ℕ → ℕ
  told = told_by (kept_numbers l (statements_count old) (statements_count new) all inside)

  back : IsToldBack counted told
  back = told_back pairs

  abbrev q : Setting
  q = renumbered (counted_by (kept_numbers l (statements_count old) (statements_count new) all inside)) (setting_of u)

  constants : q.constants ≡ p.constants
  constants = same_values t u (sym decls)

  bounds : (y : List ℕ) → is_same_text w y ≡ false → q.bounds y ≡ p.bounds y
  bounds y apart = ap bounds_of (x.kinds y apart)

  counts : CountsStrips p q l loop.body w
  counts = record {
    constants = constants;
    bounds = bounds;
    outer = inside_counts l (statements_count old) (statements_count new) all inside fit (l, l) (inl refl);
    inside = λ m less.
        let r = row_in (l + 1 + 1) (l + 1) (statements_count loop.body) m less in
        ap (counted_by (kept_numbers l (statements_count old) (statements_count new) all inside)) (sym r.2) ∙ inside_counts l (statements_count old) (statements_count new) all inside fit r.0 (inr (inr r.1)) ∙ r.3;
  }

  can : CanStrip p loop.head loop.body w
  can = record {
    serial = x.serial;
    private = x.private;
    step = ap (λ (o : Option ℤ). unwrap_or o (pos 1)) x.step;
    absent = absent_there w old_loop way.gap unnamed_filled;
    no_constant = others_unvalued t w (constants_absent t w x.absent);
  }

  stripped : IsStripped t l loop K w q
  stripped = record { valid = x.valid; some = x.some; few = x.few; name = x.name; absent = x.absent; counts = counts; can = can; contained = x.contained; plain = x.plain }

  -- both programs fill one gap
  abbrev first : ℕ
  first = number_at way.gap 1

  abbrev Near : Scope → Scope → Type 0
  Near = AreNear (w ∷ []) (is_cell_among (w ∷ []))

  indices : (y : List ℕ) → is_among y (w ∷ []) ≡ false → is_among y (all_loop_variables new) ≡ is_among y (all_loop_variables old)
  indices y apart =
      (λ i. is_among y (append-nil (w ∷ (append-nil (loop.head.variable ∷ all_loop_variables loop.body) i)) i))
      ∙ (λ i. (none i) || is_among y (loop.head.variable ∷ all_loop_variables loop.body))
      ∙ (λ i. is_among y (sym (append-nil (loop.head.variable ∷ all_loop_variables loop.body)) i))
    where
      none : is_same_text y w ≡ false
      none = by (is_same_text y w) apart
        where
          by : (b : Bool) → b || false ≡ false → b ≡ false
          by true e = absurd cc
          by false e = refl

  pasted : IsPastedBut (w ∷ []) (is_cell_among (w ∷ [])) p q way.gap old new t u
  pasted = record {
    old_body = way.old;
    new_body = ap (λ (v : ProgramTree). v.body) x.new ∙ way.new;
    bounds = λ y k. sym (bounds y (not_among (stmts_names t.body) w y unnamed k));
    constants = sym constants;
    one_each = λ m n e. e;
    numbers = subst (λ (n : ℕ). CountAlike p q n (statements_count old) (statements_count new) all) (sym way.number) (count_alike l (statements_count old) (statements_count new) all inside fit t u);
    some = way.some;
    unstopped = (λ i. loop_stops t l loop (fitting_stops t x.valid.fits) i || false);
    indices = λ k. indices;
    round = round_gap w old_loop p new way.gap 1 unnamed_filled;
  }

  beside : (scope other : Scope) → Near scope other → AreBeside w scope other
  beside scope other near = record {
    turns = near.turns;
    index = near.index;
    cell = λ y apart. elim (near.cell y) [
      | inl e ↦ e
      | inr k ↦ absurd (both_ways (is_same_text w y) apart (by y k.0))
    ];
  }
    where
      by : (y : List ℕ) → is_among y (w ∷ []) ≡ true → is_same_text w y ≡ true
      by y k = of_one w (Scalar y) k

  module _ (data_bytes : List ℕ) (free : IsRaceFree t data_bytes) where
    abbrev start : Store
    start = store_at_start (lines data_bytes)

    abbrev apart : Cell → Bool
    apart = stands_apart (w ∷ loop_variables (Do loop.head loop.body))

    abbrev asked : List Act → Cell → Bool
    asked = agreed (stands_apart (w ∷ loop_variables (Do loop.head loop.body))) (shown_at_end t)

    abbrev count : ℕ
    count = statements_count (alone (Do loop.head loop.body))

    abbrev fresh : (scope other : Scope) → Store → List Act
    fresh scope other s = (run_all q (alone (Do (strips_head (pos K) w loop.head) (alone (Do (strip_head (pos K) w loop.head) loop.body)))) l other s).acts

    quiet : LeaveApart (is_cell_among (w ∷ [])) p t first count (run_of t data_bytes).acts
    quiet a i v j named = absurd (both_ways (is_cell_of w v.cell) (leaves_alone t x.valid w x.name x.absent data_bytes a i v j) (of_one w v.cell named))

    module _ (scope other : Scope) (front behind : List Act) (s : Store) (near : Near scope other) (executed : IsExecuted p t start l count scope front (run_all p old l scope s).acts behind s) (goes : finish_of (run_all p old l scope s).ending ≡ goes_on) where
      executed_alone : IsExecuted p t start l count scope front (run p (Do loop.head loop.body) l scope s).acts behind s
      executed_alone = subst (λ (r : Run). IsExecuted p t start l count scope front r.acts behind s) (run_alone p (Do loop.head loop.body) l scope s) executed

      goes_alone : finish_of (run p (Do loop.head loop.body) l scope s).ending ≡ goes_on
      goes_alone = ap (λ (r : Run). finish_of r.ending) (sym (run_alone p (Do loop.head loop.body) l scope s)) ∙ goes

      new_acts : fresh scope other s ≡ (run q new_loop l other s).acts
      new_acts = ap (λ (r : Run). r.acts) (run_alone q new_loop l other s)

      replayed : Replays (run_all q new l other) (fresh scope other s) goes_on
      replayed =
          subst (λ (f : Store → Run). Replays f (fresh scope other s) goes_on) (sym (λ i v. run_alone q new_loop l other v i))
          (subst (λ (acts : List Act). Replays (run q new_loop l other) acts goes_on) (sym new_acts) (does_strips t l loop K w q stripped data_bytes free.0 scope other (beside scope other near) front behind s executed_alone goes_alone))

      stood : StandsFor (record { agreed = asked ((run_all p old l scope s).acts ++ behind); old = (run_all p old l scope s).acts; new = fresh scope other s }) (asked behind) s
      stood =
          subst (λ (r : Run). StandsFor (record { agreed = asked (r.acts ++ behind); old = r.acts; new = fresh scope other s }) (asked behind) s) (sym (run_alone p (Do loop.head loop.body) l scope s))
          (subst (λ (acts : List Act). StandsFor (record { agreed = asked ((run p (Do loop.head loop.body) l scope s).acts ++ behind); old = (run p (Do loop.head loop.body) l scope s).acts; new = acts }) (asked behind) s) (sym new_acts)
          (stands_strips t l loop K w q stripped data_bytes free.0 scope other (beside scope other near) front behind s executed_alone goes_alone))

      unraced : AreRaceFree t l scope (run_all p old l scope s).acts (fresh scope other s)
      unraced =
          subst (λ (r : Run). AreRaceFree t l scope r.acts (fresh scope other s)) (sym (run_alone p (Do loop.head loop.body) l scope s))
          (subst (AreRaceFree t l scope (run p (Do loop.head loop.body) l scope s).acts) (sym new_acts) (free_strips t l loop K w q stripped data_bytes free.0 scope other (beside scope other near) front behind s executed_alone goes_alone))

    nothing_asked : AskNothing asked (w ∷ []) (is_cell_among (w ∷ [])) p t start l
    nothing_asked front behind s before after e y k = inr (λ i. none e.scope, λ i. none e.other)
      where
        sub : (a : Act) → IsIn a behind → IsIn a (run_of t data_bytes).acts
        sub a i = subst (IsIn a) (sym e.whole) (in_right a front (before ++ behind) (in_right a before behind i))

        none : (S : Scope) → asked behind (cell_of S y) ≡ false
        none S =
            let named : is_cell_among (w ∷ []) (cell_of S y) ≡ true = cell_among (w ∷ []) S y ∙ k in
            let among : is_among y (w ∷ loop_variables (Do loop.head loop.body)) ≡ true = ap (λ (b : Bool). b || is_among y (loop_variables (Do loop.head loop.body))) (same_one y k) in
            (λ i. not (idle_apart (w ∷ loop_variables (Do loop.head loop.body)) (cell_of S y) (cell_among (w ∷ loop_variables (Do loop.head loop.body)) S y ∙ among) i)
            || unwanted_name t x.valid w x.name x.absent data_bytes behind sub (cell_of S y) (of_one w (cell_of S y) named) i)
          where
            same_one : (z : List ℕ) → is_among z (w ∷ []) ≡ true → is_same_text z w ≡ true
            same_one z h = by_test (is_same_text z w) h
              where
                by_test : (b : Bool) → b || false ≡ true → b ≡ true
                by_test true h = refl
                by_test false h = absurd cc

    abbrev Made : ℕ → Type 0
    Made n =
        (parts : List Part) × (old_parts parts ≡ (run_of t data_bytes).acts) × AreExchangedNear (w ∷ []) (is_cell_among (w ∷ [])) p t start n count (run_all p old n) fresh [] parts [] start
        × Replays (run_all q u.body 1 []) (new_parts parts) (finish_of (run_of t data_bytes).ending)

    made : Made l
    made =
        subst Made way.number
        (exchanged_near (w ∷ []) (is_cell_among (w ∷ [])) p q way.gap old new t u start fresh pasted quiet
        (subst (λ (n : ℕ). DoNear (w ∷ []) (is_cell_among (w ∷ [])) p q t start n count (run_all p old n) new (λ scope other s. (run_all q new l other s).acts)) (sym way.number)
        (λ scope other front behind s near executed goes. replayed scope other front behind s near executed goes))
        free.0)

    stand : PartsStandBy asked made.0 start
    stand = all_stand_near (shown_at_end t) asked (apart_suit apart (shown_at_end t)) (w ∷ []) (is_cell_among (w ∷ [])) p t start l count (run_all p old l) fresh (λ scope other front behind s near executed goes. stood scope other front behind s near executed goes) nothing_asked made.0 made.2

    no_race : new_parts made.0 ≡ (run_all q u.body 1 [] start).acts → HasNoRace (accesses (old_parts made.0)) → HasNoRace (accesses (new_parts made.0))
    no_race news_are none =
        near_races t u x.valid counted told back x.new_valid (w ∷ []) (is_cell_among (w ∷ [])) l old (omega arith) fresh data_bytes
        (λ scope other front behind s near executed goes. unraced scope other front behind s near executed goes) made.0 made.1 made.2 news_are none

  live_kinds : (y : List ℕ) → is_among y (live_names t) ≡ true → kind_in u y ≡ kind_in t y
  live_kinds y k = x.kinds y (not_among (flat_map saved_in t.decls) w y (unsaved_name t w x.absent) (sym (sorted_among y (flat_map saved_in t.decls)) ∙ k))

  same_saved : flat_map saved_in u.decls ≡ flat_map saved_in t.decls
  same_saved = ap (λ (ds : List DeclTree). flat_map saved_in ds) decls

  pub strips_keep : Keeps t u
  strips_keep = keeps_always t u same_saved (λ data_bytes free. made_keeps t u data_bytes free (record {
    saved = same_saved;
    kinds = live_kinds;
    counted = counted;
    told = told;
    back = back;
    agreed = agreed (stands_apart (w ∷ loop_variables (Do loop.head loop.body))) (shown_at_end t);
    suit = apart_suit (stands_apart (w ∷ loop_variables (Do loop.head loop.body))) (shown_at_end t);
    parts = (made data_bytes free).0;
    old_are = (made data_bytes free).1;
    stand = stand data_bytes free;
    replays = (made data_bytes free).3;
    free = no_race data_bytes free;
  }))
