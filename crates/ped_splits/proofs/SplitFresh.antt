-- New DO loops but the first have numbers that no DO of the program has: nothing behind the old DO touches copies of theirs.
use Rattle.std.proofs.Common.{◌≡◌, ◌⊎◌, ℕ, zero, suc, ◌+◌, ◌<◌, ◌≤◌, List, [], ◌∷◌, ◌++◌, length, filter, Bool, true, false, ◌&&◌, not, Option, Some, None, inl, inr, if◌then◌else◌, refl, sym, ap, subst, ◌∙◌, arith}
use Rattle.std.proofs.lemmas.Bool.{and_parts, both_ways}
use Rattle.std.specs.List.{range_with_len}
use Rattle.std.specs.Option.{unwrap_or}
use Rattle.std.specs.Prelude.{slice_index_or}
use Rattle.std.specs.Str.Lines.{lines}
use Rattle.ped_base.specs.Lists.{is_among}
use Rattle.ped_tree.specs.Numbering.{statement_count, statements_count}
use Rattle.ped_tree.specs.Tree.{Head, StmtTree, StmtTrees, Assign, If, Do, Print, Read, Stop, Comment, no_stmts, more_stmts, ProgramTree}
use Rattle.ped_rules.specs.ped_loop_runs.proofs.LoopLaws.ApartTurns.{iterations_append}
use Rattle.ped_rules.specs.ped_loop_runs.proofs.LoopLaws.OneForOneCells.{touched_in}
use Rattle.ped_rules.specs.ped_loop_runs.specs.Numbers.{counted_by}
use Rattle.ped_rules.specs.ped_steps.proofs.RunLaws.RunCells.{EachDo, EachDos, all_keep}
use Rattle.ped_rules.specs.ped_flow.proofs.Answering.{loop_fits}
use Rattle.ped_rules.specs.ped_flow.specs.Questions.{LoopOf}
use Rattle.ped_rules.specs.ped_laws.proofs.ActLaws.Renamings.{needed_touched, or_either}
use Rattle.ped_rules.specs.ped_laws.specs.Acts.Fitting.{touches_of}
use Rattle.ped_rules.specs.ped_laws.specs.Acts.Orders.{IsIn}
use Rattle.ped_rules.specs.ped_laws.specs.Acts.Sets.{needs, wants, written}
use Rattle.ped_rules.specs.ped_laws.specs.Runs.Replaying.{finish_of, goes_on}
use Rattle.ped_rules.specs.ped_eval.specs.Evaluation.{Seen}
use Rattle.ped_rules.specs.ped_eval.specs.Loops.{Limits, entered_with, frame}
use Rattle.ped_rules.specs.ped_eval.specs.Outcomes.{run_of, setting_of}
use Rattle.ped_rules.specs.ped_eval.specs.Runs.{run, run_all}
use Rattle.ped_rules.specs.ped_eval.specs.Scopes.{Scope, Setting, cell_of, turns_of}
use Rattle.ped_rules.specs.ped_store.specs.Acts.{Act, Touch, iterations_of}
use Rattle.ped_rules.specs.ped_store.specs.Cells.{Cell, Iteration, Scalar, Private, Element, In, Out}
use Rattle.ped_rules.specs.ped_store.specs.Stores.{Store, store_at_start}
use Rattle.ped_splits.proofs.PiBlockLaws.{In as InList, from_filter, in_either}
use Rattle.ped_splits.proofs.PiBlockSizes.{width}
use Rattle.ped_splits.proofs.DistributeTrusted.{each_placed}
use Rattle.ped_splits.proofs.Partitions.{blocks_few, flat}
use Rattle.ped_splits.proofs.ReferenceRows.{home_below}
use Rattle.ped_splits.proofs.SplitCells.{number_in}
use Rattle.ped_splits.proofs.SplitFacts.{IsSplit}
use Rattle.ped_splits.proofs.SplitNames.{number_of, unit_of_name, unit_of_statement}
use Rattle.ped_splits.proofs.SplitNumbers.{split_numbers}
use Rattle.ped_splits.proofs.SplitPlaces.{AllPlaced, AreFresh, ArePlaced, HaveNumbers, end_of, heads_numbered, look, units_placed}
use Rattle.ped_splits.proofs.SplitUnits.{size_of_unit}
use Rattle.ped_splits.proofs.UnitSizes.{homes_below}
use Rattle.ped_splits.specs.PiBlocks.{pi_blocks}
use Rattle.ped_splits.specs.Units.{homes, refers, unit_of, units}

-- paths and cells of DO loops with numbers up to this one
module _ (most : ℕ) where
  abbrev pub AreOld : List Iteration → Type 0
  AreOld [] = Unit {0}
  AreOld (i ∷ path) = (i.statement ≤ most) × AreOld path

  abbrev pub IsOld : Cell → Type 0
  IsOld (Scalar y) = Unit {0}
  IsOld (Private y path) = AreOld path
  IsOld (Element y js) = Unit {0}
  IsOld In = Unit {0}
  IsOld Out = Unit {0}

  old_append : (path more : List Iteration) → AreOld path → AreOld more → AreOld (path ++ more)
  old_append [] more h k = k
  old_append (i ∷ path) more h k = (h.0, old_append path more h.1 k)

  old_first : (path more : List Iteration) → AreOld (path ++ more) → AreOld path
  old_first [] more h = tt
  old_first (i ∷ path) more h = (h.0, old_first path more h.1)

  pub old_next : (path : List Iteration) (i : Iteration) (more : List Iteration) → AreOld (path ++ i ∷ more) → i.statement ≤ most
  old_next [] i more h = h.0
  old_next (j ∷ path) i more h = old_next path i more h.1

  old_scalar : (S : Scope) (y : List ℕ) → AreOld (iterations_of (turns_of S)) → IsOld (cell_of S y)
  old_scalar [] y old = tt
  old_scalar (f ∷ fs) y old =
      by (is_among y f.private) (old_scalar fs y (old_first (iterations_of (turns_of fs)) (iterations_of (f.turn ∷ [])) (subst AreOld (iterations_append (turns_of fs) (f.turn ∷ [])) old)))
    where
      by : (b : Bool) → IsOld (cell_of fs y) → IsOld (if b then Private y (iterations_of (turns_of (f ∷ fs))) else cell_of fs y)
      by true h = old
      by false h = h

  mutual
    do_old : (z : StmtTree) (n : ℕ) → n + statement_count z ≤ most + 1 → EachDo (λ k h b. k ≤ most) z n
    do_old (Assign left right) n h = tt
    do_old (If c a b) n h = (dos_old a (n + 1) (omega (arith, h)), dos_old b (n + 1 + statements_count a) (omega (arith, h)))
    do_old (Do head b) n h = (omega (arith, h), dos_old b (n + 1) (omega (arith, h)))
    do_old (Print items) n h = tt
    do_old (Read items) n h = tt
    do_old Stop n h = tt
    do_old (Comment text) n h = tt

    dos_old : (zs : StmtTrees) (n : ℕ) → n + statements_count zs ≤ most + 1 → EachDos (λ k h b. k ≤ most) zs n
    dos_old no_stmts n h = tt
    dos_old (more_stmts z rest) n h = (do_old z n (omega (arith, h)), dos_old rest (n + statement_count z) (omega (arith, h)))

-- a run of a program touches copies of its own DO loops alone
module _ (t : ProgramTree) where
  abbrev most : ℕ
  most = statements_count t.body

  abbrev p : Setting
  p = setting_of t

  abbrev Old : Scope → Cell → Type 0
  Old S c = AreOld most (iterations_of (turns_of S)) → IsOld most c

  outward : (n : ℕ) (h : Head) (body : StmtTrees) (seen : List Seen) (m : Limits) (k : ℕ) (S : Scope) (c : Cell) → n ≤ most → Old (frame (entered_with p n h body seen m) k ∷ S) c → Old S c
  outward n h body seen m k S c low r old =
      let turn = (frame (entered_with p n h body seen m) k).turn in
      r (subst (AreOld most) (sym (iterations_append (turns_of S) (turn ∷ []))) (old_append most (iterations_of (turns_of S)) (iterations_of (turn ∷ [])) old (low, tt)))

  all_old : (first : Store) (a : Act) → IsIn a (run_all p t.body 1 [] first).acts → (y : Touch) → IsIn y a.touches → IsOld most y.cell
  all_old first a i y j = all_keep p (λ k h b. k ≤ most) Old (λ S z old. old_scalar most S z old) (λ S z js w old. tt) (λ S old. tt) (λ S old. tt) outward t.body 1 [] first (dos_old most t.body 1 (omega arith)) a i y j tt

  -- no act of the run wants a copy of a DO that isn't there
  pub fresh_unwanted : (data_bytes : List ℕ) (acts : List Act) → ((a : Act) → IsIn a acts → IsIn a (run_of t data_bytes).acts) → (shown : Cell → Bool) (c : Cell) (name : List ℕ) (front : List Iteration) (i : Iteration) (rest : List Iteration)
      → c ≡ Private name (front ++ i ∷ rest) → statements_count t.body + 1 ≤ i.statement → shown c ≡ false → wants shown acts c ≡ true → ⊥
  fresh_unwanted data_bytes acts among shown c name front i rest is fresh hidden asked = elim (or_either (needs acts c) (shown c && not (written acts c)) asked) [
    | inl needed ↦ (
        let r = touched_in acts c (needed_touched (touches_of acts) c needed) in
        let old : IsOld most c = subst (IsOld most) r.4 (all_old (store_at_start (lines data_bytes)) r.0 (among r.0 r.1) r.2 r.3) in
        let low : i.statement ≤ most = old_next most front i rest (subst (IsOld most) is old) in
        omega (arith, low, fresh)
        )
    | inr seen ↦ both_ways (shown c) hidden (and_parts (shown c) (not (written acts c)) seen).0
  ]

-- where units stand
module _ (s : ℕ) (body : StmtTrees) (g : ℕ → ℕ) (place : ℕ → ℕ × ℕ) where
  placed_at : (at m : ℕ) (block : List ℕ) (k : ℕ) → ArePlaced body place at m block → InList k block → (place k).0 ≡ at
  placed_at at m [] k placed i = absurd i
  placed_at at m (j ∷ block) k placed (inl same) = ap (λ (n : ℕ). (place n).0) same ∙ ap (λ (w : ℕ × ℕ). w.0) placed.0
  placed_at at m (j ∷ block) k placed (inr i) = placed_at at (m + size_of_unit body j) block k placed.1 i

  -- units of one block stand in one DO
  pub same_loop : (at : ℕ) (bs : List (List ℕ)) → AllPlaced body place at bs → (y k j : ℕ) → InList k (slice_index_or bs y []) → InList j (slice_index_or bs y []) → (place k).0 ≡ (place j).0
  same_loop at [] placed y k j here there = absurd here
  same_loop at (block ∷ bs) placed zero k j here there = placed_at at (at + 1) block k placed.0 here ∙ sym (placed_at at (at + 1) block j placed.0 there)
  same_loop at (block ∷ bs) placed (suc y) k j here there = same_loop (end_of body (at + 1) block) bs placed.1 y k j here there

  fresh_number : (low at : ℕ) (bs : List (List ℕ)) → AllPlaced body place at bs → AreFresh s body g low at bs → (k : ℕ) → InList k (flat bs) → low ≤ g (place k).0
  fresh_number low at [] placed fresh k i = absurd i
  fresh_number low at (block ∷ bs) placed fresh k i = elim (in_either k block (flat bs) i) [
    | inl j ↦ subst (λ (n : ℕ). low ≤ g n) (sym (placed_at at (at + 1) block k placed.0 j)) fresh.0
    | inr j ↦ fresh_number low (end_of body (at + 1) block) bs placed.1 fresh.1 k j
  ]

  -- the first DO has the number of the old one
  pub head_number : (low at : ℕ) (bs : List (List ℕ)) → AllPlaced body place at bs → HaveNumbers s body g low at bs → (k : ℕ) → InList k (flat bs) → (g (place k).0 ≡ s) ⊎ (low ≤ g (place k).0)
  head_number low at [] placed numbers k i = absurd i
  head_number low at (block ∷ bs) placed numbers k i = elim (in_either k block (flat bs) i) [
    | inl j ↦ inl (ap g (placed_at at (at + 1) block k placed.0 j) ∙ numbers.0)
    | inr j ↦ inr (fresh_number low (end_of body (at + 1) block) bs placed.1 numbers.1 k j)
  ]

in_range : (a n m : ℕ) → InList m (range_with_len a n) → m < a + n
in_range a zero m i = absurd i
in_range a (suc n) m (inl e) = omega (arith, e)
in_range a (suc n) m (inr i) = let more = in_range (a + 1) n m i in omega (arith, more)

first_below : (n : ℕ) (ks : List ℕ) → 0 < n → ((k : ℕ) → InList k ks → k < n) → slice_index_or ks 0 0 < n
first_below n [] some h = some
first_below n (k ∷ ks) some h = h k (inl refl)

module _ (t : ProgramTree) (s : ℕ) (l : LoopOf t s) (found : List (List ℕ)) (x : IsSplit t s l found) (scope : Scope) (v : Store) (goes : finish_of (run (setting_of t) (Do l.head l.body) s scope v).ending ≡ goes_on) where
  abbrev many_units : ℕ
  many_units = length (units l.body)

  some_units : 0 < many_units
  some_units =
      let many = x.many in
      let rows = width t s l.head l.body found x.are in
      let order : length found ≡ length (pi_blocks x.are.reach) = ap (λ (bs : List (List ℕ)). length bs) x.are.order in
      let less : length (pi_blocks x.are.reach) ≤ length x.are.reach = blocks_few x.are.reach (length x.are.reach) (range_with_len 0 (length x.are.reach)) in
      omega (arith, rows, order, less, many)

  -- the DO of a unit has the number of the old one, or one that no DO of the program has
  pub unit_number : (k : ℕ) → k < length (units l.body) → (number_of t s l found x scope v goes k ≡ s) ⊎ (statements_count t.body + 1 ≤ number_of t s l found x scope v goes k)
  unit_number k less =
      head_number s l.body (counted_by (split_numbers t s l.body found)) (look l.body s found) (statements_count t.body + 1) s found (units_placed t s l.head l.body found x.are (loop_fits t s l.head l.body l.is))
      (heads_numbered t s l.head l.body found x.are (loop_fits t s l.head l.body l.is)) k (each_placed t s l.head l.body found x.are k less)

  pub name_below : (y : List ℕ) → unit_of_name t s l found x scope v goes y < many_units
  name_below y = first_below many_units (filter (refers t s l.body y) (range_with_len 0 many_units)) some_units (λ k i. let r = in_range 0 many_units k (from_filter (refers t s l.body y) k (range_with_len 0 many_units) i).0 in omega (arith, r))

  statement_below : (n : ℕ) → unit_of_statement t s l found x scope v goes n < many_units
  statement_below n = by (unit_of s l.body n) refl
    where
      by : (o : Option ℕ) → unit_of s l.body n ≡ o → unwrap_or o 0 < many_units
      by None e = some_units
      by (Some k) e = home_below s (homes 0 (units l.body)) n many_units k (homes_below 0 many_units (units l.body) (omega arith)) e

  -- so have copies in the old DO by their new names
  pub new_number : (y : List ℕ) (rest : List Iteration) → (number_in t s l found x scope v goes y rest ≡ s) ⊎ (statements_count t.body + 1 ≤ number_in t s l found x scope v goes y rest)
  new_number y [] = unit_number (unit_of_name t s l found x scope v goes y) (name_below y)
  new_number y (j ∷ rest) = unit_number (unit_of_statement t s l found x scope v goes j.statement) (statement_below j.statement)
