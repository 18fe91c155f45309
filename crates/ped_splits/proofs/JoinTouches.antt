-- The cells that two DO loops touch in their iterations: what names stand for round them, and copies further inside.
use Rattle.std.proofs.Common.{List, [], ap, append_assoc, arith, if◌then◌else◌, inl, inr, refl, subst, sym, ℕ, ◌++◌, ◌+◌, ◌<◌, ◌∙◌, ◌∷◌, ◌≡◌, ◌≤◌, ◌⊎◌}
use Rattle.std.specs.Str.Lines.{lines}
use Rattle.ped_base.specs.Lists.{is_among}
use Rattle.ped_tree.specs.Numbering.{statements_count}
use Rattle.ped_tree.specs.Tree.{Do, ProgramTree}
use Rattle.ped_rules.specs.ped_loop_runs.proofs.PastingLaws.LeftCopies.{IsOwn, all_reach}
use Rattle.ped_rules.specs.ped_loop_runs.specs.Executions.{IsCopyInside, IsExecuted}
use Rattle.ped_rules.specs.ped_bodies.proofs.BodyLaws.LikewiseActs.{likewise_stripped}
use Rattle.ped_rules.specs.ped_bodies.proofs.BodyLaws.MovedCells.{path_append}
use Rattle.ped_rules.specs.ped_bodies.specs.Moving.{in_loop, is_cell_among, moved_behind, own_number}
use Rattle.ped_rules.specs.ped_bodies.specs.Trips.{IsMadeOfTrips}
use Rattle.ped_rules.specs.ped_laws.specs.Acts.Conflicts.{ReadNone, without}
use Rattle.ped_rules.specs.ped_laws.specs.Acts.Fitting.{store_after}
use Rattle.ped_rules.specs.ped_laws.specs.Acts.Orders.{IsIn}
use Rattle.ped_rules.specs.ped_laws.specs.Acts.Renaming.{Renamed}
use Rattle.ped_rules.specs.ped_laws.specs.Runs.Replaying.{finish_of, goes_on}
use Rattle.ped_rules.specs.ped_eval.specs.Loops.{Entered, copied_names, frame}
use Rattle.ped_rules.specs.ped_eval.specs.Outcomes.{setting_of}
use Rattle.ped_rules.specs.ped_eval.specs.Runs.{run, run_all}
use Rattle.ped_rules.specs.ped_eval.specs.Scopes.{Scope, Setting, cell_of, turns_of}
use Rattle.ped_rules.specs.ped_store.specs.Acts.{Act, Touch, iterations_of}
use Rattle.ped_rules.specs.ped_store.specs.Cells.{Cell, Iteration, Private}
use Rattle.ped_rules.specs.ped_store.specs.Stores.{Store, store_at_start}
use Rattle.ped_splits.proofs.JoinFacts.{AreJoined, both_loops, variables_of}
use Rattle.ped_splits.proofs.JoinNames.{IsReached, among_alike, other_stays, own_stays, same_loop}
use Rattle.ped_splits.proofs.JoinUnread.{first_unread, second_unread}
use Rattle.ped_splits.proofs.SplitRenamed.{other_likewise}
use Rattle.ped_splits.proofs.JoinRuns as runs

module _ (p : Setting) (scope : Scope) (w : Entered) (none : copied_names w ≡ []) (i : ℕ) where
  -- a copy of a DO with one of so many numbers, inside the iteration
  pub record IsDeeper (low count : ℕ) (c : Cell) : Type 0 where
    pub name : List ℕ
    pub inner : Iteration
    pub rest : List Iteration
    pub from : low ≤ inner.statement
    pub to : inner.statement < low + count
    pub is : c ≡ Private name (iterations_of (turns_of scope) ++ record { statement = w.number; number = i } ∷ (inner ∷ rest))

  same_cell_there : (y : List ℕ) → cell_of (frame w i ∷ scope) y ≡ cell_of scope y
  same_cell_there y = ap (λ (ys : List (List ℕ)). if is_among y ys then Private y (iterations_of (turns_of (frame w i ∷ scope))) else cell_of scope y) none

  its_path : iterations_of (turns_of (frame w i ∷ scope)) ≡ iterations_of (turns_of scope) ++ record { statement = w.number; number = i } ∷ []
  its_path = path_append (frame w i ∷ []) scope

  -- without copies of the iteration itself
  pub touched_so : (low count : ℕ) (number_kept : (n : ℕ) → p.number n ≡ n) (c : Cell) → IsOwn p (frame w i ∷ scope) c ⊎ IsCopyInside p (frame w i ∷ scope) low count c → IsOwn p scope c ⊎ IsDeeper low count c
  touched_so low count kept c (inl (inl own)) = inl (inl (own.0, own.1 ∙ same_cell_there own.0))
  touched_so low count kept c (inl (inr other)) = inl (inr other)
  touched_so low count kept c (inr r) =
      let j : Iteration = record { statement = p.number r.statement; number = r.number } in
      let low_is = r.from in
      let high_is = r.to in
      let same = kept r.statement in
      inr (record {
        name = r.name;
        inner = j;
        rest = r.rest;
        from = omega (arith, low_is, same);
        to = omega (arith, high_is, same);
        is = r.is ∙ ap (λ (path : List Iteration). Private r.name (path ++ j ∷ r.rest)) its_path ∙ ap (Private r.name) (append_assoc (iterations_of (turns_of scope)) (record { statement = w.number; number = i } ∷ []) (j ∷ r.rest));
      })

module _ (t u : ProgramTree) (s : ℕ) (x : AreJoined t u s) (data_bytes : List ℕ) (scope : Scope) (front behind : List Act) (v : Store)
    (executed : IsExecuted (setting_of t) t (store_at_start (lines data_bytes)) s (statements_count (both_loops x)) scope front (run_all (setting_of t) (both_loops x) s scope v).acts behind v)
    (goes : finish_of (run_all (setting_of t) (both_loops x) s scope v).ending ≡ goes_on) where
  abbrev p : Setting
  p = setting_of t

  abbrev m : ℕ
  m = s + 1 + statements_count x.own_body

  abbrev e : Entered
  e = runs.e t u s x data_bytes scope front behind v executed goes

  abbrev e2 : Entered
  e2 = runs.e2 t u s x data_bytes scope front behind v executed goes

  abbrev old : IsMadeOfTrips (setting_of t) x.own x.own_body s scope v
  old = runs.old t u s x data_bytes scope front behind v executed goes

  abbrev other : IsMadeOfTrips (setting_of t) x.next x.next_body (s + 1 + statements_count x.own_body) scope (store_after (run (setting_of t) (Do x.own x.own_body) s scope v).acts v)
  other = runs.other t u s x data_bytes scope front behind v executed goes

  pub numbers_rise : s < s + 1 + statements_count x.own_body
  numbers_rise = omega arith

  abbrev pub IsCell : Cell → Type 0
  IsCell c = IsReached (setting_of t) scope s (s + 1 + statements_count x.own_body) numbers_rise c

  module _ (i : ℕ) (from : 1 ≤ i) (to : i ≤ e.count) where
    pub first_touches : (a : Act) → IsIn a (old.trip i) → (y : Touch) → IsIn y a.touches → IsOwn p scope y.cell ⊎ IsDeeper p scope e (runs.first_private t u s x data_bytes scope front behind v executed goes) i (s + 1) (statements_count x.own_body) y.cell
    first_touches a n y j =
        let was = old.are i from to in
        touched_so p scope e (runs.first_private t u s x data_bytes scope front behind v executed goes) i (s + 1) (statements_count x.own_body) (λ k. refl) y.cell
        (all_reach p x.own_body (s + 1) (frame e i ∷ scope) _ a (subst (IsIn a) was.is n) y j)

    within : i ≤ e2.count
    within = let many = runs.counts t u s x data_bytes scope front behind v executed goes in omega (arith, to, many)

    pub second_touches : (a : Act) → IsIn a (other.trip i) → (y : Touch) → IsIn y a.touches → IsOwn p scope y.cell ⊎ IsDeeper p scope e2 (runs.second_private t u s x data_bytes scope front behind v executed goes) i (m + 1) (statements_count x.next_body) y.cell
    second_touches a n y j =
        let was = other.are i from within in
        touched_so p scope e2 (runs.second_private t u s x data_bytes scope front behind v executed goes) i (m + 1) (statements_count x.next_body) (λ k. refl) y.cell
        (all_reach p x.next_body (m + 1) (frame e2 i ∷ scope) _ a (subst (IsIn a) was.is n) y j)

    pub first_cells : (a : Act) → IsIn a (old.trip i) → (y : Touch) → IsIn y a.touches → IsCell y.cell
    first_cells a n y j = elim (first_touches a n y j) [
      | inl own ↦ inl own
      | inr r ↦ (let high = r.to in inr (record { name = r.name; number = i; inner = r.inner; rest = r.rest; of = s; is = r.is; which = inl (refl, omega (arith, high)) }))
    ]

    pub second_cells : (a : Act) → IsIn a (other.trip i) → (y : Touch) → IsIn y a.touches → IsCell y.cell
    second_cells a n y j = elim (second_touches a n y j) [
      | inl own ↦ inl own
      | inr r ↦ (let low = r.from in inr (record { name = r.name; number = i; inner = r.inner; rest = r.rest; of = m; is = r.is; which = inr (refl, omega (arith, low)) }))
    ]

    -- cells of the first one keep their names
    pub first_stay : (a : Act) → IsIn a (old.trip i) → (y : Touch) → IsIn y a.touches → moved_behind (iterations_of (turns_of scope)) (in_loop (s + 1 + statements_count x.own_body) s) y.cell ≡ y.cell
    first_stay a n y j = elim (first_touches a n y j) [
      | inl own ↦ own_stays p scope m s y.cell own
      | inr r ↦ other_stays p scope m s y.cell r.name s i (r.inner ∷ r.rest) (λ same. omega (arith, same)) r.is
    ]

    -- they read no variable of a DO
    pub first_reads : ReadNone (is_cell_among (variables_of x)) (old.trip i)
    first_reads = subst (ReadNone (is_cell_among (variables_of x))) (sym (old.are i from to).is) (first_unread t u s x p (frame e i) scope _ refl)

    pub second_reads : ReadNone (is_cell_among (variables_of x)) (other.trip i)
    second_reads = subst (ReadNone (is_cell_among (variables_of x))) (sym (other.are i from within).is) (second_unread t u s x p (frame e2 i) scope _ x.variable)

    -- in the one DO they do the same on cells by their new names
    pub first_renamed : Renamed (runs.second_names t u s x data_bytes scope front behind v executed goes) (without (is_cell_among (variables_of x)) (old.trip i)) (without (is_cell_among (variables_of x)) (runs.new_part t u s x data_bytes scope front behind v executed goes i 0))
    first_renamed =
        let names = runs.second_names t u s x data_bytes scope front behind v executed goes in
        let firsts = runs.first_names t u s x data_bytes scope front behind v executed goes in
        let turns = turns_of (frame e i ∷ scope) in
        let others = turns_of (frame (runs.z t u s x data_bytes scope front behind v executed goes) i ∷ scope) in
        let fresh = runs.new_part t u s x data_bytes scope front behind v executed goes i 0 in
        (likewise_stripped names (is_cell_among (variables_of x)) (among_alike p scope m s (variables_of x)) own_number turns others (old.trip i) fresh first_reads
        (other_likewise firsts names (is_cell_among (variables_of x)) (among_alike p scope s s (variables_of x)) own_number turns others (old.trip i) fresh
        (λ a n y j some. inr (same_loop p scope s y.cell ∙ sym (first_stay a n y j)))
        (runs.first_done t u s x data_bytes scope front behind v executed goes i from to).likewise)).0

    pub second_renamed : Renamed (runs.second_names t u s x data_bytes scope front behind v executed goes) (without (is_cell_among (variables_of x)) (other.trip i)) (without (is_cell_among (variables_of x)) (runs.new_part t u s x data_bytes scope front behind v executed goes i 1))
    second_renamed =
        let names = runs.second_names t u s x data_bytes scope front behind v executed goes in
        let turns = turns_of (frame e2 i ∷ scope) in
        let others = turns_of (frame (runs.z t u s x data_bytes scope front behind v executed goes) i ∷ scope) in
        let fresh = runs.new_part t u s x data_bytes scope front behind v executed goes i 1 in
        (likewise_stripped names (is_cell_among (variables_of x)) (among_alike p scope m s (variables_of x)) own_number turns others (other.trip i) fresh second_reads
        (other_likewise names names (is_cell_among (variables_of x)) (among_alike p scope m s (variables_of x)) own_number turns others (other.trip i) fresh (λ a n y j some. inr refl)
        (runs.second_done t u s x data_bytes scope front behind v executed goes i from to).likewise)).0
