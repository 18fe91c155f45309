-- A DO in whose body an element stands for a scalar, and the assignment behind it: what they do, and that this may stand for what the DO did.
use Rattle.std.proofs.Common.{◌≡◌, ℕ, suc, ◌^◌, ℤ, pos, negsuc, neg_ℤ, int_le, int_lt, List, [], ◌∷◌, Bool, true, false, ◌&&◌, Ok, Err, refl, ap, ◌∙◌, arith, if◌then◌else◌, zero, ◌+◌, ◌≤◌, ◌++◌, sym, subst, inl, append_assoc, append-nil, Result}
use Rattle.std.specs.Prelude.{unsigned_abs, nat_lt, ◌||◌}
use Rattle.std.proofs.lemmas.Bool.{ltb-false, both_ways, or_from, or_parts}
use Rattle.std.proofs.lemmas.Int.{ints}
use Rattle.ped_base.specs.Arithmetic.Arithmetic.{in_range}
use Rattle.ped_base.specs.declared.arithmetic.faults.Fault.TheVariants.{OutOfRange}
use Rattle.ped_base.specs.Lists.{is_same_text, is_among}
use Rattle.ped_tree.specs.Tree.{Int, Var, Neg, Assign, no_stmts, more_stmts, Head, StmtTrees, Do, ProgramTree}
use Rattle.ped_tree.specs.Numbering.{statement_count}
use Rattle.ped_symbolic.specs.Arithmetic.{literal}
use Rattle.ped_symbolic.specs.Substitution.{statements_substituted}
use Rattle.ped_rules.specs.ped_store.specs.Cells as cells
use Rattle.ped_rules.specs.ped_store.specs.Cells.{Cell, Element, Private, same_cell}
use Rattle.ped_rules.specs.ped_store.specs.Stores.{Content, Number, Store, number_read, is_storable, storable, out_of_range, outside_bounds, put, Undefined}
use Rattle.ped_rules.specs.ped_store.specs.Storage.{is_within}
use Rattle.ped_rules.specs.ped_store.specs.Acts.{Touch, did, Place, Act, ended_turn, iterations_of, store_behind, entered}
use Rattle.ped_rules.specs.ped_eval.specs.Scopes.{Setting, Scope, Names, cell_of, names_in, place_of, turns_of}
use Rattle.ped_rules.specs.ped_eval.specs.Evaluation.{cell_seen, Evaluated, ◌>>>◌, given, by_number, read_cell, Seen}
use Rattle.ped_rules.specs.ped_eval.specs.Values.{element_cell, value}
use Rattle.ped_rules.specs.ped_eval.specs.Statements.{Stored, assigned, read_touch, write_touch}
use Rattle.ped_rules.specs.ped_eval.specs.Runs.{run_all, Run, turns, run}
use Rattle.ped_rules.specs.ped_laws.specs.Runs.Seeing.{ComesTo}
use Rattle.ped_rules.specs.ped_laws.specs.Runs.Replaying.{goes_on, act, Replays, Finish, has_fault, finish_of, ending_with}
use Rattle.ped_rules.specs.ped_laws.proofs.RunLaws.Joined.{replays_nothing, statements_more, assignment_does, turns_more, loop_in_order}
use Rattle.ped_scalar.proofs.ArraysForScalars.{element_expr, body_with, kept_value, new_statements}
use Rattle.ped_rules.specs.ped_laws.specs.Acts.Fitting.{Fits, store_after, of_cells}
use Rattle.ped_rules.specs.ped_laws.specs.Acts.Sets.{needs, written, written_by, AgreeIn, wants}
use Rattle.ped_rules.specs.ped_laws.specs.Acts.Renaming.{AreRenamed, Renamed, touch}
use Rattle.ped_rules.specs.ped_laws.proofs.ActLaws.SameCells.{text_itself, other_cell, cell_is, cell_itself}
use Rattle.ped_rules.specs.ped_laws.proofs.ActLaws.Stores.{after_append, fits_append, fits_first, put_same, put_other}
use Rattle.ped_rules.specs.ped_laws.proofs.ActLaws.Appending.{touch_append, renamed_append}
use Rattle.ped_rules.specs.ped_laws.proofs.ActLaws.Renamings.{renamed_leaves, behind_other, agreeing_fits, after_other}
use Rattle.ped_rules.specs.ped_eval.specs.Loops.{Limits, Entered, entered_with, frame, value_in, inner_variables, undefined_by, undefined_all, exit_touches, exit_when_none, limits, entry_touches}
use Rattle.ped_rules.specs.ped_eval.specs.Turns.{body_run}
use Rattle.ped_rules.specs.ped_laws.proofs.RunLaws.StatementsTold.{all_told, run_told}
use Rattle.ped_rules.specs.ped_steps.specs.Runs.Exchanging.{exchanged_store, exchanged_ending, swapped, is_of_scalar}
use Rattle.ped_rules.specs.ped_steps.specs.Runs.Substituting.{AreSameOn, element_at, MayStandFor}
use Rattle.ped_rules.specs.ped_steps.proofs.RunLaws.Replayed.{same_finish}
use Rattle.ped_rules.specs.ped_steps.proofs.RunLaws.Swapped.{cell_name, named_so, of_scalar, swapped_first, twice}
use Rattle.ped_rules.specs.ped_laws.specs.Acts.Pieces.{StandsFor}
use Rattle.ped_rules.specs.ped_laws.proofs.ActLaws.Exchanging.{needed_wanted}
use Rattle.ped_rules.specs.ped_laws.proofs.RunLaws.Sight.{limits_told}
use Rattle.ped_rules.specs.ped_eval.specs.Outcomes.{Ends}
use Rattle.ped_rules.specs.ped_flow.specs.Questions.{LoopOf}
use Rattle.ped_rules.specs.ped_laws.specs.FlowRuns.Covering.{is_number}
use Rattle.ped_rules.specs.ped_laws.specs.FlowRuns.Exits.{IsExit}
use Rattle.ped_rules.specs.ped_steps.specs.Runs.Pasting.{IsPlaceOf, IsDone}
use Rattle.ped_rules.specs.ped_steps.proofs.RunLaws.LeftLoops.{execution_left, going_ends}
use Rattle.ped_scalar.proofs.PrivatisedLoops.{exit_when_found, Agrees, body_fits, body_agrees, act_agrees, trip_goes, turns_are, more_goes, loop_is, turns_go}
use Rattle.ped_scalar.proofs.PrivatisedParts.{do_entered}

-- a literal that is not too large has its value
holds : (b : Bool) → (b ≡ false → ⊥) → b ≡ true
holds true n = refl
holds false n = absurd (n refl)

fails : (b : Bool) → (b ≡ true → ⊥) → b ≡ false
fails true n = absurd (n refl)
fails false n = refl

negative_in : (n : ℕ) → nat_lt 2147483647 (suc n) ≡ false → by_number (in_range (negsuc n)) ≡ Ok (negsuc n)
negative_in n near =
    let small = ltb-false 2147483647 (suc n) near in
    let from : int_le (neg_ℤ (pos (2 ^ 127))) (negsuc n) ≡ true = holds (int_le (neg_ℤ (pos (2 ^ 127))) (negsuc n)) (λ e. omega (arith, ints, small, e)) in
    let to : int_lt (negsuc n) (pos (2 ^ 127)) ≡ true = holds (int_lt (negsuc n) (pos (2 ^ 127))) (λ e. omega (arith, ints, e)) in
    ap (λ (b : Bool). by_number (if b && int_lt (negsuc n) (pos (2 ^ 127)) then Ok (negsuc n) else Err OutOfRange)) from
    ∙ ap (λ (b : Bool). by_number (if b then Ok (negsuc n) else Err OutOfRange)) to

pub literal_valued : (g : Names) (n : ℤ) (s : Store) → nat_lt 2147483647 (unsigned_abs n) ≡ false → value g (literal n) s ≡ given (Ok n)
literal_valued g (pos n) s near = let e : int_lt (pos n) (pos 0) ≡ false = fails (int_lt (pos n) (pos 0)) (λ q. omega (arith, ints, q)) in ap (λ (b : Bool). value g (if b then Neg (Int n) else Int n) s) e
literal_valued g (negsuc n) s near = ap given (negative_in n near)

-- what such an assignment touches: it reads the element, and the scalar gets what it holds
abbrev pub keeping_touches : Scope → List ℕ → List ℕ → ℤ → Content → List Touch
keeping_touches S x array last c = read_touch (cells.Element array (last ∷ [])) c 1 ∷ write_touch (cell_of S x) c 2 ∷ []

module _ (p : Setting) (S : Scope) (x array : List ℕ) (last : ℤ) (near : nat_lt 2147483647 (unsigned_abs last) ≡ false) (within : is_within (p.bounds array) (last ∷ []) ≡ true) where
  abbrev g : Names
  g = names_in p S

  abbrev element : Cell
  element = cells.Element array (last ∷ [])

  -- what follows the value of the right side
  abbrev onto : Evaluated ℤ → Evaluated Stored
  onto e = e >>> λ v. given (Ok (cell_of S x)) >>> λ c. given (storable v) >>> λ n. given (Ok (record { cell = c; number = n }))

  stored_as : (n : ℤ) → is_storable n ≡ true → ComesTo (assigned g (Var x) (element_expr array last)) (cell_seen element (Number n) ∷ []) (Ok (record { cell = cell_of S x; number = n }))
  stored_as n fits s holds =
      ap (λ (z : Evaluated ℤ). onto ((z >>> λ u. given (Ok []) >>> λ us. given (Ok (u ∷ us))) >>> λ js. given (element_cell g array js) >>> read_cell s)) (literal_valued g last s near)
      ∙ ap (λ (b : Bool). onto (given (if b then Ok element else Err outside_bounds) >>> read_cell s)) within
      ∙ ap (λ (c : Content). onto (record { seen = cell_seen element c ∷ []; result = number_read c })) holds.0
      ∙ ap (λ (b : Bool). record { seen = cell_seen element (Number n) ∷ []; result = Ok n } >>> λ v. given (Ok (cell_of S x)) >>> λ c. given (if b then Ok n else Err out_of_range) >>> λ n. given (Ok (record { cell = c; number = n }))) fits

  pub keeps_value : (k : ℕ) (n : ℤ) → is_storable n ≡ true → Replays (run_all p (more_stmts (Assign (Var x) (element_expr array last)) no_stmts) k S) (act did (place_of p k S) (keeping_touches S x array last (Number n)) ∷ []) goes_on
  keeps_value k n fits =
      statements_more p (Assign (Var x) (element_expr array last)) no_stmts k S (act did (place_of p k S) (keeping_touches S x array last (Number n)) ∷ []) [] goes_on
      (assignment_does p (Var x) (element_expr array last) k S (cell_seen element (Number n) ∷ []) (record { cell = cell_of S x; number = n }) (stored_as n fits)) replays_nothing

-- acts that do the same on renamed cells are renamed
pub same_renamed : (name : Cell → Cell) (acts others : List Act) → AreSameOn name acts others → Renamed name acts others
same_renamed name [] [] h = tt
same_renamed name [] (b ∷ bs) h = absurd h
same_renamed name (a ∷ acts) [] h = absurd h
same_renamed name (a ∷ acts) (b ∷ bs) h =
    renamed_append name (a ∷ []) (b ∷ []) acts bs
    (subst (λ (ts : List Touch). AreRenamed name (of_cells ts) (of_cells (b.touches ++ []))) (sym (append-nil a.touches))
    (subst (λ (ts : List Touch). AreRenamed name (of_cells a.touches) (of_cells ts)) (sym (append-nil b.touches)) h.0.touches))
    (same_renamed name acts bs h.1)

-- what the exit of a DO doesn't write
module _ (S : Scope) (c : Cell) where
  abbrev Avoid : List (List ℕ) → Type 0
  Avoid xs = (y : List ℕ) → is_among y xs ≡ true → cell_of S y ≡ c → ⊥

  private_unwritten : (n : ℕ) (xs : List (List ℕ)) → Avoid xs → written_by (undefined_by S n xs) c ≡ false
  private_unwritten n [] avoid = refl
  private_unwritten n (x ∷ xs) avoid =
      or_from _ _ (other_cell (cell_of S x) c (avoid x (ap (λ (b : Bool). b || is_among x xs) (text_itself x))))
      (private_unwritten (suc n) xs (λ y h. avoid y (or_second (is_same_text y x) (is_among y xs) h)))
    where
      or_second : (a b : Bool) → b ≡ true → a || b ≡ true
      or_second true b h = refl
      or_second false b h = h

  pub exit_unwritten : (e : Entered) → e.inner ≡ [] → (cell_of S e.head.variable ≡ c → ⊥) → Avoid e.head.private → written_by (exit_touches e S) c ≡ false
  exit_unwritten e none variable avoid =
      or_from _ _ (other_cell (cell_of S e.head.variable) c variable)
      ((λ i. written_by (undefined_by S e.behind_bounds e.head.private ++ undefined_all S (none i)) c) ∙ ap (λ (ts : List Touch). written_by ts c) (append-nil (undefined_by S e.behind_bounds e.head.private))
      ∙ private_unwritten e.behind_bounds e.head.private avoid)

module _ (p : Setting) (h : Head) (body : StmtTrees) (l : ℕ) (S : Scope) (x array : List ℕ) where
  abbrev pub at : Place
  at = place_of p l S

  abbrev pub own : Cell
  own = cell_of S x

  module _ (seen : List Seen) (m : Limits) where
    abbrev pub e : Entered
    e = entered_with p l h body seen m

    -- the element that stands for the scalar in an iteration
    abbrev pub element_in : ℕ → Cell
    element_in k = Element array (value_in e k ∷ [])

    abbrev pub name_in : ℕ → Cell → Cell
    name_in k = swapped own (element_in k)

    abbrev pub trip : ℕ → Store → Run
    trip k s = body_run p body l S (frame e k) s

    abbrev pub new_trip : ℕ → Store → Run
    new_trip k s = body_run p (body_with x array h body) l S (frame e k) (exchanged_store (name_in k) s)

    abbrev pub end : ℕ → Act
    end n = act (ended_turn n) at (exit_when_none n e S)

    abbrev pub left_by : ℕ → ℕ → Store → Store
    left_by n k s = store_after ((trip k s).acts ++ end n ∷ []) s

    -- the new acts of so many more iterations
    abbrev pub new_turns : ℕ → ℕ → Store → List Act
    new_turns zero k s = []
    new_turns (suc n) k s = (new_trip k s).acts ++ end n ∷ new_turns n (k + 1) (left_by n k s)

    abbrev pub old_turns : ℕ → ℕ → Store → Run
    old_turns n k s = turns n k e S at (body_run p body l S) s

    -- in an iteration the new body does on the element what the old one did on the scalar's cell
    abbrev pub IsSubstituted : ℕ → Type 0
    IsSubstituted k = (s : Store) → has_fault (finish_of (trip k s).ending) ≡ false → AreSameOn (name_in k) (trip k s).acts (new_trip k s).acts × ((new_trip k s).ending ≡ exchanged_ending (name_in k) (trip k s).ending)

    -- so many iterations are left, the first of them with this number
    abbrev pub AreLeft : ℕ → ℕ → Type 0
    AreLeft n k = (1 ≤ k) × (n + k ≡ suc e.count)

    next_left : (n k : ℕ) → AreLeft (suc n) k → AreLeft n (k + 1)
    next_left n k left = let a = left.0 in let b = left.1 in (omega (arith, a), omega (arith, b))

    among : (n k : ℕ) → AreLeft (suc n) k → k ≤ e.count
    among n k left = let b = left.1 in omega (arith, b)

    module _ (in_order : h.parallel ≡ false) (absent : is_among x h.private ≡ false) where
      -- within an iteration the scalar stands for its cell outside the DO
      pub cell_inside : (k : ℕ) → cell_of (frame e k ∷ S) x ≡ own
      cell_inside k = ap (λ (b : Bool). if b then Private x (iterations_of (turns_of (frame e k ∷ S))) else own) (by_kind h.parallel in_order)
        where
          by_kind : (b : Bool) → b ≡ false → is_among x (if b then h.variable ∷ (h.private ++ inner_variables h.parallel body) else h.private) ≡ false
          by_kind true q = absurd cc
          by_kind false q = absent

      module _ (same : (k : ℕ) → 1 ≤ k → k ≤ e.count → IsSubstituted k) where
        at_trip : (n k : ℕ) (s : Store) → AreLeft (suc n) k → finish_of (trip k s).ending ≡ goes_on → AreSameOn (name_in k) (trip k s).acts (new_trip k s).acts × ((new_trip k s).ending ≡ exchanged_ending (name_in k) (trip k s).ending)
        at_trip n k s left q = same k left.0 (among n k left) s (ap has_fault q)

        renamed_at : (n k : ℕ) (s : Store) → AreLeft (suc n) k → finish_of (trip k s).ending ≡ goes_on → Renamed (name_in k) (trip k s).acts (new_trip k s).acts
        renamed_at n k s left q = same_renamed (name_in k) (trip k s).acts (new_trip k s).acts (at_trip n k s left q).0

        pub turns_replay : (n k : ℕ) (s : Store) → AreLeft n k → finish_of (old_turns n k s).ending ≡ goes_on → Replays (turns n k e S at (body_run p (body_with x array h body) l S)) (new_turns n k s) goes_on
        turns_replay zero k s left q = replays_nothing
        turns_replay (suc n) k s left q =
            let goes = trip_goes p h body l S x in_order absent seen m n k s q in
            turns_more n k e S at (body_run p (body_with x array h body) l S) (new_trip k s).acts (new_turns n (k + 1) (left_by n k s)) goes_on
            (subst (λ (f : Finish). Replays (body_run p (body_with x array h body) l S (frame e k)) (new_trip k s).acts f) (ap finish_of (at_trip n k s left goes).1 ∙ same_finish (name_in k) (trip k s).ending ∙ goes)
            ((all_told p (body_with x array h body) (l + 1) (frame e k ∷ S)).replays (exchanged_store (name_in k) s)))
            (turns_replay n (k + 1) (left_by n k s) (next_left n k left) (more_goes p h body l S x in_order absent seen m n k s q))

        module _ (shown : Cell → Bool) (hidden : (k : ℕ) → shown (element_in k) ≡ false) (unneeded : (k : ℕ) (s : Store) → finish_of (trip k s).ending ≡ goes_on → needs (trip k s).acts own ≡ false) where
          -- what the new acts of iterations may stand for
          abbrev TurnsStand : ℕ → ℕ → Store → Store → List Act → Type 0
          TurnsStand n k s t rest = Fits (new_turns n k s) t × Agrees shown own rest (store_after (old_turns n k s).acts s) (store_after (new_turns n k s) t)

          pub turns_stand : (n k : ℕ) (s t : Store) (rest : List Act) → AreLeft n k → finish_of (old_turns n k s).ending ≡ goes_on → ((j : ℕ) → touch ((old_turns n k s).acts ++ rest) (element_in j) ≡ false)
              → Agrees shown own ((old_turns n k s).acts ++ rest) s t → TurnsStand n k s t rest
          turns_stand zero k s t rest left q untouched agree = (tt, agree)
          turns_stand (suc n) k s t rest left q untouched agree =
              let old = (old_turns n (k + 1) (left_by n k s)).acts in
              let goes = trip_goes p h body l S x in_order absent seen m n k s q in
              let apart = turns_are p h body l S x in_order absent seen m n k s q in
              let acts : (old_turns (suc n) k s).acts ≡ (trip k s).acts ++ end n ∷ old = ap (λ (r : Run). r.acts) apart ∙ append_assoc (trip k s).acts (end n ∷ []) old in
              let all : (old_turns (suc n) k s).acts ++ rest ≡ (trip k s).acts ++ end n ∷ (old ++ rest) = ap (λ (zs : List Act). zs ++ rest) acts ∙ append_assoc (trip k s).acts (end n ∷ old) rest in
              let there = subst (λ (zs : List Act). (j : ℕ) → touch zs (element_in j) ≡ false) all untouched in
              let now = subst (λ (zs : List Act). Agrees shown own zs s t) all agree in
              let fit = (all_told p body (l + 1) (frame e k ∷ S)).fits s in
              let needless = unneeded k s goes in
              let new = (new_trip k s).acts in
              let renamed = renamed_at n k s left goes in
              let first = body_fits shown own (element_in k) (trip k s).acts new (end n ∷ (old ++ rest)) s t renamed needless (there k) (hidden k) now fit in
              let between = body_agrees shown own (element_in k) (trip k s).acts new (end n ∷ (old ++ rest)) s t renamed needless (there k) (hidden k) now fit in
              let u = store_after new t in
              let behind_end = act_agrees shown own (end n) (end n) (old ++ rest) (store_after (trip k s).acts s) u (λ c d. refl) between in
              let at_left : left_by n k s ≡ store_behind (exit_when_none n e S) (store_after (trip k s).acts s) = after_append (trip k s).acts (end n ∷ []) s in
              let v = store_behind (exit_when_none n e S) u in
              let more = turns_stand n (k + 1) (left_by n k s) v rest (next_left n k left) (more_goes p h body l S x in_order absent seen m n k s q)
              (λ j. rest_untouched (trip k s).acts (end n) (old ++ rest) (element_in j) (there j))
              (subst (λ (w : Store). Agrees shown own (old ++ rest) w v) (sym at_left) behind_end) in
              let gone : store_after (old_turns (suc n) k s).acts s ≡ store_after old (left_by n k s) =
              ap (λ (zs : List Act). store_after zs s) (ap (λ (r : Run). r.acts) apart) ∙ after_append ((trip k s).acts ++ end n ∷ []) old s in
              let new_gone : store_after (new_turns (suc n) k s) t ≡ store_after (new_turns n (k + 1) (left_by n k s)) v = after_append new (end n ∷ new_turns n (k + 1) (left_by n k s)) t in (
                fits_append new (end n ∷ new_turns n (k + 1) (left_by n k s)) t first (exit_when_found n e S u, more.0),
                λ c w d. ap (λ (z : Store). z c) gone ∙ more.1 c w d ∙ ap (λ (z : Store). z c) (sym new_gone),
              )
            where
              rest_untouched : (xs : List Act) (a : Act) (ys : List Act) (c : Cell) → touch (xs ++ a ∷ ys) c ≡ false → touch ys c ≡ false
              rest_untouched xs a ys c g = (or_parts (touch (a ∷ []) c) (touch ys c) (sym (touch_append (a ∷ []) ys c) ∙ (or_parts (touch xs c) (touch (a ∷ ys) c) (sym (touch_append xs (a ∷ ys) c) ∙ g)).1)).1

        -- where each last iteration writes the scalar, its element holds what the scalar held
        module _ (not_variable : is_same_text x h.variable ≡ false) (writes : (s : Store) → finish_of (trip e.count s).ending ≡ goes_on → written (trip e.count s).acts own ≡ true) where
          none_inner : e.inner ≡ []
          none_inner = none_by h.parallel in_order
            where
              none_by : (b : Bool) → b ≡ false → inner_variables b body ≡ []
              none_by true q = absurd cc
              none_by false q = refl

          same_name : (y : List ℕ) → cell_of S y ≡ own → y ≡ x
          same_name y q = sym (named_so S y) ∙ ap cell_name q ∙ named_so S x

          own_unwritten : written_by (exit_touches e S) own ≡ false
          own_unwritten =
              exit_unwritten S own e none_inner
              (λ q. both_ways (is_same_text x h.variable) not_variable (ap (is_same_text x) (same_name h.variable q) ∙ text_itself x))
              (λ y there q. both_ways (is_among x h.private) absent (ap (λ (z : List ℕ). is_among z h.private) (sym (same_name y q)) ∙ there))

          no_element : (y : List ℕ) (k : ℕ) → cell_of S y ≡ element_in k → ⊥
          no_element y k q = let both : true ≡ false = sym (of_scalar S y) ∙ ap is_of_scalar q in absurd cc

          element_unwritten : (k : ℕ) → written_by (exit_touches e S) (element_in k) ≡ false
          element_unwritten k = exit_unwritten S (element_in k) e none_inner (no_element h.variable k) (λ y there q. no_element y k q)

          last_is : (k : ℕ) → AreLeft 1 k → e.count ≡ k
          last_is k left = let b = left.1 in omega (arith, b)

          -- behind the last iteration the scalar holds what its body leaves there
          own_left : (k : ℕ) (s : Store) → left_by 0 k s own ≡ store_after (trip k s).acts s own
          own_left k s = ap (λ (u : Store). u own) (after_append (trip k s).acts (end 0 ∷ []) s) ∙ behind_other (exit_touches e S) (store_after (trip k s).acts s) own own_unwritten

          trip_leaves : (k : ℕ) (s t : Store) → AreLeft 1 k → finish_of (trip k s).ending ≡ goes_on → store_after (new_trip k s).acts t (element_in k) ≡ store_after (trip k s).acts s own
          trip_leaves k s t left goes =
              sym (renamed_leaves (name_in k) (trip k s).acts (new_trip k s).acts s t own (renamed_at 0 k s left goes) (λ d w q. sym (twice own (element_in k) d) ∙ ap (name_in k) q ∙ twice own (element_in k) own)
              (inl (subst (λ (j : ℕ). (u : Store) → finish_of (trip j u).ending ≡ goes_on → written (trip j u).acts own ≡ true) (last_is k left) writes s goes))
              ∙ ap (store_after (new_trip k s).acts t) (swapped_first own (element_in k) own refl))

          pub turns_leave : (n k : ℕ) (s t : Store) → AreLeft (suc n) k → finish_of (old_turns (suc n) k s).ending ≡ goes_on → store_after (new_turns (suc n) k s) t (element_in e.count) ≡ store_after (old_turns (suc n) k s).acts s own
          turns_leave zero k s t left q =
              let goes = trip_goes p h body l S x in_order absent seen m zero k s q in
              let apart = turns_are p h body l S x in_order absent seen m zero k s q in
              ap (λ (j : ℕ). store_after (new_turns 1 k s) t (element_in j)) (last_is k left)
              ∙ ap (λ (u : Store). u (element_in k)) (after_append (new_trip k s).acts (end 0 ∷ []) t)
              ∙ behind_other (exit_touches e S) (store_after (new_trip k s).acts t) (element_in k) (element_unwritten k)
              ∙ trip_leaves k s t left goes
              ∙ sym (own_left k s)
              ∙ ap (λ (zs : List Act). store_after zs s own) (sym (append-nil ((trip k s).acts ++ end 0 ∷ [])) ∙ sym (ap (λ (r : Run). r.acts) apart))
          turns_leave (suc n) k s t left q =
              let apart = turns_are p h body l S x in_order absent seen m (suc n) k s q in
              let old = (old_turns (suc n) (k + 1) (left_by (suc n) k s)).acts in
              ap (λ (u : Store). u (element_in e.count)) (after_append (new_trip k s).acts (end (suc n) ∷ new_turns (suc n) (k + 1) (left_by (suc n) k s)) t)
              ∙ turns_leave n (k + 1) (left_by (suc n) k s) (store_behind (exit_when_none (suc n) e S) (store_after (new_trip k s).acts t)) (next_left (suc n) k left) (more_goes p h body l S x in_order absent seen m (suc n) k s q)
              ∙ ap (λ (u : Store). u own) (sym (after_append ((trip k s).acts ++ end (suc n) ∷ []) old s)) ∙ ap (λ (zs : List Act). store_after zs s own) (sym (ap (λ (r : Run). r.acts) apart))

          -- what holds of what the body of a last iteration leaves in the scalar holds of what the iterations leave there
          pub turns_hold : (P : Content → Type 0) → ((s : Store) → finish_of (trip e.count s).ending ≡ goes_on → P (store_after (trip e.count s).acts s own))
              → (n k : ℕ) (s : Store) → AreLeft (suc n) k → finish_of (old_turns (suc n) k s).ending ≡ goes_on → P (store_after (old_turns (suc n) k s).acts s own)
          turns_hold P each zero k s left q =
              let goes = trip_goes p h body l S x in_order absent seen m zero k s q in
              let apart = turns_are p h body l S x in_order absent seen m zero k s q in
              subst P (sym (own_left k s) ∙ ap (λ (zs : List Act). store_after zs s own) (sym (append-nil ((trip k s).acts ++ end 0 ∷ [])) ∙ sym (ap (λ (r : Run). r.acts) apart)))
              (subst (λ (j : ℕ). (u : Store) → finish_of (trip j u).ending ≡ goes_on → P (store_after (trip j u).acts u own)) (last_is k left) each s goes)
          turns_hold P each (suc n) k s left q =
              let apart = turns_are p h body l S x in_order absent seen m (suc n) k s q in
              let old = (old_turns (suc n) (k + 1) (left_by (suc n) k s)).acts in
              subst P (ap (λ (u : Store). u own) (sym (after_append ((trip k s).acts ++ end (suc n) ∷ []) old s)) ∙ ap (λ (zs : List Act). store_after zs s own) (sym (ap (λ (r : Run). r.acts) apart)))
              (turns_hold P each n (k + 1) (left_by (suc n) k s) (next_left (suc n) k left) (more_goes p h body l S x in_order absent seen m (suc n) k s q))

module _ (p : Setting) (h : Head) (body : StmtTrees) (l : ℕ) (S : Scope) (x array : List ℕ) where
  -- the act of that assignment
  abbrev pub kept_acts : Bool → ℤ → Content → List Act
  kept_acts true last c = act did (place_of p (l + statement_count (Do h (body_with x array h body))) S) (keeping_touches S x array last c) ∷ []
  kept_acts false last c = []

  abbrev mine : Cell
  mine = own p h body l S x array

  module _ (seen : List Seen) (m : Limits) where
    abbrev entering : Entered
    entering = e p h body l S x array seen m

    abbrev pub entry : Act
    entry = act (entered entering.count) (place_of p l S) (entry_touches seen entering S)

    abbrev pub entered_by : Store → Store
    entered_by s = store_after (entry ∷ []) s

    -- what is done in the place of the DO that has been entered so
    abbrev pub new_loop : Store → List Act
    new_loop s = entry ∷ new_turns p h body l S x array seen m entering.count 1 (entered_by s)

    -- what the scalar holds behind the DO
    abbrev pub left_in : Store → Content
    left_in s = store_after (run p (Do h body) l S s).acts s mine

    abbrev pub new_acts : Bool → ℤ → Store → List Act
    new_acts live last s = new_loop s ++ kept_acts live last (left_in s)

    abbrev Going : ℕ → Store → Type 0
    Going k s = finish_of (trip p h body l S x array seen m k s).ending ≡ goes_on

    abbrev Holds : Content → Type 0
    Holds c = (n : ℤ) × (c ≡ Number n) × (is_storable n ≡ true)

    -- there is a last iteration, whose value of the DO's variable this is, a literal can be it, and it lies in the array's bounds; the iteration writes the scalar and leaves a number in it that an element can hold
    pub record IsKept (last : ℤ) : Type 0 where
      pub others : ℕ
      pub some : entering.count ≡ suc others
      pub is_last : value_in entering entering.count ≡ last
      pub near : nat_lt 2147483647 (unsigned_abs last) ≡ false
      pub within : is_within (p.bounds array) (last ∷ []) ≡ true
      pub writes : (s : Store) → Going entering.count s → written (trip p h body l S x array seen m entering.count s).acts mine ≡ true
      pub stores : (s : Store) → Going entering.count s → Holds (store_after (trip p h body l S x array seen m entering.count s).acts s mine)

    module _ (in_order : h.parallel ≡ false) (absent : is_among x h.private ≡ false) (same : (k : ℕ) → 1 ≤ k → k ≤ entering.count → IsSubstituted p h body l S x array seen m k)
        (s : Store) (comes : limits (names_in p S) h s ≡ record { seen = seen; result = Ok m }) (goes : finish_of (run p (Do h body) l S s).ending ≡ goes_on) where
      all_left : AreLeft p h body l S x array seen m entering.count 1
      all_left = (omega arith, omega arith)

      turns_going : finish_of (old_turns p h body l S x array seen m entering.count 1 (entered_by s)).ending ≡ goes_on
      turns_going = turns_go p h body l S x in_order absent seen m s comes goes

      acts_are : (run p (Do h body) l S s).acts ≡ entry ∷ (old_turns p h body l S x array seen m entering.count 1 (entered_by s)).acts
      acts_are = ap (λ (r : Run). r.acts) (loop_is p h body l S x in_order absent seen m s comes goes)

      left_is : store_after (run p (Do h body) l S s).acts s ≡ store_after (old_turns p h body l S x array seen m entering.count 1 (entered_by s)).acts (entered_by s)
      left_is = ap (λ (zs : List Act). store_after zs s) acts_are

      -- the new DO is entered as the old one
      same_entered : entering ≡ entered_with p l h (body_with x array h body) seen m
      same_entered = λ i. record {
        number = entering.number;
        head = h;
        first = entering.first;
        step = entering.step;
        count = entering.count;
        behind_bounds = entering.behind_bounds;
        inner = both i;
      }
        where
          none_by : (b : Bool) (ts : StmtTrees) → b ≡ false → inner_variables b ts ≡ []
          none_by true ts q = absurd cc
          none_by false ts q = refl

          both : inner_variables h.parallel body ≡ inner_variables h.parallel (body_with x array h body)
          both = none_by h.parallel body in_order ∙ sym (none_by h.parallel (body_with x array h body) in_order)

      -- from each store that the new acts fit, the new DO does them
      pub loop_replays : Replays (run p (Do h (body_with x array h body)) l S) (new_loop s) goes_on
      loop_replays =
          loop_in_order p h (body_with x array h body) l S seen entering (new_turns p h body l S x array seen m entering.count 1 (entered_by s)) goes_on
          (m, subst (λ z. ComesTo (limits (names_in p S) h) z.seen z.result) comes ((limits_told (names_in p S) h).comes s), same_entered)
          in_order (turns_replay p h body l S x array seen m in_order absent same entering.count 1 (entered_by s) all_left turns_going)

      module _ (not_variable : is_same_text x h.variable ≡ false) (last : ℤ) (kept : IsKept last) where
        -- the scalar holds a number behind the DO, and the last element holds it behind the new one
        number_left : Holds (left_in s)
        number_left =
            subst Holds (ap (λ (u : Store). u mine) (sym left_is))
            (subst (λ (k : ℕ). finish_of (old_turns p h body l S x array seen m k 1 (entered_by s)).ending ≡ goes_on → Holds (store_after (old_turns p h body l S x array seen m k 1 (entered_by s)).acts (entered_by s) mine)) (sym kept.some)
            (turns_hold p h body l S x array seen m in_order absent same not_variable kept.writes Holds kept.stores kept.others 1 (entered_by s) (subst (λ (k : ℕ). AreLeft p h body l S x array seen m k 1) kept.some all_left))
            turns_going)

        element_left : (t : Store) → store_after (new_loop s) t (Element array (last ∷ [])) ≡ left_in s
        element_left t =
            ap (λ (v : ℤ). store_after (new_loop s) t (Element array (v ∷ []))) (sym kept.is_last)
            ∙ (subst (λ (k : ℕ). finish_of (old_turns p h body l S x array seen m k 1 (entered_by s)).ending ≡ goes_on → store_after (new_turns p h body l S x array seen m k 1 (entered_by s)) (store_after (entry ∷ []) t) (element_in p h body l S x array seen m entering.count) ≡ store_after (old_turns p h body l S x array seen m k 1 (entered_by s)).acts (entered_by s) mine) (sym kept.some)
            (turns_leave p h body l S x array seen m in_order absent same not_variable kept.writes kept.others 1 (entered_by s) (store_after (entry ∷ []) t) (subst (λ (k : ℕ). AreLeft p h body l S x array seen m k 1) kept.some all_left))
            turns_going)
            ∙ ap (λ (u : Store). u mine) (sym left_is)

        keeping_replays : Replays (run_all p (kept_value true x array last) (l + statement_count (Do h (body_with x array h body))) S) (kept_acts true last (left_in s)) goes_on
        keeping_replays =
            subst (λ (c : Content). Replays (run_all p (kept_value true x array last) (l + statement_count (Do h (body_with x array h body))) S) (kept_acts true last c) goes_on) (sym number_left.1)
            (keeps_value p S x array last kept.near kept.within (l + statement_count (Do h (body_with x array h body))) number_left.0 number_left.2)

      pub statements_replay : (live : Bool) (last : ℤ) → is_same_text x h.variable ≡ false → (live ≡ true → IsKept last) → Replays (run_all p (new_statements x array live last h body) l S) (new_acts live last s) goes_on
      statements_replay true last variable kept =
          statements_more p (Do h (body_with x array h body)) (kept_value true x array last) l S (new_loop s) (kept_acts true last (left_in s)) goes_on loop_replays (keeping_replays variable last (kept refl))
      statements_replay false last variable kept = statements_more p (Do h (body_with x array h body)) no_stmts l S (new_loop s) [] goes_on loop_replays replays_nothing

      -- and the new acts may stand for the old ones
      module _ (shown : Cell → Bool) (rest : List Act) (hidden : (v : ℤ) → shown (Element array (v ∷ [])) ≡ false) (unneeded : (k : ℕ) (u : Store) → Going k u → needs (trip p h body l S x array seen m k u).acts mine ≡ false)
          (untouched : (v : ℤ) → touch ((run p (Do h body) l S s).acts ++ rest) (Element array (v ∷ [])) ≡ false) where
        loop_stands : (t : Store) → AgreeIn (wants shown ((run p (Do h body) l S s).acts ++ rest)) s t
            → Fits (new_loop s) t × Agrees shown mine rest (store_after (run p (Do h body) l S s).acts s) (store_after (new_loop s) t)
        loop_stands t agree =
            let old = (old_turns p h body l S x array seen m entering.count 1 (entered_by s)).acts in
            let now : AgreeIn (wants shown (entry ∷ (old ++ rest))) s t = subst (λ (zs : List Act). AgreeIn (wants shown (zs ++ rest)) s t) acts_are agree in
            let there : (k : ℕ) → touch (entry ∷ (old ++ rest)) (element_in p h body l S x array seen m k) ≡ false = λ k. subst (λ (zs : List Act). touch (zs ++ rest) (element_in p h body l S x array seen m k) ≡ false) acts_are (untouched (value_in entering k)) in
            let old_fits : Fits (entry ∷ old) s = subst (λ (zs : List Act). Fits zs s) acts_are ((run_told p (Do h body) l S).fits s) in
            let first : Fits (entry ∷ []) t = agreeing_fits (entry ∷ []) s t (λ c n. now c (needed_wanted shown (entry ∷ []) (old ++ rest) c n)) (fits_first (entry ∷ []) old s old_fits) in
            let v = store_behind (entry_touches seen entering S) t in
            let inside = act_agrees shown mine entry entry (old ++ rest) s t (λ c d. refl) (λ c w q. now c w) in
            let more = turns_stand p h body l S x array seen m in_order absent same shown (λ k. hidden (value_in entering k)) unneeded entering.count 1 (entered_by s) v rest all_left turns_going
            (λ k. (or_parts (touch (entry ∷ []) (element_in p h body l S x array seen m k)) (touch (old ++ rest) (element_in p h body l S x array seen m k)) (sym (touch_append (entry ∷ []) (old ++ rest) (element_in p h body l S x array seen m k)) ∙ there k)).1) inside in
            ((first.0, more.0), λ c w d. ap (λ (u : Store). u c) left_is ∙ more.1 c w d)

        pub statements_stand : (live : Bool) (last : ℤ) → is_same_text x h.variable ≡ false → (live ≡ true → IsKept last) → (live ≡ false → wants shown rest mine ≡ false)
            → StandsFor (record { agreed = wants shown ((run p (Do h body) l S s).acts ++ rest); old = (run p (Do h body) l S s).acts; new = new_acts live last s }) (wants shown rest) s
        statements_stand false last variable kept dead t agree =
            let stands = loop_stands t agree in
            subst (λ (zs : List Act). Fits zs t × AgreeIn (wants shown rest) (store_after (run p (Do h body) l S s).acts s) (store_after zs t)) (sym (append-nil (new_loop s)))
            (stands.0, λ c w. stands.1 c w (other_cell mine c (λ q. both_ways (wants shown rest mine) (dead refl) (ap (wants shown rest) q ∙ w))))
        statements_stand true last variable kept dead t agree =
            let stands = loop_stands t agree in
            let u = store_after (new_loop s) t in (
              fits_append (new_loop s) (kept_acts true last (left_in s)) t stands.0 ((element_left variable last (kept refl) t, (tt, tt)), tt),
              λ c w. by_cell c w stands.1 (same_cell mine c) refl ∙ ap (λ (v : Store). v c) (sym (after_append (new_loop s) (kept_acts true last (left_in s)) t)),
            )
          where
            by_cell : (c : Cell) → wants shown rest c ≡ true → Agrees shown mine rest (store_after (run p (Do h body) l S s).acts s) (store_after (new_loop s) t) → (b : Bool) → same_cell mine c ≡ b
                → store_after (run p (Do h body) l S s).acts s c ≡ put mine (left_in s) (store_after (new_loop s) t) c
            by_cell c w agrees true q = ap (store_after (run p (Do h body) l S s).acts s) (sym (cell_is mine c q)) ∙ sym (put_same mine (left_in s) (store_after (new_loop s) t) c q)
            by_cell c w agrees false q = agrees c w q ∙ sym (put_other mine (left_in s) (store_after (new_loop s) t) c q)

-- where an element may stand for a scalar in statements, they do on the element what they did on the scalar's cell
abbrev pub Substitutes : Setting → Type 0
Substitutes p = (S : Scope) (ts : StmtTrees) (x array v : List ℕ) (k : ℤ) → MayStandFor p S ts x array v k → (n : ℕ) (s : Store) → has_fault (finish_of (run_all p ts n S s).ending) ≡ false
    → let name = swapped (cell_of S x) (Element array (k ∷ [])) in let other = run_all p (statements_substituted x (element_at array v) ts) n S (exchanged_store name s) in AreSameOn name (run_all p ts n S s).acts other.acts × (other.ending ≡ exchanged_ending name (run_all p ts n S s).ending)

-- statements that leave a number in a cell from each store, and don't need the cell, write it
pub number_written : (p : Setting) (ts : StmtTrees) (n : ℕ) (S : Scope) (c : Cell) (s : Store) → finish_of (run_all p ts n S s).ending ≡ goes_on → needs (run_all p ts n S s).acts c ≡ false
    → ((u : Store) → finish_of (run_all p ts n S u).ending ≡ goes_on → is_number (store_after (run_all p ts n S u).acts u c) ≡ true) → written (run_all p ts n S s).acts c ≡ true
number_written p ts n S c s goes unneeded numbers = go (written acts c) refl
  where
    acts : List Act
    acts = (run_all p ts n S s).acts

    u : Store
    u = put c Undefined s

    fit : Fits acts u
    fit = agreeing_fits acts s u (λ d h. sym (put_other c Undefined s d (other_cell c d (λ q. both_ways (needs acts c) unneeded (ap (needs acts) q ∙ h))))) ((all_told p ts n S).fits s)

    again : run_all p ts n S u ≡ record { acts = acts; ending = ending_with goes_on (store_after acts u) }
    again = (all_told p ts n S).replays s u fit ∙ ap (λ (f : Finish). record { acts = acts; ending = ending_with f (store_after acts u) }) goes

    go : (b : Bool) → written acts c ≡ b → b ≡ true
    go true q = refl
    go false q =
        let number : is_number (store_after acts u c) ≡ true = ap (λ (r : Run). is_number (store_after r.acts u c)) (sym again) ∙ numbers u (ap (λ (r : Run). finish_of r.ending) again) in
        let none : store_after acts u c ≡ Undefined = after_other acts u c q ∙ put_same c Undefined s c (cell_itself c) in
        sym (ap is_number none) ∙ number

module _ (t : ProgramTree) (l : ℕ) (loop : LoopOf t l) (x array : List ℕ) (live : Bool) (last : ℤ) (q : Setting) where
  abbrev h : Head
  h = loop.head

  abbrev body : StmtTrees
  body = loop.body

  -- the DO is entered with these limits
  abbrev pub IsEnteredBy : Scope → Store → Limits → Type 0
  IsEnteredBy S s m = limits (names_in q S) h s ≡ record { seen = (limits (names_in q S) h s).seen; result = Ok m }

  -- what is done in the place of an execution of the DO
  abbrev expanded_with : Scope → Store → List Seen → Result Limits ℕ → List Act
  expanded_with S s seen (Ok m) = new_acts q h body l S x array seen m live last s
  expanded_with S s seen (Err n) = []

  abbrev pub expanded_acts : Scope → Store → List Act
  expanded_acts S s = expanded_with S s (limits (names_in q S) h s).seen (limits (names_in q S) h s).result

  pub expanded_is : (S : Scope) (s : Store) (m : Limits) → IsEnteredBy S s m → expanded_acts S s ≡ new_acts q h body l S x array (limits (names_in q S) h s).seen m live last s
  expanded_is S s m r = ap (λ (e : Evaluated Limits). expanded_with S s (limits (names_in q S) h s).seen e.result) r

  -- the old program's runs take another setting, under which the DO does the same
  module _ (p : Setting) (alike : (S : Scope) (s : Store) → run q (Do h body) l S s ≡ run p (Do h body) l S s) (in_order : h.parallel ≡ false) (absent : is_among x h.private ≡ false) (not_variable : is_same_text x h.variable ≡ false) (substitutes : Substitutes q)
      (may : (S : Scope) → IsPlaceOf p t l S → (s : Store) (m : Limits) → IsEnteredBy S s m → let e = entered_with q l h body (limits (names_in q S) h s).seen m in (k : ℕ) → 1 ≤ k → k ≤ e.count → MayStandFor q (frame e k ∷ S) body x array h.variable (value_in e k))
      (kept : live ≡ true → (S : Scope) → IsPlaceOf p t l S → (s : Store) (m : Limits) → IsEnteredBy S s m → IsKept q h body l S x array (limits (names_in q S) h s).seen m last) where
    pub substituted_at : (S : Scope) → IsPlaceOf p t l S → (s : Store) (m : Limits) → IsEnteredBy S s m → let seen = (limits (names_in q S) h s).seen in (k : ℕ) → 1 ≤ k → k ≤ (entered_with q l h body seen m).count → IsSubstituted q h body l S x array seen m k
    substituted_at S place s m r k from to u sound =
        let seen = (limits (names_in q S) h s).seen in
        let e = entered_with q l h body seen m in
        subst (λ (c : Cell). let name = swapped c (Element array (value_in e k ∷ [])) in
        let other = run_all q (statements_substituted x (element_at array h.variable) body) (l + 1) (frame e k ∷ S) (exchanged_store name u) in
        AreSameOn name (run_all q body (l + 1) (frame e k ∷ S) u).acts other.acts × (other.ending ≡ exchanged_ending name (run_all q body (l + 1) (frame e k ∷ S) u).ending))
        (cell_inside q h body l S x array seen m in_order absent k) (substitutes (frame e k ∷ S) body x array h.variable (value_in e k) (may S place s m r k from to) (l + 1) u sound)

    going_so : (S : Scope) (s : Store) → finish_of (run p (Do h body) l S s).ending ≡ goes_on → finish_of (run q (Do h body) l S s).ending ≡ goes_on
    going_so S s goes = ap (λ (r : Run). finish_of r.ending) (alike S s) ∙ goes

    pub expanded_replay : (S : Scope) (s : Store) → IsPlaceOf p t l S → finish_of (run p (Do h body) l S s).ending ≡ goes_on → Replays (run_all q (new_statements x array live last h body) l S) (expanded_acts S s) goes_on
    expanded_replay S s place goes =
        let entered = do_entered q h body l S s (going_so S s goes) in
        let seen = (limits (names_in q S) h s).seen in
        subst (λ (acts : List Act). Replays (run_all q (new_statements x array live last h body) l S) acts goes_on) (sym (expanded_is S s entered.0 entered.1))
        (statements_replay q h body l S x array seen entered.0 in_order absent (substituted_at S place s entered.0 entered.1) s entered.1 (going_so S s goes) live last not_variable (λ so. kept so S place s entered.0 entered.1))

    module _ (start : Store) where
      module _ (shown : Cell → Bool) (hidden : (js : List ℤ) → shown (Element array js) ≡ false) (ends : Ends (run_all p t.body 1 [] start).ending) (untouched : (js : List ℤ) → touch (run_all p t.body 1 [] start).acts (Element array js) ≡ false)
          (unneeded : (S : Scope) (seen : List Seen) (m : Limits) (k : ℕ) (s : Store) → Ends (run_all q body (l + 1) (frame (entered_with q l h body seen m) k ∷ S) s).ending → needs (run_all q body (l + 1) (frame (entered_with q l h body seen m) k ∷ S) s).acts (cell_of S x) ≡ false)
          (unwanted : live ≡ false → (S : Scope) (rest : List Act) → IsExit p t start l S rest → wants shown rest (cell_of S x) ≡ false) where
        -- and these may stand for the old acts
        pub stand_instead : (S : Scope) (u : Store) → IsPlaceOf p t l S → (done : IsDone p t start l S (run p (Do h body) l S u).acts u) → finish_of (run p (Do h body) l S u).ending ≡ goes_on
            → StandsFor (record { agreed = wants shown ((run p (Do h body) l S u).acts ++ done.part.behind); old = (run p (Do h body) l S u).acts; new = expanded_acts S u }) (wants shown done.part.behind) u
        stand_instead S u place done goes =
            let entered = do_entered q h body l S u (going_so S u goes) in
            let m = entered.0 in
            let seen = (limits (names_in q S) h u).seen in
            let did = (run p (Do h body) l S u).acts in
            let same = ap (λ (r : Run). r.acts) (alike S u) in
            let apart : (v : ℤ) → touch (did ++ done.part.behind) (Element array (v ∷ [])) ≡ false = λ v.
            (or_parts (touch done.part.front (Element array (v ∷ []))) (touch (did ++ done.part.behind) (Element array (v ∷ [])))
            (sym (touch_append done.part.front (did ++ done.part.behind) (Element array (v ∷ []))) ∙ ap (λ (zs : List Act). touch zs (Element array (v ∷ []))) (sym done.part.is) ∙ untouched (v ∷ []))).1 in
            let stands = statements_stand q h body l S x array seen m in_order absent (substituted_at S place u m entered.1) u entered.1 (going_so S u goes) shown done.part.behind (λ v. hidden (v ∷ []))
            (λ k w going. unneeded S seen m k w (going_ends (run_all q body (l + 1) (frame (entered_with q l h body seen m) k ∷ S) w).ending going))
            (λ v. ap (λ (zs : List Act). touch (zs ++ done.part.behind) (Element array (v ∷ []))) same ∙ apart v)
            live last not_variable (λ so. kept so S place u m entered.1) (λ so. unwanted so S done.part.behind (execution_left p t start l loop S u ends place done goes)) in
            subst (λ (zs : List Act). StandsFor (record { agreed = wants shown (did ++ done.part.behind); old = did; new = zs }) (wants shown done.part.behind) u) (sym (expanded_is S u m entered.1))
            (subst (λ (zs : List Act). StandsFor (record { agreed = wants shown (zs ++ done.part.behind); old = zs; new = new_acts q h body l S x array seen m live last u }) (wants shown done.part.behind) u) same stands)
