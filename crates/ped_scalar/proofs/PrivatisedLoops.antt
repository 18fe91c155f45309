-- A DO whose iterations have one more private scalar: what it does, and that this may stand for what it did.
use Rattle.std.proofs.Common.{◌≡◌, ℕ, suc, List, [], ◌∷◌, ◌++◌, map, Bool, true, false, eqb, refl, sym, ap, subst, ◌∙◌, inl, inr, if◌then◌else◌, zero, ◌+◌, Ok, append_assoc, append-nil}
use Rattle.std.specs.Prelude.{◌||◌, not, ◌&&◌}
use Rattle.std.proofs.lemmas.Bool.{both_ways, or_parts}
use Rattle.std.proofs.lemmas.List.{map-append}
use Rattle.ped_base.specs.Lists.{is_among}
use Rattle.ped_tree.specs.Tree.{Head, StmtTrees, Do}
use Rattle.ped_rules.specs.ped_store.specs.Cells.{Cell, same_cell, Private}
use Rattle.ped_rules.specs.ped_store.specs.Stores.{Undefined, Store}
use Rattle.ped_rules.specs.ped_store.specs.Acts.{Touch, Act, store_behind, Place, entered, ended_turn, iterations_of}
use Rattle.ped_rules.specs.ped_laws.specs.Acts.Fitting.{Find, Fits, store_after, touches_of, of_cells, has_cell}
use Rattle.ped_rules.specs.ped_laws.specs.Acts.Sets.{needs, written, wants, AgreeIn}
use Rattle.ped_rules.specs.ped_laws.specs.Acts.Renaming.{AreRenamed, Renamed, touch}
use Rattle.ped_rules.specs.ped_laws.proofs.ActLaws.SameCells.{cell_itself, other_cell}
use Rattle.ped_rules.specs.ped_laws.proofs.ActLaws.Stores.{find_append, behind_append, after_append, fits_append, fits_first, put_other}
use Rattle.ped_rules.specs.ped_laws.proofs.ActLaws.Appending.{touch_append}
use Rattle.ped_rules.specs.ped_laws.proofs.ActLaws.Renamings.{needed_touched, renamed_fits, renamed_leaves, agreeing_leaves, agreeing_fits}
use Rattle.ped_rules.specs.ped_laws.proofs.ActLaws.Exchanging.{needed_wanted, wanted_before}
use Rattle.ped_rules.specs.ped_eval.specs.Scopes.{Scope, cell_of, Setting, turns_of, names_in, place_of}
use Rattle.ped_rules.specs.ped_eval.specs.Statements.{write_touch}
use Rattle.ped_rules.specs.ped_eval.specs.Loops.{Entered, undefined_by, undefined_all, left_in_variable, exit_touches, exit_when_none, Limits, limits, entered_with, frame, inner_variables, entry_touches}
use Rattle.ped_rules.specs.ped_steps.specs.Runs.Exchanging.{exchanged_touch, exchanged_acts, swapped, IsExchange, AreExchanged}
use Rattle.ped_rules.specs.ped_steps.proofs.RunLaws.Swapped.{swapped_other, twice, swap_exchanges, of_scalar, private_exchanged}
use Rattle.ped_rules.specs.ped_laws.specs.Acts.Pieces.{StandsFor}
use Rattle.ped_rules.specs.ped_eval.specs.Evaluation.{Seen, numbered}
use Rattle.ped_rules.specs.ped_eval.specs.Runs.{Run, turns, run_entered, run}
use Rattle.ped_rules.specs.ped_eval.specs.Turns.{body_run}
use Rattle.ped_rules.specs.ped_laws.specs.Runs.Seeing.{ComesTo}
use Rattle.ped_rules.specs.ped_laws.specs.Runs.Replaying.{Finish, goes_on, stops, faults, is_going, finish_of, act, behind, Replays}
use Rattle.ped_rules.specs.ped_laws.proofs.RunLaws.Sight.{limits_told}
use Rattle.ped_rules.specs.ped_laws.proofs.RunLaws.Told.{reads_found_first, found_reads_first}
use Rattle.ped_rules.specs.ped_laws.proofs.RunLaws.Joined.{replays_nothing, turns_more, turns_apart, turns_alone, entry_apart, in_order_is, loop_in_order}
use Rattle.ped_rules.specs.ped_laws.proofs.RunLaws.StatementsTold.{run_told, all_told}
use Rattle.ped_rules.specs.ped_steps.proofs.RunLaws.Replayed.{replays_in}

-- touches on renamed cells are those of the renamed acts
renamed_touches : (name : Cell → Cell) (ts : List Touch) → AreRenamed name (of_cells ts) (of_cells (map (exchanged_touch name) ts))
renamed_touches name [] = tt
renamed_touches name (t ∷ ts) = go (has_cell t.manner) refl (renamed_touches name ts)
  where
    go : (b : Bool) → has_cell t.manner ≡ b → AreRenamed name (of_cells ts) (of_cells (map (exchanged_touch name) ts))
        → AreRenamed name (if b then t ∷ of_cells ts else of_cells ts) (if b then exchanged_touch name t ∷ of_cells (map (exchanged_touch name) ts) else of_cells (map (exchanged_touch name) ts))
    go true e more = (refl, refl, refl, more)
    go false e more = more

exchanged_touches : (name : Cell → Cell) (acts : List Act) → touches_of (exchanged_acts name acts) ≡ map (exchanged_touch name) (touches_of acts)
exchanged_touches name [] = refl
exchanged_touches name (a ∷ acts) = ap (λ (ts : List Touch). map (exchanged_touch name) a.touches ++ ts) (exchanged_touches name acts) ∙ sym (map-append (exchanged_touch name) a.touches (touches_of acts))

pub exchanged_renamed : (name : Cell → Cell) (acts : List Act) → Renamed name acts (exchanged_acts name acts)
exchanged_renamed name acts = subst (λ (ts : List Touch). AreRenamed name (of_cells (touches_of acts)) (of_cells ts)) (sym (exchanged_touches name acts)) (renamed_touches name (touches_of acts))

-- touches that only write find all that they read
undefined_found : (S : Scope) (n : ℕ) (xs : List (List ℕ)) (t : Store) → Find (undefined_by S n xs) t
undefined_found S n [] t = tt
undefined_found S n (x ∷ xs) t = (tt, undefined_found S (suc n) xs (store_behind (write_touch (cell_of S x) Undefined n ∷ []) t))

all_found : (S : Scope) (xs : List (List ℕ)) (t : Store) → Find (undefined_all S xs) t
all_found S [] t = tt
all_found S (x ∷ xs) t = (tt, all_found S xs (store_behind (write_touch (cell_of S x) Undefined 0 ∷ []) t))

pub exit_found : (e : Entered) (S : Scope) (t : Store) → Find (exit_touches e S) t
exit_found e S t =
    let u = store_behind (write_touch (cell_of S e.head.variable) (left_in_variable e) 0 ∷ []) t in
    (tt, find_append (undefined_by S e.behind_bounds e.head.private) (undefined_all S e.inner) u (undefined_found S e.behind_bounds e.head.private u) (all_found S e.inner (store_behind (undefined_by S e.behind_bounds e.head.private) u)))

pub exit_when_found : (n : ℕ) (e : Entered) (S : Scope) (t : Store) → Find (exit_when_none n e S) t
exit_when_found n e S t = go (eqb n 0)
  where
    go : (b : Bool) → Find (if b then exit_touches e S else []) t
    go true = exit_found e S t
    go false = tt

-- one more name in a PRIVATE list is one more write at the end
abbrev pub number_of_last : ℕ → List (List ℕ) → ℕ
number_of_last n [] = n
number_of_last n (x ∷ xs) = number_of_last (suc n) xs

pub one_more : (S : Scope) (n : ℕ) (xs : List (List ℕ)) (x : List ℕ) → undefined_by S n (xs ++ x ∷ []) ≡ undefined_by S n xs ++ write_touch (cell_of S x) Undefined (number_of_last n xs) ∷ []
one_more S n [] x = refl
one_more S n (y ∷ ys) x = ap (λ (ts : List Touch). write_touch (cell_of S y) Undefined n ∷ ts) (one_more S (suc n) ys x)

unwanted : (shown : Cell → Bool) (acts : List Act) (c : Cell) → touch acts c ≡ false → shown c ≡ false → wants shown acts c ≡ false
unwanted shown acts c untouched hidden =
    let unneeded : needs acts c ≡ false = not_so (needs acts c) (λ n. both_ways (touch acts c) untouched (ap (λ (b : Bool). b) (needed_touched (touches_of acts) c n))) in
    (λ i. unneeded i || (hidden i && not (written acts c)))
  where
    not_so : (b : Bool) → (b ≡ true → ⊥) → b ≡ false
    not_so true h = absurd (h refl)
    not_so false h = refl

module _ (shown : Cell → Bool) (own : Cell) where
  -- the stores hold the same in the cells that are wanted, but for the scalar's own
  abbrev pub Agrees : List Act → Store → Store → Type 0
  Agrees acts s t = (c : Cell) → wants shown acts c ≡ true → same_cell own c ≡ false → s c ≡ t c

  differ : (c : Cell) → same_cell own c ≡ false → own ≡ c → ⊥
  differ c n e = both_ways (same_cell own c) n (ap (same_cell own) (sym e) ∙ cell_itself own)

  -- acts that don't need the scalar's own cell, done on a cell that nothing touches: a copy, or another
  module _ (copy : Cell) (acts others more : List Act) (s t : Store) (renamed : Renamed (swapped own copy) acts others) (unneeded : needs acts own ≡ false) (untouched : touch (acts ++ more) copy ≡ false) (hidden : shown copy ≡ false) (agree : Agrees (acts ++ more) s t) (fits : Fits acts s) where
    abbrev name : Cell → Cell
    name = swapped own copy

    apart : (touch acts copy ≡ false) × (touch more copy ≡ false)
    apart = or_parts (touch acts copy) (touch more copy) (sym (touch_append acts more copy) ∙ untouched)

    injective : (c d : Cell) → name c ≡ name d → c ≡ d
    injective c d q = sym (twice own copy c) ∙ ap name q ∙ twice own copy d

    kept : (c : Cell) → (own ≡ c → ⊥) → (copy ≡ c → ⊥) → name c ≡ c
    kept c n m = swapped_other own copy c n m

    not_own : (c : Cell) → needs acts c ≡ true → own ≡ c → ⊥
    not_own c h e = both_ways (needs acts own) unneeded (ap (needs acts) e ∙ h)

    not_copy : (c : Cell) → needs acts c ≡ true → copy ≡ c → ⊥
    not_copy c h e = both_ways (touch acts copy) apart.0 (ap (touch acts) e ∙ needed_touched (touches_of acts) c h)

    pub body_fits : Fits others t
    body_fits = renamed_fits name acts others s t renamed (λ c d a b q. injective c d q)
        (λ c h. agree c (needed_wanted shown acts more c h) (other_cell own c (not_own c h)) ∙ ap t (sym (kept c (not_own c h) (not_copy c h)))) fits

    pub body_agrees : Agrees more (store_after acts s) (store_after others t)
    body_agrees c w n =
        let same : name c ≡ c = kept c (differ c n) (λ e. both_ways (wants shown more c) (ap (wants shown more) (sym e) ∙ unwanted shown more copy apart.1 hidden) w) in
        renamed_leaves name acts others s t c renamed (λ d k q. injective d c q)
        (elim (wanted_before shown acts more c w) [ inl k ↦ inr (agree c k n ∙ ap t (sym same)) | inr k ↦ inl k ])
        ∙ ap (store_after others t) same

  -- an act, and one that writes the scalar's own cell, too
  pub act_agrees : (a b : Act) (more : List Act) (s t : Store) → ((c : Cell) → same_cell own c ≡ false → store_behind b.touches t c ≡ store_behind a.touches t c) → Agrees (a ∷ more) s t → Agrees more (store_behind a.touches s) (store_behind b.touches t)
  act_agrees a b more s t alike agree c w n =
      agreeing_leaves (a ∷ []) s t c (elim (wanted_before shown (a ∷ []) more c w) [ inl k ↦ inr (agree c k n) | inr k ↦ inl k ]) ∙ sym (alike c n)

module _ (p : Setting) (h : Head) (body : StmtTrees) (l : ℕ) (S : Scope) (x : List ℕ) (in_order : h.parallel ≡ false) (absent : is_among x h.private ≡ false) where
  -- the head with the scalar last in its PRIVATE list
  abbrev pub more_private : Head
  more_private = record h { private = h.private ++ x ∷ [] }

  abbrev at : Place
  at = place_of p l S

  abbrev own : Cell
  own = cell_of S x

  module _ (seen : List Seen) (m : Limits) where
    abbrev e : Entered
    e = entered_with p l h body seen m

    abbrev e2 : Entered
    e2 = entered_with p l more_private body seen m

    abbrev pub copy : ℕ → Cell
    copy k = Private x (iterations_of (turns_of (frame e k ∷ S)))

    names_private : (b : Bool) (xs ys : List (List ℕ)) → b ≡ false → (if b then xs else ys) ≡ ys
    names_private true xs ys q = absurd cc
    names_private false xs ys q = refl

    old_private : (k : ℕ) → (frame e k).private ≡ h.private
    old_private k = names_private h.parallel (h.variable ∷ (h.private ++ inner_variables h.parallel body)) h.private in_order

    new_private : (k : ℕ) → (frame e2 k).private ≡ h.private ++ x ∷ []
    new_private k = names_private h.parallel (h.variable ∷ ((h.private ++ x ∷ []) ++ inner_variables h.parallel body)) (h.private ++ x ∷ []) in_order

    exchanged_at : (k : ℕ) → AreExchanged (swapped own (copy k)) (frame e k ∷ S) (frame e2 k ∷ S)
    exchanged_at k = private_exchanged S (frame e k) (frame e2 k) x refl refl (new_private k ∙ ap (λ (xs : List (List ℕ)). xs ++ x ∷ []) (sym (old_private k))) (ap (is_among x) (old_private k) ∙ absent)

    exchange : (k : ℕ) → IsExchange (swapped own (copy k))
    exchange k = swap_exchanges own (copy k) (of_scalar S x) refl

    -- what the body does in an iteration
    abbrev trip : ℕ → Store → Run
    trip k s = body_run p body l S (frame e k) s

    abbrev end : ℕ → Act
    end n = act (ended_turn n) at (exit_when_none n e S)

    abbrev new_end : ℕ → Act
    new_end n = act (ended_turn n) at (exit_when_none n e2 S)

    abbrev left_by : ℕ → ℕ → Store → Store
    left_by n k s = store_after ((trip k s).acts ++ end n ∷ []) s

    -- the new acts of so many more iterations
    abbrev pub new_turns : ℕ → ℕ → Store → List Act
    new_turns zero k s = []
    new_turns (suc n) k s = exchanged_acts (swapped own (copy k)) (trip k s).acts ++ new_end n ∷ new_turns n (k + 1) (left_by n k s)

    abbrev pub old_turns : ℕ → ℕ → Store → Run
    old_turns n k s = turns n k e S at (body_run p body l S) s

    pub trip_goes : (n k : ℕ) (s : Store) → finish_of (old_turns (suc n) k s).ending ≡ goes_on → finish_of (trip k s).ending ≡ goes_on
    trip_goes n k s q = go (finish_of (trip k s).ending) refl
      where
        alone : is_going (finish_of (trip k s).ending) ≡ false → finish_of (trip k s).ending ≡ goes_on
        alone g = ap (λ (r : Run). finish_of r.ending) (sym (turns_alone p body l n k S e at s g)) ∙ q

        go : (f : Finish) → finish_of (trip k s).ending ≡ f → f ≡ goes_on
        go goes_on g = refl
        go stops g = sym g ∙ alone (ap is_going g)
        go (faults fault statement) g = sym g ∙ alone (ap is_going g)

    pub turns_are : (n k : ℕ) (s : Store) → finish_of (old_turns (suc n) k s).ending ≡ goes_on → old_turns (suc n) k s ≡ behind ((trip k s).acts ++ end n ∷ []) (old_turns n (k + 1) (left_by n k s))
    turns_are n k s q = turns_apart p body l n k S e at s (trip_goes n k s q)

    pub more_goes : (n k : ℕ) (s : Store) → finish_of (old_turns (suc n) k s).ending ≡ goes_on → finish_of (old_turns n (k + 1) (left_by n k s)).ending ≡ goes_on
    more_goes n k s q = ap (λ (r : Run). finish_of r.ending) (sym (turns_are n k s q)) ∙ q

    turns_replay : (n k : ℕ) (s : Store) → finish_of (old_turns n k s).ending ≡ goes_on → Replays (turns n k e2 S at (body_run p body l S)) (new_turns n k s) goes_on
    turns_replay zero k s q = replays_nothing
    turns_replay (suc n) k s q =
        turns_more n k e2 S at (body_run p body l S) (exchanged_acts (swapped own (copy k)) (trip k s).acts) (new_turns n (k + 1) (left_by n k s)) goes_on
        (subst (λ (f : Finish). Replays (body_run p body l S (frame e2 k)) (exchanged_acts (swapped own (copy k)) (trip k s).acts) f) (trip_goes n k s q)
        (replays_in (swapped own (copy k)) p body (l + 1) (frame e k ∷ S) (frame e2 k ∷ S) (exchange k) (exchanged_at k) s))
        (turns_replay n (k + 1) (left_by n k s) (more_goes n k s q))

    -- the exit writes the scalar's own cell, too
    exit_is : exit_touches e2 S ≡ exit_touches e S ++ write_touch own Undefined (number_of_last e.behind_bounds h.private) ∷ []
    exit_is =
        (λ i. write_touch (cell_of S h.variable) (left_in_variable e) 0 ∷ (one_more S e.behind_bounds h.private x i ++ undefined_all S (none_inner i)))
        ∙ (λ i. write_touch (cell_of S h.variable) (left_in_variable e) 0 ∷ append-nil (undefined_by S e.behind_bounds h.private ++ write_touch own Undefined (number_of_last e.behind_bounds h.private) ∷ []) i)
        ∙ (λ i. write_touch (cell_of S h.variable) (left_in_variable e) 0 ∷ (sym (append-nil (undefined_by S e.behind_bounds h.private)) i ++ write_touch own Undefined (number_of_last e.behind_bounds h.private) ∷ []))
        ∙ (λ i. write_touch (cell_of S h.variable) (left_in_variable e) 0 ∷ ((undefined_by S e.behind_bounds h.private ++ undefined_all S (sym none_inner i)) ++ write_touch own Undefined (number_of_last e.behind_bounds h.private) ∷ []))
      where
        none_by : (b : Bool) → b ≡ false → inner_variables b body ≡ []
        none_by true q = absurd cc
        none_by false q = refl

        none_inner : inner_variables h.parallel body ≡ []
        none_inner = none_by h.parallel in_order

    exit_alike : (n : ℕ) (t : Store) (c : Cell) → same_cell own c ≡ false → store_behind (exit_when_none n e2 S) t c ≡ store_behind (exit_when_none n e S) t c
    exit_alike n t c q = go (eqb n 0)
      where
        go : (b : Bool) → store_behind (if b then exit_touches e2 S else []) t c ≡ store_behind (if b then exit_touches e S else []) t c
        go true =
            ap (λ (ts : List Touch). store_behind ts t c) exit_is
            ∙ ap (λ (u : Store). u c) (behind_append (exit_touches e S) (write_touch own Undefined (number_of_last e.behind_bounds h.private) ∷ []) t)
            ∙ put_other own Undefined (store_behind (exit_touches e S) t) c q
        go false = refl

    module _ (shown : Cell → Bool) (hidden : (k : ℕ) → shown (copy k) ≡ false) (unneeded : (k : ℕ) (s : Store) → finish_of (trip k s).ending ≡ goes_on → needs (trip k s).acts own ≡ false) where
      -- what the new acts of iterations may stand for
      abbrev TurnsStand : ℕ → ℕ → Store → Store → List Act → Type 0
      TurnsStand n k s t rest = Fits (new_turns n k s) t × Agrees shown own rest (store_after (old_turns n k s).acts s) (store_after (new_turns n k s) t)

      turns_stand : (n k : ℕ) (s t : Store) (rest : List Act) → finish_of (old_turns n k s).ending ≡ goes_on → ((j : ℕ) → touch ((old_turns n k s).acts ++ rest) (copy j) ≡ false) → Agrees shown own ((old_turns n k s).acts ++ rest) s t → TurnsStand n k s t rest
      turns_stand zero k s t rest q untouched agree = (tt, agree)
      turns_stand (suc n) k s t rest q untouched agree =
          let old = (old_turns n (k + 1) (left_by n k s)).acts in
          let acts : (old_turns (suc n) k s).acts ≡ (trip k s).acts ++ end n ∷ old = ap (λ (r : Run). r.acts) (turns_are n k s q) ∙ append_assoc (trip k s).acts (end n ∷ []) old in
          let all : (old_turns (suc n) k s).acts ++ rest ≡ (trip k s).acts ++ end n ∷ (old ++ rest) = ap (λ (zs : List Act). zs ++ rest) acts ∙ append_assoc (trip k s).acts (end n ∷ old) rest in
          let there = subst (λ (zs : List Act). (j : ℕ) → touch zs (copy j) ≡ false) all untouched in
          let now = subst (λ (zs : List Act). Agrees shown own zs s t) all agree in
          let fit = (all_told p body (l + 1) (frame e k ∷ S)).fits s in
          let needless = unneeded k s (trip_goes n k s q) in
          let new = exchanged_acts (swapped own (copy k)) (trip k s).acts in
          let renamed = exchanged_renamed (swapped own (copy k)) (trip k s).acts in
          let first = body_fits shown own (copy k) (trip k s).acts new (end n ∷ (old ++ rest)) s t renamed needless (there k) (hidden k) now fit in
          let between = body_agrees shown own (copy k) (trip k s).acts new (end n ∷ (old ++ rest)) s t renamed needless (there k) (hidden k) now fit in
          let u = store_after new t in
          let behind_end = act_agrees shown own (end n) (new_end n) (old ++ rest) (store_after (trip k s).acts s) u (exit_alike n u) between in
          let at_left : left_by n k s ≡ store_behind (exit_when_none n e S) (store_after (trip k s).acts s) = after_append (trip k s).acts (end n ∷ []) s in
          let v = store_behind (exit_when_none n e2 S) u in
          let more = turns_stand n (k + 1) (left_by n k s) v rest (more_goes n k s q)
          (λ j. rest_untouched (trip k s).acts (end n) (old ++ rest) (copy j) (there j))
          (subst (λ (w : Store). Agrees shown own (old ++ rest) w v) (sym at_left) behind_end) in
          let left : store_after (old_turns (suc n) k s).acts s ≡ store_after old (left_by n k s) =
          ap (λ (zs : List Act). store_after zs s) (ap (λ (r : Run). r.acts) (turns_are n k s q)) ∙ after_append ((trip k s).acts ++ end n ∷ []) old s in
          let new_left : store_after (new_turns (suc n) k s) t ≡ store_after (new_turns n (k + 1) (left_by n k s)) v = after_append new (new_end n ∷ new_turns n (k + 1) (left_by n k s)) t in (
            fits_append new (new_end n ∷ new_turns n (k + 1) (left_by n k s)) t first (exit_when_found n e2 S u, more.0),
            λ c w d. ap (λ (z : Store). z c) left ∙ more.1 c w d ∙ ap (λ (z : Store). z c) (sym new_left),
          )
        where
          rest_untouched : (xs : List Act) (a : Act) (ys : List Act) (c : Cell) → touch (xs ++ a ∷ ys) c ≡ false → touch ys c ≡ false
          rest_untouched xs a ys c g = (or_parts (touch (a ∷ []) c) (touch ys c) (sym (touch_append (a ∷ []) ys c) ∙ (or_parts (touch xs c) (touch (a ∷ ys) c) (sym (touch_append xs (a ∷ ys) c) ∙ g)).1)).1

    -- the entry of the DO
    abbrev entry : Act
    entry = act (entered e.count) at (entry_touches seen e S)

    abbrev new_entry : Act
    new_entry = act (entered e2.count) at (entry_touches seen e2 S)

    abbrev entered_by : Store → Store
    entered_by s = store_after (entry ∷ []) s

    -- what is done in the place of the DO that has been entered so
    abbrev pub new_loop : Store → List Act
    new_loop s = new_entry ∷ new_turns e.count 1 (entered_by s)

    entry_alike : (t : Store) (c : Cell) → same_cell own c ≡ false → store_behind (entry_touches seen e2 S) t c ≡ store_behind (entry_touches seen e S) t c
    entry_alike t c q =
        ap (λ (u : Store). u c) (behind_append (numbered 1 seen) (exit_when_none e.count e2 S) t) ∙ exit_alike e.count (store_behind (numbered 1 seen) t) c q
        ∙ ap (λ (u : Store). u c) (sym (behind_append (numbered 1 seen) (exit_when_none e.count e S) t))

    module _ (s : Store) (comes : limits (names_in p S) h s ≡ record { seen = seen; result = Ok m }) (goes : finish_of (run p (Do h body) l S s).ending ≡ goes_on) where
      pub loop_is : run p (Do h body) l S s ≡ behind (entry ∷ []) (old_turns e.count 1 (entered_by s))
      loop_is =
          by_limits (limits (names_in p S) h s).seen (ap (λ z. z.seen) comes)
          ∙ ap (behind (entry ∷ [])) (by_kind h.parallel in_order ∙ in_order_is p body l S e at (entered_by s))
        where
          by_limits : (found : List Seen) → found ≡ seen → run p (Do h body) l S s ≡ behind (entry ∷ []) (run_entered h.parallel e.count e S at (body_run p body l S) (entered_by s))
          by_limits found q = entry_apart p h body l S s m (ap (λ z. z.result) comes)
              ∙ ap (λ (w : List Seen). behind (act (entered (entered_with p l h body w m).count) at (entry_touches w (entered_with p l h body w m) S) ∷ [])
              (run_entered h.parallel (entered_with p l h body w m).count (entered_with p l h body w m) S at (body_run p body l S) (store_after (act (entered (entered_with p l h body w m).count) at (entry_touches w (entered_with p l h body w m) S) ∷ []) s))) (ap (λ z. z.seen) comes)

          by_kind : (b : Bool) → b ≡ false → run_entered b e.count e S at (body_run p body l S) (entered_by s) ≡ run_entered false e.count e S at (body_run p body l S) (entered_by s)
          by_kind true q = absurd cc
          by_kind false q = refl

      pub turns_go : finish_of (old_turns e.count 1 (entered_by s)).ending ≡ goes_on
      turns_go = ap (λ (r : Run). finish_of r.ending) (sym loop_is) ∙ goes

      -- from each store that the new acts fit, the new DO does them
      pub loop_replays : Replays (run p (Do more_private body) l S) (new_loop s) goes_on
      loop_replays =
          loop_in_order p more_private body l S seen e2 (new_turns e.count 1 (entered_by s)) goes_on
          (m, subst (λ z. ComesTo (limits (names_in p S) h) z.seen z.result) comes ((limits_told (names_in p S) h).comes s), refl)
          in_order (turns_replay e.count 1 (entered_by s) turns_go)

      -- and they may stand for the old ones
      pub loop_stands : (shown : Cell → Bool) (rest : List Act) → ((k : ℕ) → shown (copy k) ≡ false) → ((k : ℕ) (u : Store) → finish_of (trip k u).ending ≡ goes_on → needs (trip k u).acts own ≡ false)
          → ((j : ℕ) → touch ((run p (Do h body) l S s).acts ++ rest) (copy j) ≡ false) → wants shown rest own ≡ false
          → StandsFor (record { agreed = wants shown ((run p (Do h body) l S s).acts ++ rest); old = (run p (Do h body) l S s).acts; new = new_loop s }) (wants shown rest) s
      loop_stands shown rest hidden unneeded untouched unwanted t agree =
          let old = (old_turns e.count 1 (entered_by s)).acts in
          let acts : (run p (Do h body) l S s).acts ≡ entry ∷ old = ap (λ (r : Run). r.acts) loop_is in
          let now : AgreeIn (wants shown (entry ∷ (old ++ rest))) s t = subst (λ (zs : List Act). AgreeIn (wants shown (zs ++ rest)) s t) acts agree in
          let there : (j : ℕ) → touch (entry ∷ (old ++ rest)) (copy j) ≡ false = subst (λ (zs : List Act). (j : ℕ) → touch (zs ++ rest) (copy j) ≡ false) acts untouched in
          let old_fits : Fits (entry ∷ old) s = subst (λ (zs : List Act). Fits zs s) acts ((run_told p (Do h body) l S).fits s) in
          let first : Fits (entry ∷ []) t = agreeing_fits (entry ∷ []) s t (λ c n. now c (needed_wanted shown (entry ∷ []) (old ++ rest) c n)) (fits_first (entry ∷ []) old s old_fits) in
          let found = reads_found_first seen 1 (exit_when_none e.count e2 S) t (found_reads_first seen 1 (exit_when_none e.count e S) t first.0) (exit_when_found e.count e2 S t) in
          let v = store_behind (entry_touches seen e2 S) t in
          let inside = act_agrees shown own entry new_entry (old ++ rest) s t (entry_alike t) (λ c w q. now c w) in
          let more = turns_stand shown hidden unneeded e.count 1 (entered_by s) v rest turns_go (λ j. (or_parts (touch (entry ∷ []) (copy j)) (touch (old ++ rest) (copy j)) (sym (touch_append (entry ∷ []) (old ++ rest) (copy j)) ∙ there j)).1) inside in
          let left : store_after (run p (Do h body) l S s).acts s ≡ store_after old (entered_by s) = ap (λ (zs : List Act). store_after zs s) acts in
          ((found, more.0), λ c w. ap (λ (u : Store). u c) left ∙ more.1 c w (other_cell own c (λ q. both_ways (wants shown rest own) unwanted (ap (wants shown rest) q ∙ w))))
