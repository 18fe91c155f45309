-- The entries and ends of two loops, one in the other: what they write, and what they read.
use Rattle.std.proofs.Common.{Bool, List, [], ap, arith, false, if◌then◌else◌, inl, inr, refl, subst, suc, sym, true, ℕ, ◌++◌, ◌-◌, ◌<◌, ◌==◌, ◌∙◌, ◌∷◌, ◌≡◌, ◌≤◌}
use Rattle.std.proofs.lemmas.Bool.{both_ways}
use Rattle.std.specs.List.{flat_map, range_with_len}
use Rattle.ped_rules.proofs.NestLaws.NestKnots.{in_numbers, in_rows, nest_row, pair_row, pair_rows}
use Rattle.ped_rules.specs.ped_bodies.proofs.BodyLaws.TripLists.{end_in_order}
use Rattle.ped_rules.specs.ped_bodies.specs.Trips.{loop_entry, trip_end}
use Rattle.ped_rules.specs.ped_laws.proofs.ActLaws.Lists.{in_parts}
use Rattle.ped_rules.specs.ped_laws.proofs.ActLaws.Renamings.{needed_touched}
use Rattle.ped_rules.specs.ped_laws.specs.Acts.Conflicts.{IsNoReadOf, LeaveUnread, ReadNone}
use Rattle.ped_rules.specs.ped_laws.specs.Acts.Fitting.{touches_of}
use Rattle.ped_rules.specs.ped_laws.specs.Acts.Orders.{IsIn}
use Rattle.ped_rules.specs.ped_laws.specs.Acts.Renaming.{touch}
use Rattle.ped_rules.specs.ped_laws.specs.Acts.Sets.{needs}
use Rattle.ped_rules.specs.ped_laws.specs.FlowRuns.Covering.{is_cell_of}
use Rattle.ped_rules.specs.ped_laws.specs.Runs.Replaying.{act}
use Rattle.ped_rules.specs.ped_laws.specs.Runs.Seeing.{Holds}
use Rattle.ped_rules.specs.ped_eval.specs.Evaluation.{Seen, cell_seen, index_seen, numbered}
use Rattle.ped_rules.specs.ped_eval.specs.Loops.{Entered, exit_touches, exit_when_none, left_in_variable, undefined_all, undefined_by}
use Rattle.ped_rules.specs.ped_eval.specs.Scopes.{Scope, cell_of}
use Rattle.ped_rules.specs.ped_eval.specs.Statements.{write_touch}
use Rattle.ped_rules.specs.ped_store.specs.Acts.{Act, Manner, Place, Touch, ended_turn, is_told, reads, writes}
use Rattle.ped_rules.specs.ped_store.specs.Cells.{Cell}
use Rattle.ped_rules.specs.ped_store.specs.Races.{is_write}
use Rattle.ped_rules.specs.ped_store.specs.Stores.{Content, Store}
use Rattle.ped_rules.specs.ped_weaves.specs.Weaves.{Knot, control}
use Rattle.ped_rules.specs.ped_loop_runs.proofs.LoopLaws.OneForOneStands.{false_unless}

-- an inner control of two loops: the entry of the inner one, or an end
pub data IsInnerControl (e : Entered) (scope : Scope) (at : Place) (inner_seen : ℕ → List Seen) (inner : ℕ → Entered) (inner_scope : ℕ → Scope) (inner_at : ℕ → Place) (c : List Act) : Type 0 where
  inner_entry : (i : ℕ) → 1 ≤ i → i ≤ e.count → c ≡ loop_entry (inner_seen i) (inner i) (inner_scope i) (inner_at i) ∷ [] → IsInnerControl e scope at inner_seen inner inner_scope inner_at c
  inner_end : (i j : ℕ) → 1 ≤ i → i ≤ e.count → c ≡ trip_end (inner i) (inner_scope i) (inner_at i) j → IsInnerControl e scope at inner_seen inner inner_scope inner_at c
  outer_end : (i : ℕ) → 1 ≤ i → i ≤ e.count → c ≡ trip_end e scope at i → IsInnerControl e scope at inner_seen inner inner_scope inner_at c

pub same_control : (c a : List Act) → control c ≡ control a → c ≡ a
same_control c a q = cc

module _ (seen : List Seen) (e : Entered) (scope : Scope) (at : Place) (inner_seen : ℕ → List Seen) (inner : ℕ → Entered) (inner_scope : ℕ → Scope) (inner_at : ℕ → Place) (x y : ℕ → ℕ → ℕ) where
  abbrev row : ℕ → List Knot
  row = nest_row seen e scope at inner_seen inner inner_scope inner_at x y

  abbrev pairs : ℕ → List Knot
  pairs = pair_rows seen e scope at inner_seen inner inner_scope inner_at x y

  abbrev pair : ℕ → ℕ → List Knot
  pair = pair_row seen e scope at inner_seen inner inner_scope inner_at x y

  abbrev Inner : List Act → Type 0
  Inner = IsInnerControl e scope at inner_seen inner inner_scope inner_at

  in_pair : (c : List Act) (i j : ℕ) → IsIn (control c) (pair i j) → c ≡ trip_end (inner i) (inner_scope i) (inner_at i) j
  in_pair c i j (inl q) = absurd cc
  in_pair c i j (inr (inl q)) = same_control c (trip_end (inner i) (inner_scope i) (inner_at i) j) q
  in_pair c i j (inr (inr k)) = absurd k

  in_one_row : (c : List Act) (i : ℕ) → 1 ≤ i → i ≤ e.count → IsIn (control c) (row i) → Inner c
  in_one_row c i from to (inl q) = inner_entry i from to (same_control c (loop_entry (inner_seen i) (inner i) (inner_scope i) (inner_at i) ∷ []) q)
  in_one_row c i from to (inr k) = elim (in_parts (control c) (pairs i) (control (trip_end e scope at i) ∷ []) k) [
    | inl m ↦ (let r = in_rows (pair i) (range_with_len 1 (inner i).count) (control c) m in inner_end i r.0 from to (in_pair c i r.0 r.2))
    | inr m ↦ elim m [
      | inl q ↦ outer_end i from to (same_control c (trip_end e scope at i) q)
      | inr none ↦ absurd none
    ]
  ]

  pub inner_control : (c : List Act) → IsIn (control c) (flat_map row (range_with_len 1 e.count)) → Inner c
  inner_control c k =
      let r = in_rows row (range_with_len 1 e.count) (control c) k in
      let w = in_numbers e.count 1 r.0 r.1 in
      in_one_row c r.0 w.0 (let hi = w.1 in omega (arith, hi)) r.2

-- a DO without PRIVATE names writes its variable, in the act that leaves it
module _ (e : Entered) (S : Scope) (serial : e.head.parallel ≡ false) (private : e.head.private ≡ []) (inner : e.inner ≡ []) where
  exit_alone : exit_touches e S ≡ write_touch (cell_of S e.head.variable) (left_in_variable e) 0 ∷ []
  exit_alone = λ i. write_touch (cell_of S e.head.variable) (left_in_variable e) 0 ∷ (undefined_by S e.behind_bounds (private i) ++ undefined_all S (inner i))

  exit_cell : (v : Touch) → IsIn v (exit_touches e S) → v.cell ≡ cell_of S e.head.variable
  exit_cell v i = by (subst (IsIn v) exit_alone i)
    where
      by : IsIn v (write_touch (cell_of S e.head.variable) (left_in_variable e) 0 ∷ []) → v.cell ≡ cell_of S e.head.variable
      by (inl q) = ap (λ (z : Touch). z.cell) q
      by (inr k) = absurd k

  when_cell : (n : ℕ) (v : Touch) → IsIn v (exit_when_none n e S) → v.cell ≡ cell_of S e.head.variable
  when_cell n v i = go (n == 0) i
    where
      go : (b : Bool) → IsIn v (if b then exit_touches e S else []) → v.cell ≡ cell_of S e.head.variable
      go true k = exit_cell v k
      go false k = absurd k

  when_unreferred : (n : ℕ) (v : Touch) → IsIn v (exit_when_none n e S) → v.reference ≡ 0
  when_unreferred n v i = go (n == 0) i
    where
      by : IsIn v (write_touch (cell_of S e.head.variable) (left_in_variable e) 0 ∷ []) → v.reference ≡ 0
      by (inl q) = ap (λ (z : Touch). z.reference) q
      by (inr k) = absurd k

      go : (b : Bool) → IsIn v (if b then exit_touches e S else []) → v.reference ≡ 0
      go true k = by (subst (IsIn v) exit_alone k)
      go false k = absurd k

  -- what an entry does by references it has read in its bounds
  pub entry_seen : (seen : List Seen) (at : Place) (v : Touch) → IsIn v (loop_entry seen e S at).touches → 0 < v.reference → IsIn v (numbered 1 seen)
  entry_seen seen at v i some = elim (in_parts v (numbered 1 seen) (exit_when_none e.count e S) i) [
    | inl k ↦ k
    | inr k ↦ (let none = when_unreferred e.count v k in absurd (omega (arith, none, some)))
  ]

  numbered_unwritten : (n : ℕ) (seen : List Seen) (v : Touch) → IsIn v (numbered n seen) → is_write v.manner ≡ true → ⊥
  numbered_unwritten n [] v i write = absurd i
  numbered_unwritten n (cell_seen c content ∷ more) v (inl q) write = let told = sym (ap (λ (z : Touch). is_write z.manner) q) ∙ write in absurd cc
  numbered_unwritten n (cell_seen c content ∷ more) v (inr i) write = numbered_unwritten (suc n) more v i write
  numbered_unwritten n (index_seen c m ∷ more) v (inl q) write = let told = sym (ap (λ (z : Touch). is_write z.manner) q) ∙ write in absurd cc
  numbered_unwritten n (index_seen c m ∷ more) v (inr i) write = numbered_unwritten n more v i write

  pub entry_cell : (seen : List Seen) (at : Place) (a : Act) (v : Touch) → IsIn a (loop_entry seen e S at ∷ []) → IsIn v a.touches → is_write v.manner ≡ true → v.cell ≡ cell_of S e.head.variable
  entry_cell seen at a v (inl q) j write = elim (in_parts v (numbered 1 seen) (exit_when_none e.count e S) (subst (λ (b : Act). IsIn v b.touches) q j)) [
    | inl k ↦ absurd (numbered_unwritten 1 seen v k write)
    | inr k ↦ when_cell e.count v k
  ]
  entry_cell seen at a v (inr k) j write = absurd k

  pub end_cell : (at : Place) (j : ℕ) (a : Act) (v : Touch) → IsIn a (trip_end e S at j) → IsIn v a.touches → v.cell ≡ cell_of S e.head.variable
  end_cell at j a v i k = by (subst (λ (acts : List Act). IsIn a acts) (end_in_order e S at j (e.count - j) serial refl) i)
    where
      by : IsIn a (act (ended_turn (e.count - j)) at (exit_when_none (e.count - j) e S) ∷ []) → v.cell ≡ cell_of S e.head.variable
      by (inl q) = when_cell (e.count - j) v (subst (λ (b : Act). IsIn v b.touches) q k)
      by (inr none) = absurd none

pub unneeded : (acts : List Act) (c : Cell) → touch acts c ≡ false → needs acts c ≡ false
unneeded acts c none = false_unless (needs acts c) (λ m. both_ways (touch acts c) none (needed_touched (touches_of acts) c m))

-- touches of other names aren't reads of this one
module _ (w : List ℕ) where
  other_touches : (ts : List Touch) → ((v : Touch) → IsIn v ts → is_cell_of w v.cell ≡ false) → LeaveUnread (is_cell_of w) ts
  other_touches [] h = tt
  other_touches (v ∷ ts) h = (by v.manner, other_touches ts (λ x i. h x (inr i)))
    where
      by : (m : Manner) → IsNoReadOf (is_cell_of w) m v.cell
      by reads = h v (inl refl)
      by writes = tt
      by is_told = tt

  pub other_acts : (acts : List Act) → ((a : Act) → IsIn a acts → (v : Touch) → IsIn v a.touches → is_cell_of w v.cell ≡ false) → ReadNone (is_cell_of w) acts
  other_acts [] h = tt
  other_acts (a ∷ acts) h = (other_touches a.touches (h a (inl refl)), other_acts acts (λ b i. h b (inr i)))

pub held_in : (s : Store) (xs : List Seen) (c : Cell) (v : Content) → Holds s xs → IsIn (cell_seen c v) xs → s c ≡ v
held_in s [] c v q i = absurd i
held_in s (cell_seen e u ∷ more) c v q (inl r) = let cells : c ≡ e = cc in let same_content : v ≡ u = cc in ap s cells ∙ q.0 ∙ sym same_content
held_in s (cell_seen e u ∷ more) c v q (inr i) = held_in s more c v q.1 i
held_in s (index_seen e n ∷ more) c v q (inl r) = absurd cc
held_in s (index_seen e n ∷ more) c v q (inr i) = held_in s more c v q i

-- what is seen in a cell is touched
pub seen_touch : (n : ℕ) (xs : List Seen) (c : Cell) (v : Content) → IsIn (cell_seen c v) xs → (x : Touch) × IsIn x (numbered n xs) × (x.cell ≡ c)
seen_touch n [] c v i = absurd i
seen_touch n (cell_seen e u ∷ more) c v (inl r) = let cells : c ≡ e = cc in (record { cell = e; manner = reads; content = u; reference = n }, inl refl, sym cells)
seen_touch n (cell_seen e u ∷ more) c v (inr i) = let r = seen_touch (suc n) more c v i in (r.0, inr r.1, r.2)
seen_touch n (index_seen e m ∷ more) c v (inl r) = absurd cc
seen_touch n (index_seen e m ∷ more) c v (inr i) = let r = seen_touch n more c v i in (r.0, inr r.1, r.2)
