-- Where acts read the cells of a scalar: outside of all DO loops of it, and in the cell that it stands for there.
use Rattle.std.proofs.Common.{◌≡◌, ℕ, zero, suc, ◌+◌, ◌≤◌, ◌<◌, List, [], ◌∷◌, ◌++◌, Bool, true, false, ◌&&◌, ◌||◌, ◌==◌, if◌then◌else◌, refl, sym, ap, ◌∙◌, ◌⊎◌, inl, inr, arith}
use Rattle.std.specs.List.{list_any}
use Rattle.std.proofs.lemmas.List.Folds.{list_any-append}
use Rattle.ped_eval.specs.ped_store.specs.Cells.{Cell, same_cell}
use Rattle.ped_eval.specs.ped_store.specs.Stores.{Store}
use Rattle.ped_eval.specs.ped_store.specs.Acts.{Manner, reads, writes, is_told, Touch, Place, Step, ended_turn, closed, Act, store_behind}
use Rattle.ped_laws.specs.Acts.Fitting.{touches_of}
use Rattle.ped_laws.specs.Acts.Sets.{read_first, needed_by}
use Rattle.ped_eval.specs.Scopes.{Frame, Scope}
use Rattle.ped_eval.specs.Evaluation.{Seen, cell_seen, index_seen, numbered}
use Rattle.ped_eval.specs.Loops.{Entered, frame, exit_touches, exit_when_none, undefined_by, undefined_all}
use Rattle.ped_eval.specs.Runs.{Ending, going, stopped, failed, Run, followed_by, does, nothing_done, turns, parallel_turns, run_entered}
use Rattle.ped_flow.proofs.Truths.{untrue, or_split}
use Rattle.ped_laws.proofs.ActLaws.Reorderings.{touches_append}
use Rattle.ped_laws.proofs.FlowRunLaws.Seeing.{is_seen}

-- a touch that reads
abbrev pub is_read : Manner → Bool
is_read reads = true
is_read writes = false
is_read is_told = false

-- touches of which one reads the cell
abbrev pub reads_cell : Cell → List Touch → Bool
reads_cell c ts = list_any (λ t. is_read t.manner && same_cell t.cell c) ts

-- what is needed is read
pub needed_read : (c : Cell) (ts : List Touch) → needed_by ts c ≡ true → reads_cell c ts ≡ true
needed_read c [] h = h
needed_read c (t ∷ ts) h = by t.manner (same_cell t.cell c) h (needed_read c ts)
  where
    by : (m : Manner) (same : Bool) → (if same then read_first m (needed_by ts c) else needed_by ts c) ≡ true → (needed_by ts c ≡ true → reads_cell c ts ≡ true) → ((is_read m && same) || reads_cell c ts) ≡ true
    by reads true h k = refl
    by writes true h k = untrue h
    by is_told true h k = k h
    by reads false h k = k h
    by writes false h k = k h
    by is_told false h k = k h

pub reads_parts : (c : Cell) (xs ys : List Touch) → reads_cell c (xs ++ ys) ≡ true → (reads_cell c xs ≡ true) ⊎ (reads_cell c ys ≡ true)
reads_parts c xs ys h = or_split (reads_cell c xs) (reads_cell c ys) (sym (list_any-append (λ t. is_read t.manner && same_cell t.cell c) xs ys) ∙ h)

pub seen_read : (c : Cell) (k : ℕ) (seen : List Seen) → reads_cell c (numbered k seen) ≡ is_seen c seen
seen_read c k [] = refl
seen_read c k (cell_seen d content ∷ seen) = ap (λ (b : Bool). same_cell d c || b) (seen_read c (suc k) seen)
seen_read c k (index_seen d v ∷ seen) = seen_read c k seen

undefined_unread : (c : Cell) (S : Scope) (n : ℕ) (xs : List (List ℕ)) → reads_cell c (undefined_by S n xs) ≡ false
undefined_unread c S n [] = refl
undefined_unread c S n (x ∷ xs) = undefined_unread c S (suc n) xs

undefined_all_unread : (c : Cell) (S : Scope) (xs : List (List ℕ)) → reads_cell c (undefined_all S xs) ≡ false
undefined_all_unread c S [] = refl
undefined_all_unread c S (x ∷ xs) = undefined_all_unread c S xs

pub exit_unread : (c : Cell) (e : Entered) (S : Scope) → reads_cell c (exit_touches e S) ≡ false
exit_unread c e S =
    list_any-append (λ t. is_read t.manner && same_cell t.cell c) (undefined_by S e.behind_bounds e.head.private) (undefined_all S e.inner)
    ∙ (λ i. undefined_unread c S e.behind_bounds e.head.private i || undefined_all_unread c S e.inner i)

pub maybe_exit_unread : (c : Cell) (n : ℕ) (e : Entered) (S : Scope) → reads_cell c (exit_when_none n e S) ≡ false
maybe_exit_unread c n e S = by (n == 0)
  where
    by : (b : Bool) → reads_cell c (if b then exit_touches e S else []) ≡ false
    by true = exit_unread c e S
    by false = refl

-- a read by a run and then another
pub then_read : (c : Cell) (acts : List Act) (ending : Ending) (next : Store → Run) → reads_cell c (touches_of (followed_by acts ending next).acts) ≡ true
    → (reads_cell c (touches_of acts) ≡ true) ⊎ ((u : Store) × (reads_cell c (touches_of (next u).acts) ≡ true))
then_read c acts (going u) next h =
    elim (reads_parts c (touches_of acts) (touches_of (next u).acts) (sym (ap (reads_cell c) (touches_append acts (next u).acts)) ∙ h)) [ inl k ↦ inl k | inr k ↦ inr (u, k) ]
then_read c acts (stopped u) next h = inl h
then_read c acts (failed f n) next h = inl h

-- a read by an act and then a run
pub act_read : (c : Cell) (step : Step) (at : Place) (ts : List Touch) (next : Store → Run) (s : Store) → reads_cell c (touches_of (does step at ts next s).acts) ≡ true
    → (reads_cell c ts ≡ true) ⊎ (reads_cell c (touches_of (next (store_behind ts s)).acts) ≡ true)
act_read c step at ts next s h = reads_parts c ts (touches_of (next (store_behind ts s)).acts) h

-- an iteration from this one on, and before that one, reads the cell
abbrev pub ReadIn : Cell → (ℕ → Store → Run) → ℕ → ℕ → Type 0
ReadIn c body k n = (j : ℕ) × (u : Store) × (k ≤ j) × (j < k + n) × (reads_cell c (touches_of (body j u).acts) ≡ true)

read_later : (c : Cell) (body : ℕ → Store → Run) (k n : ℕ) → ReadIn c body (k + 1) n → ReadIn c body k (suc n)
read_later c body k n h = (h.0, h.1, omega (arith, h.2), omega (arith, h.3), h.4)

read_now : (c : Cell) (body : ℕ → Store → Run) (k n : ℕ) (u : Store) → reads_cell c (touches_of (body k u).acts) ≡ true → ReadIn c body k (suc n)
read_now c body k n u h = (k, u, omega arith, omega arith, h)

pub turns_read : (c : Cell) (n k : ℕ) (e : Entered) (S : Scope) (at : Place) (body : Frame → Store → Run) (s : Store) → reads_cell c (touches_of (turns n k e S at body s).acts) ≡ true → ReadIn c (λ j. body (frame e j)) k n
turns_read c zero k e S at body s h = untrue h
turns_read c (suc n) k e S at body s h =
    elim (then_read c (body (frame e k) s).acts (body (frame e k) s).ending (does (ended_turn n) at (exit_when_none n e S) (turns n (k + 1) e S at body)) h) [
      | inl r ↦ read_now c (λ j. body (frame e j)) k n s r
      | inr r ↦ elim (act_read c (ended_turn n) at (exit_when_none n e S) (turns n (k + 1) e S at body) r.0 r.1) [
        | inl q ↦ let z : false ≡ true = sym (maybe_exit_unread c n e S) ∙ q in untrue z
        | inr q ↦ read_later c (λ j. body (frame e j)) k n (turns_read c n (k + 1) e S at body (store_behind (exit_when_none n e S) r.0) q)
      ]
    ]

pub parallel_read : (c : Cell) (n k : ℕ) (e : Entered) (body : Frame → Store → Run) (s : Store) → reads_cell c (touches_of (parallel_turns n k e body s).acts) ≡ true → ReadIn c (λ j. body (frame e j)) k n
parallel_read c zero k e body s h = untrue h
parallel_read c (suc n) k e body s h =
    elim (then_read c (body (frame e k) s).acts (body (frame e k) s).ending (parallel_turns n (k + 1) e body) h) [
      | inl r ↦ read_now c (λ j. body (frame e j)) k n s r
      | inr r ↦ read_later c (λ j. body (frame e j)) k n (parallel_read c n (k + 1) e body r.0 r.1)
    ]

pub entered_read : (c : Cell) (parallel : Bool) (n : ℕ) (e : Entered) (S : Scope) (at : Place) (body : Frame → Store → Run) (s : Store) → reads_cell c (touches_of (run_entered parallel n e S at body s).acts) ≡ true → ReadIn c (λ j. body (frame e j)) 1 n
entered_read c true zero e S at body s h = untrue h
entered_read c false zero e S at body s h = untrue h
entered_read c false (suc n) e S at body s h = turns_read c (suc n) 1 e S at body s h
entered_read c true (suc n) e S at body s h =
    elim (then_read c (parallel_turns (suc n) 1 e body s).acts (parallel_turns (suc n) 1 e body s).ending (does closed at (exit_touches e S) nothing_done) h) [
      | inl r ↦ parallel_read c (suc n) 1 e body s r
      | inr r ↦ elim (act_read c closed at (exit_touches e S) nothing_done r.0 r.1) [ inl q ↦ (let z : false ≡ true = sym (exit_unread c e S) ∙ q in untrue z) | inr q ↦ untrue q ]
    ]
