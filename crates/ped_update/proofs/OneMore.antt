-- One more pair of a changed program is matched.
use Rattle.std.proofs.Common.{◌≡◌, ℕ, zero, suc, ◌+◌, ◌<◌, ◌≤◌, List, [], ◌∷◌, ◌++◌, length, map, take, drop, Bool, false, cond, Option, Some, None, slice_get, refl, ap, sym, ◌∙◌, add-one, append-nil, arith}
use Rattle.std.specs.Prelude.{is_some, not, if◌then◌else◌, MatchOption, IfSome, OnOk, Result, Ok, Err}
use Rattle.std.specs.List.{count_by}
use Rattle.std.proofs.lemmas.List.{length-take-le}
use Rattle.ped_views.specs.Views.{View}
use Rattle.ped_views.specs.SameViews.{same_view}
use Rattle.ped_refs.specs.TextPlaces.{Key}
use Rattle.ped_graph.specs.Held.{Framed, HeldFrame, Pair, Held, pair_by, pairs_by}
use Rattle.ped_graph.specs.Keys.{key_of, IsOnlyAt}
use Rattle.ped_graph.specs.Parts.{HeldParts}
use Rattle.ped_graph.specs.Keeping.{IsOneToOne}
use Rattle.ped_update.specs.Fresh.{is_fresh, fresh_pairs}
use Rattle.ped_update.specs.Matching.{former_in, former_key, origin, slot_by, kept_by, slots_for, kept_from, parts_for, IsPlace, IsMatched, KeepsVerdict, AddsVerdict, tests}
use Rattle.ped_graph.proofs.Slices.{within, length_mapped, mapped_at, some_is}
use Rattle.ped_update.proofs.Origins.{no_pair, one_pair}
use Rattle.ped_update.proofs.Matched.{fresh_by, same_told}
use Rattle.ped_update.proofs.Yielded.{step_slots, step_kept, step_steps, count_front, take_next}

-- the item at the front of what is left
pub front_there : {X : Type 0} (xs : List X) (i : ℕ) (x : X) (rest : List X) → drop i xs ≡ x ∷ rest → slice_get xs i ≡ Some x
front_there [] zero x rest e = cc
front_there [] (suc i) x rest e = cc
front_there (y ∷ xs) zero x rest e = (let same : y ≡ x = cc in ap Some same)
front_there (y ∷ xs) (suc i) x rest e = front_there xs i x rest e

pub take_past : {X : Type 0} (xs : List X) (i : ℕ) → length xs ≤ i → take i xs ≡ xs
take_past [] zero h = refl
take_past [] (suc i) h = refl
take_past (x ∷ xs) zero h = absurd (omega (arith, h))
take_past (x ∷ xs) (suc i) h = ap (λ ys. x ∷ ys) (take_past xs i (omega (arith, h)))

module _ (former : Held) (keep : List (ℕ × ℕ)) (p : Pair) (before after : HeldParts) where
  -- a pair that keeps a verdict
  pub keeps_matched : (here : ℕ) → Some here ≡ origin former keep p → KeepsVerdict here before after → IsMatched former keep p before after
  keeps_matched here is keeps = record {
    frame = keeps.frame;
    slots = keeps.slots ∙ ap (λ (o : Option ℕ). before.slots ++ slot_by o p ∷ []) is;
    kept = keeps.kept ∙ ap (λ (o : Option ℕ). before.kept ++ kept_by o (length before.slots)) is;
  }

  -- a pair that is tested
  pub tests_matched : None ≡ origin former keep p → AddsVerdict p.view before after → IsMatched former keep p before after
  tests_matched is adds = record {
    frame = adds.frame;
    slots = adds.slots ∙ ap (λ (o : Option ℕ). before.slots ++ slot_by o p ∷ []) is;
    kept = adds.kept ∙ sym (append-nil before.kept) ∙ ap (λ (o : Option ℕ). before.kept ++ kept_by o (length before.slots)) is;
  }

-- what is so holds of each value
pub on_any : {T E : Type 0} {P : Type 0} (r : Result T E) → P → OnOk r P
on_any (Ok x) p = p
on_any (Err x) p = tt

module _ (former : Held) (keep : List (ℕ × ℕ)) (p : Pair) where
  tests_by : (o : Option ℕ) → o ≡ origin former keep p → tests former keep p ≡ cond (not (is_some o)) 1 0
  tests_by o is = ap (λ (t : Bool). cond t 1 0) (fresh_by former keep p ∙ ap (λ (x : Option ℕ). not (is_some x)) (sym is))

  pub kept_untested : (here : ℕ) → Some here ≡ origin former keep p → tests former keep p ≡ 0
  kept_untested here is = tests_by (Some here) is

  pub fresh_tested : None ≡ origin former keep p → tests former keep p ≡ 1
  fresh_tested is = tests_by None is

  -- a place by the former key
  pub place_by : IsOneToOne keep → (k : Key) (place : Option ℕ) → former_key (former_in keep) (p.source, p.sink) ≡ Some k
      → MatchOption place ((n : ℕ) → slice_get (map key_of former.frame.pairs) n ≡ Some k → ⊥) (λ n. IsOnlyAt (map key_of former.frame.pairs) k n) → IsPlace former keep p place
  place_by once k None was none = no_pair former keep once p k was none
  place_by once k (Some here) was alone = λ v at. one_pair former keep once p k here v was alone at

  -- a place with the same view
  pub same_place : (here : ℕ) (v : View) → IsPlace former keep p (Some here) → slice_get former.views here ≡ Some v → v ≡ p.view → Some here ≡ origin former keep p
  same_place here v place at same = sym (place v at ∙ ap (λ (t : Bool). if t then Some here else None) (same_told v p.view same))

  pub other_place : (here : ℕ) (v : View) → IsPlace former keep p (Some here) → slice_get former.views here ≡ Some v → same_view v p.view ≡ false → None ≡ origin former keep p
  other_place here v place at other = sym (place v at ∙ ap (λ (t : Bool). if t then Some here else None) other)

-- the next pair
module _ (former : Held) (keep : List (ℕ × ℕ)) (fs : List Framed) (views : List View) (i : ℕ) (view : View) (f : Framed) (at : slice_get fs i ≡ Some f) (there : slice_get views i ≡ Some view) where
  long : length (take i views) ≡ i
  long = (let below = within views i view there in length-take-le i views (omega (arith, below)))

  at_next : slice_get fs (length (take i views)) ≡ Some f
  at_next = ap (λ (n : ℕ). slice_get fs n) long ∙ at

  next_pairs : pairs_by fs (take i views ++ view ∷ []) ≡ pairs_by fs (take (i + 1) views)
  next_pairs = ap (λ (vs : List View). pairs_by fs vs) (sym (take_next views i view there)) ∙ ap (λ (n : ℕ). pairs_by fs (take n views)) (sym (add-one i))

  pub next_slots : (before after : HeldParts) → before.slots ≡ slots_for former keep (pairs_by fs (take i views)) → IsMatched former keep (pair_by f view) before after → after.slots ≡ slots_for former keep (pairs_by fs (take (i + 1) views))
  next_slots before after e m =
      step_slots former keep fs (take i views) view f at_next (origin former keep (pair_by f view)) refl before.slots after.slots e m.slots
      ∙ ap (λ (ps : List Pair). slots_for former keep ps) next_pairs

  pub next_kept : (before after : HeldParts) → length before.slots ≡ i → before.kept ≡ kept_from former keep 0 (pairs_by fs (take i views)) → IsMatched former keep (pair_by f view) before after → after.kept ≡ kept_from former keep 0 (pairs_by fs (take (i + 1) views))
  next_kept before after many e m =
      let below = within fs i f at in
      let as_long = long in
      step_kept former keep fs (take i views) view f at_next (origin former keep (pair_by f view)) refl before.kept after.kept (length before.slots) (many ∙ sym as_long) (omega (arith, below, as_long)) e m.kept
      ∙ ap (λ (ps : List Pair). kept_from former keep 0 ps) next_pairs

  -- the tests of the pairs before the next one and of that
  pub next_tests : count_by (is_fresh former keep) (pairs_by fs (take (i + 1) views)) ≡ count_by (is_fresh former keep) (pairs_by fs (take i views)) + tests former keep (pair_by f view)
  next_tests =
      let so_far : ℕ = count_by (is_fresh former keep) (pairs_by fs (take i views)) in
      let more = tests_by former keep (pair_by f view) (origin former keep (pair_by f view)) refl in
      let moved = ap (λ (ps : List Pair). count_by (is_fresh former keep) ps) next_pairs in
      let steps = step_steps former keep fs (take i views) view f at_next (origin former keep (pair_by f view)) refl 0 so_far (so_far + tests former keep (pair_by f view)) (omega arith) (ap (λ (n : ℕ). so_far + n) more) in
      omega (arith, moved, steps)

-- no more pairs are fresh at the front
pub front_tests : (former : Held) (keep : List (ℕ × ℕ)) (fs : List Framed) (views : List View) (i : ℕ) → count_by (is_fresh former keep) (pairs_by fs (take i views)) ≤ count_by (is_fresh former keep) (pairs_by fs views)
front_tests former keep fs views i = count_front (is_fresh former keep) fs views (take i views) i refl

-- all pairs are matched
pub all_matched : (former : Held) (keep : List (ℕ × ℕ)) (changed : Held) (parts : HeldParts) (i : ℕ) → length changed.views ≤ i → parts.frame ≡ changed.frame
    → parts.slots ≡ slots_for former keep (pairs_by changed.frame.pairs (take i changed.views)) → parts.kept ≡ kept_from former keep 0 (pairs_by changed.frame.pairs (take i changed.views))
    → parts ≡ parts_for former keep changed
all_matched former keep changed parts i past frame slots kept =
    let all = take_past changed.views i past in
    let slots_all = slots ∙ ap (λ (vs : List View). slots_for former keep (pairs_by changed.frame.pairs vs)) all in
    let kept_all = kept ∙ ap (λ (vs : List View). kept_from former keep 0 (pairs_by changed.frame.pairs vs)) all in
    λ j. record { frame = frame j; slots = slots_all j; kept = kept_all j }

-- all fresh pairs are tested
pub all_ticks : (former : Held) (keep : List (ℕ × ℕ)) (changed : Held) (i start now : ℕ) → length changed.views ≤ i
    → now ≡ start + count_by (is_fresh former keep) (pairs_by changed.frame.pairs (take i changed.views)) → now ≡ start + fresh_pairs former keep changed
all_ticks former keep changed i start now past e =
    e ∙ ap (λ (vs : List View). start + count_by (is_fresh former keep) (pairs_by changed.frame.pairs vs)) (take_past changed.views i past)

-- a place that is found is that of a pair
pub place_within : (former : Held) (k : Key) (place : Option ℕ)
    → MatchOption place ((n : ℕ) → slice_get (map key_of former.frame.pairs) n ≡ Some k → ⊥) (λ n. IsOnlyAt (map key_of former.frame.pairs) k n) → IfSome place (λ n. n < length former.frame.pairs)
place_within former k None none = tt
place_within former k (Some here) alone = (let less = within (map key_of former.frame.pairs) here k alone.found in let mapped = length_mapped key_of former.frame.pairs in omega (arith, less, mapped))

-- the key of the pair at a place
pub key_there : (frame now : HeldFrame) (n m : ℕ) (k : Key) (f : Framed) → now ≡ frame → n ≡ m → slice_get (map key_of now.pairs) n ≡ Some k → slice_get frame.pairs m ≡ Some f → (f.source, f.sink) ≡ k
key_there frame now n m k f same is at there =
    some_is (key_of f) k (sym (mapped_at key_of frame.pairs m f there) ∙ ap (λ (i : ℕ). slice_get (map key_of frame.pairs) i) (sym is) ∙ ap (λ (h : HeldFrame). slice_get (map key_of h.pairs) n) (sym same) ∙ at)
