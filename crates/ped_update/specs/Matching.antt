-- How the code matches the pairs of a changed program with those that a graph holds. Only contracts of private functions use these definitions (this project).
use Rattle.std.specs.Prelude.{ℕ, suc, List, [], ◌∷◌, ◌++◌, map, ◌≡◌, length, nat_eq, slice_get, Bool, cond, ◌==◌, Option, Some, None, if◌then◌else◌}
use Rattle.std.specs.Option.{option_or}
use Rattle.indexmap.specs.IndexMap.{IndexMap, get}
use Rattle.ped_views.specs.Views.{View}
use Rattle.ped_views.specs.SameViews.{same_view}
use Rattle.ped_refs.specs.TextPlaces.{Key}
use Rattle.ped_graph.specs.Held.{Pair, Held, held_pairs}
use Rattle.ped_graph.specs.Parts.{HeldParts}
use Rattle.ped_update.specs.Fresh.{comes_from, is_fresh}
use Rattle.ped_graph.specs.declared.parts.Kept.{Kept}

-- the former number of a statement that is kept
abbrev pub former_in : List (ℕ × ℕ) → ℕ → Option ℕ
former_in [] now = None
former_in (k ∷ keep) now = option_or (former_in keep now) (if k.1 == now then Some k.0 else None)

-- the former place of a reference, by the former number of its statement
abbrev pub with_number : Option ℕ → ℕ → Option (ℕ × ℕ)
with_number None number = None
with_number (Some statement) number = Some (statement, number)

-- both places, where both are there
abbrev pub both_places : Option (ℕ × ℕ) → Option (ℕ × ℕ) → Option Key
both_places (Some source) (Some sink) = Some (source, sink)
both_places (Some source) None = None
both_places None sink = None

-- the former key of a pair
abbrev pub former_key : (ℕ → Option ℕ) → Key → Option Key
former_key former k = both_places (with_number (former k.0.0) k.0.1) (with_number (former k.1.0) k.1.1)

-- the first place from this one on at which an item passes the test
abbrev pub place_from : {X : Type 0} → (X → Bool) → ℕ → List X → Option ℕ
place_from test n [] = None
place_from test n (x ∷ xs) = if test x then Some n else place_from test (suc n) xs

-- the place of the pair from which a pair comes, none where it is fresh
abbrev pub origin : Held → List (ℕ × ℕ) → Pair → Option ℕ
origin former keep p = place_from (λ q. comes_from keep q p) 0 (held_pairs former)

-- the slot of a pair by where it comes from: empty where it keeps a verdict
abbrev pub slot_by : Option ℕ → Pair → Option View
slot_by (Some here) p = None
slot_by None p = Some p.view

-- a pair that keeps a verdict, by where it comes from
abbrev pub kept_by : Option ℕ → ℕ → List Kept
kept_by (Some here) there = (record { here = here; there = there }) ∷ []
kept_by None there = []

-- the slots of pairs
abbrev pub slots_for : Held → List (ℕ × ℕ) → List Pair → List (Option View)
slots_for former keep ps = map (λ p. slot_by (origin former keep p) p) ps

-- the pairs that keep verdicts, where the first of all has this place
abbrev pub kept_from : Held → List (ℕ × ℕ) → ℕ → List Pair → List Kept
kept_from former keep there [] = []
kept_from former keep there (p ∷ ps) = kept_by (origin former keep p) there ++ kept_from former keep (suc there) ps

-- what takes a graph to that of a changed program
abbrev pub parts_for : Held → List (ℕ × ℕ) → Held → HeldParts
parts_for former keep changed = record {
  frame = changed.frame;
  slots = slots_for former keep (held_pairs changed);
  kept = kept_from former keep 0 (held_pairs changed);
}

-- the table has the former numbers of the statements that are kept
abbrev pub IsTable : {S : Type 0} → List (ℕ × ℕ) → IndexMap ℕ ℕ S → Type 0
IsTable keep table = (now : ℕ) → get nat_eq table now ≡ former_in keep now

-- the former graph has a pair with the former key of this one at this place and at no other, or none: then the pair comes from there where its view is the same
abbrev pub IsPlace : Held → List (ℕ × ℕ) → Pair → Option ℕ → Type 0
IsPlace former keep p None = origin former keep p ≡ None
IsPlace former keep p (Some here) = (v : View) → slice_get former.views here ≡ Some v → origin former keep p ≡ (if same_view v p.view then Some here else None)

-- parts with one more pair
pub record IsMatched (former : Held) (keep : List (ℕ × ℕ)) (p : Pair) (before after : HeldParts) : Type 0 where
  pub frame : after.frame ≡ before.frame
  pub slots : after.slots ≡ before.slots ++ slot_by (origin former keep p) p ∷ []
  pub kept : after.kept ≡ before.kept ++ kept_by (origin former keep p) (length before.slots)

-- how often a pair is tested: once, where it comes from no pair of the former graph
abbrev pub tests : Held → List (ℕ × ℕ) → Pair → ℕ
tests former keep p = cond (is_fresh former keep p) 1 0

-- parts with one more pair, which keeps the verdict of this pair
pub record KeepsVerdict (here : ℕ) (before after : HeldParts) : Type 0 where
  pub frame : after.frame ≡ before.frame
  pub slots : after.slots ≡ before.slots ++ None ∷ []
  pub kept : after.kept ≡ before.kept ++ (record { here = here; there = length before.slots }) ∷ []

-- parts with one more pair, which has this view and is tested
pub record AddsVerdict (v : View) (before after : HeldParts) : Type 0 where
  pub frame : after.frame ≡ before.frame
  pub slots : after.slots ≡ before.slots ++ Some v ∷ []
  pub kept : after.kept ≡ before.kept
