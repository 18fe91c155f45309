-- A store before the first statement.
use Rattle.std.proofs.Common.{◌≡◌, ℕ, List, [], ◌∷◌, length, replicate, get_or, ℤ, Bool, true, false, ◌&&◌, ◌||◌, Option, Some, None, if◌then◌else◌, refl, ap, ◌∙◌, ltb, eqb, arith}
use Rattle.std.specs.Option.{option_map}
use Rattle.std.proofs.lemmas.Bool.{ltb-true, ltb-false}
use Rattle.std.proofs.lemmas.List.{get_or-replicate, get_or_past, length-replicate}
use mathlib.Core.Path.{fun_ext}
use Rattle.ped_base.specs.Dimensions.{Dimensions}
use Rattle.ped_base.specs.Lists.{has_some, is_same_text}
use Rattle.ped_store.specs.declared.shapes.Shape.{Shape}
use Rattle.ped_store.specs.declared.slots.Slot.{Slot}
use Rattle.ped_store.specs.Cells.{Cell, Scalar, Element, Private, In, Out}
use Rattle.ped_store.specs.Stores.{Undefined, store_at_start}
use Rattle.ped_store.specs.DataLines.{not_begun}
use Rattle.ped_store.specs.Variables.{no_dimensions}
use Rattle.ped_store.specs.Memories.{memory_at_start, bounds_among, is_shape, stands_among}
use Rattle.ped_store.specs.Slots.{slot_of, slot_bounds, first_bounds, index_of, held_at, content_of}
use Rattle.ped_store.specs.Keeping.{memory_of, cells_of, stands_in, bounds_in, has_rank}
use Rattle.ped_store.proofs.Writes.{held_is}

-- nothing is held at first
nothing_held : (n : ℕ) (o : Option ℕ) → held_at (replicate n None) o ≡ Undefined
nothing_held n None = refl
nothing_held n (Some i) = held_is (replicate n None) i ∙ ap content_of (go (ltb i n) refl)
  where
    go : (b : Bool) → ltb i n ≡ b → get_or {A = Option ℤ} (replicate n None) i None ≡ None
    go true h = get_or-replicate n i None None (ltb-true i n h)
    go false h = get_or_past (replicate n None) i None (omega (arith, ltb-false i n h, length-replicate {A = Option ℤ} n None))

-- the bounds of an array, none without them
abbrev or_none : Option Dimensions → Dimensions
or_none None = no_dimensions
or_none (Some bounds) = bounds

bounds_first : (shapes : List Shape) (x : List ℕ) → or_none (first_bounds shapes x) ≡ bounds_among shapes x
bounds_first [] x = refl
bounds_first (shape ∷ more) x = go (is_same_text x shape.name) (bounds_first more x)
  where
    go : (b : Bool) → or_none (first_bounds more x) ≡ bounds_among more x → or_none (if b then Some shape.bounds else first_bounds more x) ≡ (if b then shape.bounds else bounds_among more x)
    go true h = refl
    go false h = h

bounds_found : (o : Option Slot) → bounds_in o ≡ or_none (option_map (λ (s : Slot). s.bounds) o)
bounds_found None = refl
bounds_found (Some slot) = refl

-- a name has so many dimensions
abbrev ranked : ℕ → Option Dimensions → Bool
ranked n None = false
ranked n (Some bounds) = eqb (length bounds.lower) n

rank_first : (shapes : List Shape) (x : List ℕ) (n : ℕ) → ranked n (first_bounds shapes x) ≡ is_shape shapes x && eqb (length (bounds_among shapes x).lower) n
rank_first [] x n = refl
rank_first (shape ∷ more) x n = go (is_same_text x shape.name) (rank_first more x n)
  where
    go : (b : Bool) → ranked n (first_bounds more x) ≡ is_shape more x && eqb (length (bounds_among more x).lower) n
        → ranked n (if b then Some shape.bounds else first_bounds more x) ≡ (b || is_shape more x) && eqb (length (if b then shape.bounds else bounds_among more x).lower) n
    go true h = refl
    go false h = h

rank_found : (n : ℕ) (o : Option Slot) → has_rank n o ≡ ranked n (option_map (λ (s : Slot). s.bounds) o)
rank_found n None = refl
rank_found n (Some slot) = refl

turned : (a b c : Bool) → a && (b && c) ≡ (b && a) && c
turned true true c = refl
turned true false c = refl
turned false true c = refl
turned false false c = refl

-- what a store with slots for these shapes keeps, where nothing else has happened
pub start_is : (shapes : List Shape) (data_lines : List (List ℕ)) (n : ℕ) (slots : List (List ℕ × Slot)) → ((x : List ℕ) → slot_bounds slots x ≡ first_bounds shapes x)
    → memory_of (record { slots = slots; held = replicate n None; copies = []; input = not_begun data_lines; output = [] }) ≡ memory_at_start shapes data_lines
start_is shapes data_lines n slots h = λ z. record {
  cells = fun_ext each z;
  stands = fun_ext stand z;
  bounds = fun_ext bound z;
  input = not_begun data_lines;
}
  where
    each : (c : Cell) → cells_of (record { slots = slots; held = replicate n None; copies = []; input = not_begun data_lines; output = [] }) c ≡ store_at_start data_lines c
    each (Scalar x) = nothing_held n (index_of slots (Scalar x))
    each (Element x js) = nothing_held n (index_of slots (Element x js))
    each (Private x iterations) = refl
    each In = refl
    each Out = refl

    rank : (x : List ℕ) (m : ℕ) → has_rank m (slot_of slots x) ≡ is_shape shapes x && eqb (length (bounds_among shapes x).lower) m
    rank x m = rank_found m (slot_of slots x) ∙ ap (ranked m) (h x) ∙ rank_first shapes x m

    stand : (c : Cell) → stands_in (record { slots = slots; held = replicate n None; copies = []; input = not_begun data_lines; output = [] }) c ≡ stands_among shapes c
    stand (Scalar x) = rank x 0
    stand (Element x js) = ap (λ b. has_some js && b) (rank x (length js)) ∙ turned (has_some js) (is_shape shapes x) (eqb (length (bounds_among shapes x).lower) (length js))
    stand (Private x iterations) = refl
    stand In = refl
    stand Out = refl

    bound : (x : List ℕ) → bounds_in (slot_of slots x) ≡ bounds_among shapes x
    bound x = bounds_found (slot_of slots x) ∙ ap or_none (h x) ∙ bounds_first shapes x
