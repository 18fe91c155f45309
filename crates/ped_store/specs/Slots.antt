-- Where the code keeps the cells of scalars and of arrays (this project).
use Rattle.std.specs.Prelude.{◌≡◌, ℕ, ◌+◌, ◌*◌, ℤ, ◌-ℤ◌, List, [], ◌∷◌, length, slice_get, int_le, ◌&&◌, ◌==◌, Option, Some, None, option_and_then, if◌then◌else◌}
use Rattle.std.specs.Option.{option_flatten, option_map}
use Rattle.std.specs.Map.{lookup}
use Rattle.ped_base.specs.Dimensions.{Dimensions}
use Rattle.ped_base.specs.Lists.{has_some, is_same_text}
use Rattle.ped_store.specs.Cells.{Cell, Scalar, Element, Private, In, Out}
use Rattle.ped_store.specs.Stores.{Content, Undefined, Number}
use Rattle.ped_store.specs.Storage.{natural, extent, are_within}
use Rattle.ped_store.specs.declared.shapes.Shape.{Shape}
use Rattle.ped_store.specs.declared.slots.Slot.{Slot}

-- the place of an element among those of its array in storage order, from 0 (ANSI X3.9-1978, section 5.2.4)
abbrev pub place : List ℤ → List ℤ → List ℤ → ℕ
place (lower ∷ lowers) (upper ∷ uppers) (j ∷ js) = place lowers uppers js * extent lower upper + natural (j -ℤ lower)
place lowers uppers js = 0

-- how many elements there are
abbrev pub count : List ℤ → List ℤ → ℕ
count (lower ∷ lowers) (upper ∷ uppers) = extent lower upper * count lowers uppers
count lowers uppers = 1

-- how many cells a slot has: one for a scalar
abbrev pub slot_count : Slot → ℕ
slot_count slot = count slot.bounds.lower slot.bounds.upper

-- the cell of a scalar's slot
abbrev pub scalar_in : Slot → Option ℕ
scalar_in slot = if length slot.bounds.lower == 0 then Some slot.start else None

-- the slot of a name
abbrev pub slot_of : List (List ℕ × Slot) → List ℕ → Option Slot
slot_of slots x = lookup (is_same_text x) slots

-- the bounds of a name's slot
abbrev pub slot_bounds : List (List ℕ × Slot) → List ℕ → Option Dimensions
slot_bounds slots x = option_map (λ slot. slot.bounds) (slot_of slots x)

-- the bounds of the first of these shapes with this name
abbrev pub first_bounds : List Shape → List ℕ → Option Dimensions
first_bounds [] x = None
first_bounds (shape ∷ more) x = if is_same_text x shape.name then Some shape.bounds else first_bounds more x

-- how far a subscript lies above its lower bound, where it lies within its bounds
abbrev pub offset_within : ℤ → ℤ → ℤ → Option ℕ
offset_within lower upper j = if int_le lower j && int_le j upper then Some (natural (j -ℤ lower)) else None

-- the place of an element, where its subscripts lie within the bounds
abbrev pub place_within : List ℤ → List ℤ → List ℤ → Option ℕ
place_within lowers uppers js = if are_within lowers uppers js then Some (place lowers uppers js) else None

-- the place of an element in its array; there is none without a subscript
abbrev pub place_in : Dimensions → List ℤ → Option ℕ
place_in bounds js = if has_some js then place_within bounds.lower bounds.upper js else None

-- the cell of an element in its array's slot
abbrev pub element_in : List ℤ → Slot → Option ℕ
element_in js slot = option_map (λ p. slot.start + p) (place_in slot.bounds js)

-- where a scalar or an element is
abbrev pub index_of : List (List ℕ × Slot) → Cell → Option ℕ
index_of slots (Scalar x) = option_and_then scalar_in (slot_of slots x)
index_of slots (Element x js) = option_and_then (element_in js) (slot_of slots x)
index_of slots (Private x iterations) = None
index_of slots In = None
index_of slots Out = None

-- slots one after the other, from this place on to the end
abbrev pub IsLaid : ℕ → List (List ℕ × Slot) → ℕ → Type 0
IsLaid at [] end = at ≡ end
IsLaid at (e ∷ es) end = ((e.1).start ≡ at) × IsLaid (at + slot_count e.1) es end

-- the content of a cell by what is kept
abbrev pub content_of : Option ℤ → Content
content_of None = Undefined
content_of (Some n) = Number n

-- what is held at a place, Undefined where there is no such place
abbrev pub held_at : List (Option ℤ) → Option ℕ → Content
held_at held None = Undefined
held_at held (Some i) = content_of (option_flatten (slice_get held i))
