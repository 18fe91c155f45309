-- What the code's store is made of, and what it keeps thereby (this project).
use Rattle.std.specs.Prelude.{◌≡◌, ℕ, ℤ, List, [], length, slice_set, Bool, false, ◌&&◌, ◌==◌, Option, Some, None, is_some, if◌then◌else◌}
use Rattle.std.specs.Option.{option_flatten}
use Rattle.std.specs.Map.{lookup}
use Rattle.std.specs.Cmp.Lexicographic.{pointwise}
use Rattle.ped_base.specs.Dimensions.{Dimensions}
use Rattle.ped_base.specs.Lists.{has_some, is_same_text}
use Rattle.ped_store.specs.Cells.{Cell, Scalar, Element, Private, In, Out, Iteration, same_iteration}
use Rattle.ped_store.specs.Stores.{Lines, Store}
use Rattle.ped_store.specs.DataLines.{Data}
use Rattle.ped_store.specs.Memories.{Memory}
use Rattle.ped_store.specs.Slots.{slot_of, index_of, held_at, content_of}
use Rattle.ped_store.specs.declared.slots.Slot.{Slot}
use Rattle.ped_store.specs.declared.copies.PrivateCopy.{PrivateCopy}

-- the slots of the names, what they hold, the private copies, the data and the lines that are printed
pub record Kept : Type 0 where
  pub slots : List (List ℕ × Slot)
  pub held : List (Option ℤ)
  pub copies : List (PrivateCopy × Option ℤ)
  pub input : Data
  pub output : List (List ℕ)

-- a private copy as it is kept
abbrev pub copied : List ℕ → List Iteration → PrivateCopy
copied x iterations = record { name = x; iterations = iterations }

-- the same private copy
abbrev pub same_copied : PrivateCopy → PrivateCopy → Bool
same_copied a b = is_same_text a.name b.name && pointwise same_iteration a.iterations b.iterations

-- what is known of a private copy
abbrev pub copy_of : List (PrivateCopy × Option ℤ) → List ℕ → List Iteration → Option (Option ℤ)
copy_of copies x iterations = lookup (same_copied (copied x iterations)) copies

-- what each cell holds
abbrev pub cells_of : Kept → Store
cells_of s (Scalar x) = held_at s.held (index_of s.slots (Scalar x))
cells_of s (Element x js) = held_at s.held (index_of s.slots (Element x js))
cells_of s (Private x iterations) = content_of (option_flatten (copy_of s.copies x iterations))
cells_of s In = Lines s.input.lines
cells_of s Out = Lines s.output

-- the bounds of a slot, none where there is no slot
abbrev pub bounds_in : Option Slot → Dimensions
bounds_in None = record { lower = []; upper = [] }
bounds_in (Some slot) = slot.bounds

-- a slot has this many dimensions
abbrev pub has_rank : ℕ → Option Slot → Bool
has_rank n None = false
has_rank n (Some slot) = length slot.bounds.lower == n

-- which cells exist
abbrev pub stands_in : Kept → Cell → Bool
stands_in s (Scalar x) = has_rank 0 (slot_of s.slots x)
stands_in s (Element x js) = has_some js && has_rank (length js) (slot_of s.slots x)
stands_in s (Private x iterations) = is_some (copy_of s.copies x iterations)
stands_in s In = false
stands_in s Out = false

-- what a store keeps
abbrev pub memory_of : Kept → Memory
memory_of s = record {
  cells = cells_of s;
  stands = stands_in s;
  bounds = λ x. bounds_in (slot_of s.slots x);
  input = s.input;
}

-- with another content at a place
abbrev pub with_held : ℕ → Option ℤ → Kept → Kept
with_held i content s = record s { held = slice_set s.held i content }

-- what is known of the copy is now this, and all else is as it was
pub record IsCopyPut (copy : PrivateCopy) (known : Option (Option ℤ)) (old new : Kept) : Type 0 where
  pub slots : new.slots ≡ old.slots
  pub held : new.held ≡ old.held
  pub input : new.input ≡ old.input
  pub output : new.output ≡ old.output
  pub copies : (other : PrivateCopy) → lookup (same_copied other) new.copies ≡ (if same_copied copy other then known else lookup (same_copied other) old.copies)
