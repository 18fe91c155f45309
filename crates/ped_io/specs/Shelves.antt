-- Shelves in memory (this project).
use Rattle.std.specs.Prelude.{◌≡◌, ◌⊎◌, ◌++◌, ℕ, List, [], Some, None, IsNone, Contains, length, take, drop, min, nat_lt, if◌then◌else◌, get_or, set, replicate}
use Rattle.std.specs.List.{position_or_len}
use Rattle.ped_io.specs.Counts.{one_more}
use Rattle.ped_io.specs.Outside.{Contents, file_named}
use Rattle.ped_base.specs.Lists.{is_same_text}

-- a shelf in memory: its files, the numbers of the calls that are to fail (the first has number 1),
-- the most bytes that a read gives, the calls so far, and the faults of each file and of all other
-- names
pub record MemoryShelf : Type 0 where
  pub files : List (List ℕ × List ℕ)
  pub fails : List ℕ
  pub most : ℕ
  pub calls : ℕ
  pub counts : List ℕ
  pub other_faults : ℕ

-- a shelf of these files that no one has called yet
abbrev pub new_shelf : List (List ℕ × List ℕ) → List ℕ → ℕ → MemoryShelf
new_shelf files fails most = record {
  files = files;
  fails = fails;
  most = most;
  calls = 0;
  counts = replicate (length files) 0;
  other_faults = 0;
}

-- it reports its files, and a name that isn't held holds nothing
abbrev pub told_of : MemoryShelf → Contents
told_of shelf = record { held = shelf.files; other = None }

-- the place of the first file of a name, or the number of files where there is none
abbrev pub place_of : List (List ℕ × List ℕ) → List ℕ → ℕ
place_of files name = position_or_len (λ file. is_same_text file.0 name) files

-- the faults that the reads of a name have met
abbrev pub count_of : MemoryShelf → List ℕ → ℕ
count_of shelf name = get_or shelf.counts (place_of shelf.files name) shelf.other_faults

-- the next call reads nothing: its number is among those that fail, or the name isn't held
abbrev pub FailsNext : MemoryShelf → List ℕ → Type 0
FailsNext shelf name =
    Contains shelf.fails (one_more shelf.calls) ⊎ IsNone (file_named shelf.files name)

-- the shelf after one call more
abbrev pub after_call : MemoryShelf → MemoryShelf
after_call shelf = record shelf { calls = one_more shelf.calls }

-- the shelf after a call for a name that has failed
abbrev pub after_fault : MemoryShelf → List ℕ → MemoryShelf
after_fault shelf name =
    let place = place_of shelf.files name in
    let others = shelf.other_faults in
    record shelf {
      calls = one_more shelf.calls;
      counts = set shelf.counts place (one_more (get_or shelf.counts place 0));
      other_faults = if nat_lt place (length shelf.counts) then others else one_more others;
    }

-- a read of n bytes from `at` on into a piece: as many as are left, as the piece has room for, and
-- no more than `most`; what they don't fill stays
pub record Copies (bytes : List ℕ) (at most n : ℕ) (old new : List ℕ) : Type 0 where
  pub len : n ≡ min most (min (length old) (length (drop at bytes)))
  pub piece : new ≡ take n (drop at bytes) ++ drop n old

-- every name that isn't held holds the empty text
abbrev pub all_names : List (List ℕ × List ℕ) → Contents
all_names files = record { held = files; other = Some [] }
