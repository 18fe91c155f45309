-- What the passes over a program have found on their way. Only contracts of private functions use it.
use Rattle.std.specs.Prelude.{◌≡◌, ℕ, ◌+◌, ◌-◌, ◌^◌, min, List, [], ◌∷◌, ◌++◌, map, drop, ◌||◌, Bool, false, nat_le, Option, Some, None}
use Rattle.std.specs.List.{list_any}
use Rattle.ped_base.specs.Lists.{is_among}
use Rattle.ped_tree.specs.Grammar.Refusal.{Finding, RealName, DeclaredTwice, NotConstant, RankDiffers, BoundsEmpty, StorageLimit, earliest, refused_if}
use Rattle.ped_refs.specs.References.{Reference}
use Rattle.ped_tree.specs.Grammar.RefusalViews.{found_of}
use Rattle.ped_symbols.specs.Entries.{entry_of, with_entry}
use Rattle.ped_symbols.specs.Sites.{Site}
use Rattle.ped_symbols.specs.Declarations as Plain
use Rattle.ped_symbols.specs.Declarations.{names_with, is_typing, is_dimensioning, is_naming, is_saving, ranks_in}
use Rattle.ped_symbols.specs.NameRefusals.{Before, uses_real, uses_constant, uses_program, dimensions_intrinsic, uses_other_rank, next_line, behind_sites, at_sites}
use Rattle.ped_symbols.specs.StorageLimits.{elements_of, has_large, has_many_pairs}
use Rattle.ped_base.specs.Dimensions.{Dimensions}
use Rattle.ped_symbols.specs.Arrays.{Arrays}
use Rattle.ped_symbols.specs.Kinds.{kind_by, names_at}
use Rattle.ped_symbols.specs.declared.symbols.Kind.{Kind}
use Rattle.ped_symbols.specs.declared.uses.Use.{Use}
use Rattle.ped_symbols.specs.declared.declared.Declared.{Declared}
use Rattle.ped_symbols.specs.declared.repeating.Seen.{Seen}
use Rattle.ped_symbols.specs.declared.sites.Faults.{Faults}
use Rattle.ped_symbols.specs.declared.sites.Found.{Found}
use Rattle.ped_symbols.specs.declared.storage.Elements.{Elements}
use Rattle.ped_symbols.specs.declared.tables.NameTable.{NameTable}
use Rattle.ped_symbols.specs.declared.declarations.Held.{Held}
use Rattle.ped_symbols.specs.declared.statements.Known.{Known}

-- two lists have the same names
abbrev pub HaveSame : List (List ℕ) → List (List ℕ) → Type 0
HaveSame a b = (x : List ℕ) → is_among x a ≡ is_among x b

-- what is kept of uses in declarations says the same as they do
pub record KnowsUses (c : Declared) (uses : List Use) : Type 0 where
  pub typed : HaveSame c.typed (names_with is_typing uses)
  pub constants : HaveSame c.constants (names_with is_naming uses)
  pub ranks : (x : List ℕ) → entry_of c.ranks.entries.entries x ≡ entry_of (ranks_in uses) x

-- what is kept of declarations says the same as they do
pub record Knows (c : Declared) (d : Plain.Declared) : Type 0 where
  pub implicit : c.implicit ≡ d.implicit
  pub program : HaveSame c.program d.program
  pub uses : KnowsUses c d.uses

-- the names that are kept as typed, dimensioned, named and saved are those of these uses
pub record HasSeen (seen : Seen) (before : List Use) : Type 0 where
  pub typed : HaveSame seen.typed (names_with is_typing before)
  pub dimensioned : HaveSame seen.dimensioned (names_with is_dimensioning before)
  pub named : HaveSame seen.named (names_with is_naming before)
  pub saved : HaveSame seen.saved (names_with is_saving before)

-- what is refused at a site with these uses, where it has these faults
abbrev pub refused_at : Plain.Declared → ℕ → List Use → Faults → List Finding
refused_at d line uses faults =
    refused_if (list_any (uses_real d) uses) RealName line
    ++ refused_if (list_any (uses_constant d) uses || list_any (uses_program d) uses || list_any dimensions_intrinsic uses || faults.repeats) DeclaredTwice line
    ++ refused_if faults.fails NotConstant line
    ++ refused_if (list_any (uses_other_rank d) uses) RankDiffers line
    ++ refused_if faults.is_empty BoundsEmpty line
    ++ refused_if faults.passes_limit StorageLimit line

-- the first refusal, where these sites are still to come
abbrev pub first_with : Plain.Declared → List Reference → Before → Found → List Site → Option Finding
first_with d refs b found sites = earliest (found_of found.first) (at_sites d refs b found.lines.now sites)

-- what is kept of arrays says the same as they do
abbrev pub KnowsArrays : NameTable Dimensions → Arrays → Type 0
KnowsArrays c arrays = (x : List ℕ) → entry_of c.entries.entries x ≡ entry_of arrays x

-- the number, or the greatest one of 64 bits where it is greater
abbrev pub capped : ℕ → ℕ
capped n = min n (2 ^ 64 - 1)

-- the elements of these arrays are counted, and one with too many is noted
pub record Counts (c : Elements) (arrays : Arrays) : Type 0 where
  pub together : c.together ≡ capped (elements_of arrays)
  pub large : c.has_large ≡ has_large arrays

-- what is held says the same as what comes before a site
pub record Holds (held : Held) (b : Before) : Type 0 where
  pub seen : HasSeen held.seen b.uses
  pub values : held.consts ≡ b.values
  pub arrays : KnowsArrays held.arrays b.arrays
  pub elements : Counts held.elements b.arrays

-- a statement with this many others before it has reached the one that has the first number of statements before it
abbrev pub is_reached : Option ℕ → ℕ → Bool
is_reached None others = false
is_reached (Some n) others = nat_le n others

-- after this many statements, this many more come before the pairs are too many
abbrev pub CountsTo : List Reference → ℕ → Option ℕ → Type 0
CountsTo refs before until = (others : ℕ) → has_many_pairs refs (before + others + 1) ≡ is_reached until others

-- what a name stands for, by what is known
abbrev pub kind_with : Known → List ℕ → Kind
kind_with known x = kind_by (entry_of known.consts.now x) (entry_of known.arrays.now.entries.entries x)

-- the kinds with those of more names after them, where they aren't there
abbrev pub with_kinds : (List ℕ → Kind) → List (List ℕ × Kind) → List (List ℕ) → List (List ℕ × Kind)
with_kinds kind es [] = es
with_kinds kind es (x ∷ xs) = with_kinds kind (with_entry es x (kind x)) xs

-- what was found at a site on the next line, by its uses and its faults
pub record At (known : Known) (kinds new : NameTable Kind) (found next : Found) (uses : List Use) (faults : Faults) : Type 0 where
  pub first : (d : Plain.Declared) → Knows known.declared.now d → found_of next.first ≡ earliest (found_of found.first) (refused_at d (next_line found.lines.now) uses faults)
  pub lines : next.lines.now ≡ drop 1 found.lines.now
  pub until : next.until_many_pairs ≡ found.until_many_pairs
  pub names : new.entries.entries ≡ with_kinds (kind_with known) kinds.entries.entries (map (λ u. u.name) uses)

-- what is known and found says the same as what comes before a site
pub record Stands (known : Known) (refs : List Reference) (found : Found) (b : Before) : Type 0 where
  pub values : b.values ≡ known.consts.now
  pub until : CountsTo refs b.statements found.until_many_pairs

-- over these sites, which are no declarations: the first refusal and the kinds, whatever is still to come
pub record Goes (known : Known) (kinds new_kinds : NameTable Kind) (found next : Found) (sites : List Site) : Type 0 where
  pub stands : (refs : List Reference) → (b : Before) → Stands known refs found b → Stands known refs next (behind_sites b sites)
  pub refusal : (d : Plain.Declared) → Knows known.declared.now d → (refs : List Reference) → (b : Before) → Stands known refs found b → (more : List Site) →
      first_with d refs (behind_sites b sites) next more ≡ first_with d refs b found (sites ++ more)
  pub names : (more : List Site) → with_kinds (kind_with known) new_kinds.entries.entries (names_at more) ≡ with_kinds (kind_with known) kinds.entries.entries (names_at (sites ++ more))
