-- What is read of the statements of a file, and units as their statements are read. Only contracts of private functions use it.
use Rattle.std.specs.Prelude.{◌≡◌, ℕ, List, [], ◌∷◌, ◌++◌, map, Option, Some, None, Bool}
use Rattle.ped_tree.specs.Grammar.Statement.{Statement, Statements}
use Rattle.ped_tree.specs.Grammar.Items.{Entry}
use Rattle.ped_tree.specs.Grammar.ItemViews.{entry_of}
use Rattle.ped_tree.specs.Grammar.Occurrences.{saved_names}
use Rattle.ped_tree.specs.Grammar.ProgramForms.{first_lines}
use Rattle.ped_tree.specs.Grammar.Refusal.{Finding, earlier, first_of}
use Rattle.ped_tree.specs.Grammar.RefusalViews.{found_of}
use Rattle.ped_valid.specs.ped_parse.specs.ped_blocks.specs.Machine.{nothing_built, take_entries, built_program}
use Rattle.ped_expressions.specs.ExpressionReading.{saturated}
use Rattle.ped_units.specs.Forms as forms
use Rattle.ped_units.specs.Units as units
use Rattle.ped_units.specs.Reading.{UnitEntry, AreUnitEntries, Segment, own_entries, further_segments, is_end_next, is_subroutine, as_reading, as_entries, stand_in, seen_entries, kept_entries, IsHeaded}
use Rattle.ped_units.specs.Refusals.{call_in, segment_refusals, before_another}
use Rattle.ped_units.specs.UnitReading.{item_with_literals}
use Rattle.ped_units.specs.Views.{called_of, program_unit_of, name_or_none}
use Rattle.ped_units.specs.declared.items.Called.{Called}
use Rattle.ped_units.specs.declared.seen.Seen.{Seen}
use Rattle.ped_units.specs.declared.reading.Heading.{Heading}
use Rattle.ped_units.specs.declared.reading.ReadUnit.{ReadUnit}
use Rattle.ped_units.specs.declared.units.ProgramUnit.{ProgramUnit}

-- a statement with what it is, with each literal n as v n
abbrev pub entry_with_literals : (ℕ → ℕ) → UnitEntry → UnitEntry
entry_with_literals v e = record { statement = e.statement; item = item_with_literals v e.item }

-- the statements with what they are, where a literal that 32 bits don't hold is the greatest number that they hold
abbrev pub AreItemsReadAs : List Statement → List UnitEntry → Type 0
AreItemsReadAs statements entries = (plain : List UnitEntry) × AreUnitEntries statements plain × (entries ≡ map (entry_with_literals saturated) plain)

-- for each statement whether END is next
abbrev pub ends_next : List UnitEntry → List Bool
ends_next [] = []
ends_next (e ∷ es) = is_end_next es ∷ ends_next es

-- a statement with something plain in the place of its CALL
abbrev pub seen_as : Bool → Bool → UnitEntry → Entry
seen_as in_subroutine before_end e = record { statement = e.statement; reading = as_reading stand_in in_subroutine before_end e.item }

-- a statement with its CALL as trees have it
abbrev pub kept_as : Bool → Bool → UnitEntry → Entry
kept_as in_subroutine before_end e = record { statement = e.statement; reading = as_reading units.call_statement in_subroutine before_end e.item }

-- a unit that was begun, where an END has come in it or not, goes on with statements, and further units follow it
abbrev pub segments_onto : Segment → Bool → List UnitEntry → List Segment
segments_onto s ended es = record s { entries = s.entries ++ own_entries ended es } ∷ further_segments ended es

-- a CALL, where there is one
abbrev pub call_view : Option Called → Option forms.Called
call_view None = None
call_view (Some c) = Some (called_of c)

-- the CALLs of statements, one by one
abbrev pub calls_in_entries : List UnitEntry → List (Option forms.Called)
calls_in_entries es = map (λ e. call_in e.item) es

-- these are the statements of a unit with something plain for each CALL, and its CALLs
pub record AreSeen (in_subroutine : Bool) (es : List UnitEntry) (s : Seen) : Type 0 where
  pub entries : map entry_of s.entries.items ≡ as_entries stand_in in_subroutine es
  pub calls : map call_view s.calls.items ≡ calls_in_entries es

-- a unit that is headed so
abbrev pub HeadsUnit : Heading → units.ProgramUnit → Type 0
HeadsUnit h u = (u.name ≡ name_or_none h.name) × (u.formals ≡ h.formals) × (u.line ≡ h.line)

-- the unit of a segment is read, where the text ends so: its first refusal, and what it is built of
pub record IsReadUnit (all : Statements) (s : Segment) (r : ReadUnit) : Type 0 where
  pub headed : (u : units.ProgramUnit) → HeadsUnit r.head u → IsHeaded s.head u
  pub seen : AreSeen (is_subroutine s.head) s.entries r.seen
  pub saved : r.saved ≡ saved_names (seen_entries s)
  pub first : found_of r.first ≡ first_of (segment_refusals all s)

-- units are read, one after another, each of which is followed by another
abbrev pub AreReadEach : Statements → List Segment → List ReadUnit → Type 0
AreReadEach all [] [] = Unit {0}
AreReadEach all (s ∷ ss) (r ∷ rs) = IsReadUnit (before_another all) s r × AreReadEach all ss rs
AreReadEach all [] (r ∷ rs) = ⊥
AreReadEach all (s ∷ ss) [] = ⊥

-- units are read, one after another
abbrev pub AreReadUnits : Statements → List Segment → List ReadUnit → Type 0
AreReadUnits all [] [] = Unit {0}
AreReadUnits all (s ∷ []) (r ∷ rs) = IsReadUnit all s r × AreReadUnits all [] rs
AreReadUnits all (s ∷ t ∷ ss) (r ∷ rs) = IsReadUnit (before_another all) s r × AreReadUnits all (t ∷ ss) rs
AreReadUnits all [] (r ∷ rs) = ⊥
AreReadUnits all (s ∷ ss) [] = ⊥

-- a unit is built of what was read
pub record IsBuiltOf (s : Segment) (u : ProgramUnit) : Type 0 where
  pub headed : IsHeaded s.head (program_unit_of u)
  pub tree : (program_unit_of u).tree ≡ built_program (take_entries (saved_names (seen_entries s)) nothing_built (kept_entries s))
  pub lines : (program_unit_of u).lines ≡ first_lines (saved_names (seen_entries s)) (kept_entries s)

-- units are built of what was read, one by one
abbrev pub AreBuiltOf : List Segment → List ProgramUnit → Type 0
AreBuiltOf [] [] = Unit {0}
AreBuiltOf (s ∷ ss) (u ∷ us) = IsBuiltOf s u × AreBuiltOf ss us
AreBuiltOf [] (u ∷ us) = ⊥
AreBuiltOf (s ∷ ss) [] = ⊥

-- the first of what was found and of one more refusal, where there is one
abbrev pub combined : Option Finding → Option Finding → Option Finding
combined found None = found
combined found (Some f) = earlier found f
