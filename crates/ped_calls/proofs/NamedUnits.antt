-- Each subroutine that a text reads as has a name, and what a file knows of its units.
use Rattle.std.proofs.Common.{◌≡◌, ◌<◌, inl, inr, ℕ, List, [], ◌∷◌, map, length, Bool, true, false, Option, Some, None, refl, sym, ap, subst, ◌∙◌, arith}
use Rattle.std.specs.Prelude.{IsTrue, ◌&&◌, ◌||◌, if◌then◌else◌}
use Rattle.ped_tree.specs.Grammar.Statement.{Statement}
use Rattle.ped_tree.specs.Grammar.Words.{is_name}
use Rattle.ped_tree.specs.Grammar.Grouping.{statements_of}
use Rattle.ped_links.specs.ped_symbols.specs.Kinds.{Table}
use Rattle.ped_links.specs.ped_units.specs.Forms.{UnitItem, plain, calls, calls_if, begins_unit, returns, UnitForm, call, if_call, subroutine, a_return, unit_form_item, IsUnitItem}
use Rattle.ped_links.specs.ped_units.specs.Units.{ProgramUnit, ProgramUnits, all_units}
use Rattle.ped_links.specs.ped_units.specs.Reading.{UnitEntry, AreUnitEntries, ends, begins, further_segments, own_entries, Segment, name_in, IsHeaded, AreUnitsOf}
use Rattle.ped_links.specs.ped_units.specs.Refusals.{ReadsUnits}
use Rattle.ped_links.specs.ped_units.specs.Linking.{IsIn}
use Rattle.ped_links.specs.Links.{AreNamed, AreUnitsWith}
use Rattle.ped_links.specs.ped_units.specs.Naming.{AreTables}
use Rattle.ped_links.specs.ped_units.specs.Views.{program_unit_of}
use Rattle.ped_calls.specs.Courses.{units_of}
use Rattle.ped_links.specs.ped_units.specs.declared.units.ProgramUnit as code

named_form : (f : UnitForm) (x : List ℕ) (formals : List (List ℕ)) → unit_form_item f ≡ begins_unit x formals → x ≡ [] → ⊥
named_form (call c) x formals h none = cc
named_form (if_call e c) x formals h none = cc
named_form (subroutine y is gs are) x formals h none =
    let same : y ≡ x = cc in
    let no : is_name [] ≡ true = subst (λ (z : List ℕ). IsTrue (is_name z)) (same ∙ none) is in
    cc
named_form a_return x formals h none = cc

never : false ≡ true → ⊥
never h = cc

named_item : (text : List ℕ) (i : UnitItem) → IsUnitItem text i → begins i ≡ true → name_in i ≡ [] → ⊥
named_item text (plain r) is h none = never h
named_item text (calls c) is h none = never h
named_item text (calls_if e c) is h none = never h
named_item text (begins_unit x formals) is h none = named_form is.1.0 x formals is.1.2 none
named_item text returns is h none = never h

-- a unit is headed by a SUBROUTINE statement with a name
abbrev IsNamedHead : Option UnitEntry → Type 0
IsNamedHead None = ⊥
IsNamedHead (Some e) = name_in e.item ≡ [] → ⊥

abbrev HaveNamedHeads : List Segment → Type 0
HaveNamedHeads [] = Unit {0}
HaveNamedHeads (s ∷ ss) = IsNamedHead s.head × HaveNamedHeads ss

last_true : (a b : Bool) → (a && b) ≡ true → b ≡ true
last_true true b h = h
last_true false b h = absurd (never h)

heads_by : (text : List ℕ) (e : UnitEntry) (es : List UnitEntry) (ended more b : Bool) → (ended && begins e.item) ≡ b → IsUnitItem text e.item
    → HaveNamedHeads (further_segments false es) → HaveNamedHeads (further_segments more es)
    → HaveNamedHeads (if b then record { head = Some e; entries = own_entries false es } ∷ further_segments false es else further_segments more es)
heads_by text e es ended more true h is after_this others = (λ none. named_item text e.item is (last_true ended (begins e.item) h) none, after_this)
heads_by text e es ended more false h is after_this others = others

heads_named : (ended : Bool) (ss : List Statement) (es : List UnitEntry) → AreUnitEntries ss es → HaveNamedHeads (further_segments ended es)
heads_named ended [] [] are = tt
heads_named ended [] (e ∷ es) are = absurd are
heads_named ended (s ∷ ss) [] are = absurd are
heads_named ended (s ∷ ss) (e ∷ es) are =
    heads_by s.text e es ended (ended || ends e.item) (ended && begins e.item) refl are.1 (heads_named false ss es are.2) (heads_named (ended || ends e.item) ss es are.2)

headed_named : (head : Option UnitEntry) (u : ProgramUnit) → IsNamedHead head → IsHeaded head u → u.name ≡ [] → ⊥
headed_named None u h is none = h
headed_named (Some e) u h is none = h (sym is.0 ∙ none)

units_named : (ss : List Segment) (us : List ProgramUnit) → HaveNamedHeads ss → AreUnitsOf ss us → (u : ProgramUnit) → IsIn u us → u.name ≡ [] → ⊥
units_named [] [] h are u i none = i
units_named [] (v ∷ vs) h are u i none = are
units_named (s ∷ ss) [] h are u i none = are
units_named (s ∷ ss) (v ∷ vs) h are u (inl e) none = headed_named s.head v h.0 are.0.headed (ap (λ (w : ProgramUnit). w.name) (sym e) ∙ none)
units_named (s ∷ ss) (v ∷ vs) h are u (inr i) none = units_named ss vs h.1 are.1 u i none

-- each subroutine of a file has a name
pub read_named : (text : List ℕ) (us : ProgramUnits) → ReadsUnits text us → AreNamed us
read_named text us r u i none =
    units_named (further_segments false r.entries) us.others (heads_named false (statements_of text).statements r.entries r.cut.items) r.are.1 u i none

-- the units that the code keeps

pub units_same : (given : List code.ProgramUnit) (us : ProgramUnits) → map program_unit_of given ≡ all_units us → units_of given ≡ us
units_same [] us h = absurd (no h)
  where
    no : ◌≡◌ {A = List ProgramUnit} [] (all_units us) → ⊥
    no e = cc
units_same (u ∷ given) us h =
    let first : program_unit_of u ≡ us.main = cc in
    let others : map program_unit_of given ≡ us.others = cc in
    λ i. record { main = first i; others = others i }

pub some_unit : (given : List code.ProgramUnit) (us : ProgramUnits) → map program_unit_of given ≡ all_units us → 0 < length given
some_unit [] us h = absurd (no h)
  where
    no : ◌≡◌ {A = List ProgramUnit} [] (all_units us) → ⊥
    no e = cc
some_unit (u ∷ given) us h = omega arith

pub are_with : (text : List ℕ) (given : List code.ProgramUnit) (us : ProgramUnits) (known : List Table) → ReadsUnits text us → map program_unit_of given ≡ all_units us → AreTables (map program_unit_of given) known → AreUnitsWith us given known
are_with text given us known r h tables = record {
  units = h;
  named = read_named text us r;
  tables = subst (λ (vs : List ProgramUnit). AreTables vs known) h tables;
}
