-- A text reads as one list of program units at most, and as one where nothing is refused at its lines and statements.
use Rattle.std.proofs.Common.{◌≡◌, ◌⊎◌, inl, inr, ℕ, List, [], ◌∷◌, Option, Some, None, refl, sym, ap, subst, ◌∙◌}
use Rattle.ped_tree.specs.Tree.{ExprTrees, no_exprs, more_exprs, ProgramTree}
use Rattle.ped_tree.specs.Grammar.Refusal.{first_of}
use Rattle.ped_tree.specs.Grammar.Statement.{Statement, Statements}
use Rattle.ped_tree.specs.Grammar.Grouping.{statements_of}
use Rattle.ped_tree.specs.Grammar.ConditionForms.{cond_form_tree}
use Rattle.ped_tree.specs.Grammar.Items.{Item, Reading, says, outside_profile, no_form}
use Rattle.ped_tree.specs.Grammar.Occurrences.{saved_names}
use Rattle.ped_tree.specs.Grammar.ProgramForms.{first_lines}
use Rattle.ped_tree.specs.Grammar.ProgramRefusals.{program_refusals}
use Rattle.ped_tree.specs.Grammar.Reading.{HasNoForm, IsReading}
use Rattle.ped_tree.proofs.GrammarLaws.OneReading.{one_reading}
use Rattle.ped_valid.specs.ped_parse.specs.ped_blocks.specs.Machine.{nothing_built, take_entries, built_program}
use Rattle.ped_valid.specs.ped_parse.specs.ped_blocks.proofs.BlocksFound.{left_empty, right_empty, first_none}
use Rattle.ped_valid.specs.ped_parse.specs.ped_blocks.proofs.BlocksNest.{one_tree_of}
use Rattle.ped_valid.specs.ped_parse.specs.ped_statements.proofs.OneStatement.{one_item}
use Rattle.ped_expressions.proofs.Basics.{some_is}
use Rattle.ped_expressions.proofs.Whole.{with_same}
use Rattle.ped_expressions.proofs.CondWhole.{cond_with_same}
use Rattle.ped_expressions.specs.ExpressionReading.{all_with_literals}
use Rattle.ped_units.specs.Forms.{Called, UnitItem, plain, calls, calls_if, begins_unit, returns, UnitForm, call, if_call, subroutine, a_return, call_form_called, unit_form_item, ReadsUnitItem, HasNoUnitForm, IsUnitItem, OneUnitItem}
use Rattle.ped_units.specs.Units.{ProgramUnit, ProgramUnits, all_units}
use Rattle.ped_units.specs.Reading.{UnitEntry, AreUnitEntries, IsCutIntoUnits, Segment, segments_of, seen_entries, kept_entries, name_in, formals_in, IsHeaded, IsUnitOf, AreUnitsOf}
use Rattle.ped_units.specs.Refusals.{other_refusals, segment_refusals, before_another, segments_refusals, first_segments_refusal, ReadsUnits}
use Rattle.ped_units.specs.UnitReading.{unit_item_in, called_with_literals, item_with_literals}
use Rattle.ped_units.proofs.Nested.{unit_built}
use Rattle.ped_units.proofs.UnitForms.{by_reading, unit_again}

-- each text that is read in the profile, or has no form there, is something in a file of program units
pub unit_item_there : (text : List ℕ) (r : Reading) → IsReading text r → (i : UnitItem) × IsUnitItem text i
unit_item_there text r h = let there = by_reading (λ n. n) text r h in (there.0, there.1)

-- a text is one thing

all_with_same : (es : ExprTrees) → all_with_literals (λ n. n) es ≡ es
all_with_same no_exprs = refl
all_with_same (more_exprs e es) = λ i. more_exprs (with_same e i) (all_with_same es i)

called_same : (c : Called) → called_with_literals (λ n. n) c ≡ c
called_same c = ap (λ (es : ExprTrees). record { name = c.name; arguments = es }) (all_with_same c.arguments)

form_same : (f : UnitForm) → item_with_literals (λ n. n) (unit_form_item f) ≡ unit_form_item f
form_same (call c) = ap calls (called_same (call_form_called c))
form_same (if_call e c) = λ i. calls_if (cond_with_same (cond_form_tree e) i) (called_same (call_form_called c) i)
form_same (subroutine x is formals are) = refl
form_same a_return = refl

one_form : (text : List ℕ) (i j : UnitItem) → ReadsUnitItem text i → ReadsUnitItem text j → i ≡ j
one_form text i j (f, p, q) (g, r, s) =
    sym q ∙ sym (form_same f)
    ∙ some_is _ _ (sym (unit_again (λ n. n) f) ∙ ap (unit_item_in (λ n. n)) (p ∙ sym r) ∙ unit_again (λ n. n) g)
    ∙ form_same g ∙ s

-- something of the profile, or without a form in it and without one of units
record OfProfile (text : List ℕ) (i : UnitItem) : Type 0 where
  reading : Reading
  is : i ≡ plain reading
  reads : IsReading text reading
  alone : ((j : Item) × (reading ≡ says j)) ⊎ HasNoUnitForm text

-- something with a form of units alone
record OfUnits (text : List ℕ) (i : UnitItem) : Type 0 where
  formless : HasNoForm text
  reads : ReadsUnitItem text i

told : (text : List ℕ) (i : UnitItem) → IsUnitItem text i → OfProfile text i ⊎ OfUnits text i
told text (plain (says j)) is = inl (record { reading = says j; is = refl; reads = is; alone = inl (j, refl) })
told text (plain outside_profile) is = inl (record { reading = outside_profile; is = refl; reads = is.0; alone = inr is.1 })
told text (plain no_form) is = inl (record { reading = no_form; is = refl; reads = is.0; alone = inr is.1 })
told text (calls c) is = inr (record { formless = is.0; reads = is.1 })
told text (calls_if e c) is = inr (record { formless = is.0; reads = is.1 })
told text (begins_unit x formals) is = inr (record { formless = is.0; reads = is.1 })
told text returns is = inr (record { formless = is.0; reads = is.1 })

not_both : (text : List ℕ) (i j : UnitItem) → OfProfile text i → OfUnits text j → ⊥
not_both text i j p q = elim p.alone [
  | inl s ↦ q.formless s.0 (subst (λ (r : Reading). IsReading text r) s.1 p.reads)
  | inr none ↦ none j q.reads
]

one_told : (text : List ℕ) (i j : UnitItem) → OfProfile text i ⊎ OfUnits text i → OfProfile text j ⊎ OfUnits text j → i ≡ j
one_told text i j (inl p) (inl q) = p.is ∙ ap plain (one_reading one_item text p.reading q.reading p.reads q.reads) ∙ sym q.is
one_told text i j (inl p) (inr q) = absurd (not_both text i j p q)
one_told text i j (inr p) (inl q) = absurd (not_both text j i q p)
one_told text i j (inr p) (inr q) = one_form text i j p.reads q.reads

pub one_unit_item : OneUnitItem
one_unit_item text i j p q = one_told text i j (told text i p) (told text j q)

one_unit_entries : (ss : List Statement) (es fs : List UnitEntry) → AreUnitEntries ss es → AreUnitEntries ss fs → es ≡ fs
one_unit_entries [] [] [] p q = refl
one_unit_entries [] [] (f ∷ fs) p q = absurd q
one_unit_entries [] (e ∷ es) fs p q = absurd p
one_unit_entries (s ∷ ss) [] fs p q = absurd p
one_unit_entries (s ∷ ss) (e ∷ es) [] p q = absurd q
one_unit_entries (s ∷ ss) (e ∷ es) (f ∷ fs) p q =
    let statement = p.0 ∙ sym q.0 in
    let item = one_unit_item s.text e.item f.item p.1 q.1 in
    let rest = one_unit_entries ss es fs p.2 q.2 in
    λ i. record { statement = statement i; item = item i } ∷ rest i

-- it is cut into one list of statements
pub one_unit_cut : (text : List ℕ) (es fs : List UnitEntry) → IsCutIntoUnits text es → IsCutIntoUnits text fs → es ≡ fs
one_unit_cut text es fs p q = one_unit_entries (statements_of text).statements es fs p.items q.items

-- these nest to one list of units

one_name : (head : Option UnitEntry) (u v : ProgramUnit) → IsHeaded head u → IsHeaded head v → u.name ≡ v.name
one_name None u v p q = p.0 ∙ sym q.0
one_name (Some e) u v p q = p.0 ∙ sym q.0

one_list : (head : Option UnitEntry) (u v : ProgramUnit) → IsHeaded head u → IsHeaded head v → u.formals ≡ v.formals
one_list None u v p q = p.1 ∙ sym q.1
one_list (Some e) u v p q = p.1 ∙ sym q.1

one_line : (head : Option UnitEntry) (u v : ProgramUnit) → IsHeaded head u → IsHeaded head v → u.line ≡ v.line
one_line None u v p q = p.2 ∙ sym q.2
one_line (Some e) u v p q = p.2 ∙ sym q.2

one_unit : (s : Segment) (u v : ProgramUnit) → IsUnitOf s u → IsUnitOf s v → u ≡ v
one_unit s u v p q =
    let name = one_name s.head u v p.headed q.headed in
    let formals = one_list s.head u v p.headed q.headed in
    let line = one_line s.head u v p.headed q.headed in
    let tree : u.tree ≡ v.tree = sym p.nested ∙ one_tree_of (saved_names (seen_entries s)) p.form q.form (p.written ∙ sym q.written) p.labelled q.labelled ∙ q.nested in
    let lines : u.lines ≡ v.lines = sym p.counted ∙ q.counted in
    λ i. record { name = name i; formals = formals i; line = line i; tree = tree i; lines = lines i }

one_list_of_units : (ss : List Segment) (us vs : List ProgramUnit) → AreUnitsOf ss us → AreUnitsOf ss vs → us ≡ vs
one_list_of_units [] [] [] p q = refl
one_list_of_units [] [] (v ∷ vs) p q = absurd q
one_list_of_units [] (u ∷ us) vs p q = absurd p
one_list_of_units (s ∷ ss) [] vs p q = absurd p
one_list_of_units (s ∷ ss) (u ∷ us) [] p q = absurd q
one_list_of_units (s ∷ ss) (u ∷ us) (v ∷ vs) p q =
    let first = one_unit s u v p.0 q.0 in
    let rest = one_list_of_units ss us vs p.1 q.1 in
    λ i. first i ∷ rest i

same_units : (us vs : ProgramUnits) → all_units us ≡ all_units vs → us ≡ vs
same_units us vs h =
    let main : us.main ≡ vs.main = cc in
    let others : us.others ≡ vs.others = cc in
    λ i. record { main = main i; others = others i }

-- a text reads as one list of units at most
pub one_units : (text : List ℕ) (us vs : ProgramUnits) → ReadsUnits text us → ReadsUnits text vs → us ≡ vs
one_units text us vs r q =
    let same = one_unit_cut text r.entries q.entries r.cut q.cut in
    same_units us vs (one_list_of_units (segments_of q.entries) (all_units us) (all_units vs) (subst (λ (es : List UnitEntry). AreUnitsOf (segments_of es) (all_units us)) same r.are) q.are)

-- where nothing is refused, the statements nest to units

abbrev head_name : Option UnitEntry → List ℕ
head_name None = []
head_name (Some e) = name_in e.item

abbrev head_formals : Option UnitEntry → List (List ℕ)
head_formals None = []
head_formals (Some e) = formals_in e.item

abbrev head_line : Option UnitEntry → ℕ
head_line None = 0
head_line (Some e) = e.statement.line

-- the unit that statements nest to
abbrev nested_unit : Segment → ProgramUnit
nested_unit s = record {
  name = head_name s.head;
  formals = head_formals s.head;
  line = head_line s.head;
  tree = built_program (take_entries (saved_names (seen_entries s)) nothing_built (kept_entries s));
  lines = first_lines (saved_names (seen_entries s)) (kept_entries s);
}

is_headed : (head : Option UnitEntry) (t : ProgramTree) (lines : List ℕ) → IsHeaded head (record { name = head_name head; formals = head_formals head; line = head_line head; tree = t; lines = lines })
is_headed None t lines = (refl, refl, refl)
is_headed (Some e) t lines = (refl, refl, refl)

nests : (all : Statements) (s : Segment) → segment_refusals all s ≡ [] → IsUnitOf s (nested_unit s)
nests all s h =
    unit_built all s (nested_unit s) (ap first_of (right_empty (other_refusals s) (program_refusals all (seen_entries s)) h)) (is_headed s.head _ _) refl refl

all_nest : (all : Statements) (ss : List Segment) → segments_refusals all ss ≡ [] → (us : List ProgramUnit) × AreUnitsOf ss us
all_nest all [] h = ([], tt)
all_nest all (s ∷ []) h = (nested_unit s ∷ [], (nests all s h, tt))
all_nest all (s ∷ t ∷ ss) h =
    let first = nests (before_another all) s (left_empty (segment_refusals (before_another all) s) (segments_refusals all (t ∷ ss)) h) in
    let rest = all_nest all (t ∷ ss) (right_empty (segment_refusals (before_another all) s) (segments_refusals all (t ∷ ss)) h) in
    (nested_unit s ∷ rest.0, (first, rest.1))

as_units : (text : List ℕ) (es : List UnitEntry) (us : List ProgramUnit) → IsCutIntoUnits text es → first_segments_refusal text es ≡ None → AreUnitsOf (segments_of es) us → (vs : ProgramUnits) × ReadsUnits text vs
as_units text es [] cut h are = absurd are
as_units text es (u ∷ us) cut h are = (record { main = u; others = us }, record { entries = es; cut = cut; accepted = h; are = are })

-- a text at whose lines and statements nothing is refused reads as units
pub units_there : (text : List ℕ) (es : List UnitEntry) → IsCutIntoUnits text es → first_segments_refusal text es ≡ None → (us : ProgramUnits) × ReadsUnits text us
units_there text es cut h =
    let all = all_nest (statements_of text) (segments_of es) (first_none (segments_refusals (statements_of text) (segments_of es)) h) in
    as_units text es all.0 cut h all.1
