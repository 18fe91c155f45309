-- A main program alone: a file among whose statements no CALL and no SUBROUTINE statement is.
use Rattle.std.proofs.Common.{◌≡◌, ◌+◌, inl, inr, ℕ, List, [], ◌∷◌, ◌++◌, map, Bool, true, false, Option, Some, None, refl, sym, ap, subst, ◌∙◌, append-nil, arith}
use Rattle.std.specs.Prelude.{◌&&◌, ◌||◌, if◌then◌else◌}
use Rattle.std.specs.List.{AllByRecursion, flat_map}
use Rattle.std.proofs.lemmas.List.{nil_from_length}
use Rattle.ped_base.specs.Lists.{has_some}
use Rattle.ped_tree.specs.Tree.{ExprTree, StmtTree, StmtTrees, Assign, If, Do, Print, Read, Stop, Comment, no_stmts, more_stmts, ProgramTree}
use Rattle.ped_tree.specs.Grammar.Refusal.{Refusal, Limit, refused_if, first_of}
use Rattle.ped_tree.specs.Grammar.Statement.{Statement, Statements}
use Rattle.ped_tree.specs.Grammar.Grouping.{statements_of}
use Rattle.ped_tree.specs.Grammar.OutsideProfile.{IsOutside, by_word}
use Rattle.ped_tree.specs.Grammar.ExpressionForms.{ReferenceForm, scalar, element, expr_form_tree, reference_form_tree}
use Rattle.ped_tree.specs.Grammar.StatementForms.{SimpleForm, assignment, print, read, stop, continue, StatementForm, program, implicit, integer, dimension, parameter, save, save_all, simple, if_simple, if_then, else_if_then, else_alone, end_of_if, do_loop, end_of_do, private, end, simple_item, behind_if, statement_item, ReadsItem}
use Rattle.ped_tree.specs.Grammar.Items.{Item, Reading, says, outside_profile, no_form, Entry}
use Rattle.ped_tree.specs.Grammar.Occurrences.{saved_names}
use Rattle.ped_tree.specs.Grammar.ProgramForms.{program_form_tree, first_lines}
use Rattle.ped_tree.specs.Grammar.ProgramRefusals.{meets, program_refusals}
use Rattle.ped_tree.specs.Grammar.Reading.{IsReading, AreEntries, IsCutInto, Reads, HasFirstLines}
use Rattle.ped_tree.proofs.GrammarLaws.OneReading.{one_entries}
use Rattle.ped_links.specs.ped_parse.specs.ped_statements.proofs.OneStatement.{one_item}
use Rattle.ped_links.specs.ped_symbols.specs.NameRefusals.{name_refusals, has_twice}
use Rattle.ped_links.specs.ped_units.specs.Forms.{Called, UnitItem, plain, calls, calls_if, begins_unit, returns, UnitForm, call, if_call, subroutine, a_return, unit_form_text, unit_form_item, IsUnitItem}
use Rattle.ped_links.specs.ped_units.specs.Units.{ProgramUnit, ProgramUnits, all_units, call_of, call_statement, instead_of, with_calls, all_with_calls}
use Rattle.ped_links.specs.ped_units.specs.Reading.{UnitEntry, AreUnitEntries, IsCutIntoUnits, ends, begins, own_entries, further_segments, Segment, segments_of, is_end_next, as_reading, as_entries, stand_in, seen_entries, kept_entries, IsUnitOf, AreUnitsOf}
use Rattle.ped_links.specs.ped_units.specs.Refusals.{call_in, call_passes_limit, at_call, for_names, lines_for_names, dimensioned, using_arguments, segments_refusals, ReadsUnits, units_name_refusals}
use Rattle.ped_links.specs.ped_units.specs.Linking.{IsIn, Placed, calls_of, NoUnit, Recursion, Arguments, Aliased, CallPlace, IsAtCall, ListsTwice, HasPrivateFormal, IsLinked}
use Rattle.ped_links.specs.ped_units.specs.Verdicts.{one_for, call_count, calls_count}
use Rattle.ped_calls.specs.Laws.{is_plain, IsPlain}
use Rattle.ped_calls.proofs.FirstCalls.{all_placed}
use Rattle.ped_calls.proofs.FormCalls.{item_calls, reading_calls, entries_calls, form_calls}

-- what no statement of the profile says is a CALL

target_none : (r : ReferenceForm) (e : ExprTree) → one_for (call_of (reference_form_tree r) e) ≡ 0
target_none (scalar x is) e = refl
target_none (element x is other subscripts) e = refl

simple_none : (s : SimpleForm) → item_calls (simple_item s) ≡ 0
simple_none (assignment r e) = target_none r _
simple_none (print items) = refl
simple_none (read items) = refl
simple_none stop = refl
simple_none continue = refl

behind_none : (s : SimpleForm) → calls_count (behind_if s) ≡ 0
behind_none (assignment r e) = let none = target_none r (expr_form_tree e) in omega (arith, none)
behind_none (print items) = refl
behind_none (read items) = refl
behind_none stop = refl
behind_none continue = refl

form_none : (f : StatementForm) → item_calls (statement_item f) ≡ 0
form_none (program x is) = refl
form_none implicit = refl
form_none (integer d rest) = refl
form_none (dimension a rest) = refl
form_none (parameter c rest) = refl
form_none (save names are) = refl
form_none save_all = refl
form_none (simple s) = simple_none s
form_none (if_simple c s) = behind_none s
form_none (if_then c) = refl
form_none (else_if_then c) = refl
form_none else_alone = refl
form_none end_of_if = refl
form_none (do_loop parallel l c) = refl
form_none end_of_do = refl
form_none (private names are) = refl
form_none end = refl

item_none : (text : List ℕ) (i : Item) → ReadsItem text i → item_calls i ≡ 0
item_none text i r = ap item_calls (sym r.2) ∙ form_none r.0

reading_none : (text : List ℕ) (r : Reading) → IsReading text r → reading_calls r ≡ 0
reading_none text (says i) is = item_none text i is
reading_none text outside_profile is = refl
reading_none text no_form is = refl

entries_none : (ss : List Statement) (es : List Entry) → AreEntries ss es → entries_calls es ≡ 0
entries_none [] [] h = refl
entries_none [] (e ∷ es) h = absurd h
entries_none (s ∷ ss) [] h = absurd h
entries_none (s ∷ ss) (e ∷ es) h =
    let one = reading_none s.text e.reading h.1 in
    let more = entries_none ss es h.2 in
    omega (arith, one, more)

-- the statements as those of a program

never : false ≡ true → ⊥
never h = cc

-- what a plain statement is in a program
abbrev pub plain_entry : UnitEntry → Entry
plain_entry e = record { statement = e.statement; reading = as_reading stand_in false false e.item }

-- all statements are plain
abbrev pub ArePlain : List UnitEntry → Type 0
ArePlain [] = Unit {0}
ArePlain (e ∷ es) = (is_plain e.item ≡ true) × ArePlain es

-- in a text without CALL and SUBROUTINE statements they are
pub are_plain : (ss : List Statement) (es : List UnitEntry) → AllByRecursion IsPlain ss → AreUnitEntries ss es → ArePlain es
are_plain [] [] all are = tt
are_plain [] (e ∷ es) all are = absurd are
are_plain (s ∷ ss) [] all are = absurd are
are_plain (s ∷ ss) (e ∷ es) all are = (all.0 e.item are.1, are_plain ss es all.1 are.2)

begins_none : (i : UnitItem) → is_plain i ≡ true → begins i ≡ false
begins_none (plain r) h = refl
begins_none (calls c) h = absurd (never h)
begins_none (calls_if e c) h = absurd (never h)
begins_none (begins_unit x formals) h = absurd (never h)
begins_none returns h = refl

last_false : (a b : Bool) → b ≡ false → (a && b) ≡ false
last_false true b h = h
last_false false b h = refl

-- they are one unit
plain_own : (ended : Bool) (es : List UnitEntry) → ArePlain es → own_entries ended es ≡ es
plain_own ended [] p = refl
plain_own ended (e ∷ es) p =
    ap (λ (b : Bool). if b then [] else e ∷ own_entries (ended || ends e.item) es) (last_false ended (begins e.item) (begins_none e.item p.0))
    ∙ ap (λ (rest : List UnitEntry). e ∷ rest) (plain_own (ended || ends e.item) es p.1)

plain_further : (ended : Bool) (es : List UnitEntry) → ArePlain es → further_segments ended es ≡ []
plain_further ended [] p = refl
plain_further ended (e ∷ es) p =
    ap (λ (b : Bool). if b then record { head = Some e; entries = own_entries false es } ∷ further_segments false es else further_segments (ended || ends e.item) es) (last_false ended (begins e.item) (begins_none e.item p.0))
    ∙ plain_further (ended || ends e.item) es p.1

abbrev pub whole : List UnitEntry → Segment
whole es = record { head = None; entries = es }

pub plain_segments : (es : List UnitEntry) → ArePlain es → segments_of es ≡ whole es ∷ []
plain_segments es p = λ i. record { head = None; entries = plain_own false es p i } ∷ plain_further false es p i

read_as : (f : Called → StmtTree) (before_end : Bool) (i : UnitItem) → is_plain i ≡ true → as_reading f false before_end i ≡ as_reading stand_in false false i
read_as f before_end (plain r) h = refl
read_as f before_end (calls c) h = absurd (never h)
read_as f before_end (calls_if e c) h = absurd (never h)
read_as f before_end (begins_unit x formals) h = absurd (never h)
read_as f before_end returns h = refl

pub plain_as : (f : Called → StmtTree) (es : List UnitEntry) → ArePlain es → as_entries f false es ≡ map plain_entry es
plain_as f [] p = refl
plain_as f (e ∷ es) p = λ i. record { statement = e.statement; reading = read_as f (is_end_next es) e.item p.0 i } ∷ plain_as f es p.1 i

none_refused : (test : Bool) (r : Refusal) (line : ℕ) → test ≡ false → refused_if test r line ≡ []
unfolding refused_if
none_refused true r line h = absurd cc
none_refused false r line h = refl

limit_none : (i : UnitItem) → is_plain i ≡ true → call_passes_limit (call_in i) ≡ false
limit_none (plain r) h = refl
limit_none (calls c) h = absurd (never h)
limit_none (calls_if e c) h = absurd (never h)
limit_none (begins_unit x formals) h = refl
limit_none returns h = refl

no_calls_refused : (es : List UnitEntry) → ArePlain es → flat_map at_call es ≡ []
no_calls_refused [] p = refl
no_calls_refused (e ∷ es) p = λ i. none_refused (call_passes_limit (call_in e.item)) Limit e.statement.line (limit_none e.item p.0) i ++ no_calls_refused es p.1 i

-- and refused as those of a program
pub plain_refusals : (all : Statements) (es : List UnitEntry) → ArePlain es → segments_refusals all (segments_of es) ≡ program_refusals all (map plain_entry es)
plain_refusals all es p =
    ap (segments_refusals all) (plain_segments es p)
    ∙ (λ i. (no_calls_refused es p i ++ []) ++ program_refusals all (plain_as stand_in es p i))

return_outside : (text : List ℕ) (f : UnitForm) → unit_form_text f ≡ text → unit_form_item f ≡ returns → IsOutside text
return_outside text (call c) t i = absurd cc
return_outside text (if_call e c) t i = absurd cc
return_outside text (subroutine x is formals are) t i = absurd cc
return_outside text a_return t i = subst IsOutside t (by_word refl)

plain_reading : (text : List ℕ) (i : UnitItem) → is_plain i ≡ true → IsUnitItem text i → IsReading text (as_reading stand_in false false i)
plain_reading text (plain (says j)) h is = is
plain_reading text (plain outside_profile) h is = is.0
plain_reading text (plain no_form) h is = is.0
plain_reading text (calls c) h is = absurd (never h)
plain_reading text (calls_if e c) h is = absurd (never h)
plain_reading text (begins_unit x formals) h is = absurd (never h)
plain_reading text returns h is = (is.0, return_outside text is.1.0 is.1.1 is.1.2)

pub plain_reads : (ss : List Statement) (es : List UnitEntry) → ArePlain es → AreUnitEntries ss es → AreEntries ss (map plain_entry es)
plain_reads [] [] p are = tt
plain_reads [] (e ∷ es) p are = absurd are
plain_reads (s ∷ ss) [] p are = absurd are
plain_reads (s ∷ ss) (e ∷ es) p are = (are.0, plain_reading s.text e.item p.0 are.1, plain_reads ss es p.1 are.2)

pub plain_cut : (text : List ℕ) (es : List UnitEntry) → ArePlain es → IsCutIntoUnits text es → IsCutInto text (map plain_entry es)
plain_cut text es p cut = record { accepted = cut.accepted; readings = plain_reads (statements_of text).statements es p cut.items }

-- their units

no_call : (o : Option Called) → one_for o ≡ 0 → o ≡ None
no_call None h = refl
no_call (Some c) h = absurd cc

mutual
  one_without : (f : Called → StmtTree) (s : StmtTree) → call_count s ≡ 0 → with_calls f s ≡ s
  one_without f (Assign left right) h = ap (instead_of f (Assign left right)) (no_call (call_of left right) h)
  one_without f (If c a b) h = λ i. If c (all_without f a (omega (arith, h)) i) (all_without f b (omega (arith, h)) i)
  one_without f (Do head body) h = ap (Do head) (all_without f body h)
  one_without f (Print items) h = refl
  one_without f (Read items) h = refl
  one_without f Stop h = refl
  one_without f (Comment text) h = refl

  -- statements without CALLs stay
  pub all_without : (f : Called → StmtTree) (ss : StmtTrees) → calls_count ss ≡ 0 → all_with_calls f ss ≡ ss
  all_without f no_stmts h = refl
  all_without f (more_stmts s rest) h = λ i. more_stmts (one_without f s (omega (arith, h)) i) (all_without f rest (omega (arith, h)) i)

-- the names of a unit without dummy arguments and CALLs are those of its tree
pub names_alone : (u : ProgramUnit) → u.formals ≡ [] → calls_count u.tree.body ≡ 0 → for_names u ≡ u.tree
names_alone u formals none =
    ap (λ (fs : List (List ℕ)). for_names (record u { formals = fs })) formals
    ∙ (λ i. record { decls = u.tree.decls; body = all_without (using_arguments (dimensioned u.tree.decls)) u.tree.body none i })

lines_alone : (u : ProgramUnit) → u.formals ≡ [] → lines_for_names u ≡ u.lines
lines_alone u formals = ap (λ (fs : List (List ℕ)). if has_some fs then u.line ∷ u.lines else u.lines) formals

-- a main program stands alone, without CALLs, and is what the text reads as
pub record IsAlone (text : List ℕ) (us : ProgramUnits) : Type 0 where
  pub others : us.others ≡ []
  pub formals : us.main.formals ≡ []
  pub none : calls_count us.main.tree.body ≡ 0
  pub reads : Reads text us.main.tree
  pub begin : HasFirstLines text us.main.lines

-- no CALL stands in what a text reads as
pub read_none : (text : List ℕ) (t : ProgramTree) → Reads text t → calls_count t.body ≡ 0
read_none text t r =
    ap (λ (u : ProgramTree). calls_count u.body) (sym r.nested)
    ∙ form_calls (saved_names r.entries) r.form
    ∙ ap entries_calls r.written
    ∙ entries_none (statements_of text).statements r.entries r.cut.readings

no_more : (us : List ProgramUnit) → AreUnitsOf [] us → us ≡ []
no_more [] h = refl
no_more (u ∷ us) h = absurd h

pub read_alone : (text : List ℕ) (us : ProgramUnits) (r : ReadsUnits text us) → ArePlain r.entries → IsAlone text us
read_alone text us r p =
    let es = map plain_entry r.entries in
    let all = statements_of text in
    let are = subst (λ (ss : List Segment). AreUnitsOf ss (all_units us)) (plain_segments r.entries p) r.are in
    let main : IsUnitOf (whole r.entries) us.main = are.0 in
    let seen : seen_entries (whole r.entries) ≡ es = plain_as stand_in r.entries p in
    let kept : kept_entries (whole r.entries) ≡ es = plain_as call_statement r.entries p in
    let cut : IsCutInto text es = plain_cut text r.entries p r.cut in
    let reads : Reads text us.main.tree = record {
      entries = es;
      cut = cut;
      accepted = sym (ap first_of (plain_refusals all r.entries p)) ∙ r.accepted;
      form = main.form;
      written = main.written ∙ kept;
      labelled = main.labelled;
      nested = ap (λ (xs : List Entry). program_form_tree (saved_names xs) main.form) (sym seen) ∙ main.nested;
    } in
    record {
      others = no_more us.others are.1;
      formals = main.headed.1;
      none = read_none text us.main.tree reads;
      reads = reads;
      begin = record { entries = es; cut = cut; counted = ap (λ (xs : List Entry). first_lines (saved_names xs) xs) (sym seen) ∙ main.counted };
    }

-- the file with a main program alone
abbrev pub alone : ProgramTree → List ℕ → ProgramUnits
alone t lines = record { main = record { name = []; formals = []; line = 0; tree = t; lines = lines }; others = [] }

-- what a text reads as, as units
pub reads_alone : (text : List ℕ) (t : ProgramTree) (lines : List ℕ) (es : List UnitEntry) → Reads text t → HasFirstLines text lines → AreUnitEntries (statements_of text).statements es → ArePlain es → ReadsUnits text (alone t lines)
reads_alone text t lines es r begin are p =
    let all = statements_of text in
    let us = alone t lines in
    let same : r.entries ≡ map plain_entry es = one_entries one_item all.statements r.entries (map plain_entry es) r.cut.readings (plain_reads all.statements es p are) in
    let counted : begin.entries ≡ map plain_entry es = one_entries one_item all.statements begin.entries (map plain_entry es) begin.cut.readings (plain_reads all.statements es p are) in
    let seen : seen_entries (whole es) ≡ map plain_entry es = plain_as stand_in es p in
    let kept : kept_entries (whole es) ≡ map plain_entry es = plain_as call_statement es p in
    let unit : IsUnitOf (whole es) us.main = record {
      headed = (refl, refl, refl);
      form = r.form;
      written = r.written ∙ same ∙ sym kept;
      labelled = r.labelled;
      nested = ap (λ (xs : List Entry). program_form_tree (saved_names xs) r.form) (seen ∙ sym same) ∙ r.nested;
      counted = ap (λ (xs : List Entry). first_lines (saved_names xs) xs) (seen ∙ sym counted) ∙ begin.counted;
    } in
    record {
      entries = es;
      cut = record { accepted = r.cut.accepted; items = are };
      accepted = ap first_of (plain_refusals all es p ∙ ap (program_refusals all) (sym same)) ∙ r.accepted;
      are = subst (λ (ss : List Segment). AreUnitsOf ss (all_units us)) (sym (plain_segments es p)) (unit, tt);
    }

-- what is refused for its names
pub plain_names : (us : ProgramUnits) → us.others ≡ [] → us.main.formals ≡ [] → calls_count us.main.tree.body ≡ 0 → units_name_refusals (all_units us) ≡ name_refusals us.main.lines us.main.tree
plain_names us others formals none =
    ap (λ (vs : List ProgramUnit). units_name_refusals (us.main ∷ vs)) others
    ∙ append-nil (name_refusals (lines_for_names us.main) (for_names us.main))
    ∙ (λ i. name_refusals (lines_alone us.main formals i) (names_alone us.main formals none i))

-- nothing is linked in it

only_main : (us : ProgramUnits) (u : ProgramUnit) → us.others ≡ [] → IsIn u (us.main ∷ us.others) → u ≡ us.main
only_main us u none (inl h) = h
only_main us u none (inr h) = absurd (subst (λ (others : List ProgramUnit). IsIn u others) none h)

pub calls_nowhere : (u : ProgramUnit) → calls_count u.tree.body ≡ 0 → calls_of u ≡ []
calls_nowhere u h = nil_from_length (calls_of u) (all_placed [] _ u.tree.body ∙ h)

meets_none : (names : List (List ℕ)) → meets names [] ≡ false
meets_none [] = refl
meets_none (x ∷ xs) = meets_none xs

no_split : (before behind : List ProgramUnit) (u : ProgramUnit) → [] ≡ before ++ u ∷ behind → ⊥
no_split [] behind u h = cc
no_split (v ∷ before) behind u h = cc

module _ (us : ProgramUnits) (others : us.others ≡ []) (formals : us.main.formals ≡ []) (none : calls_count us.main.tree.body ≡ 0) where
  not_at_call : (line : ℕ) (holds : ProgramUnit → Placed → Type 0) → IsAtCall us line holds → ⊥
  not_at_call line holds a =
      let same = only_main us a.unit others a.is_unit in
      subst (λ (ps : List Placed). IsIn a.call ps) (ap calls_of same ∙ calls_nowhere us.main none) a.is_call

  not_twice : (line : ℕ) → ListsTwice us line → ⊥
  not_twice line l =
      let same = only_main us l.unit others l.is_unit in
      never (ap has_twice (sym formals) ∙ ap (λ (u : ProgramUnit). has_twice u.formals) (sym same) ∙ l.twice)

  not_private : (line : ℕ) → HasPrivateFormal us line → ⊥
  not_private line p =
      let same = only_main us p.unit others p.is_unit in
      never (sym (meets_none p.names) ∙ ap (meets p.names) (sym formals) ∙ ap (λ (u : ProgramUnit). meets p.names u.formals) (sym same) ∙ p.formal)

  pub plain_linked : IsLinked us
  plain_linked NoUnit line (inl r) = no_split r.before r.behind r.unit (sym others ∙ r.stand)
  plain_linked NoUnit line (inr a) = not_at_call line _ a
  plain_linked Recursion line a = not_at_call line _ a
  plain_linked Arguments line (inl l) = not_twice line l
  plain_linked Arguments line (inr (inl p)) = not_private line p
  plain_linked Arguments line (inr (inr a)) = not_at_call line _ a
  plain_linked Aliased line a = not_at_call line _ a
  plain_linked CallPlace line a = not_at_call line _ a
