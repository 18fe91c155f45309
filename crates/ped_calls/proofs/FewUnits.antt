-- Units that are read have few statements and few references.
use Rattle.std.proofs.Common.{◌≡◌, ℕ, ◌+◌, ◌*◌, ◌≤◌, ◌<◌, ◌^◌, List, [], ◌∷◌, ◌++◌, map, length, Bool, true, false, Option, Some, None, All, refl, sym, ap, subst, ◌∙◌, arith, if◌then◌else◌}
use Rattle.std.specs.Prelude.{nat_lt, ◌&&◌, ◌||◌}
use Rattle.std.specs.List.{AllByRecursion, list_any, flat_map}
use Rattle.std.proofs.lemmas.Bool.{or_parts}
use Rattle.std.proofs.lemmas.List.Elements.{All-from_recursion}
use Rattle.ped_tree.specs.Tree.{ExprTree, CondTree, StmtTree, StmtTrees, Assign, If, Do, Print, Read, Stop, Comment, no_stmts, more_stmts, ProgramTree}
use Rattle.ped_tree.specs.Views.{pack_stmts}
use Rattle.ped_tree.specs.Numbering.{statement_count, statements_count}
use Rattle.ped_tree.specs.Accesses.{constant_names}
use Rattle.ped_tree.specs.Printing.{own_text, do_text, private_text}
use Rattle.ped_tree.specs.Grammar.ExpressionForms.{ReferenceForm, scalar, element, reference_form_tree, expr_form_tree}
use Rattle.ped_tree.specs.Grammar.ConditionForms.{cond_form_tree}
use Rattle.ped_tree.specs.Grammar.Statement.{Statement, Statements}
use Rattle.ped_tree.specs.Grammar.Refusal.{Limit}
use Rattle.ped_tree.specs.Grammar.Grouping.{statements_of}
use Rattle.ped_tree.specs.Grammar.Items.{Item, does, continues, logical_if, ends_program, Reading, says, outside_profile, no_form, Entry}
use Rattle.ped_tree.specs.Grammar.StatementForms.{SimpleForm, assignment, print, read, stop, continue, StatementForm, program, implicit, integer, dimension, parameter, save, save_all, simple, if_simple, if_then, else_if_then, else_alone, end_of_if, do_loop, end_of_do, private, end, item_form_tree, simple_item, behind_if, control_form_head, statement_item}
use Rattle.ped_tree.specs.Grammar.Contexts.{Context, at_start, numbered_in, open_variables, behind, behind_all}
use Rattle.ped_tree.specs.Grammar.Occurrences.{saved_names}
use Rattle.ped_tree.specs.Grammar.ProgramForms.{ProgramForm, decl_entry, program_entries, behind_front, all_trees, program_form_tree}
use Rattle.ped_tree.specs.Grammar.BlockForms.{entry, body_entries, body_trees, comments_of}
use Rattle.ped_tree.specs.Grammar.ProgramRefusals.{where_it_says, is_too_large, are_too_many, is_too_deep, has_many_references, is_too_long, passes_limit, private_behind, at_statement, at_statements, at_end, program_refusals}
use Rattle.ped_links.specs.ped_parse.specs.ped_blocks.proofs.BlocksFound.{none_stands, left_empty, right_empty, first_none}
use Rattle.ped_links.specs.ped_symbols.specs.ped_refs.specs.References.{statements_references}
use Rattle.ped_links.specs.ped_units.specs.Forms.{Called, UnitItem, plain, calls, calls_if, begins_unit, returns, IsUnitItem}
use Rattle.ped_links.specs.ped_units.specs.Units.{ProgramUnit, ProgramUnits, all_units, call_of, call_statement, instead_of, with_calls, all_with_calls}
use Rattle.ped_links.specs.ped_units.specs.Reading.{UnitEntry, AreUnitEntries, Segment, ends, begins, own_entries, further_segments, segments_of, is_end_next, as_reading, as_entries, is_subroutine, stand_in, seen_entries, IsUnitOf, AreUnitsOf}
use Rattle.ped_links.specs.ped_units.specs.Refusals.{call_in, call_passes_limit, at_call, at_head, at_subroutine_entry, other_refusals, segment_refusals, before_another, segments_refusals, ReadsUnits, dimensioned, using_arguments, for_names}
use Rattle.ped_links.specs.ped_units.specs.Naming.{HasFew}
use Rattle.ped_calls.proofs.ReadCharacters.{assignment_few, print_few, read_few}
use Rattle.ped_calls.proofs.BoundedStatements.{AreBounded, joined, own_bounded, packed_bounded}
use Rattle.ped_calls.proofs.BoundedForms.{IsShort, IsShortReading, AreShort, front_short, back_short, notes_bounded, notes_uncounted, body_bounded, numbered_by, numbered_all, entries_both, count_of, trees_both, body_counted}
use Rattle.ped_calls.proofs.BoundedCalls.{call_bounded}

-- a text is short where the limit isn't passed
short_text : (text : List ℕ) → nat_lt 1300 (length text) ≡ false → length text ≤ 1300
short_text text h = grind (arith, h)

-- a list of texts, the first of them
first_text : (text : List ℕ) (rest : List (List ℕ)) → list_any (λ t. nat_lt 1300 (length t)) (text ∷ rest) ≡ false → length text ≤ 1300
first_text text rest h = short_text text (or_parts (nat_lt 1300 (length text)) (list_any (λ t. nat_lt 1300 (length t)) rest) h).0

no_call : (r : ReferenceForm) (e : ExprTree) → call_of (reference_form_tree r) e ≡ None
no_call (scalar x is) e = refl
no_call (element x is other es) e = refl

simple_short : (f : Called → StmtTree) (saved : List (List ℕ)) (s : SimpleForm) → is_too_long saved (simple_item s) ≡ false → IsShort f (simple_item s)
simple_short f saved (assignment r e) h =
    let l = reference_form_tree r in
    let t = expr_form_tree e in
    let short = first_text (own_text (Assign l t)) [] h in
    own_bounded f (Assign l t) (ap (instead_of f (Assign l t)) (no_call r t)) refl (λ k nest n. refl) (λ k u. omega (arith, short, assignment_few k u l t))
simple_short f saved (print items) h =
    let trees = map item_form_tree items in
    let short = first_text (own_text (Print trees)) [] h in
    own_bounded f (Print trees) refl refl (λ k nest n. refl) (λ k u. omega (arith, short, print_few k u trees))
simple_short f saved (read items) h =
    let trees = map reference_form_tree items in
    let short = first_text (own_text (Read trees)) [] h in
    own_bounded f (Read trees) refl refl (λ k nest n. refl) (λ k u. omega (arith, short, read_few k u trees))
simple_short f saved stop h = own_bounded f Stop refl refl (λ k nest n. refl) (λ k u. omega arith)
simple_short f saved continue h = tt

behind_short : (f : Called → StmtTree) (c : CondTree) (s : SimpleForm) → is_too_long [] (logical_if c (behind_if s)) ≡ false → IsShort f (logical_if c (behind_if s))
behind_short f c (assignment r e) h =
    let own = own_text (If c no_stmts no_stmts) in
    (first_text own (own_text (Assign (reference_form_tree r) (expr_form_tree e)) ∷ []) h, (simple_short f [] (assignment r e) (or_parts (nat_lt 1300 (length own)) _ h).1, tt))
behind_short f c (print items) h =
    let own = own_text (If c no_stmts no_stmts) in
    (first_text own (own_text (Print (map item_form_tree items)) ∷ []) h, (simple_short f [] (print items) (or_parts (nat_lt 1300 (length own)) _ h).1, tt))
behind_short f c (read items) h =
    let own = own_text (If c no_stmts no_stmts) in
    (first_text own (own_text (Read (map reference_form_tree items)) ∷ []) h, (simple_short f [] (read items) (or_parts (nat_lt 1300 (length own)) _ h).1, tt))
behind_short f c stop h =
    let own = own_text (If c no_stmts no_stmts) in
    (first_text own (own_text Stop ∷ []) h, (simple_short f [] stop (or_parts (nat_lt 1300 (length own)) _ h).1, tt))
behind_short f c continue h = (first_text (own_text (If c no_stmts no_stmts)) [] h, tt)

form_short : (f : Called → StmtTree) (saved : List (List ℕ)) (s : StatementForm) → is_too_long saved (statement_item s) ≡ false → IsShort f (statement_item s)
form_short f saved (program x is) h = tt
form_short f saved implicit h = tt
form_short f saved (integer d rest) h = tt
form_short f saved (dimension a rest) h = tt
form_short f saved (parameter c rest) h = tt
form_short f saved (save names are) h = tt
form_short f saved save_all h = tt
form_short f saved (simple s) h = simple_short f saved s h
form_short f saved (if_simple c s) h = behind_short f (cond_form_tree c) s h
form_short f saved (if_then c) h = first_text (own_text (If (cond_form_tree c) no_stmts no_stmts)) [] h
form_short f saved (else_if_then c) h = first_text (own_text (If (cond_form_tree c) no_stmts no_stmts)) [] h
form_short f saved else_alone h = tt
form_short f saved end_of_if h = tt
form_short f saved (do_loop parallel label c) h = first_text (do_text (control_form_head parallel c)) [] h
form_short f saved end_of_do h = tt
form_short f saved (private names are) h = first_text (private_text names) [] h
form_short f saved end h = tt

-- what isn't refused for a limit
record IsWithin (saved : List (List ℕ)) (c : Context) (i : Item) : Type 0 where
  few : are_too_many c.statements i ≡ false
  short : is_too_long saved i ≡ false

within_item : (saved : List (List ℕ)) (c : Context) (rest : List Entry) (i : Item) → passes_limit saved c rest i ≡ false → IsWithin saved c i
within_item saved c rest i h =
    let a = or_parts _ (is_too_long saved i) h in
    let b = or_parts _ (has_many_references c.constants (open_variables c.blocks) (private_behind rest) i) a.0 in
    let d = or_parts _ (is_too_deep c.blocks i) b.0 in
    record { few = (or_parts (is_too_large i) (are_too_many c.statements i) d.0).1; short = a.1 }

few_by : (n m : ℕ) (b : Bool) → nat_lt 0 m ≡ b → (b && nat_lt 4000 (n + m)) ≡ false → n ≤ 4000 → n + m ≤ 4000
few_by n m true e h k = grind (arith, h)
few_by n m false e h k = grind (arith, e, k)

still_few : (n : ℕ) (i : Item) → are_too_many n i ≡ false → n ≤ 4000 → n + numbered_in i ≤ 4000
still_few n i h k = few_by n (numbered_in i) (nat_lt 0 (numbered_in i)) refl h k

-- what is kept of a statement at which nothing is refused, and how many are numbered then
record KeptShort (f : Called → StmtTree) (n : ℕ) (seen kept : Reading) : Type 0 where
  short : IsShortReading f kept
  alike : numbered_by kept ≡ numbered_by seen
  few : n + numbered_by seen ≤ 4000

abbrev IsPassed : List (List ℕ) → Context → List Entry → Reading → Type 0
IsPassed saved c rest r = where_it_says (passes_limit saved c rest) r ≡ false

-- no limit is passed at a statement at which nothing is refused
within_limit : (saved : List (List ℕ)) (c : Context) (e : Entry) (rest : List Entry) → at_statement saved c e rest ≡ [] → IsPassed saved c rest e.reading
within_limit saved c e rest h = none_stands (where_it_says (passes_limit saved c rest) e.reading) Limit e.statement.line (right_empty _ _ h)

plain_kept : (f : Called → StmtTree) (saved : List (List ℕ)) (c : Context) (rest : List Entry) (text : List ℕ) (r : Reading) → IsUnitItem text (plain r) → IsPassed saved c rest r → c.statements ≤ 4000 → KeptShort f c.statements r r
plain_kept f saved c rest text (says i) texts h k =
    let w = within_item saved c rest i h in
    record {
      short = subst (IsShort f) texts.2 (form_short f saved texts.0 (ap (is_too_long saved) texts.2 ∙ w.short));
      alike = refl;
      few = still_few c.statements i w.few k;
    }
plain_kept f saved c rest text outside_profile texts h k = record { short = tt; alike = refl; few = omega (arith, k) }
plain_kept f saved c rest text no_form texts h k = record { short = tt; alike = refl; few = omega (arith, k) }

return_kept : (f : Called → StmtTree) (n : ℕ) (b : Bool) → n ≤ 4000 → KeptShort f n (if b then says continues else outside_profile) (if b then says continues else outside_profile)
return_kept f n true k = record { short = tt; alike = refl; few = omega (arith, k) }
return_kept f n false k = record { short = tt; alike = refl; few = omega (arith, k) }

kept_short : (arrays saved : List (List ℕ)) (c : Context) (rest : List Entry) (text : List ℕ) (sub before : Bool) (i : UnitItem) → IsUnitItem text i → call_passes_limit (call_in i) ≡ false
    → IsPassed saved c rest (as_reading stand_in sub before i) → c.statements ≤ 4000
    → KeptShort (using_arguments arrays) c.statements (as_reading stand_in sub before i) (as_reading call_statement sub before i)
kept_short arrays saved c rest text sub before (plain r) texts small h k = plain_kept (using_arguments arrays) saved c rest text r texts h k
kept_short arrays saved c rest text sub before (calls d) texts small h k =
    let w = within_item saved c rest (does (stand_in d)) h in
    record { short = call_bounded arrays d small; alike = refl; few = still_few c.statements (does (stand_in d)) w.few k }
kept_short arrays saved c rest text sub before (calls_if e d) texts small h k =
    let i = logical_if e (more_stmts (stand_in d) no_stmts) in
    let w = within_item saved c rest i h in
    record {
      short = (first_text (own_text (If e no_stmts no_stmts)) (own_text (stand_in d) ∷ []) w.short, (call_bounded arrays d small, tt));
      alike = refl;
      few = still_few c.statements i w.few k;
    }
kept_short arrays saved c rest text sub before (begins_unit x formals) texts small h k = record { short = tt; alike = refl; few = omega (arith, k) }
kept_short arrays saved c rest text sub before returns texts small h k = return_kept (using_arguments arrays) c.statements (sub && before) k

statements_behind : (c : Context) (s : Statement) (r : Reading) → (behind c (record { statement = s; reading = r })).statements ≡ c.statements + numbered_by r
statements_behind c s (says i) = refl
statements_behind c s outside_profile = omega arith
statements_behind c s no_form = omega arith

-- all statements of a unit, from a context on
record AllKept (f : Called → StmtTree) (n : ℕ) (kept : List Entry) : Type 0 where
  short : AreShort f kept
  few : n + numbered_all kept ≤ 4000

-- statements with what their texts are
abbrev AreRead : List UnitEntry → Type 0
AreRead es = AllByRecursion (λ (e : UnitEntry). IsUnitItem e.statement.text e.item) es

all_kept : (arrays saved : List (List ℕ)) (sub : Bool) (c : Context) (es : List UnitEntry) → AreRead es → c.statements ≤ 4000 → at_statements saved c (as_entries stand_in sub es) ≡ [] → flat_map at_call es ≡ []
    → AllKept (using_arguments arrays) c.statements (as_entries call_statement sub es)
all_kept arrays saved sub c [] texts k h small = record { short = tt; few = omega (arith, k) }
all_kept arrays saved sub c (e ∷ es) texts k h small =
    let f = using_arguments arrays in
    let before = is_end_next es in
    let rest = as_entries stand_in sub es in
    let seen = as_reading stand_in sub before e.item in
    let one : Entry = record { statement = e.statement; reading = seen } in
    let here = left_empty (at_statement saved c one rest) (at_statements saved (behind c one) rest) h in
    let next = right_empty (at_statement saved c one rest) (at_statements saved (behind c one) rest) h in
    let limit = within_limit saved c one rest here in
    let own = none_stands (call_passes_limit (call_in e.item)) Limit e.statement.line (left_empty (at_call e) (flat_map at_call es) small) in
    let kept = kept_short arrays saved c rest e.statement.text sub before e.item texts.0 own limit k in
    let count = statements_behind c e.statement seen in
    let more = all_kept arrays saved sub (behind c one) es texts.1 (omega (arith, count, kept.few)) next (right_empty (at_call e) (flat_map at_call es) small) in
    record { short = (kept.short, more.short); few = omega (arith, more.few, count, kept.alike) }

-- what stands for CALLs counts as they do
mutual
  count_kept : (f : Called → StmtTree) → ((c : Called) → statement_count (f c) ≡ 1) → (s : StmtTree) → statement_count (with_calls f s) ≡ statement_count s
  count_kept f one (Assign l r) = by (call_of l r)
    where
      by : (o : Option Called) → statement_count (instead_of f (Assign l r) o) ≡ 1
      by None = refl
      by (Some c) = one c
  count_kept f one (If c t e) = λ i. counts_kept f one t i + counts_kept f one e i + 1
  count_kept f one (Do h body) = λ i. counts_kept f one body i + 1
  count_kept f one (Print items) = refl
  count_kept f one (Read items) = refl
  count_kept f one Stop = refl
  count_kept f one (Comment text) = refl

  counts_kept : (f : Called → StmtTree) → ((c : Called) → statement_count (f c) ≡ 1) → (ss : StmtTrees) → statements_count (all_with_calls f ss) ≡ statements_count ss
  counts_kept f one no_stmts = refl
  counts_kept f one (more_stmts s rest) = λ i. count_kept f one s i + counts_kept f one rest i

-- the front comments of a program belong to its declarations
front_bounded : (f : Called → StmtTree) (ss : List StmtTree) → AreBounded f ss → AreBounded f (behind_front ss)
front_bounded f [] h = tt
front_bounded f (Comment text ∷ ss) h = front_bounded f ss h.1
front_bounded f (Assign l r ∷ ss) h = h
front_bounded f (If c t e ∷ ss) h = h
front_bounded f (Do d body ∷ ss) h = h
front_bounded f (Print items ∷ ss) h = h
front_bounded f (Read items ∷ ss) h = h
front_bounded f (Stop ∷ ss) h = h

front_counted : (ss : List StmtTree) → count_of (behind_front ss) ≡ count_of ss
front_counted [] = refl
front_counted (Comment text ∷ ss) = let more = front_counted ss in omega (arith, more)
front_counted (Assign l r ∷ ss) = refl
front_counted (If c t e ∷ ss) = refl
front_counted (Do d body ∷ ss) = refl
front_counted (Print items ∷ ss) = refl
front_counted (Read items ∷ ss) = refl
front_counted (Stop ∷ ss) = refl

small_enough : (n m : ℕ) → n ≤ 4000 → m ≤ 2700 * n → m < 2 ^ 32
small_enough n m h k = omega (arith, h, k)

few_trees : (f : Called → StmtTree) → ((c : Called) → statement_count (f c) ≡ 1) → (ss : List StmtTree) (constants : List (List ℕ)) → AreBounded f ss → count_of ss ≤ 4000
    → (statements_count (all_with_calls f (pack_stmts ss)) < 2 ^ 32) × (length (statements_references constants [] 1 (all_with_calls f (pack_stmts ss))) < 2 ^ 32)
few_trees f one ss constants h k =
    let same = counts_kept f one (pack_stmts ss) in
    let few : statements_count (all_with_calls f (pack_stmts ss)) ≤ 4000 = omega (arith, same, k) in (
      omega (arith, few),
      small_enough (statements_count (all_with_calls f (pack_stmts ss))) _ few (packed_bounded f ss h constants [] 1),
    )

few_form : (arrays saved : List (List ℕ)) (form : ProgramForm) (constants : List (List ℕ)) → AllKept (using_arguments arrays) 0 (program_entries form)
    → (statements_count (all_with_calls (using_arguments arrays) (program_form_tree saved form).body) < 2 ^ 32)
    × (length (statements_references constants [] 1 (all_with_calls (using_arguments arrays) (program_form_tree saved form).body)) < 2 ^ 32)
few_form arrays saved form constants kept =
    let f = using_arguments arrays in
    let ds = map decl_entry form.declarations in
    let last = entry form.ending ends_program ∷ [] in
    let body = body_entries form.body in
    let own = back_short f ds body (front_short f (ds ++ body) last kept.short) in
    let trees = joined f (body_trees form.body) (comments_of form.ending) (body_bounded f form.body own) (notes_bounded f form.ending.comments) in
    let some = entries_both (ds ++ body) last in
    let first = entries_both ds body in
    let both = trees_both (body_trees form.body) (comments_of form.ending) in
    let none = notes_uncounted form.ending.comments in
    let count = front_counted (all_trees form) in
    few_trees f (λ c. refl) (behind_front (all_trees form)) constants (front_bounded f (all_trees form) trees)
    (omega (arith, kept.few, some, first, both, none, count, body_counted form.body))

-- a unit at whose statements nothing is refused
few_unit : (all : Statements) (s : Segment) (u : ProgramUnit) → AreRead s.entries → segment_refusals all s ≡ [] → IsUnitOf s u → HasFew u
few_unit all s u texts h is =
    let arrays = dimensioned u.tree.decls in
    let seen = seen_entries s in
    let saved = saved_names seen in
    let refused = right_empty (other_refusals s) (program_refusals all seen) h in
    let others = left_empty (other_refusals s) (program_refusals all seen) h in
    let kept = all_kept arrays saved (is_subroutine s.head) at_start s.entries texts (omega arith) (left_empty (at_statements saved at_start seen) (at_end (behind_all at_start seen) all) refused) (left_empty (flat_map at_call s.entries) (if is_subroutine s.head then at_head s.head ++ flat_map at_subroutine_entry s.entries else []) others) in
    let few = few_form arrays saved is.form (constant_names (for_names u).decls) (subst (AllKept (using_arguments arrays) 0) (sym is.written) kept) in
    record {
      statements = subst (λ (t : ProgramTree). statements_count (all_with_calls (using_arguments arrays) t.body) < 2 ^ 32) is.nested few.0;
      references = subst (λ (t : ProgramTree). length (statements_references (constant_names (for_names u).decls) [] 1 (all_with_calls (using_arguments arrays) t.body)) < 2 ^ 32) is.nested few.1;
    }

-- statements of segments
own_read : (ended : Bool) (es : List UnitEntry) → AreRead es → AreRead (own_entries ended es)
own_read ended [] h = tt
own_read ended (e ∷ es) h = by (ended && begins e.item) (own_read (ended || ends e.item) es h.1)
  where
    by : (b : Bool) → AreRead (own_entries (ended || ends e.item) es) → AreRead (if b then [] else e ∷ own_entries (ended || ends e.item) es)
    by true k = tt
    by false k = (h.0, k)

abbrev SegmentsRead : List Segment → Type 0
SegmentsRead ss = AllByRecursion (λ (s : Segment). AreRead s.entries) ss

further_read : (ended : Bool) (es : List UnitEntry) → AreRead es → SegmentsRead (further_segments ended es)
further_read ended [] h = tt
further_read ended (e ∷ es) h = by (ended && begins e.item) (further_read false es h.1) (further_read (ended || ends e.item) es h.1)
  where
    by : (b : Bool) → SegmentsRead (further_segments false es) → SegmentsRead (further_segments (ended || ends e.item) es)
        → SegmentsRead (if b then record { head = Some e; entries = own_entries false es } ∷ further_segments false es else further_segments (ended || ends e.item) es)
    by true k l = (own_read false es h.1, k)
    by false k l = l

are_read : (ss : List Statement) (es : List UnitEntry) → AreUnitEntries ss es → AreRead es
are_read [] [] h = tt
are_read [] (e ∷ es) h = absurd h
are_read (s ∷ ss) [] h = absurd h
are_read (s ∷ ss) (e ∷ es) h = (subst (λ (t : Statement). IsUnitItem t.text e.item) (sym h.0) h.1, are_read ss es h.2)

few_in : (all : Statements) (ss : List Segment) (us : List ProgramUnit) → SegmentsRead ss → segments_refusals all ss ≡ [] → AreUnitsOf ss us → AllByRecursion HasFew us
few_in all [] [] texts h are = tt
few_in all [] (u ∷ us) texts h are = absurd are
few_in all (s ∷ ss) [] texts h are = absurd are
few_in all (s ∷ []) (u ∷ us) texts h are = (few_unit all s u texts.0 h are.0, few_in all [] us tt refl are.1)
few_in all (s ∷ t ∷ ss) (u ∷ us) texts h are = (
  few_unit (before_another all) s u texts.0 (left_empty (segment_refusals (before_another all) s) (segments_refusals all (t ∷ ss)) h) are.0,
  few_in all (t ∷ ss) us texts.1 (right_empty (segment_refusals (before_another all) s) (segments_refusals all (t ∷ ss)) h) are.1,
)

-- the units that a text reads as
pub few_units : (text : List ℕ) (us : ProgramUnits) → ReadsUnits text us → All HasFew (all_units us)
few_units text us r =
    let texts = are_read (statements_of text).statements r.entries r.cut.items in
    All-from_recursion HasFew (all_units us)
    (few_in (statements_of text) (segments_of r.entries) (all_units us) (own_read false r.entries texts, further_read false r.entries texts) (first_none (segments_refusals (statements_of text) (segments_of r.entries)) r.accepted) r.are)
