-- What the statements of a unit say that was read: its arrays have one to seven dimensions, and the loops of a subroutine reject no names.
use Rattle.std.proofs.Common.{◌≡◌, ℕ, List, [], ◌∷◌, ◌++◌, map, length, nat_lt, nat_le, le-leb, Bool, true, false, Some, None, refl, sym, ap, ◌∙◌, subst, inl, inr, if◌then◌else◌}
use Rattle.std.specs.Prelude.{◌&&◌, ◌||◌}
use Rattle.std.specs.List.{AllByRecursion, list_any, flat_map}
use Rattle.std.proofs.lemmas.Bool.{or_parts, ltb-false}
use Rattle.ped_base.specs.Lists.{has_some}
use Rattle.ped_tree.specs.Tree.{StmtTree, StmtTrees, Assign, If, Do, Print, Read, Stop, Comment, no_stmts, more_stmts, DeclaratorTree, DeclTree, Program, Implicit, Integer, Dimension, Parameter, Save, Remark, ProgramTree}
use Rattle.ped_tree.specs.Views.{pack_stmts}
use Rattle.ped_tree.specs.Grammar.LimitNumbers.{most_dimensions}
use Rattle.ped_tree.specs.Grammar.Literals.{decl_has_large_literal}
use Rattle.ped_tree.specs.Grammar.Refusal.{Syntax, Limit, refused_if}
use Rattle.ped_tree.specs.Grammar.Statement.{Note, Statement, Statements}
use Rattle.ped_tree.specs.Grammar.Grouping.{statements_of}
use Rattle.ped_tree.specs.Grammar.Items.{Item, declares, saves_all, does, continues, logical_if, block_if, else_if, else_line, end_if, begins_do, ends_do, keeps_private, ends_program, Reading, says, outside_profile, no_form, Entry}
use Rattle.ped_tree.specs.Grammar.StatementForms.{ArrayForm, an_array, SimpleForm, assignment, print, read, stop, continue, StatementForm, program, implicit, integer, dimension, parameter, save, save_all, simple, if_simple, if_then, else_if_then, else_alone, end_of_if, do_loop, end_of_do, private, end, declarator_form_tree, array_form_tree, simple_item, behind_if, statement_item, ReadsItem}
use Rattle.ped_tree.specs.Grammar.Contexts.{Context, at_start, behind, behind_all}
use Rattle.ped_tree.specs.Grammar.Occurrences.{rejected_names, saved_names}
use Rattle.ped_tree.specs.Grammar.BlockForms.{PlainForm, a_simple, a_continue, a_logical_if, PrivateForm, no_private, private_list, BodyForm, nothing, and_then, PartForm, a_plain, an_if, a_do, RestForm, ends_if, has_else, has_else_if, LoopForm, loop, EndingForm, at_plain, at_end_do, with_inner, plain_item, entry, private_entries, body_entries, part_entries, rest_entries, loop_entries, ending_entries, comments_of, plain_trees, comments_of_private, names_of_private, first_of_rest, whole_head, body_trees, part_trees, rest_trees, loop_trees, ending_trees}
use Rattle.ped_tree.specs.Grammar.ProgramForms.{DeclForm, a_declaration, a_save_of_all, ProgramForm, decl_entry, program_entries, remarks_of, save_of, decl_trees, front_remarks, behind_front, all_trees, program_form_tree}
use Rattle.ped_tree.specs.Grammar.ProgramRefusals.{where_it_says, has_eight_dimensions, is_too_large, are_too_many, is_too_deep, has_many_references, is_too_long, passes_limit, at_statement, at_statements, at_end, program_refusals, private_behind}
use Rattle.ped_calls.specs.ped_units.specs.Forms.{UnitItem, plain, calls, calls_if, begins_unit, returns, IsUnitItem}
use Rattle.ped_calls.specs.ped_units.specs.Units.{ProgramUnit, ProgramUnits, all_units, call_statement}
use Rattle.ped_calls.specs.ped_units.specs.Reading.{UnitEntry, AreUnitEntries, Segment, ends, begins, own_entries, further_segments, segments_of, is_end_next, as_reading, as_entries, is_subroutine, stand_in, seen_entries, IsUnitOf, AreUnitsOf}
use Rattle.ped_calls.specs.ped_units.specs.Refusals.{at_all_directives, at_subroutine_entry, at_call, at_head, other_refusals, segment_refusals, before_another, segments_refusals, ReadsUnits}
use Rattle.ped_calls.specs.ped_units.specs.Linking.{IsIn}
use Rattle.ped_calls.specs.ped_parse.specs.ped_blocks.proofs.BlocksFound.{none_stands, left_empty, right_empty, first_none}

-- no more dimensions than an array may have
abbrev pub FewBounds : DeclaratorTree → Type 0
FewBounds d = nat_le (length d.bounds) most_dimensions ≡ true

-- one dimension or more, and no more than that
abbrev pub SomeBounds : DeclaratorTree → Type 0
SomeBounds d = (has_some d.bounds ≡ true) × FewBounds d

-- a declaration's arrays have one to seven dimensions
abbrev pub DeclRanked : DeclTree → Type 0
DeclRanked (Integer ds) = AllByRecursion FewBounds ds
DeclRanked (Dimension ds) = AllByRecursion SomeBounds ds
DeclRanked (Program x) = Unit {0}
DeclRanked Implicit = Unit {0}
DeclRanked (Parameter values) = Unit {0}
DeclRanked (Save names) = Unit {0}
DeclRanked (Remark text) = Unit {0}

-- there is none
abbrev pub AreNone : List (List ℕ) → Type 0
AreNone names = names ≡ []

-- something holds of the rejected names of each loop
module _ (P : List (List ℕ) → Type 0) where
  abbrev mutual
    pub RejectsIn : StmtTree → Type 0
    RejectsIn (Assign left right) = Unit {0}
    RejectsIn (If condition then_part else_part) = AllRejectsIn then_part × AllRejectsIn else_part
    RejectsIn (Do h body) = P h.rejected × AllRejectsIn body
    RejectsIn (Print items) = Unit {0}
    RejectsIn (Read items) = Unit {0}
    RejectsIn Stop = Unit {0}
    RejectsIn (Comment text) = Unit {0}

    pub AllRejectsIn : StmtTrees → Type 0
    AllRejectsIn no_stmts = Unit {0}
    AllRejectsIn (more_stmts s rest) = RejectsIn s × AllRejectsIn rest

  abbrev ListRejects : List StmtTree → Type 0
  ListRejects ss = AllByRecursion RejectsIn ss

  packed : (ss : List StmtTree) → ListRejects ss → AllRejectsIn (pack_stmts ss)
  packed [] h = tt
  packed (s ∷ ss) h = (h.0, packed ss h.1)

  joined : (xs ys : List StmtTree) → ListRejects xs → ListRejects ys → ListRejects (xs ++ ys)
  joined [] ys h k = k
  joined (x ∷ xs) ys h k = (h.0, joined xs ys h.1 k)

  -- what an item says
  abbrev ItemSays : Item → Type 0
  ItemSays (declares d) = DeclRanked d
  ItemSays (does s) = RejectsIn s
  ItemSays (logical_if c ss) = AllRejectsIn ss
  ItemSays saves_all = Unit {0}
  ItemSays continues = Unit {0}
  ItemSays (block_if c) = Unit {0}
  ItemSays (else_if c) = Unit {0}
  ItemSays else_line = Unit {0}
  ItemSays end_if = Unit {0}
  ItemSays (begins_do l h) = Unit {0}
  ItemSays ends_do = Unit {0}
  ItemSays (keeps_private names) = Unit {0}
  ItemSays ends_program = Unit {0}

  abbrev ReadingSays : Reading → Type 0
  ReadingSays (says i) = ItemSays i
  ReadingSays outside_profile = Unit {0}
  ReadingSays no_form = Unit {0}

  abbrev EntrySays : Entry → Type 0
  EntrySays e = ReadingSays e.reading × P (rejected_names e.statement.directives)

  abbrev AllSay : List Entry → Type 0
  AllSay es = AllByRecursion EntrySays es

  front : (xs ys : List Entry) → AllSay (xs ++ ys) → AllSay xs
  front [] ys h = tt
  front (x ∷ xs) ys h = (h.0, front xs ys h.1)

  back : (xs ys : List Entry) → AllSay (xs ++ ys) → AllSay ys
  back [] ys h = h
  back (x ∷ xs) ys h = back xs ys h.1

  notes : (ns : List Note) → ListRejects (map (λ n. Comment n.text) ns)
  notes [] = tt
  notes (n ∷ ns) = (tt, notes ns)

  remarks : (s : Statement) → ListRejects (comments_of s)
  remarks s = notes s.comments

  in_plain : (p : PlainForm) → ItemSays (plain_item p) → ListRejects (plain_trees p)
  in_plain (a_simple s) h = (h, tt)
  in_plain a_continue h = tt
  in_plain (a_logical_if c ss) h = ((h, tt), tt)

  in_private : (p : PrivateForm) → ListRejects (comments_of_private p)
  in_private no_private = tt
  in_private (private_list s names) = remarks s

  mutual
    in_body : (b : BodyForm) → AllSay (body_entries b) → ListRejects (body_trees b)
    in_body nothing h = tt
    in_body (and_then b p) h = joined (body_trees b) (part_trees p) (in_body b (front (body_entries b) (part_entries p) h)) (in_part p (back (body_entries b) (part_entries p) h))

    in_part : (p : PartForm) → AllSay (part_entries p) → ListRejects (part_trees p)
    in_part (a_plain s p) h = joined (comments_of s) (plain_trees p) (remarks s) (in_plain p h.0.0)
    in_part (an_if s c b r) h =
        let first = in_body b (front (body_entries b) (rest_entries r) h.1) in
        let second = in_rest r (back (body_entries b) (rest_entries r) h.1) in
        let inner = joined (body_trees b) (comments_of (first_of_rest r)) first (remarks (first_of_rest r)) in
        let here : StmtTree = If c (pack_stmts (body_trees b ++ comments_of (first_of_rest r))) (pack_stmts (rest_trees r)) in
        joined (comments_of s) (here ∷ []) (remarks s) ((packed (body_trees b ++ comments_of (first_of_rest r)) inner, packed (rest_trees r) second), tt)
    in_part (a_do d) h = in_loop d h

    in_rest : (r : RestForm) → AllSay (rest_entries r) → ListRejects (rest_trees r)
    in_rest (ends_if s) h = tt
    in_rest (has_else s b e) h = joined (body_trees b) (comments_of e) (in_body b (front (body_entries b) (entry e end_if ∷ []) h.1)) (remarks e)
    in_rest (has_else_if s c b r) h =
        let first = in_body b (front (body_entries b) (rest_entries r) h.1) in
        let second = in_rest r (back (body_entries b) (rest_entries r) h.1) in
        let inner = joined (body_trees b) (comments_of (first_of_rest r)) first (remarks (first_of_rest r)) in
        ((packed (body_trees b ++ comments_of (first_of_rest r)) inner, packed (rest_trees r) second), tt)

    in_loop : (d : LoopForm) → AllSay (loop_entries d) → ListRejects (loop_trees d)
    in_loop (loop s l h p b e) k =
        let outer = front (private_entries p ++ body_entries b) (ending_entries e) k.1 in
        let body = in_body b (back (private_entries p) (body_entries b) outer) in
        let last = in_ending e (back (private_entries p ++ body_entries b) (ending_entries e) k.1) in
        let first = joined (comments_of_private p) (body_trees b) (in_private p) body in
        let all = joined (comments_of_private p ++ body_trees b) (ending_trees e) first last in
        let here : StmtTree = Do (whole_head h (names_of_private p) (rejected_names s.directives)) (pack_stmts (comments_of_private p ++ body_trees b ++ ending_trees e)) in
        joined (comments_of s) (here ∷ []) (remarks s) ((k.0.1, packed (comments_of_private p ++ body_trees b ++ ending_trees e) all), tt)

    in_ending : (e : EndingForm) → AllSay (ending_entries e) → ListRejects (ending_trees e)
    in_ending (at_plain s p) h = joined (comments_of s) (plain_trees p) (remarks s) (in_plain p h.0.0)
    in_ending (at_end_do s) h = remarks s
    in_ending (with_inner d) h = in_loop d h

  behind_remarks : (ts : List StmtTree) → ListRejects ts → ListRejects (behind_front ts)
  behind_remarks [] h = tt
  behind_remarks (Assign l r ∷ ts) h = h
  behind_remarks (If c a b ∷ ts) h = h
  behind_remarks (Do head body ∷ ts) h = h
  behind_remarks (Print items ∷ ts) h = h
  behind_remarks (Read items ∷ ts) h = h
  behind_remarks (Stop ∷ ts) h = h
  behind_remarks (Comment text ∷ ts) h = behind_remarks ts h.1

  -- declarations
  abbrev Ranked : List DeclTree → Type 0
  Ranked ds = AllByRecursion DeclRanked ds

  both_ranked : (xs ys : List DeclTree) → Ranked xs → Ranked ys → Ranked (xs ++ ys)
  both_ranked [] ys h k = k
  both_ranked (x ∷ xs) ys h k = (h.0, both_ranked xs ys h.1 k)

  notes_ranked : (ns : List Note) → Ranked (map (λ n. Remark n.text) ns)
  notes_ranked [] = tt
  notes_ranked (n ∷ ns) = (tt, notes_ranked ns)

  save_ranked : (names : List (List ℕ)) → Ranked (save_of names)
  save_ranked [] = tt
  save_ranked (x ∷ xs) = (tt, tt)

  decl_ranked : (saved : List (List ℕ)) (d : DeclForm) → EntrySays (decl_entry d) → Ranked (decl_trees saved d)
  decl_ranked saved (a_declaration s d) h = both_ranked (remarks_of s) (d ∷ []) (notes_ranked s.comments) (h.0, tt)
  decl_ranked saved (a_save_of_all s) h = both_ranked (remarks_of s) (save_of saved) (notes_ranked s.comments) (save_ranked saved)

  decls_ranked : (saved : List (List ℕ)) (ds : List DeclForm) → AllSay (map decl_entry ds) → Ranked (flat_map (decl_trees saved) ds)
  decls_ranked saved [] h = tt
  decls_ranked saved (d ∷ ds) h = both_ranked (decl_trees saved d) (flat_map (decl_trees saved) ds) (decl_ranked saved d h.0) (decls_ranked saved ds h.1)

  remarks_ranked : (ts : List StmtTree) → Ranked (front_remarks ts)
  remarks_ranked [] = tt
  remarks_ranked (Assign l r ∷ ts) = tt
  remarks_ranked (If c a b ∷ ts) = tt
  remarks_ranked (Do head body ∷ ts) = tt
  remarks_ranked (Print items ∷ ts) = tt
  remarks_ranked (Read items ∷ ts) = tt
  remarks_ranked (Stop ∷ ts) = tt
  remarks_ranked (Comment text ∷ ts) = (tt, remarks_ranked ts)

  -- the tree of a unit
  abbrev TreeSays : ProgramTree → Type 0
  TreeSays t = Ranked t.decls × AllRejectsIn t.body

  in_form : (saved : List (List ℕ)) (f : ProgramForm) → AllSay (program_entries f) → TreeSays (program_form_tree saved f)
  in_form saved f h =
      let ds = map decl_entry f.declarations in
      let last : List Entry = entry f.ending ends_program ∷ [] in
      let first = front (ds ++ body_entries f.body) last h in
      let body = joined (body_trees f.body) (comments_of f.ending) (in_body f.body (back ds (body_entries f.body) first)) (remarks f.ending) in (
        both_ranked (flat_map (decl_trees saved) f.declarations) (front_remarks (all_trees f)) (decls_ranked saved f.declarations (front ds (body_entries f.body) first)) (remarks_ranked (all_trees f)),
        packed (behind_front (all_trees f)) (behind_remarks (all_trees f) body),
      )

  -- what a text says that isn't too large
  few_bounds : (ds : List DeclaratorTree) → list_any (λ d. nat_lt most_dimensions (length d.bounds)) ds ≡ false → AllByRecursion FewBounds ds
  few_bounds [] h = tt
  few_bounds (d ∷ ds) h =
      let p = or_parts (nat_lt most_dimensions (length d.bounds)) (list_any (λ e. nat_lt most_dimensions (length e.bounds)) ds) h in
      (le-leb (length d.bounds) most_dimensions (ltb-false most_dimensions (length d.bounds) p.0), few_bounds ds p.1)

  some_bounds : (fs : List ArrayForm) → AllByRecursion FewBounds (map array_form_tree fs) → AllByRecursion SomeBounds (map array_form_tree fs)
  some_bounds [] h = tt
  some_bounds (an_array x is b bs ∷ fs) h = ((refl, h.0), some_bounds fs h.1)

  dimensions_few : (d : DeclTree) → (decl_has_large_literal d || has_eight_dimensions d) ≡ false → has_eight_dimensions d ≡ false
  dimensions_few d h = (or_parts (decl_has_large_literal d) (has_eight_dimensions d) h).1

  of_simple : (s : SimpleForm) → ItemSays (simple_item s)
  of_simple (assignment r e) = tt
  of_simple (print items) = tt
  of_simple (read items) = tt
  of_simple stop = tt
  of_simple continue = tt

  of_behind : (s : SimpleForm) → AllRejectsIn (behind_if s)
  of_behind (assignment r e) = (tt, tt)
  of_behind (print items) = (tt, tt)
  of_behind (read items) = (tt, tt)
  of_behind stop = (tt, tt)
  of_behind continue = tt

  of_form : (s : StatementForm) → is_too_large (statement_item s) ≡ false → ItemSays (statement_item s)
  of_form (program x is) h = tt
  of_form implicit h = tt
  of_form (integer d rest) h = few_bounds (map declarator_form_tree (d ∷ rest)) (dimensions_few (Integer (map declarator_form_tree (d ∷ rest))) h)
  of_form (dimension a rest) h = some_bounds (a ∷ rest) (few_bounds (map array_form_tree (a ∷ rest)) (dimensions_few (Dimension (map array_form_tree (a ∷ rest))) h))
  of_form (parameter c rest) h = tt
  of_form (save names are) h = tt
  of_form save_all h = tt
  of_form (simple s) h = of_simple s
  of_form (if_simple c s) h = of_behind s
  of_form (if_then c) h = tt
  of_form (else_if_then c) h = tt
  of_form else_alone h = tt
  of_form end_of_if h = tt
  of_form (do_loop parallel l c) h = tt
  of_form end_of_do h = tt
  of_form (private names are) h = tt
  of_form end h = tt

  of_text : (text : List ℕ) (i : Item) → ReadsItem text i → is_too_large i ≡ false → ItemSays i
  of_text text i reads h = subst ItemSays reads.2 (of_form reads.0 (ap is_too_large reads.2 ∙ h))

  not_large : (saved : List (List ℕ)) (c : Context) (rest : List Entry) (i : Item) → passes_limit saved c rest i ≡ false → is_too_large i ≡ false
  not_large saved c rest i h =
      let a = or_parts _ (is_too_long saved i) h in
      let b = or_parts _ (has_many_references c.constants _ (private_behind rest) i) a.0 in
      let d = or_parts _ (is_too_deep c.blocks i) b.0 in
      (or_parts (is_too_large i) (are_too_many c.statements i) d.0).0

  of_plain : (saved : List (List ℕ)) (c : Context) (rest : List Entry) (text : List ℕ) (r : Reading) → IsUnitItem text (plain r) → where_it_says (passes_limit saved c rest) r ≡ false → ReadingSays r
  of_plain saved c rest text (says i) is h = of_text text i is (not_large saved c rest i h)
  of_plain saved c rest text outside_profile is h = tt
  of_plain saved c rest text no_form is h = tt

  of_return : (b : Bool) → ReadingSays (if b then says continues else outside_profile)
  of_return true = tt
  of_return false = tt

  of_item : (saved : List (List ℕ)) (c : Context) (rest : List Entry) (text : List ℕ) (sub before : Bool) (i : UnitItem) → IsUnitItem text i → where_it_says (passes_limit saved c rest) (as_reading stand_in sub before i) ≡ false
      → ReadingSays (as_reading call_statement sub before i)
  of_item saved c rest text sub before (plain r) is h = of_plain saved c rest text r is h
  of_item saved c rest text sub before (calls d) is h = tt
  of_item saved c rest text sub before (calls_if e d) is h = (tt, tt)
  of_item saved c rest text sub before (begins_unit x formals) is h = tt
  of_item saved c rest text sub before returns is h = of_return (sub && before)

  -- statements with what their texts are
  abbrev AreRead : List UnitEntry → Type 0
  AreRead es = AllByRecursion (λ (e : UnitEntry). IsUnitItem e.statement.text e.item) es

  -- something holds of the names that each of them rejects
  abbrev DirectivesOf : List UnitEntry → Type 0
  DirectivesOf es = AllByRecursion (λ (e : UnitEntry). P (rejected_names e.statement.directives)) es

  of_entries : (saved : List (List ℕ)) (sub : Bool) (c : Context) (es : List UnitEntry) → AreRead es → DirectivesOf es → at_statements saved c (as_entries stand_in sub es) ≡ [] → AllSay (as_entries call_statement sub es)
  of_entries saved sub c [] texts rejects h = tt
  of_entries saved sub c (e ∷ es) texts rejects h =
      let before = is_end_next es in
      let rest = as_entries stand_in sub es in
      let seen = as_reading stand_in sub before e.item in
      let one : Entry = record { statement = e.statement; reading = seen } in
      let here = left_empty (at_statement saved c one rest) (at_statements saved (behind c one) rest) h in
      let next = right_empty (at_statement saved c one rest) (at_statements saved (behind c one) rest) h in
      let limit = none_stands (where_it_says (passes_limit saved c rest) seen) Limit e.statement.line (right_empty _ _ here) in
      ((of_item saved c rest e.statement.text sub before e.item texts.0 limit, rejects.0), of_entries saved sub (behind c one) es texts.1 rejects.1 next)

  of_unit : (all : Statements) (s : Segment) (u : ProgramUnit) → AreRead s.entries → DirectivesOf s.entries → segment_refusals all s ≡ [] → IsUnitOf s u → TreeSays u.tree
  of_unit all s u texts rejects h is =
      let seen = seen_entries s in
      let saved = saved_names seen in
      let refused = right_empty (other_refusals s) (program_refusals all seen) h in
      let said = of_entries saved (is_subroutine s.head) at_start s.entries texts rejects (left_empty (at_statements saved at_start seen) (at_end (behind_all at_start seen) all) refused) in
      subst TreeSays is.nested (in_form saved is.form (subst AllSay (sym is.written) said))

-- directives that nothing is refused for
no_directives : (ds : List Note) → flat_map (λ d. refused_if true Syntax d.line) ds ≡ [] → rejected_names ds ≡ []
unfolding refused_if
no_directives [] h = refl
no_directives (d ∷ ds) h = absurd cc

none_rejected : (es : List UnitEntry) → flat_map at_subroutine_entry es ≡ [] → AllByRecursion (λ (e : UnitEntry). AreNone (rejected_names e.statement.directives)) es
none_rejected [] h = tt
none_rejected (e ∷ es) h =
    let here = left_empty (at_subroutine_entry e) (flat_map at_subroutine_entry es) h in
    (no_directives e.statement.directives (left_empty (at_all_directives e.statement) _ (left_empty _ _ here)), none_rejected es (right_empty (at_subroutine_entry e) (flat_map at_subroutine_entry es) h))

abbrev Anything : List (List ℕ) → Type 0
Anything names = Unit {0}

any_rejected : (es : List UnitEntry) → AllByRecursion (λ (e : UnitEntry). Anything (rejected_names e.statement.directives)) es
any_rejected [] = tt
any_rejected (e ∷ es) = (tt, any_rejected es)

-- what a unit says, by its statements
record Says (s : Segment) (u : ProgramUnit) : Type 0 where
  ranked : AllByRecursion DeclRanked u.tree.decls
  rejects : is_subroutine s.head ≡ true → AllRejectsIn AreNone u.tree.body

abbrev Texts : List UnitEntry → Type 0
Texts es = AllByRecursion (λ (e : UnitEntry). IsUnitItem e.statement.text e.item) es

says_of : (all : Statements) (s : Segment) (u : ProgramUnit) → Texts s.entries → segment_refusals all s ≡ [] → IsUnitOf s u → Says s u
says_of all s u texts h is = record {
  ranked = (of_unit Anything all s u texts (any_rejected s.entries) h is).0;
  rejects = λ sub.
      let others = right_empty (flat_map at_call s.entries) (if is_subroutine s.head then at_head s.head ++ flat_map at_subroutine_entry s.entries else []) (left_empty (other_refusals s) (program_refusals all (seen_entries s)) h) in
      let inside : at_head s.head ++ flat_map at_subroutine_entry s.entries ≡ [] = (λ i. if sym sub i then at_head s.head ++ flat_map at_subroutine_entry s.entries else []) ∙ others in
      (of_unit AreNone all s u texts (none_rejected s.entries (right_empty (at_head s.head) (flat_map at_subroutine_entry s.entries) inside)) h is).1;
}

-- statements of segments
own_texts : (ended : Bool) (es : List UnitEntry) → Texts es → Texts (own_entries ended es)
own_texts ended [] h = tt
own_texts ended (e ∷ es) h = by (ended && begins e.item) (own_texts (ended || ends e.item) es h.1)
  where
    by : (b : Bool) → Texts (own_entries (ended || ends e.item) es) → Texts (if b then [] else e ∷ own_entries (ended || ends e.item) es)
    by true k = tt
    by false k = (h.0, k)

-- those after the main program are subroutines
abbrev IsFurther : Segment → Type 0
IsFurther s = Texts s.entries × (is_subroutine s.head ≡ true)

further : (ended : Bool) (es : List UnitEntry) → Texts es → AllByRecursion IsFurther (further_segments ended es)
further ended [] h = tt
further ended (e ∷ es) h = by (ended && begins e.item) (further false es h.1) (further (ended || ends e.item) es h.1)
  where
    by : (b : Bool) → AllByRecursion IsFurther (further_segments false es) → AllByRecursion IsFurther (further_segments (ended || ends e.item) es)
        → AllByRecursion IsFurther (if b then record { head = Some e; entries = own_entries false es } ∷ further_segments false es else further_segments (ended || ends e.item) es)
    by true k l = ((own_texts false es h.1, refl), k)
    by false k l = l

are_texts : (ss : List Statement) (es : List UnitEntry) → AreUnitEntries ss es → Texts es
are_texts [] [] h = tt
are_texts [] (e ∷ es) h = absurd h
are_texts (s ∷ ss) [] h = absurd h
are_texts (s ∷ ss) (e ∷ es) h = (subst (λ (t : Statement). IsUnitItem t.text e.item) (sym h.0) h.1, are_texts ss es h.2)

-- what is known of a subroutine
abbrev OfSubroutine : ProgramUnit → Type 0
OfSubroutine u = AllByRecursion DeclRanked u.tree.decls × AllRejectsIn AreNone u.tree.body

subroutines : (all : Statements) (ss : List Segment) (us : List ProgramUnit) → AllByRecursion IsFurther ss → segments_refusals all ss ≡ [] → AreUnitsOf ss us → (u : ProgramUnit) → IsIn u us → OfSubroutine u
subroutines all [] [] f h are u is = absurd is
subroutines all [] (v ∷ us) f h are u is = absurd are
subroutines all (s ∷ ss) [] f h are u is = absurd are
subroutines all (s ∷ []) (v ∷ us) f h are u (inl e) = let k = says_of all s v f.0.0 h are.0 in subst OfSubroutine (sym e) (k.ranked, k.rejects f.0.1)
subroutines all (s ∷ []) (v ∷ us) f h are u (inr is) = subroutines all [] us tt refl are.1 u is
subroutines all (s ∷ t ∷ ss) (v ∷ us) f h are u (inl e) =
    let k = says_of (before_another all) s v f.0.0 (left_empty (segment_refusals (before_another all) s) (segments_refusals all (t ∷ ss)) h) are.0 in
    subst OfSubroutine (sym e) (k.ranked, k.rejects f.0.1)
subroutines all (s ∷ t ∷ ss) (v ∷ us) f h are u (inr is) = subroutines all (t ∷ ss) us f.1 (right_empty (segment_refusals (before_another all) s) (segments_refusals all (t ∷ ss)) h) are.1 u is

main_says : (all : Statements) (s : Segment) (ss : List Segment) (u : ProgramUnit) → Texts s.entries → segments_refusals all (s ∷ ss) ≡ [] → IsUnitOf s u → Says s u
main_says all s [] u texts h is = says_of all s u texts h is
main_says all s (t ∷ ss) u texts h is = says_of (before_another all) s u texts (left_empty (segment_refusals (before_another all) s) (segments_refusals all (t ∷ ss)) h) is

rest_refusals : (all : Statements) (s : Segment) (ss : List Segment) → segments_refusals all (s ∷ ss) ≡ [] → segments_refusals all ss ≡ []
rest_refusals all s [] h = refl
rest_refusals all s (t ∷ ss) h = right_empty (segment_refusals (before_another all) s) (segments_refusals all (t ∷ ss)) h

-- what is known of the units that a text reads as
pub record UnitsSay (us : ProgramUnits) : Type 0 where
  pub ranked : (u : ProgramUnit) → IsIn u (all_units us) → AllByRecursion DeclRanked u.tree.decls
  pub rejects : (u : ProgramUnit) → IsIn u us.others → AllRejectsIn AreNone u.tree.body

pub units_say : (text : List ℕ) (us : ProgramUnits) → ReadsUnits text us → UnitsSay us
units_say text us r = record { ranked = ranked; rejects = λ u is. (others u is).1 }
  where
    all : Statements
    all = statements_of text

    main : Segment
    main = record { head = None; entries = own_entries false r.entries }

    texts : Texts r.entries
    texts = are_texts all.statements r.entries r.cut.items

    none : segments_refusals all (segments_of r.entries) ≡ []
    none = first_none (segments_refusals all (segments_of r.entries)) r.accepted

    others : (u : ProgramUnit) → IsIn u us.others → OfSubroutine u
    others u is = subroutines all (further_segments false r.entries) us.others (further false r.entries texts) (rest_refusals all main (further_segments false r.entries) none) r.are.1 u is

    ranked : (u : ProgramUnit) → IsIn u (all_units us) → AllByRecursion DeclRanked u.tree.decls
    ranked u (inl e) = subst (λ (v : ProgramUnit). AllByRecursion DeclRanked v.tree.decls) (sym e) (main_says all main (further_segments false r.entries) us.main (own_texts false r.entries texts) none r.are.0).ranked
    ranked u (inr is) = (others u is).0
