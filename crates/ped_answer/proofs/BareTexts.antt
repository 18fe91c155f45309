-- A text without a comment line, in which no statement begins with P, reads as a program without comments, PARALLEL DO loops and C$PED REJECT lines.
use Rattle.std.proofs.Common.{◌≡◌, ◌∙◌, refl, sym, ap, subst, ℕ, ◌+◌, Bool, true, false, List, [], ◌∷◌, ◌++◌, map}
use Rattle.std.specs.Prelude.{⊤, ◌==◌, if◌then◌else◌}
use Rattle.std.specs.List.{AllByRecursion}
use Rattle.std.specs.Str.Lines.{lines}
use Rattle.std.proofs.lemmas.Bool.{both_ways}
use Rattle.ped_tree.specs.Tree.{Head, StmtTree, StmtTrees, Assign, If, Do, Print, Read, Stop, Comment, no_stmts, more_stmts, ProgramTree}
use Rattle.ped_tree.specs.Views.{pack_stmts}
use Rattle.ped_tree.specs.Grammar.Characters.{text_of}
use Rattle.ped_tree.specs.Grammar.Columns.{is_comment, is_continuation, statement_columns}
use Rattle.ped_tree.specs.Grammar.Statement.{Note, Statement}
use Rattle.ped_tree.specs.Grammar.Grouping.{further_lines, joined_columns, comment_at, directive_at, notes_within, statement_at, statements_from, statements_of}
use Rattle.ped_tree.specs.Grammar.Items.{Item, does, logical_if, end_if, begins_do, ends_program, Reading, says, outside_profile, no_form, Entry}
use Rattle.ped_tree.specs.Grammar.StatementForms.{SimpleForm, assignment, print, read, stop, continue, LabelForm, ControlForm, control, StatementForm, program, implicit, integer, dimension, parameter, save, save_all, simple, if_simple, if_then, else_if_then, else_alone, end_of_if, do_loop, end_of_do, private, end, simple_item, behind_if, statement_form_text, statement_item}
use Rattle.ped_tree.specs.Grammar.BlockForms.{PlainForm, a_simple, a_continue, a_logical_if, PrivateForm, no_private, private_list, BodyForm, nothing, and_then, PartForm, a_plain, an_if, a_do, RestForm, ends_if, has_else, has_else_if, LoopForm, loop, EndingForm, at_plain, at_end_do, with_inner, entry, plain_item, private_entries, body_entries, part_entries, rest_entries, loop_entries, ending_entries, comments_of, plain_trees, names_of_private, comments_of_private, first_of_rest, whole_head, body_trees, part_trees, rest_trees, loop_trees, ending_trees}
use Rattle.ped_tree.specs.Grammar.ProgramForms.{ProgramForm, decl_entry, program_entries, behind_front, all_trees}
use Rattle.ped_tree.specs.Grammar.Occurrences.{rejected_names}
use Rattle.ped_tree.specs.Grammar.Reading.{IsReading, AreEntries, Reads}

-- the DO is no PARALLEL DO, and no C$PED REJECT line stands before it
pub record IsBareHead (h : Head) : Type 0 where
  pub in_order : h.parallel ≡ false
  pub unrejected : h.rejected ≡ []

-- no comment stands in the statement, and each DO of it is bare
abbrev mutual
  pub IsBare : StmtTree → Type 0
  IsBare (Assign left right) = ⊤
  IsBare (If condition a b) = AreBare a × AreBare b
  IsBare (Do h body) = IsBareHead h × AreBare body
  IsBare (Print items) = ⊤
  IsBare (Read items) = ⊤
  IsBare Stop = ⊤
  IsBare (Comment text) = ⊥

  pub AreBare : StmtTrees → Type 0
  AreBare no_stmts = ⊤
  AreBare (more_stmts s rest) = IsBare s × AreBare rest

abbrev AllBare : List StmtTree → Type 0
AllBare = AllByRecursion IsBare

packed : (ss : List StmtTree) → AllBare ss → AreBare (pack_stmts ss)
packed [] all = tt
packed (s ∷ ss) all = (all.0, packed ss all.1)

-- lists in two parts
module _ {X : Type 0} (P : X → Type 0) where
  pub joined : (xs ys : List X) → AllByRecursion P xs → AllByRecursion P ys → AllByRecursion P (xs ++ ys)
  joined [] ys p q = q
  joined (x ∷ xs) ys p q = (p.0, joined xs ys p.1 q)

  front : (xs ys : List X) → AllByRecursion P (xs ++ ys) → AllByRecursion P xs
  front [] ys all = tt
  front (x ∷ xs) ys all = (all.0, front xs ys all.1)

  pub behind : (xs ys : List X) → AllByRecursion P (xs ++ ys) → AllByRecursion P ys
  behind [] ys all = all
  behind (x ∷ xs) ys all = behind xs ys all.1

-- the first character is P
abbrev pub begins_with_p : List ℕ → Bool
begins_with_p [] = false
begins_with_p (c ∷ cs) = c == 80

-- the line is no comment, and no statement that begins on it begins with P
pub record IsBareLine (line : List ℕ) : Type 0 where
  pub uncommented : is_comment line ≡ false
  pub no_p : (more : List ℕ) → begins_with_p (text_of (statement_columns line ++ more)) ≡ false

-- no comment and no directive comes before the statement or stands in it, and it doesn't begin with P
record IsBareStatement (s : Statement) : Type 0 where
  uncommented : s.comments ≡ []
  undirected : s.directives ≡ []
  no_p : begins_with_p s.text ≡ false

-- among such lines all statements are so

chosen : {X : Type 0} (P : X → Type 0) (a b : Bool) (x y z : X) → a ≡ false → P y → P z → P (if a then x else if b then y else z)
chosen P true b x y z h p q = absurd cc
chosen P false true x y z h p q = p
chosen P false false x y z h p q = q

none_within : (at : ℕ → List ℕ → List Note) (n : ℕ) (ls : List (List ℕ)) → AllByRecursion IsBareLine ls → notes_within at [] n ls ≡ []
none_within at n [] all = refl
none_within at n (l ∷ ls) all =
    chosen (λ (notes : List Note). notes ≡ []) (is_comment l) (is_continuation l) (notes_within at ([] ++ at n l) (n + 1) ls) ([] ++ notes_within at [] (n + 1) ls) []
    all.0.uncommented (none_within at (n + 1) ls all.1) refl

bare_statement : (n : ℕ) (l : List ℕ) (ls : List (List ℕ)) → IsBareLine l → AllByRecursion IsBareLine ls → IsBareStatement (statement_at [] [] n l ls)
unfolding statement_at
bare_statement n l ls line all = record {
  uncommented = none_within comment_at (n + 1) ls all;
  undirected = none_within directive_at (n + 1) ls all;
  no_p = line.no_p (joined_columns (further_lines (n + 1) ls));
}

bare_statements : (n : ℕ) (ls : List (List ℕ)) → AllByRecursion IsBareLine ls → AllByRecursion IsBareStatement (statements_from [] [] n ls)
bare_statements n [] all = tt
bare_statements n (l ∷ ls) all =
    chosen (AllByRecursion IsBareStatement) (is_comment l) (is_continuation l) (statements_from ([] ++ comment_at n l) ([] ++ directive_at n l) (n + 1) ls)
    (statements_from [] [] (n + 1) ls) (statement_at [] [] n l ls ∷ statements_from [] [] (n + 1) ls)
    all.0.uncommented (bare_statements (n + 1) ls all.1) (bare_statement n l ls all.0 all.1, bare_statements (n + 1) ls all.1)

-- what a statement says that doesn't begin with P is no comment and no PARALLEL DO

abbrev IsBareItem : Item → Type 0
IsBareItem (does s) = IsBare s
IsBareItem (logical_if condition ss) = AreBare ss
IsBareItem (begins_do label h) = h.parallel ≡ false
IsBareItem i = ⊤

simple_bare : (f : SimpleForm) → IsBareItem (simple_item f)
simple_bare (assignment r e) = tt
simple_bare (print items) = tt
simple_bare (read items) = tt
simple_bare stop = tt
simple_bare continue = tt

behind_bare : (f : SimpleForm) → AreBare (behind_if f)
behind_bare (assignment r e) = (tt, tt)
behind_bare (print items) = (tt, tt)
behind_bare (read items) = (tt, tt)
behind_bare stop = (tt, tt)
behind_bare continue = tt

do_bare : (parallel : Bool) (l : LabelForm) (c : ControlForm) → begins_with_p (statement_form_text (do_loop parallel l c)) ≡ false → IsBareItem (statement_item (do_loop parallel l c))
do_bare true l c no_p = absurd (both_ways true no_p refl)
do_bare false l (control x is begin limit step) no_p = refl

form_bare : (f : StatementForm) → begins_with_p (statement_form_text f) ≡ false → IsBareItem (statement_item f)
form_bare (program x is) no_p = tt
form_bare implicit no_p = tt
form_bare (integer d rest) no_p = tt
form_bare (dimension a rest) no_p = tt
form_bare (parameter c rest) no_p = tt
form_bare (save names are) no_p = tt
form_bare save_all no_p = tt
form_bare (simple f) no_p = simple_bare f
form_bare (if_simple c f) no_p = behind_bare f
form_bare (if_then c) no_p = tt
form_bare (else_if_then c) no_p = tt
form_bare else_alone no_p = tt
form_bare end_of_if no_p = tt
form_bare (do_loop parallel l c) no_p = do_bare parallel l c no_p
form_bare end_of_do no_p = tt
form_bare (private names are) no_p = tt
form_bare end no_p = tt

abbrev IsBareReading : Reading → Type 0
IsBareReading (says i) = IsBareItem i
IsBareReading outside_profile = ⊤
IsBareReading no_form = ⊤

reading_bare : (text : List ℕ) (r : Reading) → IsReading text r → begins_with_p text ≡ false → IsBareReading r
reading_bare text (says i) is no_p = subst IsBareItem is.2 (form_bare is.0 (ap begins_with_p is.1 ∙ no_p))
reading_bare text outside_profile is no_p = tt
reading_bare text no_form is no_p = tt

record IsBareEntry (e : Entry) : Type 0 where
  begin : IsBareStatement e.statement
  bare : IsBareReading e.reading

bare_entries : (ss : List Statement) (es : List Entry) → AllByRecursion IsBareStatement ss → AreEntries ss es → AllByRecursion IsBareEntry es
bare_entries [] [] begin are = tt
bare_entries [] (e ∷ es) begin are = absurd are
bare_entries (s ∷ ss) [] begin are = absurd are
bare_entries (s ∷ ss) (e ∷ es) begin are =
    (record { begin = subst IsBareStatement (sym are.0) begin.0; bare = reading_bare s.text e.reading are.1 begin.0.no_p }, bare_entries ss es begin.1 are.2)

-- so what the statements nest to is bare

abbrev HasNone : Statement → Type 0
HasNone s = s.comments ≡ []

noted : (s : Statement) (ss : List StmtTree) → HasNone s → AllBare ss → AllBare (comments_of s ++ ss)
noted s ss none all = subst (λ (notes : List Note). AllBare (map (λ n. Comment n.text) notes ++ ss)) (sym none) all

alone : (s : Statement) → HasNone s → AllBare (comments_of s)
alone s none = subst (λ (notes : List Note). AllBare (map (λ n. Comment n.text) notes)) (sym none) tt

plain_bare : (p : PlainForm) → IsBareItem (plain_item p) → AllBare (plain_trees p)
plain_bare (a_simple s) bare = (bare, tt)
plain_bare a_continue bare = tt
plain_bare (a_logical_if c ss) bare = ((bare, tt), tt)

private_bare : (p : PrivateForm) → AllByRecursion IsBareEntry (private_entries p) → AllBare (comments_of_private p)
private_bare no_private all = tt
private_bare (private_list s names) all = alone s all.0.begin.uncommented

rest_first : (r : RestForm) → AllByRecursion IsBareEntry (rest_entries r) → HasNone (first_of_rest r)
rest_first (ends_if s) all = all.0.begin.uncommented
rest_first (has_else s b e) all = all.0.begin.uncommented
rest_first (has_else_if s c b r) all = all.0.begin.uncommented

mutual
  body_bare : (b : BodyForm) → AllByRecursion IsBareEntry (body_entries b) → AllBare (body_trees b)
  body_bare nothing all = tt
  body_bare (and_then b p) all =
      joined IsBare (body_trees b) (part_trees p) (body_bare b (front IsBareEntry (body_entries b) (part_entries p) all)) (part_bare p (behind IsBareEntry (body_entries b) (part_entries p) all))

  part_bare : (p : PartForm) → AllByRecursion IsBareEntry (part_entries p) → AllBare (part_trees p)
  part_bare (a_plain s p) all = noted s (plain_trees p) all.0.begin.uncommented (plain_bare p all.0.bare)
  part_bare (an_if s c b r) all =
      let here = front IsBareEntry (body_entries b) (rest_entries r) all.1 in
      let rest = behind IsBareEntry (body_entries b) (rest_entries r) all.1 in
      let then_part = body_trees b ++ comments_of (first_of_rest r) in
      noted s (If c (pack_stmts then_part) (pack_stmts (rest_trees r)) ∷ []) all.0.begin.uncommented
      ((packed then_part (joined IsBare (body_trees b) (comments_of (first_of_rest r)) (body_bare b here) (alone (first_of_rest r) (rest_first r rest))), packed (rest_trees r) (rest_bare r rest)), tt)
  part_bare (a_do d) all = loop_bare d all

  rest_bare : (r : RestForm) → AllByRecursion IsBareEntry (rest_entries r) → AllBare (rest_trees r)
  rest_bare (ends_if s) all = tt
  rest_bare (has_else s b e) all =
      joined IsBare (body_trees b) (comments_of e) (body_bare b (front IsBareEntry (body_entries b) (entry e end_if ∷ []) all.1)) (alone e (behind IsBareEntry (body_entries b) (entry e end_if ∷ []) all.1).0.begin.uncommented)
  rest_bare (has_else_if s c b r) all =
      let here = front IsBareEntry (body_entries b) (rest_entries r) all.1 in
      let rest = behind IsBareEntry (body_entries b) (rest_entries r) all.1 in
      ((packed (body_trees b ++ comments_of (first_of_rest r)) (joined IsBare (body_trees b) (comments_of (first_of_rest r)) (body_bare b here) (alone (first_of_rest r) (rest_first r rest))), packed (rest_trees r) (rest_bare r rest)), tt)

  loop_bare : (d : LoopForm) → AllByRecursion IsBareEntry (loop_entries d) → AllBare (loop_trees d)
  loop_bare (loop s l h p b e) all =
      let more = front IsBareEntry (private_entries p ++ body_entries b) (ending_entries e) all.1 in
      let last = behind IsBareEntry (private_entries p ++ body_entries b) (ending_entries e) all.1 in
      let first = front IsBareEntry (private_entries p) (body_entries b) more in
      let here = behind IsBareEntry (private_entries p) (body_entries b) more in
      let begin = comments_of_private p ++ body_trees b in
      let bare : IsBareHead (whole_head h (names_of_private p) (rejected_names s.directives)) = record { in_order = all.0.bare; unrejected = ap rejected_names all.0.begin.undirected } in
      noted s (Do (whole_head h (names_of_private p) (rejected_names s.directives)) (pack_stmts (begin ++ ending_trees e)) ∷ []) all.0.begin.uncommented
      ((bare, packed (begin ++ ending_trees e) (joined IsBare begin (ending_trees e) (joined IsBare (comments_of_private p) (body_trees b) (private_bare p first) (body_bare b here)) (ending_bare e last))), tt)

  ending_bare : (e : EndingForm) → AllByRecursion IsBareEntry (ending_entries e) → AllBare (ending_trees e)
  ending_bare (at_plain s p) all = noted s (plain_trees p) all.0.begin.uncommented (plain_bare p all.0.bare)
  ending_bare (at_end_do s) all = alone s all.0.begin.uncommented
  ending_bare (with_inner d) all = loop_bare d all

behind_front_bare : (ss : List StmtTree) → AllBare ss → AllBare (behind_front ss)
behind_front_bare [] all = tt
behind_front_bare (Comment text ∷ rest) all = absurd all.0
behind_front_bare (Assign left right ∷ rest) all = all
behind_front_bare (If condition a b ∷ rest) all = all
behind_front_bare (Do h body ∷ rest) all = all
behind_front_bare (Print items ∷ rest) all = all
behind_front_bare (Read items ∷ rest) all = all
behind_front_bare (Stop ∷ rest) all = all

form_all : (f : ProgramForm) → AllByRecursion IsBareEntry (program_entries f) → AllBare (all_trees f)
form_all f all =
    let last = entry f.ending ends_program ∷ [] in
    let before = map decl_entry f.declarations ++ body_entries f.body in
    let here = behind IsBareEntry (map decl_entry f.declarations) (body_entries f.body) (front IsBareEntry before last all) in
    joined IsBare (body_trees f.body) (comments_of f.ending) (body_bare f.body here) (alone f.ending (behind IsBareEntry before last all).0.begin.uncommented)

-- a text of such lines reads as a bare program
pub bare_program : (text : List ℕ) (t : ProgramTree) → AllByRecursion IsBareLine (lines text) → Reads text t → AreBare t.body
bare_program text t all reads =
    let entries = bare_entries (statements_of text).statements reads.entries (bare_statements 1 (lines text) all) reads.cut.readings in
    let form = form_all reads.form (subst (AllByRecursion IsBareEntry) (sym reads.written) entries) in
    subst (λ (u : ProgramTree). AreBare u.body) reads.nested (packed (behind_front (all_trees reads.form)) (behind_front_bare (all_trees reads.form) form))
