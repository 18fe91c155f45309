-- A program has the CALLs of its statements.
use Rattle.std.proofs.Common.{◌≡◌, ◌+◌, ℕ, List, [], ◌∷◌, ◌++◌, map, refl, ap, arith}
use Rattle.ped_tree.specs.Tree.{StmtTree, Assign, If, Do, Print, Read, Stop, Comment}
use Rattle.ped_tree.specs.Views.{pack_stmts}
use Rattle.ped_tree.specs.Grammar.Statement.{Note, Statement}
use Rattle.ped_tree.specs.Grammar.Items.{Item, does, logical_if, end_if, ends_program, Reading, says, Entry}
use Rattle.ped_tree.specs.Grammar.Occurrences.{rejected_names}
use Rattle.ped_tree.specs.Grammar.BlockForms.{PlainForm, a_simple, a_continue, a_logical_if, PrivateForm, no_private, private_list, BodyForm, nothing, and_then, PartForm, a_plain, an_if, a_do, RestForm, ends_if, has_else, has_else_if, LoopForm, loop, EndingForm, at_plain, at_end_do, with_inner, plain_item, entry, private_entries, body_entries, part_entries, rest_entries, loop_entries, ending_entries, comments_of, plain_trees, comments_of_private, names_of_private, first_of_rest, whole_head, body_trees, part_trees, rest_trees, loop_trees, ending_trees}
use Rattle.ped_tree.specs.Grammar.ProgramForms.{DeclForm, a_declaration, a_save_of_all, ProgramForm, decl_entry, program_entries, behind_front, all_trees, program_form_tree}
use Rattle.ped_links.specs.ped_units.specs.Verdicts.{call_count, calls_count}

-- the CALLs of what a statement says
abbrev pub item_calls : Item → ℕ
item_calls (does s) = call_count s
item_calls (logical_if c ss) = calls_count ss
item_calls i = 0

-- the same of a reading
abbrev pub reading_calls : Reading → ℕ
reading_calls (says i) = item_calls i
reading_calls r = 0

-- the CALLs of statements
abbrev pub entries_calls : List Entry → ℕ
entries_calls [] = 0
entries_calls (e ∷ es) = reading_calls e.reading + entries_calls es

-- the CALLs of trees
abbrev pub trees_calls : List StmtTree → ℕ
trees_calls [] = 0
trees_calls (s ∷ ss) = call_count s + trees_calls ss

pub packed_calls : (ss : List StmtTree) → calls_count (pack_stmts ss) ≡ trees_calls ss
packed_calls [] = refl
packed_calls (s ∷ ss) = ap (λ (n : ℕ). call_count s + n) (packed_calls ss)

trees_both : (xs ys : List StmtTree) → trees_calls (xs ++ ys) ≡ trees_calls xs + trees_calls ys
trees_both [] ys = omega arith
trees_both (x ∷ xs) ys = let more = trees_both xs ys in omega (arith, more)

entries_both : (xs ys : List Entry) → entries_calls (xs ++ ys) ≡ entries_calls xs + entries_calls ys
entries_both [] ys = omega arith
entries_both (x ∷ xs) ys = let more = entries_both xs ys in omega (arith, more)

notes_none : (ns : List Note) → trees_calls (map (λ n. Comment n.text) ns) ≡ 0
notes_none [] = refl
notes_none (n ∷ ns) = let more = notes_none ns in omega (arith, more)

comments_none : (s : Statement) → trees_calls (comments_of s) ≡ 0
comments_none s = notes_none s.comments

private_none : (p : PrivateForm) → trees_calls (comments_of_private p) ≡ entries_calls (private_entries p)
private_none no_private = refl
private_none (private_list s names) = let none = comments_none s in omega (arith, none)

plain_calls : (s : Statement) (p : PlainForm) → trees_calls (comments_of s ++ plain_trees p) ≡ entries_calls (entry s (plain_item p) ∷ [])
plain_calls s (a_simple t) = let both = trees_both (comments_of s) (t ∷ []) in let none = comments_none s in omega (arith, both, none)
plain_calls s a_continue = let both = trees_both (comments_of s) [] in let none = comments_none s in omega (arith, both, none)
plain_calls s (a_logical_if c ss) = let both = trees_both (comments_of s) (plain_trees (a_logical_if c ss)) in let none = comments_none s in omega (arith, both, none)

mutual
  pub body_calls : (b : BodyForm) → trees_calls (body_trees b) ≡ entries_calls (body_entries b)
  body_calls nothing = refl
  body_calls (and_then b p) =
      let one = body_calls b in
      let two = part_calls p in
      let trees = trees_both (body_trees b) (part_trees p) in
      let entries = entries_both (body_entries b) (part_entries p) in
      omega (arith, one, two, trees, entries)

  pub part_calls : (p : PartForm) → trees_calls (part_trees p) ≡ entries_calls (part_entries p)
  part_calls (a_plain s p) = plain_calls s p
  part_calls (an_if s c b r) =
      let one = body_calls b in
      let two = rest_calls r in
      let none = comments_none s in
      let last = comments_none (first_of_rest r) in
      let outer = trees_both (comments_of s) (If c (pack_stmts (body_trees b ++ comments_of (first_of_rest r))) (pack_stmts (rest_trees r)) ∷ []) in
      let first = packed_calls (body_trees b ++ comments_of (first_of_rest r)) in
      let inner = trees_both (body_trees b) (comments_of (first_of_rest r)) in
      let second = packed_calls (rest_trees r) in
      let entries = entries_both (body_entries b) (rest_entries r) in
      omega (arith, one, two, none, last, outer, first, inner, second, entries)
  part_calls (a_do d) = loop_calls d

  pub rest_calls : (r : RestForm) → trees_calls (rest_trees r) ≡ entries_calls (rest_entries r)
  rest_calls (ends_if s) = refl
  rest_calls (has_else s b e) =
      let one = body_calls b in
      let none = comments_none e in
      let trees = trees_both (body_trees b) (comments_of e) in
      let entries = entries_both (body_entries b) (entry e end_if ∷ []) in
      omega (arith, one, none, trees, entries)
  rest_calls (has_else_if s c b r) =
      let one = body_calls b in
      let two = rest_calls r in
      let last = comments_none (first_of_rest r) in
      let first = packed_calls (body_trees b ++ comments_of (first_of_rest r)) in
      let inner = trees_both (body_trees b) (comments_of (first_of_rest r)) in
      let second = packed_calls (rest_trees r) in
      let entries = entries_both (body_entries b) (rest_entries r) in
      omega (arith, one, two, last, first, inner, second, entries)

  pub loop_calls : (d : LoopForm) → trees_calls (loop_trees d) ≡ entries_calls (loop_entries d)
  loop_calls (loop s l h p b e) =
      let none = comments_none s in
      let own = private_none p in
      let one = body_calls b in
      let two = ending_calls e in
      let outer = trees_both (comments_of s) (Do (whole_head h (names_of_private p) (rejected_names s.directives)) (pack_stmts (comments_of_private p ++ body_trees b ++ ending_trees e)) ∷ []) in
      let packed = packed_calls (comments_of_private p ++ body_trees b ++ ending_trees e) in
      let trees = trees_both (comments_of_private p ++ body_trees b) (ending_trees e) in
      let front = trees_both (comments_of_private p) (body_trees b) in
      let entries = entries_both (private_entries p ++ body_entries b) (ending_entries e) in
      let begun = entries_both (private_entries p) (body_entries b) in
      omega (arith, none, own, one, two, outer, packed, trees, front, entries, begun)

  pub ending_calls : (e : EndingForm) → trees_calls (ending_trees e) ≡ entries_calls (ending_entries e)
  ending_calls (at_plain s p) = plain_calls s p
  ending_calls (at_end_do s) = let none = comments_none s in omega (arith, none)
  ending_calls (with_inner d) = loop_calls d

front_calls : (ts : List StmtTree) → trees_calls (behind_front ts) ≡ trees_calls ts
front_calls [] = refl
front_calls (Assign l r ∷ ts) = refl
front_calls (If c a b ∷ ts) = refl
front_calls (Do h body ∷ ts) = refl
front_calls (Print items ∷ ts) = refl
front_calls (Read items ∷ ts) = refl
front_calls (Stop ∷ ts) = refl
front_calls (Comment text ∷ ts) = let more = front_calls ts in omega (arith, more)

decls_none : (ds : List DeclForm) → entries_calls (map decl_entry ds) ≡ 0
decls_none [] = refl
decls_none (a_declaration s d ∷ ds) = let more = decls_none ds in omega (arith, more)
decls_none (a_save_of_all s ∷ ds) = let more = decls_none ds in omega (arith, more)

-- a program has as many CALLs as its statements
pub form_calls : (saved : List (List ℕ)) (f : ProgramForm) → calls_count (program_form_tree saved f).body ≡ entries_calls (program_entries f)
form_calls saved f =
    let packed = packed_calls (behind_front (all_trees f)) in
    let front = front_calls (all_trees f) in
    let trees = trees_both (body_trees f.body) (comments_of f.ending) in
    let last = comments_none f.ending in
    let body = body_calls f.body in
    let entries = entries_both (map decl_entry f.declarations ++ body_entries f.body) (entry f.ending ends_program ∷ []) in
    let first = entries_both (map decl_entry f.declarations) (body_entries f.body) in
    let none = decls_none f.declarations in
    omega (arith, packed, front, trees, last, body, entries, first, none)
