-- What is nested from short statements has few references, for each numbered statement; and as many numbered statements as these.
use Rattle.std.proofs.Common.{◌≡◌, ℕ, ◌+◌, ◌≤◌, List, [], ◌∷◌, ◌++◌, map, length, refl, subst, arith}
use Rattle.std.specs.List.{AllByRecursion}
use Rattle.ped_tree.specs.Tree.{StmtTree, StmtTrees, If, Do, Comment, no_stmts}
use Rattle.ped_tree.specs.Views.{pack_stmts}
use Rattle.ped_tree.specs.Numbering.{statements_count}
use Rattle.ped_tree.specs.Printing.{do_text, private_text, own_text}
use Rattle.ped_tree.specs.Grammar.Statement.{Note, Statement}
use Rattle.ped_tree.specs.Grammar.Items.{Item, does, logical_if, block_if, else_if, end_if, begins_do, keeps_private, Reading, says, Entry}
use Rattle.ped_tree.specs.Grammar.Contexts.{numbered_in}
use Rattle.ped_tree.specs.Grammar.ProgramRefusals.{listed_stmts}
use Rattle.ped_tree.specs.Grammar.Occurrences.{rejected_names}
use Rattle.ped_tree.specs.Grammar.BlockForms.{PlainForm, a_simple, a_continue, a_logical_if, PrivateForm, no_private, private_list, BodyForm, nothing, and_then, PartForm, a_plain, an_if, a_do, RestForm, ends_if, has_else, has_else_if, LoopForm, loop, EndingForm, at_plain, at_end_do, with_inner, plain_item, entry, private_entries, body_entries, part_entries, rest_entries, loop_entries, ending_entries, comments_of, plain_trees, names_of_private, comments_of_private, first_of_rest, whole_head, body_trees, part_trees, rest_trees, loop_trees, ending_trees}
use Rattle.ped_links.specs.ped_units.specs.Forms.{Called}
use Rattle.ped_calls.proofs.BoundedStatements.{IsBounded, AreBounded, joined, if_bounded, do_bounded, packed_listed}

-- what a statement says is short, where these stand for CALLs
abbrev pub IsShort : (Called → StmtTree) → Item → Type 0
IsShort f (does s) = IsBounded f s
IsShort f (logical_if e s) = (length (own_text (If e no_stmts no_stmts)) ≤ 1300) × AreBounded f (listed_stmts s)
IsShort f (block_if e) = length (own_text (If e no_stmts no_stmts)) ≤ 1300
IsShort f (else_if e) = length (own_text (If e no_stmts no_stmts)) ≤ 1300
IsShort f (begins_do l h) = length (do_text h) ≤ 1300
IsShort f (keeps_private names) = length (private_text names) ≤ 1300
IsShort f i = Unit {0}

-- the same of a reading
abbrev pub IsShortReading : (Called → StmtTree) → Reading → Type 0
IsShortReading f (says i) = IsShort f i
IsShortReading f r = Unit {0}

-- the same of statements
abbrev pub AreShort : (Called → StmtTree) → List Entry → Type 0
AreShort f es = AllByRecursion (λ (e : Entry). IsShortReading f e.reading) es

pub front_short : (f : Called → StmtTree) (xs ys : List Entry) → AreShort f (xs ++ ys) → AreShort f xs
front_short f [] ys h = tt
front_short f (x ∷ xs) ys h = (h.0, front_short f xs ys h.1)

pub back_short : (f : Called → StmtTree) (xs ys : List Entry) → AreShort f (xs ++ ys) → AreShort f ys
back_short f [] ys h = h
back_short f (x ∷ xs) ys h = back_short f xs ys h.1

pub notes_bounded : (f : Called → StmtTree) (ns : List Note) → AreBounded f (map (λ n. Comment n.text) ns)
notes_bounded f [] = tt
notes_bounded f (n ∷ ns) = ((λ k nest m. omega arith), notes_bounded f ns)

remarks : (f : Called → StmtTree) (s : Statement) → AreBounded f (comments_of s)
remarks f s = notes_bounded f s.comments

plain_bounded : (f : Called → StmtTree) (p : PlainForm) → IsShort f (plain_item p) → AreBounded f (plain_trees p)
plain_bounded f (a_simple s) h = (h, tt)
plain_bounded f a_continue h = tt
plain_bounded f (a_logical_if c s) h = (subst (λ (t : StmtTrees). IsBounded f (If c t no_stmts)) (packed_listed s) (if_bounded f c (listed_stmts s) [] h.0 h.1 tt), tt)

private_short : (f : Called → StmtTree) (p : PrivateForm) → AreShort f (private_entries p) → length (private_text (names_of_private p)) ≤ 1300
private_short f no_private h = omega arith
private_short f (private_list s names) h = h.0

private_bounded : (f : Called → StmtTree) (p : PrivateForm) → AreBounded f (comments_of_private p)
private_bounded f no_private = tt
private_bounded f (private_list s names) = remarks f s

mutual
  pub body_bounded : (f : Called → StmtTree) (b : BodyForm) → AreShort f (body_entries b) → AreBounded f (body_trees b)
  body_bounded f nothing h = tt
  body_bounded f (and_then b p) h =
      joined f (body_trees b) (part_trees p) (body_bounded f b (front_short f (body_entries b) (part_entries p) h)) (part_bounded f p (back_short f (body_entries b) (part_entries p) h))

  part_bounded : (f : Called → StmtTree) (p : PartForm) → AreShort f (part_entries p) → AreBounded f (part_trees p)
  part_bounded f (a_plain s p) h = joined f (comments_of s) (plain_trees p) (remarks f s) (plain_bounded f p h.0)
  part_bounded f (an_if s c b r) h =
      let front = body_bounded f b (front_short f (body_entries b) (rest_entries r) h.1) in
      let back = rest_bounded f r (back_short f (body_entries b) (rest_entries r) h.1) in
      let inner = joined f (body_trees b) (comments_of (first_of_rest r)) front (remarks f (first_of_rest r)) in
      let here : StmtTree = If c (pack_stmts (body_trees b ++ comments_of (first_of_rest r))) (pack_stmts (rest_trees r)) in
      joined f (comments_of s) (here ∷ []) (remarks f s) (if_bounded f c (body_trees b ++ comments_of (first_of_rest r)) (rest_trees r) h.0 inner back, tt)
  part_bounded f (a_do d) h = loop_bounded f d h

  rest_bounded : (f : Called → StmtTree) (r : RestForm) → AreShort f (rest_entries r) → AreBounded f (rest_trees r)
  rest_bounded f (ends_if s) h = tt
  rest_bounded f (has_else s b e) h = joined f (body_trees b) (comments_of e) (body_bounded f b (front_short f (body_entries b) (entry e end_if ∷ []) h.1)) (remarks f e)
  rest_bounded f (has_else_if s c b r) h =
      let front = body_bounded f b (front_short f (body_entries b) (rest_entries r) h.1) in
      let back = rest_bounded f r (back_short f (body_entries b) (rest_entries r) h.1) in
      let inner = joined f (body_trees b) (comments_of (first_of_rest r)) front (remarks f (first_of_rest r)) in
      (if_bounded f c (body_trees b ++ comments_of (first_of_rest r)) (rest_trees r) h.0 inner back, tt)

  loop_bounded : (f : Called → StmtTree) (d : LoopForm) → AreShort f (loop_entries d) → AreBounded f (loop_trees d)
  loop_bounded f (loop s l h p b e) k =
      let outer = front_short f (private_entries p ++ body_entries b) (ending_entries e) k.1 in
      let own = private_short f p (front_short f (private_entries p) (body_entries b) outer) in
      let body = body_bounded f b (back_short f (private_entries p) (body_entries b) outer) in
      let last = ending_bounded f e (back_short f (private_entries p ++ body_entries b) (ending_entries e) k.1) in
      let front = joined f (comments_of_private p) (body_trees b) (private_bounded f p) body in
      let all = joined f (comments_of_private p ++ body_trees b) (ending_trees e) front last in
      let head = whole_head h (names_of_private p) (rejected_names s.directives) in
      let here : StmtTree = Do head (pack_stmts (comments_of_private p ++ body_trees b ++ ending_trees e)) in
      joined f (comments_of s) (here ∷ []) (remarks f s) (do_bounded f head (comments_of_private p ++ body_trees b ++ ending_trees e) k.0 own all, tt)

  ending_bounded : (f : Called → StmtTree) (e : EndingForm) → AreShort f (ending_entries e) → AreBounded f (ending_trees e)
  ending_bounded f (at_plain s p) h = joined f (comments_of s) (plain_trees p) (remarks f s) (plain_bounded f p h.0)
  ending_bounded f (at_end_do s) h = remarks f s
  ending_bounded f (with_inner d) h = loop_bounded f d h

-- how many numbered statements a reading says
abbrev pub numbered_by : Reading → ℕ
numbered_by (says i) = numbered_in i
numbered_by r = 0

-- how many numbered statements these say
abbrev pub numbered_all : List Entry → ℕ
numbered_all [] = 0
numbered_all (e ∷ es) = numbered_by e.reading + numbered_all es

-- how many there are in trees
abbrev pub count_of : List StmtTree → ℕ
count_of ss = statements_count (pack_stmts ss)

pub entries_both : (xs ys : List Entry) → numbered_all (xs ++ ys) ≡ numbered_all xs + numbered_all ys
entries_both [] ys = omega arith
entries_both (x ∷ xs) ys = let more = entries_both xs ys in omega (arith, more)

pub trees_both : (xs ys : List StmtTree) → count_of (xs ++ ys) ≡ count_of xs + count_of ys
trees_both [] ys = omega arith
trees_both (x ∷ xs) ys = let more = trees_both xs ys in omega (arith, more)

pub notes_uncounted : (ns : List Note) → count_of (map (λ n. Comment n.text) ns) ≡ 0
notes_uncounted [] = refl
notes_uncounted (n ∷ ns) = let more = notes_uncounted ns in omega (arith, more)

-- comments before trees
behind_remarks : (s : Statement) (ss : List StmtTree) → count_of (comments_of s ++ ss) ≡ count_of ss
behind_remarks s ss = let both = trees_both (comments_of s) ss in let none = notes_uncounted s.comments in omega (arith, both, none)

-- and behind them
before_remarks : (ss : List StmtTree) (s : Statement) → count_of (ss ++ comments_of s) ≡ count_of ss
before_remarks ss s = let both = trees_both ss (comments_of s) in let none = notes_uncounted s.comments in omega (arith, both, none)

plain_counted : (p : PlainForm) → count_of (plain_trees p) ≡ numbered_in (plain_item p)
plain_counted (a_simple s) = omega arith
plain_counted a_continue = refl
plain_counted (a_logical_if c s) = omega arith

private_uncounted : (p : PrivateForm) → numbered_all (private_entries p) ≡ 0
private_uncounted no_private = refl
private_uncounted (private_list s names) = refl

private_remarks : (p : PrivateForm) → count_of (comments_of_private p) ≡ 0
private_remarks no_private = refl
private_remarks (private_list s names) = notes_uncounted s.comments

mutual
  pub body_counted : (b : BodyForm) → count_of (body_trees b) ≡ numbered_all (body_entries b)
  body_counted nothing = refl
  body_counted (and_then b p) =
      let xs = trees_both (body_trees b) (part_trees p) in
      let ys = entries_both (body_entries b) (part_entries p) in
      omega (arith, xs, ys, body_counted b, part_counted p)

  part_counted : (p : PartForm) → count_of (part_trees p) ≡ numbered_all (part_entries p)
  part_counted (a_plain s p) = let xs = behind_remarks s (plain_trees p) in omega (arith, xs, plain_counted p)
  part_counted (an_if s c b r) =
      let xs = behind_remarks s (If c (pack_stmts (body_trees b ++ comments_of (first_of_rest r))) (pack_stmts (rest_trees r)) ∷ []) in
      let inner = before_remarks (body_trees b) (first_of_rest r) in
      let ys = entries_both (body_entries b) (rest_entries r) in
      omega (arith, xs, inner, ys, body_counted b, rest_counted r)
  part_counted (a_do d) = loop_counted d

  rest_counted : (r : RestForm) → count_of (rest_trees r) ≡ numbered_all (rest_entries r)
  rest_counted (ends_if s) = refl
  rest_counted (has_else s b e) =
      let xs = before_remarks (body_trees b) e in
      let ys = entries_both (body_entries b) (entry e end_if ∷ []) in
      omega (arith, xs, ys, body_counted b)
  rest_counted (has_else_if s c b r) =
      let inner = before_remarks (body_trees b) (first_of_rest r) in
      let ys = entries_both (body_entries b) (rest_entries r) in
      omega (arith, inner, ys, body_counted b, rest_counted r)

  loop_counted : (d : LoopForm) → count_of (loop_trees d) ≡ numbered_all (loop_entries d)
  loop_counted (loop s l h p b e) =
      let all = comments_of_private p ++ body_trees b ++ ending_trees e in
      let xs = behind_remarks s (Do (whole_head h (names_of_private p) (rejected_names s.directives)) (pack_stmts all) ∷ []) in
      let outer = trees_both (comments_of_private p ++ body_trees b) (ending_trees e) in
      let inner = trees_both (comments_of_private p) (body_trees b) in
      let ys = entries_both (private_entries p ++ body_entries b) (ending_entries e) in
      let zs = entries_both (private_entries p) (body_entries b) in
      omega (arith, xs, outer, inner, ys, zs, private_uncounted p, private_remarks p, body_counted b, ending_counted e)

  ending_counted : (e : EndingForm) → count_of (ending_trees e) ≡ numbered_all (ending_entries e)
  ending_counted (at_plain s p) = let xs = behind_remarks s (plain_trees p) in omega (arith, xs, plain_counted p)
  ending_counted (at_end_do s) = notes_uncounted s.comments
  ending_counted (with_inner d) = loop_counted d
