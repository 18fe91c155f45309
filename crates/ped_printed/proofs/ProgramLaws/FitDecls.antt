-- Where nothing is refused at the statements of a text, its declarations fit.
use Rattle.std.proofs.Common.{◌≡◌, ℕ, ◌≤◌, List, [], ◌∷◌, ◌++◌, map, Bool, true, false, cond, Option, Some, None, refl, sym, ap, subst, ◌∙◌, arith, append_assoc, append-nil}
use Rattle.std.specs.Prelude.{max, nat_lt, nat_le, ◌||◌}
use Rattle.std.specs.List.{flat_map}
use Rattle.std.proofs.lemmas.Bool.{and_parts, and_from}
use Rattle.ped_lines.specs.ped_tree.specs.Tree.{StmtTree, Assign, If, Do, Print, Read, Stop, Comment, DeclTree, Program, Implicit, Integer, Dimension, Parameter, Save, Remark}
use Rattle.ped_lines.specs.ped_tree.specs.Accesses.{constants_in, constant_names}
use Rattle.ped_lines.specs.ped_tree.specs.Printing.{is_remark}
use Rattle.ped_lines.specs.ped_tree.specs.Grammar.Statement.{Note, Statement}
use Rattle.ped_lines.specs.ped_tree.specs.Grammar.Items.{Item, declares, saves_all, says, Entry}
use Rattle.ped_lines.specs.ped_tree.specs.Grammar.StatementForms.{StatementForm, program, implicit, integer, dimension, parameter, save, save_all, simple, if_simple, if_then, else_if_then, else_alone, end_of_if, do_loop, end_of_do, private, end, assignment, print, read, stop, continue, statement_item, ReadsItem}
use Rattle.ped_lines.specs.ped_tree.specs.Grammar.Contexts.{Context, left_by, decl_rank, rank, behind, behind_all}
use Rattle.ped_lines.specs.ped_tree.specs.Grammar.BlockForms.{entry}
use Rattle.ped_lines.specs.ped_tree.specs.Grammar.ProgramForms.{DeclForm, a_declaration, a_save_of_all, decl_entry, remarks_of, save_of, decl_trees, front_remarks}
use Rattle.ped_lines.specs.ped_tree.specs.Grammar.ProgramRefusals.{is_behind_end, is_out_of_order, lacks_if, lacks_do, is_late_private, saves_again, is_misplaced, breaks_syntax, at_statement}
use Rattle.ped_blocks.proofs.BlocksFound.{none_stands, left_empty, right_empty}
use Rattle.ped_lines.specs.ped_tree.specs.Grammar.Fits.{comment_fits, decls_fit}
use Rattle.ped_printed.proofs.ProgramLaws.Fits.{comment_whole, DeclarationFits, declaration_parts, declaration_whole}
use Rattle.ped_printed.proofs.ProgramLaws.FormsFit.{said_fits}
use Rattle.ped_printed.proofs.ProgramLaws.FitBodyLists.{IsSourced, Sourced, Accepted, accepted_next, At, CommentsFit, none_more}
use Rattle.ped_printed.proofs.ProgramLaws.FitBodyStatements.{or_left, or_right, passed}
use Rattle.ped_printed.proofs.ProgramLaws.FitDeclsNames.{Named, named_all}

-- declarations one behind the other

pub declarations_both : (phase : ℕ) (xs ys : List DeclTree) → decls_fit phase xs ≡ true → ((q : ℕ) → decls_fit q ys ≡ true) → decls_fit phase (xs ++ ys) ≡ true
declarations_both phase [] ys f g = g phase
declarations_both phase (Program x ∷ xs) ys f g = let k = declaration_parts phase (Program x) xs refl f in declaration_whole phase (Program x) (xs ++ ys) refl k.0 (declarations_both 1 xs ys k.1 g)
declarations_both phase (Implicit ∷ xs) ys f g = let k = declaration_parts phase Implicit xs refl f in declaration_whole phase Implicit (xs ++ ys) refl k.0 (declarations_both 2 xs ys k.1 g)
declarations_both phase (Integer ds ∷ xs) ys f g = let k = declaration_parts phase (Integer ds) xs refl f in declaration_whole phase (Integer ds) (xs ++ ys) refl k.0 (declarations_both 3 xs ys k.1 g)
declarations_both phase (Dimension ds ∷ xs) ys f g = let k = declaration_parts phase (Dimension ds) xs refl f in declaration_whole phase (Dimension ds) (xs ++ ys) refl k.0 (declarations_both 3 xs ys k.1 g)
declarations_both phase (Parameter vs ∷ xs) ys f g = let k = declaration_parts phase (Parameter vs) xs refl f in declaration_whole phase (Parameter vs) (xs ++ ys) refl k.0 (declarations_both 3 xs ys k.1 g)
declarations_both phase (Save names ∷ xs) ys f g = let k = declaration_parts phase (Save names) xs refl f in declaration_whole phase (Save names) (xs ++ ys) refl k.0 (declarations_both 3 xs ys k.1 g)
declarations_both phase (Remark text ∷ xs) ys f g = let k = and_parts (comment_fits text) (decls_fit phase xs) f in and_from (comment_fits text) _ k.0 (declarations_both phase xs ys k.1 g)

remarks_fit : (phase : ℕ) (ns : List Note) (ds : List DeclTree) → CommentsFit ns → decls_fit phase ds ≡ true → decls_fit phase (map (λ n. Remark n.text) ns ++ ds) ≡ true
remarks_fit phase [] ds h f = f
remarks_fit phase (n ∷ ns) ds h f = and_from (comment_fits n.text) _ (comment_whole n.text h.0) (remarks_fit phase ns ds h.1 f)

-- what a statement declares is no comment
abbrev declares_no_remark : Item → Bool
declares_no_remark (declares d) = is_remark d
declares_no_remark i = false

form_no_remark : (f : StatementForm) → declares_no_remark (statement_item f) ≡ false
form_no_remark (program x is) = refl
form_no_remark implicit = refl
form_no_remark (integer d rest) = refl
form_no_remark (dimension a rest) = refl
form_no_remark (parameter c rest) = refl
form_no_remark (save names are) = refl
form_no_remark save_all = refl
form_no_remark (simple (assignment r e)) = refl
form_no_remark (simple (print items)) = refl
form_no_remark (simple (read items)) = refl
form_no_remark (simple stop) = refl
form_no_remark (simple continue) = refl
form_no_remark (if_simple c s) = refl
form_no_remark (if_then c) = refl
form_no_remark (else_if_then c) = refl
form_no_remark else_alone = refl
form_no_remark end_of_if = refl
form_no_remark (do_loop parallel label c) = refl
form_no_remark end_of_do = refl
form_no_remark (private names are) = refl
form_no_remark end = refl

no_remark : (text : List ℕ) (d : DeclTree) → ReadsItem text (declares d) → is_remark d ≡ false
no_remark text d r = subst (λ (i : Item). declares_no_remark i ≡ false) r.2 (form_no_remark r.0)

-- the order of statements

out_of_order_earlier : (p q r : ℕ) → q ≤ p → is_out_of_order p r ≡ false → is_out_of_order q r ≡ false
out_of_order_earlier p q r h k = go (nat_lt r 3) k
  where
    go : (b : Bool) → cond b (nat_le r p) (nat_lt r p) ≡ false → cond b (nat_le r q) (nat_lt r q) ≡ false
    go true e = grind arith
    go false e = grind arith

in_order : (saved : List (List ℕ)) (c : Context) (s : Statement) (i : Item) (rest : List Entry) → Accepted saved c (entry s i ∷ rest) → is_out_of_order c.phase (rank i) ≡ false
in_order saved c s i rest h =
    let h8 = left_empty _ _ (left_empty (at_statement saved c (entry s i) rest) _ h.nothing_found) in
    let h7 = left_empty _ _ h8 in
    let h6 = left_empty _ _ h7 in
    let h5 = left_empty _ _ h6 in
    let h4 = left_empty _ _ h5 in
    let h3 = left_empty _ _ h4 in
    let h2 = left_empty _ _ h3 in
    let placed : breaks_syntax c s.label (says i) ≡ false = none_stands _ _ _ (right_empty _ _ h2) in
    let misplaced = or_right (is_behind_end c || false) (is_misplaced c s.label i) placed in
    let four = or_left (is_out_of_order c.phase (rank i) || lacks_if c.blocks i || is_late_private c.behind_do i || saves_again c i) (lacks_do c.blocks s.label i) misplaced in
    let three = or_left (is_out_of_order c.phase (rank i) || lacks_if c.blocks i || is_late_private c.behind_do i) (saves_again c i) four in
    let two = or_left (is_out_of_order c.phase (rank i) || lacks_if c.blocks i) (is_late_private c.behind_do i) three in
    or_left (is_out_of_order c.phase (rank i)) (lacks_if c.blocks i) two

-- a declaration at which nothing is refused

declaration_fits : (saved ks : List (List ℕ)) (c : Context) (phase : ℕ) (s : Statement) (d : DeclTree) (rest : List Entry) → phase ≤ c.phase → At ks [] 0 c → Accepted saved c (entry s (declares d) ∷ rest)
    → IsSourced (entry s (declares d)) → DeclarationFits phase d
declaration_fits saved ks c phase s d rest before a h r =
    let tests = passed saved ks [] 0 c s (declares d) rest a h in
    record {
      declares = said_fits r.text (declares d) r.reads tests.small;
      short = or_left _ false tests.short;
      ordered = out_of_order_earlier c.phase phase (decl_rank d) before (in_order saved c s (declares d) rest h);
    }

-- SAVE without a list, as it is printed where there are names
save_fits : (x : List ℕ) (xs ks : List (List ℕ)) (c : Context) (phase : ℕ) (s : Statement) (rest : List Entry) → Named (x ∷ xs) → phase ≤ c.phase → At ks [] 0 c → Accepted (x ∷ xs) c (entry s saves_all ∷ rest)
    → DeclarationFits phase (Save (x ∷ xs))
save_fits x xs ks c phase s rest named before a h =
    let tests = passed (x ∷ xs) ks [] 0 c s saves_all rest a h in
    record {
      declares = named_all (x ∷ xs) named;
      short = or_left _ false tests.short;
      ordered = out_of_order_earlier c.phase phase 3 before (in_order (x ∷ xs) c s saves_all rest h);
    }

-- behind a declaration

none_left : (label : Option ℕ) → left_by label [] ≡ []
none_left None = refl
none_left (Some l) = refl

at_next : (ks : List (List ℕ)) (c : Context) (s : Statement) (d : DeclTree) → At ks [] 0 c → At (ks ++ constants_in d) [] 0 (behind c (entry s (declares d)))
at_next ks c s d a = record {
  constants_are = ap (λ xs. xs ++ constants_in d) a.constants_are;
  blocks_are = ap (left_by s.label) a.blocks_are ∙ none_left s.label;
  statements_are = none_more c.statements ∙ a.statements_are;
}

at_next_all : (ks : List (List ℕ)) (c : Context) (s : Statement) → At ks [] 0 c → At ks [] 0 (behind c (entry s saves_all))
at_next_all ks c s a = record {
  constants_are = append-nil c.constants ∙ a.constants_are;
  blocks_are = ap (left_by s.label) a.blocks_are ∙ none_left s.label;
  statements_are = none_more c.statements ∙ a.statements_are;
}

later_right : (m n : ℕ) → n ≤ max m n
later_right m n = omega arith

later_left : (p m n : ℕ) → p ≤ m → p ≤ max m n
later_left p m n h = omega arith

-- the declarations of a text

pub declarations_fit : (saved : List (List ℕ)) (ks : List (List ℕ)) (c : Context) (phase : ℕ) (fs : List DeclForm) (rest : List Entry) → Named saved → phase ≤ c.phase → At ks [] 0 c
    → Accepted saved c (map decl_entry fs ++ rest) → Sourced (map decl_entry fs) → decls_fit phase (flat_map (decl_trees saved) fs) ≡ true
declarations_fit saved ks c phase [] rest named before a h r = refl
declarations_fit saved ks c phase (a_declaration s d ∷ fs) rest named before a h r =
    let more = flat_map (decl_trees saved) fs in
    let e = entry s (declares d) in
    let others = declarations_fit saved (ks ++ constants_in d) (behind c e) (decl_rank d) fs rest named (later_right c.phase (decl_rank d)) (at_next ks c s d a) (accepted_next saved c e (map decl_entry fs ++ rest) h) r.1 in
    let here = declaration_whole phase d more (no_remark r.0.text d r.0.reads.0) (declaration_fits saved ks c phase s d (map decl_entry fs ++ rest) before a h r.0) others in
    subst (λ (ds : List DeclTree). decls_fit phase ds ≡ true) (sym (append_assoc (remarks_of s) (d ∷ []) more)) (remarks_fit phase s.comments (d ∷ more) r.0.comments here)
declarations_fit [] ks c phase (a_save_of_all s ∷ fs) rest named before a h r =
    let more = flat_map (decl_trees []) fs in
    let e = entry s saves_all in
    let others = declarations_fit [] ks (behind c e) phase fs rest named (later_left phase c.phase 3 before) (at_next_all ks c s a) (accepted_next [] c e (map decl_entry fs ++ rest) h) r.1 in
    subst (λ (ds : List DeclTree). decls_fit phase ds ≡ true) (sym (append_assoc (remarks_of s) [] more)) (remarks_fit phase s.comments more r.0.comments others)
declarations_fit (x ∷ xs) ks c phase (a_save_of_all s ∷ fs) rest named before a h r =
    let more = flat_map (decl_trees (x ∷ xs)) fs in
    let e = entry s saves_all in
    let others = declarations_fit (x ∷ xs) ks (behind c e) 3 fs rest named (later_right c.phase 3) (at_next_all ks c s a) (accepted_next (x ∷ xs) c e (map decl_entry fs ++ rest) h) r.1 in
    let here = declaration_whole phase (Save (x ∷ xs)) more refl (save_fits x xs ks c phase s (map decl_entry fs ++ rest) named before a h) others in
    subst (λ (ds : List DeclTree). decls_fit phase ds ≡ true) (sym (append_assoc (remarks_of s) (Save (x ∷ xs) ∷ []) more)) (remarks_fit phase s.comments (Save (x ∷ xs) ∷ more) r.0.comments here)

-- the named constants behind the declarations

pub constants_both : (xs ys : List DeclTree) → constant_names (xs ++ ys) ≡ constant_names xs ++ constant_names ys
constants_both [] ys = refl
constants_both (x ∷ xs) ys = ap (λ ks. constants_in x ++ ks) (constants_both xs ys) ∙ sym (append_assoc (constants_in x) (constant_names xs) (constant_names ys))

remarks_constants : (ns : List Note) → constant_names (map (λ n. Remark n.text) ns) ≡ []
remarks_constants [] = refl
remarks_constants (n ∷ ns) = remarks_constants ns

save_constants : (saved : List (List ℕ)) → constant_names (save_of saved) ≡ []
save_constants [] = refl
save_constants (x ∷ xs) = refl

-- the constants of a declaration with the comments before it
pub trees_constants : (saved : List (List ℕ)) (s : Statement) (d : DeclTree) → constant_names (decl_trees saved (a_declaration s d)) ≡ constants_in d
trees_constants saved s d = constants_both (remarks_of s) (d ∷ []) ∙ ap (λ ks. ks ++ (constants_in d ++ [])) (remarks_constants s.comments) ∙ append-nil (constants_in d)

no_constants : (saved : List (List ℕ)) (s : Statement) → constant_names (decl_trees saved (a_save_of_all s)) ≡ []
no_constants saved s = constants_both (remarks_of s) (save_of saved) ∙ ap (λ ks. ks ++ constant_names (save_of saved)) (remarks_constants s.comments) ∙ save_constants saved

pub behind_declarations : (saved ks : List (List ℕ)) (c : Context) (fs : List DeclForm) → At ks [] 0 c → At (ks ++ constant_names (flat_map (decl_trees saved) fs)) [] 0 (behind_all c (map decl_entry fs))
behind_declarations saved ks c [] a = subst (λ (xs : List (List ℕ)). At xs [] 0 c) (sym (append-nil ks)) a
behind_declarations saved ks c (a_declaration s d ∷ fs) a =
    let e = entry s (declares d) in
    let more = flat_map (decl_trees saved) fs in
    let same : ks ++ constants_in d ++ constant_names more ≡ ks ++ constant_names (decl_trees saved (a_declaration s d) ++ more) =
    append_assoc ks (constants_in d) (constant_names more) ∙ ap (λ xs. ks ++ (xs ++ constant_names more)) (sym (trees_constants saved s d)) ∙ ap (λ xs. ks ++ xs) (sym (constants_both (decl_trees saved (a_declaration s d)) more)) in
    subst (λ (xs : List (List ℕ)). At xs [] 0 (behind_all c (map decl_entry (a_declaration s d ∷ fs)))) same (behind_declarations saved (ks ++ constants_in d) (behind c e) fs (at_next ks c s d a))
behind_declarations saved ks c (a_save_of_all s ∷ fs) a =
    let e = entry s saves_all in
    let more = flat_map (decl_trees saved) fs in
    let same : ks ++ constant_names more ≡ ks ++ constant_names (decl_trees saved (a_save_of_all s) ++ more) =
    ap (λ xs. ks ++ (xs ++ constant_names more)) (sym (no_constants saved s)) ∙ ap (λ xs. ks ++ xs) (sym (constants_both (decl_trees saved (a_save_of_all s)) more)) in
    subst (λ (xs : List (List ℕ)). At xs [] 0 (behind_all c (map decl_entry (a_save_of_all s ∷ fs)))) same (behind_declarations saved ks (behind c e) fs (at_next_all ks c s a))

-- the comments before the first executable statement
pub front_constants : (ts : List StmtTree) → constant_names (front_remarks ts) ≡ []
front_constants [] = refl
front_constants (Assign l r ∷ ts) = refl
front_constants (If c x y ∷ ts) = refl
front_constants (Do h body ∷ ts) = refl
front_constants (Print items ∷ ts) = refl
front_constants (Read items ∷ ts) = refl
front_constants (Stop ∷ ts) = refl
front_constants (Comment text ∷ ts) = front_constants ts
