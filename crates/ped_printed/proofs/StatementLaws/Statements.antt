-- The first printed lines of statements have forms with the same meaning.
use Rattle.std.proofs.Common.{◌≡◌, ℕ, Bool, true, false, List, [], ◌++◌, map, Option, Some, None, refl, sym, ap, subst, ◌∙◌, append_assoc}
use Rattle.std.specs.Prelude.{codes, ◌||◌}
use Rattle.std.specs.List.{list_any, list_all}
use Rattle.std.proofs.lemmas.Bool.{cond_both, or_parts, and_parts}
use Rattle.std.proofs.lemmas.List.{append-nil}
use Rattle.ped_lines.specs.ped_tree.specs.Tree.{ExprTree, CondTree, ItemTree, Value, Head, StmtTree, StmtTrees, Assign, Print, Read, Stop, no_stmts, more_stmts}
use Rattle.ped_lines.specs.ped_base.specs.Lists.{has_some}
use Rattle.ped_lines.specs.ped_tree.specs.Grammar.Words.{is_name}
use Rattle.ped_lines.specs.ped_tree.specs.Grammar.Literals.{has_large_literal, cond_has_large_literal, item_has_large_literal, head_has_large_literal, stmt_has_large_literal}
use Rattle.ped_lines.specs.ped_tree.specs.Printing.{value_text, whole, cond_text, is_one, item_text, step_text, do_word, do_text, private_text, own_text}
use Rattle.ped_lines.specs.ped_tree.specs.Grammar.ExpressionForms.{ExprForm, expr_form_text, expr_form_tree, ReferenceForm, reference_form_text, reference_form_tree}
use Rattle.ped_lines.specs.ped_tree.specs.Grammar.ConditionForms.{CondForm, cond_form_tree}
use Rattle.ped_lines.specs.ped_tree.specs.Grammar.Items.{Item, does, logical_if, block_if, else_if, else_line, end_if, begins_do, ends_do, keeps_private, ends_program}
use Rattle.ped_lines.specs.ped_tree.specs.Grammar.StatementForms.{ItemForm, a_value, a_text, item_form_text, item_form_tree, SimpleForm, assignment, print, read, stop, continue, simple_item, behind_if, no_label, ControlForm, control, control_form_head, further_form_text, step_form_tree, do_form_word, StatementForm, program, implicit, integer, dimension, parameter, save, save_all, simple, if_simple, if_then, else_if_then, else_alone, end_of_if, do_loop, end_of_do, private, end, statement_item}
use Rattle.ped_lines.specs.ped_tree.specs.Grammar.BlockForms.{whole_head}
use Rattle.ped_lines.specs.ped_tree.specs.Grammar.ProgramRefusals.{listed_stmts, is_too_large}
use Rattle.ped_printed.specs.Statements.Printed.{ReadsOnly, SaysFirstLine, itself, of_block_if, of_else_if, of_logical_if, behind_logical_if, of_do, first_line_item, StatementPrints, PrivatePrints, WordsPrint}
use Rattle.ped_printed.proofs.StatementLaws.Squeezing.{Reduces, joined, nothing, words, comma_blank, name_stays, listed_constant}
use Rattle.ped_printed.proofs.StatementLaws.Expressions.{Again, expr_again, reference_again, cond_again}
use Rattle.ped_printed.proofs.StatementLaws.Listing.{EachAgain, further_again, names_again}
use Rattle.ped_printed.proofs.StatementLaws.Declarations.{one_is}
use Rattle.ped_printed.proofs.StatementLaws.Only.{reads_only}

-- assignment, PRINT, READ and STOP

-- an item of PRINT with the comma before it
item_again : EachAgain (λ g. codes "," ++ item_form_text g) item_form_tree (λ t. codes ", " ++ item_text t) item_has_large_literal
item_again (a_value e) h = let p = expr_again e h in (a_value p.0, joined comma_blank p.1, ap Value p.2)
item_again (a_text text) h = (a_text text, listed_constant text, refl)

-- what a statement says by itself is printed again
abbrev DoesAgain : StmtTree → Type 0
DoesAgain s = stmt_has_large_literal s ≡ false → ReadsOnly (own_text s) (first_line_item s)

assign_again : (r : ReferenceForm) (e : ExprForm) → DoesAgain (Assign (reference_form_tree r) (expr_form_tree e))
assign_again r e small =
    let k = or_parts (has_large_literal (reference_form_tree r)) (has_large_literal (expr_form_tree e)) small in
    let p = reference_again r k.0 in
    let q = expr_again e k.1 in
    let s = Assign (reference_form_tree r) (expr_form_tree e) in
    reads_only (own_text s) (does s) (simple (assignment p.0 q.0)) (joined (joined p.1 (words (codes " = ") refl)) q.1)
    (ap (λ (t : ExprTree). does (Assign t (expr_form_tree q.0))) p.2 ∙ ap (λ (t : ExprTree). does (Assign (reference_form_tree r) t)) q.2)

print_again : (items : List ItemForm) → DoesAgain (Print (map item_form_tree items))
print_again items small =
    let p = further_again (λ g. codes "," ++ item_form_text g) item_form_tree (λ t. codes ", " ++ item_text t) item_has_large_literal [] [] nothing item_again items small in
    let s = Print (map item_form_tree items) in
    reads_only (own_text s) (does s) (simple (print p.0)) (joined (words (codes "PRINT *") refl) p.1) (ap (λ (ts : List ItemTree). does (Print ts)) p.2)

read_again : (items : List ReferenceForm) → DoesAgain (Read (map reference_form_tree items))
read_again items small =
    let p = further_again reference_form_text reference_form_tree value_text has_large_literal (codes ", ") (codes ",") comma_blank reference_again items small in
    let s = Read (map reference_form_tree items) in
    reads_only (own_text s) (does s) (simple (read p.0)) (joined (words (codes "READ *") refl) p.1) (ap (λ (ts : List ExprTree). does (Read ts)) p.2)

stop_again : DoesAgain Stop
stop_again small = reads_only (own_text Stop) (does Stop) (simple stop) (words (codes "STOP") refl) refl

-- IF

if_again : (c : CondForm) → cond_has_large_literal (cond_form_tree c) ≡ false → ReadsOnly (codes "IF (" ++ cond_text whole (cond_form_tree c) ++ codes ") THEN") (block_if (cond_form_tree c))
if_again c small =
    let p = cond_again c small in
    reads_only (codes "IF (" ++ cond_text whole (cond_form_tree c) ++ codes ") THEN") (block_if (cond_form_tree c)) (if_then p.0) (joined (joined (words (codes "IF (") refl) p.1) (words (codes ") THEN") refl)) (ap block_if p.2)

-- DO

step_again : (step : Option ExprForm) → has_large_literal (step_form_tree step) ≡ false → Again further_form_text step_form_tree step_text (step_form_tree step)
step_again None h = (None, nothing, refl)
step_again (Some e) h =
    let p = expr_again e h in
    let t = expr_form_tree e in
    cond_both (is_one t) [] (codes ", " ++ value_text t) (λ c. (g : Option ExprForm) × Reduces c (further_form_text g) × (step_form_tree g ≡ t))
    (λ i. (None, nothing, sym (one_is t i)))
    (λ i. (Some p.0, joined comma_blank p.1, p.2))

word_again : (parallel : Bool) → Reduces (do_word parallel) (do_form_word parallel)
word_again true = words (codes "PARALLEL DO ") refl
word_again false = words (codes "DO ") refl

regrouped : (a x e f c l s : List ℕ) → a ++ x ++ e ++ f ++ c ++ l ++ s ≡ a ++ (x ++ e ++ f ++ c ++ l ++ s)
regrouped a x e f c l s = simp append_assoc

-- the head of a DO is printed again
abbrev HeadAgain : Head → Type 0
HeadAgain h = head_has_large_literal h ≡ false → ReadsOnly (do_text h) (begins_do None (whole_head h [] []))

do_again : (parallel : Bool) (c : ControlForm) → HeadAgain (control_form_head parallel c)
do_again parallel (control x is begin limit step) small =
    let b = expr_form_tree begin in
    let l = expr_form_tree limit in
    let k = or_parts (has_large_literal b || has_large_literal l) (has_large_literal (step_form_tree step)) small in
    let m = or_parts (has_large_literal b) (has_large_literal l) k.0 in
    let p = expr_again begin m.0 in
    let q = expr_again limit m.1 in
    let s = step_again step k.1 in
    let h = control_form_head parallel (control x is begin limit step) in
    let f = do_loop parallel no_label (control x is p.0 q.0 s.0) in
    let bounds : Reduces (do_text h) (do_form_word parallel ++ x ++ codes "=" ++ expr_form_text p.0 ++ codes "," ++ expr_form_text q.0 ++ further_form_text s.0) =
    joined (joined (joined (joined (joined (joined (word_again parallel) (name_stays x is)) (words (codes " = ") refl)) p.1) comma_blank) q.1) s.1 in
    let word = do_form_word parallel in
    let squeezed : Reduces (do_text h) (word ++ [] ++ (x ++ codes "=" ++ expr_form_text p.0 ++ codes "," ++ expr_form_text q.0 ++ further_form_text s.0)) =
    subst (Reduces (do_text h)) (regrouped word x (codes "=") (expr_form_text p.0) (codes ",") (expr_form_text q.0) (further_form_text s.0) ∙ ap (λ (w : List ℕ). w ++ (x ++ codes "=" ++ expr_form_text p.0 ++ codes "," ++ expr_form_text q.0 ++ further_form_text s.0)) (sym (append-nil word))) bounds in
    reads_only (do_text h) (begins_do None h) f squeezed (λ i. begins_do None (record { variable = x; first = p.2 i; last = q.2 i; step = s.2 i; parallel = parallel; private = []; rejected = [] }))

-- items

-- the line of an IF with this condition is printed again
abbrev CondAgain : CondTree → Type 0
CondAgain c = cond_has_large_literal c ≡ false → ReadsOnly (codes "IF (" ++ cond_text whole c ++ codes ") THEN") (block_if c)

-- the statement behind a logical IF is printed again, where there is one
abbrev BehindAgain : StmtTrees → Type 0
BehindAgain no_stmts = Unit {0}
BehindAgain (more_stmts s rest) = DoesAgain s

-- what an item says is printed again
abbrev ItemAgain : Item → Type 0
ItemAgain (does s) = DoesAgain s
ItemAgain (logical_if c behind) = CondAgain c × BehindAgain behind
ItemAgain (block_if c) = CondAgain c
ItemAgain (else_if c) = CondAgain c
ItemAgain (begins_do label h) = HeadAgain h
ItemAgain (keeps_private names) = ReadsOnly (private_text names) (keeps_private names)
ItemAgain i = Unit {0}

simple_again : (s : SimpleForm) → ItemAgain (simple_item s)
simple_again (assignment r e) = assign_again r e
simple_again (print items) = print_again items
simple_again (read items) = read_again items
simple_again stop = stop_again
simple_again continue = tt

behind_again : (s : SimpleForm) → BehindAgain (behind_if s)
behind_again (assignment r e) = assign_again r e
behind_again (print items) = print_again items
behind_again (read items) = read_again items
behind_again stop = stop_again
behind_again continue = tt

says_again : (f : StatementForm) → ItemAgain (statement_item f)
says_again (program x is) = tt
says_again implicit = tt
says_again (integer d rest) = tt
says_again (dimension a rest) = tt
says_again (parameter c rest) = tt
says_again (save names are) = tt
says_again save_all = tt
says_again (simple s) = simple_again s
says_again (if_simple c s) = (if_again c, behind_again s)
says_again (if_then c) = if_again c
says_again (else_if_then c) = if_again c
says_again else_alone = tt
says_again end_of_if = tt
says_again (do_loop parallel l c) = do_again parallel c
says_again end_of_do = tt
says_again (private names are) =
    let k = and_parts (has_some names) (list_all is_name names) are in
    reads_only (private_text names) (keeps_private names) (private names are) (joined (words (codes "PRIVATE ") refl) (names_again names k.1)) refl
says_again end = tt

first_line_again : (i : Item) (s : StmtTree) → ItemAgain i → is_too_large i ≡ false → SaysFirstLine i s → ReadsOnly (own_text s) (first_line_item s)
first_line_again i s again small (itself e) = subst ItemAgain e again (sym (ap is_too_large e) ∙ small)
first_line_again i s again small (of_block_if c t u e d) =
    subst (λ (s : StmtTree). ReadsOnly (own_text s) (first_line_item s)) (sym d) (subst ItemAgain e again (sym (ap is_too_large e) ∙ small))
first_line_again i s again small (of_else_if c t u e d) =
    subst (λ (s : StmtTree). ReadsOnly (own_text s) (first_line_item s)) (sym d) (subst ItemAgain e again (sym (ap is_too_large e) ∙ small))
first_line_again i s again small (of_logical_if c b t u e d) =
    let k = or_parts (cond_has_large_literal c) (list_any stmt_has_large_literal (listed_stmts b)) (sym (ap is_too_large e) ∙ small) in
    subst (λ (s : StmtTree). ReadsOnly (own_text s) (first_line_item s)) (sym d) ((subst ItemAgain e again).0 k.0)
first_line_again i s again small (behind_logical_if c e) =
    let k = or_parts (cond_has_large_literal c) (stmt_has_large_literal s || false) (sym (ap is_too_large e) ∙ small) in
    (subst ItemAgain e again).1 (or_parts (stmt_has_large_literal s) false k.1).0
first_line_again i s again small (of_do label h names others body e d) =
    subst (λ (s : StmtTree). ReadsOnly (own_text s) (first_line_item s)) (sym d) (subst ItemAgain e again (sym (ap is_too_large e) ∙ small))

pub statement_prints : StatementPrints
statement_prints text i s r small says = first_line_again i s (subst ItemAgain r.2 (says_again r.0)) small says

pub private_prints : PrivatePrints
private_prints text names r = subst ItemAgain r.2 (says_again r.0)

pub words_print : WordsPrint
words_print = record {
  of_else = reads_only (codes "ELSE") else_line else_alone (words (codes "ELSE") refl) refl;
  of_end_if = reads_only (codes "END IF") end_if end_of_if (words (codes "END IF") refl) refl;
  of_end_do = reads_only (codes "END DO") ends_do end_of_do (words (codes "END DO") refl) refl;
  of_end = reads_only (codes "END") ends_program end (words (codes "END") refl) refl;
}
