-- Statements that may stand behind a logical IF: what is read is written so, and what is written so is read.
use Rattle.std.proofs.Common.{◌≡◌, ℕ, true, cond, List, [], ◌++◌, map, Option, Some, None, refl, sym, ap, subst, ◌∙◌, append_assoc, inl, inr}
use Rattle.std.specs.Prelude.{codes}
use Rattle.std.specs.Cmp.Lexicographic.{same_text}
use Rattle.std.proofs.lemmas.List.{append-nil}
use Rattle.ped_tree.specs.Tree.{ExprTree, ItemTree, StmtTree, Assign, Print, Read, Stop}
use Rattle.ped_base.specs.Lists.{is_same_text}
use Rattle.ped_tree.specs.Grammar.ExpressionForms.{ExprForm, ReferenceForm, expr_form_text, expr_form_tree, reference_form_text, reference_form_tree}
use Rattle.ped_tree.specs.Grammar.StatementForms.{ItemForm, item_form_text, item_form_tree, SimpleForm, assignment, print, read, stop, continue, simple_form_text, simple_item, behind_if}
use Rattle.ped_expressions.specs.Scanning.{◌>>=◌, go_on, after}
use Rattle.ped_expressions.specs.ExpressionReading.{with_literals, expr_of}
use Rattle.ped_statements.specs.Saturated.{item_with_literals, stmts_with_literals, says_with_literals}
use Rattle.ped_statements.specs.Listing.{whole, each_behind_comma}
use Rattle.ped_statements.specs.StatementReading.{reference_of, print_item_of, assignment_of, worded_of, simple_of, behind_logical, simply}
use Rattle.ped_expressions.proofs.Basics.{some_is, bind_some, stops_or_goes, chosen, after_is}
use Rattle.ped_expressions.proofs.Sound.{read_on}
use Rattle.ped_expressions.proofs.Again.{ends_word}
use Rattle.ped_statements.proofs.NoAssignment.{word_alone}
use Rattle.ped_statements.proofs.Several.{all_behind, shrinks, whole_is, each_found, each_again}
use Rattle.ped_statements.proofs.Pieces.{ends_part, expr_finds, expr_part, reference_found, reference_back, item_found, item_back}
use Rattle.ped_statements.proofs.Declared.{map_map, all_true}

-- what a simple statement does, with literals; nothing for CONTINUE
abbrev pub simple_does : (ℕ → ℕ) → SimpleForm → Option StmtTree
simple_does v (assignment r e) = Some (Assign (with_literals v (reference_form_tree r)) (with_literals v (expr_form_tree e)))
simple_does v (print items) = Some (Print (map (item_with_literals v) (map item_form_tree items)))
simple_does v (read items) = Some (Read (map (with_literals v) (map reference_form_tree items)))
simple_does v stop = Some Stop
simple_does v continue = None

pub simple_says : (v : ℕ → ℕ) (s : SimpleForm) → simply (simple_does v s) ≡ says_with_literals v (simple_item s)
simple_says v (assignment r e) = refl
simple_says v (print items) = refl
simple_says v (read items) = refl
simple_says v stop = refl
simple_says v continue = refl

pub simple_behind : (v : ℕ → ℕ) (s : SimpleForm) → behind_logical (simple_does v s) ≡ stmts_with_literals v (behind_if s)
simple_behind v (assignment r e) = refl
simple_behind v (print items) = refl
simple_behind v (read items) = refl
simple_behind v stop = refl
simple_behind v continue = refl

-- a simple statement with this text
abbrev pub FoundSimple : (ℕ → ℕ) → List ℕ → Option StmtTree → Type 0
FoundSimple v ts o = (s : SimpleForm) × (simple_form_text s ≡ ts) × (simple_does v s ≡ o)

assignment_found : (v : ℕ → ℕ) (ts : List ℕ) (s : StmtTree) → assignment_of v ts ≡ Some s → FoundSimple v ts (Some s)
unfolding assignment_of
assignment_found v ts s h =
    let a = bind_some (reference_of v ts) (λ l. after (codes "=") l.1 >>= λ q. whole (expr_of v q) >>= λ e. Some (Assign l.0 e)) s h in
    let b = bind_some (after (codes "=") a.0.1) (λ q. whole (expr_of v q) >>= λ e. Some (Assign a.0.0 e)) s a.2 in
    let c = bind_some (whole (expr_of v b.0)) (λ e. Some (Assign a.0.0 e)) s b.2 in
    let r = reference_found v ts a.0 a.1 in
    let e = expr_finds v b.0 (c.0, []) (whole_is (expr_of v b.0) c.0 c.1) in
    let text : reference_form_text r.0 ++ codes "=" ++ expr_form_text e.0 ≡ ts =
    sym (r.3 ∙ read_on (reference_form_text r.0) (codes "=") a.0.1 b.0 (after_is (codes "=") a.0.1 b.0 b.1) ∙ ap (λ (w : List ℕ). reference_form_text r.0 ++ codes "=" ++ w) (e.2 ∙ append-nil (expr_form_text e.0))) in
    let tree : Assign (with_literals v (reference_form_tree r.0)) (with_literals v (expr_form_tree e.0)) ≡ s = ap (λ (t : ExprTree). Assign t (with_literals v (expr_form_tree e.0))) r.2 ∙ ap (Assign a.0.0) e.1 ∙ some_is (Assign a.0.0 c.0) s c.2 in
    (assignment r.0 e.0, text, ap (λ (t : StmtTree). Some t) tree)

assignment_again : (v : ℕ → ℕ) (r : ReferenceForm) (e : ExprForm) → assignment_of v (reference_form_text r ++ codes "=" ++ expr_form_text e) ≡ Some (Assign (with_literals v (reference_form_tree r)) (with_literals v (expr_form_tree e)))
unfolding assignment_of
assignment_again v r e =
    let p = reference_back v r (codes "=" ++ expr_form_text e) refl refl in
    let q : expr_of v (expr_form_text e) ≡ Some (with_literals v (expr_form_tree e), []) = ap (expr_of v) (sym (append-nil (expr_form_text e))) ∙ expr_part v e [] refl in
    ap (assignment_of v) (append_assoc (reference_form_text r) (codes "=") (expr_form_text e)) ∙ rw (p, q) refl

-- PRINT, READ, STOP and CONTINUE

same_words : (x w : List ℕ) → is_same_text x w ≡ true → w ≡ x
same_words x w h = sym (same_text x w (sym h))

print_found : (v : ℕ → ℕ) (ts q : List ℕ) (o : Option StmtTree) → ts ≡ codes "PRINT*" ++ q → (each_behind_comma (print_item_of v) q >>= λ items. Some (Some (Print items))) ≡ Some o → FoundSimple v ts o
print_found v ts q o p h =
    let b = bind_some (each_behind_comma (print_item_of v) q) (λ items. Some (Some (Print items))) o h in
    let f = each_found item_form_text (λ i. item_with_literals v (item_form_tree i)) (λ i. true) (print_item_of v) (item_found v) q b.0 b.1 in
    (print f.0, ap (λ (w : List ℕ). codes "PRINT*" ++ w) f.3 ∙ sym p, ap (λ (items : List ItemTree). Some (Print items)) (map_map (item_with_literals v) item_form_tree f.0 ∙ f.2) ∙ some_is (Some (Print b.0)) o b.2)

read_found : (v : ℕ → ℕ) (ts q : List ℕ) (o : Option StmtTree) → ts ≡ codes "READ*" ++ q → (each_behind_comma (reference_of v) q >>= λ items. Some (Some (Read items))) ≡ Some o → FoundSimple v ts o
read_found v ts q o p h =
    let b = bind_some (each_behind_comma (reference_of v) q) (λ items. Some (Some (Read items))) o h in
    let f = each_found reference_form_text (λ r. with_literals v (reference_form_tree r)) (λ r. true) (reference_of v) (reference_found v) q b.0 b.1 in
    (read f.0, ap (λ (w : List ℕ). codes "READ*" ++ w) f.3 ∙ sym p, ap (λ (items : List ExprTree). Some (Read items)) (map_map (with_literals v) reference_form_tree f.0 ∙ f.2) ∙ some_is (Some (Read b.0)) o b.2)

reading_words : (ℕ → ℕ) → List ℕ → Option (Option StmtTree)
reading_words v ts =
    go_on (after (codes "PRINT*") ts)
    (after (codes "READ*") ts >>= λ q. each_behind_comma (reference_of v) q >>= λ items. Some (Some (Read items)))
    (λ q. each_behind_comma (print_item_of v) q >>= λ items. Some (Some (Print items)))

reading_words_found : (v : ℕ → ℕ) (ts : List ℕ) (o : Option StmtTree) → reading_words v ts ≡ Some o → FoundSimple v ts o
unfolding reading_words
reading_words_found v ts o h =
    elim (stops_or_goes (after (codes "PRINT*") ts) (after (codes "READ*") ts >>= λ q. each_behind_comma (reference_of v) q >>= λ items. Some (Some (Read items))) (λ q. each_behind_comma (print_item_of v) q >>= λ items. Some (Some (Print items))) (Some o) h) [
      | inl g ↦
          let b = bind_some (after (codes "READ*") ts) (λ q. each_behind_comma (reference_of v) q >>= λ items. Some (Some (Read items))) o g.1 in
          read_found v ts b.0 o (after_is (codes "READ*") ts b.0 b.1) b.2
      | inr g ↦ print_found v ts g.0 o (after_is (codes "PRINT*") ts g.0 g.1) g.2
    ]

worded_found : (v : ℕ → ℕ) (ts : List ℕ) (o : Option StmtTree) → worded_of v ts ≡ Some o → FoundSimple v ts o
unfolding worded_of reading_words
worded_found v ts o h =
    elim (chosen (is_same_text ts (codes "STOP")) (Some (Some Stop)) (cond (is_same_text ts (codes "CONTINUE")) (Some None) (reading_words v ts)) (Some o) h) [
      | inl a ↦ (stop, same_words ts (codes "STOP") a.0, some_is (Some Stop) o a.1)
      | inr a ↦ elim (chosen (is_same_text ts (codes "CONTINUE")) (Some None) (reading_words v ts) (Some o) a.1) [
        | inl b ↦ (continue, same_words ts (codes "CONTINUE") b.0, some_is None o b.1)
        | inr b ↦ reading_words_found v ts o b.1
      ]
    ]

pub simple_found : (v : ℕ → ℕ) (ts : List ℕ) (o : Option StmtTree) → simple_of v ts ≡ Some o → FoundSimple v ts o
unfolding simple_of
simple_found v ts o h =
    elim (stops_or_goes (assignment_of v ts) (worded_of v ts) (λ s. Some (Some s)) (Some o) h) [
      | inl a ↦ worded_found v ts o a.1
      | inr a ↦ subst (λ (u : Option StmtTree). FoundSimple v ts u) (some_is (Some a.0) o a.2) (assignment_found v ts a.0 a.1)
    ]

-- what is written so is read

words_of : (v : ℕ → ℕ) (ts : List ℕ) (o : Option StmtTree) → assignment_of v ts ≡ None → worded_of v ts ≡ Some o → simple_of v ts ≡ Some o
unfolding simple_of
words_of v ts o a w = rw (a, w) refl

print_again : (v : ℕ → ℕ) (items : List ItemForm) → worded_of v (simple_form_text (print items)) ≡ Some (simple_does v (print items))
unfolding worded_of
print_again v items =
    let s = shrinks item_form_text (λ i. item_with_literals v (item_form_tree i)) (λ i. true) (print_item_of v) (item_found v) in
    let p : each_behind_comma (print_item_of v) (all_behind item_form_text items) ≡ Some (map (item_with_literals v) (map item_form_tree items)) =
    each_again item_form_text (λ i. item_with_literals v (item_form_tree i)) (λ i. true) ends_part (print_item_of v) s (item_back v) (λ r. refl) refl items (all_true items)
    ∙ ap (λ (ts : List ItemTree). Some ts) (sym (map_map (item_with_literals v) item_form_tree items)) in
    rw p refl

read_again : (v : ℕ → ℕ) (items : List ReferenceForm) → worded_of v (simple_form_text (read items)) ≡ Some (simple_does v (read items))
unfolding worded_of
read_again v items =
    let s = shrinks reference_form_text (λ r. with_literals v (reference_form_tree r)) (λ r. true) (reference_of v) (reference_found v) in
    let p : each_behind_comma (reference_of v) (all_behind reference_form_text items) ≡ Some (map (with_literals v) (map reference_form_tree items)) =
    each_again reference_form_text (λ r. with_literals v (reference_form_tree r)) (λ r. true) ends_word (reference_of v) s (reference_back v) (λ r. refl) refl items (all_true items)
    ∙ ap (λ (ts : List ExprTree). Some ts) (sym (map_map (with_literals v) reference_form_tree items)) in
    rw p refl

pub simple_again : (v : ℕ → ℕ) (s : SimpleForm) → simple_of v (simple_form_text s) ≡ Some (simple_does v s)
unfolding simple_of worded_of
simple_again v (assignment r e) = rw (assignment_again v r e) refl
simple_again v (print items) = words_of v (simple_form_text (print items)) _ (word_alone v (codes "PRINT") (codes "*" ++ all_behind item_form_text items) refl refl refl refl (λ q h. absurd cc)) (print_again v items)
simple_again v (read items) = words_of v (simple_form_text (read items)) _ (word_alone v (codes "READ") (codes "*" ++ all_behind reference_form_text items) refl refl refl refl (λ q h. absurd cc)) (read_again v items)
simple_again v stop = words_of v (codes "STOP") _ (word_alone v (codes "STOP") [] refl refl refl refl (λ q h. absurd cc)) refl
simple_again v continue = words_of v (codes "CONTINUE") _ (word_alone v (codes "CONTINUE") [] refl refl refl refl (λ q h. absurd cc)) refl

-- none of these statements
pub not_simple : (v : ℕ → ℕ) (ts : List ℕ) → assignment_of v ts ≡ None → worded_of v ts ≡ None → simple_of v ts ≡ None
unfolding simple_of
not_simple v ts a w = rw (a, w) refl
