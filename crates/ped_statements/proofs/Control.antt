-- What follows DO and PARALLEL DO: what is read is written so, and what is written so is read.
use Rattle.std.proofs.Common.{◌≡◌, ℕ, Bool, true, false, cond, List, [], ◌∷◌, ◌++◌, Option, Some, None, refl, sym, ap, subst, ◌∙◌, append_assoc, arith, inl, inr}
use Rattle.std.specs.Prelude.{codes}
use Rattle.std.specs.List.{list_all}
use Rattle.std.proofs.lemmas.Bool.{eqb-true}
use Rattle.std.proofs.lemmas.List.{append-nil}
use Rattle.std.proofs.lemmas.List.Folds.{list_all-append}
use Rattle.ped_base.specs.Letters.{is_letter, is_digit, is_alphanumeric}
use Rattle.ped_tree.specs.Tree.{ExprTree, Int, Head}
use Rattle.ped_tree.specs.Grammar.Words.{is_name, is_numeral, numeral_value}
use Rattle.ped_tree.specs.Grammar.ExpressionForms.{ExprForm, expr_form_text, expr_form_tree}
use Rattle.ped_tree.specs.Grammar.Items.{Item, begins_do}
use Rattle.ped_tree.specs.Grammar.StatementForms.{is_label, LabelForm, no_label, a_label, ControlForm, control, comma_text, label_form_text, further_form_text, control_form_text, form_label, step_form_tree, control_form_head}
use Rattle.ped_expressions.specs.Scanning.{◌>>=◌, front, behind, first_is, after}
use Rattle.ped_expressions.specs.ExpressionReading.{with_literals, expr_of}
use Rattle.ped_statements.specs.Saturated.{head_with_literals}
use Rattle.ped_statements.specs.Listing.{is_end, whole}
use Rattle.ped_statements.specs.StatementReading.{name_at, without_comma, step_of, head, control_of, do_of, assignment_of}
use Rattle.ped_expressions.proofs.Basics.{some_is, bind_some, stops_or_goes, chosen, guarded, front_behind, after_is}
use Rattle.ped_expressions.proofs.Sound.{read_on}
use Rattle.ped_expressions.proofs.Again.{stops, front_again, behind_again}
use Rattle.ped_statements.proofs.NoAssignment.{word_alone}
use Rattle.ped_statements.proofs.Several.{whole_is}
use Rattle.ped_statements.proofs.Pieces.{ends_part, expr_finds, expr_part, name_found, name_back, name_alphanumeric, numeral_digits}

comma_is : (ts : List ℕ) → (comma : Bool) × (ts ≡ comma_text comma ++ without_comma ts)
comma_is ts =
    elim (stops_or_goes (after (codes ",") ts) ts (λ r. r) (without_comma ts) refl) [
      | inl g ↦ (false, g.1)
      | inr g ↦ (true, after_is (codes ",") ts g.0 g.1 ∙ ap (λ (w : List ℕ). codes "," ++ w) g.2)
    ]

-- increments

FoundStep : (ℕ → ℕ) → List ℕ → ExprTree × List ℕ → Type 0
FoundStep v ts y = (o : Option ExprForm) × (with_literals v (step_form_tree o) ≡ y.0) × (ts ≡ further_form_text o ++ y.1)

step_found : (v : ℕ → ℕ) (ts : List ℕ) (y : ExprTree × List ℕ) → step_of v ts ≡ Some y → FoundStep v ts y
unfolding step_of FoundStep
step_found v ts y h =
    elim (stops_or_goes (after (codes ",") ts) (Some (Int (v 1), ts)) (λ r. expr_of v r) (Some y) h) [
      | inl g ↦ subst (λ (z : ExprTree × List ℕ). (o : Option ExprForm) × (with_literals v (step_form_tree o) ≡ z.0) × (ts ≡ further_form_text o ++ z.1)) (some_is (Int (v 1), ts) y g.1) (None, refl, refl)
      | inr g ↦
          let f = expr_finds v g.0 y g.2 in
          (Some f.0, f.1, after_is (codes ",") ts g.0 g.1 ∙ read_on (codes ",") (expr_form_text f.0) g.0 y.1 f.2)
    ]

step_again : (v : ℕ → ℕ) (o : Option ExprForm) → step_of v (further_form_text o) ≡ Some (with_literals v (step_form_tree o), [])
unfolding step_of
step_again v None = refl
step_again v (Some e) = ap (expr_of v) (sym (append-nil (expr_form_text e))) ∙ expr_part v e [] refl

step_ends : (o : Option ExprForm) → ends_part (further_form_text o) ≡ true
step_ends None = refl
step_ends (Some e) = refl

-- the control of a DO

control_text : (x c d e f g : List ℕ) → x ++ c ++ d ++ e ++ f ++ g ≡ x ++ (c ++ (d ++ (e ++ (f ++ g))))
control_text x c d e f g = simp append_assoc

pub control_found : (v : ℕ → ℕ) (parallel : Bool) (ts : List ℕ) (h : Head) → whole (control_of v parallel ts) ≡ Some h → (c : ControlForm) × (control_form_text c ≡ ts) × (head_with_literals v (control_form_head parallel c) ≡ h)
unfolding control_of FoundStep
control_found v parallel ts h all =
    let x = bind_some (name_at ts) (λ x. after (codes "=") x.1 >>= λ q. expr_of v q >>= λ a. after (codes ",") a.1 >>= λ r. expr_of v r >>= λ b. step_of v b.1 >>= λ s. Some (head parallel x.0 a.0 b.0 s.0, s.1)) (h, []) (whole_is (control_of v parallel ts) h all) in
    let q = bind_some (after (codes "=") x.0.1) (λ q. expr_of v q >>= λ a. after (codes ",") a.1 >>= λ r. expr_of v r >>= λ b. step_of v b.1 >>= λ s. Some (head parallel x.0.0 a.0 b.0 s.0, s.1)) (h, []) x.2 in
    let a = bind_some (expr_of v q.0) (λ a. after (codes ",") a.1 >>= λ r. expr_of v r >>= λ b. step_of v b.1 >>= λ s. Some (head parallel x.0.0 a.0 b.0 s.0, s.1)) (h, []) q.2 in
    let r = bind_some (after (codes ",") a.0.1) (λ r. expr_of v r >>= λ b. step_of v b.1 >>= λ s. Some (head parallel x.0.0 a.0.0 b.0 s.0, s.1)) (h, []) a.2 in
    let b = bind_some (expr_of v r.0) (λ b. step_of v b.1 >>= λ s. Some (head parallel x.0.0 a.0.0 b.0 s.0, s.1)) (h, []) r.2 in
    let s = bind_some (step_of v b.0.1) (λ s. Some (head parallel x.0.0 a.0.0 b.0.0 s.0, s.1)) (h, []) b.2 in
    let n = name_found ts x.0 x.1 in
    let f = expr_finds v q.0 a.0 a.1 in
    let g = expr_finds v r.0 b.0 b.1 in
    let o = step_found v b.0.1 s.0 s.1 in
    let is : is_name x.0.0 ≡ true = ap is_name (sym n.2) ∙ n.1 in
    let made = some_is (head parallel x.0.0 a.0.0 b.0.0 s.0.0, s.0.1) (h, []) s.2 in
    let nothing : s.0.1 ≡ [] = ap (λ (y : Head × List ℕ). y.1) made in
    let text : ts ≡ control_form_text (control x.0.0 is f.0 g.0 o.0) =
    n.3 ∙ ap (λ (y : List ℕ). y ++ x.0.1) n.2
    ∙ read_on x.0.0 (codes "=") x.0.1 q.0 (after_is (codes "=") x.0.1 q.0 q.1)
    ∙ read_on (x.0.0 ++ codes "=") (expr_form_text f.0) q.0 a.0.1 f.2
    ∙ read_on (x.0.0 ++ codes "=" ++ expr_form_text f.0) (codes ",") a.0.1 r.0 (after_is (codes ",") a.0.1 r.0 r.1)
    ∙ read_on (x.0.0 ++ codes "=" ++ expr_form_text f.0 ++ codes ",") (expr_form_text g.0) r.0 b.0.1 g.2
    ∙ read_on (x.0.0 ++ codes "=" ++ expr_form_text f.0 ++ codes "," ++ expr_form_text g.0) (further_form_text o.0) b.0.1 s.0.1 o.2
    ∙ ap (λ (y : List ℕ). x.0.0 ++ codes "=" ++ expr_form_text f.0 ++ codes "," ++ expr_form_text g.0 ++ further_form_text o.0 ++ y) nothing
    ∙ append-nil (x.0.0 ++ codes "=" ++ expr_form_text f.0 ++ codes "," ++ expr_form_text g.0 ++ further_form_text o.0) in
    let tree : head parallel x.0.0 (with_literals v (expr_form_tree f.0)) (with_literals v (expr_form_tree g.0)) (with_literals v (step_form_tree o.0)) ≡ h =
    ap (λ (t : ExprTree). head parallel x.0.0 t (with_literals v (expr_form_tree g.0)) (with_literals v (step_form_tree o.0))) f.1
    ∙ ap (λ (t : ExprTree). head parallel x.0.0 a.0.0 t (with_literals v (step_form_tree o.0))) g.1
    ∙ ap (λ (t : ExprTree). head parallel x.0.0 a.0.0 b.0.0 t) o.1
    ∙ ap (λ (y : Head × List ℕ). y.0) made in
    (control x.0.0 is f.0 g.0 o.0, sym text, tree)

pub control_again : (v : ℕ → ℕ) (parallel : Bool) (c : ControlForm) → whole (control_of v parallel (control_form_text c)) ≡ Some (head_with_literals v (control_form_head parallel c))
unfolding control_of
control_again v parallel (control x is begin limit step) =
    let behind_limit = further_form_text step in
    let behind_begin = codes "," ++ (expr_form_text limit ++ behind_limit) in
    let behind_name = codes "=" ++ (expr_form_text begin ++ behind_begin) in
    let n = name_back x behind_name is refl in
    let a = expr_part v begin behind_begin refl in
    let b = expr_part v limit behind_limit (step_ends step) in
    let s = step_again v step in
    ap (λ (ts : List ℕ). whole (control_of v parallel ts)) (control_text x (codes "=") (expr_form_text begin) (codes ",") (expr_form_text limit) behind_limit)
    ∙ rw (n, a, b, s) refl

-- labels

label_numeral : (ds : List ℕ) → is_label ds ≡ true → is_numeral ds ≡ true
label_numeral ds h = grind arith

label_digits : (ds : List ℕ) → is_label ds ≡ true → list_all is_digit ds ≡ true
label_digits ds h = numeral_digits ds (label_numeral ds h)

label_no_end : (ds : List ℕ) → is_label ds ≡ true → is_end ds ≡ false
label_no_end [] h = absurd cc
label_no_end (c ∷ cs) h = refl

-- what a control begins with

name_no_digit : (x rest : List ℕ) → is_name x ≡ true → stops is_digit (x ++ rest) ≡ true
name_no_digit [] rest h = absurd cc
name_no_digit (c ∷ cs) rest h = grind (arith, eqb-true)

name_no_comma : (x rest : List ℕ) → is_name x ≡ true → after (codes ",") (x ++ rest) ≡ None
name_no_comma [] rest h = absurd cc
name_no_comma (c ∷ cs) rest h = grind (arith, eqb-true)

name_begins : (c : ControlForm) → (x : List ℕ) × (rest : List ℕ) × (is_name x ≡ true) × (control_form_text c ≡ x ++ rest)
name_begins (control x is begin limit step) = (x, codes "=" ++ (expr_form_text begin ++ (codes "," ++ (expr_form_text limit ++ further_form_text step))), is, control_text x (codes "=") (expr_form_text begin) (codes ",") (expr_form_text limit) (further_form_text step))

control_stops : (c : ControlForm) → stops is_digit (control_form_text c) ≡ true
control_stops c = let n = name_begins c in ap (stops is_digit) n.3 ∙ name_no_digit n.0 n.1 n.2

control_no_comma : (c : ControlForm) → after (codes ",") (control_form_text c) ≡ None
control_no_comma c = let n = name_begins c in ap (after (codes ",")) n.3 ∙ name_no_comma n.0 n.1 n.2

comma_stops : (comma : Bool) (c : ControlForm) → stops is_digit (comma_text comma ++ control_form_text c) ≡ true
comma_stops true c = refl
comma_stops false c = control_stops c

comma_again : (comma : Bool) (c : ControlForm) → without_comma (comma_text comma ++ control_form_text c) ≡ control_form_text c
comma_again true c = refl
comma_again false c = rw (control_no_comma c) refl

-- DO and PARALLEL DO

pub do_found : (v : ℕ → ℕ) (parallel : Bool) (ts : List ℕ) (i : Item) → do_of v parallel ts ≡ Some i
    → (l : LabelForm) × (c : ControlForm) × (label_form_text l ++ control_form_text c ≡ ts) × (begins_do (form_label l) (head_with_literals v (control_form_head parallel c)) ≡ i)
unfolding do_of
do_found v parallel ts i h =
    let label = front is_digit ts in
    let rest = behind is_digit ts in
    let labelled = whole (control_of v parallel (without_comma rest)) >>= λ h. Some (begins_do (Some (numeral_value label)) h) in
    elim (chosen (is_end label) (whole (control_of v parallel ts) >>= λ h. Some (begins_do None h)) (cond (is_label label) labelled None) (Some i) h) [
      | inl n ↦
          let a = bind_some (whole (control_of v parallel ts)) (λ h. Some (begins_do None h)) i n.1 in
          let c = control_found v parallel ts a.0 a.1 in
          (no_label, c.0, c.1, ap (begins_do None) c.2 ∙ some_is (begins_do None a.0) i a.2)
      | inr l ↦
          let g = guarded (is_label label) labelled i l.1 in
          let a = bind_some (whole (control_of v parallel (without_comma rest))) (λ h. Some (begins_do (Some (numeral_value label)) h)) i g.1 in
          let c = control_found v parallel (without_comma rest) a.0 a.1 in
          let w = comma_is rest in (
            a_label label g.0 w.0,
            c.0,
            append_assoc label (comma_text w.0) (control_form_text c.0) ∙ ap (λ (t : List ℕ). label ++ (comma_text w.0 ++ t)) c.1 ∙ ap (λ (t : List ℕ). label ++ t) (sym w.1) ∙ front_behind is_digit ts,
            ap (begins_do (Some (numeral_value label))) c.2 ∙ some_is (begins_do (Some (numeral_value label)) a.0) i a.2,
          )
    ]

pub do_again : (v : ℕ → ℕ) (parallel : Bool) (l : LabelForm) (c : ControlForm) → do_of v parallel (label_form_text l ++ control_form_text c) ≡ Some (begins_do (form_label l) (head_with_literals v (control_form_head parallel c)))
unfolding do_of
do_again v parallel no_label c =
    let f : front is_digit (control_form_text c) ≡ [] = front_again is_digit [] (control_form_text c) refl (control_stops c) in
    let k = control_again v parallel c in
    rw (f, k) refl
do_again v parallel (a_label label is comma) c =
    let rest = comma_text comma ++ control_form_text c in
    let d = label_digits label is in
    let f = front_again is_digit label rest d (comma_stops comma c) in
    let b = behind_again is_digit label rest d (comma_stops comma c) in
    let e = label_no_end label is in
    let w = comma_again comma c in
    let k = control_again v parallel c in
    ap (do_of v parallel) (append_assoc label (comma_text comma) (control_form_text c)) ∙ rw (f, b, e, is, w, k) refl

-- a DO is no assignment

digit_alphanumeric : (ds : List ℕ) → list_all is_digit ds ≡ true → list_all is_alphanumeric ds ≡ true
digit_alphanumeric [] h = refl
digit_alphanumeric (c ∷ cs) h =
    let k : is_alphanumeric c ≡ true = grind arith in
    let m : list_all is_digit cs ≡ true = grind arith in
    rw (k, digit_alphanumeric cs m) refl

label_alphanumeric : (ds : List ℕ) → is_label ds ≡ true → list_all is_alphanumeric ds ≡ true
label_alphanumeric ds h = digit_alphanumeric ds (label_digits ds h)

both_all : (x y : List ℕ) → list_all is_alphanumeric x ≡ true → list_all is_alphanumeric y ≡ true → list_all is_alphanumeric (x ++ y) ≡ true
both_all x y p q = list_all-append is_alphanumeric x y ∙ rw (p, q) refl

unended : (v : ℕ → ℕ) (e : ExprForm) (r q : List ℕ) → codes "=" ++ (expr_form_text e ++ (codes "," ++ r)) ≡ codes "=" ++ q → whole (expr_of v q) ≡ None
unended v e r q h =
    let same : expr_form_text e ++ (codes "," ++ r) ≡ q = cc in
    let p = expr_part v e (codes "," ++ r) refl in
    subst (λ (w : List ℕ). whole (expr_of v w) ≡ None) same (rw p refl)

-- a word that ends in the variable: a comma follows the initial value
variable_assigns_nothing : (v : ℕ → ℕ) (word x : List ℕ) (begin : ExprForm) (r : List ℕ) → list_all is_alphanumeric word ≡ true → ((t : List ℕ) → first_is is_letter (word ++ t) ≡ true) → is_name x ≡ true
    → assignment_of v (word ++ (x ++ (codes "=" ++ (expr_form_text begin ++ (codes "," ++ r))))) ≡ None
variable_assigns_nothing v word x begin r a l n =
    let rest = codes "=" ++ (expr_form_text begin ++ (codes "," ++ r)) in
    ap (assignment_of v) (sym (append_assoc word x rest))
    ∙ word_alone v (word ++ x) rest (both_all word x a (name_alphanumeric x n)) refl (ap (first_is is_letter) (append_assoc word x rest) ∙ l (x ++ rest)) refl (λ q h. unended v begin r q (after_is (codes "=") rest q h))

-- the same behind a label, or a comma follows the label
label_assigns_nothing : (v : ℕ → ℕ) (word : List ℕ) (l : LabelForm) (x : List ℕ) (begin : ExprForm) (r : List ℕ) → list_all is_alphanumeric word ≡ true → ((t : List ℕ) → first_is is_letter (word ++ t) ≡ true) → is_name x ≡ true
    → assignment_of v (word ++ (label_form_text l ++ (x ++ (codes "=" ++ (expr_form_text begin ++ (codes "," ++ r)))))) ≡ None
label_assigns_nothing v word no_label x begin r a l n = variable_assigns_nothing v word x begin r a l n
label_assigns_nothing v word (a_label label is true) x begin r a l n =
    let rest = codes "," ++ (x ++ (codes "=" ++ (expr_form_text begin ++ (codes "," ++ r)))) in
    ap (λ (w : List ℕ). assignment_of v (word ++ w)) (append_assoc label (codes ",") (x ++ (codes "=" ++ (expr_form_text begin ++ (codes "," ++ r)))))
    ∙ ap (assignment_of v) (sym (append_assoc word label rest))
    ∙ word_alone v (word ++ label) rest (both_all word label a (label_alphanumeric label is)) refl (ap (first_is is_letter) (append_assoc word label rest) ∙ l (label ++ rest)) refl (λ q h. absurd cc)
label_assigns_nothing v word (a_label label is false) x begin r a l n =
    let rest = x ++ (codes "=" ++ (expr_form_text begin ++ (codes "," ++ r))) in
    ap (λ (w : List ℕ). assignment_of v (word ++ (w ++ rest))) (append-nil label)
    ∙ ap (assignment_of v) (sym (append_assoc word label rest))
    ∙ variable_assigns_nothing v (word ++ label) x begin r (both_all word label a (label_alphanumeric label is)) (λ t. ap (first_is is_letter) (append_assoc word label t) ∙ l (label ++ t)) n

pub do_assigns_nothing : (v : ℕ → ℕ) (word : List ℕ) (l : LabelForm) (c : ControlForm) → list_all is_alphanumeric word ≡ true → ((t : List ℕ) → first_is is_letter (word ++ t) ≡ true) → assignment_of v (word ++ (label_form_text l ++ control_form_text c)) ≡ None
do_assigns_nothing v word l (control x is begin limit step) a b =
    ap (λ (w : List ℕ). assignment_of v (word ++ (label_form_text l ++ w))) (control_text x (codes "=") (expr_form_text begin) (codes ",") (expr_form_text limit) (further_form_text step))
    ∙ label_assigns_nothing v word l x begin (expr_form_text limit ++ further_form_text step) a b is
