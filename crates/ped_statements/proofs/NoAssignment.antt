-- Texts that are no assignments: they have no =, or neither = nor a list in parentheses before = follows their first word.
use Rattle.std.proofs.Common.{◌≡◌, ℕ, Bool, true, false, cond, List, [], ◌∷◌, ◌++◌, Option, Some, None, refl, sym, ap, ◌∙◌, arith, inl, inr}
use Rattle.std.specs.Prelude.{codes}
use Rattle.std.specs.List.{list_all}
use Rattle.std.proofs.lemmas.Bool.{eqb-true}
use Rattle.ped_base.specs.Letters.{is_letter, is_digit, is_alphanumeric}
use Rattle.ped_tree.specs.Tree.{ExprTree, Var, no_exprs, more_exprs, StmtTree, Assign}
use Rattle.ped_tree.specs.Grammar.Words.{is_name}
use Rattle.ped_tree.specs.Grammar.ExpressionForms.{unsigned, first, single, plain, reference, scalar, reference_form_text}
use Rattle.ped_tree.specs.Grammar.ConditionForms.{CondForm, cond_form_text}
use Rattle.ped_expressions.specs.Scanning.{◌>>=◌, front, behind, first_is, after}
use Rattle.ped_expressions.specs.ExpressionReading.{expr_of, primary_of, named_of, exprs_of}
use Rattle.ped_statements.specs.Listing.{whole}
use Rattle.ped_statements.specs.StatementReading.{is_reference, reference_of, assignment_of}
use Rattle.ped_expressions.proofs.Basics.{bind_some, after_is}
use Rattle.ped_expressions.proofs.Equations.{primary_step, named_step, exprs_step}
use Rattle.ped_expressions.proofs.Again.{stops, front_again, behind_again, expr_again, sums_stop}
use Rattle.ped_expressions.proofs.CondAgain.{Fails, cond_fails}
use Rattle.ped_statements.proofs.Pieces.{reference_found}
use Rattle.ped_statements.proofs.NoEquals.{lacks_equals, equals_inside}

-- a text that begins with a letter

letter_opens : (ts : List ℕ) → first_is is_letter ts ≡ true → after (codes "(") ts ≡ None
letter_opens [] h = refl
letter_opens (c ∷ ts) h = grind (arith, eqb-true)

letter_no_digit : (ts : List ℕ) → first_is is_letter ts ≡ true → first_is is_digit ts ≡ false
letter_no_digit [] h = refl
letter_no_digit (c ∷ ts) h = grind (arith, eqb-true)

letter_named : (v : ℕ → ℕ) (ts : List ℕ) → first_is is_letter ts ≡ true → primary_of v ts ≡ named_of v (front is_alphanumeric ts) (behind is_alphanumeric ts)
letter_named v ts h = let o = letter_opens ts h in let d = letter_no_digit ts h in primary_step v ts ∙ rw (o, d) refl

unread : (v : ℕ → ℕ) (ts : List ℕ) → (first_is is_letter ts ≡ true → primary_of v ts ≡ None) → reference_of v ts ≡ None
unfolding reference_of
unread v ts h =
    let go : (b : Bool) → first_is is_letter ts ≡ b → cond b (primary_of v ts >>= λ x. cond (is_reference x.0) (Some x) None) None ≡ None = λ b. elim b as (λ b. first_is is_letter ts ≡ b → cond b (primary_of v ts >>= λ x. cond (is_reference x.0) (Some x) None) None ≡ None) [
      | true ↦ λ l. let p = h l in rw p refl
      | false ↦ λ l. refl
    ] in
    go (first_is is_letter ts) refl

unassigned : (v : ℕ → ℕ) (ts : List ℕ) → reference_of v ts ≡ None → assignment_of v ts ≡ None
unfolding assignment_of
unassigned v ts h = rw h refl

-- a text without =

no_lack : false ≡ true → ⊥
no_lack e = absurd cc

pub no_equals : (v : ℕ → ℕ) (ts : List ℕ) → lacks_equals ts ≡ true → assignment_of v ts ≡ None
unfolding assignment_of
no_equals v ts h =
    let behind_reference : ExprTree × List ℕ → Option StmtTree = λ l. after (codes "=") l.1 >>= λ q. whole (expr_of v q) >>= λ e. Some (Assign l.0 e) in
    let go : (o : Option StmtTree) → (reference_of v ts >>= behind_reference) ≡ o → o ≡ None = λ o. elim o as (λ o. (reference_of v ts >>= behind_reference) ≡ o → o ≡ None) [
      | None ↦ λ e. refl
      | Some s ↦ λ e.
          let l = bind_some (reference_of v ts) behind_reference s e in
          let q = bind_some (after (codes "=") l.0.1) (λ q. whole (expr_of v q) >>= λ e. Some (Assign l.0.0 e)) s l.2 in
          let r = reference_found v ts l.0 l.1 in
          let t = reference_form_text r.0 in
          let text : ts ≡ t ++ (codes "=" ++ q.0) = r.3 ∙ ap (λ (w : List ℕ). t ++ w) (after_is (codes "=") l.0.1 q.0 q.1) in
          absurd (no_lack (sym (equals_inside t q.0) ∙ ap lacks_equals (sym text) ∙ h))
    ] in
    go (assignment_of v ts) refl

-- a word before something else than = or (

word_named : (v : ℕ → ℕ) (x rest : List ℕ) → list_all is_alphanumeric x ≡ true → stops is_alphanumeric rest ≡ true → first_is is_letter (x ++ rest) ≡ true → primary_of v (x ++ rest) ≡ named_of v x rest
word_named v x rest a s l =
    letter_named v (x ++ rest) l
    ∙ ap (λ (w : List ℕ). named_of v w (behind is_alphanumeric (x ++ rest))) (front_again is_alphanumeric x rest a s)
    ∙ ap (named_of v x) (behind_again is_alphanumeric x rest a s)

kept : {A : Type 0} (b : Bool) (a : A) (f : A → Option A) → f a ≡ Some a → (cond b (Some a) None >>= f) ≡ cond b (Some a) None
kept true a f h = h
kept false a f h = refl

word_read : (v : ℕ → ℕ) (x rest : List ℕ) → list_all is_alphanumeric x ≡ true → stops is_alphanumeric rest ≡ true → first_is is_letter (x ++ rest) ≡ true → after (codes "(") rest ≡ None → reference_of v (x ++ rest) ≡ cond (is_name x) (Some (Var x, rest)) None
unfolding reference_of
word_read v x rest a s l o =
    let p : primary_of v (x ++ rest) ≡ cond (is_name x) (Some (Var x, rest)) None = word_named v x rest a s l ∙ named_step v x rest ∙ rw o refl in
    rw (l, p) (kept (is_name x) (Var x, rest) (λ y. cond (is_reference y.0) (Some y) None) refl)

cond_none : {A B : Type 0} (b : Bool) (a : A) (f : A → Option B) → f a ≡ None → (cond b (Some a) None >>= f) ≡ None
cond_none true a f h = h
cond_none false a f h = refl

-- = doesn't follow the word, or what follows = is no expression that ends the text
pub word_alone : (v : ℕ → ℕ) (x rest : List ℕ) → list_all is_alphanumeric x ≡ true → stops is_alphanumeric rest ≡ true → first_is is_letter (x ++ rest) ≡ true → after (codes "(") rest ≡ None
    → ((q : List ℕ) → after (codes "=") rest ≡ Some q → whole (expr_of v q) ≡ None) → assignment_of v (x ++ rest) ≡ None
unfolding assignment_of
word_alone v x rest a s l o none =
    let f : ExprTree × List ℕ → Option StmtTree = λ l. after (codes "=") l.1 >>= λ q. whole (expr_of v q) >>= λ e. Some (Assign l.0 e) in
    let go : (r : Option (List ℕ)) → after (codes "=") rest ≡ r → (r >>= λ q. whole (expr_of v q) >>= λ e. Some (Assign (Var x) e)) ≡ None = λ r. elim r as (λ r. after (codes "=") rest ≡ r → (r >>= λ q. whole (expr_of v q) >>= λ e. Some (Assign (Var x) e)) ≡ None) [
      | None ↦ λ h. refl
      | Some q ↦ λ h. let n = none q h in rw n refl
    ] in
    ap (λ (r : Option (ExprTree × List ℕ)). r >>= f) (word_read v x rest a s l o) ∙ cond_none (is_name x) (Var x, rest) f (go (after (codes "=") rest) refl)

-- neither a condition in parentheses nor a name before = is a list of subscripts

no_choice : {A : Type 0} (b : Bool) → cond {A = Option A} b None None ≡ None
no_choice true = refl
no_choice false = refl

listed_fails : (v : ℕ → ℕ) (x ts : List ℕ) → Fails v ts → named_of v x (codes "(" ++ ts) ≡ None
listed_fails v x ts (inl n) =
    let e : exprs_of v ts ≡ None = exprs_step v ts ∙ rw n refl in
    named_step v x (codes "(" ++ ts) ∙ rw e (no_choice (is_name x))
listed_fails v x ts (inr y) =
    let e : exprs_of v ts ≡ Some (more_exprs y.0 no_exprs, codes "." ++ y.1) = exprs_step v ts ∙ rw y.2 refl in
    named_step v x (codes "(" ++ ts) ∙ rw e (no_choice (is_name x))

pub condition_behind : (v : ℕ → ℕ) (x : List ℕ) (c : CondForm) (rest : List ℕ) → list_all is_alphanumeric x ≡ true → first_is is_letter (x ++ (codes "(" ++ (cond_form_text c ++ rest))) ≡ true → assignment_of v (x ++ (codes "(" ++ (cond_form_text c ++ rest))) ≡ None
condition_behind v x c rest a l =
    let ts = cond_form_text c ++ rest in
    unassigned v (x ++ (codes "(" ++ ts)) (unread v (x ++ (codes "(" ++ ts)) (λ h. word_named v x (codes "(" ++ ts) a refl l ∙ listed_fails v x ts (cond_fails v c rest)))

equals_behind : (v : ℕ → ℕ) (x rest : List ℕ) → is_name x ≡ true → exprs_of v (x ++ (codes "=" ++ rest)) ≡ Some (more_exprs (Var x) no_exprs, codes "=" ++ rest)
equals_behind v x rest is =
    let e : expr_of v (x ++ (codes "=" ++ rest)) ≡ Some (Var x, codes "=" ++ rest) =
    expr_again v (first unsigned (single (plain (reference (scalar x is))))) (codes "=" ++ rest) refl refl ∙ sums_stop v (Var x) (codes "=" ++ rest) refl in
    exprs_step v (x ++ (codes "=" ++ rest)) ∙ rw e refl

pub value_behind : (v : ℕ → ℕ) (w x rest : List ℕ) → list_all is_alphanumeric w ≡ true → first_is is_letter (w ++ (codes "(" ++ (x ++ (codes "=" ++ rest)))) ≡ true → is_name x ≡ true → assignment_of v (w ++ (codes "(" ++ (x ++ (codes "=" ++ rest)))) ≡ None
value_behind v w x rest a l is =
    let ts = x ++ (codes "=" ++ rest) in
    let e = equals_behind v x rest is in
    let n : named_of v w (codes "(" ++ ts) ≡ None = named_step v w (codes "(" ++ ts) ∙ rw e (no_choice (is_name w)) in
    unassigned v (w ++ (codes "(" ++ ts)) (unread v (w ++ (codes "(" ++ ts)) (λ h. word_named v w (codes "(" ++ ts) a refl l ∙ n))
