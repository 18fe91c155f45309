-- What is read of CALL, SUBROUTINE and RETURN is written so, and what is written so is read.
use Rattle.std.proofs.Common.{◌≡◌, ℕ, true, List, [], ◌∷◌, ◌++◌, map, Option, Some, None, refl, sym, ap, subst, ◌∙◌, append_assoc, inl, inr}
use Rattle.std.specs.Prelude.{codes, IsTrue}
use Rattle.std.specs.List.{list_all, flat_map, join_by}
use Rattle.std.proofs.lemmas.List.{map-id}
use Rattle.std.specs.Cmp.Lexicographic.{same_text}
use Rattle.ped_base.specs.Letters.{is_alphanumeric}
use Rattle.ped_base.specs.Lists.{is_same_text}
use Rattle.ped_tree.specs.Tree.{ExprTree, ExprTrees, more_exprs, CondTree}
use Rattle.ped_tree.specs.Views.{pack_exprs}
use Rattle.ped_tree.specs.Grammar.Words.{is_name}
use Rattle.ped_tree.specs.Grammar.ExpressionForms.{ExprForm, ExprsForm, one, more, expr_form_text, exprs_form_text, expr_form_tree, exprs_form_trees}
use Rattle.ped_tree.specs.Grammar.ConditionForms.{CondForm, cond_form_text, cond_form_tree}
use Rattle.ped_tree.specs.Grammar.Items.{Reading, says, outside_profile, no_form}
use Rattle.ped_tree.specs.Grammar.Reading.{HasNoForm, IsReading}
use Rattle.ped_expressions.specs.Scanning.{◌>>=◌, go_on, after}
use Rattle.ped_expressions.specs.ExpressionReading.{with_literals, all_with_literals, expr_of}
use Rattle.ped_expressions.specs.ConditionReading.{cond_of, cond_with_literals}
use Rattle.ped_expressions.proofs.Again.{stops}
use Rattle.ped_expressions.proofs.Basics.{some_is, bind_some, stops_or_goes, chosen, guarded, after_is}
use Rattle.ped_expressions.proofs.CondAgain.{cond_again, ors_stop}
use Rattle.ped_expressions.proofs.CondSound.{FoundCond, cond_found}
use Rattle.ped_valid.specs.ped_parse.specs.ped_statements.specs.Listing.{is_end, several}
use Rattle.ped_valid.specs.ped_parse.specs.ped_statements.specs.Saturated.{reading_with_literals, IsReadAs}
use Rattle.ped_valid.specs.ped_parse.specs.ped_statements.specs.StatementReading.{name_at}
use Rattle.ped_valid.specs.ped_parse.specs.ped_statements.proofs.Pieces.{expr_finds, expr_part, ends_part, name_found, name_back}
use Rattle.ped_valid.specs.ped_parse.specs.ped_statements.proofs.Several.{Finds, IsReadBack, Shrinks, shrinks, several_found, several_again}
use Rattle.ped_units.specs.Forms.{Called, UnitItem, plain, calls, calls_if, begins_unit, returns, ArgumentsForm, no_arguments, some_arguments, CallForm, a_call, UnitForm, call, if_call, subroutine, a_return, arguments_form_text, call_form_text, formals_form_text, unit_form_text, arguments_form_trees, call_form_called, unit_form_item, HasNoUnitForm, IsUnitItem}
use Rattle.ped_units.specs.UnitReading.{closed, arguments_of, called, called_of, closed_names, formals_of, subroutine_of, if_call_of, unit_item_in, or_unit_item, called_with_literals, item_with_literals, IsItemReadAs}

ends_nothing : (ts : List ℕ) → is_end ts ≡ true → ts ≡ []
ends_nothing [] h = refl
ends_nothing (c ∷ ts) h = absurd cc

same_words : (x w : List ℕ) → is_same_text x w ≡ true → x ≡ w
same_words x w h = same_text x w (sym h)

-- expressions, as a list of forms

abbrev first_form : ExprsForm → ExprForm
first_form (one e) = e
first_form (more e rest) = e

abbrev further_forms : ExprsForm → List ExprForm
further_forms (one e) = []
further_forms (more e rest) = first_form rest ∷ further_forms rest

abbrev packed_form : ExprForm → List ExprForm → ExprsForm
packed_form e [] = one e
packed_form e (f ∷ fs) = more e (packed_form f fs)

abbrev behind_commas : (fs : List ExprForm) → List ℕ
behind_commas fs = flat_map (λ f. codes "," ++ expr_form_text f) fs

listed_text : (es : ExprsForm) → exprs_form_text es ≡ join_by expr_form_text (codes ",") (first_form es ∷ further_forms es)
listed_text (one e) = sym (append_nil (expr_form_text e))
  where
    append_nil : (xs : List ℕ) → xs ++ [] ≡ xs
    append_nil [] = refl
    append_nil (x ∷ xs) = λ i. x ∷ append_nil xs i
listed_text (more e rest) =
    ap (λ (w : List ℕ). expr_form_text e ++ codes "," ++ w) (listed_text rest)
    ∙ regroup (expr_form_text e) (expr_form_text (first_form rest)) (behind_commas (further_forms rest))
  where
    regroup : (a b c : List ℕ) → a ++ codes "," ++ (b ++ c) ≡ a ++ (codes "," ++ b ++ c)
    regroup a b c = simp append_assoc

packed_text : (e : ExprForm) (fs : List ExprForm) → exprs_form_text (packed_form e fs) ≡ join_by expr_form_text (codes ",") (e ∷ fs)
packed_text e [] = listed_text (one e)
packed_text e (f ∷ fs) = listed_text (more e (packed_form f fs)) ∙ ap (join_by expr_form_text (codes ",")) (listed_again e f fs)
  where
    listed_again : (e f : ExprForm) (fs : List ExprForm) → first_form (more e (packed_form f fs)) ∷ further_forms (more e (packed_form f fs)) ≡ e ∷ f ∷ fs
    listed_again e f [] = refl
    listed_again e f (g ∷ gs) = ap (λ (rest : List ExprForm). e ∷ rest) (listed_again f g gs)

abbrev with_form : (ℕ → ℕ) → ExprForm → ExprTree
with_form v e = with_literals v (expr_form_tree e)

listed_trees : (v : ℕ → ℕ) (es : ExprsForm) → pack_exprs (map (with_form v) (first_form es ∷ further_forms es)) ≡ all_with_literals v (exprs_form_trees es)
listed_trees v (one e) = refl
listed_trees v (more e rest) = ap (more_exprs (with_form v e)) (listed_trees v rest)

packed_trees : (v : ℕ → ℕ) (e : ExprForm) (fs : List ExprForm) → pack_exprs (map (with_form v) (e ∷ fs)) ≡ all_with_literals v (exprs_form_trees (packed_form e fs))
packed_trees v e [] = refl
packed_trees v e (f ∷ fs) = ap (more_exprs (with_form v e)) (packed_trees v f fs)

-- expressions as items of lists

exprs_found : (v : ℕ → ℕ) → Finds expr_form_text (with_form v) (λ e. true) (expr_of v)
exprs_found v ts x h = let f = expr_finds v ts x h in (f.0, refl, f.1, f.2)

exprs_back : (v : ℕ → ℕ) → IsReadBack expr_form_text (with_form v) (λ e. true) ends_part (expr_of v)
exprs_back v e rest g h = expr_part v e rest h

pub exprs_shrink : (v : ℕ → ℕ) → Shrinks (expr_of v)
exprs_shrink v = shrinks expr_form_text (with_form v) (λ e. true) (expr_of v) (exprs_found v)

all_true : (fs : List ExprForm) → list_all (λ e. true) fs ≡ true
all_true [] = refl
all_true (f ∷ fs) = all_true fs

-- arguments

-- a form of arguments with this text and these trees
abbrev FoundArguments : (ℕ → ℕ) → List ℕ → List ExprTree → Type 0
FoundArguments v ts es = (a : ArgumentsForm) × (arguments_form_text a ≡ ts) × (all_with_literals v (arguments_form_trees a) ≡ pack_exprs es)

arguments_found : (v : ℕ → ℕ) (ts : List ℕ) (es : List ExprTree) → arguments_of v ts ≡ Some es → FoundArguments v ts es
unfolding arguments_of
arguments_found v ts es h =
    elim (chosen (is_end ts) (Some []) (after (codes "(") ts >>= λ q. several (expr_of v) q >>= λ y. closed y.0 y.1) (Some es) h) [
      | inl g ↦ (no_arguments, sym (ends_nothing ts g.0), ap pack_exprs (some_is [] es g.1))
      | inr g ↦
          let a = bind_some (after (codes "(") ts) (λ q. several (expr_of v) q >>= λ y. closed y.0 y.1) es g.1 in
          let b = bind_some (several (expr_of v) a.0) (λ y. closed y.0 y.1) es a.2 in
          let c = guarded (is_same_text b.0.1 (codes ")")) (Some b.0.0) es b.2 in
          let f = several_found expr_form_text (with_form v) (λ e. true) (expr_of v) (exprs_found v) a.0 b.0 b.1 in
          let t = join_by expr_form_text (codes ",") (f.0 ∷ f.1) in (
            some_arguments (packed_form f.0 f.1),
            ap (λ (w : List ℕ). codes "(" ++ w ++ codes ")") (packed_text f.0 f.1)
                ∙ append_assoc (codes "(") t (codes ")")
                ∙ ap (λ (w : List ℕ). codes "(" ++ (t ++ w)) (sym (same_words b.0.1 (codes ")") c.0))
                ∙ ap (λ (w : List ℕ). codes "(" ++ w) (sym f.4)
                ∙ sym (after_is (codes "(") ts a.0 a.1),
            sym (packed_trees v f.0 f.1) ∙ ap pack_exprs (f.3 ∙ some_is b.0.0 es c.1),
          )
    ]

arguments_again : (v : ℕ → ℕ) (a : ArgumentsForm) → (es : List ExprTree) × (arguments_of v (arguments_form_text a) ≡ Some es) × (pack_exprs es ≡ all_with_literals v (arguments_form_trees a))
unfolding arguments_of
arguments_again v no_arguments = ([], refl, refl)
arguments_again v (some_arguments es) =
    let f = first_form es in
    let fs = further_forms es in
    let t = join_by expr_form_text (codes ",") (f ∷ fs) in
    let trees = map (with_form v) (f ∷ fs) in
    let read : several (expr_of v) (t ++ codes ")") ≡ Some (trees, codes ")") =
    several_again expr_form_text (with_form v) (λ e. true) ends_part (expr_of v) (exprs_shrink v) (exprs_back v) (λ r. refl) f fs (codes ")") (all_true (f ∷ fs)) refl refl in
    let text : arguments_form_text (some_arguments es) ≡ codes "(" ++ (t ++ codes ")") =
    ap (λ (w : List ℕ). codes "(" ++ w ++ codes ")") (listed_text es) ∙ append_assoc (codes "(") t (codes ")") in (
      trees,
      ap (arguments_of v) text ∙ ap (λ (o : Option (List ExprTree × List ℕ)). o >>= λ y. closed y.0 y.1) read,
      listed_trees v es,
    )

-- CALL

abbrev FoundCalled : (ℕ → ℕ) → List ℕ → Called → Type 0
FoundCalled v ts c = (f : CallForm) × (call_form_text f ≡ codes "CALL" ++ ts) × (called_with_literals v (call_form_called f) ≡ c)

called_found : (v : ℕ → ℕ) (ts : List ℕ) (c : Called) → called_of v ts ≡ Some c → FoundCalled v ts c
unfolding called_of
called_found v ts c h =
    let a = bind_some (name_at ts) (λ x. arguments_of v x.1 >>= λ es. Some (called x.0 es)) c h in
    let b = bind_some (arguments_of v a.0.1) (λ es. Some (called a.0.0 es)) c a.2 in
    let n = name_found ts a.0 a.1 in
    let f = arguments_found v a.0.1 b.0 b.1 in (
      a_call n.0 n.1 f.0,
      append_assoc (codes "CALL") n.0 (arguments_form_text f.0) ∙ ap (λ (w : List ℕ). codes "CALL" ++ (n.0 ++ w)) f.1 ∙ ap (λ (w : List ℕ). codes "CALL" ++ w) (sym n.3),
      (λ i. record { name = n.2 i; arguments = f.2 i }) ∙ some_is (called a.0.0 b.0) c b.2,
    )

ends_name : (a : ArgumentsForm) → stops is_alphanumeric (arguments_form_text a) ≡ true
ends_name no_arguments = refl
ends_name (some_arguments es) = refl

called_again : (v : ℕ → ℕ) (x : List ℕ) (is : IsTrue (is_name x)) (a : ArgumentsForm) → called_of v (x ++ arguments_form_text a) ≡ Some (called_with_literals v (call_form_called (a_call x is a)))
unfolding called_of
called_again v x is a =
    let r = arguments_again v a in
    ap (λ (o : Option (List ℕ × List ℕ)). o >>= λ x. arguments_of v x.1 >>= λ es. Some (called x.0 es)) (name_back x (arguments_form_text a) is (ends_name a))
    ∙ ap (λ (o : Option (List ExprTree)). o >>= λ es. Some (called x es)) r.1
    ∙ ap (λ (es : ExprTrees). Some (record { name = x; arguments = es })) r.2

-- SUBROUTINE

abbrev FoundFormals : List ℕ → List (List ℕ) → Type 0
FoundFormals ts names = IsTrue (list_all is_name names) × (formals_form_text names ≡ ts)

formals_found : (ts : List ℕ) (names : List (List ℕ)) → formals_of ts ≡ Some names → FoundFormals ts names
unfolding formals_of
formals_found ts names h =
    elim (chosen (is_end ts) (Some []) (after (codes "(") ts >>= λ q. several name_at q >>= λ y. closed_names y.0 y.1) (Some names) h) [
      | inl g ↦
          let e : [] ≡ names = some_is [] names g.1 in
          subst (λ (ns : List (List ℕ)). IsTrue (list_all is_name ns) × (formals_form_text ns ≡ ts)) e (refl, sym (ends_nothing ts g.0))
      | inr g ↦
          let a = bind_some (after (codes "(") ts) (λ q. several name_at q >>= λ y. closed_names y.0 y.1) names g.1 in
          let b = bind_some (several name_at a.0) (λ y. closed_names y.0 y.1) names a.2 in
          let c = guarded (is_same_text b.0.1 (codes ")")) (Some b.0.0) names b.2 in
          let f = several_found (λ x. x) (λ x. x) is_name name_at name_found a.0 b.0 b.1 in
          let t = join_by (λ (x : List ℕ). x) (codes ",") (f.0 ∷ f.1) in
          let same : f.0 ∷ f.1 ≡ names = sym (map-id (f.0 ∷ f.1)) ∙ f.3 ∙ some_is b.0.0 names c.1 in
          subst (λ (ns : List (List ℕ)). IsTrue (list_all is_name ns) × (formals_form_text ns ≡ ts)) same (
            f.2,
            append_assoc (codes "(") t (codes ")")
                ∙ ap (λ (w : List ℕ). codes "(" ++ (t ++ w)) (sym (same_words b.0.1 (codes ")") c.0))
                ∙ ap (λ (w : List ℕ). codes "(" ++ w) (sym f.4)
                ∙ sym (after_is (codes "(") ts a.0 a.1),
          )
    ]

formals_again : (names : List (List ℕ)) → IsTrue (list_all is_name names) → formals_of (formals_form_text names) ≡ Some names
unfolding formals_of
formals_again [] are = refl
formals_again (x ∷ xs) are =
    let t = join_by (λ (x : List ℕ). x) (codes ",") (x ∷ xs) in
    let read : several name_at (t ++ codes ")") ≡ Some (map (λ x. x) (x ∷ xs), codes ")") =
    several_again (λ x. x) (λ x. x) is_name (stops is_alphanumeric) name_at (shrinks (λ x. x) (λ x. x) is_name name_at name_found) name_back (λ r. refl) x xs (codes ")") are refl refl in
    ap formals_of (append_assoc (codes "(") t (codes ")"))
    ∙ ap (λ (o : Option (List (List ℕ) × List ℕ)). o >>= λ y. closed_names y.0 y.1) read
    ∙ ap (λ (ns : List (List ℕ)). Some ns) (map-id (x ∷ xs))

ends_subroutine : (names : List (List ℕ)) → stops is_alphanumeric (formals_form_text names) ≡ true
ends_subroutine [] = refl
ends_subroutine (x ∷ xs) = refl

abbrev pub FoundUnit : (ℕ → ℕ) → List ℕ → UnitItem → Type 0
FoundUnit v ts i = (f : UnitForm) × (unit_form_text f ≡ ts) × (item_with_literals v (unit_form_item f) ≡ i)

subroutine_found : (v : ℕ → ℕ) (ts : List ℕ) (i : UnitItem) → subroutine_of ts ≡ Some i → FoundUnit v (codes "SUBROUTINE" ++ ts) i
unfolding subroutine_of
subroutine_found v ts i h =
    let a = bind_some (name_at ts) (λ x. formals_of x.1 >>= λ names. Some (begins_unit x.0 names)) i h in
    let b = bind_some (formals_of a.0.1) (λ names. Some (begins_unit a.0.0 names)) i a.2 in
    let n = name_found ts a.0 a.1 in
    let f = formals_found a.0.1 b.0 b.1 in (
      subroutine n.0 n.1 b.0 f.0,
      append_assoc (codes "SUBROUTINE") n.0 (formals_form_text b.0) ∙ ap (λ (w : List ℕ). codes "SUBROUTINE" ++ (n.0 ++ w)) f.1 ∙ ap (λ (w : List ℕ). codes "SUBROUTINE" ++ w) (sym n.3),
      ap (λ (x : List ℕ). begins_unit x b.0) n.2 ∙ some_is (begins_unit a.0.0 b.0) i b.2,
    )

subroutine_again : (x : List ℕ) → IsTrue (is_name x) → (names : List (List ℕ)) → IsTrue (list_all is_name names) → subroutine_of (x ++ formals_form_text names) ≡ Some (begins_unit x names)
unfolding subroutine_of
subroutine_again x is names are =
    ap (λ (o : Option (List ℕ × List ℕ)). o >>= λ x. formals_of x.1 >>= λ names. Some (begins_unit x.0 names)) (name_back x (formals_form_text names) is (ends_subroutine names))
    ∙ ap (λ (o : Option (List (List ℕ))). o >>= λ names. Some (begins_unit x names)) (formals_again names are)

-- a logical IF with a CALL

cond_finds : (v : ℕ → ℕ) (ts : List ℕ) (x : CondTree × List ℕ) → cond_of v ts ≡ Some x → FoundCond v ts x
unfolding cond_of
cond_finds v ts x h = cond_found v _ ts x h

cond_closed : (v : ℕ → ℕ) (c : CondForm) (rest : List ℕ) → cond_of v (cond_form_text c ++ (codes ")" ++ rest)) ≡ Some (cond_with_literals v (cond_form_tree c), codes ")" ++ rest)
cond_closed v c rest = cond_again v c (codes ")" ++ rest) refl refl ∙ ors_stop v (cond_with_literals v (cond_form_tree c)) (codes ")" ++ rest) refl

if_text : (c d ts q r : List ℕ) → ts ≡ c ++ q → q ≡ codes ")CALL" ++ r → d ≡ codes "CALL" ++ r → codes "IF(" ++ c ++ codes ")" ++ d ≡ codes "IF(" ++ ts
if_text c d ts q r p s t = ap (λ (w : List ℕ). codes "IF(" ++ c ++ codes ")" ++ w) t ∙ regroup c r ∙ ap (λ (w : List ℕ). codes "IF(" ++ (c ++ w)) (sym s) ∙ ap (λ (w : List ℕ). codes "IF(" ++ w) (sym p)
  where
    regroup : (c r : List ℕ) → codes "IF(" ++ c ++ codes ")" ++ (codes "CALL" ++ r) ≡ codes "IF(" ++ (c ++ (codes ")CALL" ++ r))
    regroup c r = simp append_assoc

if_call_found : (v : ℕ → ℕ) (ts : List ℕ) (i : UnitItem) → if_call_of v ts ≡ Some i → FoundUnit v (codes "IF(" ++ ts) i
unfolding if_call_of
if_call_found v ts i h =
    let a = bind_some (cond_of v ts) (λ c. after (codes ")CALL") c.1 >>= λ q. called_of v q >>= λ d. Some (calls_if c.0 d)) i h in
    let b = bind_some (after (codes ")CALL") a.0.1) (λ q. called_of v q >>= λ d. Some (calls_if a.0.0 d)) i a.2 in
    let d = bind_some (called_of v b.0) (λ d. Some (calls_if a.0.0 d)) i b.2 in
    let c = cond_finds v ts a.0 a.1 in
    let f = called_found v b.0 d.0 d.1 in (
      if_call c.0 f.0,
      if_text (cond_form_text c.0) (call_form_text f.0) ts a.0.1 b.0 c.2 (after_is (codes ")CALL") a.0.1 b.0 b.1) f.1,
      (λ i. calls_if (c.1 i) (f.2 i)) ∙ some_is (calls_if a.0.0 d.0) i d.2,
    )

if_call_again : (v : ℕ → ℕ) (e : CondForm) (c : CallForm) → if_call_of v (cond_form_text e ++ (codes ")" ++ call_form_text c)) ≡ Some (calls_if (cond_with_literals v (cond_form_tree e)) (called_with_literals v (call_form_called c)))
unfolding if_call_of
if_call_again v e (a_call x is a) =
    let w = x ++ arguments_form_text a in
    let t : call_form_text (a_call x is a) ≡ codes "CALL" ++ w = append_assoc (codes "CALL") x (arguments_form_text a) in
    ap (λ (u : List ℕ). if_call_of v (cond_form_text e ++ (codes ")" ++ u))) t
    ∙ ap (λ (o : Option (CondTree × List ℕ)). o >>= λ c. after (codes ")CALL") c.1 >>= λ q. called_of v q >>= λ d. Some (calls_if c.0 d)) (cond_closed v e (codes "CALL" ++ w))
    ∙ ap (λ (o : Option Called). o >>= λ d. Some (calls_if (cond_with_literals v (cond_form_tree e)) d)) (called_again v x is a)

-- all of them

pub unit_found : (v : ℕ → ℕ) (ts : List ℕ) (i : UnitItem) → unit_item_in v ts ≡ Some i → FoundUnit v ts i
unfolding unit_item_in
unit_found v ts i h =
    elim (chosen (is_same_text ts (codes "RETURN")) (Some returns) _ (Some i) h) [
      | inl g ↦ (a_return, sym (same_words ts (codes "RETURN") g.0), some_is returns i g.1)
      | inr g ↦ elim (stops_or_goes (after (codes "CALL") ts) _ (λ q. called_of v q >>= λ c. Some (calls c)) (Some i) g.1) [
        | inr k ↦
            let a = bind_some (called_of v k.0) (λ c. Some (calls c)) i k.2 in
            let f = called_found v k.0 a.0 a.1 in
            (call f.0, f.1 ∙ sym (after_is (codes "CALL") ts k.0 k.1), ap calls f.2 ∙ some_is (calls a.0) i a.2)
        | inl k ↦ elim (stops_or_goes (after (codes "SUBROUTINE") ts) _ (λ q. subroutine_of q) (Some i) k.1) [
          | inr l ↦
              let f = subroutine_found v l.0 i l.2 in
              (f.0, f.1 ∙ sym (after_is (codes "SUBROUTINE") ts l.0 l.1), f.2)
          | inl l ↦
              let a = bind_some (after (codes "IF(") ts) (λ q. if_call_of v q) i l.1 in
              let f = if_call_found v a.0 i a.2 in
              (f.0, f.1 ∙ sym (after_is (codes "IF(") ts a.0 a.1), f.2)
        ]
      ]
    ]

pub unit_again : (v : ℕ → ℕ) (f : UnitForm) → unit_item_in v (unit_form_text f) ≡ Some (item_with_literals v (unit_form_item f))
unfolding unit_item_in
unit_again v (call (a_call x is a)) =
    let t : unit_form_text (call (a_call x is a)) ≡ codes "CALL" ++ (x ++ arguments_form_text a) = append_assoc (codes "CALL") x (arguments_form_text a) in
    ap (unit_item_in v) t ∙ ap (λ (o : Option Called). o >>= λ c. Some (calls c)) (called_again v x is a)
unit_again v (if_call e c) =
    let t : unit_form_text (if_call e c) ≡ codes "IF(" ++ (cond_form_text e ++ (codes ")" ++ call_form_text c)) = regroup (cond_form_text e) (call_form_text c) in
    ap (unit_item_in v) t ∙ if_call_again v e c
  where
    regroup : (a b : List ℕ) → codes "IF(" ++ a ++ codes ")" ++ b ≡ codes "IF(" ++ (a ++ (codes ")" ++ b))
    regroup a b = simp append_assoc
unit_again v (subroutine x is formals are) =
    let t : unit_form_text (subroutine x is formals are) ≡ codes "SUBROUTINE" ++ (x ++ formals_form_text formals) = append_assoc (codes "SUBROUTINE") x (formals_form_text formals) in
    ap (unit_item_in v) t ∙ subroutine_again x is formals are
unit_again v a_return = refl

-- a text that is none of them has no such form
none_there : (v : ℕ → ℕ) (text : List ℕ) → unit_item_in v text ≡ None → HasNoUnitForm text
none_there v text h i (f, p, q) =
    let e : ◌≡◌ {A = Option UnitItem} None (Some (item_with_literals v (unit_form_item f))) = sym h ∙ ap (unit_item_in v) (sym p) ∙ unit_again v f in
    absurd cc

-- a form of CALL, SUBROUTINE or RETURN where the profile has none
by_form : (v : ℕ → ℕ) (text : List ℕ) (f : UnitForm) → HasNoForm text → unit_form_text f ≡ text → IsUnitItem text (unit_form_item f)
by_form v text (call c) none p = (none, (call c, p, refl))
by_form v text (if_call e c) none p = (none, (if_call e c, p, refl))
by_form v text (subroutine x is formals are) none p = (none, (subroutine x is formals are, p, refl))
by_form v text a_return none p = (none, (a_return, p, refl))

found_is_read : (v : ℕ → ℕ) (text : List ℕ) (i : UnitItem) → HasNoForm text → unit_item_in v text ≡ Some i → IsItemReadAs v text i
found_is_read v text i none h = let f = unit_found v text i h in (unit_form_item f.0, by_form v text f.0 none f.1, sym f.2)

outside_is_read : (v : ℕ → ℕ) (text : List ℕ) (o : Option UnitItem) → IsReading text outside_profile → unit_item_in v text ≡ o → IsItemReadAs v text (go_on o (plain outside_profile) (λ i. i))
outside_is_read v text None r h = (plain outside_profile, (r, none_there v text h), refl)
outside_is_read v text (Some i) r h = found_is_read v text i r.0 h

formless_is_read : (v : ℕ → ℕ) (text : List ℕ) (o : Option UnitItem) → IsReading text no_form → unit_item_in v text ≡ o → IsItemReadAs v text (go_on o (plain no_form) (λ i. i))
formless_is_read v text None r h = (plain no_form, (r, none_there v text h), refl)
formless_is_read v text (Some i) r h = found_is_read v text i r.0 h

-- what a text that is read in the profile, or has no form there, is in a file of program units
pub by_reading : (v : ℕ → ℕ) (text : List ℕ) (p : Reading) → IsReading text p → IsItemReadAs v text (or_unit_item v text (reading_with_literals v p))
by_reading v text (says i) r = (plain (says i), r, refl)
by_reading v text outside_profile r = outside_is_read v text (unit_item_in v text) r refl
by_reading v text no_form r = formless_is_read v text (unit_item_in v text) r refl

-- what the text is in the profile, or else CALL, SUBROUTINE or RETURN
pub item_is_read : (v : ℕ → ℕ) (text : List ℕ) (r : Reading) → IsReadAs v text r → IsItemReadAs v text (or_unit_item v text r)
item_is_read v text r h = subst (λ (p : Reading). IsItemReadAs v text (or_unit_item v text p)) (sym h.2) (by_reading v text h.0 h.1)
