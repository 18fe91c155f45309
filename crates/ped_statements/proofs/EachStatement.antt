-- Statements: what is read is written so, and what is written so is read.
use Rattle.std.proofs.Common.{◌≡◌, ℕ, Bool, true, false, cond, List, [], ◌∷◌, ◌++◌, map, Option, Some, None, refl, sym, ap, subst, ◌∙◌, append_assoc, inl, inr}
use Rattle.std.specs.Prelude.{codes, IsTrue}
use Rattle.std.specs.List.{list_all, flat_map, join_by}
use Rattle.std.specs.Cmp.Lexicographic.{same_text}
use Rattle.std.proofs.lemmas.List.{append-nil, map-id}
use Rattle.ped_base.specs.Letters.{is_alphanumeric}
use Rattle.ped_tree.specs.Tree as plain
use Rattle.ped_tree.specs.Tree.{ExprTree, CondTree, StmtTree, StmtTrees, DeclaratorTree}
use Rattle.ped_tree.specs.Grammar.Words.{is_name}
use Rattle.ped_base.specs.Lists.{is_same_text}
use Rattle.ped_tree.specs.Grammar.ExpressionForms.{expr_form_text}
use Rattle.ped_tree.specs.Grammar.ConditionForms.{CondForm, cond_form_text, cond_form_tree}
use Rattle.ped_tree.specs.Grammar.Items.{Item, declares, saves_all, logical_if, block_if, else_if, keeps_private}
use Rattle.ped_tree.specs.Grammar.StatementForms.{are_names, DeclaratorForm, of_array, ArrayForm, ConstantForm, a_constant, SimpleForm, LabelForm, ControlForm, StatementForm, program, implicit, integer, dimension, parameter, save, save_all, simple, if_simple, if_then, else_if_then, else_alone, end_of_if, do_loop, end_of_do, private, end, declarator_form_text, constant_form_text, simple_form_text, label_form_text, control_form_text, do_form_word, statement_form_text, behind_if, declarator_form_tree, array_form_tree, constant_form_tree, statement_item}
use Rattle.ped_statements.specs.declared.keywords.Keyword.{Keyword}
use Rattle.ped_statements.specs.declared.keywords.Keyword.TheVariants as keyword
use Rattle.ped_expressions.specs.Scanning.{◌>>=◌, after}
use Rattle.ped_expressions.specs.ConditionReading.{cond_with_literals, cond_of}
use Rattle.ped_statements.specs.Saturated.{declarator_with_literals, value_with_literals, stmts_with_literals, says_with_literals}
use Rattle.ped_statements.specs.Listing.{is_end, whole, several}
use Rattle.ped_statements.specs.StatementReading.{name_at, is_array, declarator_of, value_of, assignment_of, worded_of, simple_of, behind_logical, simply, if_of, else_if_of, do_of, keyword_text, all_keywords, first_keyword, keyword_at, alone, statement_behind, keyword_statement_of, statement_of}
use Rattle.ped_expressions.proofs.Basics.{some_is, bind_some, stops_or_goes, chosen, guarded, after_is}
use Rattle.ped_expressions.proofs.Sound.{read_on}
use Rattle.ped_expressions.proofs.Again.{stops, assoc_4}
use Rattle.ped_expressions.proofs.CondSound.{FoundCond, cond_found}
use Rattle.ped_expressions.proofs.CondAgain.{cond_again, ors_stop}
use Rattle.ped_statements.proofs.NoEquals.{lacks_equals, both_lack, name_lacks, names_lack, declarators_lack}
use Rattle.ped_statements.proofs.NoAssignment.{no_equals, condition_behind, value_behind}
use Rattle.ped_statements.proofs.Several.{first_good, shrinks, several_found, several_again, whole_several_found, whole_several_again}
use Rattle.ped_statements.proofs.Pieces.{ends_part, name_found, name_back}
use Rattle.ped_statements.proofs.Declared.{map_map, all_true, arrays_found, are_arrays, arrays_text, arrays_tree, declarators_shrink, declarator_found, declarator_back, value_found, value_back}
use Rattle.ped_statements.proofs.Simple.{simple_does, simple_says, simple_behind, simple_found, simple_again, not_simple}
use Rattle.ped_statements.proofs.Control.{do_found, do_again, do_assigns_nothing}

-- a statement with this text
abbrev pub FoundStatement : (ℕ → ℕ) → List ℕ → Item → Type 0
FoundStatement v ts i = (f : StatementForm) × (statement_form_text f ≡ ts) × (says_with_literals v (statement_item f) ≡ i)

same_words : (x w : List ℕ) → is_same_text x w ≡ true → w ≡ x
same_words x w h = sym (same_text x w (sym h))

ends_nothing : (ts : List ℕ) → is_end ts ≡ true → [] ≡ ts
ends_nothing [] h = refl
ends_nothing (c ∷ ts) h = absurd cc

-- keywords

first_keyword_is : (ks : List Keyword) (ts : List ℕ) (x : Keyword × List ℕ) → first_keyword ks ts ≡ Some x → ts ≡ keyword_text x.0 ++ x.1
first_keyword_is [] ts x h = absurd cc
first_keyword_is (k ∷ ks) ts x h =
    elim (stops_or_goes (after (keyword_text k) ts) (first_keyword ks ts) (λ rest. Some (k, rest)) (Some x) h) [
      | inl g ↦ first_keyword_is ks ts x g.1
      | inr g ↦ subst (λ (y : Keyword × List ℕ). ts ≡ keyword_text y.0 ++ y.1) (some_is (k, g.0) x g.2) (after_is (keyword_text k) ts g.0 g.1)
    ]

-- what stands alone

alone_found : (v : ℕ → ℕ) (f : StatementForm) (word ts : List ℕ) (i : Item) → statement_form_text f ≡ word → alone (says_with_literals v (statement_item f)) ts ≡ Some i → FoundStatement v (word ++ ts) i
alone_found v f word ts i p h =
    let g = guarded (is_end ts) (Some (says_with_literals v (statement_item f))) i h in
    (f, p ∙ sym (append-nil word) ∙ ap (λ (w : List ℕ). word ++ w) (ends_nothing ts g.0), some_is (says_with_literals v (statement_item f)) i g.1)

-- IF and ELSE IF

cond_finds : (v : ℕ → ℕ) (ts : List ℕ) (x : CondTree × List ℕ) → cond_of v ts ≡ Some x → FoundCond v ts x
unfolding cond_of
cond_finds v ts x h = cond_found v _ ts x h

cond_closed : (v : ℕ → ℕ) (c : CondForm) (rest : List ℕ) → cond_of v (cond_form_text c ++ (codes ")" ++ rest)) ≡ Some (cond_with_literals v (cond_form_tree c), codes ")" ++ rest)
cond_closed v c rest = cond_again v c (codes ")" ++ rest) refl refl ∙ ors_stop v (cond_with_literals v (cond_form_tree c)) (codes ")" ++ rest) refl

if_text : (c rest ts q : List ℕ) → ts ≡ c ++ q → q ≡ codes ")" ++ rest → codes "IF(" ++ c ++ codes ")" ++ rest ≡ codes "IF(" ++ ts
if_text c rest ts q p r = sym (read_on (codes "IF(") c ts q p ∙ read_on (codes "IF(" ++ c) (codes ")") q rest r)

if_found : (v : ℕ → ℕ) (ts : List ℕ) (i : Item) → if_of v ts ≡ Some i → FoundStatement v (codes "IF(" ++ ts) i
unfolding if_of
if_found v ts i h =
    let a = bind_some (cond_of v ts) (λ c. after (codes ")") c.1 >>= λ r. cond (is_same_text r (codes "THEN")) (Some (block_if c.0)) (simple_of v r >>= λ s. Some (logical_if c.0 (behind_logical s)))) i h in
    let b = bind_some (after (codes ")") a.0.1) (λ r. cond (is_same_text r (codes "THEN")) (Some (block_if a.0.0)) (simple_of v r >>= λ s. Some (logical_if a.0.0 (behind_logical s)))) i a.2 in
    let c = cond_finds v ts a.0 a.1 in
    let text = if_text (cond_form_text c.0) b.0 ts a.0.1 c.2 (after_is (codes ")") a.0.1 b.0 b.1) in
    elim (chosen (is_same_text b.0 (codes "THEN")) (Some (block_if a.0.0)) (simple_of v b.0 >>= λ s. Some (logical_if a.0.0 (behind_logical s))) (Some i) b.2) [
      | inl g ↦ (if_then c.0, sym (append_assoc (codes "IF(" ++ cond_form_text c.0) (codes ")") (codes "THEN")) ∙ ap (λ (w : List ℕ). codes "IF(" ++ cond_form_text c.0 ++ codes ")" ++ w) (same_words b.0 (codes "THEN") g.0) ∙ text, ap block_if c.1 ∙ some_is (block_if a.0.0) i g.1)
      | inr g ↦
          let s = bind_some (simple_of v b.0) (λ s. Some (logical_if a.0.0 (behind_logical s))) i g.1 in
          let f = simple_found v b.0 s.0 s.1 in (
            if_simple c.0 f.0,
            ap (λ (w : List ℕ). codes "IF(" ++ cond_form_text c.0 ++ codes ")" ++ w) f.1 ∙ text,
            ap (λ (t : CondTree). logical_if t (stmts_with_literals v (behind_if f.0))) c.1 ∙ ap (logical_if a.0.0) (sym (simple_behind v f.0) ∙ ap behind_logical f.2) ∙ some_is (logical_if a.0.0 (behind_logical s.0)) i s.2,
          )
    ]

else_if_found : (v : ℕ → ℕ) (ts : List ℕ) (i : Item) → else_if_of v ts ≡ Some i → FoundStatement v (codes "ELSEIF(" ++ ts) i
unfolding else_if_of
else_if_found v ts i h =
    let a = bind_some (cond_of v ts) (λ c. cond (is_same_text c.1 (codes ")THEN")) (Some (else_if c.0)) None) i h in
    let g = guarded (is_same_text a.0.1 (codes ")THEN")) (Some (else_if a.0.0)) i a.2 in
    let c = cond_finds v ts a.0 a.1 in
    (else_if_then c.0, sym (read_on (codes "ELSEIF(") (cond_form_text c.0) ts a.0.1 c.2 ∙ ap (λ (w : List ℕ). codes "ELSEIF(" ++ cond_form_text c.0 ++ w) (sym (same_words a.0.1 (codes ")THEN") g.0))), ap else_if c.1 ∙ some_is (else_if a.0.0) i g.1)

-- DO

loop_found : (v : ℕ → ℕ) (parallel : Bool) (ts : List ℕ) (i : Item) → do_of v parallel ts ≡ Some i → FoundStatement v (do_form_word parallel ++ ts) i
loop_found v parallel ts i h =
    let f = do_found v parallel ts i h in
    let word = do_form_word parallel in
    (do_loop parallel f.0 f.1, append_assoc word (label_form_text f.0) (control_form_text f.1) ∙ ap (λ (w : List ℕ). word ++ w) f.2, f.3)

-- lists of declared names, constants and names

FoundNames : List ℕ → List (List ℕ) → Type 0
FoundNames ts names = IsTrue (are_names names) × (join_by (λ x. x) (codes ",") names ≡ ts)

names_found : (ts : List ℕ) (names : List (List ℕ)) → whole (several name_at ts) ≡ Some names → FoundNames ts names
unfolding FoundNames
names_found ts names h =
    let f = whole_several_found (λ x. x) (λ x. x) is_name name_at name_found ts names h in
    let same : f.0 ∷ f.1 ≡ names = sym (map-id (f.0 ∷ f.1)) ∙ f.3 in
    (subst (λ (ns : List (List ℕ)). are_names ns ≡ true) same f.2, ap (join_by (λ x. x) (codes ",")) (sym same) ∙ f.4)

names_again : (names : List (List ℕ)) → IsTrue (are_names names) → whole (several name_at (join_by (λ x. x) (codes ",") names)) ≡ Some names
names_again [] are = absurd cc
names_again (x ∷ xs) are =
    whole_several_again (λ x. x) (λ x. x) is_name (stops is_alphanumeric) name_at (shrinks (λ x. x) (λ x. x) is_name name_at name_found) name_back (λ r. refl) refl x xs are
    ∙ ap (λ (ns : List (List ℕ)). Some ns) (map-id (x ∷ xs))

integers_found : (v : ℕ → ℕ) (ts : List ℕ) (i : Item) → (whole (several (declarator_of v) ts) >>= λ ds. Some (declares (plain.Integer ds))) ≡ Some i → FoundStatement v (codes "INTEGER" ++ ts) i
integers_found v ts i h =
    let a = bind_some (whole (several (declarator_of v) ts)) (λ ds. Some (declares (plain.Integer ds))) i h in
    let f = whole_several_found declarator_form_text (λ d. declarator_with_literals v (declarator_form_tree d)) (λ d. true) (declarator_of v) (declarator_found v) ts a.0 a.1 in
    (integer f.0 f.1, ap (λ (w : List ℕ). codes "INTEGER" ++ w) f.4, ap (λ (ds : List DeclaratorTree). declares (plain.Integer ds)) (map_map (declarator_with_literals v) declarator_form_tree (f.0 ∷ f.1) ∙ f.3) ∙ some_is (declares (plain.Integer a.0)) i a.2)

dimension_of : (v : ℕ → ℕ) (arrays : List ArrayForm) (d : DeclaratorForm) (ds : List DeclaratorForm) (ts : List ℕ) (i : Item) → map of_array arrays ≡ d ∷ ds → join_by declarator_form_text (codes ",") (d ∷ ds) ≡ ts → declares (plain.Dimension (map (declarator_with_literals v) (map declarator_form_tree (d ∷ ds)))) ≡ i → FoundStatement v (codes "DIMENSION" ++ ts) i
dimension_of v [] d ds ts i h t u = absurd cc
dimension_of v (a ∷ rest) d ds ts i h t u = (
  dimension a rest,
  ap (λ (w : List ℕ). codes "DIMENSION" ++ w) (sym (arrays_text a rest) ∙ ap (join_by declarator_form_text (codes ",")) h ∙ t),
  ap (λ (fs : List DeclaratorTree). declares (plain.Dimension (map (declarator_with_literals v) fs))) (sym (arrays_tree (a ∷ rest)) ∙ ap (map declarator_form_tree) h) ∙ u,
)

dimensions_found : (v : ℕ → ℕ) (ts : List ℕ) (i : Item) → (whole (several (declarator_of v) ts) >>= λ ds. cond (list_all is_array ds) (Some (declares (plain.Dimension ds))) None) ≡ Some i → FoundStatement v (codes "DIMENSION" ++ ts) i
dimensions_found v ts i h =
    let a = bind_some (whole (several (declarator_of v) ts)) (λ ds. cond (list_all is_array ds) (Some (declares (plain.Dimension ds))) None) i h in
    let g = guarded (list_all is_array a.0) (Some (declares (plain.Dimension a.0))) i a.2 in
    let f = whole_several_found declarator_form_text (λ d. declarator_with_literals v (declarator_form_tree d)) (λ d. true) (declarator_of v) (declarator_found v) ts a.0 a.1 in
    let arrays = arrays_found v (f.0 ∷ f.1) (ap (list_all is_array) f.3 ∙ g.0) in
    dimension_of v arrays.0 f.0 f.1 ts i arrays.1 f.4 (ap (λ (ds : List DeclaratorTree). declares (plain.Dimension ds)) (map_map (declarator_with_literals v) declarator_form_tree (f.0 ∷ f.1) ∙ f.3) ∙ some_is (declares (plain.Dimension a.0)) i g.1)

parameters_found : (v : ℕ → ℕ) (ts : List ℕ) (i : Item) → (several (value_of v) ts >>= λ y. cond (is_same_text y.1 (codes ")")) (Some (declares (plain.Parameter y.0))) None) ≡ Some i → FoundStatement v (codes "PARAMETER(" ++ ts) i
parameters_found v ts i h =
    let a = bind_some (several (value_of v) ts) (λ y. cond (is_same_text y.1 (codes ")")) (Some (declares (plain.Parameter y.0))) None) i h in
    let g = guarded (is_same_text a.0.1 (codes ")")) (Some (declares (plain.Parameter a.0.0))) i a.2 in
    let f = several_found constant_form_text (λ c. value_with_literals v (constant_form_tree c)) (λ c. true) (value_of v) (value_found v) ts a.0 a.1 in
    let t = join_by constant_form_text (codes ",") (f.0 ∷ f.1) in (
      parameter f.0 f.1,
      sym (read_on (codes "PARAMETER(") t ts a.0.1 f.4 ∙ ap (λ (w : List ℕ). codes "PARAMETER(" ++ t ++ w) (sym (same_words a.0.1 (codes ")") g.0))),
      ap (λ (vs : List (List ℕ × ExprTree)). declares (plain.Parameter vs)) (map_map (value_with_literals v) constant_form_tree (f.0 ∷ f.1) ∙ f.3) ∙ some_is (declares (plain.Parameter a.0.0)) i g.1,
    )

save_found : (v : ℕ → ℕ) (ts : List ℕ) (i : Item) → cond (is_end ts) (Some saves_all) (whole (several name_at ts) >>= λ names. Some (declares (plain.Save names))) ≡ Some i → FoundStatement v (codes "SAVE" ++ ts) i
unfolding FoundNames
save_found v ts i h =
    elim (chosen (is_end ts) (Some saves_all) (whole (several name_at ts) >>= λ names. Some (declares (plain.Save names))) (Some i) h) [
      | inl g ↦ (save_all, ap (λ (w : List ℕ). codes "SAVE" ++ w) (ends_nothing ts g.0), some_is saves_all i g.1)
      | inr g ↦
          let a = bind_some (whole (several name_at ts)) (λ names. Some (declares (plain.Save names))) i g.1 in
          let f = names_found ts a.0 a.1 in
          (save a.0 f.0, ap (λ (w : List ℕ). codes "SAVE" ++ w) f.1, some_is (declares (plain.Save a.0)) i a.2)
    ]

private_found : (v : ℕ → ℕ) (ts : List ℕ) (i : Item) → (whole (several name_at ts) >>= λ names. Some (keeps_private names)) ≡ Some i → FoundStatement v (codes "PRIVATE" ++ ts) i
unfolding FoundNames
private_found v ts i h =
    let a = bind_some (whole (several name_at ts)) (λ names. Some (keeps_private names)) i h in
    let f = names_found ts a.0 a.1 in
    (private a.0 f.0, ap (λ (w : List ℕ). codes "PRIVATE" ++ w) f.1, some_is (keeps_private a.0) i a.2)

program_found : (v : ℕ → ℕ) (ts : List ℕ) (i : Item) → cond (is_name ts) (Some (declares (plain.Program ts))) None ≡ Some i → FoundStatement v (codes "PROGRAM" ++ ts) i
program_found v ts i h = let g = guarded (is_name ts) (Some (declares (plain.Program ts))) i h in (program ts g.0, refl, some_is (declares (plain.Program ts)) i g.1)

behind_found : (v : ℕ → ℕ) (k : Keyword) (ts : List ℕ) (i : Item) → statement_behind v k ts ≡ Some i → FoundStatement v (keyword_text k ++ ts) i
unfolding statement_behind
behind_found v keyword.Program ts i h = program_found v ts i h
behind_found v keyword.Implicit ts i h = alone_found v implicit (codes "IMPLICITINTEGER(A-Z)") ts i refl h
behind_found v keyword.Integer ts i h = integers_found v ts i h
behind_found v keyword.Dimension ts i h = dimensions_found v ts i h
behind_found v keyword.Parameter ts i h = parameters_found v ts i h
behind_found v keyword.Save ts i h = save_found v ts i h
behind_found v keyword.If ts i h = if_found v ts i h
behind_found v keyword.ElseIf ts i h = else_if_found v ts i h
behind_found v keyword.Else ts i h = alone_found v else_alone (codes "ELSE") ts i refl h
behind_found v keyword.EndIf ts i h = alone_found v end_of_if (codes "ENDIF") ts i refl h
behind_found v keyword.EndDo ts i h = alone_found v end_of_do (codes "ENDDO") ts i refl h
behind_found v keyword.Do ts i h = loop_found v false ts i h
behind_found v keyword.ParallelDo ts i h = loop_found v true ts i h
behind_found v keyword.Private ts i h = private_found v ts i h
behind_found v keyword.End ts i h = alone_found v end (codes "END") ts i refl h

-- what is read is a statement's item
pub statement_found : (v : ℕ → ℕ) (ts : List ℕ) (i : Item) → statement_of v ts ≡ Some i → FoundStatement v ts i
unfolding statement_of keyword_statement_of
statement_found v ts i h =
    elim (stops_or_goes (simple_of v ts) (keyword_statement_of v ts) (λ s. Some (simply s)) (Some i) h) [
      | inl g ↦
          let a = bind_some (keyword_at ts) (λ k. statement_behind v k.0 k.1) i g.1 in
          subst (λ (w : List ℕ). FoundStatement v w i) (sym (first_keyword_is all_keywords ts a.0 a.1)) (behind_found v a.0.0 a.0.1 i a.2)
      | inr g ↦
          let f = simple_found v ts g.0 g.1 in
          (simple f.0, f.1, sym (simple_says v f.0) ∙ ap simply f.2 ∙ some_is (simply g.0) i g.2)
    ]

-- what is written so is read

no_some : {A : Type 0} (x : A) → ◌≡◌ {A = Option A} None (Some x) → ⊥
no_some x e = absurd cc

by_keyword : (v : ℕ → ℕ) (k : Keyword) (ts rest : List ℕ) (i : Item) → simple_of v ts ≡ None → keyword_at ts ≡ Some (k, rest) → statement_behind v k rest ≡ Some i → statement_of v ts ≡ Some i
unfolding statement_of keyword_statement_of
by_keyword v k ts rest i s w h = rw (s, w, h) refl

-- a word, and a text behind it, without =
word_text : (v : ℕ → ℕ) (word ts : List ℕ) → lacks_equals word ≡ true → lacks_equals ts ≡ true → worded_of v (word ++ ts) ≡ None → simple_of v (word ++ ts) ≡ None
word_text v word ts a l w = not_simple v (word ++ ts) (no_equals v (word ++ ts) (both_lack word ts a l)) w

name_no_end : (x rest : List ℕ) → is_name x ≡ true → is_end (x ++ rest) ≡ false
name_no_end [] rest h = absurd cc
name_no_end (c ∷ cs) rest h = refl

some_names : (names : List (List ℕ)) → IsTrue (are_names names) → is_end (join_by (λ x. x) (codes ",") names) ≡ false
some_names [] are = absurd cc
some_names (x ∷ xs) are = name_no_end x (flat_map (λ y. codes "," ++ y) xs) (first_good (is_name x) (list_all is_name xs) are)

if_closed : (c s : List ℕ) → codes "IF(" ++ c ++ codes ")" ++ s ≡ codes "IF" ++ (codes "(" ++ (c ++ (codes ")" ++ s)))
if_closed c s = simp append_assoc

no_then : (v : ℕ → ℕ) (s : SimpleForm) → is_same_text (simple_form_text s) (codes "THEN") ≡ false
unfolding simple_of worded_of
no_then v s =
    let none : simple_of v (codes "THEN") ≡ None = not_simple v (codes "THEN") (no_equals v (codes "THEN") refl) refl in
    let go : (b : Bool) → is_same_text (simple_form_text s) (codes "THEN") ≡ b → b ≡ false = λ b. elim b as (λ b. is_same_text (simple_form_text s) (codes "THEN") ≡ b → b ≡ false) [
      | true ↦ λ h. absurd (no_some (simple_does v s) (sym none ∙ ap (simple_of v) (same_words (simple_form_text s) (codes "THEN") h) ∙ simple_again v s))
      | false ↦ λ h. refl
    ] in
    go (is_same_text (simple_form_text s) (codes "THEN")) refl

if_read : (v : ℕ → ℕ) (c : CondForm) (s : SimpleForm) → statement_of v (statement_form_text (if_simple c s)) ≡ Some (says_with_literals v (statement_item (if_simple c s)))
unfolding statement_behind if_of worded_of
if_read v c s =
    let t = simple_form_text s in
    let rest = cond_form_text c ++ (codes ")" ++ t) in
    let p = cond_closed v c t in
    let q = simple_again v s in
    let n : is_same_text t (codes "THEN") ≡ false = no_then v s in
    let b : statement_behind v keyword.If rest ≡ Some (logical_if (cond_with_literals v (cond_form_tree c)) (stmts_with_literals v (behind_if s))) =
    rw (p, n, q) (ap (λ (u : StmtTrees). Some (logical_if (cond_with_literals v (cond_form_tree c)) u)) (simple_behind v s)) in
    ap (statement_of v) (if_closed (cond_form_text c) t)
    ∙ by_keyword v keyword.If (codes "IF(" ++ rest) rest _ (not_simple v (codes "IF(" ++ rest) (condition_behind v (codes "IF") c (codes ")" ++ t) refl refl) refl) refl b

if_then_read : (v : ℕ → ℕ) (c : CondForm) → statement_of v (statement_form_text (if_then c)) ≡ Some (says_with_literals v (statement_item (if_then c)))
unfolding statement_behind if_of worded_of
if_then_read v c =
    let rest = cond_form_text c ++ codes ")THEN" in
    let p = cond_closed v c (codes "THEN") in
    let b : statement_behind v keyword.If rest ≡ Some (block_if (cond_with_literals v (cond_form_tree c))) = rw p refl in
    ap (statement_of v) (append_assoc (codes "IF(") (cond_form_text c) (codes ")THEN"))
    ∙ by_keyword v keyword.If (codes "IF(" ++ rest) rest _ (not_simple v (codes "IF(" ++ rest) (condition_behind v (codes "IF") c (codes ")THEN") refl refl) refl) refl b

else_if_read : (v : ℕ → ℕ) (c : CondForm) → statement_of v (statement_form_text (else_if_then c)) ≡ Some (says_with_literals v (statement_item (else_if_then c)))
unfolding statement_behind else_if_of worded_of
else_if_read v c =
    let rest = cond_form_text c ++ codes ")THEN" in
    let p = cond_closed v c (codes "THEN") in
    let b : statement_behind v keyword.ElseIf rest ≡ Some (else_if (cond_with_literals v (cond_form_tree c))) = rw p refl in
    ap (statement_of v) (append_assoc (codes "ELSEIF(") (cond_form_text c) (codes ")THEN"))
    ∙ by_keyword v keyword.ElseIf (codes "ELSEIF(" ++ rest) rest _ (not_simple v (codes "ELSEIF(" ++ rest) (condition_behind v (codes "ELSEIF") c (codes ")THEN") refl refl) refl) refl b

do_read : (v : ℕ → ℕ) (parallel : Bool) (l : LabelForm) (c : ControlForm) → statement_of v (statement_form_text (do_loop parallel l c)) ≡ Some (says_with_literals v (statement_item (do_loop parallel l c)))
unfolding statement_behind worded_of
do_read v true l c =
    let rest = label_form_text l ++ control_form_text c in
    ap (statement_of v) (append_assoc (codes "PARALLELDO") (label_form_text l) (control_form_text c))
    ∙ by_keyword v keyword.ParallelDo (codes "PARALLELDO" ++ rest) rest _ (not_simple v (codes "PARALLELDO" ++ rest) (do_assigns_nothing v (codes "PARALLELDO") l c refl (λ t. refl)) refl) refl (do_again v true l c)
do_read v false l c =
    let rest = label_form_text l ++ control_form_text c in
    ap (statement_of v) (append_assoc (codes "DO") (label_form_text l) (control_form_text c))
    ∙ by_keyword v keyword.Do (codes "DO" ++ rest) rest _ (not_simple v (codes "DO" ++ rest) (do_assigns_nothing v (codes "DO") l c refl (λ t. refl)) refl) refl (do_again v false l c)

closed_word : (v : ℕ → ℕ) (k : Keyword) (word : List ℕ) (i : Item) → lacks_equals word ≡ true → worded_of v word ≡ None → keyword_at word ≡ Some (k, []) → statement_behind v k [] ≡ Some i → statement_of v word ≡ Some i
closed_word v k word i l w at h = by_keyword v k word [] i (not_simple v word (no_equals v word l) w) at h

parameter_assigns_nothing : (v : ℕ → ℕ) (c : ConstantForm) (cs : List ConstantForm) → assignment_of v (codes "PARAMETER(" ++ (join_by constant_form_text (codes ",") (c ∷ cs) ++ codes ")")) ≡ None
parameter_assigns_nothing v (a_constant x is e) cs =
    let others = flat_map (λ c. codes "," ++ constant_form_text c) cs in
    ap (λ (w : List ℕ). assignment_of v (codes "PARAMETER(" ++ w)) (assoc_4 x (codes "=") (expr_form_text e) others (codes ")"))
    ∙ value_behind v (codes "PARAMETER") x (expr_form_text e ++ (others ++ codes ")")) refl refl is

dimension_again : (v : ℕ → ℕ) (a : ArrayForm) (rest : List ArrayForm) → statement_of v (statement_form_text (dimension a rest)) ≡ Some (says_with_literals v (statement_item (dimension a rest)))
unfolding statement_behind worded_of
dimension_again v a rest =
    let ts = join_by declarator_form_text (codes ",") (map of_array (a ∷ rest)) in
    let p = whole_several_again declarator_form_text (λ d. declarator_with_literals v (declarator_form_tree d)) (λ d. true) ends_part (declarator_of v) (declarators_shrink v) (declarator_back v) (λ r. refl) refl (of_array a) (map of_array rest) (all_true (map of_array (a ∷ rest))) in
    let arrays = are_arrays v (a ∷ rest) in
    let same : map (λ d. declarator_with_literals v (declarator_form_tree d)) (map of_array (a ∷ rest)) ≡ map (declarator_with_literals v) (map array_form_tree (a ∷ rest)) =
    sym (map_map (declarator_with_literals v) declarator_form_tree (map of_array (a ∷ rest))) ∙ ap (map (declarator_with_literals v)) (arrays_tree (a ∷ rest)) in
    let b : statement_behind v keyword.Dimension ts ≡ Some (declares (plain.Dimension (map (declarator_with_literals v) (map array_form_tree (a ∷ rest))))) = rw (p, arrays) (ap (λ (ds : List DeclaratorTree). Some (declares (plain.Dimension ds))) same) in
    ap (λ (w : List ℕ). statement_of v (codes "DIMENSION" ++ w)) (sym (arrays_text a rest))
    ∙ by_keyword v keyword.Dimension (codes "DIMENSION" ++ ts) ts _ (word_text v (codes "DIMENSION") ts refl (declarators_lack (of_array a) (map of_array rest)) refl) refl b

-- a statement's text is read as its item
pub statement_again : (v : ℕ → ℕ) (f : StatementForm) → statement_of v (statement_form_text f) ≡ Some (says_with_literals v (statement_item f))
unfolding statement_of statement_behind worded_of
statement_again v (program x is) = by_keyword v keyword.Program (codes "PROGRAM" ++ x) x _ (word_text v (codes "PROGRAM") x refl (name_lacks x is) refl) refl (rw is refl)
statement_again v implicit = closed_word v keyword.Implicit (codes "IMPLICITINTEGER(A-Z)") _ refl refl refl refl
statement_again v (integer d ds) =
    let ts = join_by declarator_form_text (codes ",") (d ∷ ds) in
    let s = shrinks declarator_form_text (λ d. declarator_with_literals v (declarator_form_tree d)) (λ d. true) (declarator_of v) (declarator_found v) in
    let p : whole (several (declarator_of v) ts) ≡ Some (map (declarator_with_literals v) (map declarator_form_tree (d ∷ ds))) =
    whole_several_again declarator_form_text (λ d. declarator_with_literals v (declarator_form_tree d)) (λ d. true) ends_part (declarator_of v) s (declarator_back v) (λ r. refl) refl d ds (all_true (d ∷ ds))
    ∙ ap (λ (xs : List DeclaratorTree). Some xs) (sym (map_map (declarator_with_literals v) declarator_form_tree (d ∷ ds))) in
    by_keyword v keyword.Integer (codes "INTEGER" ++ ts) ts _ (word_text v (codes "INTEGER") ts refl (declarators_lack d ds) refl) refl (rw p refl)
statement_again v (dimension a rest) = dimension_again v a rest
statement_again v (parameter c cs) =
    let ts = join_by constant_form_text (codes ",") (c ∷ cs) in
    let s = shrinks constant_form_text (λ c. value_with_literals v (constant_form_tree c)) (λ c. true) (value_of v) (value_found v) in
    let p : several (value_of v) (ts ++ codes ")") ≡ Some (map (value_with_literals v) (map constant_form_tree (c ∷ cs)), codes ")") =
    several_again constant_form_text (λ c. value_with_literals v (constant_form_tree c)) (λ c. true) ends_part (value_of v) s (value_back v) (λ r. refl) c cs (codes ")") (all_true (c ∷ cs)) refl refl
    ∙ ap (λ (xs : List (List ℕ × ExprTree)). Some (xs, codes ")")) (sym (map_map (value_with_literals v) constant_form_tree (c ∷ cs))) in
    ap (statement_of v) (append_assoc (codes "PARAMETER(") ts (codes ")"))
    ∙ by_keyword v keyword.Parameter (codes "PARAMETER(" ++ (ts ++ codes ")")) (ts ++ codes ")") _ (not_simple v (codes "PARAMETER(" ++ (ts ++ codes ")")) (parameter_assigns_nothing v c cs) refl) refl (rw p refl)
statement_again v (save names are) =
    let ts = join_by (λ x. x) (codes ",") names in
    let p = names_again names are in
    let e = some_names names are in
    by_keyword v keyword.Save (codes "SAVE" ++ ts) ts _ (word_text v (codes "SAVE") ts refl (names_lack names are) refl) refl (rw (e, p) refl)
statement_again v save_all = closed_word v keyword.Save (codes "SAVE") _ refl refl refl refl
statement_again v (simple s) = rw (simple_again v s) (ap (λ (i : Item). Some i) (simple_says v s))
statement_again v (if_simple c s) = if_read v c s
statement_again v (if_then c) = if_then_read v c
statement_again v (else_if_then c) = else_if_read v c
statement_again v else_alone = closed_word v keyword.Else (codes "ELSE") _ refl refl refl refl
statement_again v end_of_if = closed_word v keyword.EndIf (codes "ENDIF") _ refl refl refl refl
statement_again v (do_loop parallel l c) = do_read v parallel l c
statement_again v end_of_do = closed_word v keyword.EndDo (codes "ENDDO") _ refl refl refl refl
statement_again v (private names are) =
    let ts = join_by (λ x. x) (codes ",") names in
    let p = names_again names are in
    by_keyword v keyword.Private (codes "PRIVATE" ++ ts) ts _ (word_text v (codes "PRIVATE") ts refl (names_lack names are) refl) refl (rw p refl)
statement_again v end = closed_word v keyword.End (codes "END") _ refl refl refl refl
