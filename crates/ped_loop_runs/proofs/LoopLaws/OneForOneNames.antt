-- Names of a program in which a DO has given way to one with another head.
use Rattle.std.proofs.Common.{◌≡◌, ◌⊎◌, ℕ, List, [], ◌∷◌, ◌++◌, map, Bool, true, false, refl, sym, ap, subst, inl, inr, ◌∙◌, append-nil}
use Rattle.std.specs.Prelude.{◌&&◌, ◌||◌, Some}
use Rattle.std.specs.List.{list_all, flat_map}
use Rattle.std.proofs.lemmas.Bool.{and_parts}
use Rattle.std.proofs.lemmas.List.Folds.{list_all-append}
use Rattle.std.proofs.lemmas.List.{map-append}
use Rattle.ped_bodies.specs.ped_flow.specs.ped_tree.proofs.NameLaws.Collected.{among_append}
use Rattle.ped_bodies.specs.ped_flow.specs.ped_base.specs.Lists.{is_same_text, is_among}
use Rattle.ped_bodies.specs.ped_flow.specs.ped_base.proofs.NameEquality.{same_is}
use Rattle.ped_bodies.specs.ped_flow.specs.ped_tree.specs.Tree.{ExprTree, Head, StmtTree, StmtTrees, Assign, If, Do, Print, Read, Stop, Comment, no_stmts, more_stmts, DeclTree, Program, Implicit, Integer, Dimension, Parameter, Save, Remark, ProgramTree}
use Rattle.ped_bodies.specs.ped_flow.specs.ped_tree.specs.Accesses.{constants_in, constant_names}
use Rattle.ped_bodies.specs.ped_flow.specs.ped_tree.specs.NamesIn.{loop_variables, all_loop_variables}
use Rattle.ped_bodies.specs.ped_flow.specs.ped_tree.specs.Numbering.{statement_with}
use Rattle.ped_bodies.specs.ped_flow.specs.Questions.{LoopOf}
use Rattle.ped_bodies.specs.ped_symbols.specs.Kinds.{names_of, kind_in}
use Rattle.ped_bodies.specs.ped_symbols.specs.NameRefusals.{IsValid}
use Rattle.ped_bodies.specs.ped_symbols.specs.Sites.{statement, decl_sites, private_site, stmt_sites, stmts_sites}
use Rattle.ped_bodies.specs.ped_symbols.specs.Uses.{used_as, expr_uses}
use Rattle.ped_bodies.specs.ped_symbols.specs.declared.uses.Role.TheVariants.{Named}
use Rattle.ped_bodies.specs.ped_symbols.specs.declared.uses.Use.{Use}
use Rattle.ped_bodies.specs.ped_symbols.specs.RightUses.RightUses.{NameKinds, is_scalar, cond_is_right, expr_is_right, head_is_right, stmt_is_right, stmts_are_right}
use Rattle.ped_bodies.specs.ped_symbols.proofs.RightUseLaws.Whole.{same_kinds, names_occur}
use Rattle.ped_bodies.specs.ped_steps.specs.Replacing.{alone, program_with}
use Rattle.ped_bodies.specs.ped_steps.proofs.RunLaws.NamesKept.{occurs, occurs_append, Alike, AreAlike, alike_itself, append_alike, same_alike, by_sites, names_kept}
use Rattle.ped_bodies.specs.ped_steps.proofs.RunLaws.ScalarNames.{scalar_occurs, scalar_named, statement_in}
use Rattle.ped_bodies.specs.ped_steps.proofs.RunLaws.ProgramParts.{part_at}
use Rattle.ped_bodies.specs.ped_steps.proofs.RunLaws.LoopVariables.{variable_scalar}

-- the variables of DO loops are scalars
appended : (k : NameKinds) (xs ys : List (List ℕ)) → list_all (is_scalar k) xs ≡ true → list_all (is_scalar k) ys ≡ true → list_all (is_scalar k) (xs ++ ys) ≡ true
appended k xs ys h j = list_all-append (is_scalar k) xs ys ∙ (λ i. h i && j i)

head_scalar : (k : NameKinds) (h : Head) → head_is_right k h ≡ true → is_scalar k h.variable ≡ true
head_scalar k h r =
    let a = and_parts _ (list_all (is_scalar k) h.private) r in
    let b = and_parts _ (expr_is_right k h.step) a.0 in
    let c = and_parts _ (expr_is_right k h.last) b.0 in
    (and_parts (is_scalar k h.variable) (expr_is_right k h.first) c.0).0

mutual
  loops_scalar : (k : NameKinds) (t : StmtTree) → stmt_is_right k t ≡ true → list_all (is_scalar k) (loop_variables t) ≡ true
  loops_scalar k (Assign left right) h = refl
  loops_scalar k (If c a b) h =
      let p = and_parts (cond_is_right k c && stmts_are_right k a) (stmts_are_right k b) h in
      let q = and_parts (cond_is_right k c) (stmts_are_right k a) p.0 in
      appended k (all_loop_variables a) (all_loop_variables b) (all_loops_scalar k a q.1) (all_loops_scalar k b p.1)
  loops_scalar k (Do head body) h =
      let p = and_parts (head_is_right k head) (stmts_are_right k body) h in
      λ i. head_scalar k head p.0 i && all_loops_scalar k body p.1 i
  loops_scalar k (Print items) h = refl
  loops_scalar k (Read items) h = refl
  loops_scalar k Stop h = refl
  loops_scalar k (Comment text) h = refl

  all_loops_scalar : (k : NameKinds) (ts : StmtTrees) → stmts_are_right k ts ≡ true → list_all (is_scalar k) (all_loop_variables ts) ≡ true
  all_loops_scalar k no_stmts h = refl
  all_loops_scalar k (more_stmts t rest) h =
      let p = and_parts (stmt_is_right k t) (stmts_are_right k rest) h in
      appended k (loop_variables t) (all_loop_variables rest) (loops_scalar k t p.0) (all_loops_scalar k rest p.1)

one_of : (k : NameKinds) (xs : List (List ℕ)) (w : List ℕ) → list_all (is_scalar k) xs ≡ true → is_among w xs ≡ true → is_scalar k w ≡ true
one_of k [] w h i = absurd cc
one_of k (x ∷ xs) w h i = go (is_same_text w x) refl i (and_parts (is_scalar k x) (list_all (is_scalar k) xs) h) (one_of k xs w)
  where
    go : (b : Bool) → is_same_text w x ≡ b → b || is_among w xs ≡ true → (is_scalar k x ≡ true) × (list_all (is_scalar k) xs ≡ true) → (list_all (is_scalar k) xs ≡ true → is_among w xs ≡ true → is_scalar k w ≡ true) → is_scalar k w ≡ true
    go true e j parts more = ap (is_scalar k) (same_is w x e) ∙ parts.0
    go false e j parts more = more parts.1 j

-- named constants occur in declarations
or_either : (a b : Bool) → a || b ≡ true → (r : Bool) → a ≡ r → (r ≡ true) ⊎ (b ≡ true)
or_either a b h true e = inl refl
or_either a b h false e = inr (sym (ap (λ (r : Bool). r || b) e) ∙ h)

or_of : (a b : Bool) → (a ≡ true) ⊎ (b ≡ true) → a || b ≡ true
or_of true b h = refl
or_of false b (inl e) = absurd cc
or_of false b (inr e) = e

abbrev names_in : List Use → List (List ℕ)
names_in us = map (λ (u : Use). u.name) us

among_both : (y : List ℕ) (a b : List Use) → is_among y (names_in (a ++ b)) ≡ is_among y (names_in a) || is_among y (names_in b)
among_both y a b = ap (is_among y) (map-append (λ (u : Use). u.name) a b) ∙ among_append y (names_in a) (names_in b)

abbrev parameter_uses : List ℕ × ExprTree → List Use
parameter_uses v = used_as Named v.0 ∷ expr_uses v.1

parameters_occur : (y : List ℕ) (values : List (List ℕ × ExprTree)) → is_among y (map (λ v. v.0) values) ≡ true → is_among y (names_in (flat_map parameter_uses values)) ≡ true
parameters_occur y [] h = absurd cc
parameters_occur y (v ∷ values) h = go (is_same_text y v.0) refl h (parameters_occur y values)
  where
    go : (b : Bool) → is_same_text y v.0 ≡ b → b || is_among y (map (λ v. v.0) values) ≡ true → (is_among y (map (λ v. v.0) values) ≡ true → is_among y (names_in (flat_map parameter_uses values)) ≡ true)
        → is_among y (names_in (flat_map parameter_uses (v ∷ values))) ≡ true
    go true e k more = ap (λ (b : Bool). b || is_among y (names_in (expr_uses v.1 ++ flat_map parameter_uses values))) e
    go false e k more = or_of (is_same_text y v.0) (is_among y (names_in (expr_uses v.1 ++ flat_map parameter_uses values)))
        (inr (among_both y (expr_uses v.1) (flat_map parameter_uses values) ∙ or_of (is_among y (names_in (expr_uses v.1))) (is_among y (names_in (flat_map parameter_uses values))) (inr (more k))))

constant_occurs : (y : List ℕ) (d : DeclTree) → is_among y (constants_in d) ≡ true → occurs y (decl_sites d) ≡ true
constant_occurs y (Program x) h = absurd cc
constant_occurs y Implicit h = absurd cc
constant_occurs y (Integer ds) h = absurd cc
constant_occurs y (Dimension ds) h = absurd cc
constant_occurs y (Parameter values) h = ap (λ (us : List Use). is_among y (names_in us)) (append-nil (flat_map parameter_uses values)) ∙ parameters_occur y values h
constant_occurs y (Save names) h = absurd cc
constant_occurs y (Remark text) h = absurd cc

constants_occur : (y : List ℕ) (ds : List DeclTree) → is_among y (constant_names ds) ≡ true → occurs y (flat_map decl_sites ds) ≡ true
constants_occur y [] h = absurd cc
constants_occur y (d ∷ ds) h =
    let either = or_either (is_among y (constants_in d)) (is_among y (constant_names ds)) (sym (among_append y (constants_in d) (constant_names ds)) ∙ h) (is_among y (constants_in d)) refl in
    occurs_append y (decl_sites d) (flat_map decl_sites ds) ∙ or_of (occurs y (decl_sites d)) (occurs y (flat_map decl_sites ds)) (elim either [
      | inl e ↦ inl (constant_occurs y d e)
      | inr e ↦ inr (constants_occur y ds e)
    ])

pub constant_there : (y : List ℕ) (t : ProgramTree) → is_among y (constant_names t.decls) ≡ true → is_among y (names_of t) ≡ true
constant_there y t h =
    names_occur t y ∙ occurs_append y (flat_map decl_sites t.decls) (stmts_sites t.body)
    ∙ or_of (occurs y (flat_map decl_sites t.decls)) (occurs y (stmts_sites t.body)) (inl (constants_occur y t.decls h))

module _ (t : ProgramTree) (valid : IsValid t) (l : ℕ) (loop : LoopOf t l) where
  -- so they are no named constants
  pub variables_unnamed : (w : List ℕ) → is_among w (loop_variables (Do loop.head loop.body)) ≡ true → is_among w (constant_names t.decls) ≡ false
  variables_unnamed w i =
      scalar_named t w valid (one_of (kind_in t) (loop_variables (Do loop.head loop.body)) w (loops_scalar (kind_in t) (Do loop.head loop.body) (part_at t valid l (Do loop.head loop.body) loop.is).right) i)

  -- where the new head has the same names but for named constants, names stand for what they stood for
  module _ (h : Head) (private : h.private ≡ loop.head.private) (heads : (y : List ℕ) → is_among y (constant_names t.decls) ≡ false → occurs y (statement (Do h loop.body) ∷ []) ≡ occurs y (statement (Do loop.head loop.body) ∷ [])) where
    abbrev by : StmtTree → StmtTrees
    by s = alone (Do h loop.body)

    abbrev v : List ℕ
    v = loop.head.variable

    sites_alike : (y : List ℕ) → is_among y (constant_names t.decls) ≡ false → AreAlike v y (stmts_sites (alone (Do h loop.body))) (stmt_sites (Do loop.head loop.body))
    sites_alike y other =
        by_sites v y (stmt_sites (Do h loop.body) ++ []) (stmt_sites (Do h loop.body)) (stmt_sites (Do loop.head loop.body)) (append-nil (stmt_sites (Do h loop.body)))
        (append_alike v y (statement (Do h loop.body) ∷ []) (statement (Do loop.head loop.body) ∷ []) (private_site h.private ++ stmts_sites loop.body) (private_site loop.head.private ++ stmts_sites loop.body) head_alike
        (append_alike v y (private_site h.private) (private_site loop.head.private) (stmts_sites loop.body) (stmts_sites loop.body) private_alike (same_alike v y (stmts_sites loop.body))))
      where
        head_alike : AreAlike v y (statement (Do h loop.body) ∷ []) (statement (Do loop.head loop.body) ∷ [])
        head_alike = subst (λ (b : Bool). Alike (is_same_text y v) b (occurs y (statement (Do loop.head loop.body) ∷ []))) (sym (heads y other)) (alike_itself (is_same_text y v) (occurs y (statement (Do loop.head loop.body) ∷ [])))

        private_alike : AreAlike v y (private_site h.private) (private_site loop.head.private)
        private_alike = subst (λ (xs : List (List ℕ)). AreAlike v y (private_site xs) (private_site loop.head.private)) (sym private) (same_alike v y (private_site loop.head.private))

    of_it : (y : List ℕ) → is_among y (constant_names t.decls) ≡ false → (old : StmtTree) → statement_with l t ≡ Some old → AreAlike v y (stmts_sites (by old)) (stmt_sites old)
    of_it y other old there =
        let is : Do loop.head loop.body ≡ old = ap (statement_in (Do loop.head loop.body)) (sym loop.is ∙ there) in
        subst (λ (z : StmtTree). AreAlike v y (stmts_sites (alone (Do h loop.body))) (stmt_sites z)) is (sites_alike y other)

    same_names : (y : List ℕ) (b : Bool) → is_among y (constant_names t.decls) ≡ b → is_among y (names_of (program_with by l t)) ≡ is_among y (names_of t)
    same_names y true named = constant_there y (program_with by l t) named ∙ sym (constant_there y t named)
    same_names y false other = names_kept v y by l t (of_it y other) (scalar_occurs t v (variable_scalar t valid l loop))

    pub kinds_alike : (y : List ℕ) → kind_in (program_with by l t) y ≡ kind_in t y
    kinds_alike = same_kinds t (program_with by l t) refl (λ y. same_names y (is_among y (constant_names t.decls)) refl)
