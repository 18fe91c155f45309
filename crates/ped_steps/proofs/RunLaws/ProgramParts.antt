-- What a valid program tells of each of its DO loops, and where an element may stand for a scalar there.
use Rattle.std.proofs.Common.{◌≡◌, ℕ, ◌+◌, ◌-◌, ◌==◌, List, [], ◌∷◌, ◌++◌, Bool, true, false, not, ◌||◌, Some, None, refl, sym, ap, subst, ◌∙◌, if◌then◌else◌}
use Rattle.std.proofs.lemmas.Bool.{and_parts, not-true, or_left}
use Rattle.std.proofs.lemmas.List.Folds.{list_any-append}
use Rattle.std.specs.List.{list_all}
use Rattle.ped_base.specs.Lists.{is_same_text, is_among}
use Rattle.ped_tree.specs.Tree.{Head, StmtTree, StmtTrees, Assign, If, Do, Print, Read, Stop, Comment, no_stmts, more_stmts, ProgramTree}
use Rattle.ped_tree.specs.Numbering.{statement_count, statements_count, numbered, all_numbered, at_place, statement_with}
use Rattle.ped_tree.specs.Grammar.Words.{is_name}
use Rattle.ped_tree.specs.Grammar.Fits.{Surroundings, moved, in_if, in_loop, private_fits, loop_fits, stmt_fits, stmts_fit, decls_fit, begins_with_statement, at_body}
use Rattle.ped_base.proofs.NameEquality.{same_is}
use Rattle.ped_weaves.specs.ped_graph.specs.ped_symbols.specs.Sites.{Site, statement, decl_sites, private_site, stmt_sites, stmts_sites, program_sites}
use Rattle.ped_weaves.specs.ped_graph.specs.ped_symbols.specs.Kinds.{kind_in, at_last}
use Rattle.ped_weaves.specs.ped_graph.specs.ped_symbols.specs.NameRefusals.{IsValid}
use Rattle.ped_weaves.specs.ped_graph.specs.ped_symbols.specs.RightUses.RightUses.{cond_is_right, head_is_right, stmt_is_right, stmts_are_right}
use Rattle.ped_weaves.specs.ped_graph.specs.ped_symbols.specs.RightUses.RightLoops.{step_is_right, stmt_steps_are_right, steps_are_right}
use Rattle.ped_weaves.specs.ped_graph.specs.ped_symbols.proofs.RightUseLaws.Whole.{right_program}
use Rattle.ped_tree.specs.NamesIn.{loop_variables, all_loop_variables}
use Rattle.std.specs.List.{flat_map}
use Rattle.ped_steps.proofs.RunLaws.NamesKept.{occurs, occurs_append}
use Rattle.ped_steps.proofs.RunLaws.UntoldVariables.{OfEach, each_of_both}

some_is : (a b : StmtTree) → Some a ≡ Some b → a ≡ b
some_is a b e = cc

pub or_right : (a b : Bool) → b ≡ true → a || b ≡ true
or_right true b h = refl
or_right false b h = h

pub not_true : (b : Bool) → (b ≡ true → true ≡ false) → b ≡ false
not_true true f = f refl
not_true false f = refl

place_of_each : (P : StmtTree → Type 0) (xs : List StmtTree) (i : ℕ) (a : StmtTree) → OfEach P xs → at_place xs i ≡ Some a → P a
place_of_each P [] i a all e = absurd cc
place_of_each P (x ∷ xs) i a all e = go (i == 0) e (place_of_each P xs (i - 1) a all.1)
  where
    go : (b : Bool) → (if b then Some x else at_place xs (i - 1)) ≡ Some a → (at_place xs (i - 1) ≡ Some a → P a) → P a
    go true k rest = subst P (some_is x a k) all.0
    go false k rest = rest k

-- the variable of a DO that fits is that of no DO round it
pub variable_apart : (p : Surroundings) (h : Head) (b : StmtTrees) → loop_fits p h b ≡ true → is_among h.variable p.variables ≡ false
variable_apart p h b fits =
    let one = and_parts _ (list_all is_name h.rejected) fits in
    let two = and_parts _ (private_fits p h) one.0 in
    let three = and_parts _ _ two.0 in
    let four = and_parts _ _ three.0 in
    let five = and_parts _ (not (is_among h.variable p.private)) four.0 in
    not-true (is_among h.variable p.variables) (and_parts _ (not (is_among h.variable p.variables)) five.0).1

-- and so the variable of a DO is that of no DO in it
module _ (x : List ℕ) where
  mutual
    apart_in : (p : Surroundings) (s : StmtTree) → is_among x p.variables ≡ true → stmt_fits p s ≡ true → is_among x (loop_variables s) ≡ false
    apart_in p (Assign left right) there f = refl
    apart_in p (If c a b) there f =
        let second = and_parts _ (stmts_fit (in_if p (1 + statements_count a)) b) f in
        let first = and_parts _ (stmts_fit (in_if p 1) a) second.0 in
        list_any-append (is_same_text x) (all_loop_variables a) (all_loop_variables b)
        ∙ λ i. all_apart_in (in_if p 1) a there first.1 i || all_apart_in (in_if p (1 + statements_count a)) b there second.1 i
    apart_in p (Do h body) there f =
        let parts = and_parts (loop_fits p h body) (stmts_fit (in_loop p h) body) f in
        let other : is_same_text x h.variable ≡ false = not_true (is_same_text x h.variable) (λ e. sym there ∙ ap (λ (y : List ℕ). is_among y p.variables) (same_is x h.variable e) ∙ variable_apart p h body parts.0) in
        let inner = all_apart_in (in_loop p h) body (or_right (is_same_text x h.variable) (is_among x p.variables) there) parts.1 in
        λ i. other i || inner i
    apart_in p (Print items) there f = refl
    apart_in p (Read items) there f = refl
    apart_in p Stop there f = refl
    apart_in p (Comment text) there f = refl

    pub all_apart_in : (p : Surroundings) (ss : StmtTrees) → is_among x p.variables ≡ true → stmts_fit p ss ≡ true → is_among x (all_loop_variables ss) ≡ false
    all_apart_in p no_stmts there f = refl
    all_apart_in p (more_stmts s rest) there f =
        let parts = and_parts (stmt_fits p s) (stmts_fit (moved p (statement_count s)) rest) f in
        list_any-append (is_same_text x) (loop_variables s) (all_loop_variables rest)
        ∙ λ i. apart_in p s there parts.0 i || all_apart_in (moved p (statement_count s)) rest there parts.1 i

-- a statement of a valid program fits, is right, and its names are those of the program
module _ (t : ProgramTree) where
  abbrev Named : List Site → Type 0
  Named sites = (y : List ℕ) → occurs y sites ≡ true → occurs y (program_sites t) ≡ true

  pub record IsPart (s : StmtTree) : Type 0 where
    pub around : Surroundings
    pub fits : stmt_fits around s ≡ true
    pub right : stmt_is_right (kind_in t) s ≡ true
    pub steps : stmt_steps_are_right (at_last t).values s ≡ true
    pub named : Named (stmt_sites s)

  first_named : (xs ys : List Site) → Named (xs ++ ys) → Named xs
  first_named xs ys all y h = all y (occurs_append y xs ys ∙ or_left (occurs y xs) (occurs y ys) h)

  rest_named : (xs ys : List Site) → Named (xs ++ ys) → Named ys
  rest_named xs ys all y h = all y (occurs_append y xs ys ∙ or_right (occurs y xs) (occurs y ys) h)

  mutual
    parts_of : (p : Surroundings) (s : StmtTree) → stmt_fits p s ≡ true → stmt_is_right (kind_in t) s ≡ true → stmt_steps_are_right (at_last t).values s ≡ true → Named (stmt_sites s) → OfEach IsPart (numbered s)
    parts_of p (Assign left right) f r k n = (record { around = p; fits = f; right = r; steps = k; named = n }, tt)
    parts_of p (If c a b) f r k n =
        let second = and_parts _ (stmts_fit (in_if p (1 + statements_count a)) b) f in
        let first = and_parts _ (stmts_fit (in_if p 1) a) second.0 in
        let right = and_parts _ (stmts_are_right (kind_in t) b) r in
        let left = and_parts (cond_is_right (kind_in t) c) (stmts_are_right (kind_in t) a) right.0 in
        let steps = and_parts (steps_are_right (at_last t).values a) (steps_are_right (at_last t).values b) k in
        let inner : Named (stmts_sites a ++ stmts_sites b) = rest_named (statement (If c a b) ∷ []) (stmts_sites a ++ stmts_sites b) n in (
          record { around = p; fits = f; right = r; steps = k; named = n },
          each_of_both IsPart (all_numbered a) (all_numbered b) (all_parts_of (in_if p 1) a first.1 left.1 steps.0 (first_named (stmts_sites a) (stmts_sites b) inner))
              (all_parts_of (in_if p (1 + statements_count a)) b second.1 right.1 steps.1 (rest_named (stmts_sites a) (stmts_sites b) inner)),
        )
    parts_of p (Do h b) f r k n =
        let fit = and_parts (loop_fits p h b) (stmts_fit (in_loop p h) b) f in
        let right = and_parts (head_is_right (kind_in t) h) (stmts_are_right (kind_in t) b) r in
        let steps = and_parts (step_is_right (at_last t).values h.step) (steps_are_right (at_last t).values b) k in (
          record { around = p; fits = f; right = r; steps = k; named = n },
          all_parts_of (in_loop p h) b fit.1 right.1 steps.1 (rest_named (private_site h.private) (stmts_sites b) (rest_named (statement (Do h b) ∷ []) (private_site h.private ++ stmts_sites b) n)),
        )
    parts_of p (Print items) f r k n = (record { around = p; fits = f; right = r; steps = k; named = n }, tt)
    parts_of p (Read items) f r k n = (record { around = p; fits = f; right = r; steps = k; named = n }, tt)
    parts_of p Stop f r k n = (record { around = p; fits = f; right = r; steps = k; named = n }, tt)
    parts_of p (Comment text) f r k n = tt

    all_parts_of : (p : Surroundings) (ss : StmtTrees) → stmts_fit p ss ≡ true → stmts_are_right (kind_in t) ss ≡ true → steps_are_right (at_last t).values ss ≡ true → Named (stmts_sites ss) → OfEach IsPart (all_numbered ss)
    all_parts_of p no_stmts f r k n = tt
    all_parts_of p (more_stmts s rest) f r k n =
        let fit = and_parts (stmt_fits p s) (stmts_fit (moved p (statement_count s)) rest) f in
        let right = and_parts (stmt_is_right (kind_in t) s) (stmts_are_right (kind_in t) rest) r in
        let steps = and_parts (stmt_steps_are_right (at_last t).values s) (steps_are_right (at_last t).values rest) k in
        each_of_both IsPart (numbered s) (all_numbered rest) (parts_of p s fit.0 right.0 steps.0 (first_named (stmt_sites s) (stmts_sites rest) n))
        (all_parts_of (moved p (statement_count s)) rest fit.1 right.1 steps.1 (rest_named (stmt_sites s) (stmts_sites rest) n))

  pub part_at : IsValid t → (n : ℕ) (s : StmtTree) → statement_with n t ≡ Some s → IsPart s
  part_at v n s is = go (n == 0) is
    where
      all : OfEach IsPart (all_numbered t.body)
      all =
          all_parts_of (at_body t) t.body (and_parts (decls_fit 0 t.decls) (stmts_fit (at_body t) t.body) (and_parts _ (begins_with_statement t.body) v.fits).0).1
          (right_program t v).statements (right_program t v).steps (rest_named (flat_map decl_sites t.decls) (stmts_sites t.body) (λ y h. h))

      go : (b : Bool) → (if b then None else at_place (all_numbered t.body) (n - 1)) ≡ Some s → IsPart s
      go true e = absurd cc
      go false e = place_of_each IsPart (all_numbered t.body) (n - 1) s all e
