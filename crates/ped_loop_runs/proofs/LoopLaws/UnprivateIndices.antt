-- The variable of a DO is private to no DO round it, nor to itself: refused where a text is read, so it isn't so in a valid program.
use Rattle.std.proofs.Common.{◌≡◌, ℕ, ◌+◌, ◌⊎◌, List, [], ◌∷◌, ◌++◌, length, Bool, true, false, ◌&&◌, ◌||◌, refl, sym, ap, ◌∙◌, inl, inr}
use Rattle.std.specs.Prelude.{not, nat_le}
use Rattle.std.specs.List.{list_all}
use Rattle.std.proofs.lemmas.Bool.{and_parts, not-true}
use Rattle.std.proofs.lemmas.List.Folds.{list_any-append}
use Rattle.ped_bodies.specs.ped_flow.specs.ped_base.specs.Lists.{has_some, is_same_text, is_among}
use Rattle.ped_bodies.specs.ped_flow.specs.ped_base.proofs.NameEquality.{same_is}
use Rattle.ped_bodies.specs.ped_flow.specs.ped_tree.specs.Tree.{Head, StmtTree, StmtTrees, Assign, If, Do, Print, Read, Stop, Comment, no_stmts, more_stmts}
use Rattle.ped_bodies.specs.ped_flow.specs.ped_tree.specs.Numbering.{statement_count, statements_count}
use Rattle.ped_bodies.specs.ped_flow.specs.ped_tree.specs.Printing.{private_text}
use Rattle.ped_bodies.specs.ped_flow.specs.ped_tree.specs.Grammar.LimitNumbers.{most_characters}
use Rattle.ped_bodies.specs.ped_flow.specs.ped_tree.specs.Grammar.StatementForms.{are_names}
use Rattle.ped_bodies.specs.ped_flow.specs.ped_tree.specs.Grammar.Words.{is_name}
use Rattle.ped_bodies.specs.ped_flow.specs.ped_tree.specs.Grammar.ProgramRefusals.{meets}
use Rattle.ped_bodies.specs.ped_flow.specs.ped_tree.specs.Grammar.Fits.{Surroundings, moved, in_if, in_loop, private_fits, loop_fits, stmt_fits, stmts_fit}
use Rattle.ped_bodies.specs.ped_flow.specs.ped_tree.specs.NamesIn.{loop_variables, all_loop_variables}
use Rattle.ped_bodies.specs.ped_laws.proofs.ConflictLaws.MakingParts.{among_first, among_right}
use Rattle.ped_bodies.specs.ped_steps.proofs.RunLaws.ProgramParts.{not_true}

none_of : (a b : Bool) → a || b ≡ false → (a ≡ false) × (b ≡ false)
none_of true b e = absurd cc
none_of false b e = (refl, e)

either_of : (a b : Bool) → a || b ≡ true → (a ≡ true) ⊎ (b ≡ true)
either_of true b e = inl refl
either_of false b e = inr e

-- names that meet none of the others have none of them
unmet : (names others : List (List ℕ)) (v : List ℕ) → meets names others ≡ false → is_among v others ≡ true → is_among v names ≡ false
unmet [] others v h i = refl
unmet (y ∷ ys) others v h i =
    let parts = none_of (is_among y others) (meets ys others) h in
    let apart : is_same_text v y ≡ false = not_true (is_same_text v y) (λ e. sym i ∙ ap (λ (z : List ℕ). is_among z others) (same_is v y e) ∙ parts.0) in
    let more = unmet ys others v parts.1 i in
    λ j. apart j || more j

own_unprivate : (names others : List (List ℕ)) (v : List ℕ) (a b : Bool) → (not (has_some names) || ((a && b) && not (meets names (v ∷ others)))) ≡ true → is_among v names ≡ false
own_unprivate [] others v a b h = refl
own_unprivate (y ∷ ys) others v a b h =
    unmet (y ∷ ys) (v ∷ others) v (not-true (meets (y ∷ ys) (v ∷ others)) (and_parts (a && b) (not (meets (y ∷ ys) (v ∷ others))) h).1) (among_first v others)

-- what a DO that fits says of its variable and its PRIVATE names
module _ (p : Surroundings) (h : Head) (body : StmtTrees) (fits : loop_fits p h body ≡ true) where
  private_fit : private_fits p h ≡ true
  private_fit = (and_parts _ (private_fits p h) (and_parts _ (list_all is_name h.rejected) fits).0).1

  variable_unprivate : is_among h.variable p.private ≡ false
  variable_unprivate =
      let one = and_parts _ (list_all is_name h.rejected) fits in
      let two = and_parts _ (private_fits p h) one.0 in
      let three = and_parts _ _ two.0 in
      let four = and_parts _ _ three.0 in
      not-true (is_among h.variable p.private) (and_parts _ (not (is_among h.variable p.private)) four.0).1

  variable_apart : is_among h.variable (h.private ++ p.private) ≡ false
  variable_apart =
      list_any-append (is_same_text h.variable) h.private p.private
      ∙ (λ i. own_unprivate h.private p.variables h.variable (are_names h.private) (nat_le (length (private_text h.private)) most_characters) private_fit i || variable_unprivate i)

-- a name that is private to a DO round statements is the variable of no DO among them or in them
module _ (x : List ℕ) where
  mutual
    apart_in : (p : Surroundings) (s : StmtTree) → is_among x p.private ≡ true → stmt_fits p s ≡ true → is_among x (loop_variables s) ≡ false
    apart_in p (Assign left right) there f = refl
    apart_in p (If c a b) there f =
        let second = and_parts _ (stmts_fit (in_if p (1 + statements_count a)) b) f in
        let first = and_parts _ (stmts_fit (in_if p 1) a) second.0 in
        list_any-append (is_same_text x) (all_loop_variables a) (all_loop_variables b)
        ∙ λ i. all_apart_in (in_if p 1) a there first.1 i || all_apart_in (in_if p (1 + statements_count a)) b there second.1 i
    apart_in p (Do h body) there f =
        let parts = and_parts (loop_fits p h body) (stmts_fit (in_loop p h) body) f in
        let other : is_same_text x h.variable ≡ false = not_true (is_same_text x h.variable) (λ e. sym there ∙ ap (λ (y : List ℕ). is_among y p.private) (same_is x h.variable e) ∙ variable_unprivate p h body parts.0) in
        let inner = all_apart_in (in_loop p h) body (among_right x h.private p.private there) parts.1 in
        λ i. other i || inner i
    apart_in p (Print items) there f = refl
    apart_in p (Read items) there f = refl
    apart_in p Stop there f = refl
    apart_in p (Comment text) there f = refl

    all_apart_in : (p : Surroundings) (ss : StmtTrees) → is_among x p.private ≡ true → stmts_fit p ss ≡ true → is_among x (all_loop_variables ss) ≡ false
    all_apart_in p no_stmts there f = refl
    all_apart_in p (more_stmts s rest) there f =
        let parts = and_parts (stmt_fits p s) (stmts_fit (moved p (statement_count s)) rest) f in
        list_any-append (is_same_text x) (loop_variables s) (all_loop_variables rest)
        ∙ λ i. apart_in p s there parts.0 i || all_apart_in (moved p (statement_count s)) rest there parts.1 i

-- the variables of a DO and of those in it are private neither to it nor to a DO round it
pub indices_unprivate : (p : Surroundings) (h : Head) (body : StmtTrees) (w : List ℕ) → stmt_fits p (Do h body) ≡ true → is_among w (loop_variables (Do h body)) ≡ true → is_among w (h.private ++ p.private) ≡ false
indices_unprivate p h body w fits index = not_true (is_among w (h.private ++ p.private)) (λ e. elim (either_of (is_same_text w h.variable) (is_among w (all_loop_variables body)) index) [
  | inl same ↦ sym e ∙ ap (λ (y : List ℕ). is_among y (h.private ++ p.private)) (same_is w h.variable same) ∙ variable_apart p h body parts.0
  | inr inner ↦ sym inner ∙ all_apart_in w (in_loop p h) body e parts.1
])
  where
    parts : (loop_fits p h body ≡ true) × (stmts_fit (in_loop p h) body ≡ true)
    parts = and_parts (loop_fits p h body) (stmts_fit (in_loop p h) body) fits
