-- A statement with a literal that is too large has one also where literals are saturated, and any other statement stays as it is.
use Rattle.std.proofs.Common.{◌≡◌, ℕ, Bool, true, false, List, [], ◌∷◌, map, length, refl, sym, ap, ◌∙◌}
use Rattle.std.specs.Prelude.{◌||◌, nat_lt}
use Rattle.std.specs.List.{list_any}
use Rattle.ped_tree.specs.Tree.{ExprTree, ItemTree, Value, Text, Head, StmtTree, StmtTrees, Assign, If, Do, Print, Read, Stop, Comment, no_stmts, more_stmts, BoundTree, DeclaratorTree, DeclTree, Program, Implicit, Integer, Dimension, Parameter, Save, Remark}
use Rattle.ped_tree.specs.Grammar.Literals.{has_large_literal, cond_has_large_literal, item_has_large_literal, head_has_large_literal, stmt_has_large_literal, stmts_have_large_literal, declarator_has_large_literal, decl_has_large_literal}
use Rattle.ped_tree.specs.Grammar.Items.{Item, declares, saves_all, does, continues, logical_if, block_if, else_if, else_line, end_if, begins_do, ends_do, keeps_private, ends_program, Entry}
use Rattle.ped_tree.specs.Grammar.Contexts.{Context, open_variables}
use Rattle.ped_tree.specs.Grammar.LimitNumbers.{most_dimensions}
use Rattle.ped_tree.specs.Grammar.ProgramRefusals.{listed_stmts, private_behind, has_eight_dimensions, is_too_large, are_too_many, is_too_deep, has_many_references, is_too_long, passes_limit}
use Rattle.ped_statements.specs.ped_expressions.specs.ExpressionReading.{saturated, with_literals}
use Rattle.ped_statements.specs.ped_expressions.proofs.Large.{neither, large_saturated, cond_large_saturated, small_saturated, cond_small_saturated}
use Rattle.ped_statements.specs.Saturated.{item_with_literals, head_with_literals, stmt_with_literals, stmts_with_literals, bound_with_literals, declarator_with_literals, value_with_literals, decl_with_literals, says_with_literals}
use Rattle.ped_parse.proofs.OtherLiterals.{both, any_with, length_with, listed_with}

-- one or the other
abbrev some_of : Bool → Bool → Bool
some_of a b = a || b

large_item : (i : ItemTree) → item_has_large_literal (item_with_literals saturated i) ≡ item_has_large_literal i
large_item (Value e) = large_saturated e
large_item (Text t) = refl

large_head : (h : Head) → head_has_large_literal (head_with_literals saturated h) ≡ head_has_large_literal h
large_head h = both some_of (both some_of (large_saturated h.first) (large_saturated h.last)) (large_saturated h.step)

mutual
  large_stmt : (s : StmtTree) → stmt_has_large_literal (stmt_with_literals saturated s) ≡ stmt_has_large_literal s
  large_stmt (Assign l r) = both some_of (large_saturated l) (large_saturated r)
  large_stmt (If c a b) = both some_of (both some_of (cond_large_saturated c) (large_stmts a)) (large_stmts b)
  large_stmt (Do h b) = both some_of (large_head h) (large_stmts b)
  large_stmt (Print items) = any_with item_has_large_literal (item_with_literals saturated) large_item items
  large_stmt (Read items) = any_with has_large_literal (with_literals saturated) large_saturated items
  large_stmt Stop = refl
  large_stmt (Comment t) = refl

  large_stmts : (s : StmtTrees) → stmts_have_large_literal (stmts_with_literals saturated s) ≡ stmts_have_large_literal s
  large_stmts no_stmts = refl
  large_stmts (more_stmts s rest) = both some_of (large_stmt s) (large_stmts rest)

large_bound : (b : BoundTree) → has_large_literal (bound_with_literals saturated b).lower || has_large_literal (bound_with_literals saturated b).upper ≡ has_large_literal b.lower || has_large_literal b.upper
large_bound b = both some_of (large_saturated b.lower) (large_saturated b.upper)

large_declarator : (d : DeclaratorTree) → declarator_has_large_literal (declarator_with_literals saturated d) ≡ declarator_has_large_literal d
large_declarator d = any_with (λ (b : BoundTree). has_large_literal b.lower || has_large_literal b.upper) (bound_with_literals saturated) large_bound d.bounds

large_decl : (d : DeclTree) → decl_has_large_literal (decl_with_literals saturated d) ≡ decl_has_large_literal d
large_decl (Integer ds) = any_with declarator_has_large_literal (declarator_with_literals saturated) large_declarator ds
large_decl (Dimension ds) = any_with declarator_has_large_literal (declarator_with_literals saturated) large_declarator ds
large_decl (Parameter values) = any_with (λ (v : List ℕ × ExprTree). has_large_literal v.1) (value_with_literals saturated) (λ v. large_saturated v.1) values
large_decl (Program x) = refl
large_decl Implicit = refl
large_decl (Save names) = refl
large_decl (Remark t) = refl

eight_more : (d : DeclaratorTree) → nat_lt most_dimensions (length (declarator_with_literals saturated d).bounds) ≡ nat_lt most_dimensions (length d.bounds)
eight_more d = ap (λ n. nat_lt most_dimensions n) (length_with (bound_with_literals saturated) d.bounds)

eight_same : (d : DeclTree) → has_eight_dimensions (decl_with_literals saturated d) ≡ has_eight_dimensions d
eight_same (Integer ds) = any_with (λ (d : DeclaratorTree). nat_lt most_dimensions (length d.bounds)) (declarator_with_literals saturated) eight_more ds
eight_same (Dimension ds) = any_with (λ (d : DeclaratorTree). nat_lt most_dimensions (length d.bounds)) (declarator_with_literals saturated) eight_more ds
eight_same (Program x) = refl
eight_same Implicit = refl
eight_same (Parameter values) = refl
eight_same (Save names) = refl
eight_same (Remark t) = refl

large_same : (i : Item) → is_too_large (says_with_literals saturated i) ≡ is_too_large i
large_same (declares d) = both some_of (large_decl d) (eight_same d)
large_same (does s) = large_stmt s
large_same (logical_if c s) = both some_of (cond_large_saturated c) (ap (λ (ys : List StmtTree). list_any stmt_has_large_literal ys) (listed_with saturated s) ∙ any_with stmt_has_large_literal (stmt_with_literals saturated) large_stmt (listed_stmts s))
large_same (block_if c) = cond_large_saturated c
large_same (else_if c) = cond_large_saturated c
large_same (begins_do l h) = large_head h
large_same i = refl

small_list : {A : Type 0} (p : A → Bool) (g : A → A) → ((x : A) → p x ≡ false → g x ≡ x) → (xs : List A) → list_any p xs ≡ false → map g xs ≡ xs
small_list p g h [] k = refl
small_list p g h (x ∷ xs) k = let n = neither (p x) (list_any p xs) k in both (λ y ys. y ∷ ys) (h x n.0) (small_list p g h xs n.1)

small_item : (i : ItemTree) → item_has_large_literal i ≡ false → item_with_literals saturated i ≡ i
small_item (Value e) h = ap Value (small_saturated e h)
small_item (Text t) h = refl

small_head : (h : Head) → head_has_large_literal h ≡ false → head_with_literals saturated h ≡ h
small_head h k =
    let m = neither (has_large_literal h.first || has_large_literal h.last) (has_large_literal h.step) k in
    let n = neither (has_large_literal h.first) (has_large_literal h.last) m.0 in
    let a = small_saturated h.first n.0 in
    let b = small_saturated h.last n.1 in
    let c = small_saturated h.step m.1 in
    λ j. record h { first = a j; last = b j; step = c j }

mutual
  small_stmt : (s : StmtTree) → stmt_has_large_literal s ≡ false → stmt_with_literals saturated s ≡ s
  small_stmt (Assign l r) h = let n = neither (has_large_literal l) (has_large_literal r) h in both Assign (small_saturated l n.0) (small_saturated r n.1)
  small_stmt (If c a b) h =
      let m = neither (cond_has_large_literal c || stmts_have_large_literal a) (stmts_have_large_literal b) h in
      let n = neither (cond_has_large_literal c) (stmts_have_large_literal a) m.0 in
      let p = cond_small_saturated c n.0 in
      let q = small_stmts a n.1 in
      let r = small_stmts b m.1 in
      λ j. If (p j) (q j) (r j)
  small_stmt (Do h b) k = let n = neither (head_has_large_literal h) (stmts_have_large_literal b) k in both Do (small_head h n.0) (small_stmts b n.1)
  small_stmt (Print items) h = ap Print (small_list item_has_large_literal (item_with_literals saturated) small_item items h)
  small_stmt (Read items) h = ap Read (small_list has_large_literal (with_literals saturated) small_saturated items h)
  small_stmt Stop h = refl
  small_stmt (Comment t) h = refl

  small_stmts : (s : StmtTrees) → stmts_have_large_literal s ≡ false → stmts_with_literals saturated s ≡ s
  small_stmts no_stmts h = refl
  small_stmts (more_stmts s rest) h = let n = neither (stmt_has_large_literal s) (stmts_have_large_literal rest) h in both more_stmts (small_stmt s n.0) (small_stmts rest n.1)

small_listed : (s : StmtTrees) → list_any stmt_has_large_literal (listed_stmts s) ≡ false → stmts_with_literals saturated s ≡ s
small_listed no_stmts h = refl
small_listed (more_stmts s rest) h = let n = neither (stmt_has_large_literal s) (list_any stmt_has_large_literal (listed_stmts rest)) h in both more_stmts (small_stmt s n.0) (small_listed rest n.1)

small_bound : (b : BoundTree) → (has_large_literal b.lower || has_large_literal b.upper) ≡ false → bound_with_literals saturated b ≡ b
small_bound b h =
    let n = neither (has_large_literal b.lower) (has_large_literal b.upper) h in
    let p = small_saturated b.lower n.0 in
    let q = small_saturated b.upper n.1 in
    λ j. record { lower = p j; upper = q j }

small_declarator : (d : DeclaratorTree) → declarator_has_large_literal d ≡ false → declarator_with_literals saturated d ≡ d
small_declarator d h =
    let b = small_list (λ (b : BoundTree). has_large_literal b.lower || has_large_literal b.upper) (bound_with_literals saturated) small_bound d.bounds h in
    λ j. record { name = d.name; bounds = b j }

small_value : (c : List ℕ × ExprTree) → has_large_literal c.1 ≡ false → value_with_literals saturated c ≡ c
small_value c h = let p = small_saturated c.1 h in λ j. (c.0, p j)

small_decl : (d : DeclTree) → decl_has_large_literal d ≡ false → decl_with_literals saturated d ≡ d
small_decl (Integer ds) h = ap Integer (small_list declarator_has_large_literal (declarator_with_literals saturated) small_declarator ds h)
small_decl (Dimension ds) h = ap Dimension (small_list declarator_has_large_literal (declarator_with_literals saturated) small_declarator ds h)
small_decl (Parameter values) h = ap Parameter (small_list (λ (c : List ℕ × ExprTree). has_large_literal c.1) (value_with_literals saturated) small_value values h)
small_decl (Program x) h = refl
small_decl Implicit h = refl
small_decl (Save names) h = refl
small_decl (Remark t) h = refl

pub small_same : (i : Item) → is_too_large i ≡ false → says_with_literals saturated i ≡ i
small_same (declares d) h = ap declares (small_decl d (neither (decl_has_large_literal d) (has_eight_dimensions d) h).0)
small_same (does s) h = ap does (small_stmt s h)
small_same (logical_if c s) h = let n = neither (cond_has_large_literal c) (list_any stmt_has_large_literal (listed_stmts s)) h in both logical_if (cond_small_saturated c n.0) (small_listed s n.1)
small_same (block_if c) h = ap block_if (cond_small_saturated c h)
small_same (else_if c) h = ap else_if (cond_small_saturated c h)
small_same (begins_do l head) h = ap (begins_do l) (small_head head h)
small_same saves_all h = refl
small_same continues h = refl
small_same else_line h = refl
small_same end_if h = refl
small_same ends_do h = refl
small_same (keeps_private names) h = refl
small_same ends_program h = refl

-- the limits other than that of literals, where these are the private names of the next statement
abbrev passes_other : List (List ℕ) → Context → List (List ℕ) → Item → Bool → Bool
passes_other saved c private i large =
    large
    || are_too_many c.statements i
    || is_too_deep c.blocks i
    || has_many_references c.constants (open_variables c.blocks) private i
    || is_too_long saved i

pub limit_same : (saved : List (List ℕ)) (c : Context) (others rest : List Entry) → private_behind others ≡ private_behind rest → (i : Item)
    → passes_limit saved c others (says_with_literals saturated i) ≡ passes_limit saved c rest i
limit_same saved c others rest p i =
    let j = says_with_literals saturated i in
    let go : (large : Bool) → is_too_large i ≡ large → passes_other saved c (private_behind others) j (is_too_large j) ≡ passes_other saved c (private_behind rest) i (is_too_large i) = λ large. elim large as (λ large. is_too_large i ≡ large → passes_other saved c (private_behind others) j (is_too_large j) ≡ passes_other saved c (private_behind rest) i (is_too_large i)) [
      | true ↦ λ h. ap (passes_other saved c (private_behind others) j) (large_same i ∙ h) ∙ ap (passes_other saved c (private_behind rest) i) (sym h)
      | false ↦ λ h. let q = small_same i h in λ k. passes_other saved c (p k) (q k) (is_too_large (q k))
    ] in
    go (is_too_large i) refl
