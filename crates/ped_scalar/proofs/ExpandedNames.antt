-- The names, the setting and the outcomes of a program in which an array's elements stand in the place of a scalar in a DO.
use Rattle.std.proofs.Common.{◌≡◌, ℕ, ℤ, int_le, List, [], ◌∷◌, ◌++◌, Bool, true, false, ◌&&◌, Some, None, refl, sym, ap, subst, ◌∙◌, append-nil, if◌then◌else◌}
use Rattle.std.specs.Prelude.{◌||◌, unsigned_abs, nat_lt}
use Rattle.std.specs.List.{flat_map}
use Rattle.std.proofs.lemmas.Bool.{or_from}
use Rattle.std.proofs.lemmas.Grind.{flat_map-append}
use Rattle.ped_base.specs.Dimensions.{Dimensions}
use Rattle.ped_base.specs.Lists.{is_same_text, is_among}
use Rattle.ped_tree.specs.Tree.{Head, StmtTree, StmtTrees, Do, no_stmts, more_stmts, DeclTree, ProgramTree}
use Rattle.ped_tree.specs.NamesIn.{expr_names, head_names, stmts_names, saved_in}
use Rattle.ped_tree.specs.Numbering.{statement_with}
use Rattle.ped_tree.proofs.NameLaws.Collected.{among_append}
use Rattle.ped_base.proofs.NameEquality.{same_is}
use Rattle.ped_rules.specs.ped_symbols.specs.declared.symbols.Kind.{Kind}
use Rattle.ped_rules.specs.ped_symbols.specs.declared.symbols.Kind.TheVariants.{Scalar, Array, Constant}
use Rattle.ped_rules.specs.ped_symbols.specs.Sites.{stmt_sites, stmts_sites}
use Rattle.ped_rules.specs.ped_symbols.specs.Kinds.{kind_of, kind_in, names_of}
use Rattle.ped_rules.specs.ped_symbols.specs.RightUses.RightUses.{is_scalar, is_scalar_kind}
use Rattle.ped_rules.specs.ped_store.specs.Cells as cells
use Rattle.ped_rules.specs.ped_store.specs.Storage.{is_within}
use Rattle.ped_rules.specs.ped_store.specs.Variables.{no_dimensions}
use Rattle.ped_rules.specs.ped_eval.specs.Outcomes.{bounds_of, setting_of, live_names}
use Rattle.ped_rules.specs.ped_flow.specs.Questions.{LoopOf}
use Rattle.ped_rules.specs.ped_laws.proofs.FlowRunLaws.Names.{sorted_among}
use Rattle.ped_rules.specs.ped_laws.specs.Runs.Showing.{shown_at_end}
use Rattle.ped_rules.specs.ped_steps.specs.Replacing.{all_replaced}
use Rattle.ped_rules.specs.ped_steps.specs.Runs.Pasting.{AgreeInBounds}
use Rattle.ped_rules.specs.ped_steps.specs.Runs.Substituting.{element_at}
use Rattle.ped_rules.specs.ped_steps.specs.Runs.Expanding.{array_bounds, array_decl, with_array}
use Rattle.ped_scalar.proofs.ArraysForScalars.{body_with, kept_value, new_statements}
use Rattle.ped_rules.specs.ped_steps.proofs.RunLaws.NamesKept.{occurs, AreAlike, alike_itself, Alike, names_kept}
use Rattle.ped_rules.specs.ped_steps.proofs.RunLaws.ScalarNames.{scalar_occurs, statement_in}
use Rattle.ped_rules.specs.ped_steps.proofs.RunLaws.NamesAtSites.{stmt_at, stmts_at}
use Rattle.ped_scalar.proofs.ExpandedRuns.{agree_but}
use Rattle.ped_rules.specs.ped_steps.proofs.RunLaws.DeclaredArrays.{names_besides, array_named, values_same, kind_same, absent_in_body, unsaved, kind_there}
use Rattle.ped_rules.specs.ped_steps.proofs.RunLaws.SubstitutedNames.{literal_names, in_stmts}
use Rattle.std.proofs.lemmas.Bool.{both_ways}
use Rattle.ped_rules.proofs.NameLaws.UnnamedCells.{unsaved_name}

-- the new declaration saves nothing
pub saved_same : (ds : List DeclTree) (array : List ℕ) (lo hi : ℤ) → flat_map saved_in (ds ++ array_decl array lo hi ∷ []) ≡ flat_map saved_in ds
saved_same ds array lo hi = flat_map-append saved_in ds (array_decl array lo hi ∷ []) ∙ append-nil (flat_map saved_in ds)

-- a scalar's kind
scalar_kind : (t : ProgramTree) (x : List ℕ) → is_scalar (kind_in t) x ≡ true → kind_of t x ≡ Scalar
scalar_kind t x h = go (is_among x (names_of t)) (kind_of t x) h
  where
    go : (b : Bool) (k : Kind) → is_scalar_kind (if b then Some k else None) ≡ true → k ≡ Scalar
    go true Scalar e = refl
    go true (Array bounds) e = absurd cc
    go true (Constant n) e = absurd cc
    go false k e = absurd cc

no_bounds : (b : Bool) (k : Kind) → k ≡ Scalar → bounds_of (if b then Some k else None) ≡ no_dimensions
no_bounds true k e = ap (λ (z : Kind). bounds_of (Some z)) e
no_bounds false k e = refl

not_false : (b : Bool) → (b ≡ false → ⊥) → b ≡ true
not_false true h = refl
not_false false h = absurd (h refl)

module _ (t : ProgramTree) (l : ℕ) (loop : LoopOf t l) (x array : List ℕ) (scalar : is_scalar (kind_in t) x ≡ true) (absent : is_among array (names_of t) ≡ false) (lo hi last : ℤ) (near : nat_lt 2147483647 (unsigned_abs lo) ≡ false) (far : nat_lt 2147483647 (unsigned_abs hi) ≡ false)
    (live : Bool) (by : StmtTree → StmtTrees) (by_is : by (Do loop.head loop.body) ≡ new_statements x array live last loop.head loop.body) where
  abbrev h : Head
  h = loop.head

  abbrev s : StmtTree
  s = Do loop.head loop.body

  -- the new statements of the program
  abbrev statements : StmtTrees
  statements = all_replaced by l t.body 1

  -- the new program
  abbrev pub u : ProgramTree
  u = with_array t statements array lo hi

  -- a name that is neither the scalar's nor the array's occurs in the new statements where it does in the old DO
  module _ (y : List ℕ) (not_scalar : is_same_text y x ≡ false) (not_array : is_same_text y array ≡ false) where
    behind : (b : Bool) → is_among y (stmts_names (kept_value b x array last)) ≡ false
    behind true =
        ap (λ (names : List (List ℕ)). is_among y (((x ∷ []) ++ (array ∷ (names ++ []))) ++ [])) (literal_names last)
        ∙ or_from _ _ not_scalar (or_from _ _ not_array refl)
    behind false = refl

    in_head : (b : Bool) → is_same_text y h.variable ≡ b → b ≡ true → is_among y (head_names h) ≡ true
    in_head b e q =
        among_append y h.rejected (h.variable ∷ (expr_names h.first ++ expr_names h.last ++ expr_names h.step ++ h.private))
        ∙ ap (λ (r : Bool). is_among y h.rejected || (r || is_among y (expr_names h.first ++ expr_names h.last ++ expr_names h.step ++ h.private))) (e ∙ q)
        ∙ right (is_among y h.rejected)
      where
        right : (a : Bool) → a || true ≡ true
        right true = refl
        right false = refl

    in_loop : is_among y (head_names h) || is_among y (stmts_names (body_with x array h loop.body)) ≡ is_among y (head_names h) || is_among y (stmts_names loop.body)
    in_loop = go (is_same_text y h.variable) refl
      where
        go : (b : Bool) → is_same_text y h.variable ≡ b → is_among y (head_names h) || is_among y (stmts_names (body_with x array h loop.body)) ≡ is_among y (head_names h) || is_among y (stmts_names loop.body)
        go true e =
            ap (λ (r : Bool). r || is_among y (stmts_names (body_with x array h loop.body))) (in_head true e refl)
            ∙ ap (λ (r : Bool). r || is_among y (stmts_names loop.body)) (sym (in_head true e refl))
        go false e = ap (λ (r : Bool). is_among y (head_names h) || r) (in_stmts x (element_at array h.variable) y not_scalar (or_from _ _ not_array (or_from _ _ e refl)) loop.body)

    or_nothing : (a : Bool) → a || false ≡ a
    or_nothing true = refl
    or_nothing false = refl

    in_new : is_among y (stmts_names (new_statements x array live last h loop.body)) ≡ is_among y (stmts_names (more_stmts s no_stmts))
    in_new =
        among_append y (head_names h ++ stmts_names (body_with x array h loop.body)) (stmts_names (kept_value live x array last))
        ∙ ap (λ (r : Bool). is_among y (head_names h ++ stmts_names (body_with x array h loop.body)) || r) (behind live)
        ∙ or_nothing (is_among y (head_names h ++ stmts_names (body_with x array h loop.body)))
        ∙ among_append y (head_names h) (stmts_names (body_with x array h loop.body)) ∙ in_loop ∙ sym (among_append y (head_names h) (stmts_names loop.body))
        ∙ ap (is_among y) (sym (append-nil (head_names h ++ stmts_names loop.body)))

    occurs_same : occurs y (stmts_sites (by s)) ≡ occurs y (stmt_sites s)
    occurs_same =
        ap (λ (ts : StmtTrees). occurs y (stmts_sites ts)) by_is ∙ ap (is_among y) (stmts_at (new_statements x array live last h loop.body)) ∙ in_new
        ∙ ap (is_among y) (append-nil (head_names h ++ stmts_names loop.body)) ∙ ap (is_among y) (sym (stmt_at s))

    of_it : (old : StmtTree) → statement_with l t ≡ Some old → AreAlike x y (stmts_sites (by old)) (stmt_sites old)
    of_it old there =
        let is : s ≡ old = ap (statement_in s) (sym loop.is ∙ there) in
        subst (λ (z : StmtTree). AreAlike x y (stmts_sites (by z)) (stmt_sites z)) is
        (subst (λ (b : Bool). Alike (is_same_text y x) b (occurs y (stmt_sites s))) (sym occurs_same) (alike_itself (is_same_text y x) (occurs y (stmt_sites s))))

    -- such a name occurs in the new program where it does in the old one
    pub names_same : is_among y (names_of u) ≡ is_among y (names_of t)
    names_same = names_besides t statements array lo hi y not_array ∙ names_kept x y by l t of_it (scalar_occurs t x scalar)

    -- and stands for the same
    pub kind_kept : kind_in u y ≡ kind_in t y
    kind_kept = λ i. if names_same i then Some (kind_same t statements array lo hi near far y not_array i) else None

  -- the scalar stands for what it stood for, where it occurs still
  not_array_itself : is_same_text x array ≡ false
  not_array_itself = go (is_same_text x array) refl
    where
      go : (b : Bool) → is_same_text x array ≡ b → b ≡ false
      go true e = sym (scalar_occurs t x scalar) ∙ ap (λ (z : List ℕ). is_among z (names_of t)) (same_is x array e) ∙ absent
      go false e = refl

  pub scalar_kept : kind_of u x ≡ Scalar
  scalar_kept = kind_same t statements array lo hi near far x not_array_itself ∙ scalar_kind t x scalar

  pub scalar_in : is_among x (names_of u) ≡ true → kind_in u x ≡ kind_in t x
  scalar_in there = λ i. if (there ∙ sym (scalar_occurs t x scalar)) i then Some (kind_same t statements array lo hi near far x not_array_itself i) else None

  -- the array stands for an array with these bounds
  pub array_kind : kind_in u array ≡ Some (Array (array_bounds lo hi))
  array_kind = λ i. if array_named t statements array lo hi i then Some (kind_there t statements array lo hi near far absent i) else None

  pub array_setting : (setting_of u).bounds array ≡ array_bounds lo hi
  array_setting = ap bounds_of array_kind

  pub array_within : (k : ℤ) → int_le lo k ≡ true → int_le k hi ≡ true → is_within ((setting_of u).bounds array) (k ∷ []) ≡ true
  array_within k from to = ap (λ (d : Dimensions). is_within d (k ∷ [])) array_setting ∙ (λ i. (from i && to i) && true)

  -- other names have the bounds that they had
  pub bounds_kept : (y : List ℕ) → is_same_text y array ≡ false → (setting_of u).bounds y ≡ (setting_of t).bounds y
  bounds_kept y e = go (is_same_text y x) refl
    where
      go : (b : Bool) → is_same_text y x ≡ b → (setting_of u).bounds y ≡ (setting_of t).bounds y
      go true q =
          ap (setting_of u).bounds (same_is y x q) ∙ no_bounds (is_among x (names_of u)) (kind_of u x) scalar_kept ∙ sym (no_bounds (is_among x (names_of t)) (kind_of t x) (scalar_kind t x scalar))
          ∙ ap (setting_of t).bounds (sym (same_is y x q))
      go false q = ap bounds_of (kind_kept y q e)

  pub constants_kept : (setting_of u).constants ≡ (setting_of t).constants
  constants_kept = values_same t statements array lo hi near far

  -- the old statements find the bounds that they found
  pub array_absent : is_among array (stmts_names t.body) ≡ false
  array_absent = absent_in_body t statements array lo hi near far absent

  pub bounds_agree : AgreeInBounds (setting_of t).bounds (setting_of u).bounds (stmts_names t.body)
  bounds_agree = agree_but (setting_of t).bounds (setting_of u).bounds array (stmts_names t.body) (λ y e. sym (bounds_kept y e)) array_absent

  -- the array isn't live at the end
  pub array_unlive : is_among array (live_names t) ≡ false
  array_unlive = sorted_among array (flat_map saved_in t.decls) ∙ unsaved t statements array lo hi near far absent

  pub element_hidden : (js : List ℤ) → shown_at_end t (cells.Element array js) ≡ false
  element_hidden js = array_unlive

  -- a name that is live stands for the same
  pub live_kinds : (y : List ℕ) → is_among y (live_names t) ≡ true → kind_in u y ≡ kind_in t y
  live_kinds y there = go (is_same_text y array) (is_same_text y x) refl refl
    where
      saved : is_among y (flat_map saved_in u.decls) ≡ true
      saved = ap (is_among y) (saved_same t.decls array lo hi) ∙ sym (sorted_among y (flat_map saved_in t.decls)) ∙ there

      named : is_among y (names_of u) ≡ true
      named = not_false (is_among y (names_of u)) (λ none. both_ways (is_among y (flat_map saved_in u.decls)) (unsaved_name u y none) saved)

      go : (a b : Bool) → is_same_text y array ≡ a → is_same_text y x ≡ b → kind_in u y ≡ kind_in t y
      go true b e q = absurd (both_ways (is_among array (live_names t)) array_unlive (ap (λ (z : List ℕ). is_among z (live_names t)) (sym (same_is y array e)) ∙ there))
      go false true e q = let is = same_is y x q in ap (λ (z : List ℕ). kind_in u z) is ∙ scalar_in (ap (λ (z : List ℕ). is_among z (names_of u)) (sym is) ∙ named) ∙ ap (λ (z : List ℕ). kind_in t z) (sym is)
      go false false e q = kind_kept y q e
