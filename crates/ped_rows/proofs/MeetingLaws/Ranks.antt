-- A reference has as many subscripts as its array has dimensions.
use Rattle.std.proofs.Common.{◌≡◌, ℕ, suc, ◌+◌, List, [], ◌∷◌, ◌++◌, length, Bool, true, false, ◌&&◌, Option, Some, None, refl, sym, ap, ◌∙◌, subst, inl, inr, if◌then◌else◌}
use Rattle.std.specs.Prelude.{◌==◌, codes}
use Rattle.std.specs.List.{list_all, flat_map}
use Rattle.std.proofs.lemmas.Bool.{and_parts, eqb-true}
use Rattle.ped_laws.specs.ped_flow.specs.ped_base.specs.Lists.{is_among}
use Rattle.ped_laws.specs.ped_flow.specs.ped_tree.specs.Tree.{ExprTree, ExprTrees, Int, Var, Element, Neg, Add, Sub, Mul, Div, Pow, Call, no_exprs, more_exprs, CondTree, Rel, Not, And, Or, ItemTree, Value, Text, Head, StmtTree, StmtTrees, Assign, If, Do, Print, Read, Stop, Comment, ProgramTree}
use Rattle.ped_laws.specs.ped_flow.specs.ped_tree.specs.Accesses.{Access, listed, read_of, write_of, unless_constant, expr_reads, exprs_reads, cond_reads, left_accesses, item_reads, private_writes, own_accesses, constant_names}
use Rattle.ped_laws.specs.ped_flow.specs.ped_tree.specs.Nests.{indices_of}
use Rattle.ped_laws.specs.ped_flow.specs.ped_tree.specs.Grammar.Words.{is_name}
use Rattle.ped_laws.specs.ped_flow.specs.ped_tree.specs.Grammar.Fits.{Surroundings, in_if, simple_fits, expr_fits, exprs_fit, has_expr, takes_arguments, target_fits, cond_fits, item_fits, loop_fits, stmt_fits, stmts_fit}
use Rattle.ped_laws.specs.ped_flow.specs.ped_tree.specs.Numbering.{statements_count}
use Rattle.ped_laws.specs.ped_graph.specs.ped_refs.specs.References.{Reference, references}
use Rattle.ped_laws.specs.ped_graph.specs.ped_symbols.specs.declared.symbols.Kind.{Kind}
use Rattle.ped_laws.specs.ped_graph.specs.ped_symbols.specs.declared.symbols.Kind.TheVariants.{Scalar, Array, Constant}
use Rattle.ped_laws.specs.ped_graph.specs.ped_symbols.specs.Kinds.{kind_in}
use Rattle.ped_laws.specs.ped_graph.specs.ped_symbols.specs.NameRefusals.{IsValid}
use Rattle.ped_laws.specs.ped_graph.specs.ped_symbols.specs.Uses.{expr_count}
use Rattle.ped_laws.specs.ped_graph.specs.ped_symbols.specs.RightUses.RightUses.{NameKinds, is_scalar_kind, is_value_kind, is_array_kind, is_scalar, is_value, has_rank, is_rank, expr_is_right, exprs_are_right, target_is_right, cond_is_right, item_is_right, head_is_right, stmt_is_right, stmts_are_right}
use Rattle.ped_laws.specs.Acts.Orders.{IsIn}
use Rattle.ped_laws.proofs.ActLaws.Lists.{in_parts}
use Rattle.ped_laws.proofs.ConflictLaws.CoveringOwners.{holds_among}
use Rattle.ped_laws.proofs.ConflictLaws.CoveringWrites.{statement_of, private_write}
use Rattle.ped_rows.proofs.MeetingLaws.FineStatements.{fine_statement}

-- how many subscripts a name of this kind has
abbrev pub rank_by : Option Kind → ℕ
rank_by None = 0
rank_by (Some Scalar) = 0
rank_by (Some (Array d)) = length d.lower
rank_by (Some (Constant n)) = 0

-- how many subscripts a name has; the data and the output are no names
abbrev pub rank_of : NameKinds → List ℕ → ℕ
rank_of k x = if is_name x then rank_by (k x) else 0

-- an access has as many subscripts as its name
abbrev pub HasRank : NameKinds → Access → Type 0
HasRank k a = length a.subscripts ≡ rank_of k a.name

value_rank : (o : Option Kind) → is_value_kind o ≡ true → rank_by o ≡ 0
value_rank None h = refl
value_rank (Some Scalar) h = refl
value_rank (Some (Array d)) h = absurd cc
value_rank (Some (Constant n)) h = refl

scalar_rank : (o : Option Kind) → is_scalar_kind o ≡ true → rank_by o ≡ 0
scalar_rank None h = refl
scalar_rank (Some Scalar) h = refl
scalar_rank (Some (Array d)) h = absurd cc
scalar_rank (Some (Constant n)) h = refl

array_rank : (n : ℕ) (o : Option Kind) → is_array_kind n o ≡ true → n ≡ rank_by o
array_rank n None h = absurd cc
array_rank n (Some Scalar) h = absurd cc
array_rank n (Some (Array d)) h = sym (eqb-true (length d.lower) n (and_parts (length d.lower == n) (length d.upper == n) h).0)
array_rank n (Some (Constant m)) h = absurd cc

none_by : (b : Bool) (n : ℕ) → n ≡ 0 → 0 ≡ (if b then n else 0)
none_by true n h = sym h
none_by false n h = refl

count_listed : (es : ExprTrees) → length (listed es) ≡ expr_count es
count_listed no_exprs = refl
count_listed (more_exprs e es) = ap suc (count_listed es)

module _ (k : NameKinds) (c indices : List (List ℕ)) where
  abbrev AllRanked : List Access → Type 0
  AllRanked accesses = (a : Access) → IsIn a accesses → HasRank k a

  none_ranked : AllRanked []
  none_ranked a i = absurd i

  one_ranked : (x : Access) → HasRank k x → AllRanked (x ∷ [])
  one_ranked x h a (inl e) = subst (HasRank k) (sym e) h
  one_ranked x h a (inr i) = absurd i

  ranked_append : (xs ys : List Access) → AllRanked xs → AllRanked ys → AllRanked (xs ++ ys)
  ranked_append xs ys h l a i = elim (in_parts a xs ys i) [ inl j ↦ h a j | inr j ↦ l a j ]

  unless_ranked : (x : Access) → HasRank k x → AllRanked (unless_constant c x)
  unless_ranked x h a i = go (is_among x.name c) i
    where
      go : (b : Bool) → IsIn a (if b then [] else x ∷ []) → HasRank k a
      go true i = absurd i
      go false i = one_ranked x h a i

  plain_rank : (x : List ℕ) (w : Bool) → rank_by (k x) ≡ 0 → HasRank k (record { name = x; writes = w; subscripts = [] })
  plain_rank x w h = none_by (is_name x) (rank_by (k x)) h

  name_ranked : (x : List ℕ) → is_value k x ≡ true → AllRanked (if is_among x indices then [] else unless_constant c (read_of x []))
  name_ranked x h a i = go (is_among x indices) i
    where
      go : (b : Bool) → IsIn a (if b then [] else unless_constant c (read_of x [])) → HasRank k a
      go true i = absurd i
      go false i = unless_ranked (read_of x []) (plain_rank x false (value_rank (k x) h)) a i

  element_rank : (x : List ℕ) (w : Bool) (es : ExprTrees) → expr_fits (Element x es) ≡ true → expr_is_right k (Element x es) ≡ true → HasRank k (record { name = x; writes = w; subscripts = listed es })
  element_rank x w es f u =
      let name : is_name x ≡ true = (and_parts (is_name x) _ (and_parts _ (has_expr es) (and_parts _ (exprs_fit es) f).0).0).0 in
      let rank : has_rank k (expr_count es) x ≡ true = (and_parts (has_rank k (expr_count es) x) (is_rank (expr_count es)) (and_parts _ (exprs_are_right k es) u).0).0 in
      count_listed es ∙ array_rank (expr_count es) (k x) rank ∙ ap (λ (b : Bool). if b then rank_by (k x) else 0) (sym name)

  both_ranked : (a b : ExprTree) → (expr_fits a ≡ true → expr_is_right k a ≡ true → AllRanked (expr_reads c indices a)) → (expr_fits b ≡ true → expr_is_right k b ≡ true → AllRanked (expr_reads c indices b))
      → (expr_fits a && expr_fits b) ≡ true → (expr_is_right k a && expr_is_right k b) ≡ true → AllRanked (expr_reads c indices a ++ expr_reads c indices b)
  both_ranked a b h l f u =
      let fits = and_parts (expr_fits a) (expr_fits b) f in
      let right = and_parts (expr_is_right k a) (expr_is_right k b) u in
      ranked_append (expr_reads c indices a) (expr_reads c indices b) (h fits.0 right.0) (l fits.1 right.1)

  mutual
    expr_ranked : (e : ExprTree) → expr_fits e ≡ true → expr_is_right k e ≡ true → AllRanked (expr_reads c indices e)
    expr_ranked (Int n) f u = none_ranked
    expr_ranked (Var x) f u = name_ranked x u
    expr_ranked (Element x es) f u =
        ranked_append (exprs_reads c indices es) (unless_constant c (read_of x (listed es)))
        (exprs_ranked es (and_parts _ (exprs_fit es) f).1 (and_parts _ (exprs_are_right k es) u).1)
        (unless_ranked (read_of x (listed es)) (element_rank x false es f u))
    expr_ranked (Neg a) f u = expr_ranked a f u
    expr_ranked (Add a b) f u = both_ranked a b (expr_ranked a) (expr_ranked b) f u
    expr_ranked (Sub a b) f u = both_ranked a b (expr_ranked a) (expr_ranked b) f u
    expr_ranked (Mul a b) f u = both_ranked a b (expr_ranked a) (expr_ranked b) f u
    expr_ranked (Div a b) f u = both_ranked a b (expr_ranked a) (expr_ranked b) f u
    expr_ranked (Pow a b) f u = both_ranked a b (expr_ranked a) (expr_ranked b) f u
    expr_ranked (Call i arguments) f u = exprs_ranked arguments (and_parts (takes_arguments i arguments) (exprs_fit arguments) f).1 (and_parts (takes_arguments i arguments) (exprs_are_right k arguments) u).1

    exprs_ranked : (es : ExprTrees) → exprs_fit es ≡ true → exprs_are_right k es ≡ true → AllRanked (exprs_reads c indices es)
    exprs_ranked no_exprs f u = none_ranked
    exprs_ranked (more_exprs e es) f u =
        let fits = and_parts (expr_fits e) (exprs_fit es) f in
        let right = and_parts (expr_is_right k e) (exprs_are_right k es) u in
        ranked_append (expr_reads c indices e) (exprs_reads c indices es) (expr_ranked e fits.0 right.0) (exprs_ranked es fits.1 right.1)

  cond_ranked : (condition : CondTree) → cond_fits condition ≡ true → cond_is_right k condition ≡ true → AllRanked (cond_reads c indices condition)
  cond_ranked (Rel r a b) f u = both_ranked a b (expr_ranked a) (expr_ranked b) f u
  cond_ranked (Not a) f u = cond_ranked a f u
  cond_ranked (And a b) f u =
      let fits = and_parts (cond_fits a) (cond_fits b) f in
      let right = and_parts (cond_is_right k a) (cond_is_right k b) u in
      ranked_append (cond_reads c indices a) (cond_reads c indices b) (cond_ranked a fits.0 right.0) (cond_ranked b fits.1 right.1)
  cond_ranked (Or a b) f u =
      let fits = and_parts (cond_fits a) (cond_fits b) f in
      let right = and_parts (cond_is_right k a) (cond_is_right k b) u in
      ranked_append (cond_reads c indices a) (cond_reads c indices b) (cond_ranked a fits.0 right.0) (cond_ranked b fits.1 right.1)

  left_ranked : (left : ExprTree) → target_fits left ≡ true → target_is_right k left ≡ true → AllRanked (left_accesses c indices left)
  left_ranked (Var x) f u = unless_ranked (write_of x []) (plain_rank x true (scalar_rank (k x) u))
  left_ranked (Element x es) f u =
      ranked_append (exprs_reads c indices es) (unless_constant c (write_of x (listed es)))
      (exprs_ranked es (and_parts _ (exprs_fit es) f).1 (and_parts _ (exprs_are_right k es) u).1)
      (unless_ranked (write_of x (listed es)) (element_rank x true es f u))
  left_ranked (Int n) f u = none_ranked
  left_ranked (Neg a) f u = none_ranked
  left_ranked (Add a b) f u = none_ranked
  left_ranked (Sub a b) f u = none_ranked
  left_ranked (Mul a b) f u = none_ranked
  left_ranked (Div a b) f u = none_ranked
  left_ranked (Pow a b) f u = none_ranked
  left_ranked (Call i arguments) f u = none_ranked

  lefts_ranked : (items : List ExprTree) → list_all target_fits items ≡ true → list_all (target_is_right k) items ≡ true → AllRanked (flat_map (left_accesses c indices) items)
  lefts_ranked [] f u = none_ranked
  lefts_ranked (item ∷ items) f u =
      let fits = and_parts (target_fits item) (list_all target_fits items) f in
      let right = and_parts (target_is_right k item) (list_all (target_is_right k) items) u in
      ranked_append (left_accesses c indices item) (flat_map (left_accesses c indices) items) (left_ranked item fits.0 right.0) (lefts_ranked items fits.1 right.1)

  items_ranked : (items : List ItemTree) → list_all item_fits items ≡ true → list_all (item_is_right k) items ≡ true → AllRanked (flat_map (item_reads c indices) items)
  items_ranked [] f u = none_ranked
  items_ranked (Value e ∷ items) f u =
      let fits = and_parts (expr_fits e) (list_all item_fits items) f in
      let right = and_parts (expr_is_right k e) (list_all (item_is_right k) items) u in
      ranked_append (expr_reads c indices e) (flat_map (item_reads c indices) items) (expr_ranked e fits.0 right.0) (items_ranked items fits.1 right.1)
  items_ranked (Text text ∷ items) f u = items_ranked items (and_parts _ (list_all item_fits items) f).1 (and_parts true (list_all (item_is_right k) items) u).1

  privates_ranked : (names : List (List ℕ)) → list_all (is_scalar k) names ≡ true → AllRanked (private_writes c names)
  privates_ranked names u a i =
      let p = private_write c names a i in
      ap length p.1 ∙ none_by (is_name a.name) (rank_by (k a.name)) (scalar_rank (k a.name) (holds_among (is_scalar k) a.name names u p.0))

  do_ranked : (p : Surroundings) (h : Head) (body : StmtTrees) → loop_fits p h body ≡ true → head_is_right k h ≡ true → AllRanked (own_accesses c indices (Do h body))
  do_ranked p h body f u =
      let steps = (and_parts _ _ (and_parts _ _ (and_parts _ _ (and_parts _ _ (and_parts _ _ (and_parts _ _ f).0).0).0).0).0).0 in
      let last = and_parts _ (expr_fits h.step) steps in
      let first = and_parts _ (expr_fits h.last) last.0 in
      let f_first : expr_fits h.first ≡ true = (and_parts _ (expr_fits h.first) first.0).1 in
      let private = and_parts _ (list_all (is_scalar k) h.private) u in
      let step = and_parts _ (expr_is_right k h.step) private.0 in
      let both = and_parts _ (expr_is_right k h.last) step.0 in
      let u_first = and_parts (is_scalar k h.variable) (expr_is_right k h.first) both.0 in
      ranked_append (expr_reads c indices h.first ++ expr_reads c indices h.last) (private_writes c h.private)
      (ranked_append (expr_reads c indices h.first) (expr_reads c indices h.last) (expr_ranked h.first f_first u_first.1) (expr_ranked h.last first.1 both.1))
      (privates_ranked h.private private.1)

  own_ranked : (p : Surroundings) (s : StmtTree) → stmt_fits p s ≡ true → stmt_is_right k s ≡ true → AllRanked (own_accesses c indices s)
  own_ranked p (Assign left right) f u =
      let outer = and_parts _ (expr_fits right) f in
      let front = and_parts (simple_fits p (Assign left right)) (target_fits left) outer.0 in
      let uses = and_parts (target_is_right k left) (expr_is_right k right) u in
      ranked_append (expr_reads c indices right) (left_accesses c indices left) (expr_ranked right outer.1 uses.1) (left_ranked left front.1 uses.0)
  own_ranked p (If condition a b) f u =
      let fits = and_parts _ (stmts_fit (in_if p (1 + statements_count a)) b) f in
      let front = and_parts _ (stmts_fit (in_if p 1) a) fits.0 in
      let right = and_parts _ (stmts_are_right k b) u in
      cond_ranked condition (and_parts _ (cond_fits condition) front.0).1 (and_parts (cond_is_right k condition) (stmts_are_right k a) right.0).0
  own_ranked p (Do h body) f u = do_ranked p h body (and_parts (loop_fits p h body) _ f).0 (and_parts (head_is_right k h) (stmts_are_right k body) u).0
  own_ranked p (Print items) f u =
      ranked_append (flat_map (item_reads c indices) items) (write_of (codes "(OUT)") [] ∷ []) (items_ranked items (and_parts (simple_fits p (Print items)) (list_all item_fits items) f).1 u) (one_ranked (write_of (codes "(OUT)") []) refl)
  own_ranked p (Read items) f u =
      ranked_append (write_of (codes "(IN)") [] ∷ []) (flat_map (left_accesses c indices) items) (one_ranked (write_of (codes "(IN)") []) refl) (lefts_ranked items (and_parts (simple_fits p (Read items)) (list_all target_fits items) f).1 u)
  own_ranked p Stop f u = none_ranked
  own_ranked p (Comment text) f u = none_ranked

-- a reference of a valid program has as many subscripts as its name
pub reference_rank : (t : ProgramTree) (r : Reference) → IsValid t → IsIn r (references t) → HasRank (kind_in t) r.access
reference_rank t r valid i =
    let s = statement_of t r i in
    let fine = fine_statement t r.statement s.0 valid s.1 in
    own_ranked (kind_in t) (constant_names t.decls) (indices_of r.nest) fine.around s.0 fine.fits fine.uses r.access s.2
