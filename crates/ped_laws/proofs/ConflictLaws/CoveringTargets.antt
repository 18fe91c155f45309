-- In a DO no reference writes the variable of the DO.
use Rattle.std.proofs.Common.{◌≡◌, ℕ, ◌+◌, List, [], ◌∷◌, ◌++◌, length, Bool, true, false, not, ◌&&◌, ◌||◌, refl, sym, ap, ◌∙◌, inl, inr, if◌then◌else◌, codes}
use Rattle.std.specs.Prelude.{nat_le}
use Rattle.std.specs.List.{list_all, flat_map}
use Rattle.std.proofs.lemmas.Bool.{both_ways, and_parts, not-true}
use Rattle.std.proofs.lemmas.List.{map-append}
use Rattle.std.proofs.lemmas.List.Folds.{list_any-append}
use Rattle.ped_flow.specs.ped_base.specs.Lists.{has_some, is_same_text, is_among}
use Rattle.ped_flow.specs.ped_tree.specs.Tree.{ExprTree, ExprTrees, Int, Var, Element, Neg, Add, Sub, Mul, Div, Pow, Call, no_exprs, more_exprs, CondTree, Rel, Not, And, Or, ItemTree, Value, Text, Head, StmtTree, StmtTrees, Assign, If, Do, Print, Read, Stop, Comment, no_stmts, more_stmts, ProgramTree}
use Rattle.ped_flow.specs.ped_tree.specs.Accesses.{Access, listed, write_of, unless_constant, expr_reads, exprs_reads, cond_reads, left_accesses, item_reads, private_writes, own_accesses, constant_names}
use Rattle.ped_flow.specs.ped_tree.specs.Nests.{Loop, indices_of}
use Rattle.ped_flow.specs.ped_tree.specs.Numbering.{statement_count, statements_count}
use Rattle.ped_flow.specs.ped_tree.specs.Printing.{private_text}
use Rattle.ped_flow.specs.ped_tree.specs.Grammar.LimitNumbers.{most_characters}
use Rattle.ped_flow.specs.ped_tree.specs.Grammar.StatementForms.{are_names}
use Rattle.ped_flow.specs.ped_tree.specs.Grammar.ProgramRefusals.{scalar_of, assigned_by, meets}
use Rattle.ped_flow.specs.ped_tree.specs.Grammar.Fits.{Surroundings, moved, in_if, in_loop, simple_fits, is_within, target_fits, expr_fits, exprs_fit, has_expr, private_fits, loop_fits, stmt_fits, stmts_fit, decls_fit, begins_with_statement, at_body, fits}
use Rattle.ped_graph.specs.ped_refs.specs.References.{Reference, numbered_accesses, statement_references, statements_references, references}
use Rattle.ped_laws.specs.Acts.Orders.{IsIn}
use Rattle.ped_laws.proofs.ActLaws.Lists.{in_parts}
use Rattle.ped_laws.proofs.CoveringLaws.Texts.{text_is, text_itself}
use Rattle.ped_laws.proofs.ConflictLaws.CoveringWrites.{AllRead, read_append, expr_read, exprs_read, own_access, private_write}

-- a write of a scalar, which isn't one of these variables; the data and the output are no scalars
abbrev Spares : List (List ℕ) → Access → Type 0
Spares variables a = a.writes ≡ true → a.subscripts ≡ [] → is_same_text a.name (codes "(IN)") ≡ false → is_same_text a.name (codes "(OUT)") ≡ false → is_among a.name variables ≡ false

abbrev AllSpare : List (List ℕ) → List Access → Type 0
AllSpare variables accesses = (a : Access) → IsIn a accesses → Spares variables a

none_spare : (variables : List (List ℕ)) → AllSpare variables []
none_spare variables a i = absurd i

spare_append : (variables : List (List ℕ)) (xs ys : List Access) → AllSpare variables xs → AllSpare variables ys → AllSpare variables (xs ++ ys)
spare_append variables xs ys h k a i = elim (in_parts a xs ys i) [ inl j ↦ h a j | inr j ↦ k a j ]

reads_spare : (variables : List (List ℕ)) (xs : List Access) → AllRead xs → AllSpare variables xs
reads_spare variables xs h a i w = absurd (both_ways a.writes (h a i) w)

or_nones : (a b : Bool) → (a || b) ≡ false → (a ≡ false) × (b ≡ false)
or_nones true b h = absurd cc
or_nones false b h = (refl, h)

-- where no name is one of the others, none of them is
unmet : (x : List ℕ) (names others : List (List ℕ)) → meets names others ≡ false → is_among x names ≡ true → is_among x others ≡ false
unmet x [] others h k = absurd cc
unmet x (y ∷ ys) others h k = go (is_same_text x y) refl k (unmet x ys others parts.1)
  where
    parts : (is_among y others ≡ false) × (meets ys others ≡ false)
    parts = or_nones (is_among y others) (meets ys others) h

    go : (b : Bool) → is_same_text x y ≡ b → (b || is_among x ys) ≡ true → (is_among x ys ≡ true → is_among x others ≡ false) → is_among x others ≡ false
    go true e j more = ap (λ (z : List ℕ). is_among z others) (text_is x y e) ∙ parts.0
    go false e j more = more j

meets_append : (xs ys others : List (List ℕ)) → meets (xs ++ ys) others ≡ false → (meets xs others ≡ false) × (meets ys others ≡ false)
meets_append xs ys others h = or_nones (meets xs others) (meets ys others) (sym (list_any-append (λ x. is_among x others) xs ys) ∙ h)

no_subscripts : (es : ExprTrees) → has_expr es ≡ true → listed es ≡ [] → ⊥
no_subscripts no_exprs h e = absurd cc
no_subscripts (more_exprs x es) h e = cc

module _ (c indices variables : List (List ℕ)) where
  write_spares : (x : List ℕ) (subscripts : List ExprTree) → (subscripts ≡ [] → is_among x variables ≡ false) → AllSpare variables (unless_constant c (write_of x subscripts))
  write_spares x subscripts h a i w s = go (is_among x c) i
    where
      go : (b : Bool) → IsIn a (if b then [] else write_of x subscripts ∷ []) → is_same_text a.name (codes "(IN)") ≡ false → is_same_text a.name (codes "(OUT)") ≡ false → is_among a.name variables ≡ false
      go true i f g = absurd i
      go false (inl e) f g = ap (λ (z : Access). is_among z.name variables) e ∙ h (sym (ap (λ (z : Access). z.subscripts) e) ∙ s)
      go false (inr i) f g = absurd i

  left_spares : (left : ExprTree) → target_fits left ≡ true → meets (scalar_of left) variables ≡ false → AllSpare variables (left_accesses c indices left)
  left_spares (Var x) f m = write_spares x [] (λ e. unmet x (x ∷ []) variables m (ap (λ (b : Bool). b || false) (text_itself x)))
  left_spares (Element x es) f m =
      spare_append variables (exprs_reads c indices es) (unless_constant c (write_of x (listed es))) (reads_spare variables (exprs_reads c indices es) (exprs_read c indices es))
      (write_spares x (listed es) (λ e. absurd (no_subscripts es (and_parts _ (has_expr es) (and_parts _ (exprs_fit es) f).0).1 e)))
  left_spares (Int n) f m = none_spare variables
  left_spares (Neg a) f m = none_spare variables
  left_spares (Add a b) f m = none_spare variables
  left_spares (Sub a b) f m = none_spare variables
  left_spares (Mul a b) f m = none_spare variables
  left_spares (Div a b) f m = none_spare variables
  left_spares (Pow a b) f m = none_spare variables
  left_spares (Call f arguments) g m = none_spare variables

  lefts_spare : (items : List ExprTree) → list_all target_fits items ≡ true → meets (flat_map scalar_of items) variables ≡ false → AllSpare variables (flat_map (left_accesses c indices) items)
  lefts_spare [] f m = none_spare variables
  lefts_spare (item ∷ items) f m =
      let both = and_parts (target_fits item) (list_all target_fits items) f in
      let none = meets_append (scalar_of item) (flat_map scalar_of items) variables m in
      spare_append variables (left_accesses c indices item) (flat_map (left_accesses c indices) items) (left_spares item both.0 none.0) (lefts_spare items both.1 none.1)

  cond_spares : (condition : CondTree) → AllSpare variables (cond_reads c indices condition)
  cond_spares (Rel r a b) = reads_spare variables (expr_reads c indices a ++ expr_reads c indices b) (read_append (expr_reads c indices a) (expr_reads c indices b) (expr_read c indices a) (expr_read c indices b))
  cond_spares (Not a) = cond_spares a
  cond_spares (And a b) = spare_append variables (cond_reads c indices a) (cond_reads c indices b) (cond_spares a) (cond_spares b)
  cond_spares (Or a b) = spare_append variables (cond_reads c indices a) (cond_reads c indices b) (cond_spares a) (cond_spares b)

  items_spare : (items : List ItemTree) → AllSpare variables (flat_map (item_reads c indices) items)
  items_spare [] = none_spare variables
  items_spare (Value e ∷ items) = spare_append variables (expr_reads c indices e) (flat_map (item_reads c indices) items) (reads_spare variables (expr_reads c indices e) (expr_read c indices e)) (items_spare items)
  items_spare (Text text ∷ items) = items_spare items

  output_spares : AllSpare variables (write_of (codes "(OUT)") [] ∷ [])
  output_spares a (inl e) w s f g = absurd (both_ways (is_same_text a.name (codes "(OUT)")) g (ap (λ (z : Access). is_same_text z.name (codes "(OUT)")) e))
  output_spares a (inr i) w s f g = absurd i

  data_spares : AllSpare variables (write_of (codes "(IN)") [] ∷ [])
  data_spares a (inl e) w s f g = absurd (both_ways (is_same_text a.name (codes "(IN)")) f (ap (λ (z : Access). is_same_text z.name (codes "(IN)")) e))
  data_spares a (inr i) w s f g = absurd i

  private_spares : (names : List (List ℕ)) (index : List ℕ) (a b : Bool) → (not (has_some names) || ((a && b) && not (meets names (index ∷ variables)))) ≡ true → AllSpare variables (private_writes c names)
  private_spares names index a b h x i w s f g = (or_nones (is_same_text x.name index) (is_among x.name variables) (unmet x.name names (index ∷ variables) (unmet_all names h (private_write c names x i).0) (private_write c names x i).0)).1
    where
      unmet_all : (names : List (List ℕ)) → (not (has_some names) || ((a && b) && not (meets names (index ∷ variables)))) ≡ true → is_among x.name names ≡ true → meets names (index ∷ variables) ≡ false
      unmet_all [] h k = refl
      unmet_all (y ∷ ys) h k = not-true (meets (y ∷ ys) (index ∷ variables)) (and_parts (a && b) (not (meets (y ∷ ys) (index ∷ variables))) h).1

-- the references of a statement
abbrev AllSpared : List Reference → Type 0
AllSpared refs = (r : Reference) → IsIn r refs → Spares (indices_of r.nest) r.access

none_spared : AllSpared []
none_spared r i = absurd i

spared_append : (xs ys : List Reference) → AllSpared xs → AllSpared ys → AllSpared (xs ++ ys)
spared_append xs ys h k r i = elim (in_parts r xs ys i) [ inl j ↦ h r j | inr j ↦ k r j ]

-- the variables of the loops round a statement
abbrev AreRound : Surroundings → List Loop → Type 0
AreRound p nest = (x : List ℕ) → is_among x (indices_of nest) ≡ is_among x p.variables

or_turned : (a b : Bool) → (a || (b || false)) ≡ (b || a)
or_turned true true = refl
or_turned true false = refl
or_turned false true = refl
or_turned false false = refl

round_more : (p : Surroundings) (nest : List Loop) (n : ℕ) (h : Head) → AreRound p nest → AreRound (in_loop p h) (nest ++ (record { number = n; head = h }) ∷ [])
round_more p nest n h same x =
    ap (is_among x) (map-append (λ (l : Loop). l.head.variable) nest ((record { number = n; head = h }) ∷ []))
    ∙ list_any-append (is_same_text x) (indices_of nest) (h.variable ∷ [])
    ∙ or_turned (is_among x (indices_of nest)) (is_same_text x h.variable)
    ∙ ap (λ (b : Bool). is_same_text x h.variable || b) (same x)

module _ (c : List (List ℕ)) where
  own_spared : (p : Surroundings) (nest : List Loop) (n : ℕ) (s : StmtTree) → AreRound p nest → AllSpare p.variables (own_accesses c (indices_of nest) s) → AllSpared (numbered_accesses n 1 nest (own_accesses c (indices_of nest) s))
  own_spared p nest n s same h r i w e f g =
      let o = own_access n 1 nest (own_accesses c (indices_of nest) s) r i in
      ap (λ (ls : List Loop). is_among r.access.name (indices_of ls)) o.1 ∙ same r.access.name ∙ h r.access o.2 w e f g

  simple_unmet : (p : Surroundings) (s : StmtTree) → simple_fits p s ≡ true → meets (assigned_by s) p.variables ≡ false
  simple_unmet p s h = not-true (meets (assigned_by s) p.variables) (and_parts (is_within p s) (not (meets (assigned_by s) p.variables)) (and_parts _ _ h).0).1

  mutual
    statement_spared : (p : Surroundings) (nest : List Loop) (n : ℕ) (s : StmtTree) → AreRound p nest → stmt_fits p s ≡ true → AllSpared (statement_references c nest n s)
    statement_spared p nest n (Assign left right) same h =
        let outer = and_parts _ (expr_fits right) h in
        let front = and_parts (simple_fits p (Assign left right)) (target_fits left) outer.0 in
        own_spared p nest n (Assign left right) same
        (spare_append p.variables (expr_reads c (indices_of nest) right) (left_accesses c (indices_of nest) left) (reads_spare p.variables (expr_reads c (indices_of nest) right) (expr_read c (indices_of nest) right))
        (left_spares c (indices_of nest) p.variables left front.1 (simple_unmet p (Assign left right) front.0)))
    statement_spared p nest n (If condition a b) same h =
        let last = and_parts _ (stmts_fit (in_if p (1 + statements_count a)) b) h in
        let front = and_parts _ (stmts_fit (in_if p 1) a) last.0 in
        spared_append (numbered_accesses n 1 nest (own_accesses c (indices_of nest) (If condition a b)) ++ statements_references c nest (n + 1) a) (statements_references c nest (n + 1 + statements_count a) b)
        (spared_append (numbered_accesses n 1 nest (own_accesses c (indices_of nest) (If condition a b))) (statements_references c nest (n + 1) a)
        (own_spared p nest n (If condition a b) same (cond_spares c (indices_of nest) p.variables condition))
        (statements_spared (in_if p 1) nest (n + 1) a same front.1))
        (statements_spared (in_if p (1 + statements_count a)) nest (n + 1 + statements_count a) b same last.1)
    statement_spared p nest n (Do h body) same k =
        let both = and_parts (loop_fits p h body) (stmts_fit (in_loop p h) body) k in
        let private = (and_parts _ (private_fits p h) (and_parts _ (list_all _ h.rejected) both.0).0).1 in
        spared_append (numbered_accesses n 1 nest (own_accesses c (indices_of nest) (Do h body))) (statements_references c (nest ++ (record { number = n; head = h }) ∷ []) (n + 1) body)
        (own_spared p nest n (Do h body) same
        (spare_append p.variables (expr_reads c (indices_of nest) h.first ++ expr_reads c (indices_of nest) h.last) (private_writes c h.private)
        (reads_spare p.variables (expr_reads c (indices_of nest) h.first ++ expr_reads c (indices_of nest) h.last) (read_append (expr_reads c (indices_of nest) h.first) (expr_reads c (indices_of nest) h.last) (expr_read c (indices_of nest) h.first) (expr_read c (indices_of nest) h.last)))
        (private_spares c (indices_of nest) p.variables h.private h.variable (are_names h.private) (nat_le (length (private_text h.private)) most_characters) private)))
        (statements_spared (in_loop p h) (nest ++ (record { number = n; head = h }) ∷ []) (n + 1) body (round_more p nest n h same) both.1)
    statement_spared p nest n (Print items) same h =
        own_spared p nest n (Print items) same
        (spare_append p.variables (flat_map (item_reads c (indices_of nest)) items) (write_of (codes "(OUT)") [] ∷ []) (items_spare c (indices_of nest) p.variables items) (output_spares c (indices_of nest) p.variables))
    statement_spared p nest n (Read items) same h =
        let both = and_parts (simple_fits p (Read items)) (list_all target_fits items) h in
        own_spared p nest n (Read items) same
        (spare_append p.variables (write_of (codes "(IN)") [] ∷ []) (flat_map (left_accesses c (indices_of nest)) items) (data_spares c (indices_of nest) p.variables) (lefts_spare c (indices_of nest) p.variables items both.1 (simple_unmet p (Read items) both.0)))
    statement_spared p nest n Stop same h = none_spared
    statement_spared p nest n (Comment text) same h = none_spared

    statements_spared : (p : Surroundings) (nest : List Loop) (n : ℕ) (ss : StmtTrees) → AreRound p nest → stmts_fit p ss ≡ true → AllSpared (statements_references c nest n ss)
    statements_spared p nest n no_stmts same h = none_spared
    statements_spared p nest n (more_stmts s rest) same h =
        let both = and_parts (stmt_fits p s) (stmts_fit (moved p (statement_count s)) rest) h in
        spared_append (statement_references c nest n s) (statements_references c nest (n + statement_count s) rest) (statement_spared p nest n s same both.0)
        (statements_spared (moved p (statement_count s)) nest (n + statement_count s) rest same both.1)

-- in a program that fits no reference writes the variable of a DO round it
pub variables_spared : (t : ProgramTree) → fits t ≡ true → (r : Reference) → IsIn r (references t) → r.access.writes ≡ true → r.access.subscripts ≡ [] → is_same_text r.access.name (codes "(IN)") ≡ false → is_same_text r.access.name (codes "(OUT)") ≡ false
    → is_among r.access.name (indices_of r.nest) ≡ false
variables_spared t h =
    let both = and_parts _ (begins_with_statement t.body) h in
    statements_spared (constant_names t.decls) (at_body t) [] 1 t.body (λ x. refl) (and_parts (decls_fit 0 t.decls) (stmts_fit (at_body t) t.body) both.0).1
