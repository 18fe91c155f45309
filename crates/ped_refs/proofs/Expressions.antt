-- What an expression reads and a left side writes, from what their parts do.
use Rattle.std.proofs.Common.{◌≡◌, ◌⊎◌, inl, inr, ℕ, List, [], ◌∷◌, ◌++◌, map, refl, ap, sym, ◌∙◌, append_assoc, rules}
use Rattle.std.specs.Global.{Vec, Box}
use Rattle.ped_tree.specs.Tree as plain
use Rattle.ped_tree.specs.Accesses.{Access, listed, read_of, write_of, unless_constant, expr_reads, exprs_reads, left_accesses}
use Rattle.ped_tree.specs.Views.{expr_tree, pack_exprs}
use Rattle.ped_tree.specs.declared.expressions.Expr.{Expr, the_lemmas}
use Rattle.ped_tree.specs.declared.expressions.Expr as variant

expr_tree-Element : (x : List ℕ) (es : Vec Expr) → expr_tree (variant.Element x es) ≡ plain.Element x (pack_exprs (map expr_tree es.items))
expr_tree-Element x es = search (rules, the_lemmas)

expr_tree-Add : (a b : Box Expr) → expr_tree (variant.Add a b) ≡ plain.Add (expr_tree a.value) (expr_tree b.value)
expr_tree-Add a b = search (rules, the_lemmas)

expr_tree-Sub : (a b : Box Expr) → expr_tree (variant.Sub a b) ≡ plain.Sub (expr_tree a.value) (expr_tree b.value)
expr_tree-Sub a b = search (rules, the_lemmas)

expr_tree-Mul : (a b : Box Expr) → expr_tree (variant.Mul a b) ≡ plain.Mul (expr_tree a.value) (expr_tree b.value)
expr_tree-Mul a b = search (rules, the_lemmas)

expr_tree-Div : (a b : Box Expr) → expr_tree (variant.Div a b) ≡ plain.Div (expr_tree a.value) (expr_tree b.value)
expr_tree-Div a b = search (rules, the_lemmas)

expr_tree-Pow : (a b : Box Expr) → expr_tree (variant.Pow a b) ≡ plain.Pow (expr_tree a.value) (expr_tree b.value)
expr_tree-Pow a b = search (rules, the_lemmas)

-- the subscripts that an element's tree has are those of the element
subscripts_listed : (subscripts : List Expr) → listed (pack_exprs (map expr_tree subscripts)) ≡ map expr_tree subscripts
subscripts_listed [] = refl
subscripts_listed (e ∷ es) = ap (λ ts. expr_tree e ∷ ts) (subscripts_listed es)

joined : (old between new first second : List Access) → between ≡ old ++ first → new ≡ between ++ second → new ≡ old ++ (first ++ second)
joined old between new first second h k = k ∙ ap (λ xs. xs ++ second) h ∙ append_assoc old first second

module _ (constants indices : List (List ℕ)) (e : Expr) (old between new : List Access) where
  -- what an element reads: its subscripts and then itself
  pub element_read : (x : List ℕ) (subscripts : Vec Expr) (read given : List Expr) → e ≡ variant.Element x subscripts → read ≡ subscripts.items → given ≡ subscripts.items
      → between ≡ old ++ exprs_reads constants indices (pack_exprs (map expr_tree read)) → new ≡ between ++ unless_constant constants (read_of x (map expr_tree given))
      → new ≡ old ++ expr_reads constants indices (expr_tree e)
  element_read x subscripts read given is r g h k =
      joined old between new _ _ h k
      ∙ (λ i. old ++ (exprs_reads constants indices (pack_exprs (map expr_tree (r i))) ++ unless_constant constants (read_of x ((ap (map expr_tree) g ∙ sym (subscripts_listed subscripts.items)) i))))
      ∙ ap (λ t. old ++ expr_reads constants indices t) (sym (ap expr_tree is ∙ expr_tree-Element x subscripts))

  -- what an element on the left does: its subscripts are read, and then it is written
  pub element_written : (x : List ℕ) (subscripts : Vec Expr) (read given : List Expr) → e ≡ variant.Element x subscripts → read ≡ subscripts.items → given ≡ subscripts.items
      → between ≡ old ++ exprs_reads constants indices (pack_exprs (map expr_tree read)) → new ≡ between ++ unless_constant constants (write_of x (map expr_tree given))
      → new ≡ old ++ left_accesses constants indices (expr_tree e)
  element_written x subscripts read given is r g h k =
      joined old between new _ _ h k
      ∙ (λ i. old ++ (exprs_reads constants indices (pack_exprs (map expr_tree (r i))) ++ unless_constant constants (write_of x ((ap (map expr_tree) g ∙ sym (subscripts_listed subscripts.items)) i))))
      ∙ ap (λ t. old ++ left_accesses constants indices t) (sym (ap expr_tree is ∙ expr_tree-Element x subscripts))

  -- what an operation of two operands reads
  pub operation_read : (a b : Box Expr) (left right : Expr)
      → (e ≡ variant.Add a b) ⊎ ((e ≡ variant.Sub a b) ⊎ ((e ≡ variant.Mul a b) ⊎ ((e ≡ variant.Div a b) ⊎ (e ≡ variant.Pow a b)))) → left ≡ a.value → right ≡ b.value
      → between ≡ old ++ expr_reads constants indices (expr_tree left) → new ≡ between ++ expr_reads constants indices (expr_tree right)
      → new ≡ old ++ expr_reads constants indices (expr_tree e)
  operation_read a b left right is l r h k =
      joined old between new _ _ h k
      ∙ (λ i. old ++ (expr_reads constants indices (expr_tree (l i)) ++ expr_reads constants indices (expr_tree (r i))))
      ∙ ap (λ (reads : List Access). old ++ reads) (sym parts)
    where
      parts : expr_reads constants indices (expr_tree e) ≡ expr_reads constants indices (expr_tree a.value) ++ expr_reads constants indices (expr_tree b.value)
      parts = elim is [
        | inl x ↦ ap (expr_reads constants indices) (ap expr_tree x ∙ expr_tree-Add a b)
        | inr x ↦ elim x [
          | inl y ↦ ap (expr_reads constants indices) (ap expr_tree y ∙ expr_tree-Sub a b)
          | inr y ↦ elim y [
            | inl z ↦ ap (expr_reads constants indices) (ap expr_tree z ∙ expr_tree-Mul a b)
            | inr z ↦ elim z [
              | inl u ↦ ap (expr_reads constants indices) (ap expr_tree u ∙ expr_tree-Div a b)
              | inr u ↦ ap (expr_reads constants indices) (ap expr_tree u ∙ expr_tree-Pow a b)
            ]
          ]
        ]
      ]
