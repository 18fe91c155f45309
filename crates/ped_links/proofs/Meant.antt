-- What a table of names finds is what stands for them in the plain list.
use Rattle.std.proofs.Common.{◌≡◌, ℕ, List, [], ◌∷◌, ◌++◌, map, Bool, true, false, Option, Some, None, is_some, refl, sym, ap, ◌∙◌, if◌then◌else◌}
use Rattle.std.proofs.lemmas.List.{map_push}
use Rattle.std.specs.Map.{lookup}
use Rattle.ped_base.specs.Lists.{is_same_text}
use Rattle.ped_base.specs.contracts.identifiers.NamePartialEq.TheImpl as code
use Rattle.ped_base.proofs.NameEquality as names
use Rattle.ped_tree.specs.Tree.{ExprTree}
use Rattle.ped_tree.specs.Views.{expr_tree, value_tree}
use Rattle.ped_tree.specs.declared.expressions.Expr.{Expr}
use Rattle.ped_units.specs.ped_valid.specs.ped_symbols.specs.Entries.{entry_of, with_entry}
use Rattle.ped_units.specs.Expanding.{or_itself, meaning}

-- the plain tree, where there is one
abbrev pub tree_found : Option Expr → Option ExprTree
tree_found None = None
tree_found (Some e) = Some (expr_tree e)

chosen_tree : (b : Bool) (e : Expr) (o : Option Expr) → (if b then Some (expr_tree e) else tree_found o) ≡ tree_found (if b then Some e else o)
chosen_tree true e o = refl
chosen_tree false e o = refl

pub found_meant : (es : List (List ℕ × Expr)) (x : List ℕ) → entry_of (map value_tree es) x ≡ tree_found (entry_of es x)
found_meant [] x = refl
found_meant (e ∷ es) x = ap (λ (o : Option ExprTree). if is_same_text x e.0 then Some (expr_tree e.1) else o) (found_meant es x) ∙ chosen_tree (is_same_text x e.0) e.1 (entry_of es x)

pub some_tree : (o : Option Expr) → is_some (tree_found o) ≡ is_some o
some_tree None = refl
some_tree (Some e) = refl

-- whether something stands for a name
pub there_meant : (es : List (List ℕ × Expr)) (x : List ℕ) → is_some (entry_of (map value_tree es) x) ≡ is_some (entry_of es x)
there_meant es x = ap is_some (found_meant es x) ∙ some_tree (entry_of es x)

kept_tree : (b : Bool) (es : List (List ℕ × Expr)) (x : List ℕ) (e : Expr) → map value_tree (if b then es else es ++ (x, e) ∷ []) ≡ (if b then map value_tree es else map value_tree es ++ (x, expr_tree e) ∷ [])
kept_tree true es x e = refl
kept_tree false es x e = map_push value_tree es (x, e)

-- what is kept for a name
pub kept_meant : (es : List (List ℕ × Expr)) (x : List ℕ) (e : Expr) → map value_tree (with_entry es x e) ≡ with_entry (map value_tree es) x (expr_tree e)
kept_meant es x e = kept_tree (is_some (entry_of es x)) es x e ∙ ap (λ (b : Bool). if b then map value_tree es else map value_tree es ++ (x, expr_tree e) ∷ []) (sym (there_meant es x))

-- the table's own lookup
pub table_finds : {X : Type 0} (x : List ℕ) (es : List (List ℕ × X)) → lookup ((code.eq-value).it x) es ≡ entry_of es x
table_finds x es = names.looked_up x es

-- what isn't some is none
pub none_found : {X : Type 0} (o : Option X) → is_some o ≡ false → o ≡ None
none_found None h = refl
none_found (Some v) h = absurd cc

-- what stands for a name, by what the table finds
pub meant : (es : List (List ℕ × Expr)) (x : List ℕ) (o : Option Expr) → lookup ((code.eq-value).it x) es ≡ o → or_itself x (tree_found o) ≡ meaning (map value_tree es) x
meant es x o h = sym (ap (or_itself x) (found_meant es x ∙ ap tree_found (sym (table_finds x es) ∙ h)))
