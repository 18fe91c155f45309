-- An array that doesn't occur in statements: their runs touch none of its elements, and don't depend on its bounds.
use Rattle.std.proofs.Common.{◌≡◌, ℕ, ◌+◌, ℤ, List, [], ◌∷◌, length, Bool, true, false, refl, sym, ap, ◌∙◌, if◌then◌else◌}
use Rattle.std.specs.Prelude.{◌&&◌}
use Rattle.std.proofs.lemmas.Bool.{and_parts, both_ways}
use Rattle.ped_base.specs.Dimensions.{Dimensions}
use Rattle.ped_base.specs.Lists.{is_same_text, is_among}
use Rattle.ped_tree.specs.Tree.{Head, StmtTree, StmtTrees, Assign, If, Do, Print, Read, Stop, Comment, no_stmts, more_stmts}
use Rattle.ped_tree.specs.NamesIn.{stmts_names}
use Rattle.ped_tree.specs.Numbering.{statement_count, statements_count}
use Rattle.ped_base.proofs.NameEquality.{same_is, same_itself}
use Rattle.ped_rules.specs.ped_store.specs.Cells.{Cell, Scalar, Element, Private, In, Out}
use Rattle.ped_rules.specs.ped_store.specs.Stores.{Store}
use Rattle.ped_rules.specs.ped_store.specs.Storage.{is_within}
use Rattle.ped_rules.specs.ped_store.specs.Variables.{no_dimensions}
use Rattle.ped_rules.specs.ped_laws.specs.Acts.Renaming.{touch}
use Rattle.ped_rules.specs.ped_eval.specs.Scopes.{Setting, Scope, cell_of}
use Rattle.ped_rules.specs.ped_eval.specs.Values.{is_rank}
use Rattle.ped_rules.specs.ped_eval.specs.Runs.{Run, run_all}
use Rattle.ped_rules.specs.ped_steps.specs.Runs.Exchanging.{is_of_scalar}
use Rattle.ped_rules.specs.ped_steps.specs.Runs.Pasting.{AgreeInBounds}
use Rattle.ped_rules.specs.ped_steps.proofs.RunLaws.OwnBounds.{with_bounds, all_bounds}
use Rattle.ped_rules.specs.ped_steps.proofs.RunLaws.RunCells.{EachDo, EachDos, all_keep}
use Rattle.ped_rules.specs.ped_steps.proofs.RunLaws.Swapped.{of_scalar}
use Rattle.ped_rules.specs.ped_steps.proofs.RunLaws.Uncopied.{untouched_acts}

-- where a name is not among others, none of these is the same
pub other_than : (y x : List ℕ) (xs : List (List ℕ)) → is_among x xs ≡ false → is_among y xs ≡ true → is_same_text y x ≡ false
other_than y x xs h k = go (is_same_text y x) refl
  where
    go : (b : Bool) → is_same_text y x ≡ b → b ≡ false
    go true e = sym k ∙ ap (λ (z : List ℕ). is_among z xs) (same_is y x e) ∙ h
    go false e = refl

-- two bounds are the same but for one array, which is not among the names
pub agree_but : (bounds others : List ℕ → Dimensions) (array : List ℕ) (xs : List (List ℕ)) → ((y : List ℕ) → is_same_text y array ≡ false → bounds y ≡ others y) → is_among array xs ≡ false → AgreeInBounds bounds others xs
agree_but bounds others array xs same absent y k = same y (other_than y array xs absent k)

-- any DO
abbrev AnyDo : ℕ → Head → StmtTrees → Type 0
AnyDo n h body = Unit {0}

mutual
  any_do : (s : StmtTree) (n : ℕ) → EachDo AnyDo s n
  any_do (Assign left right) n = tt
  any_do (If c a b) n = (any_dos a (n + 1), any_dos b (n + 1 + statements_count a))
  any_do (Do h body) n = (tt, any_dos body (n + 1))
  any_do (Print items) n = tt
  any_do (Read items) n = tt
  any_do Stop n = tt
  any_do (Comment text) n = tt

  any_dos : (ts : StmtTrees) (n : ℕ) → EachDos AnyDo ts n
  any_dos no_stmts n = tt
  any_dos (more_stmts t rest) n = (any_do t n, any_dos rest (n + statement_count t))

-- no subscripts lie within no bounds
nowhere : (js : List ℤ) → (is_rank (length js) && is_within no_dimensions js) ≡ true → ⊥
nowhere [] h = absurd cc
nowhere (j ∷ js) h = let none = (and_parts (is_rank (length (j ∷ js))) (is_within no_dimensions (j ∷ js)) h).1 in absurd cc

module _ (p : Setting) (array : List ℕ) (js : List ℤ) where
  -- the bounds without those of the array
  abbrev without_by : Bool → List ℕ → Dimensions
  without_by b y = if b then no_dimensions else p.bounds y

  abbrev without : List ℕ → Dimensions
  without y = without_by (is_same_text y array) y

  without_same : (y : List ℕ) → is_same_text y array ≡ false → p.bounds y ≡ without y
  without_same y e = ap (λ (b : Bool). without_by b y) (sym e)

  -- the array of an element
  abbrev array_of : Cell → List ℕ
  array_of (Scalar x) = []
  array_of (Element x ks) = x
  array_of (Private x path) = []
  array_of In = []
  array_of Out = []

  abbrev IsOther : Scope → Cell → Type 0
  IsOther S c = c ≡ Element array js → ⊥

  scalar_other : (S : Scope) (x : List ℕ) → IsOther S (cell_of S x)
  scalar_other S x e = both_ways (is_of_scalar (cell_of S x)) (ap is_of_scalar e) (of_scalar S x)

  element_other : (S : Scope) (x : List ℕ) (ks : List ℤ) → (is_rank (length ks) && is_within (without x) ks) ≡ true → IsOther S (Element x ks)
  element_other S x ks w e =
      let name : x ≡ array = ap array_of e in
      let none : without x ≡ no_dimensions = ap without name ∙ ap (λ (b : Bool). without_by b array) (same_itself array) in
      nowhere ks (ap (λ (d : Dimensions). is_rank (length ks) && is_within d ks) (sym none) ∙ w)

  -- a run of statements in which the array doesn't occur reads and writes none of its elements
  pub element_untouched : (ts : StmtTrees) (n : ℕ) (S : Scope) (s : Store) → is_among array (stmts_names ts) ≡ false → touch (run_all p ts n S s).acts (Element array js) ≡ false
  element_untouched ts n S s absent =
      ap (λ (f : Store → Run). touch (f s).acts (Element array js)) (all_bounds p without ts n S (agree_but p.bounds without array (stmts_names ts) without_same absent))
      ∙ untouched_acts (Element array js) (run_all (with_bounds p without) ts n S s).acts
      (all_keep (with_bounds p without) AnyDo IsOther scalar_other element_other (λ T e. absurd cc) (λ T e. absurd cc) (λ m h body seen l k T c q w. w) ts n S s (any_dos ts n))
