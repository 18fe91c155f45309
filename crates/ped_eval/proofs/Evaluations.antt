-- Evaluations by what the code keeps are those in the store of a run.
use Rattle.std.proofs.Common.{◌≡◌, ◌⊎◌, inl, inr, ℕ, ℤ, List, [], ◌∷◌, length, Bool, true, false, ◌&&◌, Result, Ok, Err, if◌then◌else◌, refl, ap, ◌∙◌}
use Rattle.std.specs.List.{join_with_byte}
use Rattle.std.specs.Fmt.{signed_decimal}
use Rattle.ped_base.specs.Lists.{is_among}
use Rattle.ped_tree.specs.Tree.{ExprTree, ExprTrees, ItemTree, Value, Text, Head, Int, Var, Neg, Add, Sub, Mul, Div, Pow, Call}
use Rattle.ped_tree.specs.Tree as tree
use Rattle.ped_store.specs.Cells.{Cell, Element, Private, In, same_cell}
use Rattle.ped_store.specs.Stores.{Store, storable, outside_bounds}
use Rattle.ped_store.specs.Storage.{is_within}
use Rattle.ped_store.specs.Memories.{Memory}
use Rattle.ped_eval.specs.Scopes.{Setting, Frame, Scope, Names, cell_of, index_value, names_in}
use Rattle.ped_eval.specs.Evaluation.{Seen, ◌>>>◌, given, onward}
use Rattle.ped_eval.specs.Values.{values, truth, target, is_rank, element_cell}
use Rattle.ped_eval.specs.Statements.{assigned, item_text, item_texts, printed_line}
use Rattle.ped_eval.specs.Loops.{limits, in_bounds}
use Rattle.ped_eval.specs.Agreement.{path_of, before, IsSame}
use Rattle.ped_eval.specs.Takings.{names_with}
use Rattle.ped_eval.proofs.SameValues.{IsSameFor, same_value, same_truth, same_target}
use Rattle.ped_eval.proofs.Agreements.{scalar_same, element_same, is_past, scalar_past}

-- stores that are the same where the place reaches are so for its names
pub reached_same : (p : Setting) (scope : Scope) (u s : Store) → IsSame scope u s → IsSameFor (names_in p scope) u s
reached_same p scope u s h = record { scalars = λ x. scalar_same scope x u s h; elements = λ x js. element_same scope x js u s h }

-- what names stand for by what is kept and by the setting
pub names_same : (p : Setting) (scope : Scope) (m : Memory) → m.bounds ≡ p.bounds → names_with m scope p.constants ≡ names_in p scope
names_same p scope m h = λ i. record { bounds = h i; constants = p.constants; cell = cell_of scope; index = index_value scope }

module _ (g : Names) (u s : Store) (h : IsSameFor g u s) where
  same_assigned : (left right : ExprTree) → assigned g left right u ≡ assigned g left right s
  same_assigned left right = λ i. same_value g u s h right i >>> λ v. same_target g u s h left i >>> λ c. given (storable v) >>> λ n. given (Ok (record { cell = c; number = n }))

  same_item : (item : ItemTree) → item_text g item u ≡ item_text g item s
  same_item (Value e) = λ i. same_value g u s h e i >>> λ n. given (Ok (signed_decimal n))
  same_item (Text text) = refl

  same_items : (items : List ItemTree) → item_texts g items u ≡ item_texts g items s
  same_items [] = refl
  same_items (item ∷ rest) = λ i. same_item item i >>> λ text. same_items rest i >>> λ texts. given (Ok (text ∷ texts))

  same_line : (items : List ItemTree) → printed_line g items u ≡ printed_line g items s
  same_line items = λ i. same_items items i >>> λ texts. given (Ok (join_with_byte 32 texts))

  same_limits : (d : Head) → limits g d u ≡ limits g d s
  same_limits d = λ i. same_value g u s h d.first i >>> λ v. given (in_bounds v) >>> λ m. same_value g u s h d.last i >>> λ w. given (in_bounds w) >>> λ n. given (Ok (record { first = m; last = n }))

module _ (p : Setting) (scope : Scope) (m : Memory) (s : Store) (b : m.bounds ≡ p.bounds) (h : IsSame scope m.cells s) where
  pub kept_assigned : (left right : ExprTree) → assigned (names_with m scope p.constants) left right m.cells ≡ assigned (names_in p scope) left right s
  kept_assigned left right = ap (λ g. assigned g left right m.cells) (names_same p scope m b) ∙ same_assigned (names_in p scope) m.cells s (reached_same p scope m.cells s h) left right

  pub kept_line : (items : List ItemTree) → printed_line (names_with m scope p.constants) items m.cells ≡ printed_line (names_in p scope) items s
  kept_line items = ap (λ g. printed_line g items m.cells) (names_same p scope m b) ∙ same_line (names_in p scope) m.cells s (reached_same p scope m.cells s h) items

  pub kept_limits : (d : Head) → limits (names_with m scope p.constants) d m.cells ≡ limits (names_in p scope) d s
  kept_limits d = ap (λ g. limits g d m.cells) (names_same p scope m b) ∙ same_limits (names_in p scope) m.cells s (reached_same p scope m.cells s h) d

  pub kept_truth : (c : tree.CondTree) → truth (names_with m scope p.constants) c m.cells ≡ truth (names_in p scope) c s
  kept_truth c = ap (λ g. truth g c m.cells) (names_same p scope m b) ∙ same_truth (names_in p scope) m.cells s (reached_same p scope m.cells s h) c

-- a cell is that of a scalar, or an element
abbrev pub IsVariable : Names → Cell → Type 0
IsVariable g c = ((x : List ℕ) × (c ≡ g.cell x)) ⊎ ((x : List ℕ) × (js : List ℤ) × (c ≡ Element x js))

element_by : (g : Names) (x : List ℕ) (js : List ℤ) (b : Bool) (c : Cell) → (if b then Ok (Element x js) else Err outside_bounds) ≡ Ok c → IsVariable g c
element_by g x js true c h = let e : c ≡ Element x js = cc in inr (x, js, e)
element_by g x js false c h = absurd cc

element_of : (g : Names) (x : List ℕ) (seen : List Seen) (r : Result (List ℤ) ℕ) (c : Cell) → (onward seen r (λ js. given (element_cell g x js))).result ≡ Ok c → IsVariable g c
element_of g x seen (Ok js) c h = element_by g x js (is_rank (length js) && is_within (g.bounds x) js) c h
element_of g x seen (Err n) c h = absurd cc

-- what is written or read in is the cell of a scalar, or an element
pub target_variable : (g : Names) (e : ExprTree) (s : Store) (c : Cell) → (target g e s).result ≡ Ok c → IsVariable g c
target_variable g (Int n) s c h = absurd cc
target_variable g (Var x) s c h = let e : c ≡ g.cell x = cc in inl (x, e)
target_variable g (tree.Element x subscripts) s c h = element_of g x (values g subscripts s).seen (values g subscripts s).result c h
target_variable g (Neg a) s c h = absurd cc
target_variable g (Add a b) s c h = absurd cc
target_variable g (Sub a b) s c h = absurd cc
target_variable g (Mul a b) s c h = absurd cc
target_variable g (Div a b) s c h = absurd cc
target_variable g (Pow a b) s c h = absurd cc
target_variable g (Call f arguments) s c h = absurd cc

in_by : (f : Frame) (fs : Scope) (x : List ℕ) (b : Bool) → same_cell (cell_of fs x) In ≡ false → same_cell (if b then Private x (path_of (f ∷ fs)) else cell_of fs x) In ≡ false
in_by f fs x true h = refl
in_by f fs x false h = h

-- the cell of a scalar isn't the data
pub scalar_not_in : (scope : Scope) (x : List ℕ) → same_cell (cell_of scope x) In ≡ false
scalar_not_in [] x = refl
scalar_not_in (f ∷ fs) x = in_by f fs x (is_among x f.private) (scalar_not_in fs x)

pub in_not_scalar : (scope : Scope) (x : List ℕ) → same_cell In (cell_of scope x) ≡ false
in_not_scalar [] x = refl
in_not_scalar (f ∷ fs) x = by (is_among x f.private) (in_not_scalar fs x)
  where
    by : (b : Bool) → same_cell In (cell_of fs x) ≡ false → same_cell In (if b then Private x (path_of (f ∷ fs)) else cell_of fs x) ≡ false
    by true h = refl
    by false h = h

pub variable_not_in : (p : Setting) (scope : Scope) (c : Cell) → IsVariable (names_in p scope) c → same_cell c In ≡ false
variable_not_in p scope c (inl h) = ap (λ d. same_cell d In) h.1 ∙ scalar_not_in scope h.0
variable_not_in p scope c (inr h) = ap (λ d. same_cell d In) h.2

-- it is past at each statement in these iterations
pub variable_past : (p : Setting) (scope : Scope) (n : ℕ) (c : Cell) → IsVariable (names_in p scope) c → is_past (before scope n) c ≡ true
variable_past p scope n c (inl h) = ap (is_past (before scope n)) h.1 ∙ scalar_past scope h.0 n
variable_past p scope n c (inr h) = ap (is_past (before scope n)) h.2
