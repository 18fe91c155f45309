-- Copies that belong to different iterations are different cells.
use Rattle.std.proofs.Common.{◌≡◌, ℕ, ◌+◌, List, [], ◌∷◌, ◌++◌, Bool, true, if◌then◌else◌, sym, ap, ◌∙◌, ◌⊎◌, inl, inr, append_assoc, arith}
use Rattle.ped_flow.specs.ped_base.specs.Lists.{is_among}
use Rattle.ped_flow.specs.ped_tree.specs.Tree.{StmtTrees}
use Rattle.ped_eval.specs.ped_store.specs.Cells.{Cell, Scalar, Element, Private, In, Out, Iteration}
use Rattle.ped_eval.specs.ped_store.specs.Acts.{iterations_of}
use Rattle.ped_eval.specs.Scopes.{Scope, Setting, turns_of, cell_of}
use Rattle.ped_eval.specs.Loops.{Entered, copied_names, frame}
use Rattle.std.proofs.lemmas.List.{map-append}
use Rattle.ped_laws.specs.FlowRuns.Exits.{IsOneToOne}
use Rattle.ped_laws.proofs.FlowRunLaws.Names.{no_copy_within}
use Rattle.ped_laws.proofs.FlowRunLaws.Located.{IsDeeper, turn_of}

abbrev copy_of : Cell → List Iteration
copy_of (Scalar x) = []
copy_of (Element x js) = []
copy_of (Private x is) = is
copy_of In = []
copy_of Out = []

-- lists that begin alike
pub same_behind : {A : Type 0} (xs ys zs : List A) → xs ++ ys ≡ xs ++ zs → ys ≡ zs
same_behind [] ys zs h = h
same_behind (x ∷ xs) ys zs h = let e : xs ++ ys ≡ xs ++ zs = cc in same_behind xs ys zs e

first_same : {A : Type 0} (x y : A) (xs ys : List A) → x ∷ xs ≡ y ∷ ys → x ≡ y
first_same x y xs ys h = cc

-- one copy belongs to one iteration
pub same_turn : (x : List ℕ) (c : Cell) (at : List Iteration) (i j : Iteration) (r q : List Iteration) → c ≡ Private x (at ++ i ∷ r) → c ≡ Private x (at ++ j ∷ q) → i ≡ j
same_turn x c at i j r q e f =
    let lists : at ++ i ∷ r ≡ at ++ j ∷ q = ap copy_of (sym e ∙ f) in
    first_same i j r q (same_behind at (i ∷ r) (j ∷ q) lists)

-- the cell belongs to this iteration of the DO with this number, or to an iteration in it
pub record IsInTrip (p : Setting) (x : List ℕ) (c : Cell) (S : Scope) (n j : ℕ) : Type 0 where
  pub rest : List Iteration
  pub is : c ≡ Private x (iterations_of (turns_of S) ++ turn_of p n j ∷ rest)

pub one_trip : (p : Setting) (x : List ℕ) (c : Cell) (S : Scope) (n i j : ℕ) → IsInTrip p x c S n i → IsInTrip p x c S n j → i ≡ j
one_trip p x c S n i j e f = ap (λ (z : Iteration). z.number) (same_turn x c (iterations_of (turns_of S)) (turn_of p n i) (turn_of p n j) e.rest f.rest e.is f.is)

pub trip_not_own : (p : Setting) (x : List ℕ) (c : Cell) (S : Scope) (n j : ℕ) → IsInTrip p x c S n j → c ≡ cell_of S x → ⊥
trip_not_own p x c S n j t e = no_copy_within S x x (turn_of p n j) t.rest (sym e ∙ t.is)

pub deeper_not_own : (p : Setting) (x : List ℕ) (c : Cell) (S : Scope) (n count : ℕ) → IsDeeper p x c S n count → c ≡ cell_of S x → ⊥
deeper_not_own p x c S n count d e = no_copy_within S x x (turn_of p d.statement d.number) d.rest (sym e ∙ d.is)

-- a cell is a copy in statements before some or in these
pub deeper_apart : (p : Setting) (x : List ℕ) (c : Cell) (S : Scope) (n count more : ℕ) → IsOneToOne p.number → IsDeeper p x c S n count → IsDeeper p x c S (n + count) more → ⊥
deeper_apart p x c S n count more one d g =
    let e : turn_of p d.statement d.number ≡ turn_of p g.statement g.number = same_turn x c (iterations_of (turns_of S)) (turn_of p d.statement d.number) (turn_of p g.statement g.number) d.rest g.rest d.is g.is in
    let s : d.statement ≡ g.statement = one d.statement g.statement (ap (λ (z : Iteration). z.statement) e) in
    let from = g.from in
    let to = d.to in
    omega (arith, s, from, to)

module _ (p : Setting) (x : List ℕ) (c : Cell) (S : Scope) (n : ℕ) (b : StmtTrees) (e : Entered) (number : e.number ≡ p.number n) (j : ℕ) where
  longer : iterations_of (turns_of (frame e j ∷ S)) ≡ iterations_of (turns_of S) ++ turn_of p n j ∷ []
  longer = map-append _ (turns_of S) ((frame e j).turn ∷ []) ∙ ap (λ (m : ℕ). iterations_of (turns_of S) ++ (record { statement = m; number = j }) ∷ []) number

  pub copy_in_trip : is_among x (copied_names e) ≡ true → c ≡ cell_of (frame e j ∷ S) x → IsInTrip p x c S n j
  copy_in_trip names g = record { rest = []; is = g ∙ (ap (λ (z : Bool). if z then Private x (iterations_of (turns_of (frame e j ∷ S))) else cell_of S x) names ∙ ap (Private x) longer) }

  pub deeper_in_trip : (m count : ℕ) → IsDeeper p x c (frame e j ∷ S) m count → IsInTrip p x c S n j
  deeper_in_trip m count d = record {
    rest = turn_of p d.statement d.number ∷ d.rest;
    is = d.is ∙ ap (Private x) (ap (λ (z : List Iteration). z ++ turn_of p d.statement d.number ∷ d.rest) longer ∙ append_assoc (iterations_of (turns_of S)) (turn_of p n j ∷ []) (turn_of p d.statement d.number ∷ d.rest));
  }

  pub inside_trip : (m count : ℕ) → is_among x (copied_names e) ≡ true → (c ≡ cell_of (frame e j ∷ S) x) ⊎ IsDeeper p x c (frame e j ∷ S) m count → IsInTrip p x c S n j
  inside_trip m count names (inl g) = copy_in_trip names g
  inside_trip m count names (inr d) = deeper_in_trip m count d
