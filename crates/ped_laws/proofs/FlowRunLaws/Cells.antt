-- The cells that scalars stand for.
use Rattle.std.proofs.Common.{◌≡◌, ℕ, List, [], ◌∷◌, Bool, true, false, if◌then◌else◌, sym, ap, subst, ◌∙◌}
use Rattle.ped_flow.specs.ped_base.specs.Lists.{is_same_text, is_among}
use Rattle.ped_flow.specs.ped_base.proofs.NameEquality.{same_is, same_itself}
use Rattle.ped_eval.specs.ped_store.specs.Cells.{Cell, Scalar, Element, Private, In, Out, Iteration, same_cell}
use Rattle.ped_eval.specs.ped_store.specs.Acts.{iterations_of}
use Rattle.ped_eval.specs.Scopes.{Scope, turns_of, cell_of}
use Rattle.ped_laws.proofs.ActLaws.SameCells.{cell_is, cell_itself}
use Rattle.ped_flow.proofs.Truths.{untrue}
use Rattle.ped_laws.specs.FlowRuns.Covering.{is_cell_of}

-- a cell is one of one scalar
pub named_once : (x y : List ℕ) (c : Cell) → is_cell_of x c ≡ true → is_cell_of y c ≡ true → x ≡ y
named_once x y (Scalar z) h k = same_is x z h ∙ sym (same_is y z k)
named_once x y (Element z js) h k = untrue h
named_once x y (Private z is) h k = same_is x z h ∙ sym (same_is y z k)
named_once x y In h k = untrue h
named_once x y Out h k = untrue h

named_by : (b : Bool) (x : List ℕ) (is : List Iteration) (c : Cell) → is_cell_of x c ≡ true → is_cell_of x (if b then Private x is else c) ≡ true
named_by true x is c h = same_itself x
named_by false x is c h = h

-- what a scalar stands for is a cell of it
pub cell_named : (S : Scope) (x : List ℕ) → is_cell_of x (cell_of S x) ≡ true
cell_named [] x = same_itself x
cell_named (f ∷ fs) x = named_by (is_among x f.private) x (iterations_of (turns_of (f ∷ fs))) (cell_of fs x) (cell_named fs x)

-- a scalar that stands for a cell of x is x
pub stands_for : (S : Scope) (x y : List ℕ) (c : Cell) → is_cell_of x c ≡ true → same_cell (cell_of S y) c ≡ true → y ≡ x
stands_for S x y c h k =
    let e = cell_is (cell_of S y) c k in
    named_once y x c (subst (λ (d : Cell). is_cell_of y d ≡ true) e (cell_named S y)) h
