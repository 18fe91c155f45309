-- What the code knows of a part of a subscript. Only contracts of private functions use it.
use Rattle.std.specs.Prelude.{◌≡◌, IfSome}
use Rattle.ped_tree.specs.Tree.{ExprTree}
use Rattle.ped_tree.specs.Constants.ConstantExpressions.{constant_value}
use Rattle.ped_affine.specs.declared.subscripts.Part.{Part}
use Rattle.ped_affine.specs.AffineForms.{Terms, affine_of}
use Rattle.ped_affine.specs.KeptForms.{kept, IsOver}

-- the value and the form of a part, each where there is one
pub record IsPart (t : Terms) (e : ExprTree) (p : Part) : Type 0 where
  pub constant : p.constant ≡ constant_value t.constants e
  pub form : kept t.unknowns p.form ≡ affine_of t e
  pub over : IfSome p.form (IsOver t.unknowns)
