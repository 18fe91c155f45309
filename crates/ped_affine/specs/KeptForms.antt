-- Affine forms as the code keeps them, and the names that they are over. Only contracts of private functions use these definitions.
use Rattle.std.specs.Prelude.{◌≡◌, ℕ, ℤ, pos, List, [], ◌∷◌, ◌++◌, map, length, All, Option, option_map}
use Rattle.ped_views.specs.Limits.{IsSmallConstant, IsSmallCoefficient}
use Rattle.ped_tree.specs.Nests.{indices_of}
use Rattle.ped_refs.specs.Loops.{nest_of}
use Rattle.ped_affine.specs.declared.forms.Form.{Form}
use Rattle.ped_affine.specs.declared.forms.Terms.{Terms as CodeTerms}
use Rattle.ped_affine.specs.AffineForms.{Terms, AffineForm, form}

-- the unknowns: the variables of the loops, and the others
abbrev pub unknowns_of : CodeTerms → List (List ℕ)
unknowns_of t = indices_of (nest_of t.nest.now) ++ t.others.now

-- the named constants and the unknowns
abbrev pub terms_kept : CodeTerms → Terms
terms_kept t = record { constants = t.constants.now; unknowns = unknowns_of t }

-- the coefficients of the unknowns, where none at all stand for zeros
abbrev pub coefficients_of : List (List ℕ) → List ℤ → List ℤ
coefficients_of unknowns [] = map (λ x. pos 0) unknowns
coefficients_of unknowns (a ∷ rest) = a ∷ rest

-- the form over these unknowns that is kept so
abbrev pub form_kept : List (List ℕ) → Form → AffineForm
form_kept unknowns f = form (coefficients_of unknowns f.coefficients.items) f.constant

-- the same, where there is a form
abbrev pub kept : List (List ℕ) → Option Form → Option AffineForm
kept unknowns f = option_map (form_kept unknowns) f

-- a form has one coefficient for each unknown, and its numbers are within the limits
pub record IsOver (unknowns : List (List ℕ)) (f : Form) : Type 0 where
  pub complete : length (coefficients_of unknowns f.coefficients.items) ≡ length unknowns
  pub coefficients : All IsSmallCoefficient f.coefficients.items
  pub constant : IsSmallConstant f.constant

-- the form that is kept with a coefficient for each unknown
abbrev pub plain_form : Form → AffineForm
plain_form f = form f.coefficients.items f.constant

-- a form has a coefficient for each unknown written out, and its numbers are within the limits
pub record IsComplete (unknowns : List (List ℕ)) (f : Form) : Type 0 where
  pub complete : length f.coefficients.items ≡ length unknowns
  pub coefficients : All IsSmallCoefficient f.coefficients.items
  pub constant : IsSmallConstant f.constant
