-- Values of the unknowns of an affine form (Allen and Kennedy, section 3.1; this project).
use Rattle.std.specs.Prelude.{◌≡◌, ℕ, ℤ, pos, ◌+ℤ◌, List, [], ◌∷◌, true, Ok, if◌then◌else◌}
use Rattle.ped_flow.specs.ped_base.specs.Lists.{is_among}
use Rattle.ped_graph.specs.ped_views.specs.Excluded.{dot}
use Rattle.ped_eval.specs.ped_store.specs.Stores.{Store}
use Rattle.ped_eval.specs.Scopes.{Names}
use Rattle.ped_eval.specs.Values.{variable_value}
use Rattle.ped_flow.specs.ped_affine.specs.AffineForms.{Terms, AffineForm}

-- the values of unknowns, of which each name counts only where it comes first: a form has a coefficient at each place of a name (this project)
abbrev pub first_values : (List ℕ → ℤ) → List (List ℕ) → List (List ℕ) → List ℤ
first_values values before [] = []
first_values values before (x ∷ xs) = (if is_among x before then pos 0 else values x) ∷ first_values values (x ∷ before) xs

-- the value of a form where the unknowns have these values (Allen and Kennedy, section 3.1)
abbrev pub form_value : List (List ℕ) → (List ℕ → ℤ) → AffineForm → ℤ
form_value unknowns values f = dot f.coefficients (first_values values [] unknowns) +ℤ f.constant

-- at this place and in this store the unknowns have these values, where they have one; and both sides have the same constants (this project)
pub record HaveValues (t : Terms) (values : List ℕ → ℤ) (g : Names) (u : Store) : Type 0 where
  pub constants : g.constants ≡ t.constants
  pub unknowns : (x : List ℕ) (n : ℤ) → is_among x t.unknowns ≡ true → (variable_value (g.index x) u (g.cell x)).result ≡ Ok n → n ≡ values x
