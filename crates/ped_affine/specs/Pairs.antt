-- A pair of places as the code looks at it. Only contracts of private functions use these definitions.
use Rattle.std.specs.Prelude.{◌≡◌, ℕ, ◌+◌, ◌≤◌, All, length}
use Rattle.ped_views.specs.Limits.{IsSmallConstant, IsSmallCoefficient}
use Rattle.ped_affine.specs.declared.forms.Form.{Form}
use Rattle.ped_affine.specs.declared.positions.Depths.{Depths as CodeDepths}
use Rattle.ped_affine.specs.declared.positions.Pair.{Pair}
use Rattle.ped_affine.specs.PairViews.{Depths, depths_of}
use Rattle.ped_affine.specs.Arguments.{site}

-- the loops of a pair
abbrev pub depths_kept : CodeDepths → Depths
depths_kept d = record { common = d.common; source = d.source; sink = d.sink }

-- the loops that are kept for a pair are those around its places, at most six around each
pub record IsPair (p : Pair) : Type 0 where
  pub depths : depths_kept p.depths ≡ depths_of (site p.source) (site p.sink)
  pub source : p.depths.common + p.depths.source ≡ length p.source.nest.now
  pub sink : p.depths.common + p.depths.sink ≡ length p.sink.nest.now
  pub few_around_source : p.depths.common + p.depths.source ≤ 6
  pub few_around_sink : p.depths.common + p.depths.sink ≤ 6

-- a form has a coefficient for each of this many loops, and its numbers are within the limits
pub record Covers (loops : ℕ) (f : Form) : Type 0 where
  pub long : loops ≤ length f.coefficients.items
  pub coefficients : All IsSmallCoefficient f.coefficients.items
  pub constant : IsSmallConstant f.constant
