-- Levels, forms and layouts as the code keeps them. Only contracts of private functions use these definitions.
use Rattle.std.specs.Prelude.{◌≡◌, ℕ, ◌≤◌, ◌<◌, ◌+◌, ◌^◌, List, ◌++◌, map, filter, length, All, Bool, true, false}
use Rattle.std.specs.Borrow.{Bor}
use Rattle.ped_certificates.specs.declared.systems.Row.{Row}
use Rattle.ped_certificates.specs.Limits.{IsWithin, IsRow}
use Rattle.ped_tree.specs.declared.expressions.Expr.{Expr}
use Rattle.ped_tree.specs.declared.expressions.Intrinsic.{Intrinsic}
use Rattle.ped_tree.specs.Tree.{ExprTree}
use Rattle.ped_tree.specs.Views.{expr_tree, head_of}
use Rattle.ped_tree.specs.Nests.{indices_of}
use Rattle.ped_refs.specs.Loops.{nest_of}
use Rattle.ped_affine.specs.AffineForms.{Terms, AffineForm, form}
use Rattle.ped_affine.specs.Arguments.{setting_of, site}
use Rattle.ped_evidence.specs.declared.affine.Unknowns.{Unknowns}
use Rattle.ped_evidence.specs.declared.forms.Form.{Form}
use Rattle.ped_evidence.specs.declared.layouts.Columns.{Columns as CodeColumns}
use Rattle.ped_evidence.specs.declared.layouts.Layout.{Layout as CodeLayout}
use Rattle.ped_evidence.specs.declared.levels.Level.{Level as CodeLevel}
use Rattle.ped_evidence.specs.declared.symbols.Pair.{Pair}
use Rattle.ped_evidence.specs.Levels.{Level, level, levels_of, is_max, is_min}
use Rattle.ped_evidence.specs.declared.systems.Quotients.{Quotients}
use Rattle.ped_evidence.specs.Layouts.{Columns, Layout, width, has_shared, common_levels, own_quotients}

-- a loop with its range
abbrev pub level_of : CodeLevel → Level
level_of l = level (nest_of l.around.now) (head_of l.statement.now) l.range.now

-- loops with their ranges
abbrev pub levels_kept : List CodeLevel → List Level
levels_kept levels = map level_of levels

-- expressions by their trees
abbrev pub trees_of : List (Bor Expr) → List ExprTree
trees_of found = map (λ e. expr_tree e.now) found

-- the test of a function: that it is MAX, or MIN
abbrev pub extreme : Bool → Intrinsic → Bool
extreme true = is_max
extreme false = is_min

-- the loops that are kept for a pair are those round its references, at most six round each
pub record IsPair (p : Pair) : Type 0 where
  pub source : levels_kept p.source_levels.now ≡ levels_of (setting_of p.setting) (nest_of p.source.nest.now)
  pub sink : levels_kept p.sink_levels.now ≡ levels_of (setting_of p.setting) (nest_of p.sink.nest.now)
  pub few_around_source : length p.source.nest.now ≤ 6
  pub few_around_sink : length p.sink.nest.now ≤ 6

-- how many quotients the loops of a pair have with these symbols: at most one each round the source and round the sink, and one of each common loop
pub record AreQuotients (p : Pair) (symbols : List (List ℕ)) (q : Quotients) : Type 0 where
  pub source : q.source ≡ own_quotients (setting_of p.setting) symbols (nest_of p.source.nest.now)
  pub sink : q.sink ≡ own_quotients (setting_of p.setting) symbols (nest_of p.sink.nest.now)
  pub shared : q.shared ≡ length (filter (has_shared (setting_of p.setting) symbols) (common_levels (setting_of p.setting) (site p.source) (site p.sink)))
  pub few : q.source + q.sink + q.shared ≤ 18

-- the form by its coefficients and its constant
abbrev pub form_of : Form → AffineForm
form_of f = form f.coefficients f.constant

-- a form has so many coefficients, which are no further from zero than the first number, and its constant no further than the second
pub record IsForm (unknowns most furthest : ℕ) (f : Form) : Type 0 where
  pub as_many : length f.coefficients ≡ unknowns
  pub coefficients : All (IsWithin most) f.coefficients
  pub constant : IsWithin furthest f.constant

-- the names of which a form can be made
abbrev pub names_of : Unknowns → List (List ℕ)
names_of u = indices_of (nest_of u.around.now) ++ u.symbols.now

-- the named constants, and these names
abbrev pub terms_kept : Unknowns → Terms
terms_kept u = record { constants = u.constants.now; unknowns = names_of u }

-- how many unknowns there are of each kind
abbrev pub columns_of : CodeColumns → Columns
columns_of c = record { source = c.source; sink = c.sink; quotients = c.quotients; symbols = c.symbols }

-- the layout that the code keeps
abbrev pub layout_kept : CodeLayout → Layout
layout_kept y = record { setting = setting_of y.setting; symbols = y.symbols.now; columns = columns_of y.columns }

-- there is an unknown for each symbol, and the number of all unknowns can be told
pub record IsLayout (y : CodeLayout) : Type 0 where
  pub symbols : y.columns.symbols ≡ length y.symbols.now
  pub few : width (columns_of y.columns) < 2 ^ 64

-- as many coefficients as unknowns, and numbers within 2^64
abbrev pub AreRows : CodeColumns → List Row → Type 0
AreRows c rows = All (IsRow (width (columns_of c)) (2 ^ 64)) rows

-- the variable of the loop is among those of the loops of both sides, where this many unknowns come before those of its side
abbrev pub IsInside : CodeColumns → ℕ → CodeLevel → Type 0
IsInside c before l = before + length l.around.now < c.source + c.sink
