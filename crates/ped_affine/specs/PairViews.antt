-- The view of an ordered pair of references: the ranges of its loops and its subscripts as affine forms (Allen and Kennedy, sections 3.1, 3.2).
use Rattle.std.specs.Prelude.{ℕ, ℤ, pos, ◌-◌, List, [], ◌∷◌, ◌++◌, map, filter, length, take, drop, replicate, Bool, true, false, not, ◌&&◌, Option, Some, None, if◌then◌else◌}
use Rattle.std.specs.Ordering.{int_eq}
use Rattle.std.specs.Cmp.Lexicographic.{pointwise}
use Rattle.ped_base.specs.Lists.{is_among}
use Rattle.ped_views.specs.Views.{Row, SubscriptPair, View}
use Rattle.ped_tree.specs.Tree.{ExprTree, Head}
use Rattle.ped_tree.specs.Nests.{Loop, indices_of, common_nest}
use Rattle.ped_affine.specs.Ranges.{Setting, nest_ranges}
use Rattle.ped_affine.specs.AffineForms.{Terms, AffineForm, affine_of, form_variables}

-- the place of a reference: the DO loops around it, the outermost first, and its subscripts, none for a scalar
pub record Site : Type 0 where
  pub nest : List Loop
  pub subscripts : List ExprTree

-- the loops of a pair: how many are common, and how many further ones each side has (Allen and Kennedy, section 2.2.2)
pub record Depths : Type 0 where
  pub common : ℕ
  pub source : ℕ
  pub sink : ℕ

-- the depths of a pair of places
abbrev pub depths_of : Site → Site → Depths
depths_of source sink =
    let common = length (common_nest source.nest sink.nest) in
    record { common = common; source = length source.nest - common; sink = length sink.nest - common }

-- a variable that no loop around either reference has, and that the outermost common loop doesn't assign (Allen and Kennedy, section 3.1)
abbrev pub is_other : Setting → Site → Site → List ℕ → Bool
is_other s source sink x = not (is_among x (indices_of source.nest)) && not (is_among x (indices_of sink.nest)) && not (is_among x s.assigned)

-- such variables of two subscripts (Allen and Kennedy, section 3.1)
abbrev pub other_variables : Setting → Site → Site → ExprTree → ExprTree → List (List ℕ)
other_variables s source sink e g = filter (is_other s source sink) (form_variables e ++ form_variables g)

-- the names that the form of a subscript may have: the loops of its side, and these other variables
abbrev pub terms_of : Setting → List Loop → List (List ℕ) → Terms
terms_of s nest others = record { constants = s.constants; unknowns = indices_of nest ++ others }

-- a form by the coefficients of the common loops, and those of this many further loops
abbrev pub row_of : ℕ → ℕ → AffineForm → Row
row_of common further f = record { common = take common f.coefficients; inner = take further (drop common f.coefficients); constant = f.constant }

-- the coefficients of the other variables, after those of the loops of the side
abbrev pub other_coefficients : ℕ → ℕ → AffineForm → List ℤ
other_coefficients common further f = drop further (drop common f.coefficients)

-- zeros alone
abbrev pub zero_row : ℕ → ℕ → Row
zero_row common further = record { common = replicate common (pos 0); inner = replicate further (pos 0); constant = pos 0 }

-- a position that the tests don't look at
abbrev pub unusable : Depths → SubscriptPair
unusable n = record { usable = false; source = zero_row n.common n.source; sink = zero_row n.common n.sink }

-- a position that the tests look at
abbrev pub usable_pair : Depths → AffineForm → AffineForm → SubscriptPair
usable_pair n a b = record { usable = true; source = row_of n.common n.source a; sink = row_of n.common n.sink b }

-- the two subscripts at a position, usable where both are affine and each other variable has one coefficient on both sides (Allen and Kennedy, section 3.1)
abbrev pub subscript_pair : Depths → Option AffineForm → Option AffineForm → SubscriptPair
subscript_pair n (Some a) (Some b) =
    if pointwise int_eq (other_coefficients n.common n.source a) (other_coefficients n.common n.sink b) then usable_pair n a b
    else unusable n
subscript_pair n (Some a) None = unusable n
subscript_pair n None b = unusable n

-- two subscripts as forms over the same other variables (Allen and Kennedy, section 3.1)
abbrev pub position_of : Setting → Site → Site → ExprTree → ExprTree → SubscriptPair
position_of s source sink e g =
    let others = other_variables s source sink e g in
    subscript_pair (depths_of source sink) (affine_of (terms_of s source.nest others) e) (affine_of (terms_of s sink.nest others) g)

-- position by position, as many as both have
abbrev pub positions_of : Setting → Site → Site → List ExprTree → List ExprTree → List SubscriptPair
positions_of s source sink (e ∷ es) (g ∷ gs) = position_of s source sink e g ∷ positions_of s source sink es gs
positions_of s source sink [] gs = []
positions_of s source sink (e ∷ es) [] = []

-- the heads of the loops of a nest
abbrev pub heads_of : List Loop → List Head
heads_of nest = map (λ l. l.head) nest

-- the view of the ordered pair of references at these places (Allen and Kennedy, section 3.2)
abbrev pub view_at : Setting → Site → Site → View
view_at s source sink =
    let common = length (common_nest source.nest sink.nest) in
    record {
      loops = take common (nest_ranges s (heads_of source.nest));
      source_inner = drop common (nest_ranges s (heads_of source.nest));
      sink_inner = drop common (nest_ranges s (heads_of sink.nest));
      positions = positions_of s source sink source.subscripts sink.subscripts;
    }
