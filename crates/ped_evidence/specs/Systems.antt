-- The system of an ordered pair of references and a pattern: what the values of the unknowns satisfy wherever both touch one cell in the directions of the pattern (this project).
use Rattle.std.specs.Prelude.{ℕ, ◌+◌, pos, neg_ℤ, ◌-ℤ◌, ◌^◌, List, [], ◌∷◌, ◌++◌, map, Bool, Option, Some, None, if◌then◌else◌}
use Rattle.std.specs.List.{flat_map}
use Rattle.ped_base.specs.Lists.{is_among}
use Rattle.ped_certificates.specs.declared.systems.Row.{Row}
use Rattle.ped_certificates.specs.declared.systems.System.{System}
use Rattle.ped_tree.specs.Tree.{ExprTree}
use Rattle.ped_affine.specs.Ranges.{Setting}
use Rattle.ped_affine.specs.AffineForms.{AffineForm, is_constant_form}
use Rattle.ped_affine.specs.PairViews.{Site}
use Rattle.ped_certificates.specs.declared.claims.Sign.{Sign}
use Rattle.ped_certificates.specs.declared.claims.Sign.TheVariants.{Before, Same, After, Any}
use Rattle.ped_evidence.specs.Levels.{Level, levels_of, lower_bounds, upper_bounds, falls}
use Rattle.ped_evidence.specs.Forms.{number, less, at_most, below, is_zero, equal}
use Rattle.ped_evidence.specs.Layouts.{Columns, Layout, width, index, steps, symbol, placed, strides, has_own, has_shared, common_levels, own_quotients, layout_of}

-- the variable lies in the range of its loop (ANSI X3.9-1978, section 11.10.3)
abbrev pub range_rows : Layout → ℕ → Level → List Row
range_rows y before v =
    let x = index y.columns before v in
    at_most (number (width y.columns) v.range.lo) x ∷ at_most x (number (width y.columns) v.range.hi) ∷ []

-- a form that isn't constant: a constant one says no more than the range
abbrev pub if_varying : Option AffineForm → List AffineForm
if_varying None = []
if_varying (Some f) = if is_constant_form f then [] else f ∷ []

-- the forms of bounds of a loop, of those that have one that isn't constant
abbrev pub bound_forms : Layout → ℕ → Level → List ExprTree → List AffineForm
bound_forms y before v bounds = flat_map (λ e. if_varying (placed y before v.around e)) bounds

-- the variable is at least each lower bound (ANSI X3.9-1978, section 11.10.3)
abbrev pub lower_rows : Layout → ℕ → Level → List Row
lower_rows y before v = map (λ f. at_most f (index y.columns before v)) (bound_forms y before v (lower_bounds v))

-- the variable is at most each upper bound (ANSI X3.9-1978, section 11.10.3)
abbrev pub upper_rows : Layout → ℕ → Level → List Row
upper_rows y before v = map (λ f. at_most (index y.columns before v) f) (bound_forms y before v (upper_bounds v))

-- the variable less the initial value, where that has a form, is these steps
abbrev pub stride_row : AffineForm → AffineForm → Option AffineForm → List Row
stride_row x steps None = []
stride_row x steps (Some first) = is_zero (less (less x first) steps) ∷ []

-- the variable is a whole number of steps from the initial value, where the loop has a quotient of its own (ANSI X3.9-1978, section 11.10.7)
abbrev pub own_rows : Layout → ℕ → ℕ → Level → List Row
own_rows y before q v =
    if strides v then stride_row (index y.columns before v) (steps y.columns q v.range.step) (placed y before v.around v.head.first) else []

-- the rows of a loop, whose own quotient, where it has one, has this number
abbrev pub level_rows : Layout → ℕ → ℕ → Level → List Row
level_rows y before q v = range_rows y before v ++ lower_rows y before v ++ upper_rows y before v ++ own_rows y before q v

-- one more where it is so
abbrev pub counted : Bool → ℕ → ℕ
counted b n = if b then n + 1 else n

-- the rows of the loops of a side, the outermost first, whose own quotients count from this number
abbrev pub side_rows : Layout → ℕ → ℕ → List Level → List Row
side_rows y before q [] = []
side_rows y before q (v ∷ vs) = level_rows y before q v ++ side_rows y before (counted (has_own y.setting y.symbols v) q) vs

-- the variable of a common loop at the sink is a whole number of steps from that at the source (this project)
abbrev pub shared_row : Columns → ℕ → Level → Row
shared_row c q v = is_zero (less (less (index c c.source v) (index c 0 v)) (steps c q v.range.step))

-- the same, where the loop has a quotient for both sides, which has this number then
abbrev pub shared_rows_of : Layout → ℕ → Level → List Row
shared_rows_of y q v = if has_shared y.setting y.symbols v then shared_row y.columns q v ∷ [] else []

-- the same of each common loop; the quotients count from this number
abbrev pub shared_rows : Layout → ℕ → List Level → List Row
shared_rows y q [] = []
shared_rows y q (v ∷ vs) = shared_rows_of y q v ++ shared_rows y (counted (has_shared y.setting y.symbols v) q) vs

-- of two values of a loop's variable among so many unknowns, the first is of an earlier iteration (ANSI X3.9-1978, section 11.10.7)
abbrev pub earlier : ℕ → Level → AffineForm → AffineForm → Row
earlier unknowns v a b = if falls v then below unknowns b a else below unknowns a b

-- the iterations of a common loop are as a sign says (Allen and Kennedy, section 2.2.4)
abbrev pub sign_row : Columns → Level → Sign → List Row
sign_row c v Any = []
sign_row c v Same = equal (index c c.source v) (index c 0 v) ∷ []
sign_row c v Before = earlier (width c) v (index c 0 v) (index c c.source v) ∷ []
sign_row c v After = earlier (width c) v (index c c.source v) (index c 0 v) ∷ []

-- the same of each common loop
abbrev pub sign_rows : Columns → List Level → List Sign → List Row
sign_rows c (v ∷ vs) (sign ∷ pattern) = sign_row c v sign ++ sign_rows c vs pattern
sign_rows c (v ∷ vs) [] = []
sign_rows c [] pattern = []

-- both subscripts are equal, where both have a form
abbrev pub equal_rows : Option AffineForm → Option AffineForm → List Row
equal_rows (Some a) (Some b) = equal a b ∷ []
equal_rows (Some a) None = []
equal_rows None b = []

-- the subscripts of both references are equal position by position (Allen and Kennedy, section 3.1)
abbrev pub position_rows : Layout → Site → Site → List ExprTree → List ExprTree → List Row
position_rows y source sink (e ∷ es) (g ∷ gs) =
    equal_rows (placed y 0 source.nest e) (placed y y.columns.source sink.nest g) ++ position_rows y source sink es gs
position_rows y source sink (e ∷ es) [] = []
position_rows y source sink [] gs = []

-- a symbol holds a number of 32 bits; the variable of a DO may lie beyond (ANSI X3.9-1978, section 4.3; this project)
abbrev pub symbol_row : Layout → ℕ → List ℕ → List Row
symbol_row y k x =
    if is_among x y.setting.loop_variables then []
    else at_most (number (width y.columns) (neg_ℤ (pos (2 ^ 31)))) (symbol y.columns k) ∷ at_most (symbol y.columns k) (number (width y.columns) (pos (2 ^ 31) -ℤ pos 1)) ∷ []

-- the same of each symbol from this number on
abbrev pub symbol_rows : Layout → ℕ → List (List ℕ) → List Row
symbol_rows y k [] = []
symbol_rows y k (x ∷ xs) = symbol_row y k x ++ symbol_rows y (k + 1) xs

-- the rows of a pair of references in a setting with this layout: of the loops of both sides, of quotients for both sides, of the pattern, of the subscripts, and of the symbols (this project)
abbrev pub rows_in : Layout → Site → Site → List Sign → List Row
rows_in y source sink pattern =
    let s = y.setting in
    let own_source = own_quotients s y.symbols source.nest in
    let own_sink = own_quotients s y.symbols sink.nest in
    let common = common_levels s source sink in
    side_rows y 0 0 (levels_of s source.nest)
    ++ side_rows y y.columns.source own_source (levels_of s sink.nest)
    ++ shared_rows y (own_source + own_sink) common
    ++ sign_rows y.columns common pattern
    ++ position_rows y source sink source.subscripts sink.subscripts
    ++ symbol_rows y 0 y.symbols

-- the system of a pair of references at these places and of a pattern (this project)
abbrev pub system_at : Setting → Site → Site → List Sign → System
system_at s source sink pattern =
    let y = layout_of s source sink in
    record { unknowns = width y.columns; rows = rows_in y source sink pattern }
