-- The unknowns of a system, in their order: the variable of each DO round the source, of each DO round the sink, quotients, and symbols (this project).
use Rattle.std.specs.Prelude.{ℕ, ◌+◌, ◌-◌, ℤ, pos, List, ◌++◌, length, filter, take, drop, replicate, unsigned_abs, is_some, Bool, not, ◌&&◌, ◌==◌, Option, option_map}
use Rattle.ped_tree.specs.Tree.{ExprTree}
use Rattle.ped_tree.specs.Nests.{Loop, common_nest}
use Rattle.ped_affine.specs.Ranges.{Setting}
use Rattle.ped_affine.specs.AffineForms.{AffineForm, form, affine_of}
use Rattle.ped_affine.specs.PairViews.{Site, terms_of}
use Rattle.ped_evidence.specs.Levels.{Level, levels_of}
use Rattle.ped_evidence.specs.Symbols.{symbols_of}
use Rattle.ped_evidence.specs.Forms.{multiple, unknown}

-- how many unknowns of each kind there are
pub record Columns : Type 0 where
  pub source : ℕ
  pub sink : ℕ
  pub quotients : ℕ
  pub symbols : ℕ

-- how many unknowns there are
abbrev pub width : Columns → ℕ
width c = c.source + c.sink + c.quotients + c.symbols

-- what the rows of a pair depend on beside the pair: the setting, the symbols, and how many unknowns there are
pub record Layout : Type 0 where
  pub setting : Setting
  pub symbols : List (List ℕ)
  pub columns : Columns

-- the variable of a DO, where this many unknowns come before those of its side
abbrev pub index : Columns → ℕ → Level → AffineForm
index c before v = unknown (width c) (before + length v.around + 1)

-- so many steps of this size as the quotient with this number says, counted from 0
abbrev pub steps : Columns → ℕ → ℤ → AffineForm
steps c q m = multiple (width c) (c.source + c.sink + q + 1) m

-- the symbol with this number, counted from 0
abbrev pub symbol : Columns → ℕ → AffineForm
symbol c k = unknown (width c) (c.source + c.sink + c.quotients + k + 1)

-- an expression inside these loops, as a form in their variables and in these symbols (Allen and Kennedy, section 3.1)
abbrev pub form_at : Setting → List (List ℕ) → List Loop → ExprTree → Option AffineForm
form_at s symbols around e = affine_of (terms_of s around symbols) e

-- a form in the variables of so many loops and in symbols, as one over all unknowns, where this many unknowns come before those of its side
abbrev pub widened : Columns → ℕ → ℕ → AffineForm → AffineForm
widened c before loops f =
    form (replicate before (pos 0) ++ take loops f.coefficients ++ replicate (c.source + c.sink + c.quotients - (before + loops)) (pos 0) ++ drop loops f.coefficients) f.constant

-- an expression inside these loops, as a form over all unknowns
abbrev pub placed : Layout → ℕ → List Loop → ExprTree → Option AffineForm
placed y before around e = option_map (widened y.columns before (length around)) (form_at y.setting y.symbols around e)

-- the step is neither 1 nor -1
abbrev pub strides : Level → Bool
strides v = not (unsigned_abs v.range.step == 1)

-- the initial value of the loop has a form
abbrev pub has_first : Setting → List (List ℕ) → Level → Bool
has_first s symbols v = is_some (form_at s symbols v.around v.head.first)

-- the loop has a quotient of its own: how many steps its variable is from the initial value (ANSI X3.9-1978, section 11.10.7)
abbrev pub has_own : Setting → List (List ℕ) → Level → Bool
has_own s symbols v = strides v && has_first s symbols v

-- a common loop has a quotient for both sides: how many steps its variable at the sink is from that at the source, where all its entries begin at one value that has no form (this project)
abbrev pub has_shared : Setting → List (List ℕ) → Level → Bool
has_shared s symbols v = strides v && v.range.steady && not (has_first s symbols v)

-- the common loops, by the levels of the source (Allen and Kennedy, section 2.2.2)
abbrev pub common_levels : Setting → Site → Site → List Level
common_levels s source sink = take (length (common_nest source.nest sink.nest)) (levels_of s source.nest)

-- how many quotients the loops of a nest have of their own
abbrev pub own_quotients : Setting → List (List ℕ) → List Loop → ℕ
own_quotients s symbols nest = length (filter (has_own s symbols) (levels_of s nest))

-- the layout of a pair
abbrev pub layout_of : Setting → Site → Site → Layout
layout_of s source sink =
    let symbols = symbols_of s source sink in
    record {
      setting = s;
      symbols = symbols;
      columns = record {
        source = length source.nest;
        sink = length sink.nest;
        quotients = own_quotients s symbols source.nest + own_quotients s symbols sink.nest + length (filter (has_shared s symbols) (common_levels s source sink));
        symbols = length symbols;
      };
    }
