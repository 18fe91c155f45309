-- What `system` prints: a pair and a pattern, the names of the unknowns, and the rows of the system (this project).
use Rattle.std.specs.Prelude.{ℕ, ◌+◌, ℤ, pos, negsuc, List, [], ◌∷◌, ◌++◌, map, length, codes, Bool, true, false, not, ◌&&◌, ◌||◌, Option, option_map, int_lt, if◌then◌else◌}
use Rattle.std.specs.List.{flat_map, range_with_len}
use Rattle.std.specs.Fmt.{decimal, signed_decimal}
use Rattle.std.specs.Ordering.{int_eq}
use Rattle.ped_certificates.specs.declared.claims.Position.{Position}
use Rattle.ped_certificates.specs.declared.claims.Sign.{Sign}
use Rattle.ped_certificates.specs.declared.systems.Row.{Row}
use Rattle.ped_certificates.specs.declared.systems.System.{System}
use Rattle.ped_certificates.specs.PairTexts.{place_text, pattern_text}
use Rattle.ped_tree.specs.Tree.{ProgramTree}
use Rattle.ped_tree.specs.Nests.{Loop, indices_of}
use Rattle.ped_refs.specs.References.{Reference, outermost}
use Rattle.ped_laws.specs.ped_graph.specs.Dependences.{setting_in, site_of}
use Rattle.ped_evidence.specs.Layouts.{Layout, layout_of}
use Rattle.ped_evidence.specs.Lines.{claim_about}
use Rattle.ped_evidence.specs.Claims.{claimed, system}

-- the text of a list of characters
abbrev pub Text : Type 0
Text = List ℕ

-- the names of the unknowns in their order: of the loops' variables at the source, and at the sink with an apostrophe, of quotients by their numbers, and of symbols
abbrev pub unknown_names : List Loop → List Loop → ℕ → List Text → List Text
unknown_names source sink quotients symbols =
    indices_of source
    ++ map (λ x. x ++ codes "'") (indices_of sink)
    ++ map (λ k. codes "#" ++ decimal k) (range_with_len 1 quotients)
    ++ symbols

-- the sign before a term: a plus where the term isn't the first, and not negative
abbrev pub plus_text : Bool → ℤ → Text
plus_text first a = if first || int_lt a (pos 0) then [] else codes "+"

-- what stands before an unknown: nothing for 1, a minus for -1, and any other coefficient with a star
abbrev pub coefficient_text : ℤ → Text
coefficient_text a = if int_eq a (pos 1) then [] else if int_eq a (negsuc 0) then codes "-" else signed_decimal a ++ codes "*"

-- a multiple of an unknown
abbrev pub term_text : Bool → ℤ → Text → Text
term_text first a x = plus_text first a ++ coefficient_text a ++ x

-- the constant behind the terms: nothing where it is 0 and a term stands before it
abbrev pub constant_text : Bool → ℤ → Text
constant_text first c = if not first && int_eq c (pos 0) then [] else plus_text first c ++ signed_decimal c

-- a sum: the terms whose coefficient isn't 0, in the order of the unknowns, and the constant
abbrev pub sum_text : Bool → List ℤ → List Text → ℤ → Text
sum_text first [] names c = constant_text first c
sum_text first (a ∷ more) [] c = constant_text first c
sum_text first (a ∷ more) (x ∷ names) c =
    if int_eq a (pos 0) then sum_text first more names c else term_text first a x ++ sum_text false more names c

-- what a row says of its sum
abbrev pub relation_text : Bool → Text
relation_text equation = if equation then codes " = 0" else codes " >= 0"

-- a row with its number, and the end of its line
abbrev pub row_text : List Text → ℕ → Row → Text
row_text names n row = decimal n ++ codes " " ++ sum_text true row.coefficients names row.constant ++ relation_text row.equation ++ codes "\n"

-- rows, numbered from n on
abbrev pub rows_text : List Text → ℕ → List Row → Text
rows_text names n [] = []
rows_text names n (row ∷ rows) = row_text names n row ++ rows_text names (n + 1) rows

-- the line with the pair and the pattern
abbrev pub head_text : Position → Position → List Sign → Text
head_text source sink pattern = codes "system " ++ place_text source ++ codes " " ++ place_text sink ++ codes " " ++ pattern_text pattern ++ codes "\n"

-- the line with the names of the unknowns
abbrev pub unknowns_text : List Text → Text
unknowns_text names = codes "unknowns" ++ flat_map (λ name. codes " " ++ name) names ++ codes "\n"

-- the line with the number of rows
abbrev pub count_text : List Row → Text
count_text rows = codes "rows " ++ decimal (length rows) ++ codes "\n"

-- the lines for a pair and a pattern, where the unknowns have these names, and this is the system
abbrev pub pair_text : Position → Position → List Sign → List Text → System → Text
pair_text source sink pattern names found =
    head_text source sink pattern ++ unknowns_text names ++ count_text found.rows ++ rows_text names 1 found.rows

-- the layout of a pair in a program
abbrev pub layout_in : ProgramTree → Reference × Reference → Layout
layout_in t pair = layout_of (setting_in t (outermost pair.0)) (site_of pair.0) (site_of pair.1)

-- the names of the unknowns of a pair
abbrev pub names_in : ProgramTree → Reference × Reference → List Text
names_in t pair = let y = layout_in t pair in unknown_names pair.0.nest pair.1.nest y.columns.quotients y.symbols

-- what `system` prints in a program; none where evidence may not speak of the pair
abbrev pub system_text : ProgramTree → Position → Position → List Sign → Option Text
system_text t source sink pattern =
    option_map (λ pair. pair_text source sink pattern (names_in t pair) (system t pair.0 pair.1 pattern)) (claimed t (claim_about source sink pattern))
