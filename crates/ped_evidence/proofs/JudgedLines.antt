-- What lines that hold speak of is what evidence disproves; the setting of a pair; a program that fits is small.
use Rattle.std.proofs.Common.{◌≡◌, ℕ, zero, suc, min, drop, ◌≤◌, ◌<◌, ◌^◌, refl, sym, ap, ◌∙◌, subst, arith, List, [], ◌∷◌, map, length, Bool, true, false, ◌&&◌, ◌||◌}
use Rattle.std.specs.Prelude.{All}
use Rattle.std.specs.List.{AllByRecursion}
use Rattle.std.proofs.lemmas.List.{length-map}
use Rattle.std.proofs.lemmas.List.Elements.{All-from_recursion}
use Rattle.ped_views.specs.declared.directions.Direction.{Direction}
use Rattle.ped_certificates.specs.declared.claims.Sign.{Sign}
use Rattle.ped_certificates.specs.declared.claims.EvidenceLine.{EvidenceLine}
use Rattle.ped_certificates.specs.declared.claims.EvidenceLine.TheVariants as given
use Rattle.ped_tree.specs.Tree.{ProgramTree}
use Rattle.ped_tree.specs.Names.Collecting.{with_names}
use Rattle.ped_tree.specs.NamesIn.{all_loop_variables}
use Rattle.ped_tree.specs.Numbering.{statements_count, statement_with}
use Rattle.ped_refs.specs.References.{Reference, references, outermost}
use Rattle.ped_refs.specs.Loops.{loop_of}
use Rattle.ped_refs.specs.Occurrences.{reference_of, references_of}
use Rattle.ped_refs.specs.declared.occurring.Occurrence.{Occurrence}
use Rattle.ped_refs.specs.Sizes.Sizes.{IsSmall}
use Rattle.ped_affine.specs.Ranges.{Setting}
use Rattle.ped_laws.specs.ped_graph.specs.ped_symbols.specs.Kinds.{table_of}
use Rattle.ped_laws.specs.ped_edges.specs.Edges.{Edge}
use Rattle.ped_laws.specs.ped_graph.specs.Dependences.{assigned_by, setting_in}
use Rattle.ped_evidence.specs.Signs.{says, fits}
use Rattle.ped_evidence.specs.Evidence.{disproves, holds, speaks_of}
use Rattle.ped_evidence.specs.Lines.{line_of, lines_of, line_holds}
use Rattle.ped_evidence.specs.Judged.{some_speaks_of, IsShallow}

some_disproves : (t : ProgramTree) (e : Edge) (v : List Direction) (lines : List EvidenceLine) → some_speaks_of e.source e.sink v lines (map (line_holds t) lines) ≡ disproves t (lines_of lines) e v
some_disproves t e v [] = refl
some_disproves t e v (given.Empty ∷ lines) = some_disproves t e v lines
some_disproves t e v (given.Malformed ∷ lines) = some_disproves t e v lines
some_disproves t e v (given.Claim c ∷ lines) = ap (λ (b : Bool). (speaks_of (line_of c) e v && holds t (line_of c)) || b) (some_disproves t e v lines)

pub some_is_disproved : (t : ProgramTree) (e : Edge) (v : List Direction) (lines : List EvidenceLine) (source sink : ℕ × ℕ) (held : List Bool) → e.source ≡ source → e.sink ≡ sink → held ≡ map (line_holds t) lines
    → some_speaks_of source sink v lines held ≡ disproves t (lines_of lines) e v
some_is_disproved t e v lines source sink held a b h = (λ i. some_speaks_of (sym a i) (sym b i) v lines (h i)) ∙ some_disproves t e v lines

-- no line is left behind the last
pub none_left : (source sink : ℕ × ℕ) (v : List Direction) (lines : List EvidenceLine) (held : List Bool) (i : ℕ) → min (length lines) (length held) ≤ i → some_speaks_of source sink v (drop i lines) (drop i held) ≡ false
none_left source sink v [] held zero h = refl
none_left source sink v [] held (suc i) h = refl
none_left source sink v (line ∷ lines) [] zero h = refl
none_left source sink v (line ∷ lines) [] (suc i) h = nothing (drop i lines)
  where
    nothing : (rest : List EvidenceLine) → some_speaks_of source sink v rest [] ≡ false
    nothing [] = refl
    nothing (l ∷ rest) = refl
none_left source sink v (line ∷ lines) (b ∷ held) zero h = absurd (omega arith)
none_left source sink v (line ∷ lines) (b ∷ held) (suc i) h = none_left source sink v lines held i (omega arith)

-- a pattern fits no vector that is longer or shorter
pub fits_as_many : (pattern : List Sign) (v : List Direction) → (length pattern ≡ length v → ⊥) → false ≡ fits pattern v
fits_as_many [] [] h = absurd (h refl)
fits_as_many [] (d ∷ v) h = refl
fits_as_many (s ∷ pattern) [] h = refl
fits_as_many (s ∷ pattern) (d ∷ v) h = nothing (says s d) ∙ ap (λ (b : Bool). says s d && b) (fits_as_many pattern v (λ e. h (ap suc e)))
  where
    nothing : (b : Bool) → false ≡ b && false
    nothing true = refl
    nothing false = refl

-- the setting of the outermost DO round a reference, by its parts
pub in_setting : (t : ProgramTree) (r : Reference) (s : Setting) → s.constants ≡ (table_of t).constants → s.loop_variables ≡ with_names [] (all_loop_variables t.body) → s.assigned ≡ with_names [] (assigned_by (statement_with (outermost r) t)) → s ≡ setting_in t (outermost r)
in_setting t r s e f g = λ i. record { constants = e i; loop_variables = f i; assigned = g i }

-- ---- a program that fits is small

pub statements_few : (t : ProgramTree) → IsSmall t → statements_count t.body < 2 ^ 32
statements_few t small = let few = small.few_statements in omega (arith, few)

pub references_few : (t : ProgramTree) → IsSmall t → length (references t) < 2 ^ 32
references_few t small = let few = small.few_references in omega (arith, few)

shallow : (found : List Occurrence) → AllByRecursion (λ (r : Reference). length r.nest ≤ 6) (map reference_of found) → AllByRecursion IsShallow found
shallow [] h = tt
shallow (o ∷ rest) h = (subst (λ (n : ℕ). n ≤ 6) (length-map o.nest.items loop_of) h.0, shallow rest h.1)

pub shallow_found : (t : ProgramTree) (found : List Occurrence) → IsSmall t → references_of found ≡ references t → All IsShallow found
shallow_found t found small e = All-from_recursion IsShallow found (shallow found (subst (AllByRecursion (λ (r : Reference). length r.nest ≤ 6)) (sym e) small.shallow))
