-- Evidence as the code judges it. Only contracts of private functions use these definitions.
use Rattle.std.specs.Prelude.{◌≡◌, ℕ, ◌≤◌, List, [], ◌∷◌, length, All, Bool, false, ◌&&◌, ◌||◌}
use Rattle.ped_views.specs.declared.directions.Direction.{Direction}
use Rattle.ped_certificates.specs.declared.claims.EvidenceLine.{EvidenceLine}
use Rattle.ped_certificates.specs.declared.claims.EvidenceLine.TheVariants as given
use Rattle.ped_tree.specs.Tree.{ProgramTree}
use Rattle.ped_tree.specs.Views.{program_tree}
use Rattle.ped_tree.specs.Names.Collecting.{with_names}
use Rattle.ped_tree.specs.NamesIn.{all_loop_variables}
use Rattle.ped_refs.specs.References.{Reference, references, outermost}
use Rattle.ped_refs.specs.Occurrences.{reference_of, references_of}
use Rattle.ped_refs.specs.declared.occurring.Occurrence.{Occurrence}
use Rattle.ped_laws.specs.ped_graph.specs.ped_symbols.specs.Kinds.{table_of}
use Rattle.ped_laws.specs.ped_graph.specs.Dependences.{setting_in, site_of}
use Rattle.ped_evidence.specs.declared.claimed.Known.{Known}
use Rattle.ped_evidence.specs.declared.claimed.Spoken.{Spoken}
use Rattle.ped_evidence.specs.Symbols.{symbols_of}
use Rattle.ped_evidence.specs.Signs.{fits}
use Rattle.ped_evidence.specs.Evidence.{same_place}
use Rattle.ped_evidence.specs.Lines.{place}

-- few loops are round a reference
abbrev pub IsShallow : Occurrence → Type 0
IsShallow o = length o.nest.items ≤ 6

-- what is known of a program: its named constants, the variables of its DO loops, and its references, which few loops enclose
pub record IsKnown (k : Known) : Type 0 where
  pub constants : k.constants.now ≡ (table_of (program_tree k.program.now)).constants
  pub loop_variables : k.loop_variables.now ≡ with_names [] (all_loop_variables (program_tree k.program.now).body)
  pub found : references_of k.found.now ≡ references (program_tree k.program.now)
  pub shallow : All IsShallow k.found.now

-- a pair that the code has found
abbrev pub pair_of : Spoken → Reference × Reference
pair_of p = (reference_of p.source.now, reference_of p.sink.now)

-- the symbols of a pair in a program
abbrev pub symbols_in : ProgramTree → Reference × Reference → List (List ℕ)
symbols_in t pair = symbols_of (setting_in t (outermost pair.0)) (site_of pair.0) (site_of pair.1)

-- few loops are round both of its references
pub record AreShallow (p : Spoken) : Type 0 where
  pub source : IsShallow p.source.now
  pub sink : IsShallow p.sink.now

-- a line of a text speaks of a dependence between these places in these directions
abbrev pub line_speaks_of : ℕ × ℕ → ℕ × ℕ → List Direction → EvidenceLine → Bool
line_speaks_of source sink vector given.Empty = false
line_speaks_of source sink vector given.Malformed = false
line_speaks_of source sink vector (given.Claim c) = same_place (place c.source) source && same_place (place c.sink) sink && fits c.pattern vector

-- some of these lines that hold speaks of it
abbrev pub some_speaks_of : ℕ × ℕ → ℕ × ℕ → List Direction → List EvidenceLine → List Bool → Bool
some_speaks_of source sink vector [] held = false
some_speaks_of source sink vector (line ∷ rest) [] = false
some_speaks_of source sink vector (line ∷ rest) (holds ∷ held) = (line_speaks_of source sink vector line && holds) || some_speaks_of source sink vector rest held
