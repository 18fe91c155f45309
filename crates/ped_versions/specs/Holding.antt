-- What versions hold of their programs: what belongs together (this project).
use Rattle.std.specs.Prelude.{◌≡◌, List, [], ◌∷◌, not}
use Rattle.ped_tree.specs.Tree.{ProgramTree}
use Rattle.ped_tree.specs.Views.{program_tree}
use Rattle.ped_tree.specs.Printing.{program_text}
use Rattle.ped_valid.specs.ped_symbols.specs.Kinds.{table_of}
use Rattle.ped_valid.specs.ped_symbols.specs.NameRefusals.{IsValid}
use Rattle.ped_update.specs.ped_graph.specs.Held.{Held, held_of}
use Rattle.ped_update.specs.Deltas.{TakesTo}
use Rattle.ped_versions.specs.Flags.{flagged}
use Rattle.ped_versions.specs.declared.versions.Version.{Version}
use Rattle.ped_versions.specs.declared.versions.Present.{Present}
use Rattle.ped_versions.specs.declared.versions.Entry.{Entry}
use Rattle.ped_versions.specs.declared.versions.Way.{Way}
use Rattle.ped_versions.specs.declared.versions.Way.TheVariants.{Apart, Flag}
use Rattle.ped_versions.specs.States.{Other}

-- the tree of a version
abbrev pub tree_of : Version → ProgramTree
tree_of v = program_tree v.program

-- a version is a valid program with what its names stand for and its printed text
pub record IsVersion (v : Version) : Type 0 where
  pub valid : IsValid (tree_of v)
  pub symbols : v.symbols ≡ table_of (tree_of v)
  pub text : v.text ≡ program_text (tree_of v)

-- the present program is valid, and this is what its names stand for and its graph
pub record IsPresent {L : _} (p : Present L) : Type 0 where
  pub valid : IsValid (program_tree p.program.now)
  pub symbols : p.symbols.now ≡ table_of (program_tree p.program.now)
  pub graph : p.graph.now ≡ held_of (program_tree p.program.now)

-- the source that an entry of the history holds, with the change
abbrev pub other_of : {L : _} → Entry L → Other
other_of e = (e.text, e.change)

-- the program to which a way leads from a program
abbrev pub led_by : {L : _} → Way L → ProgramTree → ProgramTree
led_by (Apart a) t = program_tree a.program
led_by (Flag number parallel) t = flagged t number parallel

-- a way leads from a program: what it holds apart belongs to that one and to the graph; or the same DO with the other flag leads back
abbrev pub IsWay : {L : _} → Way L → ProgramTree → Type 0
IsWay (Apart a) t = (a.symbols ≡ table_of (program_tree a.program)) × TakesTo a.delta (held_of t) (held_of (program_tree a.program))
IsWay (Flag number parallel) t = flagged (flagged t number parallel) number (not parallel) ≡ t

-- an entry leads from a program to a valid one, whose printed text it holds
pub record LeadsFrom {L : _} (t : ProgramTree) (e : Entry L) : Type 0 where
  pub valid : IsValid (led_by e.way t)
  pub text : e.text ≡ program_text (led_by e.way t)
  pub way : IsWay e.way t

-- one after another the entries lead from a program to their programs
abbrev pub Leads : {L : _} → ProgramTree → List (Entry L) → Type 0
Leads t [] = Unit {0}
Leads t (e ∷ es) = LeadsFrom t e × Leads (led_by e.way t) es

-- the graph is that of the present program, and the past and the future can be gone to
pub record IsConsistent {L : _} (present : Version) (graph : Held) (past future : List (Entry L)) : Type 0 where
  pub version : IsVersion present
  pub graph_is : graph ≡ held_of (tree_of present)
  pub past_leads : Leads (tree_of present) past
  pub future_leads : Leads (tree_of present) future
