-- What the code knows of a program before it tests pairs (this project).
use Rattle.std.specs.Prelude.{◌≡◌, ℕ, ℤ, ◌-◌, ◌≤◌, ◌==◌, List, [], map, length, Bool, Option, Some, None, option_map, slice_get, All, if◌then◌else◌}
use Rattle.std.specs.List.{range_with_len}
use Rattle.std.specs.Borrow.{Bor}
use Rattle.ped_tree.specs.Tree.{StmtTree, ProgramTree}
use Rattle.ped_tree.specs.Views.{stmt_tree, program_tree}
use Rattle.ped_tree.specs.Numbering.{all_numbered, at_place, statement_with}
use Rattle.ped_tree.specs.Nests.{Loop}
use Rattle.ped_tree.specs.declared.statements.Stmt.{Stmt}
use Rattle.ped_symbols.specs.Kinds.{table_of}
use Rattle.ped_tree.specs.Names.Collecting.{with_names}
use Rattle.ped_refs.specs.References.{Reference, outermost, private_loop}
use Rattle.ped_refs.specs.Occurrences.{reference_of}
use Rattle.ped_refs.specs.declared.occurring.Occurrence.{Occurrence}
use Rattle.ped_tree.specs.NamesIn.{all_loop_variables}
use Rattle.ped_graph.specs.declared.sides.Side.{Side}
use Rattle.ped_graph.specs.Sides.{IsSide}
use Rattle.ped_graph.specs.Guards.{guards}
use Rattle.ped_graph.specs.Marks.{is_firm, rejects}
use Rattle.ped_graph.specs.Owners.{owner_level}
use Rattle.ped_graph.specs.declared.own_facts.OwnFacts.{OwnFacts}
use Rattle.ped_graph.specs.Dependences.{assigned_by, setting_in, site_of}
use Rattle.ped_graph.specs.declared.preparing.Known.{Known}
use Rattle.ped_graph.specs.declared.preparing.Round.{Round}

-- numbered statements by their trees
abbrev pub trees_of : List (Bor Stmt) → List StmtTree
trees_of statements = map (λ s. stmt_tree s.now) statements

-- the statement with this number, where these are the numbered statements
abbrev pub found_with : ℕ → List StmtTree → Option StmtTree
found_with number statements = if number == 0 then None else at_place statements (number - 1)

-- for each of six places whether the loop there rejects the name
abbrev pub rejecting_places : List ℕ → List Loop → List Bool
rejecting_places x nest = map (λ n. rejects x (slice_get nest n)) (range_with_len 0 6)

-- what is known of a reference by itself: whether constants alone decide that it is reached, the DO to which it belongs, by its number and its level, and which loops around it reject its variable
abbrev pub own_of : List (List ℕ × ℤ) → List Bool → Reference → OwnFacts
own_of constants guards r = record {
  firm = is_firm constants guards r;
  owner = option_map (λ (l : Loop). l.number) (private_loop r);
  level = owner_level r;
  rejecting = rejecting_places r.access.name r.nest;
}

-- the named constants, the variables of the DO loops, the numbered statements, and what is known of each reference, which few loops enclose
pub record IsKnown (k : Known) : Type 0 where
  pub constants : k.consts.now ≡ (table_of (program_tree k.program.now)).constants
  pub loop_variables : k.loop_variables.now ≡ with_names [] (all_loop_variables (program_tree k.program.now).body)
  pub statements : trees_of k.statements.now ≡ all_numbered (program_tree k.program.now).body
  pub own : k.own.now ≡ map (λ (o : Occurrence). own_of k.consts.now (guards (program_tree k.program.now)) (reference_of o)) k.found.now
  pub shallow : All (λ (o : Occurrence). length o.nest.items ≤ 6) k.found.now

-- what the DO with this number assigns
abbrev pub IsRound : ProgramTree → Round → Type 0
IsRound t r = r.assigned ≡ with_names [] (assigned_by (statement_with r.number t))

-- the references of a program as sides of their pairs, one after the other
abbrev pub AreSides : ProgramTree → List Reference → List Side → Type 0
AreSides t refs sides = (n : ℕ) (r : Reference) (w : Side) → slice_get refs n ≡ Some r → slice_get sides n ≡ Some w → IsSide (setting_in t (outermost r)) (site_of r) w
