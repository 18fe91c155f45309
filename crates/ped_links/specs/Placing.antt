-- What a walk over the statements of a unit finds at its CALLs and at its PRIVATE statements, as the code keeps it (this project).
use Rattle.std.specs.Prelude.{◌≡◌, ℕ, List, [], ◌∷◌, ◌++◌, map, length, drop, Option, Some, None, if◌then◌else◌}
use Rattle.std.specs.List.{flat_map, list_any}
use Rattle.ped_tree.specs.Tree.{ExprTree, Var, Head}
use Rattle.ped_tree.specs.Accesses.{listed}
use Rattle.ped_tree.specs.Grammar.ProgramRefusals.{meets}
use Rattle.ped_units.specs.ped_valid.specs.ped_symbols.specs.NameRefusals.{next_line}
use Rattle.ped_units.specs.ped_valid.specs.ped_symbols.specs.Sites.{Site, declaration, statement, private_names}
use Rattle.ped_units.specs.Forms.{Called}
use Rattle.ped_units.specs.Linking.{Placed}
use Rattle.ped_links.specs.declared.placing.Around.{Around}
use Rattle.ped_links.specs.declared.placing.PlacedCall.{PlacedCall}
use Rattle.ped_links.specs.declared.placing.Found.{Found}

-- what is known of the loops around a statement, the outermost first
abbrev pub around_of : List Head → Around
around_of loops = record {
  variables = map (λ (h : Head). h.variable) loops;
  private = flat_map (λ (h : Head). h.private) loops;
  parallel = list_any (λ (h : Head). h.parallel) loops;
}

-- the name that an argument is, where it is one
abbrev pub argument_name : ExprTree → Option (List ℕ)
argument_name (Var x) = Some x
argument_name e = None

-- the CALL, where there is one, at this line and with these loops around it
abbrev pub call_here : Around → ℕ → Option Called → List PlacedCall
call_here around line None = []
call_here around line (Some c) = (record { line = line; name = c.name; arguments = map argument_name (listed c.arguments); around = around }) ∷ []

-- a CALL at its place as the code keeps it
abbrev pub placed_call : Placed → PlacedCall
placed_call p = record { line = p.line; name = p.called.name; arguments = map argument_name (listed p.called.arguments); around = around_of p.loops }

-- the line of a PRIVATE statement that names one of these
abbrev pub private_line : List (List ℕ) → ℕ → Site → List ℕ
private_line formals line (declaration d) = []
private_line formals line (statement s) = []
private_line formals line (private_names names) = if meets names formals then line ∷ [] else []

-- the lines of the PRIVATE statements among sites that name one of these
abbrev pub private_lines : List (List ℕ) → List ℕ → List Site → List ℕ
private_lines formals lines [] = []
private_lines formals lines (s ∷ rest) = private_line formals (next_line lines) s ++ private_lines formals (drop 1 lines) rest

-- a walk goes over these sites, and finds these CALLs: from what was found and the lines to come before it to what is found and the lines to come after it
pub record Passes (formals : List (List ℕ)) (sites : List Site) (more : List PlacedCall) (found : Found) (lines : List ℕ) (found_now : Found) (lines_now : List ℕ) : Type 0 where
  pub over : lines_now ≡ drop (length sites) lines
  pub calls : found_now.calls.items ≡ found.calls.items ++ more
  pub private : found_now.private.items ≡ found.private.items ++ private_lines formals lines sites
