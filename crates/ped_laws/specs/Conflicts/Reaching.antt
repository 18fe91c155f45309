-- Iterations that a run of a program reaches, and the stores of an execution of an outermost DO (ANSI X3.9-1978, section 11.10; this project).
use Rattle.std.specs.Prelude.{◌≡◌, ◌≤◌, ℕ, List, [], ◌∷◌, ◌++◌, true, false, None, Some, Ok}
use Rattle.std.specs.List.{list_all}
use Rattle.ped_flow.specs.ped_base.specs.Lists.{is_among}
use Rattle.ped_flow.specs.ped_tree.specs.Tree.{StmtTrees, Do, ProgramTree}
use Rattle.ped_flow.specs.ped_tree.specs.Nests.{Loop}
use Rattle.ped_flow.specs.ped_tree.specs.Numbering.{statement_with}
use Rattle.ped_flow.specs.ped_tree.specs.Grammar.Words.{is_name}
use Rattle.ped_graph.specs.ped_symbols.specs.Kinds.{kind_in}
use Rattle.ped_eval.specs.ped_store.specs.Cells.{Scalar}
use Rattle.ped_eval.specs.ped_store.specs.Stores.{Store}
use Rattle.ped_graph.specs.ped_symbols.specs.RightUses.RightUses.{is_scalar}
use Rattle.ped_graph.specs.ped_symbols.specs.RightUses.RightLoops.{step_is_right}
use Rattle.ped_eval.specs.Scopes.{Frame, Scope, names_in, index_value}
use Rattle.ped_eval.specs.Evaluation.{Seen}
use Rattle.ped_eval.specs.Loops.{Limits, limits, entered_with, frame}
use Rattle.ped_eval.specs.Outcomes.{setting_of}
use Rattle.ped_flow.specs.ped_affine.specs.Ranges.{Setting}
use Rattle.ped_laws.specs.Covering.Within.{HoldsStorable}

-- a store in an execution of an outermost DO that began with the first store: elements and scalars that are the variable of no DO hold storable numbers alone, and scalars that the outermost DO doesn't assign hold what they held at first (ANSI X3.9-1978, sections 4.3, 11.10; this project)
pub record IsStoreIn (s : Setting) (first u : Store) : Type 0 where
  pub storable : HoldsStorable s.loop_variables u
  pub constant : (x : List ℕ) → is_among x s.assigned ≡ false → u (Scalar x) ≡ first (Scalar x)

-- an iteration of a DO of the program that a run has entered in these iterations around it: its bounds were evaluated in a store of the execution, and it is one of its iterations (ANSI X3.9-1978, sections 11.10.3 to 11.10.7; this project)
pub record IsEntered (t : ProgramTree) (s : Setting) (first : Store) (outer : Scope) (l : Loop) (f : Frame) : Type 0 where
  pub body : StmtTrees
  pub stands : statement_with l.number t ≡ Some (Do l.head body)
  pub step : step_is_right (setting_of t).constants l.head.step ≡ true
  pub private : list_all (is_scalar (kind_in t)) l.head.private ≡ true
  pub named : list_all is_name l.head.private ≡ true
  pub other : index_value outer l.head.variable ≡ None
  pub store : Store
  pub within : IsStoreIn s first store
  pub seen : List Seen
  pub bounds : Limits
  pub comes : (limits (names_in (setting_of t) outer) l.head store).result ≡ Ok bounds
  pub turn : ℕ
  pub from : 1 ≤ turn
  pub to : turn ≤ (entered_with (setting_of t) l.number l.head body seen bounds).count
  pub is : f ≡ frame (entered_with (setting_of t) l.number l.head body seen bounds) turn

-- a run has reached these iterations, the innermost first, one in the other; they are of the DO loops of this nest, the outermost first (ANSI X3.9-1978, section 11.10; this project)
abbrev pub Reached : ProgramTree → Setting → Store → List Loop → Scope → Type 0
Reached t s first nest [] = nest ≡ []
Reached t s first nest (f ∷ outer) = (around : List Loop) × (l : Loop) × (nest ≡ around ++ l ∷ []) × IsEntered t s first outer l f × Reached t s first around outer
