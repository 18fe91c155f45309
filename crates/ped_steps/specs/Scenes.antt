-- What a step is given (ParaScope; this project).
use Rattle.std.specs.Prelude.{◌≡◌}
use Rattle.ped_tree.specs.Tree.{ProgramTree}
use Rattle.ped_tree.specs.Views.{program_tree}
use Rattle.ped_weaves.specs.ped_graph.specs.ped_symbols.specs.Kinds.{table_of}
use Rattle.ped_weaves.specs.ped_graph.specs.ped_symbols.specs.NameRefusals.{IsValid}
use Rattle.ped_weaves.specs.ped_graph.specs.Held.{held_of}
use Rattle.ped_weaves.specs.ped_flow.specs.declared.flows.Flow.{Flow}
use Rattle.ped_steps.specs.declared.scenes.Scene.{Scene}

-- the flow is that of the scalars of this program (this project)
abbrev pub IsFlowOf : ProgramTree → Flow → Type 0
IsFlowOf t flow = program_tree flow.program.now ≡ t

-- a step is given this valid program, what its names stand for, its dependences and the flow of its scalars (ParaScope; this project)
pub record IsSceneOf {L : _} (t : ProgramTree) (scene : Scene L) : Type 0 where
  pub tree : program_tree scene.tree.now ≡ t
  pub valid : IsValid t
  pub symbols : scene.symbols.now ≡ table_of t
  pub graph : scene.graph.now ≡ held_of t
  pub flow : IsFlowOf t scene.flow.now
