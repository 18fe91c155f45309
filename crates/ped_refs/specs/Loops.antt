-- The DO loops that the code keeps, by those of the tree (ANSI X3.9-1978, section 11.10).
use Rattle.std.specs.Prelude.{List, map}
use Rattle.ped_tree.specs.Views.{head_of}
use Rattle.ped_tree.specs.Nests.{Loop}
use Rattle.ped_refs.specs.declared.loops.Loop.{Loop as CodeLoop}

-- a DO around a statement
abbrev pub loop_of : CodeLoop → Loop
loop_of l = record { number = l.number; head = head_of l.statement.now }

-- the DO loops around a statement, the outermost first
abbrev pub nest_of : List CodeLoop → List Loop
nest_of loops = map loop_of loops
