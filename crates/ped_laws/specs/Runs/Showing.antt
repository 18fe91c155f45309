-- What a program shows of its store at the end (this project).
use Rattle.std.specs.Prelude.{Bool, true, false}
use Rattle.ped_flow.specs.ped_base.specs.Lists.{is_among}
use Rattle.ped_flow.specs.ped_tree.specs.Tree.{ProgramTree}
use Rattle.ped_eval.specs.ped_store.specs.Cells.{Cell, Scalar, Element, Private, In, Out}
use Rattle.ped_eval.specs.Outcomes.{live_names}

-- the cells that are shown at the end of a program: the output, and the cells of its live-out variables (ANSI X3.9-1978, section 8.9; this project)
abbrev pub shown_at_end : ProgramTree → Cell → Bool
shown_at_end t (Scalar x) = is_among x (live_names t)
shown_at_end t (Element x subscripts) = is_among x (live_names t)
shown_at_end t (Private x iterations) = false
shown_at_end t In = false
shown_at_end t Out = true
