-- What is known of a valid program: its statements, its loops and its arrays (this project).
use Rattle.std.specs.Prelude.{◌≡◌, ◌≤◌, true}
use Rattle.ped_tree.specs.Tree.{ProgramTree}
use Rattle.ped_tree.specs.Numbering.{statements_count}
use Rattle.ped_tree.specs.Grammar.LimitNumbers.{most_statements, most_loops_nested}
use Rattle.ped_symbols.specs.Kinds.{at_last, kind_in, kinds_of}
use Rattle.ped_symbols.specs.StorageLimits.{most_elements_together, elements_of}
use Rattle.ped_symbols.specs.RightUses.RightUses.{stmts_are_right, saves_are_right}
use Rattle.ped_symbols.specs.RightUses.RightLoops.{loops_deep, steps_are_right}
use Rattle.ped_symbols.specs.RightUses.RightArrays.{arrays_are_right, kinds_are_right, kinds_elements}

-- names occur where names of their kind may occur, in statements and in SAVE; increments have values that they may have; there aren't too many statements, nor loops in one another; arrays have right bounds and not too many elements, whether they are counted by declarations or by names
pub record IsRight (t : ProgramTree) : Type 0 where
  pub statements : stmts_are_right (kind_in t) t.body ≡ true
  pub steps : steps_are_right (at_last t).values t.body ≡ true
  pub nested : loops_deep t.body ≤ most_loops_nested
  pub few_statements : statements_count t.body ≤ most_statements
  pub saved : saves_are_right (kind_in t) t.decls ≡ true
  pub arrays : arrays_are_right (at_last t).arrays ≡ true
  pub kinds : kinds_are_right (kinds_of t) ≡ true
  pub elements : elements_of (at_last t).arrays ≤ most_elements_together
  pub kind_elements : kinds_elements (kinds_of t) ≤ most_elements_together
