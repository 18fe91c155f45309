-- The plain item that an item of the code stands for (this project).
use Rattle.std.specs.Prelude.{[], Option, Some, None}
use Rattle.ped_tree.specs.Tree.{Head, StmtTrees, no_stmts, more_stmts}
use Rattle.ped_tree.specs.Views.{expr_tree, cond_tree, stmt_tree, decl_tree}
use Rattle.ped_tree.specs.Grammar.Items as plain
use Rattle.ped_tree.specs.declared.statements.Stmt.{Stmt}
use Rattle.ped_tree.specs.declared.grammar.items.DoStatement.{DoStatement}
use Rattle.ped_tree.specs.Grammar.StatementViews.{statement_of}
use Rattle.ped_tree.specs.declared.grammar.items.Entry.{Entry}
use Rattle.ped_tree.specs.declared.grammar.items.Item.{Item}
use Rattle.ped_tree.specs.declared.grammar.items.Item.TheVariants as item
use Rattle.ped_tree.specs.declared.grammar.items.StatementReading.{StatementReading}
use Rattle.ped_tree.specs.declared.grammar.items.StatementReading.TheVariants as reading

-- the head of a DO statement, without private and rejected names
abbrev pub do_head : DoStatement → Head
do_head d = record {
  variable = d.variable;
  first = expr_tree d.first;
  last = expr_tree d.last;
  step = expr_tree d.step;
  parallel = d.parallel;
  private = [];
  rejected = [];
}

-- the statement after a logical IF
abbrev pub behind_logical : Option Stmt → StmtTrees
behind_logical None = no_stmts
behind_logical (Some s) = more_stmts (stmt_tree s) no_stmts

-- the plain item
abbrev pub item_of : Item → plain.Item
item_of (item.Declaration d) = plain.declares (decl_tree d)
item_of item.SaveAll = plain.saves_all
item_of (item.Simple s) = plain.does (stmt_tree s)
item_of item.Continue = plain.continues
item_of (item.LogicalIf c s) = plain.logical_if (cond_tree c) (behind_logical s)
item_of (item.BlockIf c) = plain.block_if (cond_tree c)
item_of (item.ElseIf c) = plain.else_if (cond_tree c)
item_of item.Else = plain.else_line
item_of item.EndIf = plain.end_if
item_of (item.Do d) = plain.begins_do d.label (do_head d)
item_of item.EndDo = plain.ends_do
item_of (item.Private names) = plain.keeps_private names
item_of item.End = plain.ends_program

-- what a text is, as plain data
abbrev pub reading_of : StatementReading → plain.Reading
reading_of (reading.Says i) = plain.says (item_of i)
reading_of reading.OutsideProfile = plain.outside_profile
reading_of reading.NoForm = plain.no_form

-- a statement of a text with what it says
abbrev pub entry_of : Entry → plain.Entry
entry_of e = record { statement = statement_of e.statement; reading = reading_of e.reading }
