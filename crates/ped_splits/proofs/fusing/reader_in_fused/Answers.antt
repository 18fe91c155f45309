use Rattle.std.proofs.Common.{ℕ, ◌+◌, ◌<◌, ◌^◌, Option, Some, None, sym, ap, subst, ◌∙◌, arith}
use Rattle.ped_tree.specs.Views.{program_tree, stmt_trees}
use Rattle.ped_tree.specs.Numbering.{statements_count}
use Rattle.ped_tree.specs.Tree.{ProgramTree}
use Rattle.ped_rules.specs.ped_flow.specs.Answers.{IsEscape}
use Rattle.ped_rules.specs.ped_flow.specs.declared.flows.Reader.{Reader}
use Rattle.ped_rules.specs.ped_flow.specs.declared.flows.Reader.TheVariants.{Saved}
use Rattle.ped_rules.specs.ped_flow.specs.Questions.{IsFirst}
use Rattle.ped_rules.specs.KeepMaps.{opened_at}
use Rattle.ped_splits.specs.CodeFusing.{IsBrokenInNew}
use Rattle.ped_splits.proofs.EventNumbers.{broken_within}
use Rattle.ped_splits.proofs.FuseReaders.{escape_reader, new_statement, new_none}
use Rattle.ped_splits.proofs.fusing.reader_in_fused.Goals as goal

pub escapes-requires : goal.escapes-requires
escapes-requires c = subst (λ (u : ProgramTree). statements_count u.body + 1 < 2 ^ 32) (sym c.in_ok-flow.ensures) c.requires.few

pub opened_at-requires : goal.opened_at-requires
opened_at-requires c =
    let u = program_tree c.args.tree.now in
    let first = subst (λ (v : ProgramTree). IsEscape v c.args.pair.now.number c.escapes.result) c.in_ok-flow.ensures c.escapes.ensures in
    let broken = subst (λ (r : Option Reader). IsEscape u c.args.pair.now.number r) (c.in-Some-Statement.is ∙ ap (λ (k : Reader). Some k) c.in-Some-Statement.field-0-is) first in
    let within = broken_within u c.args.pair.now.number c.in-Some-Statement.statement broken.0 in
    let few = c.requires.few in
    omega (arith, within, few)

pub returns-in-Some-Statement : goal.returns-in-Some-Statement
returns-in-Some-Statement c =
    let u = program_tree c.args.tree.now in
    let p = c.args.pair.now in
    let s = p.number in
    let m = s + 1 + statements_count (stmt_trees p.own.now.body.items) in
    let n = c.in-Some-Statement.statement in
    let first = subst (λ (v : ProgramTree). IsEscape v s c.escapes.result) c.in_ok-flow.ensures c.escapes.ensures in
    let broken = subst (λ (r : Option Reader). IsEscape u s r) (c.in-Some-Statement.is ∙ ap (λ (k : Reader). Some k) c.in-Some-Statement.field-0-is) first in
    let same = c.opened_at.ensures ∙ ap (λ (k : ℕ). opened_at k n) c.next_number.ensures in
    subst (λ (k : ℕ). IsFirst (IsBrokenInNew u s m) (Some k)) (sym same) (new_statement u s m n broken)

pub returns-in-Some-Saved : goal.returns-in-Some-Saved
returns-in-Some-Saved c =
    let u = program_tree c.args.tree.now in
    let p = c.args.pair.now in
    let s = p.number in
    let m = s + 1 + statements_count (stmt_trees p.own.now.body.items) in
    let first = subst (λ (v : ProgramTree). IsEscape v s c.escapes.result) c.in_ok-flow.ensures c.escapes.ensures in
    let saved = escape_reader u s (Some Saved) (subst (λ (r : Option Reader). IsEscape u s r) (c.in-Some-Saved.is ∙ ap (λ (k : Reader). Some k) c.in-Some-Saved.field-0-is) first) in
    (new_none u s m saved.0, saved.1)

pub returns-in-None : goal.returns-in-None
returns-in-None c =
    let u = program_tree c.args.tree.now in
    let p = c.args.pair.now in
    let s = p.number in
    let m = s + 1 + statements_count (stmt_trees p.own.now.body.items) in
    let first = subst (λ (v : ProgramTree). IsEscape v s c.escapes.result) c.in_ok-flow.ensures c.escapes.ensures in
    let none = escape_reader u s None (subst (λ (r : Option Reader). IsEscape u s r) c.in-None.is first) in
    (new_none u s m none.0, none.1)
