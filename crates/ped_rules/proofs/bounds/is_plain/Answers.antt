use Rattle.std.proofs.Common.{ℕ, List, [], length, ◌≤◌, sym, ap, ◌∙◌, subst}
use Rattle.ped_tree.specs.Names.Collecting.{with_names}
use Rattle.ped_tree.specs.NamesIn.{all_loop_variables}
use Rattle.ped_tree.specs.Numbering.{statement_with}
use Rattle.ped_tree.specs.Views.{expr_tree, program_tree, stmt_trees}
use Rattle.ped_tree.specs.declared.statements.Stmt.{Stmt}
use Rattle.ped_rules.proofs.NestDepths.{loops_short}
use Rattle.ped_rules.proofs.OutermostLoops.{outermost_loop}
use Rattle.ped_loop_runs.specs.ped_steps.proofs.Answering.{few_numbers}
use Rattle.ped_loop_runs.specs.ped_flow.specs.PlainBounds.{outermost_or, assigned_by}
use Rattle.ped_loop_runs.specs.ped_flow.specs.Questions.{LoopOf}
use Rattle.ped_refs.specs.Loops.{nest_of}
use Rattle.ped_refs.specs.declared.loops.Loop.{Loop as CodeLoop}
use Rattle.ped_loop_runs.specs.ped_symbols.specs.Kinds.{Table}
use Rattle.ped_rules.proofs.HeadLaws.PlainPlaces.{few_there, round_there, variables_there, assigned_there, told_there}
use Rattle.ped_rules.proofs.bounds.is_plain.Goals as goal

pub loops_round-requires : goal.loops_round-requires
loops_round-requires g c = few_numbers (program_tree c.args.scene.now.tree.now) c.requires.scene.valid

pub assigned_round-requires : goal.assigned_round-requires
assigned_round-requires g c =
    let t = program_tree c.args.scene.now.tree.now in
    let n = c.args.number in
    let number = c.outermost_or.ensures ∙ ap (outermost_or n) (ap nest_of c.deref-2.ensures.value ∙ c.in_ok-round.ensures) in
    subst (λ (m : ℕ). LoopOf t m) (sym number) (outermost_loop t n c.requires.is)

pub is_plain_there-requires-clause-placed : goal.is_plain_there-requires-clause-placed
is_plain_there-requires-clause-placed g c =
    let t = program_tree c.args.scene.now.tree.now in
    let u = program_tree c.args.scene.now.flow.now.program.now in
    let n = c.args.number in
    let flow = c.requires.scene.flow in
    let number = c.outermost_or.ensures ∙ ap (outermost_or n) (ap nest_of c.deref-2.ensures.value ∙ c.in_ok-round.ensures) in
    record {
      few = few_there t u flow c.requires.scene.valid;
      round = round_there t u flow n (nest_of c.deref-3.result.now) (ap nest_of c.deref-3.ensures.value ∙ c.in_ok-round.ensures);
      variables = variables_there t u flow c.in_ok-variables.variables (c.in_ok-variables.ensures ∙ ap (λ (ss : List Stmt). with_names [] (all_loop_variables (stmt_trees ss))) c.deref.ensures.value);
      assigned = assigned_there t u flow n c.in_ok-changed.changed (c.in_ok-changed.ensures ∙ ap (λ (m : ℕ). with_names [] (assigned_by (statement_with m t))) number);
    }

pub is_plain_there-requires-clause-short : goal.is_plain_there-requires-clause-short
is_plain_there-requires-clause-short g c =
    subst (λ (ls : List CodeLoop). length ls ≤ 6) (sym c.deref-3.ensures.value) (loops_short (program_tree c.args.scene.now.tree.now) c.args.number c.in_ok-round.round.items c.requires.scene.valid c.in_ok-round.ensures)

pub returns : goal.returns
returns g c =
    let t = program_tree c.args.scene.now.tree.now in
    told_there t (program_tree c.args.scene.now.flow.now.program.now) c.requires.scene.flow c.consts.result.now (c.consts.ensures ∙ ap (λ (k : Table). k.constants) c.requires.scene.symbols) c.args.number (expr_tree c.args.bound.now)
    c.is_plain_there.result c.is_plain_there.ensures
