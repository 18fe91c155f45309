use Rattle.std.proofs.Common.{◌≡◌, ℕ, List, [], Bool, true, false, not, Option, Some, None, is_some, refl, ap, ◌∙◌}
use Rattle.std.specs.Prelude.{is_none}
use Rattle.ped_tree.specs.Views.{program_tree, stmt_trees, expr_tree}
use Rattle.ped_tree.specs.declared.statements.Stmt.{Stmt}
use Rattle.ped_tree.specs.NamesIn.{all_loop_variables}
use Rattle.ped_tree.specs.Names.Collecting.{with_names}
use Rattle.ped_tree.proofs.NameLaws.Collected.{among_collected}
use Rattle.ped_base.specs.Lists.{is_among}
use Rattle.ped_views.specs.declared.intervals.Interval.{Interval}
use Rattle.ped_affine.specs.PairViews.{heads_of}
use Rattle.ped_refs.specs.Loops.{nest_of}
use Rattle.ped_loop_runs.specs.ped_symbols.specs.Kinds.{Table}
use Rattle.ped_rules.specs.Rules.{setting_at}
use Rattle.ped_rules.proofs.SameIntervals.{same_in_loops}
use Rattle.ped_rules.proofs.intervals.leaves.Goals as goal

none_where : (o : Option Interval) (r : Bool) → is_some o ≡ not r → r ≡ is_none o
none_where None true e = refl
none_where None false e = e
none_where (Some v) true e = e
none_where (Some v) false e = refl

pub returns : goal.returns
returns g c s =
    let t = program_tree c.args.scene.now.tree.now in
    let names : (x : List ℕ) → is_among x c.in_ok-variables.variables ≡ is_among x (all_loop_variables t.body) = λ x. ap (is_among x) c.in_ok-variables.ensures ∙ ap (λ (ss : List Stmt). is_among x (with_names [] (all_loop_variables (stmt_trees ss)))) c.deref.ensures.value ∙ among_collected x [] (all_loop_variables t.body) in
    none_where c.interval.result c.is_none.result c.is_none.ensures
    ∙ ap (λ (o : Option Interval). is_none o) (c.interval.ensures ∙ same_in_loops _ (setting_at t s) (record { constants = c.consts.ensures ∙ ap (λ (k : Table). k.constants) c.requires.scene.symbols; variables = names }) (heads_of (nest_of c.args.nest.now)) (expr_tree c.args.e.now))
