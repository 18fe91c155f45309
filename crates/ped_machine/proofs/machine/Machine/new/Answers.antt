-- A machine before the first step.
use Rattle.std.proofs.Common.{List, [], Option, refl, sym, ap, subst, ◌∙◌}
use Rattle.std.specs.Str.Lines.{lines}
use Rattle.ped_tree.specs.Views.{program_tree, stmt_trees}
use Rattle.ped_store.specs.Keeping.{memory_of}
use Rattle.ped_interleavings.specs.ped_eval.specs.Scopes.{Scope}
use Rattle.ped_interleavings.specs.ped_eval.proofs.RunOutcomes.{can_run_from, ready_from}
use Rattle.ped_machine.specs.declared.opens.Open.{Open}
use Rattle.ped_machine.specs.Parts.{Part, parts_left, CanGo}
use Rattle.ped_machine.specs.Rests.{rest_left, IfOpened}
use Rattle.ped_machine.specs.Levels.{level_base}
use Rattle.ped_machine.specs.Roots.{Outermost, outermost_left, IsOutermostSound}
use Rattle.ped_machine.proofs.Resting.{none_inner}
use Rattle.ped_machine.proofs.machine.Machine.new.Goals as goal

pub returns-clause-safe : goal.returns-clause-safe
returns-clause-safe c =
    let t = program_tree c.args.program.now in
    let table = c.args.symbols.now in
    let scope = c.in_ok-state.state.scope in
    let m = memory_of c.in_ok-state.state.store in
    record {
      table = c.requires.symbols;
      right = record {
        ready = ready_from table scope m (lines c.args.input.now) c.in_ok-state.ensures.scope c.in_ok-state.ensures.memory;
        sound = record {
          parts =
              subst (λ (ps : List Part). CanGo table ps scope) (sym c.in_ok-rest.ensures.parts)
              (can_run_from t table scope (stmt_trees c.args.program.now.body.items) (c.right_where_valid.ensures t c.requires.valid) c.requires.symbols c.in_ok-state.ensures.scope refl, tt);
          inner = subst (λ (o : Option (Open Outermost)). IfOpened outermost_left level_base IsOutermostSound scope o table m.stands) (sym c.in_ok-rest.ensures.inner) tt;
        };
      };
    }

pub returns-clause-stands : goal.returns-clause-stands
returns-clause-stands c choices =
    let rest = c.in_ok-rest.rest in
    let left =
    ap (λ (z : Scope). rest_left outermost_left z rest) c.in_ok-state.ensures.scope ∙ none_inner outermost_left [] rest c.in_ok-rest.ensures.inner
    ∙ ap (λ (ps : List Part). parts_left ps []) c.in_ok-rest.ensures.parts in
    λ i. record { left = left i; choices = choices; store = (c.in_ok-state.ensures.memory i).cells }
