use Rattle.std.proofs.Common.{List, ◌∙◌, ap, sym, subst, IfOk}
use Rattle.std.specs.List.{AllByRecursion}
use Rattle.ped_script.specs.Items.{commands_of}
use Rattle.ped_script.specs.declared.items.Item.{Item}
use Rattle.ped_answer.specs.declared.tallies.Tally as code
use Rattle.ped_answer.specs.Generated.{Applies}
use Rattle.ped_answer.specs.Tallies.{IsNoAuto, first_count, Counts}
use Rattle.ped_answer.proofs.MadeScripts.{no_auto}
use Rattle.ped_answer.proofs.reporting.apply_script.Goals as goal

pub apply_items-requires : goal.apply_items-requires
apply_items-requires g c =
    subst (AllByRecursion IsNoAuto) (sym (c.as_slice-2.ensures ∙ c.in_ok-items.ensures ∙ ap commands_of (c.as_slice.ensures ∙ c.in_ok-script.ensures))) (no_auto c.args.size)

pub returns-clause-applies : goal.returns-clause-applies
returns-clause-applies g c =
    subst (λ (items : List Item). IfOk c.apply_items.result (λ (tally : code.Tally). Counts (Applies items) c.args.session.now c.apply_items.new.session (first_count c.args.session.now.tested) tally c.args.steps.now c.apply_items.new.steps))
    (c.as_slice-2.ensures ∙ c.in_ok-items.ensures ∙ ap commands_of (c.as_slice.ensures ∙ c.in_ok-script.ensures)) c.apply_items.ensures.applies

pub returns-clause-most : goal.returns-clause-most
returns-clause-most g c = λ tally last applies.
    c.apply_items.ensures.most tally last (subst (λ (items : List Item). Applies items c.args.session.now tally last) (sym (c.as_slice-2.ensures ∙ c.in_ok-items.ensures ∙ ap commands_of (c.as_slice.ensures ∙ c.in_ok-script.ensures))) applies)
