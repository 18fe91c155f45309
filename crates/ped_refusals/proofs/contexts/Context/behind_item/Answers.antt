use Rattle.std.proofs.Common.{◌≡◌, ℕ, ◌+◌, rules, sym, arith}
use Rattle.ped_tree.specs.Grammar.Contexts as Spec
use Rattle.ped_tree.specs.Grammar.ItemViews.{item_of}
use Rattle.ped_print.specs.Lengths.{limited}
use Rattle.ped_refusals.proofs.contexts.Context.behind_item.Goals as goal

-- more statements than 64 bits hold stay as many
counted : (before n own sum : ℕ) → own ≡ limited n → sum ≡ limited (before + own) → limited (before + n) ≡ limited sum
counted before n own sum h k = omega arith

pub returns : goal.returns
returns c = record {
  phase = search rules;
  blocks = sym c.in_ok-take_on.ensures;
  statements = counted c.args.self.statements (Spec.numbered_in (item_of c.args.item.now)) c.numbered_in.result c.saturating_add.result c.numbered_in.ensures c.saturating_add.ensures;
  constants = λ x. sym (c.in_ok-add_constants.ensures x);
  saves_names = search rules;
  saves_everything = search rules;
  behind_do = sym c.is_do.ensures;
}
