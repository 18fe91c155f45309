use Rattle.std.proofs.Common.{rules, ◌≡◌, Some, None, ap, ◌∙◌}
use Rattle.std.specs.Map.{lookup}
use Rattle.ped_base.specs.contracts.identifiers.NamePartialEq.TheImpl as code
use Rattle.ped_links.specs.ped_units.specs.Expanding.{name_or}
use Rattle.ped_links.proofs.Meant.{meant}
use Rattle.ped_calls.proofs.replacing.Meanings.name_of.Goals as goal

pub returns-in-Some : goal.returns-in-Some
returns-in-Some c =
    let found : lookup ((code.eq-value).it c.args.name.now) c.args.self.now.exprs.entries ≡ Some c.in-Some.e.now = search rules in
    c.name_or.ensures ∙ ap (name_or c.args.name.now) (meant c.args.self.now.exprs.entries c.args.name.now (Some c.in-Some.e.now) found)

pub returns-in-None : goal.returns-in-None
returns-in-None c =
    let found : lookup ((code.eq-value).it c.args.name.now) c.args.self.now.exprs.entries ≡ None = search rules in
    ap (name_or c.args.name.now) (meant c.args.self.now.exprs.entries c.args.name.now None found)
