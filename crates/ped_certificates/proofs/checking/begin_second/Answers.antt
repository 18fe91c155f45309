use Rattle.std.proofs.Common.{ap, ◌∙◌, w32}
use Rattle.std.proofs.lemmas.Int.{to_z-of_z}
use Rattle.ped_certificates.specs.Certificates.{more_than}
use Rattle.ped_certificates.proofs.Ones.{second_fits}
use Rattle.ped_certificates.proofs.checking.begin_second.Goals as goal

pub returns-clause-rows : goal.returns-clause-rows
returns-clause-rows c =
    second_fits c.args.system.now.unknowns c.args.unknown c.args.kept c.args.most c.args.added.now.items c.truncate.new.self.items c.push.new.self.items c.in_ok-row.row
    c.requires.first c.requires.last c.ranges.most c.requires.rows (c.in_ok-row.ensures ∙ ap (more_than c.args.system.now.unknowns c.args.unknown) (to_z-of_z w32 c.args.most c.ranges.most)) c.truncate.ensures.items c.in_ok-push.ensures.items
