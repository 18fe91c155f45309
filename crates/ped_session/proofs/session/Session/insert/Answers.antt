use Rattle.ped_session.proofs.Accepted.{edits_place}
use Rattle.ped_session.proofs.session.Session.insert.Goals as goal

pub returns-clause-most : goal.returns-clause-most
returns-clause-most g c reply next inserts =
    c.splice.ensures.most reply next
    (edits_place c.args.self.now c.source.result.now c.args.after c.args.lines.now reply next c.is_place.result c.is_place.ensures c.if-not-is_place.false c.source.ensures inserts)
