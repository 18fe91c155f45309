use Rattle.ped_session.proofs.Accepted.{edits_lines}
use Rattle.ped_session.proofs.session.Session.replace.Goals as goal

pub returns-clause-most : goal.returns-clause-most
returns-clause-most g c reply next replaces =
    c.splice.ensures.most reply next
    (edits_lines c.args.self.now c.source.result.now c.args.first c.args.last c.args.lines.now reply next c.are_lines.result c.are_lines.ensures c.if-not-are_lines.false c.source.ensures replaces)
