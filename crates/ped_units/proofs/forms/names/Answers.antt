use Rattle.std.proofs.Common.{sym}
use Rattle.ped_valid.specs.ped_parse.specs.ped_statements.specs.Listing.{several}
use Rattle.ped_valid.specs.ped_parse.specs.ped_statements.specs.StatementReading.{name_at}
use Rattle.ped_valid.specs.ped_parse.specs.ped_statements.proofs.Pieces.{names_shrink, name_read, name_unread}
use Rattle.ped_valid.specs.ped_parse.specs.ped_statements.proofs.Gathered.{several_more, several_last, several_fails}
use Rattle.ped_units.proofs.forms.names.Goals as goal

pub returns-in_default : goal.returns-in_default
returns-in_default c =
    several_fails name_at names_shrink c.loop-next.names c.loop-next.left.now (several name_at c.args.text.now) c.loop-next.invariant
    (name_unread c.loop-next.left.now c.split_word.result.0.now c.split_word.ensures.front c.in_default.ensures.is)

pub loop-next-preserved : goal.loop-next-preserved
loop-next-preserved c =
    several_more name_at names_shrink c.loop-next.names _ c.in-Some.next c.loop-next.left.now c.split_word.result.1.now c.in-Some-after.behind.now (several name_at c.args.text.now) c.loop-next.invariant
    (name_read c.loop-next.left.now c.split_word.result.0.now c.split_word.result.1.now c.in-Some.next c.split_word.ensures.front c.split_word.ensures.behind c.in-Some.ensures.is)
    (sym c.in-Some-after.ensures.is) c.in_ok-push.ensures.ok

pub returns-in-None : goal.returns-in-None
returns-in-None c =
    several_last name_at names_shrink c.loop-next.names _ c.in-Some.next c.loop-next.left.now c.split_word.result.1.now (several name_at c.args.text.now) c.loop-next.invariant
    (name_read c.loop-next.left.now c.split_word.result.0.now c.split_word.result.1.now c.in-Some.next c.split_word.ensures.front c.split_word.ensures.behind c.in-Some.ensures.is)
    (sym c.in-None.ensures.is) c.in_ok-push.ensures.ok
