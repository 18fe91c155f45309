use Rattle.ped_session.proofs.KeptMeanings.{as_before, truly_before}
use Rattle.ped_session.proofs.laws.interleavings_keep_the_meaning.Goals as goal

pub returns-clause-trusted : goal.returns-clause-trusted
returns-clause-trusted c = λ s earlier t u d choices o kept comes from to trusted free is.
    as_before c.interleavings_agree.ensures c.lowering_keeps_the_meaning.ensures s d choices u o kept to is earlier t comes from trusted free

pub returns-clause-true_on : goal.returns-clause-true_on
returns-clause-true_on c = λ s earlier t u d choices o kept comes from to none free is. truly_before c.interleavings_agree.ensures s d choices u o kept to is earlier t u comes from to none free
