use Rattle.ped_statements.specs.declared.keywords.Keyword.TheVariants as keyword
use Rattle.ped_statements.specs.StatementReading.{all_keywords, keyword_at}
use Rattle.ped_statements.proofs.FirstKeyword.{keyword_fails, keyword_found}
use Rattle.ped_statements.proofs.keywords.take_keyword.Goals as goal

pub loop-keyword-preserved : goal.loop-keyword-preserved
loop-keyword-preserved c = keyword_fails all_keywords c.loop-keyword.keyword-index keyword.Program c.args.text.now c.word.result.now (keyword_at c.args.text.now) c.loop-keyword-test.true c.loop-keyword.invariant c.word.ensures c.in_default.ensures.is

pub returns-in-Some : goal.returns-in-Some
returns-in-Some c = keyword_found all_keywords c.loop-keyword.keyword-index keyword.Program c.args.text.now c.word.result.now c.in-Some.rest.now (keyword_at c.args.text.now) c.loop-keyword-test.true c.loop-keyword.invariant c.word.ensures c.in-Some.ensures.is
