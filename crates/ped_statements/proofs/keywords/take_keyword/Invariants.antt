use Rattle.std.proofs.Common.{◌≡◌, drop}
use Rattle.ped_statements.specs.StatementReading.{first_keyword, keyword_at}
use Rattle.ped_statements.proofs.keywords.take_keyword.Given as goal

abbrev pub invariant-loop-keyword : goal.invariant-loop-keyword
invariant-loop-keyword l = first_keyword (drop l.keyword-index l.keyword-items) l.text ≡ keyword_at l.text
