-- Lines of evidence as scripts give them (this project).
use Rattle.std.specs.Prelude.{ℕ, List, [], ◌∷◌, Bool, false}
use Rattle.ped_certificates.specs.declared.claims.Sign.{Sign}
use Rattle.ped_certificates.specs.declared.claims.Position.{Position}
use Rattle.ped_certificates.specs.declared.claims.Claim.{Claim as GivenClaim}
use Rattle.ped_certificates.specs.declared.claims.EvidenceLine.{EvidenceLine}
use Rattle.ped_certificates.specs.declared.claims.EvidenceLine.TheVariants as given
use Rattle.ped_tree.specs.Tree.{ProgramTree}
use Rattle.ped_evidence.specs.Claims.{Claim}
use Rattle.ped_evidence.specs.Evidence.{Line, holds}

-- the place of a reference: its statement, and its number there
abbrev pub place : Position → ℕ × ℕ
place p = (p.statement, p.number)

-- the claim about the references at these places, with this pattern
abbrev pub claim_about : Position → Position → List Sign → Claim
claim_about source sink pattern = record { source = place source; sink = place sink; pattern = pattern }

-- the line of a claim that is given
abbrev pub line_of : GivenClaim → Line
line_of c = record { claim = claim_about c.source c.sink c.pattern; steps = c.steps }

-- the evidence of a text: its lines that are claims
abbrev pub lines_of : List EvidenceLine → List Line
lines_of [] = []
lines_of (given.Empty ∷ rest) = lines_of rest
lines_of (given.Malformed ∷ rest) = lines_of rest
lines_of (given.Claim c ∷ rest) = line_of c ∷ lines_of rest

-- a line of a text holds in a program: it is a claim that holds
abbrev pub line_holds : ProgramTree → EvidenceLine → Bool
line_holds t given.Empty = false
line_holds t given.Malformed = false
line_holds t (given.Claim c) = holds t (line_of c)
