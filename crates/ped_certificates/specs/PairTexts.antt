-- The texts of places of references and of patterns (this project).
use Rattle.std.specs.Prelude.{ℕ, List, ◌++◌, codes}
use Rattle.std.specs.List.{join_by}
use Rattle.std.specs.Fmt.{decimal}
use Rattle.ped_certificates.specs.declared.claims.Position.{Position}
use Rattle.ped_certificates.specs.declared.claims.Sign.{Sign}
use Rattle.ped_certificates.specs.declared.claims.Sign.TheVariants.{Before, Same, After, Any}

-- the place of a reference: its statement and its number there, with a point between them
abbrev pub place_text : Position → List ℕ
place_text place = decimal place.statement ++ codes "." ++ decimal place.number

-- what a pattern says of a loop
abbrev pub sign_text : Sign → List ℕ
sign_text Before = codes "<"
sign_text Same = codes "="
sign_text After = codes ">"
sign_text Any = codes "*"

-- signs, with a comma between two, in brackets
abbrev pub pattern_text : List Sign → List ℕ
pattern_text pattern = codes "(" ++ join_by sign_text (codes ",") pattern ++ codes ")"
