-- Patterns: what is said of the directions of a dependence, a sign for each common loop (Allen and Kennedy, section 2.2.4; this project).
use Rattle.std.specs.Prelude.{List, [], ◌∷◌, Bool, true, false, ◌&&◌}
use Rattle.ped_views.specs.declared.directions.Direction.{Direction}
use Rattle.ped_views.specs.declared.directions.Direction.TheVariants as directions
use Rattle.ped_certificates.specs.declared.claims.Sign.{Sign}
use Rattle.ped_certificates.specs.declared.claims.Sign.TheVariants.{Before, Same, After, Any}

-- a sign says this direction: `*` says each (Allen and Kennedy, section 2.2.4)
abbrev pub says : Sign → Direction → Bool
says Any d = true
says Before directions.Before = true
says Before directions.Same = false
says Before directions.After = false
says Same directions.Before = false
says Same directions.Same = true
says Same directions.After = false
says After directions.Before = false
says After directions.Same = false
says After directions.After = true

-- a pattern fits a vector: they have as many places, and at each the sign says the direction (this project)
abbrev pub fits : List Sign → List Direction → Bool
fits [] [] = true
fits [] (d ∷ vector) = false
fits (sign ∷ pattern) [] = false
fits (sign ∷ pattern) (d ∷ vector) = says sign d && fits pattern vector
