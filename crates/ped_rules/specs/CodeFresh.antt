-- With which letters the code lets new names begin (this project).
use Rattle.std.specs.Prelude.{ℕ, List, codes}
use Rattle.ped_rules.specs.declared.fresh.NewName.{NewName}
use Rattle.ped_rules.specs.declared.fresh.NewName.TheVariants.{Array, Variable}

-- KX for arrays, IS for variables of DO loops (this project)
abbrev pub letters_of : NewName → List ℕ
letters_of Array = codes "KX"
letters_of Variable = codes "IS"
