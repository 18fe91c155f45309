-- What a step has to keep: the meaning of a program (ParaScope; this project).
use Rattle.std.specs.Prelude.{◌≡◌, ℕ, List}
use Rattle.std.specs.List.{flat_map}
use Rattle.ped_tree.specs.Tree.{ProgramTree}
use Rattle.ped_weaves.specs.ped_eval.specs.Outcomes.{outcome, IsRaceFree}
use Rattle.ped_tree.specs.NamesIn.{saved_in}

-- a program keeps the meaning of another: on all data on which the old one runs without a fault and without a race, the new one has the same outcome and no race; and the same names are saved (Allen and Kennedy, section 2.2.3; ParaScope; this project)
pub record Keeps (t u : ProgramTree) : Type 0 where
  pub saved : flat_map saved_in u.decls ≡ flat_map saved_in t.decls
  pub same : (data_bytes : List ℕ) → IsRaceFree t data_bytes → outcome u data_bytes ≡ outcome t data_bytes
  pub race_free : (data_bytes : List ℕ) → IsRaceFree t data_bytes → IsRaceFree u data_bytes
