-- What answers add to those before them. Only contracts of private functions use it (this project).
use Rattle.std.specs.Prelude.{◌≡◌, ◌++◌, ◌+◌, ℕ, ◌||◌}
use Rattle.ped_session.specs.declared.answers.Answered.{Answered}
use Rattle.ped_session.specs.Scripts.{Said}

-- the answers with another one at the end
abbrev pub added : Answered → Said → Answered
added a said = record { bytes = a.bytes ++ said.bytes; refused = a.refused || said.refused }

-- an answer that is of this kind was added, and as many pairs were tested as it says
pub record Adds (Is : Said → Type 0) (before after : Answered) (steps_before steps_after : ℕ) : Type 0 where
  pub said : Said
  pub is : Is said
  pub adds : after ≡ added before said
  pub ticks : steps_after ≡ steps_before + said.tests
