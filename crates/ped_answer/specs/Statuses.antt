-- The exit statuses (this project).
use Rattle.std.specs.Prelude.{ℕ}
use Rattle.ped_answer.specs.declared.answering.Status.{Status}
use Rattle.ped_answer.specs.declared.answering.Status.TheVariants.{Done, SomeRefused, BadWords, ReadFault, WriteFault, ProgramRefused, NoMemory, TooLong}

-- the exit status by how the call ended
abbrev pub number_of : Status → ℕ
number_of Done = 0
number_of SomeRefused = 1
number_of BadWords = 2
number_of ReadFault = 3
number_of WriteFault = 4
number_of ProgramRefused = 5
number_of NoMemory = 6
number_of TooLong = 7
