-- Runs of programs with lists of sums: what runs is what the program is lowered to (Allen and Kennedy, section 5.6; this project).
use Rattle.std.specs.Prelude.{◌≡◌, ℕ, List, [], ◌∷◌, false, slice_index_or}
use Rattle.ped_tree.specs.Tree.{ProgramTree}
use Rattle.ped_eval.specs.Outcomes.{Outcome, Ended, Fault, outcome}
use Rattle.ped_transformations.specs.ped_flow.specs.Questions.{LoopOf}
use Rattle.ped_order.specs.ped_interleavings.specs.Interleavings.{IsInterleaved}
use Rattle.ped_transformations.specs.ped_reduce.specs.Lists.{has_list}
use Rattle.ped_transformations.specs.ped_reduce.specs.Lowering.{Lowered}
use Rattle.ped_transformations.specs.ped_reduce.specs.Reducing.{IsLowered}

-- no DO of a program has a list of sums
abbrev pub HasNoList : ProgramTree → Type 0
HasNoList t = (s : ℕ) (l : LoopOf t s) → has_list l.head l.body ≡ false

-- no list of sums in a program is live (Allen and Kennedy, section 5.6; this project)
abbrev pub HasNoLiveList : ProgramTree → Type 0
HasNoLiveList t = (q : Lowered) → IsLowered t q → q.live ≡ []

-- the number of the statement from which a statement of a lowered program comes, by the numbers for all its statements, the first of which has the number 1; a number that no statement has is left as it is (this project)
abbrev pub origin_at : List ℕ → ℕ → ℕ
origin_at origin number = slice_index_or (0 ∷ origin) number number

-- how an outcome of a lowered program is reported: a fault with the statement from which the one that met it comes, and what is printed and shown as it is (this project)
abbrev pub told_by : Lowered → Outcome → Outcome
told_by q (Ended output live) = Ended output live
told_by q (Fault number statement) = Fault number (origin_at q.origin statement)

-- with these choices, and 0 after their end, a lowered program ends on its data with an outcome that is reported so (this project)
abbrev pub TellsRun : (choices data_bytes : List ℕ) → Lowered → Outcome → Type 0
TellsRun choices data_bytes q o = (ended : Outcome) × IsInterleaved q.tree data_bytes choices ended × (o ≡ told_by q ended)

-- an outcome of a program with these choices on its data: what the program is lowered to runs, and a fault is reported for the program itself (Allen and Kennedy, section 5.6; this project)
pub record IsLoweredRun (choices data_bytes : List ℕ) (t : ProgramTree) (o : Outcome) : Type 0 where
  pub lowered : Lowered
  pub lowers : IsLowered t lowered
  pub tells : TellsRun choices data_bytes lowered o

-- the outcome of a program without choices: that of the run in order of what it is lowered to (this project)
pub record IsLoweredInOrder (data_bytes : List ℕ) (t : ProgramTree) (o : Outcome) : Type 0 where
  pub lowered : Lowered
  pub lowers : IsLowered t lowered
  pub told : o ≡ told_by lowered (outcome lowered.tree data_bytes)
