-- What transformations keep in a session: the meaning of its programs (Allen and Kennedy, section 2.2.3; ParaScope; this project).
use Rattle.std.specs.Prelude.{◌≡◌, ◌⊎◌, ℕ, List, [], ◌∷◌, ⊤}
use Rattle.ped_tree.specs.Tree.{ProgramTree}
use Rattle.ped_versions.specs.ped_valid.specs.Validity.{ReadsValid}
use Rattle.ped_eval.specs.Outcomes.{Outcome, outcome, IsRaceFree}
use Rattle.ped_transformations.specs.ped_loop_runs.specs.Unrejected.{IsTrusted}
use Rattle.ped_transformations.specs.ped_loop_runs.specs.Meaning.{KeepsOn}
use Rattle.ped_transformations.specs.ped_loop_runs.specs.TrueRejections.{IsTrueOn}
use Rattle.ped_transformations.specs.ped_steps.specs.Tidy.{IsTidy}
use Rattle.ped_transformations.specs.ped_rules.specs.Lawful.{IsFaithful}
use Rattle.ped_transformations.specs.Table.{step_of}
use Rattle.ped_script.specs.declared.kinds.StepCommand.{StepCommand}
use Rattle.ped_session.specs.LoweredRuns.{HasNoLiveList}
use Rattle.ped_versions.specs.declared.changes.ChangeKind.{ChangeKind}
use Rattle.ped_versions.specs.declared.changes.ChangeKind.TheVariants.{Edit, Rejection, Transformation}
use Rattle.ped_versions.specs.States.{Other, State}
use Rattle.ped_session.specs.OutcomeTexts.{outcome_text}

-- what each step that makes the second program of the first asks of data besides, beyond the first program's own dependences, is true of these data. Only `fuse` asks something (this project)
abbrev pub IsTrueStep : ProgramTree → ProgramTree → (data_bytes : List ℕ) → Type 0
IsTrueStep t new data_bytes = (command : StepCommand) (keep : List (ℕ × ℕ)) → (step_of command).Makes t new keep → (step_of command).IsTrueFor t data_bytes

-- both programs are tidy, and on these data it is true what the C$PED REJECT lines of the first say, and what the step asks that makes the second of it (ParaScope; this project)
pub record IsTrueChange (t new : ProgramTree) (data_bytes : List ℕ) : Type 0 where
  pub tidy : IsTidy t
  pub new_tidy : IsTidy new
  pub true_on : IsTrueOn t data_bytes
  pub true_step : IsTrueStep t new data_bytes

-- where the program of the earlier source may be trusted, so may that of the later one, which keeps its meaning; and whatever C$PED REJECT lines there are, it keeps the meaning on data on which they are true, if both programs are tidy. A program may be trusted where it has no C$PED REJECT line and is tidy: where no reference in a PARALLEL DO writes the variable of it or of a DO in it, and each path from that PARALLEL DO's exit to the end overwrites such a variable that is saved (ParaScope; this project)
pub record MeansTheSame (earlier later : List ℕ) : Type 0 where
  pub before : ProgramTree
  pub reads_before : ReadsValid earlier before
  pub behind : ProgramTree
  pub reads_behind : ReadsValid later behind
  pub kept : IsTrusted before → IsFaithful before behind
  pub kept_on : (data_bytes : List ℕ) → IsTrueChange before behind data_bytes → IsRaceFree before data_bytes → KeepsOn before behind data_bytes

-- where the change between two sources is a transformation, it keeps the meaning; an edit and a rejection needn't (ParaScope)
abbrev pub IsKept : ChangeKind → List ℕ → List ℕ → Type 0
IsKept Transformation earlier later = MeansTheSame earlier later
IsKept Edit earlier later = ⊤
IsKept Rejection earlier later = ⊤

-- from each of these past sources, the newest first, the next towards this one has come by a change that keeps the meaning where it is a transformation (ParaScope; this project)
abbrev pub IsPastKept : List ℕ → List Other → Type 0
IsPastKept source [] = ⊤
IsPastKept source (other ∷ past) = IsKept other.1 other.0 source × IsPastKept other.0 past

-- and so have these future sources, the next first, come from this one (ParaScope; this project)
abbrev pub IsFutureKept : List ℕ → List Other → Type 0
IsFutureKept source [] = ⊤
IsFutureKept source (other ∷ future) = IsKept other.1 source other.0 × IsFutureKept other.0 future

-- each transformation in the history of a session keeps the meaning (ParaScope)
pub record IsMeaningKept (s : State) : Type 0 where
  pub past : IsPastKept s.present s.past
  pub future : IsFutureKept s.present s.future

-- this source has come from the earlier one by transformations alone: it is that one, or one of its past is, with transformations alone from there on (ParaScope; this project)
abbrev pub ComesFrom : List ℕ → List Other → List ℕ → Type 0
ComesFrom source [] earlier = earlier ≡ source
ComesFrom source (other ∷ past) earlier = (earlier ≡ source) ⊎ ((other.1 ≡ Transformation) × ComesFrom other.0 past earlier)

-- so it has, through tidy programs alone, and at each transformation on the way it is true on these data what the C$PED REJECT lines say of the program that is transformed, and what the step asks: so not of the earlier program alone, as a step may bring a rejected dependence that occurs (ParaScope; this project)
abbrev pub ComesTrulyFrom : (data_bytes : List ℕ) → List ℕ → List Other → List ℕ → Type 0
ComesTrulyFrom data_bytes source [] earlier = earlier ≡ source
ComesTrulyFrom data_bytes source (other ∷ past) earlier =
    (earlier ≡ source) ⊎ ((other.1 ≡ Transformation) × ((t u : ProgramTree) → ReadsValid other.0 t → ReadsValid source u → IsTrueChange t u data_bytes) × ComesTrulyFrom data_bytes other.0 past earlier)

-- an outcome of the present program is that of each program from which it has come by transformations alone, where that one is tidy and without C$PED REJECT and runs on the data without a fault and without a race. Tidy: no reference in a PARALLEL DO writes the variable of it or of a DO in it, and each path from that PARALLEL DO's exit to the end overwrites such a variable that is saved (ParaScope; this project)
abbrev pub IsAsBefore : State → List ℕ → Outcome → Type 0
IsAsBefore s data_bytes o = (earlier : List ℕ) (t : ProgramTree) → ComesFrom s.present s.past earlier → ReadsValid earlier t → IsTrusted t → IsRaceFree t data_bytes → o ≡ outcome t data_bytes

-- and so it is, whatever C$PED REJECT lines there are, where no list of sums of the present program is live, of each program from which it has come by transformations alone through tidy programs on whose data these lines are true, where that one runs on them without a fault and without a race (ParaScope; this project)
abbrev pub IsTrulyAsBefore : State → List ℕ → Outcome → Type 0
IsTrulyAsBefore s data_bytes o =
    (earlier : List ℕ) (t u : ProgramTree) → ComesTrulyFrom data_bytes s.present s.past earlier → ReadsValid earlier t → ReadsValid s.present u → HasNoLiveList u → IsRaceFree t data_bytes → o ≡ outcome t data_bytes

-- what is shown of a run of the present program is the text of the outcome of each such program: of each that is tidy and without C$PED REJECT and runs on the data without a fault and without a race; and, where no list of sums of the present program is live, of each from which it has come through tidy programs of which the C$PED REJECT lines are true on the data, if that one runs on them without a fault and without a race (ParaScope; this project)
pub record ShowsAsBefore (s : State) (data_bytes shown : List ℕ) : Type 0 where
  pub trusted : (earlier : List ℕ) (t : ProgramTree) → ComesFrom s.present s.past earlier → ReadsValid earlier t → IsTrusted t → IsRaceFree t data_bytes → shown ≡ outcome_text (outcome t data_bytes)
  pub true_on : (earlier : List ℕ) (t u : ProgramTree) → ComesTrulyFrom data_bytes s.present s.past earlier → ReadsValid earlier t → ReadsValid s.present u → HasNoLiveList u → IsRaceFree t data_bytes → shown ≡ outcome_text (outcome t data_bytes)
