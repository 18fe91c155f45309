-- `parallel`, `reverse` and `interchange` with evidence: a dependence of which it disproves the vectors that count doesn't forbid the step (this project).
use Rattle.std.specs.Prelude.{◌≡◌, ℕ, List, slice_get, Bool, not, ◌&&◌, Option}
use Rattle.std.specs.List.{list_any}
use Rattle.ped_tree.specs.Tree.{ProgramTree}
use Rattle.ped_edges.specs.Edges.{Edge}
use Rattle.ped_evidence.specs.Evidence.{Line, disproves}
use Rattle.ped_rules.specs.Carried.{level_at, carried, is_after}
use Rattle.ped_rules.specs.Paralleling.{MakesParallel, StandsAgainstParallel}
use Rattle.ped_rules.specs.Steps.{StepKind, transformation, StepAt, asks_no_more}
use Rattle.ped_rules.specs.ped_steps.specs.Causes.{Cause, IsFirstCause}
use Rattle.ped_loops.specs.Reversing.{MakesReversed, StandsAgainstReversal}
use Rattle.ped_loops.specs.Interchanging.{MakesInterchanged, StandsAgainstInterchange}

-- a dependence is open: the evidence doesn't disprove each of its vectors (this project)
abbrev pub is_open : ProgramTree → List Line → Edge → Bool
is_open t evidence e = list_any (λ v. not (disproves t evidence e v)) e.vectors

-- the DO carries the dependence, the user hasn't rejected it, and it is open (Allen and Kennedy, section 2.4.1; this project)
abbrev pub carried_open : ProgramTree → ℕ → List Line → Edge → Bool
carried_open t s evidence e = carried t s e && is_open t evidence e

-- a vector of the dependence has `>` for the DO in the one of this level, and the evidence doesn't disprove it (Allen and Kennedy, section 2.2.4; this project)
abbrev pub has_open_after : ProgramTree → List Line → ℕ → Edge → Bool
has_open_after t evidence level e = list_any (λ v. is_after (slice_get v level) && not (disproves t evidence e v)) e.vectors

-- the DO carries the dependence, the user hasn't rejected it, and a vector of it that isn't disproved has `>` for the next DO in it (Allen and Kennedy, section 5.2; this project)
abbrev pub crossing_open : ProgramTree → ℕ → List Line → Edge → Bool
crossing_open t s evidence e = carried t s e && has_open_after t evidence (level_at t s) e

-- `parallel s by`: as `parallel s`, but of the dependences that forbid that, those that are open forbid this (Allen and Kennedy, section 2.4.1; this project)
abbrev pub paralleling_by : ℕ → List Line → StepAt
paralleling_by s evidence = record {
  statement = s;
  kind = transformation;
  IsCause = λ t. IsFirstCause t (StandsAgainstParallel s t) (carried_open t s evidence);
  Makes = MakesParallel s;
  IsTrueFor = asks_no_more;
}

-- `reverse s by`: as `reverse s`, but of the dependences that forbid that, those that are open forbid this (Allen and Kennedy, sections 2.2.5, 5.2; this project)
abbrev pub reversing_by : ℕ → List Line → StepAt
reversing_by s evidence = record {
  statement = s;
  kind = transformation;
  IsCause = λ t. IsFirstCause t (StandsAgainstReversal s t) (carried_open t s evidence);
  Makes = MakesReversed s;
  IsTrueFor = asks_no_more;
}

-- `interchange s by`: as `interchange s`, but a dependence forbids it only by a vector that isn't disproved (Allen and Kennedy, section 5.2; this project)
abbrev pub interchanging_by : ℕ → List Line → StepAt
interchanging_by s evidence = record {
  statement = s;
  kind = transformation;
  IsCause = λ t. IsFirstCause t (StandsAgainstInterchange s t) (crossing_open t s evidence);
  Makes = MakesInterchanged s;
  IsTrueFor = asks_no_more;
}

-- two steps are one: they are taken at one statement and are of one kind, and in each program each has the causes against it that the other has, makes and keeps what the other does, and asks of data what the other asks (plain words)
pub record IsSameStep (at to : StepAt) : Type 0 where
  pub statement : at.statement ≡ to.statement
  pub kind : at.kind ≡ to.kind
  pub cause : (t : ProgramTree) (c : Option Cause) → at.IsCause t c → to.IsCause t c
  pub cause_back : (t : ProgramTree) (c : Option Cause) → to.IsCause t c → at.IsCause t c
  pub makes : (t new : ProgramTree) (keep : List (ℕ × ℕ)) → at.Makes t new keep → to.Makes t new keep
  pub makes_back : (t new : ProgramTree) (keep : List (ℕ × ℕ)) → to.Makes t new keep → at.Makes t new keep
  pub asks : (t : ProgramTree) (data_bytes : List ℕ) → at.IsTrueFor t data_bytes → to.IsTrueFor t data_bytes
  pub asks_back : (t : ProgramTree) (data_bytes : List ℕ) → to.IsTrueFor t data_bytes → at.IsTrueFor t data_bytes
