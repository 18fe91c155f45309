-- Why a step is refused: a rule or a dependence that forbids it; the first of them is reported (ParaScope; this project).
use Rattle.std.specs.Prelude.{◌≡◌, ◌≤◌, ℕ, List, ◌∷◌, ◌++◌, All, Bool, true, false, Option, Some, None}
use Rattle.ped_tree.specs.Tree.{ProgramTree}
use Rattle.ped_edges.specs.Edges.{Edge}
use Rattle.ped_weaves.specs.ped_graph.specs.Dependences.{AreEdges}
use Rattle.ped_steps.specs.declared.rules.Rule.{Rule}
use Rattle.ped_steps.specs.RuleNames.{number_of}

-- which rules forbid a step, each with the statement that it names (this project)
abbrev pub Rules : Type 1
Rules = Rule → ℕ → Type 0

-- a rule with the statement that it names, or a dependence (ParaScope; this project)
pub data Cause : Type 0 where
  rule : Rule → ℕ → Cause
  dependence : Edge → Cause

-- no rule forbids it (plain words)
abbrev pub NoRule : Rules → Type 0
NoRule stands = (r : Rule) (n : ℕ) → stands r n → ⊥

-- of the rules that forbid it this one has the least number (this project)
abbrev pub IsFirstRule : Rules → Rule → ℕ → Type 0
IsFirstRule stands r n = stands r n × ((q : Rule) (m : ℕ) → stands q m → number_of r ≤ number_of q)

-- of these dependences this is the first that forbids the step (plain words)
abbrev pub IsFirstForbidding : (Edge → Bool) → List Edge → Edge → Type 0
IsFirstForbidding forbids edges e = (front : List Edge) × (behind : List Edge) × (edges ≡ front ++ e ∷ behind) × (forbids e ≡ true) × All (λ f. forbids f ≡ false) front

-- the first cause that forbids a step in a program: of the rules the one with the least number, and else the first dependence, in the order of the pane, that forbids it; none where there is neither (this project)
abbrev pub IsFirstCause : ProgramTree → Rules → (Edge → Bool) → Option Cause → Type 0
IsFirstCause t stands forbids (Some (rule r n)) = IsFirstRule stands r n
IsFirstCause t stands forbids (Some (dependence e)) = NoRule stands × (edges : List Edge) × AreEdges t edges × IsFirstForbidding forbids edges e
IsFirstCause t stands forbids None = NoRule stands × ((edges : List Edge) → AreEdges t edges → All (λ e. forbids e ≡ false) edges)

-- a step that no dependence forbids (plain words)
abbrev pub none_forbids : Edge → Bool
none_forbids e = false
