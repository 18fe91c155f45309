-- Advice on a statement: which steps could be taken there, and what forbids the others (ParaScope; this project).
use Rattle.std.specs.Prelude.{◌≡◌, ℕ, List, [], ◌∷◌, ◌++◌, codes, Option, Some, None, true, false}
use Rattle.ped_tree.specs.Tree.{ProgramTree}
use Rattle.ped_script.specs.declared.kinds.WhichStep.{WhichStep}
use Rattle.ped_script.specs.declared.kinds.WhichStep.TheVariants.{Interchange, Reverse, Distribute, Fuse, Parallel, Serial, Peel}
use Rattle.ped_auto.specs.ped_rules.specs.ped_steps.specs.Causes.{Cause}
use Rattle.ped_auto.specs.ped_rules.specs.ped_steps.specs.CauseWords.{cause_words}
use Rattle.ped_transformations.specs.Table.{step_at}

-- a step in advice: its words, and which it is (this project)
abbrev pub Advised : Type 0
Advised = List ℕ × WhichStep

-- the steps in advice, one after another: those that ask for nothing but the statement, and both peels (this project)
abbrev pub advised : List Advised
advised =
    (codes "interchange", Interchange)
    ∷ (codes "reverse", Reverse)
    ∷ (codes "distribute", Distribute)
    ∷ (codes "fuse", Fuse)
    ∷ (codes "parallel", Parallel)
    ∷ (codes "serial", Serial)
    ∷ (codes "peel first", Peel false)
    ∷ (codes "peel last", Peel true)
    ∷ []

-- `ok` where nothing forbids a step, or `refused` and the words of the first cause against it (this project)
abbrev pub verdict_words : Option Cause → List ℕ
verdict_words None = codes " ok"
verdict_words (Some c) = codes " refused " ++ cause_words c

-- the line of a step: its words and its verdict (this project)
abbrev pub advice_line : List ℕ → Option Cause → List ℕ
advice_line words cause = words ++ verdict_words cause ++ 10 ∷ []

-- the line of a step at a statement of a program, by the first cause against it there (ParaScope; this project)
abbrev pub IsLineOf : ProgramTree → ℕ → Advised → List ℕ → Type 0
IsLineOf t s step line = (c : Option Cause) × (step_at s step.1).IsCause t c × (line ≡ advice_line step.0 c)

-- the lines of steps at a statement of a program, one after another (plain words)
abbrev pub AreLinesOf : ProgramTree → ℕ → List Advised → List ℕ → Type 0
AreLinesOf t s [] bytes = bytes ≡ []
AreLinesOf t s (step ∷ steps) bytes = (line : List ℕ) × IsLineOf t s step line × (rest : List ℕ) × AreLinesOf t s steps rest × (bytes ≡ line ++ rest)

-- the advice on a statement of a program: a line for each of these steps (ParaScope; this project)
abbrev pub IsAdvice : ProgramTree → ℕ → List ℕ → Type 0
IsAdvice t s bytes = AreLinesOf t s advised bytes
