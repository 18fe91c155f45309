-- Lines of advice, one behind another.
use Rattle.std.proofs.Common.{◌≡◌, ◌∙◌, ℕ, List, [], ◌∷◌, ◌++◌, take, codes, Option, Result, Ok, Err, true, false, refl, sym, ap, subst, append-nil, append_assoc}
use Rattle.ped_tree.specs.Tree.{ProgramTree}
use Rattle.ped_script.specs.declared.kinds.WhichStep.{WhichStep}
use Rattle.ped_script.specs.declared.kinds.WhichStep.TheVariants.{Interchange, Reverse, Distribute, Fuse, Parallel, Serial, Peel}
use Rattle.ped_auto.specs.ped_rules.specs.ped_steps.specs.Causes.{Cause}
use Rattle.ped_auto.specs.ped_rules.specs.Steps.{StepAt, Answers}
use Rattle.ped_auto.specs.ped_rules.specs.ped_steps.specs.declared.causes.Refused.{Refused}
use Rattle.ped_auto.specs.ped_rules.specs.ped_steps.specs.declared.changes.Change.{Change}
use Rattle.ped_transformations.specs.Table.{step_at}
use Rattle.ped_transformations.specs.Advice.{Advised, advised, verdict_words, advice_line, IsLineOf, AreLinesOf, IsAdvice}
use Rattle.ped_transformations.specs.CodeAdvice.{cause_in, IsAgainst, Tells}

module _ (t : ProgramTree) where
  against_by : (at : StepAt) (found : Result Change Refused) → Answers at t found → IsAgainst at t (cause_in found)
  against_by at (Ok change) h = (h.0, tt)
  against_by at (Err refused) h = (h.0, h.1)

  -- the cause in what a step answers is the first one against it
  pub against : (at : StepAt) (found : Result Change Refused) (cause : Option Refused) → cause ≡ cause_in found → Answers at t found → IsAgainst at t cause
  against at found cause is h = subst (IsAgainst at t) (sym is) (against_by at found h)

module _ (t : ProgramTree) (s : ℕ) where
  -- the words of a step, its verdict and the end of the line are told one behind another
  pub line_told : (words : List ℕ) (step : WhichStep) (c : Option Cause) (before a b behind : List ℕ) → (step_at s step).IsCause t c
      → a ≡ before ++ words → b ≡ a ++ verdict_words c → behind ≡ b ++ 10 ∷ [] → Tells t s (words, step) before behind
  line_told words step c before a b behind cause p q r = record {
    line = advice_line words c;
    is_line = (c, cause, refl);
    adds = r ∙ ap (λ (x : List ℕ). x ++ 10 ∷ []) (q ∙ ap (λ (x : List ℕ). x ++ verdict_words c) p)
        ∙ append_assoc (before ++ words) (verdict_words c) (10 ∷ []) ∙ append_assoc before words (verdict_words c ++ 10 ∷ [])
        ∙ ap (λ (x : List ℕ). before ++ x) (sym (append_assoc words (verdict_words c) (10 ∷ [])));
  }

  -- lines, and then one more
  lines_then : (steps : List Advised) (step : Advised) (bytes line : List ℕ) → AreLinesOf t s steps bytes → IsLineOf t s step line → AreLinesOf t s (steps ++ step ∷ []) (bytes ++ line)
  lines_then [] step bytes line are is = (line, is, [], refl, ap (λ (b : List ℕ). b ++ line) are ∙ sym (append-nil line))
  lines_then (first ∷ steps) step bytes line are is = (
    are.0,
    are.1,
    are.2 ++ line,
    lines_then steps step are.2 line are.3 is,
    ap (λ (b : List ℕ). b ++ line) are.4 ∙ append_assoc are.0 are.2 line,
  )

  -- what is told behind lines
  pub told : (steps : List Advised) (step : Advised) (before behind : List ℕ) → AreLinesOf t s steps before → Tells t s step before behind → AreLinesOf t s (steps ++ step ∷ []) behind
  told steps step before behind are tells =
      subst (AreLinesOf t s (steps ++ step ∷ [])) (sym tells.adds) (lines_then steps step before tells.line are tells.is_line)

  -- all eight, told one behind another
  pub eight_told : (a b c d e f g h i : List ℕ) → a ≡ []
      → Tells t s (codes "interchange", Interchange) a b
      → Tells t s (codes "reverse", Reverse) b c
      → Tells t s (codes "distribute", Distribute) c d
      → Tells t s (codes "fuse", Fuse) d e
      → Tells t s (codes "parallel", Parallel) e f
      → Tells t s (codes "serial", Serial) f g
      → Tells t s (codes "peel first", Peel false) g h
      → Tells t s (codes "peel last", Peel true) h i
      → IsAdvice t s i
  eight_told a b c d e f g h i empty p1 p2 p3 p4 p5 p6 p7 p8 =
      let q1 = told (take 0 advised) (codes "interchange", Interchange) a b empty p1 in
      let q2 = told (take 1 advised) (codes "reverse", Reverse) b c q1 p2 in
      let q3 = told (take 2 advised) (codes "distribute", Distribute) c d q2 p3 in
      let q4 = told (take 3 advised) (codes "fuse", Fuse) d e q3 p4 in
      let q5 = told (take 4 advised) (codes "parallel", Parallel) e f q4 p5 in
      let q6 = told (take 5 advised) (codes "serial", Serial) f g q5 p6 in
      let q7 = told (take 6 advised) (codes "peel first", Peel false) g h q6 p7 in
      told (take 7 advised) (codes "peel last", Peel true) h i q7 p8
