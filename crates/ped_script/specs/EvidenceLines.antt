-- The lines of evidence: which words are a pair of references, a pattern, and a step of a certificate (this project).
use Rattle.std.specs.Prelude.{ℕ, ◌+◌, ℤ, List, [], ◌∷◌, ◌++◌, length, take, drop, position, not, ◌&&◌, ◌==◌, nat_le, nat_lt, Option, Some, None, option_map, option_and_then, if◌then◌else◌}
use Rattle.std.specs.Option.{option_or, option_map_or}
use Rattle.ped_base.specs.Lists.{has_some}
use Rattle.ped_certificates.specs.declared.systems.Part.{Part}
use Rattle.ped_certificates.specs.declared.systems.Step.{Step}
use Rattle.ped_certificates.specs.declared.systems.Step.TheVariants as step
use Rattle.ped_certificates.specs.declared.claims.Sign.{Sign}
use Rattle.ped_certificates.specs.declared.claims.Sign.TheVariants.{Before, Same, After, Any}
use Rattle.ped_certificates.specs.declared.claims.Position.{Position}
use Rattle.ped_certificates.specs.declared.claims.Claim.{Claim}
use Rattle.ped_certificates.specs.declared.claims.EvidenceLine.{EvidenceLine}
use Rattle.ped_certificates.specs.declared.claims.EvidenceLine.TheVariants as line
use Rattle.ped_script.specs.declared.steps.StepWord.{StepWord}
use Rattle.ped_script.specs.declared.steps.StepWord.TheVariants as said
use Rattle.ped_script.specs.Words.{Text, words_of, number_of, factor_of}

-- what a word has before and behind the first of these characters; none where it has none
abbrev pub cut_at : ℕ → Text → Option (Text × Text)
cut_at c word = option_map (λ i. (take i word, drop (i + 1) word)) (position (λ d. d == c) word)

-- the place of a reference: the number of its statement, a point, and its number there
abbrev pub place_of : Text → Option Position
place_of word =
    option_and_then (λ x. option_and_then (λ s. option_map (λ n. record { statement = s; number = n }) (number_of 9 x.1)) (number_of 9 x.0)) (cut_at 46 word)

-- `<`, `=`, `>` or `*`
abbrev pub sign_of : ℕ → Option Sign
sign_of c = if c == 60 then Some Before else if c == 61 then Some Same else if c == 62 then Some After else if c == 42 then Some Any else None

-- signs with a comma between two, and a bracket at their end
abbrev pub signs_of : Text → Option (List Sign)
signs_of [] = None
signs_of (c ∷ []) = None
signs_of (c ∷ d ∷ cs) =
    option_and_then (λ sign.
    if d == 44 then option_map (λ signs. sign ∷ signs) (signs_of cs) else if (d == 41) && not (has_some cs) then Some (sign ∷ []) else None) (sign_of c)

-- a pattern: signs in brackets, at least one
abbrev pub pattern_of : Text → Option (List Sign)
pattern_of [] = None
pattern_of (c ∷ cs) = if c == 40 then signs_of cs else None

-- the first word is a place, and these words are behind it
abbrev pub first_place : List Text → Option (Position × List Text)
first_place [] = None
first_place (w ∷ ws) = option_map (λ place. (place, ws)) (place_of w)

-- the first word is a pattern, and these words are behind it
abbrev pub first_pattern : List Text → Option (List Sign × List Text)
first_pattern [] = None
first_pattern (w ∷ ws) = option_map (λ pattern. (pattern, ws)) (pattern_of w)

-- two places and a pattern, and after them what words go on with
abbrev pub pair_then : {A : Type 0} → (Position → Position → List Sign → List Text → Option A) → List Text → Option A
pair_then next words =
    option_and_then (λ a. option_and_then (λ b. option_and_then (λ p. next a.0 b.0 p.0 p.1) (first_pattern b.1)) (first_place a.1)) (first_place words)

-- a divisor is at least 1
abbrev pub divisor_of : Text → Option ℕ
divisor_of word = option_and_then (λ d. if nat_le 1 d then Some d else None) (number_of 9 word)

-- a number and a factor on the two sides of a character
abbrev pub pair_at : ℕ → Text → Option (ℕ × ℤ)
pair_at c word = option_and_then (λ x. option_and_then (λ n. option_map (λ m. (n, m)) (factor_of x.1)) (number_of 9 x.0)) (cut_at c word)

-- `r:m` is the part of row r by the factor m, and `u?k` divides by the unknown u at k
abbrev pub part_or_split : Text → Option StepWord
part_or_split word =
    option_or (option_map (λ x. said.Part (record { row = x.0; factor = x.1 })) (pair_at 58 word)) (option_map (λ x. said.Split x.0 x.1) (pair_at 63 word))

-- what a word says of a step: `/d` and `%d` end the parts of a cut and of an equation
abbrev pub step_word : Text → Option StepWord
step_word [] = None
step_word (c ∷ cs) =
    if c == 47 then option_map (λ d. said.Cut d) (divisor_of cs)
    else if c == 37 then option_map (λ d. said.Gcd d) (divisor_of cs)
    else part_or_split (c ∷ cs)

-- the steps that words have written, and the parts so far of the next one
pub record StepsRead : Type 0 where
  pub steps : List Step
  pub parts : List Part

-- one more step, where the parts so far are these
abbrev pub with_step : List Step → Step → StepsRead
with_step steps s = record { steps = steps ++ s ∷ []; parts = [] }

-- what is read behind one more word: a part comes where there are fewer than 500, an end behind at least one part, and a split where there is none
abbrev pub after_word : StepsRead → StepWord → Option StepsRead
after_word r (said.Part p) = if nat_lt (length r.parts) 500 then Some (record { steps = r.steps; parts = r.parts ++ p ∷ [] }) else None
after_word r (said.Cut d) = if has_some r.parts then Some (with_step r.steps (step.Cut r.parts d)) else None
after_word r (said.Gcd d) = if has_some r.parts then Some (with_step r.steps (step.Gcd r.parts d)) else None
after_word r (said.Split u k) = if has_some r.parts then None else Some (with_step r.steps (step.Split u k))

-- what is read behind words
abbrev pub after_words : StepsRead → List Text → Option StepsRead
after_words r [] = Some r
after_words r (w ∷ ws) = option_and_then (λ what. option_and_then (λ next. after_words next ws) (after_word r what)) (step_word w)

-- the steps, where no part is left over, and there are 1 to 500
abbrev pub whole_steps : StepsRead → Option (List Step)
whole_steps r = if not (has_some r.parts) && has_some r.steps && nat_le (length r.steps) 500 then Some r.steps else None

-- the steps that words write
abbrev pub steps_of : List Text → Option (List Step)
steps_of words = option_and_then whole_steps (after_words (record { steps = []; parts = [] }) words)

-- the claim of a pair with a pattern, where these words are its steps
abbrev pub with_steps : Position → Position → List Sign → List Text → Option Claim
with_steps source sink pattern words = option_map (λ steps. record { source = source; sink = sink; pattern = pattern; steps = steps }) (steps_of words)

-- the claim that words are: two places, a pattern, and steps
abbrev pub claim_of : List Text → Option Claim
claim_of words = pair_then with_steps words

-- what words are as a line of evidence
abbrev pub line_of_words : List Text → EvidenceLine
line_of_words [] = line.Empty
line_of_words (w ∷ ws) = option_map_or (λ claim. line.Claim claim) (claim_of (w ∷ ws)) line.Malformed

-- what a line of the text of evidence is
abbrev pub evidence_line : Text → EvidenceLine
evidence_line text = line_of_words (words_of text)
