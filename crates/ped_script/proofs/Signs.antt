-- The signs of a pattern, one after the other.
use Rattle.std.proofs.Common.{◌≡◌, ℕ, Bool, true, false, not, ◌&&◌, cond, eqb, List, [], ◌∷◌, ◌++◌, Option, Some, None, option_map, option_and_then, refl, sym, ap, ◌∙◌, append_assoc}
use Rattle.ped_base.specs.Lists.{has_some}
use Rattle.ped_certificates.specs.declared.claims.Sign.{Sign}
use Rattle.ped_script.specs.Words.{Text}
use Rattle.ped_script.specs.EvidenceLines.{sign_of, signs_of}
use Rattle.ped_script.specs.Shapes.{first_sign}

-- the signs of a text that begins with a sign, by the character behind it and what follows
abbrev behind_sign : Sign → ℕ → Text → Option (List Sign)
behind_sign s d rest = cond (eqb d 44) (option_map (λ signs. s ∷ signs) (signs_of rest)) (cond (eqb d 41 && not (has_some rest)) (Some (s ∷ [])) None)

by_first : (text : Text) → signs_of text ≡ option_and_then (λ (x : Sign × ℕ × Text). behind_sign x.0 x.1 x.2) (first_sign text)
by_first [] = refl
by_first (c ∷ []) = refl
by_first (c ∷ d ∷ cs) =
    let go : (o : Option Sign) → option_and_then (λ s. behind_sign s d cs) o ≡ option_and_then (λ (x : Sign × ℕ × Text). behind_sign x.0 x.1 x.2) (option_map (λ s. (s, d, cs)) o) = λ o. elim o as (λ o. option_and_then (λ s. behind_sign s d cs) o ≡ option_and_then (λ (x : Sign × ℕ × Text). behind_sign x.0 x.1 x.2) (option_map (λ s. (s, d, cs)) o)) [
      | None ↦ refl
      | Some s ↦ refl
    ] in
    go (sign_of c)

from_first : (text rest : Text) (s : Sign) (d : ℕ) → first_sign text ≡ Some (s, d, rest) → signs_of text ≡ behind_sign s d rest
from_first text rest s d h = by_first text ∙ ap (option_and_then (λ (x : Sign × ℕ × Text). behind_sign x.0 x.1 x.2)) h

moved : (signs : List Sign) (s : Sign) (o : Option (List Sign)) → option_map (λ more. (signs ++ s ∷ []) ++ more) o ≡ option_map (λ more. signs ++ more) (option_map (λ more. s ∷ more) o)
moved signs s None = refl
moved signs s (Some more) = ap Some (append_assoc signs (s ∷ []) more)

-- before the first sign
pub before_signs : (signs : List Sign) (text : Text) → signs ≡ [] → option_map (λ more. signs ++ more) (signs_of text) ≡ signs_of text
before_signs signs text e =
    let go : (o : Option (List Sign)) → option_map (λ more. [] ++ more) o ≡ o = λ o. elim o as (λ o. option_map (λ more. [] ++ more) o ≡ o) [
      | None ↦ refl
      | Some more ↦ refl
    ] in
    ap (λ (xs : List Sign). option_map (λ more. xs ++ more) (signs_of text)) e ∙ go (signs_of text)

-- behind a comma come more signs
pub next_signs : (signs new : List Sign) (text rest : Text) (s : Sign) (d : ℕ) → first_sign text ≡ Some (s, d, rest) → eqb d 44 ≡ true → new ≡ signs ++ s ∷ []
    → option_map (λ more. new ++ more) (signs_of rest) ≡ option_map (λ more. signs ++ more) (signs_of text)
next_signs signs new text rest s d h e n =
    ap (λ (xs : List Sign). option_map (λ more. xs ++ more) (signs_of rest)) n
    ∙ moved signs s (signs_of rest)
    ∙ ap (option_map (λ more. signs ++ more)) (sym (from_first text rest s d h ∙ ap (λ b. cond b (option_map (λ signs. s ∷ signs) (signs_of rest)) (cond (eqb d 41 && not (has_some rest)) (Some (s ∷ [])) None)) e))

-- behind the last sign is a bracket, and nothing follows
pub last_sign : (signs new : List Sign) (text rest : Text) (s : Sign) (d : ℕ) → first_sign text ≡ Some (s, d, rest) → eqb d 44 ≡ false → new ≡ signs ++ s ∷ []
    → cond (eqb d 41 && not (has_some rest)) (Some new) None ≡ option_map (λ more. signs ++ more) (signs_of text)
last_sign signs new text rest s d h e n =
    let go : (b : Bool) → cond b (Some new) None ≡ option_map (λ more. signs ++ more) (cond b (Some (s ∷ [])) None) = λ b. elim b as (λ b. cond b (Some new) None ≡ option_map (λ more. signs ++ more) (cond b (Some (s ∷ [])) None)) [
      | true ↦ ap Some n
      | false ↦ refl
    ] in
    go (eqb d 41 && not (has_some rest))
    ∙ ap (option_map (λ more. signs ++ more)) (sym (from_first text rest s d h ∙ ap (λ b. cond b (option_map (λ signs. s ∷ signs) (signs_of rest)) (cond (eqb d 41 && not (has_some rest)) (Some (s ∷ [])) None)) e))

-- without a sign at its front a text has none
pub no_signs : (signs : List Sign) (text : Text) → first_sign text ≡ None → None ≡ option_map (λ more. signs ++ more) (signs_of text)
no_signs signs text h = ap (option_map (λ more. signs ++ more)) (sym (by_first text ∙ ap (option_and_then (λ (x : Sign × ℕ × Text). behind_sign x.0 x.1 x.2)) h))
