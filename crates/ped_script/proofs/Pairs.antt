-- Words that begin with two places and a pattern.
use Rattle.std.proofs.Common.{◌≡◌, List, [], ◌∷◌, Option, Some, None, option_map, option_and_then, ap, ◌∙◌}
use Rattle.ped_certificates.specs.declared.claims.Position.{Position}
use Rattle.ped_certificates.specs.declared.claims.Sign.{Sign}
use Rattle.ped_script.specs.Words.{Text}
use Rattle.ped_script.specs.EvidenceLines.{pattern_of, first_place, first_pattern, pair_then}

-- the pattern by the first word
pub no_first : (words : List Text) → words ≡ [] → first_pattern words ≡ None
no_first words e = ap first_pattern e

pub not_first : (words rest : List Text) (w : Text) → words ≡ w ∷ rest → pattern_of w ≡ None → first_pattern words ≡ None
not_first words rest w e h = ap first_pattern e ∙ ap (option_map (λ p. (p, rest))) h

pub is_first : (words rest : List Text) (w : Text) (p : List Sign) → words ≡ w ∷ rest → pattern_of w ≡ Some p → first_pattern words ≡ Some (p, rest)
is_first words rest w p e h = ap first_pattern e ∙ ap (option_map (λ p. (p, rest))) h

module _ {A : Type 0} (next : Position → Position → List Sign → List Text → Option A) (words : List Text) where
  abbrev pub behind_pattern : Position → Position → Option (List Sign × List Text) → Option A
  behind_pattern a b o = option_and_then (λ (p : List Sign × List Text). next a b p.0 p.1) o

  abbrev behind_sink : Position → Option (Position × List Text) → Option A
  behind_sink a o = option_and_then (λ (b : Position × List Text). behind_pattern a b.0 (first_pattern b.1)) o

  abbrev behind_source : Option (Position × List Text) → Option A
  behind_source o = option_and_then (λ (a : Position × List Text). behind_sink a.0 (first_place a.1)) o

  -- no place first
  pub no_source : first_place words ≡ None → pair_then next words ≡ None
  no_source h = ap behind_source h

  -- no place behind the first
  pub no_sink : (a : Position) (more : List Text) → first_place words ≡ Some (a, more) → first_place more ≡ None → pair_then next words ≡ None
  no_sink a more h k = ap behind_source h ∙ ap (behind_sink a) k

  -- up to the pattern
  pub to_pattern : (a b : Position) (more last : List Text) → first_place words ≡ Some (a, more) → first_place more ≡ Some (b, last) → pair_then next words ≡ behind_pattern a b (first_pattern last)
  to_pattern a b more last h k = ap behind_source h ∙ ap (behind_sink a) k

  -- no pattern behind both
  pub no_pattern : (a b : Position) (more last : List Text) → first_place words ≡ Some (a, more) → first_place more ≡ Some (b, last) → first_pattern last ≡ None → pair_then next words ≡ None
  no_pattern a b more last h k m = ap behind_source h ∙ ap (behind_sink a) k ∙ ap (behind_pattern a b) m

  -- two places and a pattern
  pub whole_pair : (a b : Position) (p : List Sign) (more last rest : List Text) → first_place words ≡ Some (a, more) → first_place more ≡ Some (b, last) → first_pattern last ≡ Some (p, rest) → pair_then next words ≡ next a b p rest
  whole_pair a b p more last rest h k m = ap behind_source h ∙ ap (behind_sink a) k ∙ ap (behind_pattern a b) m
