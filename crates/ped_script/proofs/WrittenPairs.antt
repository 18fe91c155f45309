-- Places and patterns are read again from their texts.
use Rattle.std.proofs.Common.{◌≡◌, ℕ, ◌+◌, ◌<◌, ◌≤◌, Bool, true, false, ◌&&◌, cond, ltb, eqb, List, [], ◌∷◌, ◌++◌, length, take, drop, codes, Option, Some, None, option_map, option_and_then, refl, sym, subst, ap, ◌∙◌, append_assoc, arith}
use Rattle.std.specs.List.{list_all, flat_map, join_by, position, position_or_len, AllByRecursion}
use Rattle.std.specs.Fmt.{decimal}
use Rattle.std.proofs.Math.Seq.{take-append_seam, drop-append-add}
use Rattle.ped_base.specs.Letters.{is_digit}
use Rattle.ped_base.specs.Lists.{has_some}
use Rattle.ped_certificates.specs.declared.claims.Position.{Position}
use Rattle.ped_certificates.specs.declared.claims.Sign.{Sign}
use Rattle.ped_certificates.specs.declared.claims.Sign.TheVariants.{Before, Same, After, Any}
use Rattle.ped_certificates.specs.PairTexts.{place_text, sign_text, pattern_text}
use Rattle.ped_script.specs.Words.{Text, is_blank, number_of}
use Rattle.ped_script.specs.EvidenceLines.{cut_at, place_of, signs_of, pattern_of}

abbrev is_point : ℕ → Bool
is_point c = eqb c 46

-- a conjunction that holds
both : (a b : Bool) → (a && b) ≡ true → (a ≡ true) × (b ≡ true)
both true b h = (refl, h)
both false b h = absurd cc

no_point : (d : ℕ) → is_digit d ≡ true → is_point d ≡ false
no_point d h = grind arith

-- a point behind digits is the first
before_point : (ds rest : Text) → list_all is_digit ds ≡ true → position_or_len is_point (ds ++ 46 ∷ rest) ≡ length ds
before_point [] rest h = refl
before_point (d ∷ ds) rest h =
    let k = both (is_digit d) (list_all is_digit ds) h in
    let more : position_or_len is_point ((d ∷ ds) ++ 46 ∷ rest) ≡ 1 + position_or_len is_point (ds ++ 46 ∷ rest) = rw (no_point d k.0) refl in
    omega (arith, more, before_point ds rest k.1)

longer : (ds rest : Text) → length ds < length (ds ++ 46 ∷ rest)
longer [] rest = omega arith
longer (d ∷ ds) rest = omega (arith, longer ds rest)

found_inside : (n i m : ℕ) → n ≡ i → i < m → cond (ltb n m) (Some n) None ≡ Some i
found_inside n i m e h = let inside : ltb n m ≡ true = grind (arith, e, h) in ap (λ b. cond b (Some n) None) inside ∙ ap Some e

-- what is before and behind a point behind digits
point_cut : (ds rest : Text) → list_all is_digit ds ≡ true → cut_at 46 (ds ++ 46 ∷ rest) ≡ Some (ds, rest)
point_cut ds rest h =
    let w = ds ++ 46 ∷ rest in
    let found : position is_point w ≡ Some (length ds) = found_inside (position_or_len is_point w) (length ds) (length w) (before_point ds rest h) (longer ds rest) in
    ap (option_map (λ i. (take i w, drop (i + 1) w))) found
    ∙ ap (λ (x : Text). Some (x, drop (length ds + 1) w)) (take-append_seam ds (46 ∷ rest))
    ∙ ap (λ (x : Text). Some (ds, x)) (drop-append-add ds (46 ∷ rest) 1)

abbrev place_at : ℕ → ℕ → Position
place_at s n = record { statement = s; number = n }

point_joined : (v w : Text) → v ++ codes "." ++ w ≡ v ++ 46 ∷ w
point_joined v w = append_assoc v (codes ".") w

-- the text of a place, with its point
place_is : (p : Position) → place_text p ≡ decimal p.statement ++ 46 ∷ decimal p.number
place_is p = point_joined (decimal p.statement) (decimal p.number)

-- a place is read again
pub place_again : (p : Position) → list_all is_digit (decimal p.statement) ≡ true → number_of 9 (decimal p.statement) ≡ Some p.statement → number_of 9 (decimal p.number) ≡ Some p.number → place_of (place_text p) ≡ Some p
place_again p digits s n =
    let read : Option (Text × Text) → Option Position = λ o. option_and_then (λ x. option_and_then (λ s. option_map (place_at s) (number_of 9 x.1)) (number_of 9 x.0)) o in
    ap place_of (place_is p)
    ∙ ap read (point_cut (decimal p.statement) (decimal p.number) digits)
    ∙ ap (λ o. option_and_then (λ s. option_map (place_at s) (number_of 9 (decimal p.number))) o) s
    ∙ ap (option_map (place_at p.statement)) n

-- signs behind the first, each after a comma
abbrev more_signs : List Sign → Text
more_signs xs = flat_map (λ y. codes "," ++ sign_text y) xs

-- signs are read again
signs_again : (x : Sign) (xs : List Sign) → signs_of ((sign_text x ++ more_signs xs) ++ codes ")") ≡ Some (x ∷ xs)
signs_again Before [] = refl
signs_again Same [] = refl
signs_again After [] = refl
signs_again Any [] = refl
signs_again Before (y ∷ ys) = ap (option_map (λ signs. Before ∷ signs)) (signs_again y ys)
signs_again Same (y ∷ ys) = ap (option_map (λ signs. Same ∷ signs)) (signs_again y ys)
signs_again After (y ∷ ys) = ap (option_map (λ signs. After ∷ signs)) (signs_again y ys)
signs_again Any (y ∷ ys) = ap (option_map (λ signs. Any ∷ signs)) (signs_again y ys)

-- a pattern is read again
pub pattern_again : (pattern : List Sign) → 1 ≤ length pattern → pattern_of (pattern_text pattern) ≡ Some pattern
pattern_again [] h = absurd (omega arith)
pattern_again (x ∷ xs) h = signs_again x xs

-- a text without a blank
abbrev pub HasInk : Text → Type 0
HasInk w = AllByRecursion (λ c. is_blank c ≡ false) w

ink_joined : (v w : Text) → HasInk v → HasInk w → HasInk (v ++ w)
ink_joined [] w h k = k
ink_joined (c ∷ cs) w h k = (h.0, ink_joined cs w h.1 k)

some_joined : (v w : Text) → has_some v ≡ true → has_some (v ++ w) ≡ true
some_joined [] w h = absurd cc
some_joined (c ∷ cs) w h = refl

-- the text of a place is a word
pub place_some : (p : Position) → has_some (decimal p.statement) ≡ true → has_some (place_text p) ≡ true
place_some p h = ap has_some (place_is p) ∙ some_joined (decimal p.statement) (46 ∷ decimal p.number) h

pub place_ink : (p : Position) → HasInk (decimal p.statement) → HasInk (decimal p.number) → HasInk (place_text p)
place_ink p s n = subst HasInk (sym (place_is p)) (ink_joined (decimal p.statement) (46 ∷ decimal p.number) s (refl, n))

sign_ink : (x : Sign) → HasInk (sign_text x)
sign_ink Before = (refl, tt)
sign_ink Same = (refl, tt)
sign_ink After = (refl, tt)
sign_ink Any = (refl, tt)

more_ink : (xs : List Sign) → HasInk (more_signs xs)
more_ink [] = tt
more_ink (x ∷ xs) = ink_joined (codes "," ++ sign_text x) (more_signs xs) (refl, sign_ink x) (more_ink xs)

signs_ink : (pattern : List Sign) → HasInk (join_by sign_text (codes ",") pattern)
signs_ink [] = tt
signs_ink (x ∷ xs) = ink_joined (sign_text x) (more_signs xs) (sign_ink x) (more_ink xs)

-- the text of a pattern has no blank
pub pattern_ink : (pattern : List Sign) → HasInk (pattern_text pattern)
pattern_ink pattern = (refl, ink_joined (join_by sign_text (codes ",") pattern) (codes ")") (signs_ink pattern) (refl, tt))
