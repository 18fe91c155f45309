-- What stands behind a product of signs, sign by sign.
use Rattle.std.proofs.Common.{◌≡◌, Bool, true, false, eqb, length, arith, List, [], ◌∷◌, ◌++◌, map, Option, Some, None, Bor, refl, sym, ap, ◌∙◌, subst, append_assoc}
use Rattle.std.specs.Prelude.{MatchOption, if◌then◌else◌}
use Rattle.std.specs.List.{flat_map}
use Rattle.std.proofs.lemmas.Bool.{eqb-true}
use Rattle.std.proofs.lemmas.List.{append-nil, map-append, append_cancel_left}
use Rattle.std.proofs.lemmas.List.Concat.{flat_map-append}
use Rattle.ped_views.specs.declared.directions.Direction.{Direction}
use Rattle.ped_views.specs.declared.directions.Direction.TheVariants.{Before, Same, After}
use Rattle.ped_edges.specs.Rows.{product}
use Rattle.ped_edges.specs.CodeSigns.{signs_of, begun_with, DontBegin}
use Rattle.ped_edges.specs.declared.signs.Signs.{Signs}

-- vectors that begin with the front and then the direction
further : (front : List Direction) (d : Direction) (vectors : List (List Direction))
    → map (λ v. front ++ v) (map (λ v. d ∷ v) vectors) ≡ map (λ v. (front ++ d ∷ []) ++ v) vectors
further front d [] = refl
further front d (v ∷ vectors) = λ i. sym (append_assoc front (d ∷ []) v) i ∷ further front d vectors i

-- a product sign by sign
by_signs : (front : List Direction) (signs : List Direction) (rest : List (List Direction))
    → begun_with front (signs ∷ rest) ≡ flat_map (λ d. begun_with (front ++ d ∷ []) rest) signs
by_signs front [] rest = refl
by_signs front (d ∷ signs) rest =
    map-append (λ v. front ++ v) (map (λ v. d ∷ v) (product rest)) (flat_map (λ d. map (λ v. d ∷ v) (product rest)) signs)
    ∙ (λ i. further front d (product rest) i ++ by_signs front signs rest i)

-- the part of one sign
one_sign : (f : Direction → List (List Direction)) (b : Bool) (d : Direction) → flat_map f (if b then d ∷ [] else []) ≡ (if b then f d else [])
one_sign f true d = append-nil (f d)
one_sign f false d = refl

-- a product in three parts
pub three_parts : (front : List Direction) (s : Signs) (rest : List (List Direction))
    → begun_with front (signs_of s ∷ rest)
    ≡ (if s.before then begun_with (front ++ Before ∷ []) rest else [])
    ++ (if s.same then begun_with (front ++ Same ∷ []) rest else [])
    ++ (if s.after then begun_with (front ++ After ∷ []) rest else [])
three_parts front s rest =
    let f : Direction → List (List Direction) = λ d. begun_with (front ++ d ∷ []) rest in
    let a : List Direction = (if s.before then Before ∷ [] else []) in
    let b : List Direction = (if s.same then Same ∷ [] else []) in
    let c : List Direction = (if s.after then After ∷ [] else []) in
    by_signs front (signs_of s) rest
    ∙ flat_map-append f (a ++ b) c
    ∙ ap (λ (x : List (List Direction)). x ++ flat_map f c) (flat_map-append f a b)
    ∙ (λ i. (one_sign f s.before Before i ++ one_sign f s.same Same i) ++ one_sign f s.after After i)

-- vectors that don't begin with a part don't begin with the whole
no_part : (a b vectors : List (List Direction)) → DontBegin a vectors → DontBegin (a ++ b) vectors
no_part a b vectors h rest e = h (b ++ rest) (e ∙ append_assoc a b rest)

-- what stands behind a part doesn't begin with the next one
no_next : (a b vectors rest : List (List Direction)) → vectors ≡ a ++ rest → DontBegin b rest → DontBegin (a ++ b) vectors
no_next a b vectors rest e h more f = h more (append_cancel_left a rest (b ++ more) (sym e ∙ f ∙ append_assoc a b more))

-- one part behind the other
next : (a b vectors rest more : List (List Direction)) → vectors ≡ a ++ rest → rest ≡ b ++ more → vectors ≡ (a ++ b) ++ more
next a b vectors rest more e f = e ∙ ap (λ (x : List (List Direction)). a ++ x) f ∙ sym (append_assoc a b more)

-- the next part, where there may be none
either : (a b vectors rest : List (List Direction)) (r : Option (Bor (List (List Direction)))) → vectors ≡ a ++ rest
    → MatchOption r (DontBegin b rest) (λ x. rest ≡ b ++ x.now) → MatchOption r (DontBegin (a ++ b) vectors) (λ x. vectors ≡ (a ++ b) ++ x.now)
either a b vectors rest None e h = no_next a b vectors rest e h
either a b vectors rest (Some x) e h = next a b vectors rest x.now e h

-- none, where the vectors don't begin so
pub none_stripped : (these vectors : List (List Direction)) (r : Option (Bor (List (List Direction)))) → r ≡ None → DontBegin these vectors
    → MatchOption r (DontBegin these vectors) (λ x. vectors ≡ these ++ x.now)
none_stripped these vectors r e h = subst (λ (o : Option (Bor (List (List Direction)))). MatchOption o (DontBegin these vectors) (λ x. vectors ≡ these ++ x.now)) (sym e) h

-- the part of a product with one sign at the first place
abbrev pub part : Bool → List Direction → List Signs → List (List Direction)
part stands front places = if stands then begun_with front (map signs_of places) else []

-- a product in the three parts that the code takes off
parts : (front f1 f2 f3 : List Direction) (s : Signs) (rest places : List Signs)
    → places ≡ s ∷ rest → f1 ≡ front ++ Before ∷ [] → f2 ≡ front ++ Same ∷ [] → f3 ≡ front ++ After ∷ []
    → part s.before f1 rest ++ part s.same f2 rest ++ part s.after f3 rest ≡ begun_with front (map signs_of places)
parts front f1 f2 f3 s rest places p e1 e2 e3 =
    (λ i. part s.before (e1 i) rest ++ part s.same (e2 i) rest ++ part s.after (e3 i) rest)
    ∙ sym (three_parts front s (map signs_of rest))
    ∙ ap (λ (x : List Signs). begun_with front (map signs_of x)) (sym p)

-- without the first part there is no product
pub first_missing : (front f1 : List Direction) (s : Signs) (rest places : List Signs) (vectors : List (List Direction))
    → places ≡ s ∷ rest → f1 ≡ front ++ Before ∷ []
    → DontBegin (part s.before f1 rest) vectors → DontBegin (begun_with front (map signs_of places)) vectors
first_missing front f1 s rest places vectors p e1 h =
    let b : List (List Direction) = part s.same (front ++ Same ∷ []) rest in
    let c : List (List Direction) = part s.after (front ++ After ∷ []) rest in
    subst (λ (these : List (List Direction)). DontBegin these vectors) (parts front f1 (front ++ Same ∷ []) (front ++ After ∷ []) s rest places p e1 refl refl)
    (no_part (part s.before f1 rest ++ b) c vectors (no_part (part s.before f1 rest) b vectors h))

-- without the second part there is no product
pub second_missing : (front f1 f2 : List Direction) (s : Signs) (rest places : List Signs) (vectors behind : List (List Direction))
    → places ≡ s ∷ rest → f1 ≡ front ++ Before ∷ [] → f2 ≡ front ++ Same ∷ []
    → vectors ≡ part s.before f1 rest ++ behind
    → DontBegin (part s.same f2 rest) behind → DontBegin (begun_with front (map signs_of places)) vectors
second_missing front f1 f2 s rest places vectors behind p e1 e2 v h =
    let a : List (List Direction) = part s.before f1 rest in
    let b : List (List Direction) = part s.same f2 rest in
    let c : List (List Direction) = part s.after (front ++ After ∷ []) rest in
    subst (λ (these : List (List Direction)). DontBegin these vectors) (parts front f1 f2 (front ++ After ∷ []) s rest places p e1 e2 refl)
    (no_part (a ++ b) c vectors (no_next a b vectors behind v h))

-- the third part ends the product
pub third_stripped : (front f1 f2 f3 : List Direction) (s : Signs) (rest places : List Signs) (vectors behind last : List (List Direction))
    (r : Option (Bor (List (List Direction))))
    → places ≡ s ∷ rest → f1 ≡ front ++ Before ∷ [] → f2 ≡ front ++ Same ∷ [] → f3 ≡ front ++ After ∷ []
    → vectors ≡ part s.before f1 rest ++ behind
    → behind ≡ part s.same f2 rest ++ last
    → MatchOption r (DontBegin (part s.after f3 rest) last) (λ x. last ≡ part s.after f3 rest ++ x.now)
    → MatchOption r (DontBegin (begun_with front (map signs_of places)) vectors) (λ x. vectors ≡ begun_with front (map signs_of places) ++ x.now)
third_stripped front f1 f2 f3 s rest places vectors behind last r p e1 e2 e3 v w h =
    let a : List (List Direction) = part s.before f1 rest in
    let b : List (List Direction) = part s.same f2 rest in
    let c : List (List Direction) = part s.after f3 rest in
    subst (λ (these : List (List Direction)). MatchOption r (DontBegin these vectors) (λ x. vectors ≡ these ++ x.now))
    (parts front f1 f2 f3 s rest places p e1 e2 e3)
    (either (a ++ b) c vectors last r (next a b vectors behind last v w) h)

none_left : (rest : List Signs) → length rest ≡ 0 → rest ≡ []
none_left [] e = refl
none_left (v ∷ rest) e = absurd (omega (arith, e))

-- a product with one place left
pub only_place : (front : List Direction) (s : Signs) (rest places : List Signs) (vectors : List (List Direction)) (r : Option (Bor (List (List Direction)))) (b : Bool)
    → places ≡ s ∷ rest → b ≡ eqb (length rest) 0 → b ≡ true
    → MatchOption r (DontBegin (begun_with front (signs_of s ∷ [])) vectors) (λ x. vectors ≡ begun_with front (signs_of s ∷ []) ++ x.now)
    → MatchOption r (DontBegin (begun_with front (map signs_of places)) vectors) (λ x. vectors ≡ begun_with front (map signs_of places) ++ x.now)
only_place front s rest places vectors r b p e t h =
    subst (λ (ps : List Signs). MatchOption r (DontBegin (begun_with front (map signs_of ps)) vectors) (λ x. vectors ≡ begun_with front (map signs_of ps) ++ x.now))
    (sym (p ∙ ap (λ (more : List Signs). s ∷ more) (none_left rest (eqb-true (length rest) 0 (sym e ∙ t))))) h
