-- The pairs of a trace are apart, so that names change places one for one; names of the main program stay.
use Rattle.std.proofs.Common.{◌≡◌, ℕ, List, [], ◌∷◌, ◌++◌, Bool, true, false, ◌||◌, refl, sym, ap, ◌∙◌}
use Rattle.std.proofs.lemmas.Bool.{both_ways}
use Rattle.ped_base.specs.Lists.{is_same_text, is_among}
use Rattle.ped_base.proofs.NameEquality.{same_is, same_itself, same_flip}
use Rattle.ped_call_runs.proofs.SwappedNames.{swapped, paired, AreApart, unpaired_stays}
use Rattle.ped_call_runs.proofs.TraceNames.{seconds, AreNew}
use Rattle.ped_call_runs.proofs.OwnNames.{IsNoOwn, firsts, IsOwnIn, OwnIn, NoneTwice}

neither_paired : (y : List ℕ) (ps : List (List ℕ × List ℕ)) → is_among y (firsts ps) ≡ false → is_among y (seconds ps) ≡ false → is_among y (paired ps) ≡ false
neither_paired y [] h k = refl
neither_paired y (p ∷ ps) h k =
    let a = neither (is_same_text y p.0) (is_among y (firsts ps)) h in
    let c = neither (is_same_text y p.1) (is_among y (seconds ps)) k in
    λ i. a.0 i || (c.0 i || neither_paired y ps a.1 c.1 i)
  where
    neither : (a b : Bool) → a || b ≡ false → (a ≡ false) × (b ≡ false)
    neither true b h = absurd cc
    neither false b h = (refl, h)

among_front : (y : List ℕ) (xs ys : List (List ℕ)) → is_among y xs ≡ true → is_among y (xs ++ ys) ≡ true
among_front y [] ys h = absurd cc
among_front y (x ∷ xs) ys h = go (is_same_text y x) (is_among y xs) (is_among y (xs ++ ys)) h (among_front y xs ys)
  where
    go : (a b c : Bool) → a || b ≡ true → (b ≡ true → c ≡ true) → a || c ≡ true
    go true b c h more = refl
    go false b c h more = more h

among_last : (y : List ℕ) (xs : List (List ℕ)) → is_among y (xs ++ y ∷ []) ≡ true
among_last y [] = ap (λ (t : Bool). t || false) (same_itself y)
among_last y (x ∷ xs) = ap (λ (t : Bool). is_same_text y x || t) (among_last y xs) ∙ go (is_same_text y x)
  where
    go : (a : Bool) → a || true ≡ true
    go true = refl
    go false = refl

-- a name that is taken is none of the new ones
pub taken_outside : (y : List ℕ) (taken : List (List ℕ)) (ps : List (List ℕ × List ℕ)) → AreNew taken ps → is_among y taken ≡ true → is_among y (seconds ps) ≡ false
taken_outside y taken [] h k = refl
taken_outside y taken (p ∷ ps) h k = λ i. apart (is_same_text y p.1) refl i || taken_outside y (taken ++ p.1 ∷ []) ps h.2 (among_front y taken (p.1 ∷ []) k) i
  where
    apart : (t : Bool) → is_same_text y p.1 ≡ t → is_same_text y p.1 ≡ false
    apart false e = e
    apart true e = absurd (both_ways (is_among p.1 taken) h.0 (ap (λ (z : List ℕ). is_among z taken) (sym (same_is y p.1 e)) ∙ k))

-- a name of a CALL's own is none of the new ones
own_outside : (lo hi : ℕ) (y : List ℕ) (taken : List (List ℕ)) (ps : List (List ℕ × List ℕ)) → IsOwnIn lo hi y → AreNew taken ps → is_among y (seconds ps) ≡ false
own_outside lo hi y taken [] a h = refl
own_outside lo hi y taken (p ∷ ps) a h = λ i. (ap (λ (z : List ℕ). is_same_text z p.1) a.is ∙ h.1 a.number a.name) i || own_outside lo hi y (taken ++ p.1 ∷ []) ps a h.2 i

-- and a name that is none is none of the first ones
pub no_own_outside : (lo hi : ℕ) (y : List ℕ) (ps : List (List ℕ × List ℕ)) → IsNoOwn y → OwnIn lo hi ps → is_among y (firsts ps) ≡ false
no_own_outside lo hi y [] h a = refl
no_own_outside lo hi y (p ∷ ps) h a = λ i. (same_flip y p.0 ∙ ap (λ (z : List ℕ). is_same_text z y) a.0.is ∙ h a.0.number a.0.name) i || no_own_outside lo hi y ps h a.1 i

-- no name stands in two pairs
pub pairs_apart : (lo hi : ℕ) (taken : List (List ℕ)) (ps : List (List ℕ × List ℕ)) → NoneTwice ps → OwnIn lo hi ps → AreNew taken ps → AreApart ps
pairs_apart lo hi taken [] h a n = tt
pairs_apart lo hi taken (p ∷ ps) h a n = (
  neither_paired p.0 ps h.0 (own_outside lo hi p.0 (taken ++ p.1 ∷ []) ps a.0 n.2),
  neither_paired p.1 ps (no_own_outside lo hi p.1 ps n.1 a.1) (taken_outside p.1 (taken ++ p.1 ∷ []) ps n.2 (among_last p.1 taken)),
  pairs_apart lo hi (taken ++ p.1 ∷ []) ps h.1 a.1 n.2,
)

-- a name that was taken and is none of a CALL's own stays
pub taken_stays : (lo hi : ℕ) (taken : List (List ℕ)) (ps : List (List ℕ × List ℕ)) → OwnIn lo hi ps → AreNew taken ps → (y : List ℕ) → is_among y taken ≡ true → IsNoOwn y → swapped ps y ≡ y
taken_stays lo hi taken ps a n y k h = unpaired_stays ps y (neither_paired y ps (no_own_outside lo hi y ps h a) (taken_outside y taken ps n k))
