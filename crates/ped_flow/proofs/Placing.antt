-- The places of names among names.
use Rattle.std.proofs.Common.{◌≡◌, ℕ, List, [], ◌∷◌, Bool, true, false, ◌||◌, position, IsTrue, Result, Ok, Err, OnOk, OnErr, ◌⊎◌, inl, inr, refl, sym, ap, ◌∙◌}
use Rattle.ped_base.specs.Lists.{is_same_text, is_among}
use Rattle.ped_base.specs.contracts.identifiers.NamePartialEq.TheImpl as code
use Rattle.ped_tree.specs.Names.Collecting.{with_name}
use Rattle.ped_tree.proofs.NameLaws.Collected.{among_collected}
use Rattle.ped_base.proofs.NameEquality.{name_same, same_is}
use Rattle.ped_flow.specs.RowPlaces.{place_of}

-- the code's search for a name
pub place_same : (x : List ℕ) (names : List (List ℕ)) → position ((code.eq-value).it x) names ≡ place_of names x
place_same x names = λ i. position (λ y. name_same x y i) names

-- names that are no constants stay so
pub variables_after : (names new cs : List (List ℕ)) (y : List ℕ) → ((x : List ℕ) → IsTrue (is_among x names) → is_among x cs ≡ false) → is_among y cs ≡ false → (new ≡ with_name names y) ⊎ (new ≡ names)
    → (x : List ℕ) → IsTrue (is_among x new) → is_among x cs ≡ false
variables_after names new cs y vars h (inr e) x t = vars x (ap (is_among x) (sym e) ∙ t)
variables_after names new cs y vars h (inl e) x t = by (is_among x names) refl
  where
    split : is_among x new ≡ (is_among x names || (is_same_text x y || false))
    split = ap (is_among x) e ∙ among_collected x names (y ∷ [])

    or_false : (a : Bool) → (a || false) ≡ a
    or_false true = refl
    or_false false = refl

    by : (r : Bool) → is_among x names ≡ r → is_among x cs ≡ false
    by true k = vars x k
    by false k = ap (λ (z : List ℕ). is_among z cs) (same_is x y (sym (or_false (is_same_text x y)) ∙ sym (ap (λ (b : Bool). b || (is_same_text x y || false)) k) ∙ sym split ∙ t)) ∙ h

-- an answer of either kind
pub ok_or_err : {X E : Type 0} {A B : Type 0} (r : Result X E) → OnOk r A → OnErr r B → A ⊎ B
ok_or_err (Ok x) a b = inl a
ok_or_err (Err e) a b = inr b
