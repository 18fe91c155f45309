-- What tables and sets of names find is what stands in the lists of the definitions.
use Rattle.std.proofs.Common.{◌≡◌, ℕ, List, [], ◌∷◌, ◌++◌, Bool, true, false, ◌&&◌, Option, Some, None, is_some, eqb, eqb-true, refl, ap, sym, ◌∙◌, if◌then◌else◌}
use Rattle.std.specs.Prelude.{◌||◌}
use Rattle.std.specs.Map.{lookup}
use Rattle.ped_base.specs.Lists.{is_same_text, is_among}
use Rattle.ped_base.specs.contracts.identifiers.NamePartialEq.TheImpl as code
use Rattle.ped_base.proofs.NameEquality.{name_same, same_is}
use Rattle.ped_limits.proofs.SameNames.{among_append}
use Rattle.ped_symbols.specs.Entries.{entry_of, with_entry}
use Rattle.ped_symbols.specs.Passes.{HaveSame}

both_true : (a b : Bool) → a && b ≡ true → (a ≡ true) × (b ≡ true)
both_true true b h = (refl, h)
both_true false b h = absurd cc

-- the first, or else the second (plain words)
abbrev or_else : {X : Type 0} → Option X → Option X → Option X
or_else None b = b
or_else (Some v) b = Some v

-- the table's lookup is the definition's
pub looked_up : {X : Type 0} (x : List ℕ) (es : List (List ℕ × X)) → lookup ((code.eq-value).it x) es ≡ entry_of es x
looked_up x es = λ i. lookup (λ y. name_same x y i) es

pick_else : {X : Type 0} (r : Bool) (v : X) (a b : Option X) → (if r then Some v else or_else a b) ≡ or_else (if r then Some v else a) b
pick_else true v a b = refl
pick_else false v a b = refl

-- one list behind the other
pub entry_append : {X : Type 0} (a b : List (List ℕ × X)) (x : List ℕ) → entry_of (a ++ b) x ≡ or_else (entry_of a x) (entry_of b x)
entry_append [] b x = refl
entry_append (e ∷ a) b x = ap (λ r. if is_same_text x e.0 then Some e.1 else r) (entry_append a b x) ∙ pick_else (is_same_text x e.0) e.1 (entry_of a x) (entry_of b x)

or_none : {X : Type 0} (a : Option X) → a ≡ or_else a None
or_none None = refl
or_none (Some v) = refl

some_else : {X : Type 0} (a b : Option X) → is_some a ≡ true → a ≡ or_else a b
some_else None b h = absurd cc
some_else (Some v) b h = refl

-- a name that is kept where it isn't there is found as one that is put behind
pub entry_with : {X : Type 0} (es : List (List ℕ × X)) (k : List ℕ) (v : X) (x : List ℕ) → entry_of (with_entry es k v) x ≡ entry_of (es ++ (k, v) ∷ []) x
entry_with es k v x = go (is_some (entry_of es k)) refl
  where
    there : is_some (entry_of es k) ≡ true → (r : Bool) → is_same_text x k ≡ r → entry_of es x ≡ or_else (entry_of es x) (if r then Some v else None)
    there h true q = some_else (entry_of es x) (Some v) (ap (λ z. is_some (entry_of es z)) (same_is x k q) ∙ h)
    there h false q = or_none (entry_of es x)

    go : (r : Bool) → is_some (entry_of es k) ≡ r → entry_of (if r then es else es ++ (k, v) ∷ []) x ≡ entry_of (es ++ (k, v) ∷ []) x
    go true h = there h (is_same_text x k) refl ∙ sym (entry_append es ((k, v) ∷ []) x)
    go false h = refl

-- a table goes on to say the same as a list when both get one more
pub kept_alike : {X : Type 0} (es before : List (List ℕ × X)) (k : List ℕ) (v : X) → ((x : List ℕ) → entry_of es x ≡ entry_of before x)
    → (x : List ℕ) → entry_of (with_entry es k v) x ≡ entry_of (before ++ (k, v) ∷ []) x
kept_alike es before k v h x =
    entry_with es k v x ∙ entry_append es ((k, v) ∷ []) x ∙ ap (λ a. or_else a (entry_of ((k, v) ∷ []) x)) (h x) ∙ sym (entry_append before ((k, v) ∷ []) x)

absorbed : (a b : Bool) → (b ≡ true → a ≡ true) → a ≡ (a || (b || false))
absorbed true b h = refl
absorbed false true h = absurd (let k : false ≡ true = h refl in cc)
absorbed false false h = refl

-- so does a set
pub added_alike : (names before : List (List ℕ)) (k : List ℕ) → HaveSame names before → HaveSame (if is_among k names then names else names ++ k ∷ []) (before ++ k ∷ [])
added_alike names before k h x = go (is_among k names) refl ∙ ap (λ a. a || (is_same_text x k || false)) (h x) ∙ sym (among_append x before (k ∷ []))
  where
    go : (r : Bool) → is_among k names ≡ r → is_among x (if r then names else names ++ k ∷ []) ≡ (is_among x names || (is_same_text x k || false))
    go true q = absorbed (is_among x names) (is_same_text x k) (λ e. ap (λ z. is_among z names) (same_is x k e) ∙ q)
    go false q = among_append x names (k ∷ [])

-- what isn't some is none
pub none_there : {X : Type 0} (o : Option X) → is_some o ≡ false → o ≡ None
none_there None h = refl
none_there (Some v) h = absurd cc
