-- What the words of a line write, word by word: the choices of a run, and the names of a reduction.
use Rattle.std.proofs.Common.{◌≡◌, List, [], ◌∷◌, ◌++◌, Option, Some, None, option_map, option_and_then, refl, sym, ap, ◌∙◌, append_assoc, append-nil}
use Rattle.ped_script.specs.Words.{Text, all_of}

-- what was read so far, and what the words that are left write
abbrev pub all_read : {A : Type 0} → (Text → Option A) → List A → List Text → Option (List A)
all_read read xs words = option_map (λ ys. xs ++ ys) (all_of read words)

moved : {A : Type 0} (xs : List A) (x : A) (o : Option (List A)) → option_map (λ ys. (xs ++ x ∷ []) ++ ys) o ≡ option_map (λ ys. xs ++ ys) (option_map (λ ys. x ∷ ys) o)
moved xs x None = refl
moved xs x (Some ys) = ap Some (append_assoc xs (x ∷ []) ys)

all_of_none : {A : Type 0} (o : Option (List A)) → option_map (λ ys. [] ++ ys) o ≡ o
all_of_none None = refl
all_of_none (Some ys) = refl

-- before the first word
pub at_first : {A : Type 0} (read : Text → Option A) (xs : List A) (words : List Text) → xs ≡ [] → all_read read xs words ≡ all_of read words
at_first {A} read xs words e = ap (λ (xs : List A). all_read read xs words) e ∙ all_of_none (all_of read words)

-- a word that writes something
pub at_some : {A : Type 0} (read : Text → Option A) (xs new : List A) (x : A) (word : Text) (left rest : List Text) → left ≡ word ∷ rest → read word ≡ Some x → new ≡ xs ++ x ∷ [] → all_read read new rest ≡ all_read read xs left
at_some {A} read xs new x word left rest e h m =
    ap (λ (ys : List A). all_read read ys rest) m ∙ moved xs x (all_of read rest)
    ∙ ap (λ o. option_map (λ ys. xs ++ ys) (option_and_then (λ y. option_map (λ ys. y ∷ ys) (all_of read rest)) o)) (sym h)
    ∙ ap (all_read read xs) (sym e)

-- a word that writes nothing
pub at_other : {A : Type 0} (read : Text → Option A) (xs : List A) (word : Text) (left rest : List Text) → left ≡ word ∷ rest → read word ≡ None → all_read read xs left ≡ None
at_other read xs word left rest e h =
    ap (all_read read xs) e ∙ ap (λ o. option_map (λ ys. xs ++ ys) (option_and_then (λ y. option_map (λ ys. y ∷ ys) (all_of read rest)) o)) h

-- behind the last word
pub at_last : {A : Type 0} (read : Text → Option A) (xs : List A) (left : List Text) → left ≡ [] → all_read read xs left ≡ Some xs
at_last read xs left e = ap (all_read read xs) e ∙ ap Some (append-nil xs)
