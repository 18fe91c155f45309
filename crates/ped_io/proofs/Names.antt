-- The names that a shelf has noted since.
use Rattle.std.proofs.Common.{◌≡◌, sym, ap, ◌∙◌, ℕ, List, [], ◌∷◌, ◌++◌}
use Rattle.std.specs.List.{AllByRecursion}
use Rattle.std.proofs.lemmas.List.{append_assoc}
use Rattle.ped_io.specs.Outside.{AddsOnly}

all_both : {X : Type 0} (P : X → Type 0) (xs ys : List X) → AllByRecursion P xs → AllByRecursion P ys → AllByRecursion P (xs ++ ys)
all_both P [] ys all more = more
all_both P (x ∷ xs) ys all more = (all.0, all_both P xs ys all.1 more)

all_weaker : {X : Type 0} (P Q : X → Type 0) → ((x : X) → P x → Q x) → (xs : List X) → AllByRecursion P xs → AllByRecursion Q xs
all_weaker P Q weaker [] all = tt
all_weaker P Q weaker (x ∷ xs) all = (weaker x all.0, all_weaker P Q weaker xs all.1)

-- such names were noted, and then more of them
pub adds_more : (IsSuch : List ℕ → Type 0) (a b c : List (List ℕ)) → AddsOnly IsSuch a b → AddsOnly IsSuch b c → AddsOnly IsSuch a c
adds_more IsSuch a b c first then = (
  then.0 ++ first.0,
  then.1 ∙ ap (λ names. then.0 ++ names) first.1 ∙ sym (append_assoc then.0 first.0 a),
  all_both IsSuch then.0 first.0 then.2 first.2,
)

-- names of one kind are of each wider one
pub adds_weaker : (IsThis IsSuch : List ℕ → Type 0) (a b : List (List ℕ)) → ((name : List ℕ) → IsThis name → IsSuch name) → AddsOnly IsThis a b → AddsOnly IsSuch a b
adds_weaker IsThis IsSuch a b weaker adds = (adds.0, adds.1, all_weaker IsThis IsSuch weaker adds.0 adds.2)
