-- What is first in a text, and what follows it (this project).
use Rattle.std.specs.Prelude.{ℕ, List, [], ◌∷◌, codes, Option, Some, None, Bool, false, ◌==◌, if◌then◌else◌}
use Rattle.ped_tree.specs.Grammar.ExpressionForms.{Sign, unsigned, positive, negative, Adding, add, subtract, Scaling, multiply, divide}

-- a value and the characters after it, where there is one
abbrev pub Answer : Type 0 → Type 0
Answer A = Option (A × List ℕ)

infixl 10 ◌>>=◌
-- goes on with the value, where there is one
abbrev pub ◌>>=◌ : {A B : Type 0} → Option A → (A → Option B) → Option B
None >>= f = None
(Some x) >>= f = f x

-- goes on with the value where there is one, and else stops
abbrev pub go_on : {A B : Type 0} → Option A → B → (A → B) → B
go_on None stop go = stop
go_on (Some x) stop go = go x

-- the characters up to the first that fails
abbrev pub front : (ℕ → Bool) → List ℕ → List ℕ
front p [] = []
front p (c ∷ cs) = if p c then (c ∷ front p cs) else []

-- the characters from the first that fails on
abbrev pub behind : (ℕ → Bool) → List ℕ → List ℕ
behind p [] = []
behind p (c ∷ cs) = if p c then behind p cs else (c ∷ cs)

-- the first character, where there is one, passes
abbrev pub first_is : (ℕ → Bool) → List ℕ → Bool
first_is p [] = false
first_is p (c ∷ cs) = p c

-- what follows the prefix
abbrev pub after : List ℕ → List ℕ → Option (List ℕ)
after [] text = Some text
after (p ∷ ps) [] = None
after (p ∷ ps) (c ∷ cs) = if p == c then after ps cs else None

-- the sign before a term
abbrev pub sign_at : List ℕ → Sign × List ℕ
sign_at text = go_on (after (codes "+") text) (go_on (after (codes "-") text) (unsigned, text) (λ r. (negative, r))) (λ r. (positive, r))

-- + or -
abbrev pub adding_at : List ℕ → Answer Adding
adding_at text = go_on (after (codes "+") text) (go_on (after (codes "-") text) None (λ r. Some (subtract, r))) (λ r. Some (add, r))

-- * or /, which ** is taken for too
abbrev pub scaling_at : List ℕ → Answer Scaling
scaling_at text = go_on (after (codes "*") text) (go_on (after (codes "/") text) None (λ r. Some (divide, r))) (λ r. Some (multiply, r))
