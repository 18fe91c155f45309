-- Which names are read where files are read in order.
use Rattle.std.proofs.Common.{◌≡◌, inl, inr, ℕ, List, ◌∷◌}
use Rattle.ped_io.specs.Outside.{AddsOnly}
use Rattle.ped_io.proofs.Names.{adds_more, adds_weaker}
use Rattle.ped_answer.specs.Answer.{Input, IsOneOf}

-- the first file alone was read
pub first_read : (i : Input) (is : List Input) (a b : List (List ℕ)) → AddsOnly (λ name. name ≡ i.name) a b → AddsOnly (IsOneOf (i ∷ is)) a b
first_read i is a b first = adds_weaker (λ name. name ≡ i.name) (IsOneOf (i ∷ is)) a b (λ name e. inl e) first

-- the first file was read, and then others
pub then_read : (i : Input) (is : List Input) (a b c : List (List ℕ)) → AddsOnly (λ name. name ≡ i.name) a b → AddsOnly (IsOneOf is) b c → AddsOnly (IsOneOf (i ∷ is)) a c
then_read i is a b c first rest =
    adds_more (IsOneOf (i ∷ is)) a b c (first_read i is a b first) (adds_weaker (IsOneOf is) (IsOneOf (i ∷ is)) b c (λ name one. inr one) rest)
