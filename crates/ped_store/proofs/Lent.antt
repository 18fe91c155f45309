-- What is lent out of a table.
use Rattle.std.proofs.Common.{◌≡◌, Bor, Option, Some, None, MatchOption, option_copied}

-- what is lent is what a copy of it would be
pub lent : {X : Type 0} (r : Option (Bor X)) (o : Option X) → option_copied r ≡ o → MatchOption r (None ≡ o) (λ x. Some x.now ≡ o)
lent None o h = h
lent (Some x) o h = h
