-- The statements up to which there are too many pairs: from the first of them on, all.
use Rattle.std.proofs.Common.{◌≡◌, ℕ, ◌+◌, ◌<◌, ◌≤◌, List, [], ◌∷◌, filter, Bool, true, false, Option, Some, None, if◌then◌else◌, refl, ap, sym, ◌∙◌, arith}
use Rattle.std.specs.Prelude.{nat_le, not, MatchOption}
use Rattle.std.proofs.lemmas.Bool.{le-leb, lt-leb}
use Rattle.ped_refs.specs.References.{Reference, is_pair, pair_count}
use Rattle.ped_refs.specs.PairLimit.{most_pairs, references_until, IsFirstBeyond}
use Rattle.ped_refs.proofs.RelatedPairs.{related, related-filter-le}
use Rattle.ped_refs.proofs.GroupPairs.{pair_count_is}
use Rattle.ped_symbols.specs.StorageLimits.{has_many_pairs}
use Rattle.ped_symbols.specs.Passes.{is_reached, CountsTo}

-- the references of the statements up to a number
abbrev up_to : ℕ → Reference → Bool
up_to number r = nat_le r.statement number

step : (k : ℕ) (r : Reference) (xs ys : List Reference) (a b : Bool) → up_to k r ≡ a → (a ≡ true → b ≡ true) → filter (up_to k) xs ≡ ys
    → filter (up_to k) (if b then r ∷ xs else xs) ≡ (if a then r ∷ ys else ys)
step k r xs ys a true e h is = λ i. if e i then r ∷ is i else is i
step k r xs ys false false e h is = is
step k r xs ys true false e h is = absurd (let no : false ≡ true = h refl in cc)

-- those up to a statement are among those up to a later one
until_until : (k m : ℕ) → k ≤ m → (refs : List Reference) → references_until k (references_until m refs) ≡ references_until k refs
until_until k m h [] = refl
until_until k m h (r ∷ refs) =
    step k r (references_until m refs) (references_until k refs) (up_to k r) (up_to m r) refl (λ e. grind (arith, h, e)) (until_until k m h refs)

-- up to a later statement there are no fewer pairs
later_pairs : (refs : List Reference) (k m : ℕ) → k ≤ m → pair_count (references_until k refs) ≤ pair_count (references_until m refs)
later_pairs refs k m h =
    let part : related is_pair (references_until k (references_until m refs)) ≤ related is_pair (references_until m refs) = related-filter-le is_pair (up_to k) (references_until m refs) in
    let same : related is_pair (references_until k (references_until m refs)) ≡ related is_pair (references_until k refs) = ap (related is_pair) (until_until k m h refs) in
    omega (arith, pair_count_is (references_until k refs), pair_count_is (references_until m refs), part, same)

-- up to no statement there are more pairs than among all references
all_pairs : (refs : List Reference) (k : ℕ) → pair_count (references_until k refs) ≤ pair_count refs
all_pairs refs k = omega (arith, pair_count_is (references_until k refs), pair_count_is refs, related-filter-le is_pair (up_to k) refs)

many_from : (refs : List Reference) (n k : ℕ) → IsFirstBeyond refs n → (later : Bool) → nat_le n k ≡ later → has_many_pairs refs k ≡ later
many_from refs n k h true e =
    let after : n ≤ k = grind (arith, e) in
    ap not (lt-leb (pair_count (references_until k refs)) most_pairs (omega (arith, h.beyond, later_pairs refs n k after)))
many_from refs n k h false e =
    let before : k < n = grind (arith, e) in
    ap not (le-leb (pair_count (references_until k refs)) most_pairs (h.within_before k before))

-- the pairs are too many from the first statement on at which they are, and else nowhere
many_by : (refs : List Reference) (first : Option ℕ) → MatchOption first (pair_count refs ≤ most_pairs) (λ n. IsFirstBeyond refs n) → (k : ℕ) → has_many_pairs refs k ≡ is_reached first k
many_by refs None few k = ap not (le-leb (pair_count (references_until k refs)) most_pairs (omega (arith, few, all_pairs refs k)))
many_by refs (Some n) h k = many_from refs n k h (nat_le n k) refl

-- so many statements come before the first, where it is known
pub counts_to : (refs : List Reference) (first until : Option ℕ) → MatchOption first (pair_count refs ≤ most_pairs) (λ n. IsFirstBeyond refs n)
    → ((others : ℕ) → is_reached until others ≡ is_reached first (others + 1)) → CountsTo refs 0 until
counts_to refs first until h one others =
    let number : 0 + others + 1 ≡ others + 1 = omega arith in
    ap (has_many_pairs refs) number ∙ many_by refs first h (others + 1) ∙ sym (one others)
