-- The rows of the groups of a view, found position by position.
use Rattle.std.proofs.Common.{◌≡◌, ℕ, zero, suc, ◌<◌, ℤ, pos, All, List, [], ◌∷◌, ◌++◌, length, get_or, Bool, true, false, ◌&&◌, ◌==◌, if◌then◌else◌, IsTrue, refl, ap, ◌∙◌, arith}
use Rattle.std.specs.List.{AllByRecursion}
use Rattle.std.proofs.lemmas.Bool.Decides.{Decides-eqb}
use Rattle.std.proofs.lemmas.List.Elements.{All-from_recursion}
use Rattle.std.proofs.lemmas.List.{length-append}
use Rattle.ped_views.specs.declared.strong_rows.StrongRow.{StrongRow}
use Rattle.ped_views.specs.Views.{SubscriptPair}
use Rattle.ped_views.specs.Forms.{Occurrence, Form, ziv, strong_siv, weak_zero_siv, weak_crossing_siv, other_form, form_of}
use Rattle.ped_views.specs.Excluded.{rows_in, group_of}
use Rattle.ped_verdict.proofs.FormFacts.{Facts, facts}

-- the row of a pair with these constants
abbrev pub row : ℤ → SubscriptPair → StrongRow
row a p = record { a = a; c1 = p.source.constant; c2 = p.sink.constant }

-- a pair that is strong SIV in the loop has its row there, and any other pair none
pub own_row : (o : Occurrence) (p : SubscriptPair) → IsTrue p.usable → form_of p ≡ strong_siv o → rows_in o.place (form_of p) p ≡ row o.at_source p ∷ []
own_row o p usable form =
    let t : (p.usable && o.place == o.place) ≡ true = ap (λ b. b && o.place == o.place) usable ∙ (Decides-eqb o.place o.place).1 refl in
    ap (λ (f : Form). rows_in o.place f p) form ∙ ap (λ b. if b then row o.at_source p ∷ [] else []) t

-- a group that has a position has a row
pub group_some : (k : ℕ) (positions : List SubscriptPair) (at : ℕ) (p : SubscriptPair) → at < length positions → get_or positions at p ≡ p → 0 < length (rows_in k (form_of p) p) → 0 < length (group_of k positions)
group_some k [] at p below e h = absurd (omega arith)
group_some k (q ∷ positions) zero p below e h =
    let l = length-append (rows_in k (form_of q) q) (group_of k positions) in
    let s = ap (λ (x : SubscriptPair). length (rows_in k (form_of x) x)) e in
    omega arith
group_some k (q ∷ positions) (suc at) p below e h =
    let l = length-append (rows_in k (form_of q) q) (group_of k positions) in
    let s = group_some k positions at p (omega arith) e h in
    omega arith

-- no coefficient of a group is 0
abbrev IsSome : StrongRow → Type 0
IsSome s = ¬ (s.a ≡ pos 0)

joined : (P : StrongRow → Type 0) (xs ys : List StrongRow) → AllByRecursion P xs → AllByRecursion P ys → AllByRecursion P (xs ++ ys)
joined P [] ys h k = k
joined P (x ∷ xs) ys h k = (h.0, joined P xs ys h.1 k)

rows_some : (k : ℕ) (p : SubscriptPair) (f : Form) → Facts f p → AllByRecursion IsSome (rows_in k f p)
rows_some k p (strong_siv o) h = by (p.usable && o.place == k)
  where
    by : (b : Bool) → AllByRecursion IsSome (if b then row o.at_source p ∷ [] else [])
    by true = (h.1, tt)
    by false = tt
rows_some k p ziv h = tt
rows_some k p (weak_zero_siv o) h = tt
rows_some k p (weak_crossing_siv o) h = tt
rows_some k p other_form h = tt

pub all_some : (k : ℕ) (positions : List SubscriptPair) → All (λ s. ¬ (s.a ≡ pos 0)) (group_of k positions)
all_some k positions = All-from_recursion IsSome (group_of k positions) (go positions)
  where
    go : (ps : List SubscriptPair) → AllByRecursion IsSome (group_of k ps)
    go [] = tt
    go (p ∷ ps) = joined IsSome (rows_in k (form_of p) p) (group_of k ps) (rows_some k p (form_of p) (facts p)) (go ps)
