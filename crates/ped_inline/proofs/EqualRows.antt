-- Rows that their order can't tell apart are the same.
use Rattle.std.proofs.Common.{◌≡◌, ℕ, ◌<◌, List, [], ◌∷◌, Option, Some, None, refl, ap, subst}
use Rattle.std.proofs.lemmas.Cmp.{ranked}
use Rattle.std.specs.Ordering.{nat_cmp, ordering_then, MatchOrdering}
use Rattle.std.specs.declared.cmp.Ordering.{Ordering}
use Rattle.std.specs.declared.cmp.Ordering.TheVariants.{Less, Equal, Greater}
use Rattle.std.specs.Cmp.Lexicographic.{slice_cmp}
use Rattle.ped_edges.specs.Edges.{Kind, flow, anti, output}
use Rattle.ped_inline.specs.Folding.{Row, kind_rank, level_cmp, row_cmp}

nat_equal : (a b : ℕ) → nat_cmp a b ≡ Equal → a ≡ b
nat_equal a b h = subst (λ (o : Ordering). MatchOrdering o (a < b) (a ≡ b) (b < a)) h (ranked a b (nat_cmp a b) refl)

then_equal : (o p : Ordering) → ordering_then o p ≡ Equal → (o ≡ Equal) × (p ≡ Equal)
then_equal Less p h = absurd cc
then_equal Equal p h = (refl, h)
then_equal Greater p h = absurd cc

text_equal : (xs ys : List ℕ) → slice_cmp nat_cmp xs ys ≡ Equal → xs ≡ ys
text_equal [] [] h = refl
text_equal [] (y ∷ ys) h = absurd cc
text_equal (x ∷ xs) [] h = absurd cc
text_equal (x ∷ xs) (y ∷ ys) h =
    let p = then_equal (nat_cmp x y) (slice_cmp nat_cmp xs ys) h in
    let first = nat_equal x y p.0 in
    let rest = text_equal xs ys p.1 in
    λ i. first i ∷ rest i

kind_equal : (a b : Kind) → kind_rank a ≡ kind_rank b → a ≡ b
kind_equal flow flow h = refl
kind_equal flow anti h = absurd cc
kind_equal flow output h = absurd cc
kind_equal anti flow h = absurd cc
kind_equal anti anti h = refl
kind_equal anti output h = absurd cc
kind_equal output flow h = absurd cc
kind_equal output anti h = absurd cc
kind_equal output output h = refl

level_equal : (a b : Option ℕ) → level_cmp a b ≡ Equal → a ≡ b
level_equal (Some a) (Some b) h = ap Some (nat_equal a b h)
level_equal (Some a) None h = absurd cc
level_equal None (Some b) h = absurd cc
level_equal None None h = refl

pub row_equal : (r s : Row) → row_cmp r s ≡ Equal → r ≡ s
row_equal r s h =
    let levels : Ordering = level_cmp r.level s.level in
    let kinds : Ordering = ordering_then (nat_cmp (kind_rank r.kind) (kind_rank s.kind)) levels in
    let names : Ordering = ordering_then (slice_cmp nat_cmp r.name s.name) kinds in
    let sinks : Ordering = ordering_then (nat_cmp r.sink s.sink) names in
    let a = then_equal (nat_cmp r.source s.source) sinks h in
    let b = then_equal (nat_cmp r.sink s.sink) names a.1 in
    let c = then_equal (slice_cmp nat_cmp r.name s.name) kinds b.1 in
    let d = then_equal (nat_cmp (kind_rank r.kind) (kind_rank s.kind)) levels c.1 in
    let source = nat_equal r.source s.source a.0 in
    let sink = nat_equal r.sink s.sink b.0 in
    let name = text_equal r.name s.name c.0 in
    let kind = kind_equal r.kind s.kind (nat_equal (kind_rank r.kind) (kind_rank s.kind) d.0) in
    let level = level_equal r.level s.level d.1 in
    λ i. record { source = source i; sink = sink i; name = name i; kind = kind i; level = level i }
