-- No two references of a program have one place.
use Rattle.std.proofs.Common.{◌≡◌, List, [], ◌∷◌, sym, ap, subst, ◌∙◌, inl, inr, arith}
use Rattle.std.specs.List.{AllByRecursion}
use Rattle.ped_laws.specs.ped_flow.specs.ped_tree.specs.Tree.{ProgramTree}
use Rattle.ped_laws.specs.ped_graph.specs.ped_refs.specs.References.{Reference, references}
use Rattle.ped_laws.specs.ped_graph.specs.ped_refs.proofs.Ascending.{Ascending, Precedes, references_ascend}
use Rattle.ped_laws.specs.Acts.Orders.{IsIn}

pub each_in : {X : Type 0} (P : X → Type 0) (x : X) (xs : List X) → AllByRecursion P xs → IsIn x xs → P x
each_in P x [] h i = absurd i
each_in P x (y ∷ ys) h (inl e) = subst P (sym e) h.0
each_in P x (y ∷ ys) h (inr i) = each_in P x ys h.1 i

no_earlier : (r q : Reference) → r.statement ≡ q.statement → r.number ≡ q.number → Precedes r q → ⊥
no_earlier r q e f (inl less) = omega (arith, e, less)
no_earlier r q e f (inr both) = let less = both.1 in omega (arith, f, less)

one_of_them : (r q : Reference) (refs : List Reference) → Ascending Precedes refs → IsIn r refs → IsIn q refs → r.statement ≡ q.statement → r.number ≡ q.number → r ≡ q
one_of_them r q [] h i j e f = absurd i
one_of_them r q (x ∷ refs) h (inl i) (inl j) e f = i ∙ sym j
one_of_them r q (x ∷ refs) h (inl i) (inr j) e f = absurd (no_earlier x q (ap (λ (z : Reference). z.statement) (sym i) ∙ e) (ap (λ (z : Reference). z.number) (sym i) ∙ f) (each_in (Precedes x) q refs h.0 j))
one_of_them r q (x ∷ refs) h (inr i) (inl j) e f = absurd (no_earlier x r (ap (λ (z : Reference). z.statement) (sym j) ∙ sym e) (ap (λ (z : Reference). z.number) (sym j) ∙ sym f) (each_in (Precedes x) r refs h.0 i))
one_of_them r q (x ∷ refs) h (inr i) (inr j) e f = one_of_them r q refs h.1 i j e f

-- references of one statement and with one number are one reference
pub one_reference : (t : ProgramTree) (r q : Reference) → IsIn r (references t) → IsIn q (references t) → r.statement ≡ q.statement → r.number ≡ q.number → r ≡ q
one_reference t r q i j e f = one_of_them r q (references t) (references_ascend t) i j e f
