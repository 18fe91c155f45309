use Rattle.std.proofs.Common.{rules, ◌≡◌, ℕ, ℤ, pos, ◌<◌, ◌+ℤ◌, ◌*ℤ◌, List, length, get_or, set, ap, sym, ◌∙◌, add-one, FitsSigned}
use Rattle.std.specs.Int.{w128}
use Rattle.std.proofs.lemmas.Int.{to_z-of_z}
use Rattle.ped_certificates.proofs.Adding.{front, front_read, front_more}
use Rattle.ped_certificates.proofs.rows.add_multiple.Goals as goal

pub loop-k-preserved : goal.loop-k-preserved
loop-k-preserved c =
    let f : ℤ → ℤ = λ a. c.args.part.now.factor *ℤ a in
    let row : List ℤ = c.args.row.now in
    let initial : List ℤ = c.args.sum.now in
    let k = c.loop-k.k in
    let fa : FitsSigned w128 (get_or row k (pos 0)) = search rules in
    let fx : FitsSigned w128 (get_or c.loop-k.sum k (pos 0)) = search rules in
    let fr : FitsSigned w128 c.multiple_and.result = search rules in
    let below : k < length row = c.loop-k-test.true in
    let inv : c.loop-k.sum ≡ front f k row initial = c.loop-k.invariant in
    let read : get_or c.loop-k.sum k (pos 0) ≡ get_or initial k (pos 0) = ap (λ (xs : List ℤ). get_or xs k (pos 0)) inv ∙ front_read f k row initial (pos 0) below c.requires.as_many in
    let e = simp to_z-of_z at c.multiple_and.ensures.sum in
    let v : c.multiple_and.result ≡ f (get_or row k (pos 0)) +ℤ get_or initial k (pos 0) = e ∙ ap (λ (x : ℤ). f (get_or row k (pos 0)) +ℤ x) read in
    simp to_z-of_z
    (ap (λ (xs : List ℤ). set xs k c.multiple_and.result) inv
    ∙ front_more f k row initial (pos 0) c.multiple_and.result below c.requires.as_many v
    ∙ ap (λ (n : ℕ). front f n row initial) (sym (add-one k)))
