use Rattle.std.proofs.Common.{ℕ, List, [], ◌∷◌, ◌++◌, Bool, ◌&&◌, ◌≤◌, IsTrue, length, take, sym, ap, subst, ◌∙◌, ◌+◌}
use Rattle.std.specs.List.{list_any}
use Rattle.std.proofs.lemmas.List.{take_all, take_more}
use Rattle.ped_bits.specs.Places.{Has}
use Rattle.ped_refs.specs.Occurrences.{references_of}
use Rattle.ped_splits.specs.CodeUnits.{refers_by}
use Rattle.ped_splits.proofs.ArrowLaws.{Adds, adds_same, added_more}
use Rattle.ped_splits.proofs.ReferenceRows.{both_refer}
use Rattle.ped_splits.proofs.arrows.add_links.Goals as goal

pub loop-name-preserved : goal.loop-name-preserved
loop-name-preserved c =
    let k = c.loop-name.name-index in
    let names = c.as_slice-name-items.result.now in
    let private = c.args.parted.now.statement.now.private in
    let refers : List ℕ → ℕ → Bool = λ x i. refers_by c.args.parted.now.number c.args.parted.now.homes.now (references_of c.args.found.now) x i in
    let both : ℕ → ℕ → List ℕ → Bool = λ i j x. refers x i && refers x j in
    let name = c.name-item.result in
    let is_slice = c.as_slice-name-items.ensures in
    let longer = ap (λ (xs : List (List ℕ)). take (k + 1) xs) (sym is_slice) ∙ take_more names k name c.loop-name-test.true ∙ (λ i. take k (is_slice i) ++ sym c.name-item.is i ∷ []) in
    added_more c.args.arrows.now c.loop-name.arrows c.link.new.arrows both (take k private) (take (k + 1) private) name longer c.loop-name.invariant c.link.ensures.width
    (adds_same c.loop-name.arrows c.link.new.arrows (λ i j. Has c.in_ok-units.units i × Has c.in_ok-units.units j) (λ i j. IsTrue (both i j name)) c.link.ensures.arrows (both_refer c.in_ok-units.units (refers name) c.in_ok-units.ensures.units))

pub returns-clause-arrows : goal.returns-clause-arrows
returns-clause-arrows c =
    let k = c.loop-name.name-index in
    let private = c.args.parted.now.statement.now.private in
    let both : ℕ → ℕ → List ℕ → Bool = λ i j x. refers_by c.args.parted.now.number c.args.parted.now.homes.now (references_of c.args.found.now) x i && refers_by c.args.parted.now.number c.args.parted.now.homes.now (references_of c.args.found.now) x j in
    let ends = subst (λ (xs : List (List ℕ)). length xs ≤ k) c.as_slice-name-items.ensures c.loop-name-test.false in
    subst (λ (xs : List (List ℕ)). Adds c.args.arrows.now c.loop-name.arrows (λ i j. IsTrue (list_any (both i j) xs))) (take_all k private ends) c.loop-name.invariant.arrows
