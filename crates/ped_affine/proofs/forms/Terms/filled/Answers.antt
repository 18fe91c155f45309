use Rattle.std.proofs.Common.{◌≡◌, ℕ, ◌+◌, ◌++◌, List, length, replicate, ℤ, pos, ap, ◌∙◌, arith, rules, w64, FitsSigned}
use Rattle.std.proofs.lemmas.Int.{to_z-of_z}
use Rattle.std.proofs.lemmas.Grind.{common_steps}
use Rattle.std.proofs.lemmas.List.{length-map, length-append}
use Rattle.ped_tree.specs.Nests.{Loop, indices_of}
use Rattle.ped_refs.specs.Loops.{nest_of, loop_of}
use Rattle.ped_refs.specs.declared.loops.Loop.{Loop as CodeLoop}
use Rattle.ped_affine.specs.KeptForms.{unknowns_of}
use Rattle.ped_affine.proofs.FormLaws.{filled_is, nil_of}
use Rattle.ped_affine.proofs.forms.Terms.filled.Goals as goal

-- how many unknowns there are
count : (nest : List CodeLoop) (others : List (List ℕ)) → length (indices_of (nest_of nest) ++ others) ≡ length nest + length others
count nest others =
    length-append (indices_of (nest_of nest)) others
    ∙ ap (λ (n : ℕ). n + length others) (length-map (nest_of nest) (λ (l : Loop). l.head.variable) ∙ length-map nest loop_of)

pub returns-clause-form : goal.returns-clause-form
returns-clause-form c =
    let fc : FitsSigned w64 c.args.f.constant = search rules in
    let none : length c.args.f.coefficients.items ≡ 0 = grind (arith, common_steps) in
    let nest = c.args.self.now.nest.now in
    let others = c.args.self.now.others.now in
    let zeros : c.add_zeros-2.new.coefficients.items ≡ replicate (length nest) (pos 0) ++ replicate (length others) (pos 0) =
    c.in_ok-add_zeros-2.ensures ∙ ap (λ (xs : List ℤ). xs ++ replicate (length others) (pos 0)) (c.in_ok-add_zeros.ensures ∙ ap (λ (xs : List ℤ). xs ++ replicate (length nest) (pos 0)) c.in_ok-coefficients.ensures.items) in
    filled_is (unknowns_of c.args.self.now) c.args.f.coefficients.items _ (length nest) (length others) c.args.f.constant _ (nil_of c.args.f.coefficients.items none) zeros (count nest others) (to_z-of_z w64 c.args.f.constant fc)
