use Rattle.std.proofs.Common.{◌≡◌, List, [], ◌∷◌, ℕ, Option, MatchOption, subst}
use Rattle.ped_tree.specs.Views.{program_tree}
use Rattle.ped_reduce.specs.CodeLowering.{fresh_from}
use Rattle.ped_reduce.proofs.FreshArrays.{some_three}
use Rattle.ped_reduce.proofs.partials.three_arrays.Goals as goal

pub returns : goal.returns
returns c =
    let t = program_tree c.args.program.now in
    let all = fresh_from t c.args.next.now in
    let one = fresh_from t c.fresh_array.new.next in
    let two = fresh_from t c.fresh_array-2.new.next in
    let three = fresh_from t c.fresh_array-3.new.next in
    let first = subst (λ (o : Option (List ℕ)). MatchOption o (all ≡ []) (λ x. all ≡ x ∷ one)) c.in-Some.is c.in_ok-high.ensures in
    let second = subst (λ (o : Option (List ℕ)). MatchOption o (one ≡ []) (λ x. one ≡ x ∷ two)) c.in-Some-2.is c.in_ok-low.ensures in
    let third = subst (λ (o : Option (List ℕ)). MatchOption o (two ≡ []) (λ x. two ≡ x ∷ three)) c.in-Some-3.is c.in_ok-flag.ensures in
    λ xs. some_three c.args.name.now xs c.in-Some.high c.in-Some-2.low c.in-Some-3.flag all one two three first second third
