use Rattle.std.proofs.Common.{◌≡◌, ◌+◌, ◌++◌, ◌∷◌, ℕ, List, map, drop, Option, Some, None, MatchOption, sym, ap, ◌∙◌, subst, arith, append-nil}
use Rattle.std.specs.Prelude.{option_map}
use Rattle.std.proofs.lemmas.List.{drop_more, drop_all}
use Rattle.ped_tree.specs.Views.{program_tree}
use Rattle.ped_reduce.specs.declared.partials.Partials.{Partials as CodePartials}
use Rattle.ped_reduce.specs.Lowering.{Partials, fresh_arrays, partials_of}
use Rattle.ped_reduce.specs.CodeLowering.{partials_view, fresh_from}
use Rattle.ped_reduce.proofs.FreshArrays.{begin, one_more}
use Rattle.ped_reduce.proofs.partials.partials_of.Goals as goal

pub loop-name-init : goal.loop-name-init
loop-name-init c =
    let t = program_tree c.args.program.now in
    let names = c.args.names.now in
    ap (λ (xs : List CodePartials). option_map (λ (ps : List Partials). map partials_view xs ++ ps) (partials_of names (fresh_from t 1))) c.new-all.ensures.items ∙ begin t names

pub loop-name-preserved : goal.loop-name-preserved
loop-name-preserved c =
    let t = program_tree c.args.program.now in
    let names = c.args.names.now in
    let i = c.loop-name.name-index in
    let x = c.name-item.result in
    let xs = drop (i + 1) names in
    let p = c.in-Some.found in
    let fresh = fresh_from t c.loop-name.next in
    let left = fresh_from t c.three_arrays.new.next in
    let is = drop_more names i x c.loop-name-test.true ∙ ap (λ (q : List ℕ). q ∷ xs) (sym c.name-item.is) in
    let told = subst (λ (o : Option CodePartials). MatchOption o (partials_of (x ∷ xs) fresh ≡ None) (λ q. partials_of (x ∷ xs) fresh ≡ option_map (λ ps. partials_view q ∷ ps) (partials_of xs left))) c.in-Some.is (c.in_ok-found.ensures xs) in
    ap (λ (zs : List CodePartials). option_map (λ (ps : List Partials). map partials_view zs ++ ps) (partials_of xs left)) c.in_ok-push-in-Some.ensures.items
    ∙ one_more c.loop-name.all.items p (drop i names) xs x fresh left (partials_of names (fresh_arrays t)) is c.loop-name.invariant told

pub returns : goal.returns
returns c =
    let t = program_tree c.args.program.now in
    let all = map partials_view c.loop-name.all.items in
    let fresh = fresh_from t c.loop-name.next in
    let left = drop_all c.loop-name.name-index c.args.names.now (omega (arith, c.loop-name-test.false)) in
    sym c.loop-name.invariant
    ∙ ap (λ (ns : List (List ℕ)). option_map (λ (ps : List Partials). all ++ ps) (partials_of ns fresh)) left
    ∙ ap (λ (ps : List Partials). Some ps) (append-nil all)
