use Rattle.std.proofs.Common.{rules, w32, FitsSigned, ◌≡◌, ◌<◌, ◌^◌, ◌∙◌, refl, ap, arith, List, [], ◌∷◌, ◌++◌, take, drop, false, length}
use Rattle.std.specs.Option.{option_map_or}
use Rattle.std.proofs.lemmas.Int.{to_z-of_z}
use Rattle.std.proofs.lemmas.List.Elements.{All-same}
use Rattle.std.proofs.lemmas.Result.{IfOk-weaker, on_ok_weaker}
use Rattle.ped_certificates.specs.declared.systems.Row.{Row}
use Rattle.ped_certificates.specs.Limits.{IsRow}
use Rattle.ped_certificates.specs.Branches.{left_by}
use Rattle.ped_certificates.specs.Certificates.{more_than, close}
use Rattle.ped_certificates.proofs.Stepping.{kept_of, kept_with, second_begins}
use Rattle.ped_certificates.proofs.checking.+close.Goals as goal

pub begin_second-requires-clause-rows : goal.begin_second-requires-clause-rows
begin_second-requires-clause-rows t c =
    let kept : c.len-kept.result ≡ length c.args.added.now.items = omega (arith, c.len-kept.ensures, c.args.added.now.ok) in
    let same = kept_of c.args.added.now.items c.take_step.new.added.items c.close-in-Divided.new.added.items (take c.len-kept.result c.close-in-Divided.new.added.items) c.len-kept.result kept c.in_ok-take_step.ensures.kept c.in_ok-next-in-Divided.ensures.kept refl in
    All-same (IsRow c.args.system.now.unknowns (2 ^ 64)) (take c.len-kept.result c.close-in-Divided.new.added.items) c.args.added.now.items same c.requires.added

pub returns-in_ok-begin_second-in-Some-clause-closes : goal.returns-in_ok-begin_second-in-Some-clause-closes
returns-in_ok-begin_second-in-Some-clause-closes t c =
    let n = c.args.system.now.unknowns in
    let given = c.args.system.now.rows in
    let before = c.args.added.now.items in
    let steps = c.args.steps.now in
    let begun = c.begin_second.new.added.items in
    let kept : c.len-kept.result ≡ length c.args.added.now.items = omega (arith, c.len-kept.ensures, c.args.added.now.ok) in
    let same = kept_of before c.take_step.new.added.items c.close-in-Divided.new.added.items (take c.len-kept.result c.close-in-Divided.new.added.items) c.len-kept.result kept c.in_ok-take_step.ensures.kept c.in_ok-next-in-Divided.ensures.kept refl in
    let below : c.args.from < length steps = grind (arith, c.if-from-steps.false) in
    let taken = c.in_ok-take_step.ensures.taken ∙ ap (left_by n given before c.take_step.new.added.items) c.in-Divided.is in
    let fits : FitsSigned w32 c.in-Divided.most = search rules in
    let begins = c.in_ok-begin_second-in-Some.ensures.items ∙ (λ i. same i ++ more_than n c.in-Divided.unknown (to_z-of_z w32 c.in-Divided.most fits i) ∷ []) in
    IfOk-weaker c.close-in-Some.result
    (λ next. (branches : List (List Row)) → close n ((given ++ begun) ∷ branches) (drop c.in-Some.next steps) ≡ option_map_or (λ k. close n branches (drop k steps)) next false)
    (λ next. (branches : List (List Row)) → close n ((given ++ before) ∷ branches) (drop c.args.from steps) ≡ option_map_or (λ k. close n branches (drop k steps)) next false)
    (λ next h branches.
    second_begins n c.in-Divided.unknown c.in-Divided.most given before c.take_step.new.added.items steps c.args.from c.index-steps-from.result below c.index-steps-from.is taken
    c.in_ok-next-in-Divided.field-0 c.in-Some.next c.in_ok-next-in-Divided.ensures.closes c.in-Some.is begun begins branches
    ∙ h branches)
    c.close-in-Some.ensures.closes

pub returns-in_ok-begin_second-in-Some-clause-kept : goal.returns-in_ok-begin_second-in-Some-clause-kept
returns-in_ok-begin_second-in-Some-clause-kept t c =
    let n = c.args.system.now.unknowns in
    let before = c.args.added.now.items in
    let kept : c.len-kept.result ≡ length c.args.added.now.items = omega (arith, c.len-kept.ensures, c.args.added.now.ok) in
    let same = kept_of before c.take_step.new.added.items c.close-in-Divided.new.added.items (take c.len-kept.result c.close-in-Divided.new.added.items) c.len-kept.result kept c.in_ok-take_step.ensures.kept c.in_ok-next-in-Divided.ensures.kept refl in
    let row = more_than n c.in-Divided.unknown c.in-Divided.most in
    let fits : FitsSigned w32 c.in-Divided.most = search rules in
    let begins = c.in_ok-begin_second-in-Some.ensures.items ∙ (λ i. same i ++ more_than n c.in-Divided.unknown (to_z-of_z w32 c.in-Divided.most fits i) ∷ []) in
    on_ok_weaker c.close-in-Some.result (kept_with before c.begin_second.new.added.items c.close-in-Some.new.added.items row begins) c.close-in-Some.ensures.kept
