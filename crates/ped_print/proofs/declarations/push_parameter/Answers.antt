use Rattle.std.proofs.Common.{◌≡◌, ◌++◌, List, [], ◌∷◌, append_assoc, ℕ, map, codes}
use Rattle.std.specs.List.{join_by}
use Rattle.std.proofs.lemmas.Result.{on_ok_weaker}
use Rattle.ped_tree.specs.Printing.{parameter_text}
use Rattle.ped_tree.specs.Views.{value_tree}
use Rattle.ped_print.proofs.declarations.push_parameter.Goals as goal

behind : (start front text new middle first end : List ℕ) → first ≡ start ++ front → middle ≡ first ++ text → new ≡ middle ++ end → new ≡ start ++ (front ++ (text ++ end))
behind start front text new middle first end p q r =
    let a = append_assoc start front text in let b = append_assoc start (front ++ text) end in let c = append_assoc front text end in cc

pub returns : goal.returns
returns c = on_ok_weaker c.push.result
    (λ e. behind c.args.out.now (codes "PARAMETER (") (join_by parameter_text (codes ", ") (map value_tree c.args.all.now)) c.push.new.self c.push_constants.new.out c.extend_from_slice.new.self (41 ∷ []) c.in_ok-extend_from_slice.ensures.ok c.in_ok-push_constants.ensures e)
    c.push.ensures.ok
