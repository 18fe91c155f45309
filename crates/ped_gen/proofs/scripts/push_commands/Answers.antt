use Rattle.std.proofs.Common.{ℕ, ◌+◌, ◌*◌, List, [], ◌∷◌, ◌++◌, ap, sym, ◌∙◌, append_assoc, append-nil, codes}
use Rattle.std.specs.Fmt.{decimal}
use Rattle.ped_gen.proofs.scripts.push_commands.Goals as goal

pub returns : goal.returns
returns c =
    let before = c.args.text.now in
    let first = codes "interchange " ++ decimal (3 * c.args.nest + 1) ++ 10 ∷ [] in
    let second = codes "parallel " ++ decimal (3 * c.args.nest + 2) ++ 10 ∷ [] in
    c.in_ok-push_command-2.ensures
    ∙ ap (λ (t : List ℕ). t ++ second) c.in_ok-push_command.ensures
    ∙ append_assoc before first second
    ∙ ap (λ (t : List ℕ). before ++ (first ++ t)) (sym (append-nil second))
