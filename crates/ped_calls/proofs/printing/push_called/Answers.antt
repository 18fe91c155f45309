use Rattle.std.proofs.Common.{rules, ◌≡◌, ℕ, List, [], ◌∷◌, ◌++◌, false, Result, Ok, Err, OnOk, map, length, sym, ap, ◌∙◌, append_assoc, eqb}
use Rattle.std.specs.Prelude.{codes}
use Rattle.ped_tree.specs.Printing.{exprs_text}
use Rattle.ped_tree.specs.Views.{expr_tree, pack_exprs}
use Rattle.ped_tree.specs.declared.expressions.Expr.{Expr}
use Rattle.ped_links.specs.ped_units.specs.Units.{arguments_text}
use Rattle.ped_calls.proofs.printing.push_called.Goals as goal

regroup : (a b t : List ℕ) → a ++ b ++ codes "(" ++ t ++ codes ")" ≡ a ++ b ++ (codes "(" ++ t ++ codes ")")
regroup a b t = simp append_assoc

-- the name and the arguments in parentheses
pushed : {A E : Type 0} (result : Result A E) (out old new name : List ℕ) (es : List Expr) → eqb (length es) 0 ≡ false → old ≡ out ++ name
    → OnOk result (new ≡ old ++ codes "(" ++ exprs_text (pack_exprs (map expr_tree es)) ++ codes ")") → OnOk result (new ≡ out ++ name ++ arguments_text (pack_exprs (map expr_tree es)))
pushed (Err e) out old new name es h o k = tt
pushed (Ok x) out old new name [] h o k = absurd cc
pushed (Ok x) out old new name (e ∷ es) h o k =
    let t = exprs_text (pack_exprs (map expr_tree (e ∷ es))) in
    k ∙ ap (λ (w : List ℕ). w ++ codes "(" ++ t ++ codes ")") o ∙ regroup out name t

pub returns : goal.returns
returns c =
    let named : c.extend_from_slice.new.self ≡ c.args.out.now ++ c.args.name.now = search rules in
    pushed c.push_enclosed.result c.args.out.now c.extend_from_slice.new.self c.push_enclosed.new.out c.args.name.now c.args.arguments.now (sym c.is_empty.ensures ∙ c.if-is_empty.false) named c.push_enclosed.ensures
