use Rattle.std.proofs.Common.{◌≡◌, ℕ, ℤ, List, ◌∷◌, [], ◌+◌, ◌-◌, ◌<◌, true≢false, length, take, drop, refl, sym, ap, subst, ◌∙◌, Ok, Err, pos, replicate, map, to_z, arith, rules}
use Rattle.std.specs.Int.{w128}
use Rattle.std.specs.Int.RustNames.{FitsSigned}
use Rattle.std.proofs.lemmas.Int.{to_z-of_z}
use Rattle.std.proofs.lemmas.List.{length-set, drop-set-lt}
use Rattle.std.proofs.lemmas.Result.{err_from_is_err_and}
use Rattle.ped_base.specs.Arithmetic.Arithmetic.{sum_of, difference_of, negation_of, product_of, quotient_of, power_of, remainder_of, absolute_value_of, greatest_of, least_of}
use Rattle.ped_tree.specs.declared.expressions.Expr.{Expr}
use Rattle.ped_tree.specs.declared.expressions.Intrinsic.{Intrinsic}
use Rattle.ped_tree.specs.declared.expressions.Intrinsic.TheVariants.{Max, Min}
use Rattle.ped_tree.specs.Tree.{Element, Call, Add, Sub, Mul, Div, Pow}
use Rattle.ped_tree.specs.Views.{expr_tree, pack_exprs}
use Rattle.ped_store.specs.Cells as cells
use Rattle.ped_store.specs.CellViews.{cell_view}
use Rattle.ped_store.specs.Keeping.{memory_of}
use Rattle.ped_store.specs.Memories.{got}
use Rattle.ped_store.specs.Stores.{number_read}
use Rattle.ped_eval.specs.Evaluation.{by_number}
use Rattle.ped_eval.specs.Values.{is_rank}
use Rattle.ped_eval.specs.Results.{value_at, values_at, of_one, of_two, next_result}
use Rattle.ped_eval.specs.Noting.{HasNoted, seen_at, all_seen_at}
use Rattle.ped_eval.proofs.Levels.{tree-Int, tree-Var, tree-Element, tree-Neg, tree-Add, tree-Sub, tree-Mul, tree-Div, tree-Pow, tree-Call}
use Rattle.ped_eval.proofs.Steps.{int_at, neg_at, add_at, sub_at, mul_at, div_at, pow_at, element_at, seen_as, of_next, got_bounded, rank_is, target_ranked, target_unranked, target_faulted, named_by, fault_next, fault_here, fault_none, values_next, values_fault, values_all, with_front, front_none, rest_next, element_known, element_faulted, values_one_known, values_two_known, values_first_faulted, values_second_faulted}
use Rattle.ped_eval.proofs.Seeing.{int_seen, neg_seen, add_seen, sub_seen, mul_seen, div_seen, pow_seen, call_seen}
use Rattle.ped_eval.proofs.Notings.{none_noted, noted_as, outside_noted, next_noted, fault_noted, operands_noted, more_noted, last_noted, all_noted, element_noted, one_noted, pair_noted}
use Rattle.ped_eval.proofs.Intrinsics.{abs_at, mod_at, go_on, go_on-next, go_on-fault, go_on-done, call-fault, max_begins, min_begins, others_of}
use Rattle.ped_eval.proofs.evaluation.+value_of.Goals as goal

pub value_of-returns-in-Int-clause-value : goal.value_of-returns-in-Int-clause-value
value_of-returns-in-Int-clause-value t c =
    let fits : FitsSigned w128 c.from.result = search rules in
    ap Ok (to_z-of_z w128 c.from.result fits ∙ c.from.ensures) ∙ sym (int_at c.args.around.now c.in-Int.value) ∙ seen_as c.args.around.now c.args.e.now _ _ c.in-Int.is (tree-Int c.in-Int.value)

pub value_of-returns-in-Int-clause-noted : goal.value_of-returns-in-Int-clause-noted
value_of-returns-in-Int-clause-noted t c =
    noted_as c.args.notes.now c.args.notes.now _ _ (sym (ap (seen_at c.args.around.now) (ap expr_tree c.in-Int.is ∙ tree-Int _) ∙ int_seen c.args.around.now _)) (none_noted c.args.notes.now)

pub value_of-returns-in-Var-clause-value : goal.value_of-returns-in-Var-clause-value
value_of-returns-in-Var-clause-value t c =
    c.scalar_value.ensures.value ∙ seen_as c.args.around.now c.args.e.now _ _ c.in-Var.is (tree-Var c.in-Var.name)

pub value_of-returns-in-Var-clause-noted : goal.value_of-returns-in-Var-clause-noted
value_of-returns-in-Var-clause-noted t c =
    noted_as c.args.notes.now c.scalar_value.new.notes _ _ (sym (ap (seen_at c.args.around.now) (ap expr_tree c.in-Var.is ∙ tree-Var c.in-Var.name))) c.scalar_value.ensures.noted

pub value_of-returns-in-Element-clause-value : goal.value_of-returns-in-Element-clause-value
value_of-returns-in-Element-clause-value t c =
    c.element_value.ensures.value ∙ ap (λ (es : List Expr). value_at c.args.around.now (Element c.in-Element.name (pack_exprs (map expr_tree es)))) c.deref.ensures.value ∙ seen_as c.args.around.now c.args.e.now _ _ c.in-Element.is (tree-Element c.in-Element.name c.in-Element.subscripts)

pub value_of-returns-in-Element-clause-noted : goal.value_of-returns-in-Element-clause-noted
value_of-returns-in-Element-clause-noted t c =
    noted_as c.args.notes.now c.element_value.new.notes _ _
    (sym (ap (seen_at c.args.around.now) (ap expr_tree c.in-Element.is ∙ tree-Element c.in-Element.name c.in-Element.subscripts ∙ ap (λ (es : List Expr). Element c.in-Element.name (pack_exprs (map expr_tree es))) (sym c.deref.ensures.value)))) c.element_value.ensures.noted

pub value_of-returns-in-Neg-clause-value : goal.value_of-returns-in-Neg-clause-value
value_of-returns-in-Neg-clause-value t c =
    c.negative.ensures
    ∙ ap (of_one (λ u. by_number (negation_of u))) (c.operand_value.ensures.value ∙ ap (λ (a : Expr). value_at c.args.around.now (expr_tree a)) c.deref-in-Neg.ensures)
    ∙ sym (neg_at c.args.around.now (expr_tree c.in-Neg.a.value))
    ∙ seen_as c.args.around.now c.args.e.now _ _ c.in-Neg.is (tree-Neg c.in-Neg.a)

pub value_of-returns-in-Neg-clause-noted : goal.value_of-returns-in-Neg-clause-noted
value_of-returns-in-Neg-clause-noted t c =
    noted_as c.args.notes.now c.operand_value.new.notes _ _
    (sym (ap (seen_at c.args.around.now) (ap expr_tree c.in-Neg.is ∙ tree-Neg c.in-Neg.a) ∙ neg_seen c.args.around.now (expr_tree c.in-Neg.a.value) ∙ ap (λ (a : Expr). seen_at c.args.around.now (expr_tree a)) (sym c.deref-in-Neg.ensures))) c.operand_value.ensures.noted

pub value_of-returns-in-Add-clause-value : goal.value_of-returns-in-Add-clause-value
value_of-returns-in-Add-clause-value t c =
    let a = c.operand_value-left.ensures.value ∙ ap (λ (a : Expr). value_at c.args.around.now (expr_tree a)) c.deref-in-Add.ensures in
    let b = c.next_value-right.ensures.value ∙ (λ i. next_result (a i) (value_at c.args.around.now (expr_tree (c.deref-in-Add-2.ensures i)))) in
    c.added.ensures ∙ (λ i. of_two (λ u v. by_number (sum_of u v)) (a i) (b i))
    ∙ of_next (λ u v. by_number (sum_of u v)) (value_at c.args.around.now (expr_tree c.in-Add.a.value)) (value_at c.args.around.now (expr_tree c.in-Add.b.value))
    ∙ sym (add_at c.args.around.now (expr_tree c.in-Add.a.value) (expr_tree c.in-Add.b.value))
    ∙ seen_as c.args.around.now c.args.e.now _ _ c.in-Add.is (tree-Add c.in-Add.a c.in-Add.b)

pub value_of-returns-in-Add-clause-noted : goal.value_of-returns-in-Add-clause-noted
value_of-returns-in-Add-clause-noted t c =
    operands_noted c.args.around.now Add (add_seen c.args.around.now) c.args.notes.now c.operand_value-left.new.notes c.next_value-right.new.notes c.args.e.now c.in-Add.a.value c.in-Add.b.value
    c.deref-in-Add.result.now c.deref-in-Add.result.now c.deref-in-Add-2.result.now c.operand_value-left.result (ap expr_tree c.in-Add.is ∙ tree-Add c.in-Add.a c.in-Add.b)
    c.deref-in-Add.ensures c.deref-in-Add.ensures c.deref-in-Add-2.ensures c.operand_value-left.ensures.value c.operand_value-left.ensures.noted c.next_value-right.ensures.noted

pub value_of-returns-in-Sub-clause-value : goal.value_of-returns-in-Sub-clause-value
value_of-returns-in-Sub-clause-value t c =
    let a = c.operand_value-left-in-Sub.ensures.value ∙ ap (λ (a : Expr). value_at c.args.around.now (expr_tree a)) c.deref-in-Sub.ensures in
    let b = c.next_value-right-in-Sub.ensures.value ∙ (λ i. next_result (a i) (value_at c.args.around.now (expr_tree (c.deref-in-Sub-2.ensures i)))) in
    c.subtracted.ensures ∙ (λ i. of_two (λ u v. by_number (difference_of u v)) (a i) (b i))
    ∙ of_next (λ u v. by_number (difference_of u v)) (value_at c.args.around.now (expr_tree c.in-Sub.a.value)) (value_at c.args.around.now (expr_tree c.in-Sub.b.value))
    ∙ sym (sub_at c.args.around.now (expr_tree c.in-Sub.a.value) (expr_tree c.in-Sub.b.value))
    ∙ seen_as c.args.around.now c.args.e.now _ _ c.in-Sub.is (tree-Sub c.in-Sub.a c.in-Sub.b)

pub value_of-returns-in-Sub-clause-noted : goal.value_of-returns-in-Sub-clause-noted
value_of-returns-in-Sub-clause-noted t c =
    operands_noted c.args.around.now Sub (sub_seen c.args.around.now) c.args.notes.now c.operand_value-left-in-Sub.new.notes c.next_value-right-in-Sub.new.notes c.args.e.now c.in-Sub.a.value c.in-Sub.b.value
    c.deref-in-Sub.result.now c.deref-in-Sub.result.now c.deref-in-Sub-2.result.now c.operand_value-left-in-Sub.result (ap expr_tree c.in-Sub.is ∙ tree-Sub c.in-Sub.a c.in-Sub.b)
    c.deref-in-Sub.ensures c.deref-in-Sub.ensures c.deref-in-Sub-2.ensures c.operand_value-left-in-Sub.ensures.value c.operand_value-left-in-Sub.ensures.noted c.next_value-right-in-Sub.ensures.noted

pub value_of-returns-in-Mul-clause-value : goal.value_of-returns-in-Mul-clause-value
value_of-returns-in-Mul-clause-value t c =
    let a = c.operand_value-left-in-Mul.ensures.value ∙ ap (λ (a : Expr). value_at c.args.around.now (expr_tree a)) c.deref-in-Mul.ensures in
    let b = c.next_value-right-in-Mul.ensures.value ∙ (λ i. next_result (a i) (value_at c.args.around.now (expr_tree (c.deref-in-Mul-2.ensures i)))) in
    c.multiplied.ensures ∙ (λ i. of_two (λ u v. by_number (product_of u v)) (a i) (b i))
    ∙ of_next (λ u v. by_number (product_of u v)) (value_at c.args.around.now (expr_tree c.in-Mul.a.value)) (value_at c.args.around.now (expr_tree c.in-Mul.b.value))
    ∙ sym (mul_at c.args.around.now (expr_tree c.in-Mul.a.value) (expr_tree c.in-Mul.b.value))
    ∙ seen_as c.args.around.now c.args.e.now _ _ c.in-Mul.is (tree-Mul c.in-Mul.a c.in-Mul.b)

pub value_of-returns-in-Mul-clause-noted : goal.value_of-returns-in-Mul-clause-noted
value_of-returns-in-Mul-clause-noted t c =
    operands_noted c.args.around.now Mul (mul_seen c.args.around.now) c.args.notes.now c.operand_value-left-in-Mul.new.notes c.next_value-right-in-Mul.new.notes c.args.e.now c.in-Mul.a.value c.in-Mul.b.value
    c.deref-in-Mul.result.now c.deref-in-Mul.result.now c.deref-in-Mul-2.result.now c.operand_value-left-in-Mul.result (ap expr_tree c.in-Mul.is ∙ tree-Mul c.in-Mul.a c.in-Mul.b)
    c.deref-in-Mul.ensures c.deref-in-Mul.ensures c.deref-in-Mul-2.ensures c.operand_value-left-in-Mul.ensures.value c.operand_value-left-in-Mul.ensures.noted c.next_value-right-in-Mul.ensures.noted

pub value_of-returns-in-Div-clause-value : goal.value_of-returns-in-Div-clause-value
value_of-returns-in-Div-clause-value t c =
    let a = c.operand_value-left-in-Div.ensures.value ∙ ap (λ (a : Expr). value_at c.args.around.now (expr_tree a)) c.deref-in-Div.ensures in
    let b = c.next_value-right-in-Div.ensures.value ∙ (λ i. next_result (a i) (value_at c.args.around.now (expr_tree (c.deref-in-Div-2.ensures i)))) in
    c.divided.ensures ∙ (λ i. of_two (λ u v. by_number (quotient_of u v)) (a i) (b i))
    ∙ of_next (λ u v. by_number (quotient_of u v)) (value_at c.args.around.now (expr_tree c.in-Div.a.value)) (value_at c.args.around.now (expr_tree c.in-Div.b.value))
    ∙ sym (div_at c.args.around.now (expr_tree c.in-Div.a.value) (expr_tree c.in-Div.b.value))
    ∙ seen_as c.args.around.now c.args.e.now _ _ c.in-Div.is (tree-Div c.in-Div.a c.in-Div.b)

pub value_of-returns-in-Div-clause-noted : goal.value_of-returns-in-Div-clause-noted
value_of-returns-in-Div-clause-noted t c =
    operands_noted c.args.around.now Div (div_seen c.args.around.now) c.args.notes.now c.operand_value-left-in-Div.new.notes c.next_value-right-in-Div.new.notes c.args.e.now c.in-Div.a.value c.in-Div.b.value
    c.deref-in-Div.result.now c.deref-in-Div.result.now c.deref-in-Div-2.result.now c.operand_value-left-in-Div.result (ap expr_tree c.in-Div.is ∙ tree-Div c.in-Div.a c.in-Div.b)
    c.deref-in-Div.ensures c.deref-in-Div.ensures c.deref-in-Div-2.ensures c.operand_value-left-in-Div.ensures.value c.operand_value-left-in-Div.ensures.noted c.next_value-right-in-Div.ensures.noted

pub value_of-returns-in-Pow-clause-value : goal.value_of-returns-in-Pow-clause-value
value_of-returns-in-Pow-clause-value t c =
    let a = c.operand_value-left-in-Pow.ensures.value ∙ ap (λ (a : Expr). value_at c.args.around.now (expr_tree a)) c.deref-in-Pow.ensures in
    let b = c.next_value-right-in-Pow.ensures.value ∙ (λ i. next_result (a i) (value_at c.args.around.now (expr_tree (c.deref-in-Pow-2.ensures i)))) in
    c.raised.ensures ∙ (λ i. of_two (λ u v. by_number (power_of u v)) (a i) (b i))
    ∙ of_next (λ u v. by_number (power_of u v)) (value_at c.args.around.now (expr_tree c.in-Pow.a.value)) (value_at c.args.around.now (expr_tree c.in-Pow.b.value))
    ∙ sym (pow_at c.args.around.now (expr_tree c.in-Pow.a.value) (expr_tree c.in-Pow.b.value))
    ∙ seen_as c.args.around.now c.args.e.now _ _ c.in-Pow.is (tree-Pow c.in-Pow.a c.in-Pow.b)

pub value_of-returns-in-Pow-clause-noted : goal.value_of-returns-in-Pow-clause-noted
value_of-returns-in-Pow-clause-noted t c =
    operands_noted c.args.around.now Pow (pow_seen c.args.around.now) c.args.notes.now c.operand_value-left-in-Pow.new.notes c.next_value-right-in-Pow.new.notes c.args.e.now c.in-Pow.a.value c.in-Pow.b.value
    c.deref-in-Pow.result.now c.deref-in-Pow.result.now c.deref-in-Pow-2.result.now c.operand_value-left-in-Pow.result (ap expr_tree c.in-Pow.is ∙ tree-Pow c.in-Pow.a c.in-Pow.b)
    c.deref-in-Pow.ensures c.deref-in-Pow.ensures c.deref-in-Pow-2.ensures c.operand_value-left-in-Pow.ensures.value c.operand_value-left-in-Pow.ensures.noted c.next_value-right-in-Pow.ensures.noted

pub value_of-returns-in-Call-clause-value : goal.value_of-returns-in-Call-clause-value
value_of-returns-in-Call-clause-value t c =
    c.call_value.ensures.value ∙ ap (λ (es : List Expr). value_at c.args.around.now (Call c.in-Call.intrinsic (pack_exprs (map expr_tree es)))) c.deref-in-Call.ensures.value
    ∙ seen_as c.args.around.now c.args.e.now _ _ c.in-Call.is (tree-Call c.in-Call.intrinsic c.in-Call.arguments)

pub value_of-returns-in-Call-clause-noted : goal.value_of-returns-in-Call-clause-noted
value_of-returns-in-Call-clause-noted t c =
    noted_as c.args.notes.now c.call_value.new.notes _ _
    (sym (ap (seen_at c.args.around.now) (ap expr_tree c.in-Call.is ∙ tree-Call _ c.in-Call.arguments) ∙ call_seen c.args.around.now _ c.in-Call.arguments.items ∙ ap (all_seen_at c.args.around.now) (sym c.deref-in-Call.ensures.value))) c.call_value.ensures.noted

pub next_value-returns-in-Ok-clause-value : goal.next_value-returns-in-Ok-clause-value
next_value-returns-in-Ok-clause-value t c =
    c.operand_value.ensures.value ∙ ap (λ r. next_result r (value_at c.args.around.now (expr_tree c.args.e.now))) (sym c.in-Ok.is)

pub next_value-returns-in-Ok-clause-noted : goal.next_value-returns-in-Ok-clause-noted
next_value-returns-in-Ok-clause-noted t c =
    next_noted c.args.notes.now c.operand_value.new.notes c.args.first.now c.in-Ok.field-0 (seen_at c.args.around.now (expr_tree c.args.e.now)) c.in-Ok.is c.operand_value.ensures.noted

pub next_value-returns-in-Err-clause-value : goal.next_value-returns-in-Err-clause-value
next_value-returns-in-Err-clause-value t c =
    ap (λ r. next_result r (value_at c.args.around.now (expr_tree c.args.e.now))) (sym c.in-Err.is)

pub next_value-returns-in-Err-clause-noted : goal.next_value-returns-in-Err-clause-noted
next_value-returns-in-Err-clause-noted t c =
    fault_noted c.args.notes.now c.args.first.now c.in-Err.fault (seen_at c.args.around.now (expr_tree c.args.e.now)) c.in-Err.is

pub operand_value-returns-in-Int-clause-value : goal.operand_value-returns-in-Int-clause-value
operand_value-returns-in-Int-clause-value t c =
    let fits : FitsSigned w128 c.from.result = search rules in
    ap Ok (to_z-of_z w128 c.from.result fits ∙ c.from.ensures) ∙ sym (int_at c.args.around.now c.in-Int.value) ∙ seen_as c.args.around.now c.args.e.now _ _ c.in-Int.is (tree-Int c.in-Int.value)

pub operand_value-returns-in-Int-clause-noted : goal.operand_value-returns-in-Int-clause-noted
operand_value-returns-in-Int-clause-noted t c =
    noted_as c.args.notes.now c.args.notes.now _ _ (sym (ap (seen_at c.args.around.now) (ap expr_tree c.in-Int.is ∙ tree-Int _) ∙ int_seen c.args.around.now _)) (none_noted c.args.notes.now)

pub operand_value-returns-in-Var-clause-value : goal.operand_value-returns-in-Var-clause-value
operand_value-returns-in-Var-clause-value t c =
    c.scalar_value.ensures.value ∙ seen_as c.args.around.now c.args.e.now _ _ c.in-Var.is (tree-Var c.in-Var.name)

pub operand_value-returns-in-Var-clause-noted : goal.operand_value-returns-in-Var-clause-noted
operand_value-returns-in-Var-clause-noted t c =
    noted_as c.args.notes.now c.scalar_value.new.notes _ _ (sym (ap (seen_at c.args.around.now) (ap expr_tree c.in-Var.is ∙ tree-Var c.in-Var.name))) c.scalar_value.ensures.noted

pub noted_element-returns-in-Ok-clause-value : goal.noted_element-returns-in-Ok-clause-value
noted_element-returns-in-Ok-clause-value t c =
    let m = memory_of c.args.around.now.store.now in
    c.value_within.ensures.value ∙ sym (element_at c.args.around.now c.args.name.now (pack_exprs (map expr_tree c.args.subscripts.now)) ∙ ap (of_one (λ d. number_read (m.cells d))) c.in-Ok.ensures.target ∙ got_bounded m (cell_view c.in-Ok.cell))

pub noted_element-returns-in-Ok-clause-noted : goal.noted_element-returns-in-Ok-clause-noted
noted_element-returns-in-Ok-clause-noted t c =
    element_noted c.args.around.now c.args.notes.now c.element_cell.new.notes c.value_within.new.notes c.args.name.now c.args.subscripts.now _ c.in-Ok.ensures.target c.in-Ok.ensures.noted c.value_within.ensures.noted

pub noted_element-returns-in-Err-clause-value : goal.noted_element-returns-in-Err-clause-value
noted_element-returns-in-Err-clause-value t c =
    let m = memory_of c.args.around.now.store.now in
    sym (element_at c.args.around.now c.args.name.now (pack_exprs (map expr_tree c.args.subscripts.now)) ∙ ap (of_one (λ d. number_read (m.cells d))) c.in-Err.ensures.err)

pub noted_element-returns-in-Err-clause-noted : goal.noted_element-returns-in-Err-clause-noted
noted_element-returns-in-Err-clause-noted t c =
    element_noted c.args.around.now c.args.notes.now c.element_cell.new.notes c.element_cell.new.notes c.args.name.now c.args.subscripts.now _ c.in-Err.ensures.err c.in-Err.ensures.noted
    (outside_noted c.element_cell.new.notes (memory_of c.args.around.now.store.now).cells _ c.in-Err.fault refl)

pub unnoted_element-returns-in-Ok-clause-value : goal.unnoted_element-returns-in-Ok-clause-value
unnoted_element-returns-in-Ok-clause-value t c =
    let fits : FitsSigned w128 c.in-Ok.place = search rules in
    let one : length c.args.indices.now ≡ 1 = omega arith in
    c.get_element.ensures
    ∙ ap (λ (u : ℤ). got (memory_of c.args.around.now.store.now) (cells.Element c.args.name.now (u ∷ []))) (to_z-of_z w128 c.in-Ok.place fits)
    ∙ sym (element_known c.args.around.now c.args.name.now c.args.indices.now (c.in-Ok.place ∷ []) (values_one_known c.args.around.now c.args.indices.now c.index-item.result c.in-Ok.place one c.index-item.is (sym c.operand_value.ensures.value ∙ c.in-Ok.is)) (ap is_rank one))

pub unnoted_element-returns-in-Ok-clause-noted : goal.unnoted_element-returns-in-Ok-clause-noted
unnoted_element-returns-in-Ok-clause-noted t c = λ k. absurd (true≢false (sym (c.operand_value.ensures.noted k).kept ∙ c.requires))

pub unnoted_element-returns-in-Err-clause-value : goal.unnoted_element-returns-in-Err-clause-value
unnoted_element-returns-in-Err-clause-value t c =
    sym (element_faulted c.args.around.now c.args.name.now c.args.indices.now c.in-Err.fault (values_first_faulted c.args.around.now c.args.indices.now c.index-item.result c.in-Err.fault (omega arith) c.index-item.is (sym c.operand_value.ensures.value ∙ c.in-Err.is)))

pub unnoted_element-returns-in-Err-clause-noted : goal.unnoted_element-returns-in-Err-clause-noted
unnoted_element-returns-in-Err-clause-noted t c = λ k. absurd (true≢false (sym (c.operand_value.ensures.noted k).kept ∙ c.requires))

pub element_by_more-returns-in-Ok-column-clause-value : goal.element_by_more-returns-in-Ok-column-clause-value
element_by_more-returns-in-Ok-column-clause-value t c =
    let around = c.args.around.now in
    let es = c.args.indices.now in
    let two : length es ≡ 2 = omega arith in
    let v : value_at around (expr_tree c.first-item.result) ≡ Ok c.in-Ok.row = sym c.operand_value-row.ensures.value ∙ c.in-Ok.is in
    let w : value_at around (expr_tree c.second-item.result) ≡ Ok c.in-Ok-column.column = ap (λ r. next_result r (value_at around (expr_tree c.second-item.result))) (sym c.in-Ok.is) ∙ sym c.next_value-column.ensures.value ∙ c.in-Ok-column.is in
    let one_fits : FitsSigned w128 c.in-Ok.row = search rules in
    let other_fits : FitsSigned w128 c.in-Ok-column.column = search rules in
    c.get_element.ensures
    ∙ (λ i. got (memory_of around.store.now) (cells.Element c.args.name.now (to_z-of_z w128 c.in-Ok.row one_fits i ∷ to_z-of_z w128 c.in-Ok-column.column other_fits i ∷ [])))
    ∙ sym (element_known around c.args.name.now es (c.in-Ok.row ∷ c.in-Ok-column.column ∷ []) (values_two_known around es c.first-item.result c.second-item.result c.in-Ok.row c.in-Ok-column.column two c.first-item.is c.second-item.is v w) (ap is_rank two))

pub element_by_more-returns-in-Err-column-clause-value : goal.element_by_more-returns-in-Err-column-clause-value
element_by_more-returns-in-Err-column-clause-value t c =
    let around = c.args.around.now in
    let es = c.args.indices.now in
    let two : length es ≡ 2 = omega arith in
    let v : value_at around (expr_tree c.first-item.result) ≡ Ok c.in-Ok.row = sym c.operand_value-row.ensures.value ∙ c.in-Ok.is in
    let w : value_at around (expr_tree c.second-item.result) ≡ Err c.in-Err-column.fault = ap (λ r. next_result r (value_at around (expr_tree c.second-item.result))) (sym c.in-Ok.is) ∙ sym c.next_value-column.ensures.value ∙ c.in-Err-column.is in
    sym (element_faulted around c.args.name.now es c.in-Err-column.fault (values_second_faulted around es c.first-item.result c.second-item.result c.in-Ok.row c.in-Err-column.fault two c.first-item.is c.second-item.is v w))

pub element_by_more-returns-in-Err-clause-value : goal.element_by_more-returns-in-Err-clause-value
element_by_more-returns-in-Err-clause-value t c =
    sym (element_faulted c.args.around.now c.args.name.now c.args.indices.now c.in-Err.fault (values_first_faulted c.args.around.now c.args.indices.now c.first-item.result c.in-Err.fault (omega arith) c.first-item.is (sym c.operand_value-row.ensures.value ∙ c.in-Err.is)))

pub element_by_many-returns-in-Ok-clause-value : goal.element_by_many-returns-in-Ok-clause-value
element_by_many-returns-in-Ok-clause-value t c =
    let m = memory_of c.args.around.now.store.now in
    let js = take (length c.args.indices.now) c.in-Ok.places in
    c.get_element.ensures ∙ ap (λ (ks : List ℤ). got m (cells.Element c.args.name.now ks)) c.first_places.ensures
    ∙ sym (
    element_at c.args.around.now c.args.name.now (pack_exprs (map expr_tree c.args.indices.now))
    ∙ ap (of_one (λ d. number_read (m.cells d))) (target_ranked c.args.around.now c.args.name.now c.args.indices.now js c.in-Ok.ensures.places (sym c.is_rank.ensures ∙ c.if-not-is_rank.false))
    ∙ got_bounded m (cells.Element c.args.name.now js)
    )

pub element_by_many-returns-in-Ok-clause-noted : goal.element_by_many-returns-in-Ok-clause-noted
element_by_many-returns-in-Ok-clause-noted t c = λ k. absurd (true≢false (sym (c.in-Ok.ensures.noted k).kept ∙ c.requires))

pub element_by_many-returns-in-Err-clause-value : goal.element_by_many-returns-in-Err-clause-value
element_by_many-returns-in-Err-clause-value t c =
    let m = memory_of c.args.around.now.store.now in
    sym (
    element_at c.args.around.now c.args.name.now (pack_exprs (map expr_tree c.args.indices.now))
    ∙ ap (of_one (λ d. number_read (m.cells d))) (target_faulted c.args.around.now c.args.name.now c.args.indices.now c.in-Err.fault c.in-Err.ensures.err)
    )

pub element_by_many-returns-in-Err-clause-noted : goal.element_by_many-returns-in-Err-clause-noted
element_by_many-returns-in-Err-clause-noted t c = λ k. absurd (true≢false (sym (c.in-Err.ensures.noted k).kept ∙ c.requires))

pub element_by_many-returns-then-not-is_rank-clause-value : goal.element_by_many-returns-then-not-is_rank-clause-value
element_by_many-returns-then-not-is_rank-clause-value t c =
    let m = memory_of c.args.around.now.store.now in
    sym (
    element_at c.args.around.now c.args.name.now (pack_exprs (map expr_tree c.args.indices.now))
    ∙ ap (of_one (λ d. number_read (m.cells d))) (target_unranked c.args.around.now c.args.name.now c.args.indices.now (sym c.is_rank.ensures ∙ c.if-not-is_rank.true) ∙ ap Err (sym c.fault_in.ensures.fault))
    )

pub element_by_many-returns-then-not-is_rank-clause-noted : goal.element_by_many-returns-then-not-is_rank-clause-noted
element_by_many-returns-then-not-is_rank-clause-noted t c = λ k. absurd (true≢false (sym (c.fault_in.ensures.noted k).kept ∙ c.requires))

pub absolute_value_of_one-returns-clause-value : goal.absolute_value_of_one-returns-clause-value
absolute_value_of_one-returns-clause-value t c =
    c.absolute.ensures ∙ ap (of_one (λ u. by_number (absolute_value_of u))) c.value_of.ensures.value
    ∙ abs_at c.args.around.now c.args.arguments.now c.argument-item.result (omega arith) c.argument-item.is

pub absolute_value_of_one-returns-clause-noted : goal.absolute_value_of_one-returns-clause-noted
absolute_value_of_one-returns-clause-noted t c =
    one_noted c.args.around.now c.args.notes.now c.value_of.new.notes c.args.arguments.now c.argument-item.result (omega arith) c.argument-item.is c.value_of.ensures.noted

pub remainder_of_two-returns-clause-value : goal.remainder_of_two-returns-clause-value
remainder_of_two-returns-clause-value t c =
    let a = c.value_of-first.ensures.value in
    let b = c.next_value-second.ensures.value ∙ ap (λ r. next_result r (value_at c.args.around.now (expr_tree c.divisor-item.result))) a in
    c.remaining.ensures ∙ (λ i. of_two (λ u v. by_number (remainder_of u v)) (a i) (b i))
    ∙ of_next (λ u v. by_number (remainder_of u v)) (value_at c.args.around.now (expr_tree c.dividend-item.result)) (value_at c.args.around.now (expr_tree c.divisor-item.result))
    ∙ mod_at c.args.around.now c.args.arguments.now c.dividend-item.result c.divisor-item.result (omega arith) c.dividend-item.is c.divisor-item.is

pub remainder_of_two-returns-clause-noted : goal.remainder_of_two-returns-clause-noted
remainder_of_two-returns-clause-noted t c =
    pair_noted c.args.around.now c.args.notes.now c.value_of-first.new.notes c.next_value-second.new.notes c.args.arguments.now c.dividend-item.result c.divisor-item.result c.value_of-first.result (omega arith) c.dividend-item.is c.divisor-item.is
    c.value_of-first.ensures.value c.value_of-first.ensures.noted c.next_value-second.ensures.noted

pub element_cell-returns-in-Ok-clause-cell : goal.element_cell-returns-in-Ok-clause-cell
element_cell-returns-in-Ok-clause-cell t c =
    let p = rank_is (length c.args.subscripts.now) (sym c.is_rank.ensures ∙ c.if-not-is_rank.false) in (p.0, p.1, c.in-Ok.ensures.rest)

pub element_cell-returns-in-Ok-clause-named : goal.element_cell-returns-in-Ok-clause-named
element_cell-returns-in-Ok-clause-named t c =
    named_by c.args.around.now c.args.name.now c.args.subscripts.now (take (length c.args.subscripts.now) c.in-Ok.places) c.in-Ok.ensures.places

pub element_cell-returns-in-Ok-clause-target : goal.element_cell-returns-in-Ok-clause-target
element_cell-returns-in-Ok-clause-target t c =
    target_ranked c.args.around.now c.args.name.now c.args.subscripts.now (take (length c.args.subscripts.now) c.in-Ok.places) c.in-Ok.ensures.places (sym c.is_rank.ensures ∙ c.if-not-is_rank.false)

pub element_cell-returns-in-Err-clause-err : goal.element_cell-returns-in-Err-clause-err
element_cell-returns-in-Err-clause-err t c =
    target_faulted c.args.around.now c.args.name.now c.args.subscripts.now c.in-Err.fault c.in-Err.ensures.err

pub element_cell-returns-then-not-is_rank-clause-err : goal.element_cell-returns-then-not-is_rank-clause-err
element_cell-returns-then-not-is_rank-clause-err t c =
    target_unranked c.args.around.now c.args.name.now c.args.subscripts.now (sym c.is_rank.ensures ∙ c.if-not-is_rank.true) ∙ ap Err (sym c.fault_in.ensures.fault)

pub fault_in-returns-in-Err-clause-fault : goal.fault_in-returns-in-Err-clause-fault
fault_in-returns-in-Err-clause-fault t c =
    sym (c.loop-e.invariant.fault ∙ fault_here c.args.around.now c.args.expressions.now c.loop-e.e-index c.e-item.result c.in-Err.first c.args.fault c.loop-e-test.true c.e-item.is (sym c.in-Err.is ∙ c.value_of.ensures.value))

pub fault_in-returns-in-Err-clause-noted : goal.fault_in-returns-in-Err-clause-noted
fault_in-returns-in-Err-clause-noted t c =
    c.loop-e.invariant.noted c.value_of.new.notes
    (last_noted c.args.around.now c.loop-e.notes c.value_of.new.notes c.args.expressions.now c.loop-e.e-index c.e-item.result c.in-Err.first c.loop-e-test.true c.e-item.is (sym c.in-Err.is ∙ c.value_of.ensures.value) c.value_of.ensures.noted)

pub fault_in-loop-e-init : goal.fault_in-loop-e-init
fault_in-loop-e-init t c =
    record { fault = refl; noted = λ new h. h }

pub fault_in-loop-e-preserved : goal.fault_in-loop-e-preserved
fault_in-loop-e-preserved t c =
    record {
      fault = c.loop-e.invariant.fault ∙ fault_next c.args.around.now c.args.expressions.now c.loop-e.e-index c.e-item.result c.in_default.field-0 c.args.fault c.loop-e-test.true c.e-item.is (sym c.in_default.is ∙ c.value_of.ensures.value);
      noted = λ new h. c.loop-e.invariant.noted new
          (more_noted c.args.around.now c.loop-e.notes c.value_of.new.notes new c.args.expressions.now c.loop-e.e-index c.e-item.result c.in_default.field-0 c.loop-e-test.true c.e-item.is (sym c.in_default.is ∙ c.value_of.ensures.value) c.value_of.ensures.noted h);
    }

pub fault_in-returns-clause-fault : goal.fault_in-returns-clause-fault
fault_in-returns-clause-fault t c =
    sym (c.loop-e.invariant.fault ∙ fault_none c.args.around.now c.args.expressions.now c.loop-e.e-index c.args.fault c.loop-e-test.false)

pub fault_in-returns-clause-noted : goal.fault_in-returns-clause-noted
fault_in-returns-clause-noted t c =
    c.loop-e.invariant.noted c.loop-e.notes (all_noted c.args.around.now c.loop-e.notes c.args.expressions.now c.loop-e.e-index c.loop-e-test.false)

pub places_of-loop-i-init : goal.places_of-loop-i-init
places_of-loop-i-init t c =
    record { long = refl; rest = refl; values = front_none (values_at c.args.around.now c.args.subscripts.now); noted = λ new h. h }

pub places_of-loop-i-preserved : goal.places_of-loop-i-preserved
places_of-loop-i-preserved t c =
    let u = c.in_ok-places.field-0 in
    let i = c.loop-i.i in
    let xs = c.loop-i.places in
    let fits : FitsSigned w128 u = search rules in
    let few : i < 7 = omega arith in
    let room : i < length xs = omega (arith, c.loop-i.invariant.long) in
    rw (to_z-of_z w128 u fits) record {
      long = length-set xs i u ∙ c.loop-i.invariant.long;
      rest = drop-set-lt (i + 1) xs i u (omega arith) ∙ rest_next xs i few c.loop-i.invariant.long c.loop-i.invariant.rest;
      values = c.loop-i.invariant.values ∙ values_next c.args.around.now c.args.subscripts.now i c.index-subscripts-i.result u xs c.loop-i-test.true room c.index-subscripts-i.is (sym c.in_ok-places.was ∙ c.value_of.ensures.value);
      noted = λ new h. c.loop-i.invariant.noted new
          (more_noted c.args.around.now c.loop-i.notes c.value_of.new.notes new c.args.subscripts.now i c.index-subscripts-i.result u c.loop-i-test.true c.index-subscripts-i.is (sym c.in_ok-places.was ∙ c.value_of.ensures.value) c.value_of.ensures.noted h);
    }

pub places_of-returns-in_err-places-clause-err : goal.places_of-returns-in_err-places-clause-err
places_of-returns-in_err-places-clause-err t c =
    let p = err_from_is_err_and c.from_residual.result c.from_residual.ensures.1 in
    rw (p.1, p.2) (
    c.loop-i.invariant.values
    ∙ values_fault c.args.around.now c.args.subscripts.now c.loop-i.i c.index-subscripts-i.result c.in_err-places.field-0.0 (take c.loop-i.i c.loop-i.places) c.loop-i-test.true c.index-subscripts-i.is (sym c.in_err-places.was ∙ c.value_of.ensures.value)
    )

pub places_of-returns-in_err-places-clause-noted : goal.places_of-returns-in_err-places-clause-noted
places_of-returns-in_err-places-clause-noted t c =
    c.loop-i.invariant.noted c.value_of.new.notes
    (last_noted c.args.around.now c.loop-i.notes c.value_of.new.notes c.args.subscripts.now c.loop-i.i c.index-subscripts-i.result c.in_err-places.field-0.0 c.loop-i-test.true c.index-subscripts-i.is (sym c.in_err-places.was ∙ c.value_of.ensures.value) c.value_of.ensures.noted)

pub places_of-returns-clause-places : goal.places_of-returns-clause-places
places_of-returns-clause-places t c =
    let e : c.loop-i.i ≡ length c.args.subscripts.now = omega arith in
    let v = c.loop-i.invariant.values in
    v ∙ ap (λ (i : ℕ). with_front (take i c.loop-i.places) (values_at c.args.around.now (drop i c.args.subscripts.now))) e ∙ values_all c.args.around.now c.args.subscripts.now c.loop-i.places

pub places_of-returns-clause-rest : goal.places_of-returns-clause-rest
places_of-returns-clause-rest t c =
    let e : c.loop-i.i ≡ length c.args.subscripts.now = omega arith in
    let r = c.loop-i.invariant.rest in
    ap (λ (i : ℕ). drop i c.loop-i.places) (sym e) ∙ r ∙ ap (λ (i : ℕ). replicate (7 - i) (pos 0)) e

pub places_of-returns-clause-noted : goal.places_of-returns-clause-noted
places_of-returns-clause-noted t c =
    c.loop-i.invariant.noted c.loop-i.notes (all_noted c.args.around.now c.loop-i.notes c.args.subscripts.now c.loop-i.i c.loop-i-test.false)

pub greatest_of_all-loop-argument-init : goal.greatest_of_all-loop-argument-init
greatest_of_all-loop-argument-init t c =
    let u = c.in_ok-value.value in
    let fits : FitsSigned w128 u = search rules in
    record {
      value =
          max_begins c.args.around.now c.args.arguments.now c.index-arguments-0.result u (omega arith) c.index-arguments-0.is (sym c.in_ok-value.was ∙ c.value_of.ensures.value)
          ∙ (λ i. go_on greatest_of (sym (to_z-of_z w128 u fits) i) (values_at c.args.around.now (others_of c.args.arguments.now i)));
      noted = λ new h.
          more_noted c.args.around.now c.args.notes.now c.value_of.new.notes new c.args.arguments.now 0 c.index-arguments-0.result u (omega arith) c.index-arguments-0.is (sym c.in_ok-value.was ∙ c.value_of.ensures.value) c.value_of.ensures.noted
          (subst (λ (es : List Expr). HasNoted c.value_of.new.notes (all_seen_at c.args.around.now es) new) (sym (others_of c.args.arguments.now)) h);
    }

pub greatest_of_all-loop-argument-preserved : goal.greatest_of_all-loop-argument-preserved
greatest_of_all-loop-argument-preserved t c =
    let items = take (length c.args.arguments.now - 1) (drop 1 c.args.arguments.now) in
    let i = c.loop-argument.argument-index in
    let a = to_z w128 c.loop-argument.value-bits in
    let u = c.in_ok-value_of.field-0 in
    let r = c.greater-value.result in
    let fits : FitsSigned w128 u = search rules in
    let also : FitsSigned w128 r = search rules in
    record {
      value =
          c.loop-argument.invariant.value
          ∙ go_on-next c.args.around.now greatest_of a u r items i c.argument-item.result c.loop-argument-test.true c.argument-item.is (sym c.in_ok-value_of.was ∙ c.value_of-in-loop-argument.ensures.value)
          (ap (greatest_of a) (sym (to_z-of_z w128 u fits)) ∙ c.greater-value.ensures)
          ∙ ap (λ (v : ℤ). go_on greatest_of v (values_at c.args.around.now (drop (i + 1) items))) (sym (to_z-of_z w128 r also));
      noted = λ new h. c.loop-argument.invariant.noted new
          (more_noted c.args.around.now c.loop-argument.notes c.value_of-in-loop-argument.new.notes new items i c.argument-item.result u c.loop-argument-test.true c.argument-item.is (sym c.in_ok-value_of.was ∙ c.value_of-in-loop-argument.ensures.value) c.value_of-in-loop-argument.ensures.noted h);
    }

pub greatest_of_all-returns-clause-value : goal.greatest_of_all-returns-clause-value
greatest_of_all-returns-clause-value t c =
    let q = c.loop-argument.invariant.value in let w = c.loop-argument.value-is in
    sym (q ∙ go_on-done c.args.around.now greatest_of _ _ _ c.loop-argument-test.false)

pub greatest_of_all-returns-clause-noted : goal.greatest_of_all-returns-clause-noted
greatest_of_all-returns-clause-noted t c =
    let items = take (length c.args.arguments.now - 1) (drop 1 c.args.arguments.now) in
    c.loop-argument.invariant.noted c.loop-argument.notes (all_noted c.args.around.now c.loop-argument.notes items c.loop-argument.argument-index c.loop-argument-test.false)

pub greatest_of_all-returns-in_err-value-clause-value : goal.greatest_of_all-returns-in_err-value-clause-value
greatest_of_all-returns-in_err-value-clause-value t c =
    let p = err_from_is_err_and c.from_residual.result c.from_residual.ensures.1 in
    rw (p.1, p.2) (sym (call-fault c.args.around.now Max c.args.arguments.now c.index-arguments-0.result c.in_err-value.field-0.0 (omega arith) c.index-arguments-0.is (sym c.in_err-value.was ∙ c.value_of.ensures.value)))

pub greatest_of_all-returns-in_err-value-clause-noted : goal.greatest_of_all-returns-in_err-value-clause-noted
greatest_of_all-returns-in_err-value-clause-noted t c =
    last_noted c.args.around.now c.args.notes.now c.value_of.new.notes c.args.arguments.now 0 c.index-arguments-0.result c.in_err-value.field-0.0 (omega arith) c.index-arguments-0.is (sym c.in_err-value.was ∙ c.value_of.ensures.value) c.value_of.ensures.noted

pub greatest_of_all-returns-in_err-value_of-clause-value : goal.greatest_of_all-returns-in_err-value_of-clause-value
greatest_of_all-returns-in_err-value_of-clause-value t c =
    let items = take (length c.args.arguments.now - 1) (drop 1 c.args.arguments.now) in
    let p = err_from_is_err_and c.from_residual-in_err-value_of.result c.from_residual-in_err-value_of.ensures.1 in
    rw (p.1, p.2) (
    sym (
    c.loop-argument.invariant.value
    ∙ go_on-fault c.args.around.now greatest_of (to_z w128 c.loop-argument.value-bits) items c.loop-argument.argument-index c.argument-item.result c.in_err-value_of.field-0.0 c.loop-argument-test.true c.argument-item.is (sym c.in_err-value_of.was ∙ c.value_of-in-loop-argument.ensures.value)
    )
    )

pub greatest_of_all-returns-in_err-value_of-clause-noted : goal.greatest_of_all-returns-in_err-value_of-clause-noted
greatest_of_all-returns-in_err-value_of-clause-noted t c =
    let items = take (length c.args.arguments.now - 1) (drop 1 c.args.arguments.now) in
    c.loop-argument.invariant.noted c.value_of-in-loop-argument.new.notes
    (last_noted c.args.around.now c.loop-argument.notes c.value_of-in-loop-argument.new.notes items c.loop-argument.argument-index c.argument-item.result c.in_err-value_of.field-0.0 c.loop-argument-test.true c.argument-item.is (sym c.in_err-value_of.was ∙ c.value_of-in-loop-argument.ensures.value) c.value_of-in-loop-argument.ensures.noted)

pub least_of_all-loop-argument-init : goal.least_of_all-loop-argument-init
least_of_all-loop-argument-init t c =
    let u = c.in_ok-value.value in
    let fits : FitsSigned w128 u = search rules in
    record {
      value =
          min_begins c.args.around.now c.args.arguments.now c.index-arguments-0.result u (omega arith) c.index-arguments-0.is (sym c.in_ok-value.was ∙ c.value_of.ensures.value)
          ∙ (λ i. go_on least_of (sym (to_z-of_z w128 u fits) i) (values_at c.args.around.now (others_of c.args.arguments.now i)));
      noted = λ new h.
          more_noted c.args.around.now c.args.notes.now c.value_of.new.notes new c.args.arguments.now 0 c.index-arguments-0.result u (omega arith) c.index-arguments-0.is (sym c.in_ok-value.was ∙ c.value_of.ensures.value) c.value_of.ensures.noted
          (subst (λ (es : List Expr). HasNoted c.value_of.new.notes (all_seen_at c.args.around.now es) new) (sym (others_of c.args.arguments.now)) h);
    }

pub least_of_all-loop-argument-preserved : goal.least_of_all-loop-argument-preserved
least_of_all-loop-argument-preserved t c =
    let items = take (length c.args.arguments.now - 1) (drop 1 c.args.arguments.now) in
    let i = c.loop-argument.argument-index in
    let a = to_z w128 c.loop-argument.value-bits in
    let u = c.in_ok-value_of.field-0 in
    let r = c.less-value.result in
    let fits : FitsSigned w128 u = search rules in
    let also : FitsSigned w128 r = search rules in
    record {
      value =
          c.loop-argument.invariant.value
          ∙ go_on-next c.args.around.now least_of a u r items i c.argument-item.result c.loop-argument-test.true c.argument-item.is (sym c.in_ok-value_of.was ∙ c.value_of-in-loop-argument.ensures.value)
          (ap (least_of a) (sym (to_z-of_z w128 u fits)) ∙ c.less-value.ensures)
          ∙ ap (λ (v : ℤ). go_on least_of v (values_at c.args.around.now (drop (i + 1) items))) (sym (to_z-of_z w128 r also));
      noted = λ new h. c.loop-argument.invariant.noted new
          (more_noted c.args.around.now c.loop-argument.notes c.value_of-in-loop-argument.new.notes new items i c.argument-item.result u c.loop-argument-test.true c.argument-item.is (sym c.in_ok-value_of.was ∙ c.value_of-in-loop-argument.ensures.value) c.value_of-in-loop-argument.ensures.noted h);
    }

pub least_of_all-returns-clause-value : goal.least_of_all-returns-clause-value
least_of_all-returns-clause-value t c =
    let q = c.loop-argument.invariant.value in let w = c.loop-argument.value-is in
    sym (q ∙ go_on-done c.args.around.now least_of _ _ _ c.loop-argument-test.false)

pub least_of_all-returns-clause-noted : goal.least_of_all-returns-clause-noted
least_of_all-returns-clause-noted t c =
    let items = take (length c.args.arguments.now - 1) (drop 1 c.args.arguments.now) in
    c.loop-argument.invariant.noted c.loop-argument.notes (all_noted c.args.around.now c.loop-argument.notes items c.loop-argument.argument-index c.loop-argument-test.false)

pub least_of_all-returns-in_err-value-clause-value : goal.least_of_all-returns-in_err-value-clause-value
least_of_all-returns-in_err-value-clause-value t c =
    let p = err_from_is_err_and c.from_residual.result c.from_residual.ensures.1 in
    rw (p.1, p.2) (sym (call-fault c.args.around.now Min c.args.arguments.now c.index-arguments-0.result c.in_err-value.field-0.0 (omega arith) c.index-arguments-0.is (sym c.in_err-value.was ∙ c.value_of.ensures.value)))

pub least_of_all-returns-in_err-value-clause-noted : goal.least_of_all-returns-in_err-value-clause-noted
least_of_all-returns-in_err-value-clause-noted t c =
    last_noted c.args.around.now c.args.notes.now c.value_of.new.notes c.args.arguments.now 0 c.index-arguments-0.result c.in_err-value.field-0.0 (omega arith) c.index-arguments-0.is (sym c.in_err-value.was ∙ c.value_of.ensures.value) c.value_of.ensures.noted

pub least_of_all-returns-in_err-value_of-clause-value : goal.least_of_all-returns-in_err-value_of-clause-value
least_of_all-returns-in_err-value_of-clause-value t c =
    let items = take (length c.args.arguments.now - 1) (drop 1 c.args.arguments.now) in
    let p = err_from_is_err_and c.from_residual-in_err-value_of.result c.from_residual-in_err-value_of.ensures.1 in
    rw (p.1, p.2) (
    sym (
    c.loop-argument.invariant.value
    ∙ go_on-fault c.args.around.now least_of (to_z w128 c.loop-argument.value-bits) items c.loop-argument.argument-index c.argument-item.result c.in_err-value_of.field-0.0 c.loop-argument-test.true c.argument-item.is (sym c.in_err-value_of.was ∙ c.value_of-in-loop-argument.ensures.value)
    )
    )

pub least_of_all-returns-in_err-value_of-clause-noted : goal.least_of_all-returns-in_err-value_of-clause-noted
least_of_all-returns-in_err-value_of-clause-noted t c =
    let items = take (length c.args.arguments.now - 1) (drop 1 c.args.arguments.now) in
    c.loop-argument.invariant.noted c.value_of-in-loop-argument.new.notes
    (last_noted c.args.around.now c.loop-argument.notes c.value_of-in-loop-argument.new.notes items c.loop-argument.argument-index c.argument-item.result c.in_err-value_of.field-0.0 c.loop-argument-test.true c.argument-item.is (sym c.in_err-value_of.was ∙ c.value_of-in-loop-argument.ensures.value) c.value_of-in-loop-argument.ensures.noted)

pub call_value-returns-in-Mod-clause-value : goal.call_value-returns-in-Mod-clause-value
call_value-returns-in-Mod-clause-value t c =
    c.remainder_of_two.ensures.value ∙ ap (λ (f : Intrinsic). value_at c.args.around.now (Call f (pack_exprs (map expr_tree c.args.arguments.now)))) (sym c.in-Mod.is)

pub call_value-returns-in-Abs-clause-value : goal.call_value-returns-in-Abs-clause-value
call_value-returns-in-Abs-clause-value t c =
    c.absolute_value_of_one.ensures.value ∙ ap (λ (f : Intrinsic). value_at c.args.around.now (Call f (pack_exprs (map expr_tree c.args.arguments.now)))) (sym c.in-Abs.is)

pub call_value-returns-in-Max-clause-value : goal.call_value-returns-in-Max-clause-value
call_value-returns-in-Max-clause-value t c =
    c.greatest_of_all.ensures.value ∙ ap (λ (f : Intrinsic). value_at c.args.around.now (Call f (pack_exprs (map expr_tree c.args.arguments.now)))) (sym c.in-Max.is)

pub call_value-returns-in-Min-clause-value : goal.call_value-returns-in-Min-clause-value
call_value-returns-in-Min-clause-value t c =
    c.least_of_all.ensures.value ∙ ap (λ (f : Intrinsic). value_at c.args.around.now (Call f (pack_exprs (map expr_tree c.args.arguments.now)))) (sym c.in-Min.is)
