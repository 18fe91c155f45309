use Rattle.std.proofs.Common.{◌≡◌, ℕ, ◌+◌, List, ◌++◌, length, codes, arith, length-append, ap}
use Rattle.ped_tree.specs.Printing.{value_text, do_word, step_text}
use Rattle.ped_tree.specs.Views.{expr_tree}
use Rattle.ped_print.specs.Lengths.{limited}
use Rattle.ped_print.proofs.lengths.do_length.Goals as goal

-- the parts of a DO statement
do_sum : (word variable first last step : List ℕ) (w v left f l bounds s total : ℕ) → w ≡ length word → v ≡ length variable → left ≡ limited (w + v + 3) → f ≡ limited (length first) → l ≡ limited (length last) → s ≡ limited (length step) → bounds ≡ limited (f + 2 + l) → total ≡ limited (left + bounds + s) → total ≡ limited (length (word ++ variable ++ codes " = " ++ first ++ codes ", " ++ last ++ step))
do_sum word variable first last step w v left f l bounds s total a b c d e g h i =
    simp length-append (omega arith)

pub returns : goal.returns
returns c =
    let x = c.args in
    do_sum (do_word x.parallel) x.variable.now (value_text (expr_tree x.first.now)) (value_text (expr_tree x.last.now)) (step_text (expr_tree x.step.now))
    c.do_word_length.result (length c.as_bytes.result.now) c.sum-left.result c.value_length.result c.value_length-2.result c.sum-bounds.result c.step_length.result c.sum.result
    c.do_word_length.ensures (ap length c.as_bytes.ensures.bytes) c.sum-left.ensures c.value_length.ensures c.value_length-2.ensures c.step_length.ensures c.sum-bounds.ensures c.sum.ensures
