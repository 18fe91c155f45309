use Rattle.std.proofs.Common.{◌+◌, ◌<◌, [], List, Bool, false, length, slice_index_or, sym, ap, subst, ◌∙◌, arith}
use Rattle.std.proofs.lemmas.List.{get_or_default}
use Rattle.std.proofs.lemmas.Bool.{false_from_ne_true, both_ways}
use Rattle.ped_bits.specs.Reaching.{row_of}
use Rattle.ped_bits.proofs.Merging.{IsGoneOver, skip, merge, still_square, all_gone_over}
use Rattle.ped_bits.proofs.square.go_over.Goals.{then-get, else-get}
use Rattle.ped_bits.proofs.square.go_over.Goals as goal

pub loop-row-preserved : goal.loop-row-preserved
loop-row-preserved c =
    let old = c.args.rows.now in
    let rows = c.loop-row.rows in
    let m = c.args.middle in
    let n = c.loop-row.row in
    let h : n < length rows = omega arith in
    let read = ap (λ (r : List Bool). slice_index_or r m false) (get_or_default rows n c.index-rows-row.result [] h) in
    elim c.if-get.branch [
      | then-get w ↦
          subst (λ (rs : List (List Bool)). IsGoneOver old m (n + 1) rs) (sym (w.rows-is ∙ w.add_row.ensures))
          (merge old rows m n c.loop-row.invariant h (sym read ∙ c.get.ensures.0 w.if-get.true))
      | else-get w ↦
          subst (λ (rs : List (List Bool)). IsGoneOver old m (n + 1) rs) (sym w.rows-is)
          (skip old rows m n c.loop-row.invariant (false_from_ne_true (slice_index_or (row_of rows n) m false) (λ t. both_ways c.get.result w.if-get.false (c.get.ensures.1 (read ∙ t)))))
    ]

pub returns-clause-square : goal.returns-clause-square
returns-clause-square c = still_square c.args.rows.now c.loop-row.rows c.args.middle c.loop-row.row c.loop-row.invariant c.requires.square c.requires.middle

pub returns-clause-arrows : goal.returns-clause-arrows
returns-clause-arrows c =
    let w = c.loop-row.invariant.width in
    all_gone_over c.args.rows.now c.loop-row.rows c.args.middle c.loop-row.row c.loop-row.invariant c.requires.square c.requires.middle (omega arith)
