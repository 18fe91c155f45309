use Rattle.std.proofs.Common.{◌≡◌, ◌+◌, ◌-◌, ◌<◌, length, sym, ◌∙◌, arith}
use Rattle.ped_lines.proofs.Trimming.{shorter, ended_front}
use Rattle.ped_lines.proofs.notes.trimmed.Goals as goal

pub returns-then-not-is_blank_or_return : goal.returns-then-not-is_blank_or_return
returns-then-not-is_blank_or_return c =
    let end = c.loop-end.end in
    let text = c.args.text.now in
    let same : end ≡ (end - 1) + 1 = omega arith in
    let inside : end - 1 < length text = omega arith in
    c.front.ensures.columns ∙ ended_front text (end - 1) end same inside (sym c.is_blank_or_return.ensures ∙ c.if-not-is_blank_or_return.true) ∙ c.loop-end.invariant.same

pub loop-end-preserved : goal.loop-end-preserved
loop-end-preserved c =
    let end = c.loop-end.end in
    let text = c.args.text.now in
    let same : end ≡ (end - 1) + 1 = omega arith in
    let inside : end - 1 < length text = omega arith in
    record {
      within = omega arith;
      same = shorter text (end - 1) end same inside (sym c.is_blank_or_return.ensures ∙ c.if-not-is_blank_or_return.false) ∙ c.loop-end.invariant.same;
    }
