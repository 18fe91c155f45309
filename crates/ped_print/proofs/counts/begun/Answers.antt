use Rattle.std.proofs.Common.{◌≡◌, ◌+◌, List, map, ap, ◌∙◌, arith}
use Rattle.std.proofs.lemmas.List.{take_rest}
use Rattle.ped_tree.specs.Printing.{begun_in, program_lines}
use Rattle.ped_tree.specs.Views.{program_tree}
use Rattle.ped_print.specs.declared.lines.Line.{Line}
use Rattle.ped_print.specs.PrintedLines.{line_of}
use Rattle.ped_print.proofs.Sides.{first_lines, last_lines, few_first, few_last}
use Rattle.ped_print.proofs.counts.begun.Goals as goal

pub count_begun-requires : goal.count_begun-requires
count_begun-requires c =
    let t = program_tree c.args.program.now in
    let ls = c.deref.result.now in
    let e : map line_of ls ≡ program_lines t = ap (map line_of) c.deref.ensures.value ∙ c.in_ok-lines.ensures in
    rw (first_lines c.args.kept c.min-first.result ls t e (omega (arith, c.deref.ensures.len, c.len-count.ensures)))
    (few_first c.args.kept t c.requires)

pub count_begun-requires-2 : goal.count_begun-requires-2
count_begun-requires-2 c =
    let t = program_tree c.args.program.now in
    let ls = c.deref-2.result.now in
    let e : map line_of ls ≡ program_lines t = ap (map line_of) c.deref-2.ensures.value ∙ c.in_ok-lines.ensures in
    rw (take_rest ls c.min-last.result, last_lines (c.args.kept + c.args.gone) c.saturating_add.result c.min-last.result ls t e c.saturating_add.ensures (omega (arith, c.deref-2.ensures.len, c.len-count.ensures)) (omega arith))
    (few_last (c.args.kept + c.args.gone) t c.requires)

pub returns-clause-front : goal.returns-clause-front
returns-clause-front c =
    let t = program_tree c.args.program.now in
    let ls = c.deref.result.now in
    let e : map line_of ls ≡ program_lines t = ap (map line_of) c.deref.ensures.value ∙ c.in_ok-lines.ensures in
    c.count_begun.ensures
    ∙ first_lines c.args.kept c.min-first.result ls t e (omega (arith, c.deref.ensures.len, c.len-count.ensures))

pub returns-clause-back : goal.returns-clause-back
returns-clause-back c =
    let t = program_tree c.args.program.now in
    let ls = c.deref-2.result.now in
    let e : map line_of ls ≡ program_lines t = ap (map line_of) c.deref-2.ensures.value ∙ c.in_ok-lines.ensures in
    c.count_begun-2.ensures
    ∙ ap (λ (x : List Line). begun_in (map line_of x)) (take_rest ls c.min-last.result)
    ∙ last_lines (c.args.kept + c.args.gone) c.saturating_add.result c.min-last.result ls t e c.saturating_add.ensures (omega (arith, c.deref-2.ensures.len, c.len-count.ensures)) (omega arith)
