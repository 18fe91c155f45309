use Rattle.std.proofs.Common.{◌≡◌, ℕ, ◌+◌, List, [], ◌∷◌, length, ap, subst, sym, ◌∙◌, arith}
use Rattle.std.specs.Str.Lines.{lines}
use Rattle.ped_tree.specs.Grammar.Refusal.{earliest}
use Rattle.ped_tree.specs.Grammar.Grouping.{statements_of}
use Rattle.ped_tree.specs.Grammar.LineRefusals.{first_line_refusal}
use Rattle.ped_tree.specs.Grammar.RefusalViews.{found_of}
use Rattle.ped_lines.specs.Cutting.{left_open, refusals_left, cut_with}
use Rattle.ped_lines.specs.declared.cutting.Cutting.{Cutting}
use Rattle.ped_lines.proofs.OneLine.{at_end_is}
use Rattle.ped_lines.proofs.cutting.statements.Goals as goal

pub loop-line-preserved : goal.loop-line-preserved
loop-line-preserved c =
    let text = c.args.text.now in
    let old = c.loop-line.cutting in
    let n : ℕ = c.loop-line.number in
    let line = c.in-Some.line.now in
    let more = lines c.in-Some.more.now in
    let first : earliest (found_of old.found) (refusals_left old.current (n + 1) (line ∷ more)) ≡ first_line_refusal text =
    subst (λ (ls : List (List ℕ)). earliest (found_of old.found) (refusals_left old.current (n + 1) ls) ≡ first_line_refusal text) c.in-Some.ensures.line c.loop-line.invariant.first in
    let cut : cut_with old (n + 1) (line ∷ more) (n + length (line ∷ more)) ≡ statements_of text =
    subst (λ (ls : List (List ℕ)). cut_with old (n + 1) ls (n + length ls) ≡ statements_of text) c.in-Some.ensures.line c.loop-line.invariant.cut in
    let count : n + 1 + length more ≡ n + length (line ∷ more) = omega arith in
    record {
      first = c.in_ok-cutting.ensures.refusals more ∙ first;
      cut = c.in_ok-cutting.ensures.cut more (n + 1 + length more) ∙ ap (cut_with old (n + 1) (line ∷ more)) count ∙ cut;
      small = omega (arith, c.in-Some.ensures.shorter, c.loop-line.invariant.small);
    }

-- what was found at the end is the first refusal
first_is : (c : Cutting) (n : ℕ) (rest : List (List ℕ)) (text : List ℕ) → rest ≡ [] → earliest (found_of c.found) (refusals_left c.current n rest) ≡ first_line_refusal text → first_line_refusal text ≡ earliest (found_of c.found) (left_open c.current)
first_is c n rest text none first = sym first ∙ ap (λ (ls : List (List ℕ)). earliest (found_of c.found) (refusals_left c.current n ls)) none ∙ ap (earliest (found_of c.found)) (at_end_is c.current n)

pub returns-in-Some-at_end-clause-err : goal.returns-in-Some-at_end-clause-err
returns-in-Some-at_end-clause-err c =
    first_is c.loop-line.cutting (c.loop-line.number + 1) (lines c.loop-line.rest.now) c.args.text.now c.in_default.ensures.line c.loop-line.invariant.first ∙ sym c.in-Some-at_end.ensures

pub returns-in_ok-finished-in-None-clause-ok : goal.returns-in_ok-finished-in-None-clause-ok
returns-in_ok-finished-in-None-clause-ok c =
    let n : ℕ = c.loop-line.number in
    let rest = lines c.loop-line.rest.now in
    let none : rest ≡ [] = c.in_default.ensures.line in
    let count : n ≡ n + length rest = omega (arith, ap length none) in (
      first_is c.loop-line.cutting (n + 1) rest c.args.text.now none c.loop-line.invariant.first ∙ sym c.in-None.ensures,
      c.in_ok-finished-in-None.ensures (n + 1) ∙ (λ i. cut_with c.loop-line.cutting (n + 1) (sym none i) (count i)) ∙ c.loop-line.invariant.cut,
    )
