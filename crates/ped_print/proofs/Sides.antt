-- How many numbered statements begin on the first lines of a program, and on the last.
use Rattle.std.proofs.Common.{◌≡◌, ℕ, ◌+◌, ◌-◌, ◌^◌, ◌<◌, min, List, map, take, drop, length, cond, is_some, ap, sym, ◌∙◌, arith}
use Rattle.std.specs.List.{take-map, drop-map}
use Rattle.std.proofs.lemmas.List.{take_min, drop_min}
use Rattle.std.proofs.lemmas.List.Sums.{sum_by-take-drop}
use Rattle.ped_tree.specs.Tree.{ProgramTree}
use Rattle.ped_tree.specs.Numbering.{statements_count}
use Rattle.ped_tree.specs.Printing.{Line, begun_in, program_lines}
use Rattle.ped_print.specs.declared.lines.Line as code
use Rattle.ped_print.specs.PrintedLines.{line_of}
use Rattle.ped_print.proofs.Begins.{of_program}

-- the first lines of a program are those that are taken, as many as there are
pub first_lines : (k n : ℕ) (ls : List code.Line) (t : ProgramTree) → map line_of ls ≡ program_lines t → n ≡ min k (length ls) → begun_in (map line_of (take n ls)) ≡ begun_in (take k (program_lines t))
first_lines k n ls t e h =
    ap (λ (m : ℕ). begun_in (map line_of (take m ls))) h
    ∙ ap (λ (x : List code.Line). begun_in (map line_of x)) (take_min k ls)
    ∙ ap begun_in (sym (take-map line_of k ls) ∙ ap (take k) e)

-- and the last those that are left
pub last_lines : (k m n : ℕ) (ls : List code.Line) (t : ProgramTree) → map line_of ls ≡ program_lines t → m ≡ min k (2 ^ 64 - 1) → n ≡ min m (length ls) → length ls < 2 ^ 64 → begun_in (map line_of (drop n ls)) ≡ begun_in (drop k (program_lines t))
last_lines k m n ls t e p q small =
    let h : n ≡ min k (length ls) = omega arith in
    ap (λ (i : ℕ). begun_in (map line_of (drop i ls))) h
    ∙ ap (λ (x : List code.Line). begun_in (map line_of x)) (drop_min k ls)
    ∙ ap begun_in (sym (drop-map line_of k ls) ∙ ap (drop k) e)

sides : (k : ℕ) (ls : List Line) → begun_in (take k ls) + begun_in (drop k ls) ≡ begun_in ls
sides k ls = sum_by-take-drop (λ (l : Line). cond (is_some l.statement) 1 0) ls k

-- no more begin there than there are
pub few_first : (k : ℕ) (t : ProgramTree) → statements_count t.body < 2 ^ 32 → begun_in (take k (program_lines t)) < 2 ^ 32
few_first k t h = omega (arith, sides k (program_lines t), of_program t)

pub few_last : (k : ℕ) (t : ProgramTree) → statements_count t.body < 2 ^ 32 → begun_in (drop k (program_lines t)) < 2 ^ 32
few_last k t h = omega (arith, sides k (program_lines t), of_program t)
