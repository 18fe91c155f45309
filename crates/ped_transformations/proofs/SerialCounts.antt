-- How many DOs aren't PARALLEL DOs: the same in the rest of a program in which one statement is exchanged for others, and one less where a DO becomes a PARALLEL DO.
use Rattle.std.proofs.Common.{◌≡◌, ℕ, suc, ◌+◌, ◌-◌, ◌<◌, List, [], ◌∷◌, ◌++◌, filter, length, cond, Bool, true, false, not, Some, refl, sym, ap, ◌∙◌, arith, eqb-true}
use Rattle.std.specs.List.{range_with_len}
use Rattle.ped_tree.specs.Tree.{CondTree, Head, StmtTree, StmtTrees, If, Do, no_stmts, more_stmts, ProgramTree}
use Rattle.ped_tree.specs.Numbering.{numbered, all_numbered, at_place, statement_with}
use Rattle.ped_tree.proofs.Numbers.{length-all_numbered}
use Rattle.ped_auto.specs.ped_rules.specs.ped_steps.specs.Replacing.{followed, alone, program_with}
use Rattle.ped_auto.specs.ped_rules.specs.ped_steps.specs.Runs.Gaps.{Gap, at_front, past, in_then, in_else, in_body, filled}
use Rattle.ped_auto.specs.ped_rules.specs.ped_steps.proofs.RunLaws.ReplacedTrees.{program_gap}
use Rattle.ped_auto.specs.SerialLoops.{is_serial, is_serial_loop, serial_loops}

-- the statement is a DO and no PARALLEL DO
abbrev is_serial_one : StmtTree → Bool
is_serial_one s = is_serial (Some s)

-- how many of these are so
abbrev serials_among : List StmtTree → ℕ
serials_among xs = length (filter is_serial_one xs)

-- how many statements are so, those in the parts of others among them
abbrev pub serials : StmtTrees → ℕ
serials ts = serials_among (all_numbered ts)

-- 1 where it is so
abbrev one : Bool → ℕ
one b = cond b 1 0

longer : (b : Bool) (x : StmtTree) (xs : List StmtTree) → length (cond b (x ∷ xs) xs) ≡ one b + length xs
longer true x xs = omega arith
longer false x xs = omega arith

first_and_rest : (x : StmtTree) (xs : List StmtTree) → serials_among (x ∷ xs) ≡ one (is_serial_one x) + serials_among xs
first_and_rest x xs = longer (is_serial_one x) x (filter is_serial_one xs)

both : (xs ys : List StmtTree) → serials_among (xs ++ ys) ≡ serials_among xs + serials_among ys
both [] ys = omega arith
both (x ∷ xs) ys =
    let whole = first_and_rest x (xs ++ ys) in
    let part = first_and_rest x xs in
    let rest = both xs ys in
    omega (arith, whole, part, rest)

more : (x : StmtTree) (rest : StmtTrees) → serials (more_stmts x rest) ≡ serials_among (numbered x) + serials rest
more x rest = both (numbered x) (all_numbered rest)

in_if : (c : CondTree) (a b : StmtTrees) → serials_among (numbered (If c a b)) ≡ serials a + serials b
in_if c a b = both (all_numbered a) (all_numbered b)

in_do : (h : Head) (b : StmtTrees) → serials_among (numbered (Do h b)) ≡ one (not h.parallel) + serials b
in_do h b = first_and_rest (Do h b) (all_numbered b)

all_both : (xs ys : StmtTrees) → serials (followed xs ys) ≡ serials xs + serials ys
all_both no_stmts ys = omega arith
all_both (more_stmts x xs) ys =
    let whole = more x (followed xs ys) in
    let part = more x xs in
    let rest = all_both xs ys in
    omega (arith, whole, part, rest)

module _ (old new : StmtTrees) where
  -- what stands round a gap has as many
  serials_filled : (gap : Gap) → serials (filled gap new) + serials old ≡ serials (filled gap old) + serials new
  serials_filled (at_front rest) = let e = all_both old rest in let f = all_both new rest in omega (arith, e, f)
  serials_filled (past s gap) =
      let inner = serials_filled gap in
      let e = more s (filled gap new) in
      let f = more s (filled gap old) in
      omega (arith, inner, e, f)
  serials_filled (in_then c gap b rest) =
      let inner = serials_filled gap in
      let e = more (If c (filled gap new) b) rest in
      let f = more (If c (filled gap old) b) rest in
      let i = in_if c (filled gap new) b in
      let j = in_if c (filled gap old) b in
      omega (arith, inner, e, f, i, j)
  serials_filled (in_else c a gap rest) =
      let inner = serials_filled gap in
      let e = more (If c a (filled gap new)) rest in
      let f = more (If c a (filled gap old)) rest in
      let i = in_if c a (filled gap new) in
      let j = in_if c a (filled gap old) in
      omega (arith, inner, e, f, i, j)
  serials_filled (in_body h gap rest) =
      let inner = serials_filled gap in
      let e = more (Do h (filled gap new)) rest in
      let f = more (Do h (filled gap old)) rest in
      let i = in_do h (filled gap new) in
      let j = in_do h (filled gap old) in
      omega (arith, inner, e, f, i, j)

-- numbers count from 1
later : (y : StmtTree) (ys : List StmtTree) (k : ℕ) → at_place (y ∷ ys) (suc k) ≡ at_place ys k
later y ys k = grind (arith, eqb-true)

-- so many numbers are those of such statements
among_range : (ys : List StmtTree) (a : ℕ) (g : ℕ → Bool) → ((k : ℕ) → g (a + k) ≡ is_serial (at_place ys k)) → length (filter g (range_with_len a (length ys))) ≡ serials_among ys
among_range [] a g h = refl
among_range (y ∷ ys) a g h =
    let here : g a ≡ is_serial_one y = ap g (let e : a ≡ a + 0 = omega arith in e) ∙ h 0 in
    let rest = among_range ys (a + 1) g (λ k. ap g (let e : a + 1 + k ≡ a + suc k = omega arith in e) ∙ h (suc k) ∙ ap is_serial (later y ys k)) in
    let whole = number_first (g a) a (filter g (range_with_len (a + 1) (length ys))) in
    let part = first_and_rest y ys in
    let same : one (g a) ≡ one (is_serial_one y) = ap one here in
    omega (arith, rest, whole, part, same)
  where
    number_first : (b : Bool) (x : ℕ) (xs : List ℕ) → length (cond b (x ∷ xs) xs) ≡ one b + length xs
    number_first true x xs = omega arith
    number_first false x xs = omega arith

with_number : (t : ProgramTree) (k : ℕ) → statement_with (1 + k) t ≡ at_place (all_numbered t.body) k
with_number t k = grind (arith, eqb-true)

pub serial_loops_are : (t : ProgramTree) → length (serial_loops t) ≡ serials t.body
serial_loops_are t =
    ap (λ (n : ℕ). length (filter (is_serial_loop t) (range_with_len 1 n))) (sym (length-all_numbered t.body))
    ∙ among_range (all_numbered t.body) 1 (is_serial_loop t) (λ k. ap is_serial (with_number t k))

-- a DO becomes a PARALLEL DO
module _ (by : StmtTree → StmtTrees) (s : ℕ) (h : Head) (b : StmtTrees) (t : ProgramTree) (found : statement_with s t ≡ Some (Do h b)) where
  pub one_fewer : (k : Head) → h.parallel ≡ false → k.parallel ≡ true → by (Do h b) ≡ alone (Do k b) → length (serial_loops (program_with by s t)) < length (serial_loops t)
  one_fewer k serial parallel made =
      let g = program_gap by s (Do h b) t found in
      let before = serial_loops_are t in
      let behind = serial_loops_are (program_with by s t) in
      let old : serials t.body ≡ serials (filled g.gap (alone (Do h b))) = ap serials g.old_is in
      let new : serials (program_with by s t).body ≡ serials (filled g.gap (by (Do h b))) = ap serials g.new_is in
      let parts = serials_filled (alone (Do h b)) (by (Do h b)) g.gap in
      let first = more (Do h b) no_stmts in
      let head = in_do h b in
      let is_one : one (not h.parallel) ≡ 1 = ap (λ (x : Bool). one (not x)) serial in
      let second : serials (by (Do h b)) ≡ serials (alone (Do k b)) = ap serials made in
      let third = more (Do k b) no_stmts in
      let other = in_do k b in
      let is_none : one (not k.parallel) ≡ 0 = ap (λ (x : Bool). one (not x)) parallel in
      omega (arith, before, behind, old, new, parts, first, head, is_one, second, third, other, is_none)
