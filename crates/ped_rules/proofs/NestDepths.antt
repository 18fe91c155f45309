-- At most six DO loops stand round a statement of a valid program.
use Rattle.std.proofs.Common.{◌≡◌, ◌⊎◌, inl, inr, ℕ, ◌+◌, ◌≤◌, max, List, [], ◌∷◌, ◌++◌, length, length-append, Bool, true, false, ◌&&◌, ap, arith, nat_le, if◌then◌else◌}
use Rattle.std.specs.Prelude.{nat_lt}
use Rattle.std.proofs.lemmas.List.{length-map}
use Rattle.std.proofs.Math.Decide.{dec_le}
use Rattle.std.proofs.Math.Logic.{dite}
use Rattle.ped_tree.specs.Tree.{StmtTree, StmtTrees, Assign, If, Do, Print, Read, Stop, Comment, no_stmts, more_stmts, ProgramTree}
use Rattle.ped_tree.specs.Nests.{Loop}
use Rattle.ped_tree.specs.Numbering.{statement_count, statements_count}
use Rattle.ped_refs.specs.declared.loops.Loop.{Loop as CodeLoop}
use Rattle.ped_refs.specs.Loops.{loop_of, nest_of}
use Rattle.ped_loop_runs.specs.ped_symbols.specs.NameRefusals.{IsValid}
use Rattle.ped_loop_runs.specs.ped_symbols.specs.RightUses.RightLoops.{loop_depth, loops_deep}
use Rattle.ped_loop_runs.specs.ped_symbols.proofs.RightUseLaws.Whole.{right_program}
use Rattle.ped_loop_runs.specs.ped_flow.specs.PlainBounds.{loops_round, all_loops_round, nest_round}
use Rattle.ped_loop_runs.specs.ped_steps.proofs.RunLaws.LoopsRound.{all_none_before, all_none_from, none_before}

within_test : (b : Bool) (first : Loop) (inner : List Loop) (n : ℕ) → length inner ≤ n → length (if b then first ∷ inner else []) ≤ n + 1
within_test true first inner n h = omega (arith, h)
within_test false first inner n h = omega arith

module _ (l : ℕ) where
  -- of two lists of which one is empty
  of_two : (xs ys : List Loop) (m n : ℕ) → length xs ≤ m → length ys ≤ n → (xs ≡ []) ⊎ (ys ≡ []) → length (xs ++ ys) ≤ max m n
  of_two xs ys m n h k (inl e) = let size = length-append xs ys in let none : length xs ≡ 0 = ap (λ (zs : List Loop). length zs) e in omega (arith, h, k, size, none)
  of_two xs ys m n h k (inr e) = let size = length-append xs ys in let none : length ys ≡ 0 = ap (λ (zs : List Loop). length zs) e in omega (arith, h, k, size, none)

  mutual
    pub depth_round : (s : StmtTree) (n : ℕ) → length (loops_round l s n) ≤ loop_depth s
    depth_round (Assign left right) n = omega arith
    depth_round (If c a b) n =
        of_two (all_loops_round l a (n + 1)) (all_loops_round l b (n + 1 + statements_count a)) (loops_deep a) (loops_deep b)
        (depths_round a (n + 1)) (depths_round b (n + 1 + statements_count a))
        (dite (dec_le (n + 1 + statements_count a) l) (λ le. inl (all_none_before l a (n + 1) le)) (λ more. inr (all_none_from l b (n + 1 + statements_count a) (omega (arith, more)))))
    depth_round (Do h body) n =
        let inner = within_test (nat_lt n l && nat_le l (n + statements_count body)) (record { number = n; head = h }) (all_loops_round l body (n + 1)) (loops_deep body) (depths_round body (n + 1)) in
        omega (arith, inner)
    depth_round (Print items) n = omega arith
    depth_round (Read items) n = omega arith
    depth_round Stop n = omega arith
    depth_round (Comment text) n = omega arith

    pub depths_round : (ss : StmtTrees) (n : ℕ) → length (all_loops_round l ss n) ≤ loops_deep ss
    depths_round no_stmts n = omega arith
    depths_round (more_stmts s rest) n =
        of_two (loops_round l s n) (all_loops_round l rest (n + statement_count s)) (loop_depth s) (loops_deep rest)
        (depth_round s n) (depths_round rest (n + statement_count s))
        (dite (dec_le (n + statement_count s) l) (λ le. inl (none_before l s n le)) (λ more. inr (all_none_from l rest (n + statement_count s) (omega (arith, more)))))

-- the nest of a statement
pub nest_short : (t : ProgramTree) (l : ℕ) → IsValid t → length (nest_round t l) ≤ 6
nest_short t l v = let deep = (right_program t v).nested in let round = depths_round l t.body 1 in short (length (nest_round t l)) (loops_deep t.body) round deep
  where
    short : (m n : ℕ) → m ≤ n → n ≤ 6 → m ≤ 6
    short m n h k = omega (arith, h, k)

-- the loops of the code that are this nest
pub loops_short : (t : ProgramTree) (l : ℕ) (loops : List CodeLoop) → IsValid t → nest_of loops ≡ nest_round t l → length loops ≤ 6
loops_short t l loops v is =
    let few = nest_short t l v in
    let same : length (nest_of loops) ≡ length (nest_round t l) = ap (λ (nest : List Loop). length nest) is in
    let size = length-map loops loop_of in
    omega (arith, few, same, size)
