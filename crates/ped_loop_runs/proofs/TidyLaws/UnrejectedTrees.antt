-- Statements without C$PED REJECT, and others without it in their place.
use Rattle.std.proofs.Common.{◌≡◌, ℕ, ◌+◌, ◌==◌, Bool, true, false, ◌||◌, refl, sym, ap, ◌∙◌, if◌then◌else◌}
use Rattle.ped_bodies.specs.ped_flow.specs.ped_base.specs.Lists.{has_some}
use Rattle.ped_bodies.specs.ped_flow.specs.ped_tree.specs.Tree.{StmtTree, StmtTrees, Assign, If, Do, Print, Read, Stop, Comment, no_stmts, more_stmts, ProgramTree}
use Rattle.ped_bodies.specs.ped_flow.specs.ped_tree.specs.Numbering.{statement_count, statements_count}
use Rattle.ped_bodies.specs.ped_flow.proofs.Truths.{or_none}
use Rattle.ped_bodies.specs.ped_steps.specs.Replacing.{followed, alone, replaced, all_replaced, program_with}
use Rattle.ped_bodies.specs.ped_steps.specs.Runs.Gaps.{Gap, at_front, past, in_then, in_else, in_body, filled}
use Rattle.ped_loop_runs.specs.Unrejected.{has_rejection, some_rejection}

both : (a b c d : Bool) → (a ≡ false → c ≡ false) → (b ≡ false → d ≡ false) → (a || b) ≡ false → (c || d) ≡ false
both a b c d h k e = let p = or_none a b e in λ i. h p.0 i || k p.1 i

or_assoc : (a b c : Bool) → (a || (b || c)) ≡ ((a || b) || c)
or_assoc true b c = refl
or_assoc false b c = refl

or_false : (b : Bool) → (b || false) ≡ b
or_false true = refl
or_false false = refl

pub followed_rejection : (ts us : StmtTrees) → some_rejection (followed ts us) ≡ (some_rejection ts || some_rejection us)
followed_rejection no_stmts us = refl
followed_rejection (more_stmts t rest) us = ap (λ (b : Bool). has_rejection t || b) (followed_rejection rest us) ∙ or_assoc (has_rejection t) (some_rejection rest) (some_rejection us)

pub filled_unrejected : (gap : Gap) (old new : StmtTrees) → (some_rejection old ≡ false → some_rejection new ≡ false) → some_rejection (filled gap old) ≡ false → some_rejection (filled gap new) ≡ false
filled_unrejected (at_front rest) old new h e =
    followed_rejection new rest ∙ both (some_rejection old) (some_rejection rest) (some_rejection new) (some_rejection rest) h (λ f. f) (sym (followed_rejection old rest) ∙ e)
filled_unrejected (past s gap) old new h e = both (has_rejection s) (some_rejection (filled gap old)) (has_rejection s) (some_rejection (filled gap new)) (λ f. f) (filled_unrejected gap old new h) e
filled_unrejected (in_then c gap b rest) old new h e =
    both (some_rejection (filled gap old) || some_rejection b) (some_rejection rest) (some_rejection (filled gap new) || some_rejection b) (some_rejection rest)
    (both (some_rejection (filled gap old)) (some_rejection b) (some_rejection (filled gap new)) (some_rejection b) (filled_unrejected gap old new h) (λ f. f)) (λ f. f) e
filled_unrejected (in_else c a gap rest) old new h e =
    both (some_rejection a || some_rejection (filled gap old)) (some_rejection rest) (some_rejection a || some_rejection (filled gap new)) (some_rejection rest)
    (both (some_rejection a) (some_rejection (filled gap old)) (some_rejection a) (some_rejection (filled gap new)) (λ f. f) (filled_unrejected gap old new h)) (λ f. f) e
filled_unrejected (in_body g gap rest) old new h e =
    both (has_some g.rejected || some_rejection (filled gap old)) (some_rejection rest) (has_some g.rejected || some_rejection (filled gap new)) (some_rejection rest)
    (both (has_some g.rejected) (some_rejection (filled gap old)) (has_some g.rejected) (some_rejection (filled gap new)) (λ f. f) (filled_unrejected gap old new h)) (λ f. f) e

pub alone_unrejected : (x : StmtTree) → has_rejection x ≡ false → some_rejection (alone x) ≡ false
alone_unrejected x e = or_false (has_rejection x) ∙ e

module _ (by : StmtTree → StmtTrees) (s : ℕ) (kept : (x : StmtTree) → has_rejection x ≡ false → some_rejection (by x) ≡ false) where
  chosen : (b : Bool) (x y : StmtTree) → has_rejection x ≡ false → has_rejection y ≡ false → some_rejection (if b then by x else alone y) ≡ false
  chosen true x y e f = kept x e
  chosen false x y e f = alone_unrejected y f

  mutual
    one_unrejected : (x : StmtTree) (n : ℕ) → has_rejection x ≡ false → some_rejection (replaced by s x n) ≡ false
    one_unrejected (Assign left right) n e = chosen (n == s) (Assign left right) (Assign left right) e e
    one_unrejected (If c a b) n e =
        chosen (n == s) (If c a b) (If c (all_replaced by s a (n + 1)) (all_replaced by s b (n + 1 + statements_count a))) e
        (both (some_rejection a) (some_rejection b) (some_rejection (all_replaced by s a (n + 1))) (some_rejection (all_replaced by s b (n + 1 + statements_count a)))
        (all_unrejected a (n + 1)) (all_unrejected b (n + 1 + statements_count a)) e)
    one_unrejected (Do h body) n e =
        chosen (n == s) (Do h body) (Do h (all_replaced by s body (n + 1))) e
        (both (has_some h.rejected) (some_rejection body) (has_some h.rejected) (some_rejection (all_replaced by s body (n + 1))) (λ f. f) (all_unrejected body (n + 1)) e)
    one_unrejected (Print items) n e = chosen (n == s) (Print items) (Print items) e e
    one_unrejected (Read items) n e = chosen (n == s) (Read items) (Read items) e e
    one_unrejected Stop n e = chosen (n == s) Stop Stop e e
    one_unrejected (Comment text) n e = refl

    all_unrejected : (xs : StmtTrees) (n : ℕ) → some_rejection xs ≡ false → some_rejection (all_replaced by s xs n) ≡ false
    all_unrejected no_stmts n e = refl
    all_unrejected (more_stmts x rest) n e =
        followed_rejection (replaced by s x n) (all_replaced by s rest (n + statement_count x))
        ∙ both (has_rejection x) (some_rejection rest) (some_rejection (replaced by s x n)) (some_rejection (all_replaced by s rest (n + statement_count x)))
        (one_unrejected x n) (all_unrejected rest (n + statement_count x)) e

-- a program in which a statement has been exchanged for others
pub program_unrejected : (by : StmtTree → StmtTrees) (s : ℕ) (t : ProgramTree) → ((x : StmtTree) → has_rejection x ≡ false → some_rejection (by x) ≡ false) → some_rejection t.body ≡ false → some_rejection (program_with by s t).body ≡ false
program_unrejected by s t kept e = all_unrejected by s kept t.body 1 e
