-- The outermost DO round a gap: where it stands, and what it assigns when DO loops before the gap are lowered and that in it.
use Rattle.std.proofs.Common.{◌≡◌, ℕ, ◌+◌, List, Bool, true, Some, refl, ap, ◌∙◌}
use Rattle.ped_base.specs.Lists.{has_some, is_among}
use Rattle.ped_tree.specs.Tree.{Head, StmtTrees, If, Do, no_stmts, more_stmts, ProgramTree}
use Rattle.ped_tree.specs.NamesIn.{stmts_names}
use Rattle.ped_tree.specs.Numbering.{all_numbered, statement_with, statement_count, statements_count}
use Rattle.ped_refs.specs.References.{outermost_number}
use Rattle.ped_rules.specs.ped_affine.specs.Assigned.{assigned_in}
use Rattle.ped_rules.specs.ped_flow.proofs.Truths.{untrue}
use Rattle.ped_rules.specs.ped_steps.specs.Replacing.{alone}
use Rattle.ped_rules.specs.ped_steps.specs.Runs.Gaps.{Gap, at_front, past, in_then, in_else, in_body, filled, number_at}
use Rattle.ped_reduce.proofs.Resembling.{GapBecomes, pasts}
use Rattle.ped_reduce.proofs.LoopsRoundGaps.{gap_loops, front_there}
use Rattle.ped_reduce.proofs.AssignedStays.{has, do_has, gap_same}

-- where the outermost DO round a gap stands
abbrev outer_gap : Gap → Gap
outer_gap (at_front rest) = at_front rest
outer_gap (past z gap) = past z (outer_gap gap)
outer_gap (in_then c gap b rest) = in_then c (outer_gap gap) b rest
outer_gap (in_else c a gap rest) = in_else c a (outer_gap gap) rest
outer_gap (in_body d gap rest) = at_front rest

module _ (none : Head) where
  -- its head
  abbrev pub outer_head : Gap → Head
  outer_head (at_front rest) = none
  outer_head (past z gap) = outer_head gap
  outer_head (in_then c gap b rest) = outer_head gap
  outer_head (in_else c a gap rest) = outer_head gap
  outer_head (in_body d gap rest) = d

  -- its body, with statements in the gap
  abbrev pub outer_body : Gap → StmtTrees → StmtTrees
  outer_body (at_front rest) ts = ts
  outer_body (past z gap) ts = outer_body gap ts
  outer_body (in_then c gap b rest) ts = outer_body gap ts
  outer_body (in_else c a gap rest) ts = outer_body gap ts
  outer_body (in_body d gap rest) ts = filled gap ts

  head_pasts : (xs : StmtTrees) (gap : Gap) → outer_head (pasts xs gap) ≡ outer_head gap
  head_pasts no_stmts gap = refl
  head_pasts (more_stmts z xs) gap = head_pasts xs gap

  body_pasts : (xs : StmtTrees) (gap : Gap) (ts : StmtTrees) → outer_body (pasts xs gap) ts ≡ outer_body gap ts
  body_pasts no_stmts gap ts = refl
  body_pasts (more_stmts z xs) gap ts = body_pasts xs gap ts

  module _ (ts : StmtTrees) where
    outer_filled : (gap : Gap) (n : ℕ) → has_some (gap_loops gap n) ≡ true → filled gap ts ≡ filled (outer_gap gap) (alone (Do (outer_head gap) (outer_body gap ts)))
    outer_filled (at_front rest) n some = untrue some
    outer_filled (past z gap) n some = ap (more_stmts z) (outer_filled gap (n + statement_count z) some)
    outer_filled (in_then c gap b rest) n some = ap (λ (a : StmtTrees). more_stmts (If c a b) rest) (outer_filled gap (n + 1) some)
    outer_filled (in_else c a gap rest) n some = ap (λ (b : StmtTrees). more_stmts (If c a b) rest) (outer_filled gap (n + 1 + statements_count a) some)
    outer_filled (in_body d gap rest) n some = refl

  outer_number : (gap : Gap) (n : ℕ) → has_some (gap_loops gap n) ≡ true → number_at (outer_gap gap) n ≡ outermost_number (gap_loops gap n)
  outer_number (at_front rest) n some = untrue some
  outer_number (past z gap) n some = outer_number gap (n + statement_count z) some
  outer_number (in_then c gap b rest) n some = outer_number gap (n + 1) some
  outer_number (in_else c a gap rest) n some = outer_number gap (n + 1 + statements_count a) some
  outer_number (in_body d gap rest) n some = refl

  -- it is the statement with the number of the outermost of the DO loops
  pub outer_stands : (t : ProgramTree) (gap : Gap) (ts : StmtTrees) → t.body ≡ filled gap ts → has_some (gap_loops gap 1) ≡ true → statement_with (outermost_number (gap_loops gap 1)) t ≡ Some (Do (outer_head gap) (outer_body gap ts))
  outer_stands t gap ts is some =
      front_there t (Do (outer_head gap) (outer_body gap ts)) (all_numbered (outer_body gap ts)) no_stmts (outer_gap gap) (outermost_number (gap_loops gap 1)) refl (outer_number gap 1 some) (is ∙ outer_filled ts gap 1 some)

  module _ (y : List ℕ) (t : ProgramTree) (live : List ℕ) (there : is_among y (stmts_names t.body) ≡ true) (old new : StmtTrees) (same : has y new ≡ has y old) where
    abbrev assigned_new : Gap → Bool
    assigned_new g = is_among y (assigned_in (Do (outer_head g) (outer_body g new)))

    -- the same is assigned in it
    pub outer_same : (gap : Gap) (n : ℕ) (other : Gap) → has_some (gap_loops gap n) ≡ true → GapBecomes t live gap n other → is_among y (assigned_in (Do (outer_head other) (outer_body other new))) ≡ is_among y (assigned_in (Do (outer_head gap) (outer_body gap old)))
    outer_same (at_front rest) n other some is = untrue some
    outer_same (past z gap) n other some (x, g, p, q, is) =
        ap assigned_new is ∙ (λ i. is_among y (assigned_in (Do (head_pasts x g i) (body_pasts x g new i)))) ∙ outer_same gap (n + statement_count z) g some q
    outer_same (in_then c gap b rest) n other some (g, q, is) = ap assigned_new is ∙ outer_same gap (n + 1) g some q
    outer_same (in_else c a gap rest) n other some (x, g, p, q, is) = ap assigned_new is ∙ outer_same gap (n + 1 + statements_count a) g some q
    outer_same (in_body d gap rest) n other some (g, q, is) = ap assigned_new is ∙ do_has y d (filled g new) (filled gap old) (gap_same y t live there old new same gap (n + 1) g q)
