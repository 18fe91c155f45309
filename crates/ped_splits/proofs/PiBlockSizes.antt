-- What follows of the sizes of pi-blocks for the code.
use Rattle.std.proofs.Common.{◌≡◌, ℕ, ◌+◌, ◌≤◌, ◌<◌, ◌^◌, List, length, map, All, sym, subst, ◌∙◌, arith}
use Rattle.std.specs.List.{range_with_len}
use Rattle.std.proofs.lemmas.List.FromFn.{length-map-range_with_len}
use Rattle.ped_tree.specs.Tree.{Head, StmtTrees, ProgramTree}
use Rattle.ped_tree.specs.Numbering.{statements_count}
use Rattle.ped_rules.specs.ped_symbols.specs.NameRefusals.{IsValid}
use Rattle.ped_rules.specs.ped_symbols.proofs.RightUseLaws.Whole.{right_program}
use Rattle.ped_rules.specs.ped_flow.specs.Questions.{IsLoop}
use Rattle.ped_rules.specs.ped_flow.proofs.Answering.{loop_fits}
use Rattle.ped_splits.specs.Units.{units, is_arrow, arrows}
use Rattle.ped_splits.specs.PiBlocks.{pi_blocks, ArePiBlocks}
use Rattle.ped_splits.specs.CodeUnits.{AreBelow}
use Rattle.ped_splits.specs.Distributing.{sources}
use Rattle.ped_splits.proofs.PiBlockOrders.{range_below}
use Rattle.ped_splits.proofs.Partitions.{blocks_below, sources_few}
use Rattle.ped_splits.proofs.UnitSizes.{units_few}

module _ (t : ProgramTree) (s : ℕ) (h : Head) (body : StmtTrees) (found : List (List ℕ)) (are : ArePiBlocks t s h body found) where
  -- each unit has a row
  pub width : length are.reach ≡ length (units body)
  width = are.closed.width ∙ length-map-range_with_len (λ i. map (is_arrow t s h body are.edges i) (range_with_len 0 (length (units body)))) 0 (length (units body))

  -- pi-blocks are made of units
  pub found_below : All (AreBelow (length (units body))) found
  found_below =
      let n = length are.reach in
      subst (λ (m : ℕ). All (AreBelow m) found) width (subst (λ (bs : List (List ℕ)). All (AreBelow n) bs) (sym are.order) (blocks_below are.reach n n (range_with_len 0 n) (range_below 0 n n (omega arith))))

  -- a word holds the number of statements of the new program
  pub sources_short : IsLoop t s h body → IsValid t → length (sources t s body found) < 2 ^ 32
  sources_short is valid =
      let few = (right_program t valid).few_statements in
      let inside = loop_fits t s h body is in
      let wide = width in
      let units_at_most = units_few body in
      let short : length (sources t s body (pi_blocks are.reach)) ≤ statements_count t.body + length are.reach = sources_few s body t are.reach inside in
      subst (λ (bs : List (List ℕ)). length (sources t s body bs) < 2 ^ 32) (sym are.order) (omega (arith, few, inside, wide, units_at_most, short))
