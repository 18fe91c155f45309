-- The new variable of strips is in no act and in no final value of the program without it.
use Rattle.std.proofs.Common.{List, ap, false, not, refl, sym, true, ℕ, ◌&&◌, ◌||◌, ◌∙◌, ◌≡◌}
use Rattle.std.proofs.lemmas.Bool.{both_ways}
use Rattle.std.specs.List.{flat_map}
use Rattle.ped_base.proofs.NameEquality.{same_is}
use Rattle.ped_base.specs.Lists.{is_among}
use Rattle.ped_rules.specs.ped_loop_runs.proofs.LoopLaws.OneForOneCells.{touched_in}
use Rattle.ped_rules.specs.ped_laws.proofs.FlowRunLaws.Names.{sorted_among}
use Rattle.ped_rules.specs.ped_laws.specs.Acts.Orders.{IsIn}
use Rattle.ped_rules.specs.ped_laws.specs.Acts.Renaming.{touch}
use Rattle.ped_rules.specs.ped_laws.specs.Acts.Sets.{wants, written}
use Rattle.ped_rules.specs.ped_laws.specs.FlowRuns.Covering.{is_cell_of}
use Rattle.ped_rules.specs.ped_laws.specs.Runs.Showing.{shown_at_end}
use Rattle.ped_rules.specs.ped_eval.specs.Outcomes.{run_of}
use Rattle.ped_rules.specs.ped_store.specs.Acts.{Act, Touch}
use Rattle.ped_rules.specs.ped_store.specs.Cells.{Cell, In, Out, Private, Scalar}
use Rattle.ped_rules.specs.ped_symbols.specs.Kinds.{names_of}
use Rattle.ped_rules.specs.ped_symbols.specs.NameRefusals.{IsValid}
use Rattle.ped_rules.proofs.NameLaws.UnnamedCells.{unnamed_statements, unsaved_name, untouched}
use Rattle.ped_tree.specs.Grammar.Words.{is_name}
use Rattle.ped_tree.specs.NamesIn.{saved_in, stmts_names}
use Rattle.ped_tree.specs.Tree.{ProgramTree}
use Rattle.ped_rules.specs.ped_store.specs.Cells as its_cells
use Rattle.ped_reindex.proofs.StripsControls.{unneeded}
use Rattle.ped_rules.specs.ped_loop_runs.proofs.LoopLaws.OneForOneStands.{false_unless}

module _ (t : ProgramTree) (valid : IsValid t) (w : List ℕ) (name : is_name w ≡ true) (absent : is_among w (names_of t) ≡ false) (data_bytes : List ℕ) where
  pub unnamed : is_among w (stmts_names t.body) ≡ false
  unnamed = unnamed_statements t w absent

  pub leaves_alone : (a : Act) → IsIn a (run_of t data_bytes).acts → (v : Touch) → IsIn v a.touches → is_cell_of w v.cell ≡ false
  leaves_alone = untouched t valid w name unnamed data_bytes

  unshown : (c : Cell) → is_cell_of w c ≡ true → shown_at_end t c ≡ false
  unshown (Scalar y) k = sorted_among y (flat_map saved_in t.decls) ∙ ap (λ (z : List ℕ). is_among z (flat_map saved_in t.decls)) (sym (same_is w y k)) ∙ unsaved_name t w absent
  unshown (Private y path) k = refl
  unshown (its_cells.Element y js) k = absurd cc
  unshown In k = refl
  unshown Out k = absurd cc

  -- acts of the run want no cell of the new variable
  pub unwanted_name : (acts : List Act) → ((a : Act) → IsIn a acts → IsIn a (run_of t data_bytes).acts) → (c : Cell) → is_cell_of w c ≡ true → wants (shown_at_end t) acts c ≡ false
  unwanted_name acts sub c named = λ i. unneeded acts c untouched_there i || (unshown c named i && not (written acts c))
    where
      untouched_there : touch acts c ≡ false
      untouched_there = false_unless (touch acts c) (λ m.
          let r = touched_in acts c m in
          both_ways (is_cell_of w c) (ap (is_cell_of w) (sym r.4) ∙ leaves_alone r.0 (sub r.0 r.1) r.2 r.3) named)
