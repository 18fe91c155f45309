-- Which names are written where others have come into a gap: no new ones, where those write none.
use Rattle.std.proofs.Common.{◌≡◌, ℕ, List, Bool, true, false, refl, sym, ap, ◌∙◌}
use Rattle.std.specs.Prelude.{◌||◌}
use Rattle.std.specs.List.{list_any}
use Rattle.std.proofs.lemmas.Bool.{or_parts}
use Rattle.ped_bodies.specs.ped_flow.specs.ped_tree.specs.Tree.{StmtTrees, no_stmts, more_stmts}
use Rattle.ped_bodies.specs.ped_steps.specs.Replacing.{followed}
use Rattle.ped_bodies.specs.ped_steps.specs.Runs.Gaps.{Gap, at_front, past, in_then, in_else, in_body, filled}
use Rattle.ped_loop_runs.specs.Writing.{writes_name, writes, all_write}

both_false : (a b : Bool) → a ≡ false → b ≡ false → (a || b) ≡ false
both_false a b e f = λ i. e i || f i

module _ (constants : List (List ℕ)) (w : List ℕ) where
  pub all_followed : (xs ys : StmtTrees) → all_write constants w (followed xs ys) ≡ (all_write constants w xs || all_write constants w ys)
  all_followed no_stmts ys = refl
  all_followed (more_stmts s xs) ys = ap (λ (b : Bool). writes constants w s || b) (all_followed xs ys) ∙ or_assoc (writes constants w s) (all_write constants w xs) (all_write constants w ys)
    where
      or_assoc : (a b c : Bool) → (a || (b || c)) ≡ ((a || b) || c)
      or_assoc true b c = refl
      or_assoc false b c = refl

  -- others in a gap write the name where what was there did, or not at all
  module _ (old new : StmtTrees) (gained : all_write constants w old ≡ false → all_write constants w new ≡ false) where
    pub filled_unwritten : (gap : Gap) → all_write constants w (filled gap old) ≡ false → all_write constants w (filled gap new) ≡ false
    filled_unwritten (at_front rest) h =
        let none = or_parts (all_write constants w old) (all_write constants w rest) (sym (all_followed old rest) ∙ h) in
        all_followed new rest ∙ both_false (all_write constants w new) (all_write constants w rest) (gained none.0) none.1
    filled_unwritten (past s gap) h =
        let none = or_parts (writes constants w s) (all_write constants w (filled gap old)) h in
        λ i. none.0 i || filled_unwritten gap none.1 i
    filled_unwritten (in_then c gap b rest) h =
        let none = or_parts (all_write constants w (filled gap old) || all_write constants w b) (all_write constants w rest) h in
        let parts = or_parts (all_write constants w (filled gap old)) (all_write constants w b) none.0 in
        λ i. (filled_unwritten gap parts.0 i || parts.1 i) || none.1 i
    filled_unwritten (in_else c a gap rest) h =
        let none = or_parts (all_write constants w a || all_write constants w (filled gap old)) (all_write constants w rest) h in
        let parts = or_parts (all_write constants w a) (all_write constants w (filled gap old)) none.0 in
        λ i. (parts.0 i || filled_unwritten gap parts.1 i) || none.1 i
    filled_unwritten (in_body head gap rest) h =
        let none = or_parts (list_any (writes_name constants w) head.private || all_write constants w (filled gap old)) (all_write constants w rest) h in
        let parts = or_parts (list_any (writes_name constants w) head.private) (all_write constants w (filled gap old)) none.0 in
        λ i. (parts.0 i || filled_unwritten gap parts.1 i) || none.1 i
