-- In a valid program the variable of a DO is that of no DO round it.
use Rattle.std.proofs.Common.{◌≡◌, ℕ, ◌+◌, List, [], ◌∷◌, ◌++◌, Bool, true, false, ◌||◌, Some, None, if◌then◌else◌, refl, sym, ap, subst, ◌∙◌, inl, inr, arith, append-nil}
use Rattle.std.specs.Prelude.{not, ◌==◌}
use Rattle.std.proofs.lemmas.Bool.{and_parts}
use Rattle.ped_base.specs.Lists.{is_same_text, is_among}
use Rattle.ped_base.proofs.NameEquality.{same_is}
use Rattle.ped_tree.specs.Grammar.Fits.{Surroundings, moved, in_if, in_loop, private_fits, loop_fits, stmt_fits, stmts_fit, decls_fit, begins_with_statement, at_body}
use Rattle.ped_tree.specs.Grammar.Words.{is_name}
use Rattle.std.specs.List.{list_all}
use Rattle.ped_tree.specs.Nests.{Loop, indices_of}
use Rattle.ped_tree.specs.Numbering.{statement_count, statements_count}
use Rattle.ped_tree.specs.Tree.{Head, StmtTrees, Assign, If, Do, Print, Read, Stop, Comment, no_stmts, more_stmts, ProgramTree}
use Rattle.ped_loop_runs.specs.ped_flow.specs.PlainBounds.{nest_round, all_loops_round}
use Rattle.ped_loop_runs.specs.ped_flow.specs.Questions.{LoopOf}
use Rattle.ped_loop_runs.specs.ped_flow.proofs.Truths.{or_split, or_none}
use Rattle.ped_loop_runs.specs.ped_laws.specs.Covering.Nested.{loop}
use Rattle.ped_loop_runs.specs.ped_symbols.specs.NameRefusals.{IsValid}
use Rattle.ped_loop_runs.specs.ped_steps.specs.Replacing.{alone, program_with}
use Rattle.ped_loop_runs.specs.ped_steps.specs.Runs.Gaps.{Gap, at_front, past, in_then, in_else, in_body, filled, number_at}
use Rattle.ped_loop_runs.specs.ped_steps.proofs.RunLaws.FilledGaps.{number_from, number_room}
use Rattle.ped_loop_runs.specs.ped_steps.proofs.RunLaws.LoopsRound.{none_before, all_none_before, all_none_from, one_more}
use Rattle.ped_loop_runs.specs.ped_steps.proofs.RunLaws.ReplacedTrees.{HasGap, program_gap}
use Rattle.ped_rules.specs.OnlyLoops.{only_loop}
use Rattle.ped_rules.proofs.NestLaws.OnlyBodies.{never, pair, same_head, same_inside}
use Rattle.ped_loop_runs.proofs.LoopLaws.OneForOneStands.{false_unless, not_so}
use Rattle.ped_loop_runs.proofs.LoopLaws.NextIn.{first_alone, second_alone}

-- the variable of a DO that fits is none of those round it
own_apart : (p : Surroundings) (h : Head) (body : StmtTrees) → loop_fits p h body ≡ true → is_among h.variable p.variables ≡ false
own_apart p h body fits =
    let one = and_parts _ (list_all is_name h.rejected) fits in
    let two = and_parts _ (private_fits p h) one.0 in
    let three = and_parts _ _ two.0 in
    let four = and_parts _ _ three.0 in
    let five = and_parts _ (not (is_among h.variable p.private)) four.0 in
    not_so (is_among h.variable p.variables) (and_parts _ (not (is_among h.variable p.variables)) five.0).1

module _ (l : ℕ) (h : Head) (b : StmtTrees) (w : List ℕ) where
  abbrev it : StmtTrees
  it = alone (Do h b)

  -- the DO fits in surroundings that have the name where those further out have it, and where it is the variable of a DO round this one
  record IsSurrounded (p : Surroundings) (nest : List Loop) : Type 0 where
    pub around : Surroundings
    pub fits : stmt_fits around (Do h b) ≡ true
    pub kept : is_among w p.variables ≡ true → is_among w around.variables ≡ true
    pub told : is_among w (indices_of nest) ≡ true → is_among w around.variables ≡ true

  by_nest : (p : Surroundings) (nest other : List Loop) → nest ≡ other → IsSurrounded p other → IsSurrounded p nest
  by_nest p nest other e s = subst (IsSurrounded p) (sym e) s

  surrounded : (gap : Gap) (n : ℕ) → number_at gap n ≡ l → (p : Surroundings) → stmts_fit p (filled gap it) ≡ true → IsSurrounded p (all_loops_round l (filled gap it) n)
  surrounded (at_front rest) n e p f =
      by_nest p (all_loops_round l (filled (at_front rest) it) n) [] (all_none_from l (more_stmts (Do h b) rest) n (omega (arith, e)))
      (record { around = p; fits = (and_parts (stmt_fits p (Do h b)) (stmts_fit (moved p (statement_count (Do h b))) rest) f).0; kept = λ k. k; told = λ k. absurd cc })
  surrounded (past x gap) n e p f =
      let from = number_from gap (n + statement_count x) in
      let deeper = surrounded gap (n + statement_count x) e (moved p (statement_count x)) (and_parts (stmt_fits p x) (stmts_fit (moved p (statement_count x)) (filled gap it)) f).1 in
      by_nest p (all_loops_round l (filled (past x gap) it) n) (all_loops_round l (filled gap it) (n + statement_count x)) (ap (λ (ls : List Loop). ls ++ all_loops_round l (filled gap it) (n + statement_count x)) (none_before l x n (omega (arith, from, e))))
      (record { around = deeper.around; fits = deeper.fits; kept = deeper.kept; told = deeper.told })
  surrounded (in_then c gap other rest) n e p f =
      let a = filled gap it in
      let room = number_room gap it (n + 1) in
      let whole = and_parts (stmt_fits p (If c a other)) (stmts_fit (moved p (statement_count (If c a other))) rest) f in
      let second = and_parts _ (stmts_fit (in_if p (1 + statements_count a)) other) whole.0 in
      let first = and_parts _ (stmts_fit (in_if p 1) a) second.0 in
      let deeper = surrounded gap (n + 1) e (in_if p 1) first.1 in
      by_nest p (all_loops_round l (filled (in_then c gap other rest) it) n) (all_loops_round l a (n + 1))
      (first_alone (all_loops_round l a (n + 1)) (all_loops_round l other (n + 1 + statements_count a)) (all_loops_round l rest (n + statement_count (If c a other)))
      (all_none_from l other (n + 1 + statements_count a) (omega (arith, room, e))) (all_none_from l rest (n + statement_count (If c a other)) (omega (arith, room, e))))
      (record { around = deeper.around; fits = deeper.fits; kept = deeper.kept; told = deeper.told })
  surrounded (in_else c other gap rest) n e p f =
      let a = filled gap it in
      let from = number_from gap (n + 1 + statements_count other) in
      let room = number_room gap it (n + 1 + statements_count other) in
      let whole = and_parts (stmt_fits p (If c other a)) (stmts_fit (moved p (statement_count (If c other a))) rest) f in
      let second = and_parts _ (stmts_fit (in_if p (1 + statements_count other)) a) whole.0 in
      let deeper = surrounded gap (n + 1 + statements_count other) e (in_if p (1 + statements_count other)) second.1 in
      by_nest p (all_loops_round l (filled (in_else c other gap rest) it) n) (all_loops_round l a (n + 1 + statements_count other))
      (second_alone (all_loops_round l other (n + 1)) (all_loops_round l a (n + 1 + statements_count other)) (all_loops_round l rest (n + statement_count (If c other a)))
      (all_none_before l other (n + 1) (omega (arith, from, e))) (all_none_from l rest (n + statement_count (If c other a)) (omega (arith, room, e))))
      (record { around = deeper.around; fits = deeper.fits; kept = deeper.kept; told = deeper.told })
  surrounded (in_body g gap rest) n e p f =
      let a = filled gap it in
      let from = number_from gap (n + 1) in
      let room = number_room gap it (n + 1) in
      let whole = and_parts (stmt_fits p (Do g a)) (stmts_fit (moved p (statement_count (Do g a))) rest) f in
      let deeper = surrounded gap (n + 1) e (in_loop p g) (and_parts (loop_fits p g a) (stmts_fit (in_loop p g) a) whole.0).1 in
      by_nest p (all_loops_round l (filled (in_body g gap rest) it) n) (loop n g ∷ all_loops_round l a (n + 1))
      ((λ i. one_more l g a n (omega (arith, from, e)) (omega (arith, room, e)) i ++ all_none_from l rest (n + statement_count (Do g a)) (omega (arith, room, e)) i) ∙ append-nil (loop n g ∷ all_loops_round l a (n + 1)))
      (record {
        around = deeper.around;
        fits = deeper.fits;
        kept = λ k. deeper.kept (in_more (is_same_text w g.variable) (is_among w p.variables) k);
        told = λ k. elim (or_split (is_same_text w g.variable) (is_among w (indices_of (all_loops_round l a (n + 1)))) k) [
          | inl q ↦ deeper.kept (in_one (is_same_text w g.variable) (is_among w p.variables) q)
          | inr q ↦ deeper.told q
        ];
      })
    where
      in_more : (x y : Bool) → y ≡ true → x || y ≡ true
      in_more true y q = refl
      in_more false y q = q

      in_one : (x y : Bool) → x ≡ true → x || y ≡ true
      in_one true y q = refl
      in_one false y q = absurd cc

-- the one DO of a body fits, in surroundings with the same variables
record FitsInside (p : Surroundings) (g : Head) (inside : StmtTrees) : Type 0 where
  pub around : Surroundings
  pub variables : around.variables ≡ p.variables
  pub fits : stmt_fits around (Do g inside) ≡ true

only_fits : (p : Surroundings) (ts : StmtTrees) (g : Head) (inside : StmtTrees) → stmts_fit p ts ≡ true → only_loop ts ≡ Some (pair g inside) → FitsInside p g inside
only_fits p no_stmts g inside f e = absurd cc
only_fits p (more_stmts (Comment text) rest) g inside f e =
    let deeper = only_fits (moved p (statement_count (Comment text))) rest g inside (and_parts (stmt_fits p (Comment text)) (stmts_fit (moved p (statement_count (Comment text))) rest) f).1 e in
    record { around = deeper.around; variables = deeper.variables; fits = deeper.fits }
only_fits p (more_stmts (Do h body) rest) g inside f e = by (statements_count rest == 0) e
  where
    by : (c : Bool) → (if c then Some (pair h body) else None) ≡ Some (pair g inside) → FitsInside p g inside
    by true q = record {
      around = p;
      variables = refl;
      fits = (λ i. stmt_fits p (Do (sym (same_head h g body inside q) i) (sym (same_inside h g body inside q) i))) ∙ (and_parts (stmt_fits p (Do h body)) (stmts_fit (moved p (statement_count (Do h body))) rest) f).0;
    }
    by false q = absurd cc
only_fits p (more_stmts (Assign left right) rest) g inside f e = absurd cc
only_fits p (more_stmts (If c a b) rest) g inside f e = absurd cc
only_fits p (more_stmts (Print items) rest) g inside f e = absurd cc
only_fits p (more_stmts (Read items) rest) g inside f e = absurd cc
only_fits p (more_stmts Stop rest) g inside f e = absurd cc

module _ (t : ProgramTree) (valid : IsValid t) (l : ℕ) (loop_is : LoopOf t l) where
  abbrev d : Head
  d = loop_is.head

  gap_of : HasGap (λ u. alone u) l (Do d loop_is.body) 1 t.body (program_with (λ u. alone u) l t).body
  gap_of = program_gap (λ u. alone u) l (Do d loop_is.body) t loop_is.is

  body_fits : stmts_fit (at_body t) t.body ≡ true
  body_fits = (and_parts (decls_fit 0 t.decls) (stmts_fit (at_body t) t.body) (and_parts _ (begins_with_statement t.body) valid.fits).0).1

  around_loop : (w : List ℕ) → IsSurrounded l d loop_is.body w (at_body t) (nest_round t l)
  around_loop w =
      subst (λ (ts : StmtTrees). IsSurrounded l d loop_is.body w (at_body t) (all_loops_round l ts 1)) (sym gap_of.old_is)
      (surrounded l d loop_is.body w gap_of.gap 1 gap_of.number (at_body t) (ap (stmts_fit (at_body t)) (sym gap_of.old_is) ∙ body_fits))

  -- its variable is that of no DO round it
  pub variable_apart : is_among d.variable (indices_of (nest_round t l)) ≡ false
  variable_apart =
      let it = around_loop d.variable in
      false_unless (is_among d.variable (indices_of (nest_round t l)))
      (λ k. never (is_among d.variable it.around.variables) (it.told k) (own_apart it.around d loop_is.body (and_parts (loop_fits it.around d loop_is.body) (stmts_fit (in_loop it.around d) loop_is.body) it.fits).0))

  module _ (g : Head) (inside : StmtTrees) (only : only_loop loop_is.body ≡ Some (pair g inside)) where
    inner_apart : (w : List ℕ) → is_same_text g.variable d.variable || is_among g.variable (around_loop w).around.variables ≡ false
    inner_apart w =
        let it = around_loop w in
        let deeper = only_fits (in_loop it.around d) loop_is.body g inside (and_parts (loop_fits it.around d loop_is.body) (stmts_fit (in_loop it.around d) loop_is.body) it.fits).1 only in
        ap (is_among g.variable) (sym deeper.variables) ∙ own_apart deeper.around g inside (and_parts (loop_fits deeper.around g inside) (stmts_fit (in_loop deeper.around g) inside) deeper.fits).0

    -- the variable of the one DO in it is another
    pub variables_differ : is_same_text d.variable g.variable ≡ false
    variables_differ =
        let none = (or_none (is_same_text g.variable d.variable) (is_among g.variable (around_loop g.variable).around.variables) (inner_apart g.variable)).0 in
        false_unless (is_same_text d.variable g.variable)
        (λ e. never (is_same_text d.variable g.variable) e ((λ i. is_same_text (same_is d.variable g.variable e i) (sym (same_is d.variable g.variable e) i)) ∙ none))

    -- and that of no DO round both
    pub inner_variable_apart : is_among g.variable (indices_of (nest_round t l)) ≡ false
    inner_variable_apart =
        let it = around_loop g.variable in
        let none = (or_none (is_same_text g.variable d.variable) (is_among g.variable it.around.variables) (inner_apart g.variable)).1 in
        false_unless (is_among g.variable (indices_of (nest_round t l))) (λ k. never (is_among g.variable it.around.variables) (it.told k) none)
