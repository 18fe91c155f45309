use Rattle.std.proofs.Common.{◌≡◌, ◌+◌, ◌<◌, ◌++◌, ℕ, List, [], Option, None, Ok, map, drop, refl, sym, ap, subst, ◌∙◌, append_assoc, append-nil, add-zero, arith}
use Rattle.std.specs.Result.{IfOk}
use Rattle.std.proofs.lemmas.List.{at_drop_all}
use Rattle.ped_tree.specs.Tree.{StmtTree, StmtTrees, no_stmts}
use Rattle.ped_tree.specs.Tree as plain
use Rattle.ped_tree.specs.Views.{expr_tree, cond_tree, item_tree, stmt_tree, stmt_trees}
use Rattle.ped_tree.specs.Numbering.{statement_count, statements_count}
use Rattle.ped_tree.specs.declared.expressions.Expr.{Expr}
use Rattle.ped_tree.specs.declared.statements.PrintItem.{PrintItem}
use Rattle.ped_tree.specs.declared.statements.Stmt.{Stmt}
use Rattle.ped_tree.specs.Views.{head_of}
use Rattle.ped_tree.specs.NamesIn.{loop_variables, all_loop_variables}
use Rattle.ped_flow.specs.Summaries.{passing, summary_in_turn, least_of, summary_of, summary_of_all}
use Rattle.ped_flow.specs.Kept.{first_outside, all_first_outside}
use Rattle.ped_flow.specs.RowMarks.{names_in, constants_in}
use Rattle.ped_flow.specs.Parts.{IsPart}
use Rattle.ped_flow.specs.Entries.{IsEntry, Knows, KnowsAll, KnowsInside, AreSameBut}
use Rattle.ped_flow.specs.declared.entries.Entry.{Entry}
use Rattle.ped_flow.specs.declared.parts.Part.{Part}
use Rattle.ped_flow.proofs.SumLaws.{least-none, in_turn-passing}
use Rattle.ped_flow.proofs.ScalarSteps.{rest_is}
use Rattle.ped_flow.proofs.WalkSteps.{count_next, walk_next}
use Rattle.ped_flow.proofs.OutsideSteps.{outside_next}
use Rattle.ped_flow.proofs.EventRows.{if_ok}
use Rattle.ped_flow.proofs.PartSummaries.{same_part}
use Rattle.ped_flow.proofs.Known.{knows_written, same_written, entry_found, if_found, on_found, on_both, on_ok, if_known, if_others, if_count, known_next, others_next, unnumbered, uncounted, tree-Stop, tree-Comment, tree-Assign, tree-Print, tree-Read, tree-If, tree-Do}
use Rattle.ped_flow.proofs.row_walks.+rows.Goals as goal

pub entry_of-returns-in-Comment-clause-entry : goal.entry_of-returns-in-Comment-clause-entry
entry_of-returns-in-Comment-clause-entry t c =
    let p = c.args.places.now in
    let s = plain.Comment c.in-Comment.field-0 in
    subst (λ (z : StmtTree). IfOk c.entry_with.result (λ e. IsEntry p e z c.args.number.now)) (sym (ap stmt_tree c.in-Comment.is ∙ tree-Comment c.in-Comment.field-0))
    (entry_found p s c.args.number.now _ c.nothing.result c.entry_with.result (if_ok c.nothing.result (λ q h. h (names_in p) (sym c.len.ensures)) c.nothing.ensures) (omega arith) c.entry_with.ensures)

pub entry_of-returns-in-Stop-clause-entry : goal.entry_of-returns-in-Stop-clause-entry
entry_of-returns-in-Stop-clause-entry t c =
    let p = c.args.places.now in
    let s = plain.Stop in
    subst (λ (z : StmtTree). IfOk c.entry_with-in-Stop.result (λ e. IsEntry p e z c.args.number.now)) (sym (ap stmt_tree c.in-Stop.is ∙ tree-Stop))
    (entry_found p s c.args.number.now _ c.stopped.result c.entry_with-in-Stop.result (if_ok c.stopped.result (λ q h. h (names_in p) (sym c.len-in-Stop.ensures)) c.stopped.ensures) (omega arith) c.entry_with-in-Stop.ensures)

pub entry_of-returns-in-Assign-clause-entry : goal.entry_of-returns-in-Assign-clause-entry
entry_of-returns-in-Assign-clause-entry t c =
    let p = c.args.places.now in
    let s = plain.Assign (expr_tree c.in-Assign.left) (expr_tree c.in-Assign.right) in
    subst (λ (z : StmtTree). IfOk c.entry_with-in-Assign.result (λ e. IsEntry p e z c.args.number.now)) (sym (ap stmt_tree c.in-Assign.is ∙ tree-Assign c.in-Assign.left c.in-Assign.right))
    (entry_found p s c.args.number.now _ c.assignment.result c.entry_with-in-Assign.result (if_ok c.assignment.result (λ q h. h c.args.number.now) c.assignment.ensures) (omega arith) c.entry_with-in-Assign.ensures)

pub entry_of-returns-in-Print-clause-entry : goal.entry_of-returns-in-Print-clause-entry
entry_of-returns-in-Print-clause-entry t c =
    let p = c.args.places.now in
    let s = plain.Print (map item_tree c.deref.result.now) in
    subst (λ (z : StmtTree). IfOk c.entry_with-in-Print.result (λ e. IsEntry p e z c.args.number.now)) (sym (ap stmt_tree c.in-Print.is ∙ tree-Print c.in-Print.items ∙ ap (λ (is : List PrintItem). plain.Print (map item_tree is)) (sym c.deref.ensures.value)))
    (entry_found p s c.args.number.now _ c.printing.result c.entry_with-in-Print.result (if_ok c.printing.result (λ q h. h c.args.number.now) c.printing.ensures) (omega arith) c.entry_with-in-Print.ensures)

pub entry_of-returns-in-Read-clause-entry : goal.entry_of-returns-in-Read-clause-entry
entry_of-returns-in-Read-clause-entry t c =
    let p = c.args.places.now in
    let s = plain.Read (map expr_tree c.deref-in-Read.result.now) in
    subst (λ (z : StmtTree). IfOk c.entry_with-in-Read.result (λ e. IsEntry p e z c.args.number.now)) (sym (ap stmt_tree c.in-Read.is ∙ tree-Read c.in-Read.items ∙ ap (λ (es : List Expr). plain.Read (map expr_tree es)) (sym c.deref-in-Read.ensures.value)))
    (entry_found p s c.args.number.now _ c.reading.result c.entry_with-in-Read.result (if_ok c.reading.result (λ q h. h c.args.number.now) c.reading.ensures) (omega arith) c.entry_with-in-Read.ensures)

pub entry_of-returns-in-If : goal.entry_of-returns-in-If
entry_of-returns-in-If t c =
    let p = c.args.places.now in
    let n = c.args.number.now in
    let m = c.all_parts.new.number in
    let a = stmt_trees c.deref-in-If.result.now in
    let b = stmt_trees c.deref-in-If-2.result.now in
    let first = c.in_ok-first-in-If.ensures in
    let parts = c.all_parts-second.result in
    let second = c.all_parts-second.ensures in
    let r = c.branches_entry.result in
    let made = c.branches_entry.ensures in
    let s = plain.If (cond_tree c.in-If.c) a b in
    let tree : s ≡ stmt_tree c.args.s.now = sym (ap stmt_tree c.in-If.is ∙ tree-If c.in-If.c c.in-If.then_part c.in-If.else_part ∙ (λ j. plain.If (cond_tree c.in-If.c) (stmt_trees (sym c.deref-in-If.ensures.value j)) (stmt_trees (sym c.deref-in-If-2.ensures.value j)))) in
    let count = λ (q : Part) (there : parts ≡ Ok q). if_count p [] [] [] (cond_tree c.in-If.c) a b n m first.number c.all_parts-second.new.number (on_found parts q there second.number) in
    let behind = λ (q : Part) (there : parts ≡ Ok q).
    subst (λ (k : ℕ). IsPart (names_in p) q (λ x. summary_of_all (constants_in p) x b k) (λ x. all_first_outside (constants_in p) x b k) (all_loop_variables b)) first.number (if_found _ parts q there second.part) in
    record {
      number = on_both _ r parts made (λ q there. count q there ∙ ap (λ (z : StmtTree). n + statement_count z) tree);
      entry = subst (λ (z : StmtTree). IfOk r (λ e. IsEntry p e z n)) tree (if_ok r (λ e h. h.2 n a b first.part (behind h.0 h.1) (count h.0 h.1)) made);
      known = on_both _ r parts made (λ q there. subst (λ (z : StmtTree). KnowsInside p c.all_parts-second.new.table z n) tree
          (if_known p [] c.all_parts.new.table c.all_parts-second.new.table (cond_tree c.in-If.c) a b n m first.number first.known (on_found parts q there second.known) (on_found parts q there second.others)));
      others = on_both _ r parts made (λ q there. subst (λ (z : StmtTree). AreSameBut c.args.table.now c.all_parts-second.new.table (n + 1) (n + statement_count z)) tree
          (if_others p c.args.table.now c.all_parts.new.table c.all_parts-second.new.table (cond_tree c.in-If.c) a b n m first.number first.others (on_found parts q there second.others)));
    }

pub entry_of-returns-in-Do : goal.entry_of-returns-in-Do
entry_of-returns-in-Do t c =
    let p = c.args.places.now in
    let n = c.args.number.now in
    let d = c.in-Do.d in
    let body = c.in_ok-body-in-Do.ensures in
    let tree : plain.Do (head_of d) (stmt_trees d.body.items) ≡ stmt_tree c.args.s.now = sym (ap stmt_tree c.in-Do.is ∙ tree-Do d) in
    let count : c.all_parts-in-Do.new.number ≡ n + (statements_count (stmt_trees d.body.items) + 1) =
    (let e : statements_count (stmt_trees c.deref-in-Do.result.now) ≡ statements_count (stmt_trees d.body.items) = ap (λ (ss : List Stmt). statements_count (stmt_trees ss)) c.deref-in-Do.ensures.value in omega (arith, e, body.number)) in
    let part = subst (λ (ss : List Stmt). IsPart (names_in p) c.in_ok-body-in-Do.body (λ x. summary_of_all (constants_in p) x (stmt_trees ss) (n + 1)) (λ x. all_first_outside (constants_in p) x (stmt_trees ss) (n + 1)) (all_loop_variables (stmt_trees ss))) c.deref-in-Do.ensures.value body.part in
    record {
      number = on_ok c.loop_entry.result (count ∙ ap (λ (z : StmtTree). n + statement_count z) tree);
      entry = subst (λ (z : StmtTree). IfOk c.loop_entry.result (λ e. IsEntry p e z n)) tree (if_ok c.loop_entry.result (λ e h. h n part count) c.loop_entry.ensures);
      known = on_ok c.loop_entry.result (subst (λ (z : StmtTree). KnowsInside p c.all_parts-in-Do.new.table z n) tree
          (subst (λ (ss : List Stmt). KnowsAll p c.all_parts-in-Do.new.table (stmt_trees ss) (n + 1)) c.deref-in-Do.ensures.value body.known));
      others = on_ok c.loop_entry.result (subst (λ (k : ℕ). AreSameBut c.args.table.now c.all_parts-in-Do.new.table (n + 1) k) (sym body.number ∙ count ∙ ap (λ (z : StmtTree). n + statement_count z) tree) body.others);
    }

pub add_part-returns-then-not-is_numbered : goal.add_part-returns-then-not-is_numbered
add_part-returns-then-not-is_numbered t c =
    let p = c.args.places.now in
    let n = c.args.number.now in
    let s = stmt_tree c.args.s.now in
    let none : statement_count s ≡ 0 = uncounted c.is_numbered.result (statement_count s) c.if-not-is_numbered.true c.is_numbered.ensures in
    let nothing = λ (x : List ℕ). unnumbered p c.args.table.now (constants_in p) x n s none in
    record {
      number = omega (arith, none);
      part = λ f o u h. same_part (names_in p) c.args.part.now f _ o _ u _
          (λ x. sym (in_turn-passing (f x)) ∙ ap (summary_in_turn (f x)) (sym (nothing x).0))
          (λ x. sym (least-none (o x)) ∙ ap (least_of (o x)) (sym (nothing x).1))
          (sym (append-nil u) ∙ ap (λ (v : List (List ℕ)). u ++ v) (sym (nothing []).2)) h;
      known = (nothing []).3;
      others = λ k h. refl;
    }

pub add_part-keep-requires : goal.add_part-keep-requires
add_part-keep-requires t c =
    let some : 0 < statement_count (stmt_tree c.args.s.now) = c.is_numbered.ensures.0 c.if-not-is_numbered.false in
    omega (arith, some, c.requires.room, c.entry_of.auto.table)

pub add_part-returns-in-Ok : goal.add_part-returns-in-Ok
add_part-returns-in-Ok t c =
    let p = c.args.places.now in
    let s = stmt_tree c.args.s.now in
    let n = c.args.number.now in
    let e = c.in_ok-entry.ensures in
    let some : 0 < statement_count s = c.is_numbered.ensures.0 c.if-not-is_numbered.false in
    record {
      number = e.number;
      part = λ f o u h. c.in-Ok.ensures.part (names_in p) f _ o _ u _ h e.entry.part;
      known = subst (λ (table : List (Option Entry)). Knows p table s n) (sym c.keep.ensures)
          (knows_written p c.entry_of.new.table s n c.in_ok-entry.entry (omega (arith, some, c.requires.room, c.entry_of.auto.table)) e.entry e.known);
      others = subst (λ (table : List (Option Entry)). AreSameBut c.args.table.now table n (n + statement_count s)) (sym c.keep.ensures)
          (same_written c.args.table.now c.entry_of.new.table n (n + statement_count s) c.in_ok-entry.entry (omega (arith, some)) e.others);
    }

pub all_parts-loop-s-init : goal.all_parts-loop-s-init
all_parts-loop-s-init t c = record {
  number = refl;
  after = omega arith;
  sum = λ x. passing;
  outside = λ x. None;
  variables = [];
  is = c.in_ok-part.ensures (names_in c.args.places.now) (sym c.len.ensures);
  summaries = λ x. refl;
  loose = λ x. refl;
  indices = refl;
  known = λ table h k. k;
  others = λ k h. refl;
}

pub all_parts-loop-s-preserved : goal.all_parts-loop-s-preserved
all_parts-loop-s-preserved t c =
    let p = c.args.places.now in
    let cs = constants_in p in
    let body = c.args.body.now in
    let i = c.loop-s.s-index in
    let s = c.s-item.result in
    let n = c.loop-s.number in
    let m = c.add_part.new.number in
    let inv = c.loop-s.invariant in
    let add = c.in_default.ensures in
    let tree = ap stmt_trees (rest_is body i s c.loop-s-test.true c.s-item.is) in
    record {
      number = count_next cs [] body i s c.loop-s-test.true c.s-item.is n m add.number _ inv.number;
      after = omega (arith, inv.after, add.number);
      sum = λ x. summary_in_turn (inv.sum x) (summary_of cs x (stmt_tree s) n);
      outside = λ x. least_of (inv.outside x) (first_outside cs x (stmt_tree s) n);
      variables = inv.variables ++ loop_variables (stmt_tree s);
      is = add.part inv.sum inv.outside inv.variables inv.is;
      summaries = λ x. walk_next cs x body i s c.loop-s-test.true c.s-item.is n m add.number (inv.sum x) (summary_of cs x (stmt_tree s) n) _ _ (inv.summaries x) refl refl;
      loose = λ x. outside_next cs x body i s c.loop-s-test.true c.s-item.is n m add.number (inv.outside x) (first_outside cs x (stmt_tree s) n) _ _ (inv.loose x) refl refl;
      indices = append_assoc inv.variables (loop_variables (stmt_tree s)) (all_loop_variables (stmt_trees (drop (i + 1) body))) ∙ ap (λ (ss : StmtTrees). inv.variables ++ all_loop_variables ss) (sym tree) ∙ inv.indices;
      known = known_next p body i s c.loop-s-test.true c.s-item.is n m add.number c.args.number.now [] c.loop-s.table c.add_part.new.table inv.known add.known add.others;
      others = others_next p body i s c.loop-s-test.true c.s-item.is n m add.number c.args.number.now c.args.table.now c.loop-s.table c.add_part.new.table inv.after inv.others add.others;
    }

pub all_parts-returns : goal.all_parts-returns
all_parts-returns t c =
    let p = c.args.places.now in
    let cs = constants_in p in
    let n = c.loop-s.number in
    let inv = c.loop-s.invariant in
    let none : stmt_trees (drop c.loop-s.s-index c.args.body.now) ≡ no_stmts = at_drop_all stmt_trees c.args.body.now c.loop-s.s-index c.loop-s-test.false in
    let count : n ≡ c.args.number.now + statements_count (stmt_trees c.args.body.now) = sym (add-zero n) ∙ ap (λ (ss : StmtTrees). n + statements_count ss) (sym none) ∙ inv.number in
    record {
      number = count;
      part = same_part (names_in p) c.loop-s.part inv.sum _ inv.outside _ inv.variables _
          (λ x. sym (in_turn-passing (inv.sum x)) ∙ ap (λ (ss : StmtTrees). summary_in_turn (inv.sum x) (summary_of_all cs x ss n)) (sym none) ∙ inv.summaries x)
          (λ x. sym (least-none (inv.outside x)) ∙ ap (λ (ss : StmtTrees). least_of (inv.outside x) (all_first_outside cs x ss n)) (sym none) ∙ inv.loose x)
          (sym (append-nil inv.variables) ∙ ap (λ (ss : StmtTrees). inv.variables ++ all_loop_variables ss) (sym none) ∙ inv.indices) inv.is;
      known = inv.known c.loop-s.table (λ k h. refl) (subst (λ (ss : StmtTrees). KnowsAll p c.loop-s.table ss n) (sym none) tt);
      others = subst (λ (k : ℕ). AreSameBut c.args.table.now c.loop-s.table c.args.number.now k) count inv.others;
    }
