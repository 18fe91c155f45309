use Rattle.std.proofs.Common.{◌≡◌, IfOk, IfErr, OnOk, ◌≤◌, ◌+◌, ◌-◌, ◌⊎◌, inr, ℕ, List, [], ◌∷◌, ◌++◌, map, length, drop, refl, sym, ap, subst, ◌∙◌, arith}
use Rattle.std.proofs.lemmas.List.{map_push, drop_all}
use Rattle.std.proofs.lemmas.Result.{on_ok_weaker, IfErr-weaker}
use Rattle.ped_tree.specs.Tree.{StmtTree, StmtTrees}
use Rattle.ped_tree.specs.Views.{expr_tree, pack_exprs, cond_tree, stmt_tree, stmt_trees, head_of}
use Rattle.ped_tree.specs.Numbering.{statement_count, statements_count}
use Rattle.ped_tree.specs.Grammar.LimitNumbers.{most_blocks_nested}
use Rattle.ped_tree.specs.declared.statements.Stmt.{Stmt}
use Rattle.ped_links.specs.ped_symbols.specs.Values.{Values}
use Rattle.ped_links.specs.ped_units.specs.Forms.{Called}
use Rattle.ped_links.specs.ped_units.specs.Expanding as plain
use Rattle.ped_links.specs.ped_units.specs.Expanding.{Expanded, with_formals, bound_arguments, body_names, call_comment, call_expanded, all_expanded_in}
use Rattle.ped_calls.specs.Binding.{StandAlike, local_meanings}
use Rattle.ped_calls.specs.Meaning.{meanings_of}
use Rattle.ped_calls.specs.Courses.{units_of, ExpandsOn, GoesOn, Passes, too_many, too_deep, StopsAt, IsTooDeep, AreTooDeep, expanded_at, all_expanded_at, block_at, inside_at}
use Rattle.ped_calls.specs.Giving.{given_of}
use Rattle.ped_links.specs.ped_units.specs.Views.{program_unit_of}
use Rattle.ped_calls.specs.declared.giving.Given.{Given}
use Rattle.ped_calls.specs.declared.expanding.Course.{Course}
use Rattle.ped_calls.specs.declared.expanding.File.{File}
use Rattle.ped_calls.specs.declared.expanding.Subroutine.{Subroutine}
use Rattle.ped_calls.specs.declared.expanding.Within.{Within}
use Rattle.ped_calls.proofs.CourseSteps.{stops_by, stopped_passes, packed_behind, expands_first, expands_more, expands_all, goes_on, expands_past, then_stops, else_stops, do_stops}
use Rattle.ped_calls.proofs.BlockSteps.{block_goes, block_past, block_is, front_count, room_passes, call_is_block}
use Rattle.ped_calls.proofs.Expansions.{call_counts}
use Rattle.ped_calls.proofs.SameMeanings.{body_same}
use Rattle.ped_calls.proofs.Measures.{stmts_weight, inside_smaller, unit_weight, stmts_left, item_weight}
use Rattle.ped_links.proofs.StatementTrees.{tree-If, tree-Do}
use Rattle.ped_calls.proofs.expanding.File.+expand.Goals as goal

pub statements-loop-statement-init : goal.statements-loop-statement-init
statements-loop-statement-init t c =
    let m = meanings_of c.args.within.now.meanings.now in
    let f = call_expanded c.args.within.now.deeper (units_of c.args.self.now.units.now) c.args.within.now.constants.now in
    let ss = stmt_trees c.args.statements.now in
    let old = c.args.course.now in
    subst (λ (xs : List Stmt). ExpandsOn m f ss old ss (map stmt_tree xs) old) (sym c.new-all.ensures.items) (expands_first m f ss old c.requires.course)

pub statements-statement-requires : goal.statements-statement-requires
statements-statement-requires t c =
    let weight = item_weight c.args.statements.now c.loop-statement.statement-index c.statement-item.result c.loop-statement-test.true c.statement-item.is in
    (omega (arith, weight), (c.requires.file, c.loop-statement.invariant.underway))

pub statements-loop-statement-preserved : goal.statements-loop-statement-preserved
statements-loop-statement-preserved t c =
    let m = meanings_of c.args.within.now.meanings.now in
    let f = call_expanded c.args.within.now.deeper (units_of c.args.self.now.units.now) c.args.within.now.constants.now in
    let ss = stmt_trees c.args.statements.now in
    let rest = stmt_trees (drop (c.loop-statement.statement-index + 1) c.args.statements.now) in
    let left = stmts_left c.args.statements.now c.loop-statement.statement-index c.statement-item.result c.loop-statement-test.true c.statement-item.is in
    expands_more m f ss c.args.course.now (stmt_trees (drop c.loop-statement.statement-index c.args.statements.now)) rest (stmt_tree c.statement-item.result)
    (map stmt_tree c.loop-statement.all.items) (map stmt_tree c.push.new.self.items) c.loop-statement.course c.statement.new.course
    c.loop-statement.invariant left
    (ap (map stmt_tree) c.in_ok-push.ensures.items ∙ map_push stmt_tree c.loop-statement.all.items c.in_ok-statement.field-0 ∙ ap (λ (s : StmtTree). map stmt_tree c.loop-statement.all.items ++ s ∷ []) c.in_ok-statement.ensures.statement)
    c.in_ok-statement.ensures.course

pub statements-returns-clause-statements : goal.statements-returns-clause-statements
statements-returns-clause-statements t c =
    let m = meanings_of c.args.within.now.meanings.now in
    let f = call_expanded c.args.within.now.deeper (units_of c.args.self.now.units.now) c.args.within.now.constants.now in
    let ended : length c.args.statements.now ≤ c.loop-statement.statement-index = omega (arith, c.loop-statement-test.false, c.loop-statement.auto.statement-index-end) in
    let none = ap stmt_trees (drop_all c.loop-statement.statement-index c.args.statements.now ended) in
    packed_behind (map stmt_tree c.loop-statement.all.items)
    ∙ expands_all m f (stmt_trees c.args.statements.now) c.args.course.now (stmt_trees (drop c.loop-statement.statement-index c.args.statements.now)) (map stmt_tree c.loop-statement.all.items) c.loop-statement.course c.loop-statement.invariant none

pub statements-returns-clause-course : goal.statements-returns-clause-course
statements-returns-clause-course t c =
    let m = meanings_of c.args.within.now.meanings.now in
    let f = call_expanded c.args.within.now.deeper (units_of c.args.self.now.units.now) c.args.within.now.constants.now in
    let ended : length c.args.statements.now ≤ c.loop-statement.statement-index = omega (arith, c.loop-statement-test.false, c.loop-statement.auto.statement-index-end) in
    let none = ap stmt_trees (drop_all c.loop-statement.statement-index c.args.statements.now ended) in
    goes_on m f (stmt_trees c.args.statements.now) c.args.course.now (stmt_trees (drop c.loop-statement.statement-index c.args.statements.now)) (map stmt_tree c.loop-statement.all.items) c.loop-statement.course c.loop-statement.invariant none

pub call-returns-in-Some-clause-statement : goal.call-returns-in-Some-clause-statement
call-returns-in-Some-clause-statement t c =
    let us = units_of c.args.self.now.units.now in
    let g = given_of c.args.course.now.given in
    let same = call_is_block c.args.within.now.deeper us c.args.within.now.constants.now c.args.name.now (map expr_tree c.args.arguments.now) g (program_unit_of c.in-Some.called.unit.now) c.in-Some.ensures.deeper c.in-Some.ensures.unit in
    subst (λ (e : Expanded plain.Given). IfOk c.block.result (λ s. stmt_tree s ≡ e.statement)) same c.block.ensures.statement

pub call-returns-in-Some-clause-course : goal.call-returns-in-Some-clause-course
call-returns-in-Some-clause-course t c =
    let us = units_of c.args.self.now.units.now in
    let g = given_of c.args.course.now.given in
    let same = call_is_block c.args.within.now.deeper us c.args.within.now.constants.now c.args.name.now (map expr_tree c.args.arguments.now) g (program_unit_of c.in-Some.called.unit.now) c.in-Some.ensures.deeper c.in-Some.ensures.unit in
    subst (λ (e : Expanded plain.Given). OnOk c.block.result (GoesOn c.args.course.now c.block.new.course 1 (statement_count e.statement) e.state)) same c.block.ensures.course

pub call-returns-in-Some-clause-stopped : goal.call-returns-in-Some-clause-stopped
call-returns-in-Some-clause-stopped t c =
    let us = units_of c.args.self.now.units.now in
    let g = given_of c.args.course.now.given in
    let same = call_is_block c.args.within.now.deeper us c.args.within.now.constants.now c.args.name.now (map expr_tree c.args.arguments.now) g (program_unit_of c.in-Some.called.unit.now) c.in-Some.ensures.deeper c.in-Some.ensures.unit in
    subst (λ (e : Expanded plain.Given). IfErr c.block.result (λ why. StopsAt why (Passes c.args.course.now.room 1 (statement_count e.statement) (IsTooDeep c.args.within.now.depth e.statement)))) same c.block.ensures.stopped

-- a limit is passed by statements that are expanded there
abbrev AllPass : File → Within → Course → StmtTrees → Type 0
AllPass f w old ss =
    Passes old.room (statements_count ss) (statements_count (all_expanded_at f w ss (given_of old.given)).statements) (AreTooDeep w.depth (all_expanded_at f w ss (given_of old.given)).statements)

-- by a statement
abbrev OnePasses : File → Within → Course → StmtTree → Type 0
OnePasses f w old s = Passes old.room (statement_count s) (statement_count (expanded_at f w s (given_of old.given)).statement) (IsTooDeep w.depth (expanded_at f w s (given_of old.given)).statement)

-- where arguments were bound
abbrev bound_course : Course → Given → Course
bound_course old given = record old { given = given }

pub statements-returns-in_err-statement-clause-stopped : goal.statements-returns-in_err-statement-clause-stopped
statements-returns-in_err-statement-clause-stopped t c =
    let w = c.args.within.now in
    let us = units_of c.args.self.now.units.now in
    let ss = c.args.statements.now in
    let i = c.loop-statement.statement-index in
    let left = stmts_left ss i c.statement-item.result c.loop-statement-test.true c.statement-item.is in
    let e = c.in_err-statement.field-0.0 in
    stopped_passes c.from_residual.result e (AllPass c.args.self.now w c.args.course.now (stmt_trees ss)) c.from_residual.ensures.1
    (stops_by e
    (expands_past (meanings_of w.meanings.now) (call_expanded w.deeper us w.constants.now) (stmt_trees ss) c.args.course.now w.depth (stmt_trees (drop i ss)) (stmt_trees (drop (i + 1) ss)) (stmt_tree c.statement-item.result)
    (map stmt_tree c.loop-statement.all.items) c.loop-statement.course (call_counts w.deeper us w.constants.now) c.loop-statement.invariant left)
    c.in_err-statement.ensures.stopped)

pub statement-returns-in_err-then_part-in-If-clause-stopped : goal.statement-returns-in_err-then_part-in-If-clause-stopped
statement-returns-in_err-then_part-in-If-clause-stopped t c =
    let w = c.args.within.now in
    let us = units_of c.args.self.now.units.now in
    let e = c.in_err-then_part-in-If.field-0.0 in
    let at : c.deref.result.now ≡ c.in-If.then_part.items = cc (c.deref.ensures.value) in
    stopped_passes c.from_residual.result e (OnePasses c.args.self.now w c.args.course.now (stmt_tree c.args.statement.now)) c.from_residual.ensures.1
    (stops_by e
    (then_stops (meanings_of w.meanings.now) (call_expanded w.deeper us w.constants.now) (call_counts w.deeper us w.constants.now) c.args.course.now w.depth (cond_tree c.in-If.condition) (stmt_trees c.in-If.then_part.items) (stmt_trees c.in-If.else_part.items)
    (stmt_tree c.args.statement.now) (stmt_trees c.deref.result.now) (ap stmt_tree c.in-If.is ∙ tree-If c.in-If.condition c.in-If.then_part c.in-If.else_part) (ap stmt_trees at))
    c.in_err-then_part-in-If.ensures.stopped)

pub statement-returns-in-Err-clause-stopped : goal.statement-returns-in-Err-clause-stopped
statement-returns-in-Err-clause-stopped t c =
    let w = c.args.within.now in
    let us = units_of c.args.self.now.units.now in
    let at : c.deref.result.now ≡ c.in-If.then_part.items = cc (c.deref.ensures.value) in
    let also : c.deref-in-If.result.now ≡ c.in-If.else_part.items = cc (c.deref-in-If.ensures.value) in
    stops_by c.in-Err.stopped
    (else_stops (meanings_of w.meanings.now) (call_expanded w.deeper us w.constants.now) (call_counts w.deeper us w.constants.now) c.args.course.now w.depth (cond_tree c.in-If.condition) (stmt_trees c.in-If.then_part.items) (stmt_trees c.in-If.else_part.items)
    c.statements.new.course (stmt_tree c.args.statement.now) (stmt_trees c.deref.result.now) (stmt_trees c.deref-in-If.result.now)
    (ap stmt_tree c.in-If.is ∙ tree-If c.in-If.condition c.in-If.then_part c.in-If.else_part) (ap stmt_trees at) (ap stmt_trees also) c.in_ok-then_part-in-If.ensures.course)
    c.in-Err.ensures.stopped

pub statement-returns-in_err-body-in-Do-clause-stopped : goal.statement-returns-in_err-body-in-Do-clause-stopped
statement-returns-in_err-body-in-Do-clause-stopped t c =
    let w = c.args.within.now in
    let us = units_of c.args.self.now.units.now in
    let e = c.in_err-body-in-Do.field-0.0 in
    let at : c.deref-in-Do.result.now ≡ c.in-Do.d.body.items = cc (c.deref-in-Do.ensures.value) in
    stopped_passes c.from_residual-in_err-body-in-Do.result e (OnePasses c.args.self.now w c.args.course.now (stmt_tree c.args.statement.now)) c.from_residual-in_err-body-in-Do.ensures.1
    (stops_by e
    (do_stops (meanings_of w.meanings.now) (call_expanded w.deeper us w.constants.now) (call_counts w.deeper us w.constants.now) c.args.course.now w.depth (head_of c.in-Do.d) (stmt_trees c.in-Do.d.body.items)
    (stmt_tree c.args.statement.now) (stmt_trees c.deref-in-Do.result.now) (ap stmt_tree c.in-Do.is ∙ tree-Do c.in-Do.d) (ap stmt_trees at))
    c.in_err-body-in-Do.ensures.stopped)

pub inside-returns-in_err-take_room-clause-stopped : goal.inside-returns-in_err-take_room-clause-stopped
inside-returns-in_err-take_room-clause-stopped t c =
    let w = c.args.within.now in
    let us = units_of c.args.self.now.units.now in
    let v = program_unit_of c.args.called.now.unit.now in
    let g = given_of c.args.course.now.given in
    let formals = meanings_of c.args.formals in
    let e = c.in_err-take_room.field-0.0 in
    let at : c.deref.result.now ≡ c.args.called.now.unit.now.program.body.items = cc (c.deref.ensures.value) in
    stopped_passes c.from_residual.result e
    (Passes c.args.course.now.room 0 (c.args.assignments + statements_count (inside_at c.args.self.now w c.args.called.now formals g).statements)
    ((most_blocks_nested ≤ w.depth) ⊎ AreTooDeep (w.depth + 1) (inside_at c.args.self.now w c.args.called.now formals g).statements))
    c.from_residual.ensures.1
    (stops_by e (room_passes (call_expanded (w.deeper - 1) us []) (call_counts (w.deeper - 1) us []) v formals g w.depth c.args.course.now.room c.args.assignments (stmt_trees c.deref.result.now) (ap stmt_trees at)) c.in_err-take_room.ensures.stopped)

pub inside-statements-requires : goal.inside-statements-requires
inside-statements-requires t c =
    let us = c.args.self.now.units.now in
    let found = c.requires.found.1 in
    let unit = c.args.called.now.unit.now in
    let weight = unit_weight us found.number unit found.is_number in
    let at : c.deref-2.result.now ≡ unit.program.body.items = cc (c.deref-2.ensures.value) in
    let same : stmts_weight (stmt_trees c.deref-2.result.now) ≡ stmts_weight (stmt_trees unit.program.body.items) = ap (λ (ss : List Stmt). stmts_weight (stmt_trees ss)) at in
    let less = inside_smaller us c.args.within.now.deeper (stmts_weight (stmt_trees c.deref-2.result.now)) found.deeper (omega (arith, weight, same)) in
    (omega (arith, less), (c.requires.file, record { few = omega (arith, c.in_ok-take_room.ensures.room, c.requires.course.few); next = c.in_ok-add_names.ensures.next }))

pub block-returns-in_err-statements-clause-stopped : goal.block-returns-in_err-statements-clause-stopped
block-returns-in_err-statements-clause-stopped t c =
    let w = c.args.within.now in
    let es = map expr_tree c.args.arguments.now in
    let inner = call_expanded (w.deeper - 1) (units_of c.args.self.now.units.now) [] in
    let v = program_unit_of c.args.called.now.unit.now in
    let called : Called = record { name = c.args.name.now; arguments = pack_exprs es } in
    let old = c.args.course.now in
    let b = bound_arguments w.constants.now es (given_of old.given) in
    let e = c.in_err-statements.field-0.0 in
    let formals : c.as_slice.result.now ≡ c.args.called.now.unit.now.formals = cc (c.as_slice.ensures) in
    let meant : meanings_of c.bind.new.meanings ≡ with_formals [] v.formals b.meant = c.in_ok-bind.ensures.meanings ∙ (λ i. with_formals (c.nothing-meanings.ensures i) (formals i) b.meant) in
    let front : map stmt_tree c.bind.new.front.items ≡ (call_comment called ∷ []) ++ b.assignments = c.in_ok-bind.ensures.assignments ∙ ap (λ (ss : List StmtTree). ss ++ b.assignments) c.in_ok-front.ensures in
    let counted = front_count c.bind.new.front.items (call_comment called) b.assignments front in
    stopped_passes c.from_residual-in_err-statements.result e
    (Passes old.room 1 (statement_count (block_at c.args.self.now w c.args.called.now c.args.name.now es (given_of old.given)).statement)
    (IsTooDeep w.depth (block_at c.args.self.now w c.args.called.now c.args.name.now es (given_of old.given)).statement))
    c.from_residual-in_err-statements.ensures.1
    (stops_by e
    (block_past w.constants.now es inner v called w.depth old (bound_course old c.bind.new.given) (meanings_of c.bind.new.meanings) (c.len.result - 1) refl c.in_ok-bind.ensures.given meant (omega (arith, counted, c.len.ensures, c.bind.new.front.ok.0)))
    c.in_err-statements.ensures.stopped)

pub block-returns-clause-statement : goal.block-returns-clause-statement
block-returns-clause-statement t c =
    let w = c.args.within.now in
    let es = map expr_tree c.args.arguments.now in
    let inner = call_expanded (w.deeper - 1) (units_of c.args.self.now.units.now) [] in
    let v = program_unit_of c.args.called.now.unit.now in
    let called : Called = record { name = c.args.name.now; arguments = pack_exprs es } in
    let g = given_of c.args.course.now.given in
    let b = bound_arguments w.constants.now es g in
    let formals : c.as_slice.result.now ≡ c.args.called.now.unit.now.formals = cc (c.as_slice.ensures) in
    let meant : meanings_of c.bind.new.meanings ≡ with_formals [] v.formals b.meant = c.in_ok-bind.ensures.meanings ∙ (λ i. with_formals (c.nothing-meanings.ensures i) (formals i) b.meant) in
    let front : map stmt_tree c.bind.new.front.items ≡ (call_comment called ∷ []) ++ b.assignments = c.in_ok-bind.ensures.assignments ∙ ap (λ (ss : List StmtTree). ss ++ b.assignments) c.in_ok-front.ensures in
    block_is w.constants.now es inner v called g (given_of c.bind.new.given) (meanings_of c.bind.new.meanings) (stmt_tree c.block.result) (map stmt_tree c.in_ok-joined.field-0.items) (map stmt_tree c.bind.new.front.items) (map stmt_tree c.in_ok-statements.statements.items)
    c.block.ensures c.in_ok-joined.ensures front c.in_ok-statements.ensures.statements meant c.in_ok-bind.ensures.given

pub block-returns-clause-course : goal.block-returns-clause-course
block-returns-clause-course t c =
    let w = c.args.within.now in
    let es = map expr_tree c.args.arguments.now in
    let inner = call_expanded (w.deeper - 1) (units_of c.args.self.now.units.now) [] in
    let v = program_unit_of c.args.called.now.unit.now in
    let called : Called = record { name = c.args.name.now; arguments = pack_exprs es } in
    let old = c.args.course.now in
    let b = bound_arguments w.constants.now es (given_of old.given) in
    let formals : c.as_slice.result.now ≡ c.args.called.now.unit.now.formals = cc (c.as_slice.ensures) in
    let meant : meanings_of c.bind.new.meanings ≡ with_formals [] v.formals b.meant = c.in_ok-bind.ensures.meanings ∙ (λ i. with_formals (c.nothing-meanings.ensures i) (formals i) b.meant) in
    let front : map stmt_tree c.bind.new.front.items ≡ (call_comment called ∷ []) ++ b.assignments = c.in_ok-bind.ensures.assignments ∙ ap (λ (ss : List StmtTree). ss ++ b.assignments) c.in_ok-front.ensures in
    let counted = front_count c.bind.new.front.items (call_comment called) b.assignments front in
    block_goes w.constants.now es inner v called old (bound_course old c.bind.new.given) c.inside.new.course (meanings_of c.bind.new.meanings) (c.len.result - 1) refl c.in_ok-bind.ensures.given meant
    (omega (arith, counted, c.len.ensures, c.bind.new.front.ok.0)) c.in_ok-statements.ensures.course

-- the statements of a subroutine, expanded with what stands for their names
abbrev inside_now : File → Within → plain.Meanings → Values → plain.Given → List Stmt → plain.AllExpanded plain.Given
inside_now f w m constants g body = all_expanded_in m (call_expanded (w.deeper - 1) (units_of f.units.now) constants) (stmt_trees body) g

-- they are the same, where literals stand only for the named constants that occur in them
inside_is : (f : File) (w : Within) (v : Subroutine) (formals m : plain.Meanings) (constants : Values) (g before now : plain.Given) (body : List Stmt) → constants ≡ [] → before ≡ g
    → StandAlike (body_names (program_unit_of v.unit.now)) m (local_meanings (program_unit_of v.unit.now) formals before).meanings
    → now ≡ (local_meanings (program_unit_of v.unit.now) formals before).given → body ≡ v.unit.now.program.body.items
    → inside_now f w m constants now body ≡ inside_at f w v formals g
inside_is f w v formals m constants g before now body none same alike given is =
    ap (λ (cs : Values). inside_now f w m cs now body) none
    ∙ body_same (call_expanded (w.deeper - 1) (units_of f.units.now) []) (program_unit_of v.unit.now) m formals before now (stmt_trees body) alike given (ap stmt_trees is)
    ∙ ap (inside_at f w v formals) same

-- room was taken for them
inside_goes : (old mid new : Course) (assignments body : ℕ) (all same : plain.AllExpanded plain.Given) → mid.room + (assignments + body) ≡ old.room → all ≡ same → GoesOn mid new body (statements_count all.statements) all.state
    → GoesOn old new 0 (assignments + statements_count same.statements) same.state
inside_goes old mid new assignments body all same taken is goes =
    let room = goes.room in
    subst (λ (e : plain.AllExpanded plain.Given). GoesOn old new 0 (assignments + statements_count e.statements) e.state) is (record { given = goes.given; room = omega (arith, room, taken); underway = goes.underway })

inside_passes : (room mid depth assignments body : ℕ) (all same : plain.AllExpanded plain.Given) → mid + (assignments + body) ≡ room → all ≡ same → Passes mid body (statements_count all.statements) (AreTooDeep (depth + 1) all.statements)
    → Passes room 0 (assignments + statements_count same.statements) ((most_blocks_nested ≤ depth) ⊎ AreTooDeep (depth + 1) same.statements)
inside_passes room mid depth assignments body all same taken is (too_many h) =
    subst (λ (e : plain.AllExpanded plain.Given). Passes room 0 (assignments + statements_count e.statements) ((most_blocks_nested ≤ depth) ⊎ AreTooDeep (depth + 1) e.statements)) is (too_many (omega (arith, h, taken)))
inside_passes room mid depth assignments body all same taken is (too_deep h) =
    subst (λ (e : plain.AllExpanded plain.Given). Passes room 0 (assignments + statements_count e.statements) ((most_blocks_nested ≤ depth) ⊎ AreTooDeep (depth + 1) e.statements)) is (too_deep (inr h))

pub inside-returns-clause-statements : goal.inside-returns-clause-statements
inside-returns-clause-statements t c =
    let same = inside_is c.args.self.now c.args.within.now c.args.called.now (meanings_of c.args.formals) (meanings_of c.add_names.new.meanings) c.new-none.result (given_of c.args.course.now.given) (given_of c.take_room.new.course.given) (given_of c.add_names.new.given)
    c.deref-2.result.now c.new-none.ensures (ap given_of c.in_ok-take_room.ensures.given) c.in_ok-add_names.ensures.meanings c.in_ok-add_names.ensures.given (cc (c.deref-2.ensures.value)) in
    subst (λ (e : plain.AllExpanded plain.Given). IfOk c.statements.result (λ all. stmt_trees all.items ≡ e.statements)) same c.statements.ensures.statements

pub inside-returns-clause-course : goal.inside-returns-clause-course
inside-returns-clause-course t c =
    let same = inside_is c.args.self.now c.args.within.now c.args.called.now (meanings_of c.args.formals) (meanings_of c.add_names.new.meanings) c.new-none.result (given_of c.args.course.now.given) (given_of c.take_room.new.course.given) (given_of c.add_names.new.given)
    c.deref-2.result.now c.new-none.ensures (ap given_of c.in_ok-take_room.ensures.given) c.in_ok-add_names.ensures.meanings c.in_ok-add_names.ensures.given (cc (c.deref-2.ensures.value)) in
    let bodies : c.deref.result.now ≡ c.deref-2.result.now = cc (c.deref.ensures.value, c.deref-2.ensures.value) in
    let counted : statements_count (stmt_trees c.deref.result.now) ≡ statements_count (stmt_trees c.deref-2.result.now) = ap (λ (ss : List Stmt). statements_count (stmt_trees ss)) bodies in
    on_ok_weaker c.statements.result
    (λ goes. inside_goes c.args.course.now (record c.take_room.new.course { given = c.add_names.new.given }) c.statements.new.course c.args.assignments (statements_count (stmt_trees c.deref-2.result.now))
    (inside_now c.args.self.now c.args.within.now (meanings_of c.add_names.new.meanings) c.new-none.result (given_of c.add_names.new.given) c.deref-2.result.now)
    (inside_at c.args.self.now c.args.within.now c.args.called.now (meanings_of c.args.formals) (given_of c.args.course.now.given))
    (omega (arith, counted, c.in_ok-take_room.ensures.room)) same goes)
    c.statements.ensures.course

pub inside-returns-clause-stopped : goal.inside-returns-clause-stopped
inside-returns-clause-stopped t c =
    let w = c.args.within.now in
    let same = inside_is c.args.self.now w c.args.called.now (meanings_of c.args.formals) (meanings_of c.add_names.new.meanings) c.new-none.result (given_of c.args.course.now.given) (given_of c.take_room.new.course.given) (given_of c.add_names.new.given)
    c.deref-2.result.now c.new-none.ensures (ap given_of c.in_ok-take_room.ensures.given) c.in_ok-add_names.ensures.meanings c.in_ok-add_names.ensures.given (cc (c.deref-2.ensures.value)) in
    let bodies : c.deref.result.now ≡ c.deref-2.result.now = cc (c.deref.ensures.value, c.deref-2.ensures.value) in
    let counted : statements_count (stmt_trees c.deref.result.now) ≡ statements_count (stmt_trees c.deref-2.result.now) = ap (λ (ss : List Stmt). statements_count (stmt_trees ss)) bodies in
    IfErr-weaker c.statements.result _ _
    (λ e. stops_by e (inside_passes c.args.course.now.room c.take_room.new.course.room w.depth c.args.assignments (statements_count (stmt_trees c.deref-2.result.now))
    (inside_now c.args.self.now w (meanings_of c.add_names.new.meanings) c.new-none.result (given_of c.add_names.new.given) c.deref-2.result.now)
    (inside_at c.args.self.now w c.args.called.now (meanings_of c.args.formals) (given_of c.args.course.now.given)) (omega (arith, counted, c.in_ok-take_room.ensures.room)) same))
    c.statements.ensures.stopped
