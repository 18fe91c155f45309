-- The block of a CALL: what its CALL is expanded to, and how room and names go along in it.
use Rattle.std.proofs.Common.{◌≡◌, ◌≤◌, ◌<◌, ◌+◌, ◌-◌, ◌⊎◌, ℕ, zero, suc, List, [], ◌∷◌, ◌++◌, map, length, Some, None, refl, sym, ap, subst, ◌∙◌, arith, inl, inr}
use Rattle.std.proofs.lemmas.List.{length-map}
use Rattle.ped_tree.specs.declared.conditions.Relation.TheVariants.{Eq}
use Rattle.ped_tree.specs.declared.statements.Stmt.{Stmt}
use Rattle.ped_tree.specs.Tree.{ExprTree, Int, Rel, StmtTree, StmtTrees, If, no_stmts, more_stmts}
use Rattle.ped_tree.specs.Views.{pack_exprs, pack_stmts, stmt_tree}
use Rattle.ped_tree.specs.Accesses.{listed}
use Rattle.ped_tree.specs.Numbering.{statement_count, statements_count}
use Rattle.ped_tree.specs.Grammar.LimitNumbers.{most_blocks_nested}
use Rattle.ped_links.specs.ped_symbols.specs.Values.{Values}
use Rattle.ped_links.specs.ped_units.specs.Forms.{Called}
use Rattle.ped_links.specs.ped_units.specs.Units.{ProgramUnit, ProgramUnits, unit_of}
use Rattle.ped_links.specs.ped_units.specs.Expanding.{Given, Meanings, Bound, Expanded, AllExpanded, all_expanded_in, block_of, block_with, behind_stmts, bound_arguments, bound_expanded, unit_expanded, call_expanded, call_comment, with_formals}
use Rattle.ped_calls.specs.Binding.{local_meanings}
use Rattle.ped_calls.specs.Giving.{given_of}
use Rattle.ped_calls.specs.Courses.{GoesOn, Passes, too_many, too_deep, IsTooDeep, AreTooDeep}
use Rattle.ped_calls.specs.declared.expanding.Course.{Course}
use Rattle.ped_calls.proofs.BoundArguments.{bound_count}
use Rattle.ped_calls.proofs.Expansions.{Counts, all_grow, deep_block}

-- the expressions of a list that was packed
pub listed_packed : (es : List ExprTree) → listed (pack_exprs es) ≡ es
listed_packed [] = refl
listed_packed (e ∷ es) = ap (λ (rest : List ExprTree). e ∷ rest) (listed_packed es)

-- a CALL without a subroutine, or too deep in others
pub missing_call : (deeper : ℕ) (us : ProgramUnits) (cs : Values) (c : Called) (g : Given) → (deeper ≡ 0) ⊎ (unit_of us c.name ≡ None)
    → call_expanded deeper us cs c g ≡ record { statement = block_of c [] no_stmts; state = g }
missing_call zero us cs c g h = refl
missing_call (suc n) us cs c g (inl h) = absurd (omega (arith, h))
missing_call (suc n) us cs c g (inr h) = ap (unit_expanded (call_expanded n us []) cs c g) h

-- a CALL of a subroutine
pub found_call : (deeper : ℕ) (us : ProgramUnits) (cs : Values) (c : Called) (g : Given) (v : ProgramUnit) → 0 < deeper → unit_of us c.name ≡ Some v
    → call_expanded deeper us cs c g ≡ bound_expanded (call_expanded (deeper - 1) us []) v c (bound_arguments cs (listed c.arguments) g)
found_call zero us cs c g v h k = absurd (omega (arith, h))
found_call (suc n) us cs c g v h k =
    let less : n ≡ suc n - 1 = omega arith in
    ap (unit_expanded (call_expanded n us []) cs c g) k ∙ ap (λ (d : ℕ). bound_expanded (call_expanded d us []) v c (bound_arguments cs (listed c.arguments) g)) less

-- how many statements the block of a CALL has
pub block_count : (cs : Values) (es : List ExprTree) (g : Given) (c : Called) (body : StmtTrees)
    → statement_count (block_of c (bound_arguments cs es g).assignments body) ≡ length (bound_arguments cs es g).assignments + statements_count body + 1
block_count cs es g c body = let k = bound_count cs es g body in omega (arith, k)

-- the statements of a subroutine expanded, where these stand for its dummy arguments
abbrev pub inside : (Called → Given → Expanded Given) → ProgramUnit → Meanings → Given → AllExpanded Given
inside inner v formals g = all_expanded_in (local_meanings v formals g).meanings inner v.tree.body (local_meanings v formals g).given

-- what the block of a CALL is, by its parts
pub block_made : (inner : Called → Given → Expanded Given) (v : ProgramUnit) (c : Called) (b : Bound) (formals : Meanings) (g : Given)
    → formals ≡ with_formals [] v.formals b.meant → g ≡ b.given
    → bound_expanded inner v c b ≡ record { statement = block_of c b.assignments (inside inner v formals g).statements; state = (inside inner v formals g).state }
block_made inner v c b formals g hm hg = λ i. block_with c b (inside inner v (sym hm i) (sym hg i))

-- what goes on behind the block of a CALL
pub block_goes : (cs : Values) (es : List ExprTree) (inner : Called → Given → Expanded Given) (v : ProgramUnit) (c : Called) (old mid new : Course) (formals : Meanings) (assignments : ℕ)
    → mid.room ≡ old.room
    → given_of mid.given ≡ (bound_arguments cs es (given_of old.given)).given
    → formals ≡ with_formals [] v.formals (bound_arguments cs es (given_of old.given)).meant
    → assignments ≡ length (bound_arguments cs es (given_of old.given)).assignments
    → GoesOn mid new 0 (assignments + statements_count (inside inner v formals (given_of mid.given)).statements) (inside inner v formals (given_of mid.given)).state
    → GoesOn old new 1 (statement_count (bound_expanded inner v c (bound_arguments cs es (given_of old.given))).statement) (bound_expanded inner v c (bound_arguments cs es (given_of old.given))).state
block_goes cs es inner v c old mid new formals assignments room given meant few goes =
    let b = bound_arguments cs es (given_of old.given) in
    let e = inside inner v formals (given_of mid.given) in
    let made = block_made inner v c b formals (given_of mid.given) meant given in
    let counted : statement_count (bound_expanded inner v c b).statement ≡ length b.assignments + statements_count e.statements + 1 =
    ap (λ (x : Expanded Given). statement_count x.statement) made ∙ block_count cs es (given_of old.given) c e.statements in
    let one = goes.room in
    record {
      given = goes.given ∙ ap (λ (x : Expanded Given). x.state) (sym made);
      room = omega (arith, counted, one, room, few);
      underway = goes.underway;
    }

-- a limit is passed in the block of a CALL
pub block_past : (cs : Values) (es : List ExprTree) (inner : Called → Given → Expanded Given) (v : ProgramUnit) (c : Called) (depth : ℕ) (old mid : Course) (formals : Meanings) (assignments : ℕ)
    → mid.room ≡ old.room
    → given_of mid.given ≡ (bound_arguments cs es (given_of old.given)).given
    → formals ≡ with_formals [] v.formals (bound_arguments cs es (given_of old.given)).meant
    → assignments ≡ length (bound_arguments cs es (given_of old.given)).assignments
    → Passes mid.room 0 (assignments + statements_count (inside inner v formals (given_of mid.given)).statements) ((most_blocks_nested ≤ depth) ⊎ AreTooDeep (depth + 1) (inside inner v formals (given_of mid.given)).statements)
    → Passes old.room 1 (statement_count (bound_expanded inner v c (bound_arguments cs es (given_of old.given))).statement) (IsTooDeep depth (bound_expanded inner v c (bound_arguments cs es (given_of old.given))).statement)
block_past cs es inner v c depth old mid formals assignments room given meant few (too_many h) =
    let b = bound_arguments cs es (given_of old.given) in
    let e = inside inner v formals (given_of mid.given) in
    let made = block_made inner v c b formals (given_of mid.given) meant given in
    let counted : statement_count (bound_expanded inner v c b).statement ≡ length b.assignments + statements_count e.statements + 1 =
    ap (λ (x : Expanded Given). statement_count x.statement) made ∙ block_count cs es (given_of old.given) c e.statements in
    too_many (omega (arith, counted, room, few, h))
block_past cs es inner v c depth old mid formals assignments room given meant few (too_deep h) =
    let b = bound_arguments cs es (given_of old.given) in
    let e = inside inner v formals (given_of mid.given) in
    let made = block_made inner v c b formals (given_of mid.given) meant given in
    too_deep (subst (λ (x : Expanded Given). IsTooDeep depth x.statement) (sym made) (deep_block depth c b.assignments e.statements h))

packed_both : (xs ys : List StmtTree) → pack_stmts (xs ++ ys) ≡ behind_stmts xs (pack_stmts ys)
packed_both [] ys = refl
packed_both (x ∷ xs) ys = ap (more_stmts x) (packed_both xs ys)

-- the block of a CALL of what was put together
pub block_is : (cs : Values) (es : List ExprTree) (inner : Called → Given → Expanded Given) (v : ProgramUnit) (c : Called) (g mid : Given) (formals : Meanings) (t : StmtTree) (body front rest : List StmtTree)
    → t ≡ If (Rel Eq (Int 0) (Int 0)) (pack_stmts body) no_stmts
    → body ≡ front ++ rest
    → front ≡ (call_comment c ∷ []) ++ (bound_arguments cs es g).assignments
    → pack_stmts rest ≡ (inside inner v formals mid).statements
    → formals ≡ with_formals [] v.formals (bound_arguments cs es g).meant
    → mid ≡ (bound_arguments cs es g).given
    → t ≡ (bound_expanded inner v c (bound_arguments cs es g)).statement
block_is cs es inner v c g mid formals t body front rest is both first others meant given =
    let b = bound_arguments cs es g in
    let packed : pack_stmts body ≡ more_stmts (call_comment c) (behind_stmts b.assignments (inside inner v formals mid).statements) =
    ap pack_stmts (both ∙ ap (λ (xs : List StmtTree). xs ++ rest) first)
    ∙ packed_both (call_comment c ∷ b.assignments) rest
    ∙ ap (behind_stmts (call_comment c ∷ b.assignments)) others in
    is ∙ ap (λ (ss : StmtTrees). If (Rel Eq (Int 0) (Int 0)) ss no_stmts) packed ∙ ap (λ (x : Expanded Given). x.statement) (sym (block_made inner v c b formals mid meant given))

-- so many assignments stand behind the comment
pub front_count : (done : List Stmt) (first : StmtTree) (more : List StmtTree) → map stmt_tree done ≡ (first ∷ []) ++ more → length done ≡ length more + 1
front_count done first more h =
    let counted : length (map stmt_tree done) ≡ length (first ∷ more) = ap length h in
    omega (arith, counted, length-map done stmt_tree)

-- where there is no room for the statements of a subroutine, there is none for what they are expanded to
pub room_passes : (inner : Called → Given → Expanded Given) → Counts inner → (v : ProgramUnit) (formals : Meanings) (g : Given) (depth room assignments : ℕ) (body : StmtTrees) → body ≡ v.tree.body
    → (most_blocks_nested ≤ depth) ⊎ (room < assignments + statements_count body)
    → Passes room 0 (assignments + statements_count (inside inner v formals g).statements) ((most_blocks_nested ≤ depth) ⊎ AreTooDeep (depth + 1) (inside inner v formals g).statements)
room_passes inner counts v formals g depth room assignments body is (inl deep) = too_deep (inl deep)
room_passes inner counts v formals g depth room assignments body is (inr few) =
    let grown = all_grow (local_meanings v formals g).meanings inner counts v.tree.body (local_meanings v formals g).given in
    let same : statements_count body ≡ statements_count v.tree.body = ap statements_count is in
    too_many (omega (arith, few, grown, same))

-- a CALL of a subroutine by its block
pub call_is_block : (deeper : ℕ) (us : ProgramUnits) (cs : Values) (x : List ℕ) (es : List ExprTree) (g : Given) (v : ProgramUnit) → 0 < deeper → unit_of us x ≡ Some v
    → bound_expanded (call_expanded (deeper - 1) us []) v (record { name = x; arguments = pack_exprs es }) (bound_arguments cs es g) ≡ call_expanded deeper us cs (record { name = x; arguments = pack_exprs es }) g
call_is_block deeper us cs x es g v h k =
    let c : Called = record { name = x; arguments = pack_exprs es } in
    sym (found_call deeper us cs c g v h k ∙ ap (λ (as_listed : List ExprTree). bound_expanded (call_expanded (deeper - 1) us []) v c (bound_arguments cs as_listed g)) (listed_packed es))
