-- Programs with and without C$PED REJECT, and one that stays tidy.
use Rattle.std.proofs.Common.{◌≡◌, ℕ, List, [], ◌∷◌, Bool, true, false, ◌&&◌, Some, inl, inr, refl, sym, ap, ◌∙◌}
use Rattle.ped_bodies.specs.ped_flow.specs.ped_tree.specs.Tree.{Int, Var, Neg, Value, Head, StmtTree, StmtTrees, Assign, Do, Print, Read, Stop, no_stmts, more_stmts, ProgramTree}
use Rattle.ped_bodies.specs.ped_flow.specs.ped_tree.specs.Accesses.{write_of}
use Rattle.ped_bodies.specs.ped_views.specs.Views.{View}
use Rattle.ped_bodies.specs.ped_refs.specs.References.{Reference, references}
use Rattle.ped_bodies.specs.ped_flow.specs.Summaries.{summary_behind_all}
use Rattle.ped_bodies.specs.ped_flow.proofs.Truths.{untrue}
use Rattle.ped_bodies.specs.ped_edges.specs.Edges.{pending, rejected}
use Rattle.ped_bodies.specs.ped_graph.specs.Marks.{mark_of}
use Rattle.ped_bodies.specs.ped_laws.specs.Acts.Orders.{IsIn}
use Rattle.ped_bodies.specs.ped_steps.specs.Replacing.{alone}
use Rattle.ped_bodies.specs.ped_steps.specs.Runs.Gaps.{at_front, past}
use Rattle.ped_bodies.specs.ped_steps.specs.Tidy.{IsTidy}
use Rattle.ped_loop_runs.specs.Unrejected.{some_rejection}
use Rattle.ped_loop_runs.specs.Exchanges.{Exchange, IsExchanged, LeavesAlone}
use Rattle.ped_loop_runs.proofs.TidyLaws.TidyPathsPrivate.{cleared_private}
use Rattle.ped_loop_runs.proofs.TidyLaws.ExchangedTidy.{exchanged_tidy}

-- the head of DO I=1,N, with these rejected names
abbrev head : List (List ℕ) → Head
head names = record { variable = 73 ∷ []; first = Int 1; last = Var (78 ∷ []); step = Int 1; parallel = false; private = []; rejected = names }

-- K=I
abbrev body : StmtTrees
body = alone (Assign (Var (75 ∷ [])) (Var (73 ∷ [])))

-- READ *,N; DO I=1,N; K=I; END DO; PRINT *,K
abbrev reading : StmtTree
reading = Read (Var (78 ∷ []) ∷ [])

abbrev printing : StmtTrees
printing = alone (Print (Value (Var (75 ∷ [])) ∷ []))

abbrev program : List (List ℕ) → ProgramTree
program names = record { decls = []; body = more_stmts reading (more_stmts (Do (head names) body) printing) }

-- with C$PED REJECT K before the DO, and without
with_rejection : some_rejection (program ((75 ∷ []) ∷ [])).body ≡ true
with_rejection = refl

without_rejection : some_rejection (program []).body ≡ false
without_rejection = refl

-- Each iteration assigns K. As N isn't known, no test proves that there are two. With the line the dependence that the DO carries is rejected, so nothing forbids a step that changes the order of the iterations, and what PRINT shows changes: a law on what steps keep needs a program without such lines. Without it the dependence is pending, and forbids the step.
abbrev assigned : List (List ℕ) → Reference
assigned names = record { statement = 3; number = 1; access = write_of (75 ∷ []) []; nest = (record { number = 2; head = head names }) ∷ [] }

refers : (names : List (List ℕ)) → IsIn (assigned names) (references (program names))
refers names = inr (inr (inr (inl refl)))

put_aside : (guards : List Bool) (v : View) → mark_of [] guards (assigned ((75 ∷ []) ∷ [])) (assigned ((75 ∷ []) ∷ [])) v (Some 1) ≡ rejected
put_aside guards v = refl

forbidding : (guards : List Bool) (v : View) → mark_of [] guards (assigned []) (assigned []) v (Some 1) ≡ pending
forbidding guards v = refl

-- the DO turned round, DO I=N,1,-1, in its place
abbrev turned : Head
turned = record { variable = 73 ∷ []; first = Var (78 ∷ []); last = Int 1; step = Neg (Int 1); parallel = false; private = []; rejected = [] }

abbrev turning : Exchange
turning = record { gap = past reading (at_front printing); front = no_stmts; head = head []; body = body; new = alone (Do turned body) }

abbrev turned_program : ProgramTree
turned_program = record { decls = []; body = more_stmts reading (more_stmts (Do turned body) printing) }

is_turned : IsExchanged turning (program []) turned_program
is_turned = record { old_body = refl; comments = no_stmts; uncounted = refl; new_body = refl; constants = refl; saved = refl; unstopped = refl }

-- it leaves alone what a tidy program leaves alone: its variable stays, and nothing is saved
leaves_alone : LeavesAlone turning (program [])
leaves_alone = record {
  variables = λ w e. e;
  further = λ w new old. untrue (sym old ∙ new);
  unshown = λ w among shown. untrue shown.saved;
  writes = λ w none. none;
  unwritten = λ none. refl;
  leaves = λ w other keeps. ap (λ (b : Bool). b && true) (cleared_private [] w (head []) body 2 other);
}

stays : IsTidy (program []) → IsTidy turned_program
stays = exchanged_tidy turning (program []) turned_program is_turned leaves_alone

-- A STOP among the new statements shows what is overwritten behind the old ones, so none may stand there: behind DO I=1,N; END DO with K=1 behind it nothing of K is left, and with STOP before K=1 all is.
abbrev assigning : StmtTrees
assigning = alone (Assign (Var (75 ∷ [])) (Int 1))

overwritten : ((summary_behind_all [] (75 ∷ []) 1 (more_stmts (Do (head []) no_stmts) assigning) 1).keeps ≡ false) × ((summary_behind_all [] (75 ∷ []) 1 (more_stmts (Do (head []) no_stmts) assigning) 1).ends ≡ false)
overwritten = (refl, refl)

stopped_before : (summary_behind_all [] (75 ∷ []) 1 (more_stmts (Do (head []) no_stmts) (more_stmts Stop assigning)) 1).ends ≡ true
stopped_before = refl

-- A variable that the new DO loops lose, the exit of a PARALLEL DO round them leaves as it is, and didn't: so the old ones have to be among the new.
abbrev around : StmtTrees → StmtTrees
around inner = alone (Do (record { variable = 75 ∷ []; first = Int 1; last = Int 2; step = Int 1; parallel = true; private = []; rejected = [] }) inner)

cleared_around : (summary_behind_all [] (73 ∷ []) 2 (around (alone (Do (head []) no_stmts))) 1).keeps ≡ false
cleared_around = refl

kept_around : (summary_behind_all [] (73 ∷ []) 2 (around (alone (Do (record (head []) { variable = 74 ∷ [] }) no_stmts))) 1).keeps ≡ true
kept_around = refl
