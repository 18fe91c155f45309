-- A program at which the premises of the laws hold: the scalar K that a DO leaves, and that is read behind it or isn't.
use Rattle.std.proofs.Common.{◌≡◌, List, [], ◌∷◌, true, false, take, drop, refl, arith}
use Rattle.std.specs.Prelude.{pos}
use Rattle.ped_flow.specs.ped_tree.specs.Tree.{Int, Var, Value, Head, Assign, Do, Print, no_stmts, more_stmts, ProgramTree}
use Rattle.ped_eval.specs.ped_store.specs.Cells.{Scalar}
use Rattle.ped_eval.specs.ped_store.specs.Stores.{Number, store_at_start}
use Rattle.ped_eval.specs.ped_store.specs.Acts.{Act, entered, ended_turn}
use Rattle.ped_laws.specs.Acts.Sets.{needs}
use Rattle.ped_eval.specs.Scopes.{Setting}
use Rattle.ped_eval.specs.Statements.{write_touch}
use Rattle.ped_eval.specs.Runs.{run_all}
use Rattle.ped_laws.specs.FlowRuns.Covering.{some_stops_in_loop}
use Rattle.ped_laws.specs.FlowRuns.Exits.{IsOneToOne, IsExit}
use Rattle.ped_laws.specs.FlowRuns.Entries.{IsEntry}

abbrev head : Head
head = record { variable = 75 ∷ []; first = Int 1; last = Int 2; step = Int 1; parallel = false; private = []; rejected = [] }

-- DO 10 K=1,2; 10 L=K; PRINT *,L
abbrev program : ProgramTree
program = record { decls = []; body = more_stmts (Do head (more_stmts (Assign (Var (76 ∷ [])) (Var (75 ∷ []))) no_stmts)) (more_stmts (Print (Value (Var (76 ∷ [])) ∷ [])) no_stmts) }

abbrev setting : Setting
setting = record { bounds = λ x. record { lower = []; upper = [] }; constants = []; number = λ n. n }

abbrev acts : List Act
acts = (run_all setting program.body 1 [] (store_at_start [])).acts

one_to_one : IsOneToOne setting.number
one_to_one m n e = e

unstopping : some_stops_in_loop program.body ≡ false
unstopping = refl

-- the DO is entered before anything, and left before the PRINT
entry : IsEntry setting program (store_at_start []) 1 []
entry = record { act = record { step = entered 2; place = record { statement = 1; turns = [] }; touches = [] }; behind = drop 1 acts; whole = refl; count = 2; enters = refl; outermost = refl; number = 1; loop = record { head = head; body = more_stmts (Assign (Var (76 ∷ [])) (Var (75 ∷ []))) no_stmts; is = refl }; is = refl; from = omega arith; to = omega arith }

exit : IsExit setting program (store_at_start []) 1 [] (drop 5 acts)
exit = record { ends = tt; front = take 4 acts; act = record { step = ended_turn 0; place = record { statement = 1; turns = [] }; touches = write_touch (Scalar (75 ∷ [])) (Number (pos 3)) 0 ∷ [] }; whole = refl; leaves = refl; iterations = tt; place = refl }

-- the PRINT reads L and not K
read_behind : needs (drop 5 acts) (Scalar (76 ∷ [])) ≡ true
read_behind = refl

unread_behind : needs (drop 5 acts) (Scalar (75 ∷ [])) ≡ false
unread_behind = refl
