-- CALLs that stand in one another: where each CALL and its block stand alike, they end alike.
use Rattle.std.proofs.Common.{◌≡◌, ℕ, zero, suc, ◌+◌, List, [], ◌∷◌, length, Bool, true, Option, Some, None, refl, sym, ap, subst, inl, inr, arith, if◌then◌else◌}
use Rattle.ped_tree.specs.Accesses.{listed}
use Rattle.ped_tree.specs.Numbering.{statement_count}
use Rattle.ped_tree.specs.Tree.{ExprTree, Var, StmtTree, StmtTrees, no_stmts}
use Rattle.ped_steps.specs.ped_symbols.specs.Values.{Values}
use Rattle.ped_calls.specs.ped_units.specs.Forms.{Called}
use Rattle.ped_calls.specs.ped_units.specs.Units.{ProgramUnit, ProgramUnits, unit_of}
use Rattle.ped_calls.specs.ped_units.specs.Expanding.{Meanings, replaced, called_replaced, Given, Bound, bound_arguments, meanings_in, behind_stmts, call_comment, all_expanded_in, unit_expanded, call_expanded}
use Rattle.ped_steps.specs.ped_store.specs.Cells.{Cell, Scalar, Element, Private, In, Out}
use Rattle.ped_steps.specs.ped_store.specs.Stores.{Number, Store, put}
use Rattle.ped_steps.specs.ped_eval.specs.Scopes.{Setting, Scope, names_in, place_of}
use Rattle.ped_steps.specs.ped_eval.specs.Runs.{Ending, Run, then_run, nothing_done, run_assignment, run, run_all}
use Rattle.ped_call_runs.specs.UnitRuns.{own, is_own, is_own_cell, without_own, Instance, called_instance, number_inside, run_arguments, call_size, run_called, call_run, unit_run_all}
use Rattle.ped_call_runs.proofs.FollowingStores.{Bond, tight, loose, held, free, IsBelow, is_bound, is_slack, without_below}
use Rattle.ped_call_runs.proofs.FollowingEndings.{RunAlike, same_other, then_then}
use Rattle.ped_call_runs.proofs.FollowingNames.{named_cell, unheld, bond_of, same_cells, AreNamed, IsUnheld}
use Rattle.ped_call_runs.proofs.FollowingStatements.{AllStand, CallsFollow, statements_follow}
use Rattle.ped_call_runs.proofs.FollowingCalls.{knowing, weaker_ends, forgetting_below, knowing_unheld, ArgumentsAlike, block_ends, assignment_goes_on, then_no_stop, known_alike, argument_assigned}

slack_unheld : (b : Bond) → is_slack b ≡ true → is_slack (unheld b) ≡ true
slack_unheld tight h = h
slack_unheld loose h = refl
slack_unheld (held n) h = refl
slack_unheld free h = refl

-- cells of the CALL's own may be undefined in the first store alone, where its names may
own_slack : (b : List ℕ → Bond) (n : ℕ) → ((x : List ℕ) → is_own n x ≡ true → is_slack (b x) ≡ true) → (c : Cell) → is_own_cell n c ≡ true → is_slack (bond_of b c) ≡ true
own_slack b n h (Scalar x) e = h x e
own_slack b n h (Element x js) e = slack_unheld (b x) (h x e)
own_slack b n h (Private x path) e = slack_unheld (b x) (h x e)
own_slack b n h In e = absurd cc
own_slack b n h Out e = absurd cc

module _ (f : List ℕ → List ℕ) (q : Setting) (k : Meanings) (i : Instance) (n : ℕ) where
  abbrev Alike : ℕ → ℕ → (List ℕ → Bond) → List (List ℕ) → List ExprTree → List StmtTree → (List ℕ → Bond) → Type 0
  Alike m j b xs arguments made after = ArgumentsAlike f q k i n m j b xs arguments made after

  abbrev Below : (List ℕ → Bond) → Store → Store → Type 0
  Below b s w = IsBelow (bond_of b) (named_cell f) s w

  -- what the arguments made known may be forgotten
  pub arguments_forget : (m j : ℕ) (xs : List (List ℕ)) (arguments : List ExprTree) (made : List StmtTree) (b after : List ℕ → Bond) → Alike m j b xs arguments made after → (s w : Store) → Below after s w → Below b s w
  arguments_forget m j [] arguments made b after h s w below = subst (λ (z : List ℕ → Bond). Below z s w) h.1 below
  arguments_forget m j (x ∷ xs) [] made b after h s w below = subst (λ (z : List ℕ → Bond). Below z s w) h.1 below
  arguments_forget m j (x ∷ xs) (a ∷ rest) made b after (inl h) s w below = arguments_forget (m + 1) j xs rest made b after h.1 s w below
  arguments_forget m j (x ∷ xs) (a ∷ rest) made b after (inr (inl h)) s w below = forgetting_below f b (own n x) h.0 s w h.1.nothing_known (arguments_forget (m + 1) j xs rest made (knowing (own n x) h.0 b) after h.2 s w below)
  arguments_forget m j (x ∷ xs) (a ∷ rest) made b after (inr (inr h)) s w below = arguments_forget (m + 1) (j + 1) xs rest h.0 b after h.2 s w below

  pub arguments_unheld : (m j : ℕ) (scope : Scope) (xs : List (List ℕ)) (arguments : List ExprTree) (made : List StmtTree) (b after : List ℕ → Bond) → Alike m j b xs arguments made after → IsUnheld b scope → IsUnheld after scope
  arguments_unheld m j scope [] arguments made b after h u = subst (λ (z : List ℕ → Bond). IsUnheld z scope) (sym h.1) u
  arguments_unheld m j scope (x ∷ xs) [] made b after h u = subst (λ (z : List ℕ → Bond). IsUnheld z scope) (sym h.1) u
  arguments_unheld m j scope (x ∷ xs) (a ∷ rest) made b after (inl h) u = arguments_unheld (m + 1) j scope xs rest made b after h.1 u
  arguments_unheld m j scope (x ∷ xs) (a ∷ rest) made b after (inr (inl h)) u =
      arguments_unheld (m + 1) j scope xs rest made (knowing (own n x) h.0 b) after h.2 (knowing_unheld b (own n x) h.0 scope (ap is_bound h.1.nothing_known) u)
  arguments_unheld m j scope (x ∷ xs) (a ∷ rest) made b after (inr (inr h)) u = arguments_unheld (m + 1) (j + 1) scope xs rest h.0 b after h.2 u

  module _ (twice : (x : List ℕ) → f (f x) ≡ x) (scope other : Scope) (same : AreNamed f scope other) (R : Store → Store → Type 0) (rest : Store → Run) (body : StmtTrees) (next : ℕ) (after : List ℕ → Bond)
      (more : (s w : Store) → Below after s w → RunAlike R (rest s) (run_all q body next other w).ending) where
    -- behind the last argument
    no_more : (made : List StmtTree) (b : List ℕ → Bond) → (made ≡ []) × (after ≡ b) → (j : ℕ) → j + length made ≡ next → (s w : Store) → Below b s w → RunAlike R (then_run (nothing_done s) rest) (run_all q (behind_stmts made body) j other w).ending
    no_more made b h j e s w below =
        let l : length made ≡ 0 = ap length h.0 in
        let d : next ≡ j = omega (arith, l, e) in
        subst (λ (z : List StmtTree). RunAlike R (rest s) (run_all q (behind_stmts z body) j other w).ending) (sym h.0)
        (subst (λ (t : ℕ). RunAlike R (rest s) (run_all q body t other w).ending) d (more s w (subst (λ (z : List ℕ → Bond). Below z s w) (sym h.1) below)))

    -- the arguments of a CALL and what follows them end as the assignments in its block and what follows these
    pub arguments_follow : (xs : List (List ℕ)) (arguments : List ExprTree) (made : List StmtTree) (b : List ℕ → Bond) (m j : ℕ) → Alike m j b xs arguments made after → IsUnheld b scope → j + length made ≡ next → (s w : Store) → Below b s w
        → RunAlike R (then_run (run_arguments i n xs arguments m scope s) rest) (run_all q (behind_stmts made body) j other w).ending
    arguments_follow [] arguments made b m j h u e s w below = no_more made b h j e s w below
    arguments_follow (x ∷ xs) [] made b m j h u e s w below = no_more made b h j e s w below
    arguments_follow (x ∷ xs) (a ∷ arguments) made b m j (inl h) u e s w below =
        subst (λ (t : Bool). RunAlike R (then_run (if t then run_arguments i n xs arguments (m + 1) scope s else then_run (run_assignment (names_in i.setting scope) (place_of i.setting m scope) (Var (own n x)) (replaced i.stands a) s) (run_arguments i n xs arguments (m + 1) scope)) rest) (run_all q (behind_stmts made body) j other w).ending)
        (sym h.0) (arguments_follow xs arguments made b (m + 1) j h.1 u e s w below)
    arguments_follow (x ∷ xs) (a ∷ arguments) made b m j (inr (inl h)) u e s w below =
        let first : Run = run_assignment (names_in i.setting scope) (place_of i.setting m scope) (Var (own n x)) (replaced i.stands a) s in
        let there : Ending = (run_all q (behind_stmts made body) j other w).ending in
        subst (λ (t : Bool). RunAlike R (then_run (if t then run_arguments i n xs arguments (m + 1) scope s else then_run first (run_arguments i n xs arguments (m + 1) scope)) rest) there) (sym h.1.no_name)
        (subst (λ (z : Run). RunAlike R z there) (sym (then_then first (run_arguments i n xs arguments (m + 1) scope) rest))
        (known_alike f twice q k i n scope other same b x a h.0 h.1 u R (λ v. then_run (run_arguments i n xs arguments (m + 1) scope v) rest) there (place_of i.setting m scope) s w below
        (λ known. arguments_follow xs arguments made (knowing (own n x) h.0 b) (m + 1) j h.2 (knowing_unheld b (own n x) h.0 scope (ap is_bound h.1.nothing_known) u) e (put (Scalar (own n x)) (Number h.0) s) w known)))
    arguments_follow (x ∷ xs) (a ∷ arguments) made b m j (inr (inr h)) u e s w below =
        let first : Run = run_assignment (names_in i.setting scope) (place_of i.setting m scope) (Var (own n x)) (replaced i.stands a) s in
        let second : Run = run_assignment (names_in q other) (place_of q j other) (Var (f (own n x))) (replaced k a) w in
        let l : length made ≡ suc (length h.0) = ap length h.1.first in
        let d : j + 1 + length h.0 ≡ next = omega (arith, l, e) in
        subst (λ (t : Bool). RunAlike R (then_run (if t then run_arguments i n xs arguments (m + 1) scope s else then_run first (run_arguments i n xs arguments (m + 1) scope)) rest) (run_all q (behind_stmts made body) j other w).ending) (sym h.1.no_name)
        (subst (λ (z : List StmtTree). RunAlike R (then_run (then_run first (run_arguments i n xs arguments (m + 1) scope)) rest) (run_all q (behind_stmts z body) j other w).ending) (sym h.1.first)
        (subst (λ (z : Run). RunAlike R z (then_run second (run_all q (behind_stmts h.0 body) (j + 1) other)).ending) (sym (then_then first (run_arguments i n xs arguments (m + 1) scope) rest))
        (then_no_stop (Below b) R first second (λ v. then_run (run_arguments i n xs arguments (m + 1) scope v) rest) (run_all q (behind_stmts h.0 body) (j + 1) other)
        (argument_assigned f twice q k i n scope other same b x a m j made h.0 h.1 u s w below)
        (assignment_goes_on (names_in i.setting scope) (place_of i.setting m scope) (Var (own n x)) (replaced i.stands a) s)
        (λ v z r. arguments_follow xs arguments h.0 b (m + 1) (j + 1) h.2 u d v z r))))

module _ (us : ProgramUnits) (f : List ℕ → List ℕ) (q : Setting) where
  -- what CALLs of one depth stand by: what is known of names, meanings, where they run, named constants; the CALL, its numbers on both sides, and what is given before it
  abbrev pub Holding : Type 1
  Holding = (List ℕ → Bond) → Meanings → Instance → Values → Called → ℕ → ℕ → Given → Type 0

  -- the arguments as they are bound in the block
  abbrev pub bound_in : Meanings → Values → Called → Given → Bound
  bound_in k constants c g = bound_arguments constants (listed (called_replaced k c).arguments) g

  -- a CALL of this subroutine and its block stand alike
  pub record IsCalled (holds : Holding) (depth : ℕ) (b : List ℕ → Bond) (k : Meanings) (i : Instance) (constants : Values) (c : Called) (n j : ℕ) (g : Given) (v : ProgramUnit) : Type 0 where
    pub after : List ℕ → Bond
    pub own_names : (x : List ℕ) → is_own n x ≡ true → is_slack (b x) ≡ true
    pub arguments : ArgumentsAlike f q k i n (n + 1) (j + 1 + statement_count (call_comment (called_replaced k c))) b v.formals (listed c.arguments) (bound_in k constants c g).assignments after
    pub body : AllStand after f q (meanings_in v (bound_in k constants c g)).meanings (call_size depth us) (call_expanded depth us []) (holds after (meanings_in v (bound_in k constants c g)).meanings (called_instance i n v c) []) (called_instance i n v c)
        v.tree.body (number_inside c n) (j + 1 + statement_count (call_comment (called_replaced k c)) + length (bound_in k constants c g).assignments) (meanings_in v (bound_in k constants c g)).given

  abbrev pub UnitHolds : Holding → ℕ → (List ℕ → Bond) → Meanings → Instance → Values → Called → ℕ → ℕ → Given → Option ProgramUnit → Type 0
  UnitHolds holds depth b k i constants c n j g None = Unit {0}
  UnitHolds holds depth b k i constants c n j g (Some v) = IsCalled holds depth b k i constants c n j g v

  -- a CALL and its block stand alike, where CALLs stand so deep in one another at most
  abbrev pub Holds : ℕ → Holding
  Holds zero b k i constants c n j g = Unit {0}
  Holds (suc depth) b k i constants c n j g = UnitHolds (Holds depth) depth b k i constants c n j g (unit_of us c.name)

  module _ (twice : (x : List ℕ) → f (f x) ≡ x) where
    abbrev BelowIn : (List ℕ → Bond) → Store → Store → Type 0
    BelowIn b s w = IsBelow (bond_of b) (named_cell f) s w

    abbrev Follow : ℕ → (List ℕ → Bond) → Meanings → Instance → Values → Type 0
    Follow depth b k i constants = CallsFollow b f twice q k (call_size depth us) (call_expanded depth us constants) (Holds depth b k i constants) (call_run depth us) i

    unit_follows : (depth : ℕ) → ((b : List ℕ → Bond) (k : Meanings) (i : Instance) (constants : Values) → Follow depth b k i constants)
        → (b : List ℕ → Bond) (k : Meanings) (i : Instance) (constants : Values) (c : Called) (n j : ℕ) (g : Given) (o : Option ProgramUnit) → UnitHolds (Holds depth) depth b k i constants c n j g o
        → (scope other : Scope) → AreNamed f scope other → IsUnheld b scope → (s w : Store) → BelowIn b s w
        → RunAlike (BelowIn b) (run_called (call_run depth us) (call_size depth us) i c n scope s o) (run q (unit_expanded (call_expanded depth us []) constants (called_replaced k c) g o).statement j other w).ending
    unit_follows depth deeper b k i constants c n j g None h scope other same u s w below = inl (w, block_ends q (called_replaced k c) [] no_stmts j other w, below)
    unit_follows depth deeper b k i constants c n j g (Some v) h scope other same u s w below =
        let made : List StmtTree = (bound_in k constants c g).assignments in
        let meant : Meanings = (meanings_in v (bound_in k constants c g)).meanings in
        let behind : Given = (meanings_in v (bound_in k constants c g)).given in
        let inside : Instance = called_instance i n v c in
        let body : StmtTrees = (all_expanded_in meant (call_expanded depth us []) v.tree.body behind).statements in
        let first : ℕ = j + 1 + statement_count (call_comment (called_replaced k c)) in
        let arguments : Run = run_arguments i n v.formals (listed c.arguments) (n + 1) scope (without_own n s) in
        let rest : (Store → Run) = unit_run_all (call_run depth us) (call_size depth us) inside v.tree.body (number_inside c n) scope in
        let inside_unheld : IsUnheld h.after scope = arguments_unheld f q k i n (n + 1) first scope v.formals (listed c.arguments) made b h.after h.arguments u in
        same_other (BelowIn b) (then_run arguments rest)
        (run q (unit_expanded (call_expanded depth us []) constants (called_replaced k c) g (Some v)).statement j other w).ending (run_all q (behind_stmts made body) first other w).ending
        (block_ends q (called_replaced k c) made body j other w)
        (arguments_follow f q k i n twice scope other same (BelowIn b) rest body (first + length made) h.after
        (λ x y r. weaker_ends (BelowIn h.after) (BelowIn b) (rest x) (run_all q body (first + length made) other y).ending
        (arguments_forget f q k i n (n + 1) first v.formals (listed c.arguments) made b h.after h.arguments)
        (statements_follow h.after f twice q meant (call_size depth us) (call_expanded depth us []) (Holds depth h.after meant inside []) (call_run depth us) inside (deeper h.after meant inside [])
        v.tree.body (number_inside c n) (first + length made) behind h.body scope other same inside_unheld x y r))
        v.formals (listed c.arguments) made b (n + 1) first h.arguments u refl (without_own n s) w
        (without_below (bond_of b) (named_cell f) (same_cells f twice) n s w (own_slack b n h.own_names) below))

    -- CALLs of any depth end as their blocks do
    pub calls_follow : (depth : ℕ) (b : List ℕ → Bond) (k : Meanings) (i : Instance) (constants : Values) → Follow depth b k i constants
    calls_follow zero b k i constants c n j g h scope other same u s w below = inl (w, block_ends q (called_replaced k c) [] no_stmts j other w, below)
    calls_follow (suc depth) b k i constants c n j g h scope other same u s w below = unit_follows depth (calls_follow depth) b k i constants c n j g (unit_of us c.name) h scope other same u s w below
