-- The laws at work: a loop that carries nothing, whose iterations conflict on the variable of an inner loop alone; and a bound in two stores.
use Rattle.std.proofs.Common.{◌≡◌, ℕ, ℤ, pos, List, [], ◌∷◌, ◌++◌, take, drop, Bool, true, false, ◌||◌, inl, inr, refl, sym, ap, subst, ◌∙◌, arith, Some, None, Ok, if◌then◌else◌}
use Rattle.std.specs.Prelude.{codes}
use Rattle.ped_bodies.specs.ped_flow.proofs.Truths.{untrue}
use Rattle.ped_bodies.specs.ped_flow.specs.ped_base.specs.Lists.{is_same_text}
use Rattle.ped_bodies.specs.ped_flow.specs.ped_tree.specs.Tree.{ExprTree, Int, Var, Head, Assign, Do, StmtTrees, no_stmts, more_stmts, ProgramTree}
use Rattle.ped_bodies.specs.ped_flow.specs.Events.{has_value}
use Rattle.ped_bodies.specs.ped_flow.specs.PlainBounds.{IsFixed}
use Rattle.ped_bodies.specs.ped_flow.specs.Questions.{LoopOf, IsAssignedBefore}
use Rattle.ped_bodies.specs.ped_symbols.specs.NameRefusals.{IsValid}
use Rattle.ped_bodies.specs.ped_graph.specs.Dependences.{AreEdges}
use Rattle.ped_bodies.specs.ped_store.specs.Stores.{Store, store_at_start}
use Rattle.ped_bodies.specs.ped_store.specs.Acts.{did, Touch, Act}
use Rattle.ped_bodies.specs.ped_eval.specs.Scopes.{Scope, names_in}
use Rattle.ped_bodies.specs.ped_eval.specs.Values.{value}
use Rattle.ped_bodies.specs.ped_eval.specs.Runs.{run}
use Rattle.ped_bodies.specs.ped_eval.specs.Outcomes.{setting_of, run_of}
use Rattle.ped_bodies.specs.ped_laws.specs.Acts.Conflicts.{blocks_conflict_outside}
use Rattle.ped_bodies.specs.ped_laws.specs.Acts.Fitting.{store_after}
use Rattle.ped_bodies.specs.ped_laws.specs.Acts.Sets.{nothing}
use Rattle.ped_bodies.specs.ped_laws.specs.Runs.Touching.{is_own_store, StoresWithin}
use Rattle.ped_bodies.specs.ped_laws.specs.FlowRuns.Covering.{is_cell_of}
use Rattle.ped_bodies.specs.ped_laws.specs.Plain.Executions.{IsPlaceWith, IsDuring}
use Rattle.ped_bodies.specs.ped_laws.proofs.ConflictLaws.CoveringRuns.{MakingLaw, SequenceLaw}
use Rattle.ped_loop_runs.specs.Carried.{AreTrips, AllStoreWithin}
use Rattle.ped_loop_runs.proofs.LoopLaws.Trips.{trips_apart}
use Rattle.ped_loop_runs.proofs.LoopLaws.PlainReads.{plain_again}

abbrev m : List ℕ
m = codes "M"

abbrev j : List ℕ
j = codes "J"

abbrev head : List ℕ → ExprTree → Head
head x last = record { variable = x; first = Int 1; last = last; step = Int 1; parallel = false; private = []; rejected = [] }

abbrev inner : StmtTrees
inner = more_stmts (Do (head j (Var m)) no_stmts) no_stmts

-- M=1; DO I=1,2; DO J=1,M
abbrev program : ProgramTree
program = record { decls = []; body = more_stmts (Assign (Var m) (Int 1)) (more_stmts (Do (head (codes "I") (Int 2)) inner) no_stmts) }

-- no two references make a pair
no_edges : AreEdges program []
no_edges = refl

abbrev acts : List Act
acts = (run_of program []).acts

-- the inner loop in the first iteration, and in the second
abbrev first_trip : List Act
first_trip = take 2 (drop 2 acts)

abbrev second_trip : List Act
second_trip = take 2 (drop 5 acts)

abbrev loop : LoopOf program 2
loop = record { head = head (codes "I") (Int 2); body = inner; is = refl }

are_trips : AreTrips program [] 2 first_trip second_trip
are_trips = record {
  front = take 2 acts;
  between = take 1 (drop 4 acts);
  behind = drop 7 acts;
  is = refl;
  outer = [];
  i = record { statement = 2; number = 1; value = pos 1; parallel = false };
  j = record { statement = 2; number = 2; value = pos 2; parallel = false };
  in_first = λ a i. elim i [ inl e ↦ ([], ap (λ (z : Act). z.place.turns) e) | inr k ↦ elim k [ inl e ↦ ([], ap (λ (z : Act). z.place.turns) e) | inr none ↦ absurd none ] ];
  in_second = λ a i. elim i [ inl e ↦ ([], ap (λ (z : Act). z.place.turns) e) | inr k ↦ elim k [ inl e ↦ ([], ap (λ (z : Act). z.place.turns) e) | inr none ↦ absurd none ] ];
  of_first = refl;
  of_second = refl;
  order = omega arith;
}

-- both leave J at the end of the inner loop
they_conflict : blocks_conflict_outside nothing first_trip second_trip ≡ true
they_conflict = refl

-- what the own stores of an act write, told of its touches
within_by : (a b : Act) → a ≡ b → StoresWithin (is_cell_of j) b → StoresWithin (is_cell_of j) a
within_by a b e h = subst (λ (z : Act). StoresWithin (is_cell_of j) z) (sym e) h

-- the first of acts
abbrev first_of : List Act → Act
first_of [] = record { step = did; place = record { statement = 0; turns = [] }; touches = [] }
first_of (a ∷ rest) = a

-- a read is no own store, and what the inner loop leaves is J
first_entry : StoresWithin (is_cell_of j) (first_of (drop 2 acts))
first_entry x i own = elim i [ inl e ↦ untrue (sym (ap is_own_store e) ∙ own) | inr none ↦ absurd none ]

first_end : StoresWithin (is_cell_of j) (first_of (drop 3 acts))
first_end x i own = elim i [ inl e ↦ ap (λ (z : Touch). is_cell_of j z.cell) e | inr none ↦ absurd none ]

second_entry : StoresWithin (is_cell_of j) (first_of (drop 5 acts))
second_entry x i own = elim i [ inl e ↦ untrue (sym (ap is_own_store e) ∙ own) | inr none ↦ absurd none ]

second_end : StoresWithin (is_cell_of j) (first_of (drop 6 acts))
second_end x i own = elim i [ inl e ↦ ap (λ (z : Touch). is_cell_of j z.cell) e | inr none ↦ absurd none ]

first_within : AllStoreWithin (is_cell_of j) first_trip
first_within a i = elim i [ inl e ↦ within_by a (first_of (drop 2 acts)) e first_entry | inr k ↦ elim k [ inl e ↦ within_by a (first_of (drop 3 acts)) e first_end | inr none ↦ absurd none ] ]

second_within : AllStoreWithin (is_cell_of j) second_trip
second_within a i = elim i [ inl e ↦ within_by a (first_of (drop 5 acts)) e second_entry | inr k ↦ elim k [ inl e ↦ within_by a (first_of (drop 6 acts)) e second_end | inr none ↦ absurd none ] ]

-- but on no other cell, as the program is valid
module _ (made : MakingLaw) (sequence : SequenceLaw) (valid : IsValid program) where
  nothing_else : blocks_conflict_outside (is_cell_of j) first_trip second_trip ≡ false
  nothing_else = trips_apart made sequence program [] valid [] no_edges 2 loop (is_cell_of j) first_trip second_trip (λ a b come meets share c carried. absurd c.listed) are_trips first_within second_within

-- M is assigned on the one path to the outer loop
before : IsAssignedBefore program 3 m
before path h = elim h [
  | inl none ↦ absurd none
  | inr r ↦ elim r.4 [ inl e ↦ ap (has_value m false) (r.2 ∙ (λ k. r.3 k ++ e.2 k)) | inr q ↦ absurd q.4 ]
]

fixed : IsFixed [] program 3 m
fixed = record { before = before; kept = refl; other = refl }

abbrev one : List ℕ → ℤ
one x = pos 1

-- the first iteration of the outer loop, and one of the inner loop in it
abbrev outside : Scope
outside = record { turn = record { statement = 2; parallel = false; number = 1; value = pos 1 }; variable = codes "I"; private = [] } ∷ []

abbrev further_in : Scope
further_in = record { turn = record { statement = 3; parallel = false; number = 1; value = pos 1 }; variable = j; private = [] } ∷ outside

place : IsPlaceWith [] program 3 one outside
place = record { inside = (record { variable = refl; private = λ x h. untrue h }, tt); tells = λ x among. ap (λ (b : Bool). if b then Some (pos 1) else None) (only (is_same_text x (codes "I")) among) }
  where
    only : (b : Bool) → (b || false) ≡ true → b ≡ true
    only true h = refl
    only false h = h

place_in : IsPlaceWith [] program 3 one further_in
place_in = record { inside = (record { variable = refl; private = λ x h. untrue h }, place.inside); tells = λ x among. go (is_same_text x j) (is_same_text x (codes "I")) (place.tells x among) }
  where
    go : (b c : Bool) → (if c then Some (pos 1) else None) ≡ Some (pos 1) → (if b then Some (pos 1) else (if c then Some (pos 1) else None)) ≡ Some (pos 1)
    go true c h = refl
    go false c h = h

abbrev start : Store
start = store_after (take 1 acts) (store_at_start [])

abbrev loop_acts : List Act
loop_acts = (run (setting_of program) (Do loop.head loop.body) 2 [] start).acts

at_entry : IsDuring (setting_of program) program 3 start start
at_entry = record { loop = loop; done = []; left = loop_acts; whole = refl; after = refl }

at_end : IsDuring (setting_of program) program 3 start (store_after loop_acts start)
at_end = record { loop = loop; done = loop_acts; left = []; whole = refl; after = refl }

-- so the bound M is 1 inside the inner loop and behind all acts, too
still_one : (value (names_in (setting_of program) further_in) (Var m) (store_after loop_acts start)).result ≡ Ok (pos 1)
still_one = (plain_again (setting_of program) (setting_of program) refl program 3 (Var m) (inr (inr fixed)) one outside further_in place place_in start start (store_after loop_acts start) at_entry at_end).result
