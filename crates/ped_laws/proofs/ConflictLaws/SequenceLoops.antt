-- The order of the accesses of a DO: of its entry, its iterations and its exit.
use Rattle.std.proofs.Common.{◌≡◌, ℕ, zero, suc, ◌+◌, ◌<◌, ◌≤◌, List, [], ◌∷◌, ◌++◌, Bool, true, false, Some, refl, sym, subst, ◌∙◌, ◌⊎◌, inl, inr, arith, append-nil}
use Rattle.ped_flow.specs.ped_tree.specs.Tree.{Head, StmtTrees, Do, ProgramTree}
use Rattle.ped_flow.specs.ped_tree.specs.Numbering.{statement_with, statements_count}
use Rattle.ped_eval.specs.ped_store.specs.Stores.{Store}
use Rattle.ped_eval.specs.ped_store.specs.Acts.{Touch, Place, Step, entered, ended_turn, closed, store_behind}
use Rattle.ped_eval.specs.ped_store.specs.Races.{Access, accesses}
use Rattle.ped_eval.specs.Scopes.{Frame, Scope, turns_of, place_of}
use Rattle.ped_eval.specs.Evaluation.{Seen, numbered as numbered_reads, number_behind}
use Rattle.ped_eval.specs.Loops.{Limits, Entered, entered_with, frame, exit_touches, exit_when_none}
use Rattle.ped_eval.specs.Runs.{Run, nothing_done, does, turns, parallel_turns, run_entered, run_all}
use Rattle.ped_eval.specs.Outcomes.{setting_of}
use Rattle.ped_laws.specs.Runs.Replaying.{act}
use Rattle.ped_laws.proofs.RunLaws.Touches.{each_none, each_more}
use Rattle.ped_laws.proofs.ConflictLaws.SequencePairs.{pairwise_weaker}
use Rattle.ped_laws.proofs.ConflictLaws.SequenceTouches.{Lesser, rise_least, rise_pairs, reads_rise, reads_alone_rise, reads_below, exit_rises, exit_written, none_left}
use Rattle.ped_laws.proofs.ConflictLaws.SequenceActs.{Sorted, sorted_none, sorted_weaker, then_sorted, does_sorted, act_sorted}
use Rattle.ped_laws.proofs.ConflictLaws.SequencePlaces.{Inside, Comes, InOrder, one_in, outwards, lesser_comes, one_in_order}

module _ (t : ProgramTree) where
  -- a DO
  module _ (scope : Scope) (n : ℕ) (h : Head) (statements : StmtTrees) (seen : List Seen) (l : Limits) (is : statement_with n t ≡ Some (Do h statements)) where
    -- the DO that is entered, its place, its body in an iteration, and the number behind its statements
    abbrev loop : Entered
    loop = entered_with (setting_of t) n h statements seen l

    abbrev here : Place
    here = place_of (setting_of t) n scope

    abbrev body_in : Frame → Store → Run
    body_in f s = run_all (setting_of t) statements (n + 1) (f ∷ scope) s

    abbrev past : ℕ
    past = n + (statements_count statements + 1)

    -- an access of iteration k
    abbrev InTurn : ℕ → Access → Type 0
    InTurn k x = Inside t (frame loop k ∷ scope) (n + 1) past x

    -- an access of iteration k or a later one
    abbrev InLater : ℕ → Access → Type 0
    InLater k x = (j : ℕ) × (k ≤ j) × InTurn j x

    -- an access of the entry
    record AtEntry (x : Access) : Type 0 where
      statement : x.place.statement ≡ n
      turns : x.place.turns ≡ turns_of scope
      number : 0 < x.reference → x.reference < number_behind 1 seen

    -- an access of the exit
    record AtExit (x : Access) : Type 0 where
      statement : x.place.statement ≡ n
      turns : x.place.turns ≡ turns_of scope
      writes : x.writes ≡ true
      number : 0 < x.reference → number_behind 1 seen ≤ x.reference

    in_turns : (j k : ℕ) (x y : Access) → j < k → InTurn j x → InTurn k y → Comes t scope x y
    in_turns j k x y less a b = record {
      first = (frame loop j).turn ∷ a.further;
      second = (frame loop k).turn ∷ b.further;
      at_first = a.turns ∙ one_in t scope (frame loop j) a.further;
      at_second = b.turns ∙ one_in t scope (frame loop k) b.further;
      comes = λ c d. inr (inl (record {
        same = refl;
        parallel = refl;
        earlier = less;
        head = h;
        body = statements;
        stands = is;
        initial = loop.first;
        at_first = refl;
        at_second = refl;
      }));
    }

    turn_exit : (k : ℕ) (x y : Access) → InTurn k x → AtExit y → Comes t scope x y
    turn_exit k x y a b = record {
      first = (frame loop k).turn ∷ a.further;
      second = [];
      at_first = a.turns ∙ one_in t scope (frame loop k) a.further;
      at_second = b.turns ∙ sym (append-nil (turns_of scope));
      comes = λ c d. inr (sym b.statement, b.writes);
    }

    entry_turn : (k : ℕ) (x y : Access) → AtEntry x → InTurn k y → Comes t scope x y
    entry_turn k x y a b = record {
      first = [];
      second = (frame loop k).turn ∷ b.further;
      at_first = a.turns ∙ sym (append-nil (turns_of scope));
      at_second = b.turns ∙ one_in t scope (frame loop k) b.further;
      comes = λ c d. let e = a.statement in let f = b.least in inl (omega (arith, e, f));
    }

    entry_exit : (x y : Access) → AtEntry x → AtExit y → Comes t scope x y
    entry_exit x y a b = record {
      first = [];
      second = [];
      at_first = a.turns ∙ sym (append-nil (turns_of scope));
      at_second = b.turns ∙ sym (append-nil (turns_of scope));
      comes = λ c d. let e = a.number c in let f = b.number d in inr (a.statement ∙ sym b.statement, omega (arith, e, f));
    }

    turn_inside : (k : ℕ) (x : Access) → InTurn k x → Inside t scope n past x
    turn_inside k x a =
        let b = a.least in
        record {
          further = (frame loop k).turn ∷ a.further;
          turns = a.turns ∙ one_in t scope (frame loop k) a.further;
          least = omega (arith, b);
          below = a.below;
          loops = each_more _ (frame loop k).turn a.further (omega arith, omega arith) (λ u i. let c = (a.loops u i).0 in (omega (arith, c), (a.loops u i).1));
        }

    entry_inside : (x : Access) → AtEntry x → Inside t scope n past x
    entry_inside x a =
        let e = a.statement in
        record {
          further = [];
          turns = a.turns ∙ sym (append-nil (turns_of scope));
          least = omega (arith, e);
          below = omega (arith, e);
          loops = each_none _;
        }

    exit_inside : (x : Access) → AtExit x → Inside t scope n past x
    exit_inside x a =
        let e = a.statement in
        record {
          further = [];
          turns = a.turns ∙ sym (append-nil (turns_of scope));
          least = omega (arith, e);
          below = omega (arith, e);
          loops = each_none _;
        }

    exit_alone : (step : Step) → Sorted AtExit (Comes t scope) (act step here (exit_touches loop scope) ∷ [])
    exit_alone step =
        act_sorted (Comes t scope) AtExit step here (exit_touches loop scope)
        (λ u i. record { statement = refl; turns = refl; writes = exit_written loop scope u i; number = rise_least (number_behind 1 seen) (exit_touches loop scope) (exit_rises loop scope) u i })
        (pairwise_weaker Lesser _ (exit_touches loop scope) (lesser_comes t scope n) (rise_pairs (number_behind 1 seen) (exit_touches loop scope) (exit_rises loop scope)))

    module _ (bodies : (k : ℕ) (s : Store) → InOrder t (frame loop k ∷ scope) (n + 1) past (body_in (frame loop k) s).acts) where
      iteration : (k : ℕ) (s : Store) → Sorted (InTurn k) (Comes t scope) (body_in (frame loop k) s).acts
      iteration k s = ((bodies k s).0, pairwise_weaker (Comes t (frame loop k ∷ scope)) (Comes t scope) (accesses (body_in (frame loop k) s).acts) (outwards t scope (frame loop k)) (bodies k s).1)

      later_turn : (k : ℕ) (x : Access) → InLater (k + 1) x → InLater k x
      later_turn k x h = let a = h.1 in (h.0, omega (arith, a), h.2)

      next_turns : (k : ℕ) (x y : Access) → InTurn k x → InLater (k + 1) y → Comes t scope x y
      next_turns k x y a b = let l = b.1 in in_turns k b.0 x y (omega (arith, l)) a b.2

      abbrev InRest : ℕ → Access → Type 0
      InRest k x = InLater k x ⊎ AtExit x

      -- the end of an iteration, and those behind it
      ended : (left k : ℕ) → ((s : Store) → Sorted (InRest (k + 1)) (Comes t scope) (turns left (k + 1) loop scope here body_in s).acts) → (u : Store) → Sorted (InRest (k + 1)) (Comes t scope) (does (ended_turn left) here (exit_when_none left loop scope) (turns left (k + 1) loop scope here body_in) u).acts
      ended zero k h u = sorted_weaker (Comes t scope) AtExit (InRest (k + 1)) (act (ended_turn 0) here (exit_touches loop scope) ∷ []) (λ x a. inr a) (exit_alone (ended_turn 0))
      ended (suc left) k h u =
          subst (λ (touches : List Touch). Sorted (InRest (k + 1)) (Comes t scope) (act (ended_turn (suc left)) here touches ∷ (turns (suc left) (k + 1) loop scope here body_in (store_behind touches u)).acts))
          (sym (none_left left loop scope)) (h u)

      turns_sorted : (left k : ℕ) (s : Store) → Sorted (InRest k) (Comes t scope) (turns left k loop scope here body_in s).acts
      turns_sorted zero k s = sorted_none (Comes t scope) (InRest k)
      turns_sorted (suc left) k s =
          then_sorted (Comes t scope) (InTurn k) (InRest (k + 1)) (InRest k)
          (λ x a. inl (k, omega arith, a))
          (λ x a. elim a [ inl b ↦ inl (later_turn k x b) | inr b ↦ inr b ])
          (λ x y a b. elim b [ inl c ↦ next_turns k x y a c | inr c ↦ turn_exit k x y a c ])
          (body_in (frame loop k) s) (does (ended_turn left) here (exit_when_none left loop scope) (turns left (k + 1) loop scope here body_in))
          (iteration k s) (ended left k (turns_sorted left (k + 1)))

      parallel_sorted : (left k : ℕ) (s : Store) → Sorted (InLater k) (Comes t scope) (parallel_turns left k loop body_in s).acts
      parallel_sorted zero k s = sorted_none (Comes t scope) (InLater k)
      parallel_sorted (suc left) k s =
          then_sorted (Comes t scope) (InTurn k) (InLater (k + 1)) (InLater k) (λ x a. (k, omega arith, a)) (later_turn k) (next_turns k)
          (body_in (frame loop k) s) (parallel_turns left (k + 1) loop body_in) (iteration k s) (parallel_sorted left (k + 1))

      entered_sorted : (parallel : Bool) (count : ℕ) (s : Store) → Sorted (InRest 1) (Comes t scope) (run_entered parallel count loop scope here body_in s).acts
      entered_sorted parallel zero s = sorted_none (Comes t scope) (InRest 1)
      entered_sorted false (suc count) s = turns_sorted (suc count) 1 s
      entered_sorted true (suc count) s =
          then_sorted (Comes t scope) (InLater 1) AtExit (InRest 1) (λ x a. inl a) (λ x a. inr a) (λ x y a b. turn_exit a.0 x y a.2 b)
          (parallel_turns (suc count) 1 loop body_in s) (does closed here (exit_touches loop scope) nothing_done)
          (parallel_sorted (suc count) 1 s) (λ u. exit_alone closed)

      entry_alone : (count : ℕ) → Sorted AtEntry (Comes t scope) (act (entered count) here (numbered_reads 1 seen ++ []) ∷ [])
      entry_alone count =
          subst (λ (touches : List Touch). Sorted AtEntry (Comes t scope) (act (entered count) here touches ∷ [])) (sym (append-nil (numbered_reads 1 seen)))
          (act_sorted (Comes t scope) AtEntry (entered count) here (numbered_reads 1 seen)
          (λ u i. record { statement = refl; turns = refl; number = reads_below 1 seen u i })
          (pairwise_weaker Lesser _ (numbered_reads 1 seen) (lesser_comes t scope n) (rise_pairs 1 (numbered_reads 1 seen) (reads_alone_rise 1 seen))))

      rest_inside : (x : Access) → InRest 1 x → Inside t scope n past x
      rest_inside x a = elim a [ inl b ↦ turn_inside b.0 x b.2 | inr b ↦ exit_inside x b ]

      entry_rest : (x y : Access) → AtEntry x → InRest 1 y → Comes t scope x y
      entry_rest x y a b = elim b [ inl c ↦ entry_turn c.0 x y a c.2 | inr c ↦ entry_exit x y a c ]

      pub from_entry : (parallel : Bool) (count : ℕ) (s : Store) → InOrder t scope n past (does (entered count) here (numbered_reads 1 seen ++ exit_when_none count loop scope) (run_entered parallel count loop scope here body_in) s).acts
      from_entry parallel zero s =
          one_in_order t scope n past 1 (entered 0) (numbered_reads 1 seen ++ exit_touches loop scope) (omega arith)
          (reads_rise 1 seen (exit_touches loop scope) (exit_rises loop scope))
      from_entry parallel (suc count) s =
          subst (λ (touches : List Touch). InOrder t scope n past (does (entered (suc count)) here (numbered_reads 1 seen ++ touches) (run_entered parallel (suc count) loop scope here body_in) s).acts)
          (sym (none_left count loop scope))
          (does_sorted (Comes t scope) AtEntry (InRest 1) (Inside t scope n past) entry_inside rest_inside entry_rest
          (entered (suc count)) here (numbered_reads 1 seen ++ []) (run_entered parallel (suc count) loop scope here body_in) s
          (entry_alone (suc count)) (entered_sorted parallel (suc count)))
