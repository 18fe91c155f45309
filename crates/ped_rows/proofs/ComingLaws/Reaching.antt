-- In a piece of a run that goes on, a statement that stands in no IF is done in each iteration of the DO loops round it, where these have constant bounds.
use Rattle.std.proofs.Common.{◌≡◌, ℕ, ◌+◌, ◌-◌, ◌≤◌, ℤ, pos, ◌+ℤ◌, ◌*ℤ◌, List, [], ◌∷◌, ◌++◌, false, Option, Ok, refl, sym, ap, subst, ◌∙◌, inl, inr, arith, append_assoc, append-nil}
use Rattle.std.specs.Option.{unwrap_or}
use Rattle.ped_laws.specs.ped_flow.specs.ped_tree.specs.Tree.{Head, StmtTree, StmtTrees, Assign, If, Do, Print, Read, Stop, Comment, no_stmts, more_stmts, ProgramTree}
use Rattle.ped_laws.specs.ped_flow.specs.ped_tree.specs.Nests.{Loop, indices_of}
use Rattle.ped_laws.specs.ped_flow.specs.ped_tree.specs.Numbering.{statement_count, statements_count}
use Rattle.ped_laws.specs.ped_flow.specs.ped_tree.specs.Accesses.{own_accesses, constant_names}
use Rattle.ped_laws.specs.ped_flow.specs.ped_tree.specs.Constants.ConstantExpressions.{constant_value}
use Rattle.ped_laws.specs.ped_flow.specs.ped_tree.specs.Grammar.Fits.{Surroundings, moved, in_loop}
use Rattle.ped_laws.specs.ped_flow.specs.ped_affine.specs.Ranges as ranges
use Rattle.ped_laws.specs.ped_flow.specs.PlainBounds.{Values}
use Rattle.ped_laws.specs.ped_graph.specs.ped_refs.specs.References.{Reference, numbered_accesses, statement_references, statements_references}
use Rattle.ped_laws.specs.ped_graph.specs.Guards.{guards_in, all_guards_in, guards, is_guarded}
use Rattle.ped_laws.specs.ped_eval.specs.ped_store.specs.Stores.{Store}
use Rattle.ped_laws.specs.ped_eval.specs.ped_store.specs.Acts.{Turn, Place, Act, store_behind}
use Rattle.ped_laws.specs.Acts.Orders.{IsIn}
use Rattle.ped_laws.proofs.ActLaws.Lists.{in_parts}
use Rattle.ped_laws.specs.ped_eval.specs.Scopes.{Setting, Frame, Scope, turns_of, names_in, place_of}
use Rattle.ped_laws.specs.ped_eval.specs.Evaluation.{Evaluated}
use Rattle.ped_laws.specs.ped_eval.specs.Loops.{increment, iteration_count, Limits, limits, Entered, entered_with, frame, entry_touches}
use Rattle.ped_laws.specs.ped_eval.specs.Runs.{going, Run, run_from_entry, run, run_all}
use Rattle.ped_laws.specs.ped_eval.specs.Outcomes.{setting_of}
use Rattle.ped_laws.proofs.ConflictLaws.MakingParts.{Part, Parts, first_part, rest_parts, body_parts}
use Rattle.ped_rows.proofs.Trips.{IsTrip, AreTrips, trip_value, turns_at}
use Rattle.ped_rows.proofs.ComingLaws.Going.{parted, on_going, entered_have, constant_limits}
use Rattle.ped_rows.proofs.ComingLaws.NestedReferences.{of_statement, statements_nested}
use Rattle.ped_rows.proofs.ComingLaws.Unguarded.{AreFrom, first_statement, rest_statements, body_statements, of_condition}

-- what follows a front of a list
behind_front : (front xs ys : List Loop) → front ++ xs ≡ front ++ ys → xs ≡ ys
behind_front [] xs ys e = e
behind_front (l ∷ front) xs ys e = behind_front front xs ys (tail l (front ++ xs) (front ++ ys) e)
  where
    tail : (l : Loop) (xs ys : List Loop) → l ∷ xs ≡ l ∷ ys → xs ≡ ys
    tail l xs ys e = cc

nothing_behind : (front xs : List Loop) → front ≡ front ++ xs → [] ≡ xs
nothing_behind front xs e = behind_front front [] xs (append-nil front ∙ e)

module _ (t : ProgramTree) (r : Reference) (whole : List Turn) where
  abbrev p : Setting
  p = setting_of t

  abbrev c : Values
  c = (setting_of t).constants

  abbrev names : List (List ℕ)
  names = constant_names t.decls

  -- acts do the statement of the reference in these iterations, and it goes on
  pub record Comes (acts : List Act) : Type 0 where
    pub statement : StmtTree
    pub setting : ranges.Setting
    pub scope : Scope
    pub around : Surroundings
    pub part : Part t setting r.nest scope around r.statement statement
    pub own : IsIn r (numbered_accesses r.statement 1 r.nest (own_accesses names (indices_of r.nest) statement))
    pub turns : turns_of scope ≡ whole
    pub before : Store
    pub after : Store
    pub goes : (run p statement r.statement scope before).ending ≡ going after
    pub inside : (a : Act) → IsIn a (run p statement r.statement scope before).acts → IsIn a acts

  pub comes_among : (acts others : List Act) → ((a : Act) → IsIn a acts → IsIn a others) → Comes acts → Comes others
  comes_among acts others more h = record {
    statement = h.statement;
    setting = h.setting;
    scope = h.scope;
    around = h.around;
    part = h.part;
    own = h.own;
    turns = h.turns;
    before = h.before;
    after = h.after;
    goes = h.goes;
    inside = λ a i. more a (h.inside a i);
  }

  module _ (free : is_guarded (guards t) r.statement ≡ false) (s : ranges.Setting) where
    -- the reference is of the statement by itself
    own_comes : (x : StmtTree) (nest : List Loop) (scope : Scope) (around : Surroundings) (n : ℕ) → Part t s nest scope around n x → IsIn r (numbered_accesses n 1 nest (own_accesses names (indices_of nest) x))
        → (inner : List Loop) → r.nest ≡ nest ++ inner → (ks : List ℕ) → turns_of scope ++ turns_at c inner ks ≡ whole → (u v : Store) → (run p x n scope u).ending ≡ going v → Comes (run p x n scope u).acts
    own_comes x nest scope around n part i inner e ks turns u v goes =
        let o = of_statement n 1 nest (own_accesses names (indices_of nest) x) r i in
        let none : [] ≡ inner = nothing_behind nest inner (sym o.nested ∙ e) in
        record {
          statement = x;
          setting = s;
          scope = scope;
          around = around;
          part = subst (λ (m : ℕ). Part t s r.nest scope around m x) (sym o.statement) (subst (λ (ls : List Loop). Part t s ls scope around n x) (sym o.nested) part);
          own = subst (λ (m : ℕ). IsIn r (numbered_accesses m 1 r.nest (own_accesses names (indices_of r.nest) x))) (sym o.statement) (subst (λ (ls : List Loop). IsIn r (numbered_accesses n 1 ls (own_accesses names (indices_of ls) x))) (sym o.nested) i);
          turns = sym (append-nil (turns_of scope)) ∙ (ap (λ (ls : List Loop). turns_of scope ++ turns_at c ls ks) none ∙ turns);
          before = u;
          after = v;
          goes = ap (λ (m : ℕ). (run p x m scope u).ending) o.statement ∙ goes;
          inside = λ a j. subst (λ (m : ℕ). IsIn a (run p x m scope u).acts) o.statement j;
        }

    -- an iteration of a DO with constant bounds
    turn_is : (scope : Scope) (n : ℕ) (h : Head) (b : StmtTrees) (u : Store) (m : Limits) (k : ℕ) → (limits (names_in p scope) h u).result ≡ Ok m → IsTrip c h k
        → ((frame (entered_with p n h b (limits (names_in p scope) h u).seen m) k).turn ≡ record { statement = n; parallel = h.parallel; number = k; value = trip_value c h k }) × (k ≤ (entered_with p n h b (limits (names_in p scope) h u).seen m).count)
    turn_is scope n h b u m k is trip =
        let bounds = constant_limits (names_in p scope) h u m trip.first trip.last is trip.first_is trip.last_is in
        let first : m.first ≡ unwrap_or (constant_value c h.first) (pos 0) = bounds.0 ∙ ap (λ (o : Option ℤ). unwrap_or o (pos 0)) (sym trip.first_is) in
        let count : iteration_count m.first m.last (increment c h) ≡ iteration_count trip.first trip.last (increment c h) = λ i. iteration_count (bounds.0 i) (bounds.1 i) (increment c h) in (
          (λ i. record { statement = n; parallel = h.parallel; number = k; value = first i +ℤ pos (k - 1) *ℤ increment c h }),
          subst (λ (j : ℕ). k ≤ j) (sym count) trip.to,
        )

    -- a DO, whose body comes to it in each iteration that goes on
    turn_comes : (h : Head) (b : StmtTrees) (scope : Scope) (n : ℕ) (rest : List Loop) (ks : List ℕ) → AreTrips c ((record { number = n; head = h }) ∷ rest) ks → turns_of scope ++ turns_at c ((record { number = n; head = h }) ∷ rest) ks ≡ whole
        → (u v : Store) → (run p (Do h b) n scope u).ending ≡ going v
        → ((f : Frame) → f.variable ≡ h.variable → (others : List ℕ) → AreTrips c rest others → turns_of (f ∷ scope) ++ turns_at c rest others ≡ whole → (before after : Store) → (run_all p b (n + 1) (f ∷ scope) before).ending ≡ going after → Comes (run_all p b (n + 1) (f ∷ scope) before).acts)
        → Comes (run p (Do h b) n scope u).acts
    turn_comes h b scope n rest [] trips turns u v goes inner = absurd trips
    turn_comes h b scope n rest (k ∷ ks) trips turns u v goes inner =
        let at : Place = place_of p n scope in
        let body : Frame → Store → Run = λ f. run_all p b (n + 1) (f ∷ scope) in
        let bounds : Evaluated Limits = limits (names_in p scope) h u in
        let on = on_going at bounds.seen bounds.result (λ seen m. run_from_entry seen (entered_with p n h b seen m) scope at body u) v goes in
        let entry : Entered = entered_with p n h b bounds.seen on.0 in
        let turn = turn_is scope n h b u on.0 k on.1 trips.0 in
        let w : Store = store_behind (entry_touches bounds.seen entry scope) u in
        let has = entered_have entry body h.parallel entry.count scope at w v on.2 k trips.0.from turn.1 in
        let further : turns_of (frame entry k ∷ scope) ++ turns_at c rest ks ≡ whole =
        append_assoc (turns_of scope) ((frame entry k).turn ∷ []) (turns_at c rest ks) ∙ (ap (λ (x : Turn). turns_of scope ++ x ∷ turns_at c rest ks) turn.0 ∙ turns) in
        comes_among (body (frame entry k) has.before).acts (run p (Do h b) n scope u).acts (λ a j. on.3 a (inr (has.inside a j))) (inner (frame entry k) refl ks trips.1 further has.before has.after has.goes)

    mutual
      pub run_comes : (x : StmtTree) (nest : List Loop) (scope : Scope) (around : Surroundings) (n : ℕ) → Part t s nest scope around n x → AreFrom (guards t) n (guards_in false x) → IsIn r (statement_references names nest n x)
          → (inner : List Loop) → r.nest ≡ nest ++ inner → (ks : List ℕ) → AreTrips c inner ks → turns_of scope ++ turns_at c inner ks ≡ whole → (u v : Store) → (run p x n scope u).ending ≡ going v → Comes (run p x n scope u).acts
      run_comes (Assign left right) nest scope around n part from i inner e ks trips turns u v goes = own_comes (Assign left right) nest scope around n part i inner e ks turns u v goes
      run_comes (If condition a b) nest scope around n part from i inner e ks trips turns u v goes = own_comes (If condition a b) nest scope around n part (of_condition (guards t) names condition a b nest n r i from free) inner e ks turns u v goes
      run_comes (Do h b) nest scope around n part from i inner e ks trips turns u v goes =
          elim (in_parts r (numbered_accesses n 1 nest (own_accesses names (indices_of nest) (Do h b))) (statements_references names (nest ++ (record { number = n; head = h }) ∷ []) (n + 1) b) i) [
            | inl j ↦ own_comes (Do h b) nest scope around n part j inner e ks turns u v goes
            | inr j ↦ (
                let l : Loop = record { number = n; head = h } in
                let o = statements_nested names b (nest ++ l ∷ []) (n + 1) (n + 1) (n + 1 + statements_count b) r (omega arith) (omega arith) j in
                let is : inner ≡ l ∷ o.rest = behind_front nest inner (l ∷ o.rest) (sym e ∙ (o.nested ∙ append_assoc nest (l ∷ []) o.rest)) in
                turn_comes h b scope n o.rest ks (subst (λ (ls : List Loop). AreTrips c ls ks) is trips) (ap (λ (ls : List Loop). turns_of scope ++ turns_at c ls ks) (sym is) ∙ turns) u v goes
                (λ f same others inside further before after on. all_comes b (nest ++ l ∷ []) (f ∷ scope) (in_loop around h) (n + 1) (body_parts t s nest scope around n h b f same part) (body_statements (guards t) false false n b from) j o.rest o.nested others inside further before after on)
                )
          ]
      run_comes (Print items) nest scope around n part from i inner e ks trips turns u v goes = own_comes (Print items) nest scope around n part i inner e ks turns u v goes
      run_comes (Read items) nest scope around n part from i inner e ks trips turns u v goes = own_comes (Read items) nest scope around n part i inner e ks turns u v goes
      run_comes Stop nest scope around n part from i inner e ks trips turns u v goes = absurd i
      run_comes (Comment text) nest scope around n part from i inner e ks trips turns u v goes = absurd i

      pub all_comes : (xs : StmtTrees) (nest : List Loop) (scope : Scope) (around : Surroundings) (n : ℕ) → Parts t s nest scope around n xs → AreFrom (guards t) n (all_guards_in false xs) → IsIn r (statements_references names nest n xs)
          → (inner : List Loop) → r.nest ≡ nest ++ inner → (ks : List ℕ) → AreTrips c inner ks → turns_of scope ++ turns_at c inner ks ≡ whole → (u v : Store) → (run_all p xs n scope u).ending ≡ going v → Comes (run_all p xs n scope u).acts
      all_comes no_stmts nest scope around n parts from i inner e ks trips turns u v goes = absurd i
      all_comes (more_stmts x rest) nest scope around n parts from i inner e ks trips turns u v goes =
          let q = parted (run p x n scope u).acts (run p x n scope u).ending (run_all p rest (n + statement_count x) scope) v goes in
          elim (in_parts r (statement_references names nest n x) (statements_references names nest (n + statement_count x) rest) i) [
            | inl j ↦ comes_among (run p x n scope u).acts _ q.of_first (run_comes x nest scope around n (first_part t s nest scope around n x rest parts) (first_statement (guards t) n x rest from) j inner e ks trips turns u q.middle q.first)
            | inr j ↦ comes_among (run_all p rest (n + statement_count x) scope q.middle).acts _ q.of_second
                (all_comes rest nest scope (moved around (statement_count x)) (n + statement_count x) (rest_parts t s nest scope around n x rest parts) (rest_statements (guards t) false n x rest from) j inner e ks trips turns q.middle v q.second)
          ]
