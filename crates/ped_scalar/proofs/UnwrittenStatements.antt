-- A scalar that statements don't write: nothing on their paths overwrites it, and where something refers to it a path reads it.
use Rattle.std.proofs.Common.{◌≡◌, ℕ, suc, ◌+◌, List, [], ◌∷◌, ◌++◌, map, Bool, true, false, ◌&&◌, ◌||◌, if◌then◌else◌, refl, sym, ap, subst, ◌∙◌}
use Rattle.std.specs.List.{list_any}
use Rattle.std.proofs.lemmas.Bool.{and_parts, or_parts}
use Rattle.std.proofs.lemmas.List.Folds.{list_any-append}
use Rattle.ped_base.specs.Lists.{is_same_text, is_among}
use Rattle.ped_tree.specs.Tree.{Head, StmtTree, StmtTrees, Assign, If, Do, Print, Read, Stop, Comment, no_stmts, more_stmts}
use Rattle.ped_tree.specs.Numbering.{statement_count, statements_count}
use Rattle.ped_tree.specs.Accesses.{Access, own_accesses}
use Rattle.ped_tree.specs.Nests.{Loop, indices_of}
use Rattle.ped_refs.specs.References.{Reference, numbered_accesses, statement_references, statements_references}
use Rattle.ped_tree.specs.NamesIn.{loop_variables, all_loop_variables}
use Rattle.ped_rules.specs.ped_symbols.specs.RightUses.RightUses.{NameKinds, is_scalar, cond_is_right, head_is_right, stmt_is_right, stmts_are_right}
use Rattle.ped_rules.specs.ped_flow.specs.Events.{clears, event, own_events, copied, start_events, exit_events}
use Rattle.ped_rules.specs.ped_flow.specs.Summaries.{passing, of_manner, summary_in_turn, summary_either, summary_trips, summary_events, summary_loop, summary_of, summary_of_all}
use Rattle.ped_rules.specs.ped_flow.proofs.SumLaws.{cleared}
use Rattle.ped_rules.specs.ped_flow.proofs.Truths.{untrue}
use Rattle.ped_rules.specs.ped_laws.specs.FlowRuns.Covering.{has_stop, some_stop}
use Rattle.ped_tree.specs.NamesIn.{private_names_in, all_private_names_in}
use Rattle.ped_rules.specs.ped_loop_runs.proofs.TidyLaws.TidyPathsSums.{Summary}
use Rattle.ped_scalar.proofs.UnwrittenReads.{IsStill, passing_still, in_turn_still, either_still, is_of, is_write_of, assignment_still, condition_still, entry_still, output_still, input_still}

-- a reference to the name, and one that writes it
abbrev pub refers : List ℕ → Reference → Bool
refers x r = is_same_text x r.access.name

abbrev pub writes : List ℕ → Reference → Bool
writes x r = is_same_text x r.access.name && r.access.writes

-- the accesses of a statement, and its references
own_any : (test : Access → Bool) (n number : ℕ) (nest : List Loop) (accesses : List Access) → list_any (λ (r : Reference). test r.access) (numbered_accesses n number nest accesses) ≡ list_any test accesses
own_any test n number nest [] = refl
own_any test n number nest (a ∷ rest) = ap (λ (b : Bool). test a || b) (own_any test n (suc number) nest rest)

or_assoc : (a b c : Bool) → ((a || b) || c) ≡ (a || (b || c))
or_assoc true b c = refl
or_assoc false b c = refl

or_false : (a : Bool) → (a || false) ≡ a
or_false true = refl
or_false false = refl

module _ (constants : List (List ℕ)) (x : List ℕ) (kinds : NameKinds) (scalar : is_scalar kinds x ≡ true) where
  abbrev IsUnwritten : List Reference → Type 0
  IsUnwritten refs = list_any (writes x) refs ≡ false

  abbrev some : List Reference → Bool
  some refs = list_any (refers x) refs

  abbrev own : ℕ → List Loop → StmtTree → List Reference
  own n nest s = numbered_accesses n 1 nest (own_accesses constants (indices_of nest) s)

  unwritten_parts : (p q : List Reference) → IsUnwritten (p ++ q) → IsUnwritten p × IsUnwritten q
  unwritten_parts p q u = or_parts (list_any (writes x) p) (list_any (writes x) q) (sym (list_any-append (writes x) p q) ∙ u)

  among_parts : (u v : List (List ℕ)) → is_among x (u ++ v) ≡ false → (is_among x u ≡ false) × (is_among x v ≡ false)
  among_parts u v h = or_parts (is_among x u) (is_among x v) (sym (list_any-append (is_same_text x) u v) ∙ h)

  own_unwritten : (n : ℕ) (nest : List Loop) (s : StmtTree) → IsUnwritten (own n nest s) → list_any (is_write_of x) (own_accesses constants (indices_of nest) s) ≡ false
  own_unwritten n nest s u = sym (own_any (is_write_of x) n 1 nest (own_accesses constants (indices_of nest) s)) ∙ u

  own_still : (n : ℕ) (nest : List Loop) (s : StmtTree) → IsStill (summary_events x (own_events constants n s)) (list_any (is_of x) (own_accesses constants (indices_of nest) s)) → IsStill (summary_events x (own_events constants n s)) (some (own n nest s))
  own_still n nest s h = subst (λ (b : Bool). IsStill (summary_events x (own_events constants n s)) b) (sym (own_any (is_of x) n 1 nest (own_accesses constants (indices_of nest) s))) h

  cleared_still : (n : ℕ) (names : List (List ℕ)) → is_among x names ≡ false → IsStill (summary_events x (map (event n clears) names)) false
  cleared_still n names h = subst (λ (m : Summary). IsStill m false) (sym (cleared x n names ∙ ap (λ (b : Bool). if b then of_manner clears 0 else passing) h)) passing_still

  maybe_none : (b : Bool) (names : List (List ℕ)) → is_among x names ≡ false → is_among x (if b then names else []) ≡ false
  maybe_none true names h = h
  maybe_none false names h = refl

  module _ (n : ℕ) (h : Head) (b : StmtTrees) (other : is_among x (loop_variables (Do h b)) ≡ false) (apart : is_among x (private_names_in (Do h b)) ≡ false) where
    abbrev pub variables : (is_same_text x h.variable ≡ false) × (is_among x (all_loop_variables b) ≡ false)
    variables = or_parts (is_same_text x h.variable) (is_among x (all_loop_variables b)) other

    copied_none : is_among x (copied h b) ≡ false
    copied_none =
        list_any-append (is_same_text x) h.private (if h.parallel then all_loop_variables b else [])
        ∙ λ i. (among_parts h.private (all_private_names_in b) apart).0 i || maybe_none h.parallel (all_loop_variables b) variables.1 i

    start_still : IsStill (summary_events x (start_events n h b)) false
    start_still = cleared_still n (copied h b) copied_none

    exit_still : IsStill (summary_events x (exit_events n h b)) false
    exit_still =
        let own_variable : is_among x (h.variable ∷ []) ≡ false = λ i. variables.0 i || false in
        cleared_still n ((if h.parallel then h.variable ∷ [] else []) ++ copied h b)
        (list_any-append (is_same_text x) (if h.parallel then h.variable ∷ [] else []) (copied h b) ∙ λ i. maybe_none h.parallel (h.variable ∷ []) own_variable i || copied_none i)

    -- an iteration, any number of them, and the exit
    pub iteration_still : (m : Summary) (p : Bool) → IsStill m p → IsStill (summary_in_turn (summary_events x (start_events n h b)) m) p
    iteration_still m p k = in_turn_still (summary_events x (start_events n h b)) m false p start_still k

    loop_still : (m : Summary) (p : Bool) → IsStill m p → IsStill (summary_loop x n h b m) p
    loop_still m p k =
        let one = iteration_still m p k in
        let many : IsStill (summary_trips (summary_in_turn (summary_events x (start_events n h b)) m)) p = record { keeps = refl; reads = one.reads } in
        subst (λ (q : Bool). IsStill (summary_loop x n h b m) q) (or_false p)
        (in_turn_still (summary_trips (summary_in_turn (summary_events x (start_events n h b)) m)) (summary_events x (exit_events n h b)) p false many exit_still)

  mutual
    statement_still : (s : StmtTree) (n : ℕ) (nest : List Loop) → stmt_is_right kinds s ≡ true → is_among x (loop_variables s) ≡ false → is_among x (private_names_in s) ≡ false → has_stop s ≡ false
        → IsUnwritten (statement_references constants nest n s) → IsStill (summary_of constants x s n) (some (statement_references constants nest n s))
    statement_still (Assign left right) n nest r o a h u =
        own_still n nest (Assign left right) (assignment_still constants x kinds scalar (indices_of nest) n left right r (own_unwritten n nest (Assign left right) u))
    statement_still (If c p q) n nest r o a h u =
        let right = and_parts (cond_is_right kinds c && stmts_are_right kinds p) (stmts_are_right kinds q) r in
        let left = and_parts (cond_is_right kinds c) (stmts_are_right kinds p) right.0 in
        let others = among_parts (all_loop_variables p) (all_loop_variables q) o in
        let aparts = among_parts (all_private_names_in p) (all_private_names_in q) a in
        let stops = or_parts (some_stop p) (some_stop q) h in
        let mine = own n nest (If c p q) in
        let first = statements_references constants nest (n + 1) p in
        let second = statements_references constants nest (n + 1 + statements_count p) q in
        let parts = unwritten_parts (mine ++ first) second u in
        let same : some (mine ++ first ++ second) ≡ (some mine || (some first || some second)) =
        list_any-append (refers x) (mine ++ first) second
        ∙ ap (λ (z : Bool). z || some second) (list_any-append (refers x) mine first)
        ∙ or_assoc (some mine) (some first) (some second) in
        subst (λ (z : Bool). IsStill (summary_of constants x (If c p q) n) z) (sym same)
        (in_turn_still (summary_events x (own_events constants n (If c p q))) (summary_either (summary_of_all constants x p (n + 1)) (summary_of_all constants x q (n + 1 + statements_count p))) (some mine) (some first || some second)
        (own_still n nest (If c p q) (condition_still constants x kinds scalar (indices_of nest) n c p q left.0))
        (either_still (summary_of_all constants x p (n + 1)) (summary_of_all constants x q (n + 1 + statements_count p)) (some first) (some second)
        (statements_still p (n + 1) nest left.1 others.0 aparts.0 stops.0 (unwritten_parts mine first parts.0).1)
        (statements_still q (n + 1 + statements_count p) nest right.1 others.1 aparts.1 stops.1 parts.1)))
    statement_still (Do g b) n nest r o a h u =
        let right = and_parts (head_is_right kinds g) (stmts_are_right kinds b) r in
        let others = or_parts (is_same_text x g.variable) (is_among x (all_loop_variables b)) o in
        let aparts = among_parts g.private (all_private_names_in b) a in
        let round : List Loop = nest ++ (record { number = n; head = g }) ∷ [] in
        let mine = own n nest (Do g b) in
        let inner = statements_references constants round (n + 1) b in
        let parts = unwritten_parts mine inner u in
        subst (λ (z : Bool). IsStill (summary_of constants x (Do g b) n) z) (sym (list_any-append (refers x) mine inner))
        (in_turn_still (summary_events x (own_events constants n (Do g b))) (summary_loop x n g b (summary_of_all constants x b (n + 1))) (some mine) (some inner)
        (own_still n nest (Do g b) (entry_still constants x kinds scalar (indices_of nest) n g b right.0 others.0 aparts.0))
        (loop_still n g b o a (summary_of_all constants x b (n + 1)) (some inner) (statements_still b (n + 1) round right.1 others.1 aparts.1 h parts.1)))
    statement_still (Print items) n nest r o a h u = own_still n nest (Print items) (output_still constants x kinds scalar (indices_of nest) n items r (own_unwritten n nest (Print items) u))
    statement_still (Read items) n nest r o a h u = own_still n nest (Read items) (input_still constants x kinds scalar (indices_of nest) n items r (own_unwritten n nest (Read items) u))
    statement_still Stop n nest r o a h u = untrue (sym h)
    statement_still (Comment text) n nest r o a h u = passing_still

    pub statements_still : (ss : StmtTrees) (n : ℕ) (nest : List Loop) → stmts_are_right kinds ss ≡ true → is_among x (all_loop_variables ss) ≡ false → is_among x (all_private_names_in ss) ≡ false → some_stop ss ≡ false
        → IsUnwritten (statements_references constants nest n ss) → IsStill (summary_of_all constants x ss n) (some (statements_references constants nest n ss))
    statements_still no_stmts n nest r o a h u = passing_still
    statements_still (more_stmts s rest) n nest r o a h u =
        let right = and_parts (stmt_is_right kinds s) (stmts_are_right kinds rest) r in
        let others = among_parts (loop_variables s) (all_loop_variables rest) o in
        let aparts = among_parts (private_names_in s) (all_private_names_in rest) a in
        let stops = or_parts (has_stop s) (some_stop rest) h in
        let parts = unwritten_parts (statement_references constants nest n s) (statements_references constants nest (n + statement_count s) rest) u in
        subst (λ (z : Bool). IsStill (summary_of_all constants x (more_stmts s rest) n) z) (sym (list_any-append (refers x) (statement_references constants nest n s) (statements_references constants nest (n + statement_count s) rest)))
        (in_turn_still (summary_of constants x s n) (summary_of_all constants x rest (n + statement_count s)) (some (statement_references constants nest n s)) (some (statements_references constants nest (n + statement_count s) rest))
        (statement_still s n nest right.0 others.0 aparts.0 stops.0 parts.0)
        (statements_still rest (n + statement_count s) nest right.1 others.1 aparts.1 stops.1 parts.1))
