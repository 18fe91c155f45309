-- In a run that leaves the outermost DO round a reference, or that goes on to its end, the reference's statement is done in each iteration of the DO loops round it, where these have constant bounds and no IF is round it.
use Rattle.std.proofs.Common.{◌≡◌, ℕ, ◌+◌, List, [], ◌∷◌, ◌++◌, true, false, refl, sym, ap, subst, ◌∙◌, ◌⊎◌, inl, inr, arith}
use Rattle.std.specs.Str.Lines.{lines}
use Rattle.std.proofs.lemmas.Bool.{and_parts}
use Rattle.ped_laws.specs.ped_flow.specs.ped_tree.specs.Tree.{StmtTree, StmtTrees, Assign, If, Do, Print, Read, Stop, Comment, no_stmts, more_stmts, ProgramTree}
use Rattle.ped_laws.specs.ped_flow.specs.ped_tree.specs.Nests.{Loop}
use Rattle.ped_laws.specs.ped_flow.specs.ped_tree.specs.Numbering.{statement_count, statements_count}
use Rattle.ped_laws.specs.ped_flow.specs.ped_tree.specs.NamesIn.{all_loop_variables}
use Rattle.ped_laws.specs.ped_flow.specs.ped_tree.specs.Accesses.{Access, own_accesses, constant_names}
use Rattle.ped_laws.specs.ped_flow.specs.ped_tree.specs.Grammar.Fits.{Surroundings, moved, stmts_fit, decls_fit, begins_with_statement, at_body}
use Rattle.ped_laws.specs.ped_flow.specs.ped_affine.specs.Assigned.{assigned_in_all}
use Rattle.ped_laws.specs.ped_flow.specs.ped_affine.specs.Ranges as ranges
use Rattle.ped_laws.specs.ped_flow.specs.PlainBounds.{Values}
use Rattle.ped_laws.specs.ped_graph.specs.ped_symbols.specs.NameRefusals.{IsValid}
use Rattle.ped_laws.specs.ped_graph.specs.ped_symbols.proofs.RightUseLaws.Whole.{right_program}
use Rattle.ped_laws.specs.ped_graph.specs.ped_refs.specs.References.{Reference, references, numbered_accesses, statement_references, statements_references}
use Rattle.ped_laws.specs.ped_graph.specs.Guards.{guards_in, all_guards_in, guards, is_guarded}
use Rattle.ped_laws.specs.ped_eval.specs.ped_store.specs.Stores.{Store, store_at_start}
use Rattle.ped_laws.specs.ped_eval.specs.ped_store.specs.Acts.{Place, ended_turn, closed, Act}
use Rattle.ped_laws.specs.Acts.Orders.{IsIn}
use Rattle.ped_laws.proofs.ActLaws.Lists.{in_parts, in_left, in_right}
use Rattle.ped_laws.specs.ped_eval.specs.Scopes.{Setting}
use Rattle.ped_laws.specs.ped_eval.specs.Runs.{Ending, going, stopped, failed, Run, followed_by, run, run_all}
use Rattle.ped_laws.specs.ped_eval.specs.Outcomes.{setting_of, run_of}
use Rattle.ped_laws.proofs.ConflictLaws.MakingParts.{Parts, first_part, rest_parts, stand_whole}
use Rattle.ped_rows.proofs.Trips.{AreTrips, turns_at}
use Rattle.ped_rows.specs.Occurring.{IsLeft}
use Rattle.ped_rows.proofs.ComingLaws.ActPlaces.{run_inside, all_inside}
use Rattle.ped_rows.proofs.ComingLaws.NestedReferences.{of_statement, statement_nested, statements_nested}
use Rattle.ped_rows.proofs.ComingLaws.Unguarded.{AreFrom, first_statement, rest_statements, of_condition, guards_whole}
use Rattle.ped_rows.proofs.ComingLaws.Reaching.{Comes, comes_among, run_comes, all_comes}
use Rattle.ped_rows.proofs.ComingLaws.Leaving.{in_followed, ends_loop, Goes, loop_goes}

-- acts are among them and those of a run after them
first_among : (acts : List Act) (e : Ending) (next : Store → Run) (a : Act) → IsIn a acts → IsIn a (followed_by acts e next).acts
first_among acts (going u) next a i = in_left a acts (next u).acts i
first_among acts (stopped u) next a i = i
first_among acts (failed fault statement) next a i = i

second_among : (acts : List Act) (e : Ending) (next : Store → Run) (u : Store) (a : Act) → e ≡ going u → IsIn a (next u).acts → IsIn a (followed_by acts e next).acts
second_among acts e next u a h i = subst (λ (z : Ending). IsIn a (followed_by acts z next).acts) (sym h) (in_right a acts (next u).acts i)

module _ (t : ProgramTree) (r : Reference) (l : Loop) (inner : List Loop) (nested : r.nest ≡ l ∷ inner) (free : is_guarded (guards t) r.statement ≡ false) where
  abbrev p : Setting
  p = setting_of t

  abbrev c : Values
  c = (setting_of t).constants

  abbrev names : List (List ℕ)
  names = constant_names t.decls

  -- the DO is that of the act
  module _ (a : Act) (ends : ends_loop a.step ≡ true) (outer : a.place.turns ≡ []) (number : a.place.statement ≡ l.number) (ks : List ℕ) (trips : AreTrips c (l ∷ inner) ks) (s : ranges.Setting) where
    in_no_loop : {A : Type 0} (n : ℕ) (accesses : List Access) → IsIn r (numbered_accesses n 1 [] accesses) → A
    in_no_loop n accesses i = let z : [] ≡ l ∷ inner = sym (of_statement n 1 [] accesses r i).nested ∙ nested in absurd cc

    -- the statement with the reference goes on
    statement_goes : (x : StmtTree) (n : ℕ) → IsIn r (statement_references names [] n x) → AreFrom (guards t) n (guards_in false x) → (u : Store) → IsIn a (run p x n [] u).acts → Goes (run p x n [] u).ending
    statement_goes (Assign left right) n i from u j = in_no_loop n (own_accesses names [] (Assign left right)) i
    statement_goes (If condition b d) n i from u j = in_no_loop n (own_accesses names [] (If condition b d)) (of_condition (guards t) names condition b d [] n r i from free)
    statement_goes (Do h b) n i from u j = loop_goes t a ends outer h b n u j
    statement_goes (Print items) n i from u j = in_no_loop n (own_accesses names [] (Print items)) i
    statement_goes (Read items) n i from u j = in_no_loop n (own_accesses names [] (Read items)) i
    statement_goes Stop n i from u j = absurd i
    statement_goes (Comment text) n i from u j = absurd i

    first_of : (rest : List Loop) → r.nest ≡ [] ++ rest → IsIn l rest
    first_of rest e = subst (λ (ls : List Loop). IsIn l ls) (sym nested ∙ e) (inl refl)

    -- where the act is that has left the DO
    abbrev Stands : StmtTree → StmtTrees → ℕ → Store → Type 0
    Stands x rest n u = IsIn a (run p x n [] u).acts ⊎ ((w : Store) × ((run p x n [] u).ending ≡ going w) × IsIn a (run_all p rest (n + statement_count x) [] w).acts)

    abbrev ComesHere : List Act → Type 0
    ComesHere acts = Comes t r (turns_at c (l ∷ inner) ks) acts

    in_first : (x : StmtTree) (rest : StmtTrees) (around : Surroundings) (n : ℕ) → Parts t s [] [] around n (more_stmts x rest) → AreFrom (guards t) n (all_guards_in false (more_stmts x rest)) → (u : Store) → IsIn r (statement_references names [] n x) → Stands x rest n u → ComesHere (run_all p (more_stmts x rest) n [] u).acts
    in_first x rest around n parts from u k (inl b) =
        let goes = statement_goes x n k (first_statement (guards t) n x rest from) u b in
        comes_among t r (turns_at c (l ∷ inner) ks) (run p x n [] u).acts _ (first_among (run p x n [] u).acts (run p x n [] u).ending (run_all p rest (n + statement_count x) []))
        (run_comes t r (turns_at c (l ∷ inner) ks) free s x [] [] around n (first_part t s [] [] around n x rest parts) (first_statement (guards t) n x rest from) k (l ∷ inner) nested ks trips refl u goes.0 goes.1)
    in_first x rest around n parts from u k (inr y) =
        let o = statement_nested names x [] n n (n + statement_count x) r (omega arith) (omega arith) k in
        let below = (o.loops l (first_of o.rest o.nested)).1 in
        let least = (all_inside t rest (n + statement_count x) (n + statement_count x) (n + statement_count x + statements_count rest) [] y.0 (omega arith) (omega arith) a y.2).least in
        absurd (omega (arith, below, least, number))

    in_rest : (x : StmtTree) (rest : StmtTrees) (n : ℕ) (u : Store) → ((w : Store) → IsIn a (run_all p rest (n + statement_count x) [] w).acts → ComesHere (run_all p rest (n + statement_count x) [] w).acts) → IsIn r (statements_references names [] (n + statement_count x) rest) → Stands x rest n u
        → ComesHere (run_all p (more_stmts x rest) n [] u).acts
    in_rest x rest n u later k (inl b) =
        let o = statements_nested names rest [] (n + statement_count x) (n + statement_count x) (n + statement_count x + statements_count rest) r (omega arith) (omega arith) k in
        let least = (o.loops l (first_of o.rest o.nested)).0 in
        let below = (run_inside t x n n (n + statement_count x) [] u (omega arith) (omega arith) a b).below in
        absurd (omega (arith, below, least, number))
    in_rest x rest n u later k (inr y) =
        comes_among t r (turns_at c (l ∷ inner) ks) (run_all p rest (n + statement_count x) [] y.0).acts _ (λ d. second_among (run p x n [] u).acts (run p x n [] u).ending (run_all p rest (n + statement_count x) []) y.0 d y.1) (later y.0 y.2)

    all_left : (xs : StmtTrees) (around : Surroundings) (n : ℕ) → Parts t s [] [] around n xs → AreFrom (guards t) n (all_guards_in false xs) → IsIn r (statements_references names [] n xs) → (u : Store) → IsIn a (run_all p xs n [] u).acts → ComesHere (run_all p xs n [] u).acts
    all_left no_stmts around n parts from i u j = absurd i
    all_left (more_stmts x rest) around n parts from i u j =
        let there = in_followed a (run p x n [] u).acts (run p x n [] u).ending (run_all p rest (n + statement_count x) []) j in
        elim (in_parts r (statement_references names [] n x) (statements_references names [] (n + statement_count x) rest) i) [
          | inl k ↦ in_first x rest around n parts from u k there
          | inr k ↦ in_rest x rest n u (all_left rest (moved around (statement_count x)) (n + statement_count x) (rest_parts t s [] [] around n x rest parts) (rest_statements (guards t) false n x rest from) k) k there
        ]

-- the whole program
abbrev whole_setting : ProgramTree → ranges.Setting
whole_setting t = record { constants = []; loop_variables = all_loop_variables t.body; assigned = assigned_in_all t.body }

whole_parts : (t : ProgramTree) → IsValid t → Parts t (whole_setting t) [] [] (at_body t) 1 t.body
whole_parts t valid =
    let right = right_program t valid in
    let fits = and_parts (decls_fit 0 t.decls) (stmts_fit (at_body t) t.body) (and_parts _ (begins_with_statement t.body) valid.fits).0 in
    record {
      fit = fits.1;
      uses = right.statements;
      increments = right.steps;
      assigns = λ x h. h;
      loops = λ x h. h;
      listed = λ r i. i;
      stand = stand_whole t;
      same = λ x. refl;
      round = refl;
    }

ends_it : (a : Act) → (a.step ≡ ended_turn 0) ⊎ (a.step ≡ closed) → ends_loop a.step ≡ true
ends_it a (inl e) = ap ends_loop e
ends_it a (inr e) = ap ends_loop e

-- a run that has left the outermost DO
pub coming_before_exit : (t : ProgramTree) (data_bytes : List ℕ) (r : Reference) (l : Loop) (inner : List Loop) → IsValid t → IsIn r (references t) → r.nest ≡ l ∷ inner → is_guarded (guards t) r.statement ≡ false → (ks : List ℕ) → AreTrips (setting_of t).constants (l ∷ inner) ks
    → IsLeft t data_bytes l.number → Comes t r (turns_at (setting_of t).constants (l ∷ inner) ks) (run_of t data_bytes).acts
coming_before_exit t data_bytes r l inner valid i nested free ks trips left =
    all_left t r l inner nested free left.0 (ends_it left.0 left.3) (ap (λ (z : Place). z.turns) left.2) (ap (λ (z : Place). z.statement) left.2) ks trips (whole_setting t) t.body (at_body t) 1 (whole_parts t valid) (guards_whole t) i (store_at_start (lines data_bytes)) left.1

-- a run that goes on to its end
pub coming_before_end : (t : ProgramTree) (data_bytes : List ℕ) (r : Reference) (l : Loop) (inner : List Loop) → IsValid t → IsIn r (references t) → r.nest ≡ l ∷ inner → is_guarded (guards t) r.statement ≡ false → (ks : List ℕ) → AreTrips (setting_of t).constants (l ∷ inner) ks
    → (v : Store) → (run_of t data_bytes).ending ≡ going v → Comes t r (turns_at (setting_of t).constants (l ∷ inner) ks) (run_of t data_bytes).acts
coming_before_end t data_bytes r l inner valid i nested free ks trips v goes =
    all_comes t r (turns_at (setting_of t).constants (l ∷ inner) ks) free (whole_setting t) t.body [] [] (at_body t) 1 (whole_parts t valid) (guards_whole t) i (l ∷ inner) nested ks trips refl (store_at_start (lines data_bytes)) v goes
