-- In a run a place tells the values of variables of the DO loops round it alone.
use Rattle.std.proofs.Common.{◌≡◌, ℕ, zero, suc, ◌+◌, ℤ, List, [], ◌∷◌, ◌++◌, length, Bool, true, false, eqb, Option, Some, None, Result, Ok, Err, refl, sym, ap, ◌∙◌, arith, if◌then◌else◌}
use Rattle.std.proofs.lemmas.Bool.Decides.{nat_tests}
use Rattle.std.proofs.lemmas.List.Folds.{list_any-append}
use Rattle.ped_flow.specs.ped_base.specs.Lists.{is_same_text, is_among}
use Rattle.ped_flow.specs.ped_tree.specs.Tree.{ExprTree, StmtTree, StmtTrees, Assign, If, Do, Print, Read, Stop, Comment, no_stmts, more_stmts, ProgramTree}
use Rattle.ped_flow.specs.ped_tree.specs.Numbering.{numbered as statements_of, all_numbered, at_place, statement_with, statement_count, statements_count}
use Rattle.ped_flow.specs.ped_tree.proofs.Numbers.{length-numbered, length-all_numbered, at_place-front, at_place-back}
use Rattle.ped_eval.specs.ped_store.specs.Cells.{Cell, In, Out}
use Rattle.ped_eval.specs.ped_store.specs.Stores.{Content, Undefined, Number, Lines, Store, put, lines_in}
use Rattle.ped_eval.specs.ped_store.specs.Acts.{Manner, reads, writes, is_told, Touch, Turn, Place, Act, did, entered, ended_turn, closed, faulted}
use Rattle.ped_eval.specs.ped_store.specs.DataLines.{Data, begun, Taken, next_value_of}
use Rattle.ped_laws.proofs.ActLaws.Renamings.{or_left, or_right}
use Rattle.ped_eval.specs.Scopes.{Setting, Frame, Scope, Names, turns_of, cell_of, names_in, place_of}
use Rattle.ped_eval.specs.Evaluation.{Seen, cell_seen, index_seen, numbered, number_behind}
use Rattle.ped_eval.specs.Values.{truth, target}
use Rattle.ped_eval.specs.Statements.{assigned, printed_line, into_item, with_taken, taking, taking_from, reading, reading_touches, read_touch, write_touch}
use Rattle.ped_eval.specs.Loops.{limits, Entered, entered_with, frame, undefined_by, undefined_all, exit_touches, exit_when_none}
use Rattle.ped_flow.specs.ped_tree.specs.NamesIn.{loop_variables, all_loop_variables}
use Rattle.ped_eval.specs.Runs.{Run, nothing_done, does, run_taking, turns, parallel_turns, run_entered, run, run_all}
use Rattle.ped_eval.specs.Outcomes.{setting_of}
use Rattle.ped_laws.specs.Runs.Replaying.{act}
use Rattle.ped_laws.specs.Runs.Touching.{HasCopies, HaveCopies}
use Rattle.ped_laws.proofs.RunLaws.Touches.{Each, each_none, each_more, each_append, then_each, does_each, on_each, any_result}
use Rattle.ped_laws.proofs.RunLaws.Turning.{body_copies}
use Rattle.ped_laws.proofs.CoveringLaws.Texts.{text_itself}
use Rattle.ped_laws.proofs.ConflictLaws.CoveringSights.{AllTold, truth_told, target_told, line_told, limits_told, assigned_told}
use Rattle.ped_laws.proofs.ConflictLaws.CoveringIndices.{IsIndexAt, TellsIndices, tells_none, tells_more}

-- what is told is the value of a DO variable
abbrev pub Tells : ProgramTree → List Turn → Manner → Cell → Type 0
Tells t ts reads c = Unit {0}
Tells t ts writes c = Unit {0}
Tells t ts is_told c = IsIndexAt t ts c

abbrev TouchTells : ProgramTree → List Turn → Touch → Type 0
TouchTells t ts touch = Tells t ts touch.manner touch.cell

abbrev pub ActTells : ProgramTree → Act → Type 0
ActTells t a = Each (TouchTells t a.place.turns) a.touches

-- these statements of the program have numbers from n on
abbrev Stand : ProgramTree → ℕ → List StmtTree → Type 0
Stand t n xs = (i : ℕ) (s : StmtTree) → at_place xs i ≡ Some s → statement_with (n + i) t ≡ Some s

stand_first : (t : ProgramTree) (n : ℕ) (xs ys : List StmtTree) → Stand t n (xs ++ ys) → Stand t n xs
stand_first t n xs ys w i s h = w i s (at_place-front xs ys i s h)

stand_rest : (t : ProgramTree) (n k : ℕ) (xs ys : List StmtTree) → k ≡ length xs → Stand t n (xs ++ ys) → Stand t (n + k) ys
stand_rest t n k xs ys e w i s h =
    let same : n + (i + length xs) ≡ n + k + i = omega (arith, e) in
    ap (λ (m : ℕ). statement_with m t) (sym same) ∙ w (i + length xs) s (at_place-back xs ys (i + length xs) i refl ∙ h)

all_stand : (t : ProgramTree) → Stand t 1 (all_numbered t.body)
all_stand t i s h = grind (arith, nat_tests, h)

first_names : (x : List ℕ) (xs ys : List (List ℕ)) → is_among x xs ≡ true → is_among x (xs ++ ys) ≡ true
first_names x xs ys i = list_any-append (is_same_text x) xs ys ∙ or_left (is_among x xs) (is_among x ys) i

second_names : (x : List ℕ) (xs ys : List (List ℕ)) → is_among x ys ≡ true → is_among x (xs ++ ys) ≡ true
second_names x xs ys i = list_any-append (is_same_text x) xs ys ∙ or_right (is_among x xs) (is_among x ys) i

-- each iteration of a PARALLEL DO has a copy of the DO's variable
variable_copied : (e : Entered) (parallel : Bool) → parallel ≡ true → is_among e.head.variable (if parallel then e.head.variable ∷ (e.head.private ++ e.inner) else e.head.private) ≡ true
variable_copied e true h = or_left (is_same_text e.head.variable e.head.variable) (is_among e.head.variable (e.head.private ++ e.inner)) (text_itself e.head.variable)
variable_copied e false h = absurd cc

module _ (t : ProgramTree) where
  abbrev Own : Setting
  Own = setting_of t

  numbered_tells : (ts : List Turn) (n : ℕ) (seen : List Seen) → AllTold (IsIndexAt t ts) seen → Each (TouchTells t ts) (numbered n seen)
  numbered_tells ts n [] a = each_none (TouchTells t ts)
  numbered_tells ts n (cell_seen c content ∷ more) a = each_more (TouchTells t ts) (read_touch c content n) (numbered (suc n) more) tt (numbered_tells ts (suc n) more a)
  numbered_tells ts n (index_seen c v ∷ more) a = each_more (TouchTells t ts) (record { cell = c; manner = is_told; content = Number v; reference = 0 }) (numbered n more) a.0 (numbered_tells ts n more a.1)

  write_tells : (ts : List Turn) (c : Cell) (v : Content) (n : ℕ) → Each (TouchTells t ts) (write_touch c v n ∷ [])
  write_tells ts c v n = each_more (TouchTells t ts) (write_touch c v n) [] tt (each_none (TouchTells t ts))

  module _ (scope : Scope) (n : ℕ) where
    abbrev at : Place
    at = place_of Own n scope

    abbrev TouchesTell : List Touch → Type 0
    TouchesTell touches = Each (TouchTells t (turns_of scope)) touches

    -- what a DO writes when it is left tells nothing
    private_tell : (k : ℕ) (xs : List (List ℕ)) → TouchesTell (undefined_by scope k xs)
    private_tell k [] = each_none (TouchTells t (turns_of scope))
    private_tell k (x ∷ xs) = each_more (TouchTells t (turns_of scope)) (write_touch (cell_of scope x) Undefined k) (undefined_by scope (suc k) xs) tt (private_tell (suc k) xs)

    inner_tell : (xs : List (List ℕ)) → TouchesTell (undefined_all scope xs)
    inner_tell [] = each_none (TouchTells t (turns_of scope))
    inner_tell (x ∷ xs) = each_more (TouchTells t (turns_of scope)) (write_touch (cell_of scope x) Undefined 0) (undefined_all scope xs) tt (inner_tell xs)

    exit_tells : (e : Entered) → TouchesTell (exit_touches e scope)
    exit_tells e =
        each_more (TouchTells t (turns_of scope)) _ (undefined_by scope e.behind_bounds e.head.private ++ undefined_all scope e.inner) tt
        (each_append (TouchTells t (turns_of scope)) (undefined_by scope e.behind_bounds e.head.private) (undefined_all scope e.inner) (private_tell e.behind_bounds e.head.private) (inner_tell e.inner))

    exit_when_tells : (k : ℕ) (e : Entered) → TouchesTell (exit_when_none k e scope)
    exit_when_tells k e = go (eqb k 0)
      where
        go : (b : Bool) → TouchesTell (if b then exit_touches e scope else [])
        go true = exit_tells e
        go false = each_none (TouchTells t (turns_of scope))

    -- the turns of a DO
    module _ (e : Entered) (body : Frame → Store → Run) (bodies : (k : ℕ) (s : Store) → Each (ActTells t) (body (frame e k) s).acts) where
      turns_tell : (left k : ℕ) (s : Store) → Each (ActTells t) (turns left k e scope at body s).acts
      turns_tell zero k s = each_none (ActTells t)
      turns_tell (suc left) k s =
          then_each (ActTells t) (body (frame e k) s) (does (ended_turn left) at (exit_when_none left e scope) (turns left (k + 1) e scope at body)) (bodies k s)
          (λ u. does_each (ActTells t) (ended_turn left) at (exit_when_none left e scope) (turns left (k + 1) e scope at body) u (exit_when_tells left e) (turns_tell left (k + 1)))

      parallel_tell : (left k : ℕ) (s : Store) → Each (ActTells t) (parallel_turns left k e body s).acts
      parallel_tell zero k s = each_none (ActTells t)
      parallel_tell (suc left) k s = then_each (ActTells t) (body (frame e k) s) (parallel_turns left (k + 1) e body) (bodies k s) (parallel_tell left (k + 1))

      entered_tells : (b : Bool) (count : ℕ) (s : Store) → Each (ActTells t) (run_entered b count e scope at body s).acts
      entered_tells b zero s = each_none (ActTells t)
      entered_tells false (suc count) s = turns_tell (suc count) 1 s
      entered_tells true (suc count) s =
          then_each (ActTells t) (parallel_turns (suc count) 1 e body s) (does closed at (exit_touches e scope) nothing_done) (parallel_tell (suc count) 1 s)
          (λ u. does_each (ActTells t) closed at (exit_touches e scope) nothing_done u (exit_tells e) (λ v. each_none (ActTells t)))

    module _ (tells : TellsIndices t scope) where
      abbrev g : Names
      g = names_in Own scope

      abbrev P : Cell → Type 0
      P = IsIndexAt t (turns_of scope)

      -- the items of a READ
      item_tells : (rest : List ExprTree) → ((k : ℕ) (d : Data) (s : Store) → TouchesTell (taking g rest k d s).touches)
          → (k : ℕ) (left : Data) (v : ℤ) (s : Store) (seen : List Seen) (r : Result Cell ℕ) → AllTold P seen → TouchesTell (into_item k left v seen r (λ m c. taking g rest m left (put c (Number v) s))).touches
      item_tells rest more k left v s seen (Err fault) a = numbered_tells (turns_of scope) k seen a
      item_tells rest more k left v s seen (Ok c) a =
          each_append (TouchTells t (turns_of scope)) (numbered k seen ++ write_touch c (Number v) (number_behind k seen) ∷ []) (taking g rest (suc (number_behind k seen)) left (put c (Number v) s)).touches
          (each_append (TouchTells t (turns_of scope)) (numbered k seen) (write_touch c (Number v) (number_behind k seen) ∷ []) (numbered_tells (turns_of scope) k seen a) (write_tells (turns_of scope) c (Number v) (number_behind k seen)))
          (more (suc (number_behind k seen)) left (put c (Number v) s))

      taken_tells : (rest : List ExprTree) → ((k : ℕ) (d : Data) (s : Store) → TouchesTell (taking g rest k d s).touches) → (item : ExprTree) (k : ℕ) (d : Data) (s : Store) (r : Result Taken ℕ)
          → TouchesTell (with_taken d r (λ v left. into_item k left v (target g item s).seen (target g item s).result λ m c. taking g rest m left (put c (Number v) s))).touches
      taken_tells rest more item k d s (Err fault) = each_none (TouchTells t (turns_of scope))
      taken_tells rest more item k d s (Ok taken) = item_tells rest more k taken.behind taken.value s (target g item s).seen (target g item s).result (target_told P g tells item s)

      taking_tells : (items : List ExprTree) (k : ℕ) (d : Data) (s : Store) → TouchesTell (taking g items k d s).touches
      taking_tells [] k d s = each_none (TouchTells t (turns_of scope))
      taking_tells (item ∷ rest) k d s = taken_tells rest (taking_tells rest) item k d s (next_value_of d)

      from_tells : (items : List ExprTree) (b : Result Data ℕ) (s : Store) → TouchesTell (taking_from g items b s).touches
      from_tells items (Ok d) s = taking_tells items 2 d s
      from_tells items (Err fault) s = each_none (TouchTells t (turns_of scope))

      reading_tells : (items : List ExprTree) (s : Store) → TouchesTell (reading_touches (reading g items s) s)
      reading_tells items s =
          let r = reading g items s in
          each_more (TouchTells t (turns_of scope)) (read_touch In (s In) 0) (write_touch In (Lines r.left.lines) 1 ∷ r.touches) tt
          (each_more (TouchTells t (turns_of scope)) (write_touch In (Lines r.left.lines) 1) r.touches tt (from_tells items (begun (lines_in (s In))) s))

      read_tells : (items : List ExprTree) (s : Store) (fault : Option ℕ) → Each (ActTells t) (run_taking at (reading g items s) fault s).acts
      read_tells items s None = each_more (ActTells t) (act did at (reading_touches (reading g items s) s)) [] (reading_tells items s) (each_none (ActTells t))
      read_tells items s (Some k) = each_more (ActTells t) (act faulted at (reading_touches (reading g items s) s)) [] (reading_tells items s) (each_none (ActTells t))

  part_tells : (f h : Store → Run) → ((u : Store) → Each (ActTells t) (f u).acts) → ((u : Store) → Each (ActTells t) (h u).acts) → (b : Bool) (u : Store) → Each (ActTells t) ((if b then f else h) u).acts
  part_tells f h k l true u = k u
  part_tells f h k l false u = l u

  mutual
    run_tells : (s : StmtTree) (n : ℕ) (scope : Scope) (u : Store) → Stand t n (statements_of s) → HaveCopies scope (loop_variables s) → TellsIndices t scope → Each (ActTells t) (run Own s n scope u).acts
    run_tells (Assign left right) n scope u w copies tells =
        let e = assigned (names_in Own scope) left right u in
        let a = numbered_tells (turns_of scope) 1 e.seen (assigned_told (IsIndexAt t (turns_of scope)) (names_in Own scope) tells left right u) in
        on_each (ActTells t) (λ x. Unit {0}) (place_of Own n scope) e.seen e.result _ (any_result e.result) a
        (λ x o. each_more (ActTells t) _ [] (each_append (TouchTells t (turns_of scope)) (numbered 1 e.seen) (write_touch x.cell (Number x.number) (number_behind 1 e.seen) ∷ []) a (write_tells (turns_of scope) x.cell (Number x.number) (number_behind 1 e.seen))) (each_none (ActTells t)))
    run_tells (If c a b) n scope u w copies tells =
        let e = truth (names_in Own scope) c u in
        let told = numbered_tells (turns_of scope) 1 e.seen (truth_told (IsIndexAt t (turns_of scope)) (names_in Own scope) tells c u) in
        let rest = stand_rest t n 1 (If c a b ∷ []) (all_numbered a ++ all_numbered b) refl w in
        on_each (ActTells t) (λ x. Unit {0}) (place_of Own n scope) e.seen e.result _ (any_result e.result) told
        (λ holds o. does_each (ActTells t) did (place_of Own n scope) (numbered 1 e.seen) (if holds then run_all Own a (n + 1) scope else run_all Own b (n + 1 + statements_count a) scope) u told
        (part_tells (run_all Own a (n + 1) scope) (run_all Own b (n + 1 + statements_count a) scope)
        (λ v. all_tell a (n + 1) scope v (stand_first t (n + 1) (all_numbered a) (all_numbered b) rest) (λ x i. copies x (first_names x (all_loop_variables a) (all_loop_variables b) i)) tells)
        (λ v. all_tell b (n + 1 + statements_count a) scope v (stand_rest t (n + 1) (statements_count a) (all_numbered a) (all_numbered b) (sym (length-all_numbered a)) rest) (λ x i. copies x (second_names x (all_loop_variables a) (all_loop_variables b) i)) tells)
        holds))
    run_tells (Do h body) n scope u w copies tells =
        let l = limits (names_in Own scope) h u in
        let told = numbered_tells (turns_of scope) 1 l.seen (limits_told (IsIndexAt t (turns_of scope)) (names_in Own scope) tells h u) in
        let names : HaveCopies scope (all_loop_variables body) = λ x i. copies x (or_right (is_same_text x h.variable) (is_among x (all_loop_variables body)) i) in
        let own : HasCopies scope h.variable = copies h.variable (or_left (is_same_text h.variable h.variable) (is_among h.variable (all_loop_variables body)) (text_itself h.variable)) in
        let stands : statement_with n t ≡ Some (Do h body) = ap (λ (m : ℕ). statement_with m t) (omega arith) ∙ w 0 (Do h body) refl in
        on_each (ActTells t) (λ x. Unit {0}) (place_of Own n scope) l.seen l.result _ (any_result l.result) told
        (λ bounds o.
        let e = entered_with Own n h body l.seen bounds in
        does_each (ActTells t) (entered e.count) (place_of Own n scope) (numbered 1 l.seen ++ exit_when_none e.count e scope) (run_entered h.parallel e.count e scope (place_of Own n scope) (λ f. run_all Own body (n + 1) (f ∷ scope))) u
        (each_append (TouchTells t (turns_of scope)) (numbered 1 l.seen) (exit_when_none e.count e scope) told (exit_when_tells scope n e.count e))
        (entered_tells scope n e (λ f. run_all Own body (n + 1) (f ∷ scope))
        (λ k v. all_tell body (n + 1) (frame e k ∷ scope) v (stand_rest t n 1 (Do h body ∷ []) (all_numbered body) refl w) (body_copies scope e k body refl names)
        (tells_more t (frame e k) scope h body stands refl ((λ q. variable_copied e h.parallel q), own) tells))
        h.parallel e.count))
    run_tells (Print items) n scope u w copies tells =
        let e = printed_line (names_in Own scope) items u in
        let a = numbered_tells (turns_of scope) 1 e.seen (line_told (IsIndexAt t (turns_of scope)) (names_in Own scope) tells items u) in
        on_each (ActTells t) (λ x. Unit {0}) (place_of Own n scope) e.seen e.result _ (any_result e.result) a
        (λ line o. each_more (ActTells t) _ [] (each_append (TouchTells t (turns_of scope)) (numbered 1 e.seen) (read_touch Out (u Out) 0 ∷ (write_touch Out (Lines (lines_in (u Out) ++ line ∷ [])) (number_behind 1 e.seen) ∷ [])) a
        (each_more (TouchTells t (turns_of scope)) (read_touch Out (u Out) 0) (write_touch Out (Lines (lines_in (u Out) ++ line ∷ [])) (number_behind 1 e.seen) ∷ []) tt (write_tells (turns_of scope) Out (Lines (lines_in (u Out) ++ line ∷ [])) (number_behind 1 e.seen)))) (each_none (ActTells t)))
    run_tells (Read items) n scope u w copies tells = read_tells scope n tells items u (reading (names_in Own scope) items u).fault
    run_tells Stop n scope u w copies tells = each_more (ActTells t) (act did (place_of Own n scope) []) [] (each_none (TouchTells t (turns_of scope))) (each_none (ActTells t))
    run_tells (Comment text) n scope u w copies tells = each_none (ActTells t)

    all_tell : (ss : StmtTrees) (n : ℕ) (scope : Scope) (u : Store) → Stand t n (all_numbered ss) → HaveCopies scope (all_loop_variables ss) → TellsIndices t scope → Each (ActTells t) (run_all Own ss n scope u).acts
    all_tell no_stmts n scope u w copies tells = each_none (ActTells t)
    all_tell (more_stmts s rest) n scope u w copies tells =
        then_each (ActTells t) (run Own s n scope u) (run_all Own rest (n + statement_count s) scope)
        (run_tells s n scope u (stand_first t n (statements_of s) (all_numbered rest) w) (λ x i. copies x (first_names x (loop_variables s) (all_loop_variables rest) i)) tells)
        (λ v. all_tell rest (n + statement_count s) scope v (stand_rest t n (statement_count s) (statements_of s) (all_numbered rest) (sym (length-numbered s)) w) (λ x i. copies x (second_names x (loop_variables s) (all_loop_variables rest) i)) tells)

-- so it is in the run of a program
pub program_tells : (t : ProgramTree) (s : Store) → Each (ActTells t) (run_all (setting_of t) t.body 1 [] s).acts
program_tells t s = all_tell t t.body 1 [] s (all_stand t) (λ x i. tt) (tells_none t)
