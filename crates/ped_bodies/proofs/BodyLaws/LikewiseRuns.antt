-- Rewritten statements do likewise, at the other place, what the old ones did.
use Rattle.std.proofs.Common.{◌≡◌, ℕ, zero, suc, ◌+◌, ◌<◌, ◌≤◌, ℤ, List, [], ◌∷◌, ◌++◌, map, Bool, true, false, Option, Some, None, Result, Ok, Err, inl, refl, sym, ap, subst, ◌∙◌, arith, append-nil, if◌then◌else◌}
use Rattle.std.specs.Prelude.{◌==◌, ◌||◌}
use Rattle.std.specs.List.{flat_map}
use Rattle.std.proofs.lemmas.List.Folds.{list_any-append}
use Rattle.ped_steps.specs.ped_flow.specs.ped_base.specs.Lists.{is_same_text, is_among}
use Rattle.ped_steps.specs.ped_flow.specs.ped_base.proofs.NameEquality.{same_is}
use Rattle.ped_steps.specs.ped_flow.specs.ped_tree.specs.Tree.{ExprTree, ExprTrees, Var, CondTree, ItemTree, Head, StmtTree, StmtTrees, Assign, If, Do, Print, Read, Stop, Comment, no_stmts, more_stmts}
use Rattle.ped_steps.specs.ped_flow.specs.ped_tree.specs.NamesIn.{expr_names, cond_names, item_names, head_names, stmt_names, stmts_names}
use Rattle.ped_steps.specs.ped_flow.specs.ped_tree.specs.Numbering.{statement_count, statements_count}
use Rattle.ped_steps.specs.ped_affine.specs.Assigned.{assigned_left, assigned_in, assigned_in_all}
use Rattle.ped_steps.specs.ped_store.specs.Cells.{Cell, Out}
use Rattle.ped_steps.specs.ped_store.specs.Stores.{Undefined, Number, Lines, Store, lines_in}
use Rattle.ped_steps.specs.ped_store.specs.Acts.{Turn, Touch, Place, Step, did, entered, ended_turn, closed, Act, store_behind}
use Rattle.ped_steps.specs.ped_eval.specs.Scopes.{Setting, Frame, Scope, turns_of, cell_of, Names, names_in, place_of}
use Rattle.ped_steps.specs.ped_eval.specs.Evaluation.{Seen, Evaluated, numbered, number_behind}
use Rattle.ped_steps.specs.ped_eval.specs.Values.{value, truth}
use Rattle.ped_steps.specs.ped_eval.specs.Statements.{assigned, assignment_touches, printed_line, print_touches, read_touch, write_touch, reading, reading_touches}
use Rattle.ped_steps.specs.ped_eval.specs.Loops.{Limits, limits, increment, iteration_count, inner_variables, Entered, entered_with, frame, left_in_variable, undefined_by, undefined_all, exit_touches, exit_when_none, entry_touches}
use Rattle.ped_steps.specs.ped_flow.specs.ped_tree.specs.NamesIn.{loop_variables, all_loop_variables}
use Rattle.ped_steps.specs.ped_eval.specs.Runs.{Ending, going, stopped, failed, Run, nothing_done, followed_by, then_run, does, on, run_taking, turns, parallel_turns, run_entered, run_from_entry, run, run_all}
use Rattle.ped_steps.specs.ped_laws.specs.Runs.Replaying.{Finish, goes_on, stops, finish_of, has_fault, act, Replays}
use Rattle.ped_steps.specs.ped_laws.proofs.FlowRunLaws.Names.{sorted_among}
use Rattle.ped_steps.specs.ped_laws.proofs.RunLaws.Told.{found_reads_first, replays_behind, replays_stopped, replays_act, replays_on}
use Rattle.ped_steps.specs.ped_laws.proofs.RunLaws.Joined.{replays_nothing, assignment_does, print_does, stop_does, condition_part}
use Rattle.ped_steps.specs.Runs.Pasting.{AgreeInBounds}
use Rattle.ped_steps.specs.Runs.Renumbering.{renumbered_turn}
use Rattle.ped_bodies.specs.Rewriting.{IsRewriting, condition_rewritten, item_rewritten, head_rewritten, statement_rewritten, statements_rewritten, OfHeads, OfAllHeads, KeepsIncrement}
use Rattle.ped_bodies.specs.Likewise.{NamesScalars, ComesLikewise, IsLikewise, DoesLikewise}
use Rattle.ped_bodies.specs.Standing.{EvaluateLikewise, StandLikewise, CountBy, StandRewritten, GoLikewise}
use Rattle.ped_bodies.proofs.BodyLaws.Corresponding.{Alike, alike_append, read_meets, write_meets}
use Rattle.ped_bodies.proofs.BodyLaws.LikewiseActs.{likewise_append}
use Rattle.ped_bodies.proofs.BodyLaws.LikewiseSight.{Within, within_parts, within_first, among_first, among_rest, among_itself, among_more, value_match, truth_match, assigned_match, line_match, limits_match}
use Rattle.ped_bodies.proofs.BodyLaws.LikewiseReads.{read_alike}
use Rattle.ped_bodies.proofs.BodyLaws.LikewisePlaces.{count_kept, counts_kept, inner_kept, increment_kept, evaluating, renumbered_frame, deeper, acts_outside}

-- the names of a DO: its variable, those in its bounds, its PRIVATE names and those of its body
pub record DoWithin (names : List (List ℕ)) (d : Head) (body : StmtTrees) : Type 0 where
  pub variable : is_among d.variable names ≡ true
  pub first : Within names (expr_names d.first)
  pub last : Within names (expr_names d.last)
  pub private : Within names d.private
  pub inside : Within names (stmts_names body)

do_within : (names : List (List ℕ)) (d : Head) (body : StmtTrees) → Within names (stmt_names (Do d body)) → DoWithin names d body
do_within names d body h =
    let first : List (List ℕ) = expr_names d.first in
    let last : List (List ℕ) = expr_names d.last in
    let step : List (List ℕ) = expr_names d.step in
    let whole = within_parts names (head_names d) (stmts_names body) h in
    let own = within_parts names d.rejected (d.variable ∷ (first ++ last ++ step ++ d.private)) whole.0 in
    let declared = within_first names d.variable (first ++ last ++ step ++ d.private) own.1 in
    let computed = within_parts names (first ++ last ++ step) d.private declared.1 in
    let bounds = within_parts names (first ++ last) step computed.0 in
    let each = within_parts names first last bounds.0 in
    record { variable = declared.0; first = each.0; last = each.1; private = computed.1; inside = whole.1 }

-- names of DO variables are names of the statements
module _ (names : List (List ℕ)) where
  within_both : (xs ys : List (List ℕ)) → Within names xs → Within names ys → Within names (xs ++ ys)
  within_both xs ys h k x e = go (is_among x xs) (is_among x ys) (h x) (k x) (sym (list_any-append (is_same_text x) xs ys) ∙ e)
    where
      go : (a b : Bool) → (a ≡ true → is_among x names ≡ true) → (b ≡ true → is_among x names ≡ true) → a || b ≡ true → is_among x names ≡ true
      go true b f g r = f refl
      go false b f g r = g r

  within_more : (x : List ℕ) (xs : List (List ℕ)) → is_among x names ≡ true → Within names xs → Within names (x ∷ xs)
  within_more x xs h k y e = go (is_same_text y x) refl e
    where
      go : (b : Bool) → is_same_text y x ≡ b → b || is_among y xs ≡ true → is_among y names ≡ true
      go true same r = let is = same_is y x same in subst (λ (w : List ℕ). is_among w names ≡ true) (sym is) h
      go false same r = k y r

  mutual
    index_within : (t : StmtTree) → Within names (stmt_names t) → Within names (loop_variables t)
    index_within (Assign left right) h = λ x e. absurd cc
    index_within (If c a b) h =
        let whole = within_parts names (cond_names c ++ stmts_names a) (stmts_names b) h in
        within_both (all_loop_variables a) (all_loop_variables b) (indices_within a (within_parts names (cond_names c) (stmts_names a) whole.0).1) (indices_within b whole.1)
    index_within (Do d body) h =
        let among = do_within names d body h in
        within_more d.variable (all_loop_variables body) among.variable (indices_within body among.inside)
    index_within (Print items) h = λ x e. absurd cc
    index_within (Read items) h = λ x e. absurd cc
    index_within Stop h = λ x e. absurd cc
    index_within (Comment text) h = λ x e. absurd cc

    indices_within : (ts : StmtTrees) → Within names (stmts_names ts) → Within names (all_loop_variables ts)
    indices_within no_stmts h = λ x e. absurd cc
    indices_within (more_stmts t rest) h =
        let each = within_parts names (stmt_names t) (stmts_names rest) h in
        within_both (loop_variables t) (all_loop_variables rest) (index_within t each.0) (indices_within rest each.1)

  inner_within : (b : Bool) (body : StmtTrees) → Within names (stmts_names body) → Within names (inner_variables b body)
  inner_within true body h = λ x e. indices_within body h x (sym (sorted_among x (all_loop_variables body)) ∙ e)
  inner_within false body h = λ x e. absurd cc

-- statements from two numbers on count by the new numbers
module _ (f : ℕ → ℕ) (p q : Setting) where
  first_by : (count n m : ℕ) → 0 < count → CountBy f p q n m count → q.number m ≡ f (p.number n)
  first_by count n m h by = ap q.number (omega arith) ∙ by 0 h ∙ ap (λ (j : ℕ). f (p.number j)) (omega arith)

  part_by : (count n m part j start other : ℕ) → start ≡ n + j → other ≡ m + j → j + part ≤ count → CountBy f p q n m count → CountBy f p q start other part
  part_by count n m part j start other e r h by k l = ap q.number (omega (arith, r)) ∙ by (j + k) (omega (arith, h, l)) ∙ ap (λ (i : ℕ). f (p.number i)) (omega (arith, e))

module _ (name : Cell → Cell) (idle : Cell → Bool) (f : ℕ → ℕ) where
  module _ (T O : List Turn) where
    -- what was done without a fault a piece does likewise, and ends alike
    abbrev pub GoesLikewise : Run → (Store → Run) → Type 0
    GoesLikewise r piece = has_fault (finish_of r.ending) ≡ false → DoesLikewise name idle f T O r.acts (finish_of r.ending) piece

    abbrev pub Follow : (Store → Run) → (Store → Run) → Type 0
    Follow old piece = (s : Store) → GoesLikewise (old s) piece

    nothing_follow : Follow nothing_done nothing_done
    nothing_follow s e = record { fresh = []; likewise = tt; replays = replays_nothing }

    followed_follow : (acts : List Act) (e : Ending) (next piece others : Store → Run) → (has_fault (finish_of e) ≡ false → DoesLikewise name idle f T O acts (finish_of e) piece) → Follow next others → GoesLikewise (followed_by acts e next) (λ s. then_run (piece s) others)
    followed_follow acts (going u) next piece others h more = λ k.
        let a = h refl in
        let b = more u k in
        record {
          fresh = a.fresh ++ b.fresh;
          likewise = likewise_append name idle f T O acts a.fresh (next u).acts b.fresh a.likewise b.likewise;
          replays = replays_behind piece others a.fresh b.fresh (finish_of (next u).ending) a.replays b.replays;
        }
    followed_follow acts (stopped u) next piece others h more = λ k.
        let a = h refl in
        record { fresh = a.fresh; likewise = a.likewise; replays = replays_stopped piece others a.fresh a.replays }
    followed_follow acts (failed fault statement) next piece others h more = λ k. absurd cc

    then_follow : (old next piece others : Store → Run) → Follow old piece → Follow next others → Follow (λ s. then_run (old s) next) (λ s. then_run (piece s) others)
    then_follow old next piece others h k s = followed_follow (old s).acts (old s).ending next piece others (h s) k

    does_follow : (step : Step) (at there : Place) (ts us : List Touch) (next others : Store → Run) (s : Store) → IsLikewise name idle f T O (act step at ts) (act step there us) → Follow next others → GoesLikewise (does step at ts next s) (does step there us others)
    does_follow step at there ts us next others s alike more = λ k.
        let b = more (store_behind ts s) k in
        record {
          fresh = act step there us ∷ b.fresh;
          likewise = (alike, b.likewise);
          replays = replays_act step there us others b.fresh (finish_of (next (store_behind ts s)).ending) b.replays;
        }

    on_follow : {A : Type 0} (at : Place) (e : Evaluated A) (next : List Seen → A → Run) (piece : Store → Run) → ((a : A) → e.result ≡ Ok a → GoesLikewise (next e.seen a) piece) → GoesLikewise (on at e next) piece
    on_follow {A} at e next piece more = go e.result refl
      where
        go : (r : Result A ℕ) → e.result ≡ r → GoesLikewise (on at (record { seen = e.seen; result = r }) next) piece
        go (Ok a) is = more a is
        go (Err n) is = λ k. absurd cc

    chosen_follow : (b : Bool) (old next piece others : Store → Run) → Follow old piece → Follow next others → Follow (if b then old else next) (if b then piece else others)
    chosen_follow true old next piece others h k = h
    chosen_follow false old next piece others h k = k

    -- the turns of a DO and of the one that corresponds
    module _ (e z : Entered) (scope other : Scope) (at there : Place) (exits : Alike name idle (exit_touches e scope) (exit_touches z other)) (likewise : (step : Step) (ts us : List Touch) → Alike name idle ts us → IsLikewise name idle f T O (act step at ts) (act step there us)) where
      when_alike : (n : ℕ) → Alike name idle (exit_when_none n e scope) (exit_when_none n z other)
      when_alike n = go (n == 0)
        where
          go : (b : Bool) → Alike name idle (if b then exit_touches e scope else []) (if b then exit_touches z other else [])
          go true = exits
          go false = tt

      module _ (body piece : Frame → Store → Run) (more : (k : ℕ) → Follow (body (frame e k)) (piece (frame z k))) where
        turns_follow : (n k : ℕ) → Follow (turns n k e scope at body) (turns n k z other there piece)
        turns_follow zero k = nothing_follow
        turns_follow (suc n) k =
            then_follow (body (frame e k)) (does (ended_turn n) at (exit_when_none n e scope) (turns n (k + 1) e scope at body)) (piece (frame z k)) (does (ended_turn n) there (exit_when_none n z other) (turns n (k + 1) z other there piece)) (more k)
            (λ s. does_follow (ended_turn n) at there (exit_when_none n e scope) (exit_when_none n z other) (turns n (k + 1) e scope at body) (turns n (k + 1) z other there piece) s
            (likewise (ended_turn n) (exit_when_none n e scope) (exit_when_none n z other) (when_alike n)) (turns_follow n (k + 1)))

        parallel_follow : (n k : ℕ) → Follow (parallel_turns n k e body) (parallel_turns n k z piece)
        parallel_follow zero k = nothing_follow
        parallel_follow (suc n) k = then_follow (body (frame e k)) (parallel_turns n (k + 1) e body) (piece (frame z k)) (parallel_turns n (k + 1) z piece) (more k) (parallel_follow n (k + 1))

        entered_follow : (b : Bool) (count : ℕ) → Follow (run_entered b count e scope at body) (run_entered b count z other there piece)
        entered_follow b zero = nothing_follow
        entered_follow false (suc n) = turns_follow (suc n) 1
        entered_follow true (suc n) =
            then_follow (parallel_turns (suc n) 1 e body) (does closed at (exit_touches e scope) nothing_done) (parallel_turns (suc n) 1 z piece) (does closed there (exit_touches z other) nothing_done) (parallel_follow (suc n) 1)
            (λ s. does_follow closed at there (exit_touches e scope) (exit_touches z other) nothing_done nothing_done s (likewise closed (exit_touches e scope) (exit_touches z other) exits) nothing_follow)

  -- what is done likewise in an iteration is done likewise round it
  outside_follow : (T O : List Turn) (t : Turn) (old piece : Store → Run) → Follow (T ++ t ∷ []) (O ++ renumbered_turn f t ∷ []) old piece → Follow T O old piece
  outside_follow T O t old piece h s e =
      let d = h s e in
      record { fresh = d.fresh; likewise = acts_outside name idle f T O t (old s).acts d.fresh d.likewise; replays = d.replays }

module _ (name : Cell → Cell) (idle : Cell → Bool) (laws : NamesScalars name) (h : ExprTree → ExprTree) (hs : ExprTrees → ExprTrees) (parts : IsRewriting h hs) (p q : Setting) (constants : p.constants ≡ q.constants)
    (names loops : List (List ℕ)) (bounds : AgreeInBounds p.bounds q.bounds names) (f : ℕ → ℕ) where
  -- names, DO variables and assigned names of a part lie among those of the whole
  pub record LieInside (xs ls ws : List (List ℕ)) : Type 0 where
    pub among : Within names xs
    pub indices : Within loops ls
    pub kept : (x : List ℕ) → is_among x ws ≡ true → h (Var x) ≡ Var x

  kept_first : (ws us : List (List ℕ)) → ((x : List ℕ) → is_among x (ws ++ us) ≡ true → h (Var x) ≡ Var x) → (x : List ℕ) → is_among x ws ≡ true → h (Var x) ≡ Var x
  kept_first ws us k x e = k x (among_first x ws us e)

  kept_rest : (ws us : List (List ℕ)) → ((x : List ℕ) → is_among x (ws ++ us) ≡ true → h (Var x) ≡ Var x) → (x : List ℕ) → is_among x us ≡ true → h (Var x) ≡ Var x
  kept_rest ws us k x e = k x (among_rest x ws us e)

  lie_parts : (xs ys ls ks ws us : List (List ℕ)) → LieInside (xs ++ ys) (ls ++ ks) (ws ++ us) → LieInside xs ls ws × LieInside ys ks us
  lie_parts xs ys ls ks ws us inside =
      let n = within_parts names xs ys inside.among in
      let l = within_parts loops ls ks inside.indices in
      (record { among = n.0; indices = l.0; kept = kept_first ws us inside.kept }, record { among = n.1; indices = l.1; kept = kept_rest ws us inside.kept })

  module _ (scope other : Scope) (at : StandLikewise h name idle f q names loops scope other) (n m : ℕ) (number : q.number m ≡ f (p.number n)) where
    evaluate : EvaluateLikewise h name idle q names scope other
    evaluate = evaluating h name idle f q names loops scope other at

    abbrev T : List Turn
    T = turns_of scope

    abbrev O : List Turn
    O = turns_of other

    abbrev g : Names
    g = names_in p scope

    abbrev here : Place
    here = place_of p n scope

    abbrev there : Place
    there = place_of q m other

    act_likewise : (step : Step) (ts us : List Touch) → Alike name idle ts us → IsLikewise name idle f T O (act step here ts) (act step there us)
    act_likewise step ts us alike = record { step = refl; statement = number; more = []; old = sym (append-nil T); new = sym (append-nil O); touches = alike }

    -- one act
    one_act : (ts us : List Touch) (finish : Finish) (piece : Store → Run) → Alike name idle ts us → Replays piece (act did there us ∷ []) finish → DoesLikewise name idle f T O (act did here ts ∷ []) finish piece
    one_act ts us finish piece alike replays = record { fresh = act did there us ∷ []; likewise = (act_likewise did ts us alike, tt); replays = replays }

    assignment_follow : (left right : ExprTree) → Within names (expr_names left ++ expr_names right) → ((x : List ℕ) → is_among x (assigned_left left) ≡ true → h (Var x) ≡ Var x)
        → Follow name idle f T O (run p (Assign left right) n scope) (run q (Assign (h left) (h right)) m other)
    assignment_follow left right among kept s =
        on_follow name idle f T O here (assigned g left right s) (λ seen w. does did here (assignment_touches seen w) nothing_done s) (run q (Assign (h left) (h right)) m other)
        (λ w is k.
        let t = assigned_match name idle laws h hs parts p q constants names bounds scope other evaluate left right s among kept w is in
        let old = (assigned g left right s).seen in
        one_act (assignment_touches old w) (assignment_touches t.2.seen t.0) goes_on (run q (Assign (h left) (h right)) m other)
        (alike_append name idle (numbered 1 old) (numbered 1 t.2.seen) (write_touch w.cell (Number w.number) (number_behind 1 old) ∷ []) (write_touch t.0.cell (Number t.0.number) (number_behind 1 t.2.seen) ∷ []) (t.2.alike.touches 1)
        (record { manner = refl; reference = t.2.alike.behind 1; content = ap Number t.1.number; cells = t.1.meet }, tt))
        (assignment_does q (h left) (h right) m other t.2.seen t.0 t.2.comes))

    print_follow : (items : List ItemTree) → Within names (flat_map item_names items) → Follow name idle f T O (run p (Print items) n scope) (run q (Print (map (item_rewritten h) items)) m other)
    print_follow items among s =
        on_follow name idle f T O here (printed_line g items s) (λ seen line. does did here (print_touches seen line s) nothing_done s) (run q (Print (map (item_rewritten h) items)) m other)
        (λ line is k.
        let t = line_match name idle laws h hs parts p q constants names bounds scope other evaluate items s among line is in
        let old = (printed_line g items s).seen in
        one_act (print_touches old line s) (print_touches t.2.seen t.0 s) goes_on (run q (Print (map (item_rewritten h) items)) m other)
        (alike_append name idle (numbered 1 old) (numbered 1 t.2.seen)
        (read_touch Out (s Out) 0 ∷ write_touch Out (Lines (lines_in (s Out) ++ line ∷ [])) (number_behind 1 old) ∷ []) (read_touch Out (s Out) 0 ∷ write_touch Out (Lines (lines_in (s Out) ++ t.0 ∷ [])) (number_behind 1 t.2.seen) ∷ []) (t.2.alike.touches 1)
        (read_meets name idle Out Out (s Out) 0 (inl (sym laws.output)), (record { manner = refl; reference = t.2.alike.behind 1; content = ap (λ (w : List ℕ). Lines (lines_in (s Out) ++ w ∷ [])) t.1; cells = inl (sym laws.output) }, tt)))
        (print_does q (map (item_rewritten h) items) m other t.2.seen t.0 s t.2.comes))

    read_follow : (items : List ExprTree) → Within names (flat_map expr_names items) → ((x : List ℕ) → is_among x (flat_map assigned_left items) ≡ true → h (Var x) ≡ Var x) → Follow name idle f T O (run p (Read items) n scope) (run q (Read (map h items)) m other)
    read_follow items among kept s = go (reading g items s).fault refl
      where
        go : (o : Option ℕ) → (reading g items s).fault ≡ o → GoesLikewise name idle f T O (run_taking here (reading g items s) o s) (run q (Read (map h items)) m other)
        go None e = λ k.
            let r = read_alike name idle laws h hs parts p q constants names bounds scope other evaluate items among kept s e there in
            one_act (reading_touches (reading g items s) s) r.touches goes_on (run q (Read (map h items)) m other) r.alike r.replays
        go (Some fault) e = λ k. absurd cc

    stop_follow : Follow name idle f T O (run p Stop n scope) (run q Stop m other)
    stop_follow s k = one_act [] [] stops (run q Stop m other) tt (stop_does q m other)

    module _ (c : CondTree) (a b : StmtTrees) where
      abbrev old_first : Store → Run
      old_first = run_all p a (n + 1) scope

      abbrev old_second : Store → Run
      old_second = run_all p b (n + 1 + statements_count a) scope

      abbrev new_first : Store → Run
      new_first = run_all q (statements_rewritten h a) (m + 1) other

      abbrev new_second : Store → Run
      new_second = run_all q (statements_rewritten h b) (m + 1 + statements_count (statements_rewritten h a)) other

      if_follow : Within names (cond_names c) → Follow name idle f T O old_first new_first → Follow name idle f T O old_second new_second
          → Follow name idle f T O (run p (If c a b) n scope) (run q (If (condition_rewritten h c) (statements_rewritten h a) (statements_rewritten h b)) m other)
      if_follow among first second s =
          on_follow name idle f T O here (truth g c s) (λ seen holds. does did here (numbered 1 seen) (if holds then old_first else old_second) s) (run q (If (condition_rewritten h c) (statements_rewritten h a) (statements_rewritten h b)) m other)
          (λ holds is k.
          let t = truth_match name idle laws h hs parts p q constants names bounds scope other evaluate c s among holds is in
          let old = (truth g c s).seen in
          let d = chosen_follow name idle f T O holds old_first old_second new_first new_second first second (store_behind (numbered 1 old) s) k in
          let finish = finish_of ((if holds then old_first else old_second) (store_behind (numbered 1 old) s)).ending in
          record {
            fresh = act did there (numbered 1 t.2.seen) ∷ d.fresh;
            likewise = (act_likewise did (numbered 1 old) (numbered 1 t.2.seen) (t.2.alike.touches 1), d.likewise);
            replays = condition_part q (condition_rewritten h c) (statements_rewritten h a) (statements_rewritten h b) m other t.2.seen t.0 d.fresh finish t.2.comes
                (subst (λ (w : Bool). Replays (if w then new_first else new_second) d.fresh finish) (sym t.1) d.replays);
          })

    -- names that become undefined
    undefined_alike : (j : ℕ) (xs : List (List ℕ)) → Within names xs → Alike name idle (undefined_by scope j xs) (undefined_by other j xs)
    undefined_alike j [] among = tt
    undefined_alike j (x ∷ xs) among =
        let each = within_first names x xs among in
        (write_meets name idle (cell_of scope x) (cell_of other x) Undefined j (at.cell x each.0), undefined_alike (suc j) xs each.1)

    undefined_all_alike : (xs : List (List ℕ)) → Within names xs → Alike name idle (undefined_all scope xs) (undefined_all other xs)
    undefined_all_alike [] among = tt
    undefined_all_alike (x ∷ xs) among =
        let each = within_first names x xs among in
        (write_meets name idle (cell_of scope x) (cell_of other x) Undefined 0 (at.cell x each.0), undefined_all_alike xs each.1)

    -- a DO
    module _ (d : Head) (body : StmtTrees) (increments : KeepsIncrement h p.constants d) (among : DoWithin names d body) where
      module _ (seen : List Seen) (l : Limits) where
        abbrev e : Entered
        e = entered_with p n d body seen l

        -- the rewritten DO, once it is entered
        abbrev z : Entered
        z = record {
          number = f (p.number n);
          head = head_rewritten h d;
          first = l.first;
          step = increment p.constants d;
          count = iteration_count l.first l.last (increment p.constants d);
          behind_bounds = number_behind 1 seen;
          inner = inner_variables d.parallel body;
        }

        entered_same : (others : List Seen) (r : Limits) → r ≡ l → number_behind 1 others ≡ number_behind 1 seen → entered_with q m (head_rewritten h d) (statements_rewritten h body) others r ≡ z
        entered_same others r is behind = λ i. record {
          number = number i;
          head = head_rewritten h d;
          first = (is i).first;
          step = steps i;
          count = iteration_count (is i).first (is i).last (steps i);
          behind_bounds = behind i;
          inner = inner_kept h d.parallel body i;
        }
          where
            steps : increment q.constants (head_rewritten h d) ≡ increment p.constants d
            steps = ap (λ (c : List (List ℕ × ℤ)). increment c (head_rewritten h d)) (sym constants) ∙ increment_kept h p.constants d increments

        exits_alike : Alike name idle (exit_touches e scope) (exit_touches z other)
        exits_alike = (
          write_meets name idle (cell_of scope d.variable) (cell_of other d.variable) (left_in_variable e) 0 (at.cell d.variable among.variable),
          alike_append name idle (undefined_by scope (number_behind 1 seen) d.private) (undefined_by other (number_behind 1 seen) d.private) (undefined_all scope (inner_variables d.parallel body)) (undefined_all other (inner_variables d.parallel body))
              (undefined_alike (number_behind 1 seen) d.private among.private) (undefined_all_alike (inner_variables d.parallel body) (inner_within names d.parallel body among.inside)),
        )

      abbrev old_body : Frame → Store → Run
      old_body r = run_all p body (n + 1) (r ∷ scope)

      abbrev new_body : Frame → Store → Run
      new_body r = run_all q (statements_rewritten h body) (m + 1) (r ∷ other)

      do_follow : (body_follow : (seen : List Seen) (l : Limits) (k : ℕ) → Follow name idle f T O (run_all p body (n + 1) (frame (e seen l) k ∷ scope)) (run_all q (statements_rewritten h body) (m + 1) (frame (z seen l) k ∷ other)))
          → Follow name idle f T O (run p (Do d body) n scope) (run q (Do (head_rewritten h d) (statements_rewritten h body)) m other)
      do_follow body_follow s =
          on_follow name idle f T O here (limits g d s) (λ seen l. run_from_entry seen (e seen l) scope here old_body s) (run q (Do (head_rewritten h d) (statements_rewritten h body)) m other)
          (λ l is k.
          let t = limits_match name idle laws h hs parts p q constants names bounds scope other evaluate d s among.first among.last l is in
          from_entry (limits g d s).seen l t.0 t.1 t.2 k)
        where
          from_entry : (seen : List Seen) (l r : Limits) → r ≡ l → ComesLikewise name idle seen (limits (names_in q other) (head_rewritten h d)) r
              → GoesLikewise name idle f T O (run_from_entry seen (e seen l) scope here old_body s) (run q (Do (head_rewritten h d) (statements_rewritten h body)) m other)
          from_entry seen l r is c k =
              let same = entered_same seen l c.seen r is (c.alike.behind 1) in
              let old = entry_touches seen (e seen l) scope in
              let new = entry_touches c.seen (z seen l) other in
              let inside = entered_follow name idle f T O (e seen l) (z seen l) scope other here there (exits_alike seen l) act_likewise old_body new_body (body_follow seen l) d.parallel (e seen l).count (store_behind old s) k in
              let finish = finish_of (run_entered d.parallel (e seen l).count (e seen l) scope here old_body (store_behind old s)).ending in
              let alike = alike_append name idle (numbered 1 seen) (numbered 1 c.seen) (exit_when_none (e seen l).count (e seen l) scope) (exit_when_none (e seen l).count (z seen l) other) (c.alike.touches 1)
              (when_alike name idle f T O (e seen l) (z seen l) scope other here there (exits_alike seen l) act_likewise (e seen l).count) in
              record {
                fresh = act (entered (e seen l).count) there new ∷ inside.fresh;
                likewise = (act_likewise (entered (e seen l).count) old new alike, inside.likewise);
                replays = replays_on there (limits (names_in q other) (head_rewritten h d)) (entered (e seen l).count)
                    (λ u others w. entry_touches others (entered_with q m (head_rewritten h d) (statements_rewritten h body) others w) other)
                    (λ others w. entered (entered_with q m (head_rewritten h d) (statements_rewritten h body) others w).count)
                    (λ others w. run_entered d.parallel (entered_with q m (head_rewritten h d) (statements_rewritten h body) others w).count (entered_with q m (head_rewritten h d) (statements_rewritten h body) others w) other there new_body)
                    c.seen r new inside.fresh finish c.comes (ap (λ (w : Entered). entered w.count) same)
                    (λ u found. (found_reads_first c.seen 1 _ u found, ap (λ (w : Entered). entry_touches c.seen w other) same))
                    (subst (λ (w : Entered). Replays (run_entered d.parallel w.count w other there new_body) inside.fresh finish) (sym same) inside.replays);
              }

  mutual
    run_follow : (t : StmtTree) (n m : ℕ) (scope other : Scope) → StandLikewise h name idle f q names loops scope other → LieInside (stmt_names t) (loop_variables t) (assigned_in t) → OfHeads (KeepsIncrement h p.constants) t
        → CountBy f p q n m (statement_count t) → Follow name idle f (turns_of scope) (turns_of other) (run p t n scope) (run q (statement_rewritten h t) m other)
    run_follow (Assign left right) n m scope other at inside increments by = assignment_follow scope other at n m (first_by f p q 1 n m (omega arith) by) left right inside.among inside.kept
    run_follow (If c a b) n m scope other at inside increments by =
        let count = statements_count a + statements_count b + 1 in
        let whole = within_parts names (cond_names c ++ stmts_names a) (stmts_names b) inside.among in
        let first = within_parts names (cond_names c) (stmts_names a) whole.0 in
        let indices = within_parts loops (all_loop_variables a) (all_loop_variables b) inside.indices in
        if_follow scope other at n m (first_by f p q count n m (omega arith) by) c a b first.0
        (all_follow a (n + 1) (m + 1) scope other at (record { among = first.1; indices = indices.0; kept = kept_first (assigned_in_all a) (assigned_in_all b) inside.kept }) increments.0
        (part_by f p q count n m (statements_count a) 1 (n + 1) (m + 1) refl refl (omega arith) by))
        (subst (λ (j : ℕ). Follow name idle f (turns_of scope) (turns_of other) (run_all p b (n + 1 + statements_count a) scope) (run_all q (statements_rewritten h b) (m + 1 + j) other)) (sym (counts_kept h a))
        (all_follow b (n + 1 + statements_count a) (m + 1 + statements_count a) scope other at (record { among = whole.1; indices = indices.1; kept = kept_rest (assigned_in_all a) (assigned_in_all b) inside.kept }) increments.1
        (part_by f p q count n m (statements_count b) (1 + statements_count a) (n + 1 + statements_count a) (m + 1 + statements_count a) (omega arith) (omega arith) (omega arith) by)))
    run_follow (Do d body) n m scope other at inside increments by =
        let count = statements_count body + 1 in
        let number = first_by f p q count n m (omega arith) by in
        let indices = within_first loops d.variable (all_loop_variables body) inside.indices in
        do_follow scope other at n m number d body increments.0 (do_within names d body inside.among)
        (λ seen l k. outside_follow name idle f (turns_of scope) (turns_of other) (frame (entered_with p n d body seen l) k).turn
        (run_all p body (n + 1) (frame (entered_with p n d body seen l) k ∷ scope)) (run_all q (statements_rewritten h body) (m + 1) (renumbered_frame f (frame (entered_with p n d body seen l) k) ∷ other))
        (all_follow body (n + 1) (m + 1) (frame (entered_with p n d body seen l) k ∷ scope) (renumbered_frame f (frame (entered_with p n d body seen l) k) ∷ other)
        (deeper h name idle f q names loops scope other at (frame (entered_with p n d body seen l) k) indices.0 (inside.kept d.variable (among_itself d.variable (d.private ++ assigned_in_all body))))
        (record {
          among = (do_within names d body inside.among).inside;
          indices = indices.1;
          kept = λ x w. inside.kept x (among_more x d.variable (d.private ++ assigned_in_all body) (among_rest x d.private (assigned_in_all body) w));
        })
        increments.1 (part_by f p q count n m (statements_count body) 1 (n + 1) (m + 1) refl refl (omega arith) by)))
    run_follow (Print items) n m scope other at inside increments by = print_follow scope other at n m (first_by f p q 1 n m (omega arith) by) items inside.among
    run_follow (Read items) n m scope other at inside increments by = read_follow scope other at n m (first_by f p q 1 n m (omega arith) by) items inside.among inside.kept
    run_follow Stop n m scope other at inside increments by = stop_follow scope other at n m (first_by f p q 1 n m (omega arith) by)
    run_follow (Comment text) n m scope other at inside increments by = nothing_follow name idle f (turns_of scope) (turns_of other)

    pub all_follow : (ts : StmtTrees) (n m : ℕ) (scope other : Scope) → StandLikewise h name idle f q names loops scope other → LieInside (stmts_names ts) (all_loop_variables ts) (assigned_in_all ts) → OfAllHeads (KeepsIncrement h p.constants) ts
        → CountBy f p q n m (statements_count ts) → Follow name idle f (turns_of scope) (turns_of other) (run_all p ts n scope) (run_all q (statements_rewritten h ts) m other)
    all_follow no_stmts n m scope other at inside increments by = nothing_follow name idle f (turns_of scope) (turns_of other)
    all_follow (more_stmts t rest) n m scope other at inside increments by =
        let count = statement_count t + statements_count rest in
        let each = lie_parts (stmt_names t) (stmts_names rest) (loop_variables t) (all_loop_variables rest) (assigned_in t) (assigned_in_all rest) inside in
        then_follow name idle f (turns_of scope) (turns_of other) (run p t n scope) (run_all p rest (n + statement_count t) scope) (run q (statement_rewritten h t) m other) (run_all q (statements_rewritten h rest) (m + statement_count (statement_rewritten h t)) other)
        (run_follow t n m scope other at each.0 increments.0 (part_by f p q count n m (statement_count t) 0 n m (omega arith) (omega arith) (omega arith) by))
        (subst (λ (j : ℕ). Follow name idle f (turns_of scope) (turns_of other) (run_all p rest (n + statement_count t) scope) (run_all q (statements_rewritten h rest) (m + j) other)) (sym (count_kept h t))
        (all_follow rest (n + statement_count t) (m + statement_count t) scope other at each.1 increments.1 (part_by f p q count n m (statements_count rest) (statement_count t) (n + statement_count t) (m + statement_count t) refl refl (omega arith) by)))

-- statements that stand rewritten at another place do likewise there what they did without a fault
pub do_likewise : (h : ExprTree → ExprTree) (hs : ExprTrees → ExprTrees) (name : Cell → Cell) (idle : Cell → Bool) (f : ℕ → ℕ) (p q : Setting) (ts : StmtTrees) (n m : ℕ) (scope other : Scope) → IsRewriting h hs → NamesScalars name → StandRewritten h name idle f p q ts n m scope other
    → (s : Store) → has_fault (finish_of (run_all p ts n scope s).ending) ≡ false → DoesLikewise name idle f (turns_of scope) (turns_of other) (run_all p ts n scope s).acts (finish_of (run_all p ts n scope s).ending) (run_all q (statements_rewritten h ts) m other)
do_likewise h hs name idle f p q ts n m scope other parts laws stand s =
    all_follow name idle laws h hs parts p q stand.agree.constants (stmts_names ts) (all_loop_variables ts) stand.agree.bounds f ts n m scope other stand.places
    (record { among = λ x e. e; indices = λ x e. e; kept = stand.may.kept }) stand.may.increments stand.agree.numbers s

-- the same of statements that go on
pub go_likewise : (h : ExprTree → ExprTree) (hs : ExprTrees → ExprTrees) (name : Cell → Cell) (idle : Cell → Bool) (f : ℕ → ℕ) (p q : Setting) (ts : StmtTrees) (n m : ℕ) (scope other : Scope) → IsRewriting h hs → NamesScalars name → StandRewritten h name idle f p q ts n m scope other
    → GoLikewise name idle f p q ts (statements_rewritten h ts) n m scope other
go_likewise h hs name idle f p q ts n m scope other parts laws stand s goes =
    subst (λ (finish : Finish). DoesLikewise name idle f (turns_of scope) (turns_of other) (run_all p ts n scope s).acts finish (run_all q (statements_rewritten h ts) m other)) goes
    (do_likewise h hs name idle f p q ts n m scope other parts laws stand s (ap has_fault goes))

-- expressions, and the bounds of a DO, by themselves
module _ (h : ExprTree → ExprTree) (hs : ExprTrees → ExprTrees) (name : Cell → Cell) (idle : Cell → Bool) (p q : Setting) (scope other : Scope) (parts : IsRewriting h hs) (laws : NamesScalars name) (constants : p.constants ≡ q.constants) where
  pub evaluated_likewise : (e : ExprTree) → AgreeInBounds p.bounds q.bounds (expr_names e) → EvaluateLikewise h name idle q (expr_names e) scope other → (s : Store) (v : ℤ) → (value (names_in p scope) e s).result ≡ Ok v
      → ComesLikewise name idle (value (names_in p scope) e s).seen (value (names_in q other) (h e)) v
  evaluated_likewise e bounds at s v is =
      let t = value_match name idle laws h hs parts p q constants (expr_names e) bounds scope other at e s (λ x among. among) v is in
      subst (λ (w : ℤ). ComesLikewise name idle (value (names_in p scope) e s).seen (value (names_in q other) (h e)) w) t.1 t.2

  pub limited_likewise : (d : Head) → AgreeInBounds p.bounds q.bounds (expr_names d.first ++ expr_names d.last) → EvaluateLikewise h name idle q (expr_names d.first ++ expr_names d.last) scope other → (s : Store) (l : Limits) → (limits (names_in p scope) d s).result ≡ Ok l
      → ComesLikewise name idle (limits (names_in p scope) d s).seen (limits (names_in q other) (head_rewritten h d)) l
  limited_likewise d bounds at s l is =
      let names : List (List ℕ) = expr_names d.first ++ expr_names d.last in
      let each = within_parts names (expr_names d.first) (expr_names d.last) (λ x among. among) in
      let t = limits_match name idle laws h hs parts p q constants names bounds scope other at d s each.0 each.1 l is in
      subst (λ (w : Limits). ComesLikewise name idle (limits (names_in p scope) d s).seen (limits (names_in q other) (head_rewritten h d)) w) t.1 t.2
