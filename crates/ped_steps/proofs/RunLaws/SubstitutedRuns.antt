-- Runs with an element in the place of a scalar.
use Rattle.std.proofs.Common.{◌≡◌, ℕ, zero, suc, ◌+◌, ℤ, pos, List, [], ◌∷◌, ◌++◌, map, Bool, true, false, Option, Some, None, Result, Ok, Err, refl, sym, ap, subst, ◌∙◌, if◌then◌else◌}
use Rattle.std.specs.Prelude.{◌==◌, ◌||◌}
use Rattle.std.specs.List.{flat_map}
use Rattle.std.specs.Option.{unwrap_or}
use Rattle.std.proofs.lemmas.List.Folds.{list_any-append}
use Rattle.std.proofs.lemmas.List.Concat.{flat_map-append}
use Rattle.std.proofs.lemmas.Bool.{both_ways, or_parts}
use Rattle.ped_base.specs.Lists.{is_same_text, is_among}
use Rattle.ped_tree.specs.Tree.{ExprTree, CondTree, ItemTree, Head, StmtTree, StmtTrees, Assign, If, Do, Print, Read, Stop, Comment, no_stmts, more_stmts}
use Rattle.ped_tree.specs.Numbering.{statement_count, statements_count}
use Rattle.ped_weaves.specs.ped_graph.specs.ped_symbols.specs.declared.uses.Use.{Use}
use Rattle.ped_weaves.specs.ped_graph.specs.ped_symbols.specs.declared.uses.Role.TheVariants.{Rejected, Index}
use Rattle.ped_weaves.specs.ped_graph.specs.ped_symbols.specs.Uses.{used_as, expr_uses, cond_uses, target_uses, item_uses}
use Rattle.ped_weaves.specs.ped_graph.specs.ped_symbols.specs.Sites.{Site, private_site, stmt_sites, stmts_sites, site_uses}
use Rattle.ped_tree.specs.NamesIn.{loop_variables, all_loop_variables}
use Rattle.ped_symbolic.specs.Substitution.{substituted, condition_substituted, item_substituted, head_substituted, statement_substituted, statements_substituted}
use Rattle.ped_weaves.specs.ped_store.specs.Cells as cells
use Rattle.ped_weaves.specs.ped_store.specs.Cells.{Cell, Private, In, Out, same_cell}
use Rattle.ped_weaves.specs.ped_store.specs.Stores.{Content, Number, Lines, Store, put, lines_in}
use Rattle.ped_weaves.specs.ped_store.specs.Acts.{Touch, Place, Step, did, entered, ended_turn, closed, Act, store_behind, iterations_of}
use Rattle.ped_weaves.specs.ped_store.specs.DataLines.{Data, begun, Taken, next_value_of}
use Rattle.ped_weaves.specs.ped_laws.specs.Acts.Fitting.{of_cells}
use Rattle.ped_weaves.specs.ped_laws.proofs.ActLaws.SameCells.{text_itself}
use Rattle.ped_weaves.specs.ped_laws.proofs.ActLaws.OfCells.{behind_cells}
use Rattle.ped_weaves.specs.ped_laws.proofs.ActLaws.Renamings.{renamed_alike}
use Rattle.ped_weaves.specs.ped_eval.specs.Scopes.{Setting, Frame, Scope, turns_of, cell_of, index_value, Names, names_in, place_of}
use Rattle.ped_weaves.specs.ped_eval.specs.Evaluation.{Seen, Evaluated, numbered, number_behind}
use Rattle.ped_weaves.specs.ped_eval.specs.Values.{truth, target}
use Rattle.ped_weaves.specs.ped_eval.specs.Statements.{assigned, assignment_touches, printed_line, print_touches, read_touch, write_touch, Taking, into_item, with_taken, taking, taking_from, reading, reading_touches}
use Rattle.ped_weaves.specs.ped_eval.specs.Loops.{Limits, limits, increment, iteration_count, sorted_once, inner_variables, Entered, entered_with, frame, undefined_by, undefined_all, exit_touches, exit_when_none, entry_touches}
use Rattle.ped_weaves.specs.ped_eval.specs.Runs.{Ending, going, stopped, failed, Run, nothing_done, followed_by, then_run, does, on, run_assignment, run_print, run_taking, run_read, run_stop, run_if, turns, parallel_turns, run_entered, run_from_entry, run_do, run, run_all}
use Rattle.ped_weaves.specs.ped_laws.specs.Runs.Replaying.{finish_of, has_fault}
use Rattle.ped_weaves.specs.ped_laws.proofs.FlowRunLaws.Names.{inner_among}
use Rattle.ped_steps.specs.Runs.Exchanging.{exchanged_store, exchanged_ending, swapped, is_of_scalar}
use Rattle.ped_steps.specs.Runs.Substituting.{AreSameOn, element_at, MayStandFor}
use Rattle.ped_tree.specs.NamesIn.{private_names_in, all_private_names_in}
use Rattle.ped_steps.proofs.RunLaws.ExchangedTouches.{told_apart}
use Rattle.ped_steps.proofs.RunLaws.ExchangedSight.{itself}
use Rattle.ped_steps.proofs.RunLaws.Swapped.{cell_name, swapped_first, swapped_other, twice, named_so, of_scalar}
use Rattle.ped_steps.proofs.RunLaws.SubstitutedShapes.{count_kept, counts_kept, indices_kept, constant_kept}
use Rattle.ped_steps.proofs.RunLaws.SubstitutedSight.{IsSwap, IsFit, StandsAt, Lack, lack_parts, lack_first, Alike, alike_append, SeeAlike, Matches, stored_as, truth_match, target_match, assigned_match, line_match, limits_match}

among_parts : (x : List ℕ) (xs ys : List (List ℕ)) → is_among x (xs ++ ys) ≡ false → (is_among x xs ≡ false) × (is_among x ys ≡ false)
among_parts x xs ys h = or_parts (is_among x xs) (is_among x ys) (sym (list_any-append (is_same_text x) xs ys) ∙ h)

among_both : (x : List ℕ) (xs ys : List (List ℕ)) → is_among x xs ≡ false → is_among x ys ≡ false → is_among x (xs ++ ys) ≡ false
among_both x xs ys h k = list_any-append (is_same_text x) xs ys ∙ (λ i. h i || k i)

-- statements that have nothing to do with the array, don't declare the scalar, and have no DO of the scalar or of the subscript
pub record AreFree (x array v : List ℕ) (sites : List Site) (loops private : List (List ℕ)) : Type 0 where
  pub new : Lack array (flat_map site_uses sites)
  pub no_loop : is_among x loops ≡ false
  pub shared : is_among x private ≡ false
  pub outside : is_among v loops ≡ false

module _ (x array v : List ℕ) (sites sites' : List Site) (loops loops' private private' : List (List ℕ)) where
  free_parts : AreFree x array v (sites ++ sites') (loops ++ loops') (private ++ private') → AreFree x array v sites loops private × AreFree x array v sites' loops' private'
  free_parts h =
      let uses = lack_parts array (flat_map site_uses sites) (flat_map site_uses sites') (ap (λ (us : List Use). is_among array (map (λ u. u.name) us)) (sym (flat_map-append site_uses sites sites')) ∙ h.new) in
      let no_loop = among_parts x loops loops' h.no_loop in
      let shared = among_parts x private private' h.shared in
      let outside = among_parts v loops loops' h.outside in
      (record { new = uses.0; no_loop = no_loop.0; shared = shared.0; outside = outside.0 }, record { new = uses.1; no_loop = no_loop.1; shared = shared.1; outside = outside.1 })

module _ (name : Cell → Cell) (twice : (c : Cell) → name (name c) ≡ c) where
  abbrev moved : Store → Store
  moved = exchanged_store name

  same_test : (c d : Cell) → same_cell (name c) (name d) ≡ same_cell c d
  same_test = told_apart name name twice

  pub put_moved : (c : Cell) (w : Content) (s : Store) → moved (put c w s) ≡ put (name c) w (moved s)
  put_moved c w s = λ i d. if (sym (same_test c (name d)) ∙ ap (λ (e : Cell). same_cell (name c) e) (twice d)) i then w else s (name d)

  behind_moved : (ts us : List Touch) (s : Store) → Alike name ts us → store_behind us (moved s) ≡ moved (store_behind ts s)
  behind_moved ts us s h = λ i c. at c i
    where
      at : (c : Cell) → store_behind us (moved s) c ≡ store_behind ts s (name c)
      at c =
          ap (λ (u : Store). u c) (sym (behind_cells us (moved s))) ∙ ap (store_behind (of_cells us) (moved s)) (sym (twice c))
          ∙ sym (renamed_alike name (of_cells ts) (of_cells us) s (moved s) (name c) h (λ d w e. sym (twice d) ∙ ap name e ∙ twice (name c)) (ap s (sym (twice (name c)))))
          ∙ ap (λ (u : Store). u (name c)) (behind_cells ts s)

  -- where the first run meets no fault, the second does the same on renamed cells
  abbrev pub GoesAlike : Run → Run → Type 0
  GoesAlike r z = has_fault (finish_of r.ending) ≡ false → AreSameOn name r.acts z.acts × (z.ending ≡ exchanged_ending name r.ending)

  abbrev pub Follow : (Store → Run) → (Store → Run) → Type 0
  Follow f h = (s : Store) → GoesAlike (f s) (h (moved s))

  same_append : (acts others more further : List Act) → AreSameOn name acts others → AreSameOn name more further → AreSameOn name (acts ++ more) (others ++ further)
  same_append [] [] more further h k = k
  same_append [] (b ∷ others) more further h k = absurd h
  same_append (a ∷ acts) [] more further h k = absurd h
  same_append (a ∷ acts) (b ∷ others) more further h k = (h.0, same_append acts others more further h.1 k)

  nothing_follow : Follow nothing_done nothing_done
  nothing_follow s e = (tt, refl)

  followed_follow : (acts others : List Act) (e z : Ending) (f h : Store → Run) → (has_fault (finish_of e) ≡ false → AreSameOn name acts others × (z ≡ exchanged_ending name e)) → Follow f h → GoesAlike (followed_by acts e f) (followed_by others z h)
  followed_follow acts others (going u) z f h q more =
      let t = q refl in
      subst (λ (y : Ending). GoesAlike (followed_by acts (going u) f) (followed_by others y h)) (sym t.1)
      (λ e. (same_append acts others (f u).acts (h (moved u)).acts t.0 (more u e).0, (more u e).1))
  followed_follow acts others (stopped u) z f h q more =
      let t = q refl in
      subst (λ (y : Ending). GoesAlike (followed_by acts (stopped u) f) (followed_by others y h)) (sym t.1) (λ e. (t.0, refl))
  followed_follow acts others (failed fault statement) z f h q more = λ e. absurd cc

  pub then_follow : (f f' h h' : Store → Run) → Follow f f' → Follow h h' → Follow (λ s. then_run (f s) h) (λ s. then_run (f' s) h')
  then_follow f f' h h' p q s = followed_follow (f s).acts (f' (moved s)).acts (f s).ending (f' (moved s)).ending h h' (p s) q

  does_follow : (step : Step) (at : Place) (ts us : List Touch) (f h : Store → Run) (s : Store) → Alike name ts us → Follow f h → GoesAlike (does step at ts f s) (does step at us h (moved s))
  does_follow step at ts us f h s alike more =
      followed_follow ((record { step = step; place = at; touches = ts }) ∷ []) ((record { step = step; place = at; touches = us }) ∷ []) (going (store_behind ts s)) (going (store_behind us (moved s))) f h
      (λ e. ((record { step = refl; place = refl; touches = alike }, tt), ap going (behind_moved ts us s alike))) more

  on_follow : {A X : Type 0} (at : Place) (k : A → X) (e : Evaluated A) (z : Evaluated X) (next : List Seen → A → Run) (others : List Seen → X → Run)
      → Matches name k e z → ((a : A) → SeeAlike name e.seen z.seen → GoesAlike (next e.seen a) (others z.seen (k a))) → GoesAlike (on at e next) (on at z others)
  on_follow {A} {X} at k e z next others m more = go e.result refl
    where
      go : (r : Result A ℕ) → e.result ≡ r → GoesAlike (on at (record { seen = e.seen; result = r }) next) (on at z others)
      go (Ok a) q = subst (λ (y : Result X ℕ). GoesAlike (next e.seen a) (on at (record { seen = z.seen; result = y }) others)) (sym (m a q).0) (more a (m a q).1)
      go (Err fault) q = λ h. absurd cc

  chosen_follow : (b : Bool) (f f' h h' : Store → Run) → Follow f f' → Follow h h' → Follow (if b then f else h) (if b then f' else h')
  chosen_follow true f f' h h' p q = p
  chosen_follow false f f' h h' p q = q

  module _ (p : Setting) (x array v : List ℕ) (k : ℤ) (laws : IsSwap name x array) (fit : IsFit p x array v k) where
    abbrev by : ExprTree
    by = element_at array v

    -- statements by themselves
    module _ (T : Scope) (at : StandsAt name x array v k T) (place : Place) where
      abbrev g : Names
      g = names_in p T

      assignment_follow : (left right : ExprTree) → Lack array (target_uses left ++ expr_uses right) → Follow (run_assignment g place left right) (run_assignment g place (substituted x by left) (substituted x by right))
      assignment_follow left right h s =
          on_follow place (stored_as name) (assigned g left right s) (assigned g (substituted x by left) (substituted x by right) (moved s))
          (λ seen w. does did place (assignment_touches seen w) nothing_done s) (λ seen w. does did place (assignment_touches seen w) nothing_done (moved s))
          (assigned_match name p x array v k laws fit T at left right s h)
          (λ w same. does_follow did place _ _ nothing_done nothing_done s
          (alike_append name (numbered 1 (assigned g left right s).seen) (numbered 1 (assigned g (substituted x by left) (substituted x by right) (moved s)).seen)
          (write_touch w.cell (Number w.number) (number_behind 1 (assigned g left right s).seen) ∷ []) (write_touch (name w.cell) (Number w.number) (number_behind 1 (assigned g (substituted x by left) (substituted x by right) (moved s)).seen) ∷ [])
          (same 1 1) (refl, refl, refl, tt))
          nothing_follow)

      print_follow : (items : List ItemTree) → Lack array (flat_map item_uses items) → Follow (run_print g place items) (run_print g place (map (item_substituted x by) items))
      print_follow items h s =
          on_follow place itself (printed_line g items s) (printed_line g (map (item_substituted x by) items) (moved s))
          (λ seen line. does did place (print_touches seen line s) nothing_done s) (λ seen line. does did place (print_touches seen line (moved s)) nothing_done (moved s))
          (line_match name p x array v k laws fit T at items s h)
          (λ line same. does_follow did place _ _ nothing_done nothing_done s
          (alike_append name (numbered 1 (printed_line g items s).seen) (numbered 1 (printed_line g (map (item_substituted x by) items) (moved s)).seen)
          (read_touch Out (s Out) 0 ∷ write_touch Out (Lines (lines_in (s Out) ++ line ∷ [])) (number_behind 1 (printed_line g items s).seen) ∷ [])
          (read_touch Out (moved s Out) 0 ∷ write_touch Out (Lines (lines_in (moved s Out) ++ line ∷ [])) (number_behind 1 (printed_line g (map (item_substituted x by) items) (moved s)).seen) ∷ [])
          (same 1 1)
          (refl, ap s (sym laws.output), sym laws.output, (refl, ap (λ (c : Cell). Lines (lines_in (s c) ++ line ∷ [])) (sym laws.output), sym laws.output, tt)))
          nothing_follow)

      -- what comes of the items of a READ, where no fault comes
      abbrev TakesAlike : Taking → Taking → Type 0
      TakesAlike t u = t.fault ≡ None → (u.fault ≡ None) × (u.left ≡ t.left) × Alike name t.touches u.touches

      into_follow : (n m : ℕ) (left : Data) (w : ℤ) (e z : Evaluated Cell) (next others : ℕ → Cell → Taking) → Matches name name e z → ((n m : ℕ) (c : Cell) → TakesAlike (next n c) (others m (name c)))
          → TakesAlike (into_item n left w e.seen e.result next) (into_item m left w z.seen z.result others)
      into_follow n m left w e z next others match more = go e.result refl
        where
          go : (r : Result Cell ℕ) → e.result ≡ r → TakesAlike (into_item n left w e.seen r next) (into_item m left w z.seen z.result others)
          go (Ok c) q =
              subst (λ (y : Result Cell ℕ). TakesAlike (into_item n left w e.seen (Ok c) next) (into_item m left w z.seen y others)) (sym (match c q).0)
              (λ f.
              let rest = more (suc (number_behind n e.seen)) (suc (number_behind m z.seen)) c f in (
                rest.0,
                rest.1,
                alike_append name (numbered n e.seen ++ write_touch c (Number w) (number_behind n e.seen) ∷ []) (numbered m z.seen ++ write_touch (name c) (Number w) (number_behind m z.seen) ∷ [])
                    (next (suc (number_behind n e.seen)) c).touches (others (suc (number_behind m z.seen)) (name c)).touches
                    (alike_append name (numbered n e.seen) (numbered m z.seen) (write_touch c (Number w) (number_behind n e.seen) ∷ []) (write_touch (name c) (Number w) (number_behind m z.seen) ∷ []) ((match c q).1 n m) (refl, refl, refl, tt))
                    rest.2,
              ))
          go (Err fault) q = λ f. absurd cc

      taking_follow : (items : List ExprTree) (n m : ℕ) (d : Data) (s : Store) → Lack array (flat_map target_uses items) → TakesAlike (taking g items n d s) (taking g (map (substituted x by) items) m d (moved s))
      taking_follow [] n m d s h = λ f. (refl, refl, tt)
      taking_follow (item ∷ rest) n m d s h = go (next_value_of d) (λ n m left u. taking_follow rest n m left u (lack_parts array (target_uses item) (flat_map target_uses rest) h).1)
        where
          go : (t : Result Taken ℕ) → ((n m : ℕ) (left : Data) (u : Store) → TakesAlike (taking g rest n left u) (taking g (map (substituted x by) rest) m left (moved u)))
              → TakesAlike (with_taken d t (λ w left. into_item n left w (target g item s).seen (target g item s).result λ n c. taking g rest n left (put c (Number w) s)))
              (with_taken d t (λ w left. into_item m left w (target g (substituted x by item) (moved s)).seen (target g (substituted x by item) (moved s)).result λ n c. taking g (map (substituted x by) rest) n left (put c (Number w) (moved s))))
          go (Err fault) more = λ f. absurd cc
          go (Ok t) more =
              into_follow n m t.behind t.value (target g item s) (target g (substituted x by item) (moved s))
              (λ n c. taking g rest n t.behind (put c (Number t.value) s)) (λ n c. taking g (map (substituted x by) rest) n t.behind (put c (Number t.value) (moved s)))
              (target_match name p x array v k laws fit T at item s (lack_parts array (target_uses item) (flat_map target_uses rest) h).0)
              (λ n m c. subst (λ (u : Store). TakesAlike (taking g rest n t.behind (put c (Number t.value) s)) (taking g (map (substituted x by) rest) m t.behind u)) (put_moved c (Number t.value) s) (more n m t.behind (put c (Number t.value) s)))

      from_follow : (items : List ExprTree) (b : Result Data ℕ) (s : Store) → Lack array (flat_map target_uses items) → TakesAlike (taking_from g items b s) (taking_from g (map (substituted x by) items) b (moved s))
      from_follow items (Ok d) s h = taking_follow items 2 2 d s h
      from_follow items (Err fault) s h = λ f. absurd cc

      reading_follow : (items : List ExprTree) (s : Store) → Lack array (flat_map target_uses items) → TakesAlike (reading g items s) (reading g (map (substituted x by) items) (moved s))
      reading_follow items s h =
          subst (λ (c : Cell). TakesAlike (taking_from g items (begun (lines_in (s In))) s) (taking_from g (map (substituted x by) items) (begun (lines_in (s c))) (moved s))) (sym laws.input)
          (from_follow items (begun (lines_in (s In))) s h)

      taken_follow : (t u : Taking) (s : Store) → TakesAlike t u → GoesAlike (run_taking place t t.fault s) (run_taking place u u.fault (moved s))
      taken_follow t u s same = go t.fault refl
        where
          go : (o : Option ℕ) → t.fault ≡ o → GoesAlike (run_taking place t o s) (run_taking place u u.fault (moved s))
          go None q =
              let alike = same q in
              subst (λ (o : Option ℕ). GoesAlike (run_taking place t None s) (run_taking place u o (moved s))) (sym alike.0)
              (does_follow did place (reading_touches t s) (reading_touches u (moved s)) nothing_done nothing_done s
              (refl, ap s (sym laws.input), sym laws.input, (refl, ap (λ (d : Data). Lines d.lines) (sym alike.1), sym laws.input, alike.2)) nothing_follow)
          go (Some fault) q = λ e. absurd cc

      read_follow : (items : List ExprTree) → Lack array (flat_map target_uses items) → Follow (run_read g place items) (run_read g place (map (substituted x by) items))
      read_follow items h s = taken_follow (reading g items s) (reading g (map (substituted x by) items) (moved s)) s (reading_follow items s h)

      stop_follow : Follow (run_stop place) (run_stop place)
      stop_follow s = does_follow did place [] [] (λ u. record { acts = []; ending = stopped u }) (λ u. record { acts = []; ending = stopped u }) s tt (λ u e. (tt, refl))

      if_follow : (c : CondTree) (f f' h h' : Store → Run) → Lack array (cond_uses c) → Follow f f' → Follow h h' → Follow (run_if g place c f h) (run_if g place (condition_substituted x by c) f' h')
      if_follow c f f' h h' lacks q r s =
          on_follow place itself (truth g c s) (truth g (condition_substituted x by c) (moved s))
          (λ seen holds. does did place (numbered 1 seen) (if holds then f else h) s) (λ seen holds. does did place (numbered 1 seen) (if holds then f' else h') (moved s))
          (truth_match name p x array v k laws fit T at c s lacks)
          (λ holds same. does_follow did place _ _ (if holds then f else h) (if holds then f' else h') s (same 1 1) (chosen_follow holds f f' h h' q r))

    -- loops
    module _ (T : Scope) (at : StandsAt name x array v k T) where
      undefined_alike : (n m : ℕ) (xs : List (List ℕ)) → is_among x xs ≡ false → Alike name (undefined_by T n xs) (undefined_by T m xs)
      undefined_alike n m [] h = tt
      undefined_alike n m (y ∷ ys) h =
          let parts = or_parts (is_same_text x y) (is_among x ys) h in
          (refl, refl, sym (at.kept y parts.0), undefined_alike (suc n) (suc m) ys parts.1)

      undefined_all_alike : (xs : List (List ℕ)) → is_among x xs ≡ false → Alike name (undefined_all T xs) (undefined_all T xs)
      undefined_all_alike [] h = tt
      undefined_all_alike (y ∷ ys) h =
          let parts = or_parts (is_same_text x y) (is_among x ys) h in
          (refl, refl, sym (at.kept y parts.0), undefined_all_alike ys parts.1)

      module _ (e z : Entered) (exits : Alike name (exit_touches e T) (exit_touches z T)) where
        when_alike : (n : ℕ) → Alike name (exit_when_none n e T) (exit_when_none n z T)
        when_alike n = go (n == 0)
          where
            go : (b : Bool) → Alike name (if b then exit_touches e T else []) (if b then exit_touches z T else [])
            go true = exits
            go false = tt

        module _ (place : Place) (body body' : Frame → Store → Run) (more : (k : ℕ) → Follow (body (frame e k)) (body' (frame z k))) where
          turns_follow : (n k : ℕ) → Follow (turns n k e T place body) (turns n k z T place body')
          turns_follow zero k = nothing_follow
          turns_follow (suc n) k =
              then_follow (body (frame e k)) (body' (frame z k)) (does (ended_turn n) place (exit_when_none n e T) (turns n (k + 1) e T place body)) (does (ended_turn n) place (exit_when_none n z T) (turns n (k + 1) z T place body')) (more k)
              (λ s. does_follow (ended_turn n) place (exit_when_none n e T) (exit_when_none n z T) (turns n (k + 1) e T place body) (turns n (k + 1) z T place body') s (when_alike n) (turns_follow n (k + 1)))

          parallel_follow : (n k : ℕ) → Follow (parallel_turns n k e body) (parallel_turns n k z body')
          parallel_follow zero k = nothing_follow
          parallel_follow (suc n) k = then_follow (body (frame e k)) (body' (frame z k)) (parallel_turns n (k + 1) e body) (parallel_turns n (k + 1) z body') (more k) (parallel_follow n (k + 1))

          entered_follow : (b : Bool) (count : ℕ) → Follow (run_entered b count e T place body) (run_entered b count z T place body')
          entered_follow b zero = nothing_follow
          entered_follow false (suc n) = turns_follow (suc n) 1
          entered_follow true (suc n) =
              then_follow (parallel_turns (suc n) 1 e body) (parallel_turns (suc n) 1 z body') (does closed place (exit_touches e T) nothing_done) (does closed place (exit_touches z T) nothing_done) (parallel_follow (suc n) 1)
              (λ s. does_follow closed place (exit_touches e T) (exit_touches z T) nothing_done nothing_done s exits nothing_follow)

      -- a DO of another variable, whose iterations have no copies of the scalar
      module _ (h : Head) (body : StmtTrees) (other_variable : is_same_text x h.variable ≡ false) (unlisted : is_among x h.private ≡ false) (inside : is_among x (inner_variables h.parallel body) ≡ false) where
        loop_exits : (n : ℕ) (first step : ℤ) (count behind behind' : ℕ)
            → Alike name (exit_touches (record { number = n; head = h; first = first; step = step; count = count; behind_bounds = behind; inner = inner_variables h.parallel body }) T)
            (exit_touches (record { number = n; head = head_substituted x by h; first = first; step = step; count = count; behind_bounds = behind'; inner = inner_variables h.parallel body }) T)
        loop_exits n first step count behind behind' = (
          refl,
          refl,
          sym (at.kept h.variable other_variable),
          alike_append name (undefined_by T behind h.private) (undefined_by T behind' h.private) (undefined_all T (inner_variables h.parallel body)) (undefined_all T (inner_variables h.parallel body))
              (undefined_alike behind behind' h.private unlisted) (undefined_all_alike (inner_variables h.parallel body) inside),
        )

        -- the DO with the substituted head and body, once it is entered
        abbrev entered_anew : ℕ → List Seen → Limits → Entered
        entered_anew n seen l = record {
          number = p.number n;
          head = head_substituted x by h;
          first = l.first;
          step = increment p.constants h;
          count = iteration_count l.first l.last (increment p.constants h);
          behind_bounds = number_behind 1 seen;
          inner = inner_variables h.parallel body;
        }

        entered_same : (n : ℕ) (seen : List Seen) (l : Limits) → entered_with p n (head_substituted x by h) (statements_substituted x by body) seen l ≡ entered_anew n seen l
        entered_same n seen l = λ i. record {
          number = p.number n;
          head = head_substituted x by h;
          first = l.first;
          step = steps i;
          count = iteration_count l.first l.last (steps i);
          behind_bounds = number_behind 1 seen;
          inner = variables h.parallel i;
        }
          where
            steps : increment p.constants (head_substituted x by h) ≡ increment p.constants h
            steps = ap (λ (o : Option ℤ). unwrap_or o (pos 1)) (constant_kept p.constants x by fit.variable (record { value = refl; literal = refl; zero = refl }) refl h.step)

            variables : (b : Bool) → inner_variables b (statements_substituted x by body) ≡ inner_variables b body
            variables true = ap sorted_once (indices_kept x by body)
            variables false = refl

        do_follow : (n : ℕ) (f f' : Frame → Store → Run) → Lack array (expr_uses h.first) → Lack array (expr_uses h.last) → ((seen : List Seen) (l : Limits) (k : ℕ) → Follow (f (frame (entered_with p n h body seen l) k)) (f' (frame (entered_with p n h body seen l) k)))
            → Follow (run_do p n T h body f) (run_do p n T (head_substituted x by h) (statements_substituted x by body) f')
        do_follow n f f' first last more s =
            on_follow (place_of p n T) itself (limits (names_in p T) h s) (limits (names_in p T) (head_substituted x by h) (moved s))
            (λ seen l. run_from_entry seen (entered_with p n h body seen l) T (place_of p n T) f s)
            (λ seen l. run_from_entry seen (entered_with p n (head_substituted x by h) (statements_substituted x by body) seen l) T (place_of p n T) f' (moved s))
            (limits_match name p x array v k laws fit T at h s first last)
            (λ l same. from_entry (limits (names_in p T) h s).seen (limits (names_in p T) (head_substituted x by h) (moved s)).seen l same)
          where
            from_entry : (seen seen' : List Seen) (l : Limits) → SeeAlike name seen seen'
                → GoesAlike (run_from_entry seen (entered_with p n h body seen l) T (place_of p n T) f s) (run_from_entry seen' (entered_with p n (head_substituted x by h) (statements_substituted x by body) seen' l) T (place_of p n T) f' (moved s))
            from_entry seen seen' l same =
                let e = entered_with p n h body seen l in
                let z = entered_anew n seen' l in
                let exits = loop_exits (p.number n) l.first (increment p.constants h) (iteration_count l.first l.last (increment p.constants h)) (number_behind 1 seen) (number_behind 1 seen') in
                subst (λ (w : Entered). GoesAlike (run_from_entry seen e T (place_of p n T) f s) (run_from_entry seen' w T (place_of p n T) f' (moved s))) (sym (entered_same n seen' l))
                (does_follow (entered e.count) (place_of p n T) (entry_touches seen e T) (entry_touches seen' z T) (run_entered h.parallel e.count e T (place_of p n T) f) (run_entered h.parallel e.count z T (place_of p n T) f') s
                (alike_append name (numbered 1 seen) (numbered 1 seen') (exit_when_none e.count e T) (exit_when_none e.count z T) (same 1 1) (when_alike e z exits e.count))
                (entered_follow e z exits (place_of p n T) f f' (λ k. more seen l k) h.parallel e.count))

    -- further inside the element stands for the scalar, too
    pub deeper : (f : Frame) (T : Scope) → StandsAt name x array v k T → is_among x f.private ≡ false → is_same_text x f.variable ≡ false → is_same_text v f.variable ≡ false → StandsAt name x array v k (f ∷ T)
    deeper f T at unlisted unlike outside = record {
      own = ap (λ (b : Bool). name (if b then Private x (iterations_of (turns_of (f ∷ T))) else cell_of T x)) unlisted ∙ at.own;
      kept = λ y h. inner y h (is_among y f.private);
      unbound = ap (λ (b : Bool). if b then Some f.turn.value else index_value T x) unlike ∙ at.unbound;
      told = ap (λ (b : Bool). if b then Some f.turn.value else index_value T v) outside ∙ at.told;
    }
      where
        inner : (y : List ℕ) → is_same_text x y ≡ false → (b : Bool) → name (if b then Private y (iterations_of (turns_of (f ∷ T))) else cell_of T y) ≡ (if b then Private y (iterations_of (turns_of (f ∷ T))) else cell_of T y)
        inner y h true = laws.copy y (iterations_of (turns_of (f ∷ T))) h
        inner y h false = at.kept y h

    inner_free : (b : Bool) (body : StmtTrees) → is_among x (all_loop_variables body) ≡ false → is_among x (inner_variables b body) ≡ false
    inner_free true body h = inner_among x body ∙ h
    inner_free false body h = refl

    copied_free : (h : Head) (inner : List (List ℕ)) → is_same_text x h.variable ≡ false → is_among x h.private ≡ false → is_among x inner ≡ false → is_among x (if h.parallel then h.variable ∷ (h.private ++ inner) else h.private) ≡ false
    copied_free h inner a b c = go h.parallel
      where
        go : (p : Bool) → is_among x (if p then h.variable ∷ (h.private ++ inner) else h.private) ≡ false
        go true = λ i. a i || among_both x h.private inner b c i
        go false = b

    mutual
      run_follow : (t : StmtTree) (n : ℕ) (T : Scope) → StandsAt name x array v k T → AreFree x array v (stmt_sites t) (loop_variables t) (private_names_in t) → Follow (run p t n T) (run p (statement_substituted x by t) n T)
      run_follow (Assign left right) n T at free = assignment_follow T at (place_of p n T) left right (lack_parts array (target_uses left ++ expr_uses right) [] free.new).0
      run_follow (If c a b) n T at free =
          let uses = lack_parts array (cond_uses c) (flat_map site_uses (stmts_sites a ++ stmts_sites b)) free.new in
          let parts = free_parts x array v (stmts_sites a) (stmts_sites b) (all_loop_variables a) (all_loop_variables b) (all_private_names_in a) (all_private_names_in b) (record { new = uses.1; no_loop = free.no_loop; shared = free.shared; outside = free.outside }) in
          if_follow T at (place_of p n T) c (run_all p a (n + 1) T) (run_all p (statements_substituted x by a) (n + 1) T)
          (run_all p b (n + 1 + statements_count a) T) (run_all p (statements_substituted x by b) (n + 1 + statements_count (statements_substituted x by a)) T) uses.0
          (all_follow a (n + 1) T at parts.0)
          (subst (λ (m : ℕ). Follow (run_all p b (n + 1 + statements_count a) T) (run_all p (statements_substituted x by b) (n + 1 + m) T)) (sym (counts_kept x by a)) (all_follow b (n + 1 + statements_count a) T at parts.1))
      run_follow (Do h body) n T at free =
          let uses = lack_parts array (map (used_as Rejected) h.rejected ++ used_as Index h.variable ∷ (expr_uses h.first ++ expr_uses h.last ++ expr_uses h.step)) (flat_map site_uses (private_site h.private ++ stmts_sites body)) free.new in
          let own = lack_parts array (map (used_as Rejected) h.rejected) (used_as Index h.variable ∷ (expr_uses h.first ++ expr_uses h.last ++ expr_uses h.step)) uses.0 in
          let bounds = lack_parts array (expr_uses h.first ++ expr_uses h.last) (expr_uses h.step) (lack_first array h.variable (expr_uses h.first ++ expr_uses h.last ++ expr_uses h.step) own.1).1 in
          let limits_uses = lack_parts array (expr_uses h.first) (expr_uses h.last) bounds.0 in
          let inside = lack_parts array (flat_map site_uses (private_site h.private)) (flat_map site_uses (stmts_sites body)) (ap (λ (us : List Use). is_among array (map (λ u. u.name) us)) (sym (flat_map-append site_uses (private_site h.private) (stmts_sites body))) ∙ uses.1) in
          let mine = or_parts (is_same_text x h.variable) (is_among x (all_loop_variables body)) free.no_loop in
          let its = or_parts (is_same_text v h.variable) (is_among v (all_loop_variables body)) free.outside in
          let listed = among_parts x h.private (all_private_names_in body) free.shared in
          let inner = inner_free h.parallel body mine.1 in
          do_follow T at h body mine.0 listed.0 inner n (λ f. run_all p body (n + 1) (f ∷ T)) (λ f. run_all p (statements_substituted x by body) (n + 1) (f ∷ T)) limits_uses.0 limits_uses.1
          (λ seen l j. all_follow body (n + 1) (frame (entered_with p n h body seen l) j ∷ T)
          (deeper (frame (entered_with p n h body seen l) j) T at (copied_free h (inner_variables h.parallel body) mine.0 listed.0 inner) mine.0 its.0)
          (record { new = inside.1; no_loop = mine.1; shared = listed.1; outside = its.1 }))
      run_follow (Print items) n T at free = print_follow T at (place_of p n T) items (lack_parts array (flat_map item_uses items) [] free.new).0
      run_follow (Read items) n T at free = read_follow T at (place_of p n T) items (lack_parts array (flat_map target_uses items) [] free.new).0
      run_follow Stop n T at free = stop_follow T at (place_of p n T)
      run_follow (Comment text) n T at free = nothing_follow

      -- statements with the element in the scalar's place do on renamed cells what they did
      pub all_follow : (ts : StmtTrees) (n : ℕ) (T : Scope) → StandsAt name x array v k T → AreFree x array v (stmts_sites ts) (all_loop_variables ts) (all_private_names_in ts) → Follow (run_all p ts n T) (run_all p (statements_substituted x by ts) n T)
      all_follow no_stmts n T at free = nothing_follow
      all_follow (more_stmts t rest) n T at free =
          let parts = free_parts x array v (stmt_sites t) (stmts_sites rest) (loop_variables t) (all_loop_variables rest) (private_names_in t) (all_private_names_in rest) free in
          then_follow (run p t n T) (run p (statement_substituted x by t) n T) (run_all p rest (n + statement_count t) T) (run_all p (statements_substituted x by rest) (n + statement_count (statement_substituted x by t)) T)
          (run_follow t n T at parts.0)
          (subst (λ (m : ℕ). Follow (run_all p rest (n + statement_count t) T) (run_all p (statements_substituted x by rest) (n + m) T)) (sym (count_kept x by t)) (all_follow rest (n + statement_count t) T at parts.1))

-- the name of an array
abbrev array_name : Cell → List ℕ
array_name (cells.Element y js) = y
array_name (cells.Scalar y) = []
array_name (Private y path) = []
array_name In = []
array_name Out = []

module _ (S : Scope) (x array : List ℕ) (k : ℤ) where
  abbrev own : Cell
  own = cell_of S x

  abbrev elem : Cell
  elem = cells.Element array (k ∷ [])

  -- the scalar's cell is no cell of another kind, and the element none of a scalar
  no_scalar : (c : Cell) → is_of_scalar c ≡ false → own ≡ c → ⊥
  no_scalar c h e = both_ways (is_of_scalar c) h (ap is_of_scalar (sym e) ∙ of_scalar S x)

  no_element : (c : Cell) → is_of_scalar c ≡ true → elem ≡ c → ⊥
  no_element c h e = both_ways (is_of_scalar c) (ap is_of_scalar (sym e)) h

  unlike : (y : List ℕ) (c : Cell) → is_same_text x y ≡ false → cell_name c ≡ y → own ≡ c → ⊥
  unlike y c h is e = both_ways (is_same_text x y) h (ap (is_same_text x) (sym is ∙ ap cell_name (sym e) ∙ named_so S x) ∙ text_itself x)

  elements_kept : (y : List ℕ) (js : List ℤ) → is_same_text array y ≡ false → swapped own elem (cells.Element y js) ≡ cells.Element y js
  elements_kept y js h =
      swapped_other own elem (cells.Element y js) (no_scalar (cells.Element y js) refl)
      (λ e. both_ways (is_same_text array y) h (ap (is_same_text array) (ap array_name (sym e)) ∙ text_itself array))

  pub swap_laws : IsSwap (swapped own elem) x array
  swap_laws = record {
    twice = twice own elem;
    input = swapped_other own elem In (no_scalar In refl) (λ e. let d : array_name elem ≡ [] = ap array_name e in absurd cc);
    output = swapped_other own elem Out (no_scalar Out refl) (λ e. let d : array_name elem ≡ [] = ap array_name e in absurd cc);
    element = elements_kept;
    copy = λ y path h. swapped_other own elem (Private y path) (unlike y (Private y path) h refl) (no_element (Private y path) refl);
  }

  pub stands_there : (v : List ℕ) → index_value S x ≡ None → index_value S v ≡ Some k → StandsAt (swapped own elem) x array v k S
  stands_there v unbound told = record {
    own = swapped_first own elem own refl;
    kept = λ y h. swapped_other own elem (cell_of S y) (unlike y (cell_of S y) h (named_so S y)) (no_element (cell_of S y) (of_scalar S y));
    unbound = unbound;
    told = told;
  }

-- where an element may stand for a scalar, statements with the element do what they did, on the element in place of the scalar's cell, if they met no fault
pub substituted_run : (p : Setting) (S : Scope) (ts : StmtTrees) (x array v : List ℕ) (k : ℤ) → MayStandFor p S ts x array v k → (n : ℕ) (s : Store)
    → has_fault (finish_of (run_all p ts n S s).ending) ≡ false
    → AreSameOn (swapped (cell_of S x) (cells.Element array (k ∷ []))) (run_all p ts n S s).acts (run_all p (statements_substituted x (element_at array v) ts) n S (exchanged_store (swapped (cell_of S x) (cells.Element array (k ∷ []))) s)).acts
    × ((run_all p (statements_substituted x (element_at array v) ts) n S (exchanged_store (swapped (cell_of S x) (cells.Element array (k ∷ []))) s)).ending ≡ exchanged_ending (swapped (cell_of S x) (cells.Element array (k ∷ []))) (run_all p ts n S s).ending)
substituted_run p S ts x array v k may n s =
    let laws = swap_laws S x array k in
    all_follow (swapped (cell_of S x) (cells.Element array (k ∷ []))) laws.twice p x array v k laws (record { variable = may.variable; subscript = may.subscript; within = may.within })
    ts n S (stands_there S x array k v may.unbound may.told) (record { new = may.new; no_loop = may.no_loop; shared = may.shared; outside = may.outside }) s
