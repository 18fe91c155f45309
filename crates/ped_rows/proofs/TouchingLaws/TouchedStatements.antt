-- The touches of an assignment, a PRINT, a READ and the condition of an IF: each of the statement's references makes one.
use Rattle.std.proofs.Common.{◌≡◌, ℕ, suc, ℤ, List, [], ◌∷◌, ◌++◌, Bool, true, None, Result, Ok, Err, refl, sym, ap, subst, ◌∙◌, append_assoc, append-nil, if◌then◌else◌}
use Rattle.std.specs.Prelude.{codes}
use Rattle.std.specs.List.{list_all, flat_map}
use Rattle.std.proofs.lemmas.Bool.{and_parts}
use Rattle.ped_laws.specs.ped_flow.specs.ped_base.specs.Lists.{is_among}
use Rattle.ped_laws.specs.ped_flow.specs.ped_tree.specs.Tree.{ExprTree, CondTree, ItemTree, Head, StmtTrees, Assign, Do, Print, Read, ProgramTree}
use Rattle.ped_laws.specs.ped_flow.specs.ped_tree.specs.Accesses.{Access, write_of, expr_reads, cond_reads, left_accesses, private_writes, own_accesses, constant_names}
use Rattle.ped_laws.specs.ped_flow.specs.ped_tree.specs.Grammar.Fits.{expr_fits, target_fits, cond_fits, item_fits}
use Rattle.ped_laws.specs.ped_graph.specs.ped_symbols.specs.NameRefusals.{IsValid}
use Rattle.ped_laws.specs.ped_graph.specs.ped_symbols.specs.Kinds.{kind_in}
use Rattle.ped_laws.specs.ped_graph.specs.ped_symbols.specs.RightUses.RightUses.{is_scalar, expr_is_right, target_is_right, cond_is_right, item_is_right}
use Rattle.ped_laws.specs.ped_eval.specs.ped_store.specs.Cells.{Cell, In, Out}
use Rattle.ped_laws.specs.ped_eval.specs.ped_store.specs.Stores.{Content, Undefined, Number, Lines, Store, put, lines_in}
use Rattle.ped_laws.specs.ped_eval.specs.ped_store.specs.DataLines.{Data, begun, Taken, next_value_of}
use Rattle.ped_laws.specs.ped_eval.specs.ped_store.specs.Acts.{Touch}
use Rattle.ped_laws.specs.ped_eval.specs.Scopes.{Scope, Names, cell_of, names_in}
use Rattle.ped_laws.specs.ped_eval.specs.Evaluation.{Seen, numbered, number_behind}
use Rattle.ped_laws.specs.ped_eval.specs.Values.{truth, target}
use Rattle.ped_laws.specs.ped_eval.specs.Statements.{read_touch, write_touch, Stored, assigned, assignment_touches, printed_line, print_touches, Taking, into_item, with_taken, taking, taking_from, reading, reading_touches}
use Rattle.ped_laws.specs.ped_eval.specs.Loops.{Limits, limits, undefined_by}
use Rattle.ped_laws.specs.ped_eval.specs.Outcomes.{setting_of}
use Rattle.ped_laws.proofs.RunLaws.SeenCells.{AllSeen, truth_seen, target_seen, line_seen, limits_seen, assigned_seen}
use Rattle.ped_laws.proofs.RunLaws.StatementsTold.{no_lines}
use Rattle.ped_laws.proofs.ConflictLaws.Scoping.{variables_of}
use Rattle.ped_laws.proofs.ConflictLaws.MakingConstants.{unvalued}
use Rattle.ped_laws.proofs.ConflictLaws.MakingReads.{scalar_unvalued, ComesBy, truth_comes, line_comes, limits_come, Targeting, targeting, assigned_comes}
use Rattle.ped_rows.proofs.TouchingLaws.TouchedReferences.{HoldsNoLines, IsTouched, touched_left, touched_right, touched_later, HaveAll, have_weaker, written, seen_all}

-- each number of these accesses, from k on, is that of one of the touches
abbrev pub TouchAll : List Touch → ℕ → List Access → Type 0
TouchAll ts k accesses = HaveAll (λ m. IsTouched m ts) k accesses

-- an evaluation that has come to a value has touched all that it reads
pub value_touched : {A : Type 0} (t : ProgramTree) (g : Names) (u : Store) (P : ℕ → Type 0) (seen : List Seen) (r : Result A ℕ) (x : A) (k : ℕ) (accesses rest : List Access) → r ≡ Ok x → ComesBy t g u seen r accesses rest → AllSeen HoldsNoLines seen
    → ((m : ℕ) → IsTouched m (numbered k seen) → P m) → HaveAll P (number_behind k seen) rest → HaveAll P k accesses
value_touched t g u P seen r x k accesses rest e comes apart touched behind = seen_all t g u P seen k accesses rest (subst (λ (q : Result _ ℕ). ComesBy t g u seen q accesses rest) e comes) apart touched behind

-- at a place of a valid program, where these are the variables of the DO loops round it
module _ (t : ProgramTree) (valid : IsValid t) (scope : Scope) (indices : List (List ℕ)) (same : (x : List ℕ) → is_among x indices ≡ is_among x (variables_of scope)) where
  abbrev constants : List (List ℕ)
  constants = constant_names t.decls

  abbrev g : Names
  g = names_in (setting_of t) scope

  pub assignment_touched : (u : Store) (left right : ExprTree) → target_fits left ≡ true → target_is_right (kind_in t) left ≡ true → expr_fits right ≡ true → expr_is_right (kind_in t) right ≡ true
      → (w : Stored) → (assigned g left right u).result ≡ Ok w → TouchAll (assignment_touches (assigned g left right u).seen w) 1 (own_accesses constants indices (Assign left right))
  assignment_touched u left right to_fits to_right fits uses w e =
      let to : Targeting t valid scope indices same u left = targeting t valid scope indices same u left to_fits to_right in
      let seen : List Seen = (assigned g left right u).seen in
      let whole : List Access = own_accesses constants indices (Assign left right) in
      let write : Touch = write_touch w.cell (Number w.number) (number_behind 1 seen) in
      let comes : ComesBy t g u seen (assigned g left right u).result whole (to.access ∷ []) = assigned_comes t valid scope indices same u left right fits uses to whole (to.access ∷ [])
      (ap (λ (z : List Access). expr_reads constants indices right ++ z) to.is ∙ sym (append_assoc (expr_reads constants indices right) to.reads (to.access ∷ []))) in
      value_touched t g u (λ m. IsTouched m (numbered 1 seen ++ write ∷ [])) seen (assigned g left right u).result w 1 whole (to.access ∷ []) e comes (assigned_seen HoldsNoLines g (no_lines scope) (λ x js. refl) left right u)
      (λ m h. touched_left m (numbered 1 seen) (write ∷ []) h)
      (touched_right (number_behind 1 seen) (numbered 1 seen) (write ∷ []) (written w.cell (Number w.number) (number_behind 1 seen)), tt)

  pub print_touched : (u : Store) (items : List ItemTree) → list_all item_fits items ≡ true → list_all (item_is_right (kind_in t)) items ≡ true
      → (line : List ℕ) → (printed_line g items u).result ≡ Ok line → TouchAll (print_touches (printed_line g items u).seen line u) 1 (own_accesses constants indices (Print items))
  print_touched u items fits uses line e =
      let output : Access = write_of (codes "(OUT)") [] in
      let seen : List Seen = (printed_line g items u).seen in
      let whole : List Access = own_accesses constants indices (Print items) in
      let added : Content = Lines (lines_in (u Out) ++ line ∷ []) in
      let write : Touch = write_touch Out added (number_behind 1 seen) in
      let last : List Touch = read_touch Out (u Out) 0 ∷ (write ∷ []) in
      value_touched t g u (λ m. IsTouched m (numbered 1 seen ++ last)) seen (printed_line g items u).result line 1 whole (output ∷ []) e (line_comes t valid scope indices same u items fits uses whole (output ∷ []) refl) (line_seen HoldsNoLines g (no_lines scope) (λ x js. refl) items u)
      (λ m h. touched_left m (numbered 1 seen) last h)
      (touched_right (number_behind 1 seen) (numbered 1 seen) last (touched_later (number_behind 1 seen) (read_touch Out (u Out) 0) (write ∷ []) (written Out added (number_behind 1 seen))), tt)

  pub condition_touched : (u : Store) (c : CondTree) → cond_fits c ≡ true → cond_is_right (kind_in t) c ≡ true → (holds : Bool) → (truth g c u).result ≡ Ok holds → TouchAll (numbered 1 (truth g c u).seen) 1 (cond_reads constants indices c)
  condition_touched u c fits uses holds e =
      let whole : List Access = cond_reads constants indices c in
      let comes : ComesBy t g u (truth g c u).seen (truth g c u).result whole [] = truth_comes t valid scope indices same u c fits uses whole [] (sym (append-nil whole)) in
      value_touched t g u (λ m. IsTouched m (numbered 1 (truth g c u).seen)) (truth g c u).seen (truth g c u).result holds 1 whole [] e comes (truth_seen HoldsNoLines g (no_lines scope) (λ x js. refl) c u) (λ m h. h) tt

  -- the bounds of a DO, behind which its PRIVATE names are left
  pub bounds_touched : (u : Store) (h : Head) (b : StmtTrees) → (expr_fits h.first ≡ true) × (expr_fits h.last ≡ true) → (expr_is_right (kind_in t) h.first ≡ true) × (expr_is_right (kind_in t) h.last ≡ true) → (l : Limits) → (limits g h u).result ≡ Ok l
      → (P : ℕ → Type 0) → ((m : ℕ) → IsTouched m (numbered 1 (limits g h u).seen) → P m) → HaveAll P (number_behind 1 (limits g h u).seen) (private_writes constants h.private) → HaveAll P 1 (own_accesses constants indices (Do h b))
  bounds_touched u h b fits uses l e P touched behind =
      let whole : List Access = own_accesses constants indices (Do h b) in
      let comes : ComesBy t g u (limits g h u).seen (limits g h u).result whole (private_writes constants h.private) = limits_come t valid scope indices same u h fits.0 fits.1 uses.0 uses.1 whole (private_writes constants h.private) refl in
      value_touched t g u P (limits g h u).seen (limits g h u).result l 1 whole (private_writes constants h.private) e comes (limits_seen HoldsNoLines g (no_lines scope) (λ x js. refl) h u) touched behind

  -- PRIVATE names become undefined
  pub undefined_touched : (xs : List (List ℕ)) (k : ℕ) → list_all (is_scalar (kind_in t)) xs ≡ true → TouchAll (undefined_by scope k xs) k (private_writes constants xs)
  undefined_touched [] k uses = tt
  undefined_touched (x ∷ xs) k uses =
      let r = and_parts (is_scalar (kind_in t) x) (list_all (is_scalar (kind_in t)) xs) uses in
      let is : private_writes constants (x ∷ xs) ≡ write_of x [] ∷ private_writes constants xs = ap (λ (b : Bool). (if b then [] else write_of x [] ∷ []) ++ private_writes constants xs) (unvalued t valid x (scalar_unvalued t x r.0)) in
      let write : Touch = write_touch (cell_of scope x) Undefined k in
      let others : List Touch = undefined_by scope (suc k) xs in
      subst (λ (z : List Access). TouchAll (write ∷ others) k z) (sym is)
      (touched_left k (write ∷ []) others (written (cell_of scope x) Undefined k), have_weaker (λ m. IsTouched m others) (λ m. IsTouched m (write ∷ others)) (λ m h. touched_later m write others h) (suc k) (private_writes constants xs) (undefined_touched xs (suc k) r.1))

  -- an item of a READ, and then others
  module _ (item : ExprTree) (items : List ExprTree) (k : ℕ) (u : Store) (to : Targeting t valid scope indices same u item)
      (others : (m : ℕ) (d : Data) (v : Store) → (taking g items m d v).fault ≡ None → TouchAll (taking g items m d v).touches m (flat_map (left_accesses constants indices) items)) where
    abbrev more : List Access
    more = flat_map (left_accesses constants indices) items

    item_comes : ComesBy t g u (target g item u).seen (target g item u).result (left_accesses constants indices item ++ more) (to.access ∷ more)
    item_comes = to.comes (left_accesses constants indices item ++ more) (to.access ∷ more) (ap (λ (z : List Access). z ++ more) to.is ∙ append_assoc to.reads (to.access ∷ []) more)

    abbrev stored_as : ℤ → Data → Result Cell ℕ → Taking
    stored_as v left r = into_item k left v (target g item u).seen r (λ m c. taking g items m left (put c (Number v) u))

    into_touched : (v : ℤ) (left : Data) (r : Result Cell ℕ) → ComesBy t g u (target g item u).seen r (left_accesses constants indices item ++ more) (to.access ∷ more) → (stored_as v left r).fault ≡ None
        → TouchAll (stored_as v left r).touches k (left_accesses constants indices item ++ more)
    into_touched v left (Ok c) comes done =
        let seen : List Seen = (target g item u).seen in
        let write : Touch = write_touch c (Number v) (number_behind k seen) in
        let front : List Touch = numbered k seen ++ write ∷ [] in
        let after : List Touch = (taking g items (suc (number_behind k seen)) left (put c (Number v) u)).touches in
        seen_all t g u (λ m. IsTouched m (front ++ after)) seen k (left_accesses constants indices item ++ more) (to.access ∷ more) comes (target_seen HoldsNoLines g (no_lines scope) (λ x js. refl) item u)
        (λ m h. touched_left m front after (touched_left m (numbered k seen) (write ∷ []) h)) (
          touched_left (number_behind k seen) front after (touched_right (number_behind k seen) (numbered k seen) (write ∷ []) (written c (Number v) (number_behind k seen))),
          have_weaker (λ m. IsTouched m after) (λ m. IsTouched m (front ++ after)) (λ m h. touched_right m front after h) (suc (number_behind k seen)) more (others (suc (number_behind k seen)) left (put c (Number v) u) done),
        )
    into_touched v left (Err f) comes done = absurd cc

    taken_touched : (d : Data) (r : Result Taken ℕ) → (with_taken d r (λ v left. stored_as v left (target g item u).result)).fault ≡ None → TouchAll (with_taken d r (λ v left. stored_as v left (target g item u).result)).touches k (left_accesses constants indices item ++ more)
    taken_touched d (Ok x) done = into_touched x.value x.behind (target g item u).result item_comes done
    taken_touched d (Err f) done = absurd cc

  taking_touched : (items : List ExprTree) (k : ℕ) (d : Data) (u : Store) → list_all target_fits items ≡ true → list_all (target_is_right (kind_in t)) items ≡ true → (taking g items k d u).fault ≡ None
      → TouchAll (taking g items k d u).touches k (flat_map (left_accesses constants indices) items)
  taking_touched [] k d u fits uses done = tt
  taking_touched (item ∷ items) k d u fits uses done =
      let f = and_parts (target_fits item) (list_all target_fits items) fits in
      let r = and_parts (target_is_right (kind_in t) item) (list_all (target_is_right (kind_in t)) items) uses in
      taken_touched item items k u (targeting t valid scope indices same u item f.0 r.0) (λ m e v. taking_touched items m e v f.1 r.1) d (next_value_of d) done

  pub read_touched : (u : Store) (items : List ExprTree) → list_all target_fits items ≡ true → list_all (target_is_right (kind_in t)) items ≡ true → (reading g items u).fault ≡ None
      → TouchAll (reading_touches (reading g items u) u) 1 (own_accesses constants indices (Read items))
  read_touched u items fits uses done =
      let data_read : Touch = read_touch In (u In) 0 in
      let data_write : Touch = write_touch In (Lines (reading g items u).left.lines) 1 in
      let others : List Touch = (reading g items u).touches in (
        touched_later 1 data_read (data_write ∷ others) (touched_left 1 (data_write ∷ []) others (written In (Lines (reading g items u).left.lines) 1)),
        have_weaker (λ m. IsTouched m others) (λ m. IsTouched m (data_read ∷ (data_write ∷ others))) (λ m h. touched_later m data_read (data_write ∷ others) (touched_later m data_write others h)) 2
            (flat_map (left_accesses constants indices) items) (begun_touched (begun (lines_in (u In))) done),
      )
    where
      begun_touched : (r : Result Data ℕ) → (taking_from g items r u).fault ≡ None → TouchAll (taking_from g items r u).touches 2 (flat_map (left_accesses constants indices) items)
      begun_touched (Ok d) q = taking_touched items 2 d u fits uses q
      begun_touched (Err f) q = absurd cc
