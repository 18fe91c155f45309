-- Bodies that steps move or substitute in: each is a use of the law of bodies.
use Rattle.std.proofs.Common.{◌≡◌, ℕ, ◌+◌, ◌-◌, List, [], ◌∷◌, Bool, true, false, Some, None, refl, sym, ap, subst, ◌∙◌, if◌then◌else◌}
use Rattle.std.specs.Prelude.{◌==◌, ◌/◌, ◌%◌}
use Rattle.std.proofs.lemmas.Bool.{both_ways}
use Rattle.ped_steps.specs.ped_flow.specs.ped_base.specs.Lists.{is_same_text, is_among}
use Rattle.ped_steps.specs.ped_flow.specs.ped_base.proofs.NameEquality.{same_is}
use Rattle.ped_steps.specs.ped_flow.specs.ped_tree.specs.Constants.NamedConstants.{value_named}
use Rattle.ped_steps.specs.ped_flow.specs.ped_tree.specs.Tree.{ExprTree, Var, StmtTrees}
use Rattle.ped_steps.specs.ped_flow.specs.ped_tree.specs.NamesIn.{stmts_names}
use Rattle.ped_steps.specs.ped_symbolic.specs.Substitution.{substituted, all_substituted, statements_substituted}
use Rattle.ped_steps.specs.ped_store.specs.Cells.{Cell, Scalar, Element, Private, In, Out, Iteration}
use Rattle.ped_steps.specs.ped_store.specs.Acts.{Turn, iterations_of}
use Rattle.ped_steps.specs.ped_laws.specs.Acts.Renaming.{own_name}
use Rattle.ped_steps.specs.ped_laws.specs.Acts.Sets.{nothing}
use Rattle.ped_steps.specs.ped_laws.proofs.ActLaws.SameCells.{text_itself}
use Rattle.ped_steps.specs.ped_eval.specs.Scopes.{Setting, Frame, Scope, turns_of, index_value}
use Rattle.ped_steps.specs.ped_flow.specs.ped_tree.specs.NamesIn.{all_loop_variables}
use Rattle.ped_steps.specs.ped_eval.specs.Runs.{run_all}
use Rattle.ped_steps.specs.ped_laws.specs.Runs.Replaying.{goes_on}
use Rattle.ped_steps.specs.Runs.Exchanging.{IsExchange, AreExchanged}
use Rattle.ped_bodies.specs.Rewriting.{unchanged, all_unchanged, MayBeRewritten}
use Rattle.ped_bodies.specs.Likewise.{NamesScalars, DoesLikewise}
use Rattle.ped_bodies.specs.Standing.{SettingsAgree, GoLikewise}
use Rattle.ped_bodies.specs.Moving.{own_number, is_cell_among, moved_behind, turned, transposed, in_strips, peeled, in_loop, HaveNoCopies, TellAlike, TellTheSame, HaveSameCopies, ToldInside, GivesWayTo, CellsCorrespond}
use Rattle.ped_bodies.proofs.BodyLaws.LikewiseRuns.{go_likewise}
use Rattle.ped_bodies.proofs.BodyLaws.Rewritings.{unchanged_is, statements_unchanged, may_stay, substitution_is, statements_same, not_among}
use Rattle.ped_bodies.proofs.BodyLaws.MovedCells.{moved_names, own_names, moved_alone, moved_with_copies, same_cells, exchanged_cells, exchanged_names, turned_leads, in_loop_leads, transposed_leads, strips_lead, peeled_leads, unpeeled_leads}
use Rattle.ped_bodies.proofs.BodyLaws.StandingPlaces.{moved_stand, substituted_stand, variable_told}

-- iterations that tell the same
same_index : (r z : Frame) (scope other : Scope) (x : List ℕ) → TellAlike r z → index_value other x ≡ index_value scope x → index_value (z ∷ other) x ≡ index_value (r ∷ scope) x
same_index r z scope other x h k i = if is_same_text x (h.0 i) then Some (h.1 i) else k i

first_index : (r : Frame) (scope : Scope) → index_value (r ∷ scope) r.variable ≡ Some r.turn.value
first_index r scope = ap (λ (b : Bool). if b then Some r.turn.value else index_value scope r.variable) (text_itself r.variable)

later_index : (r : Frame) (scope : Scope) (x : List ℕ) → is_same_text x r.variable ≡ false → index_value (r ∷ scope) x ≡ index_value scope x
later_index r scope x h = ap (λ (b : Bool). if b then Some r.turn.value else index_value scope x) h

unlike : (x y : List ℕ) → is_same_text y x ≡ false → is_same_text x y ≡ false
unlike x y h = go (is_same_text x y) refl
  where
    go : (b : Bool) → is_same_text x y ≡ b → b ≡ false
    go true e = absurd (both_ways (is_same_text y x) h (ap (is_same_text y) (same_is x y e) ∙ text_itself y))
    go false e = refl

no_names : (c : Cell) → is_cell_among [] c ≡ true → nothing c ≡ true
no_names (Scalar x) e = absurd cc
no_names (Private x path) e = absurd cc
no_names (Element x js) e = absurd cc
no_names In e = absurd cc
no_names Out e = absurd cc

-- two DO variables told in the other order
swapped_index : (i j i' j' : Frame) (scope : Scope) (x : List ℕ) → TellAlike i i' → TellAlike j j' → is_same_text i.variable j.variable ≡ false → index_value (i' ∷ (j' ∷ scope)) x ≡ index_value (j ∷ (i ∷ scope)) x
swapped_index i j i' j' scope x h k apart =
    (λ a. if is_same_text x (h.0 a) then Some (h.1 a) else (if is_same_text x (k.0 a) then Some (k.1 a) else index_value scope x))
    ∙ go (is_same_text x i.variable) (is_same_text x j.variable) refl refl
  where
    go : (a b : Bool) → is_same_text x i.variable ≡ a → is_same_text x j.variable ≡ b
        → (if a then Some i.turn.value else (if b then Some j.turn.value else index_value scope x)) ≡ (if b then Some j.turn.value else (if a then Some i.turn.value else index_value scope x))
    go true true u v = absurd (both_ways (is_same_text i.variable j.variable) apart (ap (λ (y : List ℕ). is_same_text y j.variable) (sym (same_is x i.variable u)) ∙ v))
    go true false u v = refl
    go false true u v = refl
    go false false u v = refl

-- a variable gives way to that of another loop
gives_way : (q : Setting) (names loops : List (List ℕ)) (r z : Frame) (scope : Scope) → z.turn.value ≡ r.turn.value → value_named q.constants r.variable ≡ None → value_named q.constants z.variable ≡ None → is_among z.variable loops ≡ false → is_among z.variable names ≡ false
    → GivesWayTo q names loops r.variable (Var z.variable) (r ∷ scope) (z ∷ scope)
gives_way q names loops r z scope value none its_none outside absent = record {
  value = r.turn.value;
  index = first_index r scope;
  no_constant = none;
  told = variable_told q loops r.variable (z ∷ scope) z.variable r.turn.value its_none (first_index z scope ∙ ap Some value) outside;
  others = λ y among apart. later_index z scope y (unlike y z.variable (not_among names z.variable y absent among)) ∙ sym (later_index r scope y (unlike y r.variable apart));
}

itself_same : (scope : Scope) → HaveSameCopies [] scope scope
itself_same [] = tt
itself_same (f ∷ fs) = (refl, refl, (λ x apart. refl), itself_same fs)

module _ (f : ℕ → ℕ) (p q : Setting) (ts : StmtTrees) (n m : ℕ) (agree : SettingsAgree f p q ts n m) where
  abbrev names : List (List ℕ)
  names = stmts_names ts

  abbrev loops : List (List ℕ)
  loops = all_loop_variables ts

  abbrev Moved : (Cell → Cell) → (Cell → Bool) → Scope → Scope → Type 0
  Moved name idle scope other = GoLikewise name idle f p q ts ts n m scope other

  abbrev Substituted : List ℕ → ExprTree → (Cell → Cell) → (Cell → Bool) → Scope → Scope → Type 0
  Substituted x by name idle scope other = GoLikewise name idle f p q ts (statements_substituted x by ts) n m scope other

  pub moved : (name : Cell → Cell) (idle : Cell → Bool) (scope other : Scope) → NamesScalars name → TellTheSame names scope other → CellsCorrespond name idle f names scope other → Moved name idle scope other
  moved name idle scope other laws tell cells s going =
      subst (λ (us : StmtTrees). DoesLikewise name idle f (turns_of scope) (turns_of other) (run_all p ts n scope s).acts goes_on (run_all q us m other)) (statements_unchanged ts)
      (go_likewise unchanged all_unchanged name idle f p q ts n m scope other unchanged_is laws
      (record { may = may_stay p.constants ts; agree = agree; places = moved_stand name idle f q names loops scope other tell cells }) s going)

  pub put_in : (x : List ℕ) (by : ExprTree) (name : Cell → Cell) (idle : Cell → Bool) (scope other : Scope) → NamesScalars name → MayBeRewritten (substituted x by) p.constants ts → GivesWayTo q names loops x by scope other → CellsCorrespond name idle f names scope other
      → Substituted x by name idle scope other
  put_in x by name idle scope other laws may gives cells s going =
      subst (λ (us : StmtTrees). DoesLikewise name idle f (turns_of scope) (turns_of other) (run_all p ts n scope s).acts goes_on (run_all q us m other)) (sym (statements_same x by ts))
      (go_likewise (substituted x by) (all_substituted x by) name idle f p q ts n m scope other (substitution_is x by) laws
      (record { may = may; agree = agree; places = substituted_stand x by name idle f q names loops scope other gives cells }) s going)

  -- where one iteration is peeled off: its number gives way to a literal
  module _ (scope : Scope) where
    abbrev front : List Iteration
    front = iterations_of (turns_of scope)

    pub peeled_body : (l k : ℕ) (r : Frame) (by : ExprTree) → r.turn.statement ≡ l → r.turn.number ≡ k → r.private ≡ [] → MayBeRewritten (substituted r.variable by) p.constants ts → value_named q.constants r.variable ≡ None
        → ToldInside q loops r.variable scope by r.turn.value → Substituted r.variable by (moved_behind front (peeled l k f)) nothing (r ∷ scope) scope
    peeled_body l k r by at number alone may none told =
        put_in r.variable by (moved_behind front (peeled l k f)) nothing (r ∷ scope) scope (moved_names front (peeled l k f)) may
        (record { value = r.turn.value; index = first_index r scope; no_constant = none; told = told; others = other_index })
        (moved_alone nothing f (peeled l k f) names scope (r ∷ []) [] (alone, tt) tt refl (peeled_leads l k f r at number))
      where
        other_index : (y : List ℕ) → is_among y names ≡ true → is_same_text r.variable y ≡ false → index_value scope y ≡ index_value (r ∷ scope) y
        other_index y among apart = sym (later_index r scope y (unlike y r.variable apart))

-- bodies whose statements keep their numbers
module _ (p q : Setting) (ts : StmtTrees) (n m : ℕ) (agree : SettingsAgree own_number p q ts n m) where
  abbrev its_names : List (List ℕ)
  its_names = stmts_names ts

  abbrev its_loops : List (List ℕ)
  its_loops = all_loop_variables ts

  -- in the same iterations, where some names have other copies: parallel and serial loops, and what stands round a loop that a step changes
  pub with_other_copies : (apart : List (List ℕ)) (scope other : Scope) → HaveSameCopies apart scope other → TellTheSame its_names scope other → Moved own_number p q ts n m agree own_name (is_cell_among apart) scope other
  with_other_copies apart scope other same tell = moved own_number p q ts n m agree own_name (is_cell_among apart) scope other own_names tell (same_cells apart its_names (is_cell_among apart) scope other (λ c h. h) same)

  -- in the same iterations, where two cells have changed places: scalars that become private
  pub with_exchanged_cells : (name : Cell → Cell) (scope other : Scope) → IsExchange name → AreExchanged name scope other → Moved own_number p q ts n m agree name nothing scope other
  with_exchanged_cells name scope other laws same =
      moved own_number p q ts n m agree name nothing scope other (exchanged_names name laws) (λ x among. same.index x) (exchanged_cells name nothing its_names scope other same)

  -- in the same iteration of a loop that has got another variable: the second one of two loops that are fused
  pub renamed_body : (scope : Scope) (r z : Frame) → z.turn ≡ r.turn → z.private ≡ r.private → MayBeRewritten (substituted r.variable (Var z.variable)) p.constants ts → value_named q.constants r.variable ≡ None → value_named q.constants z.variable ≡ None
      → is_among z.variable its_loops ≡ false → is_among z.variable its_names ≡ false → Substituted own_number p q ts n m agree r.variable (Var z.variable) own_name nothing (r ∷ scope) (z ∷ scope)
  renamed_body scope r z turn private may none its_none outside absent =
      put_in own_number p q ts n m agree r.variable (Var z.variable) own_name nothing (r ∷ scope) (z ∷ scope) own_names may (gives_way q its_names its_loops r z scope (ap (λ (t : Turn). t.value) turn) none its_none outside absent)
      (same_cells [] its_names nothing (r ∷ scope) (z ∷ scope) no_names (ap (λ (t : Turn). t.statement) turn, ap (λ (t : Turn). t.number) turn, (λ x apart. ap (is_among x) private), itself_same scope))

  -- in the same iterations, with an expression in place of a DO variable that has another value: loops that are skewed
  pub skewed_body : (x : List ℕ) (by : ExprTree) (scope other : Scope) → HaveSameCopies [] scope other → MayBeRewritten (substituted x by) p.constants ts → GivesWayTo q its_names its_loops x by scope other → Substituted own_number p q ts n m agree x by own_name nothing scope other
  skewed_body x by scope other same may gives = put_in own_number p q ts n m agree x by own_name nothing scope other own_names may gives (same_cells [] its_names nothing scope other no_names same)

  module _ (scope : Scope) where
    abbrev its_front : List Iteration
    its_front = iterations_of (turns_of scope)

    -- another iteration of the same loop: the last for the first
    pub reversed_body : (l k : ℕ) (r z : Frame) → r.turn.statement ≡ l → z.turn.statement ≡ l → z.turn.number ≡ k + 1 - r.turn.number → TellAlike r z → z.private ≡ r.private → Moved own_number p q ts n m agree (moved_behind its_front (turned l k)) nothing (r ∷ scope) (z ∷ scope)
    reversed_body l k r z at there number tell same =
        moved own_number p q ts n m agree (moved_behind its_front (turned l k)) nothing (r ∷ scope) (z ∷ scope) (moved_names its_front (turned l k)) (λ x among. same_index r z scope scope x tell refl)
        (moved_with_copies nothing own_number (turned l k) its_names scope r z same refl (turned_leads l k r z at there number))

    -- the same iteration of another loop: loops that are distributed
    pub distributed_body : (l k : ℕ) (r z : Frame) → r.turn.statement ≡ l → z.turn.statement ≡ k → z.turn.number ≡ r.turn.number → TellAlike r z → z.private ≡ r.private → Moved own_number p q ts n m agree (moved_behind its_front (in_loop l k)) nothing (r ∷ scope) (z ∷ scope)
    distributed_body l k r z at there number tell same =
        moved own_number p q ts n m agree (moved_behind its_front (in_loop l k)) nothing (r ∷ scope) (z ∷ scope) (moved_names its_front (in_loop l k)) (λ x among. same_index r z scope scope x tell refl)
        (moved_with_copies nothing own_number (in_loop l k) its_names scope r z same refl (in_loop_leads l k r z at there number))

    -- the same iteration of another loop with another variable: loops that are fused
    pub fused_body : (l k : ℕ) (r z : Frame) → r.turn.statement ≡ l → z.turn.statement ≡ k → z.turn.number ≡ r.turn.number → z.turn.value ≡ r.turn.value → z.private ≡ r.private → MayBeRewritten (substituted r.variable (Var z.variable)) p.constants ts
        → value_named q.constants r.variable ≡ None → value_named q.constants z.variable ≡ None → is_among z.variable its_loops ≡ false → is_among z.variable its_names ≡ false
        → Substituted own_number p q ts n m agree r.variable (Var z.variable) (moved_behind its_front (in_loop l k)) nothing (r ∷ scope) (z ∷ scope)
    fused_body l k r z at there number value same may none its_none outside absent =
        put_in own_number p q ts n m agree r.variable (Var z.variable) (moved_behind its_front (in_loop l k)) nothing (r ∷ scope) (z ∷ scope) (moved_names its_front (in_loop l k)) may
        (gives_way q its_names its_loops r z scope value none its_none outside absent)
        (moved_with_copies nothing own_number (in_loop l k) its_names scope r z same refl (in_loop_leads l k r z at there number))

    -- an iteration of a strip
    pub stripped_body : (l inner size : ℕ) (r strip z : Frame) → r.turn.statement ≡ l → strip.turn.statement ≡ l → z.turn.statement ≡ inner → strip.turn.number ≡ (r.turn.number - 1) / size + 1 → z.turn.number ≡ (r.turn.number - 1) % size + 1 → TellAlike r z
        → r.private ≡ [] → strip.private ≡ [] → z.private ≡ [] → is_among strip.variable its_names ≡ false → Moved own_number p q ts n m agree (moved_behind its_front (in_strips l inner size)) nothing (r ∷ scope) (z ∷ (strip ∷ scope))
    stripped_body l inner size r strip z at there inside first second tell old_alone strip_alone alone absent =
        moved own_number p q ts n m agree (moved_behind its_front (in_strips l inner size)) nothing (r ∷ scope) (z ∷ (strip ∷ scope)) (moved_names its_front (in_strips l inner size))
        (λ x among. same_index r z scope (strip ∷ scope) x tell (later_index strip scope x (unlike x strip.variable (not_among its_names strip.variable x absent among))))
        (moved_alone nothing own_number (in_strips l inner size) its_names scope (r ∷ []) (z ∷ (strip ∷ [])) (old_alone, tt) (alone, (strip_alone, tt)) refl (strips_lead l inner size r strip z at there inside first second))

    -- an iteration that isn't peeled off
    pub unpeeled_body : (l k : ℕ) (f : ℕ → ℕ) (r z : Frame) → r.turn.statement ≡ l → z.turn.statement ≡ l → (r.turn.number == k) ≡ false → z.turn.number ≡ (if k == 1 then r.turn.number - 1 else r.turn.number) → TellAlike r z → z.private ≡ r.private
        → Moved own_number p q ts n m agree (moved_behind its_front (peeled l k f)) nothing (r ∷ scope) (z ∷ scope)
    unpeeled_body l k f r z at there other number tell same =
        moved own_number p q ts n m agree (moved_behind its_front (peeled l k f)) nothing (r ∷ scope) (z ∷ scope) (moved_names its_front (peeled l k f)) (λ x among. same_index r z scope scope x tell refl)
        (moved_with_copies nothing own_number (peeled l k f) its_names scope r z same refl (unpeeled_leads l k f r z at there other number))

    -- an iteration of two loops that are interchanged
    pub interchanged_body : (outer inner : ℕ) (column row : ℕ → ℕ → ℕ) (j i i' j' : Frame) → i.turn.statement ≡ outer → j'.turn.statement ≡ outer → i'.turn.statement ≡ inner → j'.turn.number ≡ column i.turn.number j.turn.number → i'.turn.number ≡ row i.turn.number j.turn.number
        → TellAlike i i' → TellAlike j j' → is_same_text i.variable j.variable ≡ false → HaveNoCopies (j ∷ (i ∷ [])) → HaveNoCopies (i' ∷ (j' ∷ [])) → Moved own_number p q ts n m agree (moved_behind its_front (transposed outer inner column row)) nothing (j ∷ (i ∷ scope)) (i' ∷ (j' ∷ scope))
    interchanged_body outer inner column row j i i' j' at there inside first second tell its_tell apart old_alone alone =
        moved own_number p q ts n m agree (moved_behind its_front (transposed outer inner column row)) nothing (j ∷ (i ∷ scope)) (i' ∷ (j' ∷ scope)) (moved_names its_front (transposed outer inner column row))
        (λ x among. swapped_index i j i' j' scope x tell its_tell apart)
        (moved_alone nothing own_number (transposed outer inner column row) its_names scope (j ∷ (i ∷ [])) (i' ∷ (j' ∷ [])) old_alone alone refl (transposed_leads outer inner column row j i i' j' at there inside first second))
