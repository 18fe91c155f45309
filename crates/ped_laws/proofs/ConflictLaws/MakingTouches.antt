-- What statements touch: accesses of the references of the program, and writes that keep what the stores of an execution hold.
use Rattle.std.proofs.Common.{◌≡◌, ℕ, suc, ◌<◌, ℤ, List, [], ◌∷◌, ◌++◌, Bool, true, false, not, ◌==◌, Result, Ok, Err, refl, sym, ap, subst, ◌∙◌, append_assoc, append-nil, inl, inr, arith, if◌then◌else◌}
use Rattle.std.specs.Prelude.{codes}
use Rattle.std.specs.List.{list_all, flat_map}
use Rattle.std.specs.Str.Parse.{signed_digits_value}
use Rattle.std.proofs.lemmas.Bool.{and_parts}
use Rattle.ped_flow.specs.ped_base.specs.Lists.{has_some, is_among}
use Rattle.ped_flow.specs.ped_base.specs.Arithmetic.Faults.{◌>>=◌}
use Rattle.ped_flow.specs.ped_tree.specs.Tree.{ExprTree, CondTree, ItemTree, Head, StmtTrees, Assign, Do, Print, Read, ProgramTree}
use Rattle.ped_flow.specs.ped_tree.specs.Nests.{Loop, indices_of}
use Rattle.ped_flow.specs.ped_tree.specs.Accesses.{Access, write_of, expr_reads, cond_reads, left_accesses, private_writes, own_accesses, constant_names}
use Rattle.ped_flow.specs.ped_tree.specs.Grammar.Words.{is_name}
use Rattle.ped_flow.specs.ped_tree.specs.Grammar.Fits.{expr_fits, target_fits, cond_fits, item_fits}
use Rattle.ped_graph.specs.ped_refs.specs.References.{Reference, references, numbered_accesses}
use Rattle.ped_graph.specs.ped_symbols.specs.NameRefusals.{IsValid}
use Rattle.ped_graph.specs.ped_symbols.specs.Kinds.{kind_in}
use Rattle.ped_graph.specs.ped_symbols.specs.RightUses.RightUses.{is_scalar, expr_is_right, target_is_right, cond_is_right, item_is_right}
use Rattle.ped_flow.specs.ped_affine.specs.Assigned.{assigned_left}
use Rattle.ped_flow.specs.ped_affine.specs.Ranges as ranges
use Rattle.ped_eval.specs.ped_store.specs.Cells.{Cell, Scalar, In, Out, same_cell}
use Rattle.ped_eval.specs.ped_store.specs.Stores.{Content, Undefined, Number, Lines, Store, put, lines_in, storable, is_storable, out_of_range, bad_data}
use Rattle.ped_eval.specs.ped_store.specs.DataLines.{Data, Taken, begun, behind_blanks, word_of, behind_value, is_value, number_of, taken_from, value_from, next_value_of}
use Rattle.ped_eval.specs.ped_store.specs.Acts.{Manner, reads, writes, is_told, Touch, touched, store_behind}
use Rattle.ped_eval.specs.ped_store.specs.Races.{is_write}
use Rattle.ped_laws.specs.Acts.Orders.{IsIn}
use Rattle.ped_laws.proofs.ActLaws.SameCells.{cell_is}
use Rattle.ped_eval.specs.Scopes.{Scope, Names, names_in, cell_of}
use Rattle.ped_eval.specs.Evaluation.{Seen, cell_seen, index_seen, numbered, number_behind}
use Rattle.ped_eval.specs.Values.{truth, target}
use Rattle.ped_eval.specs.Statements.{read_touch, write_touch, Stored, assigned, assignment_touches, printed_line, print_touches, into_item, with_taken, taking, taking_from, reading, reading_touches}
use Rattle.ped_eval.specs.Loops.{Limits, limits, Entered, undefined_by, undefined_all, left_in_variable, exit_touches, exit_when_none}
use Rattle.ped_eval.specs.Outcomes.{setting_of}
use Rattle.ped_laws.proofs.RunLaws.Touches.{Each, each_none, each_more, each_append}
use Rattle.ped_laws.specs.Covering.Within.{is_storing}
use Rattle.ped_laws.specs.Conflicts.Making.{StandsFor}
use Rattle.ped_laws.specs.Conflicts.Reaching.{IsStoreIn}
use Rattle.ped_laws.proofs.ConflictLaws.Scoping.{variables_of, scalar_named, storing_of}
use Rattle.ped_laws.proofs.ConflictLaws.MakingConstants.{unvalued}
use Rattle.ped_laws.proofs.ConflictLaws.MakingReads.{ok_one, named_cell, scalar_unvalued, Walk, ComesBy, truth_comes, line_comes, limits_come, Targeting, targeting, assigned_comes, assigned_to}
use Rattle.ped_laws.proofs.ConflictLaws.MakingParts.{among_left, among_right, among_first, among_rest}

-- a touch keeps what the stores of an execution hold: numbers that it writes are storable, and a scalar's own cell that it writes is that of a name that is assigned
pub record Keeps (s : ranges.Setting) (t : Touch) : Type 0 where
  pub number : (c : Cell) (n : ℤ) → is_write t.manner ≡ true → same_cell t.cell c ≡ true → is_storing s.loop_variables c ≡ true → t.content ≡ Number n → is_storable n ≡ true
  pub scalar : (x : List ℕ) → is_write t.manner ≡ true → same_cell t.cell (Scalar x) ≡ true → is_among x s.assigned ≡ true

false_true : {A : Type 0} → false ≡ true → A
false_true h = absurd cc

-- stores behind such touches
module _ (s : ranges.Setting) (first : Store) where
  kept_one : (m : Manner) (d : Cell) (content : Content) (k : ℕ) (u : Store) → Keeps s (record { cell = d; manner = m; content = content; reference = k }) → IsStoreIn s first u → IsStoreIn s first (touched m d content u)
  kept_one reads d content k u keeps h = h
  kept_one is_told d content k u keeps h = h
  kept_one writes d content k u keeps h = record {
    storable = λ c n storing holds. number c n (same_cell d c) refl storing holds;
    constant = λ x free. scalar x (same_cell d (Scalar x)) refl free;
  }
    where
      number : (c : Cell) (n : ℤ) (b : Bool) → same_cell d c ≡ b → is_storing s.loop_variables c ≡ true → (if b then content else u c) ≡ Number n → is_storable n ≡ true
      number c n true e storing holds = keeps.number c n refl e storing holds
      number c n false e storing holds = h.storable c n storing holds

      scalar : (x : List ℕ) (b : Bool) → same_cell d (Scalar x) ≡ b → is_among x s.assigned ≡ false → (if b then content else u (Scalar x)) ≡ first (Scalar x)
      scalar x true e free = false_true (sym free ∙ keeps.scalar x refl e)
      scalar x false e free = h.constant x free

  pub kept : (ts : List Touch) (u : Store) → Each (Keeps s) ts → IsStoreIn s first u → IsStoreIn s first (store_behind ts u)
  kept [] u all h = h
  kept (t ∷ ts) u all h = kept ts (touched t.manner t.cell t.content u) (λ x i. all x (inr i)) (kept_one t.manner t.cell t.content t.reference u (all t (inl refl)) h)

-- a value of the data is storable
storable_by : (b : Bool) (x n : ℤ) → is_storable x ≡ b → (if b then Ok x else Err out_of_range) ≡ Ok n → is_storable n ≡ true
storable_by true x n e h = subst (λ (z : ℤ). is_storable z ≡ true) (ok_one x n h) e
storable_by false x n e h = absurd cc

number_by : (b : Bool) (x n : ℤ) → (if b then storable x else Err bad_data) ≡ Ok n → is_storable n ≡ true
number_by true x n h = storable_by (is_storable x) x n refl h
number_by false x n h = absurd cc

taken_by : (text : List ℕ) (lines : List (List ℕ)) (r : Result ℤ ℕ) (t : Taken) → ((n : ℤ) → r ≡ Ok n → is_storable n ≡ true)
    → (r >>= λ n. Ok (record { value = n; behind = record { rest = behind_value text; lines = lines } })) ≡ Ok t → is_storable t.value ≡ true
taken_by text lines (Ok n) t f h = subst (λ (u : Taken). is_storable u.value ≡ true) (ok_one (record { value = n; behind = record { rest = behind_value text; lines = lines } }) t h) (f n refl)
taken_by text lines (Err n) t f h = absurd cc

front_by : (b : Bool) (text : List ℕ) (lines : List (List ℕ)) (other : Result Taken ℕ) (t : Taken) → (other ≡ Ok t → is_storable t.value ≡ true) → (if b then taken_from text lines else other) ≡ Ok t → is_storable t.value ≡ true
front_by true text lines other t f h = taken_by text lines (number_of (word_of text)) t (λ n. number_by (is_value (word_of text)) (signed_digits_value 10 (word_of text)) n) h
front_by false text lines other t f h = f h

value_storable : (rest : List ℕ) (lines : List (List ℕ)) (t : Taken) → value_from rest lines ≡ Ok t → is_storable t.value ≡ true
value_storable rest [] t h = front_by (has_some (behind_blanks rest)) (behind_blanks rest) [] (Err bad_data) t (λ e. absurd cc) h
value_storable rest (line ∷ more) t h = front_by (has_some (behind_blanks rest)) (behind_blanks rest) (line ∷ more) (value_from line more) t (value_storable line more t) h

-- at a place in an execution of an outermost DO
module _ (t : ProgramTree) (valid : IsValid t) (s : ranges.Setting) (first : Store) (n : ℕ) (nest : List Loop) (scope : Scope) where
  abbrev constants : List (List ℕ)
  constants = constant_names t.decls

  abbrev indices : List (List ℕ)
  indices = indices_of nest

  abbrev g : Names
  g = names_in (setting_of t) scope

  -- accesses of the statement are references of the program, the first with this number
  abbrev pub Listed : ℕ → List Access → Type 0
  Listed k accesses = (r : Reference) → IsIn r (numbered_accesses n k nest accesses) → IsIn r (references t)

  -- the reference that makes a touch
  pub record Making (x : Touch) : Type 0 where
    pub access : Access
    pub listed : IsIn (record { statement = n; number = x.reference; access = access; nest = nest }) (references t)
    pub manner : is_write x.manner ≡ access.writes
    pub store : Store
    pub within : IsStoreIn s first store
    pub stands : StandsFor t g store access.name access.subscripts x.cell

  -- a touch keeps the stores of the execution, and where it has a number a reference makes it
  pub record Good (x : Touch) : Type 0 where
    pub keeps : Keeps s x
    pub made : 0 < x.reference → Making x

  -- touches of which each keeps the stores of the execution
  pub good_keeps : (ts : List Touch) → Each Good ts → Each (Keeps s) ts
  good_keeps ts all x i = (all x i).keeps

  listed_rest : (k : ℕ) (a : Access) (accesses rest : List Access) → accesses ≡ a ∷ rest → Listed k accesses → Listed (suc k) rest
  listed_rest k a accesses rest is l r i = subst (λ (z : List Access). Listed k z) is l r (inr i)

  listed_first : (k : ℕ) (a : Access) (accesses rest : List Access) → accesses ≡ a ∷ rest → Listed k accesses → IsIn (record { statement = n; number = k; access = a; nest = nest }) (references t)
  listed_first k a accesses rest is l = subst (λ (z : List Access). Listed k z) is l (record { statement = n; number = k; access = a; nest = nest }) (inl refl)

  -- touches that write nothing keep all
  quiet_keeps : (x : Touch) → is_write x.manner ≡ false → Keeps s x
  quiet_keeps x h = record { number = λ c m w e storing holds. false_true (sym h ∙ w); scalar = λ y w e. false_true (sym h ∙ w) }

  -- a storable number keeps all, where the name is assigned
  stored_keeps : (c : Cell) (v : ℤ) (k : ℕ) → is_storable v ≡ true → ((x : List ℕ) → same_cell c (Scalar x) ≡ true → is_among x s.assigned ≡ true) → Keeps s (write_touch c (Number v) k)
  stored_keeps c v k small names = record {
    number = λ d m w e storing holds. subst (λ (z : ℤ). is_storable z ≡ true) (number_one v m holds) small;
    scalar = λ x w e. names x e;
  }
    where
      number_one : (a b : ℤ) → Number a ≡ Number b → a ≡ b
      number_one a b h = cc

  -- lines are no numbers, and no scalar holds them
  lines_keep : (c : Cell) (lines : List (List ℕ)) (k : ℕ) → ((x : List ℕ) → same_cell c (Scalar x) ≡ false) → Keeps s (write_touch c (Lines lines) k)
  lines_keep c lines k other = record { number = λ d m w e storing holds. absurd cc; scalar = λ x w e. false_true (sym (other x) ∙ e) }

  module _ (u : Store) (stored : IsStoreIn s first u) where
    -- what an evaluation has seen, and what is left of the accesses
    seen_good : (seen : List Seen) (k : ℕ) (accesses rest : List Access) → Walk t g u seen accesses rest → Listed k accesses → Each Good (numbered k seen) × Listed (number_behind k seen) rest
    seen_good [] k accesses rest walk l = (each_none Good, subst (λ (z : List Access). Listed k z) walk l)
    seen_good (cell_seen c content ∷ more) k accesses rest walk l =
        let p = seen_good more (suc k) walk.1 rest walk.5 (listed_rest k walk.0 accesses walk.1 walk.2 l) in (
          each_more Good (record { cell = c; manner = reads; content = content; reference = k }) (numbered (suc k) more)
              (record {
                keeps = quiet_keeps (record { cell = c; manner = reads; content = content; reference = k }) refl;
                made = λ above. record { access = walk.0; listed = listed_first k walk.0 accesses walk.1 walk.2 l; manner = sym walk.3; store = u; within = stored; stands = walk.4 };
              })
              p.0,
          p.1,
        )
    seen_good (index_seen c v ∷ more) k accesses rest walk l =
        let p = seen_good more k accesses rest walk l in (
          each_more Good (record { cell = c; manner = is_told; content = Number v; reference = 0 }) (numbered k more)
              (record { keeps = quiet_keeps (record { cell = c; manner = is_told; content = Number v; reference = 0 }) refl; made = λ above. absurd (omega (arith, above)) })
              p.0,
          p.1,
        )

    -- a write by the next of the accesses
    written_good : (c : Cell) (content : Content) (k : ℕ) (a : Access) (accesses rest : List Access) → accesses ≡ a ∷ rest → Listed k accesses → a.writes ≡ true → StandsFor t g u a.name a.subscripts c → Keeps s (write_touch c content k) → Good (write_touch c content k)
    written_good c content k a accesses rest is l w stands keeps = record {
      keeps = keeps;
      made = λ above. record { access = a; listed = listed_first k a accesses rest is l; manner = sym w; store = u; within = stored; stands = stands };
    }

  -- an evaluation that has come to a value has seen all that it reads
  walk_of : {A : Type 0} (u : Store) (seen : List Seen) (r : Result A ℕ) (x : A) (accesses rest : List Access) → r ≡ Ok x → ComesBy t g u seen r accesses rest → Walk t g u seen accesses rest
  walk_of u seen r x accesses rest e comes = subst (λ (q : Result _ ℕ). ComesBy t g u seen q accesses rest) e comes

  -- what an evaluation has seen, whatever it has come to
  evaluated_good : {A : Type 0} (u : Store) → IsStoreIn s first u → (seen : List Seen) (r : Result A ℕ) (accesses rest : List Access) → ComesBy t g u seen r accesses rest → Listed 1 accesses → Each Good (numbered 1 seen)
  evaluated_good u stored seen (Ok x) accesses rest comes l = (seen_good u stored seen 1 accesses rest comes l).0
  evaluated_good u stored seen (Err f) accesses rest comes l = (seen_good u stored seen 1 accesses comes.0 comes.1 l).0

  module _ (same : (x : List ℕ) → is_among x indices ≡ is_among x (variables_of scope)) where
    -- an assignment
    module _ (u : Store) (stored : IsStoreIn s first u) (left right : ExprTree) (to_fits : target_fits left ≡ true) (to_right : target_is_right (kind_in t) left ≡ true) (fits : expr_fits right ≡ true) (uses : expr_is_right (kind_in t) right ≡ true)
        (l : Listed 1 (own_accesses constants indices (Assign left right))) where
      abbrev to : Targeting t valid scope indices same u left
      to = targeting t valid scope indices same u left to_fits to_right

      assignment_comes : ComesBy t g u (assigned g left right u).seen (assigned g left right u).result (own_accesses constants indices (Assign left right)) (to.access ∷ [])
      assignment_comes = assigned_comes t valid scope indices same u left right fits uses to (own_accesses constants indices (Assign left right)) (to.access ∷ [])
          (ap (λ (z : List Access). expr_reads constants indices right ++ z) to.is ∙ sym (append_assoc (expr_reads constants indices right) to.reads (to.access ∷ [])))

      pub assignment_seen : Each Good (numbered 1 (assigned g left right u).seen)
      assignment_seen = evaluated_good u stored (assigned g left right u).seen (assigned g left right u).result (own_accesses constants indices (Assign left right)) (to.access ∷ []) assignment_comes l

      pub assignment_good : ((x : List ℕ) → is_among x (assigned_left left) ≡ true → is_among x s.assigned ≡ true) → (w : Stored) → (assigned g left right u).result ≡ Ok w → Each Good (assignment_touches (assigned g left right u).seen w)
      assignment_good names w e =
          let seen : List Seen = (assigned g left right u).seen in
          let whole : List Access = own_accesses constants indices (Assign left right) in
          let p = seen_good u stored seen 1 whole (to.access ∷ []) (walk_of u seen (assigned g left right u).result w whole (to.access ∷ []) e assignment_comes) l in
          let q = assigned_to t valid scope indices same u left right w e in
          each_append Good (numbered 1 seen) (write_touch w.cell (Number w.number) (number_behind 1 seen) ∷ []) p.0
          (each_more Good (write_touch w.cell (Number w.number) (number_behind 1 seen)) []
          (written_good u stored w.cell (Number w.number) (number_behind 1 seen) to.access (to.access ∷ []) [] refl p.1 to.writes (to.stands w.cell q.0)
          (stored_keeps w.cell w.number (number_behind 1 seen) q.1 (λ x h. names x (to.of_name w.cell x q.0 h))))
          (each_none Good))

    -- a PRINT
    module _ (u : Store) (stored : IsStoreIn s first u) (items : List ItemTree) (fits : list_all item_fits items ≡ true) (uses : list_all (item_is_right (kind_in t)) items ≡ true) (l : Listed 1 (own_accesses constants indices (Print items))) where
      abbrev output : Access
      output = write_of (codes "(OUT)") []

      print_comes : ComesBy t g u (printed_line g items u).seen (printed_line g items u).result (own_accesses constants indices (Print items)) (output ∷ [])
      print_comes = line_comes t valid scope indices same u items fits uses (own_accesses constants indices (Print items)) (output ∷ []) refl

      pub print_seen : Each Good (numbered 1 (printed_line g items u).seen)
      print_seen = evaluated_good u stored (printed_line g items u).seen (printed_line g items u).result (own_accesses constants indices (Print items)) (output ∷ []) print_comes l

      pub print_good : (line : List ℕ) → (printed_line g items u).result ≡ Ok line → Each Good (print_touches (printed_line g items u).seen line u)
      print_good line e =
          let seen : List Seen = (printed_line g items u).seen in
          let whole : List Access = own_accesses constants indices (Print items) in
          let p = seen_good u stored seen 1 whole (output ∷ []) (walk_of u seen (printed_line g items u).result line whole (output ∷ []) e print_comes) l in
          let lines : Content = Lines (lines_in (u Out) ++ line ∷ []) in
          each_append Good (numbered 1 seen) (read_touch Out (u Out) 0 ∷ (write_touch Out lines (number_behind 1 seen) ∷ [])) p.0
          (each_more Good (read_touch Out (u Out) 0) (write_touch Out lines (number_behind 1 seen) ∷ []) (record { keeps = quiet_keeps (read_touch Out (u Out) 0) refl; made = λ above. absurd (omega (arith, above)) })
          (each_more Good (write_touch Out lines (number_behind 1 seen)) []
          (written_good u stored Out lines (number_behind 1 seen) output (output ∷ []) [] refl p.1 refl refl (lines_keep Out (lines_in (u Out) ++ line ∷ []) (number_behind 1 seen) (λ x. refl)))
          (each_none Good)))

    -- the condition of an IF
    pub truth_good : (u : Store) → IsStoreIn s first u → (c : CondTree) → cond_fits c ≡ true → cond_is_right (kind_in t) c ≡ true → Listed 1 (cond_reads constants indices c) → Each Good (numbered 1 (truth g c u).seen)
    truth_good u stored c fits uses l =
        evaluated_good u stored (truth g c u).seen (truth g c u).result (cond_reads constants indices c) []
        (truth_comes t valid scope indices same u c fits uses (cond_reads constants indices c) [] (sym (append-nil (cond_reads constants indices c)))) l

    -- an item of a READ, and then others
    module _ (item : ExprTree) (items : List ExprTree) (k : ℕ) (u : Store) (stored : IsStoreIn s first u) (to : Targeting t valid scope indices same u item)
        (names : (x : List ℕ) → is_among x (assigned_left item) ≡ true → is_among x s.assigned ≡ true)
        (l : Listed k (left_accesses constants indices item ++ flat_map (left_accesses constants indices) items))
        (others : (m : ℕ) (d : Data) (v : Store) → IsStoreIn s first v → Listed m (flat_map (left_accesses constants indices) items) → Each Good (taking g items m d v).touches) where
      abbrev more : List Access
      more = flat_map (left_accesses constants indices) items

      item_comes : ComesBy t g u (target g item u).seen (target g item u).result (left_accesses constants indices item ++ more) (to.access ∷ more)
      item_comes = to.comes (left_accesses constants indices item ++ more) (to.access ∷ more) (ap (λ (z : List Access). z ++ more) to.is ∙ append_assoc to.reads (to.access ∷ []) more)

      into_good : (v : ℤ) (left : Data) → is_storable v ≡ true → (r : Result Cell ℕ) → (target g item u).result ≡ r → ComesBy t g u (target g item u).seen r (left_accesses constants indices item ++ more) (to.access ∷ more)
          → Each Good (into_item k left v (target g item u).seen r (λ m c. taking g items m left (put c (Number v) u))).touches
      into_good v left small (Ok c) e comes =
          let seen : List Seen = (target g item u).seen in
          let p = seen_good u stored seen k (left_accesses constants indices item ++ more) (to.access ∷ more) comes l in
          let keeps : Keeps s (write_touch c (Number v) (number_behind k seen)) = stored_keeps c v (number_behind k seen) small (λ x h. names x (to.of_name c x e h)) in
          each_append Good (numbered k seen ++ write_touch c (Number v) (number_behind k seen) ∷ []) (taking g items (suc (number_behind k seen)) left (put c (Number v) u)).touches
          (each_append Good (numbered k seen) (write_touch c (Number v) (number_behind k seen) ∷ []) p.0
          (each_more Good (write_touch c (Number v) (number_behind k seen)) [] (written_good u stored c (Number v) (number_behind k seen) to.access (to.access ∷ more) more refl p.1 to.writes (to.stands c e) keeps) (each_none Good)))
          (others (suc (number_behind k seen)) left (put c (Number v) u) (kept_one s first writes c (Number v) (number_behind k seen) u keeps stored) (listed_rest (number_behind k seen) to.access (to.access ∷ more) more refl p.1))
      into_good v left small (Err f) e comes = (seen_good u stored (target g item u).seen k (left_accesses constants indices item ++ more) comes.0 comes.1 l).0

      taken_good : (d : Data) (r : Result Taken ℕ) → ((x : Taken) → r ≡ Ok x → is_storable x.value ≡ true)
          → Each Good (with_taken d r (λ v left. into_item k left v (target g item u).seen (target g item u).result (λ m c. taking g items m left (put c (Number v) u)))).touches
      taken_good d (Ok x) small = into_good x.value x.behind (small x refl) (target g item u).result refl item_comes
      taken_good d (Err f) small = each_none Good

    taking_good : (items : List ExprTree) (k : ℕ) (d : Data) (u : Store) → IsStoreIn s first u → list_all target_fits items ≡ true → list_all (target_is_right (kind_in t)) items ≡ true
        → ((x : List ℕ) → is_among x (flat_map assigned_left items) ≡ true → is_among x s.assigned ≡ true) → Listed k (flat_map (left_accesses constants indices) items) → Each Good (taking g items k d u).touches
    taking_good [] k d u stored fits uses names l = each_none Good
    taking_good (item ∷ items) k d u stored fits uses names l =
        let f = and_parts (target_fits item) (list_all target_fits items) fits in
        let r = and_parts (target_is_right (kind_in t) item) (list_all (target_is_right (kind_in t)) items) uses in
        taken_good item items k u stored (targeting t valid scope indices same u item f.0 r.0) (λ x h. names x (among_left x (assigned_left item) (flat_map assigned_left items) h)) l
        (λ m e v within more. taking_good items m e v within f.1 r.1 (λ x h. names x (among_right x (assigned_left item) (flat_map assigned_left items) h)) more)
        d (next_value_of d) (value_storable d.rest d.lines)

    -- a READ
    module _ (u : Store) (stored : IsStoreIn s first u) (items : List ExprTree) (fits : list_all target_fits items ≡ true) (uses : list_all (target_is_right (kind_in t)) items ≡ true)
        (names : (x : List ℕ) → is_among x (flat_map assigned_left items) ≡ true → is_among x s.assigned ≡ true) (l : Listed 1 (own_accesses constants indices (Read items))) where
      abbrev data_write : Access
      data_write = write_of (codes "(IN)") []

      abbrev items_listed : Listed 2 (flat_map (left_accesses constants indices) items)
      items_listed = listed_rest 1 data_write (own_accesses constants indices (Read items)) (flat_map (left_accesses constants indices) items) refl l

      begun_good : (r : Result Data ℕ) → Each Good (taking_from g items r u).touches
      begun_good (Ok d) = taking_good items 2 d u stored fits uses names items_listed
      begun_good (Err f) = each_none Good

      pub read_good : Each Good (reading_touches (reading g items u) u)
      read_good =
          let left : List (List ℕ) = (reading g items u).left.lines in
          each_more Good (read_touch In (u In) 0) (write_touch In (Lines left) 1 ∷ (reading g items u).touches) (record { keeps = quiet_keeps (read_touch In (u In) 0) refl; made = λ above. absurd (omega (arith, above)) })
          (each_more Good (write_touch In (Lines left) 1) (reading g items u).touches
          (written_good u stored In (Lines left) 1 data_write (own_accesses constants indices (Read items)) (flat_map (left_accesses constants indices) items) refl l refl refl (lines_keep In left 1 (λ x. refl)))
          (begun_good (begun (lines_in (u In)))))

    -- the bounds of a DO, behind which the writes of its PRIVATE names are left
    module _ (u : Store) (stored : IsStoreIn s first u) (h : Head) (b : StmtTrees) (fits : (expr_fits h.first ≡ true) × (expr_fits h.last ≡ true)) (uses : (expr_is_right (kind_in t) h.first ≡ true) × (expr_is_right (kind_in t) h.last ≡ true))
        (l : Listed 1 (own_accesses constants indices (Do h b))) where
      bounds_come : ComesBy t g u (limits g h u).seen (limits g h u).result (own_accesses constants indices (Do h b)) (private_writes constants h.private)
      bounds_come = limits_come t valid scope indices same u h fits.0 fits.1 uses.0 uses.1 (own_accesses constants indices (Do h b)) (private_writes constants h.private) refl

      pub bounds_seen : Each Good (numbered 1 (limits g h u).seen)
      bounds_seen = evaluated_good u stored (limits g h u).seen (limits g h u).result (own_accesses constants indices (Do h b)) (private_writes constants h.private) bounds_come l

      pub bounds_left : (m : Limits) → (limits g h u).result ≡ Ok m → Listed (number_behind 1 (limits g h u).seen) (private_writes constants h.private)
      bounds_left m e = (seen_good u stored (limits g h u).seen 1 (own_accesses constants indices (Do h b)) (private_writes constants h.private) (walk_of u (limits g h u).seen (limits g h u).result m (own_accesses constants indices (Do h b)) (private_writes constants h.private) e bounds_come) l).1

  -- what is undefined holds no number
  undefined_keeps : (x : List ℕ) (k : ℕ) → is_among x s.assigned ≡ true → Keeps s (write_touch (cell_of scope x) Undefined k)
  undefined_keeps x k h = record { number = λ c m w e storing holds. absurd cc; scalar = λ y w e. ap (λ (z : List ℕ). is_among z s.assigned) (sym (scalar_named scope x y e)) ∙ h }

  -- the variable of a DO may hold any number
  variable_keeps : (x : List ℕ) (content : Content) → is_among x s.assigned ≡ true → is_among x s.loop_variables ≡ true → Keeps s (write_touch (cell_of scope x) content 0)
  variable_keeps x content h k = record {
    number = λ c m w e storing holds.
        let cell : cell_of scope x ≡ c = cell_is (cell_of scope x) c e in
        let none : is_storing s.loop_variables c ≡ false = ap (is_storing s.loop_variables) (sym cell) ∙ (storing_of s.loop_variables scope x ∙ ap not k) in
        false_true (sym none ∙ storing);
    scalar = λ y w e. ap (λ (z : List ℕ). is_among z s.assigned) (sym (scalar_named scope x y e)) ∙ h;
  }

  -- what a DO writes when it is left
  module _ (u : Store) (stored : IsStoreIn s first u) where
    undefined_good : (xs : List (List ℕ)) (k : ℕ) → list_all is_name xs ≡ true → list_all (is_scalar (kind_in t)) xs ≡ true → ((x : List ℕ) → is_among x xs ≡ true → is_among x s.assigned ≡ true) → Listed k (private_writes constants xs) → Each Good (undefined_by scope k xs)
    undefined_good [] k fits uses names l = each_none Good
    undefined_good (x ∷ xs) k fits uses names l =
        let f = and_parts (is_name x) (list_all is_name xs) fits in
        let r = and_parts (is_scalar (kind_in t) x) (list_all (is_scalar (kind_in t)) xs) uses in
        let is : private_writes constants (x ∷ xs) ≡ write_of x [] ∷ private_writes constants xs = ap (λ (b : Bool). (if b then [] else write_of x [] ∷ []) ++ private_writes constants xs) (unvalued t valid x (scalar_unvalued t x r.0)) in
        each_more Good (write_touch (cell_of scope x) Undefined k) (undefined_by scope (suc k) xs)
        (written_good u stored (cell_of scope x) Undefined k (write_of x []) (private_writes constants (x ∷ xs)) (private_writes constants xs) is l refl (sym (named_cell g x f.0)) (undefined_keeps x k (names x (among_first x xs))))
        (undefined_good xs (suc k) f.1 r.1 (λ y h. names y (among_rest y x xs h)) (listed_rest k (write_of x []) (private_writes constants (x ∷ xs)) (private_writes constants xs) is l))

    undefined_all_good : (xs : List (List ℕ)) → ((x : List ℕ) → is_among x xs ≡ true → is_among x s.assigned ≡ true) → Each Good (undefined_all scope xs)
    undefined_all_good [] names = each_none Good
    undefined_all_good (x ∷ xs) names =
        each_more Good (write_touch (cell_of scope x) Undefined 0) (undefined_all scope xs) (record { keeps = undefined_keeps x 0 (names x (among_first x xs)); made = λ above. absurd (omega (arith, above)) })
        (undefined_all_good xs (λ y h. names y (among_rest y x xs h)))

    module _ (e : Entered) (variable : is_among e.head.variable s.assigned ≡ true) (of_loop : is_among e.head.variable s.loop_variables ≡ true)
        (fits : list_all is_name e.head.private ≡ true) (uses : list_all (is_scalar (kind_in t)) e.head.private ≡ true) (names : (x : List ℕ) → is_among x e.head.private ≡ true → is_among x s.assigned ≡ true)
        (inner : (x : List ℕ) → is_among x e.inner ≡ true → is_among x s.assigned ≡ true) (l : Listed e.behind_bounds (private_writes constants e.head.private)) where
      pub exit_good : Each Good (exit_touches e scope)
      exit_good =
          each_more Good (write_touch (cell_of scope e.head.variable) (left_in_variable e) 0) (undefined_by scope e.behind_bounds e.head.private ++ undefined_all scope e.inner)
          (record { keeps = variable_keeps e.head.variable (left_in_variable e) variable of_loop; made = λ above. absurd (omega (arith, above)) })
          (each_append Good (undefined_by scope e.behind_bounds e.head.private) (undefined_all scope e.inner) (undefined_good e.head.private e.behind_bounds fits uses names l) (undefined_all_good e.inner inner))

      pub maybe_exit_good : (m : ℕ) → Each Good (exit_when_none m e scope)
      maybe_exit_good m = go (m == 0)
        where
          go : (b : Bool) → Each Good (if b then exit_touches e scope else [])
          go true = exit_good
          go false = each_none Good
