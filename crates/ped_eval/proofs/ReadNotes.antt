-- What a READ notes is what its run touches.
use Rattle.std.proofs.Common.{◌≡◌, inl, inr, ℕ, suc, ◌+◌, ◌<◌, ℤ, List, [], ◌∷◌, ◌++◌, length, drop, get_or, map, Bool, true, false, Result, Ok, Err, if◌then◌else◌, refl, sym, ap, subst, ◌∙◌, append_assoc}
use Rattle.std.proofs.lemmas.List.{append-nil}
use Rattle.ped_tree.specs.Tree.{ExprTree, Read}
use Rattle.ped_tree.specs.Views.{expr_tree}
use Rattle.ped_tree.specs.declared.expressions.Expr.{Expr}
use Rattle.ped_symbols.specs.Kinds.{Table}
use Rattle.ped_store.specs.Cells.{Cell, In}
use Rattle.ped_store.specs.Stores.{Content, Number, Lines, Store, put, is_storable, out_of_range}
use Rattle.ped_store.specs.DataLines.{Data, Taken, begun, next_value_of}
use Rattle.ped_store.specs.Memories.{Memory, with_content, with_data, stored}
use Rattle.ped_store.specs.Races.{Access}
use Rattle.ped_eval.specs.Scopes.{Setting, Scope, names_in, place_of}
use Rattle.ped_eval.specs.Evaluation.{Seen, Evaluated, numbered, number_behind}
use Rattle.ped_eval.specs.Values.{target}
use Rattle.ped_eval.specs.Statements.{write_touch, into_item, with_taken, taking, taking_from, reading}
use Rattle.ped_eval.specs.Runs.{run}
use Rattle.ped_eval.specs.Agreement.{before, Agrees}
use Rattle.ped_eval.specs.Readiness.{setting_by, IsReady}
use Rattle.ped_eval.specs.Targets.{bounded}
use Rattle.ped_eval.specs.Takings.{names_with}
use Rattle.ped_eval.specs.Follow.{Follow}
use Rattle.ped_eval.specs.Noting.{Noted, noted, noted_by, Reading, Referring, HasNoted, HasReferred, accesses_by}
use Rattle.ped_eval.specs.StatementNotes.{write_noted, item_noted, value_noted, items_noted, line_noted, read_noted}
use Rattle.ped_eval.specs.Watched.{Watched}
use Rattle.ped_eval.specs.declared.notes.Notes.{Notes}
use Rattle.ped_eval.specs.declared.states.Flow.{Flow}
use Rattle.ped_eval.specs.declared.states.RunError.{RunError}
use Rattle.ped_eval.proofs.Evaluations.{IsVariable, target_variable}
use Rattle.ped_eval.proofs.Assignments.{stored_is, IsUnstored, unstored_is}
use Rattle.ped_eval.proofs.Readings.{value_storable}
use Rattle.ped_eval.proofs.KeptByWrites.{agrees_kept}
use Rattle.ped_eval.proofs.Takings.{item_agrees, target_same, same_lines, begins_same}
use Rattle.ped_eval.proofs.Notings.{noted-append}
use Rattle.ped_eval.proofs.StatementActs.{read_accesses}
use Rattle.ped_eval.proofs.Watching.{if_ran}
use Rattle.ped_eval.proofs.Walks.{next_drop}

module _ (p : Setting) (scope : Scope) (j : ℕ) (v : Content) where
  -- what the items behind an item touch is what they note
  abbrev AreAlike : List ExprTree → Type 0
  AreAlike rest = (n : ℕ) (s : Store) (m : Memory) → m.bounds ≡ p.bounds → Agrees scope (before scope j) (put In v m.cells) (put In v s)
      → noted (taking (names_in p scope) rest n m.input s).touches ≡ items_noted p.constants scope rest n m

  module _ (item : ExprTree) (rest : List ExprTree) (n : ℕ) (s : Store) (m : Memory) (b : m.bounds ≡ p.bounds) (h : Agrees scope (before scope j) (put In v m.cells) (put In v s)) (alike : AreAlike rest) where
    touched_as : (t : Taken) (seen : List Seen) (r : Result Cell ℕ) → ((c : Cell) → r ≡ Ok c → IsVariable (names_in p scope) c)
        → noted (into_item n t.behind t.value seen r λ k c. taking (names_in p scope) rest k t.behind (put c (Number t.value) s)).touches
        ≡ item_noted n seen r (λ k c. items_noted p.constants scope rest k (with_content c (Number t.value) (with_data t.behind m)))
    touched_as t seen (Err f) is = refl
    touched_as t seen (Ok c) is =
        noted-append (numbered n seen ++ write_touch c (Number t.value) (number_behind n seen) ∷ []) (taking (names_in p scope) rest (suc (number_behind n seen)) t.behind (put c (Number t.value) s)).touches
        ∙ (λ i. noted-append (numbered n seen) (write_touch c (Number t.value) (number_behind n seen) ∷ []) i
        ++ alike (suc (number_behind n seen)) (put c (Number t.value) s) (with_content c (Number t.value) (with_data t.behind m)) b (item_agrees p scope (Agrees scope (before scope j)) (agrees_kept p scope j) v t c s m (is c refl) h) i)

    value_as : (o : Result Taken ℕ)
        → noted (with_taken m.input o λ w left. into_item n left w (target (names_in p scope) item s).seen (target (names_in p scope) item s).result λ k c. taking (names_in p scope) rest k left (put c (Number w) s)).touches
        ≡ (value_noted o λ t. item_noted n (target (names_with (with_data t.behind m) scope p.constants) item (with_data t.behind m).cells).seen (target (names_with (with_data t.behind m) scope p.constants) item (with_data t.behind m).cells).result
        λ k c. items_noted p.constants scope rest k (with_content c (Number t.value) (with_data t.behind m)))
    value_as (Err f) = refl
    value_as (Ok t) =
        touched_as t (target (names_in p scope) item s).seen (target (names_in p scope) item s).result (target_variable (names_in p scope) item s)
        ∙ (λ i. item_noted n (sym (target_same p scope (Agrees scope (before scope j)) (agrees_kept p scope j) v t item m s b h) i).seen (sym (target_same p scope (Agrees scope (before scope j)) (agrees_kept p scope j) v t item m s b h) i).result (λ k c. items_noted p.constants scope rest k (with_content c (Number t.value) (with_data t.behind m))))

  items_alike : (items : List ExprTree) → AreAlike items
  items_alike [] n s m b h = refl
  items_alike (item ∷ rest) n s m b h = value_as item rest n s m b h (items_alike rest) (next_value_of m.input)

module _ (p : Setting) (scope : Scope) (j : ℕ) (items : List ExprTree) (s : Store) (m : Memory) (b : m.bounds ≡ p.bounds) (h : Agrees scope (before scope j) m.cells s) (kept : m.cells In ≡ Lines m.input.lines) where
  line_as : (o : Result Data ℕ) → noted (taking_from (names_in p scope) items o s).touches ≡ line_noted o (λ d. items_noted p.constants scope items 2 (with_data d m))
  line_as (Err f) = refl
  line_as (Ok d) = items_alike p scope j (Lines []) items 2 s (with_data d m) b (begins_same p scope (Agrees scope (before scope j)) (agrees_kept p scope j) (place_of p j scope) items s m b h kept (Lines []) d)

  -- the items of a READ touch what they note
  reading_as : noted (reading (names_in p scope) items s).touches ≡ line_noted (begun m.input.lines) (λ d. items_noted p.constants scope items 2 (with_data d m))
  reading_as = ap (λ (ls : List (List ℕ)). noted (taking_from (names_in p scope) items (begun ls) s).touches) (same_lines p scope (Agrees scope (before scope j)) (agrees_kept p scope j) (place_of p j scope) items s m b h kept) ∙ line_as (begun m.input.lines)

-- a watch is told the accesses of a READ
pub read_watched : {W : Type 0} (follows : W → Access → W → Type 0) (table : Table) (scope : Scope) (n : ℕ) (items : List ExprTree) (m : Memory) → IsReady table scope m → m.cells In ≡ Lines m.input.lines → (old new : W) (r : Result Flow RunError)
    → Follow follows old (accesses_by n scope (read_noted table.constants scope items 1 m)) new → Watched follows old new scope (before scope n) m.cells r (run (setting_by table) (Read items) n scope)
read_watched follows table scope n items m ready kept old new r h s g =
    let p = setting_by table in
    if_ran r (subst (λ (xs : List Access). Follow follows old xs new)
    (sym (read_accesses (names_in p scope) (place_of p n scope) items s
    ∙ ap (λ (ns : List Noted). accesses_by n scope (record { cell = In; writes = true; reference = 1 } ∷ ns)) (reading_as p scope n items s m ready.bounds g kept))) h)

storable_same : (v n : ℤ) (b : Bool) → (if b then Ok v else Err out_of_range) ≡ Ok n → n ≡ v
storable_same v n true h = let e : v ≡ n = cc in sym e
storable_same v n false h = absurd cc

no_fault : (v : ℤ) (n : ℕ) (b : Bool) → b ≡ true → (if b then Ok v else Err out_of_range) ≡ Err n → ⊥
no_fault v n true e h = cc
no_fault v n false e h = cc

module _ (constants : List (List ℕ × ℤ)) (scope : Scope) (item : ExprTree) (old : Notes) (m mid : Memory) (t : Taken) (value : next_value_of m.input ≡ Ok t) (is : mid ≡ with_data t.behind m) where
  abbrev targeted : Evaluated Cell
  targeted = target (names_with mid scope constants) item mid.cells

  -- what is noted of an item for which a value is taken
  item_is : (rest : List ExprTree) (r : Result Cell ℕ) → targeted.result ≡ r
      → items_noted constants scope (item ∷ rest) old.next m ≡ item_noted old.next targeted.seen r (λ k c. items_noted constants scope rest k (with_content c (Number t.value) mid))
  item_is rest r e =
      ap (λ (o : Result Taken ℕ). value_noted o λ u. item_noted old.next (target (names_with (with_data u.behind m) scope constants) item (with_data u.behind m).cells).seen
      (target (names_with (with_data u.behind m) scope constants) item (with_data u.behind m).cells).result λ k c. items_noted constants scope rest k (with_content c (Number u.value) (with_data u.behind m))) value
      ∙ ap (λ (k : Memory). item_noted old.next (target (names_with k scope constants) item k.cells).seen (target (names_with k scope constants) item k.cells).result λ j c. items_noted constants scope rest j (with_content c (Number t.value) k)) (sym is)
      ∙ ap (λ (q : Result Cell ℕ). item_noted old.next targeted.seen q (λ k c. items_noted constants scope rest k (with_content c (Number t.value) mid))) e

  -- what is noted of this item and of those behind it is all, where the notes are kept
  abbrev NotedWith : Notes → Memory → Type 0
  NotedWith new after = new.kept ≡ true → (old.kept ≡ true) × ((rest : List ExprTree) → noted_by old ++ items_noted constants scope (item ∷ rest) old.next m ≡ noted_by new ++ items_noted constants scope rest new.next after)

  -- what is noted of this item is all
  abbrev NotedLast : Notes → Type 0
  NotedLast new = new.kept ≡ true → (old.kept ≡ true) × ((rest : List ExprTree) → noted_by old ++ items_noted constants scope (item ∷ rest) old.next m ≡ noted_by new)

  module _ (noted_mid : Notes) (noted_here : HasNoted old targeted.seen noted_mid) where
    -- an item whose subscripts fault
    pub item_faulted : (n : ℕ) → targeted.result ≡ Err n → NotedLast noted_mid
    item_faulted n e q =
        let h : Reading old targeted.seen noted_mid = noted_here q in
        (h.kept, λ rest. ap (λ (ns : List Noted). noted_by old ++ ns) (item_is rest (Err n) e) ∙ sym h.touches)

    module _ (c : Cell) (place : targeted.result ≡ bounded mid c) where
      -- an item that is stored
      pub item_stored : (after : Memory) (new : Notes) → stored c t.value mid ≡ Ok after → HasReferred noted_mid c true new → NotedWith new after
      item_stored after new e written q =
          let r : Referring noted_mid c true new = written q in
          let h : Reading old targeted.seen noted_mid = noted_here r.kept in
          let w = stored_is c t.value mid after e in
          let number : w.number ≡ t.value = storable_same t.value w.number (is_storable t.value) w.right in
          let is : after ≡ with_content c (Number t.value) mid = w.new_is ∙ ap (λ (k : ℤ). with_content c (Number k) mid) number in
          let next : new.next ≡ suc (number_behind old.next targeted.seen) = r.next ∙ ap suc h.next in
          let write : Noted = record { cell = c; writes = true; reference = number_behind old.next targeted.seen } in
          let all : noted_by new ≡ noted_by old ++ write_noted old.next targeted.seen c =
          r.touches ∙ (λ i. h.touches i ++ record { cell = c; writes = true; reference = h.next i } ∷ []) ∙ append_assoc (noted_by old) (noted (numbered old.next targeted.seen)) (write ∷ []) in (
            h.kept,
            λ rest. ap (λ (ns : List Noted). noted_by old ++ ns) (item_is rest (Ok c) (place ∙ w.within))
                ∙ sym (append_assoc (noted_by old) (write_noted old.next targeted.seen c) (items_noted constants scope rest (suc (number_behind old.next targeted.seen)) (with_content c (Number t.value) mid)))
                ∙ (λ i. sym all i ++ items_noted constants scope rest (sym next i) (sym is i)),
          )

      unstored_by : (n : ℕ) → IsUnstored c t.value (bounded mid c) n → NotedLast noted_mid
      unstored_by n (inl e) = item_faulted n (place ∙ e)
      unstored_by n (inr e) = absurd (no_fault t.value n (is_storable t.value) (value_storable m.input.rest m.input.lines t value) e.1)

      -- an item that lies outside its bounds
      pub item_unstored : (n : ℕ) → stored c t.value mid ≡ Err n → NotedLast noted_mid
      item_unstored n e = unstored_by n (unstored_is c t.value mid n e)

-- an item for which no value is left
pub item_untaken : (constants : List (List ℕ × ℤ)) (scope : Scope) (item : ExprTree) (old : Notes) (m : Memory) (n : ℕ) → next_value_of m.input ≡ Err n
    → (rest : List ExprTree) → noted_by old ++ items_noted constants scope (item ∷ rest) old.next m ≡ noted_by old
item_untaken constants scope item old m n e rest =
    ap (λ (o : Result Taken ℕ). noted_by old ++ value_noted o λ u. item_noted old.next (target (names_with (with_data u.behind m) scope constants) item (with_data u.behind m).cells).seen
    (target (names_with (with_data u.behind m) scope constants) item (with_data u.behind m).cells).result λ k c. items_noted constants scope rest k (with_content c (Number u.value) (with_data u.behind m))) e
    ∙ append-nil (noted_by old)

module _ (constants : List (List ℕ × ℤ)) (scope : Scope) (items : List ExprTree) (old mid : Notes) (m : Memory) (h : Referring old In true mid) where
  line_is : (o : Result Data ℕ) → begun m.input.lines ≡ o
      → noted_by old ++ read_noted constants scope items old.next m ≡ noted_by mid ++ line_noted o (λ d. items_noted constants scope items mid.next (with_data d m))
  line_is o e =
      sym (append_assoc (noted_by old) (record { cell = In; writes = true; reference = old.next } ∷ []) (line_noted (begun m.input.lines) (λ d. items_noted constants scope items (suc old.next) (with_data d m))))
      ∙ (λ i. sym h.touches i ++ line_noted (e i) (λ d. items_noted constants scope items (sym h.next i) (with_data d m)))

  -- the items of a READ are noted behind the line that it begins
  pub line_begun : (d : Data) (after : Memory) → begun m.input.lines ≡ Ok d → after ≡ with_data d m
      → noted_by old ++ read_noted constants scope items old.next m ≡ noted_by mid ++ items_noted constants scope items mid.next after
  line_begun d after e q = line_is (Ok d) e ∙ ap (λ (k : Memory). noted_by mid ++ items_noted constants scope items mid.next k) (sym q)

  pub line_missing : (n : ℕ) → begun m.input.lines ≡ Err n → noted_by mid ≡ noted_by old ++ read_noted constants scope items old.next m
  line_missing n e = sym (line_is (Err n) e ∙ append-nil (noted_by mid))

module _ (constants : List (List ℕ × ℤ)) (scope : Scope) (items : List Expr) (i : ℕ) (x : Expr) (h : i < length items) (e : x ≡ get_or items i x) where
  -- the items from a place on are the one there and those behind it
  pub items_left : map expr_tree (drop i items) ≡ expr_tree x ∷ map expr_tree (drop (i + 1) items)
  items_left = ap (map expr_tree) (next_drop items i x h) ∙ ap (λ (y : Expr). expr_tree y ∷ map expr_tree (drop (i + 1) items)) (sym e)
