-- The line of a PRINT, item by item, and how its run ends.
use Rattle.std.proofs.Common.{◌≡◌, ℕ, ◌+◌, ◌<◌, ◌≤◌, List, [], ◌∷◌, ◌++◌, length, get_or, drop, map, Bool, true, false, Result, Ok, Err, if◌then◌else◌, eqb, eqb-true, refl, sym, ap, subst, ◌∙◌, arith, append_assoc, append-nil}
use Rattle.std.specs.Prelude.{◌==◌}
use Rattle.std.specs.List.{join_with_byte, flat_map}
use Rattle.std.proofs.lemmas.List.{at_drop_all}
use Rattle.ped_tree.specs.declared.statements.PrintItem.{PrintItem}
use Rattle.ped_tree.specs.Tree.{ItemTree, Print}
use Rattle.ped_tree.specs.Views.{item_tree}
use Rattle.ped_symbols.specs.Kinds.{Table}
use Rattle.ped_store.specs.Cells.{Out}
use Rattle.ped_store.specs.Stores.{Content, Lines, Store, put, lines_in, with_line}
use Rattle.ped_store.specs.Memories.{Memory, with_printed}
use Rattle.ped_eval.specs.Scopes.{Scope, Names, names_in, place_of}
use Rattle.ped_eval.specs.ScopeViews.{names_at}
use Rattle.ped_eval.specs.Evaluation.{Seen, ◌>>>◌, given, onward}
use Rattle.ped_eval.specs.Statements.{item_text, item_texts, printed_line}
use Rattle.ped_eval.specs.Items.{blank_before, IsPrinted, IsAdded, IfPrinted}
use Rattle.ped_eval.specs.declared.printing.PrintError.{PrintError}
use Rattle.ped_eval.specs.declared.printing.PrintError.TheVariants as print
use Rattle.ped_eval.specs.Readiness.{setting_by, IsReady}
use Rattle.ped_eval.specs.Agreement.{before, Agrees}
use Rattle.ped_eval.specs.Runs.{Ending, run}
use Rattle.ped_eval.specs.Told.{Goes, Fails, Ran}
use Rattle.ped_eval.specs.declared.states.Flow.TheVariants as flow
use Rattle.ped_eval.specs.declared.states.RunError.TheVariants as error
use Rattle.ped_eval.proofs.Lines.{tail_text}
use Rattle.ped_eval.proofs.Walks.{next_drop}
use Rattle.ped_eval.proofs.Moments.{next_statement}
use Rattle.ped_eval.proofs.Agreements.{agrees_put, agrees_later, outside_same}
use Rattle.ped_eval.proofs.Evaluations.{kept_line}
use Rattle.ped_eval.proofs.Endings.{print_goes, print_fails}

next_not_first : (i : ℕ) → eqb (i + 1) 0 ≡ false
next_not_first i = grind (arith, eqb-true)

-- texts with a blank between them are the first and behind it the others with a blank before each
join_flat : (text : List ℕ) (texts : List (List ℕ)) → join_with_byte 32 (text ∷ texts) ≡ text ++ flat_map (λ t. 32 ∷ t) texts
join_flat text [] = sym (append-nil text)
join_flat text (next ∷ texts) = ap (λ (r : List ℕ). text ++ (32 ∷ r)) (join_flat next texts)

tail_by : (b : Bool) (line added : List ℕ) (texts : List (List ℕ)) → line ++ (if b then join_with_byte 32 (added ∷ texts) else flat_map (λ t. 32 ∷ t) (added ∷ texts))
    ≡ ((line ++ (if b then [] else 32 ∷ [])) ++ added) ++ flat_map (λ t. 32 ∷ t) texts
tail_by true line added texts =
    ap (λ (r : List ℕ). line ++ r) (join_flat added texts)
    ∙ sym (append_assoc line added (flat_map (λ t. 32 ∷ t) texts))
    ∙ ap (λ (r : List ℕ). (r ++ added) ++ flat_map (λ t. 32 ∷ t) texts) (sym (append-nil line))
tail_by false line added texts =
    sym (append_assoc (line ++ 32 ∷ []) added (flat_map (λ t. 32 ∷ t) texts) ∙ append_assoc line (32 ∷ []) (added ++ flat_map (λ t. 32 ∷ t) texts))

tail_none : (b : Bool) (line : List ℕ) → line ++ (if b then join_with_byte 32 [] else flat_map (λ t. 32 ∷ t) []) ≡ line
tail_none true line = append-nil line
tail_none false line = append-nil line

-- what comes of the texts of items, from its steps
abbrev of_rest : List ℕ → List Seen → Result (List (List ℕ)) ℕ → Result (List (List ℕ)) ℕ
of_rest text seen r = (onward seen r (λ texts. given (Ok (text ∷ texts)))).result

abbrev of_first : Names → List ItemTree → Store → List Seen → Result (List ℕ) ℕ → Result (List (List ℕ)) ℕ
of_first g rest s seen r = (onward seen r (λ text. item_texts g rest s >>> λ texts. given (Ok (text ∷ texts)))).result

-- what a loop over the items knows behind so many of them: the line, should the others have these texts, and the fault, should one of them have it
module _ (g : Names) (s : Store) (items : List PrintItem) where
  abbrev Rest : ℕ → List ℕ → Type 0
  Rest i line = (texts : List (List ℕ)) → (item_texts g (map item_tree (drop i items)) s).result ≡ Ok texts → (printed_line g (map item_tree items) s).result ≡ Ok (line ++ tail_text i texts)

  abbrev Faulty : ℕ → Type 0
  Faulty i = (n : ℕ) → (item_texts g (map item_tree (drop i items)) s).result ≡ Err n → (printed_line g (map item_tree items) s).result ≡ Err n

  pub rest_all : (i : ℕ) (line : List ℕ) → length items ≤ i → Rest i line → (printed_line g (map item_tree items) s).result ≡ Ok line
  rest_all i line h rest = rest [] (at_drop_all (λ (l : List PrintItem). (item_texts g (map item_tree l) s).result) items i h) ∙ ap Ok (tail_none (i == 0) line)

  module _ (i : ℕ) (x : PrintItem) (h : i < length items) (e : x ≡ get_or items i x) where
    abbrev behind : List ItemTree
    behind = map item_tree (drop (i + 1) items)

    abbrev seen_here : List Seen
    seen_here = (item_text g (item_tree x) s).seen

    item_first : map item_tree (drop i items) ≡ item_tree x ∷ behind
    item_first = ap (map item_tree) (next_drop items i x h) ∙ ap (λ (y : PrintItem). item_tree y ∷ behind) (sym e)

    texts_are : (item_texts g (map item_tree (drop i items)) s).result ≡ of_first g behind s seen_here (item_text g (item_tree x) s).result
    texts_are = ap (λ (l : List ItemTree). (item_texts g l s).result) item_first

    texts_more : (added : List ℕ) → (item_text g (item_tree x) s).result ≡ Ok added → (item_texts g (map item_tree (drop i items)) s).result ≡ of_rest added (item_texts g behind s).seen (item_texts g behind s).result
    texts_more added k = texts_are ∙ ap (of_first g behind s seen_here) k

    pub fault_here : (n : ℕ) → Faulty i → (item_text g (item_tree x) s).result ≡ Err n → (printed_line g (map item_tree items) s).result ≡ Err n
    fault_here n fails k = fails n (texts_are ∙ ap (of_first g behind s seen_here) k)

    pub fault_next : (added : List ℕ) → (item_text g (item_tree x) s).result ≡ Ok added → Faulty i → Faulty (i + 1)
    fault_next added k fails n r = fails n (texts_more added k ∙ ap (of_rest added (item_texts g behind s).seen) r)

    pub rest_next : (line mid new added : List ℕ) → (item_text g (item_tree x) s).result ≡ Ok added → mid ≡ line ++ blank_before i → new ≡ mid ++ added → Rest i line → Rest (i + 1) new
    rest_next line mid new added k m w rest texts r =
        let put : new ≡ (line ++ blank_before i) ++ added = w ∙ ap (λ (l : List ℕ). l ++ added) m in
        let tail : tail_text (i + 1) texts ≡ flat_map (λ t. 32 ∷ t) texts = ap (λ (b : Bool). if b then join_with_byte 32 texts else flat_map (λ t. 32 ∷ t) texts) (next_not_first i) in
        rest (added ∷ texts) (texts_more added k ∙ ap (of_rest added (item_texts g behind s).seen) r)
        ∙ ap Ok (tail_by (i == 0) line added texts ∙ (λ j. sym put j ++ sym tail j))

-- a line that is printed leaves all that can be written standing
pub ready_printed : (table : Table) (scope : Scope) (line : List ℕ) (m : Memory) → IsReady table scope m → IsReady table scope (with_printed line m)
ready_printed table scope line m h = record { bounds = h.bounds; scalars = h.scalars; elements = h.elements; copies = h.copies }

module _ (table : Table) (scope : Scope) (n : ℕ) (items : List ItemTree) (m : Memory) (ready : IsReady table scope m) where
  kept : (s : Store) → Agrees scope (before scope n) m.cells s → (printed_line (names_in (setting_by table) scope) items s).result ≡ (printed_line (names_at m scope table.constants) items m.cells).result
  kept s g = sym (ap (λ a. a.result) (kept_line (setting_by table) scope m s ready.bounds g.same items))

  -- a PRINT that has printed its line goes on
  pub print_ran : (new : Memory) (line : List ℕ) → (printed_line (names_at m scope table.constants) items m.cells).result ≡ Ok line → new ≡ with_printed line m
      → Ran scope n m (n + 1) (Ok flow.Going) new (run (setting_by table) (Print items) n scope)
  print_ran new line h q s g =
      let e : (printed_line (names_in (setting_by table) scope) items s).result ≡ Ok line = kept s g ∙ h in
      let same : with_line line m.cells ≡ put Out (Lines (lines_in (s Out) ++ line ∷ [])) m.cells = ap (λ (v : Content). put Out (Lines (lines_in v ++ line ∷ [])) m.cells) (outside_same scope m.cells s g.same Out refl) in
      let after : Agrees scope (before scope (n + 1)) (put Out (Lines (lines_in (s Out) ++ line ∷ [])) m.cells) (with_line line s) =
      agrees_later scope (before scope n) (before scope (n + 1)) (put Out (Lines (lines_in (s Out) ++ line ∷ [])) m.cells) (with_line line s) (next_statement scope n 1)
      (agrees_put scope (before scope n) Out (Lines (lines_in (s Out) ++ line ∷ [])) m.cells s refl g) in
      subst (λ (x : Ending). Goes scope (before scope (n + 1)) new.cells x) (sym (print_goes (names_in (setting_by table) scope) (place_of (setting_by table) n scope) items s line e))
      (subst (λ (u : Store). Agrees scope (before scope (n + 1)) u (with_line line s)) (sym (ap (λ (k : Memory). k.cells) q ∙ same)) after)

  -- a fault of a PRINT ends its run
  pub print_failed : (new : Memory) (fault k : ℕ) → fault ≡ k → (printed_line (names_at m scope table.constants) items m.cells).result ≡ Err k
      → Ran scope n m (n + 1) (Err (error.Fault fault n)) new (run (setting_by table) (Print items) n scope)
  print_failed new fault k is h s g =
      let e : (printed_line (names_in (setting_by table) scope) items s).result ≡ Err k = kept s g ∙ h in
      subst (λ (x : Ending). Fails fault n x) (sym (print_fails (names_in (setting_by table) scope) (place_of (setting_by table) n scope) items s k e)) (is, refl)

-- a fault of an item is one of the whole
pub broken_line : (whole text : Result (List ℕ) ℕ) (old new : List ℕ) (e : PrintError) → ((n : ℕ) → text ≡ Err n → whole ≡ Err n) → IsAdded {A = Unit {0}} text old new (Err e) → IsPrinted whole (Err e)
broken_line whole text old new (print.Fault n) f h = f n h
broken_line whole text old new print.NoMemory f h = tt

pub broken_noted : (A P Q : Type 0) (text : Result (List ℕ) ℕ) (old new : List ℕ) (e : PrintError) → ((n : ℕ) → text ≡ Err n → P → Q) → IsAdded {A = Unit {0}} text old new (Err e) → IfPrinted {A = Unit {0}} (Err e) P → IfPrinted {A = A} (Err e) Q
broken_noted A P Q text old new (print.Fault n) f h k = f n h k
broken_noted A P Q text old new print.NoMemory f h k = tt
