-- Touches on renamed cells: what stores hold behind them, and what single statements and DO loops touch.
use Rattle.std.proofs.Common.{◌≡◌, ℕ, suc, ℤ, List, [], ◌∷◌, ◌++◌, map, Bool, true, false, Some, Result, Ok, Err, refl, sym, ap, ◌∙◌, if◌then◌else◌}
use Rattle.std.proofs.lemmas.List.{map-append}
use Rattle.ped_tree.specs.Tree.{ExprTree}
use Rattle.ped_weaves.specs.ped_store.specs.Cells.{Cell, Element, Out, same_cell}
use Rattle.ped_weaves.specs.ped_store.specs.Stores.{Content, Undefined, Number, Lines, Store, put, lines_in}
use Rattle.ped_weaves.specs.ped_store.specs.Acts.{Manner, reads, writes, is_told, Touch, touched, store_behind}
use Rattle.ped_weaves.specs.ped_store.specs.DataLines.{Data, Taken, next_value_of}
use Rattle.ped_weaves.specs.ped_laws.proofs.ActLaws.SameCells.{cell_is, is_cell, other_cell, cells_differ}
use Rattle.ped_weaves.specs.ped_eval.specs.Scopes.{Scope, cell_of, Names}
use Rattle.ped_weaves.specs.ped_eval.specs.Evaluation.{Seen, Evaluated, numbered, number_behind}
use Rattle.ped_weaves.specs.ped_eval.specs.Values.{target}
use Rattle.ped_weaves.specs.ped_eval.specs.Statements.{Stored, assignment_touches, print_touches, read_touch, write_touch, Taking, having_touched, into_item, with_taken, taking, taking_from}
use Rattle.ped_weaves.specs.ped_eval.specs.Loops.{undefined_by, undefined_all}
use Rattle.ped_steps.specs.Runs.Exchanging.{exchanged_store, exchanged_touch}
use Rattle.ped_steps.proofs.RunLaws.ExchangedSight.{seen_in, mapped, AreNames, numbered_in, behind_in, stored_in, target_in}

-- names from which the cells are told tell cells apart as these are
pub told_apart : (name back : Cell → Cell) → ((c : Cell) → back (name c) ≡ c) → (c d : Cell) → same_cell (name c) (name d) ≡ same_cell c d
told_apart name back told c d = go (same_cell c d) refl
  where
    go : (b : Bool) → same_cell c d ≡ b → same_cell (name c) (name d) ≡ b
    go true e = is_cell (name c) (name d) (ap name (cell_is c d e))
    go false e = other_cell (name c) (name d) (λ q. cells_differ c d e (sym (told c) ∙ ap back q ∙ told d))

-- what came of the items of a READ, on renamed cells
abbrev pub taken_in : (Cell → Cell) → Taking → Taking
taken_in name t = record { touches = map (exchanged_touch name) t.touches; left = t.left; fault = t.fault }

module _ (name : Cell → Cell) where
  pub assignment_touches_in : (seen : List Seen) (w : Stored) → assignment_touches (map (seen_in name) seen) (stored_in name w) ≡ map (exchanged_touch name) (assignment_touches seen w)
  assignment_touches_in seen w =
      (λ i. numbered_in name 1 seen i ++ write_touch (name w.cell) (Number w.number) (behind_in name 1 seen i) ∷ [])
      ∙ sym (map-append (exchanged_touch name) (numbered 1 seen) (write_touch w.cell (Number w.number) (number_behind 1 seen) ∷ []))

  pub print_touches_in : name Out ≡ Out → (seen : List Seen) (line : List ℕ) (s : Store) → print_touches (map (seen_in name) seen) line s ≡ map (exchanged_touch name) (print_touches seen line (exchanged_store name s))
  print_touches_in output seen line s =
      (λ i. numbered_in name 1 seen i ++ read_touch (sym output i) (s (sym output i)) 0 ∷ write_touch (sym output i) (Lines (lines_in (s (sym output i)) ++ line ∷ [])) (behind_in name 1 seen i) ∷ [])
      ∙ sym (map-append (exchanged_touch name) (numbered 1 seen) (read_touch Out (s (name Out)) 0 ∷ write_touch Out (Lines (lines_in (s (name Out)) ++ line ∷ [])) (number_behind 1 seen) ∷ []))

  having_in : (before : List Touch) (t : Taking) → having_touched (map (exchanged_touch name) before) (taken_in name t) ≡ taken_in name (having_touched before t)
  having_in before t = λ i. record { touches = sym (map-append (exchanged_touch name) before t.touches) i; left = t.left; fault = t.fault }

  item_in : (n : ℕ) (left : Data) (v : ℤ) (seen : List Seen) (r : Result Cell ℕ) (next other : ℕ → Cell → Taking) → ((m : ℕ) (c : Cell) → other m (name c) ≡ taken_in name (next m c))
      → into_item n left v (map (seen_in name) seen) (mapped name r) other ≡ taken_in name (into_item n left v seen r next)
  item_in n left v seen (Ok c) next other h =
      (λ i. having_touched (numbered_in name n seen i ++ write_touch (name c) (Number v) (behind_in name n seen i) ∷ []) (other (suc (behind_in name n seen i)) (name c)))
      ∙ ap (having_touched (map (exchanged_touch name) (numbered n seen) ++ write_touch (name c) (Number v) (number_behind n seen) ∷ [])) (h (suc (number_behind n seen)) c)
      ∙ (λ i. having_touched (sym (map-append (exchanged_touch name) (numbered n seen) (write_touch c (Number v) (number_behind n seen) ∷ [])) i) (taken_in name (next (suc (number_behind n seen)) c)))
      ∙ having_in (numbered n seen ++ write_touch c (Number v) (number_behind n seen) ∷ []) (next (suc (number_behind n seen)) c)
  item_in n left v seen (Err fault) next other h = λ i. record { touches = numbered_in name n seen i; left = left; fault = Some fault }

  -- stores, where names are told apart
  module _ (same_test : (c d : Cell) → same_cell (name c) (name d) ≡ same_cell c d) where
    abbrev moved : Store → Store
    moved = exchanged_store name

    put_in : (c : Cell) (v : Content) (s : Store) → moved (put (name c) v s) ≡ put c v (moved s)
    put_in c v s = λ i d. if same_test c d i then v else s (name d)

    touched_in : (m : Manner) (c : Cell) (v : Content) (s : Store) → moved (touched m (name c) v s) ≡ touched m c v (moved s)
    touched_in reads c v s = refl
    touched_in writes c v s = put_in c v s
    touched_in is_told c v s = refl

    pub left_in : (ts : List Touch) (s : Store) → moved (store_behind (map (exchanged_touch name) ts) s) ≡ store_behind ts (moved s)
    left_in [] s = refl
    left_in (t ∷ ts) s = left_in ts (touched t.manner (name t.cell) t.content s) ∙ ap (store_behind ts) (touched_in t.manner t.cell t.content s)

    -- the items of a READ
    module _ (element : (x : List ℕ) (subscripts : List ℤ) → name (Element x subscripts) ≡ Element x subscripts) (g other : Names) (same : AreNames name g other) where
      taking_in : (items : List ExprTree) (n : ℕ) (d : Data) (s : Store) → taking other items n d s ≡ taken_in name (taking g items n d (moved s))
      taking_in [] n d s = refl
      taking_in (item ∷ rest) n d s = go (next_value_of d) (λ m left w. taking_in rest m left w)
        where
          go : (t : Result Taken ℕ) → ((m : ℕ) (left : Data) (w : Store) → taking other rest m left w ≡ taken_in name (taking g rest m left (moved w)))
              → with_taken d t (λ v left. into_item n left v (target other item s).seen (target other item s).result λ m c. taking other rest m left (put c (Number v) s))
              ≡ taken_in name (with_taken d t (λ v left. into_item n left v (target g item (moved s)).seen (target g item (moved s)).result λ m c. taking g rest m left (put c (Number v) (moved s))))
          go (Err fault) more = refl
          go (Ok t) more =
              ap (λ (z : Evaluated Cell). into_item n t.behind t.value z.seen z.result λ m c. taking other rest m t.behind (put c (Number t.value) s)) (target_in name element g other same item s)
              ∙ item_in n t.behind t.value (target g item (moved s)).seen (target g item (moved s)).result (λ m c. taking g rest m t.behind (put c (Number t.value) (moved s))) (λ m c. taking other rest m t.behind (put c (Number t.value) s))
              (λ m c. more m t.behind (put (name c) (Number t.value) s) ∙ ap (λ (w : Store). taken_in name (taking g rest m t.behind w)) (put_in c (Number t.value) s))

      pub taking_from_in : (items : List ExprTree) (b : Result Data ℕ) (s : Store) → taking_from other items b s ≡ taken_in name (taking_from g items b (moved s))
      taking_from_in items (Ok d) s = taking_in items 2 d s
      taking_from_in items (Err fault) s = refl

  -- scalars that become undefined
  module _ (scope other : Scope) (cell : (x : List ℕ) → cell_of other x ≡ name (cell_of scope x)) where
    pub undefined_by_in : (n : ℕ) (xs : List (List ℕ)) → undefined_by other n xs ≡ map (exchanged_touch name) (undefined_by scope n xs)
    undefined_by_in n [] = refl
    undefined_by_in n (x ∷ xs) = λ i. write_touch (cell x i) Undefined n ∷ undefined_by_in (suc n) xs i

    pub undefined_all_in : (xs : List (List ℕ)) → undefined_all other xs ≡ map (exchanged_touch name) (undefined_all scope xs)
    undefined_all_in [] = refl
    undefined_all_in (x ∷ xs) = λ i. write_touch (cell x i) Undefined 0 ∷ undefined_all_in xs i
