-- The acts of a READ tell it.
use Rattle.std.proofs.Common.{◌≡◌, ℕ, suc, ℤ, List, [], ◌∷◌, ◌++◌, false, Option, Some, None, Result, Ok, Err, refl, sym, ap, subst, ◌∙◌, if◌then◌else◌}
use Rattle.ped_flow.specs.ped_tree.specs.Tree.{ExprTree}
use Rattle.ped_eval.specs.ped_store.specs.Cells.{Cell, Scalar, Element, Private, In, Out, same_cell}
use Rattle.ped_eval.specs.ped_store.specs.Stores.{Content, Number, Lines, Store, put, lines_in}
use Rattle.ped_eval.specs.ped_store.specs.Acts.{Place, did}
use Rattle.ped_eval.specs.ped_store.specs.Races.{is_lines}
use Rattle.ped_eval.specs.ped_store.specs.DataLines.{Data, begun, Taken, next_value_of}
use Rattle.ped_laws.specs.Acts.Fitting.{Find}
use Rattle.ped_laws.proofs.ActLaws.Stores.{find_append, find_first, find_rest}
use Rattle.ped_eval.specs.Scopes.{Names}
use Rattle.ped_eval.specs.Evaluation.{Seen, cell_seen, index_seen, Evaluated, numbered, number_behind}
use Rattle.ped_eval.specs.Values.{target}
use Rattle.ped_eval.specs.Statements.{Taking, into_item, with_taken, taking, taking_from, reading, having_touched, reading_touches, read_touch, write_touch}
use Rattle.ped_eval.specs.Runs.{does, fails, nothing_done, run_taking, run_read}
use Rattle.ped_eval.proofs.Endings.{reads_leave}
use Rattle.ped_laws.specs.Runs.Seeing.{Holds}
use Rattle.ped_laws.specs.Runs.Replaying.{finish_of, Replays, IsToldByActs}
use Rattle.ped_laws.proofs.RunLaws.Sight.{target_told}
use Rattle.ped_laws.proofs.RunLaws.SeenCells.{AllSeen, target_seen}
use Rattle.ped_laws.proofs.RunLaws.Told.{reads_found, found_reads, reads_found_first, found_reads_first, Tells, told_by}

-- stores that hold the same but for the data
abbrev SameButData : Store → Store → Type 0
SameButData s u = (c : Cell) → is_lines c ≡ false → s c ≡ u c

same_put : (c : Cell) (v : Content) (s u : Store) → SameButData s u → SameButData (put c v s) (put c v u)
same_put c v s u h d k = ap (λ (w : Content). if same_cell c d then v else w) (h d k)

same_behind_data : (v : Content) (s : Store) → SameButData s (put In v s)
same_behind_data v s (Scalar x) k = refl
same_behind_data v s (Element x js) k = refl
same_behind_data v s (Private x path) k = refl
same_behind_data v s In k = absurd cc
same_behind_data v s Out k = absurd cc

-- what isn't read in the data is held by such stores alike
same_holds : (s u : Store) (seen : List Seen) → SameButData s u → AllSeen (λ c. is_lines c ≡ false) seen → Holds s seen → Holds u seen
same_holds s u [] h a k = tt
same_holds s u (cell_seen c content ∷ more) h a k = (sym (h c a.0) ∙ k.0, same_holds s u more h a.1 k.1)
same_holds s u (index_seen c v ∷ more) h a k = same_holds s u more h a.1 k

module _ (g : Names) (apart : (x : List ℕ) → is_lines (g.cell x) ≡ false) where
  seen_apart : (e : ExprTree) (s : Store) → AllSeen (λ c. is_lines c ≡ false) (target g e s).seen
  seen_apart e s = target_seen (λ c. is_lines c ≡ false) g apart (λ x js. refl) e s

  -- an item is stored, and the others follow
  module _ (rest : List ExprTree) where
    item_found : ((n : ℕ) (d : Data) (s u : Store) → SameButData s u → Find (taking g rest n d s).touches u)
        → (n : ℕ) (left : Data) (v : ℤ) (s u : Store) → SameButData s u → (seen : List Seen) (r : Result Cell ℕ) → Holds u seen
        → Find (into_item n left v seen r (λ m c. taking g rest m left (put c (Number v) s))).touches u
    item_found more n left v s u h seen (Err fault) k = reads_found seen n u k
    item_found more n left v s u h seen (Ok c) k =
        let w = write_touch c (Number v) (number_behind n seen) in
        find_append (numbered n seen ++ w ∷ []) (taking g rest (suc (number_behind n seen)) left (put c (Number v) s)).touches u
        (reads_found_first seen n (w ∷ []) u k (tt, tt))
        (subst (Find (taking g rest (suc (number_behind n seen)) left (put c (Number v) s)).touches) (sym (reads_leave seen n (w ∷ []) u))
        (more (suc (number_behind n seen)) left (put c (Number v) s) (put c (Number v) u) (same_put c (Number v) s u h)))

    item_again : ((n : ℕ) (d : Data) (s u w : Store) → SameButData u w → Find (taking g rest n d s).touches u → taking g rest n d w ≡ taking g rest n d s)
        → (n : ℕ) (left : Data) (v : ℤ) (s u w : Store) → SameButData u w → (seen : List Seen) (r : Result Cell ℕ) (e : Evaluated Cell) → (Holds u seen → e ≡ record { seen = seen; result = r })
        → Find (into_item n left v seen r (λ m c. taking g rest m left (put c (Number v) s))).touches u
        → into_item n left v e.seen e.result (λ m c. taking g rest m left (put c (Number v) w)) ≡ into_item n left v seen r (λ m c. taking g rest m left (put c (Number v) s))
    item_again more n left v s u w h seen (Err fault) e same f =
        ap (λ (z : Evaluated Cell). into_item n left v z.seen z.result (λ m c. taking g rest m left (put c (Number v) w))) (same (found_reads seen n u f))
    item_again more n left v s u w h seen (Ok c) e same f =
        let t = write_touch c (Number v) (number_behind n seen) in
        let others = (taking g rest (suc (number_behind n seen)) left (put c (Number v) s)).touches in
        ap (λ (z : Evaluated Cell). into_item n left v z.seen z.result (λ m c. taking g rest m left (put c (Number v) w)))
        (same (found_reads_first seen n (t ∷ []) u (find_first (numbered n seen ++ t ∷ []) others u f)))
        ∙ ap (having_touched (numbered n seen ++ t ∷ []))
        (more (suc (number_behind n seen)) left (put c (Number v) s) (put c (Number v) u) (put c (Number v) w) (same_put c (Number v) u w h)
        (subst (Find others) (reads_leave seen n (t ∷ []) u) (find_rest (numbered n seen ++ t ∷ []) others u f)))

    taken_found : ((n : ℕ) (d : Data) (s u : Store) → SameButData s u → Find (taking g rest n d s).touches u)
        → (item : ExprTree) (n : ℕ) (d : Data) (s u : Store) → SameButData s u → (t : Result Taken ℕ)
        → Find (with_taken d t (λ v left. into_item n left v (target g item s).seen (target g item s).result λ m c. taking g rest m left (put c (Number v) s))).touches u
    taken_found more item n d s u h (Err fault) = tt
    taken_found more item n d s u h (Ok t) =
        item_found more n t.behind t.value s u h (target g item s).seen (target g item s).result (same_holds s u (target g item s).seen h (seen_apart item s) ((target_told g item).holds s))

    taken_again : ((n : ℕ) (d : Data) (s u w : Store) → SameButData u w → Find (taking g rest n d s).touches u → taking g rest n d w ≡ taking g rest n d s)
        → (item : ExprTree) (n : ℕ) (d : Data) (s u w : Store) → SameButData u w → (t : Result Taken ℕ)
        → Find (with_taken d t (λ v left. into_item n left v (target g item s).seen (target g item s).result λ m c. taking g rest m left (put c (Number v) s))).touches u
        → with_taken d t (λ v left. into_item n left v (target g item w).seen (target g item w).result λ m c. taking g rest m left (put c (Number v) w))
        ≡ with_taken d t (λ v left. into_item n left v (target g item s).seen (target g item s).result λ m c. taking g rest m left (put c (Number v) s))
    taken_again more item n d s u w h (Err fault) f = refl
    taken_again more item n d s u w h (Ok t) f =
        item_again more n t.behind t.value s u w h (target g item s).seen (target g item s).result (target g item w)
        (λ k. (target_told g item).comes s w (same_holds u w (target g item s).seen h (seen_apart item s) k)) f

  -- the touches of the items fit each store that holds the same but for the data
  taking_found : (items : List ExprTree) (n : ℕ) (d : Data) (s u : Store) → SameButData s u → Find (taking g items n d s).touches u
  taking_found [] n d s u h = tt
  taking_found (item ∷ rest) n d s u h = taken_found rest (taking_found rest) item n d s u h (next_value_of d)

  -- and from each that they fit they are the same
  taking_again : (items : List ExprTree) (n : ℕ) (d : Data) (s u w : Store) → SameButData u w → Find (taking g items n d s).touches u → taking g items n d w ≡ taking g items n d s
  taking_again [] n d s u w h f = refl
  taking_again (item ∷ rest) n d s u w h f = taken_again rest (taking_again rest) item n d s u w h (next_value_of d) f

  from_found : (items : List ExprTree) (b : Result Data ℕ) (s u : Store) → SameButData s u → Find (taking_from g items b s).touches u
  from_found items (Ok d) s u h = taking_found items 2 d s u h
  from_found items (Err fault) s u h = tt

  from_again : (items : List ExprTree) (b : Result Data ℕ) (s u w : Store) → SameButData u w → Find (taking_from g items b s).touches u → taking_from g items b w ≡ taking_from g items b s
  from_again items (Ok d) s u w h f = taking_again items 2 d s u w h f
  from_again items (Err fault) s u w h f = refl

  module _ (at : Place) (items : List ExprTree) where
    read_found : (s : Store) → Find (reading_touches (reading g items s) s) s
    read_found s = (refl, (tt, from_found items (begun (lines_in (s In))) s (put In (Lines (reading g items s).left.lines) s) (same_behind_data (Lines (reading g items s).left.lines) s)))

    read_again : (s u : Store) → Find (reading_touches (reading g items s) s) u → reading g items u ≡ reading g items s
    read_again s u f =
        ap (λ (c : Content). taking_from g items (begun (lines_in c)) u) f.0
        ∙ from_again items (begun (lines_in (s In))) s (put In (Lines (reading g items s).left.lines) u) u (λ c k. sym (same_behind_data (Lines (reading g items s).left.lines) u c k)) f.1.1

    read_tells : (s : Store) (fault : Option ℕ) → (reading g items s).fault ≡ fault → Tells (run_read g at items) s (run_taking at (reading g items s) fault s)
    read_tells s None e = ((read_found s, tt), again)
      where
        again : Replays (run_read g at items) (run_taking at (reading g items s) None s).acts (finish_of (run_taking at (reading g items s) None s).ending)
        again u f =
            ap (λ (t : Taking). run_taking at t t.fault u) (read_again s u f.0)
            ∙ ap (λ (o : Option ℕ). run_taking at (reading g items s) o u) e
            ∙ ap (λ (c : Content). does did at (read_touch In c 0 ∷ (write_touch In (Lines (reading g items s).left.lines) 1 ∷ (reading g items s).touches)) nothing_done u) f.0.0
    read_tells s (Some n) e = ((read_found s, tt), again)
      where
        again : Replays (run_read g at items) (run_taking at (reading g items s) (Some n) s).acts (finish_of (run_taking at (reading g items s) (Some n) s).ending)
        again u f =
            ap (λ (t : Taking). run_taking at t t.fault u) (read_again s u f.0)
            ∙ ap (λ (o : Option ℕ). run_taking at (reading g items s) o u) e
            ∙ ap (λ (c : Content). fails at (read_touch In c 0 ∷ (write_touch In (Lines (reading g items s).left.lines) 1 ∷ (reading g items s).touches)) n) f.0.0

    pub read_told : IsToldByActs (run_read g at items)
    read_told = told_by (run_read g at items) λ s. read_tells s (reading g items s).fault refl
