-- A READ whose items are rewritten takes, at the other place, what it took, into cells that correspond.
use Rattle.std.proofs.Common.{◌≡◌, ℕ, suc, ℤ, List, [], ◌∷◌, ◌++◌, map, Bool, true, false, None, Result, Ok, Err, inl, refl, sym, ap, subst, ◌∙◌, if◌then◌else◌}
use Rattle.std.specs.List.{flat_map}
use Rattle.ped_steps.specs.ped_flow.specs.ped_base.specs.Lists.{is_among}
use Rattle.ped_steps.specs.ped_flow.specs.ped_tree.specs.Tree.{ExprTree, ExprTrees, Var}
use Rattle.ped_steps.specs.ped_flow.specs.ped_tree.specs.NamesIn.{expr_names}
use Rattle.ped_steps.specs.ped_affine.specs.Assigned.{assigned_left}
use Rattle.ped_steps.specs.ped_store.specs.Cells.{Cell, Scalar, Element, Private, In, Out, same_cell}
use Rattle.ped_steps.specs.ped_store.specs.Stores.{Content, Number, Lines, Store, put, lines_in}
use Rattle.ped_steps.specs.ped_store.specs.Acts.{Touch, Place, did, store_behind}
use Rattle.ped_steps.specs.ped_store.specs.Races.{is_lines}
use Rattle.ped_steps.specs.ped_store.specs.DataLines.{Data, begun, Taken, next_value_of}
use Rattle.ped_steps.specs.ped_laws.specs.Acts.Fitting.{Find}
use Rattle.ped_steps.specs.ped_laws.proofs.ActLaws.Stores.{find_first, find_rest}
use Rattle.ped_steps.specs.ped_eval.specs.Scopes.{Setting, Scope, Names, names_in}
use Rattle.ped_steps.specs.ped_eval.specs.Evaluation.{Seen, cell_seen, index_seen, Evaluated, numbered, number_behind}
use Rattle.ped_steps.specs.ped_eval.specs.Values.{target}
use Rattle.ped_steps.specs.ped_eval.specs.Statements.{Taking, into_item, with_taken, taking, taking_from, reading, having_touched, reading_touches, read_touch, write_touch}
use Rattle.ped_steps.specs.ped_eval.specs.Runs.{does, nothing_done, run_taking, run_read}
use Rattle.ped_steps.specs.ped_laws.specs.Runs.Seeing.{Holds}
use Rattle.ped_steps.specs.ped_laws.specs.Runs.Replaying.{goes_on, act, Replays}
use Rattle.ped_steps.specs.ped_laws.proofs.RunLaws.Told.{found_reads_first}
use Rattle.ped_steps.specs.Runs.Pasting.{AgreeInBounds}
use Rattle.ped_bodies.specs.Rewriting.{IsRewriting}
use Rattle.ped_bodies.specs.Likewise.{NamesScalars, OfSeen, ComesLikewise}
use Rattle.ped_bodies.specs.Standing.{EvaluateLikewise}
use Rattle.ped_bodies.proofs.BodyLaws.Corresponding.{Alike, alike_append, read_meets, write_meets}
use Rattle.ped_bodies.proofs.BodyLaws.LikewiseSight.{Within, within_parts, among_first, among_rest, CellsMeet, target_match}

-- stores that hold the same but for the data
abbrev SameButData : Store → Store → Type 0
SameButData s u = (c : Cell) → is_lines c ≡ false → s c ≡ u c

same_put : (c : Cell) (v : Content) (s u : Store) → SameButData s u → SameButData (put c v s) (put c v u)
same_put c v s u h d k = ap (λ (w : Content). if same_cell c d then v else w) (h d k)

behind_data : (v : Content) (s : Store) → SameButData (put In v s) s
behind_data v s (Scalar x) k = refl
behind_data v s (Element x js) k = refl
behind_data v s (Private x path) k = refl
behind_data v s In k = absurd cc
behind_data v s Out k = absurd cc

same_holds : (u w : Store) (seen : List Seen) → SameButData u w → OfSeen (λ c. is_lines c ≡ false) seen → Holds u seen → Holds w seen
same_holds u w [] h a k = tt
same_holds u w (cell_seen c content ∷ more) h a k = (sym (h c a.0) ∙ k.0, same_holds u w more h a.1 k.1)
same_holds u w (index_seen c v ∷ more) h a k = same_holds u w more h a.1 k

reads_leave : (seen : List Seen) (n : ℕ) (ts : List Touch) (s : Store) → store_behind (numbered n seen ++ ts) s ≡ store_behind ts s
reads_leave [] n ts s = refl
reads_leave (cell_seen c content ∷ more) n ts s = reads_leave more (suc n) ts s
reads_leave (index_seen c value ∷ more) n ts s = reads_leave more n ts s

-- what was taken without a fault is taken likewise: from each store that the new touches fit, whatever its data are
pub record TakesAlike (name : Cell → Cell) (idle : Cell → Bool) (t : Taking) (take : Store → Taking) : Type 0 where
  pub touches : List Touch
  pub alike : Alike name idle t.touches touches
  pub again : (u w : Store) → SameButData u w → Find touches u → take w ≡ record { touches = touches; left = t.left; fault = None }

-- an item that is taken, and then the others
module _ (name : Cell → Cell) (idle : Cell → Bool) (n : ℕ) (left : Data) (v : ℤ) (seen : List Seen) (c : Cell) (t : Taking) (z : Store → Evaluated Cell) (next : ℕ → Store → Taking) (d : Cell) (m : CellsMeet name idle c d) (k : ComesLikewise name idle seen z d)
    (rest : TakesAlike name idle t (next (suc (number_behind n seen)))) where
  abbrev old_here : List Touch
  old_here = numbered n seen ++ write_touch c (Number v) (number_behind n seen) ∷ []

  abbrev here : List Touch
  here = numbered n k.seen ++ write_touch d (Number v) (number_behind n k.seen) ∷ []

  abbrev item_taken : Store → Taking
  item_taken w = into_item n left v (z w).seen (z w).result (λ j e. next j (put e (Number v) w))

  here_alike : Alike name idle old_here here
  here_alike =
      alike_append name idle (numbered n seen) (numbered n k.seen) (write_touch c (Number v) (number_behind n seen) ∷ []) (write_touch d (Number v) (number_behind n k.seen) ∷ []) (k.alike.touches n)
      (subst (λ (j : ℕ). Alike name idle (write_touch c (Number v) (number_behind n seen) ∷ []) (write_touch d (Number v) j ∷ [])) (sym (k.alike.behind n)) (write_meets name idle c d (Number v) (number_behind n seen) m.meet, tt))

  item_again : (u w : Store) → SameButData u w → Find (here ++ rest.touches) u → item_taken w ≡ record { touches = here ++ rest.touches; left = t.left; fault = None }
  item_again u w same found =
      ap (λ (e : Evaluated Cell). into_item n left v e.seen e.result (λ j b. next j (put b (Number v) w)))
      (k.comes w (same_holds u w k.seen same k.apart (found_reads_first k.seen n (write_touch d (Number v) (number_behind n k.seen) ∷ []) u (find_first here rest.touches u found))))
      ∙ ap (λ (j : ℕ). having_touched here (next (suc j) (put d (Number v) w))) (k.alike.behind n)
      ∙ ap (having_touched here)
      (rest.again (put d (Number v) u) (put d (Number v) w) (same_put d (Number v) u w same)
      (subst (Find rest.touches) (reads_leave k.seen n (write_touch d (Number v) (number_behind n k.seen) ∷ []) u) (find_rest here rest.touches u found)))

  item_alike : TakesAlike name idle (having_touched old_here t) item_taken
  item_alike = record { touches = here ++ rest.touches; alike = alike_append name idle old_here here t.touches rest.touches here_alike rest.alike; again = item_again }

module _ (name : Cell → Cell) (idle : Cell → Bool) (laws : NamesScalars name) (h : ExprTree → ExprTree) (hs : ExprTrees → ExprTrees) (parts : IsRewriting h hs) (p q : Setting) (constants : p.constants ≡ q.constants)
    (names : List (List ℕ)) (bounds : AgreeInBounds p.bounds q.bounds names) (scope other : Scope) (at : EvaluateLikewise h name idle q names scope other) where
  abbrev g : Names
  g = names_in p scope

  abbrev z : Names
  z = names_in q other

  abbrev Kept : List (List ℕ) → Type 0
  Kept xs = (x : List ℕ) → is_among x xs ≡ true → h (Var x) ≡ Var x

  -- what came of items without a fault comes of the rewritten ones
  abbrev Takes : List ExprTree → Type 0
  Takes items = (n : ℕ) (d : Data) (s : Store) → (taking g items n d s).fault ≡ None → TakesAlike name idle (taking g items n d s) (taking z (map h items) n d)

  module _ (item : ExprTree) (rest : List ExprTree) (more : Takes rest) (among : Within names (expr_names item)) (kept : Kept (assigned_left item)) (n : ℕ) (s : Store) where
    into_alike : (left : Data) (v : ℤ) (r : Result Cell ℕ) → (target g item s).result ≡ r → (into_item n left v (target g item s).seen r (λ m c. taking g rest m left (put c (Number v) s))).fault ≡ None
        → TakesAlike name idle (into_item n left v (target g item s).seen r (λ m c. taking g rest m left (put c (Number v) s)))
        (λ w. into_item n left v (target z (h item) w).seen (target z (h item) w).result (λ m c. taking z (map h rest) m left (put c (Number v) w)))
    into_alike left v (Ok c) is e =
        let t = target_match name idle laws h hs parts p q constants names bounds scope other at item s among kept c is in
        item_alike name idle n left v (target g item s).seen c (taking g rest (suc (number_behind n (target g item s).seen)) left (put c (Number v) s)) (target z (h item)) (λ m. taking z (map h rest) m left) t.0 t.1 t.2
        (more (suc (number_behind n (target g item s).seen)) left (put c (Number v) s) e)
    into_alike left v (Err k) is e = absurd cc

    taken_alike : (d : Data) (t : Result Taken ℕ) → (with_taken d t (λ v left. into_item n left v (target g item s).seen (target g item s).result λ m c. taking g rest m left (put c (Number v) s))).fault ≡ None
        → TakesAlike name idle (with_taken d t (λ v left. into_item n left v (target g item s).seen (target g item s).result λ m c. taking g rest m left (put c (Number v) s)))
        (λ w. with_taken d t (λ v left. into_item n left v (target z (h item) w).seen (target z (h item) w).result λ m c. taking z (map h rest) m left (put c (Number v) w)))
    taken_alike d (Err k) e = absurd cc
    taken_alike d (Ok t) e = into_alike t.behind t.value (target g item s).result refl e

  taking_alike : (items : List ExprTree) → Within names (flat_map expr_names items) → Kept (flat_map assigned_left items) → Takes items
  taking_alike [] among kept n d s e = record { touches = []; alike = tt; again = λ u w same found. refl }
  taking_alike (item ∷ rest) among kept n d s e =
      let each = within_parts names (expr_names item) (flat_map expr_names rest) among in
      taken_alike item rest (taking_alike rest each.1 (λ x k. kept x (among_rest x (assigned_left item) (flat_map assigned_left rest) k))) each.0 (λ x k. kept x (among_first x (assigned_left item) (flat_map assigned_left rest) k))
      n s d (next_value_of d) e

  from_alike : (items : List ExprTree) → Takes items → (b : Result Data ℕ) (s : Store) → (taking_from g items b s).fault ≡ None → TakesAlike name idle (taking_from g items b s) (taking_from z (map h items) b)
  from_alike items more (Ok d) s e = more 2 d s e
  from_alike items more (Err k) s e = absurd cc

  -- the touches of a READ without a fault, at the other place
  module _ (items : List ExprTree) (s : Store) (k : TakesAlike name idle (reading g items s) (taking_from z (map h items) (begun (lines_in (s In))))) (place : Place) where
    abbrev left : Data
    left = (reading g items s).left

    abbrev fresh : List Touch
    fresh = read_touch In (s In) 0 ∷ (write_touch In (Lines left.lines) 1 ∷ k.touches)

    fresh_alike : Alike name idle (reading_touches (reading g items s) s) fresh
    fresh_alike = (read_meets name idle In In (s In) 0 (inl (sym laws.input)), (write_meets name idle In In (Lines left.lines) 1 (inl (sym laws.input)), k.alike))

    read_again : (u : Store) → Find fresh u → reading z (map h items) u ≡ record { touches = k.touches; left = left; fault = None }
    read_again u found =
        ap (λ (c : Content). taking_from z (map h items) (begun (lines_in c)) u) found.0
        ∙ k.again (put In (Lines left.lines) u) u (behind_data (Lines left.lines) u) found.1.1

    fresh_replays : Replays (run_read z place (map h items)) (act did place fresh ∷ []) goes_on
    fresh_replays u fit =
        ap (λ (t : Taking). run_taking place t t.fault u) (read_again u fit.0)
        ∙ ap (λ (c : Content). does did place (read_touch In c 0 ∷ (write_touch In (Lines left.lines) 1 ∷ k.touches)) nothing_done u) fit.0.0

  -- what a READ does where it meets no fault
  pub record ReadsAlike (items : List ExprTree) (s : Store) (place : Place) : Type 0 where
    pub touches : List Touch
    pub alike : Alike name idle (reading_touches (reading g items s) s) touches
    pub replays : Replays (run_read z place (map h items)) (act did place touches ∷ []) goes_on

  pub read_alike : (items : List ExprTree) → Within names (flat_map expr_names items) → Kept (flat_map assigned_left items) → (s : Store) → (reading g items s).fault ≡ None → (place : Place) → ReadsAlike items s place
  read_alike items among kept s e place =
      let k = from_alike items (taking_alike items among kept) (begun (lines_in (s In))) s e in
      record { touches = fresh items s k place; alike = fresh_alike items s k place; replays = fresh_replays items s k place }
