-- New names of copies in the DO that is taken apart: no two cells that units touch get one name, and none gets that of a cell that counts for nothing.
use Rattle.std.proofs.Common.{◌≡◌, ℕ, ◌⊎◌, ◌==◌, List, [], ◌∷◌, ◌++◌, Bool, true, false, ◌||◌, Option, Some, None, inl, inr, if◌then◌else◌, eq-eqb, eqb-true, refl, sym, ap, ◌∙◌}
use Rattle.std.proofs.lemmas.Bool.{both_ways, false_from_ne_true}
use Rattle.std.specs.List.{list_any}
use Rattle.ped_base.specs.Lists.{is_among}
use Rattle.ped_tree.specs.Tree.{Do, ProgramTree}
use Rattle.ped_rules.specs.ped_loop_runs.proofs.LoopLaws.OneForOneCells.{IsOfLoop}
use Rattle.ped_rules.specs.ped_loop_runs.proofs.PastingLaws.LeftCopies.{IsOwn}
use Rattle.ped_rules.specs.ped_bodies.proofs.BodyLaws.MovedCells.{behind_itself, moved_is}
use Rattle.ped_rules.specs.ped_bodies.proofs.BodyLaws.NamesApart.{behind_is}
use Rattle.ped_rules.specs.ped_bodies.specs.Moving.{behind_front, in_loop, is_cell_among, moved_behind, with_rest}
use Rattle.ped_rules.specs.ped_steps.specs.Runs.Exchanging.{is_of_scalar}
use Rattle.ped_rules.specs.ped_flow.specs.Questions.{LoopOf}
use Rattle.ped_rules.specs.ped_laws.proofs.ActLaws.SameCells.{cell_is}
use Rattle.ped_rules.specs.ped_laws.proofs.FlowRunLaws.Apart.{same_behind}
use Rattle.ped_rules.specs.ped_laws.proofs.FlowRunLaws.Names.{no_copy_within}
use Rattle.ped_rules.specs.ped_laws.specs.Runs.Replaying.{finish_of, goes_on}
use Rattle.ped_rules.specs.ped_eval.specs.Outcomes.{setting_of}
use Rattle.ped_rules.specs.ped_eval.specs.Runs.{run}
use Rattle.ped_rules.specs.ped_eval.specs.Scopes.{Scope, Setting, cell_of, turns_of}
use Rattle.ped_rules.specs.ped_store.specs.Acts.{iterations_of}
use Rattle.ped_rules.specs.ped_store.specs.Cells.{Cell, Iteration, Scalar, Private, Element, In, Out, same_cell}
use Rattle.ped_rules.specs.ped_store.specs.Stores.{Store}
use Rattle.ped_splits.proofs.SplitFacts.{IsSplit}
use Rattle.ped_splits.proofs.SplitNames.{in_its_loop, names_or_moves, number_of, split_names, unit_of_name, unit_of_statement}

same_first : (i j : Iteration) (is js : List Iteration) → i ∷ is ≡ j ∷ js → i ≡ j
same_first i j is js e = cc

same_rest : (i j : Iteration) (is js : List Iteration) → i ∷ is ≡ j ∷ js → is ≡ js
same_rest i j is js e = cc

same_name : (y z : List ℕ) (path other : List Iteration) → Private y path ≡ Private z other → y ≡ z
same_name y z path other e = cc

same_path : (y z : List ℕ) (path other : List Iteration) → Private y path ≡ Private z other → path ≡ other
same_path y z path other e = cc

module _ (t : ProgramTree) (s : ℕ) (l : LoopOf t s) (found : List (List ℕ)) (x : IsSplit t s l found) (scope : Scope) (v : Store) (goes : finish_of (run (setting_of t) (Do l.head l.body) s scope v).ending ≡ goes_on) where
  abbrev p : Setting
  p = setting_of t

  abbrev front : List Iteration
  front = iterations_of (turns_of scope)

  abbrev names : Cell → Cell
  names = split_names t s l found x scope v goes

  -- an iteration of the old DO
  abbrev pub own_turn : ℕ → Iteration
  own_turn n = record { statement = s; number = n }

  -- the number of the new DO to which a copy belongs
  abbrev pub number_in : List ℕ → List Iteration → ℕ
  number_in y [] = number_of t s l found x scope v goes (unit_of_name t s l found x scope v goes y)
  number_in y (j ∷ more) = number_of t s l found x scope v goes (unit_of_statement t s l found x scope v goes j.statement)

  in_loop_is : (m n : ℕ) (more : List Iteration) → in_loop s m (own_turn n ∷ more) ≡ record { statement = m; number = n } ∷ more
  in_loop_is m n more = ap (λ (b : Bool). if b then record { statement = m; number = n } ∷ more else own_turn n ∷ more) (eq-eqb s s refl)

  its_loop_is : (y : List ℕ) (n : ℕ) (more : List Iteration) → in_its_loop t s l found x scope v goes y (own_turn n ∷ more) ≡ record { statement = number_in y more; number = n } ∷ more
  its_loop_is y n [] = in_loop_is (number_in y []) n []
  its_loop_is y n (j ∷ more) = in_loop_is (number_in y (j ∷ more)) n (j ∷ more)

  -- a copy in the old DO is called so
  pub names_are : (y : List ℕ) (n : ℕ) (more : List Iteration) → split_names t s l found x scope v goes (Private y (iterations_of (turns_of scope) ++ own_turn n ∷ more)) ≡ Private y (iterations_of (turns_of scope) ++ record { statement = number_in y more; number = n } ∷ more)
  names_are y n more =
      ap (λ (o : Option (List Iteration)). Private y (with_rest front (in_its_loop t s l found x scope v goes y) (front ++ own_turn n ∷ more) o)) (behind_itself front (own_turn n ∷ more))
      ∙ ap (λ (r : List Iteration). Private y (front ++ r)) (its_loop_is y n more)

  -- and so in one DO
  pub moved_are : (m : ℕ) (y : List ℕ) (n : ℕ) (more : List Iteration) → moved_behind (iterations_of (turns_of scope)) (in_loop s m) (Private y (iterations_of (turns_of scope) ++ own_turn n ∷ more)) ≡ Private y (iterations_of (turns_of scope) ++ record { statement = m; number = n } ∷ more)
  moved_are m y n more = moved_is (in_loop s m) front (own_turn n ∷ more) y ∙ ap (λ (r : List Iteration). Private y (front ++ r)) (in_loop_is m n more)

  -- a copy that belongs to an iteration of the old DO, or further inside, and its new name
  pub record IsMoved (c d : Cell) : Type 0 where
    pub name : List ℕ
    pub number : ℕ
    pub rest : List Iteration
    pub of : ℕ
    pub was : c ≡ Private name (iterations_of (turns_of scope) ++ record { statement = s; number = number } ∷ rest)
    pub is : d ≡ Private name (iterations_of (turns_of scope) ++ record { statement = of; number = number } ∷ rest)

  pub names_moved : (c : Cell) → IsOfLoop (setting_of t) scope s c → IsMoved c (split_names t s l found x scope v goes c)
  names_moved c k = record { name = k.name; number = k.number; rest = k.rest; of = number_in k.name k.rest; was = k.is; is = ap names k.is ∙ names_are k.name k.number k.rest }

  pub names_or_moved : (c : Cell) → (split_names t s l found x scope v goes c ≡ c) ⊎ IsMoved c (split_names t s l found x scope v goes c)
  names_or_moved c = elim (names_or_moves t s l found x scope v goes c) [ inl e ↦ inl e | inr k ↦ inr (names_moved c k) ]

  -- in one DO a cell keeps its name, too, or is such a copy
  pub moved_or_not : (m : ℕ) (c : Cell) → (moved_behind (iterations_of (turns_of scope)) (in_loop s m) c ≡ c) ⊎ IsMoved c (moved_behind (iterations_of (turns_of scope)) (in_loop s m) c)
  moved_or_not m (Scalar y) = inl refl
  moved_or_not m (Element y js) = inl refl
  moved_or_not m In = inl refl
  moved_or_not m Out = inl refl
  moved_or_not m (Private y path) = go (behind_front front path) refl
    where
      renamed : (o : Option (List Iteration)) → behind_front front path ≡ o → moved_behind front (in_loop s m) (Private y path) ≡ Private y (with_rest front (in_loop s m) path o)
      renamed o e = ap (λ (r : Option (List Iteration)). Private y (with_rest front (in_loop s m) path r)) e

      by : (i : Iteration) (more : List Iteration) → behind_front front path ≡ Some (i ∷ more) → (b : Bool) → (i.statement == s) ≡ b → (moved_behind front (in_loop s m) (Private y path) ≡ Private y path) ⊎ IsMoved (Private y path) (moved_behind front (in_loop s m) (Private y path))
      by i more e false other =
          inl (renamed (Some (i ∷ more)) e ∙ ap (λ (b : Bool). Private y (front ++ (if b then record { statement = m; number = i.number } ∷ more else i ∷ more))) other ∙ ap (Private y) (sym (behind_is front path (i ∷ more) e)))
      by i more e true same =
          let of : i.statement ≡ s = eqb-true i.statement s same in
          let was : Private y path ≡ Private y (front ++ own_turn i.number ∷ more) = ap (Private y) (behind_is front path (i ∷ more) e ∙ (λ k. front ++ record { statement = of k; number = i.number } ∷ more)) in
          inr (record { name = y; number = i.number; rest = more; of = m; was = was; is = ap (moved_behind front (in_loop s m)) was ∙ moved_are m y i.number more })

      go : (o : Option (List Iteration)) → behind_front front path ≡ o → (moved_behind front (in_loop s m) (Private y path) ≡ Private y path) ⊎ IsMoved (Private y path) (moved_behind front (in_loop s m) (Private y path))
      go None e = inl (renamed None e)
      go (Some []) e = inl (renamed (Some []) e ∙ ap (Private y) (sym (behind_is front path [] e)))
      go (Some (i ∷ more)) e = by i more e (i.statement == s) refl

  -- what a name stands for at the place of the DO is no such copy
  other_cell : (y z : List ℕ) (i : Iteration) (rest : List Iteration) → same_cell (cell_of scope y) (Private z (front ++ i ∷ rest)) ≡ false
  other_cell y z i rest = false_from_ne_true (same_cell (cell_of scope y) (Private z (front ++ i ∷ rest))) (λ h. no_copy_within scope y z i rest (cell_is (cell_of scope y) (Private z (front ++ i ∷ rest)) h))

  pub none_here : (ys : List (List ℕ)) (z : List ℕ) (i : Iteration) (rest : List Iteration) → list_any (λ y. same_cell (cell_of scope y) (Private z (iterations_of (turns_of scope) ++ i ∷ rest))) ys ≡ false
  none_here [] z i rest = refl
  none_here (y ∷ ys) z i rest = λ k. other_cell y z i rest k || none_here ys z i rest k

  module _ (variables ys : List (List ℕ)) where
    abbrev idle : Cell → Bool
    idle c = is_cell_among variables c || list_any (λ y. same_cell (cell_of scope y) c) ys

    -- a new name counts as the old one does
    pub idle_alike : (c d : Cell) → (d ≡ c) ⊎ IsMoved c d → is_cell_among variables d || list_any (λ y. same_cell (cell_of scope y) d) ys ≡ is_cell_among variables c || list_any (λ y. same_cell (cell_of scope y) c) ys
    idle_alike c d (inl e) = ap idle e
    idle_alike c d (inr m) =
        ap idle m.is
        ∙ (λ k. is_among m.name variables || none_here ys m.name (record { statement = m.of; number = m.number }) m.rest k)
        ∙ (λ k. is_among m.name variables || sym (none_here ys m.name (own_turn m.number) m.rest) k)
        ∙ sym (ap idle m.was)

  -- what a name stands for at the place of the DO, or no cell of a scalar, or a copy in the old DO
  abbrev pub IsReached : Cell → Type 0
  IsReached c = IsOwn (setting_of t) scope c ⊎ IsOfLoop (setting_of t) scope s c

  own_no_copy : (c : Cell) (z : List ℕ) (i : Iteration) (rest : List Iteration) → IsOwn p scope c → c ≡ Private z (front ++ i ∷ rest) → ⊥
  own_no_copy c z i rest (inl o) e = no_copy_within scope o.0 z i rest (sym o.1 ∙ e)
  own_no_copy c z i rest (inr none) e = both_ways (is_of_scalar c) none (ap is_of_scalar e)

  pub own_stays : (c : Cell) → IsOwn (setting_of t) scope c → split_names t s l found x scope v goes c ≡ c
  own_stays c own = elim (names_or_moves t s l found x scope v goes c) [ inl e ↦ e | inr k ↦ absurd (own_no_copy c k.name (own_turn k.number) k.rest own k.is) ]

  pub own_unmoved : (m : ℕ) (c : Cell) → IsOwn (setting_of t) scope c → moved_behind (iterations_of (turns_of scope)) (in_loop s m) c ≡ c
  own_unmoved m c own = elim (moved_or_not m c) [ inl e ↦ e | inr k ↦ absurd (own_no_copy c k.name (own_turn k.number) k.rest own k.was) ]

  -- no two of these cells get one name
  pub split_apart : (c d : Cell) → IsReached c → IsReached d → split_names t s l found x scope v goes c ≡ split_names t s l found x scope v goes d → c ≡ d
  split_apart c d (inl a) (inl b) e = sym (own_stays c a) ∙ e ∙ own_stays d b
  split_apart c d (inl a) (inr k) e = let m = names_moved d k in absurd (own_no_copy c m.name (record { statement = m.of; number = m.number }) m.rest a (sym (own_stays c a) ∙ e ∙ m.is))
  split_apart c d (inr k) (inl b) e = let m = names_moved c k in absurd (own_no_copy d m.name (record { statement = m.of; number = m.number }) m.rest b (sym (own_stays d b) ∙ sym e ∙ m.is))
  split_apart c d (inr k) (inr r) e =
      let m = names_moved c k in
      let n = names_moved d r in
      let i : Iteration = record { statement = m.of; number = m.number } in
      let j : Iteration = record { statement = n.of; number = n.number } in
      let whole : Private m.name (front ++ i ∷ m.rest) ≡ Private n.name (front ++ j ∷ n.rest) = sym m.is ∙ e ∙ n.is in
      let name = same_name m.name n.name (front ++ i ∷ m.rest) (front ++ j ∷ n.rest) whole in
      let rests = same_behind front (i ∷ m.rest) (j ∷ n.rest) (same_path m.name n.name (front ++ i ∷ m.rest) (front ++ j ∷ n.rest) whole) in
      let number : m.number ≡ n.number = ap (λ (z : Iteration). z.number) (same_first i j m.rest n.rest rests) in
      let more = same_rest i j m.rest n.rest rests in
      m.was ∙ (λ q. Private (name q) (front ++ own_turn (number q) ∷ more q)) ∙ sym n.was
