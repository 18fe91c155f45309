-- A DO with an expanded scalar makes no race: where the old run has none, the new acts have none.
use Rattle.std.proofs.Common.{◌≡◌, ℕ, ℤ, List, [], ◌∷◌, ◌++◌, cond, Bool, true, false, refl, sym, ap, subst, ◌∙◌, ◌⊎◌, inl, inr, append-nil, zero, suc, ◌+◌, ◌≤◌, Ok, append_assoc, arith, ◌<◌, eqb, if◌then◌else◌}
use Rattle.std.specs.Prelude.{not, ◌||◌, ◌&&◌}
use Rattle.std.proofs.lemmas.Bool.{both_ways, and_parts}
use Rattle.std.specs.Str.Lines.{lines}
use Rattle.ped_base.specs.Lists.{is_among}
use Rattle.ped_tree.specs.Tree.{Head, StmtTrees, Do, ProgramTree}
use Rattle.ped_tree.specs.Numbering.{statement_count, statements_count}
use Rattle.ped_rules.specs.ped_store.specs.Cells.{Cell, Scalar, Element, Private, In, Out, same_cell}
use Rattle.ped_rules.specs.ped_store.specs.Stores.{Content, Store, store_at_start}
use Rattle.ped_rules.specs.ped_store.specs.Acts.{Manner, reads, writes, is_told, Touch, Turn, Place, did, Act}
use Rattle.ped_rules.specs.ped_store.specs.Races.{Access, is_lines, is_write, is_access, accesses_of, accesses, are_apart, race, HasNoRace}
use Rattle.ped_rules.specs.ped_laws.specs.Acts.Fitting.{has_cell, of_cells, store_after}
use Rattle.ped_rules.specs.ped_laws.specs.Acts.Orders.{IsIn, StandsBefore}
use Rattle.ped_rules.specs.ped_laws.specs.Acts.Renaming.{AreRenamed, touch}
use Rattle.ped_rules.specs.ped_laws.proofs.ActLaws.Renamings.{or_right, or_left}
use Rattle.ped_rules.specs.ped_laws.proofs.ActLaws.Conflicting.{access_by, access_in, accesses_in}
use Rattle.ped_rules.specs.ped_eval.specs.Scopes.{Scope, turns_of, cell_of, Setting, names_in, place_of}
use Rattle.ped_rules.specs.ped_laws.specs.Runs.Replaying.{act, goes_on, has_fault, finish_of}
use Rattle.ped_rules.specs.ped_steps.specs.Runs.Exchanging.{swapped}
use Rattle.ped_rules.specs.ped_steps.specs.Runs.Substituting.{IsSameOn, AreSameOn}
use Rattle.ped_rules.specs.ped_steps.proofs.RunLaws.Swapped.{decided, swapped_first, swapped_other}
use Rattle.ped_rules.specs.ped_steps.proofs.RunLaws.AccessTouches.{touch_of, touch_there, IsTold, write_in, write_access, accesses_from}
use Rattle.ped_rules.specs.ped_laws.specs.Acts.Sets.{written}
use Rattle.ped_rules.specs.ped_laws.proofs.ActLaws.Lists.{in_left, in_right, in_parts, first_in, second_in}
use Rattle.ped_rules.specs.ped_eval.specs.Evaluation.{Seen}
use Rattle.ped_rules.specs.ped_eval.specs.Loops.{Limits, limits, frame, value_in, entered_with}
use Rattle.ped_rules.specs.ped_eval.specs.Runs.{Run, run, run_all}
use Rattle.ped_scalar.proofs.ArraysForScalars.{body_with}
use Rattle.ped_rules.specs.ped_steps.proofs.RunLaws.RunPlaces.{stands_in}
use Rattle.ped_rules.specs.ped_symbols.specs.NameRefusals.{IsValid}
use Rattle.ped_rules.specs.ped_laws.specs.Acts.Pieces.{Part, same, changed, old_parts, new_parts}
use Rattle.ped_rules.specs.ped_laws.proofs.ActLaws.SameCells.{cell_is}
use Rattle.ped_rules.specs.ped_eval.specs.Outcomes.{setting_of, run_of}
use Rattle.ped_rules.specs.ped_flow.specs.Questions.{LoopOf}
use Rattle.ped_rules.specs.ped_weaves.specs.Sources.{RaceSomewhere}
use Rattle.ped_rules.specs.ped_weaves.proofs.WeaveLaws.RaceSources.{pairs_free}
use Rattle.ped_rules.specs.ped_steps.specs.Replacing.{alone}
use Rattle.ped_rules.specs.ped_steps.specs.Runs.Pasting.{IsPlaceOf}
use Rattle.ped_rules.specs.ped_steps.specs.Runs.Renumbering.{IsToldBack, renumbered}
use Rattle.ped_rules.specs.ped_loop_runs.specs.Meaning.{RaceFreeInstead}
use Rattle.ped_rules.specs.ped_loop_runs.specs.Pasting.{AreExchanged}
use Rattle.ped_rules.specs.ped_loop_runs.proofs.LoopLaws.OldRaces as origins
use Rattle.ped_rules.specs.ped_loop_runs.proofs.LoopLaws.OneForOneStands.{run_alone}
use Rattle.ped_rules.specs.ped_loop_runs.proofs.LoopLaws.RacesByReferences.{told_is_unreferred}
use Rattle.ped_rules.proofs.NameLaws.RenumberedRaces.{references_renumbered}
use Rattle.ped_scalar.proofs.ExpandedLoops.{keeping_touches, e, name_in, trip, new_trip, end, left_by, new_turns, old_turns, IsSubstituted, AreLeft, entry, entered_by, new_loop, left_in, kept_acts, new_acts, IsKept, IsEnteredBy, expanded_acts, expanded_is}
use Rattle.ped_scalar.proofs.PrivatisedLoops.{turns_are, more_goes, trip_goes, loop_is, turns_go}
use Rattle.ped_scalar.proofs.PrivatisedParts.{do_entered}

-- reads and writes of cells among touches
among_cells : (ts : List Touch) (u : Touch) → IsIn u ts → has_cell u.manner ≡ true → IsIn u (of_cells ts)
among_cells [] u i h = absurd i
among_cells (t ∷ ts) u (inl e) h = go (has_cell t.manner) (ap (λ (z : Touch). has_cell z.manner) (sym e) ∙ h)
  where
    go : (b : Bool) → b ≡ true → IsIn u (cond b (t ∷ of_cells ts) (of_cells ts))
    go true q = inl e
    go false q = absurd cc
among_cells (t ∷ ts) u (inr i) h = go (has_cell t.manner) (among_cells ts u i h)
  where
    go : (b : Bool) → IsIn u (of_cells ts) → IsIn u (cond b (t ∷ of_cells ts) (of_cells ts))
    go true j = inr j
    go false j = j

cells_among : (ts : List Touch) (v : Touch) → IsIn v (of_cells ts) → IsIn v ts × (has_cell v.manner ≡ true)
cells_among [] v i = absurd i
cells_among (t ∷ ts) v i = go (has_cell t.manner) refl i (cells_among ts v)
  where
    go : (b : Bool) → has_cell t.manner ≡ b → IsIn v (cond b (t ∷ of_cells ts) (of_cells ts)) → (IsIn v (of_cells ts) → IsIn v ts × (has_cell v.manner ≡ true)) → IsIn v (t ∷ ts) × (has_cell v.manner ≡ true)
    go true q (inl e) more = (inl e, ap (λ (z : Touch). has_cell z.manner) e ∙ q)
    go true q (inr j) more = let r = more j in (inr r.0, r.1)
    go false q j more = let r = more j in (inr r.0, r.1)

-- a touch of the new acts is one of the old ones, renamed
renamed_touch : (name : Cell → Cell) (ts us : List Touch) → AreRenamed name ts us → (u : Touch) → IsIn u us → (v : Touch) × IsIn v ts × (v.manner ≡ u.manner) × (u.cell ≡ name v.cell)
renamed_touch name [] [] h u i = absurd i
renamed_touch name [] (w ∷ us) h u i = absurd h
renamed_touch name (t ∷ ts) [] h u i = absurd i
renamed_touch name (t ∷ ts) (w ∷ us) h u (inl e) = (t, inl refl, h.0 ∙ ap (λ (z : Touch). z.manner) (sym e), ap (λ (z : Touch). z.cell) e ∙ h.2)
renamed_touch name (t ∷ ts) (w ∷ us) h u (inr i) = let r = renamed_touch name ts us h.3 u i in (r.0, inr r.1, r.2, r.3)

pub same_act : (name : Cell → Cell) (acts others : List Act) → AreSameOn name acts others → (b : Act) → IsIn b others → (a : Act) × IsIn a acts × IsSameOn name a b
same_act name [] [] h b i = absurd i
same_act name [] (o ∷ others) h b i = absurd h
same_act name (a ∷ acts) [] h b i = absurd i
same_act name (a ∷ acts) (o ∷ others) h b (inl e) = (a, inl refl, subst (IsSameOn name a) (sym e) h.0)
same_act name (a ∷ acts) (o ∷ others) h b (inr i) = let r = same_act name acts others h.1 b i in (r.0, inr r.1, r.2)

-- what is written is a cell
pub write_touches : (m : Manner) → is_write m ≡ true → has_cell m ≡ true
write_touches writes h = refl
write_touches reads h = absurd cc
write_touches is_told h = absurd cc

module _ (x array : List ℕ) where
  -- an access of the old acts that a new one comes from, in its iterations or further inside: the same, or one of the scalar where the new one is of an element of the array
  pub record HasOrigin (acts : List Act) (b : Access) : Type 0 where
    pub origin : Access
    pub found : IsIn origin (accesses acts)
    pub more : List Turn
    pub inside : origin.place.turns ≡ b.place.turns ++ more
    pub writes : b.writes ≡ true → origin.writes ≡ true
    pub cell : (origin.cell ≡ b.cell) ⊎ ((origin.cell ≡ Scalar x) × (n : ℤ) × (b.cell ≡ Element array (n ∷ [])))
    pub touched : touch acts origin.cell ≡ true

  of_cell : (acts : List Act) (a : Act) (u : Touch) → IsIn a acts → IsIn u a.touches → is_access u ≡ true → has_cell u.manner ≡ true → HasOrigin acts (access_by a u)
  of_cell acts a u i j h k = record {
    origin = access_by a u;
    found = accesses_in acts a (access_by a u) i (access_in a a.touches u j h);
    more = [];
    inside = sym (append-nil a.place.turns);
    writes = λ w. w;
    cell = inl refl;
    touched = touch_there acts a u u.cell i j k refl;
  }

  -- an access comes from an old one, or is told
  abbrev pub Comes : List Act → List Act → Access → Type 0
  Comes acts others b = HasOrigin acts b ⊎ IsTold others b

  by_touch : (acts others : List Act) (a : Act) (u : Touch) → IsIn a acts → IsIn a others → IsIn u a.touches → is_access u ≡ true → (m : Manner) → u.manner ≡ m → Comes acts others (access_by a u)
  by_touch acts others a u i k j h reads e = inl (of_cell acts a u i j h (ap has_cell e))
  by_touch acts others a u i k j h writes e = inl (of_cell acts a u i j h (ap has_cell e))
  by_touch acts others a u i k j h is_told e = inr (record { by = a; found = k; told = u; among = j; manner = e; is = refl })

  -- an access of an act that stays comes from itself
  pub stays : (acts others : List Act) (a : Act) (b : Access) → IsIn a acts → IsIn a others → IsIn b (accesses_of a) → Comes acts others b
  stays acts others a b i k j = let r = touch_of a a.touches b j in subst (Comes acts others) (sym r.3) (by_touch acts others a r.0 i k r.1 r.2 r.0.manner refl)

  module _ (own : Cell) (own_is : own ≡ Scalar x) (n : ℤ) (acts : List Act) (untouched : touch acts (Element array (n ∷ [])) ≡ false) where
    abbrev element : Cell
    element = Element array (n ∷ [])

    abbrev name : Cell → Cell
    name = swapped own element

    lines_stay : (c : Cell) → is_lines c ≡ true → name c ≡ c
    lines_stay In h = swapped_other own element In (λ e. let q : Scalar x ≡ In = sym own_is ∙ e in absurd cc) (λ e. absurd cc)
    lines_stay Out h = swapped_other own element Out (λ e. let q : Scalar x ≡ Out = sym own_is ∙ e in absurd cc) (λ e. absurd cc)
    lines_stay (Scalar y) h = absurd cc
    lines_stay (Element y js) h = absurd cc
    lines_stay (Private y path) h = absurd cc

    access_stays : (v u : Touch) → v.manner ≡ u.manner → u.cell ≡ name v.cell → is_access u ≡ true → is_access v ≡ true
    access_stays v u m c h = go (is_lines v.cell) refl
      where
        go : (b : Bool) → is_lines v.cell ≡ b → is_access v ≡ true
        go true e = let stays_so : u.cell ≡ v.cell = c ∙ lines_stay v.cell e in (λ i. is_write (m i) || not (is_lines (sym stays_so i))) ∙ h
        go false e = or_right (is_write v.manner) (not (is_lines v.cell)) (ap not e)

    -- an access of an act that does the same with the element in the place of the scalar
    cell_comes : (a b : Act) → IsSameOn name a b → IsIn a acts → (u : Touch) → IsIn u b.touches → is_access u ≡ true → has_cell u.manner ≡ true → HasOrigin acts (access_by b u)
    cell_comes a b alike i u j h k =
        let r = renamed_touch name (of_cells a.touches) (of_cells b.touches) alike.touches u (among_cells b.touches u j k) in
        let v = r.0 in
        let there = cells_among a.touches v r.1 in
        record {
          origin = access_by a v;
          found = accesses_in acts a (access_by a v) i (access_in a a.touches v there.0 (access_stays v u r.2 r.3 h));
          more = [];
          inside = ap (λ (z : Place). z.turns) (sym alike.place) ∙ sym (append-nil b.place.turns);
          writes = λ w. ap is_write r.2 ∙ w;
          cell =
              decided own element own v.cell ((v.cell ≡ u.cell) ⊎ ((v.cell ≡ Scalar x) × (k : ℤ) × (u.cell ≡ Element array (k ∷ []))))
              (λ e. inr (sym e ∙ own_is, n, r.3 ∙ swapped_first own element v.cell e))
              (λ o. inl (sym (r.3 ∙ swapped_other own element v.cell o (λ e. both_ways (touch acts element) untouched (touch_there acts a v element i there.0 there.1 (sym e))))));
          touched = touch_there acts a v v.cell i there.0 there.1 refl;
        }

    pub same_comes : (a b : Act) → IsSameOn name a b → IsIn a acts → (others : List Act) → IsIn b others → (c : Access) → IsIn c (accesses_of b) → Comes acts others c
    same_comes a b alike i others there c j =
        let r = touch_of b b.touches c j in
        subst (Comes acts others) (sym r.3) (by_manner r.0 r.1 r.2 r.0.manner refl)
      where
        by_manner : (u : Touch) → IsIn u b.touches → is_access u ≡ true → (m : Manner) → u.manner ≡ m → Comes acts others (access_by b u)
        by_manner u k h reads q = inl (cell_comes a b alike i u k h (ap has_cell q))
        by_manner u k h writes q = inl (cell_comes a b alike i u k h (ap has_cell q))
        by_manner u k h is_told q = inr (record { by = b; found = there; told = u; among = k; manner = q; is = refl })

  -- a write of the scalar in these iterations or further inside
  pub record IsWritten (acts : List Act) (ts : List Turn) : Type 0 where
    pub write : Access
    pub found : IsIn write (accesses acts)
    pub cell : write.cell ≡ Scalar x
    pub writes : write.writes ≡ true
    pub touched : touch acts write.cell ≡ true
    pub more : List Turn
    pub inside : write.place.turns ≡ ts ++ more

  -- the accesses of the assignment behind the DO come from it
  pub kept_comes : (acts : List Act) (place : Place) (S : Scope) (last : ℤ) (c : Content) → place.turns ≡ turns_of S → cell_of S x ≡ Scalar x → IsWritten acts (turns_of S) → (b : Access) → IsIn b (accesses_of (act did place (keeping_touches S x array last c))) → HasOrigin acts b
  kept_comes acts place S last c at own w b i =
      let a = act did place (keeping_touches S x array last c) in
      let r = touch_of a a.touches b i in
      subst (HasOrigin acts) (sym r.3) (elim r.1 [
        | inl e ↦ record { origin = w.write; found = w.found; more = w.more; inside = w.inside ∙ ap (λ (ts : List Turn). ts ++ w.more) (sym at); writes = λ k. w.writes; cell = inr (w.cell, last, ap (λ (z : Touch). z.cell) e); touched = w.touched }
        | inr j ↦ elim j [
          | inl e ↦ record { origin = w.write; found = w.found; more = w.more; inside = w.inside ∙ ap (λ (ts : List Turn). ts ++ w.more) (sym at); writes = λ k. w.writes; cell = inl (w.cell ∙ sym own ∙ ap (λ (z : Touch). z.cell) (sym e)); touched = w.touched }
          | inr k ↦ absurd k
        ]
      ])

module _ (q : Setting) (h : Head) (body : StmtTrees) (l : ℕ) (S : Scope) (x array : List ℕ) (seen : List Seen) (m : Limits) (in_order : h.parallel ≡ false) (absent : is_among x h.private ≡ false) (own : cell_of S x ≡ Scalar x) where
  abbrev count : ℕ
  count = (e q h body l S x array seen m).count

  abbrev olds : ℕ → ℕ → Store → Run
  olds n k s = old_turns q h body l S x array seen m n k s

  abbrev Going : ℕ → ℕ → Store → Type 0
  Going n k s = finish_of (olds n k s).ending ≡ goes_on

  abbrev Left : ℕ → ℕ → Type 0
  Left n k = AreLeft q h body l S x array seen m n k

  next_left : (n k : ℕ) → Left (suc n) k → Left n (k + 1)
  next_left n k left = let a = left.0 in let b = left.1 in (omega (arith, a), omega (arith, b))

  among : (n k : ℕ) → Left (suc n) k → k ≤ count
  among n k left = let b = left.1 in omega (arith, b)

  last_is : (k : ℕ) → Left 1 k → count ≡ k
  last_is k left = let b = left.1 in omega (arith, b)

  -- the acts of so many iterations, of which there is one
  iterations : (n k : ℕ) (s : Store) → Going (suc n) k s → (olds (suc n) k s).acts ≡ (trip q h body l S x array seen m k s).acts ++ end q h body l S x array seen m n ∷ (olds n (k + 1) (left_by q h body l S x array seen m n k s)).acts
  iterations n k s goes =
      ap (λ (r : Run). r.acts) (turns_are q h body l S x in_order absent seen m n k s goes)
      ∙ append_assoc (trip q h body l S x array seen m k s).acts (end q h body l S x array seen m n ∷ []) (olds n (k + 1) (left_by q h body l S x array seen m n k s)).acts

  module _ (acts others : List Act) where
    abbrev Come : Access → Type 0
    Come b = Comes x array acts others b

    module _ (each_same : (k : ℕ) → 1 ≤ k → k ≤ count → IsSubstituted q h body l S x array seen m k) (untouched : (n : ℤ) → touch acts (Element array (n ∷ [])) ≡ false) where
      turns_come : (n k : ℕ) (s : Store) → Left n k → Going n k s → ((a : Act) → IsIn a (olds n k s).acts → IsIn a acts) → ((a : Act) → IsIn a (new_turns q h body l S x array seen m n k s) → IsIn a others)
          → (a : Act) (b : Access) → IsIn a (new_turns q h body l S x array seen m n k s) → IsIn b (accesses_of a) → Come b
      turns_come zero k s left goes sub into a b i j = absurd i
      turns_come (suc n) k s left goes sub into a b i j =
          elim (in_parts a new (end q h body l S x array seen m n ∷ more) i) [
            | inl r ↦ (
                let o = same_act (swapped_in k) old new alike a r in
                same_comes x array (cell_of S x) own (value k) acts (untouched (value k)) o.0 a o.2 (back o.0 (in_left o.0 old _ o.1)) others (into a i) b j
                )
            | inr r ↦ elim r [
              | inl z ↦ stays x array acts others (end q h body l S x array seen m n) b (back (end q h body l S x array seen m n) (in_right (end q h body l S x array seen m n) old _ (inl refl)))
                  (into (end q h body l S x array seen m n) (in_right (end q h body l S x array seen m n) new _ (inl refl))) (subst (λ (c : Act). IsIn b (accesses_of c)) z j)
              | inr z ↦ turns_come n (k + 1) (left_by q h body l S x array seen m n k s) (next_left n k left) (more_goes q h body l S x in_order absent seen m n k s goes)
                  (λ c w. back c (in_right c old _ (inr w))) (λ c w. into c (in_right c new _ (inr w))) a b z j
            ]
          ]
        where
          old : List Act
          old = (trip q h body l S x array seen m k s).acts

          new : List Act
          new = (new_trip q h body l S x array seen m k s).acts

          more : List Act
          more = new_turns q h body l S x array seen m n (k + 1) (left_by q h body l S x array seen m n k s)

          value : ℕ → ℤ
          value j = value_in (e q h body l S x array seen m) j

          swapped_in : ℕ → Cell → Cell
          swapped_in j = name_in q h body l S x array seen m j

          alike : AreSameOn (swapped_in k) old new
          alike = (each_same k left.0 (among n k left) s (ap has_fault (trip_goes q h body l S x in_order absent seen m n k s goes))).0

          back : (c : Act) → IsIn c (old ++ end q h body l S x array seen m n ∷ (olds n (k + 1) (left_by q h body l S x array seen m n k s)).acts) → IsIn c acts
          back c w = sub c (subst (IsIn c) (sym (iterations n k s goes)) w)

    -- where each last iteration writes the scalar, there is a write of it among the old acts
    module _ (writes : (s : Store) → finish_of (trip q h body l S x array seen m count s).ending ≡ goes_on → written (trip q h body l S x array seen m count s).acts (cell_of S x) ≡ true) where
      turns_write : (n k : ℕ) (s : Store) → Left (suc n) k → Going (suc n) k s → ((a : Act) → IsIn a (olds (suc n) k s).acts → IsIn a acts) → IsWritten x array acts (turns_of S)
      turns_write zero k s left goes sub =
          let there = subst (λ (j : ℕ). finish_of (trip q h body l S x array seen m j s).ending ≡ goes_on → written (trip q h body l S x array seen m j s).acts (cell_of S x) ≡ true) (last_is k left) (writes s) (trip_goes q h body l S x in_order absent seen m zero k s goes) in
          let old = (trip q h body l S x array seen m k s).acts in
          let w = write_in old (cell_of S x) there in
          let t = (frame (e q h body l S x array seen m) k).turn in
          let inside = stands_in q body (l + 1) (frame (e q h body l S x array seen m) k ∷ S) s w.0 w.1 in
          let here = sub w.0 (subst (IsIn w.0) (sym (iterations zero k s goes)) (in_left w.0 old _ w.1)) in
          record {
            write = access_by w.0 w.2;
            found = accesses_in acts w.0 (access_by w.0 w.2) here (access_in w.0 w.0.touches w.2 w.3 (write_access w.2 w.5));
            cell = w.4 ∙ own;
            writes = w.5;
            touched = touch_there acts w.0 w.2 w.2.cell here w.3 (write_touches w.2.manner w.5) refl;
            more = t ∷ inside.0;
            inside = inside.1 ∙ append_assoc (turns_of S) (t ∷ []) inside.0;
          }
      turns_write (suc n) k s left goes sub =
          turns_write n (k + 1) (left_by q h body l S x array seen m (suc n) k s) (next_left (suc n) k left) (more_goes q h body l S x in_order absent seen m (suc n) k s goes)
          (λ a w. sub a (subst (IsIn a) (sym (iterations (suc n) k s goes)) (in_right a (trip q h body l S x array seen m k s).acts _ (inr w))))

    -- what is done in the place of an execution of the DO
    module _ (each_same : (k : ℕ) → 1 ≤ k → k ≤ count → IsSubstituted q h body l S x array seen m k) (untouched : (n : ℤ) → touch acts (Element array (n ∷ [])) ≡ false)
        (s : Store) (comes : limits (names_in q S) h s ≡ record { seen = seen; result = Ok m }) (goes : finish_of (run q (Do h body) l S s).ending ≡ goes_on) (sub : (a : Act) → IsIn a (run q (Do h body) l S s).acts → IsIn a acts) where
      abbrev u : Store
      u = entered_by q h body l S x array seen m s

      abbrev first : Act
      first = entry q h body l S x array seen m

      all_left : Left count 1
      all_left = (omega arith, omega arith)

      going : Going count 1 u
      going = turns_go q h body l S x in_order absent seen m s comes goes

      back : (a : Act) → IsIn a (first ∷ (olds count 1 u).acts) → IsIn a acts
      back a w = sub a (subst (IsIn a) (ap (λ (r : Run). r.acts) (sym (loop_is q h body l S x in_order absent seen m s comes goes))) w)

      loop_comes : ((a : Act) → IsIn a (new_loop q h body l S x array seen m s) → IsIn a others) → (a : Act) (b : Access) → IsIn a (new_loop q h body l S x array seen m s) → IsIn b (accesses_of a) → Come b
      loop_comes into a b (inl z) j = stays x array acts others first b (back first (inl refl)) (into first (inl refl)) (subst (λ (c : Act). IsIn b (accesses_of c)) z j)
      loop_comes into a b (inr i) j = turns_come each_same untouched count 1 u all_left going (λ c w. back c (inr w)) (λ c w. into c (inr w)) a b i j

      loop_writes : (last : ℤ) → IsKept q h body l S x array seen m last → IsWritten x array acts (turns_of S)
      loop_writes last kept =
          subst (λ (n : ℕ). Left n 1 → Going n 1 u → ((a : Act) → IsIn a (olds n 1 u).acts → IsIn a acts) → IsWritten x array acts (turns_of S)) (sym kept.some)
          (turns_write kept.writes kept.others 1 u) all_left going (λ c w. back c (inr w))

      pub acts_come : (live : Bool) (last : ℤ) → (live ≡ true → IsKept q h body l S x array seen m last) → ((a : Act) → IsIn a (new_acts q h body l S x array seen m live last s) → IsIn a others)
          → (a : Act) (b : Access) → IsIn a (new_acts q h body l S x array seen m live last s) → IsIn b (accesses_of a) → Come b
      acts_come live last kept into a b i j =
          elim (in_parts a (new_loop q h body l S x array seen m s) (kept_acts q h body l S x array live last (left_in q h body l S x array seen m s)) i) [
            | inl k ↦ loop_comes (λ c w. into c (in_left c (new_loop q h body l S x array seen m s) _ w)) a b k j
            | inr k ↦ inl (behind live kept k)
          ]
        where
          behind : (b' : Bool) → (b' ≡ true → IsKept q h body l S x array seen m last) → IsIn a (kept_acts q h body l S x array b' last (left_in q h body l S x array seen m s)) → HasOrigin x array acts b
          behind true k (inl z) =
              kept_comes x array acts (place_of q (l + statement_count (Do h (body_with x array h body))) S) S last (left_in q h body l S x array seen m s) refl own (loop_writes last (k refl)) b (subst (λ (c : Act). IsIn b (accesses_of c)) z j)
          behind true k (inr z) = absurd z
          behind false k z = absurd z

-- places further inside are apart where these are
apart_inside : (ts us more others : List Turn) → are_apart ts us ≡ true → are_apart (ts ++ more) (us ++ others) ≡ true
apart_inside [] us more others h = absurd cc
apart_inside (t ∷ ts) [] more others h = absurd cc
apart_inside (t ∷ ts) (u ∷ us) more others h =
    let r = and_parts (eqb t.statement u.statement) (if eqb t.number u.number then are_apart ts us else t.parallel) h in
    ap (λ (b : Bool). b && (if eqb t.number u.number then are_apart (ts ++ more) (us ++ others) else t.parallel)) r.0 ∙ go (eqb t.number u.number) r.1 (apart_inside ts us more others)
  where
    go : (b : Bool) → (if b then are_apart ts us else t.parallel) ≡ true → (are_apart ts us ≡ true → are_apart (ts ++ more) (us ++ others) ≡ true) → (if b then are_apart (ts ++ more) (us ++ others) else t.parallel) ≡ true
    go true k further = further k
    go false k further = k

either_of : (a b c d : Bool) → (a ≡ true → c ≡ true) → (b ≡ true → d ≡ true) → a || b ≡ true → c || d ≡ true
either_of true b c d h k e = or_left c d (h refl)
either_of false true c d h k e = or_right c d (k refl)
either_of false false c d h k e = absurd cc

module _ (t u : ProgramTree) (valid_new : IsValid u) (l : ℕ) (loop : LoopOf t l) (x array : List ℕ) (live : Bool) (last : ℤ) (counted told : ℕ → ℕ) (back : IsToldBack counted told) (data_bytes : List ℕ)
    (alike : (S : Scope) (s : Store) → run (renumbered counted (setting_of u)) (Do loop.head loop.body) l S s ≡ run (setting_of t) (Do loop.head loop.body) l S s) (sequential : loop.head.parallel ≡ false) (absent : is_among x loop.head.private ≡ false) where
  abbrev h : Head
  h = loop.head

  abbrev body : StmtTrees
  body = loop.body

  abbrev p : Setting
  p = setting_of t

  abbrev q : Setting
  q = renumbered counted (setting_of u)

  abbrev start : Store
  start = store_at_start (lines data_bytes)

  abbrev whole : List Act
  whole = (run_of t data_bytes).acts

  module _ (own : (S : Scope) → IsPlaceOf p t l S → cell_of S x ≡ Scalar x)
      (substituted : (S : Scope) → IsPlaceOf p t l S → (s : Store) (m : Limits) → IsEnteredBy t l loop x array live last q S s m → let seen = (limits (names_in q S) h s).seen in
      (k : ℕ) → 1 ≤ k → k ≤ (entered_with q l h body seen m).count → IsSubstituted q h body l S x array seen m k)
      (kept : live ≡ true → (S : Scope) → IsPlaceOf p t l S → (s : Store) (m : Limits) → IsEnteredBy t l loop x array live last q S s m
      → IsKept q h body l S x array (limits (names_in q S) h s).seen m last)
      (untouched : (n : ℤ) → touch (run_of t data_bytes).acts (Element array (n ∷ [])) ≡ false) where
    -- the accesses of an execution
    execution_comes : (S : Scope) (u : Store) → IsPlaceOf p t l S → finish_of (run p (Do h body) l S u).ending ≡ goes_on → ((a : Act) → IsIn a (run p (Do h body) l S u).acts → IsIn a whole) → (others : List Act)
        → ((a : Act) → IsIn a (expanded_acts t l loop x array live last q S u) → IsIn a others) → (a : Act) (b : Access) → IsIn a (expanded_acts t l loop x array live last q S u) → IsIn b (accesses_of a) → Comes x array whole others b
    execution_comes S u place goes sub others into a b i j =
        let going : finish_of (run q (Do h body) l S u).ending ≡ goes_on = ap (λ (r : Run). finish_of r.ending) (alike S u) ∙ goes in
        let entered = do_entered q h body l S u going in
        let m = entered.0 in
        let seen = (limits (names_in q S) h u).seen in
        let is = expanded_is t l loop x array live last q S u m entered.1 in
        acts_come q h body l S x array seen m sequential absent (own S place) whole others (substituted S place u m entered.1) untouched u entered.1 going
        (λ c w. sub c (subst (IsIn c) (ap (λ (r : Run). r.acts) (alike S u)) w)) live last (λ so. kept so S place u m entered.1) (λ c w. into c (subst (IsIn c) (sym is) w)) a b (subst (IsIn a) is i) j

    abbrev Exchanged : List Act → List Part → List Act → Store → Type 0
    Exchanged front parts behind v = AreExchanged p t start l (statements_count (alone (Do h body))) (run_all p (alone (Do h body)) l) (expanded_acts t l loop x array live last q) front parts behind v

    parts_come : (front : List Act) (parts : List Part) (behind : List Act) (v : Store) (others : List Act) → ((a : Act) → IsIn a (old_parts parts) → IsIn a whole) → ((a : Act) → IsIn a (new_parts parts) → IsIn a others) → Exchanged front parts behind v
        → (a : Act) (b : Access) → IsIn a (new_parts parts) → IsIn b (accesses_of a) → Comes x array whole others b
    parts_come front [] behind v others sub into exchanged a b i j = absurd i
    parts_come front (same acts ∷ parts) behind v others sub into exchanged a b i j = elim (in_parts a acts (new_parts parts) i) [
      | inl k ↦ stays x array whole others a b (sub a (in_left a acts (old_parts parts) k)) (into a (in_left a acts (new_parts parts) k)) j
      | inr k ↦ parts_come (front ++ acts) parts behind (store_after acts v) others (λ c w. sub c (in_right c acts (old_parts parts) w)) (λ c w. into c (in_right c acts (new_parts parts) w)) exchanged a b k j
    ]
    parts_come front (changed old new ∷ parts) behind v others sub into exchanged a b i j = elim (in_parts a new (new_parts parts) i) [
      | inl k ↦ (
          let e = exchanged.0 in
          let one_run = run_alone p (Do h body) l e.scope v in
          execution_comes e.scope v e.executed.place (ap (λ (r : Run). finish_of r.ending) (sym one_run) ∙ e.goes)
          (λ c w. sub c (in_left c old (old_parts parts) (subst (IsIn c) (sym (e.old_is ∙ ap (λ (r : Run). r.acts) one_run)) w))) others
          (λ c w. into c (in_left c new (new_parts parts) (subst (IsIn c) (sym e.new_is) w))) a b (subst (IsIn a) e.new_is k) j
          )
      | inr k ↦ parts_come (front ++ old) parts behind (store_after old v) others (λ c w. sub c (in_right c old (old_parts parts) w)) (λ c w. into c (in_right c new (new_parts parts) w)) exchanged.1 a b k j
    ]

    abbrev From : Access → Type 0
    From b = HasOrigin x array whole b

    -- accesses of one cell come from accesses of one cell
    one_cell : (b c : Access) (v : From b) (w : From c) → b.cell ≡ c.cell → v.origin.cell ≡ w.origin.cell
    one_cell b c v w e = by v.cell w.cell
      where
        by : (v.origin.cell ≡ b.cell) ⊎ ((v.origin.cell ≡ Scalar x) × (n : ℤ) × (b.cell ≡ Element array (n ∷ []))) → (w.origin.cell ≡ c.cell) ⊎ ((w.origin.cell ≡ Scalar x) × (n : ℤ) × (c.cell ≡ Element array (n ∷ []))) → v.origin.cell ≡ w.origin.cell
        by (inl f) (inl g) = f ∙ e ∙ sym g
        by (inl f) (inr g) = absurd (both_ways (touch whole (Element array (g.1 ∷ []))) (untouched g.1) (ap (touch whole) (sym (f ∙ e ∙ g.2)) ∙ v.touched))
        by (inr f) (inl g) = absurd (both_ways (touch whole (Element array (f.1 ∷ []))) (untouched f.1) (ap (touch whole) (sym (g ∙ sym e ∙ f.2)) ∙ w.touched))
        by (inr f) (inr g) = f.0 ∙ sym g.0

    -- where the old run has no race, the new acts have none
    pub expanded_race_free : RaceFreeInstead p t start l (statements_count (alone (Do h body))) (run_all p (alone (Do h body)) l) (expanded_acts t l loop x array live last q)
        (run_all q u.body 1 [])
    expanded_race_free parts olds_are news_are exchanged free =
        pairs_free whole (new_parts parts) race_before (subst (λ (acts : List Act). HasNoRace (accesses acts)) olds_are free)
      where
        there : (b : Access) → IsIn b (accesses (new_parts parts)) → IsIn b (accesses (run_all q u.body 1 [] start).acts)
        there b i = subst (λ (acts : List Act). IsIn b (accesses acts)) news_are i

        -- what a reference makes comes from an old access
        come : (b : Access) → IsIn b (accesses (new_parts parts)) → 0 < b.reference → From b
        come b i some = let a = accesses_from (new_parts parts) b i in by (parts_come [] parts [] start (new_parts parts) (λ c w. subst (IsIn c) olds_are w) (λ c w. w) exchanged a.0 b a.1 a.2)
          where
            by : Comes x array whole (new_parts parts) b → From b
            by (inl v) = v
            by (inr v) =
                let none = told_is_unreferred q u.body 1 [] start v.by (subst (IsIn v.by) news_are v.found) v.told v.among v.manner in
                let zero : b.reference ≡ 0 = ap (λ (c : Access). c.reference) v.is ∙ none in
                absurd (omega (arith, some, zero))

        race_before : (b c : Access) → StandsBefore b c (accesses (new_parts parts)) → race b c ≡ true → RaceSomewhere whole
        race_before b c before races =
            let i = first_in b c (accesses (new_parts parts)) before in
            let j = second_in b c (accesses (new_parts parts)) before in
            let g = references_renumbered counted told back u valid_new data_bytes b c (there b i) (there c j) races in
            let v = come b i g.0 in
            let w = come c j g.1 in
            let meets = and_parts (same_cell b.cell c.cell) (b.writes || c.writes) g.4 in
            origins.somewhere t q u.body data_bytes v.origin w.origin v.found w.found (one_cell b c v w (cell_is b.cell c.cell meets.0))
            (either_of b.writes c.writes v.origin.writes w.origin.writes v.writes w.writes meets.1)
            ((λ i. are_apart (v.inside i) (w.inside i)) ∙ apart_inside b.place.turns c.place.turns v.more w.more g.2)
