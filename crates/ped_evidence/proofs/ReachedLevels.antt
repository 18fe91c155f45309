-- In the iterations that a run has come to, the variable of each loop lies between its bounds and stands at a whole number of steps.
use Rattle.std.proofs.Common.{◌≡◌, ℕ, ◌-◌, refl, sym, ap, ◌∙◌, subst, arith, ℤ, pos, ◌+ℤ◌, ◌*ℤ◌, ◌≤ℤ◌, ◌<ℤ◌, int_lt, int_eq, unwrap_or, List, [], ◌∷◌, ◌++◌, map, length, append-nil, append_assoc, Bool, true, false, not, ◌||◌, Option, Some, None, Ok, if◌then◌else◌}
use Rattle.std.specs.List.{AllByRecursion}
use Rattle.std.proofs.Math.IntN.{*ℤ_comm}
use Rattle.std.proofs.lemmas.Bool.{and_parts}
use Rattle.std.proofs.lemmas.Int.{ints}
use Rattle.std.proofs.lemmas.List.{map-append, length-map}
use Rattle.std.proofs.lemmas.List.Folds.{list_any-append}
use Rattle.ped_base.specs.Lists.{is_same_text, is_among}
use Rattle.ped_views.specs.declared.intervals.Interval.{Interval}
use Rattle.ped_views.specs.Views.{Range, range}
use Rattle.ped_views.specs.Excluded.{InRange}
use Rattle.ped_views.proofs.Products.{linear}
use Rattle.ped_tree.specs.Tree.{ExprTree, ProgramTree}
use Rattle.ped_tree.specs.Nests.{Loop, indices_of}
use Rattle.ped_tree.specs.Constants.ConstantExpressions.{constant_value}
use Rattle.ped_affine.specs.Ranges.{Setting, Around, bound_interval, step_by, is_steady, range_between, loop_range, inside, ranges_inside, around_with}
use Rattle.ped_affine.specs.PairViews.{heads_of}
use Rattle.ped_laws.specs.ped_graph.specs.ped_symbols.specs.RightUses.RightLoops.{is_small, is_step}
use Rattle.ped_laws.specs.ped_graph.specs.Dependences.{setting_in}
use Rattle.ped_laws.specs.ped_store.specs.Stores.{Store}
use Rattle.ped_laws.specs.ped_store.specs.Acts.{Turn}
use Rattle.ped_laws.specs.ped_eval.specs.Scopes.{Scope, Frame, Names, turns_of, names_in, index_value}
use Rattle.ped_laws.specs.ped_eval.specs.Values.{value}
use Rattle.ped_laws.specs.ped_eval.specs.Loops.{increment, entered_with, frame}
use Rattle.ped_laws.specs.ped_eval.specs.Outcomes.{setting_of}
use Rattle.ped_laws.specs.Conflicts.Reaching.{IsEntered, Reached}
use Rattle.ped_laws.proofs.CoveringLaws.Counting.{upwards, downwards}
use Rattle.ped_laws.proofs.CoveringLaws.LoopRanges.{value_in_range}
use Rattle.ped_laws.proofs.CoveringLaws.Nesting.{within}
use Rattle.ped_laws.proofs.ConflictLaws.PossibleNames.{AssignWithin}
use Rattle.ped_laws.proofs.ConflictLaws.PossibleOwn.{last_within}
use Rattle.ped_laws.proofs.ConflictLaws.PossibleTurns.{in_nest, told}
use Rattle.ped_evidence.specs.Levels.{Level, level, levels_inside, levels_of, is_max, is_min, operands}
use Rattle.ped_evidence.specs.Facts.{value_by, FormsAre, IsReached, AreReached}
use Rattle.ped_evidence.proofs.Bounds.{ComesTo, weaker, max_operands, min_operands, bounds_come}
use Rattle.ped_evidence.proofs.PlacedForms.{AreSymbols, ys, told_by_form}

-- ---- one more loop

levels_more : (s : Setting) (pre : List Loop) (around : Around) (ls : List Loop) (l : Loop)
    → levels_inside pre (ls ++ l ∷ []) (ranges_inside s around (heads_of (ls ++ l ∷ []))) ≡ levels_inside pre ls (ranges_inside s around (heads_of ls)) ++ level (pre ++ ls) l.head (loop_range s (around_with s around (heads_of ls)) l.head) ∷ []
levels_more s pre around [] l = ap (λ (xs : List Loop). level xs l.head (loop_range s around l.head) ∷ []) (sym (append-nil pre))
levels_more s pre around (m ∷ ls) l =
    let r : Range = loop_range s around m.head in
    ap (λ (vs : List Level). level pre m.head r ∷ vs)
    (levels_more s (pre ++ m ∷ []) (inside around m.head r) ls l
    ∙ ap (λ (xs : List Loop). levels_inside (pre ++ m ∷ []) ls (ranges_inside s (inside around m.head r) (heads_of ls)) ++ level xs l.head (loop_range s (around_with s (inside around m.head r) (heads_of ls)) l.head) ∷ []) (append_assoc pre (m ∷ []) ls))

reached_more : (s : Setting) (names : List (List ℕ)) (symbols loops : List ℤ) (vs : List Level) (xs : List ℤ) (v : Level) (x : ℤ) → AreReached s names symbols loops vs xs → IsReached s names symbols (loops ++ xs) v x
    → AreReached s names symbols loops (vs ++ v ∷ []) (xs ++ x ∷ [])
reached_more s names symbols loops [] [] v x h k = (subst (λ (zs : List ℤ). IsReached s names symbols zs v x) (append-nil loops) k, tt)
reached_more s names symbols loops [] (y ∷ xs) v x h k = absurd h
reached_more s names symbols loops (u ∷ vs) [] v x h k = absurd h
reached_more s names symbols loops (u ∷ vs) (y ∷ xs) v x h k =
    (h.0, reached_more s names symbols (loops ++ y ∷ []) vs xs v x h.1 (subst (λ (zs : List ℤ). IsReached s names symbols zs v x) (sym (append_assoc loops (y ∷ []) xs)) k))

indices_more : (ls : List Loop) (l : Loop) → indices_of (ls ++ l ∷ []) ≡ indices_of ls ++ l.head.variable ∷ []
indices_more [] l = refl
indices_more (m ∷ ls) l = ap (λ xs. m.head.variable ∷ xs) (indices_more ls l)

none_of : (a b : Bool) → (a || b) ≡ false → a ≡ false
none_of true b k = absurd cc
none_of false b k = refl

-- symbols of a place are symbols of the loops round its innermost loop
symbols_outside : (s : Setting) (ls : List Loop) (l : Loop) (names : List (List ℕ)) → AreSymbols s (ls ++ l ∷ []) names → AreSymbols s ls names
symbols_outside s ls l names h = record {
  once = h.once;
  other = λ x i. none_of (is_among x (indices_of ls)) (is_among x (l.head.variable ∷ [])) (sym (ap (is_among x) (indices_more ls l) ∙ list_any-append (is_same_text x) (indices_of ls) (l.head.variable ∷ [])) ∙ h.other x i);
  kept = h.kept;
}

pub turns_long : (t : ProgramTree) (s : Setting) (first : Store) (nest : List Loop) (scope : Scope) → Reached t s first nest scope → length nest ≡ length (map (λ (i : Turn). i.value) (turns_of scope))
turns_long t s first nest scope reached =
    let a : length (map (index_value scope) (indices_of nest)) ≡ length (map (λ (i : Turn). Some i.value) (turns_of scope)) = ap length (told t s first nest scope reached) in
    let b : length (map (index_value scope) (indices_of nest)) ≡ length (indices_of nest) = length-map (indices_of nest) (index_value scope) in
    let c : length (indices_of nest) ≡ length nest = length-map nest (λ l. l.head.variable) in
    let d : length (map (λ (i : Turn). Some i.value) (turns_of scope)) ≡ length (turns_of scope) = length-map (turns_of scope) (λ (i : Turn). Some i.value) in
    let e : length (map (λ (i : Turn). i.value) (turns_of scope)) ≡ length (turns_of scope) = length-map (turns_of scope) (λ (i : Turn). i.value) in
    sym c ∙ (sym b ∙ (a ∙ (d ∙ sym e)))

-- ---- the step of a loop

step_same : (c : Option ℤ) → is_step c ≡ true → step_by c ≡ unwrap_or c (pos 1)
step_same None h = refl
step_same (Some n) h = ap (λ (b : Bool). if b then n else pos 1) h

step_some : (c : Option ℤ) → is_step c ≡ true → ¬ (unwrap_or c (pos 1) ≡ pos 0)
step_some None h e = absurd cc
step_some (Some n) h e = absurd (is n e ((and_parts (not (int_eq n (pos 0))) (is_small n) h).0))
  where
    is : (n : ℤ) → n ≡ pos 0 → not (int_eq n (pos 0)) ≡ true → ⊥
    is n q h = go (subst (λ (x : ℤ). not (int_eq x (pos 0)) ≡ true) q h)
      where
        go : not (int_eq (pos 0) (pos 0)) ≡ true → ⊥
        go t = absurd cc

positive : (n : ℤ) → int_lt n (pos 0) ≡ false → ¬ (n ≡ pos 0) → pos 0 <ℤ n
positive n h k = omega (arith, ints)

range_step : (a b : Interval) (step : ℤ) (steady : Bool) → (range_between a b step steady).step ≡ step
range_step a b step steady = go (int_lt step (pos 0))
  where
    go : (c : Bool) → (if c then range b.lo a.hi step steady else range a.lo b.hi step steady).step ≡ step
    go true = refl
    go false = refl

-- ---- one loop

module _ (t : ProgramTree) (o : ℕ) (first : Store) (names : List (List ℕ)) (around : List Loop) (outer : Scope) (l : Loop) (f : Frame)
    (symbols : AreSymbols (setting_in t o) around names) (assigned : AssignWithin t o around) (reached : Reached t (setting_in t o) first around outer) (e : IsEntered t (setting_in t o) first outer l f) where
  abbrev s : Setting
  s = setting_in t o

  abbrev loops : List ℤ
  loops = map (λ i. i.value) (turns_of outer)

  abbrev v : Level
  v = level around l.head (loop_range s (around_with s [] (heads_of around)) l.head)

  -- its value in this iteration
  abbrev x : ℤ
  x = e.bounds.first +ℤ pos (e.turn - 1) *ℤ increment (setting_of t).constants l.head

  step_is : v.range.step ≡ increment (setting_of t).constants l.head
  step_is =
      range_step (bound_interval s (around_with s [] (heads_of around)) l.head.first) (bound_interval s (around_with s [] (heads_of around)) l.head.last) (step_by (constant_value s.constants l.head.step)) (is_steady s l.head.first)
      ∙ step_same (constant_value s.constants l.head.step) e.step

  lies : InRange v.range x
  lies =
      value_in_range s (around_with s [] (heads_of around)) (setting_of t) outer e.store l.number l.head e.body e.seen e.bounds e.turn
      (within s (around_with s [] (heads_of around)) (setting_of t) outer e.store refl (in_nest t o first around outer reached).variables e.within.storable) e.comes e.step e.from e.to

  both : ((value (names_in (setting_of t) outer) l.head.first e.store).result ≡ Ok e.bounds.first) × ((value (names_in (setting_of t) outer) l.head.last e.store).result ≡ Ok e.bounds.last)
  both = bounds_come (names_in (setting_of t) outer) e.store l.head e.bounds e.comes

  -- the forms of expressions that come to numbers of a kind have values of this kind
  forms_are : (P : ℤ → Type 0) (es : List ExprTree) → AllByRecursion (ComesTo (names_in (setting_of t) outer) e.store P) es → FormsAre s names around loops (ys t o first names) P es
  forms_are P [] h = tt
  forms_are P (g ∷ es) h = (
    λ f is. let k = told_by_form t o first names around outer e.store symbols assigned reached e.within g f h.0.0 h.0.1 is in (k.0, subst P k.1 h.0.2),
    forms_are P es h.1,
  )

  abbrev m3 : ℤ
  m3 = increment (setting_of t).constants l.head

  abbrev g0 : Names
  g0 = names_in (setting_of t) outer

  -- the value lies between the bounds, whichever way the loop counts
  sides : (b : Bool) → int_lt v.range.step (pos 0) ≡ b
      → FormsAre s names around loops (ys t o first names) (λ n. n ≤ℤ x) (if b then operands is_max l.head.last else operands is_max l.head.first)
      × FormsAre s names around loops (ys t o first names) (λ n. x ≤ℤ n) (if b then operands is_min l.head.first else operands is_min l.head.last)
  sides true h =
      let down : int_lt m3 (pos 0) ≡ true = ap (λ (z : ℤ). int_lt z (pos 0)) (sym step_is) ∙ h in
      let w = downwards e.bounds.first e.bounds.last m3 e.turn (omega (arith, ints)) e.from e.to in
      let from = w.0 in
      let to = w.1 in (
        forms_are (λ n. n ≤ℤ x) (operands is_max l.head.last) (weaker g0 e.store (λ n. n ≤ℤ e.bounds.last) (λ n. n ≤ℤ x) (λ n k. omega (arith, linear)) (operands is_max l.head.last) (max_operands g0 e.store l.head.last e.bounds.last both.1)),
        forms_are (λ n. x ≤ℤ n) (operands is_min l.head.first) (weaker g0 e.store (λ n. e.bounds.first ≤ℤ n) (λ n. x ≤ℤ n) (λ n k. omega (arith, linear)) (operands is_min l.head.first) (min_operands g0 e.store l.head.first e.bounds.first both.0)),
      )
  sides false h =
      let up : int_lt m3 (pos 0) ≡ false = ap (λ (z : ℤ). int_lt z (pos 0)) (sym step_is) ∙ h in
      let some = step_some (constant_value s.constants l.head.step) e.step in
      let w = upwards e.bounds.first e.bounds.last m3 e.turn (positive m3 up some) e.from e.to in
      let from = w.0 in
      let to = w.1 in (
        forms_are (λ n. n ≤ℤ x) (operands is_max l.head.first) (weaker g0 e.store (λ n. n ≤ℤ e.bounds.first) (λ n. n ≤ℤ x) (λ n k. omega (arith, linear)) (operands is_max l.head.first) (max_operands g0 e.store l.head.first e.bounds.first both.0)),
        forms_are (λ n. x ≤ℤ n) (operands is_min l.head.last) (weaker g0 e.store (λ n. e.bounds.last ≤ℤ n) (λ n. x ≤ℤ n) (λ n k. omega (arith, linear)) (operands is_min l.head.last) (min_operands g0 e.store l.head.last e.bounds.last both.1)),
      )

  pub loop_reached : IsReached s names (ys t o first names) loops v x
  loop_reached = record {
    as_many = turns_long t s first around outer reached;
    in_range = lies;
    lower = (sides (int_lt v.range.step (pos 0)) refl).0;
    upper = (sides (int_lt v.range.step (pos 0)) refl).1;
    own = λ g is.
        let k = told_by_form t o first names around outer e.store symbols assigned reached e.within l.head.first g e.bounds.first both.0 is in
        let c = *ℤ_comm (pos (e.turn - 1)) m3 in
        (k.0, (pos (e.turn - 1), (λ i. k.1 i +ℤ c i) ∙ ap (λ (z : ℤ). value_by loops (ys t o first names) g +ℤ z *ℤ pos (e.turn - 1)) (sym step_is)));
  }

-- the loops of a nest, in the iterations that a run has come to
module _ (t : ProgramTree) (o : ℕ) (first : Store) (names : List (List ℕ)) where
  pub levels_reached : (nest : List Loop) (scope : Scope) → AreSymbols (setting_in t o) nest names → AssignWithin t o nest → Reached t (setting_in t o) first nest scope
      → AreReached (setting_in t o) names (ys t o first names) [] (levels_of (setting_in t o) nest) (map (λ i. i.value) (turns_of scope))
  levels_reached nest [] symbols assigned reached = subst (λ (ls : List Loop). AreReached (setting_in t o) names (ys t o first names) [] (levels_of (setting_in t o) ls) []) (sym reached) tt
  levels_reached nest (f ∷ outer) symbols assigned reached =
      let s : Setting = setting_in t o in
      let around : List Loop = reached.0 in
      let l : Loop = reached.1 in
      let e = reached.3 in
      let less = symbols_outside s around l names (subst (λ (ls : List Loop). AreSymbols s ls names) reached.2 symbols) in
      let parts = last_within t o around l (subst (λ (ls : List Loop). AssignWithin t o ls) reached.2 assigned) in
      let rest = levels_reached around outer less parts.0 reached.4 in
      let its = loop_reached t o first names around outer l f less parts.0 reached.4 e in
      let turn : (frame (entered_with (setting_of t) l.number l.head e.body e.seen e.bounds) e.turn).turn.value ≡ f.turn.value = ap (λ z. z.turn.value) (sym e.is) in
      let one : IsReached s names (ys t o first names) (map (λ i. i.value) (turns_of outer)) (level around l.head (loop_range s (around_with s [] (heads_of around)) l.head)) f.turn.value =
      subst (λ (z : ℤ). IsReached s names (ys t o first names) (map (λ i. i.value) (turns_of outer)) (level around l.head (loop_range s (around_with s [] (heads_of around)) l.head)) z) turn its in
      let more = reached_more s names (ys t o first names) [] (levels_of s around) (map (λ i. i.value) (turns_of outer)) (level around l.head (loop_range s (around_with s [] (heads_of around)) l.head)) f.turn.value rest one in
      subst (λ (ls : List Loop). AreReached s names (ys t o first names) [] (levels_of s ls) (map (λ i. i.value) (turns_of outer ++ f.turn ∷ []))) (sym reached.2)
      (subst (λ (vs : List Level). AreReached s names (ys t o first names) [] vs (map (λ i. i.value) (turns_of outer ++ f.turn ∷ []))) (sym (levels_more s [] [] around l))
      (subst (λ (xs : List ℤ). AreReached s names (ys t o first names) [] (levels_of s around ++ level around l.head (loop_range s (around_with s [] (heads_of around)) l.head) ∷ []) xs) (sym (map-append (λ (i : Turn). i.value) (turns_of outer) (f.turn ∷ []))) more))
