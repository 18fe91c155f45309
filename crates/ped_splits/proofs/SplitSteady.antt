-- What the entries of the new DO loops read is steady: scalars that keep their values throughout the outermost DO.
use Rattle.std.proofs.Common.{◌≡◌, ◌⊎◌, ℕ, suc, ◌-◌, ◌==◌, List, [], ◌∷◌, ◌++◌, append-nil, Bool, true, false, ◌||◌, Some, inl, inr, if◌then◌else◌, refl, sym, ap, subst, ◌∙◌}
use Rattle.std.proofs.lemmas.Bool.{both_ways, false_from_ne_true}
use Rattle.std.specs.List.{list_any}
use Rattle.std.specs.Str.Lines.{lines}
use Rattle.ped_base.specs.Lists.{is_among}
use Rattle.ped_tree.specs.NamesIn.{all_loop_variables, loop_variables}
use Rattle.ped_tree.specs.Numbering.{statement_with, statements_count}
use Rattle.ped_tree.specs.Tree.{Do, ExprTree, ProgramTree}
use Rattle.ped_rules.proofs.NestLaws.InnerPlaces.{loops_of_program}
use Rattle.ped_rules.proofs.NestLaws.SettledBounds.{ends_so, read_so}
use Rattle.ped_rules.proofs.NestLaws.WovenStands.{stands_apart}
use Rattle.ped_rules.proofs.NestLaws.WovenLists.{IsPart}
use Rattle.ped_rules.specs.Rules.{IsBoundOf}
use Rattle.ped_rules.specs.ped_loop_runs.proofs.LoopLaws.PlainReads as plain
use Rattle.ped_rules.specs.ped_loop_runs.proofs.PastingLaws.ExecutedDuring.{whole_outermost}
use Rattle.ped_rules.specs.ped_loop_runs.proofs.PastingLaws.ToldPlaces.{no_turns, place_with}
use Rattle.ped_rules.specs.ped_loop_runs.specs.Bounds.{IsOfFixed}
use Rattle.ped_rules.specs.ped_loop_runs.specs.Executions.{IsExecuted, as_done}
use Rattle.ped_rules.specs.ped_loop_runs.specs.Places.{AreDuring, told_at}
use Rattle.ped_rules.specs.ped_bodies.proofs.BodyLaws.LimitParts.{limits_parted}
use Rattle.ped_rules.specs.ped_bodies.proofs.BodyLaws.TripLists.{end_in_order}
use Rattle.ped_rules.specs.ped_bodies.specs.Moving.{is_cell_among}
use Rattle.ped_rules.specs.ped_bodies.specs.Trips.{bounds_seen, loop_entry, trip_end}
use Rattle.ped_rules.specs.ped_steps.specs.Replacing.{alone}
use Rattle.ped_rules.specs.ped_steps.specs.Runs.Pasting.{IsInOutermost, IsPlaceOf}
use Rattle.ped_rules.specs.ped_flow.specs.PlainBounds.{nest_round, outermost_or}
use Rattle.ped_rules.specs.ped_flow.specs.Questions.{LoopOf}
use Rattle.ped_rules.specs.ped_laws.proofs.ActLaws.Appending.{written_append}
use Rattle.ped_rules.specs.ped_laws.proofs.ActLaws.Lists.{in_parts}
use Rattle.ped_rules.specs.ped_laws.proofs.ActLaws.Renamings.{or_left, or_right}
use Rattle.ped_rules.specs.ped_laws.proofs.RunLaws.Sight.{limits_told}
use Rattle.ped_rules.specs.ped_laws.specs.Acts.Fitting.{store_after, touches_of}
use Rattle.ped_rules.specs.ped_laws.specs.Acts.Orders.{IsIn}
use Rattle.ped_rules.specs.ped_laws.specs.Acts.Sets.{written}
use Rattle.ped_rules.specs.ped_laws.specs.Plain.Executions.{IsDuring, IsPlaceWith}
use Rattle.ped_rules.specs.ped_laws.specs.Runs.Replaying.{finish_of, goes_on}
use Rattle.ped_rules.specs.ped_laws.specs.Runs.Seeing.{Holds}
use Rattle.ped_rules.specs.ped_eval.specs.Evaluation.{Seen, cell_seen, index_seen, numbered}
use Rattle.ped_rules.specs.ped_eval.specs.Loops.{Entered, exit_touches, exit_when_none, left_in_variable, undefined_all, undefined_by}
use Rattle.ped_rules.specs.ped_eval.specs.Outcomes.{setting_of}
use Rattle.ped_rules.specs.ped_eval.specs.Runs.{run}
use Rattle.ped_rules.specs.ped_eval.specs.Scopes.{Scope, Setting, cell_of, names_in}
use Rattle.ped_rules.specs.ped_eval.specs.Statements.{write_touch}
use Rattle.ped_rules.specs.ped_eval.specs.Values.{value}
use Rattle.ped_rules.specs.ped_store.specs.Acts.{Act, Place, Touch, is_told, reads, writes}
use Rattle.ped_rules.specs.ped_store.specs.Cells.{Cell, same_cell}
use Rattle.ped_rules.specs.ped_store.specs.Stores.{Content, Number, Store, Undefined, store_at_start}
use Rattle.ped_rules.specs.ped_weaves.specs.Weaves.{control}
use Rattle.ped_splits.proofs.SplitControls.{control_is}
use Rattle.ped_splits.proofs.SplitEnds.{is_written, old_leaves}
use Rattle.ped_splits.proofs.SplitFacts.{IsSplit}
use Rattle.ped_splits.proofs.SplitKnots.{loop_knots}
use Rattle.ped_splits.proofs.SplitRuns as runs

held_in : (u : Store) (xs : List Seen) (c : Cell) (n : Content) → Holds u xs → IsIn (cell_seen c n) xs → u c ≡ n
held_in u [] c n q i = absurd i
held_in u (cell_seen e m ∷ more) c n q (inl r) = let cells : c ≡ e = cc in let same_content : n ≡ m = cc in ap u cells ∙ q.0 ∙ sym same_content
held_in u (cell_seen e m ∷ more) c n q (inr i) = held_in u more c n q.1 i
held_in u (index_seen e m ∷ more) c n q (inl r) = absurd cc
held_in u (index_seen e m ∷ more) c n q (inr i) = held_in u more c n q i

-- a touch that writes, or whose value the place tells, reads nothing
no_read : (y z : Touch) → y ≡ z → z.manner ≡ writes → y.manner ≡ reads → ⊥
no_read y z q w m = let wrong : writes ≡ reads = sym w ∙ ap (λ (u : Touch). u.manner) (sym q) ∙ m in absurd cc

only_told : (y z : Touch) → y ≡ z → z.manner ≡ is_told → y.manner ≡ reads → ⊥
only_told y z q w m = let wrong : is_told ≡ reads = sym w ∙ ap (λ (u : Touch). u.manner) (sym q) ∙ m in absurd cc

-- a touch that reads among those of an evaluation
seen_reads : (n : ℕ) (seen : List Seen) (y : Touch) → IsIn y (numbered n seen) → y.manner ≡ reads → IsIn (cell_seen y.cell y.content) seen
seen_reads n [] y i m = absurd i
seen_reads n (cell_seen c k ∷ more) y (inl q) m = inl (λ j. cell_seen (q j).cell (q j).content)
seen_reads n (cell_seen c k ∷ more) y (inr i) m = inr (seen_reads (suc n) more y i m)
seen_reads n (index_seen c k ∷ more) y (inl q) m = absurd (only_told y (record { cell = c; manner = is_told; content = Number k; reference = 0 }) q refl m)
seen_reads n (index_seen c k ∷ more) y (inr i) m = inr (seen_reads n more y i m)

-- what a DO reads at its entry, and at its ends
module _ (e : Entered) (scope : Scope) (serial : e.head.parallel ≡ false) (inner : e.inner ≡ []) where
  undefined_reads : (n : ℕ) (ys : List (List ℕ)) (y : Touch) → IsIn y (undefined_by scope n ys) → y.manner ≡ reads → ⊥
  undefined_reads n [] y i m = i
  undefined_reads n (z ∷ zs) y (inl q) m = no_read y (write_touch (cell_of scope z) Undefined n) q refl m
  undefined_reads n (z ∷ zs) y (inr i) m = undefined_reads (suc n) zs y i m

  exit_reads : (y : Touch) → IsIn y (exit_touches e scope) → y.manner ≡ reads → ⊥
  exit_reads y (inl q) m = no_read y (write_touch (cell_of scope e.head.variable) (left_in_variable e) 0) q refl m
  exit_reads y (inr i) m = elim (in_parts y (undefined_by scope e.behind_bounds e.head.private) (undefined_all scope e.inner) i) [
    | inl j ↦ undefined_reads e.behind_bounds e.head.private y j m
    | inr j ↦ subst (λ (xs : List (List ℕ)). IsIn y (undefined_all scope xs)) inner j
  ]

  none_reads : (n : ℕ) (y : Touch) → IsIn y (exit_when_none n e scope) → y.manner ≡ reads → ⊥
  none_reads n y i m = by (n == 0) i
    where
      by : (b : Bool) → IsIn y (if b then exit_touches e scope else []) → ⊥
      by true j = exit_reads y j m
      by false j = j

  -- what a control reads is read by the bounds
  pub loop_reads : (at : Place) (seen : List Seen) (ks : List ℕ) (c : List Act) → IsIn (control c) (loop_knots e scope at seen ks) → (y : Touch) → IsIn y (touches_of c) → y.manner ≡ reads → IsIn (cell_seen y.cell y.content) seen
  loop_reads at seen ks c i y j m = by (control_is e scope at seen ks c i)
    where
      by : (c ≡ loop_entry seen e scope at ∷ []) ⊎ ((n : ℕ) × (c ≡ trip_end e scope at n)) → IsIn (cell_seen y.cell y.content) seen
      by (inl q) =
          elim (in_parts y (numbered 1 seen) (exit_when_none e.count e scope) (subst (IsIn y) (append-nil (numbered 1 seen ++ exit_when_none e.count e scope)) (subst (λ (acts : List Act). IsIn y (touches_of acts)) q j))) [
            | inl k ↦ seen_reads 1 seen y k m
            | inr k ↦ absurd (none_reads e.count y k m)
          ]
      by (inr r) =
          absurd (none_reads (e.count - r.0) y (subst (IsIn y) (append-nil (exit_when_none (e.count - r.0) e scope)) (subst (λ (acts : List Act). IsIn y (touches_of acts)) (r.1 ∙ end_in_order e scope at r.0 (e.count - r.0) serial refl) j)) m)

module _ (t : ProgramTree) (s : ℕ) (l : LoopOf t s) (found : List (List ℕ)) (x : IsSplit t s l found) (data_bytes : List ℕ)
    (scope : Scope) (front behind : List Act) (v : Store) (executed : IsExecuted (setting_of t) t (store_at_start (lines data_bytes)) s (statements_count (alone (Do l.head l.body))) scope front (run (setting_of t) (Do l.head l.body) s scope v).acts behind v)
    (goes : finish_of (run (setting_of t) (Do l.head l.body) s scope v).ending ≡ goes_on) where
  abbrev p : Setting
  p = setting_of t

  abbrev start : Store
  start = store_at_start (lines data_bytes)

  abbrev old_acts : List Act
  old_acts = (run (setting_of t) (Do l.head l.body) s scope v).acts

  abbrev variables : List (List ℕ)
  variables = loop_variables (Do l.head l.body)

  around_it : AreDuring p t start s old_acts v
  around_it = whole_outermost p t start s l scope v executed.place (as_done executed) (ends_so (run p (Do l.head l.body) s scope v).ending goes)

  during : IsDuring p t s (store_after around_it.front start) v
  during = around_it.during [] old_acts refl

  here : IsPlaceWith p.constants t s (told_at scope) scope
  here = place_with p t s (λ m n same. same) scope executed.place

  bound_fixed : (b : ExprTree) → IsBoundOf l.head b → (c : Cell) (n : Content) → IsIn (cell_seen c n) (value (names_in p scope) b v).seen → IsOfFixed p.constants t s c
  bound_fixed b bound c n i =
      read_so (IsOfFixed p.constants t s) (value (names_in p scope) b v).seen (value (names_in p scope) b v).seen
      (plain.plain_again p p refl t s b (x.plain b bound).built (told_at scope) scope scope here here (store_after around_it.front start) v v during during).seen c n i

  -- the bounds of the DO read scalars that keep their values
  pub seen_fixed : (c : Cell) (n : Content) → IsIn (cell_seen c n) (bounds_seen (setting_of t) l.head scope v) → IsOfFixed (setting_of t).constants t s c
  seen_fixed c n i =
      let old = runs.old t s l found x scope v goes in
      let has = limits_parted (names_in p scope) l.head v old.bounds old.come in
      elim (in_parts (cell_seen c n) (value (names_in p scope) l.head.first v).seen (value (names_in p scope) l.head.last v).seen (subst (IsIn (cell_seen c n)) has.seen i)) [
        | inl j ↦ bound_fixed l.head.first (inl refl) c n j
        | inr j ↦ bound_fixed l.head.last (inr refl) c n j
      ]

  pub seen_held : (c : Cell) (n : Content) → IsIn (cell_seen c n) (bounds_seen (setting_of t) l.head scope v) → v c ≡ n
  seen_held c n i = held_in v (bounds_seen p l.head scope v) c n ((limits_told (names_in p scope) l.head).holds v) i

  -- part of what has no write has none
  none_in_part : (whole acts : List Act) (c : Cell) → IsPart whole acts → written whole c ≡ false → written acts c ≡ false
  none_in_part whole acts c part none = false_from_ne_true (written acts c) (λ m. both_ways (written whole c) none
      (ap (λ (ys : List Act). written ys c) part.is ∙ written_append part.before (acts ++ part.behind) c ∙ or_right (written part.before c) (written (acts ++ part.behind) c) (written_append acts part.behind c ∙ or_left (written acts c) (written part.behind c) m)))

  pub fixed_unwritten : (c : Cell) → IsOfFixed (setting_of t).constants t s c → written (run (setting_of t) (Do l.head l.body) s scope v).acts c ≡ false
  fixed_unwritten c f = by scope executed.place executed.outer
    where
      by : (place : Scope) → IsPlaceOf p t s place → IsInOutermost p t start s place old_acts v → written old_acts c ≡ false
      by [] place outer =
          let none : nest_round t s ≡ [] = no_turns p.number (nest_round t s) place.turns in
          let same_number : s ≡ outermost_or s (nest_round t s) = ap (outermost_or s) (sym none) in
          plain.fixed_unwritten p t s c f (record { head = l.head; body = l.body; is = subst (λ (n : ℕ). statement_with n t ≡ Some (Do l.head l.body)) same_number l.is }) s scope v
      by (r ∷ rs) place outer =
          none_in_part (run p (Do outer.loop.head outer.loop.body) (outermost_or s (nest_round t s)) [] outer.first).acts old_acts c
          (record { before = outer.part.front; behind = outer.part.behind; is = outer.part.is }) (plain.fixed_unwritten p t s c f outer.loop (outermost_or s (nest_round t s)) [] outer.first)

  -- such a scalar is no variable of a DO, and isn't PRIVATE in this one
  pub fixed_counts : (c : Cell) → IsOfFixed (setting_of t).constants t s c
      → (is_cell_among (loop_variables (Do l.head l.body)) c || list_any (λ y. same_cell (cell_of scope y) c) l.head.private ≡ false) × (stands_apart (loop_variables (Do l.head l.body)) c ≡ false)
  fixed_counts c f =
      let none : is_among f.0 variables ≡ false = false_from_ne_true (is_among f.0 variables) (λ m. both_ways (is_among f.0 (all_loop_variables t.body)) f.2.other (loops_of_program t s l f.0 m)) in
      let unlisted : list_any (λ y. same_cell (cell_of scope y) c) l.head.private ≡ false = false_from_ne_true (list_any (λ y. same_cell (cell_of scope y) c) l.head.private) (λ h.
      both_ways (written old_acts c) (fixed_unwritten c f) (is_written scope c old_acts (old_leaves t s l found x scope v goes c h))) in
      ((λ i. (ap (is_cell_among variables) f.1 ∙ none) i || unlisted i), ap (stands_apart variables) f.1 ∙ none)
