-- The second of two DO loops of one variable comes to the limits of the first one, which writes nothing of what the bounds read.
use Rattle.std.proofs.Common.{IsTrue, List, Ok, Option, Result, Some, [], ap, append_assoc, false, inl, inr, pos, refl, subst, sym, ℕ, ℤ, ◌*ℤ◌, ◌++◌, ◌+ℤ◌, ◌+◌, ◌-◌, ◌∙◌, ◌∷◌, ◌≡◌}
use Rattle.std.proofs.lemmas.Bool.{both_ways}
use Rattle.std.specs.Option.{unwrap_or}
use Rattle.std.specs.Str.Lines.{lines}
use Rattle.ped_base.proofs.NameEquality.{same_itself}
use Rattle.ped_base.specs.Lists.{is_among}
use Rattle.ped_tree.specs.Constants.ConstantExpressions.{constant_value}
use Rattle.ped_tree.specs.Nests.{Loop, indices_of}
use Rattle.ped_tree.specs.Numbering.{statement_with, statements_count}
use Rattle.ped_tree.specs.Tree.{Do, ExprTree, ProgramTree, StmtTree}
use Rattle.ped_rules.proofs.NestLaws.WovenLists.{IsPart}
use Rattle.ped_rules.specs.Rules.{IsBoundOf}
use Rattle.ped_rules.specs.ped_loop_runs.proofs.LoopLaws.OneForOneStands.{false_unless}
use Rattle.ped_rules.specs.ped_loop_runs.proofs.LoopLaws.PlainReads.{IsReadAlike, built_same}
use Rattle.ped_rules.specs.ped_loop_runs.proofs.PastingLaws.ToldPlaces.{no_turns, place_with}
use Rattle.ped_rules.specs.ped_loop_runs.specs.Executions.{IsExecuted}
use Rattle.ped_rules.specs.ped_loop_runs.specs.Places.{told_at}
use Rattle.ped_rules.specs.ped_bodies.proofs.BodyLaws.LimitParts.{limits_parted}
use Rattle.ped_rules.specs.ped_bodies.specs.Trips.{IsMadeOfTrips, entered_from}
use Rattle.ped_rules.specs.ped_steps.specs.Runs.Pasting.{IsInOutermost, IsPlaceOf}
use Rattle.ped_rules.specs.ped_flow.specs.PlainBounds.{IsFixed, assigned_by, nest_round, outermost_or, setting_round}
use Rattle.ped_rules.specs.ped_laws.proofs.ActLaws.Appending.{written_append}
use Rattle.ped_rules.specs.ped_laws.proofs.ActLaws.Renamings.{after_other, or_left, or_right}
use Rattle.ped_rules.specs.ped_laws.proofs.FlowRunLaws.Writing.{unassigned}
use Rattle.ped_rules.specs.ped_laws.proofs.PlainLaws.Standing.{own_cell, untold}
use Rattle.ped_rules.specs.ped_laws.specs.Acts.Fitting.{store_after}
use Rattle.ped_rules.specs.ped_laws.specs.Acts.Sets.{written}
use Rattle.ped_rules.specs.ped_laws.specs.Plain.Executions.{IsPlaceWith}
use Rattle.ped_rules.specs.ped_laws.specs.Runs.Replaying.{finish_of, goes_on}
use Rattle.ped_rules.specs.ped_eval.specs.Loops.{increment, iteration_count, value_in}
use Rattle.ped_rules.specs.ped_eval.specs.Outcomes.{setting_of}
use Rattle.ped_rules.specs.ped_eval.specs.Runs.{run, run_all}
use Rattle.ped_rules.specs.ped_eval.specs.Scopes.{Scope, Setting, index_value, names_in}
use Rattle.ped_rules.specs.ped_eval.specs.Values.{value}
use Rattle.ped_rules.specs.ped_store.specs.Acts.{Act}
use Rattle.ped_rules.specs.ped_store.specs.Cells.{Cell, Scalar}
use Rattle.ped_rules.specs.ped_store.specs.Stores.{Store, store_at_start}
use Rattle.ped_splits.proofs.JoinFacts.{AreJoined, both_loops}
use Rattle.ped_splits.proofs.JoinParts.{first_loop, first_trips, pair_acts, second_trips}

-- part of what has no write has none
none_in_part : (whole acts : List Act) (c : Cell) → IsPart whole acts → written whole c ≡ false → written acts c ≡ false
none_in_part whole acts c part none = false_unless (written acts c) (λ m. both_ways (written whole c) none
    (ap (λ (ys : List Act). written ys c) part.is ∙ written_append part.before (acts ++ part.behind) c ∙ or_right (written part.before c) (written (acts ++ part.behind) c) (written_append acts part.behind c ∙ or_left (written acts c) (written part.behind c) m)))

same_ok : (m n : ℤ) → ◌≡◌ {A = Result ℤ ℕ} (Ok m) (Ok n) → m ≡ n
same_ok m n e = cc

module _ (t u : ProgramTree) (s : ℕ) (x : AreJoined t u s) (data_bytes : List ℕ) (scope : Scope) (front behind : List Act) (v : Store)
    (executed : IsExecuted (setting_of t) t (store_at_start (lines data_bytes)) s (statements_count (both_loops x)) scope front (run_all (setting_of t) (both_loops x) s scope v).acts behind v)
    (goes : finish_of (run_all (setting_of t) (both_loops x) s scope v).ending ≡ goes_on) where
  abbrev p : Setting
  p = setting_of t

  abbrev start : Store
  start = store_at_start (lines data_bytes)

  abbrev first_acts : List Act
  first_acts = (run (setting_of t) (Do x.own x.own_body) s scope v).acts

  abbrev between : Store
  between = store_after (run (setting_of t) (Do x.own x.own_body) s scope v).acts v

  abbrev second_acts : List Act
  second_acts = (run (setting_of t) (Do x.next x.next_body) (s + 1 + statements_count x.own_body) scope (store_after (run (setting_of t) (Do x.own x.own_body) s scope v).acts v)).acts

  whole_first : (before after : List Act) → before ++ ((run_all p (both_loops x) s scope v).acts ++ after) ≡ before ++ (first_acts ++ (second_acts ++ after))
  whole_first before after =
      ap (λ (acts : List Act). before ++ (acts ++ after)) (pair_acts t u s x scope v goes)
      ∙ ap (λ (acts : List Act). before ++ acts) (append_assoc first_acts second_acts after)

  first_outer : (place : Scope) → IsInOutermost p t start s place (run_all p (both_loops x) s scope v).acts v → IsInOutermost p t start s place first_acts v
  first_outer [] o = tt
  first_outer (f ∷ fs) o = record {
    loop = o.loop;
    from = o.from;
    to = o.to;
    first = o.first;
    execution = o.execution;
    ends = o.ends;
    part = record { front = o.part.front; behind = second_acts ++ o.part.behind; is = o.part.is ∙ whole_first o.part.front o.part.behind; from = o.part.from };
  }

  -- no act of the first one writes a scalar that keeps its value
  kept_unwritten : (y : List ℕ) → is_among y (assigned_by (statement_with (outermost_or s (nest_round t s)) t)) ≡ false → written first_acts (Scalar y) ≡ false
  kept_unwritten y none = by scope executed.place (first_outer scope executed.outer)
    where
      by : (place : Scope) → IsPlaceOf p t s place → IsInOutermost p t start s place first_acts v → written first_acts (Scalar y) ≡ false
      by [] place outer =
          let alone_there : nest_round t s ≡ [] = no_turns p.number (nest_round t s) place.turns in
          let same_number : outermost_or s (nest_round t s) ≡ s = ap (outermost_or s) alone_there in
          let there : statement_with (outermost_or s (nest_round t s)) t ≡ Some (Do x.own x.own_body) = ap (λ (n : ℕ). statement_with n t) same_number ∙ (first_loop t u s x).is in
          unassigned p y (Do x.own x.own_body) s scope v (Scalar y) (ap (λ (o : Option StmtTree). is_among y (assigned_by o)) (sym there) ∙ none) (same_itself y)
      by (r ∷ rs) place outer =
          none_in_part (run p (Do outer.loop.head outer.loop.body) (outermost_or s (nest_round t s)) [] outer.first).acts first_acts (Scalar y)
          (record { before = outer.part.front; behind = outer.part.behind; is = outer.part.is })
          (unassigned p y (Do outer.loop.head outer.loop.body) (outermost_or s (nest_round t s)) [] outer.first (Scalar y) (ap (λ (o : Option StmtTree). is_among y (assigned_by o)) (sym outer.loop.is) ∙ none) (same_itself y))

  here : IsPlaceWith p.constants t s (told_at scope) scope
  here = place_with p t s (λ m n same. same) scope executed.place

  tells : (y : List ℕ) → IsTrue (is_among y (indices_of (nest_round x.outer s))) → index_value scope y ≡ Some (told_at scope y)
  tells y among = here.tells y (subst (λ (ls : List Loop). IsTrue (is_among y (indices_of ls))) x.nest among)

  read_alike : (y : List ℕ) → IsFixed p.constants x.outer s y → IsReadAlike (names_in p scope) (names_in p scope) v between y
  read_alike y keeps =
      let f = x.fixed y keeps in
      record {
        untold = untold (setting_round p.constants t s) y f.0 f.1 scope here.inside;
        other_untold = untold (setting_round p.constants t s) y f.0 f.1 scope here.inside;
        own = own_cell (setting_round p.constants t s) y f.0 f.1 scope here.inside;
        other_own = own_cell (setting_round p.constants t s) y f.0 f.1 scope here.inside;
        holds = after_other first_acts v (Scalar y) (kept_unwritten y f.0);
      }

  bound_again : (e : ExprTree) → IsBoundOf x.own e → (value (names_in p scope) e between).result ≡ (value (names_in p scope) e v).result
  bound_again e bound = (built_same p.constants x.outer s (names_in p scope) (names_in p scope) v between (told_at scope) refl refl tells tells read_alike e (x.plain e bound)).result

  -- so the limits are the same, however they are told
  pub limits_alike : (one : IsMadeOfTrips (setting_of t) x.own x.own_body s scope v) (other : IsMadeOfTrips (setting_of t) x.next x.next_body (s + 1 + statements_count x.own_body) scope (store_after (run (setting_of t) (Do x.own x.own_body) s scope v).acts v)) → other.bounds ≡ one.bounds
  limits_alike one other =
      let a = limits_parted (names_in p scope) x.own v one.bounds one.come in
      let b = limits_parted (names_in p scope) x.next between other.bounds other.come in
      let first : other.bounds.first ≡ one.bounds.first = same_ok other.bounds.first one.bounds.first (sym b.first ∙ (ap (λ (e : ExprTree). (value (names_in p scope) e between).result) x.first ∙ (bound_again x.own.first (inl refl) ∙ a.first))) in
      let last : other.bounds.last ≡ one.bounds.last = same_ok other.bounds.last one.bounds.last (sym b.last ∙ (ap (λ (e : ExprTree). (value (names_in p scope) e between).result) x.last ∙ (bound_again x.own.last (inr refl) ∙ a.last))) in
      λ i. record { first = first i; last = last i }

  pub same_limits : (second_trips t u s x scope v goes).bounds ≡ (first_trips t u s x scope v goes).bounds
  same_limits = limits_alike (first_trips t u s x scope v goes) (second_trips t u s x scope v goes)

  same_step : increment p.constants x.next ≡ increment p.constants x.own
  same_step = ap (λ (e : ExprTree). unwrap_or (constant_value p.constants e) (pos 1)) x.step

  -- so it has as many iterations, and in each the same value of the variable
  pub same_count : (entered_from (setting_of t) x.next x.next_body (s + 1 + statements_count x.own_body) scope (store_after (run (setting_of t) (Do x.own x.own_body) s scope v).acts v) (second_trips t u s x scope v goes).bounds).count ≡ (entered_from (setting_of t) x.own x.own_body s scope v (first_trips t u s x scope v goes).bounds).count
  same_count = λ i. iteration_count (same_limits i).first (same_limits i).last (same_step i)

  pub same_value : (k : ℕ) → value_in (entered_from (setting_of t) x.next x.next_body (s + 1 + statements_count x.own_body) scope (store_after (run (setting_of t) (Do x.own x.own_body) s scope v).acts v) (second_trips t u s x scope v goes).bounds) k ≡ value_in (entered_from (setting_of t) x.own x.own_body s scope v (first_trips t u s x scope v goes).bounds) k
  same_value k = λ i. (same_limits i).first +ℤ pos (k - 1) *ℤ same_step i
