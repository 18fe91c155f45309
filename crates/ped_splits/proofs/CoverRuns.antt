-- Two DO loops that may become one: accesses of a run of the program that cross do so in an execution of the two, in the run of the program in which both have one variable.
use Rattle.std.proofs.Common.{◌≡◌, ◌⊎◌, ℕ, ◌+◌, ◌<◌, ◌≤◌, List, ◌∷◌, ◌++◌, length, Bool, true, false, Some, inl, inr, refl, sym, ap, ◌∙◌, subst, arith}
use Rattle.std.specs.Str.Lines.{lines}
use Rattle.std.proofs.lemmas.Bool.{both_ways}
use Rattle.ped_base.proofs.NameEquality.{same_is, same_itself}
use Rattle.ped_base.specs.Lists.{is_among, is_same_text}
use Rattle.ped_tree.specs.NamesIn.{stmts_names}
use Rattle.ped_tree.specs.Nests.{Loop}
use Rattle.ped_tree.specs.Numbering.{statements_count}
use Rattle.ped_tree.specs.Tree.{ProgramTree, StmtTrees}
use Rattle.ped_rules.specs.ped_loop_runs.specs.Carried.{IsCoveredAt}
use Rattle.ped_rules.specs.ped_loop_runs.specs.Executions.{IsActInside}
use Rattle.ped_rules.specs.ped_steps.proofs.RunLaws.FilledGaps.{counted}
use Rattle.ped_rules.specs.ped_steps.specs.Causes.{NoRule}
use Rattle.ped_rules.specs.ped_steps.specs.Replacing.{alone}
use Rattle.ped_rules.specs.ped_steps.specs.Runs.Pasting.{AreTurnsOf}
use Rattle.ped_rules.specs.ped_symbols.specs.NameRefusals.{IsValid}
use Rattle.ped_rules.specs.ped_laws.proofs.ActLaws.Conflicting.{accesses_in}
use Rattle.ped_rules.specs.ped_laws.proofs.ActLaws.Lists.{in_parts}
use Rattle.ped_rules.specs.ped_laws.proofs.ConflictLaws.CoveringRuns.{MakingLaw}
use Rattle.ped_rules.specs.ped_laws.proofs.ConflictLaws.Scoping.{act_of_access, touch_of_access}
use Rattle.ped_rules.specs.ped_laws.specs.Acts.Orders.{IsIn}
use Rattle.ped_rules.specs.ped_laws.specs.Acts.Sets.{nothing}
use Rattle.ped_rules.specs.ped_laws.specs.FlowRuns.Covering.{some_stop}
use Rattle.ped_rules.specs.ped_eval.specs.Outcomes.{Ends, run_of, setting_of}
use Rattle.ped_rules.specs.ped_eval.specs.Runs.{run_all}
use Rattle.ped_rules.specs.ped_eval.specs.Scopes.{Setting, Scope, turns_of}
use Rattle.ped_rules.specs.ped_graph.specs.Dependences.{AreEdges}
use Rattle.ped_edges.specs.Edges.{Edge}
use Rattle.ped_rules.specs.ped_store.specs.Acts.{Act, Place, Turn}
use Rattle.ped_rules.specs.ped_store.specs.Races.{Access, accesses, accesses_of}
use Rattle.ped_rules.specs.ped_store.specs.Stores.{Store, store_at_start}
use Rattle.ped_splits.proofs.CoverConflicts.{crossing_covered}
use Rattle.ped_splits.proofs.CoverFacts.{MayFuse}
use Rattle.ped_splits.proofs.CoverFound.{IsFound, IsPlaced, each_placed}
use Rattle.ped_splits.proofs.CoverGaps.{gap_loops, gap_nest}
use Rattle.ped_splits.proofs.CoverNumbers.{AreBelow, gap_below, turns_below}
use Rattle.ped_splits.proofs.CoverTurns.{AreOutside, not_outside, same_round, stands_led}
use Rattle.ped_splits.proofs.FusableFacts.{both_contained, no_rule_forbids}
use Rattle.ped_splits.proofs.FusedKeeps.{renamed_same}
use Rattle.ped_splits.proofs.JoinCrossing.{CrossBetween, second_body}
use Rattle.ped_splits.proofs.JoinInitial.{initial_alike}
use Rattle.ped_splits.proofs.JoinSame.{none_stops}
use Rattle.ped_splits.proofs.JoinedFacts.{are_joined}
use Rattle.ped_splits.proofs.RenameActs.{referred}
use Rattle.ped_splits.proofs.RenameFacts.{renaming_may}
use Rattle.ped_splits.proofs.RenameKeeps.{renaming_alike, renaming_ends}
use Rattle.ped_splits.proofs.RenameRaces.{in_kept, kept_in}
use Rattle.ped_splits.proofs.RenameShown.{nothing_shown}
use Rattle.ped_splits.specs.Fusing.{Match, StandsAgainstFusion}
use Rattle.ped_splits.specs.Neighbours.{Neighbour, fused, next_number}
use Rattle.ped_splits.specs.OneVariable.{IsUnwritten, Cross, in_one, renamed, renamed_next, renamed_pair}

module _ (making : MakingLaw) (t : ProgramTree) (s : ℕ) (m : Match t s) (valid : IsValid t) (either : (m.neighbour.own.variable ≡ m.neighbour.next.variable) ⊎ IsUnwritten t m.neighbour.next.variable) (none : NoRule (StandsAgainstFusion s t)) (data_bytes : List ℕ) (ends : Ends (run_of t data_bytes).ending) where
  abbrev n : Neighbour t s
  n = m.neighbour

  abbrev u : ProgramTree
  u = renamed m.neighbour

  abbrev p : Setting
  p = setting_of (renamed m.neighbour)

  abbrev start : Store
  start = store_at_start (lines data_bytes)

  abbrev pair : StmtTrees
  pair = renamed_pair m.neighbour

  abbrev count : ℕ
  count = statements_count (renamed_pair m.neighbour)

  may : MayFuse t s m
  may = no_rule_forbids t s m valid none

  pub some : 0 < statements_count (renamed_pair m.neighbour)
  some = omega arith

  pub unstopped : some_stop (renamed_pair m.neighbour) ≡ false
  unstopped = none_stops (renamed m.neighbour) (fused m.neighbour) s (are_joined t s m may)

  -- the run of the program between ends, too, and references do the same there
  pub record IsAlike : Type 0 where
    pub same_end : Ends (run_of (renamed m.neighbour) data_bytes).ending
    pub same_accesses : referred (run_of t data_bytes).acts ≡ referred (run_of (renamed m.neighbour) data_bytes).acts

  absent_by : (m.neighbour.own.variable ≡ m.neighbour.next.variable → ⊥) → (m.neighbour.own.variable ≡ m.neighbour.next.variable) ⊎ (is_among m.neighbour.own.variable (stmts_names m.neighbour.next_body) ≡ false)
      → is_among m.neighbour.own.variable (stmts_names m.neighbour.next_body) ≡ false
  absent_by differ (inl same) = absurd (differ same)
  absent_by differ (inr absent) = absent

  unwritten_by : (m.neighbour.own.variable ≡ m.neighbour.next.variable → ⊥) → (m.neighbour.own.variable ≡ m.neighbour.next.variable) ⊎ IsUnwritten t m.neighbour.next.variable → IsUnwritten t m.neighbour.next.variable
  unwritten_by differ (inl same) = absurd (differ same)
  unwritten_by differ (inr unwritten) = unwritten

  by_names : (b : Bool) → is_same_text m.neighbour.own.variable m.neighbour.next.variable ≡ b → IsAlike
  by_names true e =
      let same : t ≡ renamed m.neighbour = sym (renamed_same t s m.neighbour (same_is m.neighbour.own.variable m.neighbour.next.variable e)) in
      record { same_end = subst (λ (z : ProgramTree). Ends (run_of z data_bytes).ending) same ends; same_accesses = ap (λ (z : ProgramTree). referred (run_of z data_bytes).acts) same }
  by_names false e =
      let differ : m.neighbour.own.variable ≡ m.neighbour.next.variable → ⊥ =
      λ same. both_ways (is_same_text m.neighbour.own.variable m.neighbour.next.variable) e (ap (is_same_text m.neighbour.own.variable) (sym same) ∙ same_itself m.neighbour.own.variable) in
      let both = both_contained t s m none in
      let r = renaming_may t s m may (unwritten_by differ either) both.0 both.1 differ (absent_by differ m.alike.variable) in
      record { same_end = renaming_ends making t s m.neighbour r nothing (nothing_shown t) data_bytes ends; same_accesses = renaming_alike making t s m.neighbour r nothing (nothing_shown t) data_bytes ends }

  alike : IsAlike
  alike = by_names (is_same_text m.neighbour.own.variable m.neighbour.next.variable) refl

  -- so an access by a reference comes there, too
  come : (y : Access) → 0 < y.reference → IsIn y (accesses (run_of t data_bytes).acts) → IsIn y (accesses (run_of (renamed m.neighbour) data_bytes).acts)
  come y by_one i = kept_in (accesses (run_of (renamed m.neighbour) data_bytes).acts) y (subst (IsIn y) alike.same_accesses (in_kept (accesses (run_of t data_bytes).acts) y i by_one))

  -- where it stands in an iteration of one of the two, it is of an execution of both
  pub record IsOfOne (y : Access) : Type 0 where
    pub act : Act
    pub among : IsIn act (run_of (renamed m.neighbour) data_bytes).acts
    pub found : IsIn y (accesses_of act)
    pub place : y.place ≡ act.place
    pub one : IsFound (renamed m.neighbour) (store_at_start (lines data_bytes)) s (renamed_pair m.neighbour) some unstopped act

  of_one : (y : Access) → IsIn y (accesses (run_of (renamed m.neighbour) data_bytes).acts) → (round : List Turn) (w : Turn) (ws : List Turn) → y.place.turns ≡ round ++ w ∷ ws → s ≤ w.statement → w.statement < s + count → IsOfOne y
  of_one y i round w ws at from to =
      let g = act_of_access y (run_of (renamed m.neighbour) data_bytes).acts i in
      let v = touch_of_access y g.0 g.2 in
      let place : y.place ≡ g.0.place = ap (λ (q : Access). q.place) v.2 in
      let placed : IsPlaced (renamed m.neighbour) (store_at_start (lines data_bytes)) s (renamed_pair m.neighbour) some unstopped g.0 =
      each_placed (renamed m.neighbour) (store_at_start (lines data_bytes)) s (renamed_pair m.neighbour) some unstopped m.neighbour.gap refl m.neighbour.numbered alike.same_end g.0 g.1 in
      elim placed [
        | inl f ↦ record { act = g.0; among = g.1; found = g.2; place = place; one = f }
        | inr out ↦ absurd (not_outside s (s + count) round w ws from to (subst (AreOutside s (s + count)) (ap (λ (q : Place). q.turns) (sym place) ∙ at) out))
      ]

  module _ (a b : Access) (c : Cross m.neighbour data_bytes a b) where
    size : statements_count (renamed_pair m.neighbour) ≡ 1 + statements_count m.neighbour.own_body + (statements_count m.neighbour.between + statements_count (alone (renamed_next m.neighbour)))
    size = let e = counted m.neighbour.between (alone (renamed_next m.neighbour)) in omega (arith, e)

    source : IsOfOne a
    source =
        let is : c.j.statement ≡ s + 1 + statements_count m.neighbour.own_body = c.of_source in
        let long = size in
        of_one a (come a c.source_reference c.source) c.round c.j c.js c.at_source (omega (arith, is)) (omega (arith, is, long))

    sink : IsOfOne b
    sink = let is = c.of_sink in of_one b (come b c.sink_reference c.sink) c.round c.i c.is c.at_sink (omega (arith, is)) (omega (arith, is))

    abbrev scope : Scope
    scope = sink.one.scope

    before : s < next_number m.neighbour
    before = omega arith

    abbrev Below : List Turn → Type 0
    Below = AreBelow s (next_number m.neighbour) (statements_count (second_body m.neighbour)) before

    below : Below (turns_of sink.one.scope)
    below =
        turns_below s (next_number m.neighbour) (statements_count (second_body m.neighbour)) before (gap_loops m.neighbour.gap 1) (turns_of sink.one.scope)
        (subst (λ (ls : List Loop). AreTurnsOf (λ k. k) ls (turns_of sink.one.scope)) (gap_nest s (renamed_pair m.neighbour) some m.neighbour.gap 1 m.neighbour.numbered) sink.one.executed.place.turns)
        (gap_below s (next_number m.neighbour) (statements_count (second_body m.neighbour)) before m.neighbour.gap 1 m.neighbour.numbered)

    -- they cross in the iterations of that execution
    round_is : c.round ≡ turns_of sink.one.scope
    round_is =
        let led = stands_led (renamed m.neighbour) (renamed_pair m.neighbour) s sink.one.scope sink.one.store sink.act sink.one.among in
        same_round s (s + count) Below (λ w ws h. h) (turns_of sink.one.scope) led.0 c.round c.i c.is below led.2 (sym led.1 ∙ ap (λ (q : Place). q.turns) (sym sink.place) ∙ c.at_sink) c.of_sink

    abbrev executed : List Act
    executed = (run_all (setting_of (renamed m.neighbour)) (renamed_pair m.neighbour) s sink.one.scope sink.one.store).acts

    -- so both are in it
    in_execution : (y : Access) (x : IsOfOne y) (w : Turn) (ws : List Turn) → y.place.turns ≡ c.round ++ w ∷ ws → IsIn y (accesses (run_all (setting_of (renamed m.neighbour)) (renamed_pair m.neighbour) s sink.one.scope sink.one.store).acts)
    in_execution y x w ws at = accesses_in executed x.act y among x.found
      where
        inside : IsActInside p sink.one.scope s count x.act
        inside = record { number = x.act.place.statement; from = x.one.from; to = x.one.to; is = refl; more = w ∷ ws; turns = ap (λ (q : Place). q.turns) (sym x.place) ∙ at ∙ ap (λ (ts : List Turn). ts ++ w ∷ ws) round_is }

        among : IsIn x.act executed
        among = elim (in_parts x.act sink.one.front (executed ++ sink.one.behind) (subst (IsIn x.act) sink.one.executed.whole x.among)) [
          | inl k ↦ absurd (sink.one.executed.only_before x.act k inside)
          | inr k ↦ elim (in_parts x.act executed sink.one.behind k) [
            | inl r ↦ r
            | inr r ↦ absurd (sink.one.executed.only_behind x.act r inside)
          ]
        ]

    between : CrossBetween m.neighbour data_bytes sink.one.scope a b
    between = record {
      front = sink.one.front;
      behind = sink.one.behind;
      store = sink.one.store;
      executed = sink.one.executed;
      goes = sink.one.goes;
      source = in_execution a source c.j c.js c.at_source;
      sink = in_execution b sink c.i c.is c.at_sink;
      source_reference = c.source_reference;
      sink_reference = c.sink_reference;
      conflicts = c.conflicts;
      j = c.j;
      js = c.js;
      i = c.i;
      is = c.is;
      at_source = c.at_source ∙ ap (λ (ts : List Turn). ts ++ c.j ∷ c.js) round_is;
      at_sink = c.at_sink ∙ ap (λ (ts : List Turn). ts ++ c.i ∷ c.is) round_is;
      of_source = c.of_source;
      of_sink = c.of_sink;
      earlier = c.earlier;
    }

    pub cross_covered : (edges : List Edge) → AreEdges (fused m.neighbour) edges → IsCoveredAt (fused m.neighbour) edges (Some (length c.round + 1)) (in_one m.neighbour a) b
    cross_covered edges are =
        subst (λ (ts : List Turn). IsCoveredAt (fused m.neighbour) edges (Some (length ts + 1)) (in_one m.neighbour a) b) (sym round_is)
        (crossing_covered t s m may (initial_alike t s m may) data_bytes alike.same_end sink.one.scope a b between edges are)
