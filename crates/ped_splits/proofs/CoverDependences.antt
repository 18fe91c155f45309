-- Two DO loops become one: where references of the new program make conflicting accesses, one in the second body and one in a later iteration of the first, a dependence between them is carried by the one DO, also among those alone that lead back.
use Rattle.std.proofs.Common.{◌≡◌, ℕ, ◌+◌, ◌<◌, ◌≤◌, ◌&&◌, List, [], ◌∷◌, ◌++◌, length, filter, Bool, true, false, ◌||◌, inl, inr, refl, sym, ap, ◌∙◌, subst, arith, if◌then◌else◌}
use Rattle.std.specs.Prelude.{nat_lt, nat_le}
use Rattle.std.proofs.lemmas.Bool.{and_parts}
use Rattle.std.proofs.lemmas.Bool.Decides.{nat_tests}
use Rattle.ped_tree.specs.Numbering.{statements_count}
use Rattle.ped_tree.specs.Tree.{ProgramTree}
use Rattle.ped_rules.specs.Carried.{is_carried_by, level_at}
use Rattle.ped_rules.specs.ped_loop_runs.proofs.LoopLaws.Carrying.{carried_inside, share_trips}
use Rattle.ped_rules.specs.ped_loop_runs.specs.Carried.{MakeConflict, IsCarriedInside}
use Rattle.ped_rules.specs.ped_flow.specs.PlainBounds.{nest_round}
use Rattle.ped_refs.specs.References.{Reference, references, pairs}
use Rattle.ped_edges.specs.Edges.{Edge}
use Rattle.ped_rules.specs.ped_graph.specs.Dependences.{AreEdges}
use Rattle.ped_rules.specs.ped_graph.specs.DependencePane.{is_level, is_in_body, extent_of}
use Rattle.ped_rules.specs.ped_laws.proofs.ConflictLaws.CoveringConflicts.{pair_listed}
use Rattle.ped_rules.specs.ped_laws.proofs.ConflictLaws.CoveringDirections.{same_numbers}
use Rattle.ped_rules.specs.ped_laws.specs.Acts.Orders.{IsIn}
use Rattle.ped_rules.specs.ped_laws.specs.Conflicts.Directions.{share_a_loop}
use Rattle.ped_rules.specs.ped_laws.specs.Conflicts.Sequence.{AreSuccessive, ComesBefore}
use Rattle.ped_rules.specs.ped_store.specs.Cells.{same_cell}
use Rattle.ped_rules.specs.ped_store.specs.Acts.{Turn}
use Rattle.ped_rules.specs.ped_store.specs.Races.{Access}
use Rattle.ped_rules.specs.ped_store.specs.Stores.{Store}
use Rattle.ped_splits.specs.Fusing.{AreBack, goes_back}
use Rattle.ped_splits.specs.Neighbours.{Neighbour, fused, next_number}

-- items that pass the test
in_filter : {X : Type 0} (test : X → Bool) (a : X) (xs : List X) → IsIn a xs → test a ≡ true → IsIn a (filter test xs)
in_filter test a [] i h = absurd i
in_filter {X} test a (y ∷ ys) (inl e) h = subst (λ (b : Bool). IsIn a (if b then y ∷ filter test ys else filter test ys)) (sym (ap test (sym e) ∙ h)) (inl e)
in_filter {X} test a (y ∷ ys) (inr i) h = go (test y) (in_filter test a ys i h)
  where
    go : (b : Bool) → IsIn a (filter test ys) → IsIn a (if b then y ∷ filter test ys else filter test ys)
    go true there = inr there
    go false there = there

-- the second of two accesses comes in a later iteration
comes_later : (u : ProgramTree) (a b : Access) (outer is js : List Turn) (i j : Turn) → AreSuccessive u i j → ComesBefore u a b (outer ++ i ∷ is) (outer ++ j ∷ js)
comes_later u a b [] is js i j later = inr (inl later)
comes_later u a b (f ∷ outer) is js i j later = inl (refl, comes_later u a b outer is js i j later)

-- an access in the second body and one in a later iteration of the first, of the same execution of the one DO
pub record IsMeeting {t0 : ProgramTree} {s : ℕ} (n : Neighbour t0 s) (outer is js : List Turn) (i j : Turn) (a b : Access) : Type 0 where
  pub at_first : a.place.turns ≡ outer ++ i ∷ is
  pub at_second : b.place.turns ≡ outer ++ j ∷ js
  pub successive : AreSuccessive (fused n) i j
  pub level : length outer ≡ length (nest_round (fused n) s)
  pub from : next_number n ≤ a.place.statement
  pub to : a.place.statement < next_number n + statements_count n.next_body
  pub low : s < b.place.statement
  pub high : b.place.statement < next_number n

-- a dependence covers the two inside these iterations, and the one DO carries it
abbrev pub IsCarriedBack : {t0 : ProgramTree} {s : ℕ} (n : Neighbour t0 s) → List Edge → (outer is js : List Turn) → Access → Access → Type 0
IsCarriedBack {t0} {s} n edges outer is js a b = (c : IsCarriedInside (fused n) edges outer is js a b) × (is_carried_by (fused n) s c.covered.edge ≡ true)

module _ (t0 : ProgramTree) (s : ℕ) (n : Neighbour t0 s) (first : Store) (a b : Access) (source sink : Reference) (made : MakeConflict (fused n) first a b source sink) (outer is js : List Turn) (i j : Turn) (m : IsMeeting n outer is js i j a b) where
  -- their references are a pair
  listed : IsIn (source, sink) (pairs (references (fused n)))
  listed =
      let parts = and_parts (same_cell a.cell b.cell) (a.writes || b.writes) made.conflicts in
      let order : ComesBefore (fused n) a b a.place.turns b.place.turns =
      subst (λ (x : List Turn). ComesBefore (fused n) a b x b.place.turns) (sym m.at_first) (subst (λ (y : List Turn). ComesBefore (fused n) a b (outer ++ i ∷ is) y) (sym m.at_second) (comes_later (fused n) a b outer is js i j m.successive)) in
      pair_listed (fused n) first a b source sink (record {
        at_source = made.at_source;
        at_sink = made.at_sink;
        before = made.before;
        behind = made.behind;
        made = made.made;
        makes = made.makes;
        same = parts.0;
        write = parts.1;
        share = (λ z. share_a_loop (m.at_first z) (m.at_second z)) ∙ share_trips outer i j is js m.successive.same;
        order = order;
      })

  -- the pair leads from the second body to the first
  back : goes_back n (source, sink) ≡ true
  back =
      let at_source : a.place.statement ≡ source.statement = made.made.statement in
      let at_sink : b.place.statement ≡ sink.statement = made.makes.statement in
      let from = m.from in
      let to = m.to in
      let low = m.low in
      let high = m.high in
      let one : nat_le (next_number n) source.statement ≡ true = subst (λ (k : ℕ). nat_le (next_number n) k ≡ true) at_source (yes_le (next_number n) a.place.statement from) in
      let two : nat_lt source.statement (next_number n + statements_count n.next_body) ≡ true = subst (λ (k : ℕ). nat_lt k (next_number n + statements_count n.next_body) ≡ true) at_source (yes_lt a.place.statement (next_number n + statements_count n.next_body) to) in
      let three : nat_lt s sink.statement ≡ true = subst (λ (k : ℕ). nat_lt s k ≡ true) at_sink (yes_lt s b.place.statement low) in
      let four : nat_lt sink.statement (next_number n) ≡ true = subst (λ (k : ℕ). nat_lt k (next_number n) ≡ true) at_sink (yes_lt b.place.statement (next_number n) high) in
      λ z. (one z && two z) && (three z && four z)
    where
      yes_lt : (k l : ℕ) → k < l → nat_lt k l ≡ true
      yes_lt k l h = grind (arith, h)

      yes_le : (k l : ℕ) → k ≤ l → nat_le k l ≡ true
      yes_le k l h = grind (arith, nat_tests)

  -- so a dependence between them is carried by the one DO, inside these iterations
  covered_back : (edges : List Edge) → AreBack n edges → IsCarriedInside (fused n) edges outer is js a b
  covered_back edges are =
      carried_inside (fused n) first a b source sink made (filter (goes_back n) (pairs (references (fused n)))) edges (in_filter (goes_back n) (source, sink) (pairs (references (fused n))) listed back) are outer is js i j m.at_first m.at_second m.successive

  -- and so among all dependences
  pub covered_by_all : (edges : List Edge) → AreEdges (fused n) edges → IsCarriedInside (fused n) edges outer is js a b
  covered_by_all edges are = carried_inside (fused n) first a b source sink made (pairs (references (fused n))) edges listed are outer is js i j m.at_first m.at_second m.successive

  -- the DO has at least these statements
  module _ (room : next_number n + statements_count n.next_body ≤ s + extent_of (fused n) s) where
    carried_back : (edges : List Edge) → AreBack n edges → (c : IsCarriedInside (fused n) edges outer is js a b) → is_carried_by (fused n) s c.covered.edge ≡ true
    carried_back edges are c =
        let level : is_level (level_at (fused n) s) c.covered.edge.level ≡ true = ap (is_level (level_at (fused n) s)) c.level ∙ same_numbers (length outer + 1) (level_at (fused n) s) (let e = m.level in omega (arith, e)) in
        let from = m.from in
        let to = m.to in
        let low = m.low in
        let high = m.high in
        let source_is : c.covered.edge.source.0 ≡ a.place.statement = ap (λ (z : ℕ × ℕ). z.0) c.covered.source in
        let sink_is : c.covered.edge.sink.0 ≡ b.place.statement = ap (λ (z : ℕ × ℕ). z.0) c.covered.sink in
        let source_in : is_in_body s (extent_of (fused n) s) c.covered.edge.source.0 ≡ true = ap (is_in_body s (extent_of (fused n) s)) source_is ∙ within a.place.statement (omega (arith, from)) (omega (arith, to, room)) in
        let sink_in : is_in_body s (extent_of (fused n) s) c.covered.edge.sink.0 ≡ true = ap (is_in_body s (extent_of (fused n) s)) sink_is ∙ within b.place.statement low (omega (arith, high, room)) in
        λ z. level z && (source_in z && sink_in z)
      where
        yes : (k l : ℕ) → k < l → nat_lt k l ≡ true
        yes k l h = grind (arith, h)

        within : (k : ℕ) → s < k → k < s + extent_of (fused n) s → is_in_body s (extent_of (fused n) s) k ≡ true
        within k above below = λ z. yes s k above z && yes k (s + extent_of (fused n) s) below z

    pub meets_back : (edges : List Edge) → AreBack n edges → IsCarriedBack n edges outer is js a b
    meets_back edges are = let c = covered_back edges are in (c, carried_back edges are c)
