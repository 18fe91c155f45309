-- Two DO loops become one, where no dependence forbids it and none that is rejected and leads back occurs on the data: in no execution a later iteration of the first conflicts with an earlier one of the second, but on cells of the variables of DO loops.
use Rattle.std.proofs.Common.{◌≡◌, ℕ, ◌+◌, ◌<◌, ◌&&◌, List, [], ◌∷◌, ◌++◌, length, map, filter, All, Bool, true, false, not, inl, inr, refl, sym, ap, subst, if◌then◌else◌}
use Rattle.std.proofs.lemmas.Bool.{both_ways}
use Rattle.std.proofs.lemmas.List.Elements.{All-head, All-tail}
use Rattle.ped_tree.specs.Tree.{ProgramTree}
use Rattle.ped_rules.specs.Carried.{carried}
use Rattle.ped_rules.specs.ped_views.specs.Vectors.{all_vectors, AreThose, IsPossible}
use Rattle.ped_rules.specs.ped_loop_runs.proofs.LoopLaws.OneForOneStands.{in_flat}
use Rattle.ped_rules.specs.ped_loop_runs.proofs.TidyLaws.UnrejectedEdges.{pairs_unrejected}
use Rattle.ped_rules.specs.ped_loop_runs.specs.Unrejected.{some_rejection}
use Rattle.ped_rules.specs.ped_graph.specs.Dependences.{facts_of, view_of, edges_by, PairEdges, EdgesOfPairs}
use Rattle.ped_refs.specs.References.{Reference, is_pair, references, pairs}
use Rattle.ped_edges.specs.Edges.{Mark, proven, pending, rejected, Edge, is_rejected}
use Rattle.ped_rules.specs.ped_laws.proofs.ActLaws.Conflicting.{accesses_in}
use Rattle.ped_rules.specs.ped_laws.proofs.ActLaws.Lists.{in_left, in_right}
use Rattle.ped_rules.specs.ped_laws.proofs.ConflictLaws.Scoping.{act_of_access}
use Rattle.ped_rules.specs.ped_laws.specs.Acts.Orders.{IsIn}
use Rattle.ped_rules.specs.ped_eval.specs.Outcomes.{Ends, run_of, setting_of}
use Rattle.ped_rules.specs.ped_eval.specs.Runs.{run_all}
use Rattle.ped_rules.specs.ped_eval.specs.Scopes.{Scope, turns_of}
use Rattle.ped_rules.specs.ped_store.specs.Acts.{Act}
use Rattle.ped_rules.specs.ped_store.specs.Races.{Access, accesses}
use Rattle.ped_splits.proofs.CoverConflicts.{crossing_back}
use Rattle.ped_splits.proofs.CoverFacts.{MayFuse, may_fuse}
use Rattle.ped_splits.proofs.CoverKinds.{fused_unrejected, setting_alike}
use Rattle.ped_splits.proofs.CoverMeets.{uncrossed}
use Rattle.ped_splits.proofs.FuseFacts.{IsFusable}
use Rattle.ped_splits.proofs.JoinCrossing.{CrossBetween, NoneCrosses}
use Rattle.ped_splits.proofs.JoinInitial.{initial_alike}
use Rattle.ped_splits.proofs.RenameActs.{referred}
use Rattle.ped_splits.proofs.RenameRaces.{in_kept, kept_in}
use Rattle.ped_splits.specs.Fusing.{IsTrueFused, Match, forbids_fusion, goes_back}
use Rattle.ped_splits.specs.Neighbours.{Neighbour, fused}
use Rattle.ped_splits.specs.OneVariable.{Cross, renamed, renamed_pair}

-- each vector is excluded or not; so that there are no dependences of these pairs can't be
those_are : {X : Type 0} (P : X → Type 0) (xs : List X) → ((chosen : List X) → AreThose P xs chosen → ⊥) → ⊥
those_are P [] none = none [] refl
those_are P (x ∷ xs) none = those_are P xs (λ rest r. none rest (inr ((λ p. none (x ∷ rest) (inl (p, (rest, refl, r)))), r)))

pair_has : (t : ProgramTree) (source sink : Reference) → ((edges : List Edge) → PairEdges t source sink edges → ⊥) → ⊥
pair_has t source sink none =
    those_are (IsPossible (view_of t source sink)) (all_vectors (length (view_of t source sink).loops))
    (λ vectors possible. none (edges_by (facts_of t) source sink (view_of t source sink) vectors) (record { vectors = vectors; possible = possible; divided = refl }))

pairs_have : (t : ProgramTree) (ps : List (Reference × Reference)) → ((edges : List Edge) → EdgesOfPairs t ps edges → ⊥) → ⊥
pairs_have t [] none = none [] refl
pairs_have t (p ∷ ps) none = pair_has t p.0 p.1 (λ first a. pairs_have t ps (λ rest b. none (first ++ rest) (first, rest, refl, a, b)))

each_of : {X : Type 0} (P : X → Type 0) (xs : List X) (x : X) → All P xs → IsIn x xs → P x
each_of P [] x all i = absurd i
each_of P (y ∷ ys) x all (inl e) = subst P (sym e) (All-head P y ys all)
each_of P (y ∷ ys) x all (inr i) = each_of P ys x (All-tail P y ys all) i

not_rejected : (mark : Mark) → (mark ≡ rejected → ⊥) → is_rejected mark ≡ false
not_rejected proven h = refl
not_rejected pending h = refl
not_rejected rejected h = absurd (h refl)

from_filter : {X : Type 0} (test : X → Bool) (a : X) (xs : List X) → IsIn a (filter test xs) → IsIn a xs
from_filter test a [] i = absurd i
from_filter {X} test a (y ∷ ys) i = go (test y) i (from_filter test a ys)
  where
    go : (b : Bool) → IsIn a (if b then y ∷ filter test ys else filter test ys) → (IsIn a (filter test ys) → IsIn a ys) → IsIn a (y ∷ ys)
    go true (inl e) more = inl e
    go true (inr j) more = inr (more j)
    go false j more = inr (more j)

in_mapped : {X Y : Type 0} (f : X → Y) (y : Y) (xs : List X) → IsIn y (map f xs) → (x : X) × IsIn x xs × (y ≡ f x)
in_mapped f y [] i = absurd i
in_mapped f y (x ∷ xs) (inl e) = (x, inl refl, e)
in_mapped f y (x ∷ xs) (inr i) = let r = in_mapped f y xs i in (r.0, inr r.1, r.2)

-- the source of a pair is a reference
source_there : (refs : List Reference) (p : Reference × Reference) → IsIn p (pairs refs) → IsIn p.0 refs
source_there refs p i =
    let r = in_flat (λ (source : Reference). map (λ (sink : Reference). (source, sink)) (filter (is_pair source) refs)) refs p i in
    let q = in_mapped (λ (sink : Reference). (r.0, sink)) p (filter (is_pair r.0) refs) r.2 in
    subst (λ (a : Reference). IsIn a refs) (sym (ap (λ (z : Reference × Reference). z.0) q.2)) r.1

-- where the program has no C$PED REJECT, no dependence of the one with the one DO is rejected
pub unrejected_fused : (t : ProgramTree) (s : ℕ) (data_bytes : List ℕ) → some_rejection t.body ≡ false → IsTrueFused s t data_bytes
unrejected_fused t s data_bytes plain m edges are a b x c =
    let u = fused m.neighbour in
    pairs_unrejected u (filter (goes_back m.neighbour) (pairs (references u))) edges (fused_unrejected m.neighbour plain)
    (λ p i. source_there (references u) p (from_filter (goes_back m.neighbour) p (pairs (references u)) i)) are c.0.edge c.0.listed

module _ (t : ProgramTree) (s : ℕ) (m : Match t s) (f : IsFusable t s m) (data_bytes : List ℕ) (alike : referred (run_of t data_bytes).acts ≡ referred (run_of (renamed m.neighbour) data_bytes).acts) (holds : IsTrueFused s t data_bytes) where
  abbrev n : Neighbour t s
  n = m.neighbour

  abbrev u : ProgramTree
  u = fused m.neighbour

  may : MayFuse t s m
  may = may_fuse t s m f

  -- accesses that cross in the run of the program in which both have one variable cross in the run of the program, too
  module _ (ends : Ends (run_of (renamed m.neighbour) data_bytes).ending) (scope : Scope) (a b : Access) (c : CrossBetween m.neighbour data_bytes scope a b) where
    abbrev pair : List Act
    pair = (run_all (setting_of (renamed m.neighbour)) (renamed_pair m.neighbour) s scope c.store).acts

    come : (y : Access) → IsIn y (accesses pair) → 0 < y.reference → IsIn y (accesses (run_of t data_bytes).acts)
    come y i by_one =
        let g = act_of_access y pair i in
        let there : IsIn g.0 (run_of (renamed m.neighbour) data_bytes).acts = subst (IsIn g.0) (sym c.executed.whole) (in_right g.0 c.front (pair ++ c.behind) (in_left g.0 pair c.behind g.1)) in
        let found = accesses_in (run_of (renamed m.neighbour) data_bytes).acts g.0 y there g.2 in
        kept_in (accesses (run_of t data_bytes).acts) y (subst (IsIn y) (sym alike) (in_kept (accesses (run_of (renamed m.neighbour) data_bytes).acts) y found by_one))

    abbrev crossing : Cross n data_bytes a b
    crossing = record {
      source = come a c.source c.source_reference;
      sink = come b c.sink c.sink_reference;
      source_reference = c.source_reference;
      sink_reference = c.sink_reference;
      conflicts = c.conflicts;
      round = turns_of scope;
      j = c.j;
      js = c.js;
      i = c.i;
      is = c.is;
      at_source = c.at_source;
      at_sink = c.at_sink;
      of_source = c.of_source;
      of_sink = c.of_sink;
      earlier = c.earlier;
    }

    -- but then a dependence that isn't rejected forbids the step
    none_cross : ⊥
    none_cross =
        pairs_have u (filter (goes_back n) (pairs (references u)))
        (λ edges are.
        let k = crossing_back t s m may (initial_alike t s m may) data_bytes ends scope a b c edges are in
        let e : Edge = k.0.0.edge in
        let mark : is_rejected e.mark ≡ false = not_rejected e.mark (holds m edges are a b crossing k.0) in
        let none : carried u s e ≡ false = each_of (λ (z : Edge). forbids_fusion n z ≡ false) edges e (f.unforbidden edges are) k.0.0.listed in
        let yes : carried u s e ≡ true = (λ z. k.1 z && not (mark z)) in
        both_ways (carried u s e) none yes)

  pub none_crosses : NoneCrosses m.neighbour data_bytes
  none_crosses ends scope front behind v executed goes first next i j from less to within =
      uncrossed t s m may (setting_alike t s m may) data_bytes scope front behind v executed goes first next (initial_alike t s m may data_bytes ends scope front behind v executed goes first next) i j from less to within
      (λ a b c. none_cross ends scope a b c)
