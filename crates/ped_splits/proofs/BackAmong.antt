-- The first dependence that leads back, found pair by pair.
use Rattle.std.proofs.Common.{◌≡◌, ℕ, zero, suc, ◌+◌, ◌<◌, nat_le, nat_lt, List, [], ◌∷◌, ◌++◌, map, filter, cond, length, take, drop, get_or, All, Bool, true, false, ◌&&◌, Option, Some, None, refl, sym, ap, subst, ◌∙◌, arith}
use Rattle.std.specs.Prelude.{slice_get}
use Rattle.std.proofs.lemmas.Bool.{ltb-true}
use Rattle.std.proofs.lemmas.Option.{slice_get-get_or}
use Rattle.std.proofs.lemmas.List.{append_assoc, append-nil, length-map, take_more, take-append-drop}
use Rattle.std.proofs.lemmas.List.Elements.{All-nil, All-cons, All-head, All-tail, All-append, All-filter}
use Rattle.ped_tree.specs.Tree.{ProgramTree}
use Rattle.ped_rules.specs.ped_steps.specs.Causes.{IsFirstForbidding}
use Rattle.ped_refs.specs.References.{Reference, references, pairs}
use Rattle.ped_rules.specs.ped_graph.specs.Dependences.{PairEdges, EdgesOfPairs, facts_of, place_of, view_of}
use Rattle.ped_rules.specs.ped_graph.specs.Held.{Held, framed, held_of}
use Rattle.ped_rules.specs.ped_graph.specs.Keys.{key_of, key_shown}
use Rattle.ped_rules.specs.ped_graph.specs.declared.frames.PairKey.{PairKey}
use Rattle.ped_edges.specs.Edges.{Edge}
use Rattle.ped_edges.specs.CodeEdges.{edge_of, HasAtMostSixLoops}
use Rattle.ped_edges.specs.declared.edges.Edge.{Edge as CodeEdge}
use Rattle.ped_rules.specs.ped_graph.proofs.OnePane.{one_pair_edges}
use Rattle.ped_splits.specs.declared.returning.Bodies.{Bodies}
use Rattle.ped_splits.specs.Fusing.{with_present_numbers}
use Rattle.ped_splits.specs.CodeFusing.{is_back, key_is_back, forbids_at, StandsInside, IsFirstAmong, IsFirstBack}
use Rattle.ped_splits.proofs.SameTrees.{both_of}
use Rattle.ped_splits.proofs.EdgePlaces.{IsBetween, all_between}
use Rattle.ped_splits.proofs.Existence.Edges.{edges_of_pairs}

-- one more item, kept or not
kept_mapped : {X Y : Type 0} (f : X → Y) (x : X) (xs : List X) (ys : List Y) (keeps : Bool) → map f xs ≡ ys → map f (cond keeps (x ∷ xs) xs) ≡ cond keeps (f x ∷ ys) ys
kept_mapped f x xs ys true e = ap (λ (zs : List _). f x ∷ zs) e
kept_mapped f x xs ys false e = e

-- to keep items by what they stand for is to keep what they stand for
filter_mapped : {X Y : Type 0} (f : X → Y) (p : Y → Bool) (xs : List X) → map f (filter (λ x. p (f x)) xs) ≡ filter p (map f xs)
filter_mapped f p [] = refl
filter_mapped f p (x ∷ xs) = kept_mapped f x (filter (λ y. p (f y)) xs) (filter p (map f xs)) (p (f x)) (filter_mapped f p xs)

module _ (test : Edge → Bool) where
  head_is : (e f : Edge) (es fs : List Edge) → e ∷ es ≡ f ∷ fs → e ≡ f
  head_is e f es fs h = cc

  nothing_first : (e : Edge) (es : List Edge) → ◌≡◌ {A = List Edge} [] (e ∷ es) → ⊥
  nothing_first e es h = cc

  first_by : (all : List Edge) (e : Edge) (rest : List Edge) → filter test all ≡ e ∷ rest → IsFirstForbidding test all e
  first_by [] e rest h = absurd (nothing_first e rest h)
  first_by (a ∷ all) e rest h = by (test a) refl (first_by all e rest)
    where
      by : (b : Bool) → test a ≡ b → (filter test all ≡ e ∷ rest → IsFirstForbidding test all e) → IsFirstForbidding test (a ∷ all) e
      by true is next =
          let here : a ∷ filter test all ≡ e ∷ rest = sym (ap (λ (b : Bool). cond b (a ∷ filter test all) (filter test all)) is) ∙ h in
          subst (λ (z : Edge). IsFirstForbidding test (a ∷ all) z) (head_is a e (filter test all) rest here) ([], all, refl, is, All-nil (λ f. test f ≡ false))
      by false is next =
          let behind = next (sym (ap (λ (b : Bool). cond b (a ∷ filter test all) (filter test all)) is) ∙ h) in
          (a ∷ behind.0, behind.1, ap (λ (es : List Edge). a ∷ es) behind.2, behind.3, All-cons (λ f. test f ≡ false) a behind.0 is behind.4)

  none_by : (all : List Edge) → filter test all ≡ [] → All (λ e. test e ≡ false) all
  none_by [] h = All-nil (λ f. test f ≡ false)
  none_by (a ∷ all) h = by (test a) refl (none_by all)
    where
      by : (b : Bool) → test a ≡ b → (filter test all ≡ [] → All (λ e. test e ≡ false) all) → All (λ e. test e ≡ false) (a ∷ all)
      by true is next = absurd (nothing_first a (filter test all) (sym h ∙ ap (λ (b : Bool). cond b (a ∷ filter test all) (filter test all)) is))
      by false is next = All-cons (λ f. test f ≡ false) a all is (next (sym (ap (λ (b : Bool). cond b (a ∷ filter test all) (filter test all)) is) ∙ h))

-- what the code has kept of a pair's dependences
module _ (b : Bodies) (found kept : List CodeEdge) (is : kept ≡ filter (λ e. forbids_at b.level (edge_of e)) found) where
  shown : map edge_of kept ≡ filter (forbids_at b.level) (map edge_of found)
  shown = ap (λ (es : List CodeEdge). map edge_of es) is ∙ filter_mapped edge_of (forbids_at b.level) found

  pub kept_none : kept ≡ [] → IsFirstAmong b (map edge_of found) None
  kept_none none = none_by (forbids_at b.level) (map edge_of found) (sym shown ∙ ap (λ (es : List CodeEdge). map edge_of es) none)

  module _ (e : CodeEdge) (rest : List CodeEdge) (first : kept ≡ e ∷ rest) where
    kept_first : IsFirstForbidding (forbids_at b.level) (map edge_of found) (edge_of e)
    kept_first = first_by (forbids_at b.level) (map edge_of found) (edge_of e) (map edge_of rest) (sym shown ∙ ap (λ (es : List CodeEdge). map edge_of es) first)

    -- what all have, the first that is kept has
    pub kept_has : (P : CodeEdge → Type 0) → All P found → P e
    kept_has P all = All-head P e rest (subst (λ (es : List CodeEdge). All P es) (sym is ∙ first) (All-filter (λ e. forbids_at b.level (edge_of e)) P found all))

    pub kept_some : (f : CodeEdge) → edge_of f ≡ with_present_numbers b.second (edge_of e) → HasAtMostSixLoops f → IsFirstAmong b (map edge_of found) (Some f)
    kept_some f same short = (edge_of e, kept_first, same, short)

-- what stands at a place, and the list up to it and behind it
pub there : {X : Type 0} (xs : List X) (n : ℕ) → n < length xs → (x : X) × (slice_get xs n ≡ Some x) × (take (n + 1) xs ≡ take n xs ++ x ∷ []) × (take (n + 1) xs ++ drop (n + 1) xs ≡ xs)
there [] n h = absurd (omega (arith, h))
there (d ∷ xs) n h = (get_or (d ∷ xs) n d, slice_get-get_or (d ∷ xs) n d h, take_more (d ∷ xs) n d h, take-append-drop (n + 1) (d ∷ xs))

module _ (u : ProgramTree) (b : Bodies) where
  abbrev Of : List (Reference × Reference) → List Edge → Type 0
  Of ps edges = EdgesOfPairs u (filter (is_back b) ps) edges

  -- dependences of two lists of pairs, one behind the other
  parted : (ps qs : List (Reference × Reference)) (edges : List Edge) → EdgesOfPairs u (ps ++ qs) edges → (first : List Edge) × (rest : List Edge) × (edges ≡ first ++ rest) × EdgesOfPairs u ps first × EdgesOfPairs u qs rest
  parted [] qs edges are = ([], edges, refl, refl, are)
  parted (p ∷ ps) qs edges (first, rest, is, pair, others) =
      let q = parted ps qs rest others in
      (first ++ q.0, q.1, is ∙ ap (λ (es : List Edge). first ++ es) q.2 ∙ sym (append_assoc first q.0 q.1), (first, q.0, refl, pair, q.3), q.4)

  put : (ps qs : List (Reference × Reference)) (first rest : List Edge) → EdgesOfPairs u ps first → EdgesOfPairs u qs rest → EdgesOfPairs u (ps ++ qs) (first ++ rest)
  put [] qs first rest none are = subst (λ (es : List Edge). EdgesOfPairs u qs (es ++ rest)) (sym none) are
  put (p ∷ ps) qs first rest (mine, others, is, pair, more) are =
      (mine, others ++ rest, ap (λ (es : List Edge). es ++ rest) is ∙ append_assoc mine others rest, pair, put ps qs others rest more are)

  filter_append : (ps qs : List (Reference × Reference)) → filter (is_back b) (ps ++ qs) ≡ filter (is_back b) ps ++ filter (is_back b) qs
  filter_append [] qs = refl
  filter_append (p ∷ ps) qs = by (is_back b p) (filter_append ps qs)
    where
      by : (r : Bool) → filter (is_back b) (ps ++ qs) ≡ filter (is_back b) ps ++ filter (is_back b) qs
          → cond r (p ∷ filter (is_back b) (ps ++ qs)) (filter (is_back b) (ps ++ qs)) ≡ cond r (p ∷ filter (is_back b) ps) (filter (is_back b) ps) ++ filter (is_back b) qs
      by true h = ap (λ (xs : List (Reference × Reference)). p ∷ xs) h
      by false h = h

  -- none among more pairs
  pub none_more : (ps qs : List (Reference × Reference)) → IsFirstBack u b ps None → IsFirstBack u b qs None → IsFirstBack u b (ps ++ qs) None
  none_more ps qs h k edges are =
      let q = parted (filter (is_back b) ps) (filter (is_back b) qs) edges (subst (λ (xs : List (Reference × Reference)). EdgesOfPairs u xs edges) (filter_append ps qs) are) in
      subst (λ (es : List Edge). All (λ e. forbids_at b.level e ≡ false) es) (sym q.2) (All-append (λ e. forbids_at b.level e ≡ false) q.0 q.1 (h q.0 q.3) (k q.1 q.4))

  -- the first one stands behind pairs that have none, and before any others
  pub some_behind : (ps qs : List (Reference × Reference)) (f : CodeEdge) → IsFirstBack u b ps None → IsFirstBack u b qs (Some f) → IsFirstBack u b (ps ++ qs) (Some f)
  some_behind ps qs f h (edges, are, (e, (front, behind, is, forbids, before), same, short)) =
      let early = edges_of_pairs u (filter (is_back b) ps) in (
        early.0 ++ edges,
        subst (λ (xs : List (Reference × Reference)). EdgesOfPairs u xs (early.0 ++ edges)) (sym (filter_append ps qs)) (put (filter (is_back b) ps) (filter (is_back b) qs) early.0 edges early.1 are),
        (
          e,
          (early.0 ++ front, behind, ap (λ (es : List Edge). early.0 ++ es) is ∙ sym (append_assoc early.0 front (e ∷ behind)), forbids, All-append (λ f. forbids_at b.level f ≡ false) early.0 front (h early.0 early.1) before),
          same,
          short,
        ),
      )

  pub some_before : (ps qs : List (Reference × Reference)) (f : CodeEdge) → IsFirstBack u b ps (Some f) → IsFirstBack u b (ps ++ qs) (Some f)
  some_before ps qs f (edges, are, (e, (front, behind, is, forbids, before), same, short)) =
      let late = edges_of_pairs u (filter (is_back b) qs) in (
        edges ++ late.0,
        subst (λ (xs : List (Reference × Reference)). EdgesOfPairs u xs (edges ++ late.0)) (sym (filter_append ps qs)) (put (filter (is_back b) ps) (filter (is_back b) qs) edges late.0 are late.1),
        (
          e,
          (front, behind ++ late.0, ap (λ (es : List Edge). es ++ late.0) is ∙ append_assoc front (e ∷ behind) late.0, forbids, before),
          same,
          short,
        ),
      )

  module _ (p : Reference × Reference) where
    -- a pair that doesn't go back has none
    pub not_back : is_back b p ≡ false → IsFirstBack u b (p ∷ []) None
    not_back other edges are =
        let none : edges ≡ [] = subst (λ (r : Bool). EdgesOfPairs u (cond r (p ∷ []) []) edges) other are in
        subst (λ (es : List Edge). All (λ e. forbids_at b.level e ≡ false) es) (sym none) (All-nil (λ e. forbids_at b.level e ≡ false))

    -- one that does has the first of its own
    pub of_pair : is_back b p ≡ true → (edges : List Edge) → PairEdges u p.0 p.1 edges → (r : Option CodeEdge) → IsFirstAmong b edges r → IsFirstBack u b (p ∷ []) r
    of_pair back edges pair None h = λ others are.
        let q : EdgesOfPairs u (p ∷ []) others = subst (λ (r : Bool). EdgesOfPairs u (cond r (p ∷ []) []) others) back are in
        let mine : others ≡ edges = q.2 ∙ ap (λ (es : List Edge). q.0 ++ es) q.4 ∙ append-nil q.0 ∙ one_pair_edges u p.0 p.1 q.0 edges q.3 pair in
        subst (λ (es : List Edge). All (λ e. forbids_at b.level e ≡ false) es) (sym mine) h
    of_pair back edges pair (Some f) h =
        (edges, subst (λ (r : Bool). EdgesOfPairs u (cond r (p ∷ []) []) edges) (sym back) (edges, [], sym (append-nil edges), pair, refl), h)

    -- its dependences stand before the end of the bodies
    pub edges_inside : is_back b p ≡ true → (found : List CodeEdge) → PairEdges u p.0 p.1 (map edge_of found) → All (StandsInside b) found
    edges_inside back found pair = each found (all_between u p.0 p.1 (map edge_of found) pair)
      where
        two : (nat_le b.second p.0.statement && nat_lt p.0.statement b.behind ≡ true) × (nat_lt b.number p.1.statement && nat_lt p.1.statement b.second ≡ true)
        two = both_of (nat_le b.second p.0.statement && nat_lt p.0.statement b.behind) (nat_lt b.number p.1.statement && nat_lt p.1.statement b.second) back

        source : p.0.statement < b.behind
        source = ltb-true p.0.statement b.behind (both_of (nat_le b.second p.0.statement) (nat_lt p.0.statement b.behind) two.0).1

        sink : p.1.statement < b.second
        sink = ltb-true p.1.statement b.second (both_of (nat_lt b.number p.1.statement) (nat_lt p.1.statement b.second) two.1).1

        each : (es : List CodeEdge) → All (IsBetween p.0 p.1) (map edge_of es) → All (StandsInside b) es
        each [] h = All-nil (StandsInside b)
        each (e ∷ es) h =
            let here = All-head (IsBetween p.0 p.1) (edge_of e) (map edge_of es) h in
            All-cons (StandsInside b) e es (record {
              source = subst (λ (k : ℕ). k < b.behind) (sym (ap (λ (z : ℕ × ℕ). z.0) here.from)) source;
              sink = subst (λ (k : ℕ). k < b.second) (sym (ap (λ (z : ℕ × ℕ). z.0) here.to)) sink;
            }) (each es (All-tail (IsBetween p.0 p.1) (edge_of e) (map edge_of es) h))

  -- one more pair
  module _ (ps : List (Reference × Reference)) (n : ℕ) (within : n < length ps) (early : IsFirstBack u b (take n ps) None) where
    pub still_none : ((p : Reference × Reference) → slice_get ps n ≡ Some p → IsFirstBack u b (p ∷ []) None) → IsFirstBack u b (take (n + 1) ps) None
    still_none one =
        let x = there ps n within in
        subst (λ (qs : List (Reference × Reference)). IsFirstBack u b qs None) (sym x.2) (none_more (take n ps) (x.0 ∷ []) early (one x.0 x.1))

    pub first_here : (f : CodeEdge) → ((p : Reference × Reference) → slice_get ps n ≡ Some p → IsFirstBack u b (p ∷ []) (Some f)) → IsFirstBack u b ps (Some f)
    first_here f one =
        let x = there ps n within in
        subst (λ (qs : List (Reference × Reference)). IsFirstBack u b qs (Some f)) x.3
        (some_before (take (n + 1) ps) (drop (n + 1) ps) f
        (subst (λ (qs : List (Reference × Reference)). IsFirstBack u b qs (Some f)) (sym x.2) (some_behind (take n ps) (x.0 ∷ []) f early (one x.0 x.1))))

-- how many pairs a graph holds
pub pairs_held : (u : ProgramTree) (h : Held) → h ≡ held_of u → length h.frame.pairs ≡ length (pairs (references u))
pairs_held u h is = ap (λ (k : Held). length k.frame.pairs) is ∙ length-map (pairs (references u)) (λ p. framed (facts_of u) p.0 p.1)

pub views_held : (u : ProgramTree) (h : Held) → h ≡ held_of u → length h.views ≡ length (pairs (references u))
views_held u h is = ap (λ (k : Held). length k.views) is ∙ length-map (pairs (references u)) (λ p. view_of u p.0 p.1)

-- the key of a pair
module _ (u : ProgramTree) (h : Held) (is : h ≡ held_of u) (n : ℕ) (p : Reference × Reference) (at : slice_get (pairs (references u)) n ≡ Some p) (b : Bodies) (k : PairKey)
    (key : slice_get (map key_of h.frame.pairs) n ≡ Some (key_shown k)) where
  keyed : (ps : List (Reference × Reference)) (m : ℕ) → slice_get ps m ≡ Some p → slice_get (map key_of (map (λ q. framed (facts_of u) q.0 q.1) ps)) m ≡ Some (place_of p.0, place_of p.1)
  keyed [] m e = absurd cc
  keyed (q ∷ ps) zero e = let same : q ≡ p = cc in ap (λ (r : Reference × Reference). Some (place_of r.0, place_of r.1)) same
  keyed (q ∷ ps) (suc m) e = keyed ps m e

  same_key : (place_of p.0, place_of p.1) ≡ key_shown k
  same_key = one_key (sym (keyed (pairs (references u)) n at) ∙ (ap (λ (g : Held). slice_get (map key_of g.frame.pairs) n) (sym is) ∙ key))
    where
      one_key : {x y : (ℕ × ℕ) × (ℕ × ℕ)} → Some x ≡ Some y → x ≡ y
      one_key e = cc

  less_is : (m n : ℕ) → nat_lt m n ≡ nat_le (m + 1) n
  less_is m n = grind (arith)

  pub key_back : key_is_back b k ≡ is_back b p
  key_back =
      sym (ap (λ (z : (ℕ × ℕ) × (ℕ × ℕ)). (nat_le b.second z.0.0 && nat_lt z.0.0 b.behind) && (nat_lt b.number z.1.0 && nat_lt z.1.0 b.second)) same_key
      ∙ ap (λ (c : Bool). (nat_le b.second k.source.0 && nat_lt k.source.0 b.behind) && (c && nat_lt k.sink.0 b.second)) (less_is b.number k.sink.0))
