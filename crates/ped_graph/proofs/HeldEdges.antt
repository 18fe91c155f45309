-- The dependences that a graph holds of a program are the program's.
use Rattle.std.proofs.Common.{◌≡◌, ℕ, zero, suc, ◌+◌, ◌≤◌, List, [], ◌∷◌, ◌++◌, map, length, drop, refl, sym, ap, subst, ◌∙◌, Bool, true, false, Some, None, if◌then◌else◌, append_assoc, slice_get, arith}
use Rattle.std.proofs.lemmas.List.{append-nil, drop_all}
use Rattle.std.specs.List.{flat_map, range_with_len}
use Rattle.ped_views.specs.declared.directions.Direction.{Direction}
use Rattle.ped_views.specs.Views.{View}
use Rattle.ped_tree.specs.Tree.{ProgramTree}
use Rattle.ped_refs.specs.References.{Reference, references, pairs}
use Rattle.ped_edges.specs.Edges.{Edge}
use Rattle.ped_graph.specs.Owners.{have_same_owner, owner_level, within_iteration}
use Rattle.ped_graph.specs.Dependences.{Facts, facts_of, view_of, edge_at, vectors_of, independent_edge, divided, edges_by, PairEdges, EdgesOfPairs, AreEdges}
use Rattle.ped_graph.specs.Held.{Framed, Pair, Held, framed, held_of, pair_by, pair_with, pair_of, pairs_by, held_pairs, held_by, held_edge, held_edges}
use Rattle.ped_graph.specs.HeldPairs.{held_carried, HeldPairEdges, AreHeldEdges}

-- one more number of a range
flat_more : {X : Type 0} (f : ℕ → List X) (a n : ℕ) → flat_map f (range_with_len a (suc n)) ≡ flat_map f (range_with_len a n) ++ f (a + n)
flat_more f a zero = let e : a ≡ a + zero = omega arith in append-nil (f a) ∙ ap f e
flat_more f a (suc n) =
    let e : a + 1 + n ≡ a + suc n = omega arith in
    ap (λ (ys : List _). f a ++ ys) (flat_more f (a + 1) n)
    ∙ sym (append_assoc (f a) (flat_map f (range_with_len (a + 1) n)) (f (a + 1 + n)))
    ∙ ap (λ (k : ℕ). flat_map f (range_with_len a (suc n)) ++ f k) e

-- the dependences that one more loop carries
carried_more : (p : Pair) (vectors : List (List Direction)) (n : ℕ)
    → held_carried p vectors (n + 1) ≡ held_carried p vectors n ++ held_edge p (Some (n + 1)) (vectors_of (Some (n + 1)) vectors)
carried_more p vectors n =
    let e : n + 1 ≡ suc n = omega arith in
    let k : 1 + n ≡ n + 1 = omega arith in
    ap (λ (m : ℕ). held_carried p vectors m) e
    ∙ flat_more (λ level. held_edge p (Some level) (vectors_of (Some level) vectors)) 1 n
    ∙ ap (λ (m : ℕ). held_carried p vectors n ++ held_edge p (Some m) (vectors_of (Some m) vectors)) k

-- the dependences of one more level behind those so far
pub carried_pushed : (p : Pair) (vectors : List (List Direction)) (n : ℕ) (old now new : List Edge) → now ≡ old ++ held_carried p vectors n
    → new ≡ now ++ held_edge p (Some (n + 1)) (vectors_of (Some (n + 1)) vectors) → new ≡ old ++ held_carried p vectors (n + 1)
carried_pushed p vectors n old now new before pushed =
    let more = held_edge p (Some (n + 1)) (vectors_of (Some (n + 1)) vectors) in
    let e : new ≡ (old ++ held_carried p vectors n) ++ more = pushed ∙ ap (λ (es : List Edge). es ++ more) before in
    let f : (old ++ held_carried p vectors n) ++ more ≡ old ++ held_carried p vectors (n + 1) =
    append_assoc old (held_carried p vectors n) more ∙ ap (λ (es : List Edge). old ++ es) (sym (carried_more p vectors n)) in
    e ∙ f

-- the dependences that so many loops carry
abbrev carried_by : Facts → Reference → Reference → View → List (List Direction) → ℕ → List Edge
carried_by F a b v vectors n = flat_map (λ level. edge_at F a b v (Some level) (vectors_of (Some level) vectors)) (range_with_len 1 n)

-- a pair's rejecting levels are six, and no more loops carry its dependences
same_carried : (F : Facts) (a b : Reference) (v : View) (vectors : List (List Direction)) (n : ℕ) → n ≤ 6 → held_carried (pair_with F a b v) vectors n ≡ carried_by F a b v vectors n
same_carried F a b v vectors zero few = refl
same_carried F a b v vectors (suc zero) few = refl
same_carried F a b v vectors (suc (suc zero)) few = refl
same_carried F a b v vectors (suc (suc (suc zero))) few = refl
same_carried F a b v vectors (suc (suc (suc (suc zero)))) few = refl
same_carried F a b v vectors (suc (suc (suc (suc (suc zero))))) few = refl
same_carried F a b v vectors (suc (suc (suc (suc (suc (suc zero)))))) few = refl
same_carried F a b v vectors (suc (suc (suc (suc (suc (suc (suc n))))))) few = absurd (omega (arith, few))

-- the same dependences, whether both references mean the same private copies or not
by_owner : (F : Facts) (a b : Reference) (v : View) (vectors : List (List Direction)) → length v.loops ≤ 6 → (same : Bool)
    → held_by (if same then Some (owner_level a) else None) (pair_with F a b v) vectors
    ≡ (if same then divided F a b v (within_iteration (owner_level a) vectors) else [])
by_owner F a b v vectors few true = ap (λ (es : List Edge). es ++ independent_edge F a b v (within_iteration (owner_level a) vectors)) (same_carried F a b v (within_iteration (owner_level a) vectors) (length v.loops) few)
by_owner F a b v vectors few false = refl

-- the dependences of what is held of a pair are those of the pair
pub held_edges_are : (F : Facts) (a b : Reference) (v : View) (vectors : List (List Direction)) → length v.loops ≤ 6 → held_edges (pair_with F a b v) vectors ≡ edges_by F a b v vectors
held_edges_are F a b v vectors few = by_owner F a b v vectors few (have_same_owner a b)

-- the same of a pair of a program
pub pair_edges : (t : ProgramTree) (a b : Reference) (edges : List Edge) → HeldPairEdges (pair_of t (a, b)) edges → PairEdges t a b edges
pair_edges t a b edges h = record {
  vectors = h.vectors;
  possible = h.possible;
  divided = h.divided ∙ held_edges_are (facts_of t) a b (view_of t a b) h.vectors h.few;
}

-- the same of pairs
pub edges_of_pairs : (t : ProgramTree) (ps : List (Reference × Reference)) (edges : List Edge) → AreHeldEdges (map (pair_of t) ps) edges → EdgesOfPairs t ps edges
edges_of_pairs t [] edges h = h
edges_of_pairs t (p ∷ ps) edges h = (h.0, h.1, h.2, pair_edges t p.0 p.1 h.0 h.3, edges_of_pairs t ps h.1 h.4)

-- the dependences so far, and those of the pairs ahead of place i, are all
abbrev pub AreAhead : List Pair → ℕ → List Edge → Type 0
AreAhead ps i found = (rest : List Edge) → AreHeldEdges (drop i ps) rest → AreHeldEdges ps (found ++ rest)

pub none_found : (ps : List Pair) → AreAhead ps 0 []
none_found ps rest h = h

pub one_found : (ps : List Pair) (i : ℕ) (found first : List Edge) (p : Pair) → drop i ps ≡ p ∷ drop (i + 1) ps → HeldPairEdges p first → AreAhead ps i found → AreAhead ps (i + 1) (found ++ first)
one_found ps i found first p next held ahead rest h =
    subst (λ (es : List Edge). AreHeldEdges ps es) (sym (append_assoc found first rest)) (ahead (first ++ rest) (subst (λ (qs : List Pair). AreHeldEdges qs (first ++ rest)) (sym next) (first, rest, refl, held, h)))

pub all_found : (ps : List Pair) (i : ℕ) (found : List Edge) → length ps ≤ i → AreAhead ps i found → AreHeldEdges ps found
all_found ps i found past ahead =
    subst (λ (es : List Edge). AreHeldEdges ps es) (append-nil found) (ahead [] (subst (λ (qs : List Pair). AreHeldEdges qs []) (sym (drop_all i ps past)) refl))

-- the next of pairs with their views
pub next_pair : (fs : List Framed) (vs : List View) (i : ℕ) (f : Framed) (v : View) → slice_get fs i ≡ Some f → slice_get vs i ≡ Some v → drop i (pairs_by fs vs) ≡ pair_by f v ∷ drop (suc i) (pairs_by fs vs)
next_pair [] vs i f v e k = cc
next_pair (g ∷ fs) [] i f v e k = cc
next_pair (g ∷ fs) (w ∷ vs) zero f v e k = let same : g ≡ f = cc in let alike : w ≡ v = cc in λ i. pair_by (same i) (alike i) ∷ pairs_by fs vs
next_pair (g ∷ fs) (w ∷ vs) (suc i) f v e k = next_pair fs vs i f v e k

-- no more pairs with their views than pairs
pub few_pairs : (fs : List Framed) (vs : List View) → length (pairs_by fs vs) ≤ length fs
few_pairs [] vs = omega arith
few_pairs (f ∷ fs) [] = omega arith
few_pairs (f ∷ fs) (v ∷ vs) = let rest = few_pairs fs vs in omega (arith, rest)

-- pairs and their views, both made of the same
pub pairs_mapped : {X : Type 0} (f : X → Framed) (g : X → View) (xs : List X) → pairs_by (map f xs) (map g xs) ≡ map (λ x. pair_by (f x) (g x)) xs
pairs_mapped f g [] = refl
pairs_mapped f g (x ∷ xs) = ap (λ (ps : List Pair). pair_by (f x) (g x) ∷ ps) (pairs_mapped f g xs)

-- what the graph of a program holds of its pairs
pub held_pairs_of : (t : ProgramTree) → held_pairs (held_of t) ≡ map (pair_of t) (pairs (references t))
held_pairs_of t = pairs_mapped (λ p. framed (facts_of t) p.0 p.1) (λ p. view_of t p.0 p.1) (pairs (references t))

-- what a graph holds of a program has the program's dependences
pub program_edges : (t : ProgramTree) (h : Held) (ps : List Pair) (edges : List Edge) → ps ≡ held_pairs h → h ≡ held_of t → AreHeldEdges ps edges → AreEdges t edges
program_edges t h ps edges same is these =
    edges_of_pairs t (pairs (references t)) edges (subst (λ (xs : List Pair). AreHeldEdges xs edges) (same ∙ ap held_pairs is ∙ held_pairs_of t) these)
