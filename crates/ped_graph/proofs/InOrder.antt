-- The keys of pairs ascend, so that a search finds the one pair with a key. Each pair has a view.
use Rattle.std.proofs.Common.{◌≡◌, ◌⊎◌, inl, inr, ℕ, ◌<◌, ◌≤◌, ◌+◌, List, map, length, Some, ap, sym, ◌∙◌, subst, arith}
use Rattle.std.specs.Prelude.{slice_get, slice_index_or}
use Rattle.std.proofs.lemmas.Option.{slice_get_within, get_or_from_slice_get}
use Rattle.ped_tree.specs.Tree.{ProgramTree}
use Rattle.ped_refs.specs.References.{references, pairs}
use Rattle.ped_refs.specs.TextPlaces.{IsBefore, Key, IsKeyBefore}
use Rattle.ped_refs.proofs.Ascending.{PairPrecedes, ascending_pairs, ascending_mapped, pairs_ascend}
use Rattle.ped_graph.specs.Dependences.{facts_of, view_of}
use Rattle.ped_graph.specs.Held.{Framed, Held, framed, frame_of, held_of}
use Rattle.ped_graph.specs.Keys.{key_of, AreInOrder, IsOnlyAt}
use Rattle.ped_graph.proofs.Slices.{some_is, get_there, length_mapped, mapped_there, mapped_at}

-- the pairs of a program are in order
pub frame_in_order : (t : ProgramTree) → AreInOrder (frame_of t).pairs
frame_in_order t =
    ascending_pairs (λ (p q : Framed). IsKeyBefore (key_of p) (key_of q)) (frame_of t).pairs
    (ascending_mapped (λ p. framed (facts_of t) p.0 p.1) PairPrecedes (λ (p q : Framed). IsKeyBefore (key_of p) (key_of q)) (λ x y h. h) (pairs (references t)) (pairs_ascend t))

before_before : (a b c : ℕ × ℕ) → IsBefore a b → IsBefore b c → IsBefore a c
before_before a b c (inl h) (inl k) = inl (omega (arith, h, k))
before_before a b c (inl h) (inr k) = let e = k.0 in inl (omega (arith, h, e))
before_before a b c (inr h) (inl k) = let e = h.0 in inl (omega (arith, k, e))
before_before a b c (inr h) (inr k) = let e = h.0 in let f = k.0 in let l = h.1 in let m = k.1 in inr (omega (arith, e, f), omega (arith, l, m))

never_before : (a : ℕ × ℕ) → IsBefore a a → ⊥
never_before a (inl h) = omega (arith, h)
never_before a (inr h) = let l = h.1 in omega (arith, l)

-- keys that come one before the other
pub key_before : (a b c : Key) → IsKeyBefore a b → IsKeyBefore b c → IsKeyBefore a c
key_before a b c (inl h) (inl k) = inl (before_before a.0 b.0 c.0 h k)
key_before a b c (inl h) (inr k) = inl (subst (λ x. IsBefore a.0 x) k.0 h)
key_before a b c (inr h) (inl k) = inl (subst (λ x. IsBefore x c.0) (sym h.0) k)
key_before a b c (inr h) (inr k) = inr (h.0 ∙ k.0, before_before a.1 b.1 c.1 h.1 k.1)

pub key_never_before : (a : Key) → IsKeyBefore a a → ⊥
key_never_before a (inl h) = never_before a.0 h
key_never_before a (inr h) = never_before a.1 h.1

-- the key at a lesser place comes before that at a greater one
pub lesser_before : (fs : List Framed) → AreInOrder fs → (m n : ℕ) (f g : Framed) → slice_get fs m ≡ Some f → slice_get fs n ≡ Some g → m < n → IsKeyBefore (key_of f) (key_of g)
lesser_before fs order m n f g e k less =
    let below : n < length fs = slice_get_within fs n g k in
    subst (λ (x : Framed). IsKeyBefore (key_of x) (key_of g)) (get_or_from_slice_get fs m f g e)
    (subst (λ (x : Framed). IsKeyBefore (key_of (slice_index_or fs m g)) (key_of x)) (get_or_from_slice_get fs n g g k) (order m n g less below))

-- a key stands at one place
pub one_place : (fs : List Framed) → AreInOrder fs → (m n : ℕ) (f g : Framed) → slice_get fs m ≡ Some f → slice_get fs n ≡ Some g → key_of f ≡ key_of g → m ≡ n
one_place fs order m n f g e k same = go (which m n)
  where
    which : (a b : ℕ) → (a < b) ⊎ ((b < a) ⊎ (a ≡ b))
    which a b = grind arith

    go : (m < n) ⊎ ((n < m) ⊎ (m ≡ n)) → m ≡ n
    go (inl less) = absurd (key_never_before (key_of g) (subst (λ (x : Key). IsKeyBefore x (key_of g)) same (lesser_before fs order m n f g e k less)))
    go (inr (inl less)) = absurd (key_never_before (key_of g) (subst (λ (x : Key). IsKeyBefore (key_of g) x) same (lesser_before fs order n m g f k e less)))
    go (inr (inr is)) = is

module _ {X : Type 0} (f : X → Framed) (xs : List X) (order : AreInOrder (map f xs)) (key : Key) where
  abbrev keys : List Key
  keys = map (λ x. key_of (f x)) xs

  which : (a b : ℕ) → (a < b) ⊎ ((b < a) ⊎ (a ≡ b))
  which a b = grind arith

  -- where an item comes before the key, all up to it do
  pub up_to : (middle : ℕ) (x : X) → slice_get xs middle ≡ Some x → IsKeyBefore (key_of (f x)) key → (n : ℕ) (k : Key) → slice_get keys n ≡ Some k → n < middle + 1 → IsKeyBefore k key
  up_to middle x at before n k e less =
      let y = mapped_there (λ z. key_of (f z)) xs n k e in go y (which n middle)
    where
      go : (y : (z : X) × (slice_get xs n ≡ Some z) × (key_of (f z) ≡ k)) → (n < middle) ⊎ ((middle < n) ⊎ (n ≡ middle)) → IsKeyBefore k key
      go y (inl h) =
          key_before k (key_of (f x)) key
          (subst (λ (a : Key). IsKeyBefore a (key_of (f x))) y.2 (lesser_before (map f xs) order n middle (f y.0) (f x) (mapped_at f xs n y.0 y.1) (mapped_at f xs middle x at) h)) before
      go y (inr (inl h)) = absurd (omega (arith, h, less))
      go y (inr (inr h)) = subst (λ (a : Key). IsKeyBefore a key) (ap (λ z. key_of (f z)) (some_is x y.0 (sym at ∙ ap (λ (i : ℕ). slice_get xs i) (sym h) ∙ y.1)) ∙ y.2) before

  -- where an item doesn't come before the key, none from it on does
  pub from_on : (middle : ℕ) (x : X) → slice_get xs middle ≡ Some x → (IsKeyBefore (key_of (f x)) key → ⊥) → (n : ℕ) (k : Key) → slice_get keys n ≡ Some k → middle ≤ n → IsKeyBefore k key → ⊥
  from_on middle x at never n k e more before =
      let y = mapped_there (λ z. key_of (f z)) xs n k e in go y (which n middle)
    where
      go : (y : (z : X) × (slice_get xs n ≡ Some z) × (key_of (f z) ≡ k)) → (n < middle) ⊎ ((middle < n) ⊎ (n ≡ middle)) → ⊥
      go y (inl h) = omega (arith, h, more)
      go y (inr (inl h)) =
          never (key_before (key_of (f x)) k key
          (subst (λ (a : Key). IsKeyBefore (key_of (f x)) a) y.2 (lesser_before (map f xs) order middle n (f x) (f y.0) (mapped_at f xs middle x at) (mapped_at f xs n y.0 y.1) h)) before)
      go y (inr (inr h)) = never (subst (λ (a : Key). IsKeyBefore a key) (sym (ap (λ z. key_of (f z)) (some_is x y.0 (sym at ∙ ap (λ (i : ℕ). slice_get xs i) (sym h) ∙ y.1)) ∙ y.2)) before)

  -- a key that is found stands there alone
  pub alone : (place : ℕ) (x : X) → slice_get xs place ≡ Some x → key_of (f x) ≡ key → IsOnlyAt (map key_of (map f xs)) key place
  alone place x at is = record {
    found = mapped_at key_of (map f xs) place (f x) (mapped_at f xs place x at) ∙ ap Some is;
    only = λ m e.
        let y = mapped_there key_of (map f xs) m key e in
        one_place (map f xs) order m place y.0 (f x) y.1 (mapped_at f xs place x at) (y.2 ∙ sym is);
  }

  -- a key that isn't at its place is nowhere
  pub nowhere : (place : ℕ) → ((n : ℕ) (k : Key) → slice_get keys n ≡ Some k → n < place → IsKeyBefore k key) → ((n : ℕ) (k : Key) → slice_get keys n ≡ Some k → place ≤ n → IsKeyBefore k key → ⊥)
      → ((x : X) → slice_get xs place ≡ Some x → key_of (f x) ≡ key → ⊥) → (n : ℕ) → slice_get (map key_of (map f xs)) n ≡ Some key → ⊥
  nowhere place before behind not_there n e =
      let y = mapped_there key_of (map f xs) n key e in
      let z = mapped_there f xs n y.0 y.1 in
      go z.0 z.1 (ap key_of z.2 ∙ y.2) (which n place)
    where
      go : (z : X) → slice_get xs n ≡ Some z → key_of (f z) ≡ key → (n < place) ⊎ ((place < n) ⊎ (n ≡ place)) → ⊥
      go z at is (inl h) = key_never_before key (before n key (mapped_at (λ w. key_of (f w)) xs n z at ∙ ap Some is) h)
      go z at is (inr (inl h)) =
          let below : place < length xs = (let w = slice_get_within xs n z at in omega (arith, w, h)) in
          let x = slice_index_or xs place z in
          let there = get_there xs place z below in
          behind place (key_of (f x)) (mapped_at (λ w. key_of (f w)) xs place x there) (omega arith)
          (subst (λ (a : Key). IsKeyBefore (key_of (f x)) a) is (lesser_before (map f xs) order place n (f x) (f z) (mapped_at f xs place x there) (mapped_at f xs n z at) h))
      go z at is (inr (inr h)) = not_there z (ap (λ (i : ℕ). slice_get xs i) (sym h) ∙ at) is

-- a program has as many views as pairs
pub paired_views : (t : ProgramTree) (h : Held) → h ≡ held_of t → length h.views ≡ length h.frame.pairs
paired_views t h is =
    ap (λ (k : Held). length k.views) is ∙ length_mapped (λ p. view_of t p.0 p.1) (pairs (references t))
    ∙ sym (length_mapped (λ p. framed (facts_of t) p.0 p.1) (pairs (references t))) ∙ sym (ap (λ (k : Held). length k.frame.pairs) is)
