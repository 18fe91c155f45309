use Rattle.std.proofs.Common.{◌≡◌, ◌<◌, ◌≤◌, ◌∙◌, ℕ, List, map, length, Bool, true, false, Some, slice_get, ap, sym, subst, arith}
use Rattle.ped_refs.specs.TextPlaces.{Key, IsKeyBefore}
use Rattle.ped_graph.specs.Held.{HeldFrame}
use Rattle.ped_graph.specs.CodeFacts.{framed_of}
use Rattle.ped_graph.specs.Keys.{key_of, key_shown, AreInOrder, IsOnlyAt}
use Rattle.ped_graph.specs.declared.facts.Facts.{Facts}
use Rattle.ped_graph.proofs.Slices.{item_there, within, some_is}
use Rattle.ped_graph.proofs.InOrder.{alone, nowhere}
use Rattle.ped_graph.proofs.frames.Frame.place_of.Goals as goal

-- no pair has the key, where the one at its place hasn't
no_place : (items given : List Facts) (pairs : HeldFrame) (key : Key) (place : ℕ) → given ≡ items → map framed_of items ≡ pairs.pairs → AreInOrder (map framed_of items)
    → ((n : ℕ) (k : Key) → slice_get (map (λ f. key_of (framed_of f)) given) n ≡ Some k → n < place → IsKeyBefore k key)
    → ((n : ℕ) (k : Key) → slice_get (map (λ f. key_of (framed_of f)) given) n ≡ Some k → place ≤ n → IsKeyBefore k key → ⊥)
    → ((x : Facts) → slice_get items place ≡ Some x → key_of (framed_of x) ≡ key → ⊥) → (n : ℕ) → slice_get (map key_of pairs.pairs) n ≡ Some key → ⊥
no_place items given pairs key place same shown order before behind missing n e =
    nowhere framed_of items order key place
    (subst (λ (xs : List Facts). (m : ℕ) (k : Key) → slice_get (map (λ f. key_of (framed_of f)) xs) m ≡ Some k → m < place → IsKeyBefore k key) same before)
    (subst (λ (xs : List Facts). (m : ℕ) (k : Key) → slice_get (map (λ f. key_of (framed_of f)) xs) m ≡ Some k → place ≤ m → IsKeyBefore k key → ⊥) same behind)
    missing n (ap (λ (ps : List _). slice_get (map key_of ps) n) shown ∙ e)

no_true : (t : Bool) → t ≡ false → t ≡ true → ⊥
no_true t e f = cc

pub returns-then-place-len : goal.returns-then-place-len
returns-then-place-len c =
    let items = c.self.inside.pairs.items in
    let found = c.count_before-place.ensures in
    let ok = c.self.inside.pairs.ok.0 in
    let len = c.len.ensures in
    let last = c.if-place-len.true in
    no_place items c.deref.result.now c.args.self.now (key_shown c.args.key.now) c.count_before-place.result c.deref.ensures.value (ap (λ (h : HeldFrame). h.pairs) c.self.view_is) c.self.invariant found.before found.behind
    (λ x at is. let less = within items c.count_before-place.result x at in omega (arith, less, last, len, ok))

pub returns-then-is_at : goal.returns-then-is_at
returns-then-is_at c =
    let items = c.self.inside.pairs.items in
    let place = c.count_before-place.result in
    let x = c.index.result.now in
    let many = ap (λ (xs : List Facts). length xs) c.deref.ensures.value in
    let few = c.count_before-place.ensures.within in
    let ok = c.self.inside.pairs.ok.0 in
    let len = c.len.ensures in
    let less = c.if-place-len.false in
    let below : place < length items = omega (arith, many, few, ok, len, less) in
    let at = item_there items place x c.index.ensures below in
    subst (λ (h : HeldFrame). IsOnlyAt (map key_of h.pairs) (key_shown c.args.key.now) place) c.self.view_is (alone framed_of items c.self.invariant (key_shown c.args.key.now) place x at (c.is_at.ensures.0 c.if-is_at.true))

pub returns : goal.returns
returns c =
    let items = c.self.inside.pairs.items in
    let place = c.count_before-place.result in
    let x = c.index.result.now in
    let found = c.count_before-place.ensures in
    let many = ap (λ (xs : List Facts). length xs) c.deref.ensures.value in
    let few = found.within in
    let ok = c.self.inside.pairs.ok.0 in
    let len = c.len.ensures in
    let less = c.if-place-len.false in
    let below : place < length items = omega (arith, many, few, ok, len, less) in
    let at = item_there items place x c.index.ensures below in
    no_place items c.deref.result.now c.args.self.now (key_shown c.args.key.now) place c.deref.ensures.value (ap (λ (h : HeldFrame). h.pairs) c.self.view_is) c.self.invariant found.before found.behind
    (λ y there is. no_true c.is_at.result c.if-is_at.false (c.is_at.ensures.1 (ap (λ (z : Facts). key_of (framed_of z)) (some_is x y (sym at ∙ there)) ∙ is)))
