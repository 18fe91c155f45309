-- What the exchange of kept verdicts does, place by place.
use Rattle.std.proofs.Common.{◌≡◌, ◌⊎◌, inl, inr, ℕ, suc, ◌<◌, List, [], ◌∷◌, length, map, Option, Some, None, refl, ap, sym, ◌∙◌, subst, arith}
use Rattle.std.specs.Prelude.{◌≢◌, slice_get, slice_set, slice_index_or, Bool, true, false, eqb, is_some}
use Rattle.std.specs.List.{AllByRecursion}
use Rattle.std.proofs.lemmas.Bool.{eqb-true, eqb-false}
use Rattle.ped_views.specs.Views.{View}
use Rattle.ped_refs.proofs.Ascending.{Ascending, ascending_pairs, ascending_mapped, all_told, all_mapped}
use Rattle.ped_graph.specs.Held.{HeldFrame, Held}
use Rattle.ped_graph.specs.CodeFacts.{views_in, AreWhole}
use Rattle.ped_graph.specs.CodeParts.{exchanged}
use Rattle.ped_graph.specs.Parts.{HeldParts, Stays, Fit, turned}
use Rattle.ped_graph.specs.declared.parts.Kept.{Kept}
use Rattle.ped_graph.proofs.Slices.{get_set_same, get_set_other, length_set, get_there, same_places, at_place, all_both, ascending_from_pairs, mapped_there, mapped_at, none_past, past, within, length_mapped, some_is}

abbrev pub Slots : Type 0
Slots = List (Option View)

abbrev HereApart : Kept → Kept → Type 0
HereApart k m = k.here ≢ m.here

abbrev ThereApart : Kept → Kept → Type 0
ThereApart k m = k.there ≢ m.there

-- places that no pair names are as they were
untouched_here : (kept : List Kept) (vs ws : Slots) (n : ℕ) → AllByRecursion (λ (k : Kept). n ≢ k.here) kept → slice_get (exchanged kept vs ws).0 n ≡ slice_get vs n
untouched_here [] vs ws n h = refl
untouched_here (k ∷ kept) vs ws n h =
    untouched_here kept (slice_set vs k.here (slice_index_or ws k.there None)) (slice_set ws k.there (slice_index_or vs k.here None)) n h.1
    ∙ get_set_other vs k.here n (slice_index_or ws k.there None) (λ e. h.0 (sym e))

untouched_there : (kept : List Kept) (vs ws : Slots) (n : ℕ) → AllByRecursion (λ (k : Kept). n ≢ k.there) kept → slice_get (exchanged kept vs ws).1 n ≡ slice_get ws n
untouched_there [] vs ws n h = refl
untouched_there (k ∷ kept) vs ws n h =
    untouched_there kept (slice_set vs k.here (slice_index_or ws k.there None)) (slice_set ws k.there (slice_index_or vs k.here None)) n h.1
    ∙ get_set_other ws k.there n (slice_index_or vs k.here None) (λ e. h.0 (sym e))

-- as many verdicts, and as many slots
pub as_many_here : (kept : List Kept) (vs ws : Slots) → length (exchanged kept vs ws).0 ≡ length vs
as_many_here [] vs ws = refl
as_many_here (k ∷ kept) vs ws = as_many_here kept (slice_set vs k.here (slice_index_or ws k.there None)) (slice_set ws k.there (slice_index_or vs k.here None)) ∙ length_set vs k.here (slice_index_or ws k.there None)

pub as_many_there : (kept : List Kept) (vs ws : Slots) → length (exchanged kept vs ws).1 ≡ length ws
as_many_there [] vs ws = refl
as_many_there (k ∷ kept) vs ws = as_many_there kept (slice_set vs k.here (slice_index_or ws k.there None)) (slice_set ws k.there (slice_index_or vs k.here None)) ∙ length_set ws k.there (slice_index_or vs k.here None)

-- both places of a pair are there
abbrev pub AreIn : ℕ → ℕ → Kept → Type 0
AreIn m n k = (k.here < m) × (k.there < n)

-- the two places of a pair have been exchanged
abbrev AreExchanged : Slots → Slots → Slots → Slots → Kept → Type 0
AreExchanged vs ws new_vs new_ws k = (slice_get new_ws k.there ≡ slice_get vs k.here) × (slice_get new_vs k.here ≡ slice_get ws k.there)

all_exchanged : (kept : List Kept) (vs ws : Slots) (m n : ℕ) → m ≡ length vs → n ≡ length ws → AllByRecursion (AreIn m n) kept → Ascending HereApart kept → Ascending ThereApart kept
    → AllByRecursion (AreExchanged vs ws (exchanged kept vs ws).0 (exchanged kept vs ws).1) kept
all_exchanged [] vs ws m n e f ins heres theres = tt
all_exchanged (k ∷ kept) vs ws m n e f ins heres theres =
    let v : Option View = slice_index_or vs k.here None in
    let w : Option View = slice_index_or ws k.there None in
    let inside = ins.0 in
    let behind = all_exchanged kept (slice_set vs k.here w) (slice_set ws k.there v) m n (e ∙ sym (length_set vs k.here w)) (f ∙ sym (length_set ws k.there v)) ins.1 heres.1 theres.1 in (
      (
        untouched_there kept (slice_set vs k.here w) (slice_set ws k.there v) k.there theres.0 ∙ get_set_same ws k.there v (subst (λ (l : ℕ). k.there < l) f inside.1) ∙ sym (get_there vs k.here None (subst (λ (l : ℕ). k.here < l) e inside.0)),
        untouched_here kept (slice_set vs k.here w) (slice_set ws k.there v) k.here heres.0 ∙ get_set_same vs k.here w (subst (λ (l : ℕ). k.here < l) e inside.0) ∙ sym (get_there ws k.there None (subst (λ (l : ℕ). k.there < l) f inside.1)),
      ),
      all_told _ _ (λ (x : Kept) h. (h.1.0 ∙ get_set_other vs k.here x.here w h.0.0, h.1.1 ∙ get_set_other ws k.there x.there v h.0.1)) kept
          (all_both (λ (x : Kept). (k.here ≢ x.here) × (k.there ≢ x.there)) _ kept (all_both (λ (x : Kept). k.here ≢ x.here) (λ (x : Kept). k.there ≢ x.there) kept heres.0 theres.0) behind),
    )

decide : (a b : ℕ) → (a ≡ b) ⊎ (b ≢ a)
decide a b = go (eqb a b) refl
  where
    go : (t : Bool) → eqb a b ≡ t → (a ≡ b) ⊎ (b ≢ a)
    go true e = inl (eqb-true a b e)
    go false e = inr (λ q. eqb-false a b e (sym q))

-- a place is that of a pair, or of none
found_here : (kept : List Kept) (n : ℕ) → ((j : ℕ) × (k : Kept) × (slice_get kept j ≡ Some k) × (k.here ≡ n)) ⊎ AllByRecursion (λ (k : Kept). n ≢ k.here) kept
found_here [] n = inr tt
found_here (k ∷ kept) n = go (decide k.here n) (found_here kept n)
  where
    go : (k.here ≡ n) ⊎ (n ≢ k.here) → ((j : ℕ) × (m : Kept) × (slice_get kept j ≡ Some m) × (m.here ≡ n)) ⊎ AllByRecursion (λ (m : Kept). n ≢ m.here) kept
        → ((j : ℕ) × (m : Kept) × (slice_get (k ∷ kept) j ≡ Some m) × (m.here ≡ n)) ⊎ AllByRecursion (λ (m : Kept). n ≢ m.here) (k ∷ kept)
    go (inl e) rest = inl (0, k, refl, e)
    go (inr e) (inl r) = inl (suc r.0, r.1, r.2, r.3)
    go (inr e) (inr r) = inr (e, r)

-- the verdicts of a graph are there
abbrev pub AreThere : List View → Slots → Type 0
AreThere views vs = vs ≡ map Some views

none_is_some : {X : Type 0} (x : X) → None ≡ Some x → ⊥
none_is_some x e = cc

module _ (parts : HeldParts) (here other : Held) (fit : Fit parts here other) (vs : Slots) (there : AreThere here.views vs) where
  abbrev pub ws : Slots
  ws = parts.slots

  abbrev pub new_vs : Slots
  new_vs = (exchanged parts.kept vs ws).0

  abbrev pub new_ws : Slots
  new_ws = (exchanged parts.kept vs ws).1

  -- the verdict at a place of the graph
  held_at : (n : ℕ) (v : View) → slice_get here.views n ≡ Some v → slice_get vs n ≡ Some (Some v)
  held_at n v e = ap (λ (xs : Slots). slice_get xs n) there ∙ mapped_at Some here.views n v e

  pub ins : AllByRecursion (AreIn (length vs) (length ws)) parts.kept
  ins = all_told _ _ (λ k s. (within vs k.here _ (held_at k.here s.view s.before), within ws k.there _ s.empty)) parts.kept fit.stay

  moved : AllByRecursion (AreExchanged vs ws new_vs new_ws) parts.kept
  moved = all_exchanged parts.kept vs ws (length vs) (length ws) refl refl ins (ascending_from_pairs HereApart parts.kept fit.one_here) (ascending_from_pairs ThereApart parts.kept fit.one_there)

  -- a slot that isn't empty is that of no kept pair
  full_apart : (n : ℕ) (v : View) → slice_get ws n ≡ Some (Some v) → AllByRecursion (λ (k : Kept). n ≢ k.there) parts.kept
  full_apart n v e = all_told _ _ (λ k s. λ (q : n ≡ k.there).
      let f : slice_get ws n ≡ Some None = ap (λ (m : ℕ). slice_get ws m) q ∙ s.empty in
      let g : Some (Some v) ≡ Some None = sym e ∙ f in
      none_is_some v (sym (some_is _ _ g))) parts.kept fit.stay

  made_at : (n : ℕ) (o : Option (Option View)) → slice_get ws n ≡ o → slice_get new_ws n ≡ slice_get (map Some other.views) n
  made_at n None e =
      let long = past ws n e in
      let many : length new_ws ≡ length ws = as_many_there parts.kept vs ws in
      let wide = fit.long in
      let mapped = length_mapped {Y = Option View} Some other.views in
      none_past new_ws n (omega (arith, long, many)) ∙ sym (none_past (map Some other.views) n (omega (arith, long, wide, mapped)))
  made_at n (Some (Some v)) e = untouched_there parts.kept vs ws n (full_apart n v e) ∙ e ∙ sym (mapped_at Some other.views n v (fit.left n v e))
  made_at n (Some None) e =
      let f = fit.others n e in
      let s = at_place (Stays ws here other) parts.kept f.0 f.1 fit.stay f.2 in
      let m = at_place (AreExchanged vs ws new_vs new_ws) parts.kept f.0 f.1 moved f.2 in
      ap (λ (i : ℕ). slice_get new_ws i) (sym f.3) ∙ m.0 ∙ held_at f.1.here s.view s.before
      ∙ sym (mapped_at Some other.views f.1.there s.view s.behind) ∙ ap (λ (i : ℕ). slice_get (map Some other.views) i) f.3

  -- the verdicts of the other state are made
  pub all_made : new_ws ≡ map Some other.views
  all_made = same_places new_ws (map Some other.views) (λ n. made_at n (slice_get ws n) refl)

  -- what is left for the way back
  left_back : (n : ℕ) (v : View) → slice_get new_vs n ≡ Some (Some v) → slice_get here.views n ≡ Some v
  left_back n v e = go (found_here parts.kept n)
    where
      go : ((j : ℕ) × (k : Kept) × (slice_get parts.kept j ≡ Some k) × (k.here ≡ n)) ⊎ AllByRecursion (λ (k : Kept). n ≢ k.here) parts.kept → slice_get here.views n ≡ Some v
      go (inl f) =
          let s = at_place (Stays ws here other) parts.kept f.0 f.1 fit.stay f.2 in
          let m = at_place (AreExchanged vs ws new_vs new_ws) parts.kept f.0 f.1 moved f.2 in
          let g : Some None ≡ Some (Some v) = sym (m.1 ∙ s.empty) ∙ ap (λ (i : ℕ). slice_get new_vs i) f.3 ∙ e in
          absurd (none_is_some v (some_is _ _ g))
      go (inr apart) =
          let g = mapped_there Some here.views n (Some v) (ap (λ (xs : Slots). slice_get xs n) (sym there) ∙ sym (untouched_here parts.kept vs ws n apart) ∙ e) in
          g.1 ∙ ap Some (some_is g.0 v g.2)

  others_back : (n : ℕ) → slice_get new_vs n ≡ Some None → (j : ℕ) × (k : Kept) × (slice_get (map turned parts.kept) j ≡ Some k) × (k.there ≡ n)
  others_back n e = go (found_here parts.kept n)
    where
      go : ((j : ℕ) × (k : Kept) × (slice_get parts.kept j ≡ Some k) × (k.here ≡ n)) ⊎ AllByRecursion (λ (k : Kept). n ≢ k.here) parts.kept
          → (j : ℕ) × (k : Kept) × (slice_get (map turned parts.kept) j ≡ Some k) × (k.there ≡ n)
      go (inl f) = (f.0, turned f.1, mapped_at turned parts.kept f.0 f.1 f.2, f.3)
      go (inr apart) =
          let g = mapped_there Some here.views n None (ap (λ (xs : Slots). slice_get xs n) (sym there) ∙ sym (untouched_here parts.kept vs ws n apart) ∙ e) in
          absurd (none_is_some g.0 (sym g.2))

  -- the parts lead back
  pub back : length vs ≡ length here.frame.pairs → Fit (record { frame = here.frame; slots = new_vs; kept = map turned parts.kept }) other here
  back paired =
      let many = as_many_here parts.kept vs ws in
      let mapped = length_mapped {Y = Option View} Some here.views in
      let same = ap (λ (xs : Slots). length xs) there in
      record {
        frame = refl;
        paired = many ∙ paired;
        long = omega (arith, many, mapped, same);
        one_here = ascending_pairs HereApart (map turned parts.kept) (ascending_mapped turned ThereApart HereApart (λ k m h. h) parts.kept (ascending_from_pairs ThereApart parts.kept fit.one_there));
        one_there = ascending_pairs ThereApart (map turned parts.kept) (ascending_mapped turned HereApart ThereApart (λ k m h. h) parts.kept (ascending_from_pairs HereApart parts.kept fit.one_here));
        left = left_back;
        stay = all_mapped turned _ _ (λ k h. record { empty = h.1.1 ∙ h.0.empty; view = h.0.view; before = h.0.behind; behind = h.0.before }) parts.kept (all_both (Stays ws here other) (AreExchanged vs ws new_vs new_ws) parts.kept fit.stay moved);
        others = others_back;
      }

-- the views of verdicts that are there
pub views_there : (views : List View) → views_in (map Some views) ≡ views
views_there [] = refl
views_there (v ∷ views) = ap (λ (vs : List View). v ∷ vs) (views_there views)

-- verdicts that are there, one for each pair
pub are_whole : (frame : HeldFrame) (views : List View) (vs : Slots) → vs ≡ map Some views → length vs ≡ length frame.pairs → AreWhole frame vs
are_whole frame views vs there paired = record {
  there = there ∙ ap (λ (xs : List View). map Some xs) (sym (ap views_in there ∙ views_there views));
  paired = paired;
}

-- a verdict that is there
pub verdict_there : (slots : Slots) (n : ℕ) (x : Option View) → slots ≡ map Some (views_in slots) → slice_get slots n ≡ Some x → (v : View) × (slice_get (views_in slots) n ≡ Some v) × (x ≡ Some v)
verdict_there slots n x there at = let v = mapped_there Some (views_in slots) n x (ap (λ (ss : Slots). slice_get ss n) (sym there) ∙ at) in (v.0, v.1, sym v.2)

pub is_there : (x : Option View) (v : View) → x ≡ Some v → is_some x ≡ true
is_there x v e = ap (λ (o : Option View). is_some o) e

-- a graph behind an exchange, and the parts
abbrev pub graph_of : HeldFrame → Slots → Held
graph_of frame slots = record { frame = frame; views = views_in slots }

abbrev pub parts_of : HeldFrame → Slots → List Kept → HeldParts
parts_of frame slots kept = record { frame = frame; slots = slots; kept = kept }

plain : (hf pf : HeldFrame) (vs ws : Slots) (ks : List Kept) → AreWhole hf vs → (other : Held) → Fit (parts_of pf ws ks) (graph_of hf vs) other
    → (graph_of pf (exchanged ks vs ws).1 ≡ other) × Fit (parts_of hf (exchanged ks vs ws).0 (map turned ks)) other (graph_of hf vs)
plain hf pf vs ws ks whole other fit = (
  (let made = ap views_in (all_made (parts_of pf ws ks) (graph_of hf vs) other fit vs whole.there) ∙ views_there other.views in λ i. record { frame = fit.frame i; views = made i }),
  back (parts_of pf ws ks) (graph_of hf vs) other fit vs whole.there whole.paired,
)

module _ (here : Held) (parts : HeldParts) (hf pf : HeldFrame) (vs ws : Slots) (ks : List Kept) (whole : AreWhole hf vs) (is_here : graph_of hf vs ≡ here) (is_parts : parts_of pf ws ks ≡ parts) where
  seen : (other : Held) → Fit parts here other → Fit (parts_of pf ws ks) (graph_of hf vs) other
  seen other fit = subst (λ (p : HeldParts). Fit p (graph_of hf vs) other) (sym is_parts) (subst (λ (h : Held). Fit parts h other) (sym is_here) fit)

  module _ (nf of : HeldFrame) (nv nw : Slots) (nk : List Kept) (e : nf ≡ pf) (f : of ≡ hf) (k : nv ≡ (exchanged ks vs ws).1) (l : nw ≡ (exchanged ks vs ws).0) (m : nk ≡ map turned ks) where
    -- what the exchange makes of a graph and of parts
    pub exchange_makes : (other : Held) → Fit parts here other → (graph_of nf nv ≡ other) × Fit (parts_of of nw nk) other here
    exchange_makes other fit =
        let done = plain hf pf vs ws ks whole other (seen other fit) in (
          (λ i. graph_of (e i) (k i)) ∙ done.0,
          subst (λ (h : Held). Fit (parts_of of nw nk) other h) is_here (subst (λ (p : HeldParts). Fit p other (graph_of hf vs)) (λ i. parts_of (sym f i) (sym l i) (sym m i)) done.1),
        )

    -- the graph is whole
    pub exchange_whole : (other : Held) → Fit parts here other → AreWhole nf nv
    exchange_whole other fit =
        let s = seen other fit in
        let there = k ∙ all_made (parts_of pf ws ks) (graph_of hf vs) other s vs whole.there in
        let many = ap (λ (xs : Slots). length xs) k ∙ as_many_there ks vs ws in
        are_whole nf other.views nv there (many ∙ s.paired ∙ ap (λ (h : HeldFrame). length h.pairs) (sym e))

  -- the places of kept pairs are there
  pub exchange_within : (other : Held) → Fit parts here other → AllByRecursion (λ (k : Kept). (k.here < length vs) × (k.there < length ws)) ks
  exchange_within other fit = ins (parts_of pf ws ks) (graph_of hf vs) other (seen other fit) vs whole.there
