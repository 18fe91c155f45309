-- The order of two accesses of a run, by the statements and the iterations that they stand in.
use Rattle.std.proofs.Common.{◌≡◌, ℕ, ◌<◌, ◌≤◌, List, [], ◌∷◌, ◌++◌, refl, sym, ◌∙◌, inl, inr, arith, append_assoc, append-nil}
use Rattle.ped_flow.specs.ped_tree.specs.Tree.{ProgramTree}
use Rattle.ped_eval.specs.ped_store.specs.Acts.{Touch, Turn, Step, Act}
use Rattle.ped_eval.specs.ped_store.specs.Races.{Access}
use Rattle.ped_eval.specs.Scopes.{Frame, Scope, turns_of, place_of}
use Rattle.ped_eval.specs.Outcomes.{setting_of}
use Rattle.ped_laws.specs.Runs.Replaying.{act}
use Rattle.ped_laws.proofs.RunLaws.Touches.{Each, each_none}
use Rattle.ped_laws.specs.Conflicts.Sequence.{ComesBefore}
use Rattle.ped_laws.proofs.ConflictLaws.SequencePairs.{pairwise_weaker}
use Rattle.ped_laws.proofs.ConflictLaws.SequenceTouches.{Rise, Lesser, rise_pairs}
use Rattle.ped_laws.proofs.ConflictLaws.SequenceActs.{Sorted, access_at, sorted_weaker, act_sorted}

module _ (t : ProgramTree) where
  -- a place in statements with numbers from n to below m, in these iterations or further in
  pub record Inside (scope : Scope) (n m : ℕ) (x : Access) : Type 0 where
    pub further : List Turn
    pub turns : x.place.turns ≡ turns_of scope ++ further
    pub least : n ≤ x.place.statement
    pub below : x.place.statement < m
    pub loops : Each (λ (u : Turn). (n ≤ u.statement) × (u.statement < m)) further

  -- of two accesses that references make in these iterations, the first comes before the second
  pub record Comes (scope : Scope) (x y : Access) : Type 0 where
    pub first : List Turn
    pub second : List Turn
    pub at_first : x.place.turns ≡ turns_of scope ++ first
    pub at_second : y.place.turns ≡ turns_of scope ++ second
    pub comes : 0 < x.reference → 0 < y.reference → ComesBefore t x y first second

  -- what is done in statements, in order
  abbrev pub InOrder : Scope → ℕ → ℕ → List Act → Type 0
  InOrder scope n m acts = Sorted (Inside scope n m) (Comes scope) acts

  pub wider : (scope : Scope) (n m k l : ℕ) → k ≤ n → m ≤ l → (x : Access) → Inside scope n m x → Inside scope k l x
  wider scope n m k l below above x h =
      let a = h.least in
      let b = h.below in
      record {
        further = h.further;
        turns = h.turns;
        least = omega (arith, below, a);
        below = omega (arith, above, b);
        loops = λ u i. let c = h.loops u i in let d = c.0 in let e = c.1 in (omega (arith, below, d), omega (arith, above, e));
      }

  pub wider_order : (scope : Scope) (n m k l : ℕ) (acts : List Act) → k ≤ n → m ≤ l → InOrder scope n m acts → InOrder scope k l acts
  wider_order scope n m k l acts below above h = sorted_weaker (Comes scope) (Inside scope n m) (Inside scope k l) acts (wider scope n m k l below above) h

  -- numbers of statements tell the order of what stands in different ones
  pub text_order : (k : ℕ) (x y : Access) (is js : List Turn) → x.place.statement < k → k ≤ y.place.statement → Each (λ (u : Turn). u.statement < k) is → Each (λ (u : Turn). k ≤ u.statement) js → ComesBefore t x y is js
  text_order k x y [] js a b h l = inl (omega (arith, a, b))
  text_order k x y (i ∷ is) [] a b h l = inl (inl (omega (arith, a, b)))
  text_order k x y (i ∷ is) (j ∷ js) a b h l =
      let c = h i (inl refl) in
      let d = l j (inl refl) in
      inr (inr ((λ e. omega (arith, c, d, e)), inl (omega (arith, a, b))))

  pub apart : (scope : Scope) (n k m : ℕ) (x y : Access) → Inside scope n k x → Inside scope k m y → Comes scope x y
  apart scope n k m x y h l = record {
    first = h.further;
    second = l.further;
    at_first = h.turns;
    at_second = l.turns;
    comes = λ a b. text_order k x y h.further l.further h.below l.least (λ u i. (h.loops u i).1) (λ u i. (l.loops u i).0);
  }

  -- the turns of an iteration in these
  pub one_in : (scope : Scope) (f : Frame) (more : List Turn) → turns_of (f ∷ scope) ++ more ≡ turns_of scope ++ f.turn ∷ more
  one_in scope f more = append_assoc (turns_of scope) (f.turn ∷ []) more

  pub outwards : (scope : Scope) (f : Frame) (x y : Access) → Comes (f ∷ scope) x y → Comes scope x y
  outwards scope f x y h = record {
    first = f.turn ∷ h.first;
    second = f.turn ∷ h.second;
    at_first = h.at_first ∙ one_in scope f h.first;
    at_second = h.at_second ∙ one_in scope f h.second;
    comes = λ a b. inl (refl, h.comes a b);
  }

  -- an access of an act at this place
  pub place_inside : (scope : Scope) (n m : ℕ) (touch : Touch) → n < m → Inside scope n m (access_at (place_of (setting_of t) n scope) touch)
  place_inside scope n m touch l = record {
    further = [];
    turns = sym (append-nil (turns_of scope));
    least = omega arith;
    below = l;
    loops = each_none _;
  }

  pub lesser_comes : (scope : Scope) (n : ℕ) (x y : Touch) → Lesser x y → Comes scope (access_at (place_of (setting_of t) n scope) x) (access_at (place_of (setting_of t) n scope) y)
  lesser_comes scope n x y h = record {
    first = [];
    second = [];
    at_first = sym (append-nil (turns_of scope));
    at_second = sym (append-nil (turns_of scope));
    comes = λ a b. inr (refl, h a b);
  }

  pub one_in_order : (scope : Scope) (n m k : ℕ) (step : Step) (touches : List Touch) → n < m → Rise k touches → InOrder scope n m (act step (place_of (setting_of t) n scope) touches ∷ [])
  one_in_order scope n m k step touches l h =
      act_sorted (Comes scope) (Inside scope n m) step (place_of (setting_of t) n scope) touches (λ u i. place_inside scope n m u l)
      (pairwise_weaker Lesser _ touches (lesser_comes scope n) (rise_pairs k touches h))
