-- The trips of a DO in which sums are kept apart: each begins with zeros, and tells in its own elements what it has added to each scalar.
use Rattle.std.proofs.Common.{◌≡◌, ℕ, ◌+◌, ℤ, pos, List, [], ◌∷◌, ◌++◌, Bool, true, false, ◌&&◌, ◌⊎◌, inl, inr, refl, sym, ap, subst, ◌∙◌}
use Rattle.std.specs.Ordering.{int_eq}
use Rattle.std.specs.Cmp.Lexicographic.{pointwise}
use Rattle.std.specs.List.{list_any}
use Rattle.std.proofs.lemmas.Bool.{and_parts, both_ways}
use Rattle.ped_base.specs.Dimensions.{Dimensions}
use Rattle.ped_base.specs.Lists.{is_same_text}
use Rattle.ped_tree.specs.Tree.{Int, StmtTrees}
use Rattle.ped_tree.specs.Numbering.{statements_count}
use Rattle.ped_rules.specs.ped_steps.specs.Replacing.{followed}
use Rattle.ped_rules.specs.ped_store.specs.Cells.{Cell, Scalar, Element, Private, In, Out, same_cell}
use Rattle.ped_rules.specs.ped_store.specs.Stores.{Content, Number, Store, put}
use Rattle.ped_rules.specs.ped_store.specs.Acts.{Manner, Turn, Place, did, Act}
use Rattle.ped_rules.specs.ped_laws.specs.Acts.Orders.{IsIn}
use Rattle.ped_rules.specs.ped_laws.proofs.ActLaws.SameCells.{cell_itself, other_cell}
use Rattle.ped_rules.specs.ped_laws.proofs.ActLaws.Lists.{in_left, in_right, in_parts}
use Rattle.ped_rules.specs.ped_laws.proofs.ActLaws.Stores.{put_same, put_other}
use Rattle.ped_rules.specs.ped_eval.specs.Scopes.{Setting, Scope, turns_of, Names, names_in, place_of}
use Rattle.ped_rules.specs.ped_eval.specs.Runs.{going, Run, then_run, run_assignment, run_all}
use Rattle.ped_rules.specs.ped_laws.specs.Runs.Replaying.{act}
use Rattle.ped_rules.specs.ped_loop_runs.proofs.PastingLaws.PastedLoops.{run_followed}
use Rattle.ped_reduce.specs.Lowering.{Partials, at, zeros, all_summed}
use Rattle.ped_reduce.proofs.SplitSums.{Is32}
use Rattle.ped_reduce.proofs.SumStores.{is_array_of, is_array, is_apart, is_own, part, Adds, Within, AreSmall, HaveArrays, high_array, low_array, flag_array, array_apart}
use Rattle.ped_reduce.proofs.SumSteps.{StandsAt, RunOfPart, part_runs}
use Rattle.ped_reduce.proofs.SumParts.{ComesFrom, going_then}
use Rattle.ped_reduce.proofs.SumBodies.{AreClear, CountAlike}
use Rattle.ped_reduce.proofs.SumRuns.{all_along}

-- none of these iterations is one of a PARALLEL DO
abbrev pub IsCalm : List Turn → Type 0
IsCalm turns = list_any (λ (t : Turn). t.parallel) turns ≡ false

-- each act comes from an old one, or is done in no PARALLEL DO
abbrev pub AreNew : List Partials → Cell → List Act → List Act → Type 0
AreNew ps told acts others = (b : Act) → IsIn b others → IsCalm b.place.turns ⊎ ((k : ℤ) × (a : Act) × IsIn a acts × ComesFrom ps k told a b)

pub new_append : (ps : List Partials) (told : Cell) (acts others more further : List Act) → AreNew ps told acts others → AreNew ps told more further → AreNew ps told (acts ++ more) (others ++ further)
new_append ps told acts others more further h k b i = elim (in_parts b others further i) [ inl j ↦ left (h b j) | inr j ↦ right (k b j) ]
  where
    left : IsCalm b.place.turns ⊎ ((k : ℤ) × (a : Act) × IsIn a acts × ComesFrom ps k told a b) → IsCalm b.place.turns ⊎ ((k : ℤ) × (a : Act) × IsIn a (acts ++ more) × ComesFrom ps k told a b)
    left (inl calm) = inl calm
    left (inr x) = inr (x.0, x.1, in_left x.1 acts more x.2, x.3)

    right : IsCalm b.place.turns ⊎ ((k : ℤ) × (a : Act) × IsIn a more × ComesFrom ps k told a b) → IsCalm b.place.turns ⊎ ((k : ℤ) × (a : Act) × IsIn a (acts ++ more) × ComesFrom ps k told a b)
    right (inl calm) = inl calm
    right (inr x) = inr (x.0, x.1, in_right x.1 acts more x.2, x.3)

-- the parts of a scalar are zero
pub record AreZero (p : Partials) (k : ℤ) (u : Store) : Type 0 where
  pub high : u (part p.high k) ≡ Number (pos 0)
  pub low : u (part p.low k) ≡ Number (pos 0)
  pub flag : u (part p.flag k) ≡ Number (pos 0)

module _ (ps : List Partials) (k : ℤ) where
  -- an element of these arrays at the value is one of its own
  pub own_part : (p : Partials) (x : List ℕ) → IsIn p ps → is_array_of p x ≡ true → is_own ps k (part x k) ≡ true
  own_part p x i own = ap (λ (b : Bool). b && pointwise int_eq (k ∷ []) (k ∷ [])) (array_apart ps p x i own) ∙ (and_parts (is_same_text x x) (pointwise int_eq (k ∷ []) (k ∷ [])) (cell_itself (part x k))).1

  pub own_apart : (c : Cell) → is_own ps k c ≡ true → is_apart ps c ≡ true
  own_apart (Element x js) h = (and_parts (is_array ps x) (pointwise int_eq (k ∷ []) js) h).0
  own_apart (Scalar x) h = absurd cc
  own_apart (Private x path) h = absurd cc
  own_apart In h = absurd cc
  own_apart Out h = absurd cc

  pub not_own : (c : Cell) → is_apart ps c ≡ false → is_own ps k c ≡ false
  not_own c h = go (is_own ps k c) refl
    where
      go : (b : Bool) → is_own ps k c ≡ b → is_own ps k c ≡ false
      go true e = absurd (both_ways (is_apart ps c) h (own_apart c e))
      go false e = e

  -- a store of which some own elements are zero, and all else is as it was
  pub record Zeroed (rest : List Partials) (u z : Store) : Type 0 where
    pub kept : (c : Cell) → is_own ps k c ≡ false → z c ≡ u c
    pub changed : (c : Cell) → (z c ≡ u c) ⊎ (z c ≡ Number (pos 0))
    pub zero_in : (p : Partials) → IsIn p rest → AreZero p k z

  put_zero : (c d : Cell) (u : Store) → (put c (Number (pos 0)) u d ≡ u d) ⊎ (put c (Number (pos 0)) u d ≡ Number (pos 0))
  put_zero c d u = go (same_cell c d) refl
    where
      go : (b : Bool) → same_cell c d ≡ b → (put c (Number (pos 0)) u d ≡ u d) ⊎ (put c (Number (pos 0)) u d ≡ Number (pos 0))
      go true e = inr (put_same c (Number (pos 0)) u d e)
      go false e = inl (put_other c (Number (pos 0)) u d e)

  stays_zero : (c d : Cell) (u : Store) → u d ≡ Number (pos 0) → put c (Number (pos 0)) u d ≡ Number (pos 0)
  stays_zero c d u h = elim (put_zero c d u) [ inl e ↦ e ∙ h | inr e ↦ e ]

  then_changed : (a b c : Content) → (b ≡ a) ⊎ (b ≡ Number (pos 0)) → (c ≡ b) ⊎ (c ≡ Number (pos 0)) → (c ≡ a) ⊎ (c ≡ Number (pos 0))
  then_changed a b c h (inr e) = inr e
  then_changed a b c (inl h) (inl e) = inl (e ∙ h)
  then_changed a b c (inr h) (inl e) = inr (e ∙ h)

  put_kept : (p : Partials) (x : List ℕ) → IsIn p ps → is_array_of p x ≡ true → (y : Content) (e : Store) (c : Cell) → is_own ps k c ≡ false → put (part x k) y e c ≡ e c
  put_kept p x i own y e c h = put_other (part x k) y e c (other_cell (part x k) c (λ q. both_ways (is_own ps k c) h (ap (is_own ps k) (sym q) ∙ own_part p x i own)))

  -- the store with zeros in the parts of a scalar
  abbrev pub zeros1 : Partials → Store → Store
  zeros1 p u = put (part p.high k) (Number (pos 0)) u

  abbrev pub zeros2 : Partials → Store → Store
  zeros2 p u = put (part p.low k) (Number (pos 0)) (zeros1 p u)

  abbrev pub zeros3 : Partials → Store → Store
  zeros3 p u = put (part p.flag k) (Number (pos 0)) (zeros2 p u)

  -- zeros of one scalar more
  zeroed_more : (p : Partials) (rest : List Partials) (u z : Store) → IsIn p ps → Zeroed rest (zeros3 p u) z → Zeroed (p ∷ rest) u z
  zeroed_more p rest u z i h = record {
    kept = λ c e. h.kept c e ∙ put_kept p p.flag i (flag_array p) (Number (pos 0)) (zeros2 p u) c e ∙ put_kept p p.low i (low_array p) (Number (pos 0)) (zeros1 p u) c e ∙ put_kept p p.high i (high_array p) (Number (pos 0)) u c e;
    changed = λ c. then_changed (u c) (zeros3 p u c) (z c)
        (then_changed (u c) (zeros2 p u c) (zeros3 p u c) (then_changed (u c) (zeros1 p u c) (zeros2 p u c) (put_zero (part p.high k) c u) (put_zero (part p.low k) c (zeros1 p u))) (put_zero (part p.flag k) c (zeros2 p u))) (h.changed c);
    zero_in = zero_in;
  }
    where
      zero_still : (c : Cell) → zeros3 p u c ≡ Number (pos 0) → z c ≡ Number (pos 0)
      zero_still c e = elim (h.changed c) [ inl f ↦ f ∙ e | inr f ↦ f ]

      own : AreZero p k z
      own = record {
        high = zero_still (part p.high k) (stays_zero (part p.flag k) (part p.high k) (zeros2 p u) (stays_zero (part p.low k) (part p.high k) (zeros1 p u) (put_same (part p.high k) (Number (pos 0)) u (part p.high k) (cell_itself (part p.high k)))));
        low = zero_still (part p.low k) (stays_zero (part p.flag k) (part p.low k) (zeros2 p u) (put_same (part p.low k) (Number (pos 0)) (zeros1 p u) (part p.low k) (cell_itself (part p.low k))));
        flag = zero_still (part p.flag k) (put_same (part p.flag k) (Number (pos 0)) (zeros2 p u) (part p.flag k) (cell_itself (part p.flag k)));
      }

      zero_in : (a : Partials) → IsIn a (p ∷ rest) → AreZero a k z
      zero_in a (inl e) = subst (λ (b : Partials). AreZero b k z) (sym e) own
      zero_in a (inr j) = h.zero_in a j

module _ (q : Setting) (ps : List Partials) (v : List ℕ) (k : ℤ) (told : Cell) (scope : Scope) (stands : StandsAt ps (names_in q scope) v k told) where
  abbrev g : Names
  g = names_in q scope

  abbrev Any : Manner → Cell → Type 0
  Any m c = Unit {0}

  zero_run : (p : Partials) (i : IsIn p ps) (x : List ℕ) (own : is_array_of p x ≡ true) (place : Place) (u : Store) → RunOfPart ps g v k told stands p i x own u Any tt (λ m. tt) (run_assignment g place (at x v) (Int 0) u) (pos 0) place
  zero_run p i x own place u = part_runs ps g v k told stands p i x own u Any tt (λ m. tt) (Int 0) (pos 0) place refl tt refl

  -- the zeros of some of the scalars
  pub record ZerosGo (rest : List Partials) (m : ℕ) (u : Store) : Type 0 where
    pub behind : Store
    pub ending : (run_all q (zeros v rest) m scope u).ending ≡ going behind
    pub places : (b : Act) → IsIn b (run_all q (zeros v rest) m scope u).acts → b.place.turns ≡ turns_of scope
    pub zeroed : Zeroed ps k rest u behind

  -- the zeros of one scalar, and then those of others
  module _ (p : Partials) (i : IsIn p ps) (rest : List Partials) (m : ℕ) (u : Store) (more : ZerosGo rest (m + 1 + 1 + 1) (zeros3 ps k p u)) where
    abbrev u1 : Store
    u1 = zeros1 ps k p u

    abbrev u2 : Store
    u2 = zeros2 ps k p u

    abbrev u3 : Store
    u3 = zeros3 ps k p u

    run1 : RunOfPart ps g v k told stands p i p.high (high_array p) u Any tt (λ m. tt) (run_assignment g (place_of q m scope) (at p.high v) (Int 0) u) (pos 0) (place_of q m scope)
    run1 = zero_run p i p.high (high_array p) (place_of q m scope) u

    run2 : RunOfPart ps g v k told stands p i p.low (low_array p) u1 Any tt (λ m. tt) (run_assignment g (place_of q (m + 1) scope) (at p.low v) (Int 0) u1) (pos 0) (place_of q (m + 1) scope)
    run2 = zero_run p i p.low (low_array p) (place_of q (m + 1) scope) u1

    run3 : RunOfPart ps g v k told stands p i p.flag (flag_array p) u2 Any tt (λ m. tt) (run_assignment g (place_of q (m + 1 + 1) scope) (at p.flag v) (Int 0) u2) (pos 0) (place_of q (m + 1 + 1) scope)
    run3 = zero_run p i p.flag (flag_array p) (place_of q (m + 1 + 1) scope) u2

    abbrev rest3 : Store → Run
    rest3 x = run_all q (zeros v rest) (m + 1 + 1 + 1) scope x

    abbrev rest2 : Store → Run
    rest2 x = then_run (run_assignment g (place_of q (m + 1 + 1) scope) (at p.flag v) (Int 0) x) rest3

    abbrev rest1 : Store → Run
    rest1 x = then_run (run_assignment g (place_of q (m + 1) scope) (at p.low v) (Int 0) x) rest2

    -- the acts in order
    abbrev acts : List Act
    acts = act did (place_of q m scope) run1.touched ∷ (act did (place_of q (m + 1) scope) run2.touched ∷ (act did (place_of q (m + 1 + 1) scope) run3.touched ∷ (rest3 u3).acts))

    last : rest2 u2 ≡ record { acts = act did (place_of q (m + 1 + 1) scope) run3.touched ∷ (rest3 u3).acts; ending = (rest3 u3).ending }
    last = going_then (run_assignment g (place_of q (m + 1 + 1) scope) (at p.flag v) (Int 0) u2) u3 rest3 run3.ending ∙ (λ j. record { acts = run3.acts j ++ (rest3 u3).acts; ending = (rest3 u3).ending })

    middle : rest1 u1 ≡ record { acts = act did (place_of q (m + 1) scope) run2.touched ∷ (act did (place_of q (m + 1 + 1) scope) run3.touched ∷ (rest3 u3).acts); ending = (rest3 u3).ending }
    middle = going_then (run_assignment g (place_of q (m + 1) scope) (at p.low v) (Int 0) u1) u2 rest2 run2.ending ∙ (λ j. record { acts = run2.acts j ++ (last j).acts; ending = (last j).ending })

    whole : run_all q (zeros v (p ∷ rest)) m scope u ≡ record { acts = acts; ending = (rest3 u3).ending }
    whole = going_then (run_assignment g (place_of q m scope) (at p.high v) (Int 0) u) u1 rest1 run1.ending ∙ (λ j. record { acts = run1.acts j ++ (middle j).acts; ending = (middle j).ending })

    placed : (b : Act) → IsIn b acts → b.place.turns ≡ turns_of scope
    placed b (inl e) = ap (λ (a : Act). a.place.turns) e
    placed b (inr (inl e)) = ap (λ (a : Act). a.place.turns) e
    placed b (inr (inr (inl e))) = ap (λ (a : Act). a.place.turns) e
    placed b (inr (inr (inr j))) = more.places b j

    zeros_more : ZerosGo (p ∷ rest) m u
    zeros_more = record {
      behind = more.behind;
      ending = ap (λ (r : Run). r.ending) whole ∙ more.ending;
      places = λ b i. placed b (subst (IsIn b) (ap (λ (r : Run). r.acts) whole) i);
      zeroed = zeroed_more ps k p rest u more.behind i more.zeroed;
    }

  pub zeros_go : (rest : List Partials) → ((p : Partials) → IsIn p rest → IsIn p ps) → (m : ℕ) (u : Store) → ZerosGo rest m u
  zeros_go [] all m u = record { behind = u; ending = refl; places = λ b i. absurd i; zeroed = record { kept = λ c h. refl; changed = λ c. inl refl; zero_in = λ p i. absurd i } }
  zeros_go (p ∷ rest) all m u = zeros_more p (all p (inl refl)) rest m u (zeros_go rest (λ a j. all a (inr j)) (m + 1 + 1 + 1) (zeros3 ps k p u))

-- from zeros the new store tells that nothing has been added
pub zeros_within : (ps : List Partials) (k : ℤ) (s u z : Store) → ((c : Cell) → is_apart ps c ≡ false → u c ≡ s c) → Zeroed ps k ps u z → Within ps k s u s z
zeros_within ps k s u z same zeroed = record {
  same = λ c h. zeroed.kept c (not_own ps k c h) ∙ same c h;
  others = λ c h own. zeroed.kept c own;
  sums = λ p i. let zero_in = zeroed.zero_in p i in inl (record { high_is = zero_in.high; low_is = zero_in.low; flag_is = zero_in.flag; same = refl });
}

-- the scalars stay small
pub small_behind : (ps : List Partials) (k : ℤ) (o w s u : Store) → AreSmall ps o → Within ps k o w s u → AreSmall ps s
small_behind ps k o w s u small within p i x e = go (within.sums p i)
  where
    one : (a b : ℤ) → Number a ≡ Number b → a ≡ b
    one a b h = cc

    go : Adds (o (Scalar p.scalar)) (u (part p.high k)) (u (part p.low k)) (u (part p.flag k)) (s (Scalar p.scalar)) → Is32 x
    go (inl none) = small p i x (sym none.same ∙ e)
    go (inr some) = subst Is32 (one some.y x (sym some.is ∙ e)) some.y_small

module _ (bounds : List ℕ → Dimensions) (constants : List (List ℕ × ℤ)) (f f' : ℕ → ℕ) (ps : List Partials) (arrays : HaveArrays ps) (v : List ℕ) (k : ℤ) (told : Cell) where
  abbrev old : Setting
  old = record { bounds = bounds; constants = constants; number = f }

  abbrev new : Setting
  new = record { bounds = bounds; constants = constants; number = f' }

  -- one trip: what it has added is told by its own elements
  pub record TripGoes (body : StmtTrees) (n m : ℕ) (scope : Scope) (s t u : Store) : Type 0 where
    pub behind : Store
    pub ending : (run_all new (followed (zeros v ps) (all_summed v ps body)) m scope u).ending ≡ going behind
    pub within : Within ps k s u t behind
    pub acts : AreNew ps told (run_all old body n scope s).acts (run_all new (followed (zeros v ps) (all_summed v ps body)) m scope u).acts

  pub trip_goes : (body : StmtTrees) (n m : ℕ) (scope : Scope) → AreClear ps v body → CountAlike f f' v ps body n (m + statements_count (zeros v ps)) → StandsAt ps (names_in old scope) v k told → IsCalm (turns_of scope)
      → (s t u : Store) → AreSmall ps s → ((c : Cell) → is_apart ps c ≡ false → u c ≡ s c) → (run_all old body n scope s).ending ≡ going t → TripGoes body n m scope s t u
  trip_goes body n m scope clear counts stands calm s t u small same e =
      let z = zeros_go new ps v k told scope stands ps (λ p i. i) m u in
      let next = run_all new (all_summed v ps body) (m + statements_count (zeros v ps)) scope in
      let sums = all_along bounds constants f f' ps arrays v k told s u small body n (m + statements_count (zeros v ps)) scope clear counts stands s z.behind (zeros_within ps k s u z.behind same z.zeroed) t e in
      let parted : run_all new (followed (zeros v ps) (all_summed v ps body)) m scope u ≡ record { acts = (run_all new (zeros v ps) m scope u).acts ++ (next z.behind).acts; ending = (next z.behind).ending } =
      (λ i. run_followed new (zeros v ps) (all_summed v ps body) m scope i u) ∙ going_then (run_all new (zeros v ps) m scope u) z.behind next z.ending in
      record {
        behind = sums.0;
        ending = ap (λ (r : Run). r.ending) parted ∙ sums.1;
        within = sums.2;
        acts = subst (AreNew ps told (run_all old body n scope s).acts) (sym (ap (λ (r : Run). r.acts) parted))
            (new_append ps told [] (run_all new (zeros v ps) m scope u).acts (run_all old body n scope s).acts (next z.behind).acts
            (λ b i. inl (subst IsCalm (sym (z.places b i)) calm))
            (λ b i. let x = sums.3 b i in inr (k, x.0, x.1, x.2)));
      }
