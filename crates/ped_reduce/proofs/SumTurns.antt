-- The turns of a DO in which sums are kept apart: the elements of each iteration tell what it has added, from the first to the last.
use Rattle.std.proofs.Common.{◌≡◌, ℕ, zero, suc, ◌+◌, ◌≤◌, ◌<◌, ℤ, List, [], ◌∷◌, ◌++◌, length, Bool, true, false, ◌&&◌, inl, inr, refl, sym, ap, subst, ◌∙◌, if◌then◌else◌, arith}
use Rattle.std.specs.Prelude.{◌==◌}
use Rattle.std.specs.Ordering.{int_eq}
use Rattle.std.specs.Cmp.Lexicographic.{pointwise}
use Rattle.std.proofs.lemmas.Bool.{and_parts}
use Rattle.ped_base.specs.Dimensions.{Dimensions}
use Rattle.ped_tree.specs.Tree.{StmtTrees}
use Rattle.ped_tree.specs.Numbering.{statements_count}
use Rattle.ped_rules.specs.ped_steps.specs.Replacing.{followed}
use Rattle.ped_rules.specs.ped_store.specs.Cells.{Cell, Scalar, Element, Private, In, Out, same_cell}
use Rattle.ped_rules.specs.ped_store.specs.Stores.{Store}
use Rattle.ped_rules.specs.ped_store.specs.Acts.{Touch, Place, ended_turn, Act, store_behind}
use Rattle.ped_rules.specs.ped_laws.specs.Acts.Orders.{IsIn}
use Rattle.ped_rules.specs.ped_laws.proofs.ActLaws.SameCells.{text_itself, cell_is}
use Rattle.ped_rules.specs.ped_eval.specs.Scopes.{Setting, Frame, Scope, turns_of, names_in, place_of}
use Rattle.ped_rules.specs.ped_eval.specs.Loops.{Entered, frame, value_in, exit_touches, exit_when_none}
use Rattle.ped_rules.specs.ped_eval.specs.Runs.{Ending, going, stopped, failed, Run, followed_by, then_run, does, turns, run_all}
use Rattle.ped_rules.specs.ped_laws.specs.Runs.Replaying.{act}
use Rattle.ped_reduce.specs.Lowering.{Partials, zeros, all_summed}
use Rattle.ped_reduce.proofs.SumStores.{is_array_of, is_array, is_apart, is_own, part, Adds, Within, AreSmall, HaveArrays, high_array, low_array, flag_array, array_apart, adds_same, within_touches}
use Rattle.ped_reduce.proofs.SumSight.{AllTouch}
use Rattle.ped_reduce.proofs.SumSteps.{StandsAt}
use Rattle.ped_reduce.proofs.SumParts.{going_then}
use Rattle.ped_reduce.proofs.SumBodies.{AreClear, CountAlike}
use Rattle.ped_reduce.proofs.SumTrips.{IsCalm, AreNew, new_append, small_behind, TripGoes, trip_goes}

-- a trip of the old DO: the variable's value, and the stores before and behind it
pub record Trip : Type 0 where
  pub value : ℤ
  pub before : Store
  pub after : Store

-- the trips from this iteration on
abbrev pub AreTrips : Entered → ℕ → List Trip → Type 0
AreTrips e j [] = Unit {0}
AreTrips e j (t ∷ ts) = (t.value ≡ value_in e j) × AreTrips e (j + 1) ts

-- the first subscript of an element
abbrev first_subscript : ℤ → Cell → ℤ
first_subscript other (Element y (i ∷ js)) = i
first_subscript other (Element y []) = other
first_subscript other (Scalar y) = other
first_subscript other (Private y path) = other
first_subscript other In = other
first_subscript other Out = other

module _ (ps : List Partials) where
  -- the scalars hold the same
  abbrev pub SameTotals : Store → Store → Type 0
  SameTotals s t = (p : Partials) → IsIn p ps → t (Scalar p.scalar) ≡ s (Scalar p.scalar)

  -- what the scalars hold goes from the first store through the trips to the last one
  abbrev pub Chain : Store → List Trip → Store → Type 0
  Chain s [] t = SameTotals s t
  Chain s (x ∷ xs) t = SameTotals s x.before × Chain x.after xs t

  -- the store's elements at the trip's value tell what it has added
  abbrev pub IsToldIn : Store → Trip → Type 0
  IsToldIn u t = (p : Partials) → IsIn p ps → Adds (t.before (Scalar p.scalar)) (u (part p.high t.value)) (u (part p.low t.value)) (u (part p.flag t.value)) (t.after (Scalar p.scalar))

  abbrev pub AreTold : Store → List Trip → Type 0
  AreTold u [] = Unit {0}
  AreTold u (t ∷ ts) = IsToldIn u t × AreTold u ts

  -- an element at one value is none of those at another
  pub own_value : (k j : ℤ) (x : List ℕ) → is_own ps k (part x j) ≡ true → k ≡ j
  own_value k j x h =
      let same : same_cell (part x k) (part x j) ≡ true = ap (λ (b : Bool). b && pointwise int_eq (k ∷ []) (j ∷ [])) (text_itself x) ∙ (and_parts (is_array ps x) (pointwise int_eq (k ∷ []) (j ∷ [])) h).1 in
      ap (first_subscript k) (cell_is (part x k) (part x j) same)

  pub not_at : (k j : ℤ) (x : List ℕ) → (k ≡ j → ⊥) → is_own ps k (part x j) ≡ false
  not_at k j x differ = go (is_own ps k (part x j)) refl
    where
      go : (b : Bool) → is_own ps k (part x j) ≡ b → is_own ps k (part x j) ≡ false
      go true e = absurd (differ (own_value k j x e))
      go false e = e

-- a run that goes on has gone on from its first part
pub then_went : (r : Run) (next : Store → Run) (t : Store) → (then_run r next).ending ≡ going t → (s : Store) × (r.ending ≡ going s) × ((next s).ending ≡ going t)
then_went r next t h = go r.ending refl h
  where
    go : (e : Ending) → r.ending ≡ e → (followed_by r.acts e next).ending ≡ going t → (s : Store) × (r.ending ≡ going s) × ((next s).ending ≡ going t)
    go (going s) q k = (s, q, k)
    go (stopped s) q k = absurd cc
    go (failed fault n) q k = absurd cc

pub going_is : (s t : Store) → going s ≡ going t → s ≡ t
going_is s t e = cc

module _ (bounds : List ℕ → Dimensions) (constants : List (List ℕ × ℤ)) (f f' : ℕ → ℕ) (ps : List Partials) (arrays : HaveArrays ps) (v : List ℕ) (told : Cell) (body : StmtTrees) (n m : ℕ) (scope : Scope) (e : Entered) where
  abbrev old : Setting
  old = record { bounds = bounds; constants = constants; number = f }

  abbrev new : Setting
  new = record { bounds = bounds; constants = constants; number = f' }

  abbrev at : Place
  at = place_of old n scope

  abbrev at' : Place
  at' = place_of new m scope

  abbrev old_body : Frame → Store → Run
  old_body x = run_all old body (n + 1) (x ∷ scope)

  abbrev new_body : Frame → Store → Run
  new_body x = run_all new (followed (zeros v ps) (all_summed v ps body)) (m + 1) (x ∷ scope)

  abbrev P : Cell → Type 0
  P c = is_apart ps c ≡ false

  -- what is asked of the DO: sums alone refer to the scalars; statements that stay count alike; no PARALLEL DO is round it, nor is it one; in each iteration the scalars are read from their own cells, and the elements lie within the bounds; it stores nothing of itself in the scalars; and its variable has another value in each iteration
  pub record IsOfSums : Type 0 where
    pub clear : AreClear ps v body
    pub counts : CountAlike f f' v ps body (n + 1) (m + 1 + statements_count (zeros v ps))
    pub calm : (j : ℕ) → IsCalm (turns_of (frame e j ∷ scope))
    pub outer : IsCalm (turns_of scope)
    pub stands : (j : ℕ) → 1 ≤ j → j ≤ e.count → StandsAt ps (names_in old (frame e j ∷ scope)) v (value_in e j) told
    pub exits : AllTouch P (exit_touches e scope)
    pub differ : (i j : ℕ) → 1 ≤ i → i < j → j ≤ e.count → value_in e j ≡ value_in e i → ⊥

  -- turns of the new DO, which go on where those of the old one do
  pub record TurnsGo (left j : ℕ) (s t u : Store) : Type 0 where
    pub behind : Store
    pub ending : (turns left j e scope at' new_body u).ending ≡ going behind
    pub same : (c : Cell) → is_apart ps c ≡ false → behind c ≡ t c
    pub preserved : (c : Cell) → is_apart ps c ≡ true → ((i : ℕ) → j ≤ i → i ≤ e.count → is_own ps (value_in e i) c ≡ false) → behind c ≡ u c
    pub trail : List Trip
    pub many : length trail ≡ left
    pub trips : AreTrips e j trail
    pub chain : Chain ps s trail t
    pub tell : AreTold ps behind trail
    pub small : AreSmall ps t
    pub acts : AreNew ps told (turns left j e scope at old_body s).acts (turns left j e scope at' new_body u).acts

  module _ (sums : IsOfSums) where
    pub when_kept : (left : ℕ) → AllTouch P (exit_when_none left e scope)
    when_kept left = go (left == 0)
      where
        go : (b : Bool) → AllTouch P (if b then exit_touches e scope else [])
        go true = sums.exits
        go false = tt

    none_left : (j : ℕ) (s t u : Store) → AreSmall ps s → ((c : Cell) → is_apart ps c ≡ false → u c ≡ s c) → s ≡ t → TurnsGo 0 j s t u
    none_left j s t u small same q = record {
      behind = u;
      ending = refl;
      same = λ c h. same c h ∙ ap (λ (x : Store). x c) q;
      preserved = λ c a h. refl;
      trail = [];
      many = refl;
      trips = tt;
      chain = λ p i. ap (λ (x : Store). x (Scalar p.scalar)) (sym q);
      tell = tt;
      small = subst (AreSmall ps) q small;
      acts = λ b i. absurd i;
    }

    -- one turn, and then those that are left
    module _ (left j : ℕ) (from : 1 ≤ j) (last : j + suc left ≡ e.count + 1) (s t u : Store) (small : AreSmall ps s) (same : (c : Cell) → is_apart ps c ≡ false → u c ≡ s c) (t1 : Store) (went : (old_body (frame e j) s).ending ≡ going t1) where
      abbrev k : ℤ
      k = value_in e j

      abbrev ts : List Touch
      ts = exit_when_none left e scope

      trip : TripGoes bounds constants f f' ps arrays v k told body (n + 1) (m + 1) (frame e j ∷ scope) s t1 u
      trip = trip_goes bounds constants f f' ps arrays v k told body (n + 1) (m + 1) (frame e j ∷ scope) sums.clear sums.counts (sums.stands j from (omega (arith, last))) (sums.calm j) s t1 u small same went

      abbrev u1 : Store
      u1 = trip.behind

      abbrev s2 : Store
      s2 = store_behind ts t1

      abbrev u2 : Store
      u2 = store_behind ts u1

      within : Within ps k s u s2 u2
      within = within_touches ps k s u ts t1 u1 (when_kept left) trip.within

      abbrev old_next : Store → Run
      old_next = does (ended_turn left) at ts (turns left (j + 1) e scope at old_body)

      abbrev new_next : Store → Run
      new_next = does (ended_turn left) at' ts (turns left (j + 1) e scope at' new_body)

      module _ (rest : TurnsGo left (j + 1) s2 t u2) where
        abbrev z : Store
        z = rest.behind

        old_is : turns (suc left) j e scope at old_body s ≡ record { acts = (old_body (frame e j) s).acts ++ (old_next t1).acts; ending = (old_next t1).ending }
        old_is = going_then (old_body (frame e j) s) t1 old_next went

        new_is : turns (suc left) j e scope at' new_body u ≡ record { acts = (new_body (frame e j) u).acts ++ (new_next u1).acts; ending = (new_next u1).ending }
        new_is = going_then (new_body (frame e j) u) u1 new_next trip.ending

        -- the elements of this turn stay as they are
        stays : (p : Partials) (x : List ℕ) → IsIn p ps → is_array_of p x ≡ true → z (part x k) ≡ u2 (part x k)
        stays p x i own = rest.preserved (part x k) (array_apart ps p x i own) (λ i lower upper. not_at ps (value_in e i) k x (λ q. sums.differ j i from (omega (arith, lower)) upper q))

        ended_new : AreNew ps told (act (ended_turn left) at ts ∷ []) (act (ended_turn left) at' ts ∷ [])
        ended_new b (inl q) = inl (subst (λ (a : Act). IsCalm a.place.turns) (sym q) sums.outer)
        ended_new b (inr i) = absurd i

        next_new : AreNew ps told (old_next t1).acts (new_next u1).acts
        next_new = new_append ps told (act (ended_turn left) at ts ∷ []) (act (ended_turn left) at' ts ∷ []) (turns left (j + 1) e scope at old_body s2).acts (turns left (j + 1) e scope at' new_body u2).acts ended_new rest.acts

        both_new : AreNew ps told ((old_body (frame e j) s).acts ++ (old_next t1).acts) ((new_body (frame e j) u).acts ++ (new_next u1).acts)
        both_new = new_append ps told (old_body (frame e j) s).acts (new_body (frame e j) u).acts (old_next t1).acts (new_next u1).acts trip.acts next_new

        one_more : TurnsGo (suc left) j s t u
        one_more = record {
          behind = z;
          ending = ap (λ (r : Run). r.ending) new_is ∙ rest.ending;
          same = rest.same;
          preserved = λ c a h. rest.preserved c a (λ i lower upper. h i (omega (arith, lower)) upper) ∙ within.others c a (h j (omega arith) (omega (arith, last)));
          trail = record { value = k; before = s; after = s2 } ∷ rest.trail;
          many = ap suc rest.many;
          trips = (refl, rest.trips);
          chain = ((λ p i. refl), rest.chain);
          tell = (
            (λ p i. adds_same (s (Scalar p.scalar)) (u2 (part p.high k)) (u2 (part p.low k)) (u2 (part p.flag k)) (s2 (Scalar p.scalar)) (z (part p.high k)) (z (part p.low k)) (z (part p.flag k)) (s2 (Scalar p.scalar))
                (stays p p.high i (high_array p)) (stays p p.low i (low_array p)) (stays p p.flag i (flag_array p)) refl (within.sums p i)),
            rest.tell,
          );
          small = rest.small;
          acts = subst (λ (x : List Act). AreNew ps told x (turns (suc left) j e scope at' new_body u).acts) (sym (ap (λ (r : Run). r.acts) old_is))
              (subst (AreNew ps told ((old_body (frame e j) s).acts ++ (old_next t1).acts)) (sym (ap (λ (r : Run). r.acts) new_is)) both_new);
        }

    pub turns_add : (left j : ℕ) → 1 ≤ j → j + left ≡ e.count + 1 → (s t u : Store) → AreSmall ps s → ((c : Cell) → is_apart ps c ≡ false → u c ≡ s c) → (turns left j e scope at old_body s).ending ≡ going t → TurnsGo left j s t u
    turns_add zero j from last s t u small same h = none_left j s t u small same (going_is s t h)
    turns_add (suc left) j from last s t u small same h =
        let w = then_went (old_body (frame e j) s) (does (ended_turn left) at (exit_when_none left e scope) (turns left (j + 1) e scope at old_body)) t h in
        let t1 = w.0 in
        let ts = exit_when_none left e scope in
        let trip_within = within left j from last s t u small same t1 w.1 in
        one_more left j from last s t u small same t1 w.1
        (turns_add left (j + 1) (omega (arith, from)) (omega (arith, last)) (store_behind ts t1) t (store_behind ts (trip left j from last s t u small same t1 w.1).behind)
        (small_behind ps (value_in e j) s u (store_behind ts t1) (store_behind ts (trip left j from last s t u small same t1 w.1).behind) small trip_within) trip_within.same w.2)
