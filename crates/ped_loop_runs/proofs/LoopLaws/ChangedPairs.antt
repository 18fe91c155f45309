-- Two accesses of a list of acts of which parts were changed: each of them stands in a part that stays, or in a changed one, and what the two give is told kind by kind.
use Rattle.std.proofs.Common.{◌≡◌, ◌⊎◌, List, [], ◌∷◌, ◌++◌, subst, inl, inr}
use Rattle.std.proofs.lemmas.Grind.{flat_map-append}
use Rattle.ped_bodies.specs.ped_store.specs.Stores.{Store}
use Rattle.ped_bodies.specs.ped_store.specs.Acts.{Act}
use Rattle.ped_bodies.specs.ped_store.specs.Races.{Access, accesses_of, accesses}
use Rattle.ped_bodies.specs.ped_laws.specs.Acts.Fitting.{store_after}
use Rattle.ped_bodies.specs.ped_laws.specs.Acts.Orders.{IsIn, StandsBefore}
use Rattle.ped_bodies.specs.ped_laws.specs.Acts.Pieces.{Part, same, changed, old_parts, new_parts}
use Rattle.ped_bodies.specs.ped_laws.proofs.ActLaws.Lists.{in_left, in_right, in_parts, first_in, second_in, before_parts}
use Rattle.ped_bodies.specs.ped_laws.proofs.ActLaws.Conflicting.{accesses_in}
use Rattle.ped_bodies.specs.ped_steps.proofs.RunLaws.AccessTouches.{accesses_from}
use Rattle.ped_loop_runs.specs.Pasting.{AreChangedBy}

-- the accesses of acts are among those of more acts
pub in_acts : (acts others : List Act) (c : Access) → ((a : Act) → IsIn a acts → IsIn a others) → IsIn c (accesses acts) → IsIn c (accesses others)
in_acts acts others c sub i = let a = accesses_from acts c i in accesses_in others a.0 c (sub a.0 a.1) a.2

accesses_split : (xs ys : List Act) → accesses (xs ++ ys) ≡ accesses xs ++ accesses ys
accesses_split xs ys = flat_map-append accesses_of xs ys

module _ (xs ys : List Act) (c : Access) where
  in_one : IsIn c (accesses (xs ++ ys)) → IsIn c (accesses xs) ⊎ IsIn c (accesses ys)
  in_one i = in_parts c (accesses xs) (accesses ys) (subst (λ (cs : List Access). IsIn c cs) (accesses_split xs ys) i)

  in_first : IsIn c (accesses xs) → IsIn c (accesses (xs ++ ys))
  in_first i = in_acts xs (xs ++ ys) c (λ a j. in_left a xs ys j) i

  in_second : IsIn c (accesses ys) → IsIn c (accesses (xs ++ ys))
  in_second i = in_acts ys (xs ++ ys) c (λ a j. in_right a xs ys j) i

module _ (By : List Act → List Act → Store → List Act → List Act → Type 0) (olds news : List Act) where
  -- a changed part, among the acts of both lists
  pub record Change : Type 0 where
    pub front : List Act
    pub behind : List Act
    pub store : Store
    pub old : List Act
    pub new : List Act
    pub by : By front behind store old new
    pub sub : (a : Act) → IsIn a old → IsIn a olds
    pub within : (a : Act) → IsIn a new → IsIn a news

  -- two changed parts, the first one before the second
  pub record AreSuccessive (y w : Change) : Type 0 where
    pub before : (a : Act) → IsIn a y.old → IsIn a w.front
    pub after : (a : Act) → IsIn a w.old → IsIn a y.behind

  -- what two accesses give, the first one before the second: both of parts that stay, one of a part that stays before or behind a changed one, both of one changed part, and of two
  pub record Give (Meet : Access → Access → Type 0) (Result : Type 0) : Type 0 where
    pub kept : (b c : Access) → Meet b c → IsIn b (accesses olds) → IsIn c (accesses olds) → Result
    pub before : (y : Change) (b c : Access) → Meet b c → IsIn b (accesses y.front) → IsIn b (accesses olds) → IsIn c (accesses y.new) → Result
    pub behind : (y : Change) (b c : Access) → Meet b c → IsIn b (accesses y.new) → IsIn c (accesses y.behind) → IsIn c (accesses olds) → Result
    pub inside : (y : Change) (b c : Access) → Meet b c → IsIn b (accesses y.new) → IsIn c (accesses y.new) → Result
    pub between : (y w : Change) → AreSuccessive y w → (b c : Access) → Meet b c → IsIn b (accesses y.new) → IsIn c (accesses w.new) → Result

  -- an access of a changed part, which stands behind some acts and among others
  record IsInPlace (ahead rest : List Act) (c : Access) : Type 0 where
    change : Change
    among : IsIn c (accesses change.new)
    earlier : (a : Act) → IsIn a ahead → IsIn a change.front
    later : (a : Act) → IsIn a change.old → IsIn a rest

  module _ (front behind : List Act) (parts : List Part) (s : Store) (old new : List Act) (by : By front (old_parts parts ++ behind) s old new) (sub : (a : Act) → IsIn a (old ++ old_parts parts) → IsIn a olds) (within : (a : Act) → IsIn a (new ++ new_parts parts) → IsIn a news) where
    abbrev change_at : Change
    change_at = record {
      front = front;
      behind = old_parts parts ++ behind;
      store = s;
      old = old;
      new = new;
      by = by;
      sub = λ a i. sub a (in_left a old (old_parts parts) i);
      within = λ a i. within a (in_left a new (new_parts parts) i);
    }

  -- where an access stands
  located : (front : List Act) (parts : List Part) (behind : List Act) (s : Store) → AreChangedBy By front parts behind s → ((a : Act) → IsIn a (old_parts parts) → IsIn a olds) → ((a : Act) → IsIn a (new_parts parts) → IsIn a news)
      → (c : Access) → IsIn c (accesses (new_parts parts)) → IsIn c (accesses (old_parts parts)) ⊎ IsInPlace front (old_parts parts) c
  located front [] behind s changes sub within c i = absurd i
  located front (same acts ∷ parts) behind s changes sub within c i =
      elim (in_one acts (new_parts parts) c i) [
        | inl k ↦ inl (in_first acts (old_parts parts) c k)
        | inr k ↦ elim (located (front ++ acts) parts behind (store_after acts s) changes (λ a j. sub a (in_right a acts (old_parts parts) j)) (λ a j. within a (in_right a acts (new_parts parts) j)) c k) [
          | inl m ↦ inl (in_second acts (old_parts parts) c m)
          | inr m ↦ inr (record { change = m.change; among = m.among; earlier = λ a j. m.earlier a (in_left a front acts j); later = λ a j. in_right a acts (old_parts parts) (m.later a j) })
        ]
      ]
  located front (changed old new ∷ parts) behind s changes sub within c i =
      elim (in_one new (new_parts parts) c i) [
        | inl k ↦ inr (record { change = change_at front behind parts s old new changes.0 sub within; among = k; earlier = λ a j. j; later = λ a j. in_left a old (old_parts parts) j })
        | inr k ↦ elim (located (front ++ old) parts behind (store_after old s) changes.1 (λ a j. sub a (in_right a old (old_parts parts) j)) (λ a j. within a (in_right a new (new_parts parts) j)) c k) [
          | inl m ↦ inl (in_second old (old_parts parts) c m)
          | inr m ↦ inr (record { change = m.change; among = m.among; earlier = λ a j. m.earlier a (in_left a front old j); later = λ a j. in_right a old (old_parts parts) (m.later a j) })
        ]
      ]

  module _ (Meet : Access → Access → Type 0) (Result : Type 0) (give : Give Meet Result) where
    pub pairs_give : (front : List Act) (parts : List Part) (behind : List Act) (s : Store) → AreChangedBy By front parts behind s → ((a : Act) → IsIn a (old_parts parts) → IsIn a olds) → ((a : Act) → IsIn a (new_parts parts) → IsIn a news)
        → (b c : Access) → StandsBefore b c (accesses (new_parts parts)) → Meet b c → Result
    pairs_give front [] behind s changes sub within b c before r = absurd before
    pairs_give front (same acts ∷ parts) behind s changes sub within b c before r =
        elim (before_parts b c (accesses acts) (accesses (new_parts parts)) (subst (λ (cs : List Access). StandsBefore b c cs) (accesses_split acts (new_parts parts)) before)) [
          | inl k ↦ give.kept b c r (of_here b (first_in b c (accesses acts) k)) (of_here c (second_in b c (accesses acts) k))
          | inr k ↦ elim k [
            | inl m ↦ elim (located (front ++ acts) parts behind (store_after acts s) changes later_old later_new c m.1) [
              | inl j ↦ give.kept b c r (of_here b m.0) (in_acts (old_parts parts) olds c later_old j)
              | inr j ↦ give.before j.change b c r (in_acts acts j.change.front b (λ a i. j.earlier a (in_right a front acts i)) m.0) (of_here b m.0) j.among
            ]
            | inr m ↦ pairs_give (front ++ acts) parts behind (store_after acts s) changes later_old later_new b c m r
          ]
        ]
      where
        later_old : (a : Act) → IsIn a (old_parts parts) → IsIn a olds
        later_old a j = sub a (in_right a acts (old_parts parts) j)

        later_new : (a : Act) → IsIn a (new_parts parts) → IsIn a news
        later_new a j = within a (in_right a acts (new_parts parts) j)

        of_here : (y : Access) → IsIn y (accesses acts) → IsIn y (accesses olds)
        of_here y i = in_acts acts olds y (λ a j. sub a (in_left a acts (old_parts parts) j)) i
    pairs_give front (changed old new ∷ parts) behind s changes sub within b c before r =
        elim (before_parts b c (accesses new) (accesses (new_parts parts)) (subst (λ (cs : List Access). StandsBefore b c cs) (accesses_split new (new_parts parts)) before)) [
          | inl k ↦ give.inside here b c r (first_in b c (accesses new) k) (second_in b c (accesses new) k)
          | inr k ↦ elim k [
            | inl m ↦ elim (located (front ++ old) parts behind (store_after old s) changes.1 later_old later_new c m.1) [
              | inl j ↦ give.behind here b c r m.0 (in_acts (old_parts parts) here.behind c (λ a i. in_left a (old_parts parts) behind i) j) (in_acts (old_parts parts) olds c later_old j)
              | inr j ↦ give.between here j.change (record { before = λ a i. j.earlier a (in_right a front old i); after = λ a i. in_left a (old_parts parts) behind (j.later a i) }) b c r m.0 j.among
            ]
            | inr m ↦ pairs_give (front ++ old) parts behind (store_after old s) changes.1 later_old later_new b c m r
          ]
        ]
      where
        here : Change
        here = change_at front behind parts s old new changes.0 sub within

        later_old : (a : Act) → IsIn a (old_parts parts) → IsIn a olds
        later_old a j = sub a (in_right a old (old_parts parts) j)

        later_new : (a : Act) → IsIn a (new_parts parts) → IsIn a news
        later_new a j = within a (in_right a new (new_parts parts) j)
