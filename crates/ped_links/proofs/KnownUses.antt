-- Whether a dummy argument is used so, and whether CALLs lead back, is known.
use Rattle.std.proofs.Common.{◌≡◌, inl, inr, ℕ, ◌<◌, ◌↔◌, List, [], ◌∷◌, Bool, true, false, Option, Some, None, length, refl, sym, subst, ◌∙◌}
use Rattle.std.specs.Prelude.{◌||◌}
use Rattle.std.specs.Cmp.Lexicographic.{same_text}
use Rattle.ped_base.specs.Lists.{is_same_text, is_among}
use Rattle.ped_units.specs.Units.{ProgramUnit, ProgramUnits, all_units}
use Rattle.ped_units.specs.Linking.{IsIn, Placed, calls_of, Association, associated, IsUsed}
use Rattle.ped_links.specs.Arguments.{formal_count, formal_number, IsPassed, ArePassed, IsSeed}
use Rattle.ped_links.specs.Numbers.{number_of_unit}
use Rattle.ped_links.specs.Placing.{argument_name}
use Rattle.ped_links.specs.Reaching.{Leads, IsReached}
use Rattle.ped_links.specs.Scenes.{unit_at, CallsAt}
use Rattle.ped_links.proofs.FormalNumbers.{numbered_there}
use Rattle.ped_links.proofs.Known.{IsKnown, fails, known_true, known_both, known_as, HasOne, known_one, known_less, known_some, known_there}
use Rattle.ped_links.proofs.KnownArrows.{numbers, in_numbers, numbers_in, known_reached, those, in_those, those_in, listed_arrows, listed_are}
use Rattle.ped_links.proofs.NumberedUnits.{unit_of_number}
use Rattle.ped_links.proofs.Used.{reached_used, used_reached}

module _ (us : ProgramUnits) where
  abbrev count : ℕ
  count = length (all_units us)

  -- CALLs of units

  known_calls : (k i : ℕ) → IsKnown (CallsAt us i k)
  known_calls k i =
      known_both (known_less i count)
      (known_as
      (λ h. (h.one, h.is_in, h.stands))
      (λ h. record { one = h.0; is_in = h.1; stands = h.2 })
      (known_one (λ (p : Placed). number_of_unit (all_units us) p.called.name ≡ Some k) (calls_of (unit_at us i)) (λ p is. known_some (number_of_unit (all_units us) p.called.name) k)))

  calls_below : (k i : ℕ) → CallsAt us i k → (k < count) × (i < count)
  calls_below k i h = ((unit_of_number us h.1.0.called.name k h.1.2).1, h.0)

  -- for each unit those that call it
  pub callers_listed : List (List ℕ)
  callers_listed = listed_arrows (λ k i. CallsAt us i k) known_calls count calls_below

  pub callers_are : (k i : ℕ) → Leads callers_listed k i ↔ CallsAt us i k
  unfolding callers_listed
  callers_are = listed_are (λ k i. CallsAt us i k) known_calls count calls_below

  -- dummy arguments that are passed for others

  abbrev formals : ℕ
  formals = formal_count (all_units us)

  -- an association passes one for another
  abbrev Passes : ℕ → ℕ → ℕ → ℕ → Association → Type 0
  Passes i k from to a =
      ((x : List ℕ) × (argument_name a.argument ≡ Some x) × (formal_number (all_units us) i x ≡ Some to))
      × (formal_number (all_units us) k a.formal ≡ Some from)

  -- a CALL does
  abbrev CallPasses : ℕ → ℕ → ℕ → ℕ → Placed → Type 0
  CallPasses i k from to p = (number_of_unit (all_units us) p.called.name ≡ Some k) × HasOne (Passes i k from to) (associated (unit_at us k) p.called)

  known_passed : (i k from to : ℕ) → IsKnown (IsPassed us i k from to)
  known_passed i k from to =
      known_as
      (λ h. record {
        call = h.one;
        is_call = h.is_in;
        is_unit = h.stands.0;
        association = h.stands.1.one;
        associates = h.stands.1.is_in;
        formal = h.stands.1.stands.0.0;
        passes = h.stands.1.stands.0.1;
        begins = h.stands.1.stands.1;
        ends = h.stands.1.stands.0.2;
      })
      (λ p. record { one = p.call; is_in = p.is_call; stands = (p.is_unit, record { one = p.association; is_in = p.associates; stands = ((p.formal, p.passes, p.ends), p.begins) }) })
      (known_one (CallPasses i k from to) (calls_of (unit_at us i)) (λ p is.
      known_both (known_some (number_of_unit (all_units us) p.called.name) k)
      (known_one (Passes i k from to) (associated (unit_at us k) p.called) (λ a in_them.
      known_both
      (known_there (argument_name a.argument) (λ (x : List ℕ). formal_number (all_units us) i x ≡ Some to) (λ x e. known_some (formal_number (all_units us) i x) to))
      (known_some (formal_number (all_units us) k a.formal) from)))))

  known_passes : (from to : ℕ) → IsKnown (ArePassed us from to)
  known_passes from to =
      known_as
      (λ h. (h.one, h.stands.one, numbers_in count h.one h.is_in, h.stands.stands))
      (λ a. record {
        one = a.0;
        is_in = in_numbers count a.0 a.2;
        stands = record { one = a.1; is_in = in_numbers count a.1 (unit_of_number us a.3.call.called.name a.1 a.3.is_unit).1; stands = a.3 };
      })
      (known_one (λ (i : ℕ). HasOne (λ (k : ℕ). IsPassed us i k from to) (numbers count)) (numbers count) (λ i is.
      known_one (λ (k : ℕ). IsPassed us i k from to) (numbers count) (λ k also. known_passed i k from to)))

  passes_below : (from to : ℕ) → ArePassed us from to → (from < formals) × (to < formals)
  passes_below from to a =
      ((numbered_there (all_units us) a.1 a.3.association.formal from a.3.begins).below, (numbered_there (all_units us) a.0 a.3.formal to a.3.ends).below)

  abbrev passes_listed : List (List ℕ)
  passes_listed = listed_arrows (ArePassed us) known_passes formals passes_below

  passes_are : (from to : ℕ) → Leads passes_listed from to ↔ ArePassed us from to
  passes_are = listed_are (ArePassed us) known_passes formals passes_below

  -- those that their own units use

  among_in : (x : List ℕ) (xs : List (List ℕ)) → is_among x xs ≡ true → IsIn x xs
  among_in x [] h = absurd cc
  among_in x (y ∷ ys) h = by (λ k. among_in x ys k) (is_same_text x y) refl h
    where
      by : (is_among x ys ≡ true → IsIn x ys) → (b : Bool) → is_same_text x y ≡ b → (b || is_among x ys) ≡ true → IsIn x (y ∷ ys)
      by others true e k = inl (same_text x y (sym e))
      by others false e k = inr (others k)

  -- a dummy argument of a unit is used by it, and has this number
  abbrev UsesHere : (ProgramUnit → List (List ℕ)) → ℕ → ℕ → List ℕ → Type 0
  UsesHere own n k x = ((is_among x (unit_at us k).formals ≡ true) × (is_among x (own (unit_at us k)) ≡ true)) × (formal_number (all_units us) k x ≡ Some n)

  known_seed : (own : ProgramUnit → List (List ℕ)) (n : ℕ) → IsKnown (IsSeed own us n)
  known_seed own n =
      known_as
      (λ h. (h.one, h.stands.one, numbers_in count h.one h.is_in, h.stands.stands.0.0, h.stands.stands.0.1, h.stands.stands.1))
      (λ s. record {
        one = s.0;
        is_in = in_numbers count s.0 s.2;
        stands = record { one = s.1; is_in = among_in s.1 (unit_at us s.0).formals s.3; stands = ((s.3, s.4), s.5) };
      })
      (known_one (λ (k : ℕ). HasOne (UsesHere own n k) (unit_at us k).formals) (numbers count) (λ k is.
      known_one (UsesHere own n k) (unit_at us k).formals (λ x also.
      known_both (known_both (known_true (is_among x (unit_at us k).formals)) (known_true (is_among x (own (unit_at us k))))) (known_some (formal_number (all_units us) k x) n))))

  abbrev seeds_listed : (ProgramUnit → List (List ℕ)) → List ℕ
  seeds_listed own = those (IsSeed own us) (known_seed own) (numbers formals)

  seeds_are : (own : ProgramUnit → List (List ℕ)) (n : ℕ) → IsIn n (seeds_listed own) ↔ IsSeed own us n
  seeds_are own n = (
    λ h. (in_those (IsSeed own us) (known_seed own) (numbers formals) n h).1,
    λ s. those_in (IsSeed own us) (known_seed own) (numbers formals) n (in_numbers formals n (numbered_there (all_units us) s.0 s.1 n s.5).below) s,
  )

  module _ (own : ProgramUnit → List (List ℕ)) (k : ℕ) (x : List ℕ) (below : k < count) where
    at_number : IsUsed own us (unit_at us k) x → (n : ℕ) × (formal_number (all_units us) k x ≡ Some n) × IsReached passes_listed (seeds_listed own) n
    at_number used = used_reached own us passes_listed (seeds_listed own) used.0 (record { unit = unit_at us k; formal = x }) k passes_are (seeds_are own) below refl used.1

    used_by : (o : Option ℕ) → formal_number (all_units us) k x ≡ o → IsKnown (IsUsed own us (unit_at us k) x)
    used_by None e = fails (λ used. let at = at_number used in none at.0 (sym e ∙ at.1))
      where
        none : (n : ℕ) → ◌≡◌ {A = Option ℕ} None (Some n) → ⊥
        none n h = cc
    used_by (Some m) e =
        known_as
        (λ r. reached_used own us passes_listed (seeds_listed own) m passes_are (seeds_are own) r k x below e)
        (λ used. let at = at_number used in subst (IsReached passes_listed (seeds_listed own)) (sym (same at.0 (sym e ∙ at.1))) at.2)
        (known_reached passes_listed (seeds_listed own) m)
      where
        same : (n : ℕ) → Some m ≡ Some n → m ≡ n
        same n h = cc

    -- it is known whether a dummy argument is used so
    pub known_used : IsKnown (IsUsed own us (unit_at us k) x)
    known_used = used_by (formal_number (all_units us) k x) refl
