-- Which of the rules of CALLs that stand in a file is the first is known.
use Rattle.std.proofs.Common.{◌≡◌, ◌⊎◌, inl, inr, ℕ, zero, suc, ◌+◌, ◌<◌, List, [], ◌∷◌, map, length, true, false, Option, Some, None, refl, sym, ap, subst, ◌∙◌, arith}
use Rattle.std.specs.Prelude.{IsTrue}
use Rattle.ped_tree.specs.Tree.{Head}
use Rattle.ped_tree.specs.Grammar.ProgramRefusals.{meets}
use Rattle.ped_units.specs.ped_valid.specs.ped_symbols.specs.NameRefusals.{has_twice}
use Rattle.ped_units.specs.ped_valid.specs.ped_symbols.specs.Sites.{Site, declaration, statement, private_names}
use Rattle.ped_units.specs.Units.{ProgramUnit, ProgramUnits, all_units, unit_of}
use Rattle.ped_units.specs.Linking.{IsIn, Placed, calls_of, LinkRefusal, NoUnit, Recursion, Arguments, Aliased, CallPlace, Sited, sites_of, IsAtCall, HasPrivateFormal, OfCalled, CallsNoUnit, IsInParallel, HasBadArguments, IsAliased, Stands, IsFirstLink, IsLinked}
use Rattle.ped_units.specs.Verdicts.{of_links}
use Rattle.ped_units.specs.Views.{rule_of}
use Rattle.ped_links.specs.FirstLinks.{first_link_of, IsFirstOf, EitherStands, StandsIf}
use Rattle.ped_links.specs.Numbers.{number_of_unit}
use Rattle.ped_links.specs.Placing.{placed_call}
use Rattle.ped_links.specs.Reaching.{IsReached}
use Rattle.ped_links.specs.Recursions.{IsLeading}
use Rattle.ped_links.specs.Scenes.{unit_at, AtHeads, AtPlaces, AtRecursions, AtArguments}
use Rattle.ped_links.specs.declared.placing.PlacedCall.{PlacedCall}
use Rattle.ped_units.specs.declared.refusals.UnitRule.{UnitRule}
use Rattle.ped_units.specs.declared.refusals.UnitRule.TheVariants as rule
use Rattle.ped_units.specs.declared.refusals.UnitFinding.{UnitFinding}
use Rattle.ped_links.proofs.FirstFound.{first_as, both_first, one_first}
use Rattle.ped_links.proofs.Heads.{HeadsBelow, RepeatsHere, heads_from, heads_to, no_heads, heads_more}
use Rattle.ped_links.proofs.Known.{IsKnown, holds, fails, known_true, known_both, known_as, HasOne, known_one, known_less, known_none, known_there}
use Rattle.ped_links.proofs.KnownArrows.{numbers, in_numbers, numbers_in, known_reached}
use Rattle.ped_links.proofs.KnownMisfits.{known_bad_call, known_aliased_call}
use Rattle.ped_links.proofs.KnownUses.{callers_listed, callers_are}
use Rattle.ped_links.proofs.LinkStages.{first_of_stages}
use Rattle.ped_links.proofs.Recursive.{leading_recurs, recursive_leads}

-- the first of those that stand so is known
pub record FirstKnown (stands : LinkRefusal → ℕ → Type 0) : Type 0 where
  pub found : Option UnitFinding
  pub first : IsFirstOf stands found

none_known : (stands : LinkRefusal → ℕ → Type 0) → ((r : LinkRefusal) (line : ℕ) → stands r line → ⊥) → FirstKnown stands
none_known stands n = record { found = None; first = n }

both_known : (one other : LinkRefusal → ℕ → Type 0) → FirstKnown one → FirstKnown other → FirstKnown (EitherStands one other)
both_known one other a b = record { found = first_link_of a.found b.found; first = both_first one other a.found b.found a.first b.first }

same_known : (one other : LinkRefusal → ℕ → Type 0) → ((r : LinkRefusal) (line : ℕ) → one r line → other r line) → ((r : LinkRefusal) (line : ℕ) → other r line → one r line) → FirstKnown one → FirstKnown other
same_known one other f g a = record { found = a.found; first = first_as one other a.found f g a.first }

-- a rule at a line, where it is known whether something holds
if_known : (code : UnitRule) (line : ℕ) (r : LinkRefusal) (P : Type 0) → rule_of code ≡ of_links r → IsKnown P → FirstKnown (StandsIf r line P)
if_known code line r P e (holds p) = record { found = Some (record { rule = code; line = line }); first = one_first code line r P e p }
if_known code line r P e (fails n) = none_known (StandsIf r line P) (λ q other s. n s.2)

-- what stands for one of a list
abbrev OfList : {X : Type 0} → List X → (X → LinkRefusal → ℕ → Type 0) → LinkRefusal → ℕ → Type 0
OfList xs S r line = HasOne (λ x. S x r line) xs

list_known : {X : Type 0} (S : X → LinkRefusal → ℕ → Type 0) (xs : List X) → ((x : X) → IsIn x xs → FirstKnown (S x)) → FirstKnown (OfList xs S)
list_known S [] k = none_known (OfList [] S) (λ r line h. h.is_in)
list_known {X} S (x ∷ xs) k =
    same_known (EitherStands (S x) (OfList xs S)) (OfList (x ∷ xs) S) together apart (both_known (S x) (OfList xs S) (k x (inl refl)) (list_known S xs (λ y i. k y (inr i))))
  where
    together : (r : LinkRefusal) (line : ℕ) → EitherStands (S x) (OfList xs S) r line → OfList (x ∷ xs) S r line
    together r line (inl s) = record { one = x; is_in = inl refl; stands = s }
    together r line (inr h) = record { one = h.one; is_in = inr h.is_in; stands = h.stands }

    apart : (r : LinkRefusal) (line : ℕ) → OfList (x ∷ xs) S r line → EitherStands (S x) (OfList xs S) r line
    apart r line h = elim h.is_in [
      | inl e ↦ inl (subst (λ (y : X). S y r line) e h.stands)
      | inr i ↦ inr (record { one = h.one; is_in = i; stands = h.stands })
    ]

module _ (us : ProgramUnits) where
  -- a rule stands at the CALLs for which something holds
  abbrev AtCalls : LinkRefusal → (ProgramUnit → Placed → Type 0) → LinkRefusal → ℕ → Type 0
  AtCalls rule holds_there r line = (r ≡ rule) × IsAtCall us line holds_there

  -- the same, CALL by CALL
  abbrev CallByCall : LinkRefusal → (ProgramUnit → Placed → Type 0) → LinkRefusal → ℕ → Type 0
  CallByCall rule holds_there = OfList (all_units us) (λ u. OfList (calls_of u) (λ p. StandsIf rule p.line (holds_there u p)))

  calls_known : (code : UnitRule) (r : LinkRefusal) (P : ProgramUnit → Placed → Type 0) → rule_of code ≡ of_links r → ((u : ProgramUnit) (p : Placed) → IsKnown (P u p)) → FirstKnown (AtCalls r P)
  calls_known code r P e k =
      same_known (CallByCall r P) (AtCalls r P)
      (λ q line h. (h.stands.stands.0, record { unit = h.one; is_unit = h.is_in; call = h.stands.one; is_call = h.stands.is_in; stands = h.stands.stands.2; there = sym h.stands.stands.1 }))
      (λ q line a. record { one = a.1.unit; is_in = a.1.is_unit; stands = record { one = a.1.call; is_in = a.1.is_call; stands = (a.0, sym a.1.there, a.1.stands) } })
      (list_known (λ (u : ProgramUnit). OfList (calls_of u) (λ (p : Placed). StandsIf r p.line (P u p))) (all_units us) (λ u is.
      list_known (λ (p : Placed). StandsIf r p.line (P u p)) (calls_of u) (λ p also. if_known code p.line r (P u p) e (k u p))))

  -- at SUBROUTINE statements

  repeats_known : (n : ℕ) → IsKnown (RepeatsHere us n)
  repeats_known n = known_both (known_less 0 n) (known_there (number_of_unit (all_units us) (unit_at us n).name) (λ (j : ℕ). j < n) (λ j e. known_less j n))

  never : false ≡ true → ⊥
  never h = cc

  head_known : (n : ℕ) → IsKnown (RepeatsHere us n) → FirstKnown (HeadsBelow us n) → FirstKnown (HeadsBelow us (n + 1))
  head_known n (holds p) a = record { found = _; first = heads_more us n a.found true (has_twice (unit_at us n).formals) a.first (λ e. p) (λ q. refl) refl }
  head_known n (fails f) a = record { found = _; first = heads_more us n a.found false (has_twice (unit_at us n).formals) a.first (λ e. absurd (never e)) (λ q. absurd (f q)) refl }

  heads_below : (n : ℕ) → FirstKnown (HeadsBelow us n)
  heads_below zero = record { found = None; first = no_heads us }
  heads_below (suc n) =
      let more : n + 1 ≡ suc n = omega arith in
      subst (λ (m : ℕ). FirstKnown (HeadsBelow us m)) more (head_known n (repeats_known n) (heads_below n))

  heads_known : FirstKnown (AtHeads us)
  heads_known =
      let n = length (all_units us) in
      same_known (HeadsBelow us n) (AtHeads us) (heads_from us n refl) (heads_to us n refl) (heads_below n)

  -- at CALLs and PRIVATE statements, whatever is called

  -- a PRIVATE statement names a dummy argument
  abbrev NamesFormal : ProgramUnit → Site → Type 0
  NamesFormal u s = (names : List (List ℕ)) × (s ≡ private_names names) × IsTrue (meets names u.formals)

  formal_known : (u : ProgramUnit) (s : Site) → IsKnown (NamesFormal u s)
  formal_known u (declaration d) = fails (λ h. other h.0 h.1)
    where
      other : (names : List (List ℕ)) → declaration d ≡ private_names names → ⊥
      other names e = cc
  formal_known u (statement s) = fails (λ h. other h.0 h.1)
    where
      other : (names : List (List ℕ)) → statement s ≡ private_names names → ⊥
      other names e = cc
  formal_known u (private_names xs) = known_as (λ m. (xs, refl, m)) (λ h. ap (λ (ys : List (List ℕ)). meets ys u.formals) (same h.0 h.1) ∙ h.2) (known_true (meets xs u.formals))
    where
      same : (names : List (List ℕ)) → private_names xs ≡ private_names names → xs ≡ names
      same names e = cc

  abbrev AtPrivate : LinkRefusal → ℕ → Type 0
  AtPrivate r line = (r ≡ Arguments) × HasPrivateFormal us line

  private_known : FirstKnown AtPrivate
  private_known =
      same_known (OfList (all_units us) (λ u. OfList (sites_of u) (λ s. StandsIf Arguments s.line (NamesFormal u s.site)))) AtPrivate
      (λ r line h. (
        h.stands.stands.0,
        record {
          unit = h.one;
          is_unit = h.is_in;
          site = h.stands.one;
          is_site = h.stands.is_in;
          names = h.stands.stands.2.0;
          is_private = h.stands.stands.2.1;
          formal = h.stands.stands.2.2;
          there = sym h.stands.stands.1;
        },
      ))
      (λ r line a. record { one = a.1.unit; is_in = a.1.is_unit; stands = record { one = a.1.site; is_in = a.1.is_site; stands = (a.0, sym a.1.there, (a.1.names, a.1.is_private, a.1.formal)) } })
      (list_known (λ (u : ProgramUnit). OfList (sites_of u) (λ (s : Sited). StandsIf Arguments s.line (NamesFormal u s.site))) (all_units us) (λ u is.
      list_known (λ (s : Sited). StandsIf Arguments s.line (NamesFormal u s.site)) (sites_of u) (λ s also. if_known rule.Arguments s.line Arguments (NamesFormal u s.site) refl (formal_known u s.site))))

  parallel_known : (u : ProgramUnit) (p : Placed) → IsKnown (IsInParallel u p)
  parallel_known u p =
      known_as (λ h. (h.one, h.is_in, h.stands)) (λ h. record { one = h.0; is_in = h.1; stands = h.2 })
      (known_one (λ (h : Head). IsTrue h.parallel) p.loops (λ h is. known_true h.parallel))

  abbrev Places : LinkRefusal → ℕ → Type 0
  Places = EitherStands (EitherStands (AtCalls NoUnit (CallsNoUnit us)) AtPrivate) (AtCalls CallPlace IsInParallel)

  place_from : (r : LinkRefusal) (line : ℕ) → Places r line → AtPlaces us r line
  place_from r line (inl (inl h)) = subst (λ (q : LinkRefusal). AtPlaces us q line) (sym h.0) h.1
  place_from r line (inl (inr h)) = subst (λ (q : LinkRefusal). AtPlaces us q line) (sym h.0) h.1
  place_from r line (inr h) = subst (λ (q : LinkRefusal). AtPlaces us q line) (sym h.0) h.1

  place_to : (r : LinkRefusal) (line : ℕ) → AtPlaces us r line → Places r line
  place_to NoUnit line h = inl (inl (refl, h))
  place_to Recursion line h = absurd h
  place_to Arguments line h = inl (inr (refl, h))
  place_to Aliased line h = absurd h
  place_to CallPlace line h = inr (refl, h)

  places_known : FirstKnown (AtPlaces us)
  places_known =
      same_known Places (AtPlaces us) place_from place_to
      (both_known (EitherStands (AtCalls NoUnit (CallsNoUnit us)) AtPrivate) (AtCalls CallPlace IsInParallel)
      (both_known (AtCalls NoUnit (CallsNoUnit us)) AtPrivate (calls_known rule.NoUnit NoUnit (CallsNoUnit us) refl (λ u p. known_none (unit_of us p.called.name))) private_known)
      (calls_known rule.CallPlace CallPlace IsInParallel refl parallel_known))

  -- at CALLs that lead back

  abbrev Leading : ℕ → PlacedCall → Type 0
  Leading i c = IsLeading (all_units us) (callers_listed us) i c

  leading_known : (i : ℕ) (c : PlacedCall) → IsKnown (Leading i c)
  leading_known i c = known_there (number_of_unit (all_units us) c.name) (IsReached (callers_listed us) (i ∷ [])) (λ k e. known_reached (callers_listed us) (i ∷ []) k)

  abbrev AtNumber : ℕ → LinkRefusal → ℕ → Type 0
  AtNumber i = OfList (map placed_call (calls_of (unit_at us i))) (λ c. StandsIf Recursion c.line (Leading i c))

  number_known : (i : ℕ) → FirstKnown (AtNumber i)
  number_known i =
      list_known (λ (c : PlacedCall). StandsIf Recursion c.line (Leading i c)) (map placed_call (calls_of (unit_at us i))) (λ c is.
      if_known rule.Recursion c.line Recursion (Leading i c) refl (leading_known i c))

  recursions_known : FirstKnown (AtRecursions us)
  recursions_known =
      let n = length (all_units us) in
      same_known (OfList (numbers n) AtNumber) (AtRecursions us)
      (λ r line h.
      leading_recurs us (callers_listed us) n (callers_are us) refl r line
      (h.one, numbers_in n h.one h.is_in, record { is_rule = h.stands.stands.0; call = h.stands.one; is_call = h.stands.is_in; stands = h.stands.stands.2; there = sym h.stands.stands.1 }))
      (λ r line a.
      let b = recursive_leads us (callers_listed us) n (callers_are us) refl r line a in
      record { one = b.0; is_in = in_numbers n b.0 b.1; stands = record { one = b.2.call; is_in = b.2.is_call; stands = (b.2.is_rule, sym b.2.there, b.2.stands) } })
      (list_known AtNumber (numbers n) (λ i is. number_known i))

  -- at CALLs, for their arguments

  abbrev Bad : LinkRefusal → ℕ → Type 0
  Bad = EitherStands (AtCalls Arguments (OfCalled us (HasBadArguments us))) (AtCalls Aliased (OfCalled us (λ u v p. IsAliased us u v p.called)))

  bad_from : (r : LinkRefusal) (line : ℕ) → Bad r line → AtArguments us r line
  bad_from r line (inl h) = subst (λ (q : LinkRefusal). AtArguments us q line) (sym h.0) h.1
  bad_from r line (inr h) = subst (λ (q : LinkRefusal). AtArguments us q line) (sym h.0) h.1

  bad_to : (r : LinkRefusal) (line : ℕ) → AtArguments us r line → Bad r line
  bad_to NoUnit line h = absurd h
  bad_to Recursion line h = absurd h
  bad_to Arguments line h = inl (refl, h)
  bad_to Aliased line h = inr (refl, h)
  bad_to CallPlace line h = absurd h

  arguments_known : FirstKnown (AtArguments us)
  arguments_known =
      same_known Bad (AtArguments us) bad_from bad_to
      (both_known (AtCalls Arguments (OfCalled us (HasBadArguments us))) (AtCalls Aliased (OfCalled us (λ u v p. IsAliased us u v p.called)))
      (calls_known rule.Arguments Arguments (OfCalled us (HasBadArguments us)) refl (known_bad_call us))
      (calls_known rule.Aliased Aliased (OfCalled us (λ u v p. IsAliased us u v p.called)) refl (known_aliased_call us)))

  links_known : FirstKnown (Stands us)
  links_known = record {
    found = _;
    first = first_of_stages us heads_known.found places_known.found recursions_known.found arguments_known.found heads_known.first places_known.first recursions_known.first arguments_known.first;
  }

-- the first rule of CALLs that stands in a file
pub record FirstLink (us : ProgramUnits) : Type 0 where
  pub rule : LinkRefusal
  pub line : ℕ
  pub first : IsFirstLink us rule line

by_finding : (us : ProgramUnits) (found : Option UnitFinding) → IsFirstOf (Stands us) found → IsLinked us ⊎ FirstLink us
by_finding us None h = inl h
by_finding us (Some f) h = inr (record { rule = h.rule; line = f.line; first = record { stands = h.stands_there; least = h.least } })

-- a file is linked, or some rule is the first
pub linked_or_refused : (us : ProgramUnits) → IsLinked us ⊎ FirstLink us
linked_or_refused us = let a = links_known us in by_finding us a.found a.first
