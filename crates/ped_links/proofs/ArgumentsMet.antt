-- What stands at CALLs for their arguments, by units and by their numbers.
use Rattle.std.proofs.Common.{◌≡◌, ◌⊎◌, inl, inr, ℕ, ◌+◌, ◌<◌, List, [], ◌∷◌, ◌++◌, Bool, Option, Some, None, length, map, refl, sym, ap, subst, ◌∙◌, arith}
use Rattle.std.proofs.lemmas.Bool.{cases_lt}
use Rattle.std.proofs.lemmas.Option.{none-some, same_Some}
use Rattle.std.specs.Prelude.{IsTrue}
use Rattle.ped_units.specs.Units.{ProgramUnit, ProgramUnits, all_units}
use Rattle.ped_units.specs.Linking.{IsIn, calls_of, LinkRefusal, NoUnit, Recursion, Arguments, Aliased, CallPlace}
use Rattle.ped_links.specs.FirstLinks.{IsFirstOf, EitherStands, NoneStands, StandsIf, standing_link, first_link_of}
use Rattle.ped_links.specs.Numbers.{number_of_unit}
use Rattle.ped_links.specs.Placing.{placed_call}
use Rattle.ped_links.specs.Arguments.{StandsForArguments, MisfitsAt, AliasedAt, HasMisfit, SomeAliased}
use Rattle.ped_links.specs.Scenes.{unit_at, StandsAtCalls, AtArguments}
use Rattle.ped_links.specs.declared.placing.PlacedCall.{PlacedCall}
use Rattle.ped_units.specs.declared.refusals.UnitFinding.{UnitFinding}
use Rattle.ped_units.specs.declared.refusals.UnitRule.TheVariants as rule
use Rattle.ped_links.proofs.FirstFound.{both_first, first_as, standing_first, nothing_first}
use Rattle.ped_links.proofs.Members.{in_map, map_in, in_left, in_right, in_either, in_one, place_in, in_place}
use Rattle.ped_links.proofs.NumberedUnits.{unit_of_number, number_of_unit_of}
use Rattle.ped_links.proofs.Misfits.{bad_named, named_bad}
use Rattle.ped_links.proofs.Aliases.{aliased_named, named_aliased}

-- what stands at the CALLs of the unit with this number for their arguments
abbrev pub ArgumentsAt : ProgramUnits → ℕ → LinkRefusal → ℕ → Type 0
ArgumentsAt us i = StandsForArguments us i (map placed_call (calls_of (unit_at us i)))

-- the same of the first units
abbrev pub ArgumentsBelow : ProgramUnits → ℕ → LinkRefusal → ℕ → Type 0
ArgumentsBelow us n r line = (i : ℕ) × (i < n) × ArgumentsAt us i r line

-- none in no unit
pub no_arguments : (us : ProgramUnits) → IsFirstOf (ArgumentsBelow us 0) None
no_arguments us r line h = absurd (omega (arith, h.1))

-- one unit more
pub arguments_more : (us : ProgramUnits) (found more : Option UnitFinding) (i : ℕ) → IsFirstOf (ArgumentsBelow us i) found → IsFirstOf (ArgumentsAt us i) more → IsFirstOf (ArgumentsBelow us (i + 1)) (first_link_of found more)
arguments_more us found more i h k =
    first_as (EitherStands (ArgumentsBelow us i) (ArgumentsAt us i)) (ArgumentsBelow us (i + 1)) (first_link_of found more) together apart (both_first (ArgumentsBelow us i) (ArgumentsAt us i) found more h k)
  where
    together : (r : LinkRefusal) (line : ℕ) → EitherStands (ArgumentsBelow us i) (ArgumentsAt us i) r line → ArgumentsBelow us (i + 1) r line
    together r line (inl s) = (s.0, omega (arith, s.1), s.2)
    together r line (inr s) = (i, omega arith, s)

    apart : (r : LinkRefusal) (line : ℕ) → ArgumentsBelow us (i + 1) r line → EitherStands (ArgumentsBelow us i) (ArgumentsAt us i) r line
    apart r line s = elim (cases_lt s.0 i) [
      | inl low ↦ inl (s.0, low, s.2)
      | inr high ↦ inr (subst (λ (n : ℕ). ArgumentsAt us n r line) (omega (arith, high, s.1)) s.2)
    ]

-- what is found by numbers stands
pub arguments_from : (us : ProgramUnits) (n : ℕ) → n ≡ length (all_units us) → (r : LinkRefusal) (line : ℕ) → ArgumentsBelow us n r line → AtArguments us r line
arguments_from us n wide r line h =
    let i = h.0 in
    let u = unit_at us i in
    elim h.2 [
      | inl s ↦
          let call = in_map placed_call s.call (calls_of u) s.is_call in
          let k = s.stands.0 in
          let named : number_of_unit (all_units us) call.0.called.name ≡ Some k = ap (λ (c : PlacedCall). number_of_unit (all_units us) c.name) (sym call.2) ∙ s.stands.1 in
          subst (λ (q : LinkRefusal). AtArguments us q line) (sym s.is_rule) (record {
            unit = u;
            is_unit = in_place (all_units us) i us.main (omega (arith, h.1, wide));
            call = call.0;
            is_call = call.1;
            stands = (unit_at us k, (unit_of_number us call.0.called.name k named).0, named_bad us u (unit_at us k) call.0 (subst (HasMisfit us u (unit_at us k)) call.2 s.stands.2));
            there = ap (λ (c : PlacedCall). c.line) (sym call.2) ∙ s.there;
          })
      | inr s ↦
          let call = in_map placed_call s.call (calls_of u) s.is_call in
          let k = s.stands.0 in
          let named : number_of_unit (all_units us) call.0.called.name ≡ Some k = ap (λ (c : PlacedCall). number_of_unit (all_units us) c.name) (sym call.2) ∙ s.stands.1 in
          subst (λ (q : LinkRefusal). AtArguments us q line) (sym s.is_rule) (record {
            unit = u;
            is_unit = in_place (all_units us) i us.main (omega (arith, h.1, wide));
            call = call.0;
            is_call = call.1;
            stands = (unit_at us k, (unit_of_number us call.0.called.name k named).0, named_aliased us u (unit_at us k) call.0.called (subst (λ (c : PlacedCall). SomeAliased us u (unit_at us k) (unit_at us k).formals c.arguments) call.2 s.stands.2));
            there = ap (λ (c : PlacedCall). c.line) (sym call.2) ∙ s.there;
          })
    ]

-- what stands is found by numbers
pub arguments_to : (us : ProgramUnits) (n : ℕ) → n ≡ length (all_units us) → (r : LinkRefusal) (line : ℕ) → AtArguments us r line → ArgumentsBelow us n r line
arguments_to us n wide Arguments line h =
    let place = place_in h.unit (all_units us) us.main h.is_unit in
    let v = h.stands.0 in
    let callee = number_of_unit_of us h.call.called.name v h.stands.1 in
    let is = place.2 in (
      place.0,
      omega (arith, wide, place.1),
      inl (record {
        is_rule = refl;
        call = placed_call h.call;
        is_call = map_in placed_call h.call (calls_of (unit_at us place.0)) (subst (λ (u : ProgramUnit). IsIn h.call (calls_of u)) (sym is) h.is_call);
        stands = (callee.0, callee.1, subst (λ (u : ProgramUnit). HasMisfit us u (unit_at us callee.0) (placed_call h.call)) (sym is) (subst (λ (w : ProgramUnit). HasMisfit us h.unit w (placed_call h.call)) (sym callee.2) (bad_named us h.unit v h.call h.stands.2)));
        there = h.there;
      }),
    )
arguments_to us n wide Aliased line h =
    let place = place_in h.unit (all_units us) us.main h.is_unit in
    let v = h.stands.0 in
    let callee = number_of_unit_of us h.call.called.name v h.stands.1 in
    let is = place.2 in (
      place.0,
      omega (arith, wide, place.1),
      inr (record {
        is_rule = refl;
        call = placed_call h.call;
        is_call = map_in placed_call h.call (calls_of (unit_at us place.0)) (subst (λ (u : ProgramUnit). IsIn h.call (calls_of u)) (sym is) h.is_call);
        stands = (callee.0, callee.1, subst (λ (u : ProgramUnit). SomeAliased us u (unit_at us callee.0) (unit_at us callee.0).formals (placed_call h.call).arguments) (sym is) (subst (λ (w : ProgramUnit). SomeAliased us h.unit w w.formals (placed_call h.call).arguments) (sym callee.2) (aliased_named us h.unit v h.call.called h.stands.2)));
        there = h.there;
      }),
    )
arguments_to us n wide NoUnit line h = absurd h
arguments_to us n wide Recursion line h = absurd h
arguments_to us n wide CallPlace line h = absurd h

-- none stand at no CALLs
pub no_calls_misfit : (us : ProgramUnits) (i : ℕ) → IsFirstOf (StandsForArguments us i []) None
no_calls_misfit us i r line (inl s) = s.is_call
no_calls_misfit us i r line (inr s) = s.is_call

-- what is found at one CALL
abbrev StandsAtOne : ProgramUnits → ℕ → ℕ → PlacedCall → LinkRefusal → ℕ → Type 0
StandsAtOne us i k c = EitherStands (StandsIf Arguments c.line (HasMisfit us (unit_at us i) (unit_at us k) c)) (StandsIf Aliased c.line (SomeAliased us (unit_at us i) (unit_at us k) (unit_at us k).formals c.arguments))

pub one_call : (us : ProgramUnits) (i k : ℕ) (c : PlacedCall) (found : Option UnitFinding) → number_of_unit (all_units us) c.name ≡ Some k → IsFirstOf (StandsAtOne us i k c) found → IsFirstOf (StandsForArguments us i (c ∷ [])) found
one_call us i k c found named h = first_as (StandsAtOne us i k c) (StandsForArguments us i (c ∷ [])) found together apart h
  where
    together : (r : LinkRefusal) (line : ℕ) → StandsAtOne us i k c r line → StandsForArguments us i (c ∷ []) r line
    together r line (inl s) = inl (record { is_rule = s.0; call = c; is_call = inl refl; stands = (k, named, s.2); there = sym s.1 })
    together r line (inr s) = inr (record { is_rule = s.0; call = c; is_call = inl refl; stands = (k, named, s.2); there = sym s.1 })

    called : (d : PlacedCall) (j : ℕ) → d ≡ c → number_of_unit (all_units us) d.name ≡ Some j → j ≡ k
    called d j is n = same_Some j k (sym n ∙ ap (λ (x : PlacedCall). number_of_unit (all_units us) x.name) is ∙ named)

    apart : (r : LinkRefusal) (line : ℕ) → StandsForArguments us i (c ∷ []) r line → StandsAtOne us i k c r line
    apart r line (inl s) =
        let is = in_one s.call c s.is_call in
        let same = called s.call s.stands.0 is s.stands.1 in
        let there : HasMisfit us (unit_at us i) (unit_at us k) c = subst (λ (j : ℕ). HasMisfit us (unit_at us i) (unit_at us j) c) same (subst (HasMisfit us (unit_at us i) (unit_at us s.stands.0)) is s.stands.2) in
        inl (s.is_rule, sym s.there ∙ ap (λ (x : PlacedCall). x.line) is, there)
    apart r line (inr s) =
        let is = in_one s.call c s.is_call in
        let same = called s.call s.stands.0 is s.stands.1 in
        let there : SomeAliased us (unit_at us i) (unit_at us k) (unit_at us k).formals c.arguments =
        subst (λ (j : ℕ). SomeAliased us (unit_at us i) (unit_at us j) (unit_at us j).formals c.arguments) same
        (subst (λ (x : PlacedCall). SomeAliased us (unit_at us i) (unit_at us s.stands.0) (unit_at us s.stands.0).formals x.arguments) is s.stands.2) in
        inr (s.is_rule, sym s.there ∙ ap (λ (x : PlacedCall). x.line) is, there)

-- a CALL of no unit
pub none_called : (us : ProgramUnits) (i : ℕ) (c : PlacedCall) → number_of_unit (all_units us) c.name ≡ None → IsFirstOf (StandsForArguments us i (c ∷ [])) None
none_called us i c none = by
  where
    no : (d : PlacedCall) (j : ℕ) → d ≡ c → number_of_unit (all_units us) d.name ≡ Some j → ⊥
    no d j is n = none-some j (sym none ∙ ap (λ (x : PlacedCall). number_of_unit (all_units us) x.name) (sym is) ∙ n)

    by : (r : LinkRefusal) (line : ℕ) → StandsForArguments us i (c ∷ []) r line → ⊥
    by r line (inl s) = no s.call s.stands.0 (in_one s.call c s.is_call) s.stands.1
    by r line (inr s) = no s.call s.stands.0 (in_one s.call c s.is_call) s.stands.1

-- one CALL more
pub call_more : (us : ProgramUnits) (i : ℕ) (calls all : List PlacedCall) (c : PlacedCall) (found more : Option UnitFinding) → all ≡ calls ++ c ∷ [] → IsFirstOf (StandsForArguments us i calls) found → IsFirstOf (StandsForArguments us i (c ∷ [])) more
    → IsFirstOf (StandsForArguments us i all) (first_link_of found more)
call_more us i calls all c found more e h k =
    subst (λ (cs : List PlacedCall). IsFirstOf (StandsForArguments us i cs) (first_link_of found more)) (sym e)
    (first_as (EitherStands (StandsForArguments us i calls) (StandsForArguments us i (c ∷ []))) (StandsForArguments us i (calls ++ c ∷ [])) (first_link_of found more) together apart
    (both_first (StandsForArguments us i calls) (StandsForArguments us i (c ∷ [])) found more h k))
  where
    longer : (rule : LinkRefusal) (holds : PlacedCall → Type 0) (r : LinkRefusal) (line : ℕ) → StandsAtCalls calls rule holds r line ⊎ StandsAtCalls (c ∷ []) rule holds r line → StandsAtCalls (calls ++ c ∷ []) rule holds r line
    longer rule holds r line (inl s) = record { is_rule = s.is_rule; call = s.call; is_call = in_left s.call calls (c ∷ []) s.is_call; stands = s.stands; there = s.there }
    longer rule holds r line (inr s) = record { is_rule = s.is_rule; call = s.call; is_call = in_right s.call calls (c ∷ []) s.is_call; stands = s.stands; there = s.there }

    shorter : (rule : LinkRefusal) (holds : PlacedCall → Type 0) (r : LinkRefusal) (line : ℕ) → StandsAtCalls (calls ++ c ∷ []) rule holds r line → StandsAtCalls calls rule holds r line ⊎ StandsAtCalls (c ∷ []) rule holds r line
    shorter rule holds r line s = elim (in_either s.call calls (c ∷ []) s.is_call) [
      | inl x ↦ inl (record { is_rule = s.is_rule; call = s.call; is_call = x; stands = s.stands; there = s.there })
      | inr y ↦ inr (record { is_rule = s.is_rule; call = s.call; is_call = y; stands = s.stands; there = s.there })
    ]

    together : (r : LinkRefusal) (line : ℕ) → EitherStands (StandsForArguments us i calls) (StandsForArguments us i (c ∷ [])) r line → StandsForArguments us i (calls ++ c ∷ []) r line
    together r line (inl (inl s)) = inl (longer Arguments (MisfitsAt us i) r line (inl s))
    together r line (inl (inr s)) = inr (longer Aliased (AliasedAt us i) r line (inl s))
    together r line (inr (inl s)) = inl (longer Arguments (MisfitsAt us i) r line (inr s))
    together r line (inr (inr s)) = inr (longer Aliased (AliasedAt us i) r line (inr s))

    apart : (r : LinkRefusal) (line : ℕ) → StandsForArguments us i (calls ++ c ∷ []) r line → EitherStands (StandsForArguments us i calls) (StandsForArguments us i (c ∷ [])) r line
    apart r line (inl s) = elim (shorter Arguments (MisfitsAt us i) r line s) [ inl x ↦ inl (inl x) | inr y ↦ inr (inl y) ]
    apart r line (inr s) = elim (shorter Aliased (AliasedAt us i) r line s) [ inl x ↦ inl (inr x) | inr y ↦ inr (inr y) ]

-- two rules at one line
pub two_here : (line : ℕ) (misfit aliased : Type 0) (bad twice : Bool) (one two : Option UnitFinding) → (IsTrue bad → misfit) → (misfit → IsTrue bad) → (IsTrue twice → aliased) → (aliased → IsTrue twice)
    → one ≡ standing_link None bad rule.Arguments line → two ≡ standing_link one twice rule.Aliased line → IsFirstOf (EitherStands (StandsIf Arguments line misfit) (StandsIf Aliased line aliased)) two
two_here line misfit aliased bad twice one two f g h k e d =
    subst (IsFirstOf (EitherStands (StandsIf Arguments line misfit) (StandsIf Aliased line aliased))) (sym (d ∙ ap (λ (o : Option UnitFinding). standing_link o twice rule.Aliased line) e))
    (first_as (EitherStands (EitherStands NoneStands (StandsIf Arguments line misfit)) (StandsIf Aliased line aliased)) (EitherStands (StandsIf Arguments line misfit) (StandsIf Aliased line aliased)) (standing_link (standing_link None bad rule.Arguments line) twice rule.Aliased line) together apart
    (standing_first (EitherStands NoneStands (StandsIf Arguments line misfit)) (standing_link None bad rule.Arguments line) twice rule.Aliased line Aliased aliased refl (standing_first NoneStands None bad rule.Arguments line Arguments misfit refl nothing_first f g) h k))
  where
    together : (r : LinkRefusal) (other : ℕ) → EitherStands (EitherStands NoneStands (StandsIf Arguments line misfit)) (StandsIf Aliased line aliased) r other → EitherStands (StandsIf Arguments line misfit) (StandsIf Aliased line aliased) r other
    together r other (inl (inl s)) = absurd s
    together r other (inl (inr s)) = inl s
    together r other (inr s) = inr s

    apart : (r : LinkRefusal) (other : ℕ) → EitherStands (StandsIf Arguments line misfit) (StandsIf Aliased line aliased) r other → EitherStands (EitherStands NoneStands (StandsIf Arguments line misfit)) (StandsIf Aliased line aliased) r other
    apart r other (inl s) = inl (inr s)
    apart r other (inr s) = inr s
