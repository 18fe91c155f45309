-- Dummy arguments that are passed on, by associations and by the arguments' names.
use Rattle.std.proofs.Common.{◌≡◌, ◌⊎◌, inl, inr, ℕ, zero, suc, ◌+◌, ◌<◌, ◌↔◌, List, [], ◌∷◌, ◌++◌, Option, Some, None, length, map, take, refl, sym, ap, subst, ◌∙◌, arith}
use Rattle.std.proofs.lemmas.Bool.{cases_lt}
use Rattle.std.proofs.lemmas.Option.{same_Some, none-some}
use Rattle.ped_tree.specs.Tree.{ExprTree}
use Rattle.ped_tree.specs.Accesses.{listed}
use Rattle.ped_units.specs.Units.{ProgramUnit, ProgramUnits, all_units}
use Rattle.ped_units.specs.Linking.{IsIn, calls_of, Association, associations}
use Rattle.ped_links.specs.Numbers.{number_of_unit}
use Rattle.ped_links.specs.Arguments.{formal_number, passed_number, PassesIn, CallsPass, ArePassed}
use Rattle.ped_links.specs.Placing.{argument_name, placed_call}
use Rattle.ped_links.specs.Reaching.{Leads}
use Rattle.ped_links.specs.Scenes.{unit_at}
use Rattle.ped_links.specs.declared.placing.PlacedCall.{PlacedCall}
use Rattle.ped_links.proofs.Members.{in_map, map_in, in_left, in_right, in_either, in_one}

-- an association by which a dummy argument is passed
pub record IsPassing (us : List ProgramUnit) (i k : ℕ) (all : List Association) (from to : ℕ) : Type 0 where
  pub association : Association
  pub associates : IsIn association all
  pub formal : List ℕ
  pub passes : argument_name association.argument ≡ Some formal
  pub begins : formal_number us k association.formal ≡ Some from
  pub ends : formal_number us i formal ≡ Some to

number_passed : (us : List ProgramUnit) (i to : ℕ) (o : Option (List ℕ)) → passed_number us i o ≡ Some to → (x : List ℕ) × (o ≡ Some x) × (formal_number us i x ≡ Some to)
number_passed us i to None h = absurd cc
number_passed us i to (Some x) h = (x, refl, h)

passing_from : (us : List ProgramUnit) (i k : ℕ) (fs : List (List ℕ)) (es : List ExprTree) (from to : ℕ) → PassesIn us i k fs (map argument_name es) from to → IsPassing us i k (associations fs es) from to
passing_from us i k [] es from to h = absurd h
passing_from us i k (f ∷ fs) [] from to h = absurd h
passing_from us i k (f ∷ fs) (e ∷ es) from to (inl h) =
    let there = number_passed us i to (argument_name e) h.1 in
    record { association = record { formal = f; argument = e }; associates = inl refl; formal = there.0; passes = there.1; begins = h.0; ends = there.2 }
passing_from us i k (f ∷ fs) (e ∷ es) from to (inr h) =
    let there = passing_from us i k fs es from to h in
    record { association = there.association; associates = inr there.associates; formal = there.formal; passes = there.passes; begins = there.begins; ends = there.ends }

passing_to : (us : List ProgramUnit) (i k : ℕ) (fs : List (List ℕ)) (es : List ExprTree) (from to : ℕ) (a : Association) (x : List ℕ) → IsIn a (associations fs es) → argument_name a.argument ≡ Some x → formal_number us k a.formal ≡ Some from → formal_number us i x ≡ Some to → PassesIn us i k fs (map argument_name es) from to
passing_to us i k [] es from to a x h p b e = absurd h
passing_to us i k (f ∷ fs) [] from to a x h p b e = absurd h
passing_to us i k (f ∷ fs) (d ∷ ds) from to a x (inl is) p b e =
    inl (ap (λ (s : Association). formal_number us k s.formal) (sym is) ∙ b, ap (passed_number us i) (ap (λ (s : Association). argument_name s.argument) (sym is) ∙ p) ∙ e)
passing_to us i k (f ∷ fs) (d ∷ ds) from to a x (inr h) p b e = inr (passing_to us i k fs ds from to a x h p b e)

-- the CALLs of the first units pass a dummy argument for another
abbrev pub PassedBelow : ProgramUnits → ℕ → ℕ → ℕ → Type 0
PassedBelow us n from to = (i : ℕ) × (i < n) × CallsPass us i (map placed_call (calls_of (unit_at us i))) from to

-- none of no units
pub none_passed : (us : ProgramUnits) (from to : ℕ) → PassedBelow us 0 from to → ⊥
none_passed us from to h = absurd (omega (arith, h.1))

-- one unit more
pub passed_more : (us : ProgramUnits) (n from to : ℕ) → PassedBelow us (n + 1) from to → PassedBelow us n from to ⊎ CallsPass us n (map placed_call (calls_of (unit_at us n))) from to
passed_more us n from to h = elim (cases_lt h.0 n) [
  | inl low ↦ inl (h.0, low, h.2)
  | inr high ↦ inr (subst (λ (m : ℕ). CallsPass us m (map placed_call (calls_of (unit_at us m))) from to) (omega (arith, high, h.1)) h.2)
]

pub more_passed : (us : ProgramUnits) (n from to : ℕ) → PassedBelow us n from to ⊎ CallsPass us n (map placed_call (calls_of (unit_at us n))) from to → PassedBelow us (n + 1) from to
more_passed us n from to (inl h) = (h.0, omega (arith, h.1), h.2)
more_passed us n from to (inr h) = (n, omega arith, h)

-- what all units pass
pub all_passed : (us : ProgramUnits) (n from to : ℕ) → n ≡ length (all_units us) → PassedBelow us n from to → ArePassed us from to
all_passed us n from to wide h =
    let i = h.0 in
    let c = h.2 in
    let call = in_map placed_call c.0 (calls_of (unit_at us i)) c.1 in
    let p = call.0 in
    let k = c.2.0 in
    let passing = passing_from (all_units us) i k (unit_at us k).formals (listed p.called.arguments) from to (subst (λ (d : PlacedCall). PassesIn (all_units us) i k (unit_at us k).formals d.arguments from to) call.2 c.2.2) in (
      i,
      k,
      omega (arith, h.1, wide),
      record {
        call = p;
        is_call = call.1;
        is_unit = ap (λ (d : PlacedCall). number_of_unit (all_units us) d.name) (sym call.2) ∙ c.2.1;
        association = passing.association;
        associates = passing.associates;
        formal = passing.formal;
        passes = passing.passes;
        begins = passing.begins;
        ends = passing.ends;
      },
    )

pub passed_all : (us : ProgramUnits) (n from to : ℕ) → n ≡ length (all_units us) → ArePassed us from to → PassedBelow us n from to
passed_all us n from to wide a =
    let p = a.3 in (
      a.0,
      omega (arith, a.2, wide),
      (
        placed_call p.call,
        map_in placed_call p.call (calls_of (unit_at us a.0)) p.is_call,
        (a.1, p.is_unit, passing_to (all_units us) a.0 a.1 (unit_at us a.1).formals (listed p.call.called.arguments) from to p.association p.formal p.associates p.passes p.begins p.ends),
      ),
    )

-- one dummy argument is passed for another
abbrev pub PassesHere : List ProgramUnit → ℕ → ℕ → List ℕ → Option (List ℕ) → ℕ → ℕ → Type 0
PassesHere us i k f a from to = (formal_number us k f ≡ Some from) × (passed_number us i a ≡ Some to)

passes_or : (us : List ProgramUnit) (i k : ℕ) (fs : List (List ℕ)) (ns : List (Option (List ℕ))) (f : List ℕ) (a : Option (List ℕ)) (from to : ℕ) → length fs ≡ length ns
    → PassesIn us i k (fs ++ f ∷ []) (ns ++ a ∷ []) from to → PassesIn us i k fs ns from to ⊎ PassesHere us i k f a from to
passes_or us i k [] [] f a from to e (inl h) = inr h
passes_or us i k [] [] f a from to e (inr h) = absurd h
passes_or us i k [] (n ∷ ns) f a from to e h = absurd (omega (arith, e))
passes_or us i k (g ∷ gs) [] f a from to e h = absurd (omega (arith, e))
passes_or us i k (g ∷ gs) (n ∷ ns) f a from to e (inl h) = inl (inl h)
passes_or us i k (g ∷ gs) (n ∷ ns) f a from to e (inr h) = elim (passes_or us i k gs ns f a from to (omega (arith, e)) h) [ inl x ↦ inl (inr x) | inr y ↦ inr y ]

or_passes : (us : List ProgramUnit) (i k : ℕ) (fs : List (List ℕ)) (ns : List (Option (List ℕ))) (f : List ℕ) (a : Option (List ℕ)) (from to : ℕ) → length fs ≡ length ns
    → PassesIn us i k fs ns from to ⊎ PassesHere us i k f a from to → PassesIn us i k (fs ++ f ∷ []) (ns ++ a ∷ []) from to
or_passes us i k [] [] f a from to e (inl h) = absurd h
or_passes us i k [] [] f a from to e (inr h) = inl h
or_passes us i k [] (n ∷ ns) f a from to e h = absurd (omega (arith, e))
or_passes us i k (g ∷ gs) [] f a from to e h = absurd (omega (arith, e))
or_passes us i k (g ∷ gs) (n ∷ ns) f a from to e (inl (inl h)) = inl h
or_passes us i k (g ∷ gs) (n ∷ ns) f a from to e (inl (inr h)) = inr (or_passes us i k gs ns f a from to (omega (arith, e)) (inl h))
or_passes us i k (g ∷ gs) (n ∷ ns) f a from to e (inr h) = inr (or_passes us i k gs ns f a from to (omega (arith, e)) (inr h))

-- the arrows of one argument more
pub passings_step : (us : List ProgramUnit) (i k : ℕ) (fs all : List (List ℕ)) (ns every : List (Option (List ℕ))) (f : List ℕ) (a : Option (List ℕ)) (begins ends : Option ℕ) (old mid new : List (List ℕ)) → all ≡ fs ++ f ∷ [] → every ≡ ns ++ a ∷ [] → length fs ≡ length ns
    → begins ≡ formal_number us k f → ends ≡ passed_number us i a
    → ((from to : ℕ) → Leads mid from to ↔ (Leads old from to ⊎ PassesIn us i k fs ns from to)) → ((from to : ℕ) → Leads new from to ↔ (Leads mid from to ⊎ ((begins ≡ Some from) × (ends ≡ Some to))))
    → (from to : ℕ) → Leads new from to ↔ (Leads old from to ⊎ PassesIn us i k all every from to)
passings_step us i k fs all ns every f a begins ends old mid new e d long is also before now from to = (forth, back)
  where
    whole : PassesIn us i k (fs ++ f ∷ []) (ns ++ a ∷ []) from to → PassesIn us i k all every from to
    whole h = subst (λ (gs : List (List ℕ)). PassesIn us i k gs every from to) (sym e) (subst (λ (ms : List (Option (List ℕ))). PassesIn us i k (fs ++ f ∷ []) ms from to) (sym d) h)

    parts : PassesIn us i k all every from to → PassesIn us i k (fs ++ f ∷ []) (ns ++ a ∷ []) from to
    parts h = subst (λ (ms : List (Option (List ℕ))). PassesIn us i k (fs ++ f ∷ []) ms from to) d (subst (λ (gs : List (List ℕ)). PassesIn us i k gs every from to) e h)

    forth : Leads new from to → Leads old from to ⊎ PassesIn us i k all every from to
    forth l = elim ((now from to).0 l) [
      | inl m ↦ elim ((before from to).0 m) [ inl o ↦ inl o | inr x ↦ inr (whole (or_passes us i k fs ns f a from to long (inl x))) ]
      | inr h ↦ inr (whole (or_passes us i k fs ns f a from to long (inr (sym is ∙ h.0, sym also ∙ h.1))))
    ]

    back : Leads old from to ⊎ PassesIn us i k all every from to → Leads new from to
    back (inl o) = (now from to).1 (inl ((before from to).1 (inl o)))
    back (inr h) = elim (passes_or us i k fs ns f a from to long (parts h)) [
      | inl x ↦ (now from to).1 (inl ((before from to).1 (inr x)))
      | inr y ↦ (now from to).1 (inr (is ∙ y.0, also ∙ y.1))
    ]

-- as far as there are both
pub passes_front : (us : List ProgramUnit) (i k n : ℕ) (fs : List (List ℕ)) (ns : List (Option (List ℕ))) (from to : ℕ) → PassesIn us i k (take n fs) (take n ns) from to → PassesIn us i k fs ns from to
passes_front us i k zero fs ns from to h = absurd h
passes_front us i k (suc n) [] ns from to h = absurd h
passes_front us i k (suc n) (f ∷ fs) [] from to h = absurd h
passes_front us i k (suc n) (f ∷ fs) (a ∷ ns) from to (inl h) = inl h
passes_front us i k (suc n) (f ∷ fs) (a ∷ ns) from to (inr h) = inr (passes_front us i k n fs ns from to h)

pub passes_whole : (us : List ProgramUnit) (i k n : ℕ) (fs : List (List ℕ)) (ns : List (Option (List ℕ))) (from to : ℕ) → (n ≡ length fs) ⊎ (n ≡ length ns) → PassesIn us i k fs ns from to → PassesIn us i k (take n fs) (take n ns) from to
passes_whole us i k n [] ns from to e h = absurd h
passes_whole us i k n (f ∷ fs) [] from to e h = absurd h
passes_whole us i k zero (f ∷ fs) (a ∷ ns) from to e h = absurd (elim e [ inl x ↦ absurd (omega (arith, x)) | inr y ↦ absurd (omega (arith, y)) ])
passes_whole us i k (suc n) (f ∷ fs) (a ∷ ns) from to e (inl h) = inl h
passes_whole us i k (suc n) (f ∷ fs) (a ∷ ns) from to e (inr h) = inr (passes_whole us i k n fs ns from to (elim e [ inl x ↦ inl (omega (arith, x)) | inr y ↦ inr (omega (arith, y)) ]) h)

-- what one CALL passes
call_passes : (us : ProgramUnits) (i k : ℕ) (c : PlacedCall) (from to : ℕ) → number_of_unit (all_units us) c.name ≡ Some k → PassesIn (all_units us) i k (unit_at us k).formals c.arguments from to → CallsPass us i (c ∷ []) from to
call_passes us i k c from to named h = (c, inl refl, (k, named, h))

passes_by_call : (us : ProgramUnits) (i k : ℕ) (c : PlacedCall) (from to : ℕ) → number_of_unit (all_units us) c.name ≡ Some k → CallsPass us i (c ∷ []) from to → PassesIn (all_units us) i k (unit_at us k).formals c.arguments from to
passes_by_call us i k c from to named h =
    let is = in_one h.0 c h.1 in
    let same : h.2.0 ≡ k = same_Some h.2.0 k (sym h.2.1 ∙ ap (λ (d : PlacedCall). number_of_unit (all_units us) d.name) is ∙ named) in
    subst (λ (n : ℕ). PassesIn (all_units us) i n (unit_at us n).formals c.arguments from to) same (subst (λ (d : PlacedCall). PassesIn (all_units us) i h.2.0 (unit_at us h.2.0).formals d.arguments from to) is h.2.2)

none_by_call : (us : ProgramUnits) (i : ℕ) (c : PlacedCall) (from to : ℕ) → number_of_unit (all_units us) c.name ≡ None → CallsPass us i (c ∷ []) from to → ⊥
none_by_call us i c from to none h = none-some h.2.0 (sym none ∙ ap (λ (d : PlacedCall). number_of_unit (all_units us) d.name) (sym (in_one h.0 c h.1)) ∙ h.2.1)

-- the arrows of one CALL more
pub calls_step : (us : ProgramUnits) (i : ℕ) (calls all : List PlacedCall) (c : PlacedCall) (old mid new : List (List ℕ)) → all ≡ calls ++ c ∷ []
    → ((from to : ℕ) → Leads mid from to ↔ (Leads old from to ⊎ CallsPass us i calls from to)) → ((from to : ℕ) → Leads new from to ↔ (Leads mid from to ⊎ CallsPass us i (c ∷ []) from to))
    → (from to : ℕ) → Leads new from to ↔ (Leads old from to ⊎ CallsPass us i all from to)
calls_step us i calls all c old mid new e before now from to = (forth, back)
  where
    forth : Leads new from to → Leads old from to ⊎ CallsPass us i all from to
    forth l = elim ((now from to).0 l) [
      | inl m ↦ elim ((before from to).0 m) [ inl o ↦ inl o | inr x ↦ inr (x.0, subst (IsIn x.0) (sym e) (in_left x.0 calls (c ∷ []) x.1), x.2) ]
      | inr h ↦ inr (h.0, subst (IsIn h.0) (sym e) (in_right h.0 calls (c ∷ []) h.1), h.2)
    ]

    back : Leads old from to ⊎ CallsPass us i all from to → Leads new from to
    back (inl o) = (now from to).1 (inl ((before from to).1 (inl o)))
    back (inr h) = elim (in_either h.0 calls (c ∷ []) (subst (IsIn h.0) e h.1)) [
      | inl x ↦ (now from to).1 (inl ((before from to).1 (inr (h.0, x, h.2))))
      | inr y ↦ (now from to).1 (inr (h.0, y, h.2))
    ]

-- the arrows of one unit more
pub units_step : (us : ProgramUnits) (n : ℕ) (calls : List PlacedCall) (old new : List (List ℕ)) → calls ≡ map placed_call (calls_of (unit_at us n))
    → ((from to : ℕ) → Leads old from to ↔ PassedBelow us n from to) → ((from to : ℕ) → Leads new from to ↔ (Leads old from to ⊎ CallsPass us n calls from to))
    → (from to : ℕ) → Leads new from to ↔ PassedBelow us (n + 1) from to
units_step us n calls old new e before now from to = (
  λ l. more_passed us n from to (elim ((now from to).0 l) [ inl o ↦ inl ((before from to).0 o) | inr h ↦ inr (subst (λ (cs : List PlacedCall). CallsPass us n cs from to) e h) ]),
  λ h. elim (passed_more us n from to h) [ inl x ↦ (now from to).1 (inl ((before from to).1 x)) | inr y ↦ (now from to).1 (inr (subst (λ (cs : List PlacedCall). CallsPass us n cs from to) (sym e) y)) ],
)

-- the arrows of one CALL
pub call_step : (us : ProgramUnits) (i k : ℕ) (c : PlacedCall) (names : List (List ℕ)) (arguments : List (Option (List ℕ))) (old new : List (List ℕ)) → number_of_unit (all_units us) c.name ≡ Some k → names ≡ (unit_at us k).formals → arguments ≡ c.arguments
    → ((from to : ℕ) → Leads new from to ↔ (Leads old from to ⊎ PassesIn (all_units us) i k names arguments from to)) → (from to : ℕ) → Leads new from to ↔ (Leads old from to ⊎ CallsPass us i (c ∷ []) from to)
call_step us i k c names arguments old new named formals given now from to =
    let known : Leads new from to ↔ (Leads old from to ⊎ PassesIn (all_units us) i k (unit_at us k).formals c.arguments from to) =
    subst (λ (fs : List (List ℕ)). Leads new from to ↔ (Leads old from to ⊎ PassesIn (all_units us) i k fs c.arguments from to)) formals
    (subst (λ (ns : List (Option (List ℕ))). Leads new from to ↔ (Leads old from to ⊎ PassesIn (all_units us) i k names ns from to)) given (now from to)) in (
      λ l. elim (known.0 l) [ inl o ↦ inl o | inr h ↦ inr (call_passes us i k c from to named h) ],
      λ h. known.1 (elim h [ inl o ↦ inl o | inr x ↦ inr (passes_by_call us i k c from to named x) ]),
    )

-- none of a CALL of no unit
pub no_call_step : (us : ProgramUnits) (i : ℕ) (c : PlacedCall) (old : List (List ℕ)) → number_of_unit (all_units us) c.name ≡ None → (from to : ℕ) → Leads old from to ↔ (Leads old from to ⊎ CallsPass us i (c ∷ []) from to)
no_call_step us i c old none from to = (λ l. inl l, λ h. elim h [ inl o ↦ o | inr x ↦ absurd (none_by_call us i c from to none x) ])
