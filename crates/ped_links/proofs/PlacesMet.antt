-- What stands at CALLs and PRIVATE statements, by units and by what walks over them find.
use Rattle.std.proofs.Common.{◌≡◌, inl, inr, ℕ, zero, suc, ◌<◌, List, [], ◌∷◌, ◌++◌, Bool, true, false, Option, Some, None, length, map, drop, get_or, refl, sym, ap, subst, ◌∙◌, arith}
use Rattle.std.specs.List.{list_any}
use Rattle.std.specs.Prelude.{IsTrue, if◌then◌else◌}
use Rattle.std.proofs.lemmas.Bool.{or_left, or_right, or_cases}
use Rattle.ped_tree.specs.Tree.{Head}
use Rattle.ped_tree.specs.Grammar.ProgramRefusals.{meets}
use Rattle.ped_units.specs.ped_valid.specs.ped_symbols.specs.NameRefusals.{next_line}
use Rattle.ped_units.specs.ped_valid.specs.ped_symbols.specs.Sites.{Site, declaration, statement, private_names, program_sites}
use Rattle.ped_units.specs.Units.{ProgramUnit, ProgramUnits, all_units, unit_of}
use Rattle.ped_units.specs.Linking.{IsIn, Placed, calls_of, Sited, sited, LinkRefusal, NoUnit, Recursion, Arguments, Aliased, CallPlace}
use Rattle.ped_links.specs.FirstLinks.{IsFirstOf, EitherStands, first_link_of}
use Rattle.ped_links.specs.LinkPlaces.{StandsAtLines, StandsAtPlaces, PlacesFound}
use Rattle.ped_links.specs.Numbers.{number_of_unit}
use Rattle.ped_links.specs.Placing.{placed_call, private_line, private_lines}
use Rattle.ped_links.specs.Scenes.{unit_at, IsWalked, AreWalked, AtPlaces}
use Rattle.ped_links.specs.declared.placing.Found.{Found}
use Rattle.ped_links.specs.declared.placing.PlacedCall.{PlacedCall}
use Rattle.ped_units.specs.declared.refusals.UnitFinding.{UnitFinding}
use Rattle.ped_links.proofs.FirstFound.{both_first, first_as}
use Rattle.ped_links.proofs.Members.{in_map, map_in, in_left, in_right, in_either, in_one}
use Rattle.ped_links.proofs.NumberedUnits.{unit_of_number, no_number}

-- a PRIVATE statement that names one of these, among sites with lines
pub record IsPrivateAt (formals : List (List ℕ)) (lines : List ℕ) (sites : List Site) (line : ℕ) : Type 0 where
  pub site : Sited
  pub is_site : IsIn site (sited lines sites)
  pub names : List (List ℕ)
  pub is_private : site.site ≡ private_names names
  pub formal : IsTrue (meets names formals)
  pub there : site.line ≡ line

line_from : (formals : List (List ℕ)) (n : ℕ) (s : Site) (line : ℕ) → IsIn line (private_line formals n s) → (names : List (List ℕ)) × (s ≡ private_names names) × IsTrue (meets names formals) × (n ≡ line)
line_from formals n (declaration d) line h = absurd h
line_from formals n (statement s) line h = absurd h
line_from formals n (private_names names) line h = by (meets names formals) refl h
  where
    by : (b : Bool) → meets names formals ≡ b → IsIn line (if b then n ∷ [] else []) → (others : List (List ℕ)) × (private_names names ≡ private_names others) × IsTrue (meets others formals) × (n ≡ line)
    by true e (inl is) = (names, refl, e, sym is)
    by true e (inr i) = absurd i
    by false e i = absurd i

line_to : (formals : List (List ℕ)) (n : ℕ) (s : Site) (names : List (List ℕ)) → s ≡ private_names names → IsTrue (meets names formals) → IsIn n (private_line formals n s)
line_to formals n s names e h = subst (λ (t : Site). IsIn n (private_line formals n t)) (sym e) (subst (λ (b : Bool). IsIn n (if b then n ∷ [] else [])) (sym h) (inl refl))

private_from : (formals : List (List ℕ)) (lines : List ℕ) (sites : List Site) (line : ℕ) → IsIn line (private_lines formals lines sites) → IsPrivateAt formals lines sites line
private_from formals lines [] line h = absurd h
private_from formals lines (s ∷ rest) line h = elim (in_either line (private_line formals (next_line lines) s) (private_lines formals (drop 1 lines) rest) h) [
  | inl i ↦
      let there = line_from formals (next_line lines) s line i in
      record { site = record { site = s; line = next_line lines }; is_site = inl refl; names = there.0; is_private = there.1; formal = there.2; there = there.3 }
  | inr j ↦
      let there = private_from formals (drop 1 lines) rest line j in
      record { site = there.site; is_site = inr there.is_site; names = there.names; is_private = there.is_private; formal = there.formal; there = there.there }
]

private_to : (formals : List (List ℕ)) (lines : List ℕ) (sites : List Site) (x : Sited) (names : List (List ℕ)) (line : ℕ) → IsIn x (sited lines sites) → x.site ≡ private_names names → IsTrue (meets names formals) → x.line ≡ line → IsIn line (private_lines formals lines sites)
private_to formals lines [] x names line i e h l = absurd i
private_to formals lines (s ∷ rest) x names line (inl is) e h l =
    let at : next_line lines ≡ line = sym (ap (λ (y : Sited). y.line) is) ∙ l in
    in_left line (private_line formals (next_line lines) s) (private_lines formals (drop 1 lines) rest)
    (subst (λ (n : ℕ). IsIn n (private_line formals (next_line lines) s)) at (line_to formals (next_line lines) s names (sym (ap (λ (y : Sited). y.site) is) ∙ e) h))
private_to formals lines (s ∷ rest) x names line (inr i) e h l = in_right line (private_line formals (next_line lines) s) (private_lines formals (drop 1 lines) rest) (private_to formals (drop 1 lines) rest x names line i e h l)

-- the loops round a CALL are parallel, one at least
parallel_from : (loops : List Head) → list_any (λ (h : Head). h.parallel) loops ≡ true → (h : Head) × IsIn h loops × IsTrue h.parallel
parallel_from [] e = absurd cc
parallel_from (k ∷ ks) e = elim (or_cases k.parallel (list_any (λ (h : Head). h.parallel) ks) e) [
  | inl p ↦ (k, inl refl, p)
  | inr q ↦ let there = parallel_from ks q in (there.0, inr there.1, there.2)
]

parallel_to : (loops : List Head) (h : Head) → IsIn h loops → IsTrue h.parallel → list_any (λ (k : Head). k.parallel) loops ≡ true
parallel_to [] h i p = absurd i
parallel_to (k ∷ ks) h (inl is) p = or_left k.parallel (list_any (λ (r : Head). r.parallel) ks) (ap (λ (r : Head). r.parallel) (sym is) ∙ p)
parallel_to (k ∷ ks) h (inr i) p = or_right k.parallel (list_any (λ (r : Head). r.parallel) ks) (parallel_to ks h i p)

no_unit_number : (us : ProgramUnits) (x : List ℕ) → unit_of us x ≡ None → number_of_unit (all_units us) x ≡ None
no_unit_number us x h = by (number_of_unit (all_units us) x) refl
  where
    none : (a : ProgramUnit) → Some a ≡ None → ⊥
    none a e = absurd cc

    by : (o : Option ℕ) → number_of_unit (all_units us) x ≡ o → number_of_unit (all_units us) x ≡ None
    by None e = e
    by (Some k) e = absurd (none _ (sym (unit_of_number us x k e).0 ∙ h))

-- a walk of each unit, and a unit of each walk
walk_of : (us : List ProgramUnit) (fs : List Found) (u : ProgramUnit) → AreWalked us fs → IsIn u us → (f : Found) × IsIn f fs × IsWalked u f
walk_of [] [] u w i = absurd i
walk_of [] (f ∷ fs) u w i = absurd i
walk_of (v ∷ vs) [] u w i = absurd w
walk_of (v ∷ vs) (f ∷ fs) u w (inl is) = (f, inl refl, subst (λ (x : ProgramUnit). IsWalked x f) (sym is) w.0)
walk_of (v ∷ vs) (f ∷ fs) u w (inr i) = let there = walk_of vs fs u w.1 i in (there.0, inr there.1, there.2)

unit_walked : (us : List ProgramUnit) (fs : List Found) (f : Found) → AreWalked us fs → IsIn f fs → (u : ProgramUnit) × IsIn u us × IsWalked u f
unit_walked [] [] f w i = absurd i
unit_walked [] (g ∷ gs) f w i = absurd w
unit_walked (v ∷ vs) [] f w i = absurd i
unit_walked (v ∷ vs) (g ∷ gs) f w (inl is) = (v, inl refl, subst (λ (x : Found). IsWalked v x) (sym is) w.0)
unit_walked (v ∷ vs) (g ∷ gs) f w (inr i) = let there = unit_walked vs gs f w.1 i in (there.0, inr there.1, there.2)

-- a CALL at its place, by what a walk found
call_found : (u : ProgramUnit) (f : Found) (c : PlacedCall) → IsWalked u f → IsIn c f.calls.items → (p : Placed) × IsIn p (calls_of u) × (c ≡ placed_call p)
call_found u f c w i = in_map placed_call c (calls_of u) (subst (λ (cs : List PlacedCall). IsIn c cs) w.calls i)

found_call : (u : ProgramUnit) (f : Found) (p : Placed) → IsWalked u f → IsIn p (calls_of u) → IsIn (placed_call p) f.calls.items
found_call u f p w i = subst (λ (cs : List PlacedCall). IsIn (placed_call p) cs) (sym w.calls) (map_in placed_call p (calls_of u) i)

-- what the walks found stands
pub places_from : (us : ProgramUnits) (fs : List Found) → AreWalked (all_units us) fs → (r : LinkRefusal) (line : ℕ) → PlacesFound us fs r line → AtPlaces us r line
places_from us fs w r line h =
    let there = unit_walked (all_units us) fs h.walk w h.is_walk in
    let u = there.0 in
    let walked = there.2 in
    elim h.stands [
      | inl s ↦
          let at = private_from u.formals u.lines (program_sites u.tree) line (subst (λ (ns : List ℕ). IsIn line ns) walked.private s.1) in
          subst (λ (q : LinkRefusal). AtPlaces us q line) (sym s.0) (record { unit = u; is_unit = there.1; site = at.site; is_site = at.is_site; names = at.names; is_private = at.is_private; formal = at.formal; there = at.there })
      | inr s ↦ elim s [
        | inl a ↦
            let call = call_found u h.walk a.call walked a.is_call in
            let none : number_of_unit (all_units us) call.0.called.name ≡ None = ap (λ (c : PlacedCall). number_of_unit (all_units us) c.name) (sym call.2) ∙ a.stands in
            subst (λ (q : LinkRefusal). AtPlaces us q line) (sym a.is_rule) (record { unit = u; is_unit = there.1; call = call.0; is_call = call.1; stands = no_number us call.0.called.name none; there = ap (λ (c : PlacedCall). c.line) (sym call.2) ∙ a.there })
        | inr b ↦
            let call = call_found u h.walk b.call walked b.is_call in
            let parallel : list_any (λ (k : Head). k.parallel) call.0.loops ≡ true = ap (λ (c : PlacedCall). c.around.parallel) (sym call.2) ∙ b.stands in
            subst (λ (q : LinkRefusal). AtPlaces us q line) (sym b.is_rule) (record { unit = u; is_unit = there.1; call = call.0; is_call = call.1; stands = parallel_from call.0.loops parallel; there = ap (λ (c : PlacedCall). c.line) (sym call.2) ∙ b.there })
      ]
    ]

-- what stands the walks found
pub places_to : (us : ProgramUnits) (fs : List Found) → AreWalked (all_units us) fs → (r : LinkRefusal) (line : ℕ) → AtPlaces us r line → PlacesFound us fs r line
places_to us fs w NoUnit line h =
    let walk = walk_of (all_units us) fs h.unit w h.is_unit in
    record { walk = walk.0; is_walk = walk.1; stands = inr (inl (record { is_rule = refl; call = placed_call h.call; is_call = found_call h.unit walk.0 h.call walk.2 h.is_call; stands = no_unit_number us h.call.called.name h.stands; there = h.there })) }
places_to us fs w Arguments line h =
    let walk = walk_of (all_units us) fs h.unit w h.is_unit in
    let lines = private_to h.unit.formals h.unit.lines (program_sites h.unit.tree) h.site h.names line h.is_site h.is_private h.formal h.there in
    record { walk = walk.0; is_walk = walk.1; stands = inl (refl, subst (λ (ns : List ℕ). IsIn line ns) (sym walk.2.private) lines) }
places_to us fs w CallPlace line h =
    let walk = walk_of (all_units us) fs h.unit w h.is_unit in
    record { walk = walk.0; is_walk = walk.1; stands = inr (inr (record { is_rule = refl; call = placed_call h.call; is_call = found_call h.unit walk.0 h.call walk.2 h.is_call; stands = parallel_to h.call.loops h.stands.0 h.stands.1 h.stands.2; there = h.there })) }
places_to us fs w Recursion line h = absurd h
places_to us fs w Aliased line h = absurd h

-- no walk found anything
pub no_places : (us : ProgramUnits) → IsFirstOf (PlacesFound us []) None
no_places us r line h = h.is_walk

-- one walk more
pub places_more : (us : ProgramUnits) (fs all : List Found) (f : Found) (found lines calls : Option UnitFinding) → all ≡ fs ++ f ∷ [] → IsFirstOf (PlacesFound us fs) found → IsFirstOf (StandsAtLines f.private.items) lines → IsFirstOf (StandsAtPlaces (all_units us) f.calls.items) calls
    → IsFirstOf (PlacesFound us all) (first_link_of (first_link_of found lines) calls)
places_more us fs all f found lines calls e h l k =
    let one = both_first (PlacesFound us fs) (StandsAtLines f.private.items) found lines h l in
    let two = both_first (EitherStands (PlacesFound us fs) (StandsAtLines f.private.items)) (StandsAtPlaces (all_units us) f.calls.items) (first_link_of found lines) calls one k in
    subst (λ (gs : List Found). IsFirstOf (PlacesFound us gs) (first_link_of (first_link_of found lines) calls)) (sym e)
    (first_as (EitherStands (EitherStands (PlacesFound us fs) (StandsAtLines f.private.items)) (StandsAtPlaces (all_units us) f.calls.items)) (PlacesFound us (fs ++ f ∷ [])) (first_link_of (first_link_of found lines) calls) together apart two)
  where
    together : (r : LinkRefusal) (line : ℕ) → EitherStands (EitherStands (PlacesFound us fs) (StandsAtLines f.private.items)) (StandsAtPlaces (all_units us) f.calls.items) r line → PlacesFound us (fs ++ f ∷ []) r line
    together r line (inl (inl s)) = record { walk = s.walk; is_walk = in_left s.walk fs (f ∷ []) s.is_walk; stands = s.stands }
    together r line (inl (inr s)) = record { walk = f; is_walk = in_right f fs (f ∷ []) (inl refl); stands = inl s }
    together r line (inr s) = record { walk = f; is_walk = in_right f fs (f ∷ []) (inl refl); stands = inr s }

    apart : (r : LinkRefusal) (line : ℕ) → PlacesFound us (fs ++ f ∷ []) r line → EitherStands (EitherStands (PlacesFound us fs) (StandsAtLines f.private.items)) (StandsAtPlaces (all_units us) f.calls.items) r line
    apart r line s = elim (in_either s.walk fs (f ∷ []) s.is_walk) [
      | inl i ↦ inl (inl (record { walk = s.walk; is_walk = i; stands = s.stands }))
      | inr j ↦ elim (subst (λ (g : Found). EitherStands (StandsAtLines g.private.items) (StandsAtPlaces (all_units us) g.calls.items) r line) (in_one s.walk f j) s.stands) [ inl x ↦ inl (inr x) | inr y ↦ inr y ]
    ]

-- the walk of the unit with a number
pub walk_there : (us : List ProgramUnit) (fs : List Found) (k : ℕ) (d : ProgramUnit) (f : Found) → AreWalked us fs → k < length us → f ≡ get_or fs k f → IsWalked (get_or us k d) f
walk_there [] fs k d f w h e = absurd (omega (arith, h))
walk_there (u ∷ us) [] k d f w h e = absurd w
walk_there (u ∷ us) (g ∷ gs) zero d f w h e = subst (IsWalked u) (sym e) w.0
walk_there (u ∷ us) (g ∷ gs) (suc k) d f w h e = walk_there us gs k d f w.1 (omega (arith, h)) e

-- the walk of one unit more
pub walked_more : (us : List ProgramUnit) (fs : List Found) (u : ProgramUnit) (f : Found) → AreWalked us fs → IsWalked u f → AreWalked (us ++ u ∷ []) (fs ++ f ∷ [])
walked_more [] [] u f w h = (h, tt)
walked_more [] (g ∷ gs) u f w h = absurd w
walked_more (v ∷ vs) [] u f w h = absurd w
walked_more (v ∷ vs) (g ∷ gs) u f w h = (w.0, walked_more vs gs u f w.1 h)

-- as many walks as units
pub walked_long : (us : List ProgramUnit) (fs : List Found) → AreWalked us fs → length fs ≡ length us
walked_long [] [] w = refl
walked_long [] (g ∷ gs) w = absurd w
walked_long (v ∷ vs) [] w = absurd w
walked_long (v ∷ vs) (g ∷ gs) w = ap suc (walked_long vs gs w.1)

-- the CALLs that are read at the place of a walk
pub calls_read : (us : ProgramUnits) (walks : List Found) (n : ℕ) (r : Found) → AreWalked (all_units us) walks → n < length (all_units us) → r ≡ get_or walks n r → (get_or walks n r).calls.items ≡ map placed_call (calls_of (unit_at us n))
calls_read us walks n r w low e = ap (λ (f : Found). f.calls.items) (sym e) ∙ (walk_there (all_units us) walks n us.main r w low e).calls
