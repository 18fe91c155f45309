-- Uses of names at which nothing is refused, and sites at which nothing but a limit is.
use Rattle.std.proofs.Common.{◌≡◌, ℕ, List, [], ◌∷◌, ◌++◌, drop, Bool, true, false, refl, ap, subst, ◌⊎◌, inl, inr}
use Rattle.std.specs.Prelude.{◌||◌}
use Rattle.std.specs.List.{list_any, list_all}
use Rattle.std.proofs.lemmas.Bool.{or_parts, or_from}
use Rattle.ped_tree.specs.Grammar.Refusal.{Refusal, Finding, RealName, DeclaredTwice, NotConstant, RankDiffers, BoundsEmpty, StorageLimit, refused_if}
use Rattle.ped_steps.specs.ped_refs.specs.References.{Reference}
use Rattle.ped_steps.specs.ped_symbols.specs.declared.uses.Use.{Use}
use Rattle.ped_steps.specs.ped_symbols.specs.Declarations.{Declared}
use Rattle.ped_steps.specs.ped_symbols.specs.NameRefusals.{Before, uses_real, uses_constant, uses_program, uses_other_rank, dimensions_intrinsic, repeats, is_declared_twice, passes_limit, behind_site, behind_sites, at_site, at_sites, next_line}
use Rattle.ped_steps.specs.ped_symbols.specs.Sites.{Site, declaration, statement, private_names, site_uses}
use Rattle.ped_steps.specs.ped_symbols.specs.Values.{Values, site_fails, site_is_empty}
use Rattle.ped_steps.specs.ped_symbols.proofs.RightUseLaws.Quiet.{declares_nothing}
use Rattle.ped_calls.specs.ped_units.specs.Linking.{IsIn}
use Rattle.ped_call_runs.proofs.SuitedUnits.{split}

-- nothing is refused at the use
pub record IsProper (d : Declared) (u : Use) : Type 0 where
  pub real : uses_real d u ≡ false
  pub constant : uses_constant d u ≡ false
  pub program : uses_program d u ≡ false
  pub rank : uses_other_rank d u ≡ false
  pub array : dimensions_intrinsic u ≡ false

-- and at each of these
abbrev pub AreProper : Declared → List Use → Type 0
AreProper d [] = Unit {0}
AreProper d (u ∷ us) = IsProper d u × AreProper d us

module _ (d : Declared) where
  pub proper_front : (us vs : List Use) → AreProper d (us ++ vs) → AreProper d us
  proper_front [] vs h = tt
  proper_front (u ∷ us) vs h = (h.0, proper_front us vs h.1)

  pub proper_behind : (us vs : List Use) → AreProper d (us ++ vs) → AreProper d vs
  proper_behind [] vs h = h
  proper_behind (u ∷ us) vs h = proper_behind us vs h.1

  pub proper_both : (us vs : List Use) → AreProper d us → AreProper d vs → AreProper d (us ++ vs)
  proper_both [] vs h k = k
  proper_both (u ∷ us) vs h k = (h.0, proper_both us vs h.1 k)

  all_proper : (us : List Use) → list_any (uses_real d) us ≡ false → list_any (uses_constant d) us ≡ false → list_any (uses_program d) us ≡ false → list_any (uses_other_rank d) us ≡ false → list_any dimensions_intrinsic us ≡ false → AreProper d us
  all_proper [] a b c e f = tt
  all_proper (u ∷ us) a b c e f =
      let p = or_parts (uses_real d u) (list_any (uses_real d) us) a in
      let q = or_parts (uses_constant d u) (list_any (uses_constant d) us) b in
      let r = or_parts (uses_program d u) (list_any (uses_program d) us) c in
      let s = or_parts (uses_other_rank d u) (list_any (uses_other_rank d) us) e in
      let t = or_parts (dimensions_intrinsic u) (list_any dimensions_intrinsic us) f in
      (record { real = p.0; constant = q.0; program = r.0; rank = s.0; array = t.0 }, all_proper us p.1 q.1 r.1 s.1 t.1)

  none_of : (test : Use → Bool) → ((u : Use) → IsProper d u → test u ≡ false) → (us : List Use) → AreProper d us → list_any test us ≡ false
  none_of test each [] h = refl
  none_of test each (u ∷ us) h = or_from _ _ (each u h.0) (none_of test each us h.1)

-- nothing but a limit is refused at the site
pub record IsProperSite (d : Declared) (b : Before) (s : Site) : Type 0 where
  pub uses : AreProper d (site_uses s)
  pub once : repeats b.uses s ≡ false
  pub values : site_fails b.values s ≡ false
  pub bounds : site_is_empty b.values s ≡ false

-- and at sites, one after the other
abbrev pub AreProperSites : Declared → Before → List Site → Type 0
AreProperSites d b [] = Unit {0}
AreProperSites d b (s ∷ rest) = IsProperSite d b s × AreProperSites d (behind_site b s) rest

pub none_before : (a b : List Finding) → a ++ b ≡ [] → a ≡ []
none_before [] b h = refl
none_before (x ∷ a) b h = absurd cc

pub none_behind : (a b : List Finding) → a ++ b ≡ [] → b ≡ []
none_behind [] b h = h
none_behind (x ∷ a) b h = absurd cc

not_refused : (test : Bool) (r : Refusal) (line : ℕ) → refused_if test r line ≡ [] → test ≡ false
unfolding refused_if
not_refused true r line h = absurd cc
not_refused false r line h = refl

proper_site : (d : Declared) (refs : List Reference) (b : Before) (line : ℕ) (s : Site) → at_site d refs b line s ≡ [] → IsProperSite d b s
proper_site d refs b line s h =
    let five = none_before _ _ h in
    let four = none_before _ _ five in
    let three = none_before _ _ four in
    let two = none_before _ _ three in
    let twice : is_declared_twice d b.uses s ≡ false = not_refused _ _ _ (none_behind _ _ two) in
    let three_tests = or_parts _ _ twice in
    let two_tests = or_parts _ _ three_tests.0 in
    let tests = or_parts _ _ two_tests.0 in
    record {
      uses = all_proper d (site_uses s) (not_refused _ _ _ (none_before _ _ two)) tests.0 tests.1 (not_refused _ _ _ (none_behind _ _ four)) two_tests.1;
      once = three_tests.1;
      values = not_refused _ _ _ (none_behind _ _ three);
      bounds = not_refused _ _ _ (none_behind _ _ five);
    }

-- where nothing is refused, nothing but a limit is
pub proper_sites : (d : Declared) (refs : List Reference) (b : Before) (lines : List ℕ) (sites : List Site) → at_sites d refs b lines sites ≡ [] → AreProperSites d b sites
proper_sites d refs b lines [] h = tt
proper_sites d refs b lines (s ∷ rest) h =
    (proper_site d refs b (next_line lines) s (none_before _ _ h), proper_sites d refs (behind_site b s) (drop 1 lines) rest (none_behind _ _ h))

module _ (d : Declared) (refs : List Reference) where
  alone : (b : Before) (line : ℕ) (s : Site) → IsProperSite d b s → at_site d refs b line s ≡ refused_if (passes_limit refs b s) StorageLimit line
  unfolding refused_if
  alone b line s h =
      let real = none_of d (uses_real d) (λ u p. p.real) (site_uses s) h.uses in
      let constant = none_of d (uses_constant d) (λ u p. p.constant) (site_uses s) h.uses in
      let program = none_of d (uses_program d) (λ u p. p.program) (site_uses s) h.uses in
      let rank = none_of d (uses_other_rank d) (λ u p. p.rank) (site_uses s) h.uses in
      let array = none_of d dimensions_intrinsic (λ u p. p.array) (site_uses s) h.uses in
      λ i.
      refused_if (real i) RealName line
      ++ refused_if (constant i || program i || array i || h.once i) DeclaredTwice line
      ++ refused_if (h.values i) NotConstant line
      ++ refused_if (rank i) RankDiffers line
      ++ refused_if (h.bounds i) BoundsEmpty line
      ++ refused_if (passes_limit refs b s) StorageLimit line

  is_limit : (test : Bool) (line : ℕ) (f : Finding) → IsIn f (refused_if test StorageLimit line) → f.refusal ≡ StorageLimit
  unfolding refused_if
  is_limit true line f (inl e) = ap (λ (g : Finding). g.refusal) e
  is_limit true line f (inr h) = absurd h
  is_limit false line f h = absurd h

  -- what is refused at such sites is a limit
  pub limits_alone : (b : Before) (lines : List ℕ) (sites : List Site) → AreProperSites d b sites → (f : Finding) → IsIn f (at_sites d refs b lines sites) → f.refusal ≡ StorageLimit
  limits_alone b lines [] h f is = absurd is
  limits_alone b lines (s ∷ rest) h f is = go (split f (at_site d refs b (next_line lines) s) (at_sites d refs (behind_site b s) (drop 1 lines) rest) is) (limits_alone (behind_site b s) (drop 1 lines) rest h.1 f)
    where
      go : IsIn f (at_site d refs b (next_line lines) s) ⊎ IsIn f (at_sites d refs (behind_site b s) (drop 1 lines) rest) → (IsIn f (at_sites d refs (behind_site b s) (drop 1 lines) rest) → f.refusal ≡ StorageLimit) → f.refusal ≡ StorageLimit
      go (inl here) more = is_limit (passes_limit refs b s) (next_line lines) f (subst (IsIn f) (alone b (next_line lines) s h.0) here)
      go (inr later) more = more later

module _ (d : Declared) where
  pub sites_front : (b : Before) (xs ys : List Site) → AreProperSites d b (xs ++ ys) → AreProperSites d b xs
  sites_front b [] ys h = tt
  sites_front b (x ∷ xs) ys h = (h.0, sites_front (behind_site b x) xs ys h.1)

  pub sites_behind : (b : Before) (xs ys : List Site) → AreProperSites d b (xs ++ ys) → AreProperSites d (behind_sites b xs) ys
  sites_behind b [] ys h = h
  sites_behind b (x ∷ xs) ys h = sites_behind (behind_site b x) xs ys h.1

  pub sites_both : (b : Before) (xs ys : List Site) → AreProperSites d b xs → AreProperSites d (behind_sites b xs) ys → AreProperSites d b (xs ++ ys)
  sites_both b [] ys h k = k
  sites_both b (x ∷ xs) ys h k = (h.0, sites_both (behind_site b x) xs ys h.1 k)

-- a site of a statement at which nothing but a limit is refused, where these are the named constants
pub record IsProperAt (d : Declared) (values : Values) (s : Site) : Type 0 where
  pub uses : AreProper d (site_uses s)
  pub once : repeats [] s ≡ false
  pub fine : site_fails values s ≡ false

abbrev pub AllProperAt : Declared → Values → List Site → Type 0
AllProperAt d values [] = Unit {0}
AllProperAt d values (s ∷ rest) = IsProperAt d values s × AllProperAt d values rest

module _ (d : Declared) (values : Values) where
  pub at_front : (xs ys : List Site) → AllProperAt d values (xs ++ ys) → AllProperAt d values xs
  at_front [] ys h = tt
  at_front (x ∷ xs) ys h = (h.0, at_front xs ys h.1)

  pub at_behind : (xs ys : List Site) → AllProperAt d values (xs ++ ys) → AllProperAt d values ys
  at_behind [] ys h = h
  at_behind (x ∷ xs) ys h = at_behind xs ys h.1

  pub at_both : (xs ys : List Site) → AllProperAt d values xs → AllProperAt d values ys → AllProperAt d values (xs ++ ys)
  at_both [] ys h k = k
  at_both (x ∷ xs) ys h k = (h.0, at_both xs ys h.1 k)

-- sites of statements, after declarations
pub statements_at : (d : Declared) (b : Before) (sites : List Site) → list_all declares_nothing sites ≡ true → AreProperSites d b sites → AllProperAt d b.values sites
statements_at d b [] n h = tt
statements_at d b (declaration t ∷ rest) n h = absurd cc
statements_at d b (statement s ∷ rest) n h = (record { uses = h.0.uses; once = h.0.once; fine = h.0.values }, statements_at d (behind_site b (statement s)) rest n h.1)
statements_at d b (private_names xs ∷ rest) n h = (record { uses = h.0.uses; once = h.0.once; fine = refl }, statements_at d b rest n h.1)

pub at_statements : (d : Declared) (b : Before) (sites : List Site) → list_all declares_nothing sites ≡ true → AllProperAt d b.values sites → AreProperSites d b sites
at_statements d b [] n h = tt
at_statements d b (declaration t ∷ rest) n h = absurd cc
at_statements d b (statement s ∷ rest) n h = (record { uses = h.0.uses; once = h.0.once; values = h.0.fine; bounds = refl }, at_statements d (behind_site b (statement s)) rest n h.1)
at_statements d b (private_names xs ∷ rest) n h = (record { uses = h.0.uses; once = h.0.once; values = refl; bounds = refl }, at_statements d b rest n h.1)
