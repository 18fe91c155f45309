-- Where a main program's expansion isn't valid, the first CALL by which a limit is passed is there, and is the only one.
use Rattle.std.proofs.Common.{◌≡◌, ◌⊎◌, inl, inr, ℕ, zero, suc, ◌+◌, ◌-◌, ◌<◌, List, [], ◌∷◌, length, slice_get, Bool, true, false, Some, refl, sym, ap, subst, ◌∙◌, arith}
use Rattle.std.specs.Prelude.{◌||◌, not}
use Rattle.std.proofs.lemmas.Bool.{cases_lt}
use Rattle.ped_tree.specs.Grammar.Fits.{fits}
use Rattle.ped_tree.specs.Grammar.Refusal.{Finding, Refusal, Tab, BadLabel, TooManyContinuations, ContinuationFirst, BadCharacter, OpenConstant, Syntax, NotInProfile, OpenBlock, BadTerminal, IndexAssigned, StopPlace, RealName, DeclaredTwice, NotConstant, RankDiffers, BoundsEmpty, Limit, StorageLimit}
use Rattle.ped_links.specs.ped_symbols.specs.NameRefusals.{name_refusals, IsValid}
use Rattle.ped_links.specs.ped_units.specs.Units.{ProgramUnits}
use Rattle.ped_links.specs.ped_units.specs.Linking.{Placed, calls_of}
use Rattle.ped_links.specs.ped_units.specs.Expanding.{expansion}
use Rattle.ped_links.specs.ped_units.specs.Verdicts.{calls_count, partial, passes_limit, IsPast, IsWithin, IsFirstPast}
use Rattle.ped_calls.specs.Opening.{StartsWell}
use Rattle.ped_calls.proofs.FirstCalls.{all_placed}
use Rattle.ped_calls.proofs.FirstPast.{valid_whole, within_more, within_none}

-- one of both limits is passed
pub data PassesOne (us : ProgramUnits) (m : ℕ) (r : Refusal) : Type 0 where
  of_statements : r ≡ Limit → passes_limit us m ≡ true → PassesOne us m r
  of_storage : r ≡ StorageLimit → passes_limit us m ≡ false → PassesOne us m r

past_one : (us : ProgramUnits) (m : ℕ) (r : Refusal) → IsPast us m r → PassesOne us m r
past_one us m Limit h = of_statements refl h
past_one us m StorageLimit h = of_storage refl h.0
past_one us m Tab h = absurd h
past_one us m BadLabel h = absurd h
past_one us m TooManyContinuations h = absurd h
past_one us m ContinuationFirst h = absurd h
past_one us m BadCharacter h = absurd h
past_one us m OpenConstant h = absurd h
past_one us m Syntax h = absurd h
past_one us m NotInProfile h = absurd h
past_one us m OpenBlock h = absurd h
past_one us m BadTerminal h = absurd h
past_one us m IndexAssigned h = absurd h
past_one us m StopPlace h = absurd h
past_one us m RealName h = absurd h
past_one us m DeclaredTwice h = absurd h
past_one us m NotConstant h = absurd h
past_one us m RankDiffers h = absurd h
past_one us m BoundsEmpty h = absurd h

never : true ≡ false → ⊥
never h = cc

one_past : (us : ProgramUnits) (m : ℕ) (r q : Refusal) → PassesOne us m r → PassesOne us m q → r ≡ q
one_past us m r q (of_statements e h) (of_statements d k) = e ∙ sym d
one_past us m r q (of_statements e h) (of_storage d k) = absurd (never (sym h ∙ k))
one_past us m r q (of_storage e h) (of_statements d k) = absurd (never (sym k ∙ h))
one_past us m r q (of_storage e h) (of_storage d k) = e ∙ sym d

-- what is past is known
pub record NonePast (us : ProgramUnits) (m : ℕ) : Type 0 where
  pub none : (r : Refusal) → IsPast us m r → ⊥
  pub valid : IsValid (partial us m)

pub record SomePast (us : ProgramUnits) (m : ℕ) : Type 0 where
  pub limit : Refusal
  pub past : IsPast us m limit

fitting : (a f : Bool) → (a || not f) ≡ false → f ≡ true
fitting true f h = absurd (never h)
fitting false true h = refl
fitting false false h = absurd (never h)

none_past : (us : ProgramUnits) (m : ℕ) → passes_limit us m ≡ false → name_refusals [] (partial us m) ≡ [] → NonePast us m
none_past us m h k = record { none = λ r p. by r (past_one us m r p) p; valid = record { fits = fitting _ (fits (partial us m)) h; names = k } }
  where
    by : (r : Refusal) → PassesOne us m r → IsPast us m r → ⊥
    by r (of_statements e t) p = never (sym t ∙ h)
    by r (of_storage e t) p = (subst (IsPast us m) e p).1 k

past_by : (us : ProgramUnits) (m : ℕ) (b : Bool) (names : List Finding) → passes_limit us m ≡ b → name_refusals [] (partial us m) ≡ names → NonePast us m ⊎ SomePast us m
past_by us m true names h k = inr (record { limit = Limit; past = h })
past_by us m false [] h k = inl (none_past us m h k)
past_by us m false (f ∷ fs) h k = inr (record { limit = StorageLimit; past = (h, λ e. some (sym e ∙ k)) })
  where
    some : ◌≡◌ {A = List Finding} [] (f ∷ fs) → ⊥
    some e = cc

past_known : (us : ProgramUnits) (m : ℕ) → NonePast us m ⊎ SomePast us m
past_known us m = past_by us m (passes_limit us m) (name_refusals [] (partial us m)) refl refl

-- the first CALL by which a limit is passed, before this place
pub record PastBelow (us : ProgramUnits) (n : ℕ) : Type 0 where
  pub place : ℕ
  pub below : place < n
  pub within : IsWithin us place
  pub limit : Refusal
  pub past : IsPast us (place + 1) limit

-- none is passed up to there
pub record WithinSoFar (us : ProgramUnits) (n : ℕ) : Type 0 where
  pub within : IsWithin us n
  pub valid : 0 < n → IsValid (partial us n)

one_further : (us : ProgramUnits) (n : ℕ) → WithinSoFar us n → NonePast us (n + 1) ⊎ SomePast us (n + 1) → PastBelow us (n + 1) ⊎ WithinSoFar us (n + 1)
one_further us n w (inl none) = inr (record { within = within_more us n w.within none.none; valid = λ h. none.valid })
one_further us n w (inr some) = inl (record { place = n; below = omega arith; within = w.within; limit = some.limit; past = some.past })

further : (us : ProgramUnits) (n : ℕ) → PastBelow us n ⊎ WithinSoFar us n → PastBelow us (n + 1) ⊎ WithinSoFar us (n + 1)
further us n (inl p) = let low = p.below in inl (record { place = p.place; below = omega (arith, low); within = p.within; limit = p.limit; past = p.past })
further us n (inr w) = one_further us n w (past_known us (n + 1))

search_past : (us : ProgramUnits) (n : ℕ) → PastBelow us n ⊎ WithinSoFar us n
search_past us zero = inr (record { within = within_none us; valid = λ h. absurd (omega (arith, h)) })
search_past us (suc n) =
    let more : n + 1 ≡ suc n = omega arith in
    subst (λ (m : ℕ). PastBelow us m ⊎ WithinSoFar us m) more (further us n (search_past us n))

call_at : (ps : List Placed) (n : ℕ) → n < length ps → (p : Placed) × (slice_get ps n ≡ Some p)
call_at [] n h = absurd (omega (arith, h))
call_at (p ∷ ps) zero h = (p, refl)
call_at (p ∷ ps) (suc n) h = call_at ps n (omega (arith, h))

-- the first CALL by which a limit is passed
pub record PastThere (us : ProgramUnits) : Type 0 where
  pub limit : Refusal
  pub line : ℕ
  pub first : IsFirstPast us limit line

past_found : (us : ProgramUnits) → StartsWell us → (IsValid (expansion us) → ⊥) → PastBelow us (calls_count us.main.tree.body) ⊎ WithinSoFar us (calls_count us.main.tree.body) → PastThere us
past_found us starts invalid (inl p) =
    let low = p.below in
    let counted : length (calls_of us.main) ≡ calls_count us.main.tree.body = all_placed [] _ us.main.tree.body in
    let there = call_at (calls_of us.main) p.place (omega (arith, low, counted)) in
    record {
      limit = p.limit;
      line = there.0.line;
      first = record { invalid = invalid; before = p.place; call = there.0; is_call = there.1; past = p.past; within = p.within; there = refl };
    }
past_found us starts invalid (inr w) = absurd (invalid (valid_whole us (calls_count us.main.tree.body) starts (omega arith) w.valid))

pub past_there : (us : ProgramUnits) → StartsWell us → (IsValid (expansion us) → ⊥) → PastThere us
past_there us starts invalid = past_found us starts invalid (search_past us (calls_count us.main.tree.body))

-- it is the only one

not_before : (us : ProgramUnits) (r q : Refusal) (line other : ℕ) (p : IsFirstPast us r line) (s : IsFirstPast us q other) → p.before < s.before → ⊥
not_before us r q line other p s h = s.within (p.before + 1) r (omega arith) (omega (arith, h)) p.past

same_place : (us : ProgramUnits) (r q : Refusal) (line other : ℕ) (p : IsFirstPast us r line) (s : IsFirstPast us q other) → p.before ≡ s.before
same_place us r q line other p s = elim (cases_lt p.before s.before) [
  | inl low ↦ absurd (not_before us r q line other p s low)
  | inr high ↦ elim (cases_lt s.before p.before) [
    | inl low ↦ absurd (not_before us q r other line s p low)
    | inr also ↦ omega (arith, high, also)
  ]
]

some_is : (x y : Placed) → Some x ≡ Some y → x ≡ y
some_is x y e = cc

pub same_limit : (us : ProgramUnits) (r q : Refusal) (line other : ℕ) → IsFirstPast us r line → IsFirstPast us q other → (r ≡ q) × (line ≡ other)
same_limit us r q line other p s =
    let place = same_place us r q line other p s in
    let past : IsPast us (s.before + 1) r = subst (λ (n : ℕ). IsPast us (n + 1) r) place p.past in
    let call : p.call ≡ s.call = some_is p.call s.call (sym p.is_call ∙ ap (slice_get (calls_of us.main)) place ∙ s.is_call) in
    (one_past us (s.before + 1) r q (past_one us (s.before + 1) r past) (past_one us (s.before + 1) q s.past), sym p.there ∙ ap (λ (c : Placed). c.line) call ∙ s.there)
