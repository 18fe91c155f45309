-- Each rule of `fuse` names a statement, or doesn't stand: which of the two is decided.
use Rattle.std.proofs.Common.{◌≡◌, ◌⊎◌, ℕ, suc, ◌<◌, ◌≤◌, nat_lt, Bool, true, false, if◌then◌else◌, Option, Some, None, MatchOption, inl, inr, refl, sym, ap, subst, ◌∙◌, arith, lt-ltb, le-ltb}
use Rattle.std.proofs.lemmas.Bool.{both_ways, cases_lt}
use Rattle.ped_tree.specs.NamesIn.{loop_variables}
use Rattle.ped_tree.specs.Tree.{Head, StmtTrees, Do, ProgramTree}
use Rattle.ped_rules.proofs.HeadLaws.PlainDecided.{OrNot}
use Rattle.ped_rules.proofs.Decided.{loop_decided, valid_decided, limit_stands}
use Rattle.ped_rules.specs.Chains.{WhereLoop}
use Rattle.ped_rules.specs.ped_flow.proofs.Escaping.{escape_is}
use Rattle.ped_rules.specs.ped_flow.proofs.FirstLaws.{first_map, first_or}
use Rattle.ped_rules.specs.ped_flow.specs.Answers.{IsEscape}
use Rattle.ped_rules.specs.ped_flow.specs.Escapes.{escapes_of, escaping}
use Rattle.ped_rules.specs.ped_flow.specs.Questions.{LoopOf, IsFirst, IsReadLoose, IsReadBehind, IsContained, IsBrokenBy, IsShown}
use Rattle.ped_rules.specs.ped_flow.specs.Summaries.{least_of}
use Rattle.ped_rules.specs.ped_flow.specs.declared.flows.Reader.{Reader}
use Rattle.ped_rules.specs.ped_flow.specs.declared.flows.Reader.TheVariants.{Statement, Saved}
use Rattle.ped_rules.specs.ped_symbols.specs.NameRefusals.{IsValid}
use Rattle.ped_splits.specs.Neighbours.{Neighbour, fused, next_number, kept_without}
use Rattle.ped_rules.specs.KeepMaps.{opened_at}
use Rattle.ped_splits.specs.Fusing.{Match, MakesFused, WhereNext, WhereEither, IsBrokenInFusion, IsShownInFusion, WhereFusionEscapes, WhereNoMatch, WhereFusedLimit}
use Rattle.ped_splits.proofs.AlikeDecided.{neither, match_decided}
use Rattle.ped_splits.proofs.FuseOne.{fused_at, number_behind, one_made}
use Rattle.ped_splits.proofs.Here.{fails_there}
use Rattle.ped_splits.proofs.NeighbourFound.{Found, neighbour_decided, one_neighbour}
use Rattle.ped_splits.proofs.NeighbourLoops.{next_loop, fused_loop}

-- the rule names a statement, or none
abbrev pub Names : (ℕ → Type 0) → Type 0
Names P = (o : Option ℕ) × MatchOption o ((n : ℕ) → P n → ⊥) P

truth : (b : Bool) → (b ≡ true) ⊎ (b ≡ false)
truth true = inl refl
truth false = inr refl

-- the first statement of which this holds; where there is none, something else is decided
record FirstOr (P : ℕ → Type 0) (S : Type 0) : Type 0 where
  of : Option ℕ
  first : IsFirst P of
  shown : of ≡ None → OrNot S

no_none : (n : ℕ) → Some n ≡ None → ⊥
no_none n e = cc

broken_not : (u : ProgramTree) (l n : ℕ) → IsContained u l → IsBrokenBy u l n → ⊥
broken_not u l n contained b = by b.read
  where
    by : IsReadLoose u l b.scalar n ⊎ IsReadBehind u l b.scalar n → ⊥
    by (inl loose) = (contained b.scalar b.index).0 n loose
    by (inr behind) = (contained b.scalar b.index).1 (inl (n, behind))

-- by which statement a DO isn't contained
first_of_loop : (u : ProgramTree) (l : ℕ) → LoopOf u l → FirstOr (IsBrokenBy u l) (IsShown u l)
first_of_loop u l loop = by (escaping (escapes_of u l loop.head loop.body (loop_variables (Do loop.head loop.body)))) (escape_is u l loop.head loop.body loop.is)
  where
    by : (r : Option Reader) → IsEscape u l r → FirstOr (IsBrokenBy u l) (IsShown u l)
    by (Some (Statement n)) e = record { of = Some n; first = e; shown = λ f. absurd (no_none n f) }
    by (Some Saved) e = record { of = None; first = e.0; shown = λ f. inl e.1 }
    by None e = record { of = None; first = λ n b. broken_not u l n e b; shown = λ f. inr (λ shown. (e shown.scalar shown.index).1 (inr shown.shown)) }

none_of_both : (a b : Option ℕ) → least_of a b ≡ None → (a ≡ None) × (b ≡ None)
none_of_both None b e = (refl, e)
none_of_both (Some m) None e = absurd (no_none m e)
none_of_both (Some m) (Some n) e = absurd cc

either_decided : {S T : Type 0} → OrNot S → OrNot T → OrNot (S ⊎ T)
either_decided (inl p) d = inl (inl p)
either_decided (inr n) (inl q) = inl (inr q)
either_decided (inr n) (inr m) = inr (neither n m)

first_of_both : (P Q : ℕ → Type 0) (S T : Type 0) → FirstOr P S → FirstOr Q T → FirstOr (λ n. P n ⊎ Q n) (S ⊎ T)
first_of_both P Q S T a b = record {
  of = least_of a.of b.of;
  first = first_or P Q a.of b.of a.first b.first;
  shown = λ e. let none = none_of_both a.of b.of e in either_decided (a.shown none.0) (b.shown none.1);
}

-- nothing holds of any
first_of_none : (P : ℕ → Type 0) (S : Type 0) → ((n : ℕ) → P n → ⊥) → (S → ⊥) → FirstOr P S
first_of_none P S none not = record { of = None; first = none; shown = λ e. inr not }

opened_below : (m k : ℕ) → k < m → opened_at m k ≡ k
opened_below m k h = by (nat_lt k m) (lt-ltb k m h)
  where
    by : (b : Bool) → b ≡ true → (if b then k else suc k) ≡ k
    by true e = refl
    by false e = absurd cc

opened_above : (m k : ℕ) → m ≤ k → opened_at m k ≡ suc k
opened_above m k h = by (nat_lt k m) (le-ltb k m h)
  where
    by : (b : Bool) → b ≡ false → (if b then k else suc k) ≡ suc k
    by true e = absurd cc
    by false e = refl

-- the number before the step rises with that behind it
rises : (m j k : ℕ) → j ≤ k → opened_at m j ≤ opened_at m k
rises m j k le = by (cases_lt j m) (cases_lt k m)
  where
    by : (j < m) ⊎ (m ≤ j) → (k < m) ⊎ (m ≤ k) → opened_at m j ≤ opened_at m k
    by (inl low) (inl below) = let p = opened_below m j low in let q = opened_below m k below in omega (arith, p, q, le)
    by (inl low) (inr above) = let p = opened_below m j low in let q = opened_above m k above in omega (arith, p, q, le)
    by (inr high) (inl below) = absurd (omega (arith, high, below, le))
    by (inr high) (inr above) = let p = opened_above m j high in let q = opened_above m k above in omega (arith, p, q, le)

module _ (t : ProgramTree) (s : ℕ) where
  abbrev BreaksNext : ℕ → Type 0
  BreaksNext k = (x : Neighbour t s) × IsBrokenBy t (next_number x) k

  abbrev ShowsNext : Type 0
  ShowsNext = (x : Neighbour t s) × IsShown t (next_number x)

  same_next : (x y : Neighbour t s) → next_number y ≡ next_number x
  same_next x y = ap (number_behind s) (one_neighbour t s y x)

  next_shown : (x : Neighbour t s) → OrNot (IsShown t (next_number x)) → OrNot ShowsNext
  next_shown x (inl p) = inl (x, p)
  next_shown x (inr n) = inr (λ p. n (subst (λ (k : ℕ). IsShown t k) (same_next x p.0) p.1))

  first_of_next : FirstOr BreaksNext ShowsNext
  first_of_next = by (neighbour_decided t s)
    where
      on : (x : Neighbour t s) → FirstOr (IsBrokenBy t (next_number x)) (IsShown t (next_number x)) → FirstOr BreaksNext ShowsNext
      on x f = record {
        of = f.of;
        first = first_map (IsBrokenBy t (next_number x)) BreaksNext f.of (λ n b. (x, b)) (λ n p. subst (λ (k : ℕ). IsBrokenBy t k n) (same_next x p.0) p.1) f.first;
        shown = λ e. next_shown x (f.shown e);
      }

      by : OrNot (Neighbour t s) → FirstOr BreaksNext ShowsNext
      by (inl x) = on x (first_of_loop t (next_number x) (next_loop t s x))
      by (inr n) = first_of_none BreaksNext ShowsNext (λ k p. n p.0) (λ p. n p.0)

  abbrev BreaksFused : ℕ → Type 0
  BreaksFused k = (m : Match t s) × (j : ℕ) × IsBrokenBy (fused m.neighbour) s j × (k ≡ opened_at (next_number m.neighbour) j)

  abbrev ShowsFused : Type 0
  ShowsFused = (m : Match t s) × IsShown (fused m.neighbour) s

  same_fused : (x y : Neighbour t s) → fused y ≡ fused x
  same_fused x y = ap (fused_at t) (one_neighbour t s y x)

  moved : (m : Match t s) (j : ℕ) (n : Match t s) → IsBrokenBy (fused n.neighbour) s j → IsBrokenBy (fused m.neighbour) s j
  moved m j n b = subst (λ (u : ProgramTree). IsBrokenBy u s j) (same_fused m.neighbour n.neighbour) b

  -- the first one under its number before the step
  first_opened : (m : Match t s) (o : Option ℕ) → IsFirst (IsBrokenBy (fused m.neighbour) s) o → (p : Option ℕ) × IsFirst BreaksFused p × (p ≡ None → o ≡ None)
  first_opened m None none = (None, (λ k p. none p.1 (moved m p.1 p.0 p.2)), λ e. refl)
  first_opened m (Some j) f = (
    Some (opened_at (next_number m.neighbour) j),
    (
      (m, j, f.0, refl),
      λ k p. subst (λ (i : ℕ). opened_at (next_number m.neighbour) j ≤ i) (sym (p.3 ∙ ap (λ (i : ℕ). opened_at i p.1) (same_next m.neighbour p.0.neighbour)))
          (rises (next_number m.neighbour) j p.1 (f.1 p.1 (moved m p.1 p.0 p.2))),
    ),
    λ e. absurd (no_none (opened_at (next_number m.neighbour) j) e),
  )

  fused_shown : (m : Match t s) → OrNot (IsShown (fused m.neighbour) s) → OrNot ShowsFused
  fused_shown m (inl p) = inl (m, p)
  fused_shown m (inr n) = inr (λ p. n (subst (λ (u : ProgramTree). IsShown u s) (same_fused m.neighbour p.0.neighbour) p.1))

  first_of_fused : FirstOr BreaksFused ShowsFused
  first_of_fused = by (match_decided t s)
    where
      on : (m : Match t s) → FirstOr (IsBrokenBy (fused m.neighbour) s) (IsShown (fused m.neighbour) s) → FirstOr BreaksFused ShowsFused
      on m f = let g = first_opened m f.of f.first in record { of = g.0; first = g.1; shown = λ e. fused_shown m (f.shown (g.2 e)) }

      by : OrNot (Match t s) → FirstOr BreaksFused ShowsFused
      by (inl m) = on m (first_of_loop (fused m.neighbour) s (fused_loop t s m.neighbour))
      by (inr n) = first_of_none BreaksFused ShowsFused (λ k p. n p.0) (λ p. n p.0)

  first_broken : LoopOf t s → FirstOr (IsBrokenInFusion t s) (IsShownInFusion t s)
  first_broken l =
      first_of_both (IsBrokenBy t s) (λ k. BreaksNext k ⊎ BreaksFused k) (IsShown t s) (ShowsNext ⊎ ShowsFused) (first_of_loop t s l)
      (first_of_both BreaksNext BreaksFused ShowsNext ShowsFused first_of_next first_of_fused)

  -- rule 5
  pub escape_names : Names (WhereFusionEscapes t s)
  escape_names = by (loop_decided t s)
    where
      shows : (l : LoopOf t s) → IsFirst (IsBrokenInFusion t s) None → OrNot (IsShownInFusion t s) → Names (WhereFusionEscapes t s)
      shows l none (inl shown) = (Some s, (l, inr (none, shown, refl)))
      shows l none (inr n) = (None, λ k p. neither (λ f. none k f.0) (λ r. n r.1) p.1)

      on : (l : LoopOf t s) (o : Option ℕ) → IsFirst (IsBrokenInFusion t s) o → (o ≡ None → OrNot (IsShownInFusion t s)) → Names (WhereFusionEscapes t s)
      on l (Some n) first shown = (Some n, (l, inl first))
      on l None first shown = shows l first (shown refl)

      by : LoopOf t s ⊎ (LoopOf t s → ⊥) → Names (WhereFusionEscapes t s)
      by (inl l) = let f = first_broken l in on l f.of f.first f.shown
      by (inr n) = (None, λ m p. n p.0)

  -- a test that the first DO passes, or the next one
  pub either_names : (test : Head → StmtTrees → Bool) → Names (WhereEither t s test)
  either_names test = by (loop_decided t s) (neighbour_decided t s)
    where
      next_not : (x : Neighbour t s) → test x.next x.next_body ≡ false → (n : ℕ) → WhereNext t s test n → ⊥
      next_not x e n p = both_ways (test x.next x.next_body) e (ap (λ (f : Found). test f.next f.next_body) (one_neighbour t s x p.0) ∙ p.1)

      on_next : ((n : ℕ) → WhereLoop t s test n → ⊥) → (x : Neighbour t s) → (test x.next x.next_body ≡ true) ⊎ (test x.next x.next_body ≡ false) → Names (WhereEither t s test)
      on_next none x (inl e) = (Some s, inr (x, e, refl))
      on_next none x (inr e) = (None, λ n p. neither (none n) (next_not x e n) p)

      behind : ((n : ℕ) → WhereLoop t s test n → ⊥) → OrNot (Neighbour t s) → Names (WhereEither t s test)
      behind none (inl x) = on_next none x (truth (test x.next x.next_body))
      behind none (inr unmet) = (None, λ n p. neither (none n) (λ q. unmet q.0) p)

      on : (l : LoopOf t s) → (test l.head l.body ≡ true) ⊎ (test l.head l.body ≡ false) → OrNot (Neighbour t s) → Names (WhereEither t s test)
      on l (inl e) x = (Some s, inl (l, e, refl))
      on l (inr e) x = behind (fails_there t s l.head l.body l.is test e) x

      by : LoopOf t s ⊎ (LoopOf t s → ⊥) → OrNot (Neighbour t s) → Names (WhereEither t s test)
      by (inl l) x = on l (truth (test l.head l.body)) x
      by (inr n) x = behind (λ k p. n p.0) x

  -- rule 10
  pub alone_names : Names (WhereNoMatch t s)
  alone_names = by (loop_decided t s) (match_decided t s)
    where
      by : LoopOf t s ⊎ (LoopOf t s → ⊥) → OrNot (Match t s) → Names (WhereNoMatch t s)
      by (inl l) (inl m) = (None, λ n p. p.1 m)
      by (inl l) (inr unmet) = (Some s, (l, unmet, refl))
      by (inr n) d = (None, λ k p. n p.0)

  -- rule 15
  pub limit_names : Names (WhereFusedLimit t s)
  limit_names = by (loop_decided t s) (match_decided t s)
    where
      on : (l : LoopOf t s) (m : Match t s) → IsValid (fused m.neighbour) ⊎ (IsValid (fused m.neighbour) → ⊥) → Names (WhereFusedLimit t s)
      on l m (inl valid) = (None, λ n p. p.1.1 (fused m.neighbour) (kept_without (next_number m.neighbour) t) (m, refl, refl) valid)
      on l m (inr invalid) = (Some s, (m, limit_stands (MakesFused s) t s l (one_made s t) (fused m.neighbour) (kept_without (next_number m.neighbour) t) (m, refl, refl) invalid))

      by : LoopOf t s ⊎ (LoopOf t s → ⊥) → OrNot (Match t s) → Names (WhereFusedLimit t s)
      by (inl l) (inl m) = on l m (valid_decided (fused m.neighbour))
      by (inl l) (inr unmet) = (None, λ n p. unmet p.0)
      by (inr n) d = (None, λ k p. n p.1.0)
