-- The iteration that a choice picks isn't finished.
use Rattle.std.proofs.Common.{◌≡◌, ℕ, zero, suc, ◌%◌, Bool, true, false, Option, Some, None, refl, subst, ◌∙◌, if◌then◌else◌}
use Rattle.ped_interleavings.specs.Lefts.{Left, Lefts, no_lefts, more_lefts, is_finished, many, one_on, unfinished, or_else, pick}

abbrev pub IsOpenAt : ℕ → Lefts → Type 0
IsOpenAt j no_lefts = ⊥
IsOpenAt zero (more_lefts l ls) = is_finished l ≡ false
IsOpenAt (suc j) (more_lefts l ls) = IsOpenAt j ls

abbrev pub AllFinished : Lefts → Type 0
AllFinished no_lefts = Unit {0}
AllFinished (more_lefts l ls) = (is_finished l ≡ true) × AllFinished ls

some_is : (i j : ℕ) → ◌≡◌ {A = Option ℕ} (Some i) (Some j) → i ≡ j
some_is i j h = cc

one_some : (o : Option ℕ) (j : ℕ) → one_on o ≡ Some j → (m : ℕ) × (o ≡ Some m) × (suc m ≡ j)
one_some None j h = absurd cc
one_some (Some k) j h = (k, refl, some_is (suc k) j h)

one_none : (o : Option ℕ) → one_on o ≡ None → o ≡ None
one_none None h = refl
one_none (Some k) h = absurd cc

first_open : (l : Left) (ls : Lefts) (j : ℕ) (b : Bool) → is_finished l ≡ b → ((i : ℕ) → unfinished zero ls ≡ Some i → IsOpenAt i ls) → (if b then one_on (unfinished zero ls) else Some 0) ≡ Some j → IsOpenAt j (more_lefts l ls)
first_open l ls j true q more e = let o = one_some (unfinished zero ls) j e in subst (λ (i : ℕ). IsOpenAt i (more_lefts l ls)) o.2 (more o.0 o.1)
first_open l ls j false q more e = subst (λ (i : ℕ). IsOpenAt i (more_lefts l ls)) (some_is 0 j e) q

unfinished_open : (ls : Lefts) (k j : ℕ) → unfinished k ls ≡ Some j → IsOpenAt j ls
unfinished_open no_lefts k j h = absurd cc
unfinished_open (more_lefts l ls) zero j h = first_open l ls j (is_finished l) refl (λ i e. unfinished_open ls zero i e) h
unfinished_open (more_lefts l ls) (suc k) j h = let o = one_some (unfinished k ls) j h in subst (λ (i : ℕ). IsOpenAt i (more_lefts l ls)) o.2 (unfinished_open ls k o.0 o.1)

first_none : (l : Left) (ls : Lefts) (b : Bool) → is_finished l ≡ b → (unfinished zero ls ≡ None → AllFinished ls) → (if b then one_on (unfinished zero ls) else Some 0) ≡ None → AllFinished (more_lefts l ls)
first_none l ls true q more e = (q, more (one_none (unfinished zero ls) e))
first_none l ls false q more e = absurd cc

none_open : (ls : Lefts) → unfinished 0 ls ≡ None → AllFinished ls
none_open no_lefts h = tt
none_open (more_lefts l ls) h = first_none l ls (is_finished l) refl (λ e. none_open ls e) h

pub pick_open : (c : ℕ) (ls : Lefts) (j : ℕ) → pick c ls ≡ Some j → IsOpenAt j ls
pick_open c ls j h = go (unfinished (c % many ls) ls) refl h
  where
    go : (o : Option ℕ) → unfinished (c % many ls) ls ≡ o → or_else o (unfinished 0 ls) ≡ Some j → IsOpenAt j ls
    go None q e = unfinished_open ls 0 j e
    go (Some k) q e = unfinished_open ls (c % many ls) j (q ∙ e)

pub pick_none : (c : ℕ) (ls : Lefts) → pick c ls ≡ None → AllFinished ls
pick_none c ls h = go (unfinished (c % many ls) ls) h
  where
    go : (o : Option ℕ) → or_else o (unfinished 0 ls) ≡ None → AllFinished ls
    go None e = none_open ls e
    go (Some k) e = absurd cc
