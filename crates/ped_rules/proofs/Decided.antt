-- Whether a statement is a DO and whether a program is valid is settled; so a step that no rule forbids makes a valid program.
use Rattle.std.proofs.Common.{◌≡◌, ◌⊎◌, ℕ, inl, inr, refl, sym, ap, ◌∙◌, subst, Bool, true, false, List, [], ◌∷◌, Option, Some, None}
use Rattle.ped_tree.specs.Tree.{StmtTree, Assign, If, Do, Print, Read, Stop, Comment, ProgramTree}
use Rattle.ped_tree.specs.Numbering.{statement_with}
use Rattle.ped_tree.specs.Grammar.Refusal.{Finding}
use Rattle.ped_tree.specs.Grammar.Fits.{fits}
use Rattle.ped_loop_runs.specs.ped_symbols.specs.NameRefusals.{name_refusals, IsValid}
use Rattle.ped_loop_runs.specs.ped_flow.specs.Questions.{LoopOf}
use Rattle.ped_rules.specs.Rules.{WhereNoLoop, WhereLimit}

-- it is a DO
abbrev is_loop : Option StmtTree → Bool
is_loop None = false
is_loop (Some (Assign left right)) = false
is_loop (Some (If condition then_part else_part)) = false
is_loop (Some (Do h body)) = true
is_loop (Some (Print items)) = false
is_loop (Some (Read items)) = false
is_loop (Some Stop) = false
is_loop (Some (Comment text)) = false

both_truths : (b : Bool) → b ≡ true → b ≡ false → ⊥
both_truths b p q = let f : true ≡ false = sym p ∙ q in absurd cc

module _ (t : ProgramTree) (s : ℕ) where
  no_loop : (o : Option StmtTree) → statement_with s t ≡ o → is_loop o ≡ false → LoopOf t s ⊎ (LoopOf t s → ⊥)
  no_loop o e f = inr (λ l. both_truths (is_loop o) (ap is_loop (sym e ∙ l.is)) f)

  loop_by : (o : Option StmtTree) → statement_with s t ≡ o → LoopOf t s ⊎ (LoopOf t s → ⊥)
  loop_by None e = no_loop None e refl
  loop_by (Some (Assign left right)) e = no_loop (Some (Assign left right)) e refl
  loop_by (Some (If condition then_part else_part)) e = no_loop (Some (If condition then_part else_part)) e refl
  loop_by (Some (Do h body)) e = inl (record { head = h; body = body; is = e })
  loop_by (Some (Print items)) e = no_loop (Some (Print items)) e refl
  loop_by (Some (Read items)) e = no_loop (Some (Read items)) e refl
  loop_by (Some Stop) e = no_loop (Some Stop) e refl
  loop_by (Some (Comment text)) e = no_loop (Some (Comment text)) e refl

  -- the statement with a number is a DO, or it isn't
  pub loop_decided : LoopOf t s ⊎ (LoopOf t s → ⊥)
  loop_decided = loop_by (statement_with s t) refl

  -- where rule 1 doesn't stand, it is one
  pub some_loop : ((n : ℕ) → WhereNoLoop t s n → ⊥) → LoopOf t s
  some_loop none = by loop_decided
    where
      by : LoopOf t s ⊎ (LoopOf t s → ⊥) → LoopOf t s
      by (inl l) = l
      by (inr n) = absurd (none s (n, refl))

nothing_decided : (fs : List Finding) → (fs ≡ []) ⊎ (fs ≡ [] → ⊥)
nothing_decided [] = inl refl
nothing_decided (f ∷ fs) = inr (λ e. absurd (cc))

-- a program is valid, or it isn't
pub valid_decided : (t : ProgramTree) → IsValid t ⊎ (IsValid t → ⊥)
valid_decided t = by (fits t) refl (nothing_decided (name_refusals [] t))
  where
    by : (b : Bool) → fits t ≡ b → (name_refusals [] t ≡ []) ⊎ (name_refusals [] t ≡ [] → ⊥) → IsValid t ⊎ (IsValid t → ⊥)
    by true f (inl e) = inl (record { fits = f; names = e })
    by true f (inr n) = inr (λ v. n v.names)
    by false f d = inr (λ v. both_truths (fits t) v.fits f)

module _ (Makes : ProgramTree → ProgramTree → List (ℕ × ℕ) → Type 0) (t : ProgramTree) (s : ℕ) where
  -- rule 15 stands where the one program that the step makes isn't valid
  pub limit_stands : LoopOf t s → ((new other : ProgramTree) (keep more : List (ℕ × ℕ)) → Makes t new keep → Makes t other more → (new ≡ other) × (keep ≡ more))
      → (new : ProgramTree) (keep : List (ℕ × ℕ)) → Makes t new keep → (IsValid new → ⊥) → WhereLimit Makes t s s
  limit_stands l one new keep makes invalid = (l, (λ other more made valid. invalid (subst IsValid (one other new more keep made makes).0 valid)), refl)

  -- it doesn't where that one is valid
  pub limit_not : (new : ProgramTree) (keep : List (ℕ × ℕ)) → Makes t new keep → IsValid new → (n : ℕ) → WhereLimit Makes t s n → ⊥
  limit_not new keep makes valid n h = h.1 new keep makes valid

  -- where it doesn't stand, that one is valid
  pub limit_valid : LoopOf t s → ((new other : ProgramTree) (keep more : List (ℕ × ℕ)) → Makes t new keep → Makes t other more → (new ≡ other) × (keep ≡ more))
      → ((n : ℕ) → WhereLimit Makes t s n → ⊥) → (new : ProgramTree) (keep : List (ℕ × ℕ)) → Makes t new keep → IsValid new
  limit_valid l one none new keep makes = by (valid_decided new)
    where
      by : IsValid new ⊎ (IsValid new → ⊥) → IsValid new
      by (inl v) = v
      by (inr n) = absurd (none s (limit_stands l one new keep makes n))
