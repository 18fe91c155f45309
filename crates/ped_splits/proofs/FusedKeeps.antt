-- The program in which two DO loops have become one means the same: on data on which it is true what its C$PED REJECT lines say of the one DO, and so on all data where there are none.
use Rattle.std.proofs.Common.{◌≡◌, ◌⊎◌, inl, inr, ℕ, List, Bool, true, false, true≢false, refl, sym, ap, subst, ◌∙◌}
use Rattle.std.specs.Prelude.{if◌then◌else◌}
use Rattle.ped_base.proofs.NameEquality.{same_itself, same_is}
use Rattle.ped_base.specs.Lists.{is_same_text, is_among}
use Rattle.ped_tree.specs.Tree.{Var, StmtTree, StmtTrees, Do, more_stmts, ProgramTree}
use Rattle.ped_tree.specs.NamesIn.{stmts_names}
use Rattle.ped_rules.specs.ped_loop_runs.proofs.PastingLaws.KeptMeaning.{keeps_always}
use Rattle.ped_rules.specs.ped_loop_runs.specs.Meaning.{KeepsOn}
use Rattle.ped_rules.specs.ped_loop_runs.specs.Unrejected.{some_rejection}
use Rattle.ped_rules.specs.ped_steps.specs.Replacing.{followed, alone}
use Rattle.ped_rules.specs.ped_steps.specs.Runs.Gaps.{filled}
use Rattle.ped_rules.specs.ped_steps.specs.Runs.Meaning.{Keeps}
use Rattle.ped_rules.specs.ped_laws.proofs.ConflictLaws.CoveringRuns.{MakingLaw}
use Rattle.ped_rules.specs.ped_laws.specs.Runs.Showing.{shown_at_end}
use Rattle.ped_rules.specs.ped_eval.specs.Outcomes.{IsRaceFree, run_of}
use Rattle.ped_symbolic.specs.Substitution.{statements_substituted}
use Rattle.ped_splits.proofs.CoverCrossing.{none_crosses, unrejected_fused}
use Rattle.ped_splits.proofs.FuseFacts.{IsFusable}
use Rattle.ped_splits.proofs.JoinKeeps.{joined_keeps}
use Rattle.ped_splits.proofs.RenameActs.{referred}
use Rattle.ped_splits.proofs.RenameFacts.{renaming}
use Rattle.ped_splits.proofs.RenameKeeps.{renaming_alike, renaming_keeps}
use Rattle.ped_splits.proofs.RenameShown.{tidy_shown}
use Rattle.ped_splits.specs.Fusing.{IsTrueFused, Match}
use Rattle.ped_splits.specs.Neighbours.{Neighbour, fused}
use Rattle.ped_splits.specs.OneVariable.{renamed, renamed_next}

-- where both have one variable, the program between is the program itself
module _ (t : ProgramTree) (s : ℕ) (x : Neighbour t s) (same : x.own.variable ≡ x.next.variable) where
  told : is_same_text x.own.variable x.next.variable ≡ true
  told = ap (is_same_text x.own.variable) (sym same) ∙ same_itself x.own.variable

  next_same : renamed_next x ≡ Do x.next x.next_body
  next_same = λ i. Do (record x.next { variable = same i }) (if told i then x.next_body else statements_substituted x.next.variable (Var x.own.variable) x.next_body)

  pub renamed_same : renamed x ≡ t
  renamed_same =
      ap (λ (z : StmtTree). record { decls = t.decls; body = filled x.gap (more_stmts (Do x.own x.own_body) (followed x.between (alone z))) }) next_same
      ∙ ap (λ (b : StmtTrees). record { decls = t.decls; body = b }) (sym x.stands)

module _ (making : MakingLaw) (t : ProgramTree) (s : ℕ) (m : Match t s) (f : IsFusable t s m) (data_bytes : List ℕ) (holds : IsTrueFused s t data_bytes) (free : IsRaceFree t data_bytes) where
  absent_by : (m.neighbour.own.variable ≡ m.neighbour.next.variable → ⊥) → (m.neighbour.own.variable ≡ m.neighbour.next.variable) ⊎ (is_among m.neighbour.own.variable (stmts_names m.neighbour.next_body) ≡ false)
      → is_among m.neighbour.own.variable (stmts_names m.neighbour.next_body) ≡ false
  absent_by differ (inl same) = absurd (differ same)
  absent_by differ (inr absent) = absent

  -- the program between keeps the meaning, and by references it does the same
  pub record IsBetween : Type 0 where
    pub keeps : KeepsOn t (renamed m.neighbour) data_bytes
    pub alike : referred (run_of t data_bytes).acts ≡ referred (run_of (renamed m.neighbour) data_bytes).acts

  by : (b : Bool) → is_same_text m.neighbour.own.variable m.neighbour.next.variable ≡ b → IsBetween
  by true e =
      let same : t ≡ renamed m.neighbour = sym (renamed_same t s m.neighbour (same_is m.neighbour.own.variable m.neighbour.next.variable e)) in
      record {
        keeps = subst (λ (z : ProgramTree). KeepsOn t z data_bytes) same (record { same = refl; race_free = free });
        alike = ap (λ (z : ProgramTree). referred (run_of z data_bytes).acts) same;
      }
  by false e =
      let differ : m.neighbour.own.variable ≡ m.neighbour.next.variable → ⊥ = λ same. true≢false (sym (told t s m.neighbour same) ∙ e) in
      let r = renaming t s m f differ (absent_by differ m.alike.variable) in
      record {
        keeps = renaming_keeps making t s m.neighbour r (tidy_shown t f.tidy) data_bytes free;
        alike = renaming_alike making t s m.neighbour r (shown_at_end t) (tidy_shown t f.tidy) data_bytes free.0;
      }

  pub fused_keeps : KeepsOn t (fused m.neighbour) data_bytes
  fused_keeps =
      let between = by (is_same_text m.neighbour.own.variable m.neighbour.next.variable) refl in
      let joined = joined_keeps t s m f data_bytes (none_crosses t s m f data_bytes between.alike holds) between.keeps.race_free in
      record { same = joined.same ∙ between.keeps.same; race_free = joined.race_free }

-- so on all data, where the program has no C$PED REJECT
pub fused_always : MakingLaw → (t : ProgramTree) (s : ℕ) (m : Match t s) → IsFusable t s m → some_rejection t.body ≡ false → Keeps t (fused m.neighbour)
fused_always making t s m f plain = keeps_always t (fused m.neighbour) refl (λ data_bytes free. fused_keeps making t s m f data_bytes (unrejected_fused t s data_bytes plain) free)
