-- Whether a scalar is live after a DO is settled: its summaries, which are computed statement by statement, say what all paths from the exit do.
use Rattle.std.proofs.Common.{◌⊎◌, ◌↔◌, ℕ, refl, inl, inr, Bool, true, false, ◌||◌, IsTrue, List, Option, Some, None}
use Rattle.std.specs.List.{flat_map}
use Rattle.ped_base.specs.Lists.{is_among}
use Rattle.ped_tree.specs.Tree.{ProgramTree}
use Rattle.ped_tree.specs.Accesses.{constant_names}
use Rattle.ped_tree.specs.NamesIn.{saved_in}
use Rattle.ped_rules.specs.ped_flow.specs.Paths.{paths_from_exit}
use Rattle.ped_rules.specs.ped_flow.specs.Questions.{IsFirst, IsReadBehind, IsShownBehind, IsLiveAfter}
use Rattle.ped_rules.specs.ped_flow.specs.Summaries.{AreSummed, summary_behind_all}
use Rattle.ped_rules.specs.ped_flow.proofs.TreeSummaries.{all_behind-summed}
use Rattle.ped_rules.specs.ped_flow.proofs.Answering.{read_behind, Left, left_is}
use Rattle.ped_rules.specs.ped_loop_runs.proofs.TidyLaws.TidyPathsSums.{Summary}
use Rattle.ped_scalar.specs.Expanding.{SaysLive}
use Rattle.ped_scalar.proofs.FlowAnswers.{true_not_false}

truth_decided : (b : Bool) → IsTrue b ⊎ (IsTrue b → ⊥)
truth_decided true = inl refl
truth_decided false = inr (λ h. true_not_false false h refl)

module _ (t : ProgramTree) (s : ℕ) (x : List ℕ) where
  abbrev pub behind : Summary
  behind = summary_behind_all (constant_names t.decls) x s t.body 1

  pub behind_summed : AreSummed (paths_from_exit t s) x behind
  behind_summed = all_behind-summed (constant_names t.decls) x s t.body 1

  -- the first statement that may read what the scalar holds at the exit, or none
  pub behind_first : (a : Option ℕ) × IsFirst (IsReadBehind t s x) a
  behind_first = (behind.first, read_behind t s x behind.first behind_summed.first)

  -- the program's end may show the scalar, or it can't
  pub shown_decided : IsShownBehind t s x ⊎ (IsShownBehind t s x → ⊥)
  shown_decided = by (truth_decided (is_among x (flat_map saved_in t.decls))) (truth_decided (behind.keeps || behind.ends))
    where
      left : IsTrue (behind.keeps || behind.ends) ↔ Left t s x
      left = left_is t s x behind behind_summed

      shown : IsTrue (is_among x (flat_map saved_in t.decls)) → Left t s x → IsShownBehind t s x
      shown saved p = record { saved = saved; path = p.0; leads = p.1; kept = p.2 }

      by : IsTrue (is_among x (flat_map saved_in t.decls)) ⊎ (IsTrue (is_among x (flat_map saved_in t.decls)) → ⊥) → IsTrue (behind.keeps || behind.ends) ⊎ (IsTrue (behind.keeps || behind.ends) → ⊥) → IsShownBehind t s x ⊎ (IsShownBehind t s x → ⊥)
      by (inr n) d = inr (λ u. n u.saved)
      by (inl saved) (inl kept) = inl (shown saved (left.0 kept))
      by (inl saved) (inr n) = inr (λ u. n (left.1 (u.path, u.leads, u.kept)))

  -- whether the scalar is live after the DO
  pub live_said : (live : Bool) × SaysLive t s x live
  live_said = by behind_first shown_decided
    where
      by : (a : Option ℕ) × IsFirst (IsReadBehind t s x) a → IsShownBehind t s x ⊎ (IsShownBehind t s x → ⊥) → (live : Bool) × SaysLive t s x live
      by (Some n, f) d = (true, (λ e. inl (n, f.0), λ l. refl))
      by (None, f) (inl u) = (true, (λ e. inr u, λ l. refl))
      by (None, f) (inr hidden) = (false, (λ e. absurd (true_not_false false e refl), λ l. absurd (none l)))
        where
          none : IsLiveAfter t s x → ⊥
          none (inl r) = f r.0 r.1
          none (inr u) = hidden u
