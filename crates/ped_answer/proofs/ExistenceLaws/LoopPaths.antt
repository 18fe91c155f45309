-- What the paths of a program tell of a scalar and a DO is decided: their summaries, which are computed statement by
-- statement, say what all of the paths do.
use Rattle.std.proofs.Common.{ℕ, ◌+◌, refl, inl, inr, not, ◌&&◌, IsTrue, List, Option, Some, None, MatchOption}
use Rattle.ped_tree.specs.Tree.{ProgramTree}
use Rattle.ped_tree.specs.Accesses.{constant_names}
use Rattle.ped_session.specs.ped_flow.specs.Events.{start_events}
use Rattle.ped_session.specs.ped_flow.specs.Paths.{all_paths}
use Rattle.ped_session.specs.ped_flow.specs.Questions.{LoopOf, IsFirst, IsExposed, IsReadBehind, IsShownBehind, IsAssignedThrough}
use Rattle.ped_session.specs.ped_flow.specs.Summaries.{summary_in_turn, summary_events, summary_of_all}
use Rattle.ped_session.specs.ped_flow.proofs.TreeSummaries.{all_summed}
use Rattle.ped_session.specs.ped_flow.proofs.Answering.{exposed_in_loop, exposed_nowhere, first_in_iteration, assigned_by, through_loop}
use Rattle.ped_session.specs.ped_rules.specs.Scalars.{is_scalar, IsLiveBy}
use Rattle.ped_session.specs.ped_transformations.specs.ped_scalar.specs.Privatising.{IsScalarExposedOrLiveBy}
use Rattle.ped_session.specs.ped_transformations.specs.ped_scalar.specs.Expanding.{IsScalarLostBy}
use Rattle.ped_session.specs.ped_transformations.specs.ped_scalar.proofs.FlowAnswers.{live_answer}
use Rattle.ped_session.specs.ped_transformations.specs.ped_loop_runs.proofs.TidyLaws.TidyPathsSums.{Summary}
use Rattle.ped_session.specs.ped_transformations.specs.ped_scalar.proofs.LostAnswers.{kept_answer, lost_answer}
use Rattle.ped_session.specs.ped_transformations.specs.ped_scalar.proofs.LiveSaid.{behind_first, shown_decided}
use Rattle.ped_session.specs.ped_rules.proofs.Decided.{loop_decided}
use Rattle.ped_answer.specs.Existence.Deciding.{Decided}
use Rattle.ped_session.specs.ped_transformations.specs.ped_splits.proofs.Existence.Deciding.{decided_same, true_decided}

module _ (t : ProgramTree) (s : ℕ) (x : List ℕ) where
  -- the first statement with an exposed read, or none
  exposed_first : (a : Option ℕ) × IsFirst (IsExposed t s x) a
  exposed_first = by (loop_decided t s)
    where
      by : Decided (LoopOf t s) → (a : Option ℕ) × IsFirst (IsExposed t s x) a
      by (inr n) = (None, exposed_nowhere t s x (λ h body is. n (record { head = h; body = body; is = is })))
      by (inl l) =
          let cs = constant_names t.decls in
          let start : Summary = summary_events x (start_events s l.head l.body) in
          let inside : Summary = summary_of_all cs x l.body (s + 1) in
          ((summary_in_turn start inside).first, exposed_in_loop t s x l.head l.body (summary_in_turn start inside).first l.is (first_in_iteration cs x s l.head l.body start inside (summary_in_turn start inside) refl refl refl))

  -- by which statement the scalar is live behind the DO, if by any
  live_by : (r : Option ℕ) × MatchOption r ((n : ℕ) → IsLiveBy t s x n → ⊥) (IsLiveBy t s x)
  live_by = by (behind_first t s x) (shown_decided t s x)
    where
      by : (a : Option ℕ) × IsFirst (IsReadBehind t s x) a → Decided (IsShownBehind t s x) → (r : Option ℕ) × MatchOption r ((n : ℕ) → IsLiveBy t s x n → ⊥) (IsLiveBy t s x)
      by (Some n, f) d = (Some n, inl f)
      by (None, f) (inl u) = (Some s, inr (f, u, refl))
      by (None, f) (inr hidden) = (None, none)
        where
          none : (n : ℕ) → IsLiveBy t s x n → ⊥
          none n (inl p) = f n p.0
          none n (inr p) = hidden p.1

  -- the scalar is assigned on each path through the body, or not on some
  assigned_decided : Decided (IsAssignedThrough t s x)
  assigned_decided = by (loop_decided t s)
    where
      by : Decided (LoopOf t s) → Decided (IsAssignedThrough t s x)
      by (inr n) = inl (λ l. absurd (n l))
      by (inl l) =
          let cs = constant_names t.decls in
          let m : Summary = summary_of_all cs x l.body (s + 1) in
          let is = through_loop t s x l.head l.body (not m.keeps && not m.loses) l.is (assigned_by (all_paths cs l.body (s + 1)).onward x m m (not m.keeps && not m.loses) (all_summed cs x l.body (s + 1)).onward refl refl) in
          decided_same is.0 is.1 (true_decided (not m.keeps && not m.loses))

  -- by which statement a scalar is exposed or live, if by any
  pub exposed_or_live : (r : Option ℕ) × MatchOption r ((n : ℕ) → IsScalarExposedOrLiveBy t s x n → ⊥) (IsScalarExposedOrLiveBy t s x)
  exposed_or_live = by (true_decided (is_scalar t x)) exposed_first live_by
    where
      by : Decided (IsTrue (is_scalar t x)) → (a : Option ℕ) × IsFirst (IsExposed t s x) a → (r : Option ℕ) × MatchOption r ((n : ℕ) → IsLiveBy t s x n → ⊥) (IsLiveBy t s x)
          → (r : Option ℕ) × MatchOption r ((n : ℕ) → IsScalarExposedOrLiveBy t s x n → ⊥) (IsScalarExposedOrLiveBy t s x)
      by (inr n) e l = (None, λ m p. n p.0)
      by (inl scalar) (Some n, f) l = (Some n, (scalar, inl f))
      by (inl scalar) (None, f) (r, live) = (r, live_answer t s x r scalar f live)

  -- by which statement a scalar would be lost, if by any
  pub lost : (r : Option ℕ) × MatchOption r ((n : ℕ) → IsScalarLostBy t s x n → ⊥) (IsScalarLostBy t s x)
  lost = by (true_decided (is_scalar t x)) exposed_first assigned_decided live_by
    where
      by : Decided (IsTrue (is_scalar t x)) → (a : Option ℕ) × IsFirst (IsExposed t s x) a → Decided (IsAssignedThrough t s x) → (r : Option ℕ) × MatchOption r ((n : ℕ) → IsLiveBy t s x n → ⊥) (IsLiveBy t s x)
          → (r : Option ℕ) × MatchOption r ((n : ℕ) → IsScalarLostBy t s x n → ⊥) (IsScalarLostBy t s x)
      by (inr n) e a l = (None, λ m p. n p.0)
      by (inl scalar) (Some n, f) a l = (Some n, (scalar, inl f))
      by (inl scalar) (None, f) (inl assigned) l = (None, kept_answer t s x f assigned)
      by (inl scalar) (None, f) (inr not_assigned) (r, live) = (r, lost_answer t s x r scalar f not_assigned live)
