-- What a flow answers of a DO's variables is what the rule IndexEscapes says.
use Rattle.std.proofs.Common.{◌⊎◌, ℕ, inl, inr, refl, Some, None}
use Rattle.ped_tree.specs.Tree.{ProgramTree}
use Rattle.ped_loop_runs.specs.ped_flow.specs.Questions.{IsFirst, IsReadBehind, IsReadLoose, IsContained, IsBrokenBy, IsShown}
use Rattle.ped_rules.specs.Rules.{WhereEscape}

module _ (t : ProgramTree) (s : ℕ) where
  pub by_statement : (n : ℕ) → IsFirst (IsBrokenBy t s) (Some n) → WhereEscape t s n
  by_statement n first = (first.0.index.loop, inl first)

  pub by_saved : IsFirst (IsBrokenBy t s) None × IsShown t s → WhereEscape t s s
  by_saved h = (h.1.index.loop, inr (h, refl))

  broken_not : (n : ℕ) → IsContained t s → IsBrokenBy t s n → ⊥
  broken_not n contained b = by b.read
    where
      by : IsReadLoose t s b.scalar n ⊎ IsReadBehind t s b.scalar n → ⊥
      by (inl loose) = (contained b.scalar b.index).0 n loose
      by (inr behind) = (contained b.scalar b.index).1 (inl (n, behind))

  pub by_nothing : IsContained t s → (n : ℕ) → WhereEscape t s n → ⊥
  by_nothing contained n (l, inl first) = broken_not n contained first.0
  by_nothing contained n (l, inr (h, e)) = (contained h.1.scalar h.1.index).1 (inr h.1.shown)
